-- What a text spells, from the piece at the front of what is left of it.
use Rattle.std.proofs.Common.{◌≡◌, ◌⊎◌, ℕ, zero, suc, ◌+◌, ◌-◌, ◌<◌, ◌≤◌, ◌==◌, List, [], ◌∷◌, ◌++◌, length, take, drop, Option, Some, None, refl, sym, ◌∙◌, ap, subst, arith, append_assoc, append-nil, length-append, take-append-drop, length-take-le, take_at, drop_at, inl, inr}
use Rattle.std.specs.Prelude.{slice_range, count_by, cond}
use Rattle.std.proofs.lemmas.List.{append_cancel_left}
use Rattle.std.proofs.lemmas.List.Sums.{sum_by-append}
use Rattle.vt_tokens.specs.Lexicon.{Stands}
use Rattle.vt_tokens.specs.Spelling.{Piece, IsCutInto, joined, token_after, tokens_after, line_after, Spells, IsBadAt}
use Rattle.vt_tokens.specs.Spans.{AreSlices}
use Rattle.vt_tokens.specs.Inside.Scan.{cut, piece_of}
use Rattle.vt_tokens.specs.Inside.Scanned.{StandsFirst, NothingFirst, token_placed, Scanned}
use Rattle.vt_tokens.specs.declared.token.TokenKind.{TokenKind}
use Rattle.vt_tokens.specs.declared.token.TokenKind.TheVariants.{Word, Blank, Number, Quoted, Mark}
use Rattle.vt_tokens.specs.declared.token.Token.{Token}
use Rattle.vt_tokens.specs.declared.piece.Cut.{Cut}
use Rattle.vt_tokens.proofs.FrontLemmas.{Found, Sound}
use Rattle.vt_tokens.proofs.CutLemmas.{cut_sound, cut_exact}

-- a piece has a byte
some_bytes : (kind : Option TokenKind) (bytes rest : List ℕ) → Stands kind bytes rest → 0 < length bytes
some_bytes kind (b ∷ bytes) rest s = omega arith
some_bytes (Some Word) [] rest s = absurd s.0
some_bytes (Some Blank) [] rest s = absurd (cc)
some_bytes (Some Number) [] rest s = absurd (s.0.0 refl)
some_bytes (Some Quoted) [] rest s = absurd (cc (s.quotes))
some_bytes (Some Mark) [] rest s = absurd s.0
some_bytes None [] rest (inl (inl e)) = absurd (cc)
some_bytes None [] rest (inl (inr (inl e))) = absurd (cc)
some_bytes None [] rest (inl (inr (inr (inl e)))) = absurd (cc)
some_bytes None [] rest (inl (inr (inr (inr e)))) = absurd (cc)
some_bytes None [] rest (inr (inl c)) = absurd (cc (c.0.opened))
some_bytes None [] rest (inr (inr c)) = absurd (cc (c.closed))

first_from_found : (text : List ℕ) (c : Cut) → Found text c → StandsFirst text c
first_from_found text c f =
    let front : take c.len text ≡ f.front = ap (take c.len) f.whole ∙ take_at f.front f.back c.len f.long in
    let back : drop c.len text ≡ f.back = ap (drop c.len) f.whole ∙ drop_at f.front f.back c.len f.long in
    record {
      some = omega (arith, f.long, some_bytes c.kind f.front f.back f.stands);
      in_range = omega (arith, f.long, ap length f.whole, length-append f.front f.back);
      stands = rw front (rw back f.stands);
    }

pub stands_first : (text : List ℕ) (c : Cut) → cut text ≡ Some c → StandsFirst text c
stands_first text c h = first_from_found text c (subst (Sound text) h (cut_sound text))

pub nothing_first : (text : List ℕ) → cut text ≡ None → NothingFirst text
nothing_first text h kind bytes after whole s = cc (ap cut whole, cut_exact kind bytes after s)

-- One more piece.

cut_more : (text : List ℕ) (pieces : List Piece) (rest : List ℕ) (p : Piece) (after : List ℕ) → IsCutInto text pieces rest → rest ≡ p.bytes ++ after → Stands p.kind p.bytes after → IsCutInto text (pieces ++ p ∷ []) after
cut_more text [] rest p after h e s = (after, h ∙ e, s, refl)
cut_more text (q ∷ pieces) rest p after h e s = (h.0, h.1, h.2, cut_more h.0 pieces rest p after h.3 e s)

joined_more : (pieces : List Piece) (p : Piece) → joined (pieces ++ p ∷ []) ≡ joined pieces ++ p.bytes
joined_more [] p = append-nil p.bytes
joined_more (q ∷ pieces) p = ap (λ l. q.bytes ++ l) (joined_more pieces p) ∙ sym (append_assoc q.bytes (joined pieces) p.bytes)

tokens_more : (before : List ℕ) (pieces : List Piece) (p : Piece) → tokens_after before (pieces ++ p ∷ []) ≡ tokens_after before pieces ++ token_after (before ++ joined pieces) p.kind p.bytes
tokens_more before [] p = append-nil (token_after before p.kind p.bytes) ∙ ap (λ l. token_after l p.kind p.bytes) (sym (append-nil before))
tokens_more before (q ∷ pieces) p =
    let first = token_after before q.kind q.bytes in
    let more = tokens_after (before ++ q.bytes) pieces in
    ap (λ l. first ++ l) (tokens_more (before ++ q.bytes) pieces p ∙ ap (λ l. more ++ token_after l p.kind p.bytes) (append_assoc before q.bytes (joined pieces)))
    ∙ sym (append_assoc first more (token_after (before ++ (q.bytes ++ joined pieces)) p.kind p.bytes))

token_is : (before : List ℕ) (kind : Option TokenKind) (bytes : List ℕ) (at n line : ℕ) → at ≡ length before → n ≡ length bytes → line ≡ line_after before → token_placed kind at (at + n) line ≡ token_after before kind bytes
token_is before None bytes at n line h k l = refl
token_is before (Some kind) bytes at n line h k l = cc

line_more : (a b : List ℕ) → line_after (a ++ b) ≡ line_after a + count_by (λ b. b == 10) b
line_more a b = omega (arith, sum_by-append (λ b. cond (b == 10) 1 0) a b)

pub scanned_more : (text : List ℕ) (tokens new : List Token) (rest bytes after : List ℕ) (at line more : ℕ) (c : Cut)
    → Scanned text tokens rest at line → StandsFirst rest c → bytes ≡ take c.len rest → after ≡ drop c.len rest
    → new ≡ tokens ++ token_placed c.kind at (at + c.len) line → more ≡ count_by (λ b. b == 10) bytes → more ≤ length bytes
    → Scanned text new after (at + c.len) (line + more)
scanned_more text tokens new rest bytes after at line more c s f front back added lines few =
    let p : Piece = record { kind = c.kind; bytes = bytes } in
    let whole : rest ≡ bytes ++ after = sym (take-append-drop c.len rest) ∙ cc in
    let long : length bytes ≡ c.len = ap length front ∙ length-take-le c.len rest f.in_range in
    let stands : Stands c.kind bytes after = rw front (rw back f.stands) in
    let all = joined_more s.pieces p in
    record {
      pieces = s.pieces ++ p ∷ [];
      cut = cut_more text s.pieces rest p after s.cut whole stands;
      are = added ∙ ap (λ l. l ++ token_placed c.kind at (at + c.len) line) s.are ∙ ap (λ l. tokens_after [] s.pieces ++ l) (token_is (joined s.pieces) c.kind bytes at c.len line s.counted (sym long) s.on) ∙ sym (tokens_more [] s.pieces p);
      counted = omega (arith, s.counted, long, ap length all, length-append (joined s.pieces) bytes);
      on = rw all (omega (arith, s.on, lines, line_more (joined s.pieces) bytes));
      whole = omega (arith, s.whole, ap length whole, length-append bytes after, long);
      few_lines = omega (arith, s.few_lines, few, long);
    }

-- A text is cut in one way.

some_same : (c d : Cut) → Some c ≡ Some d → c ≡ d
some_same c d h = cc

piece_same : (p q : Piece) → p.kind ≡ q.kind → p.bytes ≡ q.bytes → p ≡ q
piece_same p q h k = λ i. record { kind = h i; bytes = k i }

first_same : (k l : Option TokenKind) (p q a b : List ℕ) → Stands k p a → Stands l q b → p ++ a ≡ q ++ b → (k ≡ l) × (p ≡ q) × (a ≡ b)
first_same k l p q a b s t e =
    let same : piece_of k (length p) ≡ piece_of l (length q) = sym (cut_exact k p a s) ∙ ap cut e ∙ cut_exact l q b t in
    let cuts : record { kind = k; len = length p } ≡ record { kind = l; len = length q } = some_same _ _ same in
    let long : length p ≡ length q = ap (λ (c : Cut). c.len) cuts in
    let front : p ≡ q = sym (take_at p a (length p) refl) ∙ ap (take (length p)) e ∙ take_at q b (length p) (sym long) in
    (ap (λ (c : Cut). c.kind) cuts, front, append_cancel_left p a b (e ∙ ap (λ l. l ++ b) (sym front)))

same_pieces : (text : List ℕ) (ps qs : List Piece) (r s : List ℕ) → IsCutInto text ps r → IsCutInto text qs s → NothingFirst r → NothingFirst s → (ps ≡ qs) × (r ≡ s)
same_pieces text [] [] r s h k n m = (refl, sym h ∙ k)
same_pieces text [] (q ∷ qs) r s h k n m = absurd (n q.kind q.bytes k.0 (sym h ∙ k.1) k.2)
same_pieces text (p ∷ ps) [] r s h k n m = absurd (m p.kind p.bytes h.0 (sym k ∙ h.1) h.2)
same_pieces text (p ∷ ps) (q ∷ qs) r s h k n m =
    let same = first_same p.kind q.kind p.bytes q.bytes h.0 k.0 h.2 k.2 (sym h.1 ∙ k.1) in
    let more = same_pieces h.0 ps qs r s h.3 (subst (λ l. IsCutInto l qs s) (sym same.2) k.3) n m in
    (cc (piece_same p q same.0 same.1, more.0), more.1)

nothing_of_nothing : NothingFirst []
nothing_of_nothing kind bytes after e s = absurd (omega (arith, some_bytes kind bytes after s, ap length e, length-append bytes after))

pub one_list : (text : List ℕ) (ts us : List Token) → Spells text ts → Spells text us → ts ≡ us
one_list text ts us h k =
    let same = same_pieces text h.pieces k.pieces [] [] h.cut k.cut nothing_of_nothing nothing_of_nothing in
    h.are ∙ ap (tokens_after []) same.0 ∙ sym k.are

pub one_line : (text : List ℕ) (l m : ℕ) → IsBadAt text l → IsBadAt text m → l ≡ m
one_line text l m h k =
    let same = same_pieces text h.pieces k.pieces h.rest k.rest h.cut k.cut h.none k.none in
    h.on ∙ ap (λ ps. line_after (joined ps)) same.0 ∙ sym k.on

pub never_both : (text : List ℕ) (ts : List Token) (l : ℕ) → Spells text ts → IsBadAt text l → ⊥
never_both text ts l h k =
    let same = same_pieces text h.pieces k.pieces [] k.rest h.cut k.cut nothing_of_nothing k.none in
    k.left (sym same.1)

-- And it is cut to some end.

record End (text : List ℕ) : Type 0 where
  pub pieces : List Piece
  pub rest : List ℕ
  pub cut : IsCutInto text pieces rest
  pub last : NothingFirst rest

end_from : (n : ℕ) (text : List ℕ) → length text ≤ n → End text
end_from n [] h = record { pieces = []; rest = []; cut = refl; last = nothing_of_nothing }
end_from zero (b ∷ text) h = absurd (omega arith)
end_from (suc n) (b ∷ text) h =
    elim (cut (b ∷ text)) as (λ o. cut (b ∷ text) ≡ o → Sound (b ∷ text) o → End (b ∷ text)) [
      | None ↦ λ e _. record { pieces = []; rest = b ∷ text; cut = refl; last = nothing_first (b ∷ text) e }
      | Some c ↦ λ e f.
          let few : length f.back ≤ n = omega (arith, h, ap length f.whole, length-append f.front f.back, some_bytes c.kind f.front f.back f.stands) in
          let more = end_from n f.back few in
          record { pieces = record { kind = c.kind; bytes = f.front } ∷ more.pieces; rest = more.rest; cut = (f.back, f.whole, f.stands, more.cut); last = more.last }
    ] refl (cut_sound (b ∷ text))

end_is : (text : List ℕ) (pieces : List Piece) (rest : List ℕ) → IsCutInto text pieces rest → NothingFirst rest → ((ts : List Token) × Spells text ts) ⊎ ((line : ℕ) × IsBadAt text line)
end_is text pieces [] h last = inl (tokens_after [] pieces, record { pieces = pieces; cut = h; are = refl })
end_is text pieces (b ∷ rest) h last = inr (line_after (joined pieces), record { pieces = pieces; rest = b ∷ rest; cut = h; left = λ e. cc; none = last; on = refl })

pub some_end : (text : List ℕ) → ((ts : List Token) × Spells text ts) ⊎ ((line : ℕ) × IsBadAt text line)
some_end text = let e = end_from (length text) text (omega arith) in end_is text e.pieces e.rest e.cut e.last

-- The tokens are slices of the text.

with_piece : (text before : List ℕ) (kind : Option TokenKind) (bytes after : List ℕ) (tokens : List Token) (from : ℕ)
    → text ≡ before ++ (bytes ++ after) → Stands kind bytes after → from ≤ length before
    → ((n : ℕ) → n ≤ length (before ++ bytes) → AreSlices text n tokens) → AreSlices text from (token_after before kind bytes ++ tokens)
with_piece text before None bytes after tokens from e s h go = go from (omega (arith, length-append before bytes))
with_piece text before (Some kind) bytes after tokens from e s h go =
    let long : length before + length bytes - length before ≡ length bytes = omega arith in
    let behind : drop (length before) text ≡ bytes ++ after = ap (drop (length before)) e ∙ drop_at before (bytes ++ after) (length before) refl in
    let slice : slice_range text (length before) (length before + length bytes) ≡ bytes = ap (λ n. take n (drop (length before) text)) long ∙ ap (take (length bytes)) behind ∙ take_at bytes after (length bytes) refl in
    let rest : drop (length before + length bytes) text ≡ after = ap (drop (length before + length bytes)) (e ∙ sym (append_assoc before bytes after)) ∙ drop_at (before ++ bytes) after _ (length-append before bytes) in
    let front : take (length before) text ≡ before = ap (take (length before)) e ∙ take_at before (bytes ++ after) (length before) refl in (
      record {
        after = h;
        some = omega (arith, some_bytes (Some kind) bytes after s);
        within = omega (arith, ap length e, length-append before (bytes ++ after), length-append bytes after);
        stands = subst (λ l. Stands (Some kind) l (drop (length before + length bytes) text)) (sym slice) (subst (λ l. Stands (Some kind) bytes l) (sym rest) s);
        on = ap line_after (sym front);
      },
      go (length before + length bytes) (omega (arith, length-append before bytes)),
    )

slices : (text before rest : List ℕ) (pieces : List Piece) (from : ℕ) → text ≡ before ++ rest → IsCutInto rest pieces [] → from ≤ length before → AreSlices text from (tokens_after before pieces)
slices text before rest [] from e cut h = tt
slices text before rest (p ∷ pieces) from e cut h =
    let whole : text ≡ before ++ (p.bytes ++ cut.0) = e ∙ ap (λ l. before ++ l) cut.1 in
    with_piece text before p.kind p.bytes cut.0 (tokens_after (before ++ p.bytes) pieces) from whole cut.2 h
    (λ n few. slices text (before ++ p.bytes) cut.0 pieces n (whole ∙ sym (append_assoc before p.bytes cut.0)) cut.3 few)

pub are_slices : (text : List ℕ) (tokens : List Token) → Spells text tokens → AreSlices text 0 tokens
are_slices text tokens s = subst (AreSlices text 0) (sym s.are) (slices text [] text s.pieces 0 refl s.cut (omega arith))
