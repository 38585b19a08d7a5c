-- Laws of what is spelled and of its parts.
use Rattle.std.proofs.Common.{ℕ, zero, suc, ◌≡◌, ◌<◌, ◌⊎◌, inl, inr, Bool, true, false, not, ◌&&◌, List, [], ◌∷◌, ◌++◌, length, get_or, Some, None, refl, sym, ◌∙◌, ap, subst, arith, append_assoc, if◌then◌else◌}
use Rattle.std.specs.List.{list_all}
use Rattle.vt_grammar.specs.declared.lexeme.Lexeme.{Lexeme}
use Rattle.vt_grammar.specs.declared.symbol.Symbol.{Symbol}
use Rattle.vt_grammar.specs.declared.symbol.Symbol.TheVariants as symbol
use Rattle.vt_grammar.specs.contracts.symbol.Symbol.{the_type}
use denote.Enum.Bare.{same_true, true_same}
use Rattle.vt_grammar.specs.Symbols.{same, closes, closer, all_symbols}
use Rattle.vt_grammar.specs.Grammar.{Grammar, nothing, token, seq, alt, star, made, balanced, Spells, SpellsAll, IsPart, still_open, step, close_one, open_one}
use Rattle.vt_grammar.specs.Reading.{is_empty, also, first, apart}
use Rattle.vt_facts.proofs.BoolLemmas.{or_left, or_right, and_left, and_right}

-- symbols that pass the test are one
pub is_same : (a b : Symbol) → same a b ≡ true → a ≡ b
is_same a b h = same_true the_type tt a b h

-- one symbol passes the test
pub same_is : (a b : Symbol) → a ≡ b → same a b ≡ true
same_is a b h = true_same the_type a b h

-- the first counts always
pub also_left : (e x y : Bool) → x ≡ true → also e x y ≡ true
also_left true x y h = or_left x y h
also_left false x y h = h

-- the second counts where it is to
pub also_right : (e x y : Bool) → e ≡ true → y ≡ true → also e x y ≡ true
also_right true x y e h = or_right x y h
also_right false x y e h = cc

-- both are true
pub both : (a b : Bool) → a ≡ true → b ≡ true → (a && b) ≡ true
both true b h k = k
both false b h k = cc

-- what holds of each item of a list holds of the one at a place
pub all_get : (P : Symbol → Bool) (xs : List Symbol) → list_all P xs ≡ true → (i : ℕ) → i < length xs → P (get_or xs i symbol.Identifier) ≡ true
all_get P [] h i b = absurd (omega arith)
all_get P (x ∷ xs) h zero b = and_left _ _ h
all_get P (x ∷ xs) h (suc i) b = all_get P xs (and_right _ _ h) i (omega arith)

-- what holds of each symbol of the list of all holds of each symbol
pub all_at : (P : Symbol → Bool) → list_all P all_symbols ≡ true → (s : Symbol) → P s ≡ true
all_at P h symbol.Identifier = all_get P all_symbols h 0 (omega arith)
all_at P h symbol.Blank = all_get P all_symbols h 1 (omega arith)
all_at P h symbol.Number = all_get P all_symbols h 2 (omega arith)
all_at P h symbol.Quoted = all_get P all_symbols h 3 (omega arith)
all_at P h symbol.Package = all_get P all_symbols h 4 (omega arith)
all_at P h symbol.Import = all_get P all_symbols h 5 (omega arith)
all_at P h symbol.Pattern = all_get P all_symbols h 6 (omega arith)
all_at P h symbol.Private = all_get P all_symbols h 7 (omega arith)
all_at P h symbol.Or = all_get P all_symbols h 8 (omega arith)
all_at P h symbol.Find = all_get P all_symbols h 9 (omega arith)
all_at P h symbol.Neg = all_get P all_symbols h 10 (omega arith)
all_at P h symbol.Check = all_get P all_symbols h 11 (omega arith)
all_at P h symbol.Eval = all_get P all_symbols h 12 (omega arith)
all_at P h symbol.Sum = all_get P all_symbols h 13 (omega arith)
all_at P h symbol.Min = all_get P all_symbols h 14 (omega arith)
all_at P h symbol.Max = all_get P all_symbols h 15 (omega arith)
all_at P h symbol.Avg = all_get P all_symbols h 16 (omega arith)
all_at P h symbol.Count = all_get P all_symbols h 17 (omega arith)
all_at P h symbol.Java = all_get P all_symbols h 18 (omega arith)
all_at P h symbol.True = all_get P all_symbols h 19 (omega arith)
all_at P h symbol.False = all_get P all_symbols h 20 (omega arith)
all_at P h symbol.LeftParen = all_get P all_symbols h 21 (omega arith)
all_at P h symbol.RightParen = all_get P all_symbols h 22 (omega arith)
all_at P h symbol.LeftBrace = all_get P all_symbols h 23 (omega arith)
all_at P h symbol.RightBrace = all_get P all_symbols h 24 (omega arith)
all_at P h symbol.LeftBracket = all_get P all_symbols h 25 (omega arith)
all_at P h symbol.RightBracket = all_get P all_symbols h 26 (omega arith)
all_at P h symbol.Comma = all_get P all_symbols h 27 (omega arith)
all_at P h symbol.Semicolon = all_get P all_symbols h 28 (omega arith)
all_at P h symbol.Colon = all_get P all_symbols h 29 (omega arith)
all_at P h symbol.DoubleColon = all_get P all_symbols h 30 (omega arith)
all_at P h symbol.Dot = all_get P all_symbols h 31 (omega arith)
all_at P h symbol.Hash = all_get P all_symbols h 32 (omega arith)
all_at P h symbol.At = all_get P all_symbols h 33 (omega arith)
all_at P h symbol.Assign = all_get P all_symbols h 34 (omega arith)
all_at P h symbol.Equal = all_get P all_symbols h 35 (omega arith)
all_at P h symbol.Differ = all_get P all_symbols h 36 (omega arith)
all_at P h symbol.Less = all_get P all_symbols h 37 (omega arith)
all_at P h symbol.AtMost = all_get P all_symbols h 38 (omega arith)
all_at P h symbol.Greater = all_get P all_symbols h 39 (omega arith)
all_at P h symbol.AtLeast = all_get P all_symbols h 40 (omega arith)
all_at P h symbol.Plus = all_get P all_symbols h 41 (omega arith)
all_at P h symbol.Minus = all_get P all_symbols h 42 (omega arith)
all_at P h symbol.Times = all_get P all_symbols h 43 (omega arith)
all_at P h symbol.Divided = all_get P all_symbols h 44 (omega arith)
all_at P h symbol.Remainder = all_get P all_symbols h 45 (omega arith)
all_at P h symbol.Not = all_get P all_symbols h 46 (omega arith)
all_at P h symbol.Ampersand = all_get P all_symbols h 47 (omega arith)
all_at P h symbol.And = all_get P all_symbols h 48 (omega arith)
all_at P h symbol.Bar = all_get P all_symbols h 49 (omega arith)
all_at P h symbol.OrElse = all_get P all_symbols h 50 (omega arith)
all_at P h symbol.Question = all_get P all_symbols h 51 (omega arith)

-- where the second is true, the first is not
not_both : (a b : Bool) → not (a && b) ≡ true → b ≡ true → a ≡ false
not_both true true h k = cc
not_both true false h k = cc
not_both false b h k = refl

-- a symbol of the second set is not in the first, where they are apart
pub apart_at : (f g : Symbol → Bool) → apart f g ≡ true → (t : Lexeme) → g t.symbol ≡ true → f t.symbol ≡ false
apart_at f g h t k = not_both _ _ (all_at (λ k. not (f k && g k)) h t.symbol) k

-- nothing is a part of each
pub part_nil : {A : Type 0} (g : Grammar A) → IsPart g []
part_nil nothing = refl
part_nil (token k) = inl refl
part_nil (seq a b) = inl (part_nil a)
part_nil (alt a b) = inl (part_nil a)
part_nil (star a) = inl refl
part_nil (made f a) = part_nil a
part_nil balanced = ([], refl)

-- nothing behind a list leaves it as it is
pub append_nil : (xs : List Lexeme) → xs ≡ xs ++ []
append_nil [] = refl
append_nil (x ∷ xs) = ap (λ (l : List Lexeme). x ∷ l) (append_nil xs)

-- what is spelled is a part
pub spells_part : {A : Type 0} (g : Grammar A) (ls : List Lexeme) (x : A) → Spells g ls x → IsPart g ls
spells_part nothing ls x h = h
spells_part (token k) ls x h = inr (x, h.0, h.1)
spells_part (seq a b) ls x h = inr (x.0, record { front = h.front; back = h.back; whole = h.whole; first = h.first; second = spells_part b h.back x.1 h.second })
spells_part (alt a b) ls x (inl h) = inl (spells_part a ls x h)
spells_part (alt a b) ls x (inr h) = inr (spells_part b ls x h)
spells_part (star a) ls xs h = inr (xs, record { front = ls; back = []; whole = append_nil ls; first = h; second = part_nil a })
spells_part (made f a) ls x h = spells_part a ls h.0 h.1
spells_part balanced ls x h = ([], h.1)

-- two lists that make the empty one are empty
nil_both : (xs ys : List Lexeme) → [] ≡ xs ++ ys → (xs ≡ []) × (ys ≡ [])
nil_both [] ys h = (refl, sym h)
nil_both (x ∷ xs) ys h = cc

-- what spells a value with no lexeme is empty by the test
pub empty_sound : {A : Type 0} (g : Grammar A) (x : A) → Spells g [] x → is_empty g ≡ true
empty_sound nothing x h = refl
empty_sound (token k) x h = cc (h.0)
empty_sound (seq a b) x h =
    let n = nil_both h.front h.back h.whole in
    both _ _ (empty_sound a x.0 (subst (λ s. Spells a s x.0) n.0 h.first)) (empty_sound b x.1 (subst (λ s. Spells b s x.1) n.1 h.second))
empty_sound (alt a b) x (inl h) = or_left _ _ (empty_sound a x h)
empty_sound (alt a b) x (inr h) = or_right _ _ (empty_sound b x h)
empty_sound (star a) x h = refl
empty_sound (made f a) x h = empty_sound a h.0 h.1
empty_sound balanced x h = refl

-- a bracket that closed the wrong one is never mended
pub none_open : (ls : List Lexeme) → still_open None ls ≡ None
none_open [] = refl
none_open (t ∷ ls) = refl

-- a balanced list does not begin with a closing bracket
begins_open : (k : Symbol) (ls : List Lexeme) (stack : List Symbol) → still_open (step [] k) ls ≡ Some stack → not (closes k) ≡ true
begins_open k ls stack h = go (closes k) refl
  where
    go : (b : Bool) → closes k ≡ b → not (closes k) ≡ true
    go false e = ap not e
    go true e =
        let none : step [] k ≡ None = ap (λ b. if b then close_one [] k else Some (open_one [] (closer k))) e in
        cc (ap (λ s. still_open s ls) none, none_open ls, h)

-- the first token of a list in two parts
pub first_join : {A : Type 0} (a : Grammar A) (t : Lexeme) (ls front back : List Lexeme) (x : A)
    → ((u : Lexeme) (us : List Lexeme) → IsPart a (u ∷ us) → first a u.symbol ≡ true)
    → t ∷ ls ≡ front ++ back → Spells a front x
    → (first a t.symbol ≡ true) ⊎ ((front ≡ []) × (back ≡ t ∷ ls))
first_join a t ls [] back x part_first e h = inr (refl, sym e)
first_join a t ls (u ∷ us) back x part_first e h =
    let same : u ≡ t = cc in
    inl (subst (λ v. first a v.symbol ≡ true) same (part_first u us (spells_part a (u ∷ us) x h)))

-- the first lexeme of a repetition is one of its members' first
pub all_first : {A : Type 0} (a : Grammar A) (t : Lexeme) (ls front back : List Lexeme) (xs : List A)
    → ((u : Lexeme) (us : List Lexeme) → IsPart a (u ∷ us) → first a u.symbol ≡ true)
    → t ∷ ls ≡ front ++ back → SpellsAll (Spells a) front xs → IsPart a back
    → first a t.symbol ≡ true
all_first a t ls front back [] part_first e h p =
    let same : t ∷ ls ≡ back = e ∙ ap (λ (l : List Lexeme). l ++ back) h in
    part_first t ls (subst (IsPart a) (sym same) p)
all_first a t ls front back (x ∷ xs) part_first e h p =
    let e' : t ∷ ls ≡ h.front ++ (h.back ++ back) = e ∙ ap (λ (l : List Lexeme). l ++ back) h.whole ∙ append_assoc h.front h.back back in
    elim (first_join a t ls h.front (h.back ++ back) x part_first e' h.first) [
      | inl k ↦ k
      | inr k ↦ all_first a t ls h.back back xs part_first (sym k.1) h.second p
    ]

-- the first lexeme of a part is of a symbol that can begin it
pub part_first : {A : Type 0} (g : Grammar A) (t : Lexeme) (ls : List Lexeme) → IsPart g (t ∷ ls) → first g t.symbol ≡ true
part_first nothing t ls h = cc
part_first (token k) t ls (inl h) = cc
part_first (token k) t ls (inr h) = let e : k ≡ t.symbol = sym h.2 ∙ ap (λ (v : Lexeme). v.symbol) (let u : h.0 ≡ t = cc (h.1) in u) in same_is k t.symbol e
part_first (seq a b) t ls (inl h) = also_left (is_empty a) (first a t.symbol) (first b t.symbol) (part_first a t ls h)
part_first (seq a b) t ls (inr h) = elim (first_join a t ls h.1.front h.1.back h.0 (part_first a) h.1.whole h.1.first) [
  | inl k ↦ also_left (is_empty a) (first a t.symbol) (first b t.symbol) k
  | inr k ↦ also_right (is_empty a) (first a t.symbol) (first b t.symbol) (empty_sound a h.0 (subst (λ s. Spells a s h.0) k.0 h.1.first)) (part_first b t ls (subst (IsPart b) k.1 h.1.second))
]
part_first (alt a b) t ls (inl h) = or_left _ _ (part_first a t ls h)
part_first (alt a b) t ls (inr h) = or_right _ _ (part_first b t ls h)
part_first (star a) t ls (inl h) = cc
part_first (star a) t ls (inr h) = all_first a t ls h.1.front h.1.back h.0 (part_first a) h.1.whole h.1.first h.1.second
part_first (made f a) t ls h = part_first a t ls h
part_first balanced t ls h = begins_open t.symbol ls h.0 h.1
