-- Pieces of a text that were written one after the other are a front of it.
use Rattle.std.proofs.Common.{◌≡◌, ℕ, List, [], ◌++◌, length, ◌+◌, take, drop, refl, sym, ap, ◌∙◌, append_assoc, subst}
use Rattle.std.proofs.lemmas.List.{append-nil, take-append-drop}
use Rattle.std.specs.Prelude.{Result, Ok, Err, OnErr}
use Rattle.std.proofs.Math.Seq.{take-append_seam, take-append-add}
use Rattle.vt_base.specs.Written.{AppendsFront}

-- what follows at an error
pub OnErr-follows : {T E : Type 0} (r : Result T E) {P Q : Type 0} → (P → Q) → OnErr r P → OnErr r Q
OnErr-follows (Ok x) f p = p
OnErr-follows (Err e) f p = f p

-- what holds holds at an error
pub OnErr-holds : {T E : Type 0} (r : Result T E) {P : Type 0} → P → OnErr r P
OnErr-holds (Ok x) p = tt
OnErr-holds (Err e) p = p

-- ---- AppendsFront

-- a piece is a front of what begins with it
piece : (old new a rest : List ℕ) → new ≡ old ++ a → AppendsFront old new (a ++ rest)
piece old new a rest written =
    record { count = length a; grown = written ∙ ap (λ (x : List ℕ). old ++ x) (sym (take-append_seam a rest)) }

-- the first piece is a front
pub AppendsFront-first : (old new a b rest : List ℕ) → new ≡ old ++ a → AppendsFront old new (a ++ b ++ rest)
AppendsFront-first old new a b rest written =
    subst (λ (text : List ℕ). AppendsFront old new text) (sym (append_assoc a b rest)) (piece old new a (b ++ rest) written)

-- two pieces are a front
pub AppendsFront-second : (old mid new a b rest : List ℕ) → mid ≡ old ++ a → new ≡ mid ++ b → AppendsFront old new (a ++ b ++ rest)
AppendsFront-second old mid new a b rest first second =
    piece old new (a ++ b) rest (second ∙ ap (λ (x : List ℕ). x ++ b) first ∙ append_assoc old a b)

-- a whole piece and a front of the next are a front
pub AppendsFront-after : (old mid new a b : List ℕ) → mid ≡ old ++ a → AppendsFront mid new b → AppendsFront old new (a ++ b)
AppendsFront-after old mid new a b first f =
    record {
      count = length a + f.count;
      grown = f.grown ∙ ap (λ (x : List ℕ). x ++ take f.count b) first ∙ append_assoc old a (take f.count b) ∙ ap (λ (x : List ℕ). old ++ x) (sym (take-append-add a b f.count));
    }

-- a front of the first piece is a front
pub AppendsFront-before : (old new a rest : List ℕ) → AppendsFront old new a → AppendsFront old new (a ++ rest)
AppendsFront-before old new a rest f =
    let cut : take f.count a ++ (drop f.count a ++ rest) ≡ a ++ rest = sym (append_assoc (take f.count a) (drop f.count a) rest) ∙ ap (λ (x : List ℕ). x ++ rest) (take-append-drop f.count a) in
    subst (λ (text : List ℕ). AppendsFront old new text) cut (piece old new (take f.count a) (drop f.count a ++ rest) f.grown)

-- ---- IsWritten

-- a list grew by a text but for what is left of it
pub record IsWritten (old new text left : List ℕ) : Type 0 where
  pub done : List ℕ
  pub grown : new ≡ old ++ done
  pub whole : done ++ left ≡ text

-- nothing was written
pub IsWritten-none : (old text : List ℕ) → IsWritten old old text text
IsWritten-none old text = record { done = []; grown = sym (append-nil old); whole = refl }

-- one more piece was written
pub IsWritten-piece : (old mid new text a left : List ℕ) → IsWritten old mid text (a ++ left) → new ≡ mid ++ a → IsWritten old new text left
IsWritten-piece old mid new text a left before written =
    record {
      done = before.done ++ a;
      grown = written ∙ ap (λ (x : List ℕ). x ++ a) before.grown ∙ append_assoc old before.done a;
      whole = append_assoc before.done a left ∙ before.whole;
    }

-- all was written
pub grown-IsWritten : (old new text : List ℕ) → IsWritten old new text [] → new ≡ old ++ text
grown-IsWritten old new text w = w.grown ∙ ap (λ (x : List ℕ). old ++ x) (sym (append-nil w.done) ∙ w.whole)

-- with a front of the next piece, a front was written
pub AppendsFront-next : (old mid new text a left : List ℕ) → IsWritten old mid text (a ++ left) → AppendsFront mid new a → AppendsFront old new text
AppendsFront-next old mid new text a left w f =
    subst (λ (x : List ℕ). AppendsFront old new x) w.whole (AppendsFront-after old mid new w.done (a ++ left) w.grown (AppendsFront-before mid new a left f))
