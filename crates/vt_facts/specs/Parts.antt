-- What is made of parts, each of which may be none.
use Rattle.std.specs.Prelude.{List, ◌++◌, Option, Some, None}

-- one part after the other, and none where a part is none
infixl 10 ◌>>=◌
abbrev pub ◌>>=◌ : {A B : Type 0} → Option A → (A → Option B) → Option B
None >>= rest = None
(Some x) >>= rest = rest x

-- a list with others before it, and none where it is none
abbrev pub with_front : {A : Type 0} → List A → Option (List A) → Option (List A)
with_front front None = None
with_front front (Some xs) = Some (front ++ xs)
