-- What a token is, and what stands between tokens, as facts about lists of bytes.
use Rattle.std.specs.Prelude.{◌≡◌, ◌≢◌, ◌⊎◌, ℕ, ◌+◌, ◌-◌, ◌*◌, ◌≤◌, Bool, true, false, not, ◌||◌, ◌==◌, nat_eq, if◌then◌else◌, List, [], ◌∷◌, ◌++◌, codes, fold, Option, Some, None}
use Rattle.std.specs.List.{list_all, list_any}
use Rattle.std.specs.Char.{is_ascii_alphabetic, is_ascii_digit}
use Rattle.std.specs.Cmp.Lexicographic.{pointwise}
use Rattle.vt_tokens.specs.declared.token.TokenKind.{TokenKind}
use Rattle.vt_tokens.specs.declared.token.TokenKind.TheVariants.{Word, Blank, Number, Quoted, Mark}

-- a letter or `_`
abbrev pub begins_word : ℕ → Bool
begins_word b = is_ascii_alphabetic b || b == 95

-- a letter, a digit or `_`
abbrev pub goes_on : ℕ → Bool
goes_on b = begins_word b || is_ascii_digit b

-- a letter or `_`, then letters, digits and `_`, but not `_` alone
abbrev pub IsWord : List ℕ → Type 0
IsWord [] = ⊥
IsWord (b ∷ bs) = (begins_word b ≡ true) × (list_all goes_on bs ≡ true) × (b ∷ bs ≢ codes "_")

-- the number that digits write
abbrev pub number_of : List ℕ → ℕ
number_of digits = fold (λ n b. n * 10 + (b - 48)) 0 digits

-- digits whose number isn't too great
abbrev pub IsNumber : List ℕ → Type 0
IsNumber bytes = (bytes ≢ []) × (list_all is_ascii_digit bytes ≡ true) × (number_of bytes ≤ 9223372036854775807)

-- what follows doesn't begin with such a byte
abbrev pub NoneNext : (ℕ → Bool) → List ℕ → Type 0
NoneNext test [] = Unit {0}
NoneNext test (b ∷ after) = test b ≡ false

-- a byte that stands for itself between quotes: any but `"`, `\` and a line end
abbrev pub is_plain : ℕ → Bool
is_plain b = not (b == 34 || b == 92 || b == 10)

-- the byte that `\` and this one stand for
abbrev pub escaped : ℕ → Option ℕ
escaped b = if b == 34 then Some 34 else (if b == 92 then Some 92 else (if b == 110 then Some 10 else (if b == 116 then Some 9 else None)))

-- what stands between the quotes of a string, and the text that it stands for
pub data Writes : List ℕ → List ℕ → Type 0 where
  nothing : Writes [] []
  plain : (b : ℕ) {bytes text : List ℕ} → is_plain b ≡ true → Writes bytes text → Writes (b ∷ bytes) (b ∷ text)
  escape : (b c : ℕ) {bytes text : List ℕ} → escaped b ≡ Some c → Writes bytes text → Writes (92 ∷ b ∷ bytes) (c ∷ text)

-- a string in double quotes
pub record IsQuoted (bytes : List ℕ) : Type 0 where
  pub inner : List ℕ
  pub text : List ℕ
  pub quotes : bytes ≡ codes "\"" ++ inner ++ codes "\""
  pub writes : Writes inner text

-- the marks of one byte
unfoldable pub is_single_mark : ℕ → Bool
is_single_mark b = list_any (λ m. m == b) (codes "(){}[],;:.#@=<>+-*/%!&|?")

-- the marks of two bytes
unfoldable pub is_double_mark : List ℕ → Bool
is_double_mark bytes = list_any (pointwise nat_eq bytes) (codes "::" ∷ codes "==" ∷ codes "!=" ∷ codes "<=" ∷ codes ">=" ∷ codes "&&" ∷ codes "||" ∷ [])

-- what begins a comment
unfoldable pub opens_comment : List ℕ → Bool
opens_comment bytes = list_any (pointwise nat_eq bytes) (codes "//" ∷ codes "/*" ∷ [])

-- a mark of one byte or two
abbrev pub IsMark : List ℕ → Type 0
IsMark [] = ⊥
IsMark (a ∷ []) = is_single_mark a ≡ true
IsMark (a ∷ b ∷ bs) = is_double_mark (a ∷ b ∷ bs) ≡ true

-- a mark isn't cut short: with the next byte it is no other mark and begins no comment
abbrev pub EndsMark : List ℕ → List ℕ → Type 0
EndsMark mark [] = Unit {0}
EndsMark mark (b ∷ after) = (is_double_mark (mark ++ b ∷ []) || opens_comment (mark ++ b ∷ [])) ≡ false

-- a space, a tab or a line end
abbrev pub IsSpace : List ℕ → Type 0
IsSpace bytes = (bytes ≡ codes " ") ⊎ (bytes ≡ codes "\t") ⊎ (bytes ≡ codes "\n") ⊎ (bytes ≡ codes "\r\n")

-- any byte but a line end
abbrev pub is_in_line : ℕ → Bool
is_in_line b = not (b == 10)

-- `//` and bytes of its line
pub record IsLineComment (bytes : List ℕ) : Type 0 where
  pub inner : List ℕ
  pub opened : bytes ≡ codes "//" ++ inner
  pub one_line : list_all is_in_line inner ≡ true

-- `/*`, and what follows up to the first `*/`
pub record IsBlockComment (bytes : List ℕ) : Type 0 where
  pub inner : List ℕ
  pub closed : bytes ≡ codes "/*" ++ inner ++ codes "*/"
  pub first : (a b : List ℕ) → inner ≡ a ++ codes "*/" ++ b → ⊥

-- These bytes are the token of this kind, or with no kind the separator, that stands before the
-- rest of a text: no longer one does.
abbrev pub Stands : Option TokenKind → List ℕ → List ℕ → Type 0
Stands (Some Word) bytes rest = IsWord bytes × NoneNext goes_on rest
Stands (Some Blank) bytes rest = (bytes ≡ codes "_") × NoneNext goes_on rest
Stands (Some Number) bytes rest = IsNumber bytes × NoneNext goes_on rest
Stands (Some Quoted) bytes rest = IsQuoted bytes
Stands (Some Mark) bytes rest = IsMark bytes × EndsMark bytes rest
Stands None bytes rest = IsSpace bytes ⊎ (IsLineComment bytes × NoneNext is_in_line rest) ⊎ IsBlockComment bytes
