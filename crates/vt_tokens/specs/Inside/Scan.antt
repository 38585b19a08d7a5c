-- The piece at the front of a text, by its first byte.
use Rattle.std.specs.Prelude.{ℕ, ◌+◌, ◌-◌, ◌*◌, Bool, true, false, ◌&&◌, ◌||◌, ◌==◌, nat_le, if◌then◌else◌, List, [], ◌∷◌, take, Option, Some, None, is_some}
use Rattle.std.specs.List.{prefix_len}
use Rattle.std.specs.Char.{is_ascii_digit}
use Rattle.vt_tokens.specs.Lexicon.{begins_word, goes_on, is_in_line, escaped, is_single_mark, is_double_mark}
use Rattle.vt_tokens.specs.declared.token.TokenKind.{TokenKind}
use Rattle.vt_tokens.specs.declared.token.TokenKind.TheVariants.{Word, Blank, Number, Quoted, Mark}
use Rattle.vt_tokens.specs.declared.piece.Opening.{Opening}
use Rattle.vt_tokens.specs.declared.piece.Opening.TheVariants.{Letter, Digit, Quote, Return, Space, Other}
use Rattle.vt_tokens.specs.declared.piece.Cut.{Cut}

-- what can begin with a byte
unfoldable pub opening : ℕ → Opening
opening b = if begins_word b then Letter
    else (if is_ascii_digit b then Digit
    else (if b == 34 then Quote
    else (if b == 13 then Return
    else (if b == 32 || b == 9 || b == 10 then Space
    else Other))))

abbrev pub piece_of : Option TokenKind → ℕ → Option Cut
piece_of kind len = Some (record { kind = kind; len = len })

abbrev pub piece_if : Bool → Option TokenKind → ℕ → Option Cut
piece_if holds kind len = if holds then piece_of kind len else None

-- a piece that ends where another search says, so much further on
abbrev pub piece_up_to : Option TokenKind → ℕ → Option ℕ → Option Cut
piece_up_to kind len None = None
piece_up_to kind len (Some more) = piece_of kind (len + more)

-- a length found further on
abbrev pub plus : ℕ → Option ℕ → Option ℕ
plus n None = None
plus n (Some more) = Some (n + more)

abbrev pub word_kind : ℕ → ℕ → TokenKind
word_kind b more = if b == 95 && more == 0 then Blank else Word

-- digits, whose number stays within the greatest one, n being the number of those before
abbrev pub is_numeral : ℕ → List ℕ → Bool
is_numeral n [] = true
is_numeral n (b ∷ bytes) = if is_ascii_digit b then (if nat_le (n * 10 + (b - 48)) 9223372036854775807 then is_numeral (n * 10 + (b - 48)) bytes else false) else false

-- how many bytes end a string, behind its first quote
abbrev pub string_end : List ℕ → Option ℕ
string_end [] = None
string_end (b ∷ []) = if b == 34 then Some 1 else None
string_end (b ∷ c ∷ bytes) =
    if b == 34 then Some 1
    else (if b == 10 then None
    else (if b == 92 then (if is_some (escaped c) then plus 2 (string_end bytes) else None)
    else plus 1 (string_end (c ∷ bytes))))

abbrev pub begins_with : ℕ → List ℕ → Bool
begins_with c [] = false
begins_with c (b ∷ bytes) = b == c

-- how many bytes end a comment, behind its `/*`
abbrev pub comment_end : List ℕ → Option ℕ
comment_end [] = None
comment_end (b ∷ bytes) = if b == 42 && begins_with 47 bytes then Some 2 else plus 1 (comment_end bytes)

abbrev pub cut_word : ℕ → List ℕ → Option Cut
cut_word b rest = piece_of (Some (word_kind b (prefix_len goes_on rest))) (1 + prefix_len goes_on rest)

abbrev pub cut_number : ℕ → List ℕ → Option Cut
cut_number b rest = piece_if (is_numeral 0 (b ∷ take (prefix_len goes_on rest) rest)) (Some Number) (1 + prefix_len goes_on rest)

abbrev pub cut_line_comment : List ℕ → Option Cut
cut_line_comment rest = piece_of None (2 + prefix_len is_in_line rest)

abbrev pub cut_mark : ℕ → List ℕ → Option Cut
cut_mark a [] = piece_if (is_single_mark a) (Some Mark) 1
cut_mark a (b ∷ rest) =
    if a == 47 && b == 47 then cut_line_comment rest
    else (if a == 47 && b == 42 then piece_up_to None 2 (comment_end rest)
    else (if is_double_mark (a ∷ b ∷ []) then piece_of (Some Mark) 2
    else piece_if (is_single_mark a) (Some Mark) 1))

abbrev pub cut_by : Opening → ℕ → List ℕ → Option Cut
cut_by Letter b rest = cut_word b rest
cut_by Digit b rest = cut_number b rest
cut_by Quote b rest = piece_up_to (Some Quoted) 1 (string_end rest)
cut_by Return b rest = piece_if (begins_with 10 rest) None 2
cut_by Space b rest = piece_of None 1
cut_by Other b rest = cut_mark b rest

-- the piece at the front, if one stands there
unfoldable pub cut : List ℕ → Option Cut
cut [] = None
cut (b ∷ rest) = cut_by (opening b) b rest
