-- What the words of a line spell: names, numbers, and the values of attributes.
use Rattle.std.specs.Prelude.{ℕ, ◌+◌, ℤ, pos, neg_ℤ, ◌==◌, ◌&&◌, nat_le, if◌then◌else◌, List, [], ◌∷◌, take, drop, position, codes, Bool as Flag, true, false, Option, Some, None, option_map}
use Rattle.std.specs.Option.{option_or}
use Rattle.std.specs.List.{list_all}
use Rattle.std.specs.Char.{is_ascii_digit}
use Rattle.vt_facts.specs.Firsts.{first_of}
use Rattle.vt_facts.specs.Names.{is_name as is_word}
use Rattle.vt_facts.specs.Parts.{◌>>=◌, with_front}
use Rattle.vt_json.specs.Names.{is_name, continues_object_name}
use Rattle.vt_tokens.specs.Lexicon.{begins_word, goes_on, number_of}
use Rattle.vt_tokens.specs.Quoting.{quoted}
use Rattle.vt_base.specs.declared.agenda.Policy.{Policy}
use Rattle.vt_base.specs.declared.agenda.Policy.TheVariants.{Fixed, Inverted, Oldest, Turns}
use Rattle.vt_model.specs.declared.change.Given.{Given}
use Rattle.vt_model.specs.declared.change.Given.TheVariants.{Bool, Int, Text}

-- what stands before the first space, and what stands after it
abbrev pub cut : List ℕ → Option (List ℕ × List ℕ)
cut bytes = option_map (λ i. (take i bytes, drop (i + 1) bytes)) (position (λ b. b == 32) bytes)

-- a letter or `_`, then letters, digits and `_`
abbrev pub is_identifier : List ℕ → Flag
is_identifier [] = false
is_identifier (b ∷ bs) = begins_word b && list_all goes_on bs

-- the name of a class, a feature, a pattern or an agenda
abbrev pub identifier : List ℕ → Option (List ℕ)
identifier bytes = if is_identifier bytes then Some bytes else None

-- the name of an object or of a client
abbrev pub object_name : List ℕ → Option (List ℕ)
object_name bytes = if is_name continues_object_name bytes then Some bytes else None

-- one digit or more
abbrev pub is_numeral : List ℕ → Flag
is_numeral [] = false
is_numeral (b ∷ bs) = list_all is_ascii_digit (b ∷ bs)

-- the number that digits write, where it is at most this
abbrev pub number : ℕ → List ℕ → Option ℕ
number most bytes = if is_numeral bytes && nat_le (number_of bytes) most then Some (number_of bytes) else None

-- the same with a sign, where the digits fit 63 bits
abbrev pub integer : List ℕ → Option ℤ
integer [] = None
integer (b ∷ bs) = if b == 45 then option_map (λ n. neg_ℤ (pos n)) (number 9223372036854775807 bs) else option_map pos (number 9223372036854775807 (b ∷ bs))

abbrev pub truth : List ℕ → Option Flag
truth bytes = first_of
    ((is_word bytes (codes "true"), true)
    ∷ (is_word bytes (codes "false"), false)
    ∷ [])

-- a value that is given to an attribute
abbrev pub value : List ℕ → Option Given
value bytes = option_or (option_map Bool (truth bytes)) (option_or (option_map Int (integer bytes)) (option_map Text (quoted bytes)))

-- how an agenda picks
abbrev pub policy : List ℕ → Option Policy
policy bytes = first_of
    ((is_word bytes (codes "fixed"), Fixed)
    ∷ (is_word bytes (codes "inverted"), Inverted)
    ∷ (is_word bytes (codes "oldest"), Oldest)
    ∷ (is_word bytes (codes "turns"), Turns)
    ∷ [])

-- any bytes, but not none
abbrev pub something : List ℕ → Option (List ℕ)
something [] = None
something (b ∷ bs) = Some (b ∷ bs)
