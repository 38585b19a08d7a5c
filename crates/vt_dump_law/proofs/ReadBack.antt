-- The compact text of data is text, and is read back as the data.
use Rattle.std.proofs.Common.{◌≡◌, ℕ, suc, ◌≤◌, List, [], ◌∷◌, ◌++◌, Bool, true, false, Option, Some, IsUtf8, refl, sym, ap, ap₂, subst, ◌∙◌, append-nil, append_assoc, arith}
use Rattle.std.specs.Prelude.{max, option_map, option_and_then}
use Rattle.std.specs.List.{AllByRecursion}
use Rattle.std.specs.List.Sorted.{IsStrictlySortedBy}
use Rattle.std.specs.Cmp.Lexicographic.{slice_cmp}
use Rattle.std.specs.Ordering.{nat_cmp, match_ordering, ordering_reverse}
use Rattle.std.specs.declared.cmp.Ordering.TheVariants.{Less, Greater}
use Rattle.std.proofs.lemmas.Cmp.{nat_list_cmp_total}
use Rattle.std.proofs.lemmas.List.Elements.{Contains-append_right}
use Rattle.std.proofs.lemmas.Map.Keys.{sorted_tail}
use Rattle.std.proofs.lemmas.Str.{IsUtf8-append, IsUtf8-nil}
use Rattle.json.specs.Token.{Token}
use Rattle.json.specs.Lex.{tokens}
use Rattle.json.specs.Json as json
use Rattle.json.specs.Tree as tree
use Rattle.json.proofs.Printed.Tokens.{tokens-print}
use Rattle.json.proofs.Printed.Trees.{value-json_tokens, ArePrintable-json_tokens}
use Rattle.json.proofs.Printed.Utf8.{IsUtf8-are_ascii, IsUtf8-quoted, IsUtf8-boolean}
use Rattle.serde_json.specs.Data.{Data, null, boolean, number, string, array, object, Items, no_items, item, Members, no_members, member, put, depth, items_depth, members_depth}
use Rattle.serde_json.specs.Read.{of_json, of_items, of_members, max_depth, read}
use Rattle.serde_json.specs.Written.{outline, items_outline, members_outline, comma_if, compact_text, items_text, members_text}
use Rattle.serde_json.proofs.Texts.{print-outline}
use Rattle.vt_json.specs.Json.{json_of}
use Rattle.vt_json.specs.Shape.{keys_of}
use Rattle.vt_json.proofs.JsonLemmas.{json_of_text}
use Rattle.vt_facts.proofs.MemberLemmas.{Contains-head}
use Rattle.vt_dump_law.proofs.Lists.{below_head}
use Rattle.vt_dump_law.proofs.Readable.{IsReadable, AreReadable, MembersAreReadable, number_of-number_text, IsNumber-number_text, IsUtf8-number_text}

-- ---- members

-- members, and then others
abbrev joined_members : Members → Members → Members
joined_members no_members ms = ms
joined_members (member k d found) ms = member k d (joined_members found ms)

-- no others
joined_members-none : (found : Members) → joined_members found no_members ≡ found
joined_members-none no_members = refl
joined_members-none (member k d found) = ap (member k d) (joined_members-none found)

-- members in three parts
joined_members-twice : (a b c : Members) → joined_members (joined_members a b) c ≡ joined_members a (joined_members b c)
joined_members-twice no_members b c = refl
joined_members-twice (member k d a) b c = ap (member k d) (joined_members-twice a b c)

-- the keys of both
keys_of-joined_members : (a b : Members) → keys_of (joined_members a b) ≡ keys_of a ++ keys_of b
keys_of-joined_members no_members b = refl
keys_of-joined_members (member k d a) b = ap (λ keys. k ∷ keys) (keys_of-joined_members a b)

-- a key above all others goes behind them
put-last : (k : List ℕ) (d : Data) (found : Members) → AllByRecursion (λ l. slice_cmp nat_cmp l k ≡ Less) (keys_of found) → put k d found ≡ joined_members found (member k d no_members)
put-last k d no_members above = refl
put-last k d (member l e found) above =
    let greater : slice_cmp nat_cmp k l ≡ Greater = nat_list_cmp_total.antisymm k l ∙ ap ordering_reverse above.0 in
    ap (λ r. match_ordering r (member k d (member l e found)) (member l d found) (member l e (put k d found))) greater
    ∙ ap (member l e) (put-last k d found above.1)

-- the keys before a key of a rising list are below it
below_later : (xs : List (List ℕ)) (k : List ℕ) (ys : List (List ℕ)) → IsStrictlySortedBy (slice_cmp nat_cmp) (xs ++ k ∷ ys) → AllByRecursion (λ l. slice_cmp nat_cmp l k ≡ Less) xs
below_later [] k ys rise = tt
below_later (x ∷ xs) k ys rise = (
  below_head (slice_cmp nat_cmp) x (xs ++ k ∷ ys) rise k (Contains-append_right xs (k ∷ ys) k (Contains-head k ys)),
  below_later xs k ys (sorted_tail (slice_cmp nat_cmp) x (xs ++ k ∷ ys) rise),
)

-- ---- the data that the outline stands for

mutual
  of_json-outline : (d : Data) → IsReadable d → of_json (outline d) ≡ Some d
  of_json-outline null readable = refl
  of_json-outline (boolean b) readable = refl
  of_json-outline (number n) readable = ap (option_map number) (number_of-number_text n readable)
  of_json-outline (string s) readable = refl
  of_json-outline (array ds) readable = ap (option_map array) (of_items-outline ds readable)
  of_json-outline (object ms) readable = ap (option_map object) (of_members-outline ms no_members readable.0 readable.1)

  of_items-outline : (ds : Items) → AreReadable ds → of_items (items_outline ds) ≡ Some ds
  of_items-outline no_items readable = refl
  of_items-outline (item d ds) readable =
      ap (option_and_then (λ e. option_map (item e) (of_items (items_outline ds)))) (of_json-outline d readable.0)
      ∙ ap (option_map (item d)) (of_items-outline ds readable.1)

  of_members-outline : (ms found : Members) → IsStrictlySortedBy (slice_cmp nat_cmp) (keys_of found ++ keys_of ms) → MembersAreReadable ms
      → of_members (members_outline ms) found ≡ Some (joined_members found ms)
  of_members-outline no_members found rise readable = ap Some (sym (joined_members-none found))
  of_members-outline (member k d ms) found rise readable =
      let more = joined_members found (member k d no_members) in
      let keys : keys_of more ++ keys_of ms ≡ keys_of found ++ k ∷ keys_of ms =
      ap (λ l. l ++ keys_of ms) (keys_of-joined_members found (member k d no_members)) ∙ append_assoc (keys_of found) (k ∷ []) (keys_of ms) in
      ap (option_and_then (λ e. of_members (members_outline ms) (put k e found))) (of_json-outline d readable.1)
      ∙ ap (of_members (members_outline ms)) (put-last k d found (below_later (keys_of found) k (keys_of ms) rise))
      ∙ of_members-outline ms more (subst (IsStrictlySortedBy (slice_cmp nat_cmp)) (sym keys) rise) readable.2
      ∙ ap Some (joined_members-twice found (member k d no_members) ms)

-- its numbers are numbers
mutual
  HasNumbers-outline : (d : Data) → IsReadable d → tree.HasNumbers (outline d)
  HasNumbers-outline null readable = tt
  HasNumbers-outline (boolean b) readable = tt
  HasNumbers-outline (number n) readable = IsNumber-number_text n readable
  HasNumbers-outline (string s) readable = tt
  HasNumbers-outline (array ds) readable = ItemsHaveNumbers-outline ds readable
  HasNumbers-outline (object ms) readable = MembersHaveNumbers-outline ms readable.1

  ItemsHaveNumbers-outline : (ds : Items) → AreReadable ds → tree.ItemsHaveNumbers (items_outline ds)
  ItemsHaveNumbers-outline no_items readable = tt
  ItemsHaveNumbers-outline (item d ds) readable = (HasNumbers-outline d readable.0, ItemsHaveNumbers-outline ds readable.1)

  MembersHaveNumbers-outline : (ms : Members) → MembersAreReadable ms → tree.MembersHaveNumbers (members_outline ms)
  MembersHaveNumbers-outline no_members readable = tt
  MembersHaveNumbers-outline (member k d ms) readable = (HasNumbers-outline d readable.1, MembersHaveNumbers-outline ms readable.2)

-- it is as deep
mutual
  depth-outline : (d : Data) → tree.depth (outline d) ≡ depth d
  depth-outline null = refl
  depth-outline (boolean b) = refl
  depth-outline (number n) = refl
  depth-outline (string s) = refl
  depth-outline (array ds) = ap suc (items_depth-outline ds)
  depth-outline (object ms) = ap suc (members_depth-outline ms)

  items_depth-outline : (ds : Items) → tree.items_depth (items_outline ds) ≡ items_depth ds
  items_depth-outline no_items = refl
  items_depth-outline (item d ds) = ap₂ max (depth-outline d) (items_depth-outline ds)

  members_depth-outline : (ms : Members) → tree.members_depth (members_outline ms) ≡ members_depth ms
  members_depth-outline no_members = refl
  members_depth-outline (member k d ms) = ap₂ max (depth-outline d) (members_depth-outline ms)

-- ---- the text is UTF-8

-- a comma or nothing
IsUtf8-comma_if : (later : Bool) → IsUtf8 (comma_if later)
IsUtf8-comma_if true = IsUtf8-are_ascii (44 ∷ []) refl
IsUtf8-comma_if false = IsUtf8-nil

-- one byte below 128, and then a text
after_ascii : (x : ℕ) (s : List ℕ) → IsUtf8 (x ∷ []) → IsUtf8 s → IsUtf8 (x ∷ s)
after_ascii x s one rest = IsUtf8-append (x ∷ []) s one rest

mutual
  IsUtf8-compact_text : (d : Data) → IsReadable d → IsUtf8 (compact_text d)
  IsUtf8-compact_text null readable = IsUtf8-are_ascii _ refl
  IsUtf8-compact_text (boolean b) readable = IsUtf8-boolean b
  IsUtf8-compact_text (number n) readable = IsUtf8-number_text n readable
  IsUtf8-compact_text (string s) readable = IsUtf8-quoted s readable
  IsUtf8-compact_text (array ds) readable = after_ascii 91 _ (IsUtf8-are_ascii (91 ∷ []) refl) (IsUtf8-items_text false ds readable)
  IsUtf8-compact_text (object ms) readable = after_ascii 123 _ (IsUtf8-are_ascii (123 ∷ []) refl) (IsUtf8-members_text false ms readable.1)

  IsUtf8-items_text : (later : Bool) (ds : Items) → AreReadable ds → IsUtf8 (items_text later ds)
  IsUtf8-items_text later no_items readable = IsUtf8-are_ascii (93 ∷ []) refl
  IsUtf8-items_text later (item d ds) readable =
      IsUtf8-append (comma_if later) _ (IsUtf8-comma_if later) (IsUtf8-append (compact_text d) _ (IsUtf8-compact_text d readable.0) (IsUtf8-items_text true ds readable.1))

  IsUtf8-members_text : (later : Bool) (ms : Members) → MembersAreReadable ms → IsUtf8 (members_text later ms)
  IsUtf8-members_text later no_members readable = IsUtf8-are_ascii (125 ∷ []) refl
  IsUtf8-members_text later (member k d ms) readable =
      IsUtf8-append (comma_if later) _ (IsUtf8-comma_if later)
      (IsUtf8-append _ _ (IsUtf8-quoted k readable.0) (after_ascii 58 _ (IsUtf8-are_ascii (58 ∷ []) refl)
      (IsUtf8-append (compact_text d) _ (IsUtf8-compact_text d readable.1) (IsUtf8-members_text true ms readable.2))))

-- ---- the whole text

-- the data of what was read, where nothing is left
abbrev whole : Option (json.Json × List Token) → Option Data
whole o = option_and_then of_json (option_and_then (λ p. json.if_last p.0 p.1) o)

-- the tokens of the text are those of the outline, which is read as the data
read-compact_text : (d : Data) → IsReadable d → depth d ≤ 127 → read (compact_text d) ≡ Some d
read-compact_text d readable shallow =
    let same : tokens (compact_text d) ≡ tree.json_tokens (outline d) =
    ap tokens (sym (print-outline d)) ∙ tokens-print (tree.json_tokens (outline d)) (ArePrintable-json_tokens (outline d) (HasNumbers-outline d readable)) in
    ap whole (ap (json.value max_depth) (same ∙ sym (append-nil _)) ∙ value-json_tokens (outline d) max_depth [] (omega (arith, shallow, depth-outline d)))
    ∙ of_json-outline d readable

-- it is JSON, and the data is what it says
pub json_of-compact_text : (d : Data) → IsReadable d → depth d ≤ 127 → json_of (compact_text d) ≡ Some d
json_of-compact_text d readable shallow = json_of_text (compact_text d) (IsUtf8-compact_text d readable) ∙ read-compact_text d readable shallow
