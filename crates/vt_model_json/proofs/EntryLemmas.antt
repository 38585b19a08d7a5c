-- Entries by their names, and the text of all.
use Rattle.std.proofs.Common.{◌≡◌, ℕ, ◌+◌, List, [], ◌∷◌, ◌++◌, refl, sym, ap, ◌∙◌, append_assoc, Some, false, length}
use Rattle.std.specs.Prelude.{◌==◌}
use Rattle.std.specs.Ordering.{nat_cmp, match_ordering}
use Rattle.std.specs.Cmp.Lexicographic.{slice_cmp}
use Rattle.std.specs.BTreeMap.{insert_entry}
use Rattle.std.specs.declared.cmp.Ordering.{Ordering}
use Rattle.std.specs.declared.cmp.Ordering.TheVariants.{Less, Equal, Greater}
use Rattle.json.specs.Print.{print}
use Rattle.json.specs.Token.{Token}
use Rattle.json.specs.Tree.{json_tokens, items_tokens}
use Rattle.serde_json.specs.Data.{Data, Members, array, put}
use Rattle.serde_json.specs.Written.{outline, items_outline}
use Rattle.serde_json.proofs.Texts.{print-outline}
use Rattle.vt_base.specs.declared.numbers.ObjId.{ObjId}
use Rattle.vt_base.specs.declared.numbers.ClassId.{ClassId}
use Rattle.vt_model.specs.Metamodel.{Metamodel}
use Rattle.vt_model.specs.Model.{Model}
use Rattle.vt_model.specs.Valid.{IsValid}
use Rattle.vt_graph.specs.Asked.{class_at}
use Rattle.vt_model_json.specs.Dump.{texts, with_targets, object_data, model_data, dump}
use Rattle.vt_model_json.specs.Inside.Entries.{entry_members, names_data}
use Rattle.vt_model_json.specs.Inside.Shown.{shown_name, shown_names}
use Rattle.vt_model_json.proofs.Dumped.Objects.{items_from, item_there}

-- ---- entries

module _ {K T : Type 0} (name : K → List ℕ) (means : T → Data) where
  members_chosen : (o : Ordering) (a b c : List (K × T)) → entry_members name means (match_ordering o a b c) ≡ match_ordering o (entry_members name means a) (entry_members name means b) (entry_members name means c)
  members_chosen Less a b c = refl
  members_chosen Equal a b c = refl
  members_chosen Greater a b c = refl

-- an entry that is inserted goes to its name
pub members_inserted : {K T : Type 0} (name : K → List ℕ) (means : T → Data) (es : List (K × T)) (k : K) (v : T)
    → entry_members name means (insert_entry (λ a b. slice_cmp nat_cmp (name a) (name b)) es k v) ≡ put (name k) (means v) (entry_members name means es)
members_inserted name means [] k v = refl
members_inserted name means (e ∷ es) k v =
    members_chosen name means (slice_cmp nat_cmp (name k) (name e.0)) _ _ _
    ∙ rw (members_inserted name means es k v) refl

-- some targets go in under their key
pub targets_put : (g : Model) (key : List ℕ) (objects : List ObjId) (before : Members) → (length objects == 0) ≡ false
    → with_targets key (texts (shown_names g objects)) before ≡ put key (names_data g objects) before
targets_put g key [] before some = cc
targets_put g key (o ∷ objects) before some = refl

-- ---- the whole

-- what is written first, a part, and the rest
pub part_joined : (before : List Token) (a b : Token) (part rest : List Token) → (((before ++ a ∷ []) ++ b ∷ []) ++ part) ++ rest ≡ before ++ a ∷ b ∷ (part ++ rest)
part_joined before a b part rest = simp append_assoc

-- a live object's tokens go out before those of the objects that come after it
pub tokens_there : (meta : Metamodel) (g : Model) → IsValid meta g → (n : ℕ) (class : ClassId) → class_at g (record { 0 = n }) ≡ Some class → (ts : List Token)
    → ts ++ items_tokens (items_outline (items_from meta g n))
    ≡ (ts ++ json_tokens (outline (object_data meta g (record { number = record { 0 = n }; name = shown_name g (record { 0 = n }); class = class })))) ++ items_tokens (items_outline (items_from meta g (n + 1)))
tokens_there meta g valid n class e ts =
    ap (λ ds. ts ++ items_tokens (items_outline ds)) (item_there meta g valid n class e)
    ∙ sym (append_assoc ts (json_tokens (outline (object_data meta g (record { number = record { 0 = n }; name = shown_name g (record { 0 = n }); class = class })))) (items_tokens (items_outline (items_from meta g (n + 1)))))

-- the tokens of a model's data are printed as its dump
pub dump_printed : (meta : Metamodel) (g : Model) → print (json_tokens (outline (model_data meta g))) ≡ dump meta g
dump_printed meta g = print-outline (model_data meta g)
