-- An object without links or without values: its ends and its body.
use Rattle.std.proofs.Common.{◌≡◌, ◌≢◌, ℕ, List, [], ◌∷◌, refl, sym, ap, subst, ◌∙◌, Option, Some, None, option_map}
use Rattle.std.specs.Prelude.{Contains, All}
use Rattle.std.proofs.lemmas.List.Elements.{All-contains}
use Rattle.vt_base.specs.declared.numbers.ObjId.{ObjId}
use Rattle.vt_base.specs.declared.numbers.RefId.{RefId}
use Rattle.vt_base.specs.declared.value.Value.{Value}
use Rattle.vt_model.specs.Metamodel.{Metamodel}
use Rattle.vt_model.specs.declared.model.AttributeValue.{AttributeValue}
use Rattle.vt_model.specs.declared.model.Link.{Link}
use Rattle.vt_facts.proofs.MemberLemmas.{Contains-nil, Contains-head, All-from_contains}
use Rattle.vt_slots.specs.Ends.{objects_of}
use Rattle.vt_slots.specs.Slots.{ends_at}
use Rattle.vt_slots.specs.declared.slot.Side.{Side}
use Rattle.vt_slots.specs.declared.slot.Side.TheVariants.{Outgoing, Incoming}
use Rattle.vt_slots.specs.declared.values.Held.{Held}
use Rattle.vt_slots.specs.declared.slot.Body.{Body}
use Rattle.vt_slots.specs.declared.slot.Slot.{Slot}
use Rattle.vt_graph.specs.Passing.{HasNoLinks, HasNoValues}
use Rattle.vt_graph.specs.Inside.Stored.{model_of, attribute_value, body_values}
use Rattle.vt_graph.specs.Inside.Indexed.{IsIndexed}
use Rattle.vt_facts.proofs.ChosenLemmas.{Contains-flat_map, Contains-filter_map}
use Rattle.vt_graph.proofs.ValueLemmas.{body_value_object}
use Rattle.vt_graph.proofs.Linked.Stored.{from_to, listed_link}
use Rattle.vt_graph.proofs.Linked.Bare.{ends_rise}

-- a list in which nothing stands
pub nothing : {X : Type 0} (xs : List X) → ((x : X) → Contains xs x → ⊥) → xs ≡ []
nothing [] none = refl
nothing (x ∷ xs) none = absurd (none x (Contains-head x xs))

-- ---- links

module _ (meta : Metamodel) (next : ℕ) (slots : List Slot) (is : IsIndexed meta next slots) (o : ObjId) (lone : HasNoLinks (model_of next slots) o) where
  -- no link stands that has it at an end
  no_link : (link : Link) → Contains (objects_of (ends_at slots link.source Outgoing) link.reference) link.target → (link.source.0 ≢ o.0) × (link.target.0 ≢ o.0)
  no_link link there = All-contains (λ l. (l.source.0 ≢ o.0) × (l.target.0 ≢ o.0)) (model_of next slots).links link lone
      (listed_link slots is.numbers_rise (ends_rise meta next slots is) link there)

  -- its ends list nothing
  pub lone_ends : (side : Side) (r : RefId) → objects_of (ends_at slots o side) r ≡ []
  lone_ends Outgoing r = nothing (objects_of (ends_at slots o Outgoing) r) (λ x there. (no_link (from_to o r x) there).0 refl)
  lone_ends Incoming r = nothing (objects_of (ends_at slots o Incoming) r) (λ x there. (no_link (from_to x r o) ((is.two_ended (from_to x r o)).1 there)).1 refl)

-- ---- values

module _ (next : ℕ) (slots : List Slot) (o : ObjId) (lone : HasNoValues (model_of next slots) o) (s : Slot) (there : Contains slots s) (own : s.number ≡ o) where
  -- its body gives no value
  pub lone_values : body_values s.number s.body ≡ []
  lone_values = nothing (body_values s.number s.body) (λ t of.
      All-contains (λ (u : AttributeValue). u.object.0 ≢ o.0) (model_of next slots).values t lone
      (Contains-flat_map (λ (u : Slot). body_values u.number u.body) slots s t there of)
      (ap (λ (p : ObjId). p.0) (body_value_object s.number s.body t of ∙ own)))

  -- its places are empty
  pub lone_places : (body : Body) → s.body ≡ Some body → All (λ h. h.value ≡ None) body.values
  lone_places body is = All-from_contains (λ (h : Held). h.value ≡ None) body.values (λ h at. by h at h.value refl)
    where
      by : (h : Held) → Contains body.values h → (r : Option Value) → h.value ≡ r → r ≡ None
      by h at None e = refl
      by h at (Some v) e =
          let of : Contains (body_values s.number (Some body)) (record { object = s.number; attribute = h.attribute; value = v }) =
          Contains-filter_map (attribute_value s.number) body.values h (record { object = s.number; attribute = h.attribute; value = v }) at
          (ap (option_map (λ (w : Value). record { object = s.number; attribute = h.attribute; value = w })) e) in
          absurd (Contains-nil (record { object = s.number; attribute = h.attribute; value = v })
          (subst (λ ts. Contains ts (record { object = s.number; attribute = h.attribute; value = v })) (ap (body_values s.number) (sym is) ∙ lone_values) of))
