-- What creating an object puts into a model.
use Rattle.std.proofs.Common.{◌++◌, ◌≡◌, ℕ, List, [], ◌∷◌, refl, sym, ap, subst, ◌∙◌, arith}
use Rattle.std.specs.Prelude.{◌<◌, ◌≤◌, length, position, option_map, Option, None, Some, Contains, Ok, Err}
use Rattle.vt_facts.specs.Names.{is_name}
use Rattle.vt_facts.proofs.PositionLemmas.{IsAt-position}
use Rattle.vt_graph.specs.Held.{Held}
use Rattle.vt_graph.specs.Room.{KeepsRoom, HasRoom}
use Rattle.vt_store.specs.Undoing.{HeldEdit, KeepsRoomOf}
use Rattle.vt_store.specs.Changing.{Makes}
use Rattle.vt_store.specs.declared.fault.StoreFault.{StoreFault}
use Rattle.vt_store.specs.declared.fault.StoreFault.TheVariants.{Refused, NoMemory}
use Rattle.vt_store.proofs.MakesLemmas.{room_kept, makes_refusal, makes_nothing, makes_made}
use Rattle.vt_store.specs.Inside.Kept.{creation}
use Rattle.std.proofs.lemmas.List.Elements.{All-contains}
use Rattle.vt_base.specs.declared.numbers.ClassId.{ClassId}
use Rattle.vt_model.specs.Metamodel.{Metamodel, class_named}
use Rattle.vt_model.specs.Model.{Model}
use Rattle.vt_model.specs.Creating.{defaults_from, created}
use Rattle.vt_model.specs.Fits.{FitsAttribute}
use Rattle.vt_model.specs.Effect.{effect}
use Rattle.vt_model.specs.Sound.{IsSound}
use Rattle.vt_model.specs.Valid.{IsValid}
use Rattle.vt_model.specs.declared.change.Change.{Change}
use Rattle.vt_model.specs.declared.change.Change.TheVariants.{Create}
use Rattle.vt_model.specs.declared.change.Refusal.{Refusal}
use Rattle.vt_model.specs.declared.model.Object.{Object}
use Rattle.vt_model.specs.declared.model.AttributeValue.{AttributeValue}
use Rattle.vt_model.proofs.Valid.Defaults.{defaults-object}
use Rattle.vt_store.specs.Edits.{same_object, same_gone, same_value, same_link, edit_of}
use Rattle.vt_store.proofs.NetLemmas.{Contains-one, net-same, net-appended}
use Rattle.vt_store.proofs.SameLemmas.{Decides-same_object, Decides-same_gone, Decides-same_value, Decides-same_link}

-- a class that a name finds is there
pub class_in_range : (meta : Metamodel) (name : List ℕ) (c : ClassId) → class_named meta name ≡ Some c → c.0 < length meta.classes
class_in_range meta name c e = by (position (λ i. is_name i.name name) meta.classes) refl e
  where
    by : (r : Option ℕ) → position (λ i. is_name i.name name) meta.classes ≡ r → option_map (λ n. record { 0 = n }) r ≡ Some c → c.0 < length meta.classes
    by None found e = cc
    by (Some n) found e =
        let at = IsAt-position (λ i. is_name i.name name) meta.classes n found in
        let is : n ≡ c.0 = cc in
        subst (λ m. m < length meta.classes) is at.in_range

module _ (meta : Metamodel) (g : Model) (valid : IsValid meta g) (name : List ℕ) (c : ClassId) (number : ℕ) (above : g.next ≤ number) where
  -- the new object, and its values
  abbrev pub newcomer : Object
  newcomer = record { number = record { 0 = number }; name = name; class = c }

  abbrev pub defaults : List AttributeValue
  defaults = defaults_from meta c (record { 0 = number }) 0 meta.attributes

  -- no live object is it
  is_new : (o : Object) → Contains (newcomer ∷ []) o → Contains g.live o → ⊥
  is_new o one there =
      let number_is : number ≡ o.number.0 = ap (λ x. x.number.0) (Contains-one newcomer o one) in
      let below = All-contains (λ x. x.number.0 < g.next) g.live o valid.numbers_below there in
      absurd (omega arith)

  -- no value is of it
  are_new : (t : AttributeValue) → Contains defaults t → Contains g.values t → ⊥
  are_new t one there =
      let number_is : t.object.0 ≡ number = ap (λ x. x.0) (All-contains (λ u. u.object ≡ record { 0 = number }) defaults t (defaults-object meta c (record { 0 = number }) 0 meta.attributes) one) in
      let fits = All-contains (FitsAttribute meta g.live) g.values t valid.values_fit there in
      let below = All-contains (λ x. x.number.0 < g.next) g.live _ valid.numbers_below fits.owner.is_live.there in
      absurd (omega arith)

  -- it came with its values, and nothing went
  pub edit_of-created : edit_of g (created meta g name c number) ≡ creation g.next newcomer defaults
  edit_of-created = λ i. record {
    next = g.next;
    live = net-appended same_object Decides-same_object g.live (newcomer ∷ []) is_new i;
    gone = net-same same_gone Decides-same_gone g.gone i;
    values = net-appended same_value Decides-same_value g.values defaults are_new i;
    links = net-same same_link Decides-same_link g.links i;
  }

-- ---- the edit

module _ (old new : Held) (e : HeldEdit) (name : List ℕ) (c : ClassId) (number : ℕ) (valid : IsValid old.meta old.model) (above : old.model.next ≤ number)
    (made : new.model ≡ created old.meta old.model name c number)
    (is : e ≡ record {
      meta = old.meta;
      edit = creation old.model.next (record { number = record { 0 = number }; name = name; class = c }) (defaults_from old.meta c (record { 0 = number }) 0 old.meta.attributes);
      waiting = [];
    }) where
  -- it is what changed
  created_edit : e.edit ≡ edit_of old.model new.model
  created_edit = ap (λ d. d.edit) is ∙ sym (edit_of-created old.meta old.model valid name c number above) ∙ ap (edit_of old.model) (sym made)

  -- so the creation is made
  pub makes_created : (class : List ℕ) (asked : Option ℕ) → IsSound old.meta → HasRoom old.places old.model → effect old.meta old.model (Create name class asked) ≡ Ok (created old.meta old.model name c number)
      → new.meta ≡ old.meta → KeepsRoom old.places new.places → Makes (Create name class asked) old new (Ok e)
  makes_created class asked sound has done meta keeps = makes_made (Create name class asked) old new e tt sound valid has meta (done ∙ ap Ok (sym made)) (record {
    of = ap (λ d. d.meta) is ∙ sym meta;
    is = created_edit;
    gone = λ x went. absurd (gone x (subst (λ d. Contains d.edit.live.removed x) is went));
    kept = λ x went. absurd (gone x (subst (λ d. Contains d.edit.live.removed x) is went));
    waits = λ x went. absurd (gone x (subst (λ d. Contains d.edit.live.removed x) is went));
    room = subst (λ d. KeepsRoomOf old.model old.places (d.waiting ++ new.places)) (sym is) (room_kept old.model old.places new.places keeps);
  })
    where
      gone : (x : Object) → Contains [] x → ⊥
      gone x there = absurd (omega arith)

-- the creation isn't made: it is refused, or memory ran out
pub makes_no_creation : (change : Change) (s : Held) (f : StoreFault) → ((why : Refusal) → f ≡ Refused why → effect s.meta s.model change ≡ Err why) → Makes change s s (Err f)
makes_no_creation change s NoMemory refused = makes_nothing change s s NoMemory refl refl refl (record { room = λ o side r. omega arith; classes = λ o c is. is })
makes_no_creation change s (Refused why) refused = makes_refusal change s (Refused why) why refl (refused why refl)
