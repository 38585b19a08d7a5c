-- The ends of an object on a side, where the list of a reference stands and where it would go.
use Rattle.std.proofs.Common.{◌≡◌, ◌≢◌, ℕ, ◌≤◌, ◌==◌, List, [], ◌∷◌, filter, not, get_or, set, insert, refl, sym, ap, subst, ◌∙◌, arith, Option, option_map, unwrap_or, All, find, le_of_eq, ⊎_elim}
use Rattle.std.specs.BTreeSet.{insert_key}
use Rattle.std.specs.Cmp.{nat_cmp_total}
use Rattle.std.proofs.lemmas.Cmp.{on_total}
use Rattle.std.proofs.lemmas.Bool.{cases_eq}
use Rattle.std.proofs.lemmas.List.Kept.{IsStrictlySortedBy-filter}
use Rattle.std.proofs.lemmas.Map.Views.{All-insert_key}
use Rattle.vt_base.specs.declared.numbers.ObjId.{ObjId}
use Rattle.vt_base.specs.declared.numbers.RefId.{RefId}
use Rattle.vt_facts.proofs.OrderedLemmas.{IsStrictlySortedBy-insert_key}
use Rattle.vt_slots.specs.Ends.{EndList, number_order, ObjectsRise, reference_order, ReferencesRise, list_of, objects_of, capacity_of, AddsEnd, DropsEnd, SameEnds, KeepsRoom, SameRoom}
use Rattle.vt_slots.specs.Inside.Place.{StandsAt, GoesAt}
use Rattle.vt_slots.proofs.PlaceLemmas.{find_stands, find_goes, find_set_same, find_set_other, find_insert_same, find_insert_other, insert_goes, key_stands, sorted_alike, map_set_alike}

-- the number of a list's reference
abbrev pub reference_number : EndList → ℕ
reference_number l = l.reference.0

abbrev pub object_number : ObjId → ℕ
object_number o = o.0

-- ---- the objects of one list

pub rise_with_object : (objects : List ObjId) (o : ObjId) → ObjectsRise objects → ObjectsRise (insert_key number_order objects o)
rise_with_object objects o rise = IsStrictlySortedBy-insert_key number_order (on_total object_number nat_cmp_total) objects o rise

pub rise_without_object : (objects : List ObjId) (o : ObjId) → ObjectsRise objects → ObjectsRise (filter (λ x. not (x.0 == o.0)) objects)
rise_without_object objects o rise = IsStrictlySortedBy-filter number_order (λ x. not (x.0 == o.0)) objects rise

-- ---- what a list says of its reference

abbrev list_objects : Option EndList → List ObjId
list_objects found = unwrap_or (option_map (λ l. l.objects) found) []

abbrev list_capacity : Option EndList → ℕ
list_capacity found = unwrap_or (option_map (λ l. l.capacity) found) 0

module _ (lists : List EndList) (r : RefId) (i : ℕ) where
  module _ (there : StandsAt reference_number r.0 lists i) where
    pub objects_stand : (d : EndList) → objects_of lists r ≡ (get_or lists i d).objects
    objects_stand d = ap list_objects (find_stands reference_number r.0 lists i there d)

    pub capacity_stands : (d : EndList) → capacity_of lists r ≡ (get_or lists i d).capacity
    capacity_stands d = ap list_capacity (find_stands reference_number r.0 lists i there d)

    -- ---- where the list of a reference is changed

    module _ (l d : EndList) (is : l.reference ≡ (get_or lists i d).reference) where
      number_is : l.reference.0 ≡ r.0
      number_is = ap (λ (s : RefId). s.0) is ∙ key_stands reference_number r.0 lists i there d

      pub objects_changed : objects_of (set lists i l) r ≡ l.objects
      objects_changed = ap list_objects (find_set_same reference_number r.0 lists i l there number_is)

      pub capacity_changed : capacity_of (set lists i l) r ≡ l.capacity
      capacity_changed = ap list_capacity (find_set_same reference_number r.0 lists i l there number_is)

      others_stay : (s : RefId) → s.0 ≢ r.0 → list_of (set lists i l) s ≡ list_of lists s
      others_stay s apart = find_set_other reference_number s.0 r.0 lists i l apart there number_is

      pub references_rise_changed : ReferencesRise lists → ReferencesRise (set lists i l)
      references_rise_changed rise = sorted_alike reference_number lists (set lists i l) (map_set_alike reference_number lists i l d (ap (λ (s : RefId). s.0) is)) rise

      pub AddsEnd_changed : (o : ObjId) → l.objects ≡ insert_key number_order (get_or lists i d).objects o → AddsEnd lists (set lists i l) r o
      AddsEnd_changed o added = record {
        there = objects_changed ∙ added ∙ ap (λ objects. insert_key number_order objects o) (sym (objects_stand d));
        others = λ s apart. ap list_objects (others_stay s apart);
      }

      pub DropsEnd_changed : (o : ObjId) → l.objects ≡ filter (λ x. not (x.0 == o.0)) (get_or lists i d).objects → DropsEnd lists (set lists i l) r o
      DropsEnd_changed o dropped = record {
        there = objects_changed ∙ dropped ∙ ap (filter (λ x. not (x.0 == o.0))) (sym (objects_stand d));
        others = λ s apart. ap list_objects (others_stay s apart);
      }

      pub SameEnds_changed : l.objects ≡ (get_or lists i d).objects → SameEnds lists (set lists i l)
      SameEnds_changed same s = ⊎_elim
          (λ (e : s.0 ≡ r.0). subst (λ n. list_objects (find (λ m. m.reference.0 == n) (set lists i l)) ≡ list_objects (find (λ m. m.reference.0 == n) lists)) (sym e) (objects_changed ∙ same ∙ sym (objects_stand d)))
          (λ (apart : s.0 ≢ r.0). ap list_objects (others_stay s apart))
          (cases_eq s.0 r.0)

      pub SameRoom_changed : l.capacity ≡ (get_or lists i d).capacity → SameRoom lists (set lists i l)
      SameRoom_changed same s = ⊎_elim
          (λ (e : s.0 ≡ r.0). subst (λ n. list_capacity (find (λ m. m.reference.0 == n) (set lists i l)) ≡ list_capacity (find (λ m. m.reference.0 == n) lists)) (sym e) (capacity_changed ∙ same ∙ sym (capacity_stands d)))
          (λ (apart : s.0 ≢ r.0). ap list_capacity (others_stay s apart))
          (cases_eq s.0 r.0)

      pub KeepsRoom_changed : (get_or lists i d).capacity ≤ l.capacity → KeepsRoom lists (set lists i l)
      KeepsRoom_changed more s = ⊎_elim
          (λ (e : s.0 ≡ r.0). subst (λ n. list_capacity (find (λ m. m.reference.0 == n) lists) ≤ list_capacity (find (λ m. m.reference.0 == n) (set lists i l))) (sym e) (grown (capacity_stands d) capacity_changed))
          (λ (apart : s.0 ≢ r.0). le_of_eq (sym (ap list_capacity (others_stay s apart))))
          (cases_eq s.0 r.0)
        where
          grown : capacity_of lists r ≡ (get_or lists i d).capacity → capacity_of (set lists i l) r ≡ l.capacity → capacity_of lists r ≤ capacity_of (set lists i l) r
          grown before after = omega (arith, more, before, after)

  -- ---- where a reference has no list

  module _ (out : GoesAt reference_number r.0 lists i) where
    pub no_objects : objects_of lists r ≡ []
    no_objects = ap list_objects (find_goes reference_number r.0 lists i out)

    pub no_capacity : capacity_of lists r ≡ 0
    no_capacity = ap list_capacity (find_goes reference_number r.0 lists i out)

    pub DropsEnd_absent : (o : ObjId) → DropsEnd lists lists r o
    DropsEnd_absent o = record { there = no_objects ∙ ap (filter (λ x. not (x.0 == o.0))) (sym no_objects); others = λ s apart. refl }

    module _ (l : EndList) (is : l.reference ≡ r) where
      new_number : l.reference.0 ≡ r.0
      new_number = ap (λ (s : RefId). s.0) is

      in_order : insert lists i l ≡ insert_key reference_order lists l
      in_order = insert_goes reference_number r.0 lists i l out new_number

      others_stay_put : (s : RefId) → s.0 ≢ r.0 → list_of (insert lists i l) s ≡ list_of lists s
      others_stay_put s apart = find_insert_other reference_number s.0 r.0 lists i l apart out new_number

      pub AddsEnd_put : (o : ObjId) → l.objects ≡ o ∷ [] → AddsEnd lists (insert lists i l) r o
      AddsEnd_put o single = record {
        there = ap list_objects (find_insert_same reference_number r.0 lists i l out new_number) ∙ single ∙ ap (λ objects. insert_key number_order objects o) (sym no_objects);
        others = λ s apart. ap list_objects (others_stay_put s apart);
      }

      pub KeepsRoom_put : KeepsRoom lists (insert lists i l)
      KeepsRoom_put s = ⊎_elim
          (λ (e : s.0 ≡ r.0). subst (λ n. list_capacity (find (λ m. m.reference.0 == n) lists) ≤ list_capacity (find (λ m. m.reference.0 == n) (insert lists i l))) (sym e) (from_none no_capacity))
          (λ (apart : s.0 ≢ r.0). le_of_eq (sym (ap list_capacity (others_stay_put s apart))))
          (cases_eq s.0 r.0)
        where
          from_none : capacity_of lists r ≡ 0 → capacity_of lists r ≤ capacity_of (insert lists i l) r
          from_none none = omega (arith, none)

      pub references_rise_put : ReferencesRise lists → ReferencesRise (insert lists i l)
      references_rise_put rise = subst ReferencesRise (sym in_order) (IsStrictlySortedBy-insert_key reference_order (on_total reference_number nat_cmp_total) lists l rise)

      pub All_put : (P : EndList → Type 0) → P l → All P lists → All P (insert lists i l)
      All_put P new all = subst (All P) (sym in_order) (All-insert_key reference_order l P lists all new)
