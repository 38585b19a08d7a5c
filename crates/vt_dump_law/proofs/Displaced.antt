-- Among the links of a valid model none displaces another one, or puts an object into itself.
use Rattle.std.proofs.Common.{◌≡◌, List, [], ◌∷◌, refl, sym, ap, subst, ◌∙◌, true, false, not, ◌⊎◌, inl, inr}
use Rattle.std.specs.Prelude.{◌==◌, ◌&&◌, ◌||◌, Contains, Option, Some, None, option_map}
use Rattle.std.specs.Option.{option_map_or}
use Rattle.std.proofs.lemmas.Bool.{and_parts, or_cases, eqb-true, not-true, false_from_ne_true}
use Rattle.std.proofs.lemmas.List.Elements.{All-contains}
use Rattle.vt_base.specs.declared.numbers.ObjId.{ObjId}
use Rattle.vt_base.specs.declared.numbers.RefId.{RefId}
use Rattle.vt_model.specs.Metamodel.{Metamodel}
use Rattle.vt_model.specs.Model.{Model}
use Rattle.vt_model.specs.Linking.{is_many, is_containment, opposite_of, has_single_opposite, link_back, displaces, is_dropped}
use Rattle.vt_model.specs.Containing.{Holds, LeadsOver, IsIn, is_inside, is_circular}
use Rattle.vt_model.specs.Sound.{IsSound}
use Rattle.vt_model.specs.Valid.{IsOnly, HasItsOpposite, IsOnlyContainer}
use Rattle.vt_model.specs.declared.model.Link.{Link}
use Rattle.vt_model.proofs.Valid.Sides.{LinkSide}
use Rattle.vt_model.proofs.Valid.Backs.{turned, IsBack-link_back}
use Rattle.vt_model.proofs.Valid.Dropped.{Comes}
use Rattle.vt_model.proofs.Valid.Containment.{same_object, IsAtOrIn, IsIn-trans, IsIn-Holds, is_inside-iff}

-- equal numbers are of one reference
pub same_reference : (r s : RefId) → r.0 ≡ s.0 → r ≡ s
same_reference r s same = ap (λ n. record { 0 = n }) same

-- links with the same ends and reference are the same
pub same_link : (a b : Link) → a.source ≡ b.source → a.reference ≡ b.reference → a.target ≡ b.target → a ≡ b
same_link a b source reference target = λ i. record { source = source i; reference = reference i; target = target i }

-- where the one model's links are among the other's, what is in an object there is in it here
module _ (meta : Metamodel) (g h : Model) (among : (x : Link) → Contains h.links x → Contains g.links x) where
  -- what holds an object there holds it here
  Holds-among : (outer inner : ObjId) → Holds meta h outer inner → Holds meta g outer inner
  Holds-among outer inner holds = record { link = holds.link; there = among holds.link holds.there; containment = holds.containment; from = holds.from; to = holds.to }

  -- a path there is a path here
  LeadsOver-among : (outer inner : ObjId) (path : List ObjId) → LeadsOver meta h outer path inner → LeadsOver meta g outer path inner
  LeadsOver-among outer inner [] holds = Holds-among outer inner holds
  LeadsOver-among outer inner (o ∷ path) leads = (Holds-among outer o leads.0, LeadsOver-among o inner path leads.1)

  -- so what is in an object there is in it here
  pub IsIn-among : (inner outer : ObjId) → IsIn meta h inner outer → IsIn meta g inner outer
  IsIn-among inner outer inside = (inside.0, LeadsOver-among outer inner inside.0 inside.1)

module _ (meta : Metamodel) (sound : IsSound meta) (g : Model) (side : LinkSide meta g) (new : Link) (there : Contains g.links new) where
  -- ---- what is displaced

  -- another target of a single reference would be the same
  same_source : (old : Link) → Contains g.links old → (old.source.0 == new.source.0 && old.reference.0 == new.reference.0 && not (is_many meta new.reference)) ≡ true → old ≡ new
  same_source old stands e =
      let parts = and_parts (old.source.0 == new.source.0 && old.reference.0 == new.reference.0) (not (is_many meta new.reference)) e in
      let both = and_parts (old.source.0 == new.source.0) (old.reference.0 == new.reference.0) parts.0 in
      All-contains (IsOnly meta g) g.links new side.singles there (not-true (is_many meta new.reference) parts.1) old stands
      (same_object old.source new.source (eqb-true old.source.0 new.source.0 both.0))
      (same_reference old.reference new.reference (eqb-true old.reference.0 new.reference.0 both.1))

  -- another source of one whose opposite is single would be the same
  by_opposite : (old : Link) → Contains g.links old → old.target ≡ new.target → old.reference ≡ new.reference
      → (s : Option RefId) → opposite_of meta new.reference ≡ s → option_map_or (λ s. not (is_many meta s)) s false ≡ true → old ≡ new
  by_opposite old stands target reference None opposite e = cc
  by_opposite old stands target reference (Some s) opposite e =
      let new_back : link_back meta new ≡ Some (turned new s) = ap (option_map (turned new)) opposite in
      let old_back : link_back meta old ≡ Some (turned old s) = ap (option_map (turned old)) (ap (opposite_of meta) reference ∙ opposite) in
      let new_stands = All-contains (HasItsOpposite meta g) g.links new side.opposites there (turned new s) new_back in
      let old_stands = All-contains (HasItsOpposite meta g) g.links old side.opposites stands (turned old s) old_back in
      let is : turned old s ≡ turned new s = All-contains (IsOnly meta g) g.links (turned new s) side.singles new_stands (not-true (is_many meta s) e) (turned old s) old_stands target refl in
      same_link old new (ap (λ l. l.target) is) reference target

  -- so it is where the tests of that case hold
  same_target : (old : Link) → Contains g.links old → (old.target.0 == new.target.0 && old.reference.0 == new.reference.0 && has_single_opposite meta new.reference) ≡ true → old ≡ new
  same_target old stands e =
      let parts = and_parts (old.target.0 == new.target.0 && old.reference.0 == new.reference.0) (has_single_opposite meta new.reference) e in
      let both = and_parts (old.target.0 == new.target.0) (old.reference.0 == new.reference.0) parts.0 in
      by_opposite old stands
      (same_object old.target new.target (eqb-true old.target.0 new.target.0 both.0))
      (same_reference old.reference new.reference (eqb-true old.reference.0 new.reference.0 both.1))
      (opposite_of meta new.reference) refl parts.1

  -- another container would be the same
  same_container : (old : Link) → Contains g.links old → (old.target.0 == new.target.0 && is_containment meta new.reference && is_containment meta old.reference) ≡ true → old ≡ new
  same_container old stands e =
      let parts = and_parts (old.target.0 == new.target.0 && is_containment meta new.reference) (is_containment meta old.reference) e in
      let both = and_parts (old.target.0 == new.target.0) (is_containment meta new.reference) parts.0 in
      All-contains (IsOnlyContainer meta g) g.links new side.containers there both.1 old stands parts.1
      (same_object old.target new.target (eqb-true old.target.0 new.target.0 both.0))

  -- a link displaces itself alone
  displaces-same : (old : Link) → Contains g.links old → displaces meta new old ≡ true → old ≡ new
  displaces-same old stands e =
      let source = old.source.0 == new.source.0 && old.reference.0 == new.reference.0 && not (is_many meta new.reference) in
      let target = old.target.0 == new.target.0 && old.reference.0 == new.reference.0 && has_single_opposite meta new.reference in
      let container = old.target.0 == new.target.0 && is_containment meta new.reference && is_containment meta old.reference in
      elim (or_cases (source || target) container e) [
        | inl first ↦ (elim (or_cases source target first) [ inl here ↦ same_source old stands here | inr here ↦ same_target old stands here ])
        | inr here ↦ same_container old stands here
      ]

  -- so it drops itself and its opposite alone
  pub is_dropped-comes : (old : Link) → Contains g.links old → is_dropped meta new old ≡ true → Comes meta new old
  is_dropped-comes old stands e = by (link_back meta old) refl (or_cases (displaces meta new old) (option_map_or (displaces meta new) (link_back meta old) false) e)
    where
      by : (b : Option Link) → link_back meta old ≡ b → (displaces meta new old ≡ true) ⊎ (option_map_or (displaces meta new) (link_back meta old) false ≡ true) → Comes meta new old
      by b at (inl here) = inl (sym (displaces-same old stands here))
      by None at (inr there) = let none : false ≡ true = sym (ap (λ b. option_map_or (displaces meta new) b false) at) ∙ there in cc
      by (Some back) at (inr there) =
          let displaced : displaces meta new back ≡ true = sym (ap (λ b. option_map_or (displaces meta new) b false) at) ∙ there in
          let is = displaces-same back (All-contains (HasItsOpposite meta g) g.links old side.opposites stands back at) displaced in
          inr (ap (link_back meta) (sym is) ∙ (IsBack-link_back meta sound old back at).forth)

  -- ---- what is contained

  -- where the links that stand are among the model's, one more of its links puts nothing into itself
  pub straight : (h : Model) → LinkSide meta h → ((x : Link) → Contains h.links x → Contains g.links x) → is_circular meta h new ≡ false
  straight h kept among = false_from_ne_true (is_circular meta h new) (λ e.
      let parts = and_parts (is_containment meta new.reference) (is_inside meta h new.source new.target) e in
      let holds : Holds meta g new.source new.target = record { link = new; there = there; containment = parts.0; from = refl; to = refl } in
      by holds ((is_inside-iff meta h kept new.source new.target).0 parts.1))
    where
      by : Holds meta g new.source new.target → IsAtOrIn meta h new.source new.target → ⊥
      by holds (inl same) = side.no_cycle new.source (subst (λ o. IsIn meta g o new.source) (sym same) (IsIn-Holds meta g new.source new.target holds))
      by holds (inr inside) = side.no_cycle new.source
          (IsIn-trans meta g new.source new.target new.source (IsIn-Holds meta g new.source new.target holds) (IsIn-among meta g h among new.source new.target inside))
