-- Live objects found by their numbers, and the link that two of them are asked for.
use Rattle.std.proofs.Common.{◌≡◌, ℕ, List, refl, sym, ap, ◌∙◌, true, Some}
use Rattle.std.specs.Prelude.{◌==◌, Contains, option_and_then}
use Rattle.std.specs.Ordering.{nat_cmp}
use Rattle.std.specs.declared.cmp.Ordering.TheVariants.{Equal}
use Rattle.std.proofs.lemmas.Bool.{eqb-true, eq-eqb}
use Rattle.std.proofs.lemmas.Cmp.{on_total, nat_cmp_total, tied_itself}
use Rattle.vt_base.specs.declared.numbers.ObjId.{ObjId}
use Rattle.vt_base.specs.declared.numbers.ClassId.{ClassId}
use Rattle.vt_base.specs.declared.numbers.RefId.{RefId}
use Rattle.vt_model.specs.Metamodel.{Metamodel, feature}
use Rattle.vt_model.specs.Model.{Model, object_named, feature_at}
use Rattle.vt_model.specs.Linking.{reference_of, is_target}
use Rattle.vt_model.specs.Fits.{IsLive, FitsReference}
use Rattle.vt_model.specs.Valid.{IsValid, object_order}
use Rattle.vt_model.specs.declared.model.Object.{Object}
use Rattle.vt_model.specs.declared.model.Link.{Link}
use Rattle.vt_model.proofs.Valid.LinkAsked.{FitsReference-asked}
use Rattle.vt_facts.proofs.MemberLemmas.{Contains-find, find-some}
use Rattle.vt_facts.proofs.RisingLemmas.{tied_is}
use Rattle.vt_graph.specs.Asked.{live_at}

-- a link of its three parts
abbrev from_to : ObjId → RefId → ObjId → Link
from_to source r target = record { source = source; reference = r; target = target }

module _ (meta : Metamodel) (g : Model) (valid : IsValid meta g) where
  -- ---- one object

  -- equal numbers are tied
  tied : (n m : ℕ) → n ≡ m → nat_cmp n m ≡ Equal
  tied n m same = ap (nat_cmp n) (sym same) ∙ tied_itself nat_cmp_total n

  -- a live object is found by its number
  pub live_at_there : (x : Object) → Contains g.live x → live_at g x.number ≡ Some x
  live_at_there x there =
      let found = find-some (λ y. y.number.0 == x.number.0) g.live x there (eq-eqb x.number.0 x.number.0 refl) in
      let at = Contains-find (λ y. y.number.0 == x.number.0) g.live found.0 found.1 in
      let is : found.0 ≡ x = tied_is object_order (on_total (λ o. o.number.0) nat_cmp_total) g.live valid.objects_rise found.0 x at.0 there
      (tied found.0.number.0 x.number.0 (eqb-true found.0.number.0 x.number.0 at.1)) in
      found.1 ∙ ap Some is

  -- so is one that is live by its number and class
  pub live_at_is : (o : ObjId) (c : ClassId) (live : IsLive g.live o c) → live_at g o ≡ Some (record { number = o; name = live.name; class = c })
  live_at_is o c live = live_at_there (record { number = o; name = live.name; class = c }) live.there

  -- ---- the link that is asked for

  -- it fits, where the class of the one object has the reference, and the other one is a target of it
  pub fits_asked : (name reference target : List ℕ) (a b : Object) (r : RefId) → object_named g name ≡ Some a → object_named g target ≡ Some b
      → reference_of (feature meta a.class reference) ≡ Some r → is_target meta (Some r) (Some b) ≡ true → FitsReference meta g.live (from_to a.number r b.number)
  fits_asked name reference target a b r from to through right =
      let at : reference_of (feature_at meta g name reference) ≡ Some r = ap (λ o. reference_of (option_and_then (λ (x : Object). feature meta x.class reference) o)) from ∙ through in
      let fits : is_target meta (reference_of (feature_at meta g name reference)) (object_named g target) ≡ true = rw (at, to) right in
      FitsReference-asked meta g name reference target (from_to a.number r b.number)
      (record { source = a; from = from; is_source = refl; through = at; end = b; to = to; is_end = refl }) fits
