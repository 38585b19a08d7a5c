-- The live object that has a name, by its number and its class.
use Rattle.std.proofs.Common.{◌≡◌, ℕ, List, refl, sym, ap, subst, ◌∙◌}
use Rattle.std.specs.Prelude.{Option, Some, None, option_map, unwrap_or}
use Rattle.std.specs.Cmp.Lexicographic.{bytes_decides}
use Rattle.vt_base.specs.declared.numbers.ObjId.{ObjId}
use Rattle.vt_base.specs.declared.numbers.ClassId.{ClassId}
use Rattle.vt_model.specs.Metamodel.{Metamodel}
use Rattle.vt_facts.specs.Names.{is_name}
use Rattle.vt_model.specs.Model.{Model, object_named, gone_named}
use Rattle.vt_model.specs.Valid.{IsValid}
use Rattle.vt_model.specs.declared.model.Object.{Object}
use Rattle.vt_model.specs.declared.model.GoneObject.{GoneObject}
use Rattle.vt_facts.proofs.MemberLemmas.{Contains-find}
use Rattle.vt_graph.specs.Asked.{seen_of, seen_live, seen_gone, class_at}
use Rattle.vt_graph.specs.declared.seen.Seen.{Seen}
use Rattle.vt_graph.specs.declared.seen.Seen.TheVariants as seen
use Rattle.vt_asked.proofs.LiveLemmas.{live_at_there}

some_is : (c d : ClassId) → Some c ≡ Some d → c ≡ d
some_is c d e = ap (λ (x : Option ClassId). unwrap_or x c) e

module _ (meta : Metamodel) (g : Model) (valid : IsValid meta g) (name : List ℕ) (o : ObjId) where
  -- the live object that is seen
  seen-is : seen_of g name ≡ seen.Live o → (x : Object) × (object_named g name ≡ Some x) × (x.number ≡ o)
  seen-is e = by (object_named g name) refl e
    where
      none : (y : Option GoneObject) → seen_gone y ≡ seen.Live o → ⊥
      none (Some y) e = let differ : seen.Gone y.number ≡ seen.Live o = e in cc
      none None e = let differ : seen.Never ≡ seen.Live o = e in cc

      by : (x : Option Object) → object_named g name ≡ x → seen_live x (seen_gone (gone_named g name)) ≡ seen.Live o → (x : Object) × (object_named g name ≡ Some x) × (x.number ≡ o)
      by (Some x) at e = (x, at, ap number_in e)
        where
          number_in : Seen → ObjId
          number_in (seen.Live n) = n
          number_in (seen.Gone n) = n
          number_in seen.Never = o
      by None at e = absurd (none (gone_named g name) e)

  -- it is the one of the name, and has its class
  named-is : seen_of g name ≡ seen.Live o → (c : ClassId) × (class_at g o ≡ Some c) × (object_named g name ≡ Some (record { number = o; name = name; class = c }))
  named-is e =
      let found = seen-is e in
      let at = Contains-find (λ x. is_name x.name name) g.live found.0 found.1 in
      let same : found.0.name ≡ name = (bytes_decides found.0.name name).0 at.1 in
      let is : found.0 ≡ record { number = o; name = name; class = found.0.class } = λ i. record { number = found.2 i; name = same i; class = found.0.class } in
      let classed : class_at g found.0.number ≡ Some found.0.class = ap (λ (x : Option Object). option_map (λ (y : Object). y.class) x) (live_at_there meta g valid found.0 at.0) in
      (found.0.class, subst (λ n. class_at g n ≡ Some found.0.class) found.2 classed, found.1 ∙ ap Some is)

  -- so a class that is told is its class
  pub is_named : (c : ClassId) → seen_of g name ≡ seen.Live o → class_at g o ≡ Some c → object_named g name ≡ Some (record { number = o; name = name; class = c })
  is_named c e told = let n = named-is e in
      let same : n.0 ≡ c = some_is n.0 c (sym n.1 ∙ told) in subst (λ d. object_named g name ≡ Some (record { number = o; name = name; class = d })) same n.2

  -- and none isn't told
  pub class_of_named : seen_of g name ≡ seen.Live o → class_at g o ≡ None → ⊥
  class_of_named e none = let n = named-is e in let differ : Some n.0 ≡ None = sym n.1 ∙ none in cc
