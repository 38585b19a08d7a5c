use Rattle.std.proofs.Common.{◌≡◌, true, subst, sym, rules}
use Rattle.std.specs.Prelude.{Some}
use Rattle.vt_model.specs.Metamodel.{feature}
use Rattle.vt_model.specs.Linking.{reference_of, is_target}
use Rattle.vt_model.specs.Fits.{FitsReference}
use Rattle.vt_model.specs.declared.model.Object.{Object}
use Rattle.vt_asked.proofs.LiveLemmas.{fits_asked}
use Rattle.vt_asked.proofs.asking.containment_named.Goals as goal

pub returns-clause-fits : goal.returns-clause-fits
returns-clause-fits c =
    let g = c.args.graph.now in
    let r = c.in_ok-r.r in
    let a : Object = record { number = c.in_ok-end.source.number; name = c.args.parent.now; class = c.in_ok-end.source.class } in
    let b : Object = record { number = c.in_ok-end.end.number; name = c.args.child.now; class = c.in_ok-end.end.class } in
    let through : reference_of (feature g.meta a.class c.args.reference.now) ≡ Some r = search rules in
    let right : is_target g.meta (Some r) (Some b) ≡ true = search rules in
    subst (FitsReference g.meta g.model.live) (sym c.link_of.ensures)
    (fits_asked g.meta g.model c.requires.valid c.args.parent.now c.args.reference.now c.args.child.now a b r c.in_ok-end.ensures.other c.in_ok-end.ensures.one through right)
