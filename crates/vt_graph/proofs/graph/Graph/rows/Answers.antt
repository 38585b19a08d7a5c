-- The rows over the listing of the declaring class are those of the model.
use Rattle.std.proofs.Common.{◌≡◌, ◌≤◌, ◌+◌, length, sym, subst, ◌∙◌}
use Rattle.std.specs.Prelude.{IfOk}
use Rattle.vt_base.specs.Rows.{Ascends}
use Rattle.vt_graph.proofs.HeldRowsLemmas.{rows_held, rows_ascend, class_is_there}
use Rattle.vt_graph.proofs.graph.Graph.rows.Goals as goal

pub returns-in_err-rows-in-Some-clause-bound : goal.returns-in_err-rows-in-Some-clause-bound
returns-in_err-rows-in-Some-clause-bound g c =
    let i = c.self.inside in
    let same = rows_held i.meta i.next i.slots c.args.self.now c.self.view_is c.self.invariant.0 i.listings.items c.as_slice-listings.result.now c.self.invariant.2 c.as_slice-listings.ensures.value
    c.args.of c.in-Some.class (sym c.in-Some.ensures) c.requires.there in
    subst (λ rows. c.rows_of_class.new.steps ≤ c.args.steps.now + length rows) same c.rows_of_class.ensures.bound

pub from_ascending-requires : goal.from_ascending-requires
from_ascending-requires g c =
    let i = c.self.inside in
    let same = rows_held i.meta i.next i.slots c.args.self.now c.self.view_is c.self.invariant.0 i.listings.items c.as_slice-listings.result.now c.self.invariant.2 c.as_slice-listings.ensures.value
    c.args.of c.in-Some.class (sym c.in-Some.ensures) c.requires.there in
    record { ascends = subst Ascends (sym (c.in_ok-rows-in-Some.ensures.value ∙ same)) (rows_ascend i.meta i.next i.slots c.args.self.now c.self.view_is c.self.invariant.0 c.args.of) }

pub returns-in_ok-rows-in-Some-clause-value : goal.returns-in_ok-rows-in-Some-clause-value
returns-in_ok-rows-in-Some-clause-value g c =
    let i = c.self.inside in
    let same = rows_held i.meta i.next i.slots c.args.self.now c.self.view_is c.self.invariant.0 i.listings.items c.as_slice-listings.result.now c.self.invariant.2 c.as_slice-listings.ensures.value
    c.args.of c.in-Some.class (sym c.in-Some.ensures) c.requires.there in
    subst (λ rows. IfOk c.from_ascending.result (λ set. set.items ≡ rows)) (c.in_ok-rows-in-Some.ensures.value ∙ same) c.from_ascending.ensures

pub returns-in_ok-rows-in-Some-clause-bound : goal.returns-in_ok-rows-in-Some-clause-bound
returns-in_ok-rows-in-Some-clause-bound g c =
    let i = c.self.inside in
    let same = rows_held i.meta i.next i.slots c.args.self.now c.self.view_is c.self.invariant.0 i.listings.items c.as_slice-listings.result.now c.self.invariant.2 c.as_slice-listings.ensures.value
    c.args.of c.in-Some.class (sym c.in-Some.ensures) c.requires.there in
    subst (λ rows. c.rows_of_class.new.steps ≤ c.args.steps.now + length rows) same c.rows_of_class.ensures.bound

-- what can be listed has a class
pub returns-in-None-clause-value : goal.returns-in-None-clause-value
returns-in-None-clause-value g c =
    let i = c.self.inside in
    absurd (class_is_there i.meta i.next i.slots c.args.self.now c.self.view_is c.self.invariant.0 c.args.of c.requires.there (sym c.in-None.ensures))
