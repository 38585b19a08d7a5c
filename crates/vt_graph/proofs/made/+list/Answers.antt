-- The classes behind the first have listings; where they fail, the first object is taken out again.
use Rattle.std.proofs.Common.{◌≡◌, ◌<◌, length, sym, subst, arith, All}
use Rattle.std.proofs.lemmas.Result.{on_err_weaker}
use Rattle.std.proofs.lemmas.List.Elements.{All-head}
use Rattle.vt_base.specs.declared.numbers.ClassId.{ClassId}
use Rattle.vt_graph.proofs.MadeLemmas.{rest_there, taken_back}
use Rattle.vt_graph.proofs.made.+list.Goals as goal

pub list-others-requires : goal.list-others-requires
list-others-requires t c = (
  (let a : length c.args.classes.now ≡ t = c.decreases in let b = c.in-Some.ensures.cases.1 in let less : length c.in-Some.rest.now < t = omega arith in less),
  rest_there c.args.listings.now.items c.args.classes.now c.in-Some.rest.now c.in-Some.c.now c.from-c.result c.add.new.self c.in-Some.ensures.cases.0 c.requires,
)

pub returns-then-is_err-clause-unchanged : goal.returns-then-is_err-clause-unchanged
returns-then-is_err-clause-unchanged t c =
    let there : c.from-c.result < length c.args.listings.now.items =
    subst (λ n. n < length c.args.listings.now.items) (sym c.from-c.ensures)
    (All-head (λ (d : ClassId). d.0 < length c.args.listings.now.items) c.in-Some.c.now c.in-Some.rest.now (subst (All (λ (d : ClassId). d.0 < length c.args.listings.now.items)) c.in-Some.ensures.cases.0 c.requires)) in
    on_err_weaker c.list-others.result
    (λ changed. taken_back c.args.listings.now.items c.list-others.new.listings.items c.from-c.result c.args.o c.index_mut.result.now c.add.new.self c.index_mut-then-is_err.result.now c.pop.new.self c.pop.result
    there c.index_mut.ensures.value c.in_ok-add.ensures.added changed c.index_mut-then-is_err.ensures.value c.pop.ensures)
    c.list-others.ensures.unchanged
