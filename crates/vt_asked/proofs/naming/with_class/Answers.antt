use Rattle.std.proofs.Common.{◌≡◌, rules}
use Rattle.std.specs.Prelude.{Some, None}
use Rattle.vt_graph.specs.Asked.{class_at}
use Rattle.vt_asked.proofs.NamedLemmas.{is_named, class_of_named}
use Rattle.vt_asked.proofs.naming.with_class.Goals as goal

pub returns-in-Some-clause-live : goal.returns-in-Some-clause-live
returns-in-Some-clause-live c =
    let told : class_at c.args.graph.now.model c.args.number ≡ Some c.in-Some.class = search rules in
    is_named c.args.graph.now.meta c.args.graph.now.model c.requires.valid c.args.name.now c.args.number c.in-Some.class c.requires.seen told

pub returns-in-None-clause-there : goal.returns-in-None-clause-there
returns-in-None-clause-there c =
    let none : class_at c.args.graph.now.model c.args.number ≡ None = search rules in
    absurd (class_of_named c.args.graph.now.meta c.args.graph.now.model c.requires.valid c.args.name.now c.args.number c.requires.seen none)
