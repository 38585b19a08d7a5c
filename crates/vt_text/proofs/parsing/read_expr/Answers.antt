use Rattle.std.proofs.Common.{rules}
use Rattle.vt_grammar.specs.Grammar.{Spells}
use Rattle.vt_text.specs.ExpressionRules.{expression}
use Rattle.vt_text.proofs.MeantLemmas.{accepted_of, refused_of}
use Rattle.vt_text.proofs.parsing.read_expr.Goals as goal

-- what is meant by the tree that was read
pub returns-in-Some-clause-accepted : goal.returns-in-Some-clause-accepted
returns-in-Some-clause-accepted g c =
    let spelled : Spells (expression c.args.attributes) c.args.lexemes.now c.in-Some.tree = search (rules, c.in_ok-tree.ensures, c.in-Some.is) in
    accepted_of c.args.attributes (g.N.Names.enums c.args.names.now) c.args.lexemes.now c.in-Some.tree spelled c.resolve.result c.resolve.ensures.accepted

-- and its fault
pub returns-in-Some-clause-refused : goal.returns-in-Some-clause-refused
returns-in-Some-clause-refused g c =
    let spelled : Spells (expression c.args.attributes) c.args.lexemes.now c.in-Some.tree = search (rules, c.in_ok-tree.ensures, c.in-Some.is) in
    refused_of c.args.attributes (g.N.Names.enums c.args.names.now) c.args.lexemes.now c.in-Some.tree spelled c.resolve.result c.resolve.ensures.refused
