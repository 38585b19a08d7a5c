use Rattle.vt_delta.specs.Changes.{change_of}
use Rattle.vt_memory.proofs.TestLemmas.{stands_now}
use Rattle.vt_memory.proofs.tests.net.stands.Goals as goal

pub returns-clause-is : goal.returns-clause-is
returns-clause-is g c =
    stands_now (change_of c.args.side.delta.now) c.args.side.memory.now.rows c.args.row.now c.still.result c.contains-stood.result c.contains-came.result c.contains-went.result
    c.still.ensures c.contains-stood.ensures.stands c.contains-came.ensures c.contains-went.ensures
