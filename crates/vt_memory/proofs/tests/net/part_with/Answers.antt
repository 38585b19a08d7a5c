use Rattle.vt_delta.specs.Changes.{change_of}
use Rattle.vt_memory.proofs.TestLemmas.{fits_net}
use Rattle.vt_memory.proofs.tests.net.part_with.Goals as goal

pub returns : goal.returns
returns g c =
    fits_net c.in_ok-memory.memory.rows c.in_ok-old.old.items c.in_ok-new.new.items (change_of c.in_ok-delta.delta) c.in_ok-memory.ensures c.in_ok-delta.ensures
