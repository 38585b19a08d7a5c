use Rattle.vt_store.proofs.MakesLemmas.{makes_that}
use Rattle.vt_store.proofs.changing.make.Goals as goal

-- the change is that one
pub returns-in-Create : goal.returns-in-Create
returns-in-Create c = makes_that _ _ _ _ _ c.in-Create.is c.create.ensures

pub returns-in-Delete : goal.returns-in-Delete
returns-in-Delete c = makes_that _ _ _ _ _ c.in-Delete.is c.delete.ensures

pub returns-in-Set : goal.returns-in-Set
returns-in-Set c = makes_that _ _ _ _ _ c.in-Set.is c.set.ensures

pub returns-in-Unset : goal.returns-in-Unset
returns-in-Unset c = makes_that _ _ _ _ _ c.in-Unset.is c.unset.ensures

pub returns-in-Link : goal.returns-in-Link
returns-in-Link c = makes_that _ _ _ _ _ c.in-Link.is c.link.ensures

pub returns-in-Unlink : goal.returns-in-Unlink
returns-in-Unlink c = makes_that _ _ _ _ _ c.in-Unlink.is c.unlink.ensures

pub returns-in-Move : goal.returns-in-Move
returns-in-Move c = makes_that _ _ _ _ _ c.in-Move.is c.move_to.ensures
