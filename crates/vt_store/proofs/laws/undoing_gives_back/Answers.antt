use Rattle.vt_store.proofs.UndoneLemmas.{undone-edit_of}
use Rattle.vt_store.proofs.laws.undoing_gives_back.Goals as goal

pub returns : goal.returns
returns c = undone-edit_of
