use Rattle.vt_store.proofs.FitLemmas.{Fits-more}
use Rattle.vt_store.proofs.laws.fits_with_more_room.Goals as goal

pub returns : goal.returns
returns c = Fits-more
