use Rattle.vt_delta.proofs.EachLemmas.{AreEach-turned}
use Rattle.vt_delta.proofs.laws.deltas_turn_with_their_rows.Goals as goal

pub returns : goal.returns
returns c is was turn old new n turned each there others = AreEach-turned is was turn old new n turned each there others
