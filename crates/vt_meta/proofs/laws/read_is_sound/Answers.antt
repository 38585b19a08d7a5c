use Rattle.vt_meta.proofs.Sound.{IsSound-meta_of}
use Rattle.vt_meta.proofs.laws.read_is_sound.Goals as goal

pub returns : goal.returns
returns c = IsSound-meta_of
