use Rattle.std.proofs.Common.{◌≡◌, drop}
use Rattle.vt_cli.specs.Texts.{text_of}
use Rattle.vt_cli.specs.Inside.Prepared.{AreSmall}
use Rattle.vt_cli.proofs.fetching.text_of.Given as goal

-- none of those before has the role
abbrev pub invariant-loop-text : goal.invariant-loop-text
invariant-loop-text l = (text_of l.role (drop l.text-index l.texts) ≡ text_of l.fn.role l.fn.texts) × AreSmall (drop l.text-index l.texts)
