use Rattle.vt_tokens.proofs.QuotedLemmas.{strings}
use Rattle.vt_tokens.proofs.laws.strings_are_quoted.Goals as goal

pub returns : goal.returns
returns c = strings
