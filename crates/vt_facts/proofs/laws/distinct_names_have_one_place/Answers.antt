use Rattle.vt_facts.proofs.NameLemmas.{one_place}
use Rattle.vt_facts.proofs.laws.distinct_names_have_one_place.Goals as goal

pub returns : goal.returns
returns c names name i j once at too = one_place names name i j once at too
