use Rattle.vt_facts.proofs.LineLemmas.{lines_of-fed, lines_of-returned, lines_of-last}
use Rattle.vt_facts.proofs.laws.a_line_ends_with_a_line_feed.Goals as goal

pub returns-clause-fed : goal.returns-clause-fed
returns-clause-fed c = lines_of-fed

pub returns-clause-returned : goal.returns-clause-returned
returns-clause-returned c = lines_of-returned

pub returns-clause-last : goal.returns-clause-last
returns-clause-last c = lines_of-last
