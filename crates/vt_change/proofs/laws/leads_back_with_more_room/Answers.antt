use Rattle.std.proofs.Common.{reverse}
use Rattle.vt_change.proofs.LeadLemmas.{LeadBack-more}
use Rattle.vt_change.proofs.laws.leads_back_with_more_room.Goals as goal

pub returns : goal.returns
returns c before s t applied = LeadBack-more (reverse applied.edits) before s t
