use Rattle.std.proofs.Common.{◌∙◌}
use Rattle.vt_cli.proofs.FetchLemmas.{turn_goes_on, turn_ends}
use Rattle.vt_cli.proofs.fetching.fetch_files.Goals as goal

-- the file isn't answered with bytes
pub returns-in-Err-clause-ended : goal.returns-in-Err-clause-ended
returns-in-Err-clause-ended g c =
    turn_ends _ _ _ _ _ _ _ _ _ _ _ _ _ c.each.invariant.1 c.in-Some.ensures.cases.0 c.in-Some-split_first.ensures.cases.0 c.each.invariant.0
    c.in_ok-bytes.field-0 c.in-Err.outcome _ c.in-Err.is c.in_ok-bytes.ensures.ended

-- it is, and its bytes are kept
pub each-preserved : goal.each-preserved
each-preserved g c = (
  c.fetch_file.ensures.files ∙ c.each.invariant.0,
  turn_goes_on _ _ _ _ _ _ _ _ _ _ _ _ _ c.each.invariant.1 c.in-Some.ensures.cases.0 c.in-Some-split_first.ensures.cases.0 c.each.invariant.0
      c.in_ok-bytes.field-0 c.in-Ok.bytes _ c.in-Ok.is c.in_ok-bytes.ensures.fetched c.in_ok-add-in-Ok.ensures.added,
)
