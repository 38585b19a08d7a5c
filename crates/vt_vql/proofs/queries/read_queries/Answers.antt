use Rattle.std.proofs.Common.{sym, ap, refl, rules, subst, Err}
use Rattle.vt_tokens.specs.Spelling.{IsBadAt}
use Rattle.std.proofs.lemmas.Str.{is_utf8-from_IsUtf8}
use Rattle.vt_vql.proofs.FileLemmas.{no_text, bad_in, accepts, is_not_narrow}
use Rattle.vt_vql.proofs.NarrowLemmas.{made_narrow, made_well_formed}
use Rattle.vt_vql.proofs.queries.read_queries.Goals as goal

-- the bytes are no text
pub returns-in_default-clause-refused : goal.returns-in_default-clause-refused
returns-in_default-clause-refused c = (no_text c.args.bytes.now c.in_default.ensures.cases.0, refl)

-- a text that is bad
pub returns-in-Err-Bad-clause-refused : goal.returns-in-Err-Bad-clause-refused
returns-in-Err-Bad-clause-refused c =
    let bad = c.in-Err-Bad.ensures.refused c.in-Err-Bad.line (ap Err c.in-Err-Bad.field-0-is) in (
      is_utf8-from_IsUtf8 c.args.bytes.now c.in-Ok.ensures.cases.1,
      subst (IsBadAt c.args.bytes.now) (sym c.in-Err-Bad.line-is) (bad_in c.args.bytes.now c.in-Ok.text.now c.in-Err-Bad.line c.in-Ok.ensures.cases.0 bad),
    )

pub returns-in-Ok-program_of-clause-accepted : goal.returns-in-Ok-program_of-clause-accepted
returns-in-Ok-program_of-clause-accepted c =
    accepts c.args.meta.now c.args.bytes.now c.in-Ok.text.now c.in-Ok-tokens.tokens c.as_slice-2.result.now c.in-Ok-program_of.program
    (is_utf8-from_IsUtf8 c.args.bytes.now c.in-Ok.ensures.cases.1) c.in-Ok.ensures.cases.0 c.in-Ok-tokens.ensures.accepted (search (rules, c.in_ok-lexemes.ensures)) c.in-Ok-program_of.ensures.accepted

pub returns-in-Err-NotNarrow-clause-refused : goal.returns-in-Err-NotNarrow-clause-refused
returns-in-Err-NotNarrow-clause-refused c = (
  is_not_narrow c.args.meta.now c.args.bytes.now c.in-Ok.text.now c.in-Ok-tokens.tokens c.as_slice-2.result.now
      (is_utf8-from_IsUtf8 c.args.bytes.now c.in-Ok.ensures.cases.1) c.in-Ok.ensures.cases.0 c.in-Ok-tokens.ensures.accepted (search (rules, c.in_ok-lexemes.ensures)) (c.in-Err-NotNarrow.ensures.refused cc),
  refl,
)

-- what patterns make is in order and narrow
pub returns-in-Ok-program_of-clause-well_formed : goal.returns-in-Ok-program_of-clause-well_formed
returns-in-Ok-program_of-clause-well_formed c =
    let made = c.in-Ok-program_of.ensures.accepted in
    made_well_formed c.args.meta.now made.0 c.in-Ok-program_of.program made.2

pub returns-in-Ok-program_of-clause-narrow : goal.returns-in-Ok-program_of-clause-narrow
returns-in-Ok-program_of-clause-narrow c =
    let made = c.in-Ok-program_of.ensures.accepted in
    made_narrow c.args.meta.now made.0 c.in-Ok-program_of.program made.2
