use Rattle.std.proofs.Common.{◌≡◌, sym, ◌∙◌, ap}
use Rattle.vt_vql.specs.Resolving.{narrow_program}
use Rattle.vt_vql.proofs.FileLemmas.{nothing_made}
use Rattle.vt_vql.proofs.queries.program_of.Goals as goal

-- the tree that was read is the only one
pub returns-in-Ok-clause-refused : goal.returns-in-Ok-clause-refused
returns-in-Ok-clause-refused c = λ e tree spelled.
    let same : c.in-Ok.tree ≡ tree = cc (c.in-Ok.ensures.only tree spelled (λ q. cc)) in
    ap (narrow_program c.args.meta.now) (sym same) ∙ nothing_made c.narrow_program.result (narrow_program c.args.meta.now c.in-Ok.tree) c.narrow_program.ensures e

-- no tree was read, so there is none
pub returns-in-Err-Fault-clause-refused : goal.returns-in-Err-Fault-clause-refused
returns-in-Err-Fault-clause-refused c = λ e tree spelled. absurd (let h = c.in-Err-Fault.ensures.only tree spelled (λ q. cc) in cc)
