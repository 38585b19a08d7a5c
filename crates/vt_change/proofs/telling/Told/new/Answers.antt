use Rattle.std.proofs.Common.{◌≡◌, length, replicate}
use Rattle.vt_delta.specs.Changes.{no_change, changes_of}
use Rattle.vt_change.proofs.ToldLemmas.{IsTold-none}
use Rattle.vt_change.proofs.telling.Told.new.Goals as goal

-- there is an empty delta for each number
pub returns : goal.returns
returns c g =
    let meta = c.args.meta.now in
    let delta = c.none-delta.result in
    let classes : changes_of delta.classes ≡ replicate (length meta.classes) no_change = cc (c.none-delta.ensures.classes, c.from.ensures, c.class_count.ensures) in
    let attributes : changes_of delta.attributes ≡ replicate (length meta.attributes) no_change = cc (c.none-delta.ensures.attributes, c.from-2.ensures, c.attr_count.ensures) in
    let references : changes_of delta.references ≡ replicate (length meta.references) no_change = cc (c.none-delta.ensures.references, c.from-3.ensures, c.ref_count.ensures) in
    IsTold-none meta g (record { delta = delta; values = c.new.result }) classes attributes references c.new.ensures
