use Rattle.std.proofs.Common.{[], length, refl, sym, ap, ◌∙◌, subst, arith}
use Rattle.slab.proofs.SlabLemmas.{length-entries}
use Rattle.vt_memory.specs.Inside.Indexed.{with_entries}
use Rattle.vt_memory.proofs.SetLemmas.{AreNew, are_new}
use Rattle.vt_memory.proofs.memory.Memory.fill.Goals as goal

pub loop-row-init : goal.loop-row-init
loop-row-init c =
    let left = c.into_iter-row-iterator.ensures.into_iter_gives in
    let es = c.into_iter-row-iterator.result in
    record {
      can_next = tt;
      is_finite = tt;
      new = subst (λ rows. AreNew rows es) (sym c.requires.empty) (subst (AreNew []) (sym left) (are_new c.args.slab c.requires.alone));
      rows = ap (λ rows. with_entries rows es) c.requires.empty ∙ ap (with_entries []) left;
      keys = refl;
      room = omega (arith, ap length left, length-entries c.args.slab);
    }
