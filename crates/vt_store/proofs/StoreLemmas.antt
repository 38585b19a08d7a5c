-- What keeps a store's model valid.
use Rattle.std.proofs.Common.{◌≡◌, ℕ, arith, refl, sym, subst}
use Rattle.std.specs.Prelude.{◌≤◌, ◌<◌}
use Rattle.std.proofs.lemmas.List.Elements.{All-weaker}
use Rattle.vt_graph.specs.Held.{Held}
use Rattle.vt_store.specs.Edits.{undone}
use Rattle.vt_store.specs.Undoing.{HeldEdit, Fits}
use Rattle.vt_model.specs.Metamodel.{Metamodel}
use Rattle.vt_model.specs.Model.{Model, empty_model}
use Rattle.vt_model.specs.Sound.{IsSound}
use Rattle.vt_model.specs.Valid.{IsValid}
use Rattle.vt_model.proofs.Valid.Empty.{IsValid-empty_model}
use Rattle.vt_model.proofs.Valid.FewerLinks.{LinkSide-stays}
use Rattle.vt_model.proofs.Valid.Sides.{IsValid-sides, LinkSide-valid}

-- the empty model is valid
pub valid_empty : (meta : Metamodel) → IsValid meta empty_model
valid_empty meta = IsValid-empty_model meta

-- with a greater next number a valid model is valid
pub valid_next : (meta : Metamodel) (g : Model) (n : ℕ) → IsValid meta g → g.next ≤ n → n ≤ 1048576 → IsValid meta (record g { next = n })
valid_next meta g n valid above below = IsValid-sides meta (record g { next = n }) (record {
  next_in_range = below;
  objects_rise = valid.objects_rise;
  gone_rise = valid.gone_rise;
  numbers_below = All-weaker (λ o. o.number.0 < g.next) (λ o. o.number.0 < n) (λ o less. omega arith) g.live valid.numbers_below;
  gone_below = All-weaker (λ o. o.number.0 < g.next) (λ o. o.number.0 < n) (λ o less. omega arith) g.gone valid.gone_below;
  numbers_differ = valid.numbers_differ;
  names_differ = valid.names_differ;
  names_free = valid.names_free;
  gone_names_free = valid.gone_names_free;
  classes_concrete = valid.classes_concrete;
  values_rise = valid.values_rise;
  values_fit = valid.values_fit;
  values_there = valid.values_there;
}) (LinkSide-stays meta g (record g { next = n }) (LinkSide-valid meta g valid) refl (λ x there. there))

-- after the next number rose
pub valid_after : (old new : Held) (n : ℕ) → IsSound old.meta × IsValid old.meta old.model → new.meta ≡ old.meta → new.model ≡ record old.model { next = n }
    → old.model.next ≤ n → n ≤ 1048576 → IsSound new.meta × IsValid new.meta new.model
valid_after old new n was meta model above below =
    (subst IsSound (sym meta) was.0, subst (λ m. IsValid m new.model) (sym meta) (subst (IsValid old.meta) (sym model) (valid_next old.meta old.model n was.1 above below)))

-- after an edit that fits was taken back
pub valid_reverted : (old new : Held) (e : HeldEdit) → IsSound old.meta × IsValid old.meta old.model → Fits e old → new.meta ≡ old.meta → new.model ≡ undone e.edit old.model
    → IsSound new.meta × IsValid new.meta new.model
valid_reverted old new e was fits meta model =
    (subst IsSound (sym meta) was.0, subst (λ m. IsValid m new.model) (sym meta) (subst (IsValid old.meta) (sym model) fits.valid))
