-- The events of a pattern, by what its rows were and are.
use Rattle.std.proofs.Common.{◌≡◌, Bool, true, not, ◌&&◌, List, sym, ap, ◌∙◌}
use Rattle.std.specs.Prelude.{filter}
use Rattle.std.proofs.lemmas.Cmp.{eq_by_cmp_equiv}
use Rattle.std.proofs.lemmas.Map.Made.{is_member-filter}
use Rattle.vt_facts.proofs.BoolLemmas.{and_left, and_right, not_true}
use Rattle.vt_base.specs.Rows.{Ascends, has_row}
use Rattle.vt_delta.specs.Deltas.{without}
use Rattle.vt_base.specs.Inside.OrderLaws.{IsTotalOrder-tuple_cmp}
use Rattle.vt_base.specs.declared.numbers.ObjId.{ObjId}
use Rattle.vt_base.specs.declared.value.Value.{Value}
use Rattle.vt_base.proofs.OrderLemmas.{exact-tuple_cmp, eq_by_cmp-Decides}
use Rattle.vt_delta.proofs.DeltaLemmas.{has-without}
use Rattle.vt_model.specs.Model.{Model}
use Rattle.vt_model.specs.Touched.{AreTouched}
use Rattle.vt_history.specs.Events.{IsCreated, IsUpdated, AreThose, HasChanged}
use Rattle.vt_history.specs.Report.{HoldLive}
use Rattle.vt_history.specs.Inside.Touching.{touches}
use Rattle.vt_history.proofs.TouchingLemmas.{among-touches, touches-among}

has-filter : (p : List Value → Bool) (rows : List (List Value)) (row : List Value) → has_row (filter p rows) row ≡ (has_row rows row && p row)
has-filter p rows row =
    is_member-filter (eq_by_cmp_equiv IsTotalOrder-tuple_cmp) p row
    (λ r same. ap p ((eq_by_cmp-Decides IsTotalOrder-tuple_cmp exact-tuple_cmp row r).0 same)) rows

both : (a b : Bool) → a ≡ true → b ≡ true → (a && b) ≡ true
both a b e f = cc (ap (λ c. c && b) e)

-- what is in the second list and not in the first was created
pub are_created : (old new rows : List (List Value)) → rows ≡ without old new → Ascends rows → AreThose (IsCreated old new) rows
are_created old new rows is rise = record {
  ascend = rise;
  each = λ row. (λ there. told row (has-without old new row) (sym (ap (λ all. has_row all row) is) ∙ there), λ created. ap (λ all. has_row all row) is ∙ has-without old new row ∙ both (has_row new row) (not (has_row old row)) created.1 (ap not created.0));
}
  where
    told : (row : List Value) → has_row (without old new) row ≡ (has_row new row && not (has_row old row)) → has_row (without old new) row ≡ true → IsCreated old new row
    told row means there =
        let parts : (has_row new row && not (has_row old row)) ≡ true = sym means ∙ there in
        (not_true (has_row old row) (and_right (has_row new row) (not (has_row old row)) parts), and_left (has_row new row) (not (has_row old row)) parts)

module _ (g h : Model) (objects : List ObjId) (touched : AreTouched g h objects) (old new : List (List Value)) (live_before : HoldLive g old) (live_after : HoldLive h new) where
  -- a tuple of both lists holds a touched object where one of its objects has other values
  touches-HasChanged : (row : List Value) → touches objects row ≡ true → HasChanged g h row
  touches-HasChanged row is =
      let found = among-touches objects row is in
      record { object = found.0; among = found.1; other = ((touched.each found.0).0 found.2).2 }

  HasChanged-touches : (row : List Value) → has_row old row ≡ true → has_row new row ≡ true → HasChanged g h row → touches objects row ≡ true
  HasChanged-touches row was is changed =
      touches-among objects row changed.object changed.among
      ((touched.each changed.object).1 (live_before row was changed.object changed.among, live_after row is changed.object changed.among, changed.other))

  -- what is in both lists and holds a touched object was updated
  pub are_updated : (rows : List (List Value)) → rows ≡ filter (λ row. touches objects row && has_row old row) new → Ascends rows
      → AreThose (IsUpdated g h old new) rows
  are_updated rows is rise = record {
    ascend = rise;
    each = λ row. (λ there. told row (sym (means row) ∙ there), λ updated. means row ∙ back row updated);
  }
    where
      means : (row : List Value) → has_row rows row ≡ (has_row new row && (touches objects row && has_row old row))
      means row = ap (λ all. has_row all row) is ∙ has-filter (λ row. touches objects row && has_row old row) new row

      told : (row : List Value) → (has_row new row && (touches objects row && has_row old row)) ≡ true → IsUpdated g h old new row
      told row parts =
          let rest = and_right (has_row new row) (touches objects row && has_row old row) parts in
          (and_right (touches objects row) (has_row old row) rest, and_left (has_row new row) (touches objects row && has_row old row) parts, touches-HasChanged row (and_left (touches objects row) (has_row old row) rest))

      back : (row : List Value) → IsUpdated g h old new row → (has_row new row && (touches objects row && has_row old row)) ≡ true
      back row updated = both (has_row new row) (touches objects row && has_row old row) updated.1
          (both (touches objects row) (has_row old row) (HasChanged-touches row updated.0 updated.1 updated.2) updated.0)
