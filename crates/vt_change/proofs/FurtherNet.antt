-- Rows that go and then come, one after the other: the net change stays net.
use Rattle.std.proofs.Common.{◌≡◌, Bool, true, false, not, ◌&&◌, ◌||◌, List, [], ◌∷◌, refl, sym, ap, ◌∙◌}
use Rattle.std.proofs.lemmas.Bool.{true≢false}
use Rattle.std.specs.Prelude.{fold}
use Rattle.std.specs.Ordering.{eq_by_cmp}
use Rattle.vt_sorted.specs.Ascending.{with_item, without_item}
use Rattle.vt_base.specs.Order.{tuple_cmp}
use Rattle.vt_base.specs.Rows.{Ascends, has_row}
use Rattle.vt_delta.specs.Changes.{net, without, after_coming, after_going}
use Rattle.vt_base.specs.declared.value.Value.{Value}
use Rattle.vt_base.specs.Inside.OrderLaws.{IsTotalOrder-tuple_cmp}
use Rattle.vt_base.proofs.OrderLemmas.{exact-tuple_cmp, eq_by_cmp-Decides}
use Rattle.vt_base.proofs.RowsLemmas.{first_below, rest_ascends, has-below}
use Rattle.vt_delta.proofs.DeltaLemmas.{same_row, has-without, has-with_item, has-without_item, Ascends-without, Ascends-with_item, Ascends-without_item, applied-net}
use Rattle.vt_delta.proofs.NetLemmas.{after_coming-net, after_going-net, removed_all}

is_first : (q : List Value) (rows : List (List Value)) → has_row (q ∷ rows) q ≡ true
is_first q rows = ap (λ b. b || has_row rows q) ((eq_by_cmp-Decides IsTotalOrder-tuple_cmp exact-tuple_cmp q q).1 refl)

is_later : (a b : Bool) → b ≡ true → (a || b) ≡ true
is_later true b e = refl
is_later false b e = e

-- what stands behind the first row of rows that ascend is another
is_other : (q : List Value) (rows : List (List Value)) → Ascends (q ∷ rows) → (row : List Value) → has_row rows row ≡ true → eq_by_cmp tuple_cmp row q ≡ false
is_other q rows rise row there = by (eq_by_cmp tuple_cmp row q) refl
  where
    by : (b : Bool) → eq_by_cmp tuple_cmp row q ≡ b → b ≡ false
    by false e = refl
    by true e =
        let none : has_row rows row ≡ false = rw (same_row row q e) (has-below tuple_cmp q rows (first_below tuple_cmp q rows rise)) in
        absurd (true≢false (sym there ∙ none))

module _ (start : List (List Value)) (start_rise : Ascends start) where
  -- rows that stand go
  net-gone : (gone now : List (List Value)) → Ascends now → Ascends gone → ((row : List Value) → has_row gone row ≡ true → has_row now row ≡ true)
      → fold after_going (net start now) gone ≡ net start (fold (without_item tuple_cmp) now gone)
  net-gone [] now rise gone_rise stand = refl
  net-gone (q ∷ gone) now rise gone_rise stand =
      ap (λ change. fold after_going change gone) (after_going-net start now q start_rise rise (stand q (is_first q gone)))
      ∙ net-gone gone (without_item tuple_cmp now q) (Ascends-without_item now q rise) (rest_ascends tuple_cmp q gone gone_rise) still
    where
      still : (row : List Value) → has_row gone row ≡ true → has_row (without_item tuple_cmp now q) row ≡ true
      still row there = has-without_item now q row
          ∙ ap (λ b. b && not (eq_by_cmp tuple_cmp row q)) (stand row (is_later (eq_by_cmp tuple_cmp row q) (has_row gone row) there))
          ∙ ap not (is_other q gone gone_rise row there)

  -- rows that don't stand come
  net-come : (more now : List (List Value)) → Ascends now → Ascends more → ((row : List Value) → has_row more row ≡ true → has_row now row ≡ false)
      → fold after_coming (net start now) more ≡ net start (fold (with_item tuple_cmp) now more)
  net-come [] now rise more_rise new = refl
  net-come (q ∷ more) now rise more_rise new =
      ap (λ change. fold after_coming change more) (after_coming-net start now q start_rise rise (new q (is_first q more)))
      ∙ net-come more (with_item tuple_cmp now q) (Ascends-with_item now q rise) (rest_ascends tuple_cmp q more more_rise) still
    where
      still : (row : List Value) → has_row more row ≡ true → has_row (with_item tuple_cmp now q) row ≡ false
      still row there = has-with_item now q row
          ∙ ap (λ b. b || has_row now row) (is_other q more more_rise row there)
          ∙ new row (is_later (eq_by_cmp tuple_cmp row q) (has_row more row) there)

  -- so where the rows change from the ones to the others
  pub net-further : (now later : List (List Value)) → Ascends now → Ascends later
      → fold after_coming (fold after_going (net start now) (without later now)) (without now later) ≡ net start later
  net-further now later rise later_rise =
      ap (λ change. fold after_coming change (without now later))
      (net-gone (without later now) now rise (Ascends-without later now rise) stand ∙ ap (net start) (removed_all (without later now) now))
      ∙ net-come (without now later) (without (without later now) now) (Ascends-without (without later now) now rise) (Ascends-without now later later_rise) new
      ∙ ap (net start) (applied-net now later rise later_rise)
    where
      first : (a b : Bool) → (a && b) ≡ true → a ≡ true
      first true b e = refl
      first false b e = absurd (true≢false (sym e))

      no_second : (a b c : Bool) → (a && not b) ≡ true → (b && c) ≡ false
      no_second true true c e = absurd (true≢false (sym e))
      no_second true false c e = refl
      no_second false b c e = absurd (true≢false (sym e))

      stand : (row : List Value) → has_row (without later now) row ≡ true → has_row now row ≡ true
      stand row there = first (has_row now row) (not (has_row later row)) (sym (has-without later now row) ∙ there)

      new : (row : List Value) → has_row (without now later) row ≡ true → has_row (without (without later now) now) row ≡ false
      new row there = has-without (without later now) now row
          ∙ no_second (has_row later row) (has_row now row) (not (has_row (without later now) row)) (sym (has-without now later row) ∙ there)
