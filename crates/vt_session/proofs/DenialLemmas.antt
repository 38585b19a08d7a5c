-- What calls on buffers are due to answer.
use Rattle.std.proofs.Common.{◌≡◌, ℕ, ◌<◌, true, false, List, [], ◌∷◌, ◌++◌, length, get_or, Option, Some, None, Ok, Err, refl, sym, ap, ◌∙◌}
use Rattle.std.specs.Prelude.{position, slice_get, slice_set, nat_le, is_some, if◌then◌else◌}
use Rattle.std.proofs.lemmas.Bool.{eq-eqb, ne_eqb}
use Rattle.std.proofs.lemmas.Option.{slice_get-get_or}
use Rattle.vt_facts.proofs.PositionLemmas.{IsAt-position}
use Rattle.vt_model.specs.declared.change.Change.{Change}
use Rattle.vt_session.specs.declared.buffers.Buffer.{Buffer}
use Rattle.vt_session.specs.declared.fault.SessionFault.TheVariants as fault
use Rattle.vt_session.specs.Buffers.{already_open, too_many_open, not_open, too_many_changes, buffer_of, without_buffer, with_change, begun, changed, changed_in}
use Rattle.vt_session.specs.Session.{IsDenied}
use Rattle.vt_session.specs.Inside.Order.{HaveOneEach}
use Rattle.vt_session.proofs.BufferLemmas.{is_of, only-position, find-only, find-none, none-position, without-none, HaveOneEach-push, set-only}

module _ (client : List ℕ) (buffers : List Buffer) where
  -- ---- what a search tells

  -- the buffer at the place that a search gives
  pub record IsFound (i : ℕ) (b : Buffer) : Type 0 where
    pub is : buffer_of client buffers ≡ Some b
    pub there : slice_get buffers i ≡ Some b
    pub in_range : i < length buffers

  pub found_at : HaveOneEach buffers → (i : ℕ) → position (is_of client) buffers ≡ Some i → (b : Buffer) × IsFound i b
  found_at once i at =
      let place = IsAt-position (is_of client) buffers i at in
      (place.item, record { is = find-only (is_of client) buffers i (only-position client buffers i once at) ∙ place.there; there = place.there; in_range = place.in_range })

  -- it is what is read there
  pub read_at : (i : ℕ) (x : Buffer) → HaveOneEach buffers → position (is_of client) buffers ≡ Some i → x ≡ get_or buffers i x → slice_get buffers i ≡ Some x
  read_at i x once at is = slice_get-get_or buffers i x (found_at once i at).1.in_range ∙ ap Some (sym is)

  pub buffer_read : (i : ℕ) (x : Buffer) → HaveOneEach buffers → position (is_of client) buffers ≡ Some i → x ≡ get_or buffers i x → buffer_of client buffers ≡ Some x
  buffer_read i x once at is = find-only (is_of client) buffers i (only-position client buffers i once at) ∙ read_at i x once at is

  pub none_found : position (is_of client) buffers ≡ None → buffer_of client buffers ≡ None
  none_found none = find-none (is_of client) buffers (none-position (is_of client) buffers none)

  pub stood : HaveOneEach buffers → is_some (position (is_of client) buffers) ≡ is_some (buffer_of client buffers)
  stood once = by (position (is_of client) buffers) refl
    where
      by : (r : Option ℕ) → position (is_of client) buffers ≡ r → is_some r ≡ is_some (buffer_of client buffers)
      by None none = sym (ap is_some (none_found none))
      by (Some i) at = sym (ap is_some (found_at once i at).1.is)

  -- ---- begin

  abbrev pub opened : List Buffer
  opened = buffers ++ record { client = client; changes = [] } ∷ []

  -- a search without a result finds nothing
  pub none_at : is_some (position (is_of client) buffers) ≡ false → position (is_of client) buffers ≡ None
  none_at none = by (position (is_of client) buffers) none
    where
      by : (r : Option ℕ) → is_some r ≡ false → r ≡ None
      by None e = refl
      by (Some i) e = cc

  pub opened_once : HaveOneEach buffers → is_some (position (is_of client) buffers) ≡ false → HaveOneEach opened
  opened_once once none =
      HaveOneEach-push buffers (record { client = client; changes = [] }) once (none-position (is_of client) buffers (none_at none))

  pub already_open_due : is_some (buffer_of client buffers) ≡ true → IsDenied fault.AlreadyOpen (begun client buffers)
  already_open_due is = (already_open, ap (λ b. if b then Err already_open else (if nat_le 64 (length buffers) then Err too_many_open else Ok opened)) is, refl)

  pub too_many_due : is_some (buffer_of client buffers) ≡ false → nat_le 64 (length buffers) ≡ true → IsDenied fault.TooManyOpen (begun client buffers)
  too_many_due none many = (
    too_many_open,
    ap (λ b. if b then Err already_open else (if nat_le 64 (length buffers) then Err too_many_open else Ok opened)) none
        ∙ ap (λ b. if b then Err too_many_open else Ok opened) many,
    refl,
  )

  pub begun_due : is_some (buffer_of client buffers) ≡ false → nat_le 64 (length buffers) ≡ false → begun client buffers ≡ Ok opened
  begun_due none few =
      ap (λ b. if b then Err already_open else (if nat_le 64 (length buffers) then Err too_many_open else Ok opened)) none
      ∙ ap (λ b. if b then Err too_many_open else Ok opened) few

  -- ---- change

  module _ (change : Change) where
    pub not_open_due : buffer_of client buffers ≡ None → IsDenied fault.NotOpen (changed client change buffers)
    not_open_due none = (not_open, ap (changed_in client change buffers) none, refl)

    module _ (b : Buffer) (found : buffer_of client buffers ≡ Some b) where
      pub too_many_changes_due : length b.changes ≡ 65536 → IsDenied fault.TooManyChanges (changed client change buffers)
      too_many_changes_due full = (
        too_many_changes,
        ap (changed_in client change buffers) found
            ∙ ap (λ t. if t then Err too_many_changes else Ok (with_change client change buffers)) (eq-eqb (length b.changes) 65536 full),
        refl,
      )

      pub changed_due : (length b.changes ≡ 65536 → ⊥) → changed client change buffers ≡ Ok (with_change client change buffers)
      changed_due room =
          ap (changed_in client change buffers) found
          ∙ ap (λ t. if t then Err too_many_changes else Ok (with_change client change buffers)) (ne_eqb (length b.changes) 65536 room)

    -- a change that is pushed to the buffer at its place
    pub pushed : (i : ℕ) (x : Buffer) (after : List Change) → HaveOneEach buffers → position (is_of client) buffers ≡ Some i → x ≡ get_or buffers i x → after ≡ x.changes ++ change ∷ []
        → slice_set buffers i (record { client = x.client; changes = after }) ≡ with_change client change buffers
    pushed i x after once at is grown =
        ap (λ changes. slice_set buffers i (record { client = x.client; changes = changes })) grown
        ∙ set-only (is_of client) (λ b. record b { changes = b.changes ++ change ∷ [] }) buffers i x (only-position client buffers i once at) (read_at i x once at is)

  -- ---- the end of a buffer

  pub nothing_ends : position (is_of client) buffers ≡ None → buffers ≡ without_buffer client buffers
  nothing_ends none = sym (without-none (is_of client) buffers (none-position (is_of client) buffers none))
