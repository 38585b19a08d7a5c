use Rattle.std.proofs.Common.{◌≡◌, ◌+◌, Some, None, Ok, Err, refl, sym, subst, ap, ◌∙◌}
use Rattle.std.specs.Prelude.{map, position}
use Rattle.vt_model.specs.Transaction.{transaction}
use Rattle.vt_change.specs.declared.fault.ApplyFault.TheVariants as apply
use Rattle.vt_session.specs.declared.fault.SessionFault.TheVariants as fault
use Rattle.vt_session.specs.Run.{State, committed}
use Rattle.vt_session.specs.Session.{Kept, StandsFor, IsDenied, Commits}
use Rattle.vt_session.specs.Inside.Next.{IsNext}
use Rattle.vt_session.proofs.BufferLemmas.{is_of}
use Rattle.vt_session.proofs.DenialLemmas.{none_found, buffer_read}
use Rattle.vt_session.proofs.StateLemmas.{not_open_due, refused_due, commits}
use Rattle.vt_session.proofs.session.Session.commit.Goals as goal

-- the client has no buffer
pub returns-in_default-clause-refused : goal.returns-in_default-clause-refused
returns-in_default-clause-refused g c =
    let client = c.args.client.now in
    let old : Kept = record { meta = c.self.inside.store.meta; program = c.self.inside.program; model = c.self.inside.store.model; tables = map (λ rows. rows.items) c.self.inside.tables; step = c.self.inside.step; buffers = c.self.inside.buffers.items } in
    let none : position (is_of client) old.buffers ≡ None = sym (ap (position (is_of c.args.client.now)) c.deref.ensures.value) ∙ sym c.place_of.ensures ∙ c.in_default.is in
    subst (λ (kept : Kept). (state : State) → StandsFor kept state → IsDenied fault.NotOpen (committed kept.meta client state)) c.self.view_is
    (λ state stands. not_open_due client old state stands (none_found client old.buffers none))

-- its transaction is made
pub returns-in-Ok-clause-done : goal.returns-in-Ok-clause-done
returns-in-Ok-clause-done g c =
    let client = c.args.client.now in
    let old : Kept = record { meta = c.self.inside.store.meta; program = c.self.inside.program; model = c.self.inside.store.model; tables = map (λ rows. rows.items) c.self.inside.tables; step = c.self.inside.step; buffers = c.self.inside.buffers.items } in
    let new : Kept = record { meta = c.make-made.new.store.meta; program = c.self.inside.program; model = c.make-made.new.store.model; tables = map (λ rows. rows.items) c.in-Ok.next.tables; step = c.self.inside.step + 1; buffers = c.end.new.buffers.items } in
    let at : position (is_of client) old.buffers ≡ Some c.in-Some.at = sym (ap (position (is_of c.args.client.now)) c.deref.ensures.value) ∙ sym c.place_of.ensures ∙ c.in-Some.is in
    let found = buffer_read client old.buffers c.in-Some.at c.index.result.now c.self.invariant.clients at c.index.ensures in
    let made : transaction old.meta old.model c.index.result.now.changes ≡ Ok new.model = subst (λ changes. transaction old.meta old.model changes ≡ Ok new.model) c.changes.ensures.value c.in-Ok.ensures.made in
    let next = subst (λ all. IsNext old.meta old.program old.model new.model (map (λ rows. rows.items) all) new.tables (old.step + 1) c.in-Ok.next.report) c.as_slice.ensures c.in-Ok.ensures.next in
    subst (λ (kept : Kept). (state : State) → StandsFor kept state → Commits client state c.in-Ok.next.report kept new) c.self.view_is
    (λ state stands. commits client old state stands new c.in-Ok.ensures.meta refl c.index.result.now c.in-Ok.next.report found made next refl c.end.ensures.ended)

-- or it is refused
pub returns-in-Refused-clause-refused : goal.returns-in-Refused-clause-refused
returns-in-Refused-clause-refused g c =
    let client = c.args.client.now in
    let old : Kept = record { meta = c.self.inside.store.meta; program = c.self.inside.program; model = c.self.inside.store.model; tables = map (λ rows. rows.items) c.self.inside.tables; step = c.self.inside.step; buffers = c.self.inside.buffers.items } in
    let at : position (is_of client) old.buffers ≡ Some c.in-Some.at = sym (ap (position (is_of c.args.client.now)) c.deref.ensures.value) ∙ sym c.place_of.ensures ∙ c.in-Some.is in
    let found = buffer_read client old.buffers c.in-Some.at c.index.result.now c.self.invariant.clients at c.index.ensures in
    let is : c.make-made.result ≡ Err (apply.Refused c.in-Refused.at c.in-Refused.why) = c.in-Err.is ∙ ap (λ why. Err why) c.in-Refused.is in
    let stopped = subst (λ changes. transaction old.meta old.model changes ≡ Err (record { at = c.in-Refused.at; why = c.in-Refused.why })) c.changes.ensures.value (c.make-made.ensures.refused c.in-Refused.at c.in-Refused.why is) in
    subst (λ (kept : Kept). (state : State) → StandsFor kept state → IsDenied c.refused.result (committed kept.meta client state)) c.self.view_is
    (λ state stands. subst (λ why. IsDenied why (committed old.meta client state)) (sym c.refused.ensures.fault)
    (refused_due client old state stands c.index.result.now c.in-Refused.at c.in-Refused.why found stopped))
