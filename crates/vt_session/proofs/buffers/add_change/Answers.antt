use Rattle.std.proofs.Common.{◌≡◌, Some, None, Ok, length, sym, subst, ap, ◌∙◌}
use Rattle.std.specs.Prelude.{position}
use Rattle.vt_session.specs.Inside.Order.{HaveOneEach}
use Rattle.vt_session.proofs.BufferLemmas.{is_of, HaveOneEach-with_change}
use Rattle.vt_session.proofs.DenialLemmas.{none_found, buffer_read, pushed, not_open_due, too_many_changes_due, changed_due}
use Rattle.vt_session.proofs.buffers.add_change.Goals as goal

-- the client has no buffer
pub returns-in_default-clause-refused : goal.returns-in_default-clause-refused
returns-in_default-clause-refused c =
    let none : position (is_of c.args.client.now) c.args.buffers.now.items ≡ None = sym (ap (position (is_of c.args.client.now)) c.deref.ensures.value) ∙ sym c.place_of.ensures ∙ c.in_default.is in
    not_open_due c.args.client.now c.args.buffers.now.items c.args.change (none_found c.args.client.now c.args.buffers.now.items none)

-- the change goes in
pub returns-in-Ok-clause-done : goal.returns-in-Ok-clause-done
returns-in-Ok-clause-done c =
    let client = c.args.client.now in let buffers = c.args.buffers.now.items in
    let at : position (is_of client) buffers ≡ Some c.in-Some.at = sym (ap (position (is_of c.args.client.now)) c.deref.ensures.value) ∙ sym c.place_of.ensures ∙ c.in-Some.is in
    let found = buffer_read client buffers c.in-Some.at c.index_mut.result.now c.requires.clients at c.index_mut.ensures.value in
    let room : length c.index_mut.result.now.changes ≡ 65536 → ⊥ = λ full. let no = c.push.ensures.full.1 full in cc (no, c.in-Ok.is) in
    changed_due client buffers c.args.change c.index_mut.result.now found room
    ∙ ap Ok (sym (pushed client buffers c.args.change c.in-Some.at c.index_mut.result.now c.push.new.self c.requires.clients at c.index_mut.ensures.value c.in-Ok.ensures.added))

pub returns-in-Ok-clause-clients : goal.returns-in-Ok-clause-clients
returns-in-Ok-clause-clients c =
    let client = c.args.client.now in let buffers = c.args.buffers.now.items in
    let at : position (is_of client) buffers ≡ Some c.in-Some.at = sym (ap (position (is_of c.args.client.now)) c.deref.ensures.value) ∙ sym c.place_of.ensures ∙ c.in-Some.is in
    subst HaveOneEach (sym (pushed client buffers c.args.change c.in-Some.at c.index_mut.result.now c.push.new.self c.requires.clients at c.index_mut.ensures.value c.in-Ok.ensures.added))
    (HaveOneEach-with_change client c.args.change buffers c.requires.clients)

-- as many are in it as may
pub returns-in-Err-Full-clause-refused : goal.returns-in-Err-Full-clause-refused
returns-in-Err-Full-clause-refused c =
    let client = c.args.client.now in let buffers = c.args.buffers.now.items in
    let at : position (is_of client) buffers ≡ Some c.in-Some.at = sym (ap (position (is_of c.args.client.now)) c.deref.ensures.value) ∙ sym c.place_of.ensures ∙ c.in-Some.is in
    let found = buffer_read client buffers c.in-Some.at c.index_mut.result.now c.requires.clients at c.index_mut.ensures.value in
    too_many_changes_due client buffers c.args.change c.index_mut.result.now found (c.push.ensures.full.0 (cc (c.in-Err-Full.is, c.in-Err-Full.field-0-is)))
