use Rattle.std.proofs.Common.{◌≡◌, Some, None, sym, subst, ap, ◌∙◌}
use Rattle.std.specs.Prelude.{is_some, position, not}
use Rattle.vt_session.specs.Inside.Order.{HaveOneEach}
use Rattle.vt_session.proofs.BufferLemmas.{is_of, only-position, remove-only, HaveOneEach-filter}
use Rattle.vt_session.proofs.DenialLemmas.{found_at, none_found, nothing_ends}
use Rattle.vt_session.proofs.buffers.end.Goals as goal

-- the client has a buffer
pub returns-in-Some-clause-stood : goal.returns-in-Some-clause-stood
returns-in-Some-clause-stood c =
    let at : position (is_of c.args.client.now) c.args.buffers.now.items ≡ Some c.in-Some.at = sym (ap (position (is_of c.args.client.now)) c.deref.ensures.value) ∙ sym c.place_of.ensures ∙ c.in-Some.is in
    sym (ap is_some (found_at c.args.client.now c.args.buffers.now.items c.requires.clients c.in-Some.at at).1.is)

pub returns-in-Some-clause-ended : goal.returns-in-Some-clause-ended
returns-in-Some-clause-ended c =
    let at : position (is_of c.args.client.now) c.args.buffers.now.items ≡ Some c.in-Some.at = sym (ap (position (is_of c.args.client.now)) c.deref.ensures.value) ∙ sym c.place_of.ensures ∙ c.in-Some.is in
    c.remove.ensures.items ∙ remove-only (is_of c.args.client.now) c.args.buffers.now.items c.in-Some.at (only-position c.args.client.now c.args.buffers.now.items c.in-Some.at c.requires.clients at)

pub returns-in-Some-clause-clients : goal.returns-in-Some-clause-clients
returns-in-Some-clause-clients c =
    subst HaveOneEach (sym (returns-in-Some-clause-ended c)) (HaveOneEach-filter (λ b. not (is_of c.args.client.now b)) c.args.buffers.now.items c.requires.clients)

-- it has none
pub returns-in-None-clause-stood : goal.returns-in-None-clause-stood
returns-in-None-clause-stood c =
    let none : position (is_of c.args.client.now) c.args.buffers.now.items ≡ None = sym (ap (position (is_of c.args.client.now)) c.deref.ensures.value) ∙ sym c.place_of.ensures ∙ c.in-None.is in
    sym (ap is_some (none_found c.args.client.now c.args.buffers.now.items none))

pub returns-in-None-clause-ended : goal.returns-in-None-clause-ended
returns-in-None-clause-ended c =
    let none : position (is_of c.args.client.now) c.args.buffers.now.items ≡ None = sym (ap (position (is_of c.args.client.now)) c.deref.ensures.value) ∙ sym c.place_of.ensures ∙ c.in-None.is in
    nothing_ends c.args.client.now c.args.buffers.now.items none
