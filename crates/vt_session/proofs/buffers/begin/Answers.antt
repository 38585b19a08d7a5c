use Rattle.std.proofs.Common.{◌≡◌, ◌++◌, [], ◌∷◌, true, false, sym, subst, ap, ap₂, ◌∙◌, arith, length, Ok}
use Rattle.std.specs.Prelude.{is_some, position, nat_le}
use Rattle.std.proofs.lemmas.Bool.Decides.{nat_tests}
use Rattle.vt_session.specs.Inside.Order.{HaveOneEach}
use Rattle.vt_session.proofs.BufferLemmas.{is_of}
use Rattle.vt_session.proofs.DenialLemmas.{stood, opened, opened_once, already_open_due, too_many_due, begun_due}
use Rattle.vt_session.proofs.buffers.begin.Goals as goal

-- the client has a buffer
pub returns-then-is_some-clause-refused : goal.returns-then-is_some-clause-refused
returns-then-is_some-clause-refused c =
    let client = c.args.client.now in let buffers = c.args.buffers.now.items in
    let at : is_some (position (is_of client) buffers) ≡ true = cc (ap (position (is_of client)) c.deref.ensures.value, c.place_of.ensures) in
    already_open_due client buffers (sym (stood client buffers c.requires.clients) ∙ at)

-- as many have one as may
pub returns-then-len-ge-MOST-clause-refused : goal.returns-then-len-ge-MOST-clause-refused
returns-then-len-ge-MOST-clause-refused c =
    let client = c.args.client.now in let buffers = c.args.buffers.now.items in
    let at : is_some (position (is_of client) buffers) ≡ false = cc (ap (position (is_of client)) c.deref.ensures.value, c.place_of.ensures) in
    let many : nat_le 64 (length buffers) ≡ true = grind (arith, nat_tests) in
    too_many_due client buffers (sym (stood client buffers c.requires.clients) ∙ at) many

-- it opens one
pub returns-clause-done : goal.returns-clause-done
returns-clause-done c =
    let client = c.args.client.now in let buffers = c.args.buffers.now.items in
    let at : is_some (position (is_of client) buffers) ≡ false = cc (ap (position (is_of client)) c.deref.ensures.value, c.place_of.ensures) in
    let few : nat_le 64 (length buffers) ≡ false = grind (arith, nat_tests) in
    let grown : c.add.new.buffers.items ≡ opened client buffers =
    c.in_ok-add.ensures.added ∙ ap₂ (λ name changes. buffers ++ record { client = name; changes = changes } ∷ []) c.share.ensures c.new.ensures in
    begun_due client buffers (sym (stood client buffers c.requires.clients) ∙ at) few ∙ ap Ok (sym grown)

pub returns-clause-clients : goal.returns-clause-clients
returns-clause-clients c =
    let client = c.args.client.now in let buffers = c.args.buffers.now.items in
    let at : is_some (position (is_of client) buffers) ≡ false = cc (ap (position (is_of client)) c.deref.ensures.value, c.place_of.ensures) in
    let grown : c.add.new.buffers.items ≡ opened client buffers =
    c.in_ok-add.ensures.added ∙ ap₂ (λ name changes. buffers ++ record { client = name; changes = changes } ∷ []) c.share.ensures c.new.ensures in
    subst HaveOneEach (sym grown) (opened_once client buffers c.requires.clients at)
