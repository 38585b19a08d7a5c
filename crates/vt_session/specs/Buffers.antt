-- Buffers: the transactions that clients have open.
use Rattle.std.specs.Prelude.{ℕ, List, [], ◌∷◌, ◌++◌, ◌==◌, if◌then◌else◌, find, filter, map, not, nat_le, length, is_some, Option, Some, None, Result, Ok, Err}
use Rattle.vt_facts.specs.Names.{is_name}
use Rattle.vt_model.specs.Transaction.{Stop}
use Rattle.vt_model.specs.declared.change.Change.{Change}
use Rattle.vt_session.specs.declared.buffers.Buffer.{Buffer}

-- a buffer has the changes that a client has given and not committed

-- why a call is refused
pub data Denial : Type 0 where
  already_open : Denial
  too_many_open : Denial
  not_open : Denial
  too_many_changes : Denial
  refused : Stop → Denial

-- ---- a client's buffer

abbrev pub buffer_of : List ℕ → List Buffer → Option Buffer
buffer_of client buffers = find (λ b. is_name b.client client) buffers

abbrev pub without_buffer : List ℕ → List Buffer → List Buffer
without_buffer client buffers = filter (λ b. not (is_name b.client client)) buffers

-- the buffer with the change, where it is the client's
abbrev pub with_its_change : List ℕ → Change → Buffer → Buffer
with_its_change client change b = if is_name b.client client then record b { changes = b.changes ++ change ∷ [] } else b

abbrev pub with_change : List ℕ → Change → List Buffer → List Buffer
with_change client change buffers = map (with_its_change client change) buffers

-- ---- what the calls make of the buffers

-- a client opens one; 64 clients may have one
abbrev pub begun : List ℕ → List Buffer → Result (List Buffer) Denial
begun client buffers =
    if is_some (buffer_of client buffers) then Err already_open
    else if nat_le 64 (length buffers) then Err too_many_open
    else Ok (buffers ++ record { client = client; changes = [] } ∷ [])

-- a change goes into a buffer, which may hold 65,536
abbrev pub changed_in : List ℕ → Change → List Buffer → Option Buffer → Result (List Buffer) Denial
changed_in client change buffers None = Err not_open
changed_in client change buffers (Some b) = if length b.changes == 65536 then Err too_many_changes else Ok (with_change client change buffers)

abbrev pub changed : List ℕ → Change → List Buffer → Result (List Buffer) Denial
changed client change buffers = changed_in client change buffers (buffer_of client buffers)

-- a buffer is dropped
abbrev pub aborted : List ℕ → List Buffer → Result (List Buffer) Denial
aborted client buffers = if is_some (buffer_of client buffers) then Ok (without_buffer client buffers) else Err not_open
