-- Counts of faults: how they rise, and which answers they account for.
use Rattle.std.specs.Prelude.{◌≡◌, ◌≢◌, ◌≤◌, ◌+◌, ◌-◌, ◌^◌, ℕ, min, List, Option, Some, Result, Err, IsErrOf}
use Rattle.vt_outside.specs.declared.shelf.Fetched.{Fetched}
use Rattle.vt_outside.specs.declared.shelf.FetchFail.{FetchFail}
use Rattle.vt_outside.specs.declared.shelf.FetchFail.TheVariants as Fetch
use Rattle.vt_outside.specs.declared.sink.PutFail.{PutFail}
use Rattle.vt_outside.specs.declared.sink.PutFail.TheVariants as Put

-- one more; a count that stands at its last value stays there
abbrev pub raised : ℕ → ℕ
raised count = min (count + 1) (2 ^ 64 - 1)

-- the count rose, or stands at its last value
abbrev pub Rose : ℕ → ℕ → Type 0
Rose before now = raised before ≤ now

-- the count of faults and the name of the last failed fetch, each before and after, account for
-- the answer of a fetch that asked for a name
pub record CountsFetch (before now : ℕ) (last next : Option (List ℕ)) (name : List ℕ) (answer : Result Fetched FetchFail) : Type 0 where
  pub never_falls : before ≤ now
  -- a failed fetch counts one, and its name is kept
  pub one : IsErrOf answer Fetch.Failed → now ≡ raised before
  pub named : IsErrOf answer Fetch.Failed → next ≡ Some name
  -- any other answer leaves both
  pub same_count : (answer ≢ Err Fetch.Failed) → now ≡ before
  pub same_name : (answer ≢ Err Fetch.Failed) → next ≡ last

-- the count of faults, before and after, accounts for the answer of a put
pub record CountsPut {T : Type 0} (before now : ℕ) (answer : Result T PutFail) : Type 0 where
  pub never_falls : before ≤ now
  -- a failed put counts one, and any other answer leaves the count
  pub one : IsErrOf answer Put.Failed → now ≡ raised before
  pub same_count : (answer ≢ Err Put.Failed) → now ≡ before
