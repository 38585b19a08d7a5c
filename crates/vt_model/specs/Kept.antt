-- What no change takes back: numbers with their names, and the next number.
use Rattle.std.specs.Prelude.{◌≤◌, ◌⊎◌, ℕ, List, Contains}
use Rattle.vt_base.specs.declared.numbers.ObjId.{ObjId}
use Rattle.vt_base.specs.declared.numbers.ClassId.{ClassId}
use Rattle.vt_model.specs.Model.{Model}

-- an object with this number and this name is live
abbrev pub IsLiveAs : Model → ObjId → List ℕ → Type 0
IsLiveAs g o name = (c : ClassId) × Contains g.live (record { number = o; name = name; class = c })

-- or it was deleted
abbrev pub IsKnown : Model → ObjId → List ℕ → Type 0
IsKnown g o name = IsLiveAs g o name ⊎ Contains g.gone (record { number = o; name = name })

-- each number still has its name, and no number that was given away is given again
pub record Keeps (g after : Model) : Type 0 where
  pub names : (o : ObjId) (name : List ℕ) → IsKnown g o name → IsKnown after o name
  pub next : g.next ≤ after.next
