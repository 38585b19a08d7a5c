-- Where a list of changes stops.
use Rattle.std.proofs.Common.{ℕ, ap}
use Rattle.std.specs.Prelude.{Result}
use Rattle.vt_model.specs.Model.{Model}
use Rattle.vt_model.specs.Transaction.{Stop, and_then}
use Rattle.vt_model_json.specs.Loading.{finished, IsFaultOf}
use Rattle.vt_model_json.specs.Inside.Stops.{IsStopOf}
use Rattle.vt_model_json.specs.declared.loading.ModelFault.{ModelFault}
use Rattle.vt_model_json.specs.declared.loading.ModelFault.TheVariants.{NotJson, BadShape, Item, NoMemory}

-- where a change stops, what comes after it is not made
pub stop_after : (fault : ModelFault) (rest : Model → Result Model Stop) (due : Result Model Stop) → IsStopOf fault due → IsStopOf fault (and_then rest due)
stop_after NotJson rest due stops = stops
stop_after BadShape rest due stops = stops
stop_after (Item index why) rest due stops = ap (and_then rest) stops
stop_after NoMemory rest due stops = tt

-- where the changes stop, the document has its fault
pub fault_of_stop : (fault : ModelFault) (next : ℕ) (due : Result Model Stop) → IsStopOf fault due → IsFaultOf fault (finished next due)
fault_of_stop NotJson next due stops = absurd stops
fault_of_stop BadShape next due stops = absurd stops
fault_of_stop (Item index why) next due stops = ap (finished next) stops
fault_of_stop NoMemory next due stops = tt
