-- The objects that have other values after some changes than before.
use Rattle.std.specs.Prelude.{◌≢◌, ◌↔◌, List, Contains}
use Rattle.std.specs.List.Sorted.{IsStrictlySortedBy}
use Rattle.std.specs.Ordering.{nat_cmp}
use Rattle.vt_base.specs.declared.numbers.ObjId.{ObjId}
use Rattle.vt_base.specs.declared.numbers.ClassId.{ClassId}
use Rattle.vt_model.specs.Model.{Model}
use Rattle.vt_model.specs.Assigning.{values_of}
use Rattle.vt_model.specs.Fits.{IsLive}

-- each object is above the one before it
abbrev pub Rise : List ObjId → Type 0
Rise objects = IsStrictlySortedBy (λ o p. nat_cmp o.0 p.0) objects

-- the object is live in a model
abbrev pub Lives : Model → ObjId → Type 0
Lives g o = (c : ClassId) × IsLive g.live o c

-- it has other values in the second model than in the first
abbrev pub HasOtherValues : Model → Model → ObjId → Type 0
HasOtherValues before after o = values_of before o ≢ values_of after o

-- the objects that live before and after, with other values, in rising order
pub record AreTouched (before after : Model) (objects : List ObjId) : Type 0 where
  pub rise : Rise objects
  pub each : (o : ObjId) → Contains objects o ↔ (Lives before o × Lives after o × HasOtherValues before after o)
