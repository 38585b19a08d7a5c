-- The empty model is valid.
use Rattle.std.proofs.Common.{List, [], ◌∷◌, refl, arith}
use Rattle.std.specs.List.Sorted.{IsStrictlySortedBy}
use Rattle.std.proofs.lemmas.List.Elements.{All-nil}
use Rattle.vt_base.specs.declared.numbers.ObjId.{ObjId}
use Rattle.vt_model.specs.Metamodel.{Metamodel}
use Rattle.vt_model.specs.Model.{empty_model}
use Rattle.vt_model.specs.Containing.{LeadsOver}
use Rattle.vt_model.specs.Valid.{IsValid}
use Rattle.vt_model.proofs.Valid.Sides.{ObjectSide, LinkSide, IsValid-sides}

-- it has no objects and no values
pub ObjectSide-empty_model : (meta : Metamodel) → ObjectSide meta empty_model
unfolding IsStrictlySortedBy
ObjectSide-empty_model meta = record {
  next_in_range = omega arith;
  objects_rise = tt;
  gone_rise = tt;
  numbers_below = All-nil _;
  gone_below = All-nil _;
  numbers_differ = λ o p live gone same. absurd (omega (arith, live.1));
  names_differ = refl;
  names_free = All-nil _;
  gone_names_free = All-nil _;
  classes_concrete = All-nil _;
  values_rise = tt;
  values_fit = All-nil _;
  values_there = All-nil _;
}

-- it has no links
pub LinkSide-empty_model : (meta : Metamodel) → LinkSide meta empty_model
unfolding IsStrictlySortedBy
LinkSide-empty_model meta = record {
  links_rise = tt;
  links_fit = All-nil _;
  singles = All-nil _;
  opposites = All-nil _;
  containers = All-nil _;
  no_cycle = λ o inside. none o o inside.0 inside.1;
}
  where
    -- the first step would be a link
    none : (outer inner : ObjId) (path : List ObjId) → LeadsOver meta empty_model outer path inner → ⊥
    none outer inner [] leads = omega (arith, leads.there.1)
    none outer inner (o ∷ path) leads = omega (arith, leads.0.there.1)

-- so all holds of it
pub IsValid-empty_model : (meta : Metamodel) → IsValid meta empty_model
IsValid-empty_model meta = IsValid-sides meta empty_model (ObjectSide-empty_model meta) (LinkSide-empty_model meta)
