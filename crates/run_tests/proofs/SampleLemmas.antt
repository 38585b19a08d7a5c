-- What tests begin with: nothing that came in.
use Rattle.std.proofs.Common.{◌≡◌, ℕ, zero, suc, List, [], ◌∷◌, length, Some, refl, ap}
use Rattle.std.specs.Prelude.{slice_get, replicate}
use Rattle.vt_delta.specs.Deltas.{no_change, change_of, changes_of, IsNet}
use Rattle.vt_delta.specs.declared.delta.Delta.{Delta}
use Rattle.vt_delta.specs.declared.delta.BaseDelta.{BaseDelta}
use Rattle.vt_model.specs.Base.{base_of}
use Rattle.vt_model.specs.Metamodel.{Metamodel}
use Rattle.vt_model.specs.Model.{empty_model}

each_none : (deltas : List Delta) (count n : ℕ) (d : Delta) → changes_of deltas ≡ replicate count no_change → slice_get deltas n ≡ Some d → change_of d ≡ no_change
each_none [] count n d none at = cc
each_none (e ∷ deltas) zero n d none at = cc
each_none (e ∷ deltas) (suc count) zero d none at = cc
each_none (e ∷ deltas) (suc count) (suc n) d none at = each_none deltas count n d (cc) at

count_none : (deltas : List Delta) (count : ℕ) → changes_of deltas ≡ replicate count no_change → length deltas ≡ count
count_none [] zero none = refl
count_none [] (suc count) none = cc
count_none (e ∷ deltas) zero none = cc
count_none (e ∷ deltas) (suc count) none = ap suc (count_none deltas count (cc))

pub IsNet-nothing : (meta : Metamodel) (d : BaseDelta) → changes_of d.classes ≡ replicate (length meta.classes) no_change
    → changes_of d.attributes ≡ replicate (length meta.attributes) no_change → changes_of d.references ≡ replicate (length meta.references) no_change
    → IsNet (base_of meta empty_model) (base_of meta empty_model) d
IsNet-nothing meta d classes attributes references = record {
  counts = record {
    classes = count_none d.classes (length meta.classes) classes;
    attributes = count_none d.attributes (length meta.attributes) attributes;
    references = count_none d.references (length meta.references) references;
  };
  classes = λ n delta at. each_none d.classes (length meta.classes) n delta classes at;
  attributes = λ n delta at. each_none d.attributes (length meta.attributes) n delta attributes at;
  references = λ n delta at. each_none d.references (length meta.references) n delta references at;
}
