-- The references of each class, by which its objects have links.
use Rattle.std.specs.Prelude.{◌≡◌, ◌+◌, ℕ, List, [], ◌∷◌, if◌then◌else◌, slice_get, length, Some, option_map, unwrap_or}
use Rattle.serde_json.specs.Data.{Members}
use Rattle.vt_base.specs.declared.numbers.ClassId.{ClassId}
use Rattle.vt_base.specs.declared.numbers.RefId.{RefId}
use Rattle.vt_model.specs.Metamodel.{Metamodel, isa}
use Rattle.vt_model.specs.Model.{Model}
use Rattle.vt_model.specs.declared.metamodel.RefInfo.{RefInfo}
use Rattle.vt_model.specs.declared.model.Link.{Link}
use Rattle.vt_model_json.specs.Dump.{texts, target_names, with_targets}

-- of references, which are numbered from r on, those that a class has
abbrev pub owned : Metamodel → ClassId → ℕ → List RefInfo → List RefId
owned meta c r [] = []
owned meta c r (info ∷ infos) =
    if isa meta c info.class then record { 0 = r } ∷ owned meta c (r + 1) infos else owned meta c (r + 1) infos

-- the references that a class has, its own and those of the classes above it
abbrev pub owned_by : Metamodel → ClassId → List RefId
owned_by meta c = owned meta c 0 meta.references

-- for each class up to a number there are the references that it has
pub record IsPlan (meta : Metamodel) (count : ℕ) (plan : List (List RefId)) : Type 0 where
  pub counted : length plan ≡ count
  pub lists : (c : ℕ) (found : List RefId) → slice_get plan c ≡ Some found → found ≡ owned_by meta (record { 0 = c })

-- the name of the reference with this number
abbrev pub reference_name : Metamodel → RefId → List ℕ
reference_name meta r = unwrap_or (option_map (λ info. info.name) (slice_get meta.references r.0)) []

-- links by these references, each under the reference's name
abbrev pub members_by : Metamodel → Model → List Link → Members → List RefId → Members
members_by meta g links members [] = members
members_by meta g links members (r ∷ rs) =
    members_by meta g links (with_targets (reference_name meta r) (texts (target_names g r.0 links)) members) rs
