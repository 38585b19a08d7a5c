use Rattle.std.proofs.Common.{◌≡◌, take, drop}
use Rattle.vt_meta.specs.Declarations.{item_names}
use Rattle.vt_meta.specs.Faults.{first_place, is_bad_enum}
use Rattle.vt_model.specs.Places.{FindsIn}
use Rattle.vt_meta.proofs.duplicates.bad_enum_place.Given as goal

-- what was seen, and the rest decides
abbrev pub invariant-loop-place : goal.invariant-loop-place
invariant-loop-place l =
    FindsIn (take l.place (item_names l.document)) l.seen
    × (first_place (is_bad_enum l.document) l.place (drop l.place l.document.enums) ≡ first_place (is_bad_enum l.document) 0 l.document.enums)
