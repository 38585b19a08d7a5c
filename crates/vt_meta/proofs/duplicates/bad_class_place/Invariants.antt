use Rattle.std.proofs.Common.{◌≡◌, ◌+◌, take, drop, length}
use Rattle.vt_meta.specs.Declarations.{item_names}
use Rattle.vt_meta.specs.Faults.{first_place, is_bad_class}
use Rattle.vt_model.specs.Places.{FindsIn}
use Rattle.vt_meta.proofs.duplicates.bad_class_place.Given as goal

-- what was seen, and the rest decides
abbrev pub invariant-loop-i : goal.invariant-loop-i
invariant-loop-i l =
    FindsIn (take (length l.document.enums + l.i) (item_names l.document)) l.seen
    × (first_place (is_bad_class l.document) (length l.document.enums + l.i) (drop l.i l.document.classes) ≡ first_place (is_bad_class l.document) (length l.document.enums) l.document.classes)
