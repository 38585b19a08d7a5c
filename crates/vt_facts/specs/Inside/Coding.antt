-- How a record of items and room is stored: as the pair of its fields.
use Rattle.std.specs.Prelude.{ℕ, List, refl}
use Rattle.std.specs.Coded.{Coded, code_by, coded×, coded_ℕ, coded_list}
use Rattle.vt_facts.specs.Room.{Room}

abbrev pub room_code : {T : Type 0} → Coded T → Coded (Room T)
room_code {T} code =
    code_by (List T × ℕ) (coded× (coded_list code) coded_ℕ) (λ v. (v.items, v.spare))
    (λ p. record { items = p.0; spare = p.1 }) (λ _. refl)
