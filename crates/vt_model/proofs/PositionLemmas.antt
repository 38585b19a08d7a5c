-- Where a search in a list ends.
use Rattle.std.proofs.Common.{◌≡◌, ℕ, List, map, refl, ◌∙◌}
use Rattle.std.specs.Prelude.{nat_eq, position, slice_get, Option, Some, None, option_map, option_and_then}
use Rattle.std.specs.Cmp.Lexicographic.{pointwise, nat_list_eq_equiv}
use Rattle.std.proofs.lemmas.Option.{slice_get-map}
use Rattle.vt_base.specs.Names.{EnumNames, literal_numbers}
use Rattle.vt_model.specs.Inside.Tables.{literal_place}
use Rattle.vt_model.specs.declared.metamodel.EnumInfo.{EnumInfo}
use Rattle.vt_facts.proofs.PositionLemmas.{position-map, position_agree}

-- ---- enums by name

abbrev pub names_of : EnumInfo → EnumNames
names_of e = record { name = e.name; literals = e.literals }

pub position-names_of : (name : List ℕ) (enums : List EnumInfo)
    → position (λ e. pointwise nat_eq name e.name) (map names_of enums) ≡ position (λ e. pointwise nat_eq e.name name) enums
position-names_of name enums =
    position-map names_of (λ e. pointwise nat_eq name e.name) enums
    ∙ position_agree (λ e. pointwise nat_eq name e.name) (λ e. pointwise nat_eq e.name name) (λ e. nat_list_eq_equiv.symm name e.name) enums

-- the numbers of a literal, looked up among the enums themselves
pub literal_numbers_names_of : (enums : List EnumInfo) (name literal : List ℕ)
    → literal_numbers (map names_of enums) name literal
    ≡ option_and_then {U = ℕ × ℕ} (λ e. option_map (λ l. (e, l)) (literal_place enums e literal)) (position (λ e. pointwise nat_eq e.name name) enums)
literal_numbers_names_of enums name literal =
    rw (position-names_of name enums) (by (position (λ e. pointwise nat_eq e.name name) enums))
  where
    at : (e : ℕ) (r : Option EnumInfo)
        → option_and_then {U = ℕ × ℕ} (λ found. option_map (λ l. (e, l)) (position (pointwise nat_eq literal) found.literals)) (option_map names_of r)
        ≡ option_map {U = ℕ × ℕ} (λ l. (e, l)) (option_and_then (λ found. position (pointwise nat_eq literal) found.literals) r)
    at e None = refl
    at e (Some found) = refl

    by : (r : Option ℕ)
        → option_and_then {U = ℕ × ℕ} (λ e. option_and_then (λ found. option_map (λ l. (e, l)) (position (pointwise nat_eq literal) found.literals)) (slice_get (map names_of enums) e)) r
        ≡ option_and_then {U = ℕ × ℕ} (λ e. option_map (λ l. (e, l)) (literal_place enums e literal)) r
    by None = refl
    by (Some e) = rw (slice_get-map names_of enums e) (at e (slice_get enums e))
