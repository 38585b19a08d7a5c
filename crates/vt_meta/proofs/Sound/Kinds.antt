-- The kinds of the attributes of a metamodel that is read.
use Rattle.std.proofs.Common.{◌≡◌, ℕ, length, refl, ap, ◌∙◌, Bool, true, false}
use Rattle.std.specs.Prelude.{nat_lt, codes, position, Option, Some, None, option_map, unwrap_or, if◌then◌else◌, List}
use Rattle.std.specs.Option.{option_map_or}
use Rattle.std.proofs.lemmas.Bool.{lt-ltb}
use Rattle.std.proofs.lemmas.Option.{slice_get-map}
use Rattle.vt_base.specs.declared.value.Kind.TheVariants.{Int, Bool as Boolean, Text, Enum}
use Rattle.vt_meta.specs.Declarations.{kind_named}
use Rattle.vt_facts.specs.Names.{is_name}
use Rattle.vt_meta.specs.Built.{metamodel_of, enum_info}
use Rattle.vt_model.specs.Assigning.{is_literal}
use Rattle.vt_model.specs.Sound.{IsAttributeKind}
use Rattle.vt_meta.specs.declared.document.MetamodelDocument.{MetamodelDocument}
use Rattle.vt_model.specs.declared.metamodel.EnumInfo.{EnumInfo}
use Rattle.vt_facts.proofs.PositionLemmas.{IsAt-position}
use Rattle.vt_meta.specs.Inside.Literals.{HasLiterals}

module _ (document : MetamodelDocument) (literals : HasLiterals document) where
  -- an enum that a name finds has a first literal
  is_literal-named : (name : List ℕ) (n : ℕ) → position (λ e. is_name e.name name) document.enums ≡ Some n → is_literal (metamodel_of document) n 0 ≡ true
  is_literal-named name n e =
      let at = IsAt-position (λ e. is_name e.name name) document.enums n e in
      ap (λ (o : Option EnumInfo). option_map_or (λ enum. nat_lt 0 (length enum.literals)) o false) (slice_get-map enum_info document.enums n ∙ ap (option_map enum_info) at.there)
      ∙ lt-ltb 0 (length at.item.literals) (literals n at.item at.there)

  -- what a kind's name stands for is a kind of attributes
  pub IsAttributeKind-kind_named : (name : List ℕ) → IsAttributeKind (metamodel_of document) (unwrap_or (kind_named document name) Int)
  IsAttributeKind-kind_named name =
      by (is_name name (codes "int")) (is_name name (codes "boolean")) (is_name name (codes "string")) (position (λ e. is_name e.name name) document.enums) refl
    where
      by : (i b t : Bool) (p : Option ℕ) → position (λ e. is_name e.name name) document.enums ≡ p
          → IsAttributeKind (metamodel_of document) (unwrap_or (if i then Some Int else if b then Some Boolean else if t then Some Text else option_map (λ e. Enum e) p) Int)
      by true b t p e = tt
      by false true t p e = tt
      by false false true p e = tt
      by false false false None e = tt
      by false false false (Some n) e = is_literal-named name n e
