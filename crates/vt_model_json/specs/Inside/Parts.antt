-- The rows of a model, by what has them.
use Rattle.std.specs.Prelude.{ℕ, List}
use Rattle.vt_base.specs.Base.{BaseRows}
use Rattle.vt_base.specs.declared.value.Value.{Value}
use Rattle.vt_model_json.specs.declared.difference.Part.{Part}
use Rattle.vt_model_json.specs.declared.difference.Part.TheVariants.{Classes, Attributes, References}

-- how many there are
abbrev pub count_of : Part → BaseRows → ℕ
count_of Classes base = base.counts.classes
count_of Attributes base = base.counts.attributes
count_of References base = base.counts.references

-- the rows of the one with a number
abbrev pub rows_of : Part → BaseRows → ℕ → List (List Value)
rows_of Classes base n = base.of_class (record { 0 = n })
rows_of Attributes base n = base.of_attribute (record { 0 = n })
rows_of References base n = base.of_reference (record { 0 = n })
