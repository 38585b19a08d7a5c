use Rattle.vt_model.proofs.BaseLemmas.{columns-class_rows, columns-attribute_rows, columns-reference_rows}
use Rattle.vt_model.proofs.laws.base_has_columns.Goals as goal

pub returns-clause-of_class : goal.returns-clause-of_class
returns-clause-of_class c = columns-class_rows

pub returns-clause-of_attribute : goal.returns-clause-of_attribute
returns-clause-of_attribute c = columns-attribute_rows

pub returns-clause-of_reference : goal.returns-clause-of_reference
returns-clause-of_reference c = columns-reference_rows
