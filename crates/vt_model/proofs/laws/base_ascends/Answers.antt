use Rattle.vt_model.proofs.BaseLemmas.{Ascends-class_rows, Ascends-attribute_rows, Ascends-reference_rows}
use Rattle.vt_model.proofs.laws.base_ascends.Goals as goal

pub returns-clause-of_class : goal.returns-clause-of_class
returns-clause-of_class c = Ascends-class_rows

pub returns-clause-of_attribute : goal.returns-clause-of_attribute
returns-clause-of_attribute c = Ascends-attribute_rows

pub returns-clause-of_reference : goal.returns-clause-of_reference
returns-clause-of_reference c = Ascends-reference_rows
