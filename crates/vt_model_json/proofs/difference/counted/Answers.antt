use Rattle.std.proofs.Common.{subst, sym}
use Rattle.vt_model_json.specs.Difference.{AreAllAdded}
use Rattle.vt_model_json.proofs.difference.counted.Goals as goal

pub returns : goal.returns
returns g c = record {
  class_count = cc (c.new.ensures.classes, c.in_ok-classes.ensures.count, c.class_count.ensures, c.meta-meta.ensures.value);
  attribute_count = cc (c.new.ensures.attributes, c.in_ok-attributes.ensures.count, c.attr_count.ensures, c.meta-meta.ensures.value);
  reference_count = cc (c.new.ensures.references, c.in_ok-references.ensures.count, c.ref_count.ensures, c.meta-meta.ensures.value);
  classes = subst (AreAllAdded _) (sym c.new.ensures.classes) c.in_ok-classes.ensures.rows;
  attributes = subst (AreAllAdded _) (sym c.new.ensures.attributes) c.in_ok-attributes.ensures.rows;
  references = subst (AreAllAdded _) (sym c.new.ensures.references) c.in_ok-references.ensures.rows;
}
