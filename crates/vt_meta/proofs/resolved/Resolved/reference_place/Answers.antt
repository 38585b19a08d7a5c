use Rattle.std.proofs.Common.{◌∙◌, ap, slice_get}
use Rattle.std.specs.Prelude.{option_and_then}
use Rattle.vt_model.specs.Places.{place_in}
use Rattle.vt_meta.proofs.resolved.Resolved.reference_place.Goals as goal

pub returns : goal.returns
returns c =
    c.place_in_list.ensures
    ∙ ap (λ places. option_and_then (λ p. place_in p c.args.name.now) (slice_get places c.args.class)) c.as_slice.ensures
    ∙ c.args.self.now.references_found c.args.class c.args.name.now
