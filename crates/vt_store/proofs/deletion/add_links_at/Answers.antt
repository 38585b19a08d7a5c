use Rattle.std.proofs.Common.{◌∙◌, ◌++◌, List, ap, append_assoc}
use Rattle.vt_model.specs.declared.model.Link.{Link}
use Rattle.vt_slots.specs.Ends.{EndList}
use Rattle.vt_store.specs.Inside.Levels.{leaving, coming, links_of}
use Rattle.vt_store.proofs.Deleting.Sides.{AreLinksAt-sides}
use Rattle.vt_store.proofs.deletion.add_links_at.Goals as goal

pub returns : goal.returns
returns c =
    let out : List Link = links_of (leaving c.args.x) c.ends.result.now in
    let into : List Link = links_of (coming c.args.x) c.ends-2.result.now in
    record {
      own = out ++ into;
      added = c.in_ok-add_all_ends-2.ensures ∙ ap (λ l. l ++ into) c.in_ok-add_all_ends.ensures ∙ append_assoc c.args.links.now.items out into;
      are = AreLinksAt-sides c.args.graph.now.model c.args.x (λ (e : EndList). e.reference) (λ (e : EndList). e.objects) c.ends.result.now c.ends-2.result.now
          c.ends.ensures.references_rise c.ends-2.ensures.references_rise c.ends.ensures.objects c.ends-2.ensures.objects;
    }
