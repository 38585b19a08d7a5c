-- What was found is what goes, and after each step the model is what it is to be.
use Rattle.std.proofs.Common.{◌≡◌, ◌∙◌, ◌++◌, map, sym, ap, subst}
use Rattle.std.specs.Prelude.{Contains}
use Rattle.vt_facts.proofs.MemberLemmas.{All-from_contains}
use Rattle.vt_graph.specs.Room.{KeepsRoom}
use Rattle.vt_store.specs.Undoing.{HeldEdit}
use Rattle.vt_store.specs.Inside.Kept.{deletion_edit, waiting_place}
use Rattle.vt_store.specs.Inside.Waiting.{HasClasses}
use Rattle.vt_store.proofs.Deleting.Waiting.{buries_meta, buries_of}
use Rattle.vt_store.proofs.Deleting.Whole.{links_left, values_had, values_left, can_bury, is_deleted}
use Rattle.vt_store.proofs.deletion.remove.Goals as goal

-- ---- the model on the way

pub take_values-requires : goal.take_values-requires
take_values-requires c =
    let old = c.args.graph.now in
    let links = links_left old c.args.o c.requires.valid c.drop_back.new.graph _ _ c.in_ok-links.ensures c.as_slice-3.ensures.value c.drop_back.ensures.dropped in
    record { had = values_had old c.args.o c.requires.valid c.drop_back.new.graph _ _ c.drop_back.ensures.meta links c.in_ok-values.ensures c.as_slice-4.ensures.value }

pub bury_all-requires-clause-bare : goal.bury_all-requires-clause-bare
bury_all-requires-clause-bare c =
    let old = c.args.graph.now in
    let links = links_left old c.args.o c.requires.valid c.drop_back.new.graph _ _ c.in_ok-links.ensures c.as_slice-3.ensures.value c.drop_back.ensures.dropped in
    let values = values_left old c.args.o c.requires.valid c.drop_back.new.graph c.take_values.new.graph _ _ links c.in_ok-values.ensures c.as_slice-4.ensures.value c.take_values.ensures.taken in
    can_bury old c.args.o c.requires.valid c.take_values.new.graph _ _ values c.in_ok-found.ensures c.as_slice-5.ensures.value

-- ---- all of it

pub of_deletion-requires : goal.of_deletion-requires
of_deletion-requires c =
    let of = buries_of _ _ _ _ c.bury_all.ensures in
    let meta = c.meta.ensures.value ∙ buries_meta _ _ _ _ c.bury_all.ensures in
    record { of = All-from_contains (λ b. b.meta ≡ c.meta.result.now) c.into_list.result (λ b there. of b (subst (λ bs. Contains bs b) c.into_list.ensures there) ∙ sym meta) }

pub returns : goal.returns
returns c =
    let old = c.args.graph.now in
    let new = c.bury_all.new.graph in
    let links = links_left old c.args.o c.requires.valid c.drop_back.new.graph _ _ c.in_ok-links.ensures c.as_slice-3.ensures.value c.drop_back.ensures.dropped in
    let values = values_left old c.args.o c.requires.valid c.drop_back.new.graph c.take_values.new.graph _ _ links c.in_ok-values.ensures c.as_slice-4.ensures.value c.take_values.ensures.taken in
    let done = is_deleted old c.args.o c.requires.valid c.take_values.new.graph new _ _ _ values c.in_ok-found.ensures c.as_slice-5.ensures.value c.bury_all.ensures
    c.drop_back.new.graph _ _ c.drop_back.ensures.meta c.take_values.ensures.meta c.drop_back.ensures.room c.take_values.ensures.places c.in_ok-values.ensures c.in_ok-links.ensures in
    let made : c.of_deletion.result ≡ record {
      meta = old.meta;
      edit = deletion_edit new.model.next c.bury_all.new.waiting.items c.in_ok-values.values.items c.in_ok-links.links.items;
      waiting = map waiting_place c.bury_all.new.waiting.items;
    } = c.of_deletion.ensures ∙ (λ i. record {
      meta = (c.meta.ensures.value ∙ done.meta) i;
      edit = deletion_edit (c.next.ensures i) (c.into_list.ensures i) (c.from_vec.ensures i) (c.from_vec-2.ensures i);
      waiting = map waiting_place (c.into_list.ensures i);
    }) in
    record {
      meta = done.meta;
      deleted = record {
        made = done.model;
        edit_is = ap (λ (e : HeldEdit). e.edit) made ∙ done.edit;
        of = ap (λ (e : HeldEdit). e.meta) made;
        kept = subst (λ (e : HeldEdit). HasClasses new.places e.edit.live.removed) (sym made) done.kept;
        waits = subst (λ (e : HeldEdit). HasClasses e.waiting e.edit.live.removed) (sym made) done.waits;
        room = subst (λ (e : HeldEdit). KeepsRoom old.places (e.waiting ++ new.places)) (sym made) done.room;
      };
      unchanged = tt;
    }
