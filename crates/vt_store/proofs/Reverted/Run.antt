-- The steps by which an edit is taken back, one after the other.
use Rattle.std.proofs.Common.{◌≡◌, ℕ, List, reverse, sym, ap, subst, ◌∙◌, arith}
use Rattle.std.specs.Prelude.{◌≤◌, fold, All, IfSome, Option}
use Rattle.vt_model.specs.Metamodel.{Metamodel}
use Rattle.vt_model.specs.Model.{Model}
use Rattle.vt_model.specs.Valid.{IsValid}
use Rattle.vt_model.specs.declared.model.Object.{Object}
use Rattle.vt_model.specs.declared.model.AttributeValue.{AttributeValue}
use Rattle.vt_model.specs.declared.model.Link.{Link}
use Rattle.vt_graph.specs.Held.{Held, Buried}
use Rattle.vt_graph.specs.Having.{HasAttribute}
use Rattle.vt_graph.specs.Room.{HasRoom, KeepsRoom}
use Rattle.vt_store.specs.Edits.{ListChange, same_link, without, undone}
use Rattle.vt_store.specs.Undoing.{KeepsRoomOf, Fits}
use Rattle.vt_store.specs.Inside.Assigned.{without_values, with_values}
use Rattle.vt_store.specs.Inside.Displaced.{EndsLive, IsReturning, without_link, without_back, with_each}
use Rattle.vt_store.specs.Inside.Kept.{kept_edit, IsFresh, AreOf, settled, CanSettle}
use Rattle.vt_store.proofs.Linking.Anew.{back_is_reverse}
use Rattle.vt_store.proofs.Linking.Steps.{without_back_is}
use Rattle.vt_store.proofs.Reverted.Raised.{places_with}
use Rattle.vt_store.proofs.Reverted.Whole.{IsKept, settled_then, values_back, reverted_is}
use Rattle.vt_store.proofs.Reverted.Ready.{held_edit, is_kept, had_added, had_removed, links_return, links_live, can_settle, room_waiting, room_same, room_then}

module _ (s : Held) (meta : Metamodel) (next : ℕ) (created : Option Object) (deleted : List Buried) (values : ListChange AttributeValue) (links : ListChange Link)
    (fits : Fits (held_edit meta next created deleted values links) s) (valid : IsValid s.meta s.model) (fresh : IfSome created (IsFresh next deleted)) (of : AreOf meta deleted) where
  abbrev kept : IsKept s.meta s.model next created deleted values links
  kept = is_kept s meta next created deleted values links fits valid fresh

  -- the model without the edit
  abbrev earlier : Model
  earlier = undone (kept_edit next created deleted values links) s.model

  -- ---- once the links that were put in are gone

  module _ (one : Held) (of_one : one.meta ≡ s.meta) (one_is : one.model ≡ fold without_link s.model (reverse links.added)) (one_room : KeepsRoom s.places one.places) where
    one_back : one.model ≡ without_back s.model links.added
    one_back = one_is ∙ back_is_reverse s.model links.added

    one_live : one.model.live ≡ s.model.live
    one_live = ap (λ (g : Model). g.live) (one_back ∙ without_back_is s.model links.added)

    pub run_take : All (λ t. HasAttribute one.meta one.model t.object t.attribute) values.added
    run_take = had_added s next created deleted values links kept one of_one one_live

    -- ---- and the values

    module _ (two : Held) (of_two : two.meta ≡ one.meta) (two_is : two.model ≡ without_values one.model values.added) (two_places : two.places ≡ one.places) where
      two_back : two.model ≡ without_values (without_back s.model links.added) values.added
      two_back = two_is ∙ ap (λ g. without_values g values.added) one_back

      two_room : KeepsRoom s.places two.places
      two_room = subst (KeepsRoom s.places) (sym two_places) one_room

      pub run_settle : CanSettle two next created deleted
      run_settle = can_settle s next created deleted values links kept two (of_two ∙ of_one) two_back two_room (subst (λ m. AreOf m deleted) fits.of of) fits.kept

      -- ---- and objects are as before

      module _ (three : Held) (of_three : three.meta ≡ two.meta) (three_is : three.model ≡ settled next created deleted two.model)
          (three_kept : KeepsRoomOf three.model (places_with deleted two.places) three.places) where
        three_back : three.model ≡ settled next created deleted (without_values (without_back s.model links.added) values.added)
        three_back = three_is ∙ ap (settled next created deleted) two_back

        three_live : three.model.live ≡ earlier.live
        three_live = ap (λ (g : Model). g.live) (three_back ∙ settled_then s.meta s.model next created deleted values links kept)

        three_gone : three.model.gone ≡ earlier.gone
        three_gone = ap (λ (g : Model). g.gone) (three_back ∙ settled_then s.meta s.model next created deleted values links kept)

        three_room : KeepsRoomOf earlier (places_with deleted s.places) three.places
        three_room = room_same earlier three.model (places_with deleted s.places) (places_with deleted two.places) three.places three_live three_gone
            (room_waiting deleted s.places two.places two_room) three_kept

        pub run_put : All (λ t. HasAttribute three.meta three.model t.object t.attribute) values.removed
        run_put = had_removed s next created deleted values links kept three (of_three ∙ of_two ∙ of_one) three_live

        -- ---- and the values that were taken out are back

        module _ (four : Held) (four_is : four.model ≡ with_values three.model values.removed) (four_places : four.places ≡ three.places) where
          four_back : four.model ≡ with_values (settled next created deleted (without_values (without_back s.model links.added) values.added)) values.removed
          four_back = four_is ∙ ap (λ g. with_values g values.removed) three_back

          four_live : four.model.live ≡ earlier.live
          four_live = ap (λ (g : Model). g.live) (four_back ∙ values_back s.meta s.model next created deleted values links kept)

          four_links : four.model.links ≡ without same_link links.added s.model.links
          four_links = ap (λ (g : Model). g.links) (four_back ∙ values_back s.meta s.model next created deleted values links kept)

          four_room : KeepsRoomOf earlier (places_with deleted s.places) four.places
          four_room = subst (KeepsRoomOf earlier (places_with deleted s.places)) (sym four_places) three_room

          whole : with_each four.model links.removed ≡ earlier
          whole = ap (λ g. with_each g links.removed) four_back ∙ reverted_is s.meta s.model next created deleted values links kept

          pub run_return : IsReturning (with_each four.model links.removed) four.model links.removed
          run_return = links_return s next created deleted values links kept four.model four_live four_links

          pub run_live : All (EndsLive four.model) links.removed
          run_live = links_live s next created deleted values links kept four.model four_live

          pub run_room : HasRoom four.places (with_each four.model links.removed)
          run_room = subst (HasRoom four.places) (sym whole) (λ o side r live. less (fits.room o side r live) (four_room.room o side r live))
            where
              less : {x y z : ℕ} → x ≤ y → y ≤ z → x ≤ z
              less {x} {y} {z} p q = omega arith

          -- ---- and the links

          module _ (five : Held) (five_is : five.model ≡ with_each four.model links.removed) (five_room : KeepsRoom four.places five.places) where
            pub run_made : five.model ≡ earlier
            run_made = five_is ∙ whole

            pub run_kept : KeepsRoomOf five.model (places_with deleted s.places) five.places
            run_kept = subst (λ g. KeepsRoomOf g (places_with deleted s.places) five.places) (sym run_made)
                (room_then earlier (places_with deleted s.places) four.places five.places four_room five_room)
