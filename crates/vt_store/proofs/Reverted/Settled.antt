-- The room that is kept while what became of objects is taken back.
use Rattle.std.proofs.Common.{◌≡◌, ℕ, List, ◌++◌, map, refl, sym, subst, ◌∙◌, true, false, not, arith}
use Rattle.std.specs.Prelude.{◌<◌, ◌≢◌, ◌==◌, Contains, is_some, IsSome, Option, None, Some}
use Rattle.std.proofs.lemmas.Bool.{eqb-true, eq-eqb, true≢false, both_ways, not-true}
use Rattle.std.proofs.lemmas.List.Elements.{All-contains}
use Rattle.vt_base.specs.declared.numbers.ObjId.{ObjId}
use Rattle.vt_model.specs.Model.{Model}
use Rattle.vt_model.specs.declared.model.Object.{Object}
use Rattle.vt_model.specs.declared.model.GoneObject.{GoneObject}
use Rattle.vt_facts.proofs.MemberLemmas.{Contains-find, Contains-from_filter}
use Rattle.vt_graph.specs.Held.{Held, Place, Buried}
use Rattle.vt_graph.specs.Asked.{live_at, gone_at}
use Rattle.vt_graph.specs.Room.{KeepsRoom, KeepsOthersRoom}
use Rattle.vt_graph.specs.Passing.{with_retracted}
use Rattle.vt_store.specs.Undoing.{KeepsRoomOf}
use Rattle.vt_store.specs.Inside.Kept.{waiting_place, CanRetract}

-- an item that a search finds has the number
live_number : (g : Model) (o : ObjId) → IsSome (live_at g o) → (x : Object) × Contains g.live x × (x.number.0 ≡ o.0)
live_number g o some = by (live_at g o) refl some
  where
    by : (found : Option Object) → live_at g o ≡ found → is_some found ≡ true → (x : Object) × Contains g.live x × (x.number.0 ≡ o.0)
    by None at some = absurd (true≢false (sym some))
    by (Some x) at some = let there = Contains-find (λ y. y.number.0 == o.0) g.live x at in (x, there.0, eqb-true x.number.0 o.0 there.1)

gone_number : (g : Model) (o : ObjId) → IsSome (gone_at g o) → (x : GoneObject) × Contains g.gone x × (x.number.0 ≡ o.0)
gone_number g o some = by (gone_at g o) refl some
  where
    by : (found : Option GoneObject) → gone_at g o ≡ found → is_some found ≡ true → (x : GoneObject) × Contains g.gone x × (x.number.0 ≡ o.0)
    by None at some = absurd (true≢false (sym some))
    by (Some x) at some = let there = Contains-find (λ y. y.number.0 == o.0) g.gone x at in (x, there.0, eqb-true x.number.0 o.0 there.1)

-- the room of all but the object that goes
pub retracted_room : (s t : Held) (next : ℕ) (deleted : List Buried) (o : Object) → CanRetract s next deleted o → t.model ≡ with_retracted s.model o.number next
    → KeepsOthersRoom o.number s.places t.places → KeepsRoomOf t.model (map waiting_place deleted ++ s.places) t.places
retracted_room s t next deleted o can is keeps =
    subst (λ ds. KeepsRoomOf t.model (map waiting_place ds ++ s.places) t.places) (sym can.alone) (record {
      room = λ p side r live. keeps.room p side r (other_live p (subst (λ g. IsSome (live_at g p)) is live));
      classes = λ p c gone was. keeps.classes p c (other_gone p (subst (λ g. IsSome (gone_at g p)) is gone)) was;
    })
  where
    other_live : (p : ObjId) → IsSome (live_at (with_retracted s.model o.number next) p) → p.0 ≢ o.number.0
    other_live p live same =
        let found = live_number (with_retracted s.model o.number next) p live in
        let was = Contains-from_filter (λ x. not (x.number.0 == o.number.0)) s.model.live found.0 found.1 in
        both_ways (found.0.number.0 == o.number.0) (not-true (found.0.number.0 == o.number.0) was.1) (eq-eqb found.0.number.0 o.number.0 (found.2 ∙ same))

    other_gone : (p : ObjId) → IsSome (gone_at s.model p) → p.0 ≢ o.number.0
    other_gone p gone same =
        let found = gone_number s.model p gone in
        let below = All-contains (λ x. x.number.0 < next) s.model.gone found.0 can.last.gone_below found.1 in
        let above = can.above in
        let number_is = found.2 in
        absurd (omega arith)

-- the room of all, where objects come back
pub returned_room : (g : Model) (before after : List Place) → KeepsRoom before after → KeepsRoomOf g before after
returned_room g before after keeps = record { room = λ o side r live. keeps.room o side r; classes = λ o c gone is. keeps.classes o c is }
