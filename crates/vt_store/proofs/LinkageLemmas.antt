-- What Link, Unlink and Move come to once their names are looked up, and that their edits fit.
use Rattle.std.proofs.Common.{◌≡◌, ℕ, List, [], ◌∷◌, ◌++◌, refl, sym, ap, ap₂, subst, ◌∙◌, Bool, true, false, cond}
use Rattle.std.specs.Prelude.{Contains, Option, Some, None, option_map, unwrap_or, Result, Ok, Err, OnOk, OnErr, IfOk}
use Rattle.std.specs.Option.{option_map_or}
use Rattle.vt_model.specs.Metamodel.{Metamodel}
use Rattle.vt_model.specs.Model.{Model}
use Rattle.vt_model.specs.Linking.{linked, relinked, unlinked, oriented, stands}
use Rattle.vt_model.specs.Containing.{closes_cycle}
use Rattle.vt_facts.specs.Firsts.{first_of}
use Rattle.vt_model.specs.Effect.{unless_refused, link_asked, effect}
use Rattle.vt_model.specs.Sound.{IsSound}
use Rattle.vt_model.specs.Storable.{GivesStorable}
use Rattle.vt_model.specs.Valid.{IsValid}
use Rattle.vt_model.specs.declared.model.Link.{Link}
use Rattle.vt_model.specs.declared.model.Object.{Object}
use Rattle.vt_model.specs.declared.change.Change.{Change}
use Rattle.vt_model.specs.declared.change.Change.TheVariants as change
use Rattle.vt_model.specs.declared.change.Refusal.{Refusal}
use Rattle.vt_model.specs.declared.change.Refusal.TheVariants.{ContainmentCycle}
use Rattle.vt_graph.specs.Held.{Held}
use Rattle.vt_graph.specs.Room.{HasRoom, KeepsRoom}
use Rattle.vt_store.specs.Edits.{same_object, edit_of}
use Rattle.vt_store.specs.Undoing.{HeldEdit, KeepsRoomOf}
use Rattle.vt_store.specs.Changing.{Makes}
use Rattle.vt_store.specs.declared.fault.StoreFault.{StoreFault}
use Rattle.vt_store.specs.declared.fault.StoreFault.TheVariants.{Refused}
use Rattle.vt_asked.specs.Asking.{link_tests, move_tests, link_effect}
use Rattle.vt_store.proofs.EditLemmas.{net-tells_apart}
use Rattle.vt_store.proofs.SameLemmas.{Decides-same_object}
use Rattle.vt_store.proofs.MakesLemmas.{room_kept, makes_made}
use Rattle.vt_facts.proofs.FirstLemmas.{first_of-some, first_of-none}

-- ---- changes of links

module _ (meta : Metamodel) (g : Model) (name reference target : List ℕ) where
  abbrev asked : Option Link
  asked = link_asked meta g name reference target

  abbrev cycle_test : Option Link → List (Bool × Refusal)
  cycle_test link = (option_map_or (closes_cycle meta g) link false, ContainmentCycle) ∷ []

  pub link_refused : (why : Refusal) → first_of (link_tests meta g name reference target) ≡ Some why → effect meta g (change.Link name reference target) ≡ Err why
  link_refused why some = ap (λ r. unless_refused r (unwrap_or (option_map (linked meta g) asked) g)) (first_of-some (link_tests meta g name reference target) (cycle_test asked) why some)

  pub unlink_refused : (why : Refusal) → first_of (link_tests meta g name reference target) ≡ Some why → effect meta g (change.Unlink name reference target) ≡ Err why
  unlink_refused why some = ap (λ r. unless_refused r (unwrap_or (option_map (unlinked meta g) asked) g)) some

  module _ (link : Link) (is : asked ≡ Some link) where
    pub link_made : first_of (link_tests meta g name reference target) ≡ None → effect meta g (change.Link name reference target) ≡ link_effect meta g link
    link_made none = ap₂ unless_refused
        (first_of-none (link_tests meta g name reference target) (cycle_test asked) none ∙ ap (λ l. first_of (cycle_test l)) is)
        (ap (λ l. unwrap_or (option_map (linked meta g) l) g) is)

    pub unlink_made : first_of (link_tests meta g name reference target) ≡ None → effect meta g (change.Unlink name reference target) ≡ Ok (unlinked meta g link)
    unlink_made none = ap₂ unless_refused none (ap (λ l. unwrap_or (option_map (unlinked meta g) l) g) is)

module _ (meta : Metamodel) (g : Model) (child parent reference : List ℕ) where
  pub move_refused : (why : Refusal) → first_of (move_tests meta g child parent reference) ≡ Some why → effect meta g (change.Move child parent reference) ≡ Err why
  move_refused why some = ap (λ r. unless_refused r (unwrap_or (option_map (linked meta g) (link_asked meta g parent reference child)) g))
      (first_of-some (move_tests meta g child parent reference) (cycle_test meta g parent reference child (link_asked meta g parent reference child)) why some)

  pub move_made : (link : Link) → link_asked meta g parent reference child ≡ Some link → first_of (move_tests meta g child parent reference) ≡ None
      → effect meta g (change.Move child parent reference) ≡ link_effect meta g link
  move_made link is none = ap₂ unless_refused
      (first_of-none (move_tests meta g child parent reference) (cycle_test meta g parent reference child (link_asked meta g parent reference child)) none
      ∙ ap (λ l. first_of (cycle_test meta g parent reference child l)) is)
      (ap (λ l. unwrap_or (option_map (linked meta g) l) g) is)

-- ---- what stays

the_ok : Model → Result Model Refusal
the_ok g = Ok g

model_or : Model → Result Model Refusal → Model
model_or g (Ok m) = m
model_or g (Err why) = g

-- the same objects live, and the next number is the same
pub record StaysBeside (g after : Model) : Type 0 where
  pub live : after.live ≡ g.live
  pub next : after.next ≡ g.next

pub StaysBeside-linked : (meta : Metamodel) (g : Model) (link : Link) → StaysBeside g (linked meta g link)
StaysBeside-linked meta g link = elim (stands g link) as (λ b. StaysBeside g (cond b g (relinked meta g (oriented meta link)))) [
  | true ↦ record { live = refl; next = refl }
  | false ↦ record { live = refl; next = refl }
]

pub StaysBeside_link_effect : (meta : Metamodel) (g after : Model) (link : Link) → link_effect meta g link ≡ Ok after → StaysBeside g after
unfolding model_or the_ok
StaysBeside_link_effect meta g after link made = by (closes_cycle meta g link) made
  where
    by : (b : Bool) → unless_refused (first_of ((b, ContainmentCycle) ∷ [])) (linked meta g link) ≡ Ok after → StaysBeside g after
    by true made = cc
    by false made = subst (StaysBeside g) (ok_is (linked meta g link) after made) (StaysBeside-linked meta g link)
      where
        ok_is : (x y : Model) → the_ok x ≡ the_ok y → x ≡ y
        ok_is x y e = ap (model_or x) e

-- ---- the edit

module _ (change : Change) (gives : GivesStorable change) (old new : Held) (sound : IsSound old.meta) (valid : IsValid old.meta old.model) (has : HasRoom old.places old.model)
    (meta : new.meta ≡ old.meta) (room : KeepsRoom old.places new.places) where
  -- a change of links is made
  makes_links : (e : HeldEdit) → e ≡ record { meta = old.meta; edit = edit_of old.model new.model; waiting = [] } → StaysBeside old.model new.model
      → effect old.meta old.model change ≡ Ok new.model → Makes change old new (Ok e)
  makes_links e is stays made = makes_made change old new e gives sound valid has meta made (record {
    of = ap (λ (d : HeldEdit). d.meta) is ∙ sym meta;
    is = ap (λ (d : HeldEdit). d.edit) is;
    gone = λ o went. absurd (none o went);
    kept = λ o went. absurd (none o went);
    waits = λ o went. absurd (none o went);
    room = subst (λ (d : HeldEdit). KeepsRoomOf old.model old.places (d.waiting ++ new.places)) (sym is) (room_kept old.model old.places new.places room);
  })
    where
      none : (o : Object) → Contains e.edit.live.removed o → ⊥
      none o went =
          let apart = net-tells_apart same_object Decides-same_object old.model.live new.model.live in
          let here : Contains (edit_of old.model new.model).live.removed o = subst (λ (d : HeldEdit). Contains d.edit.live.removed o) is went in
          apart.removed_is_gone o here (subst (λ l. Contains l o) (sym stays.live) (apart.removed_stood o here))

  -- a link is made, or would close a cycle
  pub makes_linked : (asked : Link) (r : Result HeldEdit StoreFault) → effect old.meta old.model change ≡ link_effect old.meta old.model asked
      → OnOk r (link_effect old.meta old.model asked ≡ Ok new.model) → ((why : Refusal) → r ≡ Err (Refused why) → link_effect old.meta old.model asked ≡ Err why)
      → IfOk r (λ e. e ≡ record { meta = old.meta; edit = edit_of old.model new.model; waiting = [] }) → OnErr r (new.model ≡ old.model) → Makes change old new r
  makes_linked asked (Ok e) does made refused is unchanged = makes_links e is (StaysBeside_link_effect old.meta old.model new.model asked made) (does ∙ made)
  makes_linked asked (Err f) does made refused is unchanged = record {
    meta = meta;
    made = tt;
    refused = λ why same. does ∙ refused why same;
    unchanged = unchanged;
    edit = tt;
    fits = tt;
    room = tt;
    kept = room_kept old.model old.places new.places room;
  }

  -- a link is taken away
  pub makes_unlinked : (asked : Link) (e : HeldEdit) → effect old.meta old.model change ≡ Ok (unlinked old.meta old.model asked) → new.model ≡ unlinked old.meta old.model asked
      → e ≡ record { meta = old.meta; edit = edit_of old.model new.model; waiting = [] } → Makes change old new (Ok e)
  makes_unlinked asked e does made is = makes_links e is (subst (StaysBeside old.model) (sym made) (record { live = refl; next = refl })) (does ∙ ap Ok (sym made))
