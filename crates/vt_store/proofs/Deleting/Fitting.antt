-- The edit of a deletion can be taken back; and the object that is named is live.
use Rattle.std.proofs.Common.{◌≡◌, ℕ, List, [], ◌∷◌, ◌++◌, refl, sym, ap, subst, ◌∙◌, eq-eqb, arith}
use Rattle.std.specs.Prelude.{◌==◌, Contains, IsSome, is_some, Some, Ok, Err}
use Rattle.std.proofs.lemmas.List.Kept.{IsStrictlySortedBy-filter}
use Rattle.vt_base.specs.declared.numbers.ObjId.{ObjId}
use Rattle.vt_facts.specs.Names.{is_name}
use Rattle.vt_model.specs.Metamodel.{Metamodel}
use Rattle.vt_model.specs.Model.{Model, never_existed, was_deleted}
use Rattle.vt_model.specs.Containing.{is_inside}
use Rattle.vt_model.specs.Deleting.{deleted}
use Rattle.vt_facts.specs.Firsts.{first_of}
use Rattle.vt_model.specs.Effect.{effect}
use Rattle.vt_model.specs.Sound.{IsSound}
use Rattle.vt_model.specs.Valid.{object_order, IsValid}
use Rattle.vt_model.specs.declared.change.Change.{Change}
use Rattle.vt_model.specs.declared.change.Change.TheVariants.{Delete}
use Rattle.vt_model.specs.declared.change.Refusal.{Refusal}
use Rattle.vt_model.specs.declared.change.Refusal.TheVariants.{UnknownObject, Gone}
use Rattle.vt_model.specs.declared.model.Object.{Object}
use Rattle.vt_facts.proofs.MemberLemmas.{Contains-map, Contains-from_filter, Contains-find, find-some}
use Rattle.vt_graph.specs.Held.{Held}
use Rattle.vt_graph.specs.Asked.{live_at, gone_at}
use Rattle.vt_graph.specs.Room.{HasRoom}
use Rattle.vt_asked.specs.declared.naming.Named.{Named}
use Rattle.vt_store.specs.Edits.{edit_of}
use Rattle.vt_store.specs.Undoing.{HeldEdit}
use Rattle.vt_store.specs.Changing.{Makes}
use Rattle.vt_store.specs.declared.fault.StoreFault.{StoreFault}
use Rattle.vt_store.specs.declared.fault.StoreFault.TheVariants.{NoMemory}
use Rattle.vt_store.specs.Inside.Kept.{gone_of}
use Rattle.vt_store.specs.Inside.Levels.{objects_inside}
use Rattle.vt_asked.specs.Named.{IsNamed}
use Rattle.vt_store.specs.Inside.Leaving.{Deletes}
use Rattle.vt_store.proofs.MakesLemmas.{room_kept, makes_nothing, makes_made}
use Rattle.vt_store.proofs.Deleting.Buried.{object_at-live}
use Rattle.vt_store.proofs.Deleting.Edit.{Contains-with_gone, edit_of_deleted}

-- what is inside is among the deleted
gone-inside : (meta : Metamodel) (g : Model) (o : ObjId) → IsValid meta g → (x : Object) → Contains (objects_inside meta g o) x → IsSome (gone_at (deleted meta g o) x.number)
gone-inside meta g o valid x there =
    let stands = Contains-with_gone g.gone (objects_inside meta g o) (IsStrictlySortedBy-filter object_order (λ y. is_inside meta g y.number o) g.live valid.objects_rise)
    (λ y z one gone same. valid.numbers_differ y z (Contains-from_filter (λ w. is_inside meta g w.number o) g.live y one).0 gone same)
    (gone_of x) (Contains-map gone_of (objects_inside meta g o) x there) in
    ap is_some (find-some (λ y. y.number.0 == x.number.0) (deleted meta g o).gone (gone_of x) stands (eq-eqb x.number.0 x.number.0 refl)).1

module _ (old new : Held) (e : HeldEdit) (o : ObjId) (valid : IsValid old.meta old.model) (went : Deletes o old new e) where
  -- the edit is what changed
  deleted_edit : e.edit ≡ edit_of old.model new.model
  deleted_edit = went.edit_is ∙ ap (edit_of old.model) (sym went.made)

  -- so the deletion is made
  pub makes_deleted : (name : List ℕ) → IsSound old.meta → HasRoom old.places old.model → effect old.meta old.model (Delete name) ≡ Ok (deleted old.meta old.model o)
      → new.meta ≡ old.meta → Makes (Delete name) old new (Ok e)
  makes_deleted name sound has done meta = makes_made (Delete name) old new e tt sound valid has meta (done ∙ ap Ok (sym went.made)) (record {
    of = went.of ∙ sym meta;
    is = deleted_edit;
    gone = λ x out. subst (λ g. IsSome (gone_at g x.number)) (sym went.made) (gone-inside old.meta old.model o valid x (subst (λ xs. Contains xs x) removed out));
    kept = went.kept;
    waits = went.waits;
    room = room_kept old.model old.places (e.waiting ++ new.places) went.room;
  })
    where
      removed : e.edit.live.removed ≡ objects_inside old.meta old.model o
      removed = ap (λ d. d.live.removed) (went.edit_is ∙ edit_of_deleted old.meta old.model o valid)

-- a live object that is named is found by its number
pub named_live : (meta : Metamodel) (g : Model) → IsValid meta g → (name : List ℕ) (o : Named) → IsNamed g name o → IsSome (live_at g o.number)
named_live meta g valid name o named =
    let there = Contains-find (λ x. is_name x.name name) g.live (record { number = o.number; name = name; class = o.class }) named in
    ap is_some (object_at-live g valid.objects_rise (record { number = o.number; name = name; class = o.class }) there.0)

-- ---- the change

-- memory ran out
pub makes_no_deletion : (change : Change) (old new : Held) (f : StoreFault) → f ≡ NoMemory → new ≡ old → Makes change old new (Err f)
makes_no_deletion change old new f is same = subst (λ s. Makes change old s (Err f)) (sym same)
    (makes_nothing change old old f is refl refl (record { room = λ o side r. omega arith; classes = λ o c is. is }))

module _ (meta : Metamodel) (g : Model) (name : List ℕ) where
  pub delete_refused : (why : Refusal) → first_of ((never_existed g name, UnknownObject) ∷ (was_deleted g name, Gone) ∷ []) ≡ Some why → effect meta g (Delete name) ≡ Err why
  delete_refused why some = rw some refl

  pub delete_made : (o : Named) → IsNamed g name o → effect meta g (Delete name) ≡ Ok (deleted meta g o.number)
  delete_made o named = rw named refl
