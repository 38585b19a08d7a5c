-- The next number of the model that a document's changes make.
use Rattle.std.proofs.Common.{◌≡◌, ℕ, ◌+◌, ◌≤◌, List, [], ◌∷◌, ◌++◌, map, append_assoc, refl, sym, ap, subst, ◌∙◌, arith, Bool, true, false}
use Rattle.std.specs.Prelude.{flat_map, if◌then◌else◌, Option, Some, None, option_map, option_and_then, unwrap_or, Result, Ok, Err}
use Rattle.std.specs.List.{AllByRecursion}
use Rattle.std.proofs.lemmas.Bool.{leb-true}
use Rattle.vt_base.specs.declared.numbers.ClassId.{ClassId}
use Rattle.vt_base.specs.declared.numbers.ObjId.{ObjId}
use Rattle.vt_base.specs.declared.numbers.AttrId.{AttrId}
use Rattle.vt_base.specs.declared.value.Value.{Value}
use Rattle.vt_base.specs.declared.value.Kind.{Kind}
use Rattle.vt_facts.specs.Parts.{◌>>=◌}
use Rattle.vt_model.specs.Metamodel.{Metamodel, class_named}
use Rattle.vt_model.specs.Model.{Model, empty_model, object_named, feature_at}
use Rattle.vt_model.specs.Creating.{new_number, default_value, created}
use Rattle.vt_model.specs.Assigning.{attribute_of, kind_asked, value_given, with_value, with_default_value}
use Rattle.vt_model.specs.Linking.{stands, oriented, relinked, linked}
use Rattle.vt_model.specs.Effect.{link_asked, effect}
use Rattle.vt_model.specs.Transaction.{stopped_at, and_then, changes_from, transaction}
use Rattle.vt_model.specs.declared.model.Object.{Object}
use Rattle.vt_model.specs.declared.model.Link.{Link}
use Rattle.vt_model.specs.declared.change.Given.{Given}
use Rattle.vt_model.specs.declared.change.Change.{Change}
use Rattle.vt_model.specs.declared.change.Change.TheVariants as change
use Rattle.vt_model.specs.declared.change.Refusal.{Refusal}
use Rattle.vt_model.proofs.Valid.Passing.{refusal-effect}
use Rattle.vt_model_json.specs.ModelDocument.{number_at, rise, above_all}
use Rattle.vt_model_json.specs.Loading.{creations, assignment, assignments, linkings, changes_of}
use Rattle.vt_model_json.specs.declared.document.Entry.{Entry}
use Rattle.vt_model_json.specs.declared.document.ObjectDocument.{ObjectDocument}
use Rattle.vt_model_json.specs.declared.document.ModelDocument.{ModelDocument}
use Rattle.vt_model_json.proofs.LoadingLemmas.{left, right}

-- ---- one change

-- after a creation with a number that the next doesn't pass, the next is at most one above it
next_create : (meta : Metamodel) (g after : Model) (name class : List ℕ) (number : ℕ) → g.next ≤ number
    → effect meta g (change.Create name class (Some number)) ≡ Ok after → after.next ≤ number + 1
next_create meta g after name class number below made = by (class_named meta class) (refusal-effect meta g after (change.Create name class (Some number)) made).1
  where
    by : (r : Option ClassId) → unwrap_or (r >>= (λ c. Some (created meta g name c (new_number g (Some number))))) g ≡ after → after.next ≤ number + 1
    by None is = let same : g.next ≡ after.next = ap (λ (h : Model). h.next) is in omega (arith, same, below)
    by (Some c) is = let same : new_number g (Some number) + 1 ≡ after.next = ap (λ (h : Model). h.next) is in omega (arith, same, below)

-- the change keeps the next number
abbrev KeepsNext : Change → Type 0
KeepsNext c = (meta : Metamodel) (g after : Model) → effect meta g c ≡ Ok after → after.next ≡ g.next

-- a value that is set
KeepsNext-Set : (name attr : List ℕ) (given : Given) → KeepsNext (change.Set name attr given)
KeepsNext-Set name attr given meta g after made =
    by (object_named g name) (attribute_of (feature_at meta g name attr)) (option_and_then (value_given meta given) (kind_asked meta (feature_at meta g name attr)))
    (refusal-effect meta g after (change.Set name attr given) made).1
  where
    by : (r : Option Object) (s : Option AttrId) (w : Option Value)
        → unwrap_or (r >>= (λ o. s >>= (λ a. w >>= (λ v. Some (with_value g o.number a v))))) g ≡ after → after.next ≡ g.next
    by None s w is = ap (λ (h : Model). h.next) (sym is)
    by (Some o) None w is = ap (λ (h : Model). h.next) (sym is)
    by (Some o) (Some a) None is = ap (λ (h : Model). h.next) (sym is)
    by (Some o) (Some a) (Some v) is = ap (λ (h : Model). h.next) (sym is)

-- a value that is given its default back
KeepsNext-Unset : (name attr : List ℕ) → KeepsNext (change.Unset name attr)
KeepsNext-Unset name attr meta g after made =
    by (object_named g name) (attribute_of (feature_at meta g name attr)) (kind_asked meta (feature_at meta g name attr))
    (refusal-effect meta g after (change.Unset name attr) made).1
  where
    default : (o : ObjId) (a : AttrId) (d : Option Value) → with_default_value g o a d ≡ after → after.next ≡ g.next
    default o a None is = ap (λ (h : Model). h.next) (sym is)
    default o a (Some v) is = ap (λ (h : Model). h.next) (sym is)

    by : (r : Option Object) (s : Option AttrId) (t : Option Kind)
        → unwrap_or (r >>= (λ o. s >>= (λ a. t >>= (λ k. Some (with_default_value g o.number a (default_value k)))))) g ≡ after → after.next ≡ g.next
    by None s t is = ap (λ (h : Model). h.next) (sym is)
    by (Some o) None t is = ap (λ (h : Model). h.next) (sym is)
    by (Some o) (Some a) None is = ap (λ (h : Model). h.next) (sym is)
    by (Some o) (Some a) (Some k) is = default o.number a (default_value k) is

-- a link
KeepsNext-Link : (name reference target : List ℕ) → KeepsNext (change.Link name reference target)
KeepsNext-Link name reference target meta g after made =
    by (link_asked meta g name reference target) (refusal-effect meta g after (change.Link name reference target) made).1
  where
    stood : (link : Link) (b : Bool) → (if b then g else relinked meta g (oriented meta link)) ≡ after → after.next ≡ g.next
    stood link true is = ap (λ (h : Model). h.next) (sym is)
    stood link false is = ap (λ (h : Model). h.next) (sym is)

    by : (r : Option Link) → unwrap_or (option_map (linked meta g) r) g ≡ after → after.next ≡ g.next
    by None is = ap (λ (h : Model). h.next) (sym is)
    by (Some link) is = stood link (stands g link) is

-- ---- lists of changes that keep the next number

abbrev AllKeepNext : List Change → Type 0
AllKeepNext changes = AllByRecursion KeepsNext changes

-- two lists
AllKeepNext-append : (xs ys : List Change) → AllKeepNext xs → AllKeepNext ys → AllKeepNext (xs ++ ys)
AllKeepNext-append [] ys first second = second
AllKeepNext-append (x ∷ xs) ys first second = (first.0, AllKeepNext-append xs ys first.1 second)

-- a change for each item
AllKeepNext-map : {A : Type 0} (f : A → Change) → ((a : A) → KeepsNext (f a)) → (items : List A) → AllKeepNext (map f items)
AllKeepNext-map f keep [] = tt
AllKeepNext-map f keep (a ∷ items) = (keep a, AllKeepNext-map f keep items)

-- a list for each item
AllKeepNext-flat_map : {A : Type 0} (f : A → List Change) → ((a : A) → AllKeepNext (f a)) → (items : List A) → AllKeepNext (flat_map f items)
AllKeepNext-flat_map f keep [] = tt
AllKeepNext-flat_map f keep (a ∷ items) = AllKeepNext-append (f a) (flat_map f items) (keep a) (AllKeepNext-flat_map f keep items)

-- what is given to an attribute
KeepsNext-assignment : (name attr : List ℕ) (given : Option Given) → KeepsNext (assignment name attr given)
KeepsNext-assignment name attr None = KeepsNext-Unset name attr
KeepsNext-assignment name attr (Some value) = KeepsNext-Set name attr value

-- an object's attributes
AllKeepNext-assignments : (o : ObjectDocument) → AllKeepNext (assignments o)
AllKeepNext-assignments o = AllKeepNext-map (λ (e : List ℕ × Entry). assignment o.name e.0 e.1.given) (λ e. KeepsNext-assignment o.name e.0 e.1.given) o.attributes

-- an object's links
AllKeepNext-linkings : (o : ObjectDocument) → AllKeepNext (linkings o)
AllKeepNext-linkings o =
    AllKeepNext-flat_map (λ (e : List ℕ × List (List ℕ)). map (λ target. change.Link o.name e.0 target) e.1)
    (λ e. AllKeepNext-map (λ target. change.Link o.name e.0 target) (λ target. KeepsNext-Link o.name e.0 target) e.1) o.links

-- ---- what the changes come to

-- such changes, one after the other
next_kept : (meta : Metamodel) (n : ℕ) (g after : Model) (cs : List Change) → AllKeepNext cs → changes_from meta n g cs ≡ Ok after → after.next ≡ g.next
next_kept meta n g after [] keep made = let is : g ≡ after = cc in ap (λ (h : Model). h.next) (sym is)
next_kept meta n g after (c ∷ cs) keep made = by (λ mid rest. next_kept meta (n + 1) mid after cs keep.1 rest) (effect meta g c) refl made
  where
    by : ((mid : Model) → changes_from meta (n + 1) mid cs ≡ Ok after → after.next ≡ mid.next)
        → (r : Result Model Refusal) → effect meta g c ≡ r → and_then (λ mid. changes_from meta (n + 1) mid cs) (stopped_at n r) ≡ Ok after → after.next ≡ g.next
    by later (Err why) stops made = cc
    by later (Ok mid) goes made = later mid made ∙ keep.0 meta g mid goes

-- creations whose numbers rise, and then such changes
next_creations : (meta : Metamodel) (n : ℕ) (g after : Model) (above : ℕ) (os : List ObjectDocument) (rest : List Change)
    → g.next ≤ above → rise above os ≡ true → AllKeepNext rest → changes_from meta n g (creations above os ++ rest) ≡ Ok after → after.next ≤ above_all above os
next_creations meta n g after above [] rest below rises keep made = let same = next_kept meta n g after rest keep made in omega (arith, same, below)
next_creations meta n g after above (o ∷ os) rest below rises keep made =
    by (λ mid small later. next_creations meta (n + 1) mid after (number_at above o + 1) os rest small (right _ _ rises) keep later)
    (effect meta g (change.Create o.name o.class (Some (number_at above o)))) refl made
  where
    number : above ≤ number_at above o
    number = leb-true _ _ (left _ _ (left _ _ rises))

    by : ((mid : Model) → mid.next ≤ number_at above o + 1 → changes_from meta (n + 1) mid (creations (number_at above o + 1) os ++ rest) ≡ Ok after → after.next ≤ above_all (number_at above o + 1) os)
        → (r : Result Model Refusal) → effect meta g (change.Create o.name o.class (Some (number_at above o))) ≡ r
        → and_then (λ mid. changes_from meta (n + 1) mid (creations (number_at above o + 1) os ++ rest)) (stopped_at n r) ≡ Ok after → after.next ≤ above_all (number_at above o + 1) os
    by later (Err why) stops made = cc
    by later (Ok mid) goes made = later mid (next_create meta g mid o.name o.class (number_at above o) (omega (arith, below, number)) goes) made

-- the document's next number isn't below the next number of the model that its changes make
pub next_covered : (meta : Metamodel) (document : ModelDocument) (changes : List Change) (g : Model)
    → rise 0 document.objects ≡ true → above_all 0 document.objects ≤ document.next
    → changes ≡ changes_of document → transaction meta empty_model changes ≡ Ok g → g.next ≤ document.next
next_covered meta document changes g rises covers are made =
    let keep = AllKeepNext-append (flat_map assignments document.objects) (flat_map linkings document.objects)
    (AllKeepNext-flat_map assignments AllKeepNext-assignments document.objects) (AllKeepNext-flat_map linkings AllKeepNext-linkings document.objects) in
    let parts = append_assoc (creations 0 document.objects) (flat_map assignments document.objects) (flat_map linkings document.objects) in
    let small = next_creations meta 0 empty_model g 0 document.objects (flat_map assignments document.objects ++ flat_map linkings document.objects)
    (omega arith) rises keep (subst (λ cs. transaction meta empty_model cs ≡ Ok g) (are ∙ parts) made) in
    omega (arith, small, covers)
