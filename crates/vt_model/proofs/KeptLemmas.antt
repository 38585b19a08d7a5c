-- A change that isn't refused keeps each number with its name.
use Rattle.std.proofs.Common.{◌≡◌, ℕ, ◌+◌, List, [], ◌∷◌, refl, sym, ap, subst, ◌∙◌, inl, inr, arith, Bool, true, false}
use Rattle.std.specs.Prelude.{◌≤◌, not, All, Contains, filter, fold, Option, Some, None, option_map, option_and_then, unwrap_or, if◌then◌else◌, Result, Ok, Err}
use Rattle.std.specs.List.{AllByRecursion}
use Rattle.std.specs.List.Sorted.{IsStrictlySortedBy}
use Rattle.std.specs.BTreeSet.{insert_key}
use Rattle.std.specs.Ordering.{match_ordering}
use Rattle.std.specs.declared.cmp.Ordering.{Ordering}
use Rattle.std.specs.declared.cmp.Ordering.TheVariants.{Less, Equal, Greater}
use Rattle.std.proofs.lemmas.Bool.{not_from_false}
use Rattle.std.proofs.lemmas.Bool.Decides.{nat_tests}
use Rattle.std.proofs.lemmas.List.Elements.{All-head, All-tail, All-weaker, All-filter, All-contains_itself, Contains-append_left}
use Rattle.std.proofs.lemmas.Map.Views.{All-insert_key}
use Rattle.vt_base.specs.declared.numbers.ObjId.{ObjId}
use Rattle.vt_base.specs.declared.numbers.ClassId.{ClassId}
use Rattle.vt_base.specs.declared.numbers.AttrId.{AttrId}
use Rattle.vt_base.specs.declared.value.Value.{Value}
use Rattle.vt_base.specs.declared.value.Kind.{Kind}
use Rattle.vt_facts.specs.Parts.{◌>>=◌}
use Rattle.vt_model.specs.Metamodel.{Metamodel, class_named}
use Rattle.vt_model.specs.Model.{Model, object_named, feature_at}
use Rattle.vt_model.specs.Creating.{new_number, default_value, created}
use Rattle.vt_model.specs.Assigning.{attribute_of, kind_asked, value_given, with_value, with_default_value}
use Rattle.vt_model.specs.Linking.{stands, oriented, relinked, linked, unlinked}
use Rattle.vt_model.specs.Containing.{is_inside}
use Rattle.vt_model.specs.Deleting.{gone_order, with_gone, deleted}
use Rattle.vt_model.specs.Effect.{link_asked, changed, effect}
use Rattle.vt_model.specs.Transaction.{changes_from, transaction, stopped_at, and_then}
use Rattle.vt_model.specs.Sound.{IsSound}
use Rattle.vt_model.specs.Storable.{GivesStorable}
use Rattle.vt_model.specs.Valid.{object_order, IsValid}
use Rattle.vt_model.specs.Kept.{IsKnown, Keeps}
use Rattle.vt_model.specs.declared.model.Object.{Object}
use Rattle.vt_model.specs.declared.model.GoneObject.{GoneObject}
use Rattle.vt_model.specs.declared.model.Link.{Link}
use Rattle.vt_model.specs.declared.change.Change.{Change}
use Rattle.vt_model.specs.declared.change.Change.TheVariants.{Create, Delete, Set, Unset, Link as LinkChange, Unlink, Move}
use Rattle.vt_model.specs.declared.change.Refusal.{Refusal}
use Rattle.vt_facts.proofs.MemberLemmas.{Contains-nil, Contains-head, Contains-behind, Contains-cons_cases, Contains-filter, Contains-insert_key_old}
use Rattle.vt_model.proofs.Valid.Gone.{gone_of}
use Rattle.vt_model.proofs.Valid.ObjectEffect.{new_number-above}
use Rattle.vt_model.proofs.Valid.Passing.{refusal-effect}
use Rattle.vt_model.proofs.Valid.{IsValid-effect}

-- ---- deleted objects

-- of two objects with one number they are the same deleted object
abbrev IsOneWith : Object → GoneObject → Type 0
IsOneWith x p = p.number.0 ≡ x.number.0 → gone_of x ≡ p

same_number : (a b : GoneObject) → gone_order a b ≡ Equal → a.number.0 ≡ b.number.0
same_number a b e = grind (arith, nat_tests)

-- who comes among them stands there
Contains-comes : (x : Object) (gone : List GoneObject) → All (IsOneWith x) gone → Contains (insert_key gone_order gone (gone_of x)) (gone_of x)
Contains-comes x [] one = Contains-head (gone_of x) []
Contains-comes x (p ∷ gone) one = by (Contains-comes x gone (All-tail (IsOneWith x) p gone one)) (gone_order (gone_of x) p) refl
  where
    by : Contains (insert_key gone_order gone (gone_of x)) (gone_of x) → (r : Ordering) → gone_order (gone_of x) p ≡ r
        → Contains (match_ordering r (gone_of x ∷ p ∷ gone) (p ∷ gone) (p ∷ insert_key gone_order gone (gone_of x))) (gone_of x)
    by rest Less e = Contains-head (gone_of x) (p ∷ gone)
    by rest Equal e =
        let is : gone_of x ≡ p = All-head (IsOneWith x) p gone one (sym (same_number (gone_of x) p e)) in
        subst (λ y. Contains (y ∷ gone) (gone_of x)) is (Contains-head (gone_of x) gone)
    by rest Greater e = Contains-behind p (gone_of x) (insert_key gone_order gone (gone_of x)) rest

-- who was among them stays there
Contains-stays : (gone : List GoneObject) (objects : List Object) (p : GoneObject) → Contains gone p → Contains (fold with_gone gone objects) p
Contains-stays gone [] p there = there
Contains-stays gone (o ∷ objects) p there = Contains-stays (with_gone gone o) objects p (Contains-insert_key_old gone_order (gone_of o) gone p there)

-- each object that goes is among them
Contains-goes : (x : Object) (gone : List GoneObject) (objects : List Object) → All (IsOneWith x) gone → All (λ o. IsOneWith x (gone_of o)) objects
    → Contains objects x → Contains (fold with_gone gone objects) (gone_of x)
Contains-goes x gone [] one others there = absurd (Contains-nil x there)
Contains-goes x gone (o ∷ objects) one others there = elim (Contains-cons_cases o x objects there) [
  | inl is ↦ Contains-stays (with_gone gone o) objects (gone_of x) (subst (λ y. Contains (with_gone gone y) (gone_of x)) (sym is) (Contains-comes x gone one))
  | inr later ↦ Contains-goes x (with_gone gone o) objects
      (All-insert_key gone_order (gone_of o) (IsOneWith x) gone one (All-head (λ o. IsOneWith x (gone_of o)) o objects others))
      (All-tail (λ o. IsOneWith x (gone_of o)) o objects others) later
]

-- ---- live objects

all_at : {X : Type 0} (P : X → Type 0) (xs : List X) (x : X) → AllByRecursion P xs → Contains xs x → P x
all_at P [] x all there = absurd (Contains-nil x there)
all_at P (y ∷ xs) x all there = elim (Contains-cons_cases y x xs there) [ inl is ↦ subst P is all.0 | inr later ↦ all_at P xs x all.1 later ]

never_below : (x y : Object) → object_order x y ≡ Less → x.number.0 ≡ y.number.0 → ⊥
never_below x y e same = grind (arith, nat_tests)

-- no two have one number
one_object : (live : List Object) (x y : Object) → IsStrictlySortedBy object_order live → Contains live x → Contains live y → y.number.0 ≡ x.number.0 → x ≡ y
unfolding IsStrictlySortedBy
one_object [] x y rise first second same = absurd (Contains-nil x first)
one_object (z ∷ live) x y rise first second same = elim (Contains-cons_cases z x live first) [
  | inl is ↦ elim (Contains-cons_cases z y live second) [
    | inl is_too ↦ sym is ∙ is_too
    | inr later ↦ absurd (never_below z y (all_at (λ u. object_order z u ≡ Less) live y rise.0 later) (ap (λ (o : Object). o.number.0) is ∙ sym same))
  ]
  | inr later ↦ elim (Contains-cons_cases z y live second) [
    | inl is ↦ absurd (never_below z x (all_at (λ u. object_order z u ≡ Less) live x rise.0 later) (ap (λ (o : Object). o.number.0) is ∙ same))
    | inr later_too ↦ one_object live x y rise.1 later later_too same
  ]
]

-- ---- each kind of change

Keeps-itself : (g : Model) → Keeps g g
Keeps-itself g = record { names = λ o name known. known; next = omega arith }

Keeps-trans : (g h k : Model) → Keeps g h → Keeps h k → Keeps g k
Keeps-trans g h k first second = record { names = λ o name known. second.names o name (first.names o name known); next = omega (arith, first.next, second.next) }

module _ (meta : Metamodel) (g : Model) where
  Keeps-created : (name : List ℕ) (c : ClassId) (number : ℕ) → g.next ≤ number → Keeps g (created meta g name c number)
  Keeps-created name c number above = record {
    names = λ o known_name known. elim known [
      | inl live ↦ inl (live.0, Contains-append_left g.live (record { number = record { 0 = number }; name = name; class = c } ∷ []) (record { number = o; name = known_name; class = live.0 }) live.1)
      | inr gone ↦ inr gone
    ];
    next = omega (arith, above);
  }

  Keeps-deleted : IsValid meta g → (o : ObjId) → Keeps g (deleted meta g o)
  Keeps-deleted valid o = record {
    names = λ p name known. elim known [
      | inl live ↦ by p name live.0 live.1 (is_inside meta g p o) refl
      | inr gone ↦ inr (Contains-stays g.gone (filter (λ x. is_inside meta g x.number o) g.live) (record { number = p; name = name }) gone)
    ];
    next = omega arith;
  }
    where
      by : (p : ObjId) (name : List ℕ) (c : ClassId) → Contains g.live (record { number = p; name = name; class = c }) → (b : Bool) → is_inside meta g p o ≡ b → IsKnown (deleted meta g o) p name
      by p name c there false out =
          inl (c, Contains-filter (λ x. not (is_inside meta g x.number o)) g.live (record { number = p; name = name; class = c }) there (not_from_false (is_inside meta g p o) out))
      by p name c there true within =
          let x : Object = record { number = p; name = name; class = c } in
          inr (Contains-goes x g.gone (filter (λ x. is_inside meta g x.number o) g.live)
          (All-weaker (Contains g.gone) (IsOneWith x) (λ q gone same. absurd (valid.numbers_differ x q there gone (ap (λ n. record { 0 = n }) (sym same)))) g.gone (All-contains_itself g.gone))
          (All-filter (λ x. is_inside meta g x.number o) (λ y. IsOneWith x (gone_of y)) g.live
          (All-weaker (Contains g.live) (λ y. IsOneWith x (gone_of y)) (λ y live same. ap gone_of (one_object g.live x y valid.objects_rise there live same)) g.live (All-contains_itself g.live)))
          (Contains-filter (λ x. is_inside meta g x.number o) g.live x there within))

  -- values and links are others
  Keeps-with_default_value : (o : ObjId) (a : AttrId) (v : Option Value) → Keeps g (with_default_value g o a v)
  Keeps-with_default_value o a None = record { names = λ p name known. known; next = omega arith }
  Keeps-with_default_value o a (Some v) = record { names = λ p name known. known; next = omega arith }

  Keeps-linked : (r : Option Link) → Keeps g (unwrap_or (option_map (linked meta g) r) g)
  Keeps-linked None = Keeps-itself g
  Keeps-linked (Some link) = by (stands g link)
    where
      by : (b : Bool) → Keeps g (if b then g else relinked meta g (oriented meta link))
      by true = Keeps-itself g
      by false = record { names = λ p name known. known; next = omega arith }

  Keeps-unlinked : (r : Option Link) → Keeps g (unwrap_or (option_map (unlinked meta g) r) g)
  Keeps-unlinked None = Keeps-itself g
  Keeps-unlinked (Some link) = record { names = λ p name known. known; next = omega arith }

  Keeps-changed : IsValid meta g → (change : Change) → Keeps g (unwrap_or (changed meta g change) g)
  Keeps-changed valid (Create name class number) = by (class_named meta class)
    where
      by : (r : Option ClassId) → Keeps g (unwrap_or (r >>= (λ c. Some (created meta g name c (new_number g number)))) g)
      by None = Keeps-itself g
      by (Some c) = Keeps-created name c (new_number g number) (new_number-above g number)
  Keeps-changed valid (Delete name) = by (object_named g name)
    where
      by : (r : Option Object) → Keeps g (unwrap_or (r >>= (λ o. Some (deleted meta g o.number))) g)
      by None = Keeps-itself g
      by (Some o) = Keeps-deleted valid o.number
  Keeps-changed valid (Set name attr given) = by (object_named g name) (attribute_of (feature_at meta g name attr)) (option_and_then (value_given meta given) (kind_asked meta (feature_at meta g name attr)))
    where
      by : (r : Option Object) (s : Option AttrId) (w : Option Value) → Keeps g (unwrap_or (r >>= (λ o. s >>= (λ a. w >>= (λ v. Some (with_value g o.number a v))))) g)
      by None s w = Keeps-itself g
      by (Some o) None w = Keeps-itself g
      by (Some o) (Some a) None = Keeps-itself g
      by (Some o) (Some a) (Some v) = Keeps-with_default_value o.number a (Some v)
  Keeps-changed valid (Unset name attr) = by (object_named g name) (attribute_of (feature_at meta g name attr)) (kind_asked meta (feature_at meta g name attr))
    where
      by : (r : Option Object) (s : Option AttrId) (t : Option Kind) → Keeps g (unwrap_or (r >>= (λ o. s >>= (λ a. t >>= (λ k. Some (with_default_value g o.number a (default_value k)))))) g)
      by None s t = Keeps-itself g
      by (Some o) None t = Keeps-itself g
      by (Some o) (Some a) None = Keeps-itself g
      by (Some o) (Some a) (Some k) = Keeps-with_default_value o.number a (default_value k)
  Keeps-changed valid (LinkChange name reference target) = Keeps-linked (link_asked meta g name reference target)
  Keeps-changed valid (Unlink name reference target) = Keeps-unlinked (link_asked meta g name reference target)
  Keeps-changed valid (Move child parent reference) = Keeps-linked (link_asked meta g parent reference child)

-- ---- a change, and a list of changes

pub Keeps-effect : (meta : Metamodel) (g after : Model) (change : Change) → IsValid meta g → effect meta g change ≡ Ok after → Keeps g after
Keeps-effect meta g after change valid e = let done = refusal-effect meta g after change e in subst (Keeps g) done.1 (Keeps-changed meta g valid change)

-- from the n-th change on
Keeps-changes_from : (meta : Metamodel) (n : ℕ) (g after : Model) (changes : List Change) → IsSound meta → IsValid meta g → All GivesStorable changes → changes_from meta n g changes ≡ Ok after → Keeps g after
Keeps-changes_from meta n g after [] sound valid gives e = let is : g ≡ after = cc in subst (Keeps g) is (Keeps-itself g)
Keeps-changes_from meta n g after (c ∷ cs) sound valid gives e =
    by (λ next first rest. Keeps-changes_from meta (n + 1) next after cs sound first (All-tail GivesStorable c cs gives) rest) (effect meta g c) refl e
  where
    by : ((next : Model) → IsValid meta next → changes_from meta (n + 1) next cs ≡ Ok after → Keeps next after)
        → (r : Result Model Refusal) → effect meta g c ≡ r → and_then (λ next. changes_from meta (n + 1) next cs) (stopped_at n r) ≡ Ok after → Keeps g after
    by later (Err why) stops e = cc
    by later (Ok next) goes e =
        Keeps-trans g next after (Keeps-effect meta g next c valid goes)
        (later next (IsValid-effect meta g next c sound valid (All-head GivesStorable c cs gives) goes) e)

pub Keeps-transaction : (meta : Metamodel) (g after : Model) (changes : List Change) → IsSound meta → IsValid meta g → All GivesStorable changes → transaction meta g changes ≡ Ok after → Keeps g after
Keeps-transaction meta g after changes sound valid gives e = Keeps-changes_from meta 0 g after changes sound valid gives e
