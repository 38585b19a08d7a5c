-- In the levels below an object nothing comes twice, so there are no more of them than live objects.
use Rattle.std.proofs.Common.{◌≡◌, ℕ, zero, suc, List, [], ◌∷◌, map, refl, sym, ap, subst, ◌∙◌, arith, true, ◌⊎◌, inl, inr, length-append}
use Rattle.std.specs.Prelude.{◌+◌, ◌<◌, ◌≤◌, ◌==◌, length, filter, Contains}
use Rattle.std.specs.List.Sorted.{IsStrictlySortedBy}
use Rattle.std.specs.Ordering.{nat_cmp}
use Rattle.std.specs.declared.cmp.Ordering.TheVariants.{Less}
use Rattle.std.proofs.lemmas.Bool.{and_parts}
use Rattle.std.proofs.lemmas.Bool.Decides.{nat_tests}
use Rattle.std.proofs.lemmas.List.{length-map}
use Rattle.std.proofs.lemmas.Map.Keys.{sorted_tail}
use Rattle.std.proofs.lemmas.List.Elements.{All-contains, Contains-append_left, Contains-append_right, Contains-append_cases}
use Rattle.vt_base.specs.declared.numbers.ObjId.{ObjId}
use Rattle.vt_model.specs.Metamodel.{Metamodel}
use Rattle.vt_model.specs.Model.{Model}
use Rattle.vt_model.specs.Linking.{link_order, is_containment}
use Rattle.vt_model.specs.Containing.{Holds, LeadsOver, IsIn, is_inside}
use Rattle.vt_model.specs.Fits.{FitsReference}
use Rattle.vt_model.specs.Valid.{IsOnlyContainer, object_order, IsValid}
use Rattle.vt_model.specs.declared.model.Object.{Object}
use Rattle.vt_model.specs.declared.model.Link.{Link}
use Rattle.vt_facts.proofs.MemberLemmas.{Contains-head, Contains-behind, Contains-nil, Contains-cons_cases, Contains-map, Contains-from_filter, All-from_contains, length-different, Contains-from_map}
use Rattle.vt_model.proofs.Valid.Containment.{same_object, IsAtOrIn, IsIn-Holds, IsIn-of_at_or_in, is_inside-IsAtOrIn}
use Rattle.vt_model.proofs.Valid.Sides.{LinkSide}
use Rattle.vt_store.specs.Inside.Levels.{holds_by, children, level_below, levels_from, level_at, numbers}
use Rattle.vt_store.proofs.Deleting.ListLemmas.{NoRepeats, AreDifferent-NoRepeats, NoRepeats-rising, NoRepeats-filter, NoRepeats-append, NoRepeats-map, NoRepeats-flat_map, apart-append}
use Rattle.vt_store.proofs.Deleting.Levels.{Holds-children, Holds-level_below, levels_from-none, levels_from-append, IsAtOrIn-levels_from, IsAtOrIn-levels_from_one, Contains-levels_from-more, Contains-levels_from-inside}
use Rattle.vt_graph.proofs.Linked.Stored.{link_order_total}
use Rattle.vt_facts.proofs.RisingLemmas.{first_below}

module _ (meta : Metamodel) (g : Model) (side : LinkSide meta g) where
  -- ---- one holder each

  -- containments that lead to one object are one
  held_once : (p q x : ObjId) (one : Holds meta g p x) (other : Holds meta g q x) → other.link ≡ one.link
  held_once p q x one other = All-contains (IsOnlyContainer meta g) g.links one.link side.containers one.there one.containment other.link other.there other.containment (other.to ∙ sym one.to)

  -- so an object has one holder
  pub same_holder : (p q x : ObjId) → Holds meta g p x → Holds meta g q x → p ≡ q
  same_holder p q x one other = sym one.from ∙ ap (λ link. link.source) (sym (held_once p q x one other)) ∙ other.from

  -- what an object is in is its holder, or holds that
  above_holder : (p x y : ObjId) (path : List ObjId) → Holds meta g p x → LeadsOver meta g y path x → IsAtOrIn meta g p y
  above_holder p x y [] holds leads = inl (same_holder p y x holds leads)
  above_holder p x y (z ∷ path) holds leads = inr (IsIn-of_at_or_in meta g y z p (IsIn-Holds meta g y z leads.0) (above_holder p x z path holds leads.1))

  -- ---- no object comes twice

  -- among the children of an object
  NoRepeats-children : (p : ObjId) → NoRepeats (children meta g p)
  NoRepeats-children p = NoRepeats-map (λ link. link.target) (filter (holds_by meta p) g.links) same_link
      (NoRepeats-filter (holds_by meta p) g.links (NoRepeats-rising link_order link_order_total g.links side.links_rise))
    where
      same_link : (k l : Link) → Contains (filter (holds_by meta p) g.links) k → Contains (filter (holds_by meta p) g.links) l → k.target ≡ l.target → k ≡ l
      same_link k l one other to =
          let from = Contains-from_filter (holds_by meta p) g.links k one in
          let too = Contains-from_filter (holds_by meta p) g.links l other in
          let contains = and_parts (k.source.0 == p.0) (is_containment meta k.reference) from.1 in
          let contains_too = and_parts (l.source.0 == p.0) (is_containment meta l.reference) too.1 in
          sym (All-contains (IsOnlyContainer meta g) g.links k side.containers from.0 contains.1 l too.0 contains_too.1 (sym to))

  -- none of a level is in another of it
  abbrev pub AreApart : List ObjId → Type 0
  AreApart level = (p q : ObjId) → Contains level p → Contains level q → IsIn meta g p q → ⊥

  -- then none of the next level is
  AreApart-level_below : (level : List ObjId) → AreApart level → AreApart (level_below meta g level)
  AreApart-level_below level apart x y one other inside =
      let p = Holds-level_below meta g level x one in
      let q = Holds-level_below meta g level y other in
      apart p.0 q.0 p.1 q.1 (IsIn-of_at_or_in meta g q.0 y p.0 (IsIn-Holds meta g q.0 y q.2) (above_holder p.0 x y inside.0 p.2 inside.1))

  -- and no object comes twice in the next level
  NoRepeats-level_below : (level : List ObjId) → NoRepeats level → NoRepeats (level_below meta g level)
  NoRepeats-level_below level once = NoRepeats-flat_map (children meta g) level once (λ p there. NoRepeats-children p)
      (λ p q x _ _ one other. same_holder p q x (Holds-children meta g p x one) (Holds-children meta g q x other))

  -- nor in all levels
  NoRepeats-levels : (n : ℕ) (level : List ObjId) → NoRepeats level → AreApart level → NoRepeats (levels_from meta g n level)
  NoRepeats-levels zero level once apart = tt
  NoRepeats-levels (suc n) level once apart = NoRepeats-append level (levels_from meta g n (level_below meta g level)) once
      (NoRepeats-levels n (level_below meta g level) (NoRepeats-level_below level once) (AreApart-level_below level apart))
      (λ x own later.
      let inner = IsAtOrIn-levels_from meta g n (level_below meta g level) x later in
      let above = Holds-level_below meta g level inner.0 inner.1 in
      apart x above.0 own above.1 (IsIn-of_at_or_in meta g above.0 inner.0 x (IsIn-Holds meta g above.0 inner.0 above.2) inner.2))

  module _ (o : ObjId) where
    -- below one object
    pub NoRepeats-levels_from : (n : ℕ) → NoRepeats (levels_from meta g n (o ∷ []))
    NoRepeats-levels_from n = NoRepeats-levels n (o ∷ []) (λ there. Contains-nil o there, tt) alone
      where
        is : (p : ObjId) → Contains (o ∷ []) p → o ≡ p
        is p there = elim (Contains-cons_cases o p [] there) [ inl same ↦ same | inr none ↦ absurd (Contains-nil p none) ]

        alone : AreApart (o ∷ [])
        alone p q one other inside = side.no_cycle o (subst (λ z. IsIn meta g z o) (sym (is p one)) (subst (λ z. IsIn meta g p z) (sym (is q other)) inside))

-- ---- the last of the levels

-- what stands in so many levels stands in one fewer, or there are as many objects as levels
Contains-levels_from-last : (meta : Metamodel) (g : Model) (n : ℕ) (level : List ObjId) (x : ObjId) → Contains (levels_from meta g (suc n) level) x
    → Contains (levels_from meta g n level) x ⊎ (suc n ≤ length (levels_from meta g (suc n) level))
Contains-levels_from-last meta g n [] x there = absurd (Contains-nil x (subst (λ l. Contains l x) (levels_from-none meta g n) there))
Contains-levels_from-last meta g zero (p ∷ ps) x there = inr (omega (arith, length-append ps (levels_from meta g zero (level_below meta g (p ∷ ps)))))
Contains-levels_from-last meta g (suc n) (p ∷ ps) x there = elim (Contains-append_cases (p ∷ ps) (levels_from meta g (suc n) next) x there) [
  | inl own ↦ inl (Contains-append_left (p ∷ ps) (levels_from meta g n next) x own)
  | inr below ↦ elim (Contains-levels_from-last meta g n next x below) [
    | inl fewer ↦ inl (Contains-append_right (p ∷ ps) (levels_from meta g n next) x fewer)
    | inr many ↦ inr (omega (arith, length-append ps (levels_from meta g (suc n) next)))
  ]
]
  where
    next : List ObjId
    next = level_below meta g (p ∷ ps)

module _ (meta : Metamodel) (g : Model) (side : LinkSide meta g) where
  -- ---- live objects

  -- what something holds is live
  Contains-numbers-held : (h x : ObjId) → Holds meta g h x → Contains (numbers g.live) x
  Contains-numbers-held h x holds =
      let target = (All-contains (FitsReference meta g.live) g.links holds.link side.links_fit holds.there).target in
      subst (Contains (numbers g.live)) holds.to (Contains-map (λ y. y.number) g.live (record { number = holds.link.target; name = target.is_live.name; class = target.own }) target.is_live.there)

  -- so is what is in an object
  Contains-numbers-over : (outer x : ObjId) (path : List ObjId) → LeadsOver meta g outer path x → Contains (numbers g.live) x
  Contains-numbers-over outer x [] holds = Contains-numbers-held outer x holds
  Contains-numbers-over outer x (z ∷ path) leads = Contains-numbers-over z x path leads.1

  module _ (o : ObjId) (live : Contains (numbers g.live) o) where
    -- and what stands in the levels below a live one
    pub Contains-numbers-levels_from : (n : ℕ) (x : ObjId) → Contains (levels_from meta g n (o ∷ [])) x → Contains (numbers g.live) x
    Contains-numbers-levels_from n x there = elim (IsAtOrIn-levels_from_one meta g n o x there) [
      | inl is ↦ subst (Contains (numbers g.live)) (sym is) live
      | inr inside ↦ Contains-numbers-over o x inside.0 inside.1
    ]

    -- there are no more of them than live objects
    pub length-levels_from : (n : ℕ) → length (levels_from meta g n (o ∷ [])) ≤ length g.live
    length-levels_from n =
        let found = levels_from meta g n (o ∷ []) in
        let once = NoRepeats-map (λ x. x.0) found (λ x y _ _ same. same_object x y same) (NoRepeats-levels_from meta g side o n) in
        let fewer = length-different (map (λ x. x.0) found) (map (λ x. x.0) (numbers g.live)) (AreDifferent-NoRepeats (map (λ x. x.0) found) once)
        (All-from_contains (Contains (map (λ x. x.0) (numbers g.live))) (map (λ x. x.0) found) among) in
        omega (arith, length-map found (λ x. x.0), length-map (numbers g.live) (λ x. x.0), length-map g.live (λ x. x.number))
      where
        among : (k : ℕ) → Contains (map (λ x. x.0) (levels_from meta g n (o ∷ []))) k → Contains (map (λ x. x.0) (numbers g.live)) k
        among k there =
            let by = Contains-from_map (λ x. x.0) (levels_from meta g n (o ∷ [])) k there in
            subst (Contains (map (λ x. x.0) (numbers g.live))) by.2 (Contains-map (λ x. x.0) (numbers g.live) by.0 (Contains-numbers-levels_from n by.0 by.1))

    -- what is inside the object stands in as many levels as there are live objects
    pub Contains-levels_from-enough : (n : ℕ) (x : ObjId) → length g.live ≤ n → is_inside meta g x o ≡ true → Contains (levels_from meta g n (o ∷ [])) x
    Contains-levels_from-enough n x enough inside = Contains-levels_from-more meta g (length g.live) n (o ∷ []) x enough
        (elim (Contains-levels_from-last meta g (length g.live) (o ∷ []) x (Contains-levels_from-inside meta g x o inside)) [
          | inl fewer ↦ fewer
          | inr many ↦ let most = length-levels_from (suc (length g.live)) in absurd (omega arith)
        ])

    -- and what stands in any levels is inside
    pub is_inside-levels_from : (n : ℕ) (x : ObjId) → Contains (levels_from meta g n (o ∷ [])) x → is_inside meta g x o ≡ true
    is_inside-levels_from n x there = is_inside-IsAtOrIn meta g side x o (IsAtOrIn-levels_from_one meta g n o x there)

    -- no level is left where there were as many as live objects
    pub level_at-none : (n : ℕ) → length g.live ≤ n → level_at meta g n (o ∷ []) ≡ []
    level_at-none n enough = by (level_at meta g n (o ∷ [])) refl
      where
        by : (level : List ObjId) → level_at meta g n (o ∷ []) ≡ level → level ≡ []
        by [] is = refl
        by (x ∷ rest) is =
            let below : List ObjId = levels_from meta g 1 (level_at meta g n (o ∷ [])) in
            let there : Contains below x = subst (λ l. Contains (levels_from meta g 1 l) x) (sym is) (Contains-append_left (x ∷ rest) [] x (Contains-head x rest)) in
            let whole = levels_from-append meta g n 1 (o ∷ []) in
            let inside = is_inside-levels_from (n + 1) x (subst (λ l. Contains l x) (sym whole) (Contains-append_right (levels_from meta g n (o ∷ [])) below x there)) in
            absurd (apart-append (levels_from meta g n (o ∷ [])) below (subst NoRepeats whole (NoRepeats-levels_from meta g side o (n + 1))) x
            (Contains-levels_from-enough n x enough inside) there)

-- ---- how many live objects there are

-- a number below another in the order
less_numbers : (m n : ℕ) → nat_cmp m n ≡ Less → m < n
less_numbers m n e = grind (arith, nat_tests)

-- objects that rise between two numbers are no more than lie between these
length-between : (low high : ℕ) (ys : List Object) → low ≤ high → IsStrictlySortedBy object_order ys
    → ((y : Object) → Contains ys y → low ≤ y.number.0) → ((y : Object) → Contains ys y → y.number.0 < high) → low + length ys ≤ high
length-between low high [] order rise above below = omega arith
length-between low high (y ∷ ys) order rise above below =
    let first : low ≤ y.number.0 = above y (Contains-head y ys) in
    let last : y.number.0 < high = below y (Contains-head y ys) in
    let rest : (y.number.0 + 1) + length ys ≤ high = length-between (y.number.0 + 1) high ys (omega arith) (sorted_tail object_order y ys rise)
    (λ z there. let less = less_numbers y.number.0 z.number.0 (first_below object_order y ys rise z there) in omega arith)
    (λ z there. below z (Contains-behind y z ys there)) in
    omega arith

-- there are no more live objects than numbers were given
pub length_live : (meta : Metamodel) (g : Model) → IsValid meta g → length g.live ≤ g.next
length_live meta g valid =
    let all : 0 + length g.live ≤ g.next = length-between 0 g.next g.live (omega arith) valid.objects_rise (λ y there. omega arith)
    (λ y there. All-contains (λ o. o.number.0 < g.next) g.live y valid.numbers_below there) in
    omega arith
