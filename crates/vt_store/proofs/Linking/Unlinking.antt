-- What Unlink drops: the link and its opposite, where they stand.
use Rattle.std.proofs.Common.{◌≡◌, List, [], refl, sym, ap, ap₂, subst, ◌∙◌, Bool, true, false, not, ◌⊎◌, inl, inr, Option, Some, None}
use Rattle.std.specs.Prelude.{◌&&◌, ◌||◌, Contains, filter}
use Rattle.std.specs.Option.{option_map_or}
use Rattle.std.proofs.lemmas.Bool.{or_cases, or_left, or_right, false_from_ne_true, false≢true, both_ways}
use Rattle.std.proofs.lemmas.Option.{same_Some}
use Rattle.std.proofs.lemmas.List.Kept.{IsStrictlySortedBy-filter}
use Rattle.vt_model.specs.Metamodel.{Metamodel}
use Rattle.vt_model.specs.Model.{Model}
use Rattle.vt_model.specs.Linking.{link_order, is_link, stands, link_back, with_link, unlinked}
use Rattle.vt_model.specs.Sound.{IsSound}
use Rattle.vt_model.specs.Valid.{IsValid}
use Rattle.vt_model.specs.declared.model.Link.{Link}
use Rattle.vt_facts.proofs.MemberLemmas.{Contains-nil, Contains-filter, Contains-from_filter}
use Rattle.vt_model.proofs.Valid.Backs.{IsBack-link_back}
use Rattle.vt_model.proofs.Valid.Dropped.{Comes}
use Rattle.vt_model.proofs.Valid.WithLink.{Contains-with_link_cases, Contains-with_link_new, IsStrictlySortedBy-with_link}
use Rattle.vt_store.specs.Edits.{edit_of}
use Rattle.vt_store.specs.Inside.Displaced.{without_link, without_each, without_back, links_edit}
use Rattle.vt_store.proofs.Linking.Links.{Contains-listed, not_listed}
use Rattle.vt_store.proofs.Linking.Steps.{but_for, left_each, left_back}
use Rattle.vt_store.proofs.Linking.LinkEdits.{edit_of_fewer}
use Rattle.vt_store.proofs.Linking.Coming.{Comes-stands, Comes-stood}
use Rattle.vt_facts.proofs.RisingLemmas.{same_items, rises-none}
use Rattle.vt_facts.proofs.ChosenLemmas.{filter-all, filter-agree, filter-none, filter-filter}
use Rattle.vt_graph.proofs.Linked.Changed.{is_link-same, is_link-itself}
use Rattle.vt_graph.proofs.Linked.Stored.{link_order_total}

-- a link is the one, or its opposite is
abbrev pub is_taken : Metamodel → Link → Link → Bool
is_taken meta link old = is_link link old || option_map_or (is_link link) (link_back meta old) false

module _ (meta : Metamodel) (sound : IsSound meta) (link : Link) where
  -- what is taken is the link or its opposite
  pub Comes-taken : (x : Link) → is_taken meta link x ≡ true → Comes meta link x
  Comes-taken x e = by (link_back meta x) refl (or_cases (is_link link x) (option_map_or (is_link link) (link_back meta x) false) e)
    where
      by : (b : Option Link) → link_back meta x ≡ b → (is_link link x ≡ true) ⊎ (option_map_or (is_link link) (link_back meta x) false ≡ true) → Comes meta link x
      by b at (inl here) = inl (is_link-same link x here)
      by None at (inr other) = let none : false ≡ true = sym (ap (λ b. option_map_or (is_link link) b false) at) ∙ other in cc
      by (Some back) at (inr other) =
          let is = is_link-same link back (sym (ap (λ b. option_map_or (is_link link) b false) at) ∙ other) in
          inr (ap (link_back meta) is ∙ (IsBack-link_back meta sound x back at).forth)

  -- and those are taken
  pub taken-Comes : (x : Link) → Comes meta link x → is_taken meta link x ≡ true
  taken-Comes x (inl is) = or_left (is_link link x) (option_map_or (is_link link) (link_back meta x) false) (subst (λ l. is_link link l ≡ true) is (is_link-itself link))
  taken-Comes x (inr at) = or_right (is_link link x) (option_map_or (is_link link) (link_back meta x) false)
      (ap (λ b. option_map_or (is_link link) b false) (IsBack-link_back meta sound link x at).forth ∙ is_link-itself link)

  -- ---- one after the other

  -- the link alone
  left_alone : (g : Model) → link_back meta link ≡ None → but_for link g.links ≡ filter (λ old. not (is_taken meta link old)) g.links
  left_alone g none = filter-agree (λ l. not (is_link link l)) (λ l. not (is_taken meta link l)) g.links (λ l there. ap not (by l (is_link link l) refl))
    where
      by : (l : Link) → (b : Bool) → is_link link l ≡ b → is_link link l ≡ is_taken meta link l
      by l true e = e ∙ sym (or_left (is_link link l) (option_map_or (is_link link) (link_back meta l) false) e)
      by l false e = e ∙ sym (false_from_ne_true (is_taken meta link l) (λ taken. differs (Comes-taken l taken)))
        where
          differs : Comes meta link l → ⊥
          differs (inl is) = both_ways (is_link link l) e (subst (λ x. is_link link x ≡ true) is (is_link-itself link))
          differs (inr at) = let no_back : None ≡ Some l = sym none ∙ at in cc

  -- the link, and then its opposite
  left_both : (g : Model) (back : Link) → link_back meta link ≡ Some back → but_for back (but_for link g.links) ≡ filter (λ old. not (is_taken meta link old)) g.links
  left_both g back at =
      filter-filter (λ l. not (is_link back l)) (λ l. not (is_link link l)) g.links
      ∙ filter-agree (λ l. not (is_link link l) && not (is_link back l)) (λ l. not (is_taken meta link l)) g.links
      (λ l there. neither (is_link link l) (is_link back l) (is_taken meta link l) (here l) (there_too l) (other l))
    where
      neither : (a b c : Bool) → (a ≡ true → c ≡ true) → (b ≡ true → c ≡ true) → (c ≡ true → (a ≡ true) ⊎ (b ≡ true)) → (not a && not b) ≡ not c
      neither true b true first second third = refl
      neither true b false first second third = absurd (false≢true (first refl))
      neither false true true first second third = refl
      neither false true false first second third = absurd (false≢true (second refl))
      neither false false true first second third = elim (third refl) [ inl e ↦ absurd (false≢true e) | inr e ↦ absurd (false≢true e) ]
      neither false false false first second third = refl

      here : (l : Link) → is_link link l ≡ true → is_taken meta link l ≡ true
      here l e = or_left (is_link link l) (option_map_or (is_link link) (link_back meta l) false) e

      there_too : (l : Link) → is_link back l ≡ true → is_taken meta link l ≡ true
      there_too l e = taken-Comes l (inr (at ∙ ap Some (is_link-same back l e)))

      other : (l : Link) → is_taken meta link l ≡ true → (is_link link l ≡ true) ⊎ (is_link back l ≡ true)
      other l e = elim (Comes-taken l e) [
        | inl is ↦ inl (subst (λ x. is_link link x ≡ true) is (is_link-itself link))
        | inr its ↦ inr (subst (λ x. is_link back x ≡ true) (same_Some back l (sym at ∙ its)) (is_link-itself back))
      ]

  pub unlinked_alone : (g : Model) → link_back meta link ≡ None → without_link g link ≡ unlinked meta g link
  unlinked_alone g none = ap (λ ls. record g { links = ls }) (left_alone g none)

  pub unlinked_both : (g : Model) (back : Link) → link_back meta link ≡ Some back → without_link (without_link g link) back ≡ unlinked meta g link
  unlinked_both g back at = ap (λ ls. record g { links = ls }) (left_both g back at)

  -- all that is taken, one by one
  pub unlinked_each : (g : Model) (gone : List Link) → gone ≡ filter (is_taken meta link) g.links → without_each g gone ≡ unlinked meta g link
  unlinked_each g gone is = ap (without_each g) is ∙ left_each g (is_taken meta link)

  pub unlinked_back : (g : Model) (gone : List Link) → gone ≡ filter (is_taken meta link) g.links → without_back g gone ≡ unlinked meta g link
  unlinked_back g gone is = ap (without_back g) is ∙ left_back g (is_taken meta link)

  -- ---- of a valid model

  module _ (g : Model) (valid : IsValid meta g) where
    -- what goes, in order
    abbrev pub taken : List Link
    taken = filter (is_taken meta link) g.links

    -- where the link stands, it and its opposite go
    pub taken_both : stands g link ≡ true → taken ≡ with_link meta [] link
    taken_both there = same_items link_order link_order_total taken (with_link meta [] link)
        (IsStrictlySortedBy-filter link_order (is_taken meta link) g.links valid.links_rise) (IsStrictlySortedBy-with_link meta [] link (rises-none link_order))
        (λ x was. Contains-with_link_new meta [] link x (Comes-taken x (Contains-from_filter (is_taken meta link) g.links x was).1))
        (λ x is. elim (Contains-with_link_cases meta [] link x is) [
          | inl old ↦ absurd (Contains-nil x old)
          | inr comes ↦ Contains-filter (is_taken meta link) g.links x (Comes-stands meta sound g valid link (Contains-listed g.links link there) x comes) (taken-Comes x comes)
        ])

    -- where it doesn't stand, none goes
    untaken : stands g link ≡ false → (x : Link) → Contains g.links x → is_taken meta link x ≡ false
    untaken none x there = false_from_ne_true (is_taken meta link x) (λ e. not_listed g.links link none (Comes-stood meta sound g valid link x (Comes-taken x e) there))

    pub taken_none : stands g link ≡ false → taken ≡ []
    taken_none none = filter-none (is_taken meta link) g.links (untaken none)

    pub unlinked_none : stands g link ≡ false → unlinked meta g link ≡ g
    unlinked_none none = ap (λ ls. record g { links = ls }) (filter-all (λ x. not (is_taken meta link x)) g.links (λ x there. ap not (untaken none x there)))

    -- ---- what an edit says of it

    pub edit_of_unlinked : edit_of g (unlinked meta g link) ≡ links_edit g.next [] taken
    edit_of_unlinked = edit_of_fewer g (is_taken meta link)

    pub edit_of_unlinked_both : stands g link ≡ true → edit_of g (unlinked meta g link) ≡ links_edit g.next [] (with_link meta [] link)
    edit_of_unlinked_both there = edit_of_unlinked ∙ ap (links_edit g.next []) (taken_both there)

    pub edit_of_unlinked_none : stands g link ≡ false → edit_of g (unlinked meta g link) ≡ links_edit g.next [] []
    edit_of_unlinked_none none = edit_of_unlinked ∙ ap (links_edit g.next []) (taken_none none)

    -- the same of what calls say one after the other
    pub edit_of_unmade : (after : Model) (added removed : List Link) → stands g link ≡ true → after ≡ unlinked meta g link → added ≡ [] → removed ≡ with_link meta [] link
        → edit_of g after ≡ links_edit g.next added removed
    edit_of_unmade after added removed there is none gone = ap (edit_of g) is ∙ edit_of_unlinked_both there ∙ ap₂ (links_edit g.next) (sym none) (sym gone)
