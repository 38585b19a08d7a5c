-- What a new link drops, and what comes with it.
use Rattle.std.proofs.Common.{◌≡◌, sym, ap, ◌∙◌, Bool, true, false, not, ◌⊎◌, inl, inr}
use Rattle.std.specs.Prelude.{◌==◌, ◌&&◌, ◌||◌, Some, option_map}
use Rattle.std.specs.Option.{option_map_or}
use Rattle.std.proofs.lemmas.Bool.{and_from, or_left, or_right, eq-eqb, not_from_false}
use Rattle.vt_model.specs.Metamodel.{Metamodel}
use Rattle.vt_model.specs.Linking.{is_many, is_containment, opposite_of, has_single_opposite, link_back, displaces, is_dropped}
use Rattle.vt_model.specs.Sound.{IsSound}
use Rattle.vt_model.specs.declared.model.Link.{Link}
use Rattle.vt_model.proofs.Valid.Backs.{turned, IsBack-link_back, either_way, IsByOpposite-link_back}

-- ---- what is displaced

-- three tests that hold
all_three : (a b c : Bool) → a ≡ true → b ≡ true → c ≡ true → (a && b && c) ≡ true
all_three a b c x y z = and_from (a && b) c (and_from a b x y) z

module _ (meta : Metamodel) (new old : Link) where
  -- the three tests: an old target, an old source, an old container
  abbrev has_source : Bool
  has_source = old.source.0 == new.source.0 && old.reference.0 == new.reference.0 && not (is_many meta new.reference)

  abbrev has_target : Bool
  has_target = old.target.0 == new.target.0 && old.reference.0 == new.reference.0 && has_single_opposite meta new.reference

  abbrev has_contained : Bool
  has_contained = old.target.0 == new.target.0 && is_containment meta new.reference && is_containment meta old.reference

  -- another target of a single reference
  displaces-source : old.source ≡ new.source → old.reference ≡ new.reference → is_many meta new.reference ≡ false → displaces meta new old ≡ true
  displaces-source source reference single = or_left (has_source || has_target) has_contained (or_left has_source has_target
      (all_three (old.source.0 == new.source.0) (old.reference.0 == new.reference.0) (not (is_many meta new.reference))
      (eq-eqb old.source.0 new.source.0 (ap (λ x. x.0) source)) (eq-eqb old.reference.0 new.reference.0 (ap (λ x. x.0) reference)) (not_from_false (is_many meta new.reference) single)))

  -- another source of one whose opposite is single
  displaces-target : old.target ≡ new.target → old.reference ≡ new.reference → has_single_opposite meta new.reference ≡ true → displaces meta new old ≡ true
  displaces-target target reference single = or_left (has_source || has_target) has_contained (or_right has_source has_target
      (all_three (old.target.0 == new.target.0) (old.reference.0 == new.reference.0) (has_single_opposite meta new.reference)
      (eq-eqb old.target.0 new.target.0 (ap (λ x. x.0) target)) (eq-eqb old.reference.0 new.reference.0 (ap (λ x. x.0) reference)) single))

  -- another container
  pub displaces-container : old.target ≡ new.target → is_containment meta new.reference ≡ true → is_containment meta old.reference ≡ true → displaces meta new old ≡ true
  displaces-container target contains contained = or_right (has_source || has_target) has_contained
      (all_three (old.target.0 == new.target.0) (is_containment meta new.reference) (is_containment meta old.reference)
      (eq-eqb old.target.0 new.target.0 (ap (λ x. x.0) target)) contains contained)

  -- what is displaced is dropped
  pub is_dropped-displaces : displaces meta new old ≡ true → is_dropped meta new old ≡ true
  is_dropped-displaces displaced = or_left (displaces meta new old) (option_map_or (displaces meta new) (link_back meta old) false) displaced

  -- and so is its opposite
  is_dropped-back : (back : Link) → link_back meta old ≡ Some back → displaces meta new back ≡ true → is_dropped meta new old ≡ true
  is_dropped-back back at displaced =
      or_right (displaces meta new old) (option_map_or (displaces meta new) (link_back meta old) false) (ap (λ b. option_map_or (displaces meta new) b false) at ∙ displaced)

-- the new link, or its opposite
abbrev pub Comes : Metamodel → Link → Link → Type 0
Comes meta new link = (new ≡ link) ⊎ (link_back meta new ≡ Some link)

module _ (meta : Metamodel) (sound : IsSound meta) (new : Link) where
  -- a link is dropped where its opposite is
  pub is_dropped-link_back : (old back : Link) → link_back meta old ≡ Some back → is_dropped meta new back ≡ is_dropped meta new old
  is_dropped-link_back old back at = either_way meta sound (displaces meta new) old back at

  -- of what comes, each reference has one link
  pub Comes-same : (a b : Link) → Comes meta new a → Comes meta new b → a.reference ≡ b.reference → a ≡ b
  Comes-same a b (inl x) (inl y) same = cc
  Comes-same a b (inl x) (inr y) same = absurd ((IsBack-link_back meta sound new b y).differs (sym same ∙ sym (ap (λ l. l.reference) x)))
  Comes-same a b (inr x) (inl y) same = absurd ((IsBack-link_back meta sound new a x).differs (same ∙ sym (ap (λ l. l.reference) y)))
  Comes-same a b (inr x) (inr y) same = cc

  -- what has the source and the single reference of a link that comes is dropped
  pub is_dropped-single : (link old : Link) → Comes meta new link → old.source ≡ link.source → old.reference ≡ link.reference
      → is_many meta link.reference ≡ false → is_dropped meta new old ≡ true
  is_dropped-single link old (inl is) source reference single =
      is_dropped-displaces meta new old (displaces-source meta new old (source ∙ sym (ap (λ l. l.source) is)) (reference ∙ sym (ap (λ l. l.reference) is)) (ap (λ l. is_many meta l.reference) is ∙ single))
  is_dropped-single link old (inr at) source reference single =
      let back = IsBack-link_back meta sound new link at in
      let by = IsByOpposite-link_back meta link new back.forth in
      let turns : link_back meta old ≡ Some (turned old by.reference) = ap (option_map (turned old)) (ap (opposite_of meta) reference ∙ by.opposite) in
      is_dropped-back meta new old (turned old by.reference) turns
      (displaces-target meta new (turned old by.reference) (source ∙ back.source) (ap (λ l. l.reference) by.is) (back.single ∙ not_from_false (is_many meta link.reference) single))
