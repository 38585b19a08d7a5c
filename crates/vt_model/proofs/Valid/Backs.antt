-- The opposite of a link, under a sound metamodel.
use Rattle.std.proofs.Common.{◌≡◌, List, refl, sym, ap, subst, ◌∙◌, Bool, true, false, not}
use Rattle.std.specs.Prelude.{◌||◌, slice_get, Option, Some, None, option_map, option_and_then, if◌then◌else◌}
use Rattle.std.specs.Option.{option_map_or}
use Rattle.vt_base.specs.declared.numbers.RefId.{RefId}
use Rattle.vt_model.specs.Metamodel.{Metamodel}
use Rattle.vt_model.specs.Linking.{is_many, is_containment, opposite_of, has_single_opposite, link_back, or_back, oriented}
use Rattle.vt_model.specs.Fits.{IsLiveOf, FitsReference}
use Rattle.vt_model.specs.Sound.{IsSound}
use Rattle.vt_model.specs.declared.metamodel.RefInfo.{RefInfo}
use Rattle.vt_model.specs.declared.model.Object.{Object}
use Rattle.vt_model.specs.declared.model.Link.{Link}

-- the link of the same two objects by another reference, the other way round
abbrev pub turned : Link → RefId → Link
turned link s = record { source = link.target; reference = s; target = link.source }

-- what holds of a link and its opposite: the first is the opposite of the other, and only one of them contains
pub record IsBack (meta : Metamodel) (link back : Link) : Type 0 where
  pub forth : link_back meta back ≡ Some link
  pub source : back.source ≡ link.target
  pub target : back.target ≡ link.source
  pub differs : back.reference ≡ link.reference → ⊥
  pub single : has_single_opposite meta link.reference ≡ not (is_many meta back.reference)
  pub contained : is_containment meta link.reference ≡ true → is_containment meta back.reference ≡ false

-- a link turned by the opposite of its reference
pub record IsByOpposite (meta : Metamodel) (link back : Link) : Type 0 where
  pub reference : RefId
  pub opposite : opposite_of meta link.reference ≡ Some reference
  pub is : turned link reference ≡ back

-- the opposite of a link is it
pub IsByOpposite-link_back : (meta : Metamodel) (link back : Link) → link_back meta link ≡ Some back → IsByOpposite meta link back
IsByOpposite-link_back meta link back e = by (opposite_of meta link.reference) refl e
  where
    by : (s : Option RefId) → opposite_of meta link.reference ≡ s → option_map (turned link) s ≡ Some back → IsByOpposite meta link back
    by None opposite e = cc
    by (Some s) opposite e = record { reference = s; opposite = opposite; is = cc }

-- a reference is declared with an opposite
record HasOpposite (meta : Metamodel) (r s : RefId) : Type 0 where
  info : RefInfo
  declared : slice_get meta.references r.0 ≡ Some info
  opposite : info.opposite ≡ Some s

-- what has an opposite is declared with it
HasOpposite-opposite_of : (meta : Metamodel) (r s : RefId) → opposite_of meta r ≡ Some s → HasOpposite meta r s
HasOpposite-opposite_of meta r s e = by (slice_get meta.references r.0) refl e
  where
    by : (info : Option RefInfo) → slice_get meta.references r.0 ≡ info → option_and_then (λ i. i.opposite) info ≡ Some s → HasOpposite meta r s
    by None declared e = cc
    by (Some info) declared e = record { info = info; declared = declared; opposite = e }

-- a declared reference is a containment where its declaration says so
is_containment-declared : (meta : Metamodel) (r : RefId) (info : RefInfo) → slice_get meta.references r.0 ≡ Some info → is_containment meta r ≡ info.containment
is_containment-declared meta r info declared = ap (λ i. option_map_or (λ i. i.containment) i false) declared

-- and has the opposite that its declaration names
opposite_of-declared : (meta : Metamodel) (r : RefId) (info : RefInfo) → slice_get meta.references r.0 ≡ Some info → opposite_of meta r ≡ info.opposite
opposite_of-declared meta r info declared = ap (option_and_then (λ i. i.opposite)) declared

-- two tests in either order
pub or_swap : (a b : Bool) → (a || b) ≡ (b || a)
or_swap true true = refl
or_swap true false = refl
or_swap false true = refl
or_swap false false = refl

-- a link as it is made is the link, or its opposite
pub oriented-either : (meta : Metamodel) (P : Link → Type 0) (link : Link) → P link → ((back : Link) → link_back meta link ≡ Some back → P back) → P (oriented meta link)
oriented-either meta P link here there = by (link_back meta link) refl
  where
    by : (b : Option Link) → link_back meta link ≡ b → P (or_back meta link b)
    by None e = here
    by (Some back) e = elim (is_containment meta back.reference) as (λ c. P (if c then back else link)) [ true ↦ there back e | false ↦ here ]

module _ (meta : Metamodel) (sound : IsSound meta) where
  -- the opposite reference leads back
  IsBack-turned : (link : Link) (s : RefId) → opposite_of meta link.reference ≡ Some s → IsBack meta link (turned link s)
  IsBack-turned link s opposite =
      let has = HasOpposite-opposite_of meta link.reference s opposite in
      let answers = sound.opposites link.reference s has.info has.declared has.opposite in
      record {
        forth = ap (option_map (turned (turned link s))) (opposite_of-declared meta s answers.other answers.declared ∙ answers.back);
        source = refl;
        target = refl;
        differs = answers.differs;
        single = ap (λ o. option_map_or (λ t. not (is_many meta t)) o false) opposite;
        contained = λ containment. is_containment-declared meta s answers.other answers.declared
            ∙ (answers.contained (sym (is_containment-declared meta link.reference has.info has.declared) ∙ containment)).0;
      }

  -- the opposite of a link is its opposite
  pub IsBack-link_back : (link back : Link) → link_back meta link ≡ Some back → IsBack meta link back
  IsBack-link_back link back e =
      let by = IsByOpposite-link_back meta link back e in
      subst (IsBack meta link) by.is (IsBack-turned link by.reference by.opposite)

  -- where a link fits its reference, its opposite fits the opposite one
  pub FitsReference-link_back : (live : List Object) (link back : Link) → FitsReference meta live link → link_back meta link ≡ Some back → FitsReference meta live back
  FitsReference-link_back live link back fits e =
      let by = IsByOpposite-link_back meta link back e in
      let answers = sound.opposites link.reference by.reference fits.info fits.declared (sym (opposite_of-declared meta link.reference fits.info fits.declared) ∙ by.opposite) in
      subst (FitsReference meta live) by.is (record {
        info = answers.other;
        declared = answers.declared;
        source = subst (IsLiveOf meta live link.target) (sym answers.from) fits.target;
        target = subst (IsLiveOf meta live link.source) (sym answers.to) fits.source;
      })

  -- a test of a link and its opposite is the same of the opposite
  pub either_way : (p : Link → Bool) (link back : Link) → link_back meta link ≡ Some back
      → (p back || option_map_or p (link_back meta back) false) ≡ (p link || option_map_or p (link_back meta link) false)
  either_way p link back e =
      ap (λ b. p back || option_map_or p b false) (IsBack-link_back link back e).forth
      ∙ or_swap (p back) (p link)
      ∙ sym (ap (λ b. p link || option_map_or p b false) e)

  -- what leads back from a link as it is made is no containment
  pub is_containment-back : (link back : Link) → link_back meta (oriented meta link) ≡ Some back → is_containment meta back.reference ≡ false
  is_containment-back link back e = by (link_back meta link) refl e
    where
      chosen : (b : Link) → link_back meta link ≡ Some b → (c : Bool) → is_containment meta b.reference ≡ c
          → link_back meta (if c then b else link) ≡ Some back → is_containment meta back.reference ≡ false
      chosen b at true contains e =
          let forth = (IsBack-link_back link b at).forth in
          let is : link ≡ back = cc in
          subst (λ l. is_containment meta l.reference ≡ false) is ((IsBack-link_back b link forth).contained contains)
      chosen b at false contains e = let is : b ≡ back = cc in subst (λ l. is_containment meta l.reference ≡ false) is contains

      by : (b : Option Link) → link_back meta link ≡ b → link_back meta (or_back meta link b) ≡ Some back → is_containment meta back.reference ≡ false
      by None at e = cc
      by (Some b) at e = chosen b at (is_containment meta b.reference) refl e
