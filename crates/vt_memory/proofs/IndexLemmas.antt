-- Indexes of a slab's keys: what an edit of the slab asks of them, and how rows are found by them.
use Rattle.std.proofs.Common.{◌≡◌, ◌≢◌, ℕ, ◌+◌, ◌%◌, ◌<◌, ◌≤◌, length, get_or, set, map, replicate, true, false, cond, Option, Some, None, is_some, List, [], ◌∷◌, ◌++◌, take, drop, refl, sym, ap, ◌∙◌, subst, inl, inr, arith}
use mathlib.Core.Bool.{true≢false}
use Rattle.std.specs.List.{AllByRecursion}
use Rattle.std.proofs.lemmas.Bool.{cases_eq, cases_lt}
use Rattle.std.proofs.lemmas.Bool.Decides.{nat_tests}
use Rattle.std.proofs.lemmas.List.{length-set, length-replicate, get_or-set_same, get_or-set_other, get_or-replicate, get_or_past, drop_more, take_more_set, map_more, drop-set-lt}
use Rattle.slab.specs.Slab.{Slab, get, Updates}
use Rattle.vt_base.specs.Rows.{has_row}
use Rattle.vt_base.specs.declared.value.Value.{Value}
use Rattle.vt_delta.proofs.DeltaLemmas.{same_row}
use Rattle.vt_memory.specs.Inside.Chains.{Chained, times, without, IsFree, chain_at, with_key, without_key}
use Rattle.vt_memory.specs.Inside.Numbers.{number_of, number_in}
use Rattle.vt_memory.specs.Inside.Indexed.{rows_of, IsAlone, stands_at, IsIndexed, IsSound, empty_index, CanTake, with_entry, HasEntry, without_entry, is_row, key_among}
use Rattle.vt_memory.specs.declared.index.Index.{Index}
use Rattle.vt_memory.proofs.ChainLemmas.{times-same, times-other, times-without_same, times-without_other}
use Rattle.vt_memory.proofs.SetLemmas.{Some-injective, itself, stands_from, stands_not}

-- ---- stands_at

stands-here : (number : List Value → ℕ) (places : ℕ) (row : List Value) → stands_at number places (number row % places) (Some row) ≡ 1
stands-here number places row = grind (arith, nat_tests)

stands-there : (number : List Value → ℕ) (places place : ℕ) (row : List Value) → place ≢ number row % places → stands_at number places place (Some row) ≡ 0
stands-there number places place row d = grind (arith, nat_tests)

-- ---- IsIndexed

module _ (number : List Value → ℕ) where
  -- an empty index is that of an empty slab
  pub indexed-none : (slab : Slab (List Value)) (places reach : ℕ) → slab.slots ≡ [] → 0 < places → slab.capacity ≤ reach
      → IsIndexed number slab (record { chains = replicate places []; reach = reach })
  indexed-none slab places reach empty some fits = record {
    some = omega (arith, length-replicate {A = List ℕ} places []);
    reach = fits;
    keys = λ place key l.
        ap (times key) (get_or-replicate places place [] [] (omega (arith, length-replicate {A = List ℕ} places [])))
        ∙ sym (ap (stands_at number (length (replicate {A = List ℕ} places [])) place) (ap (λ slots. get_or slots key None) empty));
  }

  module _ (slab : Slab (List Value)) (chained : Chained) (is : IsIndexed number slab chained) where
    below : (row : List Value) → number row % length chained.chains < length chained.chains
    below row = let some : 0 < length chained.chains = is.some in omega arith

    -- a key with no row stands in no chain
    pub free_key : (k : ℕ) → get slab k ≡ None → IsFree chained.chains k
    free_key k none place =
        elim (cases_lt place (length chained.chains)) [
          | inl l ↦ is.keys place k l ∙ ap (stands_at number (length chained.chains) place) none
          | inr past ↦ ap (times k) (get_or_past chained.chains place [] past)
        ]

    -- a key with a row stands in the row's chain
    pub in_chain : (k : ℕ) (row : List Value) → get slab k ≡ Some row → times k (chain_at chained.chains (number row)) ≡ 1
    in_chain k row found =
        is.keys (number row % length chained.chains) k (below row)
        ∙ ap (stands_at number (length chained.chains) (number row % length chained.chains)) found
        ∙ stands-here number (length chained.chains) row

    -- a key in a chain stands there once
    pub once_in_chain : (n k : ℕ) → times k (chain_at chained.chains n) ≤ 1
    once_in_chain n k =
        let some : 0 < length chained.chains = is.some in
        let l : n % length chained.chains < length chained.chains = omega arith in
        subst (λ t. t ≤ 1) (sym (is.keys (n % length chained.chains) k l)) (at_most (get slab k))
      where
        at_most : (o : Option (List Value)) → stands_at number (length chained.chains) (n % length chained.chains) o ≤ 1
        at_most None = omega arith
        at_most (Some row) =
            elim (cases_eq (n % length chained.chains) (number row % length chained.chains)) [
              | inl e ↦ omega (arith, ap (λ p. stands_at number (length chained.chains) p (Some row)) e, stands-here number (length chained.chains) row)
              | inr d ↦ omega (arith, stands-there number (length chained.chains) (n % length chained.chains) row d)
            ]

    -- a key in a chain has a row
    pub row_in_chain : (n k : ℕ) → 0 < times k (chain_at chained.chains n) → (row : List Value) × (get slab k ≡ Some row)
    row_in_chain n k some_times =
        let some : 0 < length chained.chains = is.some in
        let l : n % length chained.chains < length chained.chains = omega arith in
        of (get slab k) refl (omega (arith, is.keys (n % length chained.chains) k l))
      where
        of : (o : Option (List Value)) → get slab k ≡ o → 0 < stands_at number (length chained.chains) (n % length chained.chains) o → (row : List Value) × (o ≡ Some row)
        of None e s = absurd (omega arith)
        of (Some row) e s = (row, refl)

    module _ (new : Slab (List Value)) (k : ℕ) (row : List Value) (same : new.capacity ≡ slab.capacity) where
      -- a row comes
      pub indexed-with : get slab k ≡ None → Updates slab new k (Some row)
          → IsIndexed number new (record { chains = with_key chained.chains (number row) k; reach = chained.reach })
      indexed-with none updates = record {
        some = subst (λ n. 0 < n) (sym (length-set chained.chains (number row % length chained.chains) (k ∷ chain_at chained.chains (number row)))) is.some;
        reach = subst (λ n. n ≤ chained.reach) (sym same) is.reach;
        keys = λ place key l.
            let size : length (with_key chained.chains (number row) k) ≡ length chained.chains = length-set chained.chains (number row % length chained.chains) (k ∷ chain_at chained.chains (number row)) in
            subst (λ n. times key (get_or (with_key chained.chains (number row) k) place []) ≡ stands_at number n place (get new key)) (sym size) (at place key (omega (arith, size)));
      }
        where
          here : get_or (with_key chained.chains (number row) k) (number row % length chained.chains) [] ≡ k ∷ chain_at chained.chains (number row)
          here = get_or-set_same chained.chains (number row % length chained.chains) (k ∷ chain_at chained.chains (number row)) [] (below row)

          other : (place : ℕ) → place ≢ number row % length chained.chains → get_or (with_key chained.chains (number row) k) place [] ≡ get_or chained.chains place []
          other place d = get_or-set_other chained.chains (number row % length chained.chains) place (k ∷ chain_at chained.chains (number row)) [] d

          at_k : (place : ℕ) → place < length chained.chains → times k (get_or (with_key chained.chains (number row) k) place []) ≡ stands_at number (length chained.chains) place (Some row)
          at_k place l =
              elim (cases_eq place (number row % length chained.chains)) [
                | inl e ↦ subst (λ q. times k (get_or (with_key chained.chains (number row) k) q []) ≡ stands_at number (length chained.chains) q (Some row)) (sym e)
                    (ap (times k) here ∙ times-same k (chain_at chained.chains (number row)) ∙ ap (λ t. 1 + t) (free_key k none (number row % length chained.chains)) ∙ sym (stands-here number (length chained.chains) row))
                | inr d ↦ ap (times k) (other place d) ∙ free_key k none place ∙ sym (stands-there number (length chained.chains) place row d)
              ]

          at : (place key : ℕ) → place < length chained.chains → times key (get_or (with_key chained.chains (number row) k) place []) ≡ stands_at number (length chained.chains) place (get new key)
          at place key l =
              elim (cases_eq key k) [
                | inl e ↦ subst (λ j. times j (get_or (with_key chained.chains (number row) k) place []) ≡ stands_at number (length chained.chains) place (get new j)) (sym e)
                    (at_k place l ∙ sym (ap (stands_at number (length chained.chains) place) updates.changed))
                | inr d ↦
                    let kept : times key (get_or (with_key chained.chains (number row) k) place []) ≡ times key (get_or chained.chains place []) =
                    elim (cases_eq place (number row % length chained.chains)) [
                      | inl e ↦ subst (λ q. times key (get_or (with_key chained.chains (number row) k) q []) ≡ times key (get_or chained.chains q [])) (sym e)
                          (ap (times key) here ∙ times-other key k (chain_at chained.chains (number row)) d)
                      | inr f ↦ ap (times key) (other place f)
                    ] in
                    kept ∙ is.keys place key l ∙ sym (ap (stands_at number (length chained.chains) place) (updates.others key d))
              ]

      -- a row goes
      pub indexed-without : get slab k ≡ Some row → Updates slab new k None
          → IsIndexed number new (record { chains = without_key chained.chains (number row) k; reach = chained.reach })
      indexed-without found updates = record {
        some = subst (λ n. 0 < n) (sym (length-set chained.chains (number row % length chained.chains) (without k (chain_at chained.chains (number row))))) is.some;
        reach = subst (λ n. n ≤ chained.reach) (sym same) is.reach;
        keys = λ place key l.
            let size : length (without_key chained.chains (number row) k) ≡ length chained.chains = length-set chained.chains (number row % length chained.chains) (without k (chain_at chained.chains (number row))) in
            subst (λ n. times key (get_or (without_key chained.chains (number row) k) place []) ≡ stands_at number n place (get new key)) (sym size) (at place key (omega (arith, size)));
      }
        where
          here : get_or (without_key chained.chains (number row) k) (number row % length chained.chains) [] ≡ without k (chain_at chained.chains (number row))
          here = get_or-set_same chained.chains (number row % length chained.chains) (without k (chain_at chained.chains (number row))) [] (below row)

          other : (place : ℕ) → place ≢ number row % length chained.chains → get_or (without_key chained.chains (number row) k) place [] ≡ get_or chained.chains place []
          other place d = get_or-set_other chained.chains (number row % length chained.chains) place (without k (chain_at chained.chains (number row))) [] d

          at_k : (place : ℕ) → place < length chained.chains → times k (get_or (without_key chained.chains (number row) k) place []) ≡ 0
          at_k place l =
              elim (cases_eq place (number row % length chained.chains)) [
                | inl e ↦ subst (λ q. times k (get_or (without_key chained.chains (number row) k) q []) ≡ 0) (sym e)
                    (ap (times k) here ∙ times-without_same k (chain_at chained.chains (number row)))
                | inr d ↦ ap (times k) (other place d) ∙ is.keys place k l ∙ ap (stands_at number (length chained.chains) place) found ∙ stands-there number (length chained.chains) place row d
              ]

          at : (place key : ℕ) → place < length chained.chains → times key (get_or (without_key chained.chains (number row) k) place []) ≡ stands_at number (length chained.chains) place (get new key)
          at place key l =
              elim (cases_eq key k) [
                | inl e ↦ subst (λ j. times j (get_or (without_key chained.chains (number row) k) place []) ≡ stands_at number (length chained.chains) place (get new j)) (sym e)
                    (at_k place l ∙ sym (ap (stands_at number (length chained.chains) place) updates.changed))
                | inr d ↦
                    let kept : times key (get_or (without_key chained.chains (number row) k) place []) ≡ times key (get_or chained.chains place []) =
                    elim (cases_eq place (number row % length chained.chains)) [
                      | inl e ↦ subst (λ q. times key (get_or (without_key chained.chains (number row) k) q []) ≡ times key (get_or chained.chains q [])) (sym e)
                          (ap (times key) here ∙ times-without_other k key (chain_at chained.chains (number row)) d)
                      | inr f ↦ ap (times key) (other place f)
                    ] in
                    kept ∙ is.keys place key l ∙ sym (ap (stands_at number (length chained.chains) place) (updates.others key d))
              ]

-- ---- all indexes

abbrev pub AreIndexed : Slab (List Value) → List Index → Type 0
AreIndexed slab indexes = AllByRecursion (λ index. IsIndexed (number_in index.columns) slab index.chains) indexes

pub are-none : (slab : Slab (List Value)) (places reach : ℕ) (keys : List (List ℕ)) → slab.slots ≡ [] → 0 < places → slab.capacity ≤ reach → AreIndexed slab (map (empty_index places reach) keys)
are-none slab places reach [] empty some fits = tt
are-none slab places reach (columns ∷ keys) empty some fits = (indexed-none (number_in columns) slab places reach empty some fits, are-none slab places reach keys empty some fits)

pub can_take : (slab : Slab (List Value)) (indexes : List Index) (k : ℕ) → AreIndexed slab indexes → get slab k ≡ None → k < slab.capacity → AllByRecursion (CanTake k) indexes
can_take slab [] k is none l = tt
can_take slab (index ∷ indexes) k is none l = ((omega (arith, is.0.reach), free_key (number_in index.columns) slab index.chains is.0 k none), can_take slab indexes k is.1 none l)

pub has_entry : (slab : Slab (List Value)) (indexes : List Index) (k : ℕ) (row : List Value) → AreIndexed slab indexes → get slab k ≡ Some row → AllByRecursion (HasEntry k row) indexes
has_entry slab [] k row is found = tt
has_entry slab (index ∷ indexes) k row is found = (omega (arith, in_chain (number_in index.columns) slab index.chains is.0 k row found), has_entry slab indexes k row is.1 found)

pub are-with : (old new : Slab (List Value)) (indexes : List Index) (k : ℕ) (row : List Value) → new.capacity ≡ old.capacity → get old k ≡ None → Updates old new k (Some row) → AreIndexed old indexes → AreIndexed new (map (with_entry k row) indexes)
are-with old new [] k row same none updates is = tt
are-with old new (index ∷ indexes) k row same none updates is =
    (indexed-with (number_in index.columns) old index.chains is.0 new k row same none updates, are-with old new indexes k row same none updates is.1)

pub are-without : (old new : Slab (List Value)) (indexes : List Index) (k : ℕ) (row : List Value) → new.capacity ≡ old.capacity → get old k ≡ Some row → Updates old new k None → AreIndexed old indexes → AreIndexed new (map (without_entry k row) indexes)
are-without old new [] k row same found updates is = tt
are-without old new (index ∷ indexes) k row same found updates is =
    (indexed-without (number_in index.columns) old index.chains is.0 new k row same found updates, are-without old new indexes k row same found updates is.1)

-- their columns stay
pub columns-with : (k : ℕ) (row : List Value) (indexes : List Index) → map (λ (index : Index). index.columns) (map (with_entry k row) indexes) ≡ map (λ index. index.columns) indexes
columns-with k row [] = refl
columns-with k row (index ∷ indexes) = ap (λ keys. index.columns ∷ keys) (columns-with k row indexes)

pub columns-without : (k : ℕ) (row : List Value) (indexes : List Index) → map (λ (index : Index). index.columns) (map (without_entry k row) indexes) ≡ map (λ index. index.columns) indexes
columns-without k row [] = refl
columns-without k row (index ∷ indexes) = ap (λ keys. index.columns ∷ keys) (columns-without k row indexes)

pub columns-empty : (places reach : ℕ) (keys : List (List ℕ)) → map (λ (index : Index). index.columns) (map (empty_index places reach) keys) ≡ keys
columns-empty places reach [] = refl
columns-empty places reach (columns ∷ keys) = ap (λ rest. columns ∷ rest) (columns-empty places reach keys)

-- ---- IsSound

Some-None : (q : List Value) → Some q ≡ None → ⊥
Some-None q e = cc

alone-with : (old new : Slab (List Value)) (k : ℕ) (row : List Value) → IsAlone old → has_row (rows_of old) row ≡ false → Updates old new k (Some row) → IsAlone new
alone-with old new k row alone absent updates i j r f g =
    elim (cases_eq i k) [
      | inl e ↦ elim (cases_eq j k) [
        | inl h ↦ e ∙ sym h
        | inr d ↦ absurd (stood j d (subst (λ n. get new n ≡ Some r) e f) g)
      ]
      | inr d ↦ elim (cases_eq j k) [
        | inl h ↦ absurd (stood i d (subst (λ n. get new n ≡ Some r) h g) f)
        | inr d' ↦ alone i j r (sym (updates.others i d) ∙ f) (sym (updates.others j d') ∙ g)
      ]
    ]
  where
    stood : (n : ℕ) → n ≢ k → get new k ≡ Some r → get new n ≡ Some r → ⊥
    stood n d here there =
        let same : row ≡ r = Some-injective row r (sym updates.changed ∙ here) in
        true≢false (sym (stands_from old n row (sym (updates.others n d) ∙ there ∙ ap Some (sym same))) ∙ absent)

alone-without : (old new : Slab (List Value)) (k : ℕ) → IsAlone old → Updates old new k None → IsAlone new
alone-without old new k alone updates i j r f g =
    alone i j r (sym (updates.others i (λ e. Some-None r (sym f ∙ ap (get new) e ∙ updates.changed))) ∙ f) (sym (updates.others j (λ e. Some-None r (sym g ∙ ap (get new) e ∙ updates.changed))) ∙ g)

pub IsSound-none : (slab : Slab (List Value)) (places reach : ℕ) (keys : List (List ℕ)) (whole : Chained) → slab.slots ≡ [] → 0 < places → slab.capacity ≤ reach → whole.chains ≡ replicate places [] → whole.reach ≡ reach
    → IsSound slab whole (map (empty_index places reach) keys)
IsSound-none slab places reach keys whole empty some fits chains same = record {
  alone = λ i j row f g. absurd (Some-None row (sym f ∙ ap (λ slots. get_or slots i None) empty));
  by_row = is (indexed-none number_of slab places reach empty some fits);
  by_key = are-none slab places reach keys empty some fits;
}
  where
    is : IsIndexed number_of slab (record { chains = replicate places []; reach = reach }) → IsIndexed number_of slab whole
    is given = subst (λ n. IsIndexed number_of slab (record { chains = whole.chains; reach = n })) (sym same) (subst (λ cs. IsIndexed number_of slab (record { chains = cs; reach = reach })) (sym chains) given)

pub IsSound-with : (old new : Slab (List Value)) (whole after : Chained) (indexes : List Index) (k : ℕ) (row : List Value) → IsSound old whole indexes → has_row (rows_of old) row ≡ false → new.capacity ≡ old.capacity → get old k ≡ None → Updates old new k (Some row)
    → after.chains ≡ with_key whole.chains (number_of row) k → after.reach ≡ whole.reach → IsSound new after (map (with_entry k row) indexes)
IsSound-with old new whole after indexes k row sound absent same none updates chains reach = record {
  alone = alone-with old new k row sound.alone absent updates;
  by_row = is (indexed-with number_of old whole sound.by_row new k row same none updates);
  by_key = are-with old new indexes k row same none updates sound.by_key;
}
  where
    is : IsIndexed number_of new (record { chains = with_key whole.chains (number_of row) k; reach = whole.reach }) → IsIndexed number_of new after
    is given = subst (λ n. IsIndexed number_of new (record { chains = after.chains; reach = n })) (sym reach) (subst (λ cs. IsIndexed number_of new (record { chains = cs; reach = whole.reach })) (sym chains) given)

pub IsSound-without : (old new : Slab (List Value)) (whole after : Chained) (indexes : List Index) (k : ℕ) (row : List Value) → IsSound old whole indexes → new.capacity ≡ old.capacity → get old k ≡ Some row → Updates old new k None
    → after.chains ≡ without_key whole.chains (number_of row) k → after.reach ≡ whole.reach → IsSound new after (map (without_entry k row) indexes)
IsSound-without old new whole after indexes k row sound same found updates chains reach = record {
  alone = alone-without old new k sound.alone updates;
  by_row = is (indexed-without number_of old whole sound.by_row new k row same found updates);
  by_key = are-without old new indexes k row same found updates sound.by_key;
}
  where
    is : IsIndexed number_of new (record { chains = without_key whole.chains (number_of row) k; reach = whole.reach }) → IsIndexed number_of new after
    is given = subst (λ n. IsIndexed number_of new (record { chains = after.chains; reach = n })) (sym reach) (subst (λ cs. IsIndexed number_of new (record { chains = cs; reach = whole.reach })) (sym chains) given)

-- ---- key_among

is_row_is : (row : List Value) (o : Option (List Value)) → is_row row o ≡ true → o ≡ Some row
is_row_is row None e = absurd (true≢false (sym e))
is_row_is row (Some other) e = ap Some (sym (same_row row other e))

-- the key that is found has the row
pub key_found : (slab : Slab (List Value)) (row : List Value) (ks : List ℕ) (k : ℕ) → key_among slab row ks ≡ Some k → get slab k ≡ Some row
key_found slab row [] k e = absurd (cc)
key_found slab row (j ∷ js) k e =
    elim (is_row row (get slab j)) as (λ b. is_row row (get slab j) ≡ b → cond b (Some j) (key_among slab row js) ≡ Some k → get slab k ≡ Some row) [
      | true ↦ λ is f. let same : j ≡ k = cc in subst (λ n. get slab n ≡ Some row) same (is_row_is row (get slab j) is)
      | false ↦ λ _ f. key_found slab row js k f
    ] refl e

-- where none is found, no key of the list has the row
key_not_among : (slab : Slab (List Value)) (row : List Value) (ks : List ℕ) (k : ℕ) → key_among slab row ks ≡ None → 0 < times k ks → get slab k ≢ Some row
key_not_among slab row [] k e some found = absurd (omega arith)
key_not_among slab row (j ∷ js) k e some found =
    elim (is_row row (get slab j)) as (λ b. is_row row (get slab j) ≡ b → cond b (Some j) (key_among slab row js) ≡ None → ⊥) [
      | true ↦ λ _ f. absurd (cc)
      | false ↦ λ is f.
          elim (cases_eq k j) [
            | inl same ↦ true≢false (sym (itself row) ∙ ap (is_row row) (sym found ∙ ap (get slab) same) ∙ is)
            | inr d ↦ key_not_among slab row js k f (omega (arith, times-other k j js d)) found
          ]
    ] refl e

-- a row stands where a key is found in its chain
pub has-by_key : (slab : Slab (List Value)) (whole : Chained) (row : List Value) → IsIndexed number_of slab whole
    → is_some (key_among slab row (chain_at whole.chains (number_of row))) ≡ has_row (rows_of slab) row
has-by_key slab whole row is = of (key_among slab row (chain_at whole.chains (number_of row))) refl
  where
    of : (o : Option ℕ) → key_among slab row (chain_at whole.chains (number_of row)) ≡ o → is_some o ≡ has_row (rows_of slab) row
    of (Some k) e = sym (stands_from slab k row (key_found slab row (chain_at whole.chains (number_of row)) k e))
    of None e = sym (stands_not slab row (λ k found. key_not_among slab row (chain_at whole.chains (number_of row)) k e (omega (arith, in_chain number_of slab whole is k row found)) found))

-- ---- a list whose items change one after the other

pub same_item : {X : Type 0} (old xs : List X) (i : ℕ) (d : X) → i < length old → length xs ≡ length old → drop i xs ≡ drop i old → get_or xs i d ≡ get_or old i d
same_item old xs i d l long rest =
    let a : drop i xs ≡ get_or xs i d ∷ drop (i + 1) xs = drop_more xs i d (omega arith) in
    let b : drop i old ≡ get_or old i d ∷ drop (i + 1) old = drop_more old i d l in
    let both : (get_or xs i d ∷ drop (i + 1) xs) ≡ (get_or old i d ∷ drop (i + 1) old) = sym a ∙ rest ∙ b in
    cc

pub changed_one : {X : Type 0} (f : X → X) (old xs : List X) (i : ℕ) (v d : X) → i < length old → length xs ≡ length old → take i xs ≡ map f (take i old) → drop i xs ≡ drop i old → v ≡ f (get_or xs i d)
    → (take (i + 1) (set xs i v) ≡ map f (take (i + 1) old)) × (drop (i + 1) (set xs i v) ≡ drop (i + 1) old)
changed_one f old xs i v d l long done rest is =
    let same : get_or xs i d ≡ get_or old i d = same_item old xs i d l long rest in
    let a : drop i xs ≡ get_or xs i d ∷ drop (i + 1) xs = drop_more xs i d (omega arith) in
    let b : drop i old ≡ get_or old i d ∷ drop (i + 1) old = drop_more old i d l in
    let both : (get_or xs i d ∷ drop (i + 1) xs) ≡ (get_or old i d ∷ drop (i + 1) old) = sym a ∙ rest ∙ b in
    let tails : drop (i + 1) xs ≡ drop (i + 1) old = cc in (
      take_more_set xs i v (omega arith) ∙ ap (λ zs. zs ++ v ∷ []) done ∙ ap (λ z. map f (take i old) ++ z ∷ []) (is ∙ ap f same) ∙ sym (map_more f old i d l),
      drop-set-lt (i + 1) xs i v (omega arith) ∙ tails,
    )
