-- Links of chains: they show the chains, and an edit of the links is one of the chains.
use Rattle.std.proofs.Common.{◌≡◌, ◌≢◌, ℕ, ◌^◌, ◌%◌, ◌<◌, ◌≤◌, length, get_or, set, replicate, List, [], ◌∷◌, refl, sym, ap, ◌∙◌, subst, inl, inr, arith}
use Rattle.std.proofs.lemmas.Bool.{cases_eq, cases_lt}
use Rattle.std.proofs.lemmas.List.{length-set, length-map, length-replicate, get_or-map, get_or-set_same, get_or-set_other, get_or-replicate, get_or_past, set_past, same_lists, get_or_default}
use Rattle.vt_memory.specs.Inside.Chains.{times, without, IsFree, chain_at, with_key, without_key, chain, chains_from, IsPath, IsBacked, IsLinking, AreLinked}
use Rattle.vt_memory.proofs.ChainLemmas.{times-same, times-other, times-without-le, without-none, without-same, few_keys, path_below, chain_is, path-set_other, next_within, back_within, backed-set_other, path-pushed, backed-pushed, path-taken, backed-taken}

-- the links show the chains
pub chains_from-is : (heads next back : List ℕ) (chains : List (List ℕ)) → IsLinking heads next back chains → chains_from next heads ≡ chains
chains_from-is heads next back chains is =
    same_lists (chains_from next heads) chains (length-map heads (λ at. chain (length next) next at) ∙ sym is.as_many)
    (λ p d l.
    let inside : p < length heads = omega (arith, length-map heads (λ at. chain (length next) next at)) in
    let within : p < length chains = omega (arith, is.as_many) in
    let path : IsPath next (get_or heads p 0) (get_or chains p []) = is.path p inside in
    let few : length (get_or chains p []) ≤ length next = few_keys (length next) (get_or chains p []) (path_below next (get_or heads p 0) (get_or chains p []) path) (is.once p) in
    get_or-map (λ at. chain (length next) next at) heads p 0 d inside ∙ chain_is (length next) next (get_or heads p 0) (get_or chains p []) path few ∙ get_or_default chains p [] d within)

-- links of chains are sound
pub AreLinked-linking : (heads next back : List ℕ) (chains : List (List ℕ)) → 0 < length heads → length next < 2 ^ 32 → length back ≡ length next → IsLinking heads next back chains → AreLinked heads next back
AreLinked-linking heads next back chains some small paired is = record {
  some = some;
  small = small;
  paired = paired;
  linking = subst (IsLinking heads next back) (sym (chains_from-is heads next back chains is)) is;
}

-- ---- no keys

get_or-empties : (n p : ℕ) → let none : List ℕ = [] in get_or (replicate n none) p none ≡ none
get_or-empties n p =
    elim (cases_lt p n) [
      | inl l ↦ get_or-replicate n p [] [] l
      | inr past ↦ get_or_past (replicate n []) p [] (omega (arith, length-replicate {A = List ℕ} n []))
    ]

pub linking-none : (places reach at : ℕ) (next back : List ℕ) → length next ≤ at → IsLinking (replicate places at) next back (replicate places [])
linking-none places reach at next back past = record {
  as_many = length-replicate places [] ∙ sym (length-replicate places at);
  path = λ p l.
      subst (IsPath next (get_or (replicate places at) p 0)) (sym (get_or-empties places p))
      (subst (λ m. length next ≤ m) (sym (get_or-replicate places p at 0 (omega (arith, length-replicate places at)))) past);
  backed = λ p. subst (IsBacked back) (sym (get_or-empties places p)) tt;
  apart = λ p q k f g. absurd (omega (arith, ap (times k) (get_or-empties places p)));
  once = λ p k. omega (arith, ap (times k) (get_or-empties places p));
}

-- ---- one chain changes

module _ (heads next back : List ℕ) (chains : List (List ℕ)) (is : IsLinking heads next back chains) (paired : length back ≡ length next) (p : ℕ) (inside : p < length heads) where
  within : p < length chains
  within = omega (arith, is.as_many)

  same_chain : (zs : List ℕ) → get_or (set chains p zs) p [] ≡ zs
  same_chain zs = get_or-set_same chains p zs [] within

  other_chain : (zs : List ℕ) (q : ℕ) → q ≢ p → get_or (set chains p zs) q [] ≡ get_or chains q []
  other_chain zs q d = get_or-set_other chains p q zs [] d

  -- what is in one chain is in no other
  elsewhere : (k q : ℕ) → 0 < times k (get_or chains p []) → q ≢ p → times k (get_or chains q []) ≡ 0
  elsewhere k q some d =
      elim (cases_lt 0 (times k (get_or chains q []))) [
        | inl l ↦ absurd (d (is.apart q p k l some))
        | inr z ↦ omega arith
      ]

  -- ---- a key comes

  module _ (k : ℕ) (reach : k < length next) (free : IsFree chains k) where
    times-pushed : (q j : ℕ) → j ≢ k → times j (get_or (set chains p (k ∷ get_or chains p [])) q []) ≡ times j (get_or chains q [])
    times-pushed q j d =
        elim (cases_eq q p) [
          | inl e ↦ subst (λ m. times j (get_or (set chains p (k ∷ get_or chains p [])) m []) ≡ times j (get_or chains m [])) (sym e)
              (ap (times j) (same_chain (k ∷ get_or chains p [])) ∙ times-other j k (get_or chains p []) d)
          | inr f ↦ ap (times j) (other_chain (k ∷ get_or chains p []) q f)
        ]

    times-pushed_here : times k (get_or (set chains p (k ∷ get_or chains p [])) p []) ≡ 1
    times-pushed_here = omega (arith, ap (times k) (same_chain (k ∷ get_or chains p [])), times-same k (get_or chains p []), free p)

    times-pushed_there : (q : ℕ) → q ≢ p → times k (get_or (set chains p (k ∷ get_or chains p [])) q []) ≡ 0
    times-pushed_there q f = ap (times k) (other_chain (k ∷ get_or chains p []) q f) ∙ free q

    pub linking-pushed : IsLinking (set heads p k) (set next k (get_or heads p 0)) (set back (get_or heads p 0) k) (set chains p (k ∷ get_or chains p []))
    linking-pushed = record {
      as_many = length-set chains p _ ∙ is.as_many ∙ sym (length-set heads p k);
      path = λ q l.
          elim (cases_eq q p) [
            | inl e ↦ subst (λ m. IsPath (set next k (get_or heads p 0)) (get_or (set heads p k) m 0) (get_or (set chains p (k ∷ get_or chains p [])) m [])) (sym e)
                (subst (λ m. IsPath (set next k (get_or heads p 0)) m (get_or (set chains p (k ∷ get_or chains p [])) p [])) (sym (get_or-set_same heads p k 0 inside))
                (subst (IsPath (set next k (get_or heads p 0)) k) (sym (same_chain (k ∷ get_or chains p [])))
                (path-pushed next (get_or heads p 0) (get_or chains p []) k (is.path p inside) reach (free p))))
            | inr f ↦ subst (λ m. IsPath (set next k (get_or heads p 0)) m (get_or (set chains p (k ∷ get_or chains p [])) q [])) (sym (get_or-set_other heads p q k 0 f))
                (subst (IsPath (set next k (get_or heads p 0)) (get_or heads q 0)) (sym (other_chain (k ∷ get_or chains p []) q f))
                (path-set_other next (get_or heads q 0) (get_or chains q []) k (get_or heads p 0) (is.path q (omega (arith, length-set heads p k))) (free q)))
          ];
      backed = λ q.
          elim (cases_eq q p) [
            | inl e ↦ subst (λ m. IsBacked (set back (get_or heads p 0) k) (get_or (set chains p (k ∷ get_or chains p [])) m [])) (sym e)
                (subst (IsBacked (set back (get_or heads p 0) k)) (sym (same_chain (k ∷ get_or chains p [])))
                (backed-pushed next back (get_or heads p 0) (get_or chains p []) k (is.path p inside) (is.backed p) paired (is.once p)))
            | inr f ↦ subst (IsBacked (set back (get_or heads p 0) k)) (sym (other_chain (k ∷ get_or chains p []) q f)) (others q f (get_or chains p []) (is.path p inside) refl)
          ];
      apart = λ q r j f g.
          elim (cases_eq j k) [
            | inl e ↦ here q (subst (λ m. 0 < times m (get_or (set chains p (k ∷ get_or chains p [])) q [])) e f) ∙ sym (here r (subst (λ m. 0 < times m (get_or (set chains p (k ∷ get_or chains p [])) r [])) e g))
            | inr d ↦ is.apart q r j (omega (arith, times-pushed q j d)) (omega (arith, times-pushed r j d))
          ];
      once = λ q j.
          elim (cases_eq j k) [
            | inl e ↦ subst (λ m. times m (get_or (set chains p (k ∷ get_or chains p [])) q []) ≤ 1) (sym e)
                (elim (cases_eq q p) [
                  | inl s ↦ subst (λ m. times k (get_or (set chains p (k ∷ get_or chains p [])) m []) ≤ 1) (sym s) (omega (arith, times-pushed_here))
                  | inr f ↦ omega (arith, times-pushed_there q f)
                ])
            | inr d ↦ omega (arith, times-pushed q j d, is.once q j)
          ];
    }
      where
        here : (q : ℕ) → 0 < times k (get_or (set chains p (k ∷ get_or chains p [])) q []) → q ≡ p
        here q f =
            elim (cases_eq q p) [
              | inl e ↦ e
              | inr d ↦ absurd (omega (arith, times-pushed_there q d))
            ]

        -- the old first key is in its own chain alone
        others : (q : ℕ) → q ≢ p → (ks : List ℕ) → IsPath next (get_or heads p 0) ks → ks ≡ get_or chains p [] → IsBacked (set back (get_or heads p 0) k) (get_or chains q [])
        others q f [] path e = subst (λ zs. IsBacked zs (get_or chains q [])) (sym (set_past back (get_or heads p 0) k (omega (arith, paired)))) (is.backed q)
        others q f (j ∷ js) path e =
            let some : 0 < times (get_or heads p 0) (get_or chains p []) = subst (λ zs. 0 < times (get_or heads p 0) zs) e (subst (λ m. 0 < times m (j ∷ js)) (sym path.0) (omega (arith, times-same j js))) in
            backed-set_other back (get_or chains q []) (get_or heads p 0) k (is.backed q) (elsewhere (get_or heads p 0) q some f)

  -- ---- a key goes

  module _ (k : ℕ) (some : 0 < times k (get_or chains p [])) where
    times-taken : (q j : ℕ) → times j (get_or (set chains p (without k (get_or chains p []))) q []) ≤ times j (get_or chains q [])
    times-taken q j =
        elim (cases_eq q p) [
          | inl e ↦ subst (λ m. times j (get_or (set chains p (without k (get_or chains p []))) m []) ≤ times j (get_or chains m [])) (sym e)
              (omega (arith, ap (times j) (same_chain (without k (get_or chains p []))), times-without-le k j (get_or chains p [])))
          | inr f ↦ omega (arith, ap (times j) (other_chain (without k (get_or chains p [])) q f))
        ]

    -- it is enough to see the links of the chain that changes, and that those of each other stand
    taken : (heads' next' back' : List ℕ) → length heads' ≡ length heads → IsPath next' (get_or heads' p 0) (without k (get_or chains p [])) → IsBacked back' (without k (get_or chains p []))
        → ((q : ℕ) → q < length heads → q ≢ p → IsPath next' (get_or heads' q 0) (get_or chains q [])) → ((q : ℕ) → q ≢ p → IsBacked back' (get_or chains q []))
        → IsLinking heads' next' back' (set chains p (without k (get_or chains p [])))
    taken heads' next' back' size path backed paths backs = record {
      as_many = length-set chains p _ ∙ is.as_many ∙ sym size;
      path = λ q l.
          elim (cases_eq q p) [
            | inl e ↦ subst (λ m. IsPath next' (get_or heads' m 0) (get_or (set chains p (without k (get_or chains p []))) m [])) (sym e)
                (subst (IsPath next' (get_or heads' p 0)) (sym (same_chain (without k (get_or chains p [])))) path)
            | inr f ↦ subst (IsPath next' (get_or heads' q 0)) (sym (other_chain (without k (get_or chains p [])) q f)) (paths q (omega (arith, size)) f)
          ];
      backed = λ q.
          elim (cases_eq q p) [
            | inl e ↦ subst (λ m. IsBacked back' (get_or (set chains p (without k (get_or chains p []))) m [])) (sym e)
                (subst (IsBacked back') (sym (same_chain (without k (get_or chains p [])))) backed)
            | inr f ↦ subst (IsBacked back') (sym (other_chain (without k (get_or chains p [])) q f)) (backs q f)
          ];
      apart = λ q r j f g. is.apart q r j (omega (arith, times-taken q j)) (omega (arith, times-taken r j));
      once = λ q j. omega (arith, times-taken q j, is.once q j);
    }

    -- the first key goes
    pub linking-first_taken : get_or heads p 0 ≡ k → IsLinking (set heads p (get_or next k 0)) next back (set chains p (without k (get_or chains p [])))
    linking-first_taken first =
        taken (set heads p (get_or next k 0)) next back (length-set heads p (get_or next k 0))
        (subst (λ m. IsPath next m (without k (get_or chains p []))) (sym (get_or-set_same heads p (get_or next k 0) 0 inside)) (rest (get_or chains p []) (is.path p inside) (is.backed p) (is.once p) some).0)
        (rest (get_or chains p []) (is.path p inside) (is.backed p) (is.once p) some).1
        (λ q l f. subst (λ m. IsPath next m (get_or chains q [])) (sym (get_or-set_other heads p q (get_or next k 0) 0 f)) (is.path q l))
        (λ q f. is.backed q)
      where
        rest : (ks : List ℕ) → IsPath next (get_or heads p 0) ks → IsBacked back ks → ((j : ℕ) → times j ks ≤ 1) → 0 < times k ks → IsPath next (get_or next k 0) (without k ks) × IsBacked back (without k ks)
        rest [] path backed once s = absurd (omega arith)
        rest (j ∷ js) path backed once s =
            let e : k ≡ j = sym first ∙ path.0 in
            let gone : without k (j ∷ js) ≡ js = subst (λ m. without k (m ∷ js) ≡ js) e (without-same k js ∙ without-none k js (subst (λ m. times m js ≡ 0) (sym e) (omega (arith, once j, times-same j js)))) in (
              subst (IsPath next (get_or next k 0)) (sym gone) (subst (λ m. IsPath next (get_or next m 0) js) (sym e) path.2),
              subst (IsBacked back) (sym gone) backed.1,
            )

    module _ (later : get_or heads p 0 ≢ k) where
      -- a key that goes from behind the first has one before it
      pub before_within : 0 < times (get_or back k 0) (get_or chains p [])
      before_within = within_from (get_or chains p []) (is.path p inside) (is.backed p) some
        where
          within_from : (ks : List ℕ) → IsPath next (get_or heads p 0) ks → IsBacked back ks → 0 < times k ks → 0 < times (get_or back k 0) ks
          within_from [] path backed s = absurd (omega arith)
          within_from (j ∷ js) path backed s = back_within back j js k backed (λ e. later (path.0 ∙ sym e)) s

      pub linking-later_taken : IsLinking heads (set next (get_or back k 0) (get_or next k 0)) (set back (get_or next k 0) (get_or back k 0)) (set chains p (without k (get_or chains p [])))
      linking-later_taken =
          taken heads (set next (get_or back k 0) (get_or next k 0)) (set back (get_or next k 0) (get_or back k 0)) refl
          (here (get_or chains p []) (is.path p inside) (is.backed p) (is.once p) some).0
          (here (get_or chains p []) (is.path p inside) (is.backed p) (is.once p) some).1
          (λ q l f. path-set_other next (get_or heads q 0) (get_or chains q []) (get_or back k 0) (get_or next k 0) (is.path q l) (elsewhere (get_or back k 0) q before_within f))
          (λ q f. elim (next_within next (get_or heads p 0) (get_or chains p []) k (is.path p inside) some) [
            | inl past ↦ subst (λ zs. IsBacked zs (get_or chains q [])) (sym (set_past back (get_or next k 0) (get_or back k 0) (omega (arith, paired)))) (is.backed q)
            | inr on ↦ backed-set_other back (get_or chains q []) (get_or next k 0) (get_or back k 0) (is.backed q) (elsewhere (get_or next k 0) q on f)
          ])
        where
          here : (ks : List ℕ) → IsPath next (get_or heads p 0) ks → IsBacked back ks → ((j : ℕ) → times j ks ≤ 1) → 0 < times k ks
              → IsPath (set next (get_or back k 0) (get_or next k 0)) (get_or heads p 0) (without k ks) × IsBacked (set back (get_or next k 0) (get_or back k 0)) (without k ks)
          here [] path backed once s = absurd (omega arith)
          here (j ∷ js) path backed once s =
              let d : k ≢ j = λ e. later (path.0 ∙ sym e) in (
                path-taken next back (get_or heads p 0) j js k path backed once d s,
                backed-taken next back (get_or heads p 0) j js k paired path backed once d s,
              )

-- ---- what the calls of chains give

module _ (heads next back : List ℕ) (s : AreLinked heads next back) (number p : ℕ) (is : p ≡ number % length heads) (inside : p < length heads) where
  same_place : number % length (chains_from next heads) ≡ p
  same_place = ap (λ n. number % n) (length-map heads (λ at. chain (length next) next at)) ∙ sym is

  pub chain_at-place : chain_at (chains_from next heads) number ≡ get_or (chains_from next heads) p []
  chain_at-place = ap (λ q. get_or (chains_from next heads) q []) same_place

  with_key-place : (k : ℕ) → with_key (chains_from next heads) number k ≡ set (chains_from next heads) p (k ∷ get_or (chains_from next heads) p [])
  with_key-place k = ap (λ q. set (chains_from next heads) q (k ∷ get_or (chains_from next heads) q [])) same_place

  without_key-place : (k : ℕ) → without_key (chains_from next heads) number k ≡ set (chains_from next heads) p (without k (get_or (chains_from next heads) p []))
  without_key-place k = ap (λ q. set (chains_from next heads) q (without k (get_or (chains_from next heads) q []))) same_place

  pub pushed : (k head : ℕ) → head ≡ get_or heads p 0 → k < length next → IsFree (chains_from next heads) k
      → AreLinked (set heads p k) (set next k head) (set back head k) × (chains_from (set next k head) (set heads p k) ≡ with_key (chains_from next heads) number k)
  pushed k head e reach free =
      let links : IsLinking (set heads p k) (set next k head) (set back head k) (set (chains_from next heads) p (k ∷ get_or (chains_from next heads) p [])) =
      subst (λ m. IsLinking (set heads p k) (set next k m) (set back m k) (set (chains_from next heads) p (k ∷ get_or (chains_from next heads) p []))) (sym e)
      (linking-pushed heads next back (chains_from next heads) s.linking s.paired p inside k reach free) in (
        AreLinked-linking (set heads p k) (set next k head) (set back head k) _ (omega (arith, s.some, length-set heads p k)) (rw length-set s.small) (length-set back head k ∙ s.paired ∙ sym (length-set next k head)) links,
        chains_from-is (set heads p k) (set next k head) (set back head k) _ links ∙ sym (with_key-place k),
      )

  module _ (k : ℕ) (some : 0 < times k (chain_at (chains_from next heads) number)) where
    stands : 0 < times k (get_or (chains_from next heads) p [])
    stands = subst (λ zs. 0 < times k zs) chain_at-place some

    -- a key that stands can be read
    pub key_below : k < length next
    key_below = path_below next (get_or heads p 0) (get_or (chains_from next heads) p []) (s.linking.path p inside) k stands

    module _ (after : ℕ) (after_is : after ≡ get_or next k 0) where
      pub first_taken : get_or heads p 0 ≡ k → AreLinked (set heads p after) next back × (chains_from next (set heads p after) ≡ without_key (chains_from next heads) number k)
      first_taken first =
          let links : IsLinking (set heads p after) next back (set (chains_from next heads) p (without k (get_or (chains_from next heads) p []))) =
          subst (λ m. IsLinking (set heads p m) next back (set (chains_from next heads) p (without k (get_or (chains_from next heads) p [])))) (sym after_is)
          (linking-first_taken heads next back (chains_from next heads) s.linking s.paired p inside k stands first) in (
            AreLinked-linking (set heads p after) next back _ (omega (arith, s.some, length-set heads p after)) s.small s.paired links,
            chains_from-is (set heads p after) next back _ links ∙ sym (without_key-place k),
          )

      module _ (later : get_or heads p 0 ≢ k) (before : ℕ) (before_is : before ≡ get_or back k 0) where
        pub before_below : before < length next
        before_below =
            path_below next (get_or heads p 0) (get_or (chains_from next heads) p []) (s.linking.path p inside) before
            (subst (λ m. 0 < times m (get_or (chains_from next heads) p [])) (sym before_is) (before_within heads next back (chains_from next heads) s.linking s.paired p inside k stands later))

        pub later_taken : AreLinked heads (set next before after) (set back after before) × (chains_from (set next before after) heads ≡ without_key (chains_from next heads) number k)
        later_taken =
            let links : IsLinking heads (set next before after) (set back after before) (set (chains_from next heads) p (without k (get_or (chains_from next heads) p []))) =
            subst (λ m. IsLinking heads (set next before m) (set back m before) (set (chains_from next heads) p (without k (get_or (chains_from next heads) p [])))) (sym after_is)
            (subst (λ m. IsLinking heads (set next m (get_or next k 0)) (set back (get_or next k 0) m) (set (chains_from next heads) p (without k (get_or (chains_from next heads) p [])))) (sym before_is)
            (linking-later_taken heads next back (chains_from next heads) s.linking s.paired p inside k stands later)) in (
              AreLinked-linking heads (set next before after) (set back after before) _ s.some (rw length-set s.small) (length-set back after before ∙ s.paired ∙ sym (length-set next before after)) links,
              chains_from-is heads (set next before after) (set back after before) _ links ∙ sym (without_key-place k),
            )
