-- Chains of keys, and what an edit leaves of them.
use Rattle.std.proofs.Common.{◌≡◌, ◌≢◌, ◌⊎◌, ℕ, zero, suc, ◌+◌, ◌<◌, ◌≤◌, length, get_or, set, true, false, cond, eqb, ltb, List, [], ◌∷◌, refl, sym, ap, ◌∙◌, subst, inl, inr, arith}
use Rattle.std.proofs.lemmas.Bool.{cases_eq}
use Rattle.std.proofs.lemmas.Bool.Decides.{nat_tests}
use Rattle.std.proofs.lemmas.List.{length-set, get_or-set_same, get_or-set_other}
use Rattle.vt_memory.specs.Inside.Chains.{times, without, chain, IsPath, IsAfter, IsBacked}

-- ---- times, without

pub times-same : (k : ℕ) (js : List ℕ) → times k (k ∷ js) ≡ 1 + times k js
times-same k js = grind (arith, nat_tests)

pub times-other : (k j : ℕ) (js : List ℕ) → k ≢ j → times k (j ∷ js) ≡ times k js
times-other k j js n = grind (arith, nat_tests)

pub times-tail : (k j : ℕ) (js : List ℕ) → times k js ≤ times k (j ∷ js)
times-tail k j js = omega arith

pub without-same : (k : ℕ) (js : List ℕ) → without k (k ∷ js) ≡ without k js
without-same k js = grind (arith, nat_tests)

without-other : (k j : ℕ) (js : List ℕ) → k ≢ j → without k (j ∷ js) ≡ j ∷ without k js
without-other k j js n = grind (arith, nat_tests)

pub without-none : (k : ℕ) (js : List ℕ) → times k js ≡ 0 → without k js ≡ js
without-none k [] n = refl
without-none k (j ∷ js) n =
    elim (cases_eq k j) [
      | inl e ↦ absurd (omega (arith, times-same k js, ap (λ i. times k (i ∷ js)) e))
      | inr d ↦ without-other k j js d ∙ ap (λ zs. j ∷ zs) (without-none k js (sym (times-other k j js d) ∙ n))
    ]

pub times-without_same : (k : ℕ) (js : List ℕ) → times k (without k js) ≡ 0
times-without_same k [] = refl
times-without_same k (j ∷ js) =
    elim (cases_eq k j) [
      | inl e ↦ subst (λ i. times k (without k (i ∷ js)) ≡ 0) e (ap (times k) (without-same k js) ∙ times-without_same k js)
      | inr d ↦ ap (times k) (without-other k j js d) ∙ times-other k j (without k js) d ∙ times-without_same k js
    ]

pub times-without_other : (k i : ℕ) (js : List ℕ) → i ≢ k → times i (without k js) ≡ times i js
times-without_other k i [] n = refl
times-without_other k i (j ∷ js) n =
    elim (cases_eq k j) [
      | inl e ↦ subst (λ m. times i (without k (m ∷ js)) ≡ times i (m ∷ js)) e (ap (times i) (without-same k js) ∙ times-without_other k i js n ∙ sym (times-other i k js n))
      | inr d ↦ ap (times i) (without-other k j js d) ∙ ap (λ m. cond (eqb i j) 1 0 + m) (times-without_other k i js n)
    ]

pub times-without-le : (k i : ℕ) (js : List ℕ) → times i (without k js) ≤ times i js
times-without-le k i js =
    elim (cases_eq i k) [
      | inl e ↦ omega (arith, times-without_same k js, ap (λ m. times m (without k js)) e)
      | inr d ↦ omega (arith, times-without_other k i js d)
    ]

length-without : (k : ℕ) (js : List ℕ) → length (without k js) + times k js ≡ length js
length-without k [] = refl
length-without k (j ∷ js) =
    elim (cases_eq k j) [
      | inl e ↦ subst (λ m. length (without k (m ∷ js)) + times k (m ∷ js) ≡ length (m ∷ js)) e (omega (arith, length-without k js, times-same k js, ap length (without-same k js)))
      | inr d ↦ omega (arith, length-without k js, times-other k j js d, ap length (without-other k j js d))
    ]

-- keys below a number, none of them twice, are at most as many
pub few_keys : (n : ℕ) (ks : List ℕ) → ((k : ℕ) → 0 < times k ks → k < n) → ((k : ℕ) → times k ks ≤ 1) → length ks ≤ n
few_keys zero [] below once = omega arith
few_keys zero (k ∷ ks) below once = absurd (omega (arith, below k (omega (arith, times-same k ks))))
few_keys (suc n) ks below once =
    let rest : length (without n ks) ≤ n = few_keys n (without n ks)
    (λ k some.
    let stood : 0 < times k ks = omega (arith, times-without-le n k ks) in
    let bound : k < suc n = below k stood in
    elim (cases_eq k n) [
      | inl e ↦ absurd (omega (arith, times-without_same n ks, ap (λ m. times m (without n ks)) e))
      | inr d ↦ omega (arith, d)
    ])
    (λ k. omega (arith, times-without-le n k ks, once k)) in
    omega (arith, length-without n ks, once n)

-- ---- IsPath

pub path_below : (next : List ℕ) (at : ℕ) (ks : List ℕ) → IsPath next at ks → (k : ℕ) → 0 < times k ks → k < length next
path_below next at [] p k some = absurd (omega arith)
path_below next at (j ∷ js) p k some =
    elim (cases_eq k j) [
      | inl e ↦ subst (λ m. m < length next) (sym e) p.1
      | inr d ↦ path_below next (get_or next j 0) js p.2 k (omega (arith, times-other k j js d))
    ]

-- a path is what a walk along the links finds
pub chain_is : (n : ℕ) (next : List ℕ) (at : ℕ) (ks : List ℕ) → IsPath next at ks → length ks ≤ n → chain n next at ≡ ks
chain_is zero next at [] p l = refl
chain_is zero next at (k ∷ ks) p l = absurd (omega arith)
chain_is (suc n) next at [] p l = grind (arith, nat_tests)
chain_is (suc n) next at (k ∷ ks) p l =
    let inside : ltb at (length next) ≡ true = grind (arith, nat_tests) in
    let rest : chain n next (get_or next at 0) ≡ ks = ap (λ m. chain n next (get_or next m 0)) p.0 ∙ chain_is n next (get_or next k 0) ks p.2 (omega arith) in
    rw inside (ap (λ m. m ∷ chain n next (get_or next at 0)) p.0 ∙ ap (λ zs. k ∷ zs) rest)

pub path-set_other : (next : List ℕ) (at : ℕ) (ks : List ℕ) (a v : ℕ) → IsPath next at ks → times a ks ≡ 0 → IsPath (set next a v) at ks
path-set_other next at [] a v p n = rw length-set p
path-set_other next at (k ∷ ks) a v p n =
    let d : k ≢ a = λ e. omega (arith, times-same a ks, ap (λ m. times a (m ∷ ks)) e) in
    let same : get_or (set next a v) k 0 ≡ get_or next k 0 = get_or-set_other next a k v 0 d in (
      p.0,
      omega (arith, length-set next a v, p.1),
      subst (λ m. IsPath (set next a v) m ks) (sym same) (path-set_other next (get_or next k 0) ks a v p.2 (omega (arith, times-tail a k ks))),
    )

-- the key after one of a path is past the end, or on the path
pub next_within : (next : List ℕ) (at : ℕ) (ks : List ℕ) (k : ℕ) → IsPath next at ks → 0 < times k ks → (length next ≤ get_or next k 0) ⊎ (0 < times (get_or next k 0) ks)
next_within next at [] k p some = absurd (omega arith)
next_within next at (j ∷ js) k p some =
    elim (cases_eq k j) [
      | inl e ↦ subst (λ m. (length next ≤ get_or next m 0) ⊎ (0 < times (get_or next m 0) (j ∷ js))) (sym e) (begins js p.2)
      | inr d ↦ elim (next_within next (get_or next j 0) js k p.2 (omega (arith, times-other k j js d))) [
        | inl past ↦ inl past
        | inr on ↦ inr (omega (arith, times-tail (get_or next k 0) j js))
      ]
    ]
  where
    begins : (is : List ℕ) → IsPath next (get_or next j 0) is → (length next ≤ get_or next j 0) ⊎ (0 < times (get_or next j 0) (j ∷ is))
    begins [] q = inl q
    begins (i ∷ is) q = inr (omega (arith, times-tail (get_or next j 0) j (i ∷ is), times-same i is, ap (λ m. times m (i ∷ is)) q.0))

-- no link leads to the first key of a path
next_not_first : (next : List ℕ) (at j : ℕ) (js : List ℕ) (k : ℕ) → IsPath next at (j ∷ js) → times j js ≡ 0 → 0 < times k (j ∷ js) → get_or next k 0 ≢ j
next_not_first next at j js k p alone some e =
    elim (cases_eq k j) [
      | inl same ↦ begins js p.2 alone (ap (λ m. get_or next m 0) (sym same) ∙ e)
      | inr d ↦ elim (next_within next (get_or next j 0) js k p.2 (omega (arith, times-other k j js d))) [
        | inl past ↦ absurd (omega (arith, p.1))
        | inr on ↦ absurd (omega (arith, ap (λ m. times m js) e))
      ]
    ]
  where
    begins : (is : List ℕ) → IsPath next (get_or next j 0) is → times j is ≡ 0 → get_or next j 0 ≡ j → ⊥
    begins [] q n f = omega (arith, p.1)
    begins (i ∷ is) q n f = omega (arith, times-same i is, ap (λ m. times m (i ∷ is)) (sym f ∙ q.0))

chain_short : (n : ℕ) (next : List ℕ) (at : ℕ) → length (chain n next at) ≤ n
chain_short zero next at = omega arith
chain_short (suc n) next at =
    elim (ltb at (length next)) as (λ b. length (cond b (at ∷ chain n next (get_or next at 0)) []) ≤ suc n) [
      | true ↦ omega (arith, chain_short n next (get_or next at 0))
      | false ↦ omega arith
    ]

-- a walk along a path goes on along what is left of it
pub path_step : (next : List ℕ) (at after : ℕ) → IsPath next at (chain (length next) next at) → at < length next → get_or next at 0 ≡ after
    → (chain (length next) next at ≡ at ∷ chain (length next) next after) × IsPath next after (chain (length next) next after)
path_step next at after p inside read = from (length next) refl p inside read
  where
    from : (n : ℕ) → n ≡ length next → IsPath next at (chain n next at) → at < length next → get_or next at 0 ≡ after
        → (chain n next at ≡ at ∷ chain (length next) next after) × IsPath next after (chain (length next) next after)
    from zero e q inside read = absurd (omega arith)
    from (suc m) e q inside read =
        let test : ltb at (length next) ≡ true = grind (arith, nat_tests) in
        let cons : chain (suc m) next at ≡ at ∷ chain m next (get_or next at 0) = rw test refl in
        let whole : IsPath next at (at ∷ chain m next (get_or next at 0)) = subst (IsPath next at) cons q in
        let rest : chain (length next) next (get_or next at 0) ≡ chain m next (get_or next at 0) =
        chain_is (length next) next (get_or next at 0) (chain m next (get_or next at 0)) whole.2 (omega (arith, chain_short m next (get_or next at 0))) in (
          cons ∙ ap (λ zs. at ∷ zs) (sym rest ∙ ap (chain (length next) next) read),
          subst (λ i. IsPath next i (chain (length next) next i)) read (subst (IsPath next (get_or next at 0)) (sym rest) whole.2),
        )

-- ---- IsBacked

pub backed-set_other : (back ks : List ℕ) (a v : ℕ) → IsBacked back ks → times a ks ≡ 0 → IsBacked (set back a v) ks
backed-set_other back [] a v b n = tt
backed-set_other back (k ∷ ks) a v b n = (after ks b.0 (omega (arith, times-tail a k ks)), backed-set_other back ks a v b.1 (omega (arith, times-tail a k ks)))
  where
    after : (js : List ℕ) → IsAfter back k js → times a js ≡ 0 → IsAfter (set back a v) k js
    after [] f m = tt
    after (j ∷ js) f m =
        let d : j ≢ a = λ e. omega (arith, times-same a js, ap (λ i. times a (i ∷ js)) e) in
        get_or-set_other back a j v 0 d ∙ f

-- what is before a first key is of no account
backed-set_first : (back : List ℕ) (k : ℕ) (ks : List ℕ) (v : ℕ) → IsBacked back (k ∷ ks) → times k ks ≡ 0 → IsBacked (set back k v) (k ∷ ks)
backed-set_first back k ks v b n = (after ks b.0 n, backed-set_other back ks k v b.1 n)
  where
    after : (js : List ℕ) → IsAfter back k js → times k js ≡ 0 → IsAfter (set back k v) k js
    after [] f m = tt
    after (j ∷ js) f m =
        let d : j ≢ k = λ e. omega (arith, times-same k js, ap (λ i. times k (i ∷ js)) e) in
        get_or-set_other back k j v 0 d ∙ f

-- the key before one of a list, but for the first, is in the list
pub back_within : (back : List ℕ) (j : ℕ) (js : List ℕ) (k : ℕ) → IsBacked back (j ∷ js) → k ≢ j → 0 < times k (j ∷ js) → 0 < times (get_or back k 0) (j ∷ js)
back_within back j [] k b d some = absurd (omega (arith, times-other k j [] d))
back_within back j (i ∷ is) k b d some =
    elim (cases_eq k i) [
      | inl e ↦ subst (λ m. 0 < times m (j ∷ i ∷ is)) (sym (ap (λ m. get_or back m 0) e ∙ b.0)) (omega (arith, times-same j (i ∷ is)))
      | inr f ↦ omega (arith, times-tail (get_or back k 0) j (i ∷ is), back_within back i is k b.1 f (omega (arith, times-other k j (i ∷ is) d)))
    ]

-- ---- a key comes in front

pub path-pushed : (next : List ℕ) (head : ℕ) (ks : List ℕ) (k : ℕ) → IsPath next head ks → k < length next → times k ks ≡ 0 → IsPath (set next k head) k (k ∷ ks)
path-pushed next head ks k p l n = (
  refl,
  omega (arith, length-set next k head),
  subst (λ m. IsPath (set next k head) m ks) (sym (get_or-set_same next k head 0 l)) (path-set_other next head ks k head p n),
)

pub backed-pushed : (next back : List ℕ) (head : ℕ) (ks : List ℕ) (k : ℕ) → IsPath next head ks → IsBacked back ks → length back ≡ length next → ((j : ℕ) → times j ks ≤ 1) → IsBacked (set back head k) (k ∷ ks)
backed-pushed next back head [] k p b e once = (tt, tt)
backed-pushed next back head (j ∷ js) k p b e once =
    let inside : j < length back = omega (arith, p.1, e) in
    subst (λ m. IsBacked (set back m k) (k ∷ j ∷ js)) (sym p.0)
    (get_or-set_same back j k 0 inside, backed-set_first back j js k b (omega (arith, once j, times-same j js)))

-- ---- a key goes from behind the first

pub path-taken : (next back : List ℕ) (at j : ℕ) (js : List ℕ) (k : ℕ) → IsPath next at (j ∷ js) → IsBacked back (j ∷ js) → ((i : ℕ) → times i (j ∷ js) ≤ 1) → k ≢ j → 0 < times k (j ∷ js)
    → IsPath (set next (get_or back k 0) (get_or next k 0)) at (without k (j ∷ js))
path-taken next back at j [] k p b once d some = absurd (omega (arith, times-other k j [] d))
path-taken next back at j (i ∷ is) k p b once d some =
    let alone : times j (i ∷ is) ≡ 0 = omega (arith, once j, times-same j (i ∷ is)) in
    subst (IsPath (set next (get_or back k 0) (get_or next k 0)) at) (sym (without-other k j (i ∷ is) d))
    (elim (cases_eq k i) [
      | inl e ↦
          let before : get_or back k 0 ≡ j = ap (λ m. get_or back m 0) e ∙ b.0 in
          let gone : without k (i ∷ is) ≡ is = subst (λ m. without k (m ∷ is) ≡ is) e (without-same k is ∙ without-none k is (subst (λ m. times m is ≡ 0) (sym e) (omega (arith, once i, times-same i is, times-tail i j (i ∷ is))))) in
          subst (λ m. IsPath (set next m (get_or next k 0)) at (j ∷ without k (i ∷ is))) (sym before)
          (subst (λ zs. IsPath (set next j (get_or next k 0)) at (j ∷ zs)) (sym gone) (
            p.0,
            omega (arith, length-set next j (get_or next k 0), p.1),
            subst (λ m. IsPath (set next j (get_or next k 0)) m is) (sym (get_or-set_same next j (get_or next k 0) 0 p.1))
                (path-set_other next (get_or next k 0) is j (get_or next k 0) (subst (λ m. IsPath next (get_or next m 0) is) (sym e) p.2.2) (omega (arith, times-tail j i is))),
          ))
      | inr f ↦
          let stands : 0 < times k (i ∷ is) = omega (arith, times-other k j (i ∷ is) d) in
          let once' : (m : ℕ) → times m (i ∷ is) ≤ 1 = λ m. omega (arith, once m, times-tail m j (i ∷ is)) in
          let within : 0 < times (get_or back k 0) (i ∷ is) = back_within back i is k b.1 f stands in
          let apart : j ≢ get_or back k 0 = λ e. omega (arith, ap (λ m. times m (i ∷ is)) e) in (
            p.0,
            omega (arith, length-set next (get_or back k 0) (get_or next k 0), p.1),
            subst (λ m. IsPath (set next (get_or back k 0) (get_or next k 0)) m (without k (i ∷ is))) (sym (get_or-set_other next (get_or back k 0) j (get_or next k 0) 0 apart))
                (path-taken next back (get_or next j 0) i is k p.2 b.1 once' f stands),
          )
    ])

pub backed-taken : (next back : List ℕ) (at j : ℕ) (js : List ℕ) (k : ℕ) → length back ≡ length next → IsPath next at (j ∷ js) → IsBacked back (j ∷ js) → ((i : ℕ) → times i (j ∷ js) ≤ 1) → k ≢ j → 0 < times k (j ∷ js)
    → IsBacked (set back (get_or next k 0) (get_or back k 0)) (without k (j ∷ js))
backed-taken next back at j [] k s p b once d some = absurd (omega (arith, times-other k j [] d))
backed-taken next back at j (i ∷ is) k s p b once d some =
    subst (IsBacked (set back (get_or next k 0) (get_or back k 0))) (sym (without-other k j (i ∷ is) d))
    (elim (cases_eq k i) [
      | inl e ↦
          let before : get_or back k 0 ≡ j = ap (λ m. get_or back m 0) e ∙ b.0 in
          let gone : without k (i ∷ is) ≡ is = subst (λ m. without k (m ∷ is) ≡ is) e (without-same k is ∙ without-none k is (subst (λ m. times m is ≡ 0) (sym e) (omega (arith, once i, times-same i is, times-tail i j (i ∷ is))))) in
          subst (λ m. IsBacked (set back (get_or next k 0) m) (j ∷ without k (i ∷ is))) (sym before)
          (subst (λ zs. IsBacked (set back (get_or next k 0) j) (j ∷ zs)) (sym gone)
          (backed-pushed next back (get_or next k 0) is j (subst (λ m. IsPath next (get_or next m 0) is) (sym e) p.2.2) b.1.1 s (λ m. omega (arith, once m, times-tail m j (i ∷ is), times-tail m i is))))
      | inr f ↦
          let stands : 0 < times k (i ∷ is) = omega (arith, times-other k j (i ∷ is) d) in
          let once' : (m : ℕ) → times m (i ∷ is) ≤ 1 = λ m. omega (arith, once m, times-tail m j (i ∷ is)) in
          let first : i ≢ get_or next k 0 = λ e. next_not_first next (get_or next j 0) i is k p.2 (omega (arith, once' i, times-same i is)) stands (sym e) in (
            subst (λ zs. IsAfter (set back (get_or next k 0) (get_or back k 0)) j zs) (sym (without-other k i is f)) (get_or-set_other back (get_or next k 0) i (get_or back k 0) 0 first ∙ b.0),
            backed-taken next back (get_or next j 0) i is k s p.2 b.1 once' f stands,
          )
    ])
