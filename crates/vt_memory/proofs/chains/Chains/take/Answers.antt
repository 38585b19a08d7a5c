use Rattle.std.proofs.Common.{◌≡◌, ◌≢◌, ◌%◌, ◌<◌, length, get_or, set, sym, ap, ◌∙◌, subst, arith}
use Rattle.std.proofs.lemmas.List.{get_or_read}
use Rattle.vt_memory.specs.Inside.Chains.{Chained, times, chain_at, chains_from, without_key, AreLinked}
use Rattle.vt_memory.proofs.LinkLemmas.{key_below, first_taken, before_below, later_taken}
use Rattle.vt_memory.proofs.chains.Chains.take.Goals as goal

pub index-after-requires : goal.index-after-requires
index-after-requires c =
    let v = c.self.inside in
    let P : Chained → Type 0 = λ seen. 0 < times c.args.key (chain_at seen.chains c.args.number) in
    let some : 0 < times c.args.key (chain_at (chains_from v.next.items v.heads.items) c.args.number) = subst P (sym c.self.view_is) c.requires in
    let place : c.place-place.result ≡ c.args.number % length v.heads.items = c.place-place.ensures.is ∙ ap (λ n. c.args.number % n) (c.len.ensures ∙ v.heads.ok.0) in
    let inside : c.place-place.result < length v.heads.items = omega (arith, c.place-place.ensures.below, c.len.ensures, v.heads.ok.0) in
    omega (arith, key_below v.heads.items v.next.items v.back.items c.self.invariant c.args.number c.place-place.result place inside c.args.key some, v.next.ok.0)

pub overflow_cast-key : goal.overflow_cast-key
overflow_cast-key c =
    let v = c.self.inside in
    let P : Chained → Type 0 = λ seen. 0 < times c.args.key (chain_at seen.chains c.args.number) in
    let some : 0 < times c.args.key (chain_at (chains_from v.next.items v.heads.items) c.args.number) = subst P (sym c.self.view_is) c.requires in
    let place : c.place-place.result ≡ c.args.number % length v.heads.items = c.place-place.ensures.is ∙ ap (λ n. c.args.number % n) (c.len.ensures ∙ v.heads.ok.0) in
    let inside : c.place-place.result < length v.heads.items = omega (arith, c.place-place.ensures.below, c.len.ensures, v.heads.ok.0) in
    record { fits = omega (arith, key_below v.heads.items v.next.items v.back.items c.self.invariant c.args.number c.place-place.result place inside c.args.key some, c.self.invariant.small) }

pub invariant_of-self : goal.invariant_of-self
invariant_of-self c =
    let v = c.self.inside in
    let P : Chained → Type 0 = λ seen. 0 < times c.args.key (chain_at seen.chains c.args.number) in
    let some : 0 < times c.args.key (chain_at (chains_from v.next.items v.heads.items) c.args.number) = subst P (sym c.self.view_is) c.requires in
    let place : c.place-place.result ≡ c.args.number % length v.heads.items = c.place-place.ensures.is ∙ ap (λ n. c.args.number % n) (c.len.ensures ∙ v.heads.ok.0) in
    let inside : c.place-place.result < length v.heads.items = omega (arith, c.place-place.ensures.below, c.len.ensures, v.heads.ok.0) in
    let reach : c.args.key < length v.next.items = key_below v.heads.items v.next.items v.back.items c.self.invariant c.args.number c.place-place.result place inside c.args.key some in
    let after : c.index-after.result.now ≡ get_or v.next.items c.args.key 0 = get_or_read v.next.items c.args.key c.index-after.result.now reach c.index-after.ensures 0 in
    let first : get_or v.heads.items c.place-place.result 0 ≡ c.args.key = sym (get_or_read v.heads.items c.place-place.result c.index.result.now inside c.index.ensures 0) ∙ c.if-index-key.true in
    (first_taken v.heads.items v.next.items v.back.items c.self.invariant c.args.number c.place-place.result place inside c.args.key some c.index-after.result.now after first).0

pub returns-then-index-key-clause-chains : goal.returns-then-index-key-clause-chains
returns-then-index-key-clause-chains c =
    let v = c.self.inside in
    let P : Chained → Type 0 = λ seen. 0 < times c.args.key (chain_at seen.chains c.args.number) in
    let some : 0 < times c.args.key (chain_at (chains_from v.next.items v.heads.items) c.args.number) = subst P (sym c.self.view_is) c.requires in
    let place : c.place-place.result ≡ c.args.number % length v.heads.items = c.place-place.ensures.is ∙ ap (λ n. c.args.number % n) (c.len.ensures ∙ v.heads.ok.0) in
    let inside : c.place-place.result < length v.heads.items = omega (arith, c.place-place.ensures.below, c.len.ensures, v.heads.ok.0) in
    let reach : c.args.key < length v.next.items = key_below v.heads.items v.next.items v.back.items c.self.invariant c.args.number c.place-place.result place inside c.args.key some in
    let after : c.index-after.result.now ≡ get_or v.next.items c.args.key 0 = get_or_read v.next.items c.args.key c.index-after.result.now reach c.index-after.ensures 0 in
    let first : get_or v.heads.items c.place-place.result 0 ≡ c.args.key = sym (get_or_read v.heads.items c.place-place.result c.index.result.now inside c.index.ensures 0) ∙ c.if-index-key.true in
    (first_taken v.heads.items v.next.items v.back.items c.self.invariant c.args.number c.place-place.result place inside c.args.key some c.index-after.result.now after first).1
    ∙ ap (λ (seen : Chained). without_key seen.chains c.args.number c.args.key) c.self.view_is

pub index-before-requires : goal.index-before-requires
index-before-requires c =
    let v = c.self.inside in
    let P : Chained → Type 0 = λ seen. 0 < times c.args.key (chain_at seen.chains c.args.number) in
    let some : 0 < times c.args.key (chain_at (chains_from v.next.items v.heads.items) c.args.number) = subst P (sym c.self.view_is) c.requires in
    let place : c.place-place.result ≡ c.args.number % length v.heads.items = c.place-place.ensures.is ∙ ap (λ n. c.args.number % n) (c.len.ensures ∙ v.heads.ok.0) in
    let inside : c.place-place.result < length v.heads.items = omega (arith, c.place-place.ensures.below, c.len.ensures, v.heads.ok.0) in
    omega (arith, key_below v.heads.items v.next.items v.back.items c.self.invariant c.args.number c.place-place.result place inside c.args.key some, c.self.invariant.paired, v.back.ok.0)

pub index_mut-requires-2 : goal.index_mut-requires-2
index_mut-requires-2 c =
    let v = c.self.inside in
    let P : Chained → Type 0 = λ seen. 0 < times c.args.key (chain_at seen.chains c.args.number) in
    let some : 0 < times c.args.key (chain_at (chains_from v.next.items v.heads.items) c.args.number) = subst P (sym c.self.view_is) c.requires in
    let place : c.place-place.result ≡ c.args.number % length v.heads.items = c.place-place.ensures.is ∙ ap (λ n. c.args.number % n) (c.len.ensures ∙ v.heads.ok.0) in
    let inside : c.place-place.result < length v.heads.items = omega (arith, c.place-place.ensures.below, c.len.ensures, v.heads.ok.0) in
    let reach : c.args.key < length v.next.items = key_below v.heads.items v.next.items v.back.items c.self.invariant c.args.number c.place-place.result place inside c.args.key some in
    let after : c.index-after.result.now ≡ get_or v.next.items c.args.key 0 = get_or_read v.next.items c.args.key c.index-after.result.now reach c.index-after.ensures 0 in
    let backed : c.args.key < length v.back.items = omega (arith, reach, c.self.invariant.paired) in
    let before : c.index-before.result.now ≡ get_or v.back.items c.args.key 0 = get_or_read v.back.items c.args.key c.index-before.result.now backed c.index-before.ensures 0 in
    let later : get_or v.heads.items c.place-place.result 0 ≢ c.args.key = λ e. c.if-index-key.false (get_or_read v.heads.items c.place-place.result c.index.result.now inside c.index.ensures 0 ∙ e) in
    omega (arith, before_below v.heads.items v.next.items v.back.items c.self.invariant c.args.number c.place-place.result place inside c.args.key some c.index-after.result.now after later c.index-before.result.now before, v.next.ok.0)

pub invariant_of-self-2 : goal.invariant_of-self-2
invariant_of-self-2 c =
    let v = c.self.inside in
    let P : Chained → Type 0 = λ seen. 0 < times c.args.key (chain_at seen.chains c.args.number) in
    let some : 0 < times c.args.key (chain_at (chains_from v.next.items v.heads.items) c.args.number) = subst P (sym c.self.view_is) c.requires in
    let place : c.place-place.result ≡ c.args.number % length v.heads.items = c.place-place.ensures.is ∙ ap (λ n. c.args.number % n) (c.len.ensures ∙ v.heads.ok.0) in
    let inside : c.place-place.result < length v.heads.items = omega (arith, c.place-place.ensures.below, c.len.ensures, v.heads.ok.0) in
    let reach : c.args.key < length v.next.items = key_below v.heads.items v.next.items v.back.items c.self.invariant c.args.number c.place-place.result place inside c.args.key some in
    let after : c.index-after.result.now ≡ get_or v.next.items c.args.key 0 = get_or_read v.next.items c.args.key c.index-after.result.now reach c.index-after.ensures 0 in
    let backed : c.args.key < length v.back.items = omega (arith, reach, c.self.invariant.paired) in
    let before : c.index-before.result.now ≡ get_or v.back.items c.args.key 0 = get_or_read v.back.items c.args.key c.index-before.result.now backed c.index-before.ensures 0 in
    let later : get_or v.heads.items c.place-place.result 0 ≢ c.args.key = λ e. c.if-index-key.false (get_or_read v.heads.items c.place-place.result c.index.result.now inside c.index.ensures 0 ∙ e) in
    subst (AreLinked v.heads.items (set v.next.items c.index-before.result.now c.index-after.result.now)) (sym c.link.ensures)
    (later_taken v.heads.items v.next.items v.back.items c.self.invariant c.args.number c.place-place.result place inside c.args.key some c.index-after.result.now after later c.index-before.result.now before).0

pub returns-clause-chains : goal.returns-clause-chains
returns-clause-chains c =
    let v = c.self.inside in
    let P : Chained → Type 0 = λ seen. 0 < times c.args.key (chain_at seen.chains c.args.number) in
    let some : 0 < times c.args.key (chain_at (chains_from v.next.items v.heads.items) c.args.number) = subst P (sym c.self.view_is) c.requires in
    let place : c.place-place.result ≡ c.args.number % length v.heads.items = c.place-place.ensures.is ∙ ap (λ n. c.args.number % n) (c.len.ensures ∙ v.heads.ok.0) in
    let inside : c.place-place.result < length v.heads.items = omega (arith, c.place-place.ensures.below, c.len.ensures, v.heads.ok.0) in
    let reach : c.args.key < length v.next.items = key_below v.heads.items v.next.items v.back.items c.self.invariant c.args.number c.place-place.result place inside c.args.key some in
    let after : c.index-after.result.now ≡ get_or v.next.items c.args.key 0 = get_or_read v.next.items c.args.key c.index-after.result.now reach c.index-after.ensures 0 in
    let backed : c.args.key < length v.back.items = omega (arith, reach, c.self.invariant.paired) in
    let before : c.index-before.result.now ≡ get_or v.back.items c.args.key 0 = get_or_read v.back.items c.args.key c.index-before.result.now backed c.index-before.ensures 0 in
    let later : get_or v.heads.items c.place-place.result 0 ≢ c.args.key = λ e. c.if-index-key.false (get_or_read v.heads.items c.place-place.result c.index.result.now inside c.index.ensures 0 ∙ e) in
    (later_taken v.heads.items v.next.items v.back.items c.self.invariant c.args.number c.place-place.result place inside c.args.key some c.index-after.result.now after later c.index-before.result.now before).1
    ∙ ap (λ (seen : Chained). without_key seen.chains c.args.number c.args.key) c.self.view_is
