use Rattle.std.proofs.Common.{◌≡◌, ◌%◌, ◌<◌, length, get_or, set, sym, ap, ◌∙◌, subst, arith}
use Rattle.std.proofs.lemmas.List.{get_or_read}
use Rattle.vt_memory.specs.Inside.Chains.{Chained, IsFree, chains_from, with_key, AreLinked}
use Rattle.vt_memory.proofs.LinkLemmas.{pushed}
use Rattle.vt_memory.proofs.chains.Chains.push.Goals as goal

pub invariant_of-self : goal.invariant_of-self
invariant_of-self c =
    let v = c.self.inside in
    let P : Chained → Type 0 = λ seen. IsFree seen.chains c.args.key in
    let free : IsFree (chains_from v.next.items v.heads.items) c.args.key = subst P (sym c.self.view_is) c.requires.free in
    let Q : Chained → Type 0 = λ seen. c.args.key < seen.reach in
    let reach : c.args.key < length v.next.items = subst Q (sym c.self.view_is) c.requires.reach in
    let place : c.place-place.result ≡ c.args.number % length v.heads.items = c.place-place.ensures.is ∙ ap (λ n. c.args.number % n) (c.len.ensures ∙ v.heads.ok.0) in
    let inside : c.place-place.result < length v.heads.items = omega (arith, c.place-place.ensures.below, c.len.ensures, v.heads.ok.0) in
    let head : c.index-head.result.now ≡ get_or v.heads.items c.place-place.result 0 = get_or_read v.heads.items c.place-place.result c.index-head.result.now inside c.index-head.ensures 0 in
    subst (AreLinked (set v.heads.items c.place-place.result c.args.key) (set v.next.items c.args.key c.index-head.result.now)) (sym c.link.ensures)
    (pushed v.heads.items v.next.items v.back.items c.self.invariant c.args.number c.place-place.result place inside c.args.key c.index-head.result.now head reach free).0

pub returns-clause-chains : goal.returns-clause-chains
returns-clause-chains c =
    let v = c.self.inside in
    let P : Chained → Type 0 = λ seen. IsFree seen.chains c.args.key in
    let free : IsFree (chains_from v.next.items v.heads.items) c.args.key = subst P (sym c.self.view_is) c.requires.free in
    let Q : Chained → Type 0 = λ seen. c.args.key < seen.reach in
    let reach : c.args.key < length v.next.items = subst Q (sym c.self.view_is) c.requires.reach in
    let place : c.place-place.result ≡ c.args.number % length v.heads.items = c.place-place.ensures.is ∙ ap (λ n. c.args.number % n) (c.len.ensures ∙ v.heads.ok.0) in
    let inside : c.place-place.result < length v.heads.items = omega (arith, c.place-place.ensures.below, c.len.ensures, v.heads.ok.0) in
    let head : c.index-head.result.now ≡ get_or v.heads.items c.place-place.result 0 = get_or_read v.heads.items c.place-place.result c.index-head.result.now inside c.index-head.ensures 0 in
    (pushed v.heads.items v.next.items v.back.items c.self.invariant c.args.number c.place-place.result place inside c.args.key c.index-head.result.now head reach free).1
    ∙ ap (λ (seen : Chained). with_key seen.chains c.args.number c.args.key) c.self.view_is
