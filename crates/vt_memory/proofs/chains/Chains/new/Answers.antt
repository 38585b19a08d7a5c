use Rattle.std.proofs.Common.{◌≡◌, ℕ, [], length, replicate, sym, ap, ◌∙◌, subst, arith}
use Rattle.std.proofs.lemmas.List.{length-replicate}
use Rattle.vt_memory.specs.Inside.Chains.{IsLinking}
use Rattle.vt_memory.proofs.LinkLemmas.{linking-none, chains_from-is, AreLinked-linking}
use Rattle.vt_memory.proofs.chains.Chains.new.Goals as goal

pub invariant_of-result : goal.invariant_of-result
invariant_of-result c =
    let heads = c.in_ok-heads.heads.items in
    let next = c.in_ok-next.next.items in
    let back = c.in_ok-back.back.items in
    let ends : heads ≡ replicate c.args.places 4294967295 = c.in_ok-heads.ensures.items_if_clones_equal (λ y h. h) in
    let after : length next ≡ c.args.reach = ap length (c.in_ok-next.ensures.items_if_clones_equal (λ y h. h)) ∙ length-replicate {A = ℕ} c.args.reach 4294967295 in
    let before : length back ≡ c.args.reach = ap length (c.in_ok-back.ensures.items_if_clones_equal (λ y h. h)) ∙ length-replicate {A = ℕ} c.args.reach 4294967295 in
    let links : IsLinking heads next back (replicate c.args.places []) =
    subst (λ hs. IsLinking hs next back (replicate c.args.places [])) (sym ends) (linking-none c.args.places c.args.reach 4294967295 next back (omega (arith, c.requires.small, after))) in
    AreLinked-linking heads next back (replicate c.args.places []) (omega (arith, c.requires.some, ap length ends, length-replicate {A = ℕ} c.args.places 4294967295)) (omega (arith, c.requires.small, after)) (before ∙ sym after) links

pub returns-clause-chains : goal.returns-clause-chains
returns-clause-chains c =
    let heads = c.in_ok-heads.heads.items in
    let next = c.in_ok-next.next.items in
    let back = c.in_ok-back.back.items in
    let ends : heads ≡ replicate c.args.places 4294967295 = c.in_ok-heads.ensures.items_if_clones_equal (λ y h. h) in
    let after : length next ≡ c.args.reach = ap length (c.in_ok-next.ensures.items_if_clones_equal (λ y h. h)) ∙ length-replicate {A = ℕ} c.args.reach 4294967295 in
    let links : IsLinking heads next back (replicate c.args.places []) =
    subst (λ hs. IsLinking hs next back (replicate c.args.places [])) (sym ends) (linking-none c.args.places c.args.reach 4294967295 next back (omega (arith, c.requires.small, after))) in
    chains_from-is heads next back (replicate c.args.places []) links
