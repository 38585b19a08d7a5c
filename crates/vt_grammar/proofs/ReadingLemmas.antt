-- Reading is exact, by each grammar where the next lexeme decides.
use Rattle.std.proofs.Common.{◌≡◌, true, not, ◌&&◌, List, length, arith}
use Rattle.vt_grammar.specs.declared.lexeme.Lexeme.{Lexeme}
use Rattle.vt_grammar.specs.Grammar.{Grammar, nothing, token, seq, alt, star, made, balanced}
use Rattle.vt_grammar.specs.Reading.{is_empty, is_decided, read}
use Rattle.vt_grammar.proofs.Exact.{Exact}
use Rattle.vt_facts.proofs.BoolLemmas.{and_left, and_right, not_true}
use Rattle.vt_grammar.proofs.ExactLemmas.{exact_nothing, exact_one, exact_made, exact_seq}
use Rattle.vt_grammar.proofs.ChoiceLemmas.{exact_alt}
use Rattle.vt_grammar.proofs.RepetitionLemmas.{exact_many}
use Rattle.vt_grammar.proofs.BalancedLemmas.{exact_balanced}

-- by induction on the grammar
pub exact : {A : Type 0} (g : Grammar A) → is_decided g ≡ true → (ls : List Lexeme) → Exact g ls (read g ls)
unfolding read
exact nothing d ls = exact_nothing ls
exact (token k) d ls = exact_one k ls
exact (seq a b) d ls =
    let ab = and_left (is_decided a && is_decided b) _ d in
    exact_seq a b (and_right (is_decided a && is_decided b) _ d) ls (read b) (read a ls) (exact a (and_left (is_decided a) _ ab) ls) (λ x rest e. exact b (and_right (is_decided a) _ ab) rest)
exact (alt a b) d ls =
    let ab = and_left (is_decided a && is_decided b) _ d in
    let c = and_right (is_decided a && is_decided b) _ d in
    exact_alt a b ls (read a ls) (read b ls) (not_true (is_empty a) (and_left (not (is_empty a)) _ c)) (and_right (not (is_empty a)) _ c) (exact a (and_left (is_decided a) _ ab) ls) (exact b (and_right (is_decided a) _ ab) ls)
exact (star a) d ls =
    let c = and_right (is_decided a) _ d in
    exact_many a (not_true (is_empty a) (and_left (not (is_empty a)) _ c)) (and_right (not (is_empty a)) _ c) (read a) (λ us. exact a (and_left (is_decided a) _ d) us) (length ls) ls (omega arith)
exact (made f a) d ls = exact_made f a ls (read a ls) (exact a d ls)
exact balanced d ls = exact_balanced ls
