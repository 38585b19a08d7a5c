-- Expressions as they are written, over lists, and what a box holds.
use Rattle.std.proofs.Common.{ℕ, ◌≡◌, Bool, true, false, not, cond, if◌then◌else◌, ◌&&◌, ◌||◌, List, [], ◌∷◌, ◌++◌, filter, Option, Some, None, refl, sym, ◌∙◌, ap, append_assoc, append-nil}
use Rattle.std.specs.Prelude.{option_map}
use Rattle.std.specs.List.{list_any}
use Rattle.std.proofs.lemmas.List.Folds.{list_any-append}
use Rattle.vt_facts.specs.Names.{is_name}
use Rattle.vt_facts.specs.Parts.{◌>>=◌}
use Rattle.vt_facts.proofs.BoolLemmas.{and_left, and_right}
use Rattle.vt_facts.proofs.NameLemmas.{same_bytes}
use Rattle.vt_base.specs.Names.{EnumNames}
use Rattle.vt_text.specs.declared.expr.Operand.{Operand}
use Rattle.vt_text.specs.declared.tree.Slot.{Slot}
use Rattle.vt_text.specs.declared.tree.ExprTree.{ExprTree, Row_of-OperandTree, end_of-OperandTree, more_of-OperandTree, items-the_row-OperandTree}
use Rattle.vt_text.specs.declared.tree.ExprTree.TheBlock.{hidden-the_row-ExprTree-0}
use Rattle.vt_text.specs.Parsing.{is_attr, is_slot, reads, further_reads, boxed_reads, firsts, expr_of, further_exprs, boxed_expr}
use Rattle.vt_text.specs.Inside.Trees.{operand_reads, operand_exprs, beyond, with_first}

-- ---- rows and boxes

pub reads_rows : (m : _) (row : Row_of-OperandTree m) → further_reads row ≡ operand_reads (items-the_row-OperandTree m row)
reads_rows m end_of-OperandTree = refl
reads_rows m (more_of-OperandTree {n = n} operator e row) = ap (λ (l : List Slot). reads e ++ l) (reads_rows n row)

pub reads_boxed : (e : ExprTree) → boxed_reads (hidden-the_row-ExprTree-0 e) ≡ reads e
unfolding hidden-the_row-ExprTree-0 denote.Hole.Carrier.hidden
reads_boxed e = refl

pub exprs_rows : (enums : List EnumNames) (slots : List Slot) (m : _) (row : Row_of-OperandTree m) → further_exprs enums slots row ≡ operand_exprs enums slots (items-the_row-OperandTree m row)
exprs_rows enums slots m end_of-OperandTree = refl
exprs_rows enums slots m (more_of-OperandTree {n = n} operator e row) =
    ap (λ (o : Option (List Operand)). expr_of enums slots e >>= λ here. option_map (λ operands. record { operator = operator; expr = here } ∷ operands) o) (exprs_rows enums slots n row)

pub expr_boxed : (enums : List EnumNames) (slots : List Slot) (e : ExprTree) → boxed_expr enums slots (hidden-the_row-ExprTree-0 e) ≡ expr_of enums slots e
unfolding hidden-the_row-ExprTree-0 denote.Hole.Carrier.hidden
expr_boxed enums slots e = refl

-- ---- slots that are one

same_attr : (a b : Option (List ℕ)) → is_attr a b ≡ true → a ≡ b
same_attr None None h = refl
same_attr (Some a) (Some b) h = ap Some (same_bytes a b h)
same_attr None (Some b) h = cc (h)
same_attr (Some a) None h = cc (h)

same_slot : (a b : Slot) → is_slot a b ≡ true → a ≡ b
same_slot a b h =
    let name : a.name ≡ b.name = same_bytes a.name b.name (and_left (is_name a.name b.name) (is_attr a.attr b.attr) h) in
    let attr : a.attr ≡ b.attr = same_attr a.attr b.attr (and_right (is_name a.name b.name) (is_attr a.attr b.attr) h) in
    λ i. record { name = name i; attr = attr i }

-- ---- two filters as one

filter_once : {X : Type 0} (p d q : X → Bool) → ((x : X) → q x ≡ (d x && p x)) → (xs : List X) → filter p (filter d xs) ≡ filter q xs
filter_once p d q e [] = refl
filter_once {X} p d q e (x ∷ xs) = go (d x) (e x) (filter_once p d q e xs)
  where
    go : (b : Bool) → q x ≡ (b && p x) → filter p (filter d xs) ≡ filter q xs → filter p (cond b (x ∷ filter d xs) (filter d xs)) ≡ cond (q x) (x ∷ filter q xs) (filter q xs)
    go true h later = ap (λ (l : List X). cond (p x) (x ∷ l) l) later ∙ ap (λ b. cond b (x ∷ filter q xs) (filter q xs)) (sym h)
    go false h later = later ∙ ap (λ b. cond b (x ∷ filter q xs) (filter q xs)) (sym h)

-- ---- one turn of the loop that keeps the first of each

-- whether it is among those
abbrev has : List Slot → Slot → Bool
has out t = list_any (λ own. is_slot own t) out

off : (a b : Bool) → (a ≡ true → b ≡ false) → b ≡ (not a && b)
off true b h = h refl
off false b h = refl

-- what is there already adds nothing
pub firsts_known : (out : List Slot) (s : Slot) (ss : List Slot) → has out s ≡ true → beyond out (s ∷ ss) ≡ beyond out ss
unfolding beyond
firsts_known out s ss h =
    ap (λ b. cond (not b) (s ∷ filter (λ t. not (has out t)) (filter (λ t. not (is_slot s t)) (firsts ss))) (filter (λ t. not (has out t)) (filter (λ t. not (is_slot s t)) (firsts ss)))) h
    ∙ filter_once (λ t. not (has out t)) (λ t. not (is_slot s t)) (λ t. not (has out t)) each (firsts ss)
  where
    each : (t : Slot) → not (has out t) ≡ (not (is_slot s t) && not (has out t))
    each t = off (is_slot s t) (not (has out t)) (λ e. ap not (ap (has out) (sym (same_slot s t e)) ∙ h))

both_not : (a b : Bool) → not (a || (b || false)) ≡ (not b && not a)
both_not true true = refl
both_not true false = refl
both_not false true = refl
both_not false false = refl

-- what isn't there yet is next
pub firsts_new : (out : List Slot) (s : Slot) (ss : List Slot) → has out s ≡ false → (out ++ s ∷ []) ++ beyond (out ++ s ∷ []) ss ≡ out ++ beyond out (s ∷ ss)
unfolding beyond
firsts_new out s ss h =
    append_assoc out (s ∷ []) (filter (λ t. not (has (out ++ s ∷ []) t)) (firsts ss))
    ∙ ap (λ (l : List Slot). out ++ s ∷ l) (sym (filter_once (λ t. not (has out t)) (λ t. not (is_slot s t)) (λ t. not (has (out ++ s ∷ []) t)) each (firsts ss)))
    ∙ ap (λ b. out ++ cond (not b) (s ∷ filter (λ t. not (has out t)) (filter (λ t. not (is_slot s t)) (firsts ss))) (filter (λ t. not (has out t)) (filter (λ t. not (is_slot s t)) (firsts ss)))) (sym h)
  where
    each : (t : Slot) → not (has (out ++ s ∷ []) t) ≡ (not (is_slot s t) && not (has out t))
    each t = ap not (list_any-append (λ own. is_slot own t) out (s ∷ [])) ∙ both_not (has out t) (is_slot s t)

-- one turn
pub firsts_goes : (out : List Slot) (s : Slot) (ss : List Slot) → with_first out s ++ beyond (with_first out s) ss ≡ out ++ beyond out (s ∷ ss)
unfolding with_first
firsts_goes out s ss = go (has out s) refl
  where
    go : (b : Bool) → has out s ≡ b → (if b then out else out ++ s ∷ []) ++ beyond (if b then out else out ++ s ∷ []) ss ≡ out ++ beyond out (s ∷ ss)
    go true e = ap (λ (l : List Slot). out ++ l) (sym (firsts_known out s ss e))
    go false e = firsts_new out s ss e

-- at first nothing is there
pub firsts_all : (ss : List Slot) → [] ++ beyond [] ss ≡ firsts ss
unfolding beyond
firsts_all ss = go (firsts ss)
  where
    go : (xs : List Slot) → filter (λ t. true) xs ≡ xs
    go [] = refl
    go (x ∷ xs) = ap (λ (l : List Slot). x ∷ l) (go xs)

-- at the end all are
pub firsts_done : (out : List Slot) → out ++ beyond out [] ≡ out
unfolding beyond
firsts_done out = append-nil out
