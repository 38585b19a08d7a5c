-- What a file is read as, from what each step answers; and that there is but one answer.
use Rattle.std.proofs.Common.{ℕ, ◌≡◌, ◌≢◌, Bool, true, false, List, Option, Some, None, Result, Err, refl, sym, ◌∙◌, ap, subst}
use Rattle.std.specs.Str.{is_utf8, IsUtf8}
use Rattle.std.proofs.lemmas.Str.{IsUtf8-from_is_utf8}
use Rattle.std.proofs.lemmas.Bool.{false≢true}
use Rattle.vt_grammar.specs.Grammar.{Spells}
use Rattle.vt_grammar.specs.declared.lexeme.Lexeme.{Lexeme}
use Rattle.vt_tokens.specs.Spelling as token
use Rattle.vt_tokens.specs.Spelling.{IsBadAt}
use Rattle.vt_tokens.specs.Lexemes.{lexemes_of}
use Rattle.vt_tokens.specs.declared.token.Token.{Token}
use Rattle.vt_model.specs.Metamodel.{Metamodel}
use Rattle.vt_query.specs.declared.program.Program.{Program}
use Rattle.vt_vql.specs.Rules.{file}
use Rattle.vt_vql.specs.Resolving.{narrow_program}
use Rattle.vt_vql.specs.Queries.{Accepts, IsNotNarrow, IsFaultOf}
use Rattle.vt_vql.specs.Inside.Resolved.{Makes}
use Rattle.vt_vql.specs.declared.tree.FileTree.{FileTree}
use Rattle.vt_vql.specs.declared.fault.Stuck.{Stuck}
use Rattle.vt_vql.specs.declared.fault.Stuck.TheVariants.{NotNarrow}
use Rattle.vt_vql.specs.declared.fault.QueryFault.{QueryFault}
use Rattle.vt_vql.specs.declared.fault.QueryFault.TheVariants.{NotText, BadToken, NotBuilt, NoMemory}
use Rattle.std.proofs.lemmas.Option.{same_Some}

-- ---- bytes

not_true : (b : Bool) → (b ≡ true → ⊥) → b ≡ false
not_true true h = absurd (h refl)
not_true false h = refl

-- bytes that are the UTF-8 of no characters fail the test
pub no_text : (bytes : List ℕ) → (IsUtf8 bytes → ⊥) → is_utf8 bytes ≡ false
no_text bytes h = not_true (is_utf8 bytes) (λ e. h (IsUtf8-from_is_utf8 bytes e))

-- ---- from what each step answers

-- where what was made is refused, there is nothing
pub nothing_made : {A : Type 0} (r : Result A Stuck) (made : Option A) → Makes r made → r ≡ Err NotNarrow → made ≡ None
nothing_made r made m e = subst (λ q. Makes q made) e m

-- what the lexemes of the tokens of the bytes spell, and what it makes
pub accepts : (meta : Metamodel) (bytes text : List ℕ) (tokens : List Token) (ls : List Lexeme) (program : Program)
    → is_utf8 bytes ≡ true → text ≡ bytes → token.Spells text tokens → ls ≡ lexemes_of text tokens
    → ((tree : FileTree) × Spells file ls tree × (narrow_program meta tree ≡ Some program)) → Accepts meta bytes program
accepts meta bytes text tokens ls program u e cut l w = record {
  text = u;
  tokens = tokens;
  cut = subst (λ t. token.Spells t tokens) e cut;
  tree = w.0;
  spelled = subst (λ q. Spells file q w.0) (l ∙ ap (λ t. lexemes_of t tokens) e) w.1;
  makes = w.2;
}

pub is_not_narrow : (meta : Metamodel) (bytes text : List ℕ) (tokens : List Token) (ls : List Lexeme)
    → is_utf8 bytes ≡ true → text ≡ bytes → token.Spells text tokens → ls ≡ lexemes_of text tokens
    → ((tree : FileTree) → Spells file ls tree → narrow_program meta tree ≡ None) → IsNotNarrow meta bytes
is_not_narrow meta bytes text tokens ls u e cut l none = record {
  text = u;
  tokens = tokens;
  cut = subst (λ t. token.Spells t tokens) e cut;
  none = λ tree s. none tree (subst (λ q. Spells file q tree) (sym (l ∙ ap (λ t. lexemes_of t tokens) e)) s);
}

pub bad_in : (bytes text : List ℕ) (line : ℕ) → text ≡ bytes → IsBadAt text line → IsBadAt bytes line
bad_in bytes text line e b = subst (λ t. IsBadAt t line) e b

-- ---- one answer

abbrev pub OneList : Type 0
OneList = (text : List ℕ) (tokens others : List Token) → token.Spells text tokens → token.Spells text others → tokens ≡ others

abbrev pub OneTree : Type 0
OneTree = (ls : List Lexeme) (tree other : FileTree) → Spells file ls tree → Spells file ls other → tree ≡ other

abbrev pub OneLine : Type 0
OneLine = (text : List ℕ) (line other : ℕ) → IsBadAt text line → IsBadAt text other → line ≡ other

abbrev pub NotBoth : Type 0
NotBoth = (text : List ℕ) (tokens : List Token) (line : ℕ) → token.Spells text tokens → IsBadAt text line → ⊥

not_none : {A : Type 0} (x : A) → Some x ≡ None → ⊥
not_none x e = cc

-- what two lists of tokens of one text spell, one of them spells
respelled : OneList → (bytes : List ℕ) (tokens others : List Token) (tree : FileTree) → token.Spells bytes tokens → token.Spells bytes others
    → Spells file (lexemes_of bytes others) tree → Spells file (lexemes_of bytes tokens) tree
respelled one_list bytes tokens others tree t o s =
    subst (λ ts. Spells file (lexemes_of bytes ts) tree) (one_list bytes others tokens o t) s

pub same_program : OneList → OneTree → (meta : Metamodel) (bytes : List ℕ) (program other : Program)
    → Accepts meta bytes program → Accepts meta bytes other → program ≡ other
same_program one_list one_tree meta bytes program other a b =
    let same : a.tree ≡ b.tree = one_tree (lexemes_of bytes a.tokens) a.tree b.tree a.spelled (respelled one_list bytes a.tokens b.tokens b.tree a.cut b.cut b.spelled) in
    same_Some program other (sym a.makes ∙ ap (narrow_program meta) same ∙ b.makes)

pub no_fault : OneList → NotBoth → (meta : Metamodel) (bytes : List ℕ) (program : Program) (fault : QueryFault)
    → Accepts meta bytes program → fault ≢ NoMemory → IsFaultOf meta bytes fault → ⊥
no_fault one_list not_both meta bytes program (NotText place) a h f = false≢true (sym f.0 ∙ a.text)
no_fault one_list not_both meta bytes program (BadToken line) a h f = not_both bytes a.tokens line a.cut f.1
no_fault one_list not_both meta bytes program (NotBuilt place) a h f =
    not_none program (sym a.makes ∙ f.0.none a.tree (respelled one_list bytes f.0.tokens a.tokens a.tree f.0.cut a.cut a.spelled))
no_fault one_list not_both meta bytes program NoMemory a h f = h refl

pub same_fault : OneLine → NotBoth → (meta : Metamodel) (bytes : List ℕ) (fault other : QueryFault)
    → fault ≢ NoMemory → other ≢ NoMemory → IsFaultOf meta bytes fault → IsFaultOf meta bytes other → fault ≡ other
same_fault one_line not_both meta bytes NoMemory other h k f g = absurd (h refl)
same_fault one_line not_both meta bytes (NotText place) NoMemory h k f g = absurd (k refl)
same_fault one_line not_both meta bytes (BadToken line) NoMemory h k f g = absurd (k refl)
same_fault one_line not_both meta bytes (NotBuilt place) NoMemory h k f g = absurd (k refl)
same_fault one_line not_both meta bytes (NotText place) (NotText other) h k f g = ap NotText (f.1 ∙ sym g.1)
same_fault one_line not_both meta bytes (NotText place) (BadToken other) h k f g = absurd (false≢true (sym f.0 ∙ g.0))
same_fault one_line not_both meta bytes (NotText place) (NotBuilt other) h k f g = absurd (false≢true (sym f.0 ∙ g.0.text))
same_fault one_line not_both meta bytes (BadToken line) (NotText other) h k f g = absurd (false≢true (sym g.0 ∙ f.0))
same_fault one_line not_both meta bytes (BadToken line) (BadToken other) h k f g = ap BadToken (one_line bytes line other f.1 g.1)
same_fault one_line not_both meta bytes (BadToken line) (NotBuilt other) h k f g = absurd (not_both bytes g.0.tokens line g.0.cut f.1)
same_fault one_line not_both meta bytes (NotBuilt place) (NotText other) h k f g = absurd (false≢true (sym g.0 ∙ f.0.text))
same_fault one_line not_both meta bytes (NotBuilt place) (BadToken other) h k f g = absurd (not_both bytes f.0.tokens other f.0.cut g.1)
same_fault one_line not_both meta bytes (NotBuilt place) (NotBuilt other) h k f g = ap NotBuilt (f.1 ∙ sym g.1)
