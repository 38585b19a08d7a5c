-- Files that are fetched one after the other.
use Rattle.std.proofs.Common.{ℕ, ◌≡◌, ◌⊎◌, List, [], ◌∷◌, ◌++◌, Option, Some, None, Result, Ok, Err, refl, sym, ap, ◌∙◌, subst, inl, inr, append_assoc}
use Rattle.std.specs.Prelude.{IfSome, IfOk, IfErr, zip}
use Rattle.std.specs.List.{AllByRecursion}
use Rattle.vt_outside.specs.Faults.{Rose}
use Rattle.vt_outside.specs.Shelf.{NamedFiles, file_at}
use Rattle.vt_cli.specs.Answer.{AreThere}
use Rattle.vt_cli.specs.Texts.{◌>>=◌, bytes_of, texts_of}
use Rattle.vt_cli.specs.Inside.Prepared.{AreFetched, AreFetchedTo, AreStopped, AreUnread, FailsFile}
use Rattle.vt_cli.specs.declared.ending.Role.{Role}
use Rattle.vt_cli.specs.declared.ending.Outcome.{Outcome}

-- ---- what follows where there is a value

IfSome-both : {T : Type 0} (o : Option T) (P Q R : T → Type 0) → ((x : T) → P x → Q x → R x) → IfSome o P → IfSome o Q → IfSome o R
IfSome-both None P Q R follows p q = p
IfSome-both (Some x) P Q R follows p q = follows x p q

-- ---- AllByRecursion

all_on : {X : Type 0} (P : X → Type 0) (a b : List X) → AllByRecursion P a → AllByRecursion P b → AllByRecursion P (a ++ b)
all_on P [] b first second = second
all_on P (x ∷ a) b first second = (first.0, all_on P a b first.1 second)

-- ---- texts_of

abbrev Files : Type 0
Files = List (Role × List ℕ)

abbrev Texts : Type 0
Texts = Result (List (Role × List ℕ)) Outcome

-- these, and then the rest
abbrev after : Files → Texts → Texts
after xs (Ok ys) = Ok (xs ++ ys)
after xs (Err outcome) = Err outcome

-- a text, and then the rest
abbrev and_then : Role → Texts → List ℕ → Texts
and_then role rest bytes = rest >>= (λ texts. Ok ((role, bytes) ∷ texts))

after-nil : (rest : Texts) → after [] rest ≡ rest
after-nil (Ok ys) = refl
after-nil (Err outcome) = refl

after-cons : (x : Role × List ℕ) (xs : Files) (rest : Texts) → and_then x.0 (after xs rest) x.1 ≡ after (x ∷ xs) rest
after-cons x xs (Ok ys) = refl
after-cons x xs (Err outcome) = refl

abbrev told_as : Files → Texts
told_as xs = Ok xs

same_texts : (xs ys : Files) → told_as xs ≡ told_as ys → xs ≡ ys
same_texts xs ys e = cc

text_after : (text : Result (List ℕ) Outcome) (few all rest : Texts) (role : Role) (xs : Files)
    → ((ys : Files) → few ≡ told_as ys → all ≡ after ys rest)
    → (text >>= (λ bytes. and_then role few bytes)) ≡ told_as xs
    → (text >>= (λ bytes. and_then role all bytes)) ≡ after xs rest
text_after (Err outcome) few all rest role xs more e = absurd (let none : ⊥ = cc in none)
text_after (Ok bytes) (Err outcome) all rest role xs more e = absurd (let none : ⊥ = cc in none)
text_after (Ok bytes) (Ok ys) all rest role xs more e =
    ap (λ (r : Texts). and_then role r bytes) (more ys refl)
    ∙ after-cons (role, bytes) ys rest
    ∙ ap (λ (zs : Files). after zs rest) (same_texts ((role, bytes) ∷ ys) xs e)

texts_of-append : (known : NamedFiles) (a b xs : Files) → texts_of known a ≡ Ok xs → texts_of known (a ++ b) ≡ after xs (texts_of known b)
texts_of-append known [] b xs e = sym (after-nil (texts_of known b)) ∙ ap (λ (zs : Files). after zs (texts_of known b)) (same_texts [] xs e)
texts_of-append known (file ∷ a) b xs e =
    text_after (bytes_of file.0 (file_at known file.1)) (texts_of known a) (texts_of known (a ++ b)) (texts_of known b) file.0 xs
    (λ ys is. texts_of-append known a b ys is) e

-- a file that ends the command ends it whatever comes after
text_ends : (text : Result (List ℕ) Outcome) (rest : Texts) (role : Role) (outcome : Outcome)
    → (text >>= (λ bytes. and_then role (told_as []) bytes)) ≡ Err outcome
    → (text >>= (λ bytes. and_then role rest bytes)) ≡ Err outcome
text_ends (Err first) rest role outcome e = e
text_ends (Ok bytes) rest role outcome e = absurd (let none : ⊥ = cc in none)

-- ---- one file after the other

fetched_one : (files rest : Files) (role : Role) (name bytes : List ℕ) (told : Option NamedFiles) (before mid now : ℕ) (texts : Files)
    → AreFetchedTo files ((role, name) ∷ rest) told before mid texts → AreFetched ((role, name) ∷ []) told mid now ((role, bytes) ∷ [])
    → AreFetchedTo files rest told before now (texts ++ (role, bytes) ∷ [])
fetched_one files rest role name bytes told before mid now texts first next = record {
  part = first.part ++ (role, name) ∷ [];
  parts = first.parts ∙ sym (append_assoc first.part ((role, name) ∷ []) rest);
  fetched = record {
    given = IfSome-both told (λ known. texts_of known first.part ≡ Ok texts) (λ known. texts_of known ((role, name) ∷ []) ≡ Ok ((role, bytes) ∷ []))
        (λ known. texts_of known (first.part ++ (role, name) ∷ []) ≡ Ok (texts ++ (role, bytes) ∷ []))
        (λ known e f. texts_of-append known first.part ((role, name) ∷ []) texts e ∙ ap (after texts) f) first.fetched.given next.given;
    there = IfSome-both told (λ known. AreThere known first.part) (λ known. AreThere known ((role, name) ∷ []))
        (λ known. AreThere known (first.part ++ (role, name) ∷ []))
        (λ known a b. all_on _ first.part ((role, name) ∷ []) a b) first.fetched.there next.there;
    quiet = next.quiet ∙ first.fetched.quiet;
    small = all_on _ texts ((role, bytes) ∷ []) first.fetched.small next.small;
  };
}

ended_at : (files rest : Files) (role : Role) (name : List ℕ) (told : Option NamedFiles) (before mid now : ℕ) (failed : Option (List ℕ)) (texts : Files) (outcome : Outcome)
    → AreFetchedTo files ((role, name) ∷ rest) told before mid texts
    → AreStopped ((role, name) ∷ []) told mid now outcome ⊎ FailsFile role name mid now failed outcome
    → AreStopped files told before now outcome ⊎ AreUnread files told before now failed outcome
ended_at files rest role name told before mid now failed texts outcome first (inl stopped) = inl (record {
  given = IfSome-both told (λ known. texts_of known first.part ≡ Ok texts) (λ known. texts_of known ((role, name) ∷ []) ≡ Err outcome)
      (λ known. texts_of known files ≡ Err outcome)
      (λ known e f. ap (texts_of known) first.parts ∙ texts_of-append known first.part ((role, name) ∷ rest) texts e
      ∙ ap (after texts) (text_ends (bytes_of role (file_at known name)) (texts_of known rest) role outcome f)) first.fetched.given stopped.given;
  suits = stopped.suits;
  quiet = stopped.quiet ∙ first.fetched.quiet;
})
ended_at files rest role name told before mid now failed texts outcome first (inr fails) = inr (record {
  role = role;
  tells = fails.tells;
  fails = record {
    earlier = first.part;
    name = name;
    later = rest;
    parts = first.parts;
    there = first.fetched.there;
    counted = subst (λ (count : ℕ). Rose count now) first.fetched.quiet fails.counted;
    named = fails.named;
  };
})

-- ---- one turn of the loop: the first role and the first name, and what was answered

module _ (files : Files) (roles other_roles : List Role) (names other_names : List (List ℕ)) (role : Role) (name : List ℕ)
    (told here : Option NamedFiles) (before mid now : ℕ) (texts : Files)
    (so_far : AreFetchedTo files (zip roles names) told before mid texts)
    (role_is : roles ≡ role ∷ other_roles) (name_is : names ≡ name ∷ other_names) (told_is : here ≡ told) where
  begins : AreFetchedTo files ((role, name) ∷ zip other_roles other_names) told before mid texts
  begins =
      subst (λ (rest : Files). AreFetchedTo files rest told before mid texts)
      (ap (λ (r : List Role). zip r names) role_is ∙ ap (λ (n : List (List ℕ)). zip (role ∷ other_roles) n) name_is) so_far

  pub turn_goes_on : (got : Result (List ℕ) Outcome) (bytes : List ℕ) (all : Files) → got ≡ Ok bytes
      → IfOk got (λ b. AreFetched ((role, name) ∷ []) here mid now ((role, b) ∷ []))
      → all ≡ texts ++ (role, bytes) ∷ [] → AreFetchedTo files (zip other_roles other_names) told before now all
  turn_goes_on got bytes all is fetched added =
      let next = subst (λ (known : Option NamedFiles). AreFetched ((role, name) ∷ []) known mid now ((role, bytes) ∷ [])) told_is
      (subst (λ (g : Result (List ℕ) Outcome). IfOk g (λ b. AreFetched ((role, name) ∷ []) here mid now ((role, b) ∷ []))) is fetched) in
      subst (λ (t : Files). AreFetchedTo files (zip other_roles other_names) told before now t) (sym added)
      (fetched_one files (zip other_roles other_names) role name bytes told before mid now texts begins next)

  pub turn_ends : (got : Result (List ℕ) Outcome) (outcome : Outcome) (failed : Option (List ℕ)) → got ≡ Err outcome
      → IfErr got (λ o. AreStopped ((role, name) ∷ []) here mid now o ⊎ FailsFile role name mid now failed o)
      → AreStopped files told before now outcome ⊎ AreUnread files told before now failed outcome
  turn_ends got outcome failed is ended =
      let last = subst (λ (known : Option NamedFiles). AreStopped ((role, name) ∷ []) known mid now outcome ⊎ FailsFile role name mid now failed outcome) told_is
      (subst (λ (g : Result (List ℕ) Outcome). IfErr g (λ o. AreStopped ((role, name) ∷ []) here mid now o ⊎ FailsFile role name mid now failed o)) is ended) in
      ended_at files (zip other_roles other_names) role name told before mid now failed texts outcome begins last
