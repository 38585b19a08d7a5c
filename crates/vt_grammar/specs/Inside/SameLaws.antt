-- Grammars that are the same: a common front, and the same inside others.
use Rattle.std.proofs.Common.{ℕ, suc, inl, inr, List, [], ◌∷◌, take, refl, ◌∙◌, ap}
use Rattle.vt_grammar.specs.declared.lexeme.Lexeme.{Lexeme}
use Rattle.vt_grammar.specs.Grammar.{Grammar, seq, alt, star, made, Join, Spells, SpellsAll, IsPart}
use Rattle.vt_grammar.specs.Fault.{IsFault}
use Rattle.vt_grammar.specs.Forms.{after, before, separated, some_of, maybe}
use Rattle.vt_grammar.specs.SameAs.{SameAs}

-- lexemes spell two values, one after the other
abbrev Over : {A B : Type 0} → Grammar A → Grammar B → A → B → List Lexeme → Type 0
Over a b x y ls = Join (λ s. Spells a s x) (λ s. Spells b s y) ls

-- a grammar is the same as itself
pub same_itself : {A : Type 0} (g : Grammar A) → SameAs g g
same_itself g = record { to = λ ls x h. h; from = λ ls x h. h; part_to = λ ls h. h; part_from = λ ls h. h }

-- and the other way round
pub same_back : {A : Type 0} (g h : Grammar A) → SameAs g h → SameAs h g
same_back g h s = record { to = s.from; from = s.to; part_to = s.part_from; part_from = s.part_to }

-- what the one sequence spells, the other spells
seq_to : {A B : Type 0} (a a' : Grammar A) (b b' : Grammar B) → SameAs a a' → SameAs b b' → (ls : List Lexeme) (x : A × B) → Spells (seq a b) ls x → Spells (seq a' b') ls x
seq_to a a' b b' s t ls x h = record { front = h.front; back = h.back; whole = h.whole; first = s.to h.front x.0 h.first; second = t.to h.back x.1 h.second }

-- what is a part of the one sequence is a part of the other
seq_part : {A B : Type 0} (a a' : Grammar A) (b b' : Grammar B) → SameAs a a' → SameAs b b' → (ls : List Lexeme) → IsPart (seq a b) ls → IsPart (seq a' b') ls
seq_part a a' b b' s t ls (inl h) = inl (s.part_to ls h)
seq_part a a' b b' s t ls (inr h) = inr (h.0, record { front = h.1.front; back = h.1.back; whole = h.1.whole; first = s.to h.1.front h.0 h.1.first; second = t.part_to h.1.back h.1.second })

-- sequences of the same are the same
pub same_seq : {A B : Type 0} (a a' : Grammar A) (b b' : Grammar B) → SameAs a a' → SameAs b b' → SameAs (seq a b) (seq a' b')
same_seq a a' b b' s t = record {
  to = seq_to a a' b b' s t;
  from = seq_to a' a b' b (same_back a a' s) (same_back b b' t);
  part_to = seq_part a a' b b' s t;
  part_from = seq_part a' a b' b (same_back a a' s) (same_back b b' t);
}

-- the same, with values made by one function, are the same
pub same_made : {A B : Type 0} (f : A → B) (a a' : Grammar A) → SameAs a a' → SameAs (made f a) (made f a')
same_made f a a' s = record {
  to = λ ls x h. (h.0, s.to ls h.0 h.1, h.2);
  from = λ ls x h. (h.0, s.from ls h.0 h.1, h.2);
  part_to = s.part_to;
  part_from = s.part_from;
}

-- what the one choice spells, the other spells
alt_to : {A : Type 0} (a a' b b' : Grammar A) → SameAs a a' → SameAs b b' → (ls : List Lexeme) (x : A) → Spells (alt a b) ls x → Spells (alt a' b') ls x
alt_to a a' b b' s t ls x (inl h) = inl (s.to ls x h)
alt_to a a' b b' s t ls x (inr h) = inr (t.to ls x h)

-- what is a part of the one choice is a part of the other
alt_part : {A : Type 0} (a a' b b' : Grammar A) → SameAs a a' → SameAs b b' → (ls : List Lexeme) → IsPart (alt a b) ls → IsPart (alt a' b') ls
alt_part a a' b b' s t ls (inl h) = inl (s.part_to ls h)
alt_part a a' b b' s t ls (inr h) = inr (t.part_to ls h)

-- choices of the same are the same
pub same_alt : {A : Type 0} (a a' b b' : Grammar A) → SameAs a a' → SameAs b b' → SameAs (alt a b) (alt a' b')
same_alt a a' b b' s t = record {
  to = alt_to a a' b b' s t;
  from = alt_to a' a b' b (same_back a a' s) (same_back b b' t);
  part_to = alt_part a a' b b' s t;
  part_from = alt_part a' a b' b (same_back a a' s) (same_back b b' t);
}

-- what the one repetition spells, the other spells
star_to : {A : Type 0} (a a' : Grammar A) → SameAs a a' → (ls : List Lexeme) (xs : List A) → SpellsAll (Spells a) ls xs → SpellsAll (Spells a') ls xs
star_to a a' s ls [] h = h
star_to a a' s ls (x ∷ xs) h = record { front = h.front; back = h.back; whole = h.whole; first = s.to h.front x h.first; second = star_to a a' s h.back xs h.second }

-- what is a part of the one repetition is a part of the other
star_part : {A : Type 0} (a a' : Grammar A) → SameAs a a' → (ls : List Lexeme) → IsPart (star a) ls → IsPart (star a') ls
star_part a a' s ls (inl h) = inl h
star_part a a' s ls (inr h) = inr (h.0, record { front = h.1.front; back = h.1.back; whole = h.1.whole; first = star_to a a' s h.1.front h.0 h.1.first; second = s.part_to h.1.back h.1.second })

-- repetitions of the same are the same
pub same_star : {A : Type 0} (a a' : Grammar A) → SameAs a a' → SameAs (star a) (star a')
same_star a a' s = record {
  to = star_to a a' s;
  from = star_to a' a (same_back a a' s);
  part_to = star_part a a' s;
  part_from = star_part a' a (same_back a a' s);
}

-- the forms of the same are the same
pub same_after : {A B : Type 0} (a a' : Grammar A) (b b' : Grammar B) → SameAs a a' → SameAs b b' → SameAs (after a b) (after a' b')
same_after a a' b b' s t = same_made _ _ _ (same_seq a a' b b' s t)

pub same_before : {A B : Type 0} (a a' : Grammar A) (b b' : Grammar B) → SameAs a a' → SameAs b b' → SameAs (before a b) (before a' b')
same_before a a' b b' s t = same_made _ _ _ (same_seq a a' b b' s t)

pub same_separated : {A B : Type 0} (m m' : Grammar A) (b b' : Grammar B) → SameAs m m' → SameAs b b' → SameAs (separated m b) (separated m' b')
same_separated m m' b b' s t = same_made _ _ _ (same_seq b b' _ _ t (same_star _ _ (same_after m m' b b' s t)))

pub same_some_of : {A : Type 0} (a a' : Grammar (List A)) → SameAs a a' → SameAs (some_of a) (some_of a')
same_some_of a a' s = same_alt a a' _ _ s (same_itself _)

pub same_maybe : {A : Type 0} (a a' : Grammar A) → SameAs a a' → SameAs (maybe a) (maybe a')
same_maybe a a' s = same_alt _ _ _ _ (same_made _ a a' s) (same_itself _)

-- Two alternatives with one front, and the front taken once.
module _ {A B C D : Type 0} (a : Grammar A) (b : Grammar B) (c : Grammar C) (f : B → A → D) (g : C → A → D) (rest : Grammar D) where
  -- each alternative with its front
  abbrev pub apart_fronts : Grammar D
  apart_fronts = alt (made (λ x. f x.1 x.0) (seq a b)) (alt (made (λ x. g x.1 x.0) (seq a c)) rest)

  -- the front, and the alternatives behind it
  abbrev pub one_front : Grammar D
  one_front = alt (made (λ x. x.1 x.0) (seq a (alt (made f b) (made g c)))) rest

  -- what the one spells, the other spells
  to : (ls : List Lexeme) (x : D) → Spells apart_fronts ls x → Spells one_front ls x
  to ls x (inl h) = inl ((h.0.0, f h.0.1), record { front = h.1.front; back = h.1.back; whole = h.1.whole; first = h.1.first; second = inl (h.0.1, h.1.second, refl) }, h.2)
  to ls x (inr (inl h)) = inl ((h.0.0, g h.0.1), record { front = h.1.front; back = h.1.back; whole = h.1.whole; first = h.1.first; second = inr (h.0.1, h.1.second, refl) }, h.2)
  to ls x (inr (inr h)) = inr h

  -- and the other way round
  from : (ls : List Lexeme) (x : D) → Spells one_front ls x → Spells apart_fronts ls x
  from ls x (inr h) = inr (inr h)
  from ls x (inl h) = go h.1.second
    where
      go : Spells (alt (made f b) (made g c)) h.1.back h.0.1 → Spells apart_fronts ls x
      go (inl k) = inl ((h.0.0, k.0), record { front = h.1.front; back = h.1.back; whole = h.1.whole; first = h.1.first; second = k.1 }, ap (λ (m : A → D). m h.0.0) k.2 ∙ h.2)
      go (inr k) = inr (inl ((h.0.0, k.0), record { front = h.1.front; back = h.1.back; whole = h.1.whole; first = h.1.first; second = k.1 }, ap (λ (m : A → D). m h.0.0) k.2 ∙ h.2))

  -- what is a part of the one is a part of the other
  part_to : (ls : List Lexeme) → IsPart apart_fronts ls → IsPart one_front ls
  part_to ls (inl (inl h)) = inl (inl h)
  part_to ls (inl (inr h)) = inl (inr (h.0, record { front = h.1.front; back = h.1.back; whole = h.1.whole; first = h.1.first; second = inl h.1.second }))
  part_to ls (inr (inl (inl h))) = inl (inl h)
  part_to ls (inr (inl (inr h))) = inl (inr (h.0, record { front = h.1.front; back = h.1.back; whole = h.1.whole; first = h.1.first; second = inr h.1.second }))
  part_to ls (inr (inr h)) = inr h

  -- and the other way round
  part_from : (ls : List Lexeme) → IsPart one_front ls → IsPart apart_fronts ls
  part_from ls (inl (inl h)) = inl (inl h)
  part_from ls (inl (inr h)) = go h.1.second
    where
      go : IsPart (alt (made f b) (made g c)) h.1.back → IsPart apart_fronts ls
      go (inl k) = inl (inr (h.0, record { front = h.1.front; back = h.1.back; whole = h.1.whole; first = h.1.first; second = k }))
      go (inr k) = inr (inl (inr (h.0, record { front = h.1.front; back = h.1.back; whole = h.1.whole; first = h.1.first; second = k })))
  part_from ls (inr h) = inr (inr h)

  -- the two are the same
  pub same_front : SameAs apart_fronts one_front
  same_front = record { to = to; from = from; part_to = part_to; part_from = part_from }

-- Two alternatives with one front and no other beside them, and the front taken once.
module _ {A B C D : Type 0} (a : Grammar A) (b : Grammar B) (c : Grammar C) (f : B → A → D) (g : C → A → D) where
  -- each alternative with its front
  abbrev pub both_fronts : Grammar D
  both_fronts = alt (made (λ x. f x.1 x.0) (seq a b)) (made (λ x. g x.1 x.0) (seq a c))

  -- the front, and the alternatives behind it
  abbrev pub shared_front : Grammar D
  shared_front = made (λ x. x.1 x.0) (seq a (alt (made f b) (made g c)))

  -- what the one spells, the other spells
  shared_to : (ls : List Lexeme) (x : D) → Spells both_fronts ls x → Spells shared_front ls x
  shared_to ls x (inl h) = ((h.0.0, f h.0.1), record { front = h.1.front; back = h.1.back; whole = h.1.whole; first = h.1.first; second = inl (h.0.1, h.1.second, refl) }, h.2)
  shared_to ls x (inr h) = ((h.0.0, g h.0.1), record { front = h.1.front; back = h.1.back; whole = h.1.whole; first = h.1.first; second = inr (h.0.1, h.1.second, refl) }, h.2)

  -- and the other way round
  shared_from : (ls : List Lexeme) (x : D) → Spells shared_front ls x → Spells both_fronts ls x
  shared_from ls x h = go h.1.second
    where
      go : Spells (alt (made f b) (made g c)) h.1.back h.0.1 → Spells both_fronts ls x
      go (inl k) = inl ((h.0.0, k.0), record { front = h.1.front; back = h.1.back; whole = h.1.whole; first = h.1.first; second = k.1 }, ap (λ (m : A → D). m h.0.0) k.2 ∙ h.2)
      go (inr k) = inr ((h.0.0, k.0), record { front = h.1.front; back = h.1.back; whole = h.1.whole; first = h.1.first; second = k.1 }, ap (λ (m : A → D). m h.0.0) k.2 ∙ h.2)

  -- what is a part of the one is a part of the other
  shared_part_to : (ls : List Lexeme) → IsPart both_fronts ls → IsPart shared_front ls
  shared_part_to ls (inl (inl h)) = inl h
  shared_part_to ls (inl (inr h)) = inr (h.0, record { front = h.1.front; back = h.1.back; whole = h.1.whole; first = h.1.first; second = inl h.1.second })
  shared_part_to ls (inr (inl h)) = inl h
  shared_part_to ls (inr (inr h)) = inr (h.0, record { front = h.1.front; back = h.1.back; whole = h.1.whole; first = h.1.first; second = inr h.1.second })

  -- and the other way round
  shared_part_from : (ls : List Lexeme) → IsPart shared_front ls → IsPart both_fronts ls
  shared_part_from ls (inl h) = inl (inl h)
  shared_part_from ls (inr h) = go h.1.second
    where
      go : IsPart (alt (made f b) (made g c)) h.1.back → IsPart both_fronts ls
      go (inl k) = inl (inr (h.0, record { front = h.1.front; back = h.1.back; whole = h.1.whole; first = h.1.first; second = k }))
      go (inr k) = inr (inr (h.0, record { front = h.1.front; back = h.1.back; whole = h.1.whole; first = h.1.first; second = k }))

  -- the two are the same
  pub same_front_of_two : SameAs both_fronts shared_front
  same_front_of_two = record { to = shared_to; from = shared_from; part_to = shared_part_to; part_from = shared_part_from }

-- a fault by the one is a fault by the other
pub same_fault : {A : Type 0} (g h : Grammar A) → SameAs g h → (ls : List Lexeme) (n : ℕ) → IsFault g ls n → IsFault h ls n
same_fault g h s ls n f = record {
  at = f.at;
  place = f.place;
  before = λ j l. s.part_to (take j ls) (f.before j l);
  here = λ l k. f.here l (s.part_from (take (suc f.at) ls) k);
  none = λ x k. f.none x (s.from ls x k);
}
