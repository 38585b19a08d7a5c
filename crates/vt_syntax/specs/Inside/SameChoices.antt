-- Grammars that are the same: choices that are taken apart, put together and put in another order.
use Rattle.std.proofs.Common.{inl, inr, List, [], ◌++◌, refl, sym, ◌∙◌, ap, subst, append_assoc, append-nil}
use Rattle.vt_grammar.specs.declared.lexeme.Lexeme.{Lexeme}
use Rattle.vt_grammar.specs.Grammar.{Grammar, nothing, seq, alt, made, Spells, IsPart}
use Rattle.vt_grammar.specs.SameAs.{SameAs}

-- what a function that follows gives of what is before it
abbrev pub taken_by : {A B : Type 0} → Grammar A → Grammar (A → B) → Grammar B
taken_by a b = made (λ x. x.1 x.0) (seq a b)

-- a function of what is before is made of what follows
abbrev pub made_behind : {N B C : Type 0} → (N → B → C) → Grammar B → Grammar (N → C)
made_behind f b = made (λ y z. f z y) b

-- a function of what is before, whose value the second takes
abbrev pub composed : {A B C : Type 0} → Grammar (A → B) → Grammar (B → C) → Grammar (A → C)
composed b c = made (λ x y. x.1 (x.0 y)) (seq b c)

-- a function, behind which nothing follows
abbrev pub ended : {A B : Type 0} → (A → B) → Grammar (A → B)
ended f = made (λ _ z. f z) nothing

-- what is the same as the same is the same
pub same_through : {A : Type 0} (g h k : Grammar A) → SameAs g h → SameAs h k → SameAs g k
same_through g h k s t = record {
  to = λ ls x p. t.to ls x (s.to ls x p);
  from = λ ls x p. s.from ls x (t.from ls x p);
  part_to = λ ls p. t.part_to ls (s.part_to ls p);
  part_from = λ ls p. s.part_from ls (t.part_from ls p);
}

-- ---- a choice at the front of a sequence

module _ {A B C : Type 0} (f : A × B → C) (a a' : Grammar A) (b : Grammar B) where
  split_to : (ls : List Lexeme) (x : C) → Spells (made f (seq (alt a a') b)) ls x → Spells (alt (made f (seq a b)) (made f (seq a' b))) ls x
  split_to ls x h = elim h.1.first [
    | inl s ↦ inl (h.0, record { front = h.1.front; back = h.1.back; whole = h.1.whole; first = s; second = h.1.second }, h.2)
    | inr s ↦ inr (h.0, record { front = h.1.front; back = h.1.back; whole = h.1.whole; first = s; second = h.1.second }, h.2)
  ]

  split_from : (ls : List Lexeme) (x : C) → Spells (alt (made f (seq a b)) (made f (seq a' b))) ls x → Spells (made f (seq (alt a a') b)) ls x
  split_from ls x (inl h) = (h.0, record { front = h.1.front; back = h.1.back; whole = h.1.whole; first = inl h.1.first; second = h.1.second }, h.2)
  split_from ls x (inr h) = (h.0, record { front = h.1.front; back = h.1.back; whole = h.1.whole; first = inr h.1.first; second = h.1.second }, h.2)

  split_part_to : (ls : List Lexeme) → IsPart (made f (seq (alt a a') b)) ls → IsPart (alt (made f (seq a b)) (made f (seq a' b))) ls
  split_part_to ls (inl (inl p)) = inl (inl p)
  split_part_to ls (inl (inr p)) = inr (inl p)
  split_part_to ls (inr h) = elim h.1.first [
    | inl s ↦ inl (inr (h.0, record { front = h.1.front; back = h.1.back; whole = h.1.whole; first = s; second = h.1.second }))
    | inr s ↦ inr (inr (h.0, record { front = h.1.front; back = h.1.back; whole = h.1.whole; first = s; second = h.1.second }))
  ]

  split_part_from : (ls : List Lexeme) → IsPart (alt (made f (seq a b)) (made f (seq a' b))) ls → IsPart (made f (seq (alt a a') b)) ls
  split_part_from ls (inl (inl p)) = inl (inl p)
  split_part_from ls (inl (inr h)) = inr (h.0, record { front = h.1.front; back = h.1.back; whole = h.1.whole; first = inl h.1.first; second = h.1.second })
  split_part_from ls (inr (inl p)) = inl (inr p)
  split_part_from ls (inr (inr h)) = inr (h.0, record { front = h.1.front; back = h.1.back; whole = h.1.whole; first = inr h.1.first; second = h.1.second })

  -- each alternative with what follows
  pub same_split : SameAs (made f (seq (alt a a') b)) (alt (made f (seq a b)) (made f (seq a' b)))
  same_split = record { to = split_to; from = split_from; part_to = split_part_to; part_from = split_part_from }

-- ---- a choice at the back

module _ {A B : Type 0} (a : Grammar A) (b b' : Grammar (A → B)) where
  -- the two with the front before each
  abbrev pub both_applied : Grammar B
  both_applied = alt (taken_by a b) (taken_by a b')

  -- the front once
  abbrev pub applied_once : Grammar B
  applied_once = taken_by a (alt b b')

  join_to : (ls : List Lexeme) (x : B) → Spells both_applied ls x → Spells applied_once ls x
  join_to ls x (inl h) = (h.0, record { front = h.1.front; back = h.1.back; whole = h.1.whole; first = h.1.first; second = inl h.1.second }, h.2)
  join_to ls x (inr h) = (h.0, record { front = h.1.front; back = h.1.back; whole = h.1.whole; first = h.1.first; second = inr h.1.second }, h.2)

  join_from : (ls : List Lexeme) (x : B) → Spells applied_once ls x → Spells both_applied ls x
  join_from ls x h = elim h.1.second [
    | inl s ↦ inl (h.0, record { front = h.1.front; back = h.1.back; whole = h.1.whole; first = h.1.first; second = s }, h.2)
    | inr s ↦ inr (h.0, record { front = h.1.front; back = h.1.back; whole = h.1.whole; first = h.1.first; second = s }, h.2)
  ]

  join_part_to : (ls : List Lexeme) → IsPart both_applied ls → IsPart applied_once ls
  join_part_to ls (inl (inl p)) = inl p
  join_part_to ls (inl (inr h)) = inr (h.0, record { front = h.1.front; back = h.1.back; whole = h.1.whole; first = h.1.first; second = inl h.1.second })
  join_part_to ls (inr (inl p)) = inl p
  join_part_to ls (inr (inr h)) = inr (h.0, record { front = h.1.front; back = h.1.back; whole = h.1.whole; first = h.1.first; second = inr h.1.second })

  join_part_from : (ls : List Lexeme) → IsPart applied_once ls → IsPart both_applied ls
  join_part_from ls (inl p) = inl (inl p)
  join_part_from ls (inr h) = elim h.1.second [
    | inl s ↦ inl (inr (h.0, record { front = h.1.front; back = h.1.back; whole = h.1.whole; first = h.1.first; second = s }))
    | inr s ↦ inr (inr (h.0, record { front = h.1.front; back = h.1.back; whole = h.1.whole; first = h.1.first; second = s }))
  ]

  -- the front is taken once
  pub same_join : SameAs both_applied applied_once
  same_join = record { to = join_to; from = join_from; part_to = join_part_to; part_from = join_part_from }

-- ---- values made in one step or in two

-- a function of the front that what follows gives
module _ {A B C D : Type 0} (n : A → D) (f : D → B → C) (a : Grammar A) (b : Grammar B) where
  named_to : (ls : List Lexeme) (x : C) → Spells (made (λ y. f y.0 y.1) (seq (made n a) b)) ls x → Spells (taken_by a (made_behind (λ z y. f (n z) y) b)) ls x
  named_to ls x h = ((h.1.first.0, λ z. f (n z) h.0.1), record { front = h.1.front; back = h.1.back; whole = h.1.whole; first = h.1.first.1; second = (h.0.1, h.1.second, refl) }, ap (λ d. f d h.0.1) h.1.first.2 ∙ h.2)

  named_from : (ls : List Lexeme) (x : C) → Spells (taken_by a (made_behind (λ z y. f (n z) y) b)) ls x → Spells (made (λ y. f y.0 y.1) (seq (made n a) b)) ls x
  named_from ls x h = ((n h.0.0, h.1.second.0), record { front = h.1.front; back = h.1.back; whole = h.1.whole; first = (h.0.0, h.1.first, refl); second = h.1.second.1 }, ap (λ (g : A → C). g h.0.0) h.1.second.2 ∙ h.2)

  named_part_to : (ls : List Lexeme) → IsPart (made (λ y. f y.0 y.1) (seq (made n a) b)) ls → IsPart (taken_by a (made_behind (λ z y. f (n z) y) b)) ls
  named_part_to ls (inl p) = inl p
  named_part_to ls (inr h) = inr (h.1.first.0, record { front = h.1.front; back = h.1.back; whole = h.1.whole; first = h.1.first.1; second = h.1.second })

  named_part_from : (ls : List Lexeme) → IsPart (taken_by a (made_behind (λ z y. f (n z) y) b)) ls → IsPart (made (λ y. f y.0 y.1) (seq (made n a) b)) ls
  named_part_from ls (inl p) = inl p
  named_part_from ls (inr h) = inr (n h.0, record { front = h.1.front; back = h.1.back; whole = h.1.whole; first = (h.0, h.1.first, refl); second = h.1.second })

  pub same_named : SameAs (made (λ y. f y.0 y.1) (seq (made n a) b)) (taken_by a (made_behind (λ z y. f (n z) y) b))
  same_named = record { to = named_to; from = named_from; part_to = named_part_to; part_from = named_part_from }

-- the same without a function on the front
module _ {A B C : Type 0} (f : B → A → C) (a : Grammar A) (b : Grammar B) where
  turned_to : (ls : List Lexeme) (x : C) → Spells (made (λ y. f y.1 y.0) (seq a b)) ls x → Spells (taken_by a (made f b)) ls x
  turned_to ls x h = ((h.0.0, f h.0.1), record { front = h.1.front; back = h.1.back; whole = h.1.whole; first = h.1.first; second = (h.0.1, h.1.second, refl) }, h.2)

  turned_from : (ls : List Lexeme) (x : C) → Spells (taken_by a (made f b)) ls x → Spells (made (λ y. f y.1 y.0) (seq a b)) ls x
  turned_from ls x h = ((h.0.0, h.1.second.0), record { front = h.1.front; back = h.1.back; whole = h.1.whole; first = h.1.first; second = h.1.second.1 }, ap (λ (g : A → C). g h.0.0) h.1.second.2 ∙ h.2)

  turned_part_to : (ls : List Lexeme) → IsPart (made (λ y. f y.1 y.0) (seq a b)) ls → IsPart (taken_by a (made f b)) ls
  turned_part_to ls p = p

  turned_part_from : (ls : List Lexeme) → IsPart (taken_by a (made f b)) ls → IsPart (made (λ y. f y.1 y.0) (seq a b)) ls
  turned_part_from ls p = p

  pub same_turned : SameAs (made (λ y. f y.1 y.0) (seq a b)) (taken_by a (made f b))
  same_turned = record { to = turned_to; from = turned_from; part_to = turned_part_to; part_from = turned_part_from }

-- ---- a sequence of three

-- the front first, and then a function of it, which what follows takes
module _ {A B C : Type 0} (a : Grammar A) (b : Grammar (A → B)) (c : Grammar (B → C)) where
  abbrev pub in_front : Grammar C
  in_front = taken_by (taken_by a b) c

  abbrev pub behind : Grammar C
  behind = taken_by a (composed b c)

  regroup_to : (ls : List Lexeme) (x : C) → Spells in_front ls x → Spells behind ls x
  regroup_to ls x h =
      let inner = h.1.first.1 in (
        (h.1.first.0.0, λ y. h.0.1 (h.1.first.0.1 y)),
        record {
          front = inner.front;
          back = inner.back ++ h.1.back;
          whole = h.1.whole ∙ ap (λ s. s ++ h.1.back) inner.whole ∙ append_assoc inner.front inner.back h.1.back;
          first = inner.first;
          second = ((h.1.first.0.1, h.0.1), record { front = inner.back; back = h.1.back; whole = refl; first = inner.second; second = h.1.second }, refl);
        },
        ap h.0.1 h.1.first.2 ∙ h.2,
      )

  regroup_from : (ls : List Lexeme) (x : C) → Spells behind ls x → Spells in_front ls x
  regroup_from ls x h =
      let inner = h.1.second.1 in (
        (h.1.second.0.0 h.0.0, h.1.second.0.1),
        record {
          front = h.1.front ++ inner.front;
          back = inner.back;
          whole = h.1.whole ∙ ap (λ s. h.1.front ++ s) inner.whole ∙ sym (append_assoc h.1.front inner.front inner.back);
          first = ((h.0.0, h.1.second.0.0), record { front = h.1.front; back = inner.front; whole = refl; first = h.1.first; second = inner.first }, refl);
          second = inner.second;
        },
        ap (λ (g : A → C). g h.0.0) h.1.second.2 ∙ h.2,
      )

  regroup_part_to : (ls : List Lexeme) → IsPart in_front ls → IsPart behind ls
  regroup_part_to ls (inl (inl p)) = inl p
  regroup_part_to ls (inl (inr h)) = inr (h.0, record { front = h.1.front; back = h.1.back; whole = h.1.whole; first = h.1.first; second = inl h.1.second })
  regroup_part_to ls (inr h) =
      let inner = h.1.first.1 in
      inr (
        h.1.first.0.0,
        record {
          front = inner.front;
          back = inner.back ++ h.1.back;
          whole = h.1.whole ∙ ap (λ s. s ++ h.1.back) inner.whole ∙ append_assoc inner.front inner.back h.1.back;
          first = inner.first;
          second = inr (h.1.first.0.1, record { front = inner.back; back = h.1.back; whole = refl; first = inner.second; second = h.1.second });
        },
      )

  regroup_part_from : (ls : List Lexeme) → IsPart behind ls → IsPart in_front ls
  regroup_part_from ls (inl p) = inl (inl p)
  regroup_part_from ls (inr h) = elim h.1.second [
    | inl p ↦ inl (inr (h.0, record { front = h.1.front; back = h.1.back; whole = h.1.whole; first = h.1.first; second = p }))
    | inr k ↦ inr (
      k.0 h.0,
      record {
        front = h.1.front ++ k.1.front;
        back = k.1.back;
        whole = h.1.whole ∙ ap (λ s. h.1.front ++ s) k.1.whole ∙ sym (append_assoc h.1.front k.1.front k.1.back);
        first = ((h.0, k.0), record { front = h.1.front; back = k.1.front; whole = refl; first = h.1.first; second = k.1.first }, refl);
        second = k.1.second;
      },
    )
  ]

  pub same_regroup : SameAs in_front behind
  same_regroup = record { to = regroup_to; from = regroup_from; part_to = regroup_part_to; part_from = regroup_part_from }

-- ---- choices in another order

-- the last of six alternatives is put before the first
module _ {A : Type 0} (a b c d e f : Grammar A) where
  abbrev in_a_row : Grammar A
  in_a_row = alt a (alt b (alt c (alt d (alt e f))))

  abbrev last_first : Grammar A
  last_first = alt (alt f a) (alt b (alt c (alt d e)))

  ordered_to : (ls : List Lexeme) (x : A) → Spells in_a_row ls x → Spells last_first ls x
  ordered_to ls x (inl h) = inl (inr h)
  ordered_to ls x (inr (inl h)) = inr (inl h)
  ordered_to ls x (inr (inr (inl h))) = inr (inr (inl h))
  ordered_to ls x (inr (inr (inr (inl h)))) = inr (inr (inr (inl h)))
  ordered_to ls x (inr (inr (inr (inr (inl h))))) = inr (inr (inr (inr h)))
  ordered_to ls x (inr (inr (inr (inr (inr h))))) = inl (inl h)

  ordered_from : (ls : List Lexeme) (x : A) → Spells last_first ls x → Spells in_a_row ls x
  ordered_from ls x (inl (inl h)) = inr (inr (inr (inr (inr h))))
  ordered_from ls x (inl (inr h)) = inl h
  ordered_from ls x (inr (inl h)) = inr (inl h)
  ordered_from ls x (inr (inr (inl h))) = inr (inr (inl h))
  ordered_from ls x (inr (inr (inr (inl h)))) = inr (inr (inr (inl h)))
  ordered_from ls x (inr (inr (inr (inr h)))) = inr (inr (inr (inr (inl h))))

  ordered_part_to : (ls : List Lexeme) → IsPart in_a_row ls → IsPart last_first ls
  ordered_part_to ls (inl h) = inl (inr h)
  ordered_part_to ls (inr (inl h)) = inr (inl h)
  ordered_part_to ls (inr (inr (inl h))) = inr (inr (inl h))
  ordered_part_to ls (inr (inr (inr (inl h)))) = inr (inr (inr (inl h)))
  ordered_part_to ls (inr (inr (inr (inr (inl h))))) = inr (inr (inr (inr h)))
  ordered_part_to ls (inr (inr (inr (inr (inr h))))) = inl (inl h)

  ordered_part_from : (ls : List Lexeme) → IsPart last_first ls → IsPart in_a_row ls
  ordered_part_from ls (inl (inl h)) = inr (inr (inr (inr (inr h))))
  ordered_part_from ls (inl (inr h)) = inl h
  ordered_part_from ls (inr (inl h)) = inr (inl h)
  ordered_part_from ls (inr (inr (inl h))) = inr (inr (inl h))
  ordered_part_from ls (inr (inr (inr (inl h)))) = inr (inr (inr (inl h)))
  ordered_part_from ls (inr (inr (inr (inr h)))) = inr (inr (inr (inr (inl h))))

  pub same_order : SameAs (alt a (alt b (alt c (alt d (alt e f))))) (alt (alt f a) (alt b (alt c (alt d e))))
  same_order = record { to = ordered_to; from = ordered_from; part_to = ordered_part_to; part_from = ordered_part_from }

-- three of five alternatives, of two choices and one between them, are put together
module _ {A : Type 0} (a b c d e : Grammar A) where
  abbrev spread : Grammar A
  spread = alt (alt a b) (alt c (alt d e))

  abbrev gathered : Grammar A
  gathered = alt b (alt (alt a (alt c d)) e)

  gather_to : (ls : List Lexeme) (x : A) → Spells spread ls x → Spells gathered ls x
  gather_to ls x (inl (inl h)) = inr (inl (inl h))
  gather_to ls x (inl (inr h)) = inl h
  gather_to ls x (inr (inl h)) = inr (inl (inr (inl h)))
  gather_to ls x (inr (inr (inl h))) = inr (inl (inr (inr h)))
  gather_to ls x (inr (inr (inr h))) = inr (inr h)

  gather_from : (ls : List Lexeme) (x : A) → Spells gathered ls x → Spells spread ls x
  gather_from ls x (inl h) = inl (inr h)
  gather_from ls x (inr (inl (inl h))) = inl (inl h)
  gather_from ls x (inr (inl (inr (inl h)))) = inr (inl h)
  gather_from ls x (inr (inl (inr (inr h)))) = inr (inr (inl h))
  gather_from ls x (inr (inr h)) = inr (inr (inr h))

  gather_part_to : (ls : List Lexeme) → IsPart spread ls → IsPart gathered ls
  gather_part_to ls (inl (inl h)) = inr (inl (inl h))
  gather_part_to ls (inl (inr h)) = inl h
  gather_part_to ls (inr (inl h)) = inr (inl (inr (inl h)))
  gather_part_to ls (inr (inr (inl h))) = inr (inl (inr (inr h)))
  gather_part_to ls (inr (inr (inr h))) = inr (inr h)

  gather_part_from : (ls : List Lexeme) → IsPart gathered ls → IsPart spread ls
  gather_part_from ls (inl h) = inl (inr h)
  gather_part_from ls (inr (inl (inl h))) = inl (inl h)
  gather_part_from ls (inr (inl (inr (inl h)))) = inr (inl h)
  gather_part_from ls (inr (inl (inr (inr h)))) = inr (inr (inl h))
  gather_part_from ls (inr (inr h)) = inr (inr (inr h))

  pub same_gathered : SameAs (alt (alt a b) (alt c (alt d e))) (alt b (alt (alt a (alt c d)) e))
  same_gathered = record { to = gather_to; from = gather_from; part_to = gather_part_to; part_from = gather_part_from }

-- ---- nothing behind

module _ {A B : Type 0} (f : A → B) (a : Grammar A) where
  ended_to : (ls : List Lexeme) (x : B) → Spells (made f a) ls x → Spells (taken_by a (ended f)) ls x
  ended_to ls x h = ((h.0, f), record { front = ls; back = []; whole = sym (append-nil ls); first = h.1; second = (tt, refl, refl) }, h.2)

  ended_from : (ls : List Lexeme) (x : B) → Spells (taken_by a (ended f)) ls x → Spells (made f a) ls x
  ended_from ls x h = (h.0.0, subst (λ s. Spells a s h.0.0) (sym (h.1.whole ∙ ap (λ s. h.1.front ++ s) h.1.second.1 ∙ append-nil h.1.front)) h.1.first, ap (λ (g : A → B). g h.0.0) h.1.second.2 ∙ h.2)

  ended_part_to : (ls : List Lexeme) → IsPart (made f a) ls → IsPart (taken_by a (ended f)) ls
  ended_part_to ls p = inl p

  ended_part_from : ((ls : List Lexeme) (y : A) → Spells a ls y → IsPart a ls) → (ls : List Lexeme) → IsPart (taken_by a (ended f)) ls → IsPart (made f a) ls
  ended_part_from part ls (inl p) = p
  ended_part_from part ls (inr h) = subst (IsPart a) (sym (h.1.whole ∙ ap (λ s. h.1.front ++ s) h.1.second ∙ append-nil h.1.front)) (part h.1.front h.0 h.1.first)

  pub same_ended : ((ls : List Lexeme) (y : A) → Spells a ls y → IsPart a ls) → SameAs (made f a) (taken_by a (ended f))
  same_ended part = record { to = ended_to; from = ended_from; part_to = ended_part_to; part_from = ended_part_from part }
