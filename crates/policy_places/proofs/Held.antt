-- The term, slot or guard that the code holds is the one that stands in the words.
use Prim.Native.Nat.{ℕ, ◌+◌, ◌≤◌, ◌<◌}
use mathlib.Core.Path.{◌≡◌, refl, ap, subst}
use mathlib.Core.List.{List, ◌∷◌, ◌++◌}
use native.Mathlib.Omega.{arith}
use lib.ListN.{length, get_or}
use Rattle.policy.specs.Syntax.{Term, atom, var, Slot, old, new, Body, head, draw, same, different, absent}
use Rattle.policy.specs.Words.{term_words, slot_words, guard_count, expr_words, body_words}
use Rattle.policy.specs.Held.{term_is, slot_is, guard_is, opens}
use Rattle.policy_places.specs.Places.{At, SomeGuard, IsTerm, IsSlot, IsGuard}
use Rattle.policy_places.proofs.Places.{at_word, at_next, at_front, at_long, body_some, two_terms}
use Rattle.policy.specs.declared.Term as HeldTerm
use Rattle.policy.specs.declared.Term.TheVariants.{Atom, Variable}
use Rattle.policy.specs.declared.Slot as HeldSlot
use Rattle.policy.specs.declared.Slot.TheVariants.{Old, New}
use Rattle.policy.specs.declared.Guard as HeldGuard
use Rattle.policy.specs.declared.Guard.TheVariants.{Draw, Same, Different, Absent}

module _ {ws : List ℕ} {at : ℕ} where
  pub is_atom_lem : get_or ws at 0 ≡ 0 → IsTerm ws at (Atom (get_or ws (at + 1) 0))
  unfolding term_words term_is
  is_atom_lem z = record { is = λ t h. go t h }
    where
      go : (t : Term) → At ws at (term_words t) → term_is (Atom (get_or ws (at + 1) 0)) ≡ t
      go (atom a) h = ap atom (at_word (at_next h))
      go (var i) h = absurd (omega (arith, at_word h))

  pub is_variable : (get_or ws at 0 ≡ 0 → ⊥) → IsTerm ws at (Variable (get_or ws (at + 1) 0))
  unfolding term_words term_is
  is_variable z = record { is = λ t h. go t h }
    where
      go : (t : Term) → At ws at (term_words t) → term_is (Variable (get_or ws (at + 1) 0)) ≡ t
      go (atom a) h = absurd (z (at_word h))
      go (var i) h = ap var (at_word (at_next h))

  -- a slot that is a term has its tag
  old_tag : (t : Term) (rest : List ℕ) → At ws at (term_words t ++ rest) → get_or ws at 0 ≤ 1
  unfolding term_words
  old_tag (atom a) rest h = omega (arith, at_word h)
  old_tag (var i) rest h = omega (arith, at_word h)

  pub is_new_lem : get_or ws at 0 ≡ 2 → IsSlot ws at New
  unfolding slot_words slot_is
  is_new_lem z = record { is = λ n s p h. go n s p h }
    where
      go : (n : ℕ) (s : Slot) (p : List Slot) → At ws at (slot_words n (s ∷ p)) → slot_is New ≡ s
      go n (old t) p h = absurd (omega (arith, old_tag t (slot_words n p) h))
      go n new p h = refl

  pub is_old : (get_or ws at 0 ≡ 2 → ⊥) → (x : HeldTerm.Term) → IsTerm ws at x → IsSlot ws at (Old x)
  unfolding slot_words slot_is
  is_old z x i = record { is = λ n s p h. go n s p h }
    where
      go : (n : ℕ) (s : Slot) (p : List Slot) → At ws at (slot_words n (s ∷ p)) → slot_is (Old x) ≡ s
      go n (old t) p h = ap old (i.is t (at_front (term_words t) (slot_words n p) h))
      go n new p h = absurd (z (at_word h))

  pub slot_told : {s t : HeldSlot.Slot} → IsSlot ws at s → s ≡ t → IsSlot ws at t
  slot_told i e = subst (IsSlot ws at) e i

  pub guard_told : {g h : HeldGuard.Guard} → IsGuard ws at g → g ≡ h → IsGuard ws at h
  guard_told i e = subst (IsGuard ws at) e i

  pub guard_inside : SomeGuard ws at → at < length ws
  guard_inside s = omega (arith, body_some s.b s.n, at_long (body_some s.b s.n) s.words)

  -- two terms stand in a guard that is neither a draw nor absent
  pub guard_terms : SomeGuard ws at → (get_or ws at 0 ≡ 1 → ⊥) → (get_or ws at 0 ≡ 4 → ⊥) → at + 5 ≤ length ws
  unfolding expr_words guard_count
  guard_terms s t u = go s.n s.b s.some s.words
    where
      go : (n : ℕ) (b : Body) → 1 ≤ guard_count b → At ws at (body_words b n) → at + 5 ≤ length ws
      go n (head r) z h = absurd (omega arith)
      go n (draw e p b) z h = absurd (t (at_word h))
      go n (same x y b) z h = (two_terms 2 x y (body_words b n) h).inside
      go n (different x y b) z h = (two_terms 3 x y (body_words b n) h).inside
      go n (absent r e b) z h = absurd (u (at_word h))

  pub is_draw_lem : get_or ws at 0 ≡ 1 → IsGuard ws at Draw
  unfolding expr_words guard_count guard_is opens
  is_draw_lem t = record { is = λ n b z h. go n b z h }
    where
      go : (n : ℕ) (b : Body) → 1 ≤ guard_count b → At ws at (body_words b n) → guard_is Draw ≡ opens b
      go n (head r) z h = absurd (omega arith)
      go n (draw e p b) z h = refl
      go n (same x y b) z h = absurd (omega (arith, at_word h))
      go n (different x y b) z h = absurd (omega (arith, at_word h))
      go n (absent r e b) z h = absurd (omega (arith, at_word h))

  pub is_absent_lem : get_or ws at 0 ≡ 4 → IsGuard ws at Absent
  unfolding expr_words guard_count guard_is opens
  is_absent_lem t = record { is = λ n b z h. go n b z h }
    where
      go : (n : ℕ) (b : Body) → 1 ≤ guard_count b → At ws at (body_words b n) → guard_is Absent ≡ opens b
      go n (head r) z h = absurd (omega arith)
      go n (draw e p b) z h = absurd (omega (arith, at_word h))
      go n (same x y b) z h = absurd (omega (arith, at_word h))
      go n (different x y b) z h = absurd (omega (arith, at_word h))
      go n (absent r e b) z h = refl

  module _ {x y : HeldTerm.Term} (first : IsTerm ws (at + 1) x) (second : IsTerm ws (at + 3) y) where
    pub is_same_lem : get_or ws at 0 ≡ 2 → IsGuard ws at (Same x y)
    unfolding expr_words guard_count guard_is opens
    is_same_lem t = record { is = λ n b z h. go n b z h }
      where
        go : (n : ℕ) (b : Body) → 1 ≤ guard_count b → At ws at (body_words b n) → guard_is (Same x y) ≡ opens b
        go n (head r) z h = absurd (omega arith)
        go n (draw e p b) z h = absurd (omega (arith, at_word h))
        go n (same u v b) z h =
            let q = two_terms 2 u v (body_words b n) h in
            let f : term_is x ≡ u = first.is u q.first in
            let g : term_is y ≡ v = second.is v q.second in
            cc
        go n (different u v b) z h = absurd (omega (arith, at_word h))
        go n (absent r e b) z h = absurd (omega (arith, at_word h))

    pub is_different_lem : (get_or ws at 0 ≡ 1 → ⊥) → (get_or ws at 0 ≡ 2 → ⊥) → (get_or ws at 0 ≡ 4 → ⊥) → IsGuard ws at (Different x y)
    unfolding expr_words guard_count guard_is opens
    is_different_lem t k m = record { is = λ n b z h. go n b z h }
      where
        go : (n : ℕ) (b : Body) → 1 ≤ guard_count b → At ws at (body_words b n) → guard_is (Different x y) ≡ opens b
        go n (head r) z h = absurd (omega arith)
        go n (draw e p b) z h = absurd (t (at_word h))
        go n (same u v b) z h = absurd (k (at_word h))
        go n (different u v b) z h =
            let q = two_terms 3 u v (body_words b n) h in
            let f : term_is x ≡ u = first.is u q.first in
            let g : term_is y ≡ v = second.is v q.second in
            cc
        go n (absent r e b) z h = absurd (m (at_word h))
