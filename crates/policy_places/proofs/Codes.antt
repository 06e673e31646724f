-- The code of what stands at a place is one of those that the code knows.
use Rattle.std.proofs.Common.{ℕ, zero, suc, ◌≡◌, ◌≤◌, List, get_or, sym, ◌∙◌, ap, refl, arith}
use Rattle.policy.specs.Leaf.{Leaf, finite, cofinite, definition, listed, vetted, leaf_code, leaf_words}
use Rattle.policy.specs.Syntax.{Expr, leaf, union, difference, comprehension, Body, head, draw, same, different, absent}
use Rattle.policy.specs.Words.{guard_count, expr_words, body_words}
use Rattle.std.proofs.Common.{true, false, ◌⊎◌, inl, inr}
use Rattle.policy.specs.Decode.{is_node}
use Rattle.policy.specs.Codes.{code_number, guard_number}
use Rattle.policy.specs.declared.codes.GuardCode.{GuardCode}
use Rattle.policy.specs.declared.codes.GuardCode.TheVariants.{Same, Different}
use Rattle.policy.specs.declared.codes.Code.{Code}
use Rattle.policy.specs.declared.codes.Code.TheVariants.{Finite, Cofinite, Definition, Name, Union, Difference, Comprehension, Vetted}
use Rattle.policy_places.specs.Places.{At, SomeLeaf, SomeExpr, SomeBody, SomeGuard}
use Rattle.policy_places.proofs.Places.{at_word}

module _ {ws : List ℕ} {at : ℕ} where
  leaf_is_code : (x : Leaf) → At ws at (leaf_words x) → (1 ≤ get_or ws at 0) × (get_or ws at 0 ≤ 8)
  unfolding leaf_words leaf_code
  leaf_is_code (finite rs) h = (omega (arith, at_word h), omega (arith, at_word h))
  leaf_is_code (cofinite rs) h = (omega (arith, at_word h), omega (arith, at_word h))
  leaf_is_code (definition d) h = (omega (arith, at_word h), omega (arith, at_word h))
  leaf_is_code (listed t m p o) h = (omega (arith, at_word h), omega (arith, at_word h))
  leaf_is_code (vetted t m o d) h = (omega (arith, at_word h), omega (arith, at_word h))

  pub leaf_code_lem : SomeLeaf ws at → (1 ≤ get_or ws at 0) × (get_or ws at 0 ≤ 8)
  leaf_code_lem s = leaf_is_code s.x s.here.words

  expr_is_code : (e : Expr) (n : ℕ) → At ws at (expr_words e n) → (1 ≤ get_or ws at 0) × (get_or ws at 0 ≤ 8)
  unfolding expr_words
  expr_is_code (leaf x) n h = leaf_is_code x h
  expr_is_code (union a b) n h = (omega (arith, at_word h), omega (arith, at_word h))
  expr_is_code (difference a b) n h = (omega (arith, at_word h), omega (arith, at_word h))
  expr_is_code (comprehension b) n h = (omega (arith, at_word h), omega (arith, at_word h))

  pub expr_code_lem : SomeExpr ws at → (1 ≤ get_or ws at 0) × (get_or ws at 0 ≤ 8)
  expr_code_lem s = expr_is_code s.e s.n s.here.words

  guard_is_code : (b : Body) (n : ℕ) → 1 ≤ guard_count b → At ws at (body_words b n) → (1 ≤ get_or ws at 0) × (get_or ws at 0 ≤ 4)
  unfolding guard_count expr_words
  guard_is_code (head r) n z h = absurd (omega arith)
  guard_is_code (draw e p b) n z h = (omega (arith, at_word h), omega (arith, at_word h))
  guard_is_code (same x y b) n z h = (omega (arith, at_word h), omega (arith, at_word h))
  guard_is_code (different x y b) n z h = (omega (arith, at_word h), omega (arith, at_word h))
  guard_is_code (absent r e b) n z h = (omega (arith, at_word h), omega (arith, at_word h))

  pub guard_code_lem : SomeGuard ws at → (1 ≤ get_or ws at 0) × (get_or ws at 0 ≤ 4)
  guard_code_lem s = guard_is_code s.b s.n s.some s.words

  pub body_code_lem : {left : ℕ} → (left ≡ 0 → ⊥) → SomeBody ws at left → (1 ≤ get_or ws at 0) × (get_or ws at 0 ≤ 4)
  body_code_lem {left} z s =
      let c = s.here.count in
      guard_is_code s.b s.n (omega (arith, c, z)) s.here.words

-- codes differ as their numbers do
code_at : ℕ → Code
code_at zero = Vetted
code_at (suc zero) = Finite
code_at (suc (suc zero)) = Cofinite
code_at (suc (suc (suc zero))) = Definition
code_at (suc (suc (suc (suc zero)))) = Name
code_at (suc (suc (suc (suc (suc zero))))) = Union
code_at (suc (suc (suc (suc (suc (suc zero)))))) = Difference
code_at (suc (suc (suc (suc (suc (suc (suc zero))))))) = Comprehension
code_at (suc (suc (suc (suc (suc (suc (suc (suc n)))))))) = Vetted

code_back : (c : Code) → code_at (code_number c) ≡ c
unfolding code_at
code_back Finite = refl
code_back Cofinite = refl
code_back Definition = refl
code_back Name = refl
code_back Union = refl
code_back Difference = refl
code_back Comprehension = refl
code_back Vetted = refl

pub other_code : {w : ℕ} (c d : Code) → code_number c ≡ w → (c ≡ d → ⊥) → w ≡ code_number d → ⊥
other_code c d e n f = n (sym (code_back c) ∙ (ap code_at (e ∙ f) ∙ code_back d))

-- a node that is no comprehension, and a leaf
pub two_node : {w : ℕ} (c : Code) → code_number c ≡ w → (c ≡ Union) ⊎ (c ≡ Difference) → is_node w ≡ true
unfolding is_node
two_node c e (inl f) = rw (← e, f) refl
two_node c e (inr f) = rw (← e, f) refl

pub two_no_body : {w : ℕ} (c : Code) → code_number c ≡ w → (c ≡ Union) ⊎ (c ≡ Difference) → w ≡ 7 → ⊥
two_no_body {w} c e (inl f) h = let g : code_number c ≡ 5 = ap code_number f in absurd (omega arith)
two_no_body {w} c e (inr f) h = let g : code_number c ≡ 6 = ap code_number f in absurd (omega arith)

pub leaf_no_node : {w : ℕ} (c : Code) → code_number c ≡ w → (c ≡ Union → ⊥) → (c ≡ Difference → ⊥) → (c ≡ Comprehension → ⊥) → is_node w ≡ false
unfolding is_node
leaf_no_node Finite e u d c = rw (← e) refl
leaf_no_node Cofinite e u d c = rw (← e) refl
leaf_no_node Definition e u d c = rw (← e) refl
leaf_no_node Name e u d c = rw (← e) refl
leaf_no_node Union e u d c = absurd (u refl)
leaf_no_node Difference e u d c = absurd (d refl)
leaf_no_node Comprehension e u d c = absurd (c refl)
leaf_no_node Vetted e u d c = rw (← e) refl

-- a guard of code 2 or 3 is of neither 1 nor 4
module _ {w : ℕ} (c : GuardCode) (e : guard_number c ≡ w) (f : (c ≡ Same) ⊎ (c ≡ Different)) where
  two_or_three : (w ≡ 2) ⊎ (w ≡ 3)
  two_or_three = elim f [ inl g ↦ inl (sym e ∙ ap guard_number g) | inr g ↦ inr (sym e ∙ ap guard_number g) ]

  pub not_first : w ≡ 1 → ⊥
  not_first h = let t = two_or_three in absurd (omega arith)

  pub not_last : w ≡ 4 → ⊥
  not_last h = let t = two_or_three in absurd (omega arith)
