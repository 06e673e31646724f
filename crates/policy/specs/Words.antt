-- Document 01, "Expressions, in prefix order": the words of an expression, n variables being in scope.
use Rattle.std.specs.Prelude.{ℕ, zero, suc, ◌+◌, List, [], ◌∷◌, ◌++◌, length}
use Rattle.policy.specs.Leaf.{leaf_words}
unfoldable pub use Rattle.policy.specs.Terms.{term_words, each, term_row_words}
use Rattle.policy.specs.Syntax.{Slot, old, new, Expr, leaf, union, difference, comprehension, Body, head, draw, same, different, absent}

unfoldable pub slot_words : ℕ → List Slot → List ℕ
unfolding term_words
slot_words n [] = []
slot_words n (old t ∷ p) = term_words t ++ slot_words n p
slot_words n (new ∷ p) = 2 ∷ n ∷ slot_words (n + 1) p

-- the count of a pattern's new variables
unfoldable pub fresh : List Slot → ℕ
fresh [] = zero
fresh (old t ∷ p) = fresh p
fresh (new ∷ p) = suc (fresh p)

unfoldable pub guard_count : Body → ℕ
guard_count (head r) = 0
guard_count (draw e p b) = suc (guard_count b)
guard_count (same x y b) = suc (guard_count b)
guard_count (different x y b) = suc (guard_count b)
guard_count (absent r e b) = suc (guard_count b)

unfoldable mutual
  unfolding leaf_words term_words term_row_words slot_words guard_count fresh

  pub expr_words : Expr → ℕ → List ℕ
  expr_words (leaf x) n = leaf_words x
  expr_words (union a b) n = 5 ∷ (expr_words a n ++ expr_words b n)
  expr_words (difference a b) n = 6 ∷ (expr_words a n ++ expr_words b n)
  expr_words (comprehension b) n = 7 ∷ guard_count b ∷ body_words b n

  pub body_words : Body → ℕ → List ℕ
  body_words (head r) n = term_row_words r
  body_words (draw e p b) n = 1 ∷ (expr_words e n ++ (length p ∷ (slot_words n p ++ body_words b (n + fresh p))))
  body_words (same x y b) n = 2 ∷ (term_words x ++ (term_words y ++ body_words b n))
  body_words (different x y b) n = 3 ∷ (term_words x ++ (term_words y ++ body_words b n))
  body_words (absent r e b) n = 4 ∷ (term_row_words r ++ (expr_words e n ++ body_words b n))
