-- The decoder of leaves reads just the words of the leaves that keep their rules; and which words are codes at all.
use Prim.Native.Nat.{ℕ, zero, suc, ◌<◌}
use mathlib.Core.Path.{◌≡◌, refl, sym, subst}
use mathlib.Core.Bool.{Bool, true, false, ◌&&◌}
use mathlib.Core.List.{List, []}
use native.Mathlib.Omega.{arith}
use lib.Dec.{T, leb, ltb, eqb, ltb→lt, lt→ltb}
use borrow.Author.Tests.{le-leb, lt-leb, leb-true}
use Rattle.refusals.specs.RefusalTable.{bad_word, not_in_scope}
use Rattle.rows.specs.Name.{Polarity, plus, is_name, polarity_word}
use Rattle.rows.proofs.Case.{Case, is_true, is_false, split, T_eqb, iff_refl, never}
use Rattle.policy.specs.Terms.{Term}
use Rattle.policy.specs.OwnKey.{Scope, reach, Origin, origin_of, is_available, FitOrigin, origin}
use Rattle.policy.specs.Leaf.{Leaf, finite, cofinite, definition, listed, vetted, leaf_code, leaf_rest, FitLeaf, LeafCode, is_finite, is_cofinite, is_definition, is_listed, is_vetted, no_leaf, leaf_of, last_code, some_leaf, leaf_as}
use Rattle.policy.specs.Syntax.{Expr}
use Rattle.policy.specs.Decode.{refused, Reader, after, give, need, word_where, Code, is_leaf, is_union, is_difference, is_comprehension, code_of, is_node, some_code, is_code, expr_as}
use Rattle.policy.proofs.Basics.{impossible}
use Rattle.policy.proofs.Spelling.{Spelling, plain, one_word, Made, made, Takes, Returns, Reads, refuse_takes, give_takes, give_returns, then_takes, last_takes, then_returns, last_returns}
use Rattle.policy.proofs.Leaves.{where_reads, polarity_reads, issuer_reads, rows_reads}

-- the leaves whose code is w, n variables being in scope: the words after the code
abbrev pub leaves_of : Scope → ℕ → ℕ → Spelling Leaf
leaves_of s n w = plain leaf_rest (λ x. FitLeaf s n x × (leaf_code x ≡ w))

name_reads : Reads (word_where bad_word is_name) (one_word (λ m. T (is_name m)))
name_reads = where_reads bad_word is_name (λ m. iff_refl)

definition_reads : (known : ℕ) → Reads (word_where not_in_scope (λ d. ltb d known)) (one_word (λ d. d < known))
definition_reads known = where_reads not_in_scope (λ d. ltb d known) (λ d. (ltb→lt d known, lt→ltb d known))

plus_reads : Reads (word_where bad_word (λ w. eqb w 0)) (one_word (λ w. w ≡ 0))
plus_reads = where_reads bad_word (λ w. eqb w 0) (λ w. T_eqb w 0)

-- where a name's rows come from is in no word
abbrev origin_for : Scope → Term → ℕ → Polarity → Spelling Origin
origin_for s t m p = plain (λ o. []) (FitOrigin s t m p)

origin_reads : (s : Scope) (t : Term) (m : ℕ) (p : Polarity) → Reads (origin s t m p) (origin_for s t m p)
unfolding origin
origin_reads s t m p = record {
  takes = taking (is_available s (origin_of s t m p)) (λ f. record { is = refl; available = f });
  returns = λ o g. subst (λ (q : Origin). Returns (origin s t m p) q [] 0) (sym g.is) (returning (is_available s (origin_of s t m p)) (subst (λ (q : Origin). T (is_available s q)) g.is g.available));
}
  where
    taking : (b : Bool) → (T b → FitOrigin s t m p (origin_of s t m p)) → Takes (λ ws k. after (need not_in_scope b ws k) (λ u. give (origin_of s t m p))) (Made (origin_for s t m p))
    taking true f = give_takes _ (made (f tt))
    taking false f = refuse_takes not_in_scope

    returning : (b : Bool) → T b → Returns (λ ws k. after (need not_in_scope b ws k) (λ u. give (origin_of s t m p))) (origin_of s t m p) [] 0
    returning true f = give_returns _
    returning false f = elim f [ ]

pub leaf_as_reads : (s : Scope) (n w : ℕ) → Reads (leaf_as s n (leaf_of w)) (leaves_of s n w)
unfolding leaf_as leaf_of leaf_code leaf_rest FitLeaf polarity_word
leaf_as_reads s n w = record { takes = taking w; returns = λ x g. rw g.1 at (returning x g.0) }
  where
    taking : (w : ℕ) → Takes (leaf_as s n (leaf_of w)) (Made (leaves_of s n w))
    taking zero = refuse_takes bad_word
    taking (suc zero) = last_takes finite (rows_reads n) (λ rs g. made (g, refl))
    taking (suc (suc zero)) = last_takes cofinite (rows_reads n) (λ rs g. made (g, refl))
    taking (suc (suc (suc zero))) = last_takes definition (definition_reads (reach s)) (λ d g. made (g, refl))
    taking (suc (suc (suc (suc zero)))) = then_takes (issuer_reads n) (λ t f. then_takes name_reads (λ m g. then_takes polarity_reads (λ p h. last_takes (listed t m p) (origin_reads s t m p) (λ o i. made ((f, g, i), refl)))))
    taking (suc (suc (suc (suc (suc zero))))) = refuse_takes bad_word
    taking (suc (suc (suc (suc (suc (suc zero)))))) = refuse_takes bad_word
    taking (suc (suc (suc (suc (suc (suc (suc zero))))))) = refuse_takes bad_word
    taking (suc (suc (suc (suc (suc (suc (suc (suc zero)))))))) =
        then_takes (issuer_reads n) (λ t f. then_takes name_reads (λ m g. then_takes plus_reads (λ w e. then_takes (origin_reads s t m plus) (λ o i.
        last_takes (vetted t m o) (definition_reads (reach s)) (λ d h. rw e (made ((f, g, i, h), refl)))))))
    taking (suc (suc (suc (suc (suc (suc (suc (suc (suc w))))))))) = refuse_takes bad_word

    returning : (x : Leaf) → FitLeaf s n x → Returns (leaf_as s n (leaf_of (leaf_code x))) x (leaf_rest x) 0
    returning (finite rs) f = last_returns finite (rows_reads n) rs f
    returning (cofinite rs) f = last_returns cofinite (rows_reads n) rs f
    returning (definition d) f = last_returns definition (definition_reads (reach s)) d f
    returning (listed t m p o) f =
        then_returns _ (issuer_reads n) t f.0 (then_returns _ name_reads m f.1 (then_returns _ polarity_reads p tt (last_returns (listed t m p) (origin_reads s t m p) o f.2)))
    returning (vetted t m o d) f =
        then_returns _ (issuer_reads n) t f.0 (then_returns _ name_reads m f.1 (then_returns _ plus_reads 0 refl (then_returns _ (origin_reads s t m plus) o f.2
        (last_returns (vetted t m o) (definition_reads (reach s)) d f.3))))

-- a leaf's code is no node's
pub leaf_coded : (x : Leaf) → code_of (leaf_code x) ≡ is_leaf (leaf_of (leaf_code x))
unfolding code_of leaf_of leaf_code
leaf_coded (finite rs) = refl
leaf_coded (cofinite rs) = refl
leaf_coded (definition d) = refl
leaf_coded (listed t m p o) = refl
leaf_coded (vetted t m o d) = refl

-- a code that is no node's is a leaf's, or none
pub no_node : (c : ℕ) → is_node c ≡ false → code_of c ≡ is_leaf (leaf_of c)
unfolding is_node code_of
no_node zero e = refl
no_node (suc zero) e = refl
no_node (suc (suc zero)) e = refl
no_node (suc (suc (suc zero))) e = refl
no_node (suc (suc (suc (suc zero)))) e = refl
no_node (suc (suc (suc (suc (suc zero))))) e = never refl e
no_node (suc (suc (suc (suc (suc (suc zero)))))) e = never refl e
no_node (suc (suc (suc (suc (suc (suc (suc zero))))))) e = never refl e
no_node (suc (suc (suc (suc (suc (suc (suc (suc c)))))))) e = refl

-- the nodes are union, difference and comprehension
pub not_node : (c : ℕ) → (c ≡ 5 → ⊥) → (c ≡ 6 → ⊥) → (c ≡ 7 → ⊥) → is_node c ≡ false
unfolding is_node
not_node c u d p = go (split (leb 5 c))
  where
    go : Case (leb 5 c) → (leb 5 c && leb c 7) ≡ false
    go (is_true f) = let h = leb-true 5 c f in rw (f, lt-leb c 7 (omega arith))
    go (is_false f) = rw f

past_last : (c : ℕ) → last_code < c → false ≡ (leb 1 c && leb c last_code)
past_last c h = rw (le-leb 1 c (omega arith), lt-leb c last_code h)

-- the codes are those from 1 to the last
pub code_bounds : (c : ℕ) → is_code c ≡ (leb 1 c && leb c last_code)
unfolding is_code code_of leaf_of some_leaf
code_bounds zero = refl
code_bounds (suc zero) = refl
code_bounds (suc (suc zero)) = refl
code_bounds (suc (suc (suc zero))) = refl
code_bounds (suc (suc (suc (suc zero)))) = refl
code_bounds (suc (suc (suc (suc (suc zero))))) = refl
code_bounds (suc (suc (suc (suc (suc (suc zero)))))) = refl
code_bounds (suc (suc (suc (suc (suc (suc (suc zero))))))) = refl
code_bounds (suc (suc (suc (suc (suc (suc (suc (suc zero)))))))) = refl
code_bounds (suc (suc (suc (suc (suc (suc (suc (suc (suc c))))))))) = past_last (suc (suc (suc (suc (suc (suc (suc (suc (suc c))))))))) (omega arith)

-- any other is refused
module _ (s : Scope) (n : ℕ) (us : List ℕ) (k : ℕ) where
  no_leaf_lem : (l : LeafCode) → some_leaf l ≡ false → leaf_as s n l us k ≡ refused bad_word
  unfolding some_leaf leaf_as
  no_leaf_lem is_finite e = impossible cc
  no_leaf_lem is_cofinite e = impossible cc
  no_leaf_lem is_definition e = impossible cc
  no_leaf_lem is_listed e = impossible cc
  no_leaf_lem is_vetted e = impossible cc
  no_leaf_lem no_leaf e = refl

  pub no_code : (inner : ℕ → Reader Expr) (c : Code) → some_code c ≡ false → expr_as s inner n c us k ≡ refused bad_word
  unfolding some_code expr_as
  no_code inner (is_leaf l) e = rw (no_leaf_lem l e)
  no_code inner is_union e = impossible cc
  no_code inner is_difference e = impossible cc
  no_code inner is_comprehension e = impossible cc
