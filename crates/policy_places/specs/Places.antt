-- What stands in the words at a place, and the place after it.
use Rattle.std.specs.Prelude.{ℕ, ◌+◌, ◌≤◌, ◌≡◌, List, [], ◌∷◌, ◌++◌, length, drop}
use Rattle.rows.specs.Name.{Polarity, polarity_word}
use Rattle.policy.specs.OwnKey.{Scope, Origin, FitOrigin}
use Rattle.policy.specs.Leaf.{Leaf, leaf_words, FitLeaf}
use Rattle.policy.specs.Syntax.{Term, Slot, Expr, Body}
use Rattle.policy.specs.Words.{term_words, each, term_row_words, slot_words, fresh, guard_count, expr_words, body_words}
use Rattle.policy.specs.WellFormed.{FitRow, FitRows, FitPattern, Fit, FitBody}
use Rattle.policy.specs.Held.{term_is, slot_is, guard_is, opens}
use Rattle.policy.specs.declared.Term as HeldTerm
use Rattle.policy.specs.declared.Slot as HeldSlot
use Rattle.policy.specs.declared.Guard as HeldGuard

-- these words stand there
pub record At (ws : List ℕ) (at : ℕ) (u : List ℕ) : Type 0 where
  pub rest : List ℕ
  pub spelled : drop at ws ≡ u ++ rest

-- what follows code 1 or 2, and code 4; a pattern is laid out as a row is
abbrev pub literal_words : List (List Term) → List ℕ
literal_words rs = length rs ∷ each term_row_words rs

abbrev pub name_words : Term → ℕ → Polarity → List ℕ
name_words t m p = term_words t ++ (m ∷ polarity_word p ∷ [])

abbrev pub pattern_words : ℕ → List Slot → List ℕ
pattern_words n p = length p ∷ slot_words n p

-- ---- a checked row, literal, pattern, name, expression or body stands there: n variables are in scope

pub record StandsRow (n : ℕ) (ws : List ℕ) (at : ℕ) (ts : List Term) : Type 0 where
  pub words : At ws at (term_row_words ts)
  pub fit : FitRow n ts

pub record StandsRows (n : ℕ) (ws : List ℕ) (at : ℕ) (rs : List (List Term)) : Type 0 where
  pub words : At ws at (literal_words rs)
  pub fit : FitRows n rs

pub record StandsPattern (n : ℕ) (ws : List ℕ) (at : ℕ) (p : List Slot) : Type 0 where
  pub words : At ws at (pattern_words n p)
  pub fit : FitPattern n p

-- what follows code 4, and code 8: its rows come from o
pub record StandsName (scope : Scope) (ws : List ℕ) (at : ℕ) (t : Term) (m : ℕ) (p : Polarity) (o : Origin) : Type 0 where
  pub words : At ws at (name_words t m p)
  pub origin : FitOrigin scope t m p o

-- an expression that holds no other
pub record StandsLeaf (scope : Scope) (n : ℕ) (ws : List ℕ) (at : ℕ) (x : Leaf) : Type 0 where
  pub words : At ws at (leaf_words x)
  pub fit : FitLeaf scope n x

pub record Stands (scope : Scope) (n : ℕ) (ws : List ℕ) (at : ℕ) (e : Expr) : Type 0 where
  pub words : At ws at (expr_words e n)
  pub fit : Fit scope n e

-- a body with `left` guards
pub record StandsBody (scope : Scope) (n : ℕ) (ws : List ℕ) (at left : ℕ) (b : Body) : Type 0 where
  pub words : At ws at (body_words b n)
  pub fit : FitBody scope n b
  pub count : guard_count b ≡ left

-- what follows code 5 or 6, and the code of a draw or an absent guard
pub record StandsTwo (scope : Scope) (n : ℕ) (ws : List ℕ) (at : ℕ) (a b : Expr) : Type 0 where
  pub left : Stands scope n ws at a
  pub right : Stands scope n ws (at + length (expr_words a n)) b

pub record StandsDraw (scope : Scope) (n : ℕ) (ws : List ℕ) (at left : ℕ) (e : Expr) (p : List Slot) (b : Body) : Type 0 where
  pub operand : Stands scope n ws at e
  pub pattern : StandsPattern n ws (at + length (expr_words e n)) p
  pub rest : StandsBody scope (n + fresh p) ws (at + length (expr_words e n) + length (pattern_words n p)) left b

pub record StandsAbsent (scope : Scope) (n : ℕ) (ws : List ℕ) (at left : ℕ) (r : List Term) (e : Expr) (b : Body) : Type 0 where
  pub row : StandsRow n ws at r
  pub operand : Stands scope n ws (at + length (term_row_words r)) e
  pub rest : StandsBody scope n ws (at + length (term_row_words r) + length (expr_words e n)) left b

-- ---- one of them stands there, whichever it is

pub record SomeRow (ws : List ℕ) (at : ℕ) : Type 0 where
  pub n : ℕ
  pub ts : List Term
  pub here : StandsRow n ws at ts

pub record SomeRows (ws : List ℕ) (at : ℕ) : Type 0 where
  pub n : ℕ
  pub rs : List (List Term)
  pub here : StandsRows n ws at rs

pub record SomeName (ws : List ℕ) (at : ℕ) : Type 0 where
  pub t : Term
  pub m : ℕ
  pub p : Polarity
  pub words : At ws at (name_words t m p)

pub record SomePattern (n : ℕ) (ws : List ℕ) (at : ℕ) : Type 0 where
  pub p : List Slot
  pub here : StandsPattern n ws at p

pub record SomeLeaf (ws : List ℕ) (at : ℕ) : Type 0 where
  pub scope : Scope
  pub n : ℕ
  pub x : Leaf
  pub here : StandsLeaf scope n ws at x

pub record SomeExpr (ws : List ℕ) (at : ℕ) : Type 0 where
  pub scope : Scope
  pub n : ℕ
  pub e : Expr
  pub here : Stands scope n ws at e

pub record SomeBody (ws : List ℕ) (at left : ℕ) : Type 0 where
  pub scope : Scope
  pub n : ℕ
  pub b : Body
  pub here : StandsBody scope n ws at left b

-- a body with a guard left
pub record SomeGuard (ws : List ℕ) (at : ℕ) : Type 0 where
  pub n : ℕ
  pub b : Body
  pub some : 1 ≤ guard_count b
  pub words : At ws at (body_words b n)

-- ---- r is the place after it

pub record PastRow (ws : List ℕ) (at r : ℕ) : Type 0 where
  pub past : (n : ℕ) (ts : List Term) → StandsRow n ws at ts → r ≡ at + length (term_row_words ts)

pub record PastRows (ws : List ℕ) (at r : ℕ) : Type 0 where
  pub past : (n : ℕ) (rs : List (List Term)) → StandsRows n ws at rs → r ≡ at + length (literal_words rs)

pub record PastPattern (ws : List ℕ) (at r : ℕ) : Type 0 where
  pub past : (n : ℕ) (p : List Slot) → StandsPattern n ws at p → r ≡ at + length (pattern_words n p)

pub record PastLeaf (ws : List ℕ) (at r : ℕ) : Type 0 where
  pub past : (scope : Scope) (n : ℕ) (x : Leaf) → StandsLeaf scope n ws at x → r ≡ at + length (leaf_words x)

pub record PastExpr (ws : List ℕ) (at r : ℕ) : Type 0 where
  pub past : (scope : Scope) (n : ℕ) (e : Expr) → Stands scope n ws at e → r ≡ at + length (expr_words e n)

pub record PastBody (ws : List ℕ) (at left r : ℕ) : Type 0 where
  pub past : (scope : Scope) (n : ℕ) (b : Body) → StandsBody scope n ws at left b → r ≡ at + length (body_words b n)

-- ---- the term, slot or guard that stands there is the one held

pub record IsTerm (ws : List ℕ) (at : ℕ) (held : HeldTerm.Term) : Type 0 where
  pub is : (t : Term) → At ws at (term_words t) → term_is held ≡ t

pub record IsSlot (ws : List ℕ) (at : ℕ) (held : HeldSlot.Slot) : Type 0 where
  pub is : (n : ℕ) (s : Slot) (p : List Slot) → At ws at (slot_words n (s ∷ p)) → slot_is held ≡ s

pub record IsGuard (ws : List ℕ) (at : ℕ) (held : HeldGuard.Guard) : Type 0 where
  pub is : (n : ℕ) (b : Body) → 1 ≤ guard_count b → At ws at (body_words b n) → guard_is held ≡ opens b
