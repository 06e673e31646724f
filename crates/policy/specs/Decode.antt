-- Document 01, "Expressions, in prefix order" and the refusal table: from words to expressions, with refusals 3, 4 and 5 "at the first word in order".
-- A reader takes words off the front; its state is the words left and the count of draws met so far. At each word 3 is tested, then 4, then 5.
use Rattle.std.specs.Prelude.{ℕ, zero, suc, ◌+◌, Bool, true, false, ◌&&◌, List, [], ◌∷◌, leb, ltb, eqb}
use Rattle.refusals.specs.RefusalTable.{bad_word, not_in_scope, too_deep}
use Rattle.policy.specs.OwnKey.{Scope}
use Rattle.policy.specs.Leaf.{LeafCode, leaf_of, some_leaf, leaf_as}
pub use Rattle.policy.specs.Readers.{Read, got, refused, Reader, after, ◌>>=◌, ◌>>◌, give, refuse, need, word, Tag, is_atom, is_var, is_new, no_tag}
unfoldable pub use Rattle.policy.specs.Readers.{word_where, times, polarity, tag_of, term_as, any_atom, term, issuer, width, row, rows}
use Rattle.policy.specs.Syntax.{Slot, old, new, Expr, leaf, union, difference, comprehension, Body, head, draw, same, different, absent}

-- "At most eight draws stand in one whole definition or query, counted where their guards begin."
unfoldable pub count_draw : Reader (Unit {0})
count_draw = λ ws k. elim (ltb k 8) [ true ↦ got tt ws (k + 1) | false ↦ refused too_deep ]

-- a pattern's slots, and the count of variables in scope after them
abbrev pub Pattern : Type 0
Pattern = List Slot × ℕ

unfoldable pub push_slot : Slot → Pattern → Pattern
push_slot s p = (s ∷ p.0, p.1)

-- a slot whose tag is read, and those after it
unfoldable pub slot_as : ℕ → (ℕ → Reader Pattern) → Tag → Reader Pattern
unfolding term_as any_atom word_where push_slot
slot_as n rest is_atom = do
  t ← term_as any_atom n is_atom
  p ← rest n
  give (push_slot (old t) p)
slot_as n rest is_var = do
  t ← term_as any_atom n is_var
  p ← rest n
  give (push_slot (old t) p)
slot_as n rest is_new = do
  v ← word_where not_in_scope (λ v. eqb v n && leb v 15)
  p ← rest (n + 1)
  give (push_slot new p)
slot_as n rest no_tag = refuse bad_word

unfoldable pub slots : ℕ → ℕ → Reader Pattern
unfolding slot_as tag_of
slots zero n = give ([], n)
slots (suc w) n = do
  t ← word
  slot_as n (λ m. slots w m) (tag_of t)

pub data Guard : Type 0 where
  is_draw is_same is_different is_absent no_guard : Guard

unfoldable pub guard_of : ℕ → Guard
guard_of zero = no_guard
guard_of (suc zero) = is_draw
guard_of (suc (suc zero)) = is_same
guard_of (suc (suc (suc zero))) = is_different
guard_of (suc (suc (suc (suc zero)))) = is_absent
guard_of (suc (suc (suc (suc (suc n))))) = no_guard

-- a guard whose code is read, and what follows it; `inner n` reads an expression one deeper, n variables being in scope
unfoldable pub guard_as : (ℕ → Reader Expr) → ℕ → (ℕ → Reader Body) → Guard → Reader Body
unfolding count_draw width slots term row
guard_as inner n rest is_draw = do
  count_draw
  e ← inner n
  w ← width
  p ← slots w n
  b ← rest p.1
  give (draw e p.0 b)
guard_as inner n rest is_same = do
  x ← term n
  y ← term n
  b ← rest n
  give (same x y b)
guard_as inner n rest is_different = do
  x ← term n
  y ← term n
  b ← rest n
  give (different x y b)
guard_as inner n rest is_absent = do
  r ← row n
  e ← inner n
  b ← rest n
  give (absent r e b)
guard_as inner n rest no_guard = refuse bad_word

-- so many guards, then the head
unfoldable pub body : (ℕ → Reader Expr) → ℕ → ℕ → Reader Body
unfolding row guard_as guard_of
body inner zero n = do
  r ← row n
  give (head r)
body inner (suc c) n = do
  t ← word
  guard_as inner n (λ m. body inner c m) (guard_of t)

-- 5, 6 and 7 hold expressions; any other code is a leaf's, or none
pub data Code : Type 0 where
  is_leaf : LeafCode → Code
  is_union is_difference is_comprehension : Code

unfoldable pub code_of : ℕ → Code
unfolding leaf_of
code_of zero = is_leaf (leaf_of 0)
code_of (suc zero) = is_leaf (leaf_of 1)
code_of (suc (suc zero)) = is_leaf (leaf_of 2)
code_of (suc (suc (suc zero))) = is_leaf (leaf_of 3)
code_of (suc (suc (suc (suc zero)))) = is_leaf (leaf_of 4)
code_of (suc (suc (suc (suc (suc zero))))) = is_union
code_of (suc (suc (suc (suc (suc (suc zero)))))) = is_difference
code_of (suc (suc (suc (suc (suc (suc (suc zero))))))) = is_comprehension
code_of (suc (suc (suc (suc (suc (suc (suc (suc n)))))))) = is_leaf (leaf_of (suc (suc (suc (suc (suc (suc (suc (suc n)))))))))

-- whether the code is that of an expression that holds others, a node
unfoldable pub is_node : ℕ → Bool
is_node c = leb 5 c && leb c 7

-- a code at all
unfoldable pub some_code : Code → Bool
unfolding some_leaf
some_code (is_leaf l) = some_leaf l
some_code is_union = true
some_code is_difference = true
some_code is_comprehension = true

unfoldable pub is_code : ℕ → Bool
unfolding some_code code_of
is_code c = some_code (code_of c)

-- what follows a code that is read
unfoldable pub expr_as : Scope → (ℕ → Reader Expr) → ℕ → Code → Reader Expr
unfolding leaf_as word_where body
expr_as s inner n (is_leaf l) = do
  x ← leaf_as s n l
  give (leaf x)
expr_as s inner n is_union = do
  a ← inner n
  b ← inner n
  give (union a b)
expr_as s inner n is_difference = do
  a ← inner n
  b ← inner n
  give (difference a b)
expr_as s inner n is_comprehension = do
  c ← word_where bad_word (λ c. leb c 8)
  b ← body inner c n
  give (comprehension b)

-- an expression with so many levels of depth left; with none left it is refused "at its code word"
unfoldable pub expr : Scope → ℕ → ℕ → Reader Expr
unfolding word_where is_code expr_as code_of
expr s zero n = do
  c ← word_where bad_word is_code
  refuse too_deep
expr s (suc levels) n = do
  c ← word
  expr_as s (λ m. expr s levels m) n (code_of c)
