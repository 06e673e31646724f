-- What stands at a place, taken apart: the words that it begins with, and what stands inside it.
use Prim.Native.Nat.{ℕ, ◌+◌, ◌-◌, ◌*◌, ◌≤◌, ◌<◌}
use mathlib.Core.Path.{◌≡◌, refl, sym, ap, subst, ◌∙◌}
use mathlib.Core.Logic.{◌⊎◌, inl, inr}
use mathlib.Core.Bool.{true, false}
use mathlib.Core.List.{List, [], ◌∷◌, ◌++◌, append_assoc, append-nil}
use native.Mathlib.Omega.{arith}
use lib.ListN.{length, drop, get_or, length-append, length-drop}
use lib.Seq.{drop-drop, drop-append_seam, get_or-drop}
use lib.Dec.{leb, eqb}
use borrow.Author.Tests.{leb-true, eqb-true, eqb-false}
use Rattle.rows.proofs.Case.{Case, is_true, is_false, split, and_true}
use Rattle.policy.specs.OwnKey.{Scope}
use Rattle.policy.specs.Leaf.{Leaf, leaf_code, leaf_words}
use Rattle.policy.specs.Syntax.{Term, atom, var, Slot, old, new, Expr, leaf, union, difference, comprehension, Body, head, draw, same, different, absent}
use Rattle.policy.specs.Words.{term_words, each, term_row_words, slot_words, fresh, guard_count, expr_words, body_words}
use Rattle.policy.specs.WellFormed.{FitSlots, Fit}
use Rattle.policy.specs.Decode.{Code, is_leaf, is_union, is_difference, is_comprehension, code_of, is_node}
use Rattle.policy.specs.Parse.{parse, parsed}
use Rattle.policy.proofs.LeafDecoding.{leaf_coded, no_node}
use Rattle.policy.proofs.Decoding.{parse_words, parse_fits}
use Rattle.policy.specs.Held.{term_is, Opening, draw_opens, absent_opens, same_opens, different_opens, guard_is, opens}
use Rattle.policy_places.specs.Places.{At, pattern_words, StandsRow, StandsPattern, StandsLeaf, Stands, StandsBody, StandsTwo, StandsDraw, StandsAbsent, SomeRow, SomePattern, IsGuard}
use Rattle.policy.specs.declared.Term as HeldTerm
use Rattle.policy.specs.declared.Guard as HeldGuard
use Rattle.policy.specs.declared.Guard.TheVariants.{Draw, Same, Different, Absent}

-- ---- words one after the other

module _ {ws : List ℕ} {at : ℕ} where
  pub at_skip : (u v : List ℕ) → At ws at (u ++ v) → At ws (at + length u) v
  at_skip u v h = record { rest = h.rest; spelled = sym (drop-drop (length u) at ws) ∙ ap (drop (length u)) (h.spelled ∙ append_assoc u v h.rest) ∙ drop-append_seam u (v ++ h.rest) }

  pub at_front : (u v : List ℕ) → At ws at (u ++ v) → At ws at u
  at_front u v h = record { rest = v ++ h.rest; spelled = h.spelled ∙ append_assoc u v h.rest }

  pub at_word : {x : ℕ} {v : List ℕ} → At ws at (x ∷ v) → get_or ws at 0 ≡ x
  at_word h =
      let e : at + 0 ≡ at = omega arith in
      ap (λ (k : ℕ). get_or ws k 0) (sym e) ∙ sym (get_or-drop at ws 0 0) ∙ ap (λ (l : List ℕ). get_or l 0 0) h.spelled

  pub at_next : {x : ℕ} {v : List ℕ} → At ws at (x ∷ v) → At ws (at + 1) v
  at_next {x} {v} h = at_skip (x ∷ []) v h

  pub at_long : {u : List ℕ} → 0 < length u → At ws at u → at + length u ≤ length ws
  at_long {u} p h = omega (arith, ap length h.spelled, length-drop at ws, length-append u h.rest)

-- ---- lengths

pub term_length : (t : Term) → length (term_words t) ≡ 2
unfolding term_words
term_length (atom a) = refl
term_length (var i) = refl

terms_length : (ts : List Term) → length (each term_words ts) ≡ 2 * length ts
unfolding each
terms_length [] = refl
terms_length (t ∷ ts) = omega (arith, length-append (term_words t) (each term_words ts), term_length t, terms_length ts)

pub row_length : (ts : List Term) → length (term_row_words ts) ≡ 1 + 2 * length ts
unfolding term_row_words
row_length ts = omega (arith, terms_length ts)

pub slots_length : (n : ℕ) (p : List Slot) → length (slot_words n p) ≡ 2 * length p
unfolding slot_words
slots_length n [] = refl
slots_length n (old t ∷ p) = omega (arith, length-append (term_words t) (slot_words n p), term_length t, slots_length n p)
slots_length n (new ∷ p) = omega (arith, slots_length (n + 1) p)

pub expr_some : (e : Expr) (n : ℕ) → 0 < length (expr_words e n)
unfolding expr_words leaf_words
expr_some (leaf x) n = omega arith
expr_some (union a b) n = omega arith
expr_some (difference a b) n = omega arith
expr_some (comprehension b) n = omega arith

pub body_some : (b : Body) (n : ℕ) → 0 < length (body_words b n)
unfolding expr_words term_row_words
body_some (head r) n = omega arith
body_some (draw e p b) n = omega arith
body_some (same x y b) n = omega arith
body_some (different x y b) n = omega arith
body_some (absent r e b) n = omega arith

-- ---- an expression by its code

unfoldable expr_code : Expr → ℕ
expr_code (leaf x) = leaf_code x
expr_code (union a b) = 5
expr_code (difference a b) = 6
expr_code (comprehension b) = 7

code_at : {ws : List ℕ} {at : ℕ} (n : ℕ) (e : Expr) → At ws at (expr_words e n) → get_or ws at 0 ≡ expr_code e
unfolding expr_words leaf_words expr_code
code_at n (leaf x) h = at_word h
code_at n (union a b) h = at_word h
code_at n (difference a b) h = at_word h
code_at n (comprehension b) h = at_word h

-- P of an expression with this code
unfoldable ForCode : (Expr → Type 0) → Code → Type 0
ForCode P (is_leaf l) = (x : Leaf) → P (leaf x)
ForCode P is_union = (a b : Expr) → P (union a b)
ForCode P is_difference = (a b : Expr) → P (difference a b)
ForCode P is_comprehension = (b : Body) → P (comprehension b)

by_code : (P : Expr → Type 0) (e : Expr) → ForCode P (code_of (expr_code e)) → P e
unfolding ForCode expr_code code_of
by_code P (leaf x) g = subst (ForCode P) (leaf_coded x) g x
by_code P (union a b) g = g a b
by_code P (difference a b) g = g a b
by_code P (comprehension b) g = g b

-- a node's code that is not a comprehension's is a union's or a difference's
pub union_or_difference : (c : ℕ) → is_node c ≡ true → (c ≡ 7 → ⊥) → (c ≡ 5) ⊎ (c ≡ 6)
unfolding is_node
union_or_difference c e z = let h = and_true (leb 5 c) (leb c 7) e in go (split (eqb c 5)) (leb-true 5 c h.0) (leb-true c 7 h.1)
  where
    go : Case (eqb c 5) → 5 ≤ c → c ≤ 7 → (c ≡ 5) ⊎ (c ≡ 6)
    go (is_true f) l k = inl (eqb-true c 5 f)
    go (is_false f) l k = let n = eqb-false c 5 f in inr (omega arith)

module _ {scope : Scope} {n : ℕ} {ws : List ℕ} {at : ℕ} {e : Expr} (P : Expr → Type 0) (s : Stands scope n ws at e) where
  on_code : (c : ℕ) → get_or ws at 0 ≡ c → ForCode P (code_of c) → P e
  on_code c h g = by_code P e (subst (λ (k : ℕ). ForCode P (code_of k)) (sym h ∙ code_at n e s.words) g)

  pub on_leaf : is_node (get_or ws at 0) ≡ false → ((x : Leaf) → P (leaf x)) → P e
  unfolding ForCode
  on_leaf h g = on_code (get_or ws at 0) refl (subst (ForCode P) (sym (no_node (get_or ws at 0) h)) g)

  pub on_union : get_or ws at 0 ≡ 5 → ((a b : Expr) → P (union a b)) → P e
  unfolding ForCode code_of
  on_union h g = on_code 5 h g

  pub on_difference : get_or ws at 0 ≡ 6 → ((a b : Expr) → P (difference a b)) → P e
  unfolding ForCode code_of
  on_difference h g = on_code 6 h g

  pub on_comprehension : get_or ws at 0 ≡ 7 → ((b : Body) → P (comprehension b)) → P e
  unfolding ForCode code_of
  on_comprehension h g = on_code 7 h g

-- ---- what stands inside an expression

pub record InComprehension (scope : Scope) (n : ℕ) (ws : List ℕ) (at : ℕ) (b : Body) : Type 0 where
  pub body : StandsBody scope n ws (at + 2) (get_or ws (at + 1) 0) b
  pub inside : at + 2 < length ws

module _ {scope : Scope} {n : ℕ} {ws : List ℕ} {at : ℕ} where
  pub in_leaf : {x : Leaf} → Stands scope n ws at (leaf x) → StandsLeaf scope n ws at x
  unfolding Fit expr_words
  in_leaf s = record { words = s.words; fit = s.fit }

  pub in_union : {a b : Expr} → Stands scope n ws at (union a b) → StandsTwo scope n ws (at + 1) a b
  unfolding Fit expr_words
  in_union {a} {b} s =
      let h = at_next s.words in
      record { left = record { words = at_front (expr_words a n) (expr_words b n) h; fit = s.fit.0 }; right = record { words = at_skip (expr_words a n) (expr_words b n) h; fit = s.fit.1 } }

  pub in_difference : {a b : Expr} → Stands scope n ws at (difference a b) → StandsTwo scope n ws (at + 1) a b
  unfolding Fit expr_words
  in_difference {a} {b} s =
      let h = at_next s.words in
      record { left = record { words = at_front (expr_words a n) (expr_words b n) h; fit = s.fit.0 }; right = record { words = at_skip (expr_words a n) (expr_words b n) h; fit = s.fit.1 } }

  pub in_comprehension : {b : Body} → Stands scope n ws at (comprehension b) → InComprehension scope n ws at b
  unfolding Fit expr_words
  in_comprehension {b} s =
      let h = at_next s.words in
      let g : At ws (at + 2) (body_words b n) = at_skip (7 ∷ guard_count b ∷ []) (body_words b n) s.words in
      let l = at_long (body_some b n) g in
      record { body = record { words = g; fit = s.fit.1; count = sym (at_word h) }; inside = omega (arith, body_some b n) }

-- ---- what stands inside a body

-- two terms after a word
pub record TwoTerms (ws : List ℕ) (at : ℕ) (x y : Term) (rest : List ℕ) : Type 0 where
  pub first : At ws (at + 1) (term_words x)
  pub second : At ws (at + 3) (term_words y)
  pub past : At ws (at + 5) rest
  pub inside : at + 5 ≤ length ws

pub two_terms : {ws : List ℕ} {at : ℕ} (c : ℕ) (x y : Term) (rest : List ℕ) → At ws at (c ∷ (term_words x ++ (term_words y ++ rest))) → TwoTerms ws at x y rest
two_terms {ws} {at} c x y rest h =
    let i = at_next h in
    let lx = term_length x in
    let ly = term_length y in
    let e : at + 1 + length (term_words x) ≡ at + 3 = omega arith in
    let j : At ws (at + 3) (term_words y ++ rest) = subst (λ (k : ℕ). At ws k (term_words y ++ rest)) e (at_skip (term_words x) (term_words y ++ rest) i) in
    let f : at + 3 + length (term_words y) ≡ at + 5 = omega arith in
    let la = length-append (term_words x) (term_words y ++ rest) in
    let lb = length-append (term_words y) rest in
    record {
      first = at_front (term_words x) (term_words y ++ rest) i;
      second = at_front (term_words y) rest j;
      past = subst (λ (k : ℕ). At ws k rest) f (at_skip (term_words y) rest j);
      inside = omega (arith, at_long (omega arith) h);
    }

module _ {scope : Scope} {n : ℕ} {ws : List ℕ} {at left : ℕ} where
  pub in_head : {ts : List Term} → StandsBody scope n ws at left (head ts) → StandsRow n ws at ts
  unfolding Fit expr_words
  in_head s = record { words = s.words; fit = s.fit }

  pub in_draw : {e : Expr} {p : List Slot} {b : Body} → StandsBody scope n ws at left (draw e p b) → StandsDraw scope n ws (at + 1) (left - 1) e p b
  unfolding Fit expr_words guard_count
  in_draw {e} {p} {b} s =
      let h = at_next s.words in
      let tail : List ℕ = pattern_words n p ++ body_words b (n + fresh p) in
      let g = at_skip (expr_words e n) tail h in
      let count : guard_count b ≡ left - 1 = omega (arith, s.count) in
      record {
        operand = record { words = at_front (expr_words e n) tail h; fit = s.fit.0 };
        pattern = record { words = at_front (pattern_words n p) (body_words b (n + fresh p)) g; fit = s.fit.1 };
        rest = record { words = at_skip (pattern_words n p) (body_words b (n + fresh p)) g; fit = s.fit.2; count = count };
      }

  pub in_same : {x y : Term} {b : Body} → StandsBody scope n ws at left (same x y b) → StandsBody scope n ws (at + 5) (left - 1) b
  unfolding Fit expr_words guard_count
  in_same {x} {y} {b} s = record { words = (two_terms 2 x y (body_words b n) s.words).past; fit = s.fit.2; count = omega (arith, s.count) }

  pub in_different : {x y : Term} {b : Body} → StandsBody scope n ws at left (different x y b) → StandsBody scope n ws (at + 5) (left - 1) b
  unfolding Fit expr_words guard_count
  in_different {x} {y} {b} s = record { words = (two_terms 3 x y (body_words b n) s.words).past; fit = s.fit.2; count = omega (arith, s.count) }

  pub in_absent : {r : List Term} {e : Expr} {b : Body} → StandsBody scope n ws at left (absent r e b) → StandsAbsent scope n ws (at + 1) (left - 1) r e b
  unfolding Fit expr_words guard_count
  in_absent {r} {e} {b} s =
      let h = at_next s.words in
      let tail : List ℕ = expr_words e n ++ body_words b n in
      let g = at_skip (term_row_words r) tail h in
      let count : guard_count b ≡ left - 1 = omega (arith, s.count) in
      record {
        row = record { words = at_front (term_row_words r) tail h; fit = s.fit.0 };
        operand = record { words = at_front (expr_words e n) (body_words b n) g; fit = s.fit.1 };
        rest = record { words = at_skip (expr_words e n) (body_words b n) g; fit = s.fit.2; count = count };
      }

-- ---- a body by its first guard

-- P of a body that opens so
unfoldable Begun : (Body → Type 0) → Opening → Type 0
Begun P draw_opens = (e : Expr) (p : List Slot) (b : Body) → P (draw e p b)
Begun P (same_opens u v) = (b : Body) → P (same u v b)
Begun P (different_opens u v) = (b : Body) → P (different u v b)
Begun P absent_opens = (r : List Term) (e : Expr) (b : Body) → P (absent r e b)

by_opening : (P : Body → Type 0) (b : Body) → 1 ≤ guard_count b → Begun P (opens b) → P b
unfolding Begun opens guard_count
by_opening P (head r) z g = absurd (omega arith)
by_opening P (draw e p b) z g = g e p b
by_opening P (same x y b) z g = g b
by_opening P (different x y b) z g = g b
by_opening P (absent r e b) z g = g r e b

module _ {scope : Scope} {n : ℕ} {ws : List ℕ} {at left : ℕ} {b : Body} (P : Body → Type 0) (s : StandsBody scope n ws at left b) where
  pub on_head : left ≡ 0 → ((ts : List Term) → P (head ts)) → P b
  unfolding guard_count
  on_head z g = go b (s.count ∙ z)
    where
      go : (c : Body) → guard_count c ≡ 0 → P c
      go (head ts) h = g ts
      go (draw e p c) h = absurd (omega arith)
      go (same x y c) h = absurd (omega arith)
      go (different x y c) h = absurd (omega arith)
      go (absent r e c) h = absurd (omega arith)

  module _ (z : left ≡ 0 → ⊥) where
    some : 1 ≤ guard_count b
    some = let c = s.count in let h : (guard_count b ≡ 0 → ⊥) = λ e. z (sym c ∙ e) in omega arith

    on_guard : (held : HeldGuard.Guard) → IsGuard ws at held → Begun P (guard_is held) → P b
    on_guard held i g = by_opening P b some (subst (Begun P) (i.is n b some s.words) g)

    pub on_draw : IsGuard ws at Draw → ((e : Expr) (p : List Slot) (c : Body) → P (draw e p c)) → P b
    unfolding Begun guard_is
    on_draw i g = on_guard Draw i g

    pub on_same : (x y : HeldTerm.Term) → IsGuard ws at (Same x y) → ((c : Body) → P (same (term_is x) (term_is y) c)) → P b
    unfolding Begun guard_is
    on_same x y i g = on_guard (Same x y) i g

    pub on_different : (x y : HeldTerm.Term) → IsGuard ws at (Different x y) → ((c : Body) → P (different (term_is x) (term_is y) c)) → P b
    unfolding Begun guard_is
    on_different x y i g = on_guard (Different x y) i g

    pub on_absent : IsGuard ws at Absent → ((r : List Term) (e : Expr) (c : Body) → P (absent r e c)) → P b
    unfolding Begun guard_is
    on_absent i g = on_guard Absent i g

-- ---- inside the words

pub inside : {scope : Scope} {n : ℕ} {ws : List ℕ} {at : ℕ} {e : Expr} → Stands scope n ws at e → at < length ws
inside {n} {e} s = omega (arith, expr_some e n, at_long (expr_some e n) s.words)

pub inside_body : {scope : Scope} {n : ℕ} {ws : List ℕ} {at left : ℕ} {b : Body} → StandsBody scope n ws at left b → at < length ws
inside_body {n} {b} s = omega (arith, body_some b n, at_long (body_some b n) s.words)

-- a row's and a pattern's width is its first word
pub record Wide (ws : List ℕ) (at w : ℕ) : Type 0 where
  pub width : get_or ws at 0 ≡ w
  pub some : 1 ≤ w
  pub few : w ≤ 4
  pub inside : at + 1 + 2 * w ≤ length ws

pub row_wide : {n : ℕ} {ws : List ℕ} {at : ℕ} {ts : List Term} → StandsRow n ws at ts → Wide ws at (length ts)
unfolding term_row_words
row_wide {ts} s = record { width = at_word s.words; some = s.fit.some; few = s.fit.few; inside = omega (arith, terms_length ts, at_long (omega arith) s.words) }

pub pattern_wide : {n : ℕ} {ws : List ℕ} {at : ℕ} {p : List Slot} → StandsPattern n ws at p → Wide ws at (length p)
pattern_wide {n} {p} s = record { width = at_word s.words; some = s.fit.some; few = s.fit.few; inside = omega (arith, slots_length n p, at_long (omega arith) s.words) }

-- the width that stands there, as the code meets it
pub record WidthHere (ws : List ℕ) (at : ℕ) : Type 0 where
  pub some : 1 ≤ get_or ws at 0
  pub few : get_or ws at 0 ≤ 4
  pub inside : at + 1 + 2 * get_or ws at 0 ≤ length ws

width_here : {ws : List ℕ} {at w : ℕ} → Wide ws at w → WidthHere ws at
width_here x = let e = x.width in record { some = omega (arith, x.some); few = omega (arith, x.few); inside = omega (arith, x.inside) }

pub row_width : {ws : List ℕ} {at : ℕ} → SomeRow ws at → WidthHere ws at
row_width s = width_here (row_wide s.here)

pub pattern_width : {n : ℕ} {ws : List ℕ} {at : ℕ} → SomePattern n ws at → WidthHere ws at
pattern_width s = width_here (pattern_wide s.here)

-- a pattern's new variables are at most 16 with those in scope
pub slots_scope : (n : ℕ) (p : List Slot) → n ≤ 16 → FitSlots n p → n + fresh p ≤ 16
unfolding FitSlots fresh
slots_scope n [] h f = omega arith
slots_scope n (old t ∷ p) h f = slots_scope n p h f.1
slots_scope n (new ∷ p) h f = let g = slots_scope (n + 1) p (omega (arith, f.0)) f.1 in omega arith

-- a whole definition or query stands at its first word
pub whole_here : (scope : Scope) (ws : List ℕ) (e : Expr) → parse scope ws ≡ parsed e → Stands scope 0 ws 0 e
whole_here scope ws e h = record { words = record { rest = []; spelled = parse_words scope ws e h ∙ sym (append-nil (expr_words e 0)) }; fit = (parse_fits scope ws e h).fit }
