-- The place after a row, a pattern, an expression or a body.
use Prim.Native.Nat.{ℕ, ◌+◌, ◌-◌, ◌*◌, ◌≤◌, ◌<◌}
use mathlib.Core.Path.{◌≡◌, refl, sym, ap, subst, ◌∙◌}
use mathlib.Core.Logic.{inl, inr}
use mathlib.Core.Bool.{true, false}
use mathlib.Core.List.{List, [], ◌∷◌, ◌++◌}
use native.Mathlib.Omega.{arith}
use lib.ListN.{length, get_or, length-append}
use Rattle.rows.specs.Word.{All}
use Rattle.rows.proofs.Lists.{no_elements}
use Rattle.policy.specs.OwnKey.{Scope}
use Rattle.policy.specs.Syntax.{Term, Slot, Expr, union, difference, Body, head, draw, same, different, absent}
use Rattle.policy.specs.Words.{term_words, each, term_row_words, slot_words, fresh, guard_count, expr_words, body_words}
use Rattle.policy.specs.WellFormed.{FitRow}
use Rattle.policy.specs.Decode.{is_node}
use Rattle.policy_places.specs.Places.{At, pattern_words, StandsRow, StandsRows, StandsPattern, Stands, StandsBody, StandsTwo, StandsDraw, StandsAbsent, SomeRow, SomePattern, SomeLeaf, SomeExpr, SomeBody, PastRow, PastRows, PastPattern, PastLeaf, PastExpr, PastBody}
use Rattle.policy_places.proofs.Places.{at_word, at_next, at_skip, at_front, term_length, row_length, slots_length, row_wide, pattern_wide}
use Rattle.policy_places.proofs.Places.{union_or_difference, on_leaf, on_union, on_difference, on_comprehension, in_leaf, in_union, in_difference, in_comprehension, in_head, in_draw, in_same, in_different, in_absent, on_head, on_draw, on_absent}
use Rattle.policy_places.proofs.Held.{is_draw_lem, is_absent_lem}

-- ---- a row, a pattern

pub past_row : {ws : List ℕ} {at : ℕ} → PastRow ws at (at + 1 + 2 * get_or ws at 0)
past_row = record { past = λ n ts s. let w = (row_wide s).width in omega (arith, row_length ts) }

pub past_pattern : {ws : List ℕ} {at : ℕ} → PastPattern ws at (at + 1 + 2 * get_or ws at 0)
past_pattern = record { past = λ n p s. let w = (pattern_wide s).width in omega (arith, slots_length n p) }

-- ---- rows: `left` of them stand there

pub record RowsLeft (ws : List ℕ) (at left : ℕ) (n : ℕ) (rs : List (List Term)) : Type 0 where
  pub many : length rs ≡ left
  pub words : At ws at (each term_row_words rs)
  pub fit : All (FitRow n) rs

pub rows_inside : {n : ℕ} {ws : List ℕ} {at : ℕ} {rs : List (List Term)} → StandsRows n ws at rs → RowsLeft ws (at + 1) (get_or ws at 0) n rs
rows_inside s = record { many = sym (at_word s.words); words = at_next s.words; fit = s.fit.rows }

-- one row taken off the front
pub record RowsNext (ws : List ℕ) (at left n : ℕ) (rs : List (List Term)) : Type 0 where
  pub r : List Term
  pub others : List (List Term)
  pub is : rs ≡ r ∷ others
  pub row : StandsRow n ws at r
  pub rest : RowsLeft ws (at + length (term_row_words r)) (left - 1) n others

pub rows_next : {ws : List ℕ} {at left n : ℕ} {rs : List (List Term)} → 0 < left → RowsLeft ws at left n rs → RowsNext ws at left n rs
unfolding each All
rows_next {ws} {at} {left} {n} {rs} z s = go rs s
  where
    go : (rs : List (List Term)) → RowsLeft ws at left n rs → RowsNext ws at left n rs
    go [] s = absurd (omega (arith, s.many))
    go (r ∷ rs) s = record {
      r = r;
      others = rs;
      is = refl;
      row = record { words = at_front (term_row_words r) (each term_row_words rs) s.words; fit = s.fit.0 };
      rest = record { many = omega (arith, s.many); words = at_skip (term_row_words r) (each term_row_words rs) s.words; fit = s.fit.1 };
    }

pub rows_none : {ws : List ℕ} {at n : ℕ} {rs : List (List Term)} (left : ℕ) → left ≡ 0 → RowsLeft ws at left n rs → rs ≡ []
rows_none {rs} left z s = no_elements rs (s.many ∙ z)

-- i of the rows at `start` are passed: those left stand at `next`
pub record Passing (ws : List ℕ) (start count next i : ℕ) : Type 0 where
  pub within : i ≤ count
  pub n : ℕ
  pub rs : List (List Term)
  pub left : RowsLeft ws next (count - i) n rs
  pub goes : (r : ℕ) → ((n : ℕ) (rs : List (List Term)) → RowsLeft ws next (count - i) n rs → r ≡ next + length (each term_row_words rs)) →
      (n : ℕ) (rs : List (List Term)) → RowsLeft ws start count n rs → r ≡ start + length (each term_row_words rs)

module _ {ws : List ℕ} {start count next i : ℕ} (p : Passing ws start count next i) where
  pub pass_row : i < count → SomeRow ws next
  pass_row h = record { n = p.n; ts = _; here = (rows_next (omega arith) p.left).row }

  pub pass_next : {after : ℕ} → i < count → PastRow ws next after → Passing ws start count after (i + 1)
  unfolding each
  pass_next {after} h q =
      let e : count - i - 1 ≡ count - (i + 1) = omega arith in
      let on : (n : ℕ) (rs : List (List Term)) (x : RowsNext ws next (count - i) n rs) → RowsLeft ws after (count - (i + 1)) n x.others =
      λ n rs x. subst (λ (y : ℕ). RowsLeft ws after y n x.others) e (subst (λ (y : ℕ). RowsLeft ws y (count - i - 1) n x.others) (sym (q.past n x.r x.row)) x.rest) in
      let w = rows_next (omega arith) p.left in
      record {
        within = omega arith;
        n = p.n;
        rs = w.others;
        left = on p.n p.rs w;
        goes = λ r g. p.goes r (λ n rs s.
            let x = rows_next (omega arith) s in
            let a = q.past n x.r x.row in
            let b = g n x.others (on n rs x) in
            let c = length-append (term_row_words x.r) (each term_row_words x.others) in
            let d = ap (λ (y : List (List Term)). length (each term_row_words y)) x.is in
            omega arith);
      }

pub pass_end : {ws : List ℕ} {at next i : ℕ} → Passing ws (at + 1) (get_or ws at 0) next i → get_or ws at 0 ≤ i → PastRows ws at next
unfolding each
pass_end {ws} {at} {next} {i} p h = record {
  past = λ n rs s.
      let e = p.goes next (λ m ts l. let d = ap (λ (y : List (List Term)). length (each term_row_words y)) (rows_none (get_or ws at 0 - i) (omega arith) l) in omega arith) n rs (rows_inside s) in
      omega arith;
}

-- ---- what stands behind an expression or a row whose end is known

module _ {scope : Scope} {n : ℕ} {ws : List ℕ} {place : ℕ} where
  pub right_here : {a b : Expr} {second : ℕ} → PastExpr ws place second → StandsTwo scope n ws place a b → Stands scope n ws second b
  right_here {a} {b} past t = subst (λ (x : ℕ). Stands scope n ws x b) (sym (past.past scope n a t.left)) t.right

  pub both_past : {a b : Expr} {second r : ℕ} → PastExpr ws place second → PastExpr ws second r → StandsTwo scope n ws place a b → r ≡ place + length (expr_words a n ++ expr_words b n)
  both_past {a} {b} past next t =
      let q = past.past scope n a t.left in
      let v = next.past scope n b (right_here past t) in
      omega (arith, length-append (expr_words a n) (expr_words b n))

  module _ {left : ℕ} {e : Expr} {p : List Slot} {c : Body} {pattern : ℕ} (past : PastExpr ws place pattern) (t : StandsDraw scope n ws place left e p c) where
    pub pattern_here : StandsPattern n ws pattern p
    pattern_here = subst (λ (x : ℕ). StandsPattern n ws x p) (sym (past.past scope n e t.operand)) t.pattern

    module _ {rest : ℕ} (next : PastPattern ws pattern rest) where
      pub rest_is : rest ≡ place + length (expr_words e n) + length (pattern_words n p)
      rest_is = let a = past.past scope n e t.operand in let b = next.past n p pattern_here in omega arith

      pub rest_here : StandsBody scope (n + fresh p) ws rest left c
      rest_here = subst (λ (x : ℕ). StandsBody scope (n + fresh p) ws x left c) (sym rest_is) t.rest

  module _ {left : ℕ} {r : List Term} {e : Expr} {c : Body} {inner : ℕ} (past : PastRow ws place inner) (t : StandsAbsent scope n ws place left r e c) where
    pub operand_here : Stands scope n ws inner e
    operand_here = subst (λ (x : ℕ). Stands scope n ws x e) (sym (past.past n r t.row)) t.operand

    module _ {rest : ℕ} (next : PastExpr ws inner rest) where
      pub over_is : rest ≡ place + length (term_row_words r) + length (expr_words e n)
      over_is = let a = past.past n r t.row in let b = next.past scope n e operand_here in omega arith

      pub over_here : StandsBody scope n ws rest left c
      over_here = subst (λ (x : ℕ). StandsBody scope n ws x left c) (sym over_is) t.rest

-- ---- an expression

test_length : (x y : Term) (v : List ℕ) → length (term_words x ++ (term_words y ++ v)) ≡ 4 + length v
test_length x y v = omega (arith, length-append (term_words x) (term_words y ++ v), length-append (term_words y) v, term_length x, term_length y)

on_two : {scope : Scope} {n : ℕ} {ws : List ℕ} {at : ℕ} {e : Expr} (P : Expr → Type 0) → Stands scope n ws at e → is_node (get_or ws at 0) ≡ true → (get_or ws at 0 ≡ 7 → ⊥) →
    ((a b : Expr) → P (union a b)) → ((a b : Expr) → P (difference a b)) → P e
on_two {ws} {at} P s h k f g = elim (union_or_difference (get_or ws at 0) h k) [ inl c ↦ on_union P s c f | inr c ↦ on_difference P s c g ]

module _ {ws : List ℕ} {at : ℕ} where
  -- a leaf
  pub some_leaf_lem : SomeExpr ws at → is_node (get_or ws at 0) ≡ false → SomeLeaf ws at
  some_leaf_lem x c = on_leaf (λ e. Stands x.scope x.n ws at e → SomeLeaf ws at) x.here c (λ y s. record { scope = x.scope; n = x.n; x = y; here = in_leaf s }) x.here

  pub past_leaf : {r : ℕ} → is_node (get_or ws at 0) ≡ false → PastLeaf ws at r → PastExpr ws at r
  unfolding expr_words
  past_leaf {r} c g = record { past = λ scope n e s. on_leaf (λ x. Stands scope n ws at x → r ≡ at + length (expr_words x n)) s c (λ x h. g.past scope n x (in_leaf h)) s }

  -- codes 5 and 6
  pub some_first : SomeExpr ws at → is_node (get_or ws at 0) ≡ true → (get_or ws at 0 ≡ 7 → ⊥) → SomeExpr ws (at + 1)
  some_first x l h =
      on_two (λ e. Stands x.scope x.n ws at e → SomeExpr ws (at + 1)) x.here l h
      (λ a b s. record { scope = x.scope; n = x.n; e = a; here = (in_union s).left }) (λ a b s. record { scope = x.scope; n = x.n; e = a; here = (in_difference s).left }) x.here

  module _ {second : ℕ} (past : PastExpr ws (at + 1) second) where
    pub some_second : SomeExpr ws at → is_node (get_or ws at 0) ≡ true → (get_or ws at 0 ≡ 7 → ⊥) → SomeExpr ws second
    some_second x l h =
        on_two (λ e. Stands x.scope x.n ws at e → SomeExpr ws second) x.here l h
        (λ a b s. record { scope = x.scope; n = x.n; e = b; here = right_here past (in_union s) }) (λ a b s. record { scope = x.scope; n = x.n; e = b; here = right_here past (in_difference s) }) x.here

    pub second_after : SomeExpr ws at → is_node (get_or ws at 0) ≡ true → (get_or ws at 0 ≡ 7 → ⊥) → at < second
    second_after x l h =
        on_two (λ e. Stands x.scope x.n ws at e → at < second) x.here l h
        (λ a b s. let q = past.past x.scope x.n a (in_union s).left in omega arith) (λ a b s. let q = past.past x.scope x.n a (in_difference s).left in omega arith) x.here

    pub past_two : {r : ℕ} → is_node (get_or ws at 0) ≡ true → (get_or ws at 0 ≡ 7 → ⊥) → PastExpr ws second r → PastExpr ws at r
    unfolding expr_words
    past_two {r} l h g = record {
      past = λ scope n e s.
          on_two (λ x. Stands scope n ws at x → r ≡ at + length (expr_words x n)) s l h
          (λ a b t. let q = both_past past g (in_union t) in omega arith) (λ a b t. let q = both_past past g (in_difference t) in omega arith) s;
    }

  -- code 7
  pub some_body : SomeExpr ws at → get_or ws at 0 ≡ 7 → SomeBody ws (at + 2) (get_or ws (at + 1) 0)
  some_body x h =
      on_comprehension (λ e. Stands x.scope x.n ws at e → SomeBody ws (at + 2) (get_or ws (at + 1) 0)) x.here h
      (λ b s. record { scope = x.scope; n = x.n; b = b; here = (in_comprehension s).body }) x.here

  pub past_body : {r : ℕ} → get_or ws at 0 ≡ 7 → PastBody ws (at + 2) (get_or ws (at + 1) 0) r → PastExpr ws at r
  unfolding expr_words
  past_body {r} h g = record {
    past = λ scope n e s.
        on_comprehension (λ x. Stands scope n ws at x → r ≡ at + length (expr_words x n)) s h
        (λ b t. let q = g.past scope n b (in_comprehension t).body in omega arith) s;
  }

-- ---- guards

-- a guard that is neither a draw nor absent compares two terms
pub on_test : {scope : Scope} {n : ℕ} {ws : List ℕ} {at left : ℕ} {b : Body} (P : Body → Type 0) → StandsBody scope n ws at left b → (left ≡ 0 → ⊥) → (get_or ws at 0 ≡ 1 → ⊥) → (get_or ws at 0 ≡ 4 → ⊥) →
    ((x y : Term) (c : Body) → P (same x y c)) → ((x y : Term) (c : Body) → P (different x y c)) → P b
unfolding expr_words guard_count
on_test {n} {ws} {at} {left} {b} P s z t u f g = go b s.count s.words
  where
    go : (b : Body) → guard_count b ≡ left → At ws at (body_words b n) → P b
    go (head r) c h = absurd (z (sym c))
    go (draw e p b) c h = absurd (t (at_word h))
    go (same x y b) c h = f x y b
    go (different x y b) c h = g x y b
    go (absent r e b) c h = absurd (u (at_word h))

module _ {ws : List ℕ} {at left : ℕ} where
  pub some_head : SomeBody ws at left → left ≡ 0 → SomeRow ws at
  some_head x z = on_head (λ b. StandsBody x.scope x.n ws at left b → SomeRow ws at) x.here z (λ ts s. record { n = x.n; ts = ts; here = in_head s }) x.here

  pub past_head : {r : ℕ} → left ≡ 0 → PastRow ws at r → PastBody ws at left r
  unfolding expr_words
  past_head {r} z g = record { past = λ scope n b s. on_head (λ c. StandsBody scope n ws at left c → r ≡ at + length (body_words c n)) s z (λ ts t. g.past n ts (in_head t)) s }

  module _ (z : left ≡ 0 → ⊥) where
    -- a draw
    module _ (d : get_or ws at 0 ≡ 1) where
      pub some_operand : SomeBody ws at left → SomeExpr ws (at + 1)
      some_operand x =
          on_draw (λ b. StandsBody x.scope x.n ws at left b → SomeExpr ws (at + 1)) x.here z (is_draw_lem d)
          (λ e p c s. record { scope = x.scope; n = x.n; e = e; here = (in_draw s).operand }) x.here

      module _ {pattern : ℕ} (past : PastExpr ws (at + 1) pattern) where
        pub some_pattern : SomeBody ws at left → (n : ℕ) × SomePattern n ws pattern
        some_pattern x =
            on_draw (λ b. StandsBody x.scope x.n ws at left b → (n : ℕ) × SomePattern n ws pattern) x.here z (is_draw_lem d)
            (λ e p c s. (x.n, record { p = p; here = pattern_here past (in_draw s) })) x.here

        module _ {rest : ℕ} (next : PastPattern ws pattern rest) where
          pub draw_rest : SomeBody ws at left → SomeBody ws rest (left - 1)
          draw_rest x =
              on_draw (λ b. StandsBody x.scope x.n ws at left b → SomeBody ws rest (left - 1)) x.here z (is_draw_lem d)
              (λ e p c s. record { scope = x.scope; n = x.n + fresh p; b = c; here = rest_here past (in_draw s) next }) x.here

          pub draw_after : SomeBody ws at left → at < rest
          draw_after x =
              on_draw (λ b. StandsBody x.scope x.n ws at left b → at < rest) x.here z (is_draw_lem d)
              (λ e p c s. let q = rest_is past (in_draw s) next in omega arith) x.here

          pub past_draw : {r : ℕ} → PastBody ws rest (left - 1) r → PastBody ws at left r
          unfolding expr_words
          past_draw {r} g = record {
            past = λ scope n b s.
                on_draw (λ x. StandsBody scope n ws at left x → r ≡ at + length (body_words x n)) s z (is_draw_lem d)
                (λ e p c t.
                let q = rest_is past (in_draw t) next in
                let v = g.past scope (n + fresh p) c (rest_here past (in_draw t) next) in
                omega (arith, length-append (expr_words e n) (pattern_words n p ++ body_words c (n + fresh p)), length-append (slot_words n p) (body_words c (n + fresh p)))) s;
          }

    -- an absent guard
    module _ (d : get_or ws at 0 ≡ 4) where
      pub some_row : SomeBody ws at left → SomeRow ws (at + 1)
      some_row x =
          on_absent (λ b. StandsBody x.scope x.n ws at left b → SomeRow ws (at + 1)) x.here z (is_absent_lem d)
          (λ r e c s. record { n = x.n; ts = r; here = (in_absent s).row }) x.here

      module _ {inner : ℕ} (past : PastRow ws (at + 1) inner) where
        pub some_inner : SomeBody ws at left → SomeExpr ws inner
        some_inner x =
            on_absent (λ b. StandsBody x.scope x.n ws at left b → SomeExpr ws inner) x.here z (is_absent_lem d)
            (λ r e c s. record { scope = x.scope; n = x.n; e = e; here = operand_here past (in_absent s) }) x.here

        pub inner_after : SomeBody ws at left → at < inner
        inner_after x =
            on_absent (λ b. StandsBody x.scope x.n ws at left b → at < inner) x.here z (is_absent_lem d)
            (λ r e c s. let q = past.past x.n r (in_absent s).row in omega arith) x.here

        module _ {rest : ℕ} (next : PastExpr ws inner rest) where
          pub absent_rest : SomeBody ws at left → SomeBody ws rest (left - 1)
          absent_rest x =
              on_absent (λ b. StandsBody x.scope x.n ws at left b → SomeBody ws rest (left - 1)) x.here z (is_absent_lem d)
              (λ r e c s. record { scope = x.scope; n = x.n; b = c; here = over_here past (in_absent s) next }) x.here

          pub absent_after : SomeBody ws at left → at < rest
          absent_after x =
              on_absent (λ b. StandsBody x.scope x.n ws at left b → at < rest) x.here z (is_absent_lem d)
              (λ r e c s. let q = over_is past (in_absent s) next in omega arith) x.here

          pub past_absent : {r : ℕ} → PastBody ws rest (left - 1) r → PastBody ws at left r
          unfolding expr_words
          past_absent {r} g = record {
            past = λ scope n b s.
                on_absent (λ x. StandsBody scope n ws at left x → r ≡ at + length (body_words x n)) s z (is_absent_lem d)
                (λ ts e c t.
                let q = over_is past (in_absent t) next in
                let v = g.past scope n c (over_here past (in_absent t) next) in
                omega (arith, length-append (term_row_words ts) (expr_words e n ++ body_words c n), length-append (expr_words e n) (body_words c n))) s;
          }

    -- a test of two terms
    module _ (t : get_or ws at 0 ≡ 1 → ⊥) (u : get_or ws at 0 ≡ 4 → ⊥) where
      pub test_rest : SomeBody ws at left → SomeBody ws (at + 5) (left - 1)
      test_rest x =
          on_test (λ b. StandsBody x.scope x.n ws at left b → SomeBody ws (at + 5) (left - 1)) x.here z t u
          (λ p q c s. record { scope = x.scope; n = x.n; b = c; here = in_same s }) (λ p q c s. record { scope = x.scope; n = x.n; b = c; here = in_different s }) x.here

      pub past_test : {r : ℕ} → PastBody ws (at + 5) (left - 1) r → PastBody ws at left r
      unfolding expr_words
      past_test {r} g = record {
        past = λ scope n b s.
            on_test (λ c. StandsBody scope n ws at left c → r ≡ at + length (body_words c n)) s z t u
            (λ x y c h. let q = g.past scope n c (in_same h) in omega (arith, test_length x y (body_words c n)))
            (λ x y c h. let q = g.past scope n c (in_different h) in omega (arith, test_length x y (body_words c n))) s;
      }

-- a guard is passed: the body that is left stands behind it
pub record PastGuard (ws : List ℕ) (at left rest : ℕ) : Type 0 where
  pub after : at < rest
  pub left_over : SomeBody ws rest (left - 1)
  pub past : (r : ℕ) → PastBody ws rest (left - 1) r → PastBody ws at left r

module _ {ws : List ℕ} {at left : ℕ} (z : left ≡ 0 → ⊥) (x : SomeBody ws at left) where
  pub draw_passed : {pattern rest : ℕ} → get_or ws at 0 ≡ 1 → PastExpr ws (at + 1) pattern → PastPattern ws pattern rest → PastGuard ws at left rest
  draw_passed d past next = record { after = draw_after z d past next x; left_over = draw_rest z d past next x; past = λ r g. past_draw z d past next g }

  pub absent_passed : {inner rest : ℕ} → get_or ws at 0 ≡ 4 → PastRow ws (at + 1) inner → PastExpr ws inner rest → PastGuard ws at left rest
  absent_passed d past next = record { after = absent_after z d past next x; left_over = absent_rest z d past next x; past = λ r g. past_absent z d past next g }

  pub test_passed : (get_or ws at 0 ≡ 1 → ⊥) → (get_or ws at 0 ≡ 4 → ⊥) → PastGuard ws at left (at + 5)
  test_passed t u = record { after = omega arith; left_over = test_rest z t u x; past = λ r g. past_test z t u g }
