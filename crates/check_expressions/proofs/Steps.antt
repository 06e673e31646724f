-- The checker's cycle: what each definition reads is what the code reads, one after the other.
use Rattle.std.proofs.Common.{ℕ, zero, suc, ◌≡◌, ◌≢◌, ◌-◌, Bool, true, false, List, [], ◌∷◌, Result, Ok, Err, leb, refl, sym, ◌∙◌, ap, arith}
use Rattle.refusals.specs.RefusalTable.{bad_word, too_deep}
use Rattle.refusals.specs.declared.Refusal.{Refusal}
use Rattle.policy.specs.declared.codes.Code.{Code}
use Rattle.policy.specs.declared.codes.Code.TheVariants as code
use Rattle.policy.specs.Codes.{CodeRead, code_number}
use Rattle.policy.specs.Leaf.{leaf_of, leaf_as, some_leaf}
use Rattle.policy.specs.Syntax.{Term, Expr, leaf, union, difference, comprehension, Body, head, draw, same, different, absent}
use Rattle.policy.specs.Decode.{Read, got, refused, Reader, after, need, give, refuse, word, word_where, count_draw, term, width, row, Pattern, slots, is_draw, is_absent, guard_of, guard_as, body, code_of, is_code, some_code, expr_as, expr}
use Rattle.policy.specs.Polarity.{has_polarity, guards_have, open_expr, draws_closed, guards_closed}
use Rattle.policy.specs.Held.{Opening, draw_opens, absent_opens, same_opens, different_opens}
use Rattle.policy.proofs.Basics.{impossible}
use Rattle.check_terms.specs.Answers.{kept, keeping, nothing, pattern, scope, opening_for, opening}
use Rattle.check_terms.proofs.Reading.{after_after}
use Rattle.check_polarity.specs.Earlier.{Before, scope_at}
use Rattle.check_polarity.specs.Facts.{facts_for, term_facts, union_of, difference_of, draw_of, absent_of}
use Rattle.check_polarity.specs.declared.Facts.{Facts}
use Rattle.check_leaves.specs.Checks.{head_facts, leaf_facts}
use Rattle.check_leaves.proofs.Leaving.{kept_give}
use Rattle.check_expressions.specs.Expressions.{inside, expr_facts, two_facts, code_facts, body_facts, guard_facts}

-- ---- an expression

module _ (b : Before) (n : ℕ) (us : List ℕ) (k : ℕ) where
  pub expr_unread : (levels : ℕ) {m : ℕ} → refused m ≡ word us k → refused m ≡ expr_facts b levels n us k
  unfolding expr_facts keeping kept expr word_where
  expr_unread zero e = ap (λ x. kept (facts_for b) (after (after x (λ w us k. after (need bad_word (is_code w) us k) (λ t. give w))) (λ c. refuse too_deep))) e
  expr_unread (suc levels) e = ap (λ x. kept (facts_for b) (after x (λ c. expr_as (scope_at b) (λ m. expr (scope_at b) levels m) n (code_of c)))) e

  uncoded : (w : ℕ) → ((c : Code) → code_number c ≢ w) → is_code w ≡ false
  unfolding is_code some_code code_of some_leaf leaf_of
  uncoded zero h = refl
  uncoded (suc zero) h = absurd (h code.Finite refl)
  uncoded (suc (suc zero)) h = absurd (h code.Cofinite refl)
  uncoded (suc (suc (suc zero))) h = absurd (h code.Definition refl)
  uncoded (suc (suc (suc (suc zero)))) h = absurd (h code.Name refl)
  uncoded (suc (suc (suc (suc (suc zero))))) h = absurd (h code.Union refl)
  uncoded (suc (suc (suc (suc (suc (suc zero)))))) h = absurd (h code.Difference refl)
  uncoded (suc (suc (suc (suc (suc (suc (suc zero))))))) h = absurd (h code.Comprehension refl)
  uncoded (suc (suc (suc (suc (suc (suc (suc (suc zero)))))))) h = absurd (h code.Vetted refl)
  uncoded (suc (suc (suc (suc (suc (suc (suc (suc (suc w))))))))) h = refl

  coded : (c : Code) → is_code (code_number c) ≡ true
  unfolding is_code some_code code_of some_leaf leaf_of
  coded code.Finite = refl
  coded code.Cofinite = refl
  coded code.Definition = refl
  coded code.Name = refl
  coded code.Union = refl
  coded code.Difference = refl
  coded code.Comprehension = refl
  coded code.Vetted = refl

  no_expr : (inner : ℕ → Reader Expr) (w : ℕ) → is_code w ≡ false → (vs : List ℕ) (j : ℕ) → expr_as (scope_at b) inner n (code_of w) vs j ≡ refused bad_word
  unfolding is_code some_code code_of some_leaf leaf_of expr_as leaf_as
  no_expr inner zero h vs j = refl
  no_expr inner (suc zero) h vs j = impossible cc
  no_expr inner (suc (suc zero)) h vs j = impossible cc
  no_expr inner (suc (suc (suc zero))) h vs j = impossible cc
  no_expr inner (suc (suc (suc (suc zero)))) h vs j = impossible cc
  no_expr inner (suc (suc (suc (suc (suc zero))))) h vs j = impossible cc
  no_expr inner (suc (suc (suc (suc (suc (suc zero)))))) h vs j = impossible cc
  no_expr inner (suc (suc (suc (suc (suc (suc (suc zero))))))) h vs j = impossible cc
  no_expr inner (suc (suc (suc (suc (suc (suc (suc (suc zero)))))))) h vs j = impossible cc
  no_expr inner (suc (suc (suc (suc (suc (suc (suc (suc (suc w))))))))) h vs j = refl

  module _ {w : ℕ} {vs : List ℕ} {j : ℕ} (e : got w vs j ≡ word us k) where
    expr_at : (levels : ℕ) → expr_facts b (suc levels) n us k ≡ code_facts b (inside b levels) n w vs j
    unfolding expr_facts code_facts keeping inside expr
    expr_at levels = ap (λ x. kept (facts_for b) (after x (λ c. expr_as (scope_at b) (λ m. expr (scope_at b) levels m) n (code_of c)))) (sym e)

    expr_deepest : (c : Bool) → is_code w ≡ c → expr_facts b 0 n us k ≡ kept (facts_for b) (after (after (need bad_word c vs j) (λ t. give w)) (λ c. refuse too_deep))
    unfolding expr_facts keeping expr word_where
    expr_deepest c h = ap (λ x. kept (facts_for b) (after (after x (λ w us k. after (need bad_word (is_code w) us k) (λ t. give w))) (λ c. refuse too_deep))) (sym e)
        ∙ ap (λ c. kept (facts_for b) (after (after (need bad_word c vs j) (λ t. give w)) (λ c. refuse too_deep))) h

    pub expr_uncoded : (levels : ℕ) (r : Result Code Refusal) {y : Refusal} → CodeRead w r → r ≡ Err y → refused bad_word ≡ expr_facts b levels n us k
    unfolding code_facts keeping kept
    expr_uncoded levels (Ok c) h p = impossible cc
    expr_uncoded zero (Err y) h p = sym (expr_deepest false (uncoded w h.1))
    expr_uncoded (suc levels) (Err y) h p = sym (expr_at levels ∙ ap (kept (facts_for b)) (no_expr (inside b levels) w (uncoded w h.1) vs j))

    pub expr_deep : (levels : ℕ) (c : Code) → code_number c ≡ w → levels ≡ 0 → refused too_deep ≡ expr_facts b levels n us k
    unfolding kept
    expr_deep zero c h z = sym (expr_deepest true (ap is_code (sym h) ∙ coded c))
    expr_deep (suc levels) c h z = absurd (omega arith)

    pub expr_coded : (levels : ℕ) (c : Code) {x : Read Facts} → code_number c ≡ w → (levels ≡ 0 → ⊥) → x ≡ code_facts b (inside b (levels - 1)) n (code_number c) vs j → x ≡ expr_facts b levels n us k
    expr_coded zero c h z f = absurd (z refl)
    expr_coded (suc levels) c {x} h z f =
        let one : suc levels - 1 ≡ levels = omega arith in
        let g : x ≡ code_facts b (inside b levels) n (code_number c) vs j = rw one at f in
        g ∙ (ap (λ w. code_facts b (inside b levels) n w vs j) h ∙ sym (expr_at levels))

-- ---- what follows a code

module _ (b : Before) (inner : ℕ → Reader Expr) (n : ℕ) (us : List ℕ) (k : ℕ) where
  leaf_code : (w : ℕ) → ((vs : List ℕ) (j : ℕ) → expr_as (scope_at b) inner n (code_of w) vs j ≡ after (leaf_as (scope_at b) n (leaf_of w) vs j) (λ x. give (leaf x))) → code_facts b inner n w us k ≡ leaf_facts b n w us k
  unfolding code_facts leaf_facts keeping
  leaf_code w e = ap (kept (facts_for b)) (e us k) ∙ kept_give (facts_for b) leaf (leaf_as (scope_at b) n (leaf_of w) us k)

  -- a code that is no node's
  pub code_leaf : (c : Code) → c ≢ code.Union → c ≢ code.Difference → c ≢ code.Comprehension → code_facts b inner n (code_number c) us k ≡ leaf_facts b n (code_number c) us k
  unfolding expr_as code_of leaf_of
  code_leaf code.Finite x y z = leaf_code 1 (λ vs j. refl)
  code_leaf code.Cofinite x y z = leaf_code 2 (λ vs j. refl)
  code_leaf code.Definition x y z = leaf_code 3 (λ vs j. refl)
  code_leaf code.Name x y z = leaf_code 4 (λ vs j. refl)
  code_leaf code.Union x y z = absurd (x refl)
  code_leaf code.Difference x y z = absurd (y refl)
  code_leaf code.Comprehension x y z = absurd (z refl)
  code_leaf code.Vetted x y z = leaf_code 8 (λ vs j. refl)

  pub code_comprehension : code_facts b inner n 7 us k ≡ after (word_where bad_word (λ c. leb c 8) us k) (λ c. body_facts b inner c n)
  unfolding code_facts body_facts keeping kept expr_as code_of
  code_comprehension = go (word_where bad_word (λ c. leb c 8) us k)
    where
      go : (x : Read ℕ) → kept (facts_for b) (after x (λ c us i. after (body inner c n us i) (λ b. give (comprehension b)))) ≡ after x (λ c us i. kept (λ rest. facts_for b (comprehension rest)) (body inner c n us i))
      go (got c vs j) = kept_give (facts_for b) comprehension (body inner c n vs j)
      go (refused m) = refl

module _ (b : Before) (levels n : ℕ) (us : List ℕ) (k : ℕ) where
  two_parts : (g : Expr → Expr → Expr) (h : Facts → Facts → Facts) → ((x y : Expr) → facts_for b (g x y) ≡ h (facts_for b x) (facts_for b y)) →
      kept (facts_for b) (after (inside b levels n us k) (λ x us i. after (inside b levels n us i) (λ y. give (g x y)))) ≡ after (two_facts b levels n us k) (λ p. give (h p.0 p.1))
  unfolding two_facts expr_facts keeping kept inside
  two_parts g h e = go (expr (scope_at b) levels n us k)
    where
      second : (x : Expr) (z : Read Expr) → kept (facts_for b) (after z (λ y. give (g x y))) ≡ after {A = Facts × Facts} (after (kept (facts_for b) z) (λ y. give (facts_for b x, y))) (λ p. give (h p.0 p.1))
      second x (got y vs j) = ap (λ f. got f vs j) (e x y)
      second x (refused m) = refl

      go : (z : Read Expr) → kept (facts_for b) (after z (λ x us i. after (expr (scope_at b) levels n us i) (λ y. give (g x y)))) ≡
          after {A = Facts × Facts} (after (kept (facts_for b) z) (λ x us i. after (kept (facts_for b) (expr (scope_at b) levels n us i)) (λ y. give (x, y)))) (λ p. give (h p.0 p.1))
      go (got x vs j) = second x (expr (scope_at b) levels n vs j)
      go (refused m) = refl

  pub code_union : code_facts b (inside b levels) n 5 us k ≡ after (two_facts b levels n us k) (λ p. give (union_of p.0 p.1))
  unfolding code_facts keeping expr_as code_of union_of facts_for has_polarity open_expr draws_closed
  code_union = two_parts union union_of (λ x y. refl)

  pub code_difference : code_facts b (inside b levels) n 6 us k ≡ after (two_facts b levels n us k) (λ p. give (difference_of p.0 p.1))
  unfolding code_facts keeping expr_as code_of difference_of facts_for has_polarity open_expr draws_closed
  code_difference = two_parts difference difference_of (λ x y. refl)

-- ---- a comprehension

two_after : {A B C D : Type 0} (x : Read A) (m : Reader B) (f : A → B → C) (g : C → Reader D) →
    after (after x (λ a us i. after (m us i) (λ b. give (f a b)))) g ≡ after x (λ a us i. after (m us i) (λ b. g (f a b)))
two_after (got a us i) m f g = after_after (m us i) (λ b. give (f a b)) g
two_after (refused n) m f g = refl

module _ (b : Before) (inner : ℕ → Reader Expr) where
  abbrev of_body : Body → Facts
  of_body rest = facts_for b (comprehension rest)

  -- the facts of what follows a guard's opening, and of the opening with it
  unfoldable pub opened : ℕ → ℕ → Opening → Reader Facts
  unfolding body_facts guard_facts
  opened c n draw_opens = guard_facts b inner c n is_draw
  opened c n absent_opens = guard_facts b inner c n is_absent
  opened c n (same_opens x y) = body_facts b inner c n
  opened c n (different_opens x y) = body_facts b inner c n

  module _ (n : ℕ) (us : List ℕ) (k : ℕ) where
    pub body_head : (left : ℕ) → left ≡ 0 → body_facts b inner left n us k ≡ head_facts n us k
    unfolding body_facts head_facts keeping kept body facts_for has_polarity guards_have open_expr draws_closed guards_closed
    body_head zero e = go (row n us k)
      where
        go : (x : Read (List Term)) → kept of_body (after x (λ r. give (head r))) ≡ kept (λ r. term_facts false) x
        go (got r vs j) = refl
        go (refused m) = refl
    body_head (suc c) e = absurd (omega arith)

    compared : (f : Term → Term → Body → Body) (o : Term → Term → Opening) (c : ℕ) →
        ((x y : Term) (r : Body) → of_body (f x y r) ≡ of_body r) → ((x y : Term) (vs : List ℕ) (j : ℕ) → opened c n (o x y) vs j ≡ body_facts b inner c n vs j) →
        (x : Read Term) → kept of_body (after x (λ x us i. after (term n us i) (λ y us i. after (body inner c n us i) (λ r. give (f x y r))))) ≡ after (after x (λ x us i. after (term n us i) (λ y. give (o x y)))) (opened c n)
    unfolding kept body_facts keeping
    compared f o c e d (got x vs j) = second (term n vs j)
      where
        last : (y : Term) (z : Read Body) → kept of_body (after z (λ r. give (f x y r))) ≡ kept of_body z
        last y (got r us i) = ap (λ z. got z us i) (e x y r)
        last y (refused m) = refl

        second : (z : Read Term) → kept of_body (after z (λ y us i. after (body inner c n us i) (λ r. give (f x y r)))) ≡ after (after z (λ y. give (o x y))) (opened c n)
        second (got y us i) = last y (body inner c n us i) ∙ sym (d x y us i)
        second (refused m) = refl
    compared f o c e d (refused m) = refl

    body_opening : (c : ℕ) → body_facts b inner (suc c) n us k ≡ after (opening n us k) (opened c n)
    unfolding body_facts guard_facts keeping kept body opening opening_for guard_of guard_as opened facts_for has_polarity guards_have open_expr draws_closed guards_closed
    body_opening c = go us
      where
        go : (us : List ℕ) → kept of_body (after (word us k) (λ t. guard_as inner n (λ m. body inner c m) (guard_of t))) ≡ after (after (word us k) (λ t. opening_for n (guard_of t))) (opened c n)
        go [] = refl
        go (zero ∷ ws) = refl
        go (suc zero ∷ ws) = refl
        go (suc (suc zero) ∷ ws) = compared same same_opens c (λ x y r. refl) (λ x y vs j. refl) (term n ws k)
        go (suc (suc (suc zero)) ∷ ws) = compared different different_opens c (λ x y r. refl) (λ x y vs j. refl) (term n ws k)
        go (suc (suc (suc (suc zero))) ∷ ws) = refl
        go (suc (suc (suc (suc (suc w)))) ∷ ws) = refl

    pub body_opens : (left : ℕ) → (left ≡ 0 → ⊥) → body_facts b inner left n us k ≡ after (opening n us k) (opened (left - 1) n)
    body_opens zero e = absurd (e refl)
    body_opens (suc c) e = let one : suc c - 1 ≡ c = omega arith in rw one (body_opening c)

    pub body_then : (left : ℕ) → (left ≡ 0 → ⊥) → {o : Opening} {vs : List ℕ} {j : ℕ} → got o vs j ≡ opening n us k → {x : Read Facts} → x ≡ opened (left - 1) n o vs j → x ≡ body_facts b inner left n us k
    body_then left h e f = f ∙ (ap (λ y. after y (opened (left - 1) n)) e ∙ sym (body_opens left h))

module _ (b : Before) (levels c n : ℕ) (us : List ℕ) (k : ℕ) where
  abbrev of_rest : Body → Facts
  of_rest rest = facts_for b (comprehension rest)

  pub draw_reads : guard_facts b (inside b levels) c n is_draw us k ≡
      after (count_draw us k) (λ u us k. after (expr_facts b levels n us k) (λ a us k. after (keeping scope (pattern n) us k) (λ v us k. after (body_facts b (inside b levels) c v us k) (λ r. give (draw_of a r)))))
  unfolding guard_facts expr_facts body_facts keeping kept guard_as inside pattern draw_of facts_for has_polarity guards_have open_expr draws_closed guards_closed
  draw_reads = counted (count_draw us k)
    where
      last : (e : Expr) (p : Pattern) (z : Read Body) → kept of_rest (after z (λ r. give (draw e p.0 r))) ≡ after (kept of_rest z) (λ r. give (draw_of (facts_for b e) r))
      last e p (got r vs j) = refl
      last e p (refused m) = refl

      matched : (e : Expr) (z : Read Pattern) → kept of_rest (after z (λ p us i. after (body (inside b levels) c p.1 us i) (λ r. give (draw e p.0 r)))) ≡
          after (kept scope z) (λ v us k. after (kept of_rest (body (inside b levels) c v us k)) (λ r. give (draw_of (facts_for b e) r)))
      matched e (got p vs j) = last e p (body (inside b levels) c p.1 vs j)
      matched e (refused m) = refl

      drawn : (z : Read Expr) → kept of_rest (after z (λ e us i. after (width us i) (λ w us i. after (slots w n us i) (λ p us i. after (body (inside b levels) c p.1 us i) (λ r. give (draw e p.0 r)))))) ≡
          after (kept (facts_for b) z) (λ a us k. after (kept scope (pattern n us k)) (λ v us k. after (kept of_rest (body (inside b levels) c v us k)) (λ r. give (draw_of a r))))
      drawn (got e vs j) = ap (kept of_rest) (sym (after_after (width vs j) (λ w. slots w n) (λ p us i. after (body (inside b levels) c p.1 us i) (λ r. give (draw e p.0 r))))) ∙ matched e (pattern n vs j)
      drawn (refused m) = refl

      counted : (z : Read (Unit {0})) →
          kept of_rest (after z (λ u us k. after (expr (scope_at b) levels n us k) (λ e us i. after (width us i) (λ w us i. after (slots w n us i) (λ p us i. after (body (inside b levels) c p.1 us i) (λ r. give (draw e p.0 r))))))) ≡
          after z (λ u us k. after (kept (facts_for b) (expr (scope_at b) levels n us k)) (λ a us k. after (kept scope (pattern n us k)) (λ v us k. after (kept of_rest (body (inside b levels) c v us k)) (λ r. give (draw_of a r)))))
      counted (got u vs j) = drawn (expr (scope_at b) levels n vs j)
      counted (refused m) = refl

  pub absent_reads : guard_facts b (inside b levels) c n is_absent us k ≡
      after (keeping nothing (row n) us k) (λ u us k. after (expr_facts b levels n us k) (λ a us k. after (body_facts b (inside b levels) c n us k) (λ r. give (absent_of a r))))
  unfolding guard_facts expr_facts body_facts keeping kept guard_as inside absent_of facts_for has_polarity guards_have open_expr draws_closed guards_closed
  absent_reads = rowed (row n us k)
    where
      last : (t : List Term) (e : Expr) (z : Read Body) → kept of_rest (after z (λ r. give (absent t e r))) ≡ after (kept of_rest z) (λ r. give (absent_of (facts_for b e) r))
      last t e (got r vs j) = refl
      last t e (refused m) = refl

      lacking : (t : List Term) (z : Read Expr) → kept of_rest (after z (λ e us i. after (body (inside b levels) c n us i) (λ r. give (absent t e r)))) ≡
          after (kept (facts_for b) z) (λ a us k. after (kept of_rest (body (inside b levels) c n us k)) (λ r. give (absent_of a r)))
      lacking t (got e vs j) = last t e (body (inside b levels) c n vs j)
      lacking t (refused m) = refl

      rowed : (z : Read (List Term)) →
          kept of_rest (after z (λ t us k. after (expr (scope_at b) levels n us k) (λ e us i. after (body (inside b levels) c n us i) (λ r. give (absent t e r))))) ≡
          after (kept nothing z) (λ u us k. after (kept (facts_for b) (expr (scope_at b) levels n us k)) (λ a us k. after (kept of_rest (body (inside b levels) c n us k)) (λ r. give (absent_of a r))))
      rowed (got t vs j) = lacking t (expr (scope_at b) levels n vs j)
      rowed (refused m) = refl
