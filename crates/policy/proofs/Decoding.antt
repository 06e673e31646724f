-- The decoder reads just the words of the well-formed expressions.
use Prim.Native.Nat.{ℕ, zero, suc, ◌+◌, ◌≤◌}
use mathlib.Core.Path.{◌≡◌, refl, sym, ◌∙◌, ap}
use mathlib.Core.Bool.{Bool, true, false}
use mathlib.Core.List.{List, [], ◌∷◌, ◌++◌, append-nil}
use native.Mathlib.Omega.{arith}
use lib.Dec.{leb, ltb, leb→le, le→leb}
use lib.ListN.{length}
use borrow.Author.Tests.{ltb-true, lt-ltb}
use Rattle.refusals.specs.RefusalTable.{bad_word, too_deep}
use Rattle.rows.proofs.Case.{iff_refl}
use Rattle.policy.specs.Syntax.{Term, Expr, leaf, union, difference, comprehension, Body, head, draw, same, different, absent}
use Rattle.policy.specs.OwnKey.{Scope}
use Rattle.policy.specs.Leaf.{leaf_code, leaf_rest, leaf_of, leaf_as}
use Rattle.policy.specs.Words.{term_words, fresh, guard_count, expr_words, body_words}
use Rattle.policy.specs.WellFormed.{FitTerm, Fit, FitBody, depth, body_depth, draw_count, body_draws, WellFormed}
use Rattle.policy.specs.Parse.{parsed, none_left, parse}
use Rattle.policy.specs.Decode.{Read, got, refused, Reader, after, give, word, word_where, count_draw, term, guard_of, guard_as, body, code_of, is_code, expr_as, expr}
use Rattle.policy.specs.Parsing.{Theorem}
use Rattle.policy.proofs.Basics.{impossible}
use Rattle.policy.proofs.Spelling.{Spelling, one_word, Made, made, Taken, Takes, Returns, Reads, refuse_takes, then_takes, last_takes, then_returns, last_returns, word_takes, word_returns, returns_as}
use Rattle.policy.proofs.Leaves.{where_reads, term_reads, width_reads, row_reads, slots_reads}
use Rattle.policy.proofs.LeafDecoding.{leaf_as_reads, leaf_coded}

-- an expression of so many levels at most
pub record FitExpr (scope : Scope) (levels n : ℕ) (e : Expr) : Type 0 where
  pub fit : Fit scope n e
  pub shallow : depth e ≤ levels

abbrev pub expression : Scope → ℕ → ℕ → Spelling Expr
expression scope levels n = record { words = λ e. expr_words e n; draws = draw_count; Good = FitExpr scope levels n }

-- a body of c guards, its expressions of so many levels at most
pub record FitGuards (scope : Scope) (levels c n : ℕ) (b : Body) : Type 0 where
  pub fit : FitBody scope n b
  pub shallow : body_depth b ≤ levels
  pub guards : guard_count b ≡ c

abbrev pub guards : Scope → ℕ → ℕ → ℕ → Spelling Body
guards scope levels c n = record { words = λ b. body_words b n; draws = body_draws; Good = FitGuards scope levels c n }

-- no words, one draw
abbrev one_draw : Spelling (Unit {0})
one_draw = record { words = λ t. []; draws = λ t. 1; Good = λ t. Unit {0} }

count_reads : Reads count_draw one_draw
unfolding count_draw
count_reads = record {
  takes = record { taken = λ ws k t rest j h e. taking ws k t rest j (ltb k 8) refl e };
  returns = λ t g. record { back = λ rest k h. rw (lt-ltb k 8 (omega arith), count_draw) };
}
  where
    taking : (ws : List ℕ) (k : ℕ) (t : Unit {0}) (rest : List ℕ) (j : ℕ) (b : Bool) → ltb k 8 ≡ b →
        (elim b as (λ c. Read (Unit {0})) [ true ↦ got tt ws (k + 1) | false ↦ refused too_deep ]) ≡ got t rest j →
        Taken (Made one_draw) ws k t rest j
    taking ws k t rest j true h e =
        let l : ws ≡ rest = cc in
        let o : k + 1 ≡ j = cc in
        record { words = []; draws = 1; front = l; count = omega arith; few = omega (arith, ltb-true k 8 h); so = made tt }
    taking ws k t rest j false h e = impossible cc

module _ (scope : Scope) (levels : ℕ) (inner : ℕ → Reader Expr) (inner_reads : (m : ℕ) → Reads (inner m) (expression scope levels m)) where
  -- a guard, and c more after it
  module _ (c n : ℕ) (rest : ℕ → Reader Body) (rest_reads : (m : ℕ) → Reads (rest m) (guards scope levels c m)) where
    -- same and different: two terms
    terms_take : (make : Term → Term → Body → Body) (Q : Body → List ℕ → ℕ → Type 0) →
        ((x y : Term) (b : Body) → FitTerm n x → FitTerm n y → FitGuards scope levels c n b → Q (make x y b) (term_words x ++ (term_words y ++ body_words b n)) (0 + (0 + body_draws b))) →
        Takes (λ ws k. after (term n ws k) (λ x us i. after (term n us i) (λ y vs j. after (rest n vs j) (λ b. give (make x y b))))) Q
    terms_take make Q q = then_takes (term_reads n) (λ x f. then_takes (term_reads n) (λ y g. last_takes (make x y) (rest_reads n) (λ b h. q x y b f g h)))

    guard_as_takes : (w : ℕ) → Takes (guard_as inner n rest (guard_of w)) (λ b u d. Made (guards scope levels (suc c) n) b (w ∷ u) d)
    unfolding guard_as guard_of body_words body_depth body_draws guard_count FitBody
    guard_as_takes zero = refuse_takes bad_word
    guard_as_takes (suc zero) =
        then_takes count_reads (λ t o.
        then_takes (inner_reads n) (λ e f.
        then_takes width_reads (λ w g.
        then_takes (slots_reads w n) (λ p h.
        last_takes (draw e p.0) (rest_reads p.1) (λ b i. record {
          spelled = rw (h.size, h.scope);
          met = omega arith;
          good = record { fit = (f.fit, record { some = omega (arith, h.size); few = omega (arith, h.size); slots = h.slots }, rw h.scope at i.fit); shallow = omega arith; guards = ap suc i.guards };
        })))))
    guard_as_takes (suc (suc zero)) = terms_take same _ (λ x y b f g h. record { spelled = refl; met = omega arith; good = record { fit = (f, g, h.fit); shallow = h.shallow; guards = ap suc h.guards } })
    guard_as_takes (suc (suc (suc zero))) =
        terms_take different _ (λ x y b f g h. record { spelled = refl; met = omega arith; good = record { fit = (f, g, h.fit); shallow = h.shallow; guards = ap suc h.guards } })
    guard_as_takes (suc (suc (suc (suc zero)))) =
        then_takes (row_reads n) (λ r f.
        then_takes (inner_reads n) (λ e g.
        last_takes (absent r e) (rest_reads n) (λ b h. record {
          spelled = refl;
          met = omega arith;
          good = record { fit = (f, g.fit, h.fit); shallow = omega arith; guards = ap suc h.guards };
        })))
    guard_as_takes (suc (suc (suc (suc (suc w))))) = refuse_takes bad_word

    terms_return : (make : Term → Term → Body → Body) (x y : Term) (b : Body) → FitTerm n x → FitTerm n y → FitGuards scope levels c n b →
        Returns (λ ws k. after (term n ws k) (λ x us i. after (term n us i) (λ y vs j. after (rest n vs j) (λ b. give (make x y b))))) (make x y b)
        (term_words x ++ (term_words y ++ body_words b n)) (body_draws b)
    terms_return make x y b f g h =
        returns_as (then_returns _ (term_reads n) x f (then_returns _ (term_reads n) y g (last_returns (make x y) (rest_reads n) b h))) (omega arith)

    guard_returns : (b : Body) → FitGuards scope levels (suc c) n b → Returns (λ ws k. after (word ws k) (λ t. guard_as inner n rest (guard_of t))) b (body_words b n) (body_draws b)
    unfolding guard_as guard_of body_words body_depth body_draws guard_count FitBody
    guard_returns (head r) f = absurd (omega (arith, f.guards))
    guard_returns (draw e p b) f =
        word_returns 1 (returns_as
        (then_returns _ count_reads tt tt
        (then_returns _ (inner_reads n) e (record { fit = f.fit.0; shallow = omega (arith, f.shallow) })
        (then_returns _ width_reads (length p) (f.fit.1.some, f.fit.1.few)
        (then_returns _ (slots_reads (length p) n) (p, n + fresh p) (record { slots = f.fit.1.slots; size = refl; scope = refl })
        (last_returns (draw e p) (rest_reads (n + fresh p)) b (record { fit = f.fit.2; shallow = omega (arith, f.shallow); guards = omega (arith, f.guards) })))))) (omega arith))
    guard_returns (same x y b) f = word_returns 2 (terms_return same x y b f.fit.0 f.fit.1 (record { fit = f.fit.2; shallow = f.shallow; guards = omega (arith, f.guards) }))
    guard_returns (different x y b) f =
        word_returns 3 (terms_return different x y b f.fit.0 f.fit.1 (record { fit = f.fit.2; shallow = f.shallow; guards = omega (arith, f.guards) }))
    guard_returns (absent r e b) f =
        word_returns 4 (returns_as
        (then_returns _ (row_reads n) r f.fit.0
        (then_returns _ (inner_reads n) e (record { fit = f.fit.1; shallow = omega (arith, f.shallow) })
        (last_returns (absent r e) (rest_reads n) b (record { fit = f.fit.2; shallow = omega (arith, f.shallow); guards = omega (arith, f.guards) })))) (omega arith))

  head_reads : (n : ℕ) → Reads (body inner zero n) (guards scope levels zero n)
  unfolding body body_words body_depth body_draws guard_count FitBody
  head_reads n = record {
    takes = last_takes head (row_reads n) (λ r g. made (record { fit = g; shallow = omega arith; guards = refl }));
    returns = returning;
  }
    where
      returning : (b : Body) → FitGuards scope levels zero n b → Returns (body inner zero n) b (body_words b n) (body_draws b)
      returning (head r) f = last_returns head (row_reads n) r f.fit
      returning (draw e p b) f = absurd (omega (arith, f.guards))
      returning (same x y b) f = absurd (omega (arith, f.guards))
      returning (different x y b) f = absurd (omega (arith, f.guards))
      returning (absent r e b) f = absurd (omega (arith, f.guards))

  body_reads : (c n : ℕ) → Reads (body inner c n) (guards scope levels c n)
  unfolding body
  body_reads zero n = head_reads n
  body_reads (suc c) n =
      let rest : (m : ℕ) → Reads (body inner c m) (guards scope levels c m) = λ m. body_reads c m in
      record { takes = word_takes (guard_as_takes c n (λ m. body inner c m) rest); returns = guard_returns c n (λ m. body inner c m) rest }

  -- the count of guards
  guard_count_reads : Reads (word_where bad_word (λ c. leb c 8)) (one_word (λ c. c ≤ 8))
  guard_count_reads = where_reads bad_word (λ c. leb c 8) (λ c. (leb→le c 8, le→leb c 8))

  module _ (n : ℕ) where
    -- union and difference: two expressions
    parts_take : (make : Expr → Expr → Expr) (Q : Expr → List ℕ → ℕ → Type 0) →
        ((a b : Expr) → FitExpr scope levels n a → FitExpr scope levels n b → Q (make a b) (expr_words a n ++ expr_words b n) (draw_count a + draw_count b)) →
        Takes (λ ws k. after (inner n ws k) (λ a us i. after (inner n us i) (λ b. give (make a b)))) Q
    parts_take make Q q = then_takes (inner_reads n) (λ a f. last_takes (make a) (inner_reads n) (λ b g. q a b f g))

    parts_return : (make : Expr → Expr → Expr) (a b : Expr) → FitExpr scope levels n a → FitExpr scope levels n b →
        Returns (λ ws k. after (inner n ws k) (λ a us i. after (inner n us i) (λ b. give (make a b)))) (make a b) (expr_words a n ++ expr_words b n) (draw_count a + draw_count b)
    parts_return make a b f g = then_returns _ (inner_reads n) a f (last_returns (make a) (inner_reads n) b g)

    -- a leaf, its code being w
    leaf_takes : (w : ℕ) → Takes (λ ws k. after (leaf_as scope n (leaf_of w) ws k) (λ x. give (leaf x))) (λ e u d. Made (expression scope (suc levels) n) e (w ∷ u) d)
    unfolding expr_words depth draw_count Fit
    leaf_takes w =
        last_takes leaf (leaf_as_reads scope n w) (λ x g. record { spelled = ap (λ c. c ∷ leaf_rest x) (sym g.1); met = refl; good = record { fit = g.0; shallow = omega arith } })

    expr_as_takes : (w : ℕ) → Takes (expr_as scope inner n (code_of w)) (λ e u d. Made (expression scope (suc levels) n) e (w ∷ u) d)
    unfolding expr_as code_of expr_words depth draw_count Fit
    expr_as_takes zero = leaf_takes 0
    expr_as_takes (suc zero) = leaf_takes 1
    expr_as_takes (suc (suc zero)) = leaf_takes 2
    expr_as_takes (suc (suc (suc zero))) = leaf_takes 3
    expr_as_takes (suc (suc (suc (suc zero)))) = leaf_takes 4
    expr_as_takes (suc (suc (suc (suc (suc zero))))) =
        parts_take union _ (λ a b f g. made (record { fit = (f.fit, g.fit); shallow = omega (arith, f.shallow, g.shallow) }))
    expr_as_takes (suc (suc (suc (suc (suc (suc zero)))))) =
        parts_take difference _ (λ a b f g. made (record { fit = (f.fit, g.fit); shallow = omega (arith, f.shallow, g.shallow) }))
    expr_as_takes (suc (suc (suc (suc (suc (suc (suc zero))))))) =
        then_takes guard_count_reads (λ c f.
        last_takes comprehension (body_reads c n) (λ b g. record {
          spelled = rw g.guards;
          met = omega arith;
          good = record { fit = (omega (arith, g.guards), g.fit); shallow = omega (arith, g.shallow) };
        }))
    expr_as_takes (suc (suc (suc (suc (suc (suc (suc (suc w)))))))) = leaf_takes (suc (suc (suc (suc (suc (suc (suc (suc w))))))))

    expr_returns : (e : Expr) → FitExpr scope (suc levels) n e → Returns (λ ws k. after (word ws k) (λ c. expr_as scope inner n (code_of c))) e (expr_words e n) (draw_count e)
    unfolding expr_as code_of expr_words depth draw_count Fit
    expr_returns (leaf x) f = word_returns (leaf_code x) (rw (leaf_coded x) (last_returns leaf (leaf_as_reads scope n (leaf_code x)) x (f.fit, refl)))
    expr_returns (union a b) f =
        word_returns 5 (parts_return union a b (record { fit = f.fit.0; shallow = omega (arith, f.shallow) }) (record { fit = f.fit.1; shallow = omega (arith, f.shallow) }))
    expr_returns (difference a b) f =
        word_returns 6 (parts_return difference a b (record { fit = f.fit.0; shallow = omega (arith, f.shallow) }) (record { fit = f.fit.1; shallow = omega (arith, f.shallow) }))
    expr_returns (comprehension b) f =
        word_returns 7 (returns_as
        (then_returns _ guard_count_reads (guard_count b) f.fit.0
        (last_returns comprehension (body_reads (guard_count b) n) b (record { fit = f.fit.1; shallow = omega (arith, f.shallow); guards = refl }))) (omega arith))

-- an expression is at depth 1 at least
depth_some : (e : Expr) → 1 ≤ depth e
unfolding depth
depth_some (leaf x) = omega arith
depth_some (union a b) = omega arith
depth_some (difference a b) = omega arith
depth_some (comprehension b) = omega arith

pub expr_reads : (scope : Scope) (levels n : ℕ) → Reads (expr scope levels n) (expression scope levels n)
unfolding expr
expr_reads scope zero n = record {
  takes = then_takes (where_reads bad_word is_code (λ c. iff_refl)) (λ c g. refuse_takes too_deep);
  returns = λ e f. absurd (omega (arith, depth_some e, f.shallow));
}
expr_reads scope (suc levels) n =
    let inner : (m : ℕ) → Reads (expr scope levels m) (expression scope levels m) = λ m. expr_reads scope levels m in
    record { takes = word_takes (expr_as_takes scope levels (λ m. expr scope levels m) inner n); returns = expr_returns scope levels (λ m. expr scope levels m) inner n }

none_left_lem : (r : Read Expr) (e : Expr) → none_left r ≡ parsed e → (k : ℕ) × (r ≡ got e [] k)
unfolding none_left
none_left_lem (got d [] k) e h = (k, cc)
none_left_lem (got d (w ∷ ws) k) e h = impossible cc
none_left_lem (refused n) e h = impossible cc

pub parse_iff : Theorem
unfolding parse none_left
parse_iff scope ws e = (there, back)
  where
    there : parse scope ws ≡ parsed e → (ws ≡ expr_words e 0) × WellFormed scope e
    there h =
        let r = none_left_lem (expr scope 15 0 ws 0) e h in
        let t = (expr_reads scope 15 0).takes.taken ws 0 e [] r.0 (omega arith) r.1 in
        let d = t.so.met in
        (t.front ∙ append-nil t.words ∙ t.so.spelled, record { fit = t.so.good.fit; shallow = t.so.good.shallow; draws = omega arith })

    back : (ws ≡ expr_words e 0) × WellFormed scope e → parse scope ws ≡ parsed e
    back h =
        let r = ((expr_reads scope 15 0).returns e (record { fit = h.1.fit; shallow = h.1.shallow })).back [] 0 (omega (arith, h.1.draws)) in
        rw (h.0, ← (append-nil (expr_words e 0)), r)

pub parse_words : (scope : Scope) (ws : List ℕ) (e : Expr) → parse scope ws ≡ parsed e → ws ≡ expr_words e 0
parse_words scope ws e h = ((parse_iff scope ws e).0 h).0

pub parse_fits : (scope : Scope) (ws : List ℕ) (e : Expr) → parse scope ws ≡ parsed e → WellFormed scope e
parse_fits scope ws e h = ((parse_iff scope ws e).0 h).1
