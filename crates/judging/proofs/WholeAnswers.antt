-- Whole definitions and queries, way out by way out.
use Rattle.std.proofs.Common.{ℕ, ◌≡◌, ◌≢◌, ◌<◌, ◌≤◌, Bool, true, false, ◌&&◌, ◌||◌, List, [], ◌∷◌, Result, Ok, Err, length, leb, refl, sym, ◌∙◌, ap, arith}
use borrow.Author.Tests.{le-leb, lt-leb}
use Rattle.refusals.specs.RefusalTable.{bad_word}
use Rattle.refusals.specs.declared.Refusal.{Refusal}
use Rattle.refusals.specs.declared.Refusal.TheVariants.{OpenDraw}
use Rattle.refusals.specs.Numbers.{number}
use Rattle.rows.specs.Name.{Polarity, plus, minus}
use Rattle.policy.specs.Syntax.{Expr}
use Rattle.policy.specs.Parse.{Parsed, parsed, none_left, parse}
use Rattle.policy.specs.Parse as Parse
use Rattle.policy.specs.Decode.{Read, got, refused, expr}
use Rattle.policy.specs.Polarity.{has_polarity, draws_closed}
use Rattle.policy.specs.Definitions.{polarized}
use Rattle.policy.specs.Checking.{check_query}
use Rattle.policy.proofs.Basics.{impossible}
use Rattle.check_terms.specs.Answers.{kept, keeping}
use Rattle.check_polarity.specs.Earlier.{Before, scope_at}
use Rattle.check_polarity.specs.Facts.{facts_for, admit_of, declared_of}
use Rattle.check_polarity.specs.declared.Facts.{Facts}
use Rattle.check_expressions.specs.Expressions.{expr_facts}
use Rattle.judging.specs.Whole.{Whole, whole_is, whole_for, definition_parsed, query_at}
use Rattle.judging.specs.Whole as whole

-- a whole expression
module _ (b : Before) where
  whole_refused : (n : ℕ) (x : Read Expr) → kept (facts_for b) x ≡ refused n → whole_for b (none_left x) ≡ whole.refused n
  unfolding kept whole_for none_left
  whole_refused n (got e us k) p = impossible cc
  whole_refused n (refused m) p = let q : m ≡ n = cc in ap whole.refused q

  whole_read : (f : Facts) (us : List ℕ) (k : ℕ) (x : Read Expr) → kept (facts_for b) x ≡ got f us k → us ≡ [] → whole_for b (none_left x) ≡ whole.checked f
  unfolding kept whole_for none_left
  whole_read f us k (got e [] j) p q = let t : facts_for b e ≡ f = cc in ap whole.checked t
  whole_read f us k (got e (w ∷ vs) j) p q = let t : w ∷ vs ≡ us = cc in impossible cc
  whole_read f us k (refused m) p q = impossible cc

  left_over_lem : (f : Facts) (us : List ℕ) (k w : ℕ) (vs : List ℕ) (x : Read Expr) → kept (facts_for b) x ≡ got f us k → us ≡ w ∷ vs → whole_for b (none_left x) ≡ whole.refused bad_word
  unfolding kept whole_for none_left
  left_over_lem f us k w vs (got e [] j) p q = let t : ◌≡◌ {A = List ℕ} [] us = cc in impossible cc
  left_over_lem f us k w vs (got e (v ∷ rest) j) p q = refl
  left_over_lem f us k w vs (refused m) p q = impossible cc

module _ (b : Before) (ws : List ℕ) where
  pub parse_refused : {n : ℕ} → refused n ≡ expr_facts b 15 0 ws 0 → whole.refused n ≡ whole_for b (parse (scope_at b) ws)
  unfolding expr_facts keeping parse
  parse_refused {n} e = sym (whole_refused b n (expr (scope_at b) 15 0 ws 0) (sym e))

  module _ (f : Facts) (us : List ℕ) (k : ℕ) (e : got f us k ≡ expr_facts b 15 0 ws 0) where
    pub parse_left_over : length us ≢ 0 → whole.refused bad_word ≡ whole_for b (parse (scope_at b) ws)
    unfolding expr_facts keeping parse
    parse_left_over h = go us refl
      where
        go : (vs : List ℕ) → us ≡ vs → whole.refused bad_word ≡ whole_for b (none_left (expr (scope_at b) 15 0 ws 0))
        go [] q = absurd (h (ap length q))
        go (v ∷ vs) q = sym (left_over_lem b f us k v vs (expr (scope_at b) 15 0 ws 0) (sym e) q)

    pub parse_whole : length us ≡ 0 → whole.checked f ≡ whole_for b (parse (scope_at b) ws)
    unfolding expr_facts keeping parse
    parse_whole h = go us refl
      where
        go : (vs : List ℕ) → us ≡ vs → whole.checked f ≡ whole_for b (none_left (expr (scope_at b) 15 0 ws 0))
        go [] q = sym (whole_read b f us k (expr (scope_at b) 15 0 ws 0) (sym e) q)
        go (v ∷ vs) q = absurd (omega (arith, ap length q))

admitted : (b : Before) (e : Expr) (had closed : Bool) → draws_closed e b.known ≡ closed → whole_for b (polarized had (draws_closed e b.known) e) ≡ whole_is (admit_of (facts_for b e) had)
unfolding whole_for polarized admit_of facts_for
admitted b e true true c = ap (λ t. whole_for b (polarized true t e)) c ∙ sym (ap (λ t. whole_is (elim t as (λ w. Result Facts Refusal) [ true ↦ Ok (facts_for b e) | false ↦ Err OpenDraw ])) c)
admitted b e true false c = ap (λ t. whole_for b (polarized true t e)) c ∙ sym (ap (λ t. whole_is (elim t as (λ w. Result Facts Refusal) [ true ↦ Ok (facts_for b e) | false ↦ Err OpenDraw ])) c)
admitted b e false closed c = refl

declared_had : (b : Before) (e : Expr) (p : Polarity) → has_polarity e b.known p ≡ declared_of (facts_for b e) p
unfolding declared_of facts_for
declared_had b e plus = refl
declared_had b e minus = refl

module _ (b : Before) (p : Polarity) where
  refused_still : (n : ℕ) (x : Parsed) → whole_for b x ≡ whole.refused n → whole_for b (elim x as (λ c. Parsed) [ parsed e ↦ polarized (has_polarity e b.known p) (draws_closed e b.known) e | Parse.refused n ↦ Parse.refused n ]) ≡ whole.refused n
  unfolding whole_for
  refused_still n (parsed e) t = impossible cc
  refused_still n (Parse.refused m) t = t

  admitted_then : (f : Facts) (x : Parsed) → whole_for b x ≡ whole.checked f → whole_for b (elim x as (λ c. Parsed) [ parsed e ↦ polarized (has_polarity e b.known p) (draws_closed e b.known) e | Parse.refused n ↦ Parse.refused n ]) ≡ whole_is (admit_of f (declared_of f p))
  unfolding whole_for
  admitted_then f (parsed e) t =
      let q : facts_for b e ≡ f = cc in
      admitted b e (has_polarity e b.known p) (draws_closed e b.known) refl ∙ (ap (λ h. whole_is (admit_of (facts_for b e) h)) (declared_had b e p) ∙ ap (λ f. whole_is (admit_of f (declared_of f p))) q)
  admitted_then f (Parse.refused m) t = impossible cc

  module _ (ws : List ℕ) {r : Result Facts Refusal} (g : whole_is r ≡ whole_for b (parse (scope_at b) ws)) where
    pub definition_refused : {y : Refusal} → r ≡ Err y → whole_is (Err y) ≡ whole_for b (definition_parsed b p ws)
    unfolding definition_parsed
    definition_refused {y} e = sym (refused_still (number y) (parse (scope_at b) ws) (sym g ∙ ap whole_is e))

    pub definition_admitted : {f : Facts} {s : Result Facts Refusal} {had : Bool} → r ≡ Ok f → had ≡ declared_of f p → s ≡ admit_of f had → whole_is s ≡ whole_for b (definition_parsed b p ws)
    unfolding definition_parsed
    definition_admitted {f} {s} {had} e h a = ap whole_is a ∙ (ap (λ h. whole_is (admit_of f h)) h ∙ sym (admitted_then f (parse (scope_at b) ws) (sym g ∙ ap whole_is e)))

-- a query
query_parsed : Before → Parsed → Parsed
query_parsed b x = elim x [ parsed e ↦ polarized (has_polarity e b.known plus || has_polarity e b.known minus) (draws_closed e b.known) e | Parse.refused n ↦ Parse.refused n ]

module _ (b : Before) where
  query_still : (n : ℕ) (x : Parsed) → whole_for b x ≡ whole.refused n → whole_for b (query_parsed b x) ≡ whole.refused n
  unfolding whole_for query_parsed
  query_still n (parsed e) t = impossible cc
  query_still n (Parse.refused m) t = t

  query_then : (f : Facts) (x : Parsed) → whole_for b x ≡ whole.checked f → whole_for b (query_parsed b x) ≡ whole_is (admit_of f (f.plus || f.minus))
  unfolding whole_for query_parsed facts_for
  query_then f (parsed e) t =
      let q : facts_for b e ≡ f = cc in
      admitted b e (has_polarity e b.known plus || has_polarity e b.known minus) (draws_closed e b.known) refl ∙ ap (λ f. whole_is (admit_of f (f.plus || f.minus))) q
  query_then f (Parse.refused m) t = impossible cc

  module _ (ws : List ℕ) where
    by_length : (t : Bool) → (leb 1 (length ws) && leb (length ws) 1024) ≡ t → query_at b ws ≡ elim t [ true ↦ query_parsed b (parse (scope_at b) ws) | false ↦ Parse.refused bad_word ]
    unfolding check_query query_parsed
    by_length t e = ap (λ t. elim t as (λ c. Parsed) [
      | true ↦ elim (parse (scope_at b) ws) as (λ c. Parsed) [ parsed e ↦ polarized (has_polarity e b.known plus || has_polarity e b.known minus) (draws_closed e b.known) e | Parse.refused n ↦ Parse.refused n ]
      | false ↦ Parse.refused bad_word
    ]) e

    pub query_empty : length ws ≡ 0 → whole.refused bad_word ≡ whole_for b (query_at b ws)
    unfolding whole_for
    query_empty h = sym (ap (whole_for b) (by_length false (rw (lt-leb 1 (length ws) (omega arith)))))

    pub query_long : 1024 < length ws → whole.refused bad_word ≡ whole_for b (query_at b ws)
    unfolding whole_for
    query_long h = sym (ap (whole_for b) (by_length false (rw (le-leb 1 (length ws) (omega arith), lt-leb (length ws) 1024 h))))

    module _ (some : length ws ≢ 0) (few : length ws ≤ 1024) where
      fits : query_at b ws ≡ query_parsed b (parse (scope_at b) ws)
      fits = by_length true (rw (le-leb 1 (length ws) (omega arith), le-leb (length ws) 1024 few))

      module _ {r : Result Facts Refusal} (g : whole_is r ≡ whole_for b (parse (scope_at b) ws)) where
        pub query_refused : {y : Refusal} → r ≡ Err y → whole_is (Err y) ≡ whole_for b (query_at b ws)
        query_refused {y} e = sym (ap (whole_for b) fits ∙ query_still (number y) (parse (scope_at b) ws) (sym g ∙ ap whole_is e))

        pub query_admitted : {f : Facts} {s : Result Facts Refusal} {had : Bool} → r ≡ Ok f → had ≡ (f.plus || f.minus) → s ≡ admit_of f had → whole_is s ≡ whole_for b (query_at b ws)
        query_admitted {f} {s} {had} e h a = ap whole_is a ∙ (ap (λ h. whole_is (admit_of f h)) h ∙ sym (ap (whole_for b) fits ∙ query_then f (parse (scope_at b) ws) (sym g ∙ ap whole_is e)))
