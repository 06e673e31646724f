-- The bounds that users rely on: the rows of an answer against every world in which the certificates and links held are true, whatever format the policy has.
use Prim.Native.Nat.{ℕ}
use mathlib.Core.Path.{◌≡◌, refl, sym, ◌∙◌}
use mathlib.Core.Logic.{◌↔◌}
use mathlib.Core.List.{List, []}
use lib.Dec.{T}
use Rattle.rows.specs.Row.{Row, IsRow}
use Rattle.rows.specs.Name.{Polarity, plus, minus}
use Rattle.rows.specs.Sets.{RowSet, has}
use Rattle.rows.proofs.Case.{T_decided, ◌then◌}
use Rattle.certificates.specs.Stores.{Held}
use Rattle.certificates.proofs.Both.{Within}
use Rattle.policy.specs.Format.{format_of}
use Rattle.policy.specs.Syntax.{Expr}
use Rattle.policy.specs.Polarity.{scope_of, has_polarity, Verdict, exact, lower, upper}
use Rattle.policy.specs.Checking.{checked, check}
use Rattle.policy.proofs.Judging.{AcceptedPair, check_accepted}
use Rattle.meaning.specs.Evidence.{names_held}
use Rattle.meaning.specs.World.{World, AllTrue, Below, AboutRows}
use Rattle.meaning.specs.Model.{Minimal}
use Rattle.meaning.specs.Belonging.{meanings, BelongsTo}
use Rattle.meaning.specs.Faithful.{Tidy}
use Rattle.meaning.specs.Monotone.{Along}
use Rattle.meaning.proofs.Claims.{along_same}
use Rattle.meaning.proofs.Proper.{read_tidy}
use Rattle.meaning.proofs.Faithful.{read_rows}
use Rattle.meaning.proofs.Monotone.{monotone}
use Rattle.meaning.proofs.Model.{held_names_proper, minimal, minimal_is, held_shows}
use Rattle.meaning.proofs.Exact.{read_same, read_steady}
use Rattle.demands.specs.Query.{answered, read_from, Call}
use Rattle.demands.specs.Demand2.{CallWords, InQuery}
use Rattle.demands.specs.Demand3.{Bounds}
use Rattle.demands.proofs.Definitions.{parsed_sound, no_values, ways, Reached, reached, none_agree, none_tidy}

pub in_query : (c : Call) (es : List Expr) (q : Expr) (v : Verdict) → check c.our_key c.policy c.query ≡ checked es q v → (W : World) (r : Row) →
    InQuery c W r ≡ BelongsTo (format_of c.policy) W es q r
unfolding InQuery
in_query c es q v f W r = rw (f, InQuery)

-- a checked policy and query
module _ (c : Call) (words : CallWords c) (es : List Expr) (q : Expr) (v : Verdict) (passes : check c.our_key c.policy c.query ≡ checked es q v) where
  abbrev format : ℕ
  format = format_of c.policy

  accepted_pair : AcceptedPair c.our_key c.policy c.query es q v
  accepted_pair = check_accepted c.our_key c.policy c.query es q v passes

  -- the query follows its polarity from a world to one above it
  follows : (W U : World) → Below W U → (p : Polarity) → T (has_polarity q accepted_pair.known p) → (r : Row) → Along p (BelongsTo format W es q r) (BelongsTo format U es q r)
  unfolding BelongsTo
  follows W U b p t r =
      monotone format W U b accepted_pair.known (meanings format W es []) (meanings format U es [])
      (ways format W U b accepted_pair.definitions [] [] refl refl (λ d s. along_same plus ⊥)) q p t [] r

  -- an answer from what is held, in its minimal model
  module _ (h : Held) (about : AboutRows h) (W : World) (least : Minimal h W) (w : Verdict) (j : ℕ) (S : RowSet)
      (answer : read_from format (names_held h) es q v [] 0 ≡ answered w j S) where
    pub end : Reached format (names_held h) (meanings format W es []) q S j
    end = reached format (names_held h) W (held_shows h about W least) (held_names_proper h about) c.our_key c.policy words.policy q v
        accepted_pair.definitions [] [] 0 refl none_agree none_tidy w j S answer

    pub tidy : Tidy S
    tidy =
        let o = parsed_sound (scope_of c.our_key accepted_pair.known) c.query q accepted_pair.asked.parses words.query in
        read_tidy format (names_held h) end.sets (held_names_proper h about) end.tidy q (scope_of c.our_key accepted_pair.known) 0 o.fit o.words [] no_values end.draws S j end.last

    -- its rows are those that belong to the query there
    pub in_minimal : (r : Row) → IsRow r → T (has S r) ↔ BelongsTo format W es q r
    unfolding BelongsTo
    in_minimal r i =
        let o = parsed_sound (scope_of c.our_key accepted_pair.known) c.query q accepted_pair.asked.parses words.query in
        read_rows format (names_held h) W (held_shows h about W least) (held_names_proper h about) end.sets (meanings format W es []) end.agree end.tidy
        q (scope_of c.our_key accepted_pair.known) 0 o.fit o.words [] no_values end.draws S j end.last r i

    lower_rows_lem : T (has_polarity q accepted_pair.known plus) → (r : Row) → IsRow r → T (has S r) ↔ ((U : World) → AllTrue U h → BelongsTo format U es q r)
    lower_rows_lem t r i = (
      λ b U a. (follows W U (least.least U a) plus t r).go ((in_minimal r i).0 b),
      λ f. (in_minimal r i).1 (f W least.satisfies),
    )

    upper_rows_lem : T (has_polarity q accepted_pair.known minus) → (r : Row) → IsRow r → (¬ T (has S r)) ↔ ((U : World) → AllTrue U h → ¬ BelongsTo format U es q r)
    upper_rows_lem t r i = (
      λ n U a b. n ((in_minimal r i).1 ((follows W U (least.least U a) minus t r).go b)),
      λ f b. f W least.satisfies ((in_minimal r i).0 b),
    )

    exact_rows_lem : T (has_polarity q accepted_pair.known plus) → T (has_polarity q accepted_pair.known minus) → (U : World) → AllTrue U h → (r : Row) → IsRow r →
        T (has S r) ↔ BelongsTo format U es q r
    exact_rows_lem t u U a r i = in_minimal r i then ((follows W U (least.least U a) plus t r).go, (follows W U (least.least U a) minus u r).go)

  -- what the verdict promises
  module _ (h : Held) (about : AboutRows h) (w : Verdict) (j : ℕ) (S : RowSet) (answer : read_from format (names_held h) es q v [] 0 ≡ answered w j S) where
    W₀ : World
    W₀ = minimal h about

    least : Minimal h W₀
    unfolding W₀
    least = minimal_is h about

    pub answer_tidy : Tidy S
    answer_tidy = tidy h about W₀ least w j S answer

    pub bounds : Bounds h c v S
    bounds = record {
      lower_rows = λ e r i.
          let x = lower_rows_lem h about W₀ least w j S answer (accepted_pair.asked.is_lower e) r i in
          (λ b U a. rw (in_query c es q v passes U r) (x.0 b U a), λ f. x.1 (λ U a. rw (in_query c es q v passes U r) at (f U a)));
      upper_rows = λ e r i.
          let x = upper_rows_lem h about W₀ least w j S answer (accepted_pair.asked.is_upper e) r i in
          (λ n U a b. x.0 n U a (rw (in_query c es q v passes U r) at b), λ f. x.1 (λ U a b. f U a (rw (in_query c es q v passes U r) b)));
      exact_rows = λ e U a r i.
          rw (in_query c es q v passes U r)
          (exact_rows_lem h about W₀ least w j S answer (accepted_pair.asked.is_exact e).0 (accepted_pair.asked.is_exact e).1 U a r i);
    }

  -- two points of a list: what is held at the first is held at the second
  module _ (h i : Held) (about : AboutRows h) (about' : AboutRows i) (more : Within h i) (w w' : Verdict) (j j' : ℕ) (S S' : RowSet)
      (first : read_from format (names_held h) es q v [] 0 ≡ answered w j S) (second : read_from format (names_held i) es q v [] 0 ≡ answered w' j' S') where
    -- a world where all of the second is true is one where all of the first is
    still_true : (U : World) → AllTrue U i → AllTrue U h
    still_true U a = record { certificates = λ x k. a.certificates x (more.certificates x k); links = λ l k. a.links l (more.links l k) }

    pub lower_grows_lem : v ≡ lower → (r : Row) → IsRow r → T (has S r) → T (has S' r)
    lower_grows_lem e r d b = ((bounds i about' w' j' S' second).lower_rows e r d).1 (λ U a. ((bounds h about w j S first).lower_rows e r d).0 b U (still_true U a))

    pub upper_shrinks_lem : v ≡ upper → (r : Row) → IsRow r → T (has S' r) → T (has S r)
    upper_shrinks_lem e r d b = T_decided (has S r) (λ n.
        ((bounds i about' w' j' S' second).upper_rows e r d).1 (λ U a. ((bounds h about w j S first).upper_rows e r d).0 n U (still_true U a)) b)

    pub exact_stays_lem : v ≡ exact → S ≡ S'
    exact_stays_lem e =
        let x = end h about (minimal h about) (minimal_is h about) w j S first in
        let y = end i about' (minimal i about') (minimal_is i about') w' j' S' second in
        let t = accepted_pair.asked.is_exact e in
        read_steady format (names_held i) y.sets q [] x.draws y.draws j j' S S'
        (sym (read_same format (names_held h) (names_held i) x.sets y.sets accepted_pair.known q t.0 t.1 [] x.draws) ∙ x.last) y.last
