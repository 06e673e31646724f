-- What the steps say, of whatever stands in the words.
use Rattle.std.specs.Prelude.{ℕ, ◌+◌, ◌-◌, ◌≤◌, ◌<◌, ◌≡◌, ◌↔◌, Bool, true, false, List, [], length, get_or, take, drop, Result as Outcome, Ok, Err}
use Rattle.std.proofs.Math.Option.{Option, none, some}
use Rattle.rows.specs.Ordered.{insert}
use Rattle.rows.specs.Row.{Row, row_before}
use Rattle.rows.specs.Sets.{has, combined}
use Rattle.rows.specs.Layout.{set_room, rows_in, set_in}
use Rattle.policy.specs.Syntax.{Term, Slot}
use Rattle.policy.specs.Words.{fresh}
use Rattle.meaning.specs.Values.{Values, row_of}
use Rattle.meaning.specs.Matching.{match}
use Rattle.meaning.specs.Reading.{Result, done, refused, Reading, after, within, small, draw_each}
use Rattle.read_values.specs.Values.{Unchanged}
use Rattle.policy_places.specs.Places.{StandsRow, StandsPattern}
use Rattle.read_values.specs.Answers.{Filled}
use Rattle.read_values.specs.Outcomes.{outcome, IfOk}
use Rattle.refusals.specs.Numbers.{number}
use Rattle.refusals.specs.declared.Refusal.{Refusal}
use Rattle.read_steps.specs.Areas.{Gathering, Kept}
use Rattle.read_steps.specs.declared.Drawn as Drawn

-- ---- answers

-- the values in scope after a match
unfoldable pub matched_is : Bool → List ℕ → ℕ → Option Values
matched_is ok values count = elim ok [ true ↦ some (take count values) | false ↦ none ]

-- drawing on: after a row that matches come the guards that follow, read by `rest`, and then the rows behind it
unfoldable pub drawn_is : ℕ → Outcome Drawn.Drawn Refusal → List ℕ → ℕ → (Values → List Row → Reading (List Row)) → List Slot → Values → List Row → List Row → Result (List Row)
unfolding after draw_each
drawn_is format (Ok (Drawn.TheVariants.Matches next draws)) values scope rest p vs xs found = after (rest (take scope values) found draws) (λ more. draw_each format rest p vs (drop next xs) more)
drawn_is format (Ok (Drawn.TheVariants.End draws)) values scope rest p vs xs found = done found draws
drawn_is format (Err r) values scope rest p vs xs found = refused (number r)

-- a row that matches is one of the n rows from row i on
unfoldable pub Among : Outcome Drawn.Drawn Refusal → ℕ → ℕ → Type 0
Among (Ok (Drawn.TheVariants.Matches next draws)) i n = (i < next) × (next ≤ n)
Among (Ok (Drawn.TheVariants.End draws)) i n = Unit {0}
Among (Err r) i n = Unit {0}

-- with a row that matches, so many variables are in scope, and else as many as before
unfoldable pub InScope : Outcome Drawn.Drawn Refusal → ℕ → ℕ → ℕ → Type 0
InScope (Ok (Drawn.TheVariants.Matches next draws)) before n now = now ≡ n
InScope (Ok (Drawn.TheVariants.End draws)) before n now = now ≡ before
InScope (Err r) before n now = now ≡ before

-- x is the last of xs
abbrev pub IsLast : Row → List Row → Type 0
IsLast x xs = (0 < length xs) × (x ≡ get_or xs (length xs - 1) [])

-- ---- what is said

-- the left set lies at the front, the right one behind it
pub record SayCombined (minus : Bool) (k : ℕ) (entry : List ℕ) (r : Outcome ℕ Refusal) (area : List ℕ) : Type 0 where
  pub filled : IfOk Filled r area
  pub means : small (combined minus (set_in entry) (set_in (drop set_room entry))) k ≡ outcome (set_in area) r

-- whether the row that the terms come to is x
pub record SayIs (ws : List ℕ) (at : ℕ) (vs : Values) (x : Row) (r : Bool) : Type 0 where
  pub means : (n : ℕ) (ts : List Term) → StandsRow n ws at ts → (r ≡ true) ↔ (row_of vs ts ≡ x)

-- whether it is the last of those that the set lists
pub record SayLast (ws : List ℕ) (at : ℕ) (vs : Values) (set : List ℕ) (r : Bool) : Type 0 where
  pub means : (n : ℕ) (ts : List Term) → StandsRow n ws at ts → (r ≡ true) ↔ IsLast (row_of vs ts) (rows_in set)

pub record SayHead (ws : List ℕ) (at : ℕ) (vs : Values) (k : ℕ) (entry : List ℕ) (r : Outcome ℕ Refusal) (area : List ℕ) : Type 0 where
  pub gathering : IfOk Gathering r area
  pub means : (n : ℕ) (ts : List Term) → StandsRow n ws at ts → within (insert row_before (row_of vs ts) (rows_in entry)) k ≡ outcome (rows_in area) r
  pub kept : (free : ℕ) → Kept free entry area

-- a pattern against the row x: whether it matches, and the values then, of which so many are in scope
pub record SayMatch (format : ℕ) (ws : List ℕ) (at : ℕ) (values : List ℕ) (count : ℕ) (x : Row) (ok : Bool) (values_now : List ℕ) (count_now : ℕ) : Type 0 where
  pub unchanged : Unchanged count values values_now
  pub means : (p : List Slot) → StandsPattern count ws at p → match format p (take count values) x ≡ matched_is ok values_now count_now
  pub scope : (p : List Slot) → StandsPattern count ws at p → ok ≡ true → count_now ≡ count + fresh p
  pub back : ok ≡ false → count_now ≡ count

-- whether the row that the terms come to belongs to the set
pub record SayHas (ws : List ℕ) (at : ℕ) (vs : Values) (set : List ℕ) (r : Bool) : Type 0 where
  pub means : (n : ℕ) (ts : List Term) → StandsRow n ws at ts → has (set_in set) (row_of vs ts) ≡ r

-- the rows xs drawn from row i on, whatever reads the guards that follow
pub record SayDrawn (format : ℕ) (ws : List ℕ) (at : ℕ) (values : List ℕ) (count : ℕ) (xs : List Row) (i k : ℕ) (r : Outcome Drawn.Drawn Refusal) (values_now : List ℕ) (count_now : ℕ) : Type 0 where
  pub unchanged : Unchanged count values values_now
  pub among : Among r i (length xs)
  pub scope : (p : List Slot) → StandsPattern count ws at p → InScope r count (count + fresh p) count_now
  pub means : (p : List Slot) → StandsPattern count ws at p → (rest : Values → List Row → Reading (List Row)) (found : List Row) →
      draw_each format rest p (take count values) (drop i xs) found k ≡ drawn_is format r values_now count_now rest p (take count values) xs found
