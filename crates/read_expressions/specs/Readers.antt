-- What the readers ask and what they say, of whatever stands in the words. `values` are those lent to a reader, of which the first `count` are in scope;
-- `vs` are these.
use Rattle.std.specs.Prelude.{ℕ, ◌+◌, ◌*◌, ◌≤◌, ◌≡◌, Bool, List, [], length, take, drop, Result as Outcome}
use Rattle.rows.specs.Row.{Row}
use Rattle.rows.specs.Sets.{RowSet, has, combined}
use Rattle.rows.specs.Layout.{set_room, rows_in, set_in}
use Rattle.policy.specs.Syntax.{Term, Slot, Expr, Body, draw, absent}
use Rattle.policy.specs.Words.{fresh}
use Rattle.policy.specs.Parse.{parse, parsed}
use Rattle.meaning.specs.Values.{Values, row_of}
use Rattle.meaning.specs.Reading.{Result, done, Reading, after, small, draw_each, read, gather}
use Rattle.read_values.specs.Values.{Bound, Unchanged}
use Rattle.policy_places.specs.Places.{Stands, StandsRow, StandsPattern, StandsBody, StandsTwo, StandsDraw, StandsAbsent}
use Rattle.read_values.specs.Answers.{Filled}
use Rattle.read_values.specs.Outcomes.{outcome, tested, IfOk}
use Rattle.read_values.specs.From.{From, scope_in, names, sets, SoundFrom}
use Rattle.read_steps.specs.Areas.{Gathering, Kept}
use Rattle.read_expressions.specs.Room.{room_of, body_room}
use Rattle.refusals.specs.declared.Refusal.{Refusal}

abbrev pub reading : From → Expr → Values → Reading RowSet
reading f = read f.format (names f) (sets f)

abbrev pub gathering : From → Body → Values → List Row → Reading (List Row)
gathering f = gather f.format (names f) (sets f)

-- ---- an expression: whichever stands there is read as `a`, k draws being made before

pub record Means (f : From) (ws : List ℕ) (at count : ℕ) (vs : Values) (k : ℕ) (a : Result RowSet) : Type 0 where
  pub says : (e : Expr) → Stands (scope_in f) count ws at e → reading f e vs k ≡ a

pub record AskExpr (f : From) (ws : List ℕ) (at : ℕ) (values : List ℕ) (count : ℕ) (area : List ℕ) : Type 0 where
  pub sound : SoundFrom f
  pub bound : Bound values count
  pub e : Expr
  pub here : Stands (scope_in f) count ws at e
  pub room : set_room * room_of e ≤ length area

pub record SayExpr (f : From) (ws : List ℕ) (at : ℕ) (values : List ℕ) (count k : ℕ) (r : Outcome ℕ Refusal) (values_now area : List ℕ) : Type 0 where
  pub unchanged : Unchanged count values values_now
  pub filled : IfOk Filled r area
  pub means : Means f ws at count (take count values) k (outcome (set_in area) r)

-- whether the row that the terms written at `row` come to belongs to it
pub record MeansHas (f : From) (ws : List ℕ) (at row count : ℕ) (vs : Values) (k : ℕ) (a : Result Bool) : Type 0 where
  pub says : (e : Expr) → Stands (scope_in f) count ws at e → (ts : List Term) → StandsRow count ws row ts →
      after (reading f e vs k) (λ s i. done (has s (row_of vs ts)) i) ≡ a

pub record AskHas (f : From) (ws : List ℕ) (at row : ℕ) (values : List ℕ) (count : ℕ) (area : List ℕ) : Type 0 where
  pub ask : AskExpr f ws at values count area
  pub ts : List Term
  pub tested : StandsRow count ws row ts

pub record SayExprHas (f : From) (ws : List ℕ) (at row : ℕ) (values : List ℕ) (count k : ℕ) (r : Outcome (Bool × ℕ) Refusal) (values_now : List ℕ) : Type 0 where
  pub unchanged : Unchanged count values values_now
  pub means : MeansHas f ws at row count (take count values) k (tested r)

-- ---- a union or a difference

pub record MeansTwo (f : From) (ws : List ℕ) (at : ℕ) (minus : Bool) (count : ℕ) (vs : Values) (k : ℕ) (a : Result RowSet) : Type 0 where
  pub says : (x y : Expr) → StandsTwo (scope_in f) count ws at x y →
      after (reading f x vs k) (λ s i. after (reading f y vs i) (λ t. small (combined minus s t))) ≡ a

pub record AskTwo (f : From) (ws : List ℕ) (at : ℕ) (values : List ℕ) (count : ℕ) (area : List ℕ) : Type 0 where
  pub sound : SoundFrom f
  pub bound : Bound values count
  pub x : Expr
  pub y : Expr
  pub here : StandsTwo (scope_in f) count ws at x y
  pub left : set_room * room_of x ≤ length area
  pub right : set_room + set_room * room_of y ≤ length area

pub record SayTwo (f : From) (ws : List ℕ) (at : ℕ) (minus : Bool) (values : List ℕ) (count k : ℕ) (r : Outcome ℕ Refusal) (values_now area : List ℕ) : Type 0 where
  pub unchanged : Unchanged count values values_now
  pub filled : IfOk Filled r area
  pub means : MeansTwo f ws at minus count (take count values) k (outcome (set_in area) r)

-- ---- the guards of a comprehension: with the rows found so far they gather `a`. From `free` on the area is theirs

pub record MeansBody (f : From) (ws : List ℕ) (at left count : ℕ) (vs : Values) (k : ℕ) (found : List Row) (a : Result (List Row)) : Type 0 where
  pub says : (b : Body) → StandsBody (scope_in f) count ws at left b → gathering f b vs found k ≡ a

pub record MeansDraw (f : From) (ws : List ℕ) (at left count : ℕ) (vs : Values) (k : ℕ) (found : List Row) (a : Result (List Row)) : Type 0 where
  pub says : (e : Expr) (p : List Slot) (b : Body) → StandsDraw (scope_in f) count ws at left e p b → gathering f (draw e p b) vs found k ≡ a

-- the rows xs, drawn in turn: the pattern stands at one place, the guards that follow at another
pub record MeansEach (f : From) (ws : List ℕ) (pattern rest left count : ℕ) (vs : Values) (xs : List Row) (k : ℕ) (found : List Row) (a : Result (List Row)) : Type 0 where
  pub says : (p : List Slot) (b : Body) → StandsPattern count ws pattern p → StandsBody (scope_in f) (count + fresh p) ws rest left b →
      draw_each f.format (gathering f b) p vs xs found k ≡ a

pub record MeansAbsent (f : From) (ws : List ℕ) (at left count : ℕ) (vs : Values) (k : ℕ) (found : List Row) (a : Result (List Row)) : Type 0 where
  pub says : (r : List Term) (e : Expr) (b : Body) → StandsAbsent (scope_in f) count ws at left r e b → gathering f (absent r e b) vs found k ≡ a

-- what all four ask
pub record AskGuards (f : From) (values : List ℕ) (count : ℕ) (area : List ℕ) (free : ℕ) : Type 0 where
  pub sound : SoundFrom f
  pub bound : Bound values count
  pub gathering : Gathering area
  pub behind : set_room ≤ free

pub record AskBody (f : From) (ws : List ℕ) (at left : ℕ) (values : List ℕ) (count : ℕ) (area : List ℕ) (free : ℕ) : Type 0 where
  pub ask : AskGuards f values count area free
  pub b : Body
  pub here : StandsBody (scope_in f) count ws at left b
  pub room : free + set_room * body_room b ≤ length area

pub record AskDraw (f : From) (ws : List ℕ) (at left : ℕ) (values : List ℕ) (count : ℕ) (area : List ℕ) (free : ℕ) : Type 0 where
  pub ask : AskGuards f values count area free
  pub e : Expr
  pub p : List Slot
  pub b : Body
  pub here : StandsDraw (scope_in f) count ws at left e p b
  pub room : free + set_room * room_of e ≤ length area
  pub rest : free + set_room + set_room * body_room b ≤ length area

-- the set that is drawn from lies at `free`
pub record AskEach (f : From) (ws : List ℕ) (pattern rest left : ℕ) (values : List ℕ) (count : ℕ) (area : List ℕ) (free : ℕ) : Type 0 where
  pub ask : AskGuards f values count area free
  pub p : List Slot
  pub b : Body
  pub slots : StandsPattern count ws pattern p
  pub here : StandsBody (scope_in f) (count + fresh p) ws rest left b
  pub drawn : Filled (drop free area)
  pub room : free + set_room + set_room * body_room b ≤ length area

pub record AskAbsent (f : From) (ws : List ℕ) (at left : ℕ) (values : List ℕ) (count : ℕ) (area : List ℕ) (free : ℕ) : Type 0 where
  pub ask : AskGuards f values count area free
  pub r : List Term
  pub e : Expr
  pub b : Body
  pub here : StandsAbsent (scope_in f) count ws at left r e b
  pub room : free + set_room * room_of e ≤ length area
  pub rest : free + set_room * body_room b ≤ length area

-- what all four say, M being what is gathered
pub record SayGuards (M : Result (List Row) → Type 0) (values : List ℕ) (count free : ℕ) (entry : List ℕ) (r : Outcome ℕ Refusal) (values_now area : List ℕ) : Type 0 where
  pub unchanged : Unchanged count values values_now
  pub gathering : IfOk Gathering r area
  pub kept : Kept free entry area
  pub means : M (outcome (rows_in area) r)

abbrev pub SayBody : From → List ℕ → ℕ → ℕ → List ℕ → ℕ → ℕ → ℕ → List ℕ → Outcome ℕ Refusal → List ℕ → List ℕ → Type 0
SayBody f ws at left values count k free entry = SayGuards (MeansBody f ws at left count (take count values) k (rows_in entry)) values count free entry

abbrev pub SayDraw : From → List ℕ → ℕ → ℕ → List ℕ → ℕ → ℕ → ℕ → List ℕ → Outcome ℕ Refusal → List ℕ → List ℕ → Type 0
SayDraw f ws at left values count k free entry = SayGuards (MeansDraw f ws at left count (take count values) k (rows_in entry)) values count free entry

abbrev pub SayEach : From → List ℕ → ℕ → ℕ → ℕ → List ℕ → ℕ → ℕ → ℕ → List ℕ → Outcome ℕ Refusal → List ℕ → List ℕ → Type 0
SayEach f ws pattern rest left values count k free entry =
    SayGuards (MeansEach f ws pattern rest left count (take count values) (rows_in (drop free entry)) k (rows_in entry)) values count free entry

abbrev pub SayAbsent : From → List ℕ → ℕ → ℕ → List ℕ → ℕ → ℕ → ℕ → List ℕ → Outcome ℕ Refusal → List ℕ → List ℕ → Type 0
SayAbsent f ws at left values count k free entry = SayGuards (MeansAbsent f ws at left count (take count values) k (rows_in entry)) values count free entry

-- ---- a whole definition or query

pub record AskWhole (f : From) (ws area : List ℕ) : Type 0 where
  pub sound : SoundFrom f
  pub e : Expr
  pub parses : parse (scope_in f) ws ≡ parsed e
  pub long : 16384 ≤ length area

pub record SayWhole (f : From) (ws : List ℕ) (k : ℕ) (r : Outcome ℕ Refusal) (area : List ℕ) : Type 0 where
  pub filled : IfOk Filled r area
  pub means : (e : Expr) → parse (scope_in f) ws ≡ parsed e → reading f e [] k ≡ outcome (set_in area) r
