-- Document 01, "Reading": the set that an expression is read as, with the draws counted and refusals 12, 13 and 14 where they are first met.
use Rattle.std.specs.Prelude.{ℕ, ◌+◌, List, [], ◌∷◌, leb, ltb, eqb, length, get_or}
use Rattle.std.proofs.Math.Bool.{true, false}
use Rattle.std.proofs.Math.Option.{Option, none, some}
use Rattle.refusals.specs.RefusalTable.{complement_drawn, too_many_rows, too_many_draws}
use Rattle.rows.specs.Ordered.{insert}
use Rattle.rows.specs.Row.{Row, row_before}
use Rattle.rows.specs.Name.{Polarity, plus}
use Rattle.rows.specs.Sets.{RowSet, only, all_but, listing, most_rows, has, unite, subtract}
use Rattle.policy.specs.OwnKey.{Origin, by_certificates, by_definition}
use Rattle.policy.specs.Leaf.{Leaf, finite, cofinite, definition, listed, vetted}
use Rattle.policy.specs.Syntax.{Term, Slot, Expr, leaf, union, difference, comprehension, Body, head, draw, same, different, absent}
use Rattle.meaning.specs.Values.{Values, value, row_of}
use Rattle.meaning.specs.Evidence.{Evidence}
use Rattle.meaning.specs.Matching.{match}

infixl 1 ◌>>=◌ ◌>>◌
pub data Result (A : Type 0) : Type 0 where
  done : A → ℕ → Result A  -- the value, the draws made so far
  refused : ℕ → Result A

-- a reading goes from the draws made before it to an answer
abbrev pub Reading : Type 0 → Type 0
Reading A = ℕ → Result A

unfoldable pub after : {A B : Type 0} → Result A → (A → Reading B) → Result B
after (done a k) f = f a k
after (refused n) f = refused n

abbrev pub ◌>>=◌ : {A B : Type 0} → Reading A → (A → Reading B) → Reading B
◌>>=◌ m f = λ k. after (m k) f

abbrev pub ◌>>◌ : {A B : Type 0} → Reading A → Reading B → Reading B
◌>>◌ m n = λ k. after (m k) (λ _. n)

abbrev pub give : {A : Type 0} → A → Reading A
give a = λ k. done a k

abbrev pub refuse : {A : Type 0} → ℕ → Reading A
refuse n = λ k. refused n

-- 13: "a value lists over 128 rows"
unfoldable pub within : List Row → Reading (List Row)
within xs = elim (leb (length xs) most_rows) [ true ↦ give xs | false ↦ refuse too_many_rows ]

unfoldable pub small : RowSet → Reading RowSet
unfolding listing
small s = elim (leb (length (listing s)) most_rows) [ true ↦ give s | false ↦ refuse too_many_rows ]

-- the rows of a set to draw from; 12: "a complement is drawn from while reading"
unfoldable pub drawable : RowSet → Reading (List Row)
drawable (only xs) = give xs
drawable (all_but xs) = refuse complement_drawn

-- one more draw; 14: "a draw is due and 1,000,000 were made"
unfoldable pub tick : Reading (Unit {0})
tick = λ k. elim (ltb k 1000000) [ true ↦ done tt (k + 1) | false ↦ refused too_many_draws ]

-- the rows written there, "repeats count once"
unfoldable pub rows_of : Values → List (List Term) → List Row
unfolding row_of insert row_before
rows_of vs [] = []
rows_of vs (r ∷ rs) = insert row_before (row_of vs r) (rows_of vs rs)

-- what one drawn row adds to the rows found so far: nothing where the pattern does not match
unfoldable pub on_match : (Values → List Row → Reading (List Row)) → List Row → Option Values → Reading (List Row)
on_match rest found none = give found
on_match rest found (some vs) = rest vs found

-- "A draw is one row taken from a drawn set in ascending order, matching or not"; `rest` reads the guards that follow
unfoldable pub draw_each : ℕ → (Values → List Row → Reading (List Row)) → List Slot → Values → List Row → List Row → Reading (List Row)
unfolding after tick match on_match
draw_each format rest p vs [] found = give found
draw_each format rest p vs (x ∷ xs) found = do
  tick
  more ← on_match rest found (match format p vs x)
  draw_each format rest p vs xs more

-- `names` is the evidence, `sets` are the sets read for the earlier definitions
module _ (names : Evidence) (sets : List RowSet) where
  -- a name of this key. Document 02, N7: an own name "reads the definition of that name and polarity"
  unfoldable pub read_name : ℕ → ℕ → Polarity → Origin → Reading RowSet
  unfolding small
  read_name k n p by_certificates = small (names k n p)
  read_name k n p (by_definition d) = give (get_or sets d (only []))

  unfoldable pub read_leaf : Leaf → Values → Reading RowSet
  unfolding rows_of value small read_name has
  read_leaf (finite rs) vs = small (only (rows_of vs rs))
  read_leaf (cofinite rs) vs = small (all_but (rows_of vs rs))
  read_leaf (definition d) vs = give (get_or sets d (only []))
  read_leaf (listed t n p o) vs = read_name (value vs t) n p o
  -- document 02, N2: "that key's list if the one-atom row of the issuer is absent from that definition, and no rows otherwise"
  read_leaf (vetted t n o d) vs = elim (has (get_or sets d (only [])) (value vs t ∷ [])) [ true ↦ give (only []) | false ↦ read_name (value vs t) n plus o ]

-- in a policy of this format
module _ (format : ℕ) (names : Evidence) (sets : List RowSet) where
  unfoldable mutual
    unfolding read_leaf row_of value small within drawable after draw_each has unite subtract insert row_before

    pub read : Expr → Values → Reading RowSet
    read (leaf x) vs = read_leaf names sets x vs
    read (union a b) vs = do
      x ← read a vs
      y ← read b vs
      small (unite x y)
    read (difference a b) vs = do
      s ← read a vs
      t ← read b vs
      small (subtract s t)
    read (comprehension b) vs = do
      xs ← gather b vs []
      give (only xs)

    -- the rows found so far, with the head's row for each binding that passes the guards; "guards after a failed one are not read"
    pub gather : Body → Values → List Row → Reading (List Row)
    gather (head r) vs found = within (insert row_before (row_of vs r) found)
    gather (draw e p rest) vs found = do
      s ← read e vs
      xs ← drawable s
      draw_each format (λ ws more. gather rest ws more) p vs xs found
    gather (same x y rest) vs found = elim (eqb (value vs x) (value vs y)) [ true ↦ gather rest vs found | false ↦ give found ]
    gather (different x y rest) vs found = elim (eqb (value vs x) (value vs y)) [ true ↦ give found | false ↦ gather rest vs found ]
    gather (absent r e rest) vs found = do
      s ← read e vs
      elim (has s (row_of vs r)) [ true ↦ give found | false ↦ gather rest vs found ]
