-- Small readings, by computation: what document 01's section "Reading" says of draws, of guards and of refusal 13, and document 02 of code 8, of formats
-- and of own names.
use Prim.Native.Nat.{ℕ, zero, suc}
use mathlib.Core.Path.{◌≡◌, refl}
use mathlib.Core.List.{List, [], ◌∷◌, map}
use Rattle.refusals.specs.RefusalTable.{complement_drawn, too_many_rows}
use Rattle.rows.specs.Word.{All}
use Rattle.rows.specs.Row.{Row}
use Rattle.rows.specs.Name.{plus, minus}
use Rattle.rows.specs.Sets.{RowSet, only, all_but}
use Rattle.policy.specs.Format.{equal_widths, wider_rows}
use Rattle.policy.specs.OwnKey.{by_certificates, by_definition}
use Rattle.policy.specs.Leaf.{finite, cofinite, listed, vetted}
use Rattle.policy.specs.Syntax.{Term, atom, var, Slot, old, new, Expr, leaf, union, difference, comprehension, head, draw, same, different, absent}
use Rattle.meaning.specs.Evidence.{names_held}
use Rattle.meaning.specs.Reading.{Result, done, refused, read}

-- what is read in format 1 and in format 2
pub record Trial : Type 0 where
  pub expr : Expr
  pub answer : Result RowSet
  pub wider : Result RowSet

-- the same in either
abbrev pub in_either : Expr → Result RowSet → Trial
in_either e a = record { expr = e; answer = a; wider = a }

-- nothing is held
abbrev read_in : ℕ → Expr → Result RowSet
read_in format e = read format (names_held (record { certificates = []; links = [] })) [] e [] 0

unfoldable pub Holds : Trial → Type 0
unfolding read names_held
Holds t = (read_in equal_widths t.expr ≡ t.answer) × (read_in wider_rows t.expr ≡ t.wider)

-- n rows of one atom, from `base` on
one_atom : ℕ → ℕ → List (List Term)
one_atom base zero = []
one_atom base (suc n) = (atom base ∷ []) ∷ one_atom (suc base) n

k1 : ℕ
k1 = 2147483649

unfoldable pub trials : List Trial
unfolding one_atom k1
trials =
    -- "matching or not": a row of another width, and one that differs from the pattern's atom, are draws too
    record { expr = comprehension (draw (leaf (finite ((atom 5 ∷ []) ∷ (atom 7 ∷ atom 8 ∷ []) ∷ []))) (new ∷ []) (head (var 0 ∷ []))); answer = done (only ((5 ∷ []) ∷ [])) 2; wider = done (only ((5 ∷ []) ∷ (7 ∷ []) ∷ [])) 2 }
    ∷ in_either (comprehension (draw (leaf (finite ((atom 5 ∷ []) ∷ (atom 6 ∷ []) ∷ []))) (old (atom 6) ∷ []) (head (atom 1 ∷ [])))) (done (only ((1 ∷ []) ∷ [])) 2)
    -- "guards after a failed one are not read": the second draw is never reached
    ∷ in_either (comprehension (same (atom 1) (atom 2) (draw (leaf (finite ((atom 5 ∷ []) ∷ []))) (new ∷ []) (head (var 0 ∷ []))))) (done (only []) 0)
    -- "same and different, if the two atoms are equal or differ"
    ∷ in_either (comprehension (same (atom 1) (atom 1) (head (atom 3 ∷ [])))) (done (only ((3 ∷ []) ∷ [])) 0)
    ∷ in_either (comprehension (different (atom 1) (atom 2) (head (atom 3 ∷ [])))) (done (only ((3 ∷ []) ∷ [])) 0)
    -- "an operand is read each time its guard is reached": 2 draws, and 1 inside the operand for each of them
    ∷ in_either (comprehension (draw (leaf (finite ((atom 5 ∷ []) ∷ (atom 6 ∷ []) ∷ []))) (new ∷ [])
    (absent (var 0 ∷ []) (comprehension (draw (leaf (finite ((atom 6 ∷ []) ∷ []))) (new ∷ []) (head (var 1 ∷ [])))) (head (var 0 ∷ []))))) (done (only ((5 ∷ []) ∷ [])) 4)
    -- 12 and 13: "13 comes after both parts of a union or difference are read"
    ∷ in_either (comprehension (draw (leaf (cofinite [])) (new ∷ []) (head (var 0 ∷ [])))) (refused complement_drawn)
    ∷ in_either (union (leaf (finite (one_atom 1 100))) (leaf (finite (one_atom 1000 29)))) (refused too_many_rows)
    ∷ in_either (difference (difference (leaf (cofinite (one_atom 1 100))) (leaf (finite (one_atom 1000 28)))) (leaf (cofinite []))) (done (only []) 0)
    ∷ in_either (union (leaf (finite (one_atom 1 128))) (comprehension (draw (leaf (cofinite [])) (new ∷ []) (head (var 0 ∷ []))))) (refused complement_drawn)
    -- a − name of which nothing is held has all rows, not none; a number's list has none with + and all with −
    ∷ in_either (comprehension (absent (atom 7 ∷ []) (leaf (listed (atom k1) 2 minus by_certificates)) (head (atom 7 ∷ [])))) (done (only []) 0)
    ∷ in_either (leaf (listed (atom 5) 2 plus by_certificates)) (done (only []) 0)
    ∷ in_either (leaf (listed (atom 5) 2 minus by_certificates)) (done (all_but []) 0)
    ∷ []

pub readings : All Holds trials
unfolding Holds trials All
readings = ((refl, refl), ((refl, refl), ((refl, refl), ((refl, refl), ((refl, refl), ((refl, refl), ((refl, refl), ((refl, refl), ((refl, refl), ((refl, refl), ((refl, refl), ((refl, refl), ((refl, refl), tt)))))))))))))

-- Document 02, N6: "In a policy of format 2 a pattern of width w matches every row of at least w atoms by its first w. Format 1 keeps equal widths."

-- draws from rows written there, by a pattern; the head has these variables
drawn : List Row → List Slot → List Term → Expr
drawn xs p h = comprehension (draw (leaf (finite (map (map atom) xs))) p (head h))

-- rows of one to four atoms
widths : List Row
widths = (1 ∷ []) ∷ (2 ∷ 9 ∷ []) ∷ (3 ∷ 9 ∷ 8 ∷ []) ∷ (4 ∷ 9 ∷ 8 ∷ 7 ∷ []) ∷ []

twice : List Row
twice = (5 ∷ []) ∷ (5 ∷ 5 ∷ []) ∷ (5 ∷ 6 ∷ []) ∷ (6 ∷ 6 ∷ 7 ∷ []) ∷ (6 ∷ 7 ∷ 7 ∷ []) ∷ []

unfoldable pub matchings : List Trial
unfolding drawn widths twice
matchings =
    -- each row is a draw, in either format
    record { expr = drawn widths (new ∷ []) (var 0 ∷ []); answer = done (only ((1 ∷ []) ∷ [])) 4; wider = done (only ((1 ∷ []) ∷ (2 ∷ []) ∷ (3 ∷ []) ∷ (4 ∷ []) ∷ [])) 4 }
    ∷ record { expr = drawn widths (new ∷ new ∷ []) (var 0 ∷ var 1 ∷ []); answer = done (only ((2 ∷ 9 ∷ []) ∷ [])) 4; wider = done (only ((2 ∷ 9 ∷ []) ∷ (3 ∷ 9 ∷ []) ∷ (4 ∷ 9 ∷ []) ∷ [])) 4 }
    ∷ record { expr = drawn widths (new ∷ new ∷ new ∷ []) (var 0 ∷ []); answer = done (only ((3 ∷ []) ∷ [])) 4; wider = done (only ((3 ∷ []) ∷ (4 ∷ []) ∷ [])) 4 }
    ∷ in_either (drawn widths (new ∷ new ∷ new ∷ new ∷ []) (var 0 ∷ [])) (done (only ((4 ∷ []) ∷ [])) 4)
    -- a variable from earlier in the pattern, within the first atoms
    ∷ record { expr = drawn twice (new ∷ old (var 0) ∷ []) (var 0 ∷ []); answer = done (only ((5 ∷ []) ∷ [])) 5; wider = done (only ((5 ∷ []) ∷ (6 ∷ []) ∷ [])) 5 }
    -- an atom: (8, 9, 4) has it, but not first
    ∷ record { expr = drawn ((8 ∷ 9 ∷ 4 ∷ []) ∷ (9 ∷ 1 ∷ []) ∷ (9 ∷ 2 ∷ 3 ∷ []) ∷ []) (old (atom 9) ∷ new ∷ []) (var 0 ∷ []); answer = done (only ((1 ∷ []) ∷ [])) 3; wider = done (only ((1 ∷ []) ∷ (2 ∷ []) ∷ [])) 3 }
    -- an absent guard's row is a whole row: 7 is not listed where (7, 1) is
    ∷ in_either (comprehension (absent (atom 7 ∷ []) (leaf (finite ((atom 7 ∷ atom 1 ∷ []) ∷ []))) (head (atom 7 ∷ [])))) (done (only ((7 ∷ []) ∷ [])) 0)
    ∷ []

pub matched : All Holds matchings
unfolding Holds matchings All
matched = ((refl, refl), ((refl, refl), ((refl, refl), ((refl, refl), ((refl, refl), ((refl, refl), ((refl, refl), tt)))))))

-- code 8 over one definition: the set read for that, the rows of every key's list, and what is read
pub record Vetting : Type 0 where
  pub set : RowSet
  pub list : List Row
  pub answer : Result RowSet

-- with k1 as a fixed issuer, and as a variable's value
abbrev VetsIn : ℕ → Vetting → Type 0
VetsIn format v =
    (read format (λ k n p. only v.list) (v.set ∷ []) (leaf (vetted (atom k1) 1 by_certificates 0)) [] 0 ≡ v.answer)
    × (read format (λ k n p. only v.list) (v.set ∷ []) (leaf (vetted (var 0) 1 by_certificates 0)) (k1 ∷ []) 0 ≡ v.answer)

-- the issuer's row is a whole row, in either format
unfoldable pub Vets : Vetting → Type 0
unfolding read k1
Vets v = VetsIn equal_widths v × VetsIn wider_rows v

-- the rows of the n numbers from `base` on
numbers : ℕ → ℕ → List Row
numbers base zero = []
numbers base (suc n) = (base ∷ []) ∷ numbers (suc base) n

-- "that key's list if the one-atom row of the issuer is absent from that definition, and no rows otherwise": then the list is not read, so its length is no 13
unfoldable pub vettings : List Vetting
unfolding numbers k1
vettings =
    record { set = only []; list = (9 ∷ []) ∷ []; answer = done (only ((9 ∷ []) ∷ [])) 0 }
    ∷ record { set = only ((k1 ∷ []) ∷ []); list = (9 ∷ []) ∷ []; answer = done (only []) 0 }
    ∷ record { set = only ((k1 ∷ 5 ∷ []) ∷ []); list = (9 ∷ []) ∷ []; answer = done (only ((9 ∷ []) ∷ [])) 0 }
    ∷ record { set = all_but []; list = (9 ∷ []) ∷ []; answer = done (only []) 0 }
    ∷ record { set = all_but ((k1 ∷ []) ∷ []); list = (9 ∷ []) ∷ []; answer = done (only ((9 ∷ []) ∷ [])) 0 }
    ∷ record { set = all_but []; list = numbers 1 129; answer = done (only []) 0 }
    ∷ record { set = only []; list = numbers 1 129; answer = refused too_many_rows }
    ∷ []

pub vetted_readings : All Vets vettings
unfolding Vets vettings All
vetted_readings = (((refl, refl), (refl, refl)), (((refl, refl), (refl, refl)), (((refl, refl), (refl, refl)), (((refl, refl), (refl, refl)), (((refl, refl), (refl, refl)), (((refl, refl), (refl, refl)), (((refl, refl), (refl, refl)), tt)))))))

-- N7: an own name over two definitions, {5} and all but {6}, whatever its key's list has: here k1 is our key, and 9 and 10 are in each list. In code 8 k1 is looked up in the first.
pub record OwnReading : Type 0 where
  pub expr : Expr
  pub answer : Result RowSet

unfoldable pub ReadsOwn : OwnReading → Type 0
unfolding read k1
ReadsOwn o =
    (read equal_widths (λ k n p. only ((9 ∷ []) ∷ (10 ∷ []) ∷ [])) (only ((5 ∷ []) ∷ []) ∷ all_but ((6 ∷ []) ∷ []) ∷ []) o.expr (k1 ∷ []) 0 ≡ o.answer)
    × (read wider_rows (λ k n p. only ((9 ∷ []) ∷ (10 ∷ []) ∷ [])) (only ((5 ∷ []) ∷ []) ∷ all_but ((6 ∷ []) ∷ []) ∷ []) o.expr (k1 ∷ []) 0 ≡ o.answer)

unfoldable pub own_readings : List OwnReading
unfolding k1
own_readings =
    record { expr = leaf (listed (atom k1) 1 plus (by_definition 0)); answer = done (only ((5 ∷ []) ∷ [])) 0 }
    ∷ record { expr = leaf (listed (atom k1) 1 minus (by_definition 1)); answer = done (all_but ((6 ∷ []) ∷ [])) 0 }
    ∷ record { expr = leaf (vetted (atom k1) 1 (by_definition 1) 0); answer = done (all_but ((6 ∷ []) ∷ [])) 0 }
    ∷ record { expr = leaf (vetted (atom k1) 1 (by_definition 0) 1); answer = done (only []) 0 }
    -- "A variable that happens to hold our key still reads certificates"
    ∷ record { expr = leaf (listed (var 0) 1 plus by_certificates); answer = done (only ((9 ∷ []) ∷ (10 ∷ []) ∷ [])) 0 }
    -- drawing from it: one draw a row
    ∷ record { expr = comprehension (draw (leaf (listed (atom k1) 1 plus (by_definition 0))) (new ∷ []) (head (var 1 ∷ []))); answer = done (only ((5 ∷ []) ∷ [])) 1 }
    ∷ []

pub own_readings_lem : All ReadsOwn own_readings
unfolding ReadsOwn own_readings All
own_readings_lem = ((refl, refl), ((refl, refl), ((refl, refl), ((refl, refl), ((refl, refl), ((refl, refl), tt))))))
