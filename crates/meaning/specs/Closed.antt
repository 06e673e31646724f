-- "Only sets that are not open may be drawn from": what is not open is read as a finite set, so that what passed refusal 7 never meets a complement to
-- draw from, refusal 12. (For whole policies and queries: `never12` of Demand 1.)
use Rattle.std.specs.Prelude.{ℕ, ◌≡◌, not, List, [], T, get_or}
use Rattle.refusals.specs.RefusalTable.{complement_drawn}
use Rattle.rows.specs.Name.{plus}
use Rattle.rows.specs.Sets.{RowSet, only, all_but}
use Rattle.certificates.specs.Stores.{Held}
use Rattle.policy.specs.Syntax.{Expr}
use Rattle.policy.specs.Polarity.{Known, unknown, open_expr, draws_closed}
use Rattle.meaning.specs.Values.{Values}
use Rattle.meaning.specs.Evidence.{Evidence, names_held}
use Rattle.meaning.specs.Reading.{done, refused, Reading, read}

unfoldable pub IsFinite : RowSet → Type 0
IsFinite (only xs) = Unit {0}
IsFinite (all_but xs) = ⊥

-- + names are finite
abbrev pub FiniteNames : Evidence → Type 0
FiniteNames names = (k n : ℕ) → IsFinite (names k n plus)

-- definitions that are not open are finite
abbrev pub FiniteSets : List Known → List RowSet → Type 0
FiniteSets ks sets = (d : ℕ) → T (not (get_or ks d unknown).is_open) → IsFinite (get_or sets d (only []))

-- a reading that is never refused with 12
abbrev pub Not12 : {A : Type 0} → Reading A → Type 0
Not12 m = (k : ℕ) → m k ≡ refused complement_drawn → ⊥

-- what is not open is read as a finite set
abbrev pub ReadFinite : ℕ → Evidence → List RowSet → List Known → Expr → Type 0
ReadFinite format names sets ks e = T (not (open_expr e ks)) → (vs : Values) (k : ℕ) (s : RowSet) (j : ℕ) → read format names sets e vs k ≡ done s j → IsFinite s

-- what draws from nothing open is never refused with 12
abbrev pub Never12 : ℕ → Evidence → List RowSet → List Known → Expr → Type 0
Never12 format names sets ks e = T (draws_closed e ks) → (vs : Values) → Not12 (read format names sets e vs)

pub record Theorem : Type 0 where
  pub finite : (format : ℕ) (names : Evidence) → FiniteNames names → (sets : List RowSet) (ks : List Known) → FiniteSets ks sets → (e : Expr) → ReadFinite format names sets ks e
  pub never12 : (format : ℕ) (names : Evidence) → FiniteNames names → (sets : List RowSet) (ks : List Known) → FiniteSets ks sets → (e : Expr) → Never12 format names sets ks e
  -- so it is with what is held
  pub held : (h : Held) → FiniteNames (names_held h)
