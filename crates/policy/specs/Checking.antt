-- Document 01, refusals 1 to 7 of a policy and a query in their order: the policy's, then the query's; before them document 02's 20 (N7).
use Rattle.std.specs.Prelude.{ℕ, Bool, true, false, ◌&&◌, ◌||◌, List, leb, length}
use Rattle.refusals.specs.RefusalTable.{bad_word, query_part}
use Rattle.rows.specs.Name.{plus, minus}
use Rattle.policy.specs.Syntax.{Expr}
use Rattle.policy.specs.Parse.{Parsed, parsed, parse}
use Rattle.policy.specs.Parse as Parse
use Rattle.policy.specs.Polarity.{Known, scope_of, has_polarity, draws_closed, Verdict, exact, lower, upper}
use Rattle.policy.specs.Definitions.{polarized, passed, check_policy}
use Rattle.policy.specs.Definitions as Definitions

-- the definitions, the query and its verdict; or the refusal's number and part
pub data Checked : Type 0 where
  checked : List Expr → Expr → Verdict → Checked
  refused : ℕ → ℕ → Checked

-- "A query is one expression of 1 to 1,024 words."
unfoldable pub check_query : ℕ → List Known → List ℕ → Parsed
unfolding parse polarized has_polarity draws_closed
check_query ours ks query = elim (leb 1 (length query) && leb (length query) 1024) [
  | true ↦ elim (parse (scope_of ours ks) query) [
    | parsed e ↦ polarized (has_polarity e ks plus || has_polarity e ks minus) (draws_closed e ks) e
    | Parse.refused n ↦ Parse.refused n
  ]
  | false ↦ Parse.refused bad_word
]

-- the verdict of a query that has + or not, − or not (one with neither is refused before)
unfoldable pub verdict_of : Bool → Bool → Verdict
verdict_of true true = exact
verdict_of true false = lower
verdict_of false has_minus = upper

-- a query after these definitions
unfoldable pub check_after : ℕ → List Expr → List Known → List ℕ → Checked
unfolding check_query verdict_of has_polarity
check_after ours es ks query = elim (check_query ours ks query) [
  | parsed q ↦ checked es q (verdict_of (has_polarity q ks plus) (has_polarity q ks minus))
  | Parse.refused n ↦ refused n query_part
]

-- under this key of ours
unfoldable pub check : ℕ → List ℕ → List ℕ → Checked
unfolding check_policy check_after
check ours policy query = elim (check_policy ours policy) [ passed xs es ks ↦ check_after ours es ks query | Definitions.refused n part ↦ refused n part ]
