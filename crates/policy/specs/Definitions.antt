-- Document 01, refusals 1 to 7 of a policy by itself, in their order: "1, 2; each definition"; within an expression 3, 4, 5, "then 6, then 7". Document 02, N7:
-- "Every call that checks definitions takes our key as a word"; "20, the number given as our key is not a key, before all others."
use Rattle.std.specs.Prelude.{ℕ, Bool, true, false, List, [], ◌∷◌, ◌++◌, length}
use Rattle.refusals.specs.RefusalTable.{no_polarity, open_draw, not_a_key, no_part}
use Rattle.rows.specs.Row.{is_key}
use Rattle.rows.specs.Name.{polarity_of}
use Rattle.policy.specs.Syntax.{Expr}
use Rattle.policy.specs.Parse.{Parsed, parsed, parse}
use Rattle.policy.specs.Parse as Parse
use Rattle.policy.specs.Polarity.{Known, scope_of, has_polarity, open_expr, draws_closed}
use Rattle.policy.specs.Table.{Entry, entry_words, table, read_table}
use Rattle.policy.specs.Table as Tables

-- 6 unless it has the polarity asked for, then 7 unless its draws are from closed sets
unfoldable pub polarized : Bool → Bool → Expr → Parsed
polarized true true e = parsed e
polarized true false e = Parse.refused open_draw
polarized false closed e = Parse.refused no_polarity

-- a definition, those before it being known. (Its own name is not available to it.)
unfoldable pub check_definition : ℕ → List ℕ → List Known → Entry → Parsed
unfolding parse entry_words polarized has_polarity draws_closed polarity_of
check_definition ours policy ks x = elim (parse (scope_of ours ks) (entry_words policy x)) [
  | parsed e ↦ polarized (has_polarity e ks (polarity_of x.polarity)) (draws_closed e ks) e
  | Parse.refused n ↦ Parse.refused n
]

-- what is then known of a definition
unfoldable pub known_of : Entry → Expr → List Known → Known
unfolding open_expr polarity_of
known_of x e ks = record { name = x.name; declared = polarity_of x.polarity; is_open = open_expr e ks }

-- the entries, their expressions and what is then known of them; or the refusal's number and part
pub data PolicyChecked : Type 0 where
  passed : List Entry → List Expr → List Known → PolicyChecked
  refused : ℕ → ℕ → PolicyChecked

unfoldable pub push_definition : Entry → Expr → PolicyChecked → PolicyChecked
push_definition x e (passed xs es ks) = passed (x ∷ xs) (e ∷ es) ks
push_definition x e (refused n part) = refused n part

-- the definitions in file order, each through 3 to 7 before the next
unfoldable pub definitions_from : ℕ → List ℕ → List Entry → List Known → PolicyChecked
unfolding check_definition known_of push_definition
definitions_from ours policy [] ks = passed [] [] ks
definitions_from ours policy (x ∷ xs) ks = elim (check_definition ours policy ks x) [
  | parsed e ↦ push_definition x e (definitions_from ours policy xs (ks ++ (known_of x e ks ∷ [])))
  | Parse.refused n ↦ refused n (length ks)
]

-- 1 to 7
unfoldable pub check_table : ℕ → List ℕ → PolicyChecked
unfolding read_table definitions_from
check_table ours policy = elim (read_table policy) [ table xs ↦ definitions_from ours policy xs [] | Tables.refused n ↦ refused n no_part ]

unfoldable pub check_policy : ℕ → List ℕ → PolicyChecked
unfolding check_table
check_policy ours policy = elim (is_key ours) [ true ↦ check_table ours policy | false ↦ refused not_a_key no_part ]
