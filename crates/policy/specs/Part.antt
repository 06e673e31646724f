-- Document 01, "Policy words": "Given a part number, the engine hands back that expression's own words, out of the policy (0 to 15) or the
-- query (16). The query comes back whole at any length. A number over 16 or without a definition, or any number with a policy refused with 1
-- or 2, gives an empty part of the policy."
use Rattle.std.specs.Prelude.{ℕ, true, false, List, eqb, ltb, length, get_or, take, drop}
use Rattle.refusals.specs.RefusalTable.{query_part}
use Rattle.policy.specs.Table.{Entry, table, refused, read_table}

-- where a part lies: so many words of the policy from a word on, or the query
pub data PartSpan : Type 0 where
  in_policy : ℕ → ℕ → PartSpan
  whole_query : PartSpan

unfoldable pub nowhere : PartSpan
nowhere = in_policy 0 0

abbrev pub no_entry : Entry
no_entry = record { name = 0; polarity = 0; offset = 0; size = 0 }

unfoldable pub span_among : List Entry → ℕ → PartSpan
unfolding nowhere
span_among xs number = elim (eqb number query_part) [
  | true ↦ whole_query
  | false ↦ elim (ltb number (length xs)) [ true ↦ in_policy (get_or xs number no_entry).offset (get_or xs number no_entry).size | false ↦ nowhere ]
]

unfoldable pub part_span : List ℕ → ℕ → PartSpan
unfolding read_table span_among nowhere
part_span policy number = elim (read_table policy) [ table xs ↦ span_among xs number | refused n ↦ nowhere ]

unfoldable pub words_at : List ℕ → List ℕ → PartSpan → List ℕ
words_at policy query (in_policy start size) = take size (drop start policy)
words_at policy query whole_query = query

unfoldable pub part_words : List ℕ → List ℕ → ℕ → List ℕ
unfolding part_span words_at
part_words policy query number = words_at policy query (part_span policy number)
