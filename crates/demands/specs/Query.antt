-- Document 01, "Reading" and the refusal table: the query call, in the order "1, 2; each definition, then the query; 8; 11; then reading, first met", with
-- document 02's 18 (N5) "in a query right after 8" and 20 (N7) "before all others". N6: "The query follows its policy's format": it is read in that, as the
-- definitions are.
use Rattle.std.specs.Prelude.{ℕ, Bool, true, false, ◌&&◌, List, [], ◌∷◌, ◌++◌, leb, length}
use Rattle.refusals.specs.RefusalTable.{bad_store, bad_link, short_area, query_part, no_part}
use Rattle.rows.specs.Sets.{RowSet}
use Rattle.rows.specs.Layout.{set_room, written}
use Rattle.certificates.specs.Store.{sound_store}
use Rattle.certificates.specs.Link.{sound_links}
use Rattle.certificates.specs.Stores.{Stores, held_in}
use Rattle.policy.specs.Format.{format_of}
use Rattle.policy.specs.Syntax.{Expr}
use Rattle.policy.specs.Polarity.{Verdict}
use Rattle.policy.specs.Checking.{checked, check}
use Rattle.policy.specs.Checking as Checking
use Rattle.meaning.specs.Evidence.{Evidence, names_held}
use Rattle.meaning.specs.Reading.{done, read}
use Rattle.meaning.specs.Reading as Reads

-- the verdict, the draws and the set; or the refusal's number and part
pub data Outcome : Type 0 where
  answered : Verdict → ℕ → RowSet → Outcome
  refused : ℕ → ℕ → Outcome

-- "Definitions are read once, in file order, then the query"; "the count starts at 0 and runs through definitions and query".
-- In a policy of this format, still to read are these definitions and the query; read are these sets, with so many draws.
unfoldable pub read_from : ℕ → Evidence → List Expr → Expr → Verdict → List RowSet → ℕ → Outcome
unfolding read
read_from format names [] q v sets k = elim (read format names sets q [] k) [ done s k' ↦ answered v k' s | Reads.refused n ↦ refused n query_part ]
read_from format names (e ∷ es) q v sets k = elim (read format names sets e [] k) [
  | done s k' ↦ read_from format names es q v (sets ++ (s ∷ [])) k'
  | Reads.refused n ↦ refused n (length sets)
]

-- 11: "answer area under 642 words, definition area under 10,272, scratch area under 16,384"
abbrev pub definition_room : ℕ
definition_room = 10272

abbrev pub scratch_room : ℕ
scratch_room = 16384

-- what a query call is given besides the stores; "takes our key as a word" (document 02, N7); "A query call takes a minute" (N4), any word at all
pub record Call : Type 0 where
  pub policy : List ℕ
  pub query : List ℕ
  pub our_key : ℕ
  pub minute : ℕ
  pub answer : List ℕ
  pub definitions : List ℕ
  pub scratch : List ℕ

-- lent to a call: the policy, the query, our key, the minute and the three areas
abbrev pub lent : List ℕ → List ℕ → ℕ → ℕ → List ℕ → List ℕ → List ℕ → Call
lent policy query ours minute answer definitions scratch =
    record { policy = policy; query = query; our_key = ours; minute = minute; answer = answer; definitions = definitions; scratch = scratch }

-- the three areas are long enough
unfoldable pub roomy : Call → Bool
roomy c = leb set_room (length c.answer) && (leb definition_room (length c.definitions) && leb scratch_room (length c.scratch))

-- an accepted policy and query, read in the policy's format from this evidence if the areas are long enough
unfoldable pub outcome_from : Evidence → Call → Outcome
unfolding check roomy read_from
outcome_from names c = elim (check c.our_key c.policy c.query) [
  | Checking.refused n part ↦ refused n part
  | checked es q v ↦ elim (roomy c) [
    | false ↦ refused short_area no_part
    | true ↦ read_from (format_of c.policy) names es q v [] 0
  ]
]

-- the query call on the stores: 8, then 18, whether a name is read or not; what they hold at its minute is all that it reads names from
unfoldable pub query_call : Stores → Call → Outcome
unfolding check sound_store sound_links outcome_from names_held held_in
query_call s c = elim (check c.our_key c.policy c.query) [
  | Checking.refused n part ↦ refused n part
  | checked es q v ↦ elim (sound_store s.store) [
    | false ↦ refused bad_store no_part
    | true ↦ elim (sound_links s.links) [
      | false ↦ refused bad_link no_part
      | true ↦ outcome_from (names_held (held_in c.minute s)) c
    ]
  ]
]

-- "An answer fills 2 + 5 × count words; the rest of its area stays"; a refused query leaves the area as it was
unfoldable pub answer_area : Outcome → List ℕ → List ℕ
unfolding written
answer_area (answered v k s) area = written s area
answer_area (refused n part) area = area

-- "With the number comes the part ..; draws are 0."
unfoldable pub draws_of : Outcome → ℕ
draws_of (answered v k s) = k
draws_of (refused n part) = 0
