-- Demand 2: "An answered query equals the QCM meaning of policy and query in the minimal model of the filed certificates, as rows, form, verdict and number
-- of draws; refusals occur under the listed conditions and under no others." (The refusals: `query` of Demand 1.) Document 02, N4: the call "reads only the
-- certificates that hold then", so the minimal model is that of its minute; N5: with links it is "the least + lists and the greatest − lists that satisfy every
-- certificate and link"; N6: "The query follows its policy's format", in what is read and in what belongs; N7: so does what our own names stand for.
use Rattle.std.specs.Prelude.{ℕ, ◌+◌, ◌*◌, ◌≡◌, ◌↔◌, true, List, [], ◌++◌, T, length, drop}
use Rattle.rows.specs.Word.{Words}
use Rattle.rows.specs.Row.{Row, IsRow}
use Rattle.rows.specs.Sets.{RowSet, has, listing}
use Rattle.rows.specs.Layout.{set_words, sound_set, set_in}
use Rattle.certificates.specs.Stores.{Stores, held_in}
use Rattle.policy.specs.Format.{format_of}
use Rattle.policy.specs.Syntax.{Expr}
use Rattle.policy.specs.Polarity.{Verdict}
use Rattle.policy.specs.Checking.{checked, refused, check}
use Rattle.policy.specs.Judgement.{verdict, judge}
use Rattle.meaning.specs.Evidence.{Evidence, names_held}
use Rattle.meaning.specs.World.{World}
use Rattle.meaning.specs.Model.{Minimal}
use Rattle.meaning.specs.Belonging.{BelongsTo}
use Rattle.demands.specs.Query.{answered, read_from, Call, query_call, answer_area}

-- the policy and the query of a call are words
pub record CallWords (c : Call) : Type 0 where
  pub policy : Words c.policy
  pub query : Words c.query

-- the row belongs to the query under the policy, in its format, in this world, our key being the call's
unfoldable pub InQuery : Call → World → Row → Type 0
unfolding check BelongsTo
InQuery c W r = elim (check c.our_key c.policy c.query) [ checked es q v ↦ BelongsTo (format_of c.policy) W es q r | refused n part ↦ ⊥ ]

-- an answer: the verdict is the judgement's, the set (its form too) and the draws are those of reading from these names
pub record Answer (names : Evidence) (c : Call) (v : Verdict) (k : ℕ) (S : RowSet) : Type 0 where
  pub verdict_is : judge c.our_key c.policy c.query ≡ verdict v
  pub is_read : (es : List Expr) × (q : Expr) × (check c.our_key c.policy c.query ≡ checked es q v) × (read_from (format_of c.policy) names es q v [] 0 ≡ answered v k S)

-- its layout: the words are a sound set, that of the answer, and past them the area is as it was
pub record LaidOut (area now : List ℕ) (S : RowSet) : Type 0 where
  pub words : now ≡ set_words S ++ drop (2 + 5 * length (listing S)) area
  pub sound : sound_set now ≡ true
  pub reads : set_in now ≡ S

-- and its rows are those that belong to the query in the minimal model of what the two stores hold at the call's minute; there is one
pub record Demand2 (s : Stores) (c : Call) (v : Verdict) (k : ℕ) (S : RowSet) : Type 1 where
  pub answer : Answer (names_held (held_in c.minute s)) c v k S
  pub laid_out : LaidOut c.answer (answer_area (answered v k S) c.answer) S
  pub rows : (W : World) → Minimal (held_in c.minute s) W → (r : Row) → IsRow r → T (has S r) ↔ InQuery c W r
  pub model : (W : World) × Minimal (held_in c.minute s) W

-- (The store's words are words; of the link store's none need be, since no row is made of them.)
abbrev pub Theorem : Type 1
Theorem = (s : Stores) → Words s.store → (c : Call) → CallWords c → (v : Verdict) (k : ℕ) (S : RowSet) → query_call s c ≡ answered v k S → Demand2 s c v k S
