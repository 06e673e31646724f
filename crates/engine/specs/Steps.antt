-- What the query call's inner functions ask and say. No promise of a public call names any of this.
use Rattle.std.specs.Prelude.{ℕ, ◌≤◌, ◌≡◌, true, List, [], length, get_or, Result, Ok, Err, IfErr}
use Rattle.certificates.specs.Store.{sound_store}
use Rattle.certificates.specs.Link.{sound_links}
use Rattle.certificates.specs.Stores.{Stores, held_in}
use Rattle.policy.specs.Syntax.{Expr}
use Rattle.policy.specs.Polarity.{Verdict, verdict_word}
use Rattle.policy.specs.Checking.{checked, check}
use Rattle.policy.specs.Format.{format_of}
use Rattle.meaning.specs.Evidence.{Evidence, names_held}
use Rattle.read_values.specs.From.{From, names, sets, SoundFrom}
use Rattle.demands.specs.Query.{Outcome, refused, read_from, definition_room, scratch_room, answer_area}
use Rattle.engine.specs.Reply.{reply_for, reply_is}
use Rattle.engine.specs.declared.Answer.{Answer}
use Rattle.engine.specs.declared.answering.Asked.{Asked}
use Rattle.refusals.specs.Numbers.{number, part_number}
use Rattle.refusals.specs.Parts.{IsPart}
use Rattle.refusals.specs.declared.Refused.{Refused}

abbrev pub stores_of : Asked → Stores
stores_of a = record { store = a.store.now; links = a.links.now }

-- what is read from for it, so many definitions being read, their sets in this area
abbrev pub from_asked : Asked → List ℕ → ℕ → From
from_asked a defs known = record { minute = a.minute; format = format_of a.policy.now; our_key = a.our_key; policy = a.policy.now; stores = stores_of a; defs = defs; known = known }

-- what holds at its minute
abbrev pub held_for : Asked → Evidence
held_for a = names_held (held_in a.minute (stores_of a))

-- a policy and a query that passed, sound stores, and areas that are long enough
pub record Ready (s : Stores) (ours : ℕ) (policy query definitions scratch : List ℕ) : Type 0 where
  pub es : List Expr
  pub q : Expr
  pub v : Verdict
  pub passes : check ours policy query ≡ checked es q v
  pub sound : sound_store s.store ≡ true
  pub links : sound_links s.links ≡ true
  pub room : definition_room ≤ length definitions
  pub space : scratch_room ≤ length scratch

-- that with some query, and the policy has so many definitions
pub record ReadyPolicy (s : Stores) (ours : ℕ) (policy : List ℕ) (count : ℕ) (definitions scratch : List ℕ) : Type 0 where
  pub query : List ℕ
  pub ready : Ready s ours policy query definitions scratch
  pub counted : get_or policy 1 0 ≡ count

-- what is left of the reading when the definitions are read, or a refusal was met
unfoldable pub left_to_read : From → Expr → Verdict → Result ℕ Refused → Outcome
unfolding read_from
left_to_read f q v (Ok draws) = read_from f.format (names f) [] q v (sets f) draws
left_to_read f q v (Err r) = refused (number r.refusal) (part_number r.part)

unfoldable pub SoundIf : From → Result ℕ Refused → Type 0
SoundIf f (Ok draws) = SoundFrom f
SoundIf f (Err r) = Unit {0}

-- the reading of the definitions comes to this, whichever query they are read for and whatever part a refusal is about
abbrev pub ReadsTo : From → Result ℕ Refused → Type 0
ReadsTo f r = (query : List ℕ) (es : List Expr) (q : Expr) (v : Verdict) → check f.our_key f.policy query ≡ checked es q v → read_from f.format (names f) es q v [] 0 ≡ left_to_read f q v r

-- the reply is this outcome's, and so are the words of the answer area, where `before` stood
abbrev pub ComesTo : Outcome → List ℕ → Result Answer Refused → List ℕ → Type 0
ComesTo o before r now = (reply_is r ≡ reply_for o) × (now ≡ answer_area o before)

-- of a policy and a query that pass with this verdict the reading of both comes to this, whatever part a refusal is about
abbrev pub AnswersTo : ℕ → ℕ → Evidence → List ℕ → List ℕ → ℕ → List ℕ → Result Answer Refused → List ℕ → Type 0
AnswersTo ours format held policy query verdict area r now =
    (es : List Expr) (q : Expr) (v : Verdict) → check ours policy query ≡ checked es q v → verdict_word v ≡ verdict → ComesTo (read_from format held es q v [] 0) area r now

-- all definitions are read, or a refusal was met in one of them
pub record ReadDefinitions (f : From) (r : Result ℕ Refused) : Type 0 where
  pub sound : SoundIf f r
  pub part : IfErr r (λ x. IsPart x.part)
  pub means : ReadsTo f r

pub record ReadAll (ours format : ℕ) (held : Evidence) (policy query : List ℕ) (verdict : ℕ) (area : List ℕ) (r : Result Answer Refused) (now : List ℕ) : Type 0 where
  pub part : IfErr r (λ x. IsPart x.part)
  pub means : AnswersTo ours format held policy query verdict area r now
