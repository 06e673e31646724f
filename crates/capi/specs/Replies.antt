-- What filing, judging, rewriting and asking hand out: the number returned and each out-parameter, for every reply.
use Rattle.std.specs.Prelude.{ℕ, ◌≡◌, List, length}
use Rattle.refusals.specs.RefusalTable.{no_part}
use Rattle.certificates.specs.Filing.{FilingReply, filed, held, refused}
use Rattle.certificates.specs.Stores.{Stores}
use Rattle.policy.specs.Polarity.{verdict_word}
use Rattle.policy.specs.Judgement as Judgement
use Rattle.policy.specs.External.{Rewriting, rewritten, rewrite_into, area_after}
use Rattle.policy.specs.External as External
use Rattle.demands.specs.Query.{Outcome, answered, Call, query_call, answer_area, draws_of}
use Rattle.demands.specs.Query as Query

-- "Filing answers Filed, Held or Refused with a number": 0, 1, and 8, 9, 17 or 10 of a certificate, 18 or 19 of a link
abbrev pub filing_word : FilingReply → ℕ
filing_word filed = 0
filing_word held = 1
filing_word (refused n) = n

-- no refusal has this number
abbrev pub no_refusal : ℕ
no_refusal = 0

-- no verdict has this number, so that what is refused never reads as exact, lower or upper
abbrev pub no_verdict : ℕ
no_verdict = 3

-- what a judgement hands out
pub record HandedJudgement : Type 0 where
  pub number : ℕ
  pub part : ℕ
  pub verdict : ℕ

-- "Both gives verdict 0 exact, + alone 1 lower, − alone 2 upper"; "With the number comes the part"
unfoldable pub hand_judgement : Judgement.JudgementReply → HandedJudgement
hand_judgement (Judgement.verdict v) = record { number = no_refusal; part = no_part; verdict = verdict_word v }
hand_judgement (Judgement.refused n p) = record { number = n; part = p; verdict = no_verdict }

-- what rewriting hands out beside the output, which is in the area
pub record HandedRewriting : Type 0 where
  pub number : ℕ
  pub part : ℕ
  pub size : ℕ

-- "the answer is the output's length"; of what is refused the length is 0
unfoldable pub hand_rewriting : Rewriting → HandedRewriting
hand_rewriting (rewritten out) = record { number = no_refusal; part = no_part; size = length out }
hand_rewriting (External.refused n p) = record { number = n; part = p; size = 0 }

-- rewriting the policy into the area, under this key of ours, handed this out, and left these words in the area
pub record RewrittenInto (ours : ℕ) (policy area : List ℕ) (handed : HandedRewriting) (left : List ℕ) : Type 0 where
  pub reply : hand_rewriting (rewrite_into ours policy area) ≡ handed
  pub words : left ≡ area_after (rewrite_into ours policy area) area

-- what a query call hands out beside the set, which is in the answer area
pub record HandedOutcome : Type 0 where
  pub number : ℕ
  pub part : ℕ
  pub verdict : ℕ
  pub draws : ℕ

-- "The answer carries verdict, draws and the set"; "With the number comes the part [..]; draws are 0"
unfoldable pub hand_outcome : Outcome → HandedOutcome
unfolding draws_of
hand_outcome (answered v k s) = record { number = no_refusal; part = no_part; verdict = verdict_word v; draws = draws_of (answered v k s) }
hand_outcome (Query.refused n p) = record { number = n; part = p; verdict = no_verdict; draws = draws_of (Query.refused n p) }

-- the query call on these stores handed this out, left these words in the answer area, and these in the stores
pub record Asked (s : Stores) (c : Call) (handed : HandedOutcome) (answer : List ℕ) (left : Stores) : Type 0 where
  pub reply : hand_outcome (query_call s c) ≡ handed
  pub area : answer ≡ answer_area (query_call s c) c.answer
  pub unchanged : left ≡ s
