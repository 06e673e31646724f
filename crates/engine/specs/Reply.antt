-- What the query call replies, and what it promises: the reply, the answer area, and the stores.
use Rattle.std.specs.Prelude.{ℕ, ◌≡◌, List, Result, Ok, Err, IfErr}
use Rattle.refusals.specs.Numbers.{number, part_number}
use Rattle.refusals.specs.Parts.{IsPart}
use Rattle.refusals.specs.declared.Refused.{Refused}
use Rattle.certificates.specs.Stores.{Stores}
use Rattle.policy.specs.Polarity.{verdict_word}
use Rattle.policy.specs.Codes.{verdict_number}
use Rattle.demands.specs.Query.{Outcome, answered, refused, Call, query_call, answer_area}
use Rattle.engine.specs.declared.Answer.{Answer}

-- what is told of a call: the verdict's number and the draws, the set being in the answer area; or the refusal's number and its part's
unfoldable pub reply_for : Outcome → Result (ℕ × ℕ) (ℕ × ℕ)
unfolding verdict_word
reply_for (answered v k s) = Ok (verdict_word v, k)
reply_for (refused n part) = Err (n, part)

unfoldable pub reply_is : Result Answer Refused → Result (ℕ × ℕ) (ℕ × ℕ)
reply_is (Ok a) = Ok (verdict_number a.verdict, a.draws)
reply_is (Err r) = Err (number r.refusal, part_number r.part)

-- the call on these stores replied r, left these words in the answer area, and these in the stores, in which a query changes nothing
pub record Replied (s : Stores) (c : Call) (r : Result Answer Refused) (answer : List ℕ) (left : Stores) : Type 0 where
  pub reply : reply_is r ≡ reply_for (query_call s c)
  pub part : IfErr r (λ x. IsPart x.part)
  pub area : answer ≡ answer_area (query_call s c) c.answer
  pub unchanged : left ≡ s
