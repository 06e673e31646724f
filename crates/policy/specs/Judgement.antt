-- What a caller is told of a policy and a query, under a key of ours: the verdict, or the refusal's number and part.
use Rattle.std.specs.Prelude.{ℕ, List}
use Rattle.policy.specs.Polarity.{Verdict}
use Rattle.policy.specs.Checking.{Checked, checked, check}
use Rattle.policy.specs.Checking as Checking

pub data JudgementReply : Type 0 where
  verdict : Verdict → JudgementReply
  refused : ℕ → ℕ → JudgementReply

unfoldable pub reply_of : Checked → JudgementReply
reply_of (checked es q v) = verdict v
reply_of (Checking.refused n part) = refused n part

unfoldable pub judge : ℕ → List ℕ → List ℕ → JudgementReply
unfolding check reply_of
judge ours policy query = reply_of (check ours policy query)
