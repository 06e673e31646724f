-- What the code answers with each judgement.
use Rattle.std.specs.Prelude.{ℕ, ◌≡◌, Result, Ok, Err}
use Rattle.refusals.specs.Numbers.{number, part_number}
use Rattle.refusals.specs.declared.Refused.{Refused}
use Rattle.policy.specs.Polarity.{Verdict, exact, lower, upper}
use Rattle.policy.specs.declared.codes.Verdict as HeldVerdict
use Rattle.policy.specs.declared.codes.Verdict.TheVariants as held
use Rattle.policy.specs.Definitions.{PolicyChecked, passed}
use Rattle.policy.specs.Definitions as Definitions
use Rattle.policy.specs.Judgement.{JudgementReply, verdict, refused}
use Rattle.check_polarity.specs.Earlier.{earlier_is}
use Rattle.check_polarity.specs.declared.Earlier.{Earlier}

-- of a policy by itself, under this key of ours: what is known of its definitions, or the refusal's number and part
unfoldable pub JudgedAs : ℕ → PolicyChecked → Result Earlier Refused → Type 0
JudgedAs ours (passed xs es ks) (Ok x) = earlier_is x ≡ record { our_key = ours; known = ks }
JudgedAs ours (passed xs es ks) (Err r) = ⊥
JudgedAs ours (Definitions.refused n part) (Ok x) = ⊥
JudgedAs ours (Definitions.refused n part) (Err r) = (number r.refusal ≡ n) × (part_number r.part ≡ part)

unfoldable pub verdict_is : HeldVerdict.Verdict → Verdict
verdict_is held.Exact = exact
verdict_is held.Lower = lower
verdict_is held.Upper = upper

unfoldable pub judged_is : Result HeldVerdict.Verdict Refused → JudgementReply
unfolding verdict_is
judged_is (Ok v) = verdict (verdict_is v)
judged_is (Err r) = refused (number r.refusal) (part_number r.part)
