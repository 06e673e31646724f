-- What filing, judging, rewriting and asking hand out is what their definitions say, one law for each way that a call returns.
use Rattle.std.proofs.Common.{ℕ, ◌≡◌, ◌∙◌, refl, sym, ap, List, Ok, Err}
use Rattle.refusals.specs.RefusalTable.{no_part}
use Rattle.refusals.specs.Numbers.{number, part_number, told}
use Rattle.refusals.specs.declared.Refused.{Refused}
use Rattle.certificates.specs.Stores.{Stores}
use Rattle.policy.specs.Judgement.{JudgementReply}
use Rattle.policy.specs.Codes.{verdict_number}
use Rattle.policy.specs.Polarity.{verdict_word}
use Rattle.policy.specs.declared.codes.Verdict as HeldVerdict
use Rattle.policy.proofs.Basics.{impossible}
use Rattle.judging.specs.Reply.{judged_is}
use Rattle.policy.specs.External.{Rewriting, rewritten, rewrite_into, area_after}
use Rattle.policy.specs.External as External
use Rattle.policy_rewriting.specs.Output.{rewritten_for}
use Rattle.demands.specs.Query.{Outcome, answered, refused, Call, query_call, draws_of}
use Rattle.engine.specs.Reply.{reply_for, reply_is, Replied}
use Rattle.engine.specs.Steps.{ComesTo}
use Rattle.engine.specs.declared.Answer.{Answer}
use Rattle.engine.proofs.Replying.{same_word}
use Rattle.capi.specs.Replies.{no_refusal, no_verdict, HandedJudgement, hand_judgement, hand_rewriting, RewrittenInto, hand_outcome, Asked}

-- judging
abbrev with_verdict : ℕ → HandedJudgement
with_verdict w = record { number = no_refusal; part = no_part; verdict = w }

pub hands_verdict : (v : HeldVerdict.Verdict) (j : JudgementReply) (n : ℕ) → judged_is (Ok v) ≡ j → n ≡ verdict_number v → hand_judgement j ≡ record { number = no_refusal; part = no_part; verdict = n }
unfolding judged_is hand_judgement
hands_verdict v j n e h = ap hand_judgement (sym e) ∙ ap with_verdict (same_word v ∙ sym h)

pub hands_refused_judgement : (r : Refused) (j : JudgementReply) (n part : ℕ) → judged_is (Err r) ≡ j → n ≡ number r.refusal → part ≡ part_number r.part →
    hand_judgement j ≡ record { number = n; part = part; verdict = no_verdict }
unfolding judged_is hand_judgement
hands_refused_judgement r j n part e h i = rw (h, i) (ap hand_judgement (sym e))

-- rewriting
length_handed : (o : Rewriting) (n : ℕ) → told {A = ℕ} (Ok n) ≡ rewritten_for o → hand_rewriting o ≡ record { number = no_refusal; part = no_part; size = n }
unfolding told rewritten_for hand_rewriting
length_handed (rewritten out) n is = cc
length_handed (External.refused m p) n is = impossible cc

refusal_handed : (o : Rewriting) (r : Refused) → told {A = ℕ} (Err r) ≡ rewritten_for o → hand_rewriting o ≡ record { number = number r.refusal; part = part_number r.part; size = 0 }
unfolding told rewritten_for hand_rewriting
refusal_handed (rewritten out) r is = impossible cc
refusal_handed (External.refused m p) r is =
    let q : ◌≡◌ {A = ℕ × ℕ} (number r.refusal, part_number r.part) (m, p) = cc in
    rw (ap (λ (x : ℕ × ℕ). x.0) q, ap (λ (x : ℕ × ℕ). x.1) q) refl

module _ (ours : ℕ) (policy area left : List ℕ) where
  pub hands_length : (n : ℕ) → (told {A = ℕ} (Ok n) ≡ rewritten_for (rewrite_into ours policy area)) × (left ≡ area_after (rewrite_into ours policy area) area) →
      RewrittenInto ours policy area (record { number = no_refusal; part = no_part; size = n }) left
  hands_length n h = record { reply = length_handed (rewrite_into ours policy area) n h.0; words = h.1 }

  pub hands_refused_rewriting : (r : Refused) (n part : ℕ) → (told {A = ℕ} (Err r) ≡ rewritten_for (rewrite_into ours policy area)) × (left ≡ area_after (rewrite_into ours policy area) area) →
      n ≡ number r.refusal → part ≡ part_number r.part → RewrittenInto ours policy area (record { number = n; part = part; size = 0 }) left
  hands_refused_rewriting r n part h e i = record { reply = rw (e, i) (refusal_handed (rewrite_into ours policy area) r h.0); words = h.1 }

-- asking
answered_outcome : (o : Outcome) (a : Answer) → reply_is (Ok a) ≡ reply_for o → hand_outcome o ≡ record { number = no_refusal; part = no_part; verdict = verdict_number a.verdict; draws = a.draws }
unfolding reply_is reply_for hand_outcome draws_of
answered_outcome (answered w j s) a is =
    let q : ◌≡◌ {A = ℕ × ℕ} (verdict_number a.verdict, a.draws) (verdict_word w, j) = cc in
    rw (ap (λ (x : ℕ × ℕ). x.0) q, ap (λ (x : ℕ × ℕ). x.1) q) refl
answered_outcome (refused n p) a is = impossible cc

refused_outcome : (o : Outcome) (r : Refused) → reply_is (Err r) ≡ reply_for o → hand_outcome o ≡ record { number = number r.refusal; part = part_number r.part; verdict = no_verdict; draws = 0 }
unfolding reply_is reply_for hand_outcome draws_of
refused_outcome (answered w j s) r is = impossible cc
refused_outcome (refused m p) r is =
    let q : ◌≡◌ {A = ℕ × ℕ} (number r.refusal, part_number r.part) (m, p) = cc in
    rw (ap (λ (x : ℕ × ℕ). x.0) q, ap (λ (x : ℕ × ℕ). x.1) q) refl

module _ (s : Stores) (c : Call) (answer : List ℕ) (left : Stores) where
  pub hands_answer : (a : Answer) (n : ℕ) → Replied s c (Ok a) answer left → n ≡ verdict_number a.verdict →
      Asked s c (record { number = no_refusal; part = no_part; verdict = n; draws = a.draws }) answer left
  hands_answer a n said e = record { reply = rw e (answered_outcome (query_call s c) a said.reply); area = said.area; unchanged = said.unchanged }

  -- whatever part the refusal is about
  pub hands_refusal : (r : Refused) (n part : ℕ) → ComesTo (query_call s c) c.answer (Err r) answer → left ≡ s → n ≡ number r.refusal → part ≡ part_number r.part →
      Asked s c (record { number = n; part = part; verdict = no_verdict; draws = 0 }) answer left
  hands_refusal r n part said unchanged e i = record { reply = rw (e, i) (refused_outcome (query_call s c) r said.0); area = said.1; unchanged = unchanged }

  pub hands_refused_query : (r : Refused) (n part : ℕ) → Replied s c (Err r) answer left → n ≡ number r.refusal → part ≡ part_number r.part →
      Asked s c (record { number = n; part = part; verdict = no_verdict; draws = 0 }) answer left
  hands_refused_query r n part said e i = hands_refusal r n part (said.reply, said.area) said.unchanged e i
