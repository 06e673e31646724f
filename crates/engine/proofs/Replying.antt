-- The query call's replies, one law for each way that it returns.
use Prim.Native.Nat.{ℕ, ◌≤◌}
use mathlib.Core.Path.{◌≡◌, refl, sym, ◌∙◌, ap}
use mathlib.Core.Bool.{true, false}
use mathlib.Core.List.{List, []}
use lib.Dec.{leb}
use lib.ListN.{length}
use borrow.Author.Tests.{leb-true}
use Rattle.std.specs.Prelude.{Result, Ok, Err}
use Rattle.refusals.specs.RefusalTable.{bad_store, bad_link, short_area, no_part}
use Rattle.refusals.specs.Numbers.{number, part_number, of_neither}
use Rattle.refusals.specs.Parts.{IsPart}
use Rattle.refusals.specs.declared.Refusal.TheVariants.{BadStore, BadLink, ShortArea}
use Rattle.refusals.specs.declared.Refused.{Refused}
use Rattle.rows.specs.Layout.{set_room}
use Rattle.rows.proofs.Case.{and_true}
use Rattle.certificates.specs.Store.{sound_store}
use Rattle.certificates.specs.Link.{sound_links}
use Rattle.certificates.specs.Stores.{Stores}
use Rattle.policy.specs.Format.{format_of}
use Rattle.policy.specs.Polarity.{Verdict, verdict_word}
use Rattle.policy.specs.Judgement.{verdict, judge}
use Rattle.policy.specs.Codes.{verdict_number}
use Rattle.policy.specs.declared.codes.Verdict as HeldVerdict
use Rattle.policy.specs.declared.codes.Verdict.TheVariants as held
use Rattle.judging.specs.Reply.{verdict_is, judged_is}
use Rattle.policy.proofs.Judging.{judge_checked}
use Rattle.demands.specs.Query.{Outcome, read_from, definition_room, scratch_room, roomy, Call, outcome_from, query_call, answer_area}
use Rattle.demands.specs.Query as Query
use Rattle.demands.specs.Refusal.{soundness, unsound, unsound_links, short}
use Rattle.engine.specs.Reply.{reply_for, reply_is, Replied}
use Rattle.engine.specs.Steps.{Ready, ComesTo, AnswersTo, ReadAll}
use Rattle.engine.specs.declared.Answer.{Answer}
use Rattle.demands.proofs.Outcome.{names_at, stores_sound, call_judged, call_refused, call_reads}

-- a call that was refused, whatever part that is about
refused_reply : (s : Stores) (c : Call) (r : Refused) → query_call s c ≡ Query.refused (number r.refusal) (part_number r.part) → ComesTo (query_call s c) c.answer (Err r) c.answer
unfolding reply_for reply_is answer_area
refused_reply s c r e = (ap reply_for (sym e), ap (λ (o : Outcome). answer_area o c.answer) (sym e))

refuses_call : (s : Stores) (c : Call) (r : Refused) → IsPart r.part → query_call s c ≡ Query.refused (number r.refusal) (part_number r.part) → Replied s c (Err r) c.answer s
refuses_call s c r p e = let said = refused_reply s c r e in record { reply = said.0; part = p; area = said.1; unchanged = refl }

pub judged_reply : (s : Stores) (c : Call) (r : Refused) → judged_is (Err r) ≡ judge c.our_key c.policy c.query → ComesTo (query_call s c) c.answer (Err r) c.answer
unfolding judged_is
judged_reply s c r e = refused_reply s c r (call_judged s c (number r.refusal) (part_number r.part) (sym e))

pub refuses_judged : (s : Stores) (c : Call) (r : Refused) → IsPart r.part → judged_is (Err r) ≡ judge c.our_key c.policy c.query → Replied s c (Err r) c.answer s
refuses_judged s c r p e = let said = judged_reply s c r e in record { reply = said.0; part = p; area = said.1; unchanged = refl }

-- what a judgement in hand says
pub is_judged : (ours : ℕ) (p q : List ℕ) (v : HeldVerdict.Verdict) → judged_is (Ok v) ≡ judge ours p q → judge ours p q ≡ verdict (verdict_is v)
unfolding judged_is
is_judged ours p q v e = sym e

pub same_word : (v : HeldVerdict.Verdict) → verdict_word (verdict_is v) ≡ verdict_number v
unfolding verdict_word verdict_is
same_word held.Exact = refl
same_word held.Lower = refl
same_word held.Upper = refl

module _ (s : Stores) (c : Call) (v : Verdict) (passes : judge c.our_key c.policy c.query ≡ verdict v) where
  pub refuses_store : sound_store s.store ≡ false → Replied s c (Err (of_neither BadStore)) c.answer s
  unfolding soundness
  refuses_store a = refuses_call s c (of_neither BadStore) tt ((call_refused s c bad_store no_part).1 (unsound ((judge_checked c.our_key c.policy c.query v).0 passes).2 a))

  module _ (sound : sound_store s.store ≡ true) where
    pub refuses_links : sound_links s.links ≡ false → Replied s c (Err (of_neither BadLink)) c.answer s
    unfolding soundness
    refuses_links l = refuses_call s c (of_neither BadLink) tt ((call_refused s c bad_link no_part).1 (unsound_links ((judge_checked c.our_key c.policy c.query v).0 passes).2 sound l))

    module _ (links : sound_links s.links ≡ true) where
      pub refuses_areas : roomy c ≡ false → Replied s c (Err (of_neither ShortArea)) c.answer s
      refuses_areas r =
          refuses_call s c (of_neither ShortArea) tt ((call_refused s c short_area no_part).1 (short ((judge_checked c.our_key c.policy c.query v).0 passes).2 (stores_sound s sound links) r))

      module _ (room : roomy c ≡ true) where
        enough : (set_room ≤ length c.answer) × (definition_room ≤ length c.definitions) × (scratch_room ≤ length c.scratch)
        unfolding roomy
        enough =
            let a = and_true (leb set_room (length c.answer)) _ room in
            let b = and_true (leb definition_room (length c.definitions)) _ a.1 in
            (leb-true set_room (length c.answer) a.0, leb-true definition_room (length c.definitions) b.0, leb-true scratch_room (length c.scratch) b.1)

        pub answer_room : set_room ≤ length c.answer
        answer_room = enough.0

        pub is_ready : Ready s c.our_key c.policy c.query c.definitions c.scratch
        is_ready =
            let t = (judge_checked c.our_key c.policy c.query v).0 passes in
            record { es = t.0; q = t.1; v = v; passes = t.2; sound = sound; links = links; room = enough.1; space = enough.2 }

        pub replies_to : (word : ℕ) → verdict_word v ≡ word → (r : Result Answer Refused) (answer : List ℕ) → AnswersTo c.our_key (format_of c.policy) (names_at s c) c.policy c.query word c.answer r answer →
            ComesTo (query_call s c) c.answer r answer
        unfolding outcome_from
        replies_to word w r answer said =
            let t = (judge_checked c.our_key c.policy c.query v).0 passes in
            let o : query_call s c ≡ read_from (format_of c.policy) (names_at s c) t.0 t.1 v [] 0 = call_reads s (names_at s c) (stores_sound s sound links) c refl ∙ rw (t.2, room, outcome_from) in
            let m = said t.0 t.1 v t.2 w in
            (m.0 ∙ ap reply_for (sym o), m.1 ∙ ap (λ (x : Outcome). answer_area x c.answer) (sym o))

        pub replies : (word : ℕ) → verdict_word v ≡ word → (r : Result Answer Refused) (answer : List ℕ) → ReadAll c.our_key (format_of c.policy) (names_at s c) c.policy c.query word c.answer r answer → Replied s c r answer s
        replies word w r answer said = let m = replies_to word w r answer said.means in record { reply = m.0; part = said.part; area = m.1; unchanged = refl }
