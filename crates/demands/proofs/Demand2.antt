-- Demand 2 holds: an answer has the judgement's verdict, a sound layout, and the rows that belong to the query in the minimal model.
use Prim.Native.Nat.{ℕ}
use mathlib.Core.Path.{◌≡◌, refl, sym, ◌∙◌, ap, subst}
use mathlib.Core.Bool.{true}
use mathlib.Core.List.{List, ◌++◌}
use lib.ListN.{drop}
use Rattle.rows.specs.Word.{All, Words}
use Rattle.rows.specs.Row.{IsRow}
use Rattle.rows.specs.Sets.{RowSet}
use Rattle.rows.specs.Layout.{set_words, written}
use Rattle.rows.proofs.Lists.{all_in}
use Rattle.rows.proofs.LayoutLaws.{set_length, written_sound, written_reads}
use Rattle.rows.proofs.Records.{records_words}
use Rattle.certificates.specs.Certificate.{Certificate, record_words, said_at}
use Rattle.certificates.specs.Link.{Link}
use Rattle.certificates.specs.Store.{records, sound_store, certificates_at}
use Rattle.certificates.specs.Stores.{Held, held_in}
use Rattle.certificates.proofs.Filings.{AllSound}
use Rattle.certificates.proofs.Sound.{about_row, sound_store_lem, certificate_laws}
use Rattle.certificates.proofs.Saying.{said_iff}
use Rattle.policy.specs.Polarity.{Verdict}
use Rattle.policy.proofs.Judging.{judge_checked}
use Rattle.meaning.specs.Evidence.{Evidence, names_held}
use Rattle.meaning.specs.World.{AboutRows}
use Rattle.meaning.specs.Faithful.{Tidy}
use Rattle.meaning.proofs.Model.{minimal, minimal_is}
use Rattle.demands.specs.Query.{answered, Call, answer_area}
use Rattle.demands.specs.Refusal.{Soundness, soundness}
use Rattle.demands.specs.Demand2.{CallWords, LaidOut, Answer, Theorem}
use Rattle.demands.proofs.Bounds.{in_query, in_minimal, answer_tidy}
use Rattle.demands.proofs.Outcome.{AnsweredBy, answered_by, answered_sound, call_reads, roomy_answer}

-- what records say that are sound and words is about rows
pub records_about : (minute : ℕ) (rs : List (List ℕ)) → AllSound certificate_laws rs → All Words rs → (ls : List Link) → AboutRows (record { certificates = said_at minute rs; links = ls })
records_about minute rs sound words ls c i =
    let t = (said_iff minute rs c).0 i in
    subst (λ (d : Certificate). IsRow d.row) (sym t.3) (about_row t.0 (all_in _ rs sound t.0 t.1) (all_in Words rs words t.0 t.1))

pub answer_is : (names : Evidence) (c : Call) (v : Verdict) (k : ℕ) (S : RowSet) → AnsweredBy names c v k S → Answer names c v k S
answer_is names c v k S a = record { verdict_is = (judge_checked c.our_key c.policy c.query v).1 (a.es, a.q, a.passes); is_read = (a.es, a.q, a.passes, a.reads) }

module _ (h : Held) (about : AboutRows h) (c : Call) (w : CallWords c) (v : Verdict) (k : ℕ) (S : RowSet) (a : AnsweredBy (names_held h) c v k S) where
  pub laid_out_lem : LaidOut c.answer (answer_area (answered v k S) c.answer) S
  unfolding answer_area written
  laid_out_lem =
      let t : Tidy S = answer_tidy c w a.es a.q v a.passes h about v k S a.reads in
      record {
        words = ap (λ (n : ℕ). set_words S ++ drop n c.answer) (set_length S t.proper.rows);
        sound = written_sound S c.answer t.proper t.few (roomy_answer c a.room);
        reads = written_reads S c.answer t.proper.rows;
      }

pub demand_2 : Theorem
unfolding held_in certificates_at soundness
demand_2 s words c w v k S answer =
    let sound = answered_sound s c v k S answer in
    let h = held_in c.minute s in
    let store : sound_store s.store ≡ true = ap (λ (x : Soundness). x.store) sound in
    let about : AboutRows h = records_about c.minute (records s.store) (sound_store_lem s.store store).each (records_words record_words s.store words) h.links in
    let a = answered_by (names_held h) c v k S (sym (call_reads s (names_held h) sound c refl) ∙ answer) in
    record {
      answer = answer_is (names_held h) c v k S a;
      laid_out = laid_out_lem h about c w v k S a;
      rows = λ W least r i. rw (in_query c a.es a.q v a.passes W r) (in_minimal c w a.es a.q v a.passes h about W least v k S a.reads r i);
      model = (minimal h about, minimal_is h about);
    }
