-- Demand 3 holds.
use Prim.Native.Nat.{ℕ}
use mathlib.Core.Path.{◌≡◌, refl, sym, ◌∙◌, ap, subst}
use mathlib.Core.List.{List, [], ◌∷◌}
use Rattle.rows.specs.Word.{All, Words}
use Rattle.rows.specs.Sets.{RowSet}
use Rattle.rows.proofs.Lists.{all_left}
use Rattle.certificates.specs.Store.{sound_store}
use Rattle.certificates.specs.Link.{sound_links, links_said}
use Rattle.certificates.specs.Stores.{AnyFiling, certificate, link, Stores, stores_after, stores_at, certificates_filed, accepted_certificates, accepted_links, Held, held_in, held_after}
use Rattle.certificates.proofs.Filings.{accepted_sound, accepted_words}
use Rattle.certificates.proofs.Sound.{certificate_laws}
use Rattle.certificates.proofs.Both.{BothKeep, both_keep, reply_both, Within, held_accepted, accepted_held, held_stays}
use Rattle.policy.specs.Format.{format_of}
use Rattle.policy.specs.Syntax.{Expr}
use Rattle.policy.specs.Polarity.{Verdict}
use Rattle.policy.specs.Checking.{check, checked}
use Rattle.meaning.specs.Evidence.{names_held}
use Rattle.meaning.specs.World.{AboutRows}
use Rattle.meaning.proofs.Model.{same_names}
use Rattle.demands.specs.Query.{answered, read_from, Call, outcome_from, query_call}
use Rattle.demands.specs.Refusal.{soundness, all_sound}
use Rattle.demands.specs.Demand2.{CallWords}
use Rattle.demands.specs.Demand3.{EmptyStores, Point, Earlier, Event, files, asks, stores_through, filings_in, words_filed, FiledWords, Grows, Theorem}
use Rattle.demands.proofs.Bounds.{bounds, lower_grows_lem, upper_shrinks_lem, exact_stays_lem}
use Rattle.demands.proofs.Outcome.{stores_sound, call_reads, AnsweredBy, answered_by, outcome_refused, outcome_answered}
use Rattle.demands.proofs.Demand2.{records_about, answer_is, laid_out_lem}

-- what was accepted is about rows
certificates_words : (fs : List AnyFiling) → FiledWords fs → All Words (certificates_filed fs)
unfolding All words_filed certificates_filed
certificates_words [] a = tt
certificates_words (certificate w ∷ fs) a = (a.0, certificates_words fs a.1)
certificates_words (link w ∷ fs) a = certificates_words fs a.1

held_about : (minute : ℕ) (passed : List AnyFiling) → FiledWords passed → AboutRows (held_after minute passed)
unfolding held_after
held_about minute passed words =
    records_about minute (accepted_certificates passed) (accepted_sound certificate_laws (certificates_filed passed))
    (accepted_words certificate_laws (certificates_filed passed) (certificates_words passed words)) (links_said (accepted_links passed))

-- queries change nothing
through : (s : Stores) (events : List Event) → stores_through s events ≡ stores_at s (filings_in events)
unfolding stores_through filings_in stores_at
through s [] = refl
through s (files f ∷ events) = through (stores_after s f) events
through s (asks c ∷ events) = through s events

module _ (s : Stores) (empty : EmptyStores s) (filings : List AnyFiling) where
  keeps : (p : Point filings) → BothKeep s (stores_at s p.passed) p.passed
  unfolding sound_store sound_links
  keeps p = both_keep s empty.store.sound empty.store.none empty.links.sound empty.links.none p.passed

  sound_at_lem : (p : Point filings) → soundness (stores_at s p.passed) ≡ all_sound
  unfolding sound_store sound_links
  sound_at_lem p = stores_sound (stores_at s p.passed) (keeps p).store.sound (keeps p).links.sound

  about : FiledWords filings → (minute : ℕ) (p : Point filings) → AboutRows (held_after minute p.passed)
  about words minute p = held_about minute p.passed (all_left _ p.passed p.ahead (subst FiledWords p.whole words))

  -- a call reads what was accepted and holds at its minute
  reads : (p : Point filings) (c : Call) → query_call (stores_at s p.passed) c ≡ outcome_from (names_held (held_after c.minute p.passed)) c
  reads p c = call_reads (stores_at s p.passed) (names_held (held_after c.minute p.passed)) (sound_at_lem p) c
      (same_names (held_in c.minute (stores_at s p.passed)) (held_after c.minute p.passed) (held_accepted (keeps p) c.minute) (accepted_held (keeps p) c.minute))

  answer_at : (p : Point filings) (c : Call) (v : Verdict) (k : ℕ) (S : RowSet) → query_call (stores_at s p.passed) c ≡ answered v k S →
      AnsweredBy (names_held (held_after c.minute p.passed)) c v k S
  answer_at p c v k S h = answered_by (names_held (held_after c.minute p.passed)) c v k S (sym (reads p c) ∙ h)

  -- what was accepted at a point is accepted at a later one
  still_held : (minute : ℕ) (p q : Point filings) → Earlier p q → Within (held_after minute p.passed) (held_after minute q.passed)
  still_held minute p q e = subst (λ (fs : List AnyFiling). Within (held_after minute p.passed) (held_after minute fs)) (sym e.reached) (held_stays minute p.passed e.between)

  -- two answers at one minute
  module _ (words : FiledWords filings) (p q : Point filings) (e : Earlier p q) (m : ℕ) where
    abbrev first : Held
    first = held_after m p.passed

    abbrev second : Held
    second = held_after m q.passed

    grows_at : (c d : Call) → CallWords c → c.policy ≡ d.policy → c.query ≡ d.query → c.our_key ≡ d.our_key →
        (v v' : Verdict) (k k' : ℕ) (S S' : RowSet) → AnsweredBy (names_held first) c v k S → AnsweredBy (names_held second) d v' k' S' → Grows v v' S S'
    grows_at c d w same_policy same_query same_key v v' k k' S S' a b =
        let both : checked a.es a.q v ≡ checked b.es b.q v' =
        sym a.passes ∙ ap (λ (x : ℕ). check x c.policy c.query) same_key ∙ ap (λ (x : List ℕ). check d.our_key x c.query) same_policy ∙ ap (λ (x : List ℕ). check d.our_key d.policy x) same_query ∙ b.passes in
        let es : b.es ≡ a.es = cc in
        let qs : b.q ≡ a.q = cc in
        let vs : v' ≡ v = cc in
        let format = format_of c.policy in
        let later : read_from format (names_held second) a.es a.q v [] 0 ≡ answered v' k' S' =
        subst (λ (u : Verdict). read_from format (names_held second) a.es a.q u [] 0 ≡ answered v' k' S') vs
        (subst (λ (x : Expr). read_from format (names_held second) a.es x v' [] 0 ≡ answered v' k' S') qs
        (subst (λ (xs : List Expr). read_from format (names_held second) xs b.q v' [] 0 ≡ answered v' k' S') es
        (subst (λ (policy : List ℕ). read_from (format_of policy) (names_held second) b.es b.q v' [] 0 ≡ answered v' k' S') (sym same_policy) b.reads))) in
        record {
          same_verdict = sym vs;
          lower_grows = lower_grows_lem c w a.es a.q v a.passes first second (about words m p) (about words m q) (still_held m p q e) v v' k k' S S' a.reads later;
          upper_shrinks = upper_shrinks_lem c w a.es a.q v a.passes first second (about words m p) (about words m q) (still_held m p q e) v v' k k' S S' a.reads later;
          exact_stays = exact_stays_lem c w a.es a.q v a.passes first second (about words m p) (about words m q) (still_held m p q e) v v' k k' S S' a.reads later;
        }

pub demand_3 : Theorem
demand_3 s empty filings = record {
  replies = λ p f rest e. reply_both (keeps s empty filings p) f;
  holds = λ p. (keeps s empty filings p).store;
  holds_links = λ p. (keeps s empty filings p).links;
  asked = λ p events e. through s events ∙ ap (stores_at s) e;
  refuses = λ p c n part. rw (reads s empty filings p c) (outcome_refused (names_held (held_after c.minute p.passed)) c n part);
  answers = λ p c. rw (reads s empty filings p c) (outcome_answered (names_held (held_after c.minute p.passed)) c);
  answer = λ p c v k S h. answer_is (names_held (held_after c.minute p.passed)) c v k S (answer_at s empty filings p c v k S h);
  laid_out = λ words p c w v k S h.
      laid_out_lem (held_after c.minute p.passed) (about s empty filings words c.minute p) c w v k S (answer_at s empty filings p c v k S h);
  bounds = λ words p c w v k S h.
      let a = answer_at s empty filings p c v k S h in
      bounds c w a.es a.q v a.passes (held_after c.minute p.passed) (about s empty filings words c.minute p) v k S a.reads;
  later = λ words p q e c d w same_policy same_query same_key same_minute v v' k k' S S' h h'.
      grows_at s empty filings words p q e c.minute c d w same_policy same_query same_key v v' k k' S S' (answer_at s empty filings p c v k S h)
      (subst (λ (m : ℕ). AnsweredBy (names_held (held_after m q.passed)) d v' k' S') (sym same_minute) (answer_at s empty filings q d v' k' S' h'));
}
