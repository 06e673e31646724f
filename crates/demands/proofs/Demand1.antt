-- Demand 1 holds.
use Prim.Native.Nat.{ℕ}
use mathlib.Core.Path.{◌≡◌, refl, ◌∙◌, ap, subst}
use mathlib.Core.Logic.{◌↔◌}
use mathlib.Core.Bool.{true, false}
use mathlib.Core.List.{List, []}
use native.Mathlib.Omega.{arith}
use lib.ListN.{length}
use borrow.Author.Tests.{lt-ltb, le-ltb}
use Rattle.refusals.specs.RefusalTable.{bad_store, bad_certificate, store_full, bad_term}
use Rattle.rows.specs.Ordered.{◌∈◌, lists}
use Rattle.rows.proofs.Case.{Case, is_true, is_false, split, true_T, ◌then◌}
use Rattle.rows.proofs.Ordered.{lists_iff}
use Rattle.rows.proofs.Records.{records_length}
use Rattle.certificates.specs.Certificate.{sound_certificate, sound_term, sound_record}
use Rattle.certificates.specs.Filing.{FilingReply, refused, Kind, records_of, sound_in, reply_given, file_reply, store_by, store_after}
use Rattle.certificates.specs.Store.{sound_store, certificate_refusal, certificate_kind}
use Rattle.certificates.specs.Stores.{Stores}
use Rattle.certificates.proofs.Filings.{Lawful, listed, Replied, unsound, known, full, new, replied, sound_in_lem}
use Rattle.certificates.proofs.Sound.{certificate_laws}
use Rattle.certificates.proofs.Links.{link_laws}
use Rattle.policy.specs.Format.{format_of}
use Rattle.policy.proofs.Basics.{impossible}
use Rattle.policy.proofs.Judging.{check_accepted}
use Rattle.meaning.specs.Evidence.{names_held}
use Rattle.meaning.proofs.Closed.{held_finite}
use Rattle.demands.specs.Query.{Outcome, Call, query_call, answer_area, draws_of}
use Rattle.demands.specs.Query as Query
use Rattle.demands.specs.Demand1.{Filing, unsound_store, unsound_record, is_held, is_full, is_new, Theorem}
use Rattle.demands.proofs.Definitions.{reads_not_12, none_finite}
use Rattle.demands.proofs.Outcome.{call_refused, call_alike}

-- words filed, of either kind
module _ {kind : Kind} (laws : Lawful kind) (store w : List ℕ) where
  given : sound_in kind store ≡ true → {r : FilingReply} → Replied laws (records_of kind store) w r → Filing kind store w r
  given s (unsound a) = unsound_record s a
  given s (known a i) = is_held s a i
  given s (full a i n) = is_full s a i (omega (arith, records_length kind.words store, (sound_in_lem laws store s).few))
  given s (new a i n) = is_new s a i (omega (arith, records_length kind.words store))

  why : Filing kind store w (file_reply kind store w)
  unfolding file_reply
  why = go (split (sound_in kind store))
    where
      go : Case (sound_in kind store) → Filing kind store w (file_reply kind store w)
      go (is_false s) = rw (s, file_reply) (unsound_store s)
      go (is_true s) = rw (s, file_reply) (given s (replied laws (records_of kind store) w))

  is_listed_lem : w ∈ records_of kind store → lists kind.before (records_of kind store) w ≡ true
  is_listed_lem i = true_T _ ((lists_iff kind.before laws.order (records_of kind store) w).1 i)

  is_new_lem : (¬ (w ∈ records_of kind store)) → lists kind.before (records_of kind store) w ≡ false
  is_new_lem n = go (split (lists kind.before (records_of kind store) w))
    where
      go : Case (lists kind.before (records_of kind store) w) → lists kind.before (records_of kind store) w ≡ false
      go (is_true e) = absurd (n (listed laws (records_of kind store) w e))
      go (is_false e) = e

  so : {r : FilingReply} → Filing kind store w r → file_reply kind store w ≡ r
  unfolding file_reply reply_given
  so (unsound_store s) = rw (s, file_reply)
  so (unsound_record s a) = rw (s, a, file_reply, reply_given)
  so (is_held s a i) = rw (s, a, is_listed_lem i, file_reply, reply_given)
  so (is_full s a i n) = rw (s, a, is_new_lem i, le-ltb (length (records_of kind store)) kind.most (omega (arith, records_length kind.words store)), file_reply, reply_given)
  so (is_new s a i n) = rw (s, a, is_new_lem i, lt-ltb (length (records_of kind store)) kind.most (omega (arith, records_length kind.words store)), file_reply, reply_given)

  filing : (r : FilingReply) → (file_reply kind store w ≡ r) ↔ Filing kind store w r
  filing r = (λ e. subst (Filing kind store w) e why, so)

  store_stays_lem : (n : ℕ) → file_reply kind store w ≡ refused n → store_after kind store w ≡ store
  unfolding store_after store_by
  store_stays_lem n e = ap (λ (r : FilingReply). store_by kind r store w) e

-- a certificate that a store would not hold
module _ (store w : List ℕ) where
  record_refused : (n : ℕ) → (¬ (bad_store ≡ n)) → (¬ (store_full ≡ n)) →
      (file_reply certificate_kind store w ≡ refused n) ↔ ((sound_store store ≡ true) × (sound_record w ≡ false) × (certificate_refusal w ≡ n))
  unfolding sound_store
  record_refused n m l = filing certificate_laws store w (refused n) then (
    λ f. to f refl,
    λ t. subst (λ (k : ℕ). Filing certificate_kind store w (refused k)) t.2 (unsound_record t.0 t.1),
  )
    where
      to : {r : FilingReply} → Filing certificate_kind store w r → r ≡ refused n → (sound_store store ≡ true) × (sound_record w ≡ false) × (certificate_refusal w ≡ n)
      to (unsound_store s) e = absurd (m cc)
      to (unsound_record s a) e = (s, a, cc)
      to (is_held s a i) e = impossible cc
      to (is_full s a i c) e = absurd (l cc)
      to (is_new s a i c) e = impossible cc

  nine : (file_reply certificate_kind store w ≡ refused bad_certificate) ↔ ((sound_store store ≡ true) × (sound_certificate w ≡ false))
  unfolding certificate_refusal sound_record
  nine = record_refused bad_certificate (λ e. omega arith) (λ e. omega arith) then (λ t. (t.0, to t.2 (split (sound_certificate w))), λ t. (t.0, rw (t.1, sound_record), rw (t.1, certificate_refusal)))
    where
      to : certificate_refusal w ≡ bad_certificate → Case (sound_certificate w) → sound_certificate w ≡ false
      to e (is_true c) = let z : bad_term ≡ bad_certificate = rw (c, certificate_refusal) at e in absurd (omega arith)
      to e (is_false c) = c

  seventeen : (file_reply certificate_kind store w ≡ refused bad_term) ↔ ((sound_store store ≡ true) × (sound_certificate w ≡ true) × (sound_term w ≡ false))
  unfolding certificate_refusal sound_record
  seventeen = record_refused bad_term (λ e. omega arith) (λ e. omega arith) then (
    λ t. let c = to t.2 (split (sound_certificate w)) in (t.0, c, rw (c, sound_record) at t.1),
    λ t. (t.0, rw (t.1, t.2, sound_record), rw (t.1, certificate_refusal)),
  )
    where
      to : certificate_refusal w ≡ bad_term → Case (sound_certificate w) → sound_certificate w ≡ true
      to e (is_true c) = c
      to e (is_false c) = let z : bad_certificate ≡ bad_term = rw (c, certificate_refusal) at e in absurd (omega arith)

answer_stays_lem : (s : Stores) (c : Call) (n part : ℕ) → query_call s c ≡ Query.refused n part → answer_area (query_call s c) c.answer ≡ c.answer
unfolding answer_area
answer_stays_lem s c n part e = ap (λ o. answer_area o c.answer) e

pub demand_1 : Theorem
unfolding draws_of
demand_1 = record {
  filing = filing certificate_laws;
  store_stays = store_stays_lem certificate_laws;
  nine = nine;
  seventeen = seventeen;
  link_filing = filing link_laws;
  links_stay = store_stays_lem link_laws;
  query = call_refused;
  answer_stays = answer_stays_lem;
  no_draws = λ s c n part e. ap draws_of e;
  never12 = λ ours policy query es q v passes h part.
      let a = check_accepted ours policy query es q v passes in
      reads_not_12 (format_of policy) (names_held h) (held_finite h) ours policy q v part a.definitions a.asked.closed [] 0 refl none_finite;
  earlier_words = λ s c d a.
      let e = call_alike s c d a.policy a.query a.our_key a.minute a.room in
      (e, ap (λ (o : Outcome). answer_area o c.answer) e ∙ ap (answer_area (query_call s d)) a.answer);
}
