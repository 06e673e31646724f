-- A query call taken apart: answered, or refused by what applies.
use Prim.Native.Nat.{ℕ, ◌≤◌}
use mathlib.Core.Path.{◌≡◌, refl, sym, ◌∙◌, ap, subst}
use mathlib.Core.Logic.{◌↔◌}
use mathlib.Core.Bool.{Bool, true, false}
use mathlib.Core.List.{List, [], ◌∷◌, ◌++◌}
use native.Mathlib.Omega.{arith}
use lib.Dec.{leb}
use lib.ListN.{length}
use borrow.Author.Tests.{leb-true}
use Rattle.refusals.specs.RefusalTable.{bad_store, bad_link, short_area, not_a_key, no_part}
use Rattle.rows.specs.Row.{is_key}
use Rattle.rows.specs.Sets.{RowSet}
use Rattle.rows.specs.Layout.{set_room}
use Rattle.rows.proofs.Case.{Case, is_true, is_false, split, and_true}
use Rattle.certificates.specs.Store.{sound_store}
use Rattle.certificates.specs.Link.{sound_links}
use Rattle.certificates.specs.Stores.{Stores, held_in}
use Rattle.policy.specs.Format.{format_of}
use Rattle.policy.specs.Syntax.{Expr}
use Rattle.policy.specs.Polarity.{Verdict}
use Rattle.policy.specs.Checking.{Checked, checked, check}
use Rattle.policy.specs.Checking as Checking
use Rattle.policy.specs.Judgement.{judge}
use Rattle.policy.specs.Judgement as Judgement
use Rattle.policy.proofs.Judging.{number_refused, judge_refused}
use Rattle.meaning.specs.Evidence.{Evidence, names_held}
use Rattle.meaning.specs.Reading.{Result, done, refused, read}
use Rattle.demands.specs.Query.{Outcome, answered, read_from, roomy, Call, outcome_from, query_call}
use Rattle.demands.specs.Query as Query
use Rattle.demands.specs.Refusal.{Soundness, soundness, all_sound, Refusal, number, judged, unsound, unsound_links, short, reading}

pub not_both : {A : Type 0} {v : Verdict} {k : ℕ} {S : RowSet} {n part : ℕ} → answered v k S ≡ Query.refused n part → A
not_both {v} {k} {S} {n} {part} e = let z : ◌≡◌ {A = ℕ} 0 1 = cc in absurd (omega arith)

pub end_verdict : (v w : Verdict) (j : ℕ) (S : RowSet) (a : Result RowSet) →
    (elim a as (λ c. Outcome) [ done s k ↦ answered v k s | refused n ↦ Query.refused n 16 ]) ≡ answered w j S → v ≡ w
end_verdict v w j S (done s k) e = cc
end_verdict v w j S (refused n) e = not_both (sym e)

pub read_verdict : (format : ℕ) (names : Evidence) (es : List Expr) (q : Expr) (v : Verdict) (sets : List RowSet) (k : ℕ) (w : Verdict) (j : ℕ) (S : RowSet) →
    read_from format names es q v sets k ≡ answered w j S → v ≡ w
unfolding read_from
read_verdict format names [] q v sets k w j S h = end_verdict v w j S (read format names sets q [] k) h
read_verdict format names (e ∷ es) q v sets k w j S h = go (λ s i f. read_verdict format names es q v (sets ++ (s ∷ [])) i w j S f) (read format names sets e [] k) refl
  where
    go : ((s : RowSet) (i : ℕ) → read_from format names es q v (sets ++ (s ∷ [])) i ≡ answered w j S → v ≡ w) → (a : Result RowSet) → read format names sets e [] k ≡ a → v ≡ w
    go ih (done s i) f = ih s i (rw (f, read_from) at h)
    go ih (refused n) f = not_both (sym (let g : Query.refused n (length sets) ≡ answered w j S = rw (f, read_from) at h in g))

-- the refusals of unsound stores, then this outcome
stores_first : Soundness → Outcome → Outcome
stores_first sound o = elim sound.store [
  | false ↦ Query.refused bad_store no_part
  | true ↦ elim sound.links [ false ↦ Query.refused bad_link no_part | true ↦ o ]
]

-- the call, by which of the stores are sound
call_on : Soundness → Evidence → Call → Outcome
unfolding stores_first
call_on sound names c = elim (check c.our_key c.policy c.query) [ Checking.refused n part ↦ Query.refused n part | checked es q v ↦ stores_first sound (outcome_from names c) ]

-- the names that a call reads
abbrev pub names_at : Stores → Call → Evidence
names_at s c = names_held (held_in c.minute s)

call_on_lem : (s : Stores) (c : Call) → query_call s c ≡ call_on (soundness s) (names_at s c) c
unfolding query_call call_on soundness
call_on_lem s c = refl

all_sound_lem : (sound : Soundness) → sound.store ≡ true → sound.links ≡ true → sound ≡ all_sound
all_sound_lem sound a b = ap (λ (x : Bool). record { store = x; links = sound.links }) a ∙ ap (λ (x : Bool). record { store = true; links = x }) b

pub stores_sound : (s : Stores) → sound_store s.store ≡ true → sound_links s.links ≡ true → soundness s ≡ all_sound
unfolding soundness
stores_sound s a b = all_sound_lem (soundness s) a b

sound_call : (names : Evidence) (c : Call) → call_on all_sound names c ≡ outcome_from names c
unfolding call_on outcome_from
sound_call names c = go (check c.our_key c.policy c.query) refl
  where
    go : (k : Checked) → check c.our_key c.policy c.query ≡ k → call_on all_sound names c ≡ outcome_from names c
    go (Checking.refused n part) f = rw (f, call_on, outcome_from)
    go (checked es q v) f = rw (f, call_on)

-- a call on sound stores reads from what they hold
pub call_reads : (s : Stores) (names : Evidence) → soundness s ≡ all_sound → (c : Call) → names_at s c ≡ names → query_call s c ≡ outcome_from names c
call_reads s names sound c same = call_on_lem s c ∙ ap (λ (x : Soundness). call_on x (names_at s c) c) sound ∙ ap (λ (held : Evidence). call_on all_sound held c) same ∙ sound_call names c

-- of the areas a call depends on whether they are long enough
pub call_alike : (s : Stores) (c d : Call) → c.policy ≡ d.policy → c.query ≡ d.query → c.our_key ≡ d.our_key → c.minute ≡ d.minute → roomy c ≡ roomy d → query_call s c ≡ query_call s d
unfolding call_on outcome_from
call_alike s c d p q o m r = call_on_lem s c ∙ ap (λ (minute : ℕ). call_on (soundness s) (names_held (held_in minute s)) c) m ∙ go (check d.our_key d.policy d.query) refl ∙ sym (call_on_lem s d)
  where
    go : (k : Checked) → check d.our_key d.policy d.query ≡ k → call_on (soundness s) (names_at s d) c ≡ call_on (soundness s) (names_at s d) d
    go (Checking.refused n part) f = let g : check c.our_key c.policy c.query ≡ Checking.refused n part = rw (p, q, o) f in rw (f, g, call_on)
    go (checked es e v) f =
        let g : check c.our_key c.policy c.query ≡ checked es e v = rw (p, q, o) f in
        let same : outcome_from (names_at s d) c ≡ outcome_from (names_at s d) d = rw (f, g, r, outcome_from) (ap (λ (policy : List ℕ). elim (roomy d) as (λ b. Outcome) [
          | false ↦ Query.refused short_area no_part
          | true ↦ read_from (format_of policy) (names_at s d) es e v [] 0
        ]) p) in
        rw (f, g, call_on) (ap (stores_first (soundness s)) same)

-- an answered call: the policy and the query passed, the areas are long enough, and the reading was done
pub record AnsweredBy (names : Evidence) (c : Call) (w : Verdict) (k : ℕ) (S : RowSet) : Type 0 where
  pub es : List Expr
  pub q : Expr
  pub passes : check c.our_key c.policy c.query ≡ checked es q w
  pub room : roomy c ≡ true
  pub reads : read_from (format_of c.policy) names es q w [] 0 ≡ answered w k S

pub answered_by : (names : Evidence) (c : Call) (w : Verdict) (k : ℕ) (S : RowSet) → outcome_from names c ≡ answered w k S → AnsweredBy names c w k S
unfolding outcome_from
answered_by names c w k S h = go (check c.our_key c.policy c.query) refl (split (roomy c))
  where
    go : (d : Checked) → check c.our_key c.policy c.query ≡ d → Case (roomy c) → AnsweredBy names c w k S
    go (Checking.refused n part) f b = not_both (sym (let g : Query.refused n part ≡ answered w k S = rw (f, outcome_from) at h in g))
    go (checked es q v) f (is_false b) = not_both (sym (let g : Query.refused short_area no_part ≡ answered w k S = rw (f, b, outcome_from) at h in g))
    go (checked es q v) f (is_true b) =
        let g : read_from (format_of c.policy) names es q v [] 0 ≡ answered w k S = rw (f, b, outcome_from) at h in
        let e : v ≡ w = read_verdict (format_of c.policy) names es q v [] 0 w k S g in
        record {
          es = es;
          q = q;
          passes = f ∙ ap (λ (u : Verdict). checked es q u) e;
          room = b;
          reads = subst (λ (u : Verdict). read_from (format_of c.policy) names es q u [] 0 ≡ answered w k S) e g;
        }

-- an answered call has sound stores
pub answered_sound : (s : Stores) (c : Call) (w : Verdict) (k : ℕ) (S : RowSet) → query_call s c ≡ answered w k S → soundness s ≡ all_sound
unfolding call_on
answered_sound s c w k S h = go (check c.our_key c.policy c.query) refl (split (soundness s).store) (split (soundness s).links)
  where
    g : call_on (soundness s) (names_at s c) c ≡ answered w k S
    g = sym (call_on_lem s c) ∙ h

    go : (d : Checked) → check c.our_key c.policy c.query ≡ d → Case (soundness s).store → Case (soundness s).links → soundness s ≡ all_sound
    go (Checking.refused n part) f a b = not_both (sym (let e : Query.refused n part ≡ answered w k S = rw (f, call_on) at g in e))
    go (checked es q v) f (is_false a) b = not_both (sym (let e : Query.refused bad_store no_part ≡ answered w k S = rw (f, a, call_on) at g in e))
    go (checked es q v) f (is_true a) (is_false b) = not_both (sym (let e : Query.refused bad_link no_part ≡ answered w k S = rw (f, a, b, call_on) at g in e))
    go (checked es q v) f (is_true a) (is_true b) = all_sound_lem (soundness s) a b

pub roomy_answer : (c : Call) → roomy c ≡ true → set_room ≤ length c.answer
unfolding roomy
roomy_answer c e = leb-true set_room (length c.answer) (and_true (leb set_room (length c.answer)) _ e).0

-- refused, just where a refusal applies
on_refused : (sound : Soundness) (names : Evidence) (c : Call) (n part : ℕ) → (call_on sound names c ≡ Query.refused n part) ↔ Refusal sound names c n part
unfolding call_on outcome_from
on_refused sound names c n part = (λ h. to h (check c.our_key c.policy c.query) refl (split sound.store) (split sound.links) (split (roomy c)), from)
  where
    as_refused : {m p : ℕ} → Refusal sound names c m p → Query.refused m p ≡ Query.refused n part → Refusal sound names c n part
    as_refused {m} {p} r e =
        let x : m ≡ n = cc in
        let y : p ≡ part = cc in
        subst (λ (l : ℕ). Refusal sound names c l part) x (subst (λ (l : ℕ). Refusal sound names c m l) y r)

    by_number : {m p : ℕ} → is_key c.our_key ≡ false → Checking.refused m p ≡ Checking.refused not_a_key no_part → Refusal sound names c m p
    by_number {m} {p} k e =
        let x : not_a_key ≡ m = cc in
        let y : no_part ≡ p = cc in
        subst (λ (l : ℕ). Refusal sound names c l p) x (subst (λ (l : ℕ). Refusal sound names c not_a_key l) y (number k))

    to : call_on sound names c ≡ Query.refused n part → (d : Checked) → check c.our_key c.policy c.query ≡ d → Case sound.store → Case sound.links → Case (roomy c) →
        Refusal sound names c n part
    to h (Checking.refused m p) f a l b = as_refused (keyed (split (is_key c.our_key))) (rw (f, call_on) at h)
      where
        keyed : Case (is_key c.our_key) → Refusal sound names c m p
        keyed (is_true k) = judged k ((judge_refused c.our_key c.policy c.query m p).1 f)
        keyed (is_false k) = by_number k (sym f ∙ number_refused c.our_key c.policy c.query k)
    to h (checked es q v) f (is_false a) l b = as_refused (unsound f a) (rw (f, a, call_on) at h)
    to h (checked es q v) f (is_true a) (is_false l) b = as_refused (unsound_links f a l) (rw (f, a, l, call_on) at h)
    to h (checked es q v) f (is_true a) (is_true l) (is_false b) = as_refused (short f (all_sound_lem sound a l) b) (rw (f, b, outcome_from) at (rw (f, a, l, call_on) at h))
    to h (checked es q v) f (is_true a) (is_true l) (is_true b) = reading f (all_sound_lem sound a l) b (rw (f, b, outcome_from) at (rw (f, a, l, call_on) at h))

    from : {m p : ℕ} → Refusal sound names c m p → call_on sound names c ≡ Query.refused m p
    from (number k) = rw (number_refused c.our_key c.policy c.query k, call_on)
    from {m} {p} (judged k e) = rw ((judge_refused c.our_key c.policy c.query m p).0 e, call_on)
    from (unsound f a) = rw (f, a, call_on)
    from (unsound_links f a l) = rw (f, a, l, call_on)
    from (short f a b) = rw (f, a, call_on) (rw (f, b, outcome_from))
    from (reading f a b e) = rw (f, a, call_on) (rw (f, b, outcome_from) e)

-- what judging refuses, 20 or 1 to 7, the call refuses
pub call_judged : (s : Stores) (c : Call) (n part : ℕ) → judge c.our_key c.policy c.query ≡ Judgement.refused n part → query_call s c ≡ Query.refused n part
unfolding call_on
call_judged s c n part e = call_on_lem s c ∙ rw ((judge_refused c.our_key c.policy c.query n part).0 e, call_on)

pub call_refused : (s : Stores) (c : Call) (n part : ℕ) → (query_call s c ≡ Query.refused n part) ↔ Refusal (soundness s) (names_at s c) c n part
call_refused s c n part = rw (call_on_lem s c) (on_refused (soundness s) (names_at s c) c n part)

pub outcome_refused : (names : Evidence) (c : Call) (n part : ℕ) → (outcome_from names c ≡ Query.refused n part) ↔ Refusal all_sound names c n part
outcome_refused names c n part = rw (← sound_call names c) (on_refused all_sound names c n part)

-- answered, just where none does
pub outcome_answered : (names : Evidence) (c : Call) → ((v : Verdict) × (k : ℕ) × (S : RowSet) × (outcome_from names c ≡ answered v k S)) ↔
    (¬ ((n : ℕ) × (part : ℕ) × Refusal all_sound names c n part))
outcome_answered names c = (
  λ t r. not_both (sym t.3 ∙ (outcome_refused names c r.0 r.1).1 r.2),
  λ f. go (outcome_from names c) refl f,
)
  where
    go : (o : Outcome) → outcome_from names c ≡ o → (¬ ((n : ℕ) × (part : ℕ) × Refusal all_sound names c n part)) →
        (v : Verdict) × (k : ℕ) × (S : RowSet) × (outcome_from names c ≡ answered v k S)
    go (answered v k S) e f = (v, k, S, e)
    go (Query.refused n part) e f = absurd (f (n, part, (outcome_refused names c n part).0 e))
