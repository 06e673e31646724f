-- What a word that is no tag, or no code of a guard, is for the definitions; and things read one after the other.
use Rattle.std.proofs.Common.{ℕ, zero, suc, ◌≡◌, ◌+◌, ◌≤◌, Bool, true, false, ◌&&◌, List, [], ◌∷◌, Result, Ok, Err, ltb, refl, sym, ◌∙◌, ap, leb, eqb, arith}
use borrow.Author.Tests.{leb-true, eqb-true}
use Rattle.refusals.specs.RefusalTable.{not_in_scope}
use Rattle.refusals.specs.declared.Refusal.{Refusal}
use Rattle.rows.proofs.Case.{and_true}
use Rattle.policy.specs.declared.codes.Tag.TheVariants as tag
use Rattle.policy.specs.declared.codes.Tag as HeldTag
use Rattle.policy.specs.declared.codes.GuardCode.TheVariants as guard
use Rattle.policy.specs.declared.codes.GuardCode.{GuardCode}
use Rattle.policy.specs.Codes.{TagRead, GuardRead}
use Rattle.policy.specs.Syntax.{Slot, old, new, var}
use Rattle.policy.specs.Decode.{Read, got, refused, Reader, after, need, give, word_where, times, is_atom, is_var, no_tag, tag_of, term_as, any_atom, no_guard, guard_of, Pattern, push_slot, slot_as, slots}
use Rattle.policy.specs.Held.{slot_is}
use Rattle.policy.specs.declared.Slot as SlotHeld
use Rattle.policy.specs.declared.Slot.TheVariants.{Old, New}
use Rattle.policy.proofs.Basics.{impossible}
use Rattle.check_terms.specs.declared.Decoder.{Decoder}
use Rattle.check_terms.specs.Answers.{kept, nothing, scope, slot_for, slot, scope_after, next}

pub untagged : (w : ℕ) (r : Result HeldTag.Tag Refusal) {e : Refusal} → TagRead w r → r ≡ Err e → tag_of w ≡ no_tag
unfolding tag_of
untagged w (Ok t) h p = impossible cc
untagged zero (Err e') h p = absurd (h.1 tag.Atom refl)
untagged (suc zero) (Err e') h p = absurd (h.1 tag.Variable refl)
untagged (suc (suc zero)) (Err e') h p = absurd (h.1 tag.New refl)
untagged (suc (suc (suc w))) (Err e') h p = refl

pub unguarded : (w : ℕ) (r : Result GuardCode Refusal) {e : Refusal} → GuardRead w r → r ≡ Err e → guard_of w ≡ no_guard
unfolding guard_of
unguarded w (Ok t) h p = impossible cc
unguarded zero (Err e') h p = refl
unguarded (suc zero) (Err e') h p = absurd (h.1 guard.Draw refl)
unguarded (suc (suc zero)) (Err e') h p = absurd (h.1 guard.Same refl)
unguarded (suc (suc (suc zero))) (Err e') h p = absurd (h.1 guard.Different refl)
unguarded (suc (suc (suc (suc zero)))) (Err e') h p = absurd (h.1 guard.Absent refl)
unguarded (suc (suc (suc (suc (suc w))))) (Err e') h p = refl

-- after one thing, the rest of them
times_got : {A : Type 0} (m : Reader A) (l : ℕ) (us vs : List ℕ) (k j : ℕ) → kept nothing (m us k) ≡ got tt vs j → kept nothing (times (suc l) m us k) ≡ kept nothing (times l m vs j)
unfolding times kept
times_got {A} m l us vs k j e = go (m us k) e
  where
    last : (a : A) (y : Read (List A)) → kept nothing (after y (λ xs. give (a ∷ xs))) ≡ kept nothing y
    last a (got xs us k) = refl
    last a (refused n) = refl

    go : (x : Read A) → kept nothing x ≡ got tt vs j → kept nothing (after x (λ a vs j. after (times l m vs j) (λ xs. give (a ∷ xs)))) ≡ kept nothing (times l m vs j)
    go (got a us k) e =
        let p : us ≡ vs = cc in
        let q : k ≡ j = cc in
        rw (p, q) (last a (times l m vs j))
    go (refused n) e = impossible cc

times_lost : {A : Type 0} (m : Reader A) (l n : ℕ) (us : List ℕ) (k : ℕ) → kept nothing (m us k) ≡ refused n → kept nothing (times (suc l) m us k) ≡ refused n
unfolding times kept
times_lost {A} m l n us k e = go (m us k) e
  where
    go : (x : Read A) → kept nothing x ≡ refused n → kept nothing (after x (λ a vs j. after (times l m vs j) (λ xs. give (a ∷ xs)))) ≡ refused n
    go (got a us k) e = impossible cc
    go (refused m) e = e

-- of whose value something is kept
pub keeps_got : {A B : Type 0} (f : A → B) {a : A} {us : List ℕ} {k : ℕ} {x : Read A} → got a us k ≡ x → got (f a) us k ≡ kept f x
unfolding kept
keeps_got f e = ap (kept f) e

pub keeps_lost : {A B : Type 0} (f : A → B) {n : ℕ} {x : Read A} → refused n ≡ x → refused n ≡ kept f x
unfolding kept
keeps_lost f e = ap (kept f) e

-- `left` things are still to be read, and then the whole is
pub record Going {A : Type 0} (m : Reader A) (whole : Read (Unit {0})) (left : ℕ) (d : Decoder) : Type 0 where
  pub rest : whole ≡ kept nothing (times left m d.words.now d.draws)

module _ {A : Type 0} {m : Reader A} {whole : Read (Unit {0})} {d : Decoder} where
  pub going_on : {left : ℕ} (fewer : ℕ) {later : Decoder} → Going m whole left d → left ≡ suc fewer → got tt later.words.now later.draws ≡ kept nothing (m d.words.now d.draws) → Going m whole fewer later
  going_on {left} fewer {later} g e f = record { rest = g.rest ∙ rw e (times_got m fewer d.words.now later.words.now d.draws later.draws (sym f)) }

  pub going_lost : {left n : ℕ} (fewer : ℕ) → Going m whole left d → left ≡ suc fewer → refused n ≡ kept nothing (m d.words.now d.draws) → refused n ≡ whole
  going_lost {left} {n} fewer g e f = sym (g.rest ∙ rw e (times_lost m fewer n d.words.now d.draws (sym f)))

  pub going_done : {left : ℕ} → Going m whole left d → left ≡ 0 → got tt d.words.now d.draws ≡ whole
  unfolding times kept
  going_done g e = sym (g.rest ∙ rw e refl)

-- a pattern: one slot, then the slots after it
pub after_after : {A B C : Type 0} (x : Read A) (f : A → Reader B) (g : B → Reader C) → after (after x f) g ≡ after x (λ a us k. after (f a us k) g)
after_after (got a us k) f g = refl
after_after (refused n) f g = refl

slots_slot : (w n : ℕ) (us : List ℕ) (k : ℕ) → slots (suc w) n us k ≡ after (slot n us k) (λ s vs j. after (slots w (scope_after n s) vs j) (λ p. give (push_slot s p)))
unfolding slots slot_as slot slot_for tag_of scope_after
slots_slot w n [] k = refl
slots_slot w n (zero ∷ us) k = sym (after_after (term_as any_atom n is_atom us k) _ _)
slots_slot w n (suc zero ∷ us) k = sym (after_after (term_as any_atom n is_var us k) _ _)
slots_slot w n (suc (suc zero) ∷ us) k = sym (after_after (word_where not_in_scope (λ v. eqb v n && leb v 15) us k) _ _)
slots_slot w n (suc (suc (suc t)) ∷ us) k = refl

last_slot : (s : Slot) (y : Read Pattern) → kept scope (after y (λ p. give (push_slot s p))) ≡ kept scope y
unfolding kept push_slot
last_slot s (got p us k) = refl
last_slot s (refused m) = refl

-- `left` slots are still to be read, `count` variables being in scope
pub record Matching (whole : Read ℕ) (left count : ℕ) (d : Decoder) : Type 0 where
  pub rest : whole ≡ kept scope (slots left count d.words.now d.draws)

module _ {whole : Read ℕ} {left count : ℕ} {d : Decoder} (fewer : ℕ) (g : Matching whole left count d) (e : left ≡ suc fewer) where
  one_more : whole ≡ kept scope (after (slot count d.words.now d.draws) (λ s vs j. after (slots fewer (scope_after count s) vs j) (λ p. give (push_slot s p))))
  one_more = g.rest ∙ rw e (ap (kept scope) (slots_slot fewer count d.words.now d.draws))

  pub matching_lost : {n : ℕ} → refused n ≡ slot count d.words.now d.draws → refused n ≡ whole
  unfolding kept
  matching_lost f = sym (one_more ∙ ap (λ x. kept scope (after x (λ s vs j. after (slots fewer (scope_after count s) vs j) (λ p. give (push_slot s p))))) (sym f))

  matching_on : (s : Slot) (later : Decoder) → got s later.words.now later.draws ≡ slot count d.words.now d.draws → Matching whole fewer (scope_after count s) later
  matching_on s later f = record {
    rest = one_more ∙ (ap (λ x. kept scope (after x (λ s vs j. after (slots fewer (scope_after count s) vs j) (λ p. give (push_slot s p))))) (sym f)
        ∙ last_slot s (slots fewer (scope_after count s) later.words.now later.draws));
  }

  pub matching_new : {s : SlotHeld.Slot} {later : Decoder} → got (slot_is s) later.words.now later.draws ≡ slot count d.words.now d.draws → s ≡ New → Matching whole fewer (count + 1) later
  unfolding slot_is scope_after
  matching_new {s} {later} f p = rw (ap (λ s. scope_after count (slot_is s)) p) at (matching_on (slot_is s) later f)

  pub matching_old : {s : SlotHeld.Slot} {later : Decoder} → got (slot_is s) later.words.now later.draws ≡ slot count d.words.now d.draws → (s ≡ New → ⊥) → Matching whole fewer count later
  unfolding slot_is scope_after
  matching_old {s = New} {later} f p = absurd (p refl)
  matching_old {s = Old t} {later} f p = matching_on (slot_is (Old t)) later f

pub matching_done : {whole : Read ℕ} {left count : ℕ} {d : Decoder} → Matching whole left count d → left ≡ 0 → got count d.words.now d.draws ≡ whole
unfolding slots kept
matching_done g e = sym (g.rest ∙ rw e refl)

-- "at most 15"
new_few : (n : ℕ) (us : List ℕ) (k : ℕ) (vs : List ℕ) (j : ℕ) → slot n us k ≡ got new vs j → n ≤ 15
unfolding slot slot_for tag_of term_as any_atom word_where next
new_few n [] k vs j e = impossible cc
new_few n (zero ∷ []) k vs j e = impossible cc
new_few n (zero ∷ a ∷ us) k vs j e = impossible cc
new_few n (suc zero ∷ []) k vs j e = impossible cc
new_few n (suc zero ∷ i ∷ us) k vs j e = go (ltb i n) e
  where
    go : (b : Bool) → after (after (after (need not_in_scope b us k) (λ t. give i)) (λ i. give (var i))) (λ t. give (old t)) ≡ got new vs j → n ≤ 15
    go true e = impossible cc
    go false e = impossible cc
new_few n (suc (suc zero) ∷ []) k vs j e = impossible cc
new_few n (suc (suc zero) ∷ v ∷ us) k vs j e = go (eqb v n && leb v 15) refl e
  where
    go : (b : Bool) → (eqb v n && leb v 15) ≡ b → after (after (need not_in_scope b us k) (λ t. give v)) (λ v. give new) ≡ got new vs j → n ≤ 15
    go true r e =
        let t = and_true (eqb v n) (leb v 15) r in
        omega (arith, eqb-true v n t.0, leb-true v 15 t.1)
    go false r e = impossible cc
new_few n (suc (suc (suc w)) ∷ us) k vs j e = impossible cc

pub slot_few : (n : ℕ) (us vs : List ℕ) (k j : ℕ) {s : SlotHeld.Slot} → got (slot_is s) vs j ≡ slot n us k → s ≡ New → n ≤ 15
unfolding slot_is
slot_few n us vs k j f p = new_few n us k vs j (sym f ∙ ap (λ s. got (slot_is s) vs j) p)
