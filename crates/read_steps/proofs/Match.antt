-- A pattern against a row, slot by slot.
use Prim.Native.Nat.{ℕ, suc, ◌+◌, ◌-◌, ◌*◌, ◌≤◌, ◌<◌}
use mathlib.Core.Path.{◌≡◌, refl, sym, ap, subst, ◌∙◌}
use mathlib.Core.Bool.{Bool, true, false}
use mathlib.Core.List.{List, [], ◌∷◌, ◌++◌}
use mathlib.Core.Option.{Option, none, some}
use native.Mathlib.Numerals.{add-one}
use native.Mathlib.Omega.{arith}
use lib.Dec.{eqb}
use lib.ListN.{length, take, drop, get_or, set}
use lib.Seq.{drop-cons}
use borrow.Author.Tests.{eq-eqb, ne_eqb}
use Rattle.rows.specs.Row.{Row}
use Rattle.rows.specs.Layout.{row_in, five_at}
use Rattle.rows.proofs.Case.{T_true}
use Rattle.rows.proofs.Lists.{no_elements}
use Rattle.row_words.proofs.RowLaws.{row_at_length, row_at_atom}
use Rattle.policy.specs.Syntax.{Term, Slot, old, new}
use Rattle.policy.specs.Words.{term_words, slot_words, fresh}
use Rattle.policy.specs.Held.{term_is, slot_is}
use Rattle.policy.specs.declared.Term as HeldTerm
use Rattle.policy.specs.declared.Slot.TheVariants.{Old, New}
use Rattle.meaning.specs.Values.{Values, value}
use Rattle.meaning.specs.Matching.{fits, match_first, match}
use Rattle.meaning.proofs.Matching.{fits_long, match_fits, match_misfits}
use Rattle.read_values.specs.Values.{Bound, Unchanged}
use Rattle.policy_places.specs.Places.{At, StandsPattern, SomePattern, IsSlot}
use Rattle.read_steps.specs.Steps.{matched_is, SayMatch}
use Rattle.policy_places.proofs.Places.{at_word, at_next, at_skip, at_long, term_length, slots_length, slots_scope, pattern_wide}
use Rattle.read_values.proofs.Unchanged.{unchanged_self, unchanged_then, unchanged_less, unchanged_bind, take_bind, bound_bind}

-- ---- slots: `left` of them stand there, n variables being in scope

record SlotsLeft (ws : List ℕ) (at n left : ℕ) (p : List Slot) : Type 0 where
  words : At ws at (slot_words n p)
  many : length p ≡ left
  scope : n + fresh p ≤ 16

slots_inside : {n : ℕ} {ws : List ℕ} {at : ℕ} {p : List Slot} → n ≤ 16 → StandsPattern n ws at p → SlotsLeft ws (at + 1) n (get_or ws at 0) p
slots_inside {n} {ws} {at} {p} h s = record { words = at_next s.words; many = sym (at_word s.words); scope = slots_scope n p h s.fit.slots }

slots_long : {ws : List ℕ} {at n left : ℕ} {p : List Slot} → SlotsLeft ws at n left p → 0 < left → at + 2 * left ≤ length ws
slots_long {n} {p} s h = let m = s.many in let l = slots_length n p in omega (arith, at_long (omega arith) s.words)

-- the slot that stands there is taken off the front
record NewNext (ws : List ℕ) (at n left : ℕ) (q : List Slot) : Type 0 where
  p : List Slot
  is : q ≡ new ∷ p
  rest : SlotsLeft ws (at + 2) (n + 1) (left - 1) p
  fits : n < 16

record OldNext (ws : List ℕ) (at n left : ℕ) (x : HeldTerm.Term) (q : List Slot) : Type 0 where
  t : Term
  p : List Slot
  is : q ≡ old t ∷ p
  held : term_is x ≡ t
  rest : SlotsLeft ws (at + 2) n (left - 1) p

module _ {ws : List ℕ} {at n left : ℕ} where
  new_next : {q : List Slot} → 0 < left → IsSlot ws at New → SlotsLeft ws at n left q → NewNext ws at n left q
  unfolding slot_words slot_is fresh
  new_next {q} z i s = go q s
    where
      go : (q : List Slot) → SlotsLeft ws at n left q → NewNext ws at n left q
      go [] s = absurd (omega (arith, s.many))
      go (old t ∷ p) s = let e = i.is n (old t) p s.words in let w : ◌≡◌ {A = ℕ} 0 1 = cc in absurd (omega arith)
      go (new ∷ p) s =
          let sc = s.scope in
          let sm = s.many in
          record { p = p; is = refl; rest = record { words = at_skip (2 ∷ n ∷ []) (slot_words (n + 1) p) s.words; many = omega arith; scope = omega arith }; fits = omega arith }

  old_next : {q : List Slot} {x : HeldTerm.Term} → 0 < left → IsSlot ws at (Old x) → SlotsLeft ws at n left q → OldNext ws at n left x q
  unfolding slot_words slot_is fresh
  old_next {q} {x} z i s = go q s
    where
      go : (q : List Slot) → SlotsLeft ws at n left q → OldNext ws at n left x q
      go [] s = absurd (omega (arith, s.many))
      go (old t ∷ p) s =
          let e = i.is n (old t) p s.words in
          let h : term_is x ≡ t = cc in
          let l = term_length t in
          let f : at + length (term_words t) ≡ at + 2 = omega arith in
          let sm = s.many in
          record { t = t; p = p; is = refl; held = h; rest = record { words = subst (λ (k : ℕ). At ws k (slot_words n p)) f (at_skip (term_words t) (slot_words n p) s.words); many = omega arith; scope = s.scope } }
      go (new ∷ p) s = let e = i.is n new p s.words in let w : ◌≡◌ {A = ℕ} 0 1 = cc in absurd (omega arith)

-- ---- the slots: j of them are matched, and whatever those left come to from here, all come to from the start

record Matching (ws : List ℕ) (at n : ℕ) (vs : Values) (x : Row) (width scope : ℕ) (us : Values) (j : ℕ) : Type 0 where
  within : j ≤ width
  p : List Slot
  here : SlotsLeft ws (at + 1 + 2 * j) scope (width - j) p
  means : (r : Option Values) → ((q : List Slot) → SlotsLeft ws (at + 1 + 2 * j) scope (width - j) q → match_first q us (drop j x) ≡ r) →
      (q : List Slot) → SlotsLeft ws (at + 1) n width q → match_first q vs x ≡ r
  count : (m : ℕ) → ((q : List Slot) → SlotsLeft ws (at + 1 + 2 * j) scope (width - j) q → m ≡ scope + fresh q) →
      (q : List Slot) → SlotsLeft ws (at + 1) n width q → m ≡ n + fresh q

matching_start : {ws : List ℕ} {at n : ℕ} {vs : Values} {x : Row} → n ≤ 16 → SomePattern n ws at → Matching ws at n vs x (get_or ws at 0) n vs 0
matching_start {ws} {at} {n} scope s =
    let a : at + 1 ≡ at + 1 + 2 * 0 = omega arith in
    let w : get_or ws at 0 ≡ get_or ws at 0 - 0 = omega arith in
    let to : (q : List Slot) → SlotsLeft ws (at + 1) n (get_or ws at 0) q → SlotsLeft ws (at + 1 + 2 * 0) n (get_or ws at 0 - 0) q =
    λ q h. subst (λ (k : ℕ). SlotsLeft ws (at + 1 + 2 * 0) n k q) w (subst (λ (k : ℕ). SlotsLeft ws k n (get_or ws at 0) q) a h) in
    record { within = omega arith; p = s.p; here = to s.p (slots_inside scope s.here); means = λ r g q h. g q (to q h); count = λ m g q h. g q (to q h) }

module _ {ws : List ℕ} {at n : ℕ} {vs : Values} {x : Row} {width scope : ℕ} {us : Values} {j : ℕ} (iv : Matching ws at n vs x width scope us j) (less : j < width) where
  moved : {n : ℕ} {p : List Slot} → SlotsLeft ws (at + 1 + 2 * j + 2) n (width - j - 1) p → SlotsLeft ws (at + 1 + 2 * (j + 1)) n (width - (j + 1)) p
  moved {n} {p} s =
      let a : at + 1 + 2 * j + 2 ≡ at + 1 + 2 * (j + 1) = omega arith in
      let w : width - j - 1 ≡ width - (j + 1) = omega arith in
      subst (λ (k : ℕ). SlotsLeft ws (at + 1 + 2 * (j + 1)) n k p) w (subst (λ (k : ℕ). SlotsLeft ws k n (width - j - 1) p) a s)

  module _ {a : ℕ} (long : width ≤ length x) (atom : get_or x j 0 ≡ a) where
    here : drop j x ≡ a ∷ drop (j + 1) x
    here = rw (add-one) (drop-cons x j 0 (omega arith) ∙ ap (λ (y : ℕ). y ∷ drop (suc j) x) atom)

    matching_new : {more : Values} → IsSlot ws (at + 1 + 2 * j) New → more ≡ us ++ (a ∷ []) → Matching ws at n vs x width (scope + 1) more (j + 1)
    unfolding match_first fresh
    matching_new {more} i v =
        let w = new_next (omega arith) i iv.here in
        record {
          within = omega arith;
          p = w.p;
          here = moved w.rest;
          means = λ z g. iv.means z (λ q s.
              let y = new_next (omega arith) i s in
              ap (λ (u : List Slot). match_first u us (drop j x)) y.is ∙ ap (λ (u : Row). match_first (new ∷ y.p) us u) here
              ∙ ap (λ (u : Values). match_first y.p u (drop (j + 1) x)) (sym v) ∙ g y.p (moved y.rest));
          count = λ m g. iv.count m (λ q s. let y = new_next (omega arith) i s in let e = g y.p (moved y.rest) in let f = ap fresh y.is in omega arith);
        }

    module _ {t : HeldTerm.Term} (i : IsSlot ws (at + 1 + 2 * j) (Old t)) where
      old_match : (q : List Slot) (y : OldNext ws (at + 1 + 2 * j) scope (width - j) t q) (r : Option Values) (b : Bool) → eqb (value us (term_is t)) a ≡ b →
          ◌≡◌ {A = Option Values} (elim b as (λ c. Option Values) [ true ↦ match_first y.p us (drop (j + 1) x) | false ↦ none ]) r → match_first q us (drop j x) ≡ r
      unfolding match_first
      old_match q y r b e g =
          ap (λ (u : List Slot). match_first u us (drop j x)) y.is ∙ ap (λ (u : Row). match_first (old y.t ∷ y.p) us u) here
          ∙ ap (λ (c : Bool). elim c as (λ c. Option Values) [ true ↦ match_first y.p us (drop (j + 1) x) | false ↦ none ])
          (ap (λ (u : ℕ). eqb u a) (sym (ap (value us) y.held)) ∙ e) ∙ g

      matching_old : value us (term_is t) ≡ a → Matching ws at n vs x width scope us (j + 1)
      unfolding fresh
      matching_old e =
          let w = old_next (omega arith) i iv.here in
          record {
            within = omega arith;
            p = w.p;
            here = moved w.rest;
            means = λ r g. iv.means r (λ q s. let y = old_next (omega arith) i s in old_match q y r true (eq-eqb _ _ e) (g y.p (moved y.rest)));
            count = λ m g. iv.count m (λ q s. let y = old_next (omega arith) i s in let k = g y.p (moved y.rest) in let f = ap fresh y.is in omega arith);
          }

      matching_fails : (value us (term_is t) ≡ a → ⊥) → (q : List Slot) → SlotsLeft ws (at + 1) n width q → match_first q vs x ≡ none
      matching_fails e = iv.means none (λ q s. let y = old_next (omega arith) i s in old_match q y none false (ne_eqb _ _ e) refl)

slots_none : {ws : List ℕ} {at n : ℕ} {p : List Slot} (left : ℕ) → left ≡ 0 → SlotsLeft ws at n left p → p ≡ []
slots_none {p} left z s = no_elements p (s.many ∙ z)

-- ---- the loop: the values lent are those of the first scope, and behind them those of the slots passed

pub record Passed (ws : List ℕ) (at : ℕ) (values : List ℕ) (count : ℕ) (area : List ℕ) (row : ℕ) (values_now : List ℕ) (scope j : ℕ) : Type 0 where
  pub unchanged : Unchanged count values values_now
  pub bound : Bound values_now scope
  pub more : count ≤ scope
  slots : Matching ws at count (take count values) (row_in (five_at area row)) (get_or ws at 0) scope (take scope values_now) j

pub passed_start : {ws : List ℕ} {at : ℕ} {values : List ℕ} {count : ℕ} {area : List ℕ} {row : ℕ} → Bound values count → SomePattern count ws at → Passed ws at values count area row values count 0
passed_start b s = record { unchanged = unchanged_self; bound = b; more = omega arith; slots = matching_start b.scope s }

-- a row that the pattern's width fits, read from the words at its place
pub record Fits (format : ℕ) (ws : List ℕ) (at : ℕ) (area : List ℕ) (row : ℕ) : Type 0 where
  pub may : fits format (get_or ws at 0) (length (row_in (five_at area row))) ≡ true
  pub few : get_or ws at 0 ≤ 4
  pub long : get_or ws at 0 ≤ length (row_in (five_at area row))
  pub atom : (j : ℕ) → j < get_or ws at 0 → get_or (row_in (five_at area row)) j 0 ≡ get_or area (row + 1 + j) 0

pub fitting : {format : ℕ} {ws : List ℕ} {at : ℕ} (area : List ℕ) (row : ℕ) → row + 5 ≤ length area → get_or area row 0 ≤ 4 → fits format (get_or ws at 0) (get_or area row 0) ≡ true → Fits format ws at area row
fitting {format} {ws} {at} area row room few e =
    let l : length (row_in (five_at area row)) ≡ get_or area row 0 = row_at_length area row room few in
    let long : get_or ws at 0 ≤ get_or area row 0 = fits_long format (get_or ws at 0) (get_or area row 0) (T_true e) in
    record { may = ap (fits format (get_or ws at 0)) l ∙ e; few = omega arith; long = omega arith; atom = λ j h. row_at_atom area row j few (omega arith) }

-- rows that it does not fit do not match
pub misfitting : {format : ℕ} {ws : List ℕ} {at : ℕ} {values : List ℕ} {count : ℕ} (area : List ℕ) (row : ℕ) → row + 5 ≤ length area → get_or area row 0 ≤ 4 →
    fits format (get_or ws at 0) (get_or area row 0) ≡ false → SayMatch format ws at values count (row_in (five_at area row)) false values count
unfolding matched_is
misfitting {format} {values} {count} area row room few h = record {
  unchanged = unchanged_self;
  means = λ p s.
      let w = (pattern_wide s).width in
      match_misfits format p (take count values) (row_in (five_at area row)) (rw (row_at_length area row room few, sym w) h);
  scope = λ p s e. let w : ◌≡◌ {A = ℕ} 0 1 = cc in absurd (omega arith);
  back = λ e. refl;
}

module _ {ws : List ℕ} {at : ℕ} {values : List ℕ} {count : ℕ} {area : List ℕ} {row : ℕ} {values_now : List ℕ} {scope j : ℕ} (iv : Passed ws at values count area row values_now scope j) where
  pub slot_inside : j < get_or ws at 0 → at + 1 + 2 * j + 2 ≤ length ws
  slot_inside less = let w = slots_long iv.slots.here (omega arith) in omega arith

  pub new_scope : j < get_or ws at 0 → IsSlot ws (at + 1 + 2 * j) New → scope < 16
  new_scope less i = (new_next (omega arith) i iv.slots.here).fits

  module _ {format : ℕ} (f : Fits format ws at area row) where
    pub passed_new : j < get_or ws at 0 → IsSlot ws (at + 1 + 2 * j) New → Passed ws at values count area row (set values_now scope (get_or area (row + 1 + j) 0)) (scope + 1) (j + 1)
    passed_new less i =
        let more = iv.more in
        let inside = new_scope less i in
        let long = iv.bound.long in
        record {
          unchanged = unchanged_then iv.unchanged (unchanged_less more (unchanged_bind values_now scope _));
          bound = bound_bind values_now scope _ inside iv.bound;
          more = omega arith;
          slots = matching_new iv.slots less f.long (f.atom j less) i (take_bind values_now scope _ (omega arith));
        }

    pub passed_old : {t : HeldTerm.Term} → j < get_or ws at 0 → IsSlot ws (at + 1 + 2 * j) (Old t) → value (take scope values_now) (term_is t) ≡ get_or area (row + 1 + j) 0 →
        Passed ws at values count area row values_now scope (j + 1)
    passed_old less i e =
        record { unchanged = iv.unchanged; bound = iv.bound; more = iv.more; slots = matching_old iv.slots less f.long (f.atom j less) i e }

    module _ (b : Bound values count) where
      -- the pattern fits: its slots decide
      decided : {p : List Slot} → StandsPattern count ws at p → match format p (take count values) (row_in (five_at area row)) ≡ match_first p (take count values) (row_in (five_at area row))
      decided {p} s = match_fits format p (take count values) (row_in (five_at area row)) (rw (sym (pattern_wide s).width) f.may)

      pub mismatched : {t : HeldTerm.Term} → j < get_or ws at 0 → IsSlot ws (at + 1 + 2 * j) (Old t) → (value (take scope values_now) (term_is t) ≡ get_or area (row + 1 + j) 0 → ⊥) →
          SayMatch format ws at values count (row_in (five_at area row)) false values_now count
      unfolding matched_is
      mismatched less i e = record {
        unchanged = iv.unchanged;
        means = λ p s. decided s ∙ matching_fails iv.slots less f.long (f.atom j less) i e p (slots_inside b.scope s);
        scope = λ p s w. let z : ◌≡◌ {A = ℕ} 0 1 = cc in absurd (omega arith);
        back = λ e. refl;
      }

      pub matched : get_or ws at 0 ≤ j → SayMatch format ws at values count (row_in (five_at area row)) true values_now scope
      unfolding match_first fresh matched_is
      matched h =
          let x : Row = row_in (five_at area row) in
          let empty : (q : List Slot) → SlotsLeft ws (at + 1 + 2 * j) scope (get_or ws at 0 - j) q → q ≡ [] = λ q l. slots_none (get_or ws at 0 - j) (omega arith) l in
          record {
            unchanged = iv.unchanged;
            means = λ p s. decided s ∙ iv.slots.means (some (take scope values_now)) (λ q l. ap (λ (u : List Slot). match_first u (take scope values_now) (drop j x)) (empty q l)) p (slots_inside b.scope s);
            scope = λ p s e. iv.slots.count scope (λ q l. let f = ap fresh (empty q l) in omega arith) p (slots_inside b.scope s);
            back = λ e. let z : ◌≡◌ {A = ℕ} 0 1 = cc in absurd (omega arith);
          }
