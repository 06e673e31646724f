-- The matching rule: reading matches a row just where belonging does, in either format; and what a pattern binds are words.
use Prim.Native.Nat.{ℕ, suc, ◌≤◌}
use mathlib.Core.Path.{◌≡◌, refl, sym, ◌∙◌, ap, subst}
use mathlib.Core.Logic.{◌↔◌}
use mathlib.Core.Bool.{Bool, true, false}
use mathlib.Core.Option.{none, some}
use mathlib.Core.List.{List, [], ◌∷◌, ◌++◌, append_assoc, append-nil}
use native.Mathlib.Omega.{arith}
use lib.Dec.{T, eqb, leb}
use lib.ListN.{length, take, drop, take-append-drop, length-append}
use lib.Seq.{take_all, take-append_seam}
use borrow.Author.Tests.{eqb-true, eq-eqb, ne_eqb, leb-true, le-leb}
use Rattle.rows.specs.Word.{All, IsWord, Words}
use Rattle.rows.specs.Row.{Row}
use Rattle.rows.proofs.Case.{Case, is_true, is_false, split, T_true, true_T}
use Rattle.rows.proofs.Lists.{all_both}
use Rattle.policy.specs.Format.{equal_widths, wider_rows}
use Rattle.policy.specs.Syntax.{Slot, old, new}
use Rattle.policy.specs.Words.{fresh}
use Rattle.meaning.specs.Values.{Values, value}
use Rattle.meaning.specs.Matching.{fits, match_first, match, fill, Matches, Binds, Theorem}

-- each format's test of the widths
pub fits_wider : {format : ℕ} (w n : ℕ) → format ≡ wider_rows → fits format w n ≡ leb w n
unfolding fits
fits_wider {format} w n e = rw (eq-eqb format wider_rows e, fits)

pub fits_equal : {format : ℕ} (w n : ℕ) → (format ≡ wider_rows → ⊥) → fits format w n ≡ eqb w n
unfolding fits
fits_equal {format} w n e = rw (ne_eqb format wider_rows e, fits)

-- in either format a row of the pattern's width fits
pub fits_same : (format w n : ℕ) → w ≡ n → fits format w n ≡ true
unfolding fits
fits_same format w n e = go (eqb format wider_rows)
  where
    go : (b : Bool) → (elim b as (λ c. Bool) [ true ↦ leb w n | false ↦ eqb w n ]) ≡ true
    go true = le-leb w n (omega arith)
    go false = eq-eqb w n e

-- and none is narrower
pub fits_long : (format w n : ℕ) → T (fits format w n) → w ≤ n
unfolding fits
fits_long format w n t = go (eqb format wider_rows) t
  where
    go : (b : Bool) → T (elim b as (λ c. Bool) [ true ↦ leb w n | false ↦ eqb w n ]) → w ≤ n
    go true h = leb-true w n (true_T _ h)
    go false h = let e : w ≡ n = eqb-true w n (true_T _ h) in omega arith

-- ---- the slots against the first atoms

record First (p : List Slot) (vs : Values) (x : Row) (ws : Values) : Type 0 where
  own : List ℕ
  enough : length own ≡ fresh p
  filled : take (length p) x ≡ fill p vs own
  behind : ws ≡ vs ++ own

first_bound : (p : List Slot) (vs : Values) (x : Row) (ws : Values) → match_first p vs x ≡ some ws → First p vs x ws
unfolding match_first fresh fill
first_bound [] vs x ws e = record { own = []; enough = refl; filled = refl; behind = (let f : vs ≡ ws = cc in sym f) ∙ sym (append-nil vs) }
first_bound (old t ∷ p) vs [] ws e = let z : ◌≡◌ {A = ℕ} 0 1 = cc in absurd (omega arith)
first_bound (old t ∷ p) vs (a ∷ x) ws e = go (first_bound p vs x ws) (split (eqb (value vs t) a))
  where
    go : (match_first p vs x ≡ some ws → First p vs x ws) → Case (eqb (value vs t) a) → First (old t ∷ p) vs (a ∷ x) ws
    go ih (is_true h) =
        let b = ih (rw (h, match_first) at e) in
        let f : value vs t ≡ a = eqb-true (value vs t) a h in
        let g : take (length p) x ≡ fill p vs b.own = b.filled in
        record { own = b.own; enough = b.enough; filled = cc; behind = b.behind }
    go ih (is_false h) =
        let m : none ≡ some ws = rw (h, match_first) at e in
        let z : ◌≡◌ {A = ℕ} 0 1 = cc in absurd (omega arith)
first_bound (new ∷ p) vs [] ws e = let z : ◌≡◌ {A = ℕ} 0 1 = cc in absurd (omega arith)
first_bound (new ∷ p) vs (a ∷ x) ws e = go (first_bound p (vs ++ (a ∷ [])) x ws e)
  where
    go : First p (vs ++ (a ∷ [])) x ws → First (new ∷ p) vs (a ∷ x) ws
    go b = record {
      own = a ∷ b.own;
      enough = ap suc b.enough;
      filled = ap (λ (l : Row). a ∷ l) b.filled;
      behind = b.behind ∙ append_assoc vs (a ∷ []) b.own;
    }

bound_first : (p : List Slot) (vs : Values) (own : List ℕ) (more : Row) → length own ≡ fresh p → match_first p vs (fill p vs own ++ more) ≡ some (vs ++ own)
unfolding match_first fresh fill
bound_first [] vs [] more e = ap some (sym (append-nil vs))
bound_first [] vs (a ∷ own) more e = absurd (omega arith)
bound_first (old t ∷ p) vs own more e = rw (eq-eqb (value vs t) (value vs t) refl, match_first) (bound_first p vs own more e)
bound_first (new ∷ p) vs [] more e = absurd (omega arith)
bound_first (new ∷ p) vs (a ∷ own) more e = bound_first p (vs ++ (a ∷ [])) own more (omega arith) ∙ ap some (append_assoc vs (a ∷ []) own)

-- ---- the rule

-- where the widths fit, the first atoms decide; else nothing matches
pub match_fits : (format : ℕ) (p : List Slot) (vs : Values) (x : Row) → fits format (length p) (length x) ≡ true → match format p vs x ≡ match_first p vs x
unfolding match
match_fits format p vs x h = rw (h, match)

pub match_misfits : (format : ℕ) (p : List Slot) (vs : Values) (x : Row) → fits format (length p) (length x) ≡ false → match format p vs x ≡ none
unfolding match
match_misfits format p vs x h = rw (h, match)

pub match_bound : (format : ℕ) (p : List Slot) (vs : Values) (x : Row) (ws : Values) → match format p vs x ≡ some ws → Binds format p vs x ws
match_bound format p vs x ws e = go (split (fits format (length p) (length x)))
  where
    go : Case (fits format (length p) (length x)) → Binds format p vs x ws
    go (is_true h) =
        let b = first_bound p vs x ws (sym (match_fits format p vs x h) ∙ e) in
        record { own = b.own; fit = record { fitting = T_true h; enough = b.enough; filled = b.filled }; behind = b.behind }
    go (is_false h) =
        let m : none ≡ some ws = sym (match_misfits format p vs x h) ∙ e in
        let z : ◌≡◌ {A = ℕ} 0 1 = cc in absurd (omega arith)

-- the row is the filled pattern and what is behind it
begins : (format : ℕ) (p : List Slot) (vs : Values) (own : List ℕ) (x : Row) → Matches format p vs own x → x ≡ fill p vs own ++ drop (length p) x
begins format p vs own x m = sym (take-append-drop (length p) x) ∙ ap (λ (l : Row). l ++ drop (length p) x) m.filled

pub matches_match : (format : ℕ) (p : List Slot) (vs : Values) (own : List ℕ) (x : Row) → Matches format p vs own x → match format p vs x ≡ some (vs ++ own)
matches_match format p vs own x m =
    match_fits format p vs x (true_T _ m.fitting)
    ∙ ap (match_first p vs) (begins format p vs own x m)
    ∙ bound_first p vs own (drop (length p) x) m.enough

-- ---- the formats apart

fill_length : (p : List Slot) (vs : Values) (own : List ℕ) → length own ≡ fresh p → length (fill p vs own) ≡ length p
unfolding fresh fill
fill_length [] vs own e = refl
fill_length (old t ∷ p) vs own e = ap suc (fill_length p vs own e)
fill_length (new ∷ p) vs [] e = absurd (omega arith)
fill_length (new ∷ p) vs (a ∷ own) e = ap suc (fill_length p (vs ++ (a ∷ [])) own (omega arith))

take_filled : (p : List Slot) (vs : Values) (own : List ℕ) (more : Row) → length own ≡ fresh p → take (length p) (fill p vs own ++ more) ≡ fill p vs own
take_filled p vs own more e = subst (λ (n : ℕ). take n (fill p vs own ++ more) ≡ fill p vs own) (fill_length p vs own e) (take-append_seam (fill p vs own) more)

equal_widths_lem : (p : List Slot) (vs : Values) (own : List ℕ) (x : Row) → Matches equal_widths p vs own x ↔ ((length own ≡ fresh p) × (x ≡ fill p vs own))
unfolding fits
equal_widths_lem p vs own x = (
  λ m. (m.enough, (let e : length p ≡ length x = eqb-true (length p) (length x) (true_T _ m.fitting) in sym (take_all (length p) x (omega arith)) ∙ m.filled)),
  λ t. let l : length (fill p vs own) ≡ length p = fill_length p vs own t.0 in
      let e : length x ≡ length (fill p vs own) = ap length t.1 in
      record {
        fitting = T_true (eq-eqb (length p) (length x) (omega arith));
        enough = t.0;
        filled = take_all (length p) x (omega arith) ∙ t.1;
      },
)

wider_rows_lem : (p : List Slot) (vs : Values) (own : List ℕ) (x : Row) →
    Matches wider_rows p vs own x ↔ ((length own ≡ fresh p) × ((more : Row) × (x ≡ fill p vs own ++ more)))
unfolding fits
wider_rows_lem p vs own x = (λ m. (m.enough, (drop (length p) x, begins wider_rows p vs own x m)), λ t. back t.0 t.1.0 t.1.1)
  where
    back : length own ≡ fresh p → (more : Row) → x ≡ fill p vs own ++ more → Matches wider_rows p vs own x
    back e more f =
        let l : length (fill p vs own) ≡ length p = fill_length p vs own e in
        let n : length x ≡ length (fill p vs own ++ more) = ap length f in
        record {
          fitting = T_true (le-leb (length p) (length x) (omega (arith, length-append (fill p vs own) more)));
          enough = e;
          filled = ap (take (length p)) f ∙ take_filled p vs own more e;
        }

pub theorem : Theorem
theorem = record {
  tied = λ format p vs x ws. (
    match_bound format p vs x ws,
    λ b. matches_match format p vs b.own x b.fit ∙ ap some (sym b.behind),
  );
  equal = equal_widths_lem;
  wider = wider_rows_lem;
}

-- ---- words

first_words : (p : List Slot) (vs : Values) (x : Row) (ws : Values) → Words vs → Words x → match_first p vs x ≡ some ws → Words ws
unfolding match_first All
first_words [] vs x ws a b e = subst Words (let f : vs ≡ ws = cc in f) a
first_words (old t ∷ p) vs [] ws a b e = let z : ◌≡◌ {A = ℕ} 0 1 = cc in absurd (omega arith)
first_words (old t ∷ p) vs (y ∷ x) ws a b e = go (first_words p vs x ws a b.1) (split (eqb (value vs t) y))
  where
    go : (match_first p vs x ≡ some ws → Words ws) → Case (eqb (value vs t) y) → Words ws
    go ih (is_true h) = ih (rw (h, match_first) at e)
    go ih (is_false h) =
        let m : none ≡ some ws = rw (h, match_first) at e in
        let z : ◌≡◌ {A = ℕ} 0 1 = cc in absurd (omega arith)
first_words (new ∷ p) vs [] ws a b e = let z : ◌≡◌ {A = ℕ} 0 1 = cc in absurd (omega arith)
first_words (new ∷ p) vs (y ∷ x) ws a b e = first_words p (vs ++ (y ∷ [])) x ws (all_both IsWord vs (y ∷ []) a (b.0, tt)) b.1 e

pub match_words : (format : ℕ) (p : List Slot) (vs : Values) (x : Row) (ws : Values) → Words vs → Words x → match format p vs x ≡ some ws → Words ws
match_words format p vs x ws a b e = go (split (fits format (length p) (length x)))
  where
    go : Case (fits format (length p) (length x)) → Words ws
    go (is_true h) = first_words p vs x ws a b (sym (match_fits format p vs x h) ∙ e)
    go (is_false h) =
        let m : none ≡ some ws = sym (match_misfits format p vs x h) ∙ e in
        let z : ◌≡◌ {A = ℕ} 0 1 = cc in absurd (omega arith)
