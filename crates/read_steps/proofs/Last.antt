-- Terms that come to a row whose words stand at a place, and a head's row that is gathered already.
use Prim.Native.Nat.{ℕ, ◌+◌, ◌-◌, ◌*◌, ◌≤◌, ◌<◌}
use mathlib.Core.Path.{◌≡◌, refl, sym, ap, subst, ◌∙◌}
use mathlib.Core.Logic.{◌↔◌}
use mathlib.Core.Bool.{Bool, true, false}
use mathlib.Core.List.{List, []}
use native.Mathlib.Omega.{arith}
use lib.ListN.{length, get_or}
use Rattle.rows.specs.Ordered.{◌∈◌}
use Rattle.rows.specs.Row.{Row, row_before}
use Rattle.rows.specs.Layout.{row_in, five_at, rows_in}
use Rattle.rows.proofs.Order.{row_order}
use Rattle.rows.proofs.Place.{get_or-∈, insert_known}
use Rattle.rows.proofs.LayoutLaws.{rows_count, row_at}
use Rattle.row_words.proofs.RowLaws.{row_at_length, row_at_atom, Agree, agree_start, agree_next, agree_end}
use Rattle.sets.proofs.SetWords.{size, sound_ascending}
use Rattle.policy.specs.Syntax.{Term}
use Rattle.meaning.specs.Values.{Values, row_of}
use Rattle.meaning.specs.Reading.{within}
use Rattle.policy_places.specs.Places.{StandsRow}
use Rattle.read_values.specs.Rows.{SayAtom}
use Rattle.read_values.specs.Answers.{Filled}
use Rattle.read_values.specs.Outcomes.{outcome, IfOk}
use Rattle.std.specs.Prelude.{Ok}
use Rattle.policy_places.proofs.Places.{row_wide}
use Rattle.read_values.proofs.Rows.{row_of_length}
use Rattle.read_steps.specs.Areas.{Gathering}
use Rattle.read_steps.specs.Steps.{IsLast, SayIs, SayLast, SayHead}
use Rattle.read_steps.proofs.Areas.{kept_self}
use Rattle.read_steps.proofs.Inserting.{within_few}

-- ---- a row in the words, atom by atom

-- the first j of the terms come to the first j atoms of x, which has as many in all
pub record ComesTo (ws : List ℕ) (at : ℕ) (vs : Values) (x : Row) (j : ℕ) : Type 0 where
  means : (n : ℕ) (ts : List Term) → StandsRow n ws at ts → Agree (row_of vs ts) x j

-- a no
says_no : {P : Type 0} → (P → ⊥) → (false ≡ true) ↔ P
says_no h = (λ e. let z : ◌≡◌ {A = ℕ} 0 1 = cc in absurd (omega arith), λ p. absurd (h p))

module _ {ws : List ℕ} {at : ℕ} {vs : Values} (set : List ℕ) (place : ℕ) (few : get_or set place 0 ≤ 4) where
  pub other_width : place + 5 ≤ length set → (get_or set place 0 ≡ get_or ws at 0 → ⊥) → SayIs ws at vs (row_in (five_at set place)) false
  other_width room h = record {
    means = λ n ts s. says_no (λ e. h (sym (row_at_length set place room few) ∙ sym (ap length e) ∙ row_of_length vs ts ∙ sym (row_wide s).width));
  }

  module _ (alike : get_or set place 0 ≡ get_or ws at 0) where
    pub comes_start : place + 5 ≤ length set → ComesTo ws at vs (row_in (five_at set place)) 0
    comes_start room = record { means = λ n ts s. let w = (row_wide s).width in agree_start _ _ (omega (arith, row_of_length vs ts, row_at_length set place room few)) }

    module _ {j : ℕ} where
      pub other_atom : {a : ℕ} → j < get_or ws at 0 → SayAtom ws at vs j a → (a ≡ get_or set (place + 1 + j) 0 → ⊥) → SayIs ws at vs (row_in (five_at set place)) false
      other_atom less a h = record {
        means = λ n ts s. says_no (λ e. h (sym (a.means n ts s) ∙ ap (λ (x : Row). get_or x j 0) e ∙ row_at_atom set place j few (omega arith)));
      }

      module _ (iv : ComesTo ws at vs (row_in (five_at set place)) j) where
        pub comes_next : j < get_or ws at 0 → SayAtom ws at vs j (get_or set (place + 1 + j) 0) → ComesTo ws at vs (row_in (five_at set place)) (j + 1)
        comes_next less a = record {
          means = λ n ts s.
              let w = (row_wide s).width in
              agree_next _ _ j (iv.means n ts s) (omega (arith, row_of_length vs ts)) (a.means n ts s ∙ sym (row_at_atom set place j few (omega arith)));
        }

        pub comes_end : get_or ws at 0 ≤ j → SayIs ws at vs (row_in (five_at set place)) true
        comes_end all = record {
          means = λ n ts s. (λ h. let w = (row_wide s).width in agree_end _ _ j (iv.means n ts s) (omega (arith, row_of_length vs ts)), λ e. refl);
        }

-- ---- the last of the rows listed

module _ {ws : List ℕ} {at : ℕ} {vs : Values} {set : List ℕ} where
  pub none_last : get_or set 1 0 ≡ 0 → SayLast ws at vs set false
  none_last none = record { means = λ n ts s. says_no (λ l. let some = l.0 in omega (arith, rows_count set)) }

  pub says_last : (i : ℕ) {r : Bool} → Filled set → get_or set 1 0 ≡ i + 1 → SayIs ws at vs (row_in (five_at set (2 + 5 * i))) r → SayLast ws at vs set r
  says_last i f many s =
      let count = rows_count set in
      let e : i ≡ length (rows_in set) - 1 = omega arith in
      let here : row_in (five_at set (2 + 5 * i)) ≡ get_or (rows_in set) (length (rows_in set) - 1) [] = sym (row_at set i (omega arith)) ∙ ap (λ (k : ℕ). get_or (rows_in set) k []) e in
      record { means = λ n ts st. let w = s.means n ts st in (λ h. (omega arith, w.0 h ∙ here), λ l. w.1 (l.1 ∙ sym here)) }

last_in : {x : Row} (xs : List Row) → IsLast x xs → x ∈ xs
last_in xs l = let some = l.0 in subst (λ (y : Row). y ∈ xs) (sym l.1) (get_or-∈ xs (length xs - 1) [] (omega arith))

-- to gather it again changes nothing
pub head_known : {ws : List ℕ} {at : ℕ} {vs : Values} {k : ℕ} {entry : List ℕ} {r : Bool} → Gathering entry → SayLast ws at vs entry r → r ≡ true → SayHead ws at vs k entry (Ok k) entry
unfolding IfOk outcome
head_known {vs} {k} {entry} g s e =
    let sound = g.filled.sound in
    record {
      gathering = g;
      means = λ n ts st.
          ap (λ (xs : List Row). within xs k) (insert_known row_before row_order [] (rows_in entry) (row_of vs ts) (sound_ascending entry sound) (last_in (rows_in entry) ((s.means n ts st).0 e)))
          ∙ within_few (rows_in entry) k (size entry sound).few;
      kept = λ free. kept_self;
    }
