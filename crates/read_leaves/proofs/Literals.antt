-- The rows of a literal, put in from the first to the last.
use Prim.Native.Nat.{ℕ, ◌+◌, ◌-◌, ◌≤◌, ◌<◌}
use mathlib.Core.Path.{◌≡◌, refl, sym, ap, subst, ◌∙◌}
use mathlib.Core.Logic.{◌⊎◌, inl, inr, ◌↔◌}
use mathlib.Core.List.{List, [], ◌∷◌, map}
use native.Mathlib.Omega.{arith}
use lib.ListN.{length, get_or}
use Rattle.rows.specs.Ordered.{◌∈◌, insert, join}
use Rattle.rows.specs.Row.{Row, row_before}
use Rattle.rows.specs.Layout.{rows_in, formed, set_in}
use Rattle.row_words.specs.Values as held
use Rattle.row_words.specs.declared.row.Row as HeldRow
use Rattle.rows.specs.Polarities.{form_number}
use Rattle.rows.specs.declared.Form.{Form}
use Rattle.rows.specs.declared.Form.TheVariants.{Finite, Complement}
use Rattle.rows.proofs.Case.{◌then◌, iff_refl, iff_sym, both_or}
use Rattle.rows.proofs.Order.{row_order}
use Rattle.rows.proofs.Ordered.{Ascending, insert-∈, insert_ascending, join_ascending, ascending_unique}
use Rattle.rows.proofs.Joining.{insert_shorter}
use Rattle.rows.proofs.LayoutLaws.{listing_in, rows_count, true_sound}
use Rattle.sets.proofs.SetWords.{sound_ascending}
use Rattle.policy.specs.Syntax.{Term}
use Rattle.meaning.specs.Values.{Values, row_of}
use Rattle.meaning.specs.Reading.{small, rows_of}
use Rattle.policy_places.specs.Places.{SomeRow, SomeRows, PastRow}
use Rattle.read_values.specs.Rows.{SayRow}
use Rattle.read_values.specs.Answers.{Filled, Empty}
use Rattle.read_leaves.specs.Leaves.{SayRows}
use Rattle.policy_places.proofs.Past.{RowsLeft, RowsNext, rows_inside, rows_next, rows_none}
use Rattle.read_values.proofs.Answers.{small_few}
use Rattle.read_steps.proofs.Inserting.{Listed}

-- ---- inserts commute, so the rows may go in from the first to the last

insert_swap : (r s : Row) (xs : List Row) → Ascending row_before row_order xs → insert row_before r (insert row_before s xs) ≡ insert row_before s (insert row_before r xs)
insert_swap r s xs a =
    ascending_unique row_before row_order _ _
    (insert_ascending row_before row_order r _ (insert_ascending row_before row_order s xs a)) (insert_ascending row_before row_order s _ (insert_ascending row_before row_order r xs a))
    (λ t. two r s t then swap then iff_sym (two s r t))
  where
    two : (r s t : Row) → (t ∈ insert row_before r (insert row_before s xs)) ↔ ((t ≡ r) ⊎ ((t ≡ s) ⊎ (t ∈ xs)))
    two r s t = insert-∈ row_before row_order r (insert row_before s xs) t then both_or iff_refl (insert-∈ row_before row_order s xs t)

    swap : {A B C : Type 0} → (A ⊎ (B ⊎ C)) ↔ (B ⊎ (A ⊎ C))
    swap = (
      λ h. elim h [ inl a ↦ inr (inl a) | inr x ↦ elim x [ inl b ↦ inl b | inr c ↦ inr (inr c) ] ],
      λ h. elim h [ inl b ↦ inr (inl b) | inr x ↦ elim x [ inl a ↦ inl a | inr c ↦ inr (inr c) ] ],
    )

join_first : (x : Row) (xs found : List Row) → Ascending row_before row_order found → join row_before (x ∷ xs) found ≡ join row_before xs (insert row_before x found)
unfolding join
join_first x [] found a = refl
join_first x (y ∷ ys) found a = insert_swap x y (join row_before ys found) (join_ascending row_before row_order ys found a) ∙ ap (insert row_before y) (join_first x ys found a)

rows_join : (vs : Values) (rs : List (List Term)) → rows_of vs rs ≡ join row_before (map (row_of vs) rs) []
unfolding rows_of join
rows_join vs [] = refl
rows_join vs (r ∷ rs) = ap (insert row_before (row_of vs r)) (rows_join vs rs)

-- ---- the loop: i rows are in, and whatever those left come to with them, all come to

pub record Filling (ws : List ℕ) (at form : ℕ) (vs : Values) (area : List ℕ) (next i : ℕ) : Type 0 where
  pub within : i ≤ get_or ws at 0
  pub n : ℕ
  pub rs : List (List Term)
  pub left : RowsLeft ws next (get_or ws at 0 - i) n rs
  pub filled : Filled area
  pub is : get_or area 0 0 ≡ form
  pub few : length (rows_in area) ≤ i
  pub means : (z : List Row) → ((n : ℕ) (rs : List (List Term)) → RowsLeft ws next (get_or ws at 0 - i) n rs → join row_before (map (row_of vs) rs) (rows_in area) ≡ z) →
      (n : ℕ) (rs : List (List Term)) → RowsLeft ws (at + 1) (get_or ws at 0) n rs → join row_before (map (row_of vs) rs) [] ≡ z

pub form_few : (f : Form) → form_number f ≤ 1
form_few Finite = omega arith
form_few Complement = omega arith

pub literal_few : {ws : List ℕ} {at : ℕ} → SomeRows ws at → get_or ws at 0 ≤ 128
literal_few s = omega (arith, (rows_inside s.here).many, s.here.fit.few)

pub filling_start : {ws : List ℕ} {at form : ℕ} {vs : Values} {area : List ℕ} → SomeRows ws at → Empty form area → Filling ws at form vs area (at + 1) 0
filling_start {ws} {at} {form} {vs} {area} s m =
    let w : get_or ws at 0 ≡ get_or ws at 0 - 0 = omega arith in
    record {
      within = omega arith;
      n = s.n;
      rs = s.rs;
      left = subst (λ (k : ℕ). RowsLeft ws (at + 1) k s.n s.rs) w (rows_inside s.here);
      filled = m.filled;
      is = m.is;
      few = omega (arith, ap length m.none);
      means = λ z g n rs h. ap (join row_before (map (row_of vs) rs)) (sym m.none) ∙ g n rs (subst (λ (k : ℕ). RowsLeft ws (at + 1) k n rs) w h);
    }

module _ {ws : List ℕ} {at form : ℕ} {vs : Values} {area : List ℕ} {next i : ℕ} (iv : Filling ws at form vs area next i) where
  pub filling_row : i < get_or ws at 0 → SomeRow ws next
  filling_row h = record { n = iv.n; ts = _; here = (rows_next (omega arith) iv.left).row }

  pub filling_next : {r : HeldRow.Row} {now : List ℕ} {after : ℕ} → i < get_or ws at 0 → SayRow ws next vs r → Listed area (held.row_is r) now → PastRow ws next after → Filling ws at form vs now after (i + 1)
  unfolding join
  filling_next {r} {now} {after} h s l q =
      let e : get_or ws at 0 - i - 1 ≡ get_or ws at 0 - (i + 1) = omega arith in
      let on : (n : ℕ) (rs : List (List Term)) (x : RowsNext ws next (get_or ws at 0 - i) n rs) → RowsLeft ws after (get_or ws at 0 - (i + 1)) n x.others =
      λ n rs x. subst (λ (k : ℕ). RowsLeft ws after k n x.others) e (subst (λ (k : ℕ). RowsLeft ws k (get_or ws at 0 - i - 1) n x.others) (sym (q.past n x.r x.row)) x.rest) in
      let w = rows_next (omega arith) iv.left in
      let few = iv.few in
      record {
        within = omega arith;
        n = iv.n;
        rs = w.others;
        left = on iv.n iv.rs w;
        filled = l.filled;
        is = l.form ∙ iv.is;
        few = omega (arith, ap length l.rows, insert_shorter row_before row_order (held.row_is r) (rows_in area));
        means = λ z g. iv.means z (λ n rs t.
            let x = rows_next (omega arith) t in
            ap (λ (ys : List (List Term)). join row_before (map (row_of vs) ys) (rows_in area)) x.is
            ∙ join_first (row_of vs x.r) (map (row_of vs) x.others) (rows_in area) (sound_ascending area iv.filled.sound)
            ∙ ap (λ (y : Row). join row_before (map (row_of vs) x.others) (insert row_before y (rows_in area))) (sym (s.means n x.r x.row))
            ∙ ap (join row_before (map (row_of vs) x.others)) (sym l.rows) ∙ g n x.others (on n rs x));
      }

  pub filling_end : get_or ws at 0 ≤ i → SayRows ws at form vs area
  unfolding join set_in
  filling_end all = record {
    filled = iv.filled;
    means = λ n rs s k.
        let e : rows_of vs rs ≡ rows_in area = rows_join vs rs
        ∙ iv.means (rows_in area) (λ m ts l. ap (λ (ys : List (List Term)). join row_before (map (row_of vs) ys) (rows_in area)) (rows_none (get_or ws at 0 - i) (omega arith) l)) n rs (rows_inside s) in
        let c = (true_sound area iv.filled.sound).count in
        ap (λ (xs : List Row). small (formed form xs) k) e ∙ ap (λ (f : ℕ). small (formed f (rows_in area)) k) (sym iv.is)
        ∙ small_few (set_in area) k (omega (arith, ap length (listing_in area), rows_count area));
  }
