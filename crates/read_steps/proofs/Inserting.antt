-- A row inserted into a sound set, such as the head's, and the membership test of an absent guard.
use Prim.Native.Nat.{ℕ, ◌≤◌, ◌<◌}
use mathlib.Core.Path.{◌≡◌, sym, ap, subst, ◌∙◌}
use mathlib.Core.Bool.{Bool, true, false}
use mathlib.Core.List.{List}
use native.Mathlib.Omega.{arith}
use lib.ListN.{length, get_or}
use borrow.Author.Tests.{le-leb, lt-leb}
use Rattle.rows.specs.Ordered.{insert}
use Rattle.rows.specs.Row.{Row, row_before}
use Rattle.rows.specs.Sets.{has}
use Rattle.rows.specs.Layout.{rows_in, set_in}
use Rattle.row_words.specs.Values as held
use Rattle.sets.specs.Values.{insert_gives, insert_leaves}
use Rattle.rows.specs.Sets.{RowSet, listing}
use Rattle.rows.specs.Ordered.{lists}
use lib.Dec.{ltb}
use Rattle.refusals.specs.declared.Refusal.{Refusal}
use Rattle.row_words.specs.declared.row.Row as HeldRow
use Rattle.rows.proofs.Order.{row_order}
use Rattle.rows.proofs.Joining.{insert_shorter}
use Rattle.rows.proofs.LayoutLaws.{Width, formed_word, formed_listing, true_sound}
use Rattle.row_words.proofs.RowLaws.{held_length}
use Rattle.sets.proofs.Standing.{stands_rows, stands_form, formed_few, fit_size, written_stands, inserted_fit, inserted_few, full_many}
use Rattle.meaning.specs.Values.{Values}
use Rattle.meaning.specs.Reading.{done, refused, within}
use Rattle.read_values.specs.Rows.{SayRow}
use Rattle.read_values.specs.Answers.{Filled}
use Rattle.read_values.specs.Outcomes.{outcome, IfOk}
use Rattle.read_steps.specs.Areas.{Gathering, Kept}
use Rattle.read_steps.specs.Steps.{SayHead, SayHas}
use Rattle.read_values.proofs.Answers.{stands_filled}
use Rattle.read_steps.proofs.Areas.{kept_self, written_kept}
use Rattle.std.specs.Prelude.{Result as Outcome, Ok, Err}
use Rattle.refusals.specs.declared.Refusal.TheVariants.{TooManyRows}

pub row_is_wide : {ws : List ℕ} {at : ℕ} {vs : Values} {r : HeldRow.Row} → length r.atoms ≡ 4 → SayRow ws at vs r → Width (held.row_is r)
row_is_wide {r} four s = let l = held_length r four s.few in let a = s.some in let b = s.few in record { some = omega arith; few = omega arith }

-- ---- a row inserted into a sound set

-- what became of it: it is listed, or there was no room for it
pub record Listed (ws : List ℕ) (r : Row) (after : List ℕ) : Type 0 where
  pub filled : Filled after
  pub form : get_or after 0 0 ≡ get_or ws 0 0
  pub rows : rows_in after ≡ insert row_before r (rows_in ws)
  pub few : length (insert row_before r (rows_in ws)) ≤ 128
  pub kept : (free : ℕ) → Kept free ws after

pub record NoRoom (ws : List ℕ) (r : Row) (after : List ℕ) : Type 0 where
  pub stays : after ≡ ws
  pub many : 128 < length (insert row_before r (rows_in ws))

no_room_refusal : (s : RowSet) (r : Row) (x : Refusal) → Err x ≡ insert_gives s r → x ≡ TooManyRows
unfolding insert_gives
no_room_refusal s r x e = go (lists row_before (listing s) r) (ltb (length (listing s)) 128) e
  where
    go : (b c : Bool) → Err x ≡ (elim b as (λ y. Outcome Bool Refusal) [ true ↦ Ok false | false ↦ elim c as (λ y. Outcome Bool Refusal) [ true ↦ Ok true | false ↦ Err TooManyRows ] ]) → x ≡ TooManyRows
    go true c h = let z : ◌≡◌ {A = ℕ} 0 1 = cc in absurd (omega arith)
    go false true h = let z : ◌≡◌ {A = ℕ} 0 1 = cc in absurd (omega arith)
    go false false h = cc

module _ {ws : List ℕ} (f : Filled ws) {r : Row} (width : Width r) {after : List ℕ} where
  pub put_listed : (new : Bool) → Ok new ≡ insert_gives (set_in ws) r → after ≡ insert_leaves (Ok new) ws r → Listed ws r after
  unfolding insert_leaves
  put_listed new answer words =
      let few = inserted_few ws r f.sound new answer in
      let fit = inserted_fit ws r f.sound width in
      let few' = formed_few (get_or ws 0 0) (insert row_before r (rows_in ws)) few in
      let s = written_stands fit few' ws f.long words in
      record {
        filled = stands_filled s;
        form = stands_form s ∙ formed_word (get_or ws 0 0) _ (true_sound ws f.sound).form;
        rows = stands_rows s ∙ formed_listing (get_or ws 0 0) _;
        few = few;
        kept = λ free. written_kept _ ws (fit_size fit few') f.long words;
      }

  pub put_refused : (x : Refusal) → Err x ≡ insert_gives (set_in ws) r → after ≡ insert_leaves (Err x) ws r → NoRoom ws r after × (x ≡ TooManyRows)
  unfolding insert_leaves
  put_refused x answer words = (record { stays = words; many = full_many ws r f.sound x answer }, no_room_refusal (set_in ws) r x answer)

  -- where there is room
  pub put_in : (o : Outcome Bool Refusal) → length (rows_in ws) < 128 → o ≡ insert_gives (set_in ws) r → after ≡ insert_leaves o ws r → Listed ws r after
  put_in (Ok new) less answer words = put_listed new answer words
  put_in (Err x) less answer words = let n = (put_refused x answer words).0.many in let k = insert_shorter row_before row_order r (rows_in ws) in absurd (omega arith)

-- ---- the head's row

pub within_few : (xs : List Row) (k : ℕ) → length xs ≤ 128 → within xs k ≡ done xs k
unfolding within
within_few xs k h = rw (le-leb (length xs) 128 h, within)

within_many : (xs : List Row) (k : ℕ) → 128 < length xs → within xs k ≡ refused 13
unfolding within
within_many xs k h = rw (lt-leb (length xs) 128 h, within)

module _ {ws : List ℕ} {at : ℕ} {vs : Values} {k : ℕ} {entry : List ℕ} (g : Gathering entry) {r : HeldRow.Row} (s : SayRow ws at vs r) {after : List ℕ} where
  pub head_listed : Listed entry (held.row_is r) after → SayHead ws at vs k entry (Ok k) after
  unfolding IfOk outcome
  head_listed l = record {
    gathering = record { filled = l.filled; finite = l.form ∙ g.finite };
    means = λ n ts h.
        ap (λ (x : Row). within (insert row_before x (rows_in entry)) k) (sym (s.means n ts h))
        ∙ within_few (insert row_before (held.row_is r) (rows_in entry)) k l.few ∙ ap (λ (xs : List Row). done xs k) (sym l.rows);
    kept = l.kept;
  }

  pub head_no_room : NoRoom entry (held.row_is r) after → SayHead ws at vs k entry (Err TooManyRows) after
  unfolding IfOk outcome
  head_no_room n = record {
    gathering = tt;
    means = λ m ts h.
        ap (λ (x : Row). within (insert row_before x (rows_in entry)) k) (sym (s.means m ts h)) ∙ within_many (insert row_before (held.row_is r) (rows_in entry)) k n.many;
    kept = λ free. subst (Kept free entry) (sym n.stays) kept_self;
  }

pub says_has : {ws : List ℕ} {at : ℕ} {vs : Values} {set : List ℕ} {r : HeldRow.Row} {b : Bool} → SayRow ws at vs r → b ≡ has (set_in set) (held.row_is r) → SayHas ws at vs set b
says_has {set} s e = record { means = λ n ts h. ap (has (set_in set)) (sym (s.means n ts h)) ∙ sym e }
