-- A name's rows, and a row among them, where the name stands in the words.
use Prim.Native.Nat.{ℕ, ◌≤◌, ◌<◌}
use mathlib.Core.Path.{◌≡◌, sym, ap, ◌∙◌}
use mathlib.Core.Bool.{Bool}
use mathlib.Core.List.{List}
use lib.ListN.{length}
use Rattle.refusals.specs.declared.Refusal.{Refusal}
use Rattle.refusals.specs.Numbers.{number}
use Rattle.rows.specs.Name.{Polarity}
use Rattle.rows.specs.Sets.{RowSet, listing, has}
use Rattle.row_words.specs.Values.{row_is}
use Rattle.row_words.specs.declared.row.Row as HeldRow
use Rattle.policy.specs.Syntax.{Term}
use Rattle.meaning.specs.Values.{Values, value, row_of}
use Rattle.meaning.specs.Evidence.{Evidence}
use Rattle.meaning.specs.Reading.{Result, done, refused, after, small}
use Rattle.policy_places.specs.Places.{At, name_words}
use Rattle.read_values.specs.Rows.{SayRow}
use Rattle.read_values.specs.Outcomes.{outcome, tested, IfOk}
use Rattle.read_values.proofs.Answers.{small_few, small_many}
use Rattle.std.specs.Prelude.{Ok, Err}
use Rattle.read_links.specs.declared.Name as HeldName
use Rattle.read_names.specs.declared.held.Held as Lent
use Rattle.read_names.specs.Reached.{Listed, Belongs, Large}
use Rattle.read_names.specs.Names.{name_set, StandsFor}
use Rattle.read_leaves.specs.Leaves.{held_by, SayCertified, SayCertifiedHas}

-- a row looked up in a set that is read: it is small, or it is not
module _ (s : RowSet) {z : RowSet} (e : s ≡ z) (x : List ℕ) (k : ℕ) where
  looked_up : {a : Result Bool} → length (listing z) ≤ 128 → done (has z x) k ≡ a → after (small s k) (λ y i. done (has y x) i) ≡ a
  unfolding after
  looked_up few g = ap (λ (y : RowSet). after (small y k) (λ w i. done (has w x) i)) e ∙ ap (λ (b : Result RowSet). after b (λ w i. done (has w x) i)) (small_few z k few) ∙ g

  not_looked_up : 128 < length (listing z) → after (small s k) (λ y i. done (has y x) i) ≡ refused 13
  unfolding after
  not_looked_up many = ap (λ (y : RowSet). after (small y k) (λ w i. done (has w x) i)) e ∙ ap (λ (b : Result RowSet). after b (λ w i. done (has w x) i)) (small_many z k many)

module _ {ws : List ℕ} {at : ℕ} {vs : Values} {n : HeldName.Name} (stands : StandsFor ws at vs n) (h : Lent.Held) {held : Evidence} (is : held_by h ≡ held) where
  its : (t : Term) (m : ℕ) (p : Polarity) → At ws at (name_words t m p) → held (value vs t) m p ≡ name_set h n
  its t m p w =
      ap (λ (g : Evidence). g (value vs t) m p) (sym is)
      ∙ ap (λ (k : ℕ). held_by h k m p) (stands.key t m p w) ∙ ap (λ (i : ℕ). held_by h n.key i p) (stands.number t m p w)
      ∙ ap (λ (q : Polarity). held_by h n.key n.number q) (stands.polarity t m p w)

  pub certified_done : {k : ℕ} {area : List ℕ} → Listed (name_set h n) area → SayCertified held ws at vs k (Ok k) area
  unfolding IfOk outcome
  certified_done {k} s = record {
    filled = s.filled;
    means = λ t m p w. ap (λ (z : RowSet). small z k) (its t m p w) ∙ small_few (name_set h n) k s.few ∙ ap (λ (z : RowSet). done z k) (sym s.set);
  }

  pub certified_refused : {k : ℕ} {area : List ℕ} {e : Refusal} → Large (name_set h n) e → SayCertified held ws at vs k (Err e) area
  unfolding IfOk outcome
  certified_refused {k} s = record { filled = tt; means = λ t m p w. ap (λ (z : RowSet). small z k) (its t m p w) ∙ small_many (name_set h n) k s.1 ∙ ap (λ m. refused m) (sym (ap number s.0)) }

  module _ {row k : ℕ} {z : HeldRow.Row} (sought : SayRow ws row vs z) where
    pub certified_belongs : {b : Bool} → Belongs (name_set h n) (row_is z) b → SayCertifiedHas held ws at row vs k (Ok (b, k))
    unfolding tested
    certified_belongs s = record {
      means = λ t m p w i ts g. looked_up _ (its t m p w) (row_of vs ts) k s.few (ap (λ (d : Bool). done d k) (ap (has (name_set h n)) (sym (sought.means i ts g)) ∙ s.means));
    }

    pub certified_many : {e : Refusal} → Large (name_set h n) e → SayCertifiedHas held ws at row vs k (Err e)
    unfolding tested
    certified_many s = record { means = λ t m p w i ts g. not_looked_up _ (its t m p w) (row_of vs ts) k s.1 ∙ ap (λ m. refused m) (sym (ap number s.0)) }
