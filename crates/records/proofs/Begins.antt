-- Whether a record begins with words before others.
use Prim.Native.Nat.{ℕ, ◌<◌}
use mathlib.Core.Path.{◌≡◌, sym, ◌∙◌, ap}
use mathlib.Core.Bool.{Bool, true, false, not}
use mathlib.Core.List.{List}
use native.Mathlib.Omega.{arith}
use lib.Dec.{ltb}
use lib.ListN.{length, get_or, take, drop}
use lib.Seq.{take_all}
use borrow.Author.Tests.{ltb-true, ltb-false}
use Rattle.rows.specs.Ordered.{words_before}
use Rattle.rows.specs.Records.{begins_before}
use Rattle.rows.proofs.Order.{words_order, not_both}
use Rattle.rows.proofs.Case.{Case, is_true, is_false, split}
use Rattle.row_words.proofs.RowLaws.{first_differs}

module _ (area : List ℕ) (at : ℕ) (words : List ℕ) where
  abbrev front : List ℕ
  front = take (length words) (drop at area)

  begins_less : (also : Bool) → words_before front words ≡ true → begins_before also words (drop at area) ≡ true
  unfolding begins_before
  begins_less false e = e
  begins_less true e = ap not (not_both words_order front words e)

  begins_more : (also : Bool) → words_before words front ≡ true → begins_before also words (drop at area) ≡ false
  unfolding begins_before
  begins_more false e = not_both words_order words front e
  begins_more true e = ap not e

  begins_same : (also : Bool) → front ≡ words → begins_before also words (drop at area) ≡ also
  unfolding begins_before
  begins_same false e = ap (λ (x : List ℕ). words_before x words) e ∙ words_order.irreflexive words
  begins_same true e = ap (λ (x : List ℕ). not (words_before words x)) e ∙ ap not (words_order.irreflexive words)

  -- the first words that differ decide
  module _ (also : Bool) (here : List ℕ) (is_front : here ≡ front) (j : ℕ) (alike : take j here ≡ take j words) (h : j < length here) (k : j < length words) where
    pub front_differs : (get_or here j 0 ≡ get_or words j 0 → ⊥) → ltb (get_or here j 0) (get_or words j 0) ≡ begins_before also words (drop at area)
    front_differs n = go (split (ltb (get_or here j 0) (get_or words j 0)))
      where
        go : Case (ltb (get_or here j 0) (get_or words j 0)) → ltb (get_or here j 0) (get_or words j 0) ≡ begins_before also words (drop at area)
        go (is_true t) =
            let l = ltb-true _ _ t in
            t ∙ sym (begins_less also (ap (λ (x : List ℕ). words_before x words) (sym is_front) ∙ first_differs here words j alike h k (omega arith)))
        go (is_false t) =
            let l = ltb-false _ _ t in
            t ∙ sym (begins_more also (ap (words_before words) (sym is_front) ∙ first_differs words here j (sym alike) k h (omega arith)))

  -- or none does
  pub front_same : (also : Bool) (here : List ℕ) (j : ℕ) → j ≡ length words → here ≡ front → length here ≡ length words → take j here ≡ take j words → also ≡ begins_before also words (drop at area)
  front_same also here j n e s alike = sym (begins_same also (sym e ∙ sym (take_all j here (omega arith)) ∙ alike ∙ take_all j words (omega arith)))
