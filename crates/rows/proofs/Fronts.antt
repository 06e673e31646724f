-- Records in an order that goes by their first words: those that begin with words before given ones, or with these, stand first. So a search finds them.
use Prim.Native.Nat.{ℕ, zero, suc, ◌<◌}
use mathlib.Core.Path.{◌≡◌, refl, ◌∙◌, ap}
use mathlib.Core.Logic.{◌⊎◌, inl, inr}
use mathlib.Core.Bool.{Bool, true, false, not}
use mathlib.Core.List.{List, [], ◌∷◌}
use native.Mathlib.Omega.{arith}
use lib.ListN.{length, take, drop}
use lib.Seq.{take-take}
use borrow.Author.Tests.{le-ltb, eq-eqb, ne_eqb}
use Rattle.rows.specs.Ordered.{StrictTotal, leading, PassFirst, words_before}
use Rattle.rows.specs.Layout.{pieces}
use Rattle.rows.specs.Records.{count_of, records_in, place_in, begins_before}
use Rattle.rows.proofs.Case.{Case, is_true, is_false, split, never}
use Rattle.rows.proofs.Order.{words_order, step_opens, least_then_less, less_then_least}
use Rattle.rows.proofs.Ordered.{Ascending}
use Rattle.rows.proofs.Leading.{ascending_pass_first}

-- of two in order, the first words of the later do not come before those of the earlier
module _ (words : List ℕ) {before : List ℕ → List ℕ → Bool} (laws : StrictTotal before)
    (fronts : (v w : List ℕ) → before v w ≡ true → words_before (take (length words) w) (take (length words) v) ≡ false) where
  begins_earlier : (also : Bool) (v w : List ℕ) → before v w ≡ true → begins_before also words w ≡ true → begins_before also words v ≡ true
  unfolding begins_before
  begins_earlier false v w b e = least_then_less words_order (take (length words) v) (take (length words) w) words (fronts v w b) e
  begins_earlier true v w b e = go (split (words_before words (take (length words) v)))
    where
      go : Case (words_before words (take (length words) v)) → not (words_before words (take (length words) v)) ≡ true
      go (is_true p) = never e (ap not (less_then_least words_order words (take (length words) v) (take (length words) w) p (fronts v w b)))
      go (is_false p) = ap not p

  pub begin_first : (also : Bool) (rs : List (List ℕ)) → Ascending before laws rs → PassFirst (begins_before also words) rs
  begin_first also = ascending_pass_first (begins_before also words) laws (begins_earlier also)

-- word by word is such an order, for any number of first words
pub fronts_ascend : (n : ℕ) (v w : List ℕ) → words_before v w ≡ true → words_before (take n w) (take n v) ≡ false
unfolding words_before
fronts_ascend zero v w e = refl
fronts_ascend (suc n) [] [] e = refl
fronts_ascend (suc n) [] (b ∷ w) e = refl
fronts_ascend (suc n) (a ∷ v) [] e = never e refl
fronts_ascend (suc n) (a ∷ v) (b ∷ w) e = go (fronts_ascend n v w) (step_opens a b (words_before v w) e)
  where
    go : (words_before v w ≡ true → words_before (take n w) (take n v) ≡ false) → (a < b) ⊎ ((a ≡ b) × (words_before v w ≡ true)) → words_before (b ∷ take n w) (a ∷ take n v) ≡ false
    go rest (inl h) = rw (le-ltb b a (omega arith), ne_eqb b a (λ x. omega arith))
    go rest (inr h) = let x = h.0 in rw (le-ltb b a (omega arith), eq-eqb b a (omega arith)) (rest h.1)

-- where these are as many words as a record has, to begin before them is to come before them
module _ (w : ℕ) (words : List ℕ) (whole : length words ≡ w) where
  begins_comes : (r : List ℕ) → begins_before false words (take w r) ≡ words_before (take w r) words
  unfolding begins_before
  begins_comes r = ap (λ (x : List ℕ). words_before x words) (ap (λ (n : ℕ). take n (take w r)) whole ∙ take-take w w r (omega arith))

  count_place : (n : ℕ) (rest : List ℕ) → leading (begins_before false words) (pieces w n rest) ≡ leading (λ x. words_before x words) (pieces w n rest)
  unfolding leading pieces
  count_place zero rest = refl
  count_place (suc n) rest = go (count_place n (drop w rest)) (split (words_before (take w rest) words))
    where
      go : leading (begins_before false words) (pieces w n (drop w rest)) ≡ leading (λ x. words_before x words) (pieces w n (drop w rest)) → Case (words_before (take w rest) words) →
          leading (begins_before false words) (pieces w (suc n) rest) ≡ leading (λ x. words_before x words) (pieces w (suc n) rest)
      go ih (is_true p) = rw (begins_comes rest, p, leading) (ap suc ih)
      go ih (is_false p) = rw (begins_comes rest, p, leading)

  pub count_is_place : (area : List ℕ) → leading (begins_before false words) (records_in w area) ≡ place_in words_before (records_in w area) words
  unfolding records_in place_in
  count_is_place area = count_place (count_of area) (drop 1 area)
