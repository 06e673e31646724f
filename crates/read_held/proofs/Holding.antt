-- The rows of the records that hold: which are listed, how the list grows by a record, and that it is in order.
use Rattle.std.proofs.Common.{ℕ, zero, suc, ◌≡◌, ◌+◌, ◌<◌, ◌≤◌, true, false, List, [], ◌∷◌, ◌++◌, map, length, get_or, take, drop, refl, sym, ◌∙◌, ap, subst, arith, append_assoc}
use mathlib.Core.List.{append-nil, map-append}
use mathlib.Core.Logic.{inl, inr}
use Rattle.std.proofs.lemmas.List.{length-map}
use Rattle.rows.specs.Ordered.{◌∈◌, keep, insert, join}
use Rattle.rows.specs.Row.{Row, row_before}
use Rattle.rows.proofs.Case.{Case, is_true, is_false, split}
use Rattle.rows.proofs.Order.{row_order}
use Rattle.rows.proofs.Ordered.{Ascending, keep_append, keep_length, insert-∈, join_ascending}
use Rattle.rows.proofs.Place.{gap_insert, get_or-∈}
use Rattle.rows.proofs.Joining.{join_one_more, join_longer, join_shorter, insert_shorter}
use Rattle.certificates.specs.Certificate.{record_row, holds_at}
use Rattle.read_held.specs.Held.{row_at, rows_held}

module _ (minute : ℕ) where
  pub rows_none : rows_held minute [] ≡ []
  unfolding rows_held keep join
  rows_none = refl

  pub rows_ascend : (rs : List (List ℕ)) → Ascending row_before row_order (rows_held minute rs)
  unfolding rows_held Ascending
  rows_ascend rs = join_ascending row_before row_order (map (λ w. record_row w) (keep (holds_at minute) rs)) [] tt

  pub rows_few : (rs : List (List ℕ)) → length (rows_held minute rs) ≤ length rs
  unfolding rows_held
  rows_few rs =
      omega (arith, join_shorter row_before row_order (map (λ w. record_row w) (keep (holds_at minute) rs)) [], length-map (keep (holds_at minute) rs) (λ w. record_row w), keep_length (holds_at minute) rs)

  -- a record in front
  front_holds : (w : List ℕ) (ws : List (List ℕ)) → holds_at minute w ≡ true → rows_held minute (w ∷ ws) ≡ insert row_before (record_row w) (rows_held minute ws)
  unfolding rows_held keep join
  front_holds w ws e = rw (e, keep) refl

  front_skips : (w : List ℕ) (ws : List (List ℕ)) → holds_at minute w ≡ false → rows_held minute (w ∷ ws) ≡ rows_held minute ws
  unfolding rows_held keep join
  front_skips w ws e = rw (e, keep) refl

  -- a record behind the others
  module _ (rs : List (List ℕ)) (w : List ℕ) where
    kept : keep (holds_at minute) (rs ++ (w ∷ [])) ≡ keep (holds_at minute) rs ++ keep (holds_at minute) (w ∷ [])
    kept = keep_append (holds_at minute) rs (w ∷ [])

    pub rows_hold : holds_at minute w ≡ true → rows_held minute (rs ++ (w ∷ [])) ≡ insert row_before (record_row w) (rows_held minute rs)
    unfolding rows_held keep
    rows_hold e =
        let all : keep (holds_at minute) (rs ++ (w ∷ [])) ≡ keep (holds_at minute) rs ++ (w ∷ []) = rw (e, keep) at kept in
        ap (λ (ws : List (List ℕ)). join row_before (map (λ w. record_row w) ws) []) all
        ∙ ap (λ (xs : List Row). join row_before xs []) (map-append (λ w. record_row w) (keep (holds_at minute) rs) (w ∷ []))
        ∙ join_one_more row_before row_order (map (λ w. record_row w) (keep (holds_at minute) rs)) (record_row w)

    pub rows_skip : holds_at minute w ≡ false → rows_held minute (rs ++ (w ∷ [])) ≡ rows_held minute rs
    unfolding rows_held keep
    rows_skip e =
        let all : keep (holds_at minute) (rs ++ (w ∷ [])) ≡ keep (holds_at minute) rs ++ [] = rw (e, keep) at kept in
        ap (λ (ws : List (List ℕ)). join row_before (map (λ w. record_row w) ws) []) (all ∙ append-nil (keep (holds_at minute) rs))

    step_longer : Case (holds_at minute w) → length (rows_held minute rs) ≤ length (rows_held minute (rs ++ (w ∷ [])))
    unfolding join
    step_longer (is_true e) = omega (arith, ap length (rows_hold e), join_longer row_before row_order (record_row w ∷ []) (rows_held minute rs))
    step_longer (is_false e) = omega (arith, ap length (rows_skip e))

    pub step_few : length (rows_held minute (rs ++ (w ∷ []))) ≤ length (rows_held minute rs) + 1
    step_few = go (split (holds_at minute w))
      where
        go : Case (holds_at minute w) → length (rows_held minute (rs ++ (w ∷ []))) ≤ length (rows_held minute rs) + 1
        go (is_true e) = omega (arith, ap length (rows_hold e), insert_shorter row_before row_order (record_row w) (rows_held minute rs))
        go (is_false e) = omega (arith, ap length (rows_skip e))

    -- one that holds, whose row comes after all that are listed
    pub rows_last : holds_at minute w ≡ true → ((x : Row) → x ∈ rows_held minute rs → row_before x (record_row w) ≡ true) → rows_held minute (rs ++ (w ∷ [])) ≡ rows_held minute rs ++ (record_row w ∷ [])
    rows_last e above =
        let xs : List Row = rows_held minute rs in
        rows_hold e ∙ gap_insert row_before row_order [] xs (record_row w) (length xs) (record {
          order = omega arith;
          end = omega arith;
          below = λ k h. above (get_or xs k []) (get_or-∈ xs k [] h);
          above = λ k h l. absurd (omega arith);
        })
        ∙ ends xs
      where
        ends : (xs : List Row) → take (length xs) xs ++ (record_row w ∷ drop (length xs) xs) ≡ xs ++ (record_row w ∷ [])
        ends [] = refl
        ends (x ∷ xs) = ap (λ (l : List Row). x ∷ l) (ends xs)

  pub rows_longer : (rs ws : List (List ℕ)) → length (rows_held minute rs) ≤ length (rows_held minute (rs ++ ws))
  rows_longer rs [] = omega (arith, ap (λ l. length (rows_held minute l)) (append-nil rs))
  rows_longer rs (w ∷ ws) =
      omega (arith, step_longer rs w (split (holds_at minute w)), rows_longer (rs ++ (w ∷ [])) ws, ap (λ l. length (rows_held minute l)) (append_assoc rs (w ∷ []) ws))

  -- a row is listed just if a record of it holds
  pub rows_has : (rs : List (List ℕ)) (i : ℕ) → i < length rs → holds_at minute (get_or rs i []) ≡ true → row_at rs i ∈ rows_held minute rs
  rows_has [] i h e = absurd (omega arith)
  rows_has (w ∷ ws) zero h e = subst (λ (l : List Row). record_row w ∈ l) (sym (front_holds w ws e)) ((insert-∈ row_before row_order (record_row w) (rows_held minute ws) (record_row w)).1 (inl refl))
  rows_has (w ∷ ws) (suc i) h e = go (rows_has ws i (omega arith) e) (split (holds_at minute w))
    where
      go : row_at ws i ∈ rows_held minute ws → Case (holds_at minute w) → row_at ws i ∈ rows_held minute (w ∷ ws)
      go ih (is_true t) = subst (λ (l : List Row). row_at ws i ∈ l) (sym (front_holds w ws t)) ((insert-∈ row_before row_order (record_row w) (rows_held minute ws) (row_at ws i)).1 (inr ih))
      go ih (is_false t) = subst (λ (l : List Row). row_at ws i ∈ l) (sym (front_skips w ws t)) ih

  -- each row listed is that of a record that holds
  pub rows_from : (rs : List (List ℕ)) (x : Row) → x ∈ rows_held minute rs → (l : ℕ) × (l < length rs) × (x ≡ row_at rs l) × (holds_at minute (get_or rs l []) ≡ true)
  unfolding ◌∈◌
  rows_from [] x m = absurd (subst (λ (l : List Row). x ∈ l) rows_none m)
  rows_from (w ∷ ws) x m = go (λ k. rows_from ws x k) (split (holds_at minute w))
    where
      go : (x ∈ rows_held minute ws → (l : ℕ) × (l < length ws) × (x ≡ row_at ws l) × (holds_at minute (get_or ws l []) ≡ true)) → Case (holds_at minute w) →
          (l : ℕ) × (l < length (w ∷ ws)) × (x ≡ row_at (w ∷ ws) l) × (holds_at minute (get_or (w ∷ ws) l []) ≡ true)
      go ih (is_true t) = elim ((insert-∈ row_before row_order (record_row w) (rows_held minute ws) x).0 (subst (λ (l : List Row). x ∈ l) (front_holds w ws t) m)) [
        | inl e ↦ (zero, omega arith, e, t)
        | inr k ↦ let f = ih k in let h = f.1 in (suc f.0, omega arith, f.2, f.3)
      ]
      go ih (is_false t) = let f = ih (subst (λ (l : List Row). x ∈ l) (front_skips w ws t) m) in let h = f.1 in (suc f.0, omega arith, f.2, f.3)
