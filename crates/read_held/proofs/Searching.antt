-- Whether a row is among those that hold: some record of it does, or none.
use Rattle.std.proofs.Common.{ℕ, ◌≡◌, ◌+◌, ◌<◌, Bool, true, false, List, [], length, get_or, refl, sym, ◌∙◌, ap, subst, arith}
use lib.Dec.{ltb}
use borrow.Author.Tests.{ltb-true, ltb-false}
use Rattle.rows.specs.Ordered.{◌∈◌}
use Rattle.rows.specs.Row.{Row, row_before}
use Rattle.rows.proofs.Case.{Case, is_true, is_false, split, never}
use Rattle.rows.proofs.Order.{row_order}
use Rattle.rows.proofs.Place.{lists_not, lists-∈}
use Rattle.certificates.specs.Certificate.{holds_at}
use Rattle.read_held.specs.Held.{row_at, rows_held, SayBeside, SayFound}
use Rattle.read_held.proofs.Holding.{rows_has, rows_from}

module _ (minute : ℕ) (rs : List (List ℕ)) (x : Row) where
  pub none_holds : ((l : ℕ) → l < length rs → row_at rs l ≡ x → holds_at minute (get_or rs l []) ≡ false) → SayFound minute rs x false
  none_holds none = record {
    means = lists_not row_before row_order [] (rows_held minute rs) x (λ m. let f = rows_from minute rs x m in never f.3 (none f.0 f.1 (sym f.2)));
  }

  pub one_holds : (l : ℕ) → l < length rs → row_at rs l ≡ x → holds_at minute (get_or rs l []) ≡ true → SayFound minute rs x true
  one_holds l h e t = record {
    means = lists-∈ row_before row_order [] (rows_held minute rs) x (subst (λ (y : Row). y ∈ rows_held minute rs) e (rows_has minute rs l h t));
  }

  module _ (i : ℕ) (here : row_at rs i ≡ x) where
    pub one_beside : {from end : ℕ} → SayBeside minute rs i from end true → SayFound minute rs x true
    one_beside s = let f = s.some refl in one_holds f.0 f.1 (f.2 ∙ here) f.3

    -- it does not hold, and none before or behind it with its row does
    pub none_beside : holds_at minute (get_or rs i []) ≡ false → SayBeside minute rs i 0 i false → SayBeside minute rs i (i + 1) (length rs) false → SayFound minute rs x false
    none_beside not before behind = none_holds (λ l h e. go l h (e ∙ sym here) (split (ltb l i)) (split (ltb i l)))
      where
        go : (l : ℕ) → l < length rs → row_at rs l ≡ row_at rs i → Case (ltb l i) → Case (ltb i l) → holds_at minute (get_or rs l []) ≡ false
        go l h e (is_true t) c = before.none refl l (omega arith) (ltb-true l i t) e
        go l h e (is_false t) (is_true u) = behind.none refl l (omega (arith, ltb-true i l u)) h e
        go l h e (is_false t) (is_false u) =
            let q : l ≡ i = omega (arith, ltb-false l i t, ltb-false i l u) in ap (λ (k : ℕ). holds_at minute (get_or rs k [])) q ∙ not

    pub beside_tells : holds_at minute (get_or rs i []) ≡ false → SayBeside minute rs i 0 i false → (r : Bool) → SayBeside minute rs i (i + 1) (length rs) r → SayFound minute rs x r
    beside_tells not before true s = one_beside s
    beside_tells not before false s = none_beside not before s
