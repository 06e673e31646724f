-- Rows with the same first atoms stand together in the order of rows.
use Prim.Native.Nat.{ℕ, ◌<◌}
use mathlib.Core.Path.{◌≡◌, refl}
use mathlib.Core.Logic.{◌⊎◌, inl, inr}
use mathlib.Core.Bool.{Bool, true}
use mathlib.Core.List.{List, [], ◌∷◌}
use native.Mathlib.Omega.{arith}
use Rattle.rows.specs.Ordered.{words_before, ascending}
use Rattle.rows.specs.Row.{Row, row_before}
use Rattle.rows.specs.SideBySide.{Begins, example, Theorem}
use Rattle.rows.proofs.Case.{never}
use Rattle.rows.proofs.Order.{step_opens, word_by_word, shorter_first}

-- neither before an atom nor behind it: the same, and the rest decides
between : (a b : ℕ) (p q : Bool) → (a < b) ⊎ ((a ≡ b) × (p ≡ true)) → (b < a) ⊎ ((b ≡ a) × (q ≡ true)) → (a ≡ b) × (p ≡ true) × (q ≡ true)
between a b p q (inl h) (inl k) = absurd (omega arith)
between a b p q (inl h) (inr k) = absurd (omega arith)
between a b p q (inr h) (inl k) = absurd (omega arith)
between a b p q (inr h) (inr k) = (h.0, h.1, k.1)

together : (front : List ℕ) (x y z : Row) → Begins front x → Begins front z → row_before x y ≡ true → row_before y z ≡ true → Begins front y
unfolding row_before words_before
together [] x y z e f p q = refl
together (a ∷ front) [] y z e f p q = let n : ◌≡◌ {A = ℕ} 0 1 = cc in absurd (omega arith)
together (a ∷ front) (b ∷ x) y [] e f p q = let n : ◌≡◌ {A = ℕ} 0 1 = cc in absurd (omega arith)
together (a ∷ front) (b ∷ x) [] (c ∷ z) e f p q = never p refl
together (a ∷ front) (b ∷ x) (d ∷ y) (c ∷ z) e f p q =
    let s : b ≡ c = cc in
    let g : Begins front x = cc in
    let h : Begins front z = cc in
    let m = between b d _ (words_before y z) (step_opens b d (words_before x y) p) (rw s (step_opens d c (words_before y z) q)) in
    let l = together front x y z g h m.1 m.2 in
    cc

shown : ascending row_before example ≡ true
unfolding row_before words_before ascending
shown = refl

pub holds : Theorem
unfolding row_before
holds = record { atom_by_atom = word_by_word; shorter_first = shorter_first; together = together; shown = shown }
