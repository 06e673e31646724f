-- Words laid one after the other, side by side, and over a whole area.
use Prim.Native.Nat.{ℕ, zero, suc, ◌+◌, ◌≤◌, ◌<◌}
use mathlib.Core.Path.{◌≡◌, refl, sym, ◌∙◌, ap}
use mathlib.Core.List.{List, [], ◌∷◌, ◌++◌}
use native.Mathlib.Omega.{arith}
use lib.ListN.{length, get_or, set, take, drop}
use lib.Seq.{take-suc, length-take-le}
use Rattle.policy_rewriting.specs.Laid.{laid}

pub laid_none : (n : ℕ) (area : List ℕ) → laid n [] area ≡ area
unfolding laid
laid_none zero area = refl
laid_none (suc n) [] = refl
laid_none (suc n) (a ∷ area) = ap (λ (l : List ℕ). a ∷ l) (laid_none n area)

-- into an area of no words
pub laid_nowhere : (n : ℕ) (ws : List ℕ) → laid n ws [] ≡ []
unfolding laid
laid_nowhere zero [] = refl
laid_nowhere zero (w ∷ ws) = refl
laid_nowhere (suc n) ws = refl

pub laid_length : (n : ℕ) (ws area : List ℕ) → length (laid n ws area) ≡ length area
unfolding laid
laid_length zero [] area = refl
laid_length zero (w ∷ ws) [] = refl
laid_length zero (w ∷ ws) (a ∷ area) = ap suc (laid_length zero ws area)
laid_length (suc n) ws [] = refl
laid_length (suc n) ws (a ∷ area) = ap suc (laid_length n ws area)

-- one after the other
pub laid_append : (n : ℕ) (u v area : List ℕ) → laid (n + length u) v (laid n u area) ≡ laid n (u ++ v) area
unfolding laid
laid_append zero [] v area = refl
laid_append zero (w ∷ u) v [] = laid_nowhere (0 + length (w ∷ u)) v
laid_append zero (w ∷ u) v (a ∷ area) =
    let e : 0 + length (w ∷ u) ≡ suc (0 + length u) = omega arith in
    ap (λ (n : ℕ). laid n v (w ∷ laid zero u area)) e ∙ ap (λ (l : List ℕ). w ∷ l) (laid_append zero u v area)
laid_append (suc n) u v [] = laid_nowhere (suc n + length u) v
laid_append (suc n) u v (a ∷ area) =
    let e : suc n + length u ≡ suc (n + length u) = omega arith in
    ap (λ (i : ℕ). laid i v (a ∷ laid n u area)) e ∙ ap (λ (l : List ℕ). a ∷ l) (laid_append n u v area)

-- side by side
pub laid_apart : (i : ℕ) (u : List ℕ) (j : ℕ) (v area : List ℕ) → i + length u ≤ j → laid i u (laid j v area) ≡ laid j v (laid i u area)
unfolding laid
laid_apart zero [] j v area h = refl
laid_apart zero (w ∷ u) zero v area h = absurd (omega arith)
laid_apart zero (w ∷ u) (suc j) v [] h = refl
laid_apart zero (w ∷ u) (suc j) v (a ∷ area) h = ap (λ (l : List ℕ). w ∷ l) (laid_apart zero u j v area (omega arith))
laid_apart (suc i) u zero v area h = absurd (omega arith)
laid_apart (suc i) u (suc j) v [] h = refl
laid_apart (suc i) u (suc j) v (a ∷ area) h = ap (λ (l : List ℕ). a ∷ l) (laid_apart i u j v area (omega arith))

-- an area that has room for them
pub laid_whole : (ws area : List ℕ) → length ws ≤ length area → laid 0 ws area ≡ ws ++ drop (length ws) area
unfolding laid
laid_whole [] area h = refl
laid_whole (w ∷ ws) [] h = absurd (omega arith)
laid_whole (w ∷ ws) (a ∷ area) h = ap (λ (l : List ℕ). w ∷ l) (laid_whole ws area (omega arith))

-- one word
pub laid_set : (n w : ℕ) (area : List ℕ) → n < length area → set area n w ≡ laid n (w ∷ []) area
unfolding laid
laid_set n w [] h = absurd (omega arith)
laid_set zero w (a ∷ area) h = refl
laid_set (suc n) w (a ∷ area) h = ap (λ (l : List ℕ). a ∷ l) (laid_set n w area (omega arith))

pub laid_past : (n w : ℕ) (area : List ℕ) → length area ≤ n → area ≡ laid n (w ∷ []) area
unfolding laid
laid_past zero w [] h = refl
laid_past zero w (a ∷ area) h = absurd (omega arith)
laid_past (suc n) w [] h = refl
laid_past (suc n) w (a ∷ area) h = ap (λ (l : List ℕ). a ∷ l) (laid_past n w area (omega arith))

-- one more of the words
pub one_laid : (ws area₀ : List ℕ) (to i : ℕ) {area after : List ℕ} → i < length ws → area ≡ laid to (take i ws) area₀ → after ≡ laid (to + i) (get_or ws i 0 ∷ []) area →
    after ≡ laid to (take (i + 1) ws) area₀
one_laid ws area₀ to i {area} h l e =
    let size : length (take i ws) ≡ i = length-take-le i ws (omega arith) in
    let more : take (i + 1) ws ≡ take i ws ++ (get_or ws i 0 ∷ []) = (let n : i + 1 ≡ suc i = omega arith in ap (λ (k : ℕ). take k ws) n) ∙ take-suc ws i 0 h in
    e ∙ (ap (λ (n : ℕ). laid (to + n) (get_or ws i 0 ∷ []) area) (sym size) ∙ (ap (λ (a : List ℕ). laid (to + length (take i ws)) (get_or ws i 0 ∷ []) a) l
    ∙ (laid_append to (take i ws) (get_or ws i 0 ∷ []) area₀ ∙ ap (λ (u : List ℕ). laid to u area₀) (sym more))))
