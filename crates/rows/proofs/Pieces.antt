-- Tests that each passes, and lists cut into pieces of one size: what the layout's own laws leave out.
use Prim.Native.Nat.{ℕ, zero, suc, ◌-◌, ◌*◌, ◌≤◌, ◌<◌}
use mathlib.Core.Path.{◌≡◌, refl, sym, ap}
use mathlib.Core.Bool.{Bool, true}
use mathlib.Core.List.{List, [], ◌∷◌, ◌++◌, append_assoc}
use native.Mathlib.Nat.{mul-zero, mul-suc, add_comm, sub-zero}
use native.Mathlib.Omega.{arith}
use lib.ListN.{length, get_or, take, drop}
use lib.Seq.{drop-drop}
use Rattle.rows.specs.Word.{All, IsWord, Words}
use Rattle.rows.specs.Ordered.{before_first, ascending}
use Rattle.rows.specs.Layout.{flat, pieces, every}
use Rattle.rows.proofs.Case.{and_true, true_and}
use Rattle.rows.proofs.Lists.{all_take, all_drop}

-- a test that each passes, as a type
pub every_true : {A : Type 0} (f : A → Bool) (xs : List A) → every f xs ≡ true → All (λ x. f x ≡ true) xs
unfolding every All
every_true f [] e = tt
every_true f (x ∷ xs) e = let t = and_true (f x) (every f xs) e in (t.0, every_true f xs t.1)

pub true_every : {A : Type 0} (f : A → Bool) (xs : List A) → All (λ x. f x ≡ true) xs → every f xs ≡ true
unfolding every All
true_every f [] a = refl
true_every f (x ∷ xs) a = true_and (f x) (every f xs) a.0 (true_every f xs a.1)

-- each comes before the next
pub each_before_next : {A : Type 0} (before : A → A → Bool) (xs : List A) (d : A) → ((i : ℕ) → suc i < length xs → before (get_or xs i d) (get_or xs (suc i) d) ≡ true) → ascending before xs ≡ true
unfolding ascending before_first
each_before_next before [] d f = refl
each_before_next before (x ∷ []) d f = refl
each_before_next before (x ∷ y ∷ ys) d f = true_and (before x y) (ascending before (y ∷ ys)) (f 0 (omega arith)) (each_before_next before (y ∷ ys) d (λ i h. f (suc i) (omega arith)))

pub pieces_words : (size n : ℕ) (ws : List ℕ) → Words ws → All Words (pieces size n ws)
unfolding All pieces
pieces_words size zero ws p = tt
pieces_words size (suc n) ws p = (all_take IsWord size ws p, pieces_words size n (drop size ws) (all_drop IsWord size ws p))

-- some of the pieces, and each by itself
pub pieces_take : (size p n : ℕ) (ws : List ℕ) → p ≤ n → take p (pieces size n ws) ≡ pieces size p ws
unfolding pieces
pieces_take size zero n ws h = refl
pieces_take size (suc p) zero ws h = absurd (omega arith)
pieces_take size (suc p) (suc n) ws h = ap (λ (l : List (List ℕ)). take size ws ∷ l) (pieces_take size p n (drop size ws) (omega arith))

-- a piece more
further : (size p : ℕ) (ws : List ℕ) → drop (size * p) (drop size ws) ≡ drop (size * suc p) ws
further size p ws = rw (drop-drop (size * p) size ws, mul-suc size p, add_comm (size * p) size)

pub pieces_drop : (size p n : ℕ) (ws : List ℕ) → p ≤ n → drop p (pieces size n ws) ≡ pieces size (n - p) (drop (size * p) ws)
unfolding pieces
pieces_drop size zero n ws h = rw (mul-zero size, sub-zero n)
pieces_drop size (suc p) zero ws h = absurd (omega arith)
pieces_drop size (suc p) (suc n) ws h =
    let e : suc n - suc p ≡ n - p = omega arith in
    rw (pieces_drop size p n (drop size ws) (omega arith), further size p ws, e)

pub flat_append : (xs ys : List (List ℕ)) → flat (xs ++ ys) ≡ flat xs ++ flat ys
unfolding flat
flat_append [] ys = refl
flat_append (x ∷ xs) ys = rw (flat_append xs ys) (sym (append_assoc x (flat xs) (flat ys)))
