-- A set is the first 642 words of its area: where those are the same, so are the rows, the set and its soundness.
use Prim.Native.Nat.{ℕ, zero, suc, ◌+◌, ◌*◌, ◌-◌, ◌≤◌, ◌<◌}
use mathlib.Core.Path.{◌≡◌, refl, sym, ◌∙◌, ap}
use mathlib.Core.Bool.{true}
use mathlib.Core.List.{List, map}
use native.Mathlib.Omega.{arith}
use native.Mathlib.Nat.{mul-suc}
use lib.ListN.{length, get_or, take, drop}
use lib.Seq.{take-take, length-take-le, get_or-take}
use Rattle.rows.specs.Ordered.{ascending}
use Rattle.rows.specs.Row.{row_before}
use Rattle.rows.specs.Layout.{row_in, pieces, every, sound_row, rows_in, formed, set_in, sound_set}
use Rattle.rows.proofs.LayoutLaws.{sound_true, true_sound}
use Rattle.sets.proofs.Laid.{drop_take}

pieces_front : (size n m : ℕ) (ws : List ℕ) → size * n ≤ m → pieces size n (take m ws) ≡ pieces size n ws
unfolding pieces
pieces_front size zero m ws h = refl
pieces_front size (suc n) m ws h =
    let e = mul-suc size n in
    let k : m ≡ size + (m - size) = omega arith in
    let t : take size (take m ws) ≡ take size ws = take-take size m ws (omega arith) in
    let d : drop size (take m ws) ≡ take (m - size) (drop size ws) = ap (λ (q : ℕ). drop size (take q ws)) k ∙ drop_take size (m - size) ws in
    let r : pieces size n (drop size (take m ws)) ≡ pieces size n (drop size ws) = ap (pieces size n) d ∙ pieces_front size n (m - size) (drop size ws) (omega arith) in
    cc

-- the same words at the front of both, as many as any set takes
pub record SameFront (a b : List ℕ) : Type 0 where
  pub front : take 642 a ≡ take 642 b
  pub first : 642 ≤ length a
  pub second : 642 ≤ length b

-- the front by itself
pub front_of : (ws : List ℕ) → 642 ≤ length ws → SameFront ws (take 642 ws)
front_of ws h = record { front = sym (take-take 642 642 ws (omega arith)); first = h; second = omega (arith, length-take-le 642 ws h) }

module _ {a b : List ℕ} (e : SameFront a b) where
  pub word_same : (i : ℕ) → i < 642 → get_or b i 0 ≡ get_or a i 0
  word_same i h = sym (get_or-take 642 b i 0 h) ∙ ap (λ (l : List ℕ). get_or l i 0) (sym e.front) ∙ get_or-take 642 a i 0 h

  pieces_same : (n : ℕ) → n ≤ 128 → pieces 5 n (drop 2 b) ≡ pieces 5 n (drop 2 a)
  pieces_same n h = sym (front b) ∙ ap (λ (l : List ℕ). pieces 5 n (drop 2 l)) (sym e.front) ∙ front a
    where
      front : (ws : List ℕ) → pieces 5 n (drop 2 (take 642 ws)) ≡ pieces 5 n (drop 2 ws)
      front ws = ap (pieces 5 n) (drop_take 2 640 ws) ∙ pieces_front 5 n 640 (drop 2 ws) (omega arith)

  module _ (s : sound_set a ≡ true) where
    all_same : pieces 5 (get_or b 1 0) (drop 2 b) ≡ pieces 5 (get_or a 1 0) (drop 2 a)
    all_same = ap (λ (n : ℕ). pieces 5 n (drop 2 b)) (word_same 1 (omega arith)) ∙ pieces_same (get_or a 1 0) (true_sound a s).count

    pub rows_same : rows_in b ≡ rows_in a
    unfolding rows_in
    rows_same = ap (map row_in) all_same

    pub set_same : set_in b ≡ set_in a
    unfolding set_in
    set_same = ap (λ (n : ℕ). formed n (rows_in b)) (word_same 0 (omega arith)) ∙ ap (formed (get_or a 0 0)) rows_same

    pub sound_same : sound_set b ≡ true
    sound_same =
        let t = true_sound a s in
        let long = e.second in
        let f = word_same 0 (omega arith) in
        let c = word_same 1 (omega arith) in
        let form = t.form in
        let few = t.count in
        sound_true b (record {
          header = omega arith;
          form = omega arith;
          count = omega arith;
          whole = omega arith;
          pieces = ap (every sound_row) all_same ∙ t.pieces;
          order = ap (ascending row_before) rows_same ∙ t.order;
        })
