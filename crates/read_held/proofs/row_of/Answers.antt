-- Of the words behind the width as many as it says, at most four: those that are there.
use Rattle.std.proofs.Common.{ℕ, ◌≡◌, ◌+◌, ◌-◌, List, get_or, take, drop, min, zero, suc, [], ◌∷◌, arith, ap, sym, ◌∙◌}
use Rattle.std.proofs.lemmas.List.{drop-take, drop-drop}
use Rattle.rows.specs.Layout.{row_in}
use Rattle.row_words.proofs.RowLaws.{five_width}
use Rattle.read_held.proofs.row_of.Goals as goal

take_min : (n m : ℕ) (ws : List ℕ) → take (min n m) ws ≡ take n (take m ws)
take_min zero m ws = let e : min zero m ≡ zero = omega arith in ap (λ (k : ℕ). take k ws) e
take_min (suc n) zero ws = let e : min (suc n) zero ≡ zero = omega arith in ap (λ (k : ℕ). take k ws) e
take_min (suc n) (suc m) [] = let e : min (suc n) (suc m) ≡ suc (min n m) = omega arith in ap (λ (k : ℕ). take k []) e
take_min (suc n) (suc m) (w ∷ ws) = let e : min (suc n) (suc m) ≡ suc (min n m) = omega arith in ap (λ (k : ℕ). take k (w ∷ ws)) e ∙ ap (λ xs. w ∷ xs) (take_min n m ws)

pub returns : goal.returns
unfolding row_in
returns c =
    let w : List ℕ = c.args.held.now in
    let n : 4 + c.min-width.result - 4 ≡ c.min-width.result = omega arith in
    ap (λ (k : ℕ). take k (drop 4 w)) (n ∙ c.min-width.ensures)
    ∙ take_min (get_or w 3 0) 4 (drop 4 w)
    ∙ ap (λ xs. take (get_or w 3 0) (take 4 xs)) (sym (drop-drop 1 3 w))
    ∙ ap (take (get_or w 3 0)) (sym (drop-take 1 4 (drop 3 w)))
    ∙ ap (λ (k : ℕ). take k (drop 1 (take 5 (drop 3 w)))) (sym (five_width w 3))
