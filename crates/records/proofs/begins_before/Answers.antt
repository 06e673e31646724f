-- The first words that differ decide, and where none do, `also` does.
use Rattle.std.proofs.Common.{◌+◌, ◌-◌, ◌≡◌, ℕ, ap, List, length, take, drop, length-drop, arith}
use lib.Seq.{length-take-le}
use Rattle.records.proofs.Begins.{front_differs, front_same}
use Rattle.records.proofs.begins_before.Goals as goal

here_is : (area : List ℕ) (at n : ℕ) → take (at + n - at) (drop at area) ≡ take n (drop at area)
here_is area at n = let s : at + n - at ≡ n = omega arith in ap (λ (k : ℕ). take k (drop at area)) s

pub returns-then-front-j : goal.returns-then-front-j
returns-then-front-j c =
    let a = c.args in
    front_differs a.area.now a.at a.words.now a.also _ (here_is a.area.now a.at (length a.words.now)) c.loop-j.j c.loop-j.invariant
    (omega (arith, length-take-le (a.at + length a.words.now - a.at) (drop a.at a.area.now) (omega (arith, length-drop a.at a.area.now)))) (omega arith) c.if-front-j.true

pub returns : goal.returns
returns c =
    let a = c.args in
    let n : c.loop-j.j ≡ length a.words.now = omega arith in
    front_same a.area.now a.at a.words.now a.also _ c.loop-j.j n (here_is a.area.now a.at (length a.words.now))
    (omega (arith, length-take-le (a.at + length a.words.now - a.at) (drop a.at a.area.now) (omega (arith, length-drop a.at a.area.now)))) c.loop-j.invariant
