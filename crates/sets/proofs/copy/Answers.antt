-- The words of the set are written over the front.
use Rattle.std.proofs.Common.{◌≡◌, ◌∙◌, ◌++◌, ◌+◌, ◌*◌, ap, List, ℕ, length, take, drop, get_or, length-take, arith}
use Rattle.rows.specs.Layout.{put}
use Rattle.sets.proofs.SetWords.{size}
use Rattle.sets.proofs.Laid.{copied}
use Rattle.sets.proofs.copy.Goals as goal

pub bounds-from-1 : goal.bounds-from-1
bounds-from-1 c = let s = size c.args.from.now c.requires.0 in omega arith

pub slice_bounds-write-end : goal.slice_bounds-write-end
slice_bounds-write-end c = let s = size c.args.from.now c.requires.0 in simp length-take (omega arith)

pub write-requires : goal.write-requires
write-requires c = let s = size c.args.from.now c.requires.0 in simp length-take (omega arith)

pub returns : goal.returns
unfolding put
returns c =
    let from : List ℕ = c.args.from.now in
    let to : List ℕ = c.args.to.now in
    let n : ℕ = 2 + 5 * get_or from 1 0 in
    let s = size from c.requires.0 in
    let e : 0 + length (take n from) ≡ n = simp length-take (omega arith) in
    c.write.ensures ∙ ap (λ (k : ℕ). take n from ++ drop k to) e ∙ copied from to c.requires.0
