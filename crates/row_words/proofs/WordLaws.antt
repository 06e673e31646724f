-- Words copied to another place of an area, as the library says it.
use Prim.Native.Nat.{ℕ, ◌+◌, ◌-◌, ◌≤◌}
use mathlib.Core.Path.{◌≡◌, ◌∙◌, sym, ap}
use mathlib.Core.List.{List, ◌++◌, append_assoc}
use native.Mathlib.Omega.{arith}
use lib.ListN.{length, take, drop, length-drop}
use lib.Seq.{paste, length-take-le, drop-drop}
use borrow.Rule.Slice.PartMut.{put_mid}
use Rattle.rows.specs.Layout.{put}

pub paste_put : (area : List ℕ) (at : ℕ) (ws : List ℕ) (n : ℕ) → n ≤ length ws → paste area at ws n ≡ put at (take n ws) area
unfolding put
paste_put area at ws n h =
    ap (λ (k : ℕ). take at area ++ take n ws ++ drop (at + k) area) (sym (length-take-le n ws h)) ∙ append_assoc (take at area) (take n ws) (drop (at + length (take n ws)) area)

pub copied : (area : List ℕ) (from to count : ℕ) → from + count ≤ length area → paste area to (drop from area) (from + count - from) ≡ put to (take count (drop from area)) area
copied area from to count h =
    let s : from + count - from ≡ count = omega arith in
    ap (paste area to (drop from area)) s ∙ paste_put area to (drop from area) count (omega (arith, length-drop from area))

-- words written over the part at a place
pub mid_put : (at n : ℕ) (area new words : List ℕ) → n ≡ length words → new ≡ words → put_mid at n area new ≡ put at words area
unfolding put
mid_put at n area new words s e = rw (s, e) (ap (λ (l : List ℕ). take at area ++ (words ++ l)) (drop-drop (length words) at area))
