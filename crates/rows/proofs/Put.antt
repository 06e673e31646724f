-- Words written over those at a place: what stands where afterwards, and two writings side by side.
use Prim.Native.Nat.{ℕ, suc, ◌+◌, ◌-◌, ◌≤◌, ◌<◌}
use mathlib.Core.Path.{◌≡◌, refl, sym, ◌∙◌, ap}
use mathlib.Core.List.{List, [], ◌∷◌, ◌++◌, append_assoc}
use native.Mathlib.Omega.{arith}
use lib.ListN.{length, get_or, take, drop, set, length-append, length-take, length-drop, length-set, take-append-drop, drop_of_length-le, get_or-append}
use lib.Seq.{take-append-le, take_at, drop_at, drop-append-add, length-take-le, take-take, take_all, take-suc, drop-cons, drop-drop, get_or-take, get_or-drop, ext_get_or, set_split, set-set, take-set-le, drop-set-add, take-append_seam}
use Rattle.rows.specs.Layout.{put}

module _ (at : ℕ) (ws area : List ℕ) (room : at + length ws ≤ length area) where
  front_length : length (take at area) ≡ at
  front_length = length-take-le at area (omega arith)

  pub put_length : length (put at ws area) ≡ length area
  unfolding put
  put_length = simp (length-append, length-take, length-drop) (omega arith)

  pub put_before : (i : ℕ) → i < at → get_or (put at ws area) i 0 ≡ get_or area i 0
  unfolding put
  put_before i h = get_or-append (take at area) (ws ++ drop (at + length ws) area) 0 i (omega (arith, front_length)) ∙ get_or-take at area i 0 h

  -- the words before, and those after, are as they were
  pub put_take : (n : ℕ) → n ≤ at → take n (put at ws area) ≡ take n area
  unfolding put
  put_take n h = take-append-le n (take at area) (ws ++ drop (at + length ws) area) (omega (arith, front_length)) ∙ take-take n at area h

  pub put_drop : (n : ℕ) → at + length ws ≤ n → drop n (put at ws area) ≡ drop n area
  unfolding put
  put_drop n h =
      let l : length (take at area ++ ws) ≡ at + length ws = omega (arith, length-append (take at area) ws, front_length) in
      let e : n ≡ length (take at area ++ ws) + (n - (at + length ws)) = omega arith in
      let f : at + length ws + (n - (at + length ws)) ≡ n = omega arith in
      ap (drop n) (sym (append_assoc (take at area) ws (drop (at + length ws) area)))
      ∙ ap (λ (k : ℕ). drop k ((take at area ++ ws) ++ drop (at + length ws) area)) e
      ∙ drop-append-add (take at area ++ ws) (drop (at + length ws) area) (n - (at + length ws))
      ∙ drop-drop (n - (at + length ws)) (at + length ws) area ∙ ap (λ (k : ℕ). drop k area) f

  pub put_after : (i : ℕ) → at + length ws ≤ i → get_or (put at ws area) i 0 ≡ get_or area i 0
  put_after i h =
      let e : i + 0 ≡ i = omega arith in
      ap (λ (k : ℕ). get_or (put at ws area) k 0) (sym e) ∙ sym (get_or-drop i (put at ws area) 0 0) ∙ ap (λ (l : List ℕ). get_or l 0 0) (put_drop i h)
      ∙ get_or-drop i area 0 0 ∙ ap (λ (k : ℕ). get_or area k 0) e

  pub part_after : (p n : ℕ) → at + length ws ≤ p → take n (drop p (put at ws area)) ≡ take n (drop p area)
  part_after p n h = ap (take n) (put_drop p h)

  pub part_before : (p n : ℕ) → p + n ≤ at → take n (drop p (put at ws area)) ≡ take n (drop p area)
  part_before p n h =
      let a = length-take-le n (drop p (put at ws area)) (omega (arith, length-drop p (put at ws area), put_length)) in
      let b = length-take-le n (drop p area) (omega (arith, length-drop p area)) in
      ext_get_or 0 _ _ (a ∙ sym b)
      (λ i k. get_or-take n (drop p (put at ws area)) i 0 (omega arith) ∙ get_or-drop p (put at ws area) i 0 ∙ put_before (p + i) (omega arith)
      ∙ sym (get_or-drop p area i 0) ∙ sym (get_or-take n (drop p area) i 0 (omega arith)))

  pub part_itself : take (length ws) (drop at (put at ws area)) ≡ ws
  unfolding put
  part_itself = ap (take (length ws)) (drop_at (take at area) (ws ++ drop (at + length ws) area) at front_length) ∙ take-append_seam ws (drop (at + length ws) area)

-- one writing, and another right after it, or right before it
module _ (at : ℕ) (u v area : List ℕ) (room : at + length u + length v ≤ length area) where
  both_end : at + length u + length v ≡ at + length (u ++ v)
  both_end = omega (arith, length-append u v)

  pub put_then_after : put (at + length u) v (put at u area) ≡ put at (u ++ v) area
  unfolding put
  put_then_after =
      let l : length (take at area ++ u) ≡ at + length u = omega (arith, length-append (take at area) u, length-take-le at area (omega arith)) in
      let s = sym (append_assoc (take at area) u (drop (at + length u) area)) in
      let t : take (at + length u) (put at u area) ≡ take at area ++ u = ap (take (at + length u)) s ∙ take_at (take at area ++ u) (drop (at + length u) area) (at + length u) l in
      let d : drop (at + length u + length v) (put at u area) ≡ drop (at + length (u ++ v)) area = put_drop at u area (omega arith) (at + length u + length v) (omega arith) ∙ ap (λ (k : ℕ). drop k area) both_end in
      let e : take (at + length u) (put at u area) ++ (v ++ drop (at + length u + length v) (put at u area)) ≡ (take at area ++ u) ++ (v ++ drop (at + length (u ++ v)) area) = cc in
      e ∙ append_assoc (take at area) u (v ++ drop (at + length (u ++ v)) area) ∙ ap (λ (l : List ℕ). take at area ++ l) (sym (append_assoc u v (drop (at + length (u ++ v)) area)))

  pub put_then_before : put at u (put (at + length u) v area) ≡ put at (u ++ v) area
  unfolding put
  put_then_before =
      let t : take at (put (at + length u) v area) ≡ take at area = put_take (at + length u) v area (omega arith) at (omega arith) in
      let d : drop (at + length u) (put (at + length u) v area) ≡ v ++ drop (at + length (u ++ v)) area =
      drop_at (take (at + length u) area) (v ++ drop (at + length u + length v) area) (at + length u) (length-take-le (at + length u) area (omega arith)) ∙ ap (λ (k : ℕ). v ++ drop k area) both_end in
      let e : take at (put (at + length u) v area) ++ (u ++ drop (at + length u) (put (at + length u) v area)) ≡ take at area ++ (u ++ (v ++ drop (at + length (u ++ v)) area)) = cc in
      e ∙ ap (λ (l : List ℕ). take at area ++ l) (sym (append_assoc u v (drop (at + length (u ++ v)) area)))

pub put_none : (at : ℕ) (area : List ℕ) → put at [] area ≡ area
unfolding put
put_none at area = let e : at + 0 ≡ at = omega arith in ap (λ (k : ℕ). take at area ++ drop k area) e ∙ take-append-drop at area

pub put_itself : (at n : ℕ) (area : List ℕ) → at + n ≤ length area → put at (take n (drop at area)) area ≡ area
unfolding put
put_itself at n area h =
    let l : length (take n (drop at area)) ≡ n = length-take-le n (drop at area) (omega (arith, length-drop at area)) in
    let d : drop (at + length (take n (drop at area))) area ≡ drop n (drop at area) = ap (λ (k : ℕ). drop (at + k) area) l ∙ sym (drop-drop n at area) in
    ap (λ (m : List ℕ). take at area ++ (take n (drop at area) ++ m)) d ∙ ap (λ (m : List ℕ). take at area ++ m) (take-append-drop n (drop at area)) ∙ take-append-drop at area

-- one word
pub set_put : (area : List ℕ) (at w : ℕ) → at < length area → set area at w ≡ put at (w ∷ []) area
unfolding put
set_put area at w h = let e : suc at ≡ at + 1 = omega arith in set_split area at w h ∙ ap (λ (k : ℕ). take at area ++ (w ∷ drop k area)) e

pub put_more : (at : ℕ) (u area : List ℕ) (i w : ℕ) → i ≡ at + length u → i < length area → set (put at u area) i w ≡ put at (u ++ (w ∷ [])) area
put_more at u area i w e h =
    set_put (put at u area) i w (omega (arith, put_length at u area (omega arith)))
    ∙ ap (λ (k : ℕ). put k (w ∷ []) (put at u area)) e ∙ put_then_after at u (w ∷ []) area (omega arith)

pub put_less : (at i : ℕ) (u area : List ℕ) (w : ℕ) → at ≡ i + 1 → at + length u ≤ length area → set (put at u area) i w ≡ put i (w ∷ u) area
put_less at i u area w e h =
    set_put (put at u area) i w (omega (arith, put_length at u area h))
    ∙ ap (λ (k : ℕ). put i (w ∷ []) (put k u area)) e ∙ put_then_before i (w ∷ []) u area (omega arith)

-- the first of the words written, written again
pub put_first : (at w v : ℕ) (ws area : List ℕ) → at + suc (length ws) ≤ length area → set (put at (w ∷ ws) area) at v ≡ put at (v ∷ ws) area
put_first at w v ws area room =
    ap (λ (l : List ℕ). set l at v) (sym (put_less (at + 1) at ws area w refl (omega arith))) ∙ set-set (put (at + 1) ws area) at w v
    ∙ put_less (at + 1) at ws area v refl (omega arith)

set_append_add : (xs ys : List ℕ) (i v : ℕ) → set (xs ++ ys) (length xs + i) v ≡ xs ++ set ys i v
set_append_add [] ys i v = let e : 0 + i ≡ i = omega arith in ap (λ (k : ℕ). set ys k v) e
set_append_add (x ∷ xs) ys i v = let e : suc (length xs) + i ≡ suc (length xs + i) = omega arith in rw e (ap (λ (l : List ℕ). x ∷ l) (set_append_add xs ys i v))

-- a word behind them
pub put_past : (at : ℕ) (ws area : List ℕ) (i v : ℕ) → at + length ws ≤ length area → at + length ws ≤ i → set (put at ws area) i v ≡ put at ws (set area i v)
unfolding put
put_past at ws area i v room h =
    let n : ℕ = at + length ws in
    let front : List ℕ = take at area ++ ws in
    let j : ℕ = i - (at + length ws) in
    let l : length (take at area ++ ws) ≡ at + length ws = omega (arith, length-append (take at area) ws, length-take-le at area (omega arith)) in
    let e : i ≡ length (take at area ++ ws) + (i - (at + length ws)) = omega arith in
    let f : at + length ws + (i - (at + length ws)) ≡ i = omega arith in
    ap (λ (m : List ℕ). set m i v) (sym (append_assoc (take at area) ws (drop n area))) ∙ ap (λ (k : ℕ). set (front ++ drop n area) k v) e ∙ set_append_add front (drop n area) j v
    ∙ ap (λ (m : List ℕ). front ++ m) (sym (drop-set-add n area j v) ∙ ap (λ (k : ℕ). drop n (set area k v)) f) ∙ append_assoc (take at area) ws (drop n (set area i v))
    ∙ ap (λ (m : List ℕ). m ++ (ws ++ drop n (set area i v))) (sym (take-set-le at area i v (omega arith)))

-- word by word, from the first on, and from the last on
module _ (at : ℕ) (ws area : List ℕ) (room : at + length ws ≤ length area) (j : ℕ) (inside : j < length ws) where
  pub put_next : set (put at (take j ws) area) (at + j) (get_or ws j 0) ≡ put at (take (j + 1) ws) area
  put_next =
      let l = length-take-le j ws (omega arith) in
      let e : j + 1 ≡ suc j = omega arith in
      put_more at (take j ws) area (at + j) (get_or ws j 0) (omega arith) (omega arith)
      ∙ ap (λ (l : List ℕ). put at l area) (sym (take-suc ws j 0 inside) ∙ ap (λ (k : ℕ). take k ws) (sym e))

  pub put_previous : set (put (at + (j + 1)) (drop (j + 1) ws) area) (at + j) (get_or ws j 0) ≡ put (at + j) (drop j ws) area
  put_previous =
      let l = length-drop (j + 1) ws in
      let e : suc j ≡ j + 1 = omega arith in
      put_less (at + (j + 1)) (at + j) (drop (j + 1) ws) area (get_or ws j 0) (omega arith) (omega arith)
      ∙ ap (λ (l : List ℕ). put (at + j) l area) (sym (drop-cons ws j 0 inside ∙ ap (λ (k : ℕ). get_or ws j 0 ∷ drop k ws) e))

-- the first words of a list are written at a place
pub record Writing (ws area : List ℕ) (at : ℕ) (now : List ℕ) (j : ℕ) : Type 0 where
  pub within : j ≤ length ws
  pub size : length now ≡ length area
  pub words : now ≡ put at (take j ws) area

module _ (ws area : List ℕ) (at : ℕ) where
  pub writing_start : Writing ws area at area 0
  writing_start = record { within = omega arith; size = refl; words = sym (put_none at area) }

  pub writing_next : at + length ws ≤ length area → (now : List ℕ) (j w : ℕ) → Writing ws area at now j → j < length ws → w ≡ get_or ws j 0 → Writing ws area at (set now (at + j) w) (j + 1)
  writing_next room now j w s h e = record {
    within = omega arith;
    size = length-set now (at + j) w ∙ s.size;
    words = ap (λ (m : List ℕ). set m (at + j) w) s.words ∙ ap (λ (k : ℕ). set (put at (take j ws) area) (at + j) k) e ∙ put_next at ws area room j h;
  }

  pub writing_end : (now : List ℕ) (j : ℕ) → Writing ws area at now j → length ws ≤ j → now ≡ put at ws area
  writing_end now j s h = s.words ∙ ap (λ (m : List ℕ). put at m area) (take_all j ws h)

-- a part of an area copied within it: from the first word on to lower words, from the last on to higher ones
module _ (area : List ℕ) (from to count : ℕ) where
  part_word : (j : ℕ) → j < count → get_or (take count (drop from area)) j 0 ≡ get_or area (from + j) 0
  part_word j h = get_or-take count (drop from area) j 0 h ∙ get_or-drop from area j 0

  part_length : from + count ≤ length area → length (take count (drop from area)) ≡ count
  part_length h = length-take-le count (drop from area) (omega (arith, length-drop from area))

  pub record CopiedDown (now : List ℕ) (j : ℕ) : Type 0 where
    pub within : j ≤ count
    pub size : length now ≡ length area
    pub words : now ≡ put to (take j (take count (drop from area))) area

  pub record CopiedUp (now : List ℕ) (j : ℕ) : Type 0 where
    pub within : j ≤ count
    pub size : length now ≡ length area
    pub words : now ≡ put (to + j) (drop j (take count (drop from area))) area

  pub down_start : CopiedDown area 0
  down_start = record { within = omega arith; size = refl; words = sym (put_none to area) }

  pub down_next : to ≤ from → from + count ≤ length area → (now : List ℕ) (j : ℕ) → CopiedDown now j → j < count → CopiedDown (set now (to + j) (get_or now (from + j) 0)) (j + 1)
  down_next low room now j c h =
      let ws : List ℕ = take count (drop from area) in
      let l : length ws ≡ count = part_length room in
      let k : length (take j ws) ≡ j = length-take-le j ws (omega arith) in
      let r : get_or (put to (take j ws) area) (from + j) 0 ≡ get_or ws j 0 = put_after to (take j ws) area (omega arith) (from + j) (omega arith) ∙ sym (part_word j h) in
      record {
        within = omega arith;
        size = length-set now (to + j) (get_or now (from + j) 0) ∙ c.size;
        words = ap (λ (m : List ℕ). set m (to + j) (get_or m (from + j) 0)) c.words ∙ ap (λ (w : ℕ). set (put to (take j ws) area) (to + j) w) r
            ∙ put_next to ws area (omega arith) j (omega arith);
      }

  pub down_end : from + count ≤ length area → (now : List ℕ) (j : ℕ) → CopiedDown now j → count ≤ j → now ≡ put to (take count (drop from area)) area
  down_end room now j c h =
      let l = part_length room in
      c.words ∙ ap (λ (m : List ℕ). put to m area) (take_all j (take count (drop from area)) (omega arith))

  pub up_start : from + count ≤ length area → CopiedUp area count
  up_start room =
      let l = part_length room in
      record { within = omega arith; size = refl; words = sym (ap (λ (m : List ℕ). put (to + count) m area) (drop_of_length-le (take count (drop from area)) {i = count} (omega arith)) ∙ put_none (to + count) area) }

  pub up_next : from ≤ to → to + count ≤ length area → (now : List ℕ) (j : ℕ) → CopiedUp now j → 0 < j → CopiedUp (set now (to + (j - 1)) (get_or now (from + (j - 1)) 0)) (j - 1)
  up_next high room now j c h =
      let ws : List ℕ = take count (drop from area) in
      let i : ℕ = j - 1 in
      let w = c.within in
      let e : j ≡ (j - 1) + 1 = omega arith in
      let l : length ws ≡ count = part_length (omega arith) in
      let k = length-drop ((j - 1) + 1) ws in
      let s : now ≡ put (to + ((j - 1) + 1)) (drop ((j - 1) + 1) ws) area = c.words ∙ ap (λ (n : ℕ). put (to + n) (drop n ws) area) e in
      let r : get_or (put (to + ((j - 1) + 1)) (drop ((j - 1) + 1) ws) area) (from + (j - 1)) 0 ≡ get_or ws (j - 1) 0 =
      put_before (to + ((j - 1) + 1)) (drop ((j - 1) + 1) ws) area (omega arith) (from + (j - 1)) (omega arith) ∙ sym (part_word (j - 1) (omega arith)) in
      record {
        within = omega arith;
        size = length-set now (to + (j - 1)) (get_or now (from + (j - 1)) 0) ∙ c.size;
        words = ap (λ (m : List ℕ). set m (to + (j - 1)) (get_or m (from + (j - 1)) 0)) s ∙ ap (λ (w : ℕ). set (put (to + ((j - 1) + 1)) (drop ((j - 1) + 1) ws) area) (to + (j - 1)) w) r
            ∙ put_previous to ws area (omega arith) (j - 1) (omega arith);
      }

  pub up_end : (now : List ℕ) (j : ℕ) → CopiedUp now j → j ≤ 0 → now ≡ put to (take count (drop from area)) area
  up_end now j c h =
      let e : j ≡ 0 = omega arith in
      let f : to + 0 ≡ to = omega arith in
      c.words ∙ ap (λ (n : ℕ). put (to + n) (drop n (take count (drop from area))) area) e ∙ ap (λ (n : ℕ). put n (take count (drop from area)) area) f
