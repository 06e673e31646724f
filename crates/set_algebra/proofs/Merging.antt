-- Two sets' rows counted together, and merged into the left's place, from their ends.
use Prim.Native.Nat.{ℕ, zero, suc, ◌+◌, ◌*◌, ◌-◌, ◌≤◌, ◌<◌}
use mathlib.Core.Path.{◌≡◌, refl, sym, ◌∙◌, ap}
use mathlib.Core.Logic.{inl, inr}
use mathlib.Core.List.{List, [], ◌∷◌, ◌++◌}
use native.Mathlib.Omega.{arith}
use lib.ListN.{length, get_or, take, drop, length-append, length-drop, take-append-drop, drop_of_length-le}
use lib.Seq.{take_all, length-take-le}
use Rattle.rows.specs.Ordered.{join}
use Rattle.rows.specs.Row.{Row, row_before}
use Rattle.rows.specs.Layout.{row_words, row_in, five_at, flat, laid, put}
use Rattle.row_words.specs.Values.{ordering_for}
use Rattle.set_algebra.specs.Private.{LastRows, last_order_for, room_at, lefts, rights, Rooms}
use Rattle.std.specs.declared.cmp.Ordering.{Ordering}
use Rattle.std.specs.declared.cmp.Ordering.TheVariants.{Less, Equal, Greater}
use Rattle.rows.proofs.Order.{row_order}
use Rattle.rows.proofs.Lists.{all_in, all_of, all_at, all_drop}
use Rattle.rows.proofs.Ordered.{Ascending, join-∈}
use Rattle.rows.proofs.Joining.{join_shorter, last_place, last_front, last_rest, firsts_right, firsts_left, firsts_both, firsts_longer, firsts_none}
use Rattle.rows.proofs.Put.{part_after, part_before, put_then_after, put_then_before, put_none, put_itself}
use Rattle.rows.proofs.LayoutLaws.{row_reads, row_length}
use Rattle.row_words.proofs.RowLaws.{five_width}
use Rattle.row_words.proofs.Orderings.{less_before, equal_same, greater_after}
use Rattle.sets.proofs.SetWords.{sound_ascending}
use Rattle.sets.proofs.Laid.{Narrow, laid_length, laid_append, narrow_in, laid_front, inner, front_length}
use Rattle.set_algebra.proofs.Walking.{room_few, room_count, room_row}

-- ---- the order of two last rows

pub last_zero : (i : ℕ) (x y : Row) → i ≡ 0 → Less ≡ last_order_for i x y
unfolding last_order_for
last_zero zero x y e = refl
last_zero (suc i) x y e = absurd (omega arith)

pub last_some : (i : ℕ) (x y : Row) → 0 < i → ordering_for row_before x y ≡ last_order_for i x y
unfolding last_order_for
last_some zero x y h = absurd (omega arith)
last_some (suc i) x y h = refl

last_is_some : (i : ℕ) (x y : Row) (o : Ordering) → last_order_for i x y ≡ o → (Less ≡ o → ⊥) → 0 < i
unfolding last_order_for
last_is_some zero x y o e n = absurd (n e)
last_is_some (suc i) x y o e n = omega arith

not_same : Less ≡ Equal → ⊥
not_same e = let z : ◌≡◌ {A = ℕ} 0 1 = cc in omega arith

not_after : Less ≡ Greater → ⊥
not_after e = let z : ◌≡◌ {A = ℕ} 0 1 = cc in omega arith

-- ---- the two lists

module _ (a : List ℕ) where
  -- where the rows at the two ends stand
  pub record Ends (now : List ℕ) (i j : ℕ) : Type 0 where
    pub left : i ≤ length (lefts a)
    pub right : j ≤ length (rights a)
    pub size : length now ≡ length a
    pub mine : 0 < i → five_at now (2 + 5 * (i - 1)) ≡ row_words (get_or (lefts a) (i - 1) [])
    pub theirs : 0 < j → five_at now (644 + 5 * (j - 1)) ≡ row_words (get_or (rights a) (j - 1) [])

  -- so many are counted
  pub record Counting (i j total : ℕ) : Type 0 where
    pub left : i ≤ length (lefts a)
    pub right : j ≤ length (rights a)
    pub sum : total + length (join row_before (take i (lefts a)) (take j (rights a))) ≡ length (join row_before (lefts a) (rights a))

  -- the rows from the `k`th on are in their places
  pub record Merging (now : List ℕ) (i j k : ℕ) : Type 0 where
    pub left : i ≤ length (lefts a)
    pub right : j ≤ length (rights a)
    pub within : k ≤ length (join row_before (lefts a) (rights a))
    pub front : take k (join row_before (lefts a) (rights a)) ≡ join row_before (take i (lefts a)) (take j (rights a))
    pub size : length now ≡ length a
    pub words : now ≡ put (2 + 5 * k) (laid (drop k (join row_before (lefts a) (rights a)))) a

module _ (a : List ℕ) (rooms : Rooms a 0 642) where
  abbrev xs : List Row
  xs = lefts a

  abbrev ys : List Row
  ys = rights a

  abbrev both : List Row
  both = join row_before xs ys

  left_ascending : Ascending row_before row_order xs
  left_ascending = sound_ascending (room_at 0 a) rooms.one_sound

  right_ascending : Ascending row_before row_order ys
  right_ascending = sound_ascending (room_at 642 a) rooms.other_sound

  pub record Counts : Type 0 where
    pub left_few : length xs ≤ 128
    pub right_few : length ys ≤ 128
    pub left_count : get_or a 1 0 ≡ length xs
    pub right_count : get_or a 643 0 ≡ length ys
    pub most : length both ≤ 256
    pub room : 1284 ≤ length a

  pub counts : Counts
  counts =
      let r = rooms.other_room in
      let f = room_few a 0 rooms.one_room rooms.one_sound in
      let g = room_few a 642 rooms.other_room rooms.other_sound in
      record {
        left_few = f;
        right_few = g;
        most = omega (arith, join_shorter row_before row_order xs ys);
        left_count = room_count a 0 rooms.one_room rooms.one_sound;
        right_count = room_count a 642 rooms.other_room rooms.other_sound;
        room = omega arith;
      }

  -- ---- what the two last rows say of the join
  module _ (now : List ℕ) (i j : ℕ) (e : Ends a now i j) (h : 0 < j) where
    x : Row
    x = get_or xs (i - 1) []

    y : Row
    y = get_or ys (j - 1) []

    pub last_ready : LastRows now i j
    unfolding row_words
    last_ready =
        let c = counts in
        let l = e.left in
        let r = e.right in
        let s = e.size in
        let n = narrow_in (room_at 0 a) in
        let m = narrow_in (room_at 642 a) in
        record {
          some = h;
          left_room = omega arith;
          right_room = omega arith;
          left_width = λ k. omega (arith, five_width now (2 + 5 * (i - 1)), ap (λ (w : List ℕ). get_or w 0 0) (e.mine k), all_at _ xs n (i - 1) [] (omega arith));
          right_width = omega (arith, five_width now (644 + 5 * (j - 1)), ap (λ (w : List ℕ). get_or w 0 0) (e.theirs h), all_at _ ys m (j - 1) [] (omega arith));
        }

    module _ (o : Ordering) (said : o ≡ last_order_for i (row_in (five_at now (2 + 5 * (i - 1)))) (row_in (five_at now (644 + 5 * (j - 1))))) where
      mine_is : 0 < i → row_in (five_at now (2 + 5 * (i - 1))) ≡ get_or xs (i - 1) []
      mine_is k = ap row_in (e.mine k) ∙ row_reads (get_or xs (i - 1) [])

      theirs_is : row_in (five_at now (644 + 5 * (j - 1))) ≡ get_or ys (j - 1) []
      theirs_is = ap row_in (e.theirs h) ∙ row_reads (get_or ys (j - 1) [])

      order_is : 0 < i → ordering_for row_before (get_or xs (i - 1) []) (get_or ys (j - 1) []) ≡ o
      order_is k =
          let p = mine_is k in
          let q = theirs_is in
          let s = last_some i (row_in (five_at now (2 + 5 * (i - 1)))) (row_in (five_at now (644 + 5 * (j - 1)))) k in
          ap (λ (r : Row). ordering_for row_before r (get_or ys (j - 1) [])) (sym p) ∙ ap (ordering_for row_before (row_in (five_at now (2 + 5 * (i - 1))))) (sym q) ∙ s ∙ sym said

      pub right_last : o ≡ Less → join row_before (take i xs) (take j ys) ≡ join row_before (take i xs) (take (j - 1) ys) ++ (get_or ys (j - 1) [] ∷ [])
      right_last b = firsts_right row_before row_order [] xs ys left_ascending right_ascending i j e.left e.right h (λ k. less_before row_order _ _ (order_is k ∙ b))

      pub same_some : o ≡ Equal → 0 < i
      same_some b = last_is_some i _ _ o (sym said) (λ c. not_same (c ∙ b))

      pub after_some : o ≡ Greater → 0 < i
      after_some b = last_is_some i _ _ o (sym said) (λ c. not_after (c ∙ b))

      pub both_last : o ≡ Equal → join row_before (take i xs) (take j ys) ≡ join row_before (take (i - 1) xs) (take (j - 1) ys) ++ (get_or xs (i - 1) [] ∷ [])
      both_last b = firsts_both row_before row_order [] xs ys left_ascending right_ascending i j e.left e.right (same_some b) h (equal_same row_order _ _ (order_is (same_some b) ∙ b))

      pub left_last : o ≡ Greater → join row_before (take i xs) (take j ys) ≡ join row_before (take (i - 1) xs) (take j ys) ++ (get_or xs (i - 1) [] ∷ [])
      left_last b = firsts_left row_before row_order [] xs ys left_ascending right_ascending i j e.left e.right (after_some b) (λ k. greater_after row_order _ _ (order_is (after_some b) ∙ b))

  -- ---- counting

  whole : (i j : ℕ) → i ≡ length xs → j ≡ length ys → join row_before (take i xs) (take j ys) ≡ both
  whole i j e f =
      ap (λ (l : List Row). join row_before l (take j ys)) (take_all i xs (omega arith)) ∙ ap (join row_before xs) (take_all j ys (omega arith))

  pub counting_start : (i j : ℕ) → i ≡ length xs → j ≡ length ys → Counting a i j 0
  counting_start i j e f = record { left = omega arith; right = omega arith; sum = omega (arith, ap length (whole i j e f)) }

  pub counting_ends : (i j total : ℕ) → Counting a i j total → Ends a a i j
  counting_ends i j total c =
      let l = c.left in
      let r = c.right in
      record {
        left = l;
        right = r;
        size = refl;
        mine = λ h. room_row a 0 rooms.one_room rooms.one_sound (i - 1) (omega arith);
        theirs = λ h. room_row a 642 rooms.other_room rooms.other_sound (j - 1) (omega arith);
      }

  pub counting_next : (i j total k m : ℕ) (z : Row) → Counting a i j total → k ≤ i → m ≤ j →
      join row_before (take i xs) (take j ys) ≡ join row_before (take k xs) (take m ys) ++ (z ∷ []) → Counting a k m (total + 1)
  counting_next i j total k m z c g h e =
      let l = c.left in
      let r = c.right in
      record { left = omega arith; right = omega arith; sum = omega (arith, c.sum, ap length e, length-append (join row_before (take k xs) (take m ys)) (z ∷ [])) }

  none_left_lem : (i j : ℕ) → j ≤ 0 → join row_before (take i xs) (take j ys) ≡ take i xs
  none_left_lem i j h =
      let z : j ≡ 0 = omega arith in
      ap (λ (n : ℕ). join row_before (take i xs) (take n ys)) z ∙ firsts_none row_before row_order [] xs ys left_ascending right_ascending i

  pub counting_end : (i j total : ℕ) → Counting a i j total → j ≤ 0 → total + i ≡ length both
  counting_end i j total c h = omega (arith, c.sum, ap length (none_left_lem i j h), length-take-le i xs c.left)

  -- ---- merging

  pub narrow_both : Narrow both
  narrow_both = all_of (λ (r : Row). length r ≤ 4) both (λ r m. elim ((join-∈ row_before row_order xs ys r).0 m) [
    | inl i ↦ all_in (λ (r : Row). length r ≤ 4) xs (narrow_in (room_at 0 a)) r i
    | inr i ↦ all_in (λ (r : Row). length r ≤ 4) ys (narrow_in (room_at 642 a)) r i
  ])

  rest_length : (k : ℕ) → length (laid (drop k both)) ≡ 5 * (length both - k)
  rest_length k = omega (arith, laid_length (drop k both) (all_drop _ k both narrow_both), length-drop k both)

  module _ (few : length both ≤ 128) where
    pub merging_start : (i j k : ℕ) → i ≡ length xs → j ≡ length ys → k ≡ length both → Merging a a i j k
    unfolding flat
    merging_start i j k e f g = record {
      left = omega arith;
      right = omega arith;
      within = omega arith;
      size = refl;
      front = take_all k both (omega arith) ∙ sym (whole i j e f);
      words = sym (ap (λ (l : List Row). put (2 + 5 * k) (laid l) a) (drop_of_length-le both {i = k} (omega arith)) ∙ put_none (2 + 5 * k) a);
    }

    module _ (now : List ℕ) (i j k : ℕ) (m : Merging a now i j k) where
      k_is : k ≡ length (join row_before (take i xs) (take j ys))
      k_is = omega (arith, ap length m.front, length-take-le k both m.within)

      pub record Places : Type 0 where
        pub left_below : i ≤ k
        pub right_below : j ≤ k
        pub most : k ≤ 128
        pub left_within : i ≤ length xs
        pub right_within : j ≤ length ys
        pub size : length now ≡ length a

      pub places : Places
      places =
          let f = firsts_longer row_before row_order [] xs ys left_ascending right_ascending i j m.left m.right in
          let w = m.within in
          let q = k_is in
          record { left_below = omega arith; right_below = omega arith; most = omega arith; left_within = m.left; right_within = m.right; size = m.size }

      pub merging_ends : Ends a now i j
      merging_ends =
          let c = counts in
          let p = places in
          let w = m.within in
          let l = m.left in
          let r = m.right in
          let n = rest_length k in
          record {
            left = l;
            right = r;
            size = m.size;
            mine = λ h. ap (λ (z : List ℕ). five_at z (2 + 5 * (i - 1))) m.words
                ∙ part_before (2 + 5 * k) (laid (drop k both)) a (omega arith) (2 + 5 * (i - 1)) 5 (omega arith) ∙ room_row a 0 rooms.one_room rooms.one_sound (i - 1) (omega arith);
            theirs = λ h. ap (λ (z : List ℕ). five_at z (644 + 5 * (j - 1))) m.words
                ∙ part_after (2 + 5 * k) (laid (drop k both)) a (omega arith) (644 + 5 * (j - 1)) 5 (omega arith) ∙ room_row a 642 rooms.other_room rooms.other_sound (j - 1) (omega arith);
          }

      pub merging_next : (p q : ℕ) (z : Row) (from : ℕ) (after : List ℕ) → p ≤ i → q ≤ j → length z ≤ 4 →
          join row_before (take i xs) (take j ys) ≡ join row_before (take p xs) (take q ys) ++ (z ∷ []) →
          five_at now from ≡ row_words z → after ≡ put (2 + 5 * (k - 1)) (take 5 (drop from now)) now → length after ≡ length now → Merging a after p q (k - 1)
      unfolding flat
      merging_next p q z from after g h narrow e t s same =
          let c = counts in
          let v = places in
          let w = m.within in
          let l = m.left in
          let r = m.right in
          let n = rest_length k in
          let u : take k both ≡ join row_before (take p xs) (take q ys) ++ (z ∷ []) = m.front ∙ e in
          let b = last_place both (join row_before (take p xs) (take q ys)) z k u w in
          let five : length (row_words z) ≡ 5 = row_length z narrow in
          let at : 2 + 5 * k ≡ 2 + 5 * (k - 1) + length (row_words z) = omega arith in
          record {
            left = omega arith;
            right = omega arith;
            within = omega arith;
            size = same ∙ m.size;
            front = last_front both (join row_before (take p xs) (take q ys)) z k u w;
            words = s ∙ ap (λ (y : List ℕ). put (2 + 5 * (k - 1)) y now) t ∙ ap (put (2 + 5 * (k - 1)) (row_words z)) (m.words ∙ ap (λ (y : ℕ). put y (laid (drop k both)) a) at)
                ∙ put_then_before (2 + 5 * (k - 1)) (row_words z) (laid (drop k both)) a (omega arith)
                ∙ ap (λ (y : List Row). put (2 + 5 * (k - 1)) (laid y) a) (sym (last_rest both (join row_before (take p xs) (take q ys)) z k u w));
          }

      pub merging_end : j ≤ 0 → now ≡ put 2 (laid both) a
      merging_end h =
          let c = counts in
          let v = places in
          let w = m.within in
          let f : take k both ≡ take i xs = m.front ∙ none_left_lem i j h in
          let n : k ≡ i = omega (arith, ap length f, length-take-le k both w, length-take-le i xs m.left) in
          let fl : length (laid (take i xs)) ≡ 5 * i = front_length (room_at 0 a) rooms.one_sound i m.left in
          let rl = rest_length k in
          let z : put 2 (laid (take i xs)) a ≡ a =
          ap (λ (l : List ℕ). put 2 l a) (sym (laid_front (room_at 0 a) rooms.one_sound i m.left) ∙ inner 2 (5 * i) 642 a (omega arith)) ∙ put_itself 2 (5 * i) a (omega arith) in
          let at : 2 + 5 * k ≡ 2 + length (laid (take i xs)) = omega arith in
          m.words ∙ ap (λ (y : ℕ). put y (laid (drop k both)) a) at ∙ ap (put (2 + length (laid (take i xs))) (laid (drop k both))) (sym z)
          ∙ put_then_after 2 (laid (take i xs)) (laid (drop k both)) a (omega arith)
          ∙ ap (λ (l : List ℕ). put 2 l a) (sym (laid_append (take i xs) (drop k both)))
          ∙ ap (λ (l : List Row). put 2 (laid (l ++ drop k both)) a) (sym f) ∙ ap (λ (l : List Row). put 2 (laid l) a) (take-append-drop k both)

      -- by the order of the two last rows
      module _ (h : 0 < j) (o : Ordering) (said : o ≡ last_order_for i (row_in (five_at now (2 + 5 * (i - 1)))) (row_in (five_at now (644 + 5 * (j - 1))))) (after : List ℕ) (same : length after ≡ length now) where
        pub merging_right : o ≡ Less → after ≡ put (2 + 5 * (k - 1)) (take 5 (drop (644 + 5 * (j - 1)) now)) now → Merging a after i (j - 1) (k - 1)
        merging_right b s =
            let e = merging_ends in
            let r = m.right in
            merging_next i (j - 1) (get_or ys (j - 1) []) (644 + 5 * (j - 1)) after (omega arith) (omega arith) (all_at _ ys (narrow_in (room_at 642 a)) (j - 1) [] (omega arith))
            (right_last now i j e h o said b) (e.theirs h) s same

        pub merging_both : o ≡ Equal → after ≡ put (2 + 5 * (k - 1)) (take 5 (drop (2 + 5 * (i - 1)) now)) now → Merging a after (i - 1) (j - 1) (k - 1)
        merging_both b s =
            let e = merging_ends in
            let l = m.left in
            let g = same_some now i j e h o said b in
            merging_next (i - 1) (j - 1) (get_or xs (i - 1) []) (2 + 5 * (i - 1)) after (omega arith) (omega arith) (all_at _ xs (narrow_in (room_at 0 a)) (i - 1) [] (omega arith))
            (both_last now i j e h o said b) (e.mine g) s same

        pub merging_left : o ≡ Greater → after ≡ put (2 + 5 * (k - 1)) (take 5 (drop (2 + 5 * (i - 1)) now)) now → Merging a after (i - 1) j (k - 1)
        merging_left b s =
            let e = merging_ends in
            let l = m.left in
            let g = after_some now i j e h o said b in
            merging_next (i - 1) j (get_or xs (i - 1) []) (2 + 5 * (i - 1)) after (omega arith) (omega arith) (all_at _ xs (narrow_in (room_at 0 a)) (i - 1) [] (omega arith))
            (left_last now i j e h o said b) (e.mine g) s same
