-- A run: records of one name that follow each other plainly. Each has a short row and a term, which are sound, and comes behind the one before by its first two
-- atoms or, with the same row, by its term.
use Prim.Native.Nat.{ℕ, ◌+◌, ◌-◌, ◌*◌, ◌≤◌, ◌<◌}
use mathlib.Core.Path.{◌≡◌, refl, sym, ◌∙◌, ap}
use mathlib.Core.Bool.{true}
use mathlib.Core.List.{List}
use native.Mathlib.Omega.{arith}
use lib.Dec.{ltb}
use lib.ListN.{length, get_or, take, drop, length-drop}
use lib.Seq.{get_or-take, get_or-drop, drop-drop, take-take}
use borrow.Author.Count.{below_more}
use borrow.Author.Tests.{ltb-true, ltb-false}
use Rattle.rows.specs.Row.{is_key, row_before}
use Rattle.rows.specs.Name.{is_name, is_polarity}
use Rattle.rows.specs.Layout.{row_in, five_at, zeros, sound_row}
use Rattle.rows.specs.Records.{record_at}
use Rattle.rows.proofs.Case.{Case, is_true, is_false, split, never, true_and}
use Rattle.rows.proofs.Scan.{zeros_next, zeros_fails, zeros_end}
use Rattle.rows.proofs.LayoutLaws.{sound_width, row_width}
use Rattle.rows.proofs.Records.{record_length, behind_before}
use Rattle.row_words.proofs.RowLaws.{five_length, five_at_lem, front_next, row_in_atom, row_differs, row_ends}
use Rattle.certificates.specs.Certificate.{record_words, first_minute, end_minute, record_name, sound_term, sound_record, record_before}
use Rattle.certificates.specs.Steps.{pair_at, ShortRow, Follows, by_first, by_second, by_term, Run}
use Rattle.certificates.proofs.RecordOrder.{row_decides, term_decides}
use Rattle.certificates.proofs.Sound.{sound_record_lem, record_sound}

-- ---- a short row

-- what is unused is 0
module _ (ws : List ℕ) (five : length ws ≡ 5) (three : get_or ws 3 0 ≡ 0) (four : get_or ws 4 0 ≡ 0) where
  zeros_behind : zeros (drop 3 ws) ≡ true
  zeros_behind = zeros_next ws 3 (omega arith) three ∙ zeros_next ws 4 (omega arith) four ∙ zeros_end ws 5 (omega arith)

  two_atoms : get_or ws 0 0 ≡ 2 → sound_row ws ≡ true
  unfolding sound_row
  two_atoms e = rw e (rw (drop-drop 2 1 ws) zeros_behind)

  one_atom_lem : get_or ws 0 0 ≡ 1 → get_or ws 2 0 ≡ 0 → sound_row ws ≡ true
  unfolding sound_row
  one_atom_lem e b = rw e (rw (drop-drop 1 1 ws) (zeros_next ws 2 (omega arith) b ∙ zeros_behind))

-- two words compared as one number
same_pair : {x y u v : ℕ} → x < 4294967296 → u < 4294967296 → x + y * 4294967296 ≡ u + v * 4294967296 → (x ≡ u) × (y ≡ v)
same_pair h k e = (omega arith, omega arith)

-- a record's words, its polarity and its width so compared
module _ (w : List ℕ) (polarity : ℕ) (ten : length w ≡ record_words) (words : (k : ℕ) → get_or w k 0 < 4294967296) (fits : polarity < 4294967296) (unused : pair_at w 6 ≡ 0) where
  five : length (five_at w 3) ≡ 5
  five = five_length w 3 (omega arith)

  pub short_one : pair_at w 2 ≡ polarity + 4294967296 → get_or w 5 0 ≡ 0 → ShortRow w polarity
  short_one e b =
      let kind = same_pair {y = get_or w 3 0} {v = 1} (words 2) fits (omega arith) in
      record {
        polar = kind.0;
        sound = one_atom_lem (five_at w 3) five (omega (arith, five_at_lem w 3 3 (omega arith))) (omega (arith, five_at_lem w 3 4 (omega arith)))
            (five_at_lem w 3 0 (omega arith) ∙ kind.1) (five_at_lem w 3 2 (omega arith) ∙ b);
        short = omega (arith, kind.1);
      }

  pub short_two : pair_at w 2 ≡ polarity + 4294967296 + 4294967296 → ShortRow w polarity
  short_two e =
      let kind = same_pair {y = get_or w 3 0} {v = 2} (words 2) fits (omega arith) in
      record {
        polar = kind.0;
        sound = two_atoms (five_at w 3) five (omega (arith, five_at_lem w 3 3 (omega arith))) (omega (arith, five_at_lem w 3 4 (omega arith))) (five_at_lem w 3 0 (omega arith) ∙ kind.1);
        short = omega (arith, kind.1);
      }

-- ---- which of two sound rows comes first

-- a second atom that is not 0 is used
second_used : (ws : List ℕ) → length ws ≡ 5 → sound_row ws ≡ true → 0 < get_or ws 2 0 → 1 < get_or ws 0 0
second_used ws five s h = go (split (ltb 1 (get_or ws 0 0)))
  where
    go : Case (ltb 1 (get_or ws 0 0)) → 1 < get_or ws 0 0
    go (is_true t) = ltb-true 1 (get_or ws 0 0) t
    go (is_false t) =
        let e : get_or ws 0 0 ≡ 1 = omega (arith, ltb-false 1 (get_or ws 0 0) t, (sound_width ws s).some) in
        let f = get_or-drop 1 ws 1 0 in
        never (ap (λ (k : ℕ). zeros (drop k (drop 1 ws))) (sym e) ∙ (sound_width ws s).unused)
        (zeros_fails (drop 1 ws) 1 (omega (arith, length-drop 1 ws)) (λ n. omega arith))

module _ (vs ws : List ℕ) (five_v : length vs ≡ 5) (five_w : length ws ≡ 5) (sound_v : sound_row vs ≡ true) (sound_w : sound_row ws ≡ true) where
  wide_v : length (row_in vs) ≡ get_or vs 0 0
  wide_v = row_width vs five_v sound_v

  wide_w : length (row_in ws) ≡ get_or ws 0 0
  wide_w = row_width ws five_w sound_w

  some_v : 1 ≤ get_or vs 0 0
  some_v = (sound_width vs sound_v).some

  some_w : 1 ≤ get_or ws 0 0
  some_w = (sound_width ws sound_w).some

  by_first_lem : get_or vs 1 0 < get_or ws 1 0 → row_before (row_in vs) (row_in ws) ≡ true
  by_first_lem h =
      row_differs (row_in vs) (row_in ws) 0 refl (omega (arith, wide_v, some_v)) (omega (arith, wide_w, some_w))
      (omega (arith, row_in_atom vs 0 (omega (arith, some_v)), row_in_atom ws 0 (omega (arith, some_w))))

  by_second_lem : get_or vs 1 0 ≡ get_or ws 1 0 → get_or vs 2 0 < get_or ws 2 0 → row_before (row_in vs) (row_in ws) ≡ true
  by_second_lem e h = go (split (ltb 1 (get_or vs 0 0)))
    where
      used : 1 < get_or ws 0 0
      used = second_used ws five_w sound_w (omega arith)

      front : take 1 (row_in vs) ≡ take 1 (row_in ws)
      front =
          front_next (row_in vs) (row_in ws) 0 refl (omega (arith, wide_v, some_v)) (omega (arith, wide_w, some_w))
          (row_in_atom vs 0 (omega (arith, some_v)) ∙ e ∙ sym (row_in_atom ws 0 (omega (arith, some_w))))

      go : Case (ltb 1 (get_or vs 0 0)) → row_before (row_in vs) (row_in ws) ≡ true
      go (is_true t) =
          let both = ltb-true 1 (get_or vs 0 0) t in
          row_differs (row_in vs) (row_in ws) 1 front (omega (arith, wide_v)) (omega (arith, wide_w, used)) (omega (arith, row_in_atom vs 1 both, row_in_atom ws 1 used))
      go (is_false t) = row_ends (row_in vs) (row_in ws) 1 front (omega (arith, wide_v, ltb-false 1 (get_or vs 0 0) t)) (omega (arith, wide_w, used))

-- two atoms at most, which are the same
same_short : (vs ws : List ℕ) → length vs ≡ 5 → length ws ≡ 5 → get_or ws 0 0 ≤ 2 → get_or vs 0 0 ≡ get_or ws 0 0 → get_or vs 1 0 ≡ get_or ws 1 0 → get_or vs 2 0 ≡ get_or ws 2 0 → row_in vs ≡ row_in ws
unfolding row_in
same_short vs ws l m few w a b =
    let xs : List ℕ = drop 1 vs in
    let ys : List ℕ = drop 1 ws in
    let p = length-drop 1 vs in
    let q = length-drop 1 ws in
    let one = front_next xs ys 0 refl (omega arith) (omega arith) (get_or-drop 1 vs 0 0 ∙ a ∙ sym (get_or-drop 1 ws 0 0)) in
    let two : take 2 xs ≡ take 2 ys = front_next xs ys 1 one (omega arith) (omega arith) (get_or-drop 1 vs 1 0 ∙ b ∙ sym (get_or-drop 1 ws 1 0)) in
    ap (λ (k : ℕ). take k xs) w ∙ sym (take-take (get_or ws 0 0) 2 xs few) ∙ ap (take (get_or ws 0 0)) two ∙ take-take (get_or ws 0 0) 2 ys few

-- ---- a record that follows plainly

-- the same key, name and polarity
record Alike (v w : List ℕ) : Type 0 where
  key : get_or w 0 0 ≡ get_or v 0 0
  name : get_or w 1 0 ≡ get_or v 1 0
  polarity : get_or w 2 0 ≡ get_or v 2 0

alike_names : {v w : List ℕ} → length v ≡ record_words → length w ≡ record_words → Alike v w → record_name v ≡ record_name w
alike_names {v} {w} l m a =
    let one = front_next v w 0 refl (omega arith) (omega arith) (sym a.key) in
    let two = front_next v w 1 one (omega arith) (omega arith) (sym a.name) in
    front_next v w 2 two (omega arith) (omega arith) (sym a.polarity)

alike_sound : {v w : List ℕ} → sound_record v ≡ true → length w ≡ record_words → Alike v w → sound_row (five_at w 3) ≡ true → sound_term w ≡ true → sound_record w ≡ true
unfolding sound_term
alike_sound {v} {w} s l a r t =
    let f = sound_record_lem v s in
    record_sound w (record {
      ten = l;
      key = ap is_key a.key ∙ f.key;
      name = ap is_name a.name ∙ f.name;
      polarity = ap is_polarity a.polarity ∙ f.polarity;
      row = r;
      term = ltb-true (first_minute w) (end_minute w) t;
    })

comes_behind : (v w : List ℕ) → sound_record v ≡ true → sound_record w ≡ true → record_name v ≡ record_name w → get_or w 3 0 ≤ 2 → Follows v w → record_before v w ≡ true
comes_behind v w s t named short f = go f
  where
    five : (u : List ℕ) → sound_record u ≡ true → length (five_at u 3) ≡ 5
    five u e = five_length u 3 (omega (arith, (sound_record_lem u e).ten))

    atom : (u : List ℕ) (k n : ℕ) → k < 5 → 3 + k ≡ n → get_or (five_at u 3) k 0 ≡ get_or u n 0
    atom u k n h e = five_at_lem u 3 k h ∙ ap (λ (m : ℕ). get_or u m 0) e

    go : Follows v w → record_before v w ≡ true
    go (by_first h) =
        row_decides v w named (by_first_lem (five_at v 3) (five_at w 3) (five v s) (five w t) (sound_record_lem v s).row (sound_record_lem w t).row
        (omega (arith, atom v 1 4 (omega arith) refl, atom w 1 4 (omega arith) refl)))
    go (by_second e h) =
        row_decides v w named (by_second_lem (five_at v 3) (five_at w 3) (five v s) (five w t) (sound_record_lem v s).row (sound_record_lem w t).row
        (atom v 1 4 (omega arith) refl ∙ e ∙ sym (atom w 1 4 (omega arith) refl)) (omega (arith, atom v 2 5 (omega arith) refl, atom w 2 5 (omega arith) refl)))
    go (by_term a b e h) =
        term_decides v w named (same_short (five_at v 3) (five_at w 3) (five v s) (five w t) (omega (arith, atom w 0 3 (omega arith) refl))
        (atom v 0 3 (omega arith) refl ∙ e ∙ sym (atom w 0 3 (omega arith) refl)) (atom v 1 4 (omega arith) refl ∙ a ∙ sym (atom w 1 4 (omega arith) refl))
        (atom v 2 5 (omega arith) refl ∙ b ∙ sym (atom w 2 5 (omega arith) refl))) h

-- a slice that is one of the records
pub slice_length : (store : List ℕ) (count i : ℕ) (t : List ℕ) → 1 + record_words * count ≤ length store → i < count → t ≡ record_at record_words store i → length t ≡ record_words
slice_length store count i t room more e = rw e (record_length record_words store i (omega arith))

-- the run so far; the record before i is sound and of the name
pub record Going (store : List ℕ) (count start i : ℕ) : Type 0 where
  pub run : Run store count start i
  pub sound : sound_record (record_at record_words store (i - 1)) ≡ true
  pub named : record_name (record_at record_words store (i - 1)) ≡ record_name (record_at record_words store start)

module _ (store : List ℕ) (count start : ℕ) (first : sound_record (record_at record_words store start) ≡ true) where
  module _ (words : (k : ℕ) → get_or store k 0 < 4294967296) (room : 1 + record_words * count ≤ length store) (i : ℕ) (more : i < count) where
    word_at : (n : ℕ) → get_or (record_at record_words store n) 0 0 < 4294967296
    unfolding record_at
    word_at n = omega (arith, get_or-take record_words (drop (1 + record_words * n) store) 0 0 (omega arith), get_or-drop (1 + record_words * n) store 0 0, words (1 + record_words * n + 0))

    -- the slices that the code compares are these records
    module _ (f t l : List ℕ) (its_first : f ≡ record_at record_words store start) (this : t ≡ record_at record_words store i) (last : l ≡ record_at record_words store (i - 1)) where
      pub going_next : Going store count start i → pair_at t 0 ≡ pair_at f 0 → ShortRow t (get_or f 2 0) → sound_term t ≡ true → Follows l t → Going store count start (i + 1)
      going_next g p q m b =
          let e : i + 1 - 1 ≡ i = omega arith in
          let go = g.run in
          let pair = same_pair (rw this (word_at i)) (rw its_first (word_at start)) p in
          let alike : Alike f t = record { key = pair.0; name = pair.1; polarity = q.polar } in
          let sound_f : sound_record f ≡ true = rw its_first first in
          let long = slice_length store count i t room more this in
          let named = sym (alike_names (sound_record_lem f sound_f).ten long alike) in
          let sound : sound_record t ≡ true = alike_sound sound_f long alike q.sound m in
          let sound_i : sound_record (record_at record_words store i) ≡ true = rw (← this) sound in
          let before-t : record_name l ≡ record_name t = rw (last, named, its_first) g.named in
          let behind = comes_behind l t (rw last g.sound) sound before-t q.short b in
          record {
            run = record {
              some = omega arith;
              few = omega arith;
              each = below_more _ i go.each (λ z. true_and _ _ sound_i (behind_before record_words store record_before i (λ n. omega arith) t l last this ∙ behind));
            };
            sound = rw e sound_i;
            named = rw (e, ← this, ← its_first) named;
          }
