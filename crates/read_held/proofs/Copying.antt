-- The rows that hold are copied one after the other, and stand there as a set.
use Rattle.std.proofs.Common.{ℕ, suc, ◌≡◌, ◌≢◌, ◌↔◌, ◌+◌, ◌-◌, ◌*◌, ◌≤◌, ◌<◌, IsTrue, MatchOption, Bool, true, false, List, [], ◌∷◌, ◌++◌, length, get_or, take, drop, set, refl, sym, ◌∙◌, ap, subst, arith, Option, None, Some, Bor, append-nil, append_assoc, length-append}
use mathlib.Core.Logic.{◌⊎◌, inl, inr}
use lib.ListN.{length-take}
use lib.Seq.{take-suc, take_all, get_or-take}
use borrow.Rule.Slice.PartMut.{put_mid}
use Rattle.std.proofs.lemmas.List.{take-append-drop, length-drop}
use Rattle.std.proofs.lemmas.Slice.{take-put_mid, drop-put_mid}
use Rattle.rows.specs.Word.{All}
use Rattle.rows.specs.Ordered.{◌∈◌, insert}
use Rattle.rows.specs.Row.{Row, row_before}
use Rattle.rows.specs.Sets.{RowSet, listing}
use Rattle.rows.specs.Layout.{laid, flat, put, row_words, five_at, formed}
use Rattle.rows.proofs.Case.{Case, is_true, is_false, split, never}
use Rattle.rows.proofs.Lists.{all_in, all_of}
use Rattle.rows.proofs.Order.{row_order, not_both, least_then_less}
use Rattle.rows.proofs.Joining.{∈-last}
use Rattle.rows.proofs.Place.{insert_known}
use Rattle.rows.proofs.LayoutLaws.{Width, row_length, row_width, row_written, sound_width, formed_listing, formed_word}
use Rattle.rows.proofs.Put.{put_length, put_none, put_then_after}
use Rattle.sets.proofs.Laid.{Narrow, laid_length, laid_append, written_count}
use Rattle.certificates.specs.Certificate.{record_row, sound_record, holds_at}
use Rattle.certificates.proofs.Sound.{sound_record_lem, five_long}
use Rattle.read_held.specs.Held.{Records, Copied, row_at, rows_held}
use Rattle.read_held.proofs.Holding.{rows_none, rows_hold, rows_skip, rows_last, rows_longer, step_few, rows_ascend, rows_has, rows_from}

-- the record whose row is the last of these, if there are any
unfoldable pub Last : List Row → Option (Bor (List ℕ)) → Type 0
Last rows None = rows ≡ []
Last rows (Some w) = (record_row w.now ∈ rows) × ((x : Row) → x ∈ rows → row_before (record_row w.now) x ≡ false) × (sound_record w.now ≡ true)

-- of the first i records so many rows are counted, and of the others so many may add none
pub record Counting (rs : List (List ℕ)) (i listed spare : ℕ) (last : Option (Bor (List ℕ))) (rows : List Row) : Type 0 where
  pub behind : Last rows last
  pub many : listed ≡ length rows
  pub few : listed ≤ 128
  pub left : i + 129 + spare ≡ length rs + listed

-- these rows are copied
pub record Copying (entry area : List ℕ) (listed : ℕ) (last : Option (Bor (List ℕ))) (rows : List Row) : Type 0 where
  pub behind : Last rows last
  pub many : listed ≡ length rows
  pub few : listed ≤ 128
  pub size : length area ≡ length entry
  pub words : area ≡ put 2 (laid rows) entry

module _ (minute : ℕ) (rs : List (List ℕ)) where
  -- the rows of the first i records that hold
  abbrev pub rows_of : ℕ → List Row
  rows_of i = rows_held minute (take i rs)

  module _ {i : ℕ} (less : i < length rs) where
    one_more : take (i + 1) rs ≡ take i rs ++ (get_or rs i [] ∷ [])
    one_more = let e : i + 1 ≡ suc i = omega arith in ap (λ (n : ℕ). take n rs) e ∙ take-suc rs i [] less

    pub rows_same : holds_at minute (get_or rs i []) ≡ false → rows_of (i + 1) ≡ rows_of i
    rows_same e = ap (rows_held minute) one_more ∙ rows_skip minute (take i rs) (get_or rs i []) e

    -- a record that holds has its row put in
    pub rows_put : holds_at minute (get_or rs i []) ≡ true → rows_of (i + 1) ≡ insert row_before (row_at rs i) (rows_of i)
    rows_put e = ap (rows_held minute) one_more ∙ rows_hold minute (take i rs) (get_or rs i []) e

    pub rows_known : row_at rs i ∈ rows_of i → rows_of (i + 1) ≡ rows_of i
    rows_known m = go (split (holds_at minute (get_or rs i [])))
      where
        go : Case (holds_at minute (get_or rs i [])) → rows_of (i + 1) ≡ rows_of i
        go (is_true e) = rows_put e ∙ insert_known row_before row_order [] (rows_of i) (row_at rs i) (rows_ascend minute (take i rs)) m
        go (is_false e) = rows_same e

    module _ (records : Records rs) where
      -- it comes behind all others, where it is not the last one's
      above : (last : Option (Bor (List ℕ))) → Last (rows_of i) last → MatchOption last (Unit {0}) (λ w. record_row w.now ≢ row_at rs i) → (x : Row) → x ∈ rows_of i → row_before x (row_at rs i) ≡ true
      unfolding Last ◌∈◌
      above None l n x m = absurd (subst (λ (xs : List Row). x ∈ xs) l m)
      above (Some w) l n x m = least_then_less row_order x (record_row w.now) (row_at rs i) (l.1 x m) later
        where
          later : row_before (record_row w.now) (row_at rs i) ≡ true
          later =
              let f = rows_from minute (take i rs) (record_row w.now) l.0 in
              let small = f.1 in
              let first : f.0 < i = omega (arith, length-take i rs) in
              let is : record_row w.now ≡ row_at rs f.0 = f.2 ∙ ap (λ v. record_row v) (get_or-take i rs f.0 [] first) in
              let climb : row_before (row_at rs i) (record_row w.now) ≡ false = ap (row_before (row_at rs i)) is ∙ records.climb f.0 i first less in
              go climb (split (row_before (record_row w.now) (row_at rs i)))
            where
              go : row_before (row_at rs i) (record_row w.now) ≡ false → Case (row_before (record_row w.now) (row_at rs i)) → row_before (record_row w.now) (row_at rs i) ≡ true
              go c (is_true t) = t
              go c (is_false t) = absurd (n (row_order.total (record_row w.now) (row_at rs i) t c))

      pub rows_grow : (last : Option (Bor (List ℕ))) → Last (rows_of i) last → MatchOption last (Unit {0}) (λ w. record_row w.now ≢ row_at rs i) → holds_at minute (get_or rs i []) ≡ true →
          rows_of (i + 1) ≡ rows_of i ++ (row_at rs i ∷ [])
      rows_grow last l n e = ap (rows_held minute) one_more ∙ rows_last minute (take i rs) (get_or rs i []) e (above last l n)

      pub last_grows : (last : Option (Bor (List ℕ))) → Last (rows_of i) last → MatchOption last (Unit {0}) (λ w. record_row w.now ≢ row_at rs i) → (w : Bor (List ℕ)) → w.now ≡ get_or rs i [] →
          Last (rows_of i ++ (row_at rs i ∷ [])) (Some w)
      unfolding Last
      last_grows last l n w e = (
        (∈-last (rows_of i) (row_at rs i) (record_row w.now)).1 (inr (ap (λ v. record_row v) e)),
        λ x m. ap (λ v. row_before (record_row v) x) e ∙ go x ((∈-last (rows_of i) (row_at rs i) x).0 m),
        ap sound_record e ∙ records.sound i less,
      )
        where
          go : (x : Row) → (x ∈ rows_of i) ⊎ (x ≡ row_at rs i) → row_before (row_at rs i) x ≡ false
          go x (inl m) = not_both row_order x (row_at rs i) (above last l n x m)
          go x (inr q) = ap (row_before (row_at rs i)) q ∙ row_order.irreflexive (row_at rs i)

  rest_more : (i : ℕ) → length (rows_of i) ≤ length (rows_held minute rs)
  rest_more i = omega (arith, rows_longer minute (take i rs) (drop i rs), ap (λ l. length (rows_held minute l)) (take-append-drop i rs))

  pub too_many : (i : ℕ) → 128 < length (rows_of i) → 128 < length (rows_held minute rs)
  too_many i h = omega (arith, rest_more i)

  -- the rows of the first records are among those of all
  pub rows_within : (i : ℕ) (x : Row) → x ∈ rows_of i → x ∈ rows_held minute rs
  rows_within i x m =
      let f = rows_from minute (take i rs) x m in
      let h = f.1 in
      let first : f.0 < i = omega (arith, length-take i rs) in
      let less : f.0 < length rs = omega (arith, length-take i rs) in
      let is : get_or (take i rs) f.0 [] ≡ get_or rs f.0 [] = get_or-take i rs f.0 [] first in
      subst (λ (y : Row). y ∈ rows_held minute rs) (sym (f.2 ∙ ap (λ w. record_row w) is)) (rows_has minute rs f.0 less (ap (holds_at minute) (sym is) ∙ f.3))

  pub all_rows : {i : ℕ} → length rs ≤ i → rows_of i ≡ rows_held minute rs
  all_rows {i} h = ap (rows_held minute) (take_all i rs h)

  -- each record that is left adds one row at most
  rest_few : (ws vs : List (List ℕ)) → length (rows_held minute (ws ++ vs)) ≤ length (rows_held minute ws) + length vs
  rest_few ws [] = omega (arith, ap (λ l. length (rows_held minute l)) (append-nil ws))
  rest_few ws (v ∷ vs) = omega (arith, rest_few (ws ++ (v ∷ [])) vs, step_few minute ws v, ap (λ l. length (rows_held minute l)) (append_assoc ws (v ∷ []) vs))

  pub rows_left : (i : ℕ) → length (rows_held minute rs) ≤ length (rows_of i) + (length rs - i)
  rows_left i = omega (arith, rest_few (take i rs) (drop i rs), ap (λ l. length (rows_held minute l)) (take-append-drop i rs), length-drop i rs)

-- what is told of its row and the last one's
module _ (rs : List (List ℕ)) (i : ℕ) where
  abbrev pub Told : Option (Bor (List ℕ)) → Bool → Type 0
  Told last b = MatchOption last (b ≡ false) (λ w. IsTrue b ↔ (record_row w.now ≡ row_at rs i))

  pub another : (last : Option (Bor (List ℕ))) {b : Bool} → Told last b → b ≡ false → MatchOption last (Unit {0}) (λ w. record_row w.now ≢ row_at rs i)
  another None t e = tt
  another (Some w) t e = λ q. never (t.1 q) e

  pub last_sound : (rows : List Row) (last : Option (Bor (List ℕ))) → Last rows last → MatchOption last (Unit {0}) (λ w. sound_record w.now ≡ true)
  unfolding Last
  last_sound rows None l = tt
  last_sound rows (Some w) l = l.2

  pub the_last : (rows : List Row) (last : Option (Bor (List ℕ))) {b : Bool} → Last rows last → Told last b → b ≡ true → row_at rs i ∈ rows
  unfolding Last
  the_last rows None l t e = never e t
  the_last rows (Some w) l t e = subst (λ (x : Row). x ∈ rows) (t.0 e) l.0

-- ---- the words

-- a part of an area is written over
pub put_part : (a k : ℕ) (area ws : List ℕ) → a ≤ length area → length ws ≡ k → put_mid a k area ws ≡ put a ws area
unfolding put
put_part a k area ws h e =
    let now : List ℕ = put_mid a k area ws in
    sym (take-append-drop (a + length ws) now)
    ∙ ap (λ xs. xs ++ drop (a + length ws) now) (take-put_mid a k area ws (a + length ws) refl h)
    ∙ ap (λ xs. (take a area ++ ws) ++ xs) (drop-put_mid a k area ws (a + length ws) (omega (arith, e)) h e)
    ∙ append_assoc (take a area) ws (drop (a + length ws) area)

pub record_wide : (w : List ℕ) → sound_record w ≡ true → Width (record_row w)
record_wide w sound =
    let r = sound_record_lem w sound in
    let s = sound_width (five_at w 3) r.row in
    let e = row_width (five_at w 3) (five_long w r.ten) r.row in
    record { some = omega (arith, s.some); few = omega (arith, s.few) }

module _ {rs : List (List ℕ)} (records : Records rs) where
  wide_at : (i : ℕ) → i < length rs → Width (row_at rs i)
  wide_at i h = record_wide (get_or rs i []) (records.sound i h)

  pub rows_wide : (minute : ℕ) → All Width (rows_held minute rs)
  rows_wide minute = all_of Width (rows_held minute rs) (λ x m. let f = rows_from minute rs x m in subst Width (sym f.2) (wide_at f.0 f.1))

  -- the row's words are the record's: its unused atoms are 0
  pub words_there : (i : ℕ) → i < length rs → five_at (get_or rs i []) 3 ≡ row_words (row_at rs i)
  words_there i h =
      let r = sound_record_lem (get_or rs i []) (records.sound i h) in
      sym (row_written (five_at (get_or rs i []) 3) (five_long (get_or rs i []) r.ten) r.row)

records_take : {rs : List (List ℕ)} → Records rs → (i : ℕ) → Records (take i rs)
records_take {rs} records i = record {
  sound = λ l h. let n = inside l h in ap sound_record (get_or-take i rs l [] n.0) ∙ records.sound l n.1;
  climb = λ l m h k.
      let n = inside m k in
      ap (λ (x : Row). row_before (row_at (take i rs) m) x) (ap (λ v. record_row v) (get_or-take i rs l [] (omega (arith, n.0))))
      ∙ ap (λ (x : Row). row_before x (row_at rs l)) (ap (λ v. record_row v) (get_or-take i rs m [] n.0)) ∙ records.climb l m h n.1;
}
  where
    inside : (l : ℕ) → l < length (take i rs) → (l < i) × (l < length rs)
    inside l h = (omega (arith, h, length-take i rs), omega (arith, h, length-take i rs))

module _ (minute : ℕ) {rs : List (List ℕ)} (records : Records rs) (entry : List ℕ) where
  pub copying_start : Copying entry entry 0 None (rows_of minute rs 0)
  unfolding flat Last
  copying_start =
      let none : rows_of minute rs 0 ≡ [] = rows_none minute in
      record {
        behind = none;
        many = ap length (sym none);
        few = omega arith;
        size = refl;
        words = sym (put_none 2 entry) ∙ ap (λ (xs : List Row). put 2 (laid xs) entry) (sym none);
      }

  laid_here : (i : ℕ) → length (laid (rows_of minute rs i)) ≡ 5 * length (rows_of minute rs i)
  laid_here i =
      let narrow : Narrow (rows_of minute rs i) = all_of (λ (r : Row). length r ≤ 4) _ (λ x m. (all_in Width _ (rows_wide (records_take records i) minute) x m).few) in
      laid_length (rows_of minute rs i) narrow

  module _ (area : List ℕ) (listed : ℕ) (last : Option (Bor (List ℕ))) (i : ℕ) (c : Copying entry area listed last (rows_of minute rs i)) where
    pub copying_same : rows_of minute rs (i + 1) ≡ rows_of minute rs i → Copying entry area listed last (rows_of minute rs (i + 1))
    copying_same e = subst (Copying entry area listed last) (sym e) c

    module _ (less : i < length rs) (held : holds_at minute (get_or rs i []) ≡ true) (new : MatchOption last (Unit {0}) (λ w. record_row w.now ≢ row_at rs i)) where
      grown : rows_of minute rs (i + 1) ≡ rows_of minute rs i ++ (row_at rs i ∷ [])
      grown = rows_grow minute rs less records last c.behind new held

      longer : length (rows_of minute rs (i + 1)) ≡ listed + 1
      longer = omega (arith, ap length grown, length-append (rows_of minute rs i) (row_at rs i ∷ []), c.many)

      pub copying_full : listed ≡ 128 → 128 < length (rows_held minute rs)
      copying_full e = too_many minute rs (i + 1) (omega (arith, longer))

      pub copying_next : listed < 128 → 642 ≤ length entry → (now : List ℕ) → now ≡ put (2 + 5 * listed) (five_at (get_or rs i []) 3) area → (w : Bor (List ℕ)) → w.now ≡ get_or rs i [] →
          Copying entry now (listed + 1) (Some w) (rows_of minute rs (i + 1))
      unfolding flat
      copying_next few long now is w e =
          let rows : List Row = rows_of minute rs i in
          let row : List ℕ = row_words (row_at rs i) in
          let m = c.many in
          let f : length row ≡ 5 = row_length (row_at rs i) (wide_at records i less).few in
          let l = laid_here i in
          let here : now ≡ put (2 + 5 * listed) row area = is ∙ ap (λ (u : List ℕ). put (2 + 5 * listed) u area) (words_there records i less) in
          let place : 2 + 5 * listed ≡ 2 + length (laid rows) = omega arith in
          let next : laid rows ++ row ≡ laid (rows_of minute rs (i + 1)) =
          ap (λ (u : List ℕ). laid rows ++ u) (sym (append-nil row)) ∙ sym (laid_append rows (row_at rs i ∷ [])) ∙ ap laid (sym grown) in
          record {
            behind = subst (λ (xs : List Row). Last xs (Some w)) (sym grown) (last_grows minute rs less records last c.behind new w e);
            many = sym longer;
            few = omega arith;
            size = ap length here ∙ put_length (2 + 5 * listed) row area (omega (arith, c.size)) ∙ c.size;
            words = here ∙ ap (put (2 + 5 * listed) row) c.words ∙ ap (λ (j : ℕ). put j row (put 2 (laid rows) entry)) place
                ∙ put_then_after 2 (laid rows) row entry (omega arith) ∙ ap (λ (u : List ℕ). put 2 u entry) next;
          }

    pub copying_end : length rs ≤ i → 642 ≤ length entry → get_or entry 0 0 ≤ 1 → Copied minute rs entry (set area 1 listed)
    copying_end h long form =
        let rows : List Row = rows_held minute rs in
        let s : RowSet = formed (get_or entry 0 0) rows in
        let e : rows_of minute rs i ≡ rows = all_rows minute rs h in
        let l = laid_here i in
        let few = c.few in
        let is : listing s ≡ rows = formed_listing (get_or entry 0 0) rows in
        let words : area ≡ put 2 (laid (listing s)) entry = c.words ∙ ap (λ (xs : List Row). put 2 (laid xs) entry) (e ∙ sym is) in
        let number : listed ≡ length (listing s) = c.many ∙ ap length (e ∙ sym is) in
        let size : length (laid (listing s)) ≡ 5 * listed = ap (λ (xs : List Row). length (laid xs)) (is ∙ sym e) ∙ l ∙ ap (λ (n : ℕ). 5 * n) (sym c.many) in
        record {
          words = ap (λ (u : List ℕ). set u 1 listed) words ∙ ap (set (put 2 (laid (listing s)) entry) 1) number
              ∙ written_count s entry (omega arith) (formed_word (get_or entry 0 0) rows form);
          few = omega (arith, c.many, ap length e);
        }

-- ---- the count alone

module _ (minute : ℕ) {rs : List (List ℕ)} (records : Records rs) where
  pub counting_start : (spare : ℕ) → 129 + spare ≡ length rs → Counting rs 0 0 spare None (rows_of minute rs 0)
  unfolding Last
  counting_start spare e =
      let none : rows_of minute rs 0 ≡ [] = rows_none minute in
      record { behind = none; many = ap length (sym none); few = omega arith; left = omega (arith, e) }

  module _ (listed spare : ℕ) (last : Option (Bor (List ℕ))) (i : ℕ) (c : Counting rs i listed spare last (rows_of minute rs i)) where
    -- a record that adds no row
    module _ (less : i < length rs) (same : rows_of minute rs (i + 1) ≡ rows_of minute rs i) where
      pub counting_few : spare ≡ 0 → length (rows_held minute rs) ≤ 128
      counting_few e = omega (arith, rows_left minute rs (i + 1), ap length same, c.many, c.left)

      pub counting_same : spare ≢ 0 → Counting rs (i + 1) listed (spare - 1) last (rows_of minute rs (i + 1))
      counting_same n = record {
        behind = subst (λ (xs : List Row). Last xs last) (sym same) c.behind;
        many = c.many ∙ ap length (sym same);
        few = c.few;
        left = omega (arith, c.left);
      }

    module _ (less : i < length rs) (held : holds_at minute (get_or rs i []) ≡ true) (new : MatchOption last (Unit {0}) (λ w. record_row w.now ≢ row_at rs i)) where
      counted : rows_of minute rs (i + 1) ≡ rows_of minute rs i ++ (row_at rs i ∷ [])
      counted = rows_grow minute rs less records last c.behind new held

      one_longer : length (rows_of minute rs (i + 1)) ≡ listed + 1
      one_longer = omega (arith, ap length counted, length-append (rows_of minute rs i) (row_at rs i ∷ []), c.many)

      pub counting_full : listed ≡ 128 → 128 < length (rows_held minute rs)
      counting_full e = too_many minute rs (i + 1) (omega (arith, one_longer))

      pub counting_next : listed < 128 → (w : Bor (List ℕ)) → w.now ≡ get_or rs i [] → Counting rs (i + 1) (listed + 1) spare (Some w) (rows_of minute rs (i + 1))
      counting_next few w e = record {
        behind = subst (λ (xs : List Row). Last xs (Some w)) (sym counted) (last_grows minute rs less records last c.behind new w e);
        many = sym one_longer;
        few = omega arith;
        left = omega (arith, c.left);
      }
