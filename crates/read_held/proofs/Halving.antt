-- A search by halving among a name's records, the records of one row, and whether two records have one row.
use Rattle.std.proofs.Common.{ℕ, ◌≡◌, ◌≢◌, ◌-◌, ◌+◌, ◌≤◌, ◌<◌, true, false, List, [], length, get_or, take, drop, refl, sym, ◌∙◌, ap, subst, arith, None, Some}
use lib.Dec.{ltb}
use lib.Seq.{take_all, get_or-take, get_or-drop}
use borrow.Author.Tests.{ltb-true, ltb-false}
use Rattle.std.specs.declared.cmp.Ordering.{Ordering}
use Rattle.std.specs.declared.cmp.Ordering.TheVariants.{Less, Equal, Greater}
use Rattle.rows.specs.Row.{Row, row_before}
use Rattle.rows.specs.Layout.{row_in, row_words, five_at}
use Rattle.rows.proofs.Case.{Case, is_true, is_false, split, never}
use Rattle.rows.proofs.Order.{row_order, least_then_less, less_then_least}
use Rattle.rows.proofs.LayoutLaws.{row_written}
use Rattle.row_words.specs.Values.{ordering_for}
use Rattle.row_words.proofs.Orderings.{less_before, equal_same, greater_after}
use Rattle.row_words.proofs.RowLaws.{sound_narrow, front_next}
use Rattle.certificates.specs.Certificate.{record_row, sound_record, holds_at}
use Rattle.certificates.proofs.Sound.{sound_record_lem, five_long}
use Rattle.read_held.specs.Held.{Records, row_at, SayRecord, SayBeside}

-- a sound record's row is written as its words say: its unused atoms are 0
words_of : (w : List ℕ) → sound_record w ≡ true → five_at w 3 ≡ row_words (record_row w)
words_of w sound = let r = sound_record_lem w sound in sym (row_written (five_at w 3) (five_long w r.ten) r.row)

word_at : (w : List ℕ) (j : ℕ) → j < 5 → get_or (five_at w 3) j 0 ≡ get_or w (3 + j) 0
word_at w j h = get_or-take 5 (drop 3 w) j 0 h ∙ get_or-drop 3 w j 0

module _ (a b : List ℕ) (sound_a : sound_record a ≡ true) (sound_b : sound_record b ≡ true) where
  words_same : record_row a ≡ record_row b → five_at a 3 ≡ five_at b 3
  words_same e = words_of a sound_a ∙ ap row_words e ∙ sym (words_of b sound_b)

  module _ (j : ℕ) where
    long : (w : List ℕ) → sound_record w ≡ true → length (five_at w 3) ≡ 5
    long w sound = five_long w (sound_record_lem w sound).ten

    -- a word differs: then the rows do
    pub words_differ : j < 5 → (get_or a (3 + j) 0 ≡ get_or b (3 + j) 0 → ⊥) → record_row a ≢ record_row b
    words_differ h n e = n (sym (word_at a j h) ∙ ap (λ ws. get_or ws j 0) (words_same e) ∙ word_at b j h)

    pub words_on : j < 5 → take j (five_at a 3) ≡ take j (five_at b 3) → get_or a (3 + j) 0 ≡ get_or b (3 + j) 0 → take (j + 1) (five_at a 3) ≡ take (j + 1) (five_at b 3)
    words_on h front e = front_next (five_at a 3) (five_at b 3) j front (omega (arith, long a sound_a)) (omega (arith, long b sound_b)) (word_at a j h ∙ e ∙ sym (word_at b j h))

    pub words_end : 5 ≤ j → take j (five_at a 3) ≡ take j (five_at b 3) → record_row a ≡ record_row b
    words_end h front =
        ap row_in (sym (take_all j (five_at a 3) (omega (arith, long a sound_a))) ∙ front ∙ take_all j (five_at b 3) (omega (arith, long b sound_b)))

  -- the first atoms differ: then the rows do
  pub firsts_differ : (get_or a 4 0 ≡ get_or b 4 0 → ⊥) → record_row a ≢ record_row b
  firsts_differ n e = n (sym (word_at a 1 (omega arith)) ∙ ap (λ ws. get_or ws 1 0) (words_same e) ∙ word_at b 1 (omega arith))

-- rows below `low` come before x, those from `high` on behind it
pub record Halving (rs : List (List ℕ)) (x : Row) (low high : ℕ) : Type 0 where
  pub order : low ≤ high
  pub end : high ≤ length rs
  pub before : (l : ℕ) → l < low → row_before (row_at rs l) x ≡ true
  pub behind : (l : ℕ) → high ≤ l → l < length rs → row_before x (row_at rs l) ≡ true

-- the rows from j up to i are those of record i, and of these records none before it holds
pub record Before (minute : ℕ) (rs : List (List ℕ)) (i j : ℕ) : Type 0 where
  pub few : j ≤ i
  pub alike : (l : ℕ) → j ≤ l → l ≤ i → row_at rs l ≡ row_at rs i
  pub none : (l : ℕ) → j ≤ l → l < i → holds_at minute (get_or rs l []) ≡ false

-- none of the records behind record i up to j holds, and all have its row
pub record Behind (minute : ℕ) (rs : List (List ℕ)) (i j : ℕ) : Type 0 where
  pub alike : (l : ℕ) → i ≤ l → l < j → row_at rs l ≡ row_at rs i
  pub none : (l : ℕ) → i < l → l < j → holds_at minute (get_or rs l []) ≡ false

module _ {rs : List (List ℕ)} (records : Records rs) where
  pub row_narrow : (i : ℕ) → i < length rs → get_or (get_or rs i []) 3 0 ≤ 4
  row_narrow i h = sound_narrow (get_or rs i []) 3 (sound_record_lem (get_or rs i []) (records.sound i h)).row

  module _ (x : Row) where
    pub halving_all : Halving rs x 0 (length rs)
    halving_all = record { order = omega arith; end = omega arith; before = λ l h. absurd (omega arith); behind = λ l h k. absurd (omega arith) }

    module _ {low high : ℕ} (s : Halving rs x low high) (m : ℕ) (from : low ≤ m) (below : m < high) {o : Ordering} (compared : o ≡ ordering_for row_before x (row_at rs m)) where
      inside : m < length rs
      inside = let e = s.end in omega arith

      pub halve_before : o ≡ Less → Halving rs x low m
      halve_before e = let k = s.end in record { order = omega arith; end = omega arith; before = s.before; behind = λ l h n. go l h n (split (ltb m l)) }
        where
          here : row_before x (row_at rs m) ≡ true
          here = less_before row_order x (row_at rs m) (sym compared ∙ e)

          go : (l : ℕ) → m ≤ l → l < length rs → Case (ltb m l) → row_before x (row_at rs l) ≡ true
          go l h n (is_true t) = less_then_least row_order x (row_at rs m) (row_at rs l) here (records.climb m l (ltb-true m l t) n)
          go l h n (is_false t) = let q : m ≡ l = omega (arith, ltb-false m l t) in subst (λ (j : ℕ). row_before x (row_at rs j) ≡ true) q here

      pub halve_same : o ≡ Equal → SayRecord rs x (Some m)
      halve_same e = (inside, sym (equal_same row_order x (row_at rs m) (sym compared ∙ e)))

      pub halve_after : o ≡ Greater → Halving rs x (m + 1) high
      halve_after e = record { order = omega arith; end = s.end; before = λ l h. go l h (split (ltb l m)); behind = s.behind }
        where
          here : row_before (row_at rs m) x ≡ true
          here = greater_after row_order x (row_at rs m) (sym compared ∙ e)

          go : (l : ℕ) → l < m + 1 → Case (ltb l m) → row_before (row_at rs l) x ≡ true
          go l h (is_true t) = least_then_less row_order (row_at rs l) (row_at rs m) x (records.climb l m (ltb-true l m t) inside) here
          go l h (is_false t) = let q : m ≡ l = omega (arith, ltb-false l m t) in subst (λ (j : ℕ). row_before (row_at rs j) x ≡ true) q here

    pub halved : {low high : ℕ} → Halving rs x low high → high ≤ low → SayRecord rs x None
    halved {low} {high} s k l h e = go (split (ltb l low))
      where
        go : Case (ltb l low) → ⊥
        go (is_true t) = never (s.before l (ltb-true l low t)) (ap (λ y. row_before y x) e ∙ row_order.irreflexive x)
        go (is_false t) = never (s.behind l (omega (arith, ltb-false l low t)) h) (ap (row_before x) e ∙ row_order.irreflexive x)

  -- ---- the records of a row beside one of them

  -- of two records with other rows the earlier one's comes before
  apart : {i j : ℕ} → i < j → j < length rs → row_at rs j ≢ row_at rs i → row_before (row_at rs i) (row_at rs j) ≡ true
  apart {i} {j} less inside differ = go (split (row_before (row_at rs i) (row_at rs j)))
    where
      go : Case (row_before (row_at rs i) (row_at rs j)) → row_before (row_at rs i) (row_at rs j) ≡ true
      go (is_true t) = t
      go (is_false t) = absurd (differ (row_order.total (row_at rs j) (row_at rs i) (records.climb i j less inside) t))

  pub before_start : (minute i : ℕ) → Before minute rs i i
  before_start minute i = record {
    few = omega arith;
    alike = λ l h k. let e : l ≡ i = omega arith in ap (row_at rs) e;
    none = λ l h k. absurd (omega arith);
  }

  module _ {minute i j : ℕ} (inside : i < length rs) (s : Before minute rs i j) where
    pub before_next : 0 < j → row_at rs (j - 1) ≡ row_at rs i → holds_at minute (get_or rs (j - 1) []) ≡ false → Before minute rs i (j - 1)
    before_next h e f = let k = s.few in record { few = omega arith; alike = λ l m n. same l m n (split (ltb l j)); none = λ l m n. not l m n (split (ltb l j)) }
      where
        same : (l : ℕ) → j - 1 ≤ l → l ≤ i → Case (ltb l j) → row_at rs l ≡ row_at rs i
        same l m n (is_true t) = let q : l ≡ j - 1 = omega (arith, ltb-true l j t) in ap (row_at rs) q ∙ e
        same l m n (is_false t) = s.alike l (ltb-false l j t) n

        not : (l : ℕ) → j - 1 ≤ l → l < i → Case (ltb l j) → holds_at minute (get_or rs l []) ≡ false
        not l m n (is_true t) = let q : l ≡ j - 1 = omega (arith, ltb-true l j t) in ap (λ (k : ℕ). holds_at minute (get_or rs k [])) q ∙ f
        not l m n (is_false t) = s.none l (ltb-false l j t) n

    pub before_end : j ≤ 0 → SayBeside minute rs i 0 i false
    before_end h = record { some = λ e. never refl (sym e); none = λ e l m n r. s.none l (omega arith) n }

    pub before_other : 0 < j → row_at rs (j - 1) ≢ row_at rs i → SayBeside minute rs i 0 i false
    before_other h differ = record { some = λ e. never refl (sym e); none = λ e l m n r. go l n r (split (ltb l j)) }
      where
        last : row_before (row_at rs (j - 1)) (row_at rs i) ≡ true
        last = let k = s.few in let less : j - 1 < i = omega arith in apart less inside (λ e. differ (sym e))

        earlier : (l : ℕ) → l < j → Case (ltb l (j - 1)) → row_before (row_at rs l) (row_at rs i) ≡ true
        earlier l k (is_true t) =
            let f = s.few in
            least_then_less row_order (row_at rs l) (row_at rs (j - 1)) (row_at rs i) (records.climb l (j - 1) (ltb-true l (j - 1) t) (omega arith)) last
        earlier l k (is_false t) = let q : j - 1 ≡ l = omega (arith, ltb-false l (j - 1) t) in subst (λ (n : ℕ). row_before (row_at rs n) (row_at rs i) ≡ true) q last

        go : (l : ℕ) → l < i → row_at rs l ≡ row_at rs i → Case (ltb l j) → holds_at minute (get_or rs l []) ≡ false
        go l n r (is_true t) = never (earlier l (ltb-true l j t) (split (ltb l (j - 1)))) (ap (λ y. row_before y (row_at rs i)) r ∙ row_order.irreflexive (row_at rs i))
        go l n r (is_false t) = s.none l (ltb-false l j t) n

  pub behind_start : (minute i : ℕ) → Behind minute rs i (i + 1)
  behind_start minute i = record {
    alike = λ l h k. let e : l ≡ i = omega arith in ap (row_at rs) e;
    none = λ l h k. absurd (omega arith);
  }

  module _ {minute i j : ℕ} (less : i < j) (s : Behind minute rs i j) where
    pub behind_next : row_at rs j ≡ row_at rs i → holds_at minute (get_or rs j []) ≡ false → Behind minute rs i (j + 1)
    behind_next e f = record { alike = λ l m n. same l m n (split (ltb l j)); none = λ l m n. not l m n (split (ltb l j)) }
      where
        same : (l : ℕ) → i ≤ l → l < j + 1 → Case (ltb l j) → row_at rs l ≡ row_at rs i
        same l m n (is_true t) = s.alike l m (ltb-true l j t)
        same l m n (is_false t) = let q : l ≡ j = omega (arith, ltb-false l j t) in ap (row_at rs) q ∙ e

        not : (l : ℕ) → i < l → l < j + 1 → Case (ltb l j) → holds_at minute (get_or rs l []) ≡ false
        not l m n (is_true t) = s.none l m (ltb-true l j t)
        not l m n (is_false t) = let q : l ≡ j = omega (arith, ltb-false l j t) in ap (λ (k : ℕ). holds_at minute (get_or rs k [])) q ∙ f

    pub behind_end : length rs ≤ j → SayBeside minute rs i (i + 1) (length rs) false
    behind_end h = record { some = λ e. never refl (sym e); none = λ e l m n r. s.none l (omega arith) (omega arith) }

    pub behind_other : j < length rs → row_at rs j ≢ row_at rs i → SayBeside minute rs i (i + 1) (length rs) false
    behind_other h differ = record { some = λ e. never refl (sym e); none = λ e l m n r. go l m n r (split (ltb l j)) }
      where
        first : row_before (row_at rs i) (row_at rs j) ≡ true
        first = apart less h differ

        later : (l : ℕ) → j ≤ l → l < length rs → Case (ltb j l) → row_before (row_at rs i) (row_at rs l) ≡ true
        later l k n (is_true t) = less_then_least row_order (row_at rs i) (row_at rs j) (row_at rs l) first (records.climb j l (ltb-true j l t) n)
        later l k n (is_false t) = let q : j ≡ l = omega (arith, ltb-false j l t) in subst (λ (m : ℕ). row_before (row_at rs i) (row_at rs m) ≡ true) q first

        go : (l : ℕ) → i + 1 ≤ l → l < length rs → row_at rs l ≡ row_at rs i → Case (ltb l j) → holds_at minute (get_or rs l []) ≡ false
        go l m n r (is_true t) = s.none l (omega arith) (ltb-true l j t)
        go l m n r (is_false t) = never (later l (ltb-false l j t) n (split (ltb j l))) (ap (λ y. row_before (row_at rs i) y) r ∙ row_order.irreflexive (row_at rs i))

  pub beside_held : {minute i from end l : ℕ} → l < length rs → row_at rs l ≡ row_at rs i → holds_at minute (get_or rs l []) ≡ true → SayBeside minute rs i from end true
  beside_held {l = l} h e t = record { some = λ q. (l, h, e, t); none = λ q. never refl q }
