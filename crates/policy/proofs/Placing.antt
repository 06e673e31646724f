-- The words of a policy made of entries and expressions are read as the table that they were made from.
use Prim.Native.Nat.{ℕ, suc, ◌+◌, ◌*◌, ◌≤◌}
use mathlib.Core.Path.{◌≡◌, refl, sym, ◌∙◌, ap, subst}
use mathlib.Core.Bool.{Bool, true, false, not}
use mathlib.Core.List.{List, [], ◌∷◌, ◌++◌}
use native.Mathlib.Omega.{arith}
use native.Mathlib.Nat.{add-zero}
use lib.Dec.{T, leb, eqb, le→leb}
use lib.ListN.{length, get_or, drop, length-append}
use lib.Seq.{drop-drop, drop_at, get_or-drop}
use borrow.Author.Tests.{eq-eqb}
use Rattle.refusals.specs.RefusalTable.{bad_header, bad_table}
use Rattle.rows.specs.Name.{is_name, is_polarity}
use Rattle.rows.proofs.Case.{T_true, true_T, T_and}
use Rattle.policy.specs.Syntax.{Expr, leaf, union, difference, comprehension}
use Rattle.policy.specs.Words.{each, expr_words}
use Rattle.policy.specs.Format.{is_format, format_of}
use Rattle.policy.specs.Table.{Entry, entry_at, Table, table, refused, named, sound_entry, push_entry, entries, sound_header, read_table}
use Rattle.policy.specs.External.{moved, placed, entry_four, parts, policy_words}
use Rattle.policy.proofs.SoundTable.{InTable, SoundTable}

-- the words of the rewritten policy are read as the table that they were made from

words_some : (e : Expr) → 1 ≤ length (expr_words e 0)
unfolding expr_words
words_some (leaf x) = omega arith
words_some (union a b) = omega arith
words_some (difference a b) = omega arith
words_some (comprehension b) = omega arith

-- two lists of entries that hold the same names
abbrev Alike : List Entry → List Entry → Type 0
Alike xs ys = (x y : Entry) → x.name ≡ y.name → x.polarity ≡ y.polarity → named xs x ≡ named ys y

alike_none : Alike [] []
unfolding named
alike_none x y a b = refl

alike_one : (xs ys : List Entry) (x y : Entry) → x.name ≡ y.name → x.polarity ≡ y.polarity → Alike xs ys → Alike (x ∷ xs) (y ∷ ys)
unfolding named
alike_one xs ys x y a b h u v c d = rw (h u v c d, a, b, c, d)

placed_sound : (policy : List ℕ) (due : ℕ) (earlier : List Entry) (y : Entry) → T (is_name y.name) → T (is_polarity y.polarity) → T (not (named earlier y)) →
    y.offset ≡ due → 1 ≤ y.size → due + y.size ≤ length policy → T (sound_entry policy due earlier y)
unfolding sound_entry
placed_sound policy due earlier y a b c o d e =
    (T_and (is_name y.name) _).1 (
      a,
      (T_and (is_polarity y.polarity) _).1 (
        b,
        (T_and (eqb y.offset due) _).1 (
          T_true (eq-eqb y.offset due o),
          (T_and (leb 1 y.size) _).1 (le→leb 1 y.size d, (T_and (leb (y.offset + y.size) (length policy)) (not (named earlier y))).1 (le→leb (y.offset + y.size) (length policy) (omega arith), c)),
        ),
      ),
    )

-- the four words of an entry, where they stand
same_entry : (a b c d : ℕ) (y : Entry) → a ≡ y.name → b ≡ y.polarity → c ≡ y.offset → d ≡ y.size → record { name = a; polarity = b; offset = c; size = d } ≡ y
same_entry a b c d y e f g h = rw (e, f, g, h)

entry_at_lem : (policy : List ℕ) (at : ℕ) (y : Entry) (rest : List ℕ) → drop at policy ≡ entry_four y ++ rest → entry_at policy at ≡ y
unfolding entry_at entry_four
entry_at_lem policy at y rest h = same_entry _ _ _ _ y (subst (λ (i : ℕ). get_or policy i 0 ≡ y.name) (add-zero at) (cell 0)) (cell 1) (cell 2) (cell 3)
  where
    cell : (i : ℕ) → get_or policy (at + i) 0 ≡ get_or (entry_four y ++ rest) i 0
    cell i = sym (get_or-drop at policy i 0) ∙ ap (λ (ws : List ℕ). get_or ws i 0) h

pub parts_more : (e : Expr) (es : List Expr) → length (parts (e ∷ es)) ≡ length (expr_words e 0) + length (parts es)
unfolding parts each
parts_more e es = length-append (expr_words e 0) (parts es)

not_named : (xs ys : List Entry) (x y : Entry) → named xs x ≡ named ys y → T (not (named xs x)) → T (not (named ys y))
not_named xs ys x y e t = subst (λ (b : Bool). T (not b)) e t

-- one entry that keeps the rules, before entries that are read
one_entry : (n : ℕ) (policy : List ℕ) (at due : ℕ) (earlier : List Entry) (y : Entry) (ys : List Entry) → entry_at policy at ≡ y → T (sound_entry policy due earlier y) →
    entries n policy (at + 4) (y.offset + y.size) (y ∷ earlier) ≡ table ys → entries (suc n) policy at due earlier ≡ table (y ∷ ys)
unfolding entries push_entry
one_entry n policy at due earlier y ys h s f =
    subst (λ (x : Entry). (elim (sound_entry policy due earlier x) as (λ c. Table) [
      | true ↦ push_entry x (entries n policy (at + 4) (x.offset + x.size) (x ∷ earlier))
      | false ↦ refused bad_table
    ]) ≡ table (y ∷ ys)) (sym h)
    (subst (λ (b : Bool). (elim b as (λ c. Table) [
      | true ↦ push_entry y (entries n policy (at + 4) (y.offset + y.size) (y ∷ earlier))
      | false ↦ refused bad_table
    ]) ≡ table (y ∷ ys)) (sym (true_T (sound_entry policy due earlier y) s)) (ap (push_entry y) f))

entries_placed : (xs : List Entry) (es : List Expr) (policy : List ℕ) (at due : ℕ) (rest : List ℕ) (old new : List Entry) → Alike old new → (p : List ℕ) (was by : ℕ) → InTable p was by old xs → length xs ≡ length es →
    drop at policy ≡ each entry_four (placed due xs es) ++ rest → length policy ≡ due + length (parts es) → entries (length xs) policy at due new ≡ table (placed due xs es)
unfolding entries InTable placed parts each entry_four
entries_placed [] [] policy at due rest old new alike p was by fine l h m =
    subst (λ (b : Bool). (elim b as (λ c. Table) [ true ↦ table [] | false ↦ refused bad_table ]) ≡ table []) (sym (eq-eqb due (length policy) (omega arith))) refl
entries_placed [] (e ∷ es) policy at due rest old new alike p was by fine l h m = absurd (omega arith)
entries_placed (x ∷ xs) [] policy at due rest old new alike p was by fine l h m = absurd (omega arith)
entries_placed (x ∷ xs) (e ∷ es) policy at due rest old new alike p was by fine l h m =
    let size = length (expr_words e 0) in
    let here = moved x due size in
    let longer : length policy ≡ due + size + length (parts es) = omega (arith, m, parts_more e es) in
    one_entry (length xs) policy at due new here (placed (due + size) xs es) (entry_at_lem policy at here (each entry_four (placed (due + size) xs es) ++ rest) h)
    (placed_sound policy due new here fine.1.name fine.1.polarity (not_named old new x here (alike x here refl refl) fine.1.new) refl (words_some e) (omega arith))
    (entries_placed xs es policy (at + 4) (due + size) rest (x ∷ old) (here ∷ new) (alike_one old new x here refl refl alike) p (was + 4) (x.offset + x.size) fine.2 (omega arith)
    (sym (drop-drop 4 at policy) ∙ ap (λ (ws : List ℕ). drop 4 ws) h) longer)

pub cells_length : (due : ℕ) (xs : List Entry) (es : List Expr) → length xs ≡ length es → length (each entry_four (placed due xs es)) ≡ 4 * length xs
unfolding placed each entry_four
cells_length due [] [] l = refl
cells_length due [] (e ∷ es) l = absurd (omega arith)
cells_length due (x ∷ xs) [] l = absurd (omega arith)
cells_length due (x ∷ xs) (e ∷ es) l = omega (arith, cells_length (due + length (expr_words e 0)) xs es (omega arith))

pub policy_length : (format : ℕ) (xs : List Entry) (es : List Expr) → length xs ≡ length es → length (policy_words format xs es) ≡ 2 + 4 * length xs + length (parts es)
unfolding policy_words
policy_length format xs es l =
    omega (arith, length-append (each entry_four (placed (2 + 4 * length xs) xs es)) (parts es), cells_length (2 + 4 * length xs) xs es l)

pub table_read : (policy : List ℕ) (xs : List Entry) (es : List Expr) → SoundTable policy xs → length xs ≡ length es → length (policy_words (format_of policy) xs es) ≤ 8192 →
    read_table (policy_words (format_of policy) xs es) ≡ table (placed (2 + 4 * length xs) xs es)
unfolding read_table sound_header policy_words
table_read policy xs es h l short =
    let few : length xs ≤ 16 = omega (arith, h.count, h.header.count) in
    let format = format_of policy in
    let size = policy_length format xs es l in
    let n = length (policy_words format xs es) in
    let header : T (sound_header (policy_words format xs es)) =
    (T_and (leb 2 n) _).1 (
      le→leb 2 n (omega arith),
      (T_and (leb n 8192) _).1 (
        le→leb n 8192 short,
        (T_and (is_format format) _).1 (
          h.header.format,
          (T_and (leb (length xs) 16) (leb (2 + 4 * length xs) n)).1 (le→leb (length xs) 16 few, le→leb (2 + 4 * length xs) n (omega arith)),
        ),
      ),
    ) in
    subst (λ (b : Bool). (elim b as (λ c. Table) [
      | true ↦ entries (length xs) (policy_words format xs es) 2 (2 + 4 * length xs) []
      | false ↦ refused bad_header
    ]) ≡ table (placed (2 + 4 * length xs) xs es)) (sym (true_T (sound_header (policy_words format xs es)) header))
    (entries_placed xs es (policy_words format xs es) 2 (2 + 4 * length xs) (parts es) [] [] alike_none policy 2 (2 + 4 * get_or policy 1 0) h.entries l refl size)

-- where the parts stand
pub parts_at : (format : ℕ) (xs : List Entry) (es : List Expr) → length xs ≡ length es → drop (2 + 4 * length xs) (policy_words format xs es) ≡ parts es
unfolding policy_words
parts_at format xs es l =
    drop_at (format ∷ length xs ∷ each entry_four (placed (2 + 4 * length xs) xs es)) (parts es) (2 + 4 * length xs) (omega (arith, cells_length (2 + 4 * length xs) xs es l))
