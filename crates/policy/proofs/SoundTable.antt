-- What a sound header, a sound entry and a sound table give.
use Prim.Native.Nat.{ℕ, zero, suc, ◌+◌, ◌*◌, ◌≤◌}
use mathlib.Core.Path.{◌≡◌, refl, ap, subst}
use mathlib.Core.Bool.{true, not}
use mathlib.Core.List.{List, [], ◌∷◌}
use lib.Dec.{T, leb, eqb}
use lib.ListN.{length, get_or}
use borrow.Author.Tests.{leb-true, eqb-true}
use Rattle.refusals.specs.RefusalTable.{bad_header, bad_table}
use Rattle.rows.specs.Name.{is_name, is_polarity}
use Rattle.rows.proofs.Case.{Case, is_true, is_false, split, T_true, and_true}
use Rattle.policy.specs.Format.{is_format, format_of}
use Rattle.policy.specs.Table.{Entry, entry_at, Table, table, refused, named, sound_entry, push_entry, entries, sound_header, read_table}
use Rattle.policy.proofs.Basics.{impossible}

pub record Header (p : List ℕ) : Type 0 where
  pub two : 2 ≤ length p
  pub most : length p ≤ 8192
  pub format : T (is_format (format_of p))
  pub count : get_or p 1 0 ≤ 16
  pub fits : 2 + 4 * get_or p 1 0 ≤ length p

pub header_of_lem : (p : List ℕ) → sound_header p ≡ true → Header p
unfolding sound_header
header_of_lem p e =
    let a = and_true (leb 2 (length p)) _ e in
    let b = and_true (leb (length p) 8192) _ a.1 in
    let c = and_true (is_format (format_of p)) _ b.1 in
    let d = and_true (leb (get_or p 1 0) 16) (leb (2 + 4 * get_or p 1 0) (length p)) c.1 in
    record {
      two = leb-true 2 (length p) a.0;
      most = leb-true (length p) 8192 b.0;
      format = T_true c.0;
      count = leb-true (get_or p 1 0) 16 d.0;
      fits = leb-true (2 + 4 * get_or p 1 0) (length p) d.1;
    }

pub record SoundEntry (p : List ℕ) (due : ℕ) (before : List Entry) (x : Entry) : Type 0 where
  pub name : T (is_name x.name)
  pub polarity : T (is_polarity x.polarity)
  pub starts : x.offset ≡ due
  pub some : 1 ≤ x.size
  pub ends : x.offset + x.size ≤ length p
  pub new : T (not (named before x))

pub sound_of : (p : List ℕ) (due : ℕ) (before : List Entry) (x : Entry) → sound_entry p due before x ≡ true → SoundEntry p due before x
unfolding sound_entry
sound_of p due before x e =
    let a = and_true (is_name x.name) _ e in
    let b = and_true (is_polarity x.polarity) _ a.1 in
    let c = and_true (eqb x.offset due) _ b.1 in
    let d = and_true (leb 1 x.size) _ c.1 in
    let f = and_true (leb (x.offset + x.size) (length p)) (not (named before x)) d.1 in
    record {
      name = T_true a.0;
      polarity = T_true b.0;
      starts = eqb-true x.offset due c.0;
      some = leb-true 1 x.size d.0;
      ends = leb-true (x.offset + x.size) (length p) f.0;
      new = T_true f.1;
    }

-- these entries stand in the table from word `at` on, their parts from word `due` on, with those of `earlier` before them
unfoldable pub InTable : List ℕ → ℕ → ℕ → List Entry → List Entry → Type 0
InTable p at due earlier [] = due ≡ length p
InTable p at due earlier (x ∷ xs) = (x ≡ entry_at p at) × SoundEntry p due earlier x × InTable p (at + 4) (x.offset + x.size) (x ∷ earlier) xs

record Pushed (x : Entry) (t : Table) (xs : List Entry) : Type 0 where
  ys : List Entry
  is : x ∷ ys ≡ xs
  rest : t ≡ table ys

pushed : (x : Entry) (t : Table) (xs : List Entry) → push_entry x t ≡ table xs → Pushed x t xs
unfolding push_entry
pushed x (table ys) xs e = record { ys = ys; is = cc; rest = refl }
pushed x (refused n) xs e = impossible cc

entries_in : (n : ℕ) (p : List ℕ) (at due : ℕ) (earlier xs : List Entry) → entries n p at due earlier ≡ table xs → (length xs ≡ n) × InTable p at due earlier xs
unfolding entries InTable
entries_in zero p at due earlier xs e = go (split (eqb due (length p)))
  where
    go : Case (eqb due (length p)) → (length xs ≡ 0) × InTable p at due earlier xs
    go (is_true s) = let f : [] ≡ xs = (let g : table [] ≡ table xs = rw (s, entries) at e in cc) in subst (λ (l : List Entry). (length l ≡ 0) × InTable p at due earlier l) f (refl, eqb-true due (length p) s)
    go (is_false s) = impossible (let f : refused bad_table ≡ table xs = rw (s, entries) at e in cc)
entries_in (suc n) p at due earlier xs e =
    go (λ ys f. entries_in n p (at + 4) ((entry_at p at).offset + (entry_at p at).size) (entry_at p at ∷ earlier) ys f) (split (sound_entry p due earlier (entry_at p at)))
  where
    go : ((ys : List Entry) → entries n p (at + 4) ((entry_at p at).offset + (entry_at p at).size) (entry_at p at ∷ earlier) ≡ table ys →
        (length ys ≡ n) × InTable p (at + 4) ((entry_at p at).offset + (entry_at p at).size) (entry_at p at ∷ earlier) ys) →
        Case (sound_entry p due earlier (entry_at p at)) → (length xs ≡ suc n) × InTable p at due earlier xs
    go ih (is_true s) =
        let t = pushed (entry_at p at) _ xs (rw (s, entries) at e) in
        let u = ih t.ys t.rest in
        subst (λ (l : List Entry). (length l ≡ suc n) × InTable p at due earlier l) t.is (ap suc u.0, (refl, sound_of p due earlier (entry_at p at) s, u.1))
    go ih (is_false s) = impossible (let f : refused bad_table ≡ table xs = rw (s, entries) at e in cc)

pub record SoundTable (p : List ℕ) (xs : List Entry) : Type 0 where
  pub header : Header p
  pub count : length xs ≡ get_or p 1 0
  pub entries : InTable p 2 (2 + 4 * get_or p 1 0) [] xs

pub table_sound : (p : List ℕ) (xs : List Entry) → read_table p ≡ table xs → SoundTable p xs
unfolding read_table
table_sound p xs e = go (split (sound_header p))
  where
    go : Case (sound_header p) → SoundTable p xs
    go (is_true h) =
        let t = entries_in (get_or p 1 0) p 2 (2 + 4 * get_or p 1 0) [] xs (rw (h, read_table) at e) in
        record { header = header_of_lem p h; count = t.0; entries = t.1 }
    go (is_false h) = impossible (let f : refused bad_header ≡ table xs = rw (h, read_table) at e in cc)
