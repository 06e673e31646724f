-- The reader of the table, way out by way out, and what a sound table gives.
use Prim.Native.Nat.{ℕ, zero, suc, ◌+◌, ◌*◌, ◌-◌, ◌≤◌, ◌<◌}
use mathlib.Core.Path.{◌≡◌, refl, sym, ◌∙◌, ap}
use mathlib.Core.Bool.{Bool, true, false, not}
use mathlib.Core.List.{List, [], ◌∷◌}
use native.Mathlib.Omega.{arith}
use lib.Dec.{eqb, leb→le}
use Rattle.std.proofs.Common.{Option, Some, None, MatchOption}
use Rattle.std.specs.Option.{is_some}
use Rattle.std.proofs.lemmas.Bool.{false≢true}
use Rattle.rows.specs.Name.{Polarity, polarity_of}
use Rattle.policy.specs.OwnKey.{definition_of}
use Rattle.policy_table.proofs.Declared.{none_named}
use lib.ListN.{length, get_or}
use borrow.Author.Tests.{le-leb, eq-eqb, ne_eqb}
use Rattle.rows.specs.Word.{All}
use Rattle.refusals.specs.RefusalTable.{bad_header, bad_table}
use Rattle.policy.specs.Table.{Entry, entry_at, Table, table, refused, named, sound_entry, push_entry, entries, sound_header, read_table}
use Rattle.policy.proofs.SoundTable.{Header, header_of_lem, sound_of}
use Rattle.policy_table.specs.Entries.{entry_place, entries_from, entries_before, Polarized, declared_in}

-- an entry that keeps the rules of its own words is sound if no earlier one has its name and polarity
module _ (p : List ℕ) (due i : ℕ) (x : Entry) (q : Polarity) (at : ℕ) where
  pub sound_if_new : (r : Option ℕ) (b : Bool) → x ≡ entry_at p at → at ≡ entry_place i → due ≤ length p → All Polarized (entries_before p i) →
      x.name ≤ 65535 → x.polarity ≤ 1 → x.offset ≡ due → (x.size ≡ 0 → ⊥) → x.size ≤ length p - due → q ≡ polarity_of x.polarity →
      MatchOption r (definition_of (declared_in p i) x.name q ≡ i) (λ d. (d < i) × (definition_of (declared_in p i) x.name q ≡ d)) →
      is_some r ≡ not b → b ≡ sound_entry p due (entries_before p i) (entry_at p (entry_place i))
  unfolding sound_entry
  sound_if_new r b read place l earlier name polarity offset some fits sign found none =
      let here : entry_at p (entry_place i) ≡ x = rw (← place) (sym read) in
      let new : eqb (definition_of (declared_in p i) x.name q) i ≡ not (named (entries_before p i) x) = rw sign (none_named p i x earlier polarity) in
      rw (here, le-leb x.name 65535 name, le-leb x.polarity 1 polarity, eq-eqb x.offset due offset, le-leb 1 x.size (omega arith), le-leb (x.offset + x.size) (length p) (omega arith))
      (told r b found none ∙ new)
    where
      told : (r : Option ℕ) (b : Bool) → MatchOption r (definition_of (declared_in p i) x.name q ≡ i) (λ d. (d < i) × (definition_of (declared_in p i) x.name q ≡ d)) →
          is_some r ≡ not b → b ≡ eqb (definition_of (declared_in p i) x.name q) i
      told None true e n = sym (eq-eqb _ _ e)
      told None false e n = absurd (false≢true n)
      told (Some d) true e n = absurd (false≢true (sym n))
      told (Some d) false e n = sym (ne_eqb _ _ (λ f. absurd (omega (arith, e.0, e.1, f))))

-- entries put in front of a table, the nearest first
pub put_back : List Entry → Table → Table
put_back [] t = t
put_back (x ∷ xs) t = put_back xs (push_entry x t)

back_refused : (xs : List Entry) (m : ℕ) → put_back xs (refused m) ≡ refused m
unfolding put_back push_entry
back_refused [] m = refl
back_refused (x ∷ xs) m = back_refused xs m

back_table : (p : List ℕ) (i m : ℕ) → put_back (entries_before p i) (table (entries_from m p (entry_place i))) ≡ table (entries_from (i + m) p 2)
unfolding put_back push_entry entries_before entries_from
back_table p zero m = let e : m ≡ 0 + m = omega arith in ap (λ n. table (entries_from n p 2)) e
back_table p (suc i) m =
    let e : entry_place (suc i) ≡ entry_place i + 4 = omega arith in
    let f : i + suc m ≡ suc i + m = omega arith in
    ap (λ a. put_back (entries_before p i) (table (entry_at p (entry_place i) ∷ entries_from m p a))) e ∙ (back_table p i (suc m) ∙ ap (λ n. table (entries_from n p 2)) f)

-- the first i entries are sound, and the next part is due at word `due`
pub record Reading (p : List ℕ) (i due : ℕ) : Type 0 where
  pub header : Header p
  pub rest : read_table p ≡ put_back (entries_before p i) (entries (get_or p 1 0 - i) p (entry_place i) due (entries_before p i))
  pub polarized : All Polarized (entries_before p i)
  pub within : due ≤ length p
  pub few : i ≤ get_or p 1 0

pub unsound_header_refused : (p : List ℕ) → sound_header p ≡ false → refused bad_header ≡ read_table p
unfolding read_table
unsound_header_refused p e = sym (ap (λ b. elim b as (λ c. Table) [ true ↦ entries (get_or p 1 0) p 2 (2 + 4 * get_or p 1 0) [] | false ↦ refused bad_header ]) e)

pub none_read : (p : List ℕ) (due : ℕ) → sound_header p ≡ true → due ≡ entry_place (get_or p 1 0) → Reading p 0 due
unfolding read_table put_back entries_before All
none_read p due e d =
    let f : get_or p 1 0 ≡ get_or p 1 0 - 0 = omega arith in
    record {
      header = header_of_lem p e;
      rest = ap (λ b. elim b as (λ c. Table) [ true ↦ entries (get_or p 1 0) p 2 (2 + 4 * get_or p 1 0) [] | false ↦ refused bad_header ]) e ∙ (ap (λ a. entries (get_or p 1 0) p 2 a []) (sym d) ∙ ap (λ n. entries n p 2 due []) f);
      polarized = tt;
      within = omega (arith, (header_of_lem p e).fits);
      few = omega arith;
    }

module _ (p : List ℕ) (i due : ℕ) (r : Reading p i due) (more : i < get_or p 1 0) where
  next : Entry
  next = entry_at p (entry_place i)

  one_entry : (b : Bool) → sound_entry p due (entries_before p i) next ≡ b →
      read_table p ≡ put_back (entries_before p i) (elim b [ true ↦ push_entry next (entries (get_or p 1 0 - (i + 1)) p (entry_place i + 4) (next.offset + next.size) (next ∷ entries_before p i)) | false ↦ refused bad_table ])
  unfolding entries next
  one_entry b e =
      let f : get_or p 1 0 - i ≡ suc (get_or p 1 0 - (i + 1)) = omega arith in
      r.rest
      ∙ (ap (λ n. put_back (entries_before p i) (entries n p (entry_place i) due (entries_before p i))) f
      ∙ ap (λ b. put_back (entries_before p i) (elim b as (λ c. Table) [
        | true ↦ push_entry (entry_at p (entry_place i)) (entries (get_or p 1 0 - (i + 1)) p (entry_place i + 4) ((entry_at p (entry_place i)).offset + (entry_at p (entry_place i)).size) (entry_at p (entry_place i) ∷ entries_before p i))
        | false ↦ refused bad_table
      ])) e)

  pub unsound_entry_refused : sound_entry p due (entries_before p i) (entry_at p (entry_place i)) ≡ false → refused bad_table ≡ read_table p
  unfolding next
  unsound_entry_refused e = sym (one_entry false e ∙ back_refused (entries_before p i) bad_table)

  -- the entry is sound, and was read from `at`
  module _ (e : sound_entry p due (entries_before p i) (entry_at p (entry_place i)) ≡ true) {at : ℕ} (a : at ≡ entry_place i) (x : Entry) (is : x ≡ entry_at p at) where
    is_next : x ≡ entry_at p (entry_place i)
    is_next = is ∙ ap (λ (k : ℕ). entry_at p k) a

    pub ends_within : due + x.size ≤ length p
    ends_within = let s = sound_of p due (entries_before p i) x (rw is_next e) in omega (arith, s.starts, s.ends)

    pub sound_entry_read : Reading p (i + 1) (due + x.size)
    unfolding put_back entries_before next All
    sound_entry_read =
        let s = sound_of p due (entries_before p i) (entry_at p (entry_place i)) e in
        let f : i + 1 ≡ suc i = omega arith in
        let g : entry_place i + 4 ≡ entry_place (suc i) = omega arith in
        let z : (entry_at p (entry_place i)).size ≡ x.size = ap (λ (y : Entry). y.size) (sym is_next) in
        let h : (entry_at p (entry_place i)).offset + (entry_at p (entry_place i)).size ≡ due + x.size = omega (arith, s.starts, z) in
        record {
          header = r.header;
          rest = one_entry true e ∙ rw (f, g, h) refl;
          polarized = rw (f) (leb→le (entry_at p (entry_place i)).polarity 1 s.polarity, r.polarized);
          within = ends_within;
          few = omega arith;
        }

module _ (p : List ℕ) (i due : ℕ) (r : Reading p i due) (done : get_or p 1 0 ≤ i) where
  at_last : (b : Bool) → eqb due (length p) ≡ b → read_table p ≡ put_back (entries_before p i) (elim b [ true ↦ table [] | false ↦ refused bad_table ])
  unfolding entries
  at_last b e =
      let f : get_or p 1 0 - i ≡ 0 = omega arith in
      r.rest ∙ (ap (λ n. put_back (entries_before p i) (entries n p (entry_place i) due (entries_before p i))) f ∙ ap (λ b. put_back (entries_before p i) (elim b as (λ c. Table) [ true ↦ table [] | false ↦ refused bad_table ])) e)

  pub table_ends : due ≡ length p → table (entries_from (get_or p 1 0) p 2) ≡ read_table p
  unfolding entries_from
  table_ends e =
      let f : i + 0 ≡ get_or p 1 0 = omega (arith, r.few) in
      sym (at_last true (eq-eqb due (length p) e) ∙ (back_table p i 0 ∙ ap (λ n. table (entries_from n p 2)) f))

  pub table_left_over : (due ≡ length p → ⊥) → refused bad_table ≡ read_table p
  table_left_over e = sym (at_last false (ne_eqb due (length p) e) ∙ back_refused (entries_before p i) bad_table)
