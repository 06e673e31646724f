-- The parts of a policy: what a sound table says of them, and where the code finds them.
use Prim.Native.Nat.{ℕ, zero, suc, ◌+◌, ◌-◌, ◌*◌, ◌≤◌, ◌<◌}
use mathlib.Core.Path.{◌≡◌, refl, sym, ◌∙◌, ap, subst}
use mathlib.Core.List.{List, [], ◌∷◌}
use native.Mathlib.Omega.{arith}
use lib.Dec.{ltb, eqb}
use lib.ListN.{length, get_or, take, drop}
use borrow.Author.Tests.{eq-eqb, ne_eqb, lt-ltb, le-ltb, ltb-true}
use Rattle.rows.specs.Word.{All}
use Rattle.rows.proofs.Case.{Case, is_true, is_false, split}
use Rattle.rows.proofs.Lists.{all_at}
use Rattle.policy.specs.Table.{Entry, entry_at, Table, table, refused, read_table}
use Rattle.policy.specs.Part.{in_policy, whole_query, nowhere, no_entry, span_among, part_span, words_at, part_words}
use Rattle.policy.specs.Part as Part
use Rattle.policy_table.specs.Entries.{entry_place, Inside, entries_from}
use Rattle.policy_table.specs.Spans.{part_span_is}
use Rattle.policy_table.specs.declared.parts.PartSpan as Held
use Rattle.policy_table.specs.declared.parts.PartSpan.TheVariants as span
use Rattle.policy.proofs.Basics.{impossible}
use Rattle.policy.proofs.SoundTable.{Header, InTable, table_sound}

pub length_entries : (n : ℕ) (policy : List ℕ) (at : ℕ) → length (entries_from n policy at) ≡ n
unfolding entries_from
length_entries zero policy at = refl
length_entries (suc n) policy at = ap suc (length_entries n policy (at + 4))

-- the entries by their places, each with its part inside the policy
in_places : (p : List ℕ) (at due : ℕ) (earlier xs : List Entry) → InTable p at due earlier xs → xs ≡ entries_from (length xs) p at
unfolding InTable entries_from
in_places p at due earlier [] h = refl
in_places p at due earlier (x ∷ xs) h = rw (← h.0) (ap (λ (ys : List Entry). x ∷ ys) (in_places p (at + 4) (x.offset + x.size) (x ∷ earlier) xs h.2))

in_parts : (p : List ℕ) (at due : ℕ) (earlier xs : List Entry) → InTable p at due earlier xs → All (Inside p) xs
unfolding InTable All
in_parts p at due earlier [] h = tt
in_parts p at due earlier (x ∷ xs) h = (h.1.ends, in_parts p (at + 4) (x.offset + x.size) (x ∷ earlier) xs h.2)

pub record TableParts (policy : List ℕ) (xs : List Entry) : Type 0 where
  pub header : Header policy
  pub are : xs ≡ entries_from (get_or policy 1 0) policy 2
  pub count : length xs ≡ get_or policy 1 0
  pub parts : All (Inside policy) xs

pub table_parts : (policy : List ℕ) (xs : List Entry) → read_table policy ≡ table xs → TableParts policy xs
table_parts policy xs e =
    let t = table_sound policy xs e in
    let due = 2 + 4 * get_or policy 1 0 in
    record {
      header = t.header;
      are = in_places policy 2 due [] xs t.entries ∙ ap (λ (n : ℕ). entries_from n policy 2) t.count;
      count = t.count;
      parts = in_parts policy 2 due [] xs t.entries;
    }

-- ---- parts

pub entry_in : (n : ℕ) (policy : List ℕ) (at d : ℕ) → d < n → get_or (entries_from n policy at) d no_entry ≡ entry_at policy (at + 4 * d)
unfolding entries_from
entry_in zero policy at d h = absurd (omega arith)
entry_in (suc n) policy at zero h = ap (entry_at policy) (let e : at ≡ at + 4 * 0 = omega arith in e)
entry_in (suc n) policy at (suc d) h = entry_in n policy (at + 4) d (omega arith) ∙ ap (entry_at policy) (let e : at + 4 + 4 * d ≡ at + 4 * suc d = omega arith in e)

-- a table of n definitions
pub record Listed (p : List ℕ) (n : ℕ) : Type 0 where
  pub few : n ≤ 16
  pub fits : entry_place n ≤ length p
  pub parts : (i : ℕ) → i < n → Inside p (entry_at p (entry_place i))

pub listed_of : (p : List ℕ) (n : ℕ) → table (entries_from n p 2) ≡ read_table p → Listed p n
listed_of p n e =
    let t = table_parts p (entries_from n p 2) (sym e) in
    let c : n ≡ get_or p 1 0 = sym (length_entries n p 2) ∙ t.count in
    record {
      few = omega (arith, t.header.count);
      fits = omega (arith, t.header.fits);
      parts = λ i h. subst (Inside p) (entry_in n p 2 i h) (all_at (Inside p) (entries_from n p 2) t.parts i no_entry (omega (arith, length_entries n p 2)));
    }

pub span_none : (policy : List ℕ) (number n : ℕ) → refused n ≡ read_table policy → in_policy 0 0 ≡ part_span policy number
unfolding part_span nowhere
span_none policy number n e = rw (← e, part_span)

module _ (policy : List ℕ) (number count : ℕ) (sound : table (entries_from count policy 2) ≡ read_table policy) where
  pub span_query : number ≡ 16 → whole_query ≡ part_span policy number
  unfolding part_span span_among
  span_query q = rw (← sound, part_span) (rw (eq-eqb number 16 q, span_among))

  module _ (other : number ≡ 16 → ⊥) where
    pub span_past : count ≤ number → in_policy 0 0 ≡ part_span policy number
    unfolding part_span span_among nowhere
    span_past h = rw (← sound, part_span) (rw (ne_eqb number 16 other, le-ltb number (length (entries_from count policy 2)) (omega (arith, length_entries count policy 2)), span_among))

    pub span_entry : number < count → (x : Entry) → x ≡ entry_at policy (entry_place number) → in_policy x.offset x.size ≡ part_span policy number
    unfolding part_span span_among
    span_entry h x is =
        let y : get_or (entries_from count policy 2) number no_entry ≡ entry_at policy (2 + 4 * number) = entry_in count policy 2 number h in
        rw (← sound, part_span) (rw (ne_eqb number 16 other, lt-ltb number (length (entries_from count policy 2)) (omega (arith, length_entries count policy 2)), span_among)
        (ap (λ (z : Entry). in_policy z.offset z.size) (is ∙ sym y)))

-- a part lies inside the policy
in_policy_lem : (a b c d : ℕ) → in_policy a b ≡ in_policy c d → (a ≡ c) × (b ≡ d)
in_policy_lem a b c d e = (cc, cc)

pub span_inside : (policy : List ℕ) (number start size : ℕ) → in_policy start size ≡ part_span policy number → start + size ≤ length policy
unfolding part_span span_among nowhere
span_inside policy number start size e = go (read_table policy) refl (split (eqb number 16))
  where
    go : (t : Table) → read_table policy ≡ t → Case (eqb number 16) → start + size ≤ length policy
    go (refused n) f b =
        let g : in_policy start size ≡ in_policy 0 0 = rw (f, part_span) at e in
        let z = in_policy_lem start size 0 0 g in
        let z₀ = z.0 in
        let z₁ = z.1 in
        omega arith
    go (table xs) f (is_true b) = impossible (let g : in_policy start size ≡ whole_query = rw (b, span_among) at (rw (f, part_span) at e) in cc)
    go (table xs) f (is_false b) = pick (split (ltb number (length xs)))
      where
        pick : Case (ltb number (length xs)) → start + size ≤ length policy
        pick (is_true l) =
            let g : in_policy start size ≡ in_policy (get_or xs number no_entry).offset (get_or xs number no_entry).size = rw (b, l, span_among) at (rw (f, part_span) at e) in
            let z = in_policy_lem start size _ _ g in
            let z₀ = z.0 in
            let z₁ = z.1 in
            let p = all_at (Inside policy) xs (table_parts policy xs f).parts number no_entry (ltb-true number (length xs) l) in
            omega arith
        pick (is_false l) =
            let g : in_policy start size ≡ in_policy 0 0 = rw (b, l, span_among) at (rw (f, part_span) at e) in
            let z = in_policy_lem start size 0 0 g in
            let z₀ = z.0 in
            let z₁ = z.1 in
            omega arith

-- the words of a part
pub query_part_lem : (policy query : List ℕ) (number : ℕ) → whole_query ≡ part_span policy number → query ≡ part_words policy query number
unfolding part_words words_at
query_part_lem policy query number e = ap (words_at policy query) e

pub policy_part : (policy query : List ℕ) (number start size : ℕ) → in_policy start size ≡ part_span policy number → take (start + size - start) (drop start policy) ≡ part_words policy query number
unfolding part_words words_at
policy_part policy query number start size e =
    ap (λ (n : ℕ). take n (drop start policy)) (let m : start + size - start ≡ size = omega arith in m) ∙ ap (words_at policy query) e

-- a span in hand
pub span_held : (p : Part.PartSpan) (r : Held.PartSpan) (start size : ℕ) → part_span_is r ≡ p → r ≡ span.InPolicy start size → in_policy start size ≡ p
unfolding part_span_is
span_held p r start size e is = ap part_span_is (sym is) ∙ e

pub query_held : (p : Part.PartSpan) (r : Held.PartSpan) → part_span_is r ≡ p → r ≡ span.WholeQuery → whole_query ≡ p
unfolding part_span_is
query_held p r e is = ap part_span_is (sym is) ∙ e
