-- Sets in an area: where one lies, what stays, and parts of the area that are lent come back.
use Prim.Native.Nat.{ℕ, ◌+◌, ◌-◌, ◌≤◌}
use mathlib.Core.Path.{◌≡◌, refl, sym, ap, ◌∙◌}
use mathlib.Core.List.{List, ◌++◌, append-nil}
use native.Mathlib.Omega.{arith}
use lib.ListN.{length, take, drop, get_or, length-append, length-take, length-drop, drop_of_length-le}
use lib.Seq.{take_all, drop_at, length-take-le, take-take, get_or-take, get_or-drop, ext_get_or}
use borrow.Rule.Slice.PartMut.{put_mid, take_put}
use Rattle.rows.specs.Sets.{RowSet, only}
use Rattle.rows.specs.Layout.{set_words, written, rows_in, formed, set_in}
use Rattle.rows.proofs.Put.{put_after}
use Rattle.sets.proofs.Laid.{written_put}
use Rattle.sets.proofs.Front.{SameFront, word_same, sound_same}
use Rattle.read_values.specs.Answers.{Filled}
use Rattle.read_steps.specs.Areas.{Gathering, Kept}

-- ---- a set lies at the front

module _ {a b : List ℕ} (e : SameFront a b) where
  pub filled_same : Filled a → Filled b
  filled_same f = record { long = e.second; sound = sound_same e f.sound }

  pub gathering_same : Gathering a → Gathering b
  gathering_same g = record { filled = filled_same g.filled; finite = word_same e 0 (omega arith) ∙ g.finite }

pub finite_set : (ws : List ℕ) → get_or ws 0 0 ≡ 0 → set_in ws ≡ only (rows_in ws)
unfolding set_in formed
finite_set ws h = ap (λ (n : ℕ). formed n (rows_in ws)) h

-- ---- what stays

pub kept_self : {free : ℕ} {a : List ℕ} → Kept free a a
kept_self = record { stays = λ k h l. refl }

pub kept_less : {free more : ℕ} {a b : List ℕ} → free ≤ more → Kept more a b → Kept free a b
kept_less h p = record { stays = λ k l m. p.stays k l (omega arith) }

pub kept_then : {free : ℕ} {a b c : List ℕ} → Kept free a b → Kept free b c → Kept free a c
kept_then p q = record { stays = λ k h l. q.stays k h l ∙ p.stays k h l }

pub written_kept : {free : ℕ} (S : RowSet) (area : List ℕ) {now : List ℕ} → length (set_words S) ≤ 642 → 642 ≤ length area → now ≡ written S area → Kept free area now
written_kept S area h long e = record { stays = λ k l m. ap (λ (ws : List ℕ). get_or ws k 0) (e ∙ sym (written_put S area)) ∙ put_after 0 (set_words S) area (omega arith) k (omega arith) }

-- a set that lies in what stayed
pub kept_part : {free : ℕ} {a b : List ℕ} → 642 ≤ free → length b ≡ length a → free + 642 ≤ length a → Kept (free + 642) a b → SameFront (drop free a) (drop free b)
kept_part {free} {a} {b} h l m p =
    let da = length-drop free a in
    let db = length-drop free b in
    let la = length-take-le 642 (drop free a) (omega arith) in
    let lb = length-take-le 642 (drop free b) (omega arith) in
    record {
      front = ext_get_or 0 (take 642 (drop free a)) (take 642 (drop free b)) (omega arith)
          (λ i q. get_or-take 642 (drop free a) i 0 (omega arith) ∙ get_or-drop free a i 0 ∙ sym (p.stays (free + i) (omega arith) (omega arith))
          ∙ sym (get_or-drop free b i 0) ∙ sym (get_or-take 642 (drop free b) i 0 (omega arith)));
      first = omega arith;
      second = omega arith;
    }

-- ---- a part from `free` on, given back as ys

module _ (area : List ℕ) (free : ℕ) (ys : List ℕ) (inside : free ≤ length area) (size : length ys ≡ length (take (length area - free) (drop free area))) where
  abbrev pub given_back : List ℕ
  given_back = put_mid free (length area - free) area ys

  pub lent_length : length ys ≡ length area - free
  lent_length = omega (arith, length-take (length area - free) (drop free area), length-drop free area)

  pub back_length : length given_back ≡ length area
  back_length = let l = lent_length in simp (length-append, length-take, length-drop) (omega arith)

  pub back_part : drop free given_back ≡ ys
  back_part =
      let l = lent_length in
      drop_at (take free area) (ys ++ drop (length area - free) (drop free area)) free (length-take-le free area inside)
      ∙ ap (λ (l : List ℕ). ys ++ l) (drop_of_length-le (drop free area) {i = length area - free} (omega (arith, length-drop free area))) ∙ append-nil ys

  pub back_front : 642 ≤ free → SameFront area given_back
  back_front h =
      let l = back_length in
      record {
        front = sym (take-take 642 free area h) ∙ ap (λ (l : List ℕ). take 642 l) (sym (take_put free (length area - free) area ys inside)) ∙ take-take 642 free given_back h;
        first = omega arith;
        second = omega arith;
      }

  pub back_kept : Kept free area given_back
  back_kept = record { stays = λ k h l. sym (get_or-take free given_back k 0 l) ∙ ap (λ (z : List ℕ). get_or z k 0) (take_put free (length area - free) area ys inside) ∙ get_or-take free area k 0 l }

pub part_length : (free : ℕ) (area : List ℕ) → free ≤ length area → length (take (length area - free) (drop free area)) + free ≡ length area
part_length free area h = omega (arith, length-take (length area - free) (drop free area), length-drop free area)

-- a part that goes on to the end
pub part_whole : (free : ℕ) (area : List ℕ) → take (length area - free) (drop free area) ≡ drop free area
part_whole free area = take_all (length area - free) (drop free area) (omega (arith, length-drop free area))
