-- The definitions' sets in their places: one more is put behind those that lie there.
use Prim.Native.Nat.{ℕ, zero, suc, ◌+◌, ◌-◌, ◌*◌, ◌≤◌, ◌<◌}
use mathlib.Core.Path.{◌≡◌, refl, sym, ◌∙◌, ap, subst}
use mathlib.Core.Logic.{◌⊎◌, inl, inr}
use mathlib.Core.Bool.{true}
use mathlib.Core.List.{List, [], ◌∷◌, ◌++◌, append_assoc}
use native.Mathlib.Nat.{eq-or-lt_of_le}
use native.Mathlib.Omega.{arith}
use lib.ListN.{length, take, drop, length-drop, take-append-drop}
use lib.Seq.{length-take-le, drop-drop, drop_at, drop-append-le}
use borrow.Rule.Slice.PartMut.{put_mid}
use Rattle.rows.specs.Sets.{RowSet}
use Rattle.rows.specs.Layout.{set_room, set_in, set_words, sound_set, put, written}
use Rattle.rows.proofs.Put.{put_length, part_before}
use Rattle.sets.proofs.Front.{SameFront, set_same}
use Rattle.sets.proofs.Standing.{Stands, set_fits, copied_stands}
use Rattle.read_values.specs.Answers.{Filled}
use Rattle.policy_table.specs.Entries.{entry_place}
use Rattle.read_values.specs.From.{From, with_sets, sets_in, sets, SoundFrom}
use Rattle.read_values.proofs.Answers.{stands_filled}
use Rattle.read_steps.proofs.Areas.{filled_same}

drop_split : (l k : ℕ) (ys : List ℕ) → l ≤ k → k ≤ length ys → drop l (take k ys) ++ drop k ys ≡ drop l ys
drop_split l k ys h m = sym (drop-append-le l (take k ys) (drop k ys) (omega (arith, length-take-le k ys m))) ∙ ap (drop l) (take-append-drop k ys)

-- a part of an area, lent and given back with a set written to its front
pub part_put : (a : ℕ) (set area : List ℕ) {ys : List ℕ} → sound_set set ≡ true → a + 642 ≤ length area → ys ≡ written (set_in set) (take (a + 642 - a) (drop a area)) →
    put_mid a (a + 642 - a) area ys ≡ put a (set_words (set_in set)) area
unfolding put written
part_put a set area {ys} sound h e =
    let k : ℕ = a + 642 - a in
    let ws : List ℕ = set_words (set_in set) in
    let size = set_fits set sound in
    let d = length-drop a area in
    ap (λ (zs : List ℕ). put_mid a (a + 642 - a) area zs) e
    ∙ ap (λ (zs : List ℕ). take a area ++ zs)
    (append_assoc ws (drop (length ws) (take k (drop a area))) (drop k (drop a area))
    ∙ ap (λ (zs : List ℕ). ws ++ zs) (drop_split (length ws) k (drop a area) (omega arith) (omega arith) ∙ drop-drop (length ws) a area))

-- ---- one more definition

pub sets_length : (m : ℕ) (ws : List ℕ) → length (sets_in m ws) ≡ m
unfolding sets_in
sets_length zero ws = refl
sets_length (suc m) ws = ap suc (sets_length m (drop set_room ws))

sets_last : (m : ℕ) (ws : List ℕ) → sets_in (suc m) ws ≡ sets_in m ws ++ (set_in (drop (642 * m) ws) ∷ [])
unfolding sets_in
sets_last zero ws = refl
sets_last (suc m) ws =
    let e : 642 + 642 * m ≡ 642 * suc m = omega arith in
    ap (λ (l : List RowSet). set_in ws ∷ l)
    (sets_last m (drop 642 ws) ∙ ap (λ (z : List ℕ). sets_in m (drop 642 ws) ++ (set_in z ∷ [])) (drop-drop (642 * m) 642 ws ∙ ap (λ (k : ℕ). drop k ws) e))

sets_same : (m : ℕ) (a b : List ℕ) → ((d : ℕ) → d < m → set_in (drop (642 * d) b) ≡ set_in (drop (642 * d) a)) → sets_in m b ≡ sets_in m a
unfolding sets_in
sets_same zero a b h = refl
sets_same (suc m) a b h =
    let first : set_in b ≡ set_in a = h 0 (omega arith) in
    let rest : sets_in m (drop 642 b) ≡ sets_in m (drop 642 a) = sets_same m (drop 642 a) (drop 642 b) (λ d l. later d (h (suc d) (omega arith))) in
    cc
  where
    later : (d : ℕ) → set_in (drop (642 * suc d) b) ≡ set_in (drop (642 * suc d) a) → set_in (drop (642 * d) (drop 642 b)) ≡ set_in (drop (642 * d) (drop 642 a))
    later d e =
        let k : 642 + 642 * d ≡ 642 * suc d = omega arith in
        ap set_in (drop-drop (642 * d) 642 b ∙ ap (λ (j : ℕ). drop j b) k) ∙ e ∙ ap set_in (sym (drop-drop (642 * d) 642 a ∙ ap (λ (j : ℕ). drop j a) k))

-- the set of one definition more is put in its place
abbrev with_set : From → List ℕ → From
with_set f set = with_sets f (put (642 * f.known) (set_words (set_in set)) f.defs) (f.known + 1)

module _ {f : From} (sound : SoundFrom f) {set : List ℕ} (filled : Filled set) (room : 642 * f.known + 642 ≤ length f.defs) (table : entry_place f.known + 4 ≤ length f.policy) where
  fits : 642 * f.known + length (set_words (set_in set)) ≤ length f.defs
  fits = omega (arith, set_fits set filled.sound)

  same : (d : ℕ) → d < f.known → SameFront (drop (642 * d) f.defs) (drop (642 * d) (with_set f set).defs)
  same d h =
      let size = put_length (642 * f.known) (set_words (set_in set)) f.defs fits in
      let a = length-drop (642 * d) f.defs in
      let b = length-drop (642 * d) (with_set f set).defs in
      record {
        front = sym (part_before (642 * f.known) (set_words (set_in set)) f.defs fits (642 * d) 642 (omega arith));
        first = omega arith;
        second = omega arith;
      }

  stands : Stands (set_in set) (drop (642 * f.known) (with_set f set).defs)
  unfolding put written
  stands =
      let at : ℕ = 642 * f.known in
      let ws : List ℕ = set_words (set_in set) in
      copied_stands set filled.sound (drop at f.defs) (omega (arith, length-drop at f.defs))
      (drop_at (take at f.defs) _ at (length-take-le at f.defs (omega arith)) ∙ ap (λ (z : List ℕ). ws ++ z) (sym (drop-drop (length ws) at f.defs)))

  pub sound_more : SoundFrom (with_set f set)
  sound_more = record { store = sound.store; links = sound.links; table = omega arith; defs = λ d h. lies_at d (eq-or-lt_of_le (omega arith)) }
    where
      lies_at : (d : ℕ) → (d ≡ f.known) ⊎ (d < f.known) → Filled (drop (set_room * d) (with_set f set).defs)
      lies_at d (inl e) = subst (λ (j : ℕ). Filled (drop (642 * j) (with_set f set).defs)) (sym e) (stands_filled stands)
      lies_at d (inr h) = filled_same (same d h) (sound.defs d h)

  pub sets_more : sets (with_set f set) ≡ sets f ++ (set_in set ∷ [])
  sets_more =
      let now : List ℕ = (with_set f set).defs in
      ap (λ (n : ℕ). sets_in n now) (let e : f.known + 1 ≡ suc f.known = omega arith in e) ∙ sets_last f.known now
      ∙ ap (λ (l : List RowSet). l ++ (set_in (drop (642 * f.known) now) ∷ [])) (sets_same f.known f.defs now (λ d h. set_same (same d h) (sound.defs d h).sound))
      ∙ ap (λ (s : RowSet). sets f ++ (s ∷ [])) stands.set
