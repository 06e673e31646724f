-- The walk over a leaf.
use Prim.Native.Nat.{ℕ, ◌+◌, ◌-◌, ◌≤◌}
use Rattle.std.proofs.Common.{None}
use mathlib.Core.Path.{◌≡◌, refl, sym, ◌∙◌, ap, subst}
use mathlib.Core.Bool.{Bool, true, false}
use mathlib.Core.List.{List, [], ◌∷◌, ◌++◌, append_assoc}
use native.Mathlib.Omega.{arith}
use lib.ListN.{length, get_or, take, drop, length-append}
use Rattle.rows.specs.Name.{Polarity, plus, minus, polarity_word, same_polarity}
use Rattle.rows.specs.Polarities.{polarity_is, polarity_number}
use Rattle.rows.specs.declared.Polarity as Held
use Rattle.rows.specs.declared.Polarity.TheVariants.{Plus, Minus}
use Rattle.rows.proofs.Case.{never}
use Rattle.policy.proofs.Basics.{impossible}
use Rattle.policy.specs.OwnKey.{Scope, Origin}
use Rattle.policy.specs.Leaf.{Leaf, finite, cofinite, definition, listed, vetted, leaf_code, leaf_rest, leaf_words}
use Rattle.policy.specs.Syntax.{Term}
use Rattle.policy.specs.Words.{term_words}
use Rattle.policy.specs.Codes.{guard_number}
use Rattle.policy.specs.declared.codes.GuardCode.{GuardCode}
use Rattle.policy.specs.declared.codes.GuardCode.TheVariants as guard
use Rattle.policy.specs.External.{external_leaf, vet_leaf}
use Rattle.policy_places.specs.Places.{At, name_words, StandsLeaf, SomeLeaf, PastLeaf}
use Rattle.policy_places.proofs.Places.{at_skip, at_word, at_next, term_length}
use Rattle.policy_places.proofs.Leaves.{on_listed, on_vetted, in_listed, name_length}
use Rattle.policy_rewriting.specs.Laid.{laid}
use Rattle.policy_rewriting.specs.Walks.{vets, out_leaf, Laying, Answered, Walked, WalkedLeaf, Roomy, To}
use Rattle.policy_rewriting.proofs.Walks.{then_laid, copied, copy_room}

-- ---- what is known of a code is known of its word

pub code_laid : (to : ℕ) (before : List ℕ) {c w : ℕ} {after : List ℕ} → c ≡ w → after ≡ laid to (c ∷ []) before → after ≡ laid to (w ∷ []) before
code_laid to before e h = h ∙ ap (λ (x : ℕ). laid to (x ∷ []) before) e

pub no_draw : {w : ℕ} (c : GuardCode) → guard_number c ≡ w → (c ≡ guard.Draw → ⊥) → w ≡ 1 → ⊥
no_draw guard.Draw e n h = n refl
no_draw guard.Same e n h = absurd (omega arith)
no_draw guard.Different e n h = absurd (omega arith)
no_draw guard.Absent e n h = absurd (omega arith)

-- ---- the polarity's word

pub word_number : (p : Held.Polarity) → polarity_number p ≡ polarity_word (polarity_is p)
unfolding polarity_word
word_number Plus = refl
word_number Minus = refl

-- names alone are vetted
kept_leaf : (keys : Bool) (p : Polarity) (x : Leaf) → (leaf_code x ≡ 4 → ⊥) → out_leaf keys p x ≡ x
unfolding out_leaf vet_leaf leaf_code
kept_leaf keys p x h = go (vets keys p) x h
  where
    go : (b : Bool) (x : Leaf) → (leaf_code x ≡ 4 → ⊥) → (elim b as (λ c. Leaf) [ true ↦ vet_leaf x | false ↦ x ]) ≡ x
    go true (finite rs) h = refl
    go true (cofinite rs) h = refl
    go true (definition d) h = refl
    go true (listed t n q o) h = absurd (h refl)
    go true (vetted t n o d) h = refl
    go false x h = refl

other_external : (p : Polarity) (x : Leaf) → (leaf_code x ≡ 4 → ⊥) → (leaf_code x ≡ 8 → ⊥) → external_leaf p x ≡ true
unfolding external_leaf leaf_code
other_external p (finite rs) h k = refl
other_external p (cofinite rs) h k = refl
other_external p (definition d) h k = refl
other_external p (listed t n q o) h k = absurd (h refl)
other_external p (vetted t n o d) h k = absurd (k refl)

same_word : (p q : Polarity) → polarity_word q ≡ polarity_word p → q ≡ p
unfolding polarity_word
same_word plus plus e = refl
same_word plus minus e = absurd (omega arith)
same_word minus plus e = absurd (omega arith)
same_word minus minus e = refl

other_word : (p q : Polarity) → (polarity_word q ≡ polarity_word p → ⊥) → same_polarity q p ≡ false
unfolding polarity_word
other_word plus plus h = absurd (h refl)
other_word plus minus h = refl
other_word minus plus h = refl
other_word minus minus h = absurd (h refl)

same_itself : (p : Polarity) → same_polarity p p ≡ true
same_itself plus = refl
same_itself minus = refl

-- the polarity is the word after the name
polarity_at : (ws : List ℕ) (at : ℕ) (t : Term) (k : ℕ) (q : Polarity) → At ws (at + 1) (name_words t k q) → get_or ws (at + 4) 0 ≡ polarity_word q
polarity_at ws at t k q h =
    let e : at + 1 + length (term_words t) + 1 ≡ at + 4 = omega (arith, term_length t) in
    ap (λ (i : ℕ). get_or ws i 0) (sym e) ∙ at_word (at_next (at_skip (term_words t) (k ∷ polarity_word q ∷ []) h))

vets_plus : (keys : Bool) (p : Polarity) → vets keys p ≡ true → p ≡ plus
unfolding vets
vets_plus true plus e = refl
vets_plus true minus e = never e refl
vets_plus false p e = never e refl

out_vetted : (keys : Bool) (p : Polarity) (t : Term) (k : ℕ) (o : Origin) → vets keys p ≡ true → out_leaf keys p (listed t k p o) ≡ vetted t k o 0
unfolding out_leaf vet_leaf
out_vetted keys p t k o v = go (vets keys p) p v (vets_plus keys p v)
  where
    go : (b : Bool) (q : Polarity) → b ≡ true → q ≡ plus → (elim b as (λ c. Leaf) [ true ↦ vet_leaf (listed t k q o) | false ↦ listed t k q o ]) ≡ vetted t k o 0
    go true plus e f = refl
    go true minus e f = impossible cc
    go false q e f = never e refl

-- code 8, the words of the name, and the definition's number
vetted_laid : {ws before mid late after : List ℕ} {at to last : ℕ} (t : Term) (k : ℕ) (o : Origin) → At ws (at + 1) (name_words t k plus) → mid ≡ laid to (8 ∷ []) before →
    (last ≡ to + 1 + (at + 5 - (at + 1))) × (late ≡ laid (to + 1) (take (at + 5 - (at + 1)) (drop (at + 1) ws)) mid) → after ≡ laid last (0 ∷ []) late →
    Laying at 5 to (leaf_words (vetted t k o 0)) before (at + 5) (last + 1) after
unfolding leaf_words leaf_code leaf_rest polarity_word
vetted_laid {before = before} {mid = mid} {late = late} {at = at} {to = to} t k o h f l g =
    let name = name_words t k plus in
    let four = name_length t k plus in
    let copy = copied name h (omega arith) l in
    let ends = copy.ends in
    let whole : 8 ∷ (name ++ (0 ∷ [])) ≡ leaf_words (vetted t k o 0) = ap (λ (w : List ℕ). 8 ∷ w) (append_assoc (term_words t) (k ∷ 0 ∷ []) (0 ∷ [])) in
    let long = length-append name (0 ∷ []) in
    let six : length (leaf_words (vetted t k o 0)) ≡ 6 = sym (ap length whole) ∙ omega arith in
    record {
      passed = refl;
      ends = omega arith;
      few = omega arith;
      area =
          then_laid to before (8 ∷ []) (name ++ (0 ∷ [])) f (then_laid (to + 1) mid name (0 ∷ []) copy.area (g ∙ ap (λ (i : ℕ). laid i (0 ∷ []) late) ends))
          ∙ ap (λ (w : List ℕ). laid to w before) whole;
    }

pub leaf_room : {ws : List ℕ} {at to next : ℕ} → SomeLeaf ws at → Roomy ws at to → PastLeaf ws at next → (at ≤ next) × (next ≤ length ws) × (to + (next - at) ≤ 65536)
unfolding leaf_words
leaf_room x room past = copy_room (omega arith) x.here.words (past.past x.scope x.n x.x x.here) room

module _ {keys : Bool} {p : Polarity} {ws : List ℕ} {at to : ℕ} {before : List ℕ} where
  -- a leaf that is neither a name nor code 8
  pub other_walked : {next end : ℕ} {after : List ℕ} → (get_or ws at 0 ≡ 4 → ⊥) → (get_or ws at 0 ≡ 8 → ⊥) → PastLeaf ws at next →
      (end ≡ to + (next - at)) × (after ≡ laid to (take (next - at) (drop at ws)) before) → WalkedLeaf keys p ws at to before (To next end) after
  unfolding Answered leaf_words
  other_walked {next} {end} {after} h k past l = record {
    walked = λ scope n x s.
        let code : get_or ws at 0 ≡ leaf_code x = at_word s.words in
        let no_name : (leaf_code x ≡ 4 → ⊥) = λ e. h (code ∙ e) in
        record {
          answer = (
            other_external p x no_name (λ e. k (code ∙ e)),
            subst (λ (y : Leaf). Laying at (length (leaf_words x)) to (leaf_words y) before next end after) (sym (kept_leaf keys p x no_name)) (copied (leaf_words x) s.words (past.past scope n x s) l),
          );
        };
  }

  pub vetted_broken : {after : List ℕ} → get_or ws at 0 ≡ 8 → WalkedLeaf keys p ws at to before None after
  unfolding Answered external_leaf
  vetted_broken {after} c = record {
    walked = λ scope n x s.
        on_vetted (λ y. Walked (external_leaf p y) at (length (leaf_words y)) to (leaf_words (out_leaf keys p y)) before None after) s c (λ t k o d. record { answer = refl });
  }

  module _ (c : get_or ws at 0 ≡ 4) where
    pub name_broken : {after : List ℕ} → (get_or ws (at + 4) 0 ≡ polarity_word p → ⊥) → WalkedLeaf keys p ws at to before None after
    unfolding Answered external_leaf
    name_broken {after} h = record {
      walked = λ scope n x s.
          on_listed (λ y. StandsLeaf scope n ws at y → Walked (external_leaf p y) at (length (leaf_words y)) to (leaf_words (out_leaf keys p y)) before None after) s c
          (λ t k q o g. record { answer = other_word p q (λ e. h (polarity_at ws at t k q (in_listed g).words ∙ e)) }) s;
    }

    module _ (same : get_or ws (at + 4) 0 ≡ polarity_word p) where
      -- the name that stands there, of the polarity that it must have
      name_walked : {next end : ℕ} {after : List ℕ} → ((scope : Scope) (n : ℕ) (t : Term) (k : ℕ) (o : Origin) → StandsLeaf scope n ws at (listed t k p o) →
          Laying at (length (leaf_words (listed t k p o))) to (leaf_words (out_leaf keys p (listed t k p o))) before next end after) → WalkedLeaf keys p ws at to before (To next end) after
      unfolding Answered external_leaf
      name_walked {next} {end} {after} f = record {
        walked = λ scope n x s.
            on_listed (λ y. StandsLeaf scope n ws at y → Walked (external_leaf p y) at (length (leaf_words y)) to (leaf_words (out_leaf keys p y)) before (To next end) after) s c
            (λ t k q o g.
            let e : q ≡ p = same_word p q (sym (polarity_at ws at t k q (in_listed g).words) ∙ same) in
            rw e (record { answer = (same_itself p, f scope n t k o (rw e at g)) })) s;
      }

      pub name_kept : {end : ℕ} {after : List ℕ} → vets keys p ≡ false → (end ≡ to + (at + 5 - at)) × (after ≡ laid to (take (at + 5 - at) (drop at ws)) before) →
          WalkedLeaf keys p ws at to before (To (at + 5) end) after
      unfolding out_leaf leaf_words leaf_rest
      name_kept {end} {after} v l = name_walked (λ scope n t k o g.
          rw (out_leaf, v) (copied (leaf_words (listed t k p o)) g.words (omega (arith, name_length t k p)) l))

      pub name_vetted : {mid late after : List ℕ} {last : ℕ} → vets keys p ≡ true → mid ≡ laid to (8 ∷ []) before →
          (last ≡ to + 1 + (at + 5 - (at + 1))) × (late ≡ laid (to + 1) (take (at + 5 - (at + 1)) (drop (at + 1) ws)) mid) → after ≡ laid last (0 ∷ []) late →
          WalkedLeaf keys p ws at to before (To (at + 5) (last + 1)) after
      unfolding leaf_words leaf_rest
      name_vetted {after = after} {last = last} v f l g = name_walked (λ scope n t k o s.
          let here : At ws (at + 1) (name_words t k plus) = subst (λ (q : Polarity). At ws (at + 1) (name_words t k q)) (vets_plus keys p v) (in_listed s).words in
          let five : 5 ≡ length (leaf_words (listed t k p o)) = omega (arith, name_length t k p) in
          subst (λ (y : Leaf). Laying at (length (leaf_words (listed t k p o))) to (leaf_words y) before (at + 5) (last + 1) after) (sym (out_vetted keys p t k o v))
          (subst (λ (i : ℕ). Laying at i to (leaf_words (vetted t k o 0)) before (at + 5) (last + 1) after) five (vetted_laid t k o here f l g)))
