-- Code 8: its issuer looked up in a definition, then the name, or no rows.
use Prim.Native.Nat.{ℕ, ◌+◌, ◌≤◌, ◌<◌}
use mathlib.Core.Path.{◌≡◌, refl, sym, ap, subst, ◌∙◌}
use mathlib.Core.Bool.{Bool, true, false}
use mathlib.Core.List.{List, [], ◌∷◌}
use native.Mathlib.Omega.{arith}
use lib.ListN.{length, get_or}
use Rattle.rows.specs.Name.{plus, polarity_word}
use Rattle.rows.specs.Ordered.{lists}
use Rattle.rows.specs.Sets.{RowSet, only, has}
use Rattle.rows.specs.Layout.{row_in, formed, set_in, written}
use Rattle.row_words.specs.Values.{five_is, row_is}
use Rattle.sets.proofs.Standing.{cleared_stands}
use Rattle.policy.specs.OwnKey.{Origin}
use Rattle.policy.specs.Leaf.{Leaf, vetted}
use Rattle.policy.specs.Syntax.{Term}
use Rattle.policy.specs.Words.{term_words}
use Rattle.policy.specs.Held.{term_is}
use Rattle.policy.specs.declared.Term as HeldTerm
use Rattle.meaning.specs.Values.{Values, value, row_of}
use Rattle.meaning.specs.Reading.{Result, done, after, read_name, read_leaf}
use Rattle.meaning.proofs.Steps.{either}
use Rattle.policy_places.specs.Places.{StandsLeaf, IsTerm}
use Rattle.policy_table.proofs.Declared.{length_declared}
use Rattle.policy_places.proofs.Places.{at_front}
use Rattle.policy_places.proofs.Leaves.{on_vetted, in_vetted}
use Rattle.read_values.specs.Outcomes.{outcome, tested, IfOk}
use Rattle.read_values.specs.From.{From, sets_in, scope_in, names, sets}
use Rattle.std.specs.Prelude.{Result as Outcome, Ok}
use Rattle.refusals.specs.declared.Refusal.{Refusal}
use Rattle.refusals.specs.Numbers.{number}
use Rattle.read_values.proofs.Answers.{stands_filled}
use Rattle.read_leaves.specs.Leaves.{SayDefinition, SayAmong, AskName, SayListed, SayListedHas, AskLeaf, SayLeaf, SayLeafHas}

-- ---- what is asked

module _ {f : From} {ws : List ℕ} {at : ℕ} {values : List ℕ} {count : ℕ} (a : AskLeaf f ws at values count) (c : get_or ws at 0 ≡ 8) where
  pub vetted_known : get_or ws (at + 5) 0 < f.known
  vetted_known =
      on_vetted (λ y. StandsLeaf (scope_in f) count ws at y → get_or ws (at + 5) 0 < f.known) a.here c
      (λ t m o d s. let i = in_vetted s in omega (arith, i.number, i.known, length_declared f.policy f.known)) a.here

  pub ask_vetted : AskName f ws (at + 1) values count
  ask_vetted =
      on_vetted (λ y. StandsLeaf (scope_in f) count ws at y → AskName f ws (at + 1) values count) a.here c
      (λ t m o d s. record { sound = a.sound; bound = a.bound; t = t; n = m; p = plus; o = o; here = (in_vetted s).name }) a.here

-- ---- the issuer looked up

one_atom_lem : (key : ℕ) → row_is (record { width = 1; atoms = key ∷ 0 ∷ 0 ∷ 0 ∷ [] }) ≡ key ∷ []
unfolding row_is five_is row_in
one_atom_lem key = refl

pub looks_up : {known : ℕ} {defs ws : List ℕ} {at e : ℕ} (vs : Values) {x : HeldTerm.Term} {key : ℕ} {set : List ℕ} {r : Bool} → IsTerm ws (at + 1) x → key ≡ value vs (term_is x) →
    e ≡ get_or ws (at + 5) 0 → SayDefinition known e defs set → r ≡ has (set_in set) (row_is (record { width = 1; atoms = key ∷ 0 ∷ 0 ∷ 0 ∷ [] })) → SayAmong known defs ws at vs r
looks_up {known} {defs} {ws} {at} vs {x} {key} {set} {r} i v number s e = record {
  means = λ scope n t m o d g.
      let h = in_vetted g in
      let issuer : value vs t ≡ key = ap (value vs) (sym (i.is t (at_front (term_words t) (m ∷ polarity_word plus ∷ []) h.name.words))) ∙ sym v in
      let row : value vs t ∷ [] ≡ row_is (record { width = 1; atoms = key ∷ 0 ∷ 0 ∷ 0 ∷ [] }) = ap (λ (a : ℕ). a ∷ []) issuer ∙ sym (one_atom_lem key) in
      ap (λ (i : ℕ). has (get_or (sets_in known defs) i (only [])) (value vs t ∷ [])) (sym (number ∙ h.number)) ∙ ap (λ (z : RowSet). has z (value vs t ∷ [])) (sym s.means) ∙ ap (has (set_in set)) row ∙ sym e;
}

-- ---- what is read, and whether a row belongs

module _ (f : From) {ws : List ℕ} {at : ℕ} {vs : Values} (k : ℕ) (c : get_or ws at 0 ≡ 8) where
  -- whatever is said of a reading that is tested so
  as_tested : {b a : Bool} → SayAmong f.known f.defs ws at vs b → b ≡ a → (P : Result RowSet → Type 0) (n : ℕ) {x : Leaf} → StandsLeaf (scope_in f) n ws at x →
      ((t : Term) (m : ℕ) (o : Origin) (d : ℕ) → StandsLeaf (scope_in f) n ws at (vetted t m o d) → P (either a (λ i. done (only []) i) (read_name (names f) (sets f) (value vs t) m plus o) k)) → P (read_leaf (names f) (sets f) x vs k)
  unfolding read_leaf
  as_tested s e P n h g =
      on_vetted (λ y. StandsLeaf (scope_in f) n ws at y → P (read_leaf (names f) (sets f) y vs k)) h c
      (λ t m o d i. subst (λ (b : Bool). P (either b (λ i. done (only []) i) (read_name (names f) (sets f) (value vs t) m plus o) k)) (sym (s.means (scope_in f) n t m o d i ∙ e)) (g t m o d i)) h

  -- the issuer is there
  module _ {b : Bool} (s : SayAmong f.known f.defs ws at vs b) (there : b ≡ true) where
    pub vetted_none : (entry : List ℕ) {area : List ℕ} → 642 ≤ length entry → area ≡ written (formed 0 []) entry → SayLeaf f ws at vs k (Ok k) area
    unfolding IfOk outcome formed
    vetted_none entry {area} long e =
        let z = cleared_stands 0 entry long e in
        record { filled = stands_filled z; means = λ n x h. as_tested s there (λ u. u ≡ done (set_in area) k) n h (λ t m o d i. ap (λ (y : RowSet). done y k) (sym z.set)) }

    pub vetted_lacks : {row : ℕ} → SayLeafHas f ws at row vs k (Ok (false, k))
    unfolding after has lists tested
    vetted_lacks = record {
      means = λ n x h m ts g. as_tested s there (λ u. after u (λ z i. done (has z (row_of vs ts)) i) ≡ done false k) n h (λ t m o d i. refl);
    }

  -- it is absent
  module _ {b : Bool} (s : SayAmong f.known f.defs ws at vs b) (gone : b ≡ false) where
    pub vetted_read : {r : Outcome ℕ Refusal} {area : List ℕ} → SayListed f ws (at + 1) vs k r area → SayLeaf f ws at vs k r area
    vetted_read {r} {area} y = record {
      filled = y.filled;
      means = λ n x h. as_tested s gone (λ u. u ≡ outcome (set_in area) r) n h (λ t m o d i. y.means t m plus o (in_vetted i).name);
    }

    pub vetted_looked : {row : ℕ} {r : Outcome (Bool × ℕ) Refusal} → SayListedHas f ws (at + 1) row vs k r → SayLeafHas f ws at row vs k r
    vetted_looked {r} y = record {
      means = λ n x h m ts g. as_tested s gone (λ u. after u (λ z i. done (has z (row_of vs ts)) i) ≡ tested r) n h (λ t l o d i. y.means t l plus o (in_vetted i).name m ts g);
    }
