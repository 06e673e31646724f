-- A leaf by its code: what is read for it, and whether a row belongs to it.
use Prim.Native.Nat.{ℕ, zero, suc, ◌+◌, ◌-◌, ◌*◌, ◌≤◌, ◌<◌}
use mathlib.Core.Path.{◌≡◌, refl, sym, ap, subst, ◌∙◌}
use mathlib.Core.Bool.{Bool}
use mathlib.Core.List.{List, []}
use native.Mathlib.Omega.{arith}
use lib.ListN.{length, take, drop, get_or}
use lib.Seq.{drop-drop}
use Rattle.rows.specs.Sets.{RowSet, only, has}
use Rattle.rows.specs.Layout.{formed, set_in, written}
use Rattle.sets.proofs.Standing.{copied_stands}
use Rattle.policy.specs.Leaf.{Leaf, leaf_code, leaf_words}
use Rattle.meaning.specs.Values.{Values, row_of}
use Rattle.meaning.specs.Reading.{Result, done, after, small, rows_of, read_leaf}
use Rattle.policy_places.specs.Places.{StandsLeaf, SomeLeaf}
use Rattle.read_values.specs.Answers.{Filled}
use Rattle.read_values.specs.Outcomes.{outcome, tested, IfOk}
use Rattle.read_values.specs.From.{From, sets_in, scope_in, names, sets}
use Rattle.std.specs.Prelude.{Result as Outcome, Ok, Err}
use Rattle.refusals.specs.declared.Refusal.{Refusal}
use Rattle.policy_table.proofs.Declared.{length_declared}
use Rattle.policy_places.proofs.Places.{at_word}
use Rattle.policy_places.proofs.Leaves.{on_definition, on_listed, on_rows, in_finite, in_cofinite, in_definition, in_listed}
use Rattle.read_values.proofs.Answers.{stands_filled}
use Rattle.read_steps.specs.Steps.{SayHas}
use Rattle.read_steps.proofs.Areas.{part_whole}
use Rattle.read_leaves.specs.Leaves.{SayRows, SayDefinition, AskName, SayListed, SayListedHas, AskLeaf, SayLeaf, SayLeafHas}

-- ---- the set of a definition

sets_at : (m d : ℕ) (ws : List ℕ) → d < m → get_or (sets_in m ws) d (only []) ≡ set_in (drop (642 * d) ws)
unfolding sets_in
sets_at zero d ws h = absurd (omega arith)
sets_at (suc m) zero ws h = refl
sets_at (suc m) (suc d) ws h =
    let e : 642 + 642 * d ≡ 642 * suc d = omega arith in
    sets_at m d (drop 642 ws) (omega arith) ∙ ap set_in (drop-drop (642 * d) 642 ws ∙ ap (λ (k : ℕ). drop k ws) e)

-- the part of the definition area that is handed back
pub definition_part : (defs : List ℕ) {known d : ℕ} → d < known → Filled (drop (642 * d) defs) → SayDefinition known d defs (take (length defs - 642 * d) (drop (642 * d) defs))
definition_part defs {known} {d} h f =
    let part : drop (642 * d) defs ≡ take (length defs - 642 * d) (drop (642 * d) defs) = sym (part_whole (642 * d) defs) in
    record { filled = subst Filled part f; means = ap set_in (sym part) ∙ sym (sets_at known d defs h) }

-- ---- what is asked

module _ {f : From} {ws : List ℕ} {at : ℕ} {values : List ℕ} {count : ℕ} (a : AskLeaf f ws at values count) where
  pub some_here : SomeLeaf ws at
  some_here = record { scope = scope_in f; n = count; x = a.x; here = a.here }

  pub known_here : get_or ws at 0 ≡ 3 → get_or ws (at + 1) 0 < f.known
  known_here c =
      on_definition (λ y. StandsLeaf (scope_in f) count ws at y → get_or ws (at + 1) 0 < f.known) a.here c
      (λ d s. let i = in_definition s in omega (arith, i.number, i.known, length_declared f.policy f.known)) a.here

  -- code 4: a name
  pub ask_listed : get_or ws at 0 ≡ 4 → AskName f ws (at + 1) values count
  ask_listed c =
      on_listed (λ y. StandsLeaf (scope_in f) count ws at y → AskName f ws (at + 1) values count) a.here c
      (λ t m p o s. record { sound = a.sound; bound = a.bound; t = t; n = m; p = p; o = o; here = in_listed s }) a.here

-- ---- a literal: its code is one more than the form of its set

module _ {ws : List ℕ} {at : ℕ} (d : get_or ws at 0 ≡ 3 → ⊥) (l : get_or ws at 0 ≡ 4 → ⊥) (v : get_or ws at 0 ≡ 8 → ⊥) where
  pub literal_code : SomeLeaf ws at → (1 ≤ get_or ws at 0) × (get_or ws at 0 ≤ 2)
  unfolding leaf_words leaf_code
  literal_code x =
      on_rows (λ y. StandsLeaf x.scope x.n ws at y → (1 ≤ get_or ws at 0) × (get_or ws at 0 ≤ 2)) x.here d l v
      (λ rs s. let c = at_word s.words in (omega arith, omega arith)) (λ rs s. let c = at_word s.words in (omega arith, omega arith)) x.here

  pub leaf_rows : {f : From} {vs : Values} {k form : ℕ} {area : List ℕ} → form ≡ get_or ws at 0 - 1 → SayRows ws (at + 1) form vs area → SayLeaf f ws at vs k (Ok k) area
  unfolding read_leaf IfOk outcome leaf_words leaf_code formed
  leaf_rows {f} {vs} {k} {form} {area} q s = record {
    filled = s.filled;
    means = λ n x h.
        on_rows (λ y. StandsLeaf (scope_in f) n ws at y → read_leaf (names f) (sets f) y vs k ≡ done (set_in area) k) h d l v
        (λ rs g. let e : 0 ≡ form = omega (arith, q, at_word g.words) in ap (λ (i : ℕ). small (formed i (rows_of vs rs)) k) e ∙ s.means n rs (in_finite g) k)
        (λ rs g. let e : 1 ≡ form = omega (arith, q, at_word g.words) in ap (λ (i : ℕ). small (formed i (rows_of vs rs)) k) e ∙ s.means n rs (in_cofinite g) k) h;
  }

module _ (f : From) {ws : List ℕ} {at : ℕ} {vs : Values} {k : ℕ} where
  -- ---- a name

  pub leaf_name : {r : Outcome ℕ Refusal} {area : List ℕ} → get_or ws at 0 ≡ 4 → SayListed f ws (at + 1) vs k r area → SayLeaf f ws at vs k r area
  unfolding read_leaf
  leaf_name {r} {area} c s = record {
    filled = s.filled;
    means = λ n x h. on_listed (λ y. StandsLeaf (scope_in f) n ws at y → read_leaf (names f) (sets f) y vs k ≡ outcome (set_in area) r) h c (λ t m p o g. s.means t m p o (in_listed g)) h;
  }

  pub leaf_name_has : {row : ℕ} {r : Outcome (Bool × ℕ) Refusal} → get_or ws at 0 ≡ 4 → SayListedHas f ws (at + 1) row vs k r → SayLeafHas f ws at row vs k r
  unfolding read_leaf
  leaf_name_has {r} c s = record {
    means = λ n x h m ts g.
        on_listed (λ y. StandsLeaf (scope_in f) n ws at y → after (read_leaf (names f) (sets f) y vs k) (λ z i. done (has z (row_of vs ts)) i) ≡ tested r) h c
        (λ t l p o q. s.means t l p o (in_listed q) m ts g) h;
  }

  -- ---- any leaf: a look into the set that is read for it

  looked_into : {row : ℕ} {set : List ℕ} {used : ℕ} {b : Bool} → ((n : ℕ) (x : Leaf) → StandsLeaf (scope_in f) n ws at x → read_leaf (names f) (sets f) x vs k ≡ done (set_in set) used) →
      SayHas ws row vs set b → SayLeafHas f ws at row vs k (Ok (b, used))
  unfolding after tested
  looked_into {used} reads s = record {
    means = λ n x h m ts g.
        ap (λ (a : Result RowSet). after a (λ z i. done (has z (row_of vs ts)) i)) (reads n x h) ∙ ap (λ (b : Bool). done b used) (s.means m ts g);
  }

  module _ {area : List ℕ} where
    pub leaf_refused : {row : ℕ} {x : Refusal} → SayLeaf f ws at vs k (Err x) area → SayLeafHas f ws at row vs k (Err x)
    unfolding after outcome tested
    leaf_refused says = record { means = λ n x h m ts g. ap (λ (u : Result RowSet). after u (λ z i. done (has z (row_of vs ts)) i)) (says.means n x h) }

    module _ {used : ℕ} (says : SayLeaf f ws at vs k (Ok used) area) where
      pub leaf_filled : Filled area
      unfolding IfOk
      leaf_filled = says.filled

      pub leaf_looked : {row : ℕ} {b : Bool} → SayHas ws row vs area b → SayLeafHas f ws at row vs k (Ok (b, used))
      unfolding outcome
      leaf_looked = looked_into (λ n x h. says.means n x h)

-- ---- a definition

module _ (f : From) {ws : List ℕ} {at d : ℕ} {set : List ℕ} (c : get_or ws at 0 ≡ 3) (number : d ≡ get_or ws (at + 1) 0) (s : SayDefinition f.known d f.defs set) where
  definition_read : (vs : Values) (k n : ℕ) (x : Leaf) → StandsLeaf (scope_in f) n ws at x → read_leaf (names f) (sets f) x vs k ≡ done (set_in set) k
  unfolding read_leaf
  definition_read vs k n x h =
      on_definition (λ y. StandsLeaf (scope_in f) n ws at y → read_leaf (names f) (sets f) y vs k ≡ done (set_in set) k) h c
      (λ e g. ap (λ (z : RowSet). done z k) (ap (λ (i : ℕ). get_or (sets f) i (only [])) (sym (number ∙ (in_definition g).number)) ∙ sym s.means)) h

  pub leaf_definition : {vs : Values} {k : ℕ} (to : List ℕ) {area : List ℕ} → 642 ≤ length to → area ≡ written (set_in set) to → SayLeaf f ws at vs k (Ok k) area
  unfolding IfOk outcome
  leaf_definition {vs} {k} to {area} long e =
      let z = copied_stands set s.filled.sound to long e in
      record { filled = stands_filled z; means = λ n x h. definition_read vs k n x h ∙ ap (λ (y : RowSet). done y k) (sym z.set) }

  pub leaf_definition_has : {vs : Values} {k row : ℕ} {b : Bool} → SayHas ws row vs set b → SayLeafHas f ws at row vs k (Ok (b, k))
  leaf_definition_has {vs} {k} = looked_into f (definition_read vs k)
