-- A row of terms: the row that they come to, atom by atom.
use Prim.Native.Nat.{ℕ, zero, suc, ◌+◌, ◌*◌, ◌≤◌, ◌<◌}
use mathlib.Core.Path.{◌≡◌, refl, sym, ap, subst, ◌∙◌}
use mathlib.Core.List.{List, [], ◌∷◌}
use native.Mathlib.Omega.{arith}
use lib.ListN.{length, take, get_or, length-map, get_or-map, get_or-eq_default}
use Rattle.rows.specs.Row.{Row}
use Rattle.rows.specs.Layout.{row_in}
use Rattle.row_words.specs.Values as held
use Rattle.row_words.specs.Values.{five_is}
use Rattle.policy.specs.Syntax.{Term, atom}
use Rattle.policy.specs.Words.{term_words, each, term_row_words}
use Rattle.meaning.specs.Values.{Values, value, row_of}
use Rattle.policy.specs.Held.{term_is}
use Rattle.policy_places.specs.Places.{At, StandsRow, SomeRow, IsTerm}
use Rattle.read_values.specs.Rows.{SayAtom, SayRow}
use Rattle.policy_places.proofs.Places.{at_next, at_skip, at_front, term_length, row_wide, row_width}
use Rattle.policy.specs.declared.Term as HeldTerm

nth_term : {ws : List ℕ} (at : ℕ) (ts : List Term) (j : ℕ) → At ws at (each term_words ts) → j < length ts → At ws (at + 2 * j) (term_words (get_or ts j (atom 0)))
unfolding each
nth_term at [] j h k = absurd (omega arith)
nth_term {ws} at (t ∷ ts) zero h k = let e : at ≡ at + 2 * 0 = omega arith in subst (λ (p : ℕ). At ws p (term_words t)) e (at_front (term_words t) (each term_words ts) h)
nth_term {ws} at (t ∷ ts) (suc j) h k =
    let l = term_length t in
    let e : at + length (term_words t) + 2 * j ≡ at + 2 * suc j = omega arith in
    subst (λ (p : ℕ). At ws p (term_words (get_or ts j (atom 0)))) e (nth_term (at + length (term_words t)) ts j (at_skip (term_words t) (each term_words ts) h) (omega arith))

term_here : {n : ℕ} {ws : List ℕ} {at : ℕ} {ts : List Term} (j : ℕ) → StandsRow n ws at ts → j < length ts → At ws (at + 1 + 2 * j) (term_words (get_or ts j (atom 0)))
unfolding term_row_words
term_here {at} {ts} j s h = nth_term (at + 1) ts j (at_next s.words) h

nth_value : (vs : Values) (ts : List Term) (j : ℕ) → j < length ts → get_or (row_of vs ts) j 0 ≡ value vs (get_or ts j (atom 0))
unfolding row_of value
nth_value vs ts j h = get_or-map (value vs) ts j (atom 0)

pub row_of_length : (vs : Values) (ts : List Term) → length (row_of vs ts) ≡ length ts
unfolding row_of
row_of_length vs ts = length-map ts (value vs)

module _ {ws : List ℕ} {at : ℕ} {vs : Values} {j : ℕ} where
  pub term_atom : {x : HeldTerm.Term} → j < get_or ws at 0 → IsTerm ws (at + 1 + 2 * j) x → SayAtom ws at vs j (value vs (term_is x))
  term_atom less i = record {
    means = λ n ts s.
        let w = (row_wide s).width in
        let t : Term = get_or ts j (atom 0) in
        nth_value vs ts j (omega arith) ∙ sym (ap (value vs) (i.is t (term_here j s (omega arith))));
  }

  pub no_atom : get_or ws at 0 ≤ j → SayAtom ws at vs j 0
  no_atom all = record { means = λ n ts s. let w = (row_wide s).width in get_or-eq_default (row_of vs ts) 0 (omega (arith, row_of_length vs ts)) }

four_atoms : (xs : Row) → length xs ≤ 4 → take (length xs) (get_or xs 0 0 ∷ get_or xs 1 0 ∷ get_or xs 2 0 ∷ get_or xs 3 0 ∷ []) ≡ xs
four_atoms [] h = refl
four_atoms (a ∷ []) h = refl
four_atoms (a ∷ b ∷ []) h = refl
four_atoms (a ∷ b ∷ c ∷ []) h = refl
four_atoms (a ∷ b ∷ c ∷ d ∷ []) h = refl
four_atoms (a ∷ b ∷ c ∷ d ∷ e ∷ xs) h = absurd (omega arith)

pub row_of_atoms : {ws : List ℕ} {at : ℕ} {vs : Values} {a b c d : ℕ} → SomeRow ws at → SayAtom ws at vs 0 a → SayAtom ws at vs 1 b → SayAtom ws at vs 2 c → SayAtom ws at vs 3 d →
    SayRow ws at vs (record { width = get_or ws at 0; atoms = a ∷ b ∷ c ∷ d ∷ [] })
unfolding held.row_is five_is row_in
row_of_atoms {ws} {at} {vs} some a b c d =
    let w = row_width some in
    record {
      some = w.some;
      few = w.few;
      means = λ n ts s.
          let width = (row_wide s).width in
          let l = row_of_length vs ts in
          let e : get_or ws at 0 ≡ length (row_of vs ts) = width ∙ sym l in
          rw (e, sym (a.means n ts s), sym (b.means n ts s), sym (c.means n ts s), sym (d.means n ts s)) (four_atoms (row_of vs ts) (omega (arith, (row_wide s).few)));
    }
