-- Terms come to words, rows of terms to rows.
use Prim.Native.Nat.{ℕ, zero, suc, ◌≤◌}
use mathlib.Core.Path.{◌≡◌}
use mathlib.Core.List.{List, [], ◌∷◌, map}
use native.Mathlib.Omega.{arith}
use lib.Dec.{lit<}
use lib.ListN.{length, get_or, length-map}
use Rattle.rows.specs.Word.{All, IsWord, Words}
use Rattle.rows.specs.Row.{IsRow}
use Rattle.rows.proofs.Lists.{all_left, all_right}
use Rattle.policy.specs.Syntax.{Term, atom, var}
use Rattle.policy.specs.Words.{term_words, each, term_row_words}
use Rattle.policy.specs.WellFormed.{FitRow}
use Rattle.meaning.specs.Values.{Values, value, row_of}

word_at : (vs : Values) → Words vs → (i : ℕ) → IsWord (get_or vs i 0)
unfolding All
word_at [] w i = lit< tt
word_at (v ∷ vs) w zero = w.0
word_at (v ∷ vs) w (suc i) = word_at vs w.1 i

pub value_word : (vs : Values) → Words vs → (t : Term) → Words (term_words t) → IsWord (value vs t)
unfolding value term_words All
value_word vs w (atom a) t = t.1.0
value_word vs w (var i) t = word_at vs w i

values_words : (vs : Values) → Words vs → (ts : List Term) → Words (each term_words ts) → Words (row_of vs ts)
unfolding row_of each All
values_words vs w [] t = tt
values_words vs w (x ∷ ts) t = (value_word vs w x (all_left IsWord (term_words x) _ t), values_words vs w ts (all_right IsWord (term_words x) _ t))

pub row_of_terms : (n : ℕ) (vs : Values) → Words vs → (ts : List Term) → FitRow n ts → Words (term_row_words ts) → IsRow (row_of vs ts)
unfolding row_of term_row_words All
row_of_terms n vs w ts f t =
    let l : length (map (value vs) ts) ≡ length ts = length-map ts (value vs) in
    let some : 1 ≤ length ts = f.some in
    let few : length ts ≤ 4 = f.few in
    record { some = omega arith; few = omega arith; words = values_words vs w ts t.1 }
