-- Document 01, "Expressions, in prefix order": terms and rows of terms, their words, and the rules that they keep.
use Rattle.std.specs.Prelude.{ℕ, ◌≤◌, ◌<◌, List, [], ◌∷◌, ◌++◌, T, length}
use Rattle.rows.specs.Word.{All}
use Rattle.rows.specs.Row.{is_key}

-- "A term is 0 and an atom, or 1 and a variable number."
pub data Term : Type 0 where
  atom : ℕ → Term
  var : ℕ → Term

unfoldable pub term_words : Term → List ℕ
term_words (atom a) = 0 ∷ a ∷ []
term_words (var i) = 1 ∷ i ∷ []

-- the words of each, one after the other
unfoldable pub each : {A : Type 0} → (A → List ℕ) → List A → List ℕ
each f [] = []
each f (x ∷ xs) = f x ++ each f xs

-- "A row is a width and its terms."
unfoldable pub term_row_words : List Term → List ℕ
unfolding each term_words
term_row_words ts = length ts ∷ each term_words ts

-- a variable is in scope: n of them are
unfoldable pub FitTerm : ℕ → Term → Type 0
FitTerm n (atom a) = Unit {0}
FitTerm n (var i) = i < n

-- a fixed issuer is a key
unfoldable pub FitIssuer : ℕ → Term → Type 0
FitIssuer n (atom a) = T (is_key a)
FitIssuer n (var i) = i < n

pub record FitRow (n : ℕ) (ts : List Term) : Type 0 where
  pub some : 1 ≤ length ts
  pub few : length ts ≤ 4
  pub terms : All (FitTerm n) ts

pub record FitRows (n : ℕ) (rs : List (List Term)) : Type 0 where
  pub few : length rs ≤ 128
  pub rows : All (FitRow n) rs
