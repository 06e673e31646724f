-- Document 01, "Expressions, in prefix order" and the refusal table: readers of words, terms and rows, with refusals 3 and 4 "at the first word in order".
-- A reader takes words off the front; its state is the words left and the count of draws met so far.
use Rattle.std.specs.Prelude.{ℕ, zero, suc, Bool, true, false, ◌&&◌, List, [], ◌∷◌, leb, ltb}
use Rattle.refusals.specs.RefusalTable.{bad_word, not_in_scope}
use Rattle.rows.specs.Row.{is_key}
use Rattle.rows.specs.Name.{Polarity, is_polarity, polarity_of}
use Rattle.policy.specs.Terms.{Term, atom, var}

infixl 1 ◌>>=◌ ◌>>◌
pub data Read (A : Type 0) : Type 0 where
  got : A → List ℕ → ℕ → Read A  -- the value, the words left, the draws met
  refused : ℕ → Read A

abbrev pub Reader : Type 0 → Type 0
Reader A = List ℕ → ℕ → Read A

abbrev pub after : {A B : Type 0} → Read A → (A → Reader B) → Read B
after (got a ws k) f = f a ws k
after (refused n) f = refused n

abbrev pub ◌>>=◌ : {A B : Type 0} → Reader A → (A → Reader B) → Reader B
◌>>=◌ m f = λ ws k. after (m ws k) f

abbrev pub ◌>>◌ : {A B : Type 0} → Reader A → Reader B → Reader B
◌>>◌ m n = λ ws k. after (m ws k) (λ _. n)

abbrev pub give : {A : Type 0} → A → Reader A
give a = λ ws k. got a ws k

abbrev pub refuse : {A : Type 0} → ℕ → Reader A
refuse n = λ ws k. refused n

-- refused with n unless the test passes
abbrev pub need : ℕ → Bool → Reader (Unit {0})
need n true = give tt
need n false = refuse n

-- the next word; "words run out" is 3
abbrev pub word : Reader ℕ
word = λ ws k. elim ws [ [] ↦ refused bad_word | w ∷ rest ↦ got w rest k ]

-- a word that keeps a rule, else n
unfoldable pub word_where : ℕ → (ℕ → Bool) → Reader ℕ
word_where n rule = do
  w ← word
  need n (rule w)
  give w

-- n things, one after the other
unfoldable pub times : {A : Type 0} → ℕ → Reader A → Reader (List A)
times zero m = give []
times (suc n) m = do
  a ← m
  rest ← times n m
  give (a ∷ rest)

unfoldable pub polarity : Reader Polarity
unfolding word_where
polarity = do
  w ← word_where bad_word is_polarity
  give (polarity_of w)

-- the tag of a term or a slot
pub data Tag : Type 0 where
  is_atom is_var is_new no_tag : Tag

unfoldable pub tag_of : ℕ → Tag
tag_of zero = is_atom
tag_of (suc zero) = is_var
tag_of (suc (suc zero)) = is_new
tag_of (suc (suc (suc n))) = no_tag

-- the word after a term's tag, n variables being in scope; atoms keep the rule given
unfoldable pub term_as : (ℕ → Bool) → ℕ → Tag → Reader Term
unfolding word_where
term_as rule n is_atom = do
  a ← word_where bad_word rule
  give (atom a)
term_as rule n is_var = do
  v ← word_where not_in_scope (λ v. ltb v n)
  give (var v)
term_as rule n is_new = refuse bad_word
term_as rule n no_tag = refuse bad_word

unfoldable pub any_atom : ℕ → Bool
any_atom a = true

unfoldable pub term : ℕ → Reader Term
unfolding term_as any_atom tag_of
term n = do
  t ← word
  term_as any_atom n (tag_of t)

-- "a fixed issuer that is a number" is 3
unfoldable pub issuer : ℕ → Reader Term
unfolding term_as tag_of
issuer n = do
  t ← word
  term_as is_key n (tag_of t)

unfoldable pub width : Reader ℕ
unfolding word_where
width = word_where bad_word (λ w. leb 1 w && leb w 4)

unfoldable pub row : ℕ → Reader (List Term)
unfolding width times term
row n = do
  w ← width
  times w (term n)

unfoldable pub rows : ℕ → Reader (List (List Term))
unfolding word_where times row
rows n = do
  c ← word_where bad_word (λ c. leb c 128)
  times c (row n)
