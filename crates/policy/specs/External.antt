-- Document 02, N2: "the external language of source document 000, section 6": which policies are external, the words that one is rewritten into, and the
-- refusals. N7: our own names are guarded as all others are. (To vet is our word for what becomes of a code 4; an external policy's compromised keys are the rows of its definition 0.)
use Rattle.std.specs.Prelude.{ℕ, ◌+◌, ◌*◌, Bool, true, false, ◌&&◌, List, [], ◌∷◌, ◌++◌, leb, eqb, length, drop}
use Rattle.refusals.specs.RefusalTable.{short_area, not_external, no_part}
use Rattle.rows.specs.Name.{Polarity, plus, minus, same_polarity}
use Rattle.policy.specs.Leaf.{Leaf, finite, cofinite, definition, listed, vetted}
use Rattle.policy.specs.Syntax.{Expr, leaf, union, difference, comprehension, Body, head, draw, same, different, absent}
use Rattle.policy.specs.Words.{each, expr_words}
use Rattle.policy.specs.Format.{format_of}
use Rattle.policy.specs.Table.{Entry}
use Rattle.policy.specs.Definitions.{passed, check_policy}
use Rattle.policy.specs.Definitions as Definitions

-- ---- the rules

-- "reads only − names", "reads only + names"; "Difference, absent guards and code 8 appear in none."
unfoldable pub external_leaf : Polarity → Leaf → Bool
external_leaf p (finite rs) = true
external_leaf p (cofinite rs) = true
external_leaf p (definition d) = true  -- of a definition that is read, refusal 6 has asked for the polarity
external_leaf p (listed t n q o) = same_polarity q p
external_leaf p (vetted t n o d) = false

unfoldable mutual
  unfolding external_leaf

  pub external_expr : Polarity → Expr → Bool
  external_expr p (leaf x) = external_leaf p x
  external_expr p (union a b) = external_expr p a && external_expr p b
  external_expr p (difference a b) = false
  external_expr p (comprehension b) = external_body p b

  pub external_body : Polarity → Body → Bool
  external_body p (head r) = true
  external_body p (draw e s b) = external_expr p e && external_body p b
  external_body p (same x y b) = external_body p b
  external_body p (different x y b) = external_body p b
  external_body p (absent r e b) = false

-- "the negative name 0, which lists compromised keys"
unfoldable pub lists_keys : Entry → Bool
lists_keys x = eqb x.name 0 && eqb x.polarity 1

-- "An external policy's definition 0 may be" it
unfoldable pub keys_listed : List Entry → Bool
unfolding lists_keys
keys_listed [] = false
keys_listed (x ∷ xs) = lists_keys x

-- "every other one is + and reads only + names"
unfoldable pub all_plus : List Entry → List Expr → Bool
unfolding external_expr
all_plus [] es = true
all_plus (x ∷ xs) [] = true
all_plus (x ∷ xs) (e ∷ es) = (eqb x.polarity 0 && external_expr plus e) && all_plus xs es

-- "That definition reads only − names"
unfoldable pub is_external : List Entry → List Expr → Bool
unfolding lists_keys external_expr all_plus
is_external [] es = true
is_external (x ∷ xs) [] = true
is_external (x ∷ xs) (e ∷ es) = elim (lists_keys x) [ true ↦ external_expr minus e && all_plus xs es | false ↦ all_plus (x ∷ xs) (e ∷ es) ]

-- ---- the output

-- "Each code 4 in a later definition becomes code 8 with the same words and then a definition's number, here 0". (No later definition reads a − name.)
unfoldable pub vet_leaf : Leaf → Leaf
vet_leaf (finite rs) = finite rs
vet_leaf (cofinite rs) = cofinite rs
vet_leaf (definition d) = definition d
vet_leaf (listed t n plus o) = vetted t n o 0
vet_leaf (listed t n minus o) = listed t n minus o
vet_leaf (vetted t n o d) = vetted t n o d

-- an expression with each of its leaves changed
module _ (f : Leaf → Leaf) where
  unfoldable mutual
    pub each_leaf : Expr → Expr
    each_leaf (leaf x) = leaf (f x)
    each_leaf (union a b) = union (each_leaf a) (each_leaf b)
    each_leaf (difference a b) = difference (each_leaf a) (each_leaf b)
    each_leaf (comprehension b) = comprehension (each_leaf_in b)

    pub each_leaf_in : Body → Body
    each_leaf_in (head r) = head r
    each_leaf_in (draw e s b) = draw (each_leaf e) s (each_leaf_in b)
    each_leaf_in (same x y b) = same x y (each_leaf_in b)
    each_leaf_in (different x y b) = different x y (each_leaf_in b)
    each_leaf_in (absent r e b) = absent r (each_leaf e) (each_leaf_in b)

abbrev pub vet : Expr → Expr
vet = each_leaf vet_leaf

abbrev pub vet_body : Body → Body
vet_body = each_leaf_in vet_leaf

unfoldable pub vet_all : List Expr → List Expr
unfolding vet_leaf each_leaf
vet_all [] = []
vet_all (e ∷ es) = vet e ∷ vet_all es

-- definition 0 stays as it is
unfoldable pub vet_later : List Expr → List Expr
unfolding vet_all
vet_later [] = []
vet_later (e ∷ es) = e ∷ vet_all es

-- the entry of a part that stands elsewhere
abbrev pub moved : Entry → ℕ → ℕ → Entry
moved x due size = record { name = x.name; polarity = x.polarity; offset = due; size = size }

-- the table's entries for these expressions, the first of them at word `due`
unfoldable pub placed : ℕ → List Entry → List Expr → List Entry
unfolding expr_words
placed due [] es = []
placed due (x ∷ xs) [] = []
placed due (x ∷ xs) (e ∷ es) = moved x due (length (expr_words e 0)) ∷ placed (due + length (expr_words e 0)) xs es

-- "four words each: name, polarity, offset, length"
unfoldable pub entry_four : Entry → List ℕ
entry_four x = x.name ∷ x.polarity ∷ x.offset ∷ x.size ∷ []

-- the expressions' words, one after the other
unfoldable pub parts : List Expr → List ℕ
unfolding each expr_words
parts es = each (λ e. expr_words e 0) es

-- the policy of these definitions, in this format
unfoldable pub policy_words : ℕ → List Entry → List Expr → List ℕ
unfolding each entry_four placed parts
policy_words format xs es = format ∷ length xs ∷ (each entry_four (placed (2 + 4 * length xs) xs es) ++ parts es)

-- "Without a definition of name 0 −, the output equals the input." With one it keeps the input's format (N6), for its patterns are to match as before.
unfoldable pub output : List ℕ → List Entry → List Expr → List ℕ
unfolding keys_listed policy_words vet_later
output policy xs es = elim (keys_listed xs) [ true ↦ policy_words (format_of policy) xs (vet_later es) | false ↦ policy ]

-- ---- the refusals

-- the output, or the refusal's number and part
pub data Rewriting : Type 0 where
  rewritten : List ℕ → Rewriting
  refused : ℕ → ℕ → Rewriting

-- "15, an external rule is broken or the output would pass 8,192 words, after 7"
unfoldable pub rewrite : ℕ → List ℕ → Rewriting
unfolding check_policy is_external output
rewrite ours policy = elim (check_policy ours policy) [
  | passed xs es ks ↦ elim (is_external xs es && leb (length (output policy xs es)) 8192) [
    | true ↦ rewritten (output policy xs es)
    | false ↦ refused not_external no_part
  ]
  | Definitions.refused n part ↦ refused n part
]

-- "an output area too short gets 11 after that"
unfoldable pub rewrite_into : ℕ → List ℕ → List ℕ → Rewriting
unfolding rewrite
rewrite_into ours policy area = elim (rewrite ours policy) [
  | rewritten out ↦ elim (leb (length out) (length area)) [ true ↦ rewritten out | false ↦ refused short_area no_part ]
  | refused n part ↦ refused n part
]

-- "every refusal leaves the area unchanged. Words past the output stay"
unfoldable pub area_after : Rewriting → List ℕ → List ℕ
area_after (rewritten out) area = out ++ drop (length out) area
area_after (refused n part) area = area
