-- Document 02, N2: "The rewritten policy means what the source's transformation means. Without a definition of name 0 −, the output equals the input."
-- With N6 it means that in the policy's format, which it keeps; with N7 an own name is an e$u as others are, e being our key: it stands for its definition, as
-- that is transformed.
use Rattle.std.specs.Prelude.{ℕ, ◌≤◌, ◌<◌, ◌≡◌, ◌⊎◌, ◌↔◌, true, false, List, [], ◌∷◌, map, T, length, get_or}
use Rattle.rows.specs.Word.{All, Words}
use Rattle.rows.specs.Row.{Row, IsRow}
use Rattle.rows.specs.Name.{plus}
use Rattle.rows.specs.Sets.{RowSet, has}
use Rattle.certificates.specs.Stores.{AnyFiling, Stores, stores_at, held_after}
use Rattle.policy.specs.Format.{format_of}
use Rattle.policy.specs.OwnKey.{Origin}
use Rattle.policy.specs.Leaf.{finite, listed}
use Rattle.policy.specs.Syntax.{atom, Expr, leaf}
use Rattle.policy.specs.Polarity.{Known, lower}
use Rattle.policy.specs.Table.{Entry}
use Rattle.policy.specs.Definitions.{passed, check_policy}
use Rattle.policy.specs.External.{keys_listed, rewritten, rewrite}
use Rattle.meaning.specs.World.{World, AllTrue}
use Rattle.meaning.specs.Belonging.{Names, InName, Meanings, BelongsBy, Belongs, meanings_by, meanings}
use Rattle.demands.specs.Query.{answered, Call, query_call}
use Rattle.demands.specs.Demand2.{CallWords}
use Rattle.demands.specs.Demand3.{EmptyStores, Point, FiledWords}

-- ---- the source's transformation

-- Source document 000, section 3: "expressions of the form e$u into {x | e ∉ Compromised, x ∈ e$u}", for each key e and name u
unfoldable pub uncompromised : (Row → Type 0) → Names → Names
uncompromised Compromised names defs e u p o x = (¬ Compromised (e ∷ [])) × names defs e u p o x

-- section 6: "replacing each subexpression e$u of a positive definition by" that. "The optional distinguished name, Compromised⁻" is definition 0, and every
-- other definition is positive.
unfoldable pub transformed : ℕ → World → List Entry → List Expr → Meanings
unfolding keys_listed uncompromised BelongsBy meanings_by InName
transformed format W entries [] = []
transformed format W entries (e ∷ es) =
    let Compromised = Belongs format W [] e [] in
    elim (keys_listed entries) [
      | true ↦ meanings_by format (uncompromised Compromised (InName W)) es (Compromised ∷ [])
      | false ↦ meanings format W (e ∷ es) []
    ]

-- ---- what an accepted external policy is rewritten into

-- "The resulting program will have a negative definition for Compromised⁻, and positive definitions for positive names": each definition is declared +, but
-- for the first where that is name 0 −
unfoldable pub Positive : List Entry → Type 0
unfolding All
Positive [] = Unit {0}
Positive (x ∷ xs) = ((x.polarity ≡ 0) ⊎ ((x.name ≡ 0) × (x.polarity ≡ 1))) × All (λ y. y.polarity ≡ 0) xs

-- an external policy and its output, under one key of ours
pub record Means (ours : ℕ) (policy out : List ℕ) : Type 1 where
  -- the definitions of the policy
  pub entries : List Entry
  pub source : List Expr
  pub known : List Known
  pub checks : check_policy ours policy ≡ passed entries source known
  -- "so it satisfies our polarity discipline": the output passes 1 to 7 and has no more than 8,192 words
  pub places : List Entry
  pub target : List Expr
  pub passes : check_policy ours out ≡ passed places target known
  pub short : length out ≤ 8192
  pub words : Words policy → Words out
  -- it keeps the policy's format
  pub format : format_of out ≡ format_of policy
  -- its definitions are as many, of the same names and polarities
  pub count : length target ≡ length source
  pub names : map (λ x. x.name) places ≡ map (λ x. x.name) entries
  pub polarities : map (λ x. x.polarity) places ≡ map (λ x. x.polarity) entries
  pub positive : Positive places
  -- in every world each definition, read in the output's format, has just the rows that the source's transformation of it has in the policy's
  pub same : (W : World) (d : ℕ) (r : Row) → get_or (meanings (format_of out) W target []) d (λ x. ⊥) r ↔ get_or (transformed (format_of policy) W entries source) d (λ x. ⊥) r

abbrev pub Theorem : Type 1
Theorem = (ours : ℕ) (policy out : List ℕ) → rewrite ours policy ≡ rewritten out → Means ours policy out

-- "Without a definition of name 0 −, the output equals the input."
abbrev pub Unchanged : Type 0
Unchanged = (ours : ℕ) (policy out : List ℕ) (entries : List Entry) (source : List Expr) (known : List Known) → check_policy ours policy ≡ passed entries source known →
    keys_listed entries ≡ false → rewrite ours policy ≡ rewritten out → out ≡ policy

-- ---- what a curator can rely on: "compromised keys are not relied on in determining the user's policies"

-- a lower answer to "definition d" (3 d) under the output of an external policy, with the same key of ours, at a point of a list of filings into two empty
-- stores, as in demand 3
pub record LowerAnswer (ours : ℕ) (policy : List ℕ) (d : ℕ) (S : RowSet) : Type 0 where
  pub out : List ℕ
  pub rewrites : rewrite ours policy ≡ rewritten out
  pub stores : Stores
  pub empty : EmptyStores stores
  pub filings : List AnyFiling
  pub filed : FiledWords filings
  pub point : Point filings
  pub call : Call
  pub words : CallWords call
  pub policy_is : call.policy ≡ out
  pub query_is : call.query ≡ 3 ∷ d ∷ []
  pub key_is : call.our_key ≡ ours
  pub draws : ℕ
  pub answer : query_call (stores_at stores point.passed) call ≡ answered lower draws S

-- one key's names left out, our own too
unfoldable pub without : ℕ → Names → Names
without key names defs e u p o x = (¬ (e ≡ key)) × names defs e u p o x

-- the definitions, that key's names left out of all but the compromised keys'
unfoldable pub without_key : ℕ → ℕ → World → List Expr → Meanings
unfolding without BelongsBy meanings_by InName
without_key format key W [] = []
without_key format key W (e ∷ es) = meanings_by format (without key (InName W)) es (Belongs format W [] e [] ∷ [])

-- A row that compromised keys alone would bring in is in no lower answer to the query 3 d. (Where a link says that a list of another key contains one of a
-- compromised key, that other key brings the row in.)
pub record NoneByCompromised (ours : ℕ) (policy : List ℕ) (entries : List Entry) (source : List Expr) (d : ℕ) (S : RowSet) (a : LowerAnswer ours policy d S) : Type 1 where
  -- in every world where all certificates accepted so far that hold at the call's minute, and all links accepted, are true, each of its rows belongs to the
  -- source's transformation of the definition
  pub rows : (W : World) → AllTrue W (held_after a.call.minute a.point.passed) → (r : Row) → IsRow r → T (has S r) → get_or (transformed (format_of policy) W entries source) d (λ x. ⊥) r
  -- a key that is compromised in one such world brings none of them in: each belongs to the definition there without that key's names
  pub not_by_key : keys_listed entries ≡ true → (W : World) → AllTrue W (held_after a.call.minute a.point.passed) → (key : ℕ) → get_or (meanings (format_of policy) W source []) 0 (λ x. ⊥) (key ∷ []) →
      (r : Row) → IsRow r → T (has S r) → get_or (without_key (format_of policy) key W source) d (λ x. ⊥) r
  -- so where the definition is a name of that key and nothing else, the answer has no row at all
  pub no_row : keys_listed entries ≡ true → (W : World) → AllTrue W (held_after a.call.minute a.point.passed) → (key : ℕ) → get_or (meanings (format_of policy) W source []) 0 (λ x. ⊥) (key ∷ []) →
      (n : ℕ) (o : Origin) → 0 < d → get_or source d (leaf (finite [])) ≡ leaf (listed (atom key) n plus o) → (r : Row) → IsRow r → ¬ T (has S r)

abbrev pub NotReliedOn : Type 1
NotReliedOn = (ours : ℕ) (policy : List ℕ) (entries : List Entry) (source : List Expr) (known : List Known) → check_policy ours policy ≡ passed entries source known →
    (d : ℕ) (S : RowSet) (a : LowerAnswer ours policy d S) → NoneByCompromised ours policy entries source d S a
