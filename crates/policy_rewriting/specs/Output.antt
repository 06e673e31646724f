-- What the code answers of a whole policy: its output, measured and laid, and the reply of `rewrite`.
use Rattle.std.specs.Prelude.{ℕ, zero, suc, ◌+◌, ◌≤◌, ◌≡◌, Bool, true, false, ◌&&◌, Option, Some, None, Result, Ok, Err, List, [], ◌∷◌, length, get_or}
use Rattle.refusals.specs.RefusalTable.{no_part}
use Rattle.refusals.specs.Numbers.{number}
use Rattle.refusals.specs.declared.Refusal.{Refusal}
use Rattle.rows.specs.Name.{Polarity, plus, minus, polarity_of}
use Rattle.policy.specs.OwnKey.{Scope}
use Rattle.policy.specs.Syntax.{Expr}
use Rattle.policy.specs.Words.{expr_words}
use Rattle.policy.specs.Parse.{parsed, parse}
use Rattle.policy.specs.Polarity.{Known}
use Rattle.policy.specs.Format.{format_of}
use Rattle.policy.specs.Table.{Entry, entry_at, entry_words}
use Rattle.policy.specs.Definitions.{passed, check_policy}
use Rattle.policy.specs.External.{external_expr, keys_listed, is_external, output, Rewriting, rewritten, refused, rewrite_into, area_after}
use Rattle.policy_table.specs.Entries.{entry_place}
use Rattle.policy_rewriting.specs.Laid.{laid}
use Rattle.policy_rewriting.specs.Walks.{out, Vetted, Walked, Roomy}

-- a policy that passed 20 and 1 to 7, under this key of ours. (The walk goes by the words alone: what it answers, it answers whatever our key was.)
pub record Passing (policy : List ℕ) : Type 0 where
  pub ours : ℕ
  pub entries : List Entry
  pub exprs : List Expr
  pub known : List Known
  pub passes : check_policy ours policy ≡ passed entries exprs known

pub record SayKeys (policy : List ℕ) (r : Bool) : Type 0 where
  pub says : (g : Passing policy) → r ≡ keys_listed g.entries

-- may definition i have this polarity: − is for definition 0 alone, where that lists compromised keys
unfoldable pub may_be : Bool → ℕ → Polarity → Bool
may_be keys i plus = true
may_be true zero minus = true
may_be true (suc i) minus = false
may_be false i minus = false

abbrev pub sign : Entry → Polarity
sign x = polarity_of x.polarity

-- definition i stands in the policy, and its output has room from word `to` on
pub record AskDefinition (policy : List ℕ) (i to : ℕ) : Type 0 where
  pub few : i ≤ 15
  pub inside : entry_place i + 4 ≤ length policy
  pub ends : (entry_at policy (entry_place i)).offset + (entry_at policy (entry_place i)).size ≤ length policy
  pub scope : Scope
  pub expr : Expr
  pub parses : parse scope (entry_words policy (entry_at policy (entry_place i))) ≡ parsed expr
  pub room : Roomy (entry_words policy (entry_at policy (entry_place i))) 0 to

pub record WalkedDefinition (keys : Bool) (policy : List ℕ) (i to : ℕ) (before : List ℕ) (r : Vetted) (after : List ℕ) : Type 0 where
  pub walked : (scope : Scope) (e : Expr) → parse scope (entry_words policy (entry_at policy (entry_place i))) ≡ parsed e →
      let p = sign (entry_at policy (entry_place i)) in
      Walked (may_be keys i p && external_expr p e) 0 (length (expr_words e 0)) to (expr_words (out keys p e) 0) before r after

-- a policy's first two words, which its output keeps: the format, and the count of definitions
abbrev pub header_of : List ℕ → List ℕ
header_of policy = format_of policy ∷ get_or policy 1 0 ∷ []

-- the output's length, the output being laid from the first word on; or the policy is not external
unfoldable pub MeasuredAs : Bool → List ℕ → List ℕ → Option ℕ → List ℕ → Type 0
MeasuredAs external ws before (Some n) after = (external ≡ true) × (n ≡ length ws) × (after ≡ laid 0 ws before)
MeasuredAs external ws before None after = external ≡ false

pub record SayWords (policy before : List ℕ) (r : Option ℕ) (after : List ℕ) : Type 0 where
  pub says : (g : Passing policy) → MeasuredAs (is_external g.entries g.exprs) (output policy g.entries g.exprs) before r after

-- what is told of a rewriting: the output's length, or the refusal; the output's words stand in the area
unfoldable pub rewritten_for : Rewriting → Result ℕ (ℕ × ℕ)
rewritten_for (rewritten ws) = Ok (length ws)
rewritten_for (refused n part) = Err (n, part)

-- the reply and the area after it, as defined
abbrev pub RepliedAs : ℕ → List ℕ → List ℕ → Result ℕ (ℕ × ℕ) → List ℕ → Type 0
RepliedAs ours policy before r after = (r ≡ rewritten_for (rewrite_into ours policy before)) × (after ≡ area_after (rewrite_into ours policy before) before)

-- 15 and 11 are about neither a definition nor the query
abbrev pub replied : Result ℕ Refusal → Result ℕ (ℕ × ℕ)
replied (Ok n) = Ok n
replied (Err r) = Err (number r, no_part)

pub record SayReply (policy before : List ℕ) (r : Result ℕ Refusal) (after : List ℕ) : Type 0 where
  pub says : (g : Passing policy) → RepliedAs g.ours policy before (replied r) after
