-- What the walk over a checked definition answers: whether it keeps the external rules; and if so, which words it has laid.
use Rattle.std.specs.Prelude.{ℕ, ◌+◌, ◌*◌, ◌-◌, ◌≤◌, ◌≡◌, ◌≢◌, Bool, true, false, Option, Some, None, MatchOption, List, length}
use Rattle.rows.specs.Name.{Polarity, plus, minus}
use Rattle.policy.specs.OwnKey.{Scope}
use Rattle.policy.specs.Leaf.{Leaf, leaf_words}
use Rattle.policy.specs.Syntax.{Expr, Body}
use Rattle.policy.specs.Words.{expr_words, body_words}
use Rattle.policy.specs.External.{external_leaf, external_expr, external_body, vet_leaf, each_leaf, each_leaf_in}
use Rattle.policy_places.specs.Places.{StandsLeaf, Stands, StandsBody}
use Rattle.policy_rewriting.specs.Laid.{laid}
use Rattle.policy.specs.Codes.{code_number, guard_number}
use Rattle.policy.specs.declared.codes.Code.{Code}
use Rattle.policy.specs.declared.codes.GuardCode.{GuardCode}
use Rattle.policy_rewriting.specs.declared.vetting.Laid as Held

-- the code that stands there, unless it is this one
abbrev pub CodeRead : ℕ → ℕ → Option Code → Type 0
CodeRead w none r = MatchOption r (w ≡ none) (λ c. (code_number c ≡ w) × (w ≢ none))

-- the guard's code that stands there, unless it is that of an absent one
abbrev pub GuardRead : ℕ → Option GuardCode → Type 0
GuardRead w r = MatchOption r (w ≡ 4) (λ g. (guard_number g ≡ w) × (w ≢ 4))

-- what a walk answers: the place after what was passed and the place after what was laid; or an external rule is broken
abbrev pub Vetted : Type 0
Vetted = Option Held.Laid

abbrev pub To : ℕ → ℕ → Vetted
To next end = Some (record { next = next; end = end })

-- are the names of a definition of this polarity vetted: in a policy that lists compromised keys, those of the + definitions are
unfoldable pub vets : Bool → Polarity → Bool
vets true plus = true
vets true minus = false
vets false p = false

-- a leaf in the output
unfoldable pub out_leaf : Bool → Polarity → Leaf → Leaf
unfolding vets vet_leaf
out_leaf keys p x = elim (vets keys p) [ true ↦ vet_leaf x | false ↦ x ]

abbrev pub out : Bool → Polarity → Expr → Expr
out keys p = each_leaf (out_leaf keys p)

abbrev pub out_body : Bool → Polarity → Body → Body
out_body keys p = each_leaf_in (out_leaf keys p)

-- `size` words are passed from word `at` on, and these are laid from word `to` on, at most two for each one passed
pub record Laying (at size to : ℕ) (ws before : List ℕ) (next end : ℕ) (after : List ℕ) : Type 0 where
  pub passed : next ≡ at + size
  pub ends : end ≡ to + length ws
  pub few : length ws ≤ 2 * size
  pub area : after ≡ laid to ws before

-- where the rules are broken the area holds arbitrary words
unfoldable pub Answered : Bool → ℕ → ℕ → ℕ → List ℕ → List ℕ → Vetted → List ℕ → Type 0
Answered external at size to ws before (Some l) after = (external ≡ true) × Laying at size to ws before l.next l.end after
Answered external at size to ws before None after = external ≡ false

-- (a record, so that what it is about can be implicit in the proofs)
pub record Walked (external : Bool) (at size to : ℕ) (ws before : List ℕ) (r : Vetted) (after : List ℕ) : Type 0 where
  pub answer : Answered external at size to ws before r after

module _ (keys : Bool) (p : Polarity) (ws : List ℕ) (at : ℕ) where
  pub record WalkedLeaf (to : ℕ) (before : List ℕ) (r : Vetted) (after : List ℕ) : Type 0 where
    pub walked : (scope : Scope) (n : ℕ) (x : Leaf) → StandsLeaf scope n ws at x → Walked (external_leaf p x) at (length (leaf_words x)) to (leaf_words (out_leaf keys p x)) before r after

  pub record WalkedExpr (to : ℕ) (before : List ℕ) (r : Vetted) (after : List ℕ) : Type 0 where
    pub walked : (scope : Scope) (n : ℕ) (e : Expr) → Stands scope n ws at e → Walked (external_expr p e) at (length (expr_words e n)) to (expr_words (out keys p e) n) before r after

  pub record WalkedBody (left to : ℕ) (before : List ℕ) (r : Vetted) (after : List ℕ) : Type 0 where
    pub walked : (scope : Scope) (n : ℕ) (b : Body) → StandsBody scope n ws at left b →
        Walked (external_body p b) at (length (body_words b n)) to (body_words (out_body keys p b) n) before r after

-- nothing wraps: two words for each that is left
pub record Roomy (ws : List ℕ) (at to : ℕ) : Type 0 where
  pub fits : to + 2 * (length ws - at) ≤ 65536
