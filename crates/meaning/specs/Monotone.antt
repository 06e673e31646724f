-- Monotonicity, the source's Theorem 1: where one world lies below another, what belongs to an expression that has + grows, and what belongs to one that
-- has − shrinks. One statement, indexed by the polarity. On it rest the lower and upper answers of demand 3.
use Rattle.std.specs.Prelude.{ℕ, List, T, get_or}
use Rattle.rows.specs.Row.{Row}
use Rattle.rows.specs.Name.{Polarity, plus, minus}
use Rattle.policy.specs.Syntax.{Expr}
use Rattle.policy.specs.Polarity.{Known, unknown, has_polarity}
use Rattle.meaning.specs.Values.{Values}
use Rattle.meaning.specs.World.{World, Below}
use Rattle.meaning.specs.Belonging.{Meanings, Belongs}

-- from A to B for +, back for −. (A record, so that A and B can be implicit in the proofs.)
abbrev pub Way : Polarity → Type 0 → Type 0 → Type 0
Way plus A B = A → B
Way minus A B = B → A

pub record Along (p : Polarity) (A B : Type 0) : Type 0 where
  pub go : Way p A B

-- definitions follow their declared polarity
abbrev pub Ways : List Known → Meanings → Meanings → Type 0
Ways ks D E = (d : ℕ) (r : Row) → Along (get_or ks d unknown).declared (get_or D d (λ x. ⊥) r) (get_or E d (λ x. ⊥) r)

-- the expression follows each polarity that it has
abbrev pub Follows : ℕ → World → World → List Known → Meanings → Meanings → Expr → Type 0
Follows format W U ks D E e = (p : Polarity) → T (has_polarity e ks p) → (vs : Values) (r : Row) → Along p (Belongs format W D e vs r) (Belongs format U E e vs r)

abbrev pub Theorem : Type 1
Theorem = (format : ℕ) (W U : World) → Below W U → (ks : List Known) (D E : Meanings) → Ways ks D E → (e : Expr) → Follows format W U ks D E e
