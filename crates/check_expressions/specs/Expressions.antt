-- What the checker of expressions works out on its way: the facts of an expression, whole or from what follows its code on, and of a comprehension
-- from its guards on, or from what follows a guard's code on.
use Rattle.std.specs.Prelude.{ℕ}
use Rattle.policy.specs.Syntax.{Expr, comprehension}
use Rattle.policy.specs.Decode.{Reader, ◌>>=◌, give, Guard, guard_as, body, code_of, expr_as, expr}
use Rattle.check_terms.specs.Answers.{keeping}
use Rattle.check_polarity.specs.Earlier.{Before, scope_at}
use Rattle.check_polarity.specs.Facts.{facts_for}
use Rattle.check_polarity.specs.declared.Facts.{Facts}

-- the reader of the expressions inside, so many levels being left for them
unfoldable pub inside : Before → ℕ → ℕ → Reader Expr
unfolding expr
inside b levels = λ n. expr (scope_at b) levels n

unfoldable pub expr_facts : Before → ℕ → ℕ → Reader Facts
unfolding expr
expr_facts b levels n = keeping (facts_for b) (expr (scope_at b) levels n)

-- the facts of two expressions, one after the other
unfoldable pub two_facts : Before → ℕ → ℕ → Reader (Facts × Facts)
unfolding expr_facts
two_facts b levels n = do
  x ← expr_facts b levels n
  y ← expr_facts b levels n
  give (x, y)

unfoldable pub code_facts : Before → (ℕ → Reader Expr) → ℕ → ℕ → Reader Facts
unfolding expr_as code_of
code_facts b inner n code = keeping (facts_for b) (expr_as (scope_at b) inner n (code_of code))

unfoldable pub body_facts : Before → (ℕ → Reader Expr) → ℕ → ℕ → Reader Facts
unfolding body
body_facts b inner c n = keeping (λ rest. facts_for b (comprehension rest)) (body inner c n)

unfoldable pub guard_facts : Before → (ℕ → Reader Expr) → ℕ → ℕ → Guard → Reader Facts
unfolding guard_as body
guard_facts b inner c n g = keeping (λ rest. facts_for b (comprehension rest)) (guard_as inner n (λ m. body inner c m) g)
