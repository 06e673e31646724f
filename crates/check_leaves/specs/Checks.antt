-- What checking finds of what holds no other expression.
use Rattle.std.specs.Prelude.{ℕ, Bool, true, false, Result, Ok, Err, ltb, eqb}
use Rattle.refusals.specs.RefusalTable.{bad_word, not_in_scope}
use Rattle.refusals.specs.declared.Refusal.{Refusal}
use Rattle.refusals.specs.declared.Refusal.TheVariants.{NotInScope}
use Rattle.rows.specs.Name.{Polarity, is_name}
use Rattle.policy.specs.OwnKey.{reach, Origin, origin_of, is_available}
use Rattle.policy.specs.Leaf.{definition, listed, leaf_of, leaf_as}
use Rattle.policy.specs.Syntax.{Term, atom, var, leaf}
use Rattle.policy.specs.Decode.{Reader, ◌>>=◌, give, word_where, issuer, row, rows}
use Rattle.policy.specs.Held.{term_is}
use Rattle.policy.specs.declared.Term as HeldTerm
use Rattle.check_terms.specs.Answers.{keeping}
use Rattle.check_polarity.specs.Earlier.{Before, scope_at}
use Rattle.check_polarity.specs.Facts.{facts_for, term_facts}
use Rattle.check_polarity.specs.declared.Facts.{Facts}

-- the facts of a literal, and of a head, whatever its rows are
unfoldable pub literal_facts : Bool → ℕ → Reader Facts
unfolding keeping rows
literal_facts complement n = keeping (λ rs. term_facts complement) (rows n)

unfoldable pub head_facts : ℕ → Reader Facts
unfolding keeping row
head_facts n = keeping (λ r. term_facts false) (row n)

-- the facts of an earlier definition
unfoldable pub definition_facts : Before → Reader Facts
unfolding keeping word_where facts_for
definition_facts b = keeping (λ d. facts_for b (leaf (definition d))) (word_where not_in_scope (λ d. ltb d (reach (scope_at b))))

-- an issuer and a name
unfoldable pub issued : ℕ → Reader (Term × ℕ)
unfolding issuer word_where
issued n = do
  t ← issuer n
  name ← word_where bad_word is_name
  give (t, name)

abbrev pub issued_is : HeldTerm.Term × ℕ → Term × ℕ
issued_is p = (term_is p.0, p.1)

-- the issuer of an own name: our key, fixed
unfoldable pub is_own : ℕ → Term → Bool
is_own ours (atom a) = eqb a ours
is_own ours (var i) = false

-- the facts of a name whose rows come from there, or the refusal
unfoldable pub facts_from : Before → Term → ℕ → Polarity → Origin → Result Facts Refusal
unfolding is_available facts_for
facts_from b t name p o = elim (is_available (scope_at b) o) [ true ↦ Ok (facts_for b (leaf (listed t name p o))) | false ↦ Err NotInScope ]

unfoldable pub name_facts_for : Before → Term → ℕ → Polarity → Result Facts Refusal
unfolding origin_of facts_from
name_facts_for b t name p = facts_from b t name p (origin_of (scope_at b) t name p)

-- the facts of a leaf, from what follows its code on
unfoldable pub leaf_facts : Before → ℕ → ℕ → Reader Facts
unfolding leaf_as leaf_of
leaf_facts b n code = keeping (λ x. facts_for b (leaf x)) (leaf_as (scope_at b) n (leaf_of code))
