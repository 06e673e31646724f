-- What passes the checks: each definition, in file order, and the query, with the facts that reading and belonging rest on.
use Prim.Native.Nat.{ℕ, ◌≤◌}
use mathlib.Core.Path.{◌≡◌, refl, sym, ◌∙◌, ap, subst}
use mathlib.Core.Logic.{◌↔◌}
use mathlib.Core.Bool.{Bool, true, false, ◌&&◌, ◌||◌}
use mathlib.Core.List.{List, [], ◌∷◌, ◌++◌}
use lib.Dec.{T, leb, leb→le}
use lib.ListN.{length, drop}
use Rattle.rows.specs.Word.{IsWord, Words}
use Rattle.rows.specs.Row.{is_key}
use Rattle.rows.specs.Name.{plus, minus, polarity_of}
use Rattle.rows.proofs.Case.{T_and}
use Rattle.rows.proofs.Lists.{all_take, all_drop}
use Rattle.refusals.specs.RefusalTable.{bad_word, not_a_key, no_part, query_part}
use Rattle.policy.specs.Syntax.{Expr}
use Rattle.policy.specs.Parse.{Parsed, parsed, parse}
use Rattle.policy.specs.Parse as Parse
use Rattle.policy.specs.Polarity.{Known, scope_of, has_polarity, draws_closed, Verdict, exact, lower, upper}
use Rattle.policy.specs.Table.{Entry, entry_words, Table, table, read_table}
use Rattle.policy.specs.Table as Tables
use Rattle.policy.specs.Definitions.{polarized, check_definition, known_of, PolicyChecked, passed, push_definition, definitions_from, check_table, check_policy}
use Rattle.policy.specs.Definitions as Definitions
use Rattle.policy.specs.Checking.{Checked, checked, check_query, verdict_of, check_after, check}
use Rattle.policy.specs.Checking as Checking
use Rattle.policy.specs.Judgement.{verdict, refused, reply_of, judge}
use Rattle.policy.proofs.Basics.{impossible}

-- a definition that passed: the words of entry x are those of e, which has the declared polarity and draws from nothing open
pub record AcceptedDefinition (ours : ℕ) (policy : List ℕ) (ks : List Known) (x : Entry) (e : Expr) : Type 0 where
  pub parses : parse (scope_of ours ks) (entry_words policy x) ≡ parsed e
  pub has : T (has_polarity e ks (known_of x e ks).declared)
  pub closed : T (draws_closed e ks)

-- definitions that passed one after the other, `ks` being known before the first and `ls` after the last
pub data Accepted (ours : ℕ) (policy : List ℕ) : List Entry → List Known → List Expr → List Known → Type 0 where
  none : {ks : List Known} → Accepted ours policy [] ks [] ks
  one : {x : Entry} {xs : List Entry} {ks ls : List Known} {e : Expr} {es : List Expr} →
      AcceptedDefinition ours policy ks x e → Accepted ours policy xs (ks ++ (known_of x e ks ∷ [])) es ls → Accepted ours policy (x ∷ xs) ks (e ∷ es) ls

-- a query that passed: its words are those of q, and it has the polarities that its verdict tells
pub record AcceptedQuery (ours : ℕ) (ls : List Known) (query : List ℕ) (q : Expr) (v : Verdict) : Type 0 where
  pub some : 1 ≤ length query
  pub few : length query ≤ 1024
  pub parses : parse (scope_of ours ls) query ≡ parsed q
  pub closed : T (draws_closed q ls)
  pub is_exact : v ≡ exact → T (has_polarity q ls plus) × T (has_polarity q ls minus)
  pub is_lower : v ≡ lower → T (has_polarity q ls plus)
  pub is_upper : v ≡ upper → T (has_polarity q ls minus)

-- a policy and a query that passed
pub record AcceptedPair (ours : ℕ) (policy query : List ℕ) (es : List Expr) (q : Expr) (v : Verdict) : Type 0 where
  pub entries : List Entry
  pub known : List Known
  pub key : is_key ours ≡ true
  pub listed : read_table policy ≡ table entries
  pub definitions : Accepted ours policy entries [] es known
  pub asked : AcceptedQuery ours known query q v

-- 6 and 7 passed
polarized_parsed : (fine closed : Bool) (d e : Expr) → polarized fine closed d ≡ parsed e → (d ≡ e) × T fine × T closed
unfolding polarized
polarized_parsed true true d e h = (cc, tt, tt)
polarized_parsed true false d e h = impossible cc
polarized_parsed false closed d e h = impossible cc

-- 3 to 7 passed
polarity_passed : (fine closed : Expr → Bool) (p : Parsed) (e : Expr) →
    (elim p as (λ c. Parsed) [ parsed d ↦ polarized (fine d) (closed d) d | Parse.refused n ↦ Parse.refused n ]) ≡ parsed e → (p ≡ parsed e) × T (fine e) × T (closed e)
polarity_passed fine closed (parsed d) e h =
    let t = polarized_parsed (fine d) (closed d) d e h in
    (ap parsed t.0, subst (λ c. T (fine c)) t.0 t.1, subst (λ c. T (closed c)) t.0 t.2)
polarity_passed fine closed (Parse.refused n) e h = impossible cc

definition_accepted : (ours : ℕ) (policy : List ℕ) (ks : List Known) (x : Entry) (e : Expr) → check_definition ours policy ks x ≡ parsed e → AcceptedDefinition ours policy ks x e
unfolding check_definition known_of
definition_accepted ours policy ks x e h =
    let t = polarity_passed (λ d. has_polarity d ks (polarity_of x.polarity)) (λ d. draws_closed d ks) (parse (scope_of ours ks) (entry_words policy x)) e h in
    record { parses = t.0; has = t.1; closed = t.2 }

-- what passes 3 to 7 is accepted, and back
polarized_fine : (fine closed : Bool) (e : Expr) → T fine → T closed → polarized fine closed e ≡ parsed e
unfolding polarized
polarized_fine true true e t u = refl
polarized_fine true false e t u = absurd u
polarized_fine false closed e t u = absurd t

definition_passes : (ours : ℕ) (policy : List ℕ) (ks : List Known) (x : Entry) (e : Expr) → AcceptedDefinition ours policy ks x e → check_definition ours policy ks x ≡ parsed e
unfolding check_definition known_of
definition_passes ours policy ks x e a =
    subst (λ (p : Parsed). (elim p as (λ c. Parsed) [ parsed d ↦ polarized (has_polarity d ks (polarity_of x.polarity)) (draws_closed d ks) d | Parse.refused n ↦ Parse.refused n ]) ≡ parsed e)
    (sym a.parses) (polarized_fine (has_polarity e ks (polarity_of x.polarity)) (draws_closed e ks) e a.has a.closed)

-- the definitions of a policy by itself

-- one pushed in front of those that passed
pub record Pushed (x : Entry) (e : Expr) (c : PolicyChecked) (xs : List Entry) (es : List Expr) (ls : List Known) : Type 0 where
  pub entries : List Entry
  pub exprs : List Expr
  pub front : x ∷ entries ≡ xs
  pub first : e ∷ exprs ≡ es
  pub rest : c ≡ passed entries exprs ls

push_passed : (x : Entry) (e : Expr) (c : PolicyChecked) (xs : List Entry) (es : List Expr) (ls : List Known) → push_definition x e c ≡ passed xs es ls → Pushed x e c xs es ls
unfolding push_definition
push_passed x e (passed ys fs ks) xs es ls h = record { entries = ys; exprs = fs; front = cc; first = cc; rest = cc }
push_passed x e (Definitions.refused n part) xs es ls h = impossible cc

none_passed : (ks ls : List Known) (ys : List Entry) (es : List Expr) → passed [] [] ks ≡ passed ys es ls → (ys ≡ []) × (es ≡ []) × (ks ≡ ls)
none_passed ks ls ys es h = (cc, cc, cc)

from_accepted : (ours : ℕ) (policy : List ℕ) (xs : List Entry) (ks : List Known) (ys : List Entry) (es : List Expr) (ls : List Known) → definitions_from ours policy xs ks ≡ passed ys es ls →
    (xs ≡ ys) × Accepted ours policy xs ks es ls
unfolding definitions_from
from_accepted ours policy [] ks ys es ls h =
    let t = none_passed ks ls ys es h in
    (sym t.0, rw (t.1, ← t.2) (none))
from_accepted ours policy (x ∷ xs) ks ys es ls h = go (λ l zs fs g. from_accepted ours policy xs l zs fs ls g) (check_definition ours policy ks x) refl h
  where
    go : ((l : List Known) (zs : List Entry) (fs : List Expr) → definitions_from ours policy xs l ≡ passed zs fs ls → (xs ≡ zs) × Accepted ours policy xs l fs ls) →
        (p : Parsed) → check_definition ours policy ks x ≡ p →
        (elim p as (λ c. PolicyChecked) [
          | parsed e ↦ push_definition x e (definitions_from ours policy xs (ks ++ (known_of x e ks ∷ [])))
          | Parse.refused n ↦ Definitions.refused n (length ks)
        ]) ≡ passed ys es ls → (x ∷ xs ≡ ys) × Accepted ours policy (x ∷ xs) ks es ls
    go rest (parsed e) p f =
        let t = push_passed x e (definitions_from ours policy xs (ks ++ (known_of x e ks ∷ []))) ys es ls f in
        let u = rest (ks ++ (known_of x e ks ∷ [])) t.entries t.exprs t.rest in
        (ap (λ (l : List Entry). x ∷ l) u.0 ∙ t.front, subst (λ fs. Accepted ours policy (x ∷ xs) ks fs ls) t.first (one (definition_accepted ours policy ks x e p) u.1))
    go rest (Parse.refused n) p f = impossible cc

-- a policy that passed
pub record AcceptedPolicy (ours : ℕ) (policy : List ℕ) (xs : List Entry) (es : List Expr) (ls : List Known) : Type 0 where
  pub key : is_key ours ≡ true
  pub listed : read_table policy ≡ table xs
  pub definitions : Accepted ours policy xs [] es ls

pub policy_accepted : (ours : ℕ) (policy : List ℕ) (xs : List Entry) (es : List Expr) (ls : List Known) → check_policy ours policy ≡ passed xs es ls → AcceptedPolicy ours policy xs es ls
unfolding check_policy check_table
policy_accepted ours policy xs es ls h = keyed (is_key ours) refl h
  where
    go : is_key ours ≡ true → (t : Table) → read_table policy ≡ t → (elim t as (λ c. PolicyChecked) [ table ys ↦ definitions_from ours policy ys [] | Tables.refused n ↦ Definitions.refused n no_part ]) ≡ passed xs es ls →
        AcceptedPolicy ours policy xs es ls
    go k (table ys) r f =
        let t = from_accepted ours policy ys [] xs es ls f in
        record { key = k; listed = r ∙ ap table t.0; definitions = subst (λ zs. Accepted ours policy zs [] es ls) t.0 t.1 }
    go k (Tables.refused n) r f = impossible cc

    keyed : (b : Bool) → is_key ours ≡ b → (elim b as (λ c. PolicyChecked) [ true ↦ check_table ours policy | false ↦ Definitions.refused not_a_key no_part ]) ≡ passed xs es ls →
        AcceptedPolicy ours policy xs es ls
    keyed true k f = go k (read_table policy) refl f
    keyed false k f = impossible cc

accepted_from_lem : {ours : ℕ} {policy : List ℕ} {xs : List Entry} {ks ls : List Known} {es : List Expr} → Accepted ours policy xs ks es ls → definitions_from ours policy xs ks ≡ passed xs es ls
unfolding definitions_from push_definition
accepted_from_lem none = refl
accepted_from_lem {ours} {policy} (one {x = x} {xs = xs} {ks = ks} {ls = ls} {e = e} {es = es} a rest) =
    subst (λ (p : Parsed). (elim p as (λ c. PolicyChecked) [
      | parsed d ↦ push_definition x d (definitions_from ours policy xs (ks ++ (known_of x d ks ∷ [])))
      | Parse.refused n ↦ Definitions.refused n (length ks)
    ]) ≡ passed (x ∷ xs) (e ∷ es) ls) (sym (definition_passes ours policy ks x e a)) (ap (push_definition x e) (accepted_from_lem rest))

pub accepted_passes : (ours : ℕ) (policy : List ℕ) (xs : List Entry) (es : List Expr) (ls : List Known) → AcceptedPolicy ours policy xs es ls → check_policy ours policy ≡ passed xs es ls
unfolding check_policy check_table
accepted_passes ours policy xs es ls a =
    subst (λ (b : Bool). (elim b as (λ c. PolicyChecked) [ true ↦ check_table ours policy | false ↦ Definitions.refused not_a_key no_part ]) ≡ passed xs es ls) (sym a.key)
    (subst (λ (t : Table). (elim t as (λ c. PolicyChecked) [ table ys ↦ definitions_from ours policy ys [] | Tables.refused n ↦ Definitions.refused n no_part ]) ≡ passed xs es ls)
    (sym a.listed) (accepted_from_lem a.definitions))

-- a query

verdict_exact : (a b : Bool) → verdict_of a b ≡ exact → T a × T b
unfolding verdict_of
verdict_exact true true e = (tt, tt)
verdict_exact true false e = impossible cc
verdict_exact false b e = impossible cc

verdict_lower : (a b : Bool) → verdict_of a b ≡ lower → T a
unfolding verdict_of
verdict_lower true b e = tt
verdict_lower false b e = impossible cc

-- of a query that has one of the polarities
verdict_upper : (a b : Bool) → T (a || b) → verdict_of a b ≡ upper → T b
unfolding verdict_of
verdict_upper true true h e = tt
verdict_upper true false h e = impossible cc
verdict_upper false b h e = h

query_accepted : (ours : ℕ) (ks : List Known) (query : List ℕ) (q : Expr) → check_query ours ks query ≡ parsed q →
    AcceptedQuery ours ks query q (verdict_of (has_polarity q ks plus) (has_polarity q ks minus))
unfolding check_query
query_accepted ours ks query q h = go (leb 1 (length query) && leb (length query) 1024) refl h
  where
    go : (b : Bool) → (leb 1 (length query) && leb (length query) 1024) ≡ b →
        (elim b as (λ c. Parsed) [
          | true ↦ elim (parse (scope_of ours ks) query) as (λ c. Parsed) [
            | parsed d ↦ polarized (has_polarity d ks plus || has_polarity d ks minus) (draws_closed d ks) d
            | Parse.refused n ↦ Parse.refused n
          ]
          | false ↦ Parse.refused bad_word
        ]) ≡ parsed q → AcceptedQuery ours ks query q (verdict_of (has_polarity q ks plus) (has_polarity q ks minus))
    go true b f =
        let l = (T_and (leb 1 (length query)) (leb (length query) 1024)).0 (rw b tt) in
        let t = polarity_passed (λ d. has_polarity d ks plus || has_polarity d ks minus) (λ d. draws_closed d ks) (parse (scope_of ours ks) query) q f in
        record {
          some = leb→le 1 (length query) l.0;
          few = leb→le (length query) 1024 l.1;
          parses = t.0;
          closed = t.2;
          is_exact = verdict_exact (has_polarity q ks plus) (has_polarity q ks minus);
          is_lower = verdict_lower (has_polarity q ks plus) (has_polarity q ks minus);
          is_upper = verdict_upper (has_polarity q ks plus) (has_polarity q ks minus) t.1;
        }
    go false b f = impossible cc

-- the query after the definitions
after_accepted : (ours : ℕ) (fs : List Expr) (ks : List Known) (query : List ℕ) (es : List Expr) (q : Expr) (v : Verdict) → check_after ours fs ks query ≡ checked es q v →
    (fs ≡ es) × AcceptedQuery ours ks query q v
unfolding check_after
after_accepted ours fs ks query es q v h = go (check_query ours ks query) refl h
  where
    go : (p : Parsed) → check_query ours ks query ≡ p →
        (elim p as (λ c. Checked) [ parsed d ↦ checked fs d (verdict_of (has_polarity d ks plus) (has_polarity d ks minus)) | Parse.refused n ↦ Checking.refused n query_part ]) ≡ checked es q v →
        (fs ≡ es) × AcceptedQuery ours ks query q v
    go (parsed d) p f =
        let e : d ≡ q = cc in
        let w : verdict_of (has_polarity q ks plus) (has_polarity q ks minus) ≡ v = rw (← e) (cc) in
        (cc, rw w at (query_accepted ours ks query q (p ∙ ap parsed e)))
    go (Parse.refused n) p f = impossible cc

-- what passes `check` is accepted, the policy and then the query
pub check_accepted : (ours : ℕ) (policy query : List ℕ) (es : List Expr) (q : Expr) (v : Verdict) → check ours policy query ≡ checked es q v → AcceptedPair ours policy query es q v
unfolding check
check_accepted ours policy query es q v h = go (check_policy ours policy) refl h
  where
    go : (c : PolicyChecked) → check_policy ours policy ≡ c →
        (elim c as (λ d. Checked) [ passed xs fs ks ↦ check_after ours fs ks query | Definitions.refused n part ↦ Checking.refused n part ]) ≡ checked es q v → AcceptedPair ours policy query es q v
    go (passed xs fs ks) c f =
        let t = after_accepted ours fs ks query es q v f in
        let a = policy_accepted ours policy xs es ks (rw t.0 at c) in
        record { entries = xs; known = ks; key = a.key; listed = a.listed; definitions = a.definitions; asked = t.1 }
    go (Definitions.refused n part) c f = impossible cc

-- "20 .. before all others"
pub number_refused : (ours : ℕ) (policy query : List ℕ) → is_key ours ≡ false → check ours policy query ≡ Checking.refused not_a_key no_part
unfolding check check_policy
number_refused ours policy query e = rw (e, check, check_policy)

-- `judge` tells just what `check` finds
pub judge_checked : (ours : ℕ) (policy query : List ℕ) (v : Verdict) → (judge ours policy query ≡ verdict v) ↔ ((es : List Expr) × (q : Expr) × (check ours policy query ≡ checked es q v))
unfolding judge reply_of
judge_checked ours policy query v = (go (check ours policy query), λ t. ap reply_of t.2)
  where
    go : (c : Checked) → reply_of c ≡ verdict v → (es : List Expr) × (q : Expr) × (c ≡ checked es q v)
    go (checked es q w) h = (es, q, cc)
    go (Checking.refused n part) h = impossible cc

pub judge_refused : (ours : ℕ) (policy query : List ℕ) (n part : ℕ) → (judge ours policy query ≡ refused n part) ↔ (check ours policy query ≡ Checking.refused n part)
unfolding judge reply_of
judge_refused ours policy query n part = (go (check ours policy query), λ h. ap reply_of h)
  where
    go : (c : Checked) → reply_of c ≡ refused n part → c ≡ Checking.refused n part
    go (checked es q w) h = impossible cc
    go (Checking.refused m p) h = cc

-- "Each definition's words are read as a part of the policy."
pub entry_words_lem : (policy : List ℕ) (x : Entry) → Words policy → Words (entry_words policy x)
unfolding entry_words
entry_words_lem policy x h = all_take IsWord x.size (drop x.offset policy) (all_drop IsWord x.offset policy h)
