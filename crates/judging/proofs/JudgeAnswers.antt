-- The definitions in file order and the query, way out by way out.
use Rattle.std.proofs.Common.{ℕ, suc, ◌≡◌, ◌<◌, ◌≤◌, ◌+◌, ◌-◌, Bool, true, false, List, [], ◌∷◌, ◌++◌, Result, Ok, Err, length, refl, sym, ◌∙◌, ap, subst, arith}
use lib.ListN.{length-append}
use borrow.Author.Tests.{le-leb, lt-leb}
use Rattle.refusals.specs.RefusalTable.{query_part, no_part, not_a_key}
use Rattle.refusals.specs.Numbers.{number, part_number}
use Rattle.refusals.specs.declared.Refusal.{Refusal}
use Rattle.refusals.specs.declared.Refused.{Refused}
use Rattle.rows.specs.Name.{plus, minus, polarity_of}
use Rattle.policy.specs.Syntax.{Expr}
use Rattle.policy.specs.Parse.{Parsed, parsed}
use Rattle.policy.specs.Parse as Parse
use Rattle.policy.specs.Polarity.{Known, has_polarity, open_expr}
use Rattle.policy.specs.Table.{Entry, entry_at, entry_words, Table, table, read_table}
use Rattle.policy.specs.Table as Tables
use Rattle.policy.specs.Definitions.{check_definition, known_of, PolicyChecked, passed, push_definition, definitions_from, check_table, check_policy}
use Rattle.policy.specs.Definitions as Definitions
use Rattle.policy.specs.Checking.{Checked, checked, check_query, verdict_of, check_after, check}
use Rattle.policy.specs.Checking as Checking
use Rattle.policy.specs.Judgement.{JudgementReply, reply_of, judge}
use Rattle.policy.specs.declared.codes.Verdict as HeldVerdict
use Rattle.policy.proofs.Basics.{impossible}
use Rattle.policy_table.specs.Entries.{entry_place, entries_from}
use Rattle.policy_table.specs.Tables.{table_read}
use Rattle.policy_table.specs.declared.reading.Table as TableHeld
use Rattle.check_polarity.specs.Facts.{facts_for}
use Rattle.check_polarity.specs.Earlier.{Before, none_before, and_then, known_is, earlier_is}
use Rattle.check_polarity.specs.declared.Facts.{Facts}
use Rattle.check_polarity.specs.declared.Definition.{Definition}
use Rattle.check_polarity.specs.declared.Earlier.{Earlier}
use Rattle.judging.specs.Whole.{Whole, whole_is, whole_for, definition_parsed, definition_at, query_at}
use Rattle.judging.specs.Whole as whole
use Rattle.judging.specs.Reply.{JudgedAs, verdict_is, judged_is}

-- our key is tested first
module _ (ours : ℕ) (p : List ℕ) where
  by_key : Bool → PolicyChecked
  by_key b = elim b [ true ↦ check_table ours p | false ↦ Definitions.refused not_a_key no_part ]

  pub no_key : (r : Result Earlier Refused) → ours < 2147483648 → JudgedAs ours (Definitions.refused not_a_key no_part) r → JudgedAs ours (check_policy ours p) r
  unfolding check_policy by_key
  no_key r h j = subst (λ b. JudgedAs ours (by_key b) r) (sym (lt-leb 2147483648 ours h)) j

  pub under_key : (r : Result Earlier Refused) → 2147483648 ≤ ours → JudgedAs ours (check_table ours p) r → JudgedAs ours (check_policy ours p) r
  unfolding check_policy by_key
  under_key r h j = subst (λ b. JudgedAs ours (by_key b) r) (sym (le-leb 2147483648 ours h)) j

-- the definitions from number d on are still to be judged: what is then answered of them is answered of the policy
pub record Judging (ours : ℕ) (p : List ℕ) (n d : ℕ) (x : Earlier) : Type 0 where
  pub rest : (r : Result Earlier Refused) → JudgedAs ours (definitions_from ours p (entries_from (n - d) p (entry_place d)) (earlier_is x).known) r → JudgedAs ours (check_table ours p) r
  pub key : (earlier_is x).our_key ≡ ours
  pub count : length (earlier_is x).known ≡ d
  pub few : d ≤ n

-- what the table comes to
of_table : ℕ → List ℕ → Table → PolicyChecked
of_table ours p t = elim t [ table xs ↦ definitions_from ours p xs [] | Tables.refused n ↦ Definitions.refused n no_part ]

pub table_refused : (ours : ℕ) (p : List ℕ) {y : Refusal} {t : Result TableHeld.Table Refusal} (r : Result Earlier Refused) → table_read p t ≡ read_table p → t ≡ Err y → JudgedAs ours (Definitions.refused (number y) no_part) r →
    JudgedAs ours (check_table ours p) r
unfolding check_table of_table
table_refused ours p r f e j = subst (λ t. JudgedAs ours (of_table ours p t) r) (sym (ap (table_read p) e) ∙ f) j

pub none_judged : (ours : ℕ) (p : List ℕ) (n : ℕ) (x : Earlier) → table (entries_from n p 2) ≡ read_table p → earlier_is x ≡ none_before ours → Judging ours p n 0 x
unfolding check_table of_table
none_judged ours p n x f k =
    let e : n - 0 ≡ n = omega arith in
    record {
      rest = λ r h. subst (λ t. JudgedAs ours (of_table ours p t) r) f (rw (k, e) at h);
      key = ap (λ b. b.our_key) k;
      count = ap (λ b. length b.known) k;
      few = omega arith;
    }

whole_parsed : (b : Before) (x : Parsed) (f : Facts) → whole_for b x ≡ whole.checked f → (e : Expr) × (x ≡ parsed e) × (facts_for b e ≡ f)
unfolding whole_for
whole_parsed b (parsed e) f t = (e, refl, cc)
whole_parsed b (Parse.refused n) f t = impossible cc

whole_refused : (b : Before) (x : Parsed) (n : ℕ) → whole_for b x ≡ whole.refused n → x ≡ Parse.refused n
unfolding whole_for
whole_refused b (parsed e) n t = impossible cc
whole_refused b (Parse.refused m) n t = cc

-- a definition in front changes nothing of what is answered
judged_with : (ours : ℕ) (x : Entry) (e : Expr) (c : PolicyChecked) (r : Result Earlier Refused) → JudgedAs ours c r → JudgedAs ours (push_definition x e c) r
unfolding push_definition JudgedAs
judged_with ours x e (passed xs es ks) (Ok y) h = h
judged_with ours x e (passed xs es ks) (Err y) h = h
judged_with ours x e (Definitions.refused n part) (Ok y) h = h
judged_with ours x e (Definitions.refused n part) (Err y) h = h

module _ (ours : ℕ) (p : List ℕ) (n d : ℕ) (x : Earlier) (j : Judging ours p n d x) where
  ks : List Known
  ks = (earlier_is x).known

  module _ (more : d < n) where
    this : Entry
    this = entry_at p (entry_place d)

    others : List Entry
    others = entries_from (n - (d + 1)) p (entry_place d + 4)

    -- what this definition comes to, and those after it
    from_here : Parsed → PolicyChecked
    from_here y = elim y [ parsed e ↦ push_definition this e (definitions_from ours p others (ks ++ (known_of this e ks ∷ []))) | Parse.refused n ↦ Definitions.refused n (length ks) ]

    one_more : {y : Parsed} → check_definition ours p ks this ≡ y → (r : Result Earlier Refused) → JudgedAs ours (from_here y) r → JudgedAs ours (check_table ours p) r
    unfolding entries_from definitions_from this ks others from_here
    one_more h r t =
        let e : suc (n - (d + 1)) ≡ n - d = omega arith in
        j.rest r (subst (λ m. JudgedAs ours (definitions_from ours p (entries_from m p (entry_place d)) ks) r) e (subst (λ y. JudgedAs ours (from_here y) r) (sym h) t))

    module _ (w : Result Facts Refusal) (g : whole_is w ≡ whole_for (earlier_is x) (definition_at p (earlier_is x) (entry_at p (entry_place d)))) where
      -- the code's key is ours
      comes : whole_is w ≡ whole_for (earlier_is x) (check_definition ours p (earlier_is x).known (entry_at p (entry_place d)))
      comes = g ∙ ap (λ (o : ℕ). whole_for (earlier_is x) (check_definition o p (earlier_is x).known (entry_at p (entry_place d)))) j.key

      pub judging_refused : {y : Refusal} (r : Refused) → w ≡ Err y → r.refusal ≡ y → part_number r.part ≡ d → JudgedAs ours (check_table ours p) (Err r)
      unfolding JudgedAs this ks from_here
      judging_refused {y} r e h i =
          one_more (whole_refused (earlier_is x) _ (number y) (sym comes ∙ ap whole_is e)) (Err r) (ap number h, i ∙ sym j.count)

      pub definition_judged : {f : Facts} {y : Earlier} (k : Definition) → w ≡ Ok f → known_is k ≡ record { name = (entry_at p (entry_place d)).name; declared = polarity_of (entry_at p (entry_place d)).polarity; is_open = f.«open» } →
          earlier_is y ≡ and_then (earlier_is x) (known_is k) → Judging ours p n (d + 1) y
      unfolding known_of facts_for this ks others from_here
      definition_judged {f} {y} m e a k =
          let t = whole_parsed (earlier_is x) (check_definition ours p (earlier_is x).known (entry_at p (entry_place d))) f (sym comes ∙ ap whole_is e) in
          let z : entry_place (d + 1) ≡ entry_place d + 4 = omega arith in
          let o : open_expr t.0 (earlier_is x).known ≡ f.«open» = ap (λ f. f.«open») t.2 in
          let known : (earlier_is y).known ≡ (earlier_is x).known ++ (known_of (entry_at p (entry_place d)) t.0 (earlier_is x).known ∷ []) = ap (λ b. b.known) k ∙ ap (λ k. (earlier_is x).known ++ (k ∷ [])) (a ∙ rw o refl) in
          record {
            rest = λ r s. one_more t.1 r (judged_with ours this t.0 _ r (rw (z, known) at s));
            key = ap (λ b. b.our_key) k ∙ j.key;
            count = omega (arith, ap length known, length-append (earlier_is x).known (known_of (entry_at p (entry_place d)) t.0 (earlier_is x).known ∷ []), j.count);
            few = omega arith;
          }

  pub all_judged : n ≤ d → JudgedAs ours (check_table ours p) (Ok x)
  unfolding entries_from definitions_from JudgedAs
  all_judged done =
      let z : 0 ≡ n - d = omega arith in
      j.rest (Ok x) (subst (λ m. JudgedAs ours (definitions_from ours p (entries_from m p (entry_place d)) (earlier_is x).known) (Ok x)) z
      (ap (λ (o : ℕ). record { our_key = o; known = (earlier_is x).known }) j.key))

-- ---- the query

-- what the policy comes to, with the query
with_query : ℕ → List ℕ → PolicyChecked → JudgementReply
with_query ours q c = reply_of (elim c [ passed xs es ks ↦ check_after ours es ks q | Definitions.refused n part ↦ Checking.refused n part ])

-- a policy that passed: what is known of its definitions
pub record Checks (ours : ℕ) (p : List ℕ) (x : Earlier) : Type 0 where
  pub entries : List Entry
  pub exprs : List Expr
  pub passes : check_policy ours p ≡ passed entries exprs (earlier_is x).known
  pub key : (earlier_is x).our_key ≡ ours

pub policy_checks : (ours : ℕ) (p : List ℕ) {r : Result Earlier Refused} {x : Earlier} → JudgedAs ours (check_policy ours p) r → r ≡ Ok x → Checks ours p x
unfolding JudgedAs
policy_checks ours p {r} {x} h e = go (check_policy ours p) refl (rw e at h)
  where
    go : (c : PolicyChecked) → check_policy ours p ≡ c → JudgedAs ours c (Ok x) → Checks ours p x
    go (passed xs es ks) c t = record { entries = xs; exprs = es; passes = c ∙ ap (λ ks. passed xs es ks) (sym (ap (λ b. b.known) t)); key = ap (λ b. b.our_key) t }
    go (Definitions.refused n part) c t = absurd t

pub policy_fails : (ours : ℕ) (p : List ℕ) {r : Result Earlier Refused} {y : Refused} → JudgedAs ours (check_policy ours p) r → r ≡ Err y → check_policy ours p ≡ Definitions.refused (number y.refusal) (part_number y.part)
unfolding JudgedAs
policy_fails ours p {r} {y} h e = go (check_policy ours p) (rw e at h)
  where
    go : (c : PolicyChecked) → JudgedAs ours c (Err y) → c ≡ Definitions.refused (number y.refusal) (part_number y.part)
    go (passed xs es ks) t = absurd t
    go (Definitions.refused m k) t = rw (t.0, t.1) refl

module _ (ours : ℕ) (p q : List ℕ) where
  pub policy_refused : {r : Result Earlier Refused} {y : Refused} → JudgedAs ours (check_policy ours p) r → r ≡ Err y → judged_is (Err y) ≡ judge ours p q
  unfolding judge check reply_of judged_is with_query
  policy_refused h e = sym (ap (λ (c : PolicyChecked). with_query ours q c) (policy_fails ours p h e))

  module _ (x : Earlier) (t : Checks ours p x) (w : Result Facts Refusal) (g : whole_is w ≡ whole_for (earlier_is x) (query_at (earlier_is x) q)) where
    -- the code's key is ours
    query_comes : whole_is w ≡ whole_for (earlier_is x) (check_query ours (earlier_is x).known q)
    query_comes = g ∙ ap (λ (o : ℕ). whole_for (earlier_is x) (check_query o (earlier_is x).known q)) t.key

    at_query : {y : Parsed} → check_query ours (earlier_is x).known q ≡ y → judge ours p q ≡ reply_of (elim y [
      | parsed e ↦ checked t.exprs e (verdict_of (has_polarity e (earlier_is x).known plus) (has_polarity e (earlier_is x).known minus))
      | Parse.refused n ↦ Checking.refused n query_part
    ])
    unfolding judge check check_after with_query
    at_query y = ap (with_query ours q) t.passes ∙ ap (λ y. reply_of (elim y as (λ c. Checked) [
      | parsed e ↦ checked t.exprs e (verdict_of (has_polarity e (earlier_is x).known plus) (has_polarity e (earlier_is x).known minus))
      | Parse.refused n ↦ Checking.refused n query_part
    ])) y

    pub query_unjudged : {y : Refusal} (r : Refused) → w ≡ Err y → r.refusal ≡ y → part_number r.part ≡ query_part → judged_is (Err r) ≡ judge ours p q
    unfolding reply_of judged_is
    query_unjudged {y} r e h i = rw (h, i) (sym (at_query (whole_refused _ _ (number y) (sym query_comes ∙ ap whole_is e))))

    pub query_judged : {f : Facts} (v : HeldVerdict.Verdict) → w ≡ Ok f → verdict_is v ≡ verdict_of f.plus f.minus → judged_is (Ok v) ≡ judge ours p q
    unfolding reply_of judged_is facts_for
    query_judged {f} v e h =
        let t = whole_parsed _ _ f (sym query_comes ∙ ap whole_is e) in
        sym (at_query t.1 ∙ ap JudgementReply.verdict (ap (λ f. verdict_of f.plus f.minus) t.2 ∙ sym h))

pub entry_judged : (p : List ℕ) (b : Before) (x : Entry) {r : Whole} {w : ℕ} {ws : List ℕ} → r ≡ whole_for b (definition_parsed b (polarity_of w) ws) → w ≡ x.polarity → ws ≡ entry_words p x → r ≡ whole_for b (definition_at p b x)
unfolding definition_parsed check_definition
entry_judged p b x {r} {w} {ws} f e d = f ∙ (ap (λ w. whole_for b (definition_parsed b (polarity_of w) ws)) e ∙ ap (λ ws. whole_for b (definition_parsed b (polarity_of x.polarity) ws)) d)
