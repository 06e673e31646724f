-- A row that compromised keys alone would bring in is in no lower answer, under a policy of either format.
use Prim.Native.Nat.{ℕ, zero, suc, ◌+◌, ◌<◌}
use mathlib.Core.Path.{◌≡◌, refl, sym, ◌∙◌, ap, subst}
use mathlib.Core.Bool.{Bool, true, false, ◌&&◌}
use mathlib.Core.List.{List, [], ◌∷◌, ◌++◌}
use native.Mathlib.Omega.{arith}
use lib.Dec.{T, eqb}
use lib.ListN.{length, get_or, get_or-append}
use Rattle.rows.specs.Row.{Row, IsRow}
use Rattle.rows.specs.Name.{Polarity, plus, minus}
use Rattle.rows.specs.Sets.{RowSet, has}
use Rattle.rows.proofs.Case.{T_true, true_T, T_left, T_right}
use Rattle.rows.proofs.Lists.{length_snoc}
use Rattle.certificates.specs.Stores.{held_after}
use Rattle.policy.specs.Format.{format_of}
use Rattle.policy.specs.OwnKey.{Origin, by_certificates, by_definition}
use Rattle.policy.specs.Leaf.{Leaf, finite, cofinite, definition, listed, vetted, leaf_words}
use Rattle.policy.specs.Syntax.{atom, Expr, leaf, union, difference, comprehension}
use Rattle.policy.specs.Words.{expr_words}
use Rattle.policy.specs.Polarity.{Known, scope_of, Verdict, lower}
use Rattle.policy.specs.Table.{Entry}
use Rattle.policy.specs.Definitions.{passed, check_policy}
use Rattle.policy.specs.Checking.{checked, check}
use Rattle.policy.specs.External.{external_leaf, external_expr, lists_keys, keys_listed, all_plus, is_external}
use Rattle.policy.proofs.Basics.{impossible}
use Rattle.policy.proofs.Decoding.{parse_words}
use Rattle.policy.proofs.Judging.{policy_accepted, accepted_passes, check_accepted}
use Rattle.policy.proofs.Vetting.{each_same}
use Rattle.policy.proofs.Rewriting.{accepted_lengths, later_plus}
use Rattle.meaning.specs.Values.{Values, value}
use Rattle.meaning.specs.World.{World, AllTrue}
use Rattle.meaning.specs.Belonging.{Names, InName, Meanings, BelongsLeaf, BelongsBy, Belongs, meanings_by, meanings, BelongsTo}
use Rattle.demands.specs.Query.{Call}
use Rattle.demands.specs.Demand2.{InQuery}
use Rattle.demands.specs.External.{uncompromised, transformed, LowerAnswer, without, without_key, NotReliedOn}
use Rattle.demands.proofs.Bounds.{in_query}
use Rattle.demands.proofs.Demand3.{demand_3}
use Rattle.demands.proofs.External.{Related, related_snoc, expr_carried, rewritten_from, passed_once, theorem}

-- the query 3 d
definition_words : (d : ℕ) (q : Expr) → 3 ∷ d ∷ [] ≡ expr_words q 0 → q ≡ leaf (definition d)
unfolding expr_words leaf_words
definition_words d (leaf (finite rs)) h = impossible cc
definition_words d (leaf (cofinite rs)) h = impossible cc
definition_words d (leaf (definition c)) h = ap (λ (i : ℕ). leaf (definition i)) cc
definition_words d (leaf (listed t n p o)) h = impossible cc
definition_words d (leaf (vetted t n o c)) h = impossible cc
definition_words d (union a b) h = impossible cc
definition_words d (difference a b) h = impossible cc
definition_words d (comprehension b) h = impossible cc

asks_definition : (c : Call) (d : ℕ) → c.query ≡ 3 ∷ d ∷ [] → (places : List Entry) (target : List Expr) (known : List Known) → check_policy c.our_key c.policy ≡ passed places target known →
    (es : List Expr) (q : Expr) (v : Verdict) → check c.our_key c.policy c.query ≡ checked es q v → (W : World) (r : Row) → InQuery c W r →
    get_or (meanings (format_of c.policy) W target []) d (λ x. ⊥) r
unfolding BelongsTo BelongsBy
asks_definition c d is_definition places target known p es q v f W r i =
    let a = check_accepted c.our_key c.policy c.query es q v f in
    let e = (passed_once c.our_key c.policy (accepted_passes c.our_key c.policy a.entries es a.known (record { key = a.key; listed = a.listed; definitions = a.definitions })) p).1 in
    let g = definition_words d q (sym is_definition ∙ parse_words (scope_of c.our_key a.known) c.query q a.asked.parses) in
    let format = format_of c.policy in
    let b : BelongsTo format W es q r = rw (← (in_query c es q v f W r)) i in
    subst (λ (fs : List Expr). BelongsTo format W fs (leaf (definition d)) r) e (subst (λ (x : Expr). BelongsTo format W es x r) g b)

-- each row of a lower answer belongs to the source's transformation
lower_rows_lem : (ours : ℕ) (policy : List ℕ) (entries : List Entry) (source : List Expr) (known : List Known) → check_policy ours policy ≡ passed entries source known → (d : ℕ) (S : RowSet) (a : LowerAnswer ours policy d S) →
    (W : World) → AllTrue W (held_after a.call.minute a.point.passed) → (r : Row) → IsRow r → T (has S r) → get_or (transformed (format_of policy) W entries source) d (λ x. ⊥) r
lower_rows_lem ours policy entries source known c d S a W allowed r i h =
    let m = theorem ours policy a.out a.rewrites in
    let all = demand_3 a.stores a.empty a.filings in
    let read = (all.answer a.point a.call lower a.draws S a.answer).is_read in
    let belongs = ((all.bounds a.filed a.point a.call a.words lower a.draws S a.answer).lower_rows refl r i).0 h W allowed in
    let passes : check_policy a.call.our_key a.call.policy ≡ passed m.places m.target m.known = rw (a.policy_is, a.key_is) m.passes in
    let belongs = asks_definition a.call d a.query_is m.places m.target m.known passes
    read.0 read.1 lower read.2 W r belongs in
    let e = passed_once ours policy m.checks c in
    let format = format_of policy in
    subst (λ (xs : List Entry). get_or (transformed format W xs source) d (λ x. ⊥) r) e.0
    (subst (λ (es : List Expr). get_or (transformed format W m.entries es) d (λ x. ⊥) r) e.1
    ((m.same W d r).0 (subst (λ (ws : List ℕ). get_or (meanings (format_of ws) W m.target []) d (λ x. ⊥) r) a.policy_is belongs)))

last_is : (D : Meanings) (P : Row → Type 0) (d : ℕ) → d ≡ length D → (r : Row) → get_or (D ++ (P ∷ [])) d (λ x. ⊥) r → P r
last_is [] P zero l r h = h
last_is [] P (suc d) l r h = absurd (omega arith)
last_is (x ∷ D) P zero l r h = absurd (omega arith)
last_is (x ∷ D) P (suc d) l r h = last_is D P d (omega arith) r h

module _ (format : ℕ) (names : Names) where
  -- definitions that stand first stay as they are
  first_kept : (es : List Expr) (D : Meanings) (d : ℕ) → d < length D → (r : Row) → get_or (meanings_by format names es D) d (λ x. ⊥) r → get_or D d (λ x. ⊥) r
  unfolding meanings_by
  first_kept [] D d l r h = h
  first_kept (e ∷ es) D d l r h =
      let P = BelongsBy format names D e [] in
      let m = length_snoc D P in
      subst (λ (X : Row → Type 0). X r) (get_or-append D (P ∷ []) (λ x. ⊥) d l) (first_kept es (D ++ (P ∷ [])) d (omega arith) r h)

  -- a definition that is a key's name has what that name has
  name_has_lem : (key n : ℕ) (o : Origin) (es : List Expr) (D : Meanings) (i d : ℕ) → d ≡ length D + i → get_or es i (leaf (finite [])) ≡ leaf (listed (atom key) n plus o) → (r : Row) →
      get_or (meanings_by format names es D) d (λ x. ⊥) r → (E : Meanings) × names E key n plus o r
  unfolding meanings_by BelongsBy BelongsLeaf value
  name_has_lem key n o [] D i d l e r h = absurd (impossible {A = ⊥} cc)
  name_has_lem key n o (x ∷ es) D zero d l e r h =
      let P = BelongsBy format names D x [] in
      let m = length_snoc D P in
      (D, subst (λ (y : Expr). BelongsBy format names D y [] r) e (last_is D P d (omega arith) r (first_kept es (D ++ (P ∷ [])) d (omega arith) r h)))
  name_has_lem key n o (x ∷ es) D (suc i) d l e r h =
      let P = BelongsBy format names D x [] in
      let m = length_snoc D P in
      name_has_lem key n o es (D ++ (P ∷ [])) i d (omega arith) e r h

-- from the source's transformation to the definitions without a compromised key's lists

abbrev Within : Meanings → Meanings → Type 0
Within = Related (λ A B. A → B)

-- a name has no fewer rows where the definitions have none fewer
name_within : (W : World) (D E : Meanings) → Within D E → (k n : ℕ) (p : Polarity) (o : Origin) (r : Row) → InName W D k n p o r → InName W E k n p o r
unfolding InName
name_within W D E s k n p by_certificates r h = h
name_within W D E s k n p (by_definition d) r h = s d r h

module _ (format : ℕ) (W : World) (C : Row → Type 0) (key : ℕ) (compromised : C (key ∷ [])) where
  leaf_without : (D E : Meanings) → Within D E → (x : Leaf) → T (external_leaf plus x) → (vs : Values) (r : Row) →
      BelongsLeaf (uncompromised C (InName W)) D x vs r → BelongsLeaf (without key (InName W)) E x vs r
  unfolding external_leaf BelongsLeaf uncompromised without
  leaf_without D E s (finite rs) t vs r h = h
  leaf_without D E s (cofinite rs) t vs r h = h
  leaf_without D E s (definition d) t vs r h = s d r h
  leaf_without D E s (listed i n plus o) t vs r h = (λ e. h.0 (subst (λ (k : ℕ). C (k ∷ [])) (sym e) compromised), name_within W D E s (value vs i) n plus o r h.1)
  leaf_without D E s (listed i n minus o) t vs r h = absurd t
  leaf_without D E s (vetted i n o d) t vs r h = absurd t

  expr_without : (D E : Meanings) → Within D E → (e : Expr) → T (external_expr plus e) → (r : Row) → BelongsBy format (uncompromised C (InName W)) D e [] r → BelongsBy format (without key (InName W)) E e [] r
  expr_without D E s e t r =
      subst (λ (x : Expr). BelongsBy format (uncompromised C (InName W)) D x [] r → BelongsBy format (without key (InName W)) E x [] r) (each_same e)
      (expr_carried format (uncompromised C (InName W)) (without key (InName W)) D E (λ x. x) (λ x. x) (leaf_without D E s) e t [] r)

  all_without : (xs : List Entry) (es : List Expr) → length xs ≡ length es → T (all_plus xs es) → (D E : Meanings) → length D ≡ length E → Within D E →
      Within (meanings_by format (uncompromised C (InName W)) es D) (meanings_by format (without key (InName W)) es E)
  unfolding all_plus meanings_by
  all_without xs [] l t D E m s = s
  all_without [] (e ∷ es) l t D E m s = absurd (omega arith)
  all_without (x ∷ xs) (e ∷ es) l t D E m s =
      let P = BelongsBy format (uncompromised C (InName W)) D e [] in
      let Q = BelongsBy format (without key (InName W)) E e [] in
      let u = T_right (eqb x.polarity 0) (external_expr plus e) (T_left (eqb x.polarity 0 && external_expr plus e) (all_plus xs es) t) in
      let a = length_snoc D P in
      let b = length_snoc E Q in
      all_without xs es (omega arith) (T_right (eqb x.polarity 0 && external_expr plus e) (all_plus xs es) t) (D ++ (P ∷ [])) (E ++ (Q ∷ [])) (omega arith)
      (related_snoc (λ A B. A → B) (λ z. z) D E m s P Q (expr_without D E s e u))

module _ (format : ℕ) (W : World) (key : ℕ) where
  transformed_without : (xs : List Entry) (es : List Expr) → length xs ≡ length es → T (keys_listed xs) → T (is_external xs es) →
      get_or (meanings format W es []) 0 (λ x. ⊥) (key ∷ []) → Within (transformed format W xs es) (without_key format key W es)
  unfolding keys_listed transformed without_key meanings_by
  transformed_without [] es l k t c = absurd k
  transformed_without (x ∷ xs) [] l k t c = absurd (omega arith)
  transformed_without (x ∷ xs) (e ∷ es) l k t c =
      let C = Belongs format W [] e [] in
      subst (λ (b : Bool). Within (elim b as (λ c. Meanings) [
        | true ↦ meanings_by format (uncompromised C (InName W)) es (C ∷ [])
        | false ↦ meanings format W (e ∷ es) []
      ]) (meanings_by format (without key (InName W)) es (C ∷ []))) (sym (true_T (lists_keys x) k))
      (all_without format W C key (first_kept format (InName W) es (C ∷ []) 0 (omega arith) (key ∷ []) c) xs es (omega arith) (later_plus x xs e es k t)
      (C ∷ []) (C ∷ []) refl (λ d r h. h))

  name_without : (n : ℕ) (o : Origin) (es : List Expr) (d : ℕ) → 0 < d → get_or es d (leaf (finite [])) ≡ leaf (listed (atom key) n plus o) → (r : Row) →
      ¬ get_or (without_key format key W es) d (λ x. ⊥) r
  unfolding without_key without
  name_without n o [] d l e r h = h
  name_without n o (x ∷ es) zero l e r h = absurd (omega arith)
  name_without n o (x ∷ es) (suc d) l e r h =
      (name_has_lem format (without key (InName W)) key n o es (Belongs format W [] x [] ∷ []) d (suc d) (omega arith) e r h).1.0 refl

pub not_relied_on : NotReliedOn
not_relied_on ours policy entries source known c d S a = record {
  rows = lower_rows_lem ours policy entries source known c d S a;
  not_by_key = not_by_key_lem;
  no_row = λ k W allowed key compromised n o l e r i h. name_without (format_of policy) W key n o source d l e r (not_by_key_lem k W allowed key compromised r i h);
}
  where
    not_by_key_lem : keys_listed entries ≡ true → (W : World) → AllTrue W (held_after a.call.minute a.point.passed) → (key : ℕ) → get_or (meanings (format_of policy) W source []) 0 (λ x. ⊥) (key ∷ []) →
        (r : Row) → IsRow r → T (has S r) → get_or (without_key (format_of policy) key W source) d (λ x. ⊥) r
    not_by_key_lem k W allowed key compromised r i h =
        let t = rewritten_from ours policy a.out a.rewrites in
        let e = passed_once ours policy t.checks c in
        let external = subst (λ (es : List Expr). T (is_external entries es)) e.1 (subst (λ (xs : List Entry). T (is_external xs t.source)) e.0 t.external) in
        transformed_without (format_of policy) W key entries source (accepted_lengths (policy_accepted ours policy entries source known c).definitions) (T_true k) external compromised d r
        (lower_rows_lem ours policy entries source known c d S a W allowed r i h)
