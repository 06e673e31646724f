-- The rewritten policy means what the source's transformation means, in the policy's format.
use Prim.Native.Nat.{ℕ, zero, suc, ◌+◌, ◌*◌, ◌<◌, ◌≤◌}
use mathlib.Core.Path.{◌≡◌, refl, sym, ◌∙◌, ap, subst}
use mathlib.Core.Logic.{inl, inr, ◌↔◌}
use mathlib.Core.Bool.{Bool, true, false, ◌&&◌}
use mathlib.Core.List.{List, [], ◌∷◌, ◌++◌, map}
use native.Mathlib.Omega.{arith}
use lib.Dec.{T, leb, eqb, leb→le}
use lib.ListN.{length, get_or}
use Rattle.refusals.specs.RefusalTable.{not_external, no_part}
use Rattle.rows.specs.Word.{All, Words}
use Rattle.rows.specs.Row.{Row}
use Rattle.rows.specs.Name.{Polarity, plus, minus}
use Rattle.rows.proofs.Case.{T_true, true_T, T_left, T_right, T_eqb, iff_refl, both_not}
use Rattle.rows.proofs.Lists.{length_snoc}
use Rattle.policy.specs.Format.{format_of}
use Rattle.policy.specs.OwnKey.{Origin, by_certificates, by_definition}
use Rattle.policy.specs.Leaf.{Leaf, finite, cofinite, definition, listed, vetted}
use Rattle.policy.specs.Syntax.{Expr, leaf, union, difference, comprehension, Body, head, draw, same, different, absent}
use Rattle.policy.specs.Words.{expr_words}
use Rattle.policy.specs.Table.{Entry}
use Rattle.policy.specs.Polarity.{Known}
use Rattle.policy.specs.Definitions.{PolicyChecked, passed, check_policy}
use Rattle.policy.specs.Definitions as Definitions
use Rattle.policy.specs.External.{external_leaf, external_expr, external_body, lists_keys, keys_listed, all_plus, is_external, vet_leaf, each_leaf, each_leaf_in, vet, vet_all, vet_later, moved, placed, policy_words}
use Rattle.policy.specs.External.{output, Rewriting, rewritten, refused, rewrite}
use Rattle.policy.proofs.Basics.{impossible}
use Rattle.policy.proofs.Judging.{policy_accepted}
use Rattle.policy.proofs.Vetting.{each_same}
use Rattle.policy.proofs.Rewriting.{accepted_lengths, later_lengths, later_plus, rewritten_passes, output_format}
use Rattle.policy.proofs.RewrittenWords.{rewritten_words}
use Rattle.meaning.specs.Values.{Values, value}
use Rattle.meaning.specs.World.{World}
use Rattle.meaning.specs.Belonging.{Names, InName, Meanings, BelongsLeaf, BelongsBy, Belongs, PassesBy, meanings_by, meanings}
use Rattle.demands.specs.External.{uncompromised, transformed, Positive, Means, Theorem, Unchanged}

-- what is so of the rows of definition after definition

abbrev pub Related : (Type 0 → Type 0 → Type 0) → Meanings → Meanings → Type 0
Related R D E = (d : ℕ) (r : Row) → R (get_or D d (λ x. ⊥) r) (get_or E d (λ x. ⊥) r)

pub related_snoc : (R : Type 0 → Type 0 → Type 0) → R ⊥ ⊥ → (D E : Meanings) → length D ≡ length E → Related R D E → (P Q : Row → Type 0) → ((r : Row) → R (P r) (Q r)) →
    Related R (D ++ (P ∷ [])) (E ++ (Q ∷ []))
related_snoc R n [] [] l s P Q h zero r = h r
related_snoc R n [] [] l s P Q h (suc d) r = n
related_snoc R n [] (y ∷ E) l s P Q h d r = absurd (omega arith)
related_snoc R n (x ∷ D) [] l s P Q h d r = absurd (omega arith)
related_snoc R n (x ∷ D) (y ∷ E) l s P Q h zero r = s zero r
related_snoc R n (x ∷ D) (y ∷ E) l s P Q h (suc d) r = related_snoc R n D E (omega arith) (λ c q. s (suc c) q) P Q h d r

abbrev Same : Meanings → Meanings → Type 0
Same = Related (λ A B. A ↔ B)

-- what belongs to an external + expression, its leaves changed in one way, belongs to it, its leaves changed in another and read from other names and
-- definitions, where that is so of each leaf
module _ (format : ℕ) (names others : Names) (D E : Meanings) (f g : Leaf → Leaf)
    (leaves : (x : Leaf) → T (external_leaf plus x) → (vs : Values) (r : Row) → BelongsLeaf names D (f x) vs r → BelongsLeaf others E (g x) vs r) where
  mutual
    unfolding external_expr each_leaf BelongsBy

    pub expr_carried : (e : Expr) → T (external_expr plus e) → (vs : Values) (r : Row) → BelongsBy format names D (each_leaf f e) vs r → BelongsBy format others E (each_leaf g e) vs r
    expr_carried (leaf x) t vs r h = leaves x t vs r h
    expr_carried (union a b) t vs r h = elim h [
      | inl i ↦ inl (expr_carried a (T_left (external_expr plus a) (external_expr plus b) t) vs r i)
      | inr i ↦ inr (expr_carried b (T_right (external_expr plus a) (external_expr plus b) t) vs r i)
    ]
    expr_carried (difference a b) t vs r h = absurd t
    expr_carried (comprehension b) t vs r h = body_carried b t vs r h

    body_carried : (b : Body) → T (external_body plus b) → (vs : Values) (r : Row) → PassesBy format names D (each_leaf_in f b) vs r → PassesBy format others E (each_leaf_in g b) vs r
    body_carried (head ts) t vs r h = h
    body_carried (draw e s b) t vs r h = (
      h.0,
      (h.1.0, h.1.1, h.1.2, expr_carried e (T_left (external_expr plus e) (external_body plus b) t) vs h.1.0 h.1.3),
      body_carried b (T_right (external_expr plus e) (external_body plus b) t) (vs ++ h.0) r h.2,
    )
    body_carried (same x y b) t vs r h = (h.0, body_carried b t vs r h.1)
    body_carried (different x y b) t vs r h = (h.0, body_carried b t vs r h.1)
    body_carried (absent ts e b) t vs r h = absurd t

-- a name has the same rows where the definitions do
name_same : (W : World) (D E : Meanings) → Same D E → (k n : ℕ) (p : Polarity) (o : Origin) (r : Row) → InName W D k n p o r ↔ InName W E k n p o r
unfolding InName
name_same W D E alike k n p by_certificates r = iff_refl
name_same W D E alike k n p (by_definition d) r = alike d r

-- an external + expression, vetted, has what it has where its names are read as the source's transformation reads them
module _ (format : ℕ) (W : World) (C : Row → Type 0) (D E : Meanings) (alike : Same D E) (keys : (r : Row) → get_or D 0 (λ x. ⊥) r ↔ C r) where
  leaf_vetted : (x : Leaf) → T (external_leaf plus x) → (vs : Values) (r : Row) → BelongsLeaf (InName W) D (vet_leaf x) vs r ↔ BelongsLeaf (uncompromised C (InName W)) E x vs r
  unfolding external_leaf vet_leaf BelongsLeaf uncompromised
  leaf_vetted (finite rs) t vs r = iff_refl
  leaf_vetted (cofinite rs) t vs r = iff_refl
  leaf_vetted (definition d) t vs r = alike d r
  leaf_vetted (listed i n plus o) t vs r =
      let k = both_not (keys (value vs i ∷ [])) in
      let m = name_same W D E alike (value vs i) n plus o r in
      (λ h. (k.0 h.0, m.0 h.1), λ h. (k.1 h.0, m.1 h.1))
  leaf_vetted (listed i n minus o) t vs r = absurd t
  leaf_vetted (vetted i n o d) t vs r = absurd t

  expr_vetted : (e : Expr) → T (external_expr plus e) → (vs : Values) (r : Row) → BelongsBy format (InName W) D (vet e) vs r ↔ BelongsBy format (uncompromised C (InName W)) E e vs r
  expr_vetted e t vs r =
      subst (λ (x : Expr). BelongsBy format (InName W) D (vet e) vs r ↔ BelongsBy format (uncompromised C (InName W)) E x vs r) (each_same e) (
        expr_carried format (InName W) (uncompromised C (InName W)) D E vet_leaf (λ x. x) (λ x u ws q. (leaf_vetted x u ws q).0) e t vs r,
        expr_carried format (uncompromised C (InName W)) (InName W) E D (λ x. x) vet_leaf (λ x u ws q. (leaf_vetted x u ws q).1) e t vs r,
      )

keys_snoc : (C : Row → Type 0) (D : Meanings) (P : Row → Type 0) → 0 < length D → ((r : Row) → get_or D 0 (λ x. ⊥) r ↔ C r) → (r : Row) → get_or (D ++ (P ∷ [])) 0 (λ x. ⊥) r ↔ C r
keys_snoc C [] P l h r = absurd (omega arith)
keys_snoc C (x ∷ D) P l h r = h r

-- definitions, one after the other, in a policy of this format
module _ (format : ℕ) where
  -- the later ones
  all_vetted : (W : World) (C : Row → Type 0) (xs : List Entry) (es : List Expr) → length xs ≡ length es → T (all_plus xs es) → (D E : Meanings) → length D ≡ length E → 0 < length D →
      Same D E → ((r : Row) → get_or D 0 (λ x. ⊥) r ↔ C r) → Same (meanings_by format (InName W) (vet_all es) D) (meanings_by format (uncompromised C (InName W)) es E)
  unfolding all_plus vet_all meanings_by
  all_vetted W C xs [] l t D E m some s keys = s
  all_vetted W C [] (e ∷ es) l t D E m some s keys = absurd (omega arith)
  all_vetted W C (x ∷ xs) (e ∷ es) l t D E m some s keys =
      let P = BelongsBy format (InName W) D (vet e) [] in
      let Q = BelongsBy format (uncompromised C (InName W)) E e [] in
      let u = T_right (eqb x.polarity 0) (external_expr plus e) (T_left (eqb x.polarity 0 && external_expr plus e) (all_plus xs es) t) in
      let a = length_snoc D P in
      let b = length_snoc E Q in
      all_vetted W C xs es (omega arith) (T_right (eqb x.polarity 0 && external_expr plus e) (all_plus xs es) t) (D ++ (P ∷ [])) (E ++ (Q ∷ [])) (omega arith) (omega arith)
      (related_snoc (λ A B. A ↔ B) iff_refl D E m s P Q (λ r. expr_vetted format W C D E s keys e u [] r)) (keys_snoc C D P some keys)

  -- definition 0 as it was, then the vetted ones
  vetted_same : (W : World) (xs : List Entry) (es : List Expr) → length xs ≡ length es → T (keys_listed xs) → T (is_external xs es) →
      Same (meanings format W (vet_later es) []) (transformed format W xs es)
  unfolding keys_listed vet_later transformed meanings_by
  vetted_same W [] es l k t = absurd k
  vetted_same W (x ∷ xs) [] l k t = absurd (omega arith)
  vetted_same W (x ∷ xs) (e ∷ es) l k t =
      let C = Belongs format W [] e [] in
      subst (λ (b : Bool). Same (meanings_by format (InName W) (vet_all es) (C ∷ [])) (elim b as (λ c. Meanings) [
        | true ↦ meanings_by format (uncompromised C (InName W)) es (C ∷ [])
        | false ↦ meanings format W (e ∷ es) []
      ])) (sym (true_T (lists_keys x) k))
      (all_vetted W C xs es (omega arith) (later_plus x xs e es k t) (C ∷ []) (C ∷ []) refl (omega arith) (λ d r. iff_refl) (λ r. iff_refl))

  -- without a definition of name 0 −
  plain_same : (W : World) (xs : List Entry) (es : List Expr) → keys_listed xs ≡ false → Same (meanings format W es []) (transformed format W xs es)
  unfolding transformed meanings_by
  plain_same W xs [] k = λ d r. iff_refl
  plain_same W xs (e ∷ es) k =
      let C = Belongs format W [] e [] in
      subst (λ (b : Bool). Same (meanings format W (e ∷ es) []) (elim b as (λ c. Meanings) [
        | true ↦ meanings_by format (uncompromised C (InName W)) es (C ∷ [])
        | false ↦ meanings format W (e ∷ es) []
      ])) (sym k) (λ d r. iff_refl)

-- names and polarities stay

placed_same : (f : Entry → ℕ) → ((x : Entry) (due size : ℕ) → f (moved x due size) ≡ f x) → (due : ℕ) (xs : List Entry) (es : List Expr) → length xs ≡ length es →
    map f (placed due xs es) ≡ map f xs
unfolding placed
placed_same f h due [] es l = refl
placed_same f h due (x ∷ xs) [] l = absurd (omega arith)
placed_same f h due (x ∷ xs) (e ∷ es) l = rw (h x due (length (expr_words e 0)), placed_same f h (due + length (expr_words e 0)) xs es (omega arith))

all_plus_lem : (xs : List Entry) (es : List Expr) → length xs ≡ length es → T (all_plus xs es) → All (λ x. x.polarity ≡ 0) xs
unfolding All all_plus
all_plus_lem [] es l t = tt
all_plus_lem (x ∷ xs) [] l t = absurd (omega arith)
all_plus_lem (x ∷ xs) (e ∷ es) l t =
    let u = T_left (eqb x.polarity 0 && external_expr plus e) (all_plus xs es) t in
    ((T_eqb x.polarity 0).0 (T_left (eqb x.polarity 0) (external_expr plus e) u), all_plus_lem xs es (omega arith) (T_right (eqb x.polarity 0 && external_expr plus e) (all_plus xs es) t))

external_positive : (xs : List Entry) (es : List Expr) → length xs ≡ length es → T (is_external xs es) → Positive xs
unfolding is_external lists_keys Positive
external_positive [] es l t = tt
external_positive (x ∷ xs) [] l t = absurd (omega arith)
external_positive (x ∷ xs) (e ∷ es) l t = go (lists_keys x) refl t
  where
    go : (b : Bool) → lists_keys x ≡ b → T (elim b as (λ c. Bool) [ true ↦ external_expr minus e && all_plus xs es | false ↦ all_plus (x ∷ xs) (e ∷ es) ]) → Positive (x ∷ xs)
    go true b u = (
      inr ((T_eqb x.name 0).0 (T_left (eqb x.name 0) (eqb x.polarity 1) (T_true b)), (T_eqb x.polarity 1).0 (T_right (eqb x.name 0) (eqb x.polarity 1) (T_true b))),
      all_plus_lem xs es (omega arith) (T_right (external_expr minus e) (all_plus xs es) u),
    )
    go false b u = let a = all_plus_lem (x ∷ xs) (e ∷ es) l u in (inl a.0, a.1)

placed_plus : (due : ℕ) (xs : List Entry) (es : List Expr) → All (λ x. x.polarity ≡ 0) xs → All (λ x. x.polarity ≡ 0) (placed due xs es)
unfolding All placed
placed_plus due [] es a = tt
placed_plus due (x ∷ xs) [] a = tt
placed_plus due (x ∷ xs) (e ∷ es) a = (a.0, placed_plus (due + length (expr_words e 0)) xs es a.1)

placed_positive : (due : ℕ) (xs : List Entry) (es : List Expr) → Positive xs → Positive (placed due xs es)
unfolding Positive placed
placed_positive due [] es p = tt
placed_positive due (x ∷ xs) [] p = tt
placed_positive due (x ∷ xs) (e ∷ es) p = (p.0, placed_plus (due + length (expr_words e 0)) xs es p.1)

-- what is rewritten passed 1 to 7, keeps the external rules, and is short
pub record RewrittenFrom (ours : ℕ) (policy out : List ℕ) : Type 0 where
  pub entries : List Entry
  pub source : List Expr
  pub known : List Known
  pub checks : check_policy ours policy ≡ passed entries source known
  pub external : T (is_external entries source)
  pub output_is : output policy entries source ≡ out
  pub short : length out ≤ 8192

pub rewritten_from : (ours : ℕ) (policy out : List ℕ) → rewrite ours policy ≡ rewritten out → RewrittenFrom ours policy out
unfolding rewrite
rewritten_from ours policy out h = go (check_policy ours policy) refl h
  where
    fits : (xs : List Entry) (es : List Expr) (ks : List Known) → check_policy ours policy ≡ passed xs es ks → (b : Bool) → (is_external xs es && leb (length (output policy xs es)) 8192) ≡ b →
        (elim b as (λ c. Rewriting) [ true ↦ rewritten (output policy xs es) | false ↦ refused not_external no_part ]) ≡ rewritten out → RewrittenFrom ours policy out
    fits xs es ks c true b f =
        let e : output policy xs es ≡ out = cc in
        let short = leb→le (length (output policy xs es)) 8192 (T_right (is_external xs es) (leb (length (output policy xs es)) 8192) (T_true b)) in
        record {
          entries = xs;
          source = es;
          known = ks;
          checks = c;
          external = T_left (is_external xs es) (leb (length (output policy xs es)) 8192) (T_true b);
          output_is = e;
          short = subst (λ (ws : List ℕ). length ws ≤ 8192) e short;
        }
    fits xs es ks c false b f = impossible cc

    go : (c : PolicyChecked) → check_policy ours policy ≡ c →
        (elim c as (λ d. Rewriting) [
          | passed xs es ks ↦ elim (is_external xs es && leb (length (output policy xs es)) 8192) as (λ d. Rewriting) [
            | true ↦ rewritten (output policy xs es)
            | false ↦ refused not_external no_part
          ]
          | Definitions.refused n part ↦ refused n part
        ]) ≡ rewritten out → RewrittenFrom ours policy out
    go (passed xs es ks) c f = fits xs es ks c (is_external xs es && leb (length (output policy xs es)) 8192) refl f
    go (Definitions.refused n part) c f = impossible cc

pub theorem : Theorem
unfolding output
theorem ours policy out h = let t = rewritten_from ours policy out h in go t (keys_listed t.entries) refl t.output_is
  where
    kept : format_of out ≡ format_of policy
    kept = let t = rewritten_from ours policy out h in subst (λ (ws : List ℕ). format_of ws ≡ format_of policy) t.output_is (output_format policy t.entries t.source)

    go : (t : RewrittenFrom ours policy out) (b : Bool) → keys_listed t.entries ≡ b →
        (elim b as (λ c. List ℕ) [ true ↦ policy_words (format_of policy) t.entries (vet_later t.source) | false ↦ policy ]) ≡ out → Means ours policy out
    go t true b f =
        let xs = t.entries in
        let es = t.source in
        let due = 2 + 4 * length xs in
        let l = accepted_lengths (policy_accepted ours policy xs es t.known t.checks).definitions in
        let m : length xs ≡ length (vet_later es) = l ∙ sym (later_lengths es) in
        let short = subst (λ (ws : List ℕ). length ws ≤ 8192) (sym f) t.short in
        record {
          entries = xs;
          source = es;
          known = t.known;
          checks = t.checks;
          places = placed due xs (vet_later es);
          target = vet_later es;
          passes = subst (λ (ws : List ℕ). check_policy ours ws ≡ passed (placed due xs (vet_later es)) (vet_later es) t.known) f
              (rewritten_passes ours policy xs es t.known t.checks (T_true b) t.external short);
          short = t.short;
          words = λ w. subst Words f (rewritten_words ours policy xs es t.known t.checks short w);
          count = later_lengths es;
          names = placed_same (λ x. x.name) (λ x a s. refl) due xs (vet_later es) m;
          polarities = placed_same (λ x. x.polarity) (λ x a s. refl) due xs (vet_later es) m;
          positive = placed_positive due xs (vet_later es) (external_positive xs es l t.external);
          format = kept;
          same = λ W d r. rw kept (vetted_same (format_of policy) W xs es l (T_true b) t.external d r);
        }
    go t false b f =
        let xs = t.entries in
        let es = t.source in
        record {
          entries = xs;
          source = es;
          known = t.known;
          checks = t.checks;
          places = xs;
          target = es;
          passes = subst (λ (ws : List ℕ). check_policy ours ws ≡ passed xs es t.known) f t.checks;
          short = t.short;
          words = λ w. subst Words f w;
          count = refl;
          names = refl;
          polarities = refl;
          positive = external_positive xs es (accepted_lengths (policy_accepted ours policy xs es t.known t.checks).definitions) t.external;
          format = kept;
          same = λ W d r. rw kept (plain_same (format_of policy) W xs es b d r);
        }

-- what passed is one thing
pub passed_once : (ours : ℕ) (policy : List ℕ) {xs ys : List Entry} {es fs : List Expr} {ks ls : List Known} → check_policy ours policy ≡ passed xs es ks → check_policy ours policy ≡ passed ys fs ls →
    (xs ≡ ys) × (es ≡ fs)
passed_once ours policy {xs} {ys} {es} {fs} {ks} {ls} h g = let e : passed xs es ks ≡ passed ys fs ls = sym h ∙ g in (cc, cc)

pub unchanged : Unchanged
unfolding output
unchanged ours policy out entries source known c k h =
    let t = rewritten_from ours policy out h in
    let e : keys_listed t.entries ≡ false = ap keys_listed (passed_once ours policy t.checks c).0 ∙ k in
    sym t.output_is ∙ ap (λ (b : Bool). elim b as (λ c. List ℕ) [ true ↦ policy_words (format_of policy) t.entries (vet_later t.source) | false ↦ policy ]) e
