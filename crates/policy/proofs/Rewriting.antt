-- What an external policy is rewritten into is a policy of its format that passes 1 to 7, its definitions being the vetted ones.
use Prim.Native.Nat.{ℕ, suc, ◌+◌, ◌*◌, ◌<◌, ◌≤◌}
use mathlib.Core.Path.{◌≡◌, refl, sym, ◌∙◌, ap, subst}
use mathlib.Core.Bool.{Bool, true, false, ◌&&◌}
use mathlib.Core.List.{List, [], ◌∷◌, ◌++◌}
use native.Mathlib.Omega.{arith}
use lib.Dec.{T, eqb}
use lib.ListN.{length, length-map, get_or, take, drop, get_or-append}
use lib.Seq.{drop-drop, take-append_seam, drop-append_seam}
use borrow.Author.Tests.{eqb-true}
use Rattle.rows.specs.Name.{plus, minus, polarity_of}
use Rattle.rows.proofs.Case.{Case, is_true, is_false, split, true_T, T_left, T_right}
use Rattle.rows.proofs.Lists.{length_snoc}
use Rattle.policy.specs.Leaf.{declaration}
use Rattle.policy.specs.Syntax.{Expr}
use Rattle.policy.specs.Words.{each, expr_words}
use Rattle.policy.specs.Parse.{parse}
use Rattle.policy.specs.Polarity.{Known, unknown, scope_of, has_polarity}
use Rattle.policy.specs.Format.{format_of}
use Rattle.policy.specs.Table.{Entry, entry_words}
use Rattle.policy.specs.Definitions.{known_of, passed, check_policy}
use Rattle.policy.specs.External.{external_expr, lists_keys, all_plus, is_external, vet, vet_all, vet_later, moved, placed, parts, policy_words, keys_listed, output}
use Rattle.policy.proofs.Decoding.{parse_iff}
use Rattle.policy.proofs.Judging.{AcceptedDefinition, Accepted, none, one, policy_accepted, accepted_passes}
use Rattle.policy.proofs.Placing.{table_read, parts_at}
use Rattle.policy.proofs.SoundTable.{table_sound}
use Rattle.policy.proofs.Vetting.{vet_formed, vet_open, vet_closed, vet_has}

-- the definitions of the rewritten policy pass

entry_part : (out : List ℕ) (x : Entry) (due : ℕ) (e : Expr) (es : List Expr) → drop due out ≡ parts (e ∷ es) → entry_words out (moved x due (length (expr_words e 0))) ≡ expr_words e 0
unfolding entry_words parts each
entry_part out x due e es h = ap (λ (ws : List ℕ). take (length (expr_words e 0)) ws) h ∙ take-append_seam (expr_words e 0) (parts es)

next_part : (out : List ℕ) (due : ℕ) (e : Expr) (es : List Expr) → drop due out ≡ parts (e ∷ es) → drop (due + length (expr_words e 0)) out ≡ parts es
unfolding parts each
next_part out due e es h =
    sym (drop-drop (length (expr_words e 0)) due out) ∙ ap (λ (ws : List ℕ). drop (length (expr_words e 0)) ws) h ∙ drop-append_seam (expr_words e 0) (parts es)

vet_known : (x : Entry) (due size : ℕ) (e : Expr) (ks : List Known) → known_of x e ks ≡ known_of (moved x due size) (vet e) ks
unfolding known_of
vet_known x due size e ks = rw (vet_open ks e)

-- a later definition, definition 0 being −
later_passes : (ours : ℕ) (policy out : List ℕ) (ks : List Known) (x : Entry) (e : Expr) (due : ℕ) (es : List Expr) → AcceptedDefinition ours policy ks x e → 0 < length ks →
    (get_or ks 0 unknown).declared ≡ minus → x.polarity ≡ 0 → T (external_expr plus e) → drop due out ≡ parts (vet e ∷ es) →
    AcceptedDefinition ours out ks (moved x due (length (expr_words (vet e) 0))) (vet e)
unfolding known_of polarity_of
later_passes ours policy out ks x e due es a some keys is_plus t h =
    let formed = ((parse_iff (scope_of ours ks) (entry_words policy x) e).0 a.parses).1 in
    record {
      parses = (parse_iff (scope_of ours ks) _ (vet e)).1 (entry_part out x due (vet e) es h, vet_formed (scope_of ours ks) (omega (arith, length-map ks declaration)) e formed);
      has = subst (λ (w : ℕ). T (has_polarity (vet e) ks (polarity_of w))) (sym is_plus)
          (vet_has ks keys e t (subst (λ (w : ℕ). T (has_polarity e ks (polarity_of w))) is_plus a.has));
      closed = subst T (sym (vet_closed ks e)) a.closed;
    }

all_pass : (ours : ℕ) (policy out : List ℕ) {xs : List Entry} {ks ls : List Known} {es : List Expr} → Accepted ours policy xs ks es ls → 0 < length ks → (get_or ks 0 unknown).declared ≡ minus →
    T (all_plus xs es) → (due : ℕ) → drop due out ≡ parts (vet_all es) → Accepted ours out (placed due xs (vet_all es)) ks (vet_all es) ls
unfolding all_plus placed vet_all
all_pass ours policy out none some keys t due h = none
all_pass ours policy out (one {x = x} {xs = xs} {ks = ks} {ls = ls} {e = e} {es = es} a rest) some keys t due h =
    let size = length (expr_words (vet e) 0) in
    let u = T_left (eqb x.polarity 0 && external_expr plus e) (all_plus xs es) t in
    let is_plus = eqb-true x.polarity 0 (true_T _ (T_left (eqb x.polarity 0) (external_expr plus e) u)) in
    let l : length (ks ++ (known_of x e ks ∷ [])) ≡ suc (length ks) = length_snoc ks (known_of x e ks) in
    one (later_passes ours policy out ks x e due (vet_all es) a some keys is_plus (T_right (eqb x.polarity 0) (external_expr plus e) u) h)
    (subst (λ (k : Known). Accepted ours out (placed (due + size) xs (vet_all es)) (ks ++ (k ∷ [])) (vet_all es) ls) (vet_known x due size e ks)
    (all_pass ours policy out rest (omega arith) (ap (λ (k : Known). k.declared) (get_or-append ks (known_of x e ks ∷ []) unknown 0 some) ∙ keys)
    (T_right (eqb x.polarity 0 && external_expr plus e) (all_plus xs es) t) (due + size) (next_part out due (vet e) (vet_all es) h)))

pub accepted_lengths : {ours : ℕ} {policy : List ℕ} {xs : List Entry} {ks ls : List Known} {es : List Expr} → Accepted ours policy xs ks es ls → length xs ≡ length es
accepted_lengths none = refl
accepted_lengths (one a rest) = ap suc (accepted_lengths rest)

pub later_lengths : (es : List Expr) → length (vet_later es) ≡ length es
unfolding vet_later
later_lengths [] = refl
later_lengths (e ∷ es) = ap suc (go es)
  where
    go : (l : List Expr) → length (vet_all l) ≡ length l
    go [] = refl
    go (d ∷ l) = ap suc (go l)

-- definitions after the list of compromised keys
pub later_plus : (x : Entry) (xs : List Entry) (e : Expr) (es : List Expr) → T (lists_keys x) → T (is_external (x ∷ xs) (e ∷ es)) → T (all_plus xs es)
unfolding is_external
later_plus x xs e es k t =
    T_right (external_expr minus e) (all_plus xs es)
    (subst (λ (b : Bool). T (elim b as (λ c. Bool) [ true ↦ external_expr minus e && all_plus xs es | false ↦ all_plus (x ∷ xs) (e ∷ es) ])) (true_T (lists_keys x) k) t)

-- definition 0 as it was, then the vetted ones
first_passes : (ours : ℕ) (policy out : List ℕ) (xs : List Entry) (es : List Expr) (ls : List Known) → Accepted ours policy xs [] es ls → T (keys_listed xs) → T (is_external xs es) →
    (due : ℕ) → drop due out ≡ parts (vet_later es) → Accepted ours out (placed due xs (vet_later es)) [] (vet_later es) ls
unfolding keys_listed placed vet_later known_of polarity_of
first_passes ours policy out [] es ls none k t due h = none
first_passes ours policy out (x ∷ xs) (e ∷ es) ls (one a rest) k t due h =
    let is_minus : x.polarity ≡ 1 = eqb-true x.polarity 1 (true_T _ (T_right (eqb x.name 0) (eqb x.polarity 1) k)) in
    one (record { parses = ap (parse (scope_of ours [])) (entry_part out x due e (vet_all es) h ∙ sym ((parse_iff (scope_of ours []) (entry_words policy x) e).0 a.parses).0) ∙ a.parses; has = a.has; closed = a.closed })
    (all_pass ours policy out rest (omega arith) (ap polarity_of is_minus) (later_plus x xs e es k t) _ (next_part out due e (vet_all es) h))
first_passes ours policy out (x ∷ xs) [] ls x6 k t due h = elim x6 [ ]

-- "The resulting program .. satisfies our polarity discipline": it passes 1 to 7
pub rewritten_passes : (ours : ℕ) (policy : List ℕ) (xs : List Entry) (es : List Expr) (ls : List Known) → check_policy ours policy ≡ passed xs es ls → T (keys_listed xs) → T (is_external xs es) →
    length (policy_words (format_of policy) xs (vet_later es)) ≤ 8192 →
    check_policy ours (policy_words (format_of policy) xs (vet_later es)) ≡ passed (placed (2 + 4 * length xs) xs (vet_later es)) (vet_later es) ls
rewritten_passes ours policy xs es ls h k t short =
    let a = policy_accepted ours policy xs es ls h in
    let l : length xs ≡ length (vet_later es) = accepted_lengths a.definitions ∙ sym (later_lengths es) in
    accepted_passes ours _ _ _ ls (record {
      key = a.key;
      listed = table_read policy xs (vet_later es) (table_sound policy xs a.listed) l short;
      definitions = first_passes ours policy _ xs es ls a.definitions k t (2 + 4 * length xs) (parts_at (format_of policy) xs (vet_later es) l);
    })

-- it is of the policy's format
pub output_format : (policy : List ℕ) (xs : List Entry) (es : List Expr) → format_of (output policy xs es) ≡ format_of policy
unfolding output policy_words
output_format policy xs es = go (split (keys_listed xs))
  where
    go : Case (keys_listed xs) → format_of (output policy xs es) ≡ format_of policy
    go (is_true k) = rw (k, output)
    go (is_false k) = rw (k, output)
