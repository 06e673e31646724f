-- Where a policy is of words, what it is rewritten into is.
use Prim.Native.Nat.{ℕ, ◌+◌, ◌*◌, ◌≤◌}
use mathlib.Core.Path.{◌≡◌, sym, ◌∙◌, subst}
use mathlib.Core.List.{List, [], ◌∷◌, ◌++◌}
use native.Mathlib.Omega.{arith}
use lib.Dec.{leb→le}
use lib.ListN.{length, get_or}
use Rattle.rows.specs.Word.{All, IsWord, Words}
use Rattle.rows.specs.Name.{plus, minus}
use Rattle.rows.proofs.Lists.{all_at, all_left, all_right, all_both}
use Rattle.policy.specs.Terms.{term_words, term_row_words}
use Rattle.policy.specs.Leaf.{Leaf, finite, cofinite, definition, listed, vetted, leaf_words}
use Rattle.policy.specs.Syntax.{Expr, leaf, union, difference, comprehension, Body, head, draw, same, different, absent}
use Rattle.policy.specs.Words.{slot_words, fresh, guard_count, each, expr_words, body_words}
use Rattle.policy.specs.Polarity.{Known, scope_of}
use Rattle.policy.specs.Format.{format_of}
use Rattle.policy.specs.Table.{Entry, entry_words}
use Rattle.policy.specs.Definitions.{passed, check_policy}
use Rattle.policy.specs.External.{vet_leaf, each_leaf, vet, vet_body, vet_all, vet_later, placed, entry_four, parts, policy_words}
use Rattle.policy.proofs.Decoding.{parse_words}
use Rattle.policy.proofs.Judging.{Accepted, none, one, policy_accepted, entry_words_lem}
use Rattle.policy.proofs.SoundTable.{InTable, table_sound}
use Rattle.policy.proofs.Placing.{parts_more, policy_length}
use Rattle.policy.proofs.Vetting.{each_guards}
use Rattle.policy.proofs.Rewriting.{accepted_lengths, later_lengths}

-- words put in the place of words, part by part
both_words : (ts bs us vs : List ℕ) → (Words ts → Words us) → (Words bs → Words vs) → Words (ts ++ bs) → Words (us ++ vs)
both_words ts bs us vs f g w = all_both IsWord us vs (f (all_left IsWord ts bs w)) (g (all_right IsWord ts bs w))

later_words : (ts bs vs : List ℕ) → (Words bs → Words vs) → Words (ts ++ bs) → Words (ts ++ vs)
later_words ts bs vs g w = both_words ts bs ts vs (λ a. a) g w

-- an expression, vetted

leaf_words_lem : (x : Leaf) → Words (leaf_words x) → Words (leaf_words (vet_leaf x))
unfolding leaf_words vet_leaf All
leaf_words_lem (finite rs) w = w
leaf_words_lem (cofinite rs) w = w
leaf_words_lem (definition d) w = w
leaf_words_lem (listed t n plus o) w = (omega arith, later_words (term_words t) _ _ (λ v. (v.0, (v.1.0, (omega arith, tt)))) w.1)
leaf_words_lem (listed t n minus o) w = w
leaf_words_lem (vetted t n o d) w = w

mutual
  unfolding expr_words each_leaf

  vet_words : (e : Expr) (n : ℕ) → Words (expr_words e n) → Words (expr_words (vet e) n)
  vet_words (leaf x) n w = leaf_words_lem x w
  vet_words (union a b) n w = later_words (5 ∷ []) _ _ (λ v. both_words (expr_words a n) (expr_words b n) _ _ (λ u. vet_words a n u) (λ u. vet_words b n u) v) w
  vet_words (difference a b) n w = later_words (6 ∷ []) _ _ (λ v. both_words (expr_words a n) (expr_words b n) _ _ (λ u. vet_words a n u) (λ u. vet_words b n u) v) w
  vet_words (comprehension b) n w =
      subst (λ (c : ℕ). Words (7 ∷ c ∷ body_words (vet_body b) n)) (sym (each_guards vet_leaf b)) (later_words (7 ∷ guard_count b ∷ []) _ _ (λ v. body_words_lem b n v) w)

  body_words_lem : (b : Body) (n : ℕ) → Words (body_words b n) → Words (body_words (vet_body b) n)
  body_words_lem (head r) n w = w
  body_words_lem (draw e s b) n w =
      later_words (1 ∷ []) _ _ (λ v. both_words (expr_words e n) (length s ∷ (slot_words n s ++ body_words b (n + fresh s))) _ _ (λ u. vet_words e n u)
      (λ u. later_words (length s ∷ slot_words n s) _ _ (λ t. body_words_lem b (n + fresh s) t) u) v) w
  body_words_lem (same x y b) n w = later_words (2 ∷ term_words x) _ _ (λ v. later_words (term_words y) _ _ (λ u. body_words_lem b n u) v) w
  body_words_lem (different x y b) n w = later_words (3 ∷ term_words x) _ _ (λ v. later_words (term_words y) _ _ (λ u. body_words_lem b n u) v) w
  body_words_lem (absent r e b) n w =
      later_words (4 ∷ term_row_words r) _ _ (λ v. both_words (expr_words e n) (body_words b n) _ _ (λ u. vet_words e n u) (λ u. body_words_lem b n u) v) w

-- the parts

abbrev OfWords : Expr → Type 0
OfWords e = Words (expr_words e 0)

accepted_words : (ours : ℕ) (policy : List ℕ) → Words policy → {xs : List Entry} {ks ls : List Known} {es : List Expr} → Accepted ours policy xs ks es ls → All OfWords es
unfolding All
accepted_words ours policy w none = tt
accepted_words ours policy w (one {x = x} {ks = ks} {e = e} a rest) =
    (subst Words (parse_words (scope_of ours ks) (entry_words policy x) e a.parses) (entry_words_lem policy x w), accepted_words ours policy w rest)

all_words : (es : List Expr) → All OfWords es → All OfWords (vet_all es)
unfolding All vet_all
all_words [] w = tt
all_words (e ∷ es) w = (vet_words e 0 w.0, all_words es w.1)

vetted_words : (es : List Expr) → All OfWords es → All OfWords (vet_later es)
unfolding All vet_later
vetted_words [] w = tt
vetted_words (e ∷ es) w = (w.0, all_words es w.1)

parts_words : (es : List Expr) → All OfWords es → Words (parts es)
unfolding All parts each
parts_words [] w = tt
parts_words (e ∷ es) w = all_both IsWord (expr_words e 0) (parts es) w.0 (parts_words es w.1)

-- the table: names and polarities keep their rules, and no offset or size passes 8,192
cells_words : (due : ℕ) (policy : List ℕ) (at was : ℕ) (earlier xs : List Entry) (es : List Expr) → InTable policy at was earlier xs → due + length (parts es) ≤ 8192 →
    Words (each entry_four (placed due xs es))
unfolding All each entry_four placed InTable
cells_words due policy at was earlier [] es fine short = tt
cells_words due policy at was earlier (x ∷ xs) [] fine short = tt
cells_words due policy at was earlier (x ∷ xs) (e ∷ es) fine short =
    let more = parts_more e es in
    let name = leb→le x.name 65535 fine.1.name in
    let polarity = leb→le x.polarity 1 fine.1.polarity in
    let rest = cells_words (due + length (expr_words e 0)) policy (at + 4) (x.offset + x.size) (x ∷ earlier) xs es fine.2 (omega arith) in
    (omega arith, (omega arith, (omega arith, (omega arith, rest))))

pub rewritten_words : (ours : ℕ) (policy : List ℕ) (xs : List Entry) (es : List Expr) (ls : List Known) → check_policy ours policy ≡ passed xs es ls →
    length (policy_words (format_of policy) xs (vet_later es)) ≤ 8192 → Words policy → Words (policy_words (format_of policy) xs (vet_later es))
unfolding All policy_words
rewritten_words ours policy xs es ls h short w =
    let a = policy_accepted ours policy xs es ls h in
    let sound = table_sound policy xs a.listed in
    let few : length xs ≤ 16 = omega (arith, sound.count, sound.header.count) in
    let format = all_at IsWord policy w 0 0 (omega (arith, sound.header.two)) in
    let size = policy_length (format_of policy) xs (vet_later es) (accepted_lengths a.definitions ∙ sym (later_lengths es)) in
    let cells = cells_words (2 + 4 * length xs) policy 2 (2 + 4 * get_or policy 1 0) [] xs (vet_later es) sound.entries (omega arith) in
    let rest = parts_words (vet_later es) (vetted_words es (accepted_words ours policy w a.definitions)) in
    (format, (omega arith, all_both IsWord (each entry_four (placed (2 + 4 * length xs) xs (vet_later es))) (parts (vet_later es)) cells rest))
