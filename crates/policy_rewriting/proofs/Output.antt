-- The output of a whole policy: definition by definition it is laid, and what is laid in the end is the output.
use Prim.Native.Nat.{ℕ, zero, suc, ◌+◌, ◌-◌, ◌*◌, ◌≤◌, ◌<◌}
use Rattle.std.proofs.Common.{Some, None}
use mathlib.Core.Path.{◌≡◌, refl, sym, ◌∙◌, ap, subst}
use mathlib.Core.Bool.{Bool, true, false, ◌&&◌}
use mathlib.Core.List.{List, [], ◌∷◌, ◌++◌, append_assoc}
use native.Mathlib.Omega.{arith}
use lib.Dec.{eqb}
use lib.ListN.{length, get_or, take, drop, length-append, length-take, length-drop, take-append-drop, drop_of_length-le}
use lib.Seq.{drop-cons, drop-drop, length-take-le}
use borrow.Author.Tests.{eqb-true, ne_eqb}
use Rattle.rows.specs.Name.{plus, minus, polarity_of}
use Rattle.rows.proofs.Case.{and_true}
use Rattle.rows.proofs.Lists.{no_elements}
use Rattle.policy.specs.Syntax.{Expr}
use Rattle.policy.specs.Words.{each, expr_words}
use Rattle.policy.specs.Parse.{parsed, parse}
use Rattle.policy.specs.Polarity.{Known, scope_of}
use Rattle.policy.specs.Format.{format_of}
use Rattle.policy.specs.Table.{Entry, entry_at, entry_words}
use Rattle.policy.specs.Definitions.{known_of}
use Rattle.policy.specs.External.{external_expr, lists_keys, keys_listed, all_plus, is_external, vet_all, vet_later, moved, placed, entry_four, parts, policy_words, output}
use Rattle.policy.proofs.Judging.{AcceptedDefinition, Accepted, none, one, policy_accepted}
use Rattle.policy.proofs.SoundTable.{SoundEntry, InTable, SoundTable, table_sound}
use Rattle.policy.proofs.Rewriting.{accepted_lengths}
use Rattle.policy.proofs.Placing.{cells_length, policy_length}
use Rattle.policy.proofs.Vetting.{each_same}
use Rattle.policy.proofs.Decoding.{parse_words}
use Rattle.policy_table.specs.Entries.{entry_place}
use Rattle.policy_rewriting.specs.Laid.{laid}
use Rattle.policy_rewriting.specs.Walks.{vets, out_leaf, out, Answered, Walked, Roomy, Vetted, To}
use Rattle.policy_rewriting.specs.Output.{Passing, SayKeys, may_be, sign, AskDefinition, WalkedDefinition, header_of, MeasuredAs}
use Rattle.policy_rewriting.proofs.Laid.{laid_none, laid_append, laid_apart}
use Rattle.policy_rewriting.proofs.Entries.{word_first}
use Rattle.policy_rewriting.proofs.Walks.{answer_told}

-- ---- the rules and the output, definition by definition

pub rules_from : Bool → ℕ → List Entry → List Expr → Bool
rules_from keys i [] es = true
rules_from keys i (x ∷ xs) [] = true
rules_from keys i (x ∷ xs) (e ∷ es) = (may_be keys i (sign x) && external_expr (sign x) e) && rules_from keys (suc i) xs es

pub outs : Bool → List Entry → List Expr → List Expr
outs keys [] es = []
outs keys (x ∷ xs) [] = []
outs keys (x ∷ xs) (e ∷ es) = out keys (sign x) e ∷ outs keys xs es

outs_length : (keys : Bool) (xs : List Entry) (es : List Expr) → length xs ≡ length es → length xs ≡ length (outs keys xs es)
unfolding outs
outs_length keys [] es l = refl
outs_length keys (x ∷ xs) [] l = absurd (omega arith)
outs_length keys (x ∷ xs) (e ∷ es) l = ap suc (outs_length keys xs es (omega arith))

-- a definition that may not be − must be +
plus_rule : (keys : Bool) (i : ℕ) (x : Entry) (e : Expr) → (may_be keys i minus ≡ false) → (may_be keys i (sign x) && external_expr (sign x) e) ≡ (eqb x.polarity 0 && external_expr plus e)
unfolding may_be polarity_of
plus_rule keys i x e h = go x.polarity refl
  where
    go : (w : ℕ) → x.polarity ≡ w → (may_be keys i (polarity_of w) && external_expr (polarity_of w) e) ≡ (eqb w 0 && external_expr plus e)
    go zero f = refl
    go (suc w) f = rw (h, ne_eqb (suc w) 0 (λ g. absurd (omega arith))) refl

later_rules : (keys : Bool) (i : ℕ) (xs : List Entry) (es : List Expr) → ((j : ℕ) → i ≤ j → may_be keys j minus ≡ false) → rules_from keys i xs es ≡ all_plus xs es
unfolding rules_from all_plus
later_rules keys i [] es h = refl
later_rules keys i (x ∷ xs) [] h = refl
later_rules keys i (x ∷ xs) (e ∷ es) h = rw (plus_rule keys i x e (h i (omega arith)), later_rules keys (suc i) xs es (λ j k. h j (omega arith))) refl

none_minus : (j : ℕ) → may_be false j minus ≡ false
unfolding may_be
none_minus j = refl

not_later_lem : (j : ℕ) → 1 ≤ j → may_be true j minus ≡ false
unfolding may_be
not_later_lem zero h = absurd (omega arith)
not_later_lem (suc j) h = refl

-- definition 0 that lists keys is −
keys_sign : (x : Entry) → lists_keys x ≡ true → sign x ≡ minus
unfolding lists_keys polarity_of
keys_sign x h = ap polarity_of (eqb-true x.polarity 1 (and_true (eqb x.name 0) (eqb x.polarity 1) h).1)

rules_external : (keys : Bool) (xs : List Entry) (es : List Expr) → keys ≡ keys_listed xs → is_external xs es ≡ rules_from keys 0 xs es
unfolding is_external rules_from keys_listed may_be
rules_external keys [] es k = refl
rules_external keys (x ∷ xs) [] k = refl
rules_external keys (x ∷ xs) (e ∷ es) k = go keys k
  where
    go : (b : Bool) → b ≡ lists_keys x →
        (elim (lists_keys x) as (λ c. Bool) [ true ↦ external_expr minus e && all_plus xs es | false ↦ all_plus (x ∷ xs) (e ∷ es) ]) ≡ ((may_be b 0 (sign x) && external_expr (sign x) e) && rules_from b 1 xs es)
    go true b = rw (← b, keys_sign x (sym b), later_rules true 1 xs es not_later_lem) refl
    go false b = rw (← b) (sym (later_rules false 0 (x ∷ xs) (e ∷ es) (λ j h. none_minus j)))

-- the output's definitions: as they are where no keys are listed, else definition 0 as it is and the others vetted
plain_outs : (xs : List Entry) (es : List Expr) → length xs ≡ length es → outs false xs es ≡ es
unfolding outs out_leaf vets
plain_outs [] [] l = refl
plain_outs [] (e ∷ es) l = absurd (omega arith)
plain_outs (x ∷ xs) [] l = absurd (omega arith)
plain_outs (x ∷ xs) (e ∷ es) l = rw (each_same e, plain_outs xs es (omega arith)) refl

vetted_outs : (xs : List Entry) (es : List Expr) → length xs ≡ length es → all_plus xs es ≡ true → outs true xs es ≡ vet_all es
unfolding outs all_plus vet_all out_leaf vets polarity_of
vetted_outs [] [] l h = refl
vetted_outs [] (e ∷ es) l h = absurd (omega arith)
vetted_outs (x ∷ xs) [] l h = absurd (omega arith)
vetted_outs (x ∷ xs) (e ∷ es) l h =
    let a = and_true (eqb x.polarity 0 && external_expr plus e) (all_plus xs es) h in
    let z : x.polarity ≡ 0 = eqb-true x.polarity 0 (and_true (eqb x.polarity 0) (external_expr plus e) a.0).0 in
    rw (z, vetted_outs xs es (omega arith) a.1) refl

keys_outs : (xs : List Entry) (es : List Expr) → length xs ≡ length es → keys_listed xs ≡ true → is_external xs es ≡ true → outs true xs es ≡ vet_later es
unfolding keys_listed is_external outs vet_later out_leaf vets
keys_outs [] [] l k h = refl
keys_outs [] (e ∷ es) l k h = absurd (omega arith)
keys_outs (x ∷ xs) [] l k h = absurd (omega arith)
keys_outs (x ∷ xs) (e ∷ es) l k h =
    let t : (external_expr minus e && all_plus xs es) ≡ true = rw (is_external, k) at h in
    rw (keys_sign x k, each_same e, vetted_outs xs es (omega arith) (and_true (external_expr minus e) (all_plus xs es) t).1) refl

-- ---- a policy is the policy of its definitions

-- a definition's words are those of its expression
module _ (p : List ℕ) {due : ℕ} {earlier : List Entry} {x : Entry} {ks : List Known} {e : Expr} {ours : ℕ} (s : SoundEntry p due earlier x) (a : AcceptedDefinition ours p ks x e) where
  entry_spelled : take x.size (drop x.offset p) ≡ expr_words e 0
  unfolding entry_words
  entry_spelled = parse_words (scope_of ours ks) (entry_words p x) e a.parses

  entry_size : length (expr_words e 0) ≡ x.size
  entry_size = ap length (sym entry_spelled) ∙ length-take-le x.size (drop x.offset p) (omega (arith, length-drop x.offset p, s.ends))

same_place : (x : Entry) (due size : ℕ) → x.offset ≡ due → size ≡ x.size → moved x due size ≡ x
same_place x due size o s = rw (← o, s) refl

module _ (p : List ℕ) where
  placed_same : {ours : ℕ} (at due : ℕ) (earlier : List Entry) {xs : List Entry} {ks ls : List Known} {es : List Expr} → InTable p at due earlier xs → Accepted ours p xs ks es ls → placed due xs es ≡ xs
  unfolding InTable placed
  placed_same at due earlier h none = refl
  placed_same at due earlier h (one {x = x} {xs = xs} {e = e} {es = es} a rest) =
      let size = entry_size p h.1 a in
      let next : due + length (expr_words e 0) ≡ x.offset + x.size = omega (arith, h.1.starts) in
      ap (λ (y : Entry). y ∷ placed (due + length (expr_words e 0)) xs es) (same_place x due (length (expr_words e 0)) h.1.starts size)
      ∙ ap (λ (ys : List Entry). x ∷ ys) (ap (λ (d : ℕ). placed d xs es) next ∙ placed_same (at + 4) (x.offset + x.size) (x ∷ earlier) h.2 rest)

  four_words : (at : ℕ) → at + 4 ≤ length p → drop at p ≡ entry_four (entry_at p at) ++ drop (at + 4) p
  unfolding entry_four entry_at
  four_words at h =
      let a = word_first p at (at + 1) (omega arith) (omega arith) in
      let b = word_first p (at + 1) (at + 2) (omega arith) (omega arith) in
      let c = word_first p (at + 2) (at + 3) (omega arith) (omega arith) in
      let d = word_first p (at + 3) (at + 4) (omega arith) (omega arith) in
      rw (a, b, c, d) refl

  table_same : (at due : ℕ) (earlier xs : List Entry) → InTable p at due earlier xs → at + 4 * length xs ≤ length p → drop at p ≡ each entry_four xs ++ drop (at + 4 * length xs) p
  unfolding InTable each
  table_same at due earlier [] h f = ap (λ (n : ℕ). drop n p) (let e : at ≡ at + 4 * 0 = omega arith in e)
  table_same at due earlier (x ∷ xs) h f =
      let e : at + 4 + 4 * length xs ≡ at + 4 * length (x ∷ xs) = omega arith in
      let rest = table_same (at + 4) (x.offset + x.size) (x ∷ earlier) xs h.2 (omega arith) ∙ ap (λ (n : ℕ). each entry_four xs ++ drop n p) e in
      four_words at (omega arith) ∙ ap (λ (y : Entry). entry_four y ++ drop (at + 4) p) (sym h.0) ∙ ap (λ (r : List ℕ). entry_four x ++ r) rest
      ∙ sym (append_assoc (entry_four x) (each entry_four xs) (drop (at + 4 * length (x ∷ xs)) p))

  parts_same : {ours : ℕ} (at due : ℕ) (earlier : List Entry) {xs : List Entry} {ks ls : List Known} {es : List Expr} → InTable p at due earlier xs → Accepted ours p xs ks es ls → drop due p ≡ parts es
  unfolding InTable parts each
  parts_same at due earlier h none = drop_of_length-le p {i = due} (omega (arith, h))
  parts_same at due earlier h (one {x = x} {e = e} {es = es} a rest) =
      ap (λ (n : ℕ). drop n p) (sym h.1.starts) ∙ sym (take-append-drop x.size (drop x.offset p))
      ∙ ap (λ (ws : List ℕ). ws ++ drop x.size (drop x.offset p)) (entry_spelled p h.1 a)
      ∙ ap (λ (ws : List ℕ). expr_words e 0 ++ ws) (drop-drop x.size x.offset p ∙ parts_same (at + 4) (x.offset + x.size) (x ∷ earlier) h.2 rest)

  policy_same : (g : Passing p) → policy_words (format_of p) g.entries g.exprs ≡ p
  unfolding policy_words
  policy_same g =
      let xs = g.entries in
      let es = g.exprs in
      let a = policy_accepted g.ours p xs es g.known g.passes in
      let t = table_sound p xs a.listed in
      let fits = t.header.fits in
      let count = t.count in
      let due : 2 + 4 * length xs ≡ 2 + 4 * get_or p 1 0 = omega arith in
      let here = t.entries in
      let table : drop 2 p ≡ each entry_four xs ++ parts es =
      table_same 2 (2 + 4 * get_or p 1 0) [] xs here (omega arith) ∙ ap (λ (n : ℕ). each entry_four xs ++ drop n p) due
      ∙ ap (λ (ws : List ℕ). each entry_four xs ++ ws) (parts_same 2 (2 + 4 * get_or p 1 0) [] here a.definitions) in
      let places : placed (2 + 4 * length xs) xs es ≡ xs = ap (λ (n : ℕ). placed n xs es) due ∙ placed_same 2 (2 + 4 * get_or p 1 0) [] here a.definitions in
      let two = t.header.two in
      ap (λ (ys : List Entry). format_of p ∷ length xs ∷ (each entry_four ys ++ parts es)) places ∙ ap (λ (n : ℕ). format_of p ∷ n ∷ (each entry_four xs ++ parts es)) count
      ∙ ap (λ (ws : List ℕ). format_of p ∷ get_or p 1 0 ∷ ws) (sym table)
      ∙ ap (λ (ws : List ℕ). format_of p ∷ ws) (sym (drop-cons p 1 0 (omega arith))) ∙ sym (drop-cons p 0 0 (omega arith))

-- what is laid for an external policy is its output
output_is_lem : {policy : List ℕ} (keys : Bool) (g : Passing policy) → keys ≡ keys_listed g.entries → is_external g.entries g.exprs ≡ true →
    policy_words (format_of policy) g.entries (outs keys g.entries g.exprs) ≡ output policy g.entries g.exprs
unfolding output
output_is_lem {policy} keys g k ext = go keys k
  where
    xs : List Entry
    xs = g.entries

    es : List Expr
    es = g.exprs

    lengths : length xs ≡ length es
    lengths = accepted_lengths (policy_accepted g.ours policy xs es g.known g.passes).definitions

    go : (b : Bool) → b ≡ keys_listed xs → policy_words (format_of policy) xs (outs b xs es) ≡ (elim (keys_listed xs) as (λ c. List ℕ) [ true ↦ policy_words (format_of policy) xs (vet_later es) | false ↦ policy ])
    go true b = rw (← b) (ap (policy_words (format_of policy) xs) (keys_outs xs es lengths (sym b) ext))
    go false b = rw (← b) (ap (policy_words (format_of policy) xs) (plain_outs xs es lengths) ∙ policy_same policy g)

-- ---- definition by definition

-- a part and its entry are laid, then the parts and entries after it: as if each had been laid in one piece
step_laid : (to place : ℕ) (w ps four cells area : List ℕ) → place + length four + length cells ≤ to →
    laid (to + length w) ps (laid (place + length four) cells (laid place four (laid to w area))) ≡ laid to (w ++ ps) (laid place (four ++ cells) area)
step_laid to place w ps four cells area h =
    let side : laid (place + length four) cells (laid place four (laid to w area)) ≡ laid to w (laid (place + length four) cells (laid place four area)) =
    ap (laid (place + length four) cells) (laid_apart place four to w area (omega arith)) ∙ laid_apart (place + length four) cells to w (laid place four area) (omega arith) in
    ap (laid (to + length w) ps) side ∙ laid_append to w ps _ ∙ ap (laid to (w ++ ps)) (laid_append place four cells area)

-- these words are all, but for the header
abbrev pub AllBut : List ℕ → List ℕ → List ℕ → ℕ → List ℕ → Type 0
AllBut header whole before end after = (end ≡ length whole) × (laid 0 header after ≡ laid 0 whole before)

-- once these are laid, their entries from word `place` on and their parts from word `to` on, all are
abbrev pub Goes : Bool → ℕ → ℕ → List ℕ → (ℕ → List ℕ → Type 0) → List Entry → List Expr → Type 0
Goes keys place to area All xs es =
    (end : ℕ) (after : List ℕ) → end ≡ to + length (parts (outs keys xs es)) → after ≡ laid to (parts (outs keys xs es)) (laid place (each entry_four (placed to xs (outs keys xs es))) area) → All end after

goes_on : (keys : Bool) (place to : ℕ) (area : List ℕ) (All : ℕ → List ℕ → Type 0) (x : Entry) (xs : List Entry) (e : Expr) (es : List Expr) {mid after : List ℕ} {end : ℕ} →
    Goes keys place to area All (x ∷ xs) (e ∷ es) → mid ≡ laid to (expr_words (out keys (sign x) e) 0) area → end ≡ to + length (expr_words (out keys (sign x) e) 0) →
    after ≡ laid place (entry_four (moved x to (length (expr_words (out keys (sign x) e) 0)))) mid → length xs ≡ length es → place + 4 + 4 * length xs ≤ to → Goes keys (place + 4) end after All xs es
unfolding parts each placed outs entry_four
goes_on keys place to area All x xs e es {mid} {after} {end} g m n a l h last later k w =
    let ws : List ℕ = expr_words (out keys (sign x) e) 0 in
    let os = outs keys xs es in
    let four : List ℕ = entry_four (moved x to (length ws)) in
    let cells : List ℕ = each entry_four (placed (to + length ws) xs os) in
    let long : length cells ≡ 4 * length xs = cells_length (to + length ws) xs os (outs_length keys xs es l) in
    g last later (omega (arith, length-append ws (parts os)))
    (subst (λ (i : ℕ). later ≡ laid i (parts os) (laid (place + 4) (each entry_four (placed i xs os)) after)) n w
    ∙ ap (λ (r : List ℕ). laid (to + length ws) (parts os) (laid (place + 4) cells r)) (a ∙ ap (laid place four) m) ∙ step_laid to place ws (parts os) four cells area (omega arith))

-- definitions from number i on are still to be laid, the next part at word `to`
pub record OutputLeft {policy : List ℕ} (g : Passing policy) (before : List ℕ) (keys : Bool) (i to : ℕ) (area : List ℕ) : Type 0 where
  pub keys_are : keys ≡ keys_listed g.entries
  -- those that are left
  pub entries : List Entry
  pub exprs : List Expr
  pub known : List Known
  pub last_known : List Known
  pub accepted : Accepted g.ours policy entries known exprs last_known
  pub due : ℕ
  pub earlier : List Entry
  pub listed : InTable policy (entry_place i) due earlier entries
  pub count : i + length entries ≡ get_or policy 1 0
  pub behind : entry_place (get_or policy 1 0) ≤ to
  pub room : to ≤ 2 * due
  pub rules : is_external g.entries g.exprs ≡ rules_from keys i entries exprs
  pub goes : Goes keys (entry_place i) to area (AllBut (header_of policy) (policy_words (format_of policy) g.entries (outs keys g.entries g.exprs)) before) entries exprs

-- the header goes before the entries and the parts
whole_laid : (f : ℕ) (xs : List Entry) (os : List Expr) (before : List ℕ) → length xs ≡ length os → (end : ℕ) (after : List ℕ) → end ≡ 2 + 4 * length xs + length (parts os) →
    after ≡ laid (2 + 4 * length xs) (parts os) (laid 2 (each entry_four (placed (2 + 4 * length xs) xs os)) before) →
    (end ≡ length (policy_words f xs os)) × (laid 0 (f ∷ length xs ∷ []) after ≡ laid 0 (policy_words f xs os) before)
unfolding policy_words
whole_laid f xs os before l end after e h =
    let header : List ℕ = f ∷ length xs ∷ [] in
    let cells : List ℕ = each entry_four (placed (2 + 4 * length xs) xs os) in
    let long : 2 + 4 * length xs ≡ 2 + length cells = omega (arith, cells_length (2 + 4 * length xs) xs os l) in (
      e ∙ sym (policy_length f xs os l),
      ap (laid 0 header) h ∙ laid_apart 0 header (2 + 4 * length xs) (parts os) (laid 2 cells before) (omega arith)
          ∙ ap (laid (2 + 4 * length xs) (parts os)) (laid_apart 0 header 2 cells before (omega arith))
          ∙ ap (λ (n : ℕ). laid n (parts os) (laid 2 cells (laid 0 header before))) long ∙ laid_append 2 cells (parts os) (laid 0 header before)
          ∙ laid_append 0 header (cells ++ parts os) before,
    )

module _ (policy before : List ℕ) {keys : Bool} (k : SayKeys policy keys) (g : Passing policy) where
  -- before the first
  pub none_laid : {to : ℕ} → to ≡ entry_place (get_or policy 1 0) → OutputLeft g before keys 0 to before
  none_laid {to} e =
      let xs = g.entries in
      let es = g.exprs in
      let keys_are = k.says g in
      let a = policy_accepted g.ours policy xs es g.known g.passes in
      let t = table_sound policy xs a.listed in
      let os = outs keys xs es in
      let count = t.count in
      let start : to ≡ 2 + 4 * length xs = omega arith in
      let header : header_of policy ≡ format_of policy ∷ length xs ∷ [] = ap (λ (n : ℕ). format_of policy ∷ n ∷ []) (sym count) in
      record {
        keys_are = keys_are;
        entries = xs;
        exprs = es;
        known = [];
        last_known = g.known;
        accepted = a.definitions;
        due = 2 + 4 * get_or policy 1 0;
        earlier = [];
        listed = t.entries;
        count = omega arith;
        behind = omega arith;
        room = omega arith;
        rules = rules_external keys xs es keys_are;
        goes = λ end after h w.
            let all = whole_laid (format_of policy) xs os before (outs_length keys xs es (accepted_lengths a.definitions)) end after (h ∙ ap (λ (n : ℕ). n + length (parts os)) start)
            (w ∙ ap (λ (n : ℕ). laid n (parts os) (laid 2 (each entry_four (placed n xs os)) before)) start) in
            (all.0, ap (λ (ws : List ℕ). laid 0 ws after) header ∙ all.1);
      }

-- the next one of those that are left
record Next (ours : ℕ) (policy : List ℕ) (at due : ℕ) (earlier ys : List Entry) (fs : List Expr) (ks ls : List Known) : Type 0 where
  x : Entry
  xs : List Entry
  e : Expr
  es : List Expr
  entries_are : ys ≡ x ∷ xs
  exprs_are : fs ≡ e ∷ es
  definition : AcceptedDefinition ours policy ks x e
  others : Accepted ours policy xs (ks ++ (known_of x e ks ∷ [])) es ls
  is : x ≡ entry_at policy at
  entry : SoundEntry policy due earlier x
  table : InTable policy (at + 4) (x.offset + x.size) (x ∷ earlier) xs

next_of : {ours : ℕ} {policy : List ℕ} (at due : ℕ) (earlier : List Entry) {ys : List Entry} {fs : List Expr} {ks ls : List Known} → Accepted ours policy ys ks fs ls → InTable policy at due earlier ys → 0 < length ys →
    Next ours policy at due earlier ys fs ks ls
unfolding InTable
next_of at due earlier none t z = absurd (omega arith)
next_of at due earlier (one {x = x} {xs = xs} {e = e} {es = es} d rest) t z =
    record { x = x; xs = xs; e = e; es = es; entries_are = refl; exprs_are = refl; definition = d; others = rest; is = t.0; entry = t.1; table = t.2 }

module _ {policy before : List ℕ} {g : Passing policy} {keys : Bool} {i to : ℕ} {area : List ℕ} (o : OutputLeft g before keys i to area) where
  sound : SoundTable policy g.entries
  sound = table_sound policy g.entries (policy_accepted g.ours policy g.entries g.exprs g.known g.passes).listed

  module _ (more : i < get_or policy 1 0) where
    next : Next g.ours policy (entry_place i) o.due o.earlier o.entries o.exprs o.known o.last_known
    next = next_of (entry_place i) o.due o.earlier o.accepted o.listed (omega (arith, o.count))

    parses : parse (scope_of g.ours o.known) (entry_words policy (entry_at policy (entry_place i))) ≡ parsed next.e
    parses = subst (λ (x : Entry). parse (scope_of g.ours o.known) (entry_words policy x) ≡ parsed next.e) next.is next.definition.parses

    pub next_asked : AskDefinition policy i to
    unfolding entry_words
    next_asked =
        let n = next in
        let count = sound.header.count in
        let fits = sound.header.fits in
        let most = sound.header.most in
        let starts = n.entry.starts in
        let ends = n.entry.ends in
        let room = o.room in
        let size = length-take n.x.size (drop n.x.offset policy) in
        record {
          few = omega arith;
          inside = omega arith;
          ends = subst (λ (x : Entry). x.offset + x.size ≤ length policy) n.is ends;
          scope = scope_of g.ours o.known;
          expr = n.e;
          parses = parses;
          room = subst (λ (x : Entry). Roomy (entry_words policy x) 0 to) n.is (record { fits = omega arith });
        }

    -- what the rules say of the next one, and of those after it
    rules_split : is_external g.entries g.exprs ≡ ((may_be keys i (sign next.x) && external_expr (sign next.x) next.e) && rules_from keys (suc i) next.xs next.es)
    unfolding rules_from
    rules_split = o.rules ∙ ap (λ (ys : List Entry). rules_from keys i ys o.exprs) next.entries_are ∙ ap (λ (fs : List Expr). rules_from keys i (next.x ∷ next.xs) fs) next.exprs_are

    module _ {r : Vetted} {mid : List ℕ} (w : WalkedDefinition keys policy i to area r mid) where
      walked_next : Walked (may_be keys i (sign next.x) && external_expr (sign next.x) next.e) 0 (length (expr_words next.e 0)) to (expr_words (out keys (sign next.x) next.e) 0) area r mid
      walked_next =
          subst (λ (x : Entry). Walked (may_be keys i (sign x) && external_expr (sign x) next.e) 0 (length (expr_words next.e 0)) to (expr_words (out keys (sign x) next.e) 0) area r mid)
          (sym next.is) (w.walked (scope_of g.ours o.known) next.e parses)

      pub next_broken : r ≡ None → is_external g.entries g.exprs ≡ false
      unfolding Answered
      next_broken e = rules_split ∙ ap (λ (b : Bool). b && rules_from keys (suc i) next.xs next.es) (answer_told walked_next e).answer

      pub next_room : {past end : ℕ} → r ≡ To past end → (i ≤ 15) × (entry_place i + 4 ≤ length policy) × (to ≤ end) × (end ≤ 65536)
      unfolding Answered
      next_room e =
          let a = next_asked in
          let y = (answer_told walked_next e).answer.1 in
          let few = a.few in
          let inside = a.inside in
          let ends = y.ends in
          let twice = y.few in
          let size = entry_size policy next.entry next.definition in
          let room = o.room in
          let starts = next.entry.starts in
          let within = next.entry.ends in
          let most = sound.header.most in
          (omega arith, omega arith, omega arith, omega arith)

      module _ {past end : ℕ} {after : List ℕ} (e : r ≡ To past end)
          (l : after ≡ laid (entry_place i) (entry_four (moved (entry_at policy (entry_place i)) to (end - to))) mid) where
        pub next_laid : OutputLeft g before keys (i + 1) end after
        unfolding Answered parts each placed outs
        next_laid =
            let n = next in
            let x = n.x in
            let ws : List ℕ = expr_words (out keys (sign x) n.e) 0 in
            let answer = (answer_told walked_next e).answer in
            let y = answer.1 in
            let ends = y.ends in
            let few = y.few in
            let size = entry_size policy n.entry n.definition in
            let starts = n.entry.starts in
            let count = o.count in
            let behind = o.behind in
            let room = o.room in
            let one : i + 1 ≡ suc i = omega arith in
            let place : entry_place i + 4 ≡ entry_place (i + 1) = omega arith in
            let left : length o.entries ≡ suc (length n.xs) = ap length n.entries_are in
            let All = AllBut (header_of policy) (policy_words (format_of policy) g.entries (outs keys g.entries g.exprs)) before in
            let moving : after ≡ laid (entry_place i) (entry_four (moved x to (length ws))) mid =
            l ∙ ap (λ (y : Entry). laid (entry_place i) (entry_four (moved y to (end - to))) mid) (sym n.is)
            ∙ ap (λ (k : ℕ). laid (entry_place i) (entry_four (moved x to k)) mid) (let k : end - to ≡ length ws = omega arith in k) in
            record {
              keys_are = o.keys_are;
              entries = n.xs;
              exprs = n.es;
              known = o.known ++ (known_of x n.e o.known ∷ []);
              last_known = o.last_known;
              accepted = n.others;
              due = x.offset + x.size;
              earlier = x ∷ o.earlier;
              listed = subst (λ (at : ℕ). InTable policy at (x.offset + x.size) (x ∷ o.earlier) n.xs) place n.table;
              count = omega arith;
              behind = omega arith;
              room = omega arith;
              rules = rules_split ∙ ap (λ (b : Bool). b && rules_from keys (suc i) n.xs n.es) answer.0 ∙ ap (λ (j : ℕ). rules_from keys j n.xs n.es) (sym one);
              goes = subst (λ (at : ℕ). Goes keys at end after All n.xs n.es) place
                  (goes_on keys (entry_place i) to area All x n.xs n.e n.es
                  (subst (λ (fs : List Expr). Goes keys (entry_place i) to area All (x ∷ n.xs) fs) n.exprs_are
                  (subst (λ (ys : List Entry). Goes keys (entry_place i) to area All ys o.exprs) n.entries_are o.goes))
                  y.area ends moving (accepted_lengths n.others) (omega arith));
            }

  -- after the last
  pub all_laid : {after : List ℕ} → get_or policy 1 0 ≤ i → after ≡ laid 0 (header_of policy) area →
      MeasuredAs (is_external g.entries g.exprs) (output policy g.entries g.exprs) before (Some to) after
  unfolding MeasuredAs rules_from outs parts each placed
  all_laid {after} done l =
      let none : o.entries ≡ [] = no_elements o.entries (omega (arith, o.count)) in
      let external : is_external g.entries g.exprs ≡ true = o.rules ∙ ap (λ (ys : List Entry). rules_from keys i ys o.exprs) none in
      let whole = policy_words (format_of policy) g.entries (outs keys g.entries g.exprs) in
      let All = AllBut (header_of policy) whole before in
      let all = subst (λ (ys : List Entry). Goes keys (entry_place i) to area All ys o.exprs) none o.goes to area (omega arith) (sym (laid_none to _ ∙ laid_none (entry_place i) area)) in
      let same = output_is_lem keys g o.keys_are external in
      (external, all.0 ∙ ap length same, l ∙ all.1 ∙ ap (λ (ws : List ℕ). laid 0 ws before) same)
