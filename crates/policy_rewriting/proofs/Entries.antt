-- The list of compromised keys, a definition by its number, and the words of a table's entry.
use Prim.Native.Nat.{ℕ, suc, ◌+◌, ◌-◌, ◌≤◌, ◌<◌}
use Rattle.std.proofs.Common.{None}
use mathlib.Core.Path.{◌≡◌, refl, sym, ◌∙◌, ap, subst}
use mathlib.Core.Bool.{Bool, true, false}
use mathlib.Core.List.{List, [], ◌∷◌, ◌++◌}
use native.Mathlib.Omega.{arith}
use lib.Dec.{eqb}
use lib.ListN.{length, get_or, take, drop}
use lib.Seq.{drop-cons}
use borrow.Author.Tests.{eq-eqb, ne_eqb}
use Rattle.rows.specs.Name.{Polarity, polarity_of}
use Rattle.policy.specs.Table.{entry_at, entry_words}
use Rattle.policy.specs.External.{lists_keys, keys_listed, moved, entry_four}
use Rattle.policy.proofs.Judging.{policy_accepted}
use Rattle.policy_places.specs.Places.{SomeExpr}
use Rattle.policy_places.proofs.Places.{whole_here}
use Rattle.policy_table.specs.Entries.{entry_place, entries_from}
use Rattle.policy_table.proofs.PartAnswers.{TableParts, table_parts}
use Rattle.policy_rewriting.specs.Laid.{laid}
use Rattle.policy_rewriting.specs.Walks.{Answered, WalkedExpr, Roomy, Vetted}
use Rattle.policy_rewriting.specs.Output.{Passing, SayKeys, may_be, sign, AskDefinition, WalkedDefinition}
use Rattle.policy_rewriting.proofs.Walks.{then_laid}

-- ---- the list of compromised keys

pub table_of : {policy : List ℕ} (g : Passing policy) → TableParts policy g.entries
table_of {policy} g = table_parts policy g.entries (policy_accepted g.ours policy g.entries g.exprs g.known g.passes).listed

module _ (policy : List ℕ) where
  pub none_listed : get_or policy 1 0 ≡ 0 → SayKeys policy false
  unfolding entries_from keys_listed
  none_listed z = record { says = λ g. sym (ap keys_listed ((table_of g).are ∙ ap (λ (n : ℕ). entries_from n policy 2) z)) }

  module _ (some : get_or policy 1 0 ≡ 0 → ⊥) where
    first_listed : (g : Passing policy) → keys_listed g.entries ≡ lists_keys (entry_at policy 2)
    unfolding entries_from keys_listed
    first_listed g =
        let e : get_or policy 1 0 ≡ suc (get_or policy 1 0 - 1) = omega arith in
        ap keys_listed ((table_of g).are ∙ ap (λ (n : ℕ). entries_from n policy 2) e)

    pub other_name_listed : (get_or policy 2 0 ≡ 0 → ⊥) → SayKeys policy false
    unfolding lists_keys entry_at
    other_name_listed n = record { says = λ g. sym (first_listed g ∙ rw (ne_eqb (get_or policy 2 0) 0 n) refl) }

    pub polarity_listed : get_or policy 2 0 ≡ 0 → SayKeys policy (eqb (get_or policy 3 0) 1)
    unfolding lists_keys entry_at
    polarity_listed n = record { says = λ g. sym (first_listed g ∙ rw (eq-eqb (get_or policy 2 0) 0 n) refl) }

    pub first_inside : Passing policy → 6 ≤ length policy
    first_inside g = let t = (table_of g).header.fits in omega arith

-- ---- a definition by its number

module _ (policy : List ℕ) (i : ℕ) {at : ℕ} (place : at ≡ entry_place i) {q : Polarity} (read : q ≡ polarity_of (get_or policy (at + 1) 0)) where
  sign_at : q ≡ sign (entry_at policy (entry_place i))
  unfolding entry_at
  sign_at = read ∙ ap (λ (a : ℕ). polarity_of (get_or policy (a + 1) 0)) place

  pub definition_broken : {keys : Bool} {to : ℕ} {before after : List ℕ} → may_be keys i q ≡ false → WalkedDefinition keys policy i to before None after
  unfolding Answered
  definition_broken {keys} h = record { walked = λ scope e p. record { answer = rw (sym (ap (may_be keys i) sign_at) ∙ h) refl } }

  pub definition_walked : {keys : Bool} {to : ℕ} {ws before after : List ℕ} {r : Vetted} → may_be keys i q ≡ true →
      ws ≡ entry_words policy (entry_at policy (entry_place i)) → WalkedExpr keys q ws 0 to before r after → WalkedDefinition keys policy i to before r after
  definition_walked {keys} {to} {before = before} {after = after} {r = r} h f w =
      let is = entry_words policy (entry_at policy (entry_place i)) in
      let here = subst (λ (p : Polarity). WalkedExpr keys p is 0 to before r after) sign_at (subst (λ (us : List ℕ). WalkedExpr keys q us 0 to before r after) f w) in
      record { walked = λ scope e p. rw (sym (ap (may_be keys i) sign_at) ∙ h) (here.walked scope 0 e (whole_here scope is e p)) }

-- what is asked of the walk over it
pub definition_asked : {policy : List ℕ} {i to : ℕ} {ws : List ℕ} → AskDefinition policy i to → ws ≡ entry_words policy (entry_at policy (entry_place i)) → SomeExpr ws 0 × Roomy ws 0 to
definition_asked {to = to} a f =
    let here = whole_here a.scope _ a.expr a.parses in
    subst (λ (ws : List ℕ). SomeExpr ws 0 × Roomy ws 0 to) (sym f) (record { scope = a.scope; n = 0; e = a.expr; here = here }, a.room)

-- ---- the words of an entry

-- the words from one on: that word, and those from the next on
pub word_first : (ws : List ℕ) (at next : ℕ) → next ≡ suc at → at < length ws → drop at ws ≡ get_or ws at 0 ∷ drop next ws
word_first ws at next e h = rw e (drop-cons ws at 0 h)

pub two_words : (ws : List ℕ) (at : ℕ) → at + 2 ≤ length ws → take 2 (drop at ws) ≡ get_or ws at 0 ∷ get_or ws (at + 1) 0 ∷ []
two_words ws at h =
    let a = word_first ws at (at + 1) (omega arith) (omega arith) in
    let b = word_first ws (at + 1) (at + 2) (omega arith) (omega arith) in
    rw (a, b) refl

pub entry_laid : (policy before : List ℕ) (i to size : ℕ) {at offset : ℕ} {a b after : List ℕ} → entry_place i + 4 ≤ length policy → at ≡ entry_place i →
    (offset ≡ at + length (take (at + 2 - at) (drop at policy))) × (a ≡ laid at (take (at + 2 - at) (drop at policy)) before) → b ≡ laid offset (to ∷ []) a → after ≡ laid (offset + 1) (size ∷ []) b →
    after ≡ laid (entry_place i) (entry_four (moved (entry_at policy (entry_place i)) to size)) before
unfolding entry_four entry_at
entry_laid policy before i to size {at} {offset} {a} {b} inside place l f g =
    let two : at + 2 - at ≡ 2 = omega arith in
    let here : List ℕ = get_or policy at 0 ∷ get_or policy (at + 1) 0 ∷ [] in
    let same : take (at + 2 - at) (drop at policy) ≡ here = ap (λ (n : ℕ). take n (drop at policy)) two ∙ two_words policy at (omega arith) in
    let first : a ≡ laid at here before = l.1 ∙ ap (λ (w : List ℕ). laid at w before) same in
    let ends : offset ≡ at + 2 = l.0 ∙ ap (λ (w : List ℕ). at + length w) same in
    let ends₂ : offset + 1 ≡ at + 3 = omega arith in
    let second : b ≡ laid at (here ++ (to ∷ [])) before = then_laid at before here (to ∷ []) first (f ∙ ap (λ (n : ℕ). laid n (to ∷ []) a) ends) in
    then_laid at before (here ++ (to ∷ [])) (size ∷ []) second (g ∙ ap (λ (n : ℕ). laid n (size ∷ []) b) ends₂)
    ∙ ap (λ (p : ℕ). laid p (get_or policy p 0 ∷ get_or policy (p + 1) 0 ∷ to ∷ size ∷ []) before) place
