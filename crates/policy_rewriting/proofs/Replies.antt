-- What is replied of a policy that passed 20 and 1 to 7, and the area after it.
use Prim.Native.Nat.{ℕ, ◌≤◌, ◌<◌}
use Rattle.std.proofs.Common.{Option, Some, None, Result, Ok, Err}
use mathlib.Core.Path.{◌≡◌, refl, sym, ◌∙◌, ap, subst}
use mathlib.Core.Bool.{Bool, true, false, ◌&&◌}
use mathlib.Core.List.{List, [], ◌∷◌, ◌++◌}
use native.Mathlib.Omega.{arith}
use lib.Dec.{leb}
use lib.ListN.{length}
use borrow.Author.Tests.{le-leb, lt-leb}
use Rattle.refusals.specs.RefusalTable.{short_area, not_external, no_part}
use Rattle.refusals.specs.declared.Refusal.{Refusal}
use Rattle.rows.proofs.Case.{never}
use Rattle.policy.specs.Definitions.{PolicyChecked, passed, check_policy}
use Rattle.policy.specs.Definitions as Definitions
use Rattle.policy.specs.External.{is_external, output, Rewriting, rewritten, refused, rewrite, rewrite_into, area_after}
use Rattle.check_polarity.specs.Earlier.{earlier_is}
use Rattle.check_polarity.specs.declared.Earlier.{Earlier}
use Rattle.refusals.specs.Numbers.{told}
use Rattle.refusals.specs.declared.Refused.{Refused}
use Rattle.judging.specs.Reply.{JudgedAs}
use Rattle.judging.proofs.JudgeAnswers.{policy_checks, policy_fails}
use Rattle.policy_rewriting.specs.Output.{Passing, MeasuredAs, SayWords, rewritten_for, RepliedAs, replied, SayReply}
use Rattle.policy_rewriting.proofs.Laid.{laid_whole}

by_outcome : (ours : ℕ) (policy area : List ℕ) {r : Result ℕ (ℕ × ℕ)} {after : List ℕ} (o : Rewriting) → rewrite_into ours policy area ≡ o → r ≡ rewritten_for o → after ≡ area_after o area → RepliedAs ours policy area r after
by_outcome ours policy area o e f g = (f ∙ ap rewritten_for (sym e), g ∙ ap (λ (x : Rewriting). area_after x area) (sym e))

-- how 15 is tested, of a policy as it was checked
checked : (ours : ℕ) (policy : List ℕ) {c : PolicyChecked} → check_policy ours policy ≡ c → rewrite ours policy ≡ elim c [
  | passed xs es ks ↦ elim (is_external xs es && leb (length (output policy xs es)) 8192) [ true ↦ rewritten (output policy xs es) | false ↦ refused not_external no_part ]
  | Definitions.refused n part ↦ refused n part
]
unfolding rewrite
checked ours policy e = ap (λ (c : PolicyChecked). elim c as (λ d. Rewriting) [
  | passed xs es ks ↦ elim (is_external xs es && leb (length (output policy xs es)) 8192) as (λ d. Rewriting) [ true ↦ rewritten (output policy xs es) | false ↦ refused not_external no_part ]
  | Definitions.refused n part ↦ refused n part
]) e

-- how 11 is tested, of what is rewritten
into : (ours : ℕ) (policy area : List ℕ) {o : Rewriting} → rewrite ours policy ≡ o → rewrite_into ours policy area ≡ elim o [
  | rewritten out ↦ elim (leb (length out) (length area)) [ true ↦ rewritten out | false ↦ refused short_area no_part ]
  | refused n part ↦ refused n part
]
unfolding rewrite_into
into ours policy area e = ap (λ (o : Rewriting). elim o as (λ d. Rewriting) [
  | rewritten out ↦ elim (leb (length out) (length area)) as (λ d. Rewriting) [ true ↦ rewritten out | false ↦ refused short_area no_part ]
  | refused n part ↦ refused n part
]) e

module _ (policy area : List ℕ) (g : Passing policy) where
  ws : List ℕ
  ws = output policy g.entries g.exprs

  measured : {before after : List ℕ} {r r' : Option ℕ} → SayWords policy before r after → r ≡ r' → MeasuredAs (is_external g.entries g.exprs) ws before r' after
  unfolding ws
  measured w e = rw e at (w.says g)

  tested : {b : Bool} → (is_external g.entries g.exprs && leb (length ws) 8192) ≡ b → rewrite g.ours policy ≡ elim b [ true ↦ rewritten ws | false ↦ refused not_external no_part ]
  unfolding ws
  tested e =
      checked g.ours policy g.passes
      ∙ ap (λ (b : Bool). elim b as (λ d. Rewriting) [ true ↦ rewritten (output policy g.entries g.exprs) | false ↦ refused not_external no_part ]) e

  pub not_external_lem : {before after : List ℕ} {r : Option ℕ} → SayWords policy before r after → r ≡ None → RepliedAs g.ours policy area (Err (not_external, no_part)) area
  unfolding MeasuredAs rewritten_for area_after
  not_external_lem w e = by_outcome g.ours policy area (refused not_external no_part) (into g.ours policy area (tested {b = false} (ap (λ (b : Bool). b && leb (length ws) 8192) (measured w e)))) refl refl

  module _ {before after : List ℕ} {r : Option ℕ} {n : ℕ} (w : SayWords policy before r after) (e : r ≡ Some n) where
    size : n ≡ length ws
    unfolding MeasuredAs
    size = (measured w e).1

    fits : {b : Bool} → leb n 8192 ≡ b → (is_external g.entries g.exprs && leb (length ws) 8192) ≡ b
    unfolding MeasuredAs
    fits h = ap (λ (b : Bool). b && leb (length ws) 8192) (measured w e).0 ∙ ap (λ (k : ℕ). leb k 8192) (sym size) ∙ h

    pub too_long : 8192 < n → RepliedAs g.ours policy area (Err (not_external, no_part)) area
    unfolding rewritten_for area_after
    too_long h = by_outcome g.ours policy area (refused not_external no_part) (into g.ours policy area (tested {b = false} (fits (lt-leb n 8192 h)))) refl refl

    module _ (few : n ≤ 8192) where
      -- how 11 is tested
      room : {b : Bool} → leb n (length area) ≡ b → rewrite_into g.ours policy area ≡ elim b [ true ↦ rewritten ws | false ↦ refused short_area no_part ]
      room h =
          into g.ours policy area (tested {b = true} (fits (le-leb n 8192 few)))
          ∙ ap (λ (b : Bool). elim b as (λ d. Rewriting) [ true ↦ rewritten ws | false ↦ refused short_area no_part ]) (ap (λ (k : ℕ). leb k (length area)) (sym size) ∙ h)

      pub too_short : length area < n → RepliedAs g.ours policy area (Err (short_area, no_part)) area
      unfolding rewritten_for area_after
      too_short h = by_outcome g.ours policy area (refused short_area no_part) (room {b = false} (lt-leb n (length area) h)) refl refl

      pub all_rewritten : {same last : List ℕ} {s : Option ℕ} → same ≡ area → n ≤ length same → SayWords policy same s last → RepliedAs g.ours policy area (Ok n) last
      unfolding rewritten_for area_after MeasuredAs output ws
      all_rewritten {last = last} {s = s} q h v = go s (rw q at (v.says g))
        where
          go : (s : Option ℕ) → MeasuredAs (is_external g.entries g.exprs) (output policy g.entries g.exprs) area s last → RepliedAs g.ours policy area (Ok n) last
          go (Some m) d = by_outcome g.ours policy area (rewritten ws) (room {b = true} (le-leb n (length area) (rw q at h))) (ap Ok size) (d.2 ∙ laid_whole ws area (subst (λ (k : ℕ). k ≤ length area) size (rw q at h)))
          go None d = never (measured w e).0 d

-- passed 20 and 1 to 7
pub policy_passing : (ours : ℕ) {policy : List ℕ} {r : Result Earlier Refused} {x : Earlier} → JudgedAs ours (check_policy ours policy) r → r ≡ Ok x → Passing policy
policy_passing ours {policy} {x = x} h e = let g = policy_checks ours policy h e in record { ours = ours; entries = g.entries; exprs = g.exprs; known = (earlier_is x).known; passes = g.passes }

pub passed_replied : (ours : ℕ) {policy area : List ℕ} {j : Result Earlier Refused} {x : Earlier} {r : Result ℕ Refusal} {after : List ℕ} → JudgedAs ours (check_policy ours policy) j → j ≡ Ok x →
    SayReply policy area r after → RepliedAs ours policy area (replied r) after
unfolding policy_passing
passed_replied ours h e s = s.says (policy_passing ours h e)

-- refused with one of them
pub refusal_passed_on : (ours : ℕ) (policy area : List ℕ) {r : Result Earlier Refused} {y : Refused} → JudgedAs ours (check_policy ours policy) r → r ≡ Err y →
    RepliedAs ours policy area (told (Err y)) area
unfolding rewritten_for area_after told
refusal_passed_on ours policy area {r} {y} h e =
    by_outcome ours policy area (refused _ _) (into ours policy area (checked ours policy (policy_fails ours policy h e))) refl refl

-- a part of no words that was lent
pub none_lent : (ys area : List ℕ) → length ys ≡ 0 → ys ++ area ≡ area
none_lent [] area e = refl
none_lent (x ∷ ys) area e = absurd (omega arith)

pub none_laid : {policy xs ys : List ℕ} {r : Option ℕ} → length xs ≡ 0 → length ys ≡ 0 → SayWords policy xs r ys → SayWords policy [] r []
none_laid {policy} {xs} {ys} {r} a b w = go xs ys a b w
  where
    go : (us vs : List ℕ) → length us ≡ 0 → length vs ≡ 0 → SayWords policy us r vs → SayWords policy [] r []
    go [] [] a b w = w
    go (x ∷ us) vs a b w = absurd (omega arith)
    go [] (y ∷ vs) a b w = absurd (omega arith)
