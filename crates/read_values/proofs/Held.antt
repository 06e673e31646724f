-- What the terms that the code holds come to, and whether a comparison of them passes.
use Prim.Native.Nat.{ℕ, ◌≤◌, ◌<◌}
use mathlib.Core.Path.{◌≡◌, refl, sym}
use mathlib.Core.Logic.{◌⊎◌, inl, inr}
use mathlib.Core.Bool.{false, not}
use mathlib.Core.List.{List}
use native.Mathlib.Omega.{arith}
use lib.Dec.{eqb}
use lib.ListN.{take, get_or, length-take, get_or-eq_default}
use lib.Seq.{get_or-take}
use Rattle.policy.specs.Held.{term_is}
use Rattle.meaning.specs.Values.{Values, value}
use Rattle.read_values.specs.Values.{passing}
use Rattle.policy.specs.declared.Term as HeldTerm
use Rattle.policy.specs.declared.Term.TheVariants.{Atom, Variable}
use Rattle.policy.specs.declared.Guard as HeldGuard
use Rattle.policy.specs.declared.Guard.TheVariants.{Draw, Same, Different, Absent}
use Rattle.policy.specs.contracts.Guard.{the_type}
use denote.Enum.Declared.{tag_of}

module _ {x : HeldTerm.Term} {v : ℕ} where
  pub value_atom : (vs : Values) → x ≡ Atom v → v ≡ value vs (term_is x)
  unfolding value term_is
  value_atom vs is = rw is refl

  module _ {i : ℕ} (values : List ℕ) (count : ℕ) (is : x ≡ Variable v) (index : i ≡ v) where
    pub value_in : i < count → get_or values i 0 ≡ value (take count values) (term_is x)
    unfolding value term_is
    value_in h = rw (is, ← index) (sym (get_or-take count values i 0 h))

    pub value_out : count ≤ i → 0 ≡ value (take count values) (term_is x)
    unfolding value term_is
    value_out h = rw (is, ← index) (sym (get_or-eq_default (take count values) 0 {n = i} (omega (arith, length-take count values))))

-- whether a comparison passes, from the two atoms
module _ (vs : Values) {x y : HeldTerm.Term} {a b : ℕ} (first : a ≡ value vs (term_is x)) (second : b ≡ value vs (term_is y)) {g : HeldGuard.Guard} where
  pub same_passes : g ≡ Same x y → eqb a b ≡ passing vs g
  unfolding passing
  same_passes e = rw (first, second, e) refl

  pub different_passes : g ≡ Different x y → not (eqb a b) ≡ passing vs g
  unfolding passing
  different_passes e = rw (first, second, e) refl

pub none_passes : (vs : Values) (g : HeldGuard.Guard) → (tag_of the_type g ≡ 0) ⊎ (tag_of the_type g ≡ 3) → false ≡ passing vs g
unfolding passing
none_passes vs Draw t = refl
none_passes vs (Same x y) (inl e) = absurd (omega (arith, e))
none_passes vs (Same x y) (inr e) = absurd (omega (arith, e))
none_passes vs (Different x y) (inl e) = absurd (omega (arith, e))
none_passes vs (Different x y) (inr e) = absurd (omega (arith, e))
none_passes vs Absent t = refl
