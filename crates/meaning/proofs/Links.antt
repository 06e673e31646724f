-- The test whether links reach a name agrees with `Reaches`.
use Prim.Native.Nat.{ℕ}
use mathlib.Core.Path.{◌≡◌, refl, sym, ◌∙◌, ap, subst}
use mathlib.Core.Logic.{◌⊎◌, inl, inr, ◌↔◌}
use mathlib.Core.Bool.{◌&&◌, ◌||◌}
use mathlib.Core.List.{List, [], ◌∷◌}
use lib.Dec.{T, eqb}
use Rattle.rows.specs.Ordered.{◌∈◌}
use Rattle.rows.specs.Name.{Polarity, plus, minus, same_polarity}
use Rattle.rows.proofs.Case.{T_and, T_or, T_eqb}
use Rattle.certificates.specs.Link.{Named, Link}
use Rattle.meaning.specs.Links.{Reaches, itself, step, same_named, reachable}
use Rattle.meaning.proofs.Claims.{same_polarity_lem}

pub same_self : (q p : Polarity) → q ≡ p → T (same_polarity q p)
same_self q p e = subst (λ (s : Polarity). T (same_polarity q s)) e (self q)
  where
    self : (s : Polarity) → T (same_polarity s s)
    self plus = tt
    self minus = tt

pub named_iff : (x y : Named) → T (same_named x y) ↔ (x ≡ y)
named_iff x y = (λ t. to ((T_and (eqb x.key y.key) _).0 t), λ e. subst (λ (z : Named). T (same_named x z)) e ((T_and (eqb x.key x.key) _).1 ((T_eqb x.key x.key).1 refl, (T_eqb x.name x.name).1 refl)))
  where
    to : T (eqb x.key y.key) × T (eqb x.name y.name) → x ≡ y
    to t =
        let a : x.key ≡ y.key = (T_eqb x.key y.key).0 t.0 in
        let b : x.name ≡ y.name = (T_eqb x.name y.name).0 t.1 in
        ap (λ (k : ℕ). record { key = k; name = x.name }) a ∙ ap (λ (n : ℕ). record { key = y.key; name = n }) b

-- with more links, and one way after another
pub reach_more : (ls ms : List Link) (p : Polarity) → ((l : Link) → l ∈ ls → l ∈ ms) → {x y : Named} → Reaches ls p x y → Reaches ms p x y
reach_more ls ms p f itself = itself
reach_more ls ms p f (step {l} i e r) = step (f l i) e (reach_more ls ms p f r)

pub reach_on : (ls : List Link) (p : Polarity) {x y z : Named} → Reaches ls p x y → Reaches ls p y z → Reaches ls p x z
reach_on ls p itself s = s
reach_on ls p (step {l} i e r) s = step i e (reach_on ls p r s)

-- where no link starts there is nothing to reach
pub reach_nothing : {ls : List Link} {p : Polarity} {x y : Named} → ((l : Link) → l ∈ ls → l.polarity ≡ p → l.first ≡ x → ⊥) → Reaches ls p x y → x ≡ y
reach_nothing none itself = refl
reach_nothing none (step {l} i e r) = absurd (none l i e refl)

-- the three parts of the way through a link
through : (ls : List Link) (p : Polarity) (l : Link) (x y : Named) →
    T (same_polarity l.polarity p && (reachable ls p x l.first && reachable ls p l.second y)) ↔
    ((l.polarity ≡ p) × (T (reachable ls p x l.first) × T (reachable ls p l.second y)))
through ls p l x y = (
  λ t. let a = (T_and (same_polarity l.polarity p) _).0 t in (same_polarity_lem l.polarity p a.0, (T_and (reachable ls p x l.first) _).0 a.1),
  λ t. (T_and (same_polarity l.polarity p) _).1 (same_self l.polarity p t.0, (T_and (reachable ls p x l.first) _).1 t.1),
)

reach_self : (ls : List Link) (p : Polarity) (x : Named) → T (reachable ls p x x)
unfolding reachable
reach_self [] p x = (named_iff x x).1 refl
reach_self (l ∷ ls) p x = (T_or (reachable ls p x x) _).1 (inl (reach_self ls p x))

reach_sound : (ls : List Link) (p : Polarity) (x y : Named) → T (reachable ls p x y) → Reaches ls p x y
unfolding reachable ◌∈◌
reach_sound [] p x y t = subst (Reaches [] p x) ((named_iff x y).0 t) itself
reach_sound (l ∷ ls) p x y t = go ((T_or (reachable ls p x y) _).0 t) (reach_sound ls p x y) (reach_sound ls p x l.first) (reach_sound ls p l.second y)
  where
    more : {u v : Named} → Reaches ls p u v → Reaches (l ∷ ls) p u v
    more r = reach_more ls (l ∷ ls) p (λ m i. inr i) r

    go : T (reachable ls p x y) ⊎ T (same_polarity l.polarity p && (reachable ls p x l.first && reachable ls p l.second y)) →
        (T (reachable ls p x y) → Reaches ls p x y) → (T (reachable ls p x l.first) → Reaches ls p x l.first) → (T (reachable ls p l.second y) → Reaches ls p l.second y) →
        Reaches (l ∷ ls) p x y
    go (inl a) f g h = more (f a)
    go (inr b) f g h = let c = (through ls p l x y).0 b in reach_on (l ∷ ls) p (more (g c.1.0)) (step (inl refl) c.0 (more (h c.1.1)))

-- one link more
reach_with : (m : Link) (ls : List Link) (p : Polarity) → ((x y : Named) → Reaches ls p x y → T (reachable ls p x y)) → {x y : Named} → Reaches (m ∷ ls) p x y → T (reachable (m ∷ ls) p x y)
unfolding reachable ◌∈◌
reach_with m ls p ih (itself {x}) = (T_or (reachable ls p x x) _).1 (inl (reach_self ls p x))
reach_with m ls p ih (step {l} {y} (inl e) q r) = subst (λ (k : Link). T (reachable ls p k.first y || (same_polarity m.polarity p && (reachable ls p k.first m.first && reachable ls p m.second y)))) (sym e)
    ((T_or (reachable ls p m.first y) _).1 (inr ((through ls p m m.first y).1 (subst (λ (k : Link). k.polarity ≡ p) e q, (reach_self ls p m.first, rest (reach_with m ls p ih r))))))
  where
    rest : T (reachable (m ∷ ls) p l.second y) → T (reachable ls p m.second y)
    rest t = elim ((T_or (reachable ls p l.second y) _).0 t) [
      | inl a ↦ subst (λ (k : Link). T (reachable ls p k.second y)) e a
      | inr b ↦ ((through ls p m l.second y).0 b).1.1
    ]
reach_with m ls p ih (step {l} {y} (inr i) q r) = elim ((T_or (reachable ls p l.second y) _).0 (reach_with m ls p ih r)) [
  | inl a ↦ (T_or (reachable ls p l.first y) _).1 (inl (ih l.first y (step i q (reach_sound ls p l.second y a))))
  | inr b ↦ (let c = (through ls p m l.second y).0 b in
      (T_or (reachable ls p l.first y) _).1 (inr ((through ls p m l.first y).1 (c.0, (ih l.first m.first (step i q (reach_sound ls p l.second m.first c.1.0)), c.1.1)))))
]

reach_complete : (ls : List Link) (p : Polarity) (x y : Named) → Reaches ls p x y → T (reachable ls p x y)
unfolding reachable ◌∈◌
reach_complete [] p x y itself = (named_iff x x).1 refl
reach_complete [] p x y (step i e r) = absurd i
reach_complete (l ∷ ls) p x y r = reach_with l ls p (λ u v s. reach_complete ls p u v s) r

pub reaches_iff : (ls : List Link) (p : Polarity) (x y : Named) → T (reachable ls p x y) ↔ Reaches ls p x y
reaches_iff ls p x y = (reach_sound ls p x y, reach_complete ls p x y)
