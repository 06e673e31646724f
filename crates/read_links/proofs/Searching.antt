-- A search along links over lists of names: how they grow, that they are never more than the links have, and that all are found once each is followed.
use Prim.Native.Nat.{ℕ, suc, ◌+◌, ◌≤◌, ◌<◌}
use mathlib.Core.Path.{◌≡◌, refl, sym, ◌∙◌, ap, subst}
use mathlib.Core.Logic.{◌⊎◌, inl, inr}
use mathlib.Core.List.{List, [], ◌∷◌, ◌++◌, map, append_assoc, append-nil}
use native.Mathlib.Omega.{arith}
use lib.ListN.{length, get_or, length-append, length-map, get_or-append}
use Rattle.rows.specs.Ordered.{◌∈◌}
use Rattle.rows.specs.Name.{Polarity}
use Rattle.rows.proofs.Lists.{map-∈}
use Rattle.rows.proofs.Joining.{∈-last}
use Rattle.certificates.specs.Link.{Named, Link}
use Rattle.meaning.specs.Links.{Reaches, itself, step}
use Rattle.meaning.proofs.Links.{reach_on}
use Rattle.read_links.specs.Reached.{Once, Adding, known, new, Sought, Grows, Led}

-- ---- a name put last

once_last : (xs : List Named) (x : Named) → Once xs → (¬ (x ∈ xs)) → Once (xs ++ (x ∷ []))
unfolding Once ◌∈◌
once_last [] x o n = (λ m. m, tt)
once_last (y ∷ ys) x o n = (
  λ m. elim ((∈-last ys x y).0 m) [ inl i ↦ o.0 i | inr e ↦ n (inl (sym e)) ],
  once_last ys x o.1 (λ i. n (inr i)),
)

pub grows_same : (xs : List Named) → Grows xs xs
grows_same xs = record { later = []; all = sym (append-nil xs) }

pub grows_on : {xs ys zs : List Named} → Grows xs ys → Grows ys zs → Grows xs zs
grows_on {xs} g h = record { later = g.later ++ h.later; all = h.all ∙ ap (λ (l : List Named). l ++ h.later) g.all ∙ append_assoc xs g.later h.later }

pub grows-∈ : {xs ys : List Named} → Grows xs ys → (x : Named) → x ∈ xs → x ∈ ys
unfolding ◌∈◌
grows-∈ {xs} g x m = subst (λ (l : List Named). x ∈ l) (sym g.all) (in_front xs g.later m)
  where
    in_front : (xs later : List Named) → x ∈ xs → x ∈ (xs ++ later)
    in_front [] later m = absurd m
    in_front (y ∷ ys) later (inl e) = inl e
    in_front (y ∷ ys) later (inr i) = inr (in_front ys later i)

pub grows_longer : {xs ys : List Named} → Grows xs ys → length xs ≤ length ys
grows_longer {xs} g = omega (arith, ap length g.all, length-append xs g.later)

pub grows_at : {xs ys : List Named} → Grows xs ys → (i : ℕ) (d : Named) → i < length xs → get_or ys i d ≡ get_or xs i d
grows_at {xs} g i d h = ap (λ (l : List Named). get_or l i d) g.all ∙ get_or-append xs g.later d i h

pub adding_grows : {x : Named} {xs ys : List Named} → Adding x xs ys → Grows xs ys
adding_grows {x} {xs} (known m) = grows_same xs
adding_grows {x} {xs} (new n) = record { later = x ∷ []; all = refl }

pub adding_has : {x : Named} {xs ys : List Named} → Adding x xs ys → x ∈ ys
adding_has (known m) = m
adding_has {x} {xs} (new n) = (∈-last xs x x).1 (inr refl)

-- ---- never more names than links lead to

-- one taken out of a list
taken : {A : Type 0} (ys : List A) (x : A) → x ∈ ys → (zs : List A) × (length ys ≡ suc (length zs)) × ((y : A) → y ∈ ys → (y ≡ x) ⊎ (y ∈ zs))
unfolding ◌∈◌
taken [] x m = absurd m
taken (y ∷ ys) x (inl e) = (ys, refl, λ z m. elim m [ inl f ↦ inl (f ∙ sym e) | inr i ↦ inr i ])
taken (y ∷ ys) x (inr m) =
    let t = taken ys x m in
    (y ∷ t.0, ap suc t.1, λ z m'. elim m' [ inl f ↦ inr (inl f) | inr i ↦ elim (t.2 z i) [ inl f ↦ inl f | inr j ↦ inr (inr j) ] ])

-- a list without repeats is no longer than one that has all of it
once_fits : (xs ys : List Named) → Once xs → ((x : Named) → x ∈ xs → x ∈ ys) → length xs ≤ length ys
unfolding Once ◌∈◌
once_fits [] ys o f = omega arith
once_fits (x ∷ xs) ys o f =
    let t = taken ys x (f x (inl refl)) in
    let fewer = once_fits xs t.0 o.1 (λ z m. elim (t.2 z (f z (inr m))) [ inl e ↦ absurd (o.0 (subst (λ (y : Named). y ∈ xs) e m)) | inr i ↦ i ]) in
    omega (arith, t.1)

module _ (ls : List Link) (p : Polarity) where
  -- a name reached is the first, or the second of a link
  reach_last : {x y : Named} → Reaches ls p x y → y ∈ (x ∷ map (λ (l : Link). l.second) ls)
  unfolding ◌∈◌
  reach_last itself = inl refl
  reach_last (step {l} {y} i e r) = elim (reach_last r) [ inl f ↦ inr ((map-∈ (λ (l : Link). l.second) ls y).1 (l, i, f)) | inr m ↦ inr m ]

  module _ {x : Named} {names : List Named} (s : Sought ls p x names) where
    pub sought_few : length names ≤ 1 + length ls
    sought_few = omega (
      arith,
      once_fits names (x ∷ map (λ (l : Link). l.second) ls) s.once (λ y m. reach_last (s.only y m)),
      length-map ls (λ (l : Link). l.second),
    )

    pub sought_adding : {y : Named} {more : List Named} → Reaches ls p x y → Adding y names more → Sought ls p x more
    sought_adding r (known m) = s
    sought_adding {y} r (new n) = record {
      start = (∈-last names y x).1 (inl s.start);
      only = λ z m. elim ((∈-last names y z).0 m) [ inl i ↦ s.only z i | inr e ↦ subst (Reaches ls p x) (sym e) r ];
      once = once_last names y s.once n;
    }

  pub sought_room : {x y : Named} {names : List Named} → Sought ls p x names → Reaches ls p x y → (¬ (y ∈ names)) → length names ≤ length ls
  sought_room {x} {y} {names} s r n = omega (arith, sought_few (sought_adding s r (new n)), length-append names (y ∷ []))

  -- a step on from a name reached
  pub reach_next : {x y : Named} (l : Link) → l ∈ ls → l.polarity ≡ p → l.first ≡ y → Reaches ls p x y → Reaches ls p x l.second
  reach_next {x} l i e f r = reach_on ls p (subst (Reaches ls p x) (sym f) r) (step i e itself)

  -- ---- all are found

  pub followed_all : (names : List Named) → ((z : Named) → z ∈ names → Led ls p z names) → {z y : Named} → z ∈ names → Reaches ls p z y → y ∈ names
  followed_all names f m itself = m
  followed_all names f m (step {l} i e r) = followed_all names f (f l.first m l i e refl) r
