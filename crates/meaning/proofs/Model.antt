-- The minimal model of what is held is a world, all of it is true in it, it lies below every world where all is true, and the names held show it.
use Prim.Native.Nat.{ℕ}
use mathlib.Core.Path.{◌≡◌, refl, sym, ap, subst, fun_ext}
use mathlib.Core.Logic.{◌⊎◌, inl, inr, ◌↔◌}
use mathlib.Core.Bool.{Bool, true, false}
use mathlib.Core.List.{List, [], ◌∷◌}
use lib.Dec.{T}
use Rattle.rows.specs.Ordered.{◌∈◌, insert}
use Rattle.rows.specs.Row.{Row, IsRow, is_key, row_before}
use Rattle.rows.specs.Name.{Polarity, plus, minus, same_polarity}
use Rattle.rows.specs.Sets.{RowSet, only, all_but, listing, Proper, has}
use Rattle.rows.proofs.Case.{T_and, ◌then◌, iff_sym, both_not}
use Rattle.rows.proofs.Order.{row_order}
use Rattle.rows.proofs.Lists.{all_of}
use Rattle.rows.proofs.Ordered.{Ascending, true_ascending, insert-∈, insert_ascending, ascending_unique}
use Rattle.rows.proofs.Sets.{none_proper, only_iff, all_but_iff}
use Rattle.certificates.specs.Certificate.{Certificate}
use Rattle.certificates.specs.Link.{Named, Link}
use Rattle.certificates.specs.Stores.{Held}
use Rattle.certificates.proofs.Both.{Within}
use Rattle.meaning.specs.Links.{Reaches, itself, step}
use Rattle.meaning.specs.Evidence.{named, counts, joined, names_held}
use Rattle.meaning.specs.World.{World, Says, LinkSays, AllTrue, Below, AboutRows}
use Rattle.meaning.specs.Model.{Minimal, Certified, Theorem}
use Rattle.meaning.specs.Belonging.{InList}
use Rattle.meaning.specs.Faithful.{ProperNames, Shows}
use Rattle.meaning.proofs.Claims.{same_polarity_lem}
use Rattle.meaning.proofs.Links.{reaches_iff, reach_more, reach_nothing, same_self}

-- what is held, as two lists
abbrev with_both : List Link → List Certificate → Held
with_both ls cs = record { certificates = cs; links = ls }

-- a certificate that counts for a name is one that says so
is_of : (ls : List Link) (c : Certificate) (k n : ℕ) (p : Polarity) → T (counts ls c k n p) ↔ ((c.polarity ≡ p) × Reaches ls p (named k n) (named c.key c.name))
is_of ls c k n p = T_and (same_polarity c.polarity p) _ then (
  λ t. (same_polarity_lem c.polarity p t.0, (reaches_iff ls p _ (named c.key c.name)).0 t.1),
  λ t. (same_self c.polarity p t.0, (reaches_iff ls p _ (named c.key c.name)).1 t.1),
)

-- the rows that `joined` lists are those certified
pub joined-∈ : (ls : List Link) (cs : List Certificate) (k n : ℕ) (p : Polarity) (r : Row) → (r ∈ joined ls cs k n p) ↔ Certified (with_both ls cs) k n p r
unfolding joined ◌∈◌
joined-∈ ls [] k n p r = (λ t. absurd t, λ t. t.says)
joined-∈ ls (c ∷ cs) k n p r = go (joined-∈ ls cs k n p r) (counts ls c k n p) (is_of ls c k n p)
  where
    here : (c.polarity ≡ p) × Reaches ls p (named k n) (named c.key c.name) → r ≡ c.row → Certified (with_both ls (c ∷ cs)) k n p r
    here t e = record { of = named c.key c.name; reached = t.1; says = inl (rw (sym t.0, e)) }

    there : Certified (with_both ls cs) k n p r → Certified (with_both ls (c ∷ cs)) k n p r
    there t = record { of = t.of; reached = t.reached; says = inr t.says }

    this : (t : Certified (with_both ls (c ∷ cs)) k n p r) → record { key = t.of.key; name = t.of.name; polarity = p; row = r } ≡ c →
        (c.polarity ≡ p) × Reaches ls p (named k n) (named c.key c.name) × (r ≡ c.row)
    this t e = (sym (ap (λ (d : Certificate). d.polarity) e), subst (Reaches ls p (named k n)) (ap (λ (d : Certificate). named d.key d.name) e) t.reached, ap (λ (d : Certificate). d.row) e)

    back : (t : Certified (with_both ls (c ∷ cs)) k n p r) →
        ((c.polarity ≡ p) × Reaches ls p (named k n) (named c.key c.name) × (r ≡ c.row)) ⊎ Certified (with_both ls cs) k n p r
    back t = elim t.says [ inl e ↦ inl (this t e) | inr i ↦ inr (record { of = t.of; reached = t.reached; says = i }) ]

    go : (r ∈ joined ls cs k n p) ↔ Certified (with_both ls cs) k n p r → (b : Bool) → T b ↔ ((c.polarity ≡ p) × Reaches ls p (named k n) (named c.key c.name)) →
        (r ∈ (elim b as (λ x. List Row) [ true ↦ insert row_before c.row (joined ls cs k n p) | false ↦ joined ls cs k n p ])) ↔ Certified (with_both ls (c ∷ cs)) k n p r
    go ih true h = insert-∈ row_before row_order c.row (joined ls cs k n p) r then (
      λ t. elim t [ inl e ↦ here (h.0 tt) e | inr i ↦ there (ih.0 i) ],
      λ t. elim (back t) [ inl x ↦ inl x.2 | inr x ↦ inr (ih.1 x) ],
    )
    go ih false h = (
      λ i. there (ih.0 i),
      λ t. elim (back t) [ inl x ↦ absurd (h.1 (x.0, x.1)) | inr x ↦ ih.1 x ],
    )

-- the rows of a name where this is held
abbrev rows : Held → ℕ → ℕ → Polarity → List Row
rows h k n p = joined h.links h.certificates k n p

rows-∈ : (h : Held) (k n : ℕ) (p : Polarity) (r : Row) → (r ∈ rows h k n p) ↔ Certified h k n p r
rows-∈ h k n p r = joined-∈ h.links h.certificates k n p r

pub rows_ascending : (h : Held) (k n : ℕ) (p : Polarity) → Ascending row_before row_order (rows h k n p)
unfolding joined Ascending
rows_ascending h k n p = each h.certificates
  where
    one : (c : Certificate) (xs : List Row) (b : Bool) → Ascending row_before row_order xs →
        Ascending row_before row_order (elim b as (λ x. List Row) [ true ↦ insert row_before c.row xs | false ↦ xs ])
    one c xs true a = insert_ascending row_before row_order c.row xs a
    one c xs false a = a

    each : (cs : List Certificate) → Ascending row_before row_order (joined h.links cs k n p)
    each [] = tt
    each (c ∷ cs) = one c (joined h.links cs k n p) (counts h.links c k n p) (each cs)

rows_proper : (h : Held) → AboutRows h → (k n : ℕ) (p : Polarity) → Proper (rows h k n p)
rows_proper h about k n p = record {
  order = true_ascending row_before row_order (rows h k n p) (rows_ascending h k n p);
  rows = all_of IsRow (rows h k n p) (λ r i. about _ ((rows-∈ h k n p r).0 i).says);
}

-- where no link starts at a name, it has its own rows
module _ (ls : List Link) (cs : List Certificate) (k n : ℕ) (p : Polarity) (none : (l : Link) → l ∈ ls → l.polarity ≡ p → l.first ≡ named k n → ⊥) where
  alone-∈ : (r : Row) → (r ∈ joined ls cs k n p) ↔ (record { key = k; name = n; polarity = p; row = r } ∈ cs)
  alone-∈ r = joined-∈ ls cs k n p r then (
    λ t. subst (λ (y : Named). record { key = y.key; name = y.name; polarity = p; row = r } ∈ cs) (sym (reach_nothing none t.reached)) t.says,
    λ i. record { of = named k n; reached = itself; says = i },
  )

own-∈ : (cs : List Certificate) (k n : ℕ) (p : Polarity) (r : Row) → (r ∈ joined [] cs k n p) ↔ (record { key = k; name = n; polarity = p; row = r } ∈ cs)
unfolding ◌∈◌
own-∈ cs k n p = alone-∈ [] cs k n p (λ l i q e. i)

pub joined_alone : (ls : List Link) (cs : List Certificate) (k n : ℕ) (p : Polarity) → ((l : Link) → l ∈ ls → l.polarity ≡ p → l.first ≡ named k n → ⊥) →
    joined ls cs k n p ≡ joined [] cs k n p
joined_alone ls cs k n p none = ascending_unique row_before row_order _ _ (rows_ascending (with_both ls cs) k n p) (rows_ascending (with_both [] cs) k n p)
    (λ r. alone-∈ ls cs k n p none r then iff_sym (own-∈ cs k n p r))

-- through links it has the own rows of all names reached
pub reached-∈ : (ls : List Link) (cs : List Certificate) (k n : ℕ) (p : Polarity) (r : Row) →
    (r ∈ joined ls cs k n p) ↔ ((y : Named) × Reaches ls p (named k n) y × (r ∈ joined [] cs y.key y.name p))
reached-∈ ls cs k n p r = joined-∈ ls cs k n p r then (
  λ t. (t.of, t.reached, (own-∈ cs t.of.key t.of.name p r).1 t.says),
  λ t. record { of = t.0; reached = t.1; says = (own-∈ cs t.0.key t.0.name p r).0 t.2 },
)

-- a test whether the issuer is a key, and its two sets
held_proper : (xs : List Row) (f : List Row → RowSet) → ((ys : List Row) → listing (f ys) ≡ ys) → Proper xs → (b : Bool) →
    Proper (listing (elim b as (λ c. RowSet) [ true ↦ f xs | false ↦ f [] ]))
held_proper xs f e p true = subst Proper (sym (e xs)) p
held_proper xs f e p false = subst Proper (sym (e [])) none_proper

pub held_names_proper : (h : Held) → AboutRows h → ProperNames (names_held h)
unfolding names_held listing
held_names_proper h about k n plus = held_proper (rows h k n plus) only (λ ys. refl) (rows_proper h about k n plus) (is_key k)
held_names_proper h about k n minus = held_proper (rows h k n minus) all_but (λ ys. refl) (rows_proper h about k n minus) (is_key k)

-- more held: more certified
pub certified_more : (h i : Held) → Within h i → (k n : ℕ) (p : Polarity) (r : Row) → Certified h k n p r → Certified i k n p r
certified_more h i w k n p r c = record { of = c.of; reached = reach_more h.links i.links p w.links c.reached; says = w.certificates _ c.says }

-- the same certificates and links, in whatever order: the same names
pub same_names : (h i : Held) → Within h i → Within i h → names_held h ≡ names_held i
unfolding names_held
same_names h i v w = fun_ext (λ k. fun_ext (λ n. fun_ext (λ p. each k n p)))
  where
    lists_same : (k n : ℕ) (p : Polarity) → rows h k n p ≡ rows i k n p
    lists_same k n p = ascending_unique row_before row_order _ _ (rows_ascending h k n p) (rows_ascending i k n p)
        (λ r. rows-∈ h k n p r then (certified_more h i v k n p r, certified_more i h w k n p r) then iff_sym (rows-∈ i k n p r))

    each : (k n : ℕ) (p : Polarity) → names_held h k n p ≡ names_held i k n p
    each k n plus = ap (λ (xs : List Row). elim (is_key k) as (λ c. RowSet) [ true ↦ only xs | false ↦ only [] ]) (lists_same k n plus)
    each k n minus = ap (λ (xs : List Row). elim (is_key k) as (λ c. RowSet) [ true ↦ all_but xs | false ↦ all_but [] ]) (lists_same k n minus)

-- where links are true, lists follow them all the way
reach_contains : (W : World) (ls : List Link) → ((l : Link) → l ∈ ls → LinkSays W l.polarity l.first l.second) → (p : Polarity) {x y : Named} → Reaches ls p x y → LinkSays W p x y
unfolding LinkSays
reach_contains W ls t plus itself = λ r i. i
reach_contains W ls t minus itself = λ r i. i
reach_contains W ls t plus (step {l} i e s) = λ r m. subst (λ (q : Polarity). LinkSays W q l.first l.second) e (t l i) r (reach_contains W ls t plus s r m)
reach_contains W ls t minus (step {l} i e s) = λ r m. reach_contains W ls t minus s r (subst (λ (q : Polarity). LinkSays W q l.first l.second) e (t l i) r m)

-- what is certified is so in every world where all is true
certified_true : (h : Held) (W : World) → AllTrue W h → (k n : ℕ) (p : Polarity) (r : Row) → Certified h k n p r → Says W k n p r
unfolding Says LinkSays
certified_true h W t k n plus r c = reach_contains W h.links t.links plus c.reached r (t.certificates _ c.says)
certified_true h W t k n minus r c = λ a. t.certificates _ c.says (reach_contains W h.links t.links minus c.reached r a)

-- what the second list of a link has certified, the first has
over_link : (h : Held) (l : Link) → l ∈ h.links → (r : Row) → Certified h l.second.key l.second.name l.polarity r → Certified h l.first.key l.first.name l.polarity r
over_link h l i r c = record { of = c.of; reached = step i refl c.reached; says = c.says }

module _ (h : Held) (about : AboutRows h) where
  pub minimal : World
  minimal = record {
    finite_list = λ k n. rows h k n plus;
    any_list = λ k n r. IsRow r × (¬ Certified h k n minus r);
    finite_rows = λ k n r i. about _ ((rows-∈ h k n plus r).0 i).says;
    any_rows = λ k n r t. t.0;
  }

  says_minimal : (k n : ℕ) (p : Polarity) (r : Row) → Certified h k n p r → Says minimal k n p r
  unfolding Says minimal
  says_minimal k n plus r i = (rows-∈ h k n plus r).1 i
  says_minimal k n minus r i = λ a. a.1 i

  link_minimal : (p : Polarity) (x y : Named) → ((r : Row) → Certified h y.key y.name p r → Certified h x.key x.name p r) → LinkSays minimal p x y
  unfolding LinkSays minimal
  link_minimal plus x y f = λ r i. (rows-∈ h x.key x.name plus r).1 (f r ((rows-∈ h y.key y.name plus r).0 i))
  link_minimal minus x y f = λ r a. (a.0, λ c. a.1 (f r c))

  minimal_true : AllTrue minimal h
  minimal_true = record {
    certificates = λ c i. says_minimal c.key c.name c.polarity c.row (record { of = named c.key c.name; reached = itself; says = i });
    links = λ l i. link_minimal l.polarity l.first l.second (over_link h l i);
  }

  minimal_below : (U : World) → AllTrue U h → Below minimal U
  unfolding minimal Says
  minimal_below U t = record {
    more = λ k n r i. certified_true h U t k n plus r ((rows-∈ h k n plus r).0 i);
    less = λ k n r a. (U.any_rows k n r a, λ c. certified_true h U t k n minus r c a);
  }

  pub minimal_is : Minimal h minimal
  minimal_is = record { satisfies = minimal_true; least = minimal_below }

-- whatever world is the minimal model has just the rows certified
module _ (h : Held) (about : AboutRows h) (W : World) (least : Minimal h W) where
  pub plus_rows : (k n : ℕ) (r : Row) → (r ∈ W.finite_list k n) ↔ Certified h k n plus r
  unfolding minimal Says
  plus_rows k n r = (
    λ i. (rows-∈ h k n plus r).0 ((least.least (minimal h about) (minimal_is h about).satisfies).more k n r i),
    λ c. certified_true h W least.satisfies k n plus r c,
  )

  pub minus_rows : (k n : ℕ) (r : Row) → W.any_list k n r ↔ (IsRow r × (¬ Certified h k n minus r))
  unfolding minimal Says
  minus_rows k n r = (
    λ a. (W.any_rows k n r a, λ c. certified_true h W least.satisfies k n minus r c a),
    λ t. (least.least (minimal h about) (minimal_is h about).satisfies).less k n r t,
  )

  pub held_shows : Shows (names_held h) W
  unfolding names_held InList ◌∈◌
  held_shows k n plus r is_row = go (is_key k)
    where
      go : (b : Bool) → T (has (elim b as (λ c. RowSet) [ true ↦ only (rows h k n plus) | false ↦ only [] ]) r) ↔ (T b × (r ∈ W.finite_list k n))
      go true = only_iff (rows h k n plus) r then rows-∈ h k n plus r then iff_sym (plus_rows k n r) then (λ t. (tt, t), λ t. t.1)
      go false = only_iff [] r then (λ t. absurd t, λ t. t.0)
  held_shows k n minus r is_row = go (is_key k)
    where
      go : (b : Bool) → T (has (elim b as (λ c. RowSet) [ true ↦ all_but (rows h k n minus) | false ↦ all_but [] ]) r) ↔ (T b → W.any_list k n r)
      go true = all_but_iff (rows h k n minus) r then both_not (rows-∈ h k n minus r) then
          (λ f t. (minus_rows k n r).1 (is_row, f), λ f. ((minus_rows k n r).0 (f tt)).1)
      go false = all_but_iff [] r then (λ f t. absurd t, λ f i. i)

pub theorem : Theorem
theorem = record {
  some = λ h about. (minimal h about, minimal_is h about);
  reaching = λ h about W least. record { plus_name = plus_rows h about W least; minus_name = minus_rows h about W least };
}
