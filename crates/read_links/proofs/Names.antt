-- The names that are found: one by one, and with one more.
use Prim.Native.Nat.{ℕ, zero, suc, ◌+◌, ◌≤◌, ◌<◌}
use mathlib.Core.Path.{◌≡◌, refl, sym, ◌∙◌, ap, subst}
use mathlib.Core.Bool.{Bool, true, false}
use mathlib.Core.List.{List, [], ◌∷◌, ◌++◌}
use native.Mathlib.Omega.{arith}
use native.Mathlib.Numerals.{add-one}
use lib.Dec.{ltb, eqb}
use mathlib.Core.Logic.{◌⊎◌, inl, inr}
use mathlib.Core.Bool.{◌&&◌}
use Rattle.std.specs.List.{list_any}
use lib.ListN.{length, get_or, take, drop, set}
use lib.ListN.{length-take}
use Rattle.std.proofs.lemmas.List.Folds.{list_any_at}
use lib.Seq.{get_or-take, get_or-drop, get_or-set_same, get_or-set_other, ext_get_or}
use borrow.Author.Tests.{ltb-true, ltb-false, eqb-true, eq-eqb}
use Rattle.rows.specs.Ordered.{◌∈◌}
use Rattle.rows.proofs.Case.{Case, is_true, is_false, split, never, and_true, true_and}
use Rattle.rows.proofs.Place.{get_or-∈, at-∈}
use Rattle.certificates.specs.Link.{Named}
use Rattle.meaning.specs.Evidence.{named}
use Rattle.read_links.specs.declared.Name.{Name}
use Rattle.read_links.specs.Reached.{nobody, named_by, names_in, name_in, RoomFor, Adding, known, new, Added, Grows}
use Rattle.read_links.proofs.Searching.{grows_at, grows_longer}

abbrev none : Named
none = named 0 0

name_drop : (ws : List Name) (i : ℕ) → name_in (drop 1 ws) i ≡ name_in ws (suc i)
name_drop ws i = let a : 1 + i ≡ suc i = omega arith in ap named_by (get_or-drop 1 ws i nobody ∙ ap (λ (k : ℕ). get_or ws k nobody) a)

pub names_length : (n : ℕ) (ws : List Name) → length (names_in n ws) ≡ n
unfolding names_in
names_length zero ws = refl
names_length (suc n) ws = ap suc (names_length n (drop 1 ws))

names_at : (n : ℕ) (ws : List Name) (i : ℕ) (d : Named) → i < n → get_or (names_in n ws) i d ≡ name_in ws i
unfolding names_in
names_at zero ws i d h = absurd (omega arith)
names_at (suc n) ws zero d h = refl
names_at (suc n) ws (suc i) d h = names_at n (drop 1 ws) i d (omega arith) ∙ name_drop ws i

pub names_last : (n : ℕ) (ws : List Name) → names_in (suc n) ws ≡ names_in n ws ++ (name_in ws n ∷ [])
unfolding names_in
names_last zero ws = refl
names_last (suc n) ws = ap (λ (l : List Named). name_in ws 0 ∷ l) (names_last n (drop 1 ws) ∙ ap (λ (x : Named). names_in n (drop 1 ws) ++ (x ∷ [])) (name_drop ws n))

pub name-∈ : (n : ℕ) (ws : List Name) (i : ℕ) → i < n → name_in ws i ∈ names_in n ws
name-∈ n ws i h = subst (λ (x : Named). x ∈ names_in n ws) (names_at n ws i none h) (get_or-∈ (names_in n ws) i none (omega (arith, names_length n ws)))

pub ∈-name : (n : ℕ) (ws : List Name) (x : Named) → x ∈ names_in n ws → (i : ℕ) × (i < n) × (x ≡ name_in ws i)
∈-name n ws x m =
    let a = at-∈ (names_in n ws) x none m in
    let less : a.0 < n = omega (arith, names_length n ws, a.1) in
    (a.0, less, a.2 ∙ names_at n ws a.0 none less)

pub names_some : (n : ℕ) (ws : List Name) (x : Named) → x ∈ names_in n ws → 0 < n
names_some n ws x m = let h = (∈-name n ws x m).1 in omega arith

-- the names of a front of a list
pub names_front : (n : ℕ) (ws : List Name) → names_in n (take n ws) ≡ names_in n ws
unfolding names_in
names_front zero ws = refl
names_front (suc n) [] = refl
names_front (suc n) (w ∷ ws) = ap (λ (l : List Named). named_by w ∷ l) (names_front n ws)

-- names that were found keep their places
module _ (m n : ℕ) (ws vs : List Name) (g : Grows (names_in m ws) (names_in n vs)) where
  pub names_more : m ≤ n
  names_more = omega (arith, grows_longer g, names_length m ws, names_length n vs)

  pub name_kept : (i : ℕ) → i < m → name_in vs i ≡ name_in ws i
  name_kept i h = let l = names_more in sym (names_at n vs i none (omega arith)) ∙ grows_at g i none (omega (arith, names_length m ws)) ∙ names_at m ws i none h

-- ---- a name looked for

abbrev its : ℕ → ℕ → Name → Bool
its key number y = eqb y.key key && eqb y.number number

-- the first names of a list that is long enough
names_take : (n : ℕ) (ws : List Name) → n ≤ length ws → (i : ℕ) → i < n → get_or (take n ws) i nobody ≡ get_or ws i nobody
names_take n ws h i l = get_or-take n ws i nobody l

hit : (test : Name → Bool) (xs : List Name) → list_any test xs ≡ true → (k : ℕ) × (k < length xs) × (test (get_or xs k nobody) ≡ true)
hit test [] e = never refl (sym e)
hit test (x ∷ xs) e = go (λ h. hit test xs h) (split (test x))
  where
    go : (list_any test xs ≡ true → (k : ℕ) × (k < length xs) × (test (get_or xs k nobody) ≡ true)) → Case (test x) → (k : ℕ) × (k < length (x ∷ xs)) × (test (get_or (x ∷ xs) k nobody) ≡ true)
    go ih (is_true t) = (zero, omega arith, t)
    go ih (is_false t) = let f = ih (rw t at e) in let h = f.1 in (suc f.0, omega arith, f.2)

module _ (found : List Name) (count : ℕ) (long : length found ≡ 257) (few : count ≤ 257) (x : Name) {b : Bool} (says : b ≡ list_any (its x.key x.number) (take count found)) where
  seen : b ≡ true → named_by x ∈ names_in count found
  seen e =
      let f = hit (its x.key x.number) (take count found) (sym says ∙ e) in
      let less : f.0 < count = omega (arith, f.1, length-take count found) in
      let t : its x.key x.number (get_or found f.0 nobody) ≡ true = ap (its x.key x.number) (sym (names_take count found (omega arith) f.0 less)) ∙ f.2 in
      let both = and_true _ _ t in
      let y : Name = get_or found f.0 nobody in
      let is : name_in found f.0 ≡ named_by x = ap (λ (k : ℕ). named k y.number) (eqb-true y.key x.key both.0) ∙ ap (named x.key) (eqb-true y.number x.number both.1) in
      subst (λ (y : Named). y ∈ names_in count found) is (name-∈ count found f.0 less)

  unseen : b ≡ false → ¬ (named_by x ∈ names_in count found)
  unseen e m =
      let f = ∈-name count found (named_by x) m in
      let here : get_or (take count found) f.0 nobody ≡ get_or found f.0 nobody = names_take count found (omega arith) f.0 f.1 in
      let t : its x.key x.number (get_or found f.0 nobody) ≡ true = true_and _ _ (eq-eqb _ _ (ap (λ (y : Named). y.key) (sym f.2))) (eq-eqb _ _ (ap (λ (y : Named). y.name) (sym f.2))) in
      let small = f.1 in
      never (list_any_at (its x.key x.number) (take count found) f.0 nobody (omega (arith, length-take count found)) (ap (its x.key x.number) here ∙ t)) (sym says ∙ e)

  -- ---- a name added

  pub added_known : b ≡ true → Added x found count found count
  added_known e = record { names = known (seen e); each = λ i h. inr (h, refl) }

  module _ (e : b ≡ false) (r : RoomFor (named_by x) found count) where
    pub room_new : count < 257
    room_new = r.new (unseen e)

    abbrev after : List Name
    after = set found count x

    kept : (i : ℕ) → i < count → get_or after i nobody ≡ get_or found i nobody
    kept i h = get_or-set_other found count i x nobody (λ e. omega arith)

    put : get_or after count nobody ≡ x
    put = get_or-set_same found count x nobody (omega (arith, room_new))

    kept_names : names_in count after ≡ names_in count found
    kept_names = ext_get_or none (names_in count after) (names_in count found) (names_length count after ∙ sym (names_length count found)) (λ i h. same i (omega (arith, names_length count after)))
      where
        same : (i : ℕ) → i < count → get_or (names_in count after) i none ≡ get_or (names_in count found) i none
        same i h = names_at count after i none h ∙ ap named_by (kept i h) ∙ sym (names_at count found i none h)

    pub added_new : Added x found count after (count + 1)
    added_new = record {
      names = subst (Adding (named_by x) (names_in count found)) (sym (ap (λ (n : ℕ). names_in n after) (add-one count) ∙ names_last count after ∙ (rw (kept_names, put) refl))) (new (unseen e));
      each = λ i h. go i h (split (ltb i count));
    }
      where
        go : (i : ℕ) → i < count + 1 → Case (ltb i count) → (get_or after i nobody ≡ x) ⊎ ((i < count) × (get_or after i nobody ≡ get_or found i nobody))
        go i h (is_true t) = let l = ltb-true i count t in inr (l, kept i l)
        go i h (is_false t) = let q : i ≡ count = omega (arith, ltb-false i count t) in inl (ap (λ (k : ℕ). get_or after k nobody) q ∙ put)
