-- Which of two comes first, by a strict total order: what the answer says.
use mathlib.Core.Path.{◌≡◌, sym, ◌∙◌, ap}
use mathlib.Core.Bool.{Bool, true, false}
use Rattle.std.specs.declared.cmp.Ordering.TheVariants.{Less, Equal, Greater}
use Rattle.std.specs.Ordering.{is_lt}
use Rattle.rows.specs.Ordered.{StrictTotal}
use Rattle.row_words.specs.Values.{ordering_for}
use Rattle.rows.proofs.Case.{Case, is_true, is_false, split, never}

module _ {A : Type 0} {before : A → A → Bool} (laws : StrictTotal before) (x y : A) where
  pub ordering_less : before x y ≡ true → ordering_for before x y ≡ Less
  unfolding ordering_for
  ordering_less e = rw (e, ordering_for)

  pub ordering_greater : before y x ≡ true → ordering_for before x y ≡ Greater
  unfolding ordering_for
  ordering_greater e = go (split (before x y))
    where
      go : Case (before x y) → ordering_for before x y ≡ Greater
      go (is_true f) = never (laws.transitive x y x f e) (laws.irreflexive x)
      go (is_false f) = rw (f, e, ordering_for)

  pub ordering_equal : x ≡ y → ordering_for before x y ≡ Equal
  unfolding ordering_for
  ordering_equal e =
      let f : before x y ≡ false = ap (before x) (sym e) ∙ laws.irreflexive x in
      let g : before y x ≡ false = ap (before y) e ∙ laws.irreflexive y in
      rw (f, g, ordering_for)

  -- and back
  pub less_before : ordering_for before x y ≡ Less → before x y ≡ true
  unfolding ordering_for
  less_before e = go (split (before x y)) (split (before y x))
    where
      go : Case (before x y) → Case (before y x) → before x y ≡ true
      go (is_true f) g = f
      go (is_false f) (is_true g) = let h = rw (f, g, ordering_for) at e in cc
      go (is_false f) (is_false g) = let h = rw (f, g, ordering_for) at e in cc

  pub greater_after : ordering_for before x y ≡ Greater → before y x ≡ true
  unfolding ordering_for
  greater_after e = go (split (before x y)) (split (before y x))
    where
      go : Case (before x y) → Case (before y x) → before y x ≡ true
      go (is_true f) g = let h = rw (f, ordering_for) at e in cc
      go (is_false f) (is_true g) = g
      go (is_false f) (is_false g) = let h = rw (f, g, ordering_for) at e in cc

  pub equal_same : ordering_for before x y ≡ Equal → x ≡ y
  unfolding ordering_for
  equal_same e = go (split (before x y)) (split (before y x))
    where
      go : Case (before x y) → Case (before y x) → x ≡ y
      go (is_true f) g = let h = rw (f, ordering_for) at e in cc
      go (is_false f) (is_true g) = let h = rw (f, g, ordering_for) at e in cc
      go (is_false f) (is_false g) = laws.total x y f g

-- the first comes first
pub is_less : {A : Type 0} (before : A → A → Bool) (x y : A) → is_lt (ordering_for before x y) ≡ before x y
unfolding ordering_for
is_less before x y = go (split (before x y)) (split (before y x))
  where
    go : Case (before x y) → Case (before y x) → is_lt (ordering_for before x y) ≡ before x y
    go (is_true f) g = rw (f, ordering_for)
    go (is_false f) (is_true g) = rw (f, g, ordering_for)
    go (is_false f) (is_false g) = rw (f, g, ordering_for)
