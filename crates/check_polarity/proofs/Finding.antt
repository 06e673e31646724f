-- The definition of a name and a polarity, looked for among those before.
use Rattle.std.proofs.Common.{ℕ, ◌≡◌, ◌+◌, suc, Bool, true, false, cond, List, ◌∷◌, length, map, take, refl, sym, ◌∙◌, ap, ◌≤◌, arith, position}
use Rattle.std.specs.List.{position_or_len}
use Rattle.std.proofs.lemmas.List.Recursion.{is_position_or_len}
use lib.ListN.{length-map}
use Rattle.rows.specs.Name.{Polarity}
use Rattle.policy.specs.OwnKey.{reach, declares, definition_of}
use Rattle.policy.specs.Leaf.{declaration}
use Rattle.check_polarity.specs.Earlier.{scope_at, known_is, earlier_is, number_in}
use Rattle.check_polarity.specs.declared.Definition.{Definition}
use Rattle.check_polarity.specs.declared.Earlier.{Earlier}
use Rattle.check_polarity.proofs.EarlierAnswers.{known_front}

module _ (n : ℕ) (p : Polarity) where
  abbrev Is : Definition → Bool
  Is d = declares (declaration (known_is d)) n p

  abbrev place : List Definition → ℕ
  place ds = definition_of (map declaration (map known_is ds)) n p

  next_place : (d : Definition) (ds : List Definition) → place (d ∷ ds) ≡ cond (Is d) 0 (1 + place ds)
  unfolding definition_of
  next_place d ds = elim (Is d) as (λ (b : Bool). elim b as (λ x. ℕ) [ false ↦ suc (place ds) | true ↦ 0 ] ≡ cond b 0 (1 + place ds)) [ true ↦ refl | false ↦ omega arith ]

  pub place_is : (ds : List Definition) → place ds ≡ position_or_len Is ds
  unfolding definition_of
  place_is ds = is_position_or_len place Is refl next_place ds

  pub number_is : (x : Earlier) → x.count ≤ length x.definitions → position Is (take x.count x.definitions) ≡ number_in (earlier_is x) n p
  unfolding number_in earlier_is
  number_is x h =
      let ds = take x.count x.definitions in
      let long : reach (scope_at (earlier_is x)) ≡ length ds = ap (λ ks. length (map declaration ks)) (known_front x h) ∙ (length-map (map known_is ds) declaration ∙ length-map ds known_is) in
      let is : definition_of (scope_at (earlier_is x)).available n p ≡ position_or_len Is ds = ap (λ ks. definition_of (map declaration ks) n p) (known_front x h) ∙ place_is ds in
      sym (rw (is, long) refl)
