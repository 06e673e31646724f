-- What is known of the definitions before: how many, each by its number, and one more.
use Rattle.std.proofs.Common.{ℕ, zero, suc, ◌+◌, ◌≤◌, ◌<◌, ◌≡◌, Bool, true, false, List, [], ◌∷◌, ◌++◌, length, map, take, get_or, set, ltb, refl, sym, ◌∙◌, ap, arith}
use native.Mathlib.Numerals.{add-one}
use lib.ListN.{length-append, get_or-append}
use lib.Seq.{get_or-append-add, get_or-set_same, get_or-set_other}
use borrow.Author.Tests.{ltb-true, ltb-false}
use Rattle.policy.specs.Leaf.{unknown}
use Rattle.policy.specs.Polarity.{Known}
use Rattle.check_polarity.specs.Earlier.{known_is, unnamed, known_up_to, earlier_is}
use Rattle.check_polarity.specs.declared.Definition.{Definition}
use Rattle.check_polarity.specs.declared.Earlier.{Earlier}

known_length : (ds : List Definition) (n : ℕ) → length (known_up_to ds n) ≡ n
unfolding known_up_to
known_length ds zero = refl
known_length ds (suc n) = length-append (known_up_to ds n) (known_is (get_or ds n unnamed) ∷ []) ∙ omega (arith, known_length ds n)

pub known_count : (x : Earlier) → length (earlier_is x).known ≡ x.count
unfolding earlier_is
known_count x = known_length x.definitions x.count

known_last : (ds : List Definition) (n d : ℕ) → d < suc n → (d < n → get_or (known_up_to ds n) d unknown ≡ known_is (get_or ds d unnamed)) → get_or (known_up_to ds (suc n)) d unknown ≡ known_is (get_or ds d unnamed)
unfolding known_up_to
known_last ds n d h before = go (ltb d n) refl
  where
    go : (b : Bool) → ltb d n ≡ b → get_or (known_up_to ds n ++ (known_is (get_or ds n unnamed) ∷ [])) d unknown ≡ known_is (get_or ds d unnamed)
    go true t = get_or-append (known_up_to ds n) (known_is (get_or ds n unnamed) ∷ []) unknown d (omega (arith, known_length ds n, ltb-true d n t)) ∙ before (ltb-true d n t)
    go false t =
        let e : d ≡ length (known_up_to ds n) + 0 = omega (arith, known_length ds n, ltb-false d n t) in
        let f : d ≡ n = omega (arith, ltb-false d n t) in
        ap (λ i. get_or (known_up_to ds n ++ (known_is (get_or ds n unnamed) ∷ [])) i unknown) e ∙ (get_or-append-add (known_up_to ds n) (known_is (get_or ds n unnamed) ∷ []) 0 unknown ∙ ap (λ i. known_is (get_or ds i unnamed)) (sym f))

known_at : (ds : List Definition) (n d : ℕ) → d < n → get_or (known_up_to ds n) d unknown ≡ known_is (get_or ds d unnamed)
known_at ds zero d h = absurd (omega arith)
known_at ds (suc n) d h = known_last ds n d h (λ l. known_at ds n d l)

pub known_get : (x : Earlier) (d : ℕ) → d < x.count → get_or (earlier_is x).known d unknown ≡ known_is (get_or x.definitions d unnamed)
unfolding earlier_is
known_get x d h = known_at x.definitions x.count d h

-- the same list, of the first of them
take_last : (ds : List Definition) (n : ℕ) → n < length ds → map known_is (take (suc n) ds) ≡ map known_is (take n ds) ++ (known_is (get_or ds n unnamed) ∷ [])
take_last [] n h = absurd (omega arith)
take_last (d ∷ ds) zero h = refl
take_last (d ∷ ds) (suc n) h = ap (λ (ks : List Known). known_is d ∷ ks) (take_last ds n (omega arith))

known_take : (ds : List Definition) (n : ℕ) → n ≤ length ds → known_up_to ds n ≡ map known_is (take n ds)
unfolding known_up_to
known_take ds zero h = refl
known_take ds (suc n) h = ap (λ (ks : List Known). ks ++ (known_is (get_or ds n unnamed) ∷ [])) (known_take ds n (omega arith)) ∙ sym (take_last ds n (omega arith))

pub known_front : (x : Earlier) → x.count ≤ length x.definitions → (earlier_is x).known ≡ map known_is (take x.count x.definitions)
unfolding earlier_is
known_front x h = known_take x.definitions x.count h

-- one definition more
module _ (ds : List Definition) (n : ℕ) (k : Definition) (h : n < length ds) where
  kept_before : (d : ℕ) → d ≤ n → known_up_to (set ds n k) d ≡ known_up_to ds d
  unfolding known_up_to
  kept_before zero l = refl
  kept_before (suc d) l = rw (kept_before d (omega arith), get_or-set_other ds n d k unnamed (λ e. omega arith)) refl

  pub known_more : known_up_to (set ds n k) (n + 1) ≡ known_up_to ds n ++ (known_is k ∷ [])
  unfolding known_up_to
  known_more = ap (known_up_to (set ds n k)) (add-one n) ∙ (rw (kept_before n (omega arith), get_or-set_same ds n k unnamed h) refl)
