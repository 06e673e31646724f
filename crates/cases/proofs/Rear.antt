-- What is left of what is left of a text is left of the text.
use Rattle.std.proofs.Common.{◌≡◌, ℕ, ◌+◌, ◌-◌, List, ◌∷◌, length, drop, ap, ◌∙◌, refl, arith}
use Rattle.std.proofs.lemmas.List.{length-drop, drop-drop}
use Rattle.cases.specs.Rear.{IsRear}

pub rear_of_rear : (a b c : List ℕ) → IsRear a b → IsRear b c → IsRear a c
rear_of_rear a b c p q =
    let la : length a ≡ length b - (length b - length a) = ap length p ∙ length-drop (length b - length a) b in
    let lb : length b ≡ length c - (length c - length b) = ap length q ∙ length-drop (length c - length b) c in
    let sum : (length c - length b) + (length b - length a) ≡ length c - length a = omega (arith, la, lb) in
    p ∙ ap (λ x. drop (length b - length a) x) q ∙ drop-drop (length b - length a) (length c - length b) c ∙ ap (λ n. drop n c) sum

-- what stands behind the first of a rear is a rear
pub behind_is_rear : (x : ℕ) (a b c : List ℕ) → b ≡ x ∷ a → length a + 1 ≡ length b → IsRear b c → IsRear a c
behind_is_rear x a b c e n q =
    let one : length b - length a ≡ 1 = omega (arith, n) in
    let step : a ≡ drop (length b - length a) b = rw (one, e) refl in
    rear_of_rear a b c step q
