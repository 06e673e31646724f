-- Where a part or a name's certificates lie, and the words that are pointed to.
use Prim.Native.Nat.{ℕ, ◌+◌, ◌-◌}
use mathlib.Core.Path.{◌≡◌, sym, ◌∙◌, ap}
use mathlib.Core.List.{List}
use native.Mathlib.Omega.{arith}
use lib.ListN.{length, take, drop, length-drop}
use lib.Seq.{length-take-le, take_all}
use Rattle.certificates.specs.NamePart.{name_part}
use Rattle.certificates.specs.Spans.{Spans}
use Rattle.policy.specs.Part.{part_span}
use Rattle.policy_table.specs.Spans.{part_span_is}
use Rattle.policy_table.specs.declared.parts.PartSpan.{PartSpan}
use Rattle.policy_table.specs.declared.parts.PartSpan.TheVariants as span
use Rattle.policy_table.proofs.PartAnswers.{span_held, query_held, query_part_lem, policy_part}
use Rattle.capi.specs.Spans.{hand_part, words_of_part, PartAt, hand_certificates, words_of_certificates, CertificatesAt}

-- a part, from the span that the code found
module _ (policy : List ℕ) (number : ℕ) (r : PartSpan) (is : part_span_is r ≡ part_span policy number) (query : List ℕ) where
  pub hands_query : r ≡ span.WholeQuery → PartAt policy query number (record { size = length query; of_query = 1; start = 0 })
  unfolding hand_part words_of_part
  hands_query e =
      let p = query_held (part_span policy number) r is e in
      record { span = ap (hand_part query) (sym p); words = take_all (length query) query (omega arith) ∙ query_part_lem policy query number p }

  pub hands_definition : (start size : ℕ) → r ≡ span.InPolicy start size → PartAt policy query number (record { size = size; of_query = 0; start = start })
  unfolding hand_part words_of_part
  hands_definition start size e =
      let p = span_held (part_span policy number) r start size is e in
      let whole : start + size - start ≡ size = omega arith in
      record { span = ap (hand_part query) (sym p); words = ap (λ (n : ℕ). take n (drop start policy)) (sym whole) ∙ policy_part policy query number start size p }

-- one name's certificates
pub hands_certificates : (store : List ℕ) (key name polarity from to : ℕ) → Spans store key name polarity from to →
    CertificatesAt store key name polarity (record { size = to - from; start = from })
unfolding hand_certificates words_of_certificates
hands_certificates store key name polarity from to s =
    let order = s.order in
    let inside = s.inside in
    let size : length (name_part store key name polarity) ≡ to - from =
    ap length (sym s.words) ∙ length-take-le (to - from) (drop from store) (omega (arith, length-drop from store)) in
    let start = s.start in
    record { span = cc; words = s.words }
