-- One name's part of a sound store: it is unbroken, and where it lies.
use Prim.Native.Nat.{ℕ, ◌+◌, ◌-◌, ◌*◌, ◌≤◌}
use mathlib.Core.Path.{◌≡◌, sym, ap}
use mathlib.Core.Logic.{◌↔◌}
use mathlib.Core.Bool.{Bool, true, false, not, ◌&&◌}
use mathlib.Core.List.{List, [], ◌∷◌}
use native.Mathlib.Omega.{arith}
use lib.Dec.{T, eqb}
use lib.ListN.{length, take, drop}
use Rattle.rows.specs.Ordered.{tied, keep, leading, PassFirst, words_before}
use Rattle.rows.specs.Records.{count_of, begins_before}
use Rattle.rows.proofs.Case.{T_true, T_and, T_eqb, same_test, ◌then◌, iff_sym}
use Rattle.rows.proofs.Order.{words_order, not_both}
use Rattle.rows.proofs.Lists.{all_in, all_of}
use Rattle.rows.proofs.Ordered.{same_iff}
use Rattle.rows.proofs.Leading.{leading_more, keep_between}
use Rattle.rows.proofs.Records.{count_few, records_between}
use Rattle.rows.proofs.Fronts.{begin_first}
use Rattle.certificates.specs.Certificate.{record_words, record_name, sound_record}
use Rattle.certificates.specs.Store.{capacity, records, sound_store}
use Rattle.certificates.specs.NamePart.{of_name, name_part, name_start}
use Rattle.certificates.specs.Spans.{Spans}
use Rattle.certificates.proofs.RecordOrder.{record_order, names_ascend}
use Rattle.certificates.proofs.Sound.{sound_record_lem, sound_store_lem}

-- records are of a name if their first three words are its
module _ (key name polarity : ℕ) where
  abbrev pub name_given : List ℕ
  name_given = key ∷ name ∷ polarity ∷ []

  of_name_iff : (w : List ℕ) → sound_record w ≡ true → T (of_name key name polarity w) ↔ (name_given ≡ record_name w)
  of_name_iff [] s = absurd (omega (arith, (sound_record_lem [] s).ten))
  of_name_iff (a ∷ []) s = absurd (omega (arith, (sound_record_lem (a ∷ []) s).ten))
  of_name_iff (a ∷ b ∷ []) s = absurd (omega (arith, (sound_record_lem (a ∷ b ∷ []) s).ten))
  of_name_iff (a ∷ b ∷ c ∷ w) s = (to, from)
    where
      to : T (of_name key name polarity (a ∷ b ∷ c ∷ w)) → name_given ≡ a ∷ b ∷ c ∷ []
      to t =
          let u = (T_and (eqb a key) _).0 t in
          let v = (T_and (eqb b name) (eqb c polarity)).0 u.1 in
          let x : a ≡ key = (T_eqb a key).0 u.0 in
          let y : b ≡ name = (T_eqb b name).0 v.0 in
          let z : c ≡ polarity = (T_eqb c polarity).0 v.1 in
          cc

      from : name_given ≡ a ∷ b ∷ c ∷ [] → T (of_name key name polarity (a ∷ b ∷ c ∷ w))
      from e =
          let x : a ≡ key = cc in
          let y : b ≡ name = cc in
          let z : c ≡ polarity = cc in
          (T_and (eqb a key) _).1 ((T_eqb a key).1 x, (T_and (eqb b name) (eqb c polarity)).1 ((T_eqb b name).1 y, (T_eqb c polarity).1 z))

  pub name_is : (w : List ℕ) → sound_record w ≡ true → of_name key name polarity w ≡ true → record_name w ≡ name_given
  name_is w s e = sym ((of_name_iff w s).0 (T_true e))

  -- of an earlier name, and of this or an earlier one
  abbrev earlier : List ℕ → Bool
  earlier w = words_before (record_name w) name_given

  abbrev not_later : List ℕ → Bool
  not_later w = not (words_before name_given (record_name w))

  of_name_between : (w : List ℕ) → sound_record w ≡ true → of_name key name polarity w ≡ (not_later w && not (earlier w))
  unfolding tied
  of_name_between w s = same_test _ _ (of_name_iff w s then iff_sym (same_iff words_before words_order name_given (record_name w)))

  earlier_not_later : (w : List ℕ) → earlier w ≡ true → not_later w ≡ true
  earlier_not_later w e = ap not (not_both words_order (record_name w) name_given e)

  -- the counts that the code finds
  abbrev pub Counted : Bool → List ℕ → ℕ → Type 0
  Counted also store n = n ≡ leading (begins_before also name_given) (records store)

  module _ (store : List ℕ) where
    counted_few : (also : Bool) (n : ℕ) → Counted also store n → n ≤ count_of store
    counted_few also n e = omega (arith, count_few record_words store name_given also (omega arith))

    part_order : (p q : ℕ) → Counted false store p → Counted true store q → p ≤ q
    unfolding begins_before
    part_order p q e f = omega (arith, leading_more earlier not_later earlier_not_later (records store))

    part_none : sound_store store ≡ false → [] ≡ name_part store key name polarity
    unfolding name_part
    part_none e = rw (e, name_part)

    -- where it lies: nowhere in an unsound store
    pub spans_none : sound_store store ≡ false → Spans store key name polarity 0 0
    unfolding name_start
    spans_none e = record { start = rw (e, name_start); order = omega arith; inside = omega arith; words = part_none e }

    module _ (sound : sound_store store ≡ true) where
      pub begins_first : (also : Bool) → PassFirst (begins_before also name_given) (records store)
      begins_first also = begin_first name_given record_order names_ascend also (records store) (sound_store_lem store sound).order

      -- every count lies within the store
      pub count_room : (also : Bool) (n : ℕ) → Counted also store n → (n ≤ capacity) × (1 + record_words * n ≤ length store)
      count_room also n e =
          let few = counted_few also n e in
          let s = sound_store_lem store sound in
          (omega arith, omega arith)

      module _ (p q : ℕ) (e : Counted false store p) (f : Counted true store q) where
        kept_part : keep (of_name key name polarity) (records store) ≡ take (q - p) (drop p (records store))
        unfolding begins_before
        kept_part =
            let s = sound_store_lem store sound in
            rw (e, f) (keep_between earlier not_later earlier_not_later (of_name key name polarity) (records store) (begins_first false) (begins_first true)
            (all_of _ (records store) (λ w i. of_name_between w (all_in (λ x. sound_record x ≡ true) (records store) s.each w i))))

        -- the words between the two counts
        part_words_lem : take (1 + record_words * q - (1 + record_words * p)) (drop (1 + record_words * p) store) ≡ name_part store key name polarity
        unfolding name_part
        part_words_lem =
            let s = sound_store_lem store sound in
            rw (sound, kept_part, name_part) (records_between record_words store p q (part_order p q e f) (counted_few true q f) (omega arith))

        -- in a sound one between the two counts
        pub spans_found : Spans store key name polarity (1 + record_words * p) (1 + record_words * q)
        unfolding name_start begins_before
        spans_found =
            let o = part_order p q e f in
            let few = count_room true q f in
            record {
              start = rw (sound, name_start) (ap (λ (n : ℕ). 1 + record_words * n) e);
              order = omega arith;
              inside = few.1;
              words = part_words_lem;
            }
