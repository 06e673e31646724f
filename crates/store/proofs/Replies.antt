-- Filing, test by test: what each outcome of the tests makes of the reply and of the store. For any kind of record.
use Prim.Native.Nat.{ℕ, ◌+◌, ◌*◌, ◌≤◌, ◌<◌}
use mathlib.Core.Path.{◌≡◌, refl, sym, ◌∙◌, ap}
use mathlib.Core.Bool.{true, false}
use mathlib.Core.List.{List}
use native.Mathlib.Nat.{mul-le-mul_left}
use native.Mathlib.Omega.{arith}
use lib.ListN.{length}
use borrow.Author.Tests.{lt-ltb, le-ltb}
use Rattle.rows.specs.Ordered.{lists}
use Rattle.rows.specs.Records.{count_of, place_in, held_at, put_in}
use Rattle.rows.proofs.Records.{records_length, place_few, held_is, put_is_insert}
use Rattle.certificates.specs.Filing.{FilingReply, filed, held, refused, Kind, records_of, sound_in, reply_given, file_reply, store_by, store_after}
use Rattle.certificates.proofs.Filings.{Lawful, sound_in_lem, not_listed}

module _ {kind : Kind} (laws : Lawful kind) (store w : List ℕ) where
  -- filing answers so, and leaves this
  abbrev pub Files : FilingReply → List ℕ → Type 0
  Files a now = (a ≡ file_reply kind store w) × (now ≡ store_after kind store w)

  -- there is room for one more, at this place or another
  pub record Room (p : ℕ) : Type 0 where
    pub few : p ≤ count_of store
    pub left : count_of store < kind.most
    pub long : 1 + kind.words * (count_of store + 1) ≤ length store

  -- the store goes by the reply
  by_reply : (a : FilingReply) (now : List ℕ) → a ≡ file_reply kind store w → now ≡ store_by kind a store w → Files a now
  unfolding store_after
  by_reply a now e f = (e, f ∙ ap (λ (b : FilingReply). store_by kind b store w) e)

  by_refusal : (n m : ℕ) → n ≡ m → refused m ≡ file_reply kind store w → Files (refused n) store
  unfolding store_by
  by_refusal n m e f = by_reply (refused n) store (ap refused e ∙ f) refl

  pub reply_unsound : (n : ℕ) → n ≡ kind.bad_store → sound_in kind store ≡ false → Files (refused n) store
  unfolding file_reply
  reply_unsound n e s = by_refusal n kind.bad_store e (rw (s, file_reply))

  module _ (sound : sound_in kind store ≡ true) where
    pub reply_bad : (n : ℕ) → (kind.sound w ≡ false) × (n ≡ kind.bad_record w) → Files (refused n) store
    unfolding file_reply reply_given
    reply_bad n r = by_refusal n (kind.bad_record w) r.1 (rw (sound, file_reply, r.0, reply_given))

    -- the store is sound, and so is the record; this is its place
    module _ (good : kind.sound w ≡ true) (p : ℕ) (place : p ≡ place_in kind.before (records_of kind store) w) where
      listed : lists kind.before (records_of kind store) w ≡ held_at kind.words kind.before store p w
      listed = sym (held_is kind.words laws.order store w (sound_in_lem laws store sound).order p place)

      pub reply_held : held_at kind.words kind.before store p w ≡ true → Files held store
      unfolding file_reply reply_given store_by
      reply_held h = by_reply held store (rw (sound, file_reply, good, listed, h, reply_given)) refl

      module _ (new : held_at kind.words kind.before store p w ≡ false) where
        pub reply_full : (n : ℕ) → n ≡ kind.full → count_of store ≡ kind.most → Files (refused n) store
        unfolding file_reply reply_given
        reply_full n e c =
            by_refusal n kind.full e (rw (sound, file_reply, good, listed, new, le-ltb (length (records_of kind store)) kind.most (omega (arith, records_length kind.words store)), reply_given))

        module _ (left : count_of store ≡ kind.most → ⊥) where
          fewer : count_of store < kind.most
          fewer = let f = (sound_in_lem laws store sound).few in omega arith

          pub room_for : Room p
          room_for =
              let left = fewer in
              record {
                few = omega (arith, place_few kind.words laws.order store w);
                left = left;
                long = omega (arith, (sound_in_lem laws store sound).long, mul-le-mul_left {m = count_of store + 1} {n = kind.most} kind.words (omega arith));
              }

          pub reply_filed : (now : List ℕ) → now ≡ put_in kind.words store p w → Files filed now
          unfolding file_reply reply_given store_by
          reply_filed now e =
              let r = room_for in
              let put = put_is_insert kind.words store w p r.few r.long (laws.sized w good) laws.order place (not_listed laws (records_of kind store) w (listed ∙ new)) in
              by_reply filed now (rw (sound, file_reply, good, listed, new, lt-ltb (length (records_of kind store)) kind.most (omega (arith, records_length kind.words store)), reply_given)) (e ∙ put)
