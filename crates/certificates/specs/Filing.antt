-- Document 01, "Store and filing" and "Lists of filings": what filing answers, and what it leaves. Certificates and links (document 02, N5: "filing answers Filed
-- or Held as before") are filed by these rules alike, each kind into a store of its own.
use Rattle.std.specs.Prelude.{ℕ, ◌+◌, ◌*◌, ◌≡◌, ◌↔◌, Bool, ltb, length, drop}
use Rattle.std.proofs.Math.Bool.{true, false}
use mathlib.Core.List.{List, [], ◌∷◌}
use Rattle.rows.specs.Ordered.{◌∈◌, lists, tied, insert}
use Rattle.rows.specs.Records.{count_of, records_in, sound_records, with_records}

-- "Filing answers Filed, Held or Refused with a number."
pub data FilingReply : Type 0 where
  filed held : FilingReply
  refused : ℕ → FilingReply

-- what a kind of record goes by: `certificate_kind` is in Store.antt, `link_kind` in Link.antt
pub record Kind : Type 0 where
  -- how many words a record has, and how many records a store holds at most
  pub words : ℕ
  pub most : ℕ
  -- a record as a store holds it, and the order that it holds them in
  pub sound : List ℕ → Bool
  pub before : List ℕ → List ℕ → Bool
  -- the refusals: an unsound store, words filed that are no sound record, and as many held as may be and this one is new
  pub bad_store : ℕ
  pub bad_record : List ℕ → ℕ
  pub full : ℕ

module _ (kind : Kind) where
  -- the records that a store holds
  abbrev pub records_of : List ℕ → List (List ℕ)
  records_of store = records_in kind.words store

  unfoldable pub sound_in : List ℕ → Bool
  unfolding sound_records
  sound_in store = sound_records kind.words kind.most kind.sound kind.before store

  -- the reply to words filed where these records are held
  unfoldable pub reply_given : List (List ℕ) → List ℕ → FilingReply
  unfolding lists tied
  reply_given records_held w = elim (kind.sound w) [
    | false ↦ refused (kind.bad_record w)
    | true ↦ elim (lists kind.before records_held w) [
      | true ↦ held
      | false ↦ elim (ltb (length records_held) kind.most) [ true ↦ filed | false ↦ refused kind.full ]
    ]
  ]

  unfoldable pub file_reply : List ℕ → List ℕ → FilingReply
  unfolding sound_in reply_given records_in
  file_reply store w = elim (sound_in store) [ false ↦ refused kind.bad_store | true ↦ reply_given (records_of store) w ]

  -- "Filed puts the record in its place, moves the later ones up by [its] words and raises the count by 1. Held changes nothing.
  -- Words past the last record are never touched."
  unfoldable pub store_by : FilingReply → List ℕ → List ℕ → List ℕ
  unfolding with_records insert records_in
  store_by filed store w = with_records kind.words (insert kind.before w (records_of store)) store
  store_by held store w = store
  store_by (refused n) store w = store

  -- the store after one filing, and after a list of filings
  unfoldable pub store_after : List ℕ → List ℕ → List ℕ
  unfolding store_by file_reply
  store_after store w = store_by (file_reply store w) store w

  unfoldable pub store_at : List ℕ → List (List ℕ) → List ℕ
  unfolding store_after
  store_at store [] = store
  store_at store (w ∷ ws) = store_at (store_after store w) ws

  -- "What is filed is accepted exactly when no listed refusal applies to it (8 never does), where 'held' means accepted earlier in the list,
  -- equal ones counted once. It is answered Filed if new, Held if accepted before." Nothing here looks at a store.
  unfoldable pub accepted_by : FilingReply → List (List ℕ) → List ℕ → List (List ℕ)
  accepted_by filed earlier w = w ∷ earlier
  accepted_by held earlier w = earlier
  accepted_by (refused n) earlier w = earlier

  -- what a list of filings has accepted, the last first, on top of what was accepted before it
  unfoldable pub accepted_from : List (List ℕ) → List (List ℕ) → List (List ℕ)
  unfolding accepted_by reply_given
  accepted_from earlier [] = earlier
  accepted_from earlier (w ∷ ws) = accepted_from (accepted_by (reply_given earlier w) earlier w) ws

  unfoldable pub accepted : List (List ℕ) → List (List ℕ)
  unfolding accepted_from
  accepted filings = accepted_from [] filings

  -- a store that was first like this holds now just these records: they are in it, and past them it is as it was
  pub record Keeps (first now : List ℕ) (rs : List (List ℕ)) : Type 0 where
    pub sound : sound_in now ≡ true
    pub just : (w : List ℕ) → (w ∈ records_of now) ↔ (w ∈ rs)
    pub count : count_of now ≡ length rs
    pub size : length now ≡ length first
    pub untouched : drop (1 + kind.words * count_of now) now ≡ drop (1 + kind.words * count_of now) first
