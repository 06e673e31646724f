-- Filing keeps in a store just what was accepted: one filing, a list of them, and what is accepted by such a list. For any kind of record.
use Prim.Native.Nat.{ℕ, suc, ◌+◌, ◌*◌, ◌≤◌, ◌<◌}
use mathlib.Core.Path.{◌≡◌, refl, sym, ◌∙◌, ap, subst}
use mathlib.Core.Logic.{inl, inr, ◌↔◌}
use mathlib.Core.Bool.{true, false}
use mathlib.Core.List.{List, [], ◌∷◌, ◌++◌}
use native.Mathlib.Nat.{mul-suc, mul-le-mul_left}
use native.Mathlib.Omega.{arith}
use lib.Dec.{T, ltb}
use lib.ListN.{length, drop}
use lib.Seq.{drop-drop}
use borrow.Author.Tests.{ltb-true, ltb-false}
use Rattle.rows.specs.Word.{All, Words}
use Rattle.rows.specs.Ordered.{◌∈◌, StrictTotal, lists, insert}
use Rattle.rows.specs.Layout.{pieces}
use Rattle.rows.specs.Records.{count_of, records_in, with_records}
use Rattle.rows.proofs.Case.{Case, is_true, is_false, split, never, T_true, true_T, same_test, ◌then◌, iff_refl, iff_sym, both_or}
use Rattle.rows.proofs.Lists.{all_in, all_of}
use Rattle.rows.proofs.Ordered.{lists_iff, insert-∈, insert_ascending, insert_length}
use Rattle.rows.proofs.LayoutLaws.{Sized}
use Rattle.rows.proofs.Records.{SoundRecords, true_sound, sound_true, records_length, with_records_lem, with_length, with_past}
use Rattle.certificates.specs.Filing.{FilingReply, filed, held, refused, Kind, records_of, sound_in, Keeps, reply_given, file_reply, store_by, store_after, store_at, accepted_by, accepted_from, accepted}

-- what is asked of a kind: its order is one, and its records have their words
pub record Lawful (kind : Kind) : Type 0 where
  pub order : StrictTotal kind.before
  pub sized : (w : List ℕ) → kind.sound w ≡ true → length w ≡ kind.words

module _ {kind : Kind} (laws : Lawful kind) where
  pub listed : (rs : List (List ℕ)) (w : List ℕ) → lists kind.before rs w ≡ true → w ∈ rs
  listed rs w e = (lists_iff kind.before laws.order rs w).0 (T_true e)

  pub not_listed : (rs : List (List ℕ)) (w : List ℕ) → lists kind.before rs w ≡ false → ¬ (w ∈ rs)
  not_listed rs w e i = never (true_T _ ((lists_iff kind.before laws.order rs w).1 i)) e

  -- why a reply was given
  pub data Replied (rs : List (List ℕ)) (w : List ℕ) : FilingReply → Type 0 where
    unsound : kind.sound w ≡ false → Replied rs w (refused (kind.bad_record w))
    known : kind.sound w ≡ true → w ∈ rs → Replied rs w held
    full : kind.sound w ≡ true → (¬ (w ∈ rs)) → kind.most ≤ length rs → Replied rs w (refused kind.full)
    new : kind.sound w ≡ true → (¬ (w ∈ rs)) → length rs < kind.most → Replied rs w filed

  pub replied : (rs : List (List ℕ)) (w : List ℕ) → Replied rs w (reply_given kind rs w)
  unfolding reply_given
  replied rs w = go (split (kind.sound w)) (split (lists kind.before rs w)) (split (ltb (length rs) kind.most))
    where
      go : Case (kind.sound w) → Case (lists kind.before rs w) → Case (ltb (length rs) kind.most) → Replied rs w (reply_given kind rs w)
      go (is_false s) b c = rw (s, reply_given) (unsound s)
      go (is_true s) (is_true b) c = rw (s, b, reply_given) (known s (listed rs w b))
      go (is_true s) (is_false b) (is_true c) = rw (s, b, c, reply_given) (new s (not_listed rs w b) (ltb-true (length rs) kind.most c))
      go (is_true s) (is_false b) (is_false c) = rw (s, b, c, reply_given) (full s (not_listed rs w b) (ltb-false (length rs) kind.most c))

  -- a sound store, test by test
  abbrev pub Sound : List ℕ → Type 0
  Sound store = SoundRecords kind.words kind.most kind.sound laws.order store

  pub sound_in_lem : (store : List ℕ) → sound_in kind store ≡ true → Sound store
  unfolding sound_in
  sound_in_lem store e = true_sound kind.words kind.most kind.sound laws.order store e

  in_sound : (store : List ℕ) → Sound store → sound_in kind store ≡ true
  unfolding sound_in
  in_sound store s = sound_true kind.words kind.most kind.sound laws.order store s

  abbrev pub AllSound : List (List ℕ) → Type 0
  AllSound = All (λ w. kind.sound w ≡ true)

  pub sound_sized : (rs : List (List ℕ)) → AllSound rs → All (Sized kind.words) rs
  unfolding All
  sound_sized [] a = tt
  sound_sized (r ∷ rs) a = (laws.sized r a.0, sound_sized rs a.1)

  pub empty_keeps : (store : List ℕ) → sound_in kind store ≡ true → count_of store ≡ 0 → Keeps kind store store []
  unfolding records_in pieces ◌∈◌
  empty_keeps store s z = record {
    sound = s;
    just = λ w. subst (λ (n : ℕ). (w ∈ pieces kind.words n (drop 1 store)) ↔ ⊥) (sym z) iff_refl;
    count = z;
    size = refl;
    untouched = refl;
  }

  -- the reply depends only on what is held, and on how much
  same_reply : (xs ys : List (List ℕ)) (w : List ℕ) → lists kind.before xs w ≡ lists kind.before ys w → length xs ≡ length ys → reply_given kind xs w ≡ reply_given kind ys w
  unfolding reply_given
  same_reply xs ys w e f = go (split (kind.sound w)) (split (lists kind.before ys w))
    where
      go : Case (kind.sound w) → Case (lists kind.before ys w) → reply_given kind xs w ≡ reply_given kind ys w
      go (is_false s) b = rw (s, reply_given)
      go (is_true s) (is_true b) = rw (s, e, b, reply_given)
      go (is_true s) (is_false b) = rw (s, e, b, f, reply_given)

  pub reply_keeps : {first now : List ℕ} {rs : List (List ℕ)} → Keeps kind first now rs → (w : List ℕ) → file_reply kind now w ≡ reply_given kind rs w
  unfolding file_reply
  reply_keeps {first} {now} {rs} k w = rw (k.sound, file_reply) (same_reply (records_of kind now) rs w (same_test _ _ held_alike) (records_length kind.words now ∙ k.count))
    where
      held_alike : T (lists kind.before (records_of kind now) w) ↔ T (lists kind.before rs w)
      held_alike = lists_iff kind.before laws.order (records_of kind now) w then k.just w then iff_sym (lists_iff kind.before laws.order rs w)

  -- the store with a new record in its place
  module _ {first now : List ℕ} {rs : List (List ℕ)} (k : Keeps kind first now rs) (w : List ℕ) (s : kind.sound w ≡ true) (fresh : ¬ (w ∈ rs)) (room : length rs < kind.most) where
    placed : List (List ℕ)
    placed = insert kind.before w (records_of kind now)

    placed_just : (v : List ℕ) → (v ∈ placed) ↔ (v ∈ (w ∷ rs))
    unfolding placed ◌∈◌
    placed_just v = insert-∈ kind.before laws.order w (records_of kind now) v then both_or iff_refl (k.just v)

    placed_sound : AllSound placed
    unfolding placed
    placed_sound = all_of (λ v. kind.sound v ≡ true) placed λ v i.
        elim ((insert-∈ kind.before laws.order w (records_of kind now) v).0 i) [
          | inl e ↦ subst (λ (x : List ℕ). kind.sound x ≡ true) (sym e) s
          | inr j ↦ all_in (λ x. kind.sound x ≡ true) (records_of kind now) (sound_in_lem now k.sound).each v j
        ]

    placed_length : length placed ≡ suc (length rs)
    unfolding placed
    placed_length = insert_length kind.before laws.order w (records_of kind now) (λ i. fresh ((k.just w).0 i)) ∙ ap suc (records_length kind.words now ∙ k.count)

    room_placed : kind.words * length placed ≤ kind.words * kind.most
    room_placed = mul-le-mul_left kind.words (omega (arith, placed_length))

    after : List ℕ
    after = with_records kind.words placed now

    after_count : count_of after ≡ length placed
    unfolding after with_records
    after_count = refl

    placed_sized : All (Sized kind.words) placed
    placed_sized = sound_sized placed placed_sound

    after_records : records_of kind after ≡ placed
    unfolding after
    after_records = with_records_lem kind.words placed now placed_sized

    after_length : length after ≡ length first
    unfolding after
    after_length = with_length kind.words placed now placed_sized (omega (arith, room_placed, (sound_in_lem now k.sound).long)) ∙ k.size

    after_untouched : drop (1 + kind.words * length placed) after ≡ drop (1 + kind.words * length placed) first
    unfolding after
    after_untouched =
        let split_past : 1 + kind.words * length placed ≡ (1 + kind.words * count_of now) + kind.words = omega (arith, ap (λ (n : ℕ). kind.words * n) (placed_length ∙ ap suc (sym k.count)), mul-suc kind.words (count_of now)) in
        with_past kind.words placed now placed_sized
        ∙ ap (λ (n : ℕ). drop n now) split_past
        ∙ sym (drop-drop kind.words (1 + kind.words * count_of now) now)
        ∙ ap (drop kind.words) k.untouched
        ∙ drop-drop kind.words (1 + kind.words * count_of now) first
        ∙ ap (λ (n : ℕ). drop n first) (sym split_past)

    after_keeps : Keeps kind first after (w ∷ rs)
    unfolding placed
    after_keeps = record {
      sound = in_sound after (record {
        long = omega (arith, after_length, k.size, (sound_in_lem now k.sound).long);
        few = omega (arith, after_count, placed_length);
        each = subst AllSound (sym after_records) placed_sound;
        order = rw after_records (insert_ascending kind.before laws.order w (records_of kind now) (sound_in_lem now k.sound).order);
      });
      just = λ v. rw after_records (placed_just v);
      count = after_count ∙ placed_length;
      size = after_length;
      untouched = rw after_count after_untouched;
    }

  by_reply : {first now : List ℕ} {rs : List (List ℕ)} {w : List ℕ} {a : FilingReply} → Keeps kind first now rs → Replied rs w a → Keeps kind first (store_by kind a now w) (accepted_by kind a rs w)
  unfolding store_by accepted_by after placed
  by_reply k (unsound s) = k
  by_reply k (known s i) = k
  by_reply k (full s n l) = k
  by_reply {w} k (new s n l) = after_keeps k w s n l

  pub file_keeps : {first now : List ℕ} {rs : List (List ℕ)} → Keeps kind first now rs → (w : List ℕ) → Keeps kind first (store_after kind now w) (accepted_by kind (reply_given kind rs w) rs w)
  unfolding store_after
  file_keeps {first} {now} {rs} k w = rw (reply_keeps k w, store_after) (by_reply k (replied rs w))

  -- a list of filings
  pub at_keeps : {first now : List ℕ} {rs : List (List ℕ)} → Keeps kind first now rs → (ws : List (List ℕ)) → Keeps kind first (store_at kind now ws) (accepted_from kind rs ws)
  unfolding store_at accepted_from
  at_keeps {first} {now} {rs} k [] = k
  at_keeps {first} {now} {rs} k (w ∷ ws) = at_keeps {first = first} {now = store_after kind now w} {rs = accepted_by kind (reply_given kind rs w) rs w} (file_keeps k w) ws

  -- a list of filings in two parts
  pub accepted_from_append : (rs xs ys : List (List ℕ)) → accepted_from kind rs (xs ++ ys) ≡ accepted_from kind (accepted_from kind rs xs) ys
  unfolding accepted_from
  accepted_from_append rs [] ys = refl
  accepted_from_append rs (x ∷ xs) ys = accepted_from_append (accepted_by kind (reply_given kind rs x) rs x) xs ys

  -- what is accepted stays accepted
  by_stays : (a : FilingReply) (rs : List (List ℕ)) (v w : List ℕ) → w ∈ rs → w ∈ accepted_by kind a rs v
  unfolding accepted_by ◌∈◌
  by_stays filed rs v w i = inr i
  by_stays held rs v w i = i
  by_stays (refused n) rs v w i = i

  pub accepted_stays : (rs ws : List (List ℕ)) (w : List ℕ) → w ∈ rs → w ∈ accepted_from kind rs ws
  unfolding accepted_from
  accepted_stays rs [] w i = i
  accepted_stays rs (v ∷ ws) w i = accepted_stays (accepted_by kind (reply_given kind rs v) rs v) ws w (by_stays (reply_given kind rs v) rs v w i)

  -- what is accepted is sound, and words
  by_sound : {rs : List (List ℕ)} {w : List ℕ} {a : FilingReply} → AllSound rs → Replied rs w a → AllSound (accepted_by kind a rs w)
  unfolding accepted_by All
  by_sound p (unsound s) = p
  by_sound p (known s i) = p
  by_sound p (full s n l) = p
  by_sound p (new s n l) = (s, p)

  from_sound : (rs ws : List (List ℕ)) → AllSound rs → AllSound (accepted_from kind rs ws)
  unfolding accepted_from
  from_sound rs [] p = p
  from_sound rs (w ∷ ws) p = from_sound (accepted_by kind (reply_given kind rs w) rs w) ws (by_sound p (replied rs w))

  pub accepted_sound : (filings : List (List ℕ)) → AllSound (accepted kind filings)
  unfolding accepted All
  accepted_sound filings = from_sound [] filings tt

  by_words : (a : FilingReply) (rs : List (List ℕ)) (w : List ℕ) → All Words rs → Words w → All Words (accepted_by kind a rs w)
  unfolding accepted_by All
  by_words filed rs w p q = (q, p)
  by_words held rs w p q = p
  by_words (refused n) rs w p q = p

  from_words : (rs ws : List (List ℕ)) → All Words rs → All Words ws → All Words (accepted_from kind rs ws)
  unfolding accepted_from All
  from_words rs [] p q = p
  from_words rs (w ∷ ws) p q = from_words (accepted_by kind (reply_given kind rs w) rs w) ws (by_words (reply_given kind rs w) rs w p q.0) q.1

  pub accepted_words : (filings : List (List ℕ)) → All Words filings → All Words (accepted kind filings)
  unfolding accepted All
  accepted_words filings p = from_words [] filings tt p
