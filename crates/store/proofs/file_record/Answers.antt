-- Test by test: `proofs/Replies.antt` says what each makes of the reply and of the store.
use Rattle.std.proofs.Common.{◌∙◌, sym, ap, arith, ℕ}
use Rattle.rows.specs.Records.{put_in}
use Rattle.certificates.specs.Filing.{filed, held, refused}
use Rattle.certificates.proofs.Filings.{sound_in_lem}
use Rattle.refusals.specs.Numbers.{number}
use Rattle.store.proofs.Replies.{Files, reply_unsound, reply_bad, reply_held, reply_full, Room, room_for, reply_filed}
use Rattle.store.proofs.file_record.Goals as goal

-- ---- each return's reply and store

unsound : (g : _) (c : goal.After-bad_store g) → Files g.met.K.Kind.laws c.args.store.now c.args.words.now (refused (number c.bad_store.result)) c.args.store.now
unsound g c = reply_unsound g.met.K.Kind.laws _ _ _ c.bad_store.ensures (sym c.is_sound.ensures ∙ c.if-not-is_sound.true)

bad : (g : _) (c : goal.In-Err g) → Files g.met.K.Kind.laws c.args.store.now c.args.words.now (refused (number c.in-Err.refusal)) c.args.store.now
bad g c = reply_bad g.met.K.Kind.laws _ _ (sym c.is_sound.ensures ∙ c.if-not-is_sound.false) _ c.in-Err.ensures

known : (g : _) (c : goal.Then-is_held g) → Files g.met.K.Kind.laws c.args.store.now c.args.words.now held c.args.store.now
known g c =
    reply_held g.met.K.Kind.laws _ _ (sym c.is_sound.ensures ∙ c.if-not-is_sound.false) c.in_default.ensures _ c.place-place.ensures
    (sym c.is_held.ensures ∙ c.if-is_held.true)

full : (g : _) (c : goal.After-full g) → Files g.met.K.Kind.laws c.args.store.now c.args.words.now (refused (number c.full.result)) c.args.store.now
full g c =
    reply_full g.met.K.Kind.laws _ _ (sym c.is_sound.ensures ∙ c.if-not-is_sound.false) c.in_default.ensures _ c.place-place.ensures
    (sym c.is_held.ensures ∙ c.if-is_held.false) _ c.full.ensures (c.if-store-MOST.true ∙ c.MOST.ensures ∙ g.met.K.Kind.most_as_ruled)

room : (g : _) (c : goal.After-WORDS g) → Room g.met.K.Kind.laws c.args.store.now c.args.words.now c.place-place.result
room g c =
    room_for g.met.K.Kind.laws _ _ (sym c.is_sound.ensures ∙ c.if-not-is_sound.false) c.in_default.ensures _ c.place-place.ensures
    (sym c.is_held.ensures ∙ c.if-is_held.false) (λ e. c.if-store-MOST.false (e ∙ sym (c.MOST.ensures ∙ g.met.K.Kind.most_as_ruled)))

new : (g : _) (c : goal.After-slice_known-3-1 g) → Files g.met.K.Kind.laws c.args.store.now c.args.words.now filed c.insert.new.area
new g c =
    reply_filed g.met.K.Kind.laws _ _ (sym c.is_sound.ensures ∙ c.if-not-is_sound.false) c.in_default.ensures _ c.place-place.ensures
    (sym c.is_held.ensures ∙ c.if-is_held.false) (λ e. c.if-store-MOST.false (e ∙ sym (c.MOST.ensures ∙ g.met.K.Kind.most_as_ruled))) _
    (c.insert.ensures ∙ ap (λ (n : ℕ). put_in n c.args.store.now c.place-place.result c.args.words.now) (c.WORDS.ensures ∙ g.met.K.Kind.words_as_ruled))

-- ---- the answers

pub returns-then-not-is_sound-clause-answer : goal.returns-then-not-is_sound-clause-answer
returns-then-not-is_sound-clause-answer g c = (unsound g c).0

pub returns-then-not-is_sound-clause-store_after : goal.returns-then-not-is_sound-clause-store_after
returns-then-not-is_sound-clause-store_after g c = (unsound g c).1

pub returns-in-Err-clause-answer : goal.returns-in-Err-clause-answer
returns-in-Err-clause-answer g c = (bad g c).0

pub returns-in-Err-clause-store_after : goal.returns-in-Err-clause-store_after
returns-in-Err-clause-store_after g c = (bad g c).1

pub returns-then-is_held-clause-answer : goal.returns-then-is_held-clause-answer
returns-then-is_held-clause-answer g c = (known g c).0

pub returns-then-is_held-clause-store_after : goal.returns-then-is_held-clause-store_after
returns-then-is_held-clause-store_after g c = (known g c).1

pub bounds-store-0 : goal.bounds-store-0
bounds-store-0 g c = omega (arith, (sound_in_lem g.met.K.Kind.laws _ (sym c.is_sound.ensures ∙ c.if-not-is_sound.false)).long)

pub returns-then-store-MOST-clause-answer : goal.returns-then-store-MOST-clause-answer
returns-then-store-MOST-clause-answer g c = (full g c).0

pub returns-then-store-MOST-clause-store_after : goal.returns-then-store-MOST-clause-store_after
returns-then-store-MOST-clause-store_after g c = (full g c).1

pub insert-requires-clause-place_in_range : goal.insert-requires-clause-place_in_range
insert-requires-clause-place_in_range g c = let r = room g c in (r.few, omega (arith, c.MOST.type_inv, c.MOST.ensures, g.met.K.Kind.most_as_ruled, r.left))

pub insert-requires-clause-room_for_it : goal.insert-requires-clause-room_for_it
insert-requires-clause-room_for_it g c = rw (c.WORDS.ensures ∙ g.met.K.Kind.words_as_ruled) (room g c).long

pub returns-clause-answer : goal.returns-clause-answer
returns-clause-answer g c = (new g c).0

pub returns-clause-store_after : goal.returns-clause-store_after
returns-clause-store_after g c = (new g c).1
