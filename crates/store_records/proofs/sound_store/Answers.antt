-- Too few words or too many records; a record that fails makes the store unsound, and when all have passed it is sound.
use Rattle.std.proofs.Common.{arith, sym, ◌∙◌}
use Rattle.rows.proofs.Records.{too_short, too_many, sound_each, unsound_at}
use Rattle.certificates.specs.Certificate.{record_words, sound_record}
use Rattle.certificates.specs.Store.{capacity, sound_store}
use Rattle.certificates.proofs.RecordOrder.{record_order}
use Rattle.store_records.proofs.Words.{at_parts}
use Rattle.store_records.proofs.sound_store.Goals.{then-store-lt-STORE_WORDS-via-then-store-lt-STORE_WORDS, then-store-lt-STORE_WORDS-via-else-store-lt-STORE_WORDS+then-store-gt-CAPACITY}
use Rattle.store_records.proofs.sound_store.Goals as goal

pub returns-then-store-lt-STORE_WORDS : goal.returns-then-store-lt-STORE_WORDS
unfolding sound_store
returns-then-store-lt-STORE_WORDS c =
    elim c.then-store-lt-STORE_WORDS.branch [
      | then-store-lt-STORE_WORDS-via-then-store-lt-STORE_WORDS w ↦ too_short record_words capacity sound_record record_order c.args.store.now (omega arith)
      | then-store-lt-STORE_WORDS-via-else-store-lt-STORE_WORDS+then-store-gt-CAPACITY w ↦ too_many record_words capacity sound_record record_order c.args.store.now (omega arith) (omega arith)
    ]

pub returns-then-not-sound_at : goal.returns-then-not-sound_at
unfolding sound_store
returns-then-not-sound_at c = unsound_at record_words capacity sound_record record_order _ _ c.loop-i-test.true (sym c.sound_at.ensures ∙ c.if-not-sound_at.true)

pub returns : goal.returns
unfolding sound_store
returns c =
    sound_each record_words capacity sound_record record_order _ (omega arith) (omega arith) (λ k h. at_parts _ k (c.loop-i.invariant.1 k (omega arith)))
