-- Too few words or too many links; a link that fails makes the store unsound, and when all have passed it is sound.
use Rattle.std.proofs.Common.{arith, sym, ap, ◌∙◌}
use Rattle.rows.proofs.Order.{words_order}
use Rattle.rows.proofs.Records.{too_short, too_many, sound_each, unsound_at}
use Rattle.rows.proofs.Scan.{and_true_left, and_false_left}
use Rattle.certificates.specs.Link.{link_words, most_links, sound_link, sound_links}
use Rattle.link_records.proofs.sound_links.Goals.{then-links-lt-LINKS_WORDS-via-then-links-lt-LINKS_WORDS, then-links-lt-LINKS_WORDS-via-else-links-lt-LINKS_WORDS+then-links-gt-MOST_LINKS}
use Rattle.link_records.proofs.sound_links.Goals.{then-not-sound_link-via-then-not-sound_link, then-not-sound_link-via-else-not-sound_link+then-not-behind}
use Rattle.link_records.proofs.sound_links.Goals as goal

pub returns-then-links-lt-LINKS_WORDS : goal.returns-then-links-lt-LINKS_WORDS
unfolding sound_links
returns-then-links-lt-LINKS_WORDS c =
    elim c.then-links-lt-LINKS_WORDS.branch [
      | then-links-lt-LINKS_WORDS-via-then-links-lt-LINKS_WORDS w ↦ too_short link_words most_links sound_link words_order c.args.links.now (omega arith)
      | then-links-lt-LINKS_WORDS-via-else-links-lt-LINKS_WORDS+then-links-gt-MOST_LINKS w ↦ too_many link_words most_links sound_link words_order c.args.links.now (omega arith) (omega arith)
    ]

pub returns-then-not-sound_link : goal.returns-then-not-sound_link
unfolding sound_links
returns-then-not-sound_link c =
    let tested = sym (c.sound_link.ensures ∙ ap sound_link c.record_at.ensures) in
    let unsound = unsound_at link_words most_links sound_link words_order c.args.links.now c.loop-i.i c.loop-i-test.true in
    elim c.then-not-sound_link.branch [
      | then-not-sound_link-via-then-not-sound_link w ↦ unsound (and_false_left _ _ (tested ∙ w.if-not-sound_link.true))
      | then-not-sound_link-via-else-not-sound_link+then-not-behind w ↦ unsound (and_true_left _ _ (tested ∙ w.if-not-sound_link.false) ∙ sym w.behind.ensures ∙ w.if-not-behind.true)
    ]

pub returns : goal.returns
unfolding sound_links
returns c = sound_each link_words most_links sound_link words_order _ (omega arith) (omega arith) (λ k h. c.loop-i.invariant k (omega arith))
