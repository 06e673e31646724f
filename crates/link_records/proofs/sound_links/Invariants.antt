-- Each link before i is sound and comes behind the one before.
use Rattle.std.proofs.Common.{ℕ, ◌≡◌, ◌<◌, true}
use Rattle.rows.specs.Ordered.{words_before}
use Rattle.rows.specs.Records.{record_at, behind_at}
use Rattle.certificates.specs.Link.{link_words, sound_link}
use Rattle.link_records.proofs.sound_links.Given as goal

abbrev pub invariant-loop-i : goal.invariant-loop-i
invariant-loop-i l = (k : ℕ) → k < l.i → (sound_link (record_at link_words l.links k) ≡ true) × (behind_at link_words words_before l.links k ≡ true)
