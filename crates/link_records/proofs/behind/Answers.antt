-- The first has none before it; any other is compared with the one before.
use Rattle.std.proofs.Common.{arith, sym, ◌∙◌, eq-eqb}
use Rattle.rows.specs.Ordered.{words_before}
use Rattle.rows.proofs.Records.{record_length, behind_first, behind_before}
use Rattle.certificates.specs.Link.{link_words}
use Rattle.link_records.proofs.behind.Goals as goal

pub returns-then-i-eq0 : goal.returns-then-i-eq0
returns-then-i-eq0 c = eq-eqb _ _ c.if-i-eq0.true ∙ sym (behind_first link_words c.args.links.now words_before c.args.i c.if-i-eq0.true)

pub returns-else-i-eq0 : goal.returns-else-i-eq0
returns-else-i-eq0 c =
    c.link_before.ensures
    ∙ sym (behind_before link_words c.args.links.now words_before c.args.i c.if-i-eq0.false _ _ c.record_at.ensures c.record_at-else-i-eq0.ensures)

pub link_before-requires : goal.link_before-requires
link_before-requires c =
    (rw c.record_at.ensures (record_length link_words c.args.links.now _ (omega arith)), rw c.record_at-else-i-eq0.ensures (record_length link_words c.args.links.now _ (omega arith)))
