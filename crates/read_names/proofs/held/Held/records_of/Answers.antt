-- The chunks of the name's part are its records.
use Rattle.std.proofs.Common.{ℕ, List, ◌/◌, length, subst, sym, ap, ◌∙◌}
use Rattle.rows.specs.Layout.{pieces}
use Rattle.read_held.specs.Held.{Records}
use Rattle.certificates.specs.NamePart.{name_part}
use Rattle.read_names.proofs.Own.{chunks_pieces, part_records}
use Rattle.read_names.proofs.held.Held.records_of.Goals as goal

pub returns-clause-records : goal.returns-clause-records
returns-clause-records c =
    c.as_chunks.ensures.front ∙ chunks_pieces 10 _ _ ∙ ap (λ (ws : List ℕ). pieces 10 (length ws / 10) ws) (c.certificates_in-words.ensures ∙ ap (name_part c.args.self.now.store.now c.args.name.key c.args.name.number) c.from.ensures)

pub returns-clause-sound : goal.returns-clause-sound
returns-clause-sound c =
    subst (λ rs. Records rs) (sym (c.as_chunks.ensures.front ∙ chunks_pieces 10 _ _)) (part_records c.args.self.now.store.now c.args.self.now.sound _ _ _ c.certificates_in-words.ensures)
