-- An entry whose words keep their rules is sound if no earlier one has its name and polarity.
use Rattle.std.proofs.Common.{arith}
use Rattle.std.proofs.lemmas.Bool.Decides.{nat_tests}
use Rattle.policy_table.specs.Entries.{entry_is}
use Rattle.policy_table.proofs.TableAnswers.{sound_if_new}
use Rattle.policy_table.proofs.reading.sound_entry.Goals as goal

pub returns-then-entry-policy : goal.returns-then-entry-policy
returns-then-entry-policy c =
    sound_if_new _ _ _ (entry_is c.at-entry.result) _ _ _ _ c.at-entry.ensures c.entry_place.ensures c.requires.2 c.requires.3
    (omega arith) (omega arith) (omega arith) (λ h. absurd (omega arith)) (grind (arith, nat_tests)) c.polarity_of.ensures c.find_definition.ensures c.is_none.ensures
