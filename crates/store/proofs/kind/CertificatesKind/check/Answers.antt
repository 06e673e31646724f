-- Both tests make a record; where one fails, it names the refusal.
use Rattle.std.proofs.Common.{sym, ◌∙◌}
use Rattle.certificates.proofs.Sound.{both_sound, sound_ten}
use Rattle.store.proofs.Checks.{no_certificate, no_term}
use Rattle.store.proofs.kind.CertificatesKind.check.Goals as goal

pub returns-then-not-sound_certificate : goal.returns-then-not-sound_certificate
returns-then-not-sound_certificate c = no_certificate _ (sym c.sound_certificate.ensures ∙ c.if-not-sound_certificate.true)

pub sound_term-requires : goal.sound_term-requires
sound_term-requires c = sound_ten _ (sym c.sound_certificate.ensures ∙ c.if-not-sound_certificate.false)

pub returns-then-not-sound_term : goal.returns-then-not-sound_term
returns-then-not-sound_term c = no_term _ (sym c.sound_certificate.ensures ∙ c.if-not-sound_certificate.false) (sym c.sound_term.ensures ∙ c.if-not-sound_term.true)

pub returns : goal.returns
returns c = both_sound _ (sym c.sound_certificate.ensures ∙ c.if-not-sound_certificate.false) (sym c.sound_term.ensures ∙ c.if-not-sound_term.false)
