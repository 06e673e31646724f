-- Words that a store would not hold: 9 where they are no certificate, 17 where only its term is bad.
use Prim.Native.Nat.{ℕ}
use mathlib.Core.Path.{◌≡◌, refl, sym}
use mathlib.Core.Bool.{true, false}
use mathlib.Core.List.{List}
use Rattle.refusals.specs.RefusalTable.{bad_certificate, bad_term}
use Rattle.certificates.specs.Certificate.{sound_certificate, sound_term, sound_record}
use Rattle.certificates.specs.Store.{certificate_refusal}

pub no_certificate : (w : List ℕ) → sound_certificate w ≡ false → (sound_record w ≡ false) × (bad_certificate ≡ certificate_refusal w)
unfolding sound_record certificate_refusal
no_certificate w e = (rw e refl, sym (rw (e, certificate_refusal) refl))

pub no_term : (w : List ℕ) → sound_certificate w ≡ true → sound_term w ≡ false → (sound_record w ≡ false) × (bad_term ≡ certificate_refusal w)
unfolding sound_record certificate_refusal
no_term w e t = (rw (e, t) refl, sym (rw (e, certificate_refusal) refl))
