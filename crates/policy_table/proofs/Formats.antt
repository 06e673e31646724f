-- A word is read as a format where it is that of one.
use Rattle.std.proofs.Common.{ℕ, ◌≡◌, Result, Ok, Err, refl, sym}
use Rattle.std.specs.Result.{is_ok}
use borrow.Author.Tests.{ne_eqb}
use Rattle.refusals.specs.declared.Refusal.{Refusal}
use Rattle.policy.specs.Format.{is_format}
use Rattle.policy.specs.Codes.{FormatRead}
use Rattle.policy.specs.declared.codes.Format.{Format}
use Rattle.policy.specs.declared.codes.Format.TheVariants as format

pub format_read : (w : ℕ) (r : Result Format Refusal) → FormatRead w r → is_ok r ≡ is_format w
unfolding is_format
format_read w (Ok format.EqualWidths) h = rw (← h) refl
format_read w (Ok format.WiderRows) h = rw (← h) refl
format_read w (Err e) h =
    rw (ne_eqb w 1 (λ q. h.1 format.EqualWidths (sym q)), ne_eqb w 2 (λ q. h.1 format.WiderRows (sym q))) refl
