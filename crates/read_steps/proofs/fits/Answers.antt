-- A row of the pattern's width fits; another only in format 2, if it is wider.
use Rattle.std.proofs.Common.{sym, ◌∙◌}
use borrow.Author.Tests.{ne_eqb}
use Rattle.meaning.proofs.Matching.{fits_wider, fits_equal, fits_same}
use Rattle.read_steps.proofs.fits.Goals as goal

pub returns-then-width-atoms : goal.returns-then-width-atoms
returns-then-width-atoms c = let a = c.args in sym (fits_same a.format a.width a.atoms c.if-width-atoms.true)

pub returns-then-format : goal.returns-then-format
returns-then-format c = let a = c.args in sym (fits_wider a.width a.atoms c.if-format.true)

pub returns : goal.returns
returns c = let a = c.args in sym (fits_equal a.width a.atoms c.if-format.false ∙ ne_eqb a.width a.atoms c.if-width-atoms.false)
