-- What the code's refusals and parts are, as the numbers that a caller in C is told.
use Rattle.std.specs.Prelude.{ℕ, Result, Ok, Err}
use Rattle.refusals.specs.RefusalTable.{bad_header, bad_table, bad_word, not_in_scope, too_deep, no_polarity, open_draw, bad_store, bad_certificate, store_full, short_area, complement_drawn, too_many_rows, too_many_draws, not_external, bad_date, bad_term, bad_link, links_full, not_a_key, query_part, no_part}
use Rattle.refusals.specs.declared.Refusal.{Refusal}
use Rattle.refusals.specs.declared.Refusal.TheVariants.{BadHeader, BadTable, BadWord, NotInScope, TooDeep, NoPolarity, OpenDraw, BadStore, BadCertificate, StoreFull, ShortArea, ComplementDrawn, TooManyRows, TooManyDraws, NotExternal, BadDate, BadTerm, BadLink, LinksFull, NotAKey}
use Rattle.refusals.specs.declared.Part.{Part}
use Rattle.refusals.specs.declared.Part.TheVariants.{Definition, Query, Neither}
use Rattle.refusals.specs.declared.Refused.{Refused}

abbrev pub number : Refusal → ℕ
number BadHeader = bad_header
number BadTable = bad_table
number BadWord = bad_word
number NotInScope = not_in_scope
number TooDeep = too_deep
number NoPolarity = no_polarity
number OpenDraw = open_draw
number BadStore = bad_store
number BadCertificate = bad_certificate
number StoreFull = store_full
number ShortArea = short_area
number ComplementDrawn = complement_drawn
number TooManyRows = too_many_rows
number TooManyDraws = too_many_draws
number NotExternal = not_external
number BadDate = bad_date
number BadTerm = bad_term
number BadLink = bad_link
number LinksFull = links_full
number NotAKey = not_a_key

abbrev pub part_number : Part → ℕ
part_number (Definition d) = d
part_number Query = query_part
part_number Neither = no_part

-- a refusal that is about neither a definition nor the query
abbrev pub of_neither : Refusal → Refused
of_neither r = record { refusal = r; part = Neither }

-- what a caller is told of an answer: the answer, or the refusal's number and its part's
unfoldable pub told : {A : Type 0} → Result A Refused → Result A (ℕ × ℕ)
told (Ok x) = Ok x
told (Err r) = Err (number r.refusal, part_number r.part)
