-- Document 01, "Refusal table", with what document 02 adds: each number is named here, once, and used by this name everywhere else.
use Rattle.std.specs.Prelude.{ℕ}

-- 1: under 2 or over 8,192 words, format, n, or table cut short
abbrev pub bad_header : ℕ
bad_header = 1

-- 2: a table entry breaks a rule, or the parts don't end with the policy
abbrev pub bad_table : ℕ
bad_table = 2

-- 3: code, tag, count, width, name or polarity outside its rule; a fixed issuer that is a number; words run out or left over;
-- query of 0 or over 1,024 words
abbrev pub bad_word : ℕ
bad_word = 3

-- 4: variable not in scope, wrong new number, 17th variable, definition not available
abbrev pub not_in_scope : ℕ
not_in_scope = 4

-- 5: an expression at depth 16 (at its code word), or a ninth draw
abbrev pub too_deep : ℕ
too_deep = 5

-- 6: declared polarity not had, or a query has none
abbrev pub no_polarity : ℕ
no_polarity = 6

-- 7: draw from an open expression
abbrev pub open_draw : ℕ
open_draw = 7

-- 8: store too short or unsound
abbrev pub bad_store : ℕ
bad_store = 8

-- 9: certificate not ten words (document 02, N4) or unsound
abbrev pub bad_certificate : ℕ
bad_certificate = 9

-- 10: 1,600 held (document 02, N4) and this one is new
abbrev pub store_full : ℕ
store_full = 10

-- 11: answer area under 642 words, definition area under 10,272, scratch area under 16,384; document 02, N2: an output area too short
abbrev pub short_area : ℕ
short_area = 11

-- 12: a complement is drawn from while reading
abbrev pub complement_drawn : ℕ
complement_drawn = 12

-- 13: a value lists over 128 rows
abbrev pub too_many_rows : ℕ
too_many_rows = 13

-- 14: a draw is due and 1,000,000 were made
abbrev pub too_many_draws : ℕ
too_many_draws = 14

-- 15 (document 02, N2): an external rule is broken or the output would pass 8,192 words
abbrev pub not_external : ℕ
not_external = 15

-- 16 (document 02, N4): a date that doesn't exist or lies outside 2000 to 2099, from the converter alone
abbrev pub bad_date : ℕ
bad_date = 16

-- 17 (document 02, N4): an end not after its first minute
abbrev pub bad_term : ℕ
bad_term = 17

-- 18 (document 02, N5): a malformed link or an unsound link store
abbrev pub bad_link : ℕ
bad_link = 18

-- 19 (document 02, N5): 256 links held and this one is new
abbrev pub links_full : ℕ
links_full = 19

-- 20 (document 02, N7): the number given as our key is not a key
abbrev pub not_a_key : ℕ
not_a_key = 20

-- With a refusal of a policy or a query comes its part: 0 to 15 a definition, 16 the query, 17 neither.
abbrev pub query_part : ℕ
query_part = 16

abbrev pub no_part : ℕ
no_part = 17
