-- Words with the number that the decoder refuses them with: document 01's rules of refusals 3, 4 and 5 by example, as document 02 changes them.
use Rattle.std.specs.Prelude.{ℕ, zero, suc, ◌+◌, ◌≡◌, List, [], ◌∷◌, ◌++◌}
use Rattle.refusals.specs.RefusalTable.{bad_word, not_in_scope, too_deep}
use Rattle.rows.specs.Name.{plus, minus}
use Rattle.policy.specs.OwnKey.{Scope}
use Rattle.policy.specs.Parse.{Parsed, parsed, refused, parse}

-- the refusal's number; 0 where there is none
unfoldable pub number_of : Parsed → ℕ
number_of (parsed e) = 0
number_of (refused n) = n

-- our key, k2; and two definitions being available, name 10 + and name 11 −
abbrev pub ours : ℕ
ours = 2147483650

abbrev pub two_available : Scope
two_available = record { our_key = ours; available = record { name = 10; polarity = plus } ∷ record { name = 11; polarity = minus } ∷ [] }

unfoldable pub Decodes : List ℕ → ℕ → Type 0
unfolding number_of parse
Decodes ws n = number_of (parse two_available ws) ≡ n

-- so many times the same words, then the last ones
unfoldable pub again : ℕ → List ℕ → List ℕ → List ℕ
again zero ws end = end
again (suc n) ws end = ws ++ again n ws end

-- n unions, each inside the one before, over the words given
unfoldable pub unions : ℕ → List ℕ → List ℕ
unfolding again
unions n ws = again n (5 ∷ []) (ws ++ again n (1 ∷ 0 ∷ []) [])

-- four new variables from number n on
unfoldable pub four : ℕ → List ℕ
four n = 1 ∷ 1 ∷ 0 ∷ 4 ∷ 2 ∷ n ∷ 2 ∷ (n + 1) ∷ 2 ∷ (n + 2) ∷ 2 ∷ (n + 3) ∷ []

-- a draw from no rows, with a pattern of one fixed atom
abbrev pub any_draw : List ℕ
any_draw = 1 ∷ 1 ∷ 0 ∷ 1 ∷ 0 ∷ 5 ∷ []

pub record AllHold : Type 0 where
  -- words run out
  pub run_out :
      Decodes [] bad_word
      × Decodes (1 ∷ []) bad_word
      × Decodes (1 ∷ 1 ∷ 1 ∷ 0 ∷ []) bad_word
      × Decodes (5 ∷ 1 ∷ 0 ∷ []) bad_word
  -- a code is 1 to 8
  pub codes :
      Decodes (0 ∷ []) bad_word
      × Decodes (9 ∷ []) bad_word
  -- at most 128 rows, at most 8 guards
  pub counts :
      Decodes (1 ∷ 128 ∷ again 128 (1 ∷ 0 ∷ 5 ∷ []) []) 0
      × Decodes (1 ∷ 129 ∷ again 129 (1 ∷ 0 ∷ 5 ∷ []) []) bad_word
      × Decodes (2 ∷ 4294967295 ∷ []) bad_word
      × Decodes (7 ∷ 8 ∷ again 8 (2 ∷ 0 ∷ 5 ∷ 0 ∷ 5 ∷ []) (1 ∷ 0 ∷ 5 ∷ [])) 0
      × Decodes (7 ∷ 9 ∷ again 9 (2 ∷ 0 ∷ 5 ∷ 0 ∷ 5 ∷ []) (1 ∷ 0 ∷ 5 ∷ [])) bad_word
  -- a width is 1 to 4, of rows and of patterns
  pub widths :
      Decodes (1 ∷ 1 ∷ 0 ∷ []) bad_word
      × Decodes (1 ∷ 1 ∷ 4 ∷ 0 ∷ 1 ∷ 0 ∷ 2 ∷ 0 ∷ 3 ∷ 0 ∷ 4 ∷ []) 0
      × Decodes (1 ∷ 1 ∷ 5 ∷ 1 ∷ 0 ∷ []) bad_word
      × Decodes (7 ∷ 1 ∷ 1 ∷ 1 ∷ 0 ∷ 0 ∷ 1 ∷ 0 ∷ 5 ∷ []) bad_word
  -- a tag is 0 or 1, of a slot 2 as well
  pub tags :
      Decodes (1 ∷ 1 ∷ 1 ∷ 2 ∷ 0 ∷ []) bad_word
      × Decodes (7 ∷ 1 ∷ 1 ∷ 1 ∷ 0 ∷ 1 ∷ 3 ∷ 0 ∷ 1 ∷ 0 ∷ 5 ∷ []) bad_word
  -- a guard is 1 to 4
  pub guards :
      Decodes (7 ∷ 1 ∷ 0 ∷ []) bad_word
      × Decodes (7 ∷ 1 ∷ 5 ∷ []) bad_word
  -- a fixed issuer is a key, a name is up to 65,535, a polarity 0 or 1
  pub issuers :
      Decodes (4 ∷ 0 ∷ 2147483648 ∷ 65535 ∷ 1 ∷ []) 0
      × Decodes (4 ∷ 0 ∷ 2147483647 ∷ 65535 ∷ 1 ∷ []) bad_word
      × Decodes (4 ∷ 0 ∷ 2147483648 ∷ 65536 ∷ 1 ∷ []) bad_word
      × Decodes (4 ∷ 0 ∷ 2147483648 ∷ 65535 ∷ 2 ∷ []) bad_word
  -- two definitions are available
  pub definitions :
      Decodes (3 ∷ 1 ∷ []) 0
      × Decodes (3 ∷ 2 ∷ []) not_in_scope
  -- code 8: an issuer and a name as in code 4, then polarity +, then one of the two definitions
  pub vetted :
      Decodes (8 ∷ 0 ∷ 2147483648 ∷ 65535 ∷ 0 ∷ 1 ∷ []) 0
      × Decodes (8 ∷ 0 ∷ 2147483647 ∷ 65535 ∷ 0 ∷ 1 ∷ []) bad_word
      × Decodes (8 ∷ 0 ∷ 2147483648 ∷ 65536 ∷ 0 ∷ 1 ∷ []) bad_word
      × Decodes (8 ∷ 0 ∷ 2147483648 ∷ 65535 ∷ 1 ∷ 2 ∷ []) bad_word
      × Decodes (8 ∷ 0 ∷ 2147483648 ∷ 65535 ∷ 0 ∷ 2 ∷ []) not_in_scope
      × Decodes (8 ∷ 0 ∷ 2147483648 ∷ 65535 ∷ 0 ∷ []) bad_word
  -- N7: an own name is that of an available definition, polarity too; "at its polarity word", whose own rule comes first, as do the words before it
  pub own_names :
      Decodes (4 ∷ 0 ∷ ours ∷ 10 ∷ 0 ∷ []) 0
      × Decodes (4 ∷ 0 ∷ ours ∷ 11 ∷ 1 ∷ []) 0
      × Decodes (4 ∷ 0 ∷ ours ∷ 10 ∷ 1 ∷ []) not_in_scope
      × Decodes (4 ∷ 0 ∷ ours ∷ 11 ∷ 0 ∷ []) not_in_scope
      × Decodes (4 ∷ 0 ∷ ours ∷ 12 ∷ 0 ∷ []) not_in_scope
      × Decodes (4 ∷ 0 ∷ ours ∷ 12 ∷ 2 ∷ []) bad_word
      × Decodes (4 ∷ 0 ∷ ours ∷ 65536 ∷ 0 ∷ []) bad_word
      × Decodes (4 ∷ 0 ∷ ours ∷ 12 ∷ []) bad_word
      × Decodes (5 ∷ 4 ∷ 0 ∷ ours ∷ 12 ∷ 0 ∷ 9 ∷ []) not_in_scope
      × Decodes (4 ∷ 0 ∷ ours ∷ 12 ∷ 0 ∷ 9 ∷ []) not_in_scope
  -- in code 8 too, where a polarity − is 3; this comes before the word of the definition that it names
  pub own_vetted :
      Decodes (8 ∷ 0 ∷ ours ∷ 10 ∷ 0 ∷ 1 ∷ []) 0
      × Decodes (8 ∷ 0 ∷ ours ∷ 11 ∷ 0 ∷ 1 ∷ []) not_in_scope
      × Decodes (8 ∷ 0 ∷ ours ∷ 11 ∷ 1 ∷ 1 ∷ []) bad_word
      × Decodes (8 ∷ 0 ∷ ours ∷ 10 ∷ 0 ∷ 2 ∷ []) not_in_scope
      × Decodes (8 ∷ 0 ∷ ours ∷ 11 ∷ 0 ∷ []) not_in_scope
      × Decodes (8 ∷ 0 ∷ ours ∷ 10 ∷ 0 ∷ []) bad_word
  -- "A variable that happens to hold our key still reads certificates": of whatever name
  pub own_by_variable :
      Decodes (7 ∷ 2 ∷ 1 ∷ 1 ∷ 1 ∷ 1 ∷ 0 ∷ ours ∷ 1 ∷ 2 ∷ 0 ∷ 1 ∷ 4 ∷ 1 ∷ 0 ∷ 12 ∷ 0 ∷ 1 ∷ 2 ∷ 1 ∷ 1 ∷ 1 ∷ 1 ∷ []) 0
  -- words left over
  pub left_over :
      Decodes (3 ∷ 1 ∷ 0 ∷ []) bad_word
  -- no variable is in scope at first
  pub none_at_first :
      Decodes (1 ∷ 1 ∷ 1 ∷ 1 ∷ 0 ∷ []) not_in_scope
      × Decodes (7 ∷ 0 ∷ 1 ∷ 1 ∷ 0 ∷ []) not_in_scope
  -- "a variable from earlier in the pattern may be used"
  pub earlier_in_pattern :
      Decodes (7 ∷ 1 ∷ 1 ∷ 1 ∷ 0 ∷ 2 ∷ 2 ∷ 0 ∷ 1 ∷ 0 ∷ 1 ∷ 1 ∷ 0 ∷ []) 0
      × Decodes (7 ∷ 1 ∷ 1 ∷ 1 ∷ 0 ∷ 2 ∷ 1 ∷ 0 ∷ 2 ∷ 0 ∷ 1 ∷ 1 ∷ 0 ∷ []) not_in_scope
  -- a draw's own variables are not in scope in its expression
  pub not_where_drawn_from :
      Decodes (7 ∷ 1 ∷ 1 ∷ 1 ∷ 1 ∷ 1 ∷ 1 ∷ 0 ∷ 1 ∷ 2 ∷ 0 ∷ 1 ∷ 1 ∷ 0 ∷ []) not_in_scope
  -- "Variables end with their comprehension"
  pub end_with_comprehension :
      Decodes (5 ∷ 7 ∷ 1 ∷ 1 ∷ 1 ∷ 0 ∷ 1 ∷ 2 ∷ 0 ∷ 1 ∷ 1 ∷ 0 ∷ 1 ∷ 1 ∷ 1 ∷ 1 ∷ 0 ∷ []) not_in_scope
  -- a new variable has "the count of variables in scope", in an inner comprehension too, and after it again
  pub new_numbers :
      Decodes (7 ∷ 1 ∷ 1 ∷ 1 ∷ 0 ∷ 1 ∷ 2 ∷ 1 ∷ 1 ∷ 1 ∷ 0 ∷ []) not_in_scope
      × Decodes (7 ∷ 2 ∷ 1 ∷ 1 ∷ 0 ∷ 1 ∷ 2 ∷ 0 ∷ 1 ∷ 7 ∷ 1 ∷ 1 ∷ 1 ∷ 0 ∷ 1 ∷ 2 ∷ 1 ∷ 1 ∷ 1 ∷ 1 ∷ 1 ∷ 2 ∷ 1 ∷ 1 ∷ 1 ∷ 1 ∷ []) 0
      × Decodes (7 ∷ 2 ∷ 1 ∷ 1 ∷ 0 ∷ 1 ∷ 2 ∷ 0 ∷ 1 ∷ 7 ∷ 1 ∷ 1 ∷ 1 ∷ 0 ∷ 1 ∷ 2 ∷ 0 ∷ []) not_in_scope
  -- "at most 15": a 17th variable
  pub sixteen :
      Decodes (7 ∷ 4 ∷ (four 0 ++ (four 4 ++ (four 8 ++ (four 12 ++ (1 ∷ 1 ∷ 15 ∷ [])))))) 0
      × Decodes (7 ∷ 5 ∷ (four 0 ++ (four 4 ++ (four 8 ++ (four 12 ++ (1 ∷ 1 ∷ 0 ∷ 1 ∷ 2 ∷ 16 ∷ [])))))) not_in_scope
  -- "the limit is 15": refused "at its code word", whose own rule comes first
  pub fifteen_levels :
      Decodes (unions 14 (1 ∷ 0 ∷ [])) 0
      × Decodes (unions 15 (1 ∷ 0 ∷ [])) too_deep
      × Decodes (unions 15 (1 ∷ 129 ∷ [])) too_deep
      × Decodes (unions 15 (9 ∷ 0 ∷ [])) bad_word
      × Decodes (again 15 (5 ∷ []) []) bad_word
  -- "counted where their guards begin": before those inside it, and over the whole expression
  pub eight_draws :
      Decodes (7 ∷ 8 ∷ again 8 any_draw (1 ∷ 0 ∷ 5 ∷ [])) 0
      × Decodes (5 ∷ 7 ∷ 8 ∷ again 8 any_draw (1 ∷ 0 ∷ 5 ∷ 7 ∷ 1 ∷ 1 ∷ [])) too_deep
      × Decodes (7 ∷ 8 ∷ again 7 any_draw (1 ∷ 7 ∷ 1 ∷ 1 ∷ [])) too_deep
      × Decodes (7 ∷ 8 ∷ 1 ∷ 7 ∷ 1 ∷ (any_draw ++ (1 ∷ 0 ∷ 5 ∷ 1 ∷ 0 ∷ 5 ∷ again 7 any_draw (1 ∷ 0 ∷ 5 ∷ [])))) too_deep
  -- "at the first word in order"
  pub first_word :
      Decodes (4 ∷ 1 ∷ 0 ∷ 99999 ∷ 0 ∷ []) not_in_scope
      × Decodes (5 ∷ 3 ∷ 2 ∷ 9 ∷ []) not_in_scope
      × Decodes (5 ∷ 9 ∷ 3 ∷ 2 ∷ []) bad_word
