-- Policies and queries with the reply that they get: document 01's rules of refusals 1 to 7 and of verdicts by example, as document 02 changes them, and its
-- refusal 20.
use Rattle.std.specs.Prelude.{ℕ, ◌+◌, ◌≡◌, List, [], ◌∷◌, ◌++◌, length, drop, replicate}
use Rattle.refusals.specs.RefusalTable.{bad_header, bad_table, bad_word, not_in_scope, too_deep, no_polarity, open_draw, not_a_key, query_part, no_part}
use Rattle.policy.specs.Polarity.{exact, lower, upper}
use Rattle.policy.specs.Format.{wider_rows}
use Rattle.policy.specs.Judgement.{JudgementReply, verdict, refused, judge}
use Rattle.policy.specs.Decoded.{ours, again, unions}

-- under this key of ours; "Cases a to l are given k2"
unfoldable pub JudgesUnder : ℕ → List ℕ → List ℕ → JudgementReply → Type 0
unfolding judge
JudgesUnder key policy query reply = judge key policy query ≡ reply

unfoldable pub Judges : List ℕ → List ℕ → JudgementReply → Type 0
unfolding JudgesUnder
Judges = JudgesUnder ours

-- the key k1
abbrev pub k1 : ℕ
k1 = 2147483649

-- "P has one definition, name 10, +, offset 6, length 23 .. (released and not withdrawn). Q is 3 0."
abbrev pub P : List ℕ
P = 1 ∷ 1 ∷ 10 ∷ 0 ∷ 6 ∷ 23 ∷ 7 ∷ 2 ∷ 1 ∷ 4 ∷ 0 ∷ k1 ∷ 1 ∷ 0 ∷ 1 ∷ 2 ∷ 0 ∷ 4 ∷ 1 ∷ 1 ∷ 0 ∷ 4 ∷ 0 ∷ k1 ∷ 2 ∷ 1 ∷ 1 ∷ 1 ∷ 0 ∷ []

abbrev pub Q : List ℕ
Q = 3 ∷ 0 ∷ []

-- the policy of the cases from f on
abbrev pub no_definitions : List ℕ
no_definitions = 1 ∷ 0 ∷ []

-- a policy in another format: those written here are of format 1
abbrev pub in_format : ℕ → List ℕ → List ℕ
in_format format policy = format ∷ drop 1 policy

-- name 10 with a polarity, and its expression
abbrev pub one : ℕ → List ℕ → List ℕ
one p e = 1 ∷ 1 ∷ 10 ∷ p ∷ 6 ∷ length e ∷ e

-- names 10 and 11, each with a polarity and its expression; and both +
abbrev pub two_of : ℕ → List ℕ → ℕ → List ℕ → List ℕ
two_of p e q f = 1 ∷ 2 ∷ 10 ∷ p ∷ 10 ∷ length e ∷ 11 ∷ q ∷ (10 + length e) ∷ length f ∷ (e ++ f)

abbrev pub two : List ℕ → List ℕ → List ℕ
two e f = two_of 0 e 0 f

-- expressions: k1's name 1 +, its name 2 −, the set of 7, the complement of 7
abbrev pub released : List ℕ
released = 4 ∷ 0 ∷ k1 ∷ 1 ∷ 0 ∷ []

abbrev pub allowed : List ℕ
allowed = 4 ∷ 0 ∷ k1 ∷ 2 ∷ 1 ∷ []

abbrev pub seven : List ℕ
seven = 1 ∷ 1 ∷ 1 ∷ 0 ∷ 7 ∷ []

abbrev pub not_seven : List ℕ
not_seven = 2 ∷ 1 ∷ 1 ∷ 0 ∷ 7 ∷ []

-- code 8 of document 02, N2: k1's name 1 with a polarity, k1 being looked up in definition d
abbrev pub vetted : ℕ → ℕ → List ℕ
vetted p d = 8 ∷ 0 ∷ k1 ∷ 1 ∷ p ∷ d ∷ []

-- document 02, N7: our own name of this number with a polarity; the same in code 8, our key being looked up in definition d
abbrev pub own : ℕ → ℕ → List ℕ
own n p = 4 ∷ 0 ∷ ours ∷ n ∷ p ∷ []

abbrev pub own_vetted : ℕ → ℕ → List ℕ
own_vetted n d = 8 ∷ 0 ∷ ours ∷ n ∷ 0 ∷ d ∷ []

-- guards: variable n drawn from a set of rows of one atom, row 7 absent from a set
abbrev pub drawn : ℕ → List ℕ → List ℕ
drawn n e = 1 ∷ (e ++ (1 ∷ 2 ∷ n ∷ []))

abbrev pub absent7 : List ℕ → List ℕ
absent7 e = 4 ∷ 1 ∷ 0 ∷ 7 ∷ e

-- the rows of a set of rows of one atom
abbrev pub draw_all : List ℕ → List ℕ
draw_all e = 7 ∷ 1 ∷ (drawn 0 e ++ (1 ∷ 1 ∷ 0 ∷ []))

-- a literal of rows of three atoms and rows of four: 2 + 7 × m + 9 × n words
unfoldable pub literal : ℕ → ℕ → List ℕ
unfolding again
literal m n = 1 ∷ (m + n) ∷ again m (3 ∷ 0 ∷ 1 ∷ 0 ∷ 2 ∷ 0 ∷ 3 ∷ []) (again n (4 ∷ 0 ∷ 1 ∷ 0 ∷ 2 ∷ 0 ∷ 3 ∷ 0 ∷ 4 ∷ []) [])

pub record AllHold : Type 0 where
  -- "Portal cases", as far as judging goes: a to l, then the two about depth
  pub portal :
      Judges P Q (verdict lower)  -- a to d
      × Judges P (4 ∷ 0 ∷ k1 ∷ 2 ∷ 1 ∷ []) (verdict upper)  -- e
      × Judges no_definitions (6 ∷ 4 ∷ 0 ∷ k1 ∷ 1 ∷ 0 ∷ 4 ∷ 0 ∷ k1 ∷ 1 ∷ 0 ∷ []) (refused no_polarity query_part)  -- f
      × Judges no_definitions (7 ∷ 1 ∷ 1 ∷ 4 ∷ 0 ∷ k1 ∷ 2 ∷ 1 ∷ 1 ∷ 2 ∷ 0 ∷ 1 ∷ 1 ∷ 0 ∷ []) (refused open_draw query_part)  -- g
      × Judges no_definitions (6 ∷ 2 ∷ 1 ∷ 1 ∷ 0 ∷ 7 ∷ 2 ∷ 2 ∷ 1 ∷ 0 ∷ 7 ∷ 1 ∷ 0 ∷ 8 ∷ []) (verdict exact)  -- h
      × Judges no_definitions (5 ∷ 2 ∷ 2 ∷ 1 ∷ 0 ∷ 7 ∷ 1 ∷ 0 ∷ 8 ∷ 1 ∷ 1 ∷ 1 ∷ 0 ∷ 8 ∷ []) (verdict exact)  -- i
      × Judges no_definitions (1 ∷ 0 ∷ []) (verdict exact)  -- j
      × Judges no_definitions (7 ∷ 0 ∷ 1 ∷ 0 ∷ 7 ∷ []) (verdict exact)  -- k
      × Judges no_definitions (7 ∷ 2 ∷ 1 ∷ 1 ∷ 1 ∷ 1 ∷ 0 ∷ 5 ∷ 1 ∷ 2 ∷ 0 ∷ 1 ∷ 4 ∷ 1 ∷ 0 ∷ 1 ∷ 0 ∷ 1 ∷ 2 ∷ 1 ∷ 1 ∷ 1 ∷ 1 ∷ []) (verdict lower)  -- l
      × Judges no_definitions (unions 14 (1 ∷ 0 ∷ [])) (verdict exact)
      × Judges no_definitions (unions 15 (1 ∷ 0 ∷ [])) (refused too_deep query_part)
  -- 1: under 2 or over 8,192 words, n, table cut short
  pub header :
      Judges [] Q (refused bad_header no_part)
      × Judges (1 ∷ []) Q (refused bad_header no_part)
      × Judges (1 ∷ 17 ∷ replicate 100 0) Q (refused bad_header no_part)
      × Judges (1 ∷ 1 ∷ 10 ∷ 0 ∷ 6 ∷ []) Q (refused bad_header no_part)
      × Judges (1 ∷ 0 ∷ replicate 8191 0) Q (refused bad_header no_part)
  -- 1: the format; document 02, N6: "Refusal 1 now lets formats 1 and 2 pass." All else is judged alike.
  pub formats :
      Judges (in_format 0 no_definitions) seven (refused bad_header no_part)
      × Judges (in_format 3 no_definitions) seven (refused bad_header no_part)
      × Judges (in_format 0 P) Q (refused bad_header no_part)
      × Judges (in_format 3 P) Q (refused bad_header no_part)
      × Judges (in_format wider_rows no_definitions) seven (verdict exact)
      × Judges (in_format wider_rows P) Q (verdict lower)
      × Judges (in_format wider_rows (one 0 allowed)) Q (refused no_polarity 0)
      × Judges (in_format wider_rows no_definitions) (draw_all allowed) (refused open_draw query_part)
  -- 2: the parts don't end with the policy; name, polarity, offset, length; a name and polarity given twice
  pub entries :
      Judges (1 ∷ 0 ∷ replicate 8190 0) Q (refused bad_table no_part)
      × Judges (1 ∷ 1 ∷ 65536 ∷ 0 ∷ 6 ∷ 2 ∷ 1 ∷ 0 ∷ []) Q (refused bad_table no_part)
      × Judges (one 2 (1 ∷ 0 ∷ [])) Q (refused bad_table no_part)
      × Judges (1 ∷ 1 ∷ 10 ∷ 0 ∷ 7 ∷ 2 ∷ 0 ∷ 1 ∷ 0 ∷ []) Q (refused bad_table no_part)
      × Judges (one 0 []) Q (refused bad_table no_part)
      × Judges (1 ∷ 1 ∷ 10 ∷ 0 ∷ 6 ∷ 4294967294 ∷ 1 ∷ 0 ∷ []) Q (refused bad_table no_part)
      × Judges (1 ∷ 2 ∷ 10 ∷ 0 ∷ 10 ∷ 2 ∷ 10 ∷ 0 ∷ 12 ∷ 2 ∷ 1 ∷ 0 ∷ 1 ∷ 0 ∷ []) Q (refused bad_table no_part)
      × Judges (1 ∷ 2 ∷ 10 ∷ 0 ∷ 10 ∷ 2 ∷ 10 ∷ 1 ∷ 12 ∷ 2 ∷ 1 ∷ 0 ∷ 1 ∷ 0 ∷ []) Q (verdict lower)
  -- 3: "query of 0 or over 1,024 words", before its words are looked at
  pub query_length :
      Judges no_definitions [] (refused bad_word query_part)
      × Judges no_definitions (literal 65 63) (verdict exact)
      × Judges no_definitions (literal 60 67) (refused bad_word query_part)
      × Judges no_definitions (3 ∷ 0 ∷ replicate 1023 0) (refused bad_word query_part)
      × Judges no_definitions (3 ∷ 0 ∷ replicate 1022 0) (refused not_in_scope query_part)
  -- "left-over words last", so after a 4 or a 5; "then 6"
  pub left_over :
      Judges no_definitions (3 ∷ 0 ∷ 9 ∷ []) (refused not_in_scope query_part)
      × Judges no_definitions (unions 15 (1 ∷ 0 ∷ []) ++ (9 ∷ [])) (refused too_deep query_part)
      × Judges no_definitions (6 ∷ (released ++ (released ++ (9 ∷ [])))) (refused bad_word query_part)
      × Judges (one 0 (1 ∷ 0 ∷ 9 ∷ [])) Q (refused bad_word 0)
  -- "d, an earlier definition (in a query, any)"
  pub available :
      Judges (one 0 (3 ∷ 0 ∷ [])) Q (refused not_in_scope 0)
      × Judges (two (3 ∷ 1 ∷ []) (1 ∷ 0 ∷ [])) Q (refused not_in_scope 0)
      × Judges (two (1 ∷ 0 ∷ []) (3 ∷ 0 ∷ [])) (3 ∷ 1 ∷ []) (verdict lower)
      × Judges (two (1 ∷ 0 ∷ []) (3 ∷ 0 ∷ [])) (3 ∷ 2 ∷ []) (refused not_in_scope query_part)
  -- "Codes 1 and 2 have both polarities", with variables too; "4 its own"
  pub of_leaves :
      Judges no_definitions released (verdict lower)
      × Judges no_definitions allowed (verdict upper)
      × Judges no_definitions not_seven (verdict exact)
      × Judges no_definitions (7 ∷ 2 ∷ (drawn 0 seven ++ (drawn 1 (1 ∷ 1 ∷ 1 ∷ 1 ∷ 0 ∷ []) ++ (1 ∷ 1 ∷ 1 ∷ [])))) (verdict exact)
  -- "3 the declared one", which the definition must have
  pub of_definitions :
      Judges (one 0 seven) Q (verdict lower)
      × Judges (one 1 seven) Q (verdict upper)
      × Judges (one 0 allowed) Q (refused no_polarity 0)
  -- document 02, N2: "a polarity − is refused with 3. Its polarity is + if its definition is declared −, else none, and it is not open."
  pub of_vetted :
      Judges (one 1 allowed) (vetted 0 0) (verdict lower)
      × Judges (one 1 seven) (vetted 0 0) (verdict lower)
      × Judges (one 0 seven) (vetted 0 0) (refused no_polarity query_part)
      × Judges (one 1 allowed) (6 ∷ (allowed ++ vetted 0 0)) (verdict upper)
      × Judges (one 1 allowed) (6 ∷ (seven ++ vetted 0 0)) (verdict upper)
      × Judges (one 1 allowed) (6 ∷ (released ++ vetted 0 0)) (refused no_polarity query_part)
      × Judges (one 1 allowed) (draw_all (vetted 0 0)) (verdict lower)
      × Judges (one 1 allowed) (vetted 1 0) (refused bad_word query_part)
      × Judges (one 1 allowed) (vetted 0 1) (refused not_in_scope query_part)
  -- the same in a definition, where those before it are available
  pub vetted_in_definitions :
      Judges (two_of 1 allowed 0 (vetted 0 0)) (3 ∷ 1 ∷ []) (verdict lower)
      × Judges (two_of 1 allowed 1 (vetted 0 0)) (3 ∷ 1 ∷ []) (refused no_polarity 1)
      × Judges (two_of 1 allowed 0 (vetted 0 1)) (3 ∷ 1 ∷ []) (refused not_in_scope 1)
      × Judges (two seven (vetted 0 0)) (3 ∷ 1 ∷ []) (refused no_polarity 1)
      × Judges (two_of 1 allowed 0 (vetted 0 0)) (draw_all (3 ∷ 1 ∷ [])) (verdict lower)
  -- N7: our own name "reads the definition of that name and polarity, if it is available at that place": one before it, in a query any
  pub own_names :
      Judges (two released (own 10 0)) (own 11 0) (verdict lower)
      × Judges (two_of 1 allowed 1 (own 10 1)) (own 11 1) (verdict upper)
      × Judges (one 0 released) (own 10 1) (refused not_in_scope query_part)
      × Judges (one 0 released) (own 11 0) (refused not_in_scope query_part)
      × Judges (two released (own 10 1)) Q (refused not_in_scope 1)
      × Judges (two (own 11 0) released) Q (refused not_in_scope 0)
      × Judges (one 0 (own 10 0)) Q (refused not_in_scope 0)
      × Judges no_definitions (own 10 0) (refused not_in_scope query_part)
  -- it has the polarity of its definition, the one written
  pub of_own_names :
      Judges (one 0 seven) (own 10 0) (verdict lower)
      × Judges (one 1 seven) (own 10 1) (verdict upper)
      × Judges (one 1 seven) (6 ∷ (released ++ own 10 1)) (verdict lower)
      × Judges (one 0 seven) (6 ∷ (released ++ own 10 0)) (refused no_polarity query_part)
      × Judges (two seven (7 ∷ 1 ∷ (absent7 (own 10 0) ++ (1 ∷ 0 ∷ 7 ∷ [])))) Q (refused no_polarity 1)
  -- "its openness is that of the definition", whatever its polarity
  pub open_own_names :
      Judges (one 1 seven) (draw_all (own 10 1)) (verdict upper)
      × Judges (one 0 not_seven) (draw_all (own 10 0)) (refused open_draw query_part)
      × Judges (one 1 allowed) (draw_all (own 10 1)) (refused open_draw query_part)
      × Judges (one 0 released) (draw_all (own 10 0)) (verdict lower)
  -- "Code 8 with our key does the same for the list that it guards, openness too."
  pub own_vetteds :
      Judges (two_of 1 allowed 0 released) (own_vetted 11 0) (verdict lower)
      × Judges (two_of 1 allowed 0 released) (draw_all (own_vetted 11 0)) (verdict lower)
      × Judges (two_of 1 allowed 0 not_seven) (own_vetted 11 0) (verdict lower)
      × Judges (two_of 1 allowed 0 not_seven) (draw_all (own_vetted 11 0)) (refused open_draw query_part)
      × Judges (two_of 1 allowed 0 released) (own_vetted 11 1) (refused no_polarity query_part)
      × Judges (two_of 1 allowed 0 released) (own_vetted 10 0) (refused not_in_scope query_part)
      × Judges (two_of 1 allowed 0 (own_vetted 11 0)) Q (refused not_in_scope 1)
  -- "20, the number given as our key is not a key, before all others": from k0 on words are keys
  pub our_keys :
      JudgesUnder 0 [] [] (refused not_a_key no_part)
      × JudgesUnder 2147483647 P Q (refused not_a_key no_part)
      × JudgesUnder 2147483648 P Q (verdict lower)
      × JudgesUnder 4294967295 P Q (verdict lower)
  -- under k1 its lists are ours, and there is no such definition
  pub other_keys :
      JudgesUnder k1 P Q (refused not_in_scope 0)
      × JudgesUnder k1 (one 0 seven) released (refused not_in_scope query_part)
      × JudgesUnder k1 (one 0 seven) (4 ∷ 0 ∷ k1 ∷ 10 ∷ 0 ∷ []) (verdict lower)
  -- "5 has those common to its parts"
  pub of_unions :
      Judges no_definitions (5 ∷ (released ++ seven)) (verdict lower)
      × Judges no_definitions (5 ∷ (seven ++ allowed)) (verdict upper)
      × Judges no_definitions (5 ∷ (released ++ allowed)) (refused no_polarity query_part)
  -- "6 has those of its left that are opposite to some of its right"
  pub of_differences :
      Judges no_definitions (6 ∷ (released ++ allowed)) (verdict lower)
      × Judges no_definitions (6 ∷ (allowed ++ released)) (verdict upper)
      × Judges no_definitions (6 ∷ (seven ++ released)) (verdict upper)
      × Judges no_definitions (6 ∷ (released ++ (4 ∷ 0 ∷ k1 ∷ 2 ∷ 0 ∷ []))) (refused no_polarity query_part)
  -- "7 has those that every draw has and that are opposite to one of every absent guard"
  pub of_guards :
      Judges no_definitions (7 ∷ 1 ∷ (absent7 allowed ++ (1 ∷ 0 ∷ 7 ∷ []))) (verdict lower)
      × Judges no_definitions (7 ∷ 1 ∷ (absent7 released ++ (1 ∷ 0 ∷ 7 ∷ []))) (verdict upper)
      × Judges no_definitions (7 ∷ 2 ∷ (drawn 0 released ++ (absent7 released ++ (1 ∷ 1 ∷ 0 ∷ [])))) (refused no_polarity query_part)
      × Judges (one 0 (7 ∷ 2 ∷ (drawn 0 released ++ (absent7 released ++ (1 ∷ 1 ∷ 0 ∷ []))))) Q (refused no_polarity 0)
  -- "No other operand counts"
  pub not_of_comparisons :
      Judges no_definitions (7 ∷ 2 ∷ (drawn 0 seven ++ (2 ∷ 1 ∷ 0 ∷ 0 ∷ 7 ∷ 1 ∷ 1 ∷ 0 ∷ []))) (verdict exact)
      × Judges no_definitions (7 ∷ 2 ∷ (drawn 0 seven ++ (3 ∷ 1 ∷ 0 ∷ 0 ∷ 7 ∷ 1 ∷ 1 ∷ 0 ∷ []))) (verdict exact)
      × Judges no_definitions (7 ∷ 2 ∷ (drawn 0 released ++ (2 ∷ 1 ∷ 0 ∷ 0 ∷ 7 ∷ 1 ∷ 1 ∷ 0 ∷ []))) (verdict lower)
      × Judges no_definitions (7 ∷ 2 ∷ (absent7 released ++ (3 ∷ 0 ∷ 7 ∷ 0 ∷ 8 ∷ 1 ∷ 0 ∷ 7 ∷ []))) (verdict upper)
  -- 7: "2, a − name, 3 of an open definition, 5 with an open part, 6 with an open left"
  pub open_sets :
      Judges no_definitions (draw_all not_seven) (refused open_draw query_part)
      × Judges no_definitions (draw_all allowed) (refused open_draw query_part)
      × Judges (one 1 allowed) (draw_all Q) (refused open_draw query_part)
      × Judges (one 0 not_seven) (draw_all Q) (refused open_draw query_part)
      × Judges no_definitions (draw_all (5 ∷ (seven ++ not_seven))) (refused open_draw query_part)
      × Judges no_definitions (draw_all (5 ∷ (not_seven ++ seven))) (refused open_draw query_part)
      × Judges no_definitions (draw_all (6 ∷ (not_seven ++ not_seven))) (refused open_draw query_part)
  -- and nothing else is open
  pub closed_sets :
      Judges P (draw_all Q) (verdict lower)
      × Judges (one 1 seven) (draw_all Q) (verdict upper)
      × Judges no_definitions (draw_all (6 ∷ (seven ++ not_seven))) (verdict exact)
      × Judges no_definitions (draw_all (7 ∷ 1 ∷ (absent7 not_seven ++ (1 ∷ 0 ∷ 7 ∷ [])))) (verdict exact)
  -- draws are looked for at any depth
  pub any_depth :
      Judges no_definitions (5 ∷ (seven ++ draw_all not_seven)) (refused open_draw query_part)
      × Judges no_definitions (6 ∷ (seven ++ draw_all not_seven)) (refused open_draw query_part)
      × Judges no_definitions (draw_all (draw_all not_seven)) (refused open_draw query_part)
      × Judges no_definitions (7 ∷ 1 ∷ (absent7 (draw_all not_seven) ++ (1 ∷ 0 ∷ 7 ∷ []))) (refused open_draw query_part)
  -- "then 6, then 7"
  pub six_before_seven :
      Judges no_definitions (7 ∷ 2 ∷ (drawn 0 released ++ (drawn 1 allowed ++ (1 ∷ 1 ∷ 0 ∷ [])))) (refused no_polarity query_part)
      × Judges (one 0 (draw_all allowed)) Q (refused no_polarity 0)
      × Judges (one 1 (draw_all allowed)) Q (refused open_draw 0)
  -- "each definition, then the query"
  pub definitions_first :
      Judges (two (draw_all not_seven) (9 ∷ [])) [] (refused open_draw 0)
      × Judges (two seven (9 ∷ [])) [] (refused bad_word 1)
