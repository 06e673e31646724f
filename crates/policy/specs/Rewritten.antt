-- External policies with what they are rewritten into, or the refusal: document 02's N2 by example, with the formats of N6 and
-- our own key of N7.
use Rattle.std.specs.Prelude.{ℕ, ◌+◌, ◌≡◌, List, [], ◌∷◌, ◌++◌, length, replicate}
use Rattle.refusals.specs.RefusalTable.{bad_header, bad_table, bad_word, not_in_scope, no_polarity, open_draw, short_area, not_external, not_a_key, no_part}
use Rattle.policy.specs.Format.{wider_rows}
use Rattle.policy.specs.Decoded.{again}
use Rattle.policy.specs.Judged.{k1, P, no_definitions, in_format, one, two, two_of, released, allowed, seven, not_seven, vetted, absent7, draw_all, literal}
use Rattle.policy.specs.External.{Rewriting, rewritten, refused, rewrite, rewrite_into, area_after}

-- our key, k9
abbrev pub k9 : ℕ
k9 = 2147483657

unfoldable pub Rewrites : List ℕ → Rewriting → Type 0
unfolding rewrite
Rewrites policy r = rewrite k9 policy ≡ r

-- the same words come out
abbrev pub Stays : List ℕ → Type 0
Stays policy = Rewrites policy (rewritten policy)

unfoldable pub RewritesInto : List ℕ → List ℕ → Rewriting → List ℕ → Type 0
unfolding rewrite_into area_after
RewritesInto policy area r after = (rewrite_into k9 policy area ≡ r) × (area_after r area ≡ after)

-- the key k2
abbrev pub k2 : ℕ
k2 = 2147483650

-- name 0 − and its expression, then name 10 with a polarity and its own
abbrev pub keys_then : List ℕ → ℕ → List ℕ → List ℕ
keys_then e p f = 1 ∷ 2 ∷ 0 ∷ 1 ∷ 10 ∷ length e ∷ 10 ∷ p ∷ (10 + length e) ∷ length f ∷ (e ++ f)

-- source document 000, section 6: "Compromised⁻ = K_Alice$Compromised⁻", Alice being k1
abbrev pub delegated : List ℕ
delegated = 4 ∷ 0 ∷ k1 ∷ 0 ∷ 1 ∷ []

-- and k2's name 1 +: 20 words
abbrev pub delegating : List ℕ
delegating = 1 ∷ 2 ∷ 0 ∷ 1 ∷ 10 ∷ 5 ∷ 10 ∷ 0 ∷ 15 ∷ 5 ∷ 4 ∷ 0 ∷ k1 ∷ 0 ∷ 1 ∷ 4 ∷ 0 ∷ k2 ∷ 1 ∷ 0 ∷ []

-- what it is rewritten into: 21 words
abbrev pub delegating_out : List ℕ
delegating_out = 1 ∷ 2 ∷ 0 ∷ 1 ∷ 10 ∷ 5 ∷ 10 ∷ 0 ∷ 15 ∷ 6 ∷ 4 ∷ 0 ∷ k1 ∷ 0 ∷ 1 ∷ 8 ∷ 0 ∷ k2 ∷ 1 ∷ 0 ∷ 0 ∷ []

-- a third definition after them, which has the rows of definition 1: 26 words
abbrev pub three : List ℕ
three = 1 ∷ 3 ∷ 0 ∷ 1 ∷ 14 ∷ 5 ∷ 10 ∷ 0 ∷ 19 ∷ 5 ∷ 11 ∷ 0 ∷ 24 ∷ 2 ∷ 4 ∷ 0 ∷ k1 ∷ 0 ∷ 1 ∷ 4 ∷ 0 ∷ k2 ∷ 1 ∷ 0 ∷ 3 ∷ 1 ∷ []

abbrev pub three_out : List ℕ
three_out = 1 ∷ 3 ∷ 0 ∷ 1 ∷ 14 ∷ 5 ∷ 10 ∷ 0 ∷ 19 ∷ 6 ∷ 11 ∷ 0 ∷ 25 ∷ 2 ∷ 4 ∷ 0 ∷ k1 ∷ 0 ∷ 1 ∷ 8 ∷ 0 ∷ k2 ∷ 1 ∷ 0 ∷ 0 ∷ 3 ∷ 1 ∷ []

-- the rows that the keys listed by k2's name 3 list by their name 5: the second issuer is a variable
abbrev pub by_variable : List ℕ
by_variable = 7 ∷ 2 ∷ 1 ∷ 4 ∷ 0 ∷ k2 ∷ 3 ∷ 0 ∷ 1 ∷ 2 ∷ 0 ∷ 1 ∷ 4 ∷ 1 ∷ 0 ∷ 5 ∷ 0 ∷ 1 ∷ 2 ∷ 1 ∷ 1 ∷ 1 ∷ 1 ∷ []

abbrev pub by_variable_out : List ℕ
by_variable_out = 7 ∷ 2 ∷ 1 ∷ 8 ∷ 0 ∷ k2 ∷ 3 ∷ 0 ∷ 0 ∷ 1 ∷ 2 ∷ 0 ∷ 1 ∷ 8 ∷ 1 ∷ 0 ∷ 5 ∷ 0 ∷ 0 ∷ 1 ∷ 2 ∷ 1 ∷ 1 ∷ 1 ∷ 1 ∷ []

-- a third definition that reads the one before it by our own name: 29 words; and what that is rewritten into
abbrev pub own_third : List ℕ
own_third = 1 ∷ 3 ∷ 0 ∷ 1 ∷ 14 ∷ 5 ∷ 10 ∷ 0 ∷ 19 ∷ 5 ∷ 11 ∷ 0 ∷ 24 ∷ 5 ∷ 4 ∷ 0 ∷ k1 ∷ 0 ∷ 1 ∷ 4 ∷ 0 ∷ k2 ∷ 1 ∷ 0 ∷ 4 ∷ 0 ∷ k9 ∷ 10 ∷ 0 ∷ []

abbrev pub own_third_out : List ℕ
own_third_out = 1 ∷ 3 ∷ 0 ∷ 1 ∷ 14 ∷ 5 ∷ 10 ∷ 0 ∷ 19 ∷ 6 ∷ 11 ∷ 0 ∷ 25 ∷ 6 ∷ 4 ∷ 0 ∷ k1 ∷ 0 ∷ 1 ∷ 8 ∷ 0 ∷ k2 ∷ 1 ∷ 0 ∷ 0 ∷ 8 ∷ 0 ∷ k9 ∷ 10 ∷ 0 ∷ 0 ∷ []

-- row 7 if it is absent from a set
abbrev pub seven_unless : List ℕ → List ℕ
seven_unless e = 7 ∷ 1 ∷ (absent7 e ++ (1 ∷ 0 ∷ 7 ∷ []))

-- name 0 −, seven literals of 1,024 words, and name 17, whose expression has so many words: 7,211 words and these
unfoldable pub nine : ℕ → List ℕ → List ℕ
unfolding again literal
nine size e =
    1 ∷ 9 ∷ 0 ∷ 1 ∷ 38 ∷ 5 ∷ 10 ∷ 0 ∷ 43 ∷ 1024 ∷ 11 ∷ 0 ∷ 1067 ∷ 1024 ∷ 12 ∷ 0 ∷ 2091 ∷ 1024 ∷ 13 ∷ 0 ∷ 3115 ∷ 1024 ∷ 14 ∷ 0 ∷ 4139 ∷ 1024 ∷ 15 ∷ 0 ∷ 5163 ∷ 1024
    ∷ 16 ∷ 0 ∷ 6187 ∷ 1024 ∷ 17 ∷ 0 ∷ 7211 ∷ size ∷ (delegated ++ again 7 (literal 65 63) e)

pub record AllHold : Type 0 where
  -- "Each code 4 in a later definition becomes code 8 with the same words and then a definition's number, here 0"; what follows moves on
  pub later :
      Rewrites delegating (rewritten delegating_out)
      × Rewrites three (rewritten three_out)
      × Rewrites (keys_then delegated 0 (5 ∷ 4 ∷ 0 ∷ k2 ∷ 1 ∷ 0 ∷ 4 ∷ 0 ∷ k1 ∷ 4 ∷ 0 ∷ [])) (rewritten (keys_then delegated 0 (5 ∷ 8 ∷ 0 ∷ k2 ∷ 1 ∷ 0 ∷ 0 ∷ 8 ∷ 0 ∷ k1 ∷ 4 ∷ 0 ∷ 0 ∷ [])))
      × Rewrites (keys_then delegated 0 by_variable) (rewritten (keys_then delegated 0 by_variable_out))
  -- N7: our own names too, of a definition that is available
  pub own_names :
      Rewrites own_third (rewritten own_third_out)
      × Rewrites (keys_then delegated 0 (4 ∷ 0 ∷ k9 ∷ 10 ∷ 0 ∷ [])) (refused not_in_scope 1)
      × Rewrites (keys_then delegated 0 (4 ∷ 0 ∷ k9 ∷ 0 ∷ 1 ∷ [])) (refused no_polarity 1)
      × Rewrites (keys_then (4 ∷ 0 ∷ k9 ∷ 0 ∷ 1 ∷ []) 0 released) (refused not_in_scope 0)
      × Stays (two released (4 ∷ 0 ∷ k9 ∷ 10 ∷ 0 ∷ []))
  -- "20 .. before all others"
  pub our_keys :
      (rewrite 0 [] ≡ refused not_a_key no_part)
      × (rewrite 2147483647 delegating ≡ refused not_a_key no_part)
      × (rewrite 2147483648 delegating ≡ rewritten delegating_out)
  -- all else stays: definition 0, literals (an atom 4 too), other definitions
  pub elsewhere :
      Stays (1 ∷ 1 ∷ 0 ∷ 1 ∷ 6 ∷ 5 ∷ delegated)
      × Stays (keys_then delegated 0 (1 ∷ 1 ∷ 1 ∷ 0 ∷ 4 ∷ []))
      × Stays (keys_then (1 ∷ 2 ∷ 1 ∷ 0 ∷ k1 ∷ 1 ∷ 0 ∷ k2 ∷ []) 0 (draw_all seven))
  -- "Without a definition of name 0 −, the output equals the input." Name 0 + is a name like others.
  pub without_keys :
      Stays no_definitions
      × Stays (one 0 released)
      × Stays (two by_variable (3 ∷ 0 ∷ []))
      × Stays (1 ∷ 2 ∷ 0 ∷ 0 ∷ 10 ∷ 5 ∷ 10 ∷ 0 ∷ 15 ∷ 5 ∷ 4 ∷ 0 ∷ k1 ∷ 0 ∷ 0 ∷ 4 ∷ 0 ∷ k2 ∷ 1 ∷ 0 ∷ [])
  -- a policy of format 2 stays one, with a definition of name 0 − or without; 3 is no format
  pub formats :
      Rewrites (in_format wider_rows delegating) (rewritten (in_format wider_rows delegating_out))
      × Rewrites (in_format wider_rows (keys_then delegated 0 by_variable)) (rewritten (in_format wider_rows (keys_then delegated 0 by_variable_out)))
      × RewritesInto (in_format wider_rows delegating) (replicate 21 9) (rewritten (in_format wider_rows delegating_out)) (in_format wider_rows delegating_out)
      × Stays (in_format wider_rows (1 ∷ 1 ∷ 0 ∷ 1 ∷ 6 ∷ 5 ∷ delegated))
      × Stays (in_format wider_rows no_definitions)
      × Stays (in_format wider_rows (two by_variable (3 ∷ 0 ∷ [])))
      × Rewrites (in_format wider_rows P) (refused not_external no_part)
      × Rewrites (in_format 3 delegating) (refused bad_header no_part)
      × Rewrites (in_format 3 no_definitions) (refused bad_header no_part)
  -- "definition 0 may be the negative name 0"; "every other one is +"
  pub minus_elsewhere :
      Rewrites (one 1 allowed) (refused not_external no_part)
      × Rewrites (one 1 seven) (refused not_external no_part)
      × Rewrites (two_of 0 released 1 allowed) (refused not_external no_part)
      × Rewrites (keys_then delegated 1 allowed) (refused not_external no_part)
      × Rewrites (keys_then delegated 1 seven) (refused not_external no_part)
      × Rewrites (1 ∷ 2 ∷ 10 ∷ 0 ∷ 10 ∷ 5 ∷ 0 ∷ 1 ∷ 15 ∷ 5 ∷ 4 ∷ 0 ∷ k2 ∷ 1 ∷ 0 ∷ 4 ∷ 0 ∷ k1 ∷ 0 ∷ 1 ∷ []) (refused not_external no_part)
  -- "Difference, absent guards and code 8 appear in none", with a definition of name 0 − or without, in it or later, at any depth
  pub differences :
      Rewrites (one 0 (6 ∷ (released ++ allowed))) (refused not_external no_part)
      × Rewrites (keys_then (6 ∷ (allowed ++ released)) 0 released) (refused not_external no_part)
      × Rewrites (keys_then delegated 0 (6 ∷ (seven ++ seven))) (refused not_external no_part)
      × Rewrites (keys_then delegated 0 (5 ∷ (seven ++ (6 ∷ (seven ++ seven))))) (refused not_external no_part)
      × Rewrites (keys_then delegated 0 (draw_all (6 ∷ (seven ++ seven)))) (refused not_external no_part)
  pub absent_guards :
      Rewrites P (refused not_external no_part)
      × Rewrites (keys_then (seven_unless released) 0 released) (refused not_external no_part)
      × Rewrites (keys_then delegated 0 (seven_unless seven)) (refused not_external no_part)
      × Rewrites (keys_then delegated 0 (draw_all (seven_unless seven))) (refused not_external no_part)
  pub codes8 :
      Rewrites (keys_then delegated 0 (vetted 0 0)) (refused not_external no_part)
      × Rewrites (keys_then delegated 0 (draw_all (vetted 0 0))) (refused not_external no_part)
      × Rewrites delegating_out (refused not_external no_part)
  -- "after 7", of any definition. That definition 0 "reads only − names" and every other one "only + names", 6 sees to.
  pub after_seven :
      Rewrites [] (refused bad_header no_part)
      × Rewrites (one 1 []) (refused bad_table no_part)
      × Rewrites (two_of 1 allowed 0 (9 ∷ [])) (refused bad_word 1)
      × Rewrites (two_of 1 allowed 0 allowed) (refused no_polarity 1)
      × Rewrites (two_of 1 allowed 0 (draw_all not_seven)) (refused open_draw 1)
      × Rewrites (keys_then released 0 released) (refused no_polarity 0)
      × Rewrites (keys_then delegated 0 allowed) (refused no_polarity 1)
      × Rewrites (keys_then delegated 0 (3 ∷ 0 ∷ [])) (refused no_polarity 1)
  -- "an output area too short gets 11 after that, and every refusal leaves the area unchanged. Words past the output stay"
  pub areas :
      RewritesInto delegating (replicate 23 9) (rewritten delegating_out) (delegating_out ++ (9 ∷ 9 ∷ []))
      × RewritesInto delegating (replicate 21 9) (rewritten delegating_out) delegating_out
      × RewritesInto delegating (replicate 20 9) (refused short_area no_part) (replicate 20 9)
      × RewritesInto no_definitions (9 ∷ 9 ∷ 9 ∷ []) (rewritten no_definitions) (1 ∷ 0 ∷ 9 ∷ [])
      × RewritesInto no_definitions (9 ∷ []) (refused short_area no_part) (9 ∷ [])
      × RewritesInto P [] (refused not_external no_part) []
      × RewritesInto (two_of 1 allowed 0 (draw_all not_seven)) [] (refused open_draw 1) []
  -- "15, .. the output would pass 8,192 words": a policy of 8,191 words and one of 8,192, each with one code 4 in a later definition
  pub long :
      Rewrites (nine 980 (5 ∷ 4 ∷ 0 ∷ k2 ∷ 1 ∷ 0 ∷ literal 0 108)) (rewritten (nine 981 (5 ∷ 8 ∷ 0 ∷ k2 ∷ 1 ∷ 0 ∷ 0 ∷ literal 0 108)))
      × Rewrites (nine 981 (5 ∷ 4 ∷ 0 ∷ k2 ∷ 1 ∷ 0 ∷ literal 4 105)) (refused not_external no_part)
