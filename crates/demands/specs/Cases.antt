-- Document 01, "Portal cases" a to l, and document 02's terms (N4), links (N5), formats (N6) and our own names (N7) by example, from the words filed and the words
-- of policy and query to the reply and the set. (P and Q are spelled out where they are judged, in `policy/specs/Judged.antt`.)
use Rattle.std.specs.Prelude.{ℕ, ◌≡◌, List, [], ◌∷◌, ◌++◌, replicate}
use Rattle.rows.specs.Word.{All}
use Rattle.rows.specs.Sets.{only, all_but}
use Rattle.certificates.specs.Stores.{AnyFiling, certificate, link, stores_at}
use Rattle.policy.specs.Polarity.{exact, lower, upper}
use Rattle.policy.specs.Format.{equal_widths, wider_rows}
use Rattle.policy.specs.Judged.{k1, P, Q, no_definitions, in_format, one, two, two_of, vetted, own, own_vetted, absent7, draw_all}
use Rattle.demands.specs.Query.{Outcome, answered, refused, lent, query_call}

-- "An empty store is a sound one with the count 0, whatever words follow."
unfoldable pub empty_store : List ℕ
empty_store = 0 ∷ replicate 16000 99

unfoldable pub empty_links : List ℕ
empty_links = 0 ∷ replicate 1280 98

pub record Case : Type 0 where
  pub filings : List AnyFiling
  pub our_key : ℕ
  pub minute : ℕ
  pub policy : List ℕ
  pub query : List ℕ
  pub outcome : Outcome

unfoldable pub Holds : Case → Type 0
unfolding empty_store empty_links
Holds c =
    query_call (stores_at (record { store = empty_store; links = empty_links }) c.filings)
    (lent c.policy c.query c.our_key c.minute (replicate 642 5) (replicate 10272 6) (replicate 16384 7))
    ≡ c.outcome

abbrev k2 : ℕ
k2 = 2147483650

abbrev k3 : ℕ
k3 = 2147483651

-- a key of ours that no case names
abbrev k9 : ℕ
k9 = 2147483657

-- k1, 1, +, row 7; k1, 2, −, row 7; k1, 1, +, row 8; document 02, N4: "read at minute 0, their certificates holding from 0 to 1"
abbrev b : AnyFiling
b = certificate (k1 ∷ 1 ∷ 0 ∷ 1 ∷ 7 ∷ 0 ∷ 0 ∷ 0 ∷ 0 ∷ 1 ∷ [])

abbrev c : AnyFiling
c = certificate (k1 ∷ 2 ∷ 1 ∷ 1 ∷ 7 ∷ 0 ∷ 0 ∷ 0 ∷ 0 ∷ 1 ∷ [])

abbrev d : AnyFiling
d = certificate (k1 ∷ 1 ∷ 0 ∷ 1 ∷ 8 ∷ 0 ∷ 0 ∷ 0 ∷ 0 ∷ 1 ∷ [])

-- document 02, N7: "Cases a to l are given k2."
unfoldable pub cases : List Case
cases =
    record { filings = []; our_key = k2; minute = 0; policy = P; query = Q; outcome = answered lower 0 (only []) }  -- a
    ∷ record { filings = b ∷ []; our_key = k2; minute = 0; policy = P; query = Q; outcome = answered lower 1 (only []) }  -- b
    ∷ record { filings = b ∷ c ∷ []; our_key = k2; minute = 0; policy = P; query = Q; outcome = answered lower 1 (only ((7 ∷ []) ∷ [])) }  -- c
    ∷ record { filings = b ∷ c ∷ d ∷ []; our_key = k2; minute = 0; policy = P; query = Q; outcome = answered lower 2 (only ((7 ∷ []) ∷ [])) }  -- d
    ∷ record { filings = b ∷ c ∷ d ∷ []; our_key = k2; minute = 0; policy = P; query = 4 ∷ 0 ∷ k1 ∷ 2 ∷ 1 ∷ []; outcome = answered upper 2 (all_but ((7 ∷ []) ∷ [])) }  -- e
    ∷ record { filings = []; our_key = k2; minute = 0; policy = no_definitions; query = 6 ∷ 4 ∷ 0 ∷ k1 ∷ 1 ∷ 0 ∷ 4 ∷ 0 ∷ k1 ∷ 1 ∷ 0 ∷ []; outcome = refused 6 16 }  -- f
    ∷ record { filings = []; our_key = k2; minute = 0; policy = no_definitions; query = 7 ∷ 1 ∷ 1 ∷ 4 ∷ 0 ∷ k1 ∷ 2 ∷ 1 ∷ 1 ∷ 2 ∷ 0 ∷ 1 ∷ 1 ∷ 0 ∷ []; outcome = refused 7 16 }  -- g
    ∷ record { filings = []; our_key = k2; minute = 0; policy = no_definitions; query = 6 ∷ 2 ∷ 1 ∷ 1 ∷ 0 ∷ 7 ∷ 2 ∷ 2 ∷ 1 ∷ 0 ∷ 7 ∷ 1 ∷ 0 ∷ 8 ∷ []; outcome = answered exact 0 (only ((8 ∷ []) ∷ [])) }  -- h
    ∷ record { filings = []; our_key = k2; minute = 0; policy = no_definitions; query = 5 ∷ 2 ∷ 2 ∷ 1 ∷ 0 ∷ 7 ∷ 1 ∷ 0 ∷ 8 ∷ 1 ∷ 1 ∷ 1 ∷ 0 ∷ 8 ∷ []; outcome = answered exact 0 (all_but ((7 ∷ []) ∷ [])) }  -- i
    ∷ record { filings = []; our_key = k2; minute = 0; policy = no_definitions; query = 1 ∷ 0 ∷ []; outcome = answered exact 0 (only []) }  -- j
    ∷ record { filings = []; our_key = k2; minute = 0; policy = no_definitions; query = 7 ∷ 0 ∷ 1 ∷ 0 ∷ 7 ∷ []; outcome = answered exact 0 (only ((7 ∷ []) ∷ [])) }  -- k
    ∷ record { filings = []; our_key = k2; minute = 0; policy = no_definitions; query = 7 ∷ 2 ∷ 1 ∷ 1 ∷ 1 ∷ 1 ∷ 0 ∷ 5 ∷ 1 ∷ 2 ∷ 0 ∷ 1 ∷ 4 ∷ 1 ∷ 0 ∷ 1 ∷ 0 ∷ 1 ∷ 2 ∷ 1 ∷ 1 ∷ 1 ∷ 1 ∷ []; outcome = answered lower 1 (only []) }  -- l
    ∷ []

-- Document 02, N4: "it holds from the first up to, but without, the end". Row 7 from minute 10 to 20, in k1's list 1 + and not in its list 2 −; and in list 1 +
-- again from 15 to 25.
abbrev released : AnyFiling
released = certificate (k1 ∷ 1 ∷ 0 ∷ 1 ∷ 7 ∷ 0 ∷ 0 ∷ 0 ∷ 10 ∷ 20 ∷ [])

abbrev not_withdrawn : AnyFiling
not_withdrawn = certificate (k1 ∷ 2 ∷ 1 ∷ 1 ∷ 7 ∷ 0 ∷ 0 ∷ 0 ∷ 10 ∷ 20 ∷ [])

abbrev released_again : AnyFiling
released_again = certificate (k1 ∷ 1 ∷ 0 ∷ 1 ∷ 7 ∷ 0 ∷ 0 ∷ 0 ∷ 15 ∷ 25 ∷ [])

unfoldable pub terms : List Case
terms =
    record { filings = released ∷ not_withdrawn ∷ []; our_key = k2; minute = 9; policy = P; query = Q; outcome = answered lower 0 (only []) }  -- not yet
    ∷ record { filings = released ∷ not_withdrawn ∷ []; our_key = k2; minute = 10; policy = P; query = Q; outcome = answered lower 1 (only ((7 ∷ []) ∷ [])) }  -- it holds
    ∷ record { filings = released ∷ not_withdrawn ∷ []; our_key = k2; minute = 19; policy = P; query = Q; outcome = answered lower 1 (only ((7 ∷ []) ∷ [])) }
    ∷ record { filings = released ∷ not_withdrawn ∷ []; our_key = k2; minute = 20; policy = P; query = Q; outcome = answered lower 0 (only []) }  -- at its end
    ∷ record { filings = not_withdrawn ∷ []; our_key = k2; minute = 19; policy = no_definitions; query = 4 ∷ 0 ∷ k1 ∷ 2 ∷ 1 ∷ []; outcome = answered upper 0 (all_but ((7 ∷ []) ∷ [])) }
    ∷ record { filings = not_withdrawn ∷ []; our_key = k2; minute = 20; policy = no_definitions; query = 4 ∷ 0 ∷ k1 ∷ 2 ∷ 1 ∷ []; outcome = answered upper 0 (all_but []) }
    ∷ record { filings = released ∷ released_again ∷ not_withdrawn ∷ []; our_key = k2; minute = 15; policy = P; query = Q; outcome = answered lower 1 (only ((7 ∷ []) ∷ [])) }  -- both hold: one row, one draw
    ∷ record { filings = released ∷ released_again ∷ []; our_key = k2; minute = 24; policy = no_definitions; query = 4 ∷ 0 ∷ k1 ∷ 1 ∷ 0 ∷ []; outcome = answered lower 0 (only ((7 ∷ []) ∷ [])) }
    ∷ []

-- Document 02, N5: "The value read for a name joins the certified rows of every name that links reach from it, itself included."

-- row x is in the key's list n +; it is not in the key's list n −
abbrev is_in : ℕ → ℕ → ℕ → AnyFiling
is_in key n x = certificate (key ∷ n ∷ 0 ∷ 1 ∷ x ∷ 0 ∷ 0 ∷ 0 ∷ 0 ∷ 1 ∷ [])

abbrev is_not_in : ℕ → ℕ → ℕ → AnyFiling
is_not_in key n x = certificate (key ∷ n ∷ 1 ∷ 1 ∷ x ∷ 0 ∷ 0 ∷ 0 ∷ 0 ∷ 1 ∷ [])

-- "A + link says that the first list contains the second, a − link that it is contained in it."
abbrev contains : ℕ → ℕ → ℕ → ℕ → AnyFiling
contains key n other m = link (key ∷ n ∷ 0 ∷ other ∷ m ∷ [])

abbrev contained_in : ℕ → ℕ → ℕ → ℕ → AnyFiling
contained_in key n other m = link (key ∷ n ∷ 1 ∷ other ∷ m ∷ [])

-- asked at minute 0, with no definitions: a query, here mostly a key's list n, + or −
abbrev asked : List AnyFiling → List ℕ → Outcome → Case
asked filings query outcome = record { filings = filings; our_key = k9; minute = 0; policy = no_definitions; query = query; outcome = outcome }

abbrev plus_list : ℕ → ℕ → List ℕ
plus_list key n = 4 ∷ 0 ∷ key ∷ n ∷ 0 ∷ []

abbrev minus_list : ℕ → ℕ → List ℕ
minus_list key n = 4 ∷ 0 ∷ key ∷ n ∷ 1 ∷ []

-- k1's list 1 contains k2's, which contains k3's, each with a row of its own
abbrev chain : List AnyFiling
chain = contains k1 1 k2 1 ∷ contains k2 1 k3 1 ∷ is_in k1 1 7 ∷ is_in k2 1 8 ∷ is_in k3 1 9 ∷ []

-- from k1's list 1 two ways lead to k3's
abbrev two_ways : List AnyFiling
two_ways = contains k1 1 k2 1 ∷ contains k1 1 k2 2 ∷ contains k2 1 k3 1 ∷ contains k2 2 k3 1 ∷ is_in k3 1 7 ∷ []

-- k1's list 2 − is contained in k2's
abbrev still_less : List AnyFiling
still_less = contained_in k1 2 k2 2 ∷ is_not_in k2 2 7 ∷ is_not_in k1 2 8 ∷ []

-- what P reads of k1, certified of k2's lists 5 + and 6 − alone: 7 and 8 released, 7 not withdrawn
abbrev elsewhere : List AnyFiling
elsewhere = contains k1 1 k2 5 ∷ is_in k2 5 7 ∷ is_in k2 5 8 ∷ is_not_in k2 6 7 ∷ []

-- k1's list 1 contains k2's; filed with that: a link of four words, one of six, and one with a number as its other key
abbrev malformed : List AnyFiling
malformed = link (k1 ∷ 1 ∷ 0 ∷ k2 ∷ []) ∷ link (k1 ∷ 1 ∷ 0 ∷ k2 ∷ 2 ∷ 0 ∷ []) ∷ contains k1 1 5 1 ∷ contains k1 1 k2 1 ∷ is_in k2 0 7 ∷ is_in k2 1 8 ∷ is_in k2 2 9 ∷ []

-- k1's list 1 + contains k2's, and row 7 is in that from minute 10 to 20
abbrev for_a_term : List AnyFiling
for_a_term = contains k1 1 k2 1 ∷ certificate (k2 ∷ 1 ∷ 0 ∷ 1 ∷ 7 ∷ 0 ∷ 0 ∷ 0 ∷ 10 ∷ 20 ∷ []) ∷ []

unfoldable pub links : List Case
links =
    asked chain (plus_list k1 1) (answered lower 0 (only ((7 ∷ []) ∷ (8 ∷ []) ∷ (9 ∷ []) ∷ [])))  -- along both links
    ∷ asked chain (plus_list k2 1) (answered lower 0 (only ((8 ∷ []) ∷ (9 ∷ []) ∷ [])))  -- never back
    ∷ asked chain (plus_list k3 1) (answered lower 0 (only ((9 ∷ []) ∷ [])))
    ∷ asked (contains k3 1 k1 1 ∷ chain) (plus_list k3 1) (answered lower 0 (only ((7 ∷ []) ∷ (8 ∷ []) ∷ (9 ∷ []) ∷ [])))  -- a circle of three
    ∷ asked (contains k1 1 k1 1 ∷ is_in k1 1 7 ∷ []) (plus_list k1 1) (answered lower 0 (only ((7 ∷ []) ∷ [])))  -- a link to itself
    ∷ asked two_ways (7 ∷ 1 ∷ 1 ∷ 4 ∷ 0 ∷ k1 ∷ 1 ∷ 0 ∷ 1 ∷ 2 ∷ 0 ∷ 1 ∷ 1 ∷ 0 ∷ []) (answered lower 1 (only ((7 ∷ []) ∷ [])))  -- one row, one draw
    ∷ asked still_less (minus_list k1 2) (answered upper 0 (all_but ((7 ∷ []) ∷ (8 ∷ []) ∷ [])))  -- what the other lacks, it lacks
    ∷ asked still_less (minus_list k2 2) (answered upper 0 (all_but ((7 ∷ []) ∷ [])))
    ∷ asked (contains k1 2 k2 2 ∷ is_not_in k2 2 7 ∷ []) (minus_list k1 2) (answered upper 0 (all_but []))  -- "The same number under both polarities is two names."
    ∷ asked (contained_in k1 1 k2 1 ∷ is_in k2 1 7 ∷ []) (plus_list k1 1) (answered lower 0 (only []))
    -- P draws 7 and 8 through the + link; through a − link it finds 7 absent
    ∷ record { filings = elsewhere; our_key = k9; minute = 0; policy = P; query = Q; outcome = answered lower 2 (only []) }
    ∷ record { filings = contained_in k1 2 k2 6 ∷ elsewhere; our_key = k9; minute = 0; policy = P; query = Q; outcome = answered lower 2 (only ((7 ∷ []) ∷ [])) }
    ∷ asked (contains k1 1 k2 1 ∷ is_in k2 1 7 ∷ contains k1 1 k2 1 ∷ []) (plus_list k1 1) (answered lower 0 (only ((7 ∷ []) ∷ [])))  -- filed twice
    ∷ asked malformed (plus_list k1 1) (answered lower 0 (only ((8 ∷ []) ∷ [])))  -- 18 changes nothing
    ∷ asked (link (k1 ∷ 2 ∷ 2 ∷ k2 ∷ 2 ∷ []) ∷ is_not_in k2 2 7 ∷ []) (minus_list k1 2) (answered upper 0 (all_but []))  -- polarity 2 is none
    -- the certificate's term counts; "Links have no term of validity."
    ∷ record { filings = for_a_term; our_key = k9; minute = 19; policy = no_definitions; query = plus_list k1 1; outcome = answered lower 0 (only ((7 ∷ []) ∷ [])) }
    ∷ record { filings = for_a_term; our_key = k9; minute = 20; policy = no_definitions; query = plus_list k1 1; outcome = answered lower 0 (only []) }
    -- l with k1 for 5: a variable issuer's list is read through links too
    ∷ asked (contains k1 1 k2 1 ∷ is_in k2 1 7 ∷ []) (7 ∷ 2 ∷ 1 ∷ 1 ∷ 1 ∷ 1 ∷ 0 ∷ k1 ∷ 1 ∷ 2 ∷ 0 ∷ 1 ∷ 4 ∷ 1 ∷ 0 ∷ 1 ∷ 0 ∷ 1 ∷ 2 ∷ 1 ∷ 1 ∷ 1 ∷ 1 ∷ [])
    (answered lower 2 (only ((7 ∷ []) ∷ [])))
    ∷ []

-- Document 02, N6: "Observatories now append an epoch to their rows. In a policy of format 2 a pattern of width w matches every row of at least w atoms by its
-- first w. Format 1 keeps equal widths. The query follows its policy's format."

-- asked at a minute under a policy, first in format 1, then in format 2
abbrev in_both : List AnyFiling → ℕ → List ℕ → List ℕ → Outcome → Outcome → List Case
in_both filings minute policy query equal wider =
    record { filings = filings; our_key = k9; minute = minute; policy = in_format equal_widths policy; query = query; outcome = equal }
    ∷ record { filings = filings; our_key = k9; minute = minute; policy = in_format wider_rows policy; query = query; outcome = wider }
    ∷ []

-- row (x, y) is in the key's list n +; it is not in the key's list n −
abbrev pair_in : ℕ → ℕ → ℕ → ℕ → AnyFiling
pair_in key n x y = certificate (key ∷ n ∷ 0 ∷ 2 ∷ x ∷ y ∷ 0 ∷ 0 ∷ 0 ∷ 1 ∷ [])

abbrev pair_not_in : ℕ → ℕ → ℕ → ℕ → AnyFiling
pair_not_in key n x y = certificate (key ∷ n ∷ 1 ∷ 2 ∷ x ∷ y ∷ 0 ∷ 0 ∷ 0 ∷ 1 ∷ [])

abbrev three_in : ℕ → ℕ → ℕ → ℕ → ℕ → AnyFiling
three_in key n x y z = certificate (key ∷ n ∷ 0 ∷ 3 ∷ x ∷ y ∷ z ∷ 0 ∷ 0 ∷ 1 ∷ [])

-- k1's list 1 + has (6, 1, 2, 3), (7), (8, 100) and (9, 100, 200)
abbrev widths : List AnyFiling
widths = certificate (k1 ∷ 1 ∷ 0 ∷ 4 ∷ 6 ∷ 1 ∷ 2 ∷ 3 ∷ 0 ∷ 1 ∷ []) ∷ is_in k1 1 7 ∷ pair_in k1 1 8 100 ∷ three_in k1 1 9 100 200 ∷ []

-- it has (5, 5, 100), (5, 6, 5), (6, 6) and (6, 7, 7)
abbrev twice : List AnyFiling
twice = three_in k1 1 5 5 100 ∷ three_in k1 1 5 6 5 ∷ pair_in k1 1 6 6 ∷ three_in k1 1 6 7 7 ∷ []

-- one draw by a pattern, and a head
abbrev drawn_by : List ℕ → List ℕ → List ℕ → List ℕ
drawn_by e pattern head = 7 ∷ 1 ∷ 1 ∷ (e ++ (pattern ++ head))

-- x and y are variables 0 and 1: the head (x), the pattern (x, y) that brings them, the head (x, y)
abbrev head_x : List ℕ
head_x = 1 ∷ 1 ∷ 0 ∷ []

abbrev slots_xy : List ℕ
slots_xy = 2 ∷ 2 ∷ 0 ∷ 2 ∷ 1 ∷ []

abbrev head_xy : List ℕ
head_xy = 2 ∷ 1 ∷ 0 ∷ 1 ∷ 1 ∷ []

-- k1's list 1 + contains k2's, and row (7, 100) is in that from minute 10 to 20
abbrev wider_for_a_term : List AnyFiling
wider_for_a_term = contains k1 1 k2 1 ∷ certificate (k2 ∷ 1 ∷ 0 ∷ 2 ∷ 7 ∷ 100 ∷ 0 ∷ 0 ∷ 10 ∷ 20 ∷ []) ∷ []

unfoldable pub formats : List Case
formats =
    -- x from every width; each row is a draw, in either format
    in_both widths 0 no_definitions (draw_all (plus_list k1 1)) (answered lower 4 (only ((7 ∷ []) ∷ []))) (answered lower 4 (only ((6 ∷ []) ∷ (7 ∷ []) ∷ (8 ∷ []) ∷ (9 ∷ []) ∷ [])))
    -- (x, y): (7) is too narrow
    ++ in_both widths 0 no_definitions (drawn_by (plus_list k1 1) slots_xy head_xy) (answered lower 4 (only ((8 ∷ 100 ∷ []) ∷ [])))
    (answered lower 4 (only ((6 ∷ 1 ∷ []) ∷ (8 ∷ 100 ∷ []) ∷ (9 ∷ 100 ∷ []) ∷ [])))
    -- (100, x): the last two of (9, 100, 200) do not count
    ++ in_both widths 0 no_definitions (drawn_by (plus_list k1 1) (2 ∷ 0 ∷ 100 ∷ 2 ∷ 0 ∷ []) head_x) (answered lower 4 (only [])) (answered lower 4 (only []))
    -- (x, x), "a variable from earlier in the pattern": nor does the third of (5, 6, 5)
    ++ in_both twice 0 no_definitions (drawn_by (plus_list k1 1) (2 ∷ 2 ∷ 0 ∷ 1 ∷ 0 ∷ []) head_x) (answered lower 4 (only ((6 ∷ []) ∷ []))) (answered lower 4 (only ((5 ∷ []) ∷ (6 ∷ []) ∷ [])))
    -- x from list 1, then the same x from list 3, whatever its epoch there; in format 1 the second draw is not reached
    ++ in_both (pair_in k1 1 7 100 ∷ pair_in k1 3 7 200 ∷ pair_in k1 3 8 200 ∷ []) 0 no_definitions (7 ∷ 2 ∷ 1 ∷ 4 ∷ 0 ∷ k1 ∷ 1 ∷ 0 ∷ 1 ∷ 2 ∷ 0 ∷ 1 ∷ 4 ∷ 0 ∷ k1 ∷ 3 ∷ 0 ∷ 1 ∷ 1 ∷ 0 ∷ head_x)
    (answered lower 1 (only [])) (answered lower 3 (only ((7 ∷ []) ∷ [])))
    -- exact: x from {(5), (6, 100)}
    ++ in_both [] 0 no_definitions (draw_all (1 ∷ 2 ∷ 1 ∷ 0 ∷ 5 ∷ 2 ∷ 0 ∷ 6 ∷ 0 ∷ 100 ∷ [])) (answered exact 2 (only ((5 ∷ []) ∷ []))) (answered exact 2 (only ((5 ∷ []) ∷ (6 ∷ []) ∷ [])))
    -- upper: x from {(5, 100), (6, 100)}, absent from list 1 +, which has (5) and (6, 100): an absent guard's row is a whole row, in either format
    ++ in_both (is_in k1 1 5 ∷ pair_in k1 1 6 100 ∷ []) 0 no_definitions
    (7 ∷ 2 ∷ 1 ∷ 1 ∷ 2 ∷ 2 ∷ 0 ∷ 5 ∷ 0 ∷ 100 ∷ 2 ∷ 0 ∷ 6 ∷ 0 ∷ 100 ∷ 1 ∷ 2 ∷ 0 ∷ 4 ∷ 1 ∷ 1 ∷ 0 ∷ 4 ∷ 0 ∷ k1 ∷ 1 ∷ 0 ∷ head_x)
    (answered upper 2 (only [])) (answered upper 2 (only ((6 ∷ []) ∷ [])))
    -- P, (7, 100) being released: 7 is passed where (7) is certified as not withdrawn,
    ++ in_both (pair_in k1 1 7 100 ∷ is_not_in k1 2 7 ∷ []) 0 P Q (answered lower 1 (only [])) (answered lower 1 (only ((7 ∷ []) ∷ [])))
    -- and not where (7, 100) alone is
    ++ in_both (pair_in k1 1 7 100 ∷ pair_not_in k1 2 7 100 ∷ []) 0 P Q (answered lower 1 (only [])) (answered lower 1 (only []))
    -- definition 0 has the pairs (x, y) of list 1, the query draws x from it: both in the policy's format
    ++ in_both widths 0 (one 0 (drawn_by (plus_list k1 1) slots_xy head_xy)) (draw_all (3 ∷ 0 ∷ [])) (answered lower 5 (only [])) (answered lower 7 (only ((6 ∷ []) ∷ (8 ∷ []) ∷ (9 ∷ []) ∷ [])))
    -- code 8 with a definition that has (k1, 5) alone, not the one-atom row of the issuer: the list is read
    ++ in_both (is_in k1 1 7 ∷ []) 0 (one 1 (1 ∷ 1 ∷ 2 ∷ 0 ∷ k1 ∷ 0 ∷ 5 ∷ [])) (vetted 0 0) (answered lower 0 (only ((7 ∷ []) ∷ []))) (answered lower 0 (only ((7 ∷ []) ∷ [])))
    -- a wider row through a link, while its certificate holds and after
    ++ in_both wider_for_a_term 19 no_definitions (draw_all (plus_list k1 1)) (answered lower 1 (only [])) (answered lower 1 (only ((7 ∷ []) ∷ [])))
    ++ in_both wider_for_a_term 20 no_definitions (draw_all (plus_list k1 1)) (answered lower 0 (only [])) (answered lower 0 (only []))
    -- "Refusal 1 now lets formats 1 and 2 pass", and no others
    ++ (record { filings = []; our_key = k9; minute = 0; policy = in_format 0 no_definitions; query = 1 ∷ 0 ∷ []; outcome = refused 1 17 }
    ∷ record { filings = []; our_key = k9; minute = 0; policy = in_format 3 no_definitions; query = 1 ∷ 0 ∷ []; outcome = refused 1 17 }
    ∷ [])

-- Document 02, N7: "Code 4 with that key as a fixed issuer reads the definition of that name and polarity". Our key is k2; names 10 and 11 are defined.

abbrev ours : List AnyFiling → ℕ → List ℕ → List ℕ → Outcome → Case
ours filings minute policy query outcome = record { filings = filings; our_key = k2; minute = minute; policy = policy; query = query; outcome = outcome }

-- row 7 of a set that it is absent from
abbrev seven_unless : List ℕ → List ℕ
seven_unless e = 7 ∷ 1 ∷ (absent7 e ++ (1 ∷ 0 ∷ 7 ∷ []))

-- name 10 −, which lists one key, and name 11 +, k1's list 1: as an external policy has compromised keys
abbrev with_compromised : ℕ → List ℕ
with_compromised key = two_of 1 (1 ∷ 1 ∷ 1 ∷ 0 ∷ key ∷ []) 0 (plus_list k1 1)

unfoldable pub our_names : List Case
our_names =
    -- our released list is its definition, k1's list 1; a second definition draws from it, two draws, and the query reads that
    ours (b ∷ d ∷ []) 0 (two (plus_list k1 1) (draw_all (own 10 0))) (own 11 0) (answered lower 2 (only ((7 ∷ []) ∷ (8 ∷ []) ∷ [])))
    -- what is certified under our key is not read, nor what a link of our key's list reaches
    ∷ ours (is_in k2 10 9 ∷ b ∷ []) 0 (one 0 (plus_list k1 1)) (own 10 0) (answered lower 0 (only ((7 ∷ []) ∷ [])))
    ∷ ours (contains k2 10 k1 3 ∷ is_in k1 3 9 ∷ b ∷ []) 0 (one 0 (plus_list k1 1)) (own 10 0) (answered lower 0 (only ((7 ∷ []) ∷ [])))
    -- "A variable that happens to hold our key still reads certificates": of name 10, and of one that is not defined
    ∷ ours (is_in k2 10 9 ∷ b ∷ []) 0 (one 0 (plus_list k1 1)) (7 ∷ 2 ∷ 1 ∷ 1 ∷ 1 ∷ 1 ∷ 0 ∷ k2 ∷ 1 ∷ 2 ∷ 0 ∷ 1 ∷ 4 ∷ 1 ∷ 0 ∷ 10 ∷ 0 ∷ 1 ∷ 2 ∷ 1 ∷ 1 ∷ 1 ∷ 1 ∷ []) (answered lower 2 (only ((9 ∷ []) ∷ [])))
    ∷ ours (is_in k2 12 9 ∷ []) 0 no_definitions (7 ∷ 2 ∷ 1 ∷ 1 ∷ 1 ∷ 1 ∷ 0 ∷ k2 ∷ 1 ∷ 2 ∷ 0 ∷ 1 ∷ 4 ∷ 1 ∷ 0 ∷ 12 ∷ 0 ∷ 1 ∷ 2 ∷ 1 ∷ 1 ∷ 1 ∷ 1 ∷ []) (answered lower 2 (only ((9 ∷ []) ∷ [])))
    -- "which only variables and links can reach": k3's list 1 contains ours
    ∷ ours (contains k3 1 k2 10 ∷ is_in k2 10 9 ∷ b ∷ []) 0 (one 0 (plus_list k1 1)) (plus_list k3 1) (answered lower 0 (only ((9 ∷ []) ∷ [])))
    -- a − name: upper; of a definition that is not open it is drawn from
    ∷ ours (c ∷ []) 0 (one 1 (minus_list k1 2)) (own 10 1) (answered upper 0 (all_but ((7 ∷ []) ∷ [])))
    ∷ ours [] 0 (one 1 (1 ∷ 1 ∷ 1 ∷ 0 ∷ 7 ∷ [])) (draw_all (own 10 1)) (answered upper 1 (only ((7 ∷ []) ∷ [])))
    ∷ ours [] 0 (one 0 (2 ∷ 1 ∷ 1 ∷ 0 ∷ 7 ∷ [])) (draw_all (own 10 0)) (refused 7 16)
    -- absent from our own name
    ∷ ours (b ∷ []) 0 (one 0 (plus_list k1 1)) (seven_unless (own 10 0)) (answered upper 0 (only []))
    ∷ ours (d ∷ []) 0 (one 0 (plus_list k1 1)) (seven_unless (own 10 0)) (answered upper 0 (only ((7 ∷ []) ∷ [])))
    -- "If none is available there, it is refused with 4": the other polarity, in the query and in a definition; itself; a later one
    ∷ ours (b ∷ []) 0 (one 0 (plus_list k1 1)) (own 10 1) (refused 4 16)
    ∷ ours (b ∷ []) 0 (two (plus_list k1 1) (own 10 1)) (own 11 0) (refused 4 1)
    ∷ ours (b ∷ []) 0 (one 0 (own 10 0)) (own 10 0) (refused 4 0)
    ∷ ours (b ∷ []) 0 (two (own 11 0) (plus_list k1 1)) (own 10 0) (refused 4 0)
    -- "Code 8 with our key does the same for the list that it guards": no rows where our key is compromised
    ∷ ours (b ∷ is_in k2 11 9 ∷ []) 0 (with_compromised k3) (own_vetted 11 0) (answered lower 0 (only ((7 ∷ []) ∷ [])))
    ∷ ours (b ∷ is_in k2 11 9 ∷ []) 0 (with_compromised k2) (own_vetted 11 0) (answered lower 0 (only []))
    -- a definition has what holds at the minute
    ∷ ours (released ∷ []) 19 (one 0 (plus_list k1 1)) (own 10 0) (answered lower 0 (only ((7 ∷ []) ∷ [])))
    ∷ ours (released ∷ []) 20 (one 0 (plus_list k1 1)) (own 10 0) (answered lower 0 (only []))
    -- "20, the number given as our key is not a key, before all others"
    ∷ record { filings = []; our_key = 2147483647; minute = 0; policy = []; query = []; outcome = refused 20 17 }
    ∷ record { filings = b ∷ c ∷ []; our_key = 5; minute = 0; policy = P; query = Q; outcome = refused 20 17 }
    -- with k3 as our key, k2's names are read from certificates
    ∷ record { filings = is_in k2 10 9 ∷ b ∷ []; our_key = k3; minute = 0; policy = one 0 (plus_list k1 1); query = own 10 0; outcome = answered lower 0 (only ((9 ∷ []) ∷ [])) }
    ∷ []

abbrev pub AllHold : Type 0
AllHold = All Holds cases

abbrev pub TermsHold : Type 0
TermsHold = All Holds terms

abbrev pub LinksHold : Type 0
LinksHold = All Holds links

abbrev pub FormatsHold : Type 0
FormatsHold = All Holds formats

abbrev pub OurNamesHold : Type 0
OurNamesHold = All Holds our_names
