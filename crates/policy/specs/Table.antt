-- Document 01, "Policy words": the policy's table, with refusals 1 and 2; its format by document 02, N6.
use Rattle.std.specs.Prelude.{ℕ, zero, suc, ◌+◌, ◌*◌, Bool, true, false, not, ◌&&◌, ◌||◌, List, [], ◌∷◌, leb, eqb, length, get_or, take, drop}
use Rattle.refusals.specs.RefusalTable.{bad_header, bad_table}
use Rattle.rows.specs.Name.{is_name, is_polarity}
use Rattle.policy.specs.Format.{is_format, format_of}

-- "four words each: name, polarity, offset, length"
pub record Entry : Type 0 where
  pub name : ℕ
  pub polarity : ℕ
  pub offset : ℕ
  pub size : ℕ

unfoldable pub entry_at : List ℕ → ℕ → Entry
entry_at policy at = record { name = get_or policy at 0; polarity = get_or policy (at + 1) 0; offset = get_or policy (at + 2) 0; size = get_or policy (at + 3) 0 }

-- "Each definition's words are read as a part of the policy."
unfoldable pub entry_words : List ℕ → Entry → List ℕ
entry_words policy x = take x.size (drop x.offset policy)

pub data Table : Type 0 where
  table : List Entry → Table
  refused : ℕ → Table

unfoldable pub named : List Entry → Entry → Bool
named [] x = false
named (y ∷ ys) x = (eqb x.name y.name && eqb x.polarity y.polarity) || named ys x

-- an entry keeps its rules: its part begins where the one before ended, is not empty and does not run past the policy, and no earlier
-- entry has its name and polarity. (Sums are true sums: nothing wraps.)
unfoldable pub sound_entry : List ℕ → ℕ → List Entry → Entry → Bool
unfolding named
sound_entry policy due earlier x =
    is_name x.name && (is_polarity x.polarity && (eqb x.offset due && (leb 1 x.size && (leb (x.offset + x.size) (length policy) && not (named earlier x)))))

unfoldable pub push_entry : Entry → Table → Table
push_entry x (table xs) = table (x ∷ xs)
push_entry x (refused n) = refused n

-- n entries, the next of them at word `at`, the next part due at word `due`; "the last part ends the policy"
unfoldable pub entries : ℕ → List ℕ → ℕ → ℕ → List Entry → Table
unfolding entry_at sound_entry push_entry
entries zero policy at due earlier = elim (eqb due (length policy)) [ true ↦ table [] | false ↦ refused bad_table ]
entries (suc n) policy at due earlier =
    let x = entry_at policy at in
    elim (sound_entry policy due earlier x) [ true ↦ push_entry x (entries n policy (at + 4) (x.offset + x.size) (x ∷ earlier)) | false ↦ refused bad_table ]

-- Document 01: "Word 0 is 1 (the format), word 1 is n, the count of definitions, 0 to 16." "The first offset is 2 + 4n." "At most 8,192 words."
-- Document 02, N6: "Refusal 1 now lets formats 1 and 2 pass."
unfoldable pub sound_header : List ℕ → Bool
unfolding is_format
sound_header policy =
    leb 2 (length policy) && (leb (length policy) 8192 && (is_format (format_of policy) && (leb (get_or policy 1 0) 16 && leb (2 + 4 * get_or policy 1 0) (length policy))))

unfoldable pub read_table : List ℕ → Table
unfolding sound_header entries
read_table policy = elim (sound_header policy) [ true ↦ entries (get_or policy 1 0) policy 2 (2 + 4 * get_or policy 1 0) [] | false ↦ refused bad_header ]
