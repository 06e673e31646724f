-- What is read from besides the words: the policy, in its format, our key, the store and the link store at a minute, and the sets of the definitions read before.
use Rattle.std.specs.Prelude.{ℕ, zero, suc, ◌*◌, ◌≤◌, ◌<◌, ◌≡◌, true, List, [], ◌∷◌, length, drop}
use Rattle.rows.specs.Sets.{RowSet}
use Rattle.rows.specs.Layout.{set_room, rows_in, formed, set_in}
use Rattle.certificates.specs.Store.{sound_store}
use Rattle.certificates.specs.Link.{sound_links}
use Rattle.certificates.specs.Stores.{Stores, held_in}
use Rattle.policy.specs.OwnKey.{Scope}
use Rattle.policy_table.specs.Entries.{entry_place, declared_in}
use Rattle.meaning.specs.Evidence.{Evidence, names_held}
use Rattle.read_values.specs.Answers.{Filled}
use Rattle.read_values.specs.declared.Lent.{Lent}

pub record From : Type 0 where
  pub minute : ℕ
  pub format : ℕ
  pub our_key : ℕ
  pub policy : List ℕ
  pub stores : Stores
  pub defs : List ℕ
  pub known : ℕ

-- as the readers carry it
abbrev pub from : Lent → From
from l = record {
  minute = l.minute;
  format = l.format;
  our_key = l.our_key;
  policy = l.policy.now;
  stores = record { store = l.store.now; links = l.links.now };
  defs = l.definitions.now;
  known = l.known;
}

-- the same, so many definitions being read, their sets in this area
abbrev pub with_sets : From → List ℕ → ℕ → From
with_sets f defs n = record { minute = f.minute; format = f.format; our_key = f.our_key; policy = f.policy; stores = f.stores; defs = defs; known = n }

-- the sets of the definitions read so far, in the definition area
unfoldable pub sets_in : ℕ → List ℕ → List RowSet
unfolding set_in rows_in formed
sets_in zero ws = []
sets_in (suc m) ws = set_in ws ∷ sets_in m (drop set_room ws)

-- those definitions are available
abbrev pub scope_in : From → Scope
scope_in f = record { our_key = f.our_key; available = declared_in f.policy f.known }

abbrev pub names : From → Evidence
names f = names_held (held_in f.minute f.stores)

abbrev pub sets : From → List RowSet
sets f = sets_in f.known f.defs

-- each of those sets lies there
abbrev pub FilledSets : ℕ → List ℕ → Type 0
FilledSets known defs = (d : ℕ) → d < known → Filled (drop (set_room * d) defs)

pub record SoundFrom (f : From) : Type 0 where
  pub store : sound_store f.stores.store ≡ true
  pub links : sound_links f.stores.links ≡ true
  pub table : entry_place f.known ≤ length f.policy
  pub defs : FilledSets f.known f.defs
