-- What records say at a minute is what those of them say that hold then.
use Prim.Native.Nat.{ℕ}
use mathlib.Core.Path.{◌≡◌}
use mathlib.Core.Logic.{◌↔◌}
use mathlib.Core.List.{List}
use lib.Dec.{T}
use Rattle.rows.specs.Ordered.{◌∈◌, keep}
use Rattle.rows.proofs.Case.{◌then◌}
use Rattle.rows.proofs.Lists.{map-∈}
use Rattle.rows.proofs.Ordered.{keep-∈}
use Rattle.certificates.specs.Certificate.{Certificate, certificate_of, holds_at, said_at}

-- one of the records holds then and says this
abbrev pub SaidBy : ℕ → List (List ℕ) → Certificate → Type 0
SaidBy minute ws c = (w : List ℕ) × (w ∈ ws) × T (holds_at minute w) × (c ≡ certificate_of w)

pub said_iff : (minute : ℕ) (ws : List (List ℕ)) (c : Certificate) → (c ∈ said_at minute ws) ↔ SaidBy minute ws c
unfolding said_at
said_iff minute ws c =
    map-∈ certificate_of (keep (holds_at minute) ws) c then (
      λ t. let k = (keep-∈ (holds_at minute) ws t.0).0 t.1 in (t.0, k.1, k.0, t.2),
      λ t. (t.0, (keep-∈ (holds_at minute) ws t.0).1 (t.2, t.1), t.3),
    )

-- what more records say is more
pub said_more : (minute : ℕ) (vs ws : List (List ℕ)) → ((w : List ℕ) → w ∈ vs → w ∈ ws) → (c : Certificate) → c ∈ said_at minute vs → c ∈ said_at minute ws
said_more minute vs ws more c i = let t = (said_iff minute vs c).0 i in (said_iff minute ws c).1 (t.0, more t.0 t.1, t.2, t.3)
