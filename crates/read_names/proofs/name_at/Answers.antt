-- The name's words are there.
use Rattle.std.proofs.Common.{arith, refl}
use Rattle.read_names.proofs.Named.{name_long, stands_for}
use Rattle.read_names.proofs.name_at.Goals as goal
use Rattle.read_names.proofs.name_at.Goals.{then-words-at-eq0, else-words-at-eq0}

pub term_at-issuer-requires : goal.term_at-issuer-requires
term_at-issuer-requires c = let long = name_long c.requires.1 in let fits = c.well_formed in omega arith

pub overflow_add-at : goal.overflow_add-at
overflow_add-at c = let long = name_long c.requires.1 in let fits = c.well_formed in omega arith

pub offset_bounds-words-at : goal.offset_bounds-words-at
offset_bounds-words-at c = let long = name_long c.requires.1 in let fits = c.well_formed in omega arith

pub bounds-words-at : goal.bounds-words-at
bounds-words-at c = let long = name_long c.requires.1 in omega arith

pub bounds-words-at-2 : goal.bounds-words-at-2
bounds-words-at-2 c = let long = name_long c.requires.1 in omega arith

pub returns : goal.returns
returns c =
    elim c.if-words-at-eq0.branch [
      | then-words-at-eq0 w ↦ stands_for _ c.term_at-issuer.ensures _ c.value_of.ensures refl (λ z. w.polarity-is) (λ n. absurd (n w.if-words-at-eq0.true))
      | else-words-at-eq0 w ↦ stands_for _ c.term_at-issuer.ensures _ c.value_of.ensures refl (λ z. absurd (w.if-words-at-eq0.false z)) (λ n. w.polarity-is)
    ]
