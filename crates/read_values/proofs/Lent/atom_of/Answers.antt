use Rattle.std.proofs.Common.{take, subst, sym, arith}
use Rattle.policy_places.proofs.Places.{row_width}
use Rattle.read_values.specs.Rows.{SayAtom}
use Rattle.read_values.proofs.Rows.{term_atom, no_atom}
use Rattle.read_values.proofs.Lent.atom_of.Goals as goal

pub offset_bounds-self-at : goal.offset_bounds-self-at
offset_bounds-self-at c = let w = row_width c.requires.1 in let fits = c.well_formed in omega arith

pub bounds-self-at : goal.bounds-self-at
bounds-self-at c = let w = row_width c.requires.1 in let fits = c.well_formed in omega arith

pub returns-then-width-j : goal.returns-then-width-j
returns-then-width-j c = no_atom (omega arith)

pub term_at-term-requires : goal.term_at-term-requires
term_at-term-requires c = let w = row_width c.requires.1 in omega arith

pub returns : goal.returns
returns c =
    subst (SayAtom c.args.self.now.words.now c.args.at (take c.args.bindings.now.count c.args.bindings.now.values) c.args.j) (sym c.value_of.ensures)
    (term_atom (omega arith) c.term_at-term.ensures)
