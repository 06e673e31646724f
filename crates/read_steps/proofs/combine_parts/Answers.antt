use Rattle.std.proofs.lemmas.Result.{err_from_is_err_and}
use Rattle.read_steps.proofs.Combined.{two_rooms, two_sets, value_fits, value_too_large}
use Rattle.read_steps.proofs.combine_parts.Goals as goal

pub slice_bounds-combine-end : goal.slice_bounds-combine-end
slice_bounds-combine-end c = let p = c.requires in two_rooms p.0 p.1

pub combine-requires : goal.combine-requires
combine-requires c = let p = c.requires in two_sets p.0 p.1

pub returns-in_err-combine : goal.returns-in_err-combine
returns-in_err-combine c =
    let r = c.requires in
    let p = err_from_is_err_and c.from_residual.result c.from_residual.ensures.1 in
    rw (p.1, p.2) (value_too_large r.0 r.1 _ c.in_err-combine.ensures)

pub returns : goal.returns
returns c = let p = c.requires in value_fits p.0 p.1 _ _ c.in_ok-combine.ensures
