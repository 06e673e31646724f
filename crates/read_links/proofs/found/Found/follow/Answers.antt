-- A link that starts at the name leads to one that is there then; behind the first that does not, none does.
use Rattle.std.proofs.Common.{rules, arith, refl, get_or, ◌+◌, ◌*◌}
use Rattle.rows.proofs.Case.{never}
use Rattle.read_links.specs.Reached.{nobody}
use Rattle.read_links.proofs.Starting.{links_whole, link_inside, second_words}
use Rattle.read_links.proofs.Finding.{following_start, following_room, following_next, following_end}
use Rattle.read_links.proofs.found.Found.follow.Goals as goal

pub bounds-links-0 : goal.bounds-links-0
bounds-links-0 c = let w = links_whole c.args.links.now c.requires.0 in search rules

pub loop-i-init : goal.loop-i-init
loop-i-init c = following_start c.requires.0 c.requires.1 c.requires.2 c.first_from-i.ensures

pub returns-then-not-is_from : goal.returns-then-not-is_from
returns-then-not-is_from c = following_end c.requires.0 c.requires.1 c.loop-i.invariant c.first_from-i.ensures c.loop-i.auto.i (λ f. never (c.is_from.ensures.means.1 f) c.if-not-is_from.true)

pub bounds-links-at : goal.bounds-links-at
bounds-links-at c = let w = link_inside c.args.links.now c.requires.0 c.loop-i.i c.loop-i-test.true in omega arith

pub bounds-links-at-in-loop-i : goal.bounds-links-at-in-loop-i
bounds-links-at-in-loop-i c = let w = link_inside c.args.links.now c.requires.0 c.loop-i.i c.loop-i-test.true in omega arith

pub add-requires : goal.add-requires
add-requires c =
    let ws = c.args.links.now in
    let at = 1 + 5 * c.loop-i.i in
    following_room c.requires.0 c.requires.1 c.loop-i.invariant (c.is_from.ensures.means.0 c.if-not-is_from.false)
    (record { key = get_or ws (at + 3) 0; number = get_or ws (at + 4) 0; polarity = (get_or c.args.self.now.names c.args.next nobody).polarity })
    (second_words c.args.links.now c.requires.0 c.loop-i.i)

pub loop-i-preserved : goal.loop-i-preserved
loop-i-preserved c =
    following_next c.requires.0 c.requires.1 c.loop-i.invariant (c.is_from.ensures.means.0 c.if-not-is_from.false) _ (second_words c.args.links.now c.requires.0 c.loop-i.i) refl c.add.ensures

pub returns : goal.returns
returns c = following_end c.requires.0 c.requires.1 c.loop-i.invariant c.first_from-i.ensures c.loop-i.auto.i (λ f. let h = f.held in let t = c.loop-i-test.false in absurd (omega arith))
