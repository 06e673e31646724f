-- What the terms, slots and guards that the code holds are.
use Rattle.policy.specs.Terms.{Term, atom, var}
use Rattle.policy.specs.Syntax.{Slot, old, new, Body, head, draw, same, different, absent}
use Rattle.policy.specs.declared.Term as HeldTerm
use Rattle.policy.specs.declared.Term.TheVariants.{Atom, Variable}
use Rattle.policy.specs.declared.Slot as HeldSlot
use Rattle.policy.specs.declared.Slot.TheVariants.{Old, New}
use Rattle.policy.specs.declared.Guard as HeldGuard
use Rattle.policy.specs.declared.Guard.TheVariants.{Draw, Same, Different, Absent}

unfoldable pub term_is : HeldTerm.Term → Term
term_is (Atom a) = atom a
term_is (Variable i) = var i

unfoldable pub slot_is : HeldSlot.Slot → Slot
unfolding term_is
slot_is (Old t) = old (term_is t)
slot_is New = new

-- a guard as far as its expression: a comparison whole, of the others the code alone
pub data Opening : Type 0 where
  draw_opens absent_opens : Opening
  same_opens different_opens : Term → Term → Opening

unfoldable pub guard_is : HeldGuard.Guard → Opening
unfolding term_is
guard_is Draw = draw_opens
guard_is (Same x y) = same_opens (term_is x) (term_is y)
guard_is (Different x y) = different_opens (term_is x) (term_is y)
guard_is Absent = absent_opens

-- the first guard of a body, so far; where only the head is left there is none, and nothing asks
unfoldable pub opens : Body → Opening
opens (head r) = absent_opens
opens (draw e p b) = draw_opens
opens (same x y b) = same_opens x y
opens (different x y b) = different_opens x y
opens (absent r e b) = absent_opens
