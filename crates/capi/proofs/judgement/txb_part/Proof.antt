-- The span that `part_span` finds is handed out as `hand_part` says.
use borrow.Author.Rules.{rules}
use Rattle.capi.proofs.Spanning.{hands_query, hands_definition}
use Rattle.capi.proofs.judgement.txb_part.Statement.{statement}
use Rattle.capi.proofs.judgement.txb_part.Tie as tie

part_span-requires : tie.Need-part_span-requires
part_span-requires c κs = search rules

enum_told-1 : tie.Need-enum_told-1
enum_told-1 c = search rules

enum_known-from : tie.Need-enum_known-from
enum_known-from c = search rules

returns-in-WholeQuery : tie.Need-returns-in-WholeQuery
returns-in-WholeQuery c = hands_query _ _ _ c.part_span.ensures _ c.in-WholeQuery.is

returns-in-InPolicy : tie.Need-returns-in-InPolicy
returns-in-InPolicy c = hands_definition _ _ _ c.part_span.ensures _ _ _ c.in-InPolicy.is

pub txb_part_spec : {M : Type 1} → statement M
txb_part_spec = tie.close (tie.spec part_span-requires enum_told-1 enum_known-from returns-in-WholeQuery returns-in-InPolicy)
