-- What `rewrite` replies is handed out as `hand_rewriting` says, and the area is as it left it.
use Rattle.capi.proofs.Handing.{hands_length, hands_refused_rewriting}
use Rattle.capi.proofs.rewriting.txb_rewrite.Goals as goal

pub returns-in-Ok : goal.returns-in-Ok
returns-in-Ok c = hands_length _ _ _ _ _ c.in-Ok.ensures.told

pub returns-in-Err : goal.returns-in-Err
returns-in-Err c = hands_refused_rewriting _ _ _ _ _ _ _ c.in-Err.ensures.told c.from-in-Err.ensures c.from.ensures
