-- What `query` replies is handed out as `hand_outcome` says; the answer area is left as `query` leaves it.
use Rattle.capi.proofs.Handing.{hands_answer, hands_refused_query}
use Rattle.capi.proofs.asking.txb_query.Goals as goal

pub returns-in-Ok : goal.returns-in-Ok
returns-in-Ok c = hands_answer _ _ _ _ _ _ c.in-Ok.ensures c.from.ensures

pub returns-in-Err : goal.returns-in-Err
returns-in-Err c = hands_refused_query _ _ _ _ _ _ _ c.in-Err.ensures c.from-in-Err-2.ensures c.from-in-Err.ensures
