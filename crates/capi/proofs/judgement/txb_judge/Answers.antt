-- What `judge` replies is handed out as `hand_judgement` says.
use Rattle.capi.proofs.Handing.{hands_verdict, hands_refused_judgement}
use Rattle.capi.proofs.judgement.txb_judge.Goals as goal

pub returns-in-Ok : goal.returns-in-Ok
returns-in-Ok c = hands_verdict _ _ _ c.in-Ok.ensures.judged c.from.ensures

pub returns-in-Err : goal.returns-in-Err
returns-in-Err c = hands_refused_judgement _ _ _ _ c.in-Err.ensures.judged c.from-in-Err-2.ensures c.from-in-Err.ensures
