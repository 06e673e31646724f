-- Each way out is a law of `Replying`.
use Rattle.std.proofs.Common.{◌≡◌, sym, ◌∙◌, true}
use Rattle.std.proofs.lemmas.Result.{err_from_is_err_and}
use Rattle.certificates.specs.Stores.{Stores}
use Rattle.demands.specs.Query.{roomy, Call, lent}
use Rattle.engine.proofs.Replying.{is_judged, same_word, refuses_judged, refuses_store, refuses_links, refuses_areas, answer_room, is_ready, replies}
use Rattle.engine.proofs.query.Goals as goal

pub returns-in_err-verdict : goal.returns-in_err-verdict
returns-in_err-verdict c =
    let p = err_from_is_err_and c.from_residual.result c.from_residual.ensures.1 in
    rw (p.1, p.2) (refuses_judged _ _ _ c.in_err-verdict.ensures.part c.in_err-verdict.ensures.judged)

pub returns-then-not-sound_store : goal.returns-then-not-sound_store
returns-then-not-sound_store c =
    rw c.from.ensures (refuses_store _ _ _ (is_judged _ _ _ _ c.in_ok-verdict.ensures.judged) (sym c.sound_store.ensures ∙ c.if-not-sound_store.true))

pub returns-then-not-sound_links : goal.returns-then-not-sound_links
returns-then-not-sound_links c =
    rw c.from-then-not-sound_links.ensures (refuses_links _ _ _ (is_judged _ _ _ _ c.in_ok-verdict.ensures.judged) (sym c.sound_store.ensures ∙ c.if-not-sound_store.false) (sym c.sound_links.ensures ∙ c.if-not-sound_links.true))

pub returns-then-not-roomy : goal.returns-then-not-roomy
unfolding roomy
returns-then-not-roomy c =
    rw c.from-then-not-roomy.ensures (refuses_areas _ _ _ (is_judged _ _ _ _ c.in_ok-verdict.ensures.judged) (sym c.sound_store.ensures ∙ c.if-not-sound_store.false) (sym c.sound_links.ensures ∙ c.if-not-sound_links.false)
    (sym c.roomy.ensures ∙ c.if-not-roomy.true))

pub read_all-requires : goal.read_all-requires
unfolding roomy
read_all-requires c =
    let a = c.args in
    let stores : Stores = record { store = a.store.now; links = a.links.now } in
    let call : Call = lent a.policy.now a.query.now a.our_key a.minute a.answer.now a.definitions.now a.scratch.now in
    let passes = is_judged _ _ _ _ c.in_ok-verdict.ensures.judged in
    let sound = sym c.sound_store.ensures ∙ c.if-not-sound_store.false in
    let links = sym c.sound_links.ensures ∙ c.if-not-sound_links.false in
    let room : roomy call ≡ true = sym c.roomy.ensures ∙ c.if-not-roomy.false in
    (is_ready stores call _ passes sound links room, answer_room stores call _ passes sound links room)

pub returns : goal.returns
unfolding roomy
returns c =
    replies _ _ _ (is_judged _ _ _ _ c.in_ok-verdict.ensures.judged) (sym c.sound_store.ensures ∙ c.if-not-sound_store.false) (sym c.sound_links.ensures ∙ c.if-not-sound_links.false) (sym c.roomy.ensures ∙ c.if-not-roomy.false)
    _ (same_word _) c.read_all.result c.read_all.new.answer c.read_all.ensures
