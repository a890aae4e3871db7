use Rattle.std.proofs.Common.{◌≡◌, ◌+◌, false, true, sym, ap, ◌∙◌, subst}
use Rattle.std.proofs.lemmas.List.{get_or_read}
use Rattle.sc_linear_law.specs.declared.requests.Request.{Request}
use Rattle.sc_linear.specs.Standing.{request_at, blank}
use Rattle.sc_linear.specs.Steps.{has_failed}
use Rattle.sc_linear.specs.Front.{IsFront, move_at}
use Rattle.sc_linear.proofs.FrontLemmas.{begins_here, begin_front, skip_front}
use Rattle.sc_linear.proofs.searches.begin.Goals as goal

pub returns-in_ok-push : goal.returns-in_ok-push
returns-in_ok-push c =
    let rs = c.args.requests.now in
    let ms = c.args.moves.now in
    let m = move_at ms c.args.at in
    let is : m ≡ (m.0, false, m.2) = ap (λ b. (m.0, b, m.2)) c.requires.begins in
    let here : c.index-requests-who.result ≡ request_at rs m.2 = get_or_read rs m.2 _ (begins_here rs ms c.requires.moves c.args.at c.requires.at m.2 is).0 c.index-requests-who.is blank in
    let well : has_failed (request_at rs m.2) ≡ false = subst (λ (r : Request). has_failed r ≡ false) here (sym c.has_failed.ensures ∙ c.if-not-has_failed.true) in
    subst (λ u. IsFront rs ms (c.args.at + 1) u c.args.seen.now c.args.trail.now) (sym c.in_ok-push.ensures.items)
    (begin_front rs ms c.requires.moves c.args.at c.requires.at m.2 is c.args.under.now.items c.args.seen.now c.args.trail.now c.requires.front well)

pub returns-else-not-has_failed : goal.returns-else-not-has_failed
returns-else-not-has_failed c =
    let rs = c.args.requests.now in
    let ms = c.args.moves.now in
    let m = move_at ms c.args.at in
    let is : m ≡ (m.0, false, m.2) = ap (λ b. (m.0, b, m.2)) c.requires.begins in
    let here : c.index-requests-who.result ≡ request_at rs m.2 = get_or_read rs m.2 _ (begins_here rs ms c.requires.moves c.args.at c.requires.at m.2 is).0 c.index-requests-who.is blank in
    let bad : has_failed (request_at rs m.2) ≡ true = subst (λ (r : Request). has_failed r ≡ true) here (sym c.has_failed.ensures ∙ c.if-not-has_failed.false) in
    skip_front rs ms c.requires.moves c.args.at c.requires.at m.2 is c.args.under.now.items c.args.seen.now c.args.trail.now c.requires.front bad
