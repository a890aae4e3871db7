use Rattle.std.proofs.Common.{◌≡◌, true, false, [], ◌∷◌, ◌++◌, get_or, sym, ap, ◌∙◌, ap₂, subst, subst₂}
use Rattle.std.proofs.lemmas.Result.{on_ok_weaker}
use Rattle.std.proofs.lemmas.List.{get_or_read}
use Rattle.sc_linear_law.specs.LinearDefinitions.{Place, fits, value_after}
use Rattle.sc_linear_law.specs.declared.requests.Request.{Request}
use Rattle.sc_linear.specs.Trails.{path_at}
use Rattle.sc_linear.specs.Standing.{AllLead, place_at, with_request, is_seen, has, request_at, fits_at, blank, start_entry}
use Rattle.sc_linear.proofs.StepLemmas.{lead_more, seen_push, next_is}
use Rattle.sc_linear.proofs.steps.try_one.Goals as goal

same_place_at : (c : goal.After-push-2) → c.place-place.result.now ≡ place_at c.args.seen.now c.args.at
same_place_at c = c.place-place.ensures

same_request : (c : goal.After-push-2) → c.index-requests-x.result ≡ request_at c.args.requests.now c.args.x
same_request c = get_or_read c.args.requests.now c.args.x _ c.requires.under.within c.index-requests-x.is blank

same_next : (c : goal.After-push-2) → c.in_ok-next.next ≡ with_request c.args.requests.now (place_at c.args.seen.now c.args.at) c.args.x
same_next c = next_is c.args.requests.now c.args.x c.args.seen.now c.args.at c.place-place.result.now c.in_ok-next.next c.index-requests-x.result c.in_ok-value.value (same_place_at c) (same_request c) (c.in_ok-value.ensures ∙ ap (value_after c.index-requests-x.result.op) c.value-2.ensures) c.in_ok-next.ensures

fresh : (c : goal.After-push-2) → has (place_at c.args.seen.now c.args.at).taken c.args.x ≡ false
fresh c = subst (λ (p : Place). has p.taken c.args.x ≡ false) (same_place_at c) (sym c.has.ensures ∙ c.if-has.false)

fitting : (c : goal.After-push-2) → fits_at c.args.requests.now c.args.x (place_at c.args.seen.now c.args.at).value ≡ true
fitting c = subst₂ (λ (p : Place) (r : Request). fits r.ending r.op p.value ≡ true) (same_place_at c) (same_request c) (ap (fits c.index-requests-x.result.ending c.index-requests-x.result.op) (sym c.value.ensures) ∙ sym c.fits.ensures ∙ c.if-not-fits.false)

longer : (c : goal.After-push-2) → c.push.new.self ≡ c.args.trail.now ++ (path_at c.args.trail.now (get_or c.args.seen.now c.args.at start_entry).1 ++ (c.args.line, c.args.x) ∷ []) ∷ []
longer c = c.in_ok-path.ensures.added ∙ ap (λ n. c.args.trail.now ++ (path_at c.args.trail.now n ++ (c.args.line, c.args.x) ∷ []) ∷ []) c.path.ensures

-- src/steps.rt:30:1
pub returns-clause-lead : goal.returns-clause-lead
returns-clause-lead c = on_ok_weaker c.push-2.result (λ e. subst₂ (AllLead c.args.requests.now c.args.line) (sym (longer c)) (ap (λ k. c.args.seen.now ++ k ∷ []) (ap₂ (λ p n. (p, n)) (sym (same_next c)) (sym c.in_ok-path.ensures.number)) ∙ sym e)
    (lead_more c.args.requests.now c.args.line c.args.x c.args.seen.now c.args.at c.args.trail.now c.requires.under c.requires.at c.requires.lead (fresh c) (fitting c))) c.push-2.ensures

-- src/steps.rt:30:1
pub returns-clause-taken : goal.returns-clause-taken
returns-clause-taken c = on_ok_weaker c.push-2.result (λ e _. subst (λ s. is_seen (with_request c.args.requests.now (place_at c.args.seen.now c.args.at) c.args.x) s ≡ true) (sym e) (subst (λ p. is_seen p (c.args.seen.now ++ (c.in_ok-next.next, c.in_ok-path.path) ∷ []) ≡ true) (same_next c) (seen_push c.args.seen.now c.in_ok-next.next c.in_ok-path.path))) c.push-2.ensures
