use Rattle.std.proofs.Common.{◌≡◌, ◌++◌, ◌∷◌, [], true, sym, ap, ap₂, ◌∙◌, subst}
use Rattle.std.proofs.lemmas.Result.{on_ok_weaker}
use Rattle.sc_linear_law.specs.LinearDefinitions.{Place}
use Rattle.sc_linear.specs.Standing.{has, place_at, is_seen}
use Rattle.sc_linear.specs.Steps.{ComeFrom, without_request}
use Rattle.sc_linear.proofs.StepLemmas.{from_more, seen_push}
use Rattle.sc_linear.proofs.steps.keep_one.Goals as goal

same_less : (c : goal.After-push) → c.in_ok-less.less ≡ without_request c.args.who (place_at c.args.seen.now c.args.at)
same_less c = c.in_ok-less.ensures ∙ ap (without_request c.args.who) c.place-place.ensures

pub returns-clause-from : goal.returns-clause-from
returns-clause-from c = on_ok_weaker c.push.result (λ e. subst (ComeFrom c.args.who c.args.seen.now) (ap (λ k. c.args.kept.now ++ k ∷ []) (ap₂ (λ p n. (p, n)) (sym (same_less c)) (sym c.path.ensures)) ∙ sym e)
    (from_more c.args.who c.args.seen.now c.args.kept.now c.args.at c.requires.at c.requires.from (subst (λ (p : Place). has p.taken c.args.who ≡ true) c.place-place.ensures (sym c.has.ensures ∙ c.if-not-has.false)))) c.push.ensures

pub returns-clause-here : goal.returns-clause-here
returns-clause-here c = on_ok_weaker c.push.result (λ e _. subst (λ s. is_seen (without_request c.args.who (place_at c.args.seen.now c.args.at)) s ≡ true) (sym e) (subst (λ p. is_seen p (c.args.kept.now ++ (c.in_ok-less.less, c.path.result) ∷ []) ≡ true) (same_less c) (seen_push c.args.kept.now c.in_ok-less.less c.path.result))) c.push.ensures
