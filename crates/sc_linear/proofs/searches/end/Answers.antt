use Rattle.std.proofs.Common.{◌≡◌, ◌+◌, true, length, sym, ap, ◌∙◌, subst}
use Rattle.sc_base.specs.Definitions.{Each}
use Rattle.sc_linear.specs.Standing.{IsUnder}
use Rattle.sc_linear.specs.Search.{taken_without}
use Rattle.sc_linear.specs.Steps.{AreClosed}
use Rattle.sc_linear.specs.Front.{IsFront, move_at}
use Rattle.sc_linear.proofs.FrontLemmas.{lead_waits, under_waits, ends_here, end_front}
use Rattle.sc_linear.proofs.searches.end.Goals as goal

pub explore-requires-clause-under : goal.explore-requires-clause-under
explore-requires-clause-under c = subst (Each (IsUnder c.args.requests.now (move_at c.args.moves.now c.args.at).0)) (sym c.as_slice.ensures.value) (under_waits c.args.requests.now c.args.moves.now c.requires.moves c.args.at c.requires.at c.args.under.now.items c.requires.front.under_from)

pub explore-requires-clause-lead : goal.explore-requires-clause-lead
explore-requires-clause-lead c = lead_waits c.args.requests.now c.args.moves.now c.requires.moves c.args.at c.requires.at c.args.trail.now c.args.seen.now c.requires.front.lead

pub returns-then-not-branch-clause-many : goal.returns-then-not-branch-clause-many
returns-then-not-branch-clause-many c = λ _.
    let ms = c.args.moves.now in
    let m = move_at ms c.args.at in
    let is : m ≡ (m.0, true, m.2) = ap (λ b. (m.0, b, m.2)) c.requires.ends in
    let e = ends_here c.args.requests.now ms c.requires.moves c.args.at c.requires.at m.2 is in
    record {
      who = m.2;
      within = e.0;
      answered = e.1;
      paths = c.explore.new.trail;
      entries = c.explore.new.seen;
      lead = c.in_ok-explore.ensures.lead;
      apart = c.in_ok-explore.ensures.apart c.if-not-branch.true;
      more = c.in_ok-explore.ensures.more c.if-not-branch.true;
    }

pub returns-clause-passed : goal.returns-clause-passed
returns-clause-passed c = λ _.
    let rs = c.args.requests.now in
    let ms = c.args.moves.now in
    let m = move_at ms c.args.at in
    let is : m ≡ (m.0, true, m.2) = ap (λ b. (m.0, b, m.2)) c.requires.ends in
    let closed : AreClosed rs c.args.under.now.items m.2 c.explore.new.seen (length c.explore.new.seen) = subst (λ u. AreClosed rs u m.2 c.explore.new.seen (length c.explore.new.seen)) c.as_slice.ensures.value (c.in_ok-explore.ensures.closed c.if-not-branch.false) in
    subst (λ u. IsFront rs ms (c.args.at + 1) u c.in_ok-seen.field-0 c.explore.new.trail) (sym (c.in_ok-under.ensures ∙ ap (taken_without m.2) c.as_slice-2.ensures.value))
    (end_front rs ms c.requires.moves c.args.at c.requires.at m.2 is c.args.under.now.items c.args.seen.now c.explore.new.seen c.in_ok-seen.field-0 c.args.trail.now c.explore.new.trail c.requires.front c.in_ok-explore.ensures.lead c.in_ok-explore.ensures.kept closed c.in_ok-seen.ensures.from c.in_ok-seen.ensures.all)
