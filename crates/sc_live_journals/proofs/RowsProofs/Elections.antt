-- A node which elects itself leads its group, and the group follows it.
use Rattle.std.proofs.Common.{◌≡◌, ℕ, suc, ◌+◌, true, false, List, [], length, Some, refl, sym, ◌∙◌, ap, subst, arith}
use Rattle.std.specs.Option.{option_map}
use Rattle.sc_node_table.specs.Values.{Draw, Command, Learn, Deliver, Flight}
use Rattle.sc_base.specs.Definitions.{IsRoster, is_member, least_of}
use Rattle.sc_words.specs.paxos.PaxosDefinitions.{LeaderState, flight_at}
use Rattle.sc_node_table.specs.NodeDefinitions.{entered, group_of_mail, ReplicaState, Place, name_of, next, members, either, mailed, at_slot}
use Rattle.sc_group_table.specs.machine.MachineDefinitions.{Group}
use Rattle.sc_live_steps.specs.following.FollowingDefinitions.{IsLed, Teaches, mark_of, Course, Progress, Sets, members_at, IsLeadOf, AreAt, ElectsBy, next_ballot}
use Rattle.sc_live_steps.proofs.FollowingProofs.FollowingLemmas.{tables_elect, least_in, same_mark}
use Rattle.sc_live_journals.specs.rows.RowDefinitions.{IsPast, IsNextLead, ElectionsKeepFollowing, next_in, promise_in, progress_at, elected_course, with_event}
use Rattle.sc_live_journals.proofs.RowsProofs.ScenarioGroups.{none_some, none_flies}
use Rattle.sc_live_journals.proofs.RowsProofs.FollowingRows.{rows_keep}
use Rattle.sc_live_journals.proofs.RowsProofs.LearntEntries.{learnt_entries_executed}
use Rattle.sc_live_journals.proofs.RowsProofs.MailRows.{named, row_to, fit, taken, apart_off}
use Rattle.sc_live_journals.proofs.RowsProofs.ReplicaSteps.{steps_elect}
pub use Rattle.sc_live_steps.proofs.CalmStepsProofs.CountedPotential.{entered_me}
pub use Rattle.sc_law_walks.proofs.WalkLemmas.{entered_name}

true_false : true ≡ false → ⊥
true_false e = cc

-- the one that elected itself leads in the course after that
elected_leads : (at : Sets) (two : Progress) (course : Course) (slot : ℕ) (command : Command) (r after : ReplicaState) → ((s : ℕ) → IsRoster (at s)) → IsNextLead at course slot command r → course.bound ≡ course.newest
    → after.running ≡ true → next after ≡ suc slot → after.leader.ballot ≡ next_ballot r → after.leader.is_first ≡ false → after.leader.promisers ≡ [] → after.leader.flights ≡ [] → IsPast command r after
    → two.course ≡ elected_course course (next_ballot r) → two.next after.me ≡ next after → two.promise after.me ≡ after.acceptor.promised → IsLeadOf at two after
elected_leads at two course slot command r after rosters lead bound running reaches ballot first promisers flights past fact here promised =
    let last = lead.last in
    let newest : course.newest ≡ next after = sym last ∙ sym reaches in
    let members_are : members_at at (next after) ≡ members after = ap (members_at at) (sym newest) ∙ (lead.members_are ∙ ap (λ (g : Group). g.core.members) (sym past.group_is)) in
    let roster : IsRoster (members after) = subst IsRoster members_are (rosters (next after + 3)) in
    let many : length after.sets ≡ _ = ap length past.sets_are ∙ lead.many in
    let elected = elected_course course (next_ballot r) in
    record {
      led = subst (λ (c : Course). IsLed at c after) (sym fact) (record {
        running = running;
        stands = ap (λ (g : Group). g.core.gone) past.group_is ∙ lead.may.stands;
        first = first;
        mine = sym past.me_is;
        member = subst (λ me. is_member (members after) me ≡ true)
            (ap (λ (g : Group). least_of g.core.members) past.group_is ∙ (lead.may.least ∙ (entered_me command r ∙ sym past.me_is))) (least_in (members after) roster.some);
        was = members_are;
        ahead = many;
        roster = roster;
        may = record {
          ballot = ballot;
          sets = subst (λ sets. AreAt at (next after) sets) (sym past.sets_are) (subst (λ n. AreAt at n (entered command r).sets) newest lead.opens);
          low = omega (arith, newest, bound);
          high = omega (arith, newest, bound);
          taken = λ s low high. absurd (omega (arith, newest, bound, low, high));
          free = λ s low. ap (λ (fs : List (Flight Command)). either (option_map (λ (f : Flight Command). f.value) (flight_at s fs)) (at_slot after.ready s)) flights ∙ ap (λ es. at_slot es s) past.ready_is;
        };
      });
      newest = ap (λ (c : Course). c.newest) fact ∙ newest;
      runs = ap (λ (c : Course). c.running) fact;
      stands = ap (λ (c : Course). c.gone) fact;
      executed = here;
      promise = promised;
      voters = λ s. ap (λ (c : Course). c.voters s) fact ∙ sym (none_flies after flights s);
      polled = λ s voters e. absurd (none_some (sym (none_flies after flights s) ∙ e));
      counted = λ node. ap (λ (c : Course). c.counted node) fact ∙ sym (ap (λ ps. is_member ps node) promisers);
    }

-- Where none leads, the one that is to lead next elects itself by the last entry, which it learns, leads in the course after it, and the group follows it.
pub elections_keep : ElectionsKeepFollowing
elections_keep at words births rows seat number mail node base course r slot command scene takes has body lead =
    let name : Draw = base.core.id in
    let mark = Teaches slot in
    let fact : mark_of name mail.from mail.body ≡ Some mark = ap (mark_of name mail.from) body ∙ same_mark name mark in
    let own = named at words births rows seat node base course scene number mail takes r has in
    let row = row_to at words births rows seat node base course scene number mail takes r has mail.from (Learn (name_of r) slot command) refl (body ∙ ap (λ n. Learn n slot command) (sym own)) (ap group_of_mail body) in
    let after : Place = (mailed mail.from (Learn (name_of r) slot command) (r, [])).0 in
    let fits = fit at words births rows seat node base course scene number mail takes r has mark fact after row in
    let off = apart_off at words births rows seat node base course scene r row.was (λ runs mine. true_false (sym runs ∙ lead.idle)) in
    let steps : ElectsBy slot (entered command r).sets r after = tables_elect mail.from slot command r fits off (has.well.3 off).0 lead.low lead.may (entered_name command r) in
    let past = learnt_entries_executed mail.from slot command r fits.1 lead.low (has.well.3 off).1 in
    let self_election = steps_elect at births rows seat (Deliver number) base course slot (entered command r).sets r after row own has.well.0 (taken at words births rows seat node base course scene number mail takes mark fact) steps
    (record {
      idle = lead.idle;
      stands = lead.stands;
      last = lead.last;
      least = sym (entered_me command r) ∙ (sym lead.may.least ∙ ap least_of (sym lead.members_are));
      later = lead.later;
      opens = lead.opens;
      many = lead.many;
      nodes = lead.nodes;
    }) in
    let two = progress_at births (with_event rows seat (Deliver number)) base (elected_course course (next_ballot r)) in
    let who : after.0.me ≡ seat.who = past.me_is ∙ has.well.0 in
    let leads = elected_leads at two course slot command r after.0 scene.rosters lead (scene.followed.follows.offered lead.idle) steps.runs steps.reaches (ap (λ (l : LeaderState Command). l.ballot) steps.leads) (ap (λ (l : LeaderState Command). l.is_first) steps.leads)
    (ap (λ (l : LeaderState Command). l.promisers) steps.leads) (ap (λ (l : LeaderState Command). l.flights) steps.leads) past refl
    (subst (λ n. two.next n ≡ next after.0) (sym who) (ap (next_in base seat.who) row.fact)) (subst (λ n. two.promise n ≡ after.0.acceptor.promised) (sym who) (ap (promise_in base) row.fact)) in
    rows_keep.self_election at words births rows seat (Deliver number) base course (next_ballot r) r after scene.rosters takes.timely scene.followed row self_election steps.runs leads
