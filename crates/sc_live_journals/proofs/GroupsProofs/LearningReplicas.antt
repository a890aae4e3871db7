-- A replica that learns an entry leaves the group well led: it elects itself where it is to lead next, and else does not.
use Rattle.std.proofs.Common.{◌≡◌, ℕ, suc, ◌+◌, ◌≤◌, nat_le, true, false, true≢false, List, [], ◌∷◌, Option, Some, None, ◌⊎◌, inl, inr, refl, sym, ◌∙◌, ap, subst, arith}
use Rattle.std.specs.Prelude.{is_some}
use Rattle.std.proofs.lemmas.Bool.{cases_lt, and_parts, leb-true}
use Rattle.sc_base.specs.Definitions.{Each, most_nodes, IsRoster, is_member, least_of}
use Rattle.sc_node_table.specs.Values.{Ballot, Draw, Command, Base, Route, Mail, Learn, Seat, Deliver}
use Rattle.sc_actor.specs.Definitions.{mails}
use Rattle.sc_words.specs.paxos.PaxosDefinitions.{below}
use Rattle.sc_words.proofs.PaxosProofs.PaxosLemmas.{below_from, at_least_below}
use Rattle.sc_node_table.specs.NodeDefinitions.{entered, is_among, NodeState, group_of_mail, is_node, ReplicaState, Place, name_of, next, members, last_slot, forgotten, mailed}
use Rattle.sc_law_walks.proofs.WalkLemmas.{entered_next}
use Rattle.sc_meaning.specs.sound.SoundDefinitions.{Player}
use Rattle.sc_live_steps.specs.calm.CalmDefinitions.{players, Rows}
use Rattle.sc_live_steps.specs.following.FollowingDefinitions.{IsOther, Dated, IsNoPrepare, dated_for, Mark, Asks, Votes, Teaches, Installs, Prepares, Promises, mark_of, pledged, Course, Progress, Sets, members_at, IsOpen, IsHeir, SlotLeaders, hint_by, AreAt, AreLearntLast, IsInTime, Stays, MayElect, next_ballot}
use Rattle.sc_live_steps.proofs.FollowingProofs.FollowingLemmas.{elections_ask_next, tables_elect, elections_lead, nodes_heed, least_in, tables, same_mark, hints_follow, heirs_elect}
use Rattle.sc_live_journals.specs.rows.RowDefinitions.{IsNextLead, promise_in, progress_at, marks_at, taken_mark, IsScene, TakesMail, HoldsReplica, WaitsStill, elected_course, IsReplicasRow}
use Rattle.sc_live_journals.proofs.RowsProofs.RowMarks.{HasMark}
use Rattle.sc_live_journals.proofs.RowsProofs.RowLemmas.{elections_keep, entered_name, entered_me, apart_off, row_in, head, all_fit, within, no_lead, named, row_to, fit, taken, steps_elect}
use Rattle.sc_live_journals.specs.groups.GroupDefinitions.{RowElects, IsLedStep, Ends, hint_in, hints_at, IsOfLog, HasRounds, IsLedScene, ElectsWell}
use Rattle.sc_live_journals.proofs.GroupsProofs.NodeMail.{scene, stage, takes_further}
use Rattle.sc_live_journals.proofs.GroupsProofs.Rows.{rows_keep_led}

-- what asks for no promise leaves the ballot that is promised
pub pledged_none : (promise : Ballot) (marks : List Mark) → Each IsNoPrepare marks → pledged promise marks ≡ promise
pledged_none promise [] e = refl
pledged_none promise (Prepares ballot ∷ marks) e = absurd e.0
pledged_none promise (Asks ballot slot ∷ marks) e = pledged_none promise marks e.1
pledged_none promise (Votes node ballot slot ∷ marks) e = pledged_none promise marks e.1
pledged_none promise (Teaches slot ∷ marks) e = pledged_none promise marks e.1
pledged_none promise (Installs slot ∷ marks) e = pledged_none promise marks e.1
pledged_none promise (Promises node ballot ∷ marks) e = pledged_none promise marks e.1

-- an entry leaves whom its replica takes for the leader
entered_hint : (command : Command) (r : ReplicaState) → (entered command r).hint ≡ r.hint
unfolding entered forgotten
entered_hint command r = refl

module _ (at : Sets) (over : Ends) (by : SlotLeaders) (words : ℕ → ℕ → ℕ × ℕ) (births : List (Seat Player)) (rows : Rows) (seat : Seat Player) (node : NodeState) (base : Base) (course : Course) (s : IsLedScene at over by words births rows seat node base course)
    (number : ℕ) (mail : Mail) (takes : TakesMail words births rows seat number mail) (r : ReplicaState) (has : HoldsReplica seat node base r) (slot : ℕ) (command : Command) (body : mail.body ≡ Learn base.core.id slot command)
    (low : slot ≤ last_slot) (logs : IsOfLog at over (entered command r)) (rounds : HasRounds r) where
  abbrev the_scene : IsScene at words births rows seat node base course
  the_scene = scene at over by words births rows seat node base course s

  abbrev name : Draw
  name = base.core.id

  abbrev now : Progress
  now = progress_at births rows base course

  abbrev marks : ℕ → List Mark
  marks = marks_at (players words births) rows name

  abbrev hints : ℕ → Option ℕ
  hints = hints_at births rows base

  abbrev mark : Mark
  mark = Teaches slot

  abbrev after : Place
  after = (mailed mail.from (Learn (name_of r) slot command) (r, [])).0

  abbrev fact : HasMark base mail (Teaches slot)
  fact = ap (mark_of name mail.from) body ∙ same_mark name mark

  own_name : name_of r ≡ base.core.id
  own_name = named at words births rows seat node base course the_scene number mail takes r has

  row : IsReplicasRow births rows seat (Deliver number) base.core.id (Some r) after
  row = row_to at words births rows seat node base course the_scene number mail takes r has mail.from (Learn (name_of r) slot command) refl (body ∙ ap (λ n. Learn n slot command) (sym own_name)) (ap group_of_mail body)

  fits : IsInTime (Teaches slot) r
  fits = fit at words births rows seat node base course the_scene number mail takes r has mark fact after row

  takes_it : taken_mark base.core.id (mails rows) (Deliver number) ≡ Some (Teaches slot)
  takes_it = taken at words births rows seat node base course the_scene number mail takes mark fact

  apart : IsOther course seat.who
  apart = (let at_next = (all_fit at words births rows seat node base course the_scene number mail takes mark fact).0.1 in no_lead at words births rows seat node base course the_scene number mail takes mark fact (omega (arith, at_next)))

  off : r.running ≡ false
  off = apart_off at words births rows seat node base course the_scene r row.was apart

  most : suc slot ≤ course.newest
  most = within at words births rows seat node base course the_scene number mail takes mark fact

  left : List Mark
  left = (row_in at words births rows seat node base course the_scene number mail takes).left

  head_is : marks seat.who ≡ Teaches slot ∷ left
  unfolding left
  head_is = head at words births rows seat node base course the_scene number mail takes mark fact

  e_next : next (entered command r) ≡ suc slot
  e_next = (let up = entered_next command r in let here = fits.1 in omega (arith, up, here))

  members_e : members_at at (slot + 1) ≡ members (entered command r)
  members_e = (let same : slot + 1 ≡ next (entered command r) = (let up = e_next in omega (arith, up)) in ap (members_at at) same ∙ logs.members_are)

  ends_last : suc slot ≡ course.newest → is_some (entered command r).group.core.gone ≡ course.gone
  ends_last last = logs.ends ∙ (ap over (e_next ∙ last) ∙ sym s.led.ends)

  members_last : suc slot ≡ course.newest → members_at at course.newest ≡ members (entered command r)
  members_last last = ap (members_at at) (sym last ∙ sym e_next) ∙ logs.members_are

  hint_here : r.hint ≡ hints seat.who
  hint_here = sym (ap (hint_in base) row.was)

  which : Stays (entered command r) ⊎ IsHeir (progress_at births rows base course) slot command r
  which = heirs_elect at by now hints marks slot left command r s.led.heeded (subst (λ n. marks n ≡ Teaches slot ∷ left) (sym has.well.0) head_is) (record {
    other = λ runs mine. apart runs (sym has.well.0 ∙ mine);
    hint = subst (λ n. r.hint ≡ hints n) (sym has.well.0) hint_here;
    members_are = members_e;
    ends = ends_last;
  })

  -- ---- it does not elect itself

  module _ (stays : Stays (entered command r)) where
    never : course.running ≡ false → course.gone ≡ false → seat.who ≡ least_of (members_at at course.newest) → suc slot ≡ course.newest → ⊥
    never idle stands least last = by_stays stays
      where
        by_stays : Stays (entered command r) → ⊥
        by_stays (inl among) =
            let none = nodes_heed.last at by now hints marks seat.who slot left s.led.heeded idle stands head_is last in
            true≢false (sym among ∙ (ap (λ ms. is_among ms (entered command r).hint) (sym (members_last last)) ∙ (ap (is_among (members_at at course.newest)) (entered_hint command r ∙ hint_here) ∙ none)))
        by_stays (inr (inl ne)) = ne (ap least_of (sym (members_last last)) ∙ (sym least ∙ (sym has.well.0 ∙ sym (entered_me command r))))
        by_stays (inr (inr gone)) = true≢false (sym (ap is_some gone.1) ∙ (ends_last last ∙ stands))

    waits : WaitsStill at course seat.who (suc slot)
    waits idle stands least = elim (cases_lt (suc slot) course.newest) [
      | inl lt ↦ lt
      | inr ge ↦ (let up = most in absurd (never idle stands least (omega (arith, ge, up))))
    ]

    hinted_or : (o : Option Route) → (entered command r).group.core.gone ≡ o → next after.0 ≡ suc slot → (after.0.hint ≡ hint_by at by r.acceptor.promised r.hint mark) ⊎ ((course.gone ≡ true) × (next after.0 ≡ course.newest))
    hinted_or None g reaches = inl (hints_follow.learn at by mail.from slot command r fits off (has.well.3 off).0 low stays g members_e)
    hinted_or (Some into) g reaches =
        (let gone : over (suc slot) ≡ true = ap over (sym e_next) ∙ (sym logs.ends ∙ ap is_some g) in
        let least = s.led.rests (suc slot) gone in
        let up = most in
        let last : suc slot ≡ course.newest = omega (arith, least, up) in
        inr (s.led.ends ∙ (ap over (sym last) ∙ gone), reaches ∙ last))

    stays_led : IsLedStep at over by words births rows seat (Deliver number) base course
    stays_led =
        let steps = tables.learn mail.from slot command r fits off (has.well.3 off).0 low stays in
        takes_further at over by words births rows seat node base course s number mail takes r has mark fact after row off steps (λ count. count) apart (λ idle stands least. (let w = waits idle stands least in let to = steps.reaches in omega (arith, w, to)))
        (hinted_or (entered command r).group.core.gone refl steps.reaches)

  -- ---- it does

  module _ (heir : IsHeir (progress_at births rows base course) slot command r) where
    may : MayElect (entered command r)
    may = heir.may rounds.later

    least_here : seat.who ≡ least_of (members_at at course.newest)
    least_here = sym has.well.0 ∙ (sym (entered_me command r) ∙ (sym may.least ∙ ap least_of (sym (members_last heir.last))))

    opened : IsOpen at course.newest seat.who
    opened = record {
      slot = course.newest + 3;
      from = omega arith;
      to = omega arith;
      decides = ap (is_member (members_at at course.newest)) least_here ∙ least_in (members_at at course.newest) (s.log.rosters (course.newest + 3)).some;
    }

    -- it has promised the group's ballot
    promised_it : now.promise seat.who ≡ course.ballot
    promised_it =
        (let none = (subst (AreLearntLast course.newest) head_is (s.led.own.stop heir.idle seat.who)).0 heir.last in
        sym (pledged_none (now.promise seat.who) left none) ∙ (ap (pledged (now.promise seat.who)) (sym head_is) ∙ (s.led.followed.follows.ready seat.who opened).promised))

    later : below course.ballot (next_ballot r) ≡ true
    later =
        (let seen = subst (λ b. below r.top b ≡ false) (sym (ap (promise_in base) row.was) ∙ promised_it) rounds.seen in
        at_least_below course.ballot r.top (next_ballot r) seen (below_from r.top (next_ballot r) (inl (omega arith))))

    opens_last : AreAt at course.newest (entered command r).sets
    opens_last = subst (λ n. AreAt at n (entered command r).sets) (e_next ∙ heir.last) logs.opens

    next_lead : IsNextLead at course slot command r
    next_lead = record { idle = heir.idle; stands = heir.stands; low = low; last = heir.last; may = may; members_are = members_last heir.last; opens = opens_last; many = logs.many; nodes = s.log.nodes; later = later }

    elects_led : IsLedStep at over by words births rows seat (Deliver number) base course
    elects_led =
        let flights = (has.well.3 off).0 in
        let steps = tables_elect mail.from slot command r fits off flights low may (entered_name command r) in
        let follows = elections_keep at words births rows seat number mail node base course r slot command the_scene takes has body next_lead in
        let well : ElectsWell at births rows seat (Deliver number) base course (next_ballot r) after = record {
          self_election = steps_elect at births rows seat (Deliver number) base course slot (entered command r).sets r after row own_name has.well.0 takes_it steps
              (record { idle = heir.idle; stands = heir.stands; last = heir.last; least = has.well.0 ∙ least_here; later = later; opens = opens_last; many = logs.many; nodes = s.log.nodes });
          runs = steps.runs;
          leads = (follows.given.gives seat.who after.0 row.fact steps.runs).0;
          told = (slot, heir.last, takes_it);
          low = λ who. subst (λ n. Each (λ (d : Dated). n ≤ d.1) (dated_for name who after.1)) heir.last
              (subst (λ n. Each (λ (d : Dated). suc slot ≤ d.1) (dated_for n who after.1)) own_name (elections_ask_next mail.from slot command r fits off flights low may (entered_name command r) who));
          orderly = (elections_lead at now mail.from slot command r fits off flights low may (entered_name command r) (record {
            idle = heir.idle;
            stands = heir.stands;
            last = heir.last;
            bound = s.led.followed.follows.offered heir.idle;
            promise = subst (λ n. now.promise n ≡ r.acceptor.promised) (sym has.well.0) (ap (promise_in base) row.was);
            later = later;
            sets = subst (λ n. AreAt at n (entered command r).sets) (sym heir.last) opens_last;
            ahead = logs.many;
            members_are = ap (members_at at) heir.last ∙ members_last heir.last;
            roster = subst IsRoster (members_last heir.last) (s.log.rosters (course.newest + 3));
            nodes = λ slot who m. numbers who (s.log.nodes slot who m);
          })).orderly;
        } in
        record {
          later = elected_course course (next_ballot r);
          led = rows_keep_led.self_election at over by words births rows seat (Deliver number) base course (next_ballot r) r after (stage at over by words births rows seat node base course s (Deliver number) takes.timely) row well;
          row = RowElects r after (next_ballot r) row off well refl;
        }
      where
        numbers : (who : ℕ) → is_node who ≡ true → (1 ≤ who) × (who ≤ most_nodes)
        numbers who m = (let parts = and_parts (nat_le 1 who) (nat_le who most_nodes) m in (leb-true 1 who parts.0, leb-true who most_nodes parts.1))

  pub learns : IsLedStep at over by words births rows seat (Deliver number) base course
  learns = elim which [ inl stays ↦ stays_led stays | inr heir ↦ elects_led heir ]
