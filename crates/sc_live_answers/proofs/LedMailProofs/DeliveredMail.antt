-- What a mail of a group that is well led finds at the node that it comes to, by what it says.
use Rattle.std.proofs.Common.{◌≡◌, ℕ, suc, ◌+◌, ◌≤◌, true, false, true≢false, List, [], ◌∷◌, ◌++◌, Option, Some, None, ◌⊎◌, inl, inr, refl, sym, ◌∙◌, ap, subst, arith, append_assoc}
use Rattle.std.proofs.lemmas.Bool.{cases_Bool}
use Rattle.sc_node_table.specs.Values.{Draw, Command, Base, Mail, MailBody, Request, Answer, Prepare, Promise, Accept, Accepted, Nack, Learn, Ask, Install, TxPrepare, TxVote, TxOutcome, TxElsewhere, TxWatch, TxWatched, Told as ToldMail, Node, Seat, Deliver}
use Rattle.sc_base.specs.Definitions.{is_member}
use Rattle.sc_actor.specs.Definitions.{mails, are_apart, row_of}
use Rattle.sc_words.specs.paxos.PaxosDefinitions.{below}
use Rattle.sc_node_table.specs.NodeDefinitions.{entered, NodeState, replica_of, group_of_mail, may_come, ReplicaState, Place, next, mailed}
use Rattle.sc_law_walks.proofs.WalkLemmas.{entered_next}
use Rattle.sc_meaning.specs.sound.SoundDefinitions.{Player, player_table}
use Rattle.sc_live_steps.specs.calm.CalmDefinitions.{players, MayCount, MayTake, StaysIn, IsCalmMailAt, Takes as TakesAt, Learns as LearnsAt, Makes as MakesAt, Misses as MissesAt, MayPump, Follows, group_owes, after_mail, MayMiss, Ways, StandsOnce, Rows, led_elsewhere}
use Rattle.sc_live_steps.proofs.CalmStepsProofs.CalmStepLemmas.{unbound_new}
use Rattle.sc_live_steps.specs.following.FollowingDefinitions.{IsOther, Mark, Asks, Votes, Teaches, Installs, Prepares, Promises, mark_of, Course, Progress, Sets, members_at, IsHeir, SlotLeaders, AreHeeded, Stays}
use Rattle.sc_live_steps.proofs.FollowingProofs.FollowingLemmas.{same_mark, states, heirs_elect}
use Rattle.sc_live_journals.specs.rows.RowDefinitions.{promise_in, progress_at, marks_at, mark_in, taken_mark, IsScene, TakesMail, HoldsReplica, with_event, IsReplicasRow}
use Rattle.sc_live_journals.proofs.RowsProofs.RowMarks.{HasMark}
use Rattle.sc_live_journals.proofs.RowsProofs.RowLemmas.{names_stay, apart_off as led_off, goes_on, row_in, head, all_fit, known, within, no_lead, fit, found_name, rows_replicas, Plays, Found, found_well, replay_well}
use Rattle.sc_live_journals.specs.groups.GroupDefinitions.{Ends, hint_in, hints_at, IsOfLog, IsLogsState, AreWellBorn}
use Rattle.sc_live_answers.specs.AnswerDefinitions.{MeetsMail, IsPlain, NeedsBesides, IsNoRequest, NeedsAt}
use Rattle.sc_live_answers.proofs.LedMailProofs.LeadersElsewhere.{IsApart, owes_same, owes_most, stands_here, elsewhere_apart, apart_off, none_of}
use Rattle.sc_live_answers.proofs.LedMailProofs.FollowerRows.{next_with, still_named, IsLeft, left_by, nines_at, stays_behind}
use Rattle.std.proofs.lemmas.Option.{same_Some}
use Rattle.sc_live_answers.proofs.BallotsProofs.WellPlayers.{plays_of}

module _ (at : Sets) (over : Ends) (by : SlotLeaders) (words : ℕ → ℕ → ℕ × ℕ) (births : List (Seat Player)) (prefix rows : Rows) (seat : Seat Player) (number : ℕ) (mail : Mail) (node : NodeState) (base : Base) (course : Course)
    (m : MeetsMail at over by words births prefix rows seat number mail node base course) (apart : are_apart births ≡ true) (born : AreWellBorn births) (comes : may_come mail.from mail.body ≡ true)
    (group : group_of_mail mail.body ≡ Some base.core.id) (ways : Ways) (groups : List Draw) (once : StandsOnce base.core.id groups) where
  abbrev name : Draw
  name = base.core.id

  abbrev now : Progress
  now = progress_at births rows base course

  abbrev Calm : Type 0
  Calm = IsCalmMailAt ways groups (led_elsewhere births rows seat.who) mail.from mail.body node

  abbrev scene : IsScene at words births rows seat node base course
  scene = record { rosters = m.one.log.rosters; seated = m.seated; fact = m.fact; followed = m.led.followed }

  abbrev takes : TakesMail words births rows seat number mail
  takes = record { timely = m.timely; sent = m.delivers.sent; comes = comes }

  abbrev behind : Rows
  behind = row_of player_table seat rows (Deliver number) ∷ m.delivers.row.more

  begins : prefix ≡ rows ++ behind
  begins = m.delivers.row.fact ∙ append_assoc rows (row_of player_table seat rows (Deliver number) ∷ []) m.delivers.row.more

  plays : Plays seat.who (Node node)
  plays = subst (Plays seat.who) m.fact (replay_well seat.who seat.who rows seat.actor [] (plays_of seat.who seat.actor (born.well seat m.seated)))

  -- another leads then, or the group is gone
  is_apart : led_elsewhere births rows seat.who base.core.id ≡ true → IsApart course seat.who
  is_apart e = elsewhere_apart at over by words births prefix rows behind base course m.one begins m.led apart seat.who e

  -- the one that leads sends a state as a member
  module _ (slot : ℕ) (state : Base) (sets : List (List ℕ)) (body : mail.body ≡ Install base.core.id slot state sets) where
    abbrev state_mark : HasMark base mail (Installs slot)
    state_mark = ap (mark_of name mail.from) body ∙ same_mark name (Installs slot)

    logs : IsLogsState at by base slot mail.from state sets
    logs = m.one.sent rows seat number mail slot state sets m.delivers body

    no_leader : IsOther course seat.who
    no_leader = (let least = (all_fit at words births rows seat node base course scene number mail takes (Installs slot) state_mark).0 in no_lead at words births rows seat node base course scene number mail takes (Installs slot) state_mark (omega (arith, least)))

    sent_member : is_member state.core.members mail.from ≡ true
    sent_member =
        let first_is = head at words births rows seat node base course scene number mail takes (Installs slot) state_mark in
        ap (is_member state.core.members) logs.slot_leader
        ∙ (ap (λ ms. is_member ms (by slot)) (sym logs.members_are)
        ∙ (subst (AreHeeded at by course seat.who (now.promise seat.who) (hints_at births rows base seat.who)) first_is (m.led.heeded.heeds seat.who no_leader)).0)

    pub makes : replica_of base.core.id node.replicas ≡ None → Calm
    makes none = MakesAt name (record {
      once = once;
      none = none;
      slot = slot;
      base = state;
      sets = sets;
      body_is = body;
      behind = λ led. states.runs node.me mail.from name slot state sets sent_member;
    })

  -- ---- a node without replica

  misses : replica_of base.core.id node.replicas ≡ None → MayMiss mail.body → Calm
  misses none may = MissesAt name (record { named = group; none = none; may = may })

  pub misses_body : replica_of base.core.id node.replicas ≡ None → (b : MailBody) → mail.body ≡ b → IsNoRequest b → Calm
  misses_body none (Request g client seq op) e k = absurd k
  misses_body none (Learn g slot command) e k =
      let g_is : g ≡ name = same_Some g name (sym (ap group_of_mail e) ∙ group) in
      let body : mail.body ≡ Learn name slot command = e ∙ ap (λ n. Learn n slot command) g_is in
      let fact : mark_of name mail.from mail.body ≡ Some (Teaches slot) = ap (mark_of name mail.from) body ∙ same_mark name (Teaches slot) in
      elim (m.sent.finds rows seat number mail node m.delivers m.seated m.fact none) [
        | inl unmarked ↦ (let bad : Some (Teaches slot) ≡ None = sym fact ∙ unmarked in cc)
        | inr i ↦ (let bad : Learn name slot command ≡ Install name i.0 i.1 i.2 = sym body ∙ i.3 in cc)
      ]
  misses_body none (Install g slot state sets) e k = makes slot state sets (e ∙ ap (λ n. Install n slot state sets) (same_Some g name (sym (ap group_of_mail e) ∙ group))) none
  misses_body none (Answer g seq answer) e k = (let bad : None ≡ Some name = sym (ap group_of_mail e) ∙ group in cc)
  misses_body none (ToldMail order result) e k = (let bad : None ≡ Some name = sym (ap group_of_mail e) ∙ group in cc)
  misses_body none _ e k = misses none (subst MayMiss (sym e) tt)

  -- ---- one with a replica

  module _ (r : ReplicaState) (here : replica_of base.core.id node.replicas ≡ Some r) where
    has : HoldsReplica seat node base r
    has = record { here = here; well = subst (Found seat.who) here (found_well seat.who name node.replicas plays.1) }

    abbrev after : Place
    after = (mailed mail.from mail.body (r, [])).0

    row : IsReplicasRow births rows seat (Deliver number) base.core.id (Some r) (mailed mail.from mail.body (r, [])).0
    row = rows_replicas.taken births rows seat number mail name node r m.seated m.fact m.delivers.sent comes group here

    log_here : IsOfLog at over r
    log_here = m.one.states rows behind seat.who r begins row.was

    log_after : IsOfLog at over (mailed mail.from mail.body (r, [])).0.0
    log_after = m.one.states (with_event rows seat (Deliver number)) m.delivers.row.more seat.who after.0 m.delivers.row.fact row.fact

    stays : StaysIn mail.from base.core.id mail.body r node
    stays = record {
      taken = record { comes = comes; named = group; found = here };
      here = has.well.0 ∙ sym plays.0;
      same = names_stay.mailed mail.from mail.body r ∙ found_name name node.replicas r here;
    }

    off_here : led_elsewhere births rows seat.who base.core.id ≡ true → r.running ≡ false
    off_here e = apart_off at over by words births prefix rows behind base course m.one begins m.led seat.who r row.was (is_apart e)

    left : led_elsewhere births rows seat.who base.core.id ≡ true → IsLeft r (taken_mark base.core.id (mails rows) (Deliver number)) (mailed mail.from mail.body (r, [])).0.0
    left e = left_by at over by births rows seat (Deliver number) base course (is_apart e) r after row (off_here e) m.step.later m.step.row

    marked : taken_mark base.core.id (mails rows) (Deliver number) ≡ mark_of base.core.id mail.from mail.body
    marked = ap (mark_in name) m.delivers.sent

    -- a mail by which no replica goes further
    still : next_with (next r) (mark_of base.core.id mail.from mail.body) ≡ next r → led_elsewhere births rows seat.who base.core.id ≡ true → group_owes r ≤ group_owes (after_mail mail.from mail.body r).0
    still same e =
        let l = left e in
        let place : next after.0 ≡ next r = l.1 ∙ (ap (next_with (next r)) marked ∙ same) in
        owes_same r after.0 (off_here e) l.0 (log_here.ends ∙ (ap over (sym place) ∙ sym log_after.ends))

    takes_so : (b : MailBody) → mail.body ≡ b → MayTake ways r b → (led_elsewhere births rows seat.who base.core.id ≡ true → group_owes r ≤ group_owes (after_mail mail.from mail.body r).0) → Calm
    takes_so b e may alone = TakesAt name r once (record { stays = stays; may = subst (MayTake ways r) (sym e) may; alone = alone })

    takes_still : (b : MailBody) → mail.body ≡ b → MayTake ways r b → next_with (next r) (mark_of base.core.id mail.from b) ≡ next r → Calm
    takes_still b e may same = takes_so b e may (still (ap (λ (x : MailBody). next_with (next r) (mark_of name mail.from x)) e ∙ same))

    pumps : IsPlain r → MayPump r
    pumps plain = record { unbound = λ slot low. unbound_new r.leader none slot; few = nines_at at m.one.log.rosters (next r) r.sets log_here.opens }
      where
        none : r.leader.reports ≡ []
        none = elim (cases_Bool r.running) [ inl runs ↦ (m.led.orderly seat.who r row.was runs).plain | inr off ↦ plain off ]

    -- ---- an entry

    module _ (slot : ℕ) (command : Command) (body : mail.body ≡ Learn base.core.id slot command) where
      abbrev mark : Mark
      mark = Teaches slot

      abbrev fact : HasMark base mail (Teaches slot)
      fact = ap (mark_of name mail.from) body ∙ same_mark name (Teaches slot)

      fits : slot ≡ next r
      fits = (fit at words births rows seat node base course scene number mail takes r has mark fact after row).1

      logs_then : IsOfLog at over (entered command r)
      logs_then = (m.one.told rows seat number mail slot command r m.delivers body row.was fits).1

      most : suc slot ≤ course.newest
      most = within at words births rows seat node base course scene number mail takes mark fact

      leads_not : IsOther course seat.who
      leads_not = (let place = (all_fit at words births rows seat node base course scene number mail takes mark fact).0.1 in no_lead at words births rows seat node base course scene number mail takes mark fact (omega (arith, place)))

      off : r.running ≡ false
      off = led_off at words births rows seat node base course scene r row.was leads_not

      flights : r.leader.flights ≡ []
      flights = (has.well.3 off).0

      follows : Follows command r
      follows = record {
        stopped = off;
        stands = stands_here at over by words births prefix rows behind base course m.one begins m.led seat.who r row.was (let up = most in let place = fits in omega (arith, up, place));
        flights = flights;
        few = nines_at at m.one.log.rosters (next (entered command r)) (entered command r).sets logs_then.opens;
      }

      which : Stays (entered command r) ⊎ IsHeir (progress_at births rows base course) slot command r
      which =
          let e_next : next (entered command r) ≡ suc slot = (let up = entered_next command r in let place = fits in omega (arith, up, place)) in
          let head_is = head at words births rows seat node base course scene number mail takes mark fact in
          heirs_elect at by now (hints_at births rows base) (marks_at (players words births) rows name) slot (row_in at words births rows seat node base course scene number mail takes).left command r m.led.heeded
          (subst (λ n. marks_at (players words births) rows name n ≡ Teaches slot ∷ (row_in at words births rows seat node base course scene number mail takes).left) (sym has.well.0) head_is) (record {
            other = λ runs mine. leads_not runs (sym has.well.0 ∙ mine);
            hint = subst (λ n. r.hint ≡ hints_at births rows base n) (sym has.well.0) (sym (ap (hint_in base) row.was));
            members_are = (let same : slot + 1 ≡ next (entered command r) = omega (arith, e_next) in ap (members_at at) same ∙ logs_then.members_are);
            ends = λ last. logs_then.ends ∙ (ap over (e_next ∙ last) ∙ sym m.led.ends);
          })

      low : slot ≤ next r
      low = (let place = fits in omega (arith, place))

      behind_it : led_elsewhere births rows seat.who base.core.id ≡ true → Stays (entered command r)
      behind_it e = elim which [
        | inl stays ↦ stays
        | inr heir ↦ elim (is_apart e) [
          | inl another ↦ absurd (true≢false (sym another.0 ∙ heir.idle))
          | inr gone ↦ absurd (true≢false (sym gone ∙ heir.stands))
        ]
      ]

      pub learns : Calm
      learns = elim (cases_Bool (led_elsewhere births rows seat.who name)) [
        | inl t ↦ LearnsAt name r (record {
          stays = stays;
          led = t;
          slot = slot;
          command = command;
          body_is = body;
          learns = record { stopped = off; flights = flights; low = low; behind = stays_behind command r off flights (behind_it t) };
        })
        | inr f ↦ takes_so (Learn name slot command) body (inr (follows, low)) (λ t. absurd (true≢false (sym t ∙ f)))
      ]

    -- ---- a state

    module _ (slot : ℕ) (state : Base) (sets : List (List ℕ)) (body : mail.body ≡ Install base.core.id slot state sets) where
      -- the replica is of a group that stands then
      stands_then : led_elsewhere births rows seat.who base.core.id ≡ true → (mailed mail.from mail.body (r, [])).0.0.group.core.gone ≡ None
      stands_then e =
          let place : next after.0 ≡ suc slot = (left e).1 ∙ (ap (next_with (next r)) marked ∙ ap (next_with (next r)) (state_mark slot state sets body)) in
          let same : next after.0 ≡ slot + 1 = omega (arith, place) in
          none_of after.0.group.core.gone (log_after.ends ∙ (ap over same ∙ m.standing slot state sets body))

      pub installs : Calm
      installs =
          let fact = state_mark slot state sets body in
          let at_least = fit at words births rows seat node base course scene number mail takes r has (Installs slot) fact after row in
          let up = within at words births rows seat node base course scene number mail takes (Installs slot) fact in
          let off = led_off at words births rows seat node base course scene r row.was (no_leader slot state sets body) in
          let stood = stands_here at over by words births prefix rows behind base course m.one begins m.led seat.who r row.was (omega (arith, at_least, up)) in
          takes_so (Install name slot state sets) body (off, stood) (λ e. owes_most r after.0 (left e).0 (stands_then e))

    -- ---- each body

    pub by_body : (b : MailBody) → mail.body ≡ b → NeedsBesides ways r b → Calm
    by_body (Request g client seq op) e k =
        takes_still (Request g client seq op) e (found_name name node.replicas r here ∙ sym (same_Some g name (sym (ap group_of_mail e) ∙ group)), pumps k.0, k.1) refl
    by_body (Prepare g ballot from_slot) e k =
        let body : mail.body ≡ Prepare name ballot from_slot = e ∙ ap (λ n. Prepare n ballot from_slot) (same_Some g name (sym (ap group_of_mail e) ∙ group)) in
        let fact : mark_of name mail.from mail.body ≡ Some (Prepares ballot) = ap (mark_of name mail.from) body ∙ same_mark name (Prepares ballot) in
        takes_still (Prepare g ballot from_slot) e (goes_on at words births rows seat node base course scene r row.was ballot (known at words births rows seat node base course scene number mail takes (Prepares ballot) fact)) (still_named (next r) name g (Prepares ballot) refl)
    by_body (Promise g ballot reports) e k =
        let body : mail.body ≡ Promise name ballot reports = e ∙ ap (λ n. Promise n ballot reports) (same_Some g name (sym (ap group_of_mail e) ∙ group)) in
        takes_still (Promise g ballot reports) e (m.sent.plain rows seat number mail ballot reports m.delivers body, pumps k) (still_named (next r) name g (Promises mail.from ballot) refl)
    by_body (Accept g ballot slot command) e k =
        let body : mail.body ≡ Accept name ballot slot command = e ∙ ap (λ n. Accept n ballot slot command) (same_Some g name (sym (ap group_of_mail e) ∙ group)) in
        let fact : mark_of name mail.from mail.body ≡ Some (Asks ballot slot) = ap (mark_of name mail.from) body ∙ same_mark name (Asks ballot slot) in
        let fits = fit at words births rows seat node base course scene number mail takes r has (Asks ballot slot) fact after row in
        takes_still (Accept g ballot slot command) e
        (goes_on at words births rows seat node base course scene r row.was ballot (ap (below course.ballot) (fits.2 ∙ sym (ap (promise_in base) row.was)) ∙ m.led.followed.follows.promised seat.who)) (still_named (next r) name g (Asks ballot slot) refl)
    by_body (Accepted g ballot slot) e k = takes_still (Accepted g ballot slot) e counts (still_named (next r) name g (Votes mail.from ballot slot) refl)
      where
        counts : MayCount slot r
        counts = elim (cases_Bool r.running) [ inl runs ↦ k runs | inr off ↦ inl off ]
    by_body (Nack g promised) e k =
        let body : mail.body ≡ Nack name promised = e ∙ ap (λ n. Nack n promised) (same_Some g name (sym (ap group_of_mail e) ∙ group)) in
        takes_still (Nack g promised) e (m.sent.nacks rows seat number mail promised r m.delivers body row.was) refl
    by_body (Learn g slot command) e k = learns slot command (e ∙ ap (λ n. Learn n slot command) (same_Some g name (sym (ap group_of_mail e) ∙ group)))
    by_body (Ask g from_slot) e k = absurd (m.sent.asks rows seat number mail from_slot m.delivers (e ∙ ap (λ n. Ask n from_slot) (same_Some g name (sym (ap group_of_mail e) ∙ group))))
    by_body (Install g slot state sets) e k = installs slot state sets (e ∙ ap (λ n. Install n slot state sets) (same_Some g name (sym (ap group_of_mail e) ∙ group)))
    by_body (TxPrepare tx offer) e k = takes_still (TxPrepare tx offer) e (pumps k.0, k.1, k.2) refl
    by_body (TxVote tx coord part vote) e k = takes_still (TxVote tx coord part vote) e (pumps k) refl
    by_body (TxOutcome tx part outcome) e k = takes_still (TxOutcome tx part outcome) e (pumps k) refl
    by_body (TxElsewhere tx coord hint) e k = takes_still (TxElsewhere tx coord hint) e k refl
    by_body (TxWatch tx watch) e k = takes_still (TxWatch tx watch) e (pumps k.0, k.1, k.2) refl
    by_body (TxWatched tx coord part vote) e k = takes_still (TxWatched tx coord part vote) e (pumps k) refl
    by_body (Answer g seq answer) e k = (let bad : None ≡ Some name = sym (ap group_of_mail e) ∙ group in cc)
    by_body (ToldMail order result) e k = (let bad : None ≡ Some name = sym (ap group_of_mail e) ∙ group in cc)

  finds_at : (o : Option ReplicaState) → replica_of base.core.id node.replicas ≡ o → NeedsAt ways o mail.body → Calm
  finds_at None here k = misses_body here mail.body refl k
  finds_at (Some r) here k = by_body r here mail.body refl k

  pub finds : NeedsAt ways (replica_of base.core.id node.replicas) mail.body → Calm
  finds k = finds_at (replica_of name node.replicas) refl k
