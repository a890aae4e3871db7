-- Which groups that were nowhere in the quiet are there, while an order is under way, and where, is kept by each delivery.
use Rattle.std.proofs.Common.{◌≡◌, ◌⊎◌, ℕ, suc, ◌+◌, ◌<◌, length, eqb, nat_lt, Bool, true, false, true≢false, List, [], ◌++◌, take, Option, Some, None, inl, inr, refl, sym, ◌∙◌, ap, subst, arith}
use Rattle.std.specs.List.{list_any}
use Rattle.std.proofs.lemmas.Bool.{cases_Bool, cond-false, eqb-true, cases_eq}
use Rattle.sc_base.specs.Definitions.{Among, same_ballot, same_draw, is_member}
use Rattle.sc_node_table.specs.Values.{Ballot, Draw, Command, Base, OrderLine, Mail, MailBody, Accepted, Learn, Install, Seat, Deliver, Node, NotYet}
use Rattle.sc_actor.specs.Definitions.{row_of}
use Rattle.sc_live_orderly.proofs.OrderlyLemmas.{is_born-from}
use Rattle.sc_group_table.specs.machine.MachineDefinitions.{child_by, Group, group_of, state_after, applied, right_members}
use Rattle.sc_scenario.specs.declared.scenario.scenarios.Scenario.{Scenario}
use Rattle.sc_node_table.specs.NodeDefinitions.{child_at, group_of_mail, ReplicaState, Executed, born_replica, next, last_slot, set_at, childless, learn_row, mailed, slots_ahead, leads, vote_tallied, voted, accepted_row}
use Rattle.sc_words.specs.paxos.PaxosDefinitions.{flight_at, counted, vote_at}
use Rattle.sc_words.proofs.PaxosProofs.PaxosLemmas.{Each-among}
use Rattle.sc_law_walks.proofs.WalkLemmas.{either_way}
use Rattle.sc_meaning.specs.sound.SoundDefinitions.{groups_at, decided_log, Player, player_table, births, as_nodes}
use Rattle.sc_live_steps.specs.calm.CalmDefinitions.{players, HasReplica, Rows}
use Rattle.sc_live_steps.proofs.OrderStepsProofs.OrderStepLemmas.{cases-draw}
use Rattle.sc_live_journals.specs.rows.RowDefinitions.{view_at, with_event, IsWellKept}
use Rattle.sc_live_journals.proofs.RowsProofs.RowLemmas.{view_others, Plays, Found, found_well, replay_well, none_some}
use Rattle.sc_live_journals.specs.groups.GroupDefinitions.{ScenariosAreWellBorn}
use Rattle.sc_live_journals.specs.scenes.SceneDefinitions.{LeaderFinds, BesideFinds, FindsReplica, AtLeader, AtAnother, FindsFlight, Late, Leaves, Changed, Opened, Voted, Aborted, Decided, Heard, Ended, IsThere, IsNowhere}
use Rattle.sc_live_journals.proofs.ScenesProofs.SceneLemmas.{OneOf}
use Rattle.sc_live_answers.specs.AnswerDefinitions.{Task, Creates, SaysWork, IsOff, DeliveriesKeepWork, Knows, AreCreatedByOrder, IsWorkingRow}
use Rattle.sc_live_answers.proofs.ChildrenProofs.KnownChildren.{HasCreated, kid_members, new_born}
use Rattle.sc_live_answers.proofs.WorkProofs.WorkInPrefixes.{takes_one, taken_mail}
use Rattle.sc_live_answers.proofs.ChildrenProofs.YoungGroupRows.{node_number}
use Rattle.sc_live_answers.proofs.ChildrenProofs.CreatedGroups.{IsCreated, created, knows_made, knows_still}
use Rattle.sc_live_answers.proofs.ChildrenProofs.Lineage.{child_made}
use Rattle.sc_live_answers.proofs.LedMailProofs.MailEntries.{IsStateless, IsShort, GoesOn, IsRest, kids_of, mailed_goes, rest_leaves}
use Rattle.sc_live_answers.proofs.ReplicasProofs.PlayerRowReplicas.{RowKind, Takes, Makes, row_kind}
use Rattle.sc_live_answers.proofs.ChildrenProofs.ChildrenInLogs.{OfJournals, all_found, created_by, state_of}
use Rattle.std.proofs.lemmas.Option.{same_Some}
use Rattle.sc_live_answers.proofs.BallotsProofs.WellPlayers.{plays_of}

-- ---- where nothing is ready, or a group stays

module _ (r : ReplicaState) (from : ℕ) where
  abbrev Same : MailBody → Type 0
  Same body = (mailed from body (r, [])).0.0.group ≡ r.group

  rest_same : (body : MailBody) → IsRest body → Same body
  rest_same body s = rest_leaves r [] from body s

  late_count : (ballot : Ballot) (slot : ℕ) (set : List ℕ) → flight_at slot r.leader.flights ≡ None → (vote_tallied slot (counted from ballot slot set r.leader) (r, [])).0.0.group ≡ r.group
  late_count ballot slot set e =
      either_way (λ p. (vote_tallied slot p (r, [])).0.0.group ≡ r.group) (same_ballot ballot r.leader.ballot) (vote_at from slot set (flight_at slot r.leader.flights) r.leader) (NotYet 0, r.leader)
      (subst (λ o. (vote_tallied slot (vote_at from slot set o r.leader) (r, [])).0.0.group ≡ r.group) (sym e) refl) refl

  late_same : (group : Draw) (ballot : Ballot) (slot : ℕ) → flight_at slot r.leader.flights ≡ None → Same (Accepted group ballot slot)
  unfolding mailed accepted_row
  late_same group ballot slot e =
      either_way (λ (x : Executed). x.0.0.group ≡ r.group) (leads ballot r) (voted from ballot slot (set_at slot r) (r, [])) (childless (r, [])) (by (set_at slot r)) refl
    where
      by : (o : Option (List ℕ)) → (voted from ballot slot o (r, [])).0.0.group ≡ r.group
      by None = refl
      by (Some set) = late_count ballot slot set e

  old_same : (group : Draw) (slot : ℕ) (command : Command) → slot < next r → Same (Learn group slot command)
  unfolding mailed learn_row
  old_same group slot command less =
      either_way (λ (x : Executed). x.0.0.group ≡ r.group) (nat_lt last_slot slot) _ _ refl
      (subst (λ (x : Executed). x.0.0.group ≡ r.group) (sym (cond-false (eqb slot (next r)) _ _ (differs (eqb slot (next r)) refl))) (either_way (λ (x : Executed). x.0.0.group ≡ r.group) (nat_lt (next r) slot) _ _ refl refl))
    where
      differs : (b : Bool) → eqb slot (next r) ≡ b → b ≡ false
      differs false e = refl
      differs true e = (let same : slot ≡ next r = eqb-true slot (next r) e in absurd (omega (arith, same, less)))

module _ (all : List (Seat Player)) (rows : Rows) (seat : Seat Player) (number : ℕ) (mail : Mail) (group : Draw) (r : ReplicaState) (kept : IsWellKept seat.who r) where
  abbrev Out : MailBody → Type 0
  Out body = ((mailed mail.from body (r, [])).0.0.group ≡ r.group) ⊎ (r.ready ≡ [])

  by_flight : (named : Draw) (ballot : Ballot) (slot : ℕ) → mail.body ≡ Accepted named ballot slot → FindsFlight all rows seat number mail group r slot → Out (Accepted named ballot slot)
  by_flight named ballot slot e (Late none) = inl (late_same r mail.from named ballot slot none)
  by_flight named ballot slot e (Leaves w) = inl (subst (λ b. (mailed mail.from b (r, [])).0.0.group ≡ r.group) e w.group)
  by_flight named ballot slot e (Changed flight order lone m i o) = inr lone.ready
  by_flight named ballot slot e (Opened flight tx asked watch n lone m i s o) = inr lone.ready
  by_flight named ballot slot e (Voted flight tx coord watch agreed b lone m i u s o) = inr lone.ready
  by_flight named ballot slot e (Aborted flight tx b lone m i) = inr lone.ready
  by_flight named ballot slot e (Decided flight tx asked turn b lone m i o) = inr lone.ready
  by_flight named ballot slot e (Heard flight tx asked watcher b n lone m i o s p) = inr lone.ready
  by_flight named ballot slot e (Ended flight tx lone m i) = inr lone.ready

  at_leader : (body : MailBody) → mail.body ≡ body → IsStateless body → LeaderFinds all rows seat number mail group r body → Out body
  at_leader (Accepted named ballot slot) e s f = by_flight named ballot slot e f
  at_leader (Learn named slot command) e s f = inl (old_same r mail.from named slot command f)
  at_leader (Install named slot base sets) e s f = absurd s
  at_leader body e s f = inl (rest_same r mail.from body tt)

  beside : (body : MailBody) → IsStateless body → BesideFinds mail r body → Out body
  beside (Accepted named ballot slot) s f = inr (kept.3 f).1
  beside (Learn named slot command) s f = inr f.ready
  beside (Install named slot base sets) s f = absurd s
  beside body s f = inl (rest_same r mail.from body tt)

  finds_out : IsStateless mail.body → FindsReplica all rows seat number mail group r → Out mail.body
  finds_out s (AtLeader lead f) = at_leader mail.body refl s f
  finds_out s (AtAnother b f) = beside mail.body s f

-- an order that splits sends no state
off_true : (b : Bool) → b ≡ true → IsOff b → ⊥
off_true true e k = k
off_true false e k = true≢false (sym e)

says_stateless : (task : Task) (body : MailBody) → task.splitting ≡ true → SaysWork task body → IsStateless body
says_stateless task (Install group slot base sets) on s = absurd (off_true task.splitting on s.0)
says_stateless task _ on s = tt

-- ---- a delivery

module _ (laws : OfJournals) (well : ScenariosAreWellBorn) (keeps : DeliveriesKeepWork) (words : ℕ → ℕ → ℕ × ℕ) (scenario : Scenario) (first : Base) (journal quiet rows : Rows) (line : OrderLine) (task : Task) (seat : Seat Player) (number : ℕ)
    (w : IsWorkingRow words scenario first journal quiet rows line task seat number) (prior : AreCreatedByOrder scenario journal quiet rows task) where
  abbrev all : List (Seat Player)
  all = births as_nodes scenario

  abbrev after : Rows
  after = with_event rows seat (Deliver number)

  abbrev mail : Mail
  mail = (taken_mail words (births as_nodes scenario) rows seat number w.guided.seated w.guided.timely).0

  says : SaysWork task mail.body
  says = takes_one words (births as_nodes scenario) rows seat number w.guided.seated w.guided.timely (λ m. SaysWork task m.body) (w.work.mail seat.who (is_born-from (players words (births as_nodes scenario)) seat.who seat w.guided.seated)) mail (taken_mail words (births as_nodes scenario) rows seat number w.guided.seated w.guided.timely).1

  -- the mail is of no group that was nowhere
  no_mail : (base : Base) → Among base (groups_at as_nodes scenario.groups journal) → IsNowhere (births as_nodes scenario) quiet base.core.id → group_of_mail mail.body ≡ Some base.core.id → ⊥
  no_mail base fact nowhere =
      takes_one words (births as_nodes scenario) rows seat number w.guided.seated w.guided.timely (λ m. group_of_mail m.body ≡ Some base.core.id → ⊥)
      ((w.under.young base fact nowhere).unsent seat.who (is_born-from (players words (births as_nodes scenario)) seat.who seat w.guided.seated)) mail (taken_mail words (births as_nodes scenario) rows seat number w.guided.seated w.guided.timely).1

  kind : RowKind words (births as_nodes scenario) rows seat number mail
  kind =
      row_kind words (births as_nodes scenario) rows seat number w.guided.seated w.guided.timely mail (taken_mail words (births as_nodes scenario) rows seat number w.guided.seated w.guided.timely).1
      (λ group seq answer e. keeps.unanswered words (births as_nodes scenario) rows seat number task w.guided.seated w.guided.timely w.work mail group seq answer (taken_mail words (births as_nodes scenario) rows seat number w.guided.seated w.guided.timely).1 e)
      (λ node fact. node_number well scenario rows seat node w.guided.seated fact)

  else_stays : (name : Draw) (who : ℕ) → (who ≡ seat.who → ⊥) → view_at (births as_nodes scenario) after name who ≡ view_at (births as_nodes scenario) rows name who
  else_stays name who ne = view_others (births as_nodes scenario) rows (row_of player_table seat rows (Deliver number)) name who ne

  module _ (t : Takes words (births as_nodes scenario) rows seat number mail) where
    b_of : (kid : Base) → Among kid (mailed mail.from mail.body (t.r, [])).1 → IsCreated task t.group t.r kid
    b_of kid a =
        let k = Each-among (λ (child : Base). Creates task t.group child × (list_any (λ other. same_draw other child.core.id) t.r.group.core.born ≡ false)) (mailed mail.from mail.body (t.r, [])).1 kid
        (keeps.creation words scenario rows seat number task w.guided w.work mail t.group t.node t.r t.taking t.here) a in
        created task t.group t.r kid k.0 k.1

    kept_well : IsWellKept seat.who t.r
    kept_well =
        let plays : Plays seat.who (Node t.node) = subst (Plays seat.who) t.taking.is_node (replay_well seat.who seat.who rows seat.actor [] (plays_of seat.who seat.actor ((well scenario).well seat t.taking.seated))) in
        subst (Found seat.who) t.here (found_well seat.who t.group t.node.replicas plays.1)

    not_own : (base : Base) → Among base (groups_at as_nodes scenario.groups journal) → IsNowhere (births as_nodes scenario) quiet base.core.id → base.core.id ≡ t.group → ⊥
    not_own base fact nowhere i = no_mail base fact nowhere (t.taking.named ∙ ap Some (sym i))

  -- ---- which are there

  new_one : (base : Base) → Among base (groups_at as_nodes scenario.groups journal) → IsNowhere (births as_nodes scenario) quiet base.core.id → (x : ReplicaState) → view_at (births as_nodes scenario) after base.core.id seat.who ≡ Some x
      → RowKind words (births as_nodes scenario) rows seat number mail → (task.splitting ≡ true) × (base.core.id ≡ task.name)
  new_one base fact nowhere x v (inl stay) = prior.only base fact nowhere (seat.who, x, sym (stay base.core.id) ∙ v)
  new_one base fact nowhere x v (inr (inr m)) = prior.only base fact nowhere (seat.who, x, sym (m.others base.core.id (λ i. no_mail base fact nowhere (ap group_of_mail m.body ∙ ap Some (sym i)))) ∙ v)
  new_one base fact nowhere x v (inr (inl t)) = by (t.others base.core.id (not_own t base fact nowhere))
    where
      by : OneOf base.core.id seat.who (mailed mail.from mail.body (t.r, [])).1 (view_at (births as_nodes scenario) after base.core.id seat.who) (view_at (births as_nodes scenario) rows base.core.id seat.who) → (task.splitting ≡ true) × (base.core.id ≡ task.name)
      by (inl same) = prior.only base fact nowhere (seat.who, x, sym same ∙ v)
      by (inr (child, a, id, none, makes)) = (let b = b_of t child a in (b.splits, sym id ∙ b.name))

  only : (base : Base) → Among base (groups_at as_nodes scenario.groups journal) → IsNowhere (births as_nodes scenario) quiet base.core.id → IsThere (births as_nodes scenario) after base.core.id → (task.splitting ≡ true) × (base.core.id ≡ task.name)
  only base fact nowhere (who, x, v) = elim (cases_eq who seat.who) [
    | inl e ↦ new_one base fact nowhere x (ap (view_at (births as_nodes scenario) after base.core.id) (sym e) ∙ v) kind
    | inr ne ↦ prior.only base fact nowhere (who, x, sym (else_stays base.core.id who ne) ∙ v)
  ]

  -- ---- the parent knows it

  module _ (on : task.splitting ≡ true) (base : Base) (fact : Among base (groups_at as_nodes scenario.groups journal)) (id : base.core.id ≡ task.name) where
    nowhere : IsNowhere (births as_nodes scenario) quiet base.core.id
    nowhere = subst (IsNowhere (births as_nodes scenario) quiet) (sym id) (w.of.new on)

    stateless : IsStateless mail.body
    stateless = says_stateless task mail.body on says

    no_state : (m : Makes words (births as_nodes scenario) rows seat number mail) → ⊥
    no_state m = (let bad : SaysWork task (Install m.group m.slot m.state m.sets) = subst (SaysWork task) m.body says in off_true task.splitting on bad.0)

    apart : (t : Takes words (births as_nodes scenario) rows seat number mail) → task.name ≡ t.group → ⊥
    apart t i = not_own t base fact nowhere (id ∙ i)

    abbrev Known : ℕ → Type 0
    Known who = (r : ReplicaState) × (view_at (births as_nodes scenario) after task.group who ≡ Some r) × Knows task.name r

    abbrev Was : ℕ → Type 0
    Was who = (r : ReplicaState) × (view_at (births as_nodes scenario) rows task.group who ≡ Some r) × Knows task.name r

    still_knows : (t : Takes words (births as_nodes scenario) rows seat number mail) → Was seat.who → Known seat.who
    still_knows t k = elim (cases-draw task.group t.group) [
      | inl e ↦ (
          let same : k.0 ≡ t.r = same_Some k.0 t.r (sym k.1 ∙ (ap (λ n. view_at (births as_nodes scenario) rows n seat.who) e ∙ t.was)) in (
            (mailed mail.from mail.body (t.r, [])).0.0,
            ap (λ n. view_at (births as_nodes scenario) after n seat.who) e ∙ t.fact,
            knows_still mail.from mail.body t.r task.name stateless (subst (λ (y : ReplicaState). HasCreated task.name y.group.core.born) same k.2),
          ))
      | inr ne ↦ by (t.others task.group ne)
    ]
      where
        by : OneOf task.group seat.who (mailed mail.from mail.body (t.r, [])).1 (view_at (births as_nodes scenario) after task.group seat.who) (view_at (births as_nodes scenario) rows task.group seat.who) → Known seat.who
        by (inl same) = (k.0, same ∙ k.1, k.2)
        by (inr (child, a, i, none, makes)) = absurd (none_some (sym none ∙ k.1))

    known_here : (x : ReplicaState) → view_at (births as_nodes scenario) after task.name seat.who ≡ Some x → RowKind words (births as_nodes scenario) rows seat number mail → Known seat.who
    known_here x v (inl stay) = (let k = prior.known on base fact id seat.who x (sym (stay task.name) ∙ v) in (k.0, stay task.group ∙ k.1, k.2))
    known_here x v (inr (inr m)) = absurd (no_state m)
    known_here x v (inr (inl t)) = by (t.others task.name (apart t))
      where
        by : OneOf task.name seat.who (mailed mail.from mail.body (t.r, [])).1 (view_at (births as_nodes scenario) after task.name seat.who) (view_at (births as_nodes scenario) rows task.name seat.who) → Known seat.who
        by (inl same) = still_knows t (prior.known on base fact id seat.who x (sym same ∙ v))
        by (inr (child, a, i, none, makes)) =
            let b = b_of t child a in
            ((mailed mail.from mail.body (t.r, [])).0.0, ap (λ n. view_at (births as_nodes scenario) after n seat.who) (sym b.own) ∙ t.fact, subst (λ n. HasCreated n (mailed mail.from mail.body (t.r, [])).0.0.group.core.born) b.name (knows_made mail.from mail.body t.r child a))

    known : (who : ℕ) (x : ReplicaState) → view_at (births as_nodes scenario) after task.name who ≡ Some x → Known who
    known who x v = elim (cases_eq who seat.who) [
      | inl e ↦ subst Known (sym e) (known_here x (ap (view_at (births as_nodes scenario) after task.name) (sym e) ∙ v) kind)
      | inr ne ↦ (let k = prior.known on base fact id who x (sym (else_stays task.name who ne) ∙ v) in (k.0, else_stays task.group who ne ∙ k.1, k.2))
    ]

    -- ---- where it knows it, there is one

    abbrev Has : ℕ → Type 0
    Has who = HasReplica (view_at (births as_nodes scenario) after) task.name who

    keep_there : (t : Takes words (births as_nodes scenario) rows seat number mail) → HasReplica (view_at (births as_nodes scenario) rows) task.name seat.who → Has seat.who
    keep_there t h = by (t.others task.name (apart t))
      where
        by : OneOf task.name seat.who (mailed mail.from mail.body (t.r, [])).1 (view_at (births as_nodes scenario) after task.name seat.who) (view_at (births as_nodes scenario) rows task.name seat.who) → Has seat.who
        by (inl same) = (h.0, same ∙ h.1)
        by (inr (child, a, i, none, makes)) = (born_replica slots_ahead seat.who child, makes)

    module _ (t : Takes words (births as_nodes scenario) rows seat number mail) (e : task.group ≡ t.group) (member : is_member base.core.members seat.who ≡ true) (not : HasCreated task.name t.r.group.core.born → ⊥)
        (knows : HasCreated task.name (mailed mail.from mail.body (t.r, [])).0.0.group.core.born) where
      abbrev made : Executed
      made = mailed mail.from mail.body (t.r, [])

      -- it was not the same before
      changed : made.0.0.group ≡ t.r.group → ⊥
      changed s = not (subst (λ (g : Group). HasCreated task.name g.core.born) s knows)

      -- the one entry that creates it
      by_entry : (command : Command) → made.0.0.group ≡ (applied t.r.group command).0 → next made.0.0 ≡ next t.r + 1 → made.1 ≡ child_at t.r.me (child_by t.r.group command) ++ [] → Has seat.who
      by_entry command after_is next_is kids =
          by (new_born t.r.group command task.name (subst (λ (g : Group). HasCreated task.name g.core.born) after_is knows))
        where
          p : (base : Base) × Among base (groups_at as_nodes scenario.groups journal) × (base.core.id ≡ t.group)
          p = w.named t.group seat.who t.r t.was

          was : (k : ℕ) × (next t.r ≡ suc k) × (t.r.group ≡ state_after (group_of p.0) (take k (decided_log as_nodes p.0 journal)))
          was = state_of laws words scenario journal w.calm p.0 p.1 rows w.under.prefix seat.who t.r (ap (λ n. view_at (births as_nodes scenario) rows n seat.who) p.2 ∙ t.was)

          is_now : (k : ℕ) × (next made.0.0 ≡ suc k) × (made.0.0.group ≡ state_after (group_of p.0) (take k (decided_log as_nodes p.0 journal)))
          is_now = state_of laws words scenario journal w.calm p.0 p.1 after w.goes.prefix seat.who made.0.0 (ap (λ n. view_at (births as_nodes scenario) after n seat.who) p.2 ∙ t.fact)

          one_more : is_now.0 ≡ suc was.0
          one_more = (let before = was.1 in let then = is_now.1 in omega (arith, before, then, next_is))

          known_then : HasCreated task.name (state_after (group_of p.0) (take (suc was.0) (decided_log as_nodes p.0 journal))).core.born
          known_then = subst (λ k. HasCreated task.name (state_after (group_of p.0) (take k (decided_log as_nodes p.0 journal))).core.born) one_more (subst (λ (g : Group). HasCreated task.name g.core.born) is_now.2 knows)

          members : base.core.members ≡ right_members t.r.group.core.members
          members = elim (created_by laws words scenario journal w.calm p.0 p.1 task.name was.0 known_then) [
            | inl h ↦ absurd (not (subst (λ (g : Group). HasCreated task.name g.core.born) (sym was.2) h))
            | inr k ↦ ap (λ (x : Base). x.core.members) (sym ((all_found laws words scenario journal w.calm).apart k.0 base k.1 fact (k.2 ∙ sym id))) ∙ (k.3 ∙ ap (λ (g : Group). right_members g.core.members) (sym was.2))
          ]

          by : HasCreated task.name t.r.group.core.born ⊎ ((kid : Base) × (child_by t.r.group command ≡ Some kid) × (kid.core.id ≡ task.name)) → Has seat.who
          by (inl h) = absurd (not h)
          by (inr (kid, is_kid, name)) =
              let own : is_member kid.core.members t.r.me ≡ true =
              ap (λ ms. is_member ms t.r.me) (kid_members t.r.group command kid is_kid ∙ sym members) ∙ (ap (is_member base.core.members) (kept_well t).0 ∙ member) in
              let among : Among kid made.1 = subst (Among kid) (sym (kids ∙ (ap (λ o. child_at t.r.me o ++ []) is_kid ∙ ap (λ (ks : List Base). ks ++ []) (child_made t.r.me kid own)))) (inl refl) in
              let there = t.made kid among (λ i. apart t (sym name ∙ i)) in
              (there.0, ap (λ n. view_at (births as_nodes scenario) after n seat.who) (sym name) ∙ there.1)

      new_kid : Has seat.who
      new_kid = elim (finds_out (births as_nodes scenario) rows seat number mail t.group t.r (kept_well t) stateless (w.guided.meets.here mail t.group t.node t.r t.taking t.here)) [
        | inl s ↦ absurd (changed s)
        | inr none ↦ short (goes.1 none)
      ]
        where
          goes : GoesOn t.r made
          goes = mailed_goes t.r [] mail.from mail.body stateless

          short : IsShort goes.0.log → Has seat.who
          short (inl none) = absurd (changed (goes.0.fact.0 ∙ ap (state_after t.r.group) none))
          short (inr (command, one)) =
              by_entry command (goes.0.fact.0 ∙ ap (state_after t.r.group) one) (goes.0.fact.2 ∙ ap (λ (l : List Command). next t.r + length l) one) (goes.0.kids ∙ ap (kids_of t.r.me t.r.group) one)

    kept_here : (r : ReplicaState) → is_member base.core.members seat.who ≡ true → view_at (births as_nodes scenario) after task.group seat.who ≡ Some r → Knows task.name r → RowKind words (births as_nodes scenario) rows seat number mail → Has seat.who
    kept_here r member v knows (inl stay) = (let h = prior.kept on base fact id seat.who r member (sym (stay task.group) ∙ v) knows in (h.0, stay task.name ∙ h.1))
    kept_here r member v knows (inr (inr m)) = absurd (no_state m)
    kept_here r member v knows (inr (inl t)) = elim (cases-draw task.group t.group) [
      | inl e ↦ same_group e
      | inr ne ↦ by ne (t.others task.group ne)
    ]
      where
        by : (task.group ≡ t.group → ⊥) → OneOf task.group seat.who (mailed mail.from mail.body (t.r, [])).1 (view_at (births as_nodes scenario) after task.group seat.who) (view_at (births as_nodes scenario) rows task.group seat.who) → Has seat.who
        by ne (inl same) = keep_there t (prior.kept on base fact id seat.who r member (sym same ∙ v) knows)
        by ne (inr (child, a, i, none, makes)) = absurd (ne (sym (b_of t child a).own))

        same_group : task.group ≡ t.group → Has seat.who
        same_group e =
            let made : Executed = mailed mail.from mail.body (t.r, []) in
            let own : r ≡ made.0.0 = same_Some r made.0.0 (sym v ∙ (ap (λ n. view_at (births as_nodes scenario) after n seat.who) e ∙ t.fact)) in
            elim (cases_Bool (list_any (λ other. same_draw other task.name) t.r.group.core.born)) [
              | inl known_before ↦ keep_there t (prior.kept on base fact id seat.who t.r member (ap (λ n. view_at (births as_nodes scenario) rows n seat.who) e ∙ t.was) known_before)
              | inr not ↦ new_kid t e member (λ has. true≢false (sym has ∙ not)) (subst (λ (y : ReplicaState). HasCreated task.name y.group.core.born) own knows)
            ]

    kept : (who : ℕ) (r : ReplicaState) → is_member base.core.members who ≡ true → view_at (births as_nodes scenario) after task.group who ≡ Some r → Knows task.name r → Has who
    kept who r member v knows = elim (cases_eq who seat.who) [
      | inl e ↦ subst Has (sym e) (kept_here r (subst (λ n. is_member base.core.members n ≡ true) e member) (ap (view_at (births as_nodes scenario) after task.group) (sym e) ∙ v) knows kind)
      | inr ne ↦ (let h = prior.kept on base fact id who r member (sym (else_stays task.group who ne) ∙ v) knows in (h.0, else_stays task.name who ne ∙ h.1))
    ]

  pub created_still : AreCreatedByOrder scenario journal quiet (with_event rows seat (Deliver number)) task
  created_still = record { only = only; known = λ on base fact id. known on base fact id; kept = λ on base fact id. kept on base fact id }
