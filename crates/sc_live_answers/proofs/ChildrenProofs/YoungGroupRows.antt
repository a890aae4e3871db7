-- A group that was nowhere in a quiet journal stays as it begins, row by row.
use Rattle.std.proofs.Common.{◌≡◌, ◌⊎◌, ℕ, Bool, true, false, eqb, List, [], ◌∷◌, ◌++◌, append_assoc, drop, Option, Some, None, inl, inr, refl, sym, ◌∙◌, ap, subst}
use Rattle.std.specs.Option.{option_map}
use Rattle.std.proofs.lemmas.Bool.{cond-true, cond-false, cases_eq}
use Rattle.sc_base.specs.Definitions.{Each, same_draw}
use Rattle.sc_node_table.specs.Values.{Draw, Base, OrderLine, Refused, Mail, MailBody, TxPrepare, TxVote, TxOutcome, TxElsewhere, TxWatch, TxWatched, Node, Client, Seat, Event, Deliver, Go, Input, Got, Row}
use Rattle.sc_base.proofs.Lemmas.{same_name}
use Rattle.sc_words.specs.declared.commands.orders.OrderRefusal.TheVariants.{NotLeader}
use Rattle.sc_actor.specs.declared.rows.Event.TheVariants.{Told}
use Rattle.sc_actor.specs.declared.rows.Input.TheVariants.{Told as ToldInput}
use Rattle.sc_actor.specs.Definitions.{mails, numbered, value, acted, input_of, System, row_of, is_quiet}
use Rattle.sc_client_table.specs.table.TableDefinitions.{Client as ClientState, table}
use Rattle.sc_live_orderly.specs.OrderlyDefinitions.{IsCalmRow, IsTidy, rest, mail_for, taken, AreInTime}
use Rattle.sc_live_orderly.proofs.OrderlyLemmas.{in_time_before, in_time_tidy, last_in_time, TakesFirst, quiet-empty, is_born-from, takes_first, rest-calm}
use Rattle.sc_words.proofs.PaxosProofs.PaxosLemmas.{Each-among, Each-append, Each-weaker}
use Rattle.sc_words.proofs.PaxosProofs.ListLemmas.{Each-filter as each_filter}
use Rattle.sc_law_entries.proofs.NamesProofs.NameLemmas.{Each-drop}
use Rattle.sc_scenario.specs.declared.scenario.scenarios.Scenario.{Scenario}
use Rattle.sc_node_table.specs.NodeDefinitions.{result_sent, NodeState, replica_of, with_replica, with_children, group_of_mail, may_come, unknown, routed, on_mail, group_of_order, ordered_of, ordered_row, ReplicaState, Executed, name_of, born_replica, mailed, slots_ahead}
use Rattle.sc_law_walks.proofs.WalkLemmas.{either_way}
use Rattle.sc_meaning.specs.sound.SoundDefinitions.{Player, player_table, births, as_nodes}
use Rattle.sc_live_steps.specs.calm.CalmDefinitions.{players, Rows}
use Rattle.sc_live_steps.proofs.CalmStepsProofs.CalmStepLemmas.{put_others}
use Rattle.sc_live_steps.specs.orders.OrderDefinitions.{errand_by, errand_for, errands_for, Errand, Here, IsNone, Stage, parties_of}
use Rattle.sc_live_steps.proofs.OrderStepsProofs.OrderStepLemmas.{right_none as behind}
use Rattle.sc_live_journals.specs.rows.RowDefinitions.{view_at, IsSeat, with_event, IsBornOr, AreAsBegun, made_children}
use Rattle.sc_live_journals.proofs.RowsProofs.RowLemmas.{names_stay, mailed_keeps, order_keeps, found_name, view_others, view_was, Plays, replay_well, none_some}
use Rattle.sc_live_journals.specs.groups.GroupDefinitions.{ScenariosAreWellBorn}
use Rattle.sc_live_journals.specs.logs.LogDefinitions.{IsGroupOf}
use Rattle.sc_live_answers.specs.AnswerDefinitions.{ChildrenAreBegun, IsYoungAt, IsUnanswered, YoungGroupsStay}
use Rattle.sc_live_journals.specs.scenes.SceneDefinitions.{IsNowhere, IsErrandFor, AreUntouched}
use Rattle.sc_live_journals.proofs.ScenesProofs.SceneLemmas.{client_leaves, got_nothing, quiet_errands, unknown_apart, errands-append, left_by, left_row, OneOf, all_children, all_sent, now_is, was_is, calm_is}
use Rattle.sc_live_answers.proofs.BallotsProofs.WellPlayers.{plays_of}
use Rattle.sc_live_answers.proofs.ErrandsProofs.QuestionTargets.{no_append as split_none}
use Rattle.sc_live_answers.proofs.ReplicasProofs.TakenMail.{mail_taken}

-- a node has the number of its seat
pub node_number : ScenariosAreWellBorn → (scenario : Scenario) (rows : Rows) (seat : Seat Player) (node : NodeState) → IsSeat (births as_nodes scenario) seat → value player_table seat rows ≡ Node node → node.me ≡ seat.who
node_number well scenario rows seat node born fact =
    let plays : Plays seat.who (Node node) = subst (Plays seat.who) fact (replay_well seat.who seat.who rows seat.actor [] (plays_of seat.who seat.actor ((well scenario).well seat born))) in
    plays.0

-- ---- errands

-- the group of an errand is that of its mail
errand_group : (name : Draw) (from to : ℕ) (body : MailBody) (entry : Draw × Errand) → errand_by from to body ≡ Some entry → group_of_mail body ≡ Some name → entry.0 ≡ name
errand_group name from to (TxPrepare tx offer) entry e g = cc
errand_group name from to (TxWatch tx watch) entry e g = cc
errand_group name from to (TxElsewhere tx coord hint) entry e g = cc
errand_group name from to (TxVote tx coord part vote) entry e g = cc
errand_group name from to (TxWatched tx coord part vote) entry e g = cc
errand_group name from to (TxOutcome tx part outcome) entry e g = cc
errand_group name from to _ entry e g = absurd (none_some e)

-- mail of a group
abbrev pub IsFor : Draw → Mail → Type 0
IsFor name mail = group_of_mail mail.body ≡ Some name

-- no mail of a group
abbrev pub IsNoneFor : Draw → Mail → Type 0
IsNoneFor name mail = IsFor name mail → ⊥

-- where a group has no errand in some mail, and all its mail is errands, none is of it
silent_none : (name : Draw) (mails : List Mail) → errands_for name mails ≡ [] → Each (IsErrandFor name) mails → Each (IsNoneFor name) mails
silent_none name [] none e = tt
silent_none name (mail ∷ mails) none e = ((λ fact. head fact), silent_none name mails (rest_none none) e.1)
  where
    own : List Errand
    own = errand_for name (errand_by mail.from mail.to mail.body)

    rest_none : errands_for name (mail ∷ mails) ≡ [] → errands_for name mails ≡ []
    rest_none n = (split_none (errand_for name (errand_by mail.from mail.to mail.body)) (errands_for name mails) n).1

    head : IsFor name mail → ⊥
    head fact =
        let entry = e.0 fact in
        let group = errand_group name mail.from mail.to mail.body entry.0 entry.1 fact in
        let nothing : own ≡ [] = (split_none own (errands_for name mails) none).0 in
        let one : own ≡ entry.0.1 ∷ [] = ap (errand_for name) entry.1 ∙ cond-true (same_draw entry.0.0 name) (entry.0.1 ∷ []) [] (same_name entry.0.0 name group) in
        let bad : [] ≡ entry.0.1 ∷ [] = sym nothing ∙ one in
        absurd cc

-- ---- a row

module _ (words : ℕ → ℕ → ℕ × ℕ) (births : List (Seat Player)) (quiet rows : Rows) (seat : Seat Player) (event : Event OrderLine) (later : Stage) (born : IsSeat births seat) (timely : AreInTime (players words births) (with_event rows seat event)) where
  abbrev s : System Player Mail OrderLine
  s = players words births

  -- the node's replica stays or is made at the group's birth, and what is sent of the group is errands
  pub record Passes (base : Base) : Type 0 where
    pub view : IsBornOr base seat.who (view_at births (with_event rows seat event) base.core.id seat.who) (view_at births rows base.core.id seat.who)
    pub silent : Each (IsErrandFor base.core.id) (row_of player_table seat rows event).sent

  -- a group that was nowhere has no part in a stage
  no_party : (name : Draw) → IsNowhere births quiet name → AreUntouched words births quiet (with_event rows seat event) later → IsNone name (parties_of later)
  no_party name nowhere u =
      Each-weaker (λ (party : Draw × Here). (node : ℕ) × (r : ReplicaState) × (view_at births quiet party.0 node ≡ Some r)) (λ (party : Draw × Here). name ≡ party.0 → ⊥)
      (λ party there fact. none_some (sym (nowhere there.0) ∙ (ap (λ n. view_at births quiet n there.0) fact ∙ there.2))) (parties_of later) u.parties

  -- so the row sends it nothing
  pub sends_none : (name : Draw) → IsNowhere births quiet name → AreUntouched words births quiet (with_event rows seat event) later → Each (IsErrandFor name) (row_of player_table seat rows event).sent
      → Each (IsNoneFor name) (row_of player_table seat rows event).sent
  sends_none name nowhere u silent = silent_none name row.sent (behind (errands_for name (left_by words births rows event)) (errands_for name row.sent) all) silent
    where
      row : Row Mail OrderLine
      row = row_of player_table seat rows event

      all : errands_for name (left_by words births rows event) ++ errands_for name row.sent ≡ []
      all =
          sym (errands-append name (left_by words births rows event) row.sent)
          ∙ (ap (errands_for name) (sym (left_row words births rows row)) ∙ ap (λ (h : Here). h.errands) (u.stands.parties.1 name (no_party name nowhere u)))

  passes_young : (base : Base) → IsNowhere births quiet base.core.id → AreUntouched words births quiet (with_event rows seat event) later → Passes base → IsYoungAt words births rows base → IsYoungAt words births (with_event rows seat event) base
  passes_young base nowhere u p y = record {
    born = λ who. elim (cases_eq who seat.who) [
      | inl fact ↦ subst (λ n. Young n (view_at births (with_event rows seat event) base.core.id n)) (sym fact) (own p.view (y.born seat.who))
      | inr ne ↦ subst (Young who) (sym (view_others births rows (row_of player_table seat rows event) base.core.id who ne)) (y.born who)
    ];
    unsent = λ who fact.
        subst (Each (IsNoneFor base.core.id)) (sym (rest-calm s rows row who tidy calm))
        (Each-append (IsNoneFor base.core.id) (drop (taken who row) (rest s rows who)) (mail_for s who row.sent) (Each-drop (IsNoneFor base.core.id) (taken who row) (rest s rows who) (y.unsent who fact))
        (each_filter (IsNoneFor base.core.id) (λ (m : Mail). eqb (s.receiver m) who) row.sent (sends_none base.core.id nowhere u p.silent)));
  }
    where
      row : Row Mail OrderLine
      row = row_of player_table seat rows event

      tidy : IsTidy rows
      tidy = in_time_tidy s rows (in_time_before s rows row timely)

      calm : IsCalmRow s rows row
      calm = (last_in_time s rows row timely).0

      Young : ℕ → Option ReplicaState → Type 0
      Young who o = (o ≡ None) ⊎ (o ≡ Some (born_replica slots_ahead who base))

      own : IsBornOr base seat.who (view_at births (with_event rows seat event) base.core.id seat.who) (view_at births rows base.core.id seat.who) → Young seat.who (view_at births rows base.core.id seat.who) → Young seat.who (view_at births (with_event rows seat event) base.core.id seat.who)
      own (inl e) k = subst (Young seat.who) (sym e) k
      own (inr makes) k = inr makes.1

  -- a client that sends nothing
  client_passes : (base : Base) (client : ClientState) → value player_table seat rows ≡ Client client → (input : Input Mail OrderLine) → input_of (mails rows) event ≡ Some input → (table client input).1 ≡ [] → Passes base
  client_passes base client fact input e none = (let l = client_leaves words births rows seat event born timely client fact base.core.id input e none in record { view = inl l.view; silent = l.silent })

  -- a node, by what it makes of its replica and sends
  node_passes : (base : Base) (node : NodeState) → value player_table seat rows ≡ Node node → (step : NodeState × List Mail) (o : Option (Input Mail OrderLine)) → input_of (mails rows) event ≡ o → acted player_table (Node node) o ≡ (Node step.0, step.1)
      → IsBornOr base seat.who (replica_of base.core.id step.0.replicas) (replica_of base.core.id node.replicas) → Each (IsErrandFor base.core.id) step.1 → Passes base
  node_passes base node fact step o input response view silent = record {
    view = subst (λ v. IsBornOr base seat.who v (view_at births rows base.core.id seat.who)) (sym (now_is births rows seat event node born fact step o input response base.core.id))
        (subst (IsBornOr base seat.who (replica_of base.core.id step.0.replicas)) (sym (was_is births rows seat event node born fact step o input response base.core.id)) view);
    silent = subst (Each (IsErrandFor base.core.id)) (sym (all_sent births rows seat event node born fact step o input response)) silent;
  }

-- ---- a delivery

module _ (words : ℕ → ℕ → ℕ × ℕ) (births : List (Seat Player)) (quiet rows : Rows) (seat : Seat Player) (number : ℕ) (later : Stage) (born : IsSeat births seat) (timely : AreInTime (players words births) (with_event rows seat (Deliver number)))
    (unanswered : IsUnanswered rows number) (me : (node : NodeState) → value player_table seat rows ≡ Node node → node.me ≡ seat.who) (base : Base)
    (begun : (node : NodeState) (mail : Mail) (group : Draw) → value player_table seat rows ≡ Node node → numbered (mails rows) number ≡ Some mail → group_of_mail mail.body ≡ Some group
    → AreAsBegun base seat.who (made_children (replica_of group node.replicas) mail.from mail.body)) (y : IsYoungAt words births rows base) where
  abbrev name : Draw
  name = base.core.id

  abbrev Passed : Type 0
  Passed = Passes words births quiet rows seat (Deliver number) later born timely base

  first : TakesFirst (players words births) rows seat.who number
  first =
      takes_first (players words births) rows seat.who number (in_time_tidy (players words births) rows (in_time_before (players words births) rows (row_of player_table seat rows (Deliver number)) timely)) (is_born-from (players words births) seat.who seat born)
      (calm_is words births rows seat (Deliver number) (last_in_time (players words births) rows (row_of player_table seat rows (Deliver number)) timely).0)

  -- the mail is of another group
  not_own : group_of_mail first.mail.body ≡ Some name → ⊥
  not_own = (subst (Each (IsNoneFor name)) first.first (y.unsent seat.who (is_born-from (players words births) seat.who seat born))).0

  abbrev mail : Mail
  mail = first.mail

  module _ (node : NodeState) (fact : value player_table seat rows ≡ Node node) where
    makes : (step : NodeState × List Mail) → on_mail mail.from mail.body node ≡ step → IsBornOr base seat.who (replica_of name step.0.replicas) (replica_of name node.replicas) → Each (IsErrandFor name) step.1 → Passed
    makes step e view silent =
        node_passes words births quiet rows seat (Deliver number) later born timely base node fact step (Some (Got mail)) (ap (option_map Got) first.sent) (ap (λ (x : NodeState × List Mail). (Node x.0, x.1)) e) view silent

    module _ (group : Draw) (named : group_of_mail mail.body ≡ Some group) (comes : may_come mail.from mail.body ≡ true) where
      ne : name ≡ group → ⊥
      ne i = not_own (named ∙ ap Some (sym i))

      none_passes : replica_of group node.replicas ≡ None → Passed
      none_passes here = (let apart = unknown_apart name group ne node mail.from mail.body named in makes (unknown mail.from mail.body node) (mail_taken mail.from mail.body node group named comes None here) (inl apart.0) apart.1)

      module _ (r : ReplicaState) (here : replica_of group node.replicas ≡ Some r) where
        abbrev made : Executed
        made = mailed mail.from mail.body (r, [])

        abbrev put : NodeState
        put = record node { replicas = with_replica group made.0.0 node.replicas }

        own : name_of r ≡ group
        own = found_name group node.replicas r here

        stays_put : replica_of name put.replicas ≡ replica_of name node.replicas
        stays_put = put_others group name made.0.0 node.replicas (names_stay.mailed mail.from mail.body r ∙ own) ne

        begun_so : AreAsBegun base seat.who made.1
        begun_so = subst (λ o. AreAsBegun base seat.who (made_children o mail.from mail.body)) here (begun node mail group fact first.sent named)

        by : OneOf name seat.who made.1 (replica_of name (with_children made.1 put).replicas) (replica_of name put.replicas) → IsBornOr base seat.who (replica_of name (with_children made.1 put).replicas) (replica_of name node.replicas)
        by (inl e) = inl (e ∙ stays_put)
        by (inr (child, among, id, none, made_so)) =
            let same = (Each-among (λ (c : Base). c.core.id ≡ base.core.id → (c ≡ base) × _) made.1 child begun_so among id).0 in
            inr (sym stays_put ∙ none, made_so ∙ ap (λ c. Some (born_replica slots_ahead seat.who c)) same)

        some_passes : Passed
        some_passes =
            makes (with_children made.1 put, made.0.1) (mail_taken mail.from mail.body node group named comes (Some r) here) (by (all_children seat.who name made.1 put (me node fact)))
            (quiet_errands (name_of r) name made.0.1 (λ i. ne (sym i ∙ own)) (mailed_keeps (name_of r) mail.from mail.body (r, []) (refl, tt)).1)

      taken_so : (o : Option ReplicaState) → replica_of group node.replicas ≡ o → Passed
      taken_so None here = none_passes here
      taken_so (Some r) here = some_passes r here

    mail_so : (b : Bool) → may_come mail.from mail.body ≡ b → (o : Option Draw) → group_of_mail mail.body ≡ o → Passed
    mail_so false bar o e = makes (node, []) (cond-false (may_come mail.from mail.body) (routed (group_of_mail mail.body) mail.from mail.body node) (node, []) bar) (inl refl) tt
    mail_so true comes None e =
        makes (node, []) (either_way (λ (step : NodeState × List Mail). step ≡ (node, [])) (may_come mail.from mail.body) (routed (group_of_mail mail.body) mail.from mail.body node) (node, []) (ap (λ g. routed g mail.from mail.body node) e) refl)
        (inl refl) tt
    mail_so true comes (Some group) e = taken_so group e comes (replica_of group node.replicas) refl

  player_so : (player : Player) → value player_table seat rows ≡ player → Passed
  player_so (Client client) fact =
      client_passes words births quiet rows seat (Deliver number) later born timely base client fact (Got mail) (ap (option_map Got) first.sent)
      (got_nothing mail.from mail.body client (λ group seq answer. unanswered mail group seq answer first.sent))
  player_so (Node node) fact = mail_so node fact (may_come mail.from mail.body) refl (group_of_mail mail.body) refl

  pub delivery_passes : Passed
  delivery_passes = player_so (value player_table seat rows) refl

-- ---- the order

module _ (words : ℕ → ℕ → ℕ × ℕ) (births : List (Seat Player)) (quiet : Rows) (seat : Seat Player) (line : OrderLine) (stage : Stage) (born : IsSeat births seat) (timely : AreInTime (players words births) (with_event quiet seat (Told line)))
    (base : Base) (nowhere : IsNowhere births quiet base.core.id) where
  abbrev Begins : Type 0
  Begins = Passes words births quiet quiet seat (Told line) stage born timely base

  abbrev told : Draw
  told = group_of_order line.order

  node_begins : (node : NodeState) → value player_table seat quiet ≡ Node node → (o : Option ReplicaState) → replica_of told node.replicas ≡ o → Begins
  node_begins node fact None here =
      node_passes words births quiet quiet seat (Told line) stage born timely base node fact (node, result_sent node.me line.number (Refused (NotLeader None)) []) (Some (ToldInput line)) refl
      (ap (λ (x : NodeState × List Mail). (Node x.0, x.1)) (ap (λ o. ordered_of o line node) here)) (inl refl) ((λ n. absurd (none_some n)), tt)
  node_begins node fact (Some r) here =
      let own = found_name told node.replicas r here in
      let ne : base.core.id ≡ told → ⊥ = λ i. none_some (sym (nowhere seat.who) ∙ (view_was births quiet seat Go base.core.id born (Node node) fact ∙ (ap (λ n. replica_of n node.replicas) i ∙ here))) in
      let step : NodeState × List Mail = ordered_of (Some r) line node in
      node_passes words births quiet quiet seat (Told line) stage born timely base node fact step (Some (ToldInput line)) refl
      (ap (λ (x : NodeState × List Mail). (Node x.0, x.1)) (ap (λ o. ordered_of o line node) here))
      (inl (put_others told base.core.id (ordered_row node.draws line (r, [])).0 node.replicas (names_stay.ordered node.draws line r ∙ own) ne))
      (quiet_errands (name_of r) base.core.id (ordered_row node.draws line (r, [])).1 (λ i. ne (sym i ∙ own)) (order_keeps (name_of r) node.draws line (r, []) (refl, tt)).1)

  player_begins : (player : Player) → value player_table seat quiet ≡ player → Begins
  player_begins (Client client) fact = client_passes words births quiet quiet seat (Told line) stage born timely base client fact (ToldInput line) refl refl
  player_begins (Node node) fact = node_begins node fact (replica_of told node.replicas) refl

  pub order_passes : Begins
  order_passes = player_begins (value player_table seat quiet) refl

  -- in the quiet it is young: nowhere, and nothing is under way
  pub quiet_young : is_quiet (players words births) quiet ≡ true → IsYoungAt words births quiet base
  quiet_young calm = record {
    born = λ who. inl (nowhere who);
    unsent = λ who fact. subst (Each (IsNoneFor base.core.id)) (sym (quiet-empty (players words births) quiet who (in_time_tidy (players words births) quiet (in_time_before (players words births) quiet (row_of player_table seat quiet (Told line)) timely)) fact calm)) tt;
  }

pub groups_stay : ScenariosAreWellBorn → ChildrenAreBegun → YoungGroupsStay
groups_stay well begun = record {
  begins = λ words scenario quiet seat line stage born timely calm u base nowhere.
      passes_young words (births as_nodes scenario) quiet quiet seat (Told line) stage born timely base nowhere u (order_passes words (births as_nodes scenario) quiet seat line stage born timely base nowhere)
      (quiet_young words (births as_nodes scenario) quiet seat line stage born timely base nowhere calm);
  stays = λ words scenario journal quiet rows seat number later calm goes unanswered u base stands nowhere y.
      (let group : IsGroupOf as_nodes words scenario journal base = record { open_slots = refl; valid = calm.valid; lawful = calm.lawful; stands = stands } in
      passes_young words (births as_nodes scenario) quiet rows seat (Deliver number) later goes.seated goes.timely base nowhere u
      (delivery_passes words (births as_nodes scenario) quiet rows seat number later goes.seated goes.timely unanswered (λ node fact. node_number well scenario rows seat node goes.seated fact) base
      (λ node mail g fact sent named. begun as_nodes words scenario journal base group rows (row_of player_table seat rows (Deliver number) ∷ goes.prefix.more) (prefixes rows (row_of player_table seat rows (Deliver number)) goes.prefix.more journal goes.prefix.fact) seat node goes.seated fact number mail g sent named) y) y);
}
  where
    prefixes : (xs : Rows) (x : Row Mail OrderLine) (ys journal : Rows) → journal ≡ (xs ++ x ∷ []) ++ ys → journal ≡ xs ++ x ∷ ys
    prefixes xs x ys journal e = e ∙ append_assoc xs (x ∷ []) ys
