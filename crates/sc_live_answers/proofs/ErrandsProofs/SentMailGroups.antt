-- What is sent by a delivery while an order is under way is of groups of the journal.
use Rattle.std.proofs.Common.{◌≡◌, ◌⊎◌, ℕ, zero, suc, Bool, true, false, eqb, List, [], drop, Option, Some, None, inl, inr, refl, sym, ◌∙◌, ap, subst}
use Rattle.std.specs.Option.{option_map}
use Rattle.std.proofs.lemmas.Bool.{cases_Bool, cond-false}
use Rattle.std.proofs.lemmas.Option.{none-some}
use Rattle.sc_base.specs.Definitions.{Among, Each, same_draw}
use Rattle.sc_node_table.specs.Values.{Draw, OrderLine, Refused, Mail, Node, Client, Seat, Deliver, Got, Row}
use Rattle.sc_base.proofs.Lemmas.{draw_is, same_name}
use Rattle.sc_words.specs.declared.commands.orders.OrderRefusal.TheVariants.{NotLeader}
use Rattle.sc_actor.specs.declared.rows.Event.TheVariants.{Told}
use Rattle.sc_actor.specs.declared.rows.Input.TheVariants.{Told as ToldInput}
use Rattle.sc_actor.specs.Definitions.{value, System, row_of, is_quiet}
use Rattle.sc_live_orderly.specs.OrderlyDefinitions.{is_born, rest, mail_for, taken, AreInTime}
use Rattle.sc_live_orderly.proofs.OrderlyLemmas.{in_time_before, in_time_tidy, last_in_time, TakesFirst, is_born-from, takes_first, rest-calm, quiet-empty}
use Rattle.sc_words.proofs.PaxosProofs.PaxosLemmas.{Each-among, Each-append, Each-from}
use Rattle.sc_law_entries.proofs.NamesProofs.NameLemmas.{Each-drop}
use Rattle.sc_scenario.specs.declared.scenario.scenarios.Scenario.{Scenario}
use Rattle.sc_node_table.specs.NodeDefinitions.{NodeState, replica_of, with_replica, with_children, group_of_mail, may_come, unknown, routed, on_mail, group_of_order, ordered_of, ReplicaState, Executed, name_of, result_sent, ordered_row, mailed}
use Rattle.sc_law_walks.proofs.WalkLemmas.{either_way}
use Rattle.sc_meaning.specs.sound.SoundDefinitions.{Player, player_table, births, as_nodes}
use Rattle.sc_live_steps.specs.calm.CalmDefinitions.{players, Rows}
use Rattle.sc_live_steps.specs.orders.OrderDefinitions.{Stage}
use Rattle.sc_live_journals.specs.rows.RowDefinitions.{IsSeat, with_event}
use Rattle.sc_live_journals.proofs.RowsProofs.RowLemmas.{mailed_keeps, order_keeps, found_name, view_was}
use Rattle.sc_live_journals.specs.scenes.SceneDefinitions.{IsThere, IsNowhere, IsErrandFor, AreUntouched}
use Rattle.sc_live_journals.proofs.ScenesProofs.SceneLemmas.{client_leaves, got_nothing, quiet_errands, unknown_apart, all_sent, calm_is}
use Rattle.sc_live_answers.specs.AnswerDefinitions.{IsNamedGroup, IsUnanswered, IsOfJournal}
use Rattle.sc_live_answers.proofs.OrdersProofs.OrderDeliveries.{there_or}
use Rattle.sc_live_answers.proofs.ChildrenProofs.YoungGroupRows.{IsNoneFor, sends_none}
use Rattle.sc_live_answers.proofs.ReplicasProofs.TakenMail.{mail_taken}
pub use Rattle.sc_live_journals.proofs.ScenesProofs.UntouchedGroups.{each_filter}

-- ---- what is sent of other groups

module _ (words : ℕ → ℕ → ℕ × ℕ) (births : List (Seat Player)) (rows : Rows) (seat : Seat Player) (number : ℕ) (born : IsSeat births seat) (timely : AreInTime (players words births) (with_event rows seat (Deliver number))) (unanswered : IsUnanswered rows number) where
  abbrev s : System Player Mail OrderLine
  s = players words births

  pub delivered : TakesFirst s rows seat.who number
  delivered =
      takes_first s rows seat.who number (in_time_tidy s rows (in_time_before s rows (row_of player_table seat rows (Deliver number)) timely)) (is_born-from s seat.who seat born)
      (calm_is words births rows seat (Deliver number) (last_in_time s rows (row_of player_table seat rows (Deliver number)) timely).0)

  abbrev mail : Mail
  mail = delivered.mail

  module _ (name : Draw) (other : group_of_mail mail.body ≡ Some name → ⊥) where
    abbrev Silent : Type 0
    Silent = Each (IsErrandFor name) (row_of player_table seat rows (Deliver number)).sent

    module _ (node : NodeState) (fact : value player_table seat rows ≡ Node node) where
      says : (step : NodeState × List Mail) → on_mail mail.from mail.body node ≡ step → Each (IsErrandFor name) step.1 → Silent
      says step e silent =
          subst (Each (IsErrandFor name)) (sym (all_sent births rows seat (Deliver number) node born fact step (Some (Got mail)) (ap (option_map Got) delivered.sent) (ap (λ (x : NodeState × List Mail). (Node x.0, x.1)) e))) silent

      module _ (group : Draw) (named : group_of_mail mail.body ≡ Some group) (comes : may_come mail.from mail.body ≡ true) where
        ne : name ≡ group → ⊥
        ne i = other (named ∙ ap Some (sym i))

        by_replica : (o : Option ReplicaState) → replica_of group node.replicas ≡ o → Silent
        by_replica None here = says (unknown mail.from mail.body node) (mail_taken mail.from mail.body node group named comes None here) (unknown_apart name group ne node mail.from mail.body named).1
        by_replica (Some r) here =
            let own : name_of r ≡ group = found_name group node.replicas r here in
            let made : Executed = mailed mail.from mail.body (r, []) in
            says (with_children made.1 (record node { replicas = with_replica group made.0.0 node.replicas }), made.0.1) (mail_taken mail.from mail.body node group named comes (Some r) here)
            (quiet_errands (name_of r) name made.0.1 (λ i. ne (sym i ∙ own)) (mailed_keeps (name_of r) mail.from mail.body (r, []) (refl, tt)).1)

      by_mail : (b : Bool) → may_come mail.from mail.body ≡ b → (o : Option Draw) → group_of_mail mail.body ≡ o → Silent
      by_mail false bar o e = says (node, []) (cond-false (may_come mail.from mail.body) (routed (group_of_mail mail.body) mail.from mail.body node) (node, []) bar) tt
      by_mail true comes None e =
          says (node, []) (either_way (λ (step : NodeState × List Mail). step ≡ (node, [])) (may_come mail.from mail.body) (routed (group_of_mail mail.body) mail.from mail.body node) (node, []) (ap (λ g. routed g mail.from mail.body node) e) refl) tt
      by_mail true comes (Some group) e = by_replica group e comes (replica_of group node.replicas) refl

    by_player : (player : Player) → value player_table seat rows ≡ player → Silent
    by_player (Client client) fact =
        (client_leaves words births rows seat (Deliver number) born timely client fact name (Got mail) (ap (option_map Got) delivered.sent)
        (got_nothing mail.from mail.body client (λ group seq answer. unanswered mail group seq answer delivered.sent))).silent
    by_player (Node node) fact = by_mail node fact (may_come mail.from mail.body) refl (group_of_mail mail.body) refl

    -- only errands are sent of a group whose mail is not the one that is delivered
    pub silent_others : Silent
    silent_others = by_player (value player_table seat rows) refl

-- ---- the mail under way

module _ (words : ℕ → ℕ → ℕ × ℕ) (scenario : Scenario) (journal quiet rows : Rows) (seat : Seat Player) (number : ℕ) (later : Stage) (born : IsSeat (births as_nodes scenario) seat)
    (timely : AreInTime (players words (births as_nodes scenario)) (with_event rows seat (Deliver number))) (unanswered : IsUnanswered rows number) (named : (name : Draw) → IsThere (births as_nodes scenario) quiet name → IsNamedGroup scenario journal name)
    (u : AreUntouched words (births as_nodes scenario) quiet (with_event rows seat (Deliver number)) later)
    (known : (who : ℕ) → is_born (players words (births as_nodes scenario)) who ≡ true → Each (IsOfJournal scenario journal) (rest (players words (births as_nodes scenario)) rows who)) where
  abbrev all : List (Seat Player)
  all = births as_nodes scenario

  abbrev sys : System Player Mail OrderLine
  sys = players words (births as_nodes scenario)

  abbrev row : Row Mail OrderLine
  row = row_of player_table seat rows (Deliver number)

  abbrev taken_mail : TakesFirst sys rows seat.who number
  taken_mail = delivered words all rows seat number born timely unanswered

  own_known : IsOfJournal scenario journal taken_mail.mail
  own_known = (subst (Each (IsOfJournal scenario journal)) taken_mail.first (known seat.who (is_born-from sys seat.who seat born))).0

  own_or : (o : Option Draw) → group_of_mail taken_mail.mail.body ≡ o → (name : Draw) → (group_of_mail taken_mail.mail.body ≡ Some name) ⊎ (group_of_mail taken_mail.mail.body ≡ Some name → ⊥)
  own_or None e name = inr (λ i. (let bad : None ≡ Some name = sym e ∙ i in cc))
  own_or (Some group) e name = elim (cases_Bool (same_draw group name)) [
    | inl t ↦ inl (e ∙ ap Some (draw_is group name t))
    | inr f ↦ inr (λ i. (
        let one : Some group ≡ Some name = sym e ∙ i in
        let same : group ≡ name = cc in
        let bad : true ≡ false = sym (same_name group name same) ∙ f in
        absurd cc))
  ]

  sent_known : (mail : Mail) → Among mail row.sent → IsOfJournal scenario journal mail
  sent_known mail a name fact = elim (own_or (group_of_mail taken_mail.mail.body) refl name) [
    | inl own ↦ own_known name own
    | inr other ↦ elim (there_or all quiet name) [
      | inl there ↦ named name there
      | inr nowhere ↦ absurd (Each-among (IsNoneFor name) row.sent mail (sends_none words all quiet rows seat (Deliver number) later born timely name nowhere u (silent_others words all rows seat number born timely unanswered name other)) a fact)
    ]
  ]

  pub known_after : (who : ℕ) → is_born sys who ≡ true → Each (IsOfJournal scenario journal) (rest sys (with_event rows seat (Deliver number)) who)
  known_after who fact =
      let before = in_time_before sys rows row timely in
      subst (Each (IsOfJournal scenario journal)) (sym (rest-calm sys rows row who (in_time_tidy sys rows before) (last_in_time sys rows row timely).0))
      (Each-append (IsOfJournal scenario journal) (drop (taken who row) (rest sys rows who)) (mail_for sys who row.sent) (Each-drop (IsOfJournal scenario journal) (taken who row) (rest sys rows who) (known who fact))
      (each_filter (IsOfJournal scenario journal) (λ (m : Mail). eqb (sys.receiver m) who) row.sent (Each-from (IsOfJournal scenario journal) row.sent sent_known)))

-- ---- an order

module _ (words : ℕ → ℕ → ℕ × ℕ) (scenario : Scenario) (journal quiet : Rows) (seat : Seat Player) (line : OrderLine) (stage : Stage) (born : IsSeat (births as_nodes scenario) seat) (timely : AreInTime (players words (births as_nodes scenario)) (with_event quiet seat (Told line)))
    (calm : is_quiet (players words (births as_nodes scenario)) quiet ≡ true) (named : (name : Draw) → IsThere (births as_nodes scenario) quiet name → IsNamedGroup scenario journal name) (u : AreUntouched words (births as_nodes scenario) quiet (with_event quiet seat (Told line)) stage) where
  abbrev births_ : List (Seat Player)
  births_ = births as_nodes scenario

  abbrev system : System Player Mail OrderLine
  system = players words (births as_nodes scenario)

  abbrev row_of_entry : Row Mail OrderLine
  row_of_entry = row_of player_table seat quiet (Told line)

  abbrev told : Draw
  told = group_of_order line.order

  -- what is sent to a group that was nowhere is errands
  module _ (name : Draw) (nowhere : IsNowhere births_ quiet name) where
    abbrev Quiet : Type 0
    Quiet = Each (IsErrandFor name) row_of_entry.sent

    node_tells : (node : NodeState) → value player_table seat quiet ≡ Node node → (o : Option ReplicaState) → replica_of told node.replicas ≡ o → Quiet
    node_tells node fact None here =
        let step : NodeState × List Mail = (node, result_sent node.me line.number (Refused (NotLeader None)) []) in
        subst (Each (IsErrandFor name)) (sym (all_sent births_ quiet seat (Told line) node born fact step (Some (ToldInput line)) refl (ap (λ (x : NodeState × List Mail). (Node x.0, x.1)) (ap (λ o. ordered_of o line node) here)))) ((λ n. (let bad : None ≡ Some name = n in cc)), tt)
    node_tells node fact (Some r) here =
        let own = found_name told node.replicas r here in
        let ne : name ≡ told → ⊥ = λ i. none-some r (sym (nowhere seat.who) ∙ (view_was births_ quiet seat (Told line) name born (Node node) fact ∙ (ap (λ n. replica_of n node.replicas) i ∙ here))) in
        let step : NodeState × List Mail = ordered_of (Some r) line node in
        subst (Each (IsErrandFor name)) (sym (all_sent births_ quiet seat (Told line) node born fact step (Some (ToldInput line)) refl (ap (λ (x : NodeState × List Mail). (Node x.0, x.1)) (ap (λ o. ordered_of o line node) here))))
        (quiet_errands (name_of r) name (ordered_row node.draws line (r, [])).1 (λ i. ne (sym i ∙ own)) (order_keeps (name_of r) node.draws line (r, []) (refl, tt)).1)

    player_tells : (player : Player) → value player_table seat quiet ≡ player → Quiet
    player_tells (Client client) fact = (client_leaves words births_ quiet seat (Told line) born timely client fact name (ToldInput line) refl refl).silent
    player_tells (Node node) fact = node_tells node fact (replica_of told node.replicas) refl

  told_known : (mail : Mail) → Among mail row_of_entry.sent → IsOfJournal scenario journal mail
  told_known mail a name fact = elim (there_or births_ quiet name) [
    | inl there ↦ named name there
    | inr nowhere ↦ absurd (Each-among (IsNoneFor name) row_of_entry.sent mail (sends_none words births_ quiet quiet seat (Told line) stage born timely name nowhere u (player_tells name nowhere (value player_table seat quiet) refl)) a fact)
  ]

  pub known_told : (who : ℕ) → is_born system who ≡ true → Each (IsOfJournal scenario journal) (rest system (with_event quiet seat (Told line)) who)
  known_told who fact =
      let before = in_time_before system quiet row_of_entry timely in
      let tidy = in_time_tidy system quiet before in
      subst (Each (IsOfJournal scenario journal)) (sym (rest-calm system quiet row_of_entry who tidy (last_in_time system quiet row_of_entry timely).0))
      (Each-append (IsOfJournal scenario journal) (drop (taken who row_of_entry) (rest system quiet who)) (mail_for system who row_of_entry.sent)
      (subst (λ l. Each (IsOfJournal scenario journal) (drop (taken who row_of_entry) l)) (sym (quiet-empty system quiet who tidy fact calm)) (nothing (taken who row_of_entry)))
      (each_filter (IsOfJournal scenario journal) (λ (m : Mail). eqb (system.receiver m) who) row_of_entry.sent (Each-from (IsOfJournal scenario journal) row_of_entry.sent told_known)))
    where
      nothing : (n : ℕ) → Each (IsOfJournal scenario journal) (drop n [])
      nothing zero = tt
      nothing (suc n) = tt
