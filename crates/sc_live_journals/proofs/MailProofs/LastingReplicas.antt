-- A node keeps the replica of a group that it has, in each of its rows and those of others.
use Rattle.std.proofs.Common.{◌≡◌, ℕ, ◌||◌, not, nat_lt, eqb, true≢false, List, [], ◌∷◌, ◌++◌, length, Option, Some, None, refl, sym, ◌∙◌, ap, subst, inl, inr, append_assoc, append-nil}
use Rattle.std.specs.Option.{option_map}
use Rattle.std.proofs.lemmas.Bool.{cases_Bool, eqb-true, eq-eqb}
use Rattle.sc_base.specs.Definitions.{same_draw, Drawer}
use Rattle.sc_node_table.specs.Values.{Draw, OrderLine, Mail, MailBody, Install, Node, Client, Seat, Event, Deliver, Go as GoEvent, Input, Got, Row}
use Rattle.sc_base.proofs.Lemmas.{draw_is, same_name}
use Rattle.sc_actor.specs.declared.rows.Event.TheVariants.{Told as ToldEvent}
use Rattle.sc_actor.specs.declared.rows.Input.TheVariants.{Tick, Go as GoInput, Told as ToldInput}
use Rattle.sc_actor.specs.Definitions.{mails, numbered, value, acted, input_of, row_of}
use Rattle.sc_live_orderly.specs.OrderlyDefinitions.{IsCalmEvent, AreInTime}
use Rattle.sc_live_orderly.proofs.OrderlyLemmas.{last_in_time, in_time_before}
use Rattle.sc_scenario.specs.declared.scenario.scenarios.Scenario.{Scenario}
use Rattle.sc_node_table.specs.NodeDefinitions.{NodeState, replica_of, with_replica, with_made, unknown, may_come, group_of_mail, taken_by, routed, group_of_order, ordered_of, ordered_row, ReplicaState, Place, Executed, name_of, last_slot, mailed, made_by, slots_ahead}
use Rattle.sc_meaning.specs.sound.SoundDefinitions.{Player, player_table, births, as_nodes}
use Rattle.sc_law_walks.proofs.WalkLemmas.{either_way}
use Rattle.sc_live_steps.specs.calm.CalmDefinitions.{players, Rows}
use Rattle.sc_live_steps.proofs.CalmStepsProofs.CalmStepLemmas.{put_found, put_others, children_found}
use Rattle.sc_live_journals.specs.rows.RowDefinitions.{replicas_of, view_at, IsSeat, with_event}
use Rattle.sc_live_journals.proofs.RowsProofs.RowLemmas.{names_stay, found_name, view_others, view_was, view_is, new_others}
use Rattle.sc_live_journals.specs.mail.MailDefinitions.{IsPlainlyKept, HasGrown, IsLater, ReplicasLast}
use Rattle.sc_live_journals.proofs.MailProofs.BoundsInJournals.{journals_idle}
use Rattle.sc_live_journals.proofs.MailProofs.RisingReplicas.{mailed_grown, ordered_grown, same_grown, grown_on}

-- a replica, and what holds of it: R, which is kept where the body of a mail is so, H, and by orders
module _ (name : Draw) (r : ReplicaState) (R : ReplicaState → Type 0) (H : MailBody → Type 0) (holds : R r)
    (by_mail : (from : ℕ) (body : MailBody) → H body → R (mailed from body (r, [])).0.0) (by_order : (drawer : Drawer) (line : OrderLine) → R (ordered_row drawer line (r, [])).0) where
  -- what holds of a replica that there is
  abbrev IsThere : Option ReplicaState → Type 0
  IsThere o = (later : ReplicaState) × (o ≡ Some later) × R later

  abbrev LaterIn : NodeState × List Mail → Type 0
  LaterIn step = IsThere (replica_of name step.0.replicas)

  stays : (node : NodeState) → replica_of name node.replicas ≡ Some r → IsThere (replica_of name node.replicas)
  stays node e = (r, e, holds)

  -- one that is made is of another name
  made_later : (group : Draw) (place : Place) (node : NodeState) → name_of place.0 ≡ group → replica_of group node.replicas ≡ None → replica_of name node.replicas ≡ Some r → LaterIn (with_made place node)
  made_later group (new, sent) node own none e =
      let apart : name_of new ≡ name → ⊥ = λ same. (let bad : None ≡ Some r = sym none ∙ (ap (λ (n : Draw). replica_of n node.replicas) (sym own ∙ same) ∙ e) in cc) in
      (r, new_others name new node.replicas apart ∙ e, holds)

  unknown_later : (group : Draw) (from : ℕ) (body : MailBody) (node : NodeState) → group_of_mail body ≡ Some group → replica_of group node.replicas ≡ None → replica_of name node.replicas ≡ Some r → LaterIn (unknown from body node)
  unknown_later group from (Install named slot base sets) node g none e =
      let same : named ≡ group = cc in
      either_way LaterIn (not (eqb (length sets) slots_ahead) || nat_lt last_slot slot) (node, []) (with_made (made_by node.me from named slot base sets) node) (stays node e)
      (made_later named (made_by node.me from named slot base sets) node (names_stay.made node.me from named slot base sets) (ap (λ (n : Draw). replica_of n node.replicas) same ∙ none) e)
  unknown_later group from _ node g none e = stays node e

  taken_later : (o : Option ReplicaState) (group : Draw) (from : ℕ) (body : MailBody) (node : NodeState) → (Some name ≡ group_of_mail body → H body) → group_of_mail body ≡ Some group → replica_of group node.replicas ≡ o → replica_of name node.replicas ≡ Some r → LaterIn (taken_by o group from body node)
  taken_later None group from body node may g f e = unknown_later group from body node g f e
  taken_later (Some x) group from body node may g f e =
      let after : Executed = mailed from body (x, []) in
      let put : NodeState = record node { replicas = with_replica group after.0.0 node.replicas } in
      let own : name_of after.0.0 ≡ group = names_stay.mailed from body x ∙ found_name group node.replicas x f in
      elim (cases_Bool (same_draw name group)) [
        | inl t ↦ (let n : name ≡ group = draw_is name group t in
            let fact : Some r ≡ Some x = sym e ∙ (ap (λ (d : Draw). replica_of d node.replicas) n ∙ f) in
            let same : r ≡ x = cc in
            let found : replica_of name put.replicas ≡ Some after.0.0 = ap (λ (d : Draw). replica_of d put.replicas) n ∙ put_found group after.0.0 x node.replicas own f in
            (after.0.0, children_found name after.0.0 after.1 put found, subst (λ (y : ReplicaState). R (mailed from body (y, [])).0.0) same (by_mail from body (may (ap (λ d. Some d) n ∙ sym g)))))
        | inr t ↦ (let ne : name ≡ group → ⊥ = λ n. true≢false (sym (same_name name group n) ∙ t) in
            (r, children_found name r after.1 put (put_others group name after.0.0 node.replicas own ne ∙ e), holds))
      ]

  routed_later : (o : Option Draw) (from : ℕ) (body : MailBody) (node : NodeState) → (Some name ≡ group_of_mail body → H body) → group_of_mail body ≡ o → replica_of name node.replicas ≡ Some r → LaterIn (routed o from body node)
  routed_later None from body node may g e = stays node e
  routed_later (Some group) from body node may g e = taken_later (replica_of group node.replicas) group from body node may g refl e

  ordered_later : (o : Option ReplicaState) (line : OrderLine) (node : NodeState) → replica_of (group_of_order line.order) node.replicas ≡ o → replica_of name node.replicas ≡ Some r → LaterIn (ordered_of o line node)
  ordered_later None line node f e = stays node e
  ordered_later (Some x) line node f e =
      let group : Draw = group_of_order line.order in
      let after : Place = ordered_row node.draws line (x, []) in
      let own : name_of after.0 ≡ group = names_stay.ordered node.draws line x ∙ found_name group node.replicas x f in
      elim (cases_Bool (same_draw name group)) [
        | inl t ↦ (let n : name ≡ group = draw_is name group t in
            let fact : Some r ≡ Some x = sym e ∙ (ap (λ (d : Draw). replica_of d node.replicas) n ∙ f) in
            let same : r ≡ x = cc in (
              after.0,
              ap (λ (d : Draw). replica_of d (with_replica group after.0 node.replicas)) n ∙ put_found group after.0 x node.replicas own f,
              subst (λ (y : ReplicaState). R (ordered_row node.draws line (y, [])).0) same (by_order node.draws line),
            ))
        | inr t ↦ (r, put_others group name after.0 node.replicas own (λ n. true≢false (sym (same_name name group n) ∙ t)) ∙ e, holds)
      ]

  -- ---- a player

  -- what it may take: no tick, and mail of the group whose body is so
  abbrev pub May : Input Mail OrderLine → Type 0
  May (Got mail) = Some name ≡ group_of_mail mail.body → H mail.body
  May Tick = ⊥
  May GoInput = Unit {0}
  May (ToldInput line) = Unit {0}

  input_later : (player : Player) (input : Input Mail OrderLine) → May input → replica_of name (replicas_of player) ≡ Some r → IsThere (replica_of name (replicas_of (player_table player input).0))
  input_later (Node node) (Got mail) may e =
      either_way LaterIn (may_come mail.from mail.body) (routed (group_of_mail mail.body) mail.from mail.body node) (node, []) (routed_later (group_of_mail mail.body) mail.from mail.body node may refl e) (stays node e)
  input_later (Node node) Tick may e = absurd may
  input_later (Node node) GoInput may e = stays node e
  input_later (Node node) (ToldInput line) may e = ordered_later (replica_of (group_of_order line.order) node.replicas) line node refl e
  input_later (Client client) input may e = cc

  module _ (words : ℕ → ℕ → ℕ × ℕ) (births : List (Seat Player)) (rows : Rows) (player : Player) (e : replica_of name (replicas_of player) ≡ Some r) where
    -- the mail that an event delivers
    abbrev pub MayCome : Event OrderLine → Type 0
    MayCome event = (mail : Mail) → input_of (mails rows) event ≡ Some (Got mail) → Some name ≡ group_of_mail mail.body → H mail.body

    pub event_later : (actor : ℕ) (event : Event OrderLine) → IsCalmEvent (players words births) rows actor event → MayCome event → IsThere (replica_of name (replicas_of (acted player_table player (input_of (mails rows) event)).0))
    event_later actor (Deliver number) calm may = by (numbered (mails rows) number) refl
      where
        by : (o : Option Mail) → numbered (mails rows) number ≡ o → IsThere (replica_of name (replicas_of (acted player_table player (option_map Got o)).0))
        by None at = (r, e, holds)
        by (Some mail) at = input_later player (Got mail) (may mail (ap (λ o. option_map Got o) at)) e
    event_later actor GoEvent calm may = input_later player GoInput tt e
    event_later actor (ToldEvent line) calm may = input_later player (ToldInput line) tt e
    event_later actor _ calm may = absurd calm

-- ---- a journal

module _ (words : ℕ → ℕ → ℕ × ℕ) (born : List (Seat Player)) (name : Draw) (who : ℕ) (r : ReplicaState) (R : ReplicaState → Type 0) (H : MailBody → Type 0) (holds : R r)
    (by_mail : (from : ℕ) (body : MailBody) → H body → R (mailed from body (r, [])).0.0) (by_order : (drawer : Drawer) (line : OrderLine) → R (ordered_row drawer line (r, [])).0) where
  -- the mail of the group that an event delivers to the node
  abbrev pub Hears : Rows → ℕ → Event OrderLine → Type 0
  Hears rows actor event = who ≡ actor → (mail : Mail) → input_of (mails rows) event ≡ Some (Got mail) → Some name ≡ group_of_mail mail.body → H mail.body

  seat_later : (rows : Rows) (seat : Seat Player) (event : Event OrderLine) → IsSeat born seat → IsCalmEvent (players words born) rows seat.who event → Hears rows seat.who event → view_at born rows name who ≡ Some r
      → IsThere name r R H holds by_mail by_order (view_at born (with_event rows seat event) name who)
  seat_later rows seat event at calm may e =
      elim (cases_Bool (eqb who seat.who)) [
        | inl t ↦ (let same : seat.who ≡ who = sym (eqb-true who seat.who t) in
            let player : Player = value player_table seat rows in
            let was : replica_of name (replicas_of player) ≡ Some r = sym (view_was born rows seat event name at player refl) ∙ (ap (view_at born rows name) same ∙ e) in
            let later = event_later name r R H holds by_mail by_order words born rows player was seat.who event calm (may (sym same)) in
            (later.0, ap (view_at born (with_event rows seat event) name) (sym same) ∙ (view_is born rows seat event name at player refl (input_of (mails rows) event) refl ∙ later.1), later.2))
        | inr f ↦ (r, view_others born rows (row_of player_table seat rows event) name who (λ same. true≢false (sym (eq-eqb who seat.who same) ∙ f)) ∙ e, holds)
      ]

  pub row_later : (rows : Rows) (row : Row Mail OrderLine) → AreInTime (players words born) (rows ++ row ∷ []) → Hears rows row.who row.event → view_at born rows name who ≡ Some r
      → IsThere name r R H holds by_mail by_order (view_at born (rows ++ row ∷ []) name who)
  row_later rows row timely may e =
      let calm = (last_in_time (players words born) rows row timely).0 in
      subst (λ (x : Row Mail OrderLine). IsThere name r R H holds by_mail by_order (view_at born (rows ++ x ∷ []) name who)) (sym calm.row_is)
      (seat_later rows calm.seat calm.event calm.born calm.calm (subst (λ (x : Row Mail OrderLine). Hears rows x.who x.event) calm.row_is may) e)

module _ (words : ℕ → ℕ → ℕ × ℕ) (scenario : Scenario) (name : Draw) (who : ℕ) where
  abbrev all : List (Seat Player)
  all = births as_nodes scenario

  row_grown : (rows : Rows) (row : Row Mail OrderLine) (r : ReplicaState) → AreInTime (players words all) (rows ++ row ∷ []) → view_at all rows name who ≡ Some r → IsLater r (view_at all (rows ++ row ∷ []) name who)
  row_grown rows row r timely e =
      let kept : IsPlainlyKept who r = journals_idle words scenario rows name who r (in_time_before (players words all) rows row timely) e in
      row_later words all name who r (λ later. HasGrown r later) (λ body. Unit {0}) (same_grown r) (λ from body h. mailed_grown who from body r kept) (λ drawer line. ordered_grown who drawer line r kept) rows row timely (λ same mail at g. tt) e

  first_time : (rows : Rows) (row : Row Mail OrderLine) (more : Rows) → AreInTime (players words all) ((rows ++ row ∷ []) ++ more) → AreInTime (players words all) (rows ++ row ∷ [])
  first_time rows row more t = λ before x after e. t before x (after ++ more) (ap (λ l. l ++ more) e ∙ append_assoc before (x ∷ after) more)

  more_later : (more rows : Rows) (r : ReplicaState) → AreInTime (players words all) (rows ++ more) → view_at all rows name who ≡ Some r → IsLater r (view_at all (rows ++ more) name who)
  more_later [] rows r timely e = (r, ap (λ l. view_at all l name who) (append-nil rows) ∙ e, same_grown r)
  more_later (row ∷ more) rows r timely e =
      let split : (rows ++ row ∷ []) ++ more ≡ rows ++ row ∷ more = append_assoc rows (row ∷ []) more in
      let in_time : AreInTime (players words all) ((rows ++ row ∷ []) ++ more) = subst (AreInTime (players words all)) (sym split) timely in
      let one = row_grown rows row r (first_time rows row more in_time) e in
      let rest = more_later more (rows ++ row ∷ []) one.0 in_time one.1 in
      (rest.0, ap (λ l. view_at all l name who) (sym split) ∙ rest.1, grown_on r one.0 rest.0 one.2 rest.2)

-- A node that has a replica of a group after some rows has one after more, which has seen no lower ballot and has executed no less.
pub replicas_last : ReplicasLast
replicas_last words scenario rows more name who r timely e = more_later words scenario name who more rows r timely e
