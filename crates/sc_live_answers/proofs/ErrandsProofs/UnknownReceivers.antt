-- No mail of a group goes to who is no actor: members are nodes of the scenario, and what is no group's is sent no mail at all.
use Rattle.sc_live_journals.specs.groups.GroupDefinitions.{IsRowOf}
use Rattle.sc_live_journals.proofs.GroupsProofs.PrefixesInTime.{kept_by_all}
use Rattle.std.proofs.Common.{◌≡◌, ℕ, ◌≤◌, eqb, not, nat_lt, Bool, true, false, true≢false, cond, List, [], ◌∷◌, ◌++◌, length, Option, Some, None, inl, inr, refl, sym, ◌∙◌, ap, subst, append_assoc, arith, ◌||◌}
use Rattle.std.specs.Prelude.{find}
use Rattle.std.proofs.lemmas.Bool.{cases_Bool, cond-true, eqb-true, eq-eqb}
use Rattle.std.proofs.lemmas.Option.{none-some}
use Rattle.sc_base.specs.Definitions.{Among, same_draw, is_member}
use Rattle.sc_node_table.specs.Values.{Draw, Base, OrderLine, Refused, Mail, MailBody, Request, Prepare, Accept, Learn, Install, TxPrepare, TxVote, TxOutcome, TxElsewhere, TxWatch, TxWatched, Node, Client, Seat, Event, Deliver, Tick, Go, Input, Got}
use Rattle.sc_base.proofs.Lemmas.{draw_is, same_name}
use Rattle.sc_words.specs.declared.commands.orders.OrderRefusal.TheVariants.{NotLeader}
use Rattle.sc_actor.specs.declared.rows.Event.TheVariants.{Told}
use Rattle.sc_actor.specs.Definitions.{mails, value, input_of, acted, row_of}
use Rattle.sc_live_orderly.specs.OrderlyDefinitions.{is_born, IsCalmEvent, AreInTime}
use Rattle.sc_live_orderly.proofs.OrderlyLemmas.{in_time_before, in_time_tidy, takes_first, is_born-from}
use Rattle.sc_words.proofs.PaxosProofs.PaxosLemmas.{find_found}
use Rattle.sc_scenario.specs.scenario.Definitions.{base_at}
use Rattle.sc_scenario.specs.declared.scenario.scenarios.Scenario.{Scenario}
use Rattle.sc_node_table.specs.NodeDefinitions.{NodeState, replica_of, with_made, unknown, may_come, group_of_mail, taken_by, routed, on_mail, group_of_order, ordered_of, result_sent, ReplicaState, Place, name_of, last_slot, made_by, slots_ahead}
use Rattle.sc_meaning.specs.sound.SoundDefinitions.{groups_at, Player, player_table, node_seat, client_seats, births, as_nodes}
use Rattle.sc_live_steps.specs.calm.CalmDefinitions.{players}
use Rattle.sc_law_entries.specs.logs.LogDefinitions.{Rows}
use Rattle.sc_law_walks.proofs.WalkLemmas.{either_way}
use Rattle.sc_live_steps.specs.following.FollowingDefinitions.{Installs, mark_of, IsRow, marks_for}
use Rattle.sc_live_journals.specs.rows.RowDefinitions.{marks_at, progress_at, mark_in, taken_mark, begun_course, IsSeat, with_event}
use Rattle.sc_live_journals.proofs.RowsProofs.RowLemmas.{none_marked, others_hear_nothing, rows_are, delivered, found_name, sent_is, view_was}
use Rattle.sc_live_journals.specs.logs.LogDefinitions.{logged_sets}
use Rattle.sc_live_answers.specs.AnswerDefinitions.{IsCalmJournal, IsPrefixOf, AreSent, PrefixesAreFound, MembersAreHome, NoMailForStrangers}
use Rattle.sc_live_answers.proofs.QuietProofs.QuietPrefixes.{seat_in}
use Rattle.sc_live_answers.proofs.RequestsProofs.UnmarkedMail.{none_first}
use Rattle.sc_live_answers.proofs.LedGroupsProofs.JournalGroups.{calm_group}

find_nothing : {X : Type 0} (p : X → Bool) (xs : List X) (x : X) → find p xs ≡ None → Among x xs → p x ≡ false
find_nothing p [] x e a = absurd a
find_nothing p (y ∷ ys) x e a = by (p y) refl (λ f m. find_nothing p ys x f m) e a
  where
    by : (b : Bool) → p y ≡ b → (find p ys ≡ None → Among x ys → p x ≡ false) → cond b (Some y) (find p ys) ≡ None → Among x (y ∷ ys) → p x ≡ false
    by true t rest f m = absurd (none-some y (sym f))
    by false t rest f (inl same) = ap p (sym same) ∙ t
    by false t rest f (inr m) = rest f m

module _ (finds : PrefixesAreFound) (home : MembersAreHome) (words : ℕ → ℕ → ℕ × ℕ) (scenario : Scenario) (journal : Rows) (calm : IsCalmJournal words scenario journal) where
  abbrev all : List (Seat Player)
  all = births as_nodes scenario

  -- a node of the scenario is an actor
  node_born : (who : ℕ) → (1 ≤ who) × (who ≤ scenario.nodes) → is_born (players words (births as_nodes scenario)) who ≡ true
  node_born who h =
      let low = h.0 in
      let high = h.1 in
      is_born-from (players words all) who (node_seat as_nodes scenario.groups scenario.policy who)
      (seat_in scenario.groups scenario.policy scenario.nodes 1 who (client_seats scenario.groups scenario.clients) low (omega (arith, high)))

  first_born : (base : Base) → Among base (groups_at as_nodes scenario.groups journal) → (who : ℕ) → is_member base.core.members who ≡ true → is_born (players words (births as_nodes scenario)) who ≡ true
  first_born base a who m = node_born who (home.first as_nodes words scenario journal base (calm_group words scenario journal calm base a) who m)

  module _ (prefix : Rows) (fact : IsPrefixOf journal prefix) where
    -- ---- a group of the journal

    of_group : AreSent words scenario journal prefix → (base : Base) → Among base (groups_at as_nodes scenario.groups journal) → (who : ℕ) → is_born (players words (births as_nodes scenario)) who ≡ false
        → marks_at (players words (births as_nodes scenario)) prefix base.core.id who ≡ []
    of_group sent base a who unborn = ((sent base a).sent.homes.strangers who never).1
      where
        never : (slot : ℕ) → is_member (logged_sets as_nodes base journal slot) who ≡ false
        never slot = elim (cases_Bool (is_member (logged_sets as_nodes base journal slot) who)) [
          | inl t ↦ absurd (true≢false (sym (node_born who (home.slots as_nodes words scenario journal base (calm_group words scenario journal calm base a) slot who t)) ∙ unborn))
          | inr f ↦ f
        ]

    -- ---- a name that is no group's

    module _ (dummy : Base) (nobody : (base : Base) → Among base (groups_at as_nodes scenario.groups journal) → base.core.id ≡ dummy.core.id → ⊥) where
      abbrev name : Draw
      name = dummy.core.id

      module _ (rows more : Rows) (begins : prefix ≡ rows ++ more) (seat : Seat Player) (event : Event OrderLine) (born : IsSeat (births as_nodes scenario) seat) (fine : IsCalmEvent (players words (births as_nodes scenario)) rows seat.who event)
          (timely : AreInTime (players words (births as_nodes scenario)) (with_event rows seat event)) (none : (who : ℕ) → marks_at (players words (births as_nodes scenario)) rows dummy.core.id who ≡ []) where
        moved : IsRow (progress_at (births as_nodes scenario) rows dummy (begun_course dummy)) (progress_at (births as_nodes scenario) (with_event rows seat event) dummy (begun_course dummy)) seat.who (taken_mark dummy.core.id (mails rows) event)
            (λ who. marks_for dummy.core.id who (row_of player_table seat rows event).sent) (marks_at (players words (births as_nodes scenario)) rows dummy.core.id) (marks_at (players words (births as_nodes scenario)) (with_event rows seat event) dummy.core.id)
        moved = rows_are words all rows (row_of player_table seat rows event) dummy (begun_course dummy) (begun_course dummy) timely

        taken_none : (taken_mark dummy.core.id (mails rows) event ≡ None) × (moved.left ≡ [])
        taken_none = none_first (taken_mark name (mails rows) event) moved.left (sym moved.takes ∙ none seat.who)

        -- a node has no replica of it
        no_replica : (node : NodeState) → value player_table seat rows ≡ Node node → (r : ReplicaState) → replica_of dummy.core.id node.replicas ≡ Some r → ⊥
        no_replica node at r e =
            let prefix_is : IsPrefixOf journal rows = record { more = more ++ fact.more; fact = fact.fact ∙ (ap (λ rs. rs ++ fact.more) begins ∙ append_assoc rows more fact.more) } in
            let f = finds words scenario journal rows calm prefix_is in
            let seen = view_was all rows seat Go name born (Node node) at ∙ e in
            let of = f.replicas name seat.who r (f.views name seat.who ∙ seen) in
            nobody of.base (f.later of.base of.among) of.named

        module _ (node : NodeState) (at : value player_table seat rows ≡ Node node) (who : ℕ) where
          other_name : (g : Draw) (r : ReplicaState) → replica_of g node.replicas ≡ Some r → name_of r ≡ dummy.core.id → ⊥
          other_name g r e same =
              let own : name_of r ≡ g = found_name g node.replicas r e in
              no_replica node at r (ap (λ n. replica_of n node.replicas) (sym same ∙ own) ∙ e)

          made_silent : (place : Place) → marks_for dummy.core.id who place.1 ≡ [] → marks_for dummy.core.id who (with_made place node).1 ≡ []
          made_silent (r, sent) e = e

          unknown_silent : (from : ℕ) (body : MailBody) → mark_of dummy.core.id from body ≡ None → marks_for dummy.core.id who (unknown from body node).1 ≡ []
          unknown_silent from (Install g slot state sets) unmarked =
              either_way (λ (step : NodeState × List Mail). marks_for name who step.1 ≡ []) (not (eqb (length sets) slots_ahead) || nat_lt last_slot slot) (node, []) (with_made (made_by node.me from g slot state sets) node) refl
              (made_silent (made_by node.me from g slot state sets) (others_hear_nothing.made name who node.me from g slot state sets
              (λ same. none-some (Installs slot) (sym unmarked ∙ cond-true (same_draw g name) (Some (Installs slot)) None (same_name g name same)))))
          unknown_silent from (Request g client seq op) unmarked = others_hear_nothing.missed name who node.me from (Request g client seq op)
          unknown_silent from (Prepare g ballot slot) unmarked = others_hear_nothing.missed name who node.me from (Prepare g ballot slot)
          unknown_silent from (Accept g ballot slot command) unmarked = others_hear_nothing.missed name who node.me from (Accept g ballot slot command)
          unknown_silent from (Learn g slot command) unmarked = others_hear_nothing.missed name who node.me from (Learn g slot command)
          unknown_silent from (TxPrepare tx offer) unmarked = others_hear_nothing.missed name who node.me from (TxPrepare tx offer)
          unknown_silent from (TxVote tx coord part vote) unmarked = others_hear_nothing.missed name who node.me from (TxVote tx coord part vote)
          unknown_silent from (TxOutcome tx part outcome) unmarked = others_hear_nothing.missed name who node.me from (TxOutcome tx part outcome)
          unknown_silent from (TxElsewhere tx coord hint) unmarked = others_hear_nothing.missed name who node.me from (TxElsewhere tx coord hint)
          unknown_silent from (TxWatch tx watch) unmarked = others_hear_nothing.missed name who node.me from (TxWatch tx watch)
          unknown_silent from (TxWatched tx coord part vote) unmarked = others_hear_nothing.missed name who node.me from (TxWatched tx coord part vote)
          unknown_silent from _ unmarked = refl

          taken_silent : (o : Option ReplicaState) (g : Draw) (from : ℕ) (body : MailBody) → replica_of g node.replicas ≡ o → mark_of dummy.core.id from body ≡ None → marks_for dummy.core.id who (taken_by o g from body node).1 ≡ []
          taken_silent None g from body e unmarked = unknown_silent from body unmarked
          taken_silent (Some r) g from body e unmarked = others_hear_nothing.mailed name who from body r (other_name g r e)

          routed_silent : (o : Option Draw) (from : ℕ) (body : MailBody) → mark_of dummy.core.id from body ≡ None → marks_for dummy.core.id who (routed o from body node).1 ≡ []
          routed_silent None from body unmarked = refl
          routed_silent (Some g) from body unmarked = taken_silent (replica_of g node.replicas) g from body refl unmarked

          mail_silent : (from : ℕ) (body : MailBody) → mark_of dummy.core.id from body ≡ None → marks_for dummy.core.id who (on_mail from body node).1 ≡ []
          mail_silent from body unmarked =
              either_way (λ (step : NodeState × List Mail). marks_for name who step.1 ≡ []) (may_come from body) (routed (group_of_mail body) from body node) (node, []) (routed_silent (group_of_mail body) from body unmarked) refl

          order_silent : (line : OrderLine) (o : Option ReplicaState) → replica_of (group_of_order line.order) node.replicas ≡ o → marks_for dummy.core.id who (ordered_of o line node).1 ≡ []
          order_silent line None e = none_marked name who (result_sent node.me line.number (Refused (NotLeader None)) []) (refl, tt)
          order_silent line (Some r) e = others_hear_nothing.ordered name who node.draws line r (other_name (group_of_order line.order) r e)

        client_silent : (client : _) (who : ℕ) (o : Option (Input Mail OrderLine)) → marks_for dummy.core.id who (acted player_table (Client client) o).1 ≡ []
        client_silent client who None = refl
        client_silent client who (Some input) = others_hear_nothing.client name who client input

      silent : (rows more : Rows) → prefix ≡ rows ++ more → (seat : Seat Player) (event : Event OrderLine) → IsSeat (births as_nodes scenario) seat → IsCalmEvent (players words (births as_nodes scenario)) rows seat.who event
          → AreInTime (players words (births as_nodes scenario)) (with_event rows seat event) → ((who : ℕ) → marks_at (players words (births as_nodes scenario)) rows dummy.core.id who ≡ [])
          → (player : Player) → value player_table seat rows ≡ player → (who : ℕ) → marks_for dummy.core.id who (row_of player_table seat rows event).sent ≡ []
      silent rows more begins seat event born fine timely none (Client client) at who =
          ap (marks_for name who) (sent_is all rows seat event name born (Client client) at (input_of (mails rows) event) refl)
          ∙ client_silent rows more begins seat event born fine timely none client who (input_of (mails rows) event)
      silent rows more begins seat (Deliver number) born fine timely none (Node node) at who =
          let f = takes_first (players words all) rows seat.who number (in_time_tidy (players words all) rows (in_time_before (players words all) rows (row_of player_table seat rows (Deliver number)) timely)) (is_born-from (players words all) seat.who seat born) fine in
          let unmarked = sym (ap (mark_in name) f.sent) ∙ (taken_none rows more begins seat (Deliver number) born fine timely none).0 in
          ap (marks_for name who) (sent_is all rows seat (Deliver number) name born (Node node) at (Some (Got f.mail)) (delivered rows number f.mail f.sent))
          ∙ mail_silent rows more begins seat (Deliver number) born fine timely none node at who f.mail.from f.mail.body unmarked
      silent rows more begins seat Go born fine timely none (Node node) at who = ap (marks_for name who) (sent_is all rows seat Go name born (Node node) at (input_of (mails rows) Go) refl)
      silent rows more begins seat (Told line) born fine timely none (Node node) at who =
          ap (marks_for name who) (sent_is all rows seat (Told line) name born (Node node) at (input_of (mails rows) (Told line)) refl)
          ∙ order_silent rows more begins seat (Told line) born fine timely none node at who line (replica_of (group_of_order line.order) node.replicas) refl
      silent rows more begins seat Tick born fine timely none (Node node) at who = absurd fine
      silent rows more begins seat _ born fine timely none (Node node) at who = absurd fine

      silent_row : (rows : Rows) (seat : Seat Player) (event : Event OrderLine) → IsRowOf prefix rows seat event → IsSeat all seat → IsCalmEvent (players words all) rows seat.who event → AreInTime (players words all) (with_event rows seat event)
          → ((who : ℕ) → marks_at (players words all) rows name who ≡ []) → (who : ℕ) → marks_at (players words all) (with_event rows seat event) name who ≡ []
      silent_row rows seat event place born fine t none who =
          let row = row_of player_table seat rows event in
          let more : Rows = row ∷ place.more in
          let b : prefix ≡ rows ++ more = place.fact ∙ append_assoc rows (row ∷ []) place.more in
          let m = moved rows more b seat event born fine t none in
          let quiet = silent rows more b seat event born fine t none (value player_table seat rows) refl who in
          elim (cases_Bool (eqb who seat.who)) [
            | inl is_ ↦ (let same = eqb-true who seat.who is_ in
                ap (marks_at (players words all) (with_event rows seat event) name) same
                ∙ (m.own ∙ (ap (λ l. l ++ marks_for name seat.who row.sent) (taken_none rows more b seat event born fine t none).1 ∙ silent rows more b seat event born fine t none (value player_table seat rows) refl seat.who)))
            | inr no_ ↦ m.others who (λ e. true≢false (sym (eq-eqb who seat.who e) ∙ no_)) ∙ (ap (λ l. l ++ marks_for name who row.sent) (none who) ∙ quiet)
          ]

      no_group : AreInTime (players words (births as_nodes scenario)) prefix → (who : ℕ) → marks_at (players words (births as_nodes scenario)) prefix dummy.core.id who ≡ []
      no_group = kept_by_all words all prefix (λ rows. (who : ℕ) → marks_at (players words all) rows name who ≡ []) silent_row (λ who. refl)

    -- ---- any name

    prefix_timely : AreInTime (players words (births as_nodes scenario)) prefix
    prefix_timely = λ before row after e. calm.timely before row (after ++ fact.more) (fact.fact ∙ (ap (λ rows. rows ++ fact.more) e ∙ append_assoc before (row ∷ after) fact.more))

    no_mail : Base → AreSent words scenario journal prefix → (name : Draw) (who : ℕ) → is_born (players words (births as_nodes scenario)) who ≡ false → marks_at (players words (births as_nodes scenario)) prefix name who ≡ []
    no_mail any sent name who unborn = by (find (λ (b : Base). same_draw b.core.id name) (groups_at as_nodes scenario.groups journal)) refl
      where
        by : (o : Option Base) → find (λ (b : Base). same_draw b.core.id name) (groups_at as_nodes scenario.groups journal) ≡ o → marks_at (players words all) prefix name who ≡ []
        by (Some base) e =
            let f = find_found (λ (b : Base). same_draw b.core.id name) (groups_at as_nodes scenario.groups journal) base e in
            subst (λ n. marks_at (players words all) prefix n who ≡ []) (draw_is base.core.id name f.1) (of_group sent base f.0 who unborn)
        by None e =
            no_group (record any { core = record any.core { id = name } })
            (λ base a same. true≢false (sym (same_name base.core.id name same) ∙ find_nothing (λ (b : Base). same_draw b.core.id name) (groups_at as_nodes scenario.groups journal) base e a)) prefix_timely who

pub no_mail_for_strangers : ((scenario : Scenario) → Base) → PrefixesAreFound → MembersAreHome → NoMailForStrangers
no_mail_for_strangers any finds home = record {
  strangers = λ words scenario journal prefix calm fact sent name who unborn. no_mail finds home words scenario journal calm prefix fact (any scenario) sent name who unborn;
  born = λ words scenario journal calm base a who m. first_born finds home words scenario journal calm base a who m;
}

-- some record of a group
some_base : Scenario → Base
some_base scenario = base_at [] 0

pub strangers_get_none : PrefixesAreFound → MembersAreHome → NoMailForStrangers
strangers_get_none = no_mail_for_strangers some_base
