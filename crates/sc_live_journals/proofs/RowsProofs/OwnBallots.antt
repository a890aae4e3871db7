-- A replica that runs does so with a ballot of its own, and what it asks to accept or to promise is of that ballot.
use Rattle.std.proofs.Common.{◌≡◌, ℕ, eqb, refl, true≢false, List, [], ◌∷◌, ◌++◌, map, find, Option, Some, None, sym, ◌∙◌, subst}
use Rattle.std.proofs.lemmas.Bool.{eqb-true}
use Rattle.sc_base.specs.Definitions.{Each, is_member}
use Rattle.sc_node_table.specs.Values.{Draw, Base, Command, OrderLine, Mail, MailBody, Prepare, Accept, Node, Client, Seat, Event, Row, Input, Got}
use Rattle.sc_node_table.specs.NodeDefinitions.{entered, jumped, forgotten, ReplicaState, installed_replica, born_replica, slots_ahead, numbers_from, node_table, born_replicas}
use Rattle.sc_words.specs.paxos.PaxosDefinitions.{LeaderState, promise_counted, counted}
use Rattle.sc_law_walks.specs.WalkDefinitions.{IsKept}
use Rattle.sc_law_walks.proofs.WalkLemmas.{either_way, Facts, States, Mails, Walk, Births, Sends, Hears, hears_all, creation, back_any, GivenAny, any_step, Ticks, promise_ballot, counted_ballot}
use Rattle.sc_live_journals.specs.rows.RowDefinitions.{IsOwnAsking, IsOwnMail, AreOwn, RunsAlone, PlaysAlone, BallotsAreOwn, BirthsPlayAlone}
use Rattle.sc_actor.specs.declared.rows.Input.TheVariants.{Tick, Go as GoInput, Told as ToldInput}
use Rattle.sc_actor.specs.Definitions.{mails, value, acted, input_of, row_of}
use Rattle.sc_actor.proofs.Lemmas.{value-snoc, mails-snoc}
use Rattle.sc_live_orderly.specs.OrderlyDefinitions.{IsCalmEvent, AreInTime}
use Rattle.sc_live_orderly.proofs.OrderlyLemmas.{by_time, last_in_time}
use Rattle.sc_client_table.specs.table.TableDefinitions.{table}
use Rattle.sc_words.proofs.PaxosProofs.PaxosLemmas.{Each-among, Each-append, Each-weaker, find_found}
use Rattle.sc_scenario.specs.declared.scenario.scenarios.Asks.{Asks as Requests}
use Rattle.sc_scenario.specs.declared.scenario.scenarios.Scenario.{Scenario}
use Rattle.sc_meaning.specs.sound.SoundDefinitions.{Player, player_table, node_seat, client_seat, client_seats, route_of, as_nodes}
use Rattle.sc_live_steps.specs.calm.CalmDefinitions.{players, Rows}
use Rattle.sc_live_steps.specs.following.FollowingDefinitions.{Asks, Prepares, mark_of}
use Rattle.sc_live_steps.proofs.FollowingProofs.FollowingLemmas.{same_mark}
use Rattle.sc_live_journals.proofs.RowsProofs.MailWithoutMarks.{client_none}

-- ---- what a row leaves

enters : (command : Command) (r : ReplicaState) → RunsAlone r → RunsAlone (entered command r)
unfolding entered forgotten
enters command r k = k

jumps : (slot : ℕ) (base : Base) (sets : List (List ℕ)) (r : ReplicaState) → RunsAlone r → RunsAlone (jumped slot base sets r)
unfolding jumped forgotten
jumps slot base sets r k = k

makes : (me slot : ℕ) (base : Base) (sets : List (List ℕ)) → RunsAlone (installed_replica me slot base sets)
unfolding forgotten
makes me slot base sets = λ on. absurd (true≢false (sym on))

with_leader : (r : ReplicaState) (l : LeaderState Command) → l.ballot ≡ r.leader.ballot → RunsAlone r → RunsAlone (record r { leader = l })
with_leader r l same k = λ on. subst (λ b. r.me ≡ b.node) (sym same) (k on)

-- ---- the invariant

module _ (me : ℕ) where
  abbrev own_facts : Facts
  own_facts = record {
    me = me;
    Early = λ r. RunsAlone r;
    Late = λ r. RunsAlone r;
    Says = λ to body. IsOwnAsking me body;
    Round = λ ballot. Unit {0};
    Entry = λ slot command. Unit {0};
    Voted = λ slot. Unit {0};
    State = λ slot base. Unit {0};
    Polled = λ ballot. Unit {0};
    Behind = λ slot. Unit {0};
    Found = λ command. Unit {0};
  }

  abbrev own_states : States own_facts
  own_states = record {
    late = λ r k. k;
    again = λ r command on e k. (k, tt);
    entered = λ command r kept good k. enters command r k;
    landed = λ slot r k. k;
    jumped = λ slot base sets r many good later k. jumps slot base sets r k;
    hinted = λ hint r off k. k;
    ended = λ hint r k. λ on. absurd (true≢false (sym on));
    elected = λ r same k. λ on. refl;
    seen = λ ballot r good t on k. k;
    overtaken = λ ballot r good on t k. λ run. absurd (true≢false (sym run));
    polled = λ from ballot reports r on good k. with_leader r (promise_counted from ballot reports r.leader).1 (promise_ballot from ballot reports r.leader) k;
    counts = λ from ballot slot set r on k. with_leader r (counted from ballot slot set r.leader).1 (counted_ballot from ballot slot set r.leader) k;
    chosen = λ from ballot slot set command r e good k. tt;
    readied = λ slot command r on good k. k;
    promised = λ ballot r good top t k. k;
    accepted = λ report r good top t k. k;
    back = λ command r on k. back_any (λ x. RunsAlone x) (λ x acts backlog p. p) command r k;
    filed = λ act r on good f k. k;
    ordered = λ order r on good k. k;
    requested = λ client seq op r on e k. k;
    requested_again = λ client seq other op r on e f k. k;
    unfiled = λ act acts r on e k. k;
    uncalled = λ command backlog r on e k. k;
    must_found = λ slot command r e k. tt;
    noop_found = tt;
    act_found = λ act acts r e k. tt;
    call_found = λ command backlog r e k. tt;
    flown = λ slot command r on near good k. k;
  }

  abbrev own_mails : Mails own_facts
  own_mails = record {
    tells = λ number result. tt;
    answers = λ client group seq answer. tt;
    asks = λ to slot command r same on near good k. sym same ∙ k on;
    polls = λ to r same k. sym same;
    repolls = λ to r same on k. sym same ∙ k on;
    installs = λ to r k. tt;
    teaches = λ to slot command group good. tt;
    recalls = λ to slot command r e k. tt;
    wants = λ to slot r behind low k. tt;
    promises = λ to ballot from_slot r good polled k. tt;
    votes = λ to ballot slot command group good entry. tt;
    nacks = λ to r k. tt;
    offers = λ to tx offer own. tt;
    watches = λ to tx watch own. tt;
    casts = λ to tx coord part vote. tt;
    sees = λ to tx coord part vote. tt;
    ends = λ to tx part outcome. tt;
    sends_on = λ to tx coord hint. tt;
  }

  abbrev own_walk : Walk
  own_walk = record { facts = own_facts; states = own_states; mails = own_mails }

  abbrev own_births : Births own_facts
  own_births = record { born = λ base. λ on. sym (eqb-true base.core.first me on); made = λ slot base sets many good. makes me slot base sets; wants_all = λ to group. tt }

  abbrev own_ticks : Ticks own_facts
  own_ticks = record { waited = λ waits r k. k; gives_up = λ tx r on f k. k; reasks = λ to slot command r same on e k. sym same ∙ k on; relearns = λ to command r e k. tt }

  heard : (body : MailBody) → Hears own_walk body
  heard body = hears_all own_walk (λ ballot. (tt, tt)) (λ slot command. tt) (λ slot. (tt, tt)) body (λ group slot base sets e. (tt, tt))

  given : (input : Input Mail OrderLine) → GivenAny own_walk own_births own_ticks input
  given (Got mail) = heard mail.body
  given Tick = tt
  given GoInput = tt
  given (ToldInput line) = tt

-- ---- a client asks for no such thing

own_body : (from : ℕ) (body : MailBody) → ((name : Draw) → mark_of name from body ≡ None) → IsOwnAsking from body
own_body from (Accept group ballot slot command) none = (let bad : Some (Asks ballot slot) ≡ None = sym (same_mark group (Asks ballot slot)) ∙ none group in cc)
own_body from (Prepare group ballot from_slot) none = (let bad : Some (Prepares ballot) ≡ None = sym (same_mark group (Prepares ballot)) ∙ none group in cc)
own_body from _ none = tt

own_none : (mails : List Mail) → ((name : Draw) → Each (λ mail. mark_of name mail.from mail.body ≡ None) mails) → AreOwn mails
own_none [] none = tt
own_none (mail ∷ mails) none = (own_body mail.from mail.body (λ name. (none name).0), own_none mails (λ name. (none name).1))

-- ---- a player

abbrev Turn : Player × List Mail → Type 0
Turn turn = PlaysAlone turn.0 × AreOwn turn.1

takes : (player : Player) (input : Input Mail OrderLine) → PlaysAlone player → Turn (player_table player input)
takes (Node node) input k =
    let after = any_step (own_walk node.me) (own_births node.me) (own_ticks node.me) node input (given node.me input) (refl, k) in (
      subst (λ m. Each (λ (r : ReplicaState). IsKept m r × RunsAlone r) (node_table node input).0.replicas) (sym after.0.0) after.0.1,
      Each-weaker (Sends (own_walk node.me)) IsOwnMail (λ mail said. subst (λ f. IsOwnAsking f mail.body) (sym said.0) said.1) (node_table node input).1 after.1,
    )
takes (Client client) input k = (tt, own_none (table client input).1 (λ name. client_none name client input))

acts : (player : Player) (o : Option (Input Mail OrderLine)) → PlaysAlone player → Turn (acted player_table player o)
acts player None k = (k, tt)
acts player (Some input) k = takes player input k

-- ---- a journal

module _ (words : ℕ → ℕ → ℕ × ℕ) (births : List (Seat Player)) where
  abbrev Holds : Rows → Type 0
  Holds rows = Each (λ seat. PlaysAlone (value player_table seat rows)) births × AreOwn (mails rows)

  row_keeps : (rows : Rows) (seat : Seat Player) (event : Event OrderLine) → find (λ other. eqb other.who seat.who) births ≡ Some seat → IsCalmEvent (players words births) rows seat.who event → Holds rows → Holds (rows ++ row_of player_table seat rows event ∷ [])
  row_keeps rows seat event born calm k =
      let row : Row Mail OrderLine = row_of player_table seat rows event in
      let turn : (player : Player) → PlaysAlone player → Turn (acted player_table player (input_of (mails rows) event)) = λ player p. acts player (input_of (mails rows) event) p in
      let own = Each-among (λ (s : Seat Player). PlaysAlone (value player_table s rows)) births seat k.0 (find_found (λ (other : Seat Player). eqb other.who seat.who) births seat born).0 in (
        Each-weaker (λ (s : Seat Player). PlaysAlone (value player_table s rows)) (λ (s : Seat Player). PlaysAlone (value player_table s (rows ++ row ∷ [])))
            (λ s p. subst PlaysAlone (sym (value-snoc player_table s rows row))
            (either_way PlaysAlone (eqb row.who s.who) (acted player_table (value player_table s rows) (input_of (mails rows) row.event)).0 (value player_table s rows) (turn (value player_table s rows) p).0 p)) births k.0,
        subst AreOwn (sym (mails-snoc rows row)) (Each-append IsOwnMail (mails rows) row.sent k.1 (turn (value player_table seat rows) own).1),
      )

  all_rows : Each (λ seat. PlaysAlone seat.actor) births → (rows : Rows) → AreInTime (players words births) rows → Holds rows
  all_rows begins rows timely =
      by_time (players words births) Holds (begins, tt)
      (λ before row t k. (let calm = (last_in_time (players words births) before row t).0 in
      subst (λ (r : Row Mail OrderLine). Holds (before ++ r ∷ [])) (sym calm.row_is) (row_keeps before calm.seat calm.event calm.born calm.calm k))) rows timely

-- What asks to accept or to promise comes from the node of its ballot, in journals whose rows come in time, if each replica that runs at a birth does so with a ballot of its own.
pub ballots_own : BallotsAreOwn
ballots_own words births rows begins timely = (all_rows words births begins rows timely).1

-- ---- births

born_all : (me : ℕ) (groups : List Base) → Each (λ r. IsKept me r × RunsAlone r) (born_replicas slots_ahead me groups)
born_all me [] = tt
born_all me (base ∷ groups) =
    either_way (λ (bases : List Base). Each (λ (r : ReplicaState). IsKept me r × RunsAlone r) (map (λ b. born_replica slots_ahead me b) bases)) (is_member base.core.members me) _ _
    (creation (own_walk me) (own_births me) base, born_all me groups) (born_all me groups)

nodes_born : (scenario : Scenario) (numbers : List ℕ) → Each (λ seat. PlaysAlone seat.actor) (map (node_seat as_nodes scenario.groups scenario.policy) numbers)
nodes_born scenario [] = tt
nodes_born scenario (n ∷ numbers) = (born_all n scenario.groups, nodes_born scenario numbers)

clients_born : (groups : List Base) (clients : List Requests) → Each (λ seat. PlaysAlone seat.actor) (client_seats groups clients)
clients_born [] clients = tt
clients_born (base ∷ groups) clients = by clients
  where
    by : (cs : List Requests) → Each (λ seat. PlaysAlone seat.actor) (map (client_seat (route_of base)) cs)
    by [] = tt
    by (c ∷ cs) = (tt, by cs)

-- At the births of a scenario each replica that runs does so with a ballot of its own.
pub births_alone : BirthsPlayAlone
births_alone scenario =
    Each-append (λ (seat : Seat Player). PlaysAlone seat.actor) (map (node_seat as_nodes scenario.groups scenario.policy) (numbers_from 1 scenario.nodes)) (client_seats scenario.groups scenario.clients) (nodes_born scenario (numbers_from 1 scenario.nodes))
    (clients_born scenario.groups scenario.clients)
