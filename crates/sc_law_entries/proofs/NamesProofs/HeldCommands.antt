-- What holds of each command that a replica has queued, in flight, ready or reported is kept by the parts of its state.
use Rattle.std.proofs.Common.{◌≡◌, ℕ, ◌&&◌, not, nat_lt, eqb, Bool, List, [], ◌∷◌, ◌++◌, Option, Some, None, subst}
use Rattle.sc_base.specs.Definitions.{Each, same_ballot, is_member, is_majority}
use Rattle.sc_node_table.specs.Values.{Ballot, Command, Noop, Call, Join, Leave, Split, Begin, Counted, Chosen, NotYet, Flight, Report, Must, Gap}
use Rattle.sc_words.specs.declared.paxos.answers.Must.TheVariants.{Value, Free as Open}
use Rattle.sc_words.proofs.PaxosProofs.PaxosLemmas.{Each-append}
use Rattle.sc_words.specs.paxos.PaxosDefinitions.{LeaderState, flight_at, promise_counted, kept_voters, voters_after, tallied, vote_at, counted, choice, chosen_value, names_above, must, must_without}
use Rattle.sc_node_table.specs.NodeDefinitions.{ReplicaState, flying, queued_number, is_request_of, without_request, request_before, put_back}
use Rattle.sc_law_entries.specs.names.NameDefinitions.{Opt}
use Rattle.sc_law_entries.proofs.NamesProofs.EachFound.{opt_find, opt_map, opt_choice, flight_without, voters_with}
use Rattle.sc_law_walks.proofs.WalkLemmas.{either_way}

module _ (P : Command → Type 0) where
  abbrev pub Commands : List Command → Type 0
  Commands commands = Each P commands

  abbrev pub Flights : List (Flight Command) → Type 0
  Flights flights = Each (λ (flight : Flight Command). P flight.value) flights

  abbrev pub Reports : List (Report Command) → Type 0
  Reports reports = Each (λ (report : Report Command). P report.value) reports

  abbrev pub Ready : List (ℕ × Command) → Type 0
  Ready ready = Each (λ (e : ℕ × Command). P e.1) ready

  -- P holds of each command in the queues, of what the leader holds, and of what is ready
  abbrev pub HeldAs : List Command → List Command → LeaderState Command → List (ℕ × Command) → Type 0
  HeldAs backlog acts leader ready = Commands backlog × Commands acts × Flights leader.flights × Reports leader.reports × Ready ready

  abbrev pub Held : ReplicaState → Type 0
  Held r = HeldAs r.backlog r.acts r.leader r.ready

  -- ---- queues

  pub without_held : (backlog : List Command) (client : ℕ) → Commands backlog → Commands (without_request backlog client)
  without_held [] client c = tt
  without_held (command ∷ backlog) client c = either_way Commands (is_request_of client command) backlog (command ∷ without_request backlog client) c.1 (c.0, without_held backlog client c.1)

  before_held : (o : Option ℕ) (client seq : ℕ) (command : Command) (backlog : List Command) → P command → Commands backlog → Commands (request_before o client seq command backlog)
  before_held None client seq command backlog n c = (n, c)
  before_held (Some other) client seq command backlog n c = either_way Commands (nat_lt other seq) (command ∷ without_request backlog client) backlog (n, without_held backlog client c) c

  pub back_held : (command : Command) (r : ReplicaState) → P command → Held r → Held (put_back command r)
  unfolding put_back
  back_held Noop r c h = h
  back_held (Call client seq op) r c h = (before_held (queued_number r.backlog client) client seq (Call client seq op) r.backlog c h.0, h.1, h.2, h.3, h.4)
  back_held (Join node order) r c h = ((c, h.0), h.1, h.2, h.3, h.4)
  back_held (Leave node order) r c h = ((c, h.0), h.1, h.2, h.3, h.4)
  back_held (Split at child order) r c h = ((c, h.0), h.1, h.2, h.3, h.4)
  back_held (Begin tx body order) r c h = ((c, h.0), h.1, h.2, h.3, h.4)
  back_held _ r c h = (h.0, (c, h.1), h.2, h.3, h.4)

  pub last_held : (commands : List Command) (command : Command) → P command → Commands commands → Commands (commands ++ command ∷ [])
  last_held commands command c h = Each-append P commands (command ∷ []) h (c, tt)

  -- ---- what is in flight

  pub flying_held : (r : ReplicaState) (slot : ℕ) → Held r → Opt P (flying r slot)
  flying_held r slot h =
      opt_map (λ (flight : Flight Command). P flight.value) P (λ (flight : Flight Command). flight.value) (λ flight c. c) (flight_at slot r.leader.flights)
      (opt_find (λ (flight : Flight Command). P flight.value) (λ (flight : Flight Command). eqb flight.slot slot) r.leader.flights h.2)

  -- ---- promises and votes

  abbrev Leads : LeaderState Command → Type 0
  Leads leader = Flights leader.flights × Reports leader.reports

  pub polled_held : (node : ℕ) (ballot : Ballot) (reports : List (Report Command)) (leader : LeaderState Command) → Reports reports → Leads leader → Leads (promise_counted node ballot reports leader).1
  polled_held node ballot reports leader p h =
      either_way (λ (q : Bool × LeaderState Command). Leads q.1) (same_ballot ballot leader.ballot && not (is_member leader.promisers node)) _ _ (h.0, Each-append (λ (report : Report Command). P report.value) leader.reports reports h.1 p) h

  tallied_held : (slot : ℕ) (value : Command) (members : List ℕ) (voters : Option (List ℕ)) (leader : LeaderState Command) → Leads leader → Leads (tallied slot value members voters leader).1
  tallied_held slot value members voters leader h =
      either_way (λ (p : Counted Command × LeaderState Command). Leads p.1) (is_majority members (kept_voters voters)) _ _ (flight_without P slot leader.flights h.0, h.1) (voters_with P slot voters leader.flights h.0, h.1)

  vote_held : (node slot : ℕ) (members : List ℕ) (o : Option (Flight Command)) (leader : LeaderState Command) → Leads leader → Leads (vote_at node slot members o leader).1
  vote_held node slot members None leader h = h
  vote_held node slot members (Some flight) leader h = tallied_held slot flight.value members (voters_after members node flight.voters) leader h

  pub counted_held : (node : ℕ) (ballot : Ballot) (slot : ℕ) (members : List ℕ) (leader : LeaderState Command) → Leads leader → Leads (counted node ballot slot members leader).1
  counted_held node ballot slot members leader h =
      either_way (λ (p : Counted Command × LeaderState Command). Leads p.1) (same_ballot ballot leader.ballot) (vote_at node slot members (flight_at slot leader.flights) leader) (NotYet 0, leader) (vote_held node slot members (flight_at slot leader.flights) leader h) h

  -- what is chosen was in flight
  abbrev Chooses : Counted Command × LeaderState Command → Type 0
  Chooses p = (command : Command) → p.0 ≡ Chosen command → P command

  chosen_at : (node slot : ℕ) (members : List ℕ) (o : Option (Flight Command)) (leader : LeaderState Command) → Opt (λ (flight : Flight Command). P flight.value) o → Chooses (vote_at node slot members o leader)
  chosen_at node slot members None leader c = λ command e. cc
  chosen_at node slot members (Some flight) leader c =
      either_way Chooses (is_majority members (kept_voters (voters_after members node flight.voters))) _ _ (λ command e. (let same : flight.value ≡ command = cc in subst P same c)) (λ command e. cc)

  pub chosen_held : (node : ℕ) (ballot : Ballot) (slot : ℕ) (members : List ℕ) (leader : LeaderState Command) → Leads leader → Chooses (counted node ballot slot members leader)
  chosen_held node ballot slot members leader h =
      either_way Chooses (same_ballot ballot leader.ballot) (vote_at node slot members (flight_at slot leader.flights) leader) (NotYet 0, leader)
      (chosen_at node slot members (flight_at slot leader.flights) leader (opt_find (λ (flight : Flight Command). P flight.value) (λ (flight : Flight Command). eqb flight.slot slot) leader.flights h.0)) (λ command e. cc)

  -- ---- what must be proposed was reported

  abbrev MustHold : Must Command → Type 0
  MustHold (Value command) = P command
  MustHold Gap = Unit {0}
  MustHold Open = Unit {0}

  must_by : (above : Bool) (o : Option Command) → Opt P o → MustHold (must_without above o)
  must_by above (Some command) c = c
  must_by above None c = either_way MustHold above Gap Open tt tt

  pub must_held : (slot : ℕ) (leader : LeaderState Command) (command : Command) → must slot leader ≡ Value command → Leads leader → P command
  must_held slot leader command e h =
      subst MustHold e (must_by (names_above slot leader.reports) (chosen_value slot leader.reports)
      (opt_map (λ (report : Report Command). P report.value) P (λ (report : Report Command). report.value) (λ report c. c) (choice slot leader.reports) (opt_choice P slot leader.reports h.1)))
