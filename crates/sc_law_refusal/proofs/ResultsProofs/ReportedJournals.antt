-- Every lawful journal of a valid scenario reports what happened: each result of an order that a row reports was decided by the rows before it, or is a refusal of the row with its cause.
use Rattle.std.proofs.Common.{◌≡◌, ℕ, ◌≤◌, ◌⊎◌, eqb, refl, sym, ◌∙◌, ap, subst, List, [], ◌∷◌, ◌++◌, append_assoc, length, drop, Option, Some, None, inl, inr}
use Rattle.std.specs.Option.{option_map}
use Rattle.std.specs.List.{find}
use Rattle.std.proofs.lemmas.Bool.{cond-true, eq-eqb}
use Rattle.sc_base.specs.Definitions.{Among}
use Rattle.sc_node_table.specs.Values.{Seat, Row, Event, Deliver, Drop, Again, Crash, Input, Got, Base, Route, Command, OrderLine, OrderResult, Refused, OrderRefusal, Mail, Node, Client}
use Rattle.sc_words.specs.declared.commands.orders.OrderResult.TheVariants.{Done, Committed, Aborted}
use Rattle.sc_actor.specs.declared.rows.Event.TheVariants.{Tick as TickEvent, Go as GoEvent, Told as ToldEvent}
use Rattle.sc_actor.specs.declared.rows.Input.TheVariants.{Tick, Go, Told}
use Rattle.sc_actor.specs.Definitions.{mails, numbered, acted, input_of, value, IsStep}
use Rattle.sc_actor.proofs.Lemmas.{value-snoc}
use Rattle.sc_client_table.specs.table.TableDefinitions.{Client as ClientState}
use Rattle.sc_client_table.proofs.TableProofs.TurnLemmas.{sends_in_turn}
use Rattle.sc_group_table.specs.machine.MachineDefinitions.{state_after}
use Rattle.sc_node_table.specs.NodeDefinitions.{node_table, slots_ahead}
use Rattle.sc_words.proofs.PaxosProofs.PaxosLemmas.{Each-among, find_found}
use Rattle.sc_paxos_law.specs.PaxosLawDefinitions.{IsLog}
use Rattle.sc_scenario.specs.scenario.Definitions.{IsValid}
use Rattle.sc_scenario.specs.declared.scenario.scenarios.Scenario.{Scenario}
use Rattle.sc_scenario.proofs.ScenarioProofs.Lemmas.{valid_scenarios_are_bounded}
use Rattle.sc_meaning.specs.sound.SoundDefinitions.{Ahead, Lawful, Player, births, decided_log, groups_at, node_seat, player_table, route_of, system_of}
use Rattle.sc_law_entries.specs.names.NameDefinitions.{owner_in}
use Rattle.sc_law_entries.specs.ring.RingDefinitions.{Sources}
use Rattle.sc_law_entries.proofs.NamesProofs.Fresh.{IsClient, IsSeat, seats_are, replay_client}
use Rattle.sc_law_entries.proofs.NamesProofs.NameLemmas.{orders_are_allowed_allowed, orders_are_allowed_wishes, orders_are_allowed_positions, names_have_one_owner_others}
use Rattle.sc_law_groups.specs.whole.WholeDefinitions.{section_op, MayQueue, IsHeardAt}
use Rattle.sc_law_groups.proofs.GroupProofs.GroupLemmas.{Kept, IsNodeAt, h_of, rule, birth}
use Rattle.sc_law_groups.proofs.GroupProofs.RowSteps.{number_among}
use Rattle.sc_law_groups.proofs.WholeProofs.WholeLemmas.{goes_on_from, holds, orders_allowed, valid_scenarios_begin_well}
use Rattle.sc_law_refusal.specs.refusal.RowCauses.{Rows, Acts}
use Rattle.sc_law_refusal.specs.results.ResultDefinitions.{EndsOrder, ReportAs, IsDecided, IsNotTaken, IsDismissed, HasHappened, ReportsWhatHappened}
use Rattle.sc_law_refusal.proofs.ResultsProofs.ReportedNodes.{Takes, node_reports}

module _ (sources : Sources) (ahead : Ahead) (words : ℕ → ℕ → ℕ × ℕ) (scenario : Scenario) (route : Route) (rows : Rows) (row : Row Mail OrderLine)
    (kept : Kept ahead scenario scenario.groups (groups_at ahead scenario.groups rows) route (MayQueue sources ahead scenario) (IsHeardAt sources ahead scenario) rows) where
  abbrev Fact : ℕ → OrderResult → Type 0
  Fact number result = HasHappened ahead scenario rows row number result

  abbrev Q : List Mail → Type 0
  Q sent = ReportAs Fact sent

  abbrev bases : List Base
  bases = groups_at ahead scenario.groups rows

  -- an entry of a log of the steps is one of the decided log
  decides : (base : Base) → Among base bases → (whole : List Command) (command : Command) → IsLog (rule ahead base) (h_of rows base) (whole ++ command ∷ []) → (number : ℕ) (result : OrderResult) → EndsOrder (state_after (birth ahead base) whole) command number result → IsDecided ahead scenario rows number result
  decides base a whole command fact number result ends =
      let rest = drop (length (whole ++ command ∷ [])) (decided_log ahead base rows) in
      record {
        base = base;
        stands = a;
        prefix = whole;
        entry = command;
        later = rest;
        log_is = goes_on_from ahead base rows (kept.parts base a).lawful (whole ++ command ∷ []) fact ∙ append_assoc whole (command ∷ []) rest;
        ends = ends;
      }

  happened : (base : Base) → Among base bases → (whole : List Command) (command : Command) → IsLog (rule ahead base) (h_of rows base) (whole ++ command ∷ []) → (number : ℕ) (result : OrderResult) → EndsOrder (state_after (birth ahead base) whole) command number result → Fact number result
  happened base a whole command fact number Done ends = decides base a whole command fact number Done ends
  happened base a whole command fact number Committed ends = decides base a whole command fact number Committed ends
  happened base a whole command fact number Aborted ends = decides base a whole command fact number Aborted ends
  happened base a whole command fact number (Refused why) ends = inl (decides base a whole command fact number (Refused why) ends)

  -- ---- a node

  module _ (n : ℕ) (low : 1 ≤ n) (high : n ≤ scenario.nodes) (who : row.who ≡ n) (seated : find (λ (other : Seat Player). eqb other.who row.who) (births ahead scenario) ≡ Some (node_seat ahead scenario.groups scenario.policy n)) where
    abbrev seat : Seat Player
    seat = node_seat ahead scenario.groups scenario.policy n

    at : IsNodeAt ahead scenario scenario.groups bases route (MayQueue sources ahead scenario) (IsHeardAt sources ahead scenario) rows rows n
    at = kept.nodes n low high

    -- the node takes the input of the row
    acting : (input : Input Mail OrderLine) → input_of (mails rows) row.event ≡ Some input → Acts ahead scenario rows row seat (Node at.node) (Node (node_table at.node input).0) input
    acting input e = record {
      seated = seated;
      was = at.value_is;
      takes = e;
      fact = value-snoc player_table seat rows row
          ∙ cond-true (eqb row.who n) (acted player_table (value player_table seat rows) (input_of (mails rows) row.event)).0 (value player_table seat rows) (eq-eqb row.who n who)
          ∙ ap (λ (p : Player). (acted player_table p (input_of (mails rows) row.event)).0) at.value_is ∙ ap (λ (o : Option (Input Mail OrderLine)). (acted player_table (Node at.node) o).0) e;
    }

    refuses : (input : Input Mail OrderLine) → input_of (mails rows) row.event ≡ Some input → (number : ℕ) (why : OrderRefusal) → IsNotTaken at.node input number why ⊎ IsDismissed at.node (node_table at.node input).0 input number why → Fact number (Refused why)
    refuses input e number why cause = inr (record { seat = seat; node = at.node; after = (node_table at.node input).0; input = input; acts = acting input e; cause = cause })

    abbrev Brought : Input Mail OrderLine → Type 0
    Brought (Got mail) = Among mail (mails rows)
    Brought Tick = Unit {0}
    Brought Go = Unit {0}
    Brought (Told line) = Unit {0}

    node_acts : (input : Input Mail OrderLine) → input_of (mails rows) row.event ≡ Some input → Brought input → Q (player_table (Node at.node) input).1
    node_acts input e a =
        node_reports ahead bases (MayQueue sources ahead scenario rows) (IsHeardAt sources ahead scenario rows) (h_of rows) (λ base b. (kept.parts base b).lawful) Fact happened n at.node at.fact input
        (λ number why c. refuses input e number why (inl c)) (λ number why c. refuses input e number why (inr c)) input refl (takes input a)
      where
        takes : (i : Input Mail OrderLine) → Brought i → Takes ahead bases (MayQueue sources ahead scenario rows) (IsHeardAt sources ahead scenario rows) (h_of rows) (λ base b. (kept.parts base b).lawful) Fact happened n at.node at.fact input
            (λ number why c. refuses input e number why (inl c)) (λ number why c. refuses input e number why (inr c)) i
        takes (Got mail) b = ((λ base c. (kept.parts base c).true_mail mail b), kept.named mail b)
        takes Tick b = tt
        takes Go b = tt
        takes (Told line) b = tt

    got : (o : Option Mail) → input_of (mails rows) row.event ≡ option_map Got o → ((mail : Mail) → o ≡ Some mail → Among mail (mails rows)) → Q (acted player_table (Node at.node) (option_map Got o)).1
    got None e sent = tt
    got (Some mail) e sent = node_acts (Got mail) e (sent mail refl)

    row_acts : (event : Event OrderLine) → row.event ≡ event → Q (acted player_table (Node at.node) (input_of (mails rows) event)).1
    row_acts (Deliver number) e = got (numbered (mails rows) number) (ap (λ (x : Event OrderLine). input_of (mails rows) x) e) (λ mail f. number_among (mails rows) number mail f)
    row_acts TickEvent e = node_acts Tick (ap (λ (x : Event OrderLine). input_of (mails rows) x) e) tt
    row_acts GoEvent e = node_acts Go (ap (λ (x : Event OrderLine). input_of (mails rows) x) e) tt
    row_acts (ToldEvent line) e = node_acts (Told line) (ap (λ (x : Event OrderLine). input_of (mails rows) x) e) tt
    row_acts Crash e = tt
    row_acts (Drop number) e = tt
    row_acts (Again number) e = tt

  -- ---- a client

  client_acts : (client : ClientState) (o : Option (Input Mail OrderLine)) → Q (acted player_table (Client client) o).1
  client_acts client None = tt
  client_acts client (Some input) =
      elim (sends_in_turn client input).sends [
        | inl none ↦ subst Q (sym none) tt
        | inr one ↦ subst Q (sym one.4) (tt, tt)
      ]

  -- ---- a row

  seat_acts : (seat : Seat Player) → IsSeat ahead scenario seat → row.who ≡ seat.who → find (λ (other : Seat Player). eqb other.who row.who) (births ahead scenario) ≡ Some seat → Q (acted player_table (value player_table seat rows) (input_of (mails rows) row.event)).1
  seat_acts seat (inl (n, low, high, fact)) who seated =
      let same_who : row.who ≡ n = who ∙ ap (λ (s : Seat Player). s.who) fact in
      let same_seat = seated ∙ ap (λ (s : Seat Player). Some s) fact in
      subst (λ (s : Seat Player). Q (acted player_table (value player_table s rows) (input_of (mails rows) row.event)).1) (sym fact)
      (subst (λ (p : Player). Q (acted player_table p (input_of (mails rows) row.event)).1) (sym (at n low high same_who same_seat).value_is) (row_acts n low high same_who same_seat row.event refl))
  seat_acts seat (inr client) who seated = by (value player_table seat rows) (replay_client seat.who seat.actor [] rows client)
    where
      by : (p : Player) → IsClient p → Q (acted player_table p (input_of (mails rows) row.event)).1
      by (Node node) c = absurd c
      by (Client state) c = client_acts state (input_of (mails rows) row.event)

  row_reports : IsStep (system_of ahead words scenario) rows row → Q row.sent
  row_reports (inl step) =
      let seated : IsSeat ahead scenario step.seat = Each-among (IsSeat ahead scenario) (births ahead scenario) step.seat (seats_are ahead scenario) (find_found (λ (other : Seat Player). eqb other.who step.seat.who) (births ahead scenario) step.seat step.born).0 in
      let who : row.who ≡ step.seat.who = ap (λ (r : Row Mail OrderLine). r.who) step.row_is in
      let event : row.event ≡ step.event = ap (λ (r : Row Mail OrderLine). r.event) step.row_is in
      subst (λ (ms : List Mail). Q ms) (sym (ap (λ (r : Row Mail OrderLine). r.sent) step.row_is))
      (subst (λ (e : Event OrderLine). Q (acted player_table (value player_table step.seat rows) (input_of (mails rows) e)).1) event
      (seat_acts step.seat seated who (subst (λ (w : ℕ). find (λ (other : Seat Player). eqb other.who w) (births ahead scenario) ≡ Some step.seat) (sym who) step.born)))
  row_reports (inr step) = subst (λ (ms : List Mail). Q ms) (sym (ap (λ (r : Row Mail OrderLine). r.sent) step.row_is)) tt

-- each row reports what happened
pub rows_report : (ahead : Ahead) → ahead.slots ≡ slots_ahead → (words : ℕ → ℕ → ℕ × ℕ) (scenario : Scenario) → IsValid scenario → (rows : Rows) → Lawful ahead words scenario rows → (row : Row Mail OrderLine) → IsStep (system_of ahead words scenario) rows row → ReportsWhatHappened ahead scenario rows row
rows_report ahead open_slots words scenario valid rows lawful row step =
    let owner = owner_in ahead scenario rows in
    let sources : Sources = record { owner = owner; request = section_op scenario } in
    let ready = valid_scenarios_begin_well owner (names_have_one_owner_others ahead scenario rows) ahead open_slots scenario valid in
    let orders = orders_allowed ahead words scenario (valid_scenarios_are_bounded scenario valid) orders_are_allowed_allowed orders_are_allowed_wishes orders_are_allowed_positions rows lawful in
    let well = ready.well in
    let all = holds sources ahead words scenario (route_of ready.first) well.place well.seats well.asks well.apart well.fresh rows orders lawful in
    row_reports sources ahead words scenario (route_of ready.first) rows row all.kept step
