-- The line that is read off a row makes it, where the row is a step and some line may make it.
use Rattle.std.proofs.Common.{◌≡◌, ℕ, ◌-◌, List, [], ◌∷◌, ◌++◌, map, Bool, true, false, cond, eqb, ◌||◌, find, Option, refl, sym, ◌∙◌, ap, subst, arith, None, Some, inl, inr}
use Rattle.std.specs.Prelude.{option_and_then}
use Rattle.std.specs.Option.{option_map}
use Rattle.std.proofs.lemmas.Bool.{eqb-true}
use Rattle.sc_base.specs.Definitions.{client_actor, most_nodes}
use Rattle.sc_node_table.specs.Values.{OrderLine, Mail, Row, Event, Seat}
use Rattle.sc_actor.specs.declared.rows.Event.TheVariants.{Deliver, Tick, Go, Told, Crash, Drop, Again}
use Rattle.sc_actor.specs.declared.schedules.Line.TheVariants as walk
use Rattle.sc_actor.specs.Definitions.{mails, numbered, may_get, numbers_of, System, acts, row_of, network, waiting, kth, IsUnderWay, IsStep, IsOpen, IsLoose, line_row}
use Rattle.sc_node_table.specs.NodeDefinitions.{numbers_from}
use Rattle.sc_scenario.specs.declared.scenario.scenarios.Asks.{Asks}
use Rattle.sc_scenario.specs.declared.scenario.scenarios.Scenario.{Scenario}
use Rattle.sc_meaning.specs.sound.SoundDefinitions.{Ahead, as_nodes, births, node_seat, client_seats, line_of, system_of, player_table, receiver_of, Player}
use Rattle.sc_law_carried.specs.reading.ReadingDefinitions.{actors_of, is_client_actor, line_at, may_be_line, getter, place_of_mail}
use Rattle.sc_law_carried.proofs.ReadingProofs.PendingPlaces.{pending_at}
use Rattle.sc_law_carried.proofs.ReadingProofs.LinesMakeRows.{IsOfOneRow}

-- the numbers of the actors do not depend on how many slots are open
pub numbers_same : (ahead : Ahead) (scenario : Scenario) → numbers_of (births ahead scenario) ≡ actors_of scenario
numbers_same ahead scenario = by (numbers_from 1 scenario.nodes)
  where
    by : (ns : List ℕ) → numbers_of (map (node_seat ahead scenario.groups scenario.policy) ns ++ client_seats scenario.groups scenario.clients) ≡ numbers_of (map (node_seat as_nodes scenario.groups scenario.policy) ns ++ client_seats scenario.groups scenario.clients)
    by [] = refl
    by (n ∷ ns) = ap (λ xs. n ∷ xs) (by ns)

-- a client's number as an actor is above those of nodes
client_above : (clients : List Asks) (who : ℕ) → is_client_actor clients who ≡ true → client_actor (who - most_nodes) ≡ who
client_above [] who t = cc
client_above (asks ∷ clients) who t = by (eqb (client_actor asks.client) who) refl t (client_above clients who)
  where
    by : (b : Bool) → eqb (client_actor asks.client) who ≡ b → (b || is_client_actor clients who) ≡ true → (is_client_actor clients who ≡ true → client_actor (who - most_nodes) ≡ who) → client_actor (who - most_nodes) ≡ who
    by true e t more = let same = eqb-true (client_actor asks.client) who e in omega (arith, same)
    by false e t more = more t

module _ (ahead : Ahead) (words : ℕ → ℕ → ℕ × ℕ) (scenario : Scenario) where
  abbrev s : System Player Mail OrderLine
  s = system_of ahead words scenario

  module _ (rows : List (Row Mail OrderLine)) where
    -- a mail under way is at the place by which the line names it
    named : (number : ℕ) (mail : Mail) (who : ℕ) → IsUnderWay s rows number mail → mail.to ≡ who → kth (waiting s rows (Some who)) (place_of_mail (actors_of scenario) rows who number) ≡ Some number
    named number mail who under to_who =
        subst (λ actors. kth (waiting s rows (Some who)) (place_of_mail actors rows who number) ≡ Some number) (numbers_same ahead scenario) (pending_at s rows number mail who under to_who)

    -- what an actor's event makes is its row
    acts_row : (seat : Seat Player) (event : Event OrderLine) → find (λ other. eqb other.who seat.who) s.births ≡ Some seat → acts s rows seat.who event ≡ Some (row_of player_table seat rows event)
    acts_row seat event born = ap (option_map (λ other. row_of player_table other rows event)) born

    actor_line : (seat : Seat Player) (event : Event OrderLine) → find (λ other. eqb other.who seat.who) s.births ≡ Some seat → IsOpen s rows seat.who event → may_be_line scenario seat.who event ≡ true
        → line_row s rows (line_of (line_at (actors_of scenario) rows seat.who event)) ≡ Some (row_of player_table seat rows event)
    actor_line seat (Deliver number) born open_ may =
        ap (option_and_then (λ mail. acts s rows seat.who (Deliver mail))) (named number open_.0 seat.who open_.1 open_.2) ∙ acts_row seat (Deliver number) born
    actor_line seat Tick born open_ may = ap (λ b. cond b None (acts s rows seat.who Tick)) open_ ∙ acts_row seat Tick born
    actor_line seat Go born open_ may =
        ap (λ who. line_row s rows (walk.Go who)) (client_above scenario.clients seat.who may) ∙ (ap (λ b. cond b None (acts s rows seat.who Go)) open_ ∙ acts_row seat Go born)
    actor_line seat (Told order) born open_ may = ap (λ b. cond b None (acts s rows seat.who (Told order))) open_ ∙ acts_row seat (Told order) born
    actor_line seat Crash born open_ may = ap (λ b. cond b None (acts s rows seat.who Crash)) open_ ∙ acts_row seat Crash born
    actor_line seat (Drop number) born open_ may = absurd open_
    actor_line seat (Again number) born open_ may = absurd open_

    network_line : (event : Event OrderLine) → IsLoose s rows event → line_row s rows (line_of (line_at (actors_of scenario) rows 0 event)) ≡ Some (network event)
    network_line (Drop number) loose =
        let sent : numbered (mails rows) number ≡ Some loose.0 = loose.1.sent in
        subst (λ (found : Option Mail). line_row s rows (walk.Drop (getter found) (place_of_mail (actors_of scenario) rows (getter found) number)) ≡ Some (network (Drop number))) (sym sent)
        (ap (option_map (λ mail. network (Drop mail))) (named number loose.0 loose.0.to loose.1 refl))
    network_line (Again number) loose =
        ap (option_and_then (λ (m : Mail). cond (may_get (numbers_of s.births) rows (receiver_of m)) (Some (network (Again number))) None)) loose.1
        ∙ ap (λ b. cond b (Some (network (Again number))) None) loose.2
    network_line (Deliver number) loose = absurd loose
    network_line Tick loose = absurd loose
    network_line Go loose = absurd loose
    network_line (Told order) loose = absurd loose
    network_line Crash loose = absurd loose

    -- the line that is read off a step makes it
    pub step_line : (row : Row Mail OrderLine) → IsStep s rows row → may_be_line scenario row.who row.event ≡ true → line_row s rows (line_of (line_at (actors_of scenario) rows row.who row.event)) ≡ Some row
    step_line row (inl step) may =
        subst (λ (r : Row Mail OrderLine). line_row s rows (line_of (line_at (actors_of scenario) rows r.who r.event)) ≡ Some r) (sym step.row_is)
        (actor_line step.seat step.event step.born step.open_ (subst (λ (r : Row Mail OrderLine). may_be_line scenario r.who r.event ≡ true) step.row_is may))
    step_line row (inr step) may =
        subst (λ (r : Row Mail OrderLine). line_row s rows (line_of (line_at (actors_of scenario) rows r.who r.event)) ≡ Some r) (sym step.row_is) (network_line step.event step.loose)

-- each such line makes at most one row
pub of_one_row : (actors : List ℕ) (rows : List (Row Mail OrderLine)) (who : ℕ) (event : Event OrderLine) → IsOfOneRow (line_of (line_at actors rows who event))
of_one_row actors rows who (Deliver number) = tt
of_one_row actors rows who Tick = tt
of_one_row actors rows who Go = tt
of_one_row actors rows who (Told order) = tt
of_one_row actors rows who Crash = tt
of_one_row actors rows who (Drop number) = tt
of_one_row actors rows who (Again number) = tt
