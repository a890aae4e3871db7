-- Deeds of a node and two clients, computed: a request overtakes another, which is lost and asked again; it comes twice, the second time behind a restart of its node; and the node gets an order.
use Rattle.std.proofs.Common.{◌≡◌, ℕ, List, [], ◌∷◌, ◌++◌, Bool, true, false, cond, eqb, filter, fold, refl, ap, ◌∙◌, lit≤}
use Rattle.sc_node_table.specs.Values.{Mail, MailBody, OrderLine, Input}
use Rattle.sc_words.specs.declared.commands.commands.Command.TheVariants.{Call}
use Rattle.sc_words.specs.declared.commands.orders.Order.TheVariants.{Join}
use Rattle.sc_mail.specs.declared.bodies.MailBody.TheVariants.{Request, Accept}
use Rattle.sc_actor.specs.declared.rows.Event.TheVariants.{Deliver, Tick, Go, Told, Again}
use Rattle.sc_actor.specs.declared.rows.Input.TheVariants as an
use Rattle.sc_actor.specs.Definitions.{Table}
use Rattle.sc_actor.specs.declared.actors.Seat.{Seat as SeatOf}
use Rattle.sc_node_table.specs.NodeDefinitions.{elected, ended, saw, nodes_to, entered, answered_or_put_back, effect_reported, announced, learnt_to, welcomed, landed, left, looked, looked_up, made_by, executed_one, executed_ready, executed, install_to, welcomed_all, jumped, sent_all, sent_others, answered, order_reported, ticked, with_children, ordered_row, next_queued, from_backlog, from_queues, found_for, offered, pumped_from, pumped, reminded, forgotten, queued, requested, request_row, learn_row, mailed, begun_reported, went_on, spoken_mails, spoken, readied, took, accept_row, accepted_row}
use Rattle.sc_scenario.specs.scenario.Definitions.{lone_name}
use Rattle.sc_scenario.specs.declared.scenario.scenarios.Scenario.{Scenario}
use Rattle.sc_scenario.specs.declared.scenario.scenarios.SchedLine.TheVariants as line
use Rattle.sc_meaning.specs.sound.SoundDefinitions.{alone, ballot, client_seat, four, get_it, mail, node_seat, player_table, put_it, route_of, row, Player}
use Rattle.sc_law_carried.specs.reading.ReadingDefinitions.{clients_read, lines_from}
use Rattle.sc_law_carried.specs.deeds.DeedDefinitions.{Came, Deed, input_got, actor_after, rows_of, AreCarried}

-- two nodes, of which the first has the one group, and two clients with a request each
abbrev scenario : Scenario
scenario = record {
  nodes = 2;
  groups = alone ∷ [];
  policy = false;
  clients = (record { client = 1; ops = put_it ∷ [] }) ∷ (record { client = 2; ops = get_it ∷ [] }) ∷ [];
  lines = [];
  brief = false;
  version = 1;
}

-- the order: node 2 joins the group
abbrev order : OrderLine
order = record { number = 1; order = Join 2 lone_name }

-- a deed of this actor, input and mail
abbrev deed : ℕ → Input (Came Mail) OrderLine → List Mail → Deed Mail OrderLine
deed who input sent = record { who = who; input = input; sent = sent }

-- a mail of these, with its number
abbrev came : ℕ → ℕ → ℕ → MailBody → Input (Came Mail) OrderLine
came number from to body = an.Got (record { number = number; mail = record { from = from; to = to; body = body } })

-- the bodies of requests, and of what the group's one member is asked to accept
abbrev put_request : MailBody
put_request = Request lone_name 1 1 put_it

abbrev get_request : MailBody
get_request = Request lone_name 2 1 get_it

-- what the group's one member is asked to accept at a slot
abbrev get_accept : ℕ → MailBody
get_accept slot = Accept lone_name ballot slot (Call 2 1 get_it)

-- the deeds of clients, and of the node: mail 2 overtakes mail 1, which is lost, and comes twice
abbrev starts : List (Deed Mail OrderLine)
starts = deed 33 an.Go (mail 33 1 put_request) ∷ deed 34 an.Go (mail 34 1 get_request) ∷ []

abbrev asked : Deed Mail OrderLine
asked = deed 1 (came 2 34 1 get_request) (mail 1 1 (get_accept 1))

abbrev asked_again : Deed Mail OrderLine
asked_again = deed 1 (came 2 34 1 get_request) (mail 1 1 (get_accept 2))

abbrev ordered : Deed Mail OrderLine
ordered = deed 1 (an.Told order) []

abbrev ticked_once : Deed Mail OrderLine
ticked_once = deed 33 an.Tick (mail 33 1 put_request)

-- what is done
abbrev deeds : List (Deed Mail OrderLine)
deeds = starts ++ asked ∷ asked_again ∷ ordered ∷ ticked_once ∷ []

-- the node and the clients at their births
abbrev node : SeatOf Player
node = node_seat four (alone ∷ []) false 1

abbrev one : SeatOf Player
one = client_seat (route_of alone) (record { client = 1; ops = put_it ∷ [] })

abbrev two : SeatOf Player
two = client_seat (route_of alone) (record { client = 2; ops = get_it ∷ [] })

-- the node sends what its table gives
asked_sends : asked.sent ≡ (player_table (actor_after player_table node starts) (input_got asked.input)).1
unfolding elected ended saw nodes_to entered answered_or_put_back effect_reported announced learnt_to welcomed landed left looked looked_up made_by executed_one executed_ready executed install_to welcomed_all jumped sent_all sent_others answered order_reported ticked with_children ordered_row next_queued from_backlog from_queues found_for offered pumped_from pumped reminded forgotten queued requested request_row learn_row mailed begun_reported went_on spoken_mails spoken readied took accept_row accepted_row
asked_sends = refl

asked_again_sends : asked_again.sent ≡ (player_table (actor_after player_table node (starts ++ asked ∷ [])) (input_got asked_again.input)).1
unfolding elected ended saw nodes_to entered answered_or_put_back effect_reported announced learnt_to welcomed landed left looked looked_up made_by executed_one executed_ready executed install_to welcomed_all jumped sent_all sent_others answered order_reported ticked with_children ordered_row next_queued from_backlog from_queues found_for offered pumped_from pumped reminded forgotten queued requested request_row learn_row mailed begun_reported went_on spoken_mails spoken readied took accept_row accepted_row
asked_again_sends = refl

ordered_sends : ordered.sent ≡ (player_table (actor_after player_table node (starts ++ asked ∷ asked_again ∷ [])) (input_got ordered.input)).1
unfolding elected ended saw nodes_to entered answered_or_put_back effect_reported announced learnt_to welcomed landed left looked looked_up made_by executed_one executed_ready executed install_to welcomed_all jumped sent_all sent_others answered order_reported ticked with_children ordered_row next_queued from_backlog from_queues found_for offered pumped_from pumped reminded forgotten queued requested request_row learn_row mailed begun_reported went_on spoken_mails spoken readied took accept_row accepted_row
ordered_sends = refl

-- they are carried
carried : AreCarried four scenario deeds
carried = (
  record { seat = one; born = refl; may = (refl, refl); sent_is = refl },
  (
    record { seat = two; born = refl; may = (refl, refl); sent_is = refl },
    (
      record { seat = node; born = refl; may = (refl, refl); sent_is = asked_sends },
      (
        record { seat = node; born = refl; may = (refl, refl); sent_is = asked_again_sends },
        (
          record { seat = node; born = refl; may = ((lit≤ tt, lit≤ tt), (lit≤ tt, lit≤ tt), lit≤ tt); sent_is = ordered_sends },
          (record { seat = one; born = refl; may = tt; sent_is = refl }, tt),
        ),
      ),
    ),
  ),
)

-- their rows: the network repeats mail 2 before it comes again
rows_are : rows_of deeds
    ≡ row 33 Go (mail 33 1 put_request)
    ∷ row 34 Go (mail 34 1 get_request)
    ∷ row 1 (Deliver 2) (mail 1 1 (get_accept 1))
    ∷ row 0 (Again 2) []
    ∷ row 1 (Deliver 2) (mail 1 1 (get_accept 2))
    ∷ row 1 (Told order) []
    ∷ row 33 Tick (mail 33 1 put_request) ∷ []
rows_are = refl

-- the schedule that is read off them: the lost mail stays the first that is pending for the node
lines_are : lines_from scenario [] (rows_of deeds) ≡ line.Go 1 ∷ line.Go 2 ∷ line.Deliver 1 2 ∷ line.Again 2 ∷ line.Deliver 1 2 ∷ line.Told 1 order ∷ line.Tick 33 ∷ []
lines_are = refl

-- the requests that are read off them
requests_are : clients_read 1 (rows_of deeds) ≡ scenario.clients
requests_are = refl

-- whether a deed is of an actor
abbrev is_of : ℕ → Deed Mail OrderLine → Bool
is_of who d = eqb d.who who

module _ {A : Type 0} (table : Table A Mail OrderLine) (seat : SeatOf A) where
  -- an actor after one deed more
  abbrev step : A → Deed Mail OrderLine → A
  step actor d = cond (eqb d.who seat.who) (table actor (input_got d.input)).0 actor

  own : (actor : A) (d : Deed Mail OrderLine) (done : List (Deed Mail OrderLine)) (b : Bool) → eqb d.who seat.who ≡ b → ((a : A) → fold step a (filter (is_of seat.who) done) ≡ fold step a done)
      → fold step actor (cond b (d ∷ filter (is_of seat.who) done) (filter (is_of seat.who) done)) ≡ fold step (cond b (table actor (input_got d.input)).0 actor) done
  own actor d done true is more = ap (λ b. fold step (cond b (table actor (input_got d.input)).0 actor) (filter (is_of seat.who) done)) is ∙ more (table actor (input_got d.input)).0
  own actor d done false is more = more actor

  kept : (actor : A) (done : List (Deed Mail OrderLine)) → fold step actor (filter (is_of seat.who) done) ≡ fold step actor done
  kept actor [] = refl
  kept actor (d ∷ done) = own actor d done (eqb d.who seat.who) refl (λ a. kept a done)

  -- a machine that begins again from its own inputs is what it was
  restarted : (done : List (Deed Mail OrderLine)) → actor_after table seat (filter (is_of seat.who) done) ≡ actor_after table seat done
  restarted done = kept seat.actor done

-- the node, before mail 2 comes again, is what its own deeds make of it
node_restarts : actor_after player_table node (asked ∷ []) ≡ actor_after player_table node (starts ++ asked ∷ [])
node_restarts = restarted player_table node (starts ++ asked ∷ [])
