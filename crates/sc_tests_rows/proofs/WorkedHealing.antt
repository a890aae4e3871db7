-- A schedule that heals, computed: mail of two nodes and a client is delivered, lost and repeated at random, and then the nodes and the client tick, each with a `settle` line behind it. Scenario and journal are those of `healed_after_losses`.
use Rattle.std.proofs.Common.{◌≡◌, ℕ, zero, suc, ◌≤◌, arith, List, [], ◌∷◌, ◌++◌, Some, None, inl, inr, refl, subst}
use Rattle.std.specs.Prelude.{true, false, length}
use Rattle.std.specs.List.{list_any}
use Rattle.sc_base.specs.Definitions.{Among}
use Rattle.sc_base.specs.declared.names.Ballot.{Ballot}
use Rattle.sc_words.specs.declared.commands.commands.Command.TheVariants.{Call}
use Rattle.sc_words.specs.declared.commands.cores.Base.{Base}
use Rattle.sc_words.specs.declared.commands.orders.OrderLine.{OrderLine}
use Rattle.sc_mail.specs.declared.bodies.AnswerBody.TheVariants.{Value}
use Rattle.sc_mail.specs.declared.bodies.Mail.{Mail}
use Rattle.sc_mail.specs.declared.bodies.MailBody.TheVariants.{Request, Answer, Prepare, Promise, Accept, Accepted, Learn}
use Rattle.sc_actor.specs.declared.rows.Row.{Row}
use Rattle.sc_actor.specs.declared.rows.Event.TheVariants.{Deliver, Go, Tick, Drop, Again}
use Rattle.sc_scenario.specs.scenario.Groups.{lone_name, lone_group}
use Rattle.sc_scenario.specs.declared.scenario.scenarios.Asks.{Asks}
use Rattle.sc_scenario.specs.declared.scenario.scenarios.Scenario.{Scenario}
use Rattle.sc_scenario.specs.declared.scenario.scenarios.SchedLine.TheVariants as line
use Rattle.sc_meaning.specs.sound.Example.{put_it, get_it, mail, row}
use Rattle.sc_meaning.specs.sound.Players.{route_of}
use Rattle.sc_meaning.specs.sound.Requests.{kept_replies}
use Rattle.sc_live_orderly.specs.Turns.{Ticks}
use Rattle.sc_live_healed.specs.HealedSchedules.{crashes, lives, HasLivingMajorities, NodeTurn, ClientTurn, IsHealed}
use Rattle.sc_live_healed.specs.HealedStores.{HasReplies, IsKicked}
use Rattle.sc_live_healed.proofs.LivingSeats.{living_bounds}

-- the group, of two nodes
abbrev pair : Base
pair = lone_group 0 (1 ∷ 2 ∷ [])

-- the client's requests: it puts a value, and then gets it
abbrev asks : Asks
asks = record { client = 1; ops = put_it ∷ get_it ∷ [] }

-- the client goes, and mail is delivered, lost and repeated at random; then node 1, node 2 and the client tick
abbrev healing : Scenario
healing = record {
  nodes = 2;
  groups = pair ∷ [];
  policy = false;
  clients = asks ∷ [];
  lines = line.Go 1 ∷ line.Storm 12 4 ∷ line.Drop 1 1 ∷ line.Settle 200
      ∷ line.Tick 1 ∷ line.Settle 200 ∷ line.Tick 2 ∷ line.Settle 200
      ∷ line.Tick 33 ∷ line.Settle 200 ∷ [];
  brief = false;
  version = 1;
}

-- the turns of the nodes, and that of the client
abbrev first_turn : NodeTurn
first_turn = record { node = 1; most = 200 }

abbrev second_turn : NodeTurn
second_turn = record { node = 2; most = 200 }

abbrev client_turn : ClientTurn
client_turn = record { client = 1; kick = Ticks; most = 200 }

-- each node that lives has a turn
swept : (node : ℕ) → lives healing node ≡ true → (turn : NodeTurn) × Among turn (first_turn ∷ second_turn ∷ []) × (turn.node ≡ node)
swept zero is = let no : lives healing zero ≡ false = refl in cc
swept (suc zero) is = (first_turn, inl refl, refl)
swept (suc (suc zero)) is = (second_turn, inr (inl refl), refl)
swept (suc (suc (suc more))) is = (let high : suc (suc (suc more)) ≤ 2 = (living_bounds healing (suc (suc (suc more))) is).1 in absurd (omega (arith, high)))

-- the lines heal
is_healed : IsHealed healing
is_healed = record {
  before = line.Go 1 ∷ line.Storm 12 4 ∷ line.Drop 1 1 ∷ [];
  most = 200;
  sweep = first_turn ∷ second_turn ∷ [];
  asks = client_turn ∷ [];
  no_policy = refl;
  no_orders = refl;
  lines_are = refl;
  nodes = (refl, (refl, tt));
  swept = swept;
}

-- no line crashes a node
nobody_crashes : (node : ℕ) → list_any (crashes node) healing.lines ≡ false
nobody_crashes node = refl

-- so more than half of the group's members live
living : HasLivingMajorities healing
living = (refl, tt)

-- node 2's ballot, in which it is elected as it ticks
abbrev elected : Ballot
elected = record { round = 2; node = 2 }

-- the mail of both members
abbrev both : (ℕ → List Mail) → List Mail
both to = to 1 ++ to 2

-- the rows before the client's tick: its request is lost, repeated and lost again, and node 2 is elected
abbrev early : List (Row Mail OrderLine)
early =
    row 33 Go (mail 33 1 (Request lone_name 1 1 put_it))
    ∷ row 0 (Drop 1) []
    ∷ row 0 (Again 1) []
    ∷ row 0 (Drop 1) []
    ∷ row 1 Tick []
    ∷ row 2 Tick (both (λ to. mail 2 to (Prepare lone_name elected 1)))
    ∷ row 1 (Deliver 2) (mail 1 2 (Promise lone_name elected []))
    ∷ row 2 (Deliver 3) (mail 2 2 (Promise lone_name elected []))
    ∷ row 2 (Deliver 4) []
    ∷ row 2 (Deliver 5) [] ∷ []

-- the rows of the client's turn: it asks node 2, which offers each request to both nodes, and answers it once both have accepted it
abbrev turn : List (Row Mail OrderLine)
turn =
    row 33 Tick (mail 33 2 (Request lone_name 1 1 put_it))
    ∷ row 2 (Deliver 6) (both (λ to. mail 2 to (Accept lone_name elected 1 (Call 1 1 put_it))))
    ∷ row 1 (Deliver 7) (mail 1 2 (Accepted lone_name elected 1))
    ∷ row 2 (Deliver 8) (mail 2 2 (Accepted lone_name elected 1))
    ∷ row 2 (Deliver 9) []
    ∷ row 2 (Deliver 10) (mail 2 33 (Answer lone_name 1 (Value (record { old = None }))) ++ mail 2 1 (Learn lone_name 1 (Call 1 1 put_it)))
    ∷ row 33 (Deliver 11) (mail 33 2 (Request lone_name 1 2 get_it))
    ∷ row 1 (Deliver 12) []
    ∷ row 2 (Deliver 13) (both (λ to. mail 2 to (Accept lone_name elected 2 (Call 1 2 get_it))))
    ∷ row 1 (Deliver 14) (mail 1 2 (Accepted lone_name elected 2))
    ∷ row 2 (Deliver 15) (mail 2 2 (Accepted lone_name elected 2))
    ∷ row 2 (Deliver 16) []
    ∷ row 2 (Deliver 17) (mail 2 33 (Answer lone_name 2 (Value (record { old = Some (120 ∷ []) }))) ++ mail 2 1 (Learn lone_name 2 (Call 1 2 get_it)))
    ∷ row 33 (Deliver 18) []
    ∷ row 1 (Deliver 19) [] ∷ []

-- all rows
abbrev journal : List (Row Mail OrderLine)
journal = early ++ turn

-- the client has started before its turn, which kicks it by a tick
is_kicked : IsKicked client_turn early
is_kicked = inl (refl, refl)

-- before its turn it has no reply
none_before : length (kept_replies (route_of pair) asks early) ≡ 0
none_before = refl

-- so it has not all its replies
unanswered : HasReplies healing asks early → ⊥
unanswered has = let all : length (kept_replies (route_of pair) asks early) ≡ 2 = has pair [] refl in cc

-- behind its turn it has a reply to each request
both_behind : length (kept_replies (route_of pair) asks journal) ≡ 2
both_behind = refl

answered : HasReplies healing asks journal
answered first others groups_are =
    let first_is : pair ≡ first = cc in
    subst (λ (b : Base). length (kept_replies (route_of b) asks journal) ≡ 2) first_is both_behind
