-- The budget and what is owed, computed on a journal: a client puts a value and gets it, and the one member of a group leads.
use Rattle.std.proofs.Common.{◌≡◌, List, [], ◌∷◌, ◌++◌, map, Some, None, lit≤, inl, inr, refl, subst}
use Rattle.std.specs.Prelude.{true, false, length}
use Rattle.std.specs.List.{list_any}
use Rattle.sc_node_table.specs.Values.{Base, OrderLine, Call, LastMember, Refused, Value, Mail, Request, Answer, Accept, Accepted, Told as Teaches, Row, Deliver, Go as Goes}
use Rattle.sc_actor.specs.Definitions.{mails, value}
use Rattle.sc_words.specs.declared.commands.orders.Order.TheVariants.{Leave}
use Rattle.sc_actor.specs.declared.rows.Event.TheVariants.{Told as Ordered}
use Rattle.sc_scenario.specs.scenario.Definitions.{lone_name}
use Rattle.sc_scenario.specs.declared.scenario.scenarios.Asks.{Asks}
use Rattle.sc_scenario.specs.declared.scenario.scenarios.Scenario.{Scenario}
use Rattle.sc_scenario.specs.declared.scenario.scenarios.SchedLine.{SchedLine}
use Rattle.sc_scenario.specs.declared.scenario.scenarios.SchedLine.TheVariants.{Go, Told, Settle}
use Rattle.sc_meaning.specs.sound.SoundDefinitions.{kept_replies, alone, put_it, get_it, ballot, mail, row, example_rows, put_get_scenario, player_table, node_seat, client_seat, as_nodes, route_of, schedule}
use Rattle.sc_live_orderly.specs.OrderlyDefinitions.{AreSpaced, Nothing}
use Rattle.sc_live_plain.specs.PlainDefinitions.{calm_budget_of, gives_order, are_parted, IsCalmAtBudget, requests_of, budget_of, delivers, IsAtBudget, StartsBeforeDeliveries, AreAnswered, mail_owes, frame_of, player_owes, begun_of, EndsAtBudget}

-- two requests and one group
requests : requests_of put_get_scenario ≡ 2
requests = refl

budget : budget_of put_get_scenario ≡ 72
budget = refl

-- its line of 100 deliveries has room for them
at_budget : IsAtBudget put_get_scenario
at_budget = (tt, (lit≤ tt, tt))

-- with a line before it that is cut off after three deliveries, the last line alone has room for them
late : Scenario
late = record put_get_scenario { lines = Go 1 ∷ Settle 3 ∷ Settle 72 ∷ [] }

ends_at_budget : EndsAtBudget late
unfolding late
ends_at_budget = record { before = Go 1 ∷ Settle 3 ∷ []; last = Settle 72; lines_are = refl; plain = (tt, (lit≤ tt, tt)); is_delivery = refl; room = lit≤ tt }

-- with an order before them, three times 48 and 512
unfoldable pub lines_of : OrderLine → List SchedLine
lines_of order = Told 1 order ∷ Settle 656 ∷ Go 1 ∷ Settle 656 ∷ []

unfoldable pub ordered : OrderLine → Scenario
ordered order = record put_get_scenario { lines = lines_of order }

calm_budget : (order : OrderLine) → calm_budget_of (ordered order) ≡ 656
unfolding ordered lines_of
calm_budget order = refl

-- so it is calm at its budget: mail is delivered behind the one line that gives an order, and before the client goes
ends : (before after : List SchedLine) (one : SchedLine) → [] ≡ before ++ one ∷ after → ⊥
ends [] after one e = cc
ends (first ∷ before) after one e = cc

followed : (order : OrderLine) (before after : List SchedLine) (one : SchedLine) → lines_of order ≡ before ++ one ∷ after → gives_order one ≡ true → list_any delivers after ≡ true
unfolding lines_of
followed order [] after one fact gives = let rest : Settle 656 ∷ Go 1 ∷ Settle 656 ∷ [] ≡ after = cc in subst (λ (l : List SchedLine). list_any delivers l ≡ true) rest refl
followed order (a ∷ []) after one fact gives = let no : gives_order (Settle 656) ≡ false = refl in cc
followed order (a ∷ b ∷ []) after one fact gives = let no : gives_order (Go 1) ≡ false = refl in cc
followed order (a ∷ b ∷ c ∷ []) after one fact gives = let no : gives_order (Settle 656) ≡ false = refl in cc
followed order (a ∷ b ∷ c ∷ d ∷ before) after one fact gives = let none : [] ≡ before ++ one ∷ after = cc in absurd (ends before after one none)

parted : (order : OrderLine) (before between after : List SchedLine) (one other : SchedLine) → lines_of order ≡ before ++ one ∷ between ++ other ∷ after → are_parted one other ≡ true → list_any delivers between ≡ true
unfolding lines_of
parted order [] [] after one other fact need = let no : are_parted (Told 1 order) (Settle 656) ≡ false = refl in cc
parted order [] (a ∷ between) after one other fact need = let first : Settle 656 ≡ a = cc in subst (λ (l : SchedLine). list_any delivers (l ∷ between) ≡ true) first refl
parted order (a ∷ []) between after one other fact need = let no : are_parted (Settle 656) other ≡ false = refl in cc
parted order (a ∷ b ∷ []) [] after one other fact need = let no : are_parted (Go 1) (Settle 656) ≡ false = refl in cc
parted order (a ∷ b ∷ []) (c ∷ between) after one other fact need = let none : [] ≡ between ++ other ∷ after = cc in absurd (ends between after other none)
parted order (a ∷ b ∷ c ∷ []) between after one other fact need = let none : [] ≡ between ++ other ∷ after = cc in absurd (ends between after other none)
parted order (a ∷ b ∷ c ∷ d ∷ before) between after one other fact need = let none : [] ≡ before ++ one ∷ between ++ other ∷ after = cc in absurd (ends (before ++ one ∷ between) after other none)

pub calm_at_budget : (order : OrderLine) → IsCalmAtBudget (ordered order)
unfolding ordered lines_of
calm_at_budget order = record { lines = (tt, (lit≤ tt, (tt, (lit≤ tt, tt)))); followed = followed order; parted = parted order }

spaced : (order : OrderLine) → AreSpaced Nothing (schedule (ordered order))
unfolding ordered lines_of
spaced order = (tt, (tt, tt))

-- the client
unfoldable pub asks : Asks
asks = record { client = 1; ops = put_it ∷ get_it ∷ [] }

-- at birth two mails of requests are owed, by the client alone
client_birth : player_owes (frame_of alone ∷ []) (client_seat (route_of alone) asks).actor ≡ 56
unfolding asks
client_birth = refl

node_birth : player_owes (frame_of alone ∷ []) (node_seat as_nodes (alone ∷ []) false 1).actor ≡ 0
node_birth = refl

-- what each mail owes when it is sent: request, accept, vote, answer, and so again
mails_owe : map mail_owes (mails example_rows) ≡ 28 ∷ 2 ∷ 1 ∷ 1 ∷ 28 ∷ 2 ∷ 1 ∷ 1 ∷ []
mails_owe = refl

-- at its end both requests are begun, and the client owes nothing
begun_both : begun_of (value player_table (client_seat (route_of alone) asks) example_rows) ≡ 2
unfolding asks
begun_both = refl

client_end : player_owes (frame_of alone ∷ []) (value player_table (client_seat (route_of alone) asks) example_rows) ≡ 0
unfolding asks
client_end = refl

-- the client's `go` line is followed by a line of deliveries, and both requests are answered
served : StartsBeforeDeliveries put_get_scenario 1
served = record { before = []; after = Settle 100 ∷ []; lines_are = refl; delivered = refl }

answered : AreAnswered put_get_scenario example_rows
unfolding asks
answered first others groups_are one a fact =
    let first_is : alone ≡ first = cc in
    elim a [
      | inl same ↦ subst (λ (x : Asks). length (kept_replies (route_of first) x example_rows) ≡ length x.ops) same
          (subst (λ (b : Base). length (kept_replies (route_of b) asks example_rows) ≡ 2) first_is refl)
      | inr none ↦ absurd none
    ]

-- the one member gets the order to leave its group, which is refused
abbrev pub leave_it : OrderLine
leave_it = record { number = 1; order = Leave 1 lone_name }

-- the same journal behind that order, each mail with a number more
refused_rows : List (Row Mail OrderLine)
refused_rows =
    row 1 (Ordered leave_it) (mail 1 0 (Teaches 1 (Refused LastMember)))
    ∷ row 33 Goes (mail 33 1 (Request lone_name 1 1 put_it))
    ∷ row 1 (Deliver 2) (mail 1 1 (Accept lone_name ballot 1 (Call 1 1 put_it)))
    ∷ row 1 (Deliver 3) (mail 1 1 (Accepted lone_name ballot 1))
    ∷ row 1 (Deliver 4) (mail 1 33 (Answer lone_name 1 (Value (record { old = None }))))
    ∷ row 33 (Deliver 5) (mail 33 1 (Request lone_name 1 2 get_it))
    ∷ row 1 (Deliver 6) (mail 1 1 (Accept lone_name ballot 2 (Call 1 2 get_it)))
    ∷ row 1 (Deliver 7) (mail 1 1 (Accepted lone_name ballot 2))
    ∷ row 1 (Deliver 8) (mail 1 33 (Answer lone_name 2 (Value (record { old = Some (120 ∷ []) }))))
    ∷ row 33 (Deliver 9) [] ∷ []

-- in it both requests are answered too
answered_behind : AreAnswered (ordered leave_it) refused_rows
unfolding ordered refused_rows asks
answered_behind first others groups_are one a fact =
    let first_is : alone ≡ first = cc in
    elim a [
      | inl same ↦ subst (λ (x : Asks). length (kept_replies (route_of first) x refused_rows) ≡ length x.ops) same
          (subst (λ (b : Base). length (kept_replies (route_of b) asks refused_rows) ≡ 2) first_is refl)
      | inr none ↦ absurd none
    ]
