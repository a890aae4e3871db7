-- A calm scenario whose order is carried out, computed: a node joins the group of one member, and then the client puts a value and gets it. Scenario and report are stored as `calm_join`.
use Rattle.std.proofs.Common.{◌≡◌, ℕ, List, [], ◌∷◌, take, Some, None, inl, inr, refl, subst}
use Rattle.std.specs.Prelude.{false, length}
use Rattle.sc_words.specs.declared.commands.cores.Base.{Base}
use Rattle.sc_words.specs.declared.commands.commands.Command.TheVariants.{Call, Join as Joins}
use Rattle.sc_words.specs.declared.commands.orders.Order.TheVariants.{Join}
use Rattle.sc_words.specs.declared.commands.orders.OrderLine.{OrderLine}
use Rattle.sc_words.specs.declared.commands.orders.OrderResult.TheVariants.{Done}
use Rattle.sc_mail.specs.declared.bodies.AnswerBody.TheVariants.{Value}
use Rattle.sc_mail.specs.declared.bodies.Mail.{Mail}
use Rattle.sc_mail.specs.declared.bodies.MailBody.TheVariants.{Request, Answer, Accept, Accepted, Learn, Install, Told as ToldMail}
use Rattle.sc_actor.specs.Walk.{unsettled}
use Rattle.sc_actor.specs.declared.rows.Row.{Row}
use Rattle.sc_actor.specs.declared.rows.Event.TheVariants.{Deliver, Go, Told}
use Rattle.sc_scenario.specs.scenario.Groups.{lone_name}
use Rattle.sc_scenario.specs.declared.scenario.scenarios.Asks.{Asks}
use Rattle.sc_scenario.specs.declared.scenario.scenarios.Scenario.{Scenario}
use Rattle.sc_meaning.specs.sound.Example.{alone, put_it, get_it, ballot, mail, row}
use Rattle.sc_meaning.specs.sound.Players.{births, system_of, schedule, as_nodes, route_of}
use Rattle.sc_meaning.specs.sound.Requests.{kept_replies}
use Rattle.sc_law_refusal.specs.results.ReportedResults.{ReportsWhatHappened}
use Rattle.sc_live_plain.specs.Budget.{AreAnswered}
use Rattle.sc_live_plain.specs.CalmBudget.{IsCalmAtBudget}
use Rattle.sc_live_answers.specs.ReportedOrders.{AreOrdersReported, IsReported}
use Rattle.sc_live_plain.proofs.BudgetProofs.ExampleBudget.{asks, calm_at_budget, lines_of, ordered}

-- node 2 is ordered to join
abbrev join_it : OrderLine
join_it = record { number = 1; order = Join 2 lone_name }

-- the order, a line of deliveries, the client's `go` line, and another line of deliveries, each of these two exactly at the budget
abbrev joined : Scenario
joined = record (ordered join_it) { nodes = 2 }

-- what the new member is sent: the state after the first slot
abbrev joined_base : Base
joined_base = record alone { core = record alone.core { members = 1 ∷ 2 ∷ [] } }

-- the row that executes the order's entry, and reports it
abbrev third : Row Mail OrderLine
third = row 1 (Deliver 2) (record { from = 1; to = 0; body = ToldMail 1 Done } ∷ mail 1 2 (Install lone_name 1 joined_base ((1 ∷ []) ∷ (1 ∷ []) ∷ (1 ∷ []) ∷ (1 ∷ 2 ∷ []) ∷ [])))

-- the rows: the order is offered, accepted and carried out, which the third row reports; then each request is, and the new member learns it
rows : List (Row Mail OrderLine)
rows =
    row 1 (Told join_it) (mail 1 1 (Accept lone_name ballot 1 (Joins 2 1)))
    ∷ row 1 (Deliver 1) (mail 1 1 (Accepted lone_name ballot 1))
    ∷ third
    ∷ row 2 (Deliver 4) []
    ∷ row 33 Go (mail 33 1 (Request lone_name 1 1 put_it))
    ∷ row 1 (Deliver 5) (mail 1 1 (Accept lone_name ballot 2 (Call 1 1 put_it)))
    ∷ row 1 (Deliver 6) (mail 1 1 (Accepted lone_name ballot 2))
    ∷ row 1 (Deliver 7) (record { from = 1; to = 33; body = Answer lone_name 1 (Value (record { old = None })) } ∷ mail 1 2 (Learn lone_name 2 (Call 1 1 put_it)))
    ∷ row 33 (Deliver 8) (mail 33 1 (Request lone_name 1 2 get_it))
    ∷ row 2 (Deliver 9) []
    ∷ row 1 (Deliver 10) (mail 1 1 (Accept lone_name ballot 3 (Call 1 2 get_it)))
    ∷ row 1 (Deliver 11) (mail 1 1 (Accepted lone_name ballot 3))
    ∷ row 1 (Deliver 12) (record { from = 1; to = 33; body = Answer lone_name 2 (Value (record { old = Some (120 ∷ []) })) } ∷ mail 1 2 (Learn lone_name 3 (Call 1 2 get_it)))
    ∷ row 33 (Deliver 13) []
    ∷ row 2 (Deliver 14) [] ∷ []

-- it is calm and at its budget
calm : IsCalmAtBudget joined
unfolding ordered lines_of
calm = let at = calm_at_budget join_it in record { lines = at.lines; followed = at.followed; parted = at.parted }

-- no line is cut off with mail pending
settled : (words : ℕ → ℕ → ℕ × ℕ) → unsettled (system_of as_nodes words joined) (schedule joined) rows ≡ false
unfolding rows ordered lines_of
settled words = refl

-- both requests are answered
answered : AreAnswered joined rows
unfolding rows ordered lines_of asks
answered first others groups_are one a is =
    let first_is : alone ≡ first = cc in
    elim a [
      | inl same ↦ subst (λ (x : Asks). length (kept_replies (route_of first) x rows) ≡ length x.ops) same
          (subst (λ (b : Base). length (kept_replies (route_of b) asks rows) ≡ 2) first_is refl)
      | inr none ↦ absurd none
    ]

-- the order's result is reported: done
done : IsReported (births as_nodes joined) rows 1
unfolding rows
done = record { result = Done; told = record { mail = record { from = 1; to = 0; body = ToldMail 1 Done }; among = inr (inr (inl refl)); body = refl }; cause = λ e. cc }

reported : AreOrdersReported joined rows
unfolding ordered lines_of
reported node line a =
    elim a [
      | inl same ↦ (let is : join_it ≡ line = cc in subst (λ (l : OrderLine). IsReported (births as_nodes joined) rows l.number) is done)
      | inr b ↦ elim b [
        | inl e ↦ cc
        | inr c ↦ elim c [
          | inl e ↦ cc
          | inr d ↦ elim d [
            | inl e ↦ cc
            | inr none ↦ absurd none
          ]
        ]
      ]
    ]

-- what the third row reports has happened: after the first two the group's log has the order's entry, whose effect is Changed
happened : ReportsWhatHappened as_nodes joined (take 2 rows) third
unfolding rows ordered lines_of
happened = (record { base = alone; stands = inl refl; prefix = []; entry = Joins 2 1; later = []; log_is = refl; ends = record { own = refl; at_once = tt; effect = refl } }, (tt, tt))
