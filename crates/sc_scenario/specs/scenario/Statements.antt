-- What a line says, each line by itself.
use Rattle.std.specs.Prelude.{ℕ, List, [], drop, Result, Ok, Err}
use Rattle.sc_base.specs.Definitions.{most_nodes, most_clients, number_of}
use Rattle.sc_texts.specs.lines.Definitions.{or_reason, then_on, nth, count_in, request_in}
use Rattle.sc_scenario.specs.scenario.Orders.{order_in, last_position}
use Rattle.sc_scenario.specs.scenario.Schedules.{line_in}
use Rattle.sc_scenario.specs.scenario.Groups.{nodes_with}
use Rattle.sc_texts.specs.declared.lines.reasons.Reason.{Reason}
use Rattle.sc_texts.specs.declared.lines.reasons.Reason.TheVariants.{OutOfPlace, BadNumber}
use Rattle.sc_texts.specs.declared.lines.kinds.Kind.{Kind}
use Rattle.sc_texts.specs.declared.lines.kinds.Kind.TheVariants.{Header, Nodes, Group, Policy, Client, End, Asking, Playing, GivingOrder}
use Rattle.sc_scenario.specs.declared.scenario.statements.Statement.{Statement}
use Rattle.sc_scenario.specs.declared.scenario.statements.Statement.TheVariants.{NodeCount, NewGroup, WithPolicy, NewClient, Ask, SectionEnd, Play, GiveOrder}

-- what a line `group LO N1 .. Nk` says
abbrev pub group_in : List (List ℕ) → Result Statement Reason
group_in words =
    or_reason (number_of (nth words 1) last_position) BadNumber (λ lo.
    or_reason (count_in most_nodes (nth words 2)) BadNumber (λ first.
    or_reason (nodes_with [] (drop 3 words)) BadNumber (λ others. Ok (NewGroup lo first others))))

-- what a line of this kind says; of several bad words, a number counts before a key, and a key before a value
abbrev pub statement_in : Kind → List (List ℕ) → Result Statement Reason
statement_in Header words = Err OutOfPlace
statement_in Nodes words = or_reason (count_in most_nodes (nth words 1)) BadNumber (λ nodes. Ok (NodeCount nodes))
statement_in Group words = group_in words
statement_in Policy words = Ok WithPolicy
statement_in Client words = or_reason (count_in most_clients (nth words 1)) BadNumber (λ client. Ok (NewClient client))
statement_in End words = Ok SectionEnd
statement_in (Asking kind) words = then_on (request_in kind words) (λ op. Ok (Ask op))
statement_in (Playing kind) words = then_on (line_in kind words) (λ line. Ok (Play line))
statement_in (GivingOrder kind) words = or_reason (count_in most_nodes (nth words 1)) BadNumber (λ node. then_on (order_in kind words) (λ order. Ok (GiveOrder node order)))
