-- What the report says of a scenario and a journal of it.
use Rattle.std.specs.Prelude.{ℕ, ◌+◌, ◌==◌, nat_lt, Bool, true, false, List, [], ◌∷◌, length, map, fold, count_by, if◌then◌else◌, Option, Some, None}
use Rattle.std.specs.List.{flat_map, insert}
use Rattle.std.specs.Option.{option_map, option_to_list}
use Rattle.sc_words.specs.declared.commands.links.Route.{Route}
use Rattle.sc_words.specs.declared.commands.orders.OrderLine.{OrderLine}
use Rattle.sc_words.specs.declared.commands.orders.OrderResult.{OrderResult}
use Rattle.sc_mail.specs.declared.bodies.Mail.{Mail}
use Rattle.sc_mail.specs.declared.bodies.MailBody.{MailBody}
use Rattle.sc_mail.specs.declared.bodies.MailBody.TheVariants.{Told as TellsOrder}
use Rattle.sc_actor.specs.declared.rows.Row.{Row}
use Rattle.sc_actor.specs.Mail.{is_delivery, mails}
use Rattle.sc_actor.specs.Walk.{skipped, is_quiet}
use Rattle.sc_node_table.specs.Slots.{numbers_from}
use Rattle.sc_node_table.specs.Replica.{either}
use Rattle.sc_scenario.specs.declared.report.summaries.Summary.{Summary}
use Rattle.sc_scenario.specs.declared.scenario.scenarios.Scenario.{Scenario}
use Rattle.sc_scenario.specs.declared.scenario.scenarios.SchedLine.{SchedLine}
use Rattle.sc_scenario.specs.declared.scenario.scenarios.SchedLine.TheVariants.{Told}
use Rattle.sc_meaning.specs.sound.Players.{system_of, schedule, parties, as_nodes}
use Rattle.sc_meaning.specs.sound.Summary.{asked_by}
use Rattle.sc_meaning.specs.declared.entries.Cut.{Cut}
use Rattle.sc_meaning.specs.entries.Worlds.{StoreWorld, named_group}
use Rattle.sc_meaning.specs.sound.GroupsOf.{world_at}
use Rattle.sc_texts.specs.chance.KeyStream.{two_words}

-- the result that a mail reports of the order with a number, if it reports one
abbrev pub reported_in_mail : ℕ → MailBody → Option OrderResult
reported_in_mail number (TellsOrder order result) = if order == number then Some result else None
reported_in_mail number _ = None

-- the result of an order: that of the first of these mails which reports one
abbrev pub reported_of : ℕ → List Mail → Option OrderResult
reported_of number [] = None
reported_of number (mail ∷ more) = either (reported_in_mail number mail.body) (reported_of number more)

-- whether a line of the schedule is an order
abbrev pub is_order : SchedLine → Bool
is_order (Told node line) = true
is_order _ = false

-- the results that these mails report of the orders 1 to `count`
abbrev pub reported_orders : ℕ → List Mail → List (Option OrderResult)
reported_orders count sent = map (λ number. reported_of number sent) (numbers_from 1 count)

-- the number of orders that a scenario has
abbrev pub orders_in : Scenario → ℕ
orders_in scenario = count_by is_order scenario.lines

-- the report's line of a range: its first position, its group, and the members by the group's own log; none where there is no such group
abbrev pub cut_route : StoreWorld → Cut → Option Route
cut_route world cut = option_map (λ group. record { group = cut.group; lo = cut.arc.lo; members = group.core.members }) (named_group cut.group world.groups)

-- the place of a line that begins at a position, among lines by ascending beginning: before the first that begins later
abbrev pub place_in : List Route → ℕ → ℕ
place_in [] lo = 0
place_in (other ∷ lines) lo = if nat_lt lo other.lo then 0 else 1 + place_in lines lo

-- these lines with one more, in its place
abbrev pub placed : List Route → Route → List Route
placed lines line = insert lines (place_in lines line.lo) line

-- the lines of the decided ring, by ascending beginning
abbrev pub ring_lines : StoreWorld → List Route
ring_lines world = fold placed [] (flat_map (λ cut. option_to_list (cut_route world cut)) world.ring)

-- the summary of a journal for the report
abbrev pub summary_of : Scenario → List (Row Mail OrderLine) → Summary
summary_of scenario journal = record {
  version = scenario.version;
  brief = scenario.brief;
  asked = flat_map asked_by (parties as_nodes scenario journal);
  orders = reported_orders (orders_in scenario) (mails journal);
  ring = ring_lines (world_at as_nodes scenario.groups journal);
  rows = length journal;
  mail = length (mails journal);
  delivered = count_by (λ row. is_delivery row.event) journal;
  skipped = skipped (system_of as_nodes two_words scenario) (schedule scenario) journal;
  quiet = is_quiet (system_of as_nodes two_words scenario) journal;
}
