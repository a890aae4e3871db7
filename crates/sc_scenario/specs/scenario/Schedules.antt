-- The lines of the schedule that are no orders.
use Rattle.std.specs.Prelude.{ℕ, ◌==◌, Bool, List, [], ◌∷◌, Option, None, Result, Ok, if◌then◌else◌}
use Rattle.std.specs.List.{list_any}
use Rattle.std.specs.Option.{option_map}
use Rattle.sc_base.specs.Definitions.{most_nodes, most_clients, client_actor, number_of}
use Rattle.sc_texts.specs.lines.Definitions.{or_reason, nth, count_in}
use Rattle.sc_texts.specs.declared.lines.reasons.Reason.{Reason}
use Rattle.sc_texts.specs.declared.lines.reasons.Reason.TheVariants.{BadNumber}
use Rattle.sc_texts.specs.declared.lines.kinds.LineKind.{LineKind}
use Rattle.sc_texts.specs.declared.lines.kinds.LineKind.TheVariants as kind
use Rattle.sc_scenario.specs.declared.scenario.scenarios.Asks.{Asks}
use Rattle.sc_scenario.specs.declared.scenario.scenarios.SchedLine.{SchedLine}
use Rattle.sc_scenario.specs.declared.scenario.scenarios.SchedLine.TheVariants.{Go, Deliver, Drop, Again, Tick, Crash, Settle, Free, Storm}

-- the greatest number of a mail, and the greatest place among pending mail
abbrev pub most_mails : ℕ
most_mails = 4294967295

-- the most deliveries of a line, and the most steps of a storm
abbrev pub most_deliveries : ℕ
most_deliveries = 1000000

-- the most workers of a line
abbrev pub most_workers : ℕ
most_workers = 16

-- the greatest number of a storm
abbrev pub last_storm : ℕ
last_storm = 18446744073709551615

-- whether a client has a section
abbrev pub is_client : List Asks → ℕ → Bool
is_client clients client = list_any (λ asks. asks.client == client) clients

-- the number of the actor that a word spells, `nN` or `cC`, if it spells one; a node is the actor with its number
abbrev pub actor_in : List ℕ → Option ℕ
actor_in [] = None
actor_in (letter ∷ digits) =
    if letter == 110 then count_in most_nodes digits
    else if letter == 99 then option_map (λ client. client_actor client) (count_in most_clients digits)
    else None

-- the parser goes on with the number from 1 to `most` that a word spells; else the number is bad
abbrev pub with_count : ℕ → List ℕ → (ℕ → Result SchedLine Reason) → Result SchedLine Reason
with_count most word onward = or_reason (count_in most word) BadNumber onward

-- the parser goes on with the actor that the second word spells; else the number is bad
abbrev pub with_actor : List (List ℕ) → (ℕ → Result SchedLine Reason) → Result SchedLine Reason
with_actor words onward = or_reason (actor_in (nth words 1)) BadNumber onward

-- the line of this kind that these words spell: `go C`, `deliver A K`, `drop A K`, `again M`, `tick A`, `crash N`, `settle L`, `free L W` or `storm S L`
abbrev pub line_in : LineKind → List (List ℕ) → Result SchedLine Reason
line_in kind.Go words = with_count most_clients (nth words 1) (λ client. Ok (Go client))
line_in kind.Deliver words = with_actor words (λ who. with_count most_mails (nth words 2) (λ k. Ok (Deliver who k)))
line_in kind.Drop words = with_actor words (λ who. with_count most_mails (nth words 2) (λ k. Ok (Drop who k)))
line_in kind.Again words = with_count most_mails (nth words 1) (λ mail. Ok (Again mail))
line_in kind.Tick words = with_actor words (λ who. Ok (Tick who))
line_in kind.Crash words = with_count most_nodes (nth words 1) (λ node. Ok (Crash node))
line_in kind.Settle words = with_count most_deliveries (nth words 1) (λ most. Ok (Settle most))
line_in kind.Free words = with_count most_deliveries (nth words 1) (λ most. with_count most_workers (nth words 2) (λ workers. Ok (Free most workers)))
line_in kind.Storm words = or_reason (number_of (nth words 1) last_storm) BadNumber (λ number. with_count most_deliveries (nth words 2) (λ most. Ok (Storm number most)))
