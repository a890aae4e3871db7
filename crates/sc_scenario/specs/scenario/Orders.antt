-- Orders: the order to a node that a line spells.
use Rattle.std.specs.Prelude.{ℕ, ◌==◌, List, length, Option, None, Result, Ok, Err, if◌then◌else◌, option_and_then}
use Rattle.std.specs.Option.{option_map}
use Rattle.sc_base.specs.Definitions.{most_nodes, number_of}
use Rattle.sc_base.specs.declared.names.Draw.{Draw}
use Rattle.sc_words.specs.declared.commands.orders.Order.{Order}
use Rattle.sc_words.specs.declared.commands.orders.Order.TheVariants.{Join, Leave, Split, Merge, Repart, Migrate}
use Rattle.sc_texts.specs.lines.Definitions.{or_reason, pieces, nth, count_in}
use Rattle.sc_scenario.specs.scenario.Schedules.{most_mails}
use Rattle.sc_texts.specs.declared.lines.reasons.Reason.{Reason}
use Rattle.sc_texts.specs.declared.lines.reasons.Reason.TheVariants.{BadNumber, WrongCount}
use Rattle.sc_texts.specs.declared.lines.kinds.OrderKind.{OrderKind}
use Rattle.sc_texts.specs.declared.lines.kinds.OrderKind.TheVariants as kind

-- the group's name `A.B` with these parts: A is the node that drew it, or 0 where the scenario named it
abbrev pub name_in_parts : List (List ℕ) → Option Draw
name_in_parts parts =
    if length parts == 2
    then option_and_then (λ node. option_map (λ count. record { node = node; count = count }) (count_in most_mails (nth parts 1))) (number_of (nth parts 0) most_nodes)
    else None

-- the group's name that a word spells, if it spells one
abbrev pub name_in : List ℕ → Option Draw
name_in word = name_in_parts (pieces 46 word)

-- the last position of the circle
abbrev pub last_position : ℕ
last_position = 4294967295

-- the parser goes on with the node that a word spells; else the number is bad
abbrev pub with_node_word : List ℕ → (ℕ → Result Order Reason) → Result Order Reason
with_node_word word onward = or_reason (count_in most_nodes word) BadNumber onward

-- the parser goes on with the group's name that a word spells; else the number is bad
abbrev pub with_name_word : List ℕ → (Draw → Result Order Reason) → Result Order Reason
with_name_word word onward = or_reason (name_in word) BadNumber onward

-- the parser goes on with the position that a word spells; else the number is bad
abbrev pub with_position_word : List ℕ → (ℕ → Result Order Reason) → Result Order Reason
with_position_word word onward = or_reason (number_of word last_position) BadNumber onward

-- the order of this kind that a line spells, from its third word on `join M G`, `leave M G`, `split G P`, `merge G`, `repart G P` or `migrate G M`
abbrev pub order_in : OrderKind → List (List ℕ) → Result Order Reason
order_in kind.Join words = with_node_word (nth words 3) (λ node. with_name_word (nth words 4) (λ group. Ok (Join node group)))
order_in kind.Leave words = with_node_word (nth words 3) (λ node. with_name_word (nth words 4) (λ group. Ok (Leave node group)))
order_in kind.Split words = with_name_word (nth words 3) (λ group. with_position_word (nth words 4) (λ at. Ok (Split group at)))
order_in kind.Merge words = with_name_word (nth words 3) (λ group. Ok (Merge group))
order_in kind.Repart words = with_name_word (nth words 3) (λ group. with_position_word (nth words 4) (λ at. Ok (Repart group at)))
order_in kind.Migrate words = with_name_word (nth words 3) (λ group. with_node_word (nth words 4) (λ node. Ok (Migrate group node)))
order_in kind.Short words = Err WrongCount
