-- How the parser adds what a line says to what was read so far.
use Rattle.std.specs.Prelude.{ℕ, ◌+◌, ◌-◌, ◌==◌, ◌&&◌, ◌||◌, not, nat_le, nat_lt, Bool, true, List, [], ◌∷◌, ◌++◌, length, Result, Ok, Err, if◌then◌else◌}
use Rattle.std.specs.List.{list_any, insert}
use Rattle.sc_base.specs.Definitions.{most_requests, client_actor}
use Rattle.sc_base.specs.declared.ops.Op.{Op}
use Rattle.sc_words.specs.declared.commands.orders.Order.{Order}
use Rattle.sc_words.specs.declared.commands.orders.Order.TheVariants.{Join, Leave, Split, Merge, Repart, Migrate}
use Rattle.sc_scenario.specs.scenario.Groups.{group_at, has_repeat, set_of}
use Rattle.sc_scenario.specs.scenario.Schedules.{is_client}
use Rattle.sc_texts.specs.declared.lines.reasons.Reason.{Reason}
use Rattle.sc_texts.specs.declared.lines.reasons.Reason.TheVariants.{OutOfPlace, UnknownName, Repeated, BadBoundary, TooMany}
use Rattle.sc_scenario.specs.declared.scenario.statements.Statement.{Statement}
use Rattle.sc_scenario.specs.declared.scenario.statements.Statement.TheVariants.{NodeCount, NewGroup, WithPolicy, NewClient, Ask, SectionEnd, Play, GiveOrder}
use Rattle.sc_scenario.specs.declared.scenario.drafts.Draft.{Draft}
use Rattle.sc_scenario.specs.declared.scenario.drafts.GroupLine.{GroupLine}
use Rattle.sc_scenario.specs.declared.scenario.drafts.Reading.{Reading}
use Rattle.sc_scenario.specs.declared.scenario.drafts.Reading.TheVariants.{Outside, Within}
use Rattle.sc_scenario.specs.declared.scenario.scenarios.Asks.{Asks}
use Rattle.sc_scenario.specs.declared.scenario.scenarios.SchedLine.{SchedLine}
use Rattle.sc_scenario.specs.declared.scenario.scenarios.SchedLine.TheVariants.{Go, Deliver, Drop, Again, Tick, Crash, Told, Settle, Free, Storm}

-- ---- names

-- whether a number is that of a node, or of a client with a section
abbrev pub is_actor : ℕ → List Asks → ℕ → Bool
is_actor nodes clients who = nat_le who nodes || list_any (λ asks. client_actor asks.client == who) clients

-- whether the node that an order names exists
abbrev pub is_order_known : ℕ → Order → Bool
is_order_known nodes (Join node group) = nat_le node nodes
is_order_known nodes (Leave node group) = nat_le node nodes
is_order_known nodes (Split group at) = true
is_order_known nodes (Merge group) = true
is_order_known nodes (Repart group at) = true
is_order_known nodes (Migrate group node) = nat_le node nodes

-- whether the nodes and clients that a line of the schedule names exist
abbrev pub is_line_known : ℕ → List Asks → SchedLine → Bool
is_line_known nodes clients (Go client) = is_client clients client
is_line_known nodes clients (Deliver who k) = is_actor nodes clients who
is_line_known nodes clients (Drop who k) = is_actor nodes clients who
is_line_known nodes clients (Again mail) = true
is_line_known nodes clients (Tick who) = is_actor nodes clients who
is_line_known nodes clients (Crash node) = nat_le node nodes
is_line_known nodes clients (Told node line) = nat_le node nodes && is_order_known nodes line.order
is_line_known nodes clients (Settle most) = true
is_line_known nodes clients (Free most workers) = true
is_line_known nodes clients (Storm number most) = true

-- ---- groups

-- the most groups of a scenario
abbrev pub most_groups : ℕ
most_groups = 16

-- the most members of a group
abbrev pub most_members : ℕ
most_members = 9

-- whether a group begins above the one before it
abbrev pub is_above : List GroupLine → ℕ → Bool
is_above groups lo = (length groups == 0) || nat_lt (group_at groups (length groups - 1)).lo lo

-- what was read, with one more group
abbrev pub with_group_line : Draft → ℕ → List ℕ → Draft
with_group_line draft lo members = record draft { groups = draft.groups ++ record { lo = lo; members = members } ∷ [] }

-- whether one of these nodes is above the number of nodes
abbrev pub has_stranger : ℕ → List ℕ → Bool
has_stranger most nodes = list_any (λ node. nat_lt most node) nodes

-- the state of the parser after the line of a group: its nodes must exist, none twice, it must begin above the group before, and neither groups nor members may be too many
abbrev pub group_taken : Draft → ℕ → ℕ → List ℕ → Result Reading Reason
group_taken draft lo first others =
    if has_stranger draft.nodes (first ∷ others) then Err UnknownName
    else if has_repeat (first ∷ others) then Err Repeated
    else if not (is_above draft.groups lo) then Err BadBoundary
    else if nat_le most_groups (length draft.groups) || nat_le most_members (length others) then Err TooMany
    else Ok (Outside (with_group_line draft lo (set_of first others)))

-- ---- clients

-- the place of a client among others: before the first one with a greater number
abbrev pub client_place : ℕ → List Asks → ℕ
client_place client [] = 0
client_place client (other ∷ others) = if nat_lt client other.client then 0 else 1 + client_place client others

-- what was read, with this client in its place
abbrev pub with_client : Draft → Asks → Draft
with_client draft asks = record draft { clients = insert draft.clients (client_place asks.client draft.clients) asks }

-- a client with one more request
abbrev pub with_op : Asks → Op → Asks
with_op asks op = record asks { ops = asks.ops ++ op ∷ [] }

-- the state of the parser after the first line of a section, which must be the only one of its client
abbrev pub client_taken : Draft → ℕ → Result Reading Reason
client_taken draft client = if is_client draft.clients client then Err Repeated else Ok (Within draft (record { client = client; ops = [] }))

-- the state of the parser after a request, of which a client has at most 1,000
abbrev pub request_taken : Draft → Asks → Op → Result Reading Reason
request_taken draft asks op = if nat_le most_requests (length asks.ops) then Err TooMany else Ok (Within draft (with_op asks op))

-- ---- the schedule

-- what was read, with one more line of the schedule
abbrev pub with_sched_line : Draft → SchedLine → Draft
with_sched_line draft line = record draft { lines = draft.lines ++ line ∷ [] }

-- the line of an order, whose number is the next one, from 1 in the order of lines
abbrev pub line_of_order : Draft → ℕ → Order → SchedLine
line_of_order draft node order = Told node (record { number = draft.orders + 1; order = order })

-- what was read, with one more order
abbrev pub with_order : Draft → SchedLine → Draft
with_order draft line = record draft { lines = draft.lines ++ line ∷ []; orders = draft.orders + 1 }

-- the state of the parser after a line of the schedule that is no order: nodes and clients in it must exist
abbrev pub line_taken : Draft → SchedLine → Result Reading Reason
line_taken draft line = if is_line_known draft.nodes draft.clients line then Ok (Outside (with_sched_line draft line)) else Err UnknownName

-- the state of the parser after an order: nodes in it must exist
abbrev pub order_line_taken : Draft → SchedLine → Result Reading Reason
order_line_taken draft line = if is_line_known draft.nodes draft.clients line then Ok (Outside (with_order draft line)) else Err UnknownName

-- ---- all lines

-- the state of the parser after a statement outside the sections
abbrev pub taken_outside : Draft → Statement → Result Reading Reason
taken_outside draft (NodeCount nodes) = Ok (Outside (record draft { nodes = nodes }))
taken_outside draft (NewGroup lo first others) = group_taken draft lo first others
taken_outside draft WithPolicy = Ok (Outside (record draft { policy = true }))
taken_outside draft (NewClient client) = client_taken draft client
taken_outside draft (Ask op) = Err OutOfPlace
taken_outside draft SectionEnd = Err OutOfPlace
taken_outside draft (Play line) = line_taken draft line
taken_outside draft (GiveOrder node order) = order_line_taken draft (line_of_order draft node order)

-- the state of the parser after a statement inside a section
abbrev pub taken_within : Draft → Asks → Statement → Result Reading Reason
taken_within draft asks (NodeCount nodes) = Err OutOfPlace
taken_within draft asks (NewGroup lo first others) = Err OutOfPlace
taken_within draft asks WithPolicy = Err OutOfPlace
taken_within draft asks (NewClient client) = Err OutOfPlace
taken_within draft asks (Ask op) = request_taken draft asks op
taken_within draft asks SectionEnd = Ok (Outside (with_client draft asks))
taken_within draft asks (Play line) = Err OutOfPlace
taken_within draft asks (GiveOrder node order) = Err OutOfPlace
