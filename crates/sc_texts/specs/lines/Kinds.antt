-- The kind of a line, by its first word, and of an order also by its third; the phase of each kind, and its number of words.
use Rattle.std.specs.Prelude.{ℕ, ◌==◌, ◌&&◌, nat_le, nat_lt, Bool, true, false, List, length, codes, Option, Some, None, if◌then◌else◌}
use Rattle.std.specs.Option.{option_map, option_or}
use Rattle.sc_texts.specs.lines.Words.{same, nth}
use Rattle.sc_texts.specs.declared.lines.kinds.Kind.{Kind}
use Rattle.sc_texts.specs.declared.lines.kinds.Kind.TheVariants.{Header, Nodes, Group, Policy, Client, End, Asking, Playing, GivingOrder}
use Rattle.sc_texts.specs.declared.lines.kinds.RequestKind.{RequestKind}
use Rattle.sc_texts.specs.declared.lines.kinds.RequestKind.TheVariants as ask
use Rattle.sc_texts.specs.declared.lines.kinds.LineKind.{LineKind}
use Rattle.sc_texts.specs.declared.lines.kinds.LineKind.TheVariants as line
use Rattle.sc_texts.specs.declared.lines.kinds.OrderKind.{OrderKind}
use Rattle.sc_texts.specs.declared.lines.kinds.OrderKind.TheVariants as order

-- the kind of a line before the schedule that is no request, by its first word
abbrev pub part_kind : List ℕ → Option Kind
part_kind word =
    if same word (codes "scatter") then Some Header
    else if same word (codes "nodes") then Some Nodes
    else if same word (codes "group") then Some Group
    else if same word (codes "policy") then Some Policy
    else if same word (codes "client") then Some Client
    else if same word (codes "end") then Some End
    else None

-- the kind of a request, by its first word; `add` and `cas` are requests in version 2 only
abbrev pub request_kind : ℕ → List ℕ → Option RequestKind
request_kind version word =
    if same word (codes "get") then Some ask.Get
    else if same word (codes "put") then Some ask.Put
    else if same word (codes "del") then Some ask.Del
    else if (version == 2) && same word (codes "add") then Some ask.Add
    else if (version == 2) && same word (codes "cas") then Some ask.Cas
    else None

-- the kind of a line of the schedule that is no order, by its first word
abbrev pub line_kind : List ℕ → Option LineKind
line_kind word =
    if same word (codes "go") then Some line.Go
    else if same word (codes "deliver") then Some line.Deliver
    else if same word (codes "drop") then Some line.Drop
    else if same word (codes "again") then Some line.Again
    else if same word (codes "tick") then Some line.Tick
    else if same word (codes "crash") then Some line.Crash
    else if same word (codes "settle") then Some line.Settle
    else if same word (codes "free") then Some line.Free
    else if same word (codes "storm") then Some line.Storm
    else None

-- the kind of an order, by its third word
abbrev pub named_order : List ℕ → Option OrderKind
named_order word =
    if same word (codes "join") then Some order.Join
    else if same word (codes "leave") then Some order.Leave
    else if same word (codes "split") then Some order.Split
    else if same word (codes "merge") then Some order.Merge
    else if same word (codes "repart") then Some order.Repart
    else if same word (codes "migrate") then Some order.Migrate
    else None

-- the kind of an order; one without a third word is short
abbrev pub order_kind : List (List ℕ) → Option OrderKind
order_kind words = if nat_lt (length words) 3 then Some order.Short else named_order (nth words 2)

-- the kind of a line whose first word is not `order`
abbrev pub first_kind : ℕ → List ℕ → Option Kind
first_kind version word = option_or (part_kind word) (option_or (option_map Asking (request_kind version word)) (option_map Playing (line_kind word)))

-- the kind of a line with these words
abbrev pub kind_of : ℕ → List (List ℕ) → Option Kind
kind_of version words =
    if same (nth words 0) (codes "order") then option_map GivingOrder (order_kind words)
    else first_kind version (nth words 0)

-- the phase of a kind; lines are in the order of their phases
abbrev pub phase_of : Kind → ℕ
phase_of Header = 0
phase_of Nodes = 1
phase_of Group = 2
phase_of Policy = 3
phase_of Client = 4
phase_of End = 4
phase_of (Asking kind) = 4
phase_of (Playing kind) = 5
phase_of (GivingOrder kind) = 5

-- whether a line of this kind is inside a client's section, and nowhere else
abbrev pub is_inner : Kind → Bool
is_inner Header = false
is_inner Nodes = false
is_inner Group = false
is_inner Policy = false
is_inner Client = false
is_inner End = true
is_inner (Asking kind) = true
is_inner (Playing kind) = false
is_inner (GivingOrder kind) = false

-- the number of words of a request
abbrev pub request_count : RequestKind → ℕ
request_count ask.Get = 2
request_count ask.Put = 3
request_count ask.Del = 2
request_count ask.Add = 3
request_count ask.Cas = 4

-- the number of words of a line of the schedule that is no order
abbrev pub line_count : LineKind → ℕ
line_count line.Go = 2
line_count line.Deliver = 3
line_count line.Drop = 3
line_count line.Again = 2
line_count line.Tick = 2
line_count line.Crash = 2
line_count line.Settle = 2
line_count line.Free = 3
line_count line.Storm = 3

-- whether an order of this kind has `count` words; a short one never has its number of words
abbrev pub has_order_count : OrderKind → ℕ → Bool
has_order_count order.Join count = count == 5
has_order_count order.Leave count = count == 5
has_order_count order.Split count = count == 5
has_order_count order.Merge count = count == 4
has_order_count order.Repart count = count == 5
has_order_count order.Migrate count = count == 5
has_order_count order.Short count = false

-- whether a line of this kind may have `count` words
abbrev pub has_count : Kind → ℕ → Bool
has_count Header count = count == 2
has_count Nodes count = count == 2
has_count Group count = nat_le 3 count
has_count Policy count = count == 1
has_count Client count = count == 2
has_count End count = count == 1
has_count (Asking kind) count = count == request_count kind
has_count (Playing kind) count = count == line_count kind
has_count (GivingOrder kind) count = has_order_count kind count
