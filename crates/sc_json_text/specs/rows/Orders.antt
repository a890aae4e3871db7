-- Orders and their results as JSON.
use Rattle.std.specs.Prelude.{[], ◌∷◌, codes, ⊤}
use Rattle.serde_json.specs.Data.{Data, string}
use Rattle.sc_words.specs.declared.commands.orders.Order.{Order}
use Rattle.sc_words.specs.declared.commands.orders.Order.TheVariants as TheOrder
use Rattle.sc_words.specs.declared.commands.orders.OrderLine.{OrderLine}
use Rattle.sc_words.specs.declared.commands.orders.OrderRefusal.{OrderRefusal}
use Rattle.sc_words.specs.declared.commands.orders.OrderRefusal.TheVariants as TheOrderRefusal
use Rattle.sc_words.specs.declared.commands.orders.OrderResult.{OrderResult}
use Rattle.sc_words.specs.declared.commands.orders.OrderResult.TheVariants as TheOrderResult
use Rattle.sc_json_text.specs.rows.Shapes.{number_json, option_json, fields, variant}
use Rattle.sc_json_text.specs.rows.Held.{FitsU8, FitsU16, FitsU32, OptionFits}
use Rattle.sc_json_text.specs.rows.Names.{draw_json, FitsDraw}

-- The JSON of an order: the variant that it is, with its content.
unfoldable pub order_json : Order → Data
order_json (TheOrder.Join node group) = variant (codes "Join") (fields ((codes "group", draw_json group) ∷ (codes "node", number_json node) ∷ []))
order_json (TheOrder.Leave node group) = variant (codes "Leave") (fields ((codes "group", draw_json group) ∷ (codes "node", number_json node) ∷ []))
order_json (TheOrder.Split group at) = variant (codes "Split") (fields ((codes "at", number_json at) ∷ (codes "group", draw_json group) ∷ []))
order_json (TheOrder.Merge group) = variant (codes "Merge") (fields ((codes "group", draw_json group) ∷ []))
order_json (TheOrder.Repart group at) = variant (codes "Repart") (fields ((codes "at", number_json at) ∷ (codes "group", draw_json group) ∷ []))
order_json (TheOrder.Migrate group node) = variant (codes "Migrate") (fields ((codes "group", draw_json group) ∷ (codes "node", number_json node) ∷ []))

-- An order that the program's type can hold: each of its parts is valid.
unfoldable pub FitsOrder : Order → Type 0
FitsOrder (TheOrder.Join node group) = FitsDraw group × FitsU16 node
FitsOrder (TheOrder.Leave node group) = FitsDraw group × FitsU16 node
FitsOrder (TheOrder.Split group at) = FitsU32 at × FitsDraw group
FitsOrder (TheOrder.Merge group) = FitsDraw group
FitsOrder (TheOrder.Repart group at) = FitsU32 at × FitsDraw group
FitsOrder (TheOrder.Migrate group node) = FitsDraw group × FitsU16 node

-- The JSON of an order with its number.
unfoldable pub order_line_json : OrderLine → Data
order_line_json line = fields
    ((codes "number", number_json line.number)
    ∷ (codes "order", order_json line.order)
    ∷ [])

-- An order with its number, as the program's type can hold it: each of its parts is valid.
unfoldable pub FitsOrderLine : OrderLine → Type 0
FitsOrderLine line = FitsU32 line.number × FitsOrder line.order

-- The JSON of the cause for which an order is refused.
unfoldable pub order_refusal_json : OrderRefusal → Data
order_refusal_json (TheOrderRefusal.NotLeader hint) = variant (codes "NotLeader") (fields ((codes "hint", option_json number_json hint) ∷ []))
order_refusal_json (TheOrderRefusal.InTransaction tx) = variant (codes "InTransaction") (fields ((codes "tx", draw_json tx) ∷ []))
order_refusal_json TheOrderRefusal.NoNeighbour = string (codes "NoNeighbour")
order_refusal_json TheOrderRefusal.BadBoundary = string (codes "BadBoundary")
order_refusal_json (TheOrderRefusal.TooManyMembers n) = variant (codes "TooManyMembers") (fields ((codes "n", number_json n) ∷ []))
order_refusal_json TheOrderRefusal.NotMember = string (codes "NotMember")
order_refusal_json TheOrderRefusal.LastMember = string (codes "LastMember")
order_refusal_json TheOrderRefusal.TxLimit = string (codes "TxLimit")
order_refusal_json TheOrderRefusal.IsMember = string (codes "IsMember")

-- The cause of a refused order, as the program's type can hold it: each of its parts is valid.
unfoldable pub FitsOrderRefusal : OrderRefusal → Type 0
FitsOrderRefusal (TheOrderRefusal.NotLeader hint) = OptionFits FitsU16 hint
FitsOrderRefusal (TheOrderRefusal.InTransaction tx) = FitsDraw tx
FitsOrderRefusal TheOrderRefusal.NoNeighbour = ⊤
FitsOrderRefusal TheOrderRefusal.BadBoundary = ⊤
FitsOrderRefusal (TheOrderRefusal.TooManyMembers n) = FitsU8 n
FitsOrderRefusal TheOrderRefusal.NotMember = ⊤
FitsOrderRefusal TheOrderRefusal.LastMember = ⊤
FitsOrderRefusal TheOrderRefusal.TxLimit = ⊤
FitsOrderRefusal TheOrderRefusal.IsMember = ⊤

-- The JSON of the result of an order.
unfoldable pub order_result_json : OrderResult → Data
order_result_json TheOrderResult.Done = string (codes "Done")
order_result_json TheOrderResult.Committed = string (codes "Committed")
order_result_json TheOrderResult.Aborted = string (codes "Aborted")
order_result_json (TheOrderResult.Refused content) = variant (codes "Refused") (order_refusal_json content)

-- The result of an order, as the program's type can hold it: each of its parts is valid.
unfoldable pub FitsOrderResult : OrderResult → Type 0
FitsOrderResult TheOrderResult.Done = ⊤
FitsOrderResult TheOrderResult.Committed = ⊤
FitsOrderResult TheOrderResult.Aborted = ⊤
FitsOrderResult (TheOrderResult.Refused content) = FitsOrderRefusal content
