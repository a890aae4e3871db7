-- What a leader's table does with an order that it is given.
use Rattle.std.proofs.Common.{◌≡◌, ℕ, [], ◌∷◌, ◌++◌, Some, None, refl, sym, ◌∙◌, ap, subst}
use Rattle.sc_base.specs.Definitions.{Drawer, next_name}
use Rattle.sc_node_table.specs.Values.{Draw, Command, Order, OrderLine, OrderRefusal, Refused, Told}
use Rattle.sc_words.specs.declared.commands.orders.Order.TheVariants as An
use Rattle.sc_node_table.specs.NodeDefinitions.{ordered_command, ordered_row, queued_or_refused, untaken, pumped, with_order_queued, ReplicaState, listed}
use Rattle.sc_live_steps.specs.orders.OrderDefinitions.{Work, Changes, Opens, IsOrder, work_by, works_in, works_flying, works_ready, works, Works, MayFile, TablesOrder}
use Rattle.sc_live_steps.proofs.OrderStepsProofs.Errands.{errands-none}
use Rattle.sc_live_steps.proofs.OrderStepsProofs.ErrandTables.{acts_none, calls_none, under_none, works_more}
use Rattle.sc_live_steps.proofs.OrderStepsProofs.LoneWorkPumps.{pumps-keep}

-- the work of an order
order_work : (name : Draw) (number : ℕ) (order : Order) → (work : Work) × IsOrder work × (work_by (ordered_command name number order) ≡ Some work)
order_work name number (An.Join node group) = (Changes, tt, refl)
order_work name number (An.Leave node group) = (Changes, tt, refl)
order_work name number _ = (Opens name, tt, refl)

called_work : (command : Command) (work : Work) (r : ReplicaState) → work_by command ≡ Some work → MayFile r → works (with_order_queued command r) ≡ work ∷ []
called_work command work r fact may =
    ap (λ l. l ++ (works_in (r.backlog ++ command ∷ []) ++ (works_flying r.leader.flights ++ works_ready r.ready))) (acts_none r may)
    ∙ (ap (λ l. l ++ (works_flying r.leader.flights ++ works_ready r.ready)) (works_more r.backlog command ∙ (ap (λ l. l ++ listed (work_by command)) (calls_none r may) ∙ ap listed fact)) ∙ ap (λ l. work ∷ l) (under_none r may))

called_works : (command : Command) (work : Work) (r : ReplicaState) → work_by command ≡ Some work → MayFile r → Works (work ∷ []) [] r (pumped (with_order_queued command r, []))
called_works command work r fact may =
    (let w = pumps-keep (Some work) (with_order_queued command r) may.unbound (called_work command work r fact may) in record { group = w.group; me = w.me; running = w.running; work = w.work; sends = w.sends })

order_taken : (drawer : Drawer) (line : OrderLine) (r : ReplicaState) → MayFile r → untaken drawer line r ≡ None
    → (order : Work) × IsOrder order × (work_by (ordered_command (next_name drawer) line.number line.order) ≡ Some order) × Works (order ∷ []) [] r (ordered_row drawer line (r, []))
unfolding ordered_row
order_taken drawer line r may none =
    (let w = order_work (next_name drawer) line.number line.order in (
      w.0,
      w.1,
      w.2,
      subst (λ o. Works (w.0 ∷ []) [] r (queued_or_refused o line.number (ordered_command (next_name drawer) line.number line.order) (r, []))) (sym none)
          (called_works (ordered_command (next_name drawer) line.number line.order) w.0 r w.2 may),
    ))

order_refused : (drawer : Drawer) (line : OrderLine) (why : OrderRefusal) (r : ReplicaState) → untaken drawer line r ≡ Some why → Works (works r) [] r (ordered_row drawer line (r, []))
unfolding ordered_row
order_refused drawer line why r e = subst (λ o. Works (works r) [] r (queued_or_refused o line.number (ordered_command (next_name drawer) line.number line.order) (r, []))) (sym e)
    (record { group = refl; me = refl; running = refl; work = refl; sends = (tt, λ name none. errands-none name r.me 0 (Told line.number (Refused why)) [] refl) })

-- An order that a leader takes is its work; one that it refuses changes nothing.
pub tables-order : TablesOrder
tables-order = record { taken = order_taken; refused = order_refused }
