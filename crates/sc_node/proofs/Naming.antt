-- Refusals of orders do not look at the name.
use Rattle.std.proofs.Common.{◌≡◌, ℕ, Bool, true, false, ◌&&◌, ◌||◌, not, Option, Some, None, refl, is_some, if◌then◌else◌}
use Rattle.sc_base.specs.declared.names.Draw.{Draw}
use Rattle.sc_base.specs.Drawing.{Drawer}
use Rattle.sc_words.specs.declared.commands.cores.Core.{Core}
use Rattle.sc_words.specs.declared.commands.orders.Order.{Order}
use Rattle.sc_words.specs.declared.commands.orders.Order.TheVariants as An
use Rattle.sc_words.specs.declared.commands.orders.OrderLine.{OrderLine}
use Rattle.sc_words.specs.declared.commands.orders.OrderRefusal.{OrderRefusal}
use Rattle.sc_group_table.specs.machine.Orders.{locked_in, refused_in, refusal_of}
use Rattle.sc_node_table.specs.Replica.{ReplicaState, settled}
use Rattle.sc_node_table.specs.Ordering.{ordered_command, takes_name, has_drawn_all, first_of_both, untaken}

by_lock : (o : Option Draw) (core : Core) (a b : Draw) (number : ℕ) (order : Order) → refused_in o core (ordered_command a number order) ≡ refused_in o core (ordered_command b number order)
by_lock (Some tx) core a b number order = refl
by_lock None core a b number (An.Join node group) = refl
by_lock None core a b number (An.Leave node group) = refl
by_lock None core a b number (An.Split group at) = refl
by_lock None core a b number (An.Merge group) = refl
by_lock None core a b number (An.Repart group at) = refl
by_lock None core a b number (An.Migrate group node) = refl

-- any two names
pub refused_alike : (core : Core) (a b : Draw) (number : ℕ) (order : Order) → refusal_of core (ordered_command a number order) ≡ refusal_of core (ordered_command b number order)
refused_alike core a b number order = by_lock (locked_in core.lock) core a b number order

second : (o : Option OrderRefusal) (takes spent : Bool) (why : OrderRefusal) → first_of_both o (if takes && spent then Some why else None) ≡ None → (takes && spent) ≡ false
second (Some other) takes spent why e = absurd (cc)
second None true true why e = absurd (cc)
second None true false why e = refl
second None false spent why e = refl

by_first : (b : Bool) (first : OrderRefusal) (o : Option OrderRefusal) (takes spent : Bool) (why : OrderRefusal)
    → (if b then Some first else first_of_both o (if takes && spent then Some why else None)) ≡ None → (takes && spent) ≡ false
by_first true first o takes spent why e = absurd (cc)
by_first false first o takes spent why e = second o takes spent why e

-- one that is taken has a name, if it takes one
pub has_name : (drawer : Drawer) (line : OrderLine) (r : ReplicaState) → untaken drawer line r ≡ None → (takes_name line.order && has_drawn_all drawer) ≡ false
has_name drawer line r e = by_first (is_some r.group.core.gone || not (settled r)) _ _ (takes_name line.order) (has_drawn_all drawer) _ e
