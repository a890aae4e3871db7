-- The scene of an order after some rows: what each group is bound by, what work stands at its leader, which mail of a transaction is under way for it, and who leads.
use Rattle.std.specs.Prelude.{ℕ, nat_le, Bool, true, false, List, [], ◌∷◌, find, if◌then◌else◌, Option, Some, None}
use Rattle.std.specs.Option.{option_map}
use Rattle.sc_node_table.specs.Values.{Draw, OrderLine, Mail, Seat, Event, Deliver, Tick, Go, Crash, Drop, Again}
use Rattle.sc_actor.specs.declared.rows.Event.TheVariants.{Told}
use Rattle.sc_actor.specs.Definitions.{mails, copies, numbered, numbers_of}
use Rattle.sc_live_orderly.specs.OrderlyDefinitions.{mail_with}
use Rattle.sc_node_table.specs.NodeDefinitions.{ReplicaState, next}
use Rattle.sc_meaning.specs.sound.SoundDefinitions.{Player}
use Rattle.sc_live_steps.specs.calm.CalmDefinitions.{Rows}
use Rattle.sc_live_steps.specs.orders.OrderDefinitions.{Bond, Unbound, Errand, Work, Here, Scene, bond_of, works, errand_by, errands_for}
use Rattle.sc_live_journals.specs.rows.RowDefinitions.{view_at}

-- Whether there is a replica and it leads.
abbrev pub is_running : Option ReplicaState → Bool
is_running None = false
is_running (Some r) = r.running

-- The first of these nodes whose replica of a group leads.
abbrev pub lead_of : (ℕ → Option ReplicaState) → List ℕ → Option ℕ
lead_of at nodes = find (λ node. is_running (at node)) nodes

-- The one of two replicas that has executed more; the first if both have executed as much.
abbrev pub later : Option ReplicaState → Option ReplicaState → Option ReplicaState
later None other = other
later (Some r) None = Some r
later (Some r) (Some other) = if nat_le (next other) (next r) then Some r else Some other

-- A replica at these nodes that has executed as much as any other, if there is one.
abbrev pub newest_of : (ℕ → Option ReplicaState) → List ℕ → Option ReplicaState
newest_of at [] = None
newest_of at (node ∷ nodes) = later (at node) (newest_of at nodes)

-- The bond of a replica's group; `Unbound` where there is no replica.
abbrev pub bond_there : Option ReplicaState → Bond
bond_there None = Unbound
bond_there (Some r) = bond_of r.group.core

-- The work of a replica; none where there is no replica.
abbrev pub works_of : Option ReplicaState → List Work
works_of None = []
works_of (Some r) = works r

-- The bond of a group: by the replica that leads; where none does, by one that has executed as much as any.
abbrev pub bond_by : (ℕ → Option ReplicaState) → List ℕ → Option ℕ → Bond
bond_by at nodes None = bond_there (newest_of at nodes)
bond_by at nodes (Some lead) = bond_there (at lead)

-- The work at the group's leader; none where no replica leads.
abbrev pub work_at : (ℕ → Option ReplicaState) → Option ℕ → List Work
work_at at None = []
work_at at (Some lead) = works_of (at lead)

-- The part of a group in an order, by its replicas at these nodes and the errands under way for it.
abbrev pub part_of : (ℕ → Option ReplicaState) → List ℕ → List Errand → Here
part_of at nodes errands = record { bond = bond_by at nodes (lead_of at nodes); work = work_at at (lead_of at nodes); errands = errands }

-- All mail that nobody has taken, in order of number.
abbrev pub left_after : Rows → List Mail
left_after rows = mail_with (λ mail. true) (mails rows) (copies rows)

-- The scene after these rows.
abbrev pub scene_at : List (Seat Player) → Rows → Scene
scene_at births rows = record {
  at = λ name. part_of (view_at births rows name) (numbers_of births) (errands_for name (left_after rows));
  lead = λ name. lead_of (view_at births rows name) (numbers_of births);
}

-- The errand of a mail with the group that it is for, if there is a mail and it is an errand.
abbrev pub errand_in : Option Mail → Option (Draw × Errand)
errand_in None = None
errand_in (Some mail) = errand_by mail.from mail.to mail.body

-- The errand, with its group, of the mail that an event delivers; `sent` is all mail sent before it.
abbrev pub errand_taken : List Mail → Event OrderLine → Option (Draw × Errand)
errand_taken sent (Deliver number) = errand_in (numbered sent number)
errand_taken sent Tick = None
errand_taken sent Go = None
errand_taken sent (Told order) = None
errand_taken sent Crash = None
errand_taken sent (Drop mail) = None
errand_taken sent (Again mail) = None

-- The errand of the mail that an event delivers, without its group.
abbrev pub taken_errand : List Mail → Event OrderLine → Option Errand
taken_errand sent event = option_map (λ entry. entry.1) (errand_taken sent event)
