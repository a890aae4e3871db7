-- Small runs of a policy, computed: what a node whose policy is on orders at a tick, and when it orders nothing.
use Rattle.std.proofs.Common.{◌≡◌, ℕ, ◌+◌, ◌^◌, ◌-◌, Bool, true, false, List, [], ◌∷◌, refl}
use Rattle.sc_base.specs.Definitions.{Drawer}
use Rattle.sc_words.specs.declared.commands.bodies.Body.TheVariants.{Merge}
use Rattle.sc_words.specs.declared.commands.commands.Command.TheVariants.{Split, Begin}
use Rattle.sc_words.specs.declared.commands.cores.Base.{Base}
use Rattle.sc_words.specs.declared.commands.cores.Lock.TheVariants.{Free, Watching}
use Rattle.sc_mail.specs.declared.bodies.MailBody.TheVariants.{Accept}
use Rattle.sc_mail.specs.declared.bodies.Mail.{Mail}
use Rattle.sc_node_table.specs.NodeDefinitions.{sent_all, sent_others, answered, next_queued, from_backlog, from_queues, found_for, offered, pumped_from, pumped, reminded, wishing, asked_again, last_entry_sent, tick_row, NodeState, born_node, ticked, names_after_ticks, on_tick}
use Rattle.sc_node_table.proofs.Runs.{g, b, mail, base}
use Rattle.sc_node_table.proofs.TransactionRuns.{h, tx, left_core, right_core, bare, watch}

-- node 1 at the creation of these groups, where `drawn` names are drawn already
abbrev node : Bool → ℕ → List Base → NodeState
node policy drawn groups = record (born_node 4 1 groups policy) { draws = record { node = 1; next = drawn + 1 } }

-- its mails of a tick, and the names that are left
abbrev tells : NodeState → List Mail
tells before = (on_tick before).1

abbrev draws_on : NodeState → Drawer
draws_on before = (on_tick before).0.draws

-- eight members are too many: the group is split in the middle of the ring
abbrev eight : List ℕ
eight = 1 ∷ 2 ∷ 3 ∷ 4 ∷ 5 ∷ 6 ∷ 7 ∷ 8 ∷ []

-- the question to a member, for the first slot
abbrev asks_eight : ℕ → Mail
asks_eight to = mail 1 to (Accept g (b 1 1) 1 (Split 2147483648 tx 0))

splits : tells (node true 0 (base eight ∷ [])) ≡ asks_eight 1 ∷ asks_eight 2 ∷ asks_eight 3 ∷ asks_eight 4 ∷ asks_eight 5 ∷ asks_eight 6 ∷ asks_eight 7 ∷ asks_eight 8 ∷ []
unfolding ticked tick_row last_entry_sent asked_again sent_others reminded wishing pumped pumped_from found_for from_queues from_backlog next_queued offered sent_all answered
splits = refl

-- a split draws the child's name
draws_split : draws_on (node true 0 (base eight ∷ [])) ≡ record { node = 1; next = 2 }
unfolding names_after_ticks
draws_split = refl

-- one member is too few: the group takes over its successor
merges : tells (node true 0 (bare (left_core (1 ∷ []) Free []) ∷ [])) ≡ mail 1 1 (Accept g (b 1 1) 1 (Begin tx Merge 0)) ∷ []
unfolding ticked tick_row last_entry_sent asked_again sent_others reminded wishing pumped pumped_from found_for from_queues from_backlog next_queued offered sent_all answered
merges = refl

-- of two groups on one node each takes its own name
abbrev two : List Base
two = bare (left_core (1 ∷ []) Free []) ∷ bare (record (right_core Free []) { first = 1; members = 1 ∷ [] }) ∷ []

both : tells (node true 0 two)
    ≡ mail 1 1 (Accept g (b 1 1) 1 (Begin tx Merge 0)) ∷ mail 1 1 (Accept h (b 1 1) 1 (Begin (record { node = 1; count = 2 }) Merge 0)) ∷ []
unfolding ticked tick_row last_entry_sent asked_again sent_others reminded wishing pumped pumped_from found_for from_queues from_backlog next_queued offered sent_all answered
both = refl

draws_both : draws_on (node true 0 two) ≡ record { node = 1; next = 3 }
unfolding names_after_ticks
draws_both = refl

-- nothing is ordered and nothing is reported where the policy is off, where a watcher is bound, where no name is left, and where the order would be refused
off : tells (node false 0 two) ≡ []
unfolding ticked tick_row last_entry_sent asked_again sent_others reminded wishing pumped pumped_from found_for from_queues from_backlog next_queued offered sent_all answered
off = refl

bound : draws_on (node true 0 (bare (left_core (1 ∷ []) (Watching tx watch) []) ∷ [])) ≡ record { node = 1; next = 1 }
unfolding names_after_ticks
bound = refl

spent : tells (node true (2 ^ 32 - 2) two) ≡ []
unfolding ticked tick_row last_entry_sent asked_again sent_others reminded wishing pumped pumped_from found_for from_queues from_backlog next_queued offered sent_all answered
spent = refl

refused : tells (node true 0 (bare (record (left_core (1 ∷ []) Free []) { begun = 256 }) ∷ [])) ≡ []
unfolding ticked tick_row last_entry_sent asked_again sent_others reminded wishing pumped pumped_from found_for from_queues from_backlog next_queued offered sent_all answered
refused = refl
