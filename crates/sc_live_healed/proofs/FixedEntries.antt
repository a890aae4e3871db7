-- An entry that is a request or a Noop, of a group that is not reshaped: nothing is reported to the desk, nothing is said to others, members learn it, and nobody joins.
use Rattle.std.proofs.Common.{◌≡◌, ℕ, Bool, List, Some, None, refl, sym, ◌∙◌, ap, subst, inl, inr}
use Rattle.sc_base.specs.Definitions.{Among}
use Rattle.sc_node_table.specs.Values.{Command, Noop, Call, Base, Core, OrderResult, Effect, Mail}
use Rattle.sc_group_table.specs.machine.MachineDefinitions.{applied, Group}
use Rattle.sc_node_table.specs.NodeDefinitions.{order_result, before_of, spoken_mails, begun_reported, went_on, ReplicaState, Place, members}
use Rattle.sc_paxos_law.proofs.Lemmas.{among-member}
use Rattle.sc_law_walks.proofs.WalkLemmas.{either_way, joined}
use Rattle.sc_live_plain.proofs.PlainLemmas.{none_new}
use Rattle.sc_live_healed.proofs.FixedWalks.{IsMember}
use Rattle.sc_live_healed.specs.HealedDefinitions.{IsFixedCommand, IsFixedRequest}

-- of a request or a Noop nothing is reported to the desk
pub no_result : (base : Base) (command : Command) (effect : Effect) → IsFixedCommand base command → order_result command effect ≡ None
no_result base Noop effect f = refl
no_result base (Call client seq op) effect f = refl
no_result base command effect (inr e) = subst (λ (c : Command). order_result c effect ≡ None) (sym e) refl
no_result base command effect (inl f) = elim_request base command effect f
  where
    elim_request : (base : Base) (command : Command) (effect : Effect) → IsFixedRequest base command → order_result command effect ≡ None
    elim_request base (Call client seq op) effect f = refl
    elim_request base _ effect f = absurd f

-- and nothing is said to others
pub no_speech : (base : Base) (counted : Bool) (me : ℕ) (group before : Group) (effect : Effect) (command : Command) (mails : List Mail) → IsFixedCommand base command → spoken_mails counted me group (before_of before.core) effect command mails ≡ mails
unfolding spoken_mails begun_reported went_on
no_speech base counted me group before effect Noop mails f = either_way (λ (ms : List Mail). ms ≡ mails) counted mails mails refl refl
no_speech base counted me group before effect (Call client seq op) mails f = either_way (λ (ms : List Mail). ms ≡ mails) counted mails mails refl refl
no_speech base counted me group before effect _ mails (inl f) = absurd f
no_speech base counted me group before effect _ mails (inr e) = absurd (cc)

-- What the record of an entry asks for, where the entry is a request or a Noop, and the replica's record is that of the group's birth: nothing is reported, nothing is said to others, members learn it, and nobody has joined.
module _ (base : Base) (counted : Bool) (command : Command) (start : ReplicaState) (fixed : IsFixedCommand base command) (same : start.group.core ≡ base.core) where
  pub unreported : (result : OrderResult) → order_result command (applied start.group command).1 ≡ Some result → ⊥
  unreported result e = (let none = no_result base command (applied start.group command).1 fixed in cc (none, e))

  pub unspoken : (Q : Place → Type 0) (r : ReplicaState) (mails : List Mail) → Q (r, mails) → Q (r, spoken_mails counted r.me r.group (before_of start.group.core) (applied start.group command).1 command mails)
  unspoken Q r mails k = subst (λ (ms : List Mail). Q (r, ms)) (sym (no_speech base counted r.me r.group start.group (applied start.group command).1 command mails fixed)) k

  pub learner : (to : ℕ) → Among to (members start) → IsMember base to
  learner to a = among-member base.core.members to (subst (λ (core : Core). Among to core.members) same a)

  pub none_joined : (r : ReplicaState) → r.group.core ≡ base.core → (to : ℕ) → Among to (joined start r) → ⊥
  none_joined r now to a = subst (Among to) (none_new (members start) (members r) (ap (λ (core : Core). core.members) (now ∙ sym same))) a
