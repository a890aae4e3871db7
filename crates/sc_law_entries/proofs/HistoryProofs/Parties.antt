-- What the parties of a transaction hold before and after its coordinator decides.
use Rattle.std.proofs.Common.{◌≡◌, List, Some, inl, inr, refl, sym, ap, ◌∙◌}
use Rattle.std.proofs.lemmas.Option.{same_Some}
use Rattle.sc_base.specs.declared.names.Draw.{Draw}
use Rattle.sc_words.specs.declared.commands.bodies.Offer.{Offer}
use Rattle.sc_words.specs.declared.commands.cores.Lock.{Lock}
use Rattle.sc_words.specs.declared.commands.cores.Lock.TheVariants.{Free, Coordinating, Promised, Watching}
use Rattle.sc_words.specs.declared.commands.votes.Frozen.{Frozen}
use Rattle.sc_words.specs.declared.commands.votes.Outcome.{Outcome}
use Rattle.sc_group_table.specs.machine.MachineDefinitions.{Group, locked_in}
use Rattle.sc_meaning.specs.declared.entries.Transaction.{Transaction}
use Rattle.sc_meaning.specs.entries.EntryDefinitions.{concluded, after_outcome, effective_by, StoreWorld, named_group}
use Rattle.sc_law_entries.specs.history.HistoryDefinitions.{holding_of, IsItsOwn, IsParty, holdings_in}
use Rattle.sc_law_entries.proofs.HistoryProofs.Elsewhere.{held_by, holds_own}
use Rattle.sc_law_entries.proofs.HistoryProofs.Finishing.{coordinating_held, free_held, promised_held, watching_held}
use Rattle.sc_law_entries.proofs.HistoryProofs.Outcomes.{commit_in, other_concluded, own_concluded, same_party}
use Rattle.sc_law_entries.proofs.HistoryProofs.Staying.{none_committed}
use Rattle.sc_meaning.proofs.EntriesProofs.EntryLemmas.{draw_cases}

-- who has not promised in a transaction holds the same whatever it comes to
pub others_held : (transactions : List Transaction) (tx coordinator : Draw) (outcome : Outcome) (group : Group) (lock : Lock) → group.core.lock ≡ lock → ((offer : Offer) → lock ≡ Promised tx offer → ⊥)
    → held_by (concluded (Some outcome) tx coordinator transactions) group ≡ held_by transactions group
others_held transactions tx coordinator outcome group Free e apart = free_held _ group e ∙ sym (free_held transactions group e)
others_held transactions tx coordinator outcome group (Coordinating locked body order heard) e apart =
    coordinating_held _ group (Coordinating locked body order heard) e refl ∙ sym (coordinating_held transactions group (Coordinating locked body order heard) e refl)
others_held transactions tx coordinator outcome group (Watching locked watch) e apart = watching_held _ group locked watch e ∙ sym (watching_held transactions group locked watch e)
others_held transactions tx coordinator outcome group (Promised locked offer) e apart = elim (draw_cases locked tx) [
  | inl same ↦ absurd (apart offer (ap (λ x. Promised x offer) same))
  | inr ne ↦ ap holding_of (same_party group.core.lock (concluded (Some outcome) tx coordinator transactions) transactions group
      (λ t fact. ap commit_in (other_concluded transactions tx coordinator t outcome (λ same. ne (same_Some locked t (sym (ap locked_in e) ∙ fact) ∙ same)))))
]

module _ (world : StoreWorld) (group : Group) (tx : Draw) (frozen : Frozen) (own : IsItsOwn world group tx) (party : IsParty world group tx frozen) where
  -- before
  next_holds : held_by world.transactions party.next ≡ holding_of party.next
  next_holds = promised_held world.transactions party.next tx party.offer party.lock (none_committed world tx own.uncommitted)

  pub next_before : holdings_in world group.core.succ.group ≡ Some (holding_of party.next)
  next_before = holds_own world group.core.succ.group party.next party.next_cut party.found next_holds

  -- afterwards
  module _ (outcome : Outcome) where
    pub next_after : held_by (concluded (Some outcome) tx group.core.id world.transactions) party.next ≡ holding_of (after_outcome (Some outcome) tx party.next)
    next_after =
        ap (λ lock. holding_of (effective_by lock (concluded (Some outcome) tx group.core.id world.transactions) party.next)) party.lock
        ∙ ap (λ o. holding_of (after_outcome o tx party.next)) (own_concluded world.transactions tx group.core.id outcome own.transaction own.fact own.coordinator)

    pub others_after : (name : Draw) (other : Group) → (name ≡ group.core.succ.group → ⊥) → named_group name world.groups ≡ Some other → held_by (concluded (Some outcome) tx group.core.id world.transactions) other ≡ held_by world.transactions other
    others_after name other ne fact = others_held world.transactions tx group.core.id outcome other other.core.lock refl (λ offer e. ne (party.only name other offer fact e))
