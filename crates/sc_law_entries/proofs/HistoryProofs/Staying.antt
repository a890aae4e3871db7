-- Entries that leave what all groups hold.
use Rattle.std.proofs.Common.{◌≡◌, ℕ, true, false, List, [], ◌∷◌, ◌++◌, Option, Some, None, inl, inr, refl, sym, ap, ◌∙◌}
use Rattle.std.specs.Prelude.{is_some}
use Rattle.std.proofs.lemmas.Bool.{cond-false, cond_both}
use Rattle.sc_base.specs.declared.names.Draw.{Draw}
use Rattle.sc_words.specs.declared.commands.bodies.Body.{Body}
use Rattle.sc_words.specs.declared.commands.bodies.Offer.{Offer}
use Rattle.sc_words.specs.declared.commands.bodies.Watch.{Watch}
use Rattle.sc_words.specs.declared.commands.commands.Command.{Command}
use Rattle.sc_words.specs.declared.commands.commands.Command.TheVariants.{Noop, Join, Leave, Begin, Prepared, GiveUp, Watched}
use Rattle.sc_words.specs.declared.commands.cores.Lock.{Lock}
use Rattle.sc_words.specs.declared.commands.cores.Lock.TheVariants.{Promised, Watching}
use Rattle.sc_words.specs.declared.commands.effects.Effect.{Effect}
use Rattle.sc_words.specs.declared.commands.effects.Effect.TheVariants as Was
use Rattle.sc_words.specs.declared.commands.links.Route.{Route}
use Rattle.sc_words.specs.declared.commands.orders.OrderRefusal.{OrderRefusal}
use Rattle.sc_words.specs.declared.commands.orders.OrderRefusal.TheVariants.{NotLeader}
use Rattle.sc_words.specs.declared.commands.votes.No.{No}
use Rattle.sc_words.specs.declared.commands.votes.Outcome.{Outcome}
use Rattle.sc_group_table.specs.machine.MachineDefinitions.{Group, entry_of, applied, ordered, refusal_of, with_node, without_node, has_named, aborted, begun_group, is_coordinating, bound_by, has_voted, offer_no, past_of, vote_of, voted_on, watch_no, watch_vote_of}
use Rattle.sc_meaning.specs.entries.EntryDefinitions.{birth_of, begun_transaction, decision, is_commit, arc_in, ring_after, StoreWorld, named_group, with_result}
use Rattle.sc_meaning.specs.declared.entries.Transaction.{Transaction}
use Rattle.sc_law_entries.specs.history.HistoryDefinitions.{RequestOf, Unmoved, holding_of, HasKnownTable, IsMoveTo, IsUncommitted}
use Rattle.sc_law_entries.proofs.HistoryProofs.Elsewhere.{elsewhere, held_by, itself, same_table, tables_from}
use Rattle.sc_law_entries.proofs.HistoryProofs.Finishing.{coordinator_held, free_held, promised_held, votes_held, watching_held, with_votes}
use Rattle.sc_law_entries.proofs.HistoryProofs.Outcomes.{abort_concluded, commit_in, one_begun, same_party}
use Rattle.sc_meaning.proofs.EntriesProofs.EntryLemmas.{draw_cases}
pub use Rattle.sc_law_walks.proofs.WalkLemmas.{free_by, yes_free as free_by_no}

-- ---- what is decided, by commits

-- decisions that are commits are the same in both
abbrev pub SameCommits : List Transaction → List Transaction → Type 0
SameCommits one other = (tx : Draw) → commit_in (decision tx one) ≡ commit_in (decision tx other)

-- what is not committed has no commit
pub none_committed : (world : StoreWorld) (tx : Draw) → IsUncommitted world tx → commit_in (decision tx world.transactions) ≡ None
none_committed world tx none = by_decision (decision tx world.transactions) (λ outcome e. none outcome e)
  where
    by_decision : (o : Option Outcome) → ((outcome : Outcome) → o ≡ Some outcome → is_commit outcome ≡ false) → commit_in o ≡ None
    by_decision None only = refl
    by_decision (Some outcome) only = cond-false (is_commit outcome) (Some outcome) None (only outcome refl)

-- ---- an entry that changes nothing that is held

module _ (request : RequestOf) (world : StoreWorld) (name : Draw) (group : Group) (found : named_group name world.groups ≡ Some group) (c : Command) where
  -- the move to what this result makes of the world
  abbrev pub Goes : Group × Effect → Type 0
  Goes result = IsMoveTo request world (with_result world group c result)

  pub stays_known : (result : Group × Effect) → result.0.core.id ≡ group.core.id → birth_of group c result.1 ≡ None
      → ((other : Draw) → is_some (arc_in other (ring_after group.core c result.1 world.ring)) ≡ is_some (arc_in other world.ring))
      → SameCommits (with_result world group c result).transactions world.transactions
      → held_by (with_result world group c result).transactions result.0 ≡ held_by world.transactions group
      → entry_of c result.1 ≡ [] → HasKnownTable world (with_result world group c result) group.core.id result.0 → Goes result
  stays_known result id_is unborn cuts commits own none known =
      let after = with_result world group c result in
      record {
        move = Unmoved;
        may = tt;
        holds = λ other. elim (draw_cases other group.core.id) [
          | inl e ↦ itself world name group found c result id_is unborn other e (cuts other) own
          | inr ne ↦ elsewhere world name group found c result id_is unborn other ne (cuts other)
              (λ g fact. ap holding_of (same_party g.core.lock after.transactions world.transactions g (λ tx _. commits tx)))
        ];
        adds = ap (λ es. world.history ++ es) none;
        tables = tables_from world name group found c result id_is unborn known;
      }

  pub stays : (result : Group × Effect) → result.0.core.id ≡ group.core.id → birth_of group c result.1 ≡ None
      → ((other : Draw) → is_some (arc_in other (ring_after group.core c result.1 world.ring)) ≡ is_some (arc_in other world.ring))
      → SameCommits (with_result world group c result).transactions world.transactions
      → held_by (with_result world group c result).transactions result.0 ≡ held_by world.transactions group
      → entry_of c result.1 ≡ [] → result.0.clients ≡ group.clients → Goes result
  stays result id_is unborn cuts commits own none table =
      stays_known result id_is unborn cuts commits own none (same_table world name group found c result id_is unborn table)

  -- where the group itself is as it was, and so are decisions, cuts and groups
  pub idles : (effect : Effect) → birth_of group c effect ≡ None → ring_after group.core c effect world.ring ≡ world.ring → (with_result world group c (group, effect)).transactions ≡ world.transactions
      → entry_of c effect ≡ [] → Goes (group, effect)
  idles effect unborn ring transactions none =
      stays (group, effect) refl unborn (λ other. ap (λ r. is_some (arc_in other r)) ring) (λ tx. ap (λ ts. commit_in (decision tx ts)) transactions) (ap (λ ts. held_by ts group) transactions) none refl

-- ---- orders

-- an order is refused, or makes the group another one
pub order_cases : (P : Group × Effect → Type 0) (gone : Option Route) (why : Option OrderRefusal) (after group : Group) → ((refusal : OrderRefusal) → P (group, Was.Refused refusal)) → (gone ≡ None → why ≡ None → P (after, Was.Changed)) → P (ordered gone why after group)
order_cases P (Some into) why after group quiet go = quiet (NotLeader None)
order_cases P None (Some why) after group quiet go = quiet why
order_cases P None None after group quiet go = go refl refl

module _ (request : RequestOf) (world : StoreWorld) (name : Draw) (group : Group) (found : named_group name world.groups ≡ Some group) where
  pub noop_goes : Goes request world name group found Noop (applied group Noop)
  noop_goes = idles request world name group found Noop Was.Idle refl refl refl refl

  pub join_goes : (node order : ℕ) → Goes request world name group found (Join node order) (applied group (Join node order))
  join_goes node order =
      let c = Join node order in
      order_cases (Goes request world name group found c) group.core.gone (refusal_of group.core c) (with_node group node) group
      (λ refusal. idles request world name group found c (Was.Refused refusal) refl refl refl refl)
      (λ here why. (
      let free = free_by group.core.lock group.core c why in
      stays request world name group found c (with_node group node, Was.Changed) refl refl (λ other. refl) (λ tx. refl)
      (free_held world.transactions (with_node group node) free ∙ sym (free_held world.transactions group free)) refl refl))

  pub leave_goes : (node order : ℕ) → Goes request world name group found (Leave node order) (applied group (Leave node order))
  leave_goes node order =
      let c = Leave node order in
      order_cases (Goes request world name group found c) group.core.gone (refusal_of group.core c) (without_node group node) group
      (λ refusal. idles request world name group found c (Was.Refused refusal) refl refl refl refl)
      (λ here why. (
      let free = free_by group.core.lock group.core c why in
      stays request world name group found c (without_node group node, Was.Changed) refl refl (λ other. refl) (λ tx. refl)
      (free_held world.transactions (without_node group node) free ∙ sym (free_held world.transactions group free)) refl refl))

  pub begin_goes : (tx : Draw) (body : Body) (order : ℕ) → Goes request world name group found (Begin tx body order) (applied group (Begin tx body order))
  begin_goes tx body order =
      let c = Begin tx body order in
      cond_both (has_named group.core tx) _ _ (Goes request world name group found c)
      (λ _. idles request world name group found c (Was.NoEffect tx) refl refl refl refl)
      (λ _. order_cases (Goes request world name group found c) group.core.gone (refusal_of group.core c) (begun_group group tx body order) group
      (λ refusal. idles request world name group found c (Was.Refused refusal) refl refl refl refl)
      (λ here why. (
      let free = free_by group.core.lock group.core c why in
      stays request world name group found c (begun_group group tx body order, Was.Changed) refl refl (λ other. refl)
      (λ t. ap commit_in (one_begun world.transactions (begun_transaction group.core tx body) t refl))
      (sym (free_held world.transactions group free)) refl refl)))

  -- ---- votes

  vote_cases : (P : Group × Effect → Type 0) (why : Option No) (bond : Lock) (tx : Draw) → P (group, Was.NoEffect tx) → (has_voted group.core tx ≡ false
      → P (record group { core = record group.core { lock = bound_by why bond group.core.lock; voted = group.core.voted ++ (tx, past_of why) ∷ [] } }, Was.Voted (past_of why)))
      → P (voted_on why bond group tx)
  vote_cases P why bond tx quiet go = cond_both (has_voted group.core tx) _ _ P (λ _. quiet) go

  pub prepared_goes : (tx : Draw) (offer : Offer) → (has_voted group.core tx ≡ false → IsUncommitted world tx) → Goes request world name group found (Prepared tx offer) (applied group (Prepared tx offer))
  prepared_goes tx offer open_still =
      let c = Prepared tx offer in
      vote_cases (Goes request world name group found c) (vote_of group.core offer) (Promised tx offer) tx
      (idles request world name group found c (Was.NoEffect tx) refl refl refl refl)
      (λ first. by_why first (vote_of group.core offer) refl)
    where
      by_why : has_voted group.core tx ≡ false → (why : Option No) → vote_of group.core offer ≡ why
          → Goes request world name group found (Prepared tx offer) (record group { core = record group.core { lock = bound_by why (Promised tx offer) group.core.lock; voted = group.core.voted ++ (tx, past_of why) ∷ [] } }, Was.Voted (past_of why))
      by_why first (Some why) e =
          stays request world name group found (Prepared tx offer) (with_votes group (group.core.voted ++ (tx, past_of (Some why)) ∷ []), Was.Voted (past_of (Some why))) refl refl (λ other. refl) (λ t. refl) (votes_held world.transactions group (group.core.voted ++ (tx, past_of (Some why)) ∷ [])) refl refl
      by_why first None e =
          let free = free_by_no group.core.gone group.core.lock (offer_no group.core offer) e in
          let after : Group = record group { core = record group.core { lock = Promised tx offer; voted = group.core.voted ++ (tx, past_of None) ∷ [] } } in
          stays request world name group found (Prepared tx offer) (after, Was.Voted (past_of None)) refl refl (λ other. refl) (λ t. refl)
          (promised_held world.transactions after tx offer refl (none_committed world tx (open_still first)) ∙ sym (free_held world.transactions group free)) refl refl

  pub watched_goes : (tx : Draw) (watch : Watch) → Goes request world name group found (Watched tx watch) (applied group (Watched tx watch))
  watched_goes tx watch =
      let c = Watched tx watch in
      vote_cases (Goes request world name group found c) (watch_vote_of group.core watch) (Watching tx watch) tx
      (idles request world name group found c (Was.NoEffect tx) refl refl refl refl)
      (λ first. by_why (watch_vote_of group.core watch) refl)
    where
      by_why : (why : Option No) → watch_vote_of group.core watch ≡ why
          → Goes request world name group found (Watched tx watch) (record group { core = record group.core { lock = bound_by why (Watching tx watch) group.core.lock; voted = group.core.voted ++ (tx, past_of why) ∷ [] } }, Was.Voted (past_of why))
      by_why (Some why) e =
          stays request world name group found (Watched tx watch) (with_votes group (group.core.voted ++ (tx, past_of (Some why)) ∷ []), Was.Voted (past_of (Some why))) refl refl (λ other. refl) (λ t. refl) (votes_held world.transactions group (group.core.voted ++ (tx, past_of (Some why)) ∷ [])) refl refl
      by_why None e =
          let free = free_by_no group.core.gone group.core.lock (watch_no group.core watch) e in
          let after : Group = record group { core = record group.core { lock = Watching tx watch; voted = group.core.voted ++ (tx, past_of None) ∷ [] } } in
          stays request world name group found (Watched tx watch) (after, Was.Voted (past_of None)) refl refl (λ other. refl) (λ t. refl)
          (watching_held world.transactions after tx watch refl ∙ sym (free_held world.transactions group free)) refl refl

  -- ---- giving up

  pub give_up_goes : (tx : Draw) → (is_coordinating group.core.lock tx ≡ true → IsUncommitted world tx) → Goes request world name group found (GiveUp tx) (applied group (GiveUp tx))
  give_up_goes tx open_still =
      cond_both (is_coordinating group.core.lock tx) _ _ (Goes request world name group found (GiveUp tx))
      (λ fact. stays request world name group found (GiveUp tx) (aborted group tx) refl refl (λ other. refl)
      (λ t. abort_concluded world.transactions tx group.core.id t (none_committed world tx (open_still fact)))
      (sym (coordinator_held world.transactions group tx group.core.lock refl fact)) refl refl)
      (λ _. idles request world name group found (GiveUp tx) (Was.NoEffect tx) refl refl refl refl)
