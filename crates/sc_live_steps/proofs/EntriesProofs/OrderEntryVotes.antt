-- A leader at which an entry of an order is in flight, alone, may count a vote.
use Rattle.std.proofs.Common.{◌≡◌, ℕ, ◌≤◌, Bool, true, false, cond, [], ◌∷◌, length, Option, Some, None, ◌⊎◌, inl, inr, refl, sym, ◌∙◌, ap}
use Rattle.std.proofs.lemmas.Bool.{eq-eqb}
use Rattle.sc_node_table.specs.Values.{Draw, Command, Noop, Call, Join, Leave, Split, Begin, Prepared, RecordVote, GiveUp, Finish, Watched, RecordWatch, Route, Outcome, Vote}
use Rattle.sc_words.specs.commands.CommandDefinitions.{is_alone, is_changed}
use Rattle.sc_words.specs.declared.commands.votes.Past.TheVariants as Cast
use Rattle.sc_group_table.specs.machine.MachineDefinitions.{applied}
use Rattle.sc_base.specs.Definitions.{is_member}
use Rattle.sc_node_table.specs.NodeDefinitions.{entered, ReplicaState, next, members, forgotten, at_slot, with_slot, without_slot, before_of}
use Rattle.sc_words.specs.paxos.PaxosDefinitions.{without_flight}
use Rattle.sc_live_steps.specs.calm.CalmDefinitions.{IsPaid, LeavesFew, EndsAfter, newcomers, IsCounting, LeadsOn, StopsAfter, readied_at}
use Rattle.sc_live_steps.specs.entries.StageEntries.{IsEntry, OrderEntriesCount}
use Rattle.sc_live_steps.proofs.EntriesProofs.EntryMembers.{join-stands, join-keeps, leave-stands, split-stands, split-keeps, vote-waits, watch-stands, finish-keeps}
use Rattle.sc_live_steps.proofs.EntriesProofs.CoordinatorQuestions.{leads_on}

module _ (q : ReplicaState) (stands : q.group.core.gone ≡ None) (mine : is_member (members q) q.me ≡ true) (flights : without_flight (next q) q.leader.flights ≡ []) (alone : without_slot q.ready (next q) ≡ []) (backlog : q.backlog ≡ []) where
  leads_if : (command : Command) → IsCounting command q → (applied q.group command).0.core.gone ≡ q.group.core.gone → is_member (applied q.group command).0.core.members q.me ≡ true → LeadsOn command q
  unfolding entered forgotten
  leads_if command c g m = record { counting = c; stands = g ∙ stands; stays = m }

  stops_if : (command : Command) → IsCounting command q → (applied q.group command).0.core.gone ≡ q.group.core.gone → is_member (applied q.group command).0.core.members q.me ≡ false → StopsAfter command q
  unfolding entered forgotten
  stops_if command c g m = record { counting = c; stands = g ∙ stands; leaves = m; flights = flights; alone = alone; backlog = backlog }

  either_if : (command : Command) → IsCounting command q → (applied q.group command).0.core.gone ≡ q.group.core.gone → (b : Bool) → is_member (applied q.group command).0.core.members q.me ≡ b → LeadsOn command q ⊎ StopsAfter command q
  either_if command c g true m = inl (leads_if command c g m)
  either_if command c g false m = inr (stops_if command c g m)

  split_paid : (at : ℕ) (child : Draw) (order : ℕ) → IsCounting (Split at child order) q → (a : Bool) → is_alone q.group.core ≡ a → LeadsOn (Split at child order) q ⊎ ((is_alone q.group.core ≡ true) × StopsAfter (Split at child order) q)
  split_paid at child order c false e = inl (leads_if (Split at child order) c (split-stands q.group at child order) (split-keeps q.group at child order q.me e mine))
  split_paid at child order c true e = elim (either_if (Split at child order) c (split-stands q.group at child order) (is_member (applied q.group (Split at child order)).0.core.members q.me) refl) [ inl l ↦ inl l | inr s ↦ inr (e, s) ]

  vote_paid : (tx : Draw) (vote : Vote) (by : ℕ) → IsCounting (RecordVote tx vote by) q → (b : Bool) → is_changed (applied q.group (RecordVote tx vote by)).1 ≡ b
      → LeadsOn (RecordVote tx vote by) q ⊎ ((is_changed (applied q.group (RecordVote tx vote by)).1 ≡ false) × StopsAfter (RecordVote tx vote by) q)
  vote_paid tx vote by c true e = (let w = vote-waits q.group tx vote by in inl (leads_if (RecordVote tx vote by) c w.0 (ap (λ l. is_member l q.me) (w.1 e) ∙ mine)))
  vote_paid tx vote by c false e = elim (either_if (RecordVote tx vote by) c (vote-waits q.group tx vote by).0 (is_member (applied q.group (RecordVote tx vote by)).0.core.members q.me) refl) [ inl l ↦ inl l | inr s ↦ inr (e, s) ]

  watch_paid : (tx : Draw) (by : ℕ) → IsCounting (RecordWatch tx Cast.Yes by) q
      → (is_member (applied q.group (RecordWatch tx Cast.Yes by)).0.core.members q.me ≡ true) ⊎ (((before_of q.group.core).heard ≡ None) × (length (newcomers (RecordWatch tx Cast.Yes by) q) ≡ 0))
      → LeadsOn (RecordWatch tx Cast.Yes by) q ⊎ (((before_of q.group.core).heard ≡ None) × (length (newcomers (RecordWatch tx Cast.Yes by) q) ≡ 0) × StopsAfter (RecordWatch tx Cast.Yes by) q)
  watch_paid tx by c (inl m) = inl (leads_if (RecordWatch tx Cast.Yes by) c (watch-stands q.group tx by) m)
  watch_paid tx by c (inr n) = elim (either_if (RecordWatch tx Cast.Yes by) c (watch-stands q.group tx by) (is_member (applied q.group (RecordWatch tx Cast.Yes by)).0.core.members q.me) refl) [
    | inl l ↦ inl l
    | inr s ↦ inr (n.0, n.1, s)
  ]

  finish_paid : (tx : Draw) (outcome : Outcome) → IsCounting (Finish tx outcome) q → (o : Option Route) → (applied q.group (Finish tx outcome)).0.core.gone ≡ o → LeadsOn (Finish tx outcome) q ⊎ EndsAfter (Finish tx outcome) q
  unfolding entered forgotten
  finish_paid tx outcome c None e = inl (record { counting = c; stands = e; stays = finish-keeps q.group tx outcome q.me mine })
  finish_paid tx outcome c (Some into) e = inr (record { counting = c; into = into; goes = e; flights = flights; alone = alone })

  entry_paid : (command : Command) → IsCounting command q → LeavesFew command q → IsEntry command q → IsPaid command q
  entry_paid (Join node order) c few i = leads_if (Join node order) c (join-stands q.group node order) (join-keeps q.group node order q.me mine)
  entry_paid (Leave node order) c few i = either_if (Leave node order) c (leave-stands q.group node order) (is_member (applied q.group (Leave node order)).0.core.members q.me) refl
  entry_paid (Split at child order) c few i = (i, split_paid at child order c (is_alone q.group.core) refl)
  entry_paid (Begin tx body order) c few i = leads_on (Begin tx body order) q tt c stands
  entry_paid (Prepared tx offer) c few i = leads_on (Prepared tx offer) q tt c stands
  entry_paid (Watched tx watch) c few i = leads_on (Watched tx watch) q tt c stands
  entry_paid (RecordVote tx vote by) c few i = (few, vote_paid tx vote by c (is_changed (applied q.group (RecordVote tx vote by)).1) refl)
  entry_paid (Finish tx outcome) c few i = finish_paid tx outcome c (applied q.group (Finish tx outcome)).0.core.gone refl
  entry_paid (RecordWatch tx Cast.Yes by) c few i = (few, watch_paid tx by c i.1)
  entry_paid (RecordWatch tx (Cast.No why) by) c few i = (let f = i.0 in absurd cc)
  entry_paid (RecordWatch tx Cast.Ended by) c few i = (let f = i.0 in absurd cc)
  entry_paid Noop c few i = absurd i
  entry_paid (Call client seq op) c few i = absurd i
  entry_paid (GiveUp tx) c few i = absurd i

-- the entry is the same where it is ready
entry_ready : (slot : ℕ) (value command : Command) (r : ReplicaState) → IsEntry command r → IsEntry command (readied_at slot value r)
unfolding entered forgotten
entry_ready slot value (Join node order) r i = i
entry_ready slot value _ r i = i

few_ready : (slot : ℕ) (value : Command) (r : ReplicaState) → length (applied r.group value).0.core.members ≤ 9 → LeavesFew value (readied_at slot value r)
unfolding entered forgotten
few_ready slot value r few = few

-- So may one at which any entry of an order is in flight, alone, and no call waits: it is paid for, also where the leader leaves by it, or its group is gone.
pub order-entries-count : OrderEntriesCount
order-entries-count slot flight r lone backlog may few after mine stands entry = inr (inr (
  flight,
  record {
    flights = lone.flights;
    ready = lone.ready;
    may = may;
    paid = λ e. entry_paid (readied_at slot flight.value r) stands mine (none_flies e) (none_ready e) backlog flight.value (counting e) (few_ready slot flight.value r after) (entry_ready slot flight.value flight.value r entry);
    leaves = λ e. few_ready slot flight.value r after;
  },
))
  where
    counting : slot ≡ next r → IsCounting flight.value (readied_at slot flight.value r)
    counting e = record {
      running = lone.running;
      few = few;
      mine = mine;
      ready = ap (λ l. at_slot (with_slot l slot flight.value) (next r)) lone.ready ∙ ap (λ b. cond b (Some flight.value) None) (eq-eqb slot (next r) e);
    }

    none_flies : slot ≡ next r → without_flight (next r) (without_flight slot r.leader.flights) ≡ []
    none_flies e = ap (λ l. without_flight (next r) (without_flight slot l)) lone.flights ∙ ap (λ b. without_flight (next r) (cond b [] (flight ∷ []))) (eq-eqb flight.slot slot (lone.here ∙ sym e))

    none_ready : slot ≡ next r → without_slot (with_slot r.ready slot flight.value) (next r) ≡ []
    none_ready e = ap (λ l. without_slot (with_slot l slot flight.value) (next r)) lone.ready ∙ ap (λ b. cond b [] ((slot, flight.value) ∷ [])) (eq-eqb slot (next r) e)
