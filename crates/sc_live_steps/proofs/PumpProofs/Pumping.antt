-- The pump leaves no act waiting where nothing is in flight.
use Rattle.std.proofs.Common.{◌≡◌, ◌⊎◌, inl, inr, ℕ, ◌+◌, ◌≤◌, ◌&&◌, nat_le, Bool, true, false, true≢false, cond, List, [], ◌∷◌, ◌++◌, length, Some, None, refl, sym, ◌∙◌, ap, arith}
use Rattle.std.specs.Prelude.{is_some, ◌==◌}
use Rattle.std.specs.Option.{option_map}
use Rattle.std.specs.List.{list_any}
use Rattle.std.proofs.lemmas.Bool.{and_parts}
use Rattle.sc_node_table.specs.Values.{Command, Mail, Must, Gap, Flight}
use Rattle.sc_words.specs.declared.paxos.answers.Must.TheVariants.{Value, Free as Open}
use Rattle.sc_words.specs.paxos.PaxosDefinitions.{LeaderState, flight_at, must}
use Rattle.sc_node_table.specs.NodeDefinitions.{Found, is_act, from_backlog, from_acts, from_queues, found_by, found_for, offered, pumped_from, pumped, ReplicaState, Place, either, flying, listed, next, settled, may_offer, first_set, taken_at, taken_from, open_slots, under_way, is_idle, last_slot, at_slot}
use Rattle.sc_law_walks.proofs.WalkLemmas.{either_way}
use Rattle.sc_live_steps.specs.pump.Waiting.{HasNoneWaiting, PumpsLeaveNone}
use Rattle.std.proofs.lemmas.List.{length_push}

-- something is in flight or ready
abbrev IsBusy : ReplicaState → Type 0
IsBusy r = r.leader.flights ≡ [] → r.ready ≡ [] → ⊥

-- something is in flight or ready, or no act waits
abbrev IsDone : ReplicaState → Type 0
IsDone r = IsBusy r ⊎ (r.acts ≡ [])

abbrev BusyAt : Place → Type 0
BusyAt place = IsBusy place.0

abbrev DoneAt : Place → Type 0
DoneAt place = IsDone place.0

pub none_at : (r : ReplicaState) (slot : ℕ) → r.leader.flights ≡ [] → r.ready ≡ [] → taken_at r slot ≡ None
none_at r slot f e =
    let free : flying r slot ≡ None = ap (λ fs. option_map (λ (flight : Flight Command). flight.value) (flight_at slot fs)) f in
    ap (λ o. either o (at_slot r.ready slot)) free ∙ ap (λ l. at_slot l slot) e

pub none_from : (r : ReplicaState) (slots : List ℕ) → r.leader.flights ≡ [] → r.ready ≡ [] → taken_from r slots ≡ []
none_from r [] f e = refl
none_from r (slot ∷ slots) f e = ap (λ o. listed o ++ taken_from r slots) (none_at r slot f e) ∙ none_from r slots f e

taken_busy : (r : ReplicaState) (slot : ℕ) → is_some (taken_at r slot) ≡ true → IsBusy r
taken_busy r slot t f e = true≢false (sym t ∙ ap is_some (none_at r slot f e))

any_busy : (r : ReplicaState) → list_any is_act (under_way r) ≡ true → IsBusy r
any_busy r t f e = true≢false (sym t ∙ ap (list_any is_act) (none_from r (open_slots r) f e))

idle_busy : (r : ReplicaState) → is_idle r ≡ false → IsBusy r
idle_busy r n f e = true≢false (sym (ap (λ (l : List Command). length l == 0) (none_from r (open_slots r) f e)) ∙ n)

-- ---- what is found

-- what is found leaves the leader and what is ready
abbrev Leaves : ReplicaState → Found → Type 0
Leaves r found = (found.1.0.leader ≡ r.leader) × (found.1.0.ready ≡ r.ready)

calls_leave : (r : ReplicaState) (mails : List Mail) → Leaves r (from_backlog (r, mails)) × ((from_backlog (r, mails)).1.0.acts ≡ r.acts)
unfolding from_backlog
calls_leave r mails = ((refl, refl), refl)

acts_leave : (r : ReplicaState) (acts : List Command) (mails : List Mail) → Leaves r (from_acts acts (r, mails))
acts_leave r [] mails = (calls_leave r mails).0
acts_leave r (act ∷ acts) mails = either_way (Leaves r) (is_idle r) (Some act, (record r { acts = acts }, mails)) (None, (r, mails)) (refl, refl) (refl, refl)

queues_leave : (r : ReplicaState) (mails : List Mail) → Leaves r (from_queues (r, mails))
unfolding from_queues
queues_leave r mails = either_way (Leaves r) (list_any is_act (under_way r)) (None, (r, mails)) (from_acts r.acts (r, mails)) (refl, refl) (acts_leave r r.acts mails)

by_leave : (what : Must Command) (r : ReplicaState) (mails : List Mail) → Leaves r (found_by what (r, mails))
by_leave (Value command) r mails = (refl, refl)
by_leave Gap r mails = (refl, refl)
by_leave Open r mails = queues_leave r mails

slot_leaves : (slot : ℕ) (r : ReplicaState) (mails : List Mail) → Leaves r (found_for slot (r, mails))
unfolding found_for
slot_leaves slot r mails = by_leave (must slot r.leader) r mails

stays_busy : (r : ReplicaState) (found : Found) → Leaves r found → IsBusy r → IsBusy found.1.0
stays_busy r found l b f e = b (sym (ap (λ (x : LeaderState Command). x.flights) l.0) ∙ f) (sym l.1 ∙ e)

offered_busy : (slot : ℕ) (set : List ℕ) (command : Command) (place : Place) → IsBusy (offered slot set command place).0
unfolding offered
offered_busy slot set command (r, mails) f e = (let one = length_push r.leader.flights (record { slot = slot; value = command; voters = None }) in let none = ap length f in absurd (omega (arith, one, none)))

-- ---- slots

goes_busy : (slot : ℕ) (set : List ℕ) (sets : List (List ℕ)) (found : Found) → IsBusy found.1.0 → ((place : Place) → BusyAt place → BusyAt (pumped_from (slot + 1) sets place))
    → BusyAt (elim (found.0) [ None ↦ found.1 | Some command ↦ pumped_from (slot + 1) sets (offered slot set command found.1) ])
goes_busy slot set sets (None, place) b more = b
goes_busy slot set sets (Some command, place) b more = more (offered slot set command place) (offered_busy slot set command place)

keeps_busy : (slot : ℕ) (sets : List (List ℕ)) (place : Place) → BusyAt place → BusyAt (pumped_from slot sets place)
unfolding pumped_from
keeps_busy slot [] place b = b
keeps_busy slot (set ∷ sets) (r, mails) b =
    either_way BusyAt (is_some (taken_at r slot)) _ _ (keeps_busy (slot + 1) sets (r, mails) b)
    (either_way BusyAt (may_offer r set) _ _ (goes_busy slot set sets (found_for slot (r, mails)) (stays_busy r (found_for slot (r, mails)) (slot_leaves slot r mails) b) (λ p k. keeps_busy (slot + 1) sets p k)) b)

-- what is found, if nothing, leaves one that is done
abbrev IsDoneBy : Found → Type 0
IsDoneBy found = found.0 ≡ None → IsDone found.1.0

acts_done : (r : ReplicaState) (acts : List Command) (mails : List Mail) → r.acts ≡ acts → IsDoneBy (from_acts acts (r, mails))
acts_done r [] mails e = λ n. inr ((calls_leave r mails).1 ∙ e)
acts_done r (act ∷ acts) mails e = by (is_idle r) refl
  where
    by : (b : Bool) → is_idle r ≡ b → IsDoneBy (cond b (Some act, (record r { acts = acts }, mails)) (None, (r, mails)))
    by true i n = cc
    by false i n = inl (idle_busy r i)

queues_done : (r : ReplicaState) (mails : List Mail) → IsDoneBy (from_queues (r, mails))
unfolding from_queues
queues_done r mails = by (list_any is_act (under_way r)) refl
  where
    by : (b : Bool) → list_any is_act (under_way r) ≡ b → IsDoneBy (cond b (None, (r, mails)) (from_acts r.acts (r, mails)))
    by true t n = inl (any_busy r t)
    by false t n = acts_done r r.acts mails refl n

by_done : (what : Must Command) (r : ReplicaState) (mails : List Mail) → IsDoneBy (found_by what (r, mails))
by_done (Value command) r mails n = cc
by_done Gap r mails n = cc
by_done Open r mails n = queues_done r mails n

slot_done : (slot : ℕ) (r : ReplicaState) (mails : List Mail) → IsDoneBy (found_for slot (r, mails))
unfolding found_for
slot_done slot r mails = by_done (must slot r.leader) r mails

goes_done : (slot : ℕ) (set : List ℕ) (sets : List (List ℕ)) (found : Found) → IsDoneBy found → DoneAt (elim (found.0) [ None ↦ found.1 | Some command ↦ pumped_from (slot + 1) sets (offered slot set command found.1) ])
goes_done slot set sets (None, place) d = d refl
goes_done slot set sets (Some command, place) d = inl (keeps_busy (slot + 1) sets (offered slot set command place) (offered_busy slot set command place))

first_done : (slot : ℕ) (set : List ℕ) (sets : List (List ℕ)) (r : ReplicaState) (mails : List Mail) → may_offer r set ≡ true → DoneAt (pumped_from slot (set ∷ sets) (r, mails))
unfolding pumped_from
first_done slot set sets r mails may = by (is_some (taken_at r slot)) refl (may_offer r set) may
  where
    by : (b : Bool) → is_some (taken_at r slot) ≡ b → (c : Bool) → c ≡ true
        → DoneAt (cond b (pumped_from (slot + 1) sets (r, mails)) (cond c (elim ((found_for slot (r, mails)).0) [ None ↦ (found_for slot (r, mails)).1 | Some command ↦ pumped_from (slot + 1) sets (offered slot set command (found_for slot (r, mails)).1) ]) (r, mails)))
    by true t c m = inl (keeps_busy (slot + 1) sets (r, mails) (taken_busy r slot t))
    by false t true m = goes_done slot set sets (found_for slot (r, mails)) (slot_done slot r mails)
    by false t false m = absurd (true≢false (sym m))

done_none : (r : ReplicaState) → IsDone r → r.leader.flights ≡ [] → r.ready ≡ [] → r.acts ≡ []
done_none r (inl busy) f e = absurd (busy f e)
done_none r (inr none) f e = none

sets_done : (r : ReplicaState) (mails : List Mail) (sets : List (List ℕ)) → 1 ≤ length sets → may_offer r (first_set sets) ≡ true → DoneAt (pumped_from (next r) sets (r, mails))
sets_done r mails [] some may = absurd (omega (arith, some))
sets_done r mails (set ∷ sets) some may = first_done (next r) set sets r mails may

-- After the pump a replica that may offer has an act waiting only while something is in flight or ready.
pub pumps_leave : PumpsLeaveNone
unfolding pumped
pumps_leave (r, mails) some = by (settled r && nat_le (next r) last_slot) refl
  where
    by : (b : Bool) → (settled r && nat_le (next r) last_slot) ≡ b → HasNoneWaiting (cond b (pumped_from (next r) r.sets (r, mails)) (r, mails)).0
    by true t s n f e = done_none (pumped_from (next r) r.sets (r, mails)).0 (sets_done r mails r.sets some (and_parts r.running (may_offer r (first_set r.sets)) (and_parts (settled r) (nat_le (next r) last_slot) t).0).1) f e
    by false t s n f e = absurd (true≢false (sym (ap (λ b. b && nat_le (next r) last_slot) s ∙ n) ∙ t))
