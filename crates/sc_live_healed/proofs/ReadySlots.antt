-- What an execution leaves of a replica that runs, where its group is not reshaped: nothing is ready at the next slot, and the pump was tried.
use Rattle.std.proofs.Common.{◌≡◌, ℕ, ◌+◌, ◌-◌, ◌≤◌, ◌&&◌, eqb, Bool, true, false, cond, List, [], ◌∷◌, length, Option, Some, None, inl, inr, refl, sym, ◌∙◌, ap, arith}
use Rattle.std.proofs.lemmas.Bool.{cond-true, cases_lt, lt-ltb, and_from}
use Rattle.std.proofs.lemmas.List.Sums.{count_by-le-length}
use Rattle.sc_base.specs.Definitions.{is_member}
use Rattle.sc_node_table.specs.Values.{Ballot, Base, Command, Free, Mail, Flight}
use Rattle.sc_words.proofs.PaxosProofs.PaxosLemmas.{Each-among, Each-weaker}
use Rattle.sc_node_table.specs.NodeDefinitions.{executed_one, next_child, has_room, next_ready, ending, executed_ready, all_ready, executed, pumped, ReplicaState, Place, Executed, childless, next, settled, at_slot, without_slot, last_slot, slots_ahead}
use Rattle.sc_live_plain.proofs.PlainLemmas.{entries_at, at_nothing, out_length, at_found, in_range, range_behind, one_no}
use Rattle.sc_live_healed.specs.HealedDefinitions.{IsFixedCommand, IsUndecided, HasOfferedAll, TakesSlots}
use Rattle.sc_live_healed.proofs.ServingReplicas.{IsServing, IsUnderWay}
use Rattle.sc_live_healed.proofs.OfferedQueues.{pumped_serves}
use Rattle.sc_live_healed.proofs.ExecutedSlots.{one_entered}

-- a replica that runs, at the end of a row
pub record HasServed (base : Base) (me : ℕ) (ballot : Ballot) (Held : Flight Command → Type 0) (place : Place) : Type 0 where
  pub taken : ℕ
  pub serves : IsServing base me ballot Held taken place
  pub executed : entries_at (next place.0) place.0.ready ≡ 0
  pub offered : settled place.0 ≡ true → next place.0 ≤ last_slot → HasOfferedAll taken place.0

-- it takes its slots as it should
pub served_takes : (base : Base) (me : ℕ) (ballot : Ballot) (Held : Flight Command → Type 0) (place : Place) → HasServed base me ballot Held place → TakesSlots base place.0
served_takes base me ballot Held place h = record {
  taken = h.taken;
  slots = h.serves.slots;
  room = h.serves.room;
  executed = h.executed;
  undecided = Each-weaker (IsUnderWay base me ballot Held place.1) (IsUndecided base) (λ flight u. u.undecided) place.0.leader.flights h.serves.flights;
  offered = h.offered;
}

-- what is ready next is found
ready_found : (on room : Bool) (o : Option Command) (command : Command) → cond (on && room) o None ≡ Some command → o ≡ Some command
ready_found true true o command e = e
ready_found true false o command e = cc
ready_found false room o command e = cc

module _ (base : Base) (me : ℕ) (ballot : Ballot) (Held : Flight Command → Type 0) (free : base.core.lock ≡ Free) (stands : base.core.gone ≡ None) (member : is_member base.core.members me ≡ true) where
  abbrev S : ℕ → Place → Type 0
  S taken place = IsServing base me ballot Held taken place

  abbrev E : Place → Type 0
  E place = HasServed base me ballot Held place

  -- nothing is ready at the next slot
  pub record IsDone (place : Place) : Type 0 where
    pub taken : ℕ
    pub serves : S taken place
    pub none : entries_at (next place.0) place.0.ready ≡ 0

  abbrev IsDoneAfter : Executed → Type 0
  IsDoneAfter step = IsDone step.0

  -- the pump leaves it so
  pub pumped_done : (place : Place) → IsDone place → E (pumped place)
  pumped_done place d =
      let p = pumped_serves base me ballot Held free stands d.taken place d.serves in
      record {
        taken = p.taken;
        serves = p.serves;
        executed = ap (λ m. entries_at m (pumped place).0.ready) p.same_next ∙ ap (λ (es : List (ℕ × Command)). entries_at (next place.0) es) p.same_ready ∙ d.none;
        offered = p.offered;
      }

  done_of : (place : Place) → E place → IsDone place
  done_of place e = record { taken = e.taken; serves = e.serves; none = e.executed }

  -- where nothing is ready next, nothing stands there
  none_ready : (taken : ℕ) (r : ReplicaState) (mails : List Mail) → S taken (r, mails) → next_ready r ≡ None → entries_at (next r) r.ready ≡ 0
  none_ready taken r mails k e =
      elim (cases_lt (next r) (last_slot + slots_ahead)) [
        | inl low ↦ (
            let many = ap length k.sets in
            let room : has_room r ≡ true = lt-ltb (next r) (last_slot + length r.sets) (omega (arith, low, many)) in
            at_nothing r.ready (next r) (sym (cond-true (r.running && has_room r) (at_slot r.ready (next r)) None (and_from r.running (has_room r) k.running room)) ∙ e))
        | inr high ↦ (
            let none : taken ≡ 0 = elim (k.room) [ inl none ↦ none | inr low ↦ omega (arith, low, high) ] in
            let once = k.slots.once (next r) in
            let out = one_no (in_range (next r) taken (next r)) (range_behind (next r) taken (next r) (omega (arith, none))) in
            omega (arith, once, out))
      ]

  done_by : (es : List (ℕ × Command)) (taken : ℕ) (r : ReplicaState) (mails : List Mail) → length r.ready ≤ length es + 1 → S taken (r, mails) → (o : Option Command) → next_ready r ≡ o
      → ((t : ℕ) (p : Place) → length p.0.ready ≤ length es → S t p → IsDone (executed_ready es p).0)
      → IsDoneAfter (elim o [ None ↦ childless (r, mails) | Some command ↦ ending (next_child command r) (executed_ready es (executed_one true command (r, mails))) ])
  done_by es taken r mails short k None e more = record { taken = taken; serves = k; none = none_ready taken r mails k e }
  done_by es taken r mails short k (Some command) e more =
      let found = at_found r.ready (next r) command (ready_found r.running (has_room r) (at_slot r.ready (next r)) command e) in
      let fixed = Each-among (λ (entry : ℕ × Command). IsFixedCommand base entry.1) r.ready (next r, command) k.ready found.1 in
      let place : Place = executed_one true command (r, mails) in
      let entered = one_entered base me ballot Held free stands member taken true command r mails fixed k in
      let shorter = out_length (λ (entry : ℕ × Command). entry.0) (λ s xs. without_slot xs s) (λ s. refl) (λ s x xs. refl) (next r) r.ready found.0 in
      let left = ap length entered.same_ready in
      let rest : IsDone (executed_ready es place).0 = more (taken - 1) place (omega (arith, shorter, left, short)) entered.serves in
      done_of (pumped (executed_ready es place).0) (pumped_done (executed_ready es place).0 rest)

  all_done : (es : List (ℕ × Command)) (taken : ℕ) (place : Place) → length place.0.ready ≤ length es → S taken place → IsDone (executed_ready es place).0
  unfolding executed_ready
  all_done [] taken (r, mails) short k =
      let few = count_by-le-length (λ (entry : ℕ × Command). eqb entry.0 (next r)) r.ready in
      record { taken = taken; serves = k; none = omega (arith, few, short) }
  all_done (x ∷ es) taken (r, mails) short k = done_by es taken r mails (omega (arith, short)) k (next_ready r) refl (λ t p s l. all_done es t p s l)

  -- an entry, what was ready after it, and the pump
  pub executed_serves : (taken : ℕ) (counted : Bool) (command : Command) (r : ReplicaState) (mails : List Mail) → IsFixedCommand base command → S taken (r, mails) → E (executed counted command (r, mails)).0
  unfolding executed
  executed_serves taken counted command r mails fixed k =
      let place : Place = executed_one counted command (r, mails) in
      let entered = one_entered base me ballot Held free stands member taken counted command r mails fixed k in
      pumped_done (all_ready place).0 (all_done place.0.ready (taken - 1) place (omega arith) entered.serves)

  -- a pump where nothing is ready at the next slot
  pub pump_serves : (taken : ℕ) (place : Place) → entries_at (next place.0) place.0.ready ≡ 0 → S taken place → E (pumped place)
  pump_serves taken place none k = pumped_done place (record { taken = taken; serves = k; none = none })
