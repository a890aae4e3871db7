-- A leader at which calls alone are under way, and the group serves them: a vote lowers what is owed.
use Rattle.std.proofs.Common.{◌≡◌, ℕ, ◌≤◌, eqb, ltb, Bool, true, false, cond, List, [], ◌∷◌, length, Option, Some, None, refl, sym, ◌∙◌, ap, subst}
use Rattle.sc_base.specs.Definitions.{Each, is_member}
use Rattle.sc_node_table.specs.Values.{Op, Command, Noop, Call, Core, Flight}
use Rattle.sc_group_table.specs.machine.MachineDefinitions.{Group}
use Rattle.sc_words.specs.paxos.PaxosDefinitions.{flight_at, without_flight}
use Rattle.sc_node_table.specs.NodeDefinitions.{entered, looked, executed_one, next_ready, ReplicaState, Place, next, members, at_slot, with_slot, without_slot}
use Rattle.sc_law_walks.specs.WalkDefinitions.{IfThere}
use Rattle.sc_live_steps.specs.calm.CalmDefinitions.{AreBounded, IsServed, IsServedCall, ServesAll, IsPaid, MayGoOn, ArePaid, AllPaid, IsCounting, readied_at, DecidesFreely, Ways}
use Rattle.sc_live_steps.proofs.CalmStepsProofs.CountedPotential.{counted_ends, left_stays, looked_stays}
use Rattle.sc_live_steps.proofs.CalmStepsProofs.CallEntries.{call_core, call_leads, call_said}
use Rattle.sc_live_steps.proofs.CalmStepsProofs.PaidEntries.{near, after_counting, execution_owes}
use Rattle.sc_live_steps.proofs.FollowingProofs.ExecutedEntries.{ready_of}
use Rattle.sc_live_steps.proofs.FollowingProofs.FlightSlots.{slot_in as found_with}

-- ---- what holds of each holds of what is found, and without one or with one more

each_flight : (P : Command → Type 0) (slot : ℕ) (flights : List (Flight Command)) (flight : Flight Command) → Each (λ (f : Flight Command). P f.value) flights → flight_at slot flights ≡ Some flight → P flight.value
each_flight P slot [] flight each e = cc
each_flight P slot (f ∷ fs) flight each e = by (eqb f.slot slot) e (each_flight P slot fs flight each.1)
  where
    by : (b : Bool) → cond b (Some f) (flight_at slot fs) ≡ Some flight → (flight_at slot fs ≡ Some flight → P flight.value) → P flight.value
    by true fact more = let same : f ≡ flight = cc in subst (λ (x : Flight Command). P x.value) same each.0
    by false fact more = more fact

each_without_flight : (P : Command → Type 0) (slot : ℕ) (flights : List (Flight Command)) → Each (λ (f : Flight Command). P f.value) flights → Each (λ (f : Flight Command). P f.value) (without_flight slot flights)
each_without_flight P slot [] each = tt
each_without_flight P slot (f ∷ fs) each = by (eqb f.slot slot) (each_without_flight P slot fs each.1)
  where
    by : (b : Bool) → Each (λ (x : Flight Command). P x.value) (without_flight slot fs) → Each (λ (x : Flight Command). P x.value) (cond b fs (f ∷ without_flight slot fs))
    by true more = each.1
    by false more = (each.0, more)

each_at : (P : Command → Type 0) (slot : ℕ) (ready : List (ℕ × Command)) (command : Command) → Each (λ (e : ℕ × Command). P e.1) ready → at_slot ready slot ≡ Some command → P command
each_at P slot [] command each at = cc
each_at P slot (e ∷ es) command each at = by (eqb e.0 slot) at (each_at P slot es command each.1)
  where
    by : (b : Bool) → cond b (Some e.1) (at_slot es slot) ≡ Some command → (at_slot es slot ≡ Some command → P command) → P command
    by true fact more = let same : e.1 ≡ command = cc in subst P same each.0
    by false fact more = more fact

each_without : (P : Command → Type 0) (slot : ℕ) (ready : List (ℕ × Command)) → Each (λ (e : ℕ × Command). P e.1) ready → Each (λ (e : ℕ × Command). P e.1) (without_slot ready slot)
each_without P slot [] each = tt
each_without P slot (e ∷ es) each = by (eqb e.0 slot) (each_without P slot es each.1)
  where
    by : (b : Bool) → Each (λ (x : ℕ × Command). P x.1) (without_slot es slot) → Each (λ (x : ℕ × Command). P x.1) (cond b es (e ∷ without_slot es slot))
    by true more = each.1
    by false more = (each.0, more)

each_with : (P : Command → Type 0) (slot : ℕ) (command : Command) (ready : List (ℕ × Command)) → P command → Each (λ (e : ℕ × Command). P e.1) ready → Each (λ (e : ℕ × Command). P e.1) (with_slot ready slot command)
each_with P slot command [] p each = (p, tt)
each_with P slot command (e ∷ es) p each = by (eqb e.0 slot) (ltb slot e.0) (each_with P slot command es p each.1)
  where
    by : (b c : Bool) → Each (λ (x : ℕ × Command). P x.1) (with_slot es slot command) → Each (λ (x : ℕ × Command). P x.1) (cond b ((slot, command) ∷ es) (cond c ((slot, command) ∷ e ∷ es) (e ∷ with_slot es slot command)))
    by true c more = (p, each.1)
    by false true more = (p, each)
    by false false more = (each.0, more)

-- ---- one call

counts_call : (command : Command) (r : ReplicaState) → ServesAll r → at_slot r.ready (next r) ≡ Some command → IsCounting command r
counts_call command r serves at = record { running = serves.running; few = serves.few; mine = serves.mine; ready = at }

serves_next : (client seq : ℕ) (op : Op) (place : Place) → ServesAll place.0 → at_slot place.0.ready (next place.0) ≡ Some (Call client seq op) → IsServed op place.0.group.core → ServesAll (executed_one true (Call client seq op) place).0
serves_next client seq op place serves at served =
    let counting = counts_call (Call client seq op) place.0 serves at in
    let said = call_said near client seq op place.0 place.1 served in
    let leads = call_leads client seq op place.0 counting served in
    let core = call_core client seq op place.0 served in
    let small : length (members (entered (Call client seq op) place.0)) ≤ 9 = subst (λ (c : Core). length c.members ≤ 9) (sym core) serves.few in
    counted_ends near (λ p. ServesAll p.0) (Call client seq op) place 1 counting said.0 said.1
    (λ r mails counts.
    let same_core : r.group.core ≡ place.0.group.core = ap (λ (g : Group). g.core) counts.group_is ∙ core in
    let gone = ap (λ (g : Group). g.core.gone) counts.group_is ∙ leads.stands in
    let mine : is_member (members r) r.me ≡ true = ap (λ n. is_member (members r) n) counts.me_is ∙ (ap (λ (g : Group). is_member g.core.members place.0.me) counts.group_is ∙ leads.stays) in
    let same = ap looked (left_stays r mails counts.running gone mine) ∙ looked_stays r mails counts.running in
    subst (λ (p : Place). ServesAll p.0) (sym same)
    (record {
      running = counts.running;
      few = subst (λ (c : Core). length c.members ≤ 9) (sym same_core) serves.few;
      mine = mine;
      may = after_counting near (Call client seq op) place serves.may small 1 r mails counts;
      flights = subst (λ (c : Core). Each (λ (f : Flight Command). IsServedCall c f.value) r.leader.flights) (sym same_core)
          (subst (λ (fs : List (Flight Command)). Each (λ (f : Flight Command). IsServedCall place.0.group.core f.value) fs) (sym counts.flights) (each_without_flight (IsServedCall place.0.group.core) (next place.0) place.0.leader.flights serves.flights));
      ready = subst (λ (c : Core). Each (λ (e : ℕ × Command). IsServedCall c e.1) r.ready) (sym same_core)
          (subst (λ (es : List (ℕ × Command)). Each (λ (e : ℕ × Command). IsServedCall place.0.group.core e.1) es) (sym counts.ready) (each_without (IsServedCall place.0.group.core) (next place.0) place.0.ready serves.ready));
    }))

-- ---- one after another

one_paid : (es : List (ℕ × Command)) (command : Command) (place : Place) → ServesAll place.0 → at_slot place.0.ready (next place.0) ≡ Some command → IsServedCall place.0.group.core command
    → ((p : Place) → ServesAll p.0 → ArePaid es p) → IsPaid command place.0 × ArePaid es (executed_one true command place)
one_paid es (Call client seq op) place serves at served more =
    ((counts_call (Call client seq op) place.0 serves at, served), more (executed_one true (Call client seq op) place) (serves_next client seq op place serves at served))
one_paid es Noop place serves at served more = absurd served
one_paid es _ place serves at served more = absurd served

calls_paid : (es : List (ℕ × Command)) (place : Place) → ServesAll place.0 → ArePaid es place
calls_paid [] place serves = λ runs. serves.may
calls_paid (e ∷ es) place serves = by (next_ready place.0) refl (λ p s. calls_paid es p s)
  where
    by : (o : Option Command) → next_ready place.0 ≡ o → ((p : Place) → ServesAll p.0 → ArePaid es p) → IfThere (λ command. IsPaid command place.0 × ArePaid es (executed_one true command place)) (MayGoOn place.0) o
    by None fact more = λ runs. serves.may
    by (Some command) fact more =
        let at = ready_of command place.0 fact in
        one_paid es command place serves at (each_at (IsServedCall place.0.group.core) (next place.0) place.0.ready command serves.ready at) more

all_calls : (command : Command) (place : Place) → ServesAll place.0 → at_slot place.0.ready (next place.0) ≡ Some command → AllPaid command place
all_calls command place serves at =
    let served = each_at (IsServedCall place.0.group.core) (next place.0) place.0.ready command serves.ready at in
    one_paid (executed_one true command place).0.ready command place serves at served (λ p s. calls_paid (executed_one true command place).0.ready p s)

-- ---- a vote

readied_serves : (slot : ℕ) (flight : Flight Command) (r : ReplicaState) → ServesAll r → flight_at slot r.leader.flights ≡ Some flight → ServesAll (readied_at slot flight.value r)
readied_serves slot flight r serves e = record {
  running = serves.running;
  few = serves.few;
  mine = serves.mine;
  may = record { unbound = serves.may.unbound; few = serves.may.few };
  flights = each_without_flight (IsServedCall r.group.core) slot r.leader.flights serves.flights;
  ready = each_with (IsServedCall r.group.core) slot flight.value r.ready (each_flight (IsServedCall r.group.core) slot r.leader.flights flight serves.flights e) serves.ready;
}

pub serving_decides : (ways : Ways) (slot : ℕ) (place : Place) → AreBounded ways → ServesAll place.0 → DecidesFreely ways slot place
serving_decides ways slot (r, mails) bounded serves = λ flight runs room here e.
    execution_owes ways flight.value (readied_at slot flight.value r, mails) bounded
    (all_calls flight.value (readied_at slot flight.value r, mails) (readied_serves slot flight r serves e)
    (subst (λ at. at_slot (with_slot r.ready slot flight.value) at ≡ Some flight.value) here (found_with slot flight.value r.ready)))
