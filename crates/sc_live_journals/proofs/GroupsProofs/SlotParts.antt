-- What a replica has in flight and ready stays from its next slot on by the parts of its rows.
use Rattle.std.proofs.Common.{◌≡◌, ℕ, ◌+◌, ◌-◌, ◌^◌, ◌≤◌, ◌&&◌, eqb, Bool, true, false, true≢false, cond, List, [], ◌∷◌, length, Option, Some, None, refl, sym, ◌∙◌, ap, subst, arith}
use Rattle.sc_node_table.specs.Values.{Ballot, Command, Noop, Effect, AnswerBody, Mail, Flight}
use Rattle.sc_mail.specs.declared.bodies.AnswerBody.TheVariants as Says
use Rattle.sc_group_table.specs.machine.MachineDefinitions.{applied}
use Rattle.sc_words.specs.paxos.PaxosDefinitions.{below, flight_at, new_leader, without_flight}
use Rattle.sc_node_table.specs.NodeDefinitions.{elected, ended, stopped, saw, entered, announced, learnt_to, welcomed, landed, left, looked, executed_one, has_room, next_ready, next_child, ending, executed_ready, all_ready, executed, install_to, offered, pumped, put_back, ReplicaState, Place, Executed, childless, flying, next, members, taken_at, forgotten, at_slot, without_slot, before_of, spoken}
use Rattle.sc_law_walks.proofs.WalkLemmas.{entered_next, landed_place, either_way, IsOpenOffer, offer_still, TableOffers, pump_keeps}
use Rattle.sc_live_journals.specs.groups.GroupDefinitions.{HasFrom, IsSlotKept}
use Rattle.sc_live_journals.proofs.GroupsProofs.SlotLists.{fly_past, fly_pushed, wait_past}
use Rattle.sc_live_journals.proofs.GroupsProofs.LeadersAtRest.{none_mapped, none_first}
use Rattle.sc_node_table.proofs.Lemmas.{one-shorter}
use Rattle.sc_live_steps.proofs.ExecutionParts.{entry_reported, leaving_kept, looking_kept}
use Rattle.std.proofs.lemmas.List.{nil_from_length}

-- what is ready is not executed where nothing runs, or nothing is ready
pub off_done : (r : ReplicaState) → r.running ≡ false → next_ready r ≡ None
off_done r off = ap (λ b. cond (b && has_room r) (at_slot r.ready (next r)) None) off

pub empty_done : (r : ReplicaState) → at_slot r.ready (next r) ≡ None → next_ready r ≡ None
empty_done r e = either_way (λ (o : Option Command). o ≡ None) (r.running && has_room r) (at_slot r.ready (next r)) None e refl

-- what is in flight or ready is so from n on, the next slot is m, and where d is true nothing that is ready is to be executed now
module _ (n m : ℕ) (d : Bool) where
  abbrev pub W : Place → Type 0
  W place = HasFrom n place.0 × (next place.0 ≡ m) × (d ≡ true → next_ready place.0 ≡ None)

  -- ---- what goes back

  back_well : (command : Command) (r : ReplicaState) → W (r, []) → W (put_back command r, [])
  unfolding put_back
  back_well Noop r k = k
  back_well _ r k = k

  -- ---- leaders

  pub ended_well : (hint : Option ℕ) (answer : AnswerBody) (place : Place) → W place → W (ended hint answer place)
  unfolding ended
  ended_well hint answer (r, mails) k = (((tt, tt), (tt, tt), λ off. (refl, refl)), k.1, λ e. refl)

  pub elected_well : (place : Place) → W place → W (elected place)
  unfolding elected
  elected_well (r, mails) k =
      let ballot : Ballot = record { round = r.top.round + 1; node = r.me } in
      either_way W (eqb r.top.round (2 ^ 32 - 1)) _ _ k
      (((tt, tt), (tt, tt), λ off. absurd (true≢false off)), k.1, λ e. empty_done (record r { top = ballot; hint = Some r.me; running = true; leader = new_leader ballot (next r); ready = []; waits = 0 }) refl)

  pub saw_well : (ballot : Ballot) (place : Place) → W place → W (saw ballot place)
  unfolding saw
  saw_well ballot (r, mails) k =
      let seen : ReplicaState = cond (below r.top ballot) (record r { top = ballot }) r in
      let s : W (seen, mails) = either_way (λ (x : ReplicaState). W (x, mails)) (below r.top ballot) (record r { top = ballot }) r k k in
      either_way W (r.running && below r.leader.ballot ballot) (stopped (Some ballot.node) (seen, mails)) (seen, mails) (ended_well (Some ballot.node) (Says.NotLeader (Some ballot.node)) (seen, mails) s) s

  -- ---- the state is sent

  pub sent_well : (node : ℕ) (place : Place) → W place → W (install_to node place)
  unfolding install_to
  sent_well node (r, mails) k = k

  pub looked_well : (place : Place) → W place → W (looked place)
  looked_well place k = looking_kept W elected_well (λ hint r mails q. q) place k

-- ---- the pump

module _ (n : ℕ) (d : Bool) where
  offered_well : (slot : ℕ) (set : List ℕ) (command : Command) (r : ReplicaState) (mails : List Mail) → r.running ≡ true → IsOpenOffer slot set command r → taken_at r slot ≡ None → W n n d (r, mails) → W n n d (offered slot set command (r, mails))
  unfolding offered
  offered_well slot set command r mails on at free k = (
    (
      fly_pushed n (record { slot = slot; value = command; voters = None }) r.leader.flights (let low = at.low in let fact = k.1 in omega (arith, low, fact))
          (none_mapped (λ (flight : Flight Command). flight.value) (flight_at slot r.leader.flights) (none_first (flying r slot) (at_slot r.ready slot) free)) k.0.0,
      k.0.1,
      λ off. absurd (true≢false (sym on ∙ off)),
    ),
    k.1,
    k.2,
  )

  offers_well : TableOffers (W n n d)
  offers_well = record {
    turned = λ command answer backlog r mails on e no k. k;
    offers_value = λ slot set command r mails on at free e k. offered_well slot set command r mails on at free k;
    offers_noop = λ slot set r mails on at free gap k. offered_well slot set Noop r mails on at free k;
    offers_act = λ slot set act acts r mails on at free e k. offered_well slot set act (record r { acts = acts }) mails on (offer_still slot set act r acts r.backlog at) free k;
    offers_call = λ slot set command backlog r mails on at free e k. offered_well slot set command (record r { backlog = backlog }) mails on (offer_still slot set command r r.acts backlog at) free k;
  }

  pub pumped_well : (place : Place) → W n n d place → W n n d (pumped place)
  pumped_well place k = (pump_keeps (W n n d) offers_well place k).0

-- ---- an entry

-- all that is in flight or ready is so from the next slot on
abbrev pub S : ReplicaState → Type 0
S r = HasFrom (next r) r

entered_has : (command : Command) (r : ReplicaState) → S r → HasFrom (next r) (entered command r)
unfolding entered forgotten
entered_has command r k = k

entered_well : (command : Command) (r : ReplicaState) (mails : List Mail) → S r → W (next r) (next r + 1) false (entered command r, mails)
entered_well command r mails k = (entered_has command r k, entered_next command r, λ e. absurd (true≢false (sym e)))

landed_well : (n m : ℕ) (counted : Bool) (command : Command) (place : Place) → W n m false place → W (n + 1) m false (landed counted n command place)
landed_well n m counted command place k =
    landed_place (W (n + 1) m false) (λ _. Unit {0}) (λ other p o q. back_well (n + 1) m false other p.0 q) counted n command place tt
    ((fly_past n place.0.leader.flights k.0.0, wait_past n place.0.ready k.0.1, λ off. (let o = k.0.2 off in (ap (λ (fs : List (Flight Command)). without_flight n fs) o.0, ap (λ es. without_slot es n) o.1))), k.1, λ e. absurd (true≢false (sym e)))

one_well : (counted : Bool) (command : Command) (place : Place) → S place.0 → S (executed_one counted command place).0
unfolding executed_one
one_well counted command (r, mails) k =
    let n = next r in
    let m = next r + 1 in
    let effect : Effect = (applied r.group command).1 in
    let place0 : Place = (entered command r, mails) in
    let place4 : Place = welcomed counted (members r) (learnt_to counted (members r) n command (spoken counted (before_of r.group.core) effect command (announced counted effect command place0))) in
    let k4 : W n m false place4 = entry_reported (λ x. W n m false (x, [])) (λ x acts backlog q. q) counted (before_of r.group.core) effect (members r) n command place0 (entered_well command r mails k) in
    let place5 : Place = landed counted n command place4 in
    let k5 : W m m false place5 = landed_well n m counted command place4 k4 in
    let k6 : W m m false (looked (left place5)) = looked_well m m false (left place5) (leaving_kept (W m m false) (ended_well m m false) place5 k5) in
    subst (λ x. HasFrom x (looked (left place5)).0) (sym k6.1) k6.0

-- a place whose replica keeps its slots
abbrev pub K : Place → Type 0
K place = IsSlotKept place.0

-- what a row leaves, with the children that it made, keeps its slots
abbrev pub KAfter : Executed → Type 0
KAfter step = K step.0

pub to_parts : (place : Place) → K place → W (next place.0) (next place.0) true place
to_parts place k = (k.0, refl, λ e. k.1)

pub from_parts : (n : ℕ) (place : Place) → W n n true place → K place
from_parts n place k = (subst (λ x. HasFrom x place.0) (sym k.1) k.0, k.2 refl)

pub pumps : (place : Place) → K place → K (pumped place)
pumps place k = from_parts (next place.0) (pumped place) (pumped_well (next place.0) true place (to_parts place k))

ready_well : (es : List (ℕ × Command)) (place : Place) → S place.0 → length place.0.ready ≤ length es → K (executed_ready es place).0
unfolding executed_ready
ready_well [] place k few =
    let none : length place.0.ready ≤ 0 = few in
    (k, empty_done place.0 (subst (λ (es : List (ℕ × Command)). at_slot es (next place.0) ≡ None) (sym (nil_from_length place.0.ready (omega (arith, none)))) refl))
ready_well (e ∷ es) place k few = by (next_ready place.0) refl (λ p q l. ready_well es p q l)
  where
    by : (o : Option Command) → next_ready place.0 ≡ o → ((p : Place) → S p.0 → length p.0.ready ≤ length es → K (executed_ready es p).0)
        → KAfter (elim o [ None ↦ childless place | Some command ↦ ending (next_child command place.0) (executed_ready es (executed_one true command place)) ])
    by None i more = (k, i)
    by (Some command) i more =
        (let less = one-shorter command place i in
        pumps (executed_ready es (executed_one true command place)).0 (more (executed_one true command place) (one_well true command place k) (omega (arith, less, few))))

pub executed_well : (counted : Bool) (command : Command) (place : Place) → S place.0 → K (executed counted command place).0
unfolding executed
executed_well counted command place k = (let after : Place = executed_one counted command place in pumps (all_ready after).0 (ready_well after.0.ready after (one_well counted command place k) (omega arith)))

-- ---- parts of rows

pub ends : (hint : Option ℕ) (answer : AnswerBody) (place : Place) → K place → K (ended hint answer place)
ends hint answer place k = from_parts (next place.0) (ended hint answer place) (ended_well (next place.0) (next place.0) true hint answer place (to_parts place k))

pub self_election : (place : Place) → K place → K (elected place)
self_election place k = from_parts (next place.0) (elected place) (elected_well (next place.0) (next place.0) true place (to_parts place k))

pub sees : (ballot : Ballot) (place : Place) → K place → K (saw ballot place)
sees ballot place k = from_parts (next place.0) (saw ballot place) (saw_well (next place.0) (next place.0) true ballot place (to_parts place k))

pub sends : (node : ℕ) (place : Place) → K place → K (install_to node place)
sends node place k = from_parts (next place.0) (install_to node place) (sent_well (next place.0) (next place.0) true node place (to_parts place k))

pub looks : (place : Place) → K place → K (looked place)
looks place k = from_parts (next place.0) (looked place) (looked_well (next place.0) (next place.0) true place (to_parts place k))
