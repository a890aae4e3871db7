-- In any journal a replica's acceptor has forgotten nothing from its next slot on, and where it does not run nothing is in flight or ready.
use Rattle.std.proofs.Common.{◌≡◌, ℕ, ◌+◌, ◌<◌, ◌≤◌, cond, false, true≢false, List, [], Option, Some, refl, sym, ◌∙◌, ap, arith}
use Rattle.sc_base.specs.Definitions.{Each}
use Rattle.sc_node_table.specs.Values.{Ballot, Draw, Command, Base}
use Rattle.sc_words.specs.paxos.PaxosDefinitions.{below, installed}
use Rattle.sc_node_table.specs.NodeDefinitions.{entered, jumped, forgotten, ReplicaState, replica_of, next, floor_of, without_slot, installed_replica}
use Rattle.sc_meaning.specs.sound.SoundDefinitions.{Player}
use Rattle.sc_law_walks.specs.WalkDefinitions.{IsKept}
use Rattle.sc_law_walks.proofs.WalkLemmas.{entered_next, cut_next, either_way, StateParts, ended_replica, StateBirths}
use Rattle.sc_live_steps.proofs.FollowingProofs.FollowingLemmas.{entered_floor, floor_low}
use Rattle.sc_live_journals.specs.rows.RowDefinitions.{IsWellKept, NodesAreBornWellKept}
use Rattle.sc_live_journals.proofs.RowsProofs.Players as players
use Rattle.sc_live_steps.proofs.FollowingProofs.MailTables.{jumped_floor}

abbrev pub Stands : ReplicaState → Type 0
Stands r = (r.acceptor.floor < next r) × (r.running ≡ false → r.ready ≡ [])

-- ---- what an entry, a state and a later ballot leave

enters_rest : (command : Command) (r : ReplicaState) → (r.running ≡ false → r.ready ≡ []) → (entered command r).running ≡ false → (entered command r).ready ≡ []
unfolding entered forgotten
enters_rest command r none off = none off

pub enters : (command : Command) (r : ReplicaState) → Stands r → Stands (entered command r)
enters command r k =
    let up = entered_next command r in
    let floor = entered_floor command r in
    let most = floor_low (next r) in
    let low = k.0 in
    (omega (arith, up, floor, most, low), enters_rest command r k.1)

jumped_next : (slot : ℕ) (base : Base) (sets : List (List ℕ)) (r : ReplicaState) → next (jumped slot base sets r) ≡ slot + 1
unfolding jumped forgotten
jumped_next slot base sets r = (let most = floor_low slot in cut_next (floor_of slot) (installed slot) (omega (arith, most)) ∙ omega arith)

jumped_rests : (slot : ℕ) (base : Base) (sets : List (List ℕ)) (r : ReplicaState) → (r.running ≡ false → r.ready ≡ []) → (jumped slot base sets r).running ≡ false → (jumped slot base sets r).ready ≡ []
unfolding jumped forgotten
jumped_rests slot base sets r none off = none off

pub jumps : (slot : ℕ) (base : Base) (sets : List (List ℕ)) (r : ReplicaState) → next r ≤ slot → Stands r → Stands (jumped slot base sets r)
jumps slot base sets r later k =
    let low = k.0 in
    let most = floor_low slot in
    let floor = jumped_floor slot base sets r in
    let up = jumped_next slot base sets r in
    (omega (arith, low, most, floor, up, later), jumped_rests slot base sets r k.1)

pub makes : (me slot : ℕ) (base : Base) (sets : List (List ℕ)) → Stands (installed_replica me slot base sets)
unfolding forgotten
makes me slot base sets =
    let most = floor_low slot in
    let up = cut_next (floor_of slot) (installed slot) (omega (arith, most)) in
    (omega (arith, most, up), λ off. refl)

pub overtakes : (ballot : Ballot) (r : ReplicaState) → Stands r → Stands (ended_replica (Some ballot.node) (cond (below r.top ballot) (record r { top = ballot }) r))
overtakes ballot r k = either_way (λ (x : ReplicaState). Stands (ended_replica (Some ballot.node) x)) (below r.top ballot) (record r { top = ballot }) r (k.0, λ off. refl) (k.0, λ off. refl)

-- ---- the invariant

abbrev pub parts : (me : ℕ) → StateParts me (λ r. Stands r)
parts me = record {
  entered = λ command r kept k. enters command r k;
  landed = λ slot r k. (k.0, λ off. ap (λ (es : List (ℕ × Command)). without_slot es slot) (k.1 off));
  jumped = λ slot base sets r later k. jumps slot base sets r later k;
  hinted = λ hint r off k. k;
  ended = λ hint r k. (k.0, λ off. refl);
  elected = λ r same k. (k.0, λ off. refl);
  seen = λ ballot r t on k. k;
  overtaken = λ ballot r on t k. overtakes ballot r k;
  polled = λ from ballot reports r on k. k;
  counts = λ from ballot slot set r on k. k;
  readied = λ slot command r on k. (k.0, λ off. absurd (true≢false (sym on ∙ off)));
  promised = λ ballot r top t k. k;
  accepted = λ report r top t k. k;
  flown = λ slot command r on near k. k;
  queues = λ r acts backlog k. k;
  waited = λ waits r k. k;
}

abbrev pub begins : (me : ℕ) → StateBirths me (λ r. Stands r)
begins me = record { born = λ base. (omega arith, λ off. refl); made = λ slot base sets. makes me slot base sets }

pub to : (me : ℕ) (r : ReplicaState) → IsWellKept me r → IsKept me r × Stands r
to me r k = ((k.0, k.1, ((λ off. ((k.3 off).0, (k.4 off).0, (k.4 off).1)), k.5, k.6)), (k.2, λ off. (k.3 off).1))

pub from : (me : ℕ) (r : ReplicaState) → IsKept me r × Stands r → IsWellKept me r
from me r k = (k.0.0, k.0.1, k.1.0, (λ off. ((k.0.2.0 off).0, k.1.1 off)), (λ off. ((k.0.2.0 off).1, (k.0.2.0 off).2)), k.0.2.1, k.0.2.2)

-- ---- players and their rows

module _ (me : ℕ) where
  abbrev pub Found : Option ReplicaState → Type 0
  Found o = players.Found me (λ r. Stands r) (parts me) (begins me) (λ r. IsWellKept me r) (to me) (from me) o

  abbrev pub Plays : Player → Type 0
  Plays player = players.Plays me (λ r. Stands r) (parts me) (begins me) (λ r. IsWellKept me r) (to me) (from me) player

  pub found_well : (group : Draw) (replicas : List ReplicaState) → Each (IsWellKept me) replicas → Found (replica_of group replicas)
  found_well group replicas k = players.found me (λ r. Stands r) (parts me) (begins me) (λ r. IsWellKept me r) (to me) (from me) group replicas k

  pub replay_well : players.RowsKeep Plays
  replay_well who rows player sent k = players.replays me (λ r. Stands r) (parts me) (begins me) (λ r. IsWellKept me r) (to me) (from me) who rows player sent k

-- So is each replica of a node that is created.
pub nodes_born : NodesAreBornWellKept
nodes_born me groups policy = players.born me (λ r. Stands r) (parts me) (begins me) (λ r. IsWellKept me r) (to me) (from me) groups
