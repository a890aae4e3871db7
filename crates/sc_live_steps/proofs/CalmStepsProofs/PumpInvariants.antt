-- What a pump and an entry leave as it is.
use Rattle.std.proofs.Common.{◌≡◌, ℕ, ◌≤◌, List, [], ◌∷◌, ◌++◌, length, refl, sym, subst}
use Rattle.sc_node_table.specs.Values.{Command}
use Rattle.sc_node_table.specs.NodeDefinitions.{entered, offered, pumped, ReplicaState, Place, next, members, forgotten, rest_of}
use Rattle.sc_live_steps.specs.calm.CalmDefinitions.{MayGoOn, AreNines}
use Rattle.sc_law_walks.proofs.WalkLemmas.{pumped_freely}

-- ---- a pump leaves all but what is in flight and the queues

-- a replica but for these
abbrev pub frame : ReplicaState → ReplicaState
frame r = record r { leader = record r.leader { flights = [] }; acts = []; backlog = [] }

-- what is offered is in flight, and no more
offered_kept : (r : ReplicaState) (slot : ℕ) (set : List ℕ) (command : Command) (place : Place) → frame place.0 ≡ frame r → frame (offered slot set command place).0 ≡ frame r
unfolding offered
offered_kept r slot set command place e = e

pub pump_kept : (place : Place) → frame (pumped place).0 ≡ frame place.0
pump_kept place = pumped_freely (λ (p : Place). frame p.0 ≡ frame place.0) (λ r mails more acts backlog e. e) (offered_kept place.0) place refl

framed : (r : ReplicaState) → MayGoOn r → MayGoOn (frame r)
framed r may = λ runs. (let m = may runs in record { unbound = m.unbound; few = m.few })

unframed : (r : ReplicaState) → MayGoOn (frame r) → MayGoOn r
unframed r may = λ runs. (let m = may runs in record { unbound = m.unbound; few = m.few })

-- one may be pumped again
pub pumped_goes_on : (place : Place) → MayGoOn place.0 → MayGoOn (pumped place).0
pumped_goes_on place may = unframed (pumped place).0 (subst MayGoOn (sym (pump_kept place)) (framed place.0 may))

-- ---- an entry takes a slot

nines_push : (sets : List (List ℕ)) (set : List ℕ) → AreNines sets → length set ≤ 9 → AreNines (rest_of sets ++ set ∷ [])
nines_push [] set few small = (small, tt)
nines_push (first ∷ sets) set few small = push sets few.1
  where
    push : (sets : List (List ℕ)) → AreNines sets → AreNines (sets ++ set ∷ [])
    push [] few = (small, tt)
    push (next ∷ sets) few = (few.0, push sets few.1)

-- nine decide the slot that it opens, where the group has no more members then
pub entered_nines : (command : Command) (r : ReplicaState) → AreNines r.sets → length (members (entered command r)) ≤ 9 → AreNines (entered command r).sets
unfolding entered forgotten
entered_nines command r few small = nines_push r.sets (members (entered command r)) few small
