-- What the pump leaves as it is: all but what is in flight and the queues. So a replica that is settled stays settled, and to test it once is to test it before each slot.
use Rattle.std.proofs.Common.{◌≡◌, ℕ, ◌+◌, Bool, true, false, List, [], ◌∷◌, Option, Some, None, is_some, refl, ◌∙◌, ap, if◌then◌else◌}
use Rattle.std.specs.List.{list_any}
use Rattle.sc_words.specs.declared.commands.commands.Command.{Command}
use Rattle.sc_words.specs.declared.paxos.answers.Must.{Must}
use Rattle.sc_words.specs.declared.paxos.answers.Must.TheVariants.{Value, Gap, Free}
use Rattle.sc_words.specs.paxos.PaxosDefinitions.{must}
use Rattle.sc_node_table.specs.NodeDefinitions.{ReplicaState, Place, next, settled, may_offer, taken_at, under_way, is_idle, Found, is_act, from_backlog, from_acts, from_queues, found_by, found_for, offered, pumped_from, StaysSettled}

-- a replica but for what is in flight and the queues
abbrev pub frame : ReplicaState → ReplicaState
frame r = record r { leader = record r.leader { flights = [] }; acts = []; backlog = [] }

backlog-frame : (place : Place) → frame (from_backlog place).1.0 ≡ frame place.0
unfolding from_backlog
backlog-frame place = refl

either-frame : (b : Bool) (x y : Found) (r : ReplicaState) → frame x.1.0 ≡ frame r → frame y.1.0 ≡ frame r → frame (if b then x else y).1.0 ≡ frame r
either-frame true x y r p q = p
either-frame false x y r p q = q

acts-frame : (acts : List Command) (place : Place) → frame (from_acts acts place).1.0 ≡ frame place.0
acts-frame [] place = backlog-frame place
acts-frame (act ∷ acts) place = either-frame (is_idle place.0) _ _ place.0 refl refl

queues-frame : (place : Place) → frame (from_queues place).1.0 ≡ frame place.0
unfolding from_queues
queues-frame place = either-frame (list_any is_act (under_way place.0)) _ (from_acts place.0.acts place) place.0 refl (acts-frame place.0.acts place)

by-frame : (what : Must Command) (place : Place) → frame (found_by what place).1.0 ≡ frame place.0
by-frame (Value command) place = refl
by-frame Gap place = refl
by-frame Free place = queues-frame place

found-frame : (slot : ℕ) (place : Place) → frame (found_for slot place).1.0 ≡ frame place.0
unfolding found_for
found-frame slot place = by-frame (must slot place.0.leader) place

offered-frame : (slot : ℕ) (set : List ℕ) (command : Command) (place : Place) → frame (offered slot set command place).0 ≡ frame place.0
unfolding offered
offered-frame slot set command place = refl

-- one slot, by what is tested and found
slot-frame : (taken may : Bool) (o : Option Command) (place next : Place) (on : Place → Place) (put : Command → Place)
    → ((p : Place) → frame (on p).0 ≡ frame p.0) → frame next.0 ≡ frame place.0 → ((command : Command) → frame (put command).0 ≡ frame place.0)
    → frame (if taken then on place else if may then elim o [ None ↦ next | Some command ↦ on (put command) ] else place).0 ≡ frame place.0
slot-frame true may o place next on put rest kept offers = rest place
slot-frame false true None place next on put rest kept offers = kept
slot-frame false true (Some command) place next on put rest kept offers = rest (put command) ∙ offers command
slot-frame false false o place next on put rest kept offers = refl

pumped_from-frame : (slot : ℕ) (sets : List (List ℕ)) (place : Place) → frame (pumped_from slot sets place).0 ≡ frame place.0
unfolding pumped_from
pumped_from-frame slot [] place = refl
pumped_from-frame slot (set ∷ sets) place =
    let found = found_for slot place in
    slot-frame (is_some (taken_at place.0 slot)) (may_offer place.0 set) found.0 place found.1
    (λ p. pumped_from (slot + 1) sets p) (λ command. offered slot set command found.1)
    (λ p. pumped_from-frame (slot + 1) sets p) (found-frame slot place)
    (λ command. offered-frame slot set command found.1 ∙ found-frame slot place)

-- a replica that is settled stays settled
pub pumped_from-settled : StaysSettled
pumped_from-settled slot sets place = ap settled (pumped_from-frame slot sets place)
