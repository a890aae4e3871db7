-- What is ready grows shorter with each execution.
use Rattle.std.proofs.Common.{◌≡◌, ℕ, ◌<◌, ◌≤◌, ◌==◌, Bool, true, false, List, [], ◌∷◌, length, Option, Some, None, arith, refl, ap, sym, ◌∙◌, if◌then◌else◌, ◌&&◌, ◌||◌, ◌^◌, ◌-◌, filter, not}
use Rattle.sc_words.specs.declared.commands.links.Route.{Route}
use Rattle.sc_words.specs.declared.commands.commands.Command.{Command}
use Rattle.sc_words.specs.declared.commands.commands.Command.TheVariants.{Noop, Call, Join, Leave, Split, Begin, Prepared, RecordVote, GiveUp, Finish, Watched, RecordWatch}
use Rattle.sc_words.specs.declared.commands.effects.Effect.{Effect}
use Rattle.sc_words.specs.declared.commands.orders.OrderResult.{OrderResult}
use Rattle.sc_mail.specs.declared.bodies.AnswerBody.{AnswerBody}
use Rattle.sc_mail.specs.declared.bodies.Mail.{Mail}
use Rattle.sc_base.specs.Definitions.{is_member, least_of}
use Rattle.sc_group_table.specs.machine.MachineDefinitions.{applied}
use Rattle.sc_node_table.specs.NodeDefinitions.{at_slot, without_slot, ReplicaState, Place, childless, next, members, flying, forgotten, install_to, asked_to_promise, welcomed_all, put_back, same_command, elected, ended, before_of, spoken, entered, answer_of, announced, answered_or_put_back, effect_reported, order_result, learnt_to, welcomed, slot_lost, landed, left, left_gone, is_among, looked, looked_for, executed_one, next_child, has_room, next_ready, ending, executed_ready}
use Rattle.sc_node_table.specs.declared.Before.{Before}

-- taking a slot out makes the list shorter
shorter_by : {X : Type 0} (f : ℕ × X) (es : List (ℕ × X)) (slot : ℕ) (x : X) (b : Bool) → (at_slot es slot ≡ Some x → length (without_slot es slot) < length es)
    → (if b then Some f.1 else at_slot es slot) ≡ Some x → length (if b then es else f ∷ without_slot es slot) < length (f ∷ es)
shorter_by f es slot x true rest e = omega arith
shorter_by f es slot x false rest e = let less : length (without_slot es slot) < length es = rest e in omega arith

-- one value less
pub without_slot-shorter : {X : Type 0} (es : List (ℕ × X)) (slot : ℕ) (x : X) → at_slot es slot ≡ Some x → length (without_slot es slot) < length es
without_slot-shorter [] slot x e = absurd (cc)
without_slot-shorter (f ∷ es) slot x e = shorter_by f es slot x (f.0 == slot) (without_slot-shorter es slot x) e

-- a bound of both is one of the choice
either : (b : Bool) (x y : Place) (n : ℕ) → length x.0.ready ≤ n → length y.0.ready ≤ n → length (if b then x else y).0.ready ≤ n
either true x y n p q = p
either false x y n p q = q

put_back-ready : (command : Command) (r : ReplicaState) → (put_back command r).ready ≡ r.ready
unfolding put_back
put_back-ready Noop r = refl
put_back-ready (Call client seq op) r = refl
put_back-ready (Join node order) r = refl
put_back-ready (Leave node order) r = refl
put_back-ready (Split at child order) r = refl
put_back-ready (Begin tx body order) r = refl
put_back-ready (Prepared tx offer) r = refl
put_back-ready (RecordVote tx vote by) r = refl
put_back-ready (GiveUp tx) r = refl
put_back-ready (Finish tx outcome) r = refl
put_back-ready (Watched tx watch) r = refl
put_back-ready (RecordWatch tx vote by) r = refl

call-ready : (answer : Option AnswerBody) (command : Command) (place : Place) → (answered_or_put_back answer command place).0.ready ≡ place.0.ready
unfolding answered_or_put_back
call-ready (Some answer) Noop place = refl
call-ready (Some answer) (Call client seq op) place = refl
call-ready (Some answer) (Join node order) place = refl
call-ready (Some answer) (Leave node order) place = refl
call-ready (Some answer) (Split at child order) place = refl
call-ready (Some answer) (Begin tx body order) place = refl
call-ready (Some answer) (Prepared tx offer) place = refl
call-ready (Some answer) (RecordVote tx vote by) place = refl
call-ready (Some answer) (GiveUp tx) place = refl
call-ready (Some answer) (Finish tx outcome) place = refl
call-ready (Some answer) (Watched tx watch) place = refl
call-ready (Some answer) (RecordWatch tx vote by) place = refl
call-ready None Noop place = refl
call-ready None (Call client seq op) place = put_back-ready (Call client seq op) place.0
call-ready None (Join node order) place = refl
call-ready None (Leave node order) place = refl
call-ready None (Split at child order) place = refl
call-ready None (Begin tx body order) place = refl
call-ready None (Prepared tx offer) place = refl
call-ready None (RecordVote tx vote by) place = refl
call-ready None (GiveUp tx) place = refl
call-ready None (Finish tx outcome) place = refl
call-ready None (Watched tx watch) place = refl
call-ready None (RecordWatch tx vote by) place = refl

effect-ready : (result : Option OrderResult) (command : Command) (place : Place) → (effect_reported result command place).0.ready ≡ place.0.ready
unfolding effect_reported
effect-ready None command place = refl
effect-ready (Some result) command place = refl

counted-ready : (counted : Bool) (answer : Option AnswerBody) (command : Command) (place : Place) → (if counted then answered_or_put_back answer command place else place).0.ready ≡ place.0.ready
counted-ready true answer command place = call-ready answer command place
counted-ready false answer command place = refl

announced-ready : (counted : Bool) (effect : Effect) (command : Command) (place : Place) → (announced counted effect command place).0.ready ≡ place.0.ready
unfolding announced
announced-ready counted effect command place =
    effect-ready (order_result command effect) command (if counted then answered_or_put_back (answer_of effect) command place else place)
    ∙ counted-ready counted (answer_of effect) command place

-- the members that are added get mails, and no more
asked-same : (b : Bool) (place other : Place) → other.0 ≡ place.0 → (if b then place else other).0 ≡ place.0
asked-same true place other e = refl
asked-same false place other e = e

one_welcomed-same : (node : ℕ) (place : Place) → (asked_to_promise node (install_to node place)).0 ≡ place.0
unfolding install_to
one_welcomed-same node place = asked-same place.0.leader.is_first (install_to node place) _ refl

welcomed_all-same : (nodes : List ℕ) (place : Place) → (welcomed_all nodes place).0 ≡ place.0
unfolding welcomed_all
welcomed_all-same [] place = refl
welcomed_all-same (node ∷ nodes) place = welcomed_all-same nodes (asked_to_promise node (install_to node place)) ∙ one_welcomed-same node place

welcomed-ready : (counted : Bool) (before : List ℕ) (place : Place) → (welcomed counted before place).0.ready ≡ place.0.ready
unfolding welcomed
welcomed-ready true before place = ap (λ (r : ReplicaState). r.ready) (welcomed_all-same (filter (λ node. not (is_member before node)) (members place.0)) place)
welcomed-ready false before place = refl

spoken-ready : (counted : Bool) (before : Before) (effect : Effect) (command : Command) (place : Place) → (spoken counted before effect command place).0.ready ≡ place.0.ready
unfolding spoken
spoken-ready counted before effect command place = refl

learnt-ready : (counted : Bool) (before : List ℕ) (slot : ℕ) (command : Command) (place : Place) → (learnt_to counted before slot command place).0.ready ≡ place.0.ready
unfolding learnt_to
learnt-ready true before slot command place = refl
learnt-ready false before slot command place = refl

one_of-ready : (b : Bool) (command : Command) (r : ReplicaState) → (if b then r else put_back command r).ready ≡ r.ready
one_of-ready true command r = refl
one_of-ready false command r = put_back-ready command r

lost-ready : (counted : Bool) (command : Command) (other : Option Command) (r : ReplicaState) → (slot_lost counted command other r).ready ≡ r.ready
lost-ready counted command None r = refl
lost-ready counted command (Some other) r = one_of-ready (counted || same_command other command) other r

elected-ready : (place : Place) → length (elected place).0.ready ≤ length place.0.ready
unfolding elected
elected-ready place = either (place.0.top.round == 2 ^ 32 - 1) place _ (length place.0.ready) (omega arith) (omega arith)

gone-ready : (gone : Option Route) (place : Place) → length (left_gone gone place).0.ready ≤ length place.0.ready
unfolding ended
gone-ready (Some into) place = omega arith
gone-ready None place = either (is_member (members place.0) place.0.me) place _ _ (omega arith) (omega arith)

left-ready : (place : Place) → length (left place).0.ready ≤ length place.0.ready
unfolding left
left-ready place = either place.0.running (left_gone place.0.group.core.gone place) place _ (gone-ready place.0.group.core.gone place) (omega arith)

looked_for-ready : (gone : Option Route) (place : Place) → length (looked_for gone place).0.ready ≤ length place.0.ready
looked_for-ready (Some into) place = omega arith
looked_for-ready None place =
    let hinted : Place = (record place.0 { hint = Some (least_of (members place.0)) }, place.1) in
    let mine : Place = (record place.0 { hint = Some place.0.me }, place.1) in
    either (is_among (members place.0) place.0.hint) place _ _ (omega arith)
    (either (least_of (members place.0) == place.0.me) (elected mine) hinted _ (elected-ready mine) (omega arith))

looked-ready : (place : Place) → length (looked place).0.ready ≤ length place.0.ready
unfolding looked
looked-ready place = either place.0.running place (looked_for place.0.group.core.gone place) _ (omega arith) (looked_for-ready place.0.group.core.gone place)

entered-ready : (command : Command) (r : ReplicaState) → (entered command r).ready ≡ r.ready
unfolding entered forgotten
entered-ready command r = refl

-- 4 takes the slot away; what comes after it adds none
landed-ready : (counted : Bool) (slot : ℕ) (command : Command) (place : Place) → (landed counted slot command place).0.ready ≡ without_slot place.0.ready slot
unfolding landed
landed-ready counted slot command place = lost-ready counted command (flying place.0 slot) _

-- an execution makes nothing ready
pub one-ready : (counted : Bool) (command : Command) (place : Place) → length (executed_one counted command place).0.ready ≤ length (without_slot place.0.ready (next place.0))
unfolding executed_one
one-ready counted command place =
    let place0 : Place = (entered command place.0, place.1) in
    let effect = (applied place.0.group command).1 in
    let before = before_of place.0.group.core in
    let place1 = announced counted effect command place0 in
    let place2 = spoken counted before effect command place1 in
    let place3 = learnt_to counted (members place.0) (next place.0) command place2 in
    let place4 = welcomed counted (members place.0) place3 in
    let place5 = landed counted (next place.0) command place4 in
    let same : place5.0.ready ≡ without_slot place.0.ready (next place.0) =
    landed-ready counted (next place.0) command place4
    ∙ ap (λ es. without_slot es (next place.0))
    (welcomed-ready counted (members place.0) place3
    ∙ learnt-ready counted (members place.0) (next place.0) command place2
    ∙ spoken-ready counted before effect command place1
    ∙ announced-ready counted effect command place0
    ∙ entered-ready command place.0) in
    omega (arith, looked-ready (left place5), left-ready place5, ap length same)

-- after an execution from what is ready there is less of it
pub one-shorter : (command : Command) (place : Place) → next_ready place.0 ≡ Some command → length (executed_one true command place).0.ready < length place.0.ready
one-shorter command place e =
    omega (arith, one-ready true command place, without_slot-shorter place.0.ready (next place.0) command (ready_of place.0 e))
  where
    by_test : (b : Bool) (o : Option Command) → (if b then o else None) ≡ Some command → o ≡ Some command
    by_test true o e = e
    by_test false o e = absurd (cc)

    ready_of : (r : ReplicaState) → next_ready r ≡ Some command → at_slot r.ready (next r) ≡ Some command
    ready_of r e = by_test (r.running && has_room r) (at_slot r.ready (next r)) e

-- ---- the bound of step 7 decides nothing

stop_by : (o : Option Command) (es : List (ℕ × Command)) (place : Place) → o ≡ None
    → (elim o [ None ↦ childless place | Some command ↦ ending (next_child command place.0) (executed_ready es (executed_one true command place)) ]) ≡ childless place
stop_by None es place e = refl
stop_by (Some command) es place e = absurd (cc)

-- with nothing ready the list says nothing
executed_ready-stop : (es : List (ℕ × Command)) (place : Place) → next_ready place.0 ≡ None → executed_ready es place ≡ childless place
unfolding executed_ready
executed_ready-stop [] place e = refl
executed_ready-stop (f ∷ es) place e = stop_by (next_ready place.0) es place e

go_by : (o : Option Command) (es : List (ℕ × Command)) (place : Place) (command : Command) → o ≡ Some command
    → (elim o [ None ↦ childless place | Some command ↦ ending (next_child command place.0) (executed_ready es (executed_one true command place)) ]) ≡ ending (next_child command place.0) (executed_ready es (executed_one true command place))
go_by None es place command e = absurd (cc)
go_by (Some other) es place command e = let same : other ≡ command = cc in rw same

executed_ready-go : (f : ℕ × Command) (es : List (ℕ × Command)) (place : Place) (command : Command) → next_ready place.0 ≡ Some command
    → executed_ready (f ∷ es) place ≡ ending (next_child command place.0) (executed_ready es (executed_one true command place))
unfolding executed_ready
executed_ready-go f es place command e = go_by (next_ready place.0) es place command e

at-none : (es : List (ℕ × Command)) (slot : ℕ) → length es ≤ 0 → at_slot es slot ≡ None
at-none [] slot p = refl
at-none (e ∷ es) slot p = absurd (omega arith)

none-ready : (r : ReplicaState) → length r.ready ≤ 0 → next_ready r ≡ None
none-ready r p = by_test (r.running && has_room r) (at_slot r.ready (next r)) (at-none r.ready (next r) p)
  where
    by_test : (b : Bool) (o : Option Command) → o ≡ None → (if b then o else None) ≡ None
    by_test true o e = e
    by_test false o e = refl

both : (e f : ℕ × Command) (es fs : List (ℕ × Command)) (place : Place) (o : Option Command) → next_ready place.0 ≡ o
    → ((after : Place) → length after.0.ready ≤ length es → length after.0.ready ≤ length fs → executed_ready es after ≡ executed_ready fs after)
    → length place.0.ready ≤ length (e ∷ es) → length place.0.ready ≤ length (f ∷ fs) → executed_ready (e ∷ es) place ≡ executed_ready (f ∷ fs) place
both e f es fs place None is rest p q = executed_ready-stop (e ∷ es) place is ∙ sym (executed_ready-stop (f ∷ fs) place is)
both e f es fs place (Some command) is rest p q =
    let less : length (executed_one true command place).0.ready < length place.0.ready = one-shorter command place is in
    executed_ready-go e es place command is
    ∙ ap (ending (next_child command place.0)) (rest (executed_one true command place) (omega arith) (omega arith))
    ∙ sym (executed_ready-go f fs place command is)

-- any two bounds that are no shorter than what is ready give the same
pub executed_ready-enough : (es fs : List (ℕ × Command)) (place : Place) → length place.0.ready ≤ length es → length place.0.ready ≤ length fs
    → executed_ready es place ≡ executed_ready fs place
executed_ready-enough [] [] place p q = refl
executed_ready-enough [] (f ∷ fs) place p q = let none = none-ready place.0 p in executed_ready-stop [] place none ∙ sym (executed_ready-stop (f ∷ fs) place none)
executed_ready-enough (e ∷ es) [] place p q = let none = none-ready place.0 q in executed_ready-stop (e ∷ es) place none ∙ sym (executed_ready-stop [] place none)
executed_ready-enough (e ∷ es) (f ∷ fs) place p q = both e f es fs place (next_ready place.0) refl (executed_ready-enough es fs) p q

-- one execution, and then what is ready after it
pub executed_ready-next : (place : Place) (command : Command) → next_ready place.0 ≡ Some command
    → ending (next_child command place.0) (executed_ready (executed_one true command place).0.ready (executed_one true command place)) ≡ executed_ready place.0.ready place
executed_ready-next place command e =
    let after = executed_one true command place in
    let less : length after.0.ready < length place.0.ready = one-shorter command place e in
    ap (ending (next_child command place.0)) (executed_ready-enough after.0.ready place.0.ready after (omega arith) (omega arith))
    ∙ sym (executed_ready-go (0, Noop) place.0.ready place command e)
    ∙ executed_ready-enough ((0, Noop) ∷ place.0.ready) place.0.ready place (omega arith) (omega arith)

-- with nothing ready at the next slot, nothing is executed
pub executed_ready-none : (place : Place) → next_ready place.0 ≡ None → executed_ready place.0.ready place ≡ childless place
executed_ready-none place e = executed_ready-stop place.0.ready place e

-- ---- the same for a turn of the loop

-- what is ready is executed, and then what is ready after it
pub turn-next : (r after : ReplicaState) (mails more : List Mail) (command : Command) → next_ready r ≡ Some command → (after, more) ≡ executed_one true command (r, mails)
    → ending (next_child command r) (executed_ready after.ready (after, more)) ≡ executed_ready r.ready (r, mails)
turn-next r after mails more command e is =
    ap (λ (place : Place). ending (next_child command r) (executed_ready place.0.ready place)) is ∙ executed_ready-next (r, mails) command e

-- less is ready after an execution
pub turn-shorter : (r after : ReplicaState) (mails more : List Mail) (command : Command) → next_ready r ≡ Some command → (after, more) ≡ executed_one true command (r, mails)
    → length after.ready < length r.ready
turn-shorter r after mails more command e is =
    let same : length after.ready ≡ length (executed_one true command (r, mails)).0.ready = ap (λ (place : Place). length place.0.ready) is in
    omega (arith, one-shorter command (r, mails) e)
