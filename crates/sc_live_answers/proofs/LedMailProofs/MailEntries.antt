-- A mail that brings no state takes a replica's group on by entries, and makes their children.
use Rattle.std.proofs.Common.{◌≡◌, ◌⊎◌, ℕ, suc, ◌+◌, ◌-◌, ◌^◌, ◌&&◌, nat_lt, eqb, Bool, true, false, cond, List, [], ◌∷◌, ◌++◌, length, Option, Some, None, inl, inr, refl, ◌∙◌, ap, subst, arith}
use Rattle.std.proofs.lemmas.Bool.{cond_both, eqb-true, eq-eqb, and_parts}
use Rattle.sc_node_table.specs.Values.{Ballot, Command, Base, Effect, AnswerBody, Mail, MailBody, Request, Answer, Prepare, Promise, Accept, Accepted, Nack, Learn, Ask, Install, TxPrepare, TxVote, TxOutcome, TxElsewhere, TxWatch, TxWatched, Told, Counted, Chosen, NotYet}
use Rattle.sc_group_table.specs.machine.MachineDefinitions.{child_by, Group, state_after, applied}
use Rattle.sc_words.specs.paxos.PaxosDefinitions.{LeaderState, without_flight_at, counted, AcceptorState}
use Rattle.sc_node_table.specs.NodeDefinitions.{elected, ended, entered, announced, learnt_to, welcomed, landed, left, looked, executed_one, child_at, next_child, has_room, next_ready, ending, executed_ready, executed, sent, pumped, ReplicaState, Place, Executed, childless, name_of, next, members, flying, set_at, last_slot, forgotten, learn_row, mailed, with_slot, without_slot, before_of, spoken, leads, readied, vote_tallied, voted, accepted_row}
use Rattle.sc_law_walks.proofs.WalkLemmas.{entered_ready, entered_next, either_way, grows}
use Rattle.sc_live_steps.proofs.ExecutionParts.{entry_reported, slot_lost_kept, leaving_kept, looking_kept}
use Rattle.sc_live_journals.proofs.RowsProofs.StillReplicas as beside
use Rattle.sc_live_answers.proofs.ReplicasProofs.Parts.{pumps, prepare_rests, accept_rests, promise_rests, nack_rests, ask_rests}

-- the children that some entries make at a node, from the group before them
abbrev pub kids_of : ℕ → Group → List Command → List Base
kids_of me group [] = []
kids_of me group (command ∷ log) = child_at me (child_by group command) ++ kids_of me (applied group command).0 log

-- ---- one entry

module _ (g : Group) (me n : ℕ) where
  -- a replica of this number with this group, and this next slot
  abbrev pub At : ReplicaState → Type 0
  At r = (r.group ≡ g) × (r.me ≡ me) × (next r ≡ n)

-- an entry that is executed takes the group on, and leaves what was ready beside it, or nothing
pub record IsOne (r : ReplicaState) (command : Command) (after : ReplicaState) : Type 0 where
  pub fact : At (applied r.group command).0 r.me (next r + 1) after
  pub ready : (after.ready ≡ without_slot r.ready (next r)) ⊎ (after.ready ≡ [])

landed_is : (c : Bool) (slot : ℕ) (command : Command) (g : Group) (me n : ℕ) (rs : List (ℕ × Command)) (place : Place) → At g me n place.0 × (place.0.ready ≡ rs)
    → At g me n (landed c slot command place).0 × ((landed c slot command place).0.ready ≡ without_slot rs slot)
unfolding landed
landed_is c slot command g me n rs (r, mails) k =
    slot_lost_kept (λ x. At g me n x × (x.ready ≡ without_slot rs slot)) (λ x acts backlog q. q) c command (flying r slot) (record r { leader = without_flight_at slot r.leader; ready = without_slot r.ready slot })
    (k.0, ap (λ (es : List (ℕ × Command)). without_slot es slot) k.1)

-- it then leads on, or nothing is ready any more
module _ (g : Group) (me n : ℕ) (rs : List (ℕ × Command)) where
  abbrev Left : Place → Type 0
  Left place = At g me n place.0 × ((place.0.ready ≡ rs) ⊎ (place.0.ready ≡ []))

  ended_left : (hint : Option ℕ) (answer : AnswerBody) (place : Place) → Left place → Left (ended hint answer place)
  unfolding ended
  ended_left hint answer (r, mails) k = (k.0, inr refl)

  elected_left : (place : Place) → Left place → Left (elected place)
  unfolding elected
  elected_left (r, mails) k = either_way Left (eqb r.top.round (2 ^ 32 - 1)) _ _ k (k.0, inr refl)

  goes_left : (place : Place) → Left place → Left (looked (left place))
  goes_left place k = looking_kept Left elected_left (λ hint r mails q. q) (left place) (leaving_kept Left ended_left place k)

entered_at : (command : Command) (r : ReplicaState) → At (applied r.group command).0 r.me (next r + 1) (entered command r)
unfolding entered forgotten
entered_at command r = (refl, refl, entered_next command r)

pub one_is : (c : Bool) (command : Command) (r : ReplicaState) (mails : List Mail) → IsOne r command (executed_one c command (r, mails)).0
unfolding executed_one
one_is c command r mails =
    let g : Group = (applied r.group command).0 in
    let n : ℕ = next r + 1 in
    let effect : Effect = (applied r.group command).1 in
    let place0 : Place = (entered command r, mails) in
    let told : Place = welcomed c (members r) (learnt_to c (members r) (next r) command (spoken c (before_of r.group.core) effect command (announced c effect command place0))) in
    let k : At g r.me n told.0 × (told.0.ready ≡ r.ready) =
    entry_reported (λ x. At g r.me n x × (x.ready ≡ r.ready)) (λ x acts backlog q. q) c (before_of r.group.core) effect (members r) (next r) command place0 (entered_at command r, entered_ready command r) in
    let after = landed_is c (next r) command g r.me n r.ready told k in
    let all = goes_left g r.me n (without_slot r.ready (next r)) (landed c (next r) command told) (after.0, inl after.1) in
    record { fact = all.0; ready = all.1 }

-- ---- all entries

-- A step takes a replica's group on by some entries, makes their children, and goes on by as many slots.
pub record IsLogged (r : ReplicaState) (e : Executed) : Type 0 where
  pub log : List Command
  pub fact : At (state_after r.group log) r.me (next r + length log) e.0.0
  pub kids : e.1 ≡ kids_of r.me r.group log

-- a pump behind it
pump_at : (g : Group) (me n : ℕ) (place : Place) → At g me n place.0 → At g me n (pumped place).0
pump_at g me n place k = pumps (At g me n) (λ x acceptor hint top running leader ready acts backlog waits q. q) place k

-- one entry before others
entry_before : (r : ReplicaState) (command : Command) (x : ReplicaState) (e : Executed) → IsOne r command x → IsLogged x e → IsLogged r (ending (next_child command r) e)
entry_before r command x e one l = record {
  log = command ∷ l.log;
  fact = pump_at (state_after r.group (command ∷ l.log)) r.me (next r + suc (length l.log)) e.0 (
    l.fact.0 ∙ ap (λ g. state_after g l.log) one.fact.0,
    l.fact.1 ∙ one.fact.1,
    (let here = l.fact.2 in let before = one.fact.2 in omega (arith, here, before)),
  );
  kids = ap (λ (made : List Base). next_child command r ++ made) (l.kids ∙ (ap (λ m. kids_of m x.group l.log) one.fact.1 ∙ ap (λ g. kids_of r.me g l.log) one.fact.0));
}

none_logged : (place : Place) → IsLogged place.0 (childless place)
none_logged place = record { log = []; fact = (refl, refl, omega arith); kids = refl }

ready_by : (es : List (ℕ × Command)) (place : Place) (o : Option Command) → ((p : Place) → IsLogged p.0 (executed_ready es p))
    → IsLogged place.0 (elim o [ None ↦ childless place | Some command ↦ ending (next_child command place.0) (executed_ready es (executed_one true command place)) ])
ready_by es place None more = none_logged place
ready_by es (r, mails) (Some command) more = entry_before r command (executed_one true command (r, mails)).0 (executed_ready es (executed_one true command (r, mails))) (one_is true command r mails) (more (executed_one true command (r, mails)))

ready_logged : (es : List (ℕ × Command)) (place : Place) → IsLogged place.0 (executed_ready es place)
unfolding executed_ready
ready_logged [] place = none_logged place
ready_logged (e ∷ es) place = ready_by es place (next_ready place.0) (λ p. ready_logged es p)

-- at most one entry
abbrev pub IsShort : List Command → Type 0
IsShort log = (log ≡ []) ⊎ ((command : Command) × (log ≡ command ∷ []))

-- nothing that is ready is nothing that is executed
ready_log_none : (es : List (ℕ × Command)) (place : Place) → es ≡ [] → (ready_logged es place).log ≡ []
unfolding ready_logged none_logged
ready_log_none [] place e = refl
ready_log_none (x ∷ es) place e = cc

-- an execution: its entry first, and nothing else, where nothing else was ready
executed_logged : (c : Bool) (command : Command) (r : ReplicaState) (mails : List Mail) → (l : IsLogged r (executed c command (r, mails))) × (without_slot r.ready (next r) ≡ [] → IsShort l.log)
unfolding executed entry_before
executed_logged c command r mails =
    let after : Place = executed_one c command (r, mails) in
    let one : IsOne r command after.0 = one_is c command r mails in
    (entry_before r command after.0 (executed_ready after.0.ready after) one (ready_logged after.0.ready after), λ none. inr (command, ap (λ (log : List Command). command ∷ log) (ready_log_none after.0.ready after (elim one.ready [ inl e ↦ e ∙ none | inr e ↦ e ]))))

-- ---- mail

-- a step that takes the group on by some entries, of which there is one at most, if nothing was ready
abbrev pub GoesOn : ReplicaState → Executed → Type 0
GoesOn r e = (l : IsLogged r e) × (r.ready ≡ [] → IsShort l.log)

-- what leaves the group and the log is no entry
rest_goes : (r : ReplicaState) (after : Place) → At r.group r.me (next r) after.0 → GoesOn r (childless after)
rest_goes r after k = (record { log = []; fact = (k.0, k.1, (let same = k.2 in omega (arith, same))); kids = refl }, λ none. inl refl)

-- what leaves the group and the log is no entry, whatever else changes of a replica
other_goes : (r x : ReplicaState) (e : Executed) → x.group ≡ r.group → x.me ≡ r.me → next x ≡ next r → (l : IsLogged x e) × (r.ready ≡ [] → IsShort l.log) → GoesOn r e
other_goes r x e g m n l = (
  record {
    log = l.0.log;
    fact = (l.0.fact.0 ∙ ap (λ y. state_after y l.0.log) g, l.0.fact.1 ∙ m, (let here = l.0.fact.2 in omega (arith, here, n)));
    kids = l.0.kids ∙ (ap (λ y. kids_of y x.group l.0.log) m ∙ ap (λ y. kids_of r.me y l.0.log) g);
  },
  l.1,
)

-- a command that became ready at the next slot is alone, if nothing was
ready_alone : (slot : ℕ) (command : Command) (ready : List (ℕ × Command)) → ready ≡ [] → without_slot (with_slot ready slot command) slot ≡ []
ready_alone slot command ready e =
    ap (λ (es : List (ℕ × Command)). without_slot (with_slot es slot command) slot) e ∙ ap (λ b. cond b [] ((slot, command) ∷ [])) (eq-eqb slot slot refl)

readied_goes : (slot : ℕ) (command : Command) (leader : LeaderState Command) (r : ReplicaState) (mails : List Mail) → GoesOn r (readied slot command (record r { leader = leader }, mails))
unfolding readied
readied_goes slot command leader r mails =
    let x : ReplicaState = record r { leader = leader; ready = with_slot r.ready slot command } in
    cond_both (eqb slot (next r) && has_room (record r { leader = leader })) (executed true command (x, mails)) (childless (x, mails)) (GoesOn r)
    (λ t. (let same : slot ≡ next r = eqb-true slot (next r) (and_parts (eqb slot (next r)) (has_room (record r { leader = leader })) t).0 in
    let l = executed_logged true command x mails in
    other_goes r x (executed true command (x, mails)) refl refl refl (l.0, λ none. l.1 (subst (λ n. without_slot (with_slot r.ready slot command) n ≡ []) same (ready_alone slot command r.ready none)))))
    (λ _. rest_goes r (x, mails) (refl, refl, refl))

tallied_goes : (slot : ℕ) (p : Counted Command × LeaderState Command) (r : ReplicaState) (mails : List Mail) → GoesOn r (vote_tallied slot p (r, mails))
tallied_goes slot (Chosen command, leader) r mails = readied_goes slot command leader r mails
tallied_goes slot (NotYet count, leader) r mails = rest_goes r (record r { leader = leader }, mails) (refl, refl, refl)

voted_goes : (from : ℕ) (ballot : Ballot) (slot : ℕ) (set : Option (List ℕ)) (r : ReplicaState) (mails : List Mail) → GoesOn r (voted from ballot slot set (r, mails))
voted_goes from ballot slot None r mails = rest_goes r (r, mails) (refl, refl, refl)
voted_goes from ballot slot (Some set) r mails = tallied_goes slot (counted from ballot slot set r.leader) r mails

accepted_goes : (from : ℕ) (ballot : Ballot) (slot : ℕ) (r : ReplicaState) (mails : List Mail) → GoesOn r (accepted_row from ballot slot (r, mails))
unfolding accepted_row
accepted_goes from ballot slot r mails = either_way (GoesOn r) (leads ballot r) (voted from ballot slot (set_at slot r) (r, mails)) (childless (r, mails)) (voted_goes from ballot slot (set_at slot r) r mails) (rest_goes r (r, mails) (refl, refl, refl))

learn_goes : (from slot : ℕ) (command : Command) (r : ReplicaState) (mails : List Mail) → GoesOn r (learn_row from slot command (r, mails))
unfolding learn_row
learn_goes from slot command r mails =
    either_way (GoesOn r) (nat_lt last_slot slot) _ _ (rest_goes r (r, mails) (refl, refl, refl))
    (either_way (GoesOn r) (eqb slot (next r)) (executed false command (r, mails)) _
    (let l = executed_logged false command r mails in (l.0, λ none. l.1 (ap (λ (es : List (ℕ × Command)). without_slot es (next r)) none)))
    (either_way (GoesOn r) (nat_lt (next r) slot) (childless (r, sent r.me from (Ask (name_of r) (next r)) mails)) (childless (r, mails)) (rest_goes r (r, sent r.me from (Ask (name_of r) (next r)) mails) (refl, refl, refl)) (rest_goes r (r, mails) (refl, refl, refl))))

-- a mail that brings no state
abbrev pub IsStateless : MailBody → Type 0
IsStateless (Install group slot base sets) = ⊥
IsStateless (Request group client seq op) = Unit {0}
IsStateless (Answer group seq answer) = Unit {0}
IsStateless (Prepare group ballot from_slot) = Unit {0}
IsStateless (Promise group ballot reports) = Unit {0}
IsStateless (Accept group ballot slot command) = Unit {0}
IsStateless (Accepted group ballot slot) = Unit {0}
IsStateless (Nack group promised) = Unit {0}
IsStateless (Learn group slot command) = Unit {0}
IsStateless (Ask group from_slot) = Unit {0}
IsStateless (TxPrepare tx offer) = Unit {0}
IsStateless (TxVote tx coord part vote) = Unit {0}
IsStateless (TxOutcome tx part outcome) = Unit {0}
IsStateless (TxElsewhere tx coord hint) = Unit {0}
IsStateless (TxWatch tx watch) = Unit {0}
IsStateless (TxWatched tx coord part vote) = Unit {0}
IsStateless (Told order result) = Unit {0}

-- a mail by which nothing is executed
abbrev pub IsRest : MailBody → Type 0
IsRest (Accepted group ballot slot) = ⊥
IsRest (Learn group slot command) = ⊥
IsRest (Install group slot base sets) = ⊥
IsRest (Request group client seq op) = Unit {0}
IsRest (Answer group seq answer) = Unit {0}
IsRest (Prepare group ballot from_slot) = Unit {0}
IsRest (Promise group ballot reports) = Unit {0}
IsRest (Accept group ballot slot command) = Unit {0}
IsRest (Nack group promised) = Unit {0}
IsRest (Ask group from_slot) = Unit {0}
IsRest (TxPrepare tx offer) = Unit {0}
IsRest (TxVote tx coord part vote) = Unit {0}
IsRest (TxOutcome tx part outcome) = Unit {0}
IsRest (TxElsewhere tx coord hint) = Unit {0}
IsRest (TxWatch tx watch) = Unit {0}
IsRest (TxWatched tx coord part vote) = Unit {0}
IsRest (Told order result) = Unit {0}

module _ (r : ReplicaState) (mails : List Mail) where
  abbrev P : ReplicaState → Type 0
  P = At r.group r.me (next r)

  any : (x : ReplicaState) (acceptor : AcceptorState Command) (hint : Option ℕ) (top : Ballot) (running : Bool) (leader : LeaderState Command) (ready : List (ℕ × Command)) (acts backlog : List Command) (waits : ℕ) → P x
      → P (record x { acceptor = acceptor; hint = hint; top = top; running = running; leader = leader; ready = ready; acts = acts; backlog = backlog; waits = waits })
  any x acceptor hint top running leader ready acts backlog waits q = q

  here : P r
  here = (refl, refl, refl)

  beside_rests : (from : ℕ) (body : MailBody) → beside.IsBeside body → P (mailed from body (r, mails)).0.0
  beside_rests from body b =
      beside.beside_keeps (λ place. P place.0) (λ x ms acts backlog q. pumps P any (record x { acts = acts; backlog = backlog }, ms) q) (λ x. grows x.me (λ ms. P x) (λ ms m q. q)) from body (r, mails) b here

  pub mailed_goes : (from : ℕ) (body : MailBody) → IsStateless body → GoesOn r (mailed from body (r, mails))
  unfolding mailed
  mailed_goes from (Install group slot base sets) s = absurd s
  mailed_goes from (Accepted group ballot slot) s = accepted_goes from ballot slot r mails
  mailed_goes from (Learn group slot command) s = learn_goes from slot command r mails
  mailed_goes from (Prepare group ballot from_slot) s = rest_goes r _ (prepare_rests P any from ballot from_slot (r, mails) here)
  mailed_goes from (Promise group ballot reports) s = rest_goes r _ (promise_rests P any from ballot reports (r, mails) here)
  mailed_goes from (Accept group ballot slot command) s = rest_goes r _ (accept_rests P any from ballot slot command (r, mails) here)
  mailed_goes from (Nack group ballot) s = rest_goes r _ (nack_rests P any ballot (r, mails) here)
  mailed_goes from (Ask group from_slot) s = rest_goes r _ (ask_rests P any from from_slot (r, mails) here)
  mailed_goes from body s = rest_goes r _ (beside_rests from body tt)

  -- where nothing is executed the group stays
  pub rest_leaves : (from : ℕ) (body : MailBody) → IsRest body → (mailed from body (r, mails)).0.0.group ≡ r.group
  unfolding mailed
  rest_leaves from (Accepted group ballot slot) s = absurd s
  rest_leaves from (Learn group slot command) s = absurd s
  rest_leaves from (Install group slot base sets) s = absurd s
  rest_leaves from (Prepare group ballot from_slot) s = (prepare_rests P any from ballot from_slot (r, mails) here).0
  rest_leaves from (Promise group ballot reports) s = (promise_rests P any from ballot reports (r, mails) here).0
  rest_leaves from (Accept group ballot slot command) s = (accept_rests P any from ballot slot command (r, mails) here).0
  rest_leaves from (Nack group ballot) s = (nack_rests P any ballot (r, mails) here).0
  rest_leaves from (Ask group from_slot) s = (ask_rests P any from from_slot (r, mails) here).0
  rest_leaves from body s = (beside_rests from body tt).0
