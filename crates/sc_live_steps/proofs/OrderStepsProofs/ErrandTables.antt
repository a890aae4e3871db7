-- What a replica's table does with the mail of an order.
use Rattle.std.proofs.Common.{◌≡◌, ℕ, ◌&&◌, ◌||◌, not, eqb, Bool, true, false, cond, List, [], ◌∷◌, ◌++◌, Option, Some, None, refl, sym, ◌∙◌, ap, subst, append-nil}
use Rattle.std.specs.List.{list_any}
use Rattle.std.specs.Option.{option_map}
use Rattle.std.proofs.lemmas.Bool.{and_from, cond_both}
use Rattle.std.proofs.lemmas.List.{append_assoc}
use Rattle.sc_base.specs.Definitions.{same_draw}
use Rattle.sc_node_table.specs.Values.{Draw, Body, Offer, Watch, Command, Prepared, RecordVote, GiveUp, Finish, Watched, RecordWatch, Core, Lock, Free, Coordinating, Promised, Watching, Heard, Outcome, Past, Vote, TxPrepare, TxVote, TxOutcome, TxElsewhere, TxWatch, TxWatched, Flight}
use Rattle.sc_base.proofs.Lemmas.{same_name}
use Rattle.sc_words.specs.declared.commands.bodies.Body.TheVariants as At
use Rattle.sc_words.specs.declared.commands.votes.Past.TheVariants as Cast
use Rattle.sc_words.specs.declared.commands.votes.Vote.TheVariants as Says
use Rattle.sc_group_table.specs.machine.MachineDefinitions.{asks_watcher}
use Rattle.sc_node_table.specs.NodeDefinitions.{is_of_kind, has_act, act_queued, sent, pumped, question, asked_link, ReplicaState, Place, either, taken_at, taken_from, under_way, open_slots, name_of, listed, mailed, at_slot, standing_vote, sent_elsewhere, offered_by, offer_row, watched_by, watch_row, awaits_vote, awaits_watch, vote_queued, vote_met, vote_row, watch_queued, watch_met, watched_row, noted_outcome, is_bound, outcome_row, asked_next, elsewhere_row}
use Rattle.sc_words.specs.paxos.PaxosDefinitions.{flight_at}
use Rattle.sc_live_steps.specs.orders.OrderDefinitions.{Turn, is_watch, Asking, Bound, Question, Elsewhere, Work, Answers, Records, Ends, IsOnly, turn_of, bond_in, is_yes, is_cast_yes, work_by, works_in, works_flying, works_ready, works, errand_by, errands_for, Works, MayFile, TablesFile, TablesPass, TablesAskOn}
use Rattle.sc_live_steps.proofs.OrderStepsProofs.Errands.{one-errand}
use Rattle.sc_live_steps.proofs.OrderStepsProofs.LoneWorkPumps.{pumps-keep}

-- ---- what has no work has no command of any kind

kind_none : (act other : Command) → work_by other ≡ None → is_of_kind act other ≡ false
kind_none (Prepared tx offer) (Prepared other offer2) e = cc
kind_none (Prepared tx offer) _ e = refl
kind_none (RecordVote tx vote by) (RecordVote other vote2 by2) e = cc
kind_none (RecordVote tx vote by) _ e = refl
kind_none (GiveUp tx) (GiveUp other) e = cc
kind_none (GiveUp tx) _ e = refl
kind_none (Finish tx outcome) (Finish other outcome2) e = cc
kind_none (Finish tx outcome) _ e = refl
kind_none (Watched tx watch) (Watched other watch2) e = cc
kind_none (Watched tx watch) _ e = refl
kind_none (RecordWatch tx vote by) (RecordWatch other vote2 by2) e = cc
kind_none (RecordWatch tx vote by) _ e = refl
kind_none _ other e = refl

pub left_none : {X : Type 0} (xs ys : List X) → xs ++ ys ≡ [] → xs ≡ []
left_none [] ys e = refl
left_none (x ∷ xs) ys e = cc

pub right_none : {X : Type 0} (xs ys : List X) → xs ++ ys ≡ [] → ys ≡ []
right_none [] ys e = e
right_none (x ∷ xs) ys e = cc

listed_none : (o : Option Work) → listed o ≡ [] → o ≡ None
listed_none None e = refl
listed_none (Some work) e = cc

idle_kind : (act : Command) (commands : List Command) → works_in commands ≡ [] → list_any (is_of_kind act) commands ≡ false
idle_kind act [] e = refl
idle_kind act (command ∷ commands) e =
    ap (λ b. b || list_any (is_of_kind act) commands) (kind_none act command (listed_none (work_by command) (left_none (listed (work_by command)) (works_in commands) e)))
    ∙ idle_kind act commands (right_none (listed (work_by command)) (works_in commands) e)

-- what is there has no work
abbrev IsIdle : Option Command → Type 0
IsIdle None = Unit {0}
IsIdle (Some command) = work_by command ≡ None

-- what is in flight there has no work
abbrev IsIdleFlight : Option (Flight Command) → Type 0
IsIdleFlight None = Unit {0}
IsIdleFlight (Some flight) = work_by flight.value ≡ None

flight_idle : (flights : List (Flight Command)) (slot : ℕ) → works_flying flights ≡ [] → IsIdleFlight (flight_at slot flights)
flight_idle [] slot e = tt
flight_idle (flight ∷ flights) slot e =
    cond_both (eqb flight.slot slot) (Some flight) (flight_at slot flights) IsIdleFlight
    (λ t. listed_none (work_by flight.value) (left_none (listed (work_by flight.value)) (works_flying flights) e)) (λ t. flight_idle flights slot (right_none (listed (work_by flight.value)) (works_flying flights) e))

ready_idle : (ready : List (ℕ × Command)) (slot : ℕ) → works_ready ready ≡ [] → IsIdle (at_slot ready slot)
ready_idle [] slot e = tt
ready_idle (entry ∷ ready) slot e =
    cond_both (eqb entry.0 slot) (Some entry.1) (at_slot ready slot) IsIdle
    (λ t. listed_none (work_by entry.1) (left_none (listed (work_by entry.1)) (works_ready ready) e)) (λ t. ready_idle ready slot (right_none (listed (work_by entry.1)) (works_ready ready) e))

taken_idle : (flight : Option (Flight Command)) (ready : Option Command) → IsIdleFlight flight → IsIdle ready → IsIdle (either (option_map (λ (f : Flight Command). f.value) flight) ready)
taken_idle None ready f r = r
taken_idle (Some flight) ready f r = f

module _ (act : Command) (r : ReplicaState) (flying_none : works_flying r.leader.flights ≡ []) (ready_none : works_ready r.ready ≡ []) where
  taken_kind : (o : Option Command) (rest : List Command) → IsIdle o → list_any (is_of_kind act) (listed o ++ rest) ≡ list_any (is_of_kind act) rest
  taken_kind None rest i = refl
  taken_kind (Some command) rest i = ap (λ b. b || list_any (is_of_kind act) rest) (kind_none act command i)

  taken_kinds : (slots : List ℕ) → list_any (is_of_kind act) (taken_from r slots) ≡ false
  taken_kinds [] = refl
  taken_kinds (slot ∷ slots) =
      taken_kind (taken_at r slot) (taken_from r slots) (taken_idle (flight_at slot r.leader.flights) (at_slot r.ready slot) (flight_idle r.leader.flights slot flying_none) (ready_idle r.ready slot ready_none)) ∙ taken_kinds slots

pub works_more : (commands : List Command) (command : Command) → works_in (commands ++ command ∷ []) ≡ works_in commands ++ listed (work_by command)
works_more [] command = append-nil (listed (work_by command))
works_more (first ∷ commands) command = ap (λ l. listed (work_by first) ++ l) (works_more commands command) ∙ sym (append_assoc (listed (work_by first)) (works_in commands) (listed (work_by command)))

-- ---- what a leader takes

module _ (r : ReplicaState) (may : MayFile r) where
  pub acts_none : works_in r.acts ≡ []
  acts_none = left_none (works_in r.acts) (works_in r.backlog ++ (works_flying r.leader.flights ++ works_ready r.ready)) may.idle

  rest_none : works_in r.backlog ++ (works_flying r.leader.flights ++ works_ready r.ready) ≡ []
  rest_none = right_none (works_in r.acts) (works_in r.backlog ++ (works_flying r.leader.flights ++ works_ready r.ready)) may.idle

  pub calls_none : works_in r.backlog ≡ []
  calls_none = left_none (works_in r.backlog) (works_flying r.leader.flights ++ works_ready r.ready) rest_none

  pub under_none : works_flying r.leader.flights ++ works_ready r.ready ≡ []
  under_none = right_none (works_in r.backlog) (works_flying r.leader.flights ++ works_ready r.ready) rest_none

module _ (act : Command) (work : Work) (r : ReplicaState) (fact : work_by act ≡ Some work) (may : MayFile r) where
  none_of_kind : has_act act r ≡ false
  none_of_kind =
      ap (λ b. b || list_any (is_of_kind act) (under_way r)) (idle_kind act r.acts (acts_none r may))
      ∙ taken_kinds act r (left_none (works_flying r.leader.flights) (works_ready r.ready) (under_none r may)) (right_none (works_flying r.leader.flights) (works_ready r.ready) (under_none r may)) (open_slots r)

  abbrev filed : ReplicaState
  filed = record r { acts = r.acts ++ act ∷ [] }

  filed_work : works filed ≡ work ∷ []
  filed_work =
      ap (λ l. l ++ (works_in r.backlog ++ (works_flying r.leader.flights ++ works_ready r.ready))) (works_more r.acts act ∙ (ap (λ l. l ++ listed (work_by act)) (acts_none r may) ∙ ap listed fact))
      ∙ ap (λ l. work ∷ l) (rest_none r may)

  pub queued-files : Works (work ∷ []) [] r (act_queued act (r, []))
  unfolding act_queued
  queued-files = subst (λ x. Works (work ∷ []) [] r (pumped (x, []))) (sym (ap (λ b. cond b r filed) none_of_kind))
      (let w = pumps-keep (Some work) filed may.unbound filed_work in record { group = w.group; me = w.me; running = w.running; work = w.work; sends = w.sends })

-- ---- by the bond

pub watch_is : (core : Core) (body : Body) (heard : Option Heard) → asks_watcher body heard ≡ is_watch (turn_of core body heard)
watch_is core (At.Split at child) heard = refl
watch_is core _ None = refl
watch_is core _ (Some heard) = refl

module _ (core : Core) (tx asked : Draw) (turn : Turn) where
  awaits_participant : (lock : Lock) → bond_in lock core ≡ Asking tx asked turn → is_watch turn ≡ false → awaits_vote lock tx ≡ true
  awaits_participant Free e w = cc
  awaits_participant (Promised locked offer) e w = cc
  awaits_participant (Watching locked watch) e w = cc
  awaits_participant (Coordinating locked body order heard) e w =
      (let t : turn_of core body heard ≡ turn = cc in let l : locked ≡ tx = cc in
      and_from (same_draw locked tx) (not (asks_watcher body heard)) (same_name locked tx l) (ap not (watch_is core body heard ∙ (ap is_watch t ∙ w))))

  awaits_watcher : (lock : Lock) → bond_in lock core ≡ Asking tx asked turn → is_watch turn ≡ true → awaits_watch lock tx ≡ true
  awaits_watcher Free e w = cc
  awaits_watcher (Promised locked offer) e w = cc
  awaits_watcher (Watching locked watch) e w = cc
  awaits_watcher (Coordinating locked body order heard) e w =
      (let t : turn_of core body heard ≡ turn = cc in let l : locked ≡ tx = cc in
      and_from (same_draw locked tx) (asks_watcher body heard) (same_name locked tx l) (watch_is core body heard ∙ (ap is_watch t ∙ w)))

bound_by_lock : (core : Core) (tx : Draw) (lock : Lock) → bond_in lock core ≡ Bound tx → is_bound lock tx ≡ true
bound_by_lock core tx Free e = cc
bound_by_lock core tx (Coordinating locked body order heard) e = cc
bound_by_lock core tx (Promised locked offer) e = (let l : locked ≡ tx = cc in same_name locked tx l)
bound_by_lock core tx (Watching locked watch) e = (let l : locked ≡ tx = cc in same_name locked tx l)

-- ---- the rows

module _ (r : ReplicaState) where
  pub offer_is : (b : Bool) (from : ℕ) (tx : Draw) (offer : Offer) → r.running ≡ b → standing_vote r.group.core tx ≡ None → (mailed from (TxPrepare tx offer) (r, [])).0 ≡ cond b (act_queued (Prepared tx offer) (r, [])) (sent_elsewhere from tx offer.coord (r, []))
  unfolding mailed offer_row
  offer_is b from tx offer runs none = ap (λ o. offered_by o from tx offer (r, [])) none ∙ ap (λ x. cond x (act_queued (Prepared tx offer) (r, [])) (sent_elsewhere from tx offer.coord (r, []))) runs

  pub watch_row_is : (b : Bool) (from : ℕ) (tx : Draw) (watch : Watch) → r.running ≡ b → standing_vote r.group.core tx ≡ None → (mailed from (TxWatch tx watch) (r, [])).0 ≡ cond b (act_queued (Watched tx watch) (r, [])) (sent_elsewhere from tx watch.coord (r, []))
  unfolding mailed watch_row
  watch_row_is b from tx watch runs none = ap (λ o. watched_by o from tx watch (r, [])) none ∙ ap (λ x. cond x (act_queued (Watched tx watch) (r, [])) (sent_elsewhere from tx watch.coord (r, []))) runs

  vote_met_is : (from : ℕ) (tx part : Draw) (vote : Vote) → vote_met vote None from tx part (r, []) ≡ vote_queued from tx vote (r, [])
  vote_met_is from tx part (Says.Yes frozen) = refl
  vote_met_is from tx part (Says.No why) = refl

  vote_is : (from : ℕ) (tx coord part : Draw) (vote : Vote) → noted_outcome r.group.core tx ≡ None → (r.running && awaits_vote r.group.core.lock tx) ≡ true → (mailed from (TxVote tx coord part vote) (r, [])).0 ≡ act_queued (RecordVote tx vote from) (r, [])
  unfolding mailed vote_row
  vote_is from tx coord part vote none waits =
      ap (λ o. vote_met vote o from tx part (r, [])) none ∙ (vote_met_is from tx part vote ∙ ap (λ x. cond {A = Place} x (act_queued (RecordVote tx vote from) (r, [])) (r, [])) waits)

  watch_met_is : (from : ℕ) (tx part : Draw) (vote : Past) → watch_met vote None from tx part (r, []) ≡ watch_queued from tx vote (r, [])
  watch_met_is from tx part Cast.Yes = refl
  watch_met_is from tx part (Cast.No why) = refl
  watch_met_is from tx part Cast.Ended = refl

  watched_is : (from : ℕ) (tx coord part : Draw) (vote : Past) → noted_outcome r.group.core tx ≡ None → (r.running && awaits_watch r.group.core.lock tx) ≡ true → (mailed from (TxWatched tx coord part vote) (r, [])).0 ≡ act_queued (RecordWatch tx vote from) (r, [])
  unfolding mailed watched_row
  watched_is from tx coord part vote none waits =
      ap (λ o. watch_met vote o from tx part (r, [])) none ∙ (watch_met_is from tx part vote ∙ ap (λ x. cond {A = Place} x (act_queued (RecordWatch tx vote from) (r, [])) (r, [])) waits)

  outcome_is : (from : ℕ) (tx part : Draw) (outcome : Outcome) → (r.running && is_bound r.group.core.lock tx) ≡ true → (mailed from (TxOutcome tx part outcome) (r, [])).0 ≡ act_queued (Finish tx outcome) (r, [])
  unfolding mailed outcome_row
  outcome_is from tx part outcome bound = ap (λ x. cond {A = Place} x (act_queued (Finish tx outcome) (r, [])) (r, [])) bound

-- A leader that has nothing to do but calls takes a question on which no vote stands, a vote for which it waits, and an outcome of the transaction that binds it, as its one work.
pub tables-file : TablesFile
tables-file = record {
  offer = λ from tx offer r may none. subst (Works (Answers tx offer.coord false offer.by ∷ []) [] r) (sym (offer_is r true from tx offer may.running none))
      (queued-files (Prepared tx offer) (Answers tx offer.coord false offer.by) r refl may);
  watch = λ from tx watch r may none. subst (Works (Answers tx watch.coord true watch.by ∷ []) [] r) (sym (watch_row_is r true from tx watch may.running none))
      (queued-files (Watched tx watch) (Answers tx watch.coord true watch.by) r refl may);
  vote = λ from tx coord part vote asked turn r may bond first none. subst (Works (Records tx false (is_yes vote) from ∷ []) [] r)
      (sym (vote_is r from tx coord part vote none (and_from r.running (awaits_vote r.group.core.lock tx) may.running (awaits_participant r.group.core tx asked turn r.group.core.lock bond first))))
      (queued-files (RecordVote tx vote from) (Records tx false (is_yes vote) from) r refl may);
  watched = λ from tx coord part vote asked turn r may bond second none. subst (Works (Records tx true (is_cast_yes vote) from ∷ []) [] r)
      (sym (watched_is r from tx coord part vote none (and_from r.running (awaits_watch r.group.core.lock tx) may.running (awaits_watcher r.group.core tx asked turn r.group.core.lock bond second))))
      (queued-files (RecordWatch tx vote from) (Records tx true (is_cast_yes vote) from) r refl may);
  outcome = λ from tx part outcome r may bond. subst (Works (Ends tx ∷ []) [] r)
      (sym (outcome_is r from tx part outcome (and_from r.running (is_bound r.group.core.lock tx) may.running (bound_by_lock r.group.core tx r.group.core.lock bond))))
      (queued-files (Finish tx outcome) (Ends tx) r refl may);
}

-- ---- questions at other nodes

pub elsewhere-works : (from : ℕ) (tx coord : Draw) (r : ReplicaState) → Works (works r) ((coord, Elsewhere tx from ∷ []) ∷ []) r (sent_elsewhere from tx coord (r, []))
elsewhere-works from tx coord r = record { group = refl; me = refl; running = refl; work = refl; sends = one-errand r.me from (TxElsewhere tx coord r.hint) coord (Elsewhere tx from) refl }

-- A replica that does not run, and a node without one, sends the coordinator's node elsewhere.
pub tables-pass : TablesPass
tables-pass = record {
  offer = λ from tx offer r off none. subst (Works (works r) ((offer.coord, Elsewhere tx from ∷ []) ∷ []) r) (sym (offer_is r false from tx offer off none)) (elsewhere-works from tx offer.coord r);
  watch = λ from tx watch r off none. subst (Works (works r) ((watch.coord, Elsewhere tx from ∷ []) ∷ []) r) (sym (watch_row_is r false from tx watch off none)) (elsewhere-works from tx watch.coord r);
  offer_missed = λ me from tx offer. one-errand me from (TxElsewhere tx offer.coord None) offer.coord (Elsewhere tx from) refl;
  watch_missed = λ me from tx watch. one-errand me from (TxElsewhere tx watch.coord None) watch.coord (Elsewhere tx from) refl;
}

pub question-errand : (me node : ℕ) (core : Core) (tx : Draw) (body : Body) (heard : Option Heard)
    → errand_by me node (question me core tx body heard) ≡ Some ((asked_link core body heard).group, Question tx core.id (is_watch (turn_of core body heard)) me node)
question-errand me node core tx (At.Split at child) heard = refl
question-errand me node core tx _ None = refl
question-errand me node core tx _ (Some heard) = refl

module _ (me node from : ℕ) (core : Core) (tx asked : Draw) (turn : Turn) where
  asks_there : (lock : Lock) → bond_in lock core ≡ Asking tx asked turn → IsOnly [] ((asked, Question tx core.id (is_watch turn) me node ∷ []) ∷ []) (λ name. errands_for name (asked_next lock me core from tx (Some node) []))
  asks_there Free e = absurd cc
  asks_there (Promised locked offer) e = absurd cc
  asks_there (Watching locked watch) e = absurd cc
  asks_there (Coordinating locked body order heard) e =
      (let t : turn_of core body heard ≡ turn = cc in let l : locked ≡ tx = cc in let g : (asked_link core body heard).group ≡ asked = cc in
      subst (λ x. IsOnly [] ((asked, Question tx core.id (is_watch turn) me node ∷ []) ∷ []) (λ name. errands_for name (cond x (sent me node (question me core tx body heard) []) []))) (sym (same_name locked tx l))
      (one-errand me node (question me core tx body heard) asked (Question tx core.id (is_watch turn) me node)
      (question-errand me node core tx body heard ∙ (ap (λ x. Some (x, Question tx core.id (is_watch (turn_of core body heard)) me node)) g ∙ ap (λ x. Some (asked, Question tx core.id (is_watch x) me node)) t))))

-- A settled coordinator that is sent elsewhere asks there what it asks.
pub tables-ask-on : TablesAskOn
unfolding mailed elsewhere_row
tables-ask-on from node tx coord asked turn r settled_is bond =
    subst (λ x. Works (works r) ((asked, Question tx (name_of r) (is_watch turn) r.me node ∷ []) ∷ []) r (cond {A = Place} x (r, asked_next r.group.core.lock r.me r.group.core from tx (Some node) []) (r, []))) (sym settled_is)
    (record { group = refl; me = refl; running = refl; work = refl; sends = asks_there r.me node from r.group.core tx asked turn r.group.core.lock bond })
