-- What an execution answers has its cause in the state before the entry, and what the replica is after it stands behind one entry more.
use Rattle.std.proofs.Common.{◌≡◌, ◌≤◌, ℕ, ◌&&◌, ◌||◌, eqb, Bool, true, false, cond, List, [], ◌∷◌, ◌++◌, Option, Some, None, refl, sym, ap, subst, ◌∙◌, arith}
use Rattle.std.specs.List.{list_any}
use Rattle.std.specs.Option.{option_map}
use Rattle.sc_words.specs.paxos.PaxosDefinitions.{LeaderState, flight_at, LogState}
use Rattle.sc_node_table.specs.Values.{Flight, Ballot, Draw, Command, Noop, Call, Effect, Route, AnswerBody, Mail, Learn}
use Rattle.sc_node_table.specs.NodeDefinitions.{same_command, elected, ended, stopped, entered, answer_of, answered_or_put_back, order_result, effect_reported, announced, learnt_to, welcomed, slot_lost, landed, left_gone, left, is_among, looked_for, looked, executed_one, next_child, has_room, next_ready, ending, executed_ready, all_ready, executed, sent_others, answer_to, put_back, ReplicaState, Place, Executed, childless, name_of, next, members, flying, forgotten, at_slot, before_of, spoken}
use Rattle.std.proofs.lemmas.Bool.{cond_both, eqb-true, eq-eqb, or_parts, or_left, and_parts, true≢false}
use Rattle.sc_mail.specs.declared.bodies.AnswerBody.TheVariants as Says
use Rattle.sc_base.specs.Definitions.{is_member, least_of}
use Rattle.sc_group_table.specs.machine.MachineDefinitions.{Group, state_after, applied}
use Rattle.sc_group_table.proofs.MachineProofs.Lemmas.{state_push}
use Rattle.sc_law_entries.proofs.NamesProofs.NameLemmas.{opt_slot, slot_without, flight_without}
use Rattle.sc_law_walks.proofs.WalkLemmas.{reported_place, learnt_place, welcomed_place, cleared, either_way}
use Rattle.sc_law_refusal.specs.refusal.RefusalDefinitions.{answers_in, effect_answers, log_with, log_after}
use Rattle.sc_law_refusal.proofs.RefusalProofs.Keeping.{Kept, KeptOne, Due, Holds, held_of, back_kept}
use Rattle.sc_law_entries.proofs.NamesProofs.HeldCommands.{flying_held}
use Rattle.sc_law_refusal.proofs.RefusalProofs.Plain.{others_plain, reported_plain, spoken_plain}
use Rattle.sc_law_refusal.proofs.RefusalProofs.Answering.{reported_answers}
use Rattle.sc_law_refusal.proofs.RefusalProofs.Standing.{AllCaused, plain_caused, entry_caused, turned_caused, StandsIn, FineAs, Fine, turned_fine, resent}
use Rattle.sc_law_refusal.proofs.RefusalProofs.Locking.{entry_turns, still_allowed}
use Rattle.sc_law_refusal.proofs.RefusalProofs.Stopping.{ended_fine, stopped_fine, elected_fine, welcomed_fine}
use Rattle.sc_law_refusal.proofs.RefusalProofs.Deciding.{same_leader}
use Rattle.sc_law_refusal.proofs.RefusalProofs.Pumping.{lacking, pumped_still}
pub use Rattle.sc_law_walks.proofs.WalkLemmas.{entered_me, entered_name}

-- the log after one entry more
log_push : (log : LogState Command) (entries : List Command) (command : Command) → log_after log (entries ++ command ∷ []) ≡ log_with (log_after log entries) command
log_push log [] command = refl
log_push log (entry ∷ entries) command = log_push (log_with log entry) entries command

module _ (start : ReplicaState) (A : Command → Type 0) (G : Draw → ℕ → Type 0) (W : Ballot → Draw → ℕ) (Q : Type 0) (numbered : 1 ≤ start.me) where
  -- while entries are executed no other leader is named, and no call that is not executed is turned down
  abbrev F : Place → Type 0
  F place = FineAs start A G W Q false false place

  -- ---- the entry

  kept_through : (command : Command) (r : ReplicaState) → Holds A G r → Holds A G (entered command r)
  unfolding entered forgotten
  kept_through command r h = record { backlog = h.backlog; acts = h.acts; due = h.due; flights = h.flights; ready = h.ready; reports = h.reports }

  -- ---- the answer to a counted call

  -- one that has executed one entry more stands, with the mails that answer it
  entered_stands : (command : Command) (r : ReplicaState) (mails more : List Mail) (f : F (r, mails)) → AllCaused start A G W Q (f.1.entries ++ command ∷ []) false false more → StandsIn start A G W Q false false (entered command r) more
  unfolding entered forgotten
  entered_stands command r mails more f s =
      let turns = entry_turns r.group command in
      record {
        entries = f.1.entries ++ command ∷ [];
        me_is = f.1.me_is;
        name_is = turns.name ∙ f.1.name_is;
        group_is = ap (λ g. (applied g command).0) f.1.group_is ∙ sym (state_push start.group f.1.entries command);
        log_is = ap (λ log. log_with log command) f.1.log_is ∙ sym (log_push start.log f.1.entries command);
        out = f.1.out;
        patient = λ q runs. still_allowed W r.leader.ballot r.group.core.lock (applied r.group command).0.core.lock r.waits turns.lock (f.1.patient q runs);
        sent = s;
      }

  -- the answer is by the effect on the state that the entry met
  answers_so : (answer : Option AnswerBody) (command : Command) (r : ReplicaState) (mails : List Mail) (f : F (r, mails)) → answer ≡ answer_of (applied r.group command).1
      → answers_in (answered_or_put_back answer command (entered command r, mails)).1 ≡ answers_in mails ++ effect_answers start.me (name_of start) (answer_of (applied (state_after start.group f.1.entries) command).1) command
  answers_so answer command r mails f e =
      let here : answers_in (answered_or_put_back answer command (entered command r, mails)).1 ≡ answers_in mails ++ effect_answers (entered command r).me (name_of (entered command r)) answer command = reported_answers answer command (entered command r, mails) in
      here
      ∙ ap (λ (me : ℕ). answers_in mails ++ effect_answers me (name_of (entered command r)) answer command) (entered_me command r ∙ f.1.me_is)
      ∙ ap (λ (name : Draw). answers_in mails ++ effect_answers start.me name answer command) (entered_name command r ∙ f.1.name_is)
      ∙ ap (λ (o : Option AnswerBody). answers_in mails ++ effect_answers start.me (name_of start) o command) (e ∙ ap (λ (g : Group). answer_of (applied g command).1) f.1.group_is)

  reported_by : (answer : Option AnswerBody) (command : Command) (r : ReplicaState) (mails : List Mail) (f : F (r, mails)) → Kept A G command
      → AllCaused start A G W Q (f.1.entries ++ command ∷ []) false false (answered_or_put_back answer command (entered command r, mails)).1 → F (answered_or_put_back answer command (entered command r, mails))
  unfolding answered_or_put_back put_back
  reported_by (Some answer) (Call client seq op) r mails f k s =
      (kept_through (Call client seq op) r f.0, entered_stands (Call client seq op) r mails (answer_to (entered (Call client seq op) r).me (name_of (entered (Call client seq op) r)) client seq answer mails) f s)
  reported_by None (Call client seq op) r mails f k s =
      (back_kept A G (Call client seq op) (entered (Call client seq op) r) k tt (kept_through (Call client seq op) r f.0), entered_stands (Call client seq op) r mails mails f s)
  reported_by (Some answer) command r mails f k s = (kept_through command r f.0, entered_stands command r mails mails f s)
  reported_by None command r mails f k s = (kept_through command r f.0, entered_stands command r mails mails f s)

  reported_fine : (answer : Option AnswerBody) (command : Command) (r : ReplicaState) (mails : List Mail) (f : F (r, mails)) → Kept A G command → answer ≡ answer_of (applied r.group command).1 → F (answered_or_put_back answer command (entered command r, mails))
  reported_fine answer command r mails f k e =
      reported_by answer command r mails f k (entry_caused start A G W Q f.1.entries command mails (answered_or_put_back answer command (entered command r, mails)).1 k (answers_so answer command r mails f e) f.1.sent)

  -- ---- what is said of it

  back_fine : (command : Command) (r : ReplicaState) (mails : List Mail) → Kept A G command → Due A G command r.acts → F (r, mails) → F (put_back command r, mails)
  unfolding put_back
  back_fine Noop r mails k d f = (back_kept A G Noop r k d f.0, f.1)
  back_fine command r mails k d f = (back_kept A G command r k d f.0, f.1)

  effect_fine : (effect : Effect) (command : Command) (place : Place) → F place → F (effect_reported (order_result command effect) command place)
  effect_fine effect command place f =
      reported_place F (λ number result r mails g. (g.0, resent start A G W Q false false r mails _ g.1 (reported_plain (AllCaused start A G W Q g.1.entries false false) (plain_caused start A G W Q g.1.entries false false) r.me number result mails g.1.sent))) (order_result command effect) command place f

  -- a counted entry, of a command that was kept
  pub counted_fine : (command : Command) (r : ReplicaState) (mails : List Mail) → Kept A G command → F (r, mails) → F (announced true (applied r.group command).1 command (entered command r, mails))
  unfolding announced
  counted_fine command r mails k f =
      let effect : Effect = (applied r.group command).1 in effect_fine effect command (answered_or_put_back (answer_of effect) command (entered command r, mails)) (reported_fine (answer_of effect) command r mails f k refl)

  -- one that is learnt is answered to no client
  pub learning_fine : (effect : Effect) (command : Command) (place : Place) → F place → F (announced false effect command place)
  unfolding announced
  learning_fine effect command place f = effect_fine effect command place f

  cleared_fine : (slot : ℕ) (place : Place) → F place → F (cleared slot place)
  cleared_fine slot (r, mails) f = (
    record { backlog = f.0.backlog; acts = f.0.acts; due = f.0.due; flights = flight_without (Kept A G) slot r.leader.flights f.0.flights; ready = slot_without (Kept A G) r.ready slot f.0.ready; reports = f.0.reports },
    f.1,
  )

  -- what loses its slot goes back, and may
  lost_fine : (counted : Bool) (slot : ℕ) (command : Command) (o : Option Command) (place : Place) → KeptOne A G o → ((other : Command) → o ≡ Some other → counted ≡ false → same_command other command ≡ false → Due A G other place.0.acts) → F place → F (slot_lost counted command o place.0, place.1)
  lost_fine counted slot command None (r, mails) k d f = f
  lost_fine counted slot command (Some other) (r, mails) k d f =
      cond_both (counted || same_command other command) r (put_back other r) (λ (x : ReplicaState). F (x, mails)) (λ _. f)
      (λ e. (let parts = or_parts counted (same_command other command) e in back_fine other r mails k (d other refl parts.0 parts.1) f))

  landed_fine : (counted : Bool) (slot : ℕ) (command : Command) (place : Place) → KeptOne A G (flying place.0 slot) → ((other : Command) → flying place.0 slot ≡ Some other → counted ≡ false → same_command other command ≡ false → Due A G other place.0.acts) → F place → F (landed counted slot command place)
  unfolding landed
  landed_fine counted slot command (r, mails) k d f = lost_fine counted slot command (flying r slot) (cleared slot (r, mails)) k d (cleared_fine slot (r, mails) f)

  -- ---- the end of a leadership

  -- where a replica stands after an entry: if it runs, it has named no other leader and turned down no call that was not executed
  record Past (place : Place) : Type 0 where
    refused : Bool
    turned : Bool
    fine : FineAs start A G W Q refused turned place
    runs : place.0.running ≡ true → (refused ≡ false) × (turned ≡ false)

  past : (place : Place) → F place → Past place
  past place f = record { refused = false; turned = false; fine = f; runs = λ _. (refl, refl) }

  hinted_fine : (refused turned : Bool) (r : ReplicaState) (hint : Option ℕ) (mails : List Mail) → FineAs start A G W Q refused turned (r, mails) → FineAs start A G W Q refused turned (record r { hint = hint }, mails)
  hinted_fine refused turned r hint mails f = (record { backlog = f.0.backlog; acts = f.0.acts; due = f.0.due; flights = f.0.flights; ready = f.0.ready; reports = f.0.reports }, f.1)

  looked_by : (gone : Option Route) (r : ReplicaState) (mails : List Mail) → F (r, mails) → F (looked_for gone (r, mails))
  looked_by (Some into) r mails f = f
  looked_by None r mails f =
      either_way F (is_among (members r) r.hint) (r, mails) _ f
      (either_way F (eqb (least_of (members r)) r.me) (elected (record r { hint = Some r.me }, mails)) (record r { hint = Some (least_of (members r)) }, mails)
      (elected_fine start A G W Q false (record r { hint = Some r.me }) mails (hinted_fine false false r (Some r.me) mails f)) (hinted_fine false false r (Some (least_of (members r))) mails f))

  looked_fine : (place : Place) → F place → F (looked place)
  unfolding looked
  looked_fine (r, mails) f = either_way F r.running (r, mails) (looked_for r.group.core.gone (r, mails)) f (looked_by r.group.core.gone r mails f)

  -- one whose group is gone looks for no leader
  gone_looks : (P : Place → Type 0) (into : Route) (r : ReplicaState) (mails : List Mail) → Some into ≡ r.group.core.gone → P (r, mails) → P (looked (r, mails))
  unfolding looked
  gone_looks P into r mails g p = either_way P r.running (r, mails) (looked_for r.group.core.gone (r, mails)) p (subst (λ (o : Option Route). P (looked_for o (r, mails))) g p)

  -- the least member is a member
  least_is : (nodes : List ℕ) → 1 ≤ least_of nodes → is_member nodes (least_of nodes) ≡ true
  least_is [] some = absurd (omega (arith, some))
  least_is (node ∷ nodes) some = or_left (eqb node node) (list_any (λ member. eqb member node) nodes) (eq-eqb node node refl)

  -- one that stopped where it is no member takes the least one for the leader, and is not elected
  stopped_looks : (P : Place → Type 0) (r : ReplicaState) (mails : List Mail) → None ≡ r.group.core.gone → r.hint ≡ Some (least_of (members r)) → 1 ≤ r.me → P (r, mails) → P (record r { hint = Some (least_of (members r)) }, mails) → P (looked (r, mails))
  unfolding looked
  stopped_looks P r mails g h me p hinted =
      let by : P (looked_for None (r, mails)) =
      cond_both (is_among (members r) r.hint) (r, mails) _ P (λ _. p)
      (λ e. cond_both (eqb (least_of (members r)) r.me) (elected (record r { hint = Some r.me }, mails)) (record r { hint = Some (least_of (members r)) }, mails) P
      (λ k. (let same : least_of (members r) ≡ r.me = eqb-true (least_of (members r)) r.me k in
      let member : is_member (members r) (least_of (members r)) ≡ true = least_is (members r) (omega (arith, same, me)) in
      let none : is_member (members r) (least_of (members r)) ≡ false = subst (λ (o : Option ℕ). is_among (members r) o ≡ false) h e in absurd (true≢false (sym member ∙ none)))) (λ _. hinted)) in
      either_way P r.running (r, mails) (looked_for r.group.core.gone (r, mails)) p (subst (λ (o : Option Route). P (looked_for o (r, mails))) g by)

  gone_past : (into : Route) (r : ReplicaState) (mails : List Mail) → Some into ≡ r.group.core.gone → F (r, mails) → Past (looked (ended None (Says.Gone into) (r, mails)))
  unfolding ended
  gone_past into r mails g f =
      let place : Place = ended None (Says.Gone into) (r, mails) in
      let fine : FineAs start A G W Q false true place =
      ended_fine start A G W Q false false false true None (Says.Gone into) r mails f (λ ms c. turned_caused start A G W Q f.1.entries false false ms c)
      (λ op. lacking start A G W Q false f.1.entries r.group op (Says.Gone into) f.1.group_is (sym g)) in
      gone_looks Past into place.0 place.1 g (record { refused = false; turned = true; fine = fine; runs = λ e. cc })

  stopped_past : (r : ReplicaState) (mails : List Mail) → None ≡ r.group.core.gone → F (r, mails) → Past (looked (stopped (Some (least_of (members r))) (r, mails)))
  unfolding ended
  stopped_past r mails g f =
      let place : Place = stopped (Some (least_of (members r))) (r, mails) in
      let fine : FineAs start A G W Q true false place = stopped_fine start A G W Q false false (Some (least_of (members r))) r mails f in
      let me_is = f.1.me_is in
      let now : Past place = record { refused = true; turned = false; fine = fine; runs = λ e. cc } in
      stopped_looks Past place.0 place.1 g refl (omega (arith, numbered, me_is)) now now

  left_by : (gone : Option Route) (r : ReplicaState) (mails : List Mail) → gone ≡ r.group.core.gone → F (r, mails) → Past (looked (left_gone gone (r, mails)))
  left_by (Some into) r mails g f = gone_past into r mails g f
  left_by None r mails g f =
      either_way (λ (p : Place). Past (looked p)) (is_member (members r) r.me) (r, mails) (stopped (Some (least_of (members r))) (r, mails)) (past (looked (r, mails)) (looked_fine (r, mails) f)) (stopped_past r mails g f)

  left_past : (place : Place) → F place → Past (looked (left place))
  unfolding left
  left_past (r, mails) f = either_way (λ (p : Place). Past (looked p)) r.running (left_gone r.group.core.gone (r, mails)) (r, mails) (left_by r.group.core.gone r mails refl f) (past (looked (r, mails)) (looked_fine (r, mails) f))

  -- ---- an execution

  -- a learnt command may take the slot of another, which may then go back
  abbrev pub MayLose : Bool → Command → ReplicaState → Type 0
  MayLose counted command r = (other : Command) → flying r (next r) ≡ Some other → counted ≡ false → same_command other command ≡ false → Due A G other r.acts

  -- after an entry that was announced
  one_fine : (counted : Bool) (command : Command) (r : ReplicaState) (mails : List Mail) → MayLose counted command r → F (announced counted (applied r.group command).1 command (entered command r, mails)) → Past (executed_one counted command (r, mails))
  unfolding executed_one spoken
  one_fine counted command r mails d f1 =
      let effect : Effect = (applied r.group command).1 in
      let place1 : Place = announced counted effect command (entered command r, mails) in
      let place2 : Place = spoken counted (before_of r.group.core) effect command place1 in
      let s = f1.1 in
      let f2 : F place2 = (
        f1.0,
        resent start A G W Q false false place1.0 place1.1 _ s
            (spoken_plain (AllCaused start A G W Q s.entries false false) (plain_caused start A G W Q s.entries false false) counted place1.0.me place1.0.group (before_of r.group.core) effect command place1.1 s.sent),
      ) in
      let place3 : Place = learnt_to counted (members r) (next r) command place2 in
      let s2 = f2.1 in
      let taught : F (place2.0, sent_others place2.0.me (members r) (Learn (name_of place2.0) (next r) command) place2.1) = (
        f2.0,
        resent start A G W Q false false place2.0 place2.1 _ s2
            (others_plain (AllCaused start A G W Q s2.entries false false) (plain_caused start A G W Q s2.entries false false) place2.0.me (members r) (Learn (name_of place2.0) (next r) command) place2.1 tt s2.sent),
      ) in
      let f3 : F place3 = learnt_place F counted (members r) (next r) command place2 f2 taught in
      let place4 : Place = welcomed counted (members r) place3 in
      let f4 : F place4 = welcomed_place F (welcomed_fine start A G W Q false false) counted (members r) place3 f3 in
      let place5 : Place = landed counted (next r) command place4 in
      let as_it_was = same_leader counted effect command r mails in
      let leads : place4.0.leader ≡ r.leader = as_it_was.0 in
      let acts : place4.0.acts ≡ r.acts = as_it_was.1 in
      let flies : flying place4.0 (next r) ≡ flying r (next r) = ap (λ (leader : LeaderState Command). option_map (λ (flight : Flight Command). flight.value) (flight_at (next r) leader.flights)) leads in
      let f5 : F place5 = landed_fine counted (next r) command place4 (flying_held (Kept A G) place4.0 (next r) (held_of A G place4.0 f4.0)) (λ other e learns apart. subst (Due A G other) (sym acts) (d other (sym flies ∙ e) learns apart)) f4 in
      left_past place5 f5

  -- a counted one
  counted_one : (command : Command) (place : Place) → Kept A G command → F place → Past (executed_one true command place)
  counted_one command (r, mails) k f = one_fine true command r mails (λ other flies counted. cc) (counted_fine command r mails k f)

  -- ---- what was ready

  past_fine : (place : Place) → Past place → Fine start A G W Q place
  past_fine place p = (p.refused, turned_fine start A G W Q p.refused p.turned place p.fine)

  -- one that runs goes on
  goes_on : (place : Place) → Past place → place.0.running ≡ true → F place
  goes_on place p e =
      let none = p.runs e in
      subst (λ (b : Bool). FineAs start A G W Q false b place) none.1 (subst (λ (b : Bool). FineAs start A G W Q b p.turned place) none.0 p.fine)

  next_by : (b : Bool) (o : Option Command) (command : Command) → cond b o None ≡ Some command → (b ≡ true) × (o ≡ Some command)
  next_by true o command e = (refl, e)
  next_by false o command e = cc

  -- what holds of a replica with its mail and the children that are made
  abbrev FineAfter : Executed → Type 0
  FineAfter step = Fine start A G W Q step.0

  ready_one : (es : List (ℕ × Command)) (place : Place) (o : Option Command) → next_ready place.0 ≡ o → Past place → ((p : Place) → Past p → Fine start A G W Q (executed_ready es p).0)
      → FineAfter (elim o [ None ↦ childless place | Some command ↦ ending (next_child command place.0) (executed_ready es (executed_one true command place)) ])
  ready_one es place None e p more = past_fine place p
  ready_one es place (Some command) e p more =
      let found = next_by (place.0.running && has_room place.0) (at_slot place.0.ready (next place.0)) command e in
      let f : F place = goes_on place p (and_parts place.0.running (has_room place.0) found.0).0 in
      let kept : Kept A G command = subst (KeptOne A G) found.1 (opt_slot (Kept A G) place.0.ready (next place.0) f.0.ready) in
      pumped_still start A G W Q (executed_ready es (executed_one true command place)).0 (more (executed_one true command place) (counted_one command place kept f))

  ready_fine : (es : List (ℕ × Command)) (place : Place) → Past place → Fine start A G W Q (executed_ready es place).0
  unfolding executed_ready
  ready_fine [] place p = past_fine place p
  ready_fine (e ∷ es) place p = ready_one es place (next_ready place.0) refl p (λ q past. ready_fine es q past)

  -- the whole of an execution, after the entry was announced
  pub executed_fine : (counted : Bool) (command : Command) (r : ReplicaState) (mails : List Mail) → MayLose counted command r → F (announced counted (applied r.group command).1 command (entered command r, mails)) → Fine start A G W Q (executed counted command (r, mails)).0
  unfolding executed
  executed_fine counted command r mails d f =
      let after : Place = executed_one counted command (r, mails) in
      pumped_still start A G W Q (all_ready after).0 (ready_fine after.0.ready after (one_fine counted command r mails d f))
