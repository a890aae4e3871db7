-- Whom a leader asks in a delivery: the node that it is sent to, or whom an entry names that it executes.
use Rattle.std.proofs.Common.{◌≡◌, ℕ, Bool, true, false, List, [], ◌∷◌, Some, None, inl, inr, refl, sym, ◌∙◌, ap, subst}
use Rattle.sc_base.specs.Definitions.{Among, Each}
use Rattle.sc_node_table.specs.Values.{Ballot, Draw, Command, Mail, MailBody, Request, Answer, Prepare, Promise, Accept, Accepted, Nack, Learn, Ask, Install, TxPrepare, TxVote, TxOutcome, TxElsewhere, TxWatch, TxWatched, Told as ToldMail, Seat, Flight}
use Rattle.sc_group_table.specs.machine.MachineDefinitions.{applied, Group}
use Rattle.sc_node_table.specs.NodeDefinitions.{ReplicaState, Place, mailed, name_of, before_of, went_on}
use Rattle.sc_meaning.specs.sound.SoundDefinitions.{Player}
use Rattle.sc_live_steps.specs.calm.CalmDefinitions.{Rows}
use Rattle.sc_live_steps.specs.orders.OrderDefinitions.{bond_of, errand_by, is_yes, is_cast_yes, work_by, works, FliesLone, RunsAlone, Answers, Bound, Elsewhere, Errand, Question, Reply, Result, Here, Records, Ends, Unbound, Work, IsUnderWay, IsUnbound, MayFile, Works, EntryLeaves, results, errands_for, is_watch, Asking, Bond, First, IsOnly, IsNone, Lone, Next, Turn}
use Rattle.sc_live_steps.proofs.OrderStepsProofs.OrderStepLemmas.{votes-count-alone, tables-file, tables-ask-on, cases-draw, tables-rest, promises-keep, entries-run-alone}
use Rattle.sc_live_journals.specs.scenes.SceneDefinitions.{IsAsking, IsWaiting, Aborted, Changed, Decided, Ended, FindsFlight, Heard, Late, LeaderFinds, Leaves, Opened, Voted, ComesToLeader, scene_at, IsEntry}
use Rattle.sc_live_journals.proofs.ScenesProofs.SceneLemmas.{tell}
use Rattle.sc_live_journals.proofs.ScenesProofs.AnswersAndLateMail.{untouched, asks_leave, votes_late, learnt_late, sent_late}
use Rattle.sc_words.proofs.PaxosProofs.PaxosLemmas.{Each-among}
use Rattle.std.specs.Prelude.{cond}
use Rattle.sc_live_answers.proofs.WorkProofs.LeaderDeliveries.{expected, strays}

-- ---- errands

-- neither a question nor that it is to be asked elsewhere
abbrev pub IsOther : Errand → Type 0
IsOther (Question tx coord watch by to) = ⊥
IsOther (Elsewhere tx to) = ⊥
IsOther (Reply tx watch agreed by to) = Unit {0}
IsOther (Result tx to) = Unit {0}

-- a question to this node, or another
abbrev pub IsTo : ℕ → Errand → Type 0
IsTo node (Question tx coord watch by to) = to ≡ node
IsTo node (Elsewhere tx to) = ⊥
IsTo node (Reply tx watch agreed by to) = Unit {0}
IsTo node (Result tx to) = Unit {0}

-- each of these errands
pub only_each : (P : Errand → Type 0) (sent : List (Draw × List Errand)) (f : Draw → List Errand) → IsOnly [] sent f → Each (λ entry. Each P entry.1) sent → (name : Draw) (e : Errand) → Among e (f name) → P e
only_each P sent f o each name e a = go sent o.0 each (o.1 name)
  where
    go : (more : List (Draw × List Errand)) → Each (λ entry. f entry.0 ≡ entry.1) more → Each (λ entry. Each P entry.1) more → (IsNone name more → f name ≡ []) → P e
    go [] are each none = absurd (subst (Among e) (none tt) a)
    go (entry ∷ more) are each none = elim (cases-draw name entry.0) [
      | inl fact ↦ Each-among P entry.1 e each.0 (subst (Among e) (ap f fact ∙ are.0) a)
      | inr ne ↦ go more are.1 each.1 (λ m. none (ne, m))
    ]

-- what a leader sends in a row
pub data IsSending (mail : Mail) (r : ReplicaState) (after : Place) : Type 0 where
  Mute : ((name : Draw) (e : Errand) → Among e (errands_for name after.1) → IsOther e) → IsSending mail r after
  AsksOn : (tx coord : Draw) (to : ℕ) → mail.body ≡ TxElsewhere tx coord (Some to) → ((name : Draw) (e : Errand) → Among e (errands_for name after.1) → IsTo to e) → IsSending mail r after
  Enters : (flight : Flight Command) → Among flight r.leader.flights → (work : Work) → work_by flight.value ≡ Some work → (named : Draw) (ballot : Ballot) (slot : ℕ) → mail.body ≡ Accepted named ballot slot → (asked tx coord : Draw) (watch : Bool) (by node : ℕ) (bond : Bond)
      → EntryLeaves bond ((asked, Question tx coord watch by node ∷ []) ∷ []) flight.value r.me r.group → ((name : Draw) (e : Errand) → Among e (errands_for name after.1) → IsTo node e) → IsSending mail r after

mute : (mail : Mail) (r : ReplicaState) (done : List Work) (after : Place) → Works done [] r after → IsSending mail r after
mute mail r done after w = Mute (λ name e a. only_each IsOther [] (λ n. errands_for n after.1) w.sends tt name e a)

results_other : (tx asked : Draw) (turn : Turn) (by : ℕ) → Each (λ entry. Each IsOther entry.1) (results tx asked turn by)
results_other tx asked First by = ((tt, tt), tt)
results_other tx asked Lone by = ((tt, tt), tt)
results_other tx asked (Next part host) by = ((tt, tt), ((tt, tt), tt))

-- a vote for the one command: it is executed, or nothing is sent
counts_each : (P : Errand → Type 0) (bond : Bond) (sent : List (Draw × List Errand)) (who from : ℕ) (named : Draw) (ballot : Ballot) (slot : ℕ) (flight : Flight Command) (work : Work) (r : ReplicaState) → FliesLone flight r → work_by flight.value ≡ Some work → r.me ≡ who
    → Each (λ entry. Each P entry.1) sent → EntryLeaves bond sent flight.value who r.group → (name : Draw) (e : Errand) → Among e (errands_for name (mailed from (Accepted named ballot slot) (r, [])).0.1) → P e
counts_each P bond sent who from named ballot slot flight work r flies fact me each leaves name e a = elim (votes-count-alone from named ballot slot flight r flies) [
  | inl w ↦ only_each P [] (λ n. errands_for n (mailed from (Accepted named ballot slot) (r, [])).0.1) w.sends tt name e a
  | inr d ↦ (
      let run : RunsAlone flight.value d.readied (mailed from (Accepted named ballot slot) (r, [])).0 = subst (λ p. RunsAlone flight.value d.readied p) (sym d.fact) (entries-run-alone flight.value work d.readied d.lone fact) in
      let f : ℕ → Group → Draw → List Errand = λ m g n. errands_for n (went_on m (applied g flight.value).0 (before_of g.core) (applied g flight.value).1 flight.value []) in
      only_each P sent (f who r.group) leaves.sends each name e (subst (Among e) (run.sends name ∙ (ap (λ m. f m d.readied.group name) (d.me ∙ me) ∙ ap (λ g. f who g name) d.group)) a))
]

module _ (words : ℕ → ℕ → ℕ × ℕ) (births : List (Seat Player)) (rows : Rows) (seat : Seat Player) (number : ℕ) (mail : Mail) (group : Draw) (r : ReplicaState) (c : ComesToLeader words births rows seat number mail group r) (under : IsUnderWay (scene_at births rows)) where
  abbrev waiting : Here
  waiting = (scene_at births rows).at group

  bond_here : waiting.bond ≡ bond_of r.group.core
  bond_here = (tell.led births rows group seat.who r c.leads).1.0

  may : IsUnbound r → waiting.work ≡ [] → MayFile r
  may unbound none = record { running = c.leads.running; unbound = unbound; idle = sym (tell.led births rows group seat.who r c.leads).1.1 ∙ none }

  abbrev By : MailBody → Type 0
  By body = IsSending mail r (mailed mail.from body (r, [])).0

  silent : (bond : Bond) (sent : List (Draw × List Errand)) (named : Draw) (ballot : Ballot) (slot : ℕ) (flight : Flight Command) (work : Work) → FliesLone flight r → r.me ≡ seat.who → IsEntry births rows seat number mail group work bond sent flight.value r
      → Each (λ entry. Each IsOther entry.1) sent → IsSending mail r (mailed mail.from (Accepted named ballot slot) (r, [])).0
  silent bond sent named ballot slot flight work flies me entry each = Mute (λ name e a. counts_each IsOther bond sent seat.who mail.from named ballot slot flight work r flies entry.work_is me each entry.leaves name e a)

  flight_sends : (named : Draw) (ballot : Ballot) (slot : ℕ) → mail.body ≡ Accepted named ballot slot → FindsFlight births rows seat number mail group r slot → IsSending mail r (mailed mail.from (Accepted named ballot slot) (r, [])).0
  flight_sends named ballot slot e (Late none) =
      let l = votes_late r mail.from named ballot slot none in
      mute mail r (works r) (mailed mail.from (Accepted named ballot slot) (r, [])).0 (untouched r (mailed mail.from (Accepted named ballot slot) (r, [])).0 l)
  flight_sends named ballot slot e (Leaves w) = mute mail r (works r) (mailed mail.from (Accepted named ballot slot) (r, [])).0 (subst (λ b. Works (works r) [] r (mailed mail.from b (r, [])).0) e w)
  flight_sends named ballot slot e (Changed flight order flies me entry fact) = silent (bond_of r.group.core) [] named ballot slot flight order flies me entry tt
  flight_sends named ballot slot e (Opened flight tx asked watch node flies me entry stays apart) =
      Enters flight (subst (Among flight) (sym flies.flights) (inl refl)) _ entry.work_is named ballot slot e asked tx group watch seat.who node (Asking tx asked (cond watch Lone First)) (subst (λ m. EntryLeaves (Asking tx asked (cond watch Lone First)) ((asked, Question tx group watch seat.who node ∷ []) ∷ []) flight.value m r.group) (sym me) entry.leaves)
      (λ name x a. counts_each (IsTo node) _ ((asked, Question tx group watch seat.who node ∷ []) ∷ []) seat.who mail.from named ballot slot flight _ r flies entry.work_is me ((refl, tt), tt) entry.leaves name x a)
  flight_sends named ballot slot e (Voted flight tx coord watch agreed by flies me entry unbound stays willing) = silent _ _ named ballot slot flight _ flies me entry ((tt, tt), tt)
  flight_sends named ballot slot e (Aborted flight tx by flies me entry) = silent _ [] named ballot slot flight _ flies me entry tt
  flight_sends named ballot slot e (Decided flight tx asked turn by flies me entry asking) = silent _ (results tx asked turn by) named ballot slot flight _ flies me entry (results_other tx asked turn by)
  flight_sends named ballot slot e (Heard flight tx asked watcher by node flies me entry asking stays apart) =
      Enters flight (subst (Among flight) (sym flies.flights) (inl refl)) _ entry.work_is named ballot slot e watcher tx group true seat.who node (Asking tx watcher (Next asked by)) (subst (λ m. EntryLeaves (Asking tx watcher (Next asked by)) ((watcher, Question tx group true seat.who node ∷ []) ∷ []) flight.value m r.group) (sym me) entry.leaves)
      (λ name x a. counts_each (IsTo node) _ ((watcher, Question tx group true seat.who node ∷ []) ∷ []) seat.who mail.from named ballot slot flight _ r flies entry.work_is me ((refl, tt), tt) entry.leaves name x a)
  flight_sends named ballot slot e (Ended flight tx flies me entry) = silent _ [] named ballot slot flight _ flies me entry tt

  by_body : (body : MailBody) → mail.body ≡ body → LeaderFinds births rows seat number mail group r body → By body
  by_body (TxPrepare tx offer) e f =
      let w : IsWaiting Unbound waiting = expected words births rows seat number mail group r c under (offer.part, Question tx offer.coord false offer.by mail.to) (ap (errand_by mail.from mail.to) e) in
      mute mail r (Answers tx offer.coord false offer.by ∷ []) (mailed mail.from (TxPrepare tx offer) (r, [])).0 (tables-file.offer mail.from tx offer r (may f.0 w.work) f.1)
  by_body (TxWatch tx watch) e f =
      let w : IsWaiting Unbound waiting = expected words births rows seat number mail group r c under (watch.part, Question tx watch.coord true watch.by mail.to) (ap (errand_by mail.from mail.to) e) in
      mute mail r (Answers tx watch.coord true watch.by ∷ []) (mailed mail.from (TxWatch tx watch) (r, [])).0 (tables-file.watch mail.from tx watch r (may f.0 w.work) f.1)
  by_body (TxVote tx coord party vote) e f =
      let w : IsAsking tx (Some false) waiting = expected words births rows seat number mail group r c under (coord, Reply tx false (is_yes vote) mail.from mail.to) (ap (errand_by mail.from mail.to) e) in
      mute mail r (Records tx false (is_yes vote) mail.from ∷ []) (mailed mail.from (TxVote tx coord party vote) (r, [])).0
      (tables-file.vote mail.from tx coord party vote w.asked w.turn r (may f.0 w.work) (sym bond_here ∙ w.bond) (w.turn_is false refl) f.1)
  by_body (TxWatched tx coord party vote) e f =
      let w : IsAsking tx (Some true) waiting = expected words births rows seat number mail group r c under (coord, Reply tx true (is_cast_yes vote) mail.from mail.to) (ap (errand_by mail.from mail.to) e) in
      mute mail r (Records tx true (is_cast_yes vote) mail.from ∷ []) (mailed mail.from (TxWatched tx coord party vote) (r, [])).0
      (tables-file.watched mail.from tx coord party vote w.asked w.turn r (may f.0 w.work) (sym bond_here ∙ w.bond) (w.turn_is true refl) f.1)
  by_body (TxOutcome tx party outcome) e f =
      let w : IsWaiting (Bound tx) waiting = expected words births rows seat number mail group r c under (party, Result tx mail.to) (ap (errand_by mail.from mail.to) e) in
      mute mail r (Ends tx ∷ []) (mailed mail.from (TxOutcome tx party outcome) (r, [])).0 (tables-file.outcome mail.from tx party outcome r (may f w.work) (sym bond_here ∙ w.bond_is))
  by_body (TxElsewhere tx coord hint) e f =
      let w : IsAsking tx None waiting = expected words births rows seat number mail group r c under (coord, Elsewhere tx mail.to) (ap (errand_by mail.from mail.to) e) in
      let w2 = tables-ask-on mail.from f.to tx coord w.asked w.turn r f.settles (sym bond_here ∙ w.bond) in
      subst (λ h. By (TxElsewhere tx coord h)) (sym f.hint_is)
      (AsksOn tx coord f.to (e ∙ ap (λ h. TxElsewhere tx coord h) f.hint_is) (λ name x a. only_each (IsTo f.to) ((w.asked, Question tx (name_of r) (is_watch w.turn) r.me f.to ∷ []) ∷ []) (λ n. errands_for n (mailed mail.from (TxElsewhere tx coord (Some f.to)) (r, [])).0.1) w2.sends ((refl, tt), tt) name x a))
  by_body (Accept named ballot slot command) e f = mute mail r (works r) (mailed mail.from (Accept named ballot slot command) (r, [])).0 (tables-rest.accept mail.from named ballot slot command r f)
  by_body (Prepare named ballot from_slot) e f = mute mail r (works r) (mailed mail.from (Prepare named ballot from_slot) (r, [])).0 (tables-rest.prepare mail.from named ballot from_slot r f)
  by_body (Nack named ballot) e f = mute mail r (works r) (mailed mail.from (Nack named ballot) (r, [])).0 (tables-rest.nack mail.from named ballot r f)
  by_body (Promise named ballot reports) e f =
      subst (λ x. By (Promise named ballot x)) (sym f.bare)
      (mute mail r (works r) (mailed mail.from (Promise named ballot []) (r, [])).0
      (subst (λ w. Works w [] r (mailed mail.from (Promise named ballot []) (r, [])).0) (sym f.works_are) (promises-keep mail.from named ballot f.work r f.unbound f.works_are)))
  by_body (Accepted named ballot slot) e f = flight_sends named ballot slot e f
  by_body (Learn named slot command) e f =
      mute mail r (works r) (mailed mail.from (Learn named slot command) (r, [])).0 (untouched r (mailed mail.from (Learn named slot command) (r, [])).0 (learnt_late r mail.from named slot command f))
  by_body (Install named slot base sets) e f =
      mute mail r (works r) (mailed mail.from (Install named slot base sets) (r, [])).0 (untouched r (mailed mail.from (Install named slot base sets) (r, [])).0 (sent_late r mail.from named slot base sets f))
  by_body (Ask named slot) e f = mute mail r (works r) (mailed mail.from (Ask named slot) (r, [])).0 (untouched r (mailed mail.from (Ask named slot) (r, [])).0 (asks_leave r mail.from named slot))
  by_body (Request named client seq op) e f = mute mail r (works r) (mailed mail.from (Request named client seq op) (r, [])).0 f
  by_body (Answer named seq answer) e f = absurd (strays words births rows seat number mail group r c under (Answer named seq answer) e refl)
  by_body (ToldMail order result) e f = absurd (strays words births rows seat number mail group r c under (ToldMail order result) e refl)

  pub leader_sends : LeaderFinds births rows seat number mail group r mail.body → IsSending mail r (mailed mail.from mail.body (r, [])).0
  leader_sends f = by_body mail.body refl f
