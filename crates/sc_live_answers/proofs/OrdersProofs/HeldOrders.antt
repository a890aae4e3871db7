-- An order stays held by a group from row to row, or its result is reported.
use Rattle.std.proofs.Common.{◌≡◌, ◌⊎◌, ℕ, Bool, true, false, true≢false, cond, List, [], ◌∷◌, ◌++◌, Option, Some, None, inl, inr, refl, sym, ◌∙◌, ap, subst, append_assoc}
use Rattle.std.proofs.lemmas.Option.{same_Some}
use Rattle.sc_base.specs.Definitions.{Among, Each, same_draw}
use Rattle.sc_group_table.specs.policy.PolicyDefinitions.{is_reported}
use Rattle.sc_node_table.specs.Values.{Draw, Body, Command, Core, Lock, Free, Coordinating, Promised, Watching, Heard, No, Vote, OrderLine, OrderResult, Mail, MailBody, TxPrepare, TxVote, TxOutcome, TxElsewhere, TxWatch, TxWatched, Seat, Event, Deliver, Row, Flight}
use Rattle.sc_words.specs.declared.commands.votes.Vote.TheVariants as Says
use Rattle.sc_actor.specs.Definitions.{mails, copies, numbers_of, row_of}
use Rattle.sc_actor.proofs.Lemmas.{mails-snoc, mails-append}
use Rattle.sc_paxos_law.proofs.Lemmas.{Among-left, Among-either}
use Rattle.sc_words.proofs.PaxosProofs.PaxosLemmas.{Each-among}
use Rattle.sc_live_orderly.specs.OrderlyDefinitions.{AreInTime}
use Rattle.sc_group_table.specs.machine.MachineDefinitions.{Group, has_named}
use Rattle.sc_node_table.specs.NodeDefinitions.{ReplicaState}
use Rattle.sc_meaning.specs.sound.SoundDefinitions.{Player, player_table}
use Rattle.sc_live_steps.specs.calm.CalmDefinitions.{players, Rows}
use Rattle.sc_live_steps.specs.orders.OrderDefinitions.{OfQuestion, OfVote, OfOutcome, LastTakes, OneTakes, TwoTakes, LastFreed, OneFreed, TwoFreed, IsStepOf, ByRest, ByOrder, ByChange, ByDeal, ByPassing, ByAsking, ByTaking, ByVote, ByNo, ByHearing, ByDeciding, ByEnd, IsTaken, closed, Turn, First, Lone, Next, is_watch, is_yes, is_cast_yes, IsVote, Errand, Question, Elsewhere, Reply, Result, errand_by, errand_for, errands_for, bond_in, Asking, Work, Opens, Records, Ends, IsOrder, Here, Scene, free, closing, Leg, Mailed, Filed, Deal, Stage, Still, Ordered, Asks, SentOn, Weighs, Replied, Recorded, Closes, ClosesBoth, IsAt, bond_of, works}
use Rattle.sc_live_steps.proofs.OrderStepsProofs.OrderStepLemmas.{cases-draw}
use Rattle.sc_live_journals.specs.rows.RowDefinitions.{view_at, IsSeat, with_event}
use Rattle.sc_live_journals.specs.scenes.SceneDefinitions.{FindsOrder, GoesBy, LeadsAlone, bond_by, bond_there, left_after, scene_at}
use Rattle.sc_live_journals.proofs.ScenesProofs.SceneLemmas.{tell}
use Rattle.sc_live_answers.specs.AnswerDefinitions.{HasDone, doer, doers_of, opened, IsTrueEntry, HasNumber, LockNumber, IsTold, IsRefusedIn, IsVotedDown, IsRefusalSent, IsReported, HoldsOrder, Waits, Coordinates, IsOrderHeld}
use Rattle.sc_live_answers.proofs.WorkProofs.LeaderDeeds.{lead_runs_so, lead_works, one_not_none, same_one}
use Rattle.sc_live_answers.proofs.WorkProofs.LeaderDeliveries.{HasActed, Waited, Ran, Acts, acts_on}
use Rattle.sc_live_answers.proofs.OrdersProofs.OrderResults.{order_ends, record_ends}
use Rattle.sc_live_answers.proofs.VotesProofs.ReportedMail.{told_more, told_behind}
use Rattle.sc_live_answers.proofs.AnswersProofs.SentMail.{sent_with}

-- ---- at which stages an order is held

-- an order at this stage has no result yet
abbrev pub IsOpen : Stage → Type 0
IsOpen Still = ⊥
IsOpen (Ordered group chief work) = Unit {0}
IsOpen (Asks deal to) = Unit {0}
IsOpen (SentOn deal) = Unit {0}
IsOpen (Weighs deal host) = Unit {0}
IsOpen (Replied deal agreed host) = Unit {0}
IsOpen (Recorded deal agreed host) = Unit {0}
IsOpen (Closes tx party) = ⊥
IsOpen (ClosesBoth tx one two) = ⊥

open_or : (stage : Stage) → IsOpen stage ⊎ (IsOpen stage → ⊥)
open_or Still = inr (λ o. o)
open_or (Closes tx party) = inr (λ o. o)
open_or (ClosesBoth tx one two) = inr (λ o. o)
open_or _ = inl tt

-- at such a stage a group holds the order
pub held_at : (stage : Stage) (now : Scene) → IsOpen stage → IsAt stage now → IsOrderHeld now
held_at Still now o a = absurd o
held_at (Ordered group chief work) now o a = (group, Waits work a.sound (ap (λ (h : Here). h.work) a.parties.0.0))
held_at (Asks deal to) now o a = (deal.coord, Coordinates deal.tx deal.asked deal.turn (ap (λ (h : Here). h.bond) a.parties.0.0))
held_at (SentOn deal) now o a = (deal.coord, Coordinates deal.tx deal.asked deal.turn (ap (λ (h : Here). h.bond) a.parties.0.0))
held_at (Weighs deal host) now o a = (deal.coord, Coordinates deal.tx deal.asked deal.turn (ap (λ (h : Here). h.bond) a.parties.0.0))
held_at (Replied deal agreed host) now o a = (deal.coord, Coordinates deal.tx deal.asked deal.turn (ap (λ (h : Here). h.bond) a.parties.0.0))
held_at (Recorded deal agreed host) now o a = (deal.coord, Coordinates deal.tx deal.asked deal.turn (ap (λ (h : Here). h.bond) a.parties.0.0))
held_at (Closes tx party) now o a = absurd o
held_at (ClosesBoth tx one two) now o a = absurd o

-- at any other stage none does
free_holds : HoldsOrder free → ⊥
free_holds (Waits work fact e) = absurd (one_not_none work [] e refl)
free_holds (Coordinates tx asked turn e) = absurd cc

closing_holds : (tx : Draw) (leg : Leg) (host : ℕ) → HoldsOrder (closing tx leg host) → ⊥
closing_holds tx Mailed host (Waits work fact e) = absurd (one_not_none work [] e refl)
closing_holds tx Filed host (Waits work fact e) = subst IsOrder (sym (same_one (Ends tx) work e)) fact
closing_holds tx Mailed host (Coordinates t asked turn e) = absurd cc
closing_holds tx Filed host (Coordinates t asked turn e) = absurd cc

pub none_holds : (stage : Stage) (now : Scene) → (IsOpen stage → ⊥) → IsAt stage now → IsOrderHeld now → ⊥
none_holds Still now o a h = free_holds (subst HoldsOrder (a.parties.1 h.0 tt) h.1)
none_holds (Closes tx party) now o a h = elim (cases-draw h.0 party.group) [
  | inl e ↦ closing_holds tx party.leg party.host (subst HoldsOrder (ap now.at e ∙ a.parties.0.0) h.1)
  | inr ne ↦ free_holds (subst HoldsOrder (a.parties.1 h.0 (ne, tt)) h.1)
]
none_holds (ClosesBoth tx one two) now o a h = elim (cases-draw h.0 one.group) [
  | inl e ↦ closing_holds tx one.leg one.host (subst HoldsOrder (ap now.at e ∙ a.parties.0.0) h.1)
  | inr ne ↦ elim (cases-draw h.0 two.group) [
    | inl e ↦ closing_holds tx two.leg two.host (subst HoldsOrder (ap now.at e ∙ a.parties.0.1.0) h.1)
    | inr other ↦ free_holds (subst HoldsOrder (a.parties.1 h.0 (ne, (other, tt))) h.1)
  ]
]
none_holds _ now o a h = o tt

-- ---- what is reported stays reported

pub reported_later : (births : List (Seat Player)) (rows more : Rows) (n : ℕ) → IsReported births rows n → IsReported births (rows ++ more) n
reported_later births rows more n k = record {
  result = k.result;
  told = subst (λ ms. IsTold ms n k.result) (sym (mails-append rows more)) (told_more n k.result (mails rows) (mails more) k.told);
  cause = λ aborted. (let c = k.cause aborted in
      record { rows = c.rows; more = c.more ++ more; journal_is = ap (λ l. l ++ more) c.journal_is ∙ append_assoc c.rows c.more more; group = c.group; node = c.node; replica = c.replica; has = c.has; tx = c.tx; body = c.body; heard = c.heard; locked = c.locked; refused = c.refused });
}

-- a coordinator that asks is locked in the transaction, of the order with the number
lock_of : (n : ℕ) (core : Core) (tx asked : Draw) (turn : Turn) (lock : Lock) → bond_in lock core ≡ Asking tx asked turn → LockNumber n lock → (body : Body) × (heard : Option Heard) × (lock ≡ Coordinating tx body n heard)
lock_of n core tx asked turn (Coordinating locked body order heard) b k = (let own : locked ≡ tx = cc in (body, heard, ap (λ x. Coordinating x body order heard) own ∙ ap (λ o. Coordinating tx body o heard) k))
lock_of n core tx asked turn Free b k = absurd cc
lock_of n core tx asked turn (Promised locked offer) b k = absurd cc
lock_of n core tx asked turn (Watching locked watch) b k = absurd cc

-- a No is that of a participant
turn_first : (turn : Turn) (agreed : Bool) → IsVote turn agreed → agreed ≡ false → turn ≡ First
turn_first First agreed v off = refl
turn_first Lone agreed v off = absurd (true≢false (sym v ∙ off))
turn_first (Next part host) agreed v off = absurd (true≢false (sym v ∙ off))

-- ---- a delivery

-- what is known of the leaders before a delivery: what they have in flight has the order's number and is true, and so has what coordinators are locked in; and who leads after it leads alone
pub record AreLeaders (n : ℕ) (births : List (Seat Player)) (rows then : Rows) : Type 0 where
  pub flights : (name : Draw) (node : ℕ) (r : ReplicaState) → view_at births rows name node ≡ Some r → Each (λ (flight : Flight Command). HasNumber n flight.value) r.leader.flights
  pub locks : (name : Draw) (node : ℕ) (r : ReplicaState) → view_at births rows name node ≡ Some r → LockNumber n r.group.core.lock
  pub entries : (name : Draw) (node : ℕ) (r : ReplicaState) → view_at births rows name node ≡ Some r → r.running ≡ true → (flight : Flight Command) → Among flight r.leader.flights → IsTrueEntry r.me r.group flight.value
  pub alone : (name : Draw) (node : ℕ) (r : ReplicaState) → view_at births then name node ≡ Some r → r.running ≡ true → LeadsAlone births then name node r

module _ (n : ℕ) (told : is_reported n ≡ true) (words : ℕ → ℕ → ℕ × ℕ) (births : List (Seat Player)) (quiet rows : Rows) (seat : Seat Player) (number : ℕ) (born : IsSeat births seat) (timely : AreInTime (players words births) (with_event rows seat (Deliver number)))
    (finds : FindsOrder words births rows seat (Deliver number)) (stage : Stage) (stands : IsAt stage (scene_at births rows)) (done : Each (HasDone births quiet rows) (doers_of stage))
    (new : (group : Draw) (chief : ℕ) (tx : Draw) → stage ≡ Ordered group chief (Opens tx) → (r : ReplicaState) → view_at births rows group chief ≡ Some r → has_named r.group.core tx ≡ false) (l : AreLeaders n births rows (with_event rows seat (Deliver number))) (refusal : IsRefusalSent (mails rows) stage) where
  abbrev now : Scene
  now = scene_at births rows

  abbrev then : Rows
  then = with_event rows seat (Deliver number)

  abbrev after : Scene
  after = scene_at births (with_event rows seat (Deliver number))

  abbrev Reports : Type 0
  Reports = IsReported births (with_event rows seat (Deliver number)) n

  -- what the row reports is reported then
  reported_then : (result : OrderResult) → IsTold (row_of player_table seat rows (Deliver number)).sent n result → IsTold (mails then) n result
  reported_then result k = subst (λ ms. IsTold ms n result) (sym (mails-snoc rows (row_of player_table seat rows (Deliver number)))) (told_behind n result (mails rows) (row_of player_table seat rows (Deliver number)).sent k)

  module _ (group : Draw) (chief : ℕ) (r : ReplicaState) (fact : view_at births rows group chief ≡ Some r) (leads : now.lead group ≡ Some chief) (none : IsOrderHeld after → ⊥) where
    runs : r.running ≡ true
    runs = lead_runs_so births rows group chief r leads fact

    bond_now : bond_of r.group.core ≡ (now.at group).bond
    bond_now = sym (ap (bond_by (view_at births rows group) (numbers_of births)) leads ∙ ap bond_there fact)

    acted : Acts words births rows seat number born timely finds (stage, stands) group chief r
    acted = acts_on words births rows seat number born timely finds (stage, stands) group r runs chief fact

    -- after it the leader does not ask another group, and has no order
    asks_none : acted.0.0.running ≡ true → (tx asked : Draw) (turn : Turn) → bond_of acted.0.0.group.core ≡ Asking tx asked turn → ⊥
    asks_none on tx asked turn e = none (group, Coordinates tx asked turn ((tell.led births then group chief acted.0.0 (l.alone group chief acted.0.0 acted.1 on)).1.0 ∙ e))

    waits_none : acted.0.0.running ≡ true → (work : Work) → IsOrder work → works acted.0.0 ≡ work ∷ [] → ⊥
    waits_none on work order e = none (group, Waits work order ((tell.led births then group chief acted.0.0 (l.alone group chief acted.0.0 acted.1 on)).1.1 ∙ e))

    number_of : (flight : Flight Command) → Among flight r.leader.flights → HasNumber n flight.value
    number_of flight among = Each-among (λ (f : Flight Command). HasNumber n f.value) r.leader.flights flight (l.flights group chief r fact) among

    -- the leader had the order as its one work: it has executed it
    order_done : (work : Work) → IsOrder work → works r ≡ work ∷ [] → ((tx : Draw) → work ≡ Opens tx → has_named r.group.core tx ≡ false) → Reports
    order_done work order one named = by acted.2
      where
        by : HasActed r acted.0 → Reports
        by (Waited on same (inl idle)) = absurd (one_not_none work (works r) one idle)
        by (Waited on same (inr kept)) = absurd (waits_none (on ∙ runs) work order (kept ∙ one))
        by (Ran flight w among had e gone made stays reports) =
            let own : w ≡ work = same_one w work (sym had ∙ one) in
            elim (order_ends n r.me r.group flight.value w e (subst IsOrder (sym own) order) (number_of flight among) (λ tx opens. named tx (sym own ∙ opens)) (l.entries group chief r fact runs flight among)) [
              | inl ends ↦ record { result = ends.0; told = reported_then ends.0 (acted.3 n ends.0 (reports n ends.0 told ends.1)); cause = λ aborted. absurd (ends.2 aborted) }
              | inr goes ↦ absurd (asks_none (stays goes.3) goes.0 goes.1 goes.2 (ap (λ (g : Group). bond_of g.core) made ∙ goes.4))
            ]

    -- the leader is locked in the order's transaction, in which a No was sent
    voted_down : (tx asked : Draw) (turn : Turn) → bond_of r.group.core ≡ Asking tx asked turn → IsRefusedIn (mails rows) tx → IsVotedDown births then n
    voted_down tx asked turn bound refused =
        let lock = lock_of n r.group.core tx asked turn r.group.core.lock bound (l.locks group chief r fact) in
        record { rows = rows; more = row_of player_table seat rows (Deliver number) ∷ []; journal_is = refl; group = group; node = chief; replica = r; has = fact; tx = tx; body = lock.0; heard = lock.1; locked = lock.2; refused = refused }

    -- the leader had a vote to record in the order's transaction: it has recorded it
    record_done : (tx asked : Draw) (turn : Turn) (agreed : Bool) (host : ℕ) → bond_of r.group.core ≡ Asking tx asked turn → works r ≡ Records tx (is_watch turn) agreed host ∷ [] → (agreed ≡ false → IsRefusedIn (mails rows) tx) → Reports
    record_done tx asked turn agreed host bound one voted = by acted.2
      where
        by : HasActed r acted.0 → Reports
        by (Waited on same rest) = absurd (asks_none (on ∙ runs) tx asked turn (ap (λ (g : Group). bond_of g.core) same ∙ bound))
        by (Ran flight w among had e gone made stays reports) =
            let own : w ≡ Records tx (is_watch turn) agreed host = same_one w (Records tx (is_watch turn) agreed host) (sym had ∙ one) in
            elim (record_ends n r.me r.group tx asked turn bound (l.locks group chief r fact) flight.value (is_watch turn) agreed host (e ∙ ap Some own) refl (l.entries group chief r fact runs flight among)) [
              | inl ends ↦ record { result = ends.0; told = reported_then ends.0 (acted.3 n ends.0 (reports n ends.0 told ends.1)); cause = λ aborted. voted_down tx asked turn bound (voted (ends.2 aborted)) }
              | inr goes ↦ absurd (asks_none (stays goes.3) goes.0 goes.1 goes.2 (ap (λ (g : Group). bond_of g.core) made ∙ goes.4))
            ]

  changes : (group : Draw) (chief : ℕ) (work : Work) → stage ≡ Ordered group chief work → (IsOrderHeld after → ⊥) → Reports
  changes group chief work e none =
      let a : IsAt (Ordered group chief work) now = subst (λ x. IsAt x now) e stands in
      let d : HasDone births quiet rows (doer group chief []) = (subst (λ x. Each (HasDone births quiet rows) (doers_of x)) e done).0 in
      order_done group chief d.now d.fact a.leads.0 none work a.sound (lead_works births rows group chief d.now a.leads.0 d.fact ∙ ap (λ (h : Here). h.work) a.parties.0.0)
      (λ tx opens. new group chief tx (e ∙ ap (Ordered group chief) opens) d.now d.fact)

  records : (deal : Deal) (agreed : Bool) (host : ℕ) → stage ≡ Recorded deal agreed host → (IsOrderHeld after → ⊥) → Reports
  records deal agreed host e none =
      let a : IsAt (Recorded deal agreed host) now = subst (λ x. IsAt x now) e stands in
      let d : HasDone births quiet rows (doer deal.coord deal.chief (opened deal.tx deal.turn)) = (subst (λ x. Each (HasDone births quiet rows) (doers_of x)) e done).0 in
      record_done deal.coord deal.chief d.now d.fact a.leads.0 none deal.tx deal.asked deal.turn agreed host (bond_now deal.coord deal.chief d.now d.fact a.leads.0 none ∙ ap (λ (h : Here). h.bond) a.parties.0.0)
      (lead_works births rows deal.coord deal.chief d.now a.leads.0 d.fact ∙ ap (λ (h : Here). h.work) a.parties.0.0) (subst (IsRefusalSent (mails rows)) e refusal)

  -- a step that ends at a stage where no group holds the order reports its result
  module _ (later : Stage) (open_ : IsOpen stage) (over : IsOpen later → ⊥) (none : IsOrderHeld after → ⊥) where
    goes_open : (next : Stage) → IsOpen next → later ≡ next → Reports
    goes_open next o e = absurd (over (subst IsOpen (sym e) o))

    was_over : (before : Stage) → (IsOpen before → ⊥) → stage ≡ before → Reports
    was_over before o e = absurd (o (subst IsOpen e open_))

    by_taking : (group : Draw) → IsTaken group stage later → Reports
    by_taking group (OfQuestion t) = goes_open (Weighs t.deal t.host) tt t.after_is
    by_taking group (OfVote t) = goes_open (Recorded t.deal t.agreed t.host) tt t.after_is
    by_taking group (OfOutcome (LastTakes tx party b leg own then_)) = was_over (Closes tx party) (λ o. o) b
    by_taking group (OfOutcome (OneTakes tx one two b leg own then_)) = was_over (ClosesBoth tx one two) (λ o. o) b
    by_taking group (OfOutcome (TwoTakes tx one two b leg own then_)) = was_over (ClosesBoth tx one two) (λ o. o) b

    by_step : (group : Draw) → IsStepOf group stage later → Reports
    by_step group (ByRest e) = goes_open stage open_ e
    by_step group (ByOrder b) = was_over Still (λ o. o) b.before_is
    by_step group (ByChange c) = changes group c.chief c.work c.before_is none
    by_step group (ByDeal b) = goes_open (Asks b.deal b.to) tt b.after_is
    by_step group (ByPassing p) = goes_open (SentOn p.deal) tt p.after_is
    by_step group (ByAsking p) = goes_open (Asks p.deal p.to) tt p.after_is
    by_step group (ByTaking t) = by_taking group t
    by_step group (ByVote v) = goes_open (Replied v.deal v.agreed v.host) tt v.after_is
    by_step group (ByNo c) = records c.deal c.agreed c.host c.before_is none
    by_step group (ByHearing h) = goes_open (Asks h.next h.to) tt h.after_is
    by_step group (ByDeciding c) = records c.deal true c.host c.before_is none
    by_step group (ByEnd (LastFreed tx party b leg own then_)) = was_over (Closes tx party) (λ o. o) b
    by_step group (ByEnd (OneFreed tx one two b leg own then_)) = was_over (ClosesBoth tx one two) (λ o. o) b
    by_step group (ByEnd (TwoFreed tx one two b leg own then_)) = was_over (ClosesBoth tx one two) (λ o. o) b

  -- so after the delivery the order is held, or its result is reported
  pub held_on : (later : Stage) → IsAt later after → (later ≡ stage) ⊎ GoesBy rows (Deliver number) stage later → IsReported births rows n ⊎ IsOrderHeld now → IsReported births then n ⊎ IsOrderHeld after
  held_on later at goes (inl k) = inl (reported_later births rows (row_of player_table seat rows (Deliver number) ∷ []) n k)
  held_on later at goes (inr held) = elim (open_or later) [
    | inl o ↦ inr (held_at later after o at)
    | inr over ↦ elim (open_or stage) [
      | inr shut ↦ absurd (none_holds stage now shut stands held)
      | inl o ↦ elim goes [
        | inl same ↦ absurd (over (subst IsOpen (sym same) o))
        | inr g ↦ inl (by_step later o over (none_holds later after over at) g.group g.step)
      ]
    ]
  ]

-- ---- the No that the coordinator has to record

-- what is sent stays sent
refused_more : (sent more : List Mail) (tx : Draw) → IsRefusedIn sent tx → IsRefusedIn (sent ++ more) tx
refused_more sent more tx k = record { mail = k.mail; among = Among-left k.mail sent more k.among; coord = k.coord; part = k.part; why = k.why; body = k.body }

-- of two errands that are the same with their groups, the errands are the same
errand_is : (group coord : Draw) (one other : Errand) → ◌≡◌ {A = Option (Draw × Errand)} (Some (group, one)) (Some (coord, other)) → one ≡ other
errand_is group coord one other e = ap (λ (x : Draw × Errand). x.1) (same_Some (group, one) (coord, other) e)

-- a reply that is no Yes, and no watcher's, is a No
reply_is : (tx : Draw) (by to : ℕ) (mail : Mail) (coord : Draw) (from at : ℕ) → errand_by from at mail.body ≡ Some (coord, Reply tx false false by to) → (part : Draw) × (why : No) × (group : Draw) × (mail.body ≡ TxVote tx group part (Says.No why))
reply_is tx by to mail coord from at e = by_body mail.body e
  where
    by_vote : (t group part : Draw) (vote : Vote) → Reply t false (is_yes vote) from at ≡ Reply tx false false by to → (p : Draw) × (why : No) × (g : Draw) × (TxVote t group part vote ≡ TxVote tx g p (Says.No why))
    by_vote t group part (Says.No why) k = (let own : t ≡ tx = cc in (part, why, group, ap (λ x. TxVote x group part (Says.No why)) own))
    by_vote t group part (Says.Yes frozen) k = absurd cc

    by_body : (body : MailBody) → errand_by from at body ≡ Some (coord, Reply tx false false by to) → (p : Draw) × (why : No) × (g : Draw) × (body ≡ TxVote tx g p (Says.No why))
    by_body (TxVote t group part vote) k = by_vote t group part vote (errand_is group coord (Reply t false (is_yes vote) from at) (Reply tx false false by to) k)
    by_body (TxPrepare t offer) k = absurd (let same : Question t offer.coord false offer.by at ≡ Reply tx false false by to = errand_is offer.part coord (Question t offer.coord false offer.by at) (Reply tx false false by to) k in cc)
    by_body (TxWatch t watch) k = absurd (let same : Question t watch.coord true watch.by at ≡ Reply tx false false by to = errand_is watch.part coord (Question t watch.coord true watch.by at) (Reply tx false false by to) k in cc)
    by_body (TxElsewhere t group hint) k = absurd (let same : Elsewhere t at ≡ Reply tx false false by to = errand_is group coord (Elsewhere t at) (Reply tx false false by to) k in cc)
    by_body (TxWatched t group part vote) k = absurd (let same : Reply t true (is_cast_yes vote) from at ≡ Reply tx false false by to = errand_is group coord (Reply t true (is_cast_yes vote) from at) (Reply tx false false by to) k in cc)
    by_body (TxOutcome t part outcome) k = absurd (let same : Result t at ≡ Reply tx false false by to = errand_is part coord (Result t at) (Reply tx false false by to) k in cc)
    by_body _ k = absurd cc

-- an errand for a group is a mail that was sent
errand_sent : (group : Draw) (errand : Errand) (sent : List Mail) → Among errand (errands_for group sent) → (mail : Mail) × Among mail sent × ((name : Draw) × (errand_by mail.from mail.to mail.body ≡ Some (name, errand)))
errand_sent group errand [] a = absurd a
errand_sent group errand (mail ∷ sent) a = elim (Among-either errand (errand_for group (errand_by mail.from mail.to mail.body)) (errands_for group sent) a) [
  | inl here ↦ (mail, inl refl, one (errand_by mail.from mail.to mail.body) refl here)
  | inr more ↦ (let k = errand_sent group errand sent more in (k.0, inr k.1, k.2))
]
  where
    one : (o : Option (Draw × Errand)) → errand_by mail.from mail.to mail.body ≡ o → Among errand (errand_for group o) → (name : Draw) × (errand_by mail.from mail.to mail.body ≡ Some (name, errand))
    one None e k = absurd k
    one (Some found) e k = by (same_draw found.0 group) k
      where
        by : (b : Bool) → Among errand (cond b (found.1 ∷ []) []) → (name : Draw) × (errand_by mail.from mail.to mail.body ≡ Some (name, errand))
        by true (inl same) = (found.0, e ∙ ap (λ x. Some (found.0, x)) same)
        by true (inr none) = absurd none
        by false none = absurd none

module _ (births : List (Seat Player)) (rows : Rows) (row : Row Mail OrderLine) where
  abbrev Sent : Stage → Type 0
  Sent stage = IsRefusalSent (mails (rows ++ row ∷ [])) stage

  refused_then : (tx : Draw) → IsRefusedIn (mails rows) tx → IsRefusedIn (mails (rows ++ row ∷ [])) tx
  refused_then tx k = subst (λ ms. IsRefusedIn ms tx) (sym (mails-snoc rows row)) (refused_more (mails rows) row.sent tx k)

  same_then : (stage : Stage) → IsRefusalSent (mails rows) stage → Sent stage
  same_then (Recorded deal agreed host) k = λ off. refused_then deal.tx (k off)
  same_then _ k = tt

  -- a No that comes to the coordinator was sent
  taken_then : (deal : Deal) (agreed : Bool) (host : ℕ) → IsAt (Replied deal agreed host) (scene_at births rows) → agreed ≡ false → IsRefusedIn (mails (rows ++ row ∷ [])) deal.tx
  taken_then deal agreed host a off =
      let first : deal.turn ≡ First = turn_first deal.turn agreed a.sound off in
      let errands : errands_for deal.coord (left_after rows) ≡ Reply deal.tx (is_watch deal.turn) agreed host deal.chief ∷ [] = ap (λ (h : Here). h.errands) a.parties.0.0 in
      let reply : errands_for deal.coord (left_after rows) ≡ Reply deal.tx false false host deal.chief ∷ [] = errands ∙ (ap (λ t. Reply deal.tx (is_watch t) agreed host deal.chief ∷ []) first ∙ ap (λ b. Reply deal.tx false b host deal.chief ∷ []) off) in
      let k = errand_sent deal.coord (Reply deal.tx false false host deal.chief) (left_after rows) (subst (Among (Reply deal.tx false false host deal.chief)) (sym reply) (inl refl)) in
      let no = reply_is deal.tx host deal.chief k.0 k.2.0 k.0.from k.0.to k.2.1 in
      refused_then deal.tx (record { mail = k.0; among = sent_with (λ mail. true) (mails rows) (copies rows) k.0 k.1; coord = no.2; part = no.0; why = no.1; body = no.3 })

  sent_taken : (group : Draw) (stage later : Stage) → IsAt stage (scene_at births rows) → IsTaken group stage later → Sent later
  sent_taken group stage later a (OfQuestion t) = subst Sent (sym t.after_is) tt
  sent_taken group stage later a (OfVote t) = subst Sent (sym t.after_is) (taken_then t.deal t.agreed t.host (subst (λ x. IsAt x (scene_at births rows)) t.before_is a))
  sent_taken group stage later a (OfOutcome (LastTakes tx party b leg own then_)) = subst Sent (sym then_) tt
  sent_taken group stage later a (OfOutcome (OneTakes tx one two b leg own then_)) = subst Sent (sym then_) tt
  sent_taken group stage later a (OfOutcome (TwoTakes tx one two b leg own then_)) = subst Sent (sym then_) tt

  sent_closing : (tx asked : Draw) (turn : Turn) (host : ℕ) → Sent (closed tx asked turn host)
  sent_closing tx asked First host = tt
  sent_closing tx asked Lone host = tt
  sent_closing tx asked (Next part node) host = tt

  sent_next : (group : Draw) (stage later : Stage) → IsAt stage (scene_at births rows) → IsRefusalSent (mails rows) stage → IsStepOf group stage later → Sent later
  sent_next group stage later a k (ByRest e) = subst Sent (sym e) (same_then stage k)
  sent_next group stage later a k (ByOrder s) = subst Sent (sym s.after_is) tt
  sent_next group stage later a k (ByChange s) = subst Sent (sym s.after_is) tt
  sent_next group stage later a k (ByDeal s) = subst Sent (sym s.after_is) tt
  sent_next group stage later a k (ByPassing s) = subst Sent (sym s.after_is) tt
  sent_next group stage later a k (ByAsking s) = subst Sent (sym s.after_is) tt
  sent_next group stage later a k (ByTaking t) = sent_taken group stage later a t
  sent_next group stage later a k (ByVote s) = subst Sent (sym s.after_is) tt
  sent_next group stage later a k (ByNo s) = subst Sent (sym s.after_is) tt
  sent_next group stage later a k (ByHearing s) = subst Sent (sym s.after_is) tt
  sent_next group stage later a k (ByDeciding s) = subst Sent (sym s.after_is) (sent_closing s.deal.tx s.deal.asked s.deal.turn s.host)
  sent_next group stage later a k (ByEnd (LastFreed tx party b leg own then_)) = subst Sent (sym then_) tt
  sent_next group stage later a k (ByEnd (OneFreed tx one two b leg own then_)) = subst Sent (sym then_) tt
  sent_next group stage later a k (ByEnd (TwoFreed tx one two b leg own then_)) = subst Sent (sym then_) tt

  -- so it was sent at the next stage too
  pub refusal_on : (event : Event OrderLine) (stage later : Stage) → IsAt stage (scene_at births rows) → IsRefusalSent (mails rows) stage → (later ≡ stage) ⊎ GoesBy rows event stage later → IsRefusalSent (mails (rows ++ row ∷ [])) later
  refusal_on event stage later a k (inl e) = subst Sent (sym e) (same_then stage k)
  refusal_on event stage later a k (inr g) = sent_next g.group stage later a k g.step
