-- What the leaders of a stage have executed, by the stage after a delivery.
use Rattle.std.proofs.Common.{◌≡◌, ℕ, Bool, true, false, List, [], ◌∷◌, ◌++◌, Some, ◌⊎◌, inl, inr, refl, sym, ◌∙◌, ap, subst}
use Rattle.sc_base.specs.Definitions.{Each}
use Rattle.sc_node_table.specs.Values.{Draw, Command, Seat, Deliver, Flight}
use Rattle.sc_actor.specs.Definitions.{numbers_of}
use Rattle.sc_group_table.specs.machine.MachineDefinitions.{applied}
use Rattle.sc_node_table.specs.NodeDefinitions.{ReplicaState}
use Rattle.sc_live_orderly.specs.OrderlyDefinitions.{AreInTime}
use Rattle.sc_words.proofs.PaxosProofs.PaxosLemmas.{Each-among}
use Rattle.sc_meaning.specs.sound.SoundDefinitions.{Player}
use Rattle.sc_live_steps.specs.calm.CalmDefinitions.{players, Rows}
use Rattle.sc_live_steps.specs.orders.OrderDefinitions.{IsTaken, OfQuestion, OfVote, OfOutcome, LastTakes, OneTakes, TwoTakes, LastFreed, OneFreed, TwoFreed, IsStepOf, ByRest, ByOrder, ByChange, ByDeal, ByPassing, ByAsking, ByTaking, ByVote, ByNo, ByHearing, ByDeciding, ByEnd, closed, work_by, works, Turn, First, Lone, Next, is_watch, Work, Opens, Answers, Records, Here, Scene, Asks, Closes, ClosesBoth, Deal, Filed, IsAt, Leg, Mailed, Ordered, Party, Recorded, Replied, SentOn, Stage, Still, Weighs, closing, heard, heard_lead}
use Rattle.sc_live_journals.specs.rows.RowDefinitions.{view_at, IsSeat, with_event}
use Rattle.sc_live_journals.specs.scenes.SceneDefinitions.{FindsOrder, is_running, scene_at, work_at, works_of}
use Rattle.sc_live_journals.proofs.ScenesProofs.SceneLemmas.{lead_runs}
use Rattle.sc_live_answers.specs.AnswerDefinitions.{AreDeeds, BeginsSo, Deed, Doer, FlightsBeginSo, HasDone, HasStepped, Rested, Executed, Hearing, IsDeed, Opening, Promising, Voting, closing_doer, doer, doers_of, heard_doer, opened, voted}
use Rattle.sc_live_answers.proofs.WorkProofs.LeaderDeliveries.{Comes, goes_on}
use Rattle.sc_group_table.proofs.MachineProofs.Lemmas.{state_push}

-- ---- entries

deeds_push : (deeds : List Deed) (entries : List Command) (deed : Deed) (command : Command) → AreDeeds deeds entries → IsDeed deed command → AreDeeds (deeds ++ deed ∷ []) (entries ++ command ∷ [])
deeds_push [] [] deed command are fact = (fact, tt)
deeds_push [] (entry ∷ entries) deed command are fact = absurd are
deeds_push (first ∷ deeds) [] deed command are fact = absurd are
deeds_push (first ∷ deeds) (entry ∷ entries) deed command are fact = (are.0, deeds_push deeds entries deed command are.1 fact)

-- a promise is a vote
votes_too : (tx : Draw) (entries : List Command) → AreDeeds (Promising tx ∷ []) entries → AreDeeds (Voting tx ∷ []) entries
votes_too tx [] are = absurd are
votes_too tx (entry ∷ entries) are = ((are.0.0, false, are.0.1, are.0.2), none entries are.1)
  where
    none : (entries : List Command) → AreDeeds [] entries → AreDeeds [] entries
    none [] a = tt
    none (e ∷ es) a = absurd a

-- ---- who leads in a scene

module _ (births : List (Seat Player)) (rows : Rows) (name : Draw) (host : ℕ) (r : ReplicaState) (leads : (scene_at births rows).lead name ≡ Some host) (has : view_at births rows name host ≡ Some r) where
  pub lead_runs_so : r.running ≡ true
  lead_runs_so = sym (ap is_running has) ∙ lead_runs (view_at births rows name) (numbers_of births) host leads

  pub lead_works : works r ≡ ((scene_at births rows).at name).work
  lead_works = sym (ap (work_at (view_at births rows name)) leads ∙ ap works_of has)

pub one_not_none : (work : Work) (xs : List Work) → xs ≡ work ∷ [] → xs ≡ [] → ⊥
one_not_none work xs e none = cc

pub same_one : (one other : Work) → one ∷ [] ≡ other ∷ [] → one ≡ other
same_one one other e = cc

module _ (words : ℕ → ℕ → ℕ × ℕ) (births : List (Seat Player)) (quiet rows : Rows) (seat : Seat Player) (number : ℕ) (born : IsSeat births seat) (timely : AreInTime (players words births) (with_event rows seat (Deliver number)))
    (finds : FindsOrder words births rows seat (Deliver number)) (begin_so : FlightsBeginSo births quiet rows) (before : Stage) (stands : IsAt before (scene_at births rows)) where
  abbrev now : Scene
  now = scene_at births rows

  abbrev after : Scene
  after = scene_at births (with_event rows seat (Deliver number))

  abbrev Was : Doer → Type 0
  Was it = HasDone births quiet rows it

  abbrev Has : Doer → Type 0
  Has it = HasDone births quiet (with_event rows seat (Deliver number)) it

  -- ---- one of them

  module _ (it : Doer) (d : Was it) (led : now.lead it.group ≡ Some it.host) (leads : after.lead it.group ≡ Some it.host) where
    to : Comes words births rows seat number born timely finds (before, stands) it.group it.host d.now
    to = goes_on words births rows seat number born timely finds (before, stands) it.group d.now (lead_runs_so births rows it.group it.host d.now led d.fact) it.host d.fact

    was_work : works d.now ≡ (now.at it.group).work
    was_work = lead_works births rows it.group it.host d.now led d.fact

    has_work : works to.0 ≡ (after.at it.group).work
    has_work = lead_works births (with_event rows seat (Deliver number)) it.group it.host to.0 leads to.1

    -- one whose work goes on, or that has none, has executed no more
    keeps : ((now.at it.group).work ≡ []) ⊎ ((after.at it.group).work ≡ [] → ⊥) → Has it
    keeps kept = by to.2
      where
        by : HasStepped d.now to.0 → Has it
        by (Rested same rest) = record { first = d.first; was = d.was; led = d.led; now = to.0; fact = to.1; entries = d.entries; did = d.did; group_is = same ∙ d.group_is }
        by (Executed flight work among had fact none made) = elim kept [
          | inl idle ↦ absurd (one_not_none work (works d.now) had (was_work ∙ idle))
          | inr some ↦ absurd (some (sym has_work ∙ none))
        ]

    -- one whose work is gone has executed it
    runs : (deed : Deed) (work : Work) → (now.at it.group).work ≡ work ∷ [] → (after.at it.group).work ≡ [] → ((command : Command) → work_by command ≡ Some work → BeginsSo command → IsDeed deed command) → Has (doer it.group it.host (it.deeds ++ deed ∷ []))
    runs deed work one none deeds = by to.2
      where
        by : HasStepped d.now to.0 → Has (doer it.group it.host (it.deeds ++ deed ∷ []))
        by (Rested same rest) = elim rest [
          | inl idle ↦ absurd (one_not_none work (works d.now) (was_work ∙ one) idle)
          | inr some ↦ absurd (some (has_work ∙ none))
        ]
        by (Executed flight other among had fact gone made) =
            let same : other ≡ work = same_one other work (sym had ∙ (was_work ∙ one)) in
            let so : BeginsSo flight.value = Each-among (λ (f : Flight Command). BeginsSo f.value) d.now.leader.flights flight (begin_so it.group it.host d.now (it.host, d.first, d.was) d.fact (lead_runs_so births rows it.group it.host d.now led d.fact)) among in
            record {
              first = d.first;
              was = d.was;
              led = d.led;
              now = to.0;
              fact = to.1;
              entries = d.entries ++ flight.value ∷ [];
              did = deeds_push it.deeds d.entries deed flight.value d.did (deeds flight.value (fact ∙ ap Some same) so);
              group_is = made ∙ (ap (λ g. (applied g flight.value).0) d.group_is ∙ sym (state_push d.first.group d.entries flight.value));
            }

  -- ---- all of a stage

  heard_keeps : (tx : Draw) (turn : Turn) → Each (λ party. now.at party.0 ≡ party.1) (heard tx turn) → Each (λ lead. now.lead lead.0 ≡ Some lead.1) (heard_lead turn) → Each (λ lead. after.lead lead.0 ≡ Some lead.1) (heard_lead turn)
      → Each Was (heard_doer tx turn) → Each Has (heard_doer tx turn)
  heard_keeps tx First at led leads d = tt
  heard_keeps tx Lone at led leads d = tt
  heard_keeps tx (Next part host) at led leads d = (keeps (doer part host (Promising tx ∷ [])) d.0 led.0 leads.0 (inl (ap (λ (h : Here). h.work) at.0)), tt)

  -- a party keeps what it did as long as its work does not go
  closing_keeps : (tx : Draw) (party : Party) (leg : Leg) → now.at party.group ≡ closing tx leg party.host → (leg ≡ Filed → (after.at party.group).work ≡ [] → ⊥) → now.lead party.group ≡ Some party.host → after.lead party.group ≡ Some party.host
      → Was (closing_doer tx party) → Has (closing_doer tx party)
  closing_keeps tx party Mailed at on led leads d = keeps (closing_doer tx party) d led leads (inl (ap (λ (h : Here). h.work) at))
  closing_keeps tx party Filed at on led leads d = keeps (closing_doer tx party) d led leads (inr (on refl))

  closing_filed : (tx : Draw) (party : Party) → after.at party.group ≡ closing tx Filed party.host → (after.at party.group).work ≡ [] → ⊥
  closing_filed tx party at none = one_not_none _ (after.at party.group).work (ap (λ (h : Here). h.work) at) none

  closing_stays : (tx : Draw) (party : Party) → now.at party.group ≡ closing tx party.leg party.host → after.at party.group ≡ closing tx party.leg party.host → now.lead party.group ≡ Some party.host → after.lead party.group ≡ Some party.host
      → Was (closing_doer tx party) → Has (closing_doer tx party)
  closing_stays tx party at at_after led leads d =
      closing_keeps tx party party.leg at (λ filed. closing_filed tx party (at_after ∙ ap (λ l. closing tx l party.host) filed)) led leads d

  abbrev works_on : (name : Draw) (work : Work) → (after.at name).work ≡ work ∷ [] → ((now.at name).work ≡ []) ⊎ ((after.at name).work ≡ [] → ⊥)
  works_on name work e = inr (one_not_none work (after.at name).work e)

  abbrev pub Kept : Stage → Stage → Type 0
  Kept stage later = IsAt stage now → IsAt later after → Each Was (doers_of stage) → Each Has (doers_of later)

  -- a stage that stays
  pub stays : (stage : Stage) → Kept stage stage
  stays Still a b d = tt
  stays (Ordered group chief work) a b d = (keeps (doer group chief []) d.0 a.leads.0 b.leads.0 (works_on group work (ap (λ (h : Here). h.work) b.parties.0.0)), tt)
  stays (Asks deal host) a b d = (
    keeps (doer deal.coord deal.chief (opened deal.tx deal.turn)) d.0 a.leads.0 b.leads.0 (inl (ap (λ (h : Here). h.work) a.parties.0.0)),
    heard_keeps deal.tx deal.turn a.parties.0.1.1 a.leads.1 b.leads.1 d.1,
  )
  stays (SentOn deal) a b d = (
    keeps (doer deal.coord deal.chief (opened deal.tx deal.turn)) d.0 a.leads.0 b.leads.0 (inl (ap (λ (h : Here). h.work) a.parties.0.0)),
    heard_keeps deal.tx deal.turn a.parties.0.1.1 a.leads.1 b.leads.1 d.1,
  )
  stays (Weighs deal host) a b d = (
    keeps (doer deal.coord deal.chief (opened deal.tx deal.turn)) d.0 a.leads.0 b.leads.0 (inl (ap (λ (h : Here). h.work) a.parties.0.0)),
    (
      keeps (doer deal.asked host []) d.1.0 a.leads.1.0 b.leads.1.0 (works_on deal.asked _ (ap (λ (h : Here). h.work) b.parties.0.1.0)),
      heard_keeps deal.tx deal.turn a.parties.0.1.1 a.leads.1.1 b.leads.1.1 d.1.1,
    ),
  )
  stays (Replied deal agreed host) a b d = (
    keeps (doer deal.coord deal.chief (opened deal.tx deal.turn)) d.0 a.leads.0 b.leads.0 (inl (ap (λ (h : Here). h.work) a.parties.0.0)),
    (
      keeps (doer deal.asked host (voted deal.tx deal.turn)) d.1.0 a.leads.1.0 b.leads.1.0 (inl (ap (λ (h : Here). h.work) a.parties.0.1.0)),
      heard_keeps deal.tx deal.turn a.parties.0.1.1 a.leads.1.1 b.leads.1.1 d.1.1,
    ),
  )
  stays (Recorded deal agreed host) a b d = (
    keeps (doer deal.coord deal.chief (opened deal.tx deal.turn)) d.0 a.leads.0 b.leads.0 (works_on deal.coord _ (ap (λ (h : Here). h.work) b.parties.0.0)),
    (
      keeps (doer deal.asked host (voted deal.tx deal.turn)) d.1.0 a.leads.1.0 b.leads.1.0 (inl (ap (λ (h : Here). h.work) a.parties.0.1.0)),
      heard_keeps deal.tx deal.turn a.parties.0.1.1 a.leads.1.1 b.leads.1.1 d.1.1,
    ),
  )
  stays (Closes tx party) a b d = (closing_stays tx party a.parties.0.0 b.parties.0.0 a.leads.0 b.leads.0 d.0, tt)
  stays (ClosesBoth tx one two) a b d = (closing_stays tx one a.parties.0.0 b.parties.0.0 a.leads.0 b.leads.0 d.0, (closing_stays tx two a.parties.0.1.0 b.parties.0.1.0 a.leads.1.0 b.leads.1.0 d.1.0, tt))

  -- ---- steps

  -- one that gets an order asks
  deal_done : (tx group : Draw) (chief : ℕ) (turn : Turn) → (turn ≡ First) ⊎ (turn ≡ Lone) → Has (doer group chief (Opening tx ∷ [])) → Each Has (doer group chief (opened tx turn) ∷ heard_doer tx turn)
  deal_done tx group chief turn (inl e) h = subst (λ t. Each Has (doer group chief (opened tx t) ∷ heard_doer tx t)) (sym e) (h, tt)
  deal_done tx group chief turn (inr e) h = subst (λ t. Each Has (doer group chief (opened tx t) ∷ heard_doer tx t)) (sym e) (h, tt)

  opens : (group : Draw) (deal : Deal) (host : ℕ) → deal.coord ≡ group → (deal.turn ≡ First) ⊎ (deal.turn ≡ Lone) → Kept (Ordered group deal.chief (Opens deal.tx)) (Asks deal host)
  opens group deal host coord turn a b d =
      let at : (after.at group).work ≡ [] = ap (λ g. (after.at g).work) (sym coord) ∙ ap (λ (h : Here). h.work) b.parties.0.0 in
      let leads : after.lead group ≡ Some deal.chief = ap after.lead (sym coord) ∙ b.leads.0 in
      deal_done deal.tx deal.coord deal.chief deal.turn turn
      (subst (λ g. Has (doer g deal.chief (Opening deal.tx ∷ []))) (sym coord)
      (runs (doer group deal.chief []) d.0 a.leads.0 leads (Opening deal.tx) (Opens deal.tx) (ap (λ (h : Here). h.work) a.parties.0.0) at (λ command e so. (e, so))))

  passes : (deal : Deal) (host : ℕ) → Kept (Asks deal host) (SentOn deal)
  passes deal host a b d = (
    keeps (doer deal.coord deal.chief (opened deal.tx deal.turn)) d.0 a.leads.0 b.leads.0 (inl (ap (λ (h : Here). h.work) a.parties.0.0)),
    heard_keeps deal.tx deal.turn a.parties.0.1.1 a.leads.1 b.leads.1 d.1,
  )

  asks : (deal : Deal) (host : ℕ) → Kept (SentOn deal) (Asks deal host)
  asks deal host a b d = (
    keeps (doer deal.coord deal.chief (opened deal.tx deal.turn)) d.0 a.leads.0 b.leads.0 (inl (ap (λ (h : Here). h.work) a.parties.0.0)),
    heard_keeps deal.tx deal.turn a.parties.0.1.1 a.leads.1 b.leads.1 d.1,
  )

  -- the group that is asked takes the question, if its leader led in the quiet
  takes : (deal : Deal) (node host : ℕ) → (IsAt (Weighs deal host) after → Has (doer deal.asked host [])) → Kept (Asks deal node) (Weighs deal host)
  takes deal node host fresh a b d = (
    keeps (doer deal.coord deal.chief (opened deal.tx deal.turn)) d.0 a.leads.0 b.leads.0 (inl (ap (λ (h : Here). h.work) a.parties.0.0)),
    (
      fresh b,
      heard_keeps deal.tx deal.turn a.parties.0.1.1 a.leads.1 b.leads.1.1 d.1,
    ),
  )

  voted_done : (tx asked : Draw) (host : ℕ) (turn : Turn) (coord : Draw) (by : ℕ) → ((deed : Deed) → ((command : Command) → work_by command ≡ Some (Answers tx coord (is_watch turn) by) → BeginsSo command → IsDeed deed command) → Has (doer asked host (deed ∷ [])))
      → Has (doer asked host (voted tx turn))
  voted_done tx asked host First coord by h = h (Promising tx) (λ command e so. (coord, by, e))
  voted_done tx asked host Lone coord by h = h (Voting tx) (λ command e so. (coord, true, by, e))
  voted_done tx asked host (Next part node) coord by h = h (Voting tx) (λ command e so. (coord, true, by, e))

  votes : (deal : Deal) (agreed : Bool) (host : ℕ) → Kept (Weighs deal host) (Replied deal agreed host)
  votes deal agreed host a b d = (
    keeps (doer deal.coord deal.chief (opened deal.tx deal.turn)) d.0 a.leads.0 b.leads.0 (inl (ap (λ (h : Here). h.work) a.parties.0.0)),
    (
      voted_done deal.tx deal.asked host deal.turn deal.coord deal.chief
          (λ deed fact. runs (doer deal.asked host []) d.1.0 a.leads.1.0 b.leads.1.0 deed (Answers deal.tx deal.coord (is_watch deal.turn) deal.chief) (ap (λ (h : Here). h.work) a.parties.0.1.0) (ap (λ (h : Here). h.work) b.parties.0.1.0) fact),
      heard_keeps deal.tx deal.turn a.parties.0.1.1 a.leads.1.1 b.leads.1.1 d.1.1,
    ),
  )

  records : (deal : Deal) (agreed : Bool) (host : ℕ) → Kept (Replied deal agreed host) (Recorded deal agreed host)
  records deal agreed host a b d = (
    keeps (doer deal.coord deal.chief (opened deal.tx deal.turn)) d.0 a.leads.0 b.leads.0 (inl (ap (λ (h : Here). h.work) a.parties.0.0)),
    (
      keeps (doer deal.asked host (voted deal.tx deal.turn)) d.1.0 a.leads.1.0 b.leads.1.0 (inl (ap (λ (h : Here). h.work) a.parties.0.1.0)),
      heard_keeps deal.tx deal.turn a.parties.0.1.1 a.leads.1.1 b.leads.1.1 d.1.1,
    ),
  )

  abbrev asking : Draw → Draw → ℕ → Turn → List Doer
  asking tx coord chief turn = doer coord chief (opened tx turn) ∷ heard_doer tx turn

  hears : (deal next : Deal) (host node : ℕ) → deal.turn ≡ First → next.tx ≡ deal.tx → next.coord ≡ deal.coord → next.chief ≡ deal.chief → next.turn ≡ Next deal.asked host → Kept (Recorded deal true host) (Asks next node)
  hears deal next host node first tx coord chief turn a b d =
      let leads : after.lead deal.coord ≡ Some deal.chief = ap after.lead (sym coord) ∙ (b.leads.0 ∙ ap Some chief) in
      let part_leads : after.lead deal.asked ≡ Some host = (subst (λ t. Each (λ lead. after.lead lead.0 ≡ Some lead.1) (heard_lead t)) turn b.leads.1).0 in
      let at : (after.at deal.coord).work ≡ [] = ap (λ g. (after.at g).work) (sym coord) ∙ ap (λ (h : Here). h.work) b.parties.0.0 in
      let was : Was (doer deal.coord deal.chief (Opening deal.tx ∷ [])) = subst (λ t. Was (doer deal.coord deal.chief (opened deal.tx t))) first d.0 in
      let its : Was (doer deal.asked host (Promising deal.tx ∷ [])) = subst (λ t. Was (doer deal.asked host (voted deal.tx t))) first d.1.0 in
      let mine : Has (doer deal.coord deal.chief (Opening deal.tx ∷ Hearing deal.tx ∷ [])) =
      runs (doer deal.coord deal.chief (Opening deal.tx ∷ [])) was a.leads.0 leads (Hearing deal.tx) (Records deal.tx (is_watch deal.turn) true host) (ap (λ (h : Here). h.work) a.parties.0.0) at
      (λ command e so. (host, e ∙ ap (λ t. Some (Records deal.tx (is_watch t) true host)) first)) in
      let part : Has (doer deal.asked host (Promising deal.tx ∷ [])) = keeps (doer deal.asked host (Promising deal.tx ∷ [])) its a.leads.1.0 part_leads (inl (ap (λ (h : Here). h.work) a.parties.0.1.0)) in
      subst (λ t. Each Has (asking next.tx next.coord next.chief t)) (sym turn)
      (subst (λ x. Each Has (asking x next.coord next.chief (Next deal.asked host))) (sym tx)
      (subst (λ c. Each Has (asking deal.tx c next.chief (Next deal.asked host))) (sym coord) (subst (λ n. Each Has (asking deal.tx deal.coord n (Next deal.asked host))) (sym chief) (mine, (part, tt)))))

  -- a vote as a party keeps it
  as_party : (tx group : Draw) (host : ℕ) → Has (doer group host (Promising tx ∷ [])) → Has (doer group host (Voting tx ∷ []))
  as_party tx group host h = record { first = h.first; was = h.was; led = h.led; now = h.now; fact = h.fact; entries = h.entries; did = votes_too tx h.entries h.did; group_is = h.group_is }

  decides : (tx asked coord : Draw) (turn : Turn) (host : ℕ) → Each (λ lead. now.lead lead.0 ≡ Some lead.1) ((asked, host) ∷ heard_lead turn) → (now.at asked).work ≡ [] → Each (λ party. now.at party.0 ≡ party.1) (heard tx turn)
      → IsAt (closed tx asked turn host) after → Each Was (doer asked host (voted tx turn) ∷ heard_doer tx turn) → Each Has (doers_of (closed tx asked turn host))
  decides tx asked coord First host led idle at b d = (as_party tx asked host (keeps (doer asked host (Promising tx ∷ [])) d.0 led.0 b.leads.0 (inl idle)), tt)
  decides tx asked coord Lone host led idle at b d = (keeps (doer asked host (Voting tx ∷ [])) d.0 led.0 b.leads.0 (inl idle), tt)
  decides tx asked coord (Next part node) host led idle at b d = (
    as_party tx part node (keeps (doer part node (Promising tx ∷ [])) d.1.0 led.1.0 b.leads.0 (inl (ap (λ (h : Here). h.work) at.0))),
    (
      keeps (doer asked host (Voting tx ∷ [])) d.0 led.0 b.leads.1.0 (inl idle),
      tt,
    ),
  )

  -- a party that takes an outcome had no work
  took : (tx : Draw) (party : Party) → party.leg ≡ Mailed → now.at party.group ≡ closing tx party.leg party.host → now.lead party.group ≡ Some party.host → after.lead party.group ≡ Some party.host → Was (closing_doer tx party) → Has (closing_doer tx party)
  took tx party mailed at led leads d = keeps (closing_doer tx party) d led leads (inl (ap (λ (h : Here). h.work) (at ∙ ap (λ l. closing tx l party.host) mailed)))

  taken : (group : Draw) (stage later : Stage) → ((deal : Deal) (node host : ℕ) → stage ≡ Asks deal node → IsAt (Weighs deal host) after → Has (doer deal.asked host [])) → IsTaken group stage later → Kept stage later
  taken group stage later fresh (OfQuestion s) a b d =
      let made = takes s.deal s.to s.host (fresh s.deal s.to s.host s.before_is) (subst (λ x. IsAt x now) s.before_is a) (subst (λ x. IsAt x after) s.after_is b) (subst (λ x. Each Was (doers_of x)) s.before_is d) in
      subst (λ x. Each Has (doers_of x)) (sym s.after_is) made
  taken group stage later fresh (OfVote s) a b d =
      let made = records s.deal s.agreed s.host (subst (λ x. IsAt x now) s.before_is a) (subst (λ x. IsAt x after) s.after_is b) (subst (λ x. Each Was (doers_of x)) s.before_is d) in
      subst (λ x. Each Has (doers_of x)) (sym s.after_is) made
  taken group stage later fresh (OfOutcome (LastTakes tx party e l g f)) a b d =
      let was : IsAt (Closes tx party) now = subst (λ x. IsAt x now) e a in
      let has = subst (λ x. IsAt x after) f b in
      let done : Each Was (doers_of (Closes tx party)) = subst (λ x. Each Was (doers_of x)) e d in
      subst (λ x. Each Has (doers_of x)) (sym f) (took tx party l was.parties.0.0 was.leads.0 has.leads.0 done.0, tt)
  taken group stage later fresh (OfOutcome (OneTakes tx one two e l g f)) a b d =
      let was : IsAt (ClosesBoth tx one two) now = subst (λ x. IsAt x now) e a in
      let has = subst (λ x. IsAt x after) f b in
      let done : Each Was (doers_of (ClosesBoth tx one two)) = subst (λ x. Each Was (doers_of x)) e d in
      subst (λ x. Each Has (doers_of x)) (sym f) (
        took tx one l was.parties.0.0 was.leads.0 has.leads.0 done.0,
        (closing_stays tx two was.parties.0.1.0 has.parties.0.1.0 was.leads.1.0 has.leads.1.0 done.1.0, tt),
      )
  taken group stage later fresh (OfOutcome (TwoTakes tx one two e l g f)) a b d =
      let was : IsAt (ClosesBoth tx one two) now = subst (λ x. IsAt x now) e a in
      let has = subst (λ x. IsAt x after) f b in
      let done : Each Was (doers_of (ClosesBoth tx one two)) = subst (λ x. Each Was (doers_of x)) e d in
      subst (λ x. Each Has (doers_of x)) (sym f) (
        closing_stays tx one was.parties.0.0 has.parties.0.0 was.leads.0 has.leads.0 done.0,
        (took tx two l was.parties.0.1.0 was.leads.1.0 has.leads.1.0 done.1.0, tt),
      )

  -- So it is by each step of an order that is under way, where the group that takes a question led in the quiet.
  pub steps : (group : Draw) (stage later : Stage) → IsStepOf group stage later → (stage ≡ Still → ⊥) → ((deal : Deal) (node host : ℕ) → stage ≡ Asks deal node → IsAt (Weighs deal host) after → Has (doer deal.asked host [])) → Kept stage later
  steps group stage later (ByRest e) on fresh a b d = subst (λ x. Each Has (doers_of x)) (sym e) (stays stage a (subst (λ x. IsAt x after) e b) d)
  steps group stage later (ByOrder s) on fresh a b d = absurd (on s.before_is)
  steps group stage later (ByChange s) on fresh a b d = subst (λ x. Each Has (doers_of x)) (sym s.after_is) tt
  steps group stage later (ByDeal s) on fresh a b d =
      subst (λ x. Each Has (doers_of x)) (sym s.after_is)
      (opens group s.deal s.to s.coord_is s.turn_is (subst (λ x. IsAt x now) s.before_is a) (subst (λ x. IsAt x after) s.after_is b) (subst (λ x. Each Was (doers_of x)) s.before_is d))
  steps group stage later (ByPassing s) on fresh a b d =
      subst (λ x. Each Has (doers_of x)) (sym s.after_is) (passes s.deal s.to (subst (λ x. IsAt x now) s.before_is a) (subst (λ x. IsAt x after) s.after_is b) (subst (λ x. Each Was (doers_of x)) s.before_is d))
  steps group stage later (ByAsking s) on fresh a b d =
      subst (λ x. Each Has (doers_of x)) (sym s.after_is) (asks s.deal s.to (subst (λ x. IsAt x now) s.before_is a) (subst (λ x. IsAt x after) s.after_is b) (subst (λ x. Each Was (doers_of x)) s.before_is d))
  steps group stage later (ByTaking s) on fresh a b d = taken group stage later fresh s a b d
  steps group stage later (ByVote s) on fresh a b d =
      subst (λ x. Each Has (doers_of x)) (sym s.after_is) (votes s.deal s.agreed s.host (subst (λ x. IsAt x now) s.before_is a) (subst (λ x. IsAt x after) s.after_is b) (subst (λ x. Each Was (doers_of x)) s.before_is d))
  steps group stage later (ByNo s) on fresh a b d = subst (λ x. Each Has (doers_of x)) (sym s.after_is) tt
  steps group stage later (ByHearing s) on fresh a b d =
      subst (λ x. Each Has (doers_of x)) (sym s.after_is)
      (hears s.deal s.next s.host s.to s.first s.tx_same s.coord_same s.chief_same s.turn_is (subst (λ x. IsAt x now) s.before_is a) (subst (λ x. IsAt x after) s.after_is b) (subst (λ x. Each Was (doers_of x)) s.before_is d))
  steps group stage later (ByDeciding s) on fresh a b d =
      let was : IsAt (Recorded s.deal true s.host) now = subst (λ x. IsAt x now) s.before_is a in
      let done : Each Was (doers_of (Recorded s.deal true s.host)) = subst (λ x. Each Was (doers_of x)) s.before_is d in
      subst (λ x. Each Has (doers_of x)) (sym s.after_is)
      (decides s.deal.tx s.deal.asked s.deal.coord s.deal.turn s.host was.leads.1 (ap (λ (h : Here). h.work) was.parties.0.1.0) was.parties.0.1.1 (subst (λ x. IsAt x after) s.after_is b) done.1)
  steps group stage later (ByEnd (LastFreed tx party e l g f)) on fresh a b d = subst (λ x. Each Has (doers_of x)) (sym f) tt
  steps group stage later (ByEnd (OneFreed tx one two e l g f)) on fresh a b d =
      let was : IsAt (ClosesBoth tx one two) now = subst (λ x. IsAt x now) e a in
      let has : IsAt (Closes tx two) after = subst (λ x. IsAt x after) f b in
      let done : Each Was (doers_of (ClosesBoth tx one two)) = subst (λ x. Each Was (doers_of x)) e d in
      subst (λ x. Each Has (doers_of x)) (sym f) (closing_stays tx two was.parties.0.1.0 has.parties.0.0 was.leads.1.0 has.leads.0 done.1.0, tt)
  steps group stage later (ByEnd (TwoFreed tx one two e l g f)) on fresh a b d =
      let was : IsAt (ClosesBoth tx one two) now = subst (λ x. IsAt x now) e a in
      let has : IsAt (Closes tx one) after = subst (λ x. IsAt x after) f b in
      let done : Each Was (doers_of (ClosesBoth tx one two)) = subst (λ x. Each Was (doers_of x)) e d in
      subst (λ x. Each Has (doers_of x)) (sym f) (closing_stays tx one was.parties.0.0 has.parties.0.0 was.leads.0 has.leads.0 done.0, tt)
