-- What a leader has in flight of an order is true: where it asks, and where its group votes.
use Rattle.std.proofs.Common.{◌≡◌, ℕ, Bool, true, false, true≢false, cond, List, [], ◌∷◌, Option, Some, None, inl, inr, refl, sym, ◌∙◌, ap, subst}
use Rattle.std.proofs.lemmas.Bool.{cases_Bool, cond-true, cond-false, cond_both}
use Rattle.sc_base.specs.Definitions.{Among, Each, same_draw, is_member}
use Rattle.sc_node_table.specs.Values.{Draw, Body, Watch, Command, Split, Begin, Prepared, RecordVote, Finish, Watched, RecordWatch, Base, Core, Coordinating, Free, Effect, NoEffect, Voted, Route, OrderRefusal, No, Flight, Seat, Promised, Watching, Apart}
use Rattle.sc_base.proofs.Lemmas.{same_name}
use Rattle.sc_words.specs.commands.CommandDefinitions.{is_alone, is_changed}
use Rattle.sc_words.specs.declared.commands.bodies.Body.TheVariants as At
use Rattle.sc_group_table.specs.machine.MachineDefinitions.{Group, applied, split_group, body_refused, locked_in, ordered, refusal_of, refused_in, has_named, left_group, begun_group, has_voted, no_of, past_of, voted_on, watch_no, watch_vote_of, merged_link, right_link, vote_of}
use Rattle.sc_node_table.specs.NodeDefinitions.{ReplicaState}
use Rattle.sc_words.proofs.PaxosProofs.PaxosLemmas.{Each-among}
use Rattle.sc_scenario.specs.declared.scenario.scenarios.Scenario.{Scenario}
use Rattle.sc_meaning.specs.sound.SoundDefinitions.{as_nodes, births, world_at, Lawful, Player, schedule, system_of, IsOneMap}
use Rattle.sc_law_entries.specs.names.NameDefinitions.{CoreNames, IsUsed, NamesAreDrawn}
use Rattle.sc_live_steps.specs.calm.CalmDefinitions.{Rows, StandsQuiet}
use Rattle.sc_live_steps.specs.orders.OrderDefinitions.{IsBegun, work_by, Answers, Ends, First, Here, Lone, Next, Opens, Records, Turn, Work, is_watch, Deal, IsAt, IsOrder, Stage, Weighs, heard, heard_lead}
use Rattle.sc_live_journals.specs.scenes.SceneDefinitions.{StaysIn, IsThere, scene_at}
use Rattle.sc_live_answers.specs.AnswerDefinitions.{IsTrueEntry, HasDone, Promising, doer, heard_doer, opened, IsAskedOrCast, LeadsSince, VotesAreTrue, IsAllowedBy, LockIsRecorded, ReplicasAreRecorded, IsTrueSince}
use Rattle.sc_actor.proofs.Lemmas.{lawful-prefix}
use Rattle.sc_live_plain.specs.PlainDefinitions.{replicas_after}
use Rattle.sc_live_journals.specs.rows.RowDefinitions.{view_at}
use Rattle.sc_live_journals.proofs.ScenesProofs.SceneLemmas.{tell}
use Rattle.sc_law_entries.specs.logs.LogDefinitions.{AreItsLogs}
use Rattle.sc_law_entries.specs.ring.RingDefinitions.{Story, unsigned_watch, watch_with}
use Rattle.sc_scenario.specs.scenario.Definitions.{ValidScenariosAreBounded}
use Rattle.sc_law_groups.specs.whole.WholeDefinitions.{ValidEntriesAreLogs, ValidJournalsAreSound}
use Rattle.sc_live_answers.proofs.RestProofs.LeaderWork.{IsWorkAt, OfOrder, OfOutcome, OfQuestion, OfVote, at_stage, stands_in, was_there}
use Rattle.sc_live_answers.proofs.ReplicasProofs.Names.{has_not_voted, used_in}
use Rattle.sc_live_answers.proofs.VotesProofs.OpenedTransactions.{IsOpened}
use Rattle.sc_live_answers.proofs.WorkProofs.Parties.{Coordinates}
use Rattle.sc_live_answers.proofs.WorkProofs.PartiesSinceQuiet.{both, coords, flights_at, free_first, led_first, locks_at, next_is, shared_begins, there_of, tx_is}
use Rattle.std.proofs.lemmas.Option.{same_Some}
use Rattle.sc_live_answers.proofs.ErrandsProofs.QuestionHints.{no_deeds}
use Rattle.sc_live_answers.proofs.VotesProofs.TransactionTurns.{lone_split}
use Rattle.sc_live_answers.proofs.VotesProofs.RecordedVotes.{pred_at, own_id}

-- ---- a leader that stays

-- by these groups it stays: it stands, and the node is a member
abbrev pub IsIn : ℕ → Group → Type 0
IsIn me group = (group.core.gone ≡ None) × (is_member group.core.members me ≡ true)

-- an order is carried out, or changes nothing
ordered_in : (me : ℕ) (gone : Option Route) (why : Option OrderRefusal) (after group : Group) → IsIn me group → IsIn me after → IsIn me (ordered gone why after group).0
ordered_in me (Some into) why after group g a = g
ordered_in me None (Some why) after group g a = g
ordered_in me None None after group g a = a

named_in : (me : ℕ) (b : Bool) (one other : Group × Effect) → IsIn me one.0 → IsIn me other.0 → IsIn me (cond b one other).0
named_in me true one other a b = a
named_in me false one other a b = b

stays_of : (me : ℕ) (group : Group) (command : Command) → IsIn me (applied group command).0 → StaysIn command me group
stays_of me group command i = record { stands = i.0; mine = i.1 }

split_in : (me : ℕ) (group : Group) (at : ℕ) (child : Draw) (order : ℕ) → IsIn me group → is_alone group.core ≡ false → StaysIn (Split at child order) me group
split_in me group at child order i alone =
    let locked : IsIn me (split_group group at child order) = subst (IsIn me) (sym (cond-false (is_alone group.core) (left_group group at child) (begun_group group child (At.Split at child) order) alone)) i in
    stays_of me group (Split at child order)
    (named_in me (has_named group.core child) (group, NoEffect child) (ordered group.core.gone (refusal_of group.core (Split at child order)) (split_group group at child order) group) i
    (ordered_in me group.core.gone (refusal_of group.core (Split at child order)) (split_group group at child order) group i locked))

begin_in : (me : ℕ) (group : Group) (tx : Draw) (body : Body) (order : ℕ) → IsIn me group → StaysIn (Begin tx body order) me group
begin_in me group tx body order i =
    stays_of me group (Begin tx body order)
    (named_in me (has_named group.core tx) (group, NoEffect tx) (ordered group.core.gone (refusal_of group.core (Begin tx body order)) (begun_group group tx body order) group) i
    (ordered_in me group.core.gone (refusal_of group.core (Begin tx body order)) (begun_group group tx body order) group i i))

vote_in : (me : ℕ) (group : Group) (why : Option No) (bond : _) (tx : Draw) → IsIn me group → IsIn me (voted_on why bond group tx).0
vote_in me group why bond tx i = named_in me (has_voted group.core tx) (group, NoEffect tx) (record group { core = record group.core { lock = _; voted = _ } }, Voted (past_of why)) i i

-- ---- an order that begins a transaction is one of a group that has a neighbour

other_named : (core : Core) → is_alone core ≡ false → core.succ.group ≡ core.id → ⊥
other_named core alone e = true≢false (sym (same_name core.succ.group core.id e) ∙ alone)

refused_not : (lock : Option Draw) (core : Core) (tx : Draw) (body : Body) (order : ℕ) → refused_in lock core (Begin tx body order) ≡ None → is_alone core ≡ false
refused_not (Some t) core tx body order e = cc
refused_not None core tx body order e = elim (cases_Bool (is_alone core)) [
  | inl t ↦ (let bad : None ≡ Some _ = sym e ∙ cond-true (is_alone core) (Some _) (body_refused body core) t in cc)
  | inr f ↦ f
]

ordered_not : (gone : Option Route) (lock : Option Draw) (core : Core) (tx : Draw) (body : Body) (order : ℕ) (after group : Group) → is_changed (ordered gone (refused_in lock core (Begin tx body order)) after group).1 ≡ true → is_alone core ≡ false
ordered_not gone lock core tx body order after group e = by gone (refused_in lock core (Begin tx body order)) refl e
  where
    by : (gone : Option Route) (why : Option OrderRefusal) → refused_in lock core (Begin tx body order) ≡ why → is_changed (ordered gone why after group).1 ≡ true → is_alone core ≡ false
    by (Some into) why fact c = absurd (true≢false (sym c))
    by None (Some why) fact c = absurd (true≢false (sym c))
    by None None fact c = refused_not lock core tx body order fact

changed_not : (group : Group) (tx : Draw) (body : Body) (order : ℕ) → is_changed (applied group (Begin tx body order)).1 ≡ true → is_alone group.core ≡ false
changed_not group tx body order =
    cond_both (has_named group.core tx) (group, NoEffect tx) (ordered group.core.gone (refusal_of group.core (Begin tx body order)) (begun_group group tx body order) group)
    (λ (x : Group × Effect). is_changed x.1 ≡ true → is_alone group.core ≡ false) (λ _ c. absurd (true≢false (sym c)))
    (λ _ c. ordered_not group.core.gone (locked_in group.core.lock) group.core tx body order (begun_group group tx body order) group c)

-- ---- what is asked of a watcher

same_watch : (scenario : Scenario) (journal : Rows) (tx one other : Draw) (watch again : Watch) → IsAllowedBy scenario journal one (Watched tx watch) → IsAllowedBy scenario journal other (Watched tx again) → watch.old ≡ again.old
same_watch scenario journal tx one other watch again a b =
    let same : Some a.0 ≡ Some b.0 = sym a.1 ∙ b.1 in
    let story : a.0 ≡ b.0 = cc in
    let asked : Some (unsigned_watch watch) ≡ Some (unsigned_watch again) = sym a.2 ∙ (ap (λ (s : Story). s.watch) story ∙ b.2) in
    let fact : unsigned_watch watch ≡ unsigned_watch again = cc in
    ap (λ (w : Watch). w.old) fact

watch_none : (core : Core) (watch : Watch) → core.gone ≡ None → core.lock ≡ Free → core.pred.group ≡ watch.old → watch_vote_of core watch ≡ None
watch_none core watch gone free pred =
    ap (λ g. no_of g (locked_in core.lock) (watch_no core watch)) gone ∙ (ap (λ l. no_of None (locked_in l) (watch_no core watch)) free ∙ cond-true (same_draw core.pred.group watch.old) None (Some Apart) (same_name core.pred.group watch.old pred))

same_answer : (tx tx2 coord coord2 : Draw) (w w2 : Bool) (by by2 : ℕ) → Answers tx coord w by ≡ Answers tx2 coord2 w2 by2 → (tx ≡ tx2) × (w ≡ w2)
same_answer tx tx2 coord coord2 w w2 by by2 e = (cc, cc)

-- ---- a leader

module _ (tells : ReplicasAreRecorded) (sound : ValidJournalsAreSound) (logs : ValidEntriesAreLogs) (bounded : ValidScenariosAreBounded) (drawn : NamesAreDrawn) (words : ℕ → ℕ → ℕ × ℕ) (scenario : Scenario) (first : Base) (journal quiet rows : Rows) (name : Draw) (node : ℕ)
    (r : ReplicaState) (stage : Stage) (l : LeadsSince words scenario first journal quiet rows name node r stage) where
  abbrev all : List (Seat Player)
  all = births as_nodes scenario

  pub quiet_lawful : Lawful as_nodes words scenario quiet
  quiet_lawful = lawful-prefix (system_of as_nodes words scenario) (schedule scenario) quiet l.rests.prefix.more (subst (Lawful as_nodes words scenario) l.rests.prefix.fact l.calm.lawful)

  pub the_map : IsOneMap (world_at as_nodes scenario.groups quiet)
  the_map = (sound as_nodes refl words scenario l.calm.valid journal l.calm.lawful quiet l.rests.prefix.more l.rests.prefix.fact).whole

  pub the_logs : AreItsLogs as_nodes scenario.groups quiet
  the_logs = logs as_nodes refl words scenario l.calm.valid quiet quiet_lawful

  pub used : (who : Draw) (at : ℕ) (x : ReplicaState) → view_at (births as_nodes scenario) quiet who at ≡ Some x → CoreNames (IsUsed as_nodes scenario quiet) x.group.core
  used who at x has = used_in drawn words scenario quiet (bounded scenario l.calm.valid) quiet_lawful who at x has

  -- ---- one that is asked

  module _ (deal : Deal) (host : ℕ) (fact : stage ≡ Weighs deal host) (own : deal.asked ≡ name) where
    pub stands : IsAt (Weighs deal host) (scene_at (births as_nodes scenario) rows)
    stands = subst (λ x. IsAt x (scene_at all rows)) fact l.untouched.stands

    pub since : IsTrueSince scenario quiet rows (Weighs deal host)
    since = subst (IsTrueSince scenario quiet rows) fact l.true_since

    abbrev d : HasDone (births as_nodes scenario) quiet rows (doer deal.asked host [])
    d = since.done.1.0

    abbrev c : HasDone (births as_nodes scenario) quiet rows (doer deal.coord deal.chief (opened deal.tx deal.turn))
    c = since.done.0

    host_is : host ≡ node
    host_is = same_Some host node (sym stands.leads.1.0 ∙ (ap (scene_at all rows).lead own ∙ (tell.led all rows name node r l.leads).0))

    now_is : d.now ≡ r
    now_is = same_Some d.now r (sym d.fact ∙ (ap (λ h. view_at all rows deal.asked h) host_is ∙ (ap (λ n. view_at all rows n node) own ∙ l.leads.is_there)))

    -- it is as it was in the quiet
    pub group_is : r.group ≡ d.first.group
    group_is = ap (λ (x : ReplicaState). x.group) (sym now_is) ∙ no_deeds d.entries d.first.group d.now.group d.did d.group_is

    pub unvoted_there : has_voted r.group.core deal.tx ≡ false
    unvoted_there = ap (λ (g : Group). has_voted g.core deal.tx) group_is ∙ has_not_voted (IsUsed as_nodes scenario quiet) deal.tx since.new.0 d.first.group.core (used deal.asked host d.first d.was)

    free_there : r.group.core.lock ≡ Free
    free_there = ap (λ (g : Group). g.core.lock) group_is ∙ free_first tells words scenario first journal quiet rows l.prefix.more l.prefix.fact l.calm l.rests l.seen (doer deal.asked host []) d

    its_stand : (s : StandsQuiet (replicas_after scenario quiet) deal.asked) × (d.first ≡ s.lead)
    its_stand = led_first tells words scenario first journal quiet rows l.prefix.more l.prefix.fact l.calm l.rests l.seen (doer deal.asked host []) d

    -- its predecessor is whom the one before it names
    pred_of : (who : Draw) (q : StandsQuiet (replicas_after scenario quiet) who) → deal.asked ≡ q.lead.group.core.succ.group → r.group.core.pred.group ≡ who
    pred_of who q e = ap (λ (g : Group). g.core.pred.group) group_is ∙ (ap (λ (x : ReplicaState). x.group.core.pred.group) its_stand.1 ∙ pred_at tells sound logs words scenario first journal quiet rows name node r stage l who q deal.asked e its_stand.0)

    coord_locks : LockIsRecorded scenario journal deal.coord c.now.group
    coord_locks =
        locks_at tells words scenario first journal quiet rows l.prefix.more l.prefix.fact l.calm l.rests l.seen deal.coord deal.chief c.now
        (there_of tells words scenario first journal quiet rows l.prefix.more l.prefix.fact l.calm l.rests l.seen (doer deal.coord deal.chief (opened deal.tx deal.turn)) c) c.fact

    coord_stand : (s : StandsQuiet (replicas_after scenario quiet) deal.coord) × (c.first ≡ s.lead)
    coord_stand = led_first tells words scenario first journal quiet rows l.prefix.more l.prefix.fact l.calm l.rests l.seen (doer deal.coord deal.chief (opened deal.tx deal.turn)) c

    made : Coordinates c.first.group deal.tx deal.asked deal.turn c.now.group
    made = coords tells words scenario first journal quiet rows l.prefix.more l.prefix.fact l.calm l.rests l.seen deal stands.leads.0 (ap (λ (h : Here). h.bond) stands.parties.0.0) c

    abbrev Pred : Watch → Type 0
    Pred watch = r.group.core.pred.group ≡ watch.old

    -- of a split
    lone_pred : deal.turn ≡ Lone → (watch : Watch) → IsAllowedBy scenario journal name (Watched deal.tx watch) → Pred watch
    lone_pred e watch a =
        let o : IsOpened c.first.group deal.tx deal.asked Lone c.now.group = subst (λ t. Coordinates c.first.group deal.tx deal.asked t c.now.group) e made in
        let b = lone_split c.first.group.core o.body o.turn_is in
        let lock : c.now.group.core.lock ≡ Coordinating deal.tx (At.Split b.0 b.1) o.order None = ap (λ (g : Group). g.core.lock) o.fact ∙ ap (λ x. Coordinating deal.tx x o.order None) b.2 in
        let core = c.now.group.core in
        let asks = watch_with core core.succ.group core.id (right_link core b.1) in
        let old = same_watch scenario journal deal.tx name asks.part watch asks a (coord_locks.asks deal.tx (At.Split b.0 b.1) o.order None lock asks refl) in
        pred_of deal.coord coord_stand.0 (o.asked_is ∙ ap (λ (x : ReplicaState). x.group.core.succ.group) coord_stand.1)
        ∙ (sym (own_id tells sound logs words scenario first journal quiet rows name node r stage l (doer deal.coord deal.chief (opened deal.tx deal.turn)) c) ∙ (ap (λ (g : Group). g.core.id) (sym o.fact) ∙ sym old))

    -- of a merge
    next_pred : (part : Draw) (at : ℕ) → deal.turn ≡ Next part at → (watch : Watch) → IsAllowedBy scenario journal name (Watched deal.tx watch) → Pred watch
    next_pred part at e watch a =
        let p : HasDone all quiet rows (doer part at (Promising deal.tx ∷ [])) = (subst (λ t. Each (HasDone all quiet rows) (heard_doer deal.tx t)) e since.done.1.1).0 in
        let lead = (subst (λ t. Each (λ (x : Draw × ℕ). (scene_at all rows).lead x.0 ≡ Some x.1) (heard_lead t)) e stands.leads.1.1).0 in
        let bond = ap (λ (h : Here). h.bond) (subst (λ t. Each (λ (x : Draw × Here). (scene_at all rows).at x.0 ≡ x.1) (heard deal.tx t)) e stands.parties.0.1.1).0 in
        let b = both tells words scenario first journal quiet rows l.prefix.more l.prefix.fact l.calm l.rests l.seen deal stands.leads.0 (ap (λ (h : Here). h.bond) stands.parties.0.0) c part at e lead bond p in
        let tx = tx_is tells words scenario first journal quiet rows l.prefix.more l.prefix.fact l.calm l.rests l.seen deal stands.leads.0 (ap (λ (h : Here). h.bond) stands.parties.0.0) c part at e lead bond p in
        let next = next_is tells words scenario first journal quiet rows l.prefix.more l.prefix.fact l.calm l.rests l.seen deal stands.leads.0 (ap (λ (h : Here). h.bond) stands.parties.0.0) c part at e lead bond p in
        let stood = led_first tells words scenario first journal quiet rows l.prefix.more l.prefix.fact l.calm l.rests l.seen (doer part at (Promising deal.tx ∷ [])) p in
        let core = c.now.group.core in
        let lock : core.lock ≡ Coordinating deal.tx At.Merge b.heard.order (Some b.heard.heard) = ap (λ (g : Group). g.core.lock) b.heard.fact ∙ ap (λ t. Coordinating t At.Merge b.heard.order (Some b.heard.heard)) tx in
        let asks = watch_with core b.heard.heard.frozen.succ.group core.succ.group (merged_link core b.heard.heard.frozen) in
        let old = same_watch scenario journal deal.tx name asks.part watch asks a (coord_locks.asks deal.tx At.Merge b.heard.order (Some b.heard.heard) lock asks refl) in
        pred_of part stood.0 (next ∙ ap (λ (x : ReplicaState). x.group.core.succ.group) stood.1) ∙ (b.heard.part_is ∙ (ap (λ (g : Group). g.core.succ.group) (sym b.heard.fact) ∙ sym old))

    pub pred_old : (turn : Turn) → deal.turn ≡ turn → is_watch turn ≡ true → (watch : Watch) → IsAllowedBy scenario journal name (Watched deal.tx watch) → r.group.core.pred.group ≡ watch.old
    pred_old First e w watch a = absurd (true≢false (sym w))
    pred_old Lone e w watch a = lone_pred e watch a
    pred_old (Next part at) e w watch a = next_pred part at e watch a

  -- ---- by the command

  module _ (flight : Flight Command) (among : Among flight r.leader.flights) where
    allowed_there : IsThere (births as_nodes scenario) quiet name → IsAllowedBy scenario journal name flight.value
    allowed_there there =
        Each-among (λ (f : Flight Command). IsAllowedBy scenario journal name f.value) r.leader.flights flight
        (flights_at tells words scenario first journal quiet rows l.prefix.more l.prefix.fact l.calm l.rests l.seen name node r there l.leads.is_there) among

    module _ (work : Work) (fact : work_by flight.value ≡ Some work) where
      there : IsThere (births as_nodes scenario) quiet name
      there = was_there tells words scenario first journal quiet rows name node r stage l flight among work fact

      stays : IsIn r.me r.group
      stays = stands_in tells words scenario first journal quiet rows name node r stage l there

      answers : (tx coord : Draw) (watch : Bool) (by : ℕ) → work ≡ Answers tx coord watch by → IsWorkAt stage name work → (has_voted r.group.core tx ≡ false) × ((asks : Watch) → watch ≡ true → IsAllowedBy scenario journal name (Watched tx asks) → watch_vote_of r.group.core asks ≡ None)
      answers tx coord watch by w (OfQuestion deal host e own k) =
          let both = same_answer deal.tx tx deal.coord coord (is_watch deal.turn) watch deal.chief by (k ∙ w) in (
            subst (λ t. has_voted r.group.core t ≡ false) both.0 (unvoted_there deal host e own),
            λ asks watches a. watch_none r.group.core asks stays.0 (free_there deal host e own)
                (pred_old deal host e own deal.turn refl (both.1 ∙ watches) asks (subst (λ t. IsAllowedBy scenario journal name (Watched t asks)) (sym both.0) a)),
          )
      answers tx coord watch by w (OfOrder chief e) = absurd (order_no (subst (λ x. IsAt x (scene_at all rows)) e l.untouched.stands).sound w)
        where
          order_no : IsOrder work → work ≡ Answers tx coord watch by → ⊥
          order_no o e = subst IsOrder e o
      answers tx coord watch by w (OfVote deal agreed host e own k) = absurd (vote_no (k ∙ w))
        where
          vote_no : Records deal.tx (is_watch deal.turn) agreed host ≡ Answers tx coord watch by → ⊥
          vote_no e = cc
      answers tx coord watch by w (OfOutcome t k ending) = absurd (end_no (k ∙ w))
        where
          end_no : Ends t ≡ Answers tx coord watch by → ⊥
          end_no e = cc

    by_command : (command : Command) → flight.value ≡ command → IsAskedOrCast command → IsTrueEntry r.me r.group command
    by_command (Split at child order) e k =
        let t = stays (Opens child) (ap work_by e) in
        λ alone changed. (split_in r.me r.group at child order t alone, other_named r.group.core alone)
    by_command (Begin tx body order) e k =
        let t = stays (Opens tx) (ap work_by e) in
        let so : IsBegun body = shared_begins scenario journal name (Begin tx body order) (subst (IsAllowedBy scenario journal name) e (allowed_there (there (Opens tx) (ap work_by e)))) in
        λ changed. (so, (begin_in r.me r.group tx body order t, other_named r.group.core (changed_not r.group tx body order changed)))
    by_command (Prepared tx offer) e k =
        let work = Answers tx offer.coord false offer.by in
        let a = answers work (ap work_by e) tx offer.coord false offer.by refl (at_stage tells words scenario first journal quiet rows name node r stage l flight among work (ap work_by e)) in
        (a.0, stays_of r.me r.group (Prepared tx offer) (vote_in r.me r.group (vote_of r.group.core offer) (Promised tx offer) tx (stays work (ap work_by e))))
    by_command (Watched tx watch) e k =
        let work = Answers tx watch.coord true watch.by in
        let a = answers work (ap work_by e) tx watch.coord true watch.by refl (at_stage tells words scenario first journal quiet rows name node r stage l flight among work (ap work_by e)) in
        (a.0, (a.1 watch refl (subst (IsAllowedBy scenario journal name) e (allowed_there (there work (ap work_by e)))), stays_of r.me r.group (Watched tx watch) (vote_in r.me r.group (watch_vote_of r.group.core watch) (Watching tx watch) tx (stays work (ap work_by e)))))
    by_command (RecordVote tx vote by) e k = absurd k
    by_command (RecordWatch tx vote by) e k = absurd k
    by_command (Finish tx outcome) e k = absurd k
    by_command _ e k = tt

    cast_true : IsAskedOrCast flight.value → IsTrueEntry r.me r.group flight.value
    cast_true k = by_command flight.value refl k

pub votes_true : ReplicasAreRecorded → ValidJournalsAreSound → ValidEntriesAreLogs → ValidScenariosAreBounded → NamesAreDrawn → VotesAreTrue
votes_true tells sound logs bounded drawn words scenario first journal quiet rows name node r stage l flight among k = cast_true tells sound logs bounded drawn words scenario first journal quiet rows name node r stage l flight among k
