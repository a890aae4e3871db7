-- An outcome that is in flight at a party can be taken there; so each that a leader has in flight of an order is true.
use Rattle.std.proofs.Common.{◌≡◌, ℕ, Bool, List, [], ◌∷◌, Some, refl, sym, ◌∙◌, ap, subst}
use Rattle.std.proofs.lemmas.Bool.{cond-true}
use Rattle.sc_base.specs.Definitions.{Among, same_draw}
use Rattle.sc_node_table.specs.Values.{Draw, Seat, Offer, Watch, Command, Split, Begin, Prepared, RecordVote, Finish, Watched, RecordWatch, Base, Free, Promised, Watching, NoEffect, Outcome, Flight}
use Rattle.sc_base.proofs.Lemmas.{same_name}
use Rattle.sc_actor.proofs.Lemmas.{lawful-prefix}
use Rattle.sc_group_table.specs.machine.MachineDefinitions.{finished, participant_after, settled_in, watch_ended, Group, state_after, applied, frozen_of}
use Rattle.sc_node_table.specs.NodeDefinitions.{ReplicaState}
use Rattle.sc_words.proofs.PaxosProofs.PaxosLemmas.{Each-among, Each-from}
use Rattle.sc_scenario.specs.declared.scenario.scenarios.Scenario.{Scenario}
use Rattle.sc_meaning.specs.sound.SoundDefinitions.{world_at, Lawful, Player, as_nodes, births, schedule, system_of, IsOneMap}
use Rattle.sc_law_groups.specs.whole.WholeDefinitions.{ValidEntriesAreLogs, ValidJournalsAreSound}
use Rattle.sc_law_entries.specs.logs.LogDefinitions.{AreItsLogs}
use Rattle.sc_live_steps.specs.calm.CalmDefinitions.{Rows}
use Rattle.sc_live_answers.specs.AnswerDefinitions.{IsTrueEntry, Doer, HasDone, Voting, doer, doers_of, LeadsSince, VotesAreTrue, EntriesAreTrue, HasOwnKeys, OutcomesAreTaken, RecordsAreTrue, IsAllowedBy, LockIsRecorded, ReplicasAreRecorded}
use Rattle.sc_live_steps.specs.orders.OrderDefinitions.{bond_of, work_by, Answers, Bound, Ends, Here, Records, Work, IsAt, IsOrder, Stage, leads_of, parties_of}
use Rattle.sc_live_journals.specs.rows.RowDefinitions.{view_at}
use Rattle.sc_live_journals.specs.scenes.SceneDefinitions.{IsThere, scene_at}
use Rattle.sc_live_journals.proofs.ScenesProofs.SceneLemmas.{tell}
use Rattle.sc_live_answers.proofs.VotesProofs.VoteEffects.{Decides}
use Rattle.sc_live_answers.proofs.RestProofs.LeaderWork.{IsEnding, IsWorkAt, OfOrder, OfOutcome, OfQuestion, OfVote, at_stage, was_there}
use Rattle.sc_live_answers.proofs.VotesProofs.OpenedTransactions.{ByOffer, ByWatch, IsBoundBy}
use Rattle.sc_live_answers.proofs.WorkProofs.Parties.{bound, lead_bond}
use Rattle.sc_live_answers.proofs.QuietProofs.QuietRing.{keys_of}
use Rattle.sc_live_answers.proofs.WorkProofs.PartiesSinceQuiet.{base_of, flights_at, free_first, led_first, locks_at}
use Rattle.std.proofs.lemmas.Option.{same_Some}

-- ---- the entry

participant_takes : (group : Group) (tx : Draw) (outcome : Outcome) (offer : Offer) (after : Group) → group.core.lock ≡ Promised tx offer → participant_after outcome group offer ≡ Some after → Decides (applied group (Finish tx outcome))
participant_takes group tx outcome offer after lock e =
    subst Decides
    (sym (ap (λ l. finished l group tx outcome) lock
    ∙ (cond-true (same_draw tx tx) (settled_in (participant_after outcome group offer) group tx outcome) (group, NoEffect tx) (same_name tx tx refl) ∙ ap (λ o. settled_in o group tx outcome) e)))
    (outcome, refl)

watcher_takes : (group : Group) (tx : Draw) (outcome : Outcome) (watch : Watch) → group.core.lock ≡ Watching tx watch → Decides (applied group (Finish tx outcome))
watcher_takes group tx outcome watch lock =
    subst Decides (sym (ap (λ l. finished l group tx outcome) lock ∙ cond-true (same_draw tx tx) (watch_ended outcome group tx watch) (group, NoEffect tx) (same_name tx tx refl))) (outcome, refl)

same_end : (t tx : Draw) → Ends t ≡ Ends tx → t ≡ tx
same_end t tx e = cc

-- ---- a leader

module _ (tells : ReplicasAreRecorded) (sound : ValidJournalsAreSound) (logs : ValidEntriesAreLogs) (taken : OutcomesAreTaken) (words : ℕ → ℕ → ℕ × ℕ) (scenario : Scenario) (first : Base) (journal quiet rows : Rows) (name : Draw) (node : ℕ)
    (r : ReplicaState) (stage : Stage) (l : LeadsSince words scenario first journal quiet rows name node r stage) where
  abbrev all : List (Seat Player)
  all = births as_nodes scenario

  quiet_lawful : Lawful as_nodes words scenario quiet
  quiet_lawful = lawful-prefix (system_of as_nodes words scenario) (schedule scenario) quiet l.rests.prefix.more (subst (Lawful as_nodes words scenario) l.rests.prefix.fact l.calm.lawful)

  the_map : IsOneMap (world_at as_nodes scenario.groups quiet)
  the_map = (sound as_nodes refl words scenario l.calm.valid journal l.calm.lawful quiet l.rests.prefix.more l.rests.prefix.fact).whole

  the_logs : AreItsLogs as_nodes scenario.groups quiet
  the_logs = logs as_nodes refl words scenario l.calm.valid quiet quiet_lawful

  module _ (flight : Flight Command) (among : Among flight r.leader.flights) (tx : Draw) (outcome : Outcome) (fact : flight.value ≡ Finish tx outcome) where
    there : IsThere (births as_nodes scenario) quiet name
    there = was_there tells words scenario first journal quiet rows name node r stage l flight among (Ends tx) (ap work_by fact)

    allowed_here : IsAllowedBy scenario journal name (Finish tx outcome)
    allowed_here =
        subst (IsAllowedBy scenario journal name) fact
        (Each-among (λ (f : Flight Command). IsAllowedBy scenario journal name f.value) r.leader.flights flight
        (flights_at tells words scenario first journal quiet rows l.prefix.more l.prefix.fact l.calm l.rests l.seen name node r there l.leads.is_there) among)

    no_order : (work : Work) → IsOrder work → work ≡ Ends tx → ⊥
    no_order work o e = subst IsOrder e o

    no_question : (t coord : Draw) (w : Bool) (n : ℕ) → Answers t coord w n ≡ Ends tx → ⊥
    no_question t coord w n e = cc

    no_vote : (t : Draw) (w a : Bool) (n : ℕ) → Records t w a n ≡ Ends tx → ⊥
    no_vote t w a n e = cc

    ends_at : IsWorkAt stage name (Ends tx) → IsEnding stage name tx
    ends_at (OfOutcome t k ending) = subst (IsEnding stage name) (same_end t tx k) ending
    ends_at (OfOrder chief e) = absurd (no_order (Ends tx) (subst (λ x. IsAt x (scene_at all rows)) e l.untouched.stands).sound refl)
    ends_at (OfQuestion deal host e own k) = absurd (no_question deal.tx deal.coord _ deal.chief k)
    ends_at (OfVote deal agreed host e own k) = absurd (no_vote deal.tx _ agreed host k)

    ending : IsEnding stage name tx
    ending = ends_at (at_stage tells words scenario first journal quiet rows name node r stage l flight among (Ends tx) (ap work_by fact))

    abbrev party : Doer
    party = doer name ending.host (Voting tx ∷ [])

    d : HasDone (births as_nodes scenario) quiet rows (doer name ending.host (Voting tx ∷ []))
    d = Each-among (HasDone all quiet rows) (doers_of stage) (doer name ending.host (Voting tx ∷ [])) l.true_since.done ending.done

    lead : (scene_at (births as_nodes scenario) rows).lead name ≡ Some ending.host
    lead = Each-among (λ (x : Draw × ℕ). (scene_at all rows).lead x.0 ≡ Some x.1) (leads_of stage) (name, ending.host) l.untouched.stands.leads ending.lead

    its_bond : ((scene_at (births as_nodes scenario) rows).at name).bond ≡ Bound tx
    its_bond = ap (λ (h : Here). h.bond) (Each-among (λ (x : Draw × Here). (scene_at all rows).at x.0 ≡ x.1) (parties_of stage) (name, ending.here) l.untouched.stands.parties.0 ending.party) ∙ ending.bound

    host_is : ending.host ≡ node
    host_is = same_Some ending.host node (sym lead ∙ (tell.led all rows name node r l.leads).0)

    now_is : d.now ≡ r
    now_is = same_Some d.now r (sym d.fact ∙ (ap (λ h. view_at all rows name h) host_is ∙ l.leads.is_there))

    free : d.first.group.core.lock ≡ Free
    free = free_first tells words scenario first journal quiet rows l.prefix.more l.prefix.fact l.calm l.rests l.seen (doer name ending.host (Voting tx ∷ [])) d

    its_keys : HasOwnKeys d.first.group
    its_keys =
        let s = led_first tells words scenario first journal quiet rows l.prefix.more l.prefix.fact l.calm l.rests l.seen (doer name ending.host (Voting tx ∷ [])) d in
        subst (λ (x : ReplicaState). HasOwnKeys x.group) (sym s.1) (keys_of words scenario first quiet the_map the_logs l.rests.known l.rests.fact name s.0)

    locks : LockIsRecorded scenario journal name d.now.group
    locks = locks_at tells words scenario first journal quiet rows l.prefix.more l.prefix.fact l.calm l.rests l.seen name ending.host d.now there d.fact

    -- by what it voted
    takes : (coord : Draw) (watch : Bool) (n : ℕ) → IsBoundBy d.first.group free tx tx coord watch n (state_after d.first.group d.entries) → Decides (applied d.now.group (Finish tx outcome))
    takes coord watch n (ByWatch asks w k agree made) = watcher_takes d.now.group tx outcome asks (ap (λ (g : Group). g.core.lock) (d.group_is ∙ made))
    takes coord watch n (ByOffer offer w k agree made) =
        let lock : d.now.group.core.lock ≡ Promised tx offer = ap (λ (g : Group). g.core.lock) (d.group_is ∙ made) in
        let p = locks.promises tx offer lock in
        let base = base_of tells words scenario first journal quiet rows l.prefix.more l.prefix.fact l.calm l.rests l.seen name there in
        let keys : HasOwnKeys d.now.group = subst HasOwnKeys (sym (d.group_is ∙ made)) its_keys in
        let after = taken words scenario journal base.0 base.1 tx name name name outcome offer (frozen_of d.now.group) 0 allowed_here p.0 p.1 d.now.group offer refl refl keys in
        participant_takes d.now.group tx outcome offer after.0 lock after.1

    finish_true : IsTrueEntry r.me r.group (Finish tx outcome)
    finish_true =
        let b = bound d.first.group free tx tx d.entries d.did (ap (λ (x : Group). bond_of x.core) (sym d.group_is) ∙ (sym (lead_bond all rows name ending.host d.now lead d.fact) ∙ its_bond)) in
        subst (λ (x : ReplicaState). Decides (applied x.group (Finish tx outcome))) now_is (takes b.0 b.1 b.2 b.3)

  -- ---- all that is in flight

  module _ (votes : VotesAreTrue) (records : RecordsAreTrue) (flight : Flight Command) (among : Among flight r.leader.flights) where
    asked_or_cast : (command : Command) → flight.value ≡ command → Rattle.sc_live_answers.specs.TrueEntries.IsAskedOrCast command → IsTrueEntry r.me r.group command
    asked_or_cast command e k = subst (IsTrueEntry r.me r.group) e (votes words scenario first journal quiet rows name node r stage l flight among (subst Rattle.sc_live_answers.specs.TrueEntries.IsAskedOrCast (sym e) k))

    recorded : (command : Command) → flight.value ≡ command → Rattle.sc_live_answers.specs.RecordedVotes.IsRecord command → IsTrueEntry r.me r.group command
    recorded command e k = subst (IsTrueEntry r.me r.group) e (records words scenario first journal quiet rows name node r stage l flight among (subst Rattle.sc_live_answers.specs.RecordedVotes.IsRecord (sym e) k))

    true_by : (command : Command) → flight.value ≡ command → IsTrueEntry r.me r.group command
    true_by (Finish tx outcome) e = finish_true flight among tx outcome e
    true_by (RecordVote tx vote by) e = recorded (RecordVote tx vote by) e tt
    true_by (RecordWatch tx vote by) e = recorded (RecordWatch tx vote by) e tt
    true_by (Split at child order) e = asked_or_cast (Split at child order) e tt
    true_by (Begin tx body order) e = asked_or_cast (Begin tx body order) e tt
    true_by (Prepared tx offer) e = asked_or_cast (Prepared tx offer) e tt
    true_by (Watched tx watch) e = asked_or_cast (Watched tx watch) e tt
    true_by _ e = tt

    entry_true : IsTrueEntry r.me r.group flight.value
    entry_true = true_by flight.value refl

pub entries_true : ReplicasAreRecorded → ValidJournalsAreSound → ValidEntriesAreLogs → OutcomesAreTaken → VotesAreTrue → RecordsAreTrue → EntriesAreTrue
entries_true tells sound logs taken votes records words scenario first journal quiet rows name node r stage l =
    Each-from (λ (flight : Flight Command). IsTrueEntry r.me r.group flight.value) r.leader.flights (λ flight among. entry_true tells sound logs taken words scenario first journal quiet rows name node r stage l votes records flight among)
