-- What is in flight at a leader while an order is under way is an entry of it, that leaves at most nine members.
use Rattle.std.proofs.Common.{◌≡◌, ◌⊎◌, ℕ, zero, suc, ◌≤◌, eqb, cond, true, false, Bool, List, [], ◌∷◌, length, filter, take, Option, Some, None, inl, inr, refl, sym, ◌∙◌, ap, subst, arith, ◌-◌}
use Rattle.std.specs.Prelude.{not, ◌||◌}
use Rattle.std.proofs.lemmas.Bool.{cond_both, or_left, or_right, eq-eqb}
use Rattle.std.proofs.lemmas.Option.{none-some}
use Rattle.sc_base.specs.Definitions.{Among, Each, same_draw, IsRoster, is_member, united, with_any}
use Rattle.sc_node_table.specs.Values.{Draw, Body, Command, Noop, Call, Split, GiveUp, RecordWatch, Base, Core, Lock, Free, Coordinating, Promised, Watching, Effect, Heard, Past, Flight}
use Rattle.sc_words.specs.declared.commands.bodies.Body.TheVariants as At
use Rattle.sc_words.specs.declared.commands.votes.Past.TheVariants as Cast
use Rattle.sc_group_table.specs.machine.MachineDefinitions.{Group, group_of, applied, can_split, may_merge, staying, released, watch_recorded, asks_watcher, committed}
use Rattle.sc_words.proofs.PaxosProofs.PaxosLemmas.{Each-among}
use Rattle.sc_scenario.specs.declared.scenario.scenarios.Scenario.{Scenario}
use Rattle.sc_node_table.specs.NodeDefinitions.{ReplicaState, forgotten, members, next, entered, asked_link, before_of}
use Rattle.sc_meaning.specs.sound.SoundDefinitions.{decided_log, births, as_nodes}
use Rattle.sc_law_groups.specs.whole.WholeDefinitions.{MembersStayRosters}
use Rattle.sc_live_steps.specs.calm.CalmDefinitions.{newcomers, Rows}
use Rattle.sc_live_steps.specs.orders.OrderDefinitions.{bond_in, bond_of, is_cast_yes, work_by, Work, Opens, Records, GivesUp, Here, Turn, First, Lone, Next, is_watch, Asking, Stage, IsAt, IsVote}
use Rattle.sc_live_journals.specs.rows.RowDefinitions.{view_at}
use Rattle.sc_live_journals.specs.logs.LogDefinitions.{SlotsHaveRosters, ViewsAreReplicas}
use Rattle.sc_live_answers.specs.AnswerDefinitions.{ReplicasRunLogs, LeadsSince, IsRecord, RecordsAreTrue, ReplicasAreRecorded, IsTrueEntry, FlightsAreEntries}
use Rattle.sc_live_journals.specs.scenes.SceneDefinitions.{IsWork, QuietScenesAreOver, scene_at, IsThere}
use Rattle.sc_live_journals.proofs.ScenesProofs.SceneLemmas.{tell}
use Rattle.sc_live_steps.specs.entries.StageEntries.{IsEntry}
use Rattle.sc_live_answers.proofs.WorkProofs.PartiesSinceQuiet.{base_of}
use Rattle.sc_live_answers.proofs.RestProofs.LeaderWork.{IsWorkAt, OfOrder, OfQuestion, OfVote, OfOutcome, at_stage, stands_in, was_there}
use Rattle.sc_live_steps.proofs.EntriesProofs.EntryMembers.{any_kept}

-- ---- members

pub or_map : (b c d : Bool) → (c ≡ true → d ≡ true) → (b || c) ≡ true → (b || d) ≡ true
or_map true c d f e = refl
or_map false c d f e = f e

-- none of these is new that are all there
none_new : (old members : List ℕ) → Each (λ who. is_member old who ≡ true) members → filter (λ who. not (is_member old who)) members ≡ []
none_new old [] all = refl
none_new old (m ∷ members) all = ap (λ b. cond (not b) (m ∷ filter (λ who. not (is_member old who)) members) (filter (λ who. not (is_member old who)) members)) all.0 ∙ none_new old members all.1

taken_old : (n : ℕ) (old members : List ℕ) → Each (λ who. is_member old who ≡ true) members → Each (λ who. is_member old who ≡ true) (take n members)
taken_old zero old members all = tt
taken_old (suc n) old [] all = tt
taken_old (suc n) old (m ∷ members) all = (all.0, taken_old n old members all.1)

own_members : (old more : List ℕ) → ((who : ℕ) → is_member more who ≡ true → is_member old who ≡ true) → Each (λ who. is_member old who ≡ true) more
own_members old [] f = tt
own_members old (m ∷ more) f = (f m (or_left (eqb m m) (is_member more m) (eq-eqb m m refl)), own_members old more (λ who e. f who (or_right (eqb m who) (is_member more who) e)))

left_none : (n : ℕ) (old : List ℕ) → length (filter (λ who. not (is_member old who)) (take n old)) ≡ 0
left_none n old = ap (λ (l : List ℕ). length l) (none_new old (take n old) (taken_old n old old (own_members old old (λ who e. e))))

pub united_kept : (members others : List ℕ) (who : ℕ) → is_member members who ≡ true → is_member (united members others) who ≡ true
united_kept members [] who m = m
united_kept members (x ∷ others) who m = united_kept (with_any members x) others who (any_kept members x who m)

-- ---- a watcher's Yes

module _ (me : ℕ) (group : Group) (tx : Draw) (mine : is_member group.core.members me ≡ true) where
  -- by the body: a merge brings members, and a split leaves some of them
  module _ (Split_ : Type 0) where
    abbrev Kept : Group × Effect → Type 0
    Kept made = (is_member made.0.core.members me ≡ true) ⊎ ((length (filter (λ who. not (is_member group.core.members who)) made.0.core.members) ≡ 0) × Split_)

    released_kept : (body : Body) (heard : Option Heard) → ((at : ℕ) (child : Draw) → body ≡ At.Split at child → Split_) → Kept (released body heard group tx)
    released_kept At.Merge None f = inl mine
    released_kept At.Merge (Some h) f =
        cond_both (may_merge group h.frozen) _ None (λ plan. Kept (committed plan group tx)) (λ _. inl (united_kept group.core.members h.frozen.members me mine)) (λ _. inl mine)
    released_kept (At.Repart at) heard f = inl mine
    released_kept (At.Migrate node) heard f = inl mine
    released_kept (At.Split at child) heard f =
        cond_both (can_split group.core at) _ None (λ plan. Kept (committed plan group tx)) (λ _. inr (left_none (staying group.core.members) group.core.members, f at child refl)) (λ _. inl mine)

    recorded_kept : (lock : Lock) → ((t : Draw) (order at : ℕ) (child : Draw) (heard : Option Heard) → lock ≡ Coordinating t (At.Split at child) order heard → Split_) → Kept (watch_recorded lock group tx Cast.Yes)
    recorded_kept Free f = inl mine
    recorded_kept (Promised t offer) f = inl mine
    recorded_kept (Watching t watch) f = inl mine
    recorded_kept (Coordinating t body order heard) f =
        cond_both (same_draw t tx) _ (group, _) Kept
        (λ _. cond_both (asks_watcher body heard) (released body heard group tx) (group, _) Kept (λ _. released_kept body heard (λ at child e. f t order at child heard (ap (λ b. Coordinating t b order heard) e))) (λ _. inl mine))
        (λ _. inl mine)

-- the bond of a group that coordinates a split
split_bond : (lock : Lock) (core : Core) (t tx asked : Draw) (turn : Turn) (order at : ℕ) (child : Draw) (heard : Option Heard) → lock ≡ Coordinating t (At.Split at child) order heard → bond_in lock core ≡ Asking tx asked turn
    → (found : Draw) × (bond_in lock core ≡ Asking tx found Lone)
split_bond lock core t tx asked turn order at child heard e b =
    let fact : bond_in lock core ≡ Asking t (asked_link core (At.Split at child) heard).group Lone = ap (λ l. bond_in l core) e in
    let same : Asking t (asked_link core (At.Split at child) heard).group Lone ≡ Asking tx asked turn = sym fact ∙ b in
    let one : t ≡ tx = cc in
    ((asked_link core (At.Split at child) heard).group, fact ∙ ap (λ n. Asking n (asked_link core (At.Split at child) heard).group Lone) one)

cast_yes : (vote : Past) → is_cast_yes vote ≡ true → vote ≡ Cast.Yes
cast_yes Cast.Yes e = refl
cast_yes (Cast.No why) e = cc
cast_yes Cast.Ended e = cc

watch_agrees : (turn : Turn) (agreed : Bool) → is_watch turn ≡ true → IsVote turn agreed → agreed ≡ true
watch_agrees First agreed w v = cc
watch_agrees Lone agreed w v = v
watch_agrees (Next part host) agreed w v = v

same_records : (tx tx2 : Draw) (w w2 agreed agreed2 : Bool) (by by2 : ℕ) → Records tx w agreed by ≡ Records tx2 w2 agreed2 by2 → (tx ≡ tx2) × (w ≡ w2) × (agreed ≡ agreed2)
same_records tx tx2 w w2 agreed agreed2 by by2 e = (cc, cc, cc)

-- ---- what is in flight

module _ (tells : ReplicasAreRecorded) (records : RecordsAreTrue) (over : QuietScenesAreOver) (stay : MembersStayRosters) (slots : SlotsHaveRosters) (logs : ReplicasRunLogs) (views : ViewsAreReplicas) (words : ℕ → ℕ → ℕ × ℕ) (scenario : Scenario) (first : Base) (journal quiet rows : Rows) (name : Draw) (node : ℕ)
    (r : ReplicaState) (stage : Stage) (l : LeadsSince words scenario first journal quiet rows name node r stage) (flight : Flight Command) (among : Among flight r.leader.flights) where
  work : (w : Work) × (work_by flight.value ≡ Some w)
  work = Each-among (λ (f : Flight Command). IsWork f.value) r.leader.flights flight l.alone.flights among

  staged : (w : Work) → work_by flight.value ≡ Some w → IsWorkAt stage name w
  staged w e = at_stage tells words scenario first journal quiet rows name node r stage l flight among w e

  there : IsThere (births as_nodes scenario) quiet name
  there = was_there tells words scenario first journal quiet rows name node r stage l flight among work.0 work.1

  mine : is_member (members r) r.me ≡ true
  mine = (stands_in tells words scenario first journal quiet rows name node r stage l there).1

  -- ---- members

  roster : IsRoster r.group.core.members
  roster =
      let b = base_of tells words scenario first journal quiet rows l.prefix.more l.prefix.fact l.calm l.rests l.seen name there in
      let v = views as_nodes words scenario journal b.0 b.1 rows l.prefix.more l.prefix.fact node r (ap (λ n. view_at (births as_nodes scenario) rows n node) b.2 ∙ l.leads.is_there) in
      let run = logs as_nodes words scenario journal b.0 b.1 rows v.0 v.1 r v.2 in
      let at_first : IsRoster b.0.core.members = subst IsRoster (slots.first as_nodes words scenario journal b.0 b.1 0 (omega arith)) (slots.rosters as_nodes words scenario journal b.0 b.1 0) in
      subst (λ (g : Group). IsRoster g.core.members) (sym run.1) (stay (group_of b.0) (take (next r - 1) (decided_log as_nodes b.0 journal)) at_first)

  few : length (applied r.group flight.value).0.core.members ≤ 9
  few = (stay r.group (flight.value ∷ []) roster).most

  -- ---- kinds

  no_order : (tx : Draw) → IsWorkAt stage name (GivesUp tx) → ⊥
  no_order tx (OfOrder chief e) = (subst (λ x. IsAt x (scene_at (births as_nodes scenario) rows)) e l.untouched.stands).sound
  no_order tx (OfQuestion deal host e own fact) = cc
  no_order tx (OfVote deal agreed host e own fact) = cc
  no_order tx (OfOutcome t fact ends) = cc

  free_now : (child : Draw) → IsWorkAt stage name (Opens child) → r.group.core.lock ≡ Free
  free_now child (OfOrder chief e) =
      over.free (births as_nodes scenario) rows name node r l.leads (ap (λ (h : Here). h.bond) (subst (λ x. IsAt x (scene_at (births as_nodes scenario) rows)) e l.untouched.stands).parties.0.0)
  free_now child (OfQuestion deal host e own fact) = cc
  free_now child (OfVote deal agreed host e own fact) = cc
  free_now child (OfOutcome t fact ends) = cc

  -- a watcher's vote
  module _ (tx : Draw) (vote : Past) (by : ℕ) (fact : flight.value ≡ RecordWatch tx vote by) where
    record IsWatched : Type 0 where
      yes : vote ≡ Cast.Yes
      asked : Draw
      turn : Turn
      bond : bond_of r.group.core ≡ Asking tx asked turn

    watched : IsWorkAt stage name (Records tx true (is_cast_yes vote) by) → IsWatched
    watched (OfOrder chief e) = absurd (subst (λ x. IsAt x (scene_at (births as_nodes scenario) rows)) e l.untouched.stands).sound
    watched (OfQuestion deal host e own eq) = cc
    watched (OfOutcome t eq ends) = cc
    watched (OfVote deal agreed host e own eq) =
        let now = subst (λ x. IsAt x (scene_at (births as_nodes scenario) rows)) e l.untouched.stands in
        let same = same_records deal.tx tx (is_watch deal.turn) true agreed (is_cast_yes vote) host by eq in
        record {
          yes = cast_yes vote (sym same.2 ∙ watch_agrees deal.turn agreed same.1 now.sound);
          asked = deal.asked;
          turn = deal.turn;
          bond = sym (tell.led (births as_nodes scenario) rows name node r l.leads).1.0
              ∙ (ap (λ n. ((scene_at (births as_nodes scenario) rows).at n).bond) (sym own) ∙ (ap (λ (h : Here). h.bond) now.parties.0.0 ∙ ap (λ t. Asking t deal.asked deal.turn) same.0));
        }

    w : IsWatched
    w = watched (staged (Records tx true (is_cast_yes vote) by) (ap work_by fact))

    true_entry : IsTrueEntry r.me r.group (RecordWatch tx vote by)
    true_entry = subst (IsTrueEntry r.me r.group) fact (records words scenario first journal quiet rows name node r stage l flight among (subst IsRecord (sym fact) tt))

    kept : (is_member (applied r.group (RecordWatch tx Cast.Yes by)).0.core.members r.me ≡ true) ⊎ ((length (filter (λ who. not (is_member r.group.core.members who)) (applied r.group (RecordWatch tx Cast.Yes by)).0.core.members) ≡ 0) × ((before_of r.group.core).heard ≡ None))
    kept = recorded_kept r.me r.group tx mine ((before_of r.group.core).heard ≡ None) r.group.core.lock
        (λ t order at child heard e. (let b = split_bond r.group.core.lock r.group.core t tx w.asked w.turn order at child heard e w.bond in (true_entry.0 b.0 Lone b.1).0 refl))

    watch_entry : IsEntry (RecordWatch tx vote by) r
    unfolding entered forgotten
    watch_entry = subst (λ v. IsEntry (RecordWatch tx v by) r) (sym w.yes) (refl, by_kept kept)
      where
        by_kept : (is_member (applied r.group (RecordWatch tx Cast.Yes by)).0.core.members r.me ≡ true) ⊎ ((length (filter (λ who. not (is_member r.group.core.members who)) (applied r.group (RecordWatch tx Cast.Yes by)).0.core.members) ≡ 0) × ((before_of r.group.core).heard ≡ None))
            → (is_member (applied r.group (RecordWatch tx Cast.Yes by)).0.core.members r.me ≡ true) ⊎ (((before_of r.group.core).heard ≡ None) × (length (newcomers (RecordWatch tx Cast.Yes by) r) ≡ 0))
        by_kept (inl m) = inl m
        by_kept (inr s) = inr (s.1, s.0)

  entry_of : (command : Command) → flight.value ≡ command → IsEntry command r
  entry_of Noop e = absurd (none-some work.0 (sym (ap work_by e) ∙ work.1))
  entry_of (Call client seq op) e = absurd (none-some work.0 (sym (ap work_by e) ∙ work.1))
  entry_of (Split at child order) e = free_now child (staged (Opens child) (ap work_by e))
  entry_of (GiveUp tx) e = absurd (no_order tx (staged (GivesUp tx) (ap work_by e)))
  entry_of (RecordWatch tx vote by) e = watch_entry tx vote by e
  entry_of _ e = tt

  pub entries_so : IsEntry flight.value r × (length (applied r.group flight.value).0.core.members ≤ 9)
  entries_so = (entry_of flight.value refl, few)

pub flights_are_entries : ReplicasAreRecorded → RecordsAreTrue → QuietScenesAreOver → MembersStayRosters → SlotsHaveRosters → ReplicasRunLogs → ViewsAreReplicas → FlightsAreEntries
flights_are_entries tells records over stay slots logs views words scenario first journal quiet rows name node r stage l flight among = entries_so tells records over stay slots logs views words scenario first journal quiet rows name node r stage l flight among
