-- That an order stays under way where a vote is counted, and where an order is given.
use Rattle.std.proofs.Common.{◌≡◌, ℕ, true, false, cond, List, [], ◌∷◌, ◌++◌, Option, Some, None, ◌⊎◌, inl, inr, refl, sym, ◌∙◌, ap, subst}
use Rattle.sc_node_table.specs.Values.{Draw, Command, OrderLine, OrderRefusal, Mail, Accepted, Seat, Event, Deliver, Flight}
use Rattle.sc_group_table.specs.machine.MachineDefinitions.{applied}
use Rattle.sc_actor.specs.declared.rows.Event.TheVariants.{Told}
use Rattle.sc_node_table.specs.NodeDefinitions.{NodeState, group_of_order, ordered_row, untaken, ReplicaState, Place, listed, mailed, before_of, went_on}
use Rattle.sc_meaning.specs.sound.SoundDefinitions.{Player}
use Rattle.sc_live_steps.specs.calm.CalmDefinitions.{Rows}
use Rattle.sc_live_steps.specs.orders.OrderDefinitions.{First, Lone, Next, is_watch, Bond, Unbound, Asking, Errand, Question, Reply, Work, Opens, Answers, Records, Ends, bound_by, Stage, IsAt, Still, Step, BeginsDeal, Votes, Aborts, Hears, IsFreed, LastFreed, OneFreed, TwoFreed, ByOrder, ByChange, ByDeal, ByVote, ByNo, ByHearing, ByDeciding, ByEnd, StepsBy, Kind, Changed, Opened, Voted, Aborted, Decided, Heard, Ended, results, work_by, works_in, works_flying, works_ready, works, bond_of, errands_for, EntryLeaves, FliesLone, Decides, RunsAlone, Works, MayFile}
use Rattle.sc_live_steps.specs.orders.StageSteps as Follow
use Rattle.sc_live_steps.specs.orders.StageSteps.{Changes}
use Rattle.sc_live_steps.proofs.OrderStepsProofs.OrderStepLemmas.{changed-step, opened-step, voted-step, votes-count-alone, aborted-step, decided-step, heard-step, ended-step, tables-order, entries-run-alone, reported-step}
use Rattle.sc_live_journals.specs.rows.RowDefinitions.{with_event}
use Rattle.sc_live_journals.specs.scenes.SceneDefinitions.{scene_at, errands_sent, IsSceneKind, IsOfGroup, IsTablesRow, LeadsAlone, Stays, IsEntrysRow, StageAfter, KeepsStage, IsBeside, Led, Unled, IsCounting, IsEntry, StaysIn, VotesKeep, IsOrdered, OrdersKeep}
use Rattle.sc_live_journals.proofs.ScenesProofs.RowKinds.{only_as, asides_stay, asides_are, leaders_are, entries_are}
use Rattle.sc_live_journals.proofs.ScenesProofs.OrderRows.{IsOnward, rests_by, steps_by, event_of, after, row_of_comes, errand_is, lead_rests}
use Rattle.sc_live_journals.proofs.ScenesProofs.SceneReceivers.{rows_taken}
use Rattle.sc_live_journals.proofs.ScenesProofs.SceneRows.{rows_are}

-- one that flies alone is all the work
pub flies_work : (flight : Flight Command) (work : Work) (r : ReplicaState) → FliesLone flight r → work_by flight.value ≡ Some work → works r ≡ work ∷ []
flies_work flight work r flies fact =
    ap (λ l. l ++ (works_in r.backlog ++ (works_flying r.leader.flights ++ works_ready r.ready))) flies.acts
    ∙ (ap (λ l. l ++ (works_flying r.leader.flights ++ works_ready r.ready)) flies.backlog
    ∙ (ap (λ l. works_flying l ++ works_ready r.ready) flies.flights
    ∙ (ap (λ l. works_flying (flight ∷ []) ++ works_ready l) flies.ready ∙ ap (λ o. (listed o ++ []) ++ []) fact)))

module _ (words : ℕ → ℕ → ℕ × ℕ) (births : List (Seat Player)) (rows : Rows) (seat : Seat Player) (number : ℕ) (mail : Mail) (group : Draw) (flight : Flight Command) (r : ReplicaState) (c : IsCounting words births rows seat number mail group flight r) where
  abbrev event : Event OrderLine
  event = Deliver number

  abbrev made : Place
  made = after words births rows seat number mail group r

  runs_so : (work : Work) → work_by flight.value ≡ Some work → (d : Decides flight r made) → RunsAlone flight.value d.readied made
  runs_so work fact d = subst (λ p. RunsAlone flight.value d.readied p) (sym d.fact) (entries-run-alone flight.value work d.readied d.lone fact)

  entry_row : (work : Work) (bond : Bond) (sent : List (Draw × List Errand)) → IsEntry births rows seat number mail group work bond sent flight.value r → Decides flight r made → IsEntrysRow births rows seat event group work bond sent r made
  entry_row work bond sent e d =
      let run = runs_so work e.work_is d in
      let leaves : EntryLeaves bond sent flight.value d.readied.me d.readied.group =
      subst (λ g. EntryLeaves bond sent flight.value d.readied.me g) (sym d.group) (subst (λ n. EntryLeaves bond sent flight.value n r.group) (sym (d.me ∙ c.me_is)) e.leaves) in
      record {
        leads = c.comes.leads;
        table = (row_of_comes words births rows seat number mail group r c.comes.comes).1;
        none = errand_is words births rows seat number mail group r c.comes.comes (Accepted c.named c.ballot c.slot) c.body;
        had = flies_work flight work r c.flies e.work_is;
        has = run.work;
        bound = ap (λ g. bond_of g.core) run.group ∙ leaves.bond_is;
        sends = only_as sent (λ n. errands_for n (went_on d.readied.me (applied d.readied.group flight.value).0 (before_of d.readied.group.core) (applied d.readied.group flight.value).1 flight.value [])) (λ n. errands_for n made.1) run.sends leaves.sends;
        newest = e.newest;
      }

  runs_on : (work : Work) → work_by flight.value ≡ Some work → Decides flight r made → StaysIn flight.value r.me r.group → made.0.running ≡ true
  runs_on work fact d stays =
      let there : StaysIn flight.value d.readied.me d.readied.group = subst (λ g. StaysIn flight.value d.readied.me g) (sym d.group) (subst (λ n. StaysIn flight.value n r.group) (sym d.me) stays) in
      (runs_so work fact d).leads there.stands there.mine

  -- the vote leaves the command in flight, or decides it
  counted : Works (works r) [] r made ⊎ Decides flight r made
  counted = subst (λ b. Works (works r) [] r (mailed mail.from b (r, [])).0 ⊎ Decides flight r (mailed mail.from b (r, [])).0) (sym c.body) (votes-count-alone mail.from c.named c.ballot c.slot flight r c.flies)

  vote_by : (Does : Kind) (Is : Step) → StepsBy Does Is → IsOnward Is → (Decides flight r made → IsSceneKind Does births rows seat event group) → KeepsStage births rows seat event
  vote_by Does Is steps onward does = elim counted [
    | inl works_so ↦ lead_rests words births rows seat number mail group r c.comes (Accepted c.named c.ballot c.slot) c.body refl (subst (λ b. Works (works r) [] r (mailed mail.from b (r, [])).0) c.body works_so)
    | inr d ↦ steps_by Does Is steps onward words births rows seat event group (row_of_comes words births rows seat number mail group r c.comes.comes).0
        (event_of words births rows seat number mail group c.comes.comes.node c.comes.comes.taking) (does d)
  ]

freed_on : (group : Draw) (before after : Stage) → IsFreed group before after → before ≡ Still → ⊥
freed_on group before after (LastFreed tx party e l g a) still = cc
freed_on group before after (OneFreed tx one two e l g a) still = cc
freed_on group before after (TwoFreed tx one two e l g a) still = cc

-- So it does where a vote comes to a leader for the one command that it has in flight: that stays, or is decided and executed, and the row is of the kind of its entry.
pub votes_keep : VotesKeep
votes_keep = record {
  changed = λ words births rows seat number mail group flight r order c e fact.
      vote_by words births rows seat number mail group flight r c Changed Changes changed-step (record { step = λ g b a. ByChange; on = λ g b a s still. (let e = s.before_is in cc) }) (λ d.
      entries_are.changed births rows seat (Deliver number) group order r (made words births rows seat number mail group flight r c) (entry_row words births rows seat number mail group flight r c order (bond_of r.group.core) [] e d) fact);
  opened = λ words births rows seat number mail group flight r tx asked watch node c e stays apart.
      vote_by words births rows seat number mail group flight r c Opened BeginsDeal opened-step (record { step = λ g b a. ByDeal; on = λ g b a s still. (let e = s.before_is in cc) }) (λ d.
      entries_are.opened births rows seat (Deliver number) group tx asked watch node r (made words births rows seat number mail group flight r c)
      (entry_row words births rows seat number mail group flight r c (Opens tx) (Asking tx asked (cond watch Lone First)) ((asked, Question tx group watch seat.who node ∷ []) ∷ []) e d)
      (runs_on words births rows seat number mail group flight r c (Opens tx) e.work_is d stays) apart);
  voted = λ words births rows seat number mail group flight r tx coord watch agreed by c e unbound stays willing.
      vote_by words births rows seat number mail group flight r c Voted Votes voted-step (record { step = λ g b a. ByVote; on = λ g b a s still. (let e = s.before_is in cc) }) (λ d.
      entries_are.voted births rows seat (Deliver number) group tx coord watch agreed by r (made words births rows seat number mail group flight r c)
      (entry_row words births rows seat number mail group flight r c (Answers tx coord watch by) (bound_by agreed tx) ((coord, Reply tx watch agreed seat.who by ∷ []) ∷ []) e d) unbound
      (runs_on words births rows seat number mail group flight r c (Answers tx coord watch by) e.work_is d stays) willing);
  aborted = λ words births rows seat number mail group flight r tx by c e.
      vote_by words births rows seat number mail group flight r c Aborted Aborts aborted-step (record { step = λ g b a. ByNo; on = λ g b a s still. (let e = s.before_is in cc) }) (λ d.
      entries_are.aborted births rows seat (Deliver number) group tx by r (made words births rows seat number mail group flight r c) (entry_row words births rows seat number mail group flight r c (Records tx false false by) Unbound [] e d));
  decided = λ words births rows seat number mail group flight r tx asked turn by c e asking.
      vote_by words births rows seat number mail group flight r c Decided Follow.Decides decided-step (record { step = λ g b a. ByDeciding; on = λ g b a s still. (let e = s.before_is in cc) }) (λ d.
      entries_are.decided births rows seat (Deliver number) group tx asked turn by r (made words births rows seat number mail group flight r c)
      (entry_row words births rows seat number mail group flight r c (Records tx (is_watch turn) true by) Unbound (results tx asked turn by) e d) asking);
  heard = λ words births rows seat number mail group flight r tx asked watcher by node c e asking stays third.
      vote_by words births rows seat number mail group flight r c Heard Hears heard-step (record { step = λ g b a. ByHearing; on = λ g b a s still. (let e = s.before_is in cc) }) (λ d.
      entries_are.heard births rows seat (Deliver number) group tx asked watcher by node r (made words births rows seat number mail group flight r c)
      (entry_row words births rows seat number mail group flight r c (Records tx false true by) (Asking tx watcher (Next asked by)) ((watcher, Question tx group true seat.who node ∷ []) ∷ []) e d) asking
      (runs_on words births rows seat number mail group flight r c (Records tx false true by) e.work_is d stays) third);
  ended = λ words births rows seat number mail group flight r tx c e.
      vote_by words births rows seat number mail group flight r c Ended IsFreed ended-step (record { step = λ g b a. ByEnd; on = freed_on }) (λ d.
      entries_are.ended births rows seat (Deliver number) group tx r (made words births rows seat number mail group flight r c) (entry_row words births rows seat number mail group flight r c (Ends tx) Unbound [] e d));
}

-- ---- orders

module _ (words : ℕ → ℕ → ℕ × ℕ) (births : List (Seat Player)) (rows : Rows) (seat : Seat Player) (line : OrderLine) (node : NodeState) (r : ReplicaState) (o : IsOrdered words births rows seat line node r) where
  abbrev group : Draw
  group = group_of_order line.order

  abbrev told : Event OrderLine
  told = Told line

  abbrev place : Place
  place = ordered_row node.draws line (r, [])

  row : IsOfGroup words births rows seat told group × IsTablesRow births rows seat told group r place
  row = rows_taken.ordered words births rows seat line node r o.seated o.timely o.is_node o.here

  led_by : LeadsAlone births rows group seat.who r → MayFile r → IsAt Still (scene_at births rows) → (w : Option OrderRefusal) → untaken node.draws line r ≡ w → StageAfter births rows seat told Still
  led_by leads may still None e =
      let t = tables-order.taken node.draws line r may e in
      let to = reported-step (scene_at births rows) (scene_at births (with_event rows seat told)) group None (errands_sent rows seat told) (rows_are words births rows seat told group row.0)
      (leaders_are.told births rows seat told group t.0 r place (record { leads = leads; table = row.1; works_so = t.3 }) may.idle t.1 refl) still in
      (to.0, to.1, inr (record { group = group; step = ByOrder to.2; of = refl; begins = λ e. tt }))
  led_by leads may still (Some why) e =
      rests_by words births rows seat told group row.0
      (leaders_are.rests births rows seat told group r place (record { leads = leads; table = row.1; works_so = tables-order.refused node.draws line why r e }) refl) (Still, still)

  stays_by : IsBeside births rows seat told group place → Stays births rows seat told group
  stays_by (Led n lead leads ne stops) = asides_stay.aside births rows seat told group n lead r place leads ne row.1 stops
  stays_by (Unled u) = asides_stay.unled births rows seat told group r place row.1 u

  refused_by : (why : OrderRefusal) → IsBeside births rows seat told group place → untaken node.draws line r ≡ Some why → KeepsStage births rows seat told
  refused_by why beside e =
      rests_by words births rows seat told group row.0
      (asides_are.rests births rows seat told group (stays_by beside) refl
      (only_as [] (λ n. errands_for n place.1) (errands_sent rows seat told) (λ n. ap (errands_for n) row.1.sends) (tables-order.refused node.draws line why r e).sends))

-- Where nothing is under way, an order that a leader is given begins to be, or is refused; one that is refused beside the leader changes nothing.
pub orders_keep : OrdersKeep
orders_keep = record {
  led = λ words births rows seat line node r o leads may still. led_by words births rows seat line node r o leads may still (untaken node.draws line r) refl;
  beside = λ words births rows seat line node r why o beside e. refused_by words births rows seat line node r o why beside e;
}
