-- What is known of an order since a quiet journal, from when it is given.
use Rattle.std.proofs.Common.{◌≡◌, ℕ, eqb, true≢false, List, [], ◌∷◌, Option, Some, None, ◌⊎◌, inl, inr, refl, sym, ◌∙◌, ap, subst}
use Rattle.std.proofs.lemmas.Bool.{cases_Bool, eq-eqb, eqb-true}
use Rattle.std.proofs.lemmas.Option.{same_Some}
use Rattle.sc_base.specs.Definitions.{Each, next_name}
use Rattle.sc_node_table.specs.Values.{Draw, Seat, Base, Order, OrderLine, OrderRefusal, Node, Client}
use Rattle.sc_actor.specs.declared.rows.Event.TheVariants.{Told}
use Rattle.sc_actor.specs.declared.rows.Input.TheVariants.{Told as ToldInput}
use Rattle.sc_actor.specs.Definitions.{value, numbers_of, row_of}
use Rattle.sc_actor.proofs.Lemmas.{lawful-prefix}
use Rattle.sc_words.specs.declared.commands.orders.Order.TheVariants as An
use Rattle.sc_node_table.specs.NodeDefinitions.{NodeState, group_of_order, on_order, ordered_of, replica_of, ordered_command, ordered_row, untaken, ReplicaState, born_replica, listed, slots_ahead}
use Rattle.sc_law_entries.specs.names.NameDefinitions.{NodesHaveNames, OtherNamesAreFree, TakenOrdersAreAllowed, TakenWishesAreAllowed, WishesAreAtPositions}
use Rattle.sc_scenario.specs.scenario.Definitions.{ValidScenariosAreBounded}
use Rattle.sc_scenario.specs.declared.scenario.scenarios.Scenario.{Scenario}
use Rattle.sc_law_groups.specs.whole.WholeDefinitions.{ValidScenariosBeginWell}
use Rattle.sc_meaning.specs.sound.SoundDefinitions.{Lawful, Player, as_nodes, births, player_table, schedule, system_of}
use Rattle.sc_live_steps.specs.calm.CalmDefinitions.{Rows}
use Rattle.sc_live_steps.specs.orders.OrderDefinitions.{IsStepOf, ByRest, ByOrder, ByChange, ByDeal, ByPassing, ByAsking, ByTaking, ByVote, ByNo, ByHearing, ByDeciding, ByEnd, LastFreed, LastTakes, OfOutcome, OfQuestion, OfVote, OneFreed, OneTakes, TwoFreed, TwoTakes, work_by, works, Asking, Bound, Here, Opens, Scene, Turn, Unbound, Work, free, Asks, Closes, ClosesBoth, Filed, IsAt, Leg, Mailed, Ordered, Recorded, Replied, SentOn, Stage, Still, Weighs, closing, MayFile}
use Rattle.sc_live_steps.proofs.OrderStepsProofs.OrderStepLemmas.{cases-draw, tables-order}
use Rattle.sc_live_journals.specs.rows.RowDefinitions.{view_at, with_event}
use Rattle.sc_live_journals.proofs.RowsProofs.RowLemmas.{view_is, view_others, none_some}
use Rattle.sc_live_journals.specs.scenes.SceneDefinitions.{IsOrdered, ByAnother, ByLeader, FindsQuiet, IsGivenInQuiet, StageAfter, is_running, scene_at, IsOfGroup, IsTablesRow, LeavesOrMakes}
use Rattle.sc_live_journals.proofs.ScenesProofs.SceneLemmas.{found_step, lead_runs, now_is, rows_taken, was_is}
use Rattle.sc_live_answers.specs.AnswerDefinitions.{IsCalmJournal, RestsAt, TrueOrdersBegin, HasDone, doer, IsUnused, opened_by, AreSeen, IsTrueSince}
use Rattle.sc_live_answers.proofs.WorkProofs.LeaderDeeds.{lead_works, one_not_none, same_one as same_work}
use Rattle.sc_live_answers.proofs.ReplicasProofs.SeatNumbers.{next_unused}
use Rattle.sc_live_answers.proofs.ErrandsProofs.QuestionedGroups.{rests_idle}

-- an order leads from nothing to its command, or nowhere
pub begun_so : (group : Draw) (later : Stage) → IsStepOf group Still later → (later ≡ Still) ⊎ ((chief : ℕ) × (work : Work) × (later ≡ Ordered group chief work))
begun_so group later (ByRest e) = inl e
begun_so group later (ByOrder s) = inr (s.chief, s.work, s.after_is)
begun_so group later (ByChange s) = (let e = s.before_is in absurd cc)
begun_so group later (ByDeal s) = (let e = s.before_is in absurd cc)
begun_so group later (ByPassing s) = (let e = s.before_is in absurd cc)
begun_so group later (ByAsking s) = (let e = s.before_is in absurd cc)
begun_so group later (ByTaking (OfQuestion s)) = (let e = s.before_is in absurd cc)
begun_so group later (ByTaking (OfVote s)) = (let e = s.before_is in absurd cc)
begun_so group later (ByVote s) = (let e = s.before_is in absurd cc)
begun_so group later (ByNo s) = (let e = s.before_is in absurd cc)
begun_so group later (ByHearing s) = (let e = s.before_is in absurd cc)
begun_so group later (ByDeciding s) = (let e = s.before_is in absurd cc)
begun_so group later (ByTaking (OfOutcome (LastTakes tx party e l g a))) = absurd cc
begun_so group later (ByTaking (OfOutcome (OneTakes tx one two e l g a))) = absurd cc
begun_so group later (ByTaking (OfOutcome (TwoTakes tx one two e l g a))) = absurd cc
begun_so group later (ByEnd (LastFreed tx party e l g a)) = absurd cc
begun_so group later (ByEnd (OneFreed tx one two e l g a)) = absurd cc
begun_so group later (ByEnd (TwoFreed tx one two e l g a)) = absurd cc

pub still_unbound : (now : Scene) → IsAt Still now → (name : Draw) → (now.at name).bond ≡ Unbound
still_unbound now a name = ap (λ (h : Here). h.bond) (a.parties.1 name tt)

pub ordered_unbound : (now : Scene) (group : Draw) (chief : ℕ) (work : Work) → IsAt (Ordered group chief work) now → (name : Draw) → (now.at name).bond ≡ Unbound
ordered_unbound now group chief work a name = elim (cases-draw name group) [
  | inl fact ↦ ap (λ n. (now.at n).bond) fact ∙ ap (λ (h : Here). h.bond) a.parties.0.0
  | inr ne ↦ ap (λ (h : Here). h.bond) (a.parties.1 name (ne, tt))
]

no_asking : (tx asked : Draw) (turn : _) → Asking tx asked turn ≡ Unbound → ⊥
no_asking tx asked turn e = cc

no_bound : (tx : Draw) → Bound tx ≡ Unbound → ⊥
no_bound tx e = cc

pub closing_bond : (tx : Draw) (leg : Leg) (host : ℕ) → (closing tx leg host).bond ≡ Bound tx
closing_bond tx Mailed host = refl
closing_bond tx Filed host = refl

-- an order that is given binds no group
module _ (words : ℕ → ℕ → ℕ × ℕ) (births : List (Seat Player)) (quiet : Rows) (seat : Seat Player) (line : OrderLine) (t : IsGivenInQuiet words births quiet seat line) where
  abbrev given : Scene
  given = scene_at births (with_event quiet seat (Told line))

  given_step : StageAfter births quiet seat (Told line) Still
  given_step = found_step words births quiet seat (Told line) t.seated t.timely t.finds Still t.still

  given_unbound : (name : Draw) → ((scene_at births (with_event quiet seat (Told line))).at name).bond ≡ Unbound
  given_unbound name = elim given_step.2 [
    | inl e ↦ still_unbound given (subst (λ x. IsAt x given) e given_step.1) name
    | inr g ↦ elim (begun_so g.group given_step.0 g.step) [
      | inl e ↦ still_unbound given (subst (λ x. IsAt x given) e given_step.1) name
      | inr o ↦ ordered_unbound given g.group o.0 o.1 (subst (λ x. IsAt x given) o.2 given_step.1) name
    ]
  ]

  pub no_deal : (name tx asked : Draw) (turn : Turn) → ((scene_at births (with_event quiet seat (Told line))).at name).bond ≡ Asking tx asked turn → ⊥
  no_deal name tx asked turn e = no_asking tx asked turn (sym e ∙ given_unbound name)

  pub no_party : (name tx : Draw) (leg : Leg) (host : ℕ) → (scene_at births (with_event quiet seat (Told line))).at name ≡ closing tx leg host → ⊥
  no_party name tx leg host e = no_bound tx (sym (closing_bond tx leg host) ∙ (ap (λ (h : Here). h.bond) (sym e) ∙ given_unbound name))

-- the transaction that an order opens has the next name
opens_next : (name : Draw) (number : ℕ) (order : Order) (tx : Draw) → work_by (ordered_command name number order) ≡ Some (Opens tx) → tx ≡ name
opens_next name number (An.Join node group) tx e = cc
opens_next name number _ tx e = cc

new_work : (P : Draw → Type 0) (name : Draw) (number : ℕ) (order : Order) (work : Work) → P name → work_by (ordered_command name number order) ≡ Some work → Each P (listed (opened_by work))
new_work P name number order (Opens tx) p e = (subst P (sym (opens_next name number order tx e)) p, tt)
new_work P name number order _ p e = tt

module _ (words : ℕ → ℕ → ℕ × ℕ) (scenario : Scenario) (first : Base) (journal quiet : Rows) (seat : Seat Player) (line : OrderLine) (calm : IsCalmJournal words scenario journal) (rests : RestsAt words scenario first journal quiet) (seen : AreSeen scenario quiet)
    (t : IsGivenInQuiet words (births as_nodes scenario) quiet seat line) (unused : (node : NodeState) → value player_table seat quiet ≡ Node node → IsUnused scenario quiet (next_name node.draws)) where
  abbrev all : List (Seat Player)
  all = births as_nodes scenario

  abbrev next : Rows
  next = with_event quiet seat (Told line)

  abbrev after : Scene
  after = scene_at all next

  idle : (name : Draw) (who : ℕ) (r : ReplicaState) → view_at (births as_nodes scenario) quiet name who ≡ Some r → works r ≡ []
  idle name who r has = rests_idle r (rests.fact.quiet.at_rest name who r (sym (seen name who) ∙ has))

  -- ---- the one that takes it

  module _ (group : Draw) (chief : ℕ) (work : Work) (stands : IsAt (Ordered group chief work) after) where
    abbrev Done : Type 0
    Done = HasDone (births as_nodes scenario) quiet next (doer group chief []) × Each (IsUnused scenario quiet) (listed (opened_by work))

    module _ (r : ReplicaState) (has : view_at (births as_nodes scenario) next group chief ≡ Some r) where
      has_work : works r ≡ work ∷ []
      has_work = lead_works all next group chief r stands.leads.0 has ∙ ap (λ (h : Here). h.work) stands.parties.0.0

      same_not : view_at (births as_nodes scenario) next group chief ≡ view_at (births as_nodes scenario) quiet group chief → Done
      same_not e = absurd (one_not_none work (works r) has_work (idle group chief r (sym e ∙ has)))

      module _ (here : chief ≡ seat.who) where
        now_here : view_at (births as_nodes scenario) next group seat.who ≡ Some r
        now_here = ap (view_at all next group) (sym here) ∙ has

        same_here : view_at (births as_nodes scenario) next group seat.who ≡ view_at (births as_nodes scenario) quiet group seat.who → Done
        same_here e = same_not (ap (view_at all next group) here ∙ (e ∙ ap (view_at all quiet group) (sym here)))

        module _ (node : NodeState) (fact : value player_table seat quiet ≡ Node node) where
          refused : replica_of (group_of_order line.order) node.replicas ≡ None → Done
          refused none =
              let e : on_order line node ≡ ordered_of None line node = ap (λ o. ordered_of o line node) none in
              same_here (now_is all quiet seat (Told line) node t.seated fact (ordered_of None line node) (Some (ToldInput line)) refl (ap (λ (x : _). (Node x.0, x.1)) e) group
              ∙ sym (was_is all quiet seat (Told line) node t.seated fact (ordered_of None line node) (Some (ToldInput line)) refl (ap (λ (x : _). (Node x.0, x.1)) e) group))

          module _ (x : ReplicaState) (found_x : replica_of (group_of_order line.order) node.replicas ≡ Some x) where
            ordered : IsOrdered words (births as_nodes scenario) quiet seat line node x
            ordered = record { seated = t.seated; timely = t.timely; is_node = fact; here = found_x }

            rows_of : IsOfGroup words (births as_nodes scenario) quiet seat (Told line) (group_of_order line.order) × IsTablesRow (births as_nodes scenario) quiet seat (Told line) (group_of_order line.order) x (ordered_row node.draws line (x, []))
            rows_of = rows_taken.ordered words all quiet seat line node x t.seated t.timely fact found_x

            other : LeavesOrMakes (births as_nodes scenario) quiet seat (Told line) group → Done
            other (inl e) = same_here e
            other (inr b) = absurd (one_not_none work (works r) has_work (ap works (same_Some r (born_replica slots_ahead seat.who b.base) (sym now_here ∙ b.makes))))

            -- one that takes the order has its command as its one work
            taken : group_of_order line.order ≡ group → FindsQuiet words (births as_nodes scenario) quiet seat line node x → Done
            taken own (ByAnother why beside not) =
                let w = tables-order.refused node.draws line why x not in
                absurd (one_not_none work (works r) has_work (ap works (now_is_so own) ∙ (w.work ∙ idle (group_of_order line.order) seat.who x rows_of.1.was)))
              where
                now_is_so : group_of_order line.order ≡ group → r ≡ (ordered_row node.draws line (x, [])).0
                now_is_so e = same_Some r (ordered_row node.draws line (x, [])).0 (sym now_here ∙ (ap (λ n. view_at all next n seat.who) (sym e) ∙ rows_of.1.fact))
            taken own (ByLeader leads unbound goes nothing) = by (untaken node.draws line x) refl
              where
                now_is_so : r ≡ (ordered_row node.draws line (x, [])).0
                now_is_so = same_Some r (ordered_row node.draws line (x, [])).0 (sym now_here ∙ (ap (λ n. view_at all next n seat.who) (sym own) ∙ rows_of.1.fact))

                may : MayFile x
                may = record { running = leads.running; unbound = unbound; idle = idle (group_of_order line.order) seat.who x rows_of.1.was }

                by : (o : Option OrderRefusal) → untaken node.draws line x ≡ o → Done
                by (Some why) e =
                    let w = tables-order.refused node.draws line why x e in
                    absurd (one_not_none work (works r) has_work (ap works now_is_so ∙ (w.work ∙ idle (group_of_order line.order) seat.who x rows_of.1.was)))
                by None e =
                    let w = tables-order.taken node.draws line x may e in
                    let is_work : w.0 ≡ work = same_work w.0 work (sym w.3.work ∙ (ap works (sym now_is_so) ∙ has_work)) in (
                      record {
                        first = x;
                        was = ap (view_at all quiet group) here ∙ (ap (λ n. view_at all quiet n seat.who) (sym own) ∙ rows_of.1.was);
                        led = leads.running;
                        now = r;
                        fact = has;
                        entries = [];
                        did = tt;
                        group_is = ap (λ (y : ReplicaState). y.group) now_is_so ∙ w.3.group;
                      },
                      new_work (IsUnused scenario quiet) (next_name node.draws) line.number line.order work (unused node fact) (w.2 ∙ ap Some is_work),
                    )

            at_replica : Done
            at_replica = elim (cases-draw (group_of_order line.order) group) [
              | inl own ↦ taken own (t.finds.told line node x refl ordered)
              | inr ne ↦ other (rows_of.0.others group (λ e. ne (sym e)))
            ]

          by_replica : (o : Option ReplicaState) → replica_of (group_of_order line.order) node.replicas ≡ o → Done
          by_replica None e = refused e
          by_replica (Some x) e = at_replica x e

        by_player : (player : Player) → value player_table seat quiet ≡ player → Done
        by_player (Client client) fact = absurd (none_some (sym (view_is all quiet seat (Told line) group t.seated (Client client) fact (Some (ToldInput line)) refl) ∙ now_here))
        by_player (Node node) fact = by_replica node fact (replica_of (group_of_order line.order) node.replicas) refl

      at_chief : Done
      at_chief = elim (cases_Bool (eqb chief seat.who)) [
        | inl e ↦ by_player (eqb-true chief seat.who e) (value player_table seat quiet) refl
        | inr f ↦ same_not (view_others all quiet (row_of player_table seat quiet (Told line)) group chief (λ e. true≢false (sym (eq-eqb chief seat.who e) ∙ f)))
      ]

    by_view : (o : Option ReplicaState) → view_at (births as_nodes scenario) next group chief ≡ o → Done
    by_view (Some r) has = at_chief r has
    by_view None has = absurd (true≢false (sym (lead_runs (view_at all next group) (numbers_of all) chief stands.leads.0) ∙ ap is_running has))

    ordered_done : HasDone (births as_nodes scenario) quiet next (doer group chief []) × Each (IsUnused scenario quiet) (listed (opened_by work))
    ordered_done = by_view (view_at all next group chief) refl

  -- ---- each stage

  begins : (stage : Stage) → IsAt stage after → IsTrueSince scenario quiet next stage
  begins Still a = record { new = tt; done = tt; asked = tt }
  begins (Ordered group chief work) a = (let d = ordered_done group chief work a in record { new = d.1; done = (d.0, tt); asked = tt })
  begins (Asks deal to) a = absurd (no_deal words all quiet seat line t deal.coord deal.tx deal.asked deal.turn (ap (λ (h : Here). h.bond) a.parties.0.0))
  begins (SentOn deal) a = absurd (no_deal words all quiet seat line t deal.coord deal.tx deal.asked deal.turn (ap (λ (h : Here). h.bond) a.parties.0.0))
  begins (Weighs deal host) a = absurd (no_deal words all quiet seat line t deal.coord deal.tx deal.asked deal.turn (ap (λ (h : Here). h.bond) a.parties.0.0))
  begins (Replied deal agreed host) a = absurd (no_deal words all quiet seat line t deal.coord deal.tx deal.asked deal.turn (ap (λ (h : Here). h.bond) a.parties.0.0))
  begins (Recorded deal agreed host) a = absurd (no_deal words all quiet seat line t deal.coord deal.tx deal.asked deal.turn (ap (λ (h : Here). h.bond) a.parties.0.0))
  begins (Closes tx party) a = absurd (no_party words all quiet seat line t party.group tx party.leg party.host a.parties.0.0)
  begins (ClosesBoth tx one two) a = absurd (no_party words all quiet seat line t one.group tx one.leg one.host a.parties.0.0)

pub true_begins : ValidScenariosAreBounded → ValidScenariosBeginWell → TakenOrdersAreAllowed → TakenWishesAreAllowed → WishesAreAtPositions → OtherNamesAreFree → NodesHaveNames → TrueOrdersBegin
true_begins bounded begin allowed wishes positions free names words scenario first journal quiet seat line stage calm rests seen t stands =
    let lawful : Lawful as_nodes words scenario quiet = lawful-prefix (system_of as_nodes words scenario) (schedule scenario) quiet rests.prefix.more (subst (Lawful as_nodes words scenario) rests.prefix.fact calm.lawful) in
    begins words scenario first journal quiet seat line calm rests seen t (λ node fact. next_unused bounded begin allowed wishes positions free names words scenario quiet calm.valid lawful seat t.seated node fact) stage stands
