-- A group that takes a question is as it was in the quiet; so what is known of an order goes on.
use Rattle.std.proofs.Common.{◌≡◌, ℕ, Bool, eqb, true, false, true≢false, List, [], ◌∷◌, Option, Some, None, inl, inr, refl, sym, ◌∙◌, ap, subst}
use Rattle.std.proofs.lemmas.Bool.{cases_Bool, eq-eqb, eqb-true}
use Rattle.std.proofs.lemmas.Option.{same_Some}
use Rattle.sc_base.specs.Definitions.{Among, Each}
use Rattle.sc_node_table.specs.Values.{Draw, Seat, Deliver, Base, Mail}
use Rattle.sc_actor.specs.Definitions.{numbers_of, row_of}
use Rattle.sc_node_table.specs.NodeDefinitions.{NodeState, replica_of, Place, ReplicaState, born_replica, slots_ahead}
use Rattle.sc_scenario.specs.declared.scenario.scenarios.Scenario.{Scenario}
use Rattle.sc_meaning.specs.sound.SoundDefinitions.{Player, as_nodes, births, player_table}
use Rattle.sc_live_steps.specs.calm.CalmDefinitions.{StandsQuiet, Rows}
use Rattle.sc_live_steps.specs.orders.OrderDefinitions.{works, Answers, Asking, Bound, Elsewhere, Ends, Errand, First, Here, IsNone, Lone, Next, Question, Records, Reply, Result, Scene, Turn, Unbound, Work, free, is_watch, Asks, Closes, ClosesBoth, Deal, Filed, IsAt, Leg, Mailed, Ordered, Recorded, Replied, SentOn, Stage, Still, Weighs, bound_by, closing, heard, parties_of}
use Rattle.sc_live_steps.proofs.OrderStepsProofs.OrderStepLemmas.{cases-draw, found, no-work, work_of}
use Rattle.sc_live_journals.specs.rows.RowDefinitions.{view_at, with_event}
use Rattle.sc_live_journals.proofs.RowsProofs.RowLemmas.{view_others}
use Rattle.sc_live_journals.specs.scenes.SceneDefinitions.{BesideFinds, AreUntouched, IsDelivered, IsFresh, IsThere, ComesTo, StageAfter, is_running, scene_at, IsTaking, Creates, LeadsAlone}
use Rattle.sc_live_journals.proofs.ScenesProofs.SceneLemmas.{own_errand, found_step, aside_is, asks_it, row_of_comes, lead_runs, errand_among, misses, asked_fresh, fresh_errand}
use Rattle.sc_live_plain.specs.PlainDefinitions.{replicas_after}
use Rattle.sc_live_answers.specs.AnswerDefinitions.{Executed, HasDone, HasStepped, Rested, doer, AskedGroupsStood, ContinuesSince, TrueOrdersGoOn, ReplicasAreRecorded, asked_of}
use Rattle.sc_live_answers.proofs.WorkProofs.LeaderDeeds.{lead_works, one_not_none}
use Rattle.sc_live_answers.proofs.OrdersProofs.OrderFactsAfterDeliveries.{has_asked, has_done, has_new}
use Rattle.sc_live_answers.proofs.QuietProofs.QuietLeaders.{stands_there}
use Rattle.sc_live_answers.proofs.WorkProofs.LeaderDeliveries.{Aside, Fate, Leading, Missed, New, Same, fate, steps_of}
use Rattle.sc_live_answers.proofs.VotesProofs.OpenedTransactions.{no_asking}
pub use Rattle.sc_live_answers.proofs.OrdersProofs.OrderPremises.{no_works as rests_idle}

born_idle : (ahead who : ℕ) (base : Base) → works (born_replica ahead who base) ≡ []
born_idle ahead who base = refl

-- ---- whom a scene asks

asked_same : (tx tx2 one other : Draw) (t t2 : Turn) → Asking tx one t ≡ Asking tx2 other t2 → one ≡ other
asked_same tx tx2 one other t t2 e = cc

no_bound : (tx tx2 asked : Draw) (turn : Turn) → Bound tx ≡ Asking tx2 asked turn → ⊥
no_bound tx tx2 asked turn e = cc

-- a part that waits waits for one of these groups
abbrev WaitsFor : List Draw → Here → Type 0
WaitsFor names here = (tx asked : Draw) (turn : Turn) → here.bond ≡ Asking tx asked turn → Among asked names

free_waits : (names : List Draw) (work : List Work) (errands : List Errand) → WaitsFor names (record { bond = Unbound; work = work; errands = errands })
free_waits names work errands tx asked turn e = absurd (no_asking tx asked turn e)

bound_waits : (names : List Draw) (t : Draw) (work : List Work) (errands : List Errand) → WaitsFor names (record { bond = Bound t; work = work; errands = errands })
bound_waits names t work errands tx asked turn e = absurd (no_bound t tx asked turn e)

vote_waits : (names : List Draw) (agreed : Bool) (t : Draw) (work : List Work) (errands : List Errand) → WaitsFor names (record { bond = bound_by agreed t; work = work; errands = errands })
vote_waits names true t work errands = bound_waits names t work errands
vote_waits names false t work errands = free_waits names work errands

coord_waits : (deal : Deal) (work : List Work) (errands : List Errand) → WaitsFor (deal.asked ∷ []) (record { bond = Asking deal.tx deal.asked deal.turn; work = work; errands = errands })
coord_waits deal work errands tx asked turn e = inl (asked_same deal.tx tx deal.asked asked deal.turn turn e)

heard_waits : (names : List Draw) (tx : Draw) (turn : Turn) → Each (λ party. WaitsFor names party.1) (heard tx turn)
heard_waits names tx First = tt
heard_waits names tx Lone = tt
heard_waits names tx (Next part host) = (bound_waits names tx [] [], tt)

closing_waits : (names : List Draw) (tx : Draw) (leg : Leg) (host : ℕ) → WaitsFor names (closing tx leg host)
closing_waits names tx Mailed host = bound_waits names tx [] (Result tx host ∷ [])
closing_waits names tx Filed host = bound_waits names tx (Ends tx ∷ []) []

stage_waits : (stage : Stage) → Each (λ party. WaitsFor (asked_of stage) party.1) (parties_of stage)
stage_waits Still = tt
stage_waits (Ordered group chief work) = (free_waits [] (work ∷ []) [], tt)
stage_waits (Asks deal to) = (coord_waits deal [] [], (free_waits (deal.asked ∷ []) [] (Question deal.tx deal.coord (is_watch deal.turn) deal.chief to ∷ []), heard_waits (deal.asked ∷ []) deal.tx deal.turn))
stage_waits (SentOn deal) = (coord_waits deal [] (Elsewhere deal.tx deal.chief ∷ []), (free_waits (deal.asked ∷ []) [] [], heard_waits (deal.asked ∷ []) deal.tx deal.turn))
stage_waits (Weighs deal host) = (coord_waits deal [] [], (free_waits (deal.asked ∷ []) (Answers deal.tx deal.coord (is_watch deal.turn) deal.chief ∷ []) [], heard_waits (deal.asked ∷ []) deal.tx deal.turn))
stage_waits (Replied deal agreed host) = (coord_waits deal [] (Reply deal.tx (is_watch deal.turn) agreed host deal.chief ∷ []), (vote_waits (deal.asked ∷ []) agreed deal.tx [] [], heard_waits (deal.asked ∷ []) deal.tx deal.turn))
stage_waits (Recorded deal agreed host) = (coord_waits deal (Records deal.tx (is_watch deal.turn) agreed host ∷ []) [], (vote_waits (deal.asked ∷ []) agreed deal.tx [] [], heard_waits (deal.asked ∷ []) deal.tx deal.turn))
stage_waits (Closes tx party) = (closing_waits [] tx party.leg party.host, tt)
stage_waits (ClosesBoth tx one two) = (closing_waits [] tx one.leg one.host, (closing_waits [] tx two.leg two.host, tt))

parties_wait : (names : List Draw) (now : Scene) (group : Draw) (named : List (Draw × Here)) → Each (λ party. now.at party.0 ≡ party.1) named → Each (λ party. WaitsFor names party.1) named → (IsNone group named → now.at group ≡ free) → WaitsFor names (now.at group)
parties_wait names now group [] are fit none = subst (WaitsFor names) (sym (none tt)) (free_waits names [] [])
parties_wait names now group (party ∷ named) are fit none = elim (cases-draw group party.0) [
  | inl fact ↦ subst (WaitsFor names) (sym (ap now.at fact ∙ are.0)) fit.0
  | inr apart ↦ parties_wait names now group named are.1 fit.1 (λ more. none (apart, more))
]

-- a group that waits waits for the one that the stage asks
pub asks_one : (now : Scene) (stage : Stage) → IsAt stage now → (group tx asked : Draw) (turn : Turn) → (now.at group).bond ≡ Asking tx asked turn → Among asked (asked_of stage)
asks_one now stage a group = parties_wait (asked_of stage) now group (parties_of stage) a.parties.0 (stage_waits stage) (a.parties.1 group)

-- where a question is under way there is no work
question_idle : (now : Scene) (deal : Deal) (to : ℕ) → IsAt (Asks deal to) now → (group : Draw) (work : Work) → Among work (now.at group).work → ⊥
question_idle now deal to a group work there = no-work deal.tx deal.turn (group, work) (found work_of now.at group work there (parties_of (Asks deal to)) a.parties refl)

each_at : (P : Draw → Type 0) (name : Draw) (names : List Draw) → Each P names → Among name names → P name
each_at P name [] e a = absurd a
each_at P name (x ∷ names) e (inl fact) = subst P fact e.0
each_at P name (x ∷ names) e (inr a) = each_at P name names e.1 a

module _ (tells : ReplicasAreRecorded) (words : ℕ → ℕ → ℕ × ℕ) (scenario : Scenario) (first : Base) (journal quiet rows : Rows) (seat : Seat Player) (number : ℕ) (stage : Stage) (g : ContinuesSince words scenario first journal quiet rows seat number stage) where
  abbrev all : List (Seat Player)
  all = births as_nodes scenario

  abbrev next : Rows
  next = with_event rows seat (Deliver number)

  abbrev after : Scene
  after = scene_at all next

  -- ---- whom it asks

  asked_stood : (deal : Deal) (to : ℕ) → IsAt (Asks deal to) after → StandsQuiet (replicas_after scenario quiet) deal.asked × IsThere (births as_nodes scenario) quiet deal.asked
  asked_stood deal to stands =
      let found : StageAfter all rows seat (Deliver number) stage = found_step words all rows seat (Deliver number) g.goes.seated g.goes.timely g.finds stage g.untouched.stands in
      let done = has_done tells words scenario first journal quiet rows seat number stage g
      (λ other node host e weighs. absurd (question_idle after deal to stands other.asked _ (subst (Among (Answers other.tx other.coord (is_watch other.turn) other.chief)) (sym (ap (λ (h : Here). h.work) weighs.parties.0.1.0)) (inl refl)))) found.0 found.1 found.2 in
      let asked = has_asked tells words scenario first journal quiet rows seat number stage g found.0 found.1 found.2 done in
      let own = each_at (StandsQuiet (replicas_after scenario quiet)) deal.asked (asked_of found.0) asked (asks_one after found.0 found.1 deal.coord deal.tx deal.asked deal.turn (ap (λ (h : Here). h.bond) stands.parties.0.0)) in
      (own, stands_there scenario quiet _ _ g.rests.fact.quiet g.rests.known g.seen deal.asked own)

  -- ---- one that takes a question

  module _ (d : IsDelivered words (births as_nodes scenario) quiet rows seat number) (deal : Deal) (node host : ℕ) (fact : stage ≡ Asks deal node) (weighs : IsAt (Weighs deal host) after) where
    untouched : AreUntouched words (births as_nodes scenario) quiet rows (Asks deal node)
    untouched = subst (AreUntouched words all quiet rows) fact g.untouched

    there : IsThere (births as_nodes scenario) quiet deal.asked
    there = stands_there scenario quiet _ _ g.rests.fact.quiet g.rests.known g.seen deal.asked (subst (λ x. Each (StandsQuiet (replicas_after scenario quiet)) (asked_of x)) fact g.true_since.asked).0

    fresh : IsFresh stage deal.asked
    fresh = subst (λ x. IsFresh x deal.asked) (sym fact) (asked_fresh (scene_at all rows) deal node untouched.stands)

    was : (who : ℕ) → view_at (births as_nodes scenario) rows deal.asked who ≡ view_at (births as_nodes scenario) quiet deal.asked who
    was who = g.untouched.views deal.asked fresh there who

    -- in the quiet it had no work
    idle_was : (who : ℕ) (r : ReplicaState) → view_at (births as_nodes scenario) rows deal.asked who ≡ Some r → works r ≡ []
    idle_was who r has = rests_idle r (g.rests.fact.quiet.at_rest deal.asked who r (sym (g.seen deal.asked who) ∙ (sym (was who) ∙ has)))

    abbrev Has : Type 0
    Has = HasDone (births as_nodes scenario) quiet next (doer deal.asked host [])

    module _ (r : ReplicaState) (has : view_at (births as_nodes scenario) next deal.asked host ≡ Some r) where
      works_now : works r ≡ Answers deal.tx deal.coord (is_watch deal.turn) deal.chief ∷ []
      works_now = lead_works all next deal.asked host r weighs.leads.1.0 has ∙ ap (λ (h : Here). h.work) weighs.parties.0.1.0

      no_idle : works r ≡ [] → ⊥
      no_idle none = one_not_none _ (works r) works_now none

      same_not : view_at (births as_nodes scenario) next deal.asked host ≡ view_at (births as_nodes scenario) rows deal.asked host → Has
      same_not e = absurd (no_idle (idle_was host r (sym e ∙ has)))

      module _ (here : host ≡ seat.who) where
        now_here : view_at (births as_nodes scenario) next deal.asked seat.who ≡ Some r
        now_here = ap (view_at all next deal.asked) (sym here) ∙ has

        idle_there : view_at (births as_nodes scenario) next deal.asked seat.who ≡ view_at (births as_nodes scenario) rows deal.asked seat.who → Has
        idle_there e = absurd (no_idle (idle_was seat.who r (sym e ∙ now_here)))

        led : (x made : ReplicaState) → LeadsAlone (births as_nodes scenario) rows deal.asked seat.who x → view_at (births as_nodes scenario) next deal.asked seat.who ≡ Some made → HasStepped x made → Has
        led x made leads e (Executed flight work among had w none applied) = absurd (one_not_none work (works x) had (idle_was seat.who x leads.is_there))
        led x made leads e (Rested same rest) = record {
          first = x;
          was = ap (view_at all quiet deal.asked) here ∙ (sym (was seat.who) ∙ leads.is_there);
          led = leads.running;
          now = made;
          fact = ap (view_at all next deal.asked) here ∙ e;
          entries = [];
          did = tt;
          group_is = same;
        }

        aside : (mail : Mail) (x : ReplicaState) (c : ComesTo words (births as_nodes scenario) rows seat number mail deal.asked x) → BesideFinds mail x mail.body → Has
        aside mail x c f =
            let own = own_errand words all quiet rows seat number stage g.untouched d deal.asked mail fresh there c.taking.sent c.taking.named in
            let rows_of = row_of_comes words all rows seat number mail deal.asked x c in
            let among = errand_among words all rows seat number mail deal.asked own.0 own.1 c.node c.taking rows_of.0 in
            let q = asks_it mail.from mail.to mail.body own.0 own.1 (fresh_errand (scene_at all rows) stage deal.asked own.0.1 g.untouched.stands fresh among) in
            idle_there (rows_of.1.fact ∙ (ap (λ (p : Place). Some p.0) (aside_is mail x mail.body q f).2 ∙ sym rows_of.1.was))

        missed : (mail : Mail) (at : NodeState) → IsTaking words (births as_nodes scenario) rows seat number mail deal.asked at → replica_of deal.asked at.replicas ≡ None → Has
        missed mail at t none =
            let own = own_errand words all quiet rows seat number stage g.untouched d deal.asked mail fresh there t.sent t.named in
            idle_there (misses words all rows seat number mail deal.asked at t own.0 none own.1).1

        born_now : Creates (births as_nodes scenario) rows seat (Deliver number) deal.asked → Has
        born_now b = absurd (no_idle (ap works (same_Some r (born_replica slots_ahead seat.who b.base) (sym now_here ∙ b.makes)) ∙ born_idle slots_ahead seat.who b.base))

        by_fate : Fate words (births as_nodes scenario) rows seat number g.goes.seated g.goes.timely g.finds (stage, g.untouched.stands) deal.asked → Has
        by_fate (Same e) = idle_there e
        by_fate (Leading x made leads row acts) = led x made.0 leads row.fact (steps_of x made acts)
        by_fate (Aside mail x c beside f) = aside mail x c f
        by_fate (Missed mail at t none) = missed mail at t none
        by_fate (New b) = born_now b

      at_host : Has
      at_host = elim (cases_Bool (eqb host seat.who)) [
        | inl t ↦ (let here = eqb-true host seat.who t in by_fate here (fate words all rows seat number g.goes.seated g.goes.timely g.finds (stage, g.untouched.stands) deal.asked))
        | inr f ↦ same_not (view_others all rows (row_of player_table seat rows (Deliver number)) deal.asked host (λ e. true≢false (sym (eq-eqb host seat.who e) ∙ f)))
      ]

    by_view : (o : Option ReplicaState) → view_at (births as_nodes scenario) next deal.asked host ≡ o → Has
    by_view (Some r) has = at_host r has
    by_view None has = absurd (true≢false (sym (lead_runs (view_at all next deal.asked) (numbers_of all) host weighs.leads.1.0) ∙ ap is_running has))

    taken_fresh : Has
    taken_fresh = by_view (view_at all next deal.asked host) refl

pub asked_groups_stood : ReplicasAreRecorded → AskedGroupsStood
asked_groups_stood tells words scenario first journal quiet rows seat number stage g deal to stands = asked_stood tells words scenario first journal quiet rows seat number stage g deal to stands

pub true_goes_on : ReplicasAreRecorded → TrueOrdersGoOn
true_goes_on tells words scenario first journal quiet rows seat number stage later g d u goes =
    let done = has_done tells words scenario first journal quiet rows seat number stage g (λ deal node host fact weighs. taken_fresh tells words scenario first journal quiet rows seat number stage g d deal node host fact weighs) later u.stands goes in
    record {
      new = has_new tells words scenario first journal quiet rows seat number stage g later goes;
      done = done;
      asked = has_asked tells words scenario first journal quiet rows seat number stage g later u.stands goes done;
    }
