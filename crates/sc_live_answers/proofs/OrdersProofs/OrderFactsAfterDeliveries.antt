-- What is known of an order since a quiet journal, after one more delivery.
use Rattle.std.proofs.Common.{◌≡◌, ℕ, List, [], ◌∷◌, Some, ◌⊎◌, inl, inr, refl, sym, ◌∙◌, ap, subst, append_assoc}
use Rattle.sc_base.specs.Definitions.{Each}
use Rattle.sc_node_table.specs.Values.{Draw, Seat, Deliver, Base}
use Rattle.sc_actor.specs.Definitions.{row_of}
use Rattle.sc_node_table.specs.NodeDefinitions.{listed}
use Rattle.sc_scenario.specs.declared.scenario.scenarios.Scenario.{Scenario}
use Rattle.sc_meaning.specs.sound.SoundDefinitions.{Player, as_nodes, births, player_table}
use Rattle.sc_live_steps.specs.calm.CalmDefinitions.{StandsQuiet, Rows}
use Rattle.sc_live_steps.specs.orders.OrderDefinitions.{OfQuestion, OfVote, OfOutcome, LastTakes, OneTakes, TwoTakes, LastFreed, OneFreed, TwoFreed, IsStepOf, ByRest, ByOrder, ByChange, ByDeal, ByPassing, ByAsking, ByTaking, ByVote, ByNo, ByHearing, ByDeciding, ByEnd, closed, First, Here, Lone, Next, Scene, Turn, Asks, Deal, IsAt, Stage, Still, Weighs}
use Rattle.sc_live_journals.specs.rows.RowDefinitions.{with_event}
use Rattle.sc_live_journals.specs.scenes.SceneDefinitions.{GoesBy, scene_at}
use Rattle.sc_live_plain.specs.PlainDefinitions.{replicas_after}
use Rattle.sc_live_answers.specs.AnswerDefinitions.{Doer, FlightsBeginSo, HasDone, doer, doers_of, ContinuesSince, IsUnused, tx_of, ReplicasAreRecorded, asked_of}
use Rattle.sc_live_answers.proofs.WorkProofs.LeaderDeeds.{stays, steps}
use Rattle.sc_live_answers.proofs.WorkProofs.PartiesSinceQuiet.{asked_stands, begin_so}

-- ---- the transaction of a stage

closed_tx : (tx asked : Draw) (turn : Turn) (host : ℕ) → tx_of (closed tx asked turn host) ≡ Some tx
closed_tx tx asked First host = refl
closed_tx tx asked Lone host = refl
closed_tx tx asked (Next part node) host = refl

-- by a step it stays, or the stage has none
pub step_tx : (P : Draw → Type 0) (group : Draw) (stage later : Stage) → IsStepOf group stage later → (stage ≡ Still → ⊥) → Each P (listed (tx_of stage)) → Each P (listed (tx_of later))
step_tx P group stage later (ByRest e) on k = subst (λ x. Each P (listed (tx_of x))) (sym e) k
step_tx P group stage later (ByOrder s) on k = absurd (on s.before_is)
step_tx P group stage later (ByChange s) on k = subst (λ x. Each P (listed (tx_of x))) (sym s.after_is) tt
step_tx P group stage later (ByDeal s) on k = subst (λ x. Each P (listed (tx_of x))) (sym s.after_is) (subst (λ x. Each P (listed (tx_of x))) s.before_is k)
step_tx P group stage later (ByPassing s) on k = subst (λ x. Each P (listed (tx_of x))) (sym s.after_is) (subst (λ x. Each P (listed (tx_of x))) s.before_is k)
step_tx P group stage later (ByAsking s) on k = subst (λ x. Each P (listed (tx_of x))) (sym s.after_is) (subst (λ x. Each P (listed (tx_of x))) s.before_is k)
step_tx P group stage later (ByTaking (OfQuestion s)) on k = subst (λ x. Each P (listed (tx_of x))) (sym s.after_is) (subst (λ x. Each P (listed (tx_of x))) s.before_is k)
step_tx P group stage later (ByTaking (OfVote s)) on k = subst (λ x. Each P (listed (tx_of x))) (sym s.after_is) (subst (λ x. Each P (listed (tx_of x))) s.before_is k)
step_tx P group stage later (ByTaking (OfOutcome (LastTakes tx party e l g f))) on k = subst (λ x. Each P (listed (tx_of x))) (sym f) (subst (λ x. Each P (listed (tx_of x))) e k)
step_tx P group stage later (ByTaking (OfOutcome (OneTakes tx one two e l g f))) on k = subst (λ x. Each P (listed (tx_of x))) (sym f) (subst (λ x. Each P (listed (tx_of x))) e k)
step_tx P group stage later (ByTaking (OfOutcome (TwoTakes tx one two e l g f))) on k = subst (λ x. Each P (listed (tx_of x))) (sym f) (subst (λ x. Each P (listed (tx_of x))) e k)
step_tx P group stage later (ByVote s) on k = subst (λ x. Each P (listed (tx_of x))) (sym s.after_is) (subst (λ x. Each P (listed (tx_of x))) s.before_is k)
step_tx P group stage later (ByNo s) on k = subst (λ x. Each P (listed (tx_of x))) (sym s.after_is) tt
step_tx P group stage later (ByHearing s) on k =
    let was : Each P (s.deal.tx ∷ []) = subst (λ x. Each P (listed (tx_of x))) s.before_is k in
    subst (λ x. Each P (listed (tx_of x))) (sym s.after_is) (subst P (sym s.tx_same) was.0, tt)
step_tx P group stage later (ByDeciding s) on k =
    let was : Each P (s.deal.tx ∷ []) = subst (λ x. Each P (listed (tx_of x))) s.before_is k in
    subst (λ x. Each P (listed (tx_of x))) (sym s.after_is) (subst (λ o. Each P (listed o)) (sym (closed_tx s.deal.tx s.deal.asked s.deal.turn s.host)) was)
step_tx P group stage later (ByEnd (LastFreed tx party e l g f)) on k = subst (λ x. Each P (listed (tx_of x))) (sym f) tt
step_tx P group stage later (ByEnd (OneFreed tx one two e l g f)) on k = subst (λ x. Each P (listed (tx_of x))) (sym f) (subst (λ x. Each P (listed (tx_of x))) e k)
step_tx P group stage later (ByEnd (TwoFreed tx one two e l g f)) on k = subst (λ x. Each P (listed (tx_of x))) (sym f) (subst (λ x. Each P (listed (tx_of x))) e k)

none_closed : (P : Draw → Type 0) (tx asked : Draw) (turn : Turn) (host : ℕ) → Each P (asked_of (closed tx asked turn host))
none_closed P tx asked First host = tt
none_closed P tx asked Lone host = tt
none_closed P tx asked (Next part node) host = tt

-- ---- a delivery

module _ (tells : ReplicasAreRecorded) (words : ℕ → ℕ → ℕ × ℕ) (scenario : Scenario) (first : Base) (journal quiet rows : Rows) (seat : Seat Player) (number : ℕ) (stage : Stage) (g : ContinuesSince words scenario first journal quiet rows seat number stage) where
  abbrev all : List (Seat Player)
  all = births as_nodes scenario

  abbrev pub next : Rows
  next = with_event rows seat (Deliver number)

  abbrev after : Scene
  after = scene_at all next

  abbrev Has : Doer → Type 0
  Has it = HasDone (births as_nodes scenario) quiet next it

  begins : FlightsBeginSo (births as_nodes scenario) quiet rows
  begins = begin_so tells words scenario first journal quiet rows (row_of player_table seat rows (Deliver number) ∷ g.goes.prefix.more) (g.goes.prefix.fact ∙ append_assoc rows (row_of player_table seat rows (Deliver number) ∷ []) g.goes.prefix.more) g.calm g.rests g.seen

  -- ---- what was executed

  going : (later : Stage) → GoesBy rows (Deliver number) stage later → stage ≡ Still → ⊥
  going later goes still = goes.begins still

  pub has_done : ((deal : Deal) (node host : ℕ) → stage ≡ Asks deal node → IsAt (Weighs deal host) after → Has (doer deal.asked host [])) → (later : Stage) → IsAt later after → (later ≡ stage) ⊎ GoesBy rows (Deliver number) stage later → Each Has (doers_of later)
  has_done fresh later stands (inl e) =
      subst (λ x. Each Has (doers_of x)) (sym e)
      (stays words all quiet rows seat number g.goes.seated g.goes.timely g.finds begins stage g.untouched.stands stage g.untouched.stands (subst (λ x. IsAt x after) e stands) g.true_since.done)
  has_done fresh later stands (inr goes) =
      steps words all quiet rows seat number g.goes.seated g.goes.timely g.finds begins stage g.untouched.stands goes.group stage later goes.step (going later goes) fresh g.untouched.stands stands g.true_since.done

  -- ---- whom a stage asks

  abbrev Stood : Stage → Type 0
  Stood x = Each (StandsQuiet (replicas_after scenario quiet)) (asked_of x)

  asks_stood : (deal : Deal) (to : ℕ) → IsAt (Asks deal to) after → Each Has (doers_of (Asks deal to)) → Stood (Asks deal to)
  asks_stood deal to stands d = (
    asked_stands tells words scenario first journal quiet next g.goes.prefix.more g.goes.prefix.fact g.calm g.rests g.seen deal stands.leads.0 (ap (λ (h : Here). h.bond) stands.parties.0.0) d.0 deal.turn refl stands.parties.0.1.1 stands.leads.1 d.1,
    tt,
  )

  -- by a step the group that is asked is as before, or a new one
  step_asked : (group : Draw) (before later : Stage) → IsStepOf group before later → (before ≡ Still → ⊥) → Stood before → IsAt later after → Each Has (doers_of later) → Stood later
  step_asked group before later (ByRest e) on k a d = subst Stood (sym e) k
  step_asked group before later (ByOrder s) on k a d = absurd (on s.before_is)
  step_asked group before later (ByChange s) on k a d = subst Stood (sym s.after_is) tt
  step_asked group before later (ByDeal s) on k a d = subst Stood (sym s.after_is) (asks_stood s.deal s.to (subst (λ x. IsAt x after) s.after_is a) (subst (λ x. Each Has (doers_of x)) s.after_is d))
  step_asked group before later (ByPassing s) on k a d = subst Stood (sym s.after_is) (subst Stood s.before_is k)
  step_asked group before later (ByAsking s) on k a d = subst Stood (sym s.after_is) (subst Stood s.before_is k)
  step_asked group before later (ByTaking (OfQuestion s)) on k a d = subst Stood (sym s.after_is) (subst Stood s.before_is k)
  step_asked group before later (ByTaking (OfVote s)) on k a d = subst Stood (sym s.after_is) (subst Stood s.before_is k)
  step_asked group before later (ByTaking (OfOutcome (LastTakes tx party e l h f))) on k a d = subst Stood (sym f) tt
  step_asked group before later (ByTaking (OfOutcome (OneTakes tx one two e l h f))) on k a d = subst Stood (sym f) tt
  step_asked group before later (ByTaking (OfOutcome (TwoTakes tx one two e l h f))) on k a d = subst Stood (sym f) tt
  step_asked group before later (ByVote s) on k a d = subst Stood (sym s.after_is) (subst Stood s.before_is k)
  step_asked group before later (ByNo s) on k a d = subst Stood (sym s.after_is) tt
  step_asked group before later (ByHearing s) on k a d = subst Stood (sym s.after_is) (asks_stood s.next s.to (subst (λ x. IsAt x after) s.after_is a) (subst (λ x. Each Has (doers_of x)) s.after_is d))
  step_asked group before later (ByDeciding s) on k a d = subst Stood (sym s.after_is) (none_closed (StandsQuiet (replicas_after scenario quiet)) s.deal.tx s.deal.asked s.deal.turn s.host)
  step_asked group before later (ByEnd (LastFreed tx party e l h f)) on k a d = subst Stood (sym f) tt
  step_asked group before later (ByEnd (OneFreed tx one two e l h f)) on k a d = subst Stood (sym f) tt
  step_asked group before later (ByEnd (TwoFreed tx one two e l h f)) on k a d = subst Stood (sym f) tt

  pub has_asked : (later : Stage) → IsAt later after → (later ≡ stage) ⊎ GoesBy rows (Deliver number) stage later → Each Has (doers_of later) → Each (StandsQuiet (replicas_after scenario quiet)) (asked_of later)
  has_asked later stands (inl e) d = subst Stood (sym e) g.true_since.asked
  has_asked later stands (inr goes) d = step_asked goes.group stage later goes.step (going later goes) g.true_since.asked stands d

  pub has_new : (later : Stage) → (later ≡ stage) ⊎ GoesBy rows (Deliver number) stage later → Each (IsUnused scenario quiet) (listed (tx_of later))
  has_new later (inl e) = subst (λ x. Each (IsUnused scenario quiet) (listed (tx_of x))) (sym e) g.true_since.new
  has_new later (inr goes) = step_tx (IsUnused scenario quiet) goes.group stage later goes.step (going later goes) g.true_since.new
