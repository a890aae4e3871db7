-- The charts of a journal follow one another while an order is under way.
use Rattle.std.proofs.Common.{◌≡◌, ℕ, Bool, true, cond, List, [], ◌∷◌, ◌++◌, replicate, Some, ◌⊎◌, inl, inr, sym, ◌∙◌, ap, subst}
use Rattle.sc_base.specs.Definitions.{Among, Each}
use Rattle.sc_node_table.specs.Values.{Draw, OrderLine, Mail, Seat, Event}
use Rattle.sc_actor.specs.Definitions.{mails, copies, is_quiet, value, System, row_of, numbers_of}
use Rattle.sc_live_orderly.specs.OrderlyDefinitions.{is_born, mail_with, under_way, AreInTime}
use Rattle.sc_words.proofs.PaxosProofs.PaxosLemmas.{Each-from}
use Rattle.sc_scenario.specs.declared.scenario.scenarios.Scenario.{Scenario}
use Rattle.sc_meaning.specs.sound.SoundDefinitions.{Player, player_table, births, as_nodes}
use Rattle.sc_live_steps.specs.calm.CalmDefinitions.{players, MayFollow, Rows}
use Rattle.sc_live_journals.specs.rows.RowDefinitions.{view_at, with_event}
use Rattle.sc_live_journals.specs.charts.ChartDefinitions.{all_replicas, asked_in, chart_at, WaitsForNone, AsksSame, ChartsFollow}
use Rattle.sc_live_steps.specs.orders.OrderDefinitions.{Turn, First, Lone, Next, is_watch, Elsewhere, Asking, Here, errand_by, Deal, Stage, Asks, SentOn, IsAt, closed, OfQuestion, OfVote, OfOutcome, LastTakes, OneTakes, TwoTakes, LastFreed, OneFreed, TwoFreed, IsStepOf, ByRest, ByOrder, ByChange, ByDeal, ByPassing, ByAsking, ByTaking, ByVote, ByNo, ByHearing, ByDeciding, ByEnd}
use Rattle.sc_live_steps.proofs.OrderStepsProofs.OrderStepLemmas.{among-left, among-right}
use Rattle.sc_live_journals.specs.scenes.SceneDefinitions.{StageAfter, left_after, scene_at}
use Rattle.sc_live_journals.proofs.ScenesProofs.SceneLemmas.{lead_runs}
use Rattle.sc_live_answers.specs.AnswerDefinitions.{AllLeadAlone, StagesAsk, OrderChartsFollow}
use Rattle.sc_live_answers.proofs.OrdersProofs.OrderDeliveries.{among_all, named_so, runs_there}
use Rattle.sc_live_answers.proofs.ErrandsProofs.Questions.{elsewhere_stage}
use Rattle.sc_live_answers.proofs.ErrandsProofs.QuestionTargets.{errand_there}
use Rattle.sc_live_answers.proofs.AnswersProofs.SentMail.{among_passed}

-- ---- mail that is under way is left

pub split_among : {X : Type 0} (xs ys : List X) (x : X) → Among x (xs ++ ys) → Among x xs ⊎ Among x ys
split_among [] ys x a = inr a
split_among (z ∷ xs) ys x (inl e) = inl (inl e)
split_among (z ∷ xs) ys x (inr a) = elim (split_among xs ys x a) [ inl l ↦ inl (inr l) | inr r ↦ inr r ]

with_all : (test : Mail → Bool) (sent : List Mail) (counts : List ℕ) (mail : Mail) → Among mail (mail_with test sent counts) → Among mail (mail_with (λ m. true) sent counts)
with_all test [] counts mail a = absurd a
with_all test (m ∷ sent) [] mail a = absurd a
with_all test (m ∷ sent) (c ∷ counts) mail a = elim (split_among (cond (test m) (replicate c m) []) (mail_with test sent counts) mail a) [
  | inl here ↦ among-left mail (replicate c m) (mail_with (λ x. true) sent counts) (among_passed mail (replicate c m) (test m) here)
  | inr more ↦ among-right mail (replicate c m) (mail_with (λ x. true) sent counts) (with_all test sent counts mail more)
]

-- ---- what was asked before

-- the stage before one in which it is to be asked elsewhere
sent_from : (group : Draw) (before after : Stage) (deal : Deal) → IsStepOf group before after → after ≡ SentOn deal → (before ≡ SentOn deal) ⊎ ((to : ℕ) × (before ≡ Asks deal to))
sent_from group before after deal (ByRest same) e = inl (sym same ∙ e)
sent_from group before after deal (ByOrder k) e = (let bad = sym k.after_is ∙ e in cc)
sent_from group before after deal (ByChange k) e = (let bad = sym k.after_is ∙ e in cc)
sent_from group before after deal (ByDeal k) e = (let bad = sym k.after_is ∙ e in cc)
sent_from group before after deal (ByPassing k) e = (let same : SentOn k.deal ≡ SentOn deal = sym k.after_is ∙ e in let fact : k.deal ≡ deal = cc in inr (k.to, k.before_is ∙ ap (λ d. Asks d k.to) fact))
sent_from group before after deal (ByAsking k) e = (let bad = sym k.after_is ∙ e in cc)
sent_from group before after deal (ByTaking (OfQuestion k)) e = (let bad = sym k.after_is ∙ e in cc)
sent_from group before after deal (ByTaking (OfVote k)) e = (let bad = sym k.after_is ∙ e in cc)
sent_from group before after deal (ByTaking (OfOutcome (LastTakes tx party b leg g a))) e = (let bad = sym a ∙ e in cc)
sent_from group before after deal (ByTaking (OfOutcome (OneTakes tx one two b leg g a))) e = (let bad = sym a ∙ e in cc)
sent_from group before after deal (ByTaking (OfOutcome (TwoTakes tx one two b leg g a))) e = (let bad = sym a ∙ e in cc)
sent_from group before after deal (ByVote k) e = (let bad = sym k.after_is ∙ e in cc)
sent_from group before after deal (ByNo k) e = (let bad = sym k.after_is ∙ e in cc)
sent_from group before after deal (ByHearing k) e = (let bad = sym k.after_is ∙ e in cc)
sent_from group before after deal (ByDeciding k) e = absurd (not_closed k.deal.tx k.deal.asked k.deal.turn k.host (sym k.after_is ∙ e))
  where
    not_closed : (tx asked : Draw) (turn : Turn) (host : ℕ) → closed tx asked turn host ≡ SentOn deal → ⊥
    not_closed tx asked First host x = cc
    not_closed tx asked Lone host x = cc
    not_closed tx asked (Next part node) host x = cc
sent_from group before after deal (ByEnd (LastFreed tx party b leg g a)) e = (let bad = sym a ∙ e in cc)
sent_from group before after deal (ByEnd (OneFreed tx one two b leg g a)) e = (let bad = sym a ∙ e in cc)
sent_from group before after deal (ByEnd (TwoFreed tx one two b leg g a)) e = (let bad = sym a ∙ e in cc)

module _ (asks_law : StagesAsk) (follow : ChartsFollow) (words : ℕ → ℕ → ℕ × ℕ) (scenario : Scenario) (rows : Rows) (far sent : ℕ) (seat : Seat Player) (event : Event OrderLine) (stage : Stage) (timely : AreInTime (players words (births as_nodes scenario)) (with_event rows seat event))
    (stands : IsAt stage (scene_at (births as_nodes scenario) rows)) (after_row : StageAfter (births as_nodes scenario) rows seat event stage) (alone : AllLeadAlone (births as_nodes scenario) rows) (alone_after : AllLeadAlone (births as_nodes scenario) (with_event rows seat event))
    (waits : is_quiet (players words (births as_nodes scenario)) (with_event rows seat event) ≡ true → Each (λ other. WaitsForNone (value player_table other (with_event rows seat event))) (births as_nodes scenario)) where
  abbrev all : List (Seat Player)
  all = births as_nodes scenario

  abbrev s : System Player Mail OrderLine
  s = players words (births as_nodes scenario)

  -- of a coordinator in a stage, whose leader is there
  asks_so : (journal : Rows) (fact : Stage) (deal : Deal) → AllLeadAlone all journal → IsAt fact (scene_at all journal) → ((scene_at all journal).at deal.coord).bond ≡ Asking deal.tx deal.asked deal.turn → (scene_at all journal).lead deal.coord ≡ Some deal.chief
      → asked_in deal.tx (all_replicas all journal) ≡ Some (deal.asked, is_watch deal.turn)
  asks_so journal fact deal lone at bond led =
      let runs = runs_there (view_at all journal deal.coord deal.chief) (lead_runs (view_at all journal deal.coord) (numbers_of all) deal.chief led) in
      asks_law all journal fact deal.tx deal.coord deal.asked deal.turn runs.0 lone at bond (among_all all journal deal.coord deal.chief runs.0 runs.1) runs.2 (named_so all journal deal.coord deal.chief runs.0 runs.1)

  sent_asks : (journal : Rows) (deal : Deal) → AllLeadAlone all journal → IsAt (SentOn deal) (scene_at all journal) → asked_in deal.tx (all_replicas all journal) ≡ Some (deal.asked, is_watch deal.turn)
  sent_asks journal deal lone at = asks_so journal (SentOn deal) deal lone at (ap (λ (h : Here). h.bond) at.parties.0.0) at.leads.0

  question_asks : (journal : Rows) (deal : Deal) (to : ℕ) → AllLeadAlone all journal → IsAt (Asks deal to) (scene_at all journal) → asked_in deal.tx (all_replicas all journal) ≡ Some (deal.asked, is_watch deal.turn)
  question_asks journal deal to lone at = asks_so journal (Asks deal to) deal lone at (ap (λ (h : Here). h.bond) at.parties.0.0) at.leads.0

  was_asked : (deal : Deal) → (stage ≡ SentOn deal) ⊎ ((to : ℕ) × (stage ≡ Asks deal to)) → asked_in deal.tx (all_replicas all rows) ≡ Some (deal.asked, is_watch deal.turn)
  was_asked deal (inl same) = sent_asks rows deal alone (subst (λ x. IsAt x (scene_at all rows)) same stands)
  was_asked deal (inr asks) = question_asks rows deal asks.0 alone (subst (λ x. IsAt x (scene_at all rows)) asks.1 stands)

  came_from : (deal : Deal) → after_row.0 ≡ SentOn deal → (stage ≡ SentOn deal) ⊎ ((to : ℕ) × (stage ≡ Asks deal to))
  came_from deal fact = elim after_row.2 [
    | inl same ↦ inl (sym same ∙ fact)
    | inr goes ↦ sent_from goes.group stage after_row.0 deal goes.step fact
  ]

  same_asked : (mail : Mail) → Among mail (under_way s (with_event rows seat event)) → AsksSame all rows (with_event rows seat event) mail.body
  same_asked mail a tx coord hint body =
      let left = with_all (λ m. is_born s (s.receiver m)) (mails (with_event rows seat event)) (copies (with_event rows seat event)) mail a in
      let way = errand_there coord (Elsewhere tx mail.to) mail (left_after (with_event rows seat event)) left (ap (errand_by mail.from mail.to) body) in
      let in_stage = elsewhere_stage coord tx mail.to (scene_at all (with_event rows seat event)) after_row.0 after_row.1 way in
      let now = sent_asks (with_event rows seat event) in_stage.deal alone_after (subst (λ x. IsAt x (scene_at all (with_event rows seat event))) in_stage.stage_is after_row.1) in
      let was = was_asked in_stage.deal (came_from in_stage.deal in_stage.stage_is) in
      subst (λ t. asked_in t (all_replicas all (with_event rows seat event)) ≡ asked_in t (all_replicas all rows)) in_stage.tx_is (now ∙ sym was)

  follows : MayFollow s (with_event rows seat event) (chart_at far sent s rows) (chart_at far sent s (with_event rows seat event))
  follows =
      follow words all far sent rows (row_of player_table seat rows event) timely
      (Each-from (λ (mail : Mail). AsksSame all rows (with_event rows seat event) mail.body) (under_way s (with_event rows seat event)) same_asked) waits

pub order_charts_follow : StagesAsk → ChartsFollow → OrderChartsFollow
order_charts_follow = follows
