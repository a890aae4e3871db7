-- Errands go to nodes after one row more, where an order is at a stage after it: one that it sends is under way then, and so for the node that is asked, or for one that leads.
use Rattle.std.proofs.Common.{◌≡◌, ℕ, List, [], ◌∷◌, ◌++◌, ◌⊎◌, Some, None, inl, inr, refl, sym, ◌∙◌, ap, subst}
use Rattle.sc_base.specs.Definitions.{Among, Each}
use Rattle.sc_node_table.specs.Values.{Draw, OrderLine, Mail, MailBody, TxPrepare, TxVote, TxOutcome, TxElsewhere, TxWatch, TxWatched, Seat, Row}
use Rattle.sc_actor.specs.Definitions.{mails, numbers_of}
use Rattle.sc_actor.proofs.Lemmas.{mails-snoc}
use Rattle.sc_words.proofs.PaxosProofs.PaxosLemmas.{Each-among, Each-append, Each-from, find_found}
use Rattle.sc_scenario.specs.declared.scenario.scenarios.Scenario.{Scenario}
use Rattle.sc_meaning.specs.sound.SoundDefinitions.{Player, births, as_nodes}
use Rattle.sc_live_steps.specs.calm.CalmDefinitions.{Rows}
use Rattle.sc_live_steps.specs.orders.OrderDefinitions.{errand_by, Errand, Question, Elsewhere, Reply, Result, Scene, Deal, Stage, Still, Ordered, Asks, SentOn, Weighs, Replied, Recorded, Closes, ClosesBoth, closing, parties_of, leads_of, IsAt}
use Rattle.sc_live_steps.proofs.OrderStepsProofs.OrderStepLemmas.{among-right, found, tagged, tokens, closing-errand, errands_of, no-errand}
use Rattle.sc_live_journals.specs.rows.RowDefinitions.{view_at}
use Rattle.sc_live_journals.specs.scenes.SceneDefinitions.{is_running, left_after, scene_at}
use Rattle.sc_live_journals.proofs.ScenesProofs.SceneLemmas.{left_by, left_row}
use Rattle.sc_live_answers.specs.AnswerDefinitions.{IsNodeOf, GoesToNode, OrderErrandsGoToNodes, IsCalmJournal, IsPrefixOf, PrefixesAreFound, IsHinted}
use Rattle.sc_live_answers.proofs.OrdersProofs.OrderDeliveries.{runs_there}
use Rattle.sc_live_answers.proofs.ErrandsProofs.QuestionTargets.{errand_there}

-- ---- errands

abbrev Pair : Type 0
Pair = Draw × Errand

-- whom an errand is for
abbrev to_of : Errand → ℕ
to_of (Question tx coord watch by to) = to
to_of (Elsewhere tx to) = to
to_of (Reply tx watch agreed by to) = to
to_of (Result tx to) = to

same_to : (one other : Pair) → Some one ≡ Some other → to_of other.1 ≡ to_of one.1
same_to one other e = (let same : one ≡ other = cc in ap (λ (x : Pair). to_of x.1) (sym same))

no_pair : (one : Pair) {X : Type 0} → None ≡ Some one → X
no_pair one e = cc

-- the errand of a mail is for its receiver
to_is : (from to : ℕ) (body : MailBody) (entry : Draw × Errand) → errand_by from to body ≡ Some entry → to_of entry.1 ≡ to
to_is from to (TxPrepare tx offer) entry e = same_to _ entry e
to_is from to (TxWatch tx watch) entry e = same_to _ entry e
to_is from to (TxElsewhere tx coord hint) entry e = same_to _ entry e
to_is from to (TxVote tx coord part vote) entry e = same_to _ entry e
to_is from to (TxWatched tx coord part vote) entry e = same_to _ entry e
to_is from to (TxOutcome tx part outcome) entry e = same_to _ entry e
to_is from to _ entry e = no_pair entry e

-- ---- stages

-- a node to which an errand goes at a stage: one that is asked, or that leads a group to whose leader something is to come
abbrev IsFor : Stage → ℕ → Type 0
IsFor stage to = ((deal : Deal) × (stage ≡ Asks deal to)) ⊎ ((group : Draw) × Among (group, to) (leads_of stage))

leads_to : (group : Draw) (one other : Pair) → one ≡ other → ◌≡◌ {A = Draw × ℕ} (group, to_of one.1) (group, to_of other.1)
leads_to group one other e = ap (λ (x : Pair). (group, to_of x.1)) e

errand_for_in : (stage : Stage) (t : Draw × Errand) → Among t (tokens errands_of (parties_of stage)) → IsFor stage (to_of t.1)
errand_for_in Still t a = absurd a
errand_for_in (Ordered group chief work) t a = absurd a
errand_for_in (Asks deal to) t (inl e) = inl (deal, ap (λ (x : Pair). Asks deal (to_of x.1)) e)
errand_for_in (Asks deal to) t (inr a) = absurd (no-errand deal.tx deal.turn t a)
errand_for_in (SentOn deal) t (inl e) = inr (deal.coord, inl (leads_to deal.coord _ t e))
errand_for_in (SentOn deal) t (inr a) = absurd (no-errand deal.tx deal.turn t a)
errand_for_in (Weighs deal host) t a = absurd (no-errand deal.tx deal.turn t a)
errand_for_in (Replied deal agreed host) t (inl e) = inr (deal.coord, inl (leads_to deal.coord _ t e))
errand_for_in (Replied deal agreed host) t (inr a) = absurd (no-errand deal.tx deal.turn t a)
errand_for_in (Recorded deal agreed host) t a = absurd (no-errand deal.tx deal.turn t a)
errand_for_in (Closes tx party) t a = elim (closing-errand tx party.leg party.host party.group [] t a) [
  | inl r ↦ inr (party.group, inl (leads_to party.group _ t r.1))
  | inr none ↦ absurd none
]
errand_for_in (ClosesBoth tx one two) t a = elim (closing-errand tx one.leg one.host one.group (tagged two.group (closing tx two.leg two.host).errands ++ []) t a) [
  | inl r ↦ inr (one.group, inl (leads_to one.group _ t r.1))
  | inr more ↦ elim (closing-errand tx two.leg two.host two.group [] t more) [
    | inl r ↦ inr (two.group, inr (inl (leads_to two.group _ t r.1)))
    | inr none ↦ absurd none
  ]
]

-- ---- rows

module _ (found_law : PrefixesAreFound) (words : ℕ → ℕ → ℕ × ℕ) (scenario : Scenario) (journal quiet rows : Rows) (row : Row Mail OrderLine) (stage : Stage) (calm : IsCalmJournal words scenario journal) (was : IsPrefixOf journal quiet) (prefix : IsPrefixOf journal (rows ++ row ∷ []))
    (at : IsAt stage (scene_at (births as_nodes scenario) (rows ++ row ∷ []))) (hinted : IsHinted scenario quiet (rows ++ row ∷ []) stage) where
  abbrev all : List (Seat Player)
  all = births as_nodes scenario

  abbrev then : Rows
  then = rows ++ row ∷ []

  abbrev now : Scene
  now = scene_at (births as_nodes scenario) (rows ++ row ∷ [])

  -- who leads a group has a replica of it
  lead_home : (group : Draw) (node : ℕ) → now.lead group ≡ Some node → IsNodeOf scenario node
  lead_home group node e =
      let runs = (find_found (λ (n : ℕ). is_running (view_at all then group n)) (numbers_of all) node e).1 in
      let r = runs_there (view_at all then group node) runs in
      let found_ = found_law words scenario journal then calm prefix in
      found_.homes group node (r.0, found_.views group node ∙ r.1)

  -- the node that is asked is a node of the scenario
  asked_home : (deal : Deal) (to : ℕ) → stage ≡ Asks deal to → IsNodeOf scenario to
  asked_home deal to fact = (found_law words scenario journal quiet calm was).homes deal.asked to (subst (IsHinted scenario quiet then) fact hinted)

  for_home : (to : ℕ) → IsFor stage to → IsNodeOf scenario to
  for_home to (inl asked) = asked_home asked.0 to asked.1
  for_home to (inr leads) = lead_home leads.0 to (Each-among (λ (lead : Draw × ℕ). now.lead lead.0 ≡ Some lead.1) (leads_of stage) (leads.0, to) at.leads leads.1)

  sent_home : (mail : Mail) → Among mail row.sent → GoesToNode scenario mail
  sent_home mail a errand =
      let entry : Draw × Errand = errand.0 in
      let there : Among mail (left_after then) = subst (Among mail) (sym (left_row words all rows row)) (among-right mail (left_by words all rows row.event) row.sent a) in
      let way = errand_there entry.0 entry.1 mail (left_after then) there errand.1 in
      let token = found errands_of now.at entry.0 entry.1 way (parties_of stage) at.parties refl in
      subst (IsNodeOf scenario) (to_is mail.from mail.to mail.body entry errand.1) (for_home (to_of entry.1) (errand_for_in stage (entry.0, entry.1) token))

  keeps : Each (GoesToNode scenario) (mails rows) → Each (GoesToNode scenario) (mails (rows ++ row ∷ []))
  keeps home = subst (Each (GoesToNode scenario)) (sym (mails-snoc rows row)) (Each-append (GoesToNode scenario) (mails rows) row.sent home (Each-from (GoesToNode scenario) row.sent sent_home))

pub ordered_home : PrefixesAreFound → OrderErrandsGoToNodes
ordered_home found_law words scenario journal quiet rows row stage calm was prefix at hinted home = keeps found_law words scenario journal quiet rows row stage calm was prefix at hinted home
