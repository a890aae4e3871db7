-- To whose leader something is to come, by the stages of an order.
use Rattle.std.proofs.Common.{◌≡◌, ℕ, true, List, [], ◌∷◌, ◌++◌, Some, ◌⊎◌, inl, inr, refl, sym, ◌∙◌, ap, subst}
use Rattle.sc_base.specs.Definitions.{Among}
use Rattle.sc_node_table.specs.Values.{Draw}
use Rattle.sc_words.proofs.PaxosProofs.PaxosLemmas.{Each-among}
use Rattle.sc_live_steps.specs.orders.OrderDefinitions.{Turn, First, Lone, Next, Work, Opens, Scene, Deal, Leg, Mailed, Filed, Stage, Still, Ordered, Asks, SentOn, Weighs, Replied, Recorded, Closes, ClosesBoth, heard, closing, parties_of, heard_lead, leads_of, IsAt, TakesOutcome, LastTakes, OneTakes, TwoTakes, IsFreed, LastFreed, OneFreed, TwoFreed, OfQuestion, OfVote, OfOutcome, closed, filed_there, IsStepOf, ByRest, ByOrder, ByChange, ByDeal, ByPassing, ByAsking, ByTaking, ByVote, ByNo, ByHearing, ByDeciding, ByEnd}
use Rattle.sc_live_steps.proofs.OrderStepsProofs.OrderStepLemmas.{tagged, tokens, found, work_of, no-work}
use Rattle.sc_live_answers.specs.AnswerDefinitions.{MustLead}

-- ---- a group at whose leader work stands

module _ (name : Draw) (work : Work) where
  abbrev Has : Stage → Type 0
  Has stage = Among (name, work) (tokens work_of (parties_of stage)) → MustLead stage name

  none_heard : (tx : Draw) (turn : Turn) (stage : Stage) → Among (name, work) (tokens work_of (heard tx turn)) → MustLead stage name
  none_heard tx turn stage t = absurd (no-work tx turn (name, work) t)

  party_leads : (tx : Draw) (group : Draw) (host : ℕ) (leg : Leg) (rest : List (Draw × Work)) → Among (name, work) (tagged group (work_of (closing tx leg host)) ++ rest) → (group ≡ name) ⊎ Among (name, work) rest
  party_leads tx group host Mailed rest t = inr t
  party_leads tx group host Filed rest (inl e) = inl (ap (λ p. p.0) e)
  party_leads tx group host Filed rest (inr t) = inr t

  by_stage : (stage : Stage) → Has stage
  by_stage Still t = absurd t
  by_stage (Ordered group chief own) (inl e) = (chief, inl (ap (λ n. (n, chief)) (ap (λ p. p.0) e)))
  by_stage (Ordered group chief own) (inr t) = absurd t
  by_stage (Asks deal to) t = none_heard deal.tx deal.turn (Asks deal to) t
  by_stage (SentOn deal) t = none_heard deal.tx deal.turn (SentOn deal) t
  by_stage (Weighs deal host) (inl e) = (host, inr (inl (ap (λ n. (n, host)) (ap (λ p. p.0) e))))
  by_stage (Weighs deal host) (inr t) = none_heard deal.tx deal.turn (Weighs deal host) t
  by_stage (Replied deal agreed host) t = none_heard deal.tx deal.turn (Replied deal agreed host) t
  by_stage (Recorded deal agreed host) (inl e) = (deal.chief, inl (ap (λ n. (n, deal.chief)) (ap (λ p. p.0) e)))
  by_stage (Recorded deal agreed host) (inr t) = none_heard deal.tx deal.turn (Recorded deal agreed host) t
  by_stage (Closes tx party) t = elim (party_leads tx party.group party.host party.leg [] t) [ inl fact ↦ (party.host, inl (ap (λ n. (n, party.host)) fact)) | inr none ↦ absurd none ]
  by_stage (ClosesBoth tx one two) t = elim (party_leads tx one.group one.host one.leg (tagged two.group (work_of (closing tx two.leg two.host)) ++ []) t) [
    | inl fact ↦ (one.host, inl (ap (λ n. (n, one.host)) fact))
    | inr more ↦ elim (party_leads tx two.group two.host two.leg [] more) [ inl fact ↦ (two.host, inr (inl (ap (λ n. (n, two.host)) fact))) | inr none ↦ absurd none ]
  ]

-- something is to come to it
pub work_leads : (now : Scene) (stage : Stage) (name : Draw) (work : Work) → IsAt stage now → Among work (now.at name).work → MustLead stage name
work_leads now stage name work a there = by_stage name work stage (found work_of now.at name work there (parties_of stage) a.parties refl)

-- a node leads the group to whose leader something is to come
pub must_lead : (now : Scene) (stage : Stage) (name : Draw) → IsAt stage now → MustLead stage name → (node : ℕ) × (now.lead name ≡ Some node)
must_lead now stage name a m = (m.0, Each-among (λ (lead : Draw × ℕ). now.lead lead.0 ≡ Some lead.1) (leads_of stage) (name, m.0) a.leads m.1)

-- ---- by a step

module _ (name : Draw) where
  abbrev Leads : Stage → Type 0
  Leads stage = MustLead stage name

  -- something was to come to it before, or an order begins, or it takes a question
  abbrev pub Before : Stage → Type 0
  Before stage = MustLead stage name ⊎ ((stage ≡ Still) ⊎ ((deal : Deal) × (to : ℕ) × (stage ≡ Asks deal to) × (deal.asked ≡ name)))

  was : (before stage : Stage) → before ≡ stage → Leads stage → Before before
  was before stage e m = inl (subst Leads (sym e) m)

  back_outcome : (group : Draw) (stage later : Stage) → TakesOutcome group stage later → Leads later → Before stage
  back_outcome group stage later (LastTakes tx party e l g a) m = (let n : Leads (Closes tx (filed_there party)) = subst Leads a m in was stage (Closes tx party) e n)
  back_outcome group stage later (OneTakes tx one two e l g a) m = (let n : Leads (ClosesBoth tx (filed_there one) two) = subst Leads a m in was stage (ClosesBoth tx one two) e n)
  back_outcome group stage later (TwoTakes tx one two e l g a) m = (let n : Leads (ClosesBoth tx one (filed_there two)) = subst Leads a m in was stage (ClosesBoth tx one two) e n)

  back_freed : (group : Draw) (stage later : Stage) → IsFreed group stage later → Leads later → Before stage
  back_freed group stage later (LastFreed tx party e l g a) m = (let n : Leads Still = subst Leads a m in absurd n.1)
  back_freed group stage later (OneFreed tx one two e l g a) m = (let n : Leads (Closes tx two) = subst Leads a m in was stage (ClosesBoth tx one two) e (n.0, inr n.1))
  back_freed group stage later (TwoFreed tx one two e l g a) m = (let n : Leads (Closes tx one) = subst Leads a m in was stage (ClosesBoth tx one two) e (first n))
    where
      first : Leads (Closes tx one) → Leads (ClosesBoth tx one two)
      first (node, inl fact) = (node, inl fact)
      first (node, inr none) = absurd none

  -- the coordinator leads, or one of those that said Yes
  question_back : (deal : Deal) (host to : ℕ) → Leads (Weighs deal host) → Before (Asks deal to)
  question_back deal host to (node, inl fact) = inl (node, inl fact)
  question_back deal host to (node, inr (inl fact)) = inr (inr (deal, to, refl, ap (λ p. p.0) fact))
  question_back deal host to (node, inr (inr more)) = inl (node, inr more)

  closed_back : (deal : Deal) (turn : Turn) (host : ℕ) → deal.turn ≡ turn → Leads (closed deal.tx deal.asked turn host) → Leads (Recorded deal true host)
  closed_back deal First host e (node, inl fact) = (node, inr (inl fact))
  closed_back deal First host e (node, inr none) = absurd none
  closed_back deal Lone host e (node, inl fact) = (node, inr (inl fact))
  closed_back deal Lone host e (node, inr none) = absurd none
  closed_back deal (Next part there) host e (node, inl fact) = (node, inr (inr (subst (λ t. Among (name, node) (heard_lead t)) (sym e) (inl fact))))
  closed_back deal (Next part there) host e (node, inr (inl fact)) = (node, inr (inl fact))
  closed_back deal (Next part there) host e (node, inr (inr none)) = absurd none

  begun_back : (group : Draw) (deal : Deal) (to : ℕ) (work : Work) → deal.coord ≡ group → (deal.turn ≡ First) ⊎ (deal.turn ≡ Lone) → Leads (Asks deal to) → Leads (Ordered group deal.chief work)
  begun_back group deal to work fact turn (node, inl e) = (node, inl (ap (λ n. (n, deal.chief)) (sym fact) ∙ e))
  begun_back group deal to work fact (inl turn) (node, inr more) = absurd (subst (λ t. Among (name, node) (heard_lead t)) turn more)
  begun_back group deal to work fact (inr turn) (node, inr more) = absurd (subst (λ t. Among (name, node) (heard_lead t)) turn more)

  hearing_back : (deal next : Deal) (host to : ℕ) → next.coord ≡ deal.coord → next.chief ≡ deal.chief → next.turn ≡ Next deal.asked host → Leads (Asks next to) → Leads (Recorded deal true host)
  hearing_back deal next host to coord chief turn (node, inl e) = (node, inl (ap (λ n. (n, deal.chief)) (sym coord) ∙ (ap (λ c. (next.coord, c)) (sym chief) ∙ e)))
  hearing_back deal next host to coord chief turn (node, inr more) = (node, inr (first (subst (λ t. Among (name, node) (heard_lead t)) turn more)))
    where
      first : Among {X = Draw × ℕ} (name, node) ((deal.asked, host) ∷ []) → Among {X = Draw × ℕ} (name, node) ((deal.asked, host) ∷ heard_lead deal.turn)
      first (inl e) = inl e
      first (inr none) = absurd none

  pub step_back : (group : Draw) (stage later : Stage) → IsStepOf group stage later → MustLead later name → Before stage
  step_back group stage later (ByRest e) m = inl (subst Leads e m)
  step_back group stage later (ByOrder s) m = inr (inl s.before_is)
  step_back group stage later (ByChange s) m = (let n : Leads Still = subst Leads s.after_is m in absurd n.1)
  step_back group stage later (ByDeal s) m = was stage (Ordered group s.deal.chief (Opens s.deal.tx)) s.before_is (begun_back group s.deal s.to (Opens s.deal.tx) s.coord_is s.turn_is (subst Leads s.after_is m))
  step_back group stage later (ByPassing s) m = (let n : Leads (SentOn s.deal) = subst Leads s.after_is m in was stage (Asks s.deal s.to) s.before_is n)
  step_back group stage later (ByAsking s) m = (let n : Leads (Asks s.deal s.to) = subst Leads s.after_is m in was stage (SentOn s.deal) s.before_is n)
  step_back group stage later (ByTaking (OfQuestion s)) m = subst Before (sym s.before_is) (question_back s.deal s.host s.to (subst Leads s.after_is m))
  step_back group stage later (ByTaking (OfVote s)) m = (let n : Leads (Recorded s.deal s.agreed s.host) = subst Leads s.after_is m in was stage (Replied s.deal s.agreed s.host) s.before_is n)
  step_back group stage later (ByTaking (OfOutcome s)) m = back_outcome group stage later s m
  step_back group stage later (ByVote s) m = (let n : Leads (Replied s.deal s.agreed s.host) = subst Leads s.after_is m in was stage (Weighs s.deal s.host) s.before_is n)
  step_back group stage later (ByNo s) m = (let n : Leads Still = subst Leads s.after_is m in absurd n.1)
  step_back group stage later (ByHearing s) m = was stage (Recorded s.deal true s.host) s.before_is (hearing_back s.deal s.next s.host s.to s.coord_same s.chief_same s.turn_is (subst Leads s.after_is m))
  step_back group stage later (ByDeciding s) m = was stage (Recorded s.deal true s.host) s.before_is (closed_back s.deal s.deal.turn s.host refl (subst Leads s.after_is m))
  step_back group stage later (ByEnd s) m = back_freed group stage later s m
