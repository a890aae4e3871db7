-- A leader is a member of a group that stands, and what it has in flight is the work of a stage.
use Rattle.std.proofs.Common.{◌≡◌, ℕ, Bool, true, false, true≢false, List, [], ◌∷◌, ◌++◌, Option, Some, None, inl, inr, is_some, refl, sym, ◌∙◌, ap, subst, append_assoc, append-nil}
use Rattle.sc_base.specs.Definitions.{Among, Each, is_member}
use Rattle.sc_node_table.specs.Values.{Draw, Command, Base, Route, Flight}
use Rattle.sc_node_table.specs.NodeDefinitions.{ReplicaState, members}
use Rattle.sc_live_orderly.specs.OrderlyDefinitions.{AreInTime}
use Rattle.sc_scenario.specs.declared.scenario.scenarios.Scenario.{Scenario}
use Rattle.sc_meaning.specs.sound.SoundDefinitions.{as_nodes, births}
use Rattle.sc_live_steps.specs.calm.CalmDefinitions.{players, Rows}
use Rattle.sc_live_answers.specs.AnswerDefinitions.{over_at, Voting, doer, doers_of, LeadsSince, ReplicasAreRecorded}
use Rattle.sc_live_journals.specs.logs.LogDefinitions.{IsGroupOf, logged_sets}
use Rattle.sc_live_steps.specs.following.FollowingDefinitions.{members_at}
use Rattle.sc_live_journals.proofs.MailProofs.MailLemmas.{journals_idle}
use Rattle.sc_live_steps.specs.orders.OrderDefinitions.{work_by, works, works_flying, works_in, works_ready, Answers, Bound, Ends, Here, Records, Work, is_watch, Asks, Closes, ClosesBoth, Deal, Ordered, Party, Recorded, Replied, SentOn, Stage, Still, Weighs, closing, leads_of, parties_of}
use Rattle.sc_live_steps.proofs.OrderStepsProofs.OrderStepLemmas.{among-left, among-right, found, tagged, tokens, closing-work, no-work, work_of}
use Rattle.sc_live_journals.specs.rows.RowDefinitions.{view_at}
use Rattle.sc_live_journals.specs.scenes.SceneDefinitions.{IsThere, scene_at}
use Rattle.sc_live_journals.proofs.ScenesProofs.SceneLemmas.{tell}
use Rattle.sc_live_answers.proofs.WorkProofs.PartiesSinceQuiet.{base_of}
use Rattle.sc_live_answers.proofs.OrdersProofs.OrderFactsAtStart.{closing_bond}
use Rattle.sc_live_answers.proofs.VotesProofs.CountableVotes.{work_flies}

-- ---- works

pub is_work_of : (r : ReplicaState) (flight : Flight Command) (work : Work) → Among flight r.leader.flights → work_by flight.value ≡ Some work → Among work (works r)
is_work_of r flight work a e =
    among-right work (works_in r.acts) (works_in r.backlog ++ (works_flying r.leader.flights ++ works_ready r.ready))
    (among-right work (works_in r.backlog) (works_flying r.leader.flights ++ works_ready r.ready) (among-left work (works_flying r.leader.flights) (works_ready r.ready) (work_flies r.leader.flights flight work a e)))

-- a party to which an outcome comes: it voted, it has its leader, and it is bound
pub record IsEnding (stage : Stage) (name tx : Draw) : Type 0 where
  pub host : ℕ
  pub done : Among (doer name host (Voting tx ∷ [])) (doers_of stage)
  pub lead : Among (name, host) (leads_of stage)
  pub here : Here
  pub party : Among (name, here) (parties_of stage)
  pub bound : here.bond ≡ Bound tx

-- which work of which stage it is
pub data IsWorkAt (stage : Stage) (name : Draw) (work : Work) : Type 0 where
  OfOrder : (chief : ℕ) → stage ≡ Ordered name chief work → IsWorkAt stage name work
  OfQuestion : (deal : Deal) (host : ℕ) → stage ≡ Weighs deal host → deal.asked ≡ name → Answers deal.tx deal.coord (is_watch deal.turn) deal.chief ≡ work → IsWorkAt stage name work
  OfVote : (deal : Deal) (agreed : Bool) (host : ℕ) → stage ≡ Recorded deal agreed host → deal.coord ≡ name → Records deal.tx (is_watch deal.turn) agreed host ≡ work → IsWorkAt stage name work
  OfOutcome : (tx : Draw) → Ends tx ≡ work → IsEnding stage name tx → IsWorkAt stage name work

abbrev Token : Type 0
Token = Draw × Work

ends_one : (tx : Draw) (party : Party) (name : Draw) → party.group ≡ name → IsEnding (Closes tx party) name tx
ends_one tx party name e =
    subst (λ n. IsEnding (Closes tx party) n tx) e (record { host = party.host; done = inl refl; lead = inl refl; here = closing tx party.leg party.host; party = inl refl; bound = closing_bond tx party.leg party.host })

ends_first : (tx : Draw) (one two : Party) (name : Draw) → one.group ≡ name → IsEnding (ClosesBoth tx one two) name tx
ends_first tx one two name e =
    subst (λ n. IsEnding (ClosesBoth tx one two) n tx) e (record { host = one.host; done = inl refl; lead = inl refl; here = closing tx one.leg one.host; party = inl refl; bound = closing_bond tx one.leg one.host })

ends_second : (tx : Draw) (one two : Party) (name : Draw) → two.group ≡ name → IsEnding (ClosesBoth tx one two) name tx
ends_second tx one two name e =
    subst (λ n. IsEnding (ClosesBoth tx one two) n tx) e (record { host = two.host; done = inr (inl refl); lead = inr (inl refl); here = closing tx two.leg two.host; party = inr (inl refl); bound = closing_bond tx two.leg two.host })

work_in : (stage : Stage) (t : Token) → Among t (tokens work_of (parties_of stage)) → IsWorkAt stage t.0 t.1
work_in Still t a = absurd a
work_in (Ordered group chief work) t (inl e) = OfOrder chief (ap (λ (x : Token). Ordered x.0 chief x.1) e)
work_in (Ordered group chief work) t (inr a) = absurd a
work_in (Asks deal to) t a = absurd (no-work deal.tx deal.turn t a)
work_in (SentOn deal) t a = absurd (no-work deal.tx deal.turn t a)
work_in (Weighs deal host) t (inl e) = OfQuestion deal host refl (ap (λ (x : Token). x.0) e) (ap (λ (x : Token). x.1) e)
work_in (Weighs deal host) t (inr a) = absurd (no-work deal.tx deal.turn t a)
work_in (Replied deal agreed host) t a = absurd (no-work deal.tx deal.turn t a)
work_in (Recorded deal agreed host) t (inl e) = OfVote deal agreed host refl (ap (λ (x : Token). x.0) e) (ap (λ (x : Token). x.1) e)
work_in (Recorded deal agreed host) t (inr a) = absurd (no-work deal.tx deal.turn t a)
work_in (Closes tx party) t a = elim (closing-work tx party.leg party.host party.group [] t a) [
  | inl fact ↦ OfOutcome tx (ap (λ (x : Token). x.1) fact.1) (ends_one tx party t.0 (ap (λ (x : Token). x.0) fact.1))
  | inr none ↦ absurd none
]
work_in (ClosesBoth tx one two) t a = elim (closing-work tx one.leg one.host one.group (tagged two.group (closing tx two.leg two.host).work ++ []) t a) [
  | inl fact ↦ OfOutcome tx (ap (λ (x : Token). x.1) fact.1) (ends_first tx one two t.0 (ap (λ (x : Token). x.0) fact.1))
  | inr b ↦ elim (closing-work tx two.leg two.host two.group [] t b) [
    | inl fact ↦ OfOutcome tx (ap (λ (x : Token). x.1) fact.1) (ends_second tx one two t.0 (ap (λ (x : Token). x.0) fact.1))
    | inr none ↦ absurd none
  ]
]

party_there : (P : Draw → Type 0) (named : List (Draw × Here)) (t : Token) → Each (λ party. P party.0) named → Among t (tokens work_of named) → P t.0
party_there P [] t e a = absurd a
party_there P (party ∷ named) t e a = by (λ b. party_there P named t e.1 b) party.1.work a
  where
    by : (Among t (tokens work_of named) → P t.0) → (works_ : List Work) → Among t (tagged party.0 works_ ++ tokens work_of named) → P t.0
    by rest [] b = rest b
    by rest (work ∷ more) (inl fact) = subst (λ (x : Token). P x.0) fact e.0
    by rest (work ∷ more) (inr b) = by rest more b

-- ---- the leader

prefix_in_time : (words : ℕ → ℕ → ℕ × ℕ) (births : _) (rows more : Rows) → AreInTime (players words births) (rows ++ more) → AreInTime (players words births) rows
prefix_in_time words births rows more t before row after e = t before row (after ++ more) (ap (λ x. x ++ more) e ∙ append_assoc before (row ∷ after) more)

pub not_some : (o : Option Route) → is_some o ≡ false → o ≡ None
not_some None e = refl
not_some (Some into) e = absurd (true≢false e)

module _ (tells : ReplicasAreRecorded) (words : ℕ → ℕ → ℕ × ℕ) (scenario : Scenario) (first : Base) (journal quiet rows : Rows) (name : Draw) (node : ℕ) (r : ReplicaState) (stage : Stage) (l : LeadsSince words scenario first journal quiet rows name node r stage) where
  pub timely : AreInTime (players words (births as_nodes scenario)) rows
  timely = prefix_in_time words (births as_nodes scenario) rows l.prefix.more (subst (AreInTime (players words (births as_nodes scenario))) l.prefix.fact l.calm.timely)

  pub me_is : r.me ≡ node
  me_is = (journals_idle words scenario rows name node r timely l.leads.is_there).0

  -- its work is one of the stage, of a group that was there in the quiet
  module _ (flight : Flight Command) (among : Among flight r.leader.flights) (work : Work) (fact : work_by flight.value ≡ Some work) where
    token : Among (name, work) (tokens work_of (parties_of stage))
    token =
        found work_of (scene_at (births as_nodes scenario) rows).at name work (subst (Among work) (sym (tell.led (births as_nodes scenario) rows name node r l.leads).1.1) (is_work_of r flight work among fact)) (parties_of stage) l.untouched.stands.parties refl

    pub at_stage : IsWorkAt stage name work
    at_stage = work_in stage (name, work) token

    pub was_there : IsThere (births as_nodes scenario) quiet name
    was_there = party_there (IsThere (births as_nodes scenario) quiet) (parties_of stage) (name, work) l.untouched.parties token

  -- where its group was there, the group stands, and it is a member
  module _ (there : IsThere (births as_nodes scenario) quiet name) where
    base : (base : Base) × IsGroupOf as_nodes words scenario journal base × (base.core.id ≡ name)
    base = base_of tells words scenario first journal quiet rows l.prefix.more l.prefix.fact l.calm l.rests l.seen name there

    pub stands_in : (r.group.core.gone ≡ None) × (is_member (members r) r.me ≡ true)
    stands_in =
        let through = l.sent base.0 base.1.stands in
        let view : view_at (births as_nodes scenario) rows base.0.core.id node ≡ Some r = ap (λ n. view_at (births as_nodes scenario) rows n node) base.2 ∙ l.leads.is_there in
        let g = through.led.followed.given.gives node r view l.leads.running in
        let log = through.one.states rows [] node r (sym (append-nil rows)) view in
        let lead = through.led.followed.follows.leads g.0.runs in (
          not_some r.group.core.gone (log.ends ∙ (ap (over_at as_nodes base.0 journal) (sym g.0.newest) ∙ (sym through.led.ends ∙ g.0.stands))),
          ap (is_member (members r)) (me_is ∙ g.1) ∙ (ap (λ xs. is_member xs through.course.ballot.node) (sym log.members_are) ∙ (ap (λ n. is_member (members_at (logged_sets as_nodes base.0 journal) n) through.course.ballot.node) (sym g.0.newest) ∙ lead.member)),
        )
