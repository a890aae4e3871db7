-- What a mail finds at the leader of a well led group.
use Rattle.std.proofs.Common.{List, None, Option, Some, [], ap, append-nil, arith, false, inl, inr, refl, subst, suc, sym, true, ℕ, ◌∙◌, ◌∷◌, ◌≡◌, ◌≤◌}
use Rattle.sc_node_table.specs.Values.{Seat, Deliver, Ballot, Draw, Op, Base, Mail, MailBody, Accept, Accepted, Answer, Ask, Install, Learn, Nack, Prepare, Promise, Request, TxElsewhere, TxOutcome, TxPrepare, TxVote, TxWatch, TxWatched, Told as ToldMail}
use Rattle.sc_base.specs.Definitions.{Each}
use Rattle.sc_live_answers.proofs.LedMailProofs.FollowerMail.{view_here}
use Rattle.sc_live_answers.proofs.LedMailProofs.WellLedLeaders.{alone, gives, unbound}
use Rattle.sc_live_answers.specs.AnswerDefinitions.{IsHere, IsUnsettled, IsGuided, LeadersAreFound, StagesLeaveOneWork}
use Rattle.sc_live_journals.specs.groups.GroupDefinitions.{Delivers}
use Rattle.sc_live_steps.specs.calm.CalmDefinitions.{Rows}
use Rattle.sc_live_steps.proofs.OrderStepsProofs.OrderStepLemmas.{cases-draw}
use Rattle.sc_live_steps.specs.orders.OrderDefinitions.{works, Answers, Ends, First, Here, IsNone, Lone, Next, Records, Scene, Turn, Work, free, is_watch, Closes, ClosesBoth, Filed, IsUnderWay, Leg, Mailed, Ordered, Recorded, Replied, SentOn, Stage, Still, Weighs, closing, heard, parties_of, IsUnbound, Asks as AsksStage}
use Rattle.sc_live_journals.proofs.RowsProofs.RowLemmas.{all_fit, goes_on, known, no_lead}
use Rattle.sc_live_journals.specs.rows.RowDefinitions.{progress_at, IsScene, TakesMail, with_event}
use Rattle.sc_live_journals.proofs.ScenesProofs.SceneLemmas.{tell}
use Rattle.sc_live_journals.specs.scenes.SceneDefinitions.{FindsFlight, LeaderFinds, scene_at, LeadsAlone}
use Rattle.sc_live_steps.proofs.FollowingProofs.FollowingLemmas.{same_mark}
use Rattle.sc_live_steps.specs.following.FollowingDefinitions.{Asks, Installs, IsFit, Mark, Prepares, Teaches, mark_of, next_by, IsLeadOf}
use Rattle.sc_law_walks.specs.WalkDefinitions.{GoesOn}
use Rattle.sc_node_table.specs.NodeDefinitions.{NodeState, group_of_mail, ReplicaState, listed}
use Rattle.sc_words.specs.paxos.PaxosDefinitions.{below}
use Rattle.sc_meaning.specs.sound.SoundDefinitions.{Player}
use Rattle.std.proofs.lemmas.Option.{same_Some}

-- ---- the work

-- a part has one work, or none
abbrev HasOne : Here → Type 0
HasOne here = (work : Option Work) × (here.work ≡ listed work)

heard_one : (tx : Draw) (turn : Turn) → Each (λ party. HasOne party.1) (heard tx turn)
heard_one tx First = tt
heard_one tx Lone = tt
heard_one tx (Next part host) = ((None, refl), tt)

closing_one : (tx : Draw) (leg : Leg) (host : ℕ) → HasOne (closing tx leg host)
closing_one tx Mailed host = (None, refl)
closing_one tx Filed host = (Some (Ends tx), refl)

stage_one : (stage : Stage) → Each (λ party. HasOne party.1) (parties_of stage)
stage_one Still = tt
stage_one (Ordered group chief work) = ((Some work, refl), tt)
stage_one (AsksStage deal to) = ((None, refl), ((None, refl), heard_one deal.tx deal.turn))
stage_one (SentOn deal) = ((None, refl), ((None, refl), heard_one deal.tx deal.turn))
stage_one (Weighs deal host) = ((None, refl), ((Some (Answers deal.tx deal.coord (is_watch deal.turn) deal.chief), refl), heard_one deal.tx deal.turn))
stage_one (Replied deal agreed host) = ((None, refl), ((None, refl), heard_one deal.tx deal.turn))
stage_one (Recorded deal agreed host) = ((Some (Records deal.tx (is_watch deal.turn) agreed host), refl), ((None, refl), heard_one deal.tx deal.turn))
stage_one (Closes tx party) = (closing_one tx party.leg party.host, tt)
stage_one (ClosesBoth tx one two) = (closing_one tx one.leg one.host, (closing_one tx two.leg two.host, tt))

-- of these names, or of none of them
parties_one : (now : Scene) (group : Draw) (named : List (Draw × Here)) → Each (λ party. now.at party.0 ≡ party.1) named → Each (λ party. HasOne party.1) named → (IsNone group named → now.at group ≡ free) → HasOne (now.at group)
parties_one now group [] are ones none = (None, ap (λ (h : Here). h.work) (none tt))
parties_one now group (party ∷ named) are ones none = elim (cases-draw group party.0) [
  | inl fact ↦ subst HasOne (sym (ap now.at fact ∙ are.0)) ones.0
  | inr apart ↦ parties_one now group named are.1 ones.1 (λ more. none (apart, more))
]

-- The stages leave each leader one work, or none.
pub stages_leave_one : StagesLeaveOneWork
stages_leave_one now group under = parties_one now group (parties_of under.0) under.1.parties.0 (stage_one under.0) (under.1.parties.1 group)

-- ---- a mail

module _ (words : ℕ → ℕ → ℕ × ℕ) (births : List (Seat Player)) (rows : Rows) (seat : Seat Player) (number : ℕ) (mail : Mail) (base : Base) (node : NodeState) (r : ReplicaState) (h : IsHere words births rows seat number mail base node r)
    (runs : r.running ≡ true) where
  abbrev g : IsGuided words births rows seat (Deliver number) base
  g = h.guided

  abbrev name : Draw
  name = base.core.id

  abbrev pub the_scene : IsScene g.at words births rows seat node base g.course
  the_scene = record { rosters = g.log.log.rosters; seated = h.taking.seated; fact = h.taking.is_node; followed = g.led.followed }

  abbrev pub takes : TakesMail words births rows seat number mail
  takes = record { timely = h.taking.timely; sent = h.taking.sent; comes = h.taking.comes }

  delivers : Delivers (with_event rows seat (Deliver number)) rows seat number mail
  delivers = record { row = record { more = []; fact = sym (append-nil (with_event rows seat (Deliver number))) }; sent = h.taking.sent }

  pub leads : IsLeadOf g.at (progress_at births rows base g.course) r × (seat.who ≡ g.course.ballot.node)
  leads = gives g.at g.over g.by words births rows base g.course g.led seat.who r (view_here words births rows seat number mail base node r h) runs

  pub leads_alone : LeadsAlone births rows base.core.id seat.who r
  leads_alone = alone g.at g.over g.by words births rows base g.course g.led seat.who r (view_here words births rows seat number mail base node r h) runs

  pub free_of : IsUnbound r
  free_of = unbound g.at g.over g.by words births rows base g.course g.led seat.who r (view_here words births rows seat number mail base node r h) runs

  pub named_so : (named : Draw) (body : MailBody) → mail.body ≡ body → group_of_mail body ≡ Some named → named ≡ base.core.id
  named_so named body e fact = same_Some named base.core.id (sym fact ∙ (ap group_of_mail (sym e) ∙ h.taking.named))

  marked : (body : MailBody) (mark : Mark) → mail.body ≡ body → mark_of base.core.id mail.from body ≡ Some mark → mark_of base.core.id mail.from mail.body ≡ Some mark
  marked body mark e fact = ap (mark_of base.core.id mail.from) e ∙ fact

  -- what its mark says
  module _ (mark : Mark) (fact : mark_of base.core.id mail.from mail.body ≡ Some mark) where
    fits : IsFit ((progress_at births rows base g.course).next seat.who) ((progress_at births rows base g.course).promise seat.who) mark
    fits = (all_fit g.at words births rows seat node base g.course the_scene number mail takes mark fact).0

    no_further_on : suc ((progress_at births rows base g.course).next seat.who) ≤ next_by ((progress_at births rows base g.course).next seat.who) mark → ⊥
    no_further_on up = no_lead g.at words births rows seat node base g.course the_scene number mail takes mark fact up leads.0.runs leads.1

  goes_so : (ballot : Ballot) → below g.course.ballot ballot ≡ false → GoesOn ballot r
  goes_so ballot low = goes_on g.at words births rows seat node base g.course the_scene r (view_here words births rows seat number mail base node r h) ballot low

  pub works_one : IsUnderWay (scene_at births rows) → (work : Option Work) × (works r ≡ listed work)
  works_one under = (let one = stages_leave_one (scene_at births rows) name under in (one.0, sym (tell.led births rows name seat.who r leads_alone).1.1 ∙ one.1))

  finds : (body : MailBody) → mail.body ≡ body → IsUnderWay (scene_at births rows) → IsUnsettled r body → ((named : Draw) (client seq : ℕ) (op : Op) → body ≡ Request named client seq op → ⊥)
      → ((named : Draw) (ballot : Ballot) (slot : ℕ) → body ≡ Accepted named ballot slot → FindsFlight births rows seat number mail base.core.id r slot)
      → LeaderFinds births rows seat number mail base.core.id r body
  finds (TxPrepare tx offer) e under u none votes = (free_of, u)
  finds (TxWatch tx watch) e under u none votes = (free_of, u)
  finds (TxVote tx coord part vote) e under u none votes = (free_of, u)
  finds (TxWatched tx coord part vote) e under u none votes = (free_of, u)
  finds (TxOutcome tx part outcome) e under u none votes = free_of
  finds (TxElsewhere tx coord hint) e under u none votes = (let on = u runs in record { to = on.0; hint_is = on.1; me_is = h.me_is; settles = on.2 })
  finds (Accept named ballot slot command) e under u none votes =
      let own = named_so named (Accept named ballot slot command) e refl in
      let fact : mark_of base.core.id mail.from (Accept named ballot slot command) ≡ Some (Asks ballot slot) = ap (λ n. mark_of base.core.id mail.from (Accept n ballot slot command)) own ∙ same_mark base.core.id (Asks ballot slot) in
      goes_so ballot (ap (below g.course.ballot) (fits (Asks ballot slot) (marked (Accept named ballot slot command) (Asks ballot slot) e fact)).2 ∙ g.led.followed.follows.promised seat.who)
  finds (Prepare named ballot from_slot) e under u none votes =
      let own = named_so named (Prepare named ballot from_slot) e refl in
      let fact : mark_of base.core.id mail.from (Prepare named ballot from_slot) ≡ Some (Prepares ballot) = ap (λ n. mark_of base.core.id mail.from (Prepare n ballot from_slot)) own ∙ same_mark base.core.id (Prepares ballot) in
      goes_so ballot (known g.at words births rows seat node base g.course the_scene number mail takes (Prepares ballot) (marked (Prepare named ballot from_slot) (Prepares ballot) e fact))
  finds (Nack named promised) e under u none votes =
      let own = named_so named (Nack named promised) e refl in
      g.sends.nacks rows seat number mail promised r delivers (e ∙ ap (λ n. Nack n promised) own) (view_here words births rows seat number mail base node r h)
  finds (Promise named ballot reports) e under u none votes =
      let own = named_so named (Promise named ballot reports) e refl in
      let one = works_one under in
      record { bare = g.sends.plain rows seat number mail ballot reports delivers (e ∙ ap (λ n. Promise n ballot reports) own); unbound = free_of; work = one.0; works_are = one.1 }
  finds (Accepted named ballot slot) e under u none votes = votes named ballot slot refl
  finds (Learn named slot command) e under u none votes =
      let own = named_so named (Learn named slot command) e refl in
      let fact : mark_of base.core.id mail.from (Learn named slot command) ≡ Some (Teaches slot) = ap (λ n. mark_of base.core.id mail.from (Learn n slot command)) own ∙ same_mark base.core.id (Teaches slot) in
      let here = marked (Learn named slot command) (Teaches slot) e fact in
      let place = (fits (Teaches slot) here).1 in
      absurd (no_further_on (Teaches slot) here (omega (arith, place)))
  finds (Install named slot state sets) e under u none votes =
      let own = named_so named (Install named slot state sets) e refl in
      let fact : mark_of base.core.id mail.from (Install named slot state sets) ≡ Some (Installs slot) = ap (λ n. mark_of base.core.id mail.from (Install n slot state sets)) own ∙ same_mark base.core.id (Installs slot) in
      let here = marked (Install named slot state sets) (Installs slot) e fact in
      let place : (progress_at births rows base g.course).next seat.who ≤ slot = fits (Installs slot) here in
      absurd (no_further_on (Installs slot) here (omega (arith, place)))
  finds (Ask named slot) e under u none votes = tt
  finds (Request named client seq op) e under u none votes = absurd (none named client seq op refl)
  finds (Answer named seq answer) e under u none votes = tt
  finds (ToldMail order result) e under u none votes = tt

-- A mail to the leader of a well led group finds what an order needs, but that what a vote finds is asked.
pub leaders_found : LeadersAreFound
leaders_found words births rows seat number mail base node r h runs under u none votes =
    (leads_alone words births rows seat number mail base node r h runs, finds words births rows seat number mail base node r h runs mail.body refl under u none votes)
