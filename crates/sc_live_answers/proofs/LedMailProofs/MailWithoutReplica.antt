-- A node without replica of a group, and the children that it makes.
use Rattle.std.proofs.Common.{List, None, Some, [], ap, append-nil, arith, eqb, inl, inr, refl, subst, sym, true, ℕ, ◌∙◌, ◌≡◌, ◌≤◌}
use Rattle.std.proofs.lemmas.Bool.{cases_Bool, eqb-true}
use Rattle.sc_node_table.specs.Values.{Seat, Deliver, Draw, Base, Mail, MailBody, Install, TxPrepare, TxVote, TxWatch}
use Rattle.sc_live_answers.proofs.LedMailProofs.WellLedLeaders.{gives, one}
use Rattle.sc_live_answers.proofs.BallotsProofs.NewestReplicas.{newest_after, newest_before, unled}
use Rattle.sc_live_answers.proofs.ErrandsProofs.QuestionSenders.{offers_own, watches_own}
use Rattle.sc_live_answers.specs.AnswerDefinitions.{IsGuided, IsNamedGuide, MissedAreFound, YoungChildMayBeCreated}
use Rattle.sc_live_journals.specs.groups.GroupDefinitions.{hints_at, IsLogsState, Delivers}
use Rattle.sc_live_steps.specs.calm.CalmDefinitions.{Rows}
use Rattle.sc_live_journals.specs.mail.MailDefinitions.{IsPosted}
use Rattle.sc_live_journals.proofs.RowsProofs.RowMarks.{HasMark}
use Rattle.sc_live_journals.proofs.RowsProofs.RowLemmas.{all_fit, head, no_lead}
use Rattle.sc_live_journals.specs.rows.RowDefinitions.{progress_at, view_at, IsScene, TakesMail, with_event}
use Rattle.sc_live_journals.specs.scenes.SceneDefinitions.{IsState, NodeFinds, IsThere, MayJoin, IsTaking, NewestAreBound, NoneRuns}
use Rattle.sc_live_steps.proofs.FollowingProofs.FollowingLemmas.{same_mark}
use Rattle.sc_live_steps.specs.following.FollowingDefinitions.{Course, Installs, mark_of, AreHeeded}
use Rattle.sc_base.specs.Definitions.{is_member}
use Rattle.sc_node_table.specs.NodeDefinitions.{NodeState, group_of_mail}
use Rattle.sc_meaning.specs.sound.SoundDefinitions.{Player}
use Rattle.sc_live_journals.specs.scenes.CreatedReplicas.{Led as JoinsLed, Unled as JoinsUnled}
use Rattle.sc_live_journals.proofs.ScenesProofs.SceneLemmas.{no_lead as no_scene_lead}
use Rattle.std.proofs.lemmas.Option.{same_Some}

-- ---- a state

module _ (words : ℕ → ℕ → ℕ × ℕ) (births : List (Seat Player)) (rows : Rows) (seat : Seat Player) (number : ℕ) (mail : Mail) (base : Base) (node : NodeState) (t : IsTaking words births rows seat number mail base.core.id node)
    (g : IsGuided words births rows seat (Deliver number) base) (there : IsThere births rows base.core.id) (slot : ℕ) (state : Base) (sets : List (List ℕ)) (body : mail.body ≡ Install base.core.id slot state sets) where
  abbrev the_scene : IsScene g.at words births rows seat node base g.course
  the_scene = record { rosters = g.log.log.rosters; seated = t.seated; fact = t.is_node; followed = g.led.followed }

  abbrev takes : TakesMail words births rows seat number mail
  takes = record { timely = t.timely; sent = t.sent; comes = t.comes }

  delivers : Delivers (with_event rows seat (Deliver number)) rows seat number mail
  delivers = record { row = record { more = []; fact = sym (append-nil (with_event rows seat (Deliver number))) }; sent = t.sent }

  sent : IsLogsState g.at g.by base slot mail.from state sets
  sent = g.log.sent rows seat number mail slot state sets delivers body

  marked : HasMark base mail (Installs slot)
  marked = ap (mark_of base.core.id mail.from) body ∙ same_mark base.core.id (Installs slot)

  apart : g.course.running ≡ true → seat.who ≡ g.course.ballot.node → ⊥
  apart =
      (let low : (progress_at births rows base g.course).next seat.who ≤ slot = (all_fit g.at words births rows seat node base g.course the_scene number mail takes (Installs slot) marked).0 in
      no_lead g.at words births rows seat node base g.course the_scene number mail takes (Installs slot) marked (omega (arith, low)))

  -- a member sends it
  member : is_member state.core.members mail.from ≡ true
  member =
      let first = head g.at words births rows seat node base g.course the_scene number mail takes (Installs slot) marked in
      ap (is_member state.core.members) sent.slot_leader
      ∙ (ap (λ ms. is_member ms (g.by slot)) (sym sent.members_are)
      ∙ (subst (AreHeeded g.at g.by g.course seat.who ((progress_at births rows base g.course).promise seat.who) (hints_at births rows base seat.who)) first (g.led.heeded.heeds seat.who apart)).0)

  joins : MayJoin births rows seat (Deliver number) base.core.id
  joins = elim (one g.at g.over g.by words births rows base g.course g.led) [
    | inl l ↦ JoinsLed l.0 l.1 l.2
    | inr none ↦ JoinsUnled (g.bonds g.course.newest) there.0 there.1 none (newest_before words births rows seat (Deliver number) base g there)
        (subst (λ n. NewestAreBound births (with_event rows seat (Deliver number)) base.core.id (g.bonds n)) (unled words births rows seat (Deliver number) base g none) (newest_after words births rows seat (Deliver number) base g t.timely there)) there.2
  ]

  state_found : IsState births rows seat number base.core.id slot sets × (is_member state.core.members mail.from ≡ true)
  state_found = (record { whole = sent.whole; joins = joins }, member)

-- the state that is sent is of a group of this name
state_named : (words : ℕ → ℕ → ℕ × ℕ) (births : List (Seat Player)) (rows : Rows) (seat : Seat Player) (number : ℕ) (mail : Mail) (group : Draw) (node : NodeState) (base : Base) → base.core.id ≡ group → IsTaking words births rows seat number mail group node
    → IsGuided words births rows seat (Deliver number) base → IsThere births rows group → (slot : ℕ) (state : Base) (sets : List (List ℕ)) → mail.body ≡ Install group slot state sets
    → IsState births rows seat number group slot sets × (is_member state.core.members mail.from ≡ true)
state_named words births rows seat number mail group node base named t g there slot state sets body =
    subst (λ n. IsState births rows seat number n slot sets × (is_member state.core.members mail.from ≡ true)) named
    (state_found words births rows seat number mail base node (subst (λ n. IsTaking words births rows seat number mail n node) (sym named) t) g (subst (IsThere births rows) (sym named) there) slot state sets
    (body ∙ ap (λ n. Install n slot state sets) (sym named)))

module _ (words : ℕ → ℕ → ℕ × ℕ) (births : List (Seat Player)) (rows : Rows) (seat : Seat Player) (number : ℕ) (mail : Mail) (group : Draw) (node : NodeState) (t : IsTaking words births rows seat number mail group node) (p : IsPosted births mail)
    (states : (slot : ℕ) (state : Base) (sets : List (List ℕ)) → mail.body ≡ Install group slot state sets → IsNamedGuide words births rows seat (Deliver number) group × IsThere births rows group) where
  missed_by : (body : MailBody) → mail.body ≡ body → NodeFinds births rows seat number mail group body
  missed_by (TxPrepare tx offer) e = offers_own births mail tx offer e p
  missed_by (TxWatch tx watch) e = watches_own births mail tx watch e p
  missed_by (Install named slot state sets) e =
      let own : named ≡ group = same_Some named group (ap group_of_mail (sym e) ∙ t.named) in
      let body : mail.body ≡ Install group slot state sets = e ∙ ap (λ n. Install n slot state sets) own in
      let guide = states slot state sets body in
      state_named words births rows seat number mail group node guide.0.base guide.0.named t guide.0.guided guide.1 slot state sets body
  missed_by (TxVote tx coord part vote) e = tt
  missed_by _ e = tt

-- A mail to a node without replica of its group finds what an order needs.
pub missed_found : MissedAreFound
missed_found words births rows seat number mail group node t p states = missed_by words births rows seat number mail group node t p states mail.body refl

-- ---- a child

-- A child may be made that is well led, free and bound by nothing, and not led yet where its first member's node makes it.
pub young_may : YoungChildMayBeCreated
young_may words births rows seat child y = record {
  free = y.free;
  newest = λ node r e most. y.unbound node r e;
  first = elim (cases_Bool (eqb child.core.first seat.who)) [
    | inr other ↦ inl other
    | inl mine ↦ inr (no_scene_lead births rows child.core.id (nobody (eqb-true child.core.first seat.who mine)))
  ];
}
  where
    nobody : child.core.first ≡ seat.who → NoneRuns births rows child.core.id
    nobody same node r e = elim (cases_Bool r.running) [
      | inr off ↦ off
      | inl runs ↦
          (let none : view_at births rows child.core.id child.core.first ≡ None = ap (view_at births rows child.core.id) same ∙ y.first same in
          let begins = y.led.young none in
          let place : node ≡ child.core.first = (gives y.at y.over y.by words births rows child y.course y.led node r e runs).1 ∙ ap (λ (c : Course). c.ballot.node) begins in
          let bad : Some r ≡ None = sym e ∙ (ap (view_at births rows child.core.id) place ∙ none) in cc)
    ]
