-- A row of a calm journal finds what an order needs.
use Rattle.std.proofs.Common.{List, Some, [], ap, false, inl, inr, subst, sym, true, true≢false, ℕ, ◌∙◌, ◌≡◌, refl}
use Rattle.std.proofs.lemmas.Bool.{cases_Bool}
use Rattle.sc_actor.specs.Definitions.{mails, numbered, value, row_of}
use Rattle.sc_node_table.specs.Values.{Seat, Event, Deliver, Go, Draw, Base, OrderLine, Mail, Node}
use Rattle.sc_actor.specs.declared.rows.Event.TheVariants.{Told}
use Rattle.sc_live_answers.proofs.LedMailProofs.FollowerMail.{besides_found}
use Rattle.sc_live_answers.proofs.LedMailProofs.LeaderMail.{leaders_found}
use Rattle.sc_live_answers.proofs.LedMailProofs.WellLedLeaders.{alone, quiet_leaders_have_nothing, unbound}
use Rattle.sc_live_answers.proofs.LedMailProofs.MailWithoutReplica.{missed_found, young_may}
use Rattle.sc_live_answers.proofs.VotesProofs.LeaderVotes.{votes_found}
use Rattle.sc_live_answers.specs.AnswerDefinitions.{IsHere, IsGuided, IsNamedGuide, IsYoung, IsOrdersRow, IsGivenCalmly, MakesYoung, OrdersRowsFind, OrdersRowsMeet}
use Rattle.sc_live_journals.proofs.GroupsProofs.GroupLemmas.{replicas_kept, scenarios_kept_born, Plays as TopPlays, replay_well as tops_replay, top_plays as plays_of}
use Rattle.sc_live_journals.specs.groups.GroupDefinitions.{IsSlotKept}
use Rattle.sc_live_steps.specs.calm.CalmDefinitions.{players, Rows}
use Rattle.sc_live_journals.proofs.MailProofs.MailLemmas.{journals_idle, mail_comes, mail_posted}
use Rattle.sc_live_journals.specs.mail.MailDefinitions.{IsPlainlyKept, IsPosted}
use Rattle.sc_live_steps.specs.orders.OrderDefinitions.{works_in, IsIdle}
use Rattle.sc_live_journals.proofs.RowsProofs.RowLemmas.{view_was}
use Rattle.sc_live_journals.specs.rows.RowDefinitions.{view_at}
use Rattle.sc_live_journals.specs.scenes.SceneDefinitions.{IsOrdered, AtAnother, AtLeader, ByAnother, ByLeader, FindsOrder, FindsQuiet, FindsReplica, NodeFinds, HasNothing, IsTaking, MayCreate, LeadsAlone}
use Rattle.sc_node_table.specs.NodeDefinitions.{NodeState, group_of_order, may_come, replica_of, ReplicaState, mailed}
use Rattle.sc_live_orderly.proofs.OrderlyLemmas.{in_time_before}
use Rattle.sc_live_orderly.specs.OrderlyDefinitions.{AreInTime}
use Rattle.sc_words.proofs.PaxosProofs.PaxosLemmas.{Each-among, Each-weaker}
use Rattle.sc_scenario.specs.declared.scenario.scenarios.Scenario.{Scenario}
use Rattle.sc_meaning.specs.sound.SoundDefinitions.{Player, as_nodes, births, player_table}
use Rattle.sc_law_groups.proofs.GroupProofs.GroupLemmas.{number_among}

-- a replica that is kept has nothing to do where it does not run
idle_kept : (who : ℕ) (r : ReplicaState) → IsPlainlyKept who r → IsSlotKept r → r.running ≡ false → IsIdle r
idle_kept who r p s off =
    let waits = p.2.0 off in
    record { stopped = off; acts = ap works_in waits.1; backlog = ap works_in waits.2; flights = waits.0; ready = (s.0.2 off).1 }

module _ (words : ℕ → ℕ → ℕ × ℕ) (scenario : Scenario) (rows : Rows) (seat : Seat Player) (event : Event OrderLine) (q : IsOrdersRow words scenario rows seat event) where
  abbrev all : List (Seat Player)
  all = births as_nodes scenario

  before : AreInTime (players words (births as_nodes scenario)) rows
  before = in_time_before (players words all) rows (row_of player_table seat rows event) q.timely

  me_is : (node : NodeState) → value player_table seat rows ≡ Node node → node.me ≡ seat.who
  me_is node e = (subst (TopPlays seat.who) e (tops_replay seat.who seat.who rows seat.actor [] (plays_of seat.who seat.actor (scenarios_kept_born scenario seat q.seated)))).0

  plain : (name : Draw) (who : ℕ) (r : ReplicaState) → view_at (births as_nodes scenario) rows name who ≡ Some r → IsPlainlyKept who r
  plain name who r e = journals_idle words scenario rows name who r before e

  idle : (name : Draw) (who : ℕ) (r : ReplicaState) → view_at (births as_nodes scenario) rows name who ≡ Some r → r.running ≡ false → IsIdle r
  idle name who r e = idle_kept who r (plain name who r e) (replicas_kept all rows name who r (scenarios_kept_born scenario) e).1

  sent_so : (number : ℕ) (mail : Mail) → numbered (mails rows) number ≡ Some mail → IsPosted (births as_nodes scenario) mail
  sent_so number mail e = Each-among (IsPosted all) (mails rows) mail (mail_posted words scenario rows before) (number_among (mails rows) number mail e)

  may_so : (number : ℕ) (mail : Mail) → numbered (mails rows) number ≡ Some mail → may_come mail.from mail.body ≡ true
  may_so number mail e = Each-among (λ (m : Mail). may_come m.from m.body ≡ true) (mails rows) mail (mail_comes words scenario rows q.bounded before) (number_among (mails rows) number mail e)

  -- ---- a mail at a replica

  module _ (number : ℕ) (mail : Mail) (node : NodeState) (r : ReplicaState) (fact : event ≡ Deliver number) where
    at_base : (base : Base) → IsGuided words (births as_nodes scenario) rows seat (Deliver number) base → IsTaking words (births as_nodes scenario) rows seat number mail base.core.id node → replica_of base.core.id node.replicas ≡ Some r
        → FindsReplica (births as_nodes scenario) rows seat number mail base.core.id r
    at_base base g t here =
        let view : view_at all rows base.core.id seat.who ≡ Some r = view_was all rows seat Go base.core.id t.seated (Node node) t.is_node ∙ here in
        let h : IsHere words all rows seat number mail base node r = record { guided = g; taking = t; here = here; me_is = (plain base.core.id seat.who r view).0; idle = idle base.core.id seat.who r view } in
        let u = q.unsettled number mail base.core.id node r fact t here in
        elim (cases_Bool r.running) [
          | inl runs ↦ (let f = leaders_found words all rows seat number mail base node r h runs q.under u (λ named client seq op e. q.requests number mail named client seq op fact t.sent e)
              (λ named ballot slot e. (let v = q.votes number mail base.core.id node r named ballot slot fact t here runs e in
              votes_found words all rows seat number mail base node r named ballot slot h runs e q.under v.0 (replicas_kept all rows base.core.id seat.who r (scenarios_kept_born scenario) view).1 v.1)) in
              AtLeader f.0 f.1)
          | inr off ↦ AtAnother (besides_found.beside words all rows seat number mail base node r h off) (besides_found.finds words all rows seat number mail base node r h off (sent_so number mail t.sent) u)
        ]

    here_found : (group : Draw) → IsTaking words (births as_nodes scenario) rows seat number mail group node → replica_of group node.replicas ≡ Some r → FindsReplica (births as_nodes scenario) rows seat number mail group r
    here_found group t here =
        let view : view_at all rows group seat.who ≡ Some r = view_was all rows seat Go group t.seated (Node node) t.is_node ∙ here in
        let guide : IsNamedGuide words all rows seat (Deliver number) group = subst (λ e. IsNamedGuide words all rows seat e group) fact (q.groups group seat.who r view) in
        let name = sym guide.named in
        subst (λ n. FindsReplica all rows seat number mail n r) guide.named
        (at_base guide.base guide.guided (subst (λ n. IsTaking words all rows seat number mail n node) name t) (subst (λ n. replica_of n node.replicas ≡ Some r) name here))

  missed : (number : ℕ) (mail : Mail) (group : Draw) (node : NodeState) → event ≡ Deliver number → IsTaking words (births as_nodes scenario) rows seat number mail group node → NodeFinds (births as_nodes scenario) rows seat number mail group mail.body
  missed number mail group node fact t =
      missed_found words all rows seat number mail group node t (sent_so number mail t.sent)
      (λ slot state sets e. (let s = q.states number mail group slot state sets fact t.sent e in (subst (λ ev. IsNamedGuide words all rows seat ev group) fact s.0, s.1)))

  -- ---- an order

  nothing : IsGivenCalmly words (births as_nodes scenario) rows → (name : Draw) (node : ℕ) (r : ReplicaState) → view_at (births as_nodes scenario) rows name node ≡ Some r → r.running ≡ true → HasNothing r
  nothing c name node r e runs =
      let guide = q.groups name node r e in
      let g = guide.guided in
      let room = c.room name node r e runs in
      quiet_leaders_have_nothing g.at g.over g.by words all rows guide.base g.course node r (scenarios_kept_born scenario) g.log.log.rosters before c.quiet (c.strangers guide.base.core.id) g.led
      (ap (λ n. view_at all rows n node) guide.named ∙ e) runs room.0 room.1

  told : (line : OrderLine) (node : NodeState) (r : ReplicaState) → event ≡ Told line → IsOrdered words (births as_nodes scenario) rows seat line node r → FindsQuiet words (births as_nodes scenario) rows seat line node r
  told line node r fact o =
      let group = group_of_order line.order in
      let view : view_at all rows group seat.who ≡ Some r = view_was all rows seat Go group o.seated (Node node) o.is_node ∙ o.here in
      let guide : IsNamedGuide words all rows seat (Told line) group = subst (λ e. IsNamedGuide words all rows seat e group) fact (q.groups group seat.who r view) in
      let g = guide.guided in
      let c = q.told line fact in
      let own : view_at all rows guide.base.core.id seat.who ≡ Some r = ap (λ n. view_at all rows n seat.who) guide.named ∙ view in
      elim (cases_Bool r.running) [
        | inl runs ↦ ByLeader (subst (λ n. LeadsAlone all rows n seat.who r) guide.named (alone g.at g.over g.by words all rows guide.base g.course g.led seat.who r own runs))
            (unbound g.at g.over g.by words all rows guide.base g.course g.led seat.who r own runs) c.errands (nothing c)
        | inr off ↦ (let b = besides_found.told words all rows seat line node guide.base r g o guide.named off in ByAnother b.1.0 b.0 b.1.1)
      ]

  finds : MakesYoung words scenario rows seat event → FindsOrder words (births as_nodes scenario) rows seat event
  finds young = record {
    client = q.clients;
    me_is = me_is;
    barred = λ node number mail fact at sent none. absurd (true≢false (sym (may_so number mail sent) ∙ none));
    here = λ number mail group node r fact t here. (
      Each-weaker (IsYoung words all rows seat) (MayCreate all rows seat) (λ child. young_may words all rows seat child) (mailed mail.from mail.body (r, [])).1 (young number mail group node r fact t here),
      here_found number mail node r fact group t here,
    );
    missed = λ number mail group node fact t none. missed number mail group node fact t;
    told = told;
  }

-- Each mail that is delivered in a calm journal in which an order is under way meets what an order needs, where groups are guided, and by what is said of the mail.
pub orders_rows_meet : OrdersRowsMeet
orders_rows_meet words scenario rows seat number q = record {
  here = λ mail group node r t here. here_found words scenario rows seat (Deliver number) q number mail node r refl group t here;
  missed = λ mail group node t none. missed words scenario rows seat (Deliver number) q number mail group node refl t;
}

-- Each row of such a journal finds what an order needs, where the children that it makes are young.
pub orders_rows_find : OrdersRowsFind
orders_rows_find words scenario rows seat event q young = finds words scenario rows seat event q young
