-- Mail of a transaction that is under way comes unsettled.
use Rattle.std.proofs.Common.{◌≡◌, ℕ, Bool, true, false, List, Option, Some, None, option_map, refl, sym, ◌∙◌, ap, subst}
use Rattle.std.specs.List.{find}
use Rattle.sc_base.specs.Definitions.{Among, same_draw}
use Rattle.sc_node_table.specs.Values.{Draw, Seat, Deliver, Base, Outcome, Mail, MailBody, TxElsewhere, TxPrepare, TxVote, TxWatch, TxWatched, Node}
use Rattle.sc_actor.proofs.Lemmas.{lawful-prefix}
use Rattle.sc_group_table.specs.machine.MachineDefinitions.{Group, locked_in, is_locked_in}
use Rattle.sc_node_table.specs.NodeDefinitions.{NodeState, ReplicaState, gone_vote, noted_outcome, standing_by, standing_vote}
use Rattle.sc_scenario.specs.scenario.Definitions.{ValidScenariosAreBounded}
use Rattle.sc_scenario.specs.declared.scenario.scenarios.Scenario.{Scenario}
use Rattle.sc_meaning.specs.sound.SoundDefinitions.{Lawful, Player, as_nodes, births, schedule, system_of}
use Rattle.sc_law_entries.specs.names.NameDefinitions.{IsUsed, NamesAreDrawn}
use Rattle.sc_live_steps.specs.calm.CalmDefinitions.{Rows}
use Rattle.sc_live_steps.specs.orders.OrderDefinitions.{bond_of, errand_by, is_cast_yes, is_yes, Errand, Here, Question, Reply, Asks, Deal, Replied, Stage}
use Rattle.sc_live_journals.specs.rows.RowDefinitions.{view_at}
use Rattle.sc_live_journals.proofs.RowsProofs.RowLemmas.{view_was}
use Rattle.sc_live_journals.specs.scenes.SceneDefinitions.{AreUntouched, IsThere, scene_at}
use Rattle.sc_live_journals.proofs.ScenesProofs.SceneLemmas.{asked_fresh}
use Rattle.sc_live_answers.specs.AnswerDefinitions.{IsUnsettled, HasDone, doer, opened, IsTrueSince, MailComesUnsettled, TakesSince}
use Rattle.sc_live_answers.proofs.ReplicasProofs.Names.{undecided, unvoted, used_in}
use Rattle.sc_live_answers.proofs.WorkProofs.Parties.{coordinates, decided_same, lead_bond}
use Rattle.sc_live_answers.proofs.ErrandsProofs.PendingErrands.{goes_to, is_pending, question_at, reply_at}
use Rattle.sc_live_answers.proofs.QuietProofs.QuietLeaders.{stands_there}
use Rattle.std.proofs.lemmas.Option.{same_Some}

module _ (bounded : ValidScenariosAreBounded) (drawn : NamesAreDrawn) (words : ℕ → ℕ → ℕ × ℕ) (scenario : Scenario) (first : Base) (journal quiet rows : Rows) (seat : Seat Player) (number : ℕ) (mail : Mail) (group : Draw) (node : NodeState) (r : ReplicaState)
    (stage : Stage) (t : TakesSince words scenario first journal quiet rows seat number mail group node r stage) where
  abbrev all : List (Seat Player)
  all = births as_nodes scenario

  lawful : Lawful as_nodes words scenario quiet
  lawful = lawful-prefix (system_of as_nodes words scenario) (schedule scenario) quiet t.rests.prefix.more (subst (Lawful as_nodes words scenario) t.rests.prefix.fact t.calm.lawful)

  -- ---- a question

  -- at a group that is asked no vote stands
  module _ (deal : Deal) (to : ℕ) (fact : stage ≡ Asks deal to) (own : deal.asked ≡ group) where
    untouched : AreUntouched words (births as_nodes scenario) quiet rows (Asks deal to)
    untouched = subst (AreUntouched words all quiet rows) fact t.untouched

    since : IsTrueSince scenario quiet rows (Asks deal to)
    since = subst (IsTrueSince scenario quiet rows) fact t.true_since

    there : IsThere (births as_nodes scenario) quiet deal.asked
    there = stands_there scenario quiet _ _ t.rests.fact.quiet t.rests.known t.seen deal.asked since.asked.0

    was : view_at (births as_nodes scenario) quiet deal.asked seat.who ≡ Some r
    was = sym (untouched.views deal.asked (asked_fresh (scene_at all rows) deal to untouched.stands) there seat.who) ∙ (ap (λ n. view_at all rows n seat.who) own ∙ (view_was all rows seat (Deliver number) group t.taking.seated (Node node) t.taking.is_node ∙ t.here))

    asked_unvoted : standing_vote r.group.core deal.tx ≡ None
    asked_unvoted =
        ap (λ v. standing_by v (is_locked_in (locked_in r.group.core.lock) deal.tx) r.group.core.gone) (unvoted (IsUsed as_nodes scenario quiet) deal.tx since.new.0 r.group.core (used_in drawn words scenario quiet (bounded scenario t.calm.valid) lawful deal.asked seat.who r was))
        ∙ ap gone_vote (t.rests.reach.stand deal.asked since.asked.0 seat.who r (sym (t.seen deal.asked seat.who) ∙ was))

  same_question : (tx tx2 coord coord2 : Draw) (w w2 : Bool) (by by2 to to2 : ℕ) → Question tx coord w by to ≡ Question tx2 coord2 w2 by2 to2 → tx ≡ tx2
  same_question tx tx2 coord coord2 w w2 by by2 to to2 e = cc

  asks : (entry : Draw × Errand) (tx coord : Draw) (watch : Bool) (by to : ℕ) → entry ≡ (group, Question tx coord watch by to) → errand_by mail.from mail.to mail.body ≡ Some entry → standing_vote r.group.core tx ≡ None
  asks entry tx coord watch by to fact errand =
      let pending : Among (Question tx coord watch by to) ((scene_at all rows).at group).errands =
      is_pending words all rows seat number mail t.taking.timely t.taking.sent (group, Question tx coord watch by to) (errand ∙ ap Some fact) in
      let a = question_at (scene_at all rows) stage t.untouched.stands group tx coord watch by to pending in
      subst (λ x. standing_vote r.group.core x ≡ None) (same_question a.deal.tx tx a.deal.coord coord _ watch a.deal.chief by a.to to a.errand_is) (asked_unvoted a.deal a.to a.fact a.group_is)

  -- ---- a vote

  module _ (deal : Deal) (agreed : Bool) (host : ℕ) (fact : stage ≡ Replied deal agreed host) (own : deal.coord ≡ group) (chief : deal.chief ≡ seat.who) where
    replied : AreUntouched words (births as_nodes scenario) quiet rows (Replied deal agreed host)
    replied = subst (AreUntouched words all quiet rows) fact t.untouched

    truly : IsTrueSince scenario quiet rows (Replied deal agreed host)
    truly = subst (IsTrueSince scenario quiet rows) fact t.true_since

    abbrev d : HasDone (births as_nodes scenario) quiet rows (doer deal.coord deal.chief (opened deal.tx deal.turn))
    d = truly.done.0

    here : d.now ≡ r
    here = same_Some d.now r (sym d.fact ∙ (ap (λ n. view_at all rows deal.coord n) chief ∙ (ap (λ n. view_at all rows n seat.who) own ∙ (view_was all rows seat (Deliver number) group t.taking.seated (Node node) t.taking.is_node ∙ t.here))))

    free : d.first.group.core.lock ≡ Rattle.sc_words.specs.declared.commands.cores.Lock.TheVariants.Free
    free = (t.rests.fact.quiet.at_rest deal.coord deal.chief d.first (sym (t.seen deal.coord deal.chief) ∙ d.was)).free

    same_decided : r.group.core.decided ≡ d.first.group.core.decided
    same_decided =
        ap (λ (x : ReplicaState). x.group.core.decided) (sym here) ∙ (ap (λ (g : Group). g.core.decided) d.group_is
        ∙ decided_same d.first.group deal.tx deal.asked deal.turn _
        (coordinates d.first.group free deal.tx deal.tx deal.asked deal.turn d.entries d.did (ap (λ (g : Group). bond_of g.core) (sym d.group_is) ∙ (sym (lead_bond all rows deal.coord deal.chief d.now replied.stands.leads.0 d.fact) ∙ ap (λ (h : Here). h.bond) replied.stands.parties.0.0))))

    coord_undecided : noted_outcome r.group.core deal.tx ≡ None
    coord_undecided =
        ap (λ (xs : List (Draw × Outcome)). option_map (λ (noted : Draw × Outcome). noted.1) (find (λ (noted : Draw × Outcome). same_draw noted.0 deal.tx) xs)) same_decided
        ∙ undecided (IsUsed as_nodes scenario quiet) deal.tx truly.new.0 d.first.group.core (used_in drawn words scenario quiet (bounded scenario t.calm.valid) lawful deal.coord deal.chief d.first d.was)

  same_reply : (tx tx2 : Draw) (w w2 a a2 : Bool) (by by2 to to2 : ℕ) → Reply tx w a by to ≡ Reply tx2 w2 a2 by2 to2 → (tx ≡ tx2) × (to ≡ to2)
  same_reply tx tx2 w w2 a a2 by by2 to to2 e = (cc, cc)

  replies : (tx : Draw) (watch agreed : Bool) → errand_by mail.from mail.to mail.body ≡ Some (group, Reply tx watch agreed mail.from mail.to) → noted_outcome r.group.core tx ≡ None
  replies tx watch agreed errand =
      let pending = is_pending words all rows seat number mail t.taking.timely t.taking.sent (group, Reply tx watch agreed mail.from mail.to) errand in
      let a = reply_at (scene_at all rows) stage t.untouched.stands group tx watch agreed mail.from mail.to pending in
      let both = same_reply a.deal.tx tx _ watch a.agreed agreed a.host mail.from a.deal.chief mail.to a.errand_is in
      let mine : a.deal.chief ≡ seat.who = both.1 ∙ goes_to words all rows seat number mail t.taking.timely t.taking.sent in
      subst (λ x. noted_outcome r.group.core x ≡ None) both.0 (coord_undecided a.deal a.agreed a.host a.fact a.group_is mine)

  named_so : (body : MailBody) → mail.body ≡ body → Rattle.sc_node_table.specs.Node.group_of_mail body ≡ Some group
  named_so body e = ap Rattle.sc_node_table.specs.Node.group_of_mail (sym e) ∙ t.taking.named

  by_body : (body : MailBody) → mail.body ≡ body → ((tx coord : Draw) (hint : Option ℕ) → body ≡ TxElsewhere tx coord hint → ⊥) → IsUnsettled r body
  by_body (TxPrepare tx offer) e none =
      let own : offer.part ≡ group = same_Some offer.part group (named_so (TxPrepare tx offer) e) in
      asks (offer.part, Question tx offer.coord false offer.by mail.to) tx offer.coord false offer.by mail.to (ap (λ n. (n, Question tx offer.coord false offer.by mail.to)) own) (ap (errand_by mail.from mail.to) e)
  by_body (TxWatch tx watch) e none =
      let own : watch.part ≡ group = same_Some watch.part group (named_so (TxWatch tx watch) e) in
      asks (watch.part, Question tx watch.coord true watch.by mail.to) tx watch.coord true watch.by mail.to (ap (λ n. (n, Question tx watch.coord true watch.by mail.to)) own) (ap (errand_by mail.from mail.to) e)
  by_body (TxVote tx coord part vote) e none =
      let own : coord ≡ group = same_Some coord group (named_so (TxVote tx coord part vote) e) in
      replies tx false (is_yes vote) (ap (errand_by mail.from mail.to) e ∙ ap (λ n. Some (n, Reply tx false (is_yes vote) mail.from mail.to)) own)
  by_body (TxWatched tx coord part vote) e none =
      let own : coord ≡ group = same_Some coord group (named_so (TxWatched tx coord part vote) e) in
      replies tx true (is_cast_yes vote) (ap (errand_by mail.from mail.to) e ∙ ap (λ n. Some (n, Reply tx true (is_cast_yes vote) mail.from mail.to)) own)
  by_body (TxElsewhere tx coord hint) e none = absurd (none tx coord hint refl)
  by_body _ e none = tt

  unsettled : ((tx coord : Draw) (hint : Option ℕ) → mail.body ≡ TxElsewhere tx coord hint → ⊥) → IsUnsettled r mail.body
  unsettled none = by_body mail.body refl none

pub mail_unsettled : ValidScenariosAreBounded → NamesAreDrawn → MailComesUnsettled
mail_unsettled bounded drawn words scenario first journal quiet rows seat number mail group node r stage t none = unsettled bounded drawn words scenario first journal quiet rows seat number mail group node r stage t none
