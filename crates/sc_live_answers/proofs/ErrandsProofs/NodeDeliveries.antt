-- What is delivered while an order is under way is for a node: no such mail goes to a client.
use Rattle.sc_live_journals.proofs.LogsProofs.GroupLogLemmas.{no_client}
use Rattle.std.proofs.Common.{◌≡◌, ℕ, eqb, find, true, List, [], ◌++◌, Option, Some, None, inl, inr, refl, sym, ◌∙◌, ap, subst}
use Rattle.std.proofs.lemmas.Bool.{cases_Bool}
use Rattle.std.proofs.lemmas.Option.{none-some}
use Rattle.sc_base.specs.Definitions.{Among, Each, is_member}
use Rattle.sc_node_table.specs.Values.{Draw, Base, OrderLine, Mail, MailBody, Request, Answer, Prepare, Promise, Accept, Accepted, Nack, Learn, Ask, Install, Told, Client, Seat, Deliver}
use Rattle.sc_actor.specs.Definitions.{mails, value, System, row_of}
use Rattle.sc_client_table.specs.table.TableDefinitions.{Client as ClientState}
use Rattle.sc_live_steps.specs.following.FollowingDefinitions.{Mark, Asks, Votes, Teaches, Installs, Prepares, Promises, mark_of, marks_of}
use Rattle.sc_live_steps.proofs.FollowingProofs.FollowingLemmas.{same_mark}
use Rattle.sc_law_groups.proofs.GroupProofs.GroupLemmas.{number_among}
use Rattle.sc_node_table.specs.NodeDefinitions.{born_node, group_of_mail, listed, slots_ahead}
use Rattle.sc_live_orderly.specs.OrderlyDefinitions.{is_born, AreInTime}
use Rattle.sc_live_orderly.proofs.OrderlyLemmas.{in_time_before, in_time_tidy, last_in_time, TakesFirst, takes_first, is_born-from}
use Rattle.sc_words.proofs.PaxosProofs.PaxosLemmas.{Each-among}
use Rattle.sc_scenario.specs.declared.scenario.scenarios.Scenario.{Scenario}
use Rattle.sc_meaning.specs.sound.SoundDefinitions.{groups_at, Player, player_table, births, node_seat, as_nodes}
use Rattle.sc_live_steps.specs.calm.CalmDefinitions.{players, Rows}
use Rattle.sc_live_steps.specs.orders.OrderDefinitions.{errand_by, Errand}
use Rattle.sc_live_journals.specs.logs.LogDefinitions.{logged_sets}
use Rattle.sc_live_journals.specs.mail.MailDefinitions.{IsPosted, MailIsPosted, DesksAreNotBorn}
use Rattle.sc_live_journals.proofs.ScenesProofs.SceneLemmas.{calm_is}
use Rattle.sc_live_answers.specs.AnswerDefinitions.{IsNodeOf, GoesToNode, RefusesToNode, RefusalsGoToNodes, IsCalmJournal, ContinuesBy, IsNamedGroup, MembersAreHome, IsOfJournal, IsOrderedSince, SaysWell, IsStranger, TakersAreNodes, SaysWork}
use Rattle.sc_live_answers.proofs.ErrandsProofs.ErrandReceivers.{node_seated}
use Rattle.sc_live_answers.proofs.ReplicasProofs.Nodes.{node_replays}
use Rattle.sc_live_answers.proofs.ErrandsProofs.StrayMail.{told_zero as told_to}

one_seat : (one other : Seat Player) → Some one ≡ Some other → one ≡ other
one_seat one other e = cc

module _ (post_law : MailIsPosted) (desk_law : DesksAreNotBorn) (members_law : MembersAreHome) (refuse_law : RefusalsGoToNodes) (words : ℕ → ℕ → ℕ × ℕ) (scenario : Scenario) (first : Base) (journal quiet rows : Rows) (seat : Seat Player) (number : ℕ) (calm : IsCalmJournal words scenario journal)
    (o : IsOrderedSince words scenario first journal quiet rows) (on : ContinuesBy words scenario journal rows seat number) (client : ClientState) (fact : value player_table seat rows ≡ Client client) where
  abbrev all : List (Seat Player)
  all = births as_nodes scenario

  abbrev s : System Player Mail OrderLine
  s = players words (births as_nodes scenario)

  before : AreInTime s rows
  before = in_time_before s rows (row_of player_table seat rows (Deliver number)) on.timely

  born : is_born s seat.who ≡ true
  born = is_born-from s seat.who seat on.seated

  -- the mail that is delivered
  d : TakesFirst s rows seat.who number
  d = takes_first s rows seat.who number (in_time_tidy s rows before) born (calm_is words all rows seat (Deliver number) (last_in_time s rows (row_of player_table seat rows (Deliver number)) on.timely).0)

  sent : Among d.mail (mails rows)
  sent = number_among (mails rows) number d.mail d.sent

  -- a client is no node
  away : IsNodeOf scenario seat.who → ⊥
  away node =
      let same = one_seat seat (node_seat as_nodes scenario.groups scenario.policy seat.who) (sym on.seated ∙ node_seated scenario seat.who node) in
      let stays = node_replays seat.who [] rows (born_node slots_ahead seat.who scenario.groups scenario.policy) in
      no_client client stays.0 (sym fact ∙ (ap (λ (x : Seat Player). value player_table x rows) same ∙ stays.1))

  away_to : IsNodeOf scenario d.mail.to → ⊥
  away_to node = away (subst (IsNodeOf scenario) d.receiver node)

  known : (name : Draw) → group_of_mail d.mail.body ≡ Some name → IsNamedGroup scenario journal name
  known = (subst (Each (IsOfJournal scenario journal)) d.first (o.known seat.who born)).0

  works : SaysWork o.task d.mail.body
  works = (subst (Each (λ (mail : Mail). SaysWork o.task mail.body)) d.first (o.work.mail seat.who born)).0

  -- so it is never a member, and no mail of Paxos with a mark is for it
  stranger : (base : Base) → Among base (groups_at as_nodes scenario.groups journal) → IsStranger (logged_sets as_nodes base journal) seat.who
  stranger base among slot = elim (cases_Bool (is_member (logged_sets as_nodes base journal slot) seat.who)) [
    | inl t ↦ absurd (away (members_law.slots as_nodes words scenario journal base (record { open_slots = refl; valid = calm.valid; lawful = calm.lawful; stands = among }) slot seat.who t))
    | inr f ↦ f
  ]

  unmarked : (base : Base) → Among base (groups_at as_nodes scenario.groups journal) → (m : Mark) → mark_of base.core.id d.mail.from d.mail.body ≡ Some m → ⊥
  unmarked base among m e = none_left (mark_of base.core.id d.mail.from d.mail.body) e (ap (marks_of base.core.id) (sym d.first) ∙ ((o.under.sent base among).sent.homes.strangers seat.who (stranger base among)).1)
    where
      none_left : (other : Option Mark) → other ≡ Some m → listed other ++ marks_of base.core.id d.behind ≡ [] → ⊥
      none_left None e2 l = none-some m e2
      none_left (Some x) e2 l = cc

  module _ (name : Draw) (of : group_of_mail d.mail.body ≡ Some name) where
    abbrev g : IsNamedGroup scenario journal name
    g = known name of

    -- a mail of a group of the journal with a mark
    marked : (body : Draw → MailBody) (m : Mark) → d.mail.body ≡ body name → ((n : Draw) → mark_of n d.mail.from (body n) ≡ Some m) → ⊥
    marked body m e mark =
        let same : d.mail.body ≡ body g.0.core.id = e ∙ ap body (sym g.2) in
        unmarked g.0 g.1 m (ap (mark_of g.0.core.id d.mail.from) same ∙ mark g.0.core.id)

    asked : (slot : ℕ) → d.mail.body ≡ Ask name slot → ⊥
    asked slot e =
        let t = o.under.sent g.0 g.1 in
        let says = Each-among (λ (mail : Mail). SaysWell g.0.core.id t.course.ballot mail.body) (mails rows) d.mail t.sent.says sent in
        let never : SaysWell g.0.core.id t.course.ballot (Ask name slot) = subst (SaysWell g.0.core.id t.course.ballot) e says in
        never (sym g.2)

  errand : (entry : Draw × Errand) → errand_by d.mail.from d.mail.to d.mail.body ≡ Some entry → ⊥
  errand entry e = away_to (Each-among (GoesToNode scenario) (mails rows) d.mail o.home sent (entry, e))

  desk : d.mail.to ≡ 0 → ⊥
  desk e =
      let mine : seat.who ≡ 0 = sym d.receiver ∙ e in
      none-some seat (sym (desk_law scenario) ∙ subst (λ n. find (λ (other : Seat Player). eqb other.who n) all ≡ Some seat) mine on.seated)

  none : (body : MailBody) → d.mail.body ≡ body → ⊥
  none (Request group client_ seq op) e = subst (SaysWork o.task) e works
  none (Answer group seq answer) e = subst (SaysWork o.task) e works
  none (Prepare group ballot from_slot) e = marked group (ap group_of_mail e) (λ n. Prepare n ballot from_slot) (Prepares ballot) e (λ n. same_mark n (Prepares ballot))
  none (Promise group ballot reports) e = marked group (ap group_of_mail e) (λ n. Promise n ballot reports) (Promises d.mail.from ballot) e (λ n. same_mark n (Promises d.mail.from ballot))
  none (Accept group ballot slot command) e = marked group (ap group_of_mail e) (λ n. Accept n ballot slot command) (Asks ballot slot) e (λ n. same_mark n (Asks ballot slot))
  none (Accepted group ballot slot) e = marked group (ap group_of_mail e) (λ n. Accepted n ballot slot) (Votes d.mail.from ballot slot) e (λ n. same_mark n (Votes d.mail.from ballot slot))
  none (Learn group slot command) e = marked group (ap group_of_mail e) (λ n. Learn n slot command) (Teaches slot) e (λ n. same_mark n (Teaches slot))
  none (Install group slot base sets) e = marked group (ap group_of_mail e) (λ n. Install n slot base sets) (Installs slot) e (λ n. same_mark n (Installs slot))
  none (Ask group from_slot) e = asked group (ap group_of_mail e) from_slot e
  none (Nack group promised) e = away_to (Each-among (RefusesToNode scenario) (mails rows) d.mail (refuse_law words scenario rows before) sent group promised e)
  none (Told order result) e = (let p = Each-among (IsPosted all) (mails rows) d.mail (post_law words scenario rows before) sent in desk (told_to p.seat.who p.seat.actor d.mail order result e p.fact))
  none _ e = errand _ (ap (errand_by d.mail.from d.mail.to) e)

  taken_by_node : ⊥
  taken_by_node = none d.mail.body refl

pub takers_are_nodes : MailIsPosted → DesksAreNotBorn → MembersAreHome → RefusalsGoToNodes → TakersAreNodes
takers_are_nodes post_law desk_law members_law refuse_law words scenario first journal quiet rows seat number calm o on client fact = taken_by_node post_law desk_law members_law refuse_law words scenario first journal quiet rows seat number calm o on client fact
