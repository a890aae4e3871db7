-- Mail that is delivered to a node is for it, and what came of an order is for the desk, which is no node.
use Rattle.std.proofs.Common.{◌≡◌, ℕ, eqb, List, [], find, Some, None, refl, sym, ◌∙◌, ap, subst}
use Rattle.sc_node_table.specs.Values.{Draw, OrderLine, OrderResult, Mail, MailBody, Told as ToldMail, Node, Client, Seat, Event, Deliver, Row}
use Rattle.sc_actor.specs.Definitions.{mails, numbered, value, row_of}
use Rattle.sc_live_orderly.specs.OrderlyDefinitions.{IsCalmEvent, AreInTime}
use Rattle.sc_live_orderly.proofs.OrderlyLemmas.{in_time_before, in_time_tidy, last_in_time, takes_first, is_born-from}
use Rattle.sc_words.proofs.PaxosProofs.PaxosLemmas.{Each-among}
use Rattle.sc_scenario.specs.declared.scenario.scenarios.Scenario.{Scenario}
use Rattle.sc_node_table.specs.NodeDefinitions.{NodeState, group_of_mail}
use Rattle.sc_meaning.specs.sound.SoundDefinitions.{Player, births, as_nodes, player_table}
use Rattle.sc_live_steps.specs.calm.CalmDefinitions.{players, IsCalmMailAt, Strays as StraysAt, IsDelivered, Elsewhere, Ways, Rows}
use Rattle.sc_live_journals.specs.mail.MailDefinitions.{IsNodesBody, IsClientsBody, IsPlayers, IsPosted}
use Rattle.sc_live_journals.proofs.MailProofs.MailLemmas.{desks_apart, mail_posted}
use Rattle.sc_live_journals.specs.rows.RowDefinitions.{IsSeat, with_event}
use Rattle.sc_live_journals.proofs.RowsProofs.RowLemmas.{same_some, Plays, replay_well}
use Rattle.sc_live_journals.proofs.GroupsProofs.GroupLemmas.{scenarios_well_born}
use Rattle.sc_law_groups.proofs.GroupProofs.GroupLemmas.{number_among}
use Rattle.sc_live_answers.specs.AnswerDefinitions.{StrayMailFinds, MailIsForItsNode}
use Rattle.sc_live_answers.proofs.BallotsProofs.WellPlayers.{plays_of}

-- what came of an order goes to the desk
pub told_zero : (who : ℕ) (player : Player) (mail : Mail) (order : ℕ) (result : OrderResult) → mail.body ≡ ToldMail order result → IsPlayers who player mail → mail.to ≡ 0
told_zero who (Node node) mail order result e k = subst (IsNodesBody who mail.to) e k
told_zero who (Client client) mail order result e k = absurd (subst (IsClientsBody client.me) e k.1)

module _ (words : ℕ → ℕ → ℕ × ℕ) (scenario : Scenario) (rows : Rows) (seat : Seat Player) (number : ℕ) (mail : Mail) (timely : AreInTime (players words (births as_nodes scenario)) (with_event rows seat (Deliver number))) (born : IsSeat (births as_nodes scenario) seat)
    (sent : numbered (mails rows) number ≡ Some mail) where
  abbrev all : List (Seat Player)
  all = births as_nodes scenario

  abbrev row : Row Mail OrderLine
  row = row_of player_table seat rows (Deliver number)

  before : AreInTime (players words (births as_nodes scenario)) rows
  before = in_time_before (players words all) rows row timely

  -- the node takes the first mail that is pending for it
  pub calm_here : IsCalmEvent (players words (births as_nodes scenario)) rows seat.who (Deliver number)
  calm_here =
      let c = (last_in_time (players words all) rows row timely).0 in
      let event : c.event ≡ Deliver number = sym (ap (λ (r : Row Mail OrderLine). r.event) c.row_is) in
      let who : c.seat.who ≡ seat.who = sym (ap (λ (r : Row Mail OrderLine). r.who) c.row_is) in
      subst (λ n. IsCalmEvent (players words all) rows n (Deliver number)) who (subst (λ (e : Event OrderLine). IsCalmEvent (players words all) rows c.seat.who e) event c.calm)

  pub to_seat : mail.to ≡ seat.who
  to_seat =
      let f = takes_first (players words all) rows seat.who number (in_time_tidy (players words all) rows before) (is_born-from (players words all) seat.who seat born) calm_here in
      let same : mail ≡ f.mail = same_some (numbered (mails rows) number) mail f.mail sent f.sent in
      ap (λ (m : Mail). m.to) same ∙ f.receiver

  told_none : (order : ℕ) (result : OrderResult) → mail.body ≡ ToldMail order result → ⊥
  told_none order result e =
      let posted = Each-among (IsPosted all) (mails rows) mail (mail_posted words scenario rows before) (number_among (mails rows) number mail sent) in
      let zero_ : seat.who ≡ 0 = sym to_seat ∙ told_zero posted.seat.who posted.seat.actor mail order result e posted.fact in
      let found : find (λ (other : Seat Player). eqb other.who 0) all ≡ Some seat = subst (λ n. find (λ (other : Seat Player). eqb other.who n) all ≡ Some seat) zero_ born in
      let bad : None ≡ Some seat = sym (desks_apart scenario) ∙ found in
      cc

  module _ (ways : Ways) (groups : List Draw) (elsewhere : Elsewhere) (node : NodeState) (none : group_of_mail mail.body ≡ None) where
    abbrev Calm : Type 0
    Calm = IsCalmMailAt ways groups elsewhere mail.from mail.body node

    delivered : (b : MailBody) → mail.body ≡ b → IsDelivered b → Calm
    delivered b e k = StraysAt (subst IsDelivered (sym e) k) none

    pub strays : (b : MailBody) → mail.body ≡ b → Calm
    strays (ToldMail order result) e = absurd (told_none order result e)
    strays body e = delivered body e tt

  pub for_node : (node : NodeState) → value player_table seat rows ≡ Node node → mail.to ≡ node.me
  for_node node fact =
      let plays : Plays seat.who (Node node) = subst (Plays seat.who) fact (replay_well seat.who seat.who rows seat.actor [] (plays_of seat.who seat.actor ((scenarios_well_born scenario).well seat born))) in
      to_seat ∙ sym plays.0

-- Mail of no group finds it too: answers come to clients, and what came of orders to the desk.
pub stray_mail_finds : StrayMailFinds
stray_mail_finds ways groups elsewhere words scenario rows seat number mail node timely born fact sent none = strays words scenario rows seat number mail timely born sent ways groups elsewhere node none mail.body refl

-- And mail that is delivered to a node is for it.
pub mail_is_for_its_node : MailIsForItsNode
mail_is_for_its_node words scenario rows seat number mail node timely born fact sent = for_node words scenario rows seat number mail timely born sent node fact
