-- What is nothing to any order: all that a client sends, and the rows of those who have no part in a group.
use Rattle.std.proofs.Common.{◌≡◌, ℕ, List, [], ◌∷◌, ◌++◌, Option, Some, None, inl, refl, sym, ◌∙◌, ap, subst}
use Rattle.std.specs.Option.{option_map}
use Rattle.std.proofs.lemmas.Bool.{cond-true, cond-false}
use Rattle.sc_base.specs.Definitions.{Each}
use Rattle.sc_node_table.specs.Values.{Draw, OrderLine, Refused, Mail, MailBody, Request, Prepare, Accept, Learn, TxPrepare, TxVote, TxOutcome, TxElsewhere, TxWatch, TxWatched, Node as ANode, Client as AClient, Seat, Event, Deliver, Go as Goes, Input, Got}
use Rattle.sc_words.specs.declared.commands.orders.OrderRefusal.TheVariants.{NotLeader}
use Rattle.sc_actor.specs.declared.rows.Event.TheVariants.{Told as Orders}
use Rattle.sc_actor.specs.declared.rows.Input.TheVariants.{Go, Told}
use Rattle.sc_actor.specs.Definitions.{mails, numbered, value, acted, input_of}
use Rattle.sc_client_table.specs.table.TableDefinitions.{Client, table}
use Rattle.sc_law_walks.proofs.WalkLemmas.{either_way}
use Rattle.sc_live_orderly.specs.OrderlyDefinitions.{AreInTime}
use Rattle.sc_node_table.specs.NodeDefinitions.{result_sent, NodeState, replica_of, group_of_mail, may_come, absent, taken_by, routed, on_mail, ordered_of, on_order}
use Rattle.sc_meaning.specs.sound.SoundDefinitions.{Player, player_table}
use Rattle.sc_live_steps.specs.calm.CalmDefinitions.{players, Rows}
use Rattle.sc_live_steps.specs.orders.OrderDefinitions.{errand_by, errand_for, errands_for}
use Rattle.sc_live_journals.specs.rows.RowDefinitions.{replicas_of, IsSeat, with_event}
use Rattle.sc_words.proofs.PaxosProofs.PaxosLemmas.{Each-weaker}
use Rattle.sc_live_journals.proofs.MailProofs.Clients.{IsRequestOf, clients_ask}
use Rattle.sc_live_journals.proofs.RowsProofs.RowLemmas.{view_was, view_is, sent_is}
use Rattle.sc_live_journals.specs.scenes.SceneDefinitions.{errand_in, errand_taken, KeepsStage, OthersKeep}
use Rattle.sc_live_journals.proofs.ScenesProofs.RowKinds.{asides_stay, asides_are}
use Rattle.sc_live_journals.proofs.ScenesProofs.OrderRows.{rests_by}

-- mail none of which is an errand is nothing to any group
no_errands : (name : Draw) (mails : List Mail) → Each (λ mail. errand_by mail.from mail.to mail.body ≡ None) mails → errands_for name mails ≡ []
no_errands name [] all = refl
no_errands name (mail ∷ mails) all = ap (λ o. errand_for name o ++ errands_for name mails) all.0 ∙ no_errands name mails all.1

-- ---- clients

pub client_none : (client : Client) (input : Input Mail OrderLine) → Each (λ mail. errand_by mail.from mail.to mail.body ≡ None) (table client input).1
client_none client input = Each-weaker (IsRequestOf client.me) (λ (mail : Mail). errand_by mail.from mail.to mail.body ≡ None) (λ mail a. subst (λ (m : Mail). errand_by m.from m.to m.body ≡ None) (sym a.3) refl) (table client input).1 (clients_ask client.me client input refl).1

-- ---- rows

-- any name
abbrev some_name : Draw
some_name = record { node = 0; count = 0 }

module _ (words : ℕ → ℕ → ℕ × ℕ) (births : List (Seat Player)) (rows : Rows) (seat : Seat Player) (event : Event OrderLine) (born : IsSeat births seat) (timely : AreInTime (players words births) (with_event rows seat event)) (player : Player) (fact : value player_table seat rows ≡ player)
    (none : errand_taken (mails rows) event ≡ None) (o : Option (Input Mail OrderLine)) (e : input_of (mails rows) event ≡ o) where
  keeps_still : ((name : Draw) → replica_of name (replicas_of (acted player_table player o).0) ≡ replica_of name (replicas_of player)) → ((name : Draw) → errands_for name (acted player_table player o).1 ≡ []) → KeepsStage births rows seat event
  keeps_still same silent =
      rests_by words births rows seat event some_name
      (record {
        seated = born;
        timely = timely;
        own = λ entry has. (let bad : None ≡ Some entry = sym none ∙ has in cc);
        others = λ other ne. inl (view_is births rows seat event other born player fact o e ∙ (same other ∙ sym (view_was births rows seat event other born player fact)));
      })
      (asides_are.rests births rows seat event some_name
      (asides_stay.missed births rows seat event some_name (view_is births rows seat event some_name born player fact o e ∙ (same some_name ∙ sym (view_was births rows seat event some_name born player fact))))
      (ap (option_map (λ entry. entry.1)) none)
      (tt, λ name away. ap (errands_for name) (sent_is births rows seat event some_name born player fact o e) ∙ silent name))

client_keeps : (words : ℕ → ℕ → ℕ × ℕ) (births : List (Seat Player)) (rows : Rows) (seat : Seat Player) (event : Event OrderLine) (client : Client) → IsSeat births seat → AreInTime (players words births) (with_event rows seat event)
    → value player_table seat rows ≡ AClient client → errand_taken (mails rows) event ≡ None → (o : Option (Input Mail OrderLine)) → input_of (mails rows) event ≡ o → KeepsStage births rows seat event
client_keeps words births rows seat event client born timely fact none None e = keeps_still words births rows seat event born timely (AClient client) fact none None e (λ name. refl) (λ name. refl)
client_keeps words births rows seat event client born timely fact none (Some input) e =
    keeps_still words births rows seat event born timely (AClient client) fact none (Some input) e (λ name. refl) (λ name. no_errands name (table client input).1 (client_none client input))

stray_errand : (from to : ℕ) (body : MailBody) → group_of_mail body ≡ None → errand_by from to body ≡ None
stray_errand from to (TxPrepare tx offer) e = cc
stray_errand from to (TxVote tx coord part vote) e = cc
stray_errand from to (TxOutcome tx part outcome) e = cc
stray_errand from to (TxElsewhere tx coord hint) e = cc
stray_errand from to (TxWatch tx watch) e = cc
stray_errand from to (TxWatched tx coord part vote) e = cc
stray_errand from to _ e = refl

absent_none : (me from to : ℕ) (body : MailBody) → errand_by from to body ≡ None → Each (λ mail. errand_by mail.from mail.to mail.body ≡ None) (absent me from body)
absent_none me from to (Request group client seq op) e = (refl, tt)
absent_none me from to (Prepare group ballot from_slot) e = (refl, tt)
absent_none me from to (Accept group ballot slot command) e = (refl, tt)
absent_none me from to (Learn group slot command) e = (refl, tt)
absent_none me from to (TxPrepare tx offer) e = cc
absent_none me from to (TxWatch tx watch) e = cc
absent_none me from to _ e = tt

-- a node that stays
module _ (words : ℕ → ℕ → ℕ × ℕ) (births : List (Seat Player)) (rows : Rows) (seat : Seat Player) (number : ℕ) (mail : Mail) (node : NodeState) (born : IsSeat births seat) (timely : AreInTime (players words births) (with_event rows seat (Deliver number)))
    (fact : value player_table seat rows ≡ ANode node) (at : numbered (mails rows) number ≡ Some mail) (none : errand_by mail.from mail.to mail.body ≡ None) where
  node_keeps : (sends : List Mail) → on_mail mail.from mail.body node ≡ (node, sends) → ((name : Draw) → errands_for name sends ≡ []) → KeepsStage births rows seat (Deliver number)
  node_keeps sends step silent =
      keeps_still words births rows seat (Deliver number) born timely (ANode node) fact (ap errand_in at ∙ none) (Some (Got mail)) (ap (option_map Got) at)
      (λ name. ap (λ (x : NodeState × List Mail). replica_of name x.0.replicas) step) (λ name. ap (λ (x : NodeState × List Mail). errands_for name x.1) step ∙ silent name)

-- Rows of clients, of nodes that go, and of nodes that get mail of no group or have no replica of it, and make none, keep an order under way.
pub others_keep : OthersKeep
others_keep = record {
  client = λ words births rows seat event client born timely fact none. client_keeps words births rows seat event client born timely fact none (input_of (mails rows) event) refl;
  go = λ words births rows seat node born timely fact. keeps_still words births rows seat Goes born timely (ANode node) fact refl (Some Go) refl (λ name. refl) (λ name. refl);
  stray = λ words births rows seat number mail node born timely fact at none.
      node_keeps words births rows seat number mail node born timely fact at (stray_errand mail.from mail.to mail.body none) []
      (either_way (λ (step : NodeState × List Mail). step ≡ (node, [])) (may_come mail.from mail.body) (routed (group_of_mail mail.body) mail.from mail.body node) (node, []) (ap (λ g. routed g mail.from mail.body node) none) refl) (λ name. refl);
  barred = λ words births rows seat number mail node born timely fact at bar none.
      node_keeps words births rows seat number mail node born timely fact at none [] (cond-false (may_come mail.from mail.body) (routed (group_of_mail mail.body) mail.from mail.body node) (node, []) bar) (λ name. refl);
  missed = λ words births rows seat number mail group c none makes.
      node_keeps words births rows seat number mail c.node c.taking.seated c.taking.timely c.taking.is_node c.taking.sent none (absent c.node.me mail.from mail.body)
      (cond-true (may_come mail.from mail.body) (routed (group_of_mail mail.body) mail.from mail.body c.node) (c.node, []) c.taking.comes
      ∙ (ap (λ g. routed g mail.from mail.body c.node) c.taking.named ∙ (ap (λ x. taken_by x group mail.from mail.body c.node) c.none ∙ makes)))
      (λ name. no_errands name (absent c.node.me mail.from mail.body) (absent_none c.node.me mail.from mail.to mail.body none));
  refused = λ words births rows seat line node born timely fact none.
      (let step : on_order line node ≡ (node, result_sent node.me line.number (Refused (NotLeader None)) []) = ap (λ o. ordered_of o line node) none in
      keeps_still words births rows seat (Orders line) born timely (ANode node) fact refl (Some (Told line)) refl
      (λ name. ap (λ (x : NodeState × List Mail). replica_of name x.0.replicas) step) (λ name. ap (λ (x : NodeState × List Mail). errands_for name x.1) step));
}
