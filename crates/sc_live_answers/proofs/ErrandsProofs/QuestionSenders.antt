-- Whose offers and watches are sent.
use Rattle.std.proofs.Common.{List, subst, sym, ℕ, ◌∙◌, ◌≡◌}
use Rattle.sc_node_table.specs.Values.{Seat, Draw, Offer, Watch, Mail, TxPrepare, TxWatch, Client, Node}
use Rattle.sc_live_journals.specs.mail.MailDefinitions.{IsClientsBody, IsNodesBody, IsPlayers, IsPosted}
use Rattle.sc_meaning.specs.sound.SoundDefinitions.{Player}

offer_by : (who : ℕ) (player : Player) (mail : Mail) (tx : Draw) (offer : Offer) → mail.body ≡ TxPrepare tx offer → mail.from ≡ who → IsPlayers who player mail → offer.by ≡ mail.from
offer_by who (Node node) mail tx offer e from p = (let own : IsNodesBody who mail.to (TxPrepare tx offer) = subst (IsNodesBody who mail.to) e p in own ∙ sym from)
offer_by who (Client client) mail tx offer e from p = (let none : IsClientsBody client.me (TxPrepare tx offer) = subst (IsClientsBody client.me) e p.1 in absurd none)

watch_by : (who : ℕ) (player : Player) (mail : Mail) (tx : Draw) (watch : Watch) → mail.body ≡ TxWatch tx watch → mail.from ≡ who → IsPlayers who player mail → watch.by ≡ mail.from
watch_by who (Node node) mail tx watch e from p = (let own : IsNodesBody who mail.to (TxWatch tx watch) = subst (IsNodesBody who mail.to) e p in own ∙ sym from)
watch_by who (Client client) mail tx watch e from p = (let none : IsClientsBody client.me (TxWatch tx watch) = subst (IsClientsBody client.me) e p.1 in absurd none)

-- a question is its sender's
pub offers_own : (births : List (Seat Player)) (mail : Mail) (tx : Draw) (offer : Offer) → mail.body ≡ TxPrepare tx offer → IsPosted births mail → offer.by ≡ mail.from
offers_own births mail tx offer e p = offer_by p.seat.who p.seat.actor mail tx offer e p.from_is p.fact

pub watches_own : (births : List (Seat Player)) (mail : Mail) (tx : Draw) (watch : Watch) → mail.body ≡ TxWatch tx watch → IsPosted births mail → watch.by ≡ mail.from
watches_own births mail tx watch e p = watch_by p.seat.who p.seat.actor mail tx watch e p.from_is p.fact
