-- How the players of a journal begin, what a row leaves of the players that it is not of, and what a client sends in a row of its own.
use Rattle.std.proofs.Common.{◌≡◌, ℕ, ◌≤◌, ◌&&◌, true, false, eqb, List, [], ◌∷◌, ◌++◌, map, inl, inr, refl, sym, ◌∙◌, ap, subst}
use Rattle.std.specs.List.{list_any}
use Rattle.std.proofs.lemmas.Bool.{eq-eqb, and_from, or_left, cond-true, cond-false}
use Rattle.sc_node_table.specs.Values.{Draw, Op, Command, Call, Base, OrderLine, Mail, Row, Event, Seat, Route}
use Rattle.sc_actor.specs.Definitions.{mails, value, acted, input_of, has_started, is_go}
use Rattle.sc_actor.proofs.Lemmas.{value-snoc}
use Rattle.sc_client_table.specs.table.TableDefinitions.{request_of}
use Rattle.sc_node_table.specs.NodeDefinitions.{numbers_from}
use Rattle.sc_base.specs.Definitions.{Among, Each, client_actor, most_nodes}
use Rattle.sc_scenario.specs.declared.scenario.scenarios.Asks.{Asks}
use Rattle.sc_scenario.specs.declared.scenario.scenarios.Scenario.{Scenario}
use Rattle.sc_meaning.specs.sound.SoundDefinitions.{Ahead, node_seat, births, player_table, client_seat, Player, issues, asks_for}
use Rattle.sc_meaning.proofs.SoundProofs.SoundLemmas.{any_push}
use Rattle.sc_law_groups.proofs.GroupProofs.Invariant.{rule}
use Rattle.sc_law_groups.proofs.GroupProofs.Frames.{node_row}
use Rattle.sc_law_groups.proofs.GroupProofs.AcceptorRows.{ArePlain}
use Rattle.sc_law_groups.proofs.GroupProofs.FirstRows.{Journal}
use Rattle.sc_law_groups.proofs.GroupProofs.Clients.{HaveOneSection, IsIssued, SendsAsked}

-- what a family of groups rests on: how the players begin, whatever the rows; what clients issue may be queued, and each group has members
pub record HasPlayers (ahead : Ahead) (scenario : Scenario) (firsts bases : List Base) (route : Route) (made : Journal → Base → Command → Type 0) : Type 0 where
  pub seats : births ahead scenario ≡ map (node_seat ahead firsts scenario.policy) (numbers_from 1 scenario.nodes) ++ map (client_seat route) scenario.clients
  pub nodes : scenario.nodes ≤ most_nodes
  pub numbered : Each (λ asks. 1 ≤ asks.client) scenario.clients
  pub once : HaveOneSection scenario
  pub issued : (rows : Journal) (b : Base) (client seq : ℕ) (op : Op) → IsIssued scenario rows client seq op → made rows b (Call client seq op)
  pub some : (rows : Journal) (b : Base) → Among b bases → (log : List Command) → Each (made rows b) log → (node : ℕ) × (rest : List ℕ) × ((rule ahead b).members log ≡ node ∷ rest)

-- ---- players that do not act

pub other_value : (seat : Seat Player) (rows : Journal) (row : Row Mail OrderLine) → eqb row.who seat.who ≡ false → value player_table seat (rows ++ row ∷ []) ≡ value player_table seat rows
other_value seat rows row f = value-snoc player_table seat rows row ∙ cond-false (eqb row.who seat.who) _ _ f

pub own_value : (seat : Seat Player) (rows : Journal) (row : Row Mail OrderLine) → row.who ≡ seat.who
    → value player_table seat (rows ++ row ∷ []) ≡ (acted player_table (value player_table seat rows) (input_of (mails rows) row.event)).0
own_value seat rows row e = value-snoc player_table seat rows row ∙ cond-true (eqb row.who seat.who) _ _ (eq-eqb row.who seat.who e)

pub still_gone : (rows : Journal) (row : Row Mail OrderLine) (who : ℕ) → has_started (rows ++ row ∷ []) who ≡ false → has_started rows who ≡ false
still_gone rows row who e = (any_push (λ r. eqb r.who who && is_go r.event) rows row e).0

-- ---- what a client sends

pub sends_plain : (asks : Asks) (sent : List Mail) → SendsAsked asks sent → ArePlain sent
sends_plain asks sent (inl none) = subst ArePlain (sym none) tt
sends_plain asks sent (inr (g, target, request, ask, fact)) = subst ArePlain (sym fact) (tt, tt)

pub issues_it : (asks : Asks) (g : Draw) (target : ℕ) (request : ℕ × Op) (event : Event OrderLine) (sent : List Mail) → sent ≡ request_of asks.client g target request ∷ []
    → issues asks.client request.0 (node_row (client_actor asks.client) event sent) ≡ true
issues_it asks g target request event sent fact =
    and_from (eqb (client_actor asks.client) (client_actor asks.client)) (list_any (λ mail. asks_for asks.client request.0 mail.body) sent) (eq-eqb (client_actor asks.client) (client_actor asks.client) refl)
    (ap (λ ms. list_any (λ (mail : Mail). asks_for asks.client request.0 mail.body) ms) fact
    ∙ or_left (eqb asks.client asks.client && eqb request.0 request.0) false (and_from (eqb asks.client asks.client) (eqb request.0 request.0) (eq-eqb asks.client asks.client refl) (eq-eqb request.0 request.0 refl)))
