-- What a row makes of the client that acts, in plain journals and between two orders: what it is then, which of its requests are begun, and that it has started.
use Rattle.std.proofs.Common.{◌⊎◌, ◌≡◌, ℕ, ◌-◌, ◌≤◌, eqb, ◌&&◌, ◌||◌, true, false, List, [], ◌∷◌, ◌++◌, length, Some, inl, inr, refl, sym, ◌∙◌, ap, subst, arith}
use Rattle.std.specs.Prelude.{slice_get}
use Rattle.std.specs.Option.{option_map}
use Rattle.std.proofs.lemmas.Bool.{cases_eq, eq-eqb, or_right}
use Rattle.std.proofs.lemmas.List.Folds.{list_any-append}
use Rattle.sc_base.specs.Definitions.{Among, client_actor}
use Rattle.sc_node_table.specs.Values.{Op, OrderLine, Mail, Seat, Row, Event, Deliver, Go, Got, Client}
use Rattle.sc_actor.specs.declared.rows.Input.TheVariants.{Go as GoInput}
use Rattle.sc_actor.specs.Definitions.{mails, value, acted, input_of, row_of, has_started, is_go}
use Rattle.sc_client_table.specs.table.TableDefinitions.{Client as ClientState, ClientStep, table}
use Rattle.sc_scenario.specs.declared.scenario.scenarios.Asks.{Asks}
use Rattle.sc_scenario.specs.declared.scenario.scenarios.Scenario.{Scenario}
use Rattle.sc_meaning.specs.sound.SoundDefinitions.{Player, player_table, client_seat, route_of, system_of, as_nodes}
use Rattle.sc_live_orderly.proofs.OrderlyLemmas.{TakesFirst}
use Rattle.sc_live_plain.specs.PlainDefinitions.{IsWaiting, IsResting, BeginsBy, begun_ones, waiting_one, begun_of, IsBegun}
use Rattle.sc_live_plain.proofs.PlainProofs.MorePlainRequests.{IsMore}
use Rattle.sc_live_plain.proofs.PlainProofs.PlainBeginnings.{IsStage}
use Rattle.sc_live_plain.proofs.PlainProofs.PlainSteps.{value_others, begun_more, same_client}
use Rattle.sc_live_plain.proofs.PlainRowsProofs.RowViews.{value_own, Journal}
use Rattle.sc_live_plain.proofs.CalmProofs.CalmClients.{unasked}

module _ (words : ℕ → ℕ → ℕ × ℕ) (scenario : Scenario) (stage : IsStage scenario) (rows : Journal) (asks : Asks) (a : Among asks scenario.clients) (client : ClientState)
    (fact : value player_table (client_seat (route_of stage.first) asks) rows ≡ Client client) where
  abbrev cseat : Asks → Seat Player
  cseat other = client_seat (route_of stage.first) other

  module _ (event : Event OrderLine) (after : ClientStep) (acted_is : acted player_table (value player_table (client_seat (route_of stage.first) asks) rows) (input_of (mails rows) event) ≡ (Client after.0, after.1)) where
    pub becomes : value player_table (client_seat (route_of stage.first) asks) (rows ++ row_of player_table (client_seat (route_of stage.first) asks) rows event ∷ []) ≡ Client after.0
    becomes = value_own rows (cseat asks) event ∙ ap (λ (p : Player × List Mail). p.0) acted_is

    pub begins_more : begun_ones client ≤ begun_ones after.0 → IsMore (IsBegun scenario rows) (IsBegun scenario (rows ++ row_of player_table (client_seat (route_of stage.first) asks) rows event ∷ []))
    begins_more grows = begun_more words scenario stage rows (row_of player_table (cseat asks) rows event) (λ other b. elim (cases_eq (client_actor other.client) (client_actor asks.client)) [
      | inl here ↦ (let same : other ≡ asks = same_client scenario stage asks other a b here in
          subst (λ (x : Asks). begun_of (value player_table (cseat x) rows) ≤ begun_of (value player_table (cseat x) (rows ++ row_of player_table (cseat asks) rows event ∷ []))) (sym same)
          (let before = ap begun_of fact in let now_ = ap begun_of becomes in omega (arith, before, now_, grows)))
      | inr ne ↦ (let same = ap begun_of (value_others words scenario stage rows (row_of player_table (cseat asks) rows event) (cseat other) ne) in omega (arith, same))
    ])

    -- what is begun after it
    pub begins_by : client.me ≡ asks.client → client.requests ≡ asks.ops → BeginsBy (IsBegun scenario (rows ++ row_of player_table (client_seat (route_of stage.first) asks) rows event ∷ [])) client after
    begins_by me_is requests_are n op one at low = record {
      first = stage.first;
      others = stage.others;
      groups_are = stage.groups_are;
      asks = asks;
      is_asks = a;
      client_is = sym me_is;
      from_one = one;
      op_is = ap (λ (ops : List Op). slice_get ops (n - 1)) (sym requests_are) ∙ at;
      low = (let now_ = ap begun_of becomes in omega (arith, now_, low));
    }

  -- it takes a mail
  pub takes_is : (number : ℕ) (first : TakesFirst (system_of as_nodes words scenario) rows (client_actor asks.client) number)
      → acted player_table (value player_table (client_seat (route_of stage.first) asks) rows) (input_of {O = OrderLine} (mails rows) (Deliver number)) ≡ (Client (table client (Got first.mail)).0, (table client (Got first.mail)).1)
  takes_is number first = ap (λ o. acted player_table (value player_table (cseat asks) rows) (option_map Got o)) first.sent ∙ ap (λ p. acted player_table p (Some (Got first.mail))) fact

  -- it starts
  pub starts_is : acted player_table (value player_table (client_seat (route_of stage.first) asks) rows) (input_of {O = OrderLine} (mails rows) Go) ≡ (Client (table client GoInput).0, (table client GoInput).1)
  starts_is = ap (λ p. acted player_table p (Some GoInput)) fact

  pub starts_more : IsResting false client ⊎ ((false ≡ true) × IsWaiting client) → begun_ones client ≤ begun_ones (table client GoInput).0
  starts_more state =
      let none = unasked client state in
      let waits = ap waiting_one none.0 in
      let replies = ap length none.1 in
      omega (arith, waits, replies)

  pub starts_now : has_started (rows ++ row_of player_table (client_seat (route_of stage.first) asks) rows Go ∷ []) (client_actor asks.client) ≡ true
  starts_now =
      list_any-append (λ (r : Row Mail OrderLine). eqb r.who (client_actor asks.client) && is_go r.event) rows (row_of player_table (cseat asks) rows Go ∷ [])
      ∙ (ap (λ b. has_started rows (client_actor asks.client) || ((b && true) || false)) (eq-eqb (client_actor asks.client) (client_actor asks.client) refl) ∙ or_right (has_started rows (client_actor asks.client)) true refl)
