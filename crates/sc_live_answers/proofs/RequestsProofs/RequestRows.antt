-- Each row of a line of requests finds what it needs.
use Rattle.std.proofs.Common.{◌≡◌, ℕ, ◌≤◌, eqb, ◌∷◌, ◌++◌, find, Some, inl, inr, refl, sym, ◌∙◌, ap, subst}
use Rattle.sc_base.specs.Definitions.{Among, Each, client_actor}
use Rattle.sc_node_table.specs.Values.{Base, OrderLine, Mail, Node, Client, Seat, Event, Deliver, Go}
use Rattle.sc_actor.specs.Definitions.{mails, numbered, value, row_of, has_started, waiting, kth}
use Rattle.sc_client_table.specs.table.TableDefinitions.{Client as ClientState}
use Rattle.sc_scenario.specs.declared.scenario.scenarios.Asks.{Asks}
use Rattle.sc_scenario.specs.declared.scenario.scenarios.Scenario.{Scenario}
use Rattle.sc_scenario.specs.scenario.Definitions.{ValidScenariosAreBounded}
use Rattle.sc_meaning.specs.sound.SoundDefinitions.{Player, player_table, births, node_seat, client_seat, route_of, system_of, as_nodes}
use Rattle.sc_live_orderly.specs.OrderlyDefinitions.{IsTidy, IsOrderly, IsInOrder}
use Rattle.sc_live_orderly.proofs.OrderlyLemmas.{TakesFirst, takes_first, is_born-from}
use Rattle.sc_live_steps.specs.calm.CalmDefinitions.{Chart, IsCalmFor, MayGoNow, FindsCalm, led_elsewhere}
use Rattle.sc_live_plain.proofs.PlainProofs.BegunRequestCounts.{begun_right}
use Rattle.sc_live_plain.specs.PlainDefinitions.{IsAskingNode, IsAskingClient, IsAsking, AreFarFromLast, IsLinkedSetting, IsCalmClient, Setting, IsSetting, IsCalmMail, IsBegun}
use Rattle.sc_live_plain.proofs.CalmProofs.RequestPhaseNodes as turns_of
use Rattle.sc_live_plain.proofs.PlainLemmas.{IsStage, stage, Journal, of_player}
use Rattle.sc_live_answers.specs.AnswerDefinitions.{CountsAs, AreReached, AllAskLeaders, IsAnswerTo, AnswersAreHeardCalmly, ClientsGoCalmly, AnswersAreExpected, LinesAskLeaders, NodesMayPump, AreNear, RequestRowsFindCalm}
use Rattle.sc_live_answers.proofs.RequestsProofs.RequestPremises.{requests_taken}

some_mail : {one other : Mail} → Some one ≡ Some other → one ≡ other
some_mail e = cc

module _ (heard : AnswersAreHeardCalmly) (goes : ClientsGoCalmly) (words : ℕ → ℕ → ℕ × ℕ) (scenario : Scenario) (begins : IsStage scenario) (set : Setting) (fact : IsSetting set) (linked : IsLinkedSetting set) (rows : Journal) (t : IsTidy rows)
    (j : IsAsking words scenario set begins.first rows) (room : AreFarFromLast scenario set rows) (chart : Chart) (reached : AreReached set) (counts : CountsAs set chart) (pumps : NodesMayPump scenario rows) (near : AreNear scenario chart begins.first rows)
    (leads : AllAskLeaders scenario set begins.first rows)
    (expects : (asks : Asks) (client : ClientState) (number : ℕ) (mail : Mail) → Among asks scenario.clients → value player_table (client_seat (route_of begins.first) asks) rows ≡ Client client
    → kth (waiting (system_of as_nodes words scenario) rows (Some (client_actor asks.client))) 1 ≡ Some number → numbered (mails rows) number ≡ Some mail → IsAnswerTo client mail) where
  abbrev nseat : ℕ → Seat Player
  nseat me = node_seat as_nodes scenario.groups scenario.policy me

  abbrev cseat : Asks → Seat Player
  cseat asks = client_seat (route_of begins.first) asks

  module _ (me : ℕ) (one : 1 ≤ me) (most : me ≤ scenario.nodes) (born : find (λ (other : Seat Player). eqb other.who me) (births as_nodes scenario) ≡ Some (nseat me)) where
    abbrev n : IsAskingNode scenario set rows me
    n = turns_of.n words scenario begins set fact rows t j room me one most born

    node_takes : (number : ℕ) → kth (waiting (system_of as_nodes words scenario) rows (Some me)) 1 ≡ Some number → (mail : Mail) → numbered (mails rows) number ≡ Some mail
        → IsCalmFor chart (led_elsewhere (births as_nodes scenario) rows me) mail (value player_table (nseat me) rows)
    node_takes number fine mail sent =
        let first = turns_of.first words scenario begins set fact rows t j room me one most born number fine in
        let same : first.mail ≡ mail = some_mail (sym first.sent ∙ sent) in
        subst (IsCalmFor chart (led_elsewhere (births as_nodes scenario) rows me) mail) (sym n.fact)
        (subst (λ (m : Mail). IsCalmFor chart (led_elsewhere (births as_nodes scenario) rows me) m (Node n.node)) same
        (requests_taken scenario rows set chart (led_elsewhere (births as_nodes scenario) rows me) n.node first.mail fact counts n.calm (pumps me n.node one most n.fact)
        (turns_of.is_calm words scenario begins set fact rows t j room me one most born number fine)
        (turns_of.to_me words scenario begins set fact rows t j room me one most born number fine)
        (turns_of.not_client words scenario begins set fact rows t j room me one most born)
        (turns_of.in_time words scenario begins set fact rows t j room me one most born number fine)))

    node_finds : (event : Event OrderLine) → IsInOrder (system_of as_nodes words scenario) rows me event → FindsCalm chart (births as_nodes scenario) rows (nseat me) event
    node_finds (Deliver number) fine = node_takes number fine
    node_finds Go fine = subst (MayGoNow chart) (sym n.fact) tt
    node_finds _ fine = absurd fine

  module _ (asks : Asks) (a : Among asks scenario.clients) (born : find (λ (other : Seat Player). eqb other.who (client_actor asks.client)) (births as_nodes scenario) ≡ Some (cseat asks)) where
    abbrev c : IsAskingClient scenario set begins.first rows asks
    c = j.clients asks a

    client_takes : (number : ℕ) → kth (waiting (system_of as_nodes words scenario) rows (Some (client_actor asks.client))) 1 ≡ Some number → (mail : Mail) → numbered (mails rows) number ≡ Some mail
        → IsCalmFor chart (led_elsewhere (births as_nodes scenario) rows (client_actor asks.client)) mail (value player_table (cseat asks) rows)
    client_takes number fine mail sent =
        let sys = system_of as_nodes words scenario in
        let there = is_born-from sys (client_actor asks.client) (cseat asks) born in
        let first : TakesFirst sys rows (client_actor asks.client) number = takes_first sys rows (client_actor asks.client) number t there fine in
        let same : first.mail ≡ mail = some_mail (sym first.sent ∙ sent) in
        let calm = (subst (Each (IsCalmMail (IsBegun scenario rows) set)) first.first (j.left (client_actor asks.client) there)).0 in
        subst (IsCalmFor chart (led_elsewhere (births as_nodes scenario) rows (client_actor asks.client)) mail) (sym c.fact)
        (heard scenario rows set chart (led_elsewhere (births as_nodes scenario) rows (client_actor asks.client)) asks (has_started rows (client_actor asks.client)) c.client mail fact linked reached counts c.calm
        (subst (IsCalmMail (IsBegun scenario rows) set) same calm)
        (ap (λ (m : Mail). m.to) (sym same) ∙ (first.receiver ∙ ap client_actor (sym c.calm.me_is)))
        (begun_right scenario rows begins.once asks a c.client c.calm.me_is c.calm.requests_are) (leads asks c.client a c.fact) (expects asks c.client number mail a c.fact fine sent))

    client_finds : (event : Event OrderLine) → IsInOrder (system_of as_nodes words scenario) rows (client_actor asks.client) event → FindsCalm chart (births as_nodes scenario) rows (cseat asks) event
    client_finds (Deliver number) fine = client_takes number fine
    client_finds Go fine = subst (MayGoNow chart) (sym c.fact) (goes set chart asks c.client (subst (λ b. IsCalmClient set asks b c.client) fine c.calm) (near asks c.client a c.fact fine))
    client_finds _ fine = absurd fine

  finds : (seat : Seat Player) (event : Event OrderLine) → find (λ (other : Seat Player). eqb other.who seat.who) (births as_nodes scenario) ≡ Some seat → IsInOrder (system_of as_nodes words scenario) rows seat.who event
      → FindsCalm chart (births as_nodes scenario) rows seat event
  finds seat event born fine =
      let o : IsOrderly (system_of as_nodes words scenario) rows (row_of player_table seat rows event) = record { seat = seat; born = born; event = event; row_is = refl; in_order = fine } in
      elim (of_player words scenario begins rows (row_of player_table seat rows event) o) [
        | inl p ↦ (
            let there = subst (λ (s : Seat Player). find (λ (other : Seat Player). eqb other.who s.who) (births as_nodes scenario) ≡ Some s) p.seat_is born in
            subst (λ (s : Seat Player). FindsCalm chart (births as_nodes scenario) rows s event) (sym p.seat_is)
            (node_finds p.me p.one p.most there event (subst (λ (s : Seat Player). IsInOrder (system_of as_nodes words scenario) rows s.who event) p.seat_is fine)))
        | inr p ↦ (
            let there = subst (λ (s : Seat Player). find (λ (other : Seat Player). eqb other.who s.who) (births as_nodes scenario) ≡ Some s) p.seat_is born in
            subst (λ (s : Seat Player). FindsCalm chart (births as_nodes scenario) rows s event) (sym p.seat_is)
            (client_finds p.asks p.is_asks there event (subst (λ (s : Seat Player). IsInOrder (system_of as_nodes words scenario) rows s.who event) p.seat_is fine)))
      ]

module _ (all_bounded : ValidScenariosAreBounded) (heard : AnswersAreHeardCalmly) (goes : ClientsGoCalmly) (expected : AnswersAreExpected) (asked : LinesAskLeaders) where
  pub request_rows : RequestRowsFindCalm
  request_rows words scenario set chart first others before after seat event valid groups fact linked seated reached counts may requests j t room pumps near born fine =
      let begins = stage scenario (all_bounded scenario valid) in
      let same : first ≡ begins.first = (let e : first ∷ others ≡ begins.first ∷ begins.others = sym groups ∙ begins.groups_are in cc) in
      let leads = asked words scenario set first others before after valid groups fact linked seated may.asking may.waits may.knows requests may.once in
      finds heard goes words scenario begins set fact linked (before ++ after) t (subst (λ (f : Base). IsAsking words scenario set f (before ++ after)) same j) room chart reached counts pumps
      (subst (λ (f : Base). AreNear scenario chart f (before ++ after)) same near) (subst (λ (f : Base). AllAskLeaders scenario set f (before ++ after)) same leads)
      (λ asks client number mail a is_client kth_is sent. expected words scenario set first others before after asks client number mail valid groups fact linked seated may.asking may.waits requests (may.once asks a) a t
      (ap (λ (f : Base). value player_table (client_seat (route_of f) asks) (before ++ after)) same ∙ is_client) kth_is sent)
      seat event born fine
