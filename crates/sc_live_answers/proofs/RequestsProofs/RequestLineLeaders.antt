-- In a line of requests clients ask leaders.
use Rattle.std.proofs.Common.{◌≡◌, ℕ, ◌≤◌, eqb, [], ◌∷◌, ◌++◌, find, Some, None, inl, inr, refl, sym, ◌∙◌, ap, subst, arith, append-nil}
use Rattle.std.proofs.lemmas.Bool.{cases_eq, both_ways}
use Rattle.sc_base.specs.Definitions.{Among, client_actor}
use Rattle.sc_node_table.specs.Values.{Draw, Base, OrderLine, Mail, Client, Seat, Event, Deliver, Tick, Go, Got, Row}
use Rattle.sc_client_table.specs.declared.lookup.ways.Way.{Way}
use Rattle.sc_actor.specs.declared.rows.Input.TheVariants.{Go as GoInput}
use Rattle.sc_actor.specs.Definitions.{value, System, row_of, has_started}
use Rattle.sc_client_table.specs.table.TableDefinitions.{Client as ClientState, table}
use Rattle.sc_node_table.specs.NodeDefinitions.{is_node}
use Rattle.sc_scenario.specs.declared.scenario.scenarios.Asks.{Asks}
use Rattle.sc_scenario.specs.declared.scenario.scenarios.Scenario.{Scenario}
use Rattle.sc_scenario.specs.scenario.Definitions.{ValidScenariosAreBounded}
use Rattle.sc_meaning.specs.sound.SoundDefinitions.{Player, player_table, node_seat, client_seat, route_of, births, system_of, as_nodes}
use Rattle.sc_live_orderly.specs.OrderlyDefinitions.{IsTidy, IsOrderly, IsInOrder, owed}
use Rattle.sc_live_plain.proofs.PlainProofs.BegunRequestCounts.{begun_right}
use Rattle.sc_live_plain.specs.PlainDefinitions.{IsAsking, AreFarFromLast, AreRequests, AreSeated, NobodyWaits, IsLinkedSetting, Setting, IsSetting}
use Rattle.sc_live_plain.proofs.CalmProofs.RequestPhaseClients as clients_of
use Rattle.sc_live_plain.proofs.PlainLemmas.{AreSought, IsStage, stage, node_number, client_number, value_others, Journal, of_player, client_is}
use Rattle.sc_live_answers.specs.AnswerDefinitions.{AsksLeaders, AllAskLeaders, KnowOne, LinesAskLeaders, token_owing}
use Rattle.sc_live_answers.proofs.RequestsProofs.AskedLeaders.{ask_leaders}
use Rattle.sc_live_answers.proofs.RequestsProofs.RequestLineClients.{line_keeps, fresh_row}
use Rattle.sc_live_answers.proofs.LinesProofs.JournalTokens.{falls}
use Rattle.sc_live_answers.proofs.LinesProofs.SingleTokens.{first_is, sought_on}

module _ (words : ℕ → ℕ → ℕ × ℕ) (scenario : Scenario) (begins : IsStage scenario) (set : Setting) (fact : IsSetting set) (linked : IsLinkedSetting set) (seated : AreSeated scenario set) where
  abbrev sys : System Player Mail OrderLine
  sys = system_of as_nodes words scenario

  abbrev nseat : ℕ → Seat Player
  nseat me = node_seat as_nodes scenario.groups scenario.policy me

  abbrev cseat : Asks → Seat Player
  cseat asks = client_seat (route_of begins.first) asks

  abbrev One : Asks → ClientState → Type 0
  One asks client = (entry : Draw × Way) × (client.known ≡ entry ∷ [])

  -- what holds after each row
  record Holds (rows : Journal) : Type 0 where
    sought : AreSought words scenario begins set fact linked rows
    few : (asks : Asks) → Among asks scenario.clients → owed (system_of as_nodes words scenario) (token_owing asks.client) rows ≤ 1
    fresh : KnowOne scenario begins.first rows
    leads : AllAskLeaders scenario set begins.first rows

  module _ (rows : Journal) (t : IsTidy rows) (j : IsAsking words scenario set begins.first rows) (room : AreFarFromLast scenario set rows) (h : Holds rows) where
    others_lead : (row : Row Mail OrderLine) (asks : Asks) (client : ClientState) → Among asks scenario.clients → (client_actor asks.client ≡ row.who → ⊥) → value player_table (client_seat (route_of begins.first) asks) (rows ++ row ∷ []) ≡ Client client → AsksLeaders set client
    others_lead row asks client a ne v = h.leads asks client a (sym (value_others words scenario begins rows row (cseat asks) ne) ∙ v)

    module _ (asks : Asks) (a : Among asks scenario.clients) (born : find (λ (other : Seat Player). eqb other.who (client_actor asks.client)) (births as_nodes scenario) ≡ Some (client_seat (route_of begins.first) asks)) where
      own_leads : (event : Event OrderLine) → IsInOrder (system_of as_nodes words scenario) rows (client_actor asks.client) event → (client : ClientState)
          → value player_table (client_seat (route_of begins.first) asks) (rows ++ row_of player_table (client_seat (route_of begins.first) asks) rows event ∷ []) ≡ Client client → AsksLeaders set client
      own_leads (Deliver number) fine client v =
          let c = clients_of.c words scenario begins set fact linked rows t j asks a born in
          let first = clients_of.first words scenario begins set fact linked rows t j asks a born number fine in
          let step = table c.client (Got first.mail) in
          let became = clients_of.became words scenario begins set fact linked rows t j asks a born (Deliver number) fine step (clients_of.got_is words scenario begins set fact linked rows t j asks a born number fine) (clients_of.got_more words scenario begins set fact linked rows t j asks a born number fine) in
          let answer = first_is words scenario begins set fact linked seated rows t j h.sought asks a (h.few asks a) number fine c.client c.fact first.mail first.sent in
          subst (AsksLeaders set) (client_is (sym became ∙ v))
          (ask_leaders.takes scenario rows set asks (has_started rows (client_actor asks.client)) c.client first.mail fact linked c.calm (clients_of.is_calm words scenario begins set fact linked rows t j asks a born number fine) (first.receiver ∙ ap client_actor (sym c.calm.me_is))
          (begun_right scenario rows begins.once asks a c.client c.calm.me_is c.calm.requests_are) (h.leads asks c.client a c.fact) answer)
      own_leads Go fine client v =
          let c = clients_of.c words scenario begins set fact linked rows t j asks a born in
          let step = table c.client GoInput in
          let became = clients_of.became words scenario begins set fact linked rows t j asks a born Go fine step (clients_of.go_is words scenario begins set fact linked rows t j asks a born fine) (clients_of.go_more words scenario begins set fact linked rows t j asks a born fine) in
          let one = h.fresh asks c.client a fine c.fact in
          subst (AsksLeaders set) (client_is (sym became ∙ v)) (ask_leaders.go set asks c.client one.0 (clients_of.fresh words scenario begins set fact linked rows t j asks a born fine) one.1)
      own_leads Tick fine client v = absurd fine
      own_leads _ fine client v = absurd fine

    leads_row : (row : Row Mail OrderLine) → IsOrderly (system_of as_nodes words scenario) rows row → AllAskLeaders scenario set begins.first (rows ++ row ∷ [])
    leads_row row o = elim (of_player words scenario begins rows row o) [
      | inl n ↦ (
          let row_is : row ≡ row_of player_table (nseat n.me) rows o.event = o.row_is ∙ ap (λ (seat : Seat Player). row_of player_table seat rows o.event) n.seat_is in
          λ asks client a v. others_lead row asks client a (λ e. both_ways (is_node (client_actor asks.client)) (client_number words scenario begins asks a)
          (ap is_node (e ∙ ap (λ (r : Row Mail OrderLine). r.who) row_is) ∙ node_number words scenario begins n.me n.one n.most)) v)
      | inr d ↦ (
          let row_is : row ≡ row_of player_table (cseat d.asks) rows o.event = o.row_is ∙ ap (λ (seat : Seat Player). row_of player_table seat rows o.event) d.seat_is in
          let born = subst (λ (seat : Seat Player). find (λ (other : Seat Player). eqb other.who seat.who) (births as_nodes scenario) ≡ Some seat) d.seat_is o.born in
          let fine = subst (λ (seat : Seat Player). IsInOrder sys rows seat.who o.event) d.seat_is o.in_order in
          λ asks client a v. elim (cases_eq (client_actor asks.client) (client_actor d.asks.client)) [
            | inl here ↦ (
                let same : asks ≡ d.asks = begins.once asks d.asks a d.is_asks (omega (arith, here)) in
                own_leads d.asks d.is_asks born o.event fine client
                (ap (λ (r : Row Mail OrderLine). value player_table (cseat d.asks) (rows ++ r ∷ [])) (sym row_is) ∙ (ap (λ (x : Asks). value player_table (cseat x) (rows ++ row ∷ [])) (sym same) ∙ v)))
            | inr ne ↦ others_lead row asks client a (λ e. ne (e ∙ ap (λ (r : Row Mail OrderLine). r.who) row_is)) v
          ])
    ]

    holds_row : (row : Row Mail OrderLine) → IsOrderly (system_of as_nodes words scenario) rows row → Holds (rows ++ row ∷ [])
    holds_row row o = record {
      sought = sought_on words scenario begins set fact linked seated rows t j room row o h.sought;
      few = λ asks a. (let le = h.few asks a in let fall = falls asks.client words scenario begins set fact linked rows t j room row o in omega (arith, le, fall));
      fresh = fresh_row words scenario begins set fact linked seated rows t j room One row o h.fresh;
      leads = leads_row row o;
    }

  pub line_asks : (before after : Journal) → AreRequests words scenario set before after → IsAsking words scenario set begins.first before → NobodyWaits scenario begins.first before → KnowOne scenario begins.first before
      → ((asks : Asks) → Among asks scenario.clients → owed (system_of as_nodes words scenario) (token_owing asks.client) before ≤ 1) → AllAskLeaders scenario set begins.first (before ++ after)
  line_asks before after requests j still fresh few =
      let start : Holds before = record {
        sought = λ asks client a e w. (let bad : None ≡ Some w.seq = sym (still asks client a e) ∙ w.waits in cc);
        few = few;
        fresh = fresh;
        leads = λ asks client a e w. (let bad : None ≡ Some w.seq = sym (still asks client a e) ∙ w.waits in cc);
      } in
      (line_keeps words scenario begins set fact linked Holds (λ rows t k room row o h. holds_row rows t k room h row o) before after requests [] after refl
      (subst (λ (l : Journal). IsAsking words scenario set begins.first l × Holds l) (sym (append-nil before)) (j, start))).1.leads

pub lines_lead : ValidScenariosAreBounded → LinesAskLeaders
lines_lead all_bounded words scenario set first others before after valid groups fact linked seated j still fresh requests few =
    let begins = stage scenario (all_bounded scenario valid) in
    let same : first ≡ begins.first = (let e : first ∷ others ≡ begins.first ∷ begins.others = sym groups ∙ begins.groups_are in cc) in
    subst (λ (f : Base). AllAskLeaders scenario set f (before ++ after)) (sym same)
    (line_asks words scenario begins set fact linked seated before after requests (subst (λ (f : Base). IsAsking words scenario set f before) same j) (subst (λ (f : Base). NobodyWaits scenario f before) same still)
    (subst (λ (f : Base). KnowOne scenario f before) same fresh) few)
