-- What holds in the turn of a client that asks alone is kept by all its deliveries.
use Rattle.std.proofs.Common.{◌≡◌, ℕ, true, false, [], ◌∷◌, ◌++◌, inl, inr, refl, sym, ◌∙◌, ap, subst, arith, append-nil, append_assoc}
use Rattle.std.specs.List.{list_any}
use Rattle.std.proofs.lemmas.Bool.{cases_eq}
use Rattle.sc_base.specs.Definitions.{client_actor}
use Rattle.sc_node_table.specs.Values.{Seat, Row, OrderLine, Got, Mail, Node, Client}
use Rattle.sc_actor.specs.Definitions.{value}
use Rattle.sc_actor.proofs.Lemmas.{lawful-prefix}
use Rattle.sc_client_table.specs.table.TableDefinitions.{Client as ClientState}
use Rattle.sc_scenario.specs.declared.scenario.scenarios.Scenario.{Scenario}
use Rattle.sc_scenario.specs.scenario.Definitions.{IsBounded}
use Rattle.sc_meaning.specs.sound.SoundDefinitions.{Player, Lawful, as_nodes, player_table, schedule, system_of, issues}
use Rattle.sc_live_orderly.specs.OrderlyDefinitions.{TakesLowest, AreDelivered}
use Rattle.sc_live_orderly.proofs.PendingMail.{takes_lowest}
use Rattle.sc_live_plain.specs.PlainDefinitions.{waiting_one}
use Rattle.sc_live_healed.specs.HealedDefinitions.{IsAskingOn}
use Rattle.sc_live_healed.proofs.FixedJournals.{Rows, IsOf, IsFixedJournal, AreWithoutOrders, untold_prefix}
use Rattle.sc_live_healed.proofs.TakenJournals.{IsTakenJournal, journal_taken}
use Rattle.sc_live_healed.proofs.FewJournals.{IsFewJournal, HasSentFew, journal_few}
use Rattle.sc_live_healed.proofs.AskingJournals.{IsAskingJournal, IsAskingPlayer, IsAskingAt, journal_asking}
use Rattle.sc_live_healed.proofs.AskingClientRows.{rests_on}
use Rattle.sc_live_healed.proofs.LoneDeliveries.{S, value_own, value_other}
use Rattle.sc_live_healed.proofs.LoneTurns.{TurnState, WaitsOn, HasAll, same_client, node_turn}
use Rattle.sc_live_healed.proofs.LoneTurnClients.{other_turn, own_turn}

module _ (words : ℕ → ℕ → ℕ × ℕ) (scenario : Scenario) (bounded : IsBounded scenario) (off : scenario.policy ≡ false) where
  -- What is known of each prefix of a lawful journal without orders.
  pub record Frames (client : ℕ) (rows : Rows) : Type 0 where
    pub asking : IsAskingJournal words scenario rows
    pub taken : IsTakenJournal scenario rows
    pub few : (bound : ℕ) → HasSentFew client bound rows → IsFewJournal client bound scenario rows

  -- a prefix of a lawful journal without orders
  pub frames_of : (client : ℕ) (rows later : Rows) → AreWithoutOrders words scenario bounded off (rows ++ later) → Lawful as_nodes words scenario (rows ++ later) → Frames client rows
  frames_of client rows later without_orders lawful =
      let law = lawful-prefix (system_of as_nodes words scenario) (schedule scenario) rows later lawful in
      let none = untold_prefix words scenario bounded off rows later without_orders in
      record { asking = journal_asking words scenario rows law; taken = journal_taken words scenario bounded off rows none law; few = λ bound few. journal_few client bound words scenario bounded off rows none few law }

  module _ (client : ℕ) (seat : Seat Player) (is_of : IsOf scenario seat) (number : seat.who ≡ client_actor client) (first : ℕ) where
    abbrev State : Rows → Type 0
    State rows = TurnState words scenario bounded off client seat is_of number first rows

    -- a client has sent no greater number than the one that it waits for
    few_sent : (rows : Rows) (asks : ClientState) (a : IsAskingOn asks) → IsAskingAt rows seat.who asks → HasSentFew client a.seq rows
    few_sent rows asks a asking seq e =
        let me_is : asks.me ≡ client = (let one = asking.number in let two = number in omega (arith, one, two)) in
        let low = asking.few seq (ap (λ n. list_any (issues n seq) rows) me_is ∙ e) in
        let replies = a.number in
        let one = ap waiting_one a.waits in
        omega (arith, low, replies, one)

    module _ (rows : Rows) (row : Row Mail OrderLine) (t : TakesLowest (S words scenario bounded) rows row) (k : Frames client rows) (fixed_then : IsFixedJournal scenario (rows ++ row ∷ [])) where
      asking_of : (asks : ClientState) → value player_table seat rows ≡ Client asks → IsAskingAt rows seat.who asks
      asking_of asks now = subst (IsAskingPlayer rows seat.who) now (k.asking.players seat is_of)

      pub delivered : State rows → State (rows ++ row ∷ [])
      delivered (HasAll asks now r) = elim (cases_eq t.seat.who seat.who) [
        | inl same ↦ HasAll asks (value_own words scenario bounded rows row t seat same ∙ ap (λ (p : Player). (player_table p (Got t.mail)).0) now ∙ ap (λ x. Client x.0) (rests_on true asks r t.mail)) r
        | inr apart ↦ HasAll asks (value_other words scenario bounded rows row t seat apart ∙ now) r
      ]
      delivered (WaitsOn asks now a h) = by (value player_table t.seat rows) refl
        where
          by : (p : Player) → value player_table t.seat rows ≡ p → State (rows ++ row ∷ [])
          by (Node node) here =
              WaitsOn asks (same_client words scenario bounded off client seat is_of number first rows row t k.taken node here asks now) a
              (node_turn words scenario bounded off client seat is_of number first rows row t k.taken node here asks now a.seq a.group a.target (k.few a.seq (few_sent rows asks a (asking_of asks now))) h)
          by (Client there) here = elim (cases_eq t.seat.who seat.who) [
            | inl same ↦ own_turn words scenario bounded off client seat is_of number first rows row t k.taken.fixed there here same asks now a (asking_of asks now) fixed_then (k.few a.seq (few_sent rows asks a (asking_of asks now))) h
            | inr apart ↦ WaitsOn asks (value_other words scenario bounded rows row t seat apart ∙ now) a (other_turn words scenario bounded off client seat is_of number first rows row t k.taken.fixed there here apart a.seq a.group a.target h)
          ]

    -- all deliveries of a line
    pub all_delivered : (rows deliveries : Rows) → ((some later : Rows) → deliveries ≡ some ++ later → Frames client (rows ++ some)) → AreDelivered (S words scenario bounded) rows deliveries → State rows → State (rows ++ deliveries)
    all_delivered rows [] frames d state = subst State (sym (append-nil rows)) state
    all_delivered rows (row ∷ more) frames d state =
        let k = subst (Frames client) (append-nil rows) (frames [] (row ∷ more) refl) in
        let then_ = frames (row ∷ []) more refl in
        let now = delivered rows row (takes_lowest (S words scenario bounded) rows row d.0) k then_.taken.fixed state in
        subst State (append_assoc rows (row ∷ []) more)
        (all_delivered (rows ++ row ∷ []) more (λ some later e. subst (Frames client) (sym (append_assoc rows (row ∷ []) some)) (frames (row ∷ some) later (ap (λ (rs : Rows). row ∷ rs) e))) d.1 now)
