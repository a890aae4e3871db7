-- One row of a journal: who acts, and what it leaves as it is.
use Rattle.std.proofs.Common.{◌≡◌, ℕ, zero, suc, ◌+◌, ◌<◌, ◌≤◌, eqb, leb, ◌&&◌, ◌||◌, true, false, cond, List, [], ◌∷◌, ◌++◌, map, Some, ◌⊎◌, inl, inr, sym, ◌∙◌, ap, subst, arith, sum_by}
use Rattle.std.specs.Prelude.{slice_get}
use Rattle.std.proofs.Math.Bool.{or-false}
use Rattle.std.proofs.lemmas.Bool.{cases_eq, cases_lt, ne_eqb, and_from, both_ways, le-leb, lt-leb, and_right}
use Rattle.std.proofs.lemmas.List.Folds.{list_any-append}
use Rattle.std.proofs.lemmas.List.Sums.{sum_by-cons}
use Rattle.sc_base.specs.Definitions.{Among, Each, client_actor, most_nodes}
use Rattle.sc_node_table.specs.Values.{Base, OrderLine, Mail, Seat, Row}
use Rattle.sc_actor.specs.Definitions.{mails, numbered, value, acted, input_of, System, has_started, is_go}
use Rattle.sc_actor.proofs.Lemmas.{value-snoc}
use Rattle.sc_words.proofs.PaxosProofs.PaxosLemmas.{find_found}
use Rattle.sc_node_table.specs.NodeDefinitions.{is_node, numbers_from}
use Rattle.sc_scenario.specs.declared.scenario.scenarios.Asks.{Asks}
use Rattle.sc_scenario.specs.declared.scenario.scenarios.Scenario.{Scenario}
use Rattle.sc_meaning.specs.sound.SoundDefinitions.{Player, player_table, node_seat, client_seat, route_of, births, system_of, as_nodes}
use Rattle.sc_live_orderly.specs.OrderlyDefinitions.{IsOrderly}
use Rattle.sc_paxos_law.proofs.Lemmas.{Among-either, Among-left, from_map}
use Rattle.sc_live_plain.specs.PlainDefinitions.{begun_of, IsBegun}
use Rattle.sc_live_plain.proofs.PlainProofs.MorePlainRequests.{IsMore}
use Rattle.sc_live_plain.proofs.PlainProofs.PlainBeginnings.{IsStage}
use Rattle.sc_live_plain.proofs.PlainRowsProofs.RowViews.{Journal}
use Rattle.sc_live_plain.proofs.PlainRowsProofs.Lists.{map_among}
pub use Rattle.sc_law_groups.proofs.GroupProofs.RowSteps.{among_numbers as in_numbers}

-- ---- lists

pub to_numbers : (from count n : ℕ) → from ≤ n → n < from + count → Among n (numbers_from from count)
to_numbers from zero n low high = absurd (omega (arith, low, high))
to_numbers from (suc count) n low high = elim (cases_eq from n) [
  | inl fact ↦ inl fact
  | inr ne ↦ inr (to_numbers (from + 1) count n (elim (cases_lt from n) [ inl lt ↦ omega (arith, lt) | inr ge ↦ absurd (ne (omega (arith, low, ge))) ]) (omega (arith, high)))
]

-- one of a list owes no more than all
pub one_of_sum : {X : Type 0} (f : X → ℕ) (xs : List X) (x : X) → Among x xs → f x ≤ sum_by f xs
one_of_sum f [] x a = absurd a
one_of_sum f (y ∷ xs) x (inl same) = (let s = sum_by-cons f y xs in let e = ap f same in omega (arith, s, e))
one_of_sum f (y ∷ xs) x (inr a) = (let s = sum_by-cons f y xs in let more = one_of_sum f xs x a in omega (arith, s, more))

pub each_numbered : (P : Mail → Type 0) (sent : List Mail) (number : ℕ) (mail : Mail) → Each P sent → numbered sent number ≡ Some mail → P mail
each_numbered P sent zero mail all e = cc
each_numbered P sent (suc place) mail all e = at sent place all e
  where
    at : (sent : List Mail) (place : ℕ) → Each P sent → slice_get sent place ≡ Some mail → P mail
    at [] place all e = cc
    at (m ∷ sent) zero all e = (let same : m ≡ mail = cc in subst P same all.0)
    at (m ∷ sent) (suc place) all e = at sent place all.1 e

-- a client is known by its number
pub same_client : (scenario : Scenario) (stage : IsStage scenario) (asks other : Asks) → Among asks scenario.clients → Among other scenario.clients → client_actor other.client ≡ client_actor asks.client → other ≡ asks
same_client scenario stage asks other a b e = stage.once other asks b a (omega (arith, e))

-- the number of a node that there is
pub node_in : (nodes me : ℕ) → nodes ≤ most_nodes → 1 ≤ me → me ≤ nodes → is_node me ≡ true
node_in nodes me all one most = and_from (leb 1 me) (leb me most_nodes) (le-leb 1 me one) (le-leb me most_nodes (omega (arith, most, all)))

module _ (words : ℕ → ℕ → ℕ × ℕ) (scenario : Scenario) (stage : IsStage scenario) where
  abbrev nseat : ℕ → Seat Player
  nseat me = node_seat as_nodes scenario.groups scenario.policy me

  abbrev cseat : Asks → Seat Player
  cseat asks = client_seat (route_of stage.first) asks

  abbrev sys : System Player Mail OrderLine
  sys = system_of as_nodes words scenario

  -- a node that there is has its seat
  pub node_born : (me : ℕ) → 1 ≤ me → me ≤ scenario.nodes → Among (nseat me) (births as_nodes scenario)
  node_born me one most =
      subst (Among (nseat me)) (sym stage.seats)
      (Among-left (nseat me) (map nseat (numbers_from 1 scenario.nodes)) (map cseat scenario.clients) (map_among nseat (numbers_from 1 scenario.nodes) me (to_numbers 1 scenario.nodes me one (omega (arith, most)))))

  pub node_number : (me : ℕ) → 1 ≤ me → me ≤ scenario.nodes → is_node me ≡ true
  node_number me = node_in scenario.nodes me stage.nodes

  -- a client's number is that of no node
  pub client_number : (asks : Asks) → Among asks scenario.clients → is_node (client_actor asks.client) ≡ false
  client_number asks a = (let one = stage.numbered asks a in and_right (leb 1 (client_actor asks.client)) (leb (client_actor asks.client) most_nodes) (lt-leb (client_actor asks.client) most_nodes (omega (arith, one))))

  -- ---- what a row leaves as it is

  module _ (rows : Journal) (row : Row Mail OrderLine) where
    pub value_others : (seat : Seat Player) → (seat.who ≡ row.who → ⊥) → value player_table seat (rows ++ row ∷ []) ≡ value player_table seat rows
    value_others seat ne =
        value-snoc player_table seat rows row
        ∙ ap (λ b. cond b (acted player_table (value player_table seat rows) (input_of (mails rows) row.event)).0 (value player_table seat rows)) (ne_eqb row.who seat.who (λ e. ne (sym e)))

    pub gone_others : (who : ℕ) → (who ≡ row.who → ⊥) → has_started (rows ++ row ∷ []) who ≡ has_started rows who
    gone_others who ne =
        list_any-append (λ (r : Row Mail OrderLine). eqb r.who who && is_go r.event) rows (row ∷ [])
        ∙ (ap (λ b. has_started rows who || ((b && is_go row.event) || false)) (ne_eqb row.who who (λ e. ne (sym e))) ∙ or-false (has_started rows who))

    -- a row that is no Go leaves who has gone
    pub started_still : (who : ℕ) → is_go row.event ≡ false → has_started (rows ++ row ∷ []) who ≡ has_started rows who
    started_still who none =
        list_any-append (λ (r : Row Mail OrderLine). eqb r.who who && is_go r.event) rows (row ∷ [])
        ∙ (ap (λ b. has_started rows who || (b || false)) (and_right (eqb row.who who) (is_go row.event) none) ∙ or-false (has_started rows who))

    -- where no client has fewer begun, whatever was begun is begun
    pub begun_more : ((asks : Asks) → Among asks scenario.clients → begun_of (value player_table (cseat asks) rows) ≤ begun_of (value player_table (cseat asks) (rows ++ row ∷ []))) → IsMore (IsBegun scenario rows) (IsBegun scenario (rows ++ row ∷ []))
    begun_more grows client seq op b =
        let first : b.first ≡ stage.first = (let e : b.first ∷ b.others ≡ stage.first ∷ stage.others = sym b.groups_are ∙ stage.groups_are in cc) in
        let low = b.low in
        let up = grows b.asks b.is_asks in
        let was = ap (λ (f : Base). begun_of (value player_table (client_seat (route_of f) b.asks) rows)) first in
        let now = ap (λ (f : Base). begun_of (value player_table (client_seat (route_of f) b.asks) (rows ++ row ∷ []))) first in
        record { first = b.first; others = b.others; groups_are = b.groups_are; asks = b.asks; is_asks = b.is_asks; client_is = b.client_is; from_one = b.from_one; op_is = b.op_is; low = omega (arith, low, up, was, now) }

    -- where no client acts, the same requests are begun
    pub begun_still : ((asks : Asks) → Among asks scenario.clients → client_actor asks.client ≡ row.who → ⊥) → IsMore (IsBegun scenario rows) (IsBegun scenario (rows ++ row ∷ []))
    begun_still away = begun_more (λ asks a. (let same = ap begun_of (value_others (cseat asks) (away asks a)) in omega (arith, same)))

  -- ---- who acts

  -- a row that comes in order is one of a node
  pub record OfNode (rows : Journal) (row : Row Mail OrderLine) (o : IsOrderly (system_of as_nodes words scenario) rows row) : Type 0 where
    pub me : ℕ
    pub one : 1 ≤ me
    pub most : me ≤ scenario.nodes
    pub seat_is : o.seat ≡ node_seat as_nodes scenario.groups scenario.policy me

  -- a row of a client
  pub record OfClient (rows : Journal) (row : Row Mail OrderLine) (o : IsOrderly (system_of as_nodes words scenario) rows row) : Type 0 where
    pub asks : Asks
    pub is_asks : Among asks scenario.clients
    pub seat_is : o.seat ≡ client_seat (route_of stage.first) asks

  pub of_player : (rows : Journal) (row : Row Mail OrderLine) (o : IsOrderly (system_of as_nodes words scenario) rows row) → OfNode rows row o ⊎ OfClient rows row o
  of_player rows row o =
      let found = find_found (λ (other : Seat Player). eqb other.who o.seat.who) (births as_nodes scenario) o.seat o.born in
      let there = subst (Among o.seat) stage.seats found.0 in
      elim (Among-either o.seat (map nseat (numbers_from 1 scenario.nodes)) (map cseat scenario.clients) there) [
        | inl a ↦ (let from = from_map nseat (numbers_from 1 scenario.nodes) o.seat a in
            let bounds = in_numbers 1 scenario.nodes from.0 from.1 in
            let low = bounds.0 in
            let high = bounds.1 in
            inl (record { me = from.0; one = low; most = omega (arith, high); seat_is = sym from.2 }))
        | inr a ↦ (let from = from_map cseat scenario.clients o.seat a in inr (record { asks = from.0; is_asks = from.1; seat_is = sym from.2 }))
      ]

-- a node is no client
pub node_away : (words : ℕ → ℕ → ℕ × ℕ) (scenario : Scenario) (stage : IsStage scenario) (asks : Asks) → is_node (client_actor asks.client) ≡ false → (node : ℕ) → 1 ≤ node → node ≤ scenario.nodes → node ≡ client_actor asks.client → ⊥
node_away words scenario stage asks no_node node one most e = both_ways (is_node (client_actor asks.client)) no_node (ap is_node (sym e) ∙ node_number words scenario stage node one most)

-- nor is a client a node
pub client_away : (words : ℕ → ℕ → ℕ × ℕ) (scenario : Scenario) (stage : IsStage scenario) (me : ℕ) → is_node me ≡ true → (asks : Asks) → Among asks scenario.clients → client_actor asks.client ≡ me → ⊥
client_away words scenario stage me node asks a e = both_ways (is_node me) (ap is_node (sym e) ∙ client_number words scenario stage asks a) node
