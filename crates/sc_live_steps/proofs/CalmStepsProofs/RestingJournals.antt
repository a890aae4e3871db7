-- In quiet journals that rest only clients owe, and no more than at their births.
use Rattle.std.proofs.Common.{◌≡◌, ℕ, ◌+◌, ◌*◌, ◌≤◌, eqb, ltb, Bool, true, false, cond, List, [], ◌∷◌, ◌++◌, length, sum_by, Option, Some, None, refl, ◌∙◌, ap, arith}
use Rattle.std.proofs.lemmas.Bool.{ltb-true, ltb-false}
use Rattle.std.proofs.lemmas.List.Sums.{sum_by-cons}
use Rattle.sc_base.specs.Definitions.{Each}
use Rattle.sc_node_table.specs.Values.{OrderLine, Mail, Node, Client, Seat, Input}
use Rattle.sc_actor.specs.Definitions.{mails, copies, is_for, value, replay, acted, input_of, numbers_of, is_quiet}
use Rattle.sc_actor.proofs.Lemmas.{wide_none}
use Rattle.sc_live_orderly.specs.OrderlyDefinitions.{IsTidy, is_born, under_way}
use Rattle.sc_live_orderly.proofs.OrderlyLemmas.{empty_by, in_time_tidy, may-born, ends_quiet}
use Rattle.sc_node_table.specs.NodeDefinitions.{ReplicaState}
use Rattle.sc_client_table.proofs.TableProofs.TurnLemmas.{sends_in_turn}
use Rattle.sc_meaning.specs.sound.SoundDefinitions.{Player, player_table, receiver_of}
use Rattle.sc_live_steps.specs.calm.CalmDefinitions.{players, Chart, player_owes, run_owes, waiting_one, command_owes, mail_owes, flights_owe, ready_owes, replica_owes, IsAtRest, search_owes, IsResting, birth_owes, births_owe, RestingOwesLittle, KeptCalmEndsQuiet, Rows}
use Rattle.sc_live_steps.proofs.CalmStepsProofs.ChartChanges.{led_idle}
use Rattle.sc_live_steps.proofs.CalmStepsProofs.PaidRows.{kept_calm}

-- ---- mail

module _ (words : ℕ → ℕ → ℕ × ℕ) (births : List (Seat Player)) where
  pub quiet_mail : (rows : Rows) → IsTidy rows → is_quiet (players words births) rows ≡ true → under_way (players words births) rows ≡ []
  quiet_mail rows tidy quiet =
      empty_by (players words births) (λ mail. is_born (players words births) (receiver_of mail)) 1 (mails rows) (copies rows)
      (wide_none (is_for receiver_of (numbers_of births) rows None) (λ mail. is_born (players words births) (receiver_of mail)) (λ m born. may-born (players words births) rows (receiver_of m) tidy ∙ born) 1 (mails rows) (copies rows) quiet)

-- ---- nodes

rest_owes : (most : ℕ) (r : ReplicaState) → IsAtRest r → replica_owes most r ≡ 0
rest_owes most r fact =
    let acts = ap (sum_by (command_owes most)) fact.acts in
    let backlog = ap (sum_by (command_owes most)) fact.backlog in
    let flights = ap (flights_owe most) fact.flights in
    let ready = ap (ready_owes most) fact.ready in
    omega (arith, acts, backlog, flights, ready)

rests_owe : (most : ℕ) (replicas : List ReplicaState) → Each IsAtRest replicas → sum_by (replica_owes most) replicas ≡ 0
rests_owe most [] each = refl
rests_owe most (r ∷ replicas) each =
    let one = rest_owes most r each.0 in
    let more = rests_owe most replicas each.1 in
    let s = sum_by-cons (replica_owes most) r replicas in
    omega (arith, one, more, s)

-- ---- players

module _ (first chart : Chart) (most : chart.ways.most ≡ first.ways.most) (reach : chart.reach.most ≡ first.reach.most) where
  abbrev search_most : Chart → ℕ
  search_most c = c.reach.most * (2 + 2 * c.ways.most) + 2 * c.ways.most

  same_most : search_most chart ≡ search_most first
  same_most = ap (λ n. n * (2 + 2 * chart.ways.most) + 2 * chart.ways.most) reach ∙ ap (λ far. first.reach.most * (2 + 2 * far) + 2 * far) most

  less_left : (done all : ℕ) → cond (ltb done all) (search_most chart) 0 ≤ cond (ltb 0 all) (search_most first) 0
  less_left done all = by (ltb done all) refl (ltb 0 all) refl
    where
      by : (b : Bool) → ltb done all ≡ b → (c : Bool) → ltb 0 all ≡ c → cond b (search_most chart) 0 ≤ cond c (search_most first) 0
      by true e true f = let same = same_most in omega (arith, same)
      by true e false f = absurd (let less = ltb-true done all e in let none = ltb-false 0 all f in omega (arith, less, none))
      by false e c f = omega arith

  player_rests : (player : Player) → IsResting player → player_owes chart player ≤ birth_owes first player
  player_rests (Node node) fact = let none = rests_owe chart.ways.most node.replicas fact in omega (arith, none)
  player_rests (Client client) fact =
      let idle = ap waiting_one fact in
      let was = ap (search_owes chart.ways.most chart.reach client) fact in
      let left = less_left (length client.replies) (length client.requests) in
      omega (arith, idle, was, left)

-- its requests stay a client's
module _ (first : Chart) where
  turn_keeps : (player : Player) (input : Input Mail OrderLine) → birth_owes first (player_table player input).0 ≡ birth_owes first player
  turn_keeps (Node node) input = refl
  turn_keeps (Client client) input = ap (λ requests. birth_owes first (Client (record client { requests = requests }))) (sends_in_turn client input).requests

  acted_keeps : (player : Player) (o : Option (Input Mail OrderLine)) → birth_owes first (acted player_table player o).0 ≡ birth_owes first player
  acted_keeps player None = refl
  acted_keeps player (Some input) = turn_keeps player input

  replay_keeps : (who : ℕ) (player : Player) (sent : List Mail) (rows : Rows) → birth_owes first (replay player_table who player sent rows) ≡ birth_owes first player
  replay_keeps who player sent [] = refl
  replay_keeps who player sent (row ∷ rows) =
      replay_keeps who (cond (eqb row.who who) (acted player_table player (input_of sent row.event)).0 player) (sent ++ row.sent) rows ∙ by (eqb row.who who)
    where
      by : (b : Bool) → birth_owes first (cond b (acted player_table player (input_of sent row.event)).0 player) ≡ birth_owes first player
      by true = acted_keeps player (input_of sent row.event)
      by false = refl

  value_keeps : (seat : Seat Player) (rows : Rows) → birth_owes first (value player_table seat rows) ≡ birth_owes first seat.actor
  value_keeps seat rows = replay_keeps seat.who seat.actor [] rows

module _ (first chart : Chart) (most : chart.ways.most ≡ first.ways.most) (reach : chart.reach.most ≡ first.reach.most) (rows : Rows) where
  all_rest : (seats : List (Seat Player)) → Each (λ seat. IsResting (value player_table seat rows)) seats → sum_by (λ (seat : Seat Player). player_owes chart (value player_table seat rows)) seats ≤ births_owe first seats
  all_rest [] each = omega arith
  all_rest (seat ∷ seats) each =
      let more = all_rest seats each.1 in
      let one = player_rests first chart most reach (value player_table seat rows) each.0 in
      let same = value_keeps first seat rows in
      let a = sum_by-cons (λ (other : Seat Player). player_owes chart (value player_table other rows)) seat seats in
      let b = sum_by-cons (λ (other : Seat Player). birth_owes first other.actor) seat seats in
      omega (arith, more, one, same, a, b)

-- In a quiet journal that rests, no more is owed than clients owe at their births.
pub resting_owes_little : RestingOwesLittle
resting_owes_little words births first chart rows timely quiet fact =
    let rest = all_rest first chart fact.most fact.reach rows births fact.players in
    let groups = led_idle births rows chart.groups fact.led in
    let mail = ap (sum_by (mail_owes chart.ways)) (quiet_mail words births rows (in_time_tidy (players words births) rows timely) quiet) in
    omega (arith, rest, groups, mail)

-- Where rows keep calm and quiet journals rest, no line of deliveries is cut off that has room for what is owed at birth and what one order raises, if orders stand alone between such lines.
pub kept_ends_quiet : KeptCalmEndsQuiet
kept_ends_quiet words births lines charts most journal apart keep rests spaced room within lawful =
    ends_quiet (players words births) lines most (λ rows. run_owes (charts rows) (players words births) rows) (births_owe (charts []) births) (242 + 4 * (charts []).ways.most)
    (kept_calm words births lines charts most (births_owe (charts []) births) apart keep (λ rows l timely low quiet. resting_owes_little words births (charts []) (charts rows) rows timely quiet (rests rows l timely low quiet)))
    spaced within room journal lawful
