-- By a chart that follows another no more is owed.
use Rattle.std.proofs.Common.{◌≡◌, ℕ, ◌≤◌, true, cond, List, [], ◌∷◌, sum_by, ap, arith}
use Rattle.std.proofs.lemmas.List.Sums.{sum_by-cons, sum_by-append}
use Rattle.sc_base.specs.Definitions.{Each}
use Rattle.sc_node_table.specs.Values.{Draw, Node, Client, Seat}
use Rattle.sc_actor.specs.Definitions.{value}
use Rattle.sc_live_orderly.specs.OrderlyDefinitions.{under_way}
use Rattle.sc_meaning.specs.sound.SoundDefinitions.{Player, player_table}
use Rattle.sc_live_steps.specs.calm.CalmDefinitions.{players, Chart, player_owes, SeeksNoMore, ChartsMayChange, node_owes, mail_owes, election, Rows, is_led, group_idles}

each_less : {X : Type 0} (f g : X → ℕ) (xs : List X) → Each (λ x. f x ≤ g x) xs → sum_by f xs ≤ sum_by g xs
each_less f g [] each = omega arith
each_less f g (x ∷ xs) each =
    let more = each_less f g xs each.1 in
    let one = each.0 in
    let a = sum_by-cons f x xs in
    let b = sum_by-cons g x xs in
    omega (arith, more, one, a, b)

module _ (old new : Chart) (most : new.ways.most ≡ old.ways.most) where
  player_less : (player : Player) → SeeksNoMore old new player → player_owes new player ≤ player_owes old player
  player_less (Node node) seeks = let same = ap (λ far. node_owes far node) most in omega (arith, same)
  player_less (Client client) seeks = seeks

  players_less : (rows : Rows) (seats : List (Seat Player)) → Each (λ seat. SeeksNoMore old new (value player_table seat rows)) seats
      → sum_by (λ (seat : Seat Player). player_owes new (value player_table seat rows)) seats ≤ sum_by (λ (seat : Seat Player). player_owes old (value player_table seat rows)) seats
  players_less rows [] each = omega arith
  players_less rows (seat ∷ seats) each =
      let more = players_less rows seats each.1 in
      let one = player_less (value player_table seat rows) each.0 in
      let a = sum_by-cons (λ (other : Seat Player). player_owes new (value player_table other rows)) seat seats in
      let b = sum_by-cons (λ (other : Seat Player). player_owes old (value player_table other rows)) seat seats in
      omega (arith, more, one, a, b)

-- groups that are led owe nothing
pub led_idle : (births : List (Seat Player)) (rows : Rows) (groups : List Draw) → Each (λ group. is_led births rows group ≡ true) groups → sum_by (group_idles births rows) groups ≡ 0
led_idle births rows [] each = omega arith
led_idle births rows (group ∷ groups) each =
    let more = led_idle births rows groups each.1 in
    let one = ap (λ b. cond b 0 election) each.0 in
    let s = sum_by-cons (group_idles births rows) group groups in
    omega (arith, more, one, s)

-- What is owed may be counted by another chart after a row: where no mail under way and no client owes more by it, and the groups that come into it are led, all owe no more by it.
pub charts_may_change : ChartsMayChange
charts_may_change words births rows old new fact =
    let clients = players_less old new fact.most rows births fact.clients in
    let mail = each_less (mail_owes new.ways) (mail_owes old.ways) (under_way (players words births) rows) fact.mail in
    let groups = ap (sum_by (group_idles births rows)) fact.groups in
    let split = sum_by-append (group_idles births rows) old.groups fact.more in
    let none = led_idle births rows fact.more fact.led in
    omega (arith, clients, mail, groups, split, none)
