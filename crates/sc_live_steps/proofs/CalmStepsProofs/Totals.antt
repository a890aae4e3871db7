-- What all players and groups owe: a row changes it as it changes one player among the others.
use Rattle.std.proofs.Common.{◌≡◌, ℕ, ◌+◌, eqb, eq-eqb, ◌&&◌, ◌||◌, not, Bool, true, false, true≢false, cond, List, [], ◌∷◌, ◌++◌, sum_by, find, Option, Some, None, refl, sym, ◌∙◌, ap, arith}
use Rattle.std.specs.Prelude.{is_some}
use Rattle.std.specs.List.{list_any}
use Rattle.std.proofs.lemmas.Bool.{eqb-true, and_parts, or_parts, not-true}
use Rattle.std.proofs.lemmas.List.Sums.{sum_by-cons}
use Rattle.sc_node_table.specs.Values.{Draw, Route, OrderLine, Node, Seat, Event}
use Rattle.sc_actor.specs.Definitions.{mails, value, acted, input_of, are_apart, row_of}
use Rattle.sc_actor.proofs.Lemmas.{value-snoc}
use Rattle.sc_node_table.specs.NodeDefinitions.{NodeState, replica_of, ReplicaState}
use Rattle.sc_live_orderly.proofs.OrderlyLemmas.{one_changes}
use Rattle.sc_meaning.specs.sound.SoundDefinitions.{Player, player_table}
use Rattle.sc_live_steps.specs.calm.CalmDefinitions.{idle_owes, election, idle_with, Elsewhere, groups_owe, Rows, is_leading, leads, is_led, led_elsewhere, group_idles, players_owe}

-- ---- any of some seats, of which one stands apart

flip : (a b : ℕ) → eqb a b ≡ false → eqb b a ≡ false
flip a b e = by (eqb b a) refl
  where
    by : (x : Bool) → eqb b a ≡ x → eqb b a ≡ false
    by false e' = e'
    by true e' = absurd (true≢false (sym (eq-eqb a b (sym (eqb-true b a e'))) ∙ e))

any_same : {X : Type 0} (p q : X → Bool) → ((x : X) → p x ≡ q x) → (xs : List X) → list_any p xs ≡ list_any q xs
any_same p q agree [] = refl
any_same p q agree (x ∷ xs) = ap (λ b. b || list_any p xs) (agree x) ∙ ap (λ b. q x || b) (any_same p q agree xs)

or_swap : (a b : Bool) → (a || b) ≡ (b || a)
or_swap true true = refl
or_swap true false = refl
or_swap false true = refl
or_swap false false = refl

pub or_assoc : (a b c : Bool) → (a || (b || c)) ≡ ((a || b) || c)
or_assoc true b c = refl
or_assoc false b c = refl

module _ {A : Type 0} (p : Seat A → Bool) (who : ℕ) where
  abbrev other_one : Seat A → Bool
  other_one seat = not (eqb seat.who who) && p seat

  -- where none has this number
  none_apart : (seats : List (Seat A)) → list_any (λ other. eqb other.who who) seats ≡ false → list_any other_one seats ≡ list_any p seats
  none_apart [] e = refl
  none_apart (seat ∷ seats) e =
      let parts = or_parts (eqb seat.who who) (list_any (λ other. eqb other.who who) seats) e in
      ap (λ b. (not b && p seat) || list_any other_one seats) parts.0 ∙ ap (λ b. p seat || b) (none_apart seats parts.1)

  pub any_split : (seats : List (Seat A)) (seat : Seat A) → are_apart seats ≡ true → find (λ other. eqb other.who who) seats ≡ Some seat → list_any p seats ≡ (list_any other_one seats || p seat)
  any_split [] seat apart e = cc
  any_split (x ∷ seats) seat apart e = by (eqb x.who who) refl e (any_split seats seat)
    where
      both : (not (list_any (λ other. eqb other.who x.who) seats) ≡ true) × (are_apart seats ≡ true)
      both = and_parts (not (list_any (λ other. eqb other.who x.who) seats)) (are_apart seats) apart

      by : (b : Bool) → eqb x.who who ≡ b → cond b (Some x) (find (λ other. eqb other.who who) seats) ≡ Some seat
          → (are_apart seats ≡ true → find (λ other. eqb other.who who) seats ≡ Some seat → list_any p seats ≡ (list_any other_one seats || p seat))
          → list_any p (x ∷ seats) ≡ (((not b && p x) || list_any other_one seats) || p seat)
      by true fact found more =
          let to : x.who ≡ who = eqb-true x.who who fact in
          let alone : list_any (λ other. eqb other.who who) seats ≡ false = ap (λ n. list_any (λ other. eqb other.who n) seats) (sym to) ∙ not-true (list_any (λ other. eqb other.who x.who) seats) both.0 in
          let same : x ≡ seat = cc in
          or_swap (p x) (list_any p seats) ∙ (ap (λ b. b || p x) (sym (none_apart seats alone)) ∙ ap (λ s. list_any other_one seats || p s) same)
      by false fact found more = ap (λ b. p x || b) (more both.1 found) ∙ or_assoc (p x) (list_any other_one seats) (p seat)

-- ---- sums

sums_same : {X : Type 0} (f g : X → ℕ) → ((x : X) → f x ≡ g x) → (xs : List X) → sum_by f xs ≡ sum_by g xs
sums_same f g same [] = refl
sums_same f g same (x ∷ xs) =
    let one = same x in
    let rest = sums_same f g same xs in
    let a = sum_by-cons f x xs in
    let b = sum_by-cons g x xs in
    omega (arith, one, rest, a, b)

-- what groups owe where one player is among others
abbrev pub idle_part : Elsewhere → List Draw → Player → ℕ
idle_part elsewhere groups player = sum_by (λ group. cond (elsewhere group || leads group player) 0 election) groups

running_idles : (b : Bool) (went : Option Route) → cond (b || is_some went) 0 election ≡ idle_owes b went
running_idles true went = refl
running_idles false None = refl
running_idles false (Some into) = refl

here_idles : (b : Bool) (here : Option ReplicaState) → cond (b || is_leading here) 0 election ≡ idle_with b here
here_idles true here = refl
here_idles false None = refl
here_idles false (Some r) = running_idles r.running r.group.core.gone

-- what groups owe by a player that is a node
pub node_idles : (elsewhere : Elsewhere) (groups : List Draw) (node : NodeState) → idle_part elsewhere groups (Node node) ≡ groups_owe groups elsewhere node
node_idles elsewhere groups node =
    sums_same (λ group. cond (elsewhere group || leads group (Node node)) 0 election) (λ group. idle_with (elsewhere group) (replica_of group node.replicas)) (λ group. here_idles (elsewhere group) (replica_of group node.replicas)) groups

module _ (births : List (Seat Player)) (apart : are_apart births ≡ true) (rows : Rows) (seat : Seat Player) (born : find (λ other. eqb other.who seat.who) births ≡ Some seat) where
  led_split : (group : Draw) → is_led births rows group ≡ (led_elsewhere births rows seat.who group || leads group (value player_table seat rows))
  led_split group = any_split (λ other. leads group (value player_table other rows)) seat.who births seat apart born

  pub groups_split : (groups : List Draw) → sum_by (group_idles births rows) groups ≡ idle_part (led_elsewhere births rows seat.who) groups (value player_table seat rows)
  groups_split groups =
      sums_same (group_idles births rows) (λ group. cond (led_elsewhere births rows seat.who group || leads group (value player_table seat rows)) 0 election) (λ group. ap (λ b. cond b 0 election) (led_split group)) groups

module _ (births : List (Seat Player)) (apart : are_apart births ≡ true) (rows : Rows) (seat : Seat Player) (event : Event OrderLine) (born : find (λ other. eqb other.who seat.who) births ≡ Some seat) where
  abbrev next_rows : Rows
  next_rows = rows ++ row_of player_table seat rows event ∷ []

  -- the others stay as they are
  stays : (other : Seat Player) → eqb seat.who other.who ≡ false → value player_table other next_rows ≡ value player_table other rows
  stays other e =
      value-snoc player_table other rows (row_of player_table seat rows event)
      ∙ ap (λ b. cond b (acted player_table (value player_table other rows) (input_of (mails rows) event)).0 (value player_table other rows)) e

  -- and this one does what its table says
  pub turns : value player_table seat next_rows ≡ (acted player_table (value player_table seat rows) (input_of (mails rows) event)).0
  turns =
      value-snoc player_table seat rows (row_of player_table seat rows event)
      ∙ ap (λ b. cond b (acted player_table (value player_table seat rows) (input_of (mails rows) event)).0 (value player_table seat rows)) (eq-eqb seat.who seat.who refl)

  elsewhere_stays : (group : Draw) → led_elsewhere births next_rows seat.who group ≡ led_elsewhere births rows seat.who group
  elsewhere_stays group =
      any_same (λ other. not (eqb other.who seat.who) && leads group (value player_table other next_rows)) (λ other. not (eqb other.who seat.who) && leads group (value player_table other rows)) (λ other. at other (eqb other.who seat.who) refl) births
    where
      at : (other : Seat Player) (b : Bool) → eqb other.who seat.who ≡ b → (not b && leads group (value player_table other next_rows)) ≡ (not b && leads group (value player_table other rows))
      at other true e = refl
      at other false e = ap (leads group) (stays other (flip other.who seat.who e))

  groups_after : (groups : List Draw) → sum_by (group_idles births next_rows) groups ≡ idle_part (led_elsewhere births rows seat.who) groups (value player_table seat next_rows)
  groups_after groups =
      groups_split births apart next_rows seat born groups
      ∙ sums_same (λ group. cond (led_elsewhere births next_rows seat.who group || leads group (value player_table seat next_rows)) 0 election) (λ group. cond (led_elsewhere births rows seat.who group || leads group (value player_table seat next_rows)) 0 election)
      (λ group. ap (λ b. cond (b || leads group (value player_table seat next_rows)) 0 election) (elsewhere_stays group)) groups

  -- what all owe changes as what this one owes does, and groups with it
  pub players_change : (owes : Player → ℕ) (groups : List Draw) →
      players_owe owes groups births next_rows + (owes (value player_table seat rows) + idle_part (led_elsewhere births rows seat.who) groups (value player_table seat rows))
      ≡ players_owe owes groups births rows + (owes (value player_table seat next_rows) + idle_part (led_elsewhere births rows seat.who) groups (value player_table seat next_rows))
  players_change owes groups =
      let sums = one_changes (λ other. owes (value player_table other rows)) (λ other. owes (value player_table other next_rows)) seat.who (λ other e. ap owes (stays other e)) births seat apart born in
      let before = groups_split births apart rows seat born groups in
      let after = groups_after groups in
      omega (arith, sums, before, after)
