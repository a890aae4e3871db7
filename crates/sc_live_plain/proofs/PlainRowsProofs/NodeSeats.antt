-- Each node of a scenario is found by its number among the seats of its actors.
use Rattle.std.proofs.Common.{◌≡◌, ℕ, zero, suc, ◌+◌, ◌<◌, ◌≤◌, eqb, Bool, List, ◌++◌, map, find, Option, Some, sym, ◌∙◌, ap, arith}
use Rattle.std.proofs.lemmas.Bool.{cond_both, eqb-true, eq-eqb, true≢false}
use Rattle.sc_node_table.specs.Values.{Base, Seat}
use Rattle.sc_node_table.specs.NodeDefinitions.{numbers_from}
use Rattle.sc_meaning.specs.sound.SoundDefinitions.{Player, as_nodes, node_seat}

module _ (groups : List Base) (policy : Bool) where
  pub seat_in : (count from who : ℕ) (others : List (Seat Player)) → from ≤ who → who < from + count → find (λ (seat : Seat Player). eqb seat.who who) (map (node_seat as_nodes groups policy) (numbers_from from count) ++ others) ≡ Some (node_seat as_nodes groups policy who)
  seat_in zero from who others low high = absurd (omega (arith, low, high))
  seat_in (suc count) from who others low high =
      cond_both (eqb from who) (Some (node_seat as_nodes groups policy from)) _ (λ (o : Option (Seat Player)). o ≡ Some (node_seat as_nodes groups policy who))
      (λ t. ap (λ n. Some (node_seat as_nodes groups policy n)) (eqb-true from who t))
      (λ f. seat_in count (from + 1) who others (above from who low (λ e. absurd (true≢false (sym (eq-eqb from who e) ∙ f)))) (omega (arith, high)))
    where
      above : (x y : ℕ) → x ≤ y → (x ≡ y → ⊥) → x + 1 ≤ y
      above x y le ne = omega (arith, le, ne)
