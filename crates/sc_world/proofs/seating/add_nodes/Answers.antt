use Rattle.std.proofs.Common.{◌≡◌, ◌∙◌, ◌+◌, ◌-◌, ◌<◌, ◌++◌, ◌∷◌, [], ℕ, List, map, sym, ap, append_assoc, arith}
use Rattle.sc_actor.specs.declared.actors.Seat.{Seat}
use Rattle.sc_node_table.specs.Slots.{numbers_from}
use Rattle.sc_meaning.specs.sound.Players.{node_seat, Player, as_nodes}
use Rattle.sc_world.proofs.Numbers.{numbers_from-next}
use Rattle.sc_world.proofs.seating.add_nodes.Goals as goal

pub loop-done-preserved : goal.loop-done-preserved
loop-done-preserved c =
    let seat : ℕ → Seat Player = node_seat as_nodes c.args.groups.now c.args.policy in
    let d : ℕ = c.loop-done.done in
    let some : 0 < c.args.nodes - d = omega (arith, c.loop-done-test.true) in
    let order : 1 + (d + 1) ≡ 1 + d + 1 = omega arith in
    let first : 1 + d ≡ d + 1 = omega arith in
    let fewer : c.args.nodes - (d + 1) ≡ c.args.nodes - d - 1 = omega arith in
    let rest : numbers_from (1 + (d + 1)) (c.args.nodes - (d + 1)) ≡ numbers_from (1 + d + 1) (c.args.nodes - d - 1) = ap (λ n. numbers_from n (c.args.nodes - (d + 1))) order ∙ ap (numbers_from (1 + d + 1)) fewer in
    ap (λ (xs : List (Seat Player)). xs ++ map seat (numbers_from (1 + (d + 1)) (c.args.nodes - (d + 1)))) c.in_ok-push.ensures.items
    ∙ ap (λ (ns : List ℕ). (c.loop-done.seats.items ++ c.in_ok-node_seat.field-0 ∷ []) ++ map seat ns) rest
    ∙ append_assoc c.loop-done.seats.items (c.in_ok-node_seat.field-0 ∷ []) (map seat (numbers_from (1 + d + 1) (c.args.nodes - d - 1)))
    ∙ ap (λ (x : Seat Player). c.loop-done.seats.items ++ x ∷ map seat (numbers_from (1 + d + 1) (c.args.nodes - d - 1))) (c.in_ok-node_seat.ensures ∙ ap seat (sym first))
    ∙ ap (λ (ns : List ℕ). c.loop-done.seats.items ++ map seat ns) (sym (numbers_from-next (1 + d) (c.args.nodes - d) some))
    ∙ c.loop-done.invariant
