use Rattle.std.proofs.Common.{◌≡◌, ◌<◌, ◌++◌, length, sym, ap, ◌∙◌, arith, append-nil, append_assoc}
use Rattle.std.proofs.lemmas.Result.{on_ok_weaker}
use Rattle.sc_node_table.specs.Pump.{pumped}
use Rattle.sc_node_table.specs.Execute.{next_child, executed_ready}
use Rattle.sc_node_table.specs.Replica.{Executed}
use Rattle.sc_node_table.proofs.Readiness.{turn-next, turn-shorter, executed_ready-none}
use Rattle.sc_node.proofs.execute.+execute_ready.Goals as goal

pub returns-in_default-clause-place : goal.returns-in_default-clause-place
returns-in_default-clause-place t c =
    ap (λ (step : Executed). step.0) (sym (executed_ready-none (c.args.replica.now, c.args.out.now) (sym c.in_ok-command.ensures.ready ∙ c.in_default.is)))

pub returns-in_default-clause-made : goal.returns-in_default-clause-made
returns-in_default-clause-made t c =
    sym (append-nil c.args.made.now)
    ∙ ap (λ (step : Executed). c.args.made.now ++ step.1) (sym (executed_ready-none (c.args.replica.now, c.args.out.now) (sym c.in_ok-command.ensures.ready ∙ c.in_default.is)))

pub execute_ready-requires : goal.execute_ready-requires
execute_ready-requires t c =
    let less : length c.execute_one.new.replica.ready < length c.args.replica.now.ready =
    turn-shorter c.args.replica.now c.execute_one.new.replica c.args.out.now c.execute_one.new.out c.in-Some.command
    (sym c.in_ok-command.ensures.ready ∙ c.in-Some.is) c.in_ok-execute_one.ensures in
    (omega (arith, c.decreases), tt)

pub returns-clause-place : goal.returns-clause-place
returns-clause-place t c =
    let whole : pumped (c.execute_ready.new.replica, c.execute_ready.new.out) ≡ (executed_ready c.args.replica.now.ready (c.args.replica.now, c.args.out.now)).0 =
    ap pumped c.in_ok-execute_ready.ensures.place
    ∙ ap (λ (step : Executed). step.0) (turn-next c.args.replica.now c.execute_one.new.replica c.args.out.now c.execute_one.new.out c.in-Some.command
    (sym c.in_ok-command.ensures.ready ∙ c.in-Some.is) c.in_ok-execute_one.ensures) in
    rw (← whole) c.pump.ensures.row

pub returns-clause-made : goal.returns-clause-made
returns-clause-made t c =
    let after = c.execute_one.new.replica in
    let rest = (executed_ready after.ready (after, c.execute_one.new.out)).1 in
    let made : c.execute_ready.new.made ≡ c.args.made.now ++ (executed_ready c.args.replica.now.ready (c.args.replica.now, c.args.out.now)).1 =
    c.in_ok-execute_ready.ensures.made
    ∙ ap (λ made. made ++ rest) c.in_ok-bear.ensures.made
    ∙ append_assoc c.args.made.now (next_child c.in-Some.command c.args.replica.now) rest
    ∙ ap (λ (step : Executed). c.args.made.now ++ step.1) (turn-next c.args.replica.now after c.args.out.now c.execute_one.new.out c.in-Some.command
    (sym c.in_ok-command.ensures.ready ∙ c.in-Some.is) c.in_ok-execute_one.ensures) in
    on_ok_weaker c.pump.result (λ _. made) c.pump.ensures.row
