-- Laws that follow from lemmas of this part of the crate and of those that it stands on.
use Rattle.sc_live_steps.specs.calm.CalmDefinitions.{OrdersRaiseLittle}
use Rattle.sc_live_steps.proofs.CalmStepsProofs.OrderPotential.{order_raises}

-- An order raises what is owed by what a transaction with two other groups takes, at most.
pub orders_raise_little : OrdersRaiseLittle
orders_raise_little = λ ways drawer line place may. order_raises ways drawer line place may
