-- An acceptor and the room that it has.
use Rattle.std.specs.Prelude.{ℕ}
use Rattle.sc_words.specs.paxos.PaxosDefinitions.{AcceptorState}

-- what contracts see of an acceptor: its state, and how many more slots it can accept without allocation
pub record Roomy (V : Type 0) : Type 0 where
  pub state : AcceptorState V
  pub room : ℕ
