-- A client keeps its number, and sends requests of its own alone.
use Rattle.std.proofs.Common.{◌≡◌, ℕ, ◌∙◌, ap}
use Rattle.sc_base.specs.Definitions.{Each}
use Rattle.sc_node_table.specs.Values.{Draw, Op, OrderLine, Input, Mail}
use Rattle.sc_client_table.specs.table.TableDefinitions.{Client, ClientStep, request_of, table}
use Rattle.sc_client_table.proofs.TableProofs.TurnLemmas.{sends_in_turn}
use Rattle.sc_law_walks.proofs.WalkLemmas.{each_sent}

-- a request of a client
abbrev pub IsRequestOf : ℕ → Mail → Type 0
IsRequestOf me mail = (group : Draw) × (target : ℕ) × (request : ℕ × Op) × (mail ≡ request_of me group target request)

module _ (me : ℕ) where
  -- its number, and its requests alone
  abbrev pub Asks : ClientStep → Type 0
  Asks step = (step.0.me ≡ me) × Each (IsRequestOf me) step.1

  pub clients_ask : (client : Client) (input : Input Mail OrderLine) → client.me ≡ me → Asks (table client input)
  clients_ask client input k =
      ((sends_in_turn client input).me ∙ k, each_sent (IsRequestOf me) client (λ group target request. (group, target, request, ap (λ m. request_of m group target request) k)) input)
