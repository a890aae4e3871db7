-- What holds of each client in any journal without orders: it waits for nothing, or for an answer to the request after those that are answered, and then it has asked a group that it knows.
use Rattle.std.specs.Prelude.{◌≡◌, ℕ, ◌+◌, ◌-◌, ◌≤◌, Bool, true, length, Some, slice_get, is_some, ◌⊎◌}
use Rattle.sc_node_table.specs.Values.{Draw, Op}
use Rattle.sc_client_table.specs.lookup.LookupDefinitions.{way_to}
use Rattle.sc_client_table.specs.table.TableDefinitions.{Client as ClientState}
use Rattle.sc_live_plain.specs.PlainDefinitions.{IsResting}

-- a client waits for an answer to the request after those that are answered, and has asked a group that it knows
pub record IsAskingOn (client : ClientState) : Type 0 where
  pub seq : ℕ
  pub op : Op
  pub waits : client.waiting ≡ Some seq
  pub number : seq ≡ length client.replies + 1
  pub op_is : slice_get client.requests (seq - 1) ≡ Some op
  pub group : Draw
  pub target : ℕ
  pub asked : client.asked ≡ Some (group, target)
  pub knows : is_some (way_to group client.known) ≡ true

-- a client that has started or not, knows some group, and rests or asks on
pub record IsAskingClient (started : Bool) (client : ClientState) : Type 0 where
  pub some : 1 ≤ length client.known
  pub state : IsResting started client ⊎ ((started ≡ true) × IsAskingOn client)
