-- Replies in real time: a client's process prints a reply at once, and the row of that step is made when its next request is known.
use Rattle.std.specs.Prelude.{◌≡◌, ℕ, ◌+◌, ◌<◌, ◌==◌, List, [], ◌∷◌, ◌++◌, length, find, Some, slice_get}
use Rattle.sc_base.specs.Definitions.{Among, client_actor}
use Rattle.sc_node_table.specs.Values.{Base, Entry, OrderLine, Mail, Reply}
use Rattle.sc_node_table.specs.NodeDefinitions.{slots_ahead}
use Rattle.sc_actor.specs.declared.rows.Input.TheVariants.{Got}
use Rattle.sc_words.specs.ideal.IdealDefinitions.{HasEntry}
use Rattle.sc_meaning.specs.sound.SoundDefinitions.{Ahead, Player, births, client_seat, history_at, issue_row, player_table, replies_of, route_of}
use Rattle.sc_scenario.specs.declared.scenario.scenarios.Asks.{Asks}
use Rattle.sc_scenario.specs.declared.scenario.scenarios.Scenario.{Scenario}
use Rattle.sc_law_groups.specs.whole.WholeDefinitions.{IsWellFormed}
use Rattle.sc_law_carried.specs.deeds.Deeds.{Came, Deed, actor_after}
use Rattle.sc_law_carried.specs.deeds.Carriers.{MayCome, AreCarried}
use Rattle.sc_law_carried.specs.deeds.CarriedRows.{rows_of}

-- a client after these deeds
abbrev pub client_now : Base → Asks → List (Deed Mail OrderLine) → Player
client_now first asks deeds = actor_after player_table (client_seat (route_of first) asks) deeds

-- after these deeds a client of the scenario gets a mail with which it takes this reply, the one to its request with this number; that step need not be a deed yet
pub record IsPrinted (ahead : Ahead) (scenario : Scenario) (deeds : List (Deed Mail OrderLine)) (asks : Asks) (came : Came Mail) (seq : ℕ) (reply : Reply) : Type 0 where
  pub first : Base
  pub others : List Base
  pub groups : scenario.groups ≡ first ∷ others
  pub among : Among asks scenario.clients
  pub born : find (λ other. other.who == client_actor asks.client) (births ahead scenario) ≡ Some (client_seat (route_of first) asks)
  pub may : MayCome scenario deeds (client_actor asks.client) (Got came)
  pub takes : replies_of (player_table (client_now first asks deeds) (Got came.mail)).0 ≡ replies_of (client_now first asks deeds) ++ reply ∷ []
  pub number : seq ≡ length (replies_of (client_now first asks deeds)) + 1

-- a request whose reply is printed after some deeds was decided by their rows, with that reply
abbrev pub PrintedRepliesAreDecided : Type 0
PrintedRepliesAreDecided = (ahead : Ahead) → ahead.slots ≡ slots_ahead → (scenario : Scenario) → IsWellFormed scenario → (deeds : List (Deed Mail OrderLine)) → AreCarried ahead scenario deeds
    → (asks : Asks) (came : Came Mail) (seq : ℕ) (reply : Reply) → IsPrinted ahead scenario deeds asks came seq reply
    → HasEntry (history_at ahead scenario.groups (rows_of deeds)) asks.client seq reply

-- and stands in the history before each request that a later deed is the first to send
abbrev pub PrintedRepliesComeFirst : Type 0
PrintedRepliesComeFirst = (ahead : Ahead) → ahead.slots ≡ slots_ahead → (scenario : Scenario) → IsWellFormed scenario → (deeds later : List (Deed Mail OrderLine)) → AreCarried ahead scenario (deeds ++ later)
    → (asks : Asks) (came : Came Mail) (seq : ℕ) (reply : Reply) → IsPrinted ahead scenario deeds asks came seq reply
    → (place other issued : ℕ) (entry another : Entry) → slice_get (history_at ahead scenario.groups (rows_of (deeds ++ later))) place ≡ Some entry → entry.client ≡ asks.client → entry.seq ≡ seq
    → slice_get (history_at ahead scenario.groups (rows_of (deeds ++ later))) other ≡ Some another
    → issue_row another.client another.seq (rows_of (deeds ++ later)) ≡ Some issued → length (rows_of deeds) < issued → place < other
