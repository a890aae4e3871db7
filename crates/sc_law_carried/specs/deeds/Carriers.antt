-- What a carrier of mail between machines owes.
use Rattle.std.specs.Prelude.{◌≡◌, ℕ, ◌≤◌, ◌==◌, false, true, List, [], ◌∷◌, ◌++◌, find, Some}
use Rattle.sc_node_table.specs.Values.{OrderLine, Mail, Seat}
use Rattle.sc_actor.specs.declared.rows.Input.{Input}
use Rattle.sc_actor.specs.declared.rows.Input.TheVariants.{Got, Tick, Go, Told}
use Rattle.sc_actor.specs.Definitions.{numbered}
use Rattle.sc_meaning.specs.sound.SoundDefinitions.{Ahead, Player, births, player_table}
use Rattle.sc_scenario.specs.scenario.Definitions.{IsBoundedOrder, IsUpTo}
use Rattle.sc_scenario.specs.declared.scenario.scenarios.Scenario.{Scenario}
use Rattle.sc_law_carried.specs.reading.ReadingDefinitions.{is_client_actor}
use Rattle.sc_law_carried.specs.deeds.Deeds.{Came, Deed, sent_in, input_got, actor_after, has_begun}

-- an actor may get this input after these deeds. A mail is to the actor, and was sent under the number with which it came. A start is a client's, once. An order is a node's, names a node that exists and a position of the ring, and has a number from 1 on
abbrev pub MayCome : Scenario → List (Deed Mail OrderLine) → ℕ → Input (Came Mail) OrderLine → Type 0
MayCome scenario deeds who (Got came) = (came.mail.to ≡ who) × (numbered (sent_in deeds) came.number ≡ Some came.mail)
MayCome scenario deeds who Tick = Unit {0}
MayCome scenario deeds who Go = (is_client_actor scenario.clients who ≡ true) × (has_begun deeds who ≡ false)
MayCome scenario deeds who (Told line) = IsUpTo scenario.nodes who × IsBoundedOrder scenario.nodes line.order × (1 ≤ line.number)

-- a deed of a node or a client of the scenario after these deeds: its input may come, and it sends what its table gives for what its own deeds made of it
pub record IsCarried (ahead : Ahead) (scenario : Scenario) (deeds : List (Deed Mail OrderLine)) (deed : Deed Mail OrderLine) : Type 0 where
  pub seat : Seat Player
  pub born : find (λ other. other.who == deed.who) (births ahead scenario) ≡ Some seat
  pub may : MayCome scenario deeds deed.who deed.input
  pub sent_is : deed.sent ≡ (player_table (actor_after player_table seat deeds) (input_got deed.input)).1

-- each deed is carried after those before it
abbrev pub AreCarriedAfter : Ahead → Scenario → List (Deed Mail OrderLine) → List (Deed Mail OrderLine) → Type 0
AreCarriedAfter ahead scenario before [] = Unit {0}
AreCarriedAfter ahead scenario before (deed ∷ deeds) = IsCarried ahead scenario before deed × AreCarriedAfter ahead scenario (before ++ deed ∷ []) deeds

-- the deeds of machines whose mail is carried: mail may come late, in any order, often, or never
abbrev pub AreCarried : Ahead → Scenario → List (Deed Mail OrderLine) → Type 0
AreCarried ahead scenario deeds = AreCarriedAfter ahead scenario [] deeds
