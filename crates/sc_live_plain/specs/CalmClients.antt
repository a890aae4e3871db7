-- Clients while they ask alone, between two orders of a calm journal.
use Rattle.std.specs.Prelude.{◌≡◌, ℕ, ◌-◌, ◌<◌, ◌≤◌, Bool, true, List, [], ◌∷◌, length, slice_get, Some, ◌⊎◌}
use Rattle.sc_base.specs.Definitions.{Among, Each, least_of}
use Rattle.sc_node_table.specs.Values.{Draw, Op, Route}
use Rattle.sc_client_table.specs.lookup.LookupDefinitions.{KnownGroups, target_of}
use Rattle.sc_client_table.specs.declared.lookup.ways.Way.{Way}
use Rattle.sc_client_table.specs.table.TableDefinitions.{Client as ClientState, ClientStep}
use Rattle.sc_scenario.specs.declared.scenario.scenarios.Asks.{Asks}
use Rattle.sc_live_plain.specs.KnownGroups.{AreRoundRing, KnowsFirst}
use Rattle.sc_live_plain.specs.CalmNodes.{Setting, IsHome, HasGoneTo, IsCalmMail}
use Rattle.sc_live_plain.specs.Frames.{Frame}
use Rattle.sc_live_plain.specs.PlainPotential.{begun_ones}
use Rattle.sc_live_plain.specs.PlainClients.{IsWaiting, IsResting}
use Rattle.sc_live_plain.specs.PlainMail.{Requests}

-- these groups that stand are the whole ring, each followed by the next, from one of them on
pub record IsRingOf (set : Setting) (ring : List Frame) : Type 0 where
  pub round : AreRoundRing ring
  pub within : (frame : Frame) → Among frame ring → Among frame set.frames

-- links and routes name nodes that have a replica of the group named; each group that stands begins a list of the ring; and no replica of a group that stands knows it as gone
pub record IsLinkedSetting (set : Setting) : Type 0 where
  pub rings : (frame : Frame) → Among frame set.frames → (rest : List Frame) × IsRingOf set (frame ∷ rest)
  pub links : (frame : Frame) → Among frame set.frames → IsHome set frame.core.succ.group (least_of frame.core.succ.members)
  pub routes : (group : Draw) (into : Route) → HasGoneTo set group into → IsHome set into.group (least_of into.members)
  pub stand : (frame : Frame) (into : Route) → Among frame set.frames → HasGoneTo set frame.core.id into → ⊥

-- the client knows the first groups of the ring, from one of them on
pub record KnowsRing (set : Setting) (known : KnownGroups) : Type 0 where
  pub ring : List Frame
  pub is_ring : IsRingOf set ring
  pub reached : ℕ
  pub first : KnowsFirst ring reached known

-- the client knows one group alone, which may be gone, or the first groups of the ring from one of them on
abbrev pub Knows : Setting → KnownGroups → Type 0
Knows set known = ((group : Draw) × (way : Way) × (known ≡ (group, way) ∷ [])) ⊎ KnowsRing set known

-- the node that the client would ask of a group it knows has a replica of that group
abbrev pub CanBeAsked : Setting → Draw × Way → Type 0
CanBeAsked set entry = IsHome set entry.0 (target_of entry.1)

-- a client while clients ask alone, which has started or not: it has its scenario's requests, and while a reply is missing it knows groups as `Knows` says and would ask nodes that have a replica of them
pub record IsCalmClient (set : Setting) (asks : Asks) (gone : Bool) (client : ClientState) : Type 0 where
  pub me_is : client.me ≡ asks.client
  pub requests_are : client.requests ≡ asks.ops
  pub knows : length client.replies < length client.requests → Knows set client.known
  pub targets : length client.replies < length client.requests → Each (CanBeAsked set) client.known
  pub state : IsResting gone client ⊎ ((gone ≡ true) × IsWaiting client)

-- what a client has begun after a step is begun by `begun`
abbrev pub BeginsBy : Requests → ClientState → ClientStep → Type 0
BeginsBy begun client step = (n : ℕ) (op : Op) → 1 ≤ n → slice_get client.requests (n - 1) ≡ Some op → n ≤ begun_ones step.0 → begun client.me n op

-- after its step a client is as `IsCalmClient` says, and the mail that it sends is as `IsCalmMail` says
abbrev pub StaysCalm : Requests → Setting → Asks → Bool → ClientStep → Type 0
StaysCalm begun set asks gone step = IsCalmClient set asks gone step.0 × Each (IsCalmMail begun set) step.1
