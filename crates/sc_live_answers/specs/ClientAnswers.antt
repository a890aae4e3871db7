-- What clients find in answers, and whom they ask next, between two orders of a calm journal.
use Rattle.std.specs.Prelude.{◌≡◌, ℕ, ◌-◌, ◌≤◌, false, Bool, List, [], ◌∷◌, ◌++◌, slice_get, Some, ◌⊎◌}
use Rattle.sc_base.specs.Definitions.{Among, client_actor}
use Rattle.sc_node_table.specs.Values.{Draw, Op, Base, OrderLine, AnswerBody, Mail, Answer, Client, Got, Row}
use Rattle.sc_client_table.specs.lookup.LookupDefinitions.{target_in}
use Rattle.sc_client_table.specs.declared.lookup.ways.Way.{Way}
use Rattle.sc_actor.specs.declared.rows.Input.TheVariants.{Go}
use Rattle.sc_actor.specs.Definitions.{mails, numbered, value, waiting, kth, has_started}
use Rattle.sc_client_table.specs.table.TableDefinitions.{Client as ClientState, table}
use Rattle.sc_scenario.specs.declared.scenario.scenarios.Asks.{Asks}
use Rattle.sc_scenario.specs.declared.scenario.scenarios.Scenario.{Scenario}
use Rattle.sc_scenario.specs.scenario.Definitions.{IsValid}
use Rattle.sc_meaning.specs.sound.SoundDefinitions.{player_table, client_seat, route_of, system_of, as_nodes}
use Rattle.sc_live_orderly.specs.OrderlyDefinitions.{IsTidy, owed}
use Rattle.sc_live_steps.specs.calm.CalmDefinitions.{Chart, IsCalmFor, MayGoNow, Elsewhere, sent_on}
use Rattle.sc_live_plain.specs.PlainDefinitions.{IsAsking, AreRequests, AreSeated, NobodyWaits, IsLinkedSetting, IsCalmClient, Setting, IsSetting, IsCalmMail, Frame, IsWaiting, IsBegun}
use Rattle.sc_live_answers.specs.RequestPremises.{CountsAs}
use Rattle.sc_live_answers.specs.Tokens.{token_owing}

-- the node leads the group, which stands
pub record IsLedAt (set : Setting) (group : Draw) (node : ℕ) : Type 0 where
  pub frame : Frame
  pub is_frame : Among frame set.frames
  pub name : frame.core.id ≡ group
  pub lead : frame.lead ≡ node

-- no hint leads on from a node that leads: by the ways of the setting it is at distance 0
abbrev pub AreReached : Setting → Type 0
AreReached set = (frame : Frame) → Among frame set.frames → set.ways.far frame.core.id frame.lead ≡ 0

-- of each group that the client knows, but for the one that it asked last, it would ask the node that leads
abbrev pub AsksLeaders : Setting → ClientState → Type 0
AsksLeaders set client = (w : IsWaiting client) (group : Draw) (node : ℕ) → target_in group client.known ≡ Some node → IsLedAt set group node ⊎ (group ≡ w.group)

-- the mail is the answer to the client's waiting request, of the node and the group that it asked
pub record IsAnswerTo (client : ClientState) (mail : Mail) : Type 0 where
  pub waits : IsWaiting client
  pub answer : AnswerBody
  pub from_is : mail.from ≡ waits.target
  pub body_is : mail.body ≡ Answer waits.group waits.seq answer

-- a client that asks leaders finds what the potential needs in the answer that it waits for
abbrev pub AnswersAreHeardCalmly : Type 0
AnswersAreHeardCalmly =
    (scenario : Scenario) (rows : List (Row Mail OrderLine)) (set : Setting) (chart : Chart) (elsewhere : Elsewhere) (asks : Asks) (gone : Bool) (client : ClientState) (mail : Mail)
    → IsSetting set → IsLinkedSetting set → AreReached set → CountsAs set chart → IsCalmClient set asks gone client → IsCalmMail (IsBegun scenario rows) set mail → mail.to ≡ client_actor client.me
    → ((seq : ℕ) (op : Op) → IsBegun scenario rows client.me seq op → slice_get client.requests (seq - 1) ≡ Some op)
    → AsksLeaders set client → IsAnswerTo client mail → IsCalmFor chart elsewhere mail (Client client)

-- a client that has not started may start, where it is sent on no more often than the chart allows
abbrev pub ClientsGoCalmly : Type 0
ClientsGoCalmly =
    (set : Setting) (chart : Chart) (asks : Asks) (client : ClientState) → IsCalmClient set asks false client → sent_on chart.reach client.known ≤ chart.reach.most → MayGoNow chart (Client client)

-- a client asks leaders after it starts knowing one group alone, and still does after each answer that it waits for
pub record ClientsAskLeaders : Type 0 where
  pub go : (set : Setting) (asks : Asks) (client : ClientState) (entry : Draw × Way) → IsCalmClient set asks false client → client.known ≡ entry ∷ [] → AsksLeaders set (table client Go).0
  pub takes : (scenario : Scenario) (rows : List (Row Mail OrderLine)) (set : Setting) (asks : Asks) (gone : Bool) (client : ClientState) (mail : Mail)
      → IsSetting set → IsLinkedSetting set → IsCalmClient set asks gone client → IsCalmMail (IsBegun scenario rows) set mail → mail.to ≡ client_actor client.me
      → ((seq : ℕ) (op : Op) → IsBegun scenario rows client.me seq op → slice_get client.requests (seq - 1) ≡ Some op)
      → AsksLeaders set client → IsAnswerTo client mail → AsksLeaders set (table client (Got mail)).0

-- in a line of requests from a journal in which no request waits, where each client's request is under way once at most, the first mail that is pending for a client is the answer that it waits for
abbrev pub AnswersAreExpected : Type 0
AnswersAreExpected =
    (words : ℕ → ℕ → ℕ × ℕ) (scenario : Scenario) (set : Setting) (first : Base) (others : List Base) (before after : List (Row Mail OrderLine)) (asks : Asks) (client : ClientState) (number : ℕ) (mail : Mail)
    → IsValid scenario → scenario.groups ≡ first ∷ others → IsSetting set → IsLinkedSetting set → AreSeated scenario set → IsAsking words scenario set first before → NobodyWaits scenario first before → AreRequests words scenario set before after
    → owed (system_of as_nodes words scenario) (token_owing asks.client) before ≤ 1 → Among asks scenario.clients → IsTidy (before ++ after) → value player_table (client_seat (route_of first) asks) (before ++ after) ≡ Client client
    → kth (waiting (system_of as_nodes words scenario) (before ++ after) (Some (client_actor asks.client))) 1 ≡ Some number → numbered (mails (before ++ after)) number ≡ Some mail → IsAnswerTo client mail

-- after these rows each client would ask leaders
abbrev pub AllAskLeaders : Scenario → Setting → Base → List (Row Mail OrderLine) → Type 0
AllAskLeaders scenario set first rows = (asks : Asks) (client : ClientState) → Among asks scenario.clients → value player_table (client_seat (route_of first) asks) rows ≡ Client client → AsksLeaders set client

-- after these rows each client that has not started knows one group alone
abbrev pub KnowOne : Scenario → Base → List (Row Mail OrderLine) → Type 0
KnowOne scenario first rows =
    (asks : Asks) (client : ClientState) → Among asks scenario.clients → has_started rows (client_actor asks.client) ≡ false → value player_table (client_seat (route_of first) asks) rows ≡ Client client → (entry : Draw × Way) × (client.known ≡ entry ∷ [])

-- throughout a line of requests from a journal in which no request waits, a client that has not started knows one group alone, and each client's request is under way once at most, clients ask leaders
abbrev pub LinesAskLeaders : Type 0
LinesAskLeaders =
    (words : ℕ → ℕ → ℕ × ℕ) (scenario : Scenario) (set : Setting) (first : Base) (others : List Base) (before after : List (Row Mail OrderLine))
    → IsValid scenario → scenario.groups ≡ first ∷ others → IsSetting set → IsLinkedSetting set → AreSeated scenario set → IsAsking words scenario set first before → NobodyWaits scenario first before → KnowOne scenario first before → AreRequests words scenario set before after
    → ((asks : Asks) → Among asks scenario.clients → owed (system_of as_nodes words scenario) (token_owing asks.client) before ≤ 1) → AllAskLeaders scenario set first (before ++ after)
