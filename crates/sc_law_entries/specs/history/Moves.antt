-- What all groups hold of the store, and how it moves between them: moves of arcs, pairs and client tables, whatever commands make them.
use Rattle.std.specs.Prelude.{◌≡◌, ◌≢◌, ℕ, ◌<◌, ◌≤◌, ◌^◌, IsTrue, List, [], ◌∷◌, ◌++◌, if◌then◌else◌, Option, Some, None}
use Rattle.std.specs.FinMap.{empty, get, insert, entries}
use Rattle.std.specs.Option.{option_map}
use Rattle.sc_base.specs.Definitions.{Among, Arc, IsArc, CanCut, CanJoin, holds, before, from, joined, same_draw}
use Rattle.sc_base.specs.declared.names.Draw.{Draw}
use Rattle.sc_base.specs.declared.ops.Noted.{Noted}
use Rattle.sc_base.specs.declared.ops.Op.{Op}
use Rattle.sc_words.specs.ideal.IdealDefinitions.{ClientTable, joined_with, Legal, HasEntry, contents_after, Contents, key_of, reply_of, after, holds_key, part_of, with_pairs}
use Rattle.sc_words.specs.declared.ideal.Entry.{Entry}
use Rattle.sc_group_table.specs.machine.MachineDefinitions.{Group}

-- ---- what groups hold

-- what a group holds: an arc, the pairs on it, and a client table
pub record Holding : Type 0 where
  pub arc : Arc
  pub pairs : Contents
  pub clients : ClientTable

-- what each group with a range of the ring holds
abbrev pub Holdings : Type 0
Holdings = Draw → Option Holding

-- what a group holds by its record
abbrev pub holding_of : Group → Holding
holding_of group = record { arc = group.core.arc; pairs = group.pairs; clients = group.clients }

-- the holdings, with that of this group replaced
abbrev pub with_holding : Draw → Option Holding → Holdings → Holdings
with_holding group holding holdings other = if same_draw other group then holding else holdings other

-- ---- how a holding changes

-- the part of a holding before a position, with the whole client table
abbrev pub part_before : ℕ → Holding → Holding
part_before at holding = record holding { arc = before holding.arc at; pairs = part_of (before holding.arc at) holding.pairs }

-- the part of a holding from a position on, with the whole client table
abbrev pub part_from : ℕ → Holding → Holding
part_from at holding = record holding { arc = from holding.arc at; pairs = part_of (from holding.arc at) holding.pairs }

-- a holding that takes over the one after it: of each client the note with the greater number is kept, and its own where the numbers are equal
abbrev pub with_next : Holding → Holding → Holding
with_next holding next = record {
  arc = joined holding.arc next.arc;
  pairs = with_pairs holding.pairs (entries next.pairs);
  clients = joined_with holding.clients (entries next.clients);
}

-- a holding that takes over the one before it, with the client tables joined by the greater numbers
abbrev pub with_previous : Holding → Holding → Holding
with_previous holding previous = record {
  arc = joined previous.arc holding.arc;
  pairs = with_pairs holding.pairs (entries previous.pairs);
  clients = joined_with holding.clients (entries previous.clients);
}

-- two holdings made one, where there are both; else the first
abbrev pub both_holdings : (Holding → Holding → Holding) → Option Holding → Option Holding → Option Holding
both_holdings together (Some holding) (Some other) = Some (together holding other)
both_holdings together (Some holding) None = None
both_holdings together None other = None

-- a holding after a new request took effect: its pairs are those after it, and its table notes the number and the reply
abbrev pub with_request : ℕ → ℕ → Op → Holding → Holding
with_request client seq op holding = record holding {
  pairs = after op holding.pairs;
  clients = insert holding.clients client (record { seq = seq; reply = reply_of op holding.pairs });
}

-- ---- moves

-- a move of what groups hold: a request, or what a split, a merge or a moved boundary makes of arcs, pairs and tables (Scatter, SOSP 2011, multi-group operations)
pub data Move : Type 0 where
  -- nothing that is held changes: a repeated or refused request, an order, a vote, a member that is handed over
  Unmoved : Move
  -- a request takes effect at a group
  ServedBy : (group : Draw) (client seq : ℕ) (op : Op) → Move
  -- a group keeps the part before a position, and its child gets the rest
  DividedAt : (group : Draw) (at : ℕ) (child : Draw) → Move
  -- a group takes over all that the next one holds, which then has no range
  JoinedTo : (group next : Draw) → Move
  -- a group gives the part from a position on in its arc to the next one
  GivenFrom : (group : Draw) (at : ℕ) (next : Draw) → Move
  -- a group takes the part before a position in the arc of the next one
  TakenUpTo : (group : Draw) (at : ℕ) (next : Draw) → Move

-- what all groups hold after a move
abbrev pub holdings_after : Move → Holdings → Holdings
holdings_after Unmoved holdings = holdings
holdings_after (ServedBy group client seq op) holdings = with_holding group (option_map (with_request client seq op) (holdings group)) holdings
holdings_after (DividedAt group at child) holdings =
    with_holding child (option_map (part_from at) (holdings group)) (with_holding group (option_map (part_before at) (holdings group)) holdings)
holdings_after (JoinedTo group next) holdings =
    with_holding next None (with_holding group (both_holdings with_next (holdings group) (holdings next)) holdings)
holdings_after (GivenFrom group at next) holdings =
    with_holding next (both_holdings with_previous (holdings next) (option_map (part_from at) (holdings group)))
    (with_holding group (option_map (part_before at) (holdings group)) holdings)
holdings_after (TakenUpTo group at next) holdings =
    with_holding next (option_map (part_from at) (holdings next))
    (with_holding group (both_holdings with_next (holdings group) (option_map (part_before at) (holdings next))) holdings)

-- the entry of a request that takes effect at a holding; none where there is no holding
abbrev pub request_entry : Option Holding → ℕ → ℕ → Op → List Entry
request_entry None client seq op = []
request_entry (Some holding) client seq op = record { client = client; seq = seq; op = op; reply = reply_of op holding.pairs } ∷ []

-- the entries that a move adds to the history
abbrev pub entries_by : Move → Holdings → List Entry
entries_by Unmoved holdings = []
entries_by (ServedBy group client seq op) holdings = request_entry (holdings group) client seq op
entries_by (DividedAt group at child) holdings = []
entries_by (JoinedTo group next) holdings = []
entries_by (GivenFrom group at next) holdings = []
entries_by (TakenUpTo group at next) holdings = []

-- ---- which moves may be made

-- the operation of each request, by its client and number
abbrev pub RequestOf : Type 0
RequestOf = ℕ → ℕ → Op

-- a request may take effect at a group whose arc holds its key, where its number is above the one that the table notes of its client
pub record MayServe (request : RequestOf) (holdings : Holdings) (group : Draw) (client seq : ℕ) (op : Op) : Type 0 where
  pub holding : Holding
  pub fact : holdings group ≡ Some holding
  pub its : IsTrue (holds_key holding.arc (key_of op))
  pub above : (noted : Noted) → get holding.clients client ≡ Some noted → noted.seq < seq
  pub asked : op ≡ request client seq

-- a group may be divided at a position inside its arc, where its child holds nothing yet
pub record MayDivide (holdings : Holdings) (group : Draw) (at : ℕ) (child : Draw) : Type 0 where
  pub holding : Holding
  pub fact : holdings group ≡ Some holding
  pub fits : at < 2 ^ 32
  pub cut : CanCut holding.arc at
  pub free : holdings child ≡ None

-- two groups each hold something, and the two holdings stand in this relation
pub record IsBetween (holdings : Holdings) (group next : Draw) (fit : Holding → Holding → Type 0) : Type 0 where
  pub holding : Holding
  pub fact : holdings group ≡ Some holding
  pub other : Holding
  pub next_is : holdings next ≡ Some other
  pub apart : group ≢ next
  pub fits : fit holding other

-- a holding can take over another whose arc begins where its own ends
abbrev pub CanFollow : Holding → Holding → Type 0
CanFollow holding next = CanJoin holding.arc next.arc

-- a holding can give the part from a position inside its arc to another whose arc begins where its own ends
abbrev pub CanGive : ℕ → Holding → Holding → Type 0
CanGive at holding next = (at < 2 ^ 32) × CanCut holding.arc at × CanJoin (from holding.arc at) next.arc

-- a holding can take the part before a position inside the arc of another, which begins where its own ends
abbrev pub CanTake : ℕ → Holding → Holding → Type 0
CanTake at holding next = (at < 2 ^ 32) × CanCut next.arc at × CanJoin holding.arc (before next.arc at)

-- a move may be made
abbrev pub MayMake : RequestOf → Holdings → Move → Type 0
MayMake request holdings Unmoved = Unit {0}
MayMake request holdings (ServedBy group client seq op) = MayServe request holdings group client seq op
MayMake request holdings (DividedAt group at child) = MayDivide holdings group at child
MayMake request holdings (JoinedTo group next) = IsBetween holdings group next CanFollow
MayMake request holdings (GivenFrom group at next) = IsBetween holdings group next (CanGive at)
MayMake request holdings (TakenUpTo group at next) = IsBetween holdings group next (CanTake at)

-- ---- one move after another

-- each move may be made when its turn comes
abbrev pub MayMakeAll : RequestOf → Holdings → List Move → Type 0
MayMakeAll request holdings [] = Unit {0}
MayMakeAll request holdings (move ∷ moves) = MayMake request holdings move × MayMakeAll request (holdings_after move holdings) moves

-- what all groups hold after these moves
abbrev pub holdings_after_all : Holdings → List Move → Holdings
holdings_after_all holdings [] = holdings
holdings_after_all holdings (move ∷ moves) = holdings_after_all (holdings_after move holdings) moves

-- the history of these moves
abbrev pub history_by : Holdings → List Move → List Entry
history_by holdings [] = []
history_by holdings (move ∷ moves) = entries_by move holdings ++ history_by (holdings_after move holdings) moves

-- ---- what a history says of what all groups hold

-- each holding has an arc of the ring, and no position lies in the arcs of two groups
pub record AreDisjoint (holdings : Holdings) : Type 0 where
  pub arcs : (group : Draw) (holding : Holding) → holdings group ≡ Some holding → IsArc holding.arc × (holding.arc.lo < 2 ^ 32)
  pub only : (p : ℕ) (group other : Draw) (holding another : Holding) → holdings group ≡ Some holding → holdings other ≡ Some another
      → IsTrue (holds holding.arc p) → IsTrue (holds another.arc p) → group ≡ other

-- a table notes a number of the entry's client that is at least the entry's
pub record IsNotedIn (clients : ClientTable) (entry : Entry) : Type 0 where
  pub noted : Noted
  pub found : get clients entry.client ≡ Some noted
  pub most : entry.seq ≤ noted.seq

-- each note of a table has its entry in the history
abbrev pub HasNotes : List Entry → ClientTable → Type 0
HasNotes history clients = (client : ℕ) (noted : Noted) → get clients client ≡ Some noted → HasEntry history client noted.seq noted.reply

-- a holding matches the history: its pairs are those of the map after the history on its arc; it notes each request whose key lies there; and each of its notes has its entry
pub record IsReportedOf (history : List Entry) (holding : Holding) : Type 0 where
  pub pairs : holding.pairs ≡ part_of holding.arc (contents_after empty history)
  pub noted : (entry : Entry) → Among entry history → IsTrue (holds_key holding.arc (key_of entry.op)) → IsNotedIn holding.clients entry
  pub notes : HasNotes history holding.clients

-- the history is legal, each entry has the operation of its request, the holdings share no position, and each matches the history
pub record MatchesHoldings (request : RequestOf) (history : List Entry) (holdings : Holdings) : Type 0 where
  pub legal : Legal history
  pub asked : (entry : Entry) → Among entry history → entry.op ≡ request entry.client entry.seq
  pub disjoint : AreDisjoint holdings
  pub recorded : (group : Draw) (holding : Holding) → holdings group ≡ Some holding → IsReportedOf history holding

-- a holding with no pairs and an empty client table
pub record IsBare (holding : Holding) : Type 0 where
  pub pairs : holding.pairs ≡ empty
  pub clients : holding.clients ≡ empty

-- at the start no position is in two arcs, and nothing is held
pub record AreBare (holdings : Holdings) : Type 0 where
  pub disjoint : AreDisjoint holdings
  pub bare : (group : Draw) (holding : Holding) → holdings group ≡ Some holding → IsBare holding

-- ---- the laws

-- a move that may be made leaves holdings that match the history with the entries that it adds
abbrev pub MovesKeepHistories : Type 0
MovesKeepHistories = (request : RequestOf) (history : List Entry) (holdings : Holdings) (move : Move)
    → MatchesHoldings request history holdings → MayMake request holdings move → MatchesHoldings request (history ++ entries_by move holdings) (holdings_after move holdings)

-- what any table noted after any prefix of the moves has its entry in the history of all moves: who answers by an older table answers by the history
abbrev pub NotesStay : Holdings → List Move → Type 0
NotesStay holdings moves = (prefix more : List Move) → moves ≡ prefix ++ more → (group : Draw) (holding : Holding) → holdings_after_all holdings prefix group ≡ Some holding
    → HasNotes (history_by holdings moves) holding.clients

-- moves that may be made from an empty start, one after another, have a legal history that matches what all groups hold after them, and what they noted before
abbrev pub MovesMakeHistories : Type 0
MovesMakeHistories = (request : RequestOf) (holdings : Holdings) → AreBare holdings → (moves : List Move) → MayMakeAll request holdings moves
    → MatchesHoldings request (history_by holdings moves) (holdings_after_all holdings moves) × NotesStay holdings moves
