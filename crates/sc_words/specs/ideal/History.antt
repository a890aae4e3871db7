-- Histories of requests and replies, and which are legal on the ideal store.
-- The ideal store is the sequential object of linearizability (Herlihy and Wing, 1990).
use Rattle.std.specs.Prelude.{◌≡◌, ℕ, List, [], ◌∷◌, Some, None, AllPairs}
use Rattle.sc_base.specs.Definitions.{Among}
use Rattle.sc_base.specs.declared.ops.Reply.{Reply}
use Rattle.sc_base.specs.declared.ops.Op.TheVariants.{Get, Put, Add, Cas}
use Rattle.std.specs.FinMap.{empty}
use Rattle.sc_words.specs.declared.ideal.Entry.{Entry}
use Rattle.sc_words.specs.ideal.IdealStore.{Contents, reply_of, after}

-- each entry has the reply that its operation gets from the map that the entries before it leave
abbrev pub HasStoreReplies : Contents → List Entry → Type 0
HasStoreReplies contents [] = Unit {0}
HasStoreReplies contents (entry ∷ entries) = (entry.reply ≡ reply_of entry.op contents) × HasStoreReplies (after entry.op contents) entries

-- the map that the entries leave
abbrev pub contents_after : Contents → List Entry → Contents
contents_after contents [] = contents
contents_after contents (entry ∷ entries) = contents_after (after entry.op contents) entries

-- two entries differ in client or in number
abbrev pub AreApart : Entry → Entry → Type 0
AreApart a b = a.client ≡ b.client → a.seq ≡ b.seq → ⊥

-- a history is legal: each reply is that of a replay from the empty map, and no two entries have the same client and number
pub record Legal (entries : List Entry) : Type 0 where
  pub replay : HasStoreReplies empty entries
  pub once : AllPairs AreApart entries

-- the history has an entry with this client, number and reply
pub record HasEntry (entries : List Entry) (client seq : ℕ) (reply : Reply) : Type 0 where
  pub entry : Entry
  pub stands : Among entry entries
  pub client_is : entry.client ≡ client
  pub seq_is : entry.seq ≡ seq
  pub reply_is : entry.reply ≡ reply

-- an example of a history: put a x answers none, add a y answers x, cas a x z answers x, get a answers z
abbrev pub example_entries : List Entry
example_entries =
    (record { client = 1; seq = 1; op = Put (97 ∷ []) (120 ∷ []); reply = record { old = None } })
    ∷ (record { client = 2; seq = 1; op = Add (97 ∷ []) (121 ∷ []); reply = record { old = Some (120 ∷ []) } })
    ∷ (record { client = 1; seq = 2; op = Cas (97 ∷ []) (120 ∷ []) (122 ∷ []); reply = record { old = Some (120 ∷ []) } })
    ∷ (record { client = 2; seq = 2; op = Get (97 ∷ []); reply = record { old = Some (122 ∷ []) } })
    ∷ []
