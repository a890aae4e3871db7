-- Votes in transactions as JSON.
use Rattle.std.specs.Prelude.{[], ◌∷◌, codes, ⊤}
use Rattle.serde_json.specs.Data.{Data, string}
use Rattle.sc_words.specs.declared.commands.votes.No.{No}
use Rattle.sc_words.specs.declared.commands.votes.No.TheVariants as TheNo
use Rattle.sc_words.specs.declared.commands.votes.Frozen.{Frozen}
use Rattle.sc_words.specs.declared.commands.votes.Heard.{Heard}
use Rattle.sc_words.specs.declared.commands.votes.Vote.{Vote}
use Rattle.sc_words.specs.declared.commands.votes.Vote.TheVariants as TheVote
use Rattle.sc_words.specs.declared.commands.votes.Past.{Past}
use Rattle.sc_words.specs.declared.commands.votes.Past.TheVariants as ThePast
use Rattle.sc_json_text.specs.rows.Shapes.{number_json, fields, variant}
use Rattle.sc_json_text.specs.rows.Held.{FitsU8, FitsU16, FitsArc, FitsMembers}
use Rattle.sc_json_text.specs.rows.Links.{link_json, FitsLink}
use Rattle.sc_json_text.specs.rows.Names.{draw_json, FitsDraw}
use Rattle.sc_json_text.specs.rows.Sets.{arc_json, nodes_json, pairs_json, FitsPairs, clients_json, FitsClients}

-- The JSON of the cause for which a group votes No.
unfoldable pub no_json : No → Data
no_json (TheNo.Busy tx) = variant (codes "Busy") (fields ((codes "tx", draw_json tx) ∷ []))
no_json TheNo.Gone = string (codes "Gone")
no_json TheNo.Apart = string (codes "Apart")
no_json (TheNo.TooMany n) = variant (codes "TooMany") (fields ((codes "n", number_json n) ∷ []))

-- The cause of a No, as the program's type can hold it: each of its parts is valid.
unfoldable pub FitsNo : No → Type 0
FitsNo (TheNo.Busy tx) = FitsDraw tx
FitsNo TheNo.Gone = ⊤
FitsNo TheNo.Apart = ⊤
FitsNo (TheNo.TooMany n) = FitsU8 n

-- The JSON of the record of a participant, which stays as it is from its Yes to the outcome.
unfoldable pub frozen_json : Frozen → Data
frozen_json frozen = fields
    ((codes "arc", arc_json frozen.arc)
    ∷ (codes "clients", clients_json frozen.clients)
    ∷ (codes "members", nodes_json frozen.members)
    ∷ (codes "pairs", pairs_json frozen.pairs)
    ∷ (codes "succ", link_json frozen.succ)
    ∷ [])

-- The record of a participant that the program's type can hold: each of its parts is valid.
unfoldable pub FitsFrozen : Frozen → Type 0
FitsFrozen frozen = FitsArc frozen.arc × FitsClients frozen.clients × FitsMembers frozen.members × FitsPairs frozen.pairs × FitsLink frozen.succ

-- The JSON of what a coordinator has heard from its participant, and from which node.
unfoldable pub heard_json : Heard → Data
heard_json heard = fields
    ((codes "by", number_json heard.by)
    ∷ (codes "frozen", frozen_json heard.frozen)
    ∷ [])

-- What a coordinator has heard, as the program's type can hold it: each of its parts is valid.
unfoldable pub FitsHeard : Heard → Type 0
FitsHeard heard = FitsU16 heard.by × FitsFrozen heard.frozen

-- The JSON of a participant's vote.
unfoldable pub vote_json : Vote → Data
vote_json (TheVote.Yes content) = variant (codes "Yes") (frozen_json content)
vote_json (TheVote.No content) = variant (codes "No") (no_json content)

-- A vote that the program's type can hold: each of its parts is valid.
unfoldable pub FitsVote : Vote → Type 0
FitsVote (TheVote.Yes content) = FitsFrozen content
FitsVote (TheVote.No content) = FitsNo content

-- The JSON of what a group remembers of a vote of its own, or that the transaction has ended there.
unfoldable pub past_json : Past → Data
past_json ThePast.Yes = string (codes "Yes")
past_json (ThePast.No content) = variant (codes "No") (no_json content)
past_json ThePast.Ended = string (codes "Ended")

-- What a group remembers of its vote, as the program's type can hold it: each of its parts is valid.
unfoldable pub FitsPast : Past → Type 0
FitsPast ThePast.Yes = ⊤
FitsPast (ThePast.No content) = FitsNo content
FitsPast ThePast.Ended = ⊤
