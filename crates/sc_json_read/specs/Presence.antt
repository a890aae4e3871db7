-- The JSON of names, ballots, replies, arcs and tables is not null.
use Rattle.std.specs.Prelude.{◌≡◌, ℕ, List}
use Rattle.serde_json.specs.Data.{null}
use Rattle.sc_base.specs.declared.names.Ballot.{Ballot}
use Rattle.sc_base.specs.declared.names.Draw.{Draw}
use Rattle.sc_base.specs.declared.ops.Reply.{Reply}
use Rattle.sc_base.specs.Arc.{Arc}
use Rattle.sc_base.specs.declared.ops.Noted.{Noted}
use Rattle.sc_json_text.specs.rows.Held.{FitsArc, FitsMembers}
use Rattle.sc_json_text.specs.rows.Names.{draw_json, FitsDraw, ballot_json, FitsBallot}
use Rattle.sc_json_text.specs.rows.Ops.{reply_json, FitsReply}
use Rattle.sc_json_text.specs.rows.Sets.{arc_json, nodes_json, pairs_json, FitsPairs, clients_json, FitsClients}
use Rattle.sc_words.specs.declared.commands.links.Route.{Route}
use Rattle.sc_words.specs.declared.commands.votes.Heard.{Heard}
use Rattle.sc_words.specs.declared.commands.votes.Gift.{Gift}
use Rattle.sc_json_text.specs.rows.Links.{route_json, FitsRoute}
use Rattle.sc_json_text.specs.rows.Votes.{heard_json, FitsHeard}
use Rattle.sc_json_text.specs.rows.Outcomes.{gift_json, FitsGift}

-- The JSON of a name is not null: it is a string.
pub draw_there : (draw : Draw) → FitsDraw draw → draw_json draw ≡ null → ⊥
unfolding draw_json
draw_there draw fits none = cc

-- The JSON of a ballot is not null: it is an array.
pub ballot_there : (ballot : Ballot) → FitsBallot ballot → ballot_json ballot ≡ null → ⊥
unfolding ballot_json
ballot_there ballot fits none = cc

-- The JSON of a reply is not null: it is an object.
pub reply_there : (reply : Reply) → FitsReply reply → reply_json reply ≡ null → ⊥
unfolding reply_json
reply_there reply fits none = cc

-- The JSON of an arc is not null: it is an array.
pub arc_there : (arc : Arc) → FitsArc arc → arc_json arc ≡ null → ⊥
unfolding arc_json
arc_there arc fits none = cc

-- The JSON of a set of nodes is not null: it is an array.
pub nodes_there : (members : List ℕ) → FitsMembers members → nodes_json members ≡ null → ⊥
unfolding nodes_json
nodes_there members fits none = cc

-- The JSON of the pairs of a group is not null: it is an array.
pub pairs_there : (pairs : List (List ℕ × List ℕ)) → FitsPairs pairs → pairs_json pairs ≡ null → ⊥
unfolding pairs_json
pairs_there pairs fits none = cc

-- The JSON of a client table is not null: it is an array.
pub clients_there : (clients : List (ℕ × Noted)) → FitsClients clients → clients_json clients ≡ null → ⊥
unfolding clients_json
clients_there clients fits none = cc

-- The JSON of a route is not null: it is an object.
pub route_there : (route : Route) → FitsRoute route → route_json route ≡ null → ⊥
unfolding route_json
route_there route fits none = cc

-- The JSON of what a coordinator has heard is not null: it is an object.
pub heard_there : (heard : Heard) → FitsHeard heard → heard_json heard ≡ null → ⊥
unfolding heard_json
heard_there heard fits none = cc

-- The JSON of what a moved boundary brings is not null: it is an object.
pub gift_there : (gift : Gift) → FitsGift gift → gift_json gift ≡ null → ⊥
unfolding gift_json
gift_there gift fits none = cc
