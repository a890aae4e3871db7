-- The potential of plain journals: an upper bound of the deliveries that are still to come. It is that of calm ones, reckoned by a chart in which each group stands and each node that is asked leads.
use Rattle.std.specs.Prelude.{ℕ, ◌+◌, ◌-◌, List, [], length, map, None}
use Rattle.sc_node_table.specs.Values.{Mail}
use Rattle.sc_client_table.specs.table.TableDefinitions.{Client as ClientState}
use Rattle.sc_meaning.specs.sound.SoundDefinitions.{Player}
use Rattle.sc_live_steps.specs.calm.CalmDefinitions.{Ways, Reach, Chart, waiting_one, player_owes as calm_player_owes, mail_owes as calm_mail_owes}
use Rattle.sc_live_plain.specs.Frames.{Frame}

-- the number of requests that a client has begun: those that are answered, and the one that waits
abbrev pub begun_ones : ClientState → ℕ
begun_ones client = length client.replies + waiting_one client.waiting

-- the ways of plain journals: each node that is asked leads
abbrev pub direct : Ways
direct = record { far = λ group node. 0; most = 0; asked_group = λ tx. None }

-- how far a client is sent on in a plain journal: to each of these groups, which all stand, that it does not know
abbrev pub reach_of : List Frame → Reach
reach_of frames = record { standing = map (λ frame. frame.core.id) frames; distance = λ group. 0; most = length frames - 1 }

-- what is owed is reckoned by these ways and this reach; no group owes an election
abbrev pub chart_of : List Frame → Chart
chart_of frames = record { ways = direct; groups = []; reach = reach_of frames }

-- what a mail owes
abbrev pub mail_owes : Mail → ℕ
mail_owes mail = calm_mail_owes direct mail

-- what a player owes where these are the groups
abbrev pub player_owes : List Frame → Player → ℕ
player_owes frames player = calm_player_owes (chart_of frames) player
