-- How a group votes: on the offer of its predecessor, and on becoming the watcher of another group. Of the reasons for a No the first that holds counts.
use Rattle.std.specs.Prelude.{ℕ, Bool, ◌==◌, ◌||◌, ◌∷◌, [], ◌++◌, not, nat_lt, length, if◌then◌else◌, Option, Some, None}
use Rattle.std.specs.List.{list_any}
use Rattle.sc_base.specs.Definitions.{holds, end_of, same_draw, united}
use Rattle.sc_base.specs.declared.names.Draw.{Draw}
use Rattle.sc_words.specs.declared.commands.bodies.Body.{Body}
use Rattle.sc_words.specs.declared.commands.bodies.Body.TheVariants.{Merge, Repart, Migrate, Split}
use Rattle.sc_words.specs.declared.commands.bodies.Offer.{Offer}
use Rattle.sc_words.specs.declared.commands.bodies.Watch.{Watch}
use Rattle.sc_words.specs.declared.commands.cores.Core.{Core}
use Rattle.sc_words.specs.declared.commands.cores.Lock.{Lock}
use Rattle.sc_words.specs.declared.commands.cores.Lock.TheVariants.{Promised, Watching}
use Rattle.sc_words.specs.declared.commands.effects.Effect.{Effect}
use Rattle.sc_words.specs.declared.commands.effects.Effect.TheVariants.{NoEffect, Voted}
use Rattle.sc_words.specs.declared.commands.links.Route.{Route}
use Rattle.sc_words.specs.declared.commands.votes.No.{No}
use Rattle.sc_words.specs.declared.commands.votes.No.TheVariants.{Busy, Gone, Apart, TooMany}
use Rattle.sc_words.specs.declared.commands.votes.Past.{Past}
use Rattle.sc_words.specs.declared.commands.votes.Past.TheVariants as Cast
use Rattle.sc_group_table.specs.machine.Group.{Group}
use Rattle.sc_group_table.specs.machine.Orders.{locked_in}

-- whether a group has voted on a transaction
abbrev pub has_voted : Core → Draw → Bool
has_voted core tx = list_any (λ vote. same_draw vote.0 tx) core.voted

-- why a group of n members votes No, if so: more than nine are too many
abbrev pub size_no : ℕ → Option No
size_no n = if nat_lt 9 n then Some (TooMany n) else None

-- why a boundary cannot move to `at`, if so: it is inside neither the offer's arc nor the participant's
abbrev pub place_no : Core → Offer → ℕ → Option No
place_no core offer at =
    if holds offer.arc at then None
    else if (at == core.arc.lo) || not (holds core.arc at) then Some Apart
    else None

-- why a group cannot take part in what is offered, if so
abbrev pub body_no : Body → Core → Offer → Option No
body_no Merge core offer = size_no (length (united core.members offer.members))
body_no (Repart at) core offer = place_no core offer at
body_no (Migrate node) core offer = size_no (length (united core.members (node ∷ [])))
body_no (Split at child) core offer = None

-- why a participant votes No on an offer, if so: its arc does not begin where the offer's arc ends, or it cannot take part in what is offered
abbrev pub offer_no : Core → Offer → Option No
offer_no core offer = if core.arc.lo == end_of offer.arc then body_no offer.body core offer else Some Apart

-- why a watcher votes No, if so: its predecessor is not the group that is replaced
abbrev pub watch_no : Core → Watch → Option No
watch_no core watch = if same_draw core.pred.group watch.old then None else Some Apart

-- why a group votes No, if so: it is gone, or locked in a transaction, or there is this other reason
abbrev pub no_of : Option Route → Option Draw → Option No → Option No
no_of (Some into) tx why = Some Gone
no_of None (Some tx) why = Some (Busy tx)
no_of None None why = why

-- why a group votes No on an offer, if so; none is a Yes
abbrev pub vote_of : Core → Offer → Option No
vote_of core offer = no_of core.gone (locked_in core.lock) (offer_no core offer)

-- why a group votes No on becoming a watcher, if so; none is a Yes
abbrev pub watch_vote_of : Core → Watch → Option No
watch_vote_of core watch = no_of core.gone (locked_in core.lock) (watch_no core watch)

-- a vote as the group remembers it
abbrev pub past_of : Option No → Past
past_of None = Cast.Yes
past_of (Some why) = Cast.No why

-- the lock after a vote: a Yes binds the group to the transaction
abbrev pub bound_by : Option No → Lock → Lock → Lock
bound_by None bond lock = bond
bound_by (Some why) bond lock = lock

-- the group after a vote, and the effect: the vote is remembered; there is no effect where it has voted before
abbrev pub voted_on : Option No → Lock → Group → Draw → Group × Effect
voted_on why bond group tx =
    if has_voted group.core tx then (group, NoEffect tx)
    else (
      record group { core = record group.core { lock = bound_by why bond group.core.lock; voted = group.core.voted ++ (tx, past_of why) ∷ [] } },
      Voted (past_of why),
    )

-- the group after its vote on an offer, and the effect
abbrev pub offer_voted : Group → Draw → Offer → Group × Effect
offer_voted group tx offer = voted_on (vote_of group.core offer) (Promised tx offer) group tx

-- the group after its vote on becoming a watcher, and the effect
abbrev pub watched : Group → Draw → Watch → Group × Effect
watched group tx watch = voted_on (watch_vote_of group.core watch) (Watching tx watch) group tx
