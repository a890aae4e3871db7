-- What an outcome makes of a party: of the participant, which has voted Yes, and of the watcher. None stands for what cannot be made.
use Rattle.std.specs.Prelude.{ℕ, Bool, ◌&&◌, not, nat_le, length, List, ◌∷◌, [], ◌++◌, map, if◌then◌else◌, Option, Some, None}
use Rattle.std.specs.FinMap.{empty}
use Rattle.sc_base.specs.Definitions.{from, joined, same_draw, united}
use Rattle.sc_base.specs.declared.names.Draw.{Draw}
use Rattle.sc_words.specs.ideal.IdealDefinitions.{part_of}
use Rattle.sc_words.specs.declared.commands.bodies.Offer.{Offer}
use Rattle.sc_words.specs.declared.commands.bodies.Watch.{Watch}
use Rattle.sc_words.specs.declared.commands.cores.Core.{Core}
use Rattle.sc_words.specs.declared.commands.cores.Lock.{Lock}
use Rattle.sc_words.specs.declared.commands.cores.Lock.TheVariants.{Free, Coordinating, Promised, Watching}
use Rattle.sc_words.specs.declared.commands.effects.Effect.{Effect}
use Rattle.sc_words.specs.declared.commands.effects.Effect.TheVariants.{NoEffect, Decided}
use Rattle.sc_words.specs.declared.commands.links.Link.{Link}
use Rattle.sc_words.specs.declared.commands.links.Route.{Route}
use Rattle.sc_words.specs.declared.commands.votes.Gift.{Gift}
use Rattle.sc_words.specs.declared.commands.votes.Outcome.{Outcome}
use Rattle.sc_words.specs.declared.commands.votes.Outcome.TheVariants.{Abort, Merged, Moved, Migrated, Divided}
use Rattle.sc_words.specs.declared.commands.votes.Past.{Past}
use Rattle.sc_words.specs.declared.commands.votes.Past.TheVariants.{Ended}
use Rattle.sc_group_table.specs.machine.Group.{Group}
use Rattle.sc_group_table.specs.machine.Plans.{can_cut, can_join, has_key_of, enriched}
use Rattle.sc_group_table.specs.machine.Votes.{has_voted}

-- a participant that was merged into its coordinator: its arc and members stay, and its pairs and client table are empty
abbrev pub gone_group : Group → Route → Group
gone_group group into = record { core = record group.core { gone = Some into }; pairs = empty; clients = empty }

-- whether a participant can gain what lies from `at` on in the coordinator's arc, which is before its own
abbrev pub can_gain : Core → Offer → ℕ → Bool
can_gain core offer at = can_cut offer.arc at && can_join (from offer.arc at) core.arc

-- the participant's record with the arc that it gains
abbrev pub gained_core : Core → Offer → ℕ → Core
gained_core core offer at = record core { arc = joined (from offer.arc at) core.arc }

-- the participant with the arc that it gains, and with the gift added to its pairs and its client table
abbrev pub gained_group : Group → Offer → ℕ → Gift → Group
gained_group group offer at gift = enriched group (gained_core group.core offer at) gift

-- the participant that gains an arc; none where the arcs do not fit or the gift has a key that is there already
abbrev pub gained : Group → Offer → ℕ → Gift → Option Group
gained group offer at gift =
    if can_gain group.core offer at && not (has_key_of group.pairs gift.pairs) then Some (gained_group group offer at gift) else None

-- the participant's record without what lies before `at`
abbrev pub lost_core : Core → ℕ → Core
lost_core core at = record core { arc = from core.arc at }

-- the participant that loses what lies before `at`, with the pairs of the arc that it keeps
abbrev pub lost_group : Group → ℕ → Group
lost_group group at = record group { core = lost_core group.core at; pairs = part_of (from group.core.arc at) group.pairs }

-- the participant that loses what lies before `at`; none where its arc cannot be cut there
abbrev pub lost : Group → ℕ → Option Group
lost group at = if can_cut group.core.arc at then Some (lost_group group at) else None

-- the participant after a moved boundary: it gains an arc where there is a gift, and loses one where there is none
abbrev pub moved : Option Gift → Group → Offer → ℕ → Option Group
moved (Some gift) group offer at = gained group offer at gift
moved None group offer at = lost group at

-- the group's record with a member more, who may be one already
abbrev pub welcomed_core : Core → ℕ → Core
welcomed_core core node = record core { members = united core.members (node ∷ []) }

-- the group with a member more, who may be one already
abbrev pub welcomed_group : Group → ℕ → Group
welcomed_group group node = record group { core = welcomed_core group.core node }

-- the group with a member more; none where it then has more than nine
abbrev pub group_welcomed : Group → ℕ → Option Group
group_welcomed group node =
    if nat_le (length (united group.core.members (node ∷ []))) 9 then Some (welcomed_group group node) else None

-- the participant after an outcome; a split has no participant
abbrev pub participant_after : Outcome → Group → Offer → Option Group
participant_after Abort group offer = Some group
participant_after (Merged into) group offer = Some (gone_group group into)
participant_after (Moved at gift) group offer = moved gift group offer at
participant_after (Migrated node) group offer = group_welcomed group node
participant_after Divided group offer = None

-- the predecessor of the watcher after an outcome: unchanged by an abort, and else the next one
abbrev pub pred_after : Outcome → Link → Link → Link
pred_after Abort next pred = pred
pred_after (Merged into) next pred = next
pred_after (Moved at gift) next pred = next
pred_after (Migrated node) next pred = next
pred_after Divided next pred = next

-- the watcher after an outcome: only its predecessor may change
abbrev pub watcher_after : Outcome → Group → Watch → Group
watcher_after outcome group watch = record group { core = record group.core { pred = pred_after outcome watch.next group.core.pred } }

-- a remembered vote after a transaction has ended: that of this transaction becomes Ended
abbrev pub closed : Draw → Draw × Past → Draw × Past
closed tx vote = if same_draw vote.0 tx then (vote.0, Ended) else vote

-- the remembered votes after a transaction has ended: its own is Ended, and is added where there was none
abbrev pub voted_after : Core → Draw → List (Draw × Past)
voted_after core tx = if has_voted core tx then map (closed tx) core.voted else core.voted ++ (tx, Ended) ∷ []

-- the party after a transaction has ended: it is free, and remembers the end
abbrev pub party_freed : Group → Draw → Group
party_freed group tx = record group { core = record group.core { lock = Free; voted = voted_after group.core tx } }

-- the participant after an outcome, free again; nothing changes where the outcome cannot be executed
abbrev pub settled_in : Option Group → Group → Draw → Outcome → Group × Effect
settled_in None group tx outcome = (group, NoEffect tx)
settled_in (Some after) group tx outcome = (party_freed after tx, Decided outcome)

-- the watcher after an outcome, free again; this is possible for every outcome
abbrev pub watch_ended : Outcome → Group → Draw → Watch → Group × Effect
watch_ended outcome group tx watch = (party_freed (watcher_after outcome group watch) tx, Decided outcome)

-- a group after an outcome, by its lock: only the participant or the watcher of this transaction executes it
abbrev pub finished : Lock → Group → Draw → Outcome → Group × Effect
finished Free group tx outcome = (group, NoEffect tx)
finished (Coordinating locked body order heard) group tx outcome = (group, NoEffect tx)
finished (Promised locked offer) group tx outcome = if same_draw locked tx then settled_in (participant_after outcome group offer) group tx outcome else (group, NoEffect tx)
finished (Watching locked watch) group tx outcome = if same_draw locked tx then watch_ended outcome group tx watch else (group, NoEffect tx)
