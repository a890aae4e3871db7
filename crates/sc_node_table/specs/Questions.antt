-- The questions of a coordinator, and the groups that it asks: first its participant, and then the watcher (Scatter, SOSP 2011, multi-group operations).
use Rattle.std.specs.Prelude.{ℕ, nat_le, List, length, if◌then◌else◌, Option, Some, None}
use Rattle.sc_base.specs.declared.names.Draw.{Draw}
use Rattle.sc_words.specs.declared.commands.bodies.Body.{Body}
use Rattle.sc_words.specs.declared.commands.bodies.Body.TheVariants.{Merge, Repart, Migrate, Split}
use Rattle.sc_words.specs.declared.commands.bodies.Offer.{Offer}
use Rattle.sc_words.specs.declared.commands.bodies.Watch.{Watch}
use Rattle.sc_words.specs.declared.commands.cores.Core.{Core}
use Rattle.sc_words.specs.declared.commands.cores.Lock.{Lock}
use Rattle.sc_words.specs.declared.commands.cores.Lock.TheVariants.{Free, Coordinating, Promised, Watching}
use Rattle.sc_words.specs.declared.commands.links.Link.{Link}
use Rattle.sc_words.specs.declared.commands.votes.Frozen.{Frozen}
use Rattle.sc_words.specs.declared.commands.votes.Heard.{Heard}
use Rattle.sc_mail.specs.declared.bodies.Mail.{Mail}
use Rattle.sc_mail.specs.declared.bodies.MailBody.{MailBody}
use Rattle.sc_mail.specs.declared.bodies.MailBody.TheVariants.{TxPrepare, TxWatch}
use Rattle.sc_base.specs.Definitions.{least_of, united}
use Rattle.sc_group_table.specs.machine.MachineDefinitions.{can_split, merged_link, right_link}
use Rattle.sc_node_table.specs.Mails.{sent, sent_all}

-- the offer of a group to its successor, sent by its node `me`
abbrev pub offer_of : ℕ → Core → Body → Offer
offer_of me core body = record { coord = core.id; part = core.succ.group; arc = core.arc; members = core.members; body = body; by = me }

-- the successor of a participant whose Yes is recorded, which is the watcher of a merge
abbrev pub heard_link : Option Heard → Option Link
heard_link None = None
heard_link (Some heard) = Some heard.frozen.succ

-- the link to the watcher, if the watcher is asked now: of a split the successor, and else the successor of the participant whose Yes is recorded
abbrev pub watcher_link : Core → Body → Option Heard → Option Link
watcher_link core Merge heard = heard_link heard
watcher_link core (Repart at) heard = heard_link heard
watcher_link core (Migrate node) heard = heard_link heard
watcher_link core (Split at child) heard = Some core.succ

-- the link, if there is one, or else that to the successor
abbrev pub or_successor : Core → Option Link → Link
or_successor core None = core.succ
or_successor core (Some link) = link

-- the link to the group that a coordinator asks: the watcher, if it is asked now, or else the successor
abbrev pub asked_link : Core → Body → Option Heard → Link
asked_link core body heard = or_successor core (watcher_link core body heard)

-- the question to a watcher, sent by the coordinator's node `me`: that its predecessor `old` be replaced by `next`
abbrev pub watch_of : ℕ → Core → Link → Draw → Link → Watch
watch_of me core watcher old next = record { coord = core.id; members = core.members; part = watcher.group; old = old; next = next; by = me }

-- the link to the child of a split, with the members that go to it; it has the group's own members where the group cannot be split there, which is never asked
abbrev pub child_link : Core → ℕ → Draw → Link
child_link core at child = if can_split core at then right_link core child else record { group = child; members = core.members }

-- the link to the merged group, with the members of both; it has the group's own members where these would be more than nine, which is never asked
abbrev pub both_link : Core → Frozen → Link
both_link core frozen =
    if nat_le (length (united core.members frozen.members)) 9 then merged_link core frozen else record { group = core.id; members = core.members }

-- the question to the watcher of a split: that the group be replaced by its child
abbrev pub split_watch : ℕ → Core → ℕ → Draw → Watch
split_watch me core at child = watch_of me core core.succ core.id (child_link core at child)

-- the question to the watcher of a merge: that the participant be replaced by the merged group
abbrev pub union_watch : ℕ → Core → Heard → Watch
union_watch me core heard = watch_of me core heard.frozen.succ core.succ.group (both_link core heard.frozen)

-- the question of a coordinator with a participant: an offer, and once the participant's Yes is recorded, the question to the watcher
abbrev pub heard_question : ℕ → Core → Draw → Body → Option Heard → MailBody
heard_question me core tx body None = TxPrepare tx (offer_of me core body)
heard_question me core tx body (Some heard) = TxWatch tx (union_watch me core heard)

-- the question that a coordinator asks now
abbrev pub question : ℕ → Core → Draw → Body → Option Heard → MailBody
question me core tx Merge heard = heard_question me core tx Merge heard
question me core tx (Repart at) heard = heard_question me core tx (Repart at) heard
question me core tx (Migrate node) heard = heard_question me core tx (Migrate node) heard
question me core tx (Split at child) heard = TxWatch tx (split_watch me core at child)

-- the coordinator's question is sent to one node
abbrev pub asked_node : ℕ → Core → Draw → Body → Option Heard → ℕ → List Mail → List Mail
asked_node me core tx body heard node mails = sent me node (question me core tx body heard) mails

-- the coordinator's question is sent to the least member of the group that is asked
abbrev pub asked_least : ℕ → Core → Draw → Body → Option Heard → List Mail → List Mail
asked_least me core tx body heard mails = asked_node me core tx body heard (least_of (asked_link core body heard).members) mails

-- the coordinator's question is sent to each member of the group that is asked
abbrev pub asked_all : ℕ → Core → Draw → Body → Option Heard → List Mail → List Mail
asked_all me core tx body heard mails = sent_all me (asked_link core body heard).members (question me core tx body heard) mails

-- a coordinator asks the least member of the group that is asked; a group with another lock asks nobody
abbrev pub asked_first : Lock → ℕ → Core → List Mail → List Mail
asked_first Free me core mails = mails
asked_first (Coordinating tx body order heard) me core mails = asked_least me core tx body heard mails
asked_first (Promised tx offer) me core mails = mails
asked_first (Watching tx watch) me core mails = mails
