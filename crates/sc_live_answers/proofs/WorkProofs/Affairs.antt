-- What an order makes of groups while it is under way, as a walk through a replica's table takes it.
use Rattle.std.proofs.Common.{◌≡◌, ◌⊎◌, ℕ, true, List, Option, Some}
use Rattle.sc_base.specs.Definitions.{Each, is_member}
use Rattle.sc_node_table.specs.Values.{Draw, Op, Body, Offer, Watch, Command, Call, Begin, Prepared, RecordVote, Finish, Watched, RecordWatch, Base, Core, Free, Coordinating, Heard, Outcome, Past, Vote, Mail, MailBody, Request, Answer, Prepare, Promise, Accept, Accepted, Nack, Learn, Ask, Install, TxPrepare, TxVote, TxOutcome, TxElsewhere, TxWatch, TxWatched, Told}
use Rattle.sc_words.specs.declared.commands.bodies.Body.TheVariants as At
use Rattle.sc_group_table.specs.machine.MachineDefinitions.{Group, child_by, applied}

-- By a group's name: the commands that stand there, the states in which it is, and the children that come of them; and whether other groups have a part, so that offers, votes of participants and states are sent. No request stands there; each command leaves such a state, and makes such children; it adds no member, where no other group has a part; and what is asked then is asked of a watcher.
pub record Affair : Type 1 where
  pub Parts : Type 0
  pub Does : Draw → Command → Type 0
  pub Is : Draw → Core → Type 0
  pub Creates : Draw → Base → Type 0
  pub backlog : (name : Draw) (client seq : ℕ) (op : Op) → Does name (Call client seq op) → ⊥
  pub entered : (name : Draw) (group : Group) (command : Command) → Is name group.core → Does name command → Is name (applied group command).0.core
  pub creation : (name : Draw) (group : Group) (command : Command) (child : Base) → Is name group.core → Does name command → child_by group command ≡ Some child → Creates name child
  pub adds : (name : Draw) (group : Group) (command : Command) → Is name group.core → Does name command
      → Parts ⊎ ((node : ℕ) → is_member (applied group command).0.core.members node ≡ true → is_member group.core.members node ≡ true)
  pub asks : (name : Draw) (core : Core) (tx : Draw) (body : Body) (order : ℕ) (heard : Option Heard) → Is name core → core.lock ≡ Coordinating tx body order heard → Parts ⊎ ((at : ℕ) × (child : Draw) × (body ≡ At.Split at child))
  pub renamed : (name id : Draw) (core : Core) → Is name core → Is name (record core { id = id })
  pub begins : (name tx : Draw) (body : Body) (order : ℕ) → Does name (Begin tx body order) → Parts
  pub votes : (name tx : Draw) (offer : Offer) → Does name (Prepared tx offer) → Parts
  pub offer : (name tx : Draw) (offer : Offer) → Parts → Does name (Prepared tx offer)
  pub vote : (name tx : Draw) (vote : Vote) (by : ℕ) → Parts → Does name (RecordVote tx vote by)
  pub finish : (name tx : Draw) (outcome : Outcome) → Does name (Finish tx outcome)
  pub watched : (name tx : Draw) (watch : Watch) → Does name (Watched tx watch)
  pub watch : (name tx : Draw) (vote : Past) (by : ℕ) → Does name (RecordWatch tx vote by)

-- an affair in which a group that is free is in such a state, and children begin free
pub record BeginsFree (a : Affair) : Type 0 where
  pub free : (name : Draw) (core : Core) → core.lock ≡ Free → a.Is name core
  pub young : (name : Draw) (base : Base) → a.Creates name base → base.core.lock ≡ Free

-- what a mail may say then: no client asks or is answered, an entry is one that stands, and a state, an offer and a vote of a participant come only where other groups have a part
abbrev pub Says : Affair → MailBody → Type 0
Says a (Request group client seq op) = ⊥
Says a (Answer group seq answer) = ⊥
Says a (Learn group slot command) = a.Does group command
Says a (Install group slot base sets) = a.Parts × a.Is group base.core
Says a (TxPrepare tx offer) = a.Parts
Says a (TxVote tx coord part vote) = a.Parts
Says a (Prepare group ballot from_slot) = Unit {0}
Says a (Promise group ballot reports) = Unit {0}
Says a (Accept group ballot slot command) = Unit {0}
Says a (Accepted group ballot slot) = Unit {0}
Says a (Nack group promised) = Unit {0}
Says a (Ask group from_slot) = Unit {0}
Says a (TxOutcome tx part outcome) = Unit {0}
Says a (TxElsewhere tx coord hint) = Unit {0}
Says a (TxWatch tx watch) = Unit {0}
Says a (TxWatched tx coord part vote) = Unit {0}
Says a (Told order result) = Unit {0}

abbrev pub IsGood : Affair → Mail → Type 0
IsGood a mail = Says a mail.body

abbrev pub AreGood : Affair → List Mail → Type 0
AreGood a mails = Each (IsGood a) mails
