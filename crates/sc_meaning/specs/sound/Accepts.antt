-- What the rows of a journal accept. It is read off the mail that the rows deliver and send, never off what an actor holds.
use Rattle.std.specs.Prelude.{ℕ, Bool, false, ◌==◌, ◌&&◌, List, [], ◌∷◌, ◌++◌, if◌then◌else◌, Option, Some, None}
use Rattle.std.specs.List.{list_any}
use Rattle.sc_node_table.specs.Values.{Draw, Ballot, Command, OrderLine, Mail, MailBody, Accept, Accepted as AcceptedMail, Row, Event, Deliver}
use Rattle.sc_base.specs.Definitions.{same_draw, same_ballot}
use Rattle.sc_actor.specs.Definitions.{numbered}
use Rattle.sc_paxos_law.specs.PaxosLawDefinitions.{Step, Accepted}

-- whether a mail says that its sender accepted at this slot of this group in this ballot
abbrev pub is_accepted : Draw → Ballot → ℕ → MailBody → Bool
is_accepted group ballot slot (AcceptedMail g b s) = same_draw g group && same_ballot b ballot && s == slot
is_accepted group ballot slot _ = false

-- what a row accepts for a group when it delivers a mail: the command of the group's Accept, where the row sends that it accepted in that ballot at that slot
abbrev pub accepts_of : Draw → Row Mail OrderLine → MailBody → List (Step Command)
accepts_of group row (Accept g ballot slot command) =
    if same_draw g group && list_any (λ mail. is_accepted g ballot slot mail.body) row.sent then Accepted row.who ballot slot command ∷ [] else []
accepts_of group row _ = []

-- what a row accepts for a group when it delivers this mail, if there is a mail
abbrev pub accepts_got : Draw → Row Mail OrderLine → Option Mail → List (Step Command)
accepts_got group row None = []
accepts_got group row (Some mail) = accepts_of group row mail.body

-- what a row accepts for a group at its event, where these mails were sent before it
abbrev pub accepts_at : Draw → List Mail → Row Mail OrderLine → Event OrderLine → List (Step Command)
accepts_at group sent row (Deliver mail) = accepts_got group row (numbered sent mail)
accepts_at group sent row _ = []

-- the given steps, with those that these rows accept for a group put before them, newest first, where these mails were sent before the rows
abbrev pub accepts_from : Draw → List Mail → List (Row Mail OrderLine) → List (Step Command) → List (Step Command)
accepts_from group sent [] steps = steps
accepts_from group sent (row ∷ rows) steps = accepts_from group (sent ++ row.sent) rows (accepts_at group sent row row.event ++ steps)

-- what a journal accepts for a group, newest first: the acceptors' steps by which values are chosen (Paxos Made Simple, section 2.2, phase 2b)
abbrev pub accepts : Draw → List (Row Mail OrderLine) → List (Step Command)
accepts group rows = accepts_from group [] rows []
