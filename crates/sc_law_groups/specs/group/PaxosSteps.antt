-- The steps of proposers and acceptors that the rows of a journal are. They are read off the mail that the rows deliver and send, never off what an actor holds.
use Rattle.std.specs.Prelude.{ℕ, ◌&&◌, List, [], ◌∷◌, ◌++◌, if◌then◌else◌, Option, Some, None}
use Rattle.std.specs.List.{flat_map}
use Rattle.sc_node_table.specs.Values.{Draw, Ballot, Command, OrderLine, Mail, MailBody, Prepare, Promise, Accept, Row, Event, Deliver}
use Rattle.sc_base.specs.Definitions.{same_draw, same_ballot}
use Rattle.sc_actor.specs.Definitions.{numbered}
use Rattle.sc_paxos_law.specs.PaxosLawDefinitions.{Step, Prepared, Promised, Offered}
use Rattle.sc_meaning.specs.sound.SoundDefinitions.{accepts_at}

-- the steps of a proposer by a mail that it sends: a Prepare of the group asks for promises (Paxos Made Simple, section 2.2, phase 1a), an Accept of the group offers its command (phase 2a)
abbrev pub proposer_steps : Draw → MailBody → List (Step Command)
proposer_steps group (Prepare g ballot from_slot) = if same_draw g group then Prepared ballot from_slot ∷ [] else []
proposer_steps group (Accept g ballot slot command) = if same_draw g group then Offered ballot slot command ∷ [] else []
proposer_steps group _ = []

-- the proposers' steps by these mails, the last one's newest, put before older steps
abbrev pub asked_in : Draw → List Mail → List (Step Command) → List (Step Command)
asked_in group [] older = older
asked_in group (mail ∷ mails) older = asked_in group mails (proposer_steps group mail.body ++ older)

-- the step of a promise by a mail that a row sends, where the row delivers a Prepare of this ballot (Paxos Made Simple, section 2.2, phase 1b)
abbrev pub promised_by : Draw → ℕ → Ballot → ℕ → MailBody → List (Step Command)
promised_by group who ballot from_slot (Promise g b reports) = if same_draw g group && same_ballot b ballot then Promised who ballot from_slot reports ∷ [] else []
promised_by group who ballot from_slot _ = []

-- the promises of a row that delivers this mail
abbrev pub promises_of : Draw → Row Mail OrderLine → MailBody → List (Step Command)
promises_of group row (Prepare g ballot from_slot) = flat_map (λ mail. promised_by group row.who ballot from_slot mail.body) row.sent
promises_of group row _ = []

-- the promises of a row that delivers this mail, if there is a mail
abbrev pub promises_got : Draw → Row Mail OrderLine → Option Mail → List (Step Command)
promises_got group row None = []
promises_got group row (Some mail) = promises_of group row mail.body

-- the promises of a row at its event, where these mails were sent before it
abbrev pub promises_at : Draw → List Mail → Row Mail OrderLine → Event OrderLine → List (Step Command)
promises_at group sent row (Deliver mail) = promises_got group row (numbered sent mail)
promises_at group sent row _ = []

-- the steps of a row put before older steps, newest first: what it promises, what it accepts, and what it asks for
abbrev pub steps_at : Draw → List Mail → Row Mail OrderLine → List (Step Command) → List (Step Command)
steps_at group sent row older = promises_at group sent row row.event ++ accepts_at group sent row row.event ++ asked_in group row.sent older

-- the steps of later rows, newest first, put before older steps, where these mails were sent before the rows
abbrev pub steps_from : Draw → List Mail → List (Row Mail OrderLine) → List (Step Command) → List (Step Command)
steps_from group sent [] steps = steps
steps_from group sent (row ∷ rows) steps = steps_from group (sent ++ row.sent) rows (steps_at group sent row steps)

-- the steps of a journal for a group, newest first
abbrev pub steps : Draw → List (Row Mail OrderLine) → List (Step Command)
steps group rows = steps_from group [] rows []
