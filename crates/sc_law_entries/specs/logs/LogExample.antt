-- A worked journal whose rows decide in turn: a group is split, and its child serves a call.
use Rattle.std.specs.Prelude.{◌≡◌, ℕ, List, [], ◌∷◌, map, Some, None, if◌then◌else◌}
use Rattle.sc_base.specs.Definitions.{same_draw}
use Rattle.sc_base.specs.declared.names.Ballot.{Ballot}
use Rattle.sc_words.specs.declared.commands.commands.Command.{Command}
use Rattle.sc_words.specs.declared.commands.commands.Command.TheVariants.{Call, Split}
use Rattle.sc_words.specs.declared.commands.cores.Base.{Base}
use Rattle.sc_words.specs.declared.commands.orders.Order.TheVariants as Ordered
use Rattle.sc_words.specs.declared.commands.orders.OrderLine.{OrderLine}
use Rattle.sc_mail.specs.declared.bodies.Mail.{Mail}
use Rattle.sc_mail.specs.declared.bodies.MailBody.{MailBody}
use Rattle.sc_mail.specs.declared.bodies.MailBody.TheVariants.{Request, Accept, Accepted}
use Rattle.sc_actor.specs.declared.rows.Row.{Row}
use Rattle.sc_actor.specs.declared.rows.Event.TheVariants.{Deliver, Told, Go}
use Rattle.sc_law_entries.specs.history.HistoryDefinitions.{parent, offspring, put_a, lone_base, BeginBare}
use Rattle.sc_law_entries.specs.ring.RingDefinitions.{Sources, BeginInPlace}
use Rattle.sc_meaning.specs.sound.SoundDefinitions.{four, mail, row, groups_at, log_at}
use Rattle.sc_law_entries.specs.logs.Descent.{Rows}
use Rattle.sc_law_entries.specs.logs.InTurn.{DecideInTurn}

-- whose names and requests there are: the child's name was drawn for the parent, and clients put x at a
abbrev pub split_sources : Sources
split_sources = record { owner = λ name. if same_draw name offspring then Some parent else None; request = λ client seq. put_a }

-- the groups of the scenario: one group of nodes 1 and 2, which has the whole ring
abbrev pub lone_bases : List Base
lone_bases = lone_base ∷ []

-- the split of the group, whose child has node 2
abbrev pub journal_split : Command
journal_split = Split 1610612736 offspring 1

-- the call of the put, which the child serves
abbrev pub put_a_call : Command
put_a_call = Call 1 1 put_a

-- the first ballot of a node
abbrev pub ballot_of : ℕ → Ballot
ballot_of node = record { round = 1; node = node }

-- a mail with this sender, receiver and body
abbrev pub to : ℕ → ℕ → MailBody → Mail
to from node body = record { from = from; to = node; body = body }

-- node 1 gets the order to split the group, and offers the split to both nodes
abbrev pub offers_split : Row Mail OrderLine
offers_split = row 1 (Told (record { number = 1; order = Ordered.Split parent 1610612736 })) (to 1 1 (Accept parent (ballot_of 1) 1 journal_split) ∷ to 1 2 (Accept parent (ballot_of 1) 1 journal_split) ∷ [])

-- node 1 accepts the split
abbrev pub accepts_split : Row Mail OrderLine
accepts_split = row 1 (Deliver 1) (mail 1 1 (Accepted parent (ballot_of 1) 1))

-- node 2 accepts the split, which is decided by that
abbrev pub decides_split : Row Mail OrderLine
decides_split = row 2 (Deliver 2) (mail 2 1 (Accepted parent (ballot_of 1) 1))

-- a client asks the child
abbrev pub asks_child : Row Mail OrderLine
asks_child = row 33 Go (mail 33 2 (Request offspring 1 1 put_a))

-- node 2, the child's one member, offers the call
abbrev pub offers_put : Row Mail OrderLine
offers_put = row 2 (Deliver 5) (mail 2 2 (Accept offspring (ballot_of 2) 1 put_a_call))

-- node 2 accepts the call, which is decided by that
abbrev pub decides_put : Row Mail OrderLine
decides_put = row 2 (Deliver 6) (mail 2 2 (Accepted offspring (ballot_of 2) 1))

-- the rows of the journal
abbrev pub split_rows : Rows
split_rows = offers_split ∷ accepts_split ∷ decides_split ∷ asks_child ∷ offers_put ∷ decides_put ∷ []

-- the rows decide in turn, from a group in place that holds nothing; the journal has two groups, each with a log of one entry
pub record ExampleInTurn : Type 0 where
  pub start : BeginInPlace split_sources lone_bases
  pub bare : BeginBare lone_bases
  pub turn : DecideInTurn split_sources four lone_bases [] split_rows
  pub groups : map (λ (base : Base). base.core.id) (groups_at four lone_bases split_rows) ≡ parent ∷ offspring ∷ []
  pub first : log_at four lone_bases split_rows parent ≡ journal_split ∷ []
  pub second : log_at four lone_bases split_rows offspring ≡ put_a_call ∷ []
