-- The test whether two commands are equal, part by part.
use Rattle.std.specs.Prelude.{◌≡◌, ℕ, ◌==◌, ◌&&◌, nat_eq, Bool, true, false, List}
use Rattle.std.specs.Bool.{Decides}
use Rattle.std.specs.Cmp.Lexicographic.{pointwise}
use Rattle.std.specs.Option.{option_eq}
use Rattle.sc_base.specs.Definitions.{Arc, same_draw}
use Rattle.sc_base.specs.declared.ops.Noted.{Noted}
use Rattle.sc_base.specs.declared.ops.Op.{Op}
use Rattle.sc_base.specs.declared.ops.Op.TheVariants.{Get, Put, Del, Add, Cas}
use Rattle.sc_words.specs.declared.commands.bodies.Body.{Body}
use Rattle.sc_words.specs.declared.commands.bodies.Body.TheVariants as Has
use Rattle.sc_words.specs.declared.commands.bodies.Offer.{Offer}
use Rattle.sc_words.specs.declared.commands.bodies.Watch.{Watch}
use Rattle.sc_words.specs.declared.commands.commands.Command.{Command}
use Rattle.sc_words.specs.declared.commands.commands.Command.TheVariants.{Noop, Call, Join, Leave, Split, Begin, Prepared, RecordVote, GiveUp, Finish, Watched, RecordWatch}
use Rattle.sc_words.specs.declared.commands.links.Link.{Link}
use Rattle.sc_words.specs.declared.commands.links.Route.{Route}
use Rattle.sc_words.specs.declared.commands.votes.Frozen.{Frozen}
use Rattle.sc_words.specs.declared.commands.votes.Gift.{Gift}
use Rattle.sc_words.specs.declared.commands.votes.No.{No}
use Rattle.sc_words.specs.declared.commands.votes.No.TheVariants.{Busy, Gone, Apart, TooMany}
use Rattle.sc_words.specs.declared.commands.votes.Outcome.{Outcome}
use Rattle.sc_words.specs.declared.commands.votes.Outcome.TheVariants.{Abort, Merged, Moved, Migrated, Divided}
use Rattle.sc_words.specs.declared.commands.votes.Past.{Past}
use Rattle.sc_words.specs.declared.commands.votes.Past.TheVariants as Voted
use Rattle.sc_words.specs.declared.commands.votes.Vote.{Vote}
use Rattle.sc_words.specs.declared.commands.votes.Vote.TheVariants as Says

-- whether two lists of numbers are equal: byte strings, or the members of sets
abbrev pub same_numbers : List ℕ → List ℕ → Bool
same_numbers a b = pointwise nat_eq a b

-- whether two operations are equal
abbrev pub same_op : Op → Op → Bool
same_op (Get k) (Get l) = same_numbers k l
same_op (Put k v) (Put l w) = same_numbers k l && same_numbers v w
same_op (Del k) (Del l) = same_numbers k l
same_op (Add k v) (Add l w) = same_numbers k l && same_numbers v w
same_op (Cas k e v) (Cas l f w) = same_numbers k l && (same_numbers e f && same_numbers v w)
same_op a b = false

-- whether two arcs are equal
abbrev pub same_arc : Arc → Arc → Bool
same_arc a b = (a.lo == b.lo) && (a.len == b.len)

-- whether two links are equal
abbrev pub same_link : Link → Link → Bool
same_link a b = same_draw a.group b.group && same_numbers a.members b.members

-- whether two routes are equal
abbrev pub same_route : Route → Route → Bool
same_route a b = same_draw a.group b.group && ((a.lo == b.lo) && same_numbers a.members b.members)

-- whether two pairs of a key and a value are equal
abbrev pub same_pair : List ℕ × List ℕ → List ℕ × List ℕ → Bool
same_pair a b = same_numbers a.0 b.0 && same_numbers a.1 b.1

-- whether two lists of pairs are equal
abbrev pub same_pairs : List (List ℕ × List ℕ) → List (List ℕ × List ℕ) → Bool
same_pairs a b = pointwise same_pair a b

-- whether two entries of a client table are equal
abbrev pub same_client : ℕ × Noted → ℕ × Noted → Bool
same_client a b = (a.0 == b.0) && ((a.1.seq == b.1.seq) && option_eq same_numbers a.1.reply.old b.1.reply.old)

-- whether two client tables, as lists, are equal
abbrev pub same_clients : List (ℕ × Noted) → List (ℕ × Noted) → Bool
same_clients a b = pointwise same_client a b

-- whether two bodies of transactions are equal
abbrev pub same_body : Body → Body → Bool
same_body Has.Merge Has.Merge = true
same_body (Has.Repart n) (Has.Repart m) = n == m
same_body (Has.Migrate n) (Has.Migrate m) = n == m
same_body (Has.Split n c) (Has.Split m d) = (n == m) && same_draw c d
same_body a b = false

-- whether two offers are equal
abbrev pub same_offer : Offer → Offer → Bool
same_offer a b =
    same_draw a.coord b.coord && (same_draw a.part b.part && (same_arc a.arc b.arc && (same_numbers a.members b.members && (same_body a.body b.body && (a.by == b.by)))))

-- whether two questions to a watcher are equal
abbrev pub same_watch : Watch → Watch → Bool
same_watch a b =
    same_draw a.coord b.coord && (same_numbers a.members b.members && (same_draw a.part b.part && (same_draw a.old b.old && (same_link a.next b.next && (a.by == b.by)))))

-- whether two reasons for a No are equal
abbrev pub same_no : No → No → Bool
same_no (Busy t) (Busy u) = same_draw t u
same_no Gone Gone = true
same_no Apart Apart = true
same_no (TooMany n) (TooMany m) = n == m
same_no a b = false

-- whether two frozen records are equal
abbrev pub same_frozen : Frozen → Frozen → Bool
same_frozen a b =
    same_arc a.arc b.arc && (same_numbers a.members b.members && (same_link a.succ b.succ && (same_pairs a.pairs b.pairs && same_clients a.clients b.clients)))

-- whether two votes of participants are equal
abbrev pub same_vote : Vote → Vote → Bool
same_vote (Says.Yes f) (Says.Yes g) = same_frozen f g
same_vote (Says.No n) (Says.No m) = same_no n m
same_vote a b = false

-- whether two remembered votes are equal
abbrev pub same_past : Past → Past → Bool
same_past Voted.Yes Voted.Yes = true
same_past (Voted.No n) (Voted.No m) = same_no n m
same_past Voted.Ended Voted.Ended = true
same_past a b = false

-- whether two gifts are equal
abbrev pub same_gift : Gift → Gift → Bool
same_gift a b = same_pairs a.pairs b.pairs && same_clients a.clients b.clients

-- whether two outcomes are equal
abbrev pub same_outcome : Outcome → Outcome → Bool
same_outcome Abort Abort = true
same_outcome (Merged r) (Merged s) = same_route r s
same_outcome (Moved n f) (Moved m g) = (n == m) && option_eq same_gift f g
same_outcome (Migrated n) (Migrated m) = n == m
same_outcome Divided Divided = true
same_outcome a b = false

-- whether two commands are equal
abbrev pub same_command : Command → Command → Bool
same_command Noop Noop = true
same_command (Call c n a) (Call d m b) = (c == d) && ((n == m) && same_op a b)
same_command (Join a n) (Join b m) = (a == b) && (n == m)
same_command (Leave a n) (Leave b m) = (a == b) && (n == m)
same_command (Split a c n) (Split b d m) = (a == b) && (same_draw c d && (n == m))
same_command (Begin t a n) (Begin u b m) = same_draw t u && (same_body a b && (n == m))
same_command (Prepared t a) (Prepared u b) = same_draw t u && same_offer a b
same_command (RecordVote t a n) (RecordVote u b m) = same_draw t u && (same_vote a b && (n == m))
same_command (GiveUp t) (GiveUp u) = same_draw t u
same_command (Finish t a) (Finish u b) = same_draw t u && same_outcome a b
same_command (Watched t a) (Watched u b) = same_draw t u && same_watch a b
same_command (RecordWatch t a n) (RecordWatch u b m) = same_draw t u && (same_past a b && (n == m))
same_command a b = false

-- the test of two commands is true exactly where they are equal
abbrev pub DecidesCommands : Type 0
DecidesCommands = (a b : Command) → Decides (same_command a b) (a ≡ b)
