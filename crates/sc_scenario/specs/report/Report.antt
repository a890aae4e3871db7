-- The text of a report, line by line.
use Rattle.std.specs.Prelude.{ℕ, suc, ◌+◌, Bool, true, false, List, [], ◌∷◌, ◌++◌, length, map, codes, count_by, Option, Some, None}
use Rattle.std.specs.Fmt.{decimal}
use Rattle.sc_base.specs.declared.ops.Op.{Op}
use Rattle.sc_base.specs.declared.ops.Op.TheVariants.{Get, Put, Del, Add, Cas}
use Rattle.sc_words.specs.commands.CommandDefinitions.{code_of, refusal_name}
use Rattle.sc_words.specs.declared.commands.links.Route.{Route}
use Rattle.sc_words.specs.declared.commands.orders.OrderResult.{OrderResult}
use Rattle.sc_words.specs.declared.commands.orders.OrderResult.TheVariants.{Done, Committed, Aborted, Refused}
use Rattle.sc_scenario.specs.declared.report.summaries.Progress.{Progress}
use Rattle.sc_scenario.specs.declared.report.summaries.Progress.TheVariants.{Unsent, Unanswered, Replied}
use Rattle.sc_scenario.specs.declared.report.summaries.Asked.{Asked}
use Rattle.sc_scenario.specs.declared.report.summaries.Summary.{Summary}

-- a line: its text and a line feed
abbrev pub with_line_feed : List ℕ → List ℕ
with_line_feed text = text ++ 10 ∷ []

-- the line of a label and a number
abbrev pub count_line : List ℕ → ℕ → List ℕ
count_line label n = with_line_feed (label ++ decimal n)

-- the word for an operation
abbrev pub op_word : Op → List ℕ
op_word (Get key) = codes "get"
op_word (Put key value) = codes "put"
op_word (Del key) = codes "del"
op_word (Add key value) = codes "add"
op_word (Cas key expect value) = codes "cas"

-- the text of a request, `WHAT C N OP`
abbrev pub request : List ℕ → Asked → List ℕ
request what asked = what ++ decimal asked.client ++ codes " " ++ decimal asked.seq ++ codes " " ++ op_word asked.op

-- the line of a request and its reply
abbrev pub replied : Option (List ℕ) → Asked → List ℕ
replied None asked = with_line_feed (request (codes "reply ") asked ++ codes " none")
replied (Some old) asked = with_line_feed (request (codes "reply ") asked ++ codes " value " ++ old)

-- the line of a request, by how far it came
abbrev pub got_line : Progress → Asked → List ℕ
got_line Unsent asked = with_line_feed (request (codes "unsent ") asked)
got_line Unanswered asked = with_line_feed (request (codes "unanswered ") asked)
got_line (Replied reply) asked = replied reply.old asked

-- the line of a request
abbrev pub asked_line : Asked → List ℕ
asked_line asked = got_line asked.got asked

-- whether a request has a reply
abbrev pub is_replied : Progress → Bool
is_replied (Replied reply) = true
is_replied Unsent = false
is_replied Unanswered = false

-- the line of a brief report that counts the requests, `answered A of R`
abbrev pub answered_line : List Asked → List ℕ
answered_line asked = with_line_feed (codes "answered " ++ decimal (count_by (λ one. is_replied one.got) asked) ++ codes " of " ++ decimal (length asked))

-- the lines of the requests, or the one line of a brief report
abbrev pub asked_lines : Bool → List Asked → List (List ℕ)
asked_lines true asked = answered_line asked ∷ []
asked_lines false asked = map asked_line asked

-- the line of an order, `order I WHAT`
abbrev pub order_state_line : ℕ → Option OrderResult → List ℕ
order_state_line number None = with_line_feed (codes "order " ++ decimal number ++ codes " open")
order_state_line number (Some Done) = with_line_feed (codes "order " ++ decimal number ++ codes " done")
order_state_line number (Some Committed) = with_line_feed (codes "order " ++ decimal number ++ codes " committed")
order_state_line number (Some Aborted) = with_line_feed (codes "order " ++ decimal number ++ codes " aborted")
order_state_line number (Some (Refused why)) =
    with_line_feed (codes "order " ++ decimal number ++ codes " refused " ++ decimal (code_of why) ++ codes " " ++ refusal_name why)

-- the lines of orders, numbered from `number` on
abbrev pub order_state_lines : ℕ → List (Option OrderResult) → List (List ℕ)
order_state_lines number [] = []
order_state_lines number (order_result ∷ more) = order_state_line number order_result ∷ order_state_lines (suc number) more

-- a text followed by each node after a blank
abbrev pub with_nodes : List ℕ → List ℕ → List ℕ
with_nodes text [] = text
with_nodes text (node ∷ nodes) = with_nodes (text ++ codes " " ++ decimal node) nodes

-- the line of a group of the ring, `ring LO group A.B members N1 .. Nk`
abbrev pub ring_line : Route → List ℕ
ring_line route =
    with_line_feed (with_nodes (codes "ring " ++ decimal route.lo ++ codes " group " ++ decimal route.group.node ++ codes "." ++ decimal route.group.count ++ codes " members") route.members)

-- the line that says whether no mail is pending
abbrev pub quiet_line : Bool → List ℕ
quiet_line true = with_line_feed (codes "quiet yes")
quiet_line false = with_line_feed (codes "quiet no")

-- the lines of counts
abbrev pub counts : Summary → List (List ℕ)
counts summary =
    count_line (codes "rows ") summary.rows ∷ count_line (codes "mail ") summary.mail ∷ count_line (codes "delivered ") summary.delivered
    ∷ count_line (codes "skipped ") summary.skipped ∷ quiet_line summary.quiet ∷ []

-- the lines of a report
abbrev pub report_lines : Summary → List (List ℕ)
report_lines summary =
    (count_line (codes "scatter report ") summary.version ∷ []) ++ asked_lines summary.brief summary.asked ++ order_state_lines 1 summary.orders
    ++ map ring_line summary.ring ++ counts summary
