-- That hints rise in quiet prefixes of a calm journal, and that rounds are few: what is kept of each group row by row, and what follows of it in quiet.
use Rattle.sc_live_answers.proofs.BallotsProofs.JournalHints.{groups_begin, next_rows}
use Rattle.sc_live_answers.proofs.LedMailProofs.GroupMailLaws.{groups_are_born_as_begun}
use Rattle.sc_live_answers.specs.AnswerDefinitions.{GroupsBeginRising, NextRowsRise, OrdersKeepRounds, RequestsKeepBallots}
use Rattle.sc_live_journals.proofs.MailProofs.MailLemmas.{journals_keep_idle}
use Rattle.sc_live_journals.proofs.GroupsProofs.GroupLemmas.{scenarios_are_well_born}
use Rattle.sc_live_answers.proofs.RestProofs.RoundsSinceQuiet.{orders_keep, requests_keep}

-- At the births each node takes the first member for the leader, and has promised its ballot.
pub groups_begin_rising : GroupsBeginRising
groups_begin_rising = groups_begin groups_are_born_as_begun

-- After each row those that left the group take for the leader the node of the ballot that they promised last, and that one leads still, or has promised a later round; and no replica saw a later ballot than it has promised, once it has taken its mail.
pub next_rows_rise : NextRowsRise
next_rows_rise = next_rows journals_keep_idle scenarios_are_well_born

-- So while an order is under way that was given in quiet.
pub orders_keep_rounds : OrdersKeepRounds
orders_keep_rounds = orders_keep journals_keep_idle scenarios_are_well_born

-- While no order is under way each group keeps its ballot.
pub requests_keep_ballots : RequestsKeepBallots
requests_keep_ballots = requests_keep journals_keep_idle scenarios_are_well_born
