use Rattle.sc_law_carried.proofs.DeedProofs.PrintedReplies.{printed_are_decided, printed_come_first}
use Rattle.sc_law_carried.proofs.deeds.printed_replies_keep_real_time.Goals as goal

pub returns-clause-decided : goal.returns-clause-decided
returns-clause-decided c = printed_are_decided

pub returns-clause-first : goal.returns-clause-first
returns-clause-first c = printed_come_first
