use Rattle.sc_law_refusal.proofs.RefusalProofs.Journals.{valid_refuse}
use Rattle.sc_law_refusal.proofs.refusal.valid_journals_refuse_with_cause.Goals as goal

pub returns : goal.returns
returns c = valid_refuse c.queues_keep_one_call.ensures
