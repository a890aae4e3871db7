use Rattle.sc_paxos_law.proofs.Law.{one_value_per_slot, logs_agree}
use Rattle.sc_paxos_law.proofs.one_value_per_slot.Goals as goal

pub returns-clause-value : goal.returns-clause-value
returns-clause-value g c rule first h l = one_value_per_slot rule first h l

pub returns-clause-logs : goal.returns-clause-logs
returns-clause-logs g c rule first h l log other a b n p q = logs_agree rule first h l n log other a b p q
