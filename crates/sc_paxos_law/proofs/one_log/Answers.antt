use Rattle.sc_paxos_law.proofs.Decided.{log_of-longest, prefix_of_log, log_grows, least_stands}
use Rattle.sc_paxos_law.proofs.one_log.Goals as goal

pub returns-clause-longest : goal.returns-clause-longest
returns-clause-longest g c = record {
  is_log = λ rule first h l. (log_of-longest rule first h l).0;
  longest = λ rule first h l other b. prefix_of_log rule first h l other b;
}

pub returns-clause-grows : goal.returns-clause-grows
returns-clause-grows g c rule first newer h l = log_grows rule first newer h l

pub returns-clause-least : goal.returns-clause-least
returns-clause-least g c = least_stands
