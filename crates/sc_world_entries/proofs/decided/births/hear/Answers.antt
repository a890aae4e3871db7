use Rattle.std.proofs.Common.{subst}
use Rattle.sc_world_logs.specs.Known.{Adds}
use Rattle.sc_world_entries.proofs.decided.births.hear.Goals as goal

pub returns-in_ok-add_name-in-Some-clause-heard : goal.returns-in_ok-add_name-in-Some-clause-heard
returns-in_ok-add_name-in-Some-clause-heard c = λ rows after adds heard.
    c.in_ok-add_name-in-Some.ensures _ rows after (subst (λ accepted. Adds accepted rows after) c.in-Some.is adds) heard
