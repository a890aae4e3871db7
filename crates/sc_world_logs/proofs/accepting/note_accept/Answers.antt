use Rattle.std.proofs.Common.{◌++◌, ◌∷◌, ◌∙◌, sym, ap}
use Rattle.sc_paxos_law.specs.Steps.{Accepted}
use Rattle.sc_meaning.specs.sound.Accepts.{accepts_of}
use Rattle.sc_world_logs.specs.Acceptances.{steps_of}
use Rattle.sc_world_logs.proofs.Newest.{steps_of-last, taken-one, taken-none}
use Rattle.sc_world_logs.proofs.accepting.note_accept.Goals as goal

pub returns-in_ok-push-in-Accept-clause-found : goal.returns-in_ok-push-in-Accept-clause-found
returns-in_ok-push-in-Accept-clause-found c =
    ap steps_of c.in_ok-push-in-Accept.ensures.items ∙ steps_of-last c.args.found.now.items _
    ∙ ap (λ command. Accepted c.args.row.now.who c.in-Accept.ballot c.in-Accept.slot command ∷ steps_of c.args.found.now.items) c.in_ok-command-in-Accept.ensures
    ∙ ap (λ steps. steps ++ steps_of c.args.found.now.items)
    (sym (ap (accepts_of c.args.group c.args.row.now) c.in-Accept.is ∙ taken-one c.args.group c.args.row.now c.in-Accept.of c.in-Accept.ballot c.in-Accept.slot _ (sym c.is_taken.ensures ∙ c.if-is_taken.true)))

pub returns-else-is_taken-clause-found : goal.returns-else-is_taken-clause-found
returns-else-is_taken-clause-found c =
    ap (λ steps. steps ++ steps_of c.args.found.now.items)
    (sym (ap (accepts_of c.args.group c.args.row.now) c.in-Accept.is ∙ taken-none c.args.group c.args.row.now c.in-Accept.of c.in-Accept.ballot c.in-Accept.slot _ (sym c.is_taken.ensures ∙ c.if-is_taken.false)))
