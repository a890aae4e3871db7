use Rattle.std.proofs.Common.{map, sym, ap, ◌∙◌}
use Rattle.sc_meaning.specs.sound.Accepts.{accepts_got, accepts_at}
use Rattle.sc_world_logs.proofs.accepting.accepted_in.Goals as goal

pub returns-in-Some-clause-none : goal.returns-in-Some-clause-none
returns-in-Some-clause-none c = λ none.
    c.accepted_by.ensures.none
    (λ group.
    ap (accepts_got group c.args.row.now) c.in-Some.ensures
    ∙ ap (accepts_at group (map (λ mail. mail.now) c.args.sent.now) c.args.row.now) (sym c.in-Deliver.is) ∙ none group)
