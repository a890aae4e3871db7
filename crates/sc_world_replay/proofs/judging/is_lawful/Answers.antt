use Rattle.std.proofs.Common.{subst, sym}
use Rattle.std.specs.Prelude.{◌↔◌, IsTrue}
use Rattle.sc_actor.specs.System.{system}
use Rattle.sc_actor.specs.Walk.{IsLawful}
use Rattle.sc_texts.specs.chance.KeyStream.{two_words}
use Rattle.sc_world_replay.proofs.Judged.{judged}
use Rattle.sc_world_replay.proofs.judging.is_lawful.Goals as goal

pub returns-clause-lawful : goal.returns-clause-lawful
returns-clause-lawful g c =
    let s = system g.A.Actor.table g.A.Mail.Parcel.receiver two_words c.args.seats.items in
    subst (λ b. IsTrue b ↔ IsLawful s c.args.lines.now c.args.rows.now) (sym c.says_lawful.ensures) (judged s c.args.lines.now c.args.rows.now c.in_ok-verdict.verdict c.in_ok-verdict.ensures.replayed)
