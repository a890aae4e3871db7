use Rattle.std.proofs.Common.{◌≡◌, ◌∙◌, subst}
use Rattle.sc_actor.specs.Mail.{mails}
use Rattle.sc_world_replay.specs.Stages.{Makes}
use Rattle.sc_world_replay.proofs.checking.take_row.Goals as goal

pub returns-clause-took : goal.returns-clause-took
returns-clause-took g c =
    let sent : c.deref.result.now ≡ mails c.args.stage.now.rows = c.deref.ensures.value ∙ c.requires.kept.all_mails in
    let seats = c.in_ok-append.ensures.seats in
    record {
      did = record {
        row = c.in_ok-made.made;
        makes = subst (λ xs. Makes g.A.Actor.table xs c.args.stage.now.seats.items c.append.new.stage.seats.items c.args.action c.in_ok-made.made) sent (rw seats c.in_ok-made.ensures.makes);
        rows = c.in_ok-append.ensures.rows;
        skipped = c.in_ok-append.ensures.skipped;
        unsettled = c.in_ok-append.ensures.unsettled;
      };
      same = c.is_same.ensures.0 c.if-not-is_same.false;
      kept = c.in_ok-append.ensures.kept;
    }
