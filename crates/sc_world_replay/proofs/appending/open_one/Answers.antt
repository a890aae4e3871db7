use Rattle.std.proofs.Common.{◌∙◌, ap, arith}
use Rattle.std.specs.List.{prefix_len}
use Rattle.sc_world_replay.proofs.Opens.{below, inserted}
use Rattle.sc_world_replay.proofs.appending.open_one.Goals as goal

pub insert-requires : goal.insert-requires
insert-requires c = omega (arith, c.lower-place.ensures.bound, c.deref.ensures.len)

pub returns : goal.returns
returns c =
    c.in_ok-insert.ensures.items
    ∙ inserted c.args.pending.now.items c.args.copy c.lower-place.result (c.lower-place.ensures.place ∙ ap (prefix_len (below c.args.copy.number)) c.deref.ensures.value)
