use Rattle.std.proofs.Common.{◌≡◌, ◌∙◌, ap, sym, arith}
use Rattle.std.specs.List.{prefix_len}
use Rattle.sc_world_replay.proofs.Opens.{below, removed, not_removed, none_removed}
use Rattle.sc_world_replay.proofs.appending.close_one.Goals as goal
use Rattle.sc_world_replay.proofs.appending.close_one.Goals.{else-place-len-via-then-place-len+else-index-number, else-place-len-via-else-place-len}

pub returns-then-index-number : goal.returns-then-index-number
returns-then-index-number c =
    let items = c.args.pending.now.items in
    let place : c.lower-place.result ≡ prefix_len (below c.args.number) items = c.lower-place.ensures.place ∙ ap (prefix_len (below c.args.number)) c.deref.ensures.value in
    c.remove.ensures.items
    ∙ removed c.args.number items c.lower-place.result c.index.result.now place (omega (arith, c.if-place-len.true, c.len.ensures, c.args.pending.now.ok.0)) c.index.ensures c.if-index-number.true

pub returns-else-place-len : goal.returns-else-place-len
returns-else-place-len c =
    let items = c.args.pending.now.items in
    let place : c.lower-place.result ≡ prefix_len (below c.args.number) items = c.lower-place.ensures.place ∙ ap (prefix_len (below c.args.number)) c.deref.ensures.value in
    sym (elim c.else-place-len.branch [
      | else-place-len-via-then-place-len+else-index-number w ↦ not_removed c.args.number items c.lower-place.result w.index.result.now place (omega (arith, w.if-place-len.true, c.len.ensures, c.args.pending.now.ok.0)) w.index.ensures w.if-index-number.false
      | else-place-len-via-else-place-len w ↦ none_removed c.args.number items (omega (arith, w.if-place-len.false, place, c.len.ensures, c.args.pending.now.ok.0))
    ])
