use Rattle.std.proofs.Common.{◌≡◌, ◌∷◌, ◌++◌, [], rules}
use Rattle.sc_json_fast.proofs.ListTexts.{one_more, items_begin}
use Rattle.sc_json_fast.proofs.lists.items_at.Goals as goal

pub loop-more-preserved : goal.loop-more-preserved
loop-more-preserved g c =
    let pushed : c.push-in-Some.new.self ≡ c.loop-more.items ++ c.in_ok-item.item ∷ [] = search rules in
    let more = one_more g.T.FromText.json_of g.T.FromText.Fits _ _ _ _ c.loop-more.items c.in_ok-item.item c.push-in-Some.new.self c.loop-more.invariant.some c.loop-more.invariant.known c.loop-more.invariant.text c.in-Some.ensures c.in_ok-item.ensures pushed in
    record { text = more.0; some = more.1; known = more.2 }

pub returns : goal.returns
returns g c = items_begin g.T.FromText.json_of g.T.FromText.Fits _ _ _ _ c.loop-more.invariant.known c.loop-more.invariant.text c.in_ok-rest.ensures
