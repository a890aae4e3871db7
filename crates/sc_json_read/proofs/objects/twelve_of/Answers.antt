use Rattle.std.proofs.Common.{◌≡◌, sym, ap₂, subst}
use Rattle.serde_json.specs.Data.{member, no_members}
use Rattle.serde_json.specs.View.{members_view}
use Rattle.sc_json_read.specs.Reading.{Finds}
use Rattle.sc_json_read.proofs.Finding.{failed}
use Rattle.sc_json_read.proofs.Rests.{inside, behind_six}
use Rattle.sc_json_read.proofs.objects.twelve_of.Goals as goal

pub returns-in_err-ended-clause-finds : goal.returns-in_err-ended-clause-finds
returns-in_err-ended-clause-finds g c = λ a b c' d e f g' h i j k l fa fb fc fd fe ff fg fh fi fj fk fl same.
    let first = inside _ _ _ c.in_ok-members.ensures.exact same in
    let after : members_view c.six_next.new.members ≡ member c.args.lasts.0.now (g.G.FromJson.json_of g') (member c.args.lasts.1.now (g.H.FromJson.json_of h) (member c.args.lasts.2.now (g.I.FromJson.json_of i) (member c.args.lasts.3.now (g.J.FromJson.json_of j) (member c.args.lasts.4.now (g.K.FromJson.json_of k) (member c.args.lasts.5.now (g.L.FromJson.json_of l) no_members))))) = behind_six _ _ _ _ _ _ _ _ _ _ _ _ _ _ _ _ _ _ _ _ _ c.in_ok-begun.ensures.exact first in
    failed _ _ _ c.from_residual-in_err-ended.ensures (c.in_err-ended.ensures.finds g' h i j k l no_members fg fh fi fj fk fl after)

pub returns-clause-finds : goal.returns-clause-finds
returns-clause-finds g c = λ a b c' d e f g' h i j k l fa fb fc fd fe ff fg fh fi fj fk fl same.
    let first = inside _ _ _ c.in_ok-members.ensures.exact same in
    let after : members_view c.six_next.new.members ≡ member c.args.lasts.0.now (g.G.FromJson.json_of g') (member c.args.lasts.1.now (g.H.FromJson.json_of h) (member c.args.lasts.2.now (g.I.FromJson.json_of i) (member c.args.lasts.3.now (g.J.FromJson.json_of j) (member c.args.lasts.4.now (g.K.FromJson.json_of k) (member c.args.lasts.5.now (g.L.FromJson.json_of l) no_members))))) = behind_six _ _ _ _ _ _ _ _ _ _ _ _ _ _ _ _ _ _ _ _ _ c.in_ok-begun.ensures.exact first in
    let end : members_view c.six_next-2.new.members ≡ no_members = behind_six _ _ _ _ _ _ _ _ _ _ _ _ _ _ _ _ _ _ _ _ _ c.in_ok-ended.ensures.exact after in
    let begun = c.in_ok-begun.ensures.finds a b c' d e f _ fa fb fc fd fe ff first in
    let ended = c.in_ok-ended.ensures.finds g' h i j k l no_members fg fh fi fj fk fl after in
    subst (Finds _) (sym (c.at_end.ensures.finds end)) (ap₂ (λ x y. (x, y)) begun ended)
