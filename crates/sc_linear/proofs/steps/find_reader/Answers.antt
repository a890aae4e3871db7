use Rattle.std.proofs.Common.{get_or, subst}
use Rattle.std.proofs.lemmas.List.{get_or_read}
use Rattle.sc_linear_law.proofs.ListFacts.{among_get, each_get}
use Rattle.sc_linear.specs.Standing.{IsUnder, blank}
use Rattle.sc_linear.specs.Steps.{CanRead}
use Rattle.sc_linear.proofs.steps.find_reader.Goals as goal

-- src/steps.rt:83:13
pub returns-then-is_reader : goal.returns-then-is_reader
returns-then-is_reader c =
    let x = get_or c.args.under.now c.loop-x.x-index 0 in
    let here : IsUnder c.args.requests.now c.args.line x = each_get (IsUnder c.args.requests.now c.args.line) c.args.under.now c.loop-x.x-index 0 c.requires c.loop-x-test.true in
    record {
      among = among_get c.args.under.now c.loop-x.x-index 0 c.loop-x-test.true;
      reads = subst (λ r. CanRead r x c.args.place.now) (get_or_read c.args.requests.now x c.index-requests-x.result here.within c.index-requests-x.is blank) (c.is_reader.ensures c.if-is_reader.true);
    }
