use Rattle.std.proofs.Common.{rules, ◌≡◌, None, Some, sym, subst}
use Rattle.sc_thread_drive.specs.Lowest.{IsReceiverAt}
use Rattle.sc_thread_drive.specs.Stepping.{IsNowhere, IsPlace}
use Rattle.sc_thread_drive.proofs.LowestMail.{finds_so}
use Rattle.sc_thread_drive.proofs.CompanyActs.{rested_same}
use Rattle.sc_thread_drive.proofs.settle_lines.placed.Goals as goal

pub returns-in_default-clause-found : goal.returns-in_default-clause-found
returns-in_default-clause-found g c =
    let net = c.args.company.now.net in let ss = c.args.company.now.shells.items in record {
      rested = rested_same c.args.company.now c.requires.together;
      finds = finds_so net ss c.args.found None c.requires.first (subst (λ found. IsReceiverAt ss found None) (sym c.in_default.is) tt);
    }

pub returns-in-Some-place_of-clause-found : goal.returns-in-Some-place_of-clause-found
returns-in-Some-place_of-clause-found g c =
    let net = c.args.company.now.net in let ss = c.args.company.now.shells.items in let place = c.in-Some-place_of.place in
    let at : IsPlace ss c.in-Some.who place = subst (λ l. IsPlace l c.in-Some.who place) c.as_slice.ensures.value c.in-Some-place_of.ensures.some in record {
      rested = rested_same c.args.company.now c.requires.together;
      finds = finds_so net ss c.args.found (Some place) c.requires.first
          (subst (λ found. IsReceiverAt ss found (Some place)) (sym c.in-Some.is) at);
    }

pub returns-in-None-clause-none : goal.returns-in-None-clause-none
returns-in-None-clause-none g c = λ none.
    let nowhere : c.place_of.result ≡ None = search rules in
    absurd (none c.in-Some.who c.in-Some.is (subst (λ l. IsNowhere l c.in-Some.who) c.as_slice.ensures.value (c.place_of.ensures.none nowhere)))
