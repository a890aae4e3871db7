use Rattle.std.proofs.Common.{◌≡◌, ◌∙◌, refl, sym, subst}
use Rattle.sc_thread_ledger.specs.Spots.{spots_of}
use Rattle.sc_thread_ports.specs.exchange.Ports.{seen}
use Rattle.sc_thread_ports.proofs.ExchangeProofs.Knowing.{looked_trans}
use Rattle.sc_thread_workers.proofs.Crews.{all_of_later, still_all_go}
use Rattle.sc_thread_workers.proofs.Serving.{numbers_go}
use Rattle.sc_thread_drive.specs.Lowest.{IsFirstPlaced}
use Rattle.sc_thread_drive.proofs.Companies.{company_still}
use Rattle.sc_thread_drive.proofs.FirstCopies.{finds_spots}
use Rattle.sc_thread_drive.proofs.GatheredExchange.{on_gathered}
use Rattle.sc_thread_drive.proofs.settle_lines.look_on.Goals as goal

pub gather-requires-clause-exchange : goal.gather-requires-clause-exchange
gather-requires-clause-exchange g c κs within = all_of_later c.args.company.now.net c.look.new.self c.args.company.now.shells.items c.look.ensures.looked.looked c.requires.together.crew.exchange

pub returns : goal.returns
returns g c =
    let net = c.args.company.now.net in let mid = c.look.new.self in let next = c.gather.new.net in let ss = c.args.company.now.shells.items in let after = c.gather.new.shells.items in let still = c.gather.ensures.still in
    let looked = c.look.ensures.looked.looked in let gathered = c.gather.ensures.gathered in
    let found : IsFirstPlaced after c.as_slice-2.result.now c.first_placed.result = subst (λ l. IsFirstPlaced l c.as_slice-2.result.now c.first_placed.result) c.as_slice.ensures.value c.first_placed.ensures in
    let spots : c.as_slice-2.result.now ≡ spots_of g.A.Mail.Parcel.receiver net.actors (seen mid) = c.as_slice-2.ensures ∙ c.in_ok-look.ensures.look.spots in
    let all : c.as_slice-2.result.now ≡ spots_of g.A.Mail.Parcel.receiver mid.actors (seen mid) = subst (λ n. c.as_slice-2.result.now ≡ spots_of g.A.Mail.Parcel.receiver n (seen mid)) (sym looked.stays.exchange.1) spots in
    record {
      rested = record {
        on = on_gathered net mid next ss after c.requires.together.crew.exchange c.requires.together.crew.sound looked.stays still gathered;
        rests = λ births company. company_still births net next ss after company (looked_trans net mid next looked still.looked) still.len still.still gathered gathered.rows;
        score = refl;
      };
      finds = finds_spots net mid next ss after c.requires.together looked still.len still.still still.looked (numbers_go ss after still.len (still_all_go ss after still.still)) c.as_slice-2.result.now c.first_placed.result all found;
    }
