use Rattle.std.proofs.Common.{◌≡◌, length, refl, sym, ◌∙◌, ap, subst}
use Rattle.std.specs.Prelude.{IfSome}
use Rattle.sc_thread_ports.specs.exchange.Ports.{seen}
use Rattle.sc_thread_ports.specs.exchange.Answers.{IsLook}
use Rattle.sc_thread_ports.proofs.ExchangeProofs.Knowing.{looked_trans}
use Rattle.sc_actor.specs.Mail.{mails}
use Rattle.sc_texts.specs.chance.KeyStream.{two_words}
use Rattle.sc_thread_ledger.specs.declared.spots.Look.{Look}
use Rattle.sc_thread_ledger.specs.Spots.{spots_of}
use Rattle.sc_thread_pool.specs.storm.Deeds.{deed_of, deed_line}
use Rattle.sc_thread_workers.proofs.Crews.{all_met_later, all_of_later, still_all_go}
use Rattle.sc_thread_workers.proofs.Serving.{numbers_go}
use Rattle.sc_thread_drive.specs.Goings.{IsCalm}
use Rattle.sc_thread_drive.specs.Storming.{IsStormLine}
use Rattle.sc_thread_drive.proofs.Companies.{company_still}
use Rattle.sc_thread_drive.proofs.FirstCopies.{nothing_more}
use Rattle.sc_thread_drive.proofs.GatheredExchange.{on_gathered}
use Rattle.sc_thread_drive.proofs.StormSteps.{calm_deed, storm_line_is}
use Rattle.sc_thread_drive.proofs.storm_lines.storm_line.Goals as goal

pub gather_again-requires-clause-exchange : goal.gather_again-requires-clause-exchange
gather_again-requires-clause-exchange g c κs within = all_of_later c.args.company.now.net c.glance.new.self c.args.company.now.shells.items c.glance.ensures.looked.looked c.requires.together.crew.exchange

pub gather_again-requires-clause-met : goal.gather_again-requires-clause-met
gather_again-requires-clause-met g c κs within =
    all_met_later c.args.company.now.net c.glance.new.self c.args.company.now.shells.items c.glance.ensures.looked.looked
    (λ k d inside. record { begins = (c.requires.together.over k d inside).begins })

pub returns-clause-rested : goal.returns-clause-rested
returns-clause-rested g c =
    let net = c.args.company.now.net in let mid = c.glance.new.self in let next = c.gather_again.new.net in let ss = c.args.company.now.shells.items in let after = c.gather_again.new.shells.items in let still = c.gather_again.ensures.still in
    let looked = c.glance.ensures.looked.looked in let gathered = c.gather_again.ensures.gathered in
    record {
      on = on_gathered net mid next ss after c.requires.together.crew.exchange c.requires.together.crew.sound looked.stays still gathered;
      rests = λ births company. company_still births net next ss after company (looked_trans net mid next looked still.looked) still.len still.still gathered gathered.rows;
      score = refl;
    }

pub returns-clause-calm : goal.returns-clause-calm
returns-clause-calm g c = subst (λ line. IfSome line IsCalm) (sym c.line.ensures) (calm_deed _ c.deed_at-step.result)

pub returns-clause-line : goal.returns-clause-line
returns-clause-line g c =
    let net = c.args.company.now.net in let mid = c.glance.new.self in let next = c.gather_again.new.net in let ss = c.args.company.now.shells.items in let after = c.gather_again.new.shells.items in let still = c.gather_again.ensures.still in
    let same = numbers_go ss after still.len (still_all_go ss after still.still) in
    let looked = c.glance.ensures.looked.looked in let shown = c.in_ok-glance.ensures.glance in
    let actors_same : net.actors ≡ next.actors = sym (still.looked.stays.exchange.1 ∙ looked.stays.exchange.1) in
    let look : Look = record { sent = length (mails (seen mid)); pending = spots_of g.A.Mail.Parcel.receiver net.actors (seen mid) } in
    let is : IsLook g.A.Mail.Parcel.receiver net.actors (seen mid) look = record { sent = refl; spots = refl; each = shown.each } in
    let deed : c.deed_at-step.result ≡ deed_of c.args.actors.now look (two_words c.args.storm.now.number c.args.storm.now.step) =
    c.deed_at-step.ensures look (record { sent = shown.sent; spot = shown.spot }) ∙ ap (deed_of c.args.actors.now look) c.draw-words.ensures.words in
    let line : c.line.result ≡ deed_line c.deed_at-step.result = c.line.ensures in
    subst (IsStormLine _ next after) (sym (line ∙ ap deed_line deed))
    (storm_line_is c.deeds_are_rows_of_the_walk.ensures next after c.args.actors.now look _ (λ births company. (
      c.requires.actors ∙ (sym same ∙ company.born),
      subst (λ n. IsLook g.A.Mail.Parcel.receiver n (seen next) look) actors_same
          (subst (λ rows. IsLook g.A.Mail.Parcel.receiver net.actors rows look) (sym (nothing_more net mid next ss after c.requires.together looked still.len still.still still.looked same births company)) is),
    )))
