use Rattle.std.proofs.Common.{rules, ◌≡◌, true, false, refl, ap, ◌∙◌, arith}
use Rattle.std.specs.List.{list_any}
use Rattle.sc_thread_workers.specs.Crews.{HaveMet}
use Rattle.sc_thread_workers.specs.RoundEnds.{any_waits}
use Rattle.sc_thread_workers.proofs.Crews.{all_met_later, all_of_on, are_still_looked, are_still_then, still_later}
use Rattle.sc_thread_workers.proofs.Ending.{any_found, gathered_so, waits_same}
use Rattle.sc_thread_workers.proofs.playing.prepare.Goals as goal

pub vouch-requires-clause-exchange : goal.vouch-requires-clause-exchange
vouch-requires-clause-exchange g c κs within =
    all_of_on c.args.net.now c.waiting.new.self c.args.shells.now.items c.meet.new.shells.items (still_later c.args.net.now c.waiting.new.self c.args.shells.now.items c.meet.new.shells.items (are_still_looked c.args.net.now c.meet.new.net c.waiting.new.self c.args.shells.now.items c.meet.new.shells.items c.meet.ensures.still c.waiting.ensures.looked.looked)) c.requires.exchange

pub vouch-requires-clause-met : goal.vouch-requires-clause-met
vouch-requires-clause-met g c κs within =
    let met : HaveMet c.args.net.now c.meet.new.net c.meet.new.shells.items = c.meet.ensures.met in
    all_met_later c.meet.new.net c.waiting.new.self c.meet.new.shells.items c.waiting.ensures.looked.looked met.met

pub returns-in_default-clause-still : goal.returns-in_default-clause-still
returns-in_default-clause-still g c = are_still_looked c.args.net.now c.meet.new.net c.waiting.new.self c.args.shells.now.items c.meet.new.shells.items c.meet.ensures.still c.waiting.ensures.looked.looked

pub returns-then-not-any-clause-still : goal.returns-then-not-any-clause-still
returns-then-not-any-clause-still g c = are_still_then c.args.net.now c.waiting.new.self c.vouch.new.net c.args.shells.now.items c.meet.new.shells.items c.vouch.new.shells.items (are_still_looked c.args.net.now c.meet.new.net c.waiting.new.self c.args.shells.now.items c.meet.new.shells.items c.meet.ensures.still c.waiting.ensures.looked.looked) c.vouch.ensures.still

pub returns-then-not-any-clause-gathered : goal.returns-then-not-any-clause-gathered
returns-then-not-any-clause-gathered g c = gathered_so c.waiting.new.self c.vouch.new.net c.meet.new.shells.items c.vouch.new.shells.items c.waiting.ensures.looked.rows c.waiting.ensures.looked.addressed c.vouch.ensures.still c.vouch.ensures.vouched

pub returns-then-used-limit-clause-still : goal.returns-then-used-limit-clause-still
returns-then-used-limit-clause-still g c = are_still_then c.args.net.now c.waiting.new.self c.vouch.new.net c.args.shells.now.items c.meet.new.shells.items c.vouch.new.shells.items (are_still_looked c.args.net.now c.meet.new.net c.waiting.new.self c.args.shells.now.items c.meet.new.shells.items c.meet.ensures.still c.waiting.ensures.looked.looked) c.vouch.ensures.still

pub returns-then-used-limit-clause-gathered : goal.returns-then-used-limit-clause-gathered
returns-then-used-limit-clause-gathered g c = gathered_so c.waiting.new.self c.vouch.new.net c.meet.new.shells.items c.vouch.new.shells.items c.waiting.ensures.looked.rows c.waiting.ensures.looked.addressed c.vouch.ensures.still c.vouch.ensures.vouched

pub returns-clause-still : goal.returns-clause-still
returns-clause-still g c = are_still_then c.args.net.now c.waiting.new.self c.vouch.new.net c.args.shells.now.items c.meet.new.shells.items c.vouch.new.shells.items (are_still_looked c.args.net.now c.meet.new.net c.waiting.new.self c.args.shells.now.items c.meet.new.shells.items c.meet.ensures.still c.waiting.ensures.looked.looked) c.vouch.ensures.still

pub returns-clause-gathered : goal.returns-clause-gathered
returns-clause-gathered g c = gathered_so c.waiting.new.self c.vouch.new.net c.meet.new.shells.items c.vouch.new.shells.items c.waiting.ensures.looked.rows c.waiting.ensures.looked.addressed c.vouch.ensures.still c.vouch.ensures.vouched

pub returns-then-not-any-clause-end : goal.returns-then-not-any-clause-end
returns-then-not-any-clause-end g c =
    let reported : c.any_of-any.result ≡ false = search rules in
    let none : any_waits c.waiting.new.self c.args.whos.now ≡ false = any_found c.waiting.new.self c.args.whos.now c.in-Ok.found.items c.any_of-any.result c.in-Ok.ensures.waiting (c.any_of-any.ensures ∙ ap (list_any (λ wait. wait)) c.as_slice.ensures.value) ∙ reported in let n = c.vouch.ensures.vouched in (
      n.over,
      waits_same c.waiting.new.self c.vouch.new.net c.args.whos.now c.vouch.ensures.still.looked.stays.exchange.1 n.seen ∙ none,
      refl,
    )

pub returns-then-used-limit-clause-end : goal.returns-then-used-limit-clause-end
returns-then-used-limit-clause-end g c =
    let reported : c.any_of-any.result ≡ true = search rules in
    let some : any_waits c.waiting.new.self c.args.whos.now ≡ true = any_found c.waiting.new.self c.args.whos.now c.in-Ok.found.items c.any_of-any.result c.in-Ok.ensures.waiting (c.any_of-any.ensures ∙ ap (list_any (λ wait. wait)) c.as_slice.ensures.value) ∙ reported in let all : c.args.used ≡ c.args.limit = search rules in let n = c.vouch.ensures.vouched in (
      n.over,
      waits_same c.waiting.new.self c.vouch.new.net c.args.whos.now c.vouch.ensures.still.looked.stays.exchange.1 n.seen ∙ some,
      refl,
      all,
    )

pub returns-clause-begin : goal.returns-clause-begin
returns-clause-begin g c = λ none.
    let reported : c.any_of-any.result ≡ true = search rules in
    let some : any_waits c.waiting.new.self c.args.whos.now ≡ true = any_found c.waiting.new.self c.args.whos.now c.in-Ok.found.items c.any_of-any.result c.in-Ok.ensures.waiting (c.any_of-any.ensures ∙ ap (list_any (λ wait. wait)) c.as_slice.ensures.value) ∙ reported in let n = c.vouch.ensures.vouched in (
      record {
        waits = waits_same c.waiting.new.self c.vouch.new.net c.args.whos.now c.vouch.ensures.still.looked.stays.exchange.1 n.seen ∙ some;
        gathered = returns-clause-gathered g c;
      },
      omega arith,
    )
