use Rattle.std.proofs.Common.{rules, ◌≡◌, set, get_or, refl, ◌∙◌, subst}
use Rattle.sc_thread_workers.specs.Crews.{AreStill}
use Rattle.sc_thread_workers.proofs.ChangedLists.{get_any}
use Rattle.sc_thread_drive.specs.Acts.{MetAndTook}
use Rattle.sc_thread_drive.proofs.ActRows.{turn_leaves}
use Rattle.sc_thread_drive.proofs.OneActed.{length_set}
use Rattle.sc_thread_drive.proofs.OneMet.{others_met}
use Rattle.sc_thread_drive.proofs.GatheredExchange.{all_of_acted, kept_acted, sound_after_turn}
use Rattle.sc_thread_drive.proofs.acts.act_by_turn.Goals as goal
use Rattle.sc_thread_ports.proofs.ExchangeProofs.Knowing.{looked_trans, stays_trans}

pub returns-clause-served : goal.returns-clause-served
returns-clause-served g c =
    let ss = c.args.company.now.shells.items in let k = c.args.place in let t = c.meet_then_turn-turn.new.shell in let mid = c.meet_then_turn-turn.new.net in let next = c.gather_after-found.new.net in let after = c.gather_after-found.new.shells.items in
    let is : c.index_mut.result.now ≡ get_or ss k t = c.index_mut.ensures.value ∙ get_any ss k c.index_mut.result.now t c.requires.inside in
    let m : MetAndTook c.args.k c.meet_then_turn-turn.result (get_or ss k t) t c.args.company.now.net mid = subst (λ s. MetAndTook c.args.k c.meet_then_turn-turn.result s t c.args.company.now.net mid) is c.meet_then_turn-turn.ensures in
    let still : AreStill mid next (set ss k t) after = search rules in
    let gathered = c.gather_after-found.ensures.gathered in
    record {
      kept = kept_acted c.args.company.now.net mid next ss after k t c.requires.inside c.requires.together.crew.exchange (stays_trans (get_or ss k t).port m.met.port t.port m.still.goes.stays m.stays) m.looked still gathered;
      sound = sound_after_turn ss after k m.met t c.requires.inside m.still c.requires.together.crew.sound still.len still.still c.args.k c.meet_then_turn-turn.result m.effect_holds.0;
      served = λ births company.
          turn_leaves births c.args.company.now.net mid next ss after k t company c.requires.inside c.requires.together.crew.exchange m.met m.still m.ahead m.stays m.keeps
          (looked_trans c.args.company.now.net mid next m.looked still.looked) (still.len ∙ length_set ss k t) still.still gathered gathered.rows c.args.k c.meet_then_turn-turn.result m.effect_holds.0 m.effect_holds.1;
      score = refl;
    }

pub gather_after-found-requires-clause-exchange : goal.gather_after-found-requires-clause-exchange
gather_after-found-requires-clause-exchange g c κs within =
    let ss = c.args.company.now.shells.items in let k = c.args.place in let t = c.meet_then_turn-turn.new.shell in let mid = c.meet_then_turn-turn.new.net in
    let is : c.index_mut.result.now ≡ get_or ss k t = c.index_mut.ensures.value ∙ get_any ss k c.index_mut.result.now t c.requires.inside in
    let m : MetAndTook c.args.k c.meet_then_turn-turn.result (get_or ss k t) t c.args.company.now.net mid = subst (λ s. MetAndTook c.args.k c.meet_then_turn-turn.result s t c.args.company.now.net mid) is c.meet_then_turn-turn.ensures in
    all_of_acted c.args.company.now.net mid ss k t c.requires.inside c.requires.together.crew.exchange (stays_trans (get_or ss k t).port m.met.port t.port m.still.goes.stays m.stays) m.looked

pub gather_after-found-requires-clause-others : goal.gather_after-found-requires-clause-others
gather_after-found-requires-clause-others g c κs within =
    let ss = c.args.company.now.shells.items in let k = c.args.place in let t = c.meet_then_turn-turn.new.shell in let mid = c.meet_then_turn-turn.new.net in
    let is : c.index_mut.result.now ≡ get_or ss k t = c.index_mut.ensures.value ∙ get_any ss k c.index_mut.result.now t c.requires.inside in
    let m : MetAndTook c.args.k c.meet_then_turn-turn.result (get_or ss k t) t c.args.company.now.net mid = subst (λ s. MetAndTook c.args.k c.meet_then_turn-turn.result s t c.args.company.now.net mid) is c.meet_then_turn-turn.ensures in
    others_met c.args.company.now.net mid ss k t c.requires.together.over m.looked
