use Rattle.std.proofs.Common.{rules, ◌≡◌, set, get_or, refl, ◌∙◌, subst}
use Rattle.sc_thread_work.specs.shell.Shells.{state}
use Rattle.sc_thread_workers.specs.Crews.{AreStill}
use Rattle.sc_thread_workers.proofs.ChangedLists.{get_any}
use Rattle.sc_thread_drive.specs.Acts.{MetAndHappened}
use Rattle.sc_thread_drive.proofs.ActRows.{event_leaves}
use Rattle.sc_thread_drive.proofs.OneActed.{length_set}
use Rattle.sc_thread_drive.proofs.OneMet.{others_met}
use Rattle.sc_thread_drive.proofs.GatheredExchange.{all_of_acted, kept_acted, sound_after_event, is_event_answer}
use Rattle.sc_thread_drive.proofs.acts.act_on_event.Goals as goal
use Rattle.sc_thread_ports.proofs.ExchangeProofs.Knowing.{looked_trans, stays_trans}

pub returns : goal.returns
returns g c =
    let ss = c.args.company.now.shells.items in let k = c.args.place in let t = c.meet_then_event-turn.new.shell in let mid = c.meet_then_event-turn.new.net in let next = c.gather_after.new.net in let after = c.gather_after.new.shells.items in
    let is : c.index_mut.result.now ≡ get_or ss k t = c.index_mut.ensures.value ∙ get_any ss k c.index_mut.result.now t c.requires.inside in
    let m : MetAndHappened c.args.event c.meet_then_event-turn.result (get_or ss k t) t c.args.company.now.net mid = subst (λ s. MetAndHappened c.args.event c.meet_then_event-turn.result s t c.args.company.now.net mid) is c.meet_then_event-turn.ensures in
    let still : AreStill mid next (set ss k t) after = search rules in
    let gathered = c.gather_after.ensures.gathered in
    record {
      kept = kept_acted c.args.company.now.net mid next ss after k t c.requires.inside c.requires.together.crew.exchange (stays_trans (get_or ss k t).port m.met.port t.port m.still.goes.stays m.stays) m.looked still gathered;
      sound = sound_after_event ss after k m.met t c.requires.inside m.still c.requires.together.crew.sound still.len still.still c.args.event c.meet_then_event-turn.result m.effect_holds;
      answer = is_event_answer (state m.met) (state t) c.args.event c.meet_then_event-turn.result m.effect_holds;
      reported = λ births company.
          event_leaves births c.args.company.now.net mid next ss after k t company c.requires.inside c.requires.together.crew.exchange m.met m.still m.ahead m.stays m.keeps
          (looked_trans c.args.company.now.net mid next m.looked still.looked) (still.len ∙ length_set ss k t) still.still gathered gathered.rows c.args.event c.meet_then_event-turn.result c.requires.event m.effect_holds;
      score = refl;
    }

pub gather_after-requires-clause-exchange : goal.gather_after-requires-clause-exchange
gather_after-requires-clause-exchange g c κs within =
    let ss = c.args.company.now.shells.items in let k = c.args.place in let t = c.meet_then_event-turn.new.shell in let mid = c.meet_then_event-turn.new.net in
    let is : c.index_mut.result.now ≡ get_or ss k t = c.index_mut.ensures.value ∙ get_any ss k c.index_mut.result.now t c.requires.inside in
    let m : MetAndHappened c.args.event c.meet_then_event-turn.result (get_or ss k t) t c.args.company.now.net mid = subst (λ s. MetAndHappened c.args.event c.meet_then_event-turn.result s t c.args.company.now.net mid) is c.meet_then_event-turn.ensures in
    all_of_acted c.args.company.now.net mid ss k t c.requires.inside c.requires.together.crew.exchange (stays_trans (get_or ss k t).port m.met.port t.port m.still.goes.stays m.stays) m.looked

pub gather_after-requires-clause-others : goal.gather_after-requires-clause-others
gather_after-requires-clause-others g c κs within =
    let ss = c.args.company.now.shells.items in let k = c.args.place in let t = c.meet_then_event-turn.new.shell in let mid = c.meet_then_event-turn.new.net in
    let is : c.index_mut.result.now ≡ get_or ss k t = c.index_mut.ensures.value ∙ get_any ss k c.index_mut.result.now t c.requires.inside in
    let m : MetAndHappened c.args.event c.meet_then_event-turn.result (get_or ss k t) t c.args.company.now.net mid = subst (λ s. MetAndHappened c.args.event c.meet_then_event-turn.result s t c.args.company.now.net mid) is c.meet_then_event-turn.ensures in
    others_met c.args.company.now.net mid ss k t c.requires.together.over m.looked
