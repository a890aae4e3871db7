use Rattle.std.proofs.Common.{ℕ, ◌+◌, ◌<◌, List, is_some, [], length, get_or, drop, arith, sym, ap, ◌∙◌}
use Rattle.sc_node_table.specs.Replica.{ReplicaState, Place, taken_at, may_offer}
use Rattle.sc_node_table.specs.Pump.{pumped_from, found_for, offered}
use Rattle.sc_node_replica.proofs.Rounds.{pumped_from-passed}
use Rattle.sc_node_replica.proofs.Idling.{pumped_from-offered, idle_at, found_for-none, found-some, found-clash}
use Rattle.sc_node_replica.proofs.replica.Replica.pump_from.Goals as goal

pub loop-i-preserved-then-is_taken : goal.loop-i-preserved-then-is_taken
loop-i-preserved-then-is_taken c =
    let within : c.loop-i.i < length c.args.self.now.sets = omega (arith, c.open_slots-i-end.ensures.all, c.loop-i-test.true, c.open_slots-i-end.ensures.four) in
    record {
      same = c.loop-i.invariant.same;
      left = pumped_from-passed c.args.first c.loop-i.i c.args.self.now.sets (c.loop-i.self, c.loop-i.out) within (sym c.is_taken.ensures ∙ c.if-is_taken.true) ∙ c.loop-i.invariant.left;
      idle = λ e.
          (let h = c.loop-i.invariant.idle e in
          (h.0, pumped_from-passed c.args.first c.loop-i.i c.args.self.now.sets (c.args.self.now, []) within (ap (λ (r : ReplicaState). is_some (taken_at r (c.args.first + c.loop-i.i))) (sym h.0) ∙ sym c.is_taken.ensures ∙ c.if-is_taken.true) ∙ h.1));
    }

pub returns-in_err-command-clause-none : goal.returns-in_err-command-clause-none
returns-in_err-command-clause-none c = λ e.
    let within : c.loop-i.i < length c.args.self.now.sets = omega (arith, c.open_slots-i-end.ensures.all, c.loop-i-test.true, c.open_slots-i-end.ensures.four) in
    let same = c.loop-i.invariant.idle e in
    let none = idle_at c.args.first c.loop-i.i c.loop-i.self c.args.self.now within same.0 (sym c.is_taken.ensures ∙ c.if-is_taken.false) (sym c.may_offer.ensures ∙ c.if-not-may_offer.false) same.1 in
    let ok = c.in_err-command.ensures.none (found_for-none (c.args.first + c.loop-i.i) (c.loop-i.self, []) none.0) (ap (λ (place : Place). place.1) none.1) in
    absurd (cc)

pub returns-in_err-offer-clause-none : goal.returns-in_err-offer-clause-none
returns-in_err-offer-clause-none c = λ e.
    let within : c.loop-i.i < length c.args.self.now.sets = omega (arith, c.open_slots-i-end.ensures.all, c.loop-i-test.true, c.open_slots-i-end.ensures.four) in
    let same = c.loop-i.invariant.idle e in
    let none = idle_at c.args.first c.loop-i.i c.loop-i.self c.args.self.now within same.0 (sym c.is_taken.ensures ∙ c.if-is_taken.false) (sym c.may_offer.ensures ∙ c.if-not-may_offer.false) same.1 in
    absurd (found-clash (c.args.first + c.loop-i.i) c.loop-i.self c.loop-i.out c.in-Some.command (c.find_for.new.self, c.find_for.new.out)
    (found-some c.in_ok-command.field-0 c.in-Some.command (c.find_for.new.self, c.find_for.new.out) (found_for (c.args.first + c.loop-i.i) (c.loop-i.self, c.loop-i.out)) c.in-Some.is c.in_ok-command.ensures.found) none.0)

pub loop-i-preserved : goal.loop-i-preserved
loop-i-preserved c =
    let within : c.loop-i.i < length c.args.self.now.sets = omega (arith, c.open_slots-i-end.ensures.all, c.loop-i-test.true, c.open_slots-i-end.ensures.four) in
    let free = sym c.is_taken.ensures ∙ c.if-is_taken.false in
    let may = sym c.may_offer.ensures ∙ c.if-not-may_offer.false in
    let place : Place = (c.loop-i.self, c.loop-i.out) in
    let after : Place = (c.find_for.new.self, c.find_for.new.out) in
    let slot = c.args.first + c.loop-i.i in
    let is = found-some c.in_ok-command.field-0 c.in-Some.command after (found_for slot place) c.in-Some.is c.in_ok-command.ensures.found in
    let kept = c.in_ok-command.ensures.sets ∙ c.loop-i.invariant.same in
    record {
      same = c.in_ok-offer.ensures.sets ∙ kept;
      left =
          ap (λ (p : Place). pumped_from (c.args.first + (c.loop-i.i + 1)) (drop (c.loop-i.i + 1) c.args.self.now.sets) p)
          (c.in_ok-offer.ensures.offered ∙ ap (λ (sets : List (List ℕ)). offered slot (get_or sets c.loop-i.i []) c.in-Some.command after) kept)
          ∙ pumped_from-offered c.args.first c.loop-i.i c.args.self.now.sets place after c.in-Some.command within free
          (ap (λ (sets : List (List ℕ)). may_offer c.loop-i.self (get_or sets c.loop-i.i [])) (sym c.loop-i.invariant.same) ∙ may) is
          ∙ c.loop-i.invariant.left;
      idle = λ e.
          (let same = c.loop-i.invariant.idle e in
          let none = idle_at c.args.first c.loop-i.i c.loop-i.self c.args.self.now within same.0 free may same.1 in
          absurd (found-clash slot c.loop-i.self c.loop-i.out c.in-Some.command after is none.0));
    }
