use Rattle.std.proofs.Common.{◌<◌, List, length, refl, sym, ◌∙◌, subst, arith}
use Rattle.std.proofs.lemmas.Bool.{and_parts}
use Rattle.std.proofs.lemmas.List.{length-set}
use Rattle.sc_base.specs.Among.{Each}
use Rattle.sc_world_logs.specs.Known.{IsKnown, IsTaken}
use Rattle.sc_world_logs.specs.declared.known.Known.{Known}
use Rattle.sc_world_entries.specs.decided.Found.{HoldKnown, StayKnown}
use Rattle.sc_world_entries.proofs.DecidedProofs.Gained.{hold_push, stay_push}
use Rattle.sc_world_entries.proofs.DecidedProofs.InPlace.{left_next, all_taken, taken_next}
use Rattle.sc_world_entries.proofs.decided.entries.take_each.Goals as goal

pub loop-known-init : goal.loop-known-init
loop-known-init c = record {
  long = refl;
  taken = λ rows later adds. record {
    holds = λ holds each. record { same = refl; each = tt };
    calm = λ calm each. record { hold = record { same = refl; each = tt }; children = tt };
  };
  left = refl;
}

pub loop-known-preserved : goal.loop-known-preserved
loop-known-preserved c =
    let inv = c.loop-known.invariant in let old = c.args.knowns.now in let now = c.loop-known.knowns in let i = c.loop-known.known-index in let x = c.known-item.result in let y = c.take_in.new.known in
    let lt : i < length now = omega (arith, c.loop-known-test.true) in record {
      long = length-set now i y ∙ inv.long;
      taken = λ rows later adds.
          let so_far = inv.taken rows later adds in
          let one = subst (λ (k : Known). IsKnown rows k → IsTaken rows later c.in_ok-taking.taking k y) (sym c.known-item.is) (λ is. c.in_ok-taking.ensures.known rows later adds is) in
          record {
            holds = λ holds. let parts = and_parts c.loop-known.holds c.in_ok-taking.taking.holds (sym c.both-holds.ensures ∙ holds) in
                taken_next old now i lt inv.long inv.left (λ (ks ls : List Known). Each (IsKnown rows) ks → HoldKnown later ks ls) x y c.known-item.is
                (λ before all. hold_push rows later _ _ x y all before (λ is. (one is).holds parts.1)) (so_far.holds parts.0);
            calm = λ calm. let parts = and_parts c.loop-known.calm c.in_ok-taking.taking.calm (sym c.both-calm.ensures ∙ calm) in
                taken_next old now i lt inv.long inv.left (λ (ks ls : List Known). Each (IsKnown rows) ks → StayKnown rows later ks ls) x y c.known-item.is
                (λ before all. stay_push rows later _ _ x y all before (λ is. (one is).calm parts.1)) (so_far.calm parts.0);
          };
      left = left_next old now i lt inv.long inv.left y;
    }

pub returns : goal.returns
returns c = λ rows later adds. let inv = c.loop-known.invariant in let so_far = inv.taken rows later adds in record {
  holds = λ holds. all_taken (λ (ks ls : List Known). Each (IsKnown rows) ks → HoldKnown later ks ls) c.args.knowns.now c.loop-known.knowns c.loop-known.known-index (omega (arith, c.loop-known-test.false)) inv.long (so_far.holds holds);
  calm = λ calm. all_taken (λ (ks ls : List Known). Each (IsKnown rows) ks → StayKnown rows later ks ls) c.args.knowns.now c.loop-known.knowns c.loop-known.known-index (omega (arith, c.loop-known-test.false)) inv.long (so_far.calm calm);
}
