use Rattle.std.proofs.Common.{rules, ◌≡◌, ◌-◌, Option, Result, Err, None, [], ◌∷◌, ap, subst, ℕ}
use Rattle.sc_actor.specs.Walk.{Settles}
use Rattle.sc_thread_ledger.specs.declared.errors.PostError.{PostError}
use Rattle.sc_thread_ledger.specs.declared.errors.PostError.TheVariants.{JournalFull}
use Rattle.sc_thread_drive.specs.Lowest.{FindsLowest}
use Rattle.sc_thread_drive.proofs.Settled.{cut_settles, line_refused_then, line_rested, line_then, quiet_settles, together_after}
use Rattle.sc_thread_drive.proofs.CompanyActs.{same_stop}
use Rattle.sc_thread_drive.proofs.settle_lines.run_settle.Goals as goal

pub loop-found-init : goal.loop-found-init
loop-found-init g c = record {
  line = line_rested c.args.company.now c.lowest.new.company (Settles c.args.most ∷ []) c.in_ok-found.ensures.rested;
  staffed = (c.requires.staffed.0, (c.in_ok-found.ensures.rested.rests c.requires.staffed.0 c.requires.staffed.1).0);
  finds = c.in_ok-found.ensures.finds;
}

pub settle_step-requires-clause-together : goal.settle_step-requires-clause-together
settle_step-requires-clause-together g c κs within = together_after c.args.company.now c.loop-found.company (Settles c.args.most ∷ []) (Settles c.loop-found.left ∷ []) c.requires.together c.loop-found.invariant.line

pub settle_step-requires-clause-finds : goal.settle_step-requires-clause-finds
settle_step-requires-clause-finds g c κs within = subst (FindsLowest c.loop-found.company.net c.loop-found.company.shells.items) c.in-Some.is c.loop-found.invariant.finds

pub settle_step-requires-clause-staffed : goal.settle_step-requires-clause-staffed
settle_step-requires-clause-staffed g c κs within = c.loop-found.invariant.staffed

pub loop-found-preserved : goal.loop-found-preserved
loop-found-preserved g c =
    let inv = c.loop-found.invariant in let left = c.loop-found.left in let one = c.in_ok-found-2.ensures.goes in record {
      line = line_then c.args.company.now c.loop-found.company c.settle_step.new.company (Settles c.args.most ∷ []) (Settles left ∷ []) (Settles (left - 1) ∷ []) inv.line one.line;
      staffed = (inv.staffed.0, one.staffed inv.staffed.0 inv.staffed.1);
      finds = one.finds;
    }

pub returns-in_default-clause-goes : goal.returns-in_default-clause-goes
returns-in_default-clause-goes g c =
    let inv = c.loop-found.invariant in let mid = c.loop-found.company in let left = c.loop-found.left in
    let none : c.loop-found.found ≡ None = search rules in
    line_then c.args.company.now mid mid (Settles c.args.most ∷ []) (Settles left ∷ []) [] inv.line
    (quiet_settles mid left (together_after c.args.company.now mid (Settles c.args.most ∷ []) (Settles left ∷ []) c.requires.together inv.line) (subst (FindsLowest mid.net mid.shells.items) none inv.finds))

pub returns-then-left-eq0-clause-goes : goal.returns-then-left-eq0-clause-goes
returns-then-left-eq0-clause-goes g c =
    let inv = c.loop-found.invariant in let mid = c.loop-found.company in let left = c.loop-found.left in
    line_then c.args.company.now mid _ (Settles c.args.most ∷ []) (Settles left ∷ []) [] inv.line
    (cut_settles mid left c.in-Some.place (together_after c.args.company.now mid (Settles c.args.most ∷ []) (Settles left ∷ []) c.requires.together inv.line) (search rules) (subst (FindsLowest mid.net mid.shells.items) c.in-Some.is inv.finds))

pub returns-in_err-found-2-clause-fills : goal.returns-in_err-found-2-clause-fills
returns-in_err-found-2-clause-fills g c = λ bytes e.
    let inv = c.loop-found.invariant in let left = c.loop-found.left in
    let stop = c.in_err-found-2.field-0.0 in
    let is : stop ≡ JournalFull bytes = same_stop c.from_residual-in_err-found-2.result stop bytes c.from_residual-in_err-found-2.ensures.1 e in
    let why : (let r : Result (Option ℕ) PostError = Err stop in r) ≡ Err (JournalFull bytes) = ap (λ s. Err s) is in
    line_refused_then c.args.company.now c.loop-found.company c.settle_step.new.company (Settles c.args.most ∷ []) (Settles left ∷ []) inv.line (c.in_err-found-2.ensures.fills bytes why)
