use Rattle.std.proofs.Common.{◌≡◌, ◌++◌, Bool, true, false, not, List, refl, sym, ap, subst, append-nil, ◌∙◌}
use Rattle.sc_meaning.specs.declared.entries.LogEntry.{LogEntry}
use Rattle.sc_world_logs.specs.Known.{Adds}
use Rattle.sc_world_entries.proofs.DecidedProofs.Gained.{nothing_accepted}
use Rattle.sc_world_entries.proofs.decided.entries.after_row.Goals as goal

held : (b : Bool) → not b ≡ false → b ≡ true
held true e = refl
held false e = sym e

pub returns-then-not-groups-clause-entries : goal.returns-then-not-groups-clause-entries
returns-then-not-groups-clause-entries c = λ row is adds heard found. (c.in_ok-found.ensures.0, c.in_ok-found.ensures.1 row is)

pub returns-in-None-clause-entries : goal.returns-in-None-clause-entries
returns-in-None-clause-entries c = λ row is adds heard found.
    let done = nothing_accepted c.args.bases.now c.args.before.now c.args.after.now row c.args.groups is (subst (λ accepted. Adds accepted c.args.before.now c.args.after.now) c.in-None.is adds) (held c.args.groups.settled c.if-not-groups.false) found in
    (done.0, sym (ap (λ (more : List LogEntry). c.args.entries.now.items ++ more) done.1 ∙ append-nil c.args.entries.now.items))

pub returns-in_ok-found-in-Some-clause-entries : goal.returns-in_ok-found-in-Some-clause-entries
returns-in_ok-found-in-Some-clause-entries c = λ row is adds heard found.
    c.in_ok-found-in-Some.ensures row is (subst (λ accepted. Adds accepted c.args.before.now c.args.after.now) c.in-Some.is adds) heard
    (record { known = found.known; settled = λ t. found.settled (held c.args.groups.settled c.if-not-groups.false) })
