-- The choice of a value from reports (Paxos Made Simple, section 2.2, phase 2a).
use Rattle.std.specs.Prelude.{ℕ, Bool, true, ◌&&◌, ◌==◌, nat_lt, List, Option, Some, None, fold, if◌then◌else◌}
use Rattle.std.specs.List.{list_any}
use Rattle.std.specs.Option.{option_map}
use Rattle.sc_words.specs.declared.paxos.reports.Report.{Report}
use Rattle.sc_words.specs.paxos.Ballots.{below}

-- whether a report has a higher ballot than the best so far, or there is none so far
abbrev pub beats : {V : Type 0} → Option (Report V) → Report V → Bool
beats None report = true
beats (Some best) report = below best.ballot report.ballot

-- whether a report names the slot and has a higher ballot than the best so far
abbrev pub is_better : {V : Type 0} → ℕ → Option (Report V) → Report V → Bool
is_better slot best report = report.slot == slot && beats best report

-- the better one of the best report so far and this one
abbrev pub better_of : {V : Type 0} → ℕ → Option (Report V) → Report V → Option (Report V)
better_of slot best report = if is_better slot best report then Some report else best

-- the report of the slot with the highest ballot, and the first one of several with that ballot
abbrev pub choice : {V : Type 0} → ℕ → List (Report V) → Option (Report V)
choice slot = fold (better_of slot) None

-- the value of the chosen report
abbrev pub chosen_value : {V : Type 0} → ℕ → List (Report V) → Option V
chosen_value slot reports = option_map (λ report. report.value) (choice slot reports)

-- whether a report names a slot above this one
abbrev pub names_above : {V : Type 0} → ℕ → List (Report V) → Bool
names_above slot reports = list_any (λ report. nat_lt slot report.slot) reports
