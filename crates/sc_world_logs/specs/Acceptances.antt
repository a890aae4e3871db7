-- The acceptances that code reads off a journal, as steps of acceptors.
use Rattle.std.specs.Prelude.{◌≡◌, ℕ, ⊤, Bool, true, false, ◌==◌, ◌&&◌, List, [], ◌∷◌, map, reverse, if◌then◌else◌, Option, Some, None}
use Rattle.sc_base.specs.Same.{same_draw, same_ballot}
use Rattle.sc_base.specs.declared.names.Ballot.{Ballot}
use Rattle.sc_base.specs.declared.names.Draw.{Draw}
use Rattle.sc_words.specs.declared.commands.commands.Command.{Command}
use Rattle.sc_base.specs.Majority.{is_majority}
use Rattle.sc_words.specs.declared.paxos.reports.Report.{Report}
use Rattle.sc_paxos_law.specs.Decided.{voters_of, lesser_of}
use Rattle.sc_paxos_law.specs.Steps.{Step, Accepted}
use Rattle.sc_world_logs.specs.declared.accepting.Acceptance.{Acceptance}

-- an acceptance as a step
abbrev pub step_of : Acceptance → Step Command
step_of acceptance = Accepted acceptance.node acceptance.ballot acceptance.slot acceptance.command

-- acceptances in the order of their rows, as steps, newest first
abbrev pub steps_of : List Acceptance → List (Step Command)
steps_of acceptances = reverse (map step_of acceptances)

-- the steps that a row adds to a group's: what the row accepted, if it did so for this group
abbrev pub steps_by : Draw → Option (Draw × Acceptance) → List (Step Command)
steps_by group None = []
steps_by group (Some accepted) = if same_draw accepted.0 group then step_of accepted.1 ∷ [] else []

-- an acceptance as a report of it
abbrev pub report_of : Acceptance → Report Command
report_of acceptance = record { slot = acceptance.slot; ballot = acceptance.ballot; value = acceptance.command }

-- whether an acceptance is a node's at a slot in a ballot
abbrev pub is_vote : Ballot → ℕ → ℕ → Acceptance → Bool
is_vote ballot slot node here = (here.node == node) && (same_ballot here.ballot ballot && (here.slot == slot))

-- a majority of the members accepted at the slot in the ballot of the acceptance that was found, if one was
abbrev pub IsFoundChosen : List ℕ → List (Step Command) → ℕ → Option Acceptance → Type 0
IsFoundChosen members h slot None = ⊤
IsFoundChosen members h slot (Some found) = is_majority members (voters_of h found.ballot slot) ≡ true

-- where the flag holds, the given report or the one found, whichever has the lesser ballot; else the one found
abbrev pub with_chosen : Bool → Report Command → Option (Report Command) → Option (Report Command)
with_chosen true here least = Some (lesser_of here least)
with_chosen false here least = least
