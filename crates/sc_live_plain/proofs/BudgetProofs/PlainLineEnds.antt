-- No line of a plain scenario at its budget is cut off with mail pending.
use Rattle.std.proofs.Common.{ℕ, ◌+◌, ◌*◌, ◌≤◌, List, [], ◌∷◌, map, arith}
use Rattle.sc_base.specs.Definitions.{Each}
use Rattle.sc_node_table.specs.Values.{OrderLine, Mail}
use Rattle.sc_actor.specs.Definitions.{mails, System}
use Rattle.sc_words.proofs.PaxosProofs.PaxosLemmas.{Each-weaker}
use Rattle.sc_node_table.specs.NodeDefinitions.{last_slot}
use Rattle.sc_scenario.specs.scenario.Definitions.{IsBounded, ValidScenariosAreBounded}
use Rattle.sc_scenario.specs.declared.scenario.scenarios.Scenario.{Scenario}
use Rattle.sc_scenario.specs.declared.scenario.scenarios.SchedLine.{SchedLine}
use Rattle.sc_scenario.specs.declared.scenario.scenarios.SchedLine.TheVariants.{Go, Deliver, Drop, Again, Tick, Crash, Told, Settle, Free, Storm}
use Rattle.sc_meaning.specs.sound.SoundDefinitions.{Player, line_of, schedule, system_of, as_nodes}
use Rattle.sc_live_orderly.specs.OrderlyDefinitions.{IsPlainLine, HasRoom, owed_at_birth}
use Rattle.sc_live_orderly.proofs.OrderlyLemmas.{never_cut_by}
use Rattle.sc_live_plain.specs.PlainDefinitions.{AllowsDeliveries, budget_of, mail_owes, IsBegun, IsPlainMail, PlainLinesEndQuiet}
use Rattle.sc_live_plain.proofs.PlainProofs.InductionBase.{birth_within, birth_few, journal_at_birth}
use Rattle.sc_live_plain.proofs.PlainProofs.PlainInduction.{owing_of}
use Rattle.sc_live_plain.proofs.PlainProofs.PlainBeginnings.{frames_of, stage}
use Rattle.sc_live_plain.proofs.PlainProofs.PlainJournals.{plain_journal}
use Rattle.sc_live_plain.proofs.PlainProofs.PlainSetting.{is_linked}
use Rattle.sc_live_plain.proofs.PlainProofs.PlainClientPotential.{some_owed}

-- lines at a budget are plain
pub lines_plain : (budget : ℕ) (lines : List SchedLine) → Each (AllowsDeliveries budget) lines → Each IsPlainLine (map line_of lines)
lines_plain budget [] at = tt
lines_plain budget (Go client ∷ lines) at = (tt, lines_plain budget lines at.1)
lines_plain budget (Settle most ∷ lines) at = (tt, lines_plain budget lines at.1)
lines_plain budget (Free most workers ∷ lines) at = (tt, lines_plain budget lines at.1)
lines_plain budget (Deliver who k ∷ lines) at = (at.0.0, lines_plain budget lines at.1)
lines_plain budget (Drop who k ∷ lines) at = absurd at.0
lines_plain budget (Again mail ∷ lines) at = absurd at.0
lines_plain budget (Tick who ∷ lines) at = absurd at.0
lines_plain budget (Crash node ∷ lines) at = absurd at.0
lines_plain budget (Told node order ∷ lines) at = absurd at.0
lines_plain budget (Storm number most ∷ lines) at = absurd at.0

-- lines of deliveries have room for all that is owed
pub lines_roomy : (budget total : ℕ) (lines : List SchedLine) → total ≤ budget → Each (AllowsDeliveries budget) lines → Each (HasRoom total) (map line_of lines)
lines_roomy budget total [] low at = tt
lines_roomy budget total (Go client ∷ lines) low at = (tt, lines_roomy budget total lines low at.1)
lines_roomy budget total (Settle most ∷ lines) low at = (let room = at.0 in omega (arith, low, room), lines_roomy budget total lines low at.1)
lines_roomy budget total (Free most workers ∷ lines) low at = (let room = at.0 in omega (arith, low, room), lines_roomy budget total lines low at.1)
lines_roomy budget total (Deliver who k ∷ lines) low at = (tt, lines_roomy budget total lines low at.1)
lines_roomy budget total (Drop who k ∷ lines) low at = absurd at.0
lines_roomy budget total (Again mail ∷ lines) low at = absurd at.0
lines_roomy budget total (Tick who ∷ lines) low at = absurd at.0
lines_roomy budget total (Crash node ∷ lines) low at = absurd at.0
lines_roomy budget total (Told node order ∷ lines) low at = absurd at.0
lines_roomy budget total (Storm number most ∷ lines) low at = absurd at.0

-- what is owed at birth keeps far from the last slot
pub far_from_last : (words : ℕ → ℕ → ℕ × ℕ) (scenario : Scenario) (bounded : IsBounded scenario) → 4 * owed_at_birth (system_of as_nodes words scenario) (owing_of scenario) + 16 ≤ last_slot
far_from_last words scenario bounded = (let few = birth_few scenario bounded words in omega (arith, few))

pub ends_quiet : ValidScenariosAreBounded → PlainLinesEndQuiet
ends_quiet all_bounded words scenario journal valid at lawful =
    let bounded = all_bounded scenario valid in
    let s = stage scenario bounded in
    let sys : System Player Mail OrderLine = system_of as_nodes words scenario in
    let plain = lines_plain (budget_of scenario) scenario.lines at in
    let each = plain_journal words scenario s (is_linked scenario bounded) (far_from_last words scenario bounded) (schedule scenario) plain (journal_at_birth scenario bounded words) in
    never_cut_by sys (owing_of scenario) (schedule scenario) plain (λ rows l. (each rows l).owes)
    (λ rows l. Each-weaker (IsPlainMail (IsBegun scenario rows) (frames_of scenario)) (λ mail. 1 ≤ mail_owes mail) (some_owed (IsBegun scenario rows) (frames_of scenario)) (mails rows) (each rows l).sent)
    (lines_roomy (budget_of scenario) (owed_at_birth sys (owing_of scenario)) scenario.lines (birth_within scenario bounded words) at) journal lawful
