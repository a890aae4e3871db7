-- A whole journal of a plain scenario whose last line is at the budget ends with no mail pending.
use Rattle.std.proofs.Common.{ℕ, ◌≤◌, [], ◌∷◌, map, sym, ◌∙◌, ap, subst, arith}
use Rattle.std.proofs.lemmas.List.{map-append}
use Rattle.sc_base.specs.Definitions.{Each}
use Rattle.sc_node_table.specs.Values.{OrderLine, Mail}
use Rattle.sc_actor.specs.Definitions.{mails, System}
use Rattle.sc_words.proofs.PaxosProofs.PaxosLemmas.{Each-append, Each-weaker}
use Rattle.sc_scenario.specs.scenario.Definitions.{ValidScenariosAreBounded}
use Rattle.sc_scenario.specs.declared.scenario.scenarios.Scenario.{Scenario}
use Rattle.sc_scenario.specs.declared.scenario.scenarios.SchedLine.{SchedLine}
use Rattle.sc_scenario.specs.declared.scenario.scenarios.SchedLine.TheVariants.{Go, Deliver, Settle, Free}
use Rattle.sc_meaning.specs.sound.SoundDefinitions.{Player, line_of, schedule, system_of, as_nodes}
use Rattle.sc_live_orderly.specs.OrderlyDefinitions.{owed_at_birth}
use Rattle.sc_live_orderly.proofs.OrderlyLemmas.{ends_quiet_at_last}
use Rattle.sc_live_plain.specs.PlainDefinitions.{AllowsDeliveries, budget_of, mail_owes, IsBegun, IsPlainMail}
use Rattle.sc_live_plain.specs.LastLine.{EndsAtBudget, LastLinesEndQuiet}
use Rattle.sc_live_plain.proofs.PlainProofs.AnsweredPlainRequests.{many_line}
use Rattle.sc_live_plain.proofs.PlainProofs.InductionBase.{birth_within, journal_at_birth}
use Rattle.sc_live_plain.proofs.PlainProofs.PlainInduction.{owing_of}
use Rattle.sc_live_plain.proofs.PlainProofs.PlainBeginnings.{frames_of, stage}
use Rattle.sc_live_plain.proofs.PlainProofs.PlainJournals.{plain_journal}
use Rattle.sc_live_plain.proofs.BudgetProofs.PlainLineEnds.{lines_plain, lines_roomy, far_from_last}
use Rattle.sc_live_plain.proofs.PlainProofs.PlainSetting.{is_linked}
use Rattle.sc_live_plain.proofs.PlainProofs.PlainClientPotential.{some_owed}

-- a line with room for some deliveries has room for none
less_room : (budget : ℕ) (line : SchedLine) → AllowsDeliveries budget line → AllowsDeliveries 0 line
less_room budget (Go client) room = tt
less_room budget (Settle most) room = omega arith
less_room budget (Free most workers) room = omega arith
less_room budget (Deliver who k) room = (room.0, omega arith)
less_room budget _ room = absurd room

-- all lines of such a scenario are plain
pub all_plain : (scenario : Scenario) → EndsAtBudget scenario → Each (AllowsDeliveries 0) scenario.lines
all_plain scenario ends =
    subst (Each (AllowsDeliveries 0)) (sym ends.lines_are) (Each-append (AllowsDeliveries 0) ends.before (ends.last ∷ []) ends.plain (less_room (budget_of scenario) ends.last ends.room, tt))

pub last_lines_quiet : ValidScenariosAreBounded → LastLinesEndQuiet
last_lines_quiet all_bounded words scenario journal valid ends lawful whole =
    let bounded = all_bounded scenario valid in
    let s = stage scenario bounded in
    let sys : System Player Mail OrderLine = system_of as_nodes words scenario in
    let plain = lines_plain 0 scenario.lines (all_plain scenario ends) in
    let are = ap (map line_of) ends.lines_are ∙ map-append line_of ends.before (ends.last ∷ []) in
    let room = lines_roomy (budget_of scenario) (owed_at_birth sys (owing_of scenario)) (ends.last ∷ []) (birth_within scenario bounded words) (ends.room, tt) in
    let each = plain_journal words scenario s (is_linked scenario bounded) (far_from_last words scenario bounded) (schedule scenario) plain (journal_at_birth scenario bounded words) in
    ends_quiet_at_last sys (owing_of scenario) (schedule scenario) plain (λ rows l. (each rows l).owes)
    (λ rows l. Each-weaker (IsPlainMail (IsBegun scenario rows) (frames_of scenario)) (λ mail. 1 ≤ mail_owes mail) (some_owed (IsBegun scenario rows) (frames_of scenario)) (mails rows) (each rows l).sent)
    journal lawful whole (map line_of ends.before) (line_of ends.last) (many_line ends.last ends.is_delivery) are room.0
