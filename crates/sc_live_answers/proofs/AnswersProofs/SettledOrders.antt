-- In a whole calm journal in which no line was cut off the result of each order is reported.
use Rattle.std.proofs.Common.{◌≡◌, false, List, [], ◌∷◌, ◌++◌, length, map, inl, inr, refl, sym, ◌∙◌, ap, subst, arith, append_assoc, length-append}
use Rattle.std.proofs.lemmas.List.{map-append}
use Rattle.sc_base.specs.Definitions.{Among}
use Rattle.sc_node_table.specs.Values.{OrderLine, Mail}
use Rattle.sc_actor.specs.declared.schedules.Line.TheVariants as line
use Rattle.sc_actor.specs.Definitions.{has_crashed, System, IsLawful, unsettled}
use Rattle.sc_actor.proofs.Lemmas.{lawful-prefix}
use Rattle.sc_paxos_law.proofs.Lemmas.{Among-right}
use Rattle.sc_words.proofs.PaxosProofs.PaxosLemmas.{Each-among, Each-from_All}
use Rattle.sc_live_orderly.proofs.OrderlyLemmas.{in_time_tidy, settled_in_time, uncut_before}
use Rattle.sc_scenario.specs.scenario.Definitions.{ValidScenariosAreBounded, IsBoundedLine}
use Rattle.sc_scenario.specs.declared.scenario.scenarios.SchedLine.{SchedLine}
use Rattle.sc_scenario.specs.declared.scenario.scenarios.SchedLine.TheVariants.{Told}
use Rattle.sc_meaning.specs.sound.SoundDefinitions.{Player, node_seat, births, line_of, schedule, system_of, as_nodes}
use Rattle.sc_live_steps.specs.calm.CalmDefinitions.{Rows}
use Rattle.sc_live_plain.proofs.PlainLemmas.{first_delivery, many_line, calm_lines_are_spaced}
use Rattle.sc_live_answers.specs.AnswerDefinitions.{IsReported, SettledJournalsReport, SettledOrdersAreReported}
use Rattle.sc_live_answers.proofs.ErrandsProofs.ErrandReceivers.{node_seated}
use Rattle.sc_live_answers.proofs.AnswersProofs.PassedOrders.{was_quiet_given}
use Rattle.sc_live_answers.proofs.OrdersProofs.HeldOrders.{reported_later}

-- where a line stands among others
line_place : (one : SchedLine) (lines : List SchedLine) → Among one lines → (before after : List SchedLine) × (lines ≡ before ++ one ∷ after)
line_place one [] a = absurd a
line_place one (other ∷ lines) (inl e) = ([], lines, ap (λ l. l ∷ lines) e)
line_place one (other ∷ lines) (inr a) = (let p = line_place one lines a in (other ∷ p.0, p.1, ap (λ l. other ∷ l) p.2))

pub orders_reported : ValidScenariosAreBounded → SettledJournalsReport → SettledOrdersAreReported
orders_reported all_bounded report_law words scenario journal valid calm lawful whole uncut short node order among =
    let s : System Player Mail OrderLine = system_of as_nodes words scenario in
    let place = line_place (Told node order) scenario.lines among in
    let d = first_delivery place.1 (calm.followed place.0 place.1 (Told node order) place.2 refl) in
    let lines : schedule scenario ≡ map line_of place.0 ++ line.Told node order ∷ (map line_of d.0 ++ line_of d.1 ∷ map line_of d.2) =
    ap (map line_of) place.2 ∙ (map-append line_of place.0 (Told node order ∷ place.1) ∙ ap (λ l. map line_of place.0 ++ line.Told node order ∷ l) (ap (map line_of) d.3 ∙ map-append line_of d.0 (d.1 ∷ d.2))) in
    let home = (Each-among (IsBoundedLine scenario.nodes scenario.clients) scenario.lines (Told node order) (Each-from_All (IsBoundedLine scenario.nodes scenario.clients) scenario.lines (all_bounded scenario valid).lines) among).0 in
    let alive : (rows : Rows) → IsLawful s (schedule scenario) rows → unsettled s (schedule scenario) rows ≡ false → has_crashed rows node ≡ false =
    λ rows lawful_ uncut_. (in_time_tidy s rows (settled_in_time s (schedule scenario) (calm_lines_are_spaced 0 scenario calm).0 rows lawful_ uncut_)).alive node in
    let parts : schedule scenario ≡ (map line_of place.0 ++ line.Told node order ∷ map line_of d.0) ++ line_of d.1 ∷ map line_of d.2 =
    lines ∙ sym (append_assoc (map line_of place.0) (line.Told node order ∷ map line_of d.0) (line_of d.1 ∷ map line_of d.2)) in
    let was =
    was_quiet_given s node order (node_seat as_nodes scenario.groups scenario.policy node) (node_seated scenario node home) (schedule scenario) alive (map line_of place.0 ++ line.Told node order ∷ map line_of d.0) (map line_of d.2) (line_of d.1) parts
    (Among-right (line.Told node order) (map line_of place.0) (line.Told node order ∷ map line_of d.0) (inl refl)) (many_line d.1 d.4) journal lawful uncut whole in
    let begins : IsLawful s (schedule scenario) was.before = lawful-prefix s (schedule scenario) was.before was.after (subst (λ l. IsLawful s (schedule scenario) l) was.rows_are lawful) in
    let settled = uncut_before s (schedule scenario) was.before was.after (subst (λ l. unsettled s (schedule scenario) l ≡ false) was.rows_are uncut) in
    let longer = ap length was.rows_are ∙ length-append was.before was.after in
    let reported = report_law words scenario was.before valid calm begins settled (omega (arith, short, longer)) was.quiet order was.held in
    subst (λ rows. IsReported (births as_nodes scenario) rows order.number) (sym was.rows_are) (reported_later (births as_nodes scenario) was.before was.after order.number reported)
