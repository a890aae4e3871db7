-- Groups go one after another from one quiet prefix to a later one.
use Rattle.std.proofs.Common.{◌≡◌, ℕ, ◌-◌, ◌≤◌, zero, suc, List, [], ◌∷◌, ◌++◌, take, Option, Some, None, refl, sym, ◌∙◌, ap, arith, append_assoc, append-nil}
use Rattle.std.proofs.lemmas.Option.{none-some}
use Rattle.sc_base.specs.Definitions.{Among}
use Rattle.sc_node_table.specs.Values.{Draw, Command, Base, Route}
use Rattle.sc_group_table.specs.machine.MachineDefinitions.{Group, group_of, state_after, applied}
use Rattle.sc_scenario.specs.scenario.Definitions.{base_at, ValidScenariosAreBounded}
use Rattle.sc_scenario.specs.declared.scenario.scenarios.Scenario.{Scenario}
use Rattle.sc_node_table.specs.NodeDefinitions.{ReplicaState, next}
use Rattle.sc_meaning.specs.sound.SoundDefinitions.{groups_at, decided_log, births, as_nodes}
use Rattle.sc_law_entries.specs.logs.LogDefinitions.{Rows}
use Rattle.sc_live_plain.specs.PlainDefinitions.{replicas_after}
use Rattle.sc_live_journals.specs.rows.RowDefinitions.{view_at}
use Rattle.sc_live_journals.specs.mail.MailDefinitions.{ReplicasLast, IsOver, EntriesLeaveOver}
use Rattle.sc_live_journals.specs.logs.LogDefinitions.{IsGroupOf, ViewsAreReplicas}
use Rattle.sc_live_answers.specs.AnswerDefinitions.{state_at, ReplicasRunLogs, LawfulReplicasAreNamedOnce, GoneAgree, IsQuietPrefix, PrefixesAreFound, QuietLogsAreExecuted, RoutesInPrefixesAgree, AreAllFree, EndsOnce, OnlyOneEnds, TurnsGoOn, PrefixesGoInTurn, PrefixesStayInTurn}
use Rattle.sc_live_journals.specs.charts.ChartDefinitions.{all_replicas, names_at, went_in, GoInTurn, LedStandOnce}
use Rattle.sc_live_journals.proofs.ChartsProofs.ChartLemmas.{names_grow}
use Rattle.sc_live_answers.proofs.QuietProofs.QuietPrefixGroupLogs.{prefix_timely}
use Rattle.sc_live_answers.proofs.QuietProofs.QuietPrefixGroups.{found, seen, shown, gone_last, last_state}
use Rattle.sc_live_answers.proofs.RestProofs.GoneGroupsInPrefixes.{gone_seen, seen_gone, seen_none, gone_named}

-- the names go on
names_more : (scenario : Scenario) (rows more : Rows) → (names : List Draw) × (names_at (births as_nodes scenario) (rows ++ more) ≡ names_at (births as_nodes scenario) rows ++ names)
names_more scenario rows [] = ([], ap (names_at (births as_nodes scenario)) (append-nil rows) ∙ sym (append-nil (names_at (births as_nodes scenario) rows)))
names_more scenario rows (row ∷ more) =
    let one = names_grow (births as_nodes scenario) rows row in
    let later = names_more scenario (rows ++ row ∷ []) more in (
      one.0 ++ later.0,
      ap (names_at (births as_nodes scenario)) (sym (append_assoc rows (row ∷ []) more))
          ∙ (later.1 ∙ (ap (λ names. names ++ later.0) one.1 ∙ append_assoc (names_at (births as_nodes scenario) rows) one.0 later.0)),
    )

-- a group that is over stays so along a log
log_over : EntriesLeaveOver → (into : Route) (log : List Command) (group : Group) → IsOver into group.core → IsOver into (state_after group log).core
log_over over into [] group fact = fact
log_over over into (c ∷ log) group fact = log_over over into log (applied group c).0 (over into group c fact)

later_over : EntriesLeaveOver → (into : Route) (log : List Command) (group : Group) (some more : ℕ) → some ≤ more → IsOver into (state_after group (take some log)).core → IsOver into (state_after group (take more log)).core
later_over over into log group zero more low fact = log_over over into (take more log) group fact
later_over over into log group (suc some) zero low fact = absurd (omega (arith, low))
later_over over into [] group (suc some) (suc more) low fact = fact
later_over over into (c ∷ log) group (suc some) (suc more) low fact = later_over over into log (applied group c).0 some more (omega (arith, low)) fact

module _ (bounded : ValidScenariosAreBounded) (named : LawfulReplicasAreNamedOnce) (led_once : LedStandOnce) (finds : PrefixesAreFound) (executed : QuietLogsAreExecuted) (agrees : RoutesInPrefixesAgree) (last : ReplicasLast) (run : ReplicasRunLogs) (see_replicas : ViewsAreReplicas) (over : EntriesLeaveOver) (turns : TurnsGoOn)
    (words : ℕ → ℕ → ℕ × ℕ) (scenario : Scenario) (journal quiet more : Rows) (group : Draw) (q : IsQuietPrefix words scenario journal quiet) (free : AreAllFree scenario quiet) (l : IsQuietPrefix words scenario journal (quiet ++ more)) (alone : OnlyOneEnds scenario quiet (quiet ++ more) group) where
  -- a replica has the journal's state at its next slot
  runs : (prefix : Rows) (f : IsQuietPrefix words scenario journal prefix) (base : Base) → Among base (groups_at as_nodes scenario.groups journal) → (node : ℕ) (r : ReplicaState) → view_at (births as_nodes scenario) prefix base.core.id node ≡ Some r → r.group ≡ state_at as_nodes base journal (next r)
  runs prefix f base a node r e =
      let g : IsGroupOf as_nodes words scenario journal base = record { open_slots = refl; valid = f.calm.valid; lawful = f.calm.lawful; stands = a } in
      let v = see_replicas as_nodes words scenario journal base g prefix f.begins.more f.begins.fact node r e in
      (run as_nodes words scenario journal base g prefix v.0 v.1 r v.2).1

  -- one that was gone is gone still, by the same route
  still_gone : (name : Draw) (node : ℕ) (r : ReplicaState) (into : Route) → replicas_after scenario quiet name node ≡ Some r → r.group.core.gone ≡ Some into
      → (later : ReplicaState) × (replicas_after scenario (quiet ++ more) name node ≡ Some later) × (later.group.core.gone ≡ Some into)
  still_gone name node r into e gone =
      let f = found executed finds words scenario journal quiet q in
      let of = f.replicas name node r e in
      let base = of.base in
      let own : view_at (births as_nodes scenario) quiet base.core.id node ≡ Some r = ap (λ n. view_at (births as_nodes scenario) quiet n node) of.named ∙ seen executed finds words scenario journal quiet q name node r e in
      let x = executed words scenario journal quiet base q of.among (node, r, own) in
      let state = last_state executed finds words scenario journal quiet q base of.among node r own (gone_last executed finds words scenario journal quiet q base of.among _ x.0.course x.0.quiet node r into own gone) in
      let lock = ap (λ (g : Group). g.core.lock) state ∙ free base of.among in
      let a = f.later base of.among in
      let up = last words scenario quiet more base.core.id node r (prefix_timely words scenario journal (quiet ++ more) l) own in
      let was = runs quiet q base a node r own in
      let fact = runs (quiet ++ more) l base a node up.0 up.1 in
      let grown = up.2.1 in
      let stays = later_over over into (decided_log as_nodes base journal) (group_of base) (next r - 1) (next up.0 - 1) (omega (arith, grown)) (ap (λ (g : Group). g.core.gone) (sym was) ∙ gone, ap (λ (g : Group). g.core.lock) (sym was) ∙ lock) in
      let there : view_at (births as_nodes scenario) (quiet ++ more) name node ≡ Some up.0 = ap (λ n. view_at (births as_nodes scenario) (quiet ++ more) n node) (sym of.named) ∙ up.1 in
      (up.0, shown executed finds words scenario journal (quiet ++ more) l name node up.0 there, ap (λ (g : Group). g.core.gone) fact ∙ stays.0)

  old_agree : GoneAgree (replicas_after scenario quiet)
  old_agree = agrees words scenario journal quiet q

  now_agree : GoneAgree (replicas_after scenario (quiet ++ more))
  now_agree = agrees words scenario journal (quiet ++ more) l

  goes_now : (name : Draw) (node : ℕ) (r : ReplicaState) (into : Route) → replicas_after scenario quiet name node ≡ Some r → r.group.core.gone ≡ Some into → went_in name (all_replicas (births as_nodes scenario) (quiet ++ more)) ≡ Some into
  goes_now name node r into e gone = (let s = still_gone name node r into e gone in seen_gone bounded named led_once finds words scenario journal (quiet ++ more) l now_agree name node s.0 into s.1 s.2)

  -- none of its replicas was gone, where it was not
  by_gone : went_in group (all_replicas (births as_nodes scenario) quiet) ≡ None → (who : ℕ) (s : ReplicaState) → replicas_after scenario quiet group who ≡ Some s → (o : Option Route) → s.group.core.gone ≡ o → s.group.core.gone ≡ None
  by_gone new who s there None fact = fact
  by_gone new who s there (Some x) fact = absurd (none-some x (sym new ∙ seen_gone bounded named led_once finds words scenario journal quiet q old_agree group who s x there fact))

  once : EndsOnce (names_at (births as_nodes scenario) quiet) (names_at (births as_nodes scenario) (quiet ++ more)) (all_replicas (births as_nodes scenario) quiet) (all_replicas (births as_nodes scenario) (quiet ++ more)) group
  once = record {
    more = (names_more scenario quiet more).0;
    go_on = (names_more scenario quiet more).1;
    named = λ name into e. gone_named bounded named led_once finds words scenario journal quiet q name into e;
    here = λ name into e. gone_named bounded named led_once finds words scenario journal (quiet ++ more) l name into e;
    stays = λ name into e. (let g = gone_seen bounded named led_once finds words scenario journal quiet q name into e in goes_now name g.0 g.1 into g.2 g.3);
    others = λ name into ne e. (
        let g = gone_seen bounded named led_once finds words scenario journal (quiet ++ more) l name into e in
        let s = alone.others name g.0 g.1 into ne g.2 g.3 in
        let now_ = goes_now name s.0 s.1 s.2 s.3 s.4 in
        seen_gone bounded named led_once finds words scenario journal quiet q old_agree name s.0 s.1 s.2 s.3 s.4 ∙ (sym now_ ∙ e));
    stands = λ into new e. (let g = gone_seen bounded named led_once finds words scenario journal (quiet ++ more) l group into e in seen_none bounded named led_once finds words scenario journal (quiet ++ more) l into.group (alone.stands g.0 g.1 into (λ who s there. by_gone new who s there (s.group.core.gone) refl) g.2 g.3));
  }

  prefixes_turn : (turn : Draw → ℕ) → GoInTurn (names_at (births as_nodes scenario) quiet) (all_replicas (births as_nodes scenario) quiet) turn → (after : Draw → ℕ) × GoInTurn (names_at (births as_nodes scenario) (quiet ++ more)) (all_replicas (births as_nodes scenario) (quiet ++ more)) after
  prefixes_turn turn goes = turns _ _ _ _ group turn goes once

pub prefixes_go_in_turn : ValidScenariosAreBounded → LawfulReplicasAreNamedOnce → LedStandOnce → PrefixesAreFound → QuietLogsAreExecuted → RoutesInPrefixesAgree → ReplicasLast → ReplicasRunLogs → ViewsAreReplicas → EntriesLeaveOver → TurnsGoOn → PrefixesGoInTurn
prefixes_go_in_turn bounded named led_once finds executed agrees last run see_replicas over turns words scenario journal quiet more turn group q free l alone =
    prefixes_turn bounded named led_once finds executed agrees last run see_replicas over turns words scenario journal quiet more group q free l alone turn

-- where none went, any name will do
pub prefixes_stay_in_turn : PrefixesGoInTurn → PrefixesStayInTurn
prefixes_stay_in_turn go words scenario journal quiet more turn q free l none = go words scenario journal quiet more turn any q free l (record {
  others = λ name node r into ne there gone. none name node r into there gone;
  stands = λ node r into stood there gone who s here. (let old = none any node r into there gone in absurd (none-some old.2 (sym (stood old.0 old.1 old.3) ∙ old.4)));
})
  where
    any : Draw
    any = (base_at [] 0).core.id
