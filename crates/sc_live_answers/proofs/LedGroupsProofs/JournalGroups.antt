-- Each group of a calm journal is one of those that laws of groups speak of, and its replicas have slots left.
use Rattle.std.proofs.Common.{ℕ, ◌∷◌, ◌++◌, length, refl, ◌∙◌, ap, arith, append_assoc, length-append}
use Rattle.sc_base.specs.Definitions.{Among}
use Rattle.sc_node_table.specs.Values.{Base}
use Rattle.sc_live_orderly.specs.OrderlyDefinitions.{AreInTime}
use Rattle.sc_scenario.specs.declared.scenario.scenarios.Scenario.{Scenario}
use Rattle.sc_meaning.specs.sound.SoundDefinitions.{groups_at, births, as_nodes}
use Rattle.sc_live_steps.specs.calm.CalmDefinitions.{players, Rows}
use Rattle.sc_live_journals.specs.mail.MailDefinitions.{SlotsAreLeft}
use Rattle.sc_live_journals.specs.logs.LogDefinitions.{IsGroupOf}
use Rattle.sc_live_answers.specs.AnswerDefinitions.{AreFew, IsCalmJournal}

module _ (words : ℕ → ℕ → ℕ × ℕ) (scenario : Scenario) (journal : Rows) (calm : IsCalmJournal words scenario journal) where
  pub calm_group : (base : Base) → Among base (groups_at as_nodes scenario.groups journal) → IsGroupOf as_nodes words scenario journal base
  calm_group base among = record { open_slots = refl; valid = calm.valid; lawful = calm.lawful; stands = among }

  pub calm_slots : SlotsAreLeft → (base : Base) → AreFew as_nodes scenario journal base
  calm_slots slots_left base first more who r e view =
      let timely : AreInTime (players words (births as_nodes scenario)) first = λ b row a same. calm.timely b row (a ++ more) (e ∙ (ap (λ l. l ++ more) same ∙ append_assoc b (row ∷ a) more)) in
      let long = ap length e in
      let sum = length-append first more in
      let short = calm.short in
      let left = slots_left words scenario first base.core.id who r timely (omega (arith, long, sum, short)) view in
      let low = left.0 in
      (omega (arith, low), left.1)
