-- Mail of a group of a lawful journal of a valid scenario, as what is said of mail of any group that is well led.
use Rattle.std.proofs.Common.{◌≡◌, true, List}
use Rattle.sc_node_table.specs.Values.{Mail, Seat, Deliver}
use Rattle.sc_actor.specs.Definitions.{mails, row_of}
use Rattle.sc_live_orderly.proofs.OrderlyLemmas.{in_time_before}
use Rattle.sc_words.proofs.PaxosProofs.PaxosLemmas.{Each-among}
use Rattle.sc_scenario.specs.scenario.Definitions.{ValidScenariosAreBounded}
use Rattle.sc_node_table.specs.NodeDefinitions.{may_come}
use Rattle.sc_meaning.specs.sound.SoundDefinitions.{Player, births, as_nodes, player_table}
use Rattle.sc_live_steps.specs.calm.CalmDefinitions.{players}
use Rattle.sc_live_journals.proofs.MailProofs.MailLemmas.{mail_comes}
use Rattle.sc_live_journals.specs.logs.LogDefinitions.{logged_sets}
use Rattle.sc_live_journals.proofs.GroupsProofs.GroupLemmas.{scenarios_well_born}
use Rattle.sc_live_answers.specs.AnswerDefinitions.{over_at, GroupMailFinds}
use Rattle.sc_law_groups.proofs.GroupProofs.GroupLemmas.{number_among}
use Rattle.sc_law_groups.proofs.WholeProofs.WholeLemmas.{all_apart}
use Rattle.sc_live_answers.proofs.LedMailProofs.DeliveredMail.{finds}

module _ (bounded : ValidScenariosAreBounded) where
  pub group_mail_finds : GroupMailFinds
  group_mail_finds chart words by scenario journal prefix rows seat number mail node base course m needs =
      let fine = bounded scenario m.group.valid in
      let all : List (Seat Player) = births as_nodes scenario in
      let comes = Each-among (λ (x : Mail). may_come x.from x.body ≡ true) (mails rows) mail
      (mail_comes words scenario rows fine (in_time_before (players words all) rows (row_of player_table seat rows (Deliver number)) m.meets.timely))
      (number_among (mails rows) number mail m.meets.delivers.sent) in
      finds (logged_sets as_nodes base journal) (over_at as_nodes base journal) by words all prefix rows seat number mail node base course m.meets (all_apart scenario fine) (scenarios_well_born scenario) comes m.named chart.ways chart.groups m.once needs
