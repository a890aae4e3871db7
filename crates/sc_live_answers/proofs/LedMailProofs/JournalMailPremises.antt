-- Mail of a group, in first rows of a journal whose rows come in time.
use Rattle.std.proofs.Common.{◌≡◌, ◌∷◌, ◌++◌, ◌∙◌, ap, append_assoc}
use Rattle.sc_node_table.specs.Values.{OrderLine, Mail, Deliver, Row}
use Rattle.sc_actor.specs.Definitions.{row_of}
use Rattle.sc_live_orderly.specs.OrderlyDefinitions.{AreInTime}
use Rattle.sc_meaning.specs.sound.SoundDefinitions.{births, as_nodes, player_table}
use Rattle.sc_live_steps.specs.calm.CalmDefinitions.{players}
use Rattle.sc_live_journals.specs.rows.RowDefinitions.{with_event}
use Rattle.sc_live_answers.specs.AnswerDefinitions.{LedLogsAreOne, slot_leaders_at, GroupsAreLed, LedRowsGoOn, GroupMailFinds, JournalMailFinds, StatesStand}
use Rattle.sc_live_answers.proofs.ErrandsProofs.StrayMail.{calm_here}

pub journal_mail_finds : GroupsAreLed → LedLogsAreOne → LedRowsGoOn → GroupMailFinds → StatesStand → JournalMailFinds
journal_mail_finds are_led one_log go_on finds stand chart words scenario journal prefix rest base group timely few split so rows seat number mail node d born fact named once needs =
    let this : Row Mail OrderLine = row_of player_table seat rows (Deliver number) in
    let with_this : journal ≡ with_event rows seat (Deliver number) ++ (d.row.more ++ rest) = split ∙ (ap (λ l. l ++ rest) d.row.fact ∙ append_assoc (with_event rows seat (Deliver number)) d.row.more rest) in
    let in_time : AreInTime (players words (births as_nodes scenario)) (with_event rows seat (Deliver number)) =
    λ before row after e. timely before row (after ++ (d.row.more ++ rest)) (with_this ∙ (ap (λ l. l ++ (d.row.more ++ rest)) e ∙ append_assoc before (row ∷ after) (d.row.more ++ rest))) in
    let led = go_on words scenario journal prefix rest base group timely few split so rows seat (Deliver number) d.row born (calm_here words scenario rows seat number mail in_time born d.sent) in
    finds chart words (slot_leaders_at as_nodes scenario base journal) scenario journal prefix rows seat number mail node base led.0 (record {
      group = group;
      meets = record {
        seated = born;
        fact = fact;
        delivers = d;
        timely = in_time;
        led = led.1;
        step = led.2;
        one = one_log as_nodes words (slot_leaders_at as_nodes scenario base journal) scenario journal prefix rest base group split (are_led words scenario journal prefix rest base group timely few split so).1;
        sent = so;
        standing = λ slot state sets body. stand words scenario journal prefix rest base group timely few split so rows seat number mail slot state sets d body;
      };
      named = named;
      once = once;
    }) needs
