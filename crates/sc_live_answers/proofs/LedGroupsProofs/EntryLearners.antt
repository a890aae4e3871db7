-- Members of a group learn all entries, in a journal whose rows come in time.
use Rattle.std.proofs.Common.{[], ◌∷◌, ◌++◌, ◌∙◌, sym, ap, append_assoc, append-nil}
use Rattle.sc_meaning.specs.sound.SoundDefinitions.{births, as_nodes}
use Rattle.sc_live_journals.specs.logs.LogDefinitions.{logged_sets}
use Rattle.sc_live_journals.specs.groups.GroupDefinitions.{GroupsAreTaughtThrough, ScenariosAreWellBorn}
use Rattle.sc_live_answers.specs.AnswerDefinitions.{over_at, LedLogsAreOne, GroupsBeginTaught, GroupsAreTaught, slot_leaders_at, GroupsAreLed}

pub groups_are_taught : ScenariosAreWellBorn → GroupsAreTaughtThrough → GroupsAreLed → LedLogsAreOne → GroupsBeginTaught → GroupsAreTaught
groups_are_taught well through are_led one_log begin words scenario journal prefix more base group timely few split so =
    let by = slot_leaders_at as_nodes scenario base journal in
    let has = (are_led words scenario journal prefix more base group timely few split so).1 in
    let one = one_log as_nodes words by scenario journal prefix more base group split has in (
      through (logged_sets as_nodes base journal) (over_at as_nodes base journal) by words (births as_nodes scenario) prefix base (well scenario) one so
          (λ before row after e. timely before row (after ++ more) (split ∙ (ap (λ l. l ++ more) e ∙ append_assoc before (row ∷ after) more))) (begin words by scenario journal base group) prefix [] (sym (append-nil prefix)),
      one,
    )
