-- What mail of a group may say: none asks for entries, a Nack names no later ballot than the group's, and a Promise has no reports.
use Rattle.std.specs.Prelude.{◌≡◌, List, []}
use Rattle.sc_base.specs.Definitions.{Each}
use Rattle.sc_node_table.specs.Values.{Ballot, Draw, Mail, MailBody, Request, Answer, Prepare, Promise, Accept, Accepted, Nack, Learn, Ask, Install, TxPrepare, TxVote, TxOutcome, TxElsewhere, TxWatch, TxWatched, Told}
use Rattle.sc_words.specs.paxos.PaxosDefinitions.{IsAtLeast}

-- a mail, if it is of the group with this name, asks for no entries, names no later ballot in a Nack, and reports nothing in a Promise
abbrev pub SaysWell : Draw → Ballot → MailBody → Type 0
SaysWell name ballot (Ask group from_slot) = group ≡ name → ⊥
SaysWell name ballot (Nack group promised) = group ≡ name → IsAtLeast ballot promised
SaysWell name ballot (Promise group other reports) = group ≡ name → reports ≡ []
SaysWell name ballot (Request group client seq op) = Unit {0}
SaysWell name ballot (Answer group seq answer) = Unit {0}
SaysWell name ballot (Prepare group other from_slot) = Unit {0}
SaysWell name ballot (Accept group other slot command) = Unit {0}
SaysWell name ballot (Accepted group other slot) = Unit {0}
SaysWell name ballot (Learn group slot command) = Unit {0}
SaysWell name ballot (Install group slot base sets) = Unit {0}
SaysWell name ballot (TxPrepare tx offer) = Unit {0}
SaysWell name ballot (TxVote tx coord part vote) = Unit {0}
SaysWell name ballot (TxOutcome tx part outcome) = Unit {0}
SaysWell name ballot (TxElsewhere tx coord hint) = Unit {0}
SaysWell name ballot (TxWatch tx watch) = Unit {0}
SaysWell name ballot (TxWatched tx coord part vote) = Unit {0}
SaysWell name ballot (Told order result) = Unit {0}

-- each of these mails is as `SaysWell` says
abbrev pub AreSaidWell : Draw → Ballot → List Mail → Type 0
AreSaidWell name ballot mails = Each (λ mail. SaysWell name ballot mail.body) mails
