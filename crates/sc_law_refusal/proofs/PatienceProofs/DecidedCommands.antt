-- What is allowed of each GiveUp in the mail of a journal is allowed of each in the log of a group.
use Rattle.std.proofs.Common.{◌&&◌, subst, List, [], ◌∷◌}
use Rattle.std.specs.List.{list_any}
use Rattle.std.proofs.lemmas.Bool.{cond_both, and_parts}
use Rattle.sc_base.specs.Definitions.{Each, same_draw}
use Rattle.sc_base.proofs.Lemmas.{draw_is}
use Rattle.sc_node_table.specs.Values.{Draw, Row, Base, Command, OrderLine, Mail, MailBody, Accept}
use Rattle.sc_actor.specs.Definitions.{mails}
use Rattle.sc_paxos_law.specs.PaxosLawDefinitions.{Step, Accepted}
use Rattle.sc_meaning.specs.sound.SoundDefinitions.{Ahead, is_accepted, accepts_of, decided_log}
use Rattle.sc_law_entries.proofs.NamesProofs.AcceptedLogs.{IsAcceptedAs, decided_hold}
use Rattle.sc_law_refusal.specs.refusal.RefusalDefinitions.{Rows}
use Rattle.sc_law_refusal.proofs.PatienceProofs.GivenUpCommands.{Gives, MailGives}

-- what a mail makes accepted in the group
of_gives : (F : Draw → Draw → Type 0) (group : Draw) (row : Row Mail OrderLine) (body : MailBody) → MailGives F body → Each (IsAcceptedAs (Gives (F group))) (accepts_of group row body)
of_gives F group row (Accept g ballot slot command) b =
    cond_both (same_draw g group && list_any (λ mail. is_accepted g ballot slot mail.body) row.sent) (Accepted row.who ballot slot command ∷ []) [] (λ (steps : List (Step Command)). Each (IsAcceptedAs (Gives (F group))) steps)
    (λ t. (subst (λ (name : Draw). Gives (F name) command) (draw_is g group (and_parts (same_draw g group) (list_any (λ mail. is_accepted g ballot slot mail.body) row.sent) t).0) b, tt)) (λ _. tt)
of_gives F group row _ b = tt

-- the decided log of a group
pub decided_gives : (F : Draw → Draw → Type 0) (ahead : Ahead) (base : Base) (rows : Rows) → Each (λ (m : Mail). MailGives F m.body) (mails rows) → Each (Gives (F base.core.id)) (decided_log ahead base rows)
decided_gives F ahead base rows m = decided_hold (Gives (F base.core.id)) (λ (mail : Mail). MailGives F mail.body) ahead base rows (λ row mail q. of_gives F base.core.id row mail.body q) m
