-- A row accepts for one group, so it decides for one.
use Rattle.std.proofs.Common.{◌≡◌, cond, ◌&&◌, List, [], ◌∷◌, ◌++◌, Option, Some, None, refl, sym, ◌∙◌, ap}
use Rattle.std.specs.List.{list_any}
use Rattle.sc_base.specs.declared.names.Draw.{Draw}
use Rattle.sc_words.specs.declared.commands.commands.Command.{Command}
use Rattle.sc_words.specs.declared.commands.orders.OrderLine.{OrderLine}
use Rattle.sc_mail.specs.declared.bodies.Mail.{Mail}
use Rattle.sc_mail.specs.declared.bodies.MailBody.{MailBody}
use Rattle.sc_mail.specs.declared.bodies.MailBody.TheVariants.{Accept}
use Rattle.sc_actor.specs.declared.rows.Row.{Row}
use Rattle.sc_actor.specs.declared.rows.Event.{Event}
use Rattle.sc_actor.specs.declared.rows.Event.TheVariants.{Deliver}
use Rattle.sc_actor.specs.Definitions.{numbered}
use Rattle.sc_paxos_law.specs.PaxosLawDefinitions.{Step, Accepted, log_of}
use Rattle.sc_meaning.specs.sound.SoundDefinitions.{is_accepted, accepts_of, accepts_got, accepts_at, accepts_from, accepts, rule_of}
use Rattle.sc_law_entries.specs.logs.LogDefinitions.{Rows, RowsDecideForOne}
use Rattle.sc_meaning.proofs.EntriesProofs.EntryLemmas.{other_name}

-- all that was sent
abbrev sent_by : List Mail → Rows → List Mail
sent_by sent [] = sent
sent_by sent (row ∷ rows) = sent_by (sent ++ row.sent) rows

-- what one more row accepts
accepts_push : (group : Draw) (sent : List Mail) (rows : Rows) (row : Row Mail OrderLine) (steps : List (Step Command))
    → accepts_from group sent (rows ++ row ∷ []) steps ≡ accepts_at group (sent_by sent rows) row row.event ++ accepts_from group sent rows steps
accepts_push group sent [] row steps = refl
accepts_push group sent (r ∷ rows) row steps = accepts_push group (sent ++ r.sent) rows row (accepts_at group sent r r.event ++ steps)

-- the group that a mail is of, where it may be accepted
abbrev no_name : Draw
no_name = record { node = 0; count = 0 }

abbrev name_of : MailBody → Draw
name_of (Accept group ballot slot command) = group
name_of _ = no_name

abbrev name_got : Option Mail → Draw
name_got None = no_name
name_got (Some mail) = name_of mail.body

abbrev name_at : List Mail → Event OrderLine → Draw
name_at sent (Deliver mail) = name_got (numbered sent mail)
name_at sent _ = no_name

-- for other groups nothing is accepted
other_of : (group : Draw) (row : Row Mail OrderLine) (body : MailBody) → (group ≡ name_of body → ⊥) → accepts_of group row body ≡ []
other_of group row (Accept g ballot slot command) ne =
    ap (λ same. cond (same && list_any (λ mail. is_accepted g ballot slot mail.body) row.sent) (Accepted row.who ballot slot command ∷ []) []) (other_name g group (λ e. ne (sym e)))
other_of group row _ ne = refl

other_got : (group : Draw) (row : Row Mail OrderLine) (mail : Option Mail) → (group ≡ name_got mail → ⊥) → accepts_got group row mail ≡ []
other_got group row None ne = refl
other_got group row (Some mail) ne = other_of group row mail.body ne

other_at : (group : Draw) (sent : List Mail) (row : Row Mail OrderLine) (event : Event OrderLine) → (group ≡ name_at sent event → ⊥) → accepts_at group sent row event ≡ []
other_at group sent row (Deliver mail) ne = other_got group row (numbered sent mail) ne
other_at group sent row _ ne = refl

pub for_one : RowsDecideForOne
for_one ahead before row = record {
  name = name_at (sent_by [] before) row.event;
  others = λ base ne. (
      let name = base.core.id in
      ap (log_of (rule_of ahead base)) (accepts_push name [] before row [] ∙ ap (λ steps. steps ++ accepts name before) (other_at name (sent_by [] before) row row.event ne)));
}
