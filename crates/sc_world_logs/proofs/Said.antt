-- What a row accepts that says that it accepted.
use Rattle.std.proofs.Common.{◌≡◌, ℕ, Bool, true, false, ◌&&◌, List, [], ◌∷◌, if◌then◌else◌, refl, ap, ◌∙◌}
use Rattle.std.specs.List.{list_any}
use Rattle.sc_base.specs.Same.{same_draw}
use Rattle.sc_base.specs.declared.names.Draw.{Draw}
use Rattle.sc_base.specs.declared.names.Ballot.{Ballot}
use Rattle.sc_words.specs.declared.commands.commands.Command.{Command}
use Rattle.sc_words.specs.declared.commands.orders.OrderLine.{OrderLine}
use Rattle.sc_mail.specs.declared.bodies.Mail.{Mail}
use Rattle.sc_mail.specs.declared.bodies.MailBody.TheVariants.{Accept}
use Rattle.sc_actor.specs.declared.rows.Row.{Row}
use Rattle.sc_paxos_law.specs.Steps.{Step, Accepted}
use Rattle.sc_meaning.specs.sound.Accepts.{is_accepted, accepts_of}

both : (b : Bool) → (b && true) ≡ b
both true = refl
both false = refl

neither : (b : Bool) → (b && false) ≡ false
neither true = refl
neither false = refl

-- a row that says that it accepted accepts for the group that is asked
pub accepts-said : (group : Draw) (row : Row Mail OrderLine) (of : Draw) (ballot : Ballot) (slot : ℕ) (command : Command)
    → list_any (λ (mail : Mail). is_accepted of ballot slot mail.body) row.sent ≡ true
    → accepts_of group row (Accept of ballot slot command) ≡ (if same_draw of group then Accepted row.who ballot slot command ∷ [] else [])
accepts-said group row of ballot slot command said =
    let taken : List (Step Command) = Accepted row.who ballot slot command ∷ [] in
    ap (λ (t : Bool). if t then taken else []) (ap (λ (b : Bool). same_draw of group && b) said ∙ both (same_draw of group))

-- one that does not say so accepts nothing
pub accepts-unsaid : (group : Draw) (row : Row Mail OrderLine) (of : Draw) (ballot : Ballot) (slot : ℕ) (command : Command)
    → list_any (λ (mail : Mail). is_accepted of ballot slot mail.body) row.sent ≡ false
    → accepts_of group row (Accept of ballot slot command) ≡ []
accepts-unsaid group row of ballot slot command unsaid =
    let taken : List (Step Command) = Accepted row.who ballot slot command ∷ [] in
    ap (λ (t : Bool). if t then taken else []) (ap (λ (b : Bool). same_draw of group && b) unsaid ∙ neither (same_draw of group))
