-- What the queues have.
use Rattle.std.proofs.Common.{◌≡◌, ℕ, Bool, true, false, List, [], ◌∷◌, Some, None, is_none, refl, ◌∙◌, ap}
use Rattle.sc_words.specs.declared.commands.commands.Command.{Command}
use Rattle.sc_words.specs.declared.commands.cores.Core.{Core}
use Rattle.sc_mail.specs.declared.bodies.AnswerBody.{AnswerBody}
use Rattle.sc_mail.specs.declared.bodies.Mail.{Mail}
use Rattle.sc_node_table.specs.Slots.{rest_of}
use Rattle.sc_node_table.specs.Replica.{Place}
use Rattle.sc_node_table.specs.Mails.{answered}
use Rattle.sc_node_table.specs.Pump.{turned_down, next_queued, from_backlog, from_acts}
use Rattle.sc_node_parts.specs.replica.Heads.{head_of, head_waits}

-- the head waits, or there is none
pub next_queued-ends : (me : ℕ) (idle : Bool) (core : Core) (backlog : List Command) (mails : List Mail) → head_waits idle core.lock backlog ≡ true → (None, backlog, mails) ≡ next_queued me idle core backlog mails
unfolding next_queued
next_queued-ends me idle core [] mails e = refl
next_queued-ends me idle core (c ∷ backlog) mails e = rw e

-- the head is found
pub next_queued-found : (me : ℕ) (idle : Bool) (core : Core) (backlog : List Command) (mails : List Mail) (c : Command) → head_waits idle core.lock backlog ≡ false → Some c ≡ head_of backlog → turned_down core c ≡ None
    → (Some c, rest_of backlog, mails) ≡ next_queued me idle core backlog mails
unfolding next_queued
next_queued-found me idle core [] mails c e is down = absurd (cc)
next_queued-found me idle core (d ∷ backlog) mails c e is down = let same : d ≡ c = cc in rw (e, same, down, same)

-- the head is answered
pub next_queued-answered : (me : ℕ) (idle : Bool) (core : Core) (backlog : List Command) (mails : List Mail) (c : Command) (answer : AnswerBody) → head_waits idle core.lock backlog ≡ false → Some c ≡ head_of backlog → turned_down core c ≡ Some answer
    → next_queued me idle core (rest_of backlog) (answered me core.id answer c mails) ≡ next_queued me idle core backlog mails
unfolding next_queued
next_queued-answered me idle core [] mails c answer e is down = absurd (cc)
next_queued-answered me idle core (d ∷ backlog) mails c answer e is down = let same : d ≡ c = cc in rw (e, same, down, same)

-- the head is answered, and the calls behind it are looked at
pub next_queued-goes : (me : ℕ) (idle : Bool) (core : Core) (backlog after : List Command) (mails more : List Mail) (c : Command) (answer : AnswerBody)
    → after ≡ rest_of backlog → more ≡ answered me core.id answer c mails → head_waits idle core.lock backlog ≡ false → Some c ≡ head_of backlog → turned_down core c ≡ Some answer
    → next_queued me idle core after more ≡ next_queued me idle core backlog mails
next_queued-goes me idle core backlog after mails more c answer r s e is down =
    ap (λ cs. next_queued me idle core cs more) r
    ∙ ap (next_queued me idle core (rest_of backlog)) s
    ∙ next_queued-answered me idle core backlog mails c answer e is down

-- the commands of transactions
pub acts-none : (acts : List Command) (place : Place) → is_none (head_of acts) ≡ true → from_backlog place ≡ from_acts acts place
acts-none [] place e = refl
acts-none (act ∷ acts) place e = absurd (cc)
