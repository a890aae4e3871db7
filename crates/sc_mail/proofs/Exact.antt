-- What the derived `==` of the types of this crate decides.
use Rattle.sc_base.proofs.Lemmas.{Exact, lists, options, numbers, struct, last, ◌and◌, enum, ◌or◌, no_variant, arc, draw, ballot, op, reply, bytes as members}
use Rattle.sc_words.proofs.CommandsProofs.Exact.{link, route, offer, watch, vote, past, outcome, base, command, result_reported}
use Rattle.sc_words.specs.contracts.commands.commands.Command as command_type
use Rattle.sc_words.specs.contracts.paxos.reports.Report as report_type
use Rattle.sc_mail.specs.contracts.bodies.AnswerBody as answer_type
use Rattle.sc_mail.specs.contracts.bodies.AnswerBodyPartialEq.TheImpl as answer_eq
use Rattle.sc_mail.specs.contracts.bodies.Mail as mail_type
use Rattle.sc_mail.specs.contracts.bodies.MailPartialEq.TheImpl as mail_eq
use Rattle.sc_mail.specs.contracts.bodies.MailBody as body_type
use Rattle.sc_mail.specs.contracts.bodies.MailBodyPartialEq.TheImpl as body_eq

pub answer : Exact answer_eq.ghosts.eq
answer = enum answer_type.enum (last reply or last (options numbers) or arc and last link or last route or last numbers or no_variant)

pub body : Exact body_eq.ghosts.eq
body =
    let reports = lists (struct (report_type.the_type command_type.the_row) (numbers and ballot and last command)) in
    enum body_type.enum (
    draw and numbers and numbers and last op
    or draw and numbers and last answer
    or draw and ballot and last numbers
    or draw and ballot and last reports
    or draw and ballot and numbers and last command
    or draw and ballot and last numbers
    or draw and last ballot
    or draw and numbers and last command
    or draw and last numbers
    or draw and numbers and base and last (lists members)
    or draw and last offer
    or draw and draw and draw and last vote
    or draw and draw and last outcome
    or draw and draw and last (options numbers)
    or draw and last watch
    or draw and draw and draw and last past
    or numbers and last result_reported
    or no_variant)

pub mail : Exact mail_eq.ghosts.eq
mail = struct mail_type.the_type (numbers and numbers and last body)
