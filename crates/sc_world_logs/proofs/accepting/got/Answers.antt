use Rattle.std.proofs.Common.{◌≡◌, ◌-◌, suc, List, sym, ap, ◌∙◌, map, length, arith, refl}
use Rattle.std.specs.Option.{option_map}
use Rattle.std.proofs.lemmas.List.{length-map}
use Rattle.std.proofs.lemmas.Option.{slice_get-map, slice_get_read, slice_get_past}
use Rattle.sc_mail.specs.declared.bodies.Mail.{Mail}
use Rattle.sc_actor.specs.Mail.{numbered}
use Rattle.sc_world_logs.proofs.accepting.got.Goals as goal

pub returns-then-sent-mail : goal.returns-then-sent-mail
returns-then-sent-mail c =
    let mails : List Mail = map (λ mail. mail.now) c.args.sent.now in
    let place : c.args.mail ≡ suc (c.args.mail - 1) = omega (arith, c.if-mail-eq0.false) in
    sym (ap (numbered mails) place ∙ slice_get_past mails (c.args.mail - 1) (omega (arith, c.if-sent-mail.true, length-map c.args.sent.now (λ mail. mail.now), c.if-mail-eq0.false)))

pub returns : goal.returns
returns c =
    let mails : List Mail = map (λ mail. mail.now) c.args.sent.now in
    let place : c.args.mail ≡ suc (c.args.mail - 1) = omega (arith, c.if-mail-eq0.false) in
    sym (ap (numbered mails) place
    ∙ slice_get-map (λ mail. mail.now) c.args.sent.now (c.args.mail - 1)
    ∙ ap (option_map (λ mail. mail.now)) (slice_get_read c.args.sent.now (length c.args.sent.now) (c.args.mail - 1) c.index-sent-mail.result refl (omega (arith, c.if-sent-mail.false, place)) c.index-sent-mail.is))
