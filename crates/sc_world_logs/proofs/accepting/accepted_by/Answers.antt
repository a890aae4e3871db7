use Rattle.std.proofs.Common.{◌≡◌, true, false, List, [], ◌∷◌, length, if◌then◌else◌, refl, ap, sym, subst, ◌∙◌, arith}
use Rattle.std.proofs.lemmas.Bool.{cond-true}
use Rattle.sc_base.proofs.NameLemmas.{same_name}
use Rattle.std.specs.List.{list_any}
use Rattle.sc_base.specs.Same.{same_draw}
use Rattle.sc_words.specs.declared.commands.commands.Command.{Command}
use Rattle.sc_mail.specs.declared.bodies.Mail.{Mail}
use Rattle.sc_paxos_law.specs.Steps.{Accepted}
use Rattle.sc_meaning.specs.sound.Accepts.{is_accepted, accepts_of}
use Rattle.sc_world_logs.proofs.Said.{accepts-said, accepts-unsaid}
use Rattle.sc_world_logs.proofs.accepting.accepted_by.Goals as goal

pub returns-then-not-says_accepted-clause-accepted : goal.returns-then-not-says_accepted-clause-accepted
returns-then-not-says_accepted-clause-accepted c = λ group.
    let unsaid =
    subst (λ (sent : List Mail). list_any (λ (mail : Mail). is_accepted c.in-Accept.group c.in-Accept.ballot c.in-Accept.slot mail.body) sent ≡ false) c.as_slice.ensures
    (sym c.says_accepted.ensures ∙ c.if-not-says_accepted.true) in
    ap (accepts_of group c.args.row.now) c.in-Accept.is ∙ accepts-unsaid group c.args.row.now c.in-Accept.group c.in-Accept.ballot c.in-Accept.slot _ unsaid

pub returns-in_ok-dup-in-Accept-clause-accepted : goal.returns-in_ok-dup-in-Accept-clause-accepted
returns-in_ok-dup-in-Accept-clause-accepted c = λ group.
    let said =
    subst (λ (sent : List Mail). list_any (λ (mail : Mail). is_accepted c.in-Accept.group c.in-Accept.ballot c.in-Accept.slot mail.body) sent ≡ true) c.as_slice.ensures
    (sym c.says_accepted.ensures ∙ c.if-not-says_accepted.false) in
    ap (accepts_of group c.args.row.now) c.in-Accept.is ∙ accepts-said group c.args.row.now c.in-Accept.group c.in-Accept.ballot c.in-Accept.slot _ said
    ∙ ap (λ (command : Command). if same_draw c.in-Accept.group group then Accepted c.args.row.now.who c.in-Accept.ballot c.in-Accept.slot command ∷ [] else []) (sym c.in_ok-dup-in-Accept.ensures)

pub returns-in_err-dup-in-Accept-clause-none : goal.returns-in_err-dup-in-Accept-clause-none
returns-in_err-dup-in-Accept-clause-none c = λ none.
    let group = c.in-Accept.group in
    let said =
    subst (λ (sent : List Mail). list_any (λ (mail : Mail). is_accepted group c.in-Accept.ballot c.in-Accept.slot mail.body) sent ≡ true) c.as_slice.ensures
    (sym c.says_accepted.ensures ∙ c.if-not-says_accepted.false) in
    let here =
    ap (accepts_of group c.args.row.now) c.in-Accept.is ∙ accepts-said group c.args.row.now group c.in-Accept.ballot c.in-Accept.slot _ said
    ∙ cond-true (same_draw group group) _ [] (same_name group group refl) in
    absurd (omega (arith, ap length (sym here ∙ none group)))
