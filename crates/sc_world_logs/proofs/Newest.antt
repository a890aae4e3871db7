-- The newest acceptance stands first among the steps.
use Rattle.std.proofs.Common.{◌≡◌, ℕ, Bool, true, false, List, [], ◌∷◌, ◌++◌, map, reverse, ◌&&◌, ◌==◌, refl, ap, ◌∙◌}
use Rattle.std.proofs.lemmas.List.{reverse-append, map-append}
use Rattle.std.specs.List.{list_any}
use Rattle.sc_base.specs.declared.names.Draw.{Draw}
use Rattle.sc_base.specs.declared.names.Ballot.{Ballot}
use Rattle.sc_base.specs.Same.{same_draw}
use Rattle.sc_words.specs.declared.commands.commands.Command.{Command}
use Rattle.sc_words.specs.declared.commands.orders.OrderLine.{OrderLine}
use Rattle.sc_mail.specs.declared.bodies.Mail.{Mail}
use Rattle.sc_mail.specs.declared.bodies.MailBody.TheVariants.{Accept}
use Rattle.sc_actor.specs.declared.rows.Row.{Row}
use Rattle.sc_base.specs.Majority.{is_majority}
use Rattle.sc_paxos_law.specs.Steps.{Step, Accepted}
use Rattle.sc_paxos_law.specs.Decided.{voters_of, found_in}
use Rattle.sc_meaning.specs.sound.Accepts.{is_accepted, accepts_of}
use Rattle.sc_world_logs.specs.Acceptances.{step_of, steps_of, report_of, with_chosen}
use Rattle.sc_world_logs.specs.declared.accepting.Acceptance.{Acceptance}

-- one acceptance more is the newest step
pub steps_of-last : (xs : List Acceptance) (a : Acceptance) → steps_of (xs ++ a ∷ []) ≡ step_of a ∷ steps_of xs
steps_of-last xs a = ap reverse (map-append step_of xs (a ∷ [])) ∙ reverse-append (map step_of xs) (step_of a ∷ [])

-- a row that takes an accept accepts it
pub taken-one : (group : Draw) (row : Row Mail OrderLine) (of : Draw) (ballot : Ballot) (slot : ℕ) (command : Command)
    → (same_draw of group && list_any (λ (mail : Mail). is_accepted of ballot slot mail.body) row.sent) ≡ true
    → accepts_of group row (Accept of ballot slot command) ≡ Accepted row.who ballot slot command ∷ []
taken-one group row of ballot slot command t = rw t refl

-- one that does not accepts nothing
pub taken-none : (group : Draw) (row : Row Mail OrderLine) (of : Draw) (ballot : Ballot) (slot : ℕ) (command : Command)
    → (same_draw of group && list_any (λ (mail : Mail). is_accepted of ballot slot mail.body) row.sent) ≡ false
    → accepts_of group row (Accept of ballot slot command) ≡ []
taken-none group row of ballot slot command f = rw f refl

-- what is found among the acceptances with one more
pub found-next : (members : List ℕ) (all : List (Step Command)) (slot : ℕ) (xs : List Acceptance) (a : Acceptance)
    → found_in members all slot (steps_of (xs ++ a ∷ [])) ≡ with_chosen ((a.slot == slot) && is_majority members (voters_of all a.ballot slot)) (report_of a) (found_in members all slot (steps_of xs))
found-next members all slot xs a = ap (found_in members all slot) (steps_of-last xs a) ∙ by_choice ((a.slot == slot) && is_majority members (voters_of all a.ballot slot)) refl
  where
    by_choice : (b : Bool) → ((a.slot == slot) && is_majority members (voters_of all a.ballot slot)) ≡ b
        → found_in members all slot (step_of a ∷ steps_of xs) ≡ with_chosen ((a.slot == slot) && is_majority members (voters_of all a.ballot slot)) (report_of a) (found_in members all slot (steps_of xs))
    by_choice true e = rw e refl
    by_choice false e = rw e refl
