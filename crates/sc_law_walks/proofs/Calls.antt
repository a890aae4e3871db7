-- What a walk through the queue of requests finds, and what it leaves of them.
use Rattle.std.proofs.Common.{◌≡◌, ℕ, Bool, false, List, [], ◌∷◌, Option, Some, None, refl}
use Rattle.std.proofs.lemmas.Bool.{cond_both}
use Rattle.sc_node_table.specs.Values.{Command, Core, AnswerBody, Mail}
use Rattle.sc_node_table.specs.NodeDefinitions.{answered, waits, turned_down, next_queued}

-- Q holds of the calls that are left with the mails so far, and N of what is found: it does where nothing is taken and where a call is,
-- and Q goes on where one is turned down
module _ (me : ℕ) (idle : Bool) (core : Core) (Q : List Command → List Mail → Type 0) (N : Option Command × List Command × List Mail → Type 0)
    (none : (backlog : List Command) (mails : List Mail) → Q backlog mails → N (None, backlog, mails))
    (taken : (command : Command) (backlog : List Command) (mails : List Mail) → Q (command ∷ backlog) mails → N (Some command, backlog, mails))
    (goes : (command : Command) (answer : AnswerBody) (backlog : List Command) (mails : List Mail) → waits idle core.lock command ≡ false → turned_down core command ≡ Some answer → Q (command ∷ backlog) mails
    → Q backlog (answered me core.id answer command mails)) where
  next_by : (command : Command) (backlog : List Command) (mails : List Mail) (o : Option AnswerBody) → turned_down core command ≡ o → waits idle core.lock command ≡ false → Q (command ∷ backlog) mails
      → ((more : List Mail) → Q backlog more → N (next_queued me idle core backlog more))
      → N (elim o [ None ↦ (Some command, backlog, mails) | Some answer ↦ next_queued me idle core backlog (answered me core.id answer command mails) ])
  next_by command backlog mails None e w q more = taken command backlog mails q
  next_by command backlog mails (Some answer) e w q more = more (answered me core.id answer command mails) (goes command answer backlog mails w e q)

  pub next_found : (backlog : List Command) (mails : List Mail) → Q backlog mails → N (next_queued me idle core backlog mails)
  unfolding next_queued
  next_found [] mails q = none [] mails q
  next_found (command ∷ backlog) mails q =
      cond_both (waits idle core.lock command) (None, command ∷ backlog, mails) (elim (turned_down core command) [ None ↦ (Some command, backlog, mails) | Some answer ↦ next_queued me idle core backlog (answered me core.id answer command mails) ]) N
      (λ _. none (command ∷ backlog) mails q) (λ w. next_by command backlog mails (turned_down core command) refl w q (λ more d. next_found backlog more d))
