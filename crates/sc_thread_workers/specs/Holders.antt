-- Where a shell is in a phase, by its actor's number.
use Rattle.std.specs.Prelude.{◌≡◌, ℕ, ◌==◌, List, ◌⊎◌, if◌then◌else◌}
use Rattle.sc_actor.specs.declared.actors.Actor.{Ghosts}
use Rattle.sc_actor.specs.declared.actors.Parcel.{Ghosts as MailGhosts}
use Rattle.sc_thread_work.specs.declared.shell.shells.Shell.{Shell}
use Rattle.sc_thread_work.specs.declared.queue.rule.Hand.{Hand}
use Rattle.sc_thread_work.specs.declared.queue.rule.Item.{Item}
use Rattle.sc_thread_work.specs.queue.Hands.{weigh, numbered, Kept}
use Rattle.sc_thread_workers.specs.Crews.{crew_numbers}

-- How often the number is in the list.
abbrev pub times : ℕ → List ℕ → ℕ
times number numbers = weigh (λ who. if who == number then 1 else 0) numbers

module _ {A M O : Type 0} {g : Ghosts A M O} {h : MailGhosts M} where
  -- The weight that counts shells of the actor `number`: 1 for an item with one, and else 0.
  abbrev pub is_of : ℕ → Item (Shell A M O g h) → ℕ
  is_of number item = if item.work.port.who == number then 1 else 0

  -- How often a shell of the actor `number` was put.
  abbrev pub put_of : ℕ → List (Item (Shell A M O g h)) → ℕ
  put_of number put = weigh (is_of number) put

  -- How often a shell of the actor `number` is in the queue.
  abbrev pub queued_of : ℕ → List (Item (Shell A M O g h)) → ℕ
  queued_of number items = weigh (is_of number) items

  -- How often one holder has taken a shell of the actor `number`.
  abbrev pub held_by : ℕ → Hand (Shell A M O g h) → ℕ
  held_by number holder = weigh (is_of number) holder.taken

  -- How often all holders together have taken a shell of the actor `number`.
  abbrev pub taken_of : ℕ → List (Hand (Shell A M O g h)) → ℕ
  taken_of number views = weigh (held_by number) views

  -- The shell of the actor `number` is in the queue and nobody has taken it, or it is not in the queue and was taken once, by one holder.
  abbrev pub HasOneHolder : ℕ → List (Item (Shell A M O g h)) → List (Hand (Shell A M O g h)) → Type 0
  HasOneHolder number items views = ((queued_of number items ≡ 1) × (taken_of number views ≡ 0)) ⊎ ((queued_of number items ≡ 0) × (taken_of number views ≡ 1))

  -- What was put has each actor's shell as often as `numbers` has the actor. So in every state of the queue under its rule, the shell of an actor that is in the list once has one holder.
  pub record HaveOneHolder (numbers : List ℕ) (put : List (Item (Shell A M O g h))) : Type 0 where
    pub once : (number : ℕ) → put_of number put ≡ times number numbers
    pub one : (items : List (Item (Shell A M O g h))) (views : List (Hand (Shell A M O g h))) (kept : Kept items views) → kept.put ≡ put → (number : ℕ) → times number numbers ≡ 1 → HasOneHolder number items views

  -- In each phase: if shells of these actors are put, each at its place, then the shell of each actor that is among them once has one holder.
  abbrev pub PhasesHaveOneHolder : List (Shell A M O g h) → Type 0
  PhasesHaveOneHolder start = (ss : List (Shell A M O g h)) → crew_numbers ss ≡ crew_numbers start → HaveOneHolder (crew_numbers start) (numbered 0 ss)
