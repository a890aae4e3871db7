-- Each shell of a phase has one holder.
use Rattle.std.proofs.Common.{◌≡◌, ℕ, zero, suc, ◌+◌, List, [], ◌∷◌, ◌⊎◌, inl, inr, refl, sym, ap, ◌∙◌, subst, arith, ◌==◌, if◌then◌else◌}
use Rattle.sc_actor.specs.declared.actors.Actor.{Ghosts}
use Rattle.sc_actor.specs.declared.actors.Parcel.{Ghosts as MailGhosts}
use Rattle.sc_thread_work.specs.declared.shell.shells.Shell.{Shell}
use Rattle.sc_thread_work.specs.declared.queue.rule.Item.{Item}
use Rattle.sc_thread_work.specs.queue.Hands.{weigh, numbered}
use Rattle.sc_thread_workers.specs.Crews.{crew_numbers}
use Rattle.sc_thread_workers.specs.Holders.{times, is_of, put_of, queued_of, taken_of, HaveOneHolder, PhasesHaveOneHolder}

-- one of two
split : (queued taken : ℕ) → taken + queued ≡ 1 → ((queued ≡ 1) × (taken ≡ 0)) ⊎ ((queued ≡ 0) × (taken ≡ 1))
split zero taken e = inr (refl, omega (arith, e))
split (suc queued) taken e = inl (omega (arith, e), omega (arith, e))

module _ {A M O : Type 0} {g : Ghosts A M O} {h : MailGhosts M} where
  -- each number is put as often as it stands among those of the shells
  put_numbered : (place number : ℕ) (ss : List (Shell A M O g h)) → put_of number (numbered place ss) ≡ times number (crew_numbers ss)
  put_numbered place number [] = refl
  put_numbered place number (s ∷ ss) = ap (λ n. (if s.port.who == number then 1 else 0) + n) (put_numbered (place + 1) number ss)

  -- so shells that are put each at its place have one holder
  pub one_holder : (ss : List (Shell A M O g h)) (put : List (Item (Shell A M O g h))) → put ≡ numbered 0 ss → HaveOneHolder (crew_numbers ss) put
  one_holder ss put is = record {
    once = times_put;
    one = λ items views kept same number alone.
        split (queued_of number items) (taken_of number views)
        (sym (kept.balance (is_of number)) ∙ (ap (weigh (is_of number)) same ∙ (times_put number ∙ alone)));
  }
    where
      times_put : (number : ℕ) → put_of number put ≡ times number (crew_numbers ss)
      times_put number = ap (weigh (is_of number)) is ∙ put_numbered 0 number ss

  -- whatever a phase has made of them
  pub one_holder_each : (start : List (Shell A M O g h)) → PhasesHaveOneHolder start
  one_holder_each start ss same = subst (λ numbers. HaveOneHolder numbers (numbered 0 ss)) same (one_holder ss (numbered 0 ss) refl)
