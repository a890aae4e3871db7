-- All gather where one shell has seen more than the port.
use Rattle.std.proofs.Common.{◌≡◌, ℕ, ◌<◌, List, length, get_or, set, sym, ◌∙◌, subst, get_or-set_other, get_or-set_same}
use mathlib.Core.Logic.{dite}
use native.Mathlib.Decide.{ℕ_discrete}
use Rattle.std.proofs.lemmas.List.{length-set}
use Rattle.sc_actor.specs.declared.actors.Actor.{Ghosts}
use Rattle.sc_actor.specs.declared.actors.Parcel.{Ghosts as MailGhosts}
use Rattle.sc_thread_ports.specs.declared.exchange.ports.Port.{Port}
use Rattle.sc_thread_ports.specs.exchange.Ports.{Looked}
use Rattle.sc_thread_work.specs.declared.shell.shells.Shell.{Shell}
use Rattle.sc_thread_workers.specs.Crews.{AllMet, AllOver, AreStill, HasMet, Met, Still}
use Rattle.sc_thread_workers.proofs.Crews.{has_later, still_same}
use Rattle.sc_thread_workers.proofs.ChangedLists.{get_any}
use Rattle.sc_thread_drive.specs.Gatherings.{OthersMet}

module _ {A M O : Type 0} {g : Ghosts A M O} {h : MailGhosts M} where
  -- one shell met the port, and the others are as they were
  pub one_met : (net next : Port M O h) (ss : List (Shell A M O g h)) (place : ℕ) (s t : Shell A M O g h) → place < length ss → s ≡ get_or ss place s → Met s t net next → AreStill net next ss (set ss place t)
  one_met net next ss place s t lt is met = record {
    len = length-set ss place t;
    still = λ k d inside.
        dite (ℕ_discrete k place)
        (λ e. subst (λ j. Still (get_or ss j d) (get_or (set ss place t) j d)) (sym e)
        (subst (Still (get_or ss place d)) (sym (get_or-set_same ss place t d lt))
        (subst (λ x. Still x t) (is ∙ get_any ss place s d lt) met.still)))
        (λ ne. subst (Still (get_or ss k d)) (sym (get_or-set_other ss place k t d ne)) (still_same (get_or ss k d)));
    looked = met.net;
  }

  -- and now all have met it
  pub all_met : (net next : Port M O h) (ss : List (Shell A M O g h)) (place : ℕ) (s t : Shell A M O g h) → place < length ss → OthersMet place net ss → Met s t net next → AllMet next (set ss place t)
  all_met net next ss place s t lt others met = λ k d inside.
      dite (ℕ_discrete k place)
      (λ e. subst (λ j. HasMet next (get_or (set ss place t) j d)) (sym e) (subst (HasMet next) (sym (get_or-set_same ss place t d lt)) met.has))
      (λ ne. subst (HasMet next) (sym (get_or-set_other ss place k t d ne))
      (has_later net next (get_or ss k d) met.net (others k d (subst (λ n. k < n) (length-set ss place t) inside) ne)))

  -- where all had gathered and one acted since, the others have seen only what the port has seen
  pub others_met : (net mid : Port M O h) (ss : List (Shell A M O g h)) (place : ℕ) (t : Shell A M O g h) → AllOver net ss → Looked net mid → OthersMet place mid (set ss place t)
  others_met net mid ss place t over looked = λ k d inside ne.
      subst (HasMet mid) (sym (get_or-set_other ss place k t d ne))
      (has_later net mid (get_or ss k d) looked (record { begins = (over k d (subst (λ n. k < n) (length-set ss place t) inside)).begins }))
