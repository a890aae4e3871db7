-- What a step of a storm does, by its two words and by the pending mail, and the schedule line of one row that it is. A deed is what one step does.
use Rattle.std.specs.Prelude.{◌≡◌, ℕ, zero, suc, ◌+◌, ◌%◌, ◌==◌, List, length, slice_get, Option, Some, None, if◌then◌else◌}
use Rattle.sc_actor.specs.declared.schedules.Line.{Line}
use Rattle.sc_actor.specs.declared.schedules.Line.TheVariants as line
use Rattle.sc_thread_ledger.specs.declared.spots.Spot.{Spot}
use Rattle.sc_thread_ledger.specs.declared.spots.Look.{Look}
use Rattle.sc_thread_ledger.specs.declared.spots.Glance.{Glance}
use Rattle.sc_thread_ledger.specs.Spots.{copies_for, picked_spot}
use Rattle.sc_thread_pool.specs.declared.storm.deeds.Deed.{Deed}
use Rattle.sc_thread_pool.specs.declared.storm.deeds.Deed.TheVariants.{Drop, Again, Tick, Deliver, Nothing}

-- The deed that loses this copy, or nothing where there is none.
abbrev pub copy_lost : Option Spot → Deed
copy_lost None = Nothing
copy_lost (Some spot) = Drop spot.number spot.who spot.k

-- The deed that delivers this copy, or nothing where there is none.
abbrev pub copy_delivered : Option Spot → Deed
copy_delivered None = Nothing
copy_delivered (Some spot) = Deliver spot.who spot.k

-- The deed at which the clock of this actor ticks, or nothing where there is none.
abbrev pub clock_ticked : Option ℕ → Deed
clock_ticked None = Nothing
clock_ticked (Some who) = Tick who

-- The deed that repeats the mail that the word `v` picks of the first `sent` mails, or nothing where none was sent.
abbrev pub mail_repeated : ℕ → ℕ → Deed
mail_repeated sent v = if sent == 0 then Nothing else Again (1 + v % sent)

-- The deed by the first word modulo 16 (0 loses, 1 repeats, 2 ticks, others deliver) and the second word, which picks the copy, the mail or the actor.
abbrev pub deed_by : List ℕ → Look → ℕ → ℕ → Deed
deed_by actors look zero v = copy_lost (picked_spot (copies_for actors look.pending) v)
deed_by actors look (suc zero) v = mail_repeated look.sent v
deed_by actors look (suc (suc zero)) v = clock_ticked (slice_get actors (v % length actors))
deed_by actors look (suc (suc (suc more))) v = copy_delivered (picked_spot (copies_for actors look.pending) v)

-- The deed of a step with these two words, where the actors have these numbers, in their order, and `look` is what is pending.
abbrev pub deed_of : List ℕ → Look → ℕ × ℕ → Deed
deed_of actors look words = deed_by actors look (words.0 % 16) words.1

-- The glance agrees with the look: it has the number of mails that were sent, and of the pending copies for the actors the one that `word` picks.
pub record Shows (actors : List ℕ) (word : ℕ) (look : Look) (glance : Glance) : Type 0 where
  pub sent : glance.sent ≡ look.sent
  pub spot : glance.spot ≡ picked_spot (copies_for actors look.pending) word

-- The schedule line of one row that the deed is, or none for the deed that is nothing.
abbrev pub deed_line : {O : Type 0} → Deed → Option (Line O)
deed_line (Drop number who k) = Some (line.Drop who k)
deed_line (Again number) = Some (line.Again number)
deed_line (Tick who) = Some (line.Tick who)
deed_line (Deliver who k) = Some (line.Deliver who k)
deed_line Nothing = None
