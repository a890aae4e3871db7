-- The steps that a row is, by its event.
use Rattle.std.proofs.Common.{◌≡◌, ℕ, zero, suc, ◌+◌, ◌<◌, ◌≤◌, List, ◌++◌, Option, Some, None, inl, inr, ap, arith}
use Rattle.sc_node_table.specs.Values.{Draw, OrderLine, Mail, Event, Deliver}
use Rattle.sc_actor.specs.Definitions.{numbered}
use Rattle.sc_node_table.specs.NodeDefinitions.{numbers_from}
use Rattle.sc_base.specs.Definitions.{Among}
use Rattle.sc_paxos_law.proofs.Lemmas.{place_among}
use Rattle.sc_meaning.specs.sound.SoundDefinitions.{accepts_got}
use Rattle.sc_law_groups.specs.group.GroupDefinitions.{asked_in, promises_got, steps_at}
use Rattle.sc_law_groups.proofs.GroupProofs.Invariant.{Steps}
use Rattle.sc_law_groups.proofs.GroupProofs.Frames.{node_row, steps_of}
use Rattle.sc_law_groups.proofs.GroupProofs.Names.{quiet_steps, no_asked}
use Rattle.sc_law_groups.proofs.GroupProofs.AcceptorRows.{ArePlain}

-- a mail that has a number was sent
pub number_among : (sent : List Mail) (number : ℕ) (m : Mail) → numbered sent number ≡ Some m → Among m sent
number_among sent zero m e = cc
number_among sent (suc place) m e = place_among sent place m e

-- the numbers from one on
pub among_numbers : (from count n : ℕ) → Among n (numbers_from from count) → (from ≤ n) × (n < from + count)
among_numbers from zero n a = absurd a
among_numbers from (suc count) n (inl e) = (omega (arith, e), omega (arith, e))
among_numbers from (suc count) n (inr a) = let k = among_numbers (from + 1) count n a in (omega (arith, k.0), omega (arith, k.1))

-- ---- the steps of a row

-- where a mail comes
pub steps_deliver : (group : Draw) (sent : List Mail) (who number : ℕ) (m : Mail) (out : List Mail) (older : Steps) → numbered sent number ≡ Some m
    → steps_at group sent (node_row who (Deliver number) out) older ≡ steps_of group who (Deliver number) m.body out older
steps_deliver group sent who number m out older e =
    ap (λ o. (promises_got group (node_row who (Deliver number) out) o ++ accepts_got group (node_row who (Deliver number) out) o) ++ asked_in group out older) e

steps_got : (group : Draw) (who : ℕ) (number : ℕ) (o : Option Mail) (out : List Mail) (older : Steps) → ArePlain out
    → ((promises_got group (node_row who (Deliver number) out) o ++ accepts_got group (node_row who (Deliver number) out) o) ++ asked_in group out older) ≡ older
steps_got group who number None out older plain = no_asked group out older plain
steps_got group who number (Some m) out older plain = quiet_steps group who (Deliver number) m.body out older plain

-- where only plain mail is sent
pub steps_plain : (group : Draw) (sent : List Mail) (who : ℕ) (event : Event OrderLine) (out : List Mail) (older : Steps) → ArePlain out → steps_at group sent (node_row who event out) older ≡ older
steps_plain group sent who (Deliver number) out older plain = steps_got group who number (numbered sent number) out older plain
steps_plain group sent who _ out older plain = no_asked group out older plain
