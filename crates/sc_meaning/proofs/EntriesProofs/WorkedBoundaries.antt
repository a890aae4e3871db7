-- Worked entries of boundaries that move: what they make of the ring and of the effective records, entry by entry, as a second implementation tells it. What is given away is a part of an empty store, which has no pairs.
use Rattle.std.proofs.Common.{◌≡◌, Bool, false, not, if◌then◌else◌, List, [], ◌∷◌, Some, None, ◌∙◌, ap}
use Rattle.std.specs.Ordering.{nat_cmp}
use Rattle.sc_base.specs.Definitions.{before, from}
use Rattle.sc_base.specs.declared.ops.Noted.{Noted}
use Rattle.sc_words.specs.declared.commands.bodies.Body.TheVariants.{Repart}
use Rattle.sc_words.specs.declared.commands.commands.Command.{Command}
use Rattle.sc_words.specs.declared.commands.commands.Command.TheVariants.{Begin, Prepared, RecordVote, Finish}
use Rattle.sc_words.specs.declared.commands.cores.Base.{Base}
use Rattle.sc_words.specs.declared.commands.effects.Effect.{Effect}
use Rattle.sc_words.specs.declared.commands.votes.Frozen.{Frozen}
use Rattle.sc_words.specs.declared.commands.votes.Gift.{Gift}
use Rattle.sc_words.specs.declared.commands.votes.Outcome.TheVariants.{Moved}
use Rattle.sc_words.specs.declared.commands.votes.Vote.TheVariants.{Yes}
use Rattle.sc_group_table.specs.machine.MachineDefinitions.{Group, group_of, applied, part_gift, has_key_of, taking_group, committed}
use Rattle.sc_meaning.specs.declared.entries.Transaction.{Transaction}
use Rattle.sc_meaning.specs.entries.EntryDefinitions.{after_outcome, StoreWorld, first_world, world_of, world_after, with_result}
use Rattle.sc_meaning.specs.declared.entries.LogEntry.{LogEntry}
use Rattle.sc_meaning.proofs.EntriesProofs.Nothing.{nothing_in, nothing_on}
use Rattle.sc_meaning.proofs.EntriesProofs.Worked.{draw, born, entry, cut, shown, seen, Shape, shape, shapes}

-- Two groups that make the ring.
abbrev one : Base
one = born 1 0 2147483648 (1 ∷ []) 2 (2 ∷ []) 2 (2 ∷ [])

abbrev two : Base
two = born 2 2147483648 2147483648 (2 ∷ []) 1 (1 ∷ []) 1 (1 ∷ [])

abbrev pair : List Base
pair = one ∷ two ∷ []

abbrev at_first : Shape
at_first = shape
    (cut 0 2147483648 (draw 0 1) ∷ cut 2147483648 2147483648 (draw 0 2) ∷ [])
    (shown (draw 0 1) 0 2147483648 (draw 0 2) (draw 0 2) ∷ shown (draw 0 2) 2147483648 2147483648 (draw 0 1) (draw 0 1) ∷ [])

abbrev its_yes : Frozen
its_yes = record { arc = record { lo = 2147483648; len = 2147483648 }; members = 2 ∷ []; succ = record { group = draw 0 1; members = 1 ∷ [] }; pairs = []; clients = [] }

-- A boundary moves into the coordinator's arc.
abbrev near_begins : Command
near_begins = Begin (draw 1 1) (Repart 1677721600) 1

abbrev near_promises : Command
near_promises = Prepared (draw 1 1) (record { coord = draw 0 1; part = draw 0 2; arc = record { lo = 0; len = 2147483648 }; members = 1 ∷ []; body = Repart 1677721600; by = 1 })

abbrev near_entries : List LogEntry
near_entries =
    entry (draw 0 1) 1 near_begins
    ∷ entry (draw 0 2) 1 near_promises
    ∷ entry (draw 0 1) 2 (RecordVote (draw 1 1) (Yes its_yes) 2)
    ∷ entry (draw 0 2) 2 (Finish (draw 1 1) (Moved 1677721600 (Some (record { pairs = []; clients = [] })))) ∷ []

abbrev near_second : Shape
near_second = shape
    (cut 0 1677721600 (draw 0 1) ∷ cut 1677721600 2617245696 (draw 0 2) ∷ [])
    (shown (draw 0 1) 0 1677721600 (draw 0 2) (draw 0 2) ∷ shown (draw 0 2) 1677721600 2617245696 (draw 0 1) (draw 0 1) ∷ [])

-- what the coordinator gives away
abbrev near_gift : Gift
near_gift = part_gift (applied (group_of one) near_begins).0 1677721600

abbrev no_gift : Gift
no_gift = record { pairs = []; clients = [] }

nothing_given : near_gift ≡ no_gift
nothing_given =
    ap (λ pairs. (let gift : Gift = record { pairs = pairs; clients = near_gift.clients } in gift)) (nothing_on (from one.core.arc 1677721600))
    ∙ ap (λ clients. (let gift : Gift = record { pairs = []; clients = clients } in gift)) (nothing_in nat_cmp Noted)

-- what is seen of the participant after the decision, by the gift
abbrev near_participant : Gift → Group
near_participant gift = after_outcome (Some (Moved 1677721600 (Some gift))) (draw 1 1) (applied (group_of two) near_promises).0

near_is : shapes (first_world pair) near_entries ≡ at_first ∷ at_first ∷ at_first ∷ near_second ∷ near_second ∷ []
near_is = ap
    (λ gift. at_first ∷ at_first ∷ at_first ∷ shape near_second.ring (shown (draw 0 1) 0 1677721600 (draw 0 2) (draw 0 2) ∷ seen (near_participant gift) ∷ []) ∷ near_second ∷ [])
    nothing_given

abbrev near_told : Gift → Transaction
near_told gift = record { tx = draw 1 1; coordinator = draw 0 1; body = Repart 1677721600; participant = Some (draw 0 2); watcher = None; outcome = Some (Moved 1677721600 (Some gift)) }

near_tells : (world_of pair near_entries).transactions ≡ near_told no_gift ∷ []
near_tells = ap (λ gift. near_told gift ∷ []) nothing_given

-- A boundary moves into the participant's arc.
abbrev far_begins : LogEntry
far_begins = entry (draw 0 1) 1 (Begin (draw 1 1) (Repart 3000000000) 1)

abbrev far_promises : LogEntry
far_promises = entry (draw 0 2) 1 (Prepared (draw 1 1) (record { coord = draw 0 1; part = draw 0 2; arc = record { lo = 0; len = 2147483648 }; members = 1 ∷ []; body = Repart 3000000000; by = 1 }))

abbrev far_records : Command
far_records = RecordVote (draw 1 1) (Yes its_yes) 2

abbrev far_finishes : LogEntry
far_finishes = entry (draw 0 2) 2 (Finish (draw 1 1) (Moved 3000000000 None))

abbrev far_entries : List LogEntry
far_entries = far_begins ∷ far_promises ∷ entry (draw 0 1) 2 far_records ∷ far_finishes ∷ []

abbrev far_second : Shape
far_second = shape
    (cut 0 3000000000 (draw 0 1) ∷ cut 3000000000 1294967296 (draw 0 2) ∷ [])
    (shown (draw 0 1) 0 3000000000 (draw 0 2) (draw 0 2) ∷ shown (draw 0 2) 3000000000 1294967296 (draw 0 1) (draw 0 1) ∷ [])

-- the world and the coordinator when it hears its participant, and what it takes
abbrev far_world : StoreWorld
far_world = world_after (first_world pair) (far_begins ∷ far_promises ∷ [])

abbrev far_group : Group
far_group = (applied (group_of one) far_begins.command).0

abbrev far_taken : Bool → Group × Effect
far_taken brings = committed (if not brings then Some (taking_group far_group 3000000000 its_yes, Moved 3000000000 None) else None) far_group (draw 1 1)

-- it brings no key that is there
takes : applied far_group far_records ≡ far_taken false
takes = ap (λ pairs. far_taken (has_key_of far_group.pairs pairs)) (nothing_on (before its_yes.arc 3000000000))

far_is : shapes (first_world pair) far_entries ≡ at_first ∷ at_first ∷ at_first ∷ far_second ∷ far_second ∷ []
far_is = ap (λ result. at_first ∷ at_first ∷ at_first ∷ shapes (with_result far_world far_group far_records result) (far_finishes ∷ [])) takes

far_tells : (world_of pair far_entries).transactions
    ≡ record { tx = draw 1 1; coordinator = draw 0 1; body = Repart 3000000000; participant = Some (draw 0 2); watcher = None; outcome = Some (Moved 3000000000 None) } ∷ []
far_tells = ap (λ result. (world_after (with_result far_world far_group far_records result) (far_finishes ∷ [])).transactions) takes
