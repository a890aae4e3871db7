-- Worked entries of a group that has pairs and splits: each part has the pairs on its arc.
use Rattle.std.proofs.Common.{◌≡◌, ℕ, List, [], ◌∷◌, Option, Some, None, ◌∙◌, ap}
use Rattle.std.specs.Cmp.{nat_cmp_total}
use Rattle.std.specs.Cmp.Lexicographic.{nat_list_cmp_total}
use Rattle.std.specs.FinMap.{get, get-empty, get-insert}
use Rattle.std.specs.Option.{option_and_then}
use Rattle.std.specs.Ordering.{nat_cmp}
use Rattle.sc_base.specs.Definitions.{Arc, before, from}
use Rattle.sc_base.specs.declared.names.Draw.{Draw}
use Rattle.sc_base.specs.declared.ops.Noted.{Noted}
use Rattle.sc_base.specs.declared.ops.Op.{Op}
use Rattle.sc_base.specs.declared.ops.Op.TheVariants.{Put}
use Rattle.sc_words.specs.declared.commands.commands.Command.TheVariants.{Call, Split}
use Rattle.sc_words.specs.declared.commands.cores.Base.{Base}
use Rattle.sc_words.specs.declared.commands.effects.Effect.{Effect}
use Rattle.sc_words.specs.ideal.IdealDefinitions.{Contents, holds_key, part_of}
use Rattle.sc_words.proofs.IdealProofs.IdealLemmas.{get-part}
use Rattle.sc_group_table.specs.machine.MachineDefinitions.{Group, group_of, applied, done, served_by_note}
use Rattle.sc_group_table.proofs.MachineProofs.Lemmas.{pairs_again}
use Rattle.sc_meaning.specs.declared.entries.LogEntry.{LogEntry}
use Rattle.sc_meaning.specs.entries.EntryDefinitions.{effective, StoreWorld, first_world, world_of, world_after, with_result, recorded}
use Rattle.sc_meaning.proofs.EntriesProofs.Worked.{draw, born, entry}

-- a group that has the whole ring puts x at a and y at m, and splits at m
abbrev lone : Base
lone = born 1 0 4294967296 (1 ∷ 2 ∷ []) 1 (1 ∷ 2 ∷ []) 1 (1 ∷ 2 ∷ [])

abbrev key_a : List ℕ
key_a = 97 ∷ []

abbrev key_m : List ℕ
key_m = 109 ∷ []

abbrev put_a : Op
put_a = Put key_a (120 ∷ [])

abbrev put_m : Op
put_m = Put key_m (121 ∷ [])

abbrev splits : LogEntry
splits = entry (draw 0 1) 3 (Split 1828716544 (draw 1 1) 1)

abbrev entries : List LogEntry
entries = entry (draw 0 1) 1 (Call 1 1 put_a) ∷ entry (draw 0 1) 2 (Call 1 2 put_m) ∷ splits ∷ []

-- the value that a group has at a key, by its effective record
abbrev found : StoreWorld → Draw → List ℕ → Option (List ℕ)
found world name key = option_and_then (λ group. get group.pairs key) (effective world name)

-- the group before and after its first call, and what it notes
abbrev start : Group
start = group_of lone

abbrev next : Group
next = (done start 1 1 put_a).0

abbrev note : Noted
note = record { seq = 1; reply = record { old = get start.pairs key_a } }

-- the pairs after both calls
abbrev pairs : Contents
pairs = (done next 1 2 put_m).0.pairs

-- the world after both
abbrev called : StoreWorld
called = with_result (with_result (first_world (lone ∷ [])) start (Call 1 1 put_a) (done start 1 1 put_a)) next (Call 1 2 put_m) (done next 1 2 put_m)

first_is_new : applied start (Call 1 1 put_a) ≡ done start 1 1 put_a
first_is_new = ap (λ (o : Option Noted). served_by_note o start 1 1 put_a) (get-empty nat_cmp 1)

second_is_new : applied next (Call 1 2 put_m) ≡ done next 1 2 put_m
second_is_new = ap (λ (o : Option Noted). served_by_note o next 1 2 put_m) (get-insert nat_cmp_total start.clients 1 note 1)

world_is : world_of (lone ∷ []) entries ≡ recorded called splits
world_is =
    ap (λ (result : Group × Effect). world_after (with_result (first_world (lone ∷ [])) start (Call 1 1 put_a) result) (entry (draw 0 1) 2 (Call 1 2 put_m) ∷ splits ∷ [])) first_is_new
    ∙ ap (λ (result : Group × Effect). recorded (with_result (with_result (first_world (lone ∷ [])) start (Call 1 1 put_a) (done start 1 1 put_a)) next (Call 1 2 put_m) result) splits) second_is_new

-- what was put
at_a : get pairs key_a ≡ Some (120 ∷ [])
at_a = get-insert nat_list_cmp_total next.pairs key_m (121 ∷ []) key_a ∙ get-insert nat_list_cmp_total start.pairs key_a (120 ∷ []) key_a

at_m : get pairs key_m ≡ Some (121 ∷ [])
at_m = get-insert nat_list_cmp_total next.pairs key_m (121 ∷ []) key_m

-- the two parts of the ring
abbrev left : Arc
left = before lone.core.arc 1828716544

abbrev right : Arc
right = from lone.core.arc 1828716544

-- the group keeps a, and the child has m
left_has_a : found (world_of (lone ∷ []) entries) (draw 0 1) key_a ≡ Some (120 ∷ [])
left_has_a = ap (λ world. found world (draw 0 1) key_a) world_is ∙ get-part pairs (holds_key left) key_a ∙ at_a

left_has_no_m : (let none : Option (List ℕ) = None in found (world_of (lone ∷ []) entries) (draw 0 1) key_m ≡ none)
left_has_no_m = ap (λ world. found world (draw 0 1) key_m) world_is ∙ get-part pairs (holds_key left) key_m

right_has_m : found (world_of (lone ∷ []) entries) (draw 1 1) key_m ≡ Some (121 ∷ [])
right_has_m =
    ap (λ world. found world (draw 1 1) key_m) world_is
    ∙ ap (λ contents. get contents key_m) (pairs_again (part_of right pairs))
    ∙ get-part pairs (holds_key right) key_m ∙ at_m
