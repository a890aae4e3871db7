-- Worked entries of calls in two groups: the history is in the order of the entries, whichever group they are of.
use Rattle.std.proofs.Common.{◌≡◌, ℕ, List, [], ◌∷◌, Option, Some, None, ◌∙◌, ap}
use Rattle.std.specs.Cmp.{nat_cmp_total}
use Rattle.std.specs.Cmp.Lexicographic.{slice_cmp, nat_list_cmp_total}
use Rattle.std.specs.FinMap.{get, get-empty, get-insert}
use Rattle.std.specs.Ordering.{nat_cmp}
use Rattle.sc_base.specs.declared.ops.Noted.{Noted}
use Rattle.sc_base.specs.declared.ops.Op.{Op}
use Rattle.sc_base.specs.declared.ops.Op.TheVariants.{Get, Put}
use Rattle.sc_words.specs.declared.commands.commands.Command.TheVariants.{Call}
use Rattle.sc_words.specs.declared.commands.cores.Base.{Base}
use Rattle.sc_words.specs.declared.commands.effects.Effect.{Effect}
use Rattle.sc_words.specs.declared.ideal.Entry.{Entry}
use Rattle.sc_group_table.specs.machine.MachineDefinitions.{Group, group_of, applied, done, served_by_note}
use Rattle.sc_meaning.specs.declared.entries.LogEntry.{LogEntry}
use Rattle.sc_meaning.specs.entries.EntryDefinitions.{StoreWorld, first_world, world_of, world_after, with_result}
use Rattle.sc_meaning.proofs.EntriesProofs.Worked.{draw, born, entry}

-- the first group has the key a, and the second the key m
abbrev one : Base
one = born 1 0 1828716544 (1 ∷ []) 2 (2 ∷ []) 2 (2 ∷ [])

abbrev two : Base
two = born 2 1828716544 2466250752 (2 ∷ []) 1 (1 ∷ []) 1 (1 ∷ [])

abbrev pair : List Base
pair = one ∷ two ∷ []

abbrev key_a : List ℕ
key_a = 97 ∷ []

abbrev key_m : List ℕ
key_m = 109 ∷ []

-- a call of the second group, one of the first, and again one of the second
abbrev put_m : Op
put_m = Put key_m (120 ∷ [])

abbrev put_a : Op
put_a = Put key_a (121 ∷ [])

abbrev get_m : Op
get_m = Get key_m

abbrev calls : List LogEntry
calls = entry (draw 0 2) 1 (Call 1 1 put_m) ∷ entry (draw 0 1) 1 (Call 2 1 put_a) ∷ entry (draw 0 2) 2 (Call 1 2 get_m) ∷ []

-- an entry of the history
abbrev answered : ℕ → ℕ → Op → Option (List ℕ) → Entry
answered client seq op old = record { client = client; seq = seq; op = op; reply = record { old = old } }

-- the history, by what the three replies are
abbrev told_as : Option (List ℕ) → Option (List ℕ) → Option (List ℕ) → List Entry
told_as first second third = answered 1 1 put_m first ∷ answered 2 1 put_a second ∷ answered 1 2 get_m third ∷ []

abbrev start_one : Group
start_one = group_of one

abbrev start_two : Group
start_two = group_of two

-- the worlds after the first two calls
abbrev second : StoreWorld
second = with_result (first_world pair) start_two (Call 1 1 put_m) (done start_two 1 1 put_m)

abbrev third : StoreWorld
third = with_result second start_one (Call 2 1 put_a) (done start_one 2 1 put_a)

-- the second group after its first call, and what it notes
abbrev next_two : Group
next_two = (done start_two 1 1 put_m).0

abbrev note : Noted
note = record { seq = 1; reply = record { old = get start_two.pairs key_m } }

-- each call is a new one
first_is_new : applied start_two (Call 1 1 put_m) ≡ done start_two 1 1 put_m
first_is_new = ap (λ (o : Option Noted). served_by_note o start_two 1 1 put_m) (get-empty nat_cmp 1)

second_is_new : applied start_one (Call 2 1 put_a) ≡ done start_one 2 1 put_a
second_is_new = ap (λ (o : Option Noted). served_by_note o start_one 2 1 put_a) (get-empty nat_cmp 2)

third_is_new : applied next_two (Call 1 2 get_m) ≡ done next_two 1 2 get_m
third_is_new = ap (λ (o : Option Noted). served_by_note o next_two 1 2 get_m) (get-insert nat_cmp_total start_two.clients 1 note 1)

calls_are : (world_of pair calls).history ≡ told_as None None (Some (120 ∷ []))
calls_are =
    ap (λ (result : Group × Effect). (world_after (with_result (first_world pair) start_two (Call 1 1 put_m) result) (entry (draw 0 1) 1 (Call 2 1 put_a) ∷ entry (draw 0 2) 2 (Call 1 2 get_m) ∷ [])).history) first_is_new
    ∙ ap (λ (result : Group × Effect). (world_after (with_result second start_one (Call 2 1 put_a) result) (entry (draw 0 2) 2 (Call 1 2 get_m) ∷ [])).history) second_is_new
    ∙ ap (λ (result : Group × Effect). (with_result third next_two (Call 1 2 get_m) result).history) third_is_new
    ∙ ap (λ (o : Option (List ℕ)). told_as o (get start_one.pairs key_a) (get next_two.pairs key_m)) (get-empty (slice_cmp nat_cmp) key_m)
    ∙ ap (λ (o : Option (List ℕ)). told_as None o (get next_two.pairs key_m)) (get-empty (slice_cmp nat_cmp) key_a)
    ∙ ap (λ (o : Option (List ℕ)). told_as None None o) (get-insert nat_list_cmp_total start_two.pairs key_m (120 ∷ []) key_m)
