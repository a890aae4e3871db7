-- The example's requests take effect.
use Rattle.std.proofs.Common.{◌≡◌, ℕ, List, [], ◌∷◌, ◌++◌, Option, Some, None, ap, ◌∙◌}
use Rattle.std.specs.Ordering.{nat_cmp}
use Rattle.std.specs.Cmp.{nat_cmp_total}
use Rattle.std.specs.Cmp.Lexicographic.{slice_cmp, nat_list_cmp_total}
use Rattle.std.specs.FinMap.{get, get-empty, get-insert}
use Rattle.sc_node_table.specs.Values.{Noted, Call, Effect, Entry}
use Rattle.sc_words.specs.ideal.IdealDefinitions.{reply_of}
use Rattle.sc_group_table.specs.machine.MachineDefinitions.{Group, group_of, applied, done, served_by_note, entry_of}
use Rattle.sc_meaning.specs.sound.SoundDefinitions.{history, four, alone, example_rows, example_history, put_it, get_it}

-- the group at its birth
abbrev pub born : Group
born = group_of alone

-- the entries by what comes of the put, and of the get after it
abbrev by_put : Group × Effect → List Entry
by_put x = ((entry_of (Call 1 1 put_it) x.1 ++ []) ++ []) ++ (((entry_of (Call 1 2 get_it) (applied x.0 (Call 1 2 get_it)).1 ++ []) ++ []) ++ [])

abbrev by_get : Group × Effect → List Entry
by_get y = ((entry_of (Call 1 1 put_it) (done born 1 1 put_it).1 ++ []) ++ []) ++ (((entry_of (Call 1 2 get_it) y.1 ++ []) ++ []) ++ [])

-- the put is done, for the client has requested nothing before
pub put : applied born (Call 1 1 put_it) ≡ done born 1 1 put_it
put = ap (λ (o : Option Noted). served_by_note o born 1 1 put_it) (get-empty nat_cmp 1)

-- the group after the put
abbrev pub next : Group
next = (done born 1 1 put_it).0

abbrev note : Noted
note = record { seq = 1; reply = reply_of put_it born.pairs }

-- the get after it is done
pub got : applied next (Call 1 2 get_it) ≡ done next 1 2 get_it
got = ap (λ (o : Option Noted). served_by_note o next 1 2 get_it) (get-insert nat_cmp_total born.clients 1 note 1)

abbrev entries : Option (List ℕ) → Option (List ℕ) → List Entry
entries first second =
    (record { client = 1; seq = 1; op = put_it; reply = record { old = first } })
    ∷ (record { client = 1; seq = 2; op = get_it; reply = record { old = second } }) ∷ []

-- at first there is nothing at the key a
pub nothing : get born.pairs (97 ∷ []) ≡ None
nothing = get-empty (slice_cmp nat_cmp) (97 ∷ [])

-- after the put, x is at the key a
pub value : get next.pairs (97 ∷ []) ≡ Some (120 ∷ [])
value = get-insert nat_list_cmp_total born.pairs (97 ∷ []) (120 ∷ []) (97 ∷ [])

-- its history is the put and the get after it
pub example_is_told : history four (alone ∷ []) example_rows ≡ example_history
example_is_told =
    ap by_put put ∙ ap by_get got
    ∙ ap (λ (o : Option (List ℕ)). entries o (get next.pairs (97 ∷ []))) nothing
    ∙ ap (λ (o : Option (List ℕ)). entries None o) value
