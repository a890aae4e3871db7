-- An entry takes one more slot and stands below the next one, and one that does not run executes and offers no more by itself.
use Rattle.std.proofs.Common.{◌≡◌, ℕ, ◌+◌, ◌-◌, ◌<◌, ◌≤◌, ◌&&◌, eqb, Bool, true, false, true≢false, cond, List, [], ◌∷◌, ◌++◌, length, Option, Some, None, inl, inr, refl, ◌∙◌, ap, arith, length-drop}
use Rattle.std.specs.Prelude.{nat_le, nat_lt, slice_get}
use Rattle.std.proofs.lemmas.Bool.{cond-true, cases_lt, eq-eqb, ltb-true}
use Rattle.std.proofs.lemmas.List.{length_push}
use Rattle.std.proofs.lemmas.Option.{slice_get_past}
use Rattle.sc_node_table.specs.Values.{Command, Learnt}
use Rattle.sc_words.specs.paxos.PaxosDefinitions.{LogState, entry_at, next_of, log_cut}
use Rattle.sc_node_table.specs.NodeDefinitions.{with_entry, entered, slot_lost, executed_one, next_child, has_room, ending, executed_ready, pumped, pumped_from, ReplicaState, Place, childless, next, first_set, may_offer, floor_of, forgotten, last_slot, at_slot}

-- an entry is put behind the others
pub entry_is : (command : Command) (log : LogState Command) → with_entry command log ≡ record log { entries = log.entries ++ command ∷ [] }
entry_is command log = ap (λ (p : Learnt × LogState Command). p.1) (cond-true (eqb (next_of log) (next_of log)) _ _ (eq-eqb (next_of log) (next_of log) refl))

-- what is forgotten is below the last entry
pub floor_under : (last : ℕ) → 1 ≤ last → floor_of last + 1 ≤ last
floor_under last some = omega arith

-- a log that is cut not above its last entry has the same next slot
pub cut_next : (upto : ℕ) (log : LogState Command) → upto ≤ log.base + length log.entries → next_of (log_cut upto log) ≡ next_of log
cut_next upto log low = let d = length-drop (upto - log.base) log.entries in omega (arith, low, d)

-- an entry of a log is below its next slot
pub entry_low : (slot : ℕ) (log : LogState Command) (command : Command) → entry_at slot log ≡ Some command → slot < next_of log
entry_low slot log command e = by (nat_lt log.base slot) refl e
  where
    held : (place : ℕ) → slice_get log.entries place ≡ Some command → place < length log.entries
    held place fact = elim (cases_lt place (length log.entries)) [ inl low ↦ low | inr past ↦ (let none = slice_get_past log.entries place past in cc (fact, none)) ]

    by : (b : Bool) → nat_lt log.base slot ≡ b → cond b (slice_get log.entries (slot - log.base - 1)) None ≡ Some command → slot < next_of log
    by true t fact = (let low = held (slot - log.base - 1) fact in let up = ltb-true log.base slot t in omega (arith, low, up))
    by false f fact = cc

-- a counted entry takes no slot from another command
pub lost_counted : (command : Command) (o : Option Command) (r : ReplicaState) → slot_lost true command o r ≡ r
lost_counted command None r = refl
lost_counted command (Some other) r = refl

-- one more slot is executed
pub entered_next : (command : Command) (r : ReplicaState) → next (entered command r) ≡ next r + 1
unfolding entered forgotten
entered_next command r =
    let log : LogState Command = record r.log { entries = r.log.entries ++ command ∷ [] } in
    let longer = length_push r.log.entries command in
    let low = floor_under (next r) (omega arith) in
    ap (λ l. next_of (log_cut (floor_of (next r)) l)) (entry_is command r.log) ∙ cut_next (floor_of (next r)) log (omega (arith, longer, low)) ∙ omega (arith, longer)

-- one that does not run executes nothing that is ready
pub idle_ready : (es : List (ℕ × Command)) (place : Place) → place.0.running ≡ false → executed_ready es place ≡ childless place
unfolding executed_ready
idle_ready [] place stopped = refl
idle_ready (e ∷ es) place stopped =
    ap (λ (o : Option Command). elim o [ None ↦ childless place | Some command ↦ ending (next_child command place.0) (executed_ready es (executed_one true command place)) ])
    (ap (λ b. cond (b && has_room place.0) (at_slot place.0.ready (next place.0)) None) stopped)

-- where nothing is ready nothing more is executed
pub none_ready : (place : Place) (ready : List (ℕ × Command)) → ready ≡ [] → executed_ready ready place ≡ childless place
unfolding executed_ready
none_ready place [] e = refl
none_ready place (entry ∷ ready) e = cc

-- the pump of a replica that does not run offers nothing
pub idle_pump : (place : Place) → place.0.running ≡ false → pumped place ≡ place
unfolding pumped
idle_pump place stopped = ap (λ b. cond b (pumped_from (next place.0) place.0.sets place) place) (all_false place.0.running stopped)
  where
    all_false : (b : Bool) → b ≡ false → ((b && may_offer place.0 (first_set place.0.sets)) && nat_le (next place.0) last_slot) ≡ false
    all_false true e = absurd (true≢false e)
    all_false false e = refl
