-- What is asked of the commands that a replica keeps stays true of those that it keeps on.
use Rattle.std.proofs.Common.{◌≡◌, ◌≤◌, ◌+◌, ℕ, Bool, true, false, cond, List, [], ◌∷◌, ◌++◌, filter, length, length-append, Option, Some, None, sym, ap, ◌∙◌, subst, arith}
use Rattle.std.proofs.lemmas.Bool.{cond_both}
use Rattle.std.proofs.lemmas.List.Elements.{filter-append}
use Rattle.sc_base.specs.Definitions.{same_draw, Each}
use Rattle.sc_base.proofs.Lemmas.{draw_is}
use Rattle.sc_node_table.specs.NodeDefinitions.{is_giving_up, put_back, ReplicaState, flying, taken_at, listed, taken_from, open_slots, under_way, at_slot}
use Rattle.sc_law_refusal.specs.refusal.RefusalDefinitions.{ends_queued}
use Rattle.sc_node_table.specs.Values.{Draw, Command, Noop, Call, Join, Leave, Split, Begin, Prepared, RecordVote, GiveUp, Finish, Watched, RecordWatch, Must, Gap, Flight, Report}
use Rattle.sc_words.proofs.PaxosProofs.PaxosLemmas.{Each-append}
use Rattle.sc_words.specs.declared.paxos.answers.Must.TheVariants.{Value, Free as Open}
use Rattle.sc_words.specs.paxos.PaxosDefinitions.{choice, chosen_value, names_above, must, must_without}
use Rattle.sc_law_entries.specs.names.NameDefinitions.{Opt}
use Rattle.sc_law_entries.proofs.NamesProofs.NameLemmas.{opt_map, opt_either, opt_slot, opt_choice}
use Rattle.sc_law_entries.proofs.NamesProofs.HeldCommands.{Held, back_held, flying_held}
use Rattle.sc_law_walks.proofs.WalkLemmas.{either_way}

-- one more at the start, and one more at the end
counted_in : (b : Bool) (command : Command) (others : List Command) → length (cond b (command ∷ others) others) ≡ length others + length (cond b (command ∷ []) [])
counted_in true command others = omega arith
counted_in false command others = omega arith

ends_before : (command : Command) (acts : List Command) (tx : Draw) → ends_queued tx (command ∷ acts) ≡ ends_queued tx acts + ends_queued tx (command ∷ [])
ends_before command acts tx = counted_in (is_giving_up tx command) command (filter (is_giving_up tx) acts)

pub ends_after : (command : Command) (acts : List Command) (tx : Draw) → ends_queued tx (acts ++ command ∷ []) ≡ ends_queued tx acts + ends_queued tx (command ∷ [])
ends_after command acts tx = ap length (filter-append (is_giving_up tx) acts (command ∷ [])) ∙ length-append (filter (is_giving_up tx) acts) (filter (is_giving_up tx) (command ∷ []))

-- the head goes
pub ends_behind : (command : Command) (acts : List Command) (tx : Draw) → ends_queued tx acts ≤ ends_queued tx (command ∷ acts)
ends_behind command acts tx = let more = ends_before command acts tx in omega (arith, more)

module _ (A : Command → Type 0) (G : Draw → ℕ → Type 0) where
  -- a call is one that was asked
  abbrev pub Kept : Command → Type 0
  Kept (Call client seq op) = A (Call client seq op)
  Kept (GiveUp tx) = Unit {0}
  Kept Noop = Unit {0}
  Kept (Join node order) = Unit {0}
  Kept (Leave node order) = Unit {0}
  Kept (Split at child order) = Unit {0}
  Kept (Begin tx body order) = Unit {0}
  Kept (Prepared tx offer) = Unit {0}
  Kept (RecordVote tx vote by) = Unit {0}
  Kept (Finish tx outcome) = Unit {0}
  Kept (Watched tx watch) = Unit {0}
  Kept (RecordWatch tx vote by) = Unit {0}

  -- no more GiveUp commands are queued than may be
  abbrev pub DueAll : List Command → Type 0
  DueAll acts = (tx : Draw) → (count : ℕ) × (ends_queued tx acts ≤ count) × G tx count

  -- a command may be queued beside these: if it is a GiveUp, one more may be
  abbrev pub Due : Command → List Command → Type 0
  Due (GiveUp tx) acts = (count : ℕ) × (ends_queued tx acts + 1 ≤ count) × G tx count
  Due (Call client seq op) acts = Unit {0}
  Due Noop acts = Unit {0}
  Due (Join node order) acts = Unit {0}
  Due (Leave node order) acts = Unit {0}
  Due (Split at child order) acts = Unit {0}
  Due (Begin tx body order) acts = Unit {0}
  Due (Prepared tx offer) acts = Unit {0}
  Due (RecordVote tx vote by) acts = Unit {0}
  Due (Finish tx outcome) acts = Unit {0}
  Due (Watched tx watch) acts = Unit {0}
  Due (RecordWatch tx vote by) acts = Unit {0}

  abbrev pub KeptAll : List Command → Type 0
  KeptAll commands = Each Kept commands

  abbrev pub KeptOne : Option Command → Type 0
  KeptOne o = Opt Kept o

  abbrev pub Flying : Flight Command → Type 0
  Flying flight = Kept flight.value

  abbrev pub Reported : Report Command → Type 0
  Reported report = Kept report.value

  abbrev pub Ready : ℕ × Command → Type 0
  Ready counted = Kept counted.1

  -- so is all that a replica keeps
  pub record Holds (r : ReplicaState) : Type 0 where
    pub backlog : KeptAll r.backlog
    pub acts : KeptAll r.acts
    pub due : DueAll r.acts
    pub flights : Each Flying r.leader.flights
    pub ready : Each Ready r.ready
    pub reports : Each Reported r.leader.reports

  pub with_calls : (r : ReplicaState) (commands : List Command) → KeptAll commands → Holds r → Holds (record r { backlog = commands })
  with_calls r commands c h = record { backlog = c; acts = h.acts; due = h.due; flights = h.flights; ready = h.ready; reports = h.reports }

  pub with_acts : (r : ReplicaState) (commands : List Command) → KeptAll commands → DueAll commands → Holds r → Holds (record r { acts = commands })
  with_acts r commands a d h = record { backlog = h.backlog; acts = a; due = d; flights = h.flights; ready = h.ready; reports = h.reports }

  -- ---- how many GiveUp commands are queued

  -- fewer may be where more may
  pub fewer_due : (acts fewer : List Command) → ((tx : Draw) → ends_queued tx fewer ≤ ends_queued tx acts) → DueAll acts → DueAll fewer
  fewer_due acts fewer few d tx = (let p = d tx in let less = few tx in let most = p.1 in (p.0, omega (arith, less, most), p.2))

  other_due : (acts more : List Command) → ((tx : Draw) → ends_queued tx more ≡ ends_queued tx acts + 0) → DueAll acts → DueAll more
  other_due acts more fact d = fewer_due acts more (λ tx. (let same = fact tx in omega (arith, same))) d

  -- with one that may be
  pub more_due : (command : Command) (acts more : List Command) → ((tx : Draw) → ends_queued tx more ≡ ends_queued tx acts + ends_queued tx (command ∷ [])) → Due command acts → DueAll acts → DueAll more
  more_due (GiveUp other) acts more fact k d = λ tx.
      cond_both (same_draw tx other) (GiveUp other ∷ []) [] (λ (one : List Command). ends_queued tx more ≡ ends_queued tx acts + length one → (count : ℕ) × (ends_queued tx more ≤ count) × G tx count)
      (λ e now. (let p = subst (λ (name : Draw). Due (GiveUp name) acts) (sym (draw_is tx other e)) k in let most = p.1 in (p.0, omega (arith, now, most), p.2)))
      (λ _ now. (let p = d tx in let most = p.1 in (p.0, omega (arith, now, most), p.2))) (fact tx)
  more_due Noop acts more fact k d = other_due acts more fact d
  more_due _ acts more fact k d = other_due acts more fact d

  -- ---- what goes back

  -- its commands in the queues, with its leader, and ready
  pub held_of : (r : ReplicaState) → Holds r → Held Kept r
  held_of r h = (h.backlog, h.acts, h.flights, h.reports, h.ready)

  back_due : (command : Command) (r : ReplicaState) → Due command r.acts → DueAll r.acts → DueAll (put_back command r).acts
  unfolding put_back
  back_due Noop r d due = due
  back_due (Call client seq op) r d due = due
  back_due (Join node order) r d due = due
  back_due (Leave node order) r d due = due
  back_due (Split at child order) r d due = due
  back_due (Begin tx body order) r d due = due
  back_due command r d due = more_due command r.acts (command ∷ r.acts) (ends_before command r.acts) d due

  pub back_kept : (command : Command) (r : ReplicaState) → Kept command → Due command r.acts → Holds r → Holds (put_back command r)
  back_kept command r k d h = (let put = back_held Kept command r k (held_of r h) in record { backlog = put.0; acts = put.1; due = back_due command r d h.due; flights = put.2; ready = put.4; reports = put.3 })

  -- ---- what is in flight, counted or reported

  listed_kept : (o : Option Command) → KeptOne o → KeptAll (listed o)
  listed_kept None k = tt
  listed_kept (Some command) k = (k, tt)

  taken_kept : (r : ReplicaState) (slots : List ℕ) → Holds r → KeptAll (taken_from r slots)
  taken_kept r [] h = tt
  taken_kept r (slot ∷ slots) h =
      Each-append Kept (listed (taken_at r slot)) (taken_from r slots)
      (listed_kept (taken_at r slot) (opt_either Kept (flying r slot) (at_slot r.ready slot) (flying_held Kept r slot (held_of r h)) (opt_slot Kept r.ready slot h.ready))) (taken_kept r slots h)

  pub way_kept : (r : ReplicaState) → Holds r → KeptAll (under_way r)
  way_kept r h = taken_kept r (open_slots r) h

  -- what a leader must propose
  abbrev pub MustKept : Must Command → Type 0
  MustKept (Value command) = Kept command
  MustKept Gap = Unit {0}
  MustKept Open = Unit {0}

  must_by : (above : Bool) (o : Option Command) → KeptOne o → MustKept (must_without above o)
  must_by above (Some command) k = k
  must_by above None k = either_way MustKept above Gap Open tt tt

  pub must_kept : (slot : ℕ) (r : ReplicaState) → Holds r → MustKept (must slot r.leader)
  must_kept slot r h =
      must_by (names_above slot r.leader.reports) (chosen_value slot r.leader.reports)
      (opt_map Reported Kept (λ (report : Report Command). report.value) (λ report k. k) (choice slot r.leader.reports) (opt_choice Kept slot r.leader.reports h.reports))
