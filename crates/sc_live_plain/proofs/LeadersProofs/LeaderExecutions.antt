-- All that the leading replica of a plain group executes at once, with what it offers then.
use Rattle.std.proofs.Common.{◌≡◌, ℕ, ◌+◌, ◌-◌, ◌≤◌, ◌&&◌, eqb, true, List, [], ◌∷◌, ◌++◌, length, Option, Some, None, inl, inr, refl, sym, ◌∙◌, ap, subst, arith}
use Rattle.std.proofs.lemmas.Bool.{cond-true, cases_lt, lt-ltb, and_from}
use Rattle.std.proofs.lemmas.List.Sums.{count_by-le-length}
use Rattle.sc_node_table.specs.Values.{Op, Command, Call, Mail, Flight}
use Rattle.sc_words.proofs.PaxosProofs.PaxosLemmas.{Each-among}
use Rattle.sc_node_table.specs.NodeDefinitions.{executed_one, next_child, has_room, next_ready, ending, executed_ready, all_ready, executed, pumped, ReplicaState, Place, Executed, childless, next, last_slot, at_slot}
use Rattle.sc_live_plain.specs.PlainDefinitions.{Frame, IsFrame, Requests, IsPlainCommand, HasOffered}
use Rattle.sc_live_plain.proofs.PlainRowsProofs.SlotCounts.{one_no, entries_at, at_found, at_nothing}
use Rattle.sc_live_plain.proofs.LeadersProofs.LeadingReplicas.{in_range, range_behind, Leads}
use Rattle.sc_live_plain.proofs.LeadersProofs.PlainPumps.{call_is, pumped_leads}
use Rattle.sc_live_plain.proofs.LeadersProofs.ReadyCalls.{one_leads, one_next, one_less}

module _ (begun : Requests) (frame : Frame) (fact : IsFrame frame) (first free : ℕ) (held : List (Flight Command)) (wanted : ℕ → ℕ → Type 0) where
  abbrev L : ℕ → Place → Type 0
  L taken place = Leads begun frame first free held wanted taken place

  -- ---- all that is ready

  -- nothing is ready any more
  pub record IsDone (place : Place) : Type 0 where
    pub taken : ℕ
    pub leads : L taken place
    pub none : entries_at (next place.0) place.0.ready ≡ 0

  -- after a step nothing is ready any more
  abbrev IsDoneAfter : Executed → Type 0
  IsDoneAfter step = IsDone step.0

  pumped_done : free ≤ last_slot → (place : Place) → IsDone place → IsDone (pumped place)
  pumped_done room place d =
      let p = pumped_leads begun frame fact first free held wanted d.taken place room d.leads in
      record { taken = p.taken; leads = p.leads; none = ap (λ m. entries_at m (pumped place).0.ready) p.same_next ∙ ap (λ (es : List (ℕ × Command)). entries_at (next place.0) es) p.same_ready ∙ d.none }

  ready_is : (taken : ℕ) (r : ReplicaState) (mails : List Mail) → free ≤ last_slot → L taken (r, mails) → next_ready r ≡ at_slot r.ready (next r)
  ready_is taken r mails room k =
      let reached = k.reached in
      let sets = ap length k.plain.sets_are in
      cond-true (r.running && has_room r) (at_slot r.ready (next r)) None
      (and_from r.running (has_room r) k.leader.running (lt-ltb (next r) (last_slot + length r.sets) (omega (arith, reached, room, sets))))

  -- the command that is ready takes its slot
  pub some_taken : (taken : ℕ) (r : ReplicaState) (mails : List Mail) (command : Command) → at_slot r.ready (next r) ≡ Some command → L taken (r, mails) → (less : ℕ) × (taken ≡ less + 1)
  some_taken taken r mails command e k =
      let some = (at_found r.ready (next r) command e).0 in
      let once = k.leader.slots.once (next r) in
      elim (cases_lt 0 taken) [
        | inl up ↦ (taken - 1, omega (arith, up))
        | inr zero_ ↦ (let none = one_no (in_range (next r) taken (next r)) (range_behind (next r) taken (next r) (omega (arith, zero_))) in absurd (omega (arith, some, once, none)))
      ]

  done_by : free ≤ last_slot → (es : List (ℕ × Command)) (taken : ℕ) (r : ReplicaState) (mails : List Mail) → length r.ready ≤ length es + 1 → next r + taken ≡ free → L taken (r, mails) → (o : Option Command) → o ≡ at_slot r.ready (next r)
      → ((t : ℕ) (p : Place) → length p.0.ready ≤ length es → next p.0 + t ≡ free → L t p → IsDone (executed_ready es p).0)
      → IsDoneAfter (elim o [ None ↦ childless (r, mails) | Some command ↦ ending (next_child command r) (executed_ready es (executed_one true command (r, mails))) ])
  done_by room es taken r mails short end k None e more = record { taken = taken; leads = k; none = at_nothing r.ready (next r) (sym e) }
  done_by room es taken r mails short end k (Some command) e more =
      let found = at_found r.ready (next r) command (sym e) in
      let plain = Each-among (λ (entry : ℕ × Command). IsPlainCommand begun frame entry.1) r.ready (next r, command) k.leader.ready found.1 in
      let c = call_is begun frame fact first free held wanted command plain in
      let less = some_taken taken r mails command (sym e) k in
      let ready : at_slot r.ready (next r) ≡ Some (Call c.0 c.1 c.2) = sym e ∙ ap Some c.3 in
      let now : L (less.0 + 1) (r, mails) = subst (λ t. L t (r, mails)) less.1 k in
      let up : next r + (less.0 + 1) ≡ free = ap (λ t. next r + t) (sym less.1) ∙ end in
      let place : Place = executed_one true (Call c.0 c.1 c.2) (r, mails) in
      let shorter = one_less begun frame fact first free held wanted less.0 r mails c.0 c.1 c.2 up ready now in
      let step = one_next begun frame fact first free held wanted less.0 r mails c.0 c.1 c.2 up ready now in
      let done : IsDone (executed_ready es place).0 = more less.0 place (omega (arith, shorter, short)) (omega (arith, step, up)) (one_leads begun frame fact first free held wanted less.0 r mails c.0 c.1 c.2 up ready now) in
      subst (λ (x : Command). IsDone (pumped (executed_ready es (executed_one true x (r, mails))).0)) (sym c.3) (pumped_done room (executed_ready es place).0 done)

  all_done : free ≤ last_slot → (es : List (ℕ × Command)) (taken : ℕ) (place : Place) → length place.0.ready ≤ length es → next place.0 + taken ≡ free → L taken place → IsDone (executed_ready es place).0
  unfolding executed_ready
  all_done room [] taken (r, mails) short end k =
      let few = count_by-le-length (λ (entry : ℕ × Command). eqb entry.0 (next r)) r.ready in
      record { taken = taken; leads = k; none = omega (arith, few, short) }
  all_done room (x ∷ es) taken (r, mails) short end k = done_by room es taken r mails (omega (arith, short)) end k (next_ready r) (ready_is taken r mails room k) (λ t p s n l. all_done room es t p s n l)

  -- ---- no call makes a child

  abbrev IsChildless : Executed → Type 0
  IsChildless step = step.1 ≡ []

  -- nothing that is ready makes one
  no_children : free ≤ last_slot → (es : List (ℕ × Command)) (taken : ℕ) (place : Place) → next place.0 + taken ≡ free → L taken place → (executed_ready es place).1 ≡ []
  unfolding executed_ready
  no_children room [] taken place end k = refl
  no_children room (x ∷ es) taken (r, mails) end k = child_by_ready es taken r mails end k (next_ready r) (ready_is taken r mails room k) (λ t p n l. no_children room es t p n l)
    where
      child_by_ready : (es : List (ℕ × Command)) (taken : ℕ) (r : ReplicaState) (mails : List Mail) → next r + taken ≡ free → L taken (r, mails) → (o : Option Command) → o ≡ at_slot r.ready (next r)
          → ((t : ℕ) (p : Place) → next p.0 + t ≡ free → L t p → (executed_ready es p).1 ≡ [])
          → IsChildless (elim o [ None ↦ childless (r, mails) | Some command ↦ ending (next_child command r) (executed_ready es (executed_one true command (r, mails))) ])
      child_by_ready es taken r mails end k None e more = refl
      child_by_ready es taken r mails end k (Some command) e more =
          let found = at_found r.ready (next r) command (sym e) in
          let plain = Each-among (λ (entry : ℕ × Command). IsPlainCommand begun frame entry.1) r.ready (next r, command) k.leader.ready found.1 in
          let c = call_is begun frame fact first free held wanted command plain in
          let less = some_taken taken r mails command (sym e) k in
          let ready : at_slot r.ready (next r) ≡ Some (Call c.0 c.1 c.2) = sym e ∙ ap Some c.3 in
          let now : L (less.0 + 1) (r, mails) = subst (λ t. L t (r, mails)) less.1 k in
          let up : next r + (less.0 + 1) ≡ free = ap (λ t. next r + t) (sym less.1) ∙ end in
          let place : Place = executed_one true (Call c.0 c.1 c.2) (r, mails) in
          let step = one_next begun frame fact first free held wanted less.0 r mails c.0 c.1 c.2 up ready now in
          subst (λ (y : Command). next_child y r ++ (executed_ready es (executed_one true y (r, mails))).1 ≡ []) (sym c.3)
          (more less.0 place (omega (arith, step, up)) (one_leads begun frame fact first free held wanted less.0 r mails c.0 c.1 c.2 up ready now))

  -- nor an execution
  pub executed_none : free ≤ last_slot → (taken : ℕ) (r : ReplicaState) (mails : List Mail) (client seq : ℕ) (op : Op) → next r + (taken + 1) ≡ free → at_slot r.ready (next r) ≡ Some (Call client seq op) → L (taken + 1) (r, mails)
      → (executed true (Call client seq op) (r, mails)).1 ≡ []
  unfolding executed
  executed_none room taken r mails client seq op end ready k =
      let place : Place = executed_one true (Call client seq op) (r, mails) in
      let step = one_next begun frame fact first free held wanted taken r mails client seq op end ready k in
      no_children room place.0.ready taken place (omega (arith, step, end)) (one_leads begun frame fact first free held wanted taken r mails client seq op end ready k)

  -- ---- the whole of an execution

  -- at the end of a row
  pub record IsRun (place : Place) : Type 0 where
    pub taken : ℕ
    pub leads : L taken place
    pub done : HasOffered taken place.0

  pub executed_run : free ≤ last_slot → (taken : ℕ) (r : ReplicaState) (mails : List Mail) (client seq : ℕ) (op : Op) → next r + (taken + 1) ≡ free → at_slot r.ready (next r) ≡ Some (Call client seq op) → L (taken + 1) (r, mails)
      → IsRun (executed true (Call client seq op) (r, mails)).0
  unfolding executed
  executed_run room taken r mails client seq op end ready k =
      let place : Place = executed_one true (Call client seq op) (r, mails) in
      let step = one_next begun frame fact first free held wanted taken r mails client seq op end ready k in
      let rest : Place = (all_ready place).0 in
      let d : IsDone rest = all_done room place.0.ready taken place (omega arith) (omega (arith, step, end)) (one_leads begun frame fact first free held wanted taken r mails client seq op end ready k) in
      let p = pumped_leads begun frame fact first free held wanted d.taken rest room d.leads in
      record {
        taken = p.taken;
        leads = p.leads;
        done = record {
          executed = ap (λ m. entries_at m (pumped rest).0.ready) p.same_next ∙ ap (λ (es : List (ℕ × Command)). entries_at (next rest.0) es) p.same_ready ∙ d.none;
          offered = p.offered_all;
        };
      }

  -- and of a pump
  pub pumped_run : free ≤ last_slot → (taken : ℕ) (place : Place) → entries_at (next place.0) place.0.ready ≡ 0 → L taken place → IsRun (pumped place)
  pumped_run room taken place none k =
      let p = pumped_leads begun frame fact first free held wanted taken place room k in
      record {
        taken = p.taken;
        leads = p.leads;
        done = record {
          executed = ap (λ m. entries_at m (pumped place).0.ready) p.same_next ∙ ap (λ (es : List (ℕ × Command)). entries_at (next place.0) es) p.same_ready ∙ none;
          offered = p.offered_all;
        };
      }
