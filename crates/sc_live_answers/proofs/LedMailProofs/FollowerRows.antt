-- What a row leaves of a replica that does not run, where another leads its group or the group is gone.
use Rattle.std.proofs.Common.{◌≡◌, ℕ, ◌+◌, ◌≤◌, Bool, true, false, true≢false, cond, List, [], ◌∷◌, length, Option, Some, None, inl, inr, refl, sym, ◌∙◌, ap, subst}
use Rattle.sc_base.specs.Definitions.{same_draw, IsRoster}
use Rattle.sc_node_table.specs.Values.{Draw, Command, Base, OrderLine, Seat, Event}
use Rattle.sc_actor.specs.Definitions.{mails}
use Rattle.sc_node_table.specs.NodeDefinitions.{entered, ReplicaState, Place, next}
use Rattle.sc_meaning.specs.sound.SoundDefinitions.{Player}
use Rattle.sc_live_steps.specs.calm.CalmDefinitions.{AreNines, StaysBehind, Rows}
use Rattle.sc_live_steps.specs.following.FollowingDefinitions.{Mark, named_mark, next_by, Course, Sets, SlotLeaders, AreAt, Stays}
use Rattle.sc_live_steps.proofs.FollowingProofs.FollowingLemmas.{looked_same, over, over_off, place2, looks}
use Rattle.sc_live_journals.specs.rows.RowDefinitions.{view_at, taken_mark, with_event, IsReplicasRow, IsBornOr}
use Rattle.sc_live_journals.proofs.RowsProofs.RowLemmas.{same_some}
use Rattle.sc_live_journals.specs.groups.GroupDefinitions.{IsGroupRow, RowPasses, RowRests, RowTakes, RowMakes, RowLeads, RowElects, Ends}
use Rattle.sc_live_answers.proofs.LedMailProofs.LeadersElsewhere.{IsApart}

-- the slot that is next after a mark, if there is one
abbrev pub next_with : ℕ → Option Mark → ℕ
next_with n None = n
next_with n (Some mark) = next_by n mark

-- a mark that takes no further does not, whatever group it is of
pub still_named : (n : ℕ) (name group : Draw) (mark : Mark) → next_by n mark ≡ n → next_with n (named_mark name group mark) ≡ n
still_named n name group mark e = by (same_draw group name)
  where
    by : (b : Bool) → next_with n (cond b (Some mark) None) ≡ n
    by true = e
    by false = refl

-- what is left of a replica: it does not run, and is where the mail takes it
abbrev pub IsLeft : ReplicaState → Option Mark → ReplicaState → Type 0
IsLeft r taken after = (after.running ≡ false) × (next after ≡ next_with (next r) taken)

module _ (at : Sets) (over : Ends) (by : SlotLeaders) (births : List (Seat Player)) (rows : Rows) (seat : Seat Player) (event : Event OrderLine) (base : Base) (course : Course) (apart : IsApart course seat.who)
    (r : ReplicaState) (after : Place) (row : IsReplicasRow births rows seat event base.core.id (Some r) after) (off : r.running ≡ false) where
  abbrev name : Draw
  name = base.core.id

  abbrev Left : Type 0
  Left = IsLeft r (taken_mark base.core.id (mails rows) event) after.0

  -- it is the replica of that row
  was_is : (q : ReplicaState) → view_at births rows base.core.id seat.who ≡ Some q → q ≡ r
  was_is q e = same_some (view_at births rows name seat.who) q r e row.was

  then_is : (q : ReplicaState) → view_at births (with_event rows seat event) base.core.id seat.who ≡ Some q → q ≡ after.0
  then_is q e = same_some (view_at births (with_event rows seat event) name seat.who) q after.0 e row.fact

  by_same : after.0 ≡ r → taken_mark base.core.id (mails rows) event ≡ None → Left
  by_same same none = (ap (λ (q : ReplicaState). q.running) same ∙ off, ap next same ∙ sym (ap (next_with (next r)) none))

  passes : taken_mark base.core.id (mails rows) event ≡ None → IsBornOr base seat.who (view_at births (with_event rows seat event) base.core.id seat.who) (view_at births rows base.core.id seat.who) → Left
  passes none (inl same) = by_same (sym (then_is r (same ∙ row.was))) none
  passes none (inr made) = (let bad : None ≡ Some r = sym made.0 ∙ row.was in cc)

  pub left_by : (later : Course) → IsGroupRow at over by births rows seat event base course later → Left
  left_by later (RowPasses same leaves) = passes (leaves.idle course).takes leaves.view
  left_by later (RowRests same q then_ row_ off_ still idle) =
      let q_is : q ≡ r = was_is q row_.was in
      let t_is : then_.0 ≡ after.0 = then_is then_.0 row_.fact in (
        sym (ap (λ (x : ReplicaState). x.running) t_is) ∙ still.off,
        sym (ap next t_is) ∙ (still.next_is ∙ (ap next q_is ∙ sym (ap (next_with (next r)) idle.takes))),
      )
  left_by later (RowTakes same q then_ mark row_ takes steps kind) =
      let q_is : q ≡ r = was_is q row_.was in
      let t_is : then_.0 ≡ after.0 = then_is then_.0 row_.fact in (
        sym (ap (λ (x : ReplicaState). x.running) t_is) ∙ (steps.runs ∙ (ap (λ (x : ReplicaState). x.running) q_is ∙ off)),
        sym (ap next t_is) ∙ (steps.reaches ∙ (ap (λ (x : ReplicaState). next_by (next x) mark) q_is ∙ sym (ap (next_with (next r)) takes))),
      )
  left_by later (RowMakes same from slot state sets row_ takes logs kind) = (let bad : None ≡ Some r = sym row_.was ∙ row.was in cc)
  left_by later (RowLeads q then_ row_ runs counts l same) = absurd (true≢false (sym runs ∙ (ap (λ (x : ReplicaState). x.running) (was_is q row_.was) ∙ off)))
  left_by later (RowElects q then_ ballot row_ off_ e same) = elim apart [
    | inl another ↦ absurd (true≢false (sym another.0 ∙ e.self_election.idle))
    | inr gone ↦ absurd (true≢false (sym gone ∙ e.self_election.stands))
  ]

-- ---- what is asked of the replica itself

-- at most nine decide each open slot of a log
pub nines_at : (at : Sets) → ((slot : ℕ) → IsRoster (at slot)) → (slot : ℕ) (sets : List (List ℕ)) → AreAt at slot sets → AreNines sets
nines_at at rosters slot [] are = tt
nines_at at rosters slot (set ∷ sets) are = (subst (λ (s : List ℕ). length s ≤ 9) are.0 (rosters slot).most, nines_at at rosters (slot + 1) sets are.1)

-- one that does not elect itself by an entry that it learns does not lead after it
pub stays_behind : (command : Command) (r : ReplicaState) → r.running ≡ false → r.leader.flights ≡ [] → Stays (entered command r) → StaysBehind command r
stays_behind command r off none stays =
    let P : Place → Type 0 = λ (p : Place). p.0.running ≡ false in
    looks command r off none P (looked_same P (over command r off none) (place2 command r off none).1 (over_off command r off none) stays (λ hint. over_off command r off none))
