-- The newest replicas of a group, before a row and after it.
use Rattle.std.proofs.Common.{List, None, Some, [], ap, arith, false, inl, inr, subst, sym, true, true≢false, ℕ, ◌++◌, ◌∙◌, ◌∷◌, ◌≡◌, ◌≤◌}
use Rattle.std.proofs.lemmas.Bool.{cases_eq}
use Rattle.std.proofs.lemmas.Option.{same_Some}
use Rattle.sc_actor.specs.Definitions.{mails, row_of}
use Rattle.sc_node_table.specs.Values.{Seat, Event, Row, Ballot, Base, OrderLine, Mail}
use Rattle.sc_live_answers.specs.AnswerDefinitions.{AreBoundBy, IsGuided, IsReached, NewestStay}
use Rattle.sc_live_journals.specs.groups.GroupDefinitions.{RowElects, RowLeads, RowMakes, RowPasses, RowRests, RowTakes, Ends, IsWellLed}
use Rattle.sc_live_steps.specs.calm.CalmDefinitions.{players, Rows}
use Rattle.sc_live_steps.specs.orders.OrderDefinitions.{Bond}
use Rattle.sc_live_journals.proofs.RowsProofs.RowLemmas.{same_some, rows_are, view_others}
use Rattle.sc_live_journals.specs.rows.RowDefinitions.{marks_at, next_in, progress_at, taken_mark, view_at, elected_course, IsReplicasRow, with_event}
use Rattle.sc_live_journals.specs.scenes.SceneDefinitions.{IsThere, NewestAreBound, NoneRuns}
use Rattle.sc_live_steps.proofs.FollowingProofs.FollowingLemmas.{reached-least}
use Rattle.sc_live_steps.specs.following.FollowingDefinitions.{AreFit, Course, IsFit, Mark, Sets, next_by, SlotLeaders, StepsBy}
use Rattle.sc_node_table.specs.NodeDefinitions.{Place, ReplicaState, listed, next}
use Rattle.sc_live_orderly.specs.OrderlyDefinitions.{AreInTime}
use Rattle.sc_meaning.specs.sound.SoundDefinitions.{Player, player_table}

-- no replica of a well led group is further than its newest state
pub no_further : (at : Sets) (over : Ends) (by : SlotLeaders) (words : ℕ → ℕ → ℕ × ℕ) (births : List (Seat Player)) (rows : Rows) (base : Base) (course : Course) (node : ℕ) (r : ReplicaState) → IsWellLed at over by words births rows base course
    → view_at births rows base.core.id node ≡ Some r → next r ≤ course.newest
no_further at over by words births rows base course node r was e =
    (let now = progress_at births rows base course in
    let all = was.followed.follows.within node in
    let more = reached-least (now.next node) (now.promise node) (marks_at (players words births) rows base.core.id node) (was.followed.follows.fits node) in
    let here : now.next node ≡ next r = ap (next_in base node) e in
    omega (arith, all, more, here))

-- so, where some replica is at that, the newest are bound as it is
newest_bound : (at : Sets) (over : Ends) (by : SlotLeaders) (words : ℕ → ℕ → ℕ × ℕ) (births : List (Seat Player)) (rows : Rows) (base : Base) (course : Course) (bonds : ℕ → Bond) → IsWellLed at over by words births rows base course
    → IsReached births rows base course → AreBoundBy bonds births rows base.core.id → NewestAreBound births rows base.core.id (bonds course.newest)
newest_bound at over by words births rows base course bonds was (node, x, there, last) bound who r e most =
    let same : next r ≡ course.newest = (let up = most node x there in let low = no_further at over by words births rows base course who r was e in omega (arith, up, low, last)) in
    bound who r e ∙ ap bonds same

module _ (words : ℕ → ℕ → ℕ × ℕ) (births : List (Seat Player)) (rows : Rows) (seat : Seat Player) (event : Event OrderLine) (base : Base) (g : IsGuided words births rows seat event base) where
  abbrev row_is : Row Mail OrderLine
  row_is = row_of player_table seat rows event

  abbrev course : Course
  course = g.course

  abbrev later : Course
  later = g.step.later

  -- who runs was seen before the row, where none runs
  none_leads : NoneRuns births rows base.core.id → (r : ReplicaState) → view_at births rows base.core.id seat.who ≡ Some r → r.running ≡ true → ⊥
  none_leads none r e runs = true≢false (sym runs ∙ none seat.who r e)

  same_newest : later ≡ course → later.newest ≡ course.newest
  same_newest e = ap (λ (c : Course). c.newest) e

  pub unled : NoneRuns births rows base.core.id → later.newest ≡ course.newest
  unled none = elim g.step.row [
    | RowPasses e idle ↦ same_newest e
    | RowRests e r after row off still kind ↦ same_newest e
    | RowTakes e r after mark row taken steps kind ↦ same_newest e
    | RowMakes e from slot state sets row taken logs kind ↦ same_newest e
    | RowLeads r after row runs counts led e ↦ absurd (none_leads none r row.was runs)
    | RowElects r after ballot row off self_election e ↦ same_newest_elected ballot e
  ]
    where
      same_newest_elected : (ballot : Ballot) → later ≡ elected_course course ballot → later.newest ≡ course.newest
      same_newest_elected ballot e = ap (λ (c : Course). c.newest) e

  module _ (timely : AreInTime (players words births) (with_event rows seat event)) where
    -- a replica at another node stays
    pub stays_at : (node : ℕ) (x : ReplicaState) → (node ≡ seat.who → ⊥) → view_at births rows base.core.id node ≡ Some x → view_at births (with_event rows seat event) base.core.id node ≡ Some x
    stays_at node x other e = view_others births rows row_is base.core.id node other ∙ e

    -- the newest one is still where it was, or at the node of the row, which has gone no less far
    on_by : (node : ℕ) (x : ReplicaState) → view_at births rows base.core.id node ≡ Some x → next x ≡ course.newest → later.newest ≡ course.newest
        → ((y : ReplicaState) → view_at births rows base.core.id seat.who ≡ Some y → (z : ReplicaState) × (view_at births (with_event rows seat event) base.core.id seat.who ≡ Some z) × (next y ≤ next z))
        → IsReached births (with_event rows seat event) base later
    on_by node x e last same goes = elim (cases_eq node seat.who) [
      | inl fact ↦ (let z = goes x (subst (λ n. view_at births rows base.core.id n ≡ Some x) fact e) in
          (seat.who, z.0, z.1, (let up = z.2 in let low = no_further g.at g.over g.by words births (with_event rows seat event) base later seat.who z.0 g.step.led z.1 in omega (arith, up, low, same, last))))
      | inr other ↦ (node, x, stays_at node x other e, last ∙ sym same)
    ]

    some_is : (x y : ReplicaState) → view_at births rows base.core.id seat.who ≡ Some x → view_at births rows base.core.id seat.who ≡ Some y → x ≡ y
    some_is x y e f = same_some (view_at births rows base.core.id seat.who) x y e f

    -- a mail that comes in time leads no less far
    takes_on : (r : ReplicaState) (after : Place) (mark : Mark) → IsReplicasRow births rows seat event base.core.id (Some r) after → taken_mark base.core.id (mails rows) event ≡ Some mark → StepsBy mark r after → next r ≤ next after.0
    takes_on r after mark row taken steps =
        let now = progress_at births rows base course in
        let in_ = rows_are words births rows row_is base course course timely in
        let head : marks_at (players words births) rows base.core.id seat.who ≡ mark ∷ in_.left = in_.takes ∙ ap (λ o. listed o ++ in_.left) taken in
        let fits : AreFit (now.next seat.who) (now.promise seat.who) (mark ∷ in_.left) = subst (AreFit (now.next seat.who) (now.promise seat.who)) head (g.led.followed.follows.fits seat.who) in
        let here : now.next seat.who ≡ next r = ap (next_in base seat.who) row.was in
        let first : next r ≤ next_by (next r) mark = reached-least (next r) (now.promise seat.who) (mark ∷ []) (subst (λ n. IsFit n (now.promise seat.who) mark) here fits.0, tt) in
        (let to = steps.reaches in omega (arith, first, to))

    reached_on : IsReached births rows base course → IsReached births (with_event rows seat event) base later
    reached_on (node, x, e, last) = elim g.step.row [
      | RowPasses same idle ↦ on_by node x e last (same_newest same) (λ y f. elim idle.view [
        | inl stays ↦ (y, stays ∙ f, omega arith)
        | inr born ↦ (let bad : Some y ≡ None = sym f ∙ born.0 in cc)
      ])
      | RowRests same r after row off still kind ↦ on_by node x e last (same_newest same) (λ y f. (after.0, row.fact, (let up = still.next_is in let fact = ap next (some_is y r f row.was) in omega (arith, up, fact))))
      | RowTakes same r after mark row taken steps kind ↦ on_by node x e last (same_newest same) (λ y f. (after.0, row.fact, (let up = takes_on r after mark row taken steps in let fact = ap next (some_is y r f row.was) in omega (arith, up, fact))))
      | RowMakes same from slot state sets row taken logs kind ↦ on_by node x e last (same_newest same) (λ y f. (let bad : Some y ≡ None = sym f ∙ row.was in cc))
      | RowLeads r after row runs counts led same ↦ (seat.who, after.0, row.fact, sym (ap (λ (c : Course). c.newest) same))
      | RowElects r after ballot row off self_election same ↦ (seat.who, after.0, row.fact, sym ((g.step.led.followed.given.gives seat.who after.0 row.fact self_election.runs).0.newest))
    ]

    -- where the one that leads stops by the row, its state is the newest
    pub stopped_newest : (r : ReplicaState) (after : Place) → IsReplicasRow births rows seat event base.core.id (Some r) after → r.running ≡ true → after.0.running ≡ false → later.newest ≡ next after.0
    stopped_newest r after row runs stops = elim g.step.row [
      | RowPasses same idle ↦ elim idle.view [
        | inl stays ↦ absurd (true≢false (sym runs ∙ (ap (λ (x : ReplicaState). x.running) (same_Some r after.0 (sym ((stays ∙ row.was)) ∙ row.fact)) ∙ stops)))
        | inr born ↦ (let bad : Some r ≡ None = sym row.was ∙ born.0 in cc)
      ]
      | RowRests same x then_ line off still kind ↦ absurd (true≢false (sym runs ∙ (ap (λ (y : ReplicaState). y.running) (some_is r x row.was line.was) ∙ off)))
      | RowTakes same x then_ mark line taken steps kind ↦ absurd (true≢false (sym runs ∙ (ap (λ (y : ReplicaState). y.running) (some_is r x row.was line.was) ∙ (sym steps.runs ∙ (ap (λ (y : ReplicaState). y.running) (same_Some then_.0 after.0 (sym (line.fact) ∙ row.fact)) ∙ stops)))))
      | RowMakes same from slot state sets line taken logs kind ↦ (let bad : Some r ≡ None = sym row.was ∙ line.was in cc)
      | RowLeads x then_ line ran counts led same ↦ ap (λ (c : Course). c.newest) same ∙ ap next (same_Some then_.0 after.0 (sym (line.fact) ∙ row.fact))
      | RowElects x then_ ballot line off self_election same ↦ absurd (true≢false (sym runs ∙ (ap (λ (y : ReplicaState). y.running) (some_is r x row.was line.was) ∙ off)))
    ]

    pub reached_after : IsThere births rows base.core.id → IsReached births (with_event rows seat event) base later
    reached_after there = reached_on (g.reached there)

    pub newest_after : IsThere births rows base.core.id → NewestAreBound births (with_event rows seat event) base.core.id (g.bonds later.newest)
    newest_after there = newest_bound g.at g.over g.by words births (with_event rows seat event) base later g.bonds g.step.led (reached_after there) g.is_bound

  pub newest_before : IsThere births rows base.core.id → NewestAreBound births rows base.core.id (g.bonds course.newest)
  newest_before there = newest_bound g.at g.over g.by words births rows base course g.bonds g.led (g.reached there) g.was_bound

-- The newest replicas of a group are bound as its newest state, before a row and after it.
pub newest_stay : NewestStay
newest_stay = record {
  was = λ words births rows seat event base g there. newest_before words births rows seat event base g there;
  stays = λ words births rows seat event base g there timely. newest_after words births rows seat event base g timely there;
  reached = λ words births rows seat event base g there timely. reached_after words births rows seat event base g timely there;
  unled = λ words births rows seat event base g none. unled words births rows seat event base g none;
}
