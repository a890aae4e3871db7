-- A node that takes mail of its group leaves the group following its leader.
use Rattle.std.proofs.Common.{◌≡◌, ℕ, suc, ◌≤◌, ◌&&◌, true, false, true≢false, List, [], ◌∷◌, ◌++◌, Some, None, inl, inr, refl, sym, ◌∙◌, ap, subst, arith}
use Rattle.std.proofs.lemmas.Bool.{cases_Bool, and_right}
use Rattle.sc_base.specs.Definitions.{Each}
use Rattle.sc_node_table.specs.Values.{Ballot, Draw, Base, OrderLine, Mail, MailBody, Prepare, Promise, Accept, Accepted, Learn, Ask, Install, Seat, Deliver}
use Rattle.sc_actor.specs.declared.rows.Event.TheVariants.{Told}
use Rattle.sc_actor.specs.Definitions.{mails, row_of}
use Rattle.sc_live_orderly.specs.OrderlyDefinitions.{AreInTime}
use Rattle.sc_words.specs.paxos.PaxosDefinitions.{below}
use Rattle.sc_node_table.specs.declared.ReplicaInput.TheVariants as Given
use Rattle.sc_node_table.specs.NodeDefinitions.{NodeState, replica_of, group_of_mail, group_of_order, ordered_row, ReplicaState, Place, listed, name_of, next, mailed, stepped}
use Rattle.sc_law_walks.specs.WalkDefinitions.{GoesOn}
use Rattle.sc_meaning.specs.sound.SoundDefinitions.{Player, player_table}
use Rattle.sc_live_steps.specs.calm.CalmDefinitions.{players, Rows}
use Rattle.sc_live_steps.specs.following.FollowingDefinitions.{Mark, mark_of, next_by, promise_by, reached, IsFit, AreFit, Course, Progress, Sets, IsKnown, IsLeadOf, LeadsInto, IsAside, IsRow, marks_for}
use Rattle.sc_live_steps.proofs.FollowingProofs.FollowingLemmas.{rows_lead, reached-least}
use Rattle.sc_live_journals.specs.rows.RowDefinitions.{view_at, next_in, promise_in, progress_at, marks_at, mark_in, taken_mark, IsLedBy, FollowsOn, IsScene, TakesMail, HoldsReplica, WaitsStill, led_course, with_event, IsReplicasRow}
use Rattle.sc_live_journals.proofs.RowsProofs.FollowingRows.{rows_keep}
use Rattle.sc_live_journals.proofs.RowsProofs.LeadersInGroups.{steps_lead}
use Rattle.sc_live_journals.proofs.RowsProofs.RowMarks.{rows_are}
use Rattle.sc_live_journals.proofs.RowsProofs.PlayerRows.{found_name, rows_replicas}

-- mail that is no part of the agreement leaves no mark
pub aside_mark : (name : Draw) (from : ℕ) (r : ReplicaState) (body : MailBody) → IsAside r body → mark_of name from body ≡ None
aside_mark name from r (Prepare group ballot from_slot) a = absurd a
aside_mark name from r (Promise group ballot reports) a = absurd a
aside_mark name from r (Accept group ballot slot command) a = absurd a
aside_mark name from r (Accepted group ballot slot) a = absurd a
aside_mark name from r (Learn group slot command) a = absurd a
aside_mark name from r (Ask group from_slot) a = absurd a
aside_mark name from r (Install group slot base sets) a = absurd a
aside_mark name from r _ a = refl

pub told_is : (node : NodeState) (line : OrderLine) (r : ReplicaState) → (stepped false node.draws (Given.Told line) (r, [])).0 ≡ ordered_row node.draws line (r, [])
unfolding stepped
told_is node line r = refl

module _ (at : Sets) (words : ℕ → ℕ → ℕ × ℕ) (births : List (Seat Player)) (rows : Rows) (seat : Seat Player) (node : NodeState) (base : Base) (course : Course) (scene : IsScene at words births rows seat node base course) where
  abbrev name : Draw
  name = base.core.id

  abbrev now : Progress
  now = progress_at births rows base course

  -- ---- one that leads, and one that does not

  module _ (r : ReplicaState) (was : view_at births rows base.core.id seat.who ≡ Some r) where
    pub leads_here : r.running ≡ true → IsLeadOf at now r × (seat.who ≡ course.ballot.node)
    leads_here runs = scene.followed.given.gives seat.who r was runs

    -- no leader stops for a ballot that is not later
    pub goes_on : (ballot : Ballot) → below course.ballot ballot ≡ false → GoesOn ballot r
    goes_on ballot low = elim (cases_Bool r.running) [
      | inl t ↦ and_right r.running (below r.leader.ballot ballot) (ap (λ b. below b ballot) (leads_here t).0.led.may.ballot ∙ low)
      | inr f ↦ ap (λ b. b && below r.leader.ballot ballot) f
    ]

    -- another leads, or none
    pub idle_apart : r.running ≡ false → course.running ≡ true → seat.who ≡ course.ballot.node → ⊥
    idle_apart off runs mine =
        let running : r.running ≡ true = subst (IsLedBy base course) was (subst (λ n. IsLedBy base course (view_at births rows name n)) (sym mine) (scene.followed.given.runs runs)) in
        true≢false (sym running ∙ off)

    pub apart_off : (course.running ≡ true → seat.who ≡ course.ballot.node → ⊥) → r.running ≡ false
    apart_off none = elim (cases_Bool r.running) [ inl t ↦ (let l = leads_here t in absurd (none l.0.runs l.1)) | inr f ↦ f ]

    -- one that is to lead next has not executed all
    pub waits_here : WaitsStill at course seat.who (next r)
    waits_here off stands least =
        (let low = scene.followed.follows.self_election off stands in
        let here = ap now.next least in
        let own = ap (next_in base seat.who) was in
        omega (arith, low, here, own))

  -- ---- the mail

  module _ (number : ℕ) (mail : Mail) (takes : TakesMail words births rows seat number mail) where
    pub row_in : IsRow now (progress_at births (with_event rows seat (Deliver number)) base course) seat.who (taken_mark name (mails rows) (Deliver number)) (λ who. marks_for name who (row_of player_table seat rows (Deliver number)).sent)
        (marks_at (players words births) rows name) (marks_at (players words births) (with_event rows seat (Deliver number)) name)
    row_in = rows_are words births rows (row_of player_table seat rows (Deliver number)) base course course takes.timely

    module _ (mark : Mark) (fact : mark_of base.core.id mail.from mail.body ≡ Some mark) where
      pub taken : taken_mark name (mails rows) (Deliver number) ≡ Some mark
      taken = ap (mark_in name) takes.sent ∙ fact

      pub head : marks_at (players words births) rows name seat.who ≡ mark ∷ row_in.left
      head = row_in.takes ∙ ap (λ o. listed o ++ row_in.left) taken

      pub all_fit : AreFit (now.next seat.who) (now.promise seat.who) (mark ∷ row_in.left)
      all_fit = subst (AreFit (now.next seat.who) (now.promise seat.who)) head (scene.followed.follows.fits seat.who)

      pub known : IsKnown course mark
      known = (subst (Each (IsKnown course)) head (scene.followed.follows.known seat.who)).0

      pub within : next_by (now.next seat.who) mark ≤ course.newest
      within =
          (let all = scene.followed.follows.within seat.who in
          let same = ap (reached (now.next seat.who)) head in
          let more = reached-least (next_by (now.next seat.who) mark) (promise_by (now.promise seat.who) mark) row_in.left all_fit.1 in
          omega (arith, all, same, more))

      -- a mail that takes the node further does not come to the leader
      pub no_lead : suc (now.next seat.who) ≤ next_by (now.next seat.who) mark → course.running ≡ true → seat.who ≡ course.ballot.node → ⊥
      no_lead up runs mine =
          (let all = (scene.followed.follows.leads runs).executed in
          let here = ap now.next mine in
          let low = within in
          omega (arith, all, here, low, up))

    module _ (r : ReplicaState) (has : HoldsReplica seat node base r) where
      pub named : name_of r ≡ name
      named = found_name name node.replicas r has.here

      -- the row, by a mail that is the same
      pub row_to : (from : ℕ) (body : MailBody) → mail.from ≡ from → mail.body ≡ body → group_of_mail mail.body ≡ Some name → IsReplicasRow births rows seat (Deliver number) name (Some r) (mailed from body (r, [])).0
      row_to from body f fact group =
          subst (λ n. IsReplicasRow births rows seat (Deliver number) name (Some r) (mailed n body (r, [])).0) f
          (subst (λ b. IsReplicasRow births rows seat (Deliver number) name (Some r) (mailed mail.from b (r, [])).0) fact
          (rows_replicas.taken births rows seat number mail name node r scene.seated scene.fact takes.sent takes.comes group has.here))

      module _ (mark : Mark) (fact : mark_of base.core.id mail.from mail.body ≡ Some mark) (after : Place) (row : IsReplicasRow births rows seat (Deliver number) base.core.id (Some r) after) where
        -- it comes in time
        pub fit : IsFit (next r) r.acceptor.promised mark
        fit = subst (λ n. IsFit n r.acceptor.promised mark) (ap (next_in base seat.who) row.was) (subst (λ b. IsFit (now.next seat.who) b mark) (ap (promise_in base) row.was) (all_fit mark fact).0)
        -- ---- each mail
        -- ---- a replica that is made of a state

  -- ---- an order

  ordered : (line : OrderLine) (r : ReplicaState) → AreInTime (players words births) (with_event rows seat (Told line)) → HoldsReplica seat node base r → group_of_order line.order ≡ name → r.running ≡ true → FollowsOn at words births (with_event rows seat (Told line)) base
  ordered line r timely has group runs =
      let after : Place = ordered_row node.draws line (r, []) in
      let here : replica_of (group_of_order line.order) node.replicas ≡ Some r = ap (λ n. replica_of n node.replicas) group ∙ has.here in
      let row : IsReplicasRow births rows seat (Told line) name (Some r) after = subst (λ n. IsReplicasRow births rows seat (Told line) n (Some r) after) group (rows_replicas.ordered births rows seat line node r scene.seated scene.fact here) in
      let into : LeadsInto at now None r after = subst (λ p. LeadsInto at now None r p) (told_is node line r) (rows_lead.orders at now false node.draws line r (leads_here r row.was runs).0) in
      let led = steps_lead at births rows seat (Told line) base course r after row (found_name name node.replicas r has.here) has.well.0 into in
      (led_course led.bound course after.0, rows_keep.leads at words births rows seat (Told line) base course r after scene.rosters timely scene.followed row led)
