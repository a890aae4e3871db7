-- What is known of the replicas of a quiet group: where they are, and which state they have.
use Rattle.std.proofs.Common.{◌≡◌, ℕ, ◌+◌, ◌<◌, ◌≤◌, Bool, true, false, cond, List, [], ◌∷◌, length, Option, Some, None, inl, inr, refl, sym, ◌∙◌, ap, subst, arith, append-nil}
use Rattle.std.proofs.lemmas.Bool.{cases_Bool, cases_lt}
use Rattle.sc_base.specs.Definitions.{Among, is_member}
use Rattle.sc_node_table.specs.Values.{Base, Seat}
use Rattle.sc_live_orderly.specs.OrderlyDefinitions.{is_born}
use Rattle.sc_live_orderly.proofs.OrderlyLemmas.{in_time_tidy, quiet-empty}
use Rattle.sc_scenario.specs.declared.scenario.scenarios.Scenario.{Scenario}
use Rattle.sc_node_table.specs.NodeDefinitions.{ReplicaState, next, last_slot}
use Rattle.sc_meaning.specs.sound.SoundDefinitions.{Player, births, as_nodes}
use Rattle.sc_live_steps.specs.calm.CalmDefinitions.{players, HasReplica}
use Rattle.sc_law_entries.specs.logs.LogDefinitions.{Rows}
use Rattle.sc_live_steps.specs.following.FollowingDefinitions.{marks_of, Course, Progress, Sets, members_at, SlotLeaders, AreAt}
use Rattle.sc_live_steps.proofs.FollowingProofs.FollowingLemmas.{quiet_members_know}
use Rattle.sc_live_journals.specs.rows.RowDefinitions.{IsEvenAt, next_in, progress_at, marks_at}
use Rattle.sc_live_journals.proofs.RowsProofs.RowLemmas.{quiet_rests}
use Rattle.sc_live_journals.specs.logs.LogDefinitions.{logged_sets, HasReplica as HasLogged}
use Rattle.sc_live_journals.proofs.LogsProofs.GroupLogLemmas.{views_are_replicas}
use Rattle.sc_live_journals.specs.mail.MailDefinitions.{IsPlainlyKept}
use Rattle.sc_live_journals.proofs.MailProofs.MailLemmas.{journals_idle, slots_left}
use Rattle.sc_live_journals.specs.groups.GroupDefinitions.{Ends, IsOfLog, IsSlotKept, IsTopKept}
use Rattle.sc_live_journals.proofs.GroupsProofs.GroupLemmas.{replicas_kept, scenarios_kept_born}
use Rattle.sc_live_answers.specs.AnswerDefinitions.{over_at, state_at, ReplicasRunLogs, replicas_at, IsQuietGroup}

-- the members of as many slots from one on are the same
pub opens_same : (at : Sets) (slot : ℕ) (xs ys : List (List ℕ)) → AreAt at slot xs → AreAt at slot ys → length xs ≡ length ys → xs ≡ ys
opens_same at slot [] [] f g e = refl
opens_same at slot [] (y ∷ ys) f g e = absurd (omega (arith, e))
opens_same at slot (x ∷ xs) [] f g e = absurd (omega (arith, e))
opens_same at slot (x ∷ xs) (y ∷ ys) f g e = ap (λ l. l ∷ xs) (sym f.0 ∙ g.0) ∙ ap (λ l. y ∷ l) (opens_same at (slot + 1) xs ys f.1 g.1 (omega (arith, e)))

-- each is of one of these slots
pub set_slot : (at : Sets) (slot : ℕ) (sets : List (List ℕ)) (set : List ℕ) → AreAt at slot sets → Among set sets → (s : ℕ) × (slot ≤ s) × (s < slot + length sets) × (at s ≡ set)
set_slot at slot [] set f a = absurd a
set_slot at slot (x ∷ sets) set f (inl fact) = (slot, omega arith, omega arith, f.0 ∙ fact)
set_slot at slot (x ∷ sets) set f (inr a) = (let more = set_slot at (slot + 1) sets set f.1 a in let low = more.1 in let high = more.2 in (more.0, omega (arith, low), omega (arith, high), more.3))

module _ (by : SlotLeaders) (words : ℕ → ℕ → ℕ × ℕ) (scenario : Scenario) (journal prefix : Rows) (base : Base) (course : Course) (q : IsQuietGroup by words scenario journal prefix base course) where
  abbrev pub at : Sets
  at = logged_sets as_nodes base journal

  abbrev pub over : Ends
  over = over_at as_nodes base journal

  abbrev pub all : List (Seat Player)
  all = births as_nodes scenario

  abbrev pub now : Progress
  now = progress_at all prefix base course

  abbrev pub view : ℕ → Option ReplicaState
  view node = replicas_at scenario prefix base.core.id node

  pub none : (who : ℕ) → marks_at (players words all) prefix base.core.id who ≡ []
  none who = elim (cases_Bool (is_born (players words all) who)) [
    | inl t ↦ ap (marks_of base.core.id) (quiet-empty (players words all) prefix who (in_time_tidy (players words all) prefix q.timely) t q.quiet)
    | inr f ↦ q.strangers who f
  ]

  pub even : IsEvenAt at all prefix base course
  even = quiet_rests at words all prefix base course q.one.log.rosters q.timely q.quiet q.strangers q.led.followed

  pub knows : (node slot : ℕ) → slot < course.newest → is_member (members_at at slot) node ≡ true → slot < now.next node
  knows = quiet_members_know at now (marks_at (players words all) prefix base.core.id) none q.taught

  pub place : (node : ℕ) (r : ReplicaState) → view node ≡ Some r → now.next node ≡ next r
  place node r e = ap (next_in base node) e

  -- where one has executed anything, there is a replica
  pub has_one : (node : ℕ) → 1 ≤ now.next node → HasReplica (replicas_at scenario prefix) base.core.id node
  has_one node some = by_view (view node) refl some
    where
      first : (b : Bool) → is_member base.core.members node ≡ b → 1 ≤ cond b 1 0 → HasReplica (replicas_at scenario prefix) base.core.id node
      first true fact low = q.born node fact
      first false fact low = absurd (omega (arith, low))

      by_view : (o : Option ReplicaState) → view node ≡ o → 1 ≤ next_in base node o → HasReplica (replicas_at scenario prefix) base.core.id node
      by_view (Some r) e low = (r, e)
      by_view None e low = first (is_member base.core.members node) refl low

  pub newest_next : (node : ℕ) → is_member (members_at at course.newest) node ≡ true → now.next node ≡ course.newest
  newest_next node m = even.even.members node m

  pub members_have : (node slot : ℕ) → slot ≤ course.newest → is_member (members_at at slot) node ≡ true → HasReplica (replicas_at scenario prefix) base.core.id node
  members_have node slot low m = elim (cases_lt slot course.newest) [
    | inl lt ↦ (let more = knows node slot lt m in has_one node (omega (arith, more)))
    | inr ge ↦ (let same : slot ≡ course.newest = omega (arith, low, ge) in
        let fact = newest_next node (subst (λ s. is_member (members_at at s) node ≡ true) same m) in
        let some = q.led.followed.follows.some in
        has_one node (omega (arith, fact, some)))
  ]

  pub states : (node : ℕ) (r : ReplicaState) → view node ≡ Some r → IsOfLog at over r
  states node r e = q.one.states prefix [] node r (sym (append-nil prefix)) e

  pub kept : (node : ℕ) (r : ReplicaState) → view node ≡ Some r → IsTopKept node r × IsSlotKept r
  kept node r e = replicas_kept all prefix base.core.id node r (scenarios_kept_born scenario) e

  pub plain : (node : ℕ) (r : ReplicaState) → view node ≡ Some r → IsPlainlyKept node r
  plain node r e = journals_idle words scenario prefix base.core.id node r q.timely e

  pub room : (node : ℕ) (r : ReplicaState) → view node ≡ Some r → next r ≤ last_slot
  room node r e = (let left = (slots_left words scenario prefix base.core.id node r q.timely q.short e).0 in omega (arith, left))

  pub found : (node : ℕ) (r : ReplicaState) → view node ≡ Some r → (seat : Seat Player) × (state : _) × HasLogged as_nodes scenario journal base prefix seat state r × (seat.who ≡ node)
  found node r e = views_are_replicas as_nodes words scenario journal base q.group prefix q.more q.split node r e

  module _ (run : ReplicasRunLogs) where
    pub ran : (node : ℕ) (r : ReplicaState) → view node ≡ Some r → (1 ≤ next r) × (r.group ≡ state_at as_nodes base journal (next r))
    ran node r e = (let v = found node r e in run as_nodes words scenario journal base q.group prefix v.0 v.1 r v.2)

    -- replicas that executed as much are in one state
    pub same_state : (one other : ℕ) (r s : ReplicaState) → view one ≡ Some r → view other ≡ Some s → next r ≡ next s → r.group ≡ s.group
    same_state one other r s e f nexts = (ran one r e).1 ∙ ap (λ n. state_at as_nodes base journal n) nexts ∙ sym (ran other s f).1
