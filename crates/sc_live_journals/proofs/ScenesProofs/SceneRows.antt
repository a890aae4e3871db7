-- Each row in time is a row of the scene.
use Rattle.std.proofs.Common.{◌≡◌, ℕ, false, List, [], ◌∷◌, ◌++◌, Option, Some, None, inl, inr, refl, sym, ◌∙◌, ap, subst, append-nil}
use Rattle.std.specs.Option.{option_map}
use Rattle.std.proofs.lemmas.Bool.{cases_Bool, cond-true, cond-false}
use Rattle.sc_base.specs.Definitions.{same_draw}
use Rattle.sc_node_table.specs.Values.{Draw, OrderLine, Mail, Seat, Event, Deliver, Go, Row}
use Rattle.sc_base.proofs.Lemmas.{same_name}
use Rattle.sc_actor.specs.declared.rows.Event.TheVariants.{Told}
use Rattle.sc_actor.specs.Definitions.{mails, numbers_of, row_of}
use Rattle.sc_live_orderly.specs.OrderlyDefinitions.{IsCalmRow, IsCalmEvent}
use Rattle.sc_live_orderly.proofs.OrderlyLemmas.{last_in_time}
use Rattle.sc_node_table.specs.NodeDefinitions.{ReplicaState, listed, born_replica, slots_ahead}
use Rattle.sc_meaning.specs.sound.SoundDefinitions.{Player, player_table}
use Rattle.sc_live_steps.specs.calm.CalmDefinitions.{players, Rows}
use Rattle.sc_live_steps.proofs.CalmStepsProofs.CalmStepLemmas.{apart}
use Rattle.sc_live_steps.specs.orders.OrderDefinitions.{Errand, Unbound, IsRow, bond_in as bond_by_lock, bond_of, errand_by, errand_for, errands_for}
use Rattle.sc_live_journals.specs.rows.RowDefinitions.{view_at, IsSeat, with_event}
use Rattle.sc_live_journals.specs.scenes.SceneDefinitions.{scene_at, left_after, errand_in, errand_taken, taken_errand, errands_sent, IsSceneKind, Creates, LeavesOrMakes, IsOfGroup, RowsAreOfScenes}
use Rattle.sc_live_journals.proofs.ScenesProofs.UntakenMail.{errands-append, left_by, left_row, TakesOne, takes_one}
use Rattle.sc_live_journals.proofs.ScenesProofs.GroupParts.{SamePart, same_part, stopped_part, running_part}
use Rattle.sc_live_journals.proofs.ScenesProofs.SceneViews.{seat_among, view_among}
use Rattle.sc_live_journals.proofs.ScenesProofs.RowKinds.{all_same, others_same}

-- ---- errands

-- what errands become
pub record ErrandRow (name : Draw) (taken : Option Errand) (now after : Draw → List Errand) (sent : Draw → List Errand) : Type 0 where
  pub before : List Errand
  pub behind : List Errand
  pub takes : now name ≡ before ++ (listed taken ++ behind)
  pub own : after name ≡ (before ++ behind) ++ sent name
  pub others : (other : Draw) → (other ≡ name → ⊥) → after other ≡ now other ++ sent other

own_errand : (name : Draw) (o : Option (Draw × Errand)) → ((entry : Draw × Errand) → o ≡ Some entry → entry.0 ≡ name) → errand_for name o ≡ listed (option_map (λ entry. entry.1) o)
own_errand name None own = refl
own_errand name (Some entry) own = cond-true (same_draw entry.0 name) (entry.1 ∷ []) [] (same_name entry.0 name (own entry refl))

other_errand : (name other : Draw) → (other ≡ name → ⊥) → (o : Option (Draw × Errand)) → ((entry : Draw × Errand) → o ≡ Some entry → entry.0 ≡ name) → errand_for other o ≡ []
other_errand name other ne None own = refl
other_errand name other ne (Some entry) own = cond-false (same_draw entry.0 other) (entry.1 ∷ []) [] (apart entry.0 other (λ e. ne (sym e ∙ own entry refl)))

module _ (words : ℕ → ℕ → ℕ × ℕ) (births : List (Seat Player)) (rows : Rows) (seat : Seat Player) where
  abbrev Now : Draw → List Errand
  Now name = errands_for name (left_after rows)

  abbrev After : Event OrderLine → Draw → List Errand
  After event name = errands_for name (left_after (with_event rows seat event))

  after_is : (event : Event OrderLine) (name : Draw) → After event name ≡ errands_for name (left_by words births rows event) ++ errands_sent rows seat event name
  after_is event name =
      ap (errands_for name) (left_row words births rows (row_of player_table seat rows event))
      ∙ errands-append name (left_by words births rows event) (row_of player_table seat rows event).sent

  -- a row that takes none
  still_row : (event : Event OrderLine) (name : Draw) → left_by words births rows event ≡ left_after rows → ErrandRow name None Now (After event) (errands_sent rows seat event)
  still_row event name same = record {
    before = Now name;
    behind = [];
    takes = sym (append-nil (Now name));
    own = after_is event name ∙ ap (λ l. l ++ errands_sent rows seat event name) (ap (errands_for name) same ∙ sym (append-nil (Now name)));
    others = λ other ne. after_is event other ∙ ap (λ l. l ++ errands_sent rows seat event other) (ap (errands_for other) same);
  }

  -- a row that takes a mail, where its errand, if it is one, is for this group
  mail_row : (number : ℕ) (name : Draw) → ((entry : Draw × Errand) → errand_taken (mails rows) (Deliver number) ≡ Some entry → entry.0 ≡ name) → TakesOne words births rows seat.who number
      → ErrandRow name (taken_errand (mails rows) (Deliver number)) Now (After (Deliver number)) (errands_sent rows seat (Deliver number))
  mail_row number name own one =
      let mail = one.mail in
      let o = errand_by mail.from mail.to mail.body in
      let fact : errand_taken (mails rows) (Deliver number) ≡ o = ap errand_in one.sent in
      let fits : (entry : Draw × Errand) → o ≡ Some entry → entry.0 ≡ name = λ entry e. own entry (fact ∙ e) in
      let before = one.takes.before in
      let behind = one.takes.behind in
      record {
        before = errands_for name before;
        behind = errands_for name behind;
        takes = ap (errands_for name) one.takes.had_is ∙ (errands-append name before (mail ∷ behind)
            ∙ ap (λ l. errands_for name before ++ (l ++ errands_for name behind)) (own_errand name o fits ∙ ap (λ x. listed (option_map (λ entry. entry.1) x)) (sym fact)));
        own = after_is (Deliver number) name
            ∙ ap (λ l. l ++ errands_sent rows seat (Deliver number) name) (ap (errands_for name) one.takes.has_is ∙ errands-append name before behind);
        others = λ other ne. after_is (Deliver number) other
            ∙ ap (λ l. l ++ errands_sent rows seat (Deliver number) other)
            (ap (errands_for other) one.takes.has_is ∙ (errands-append other before behind
            ∙ (ap (λ l. errands_for other before ++ (l ++ errands_for other behind)) (sym (other_errand name other ne o fits))
            ∙ (sym (errands-append other before (mail ∷ behind)) ∙ sym (ap (errands_for other) one.takes.had_is)))));
      }

  errand_row : (event : Event OrderLine) (name : Draw) → IsCalmEvent (players words births) rows seat.who event → ((entry : Draw × Errand) → errand_taken (mails rows) event ≡ Some entry → entry.0 ≡ name)
      → ErrandRow name (taken_errand (mails rows) event) Now (After event) (errands_sent rows seat event)
  errand_row (Deliver number) name fine own = mail_row number name own (takes_one words births rows seat.who number fine)
  errand_row Go name fine own = still_row Go name refl
  errand_row (Told line) name fine own = still_row (Told line) name refl
  errand_row _ name fine own = absurd fine

  -- ---- the parts of other groups

  module _ (event : Event OrderLine) (name : Draw) where
    abbrev one : ℕ → Option ReplicaState
    one = view_at births rows name

    abbrev other : ℕ → Option ReplicaState
    other = view_at births (with_event rows seat event) name

    creates_part : IsSeat births seat → Creates births rows seat event name → SamePart one other (numbers_of births)
    creates_part born b =
        let r = born_replica slots_ahead seat.who b.base in
        let free : bond_of r.group.core ≡ Unbound = ap (λ l. bond_by_lock l r.group.core) b.free in
        let all = view_among births rows name in
        let among = seat_among births seat born in
        let stopped : r.running ≡ false → SamePart one other (numbers_of births) =
        stopped_part one other (numbers_of births) seat.who r all among b.none b.makes (others_same births rows seat event name) free refl b.newest in
        elim b.first [
          | inl halts ↦ stopped halts
          | inr lead ↦ elim (cases_Bool r.running) [
            | inl t ↦ running_part one other (numbers_of births) seat.who r all among b.none b.makes (others_same births rows seat event name) free refl b.newest t lead
            | inr f ↦ stopped f
          ]
        ]

    other_part : IsSeat births seat → LeavesOrMakes births rows seat event name → SamePart one other (numbers_of births)
    other_part born (inl same) = same_part one other (numbers_of births) (all_same births rows seat event name same)
    other_part born (inr creation) = creates_part born creation

  -- ---- the row

  pub calm_is : (event : Event OrderLine) → IsCalmRow (players words births) rows (row_of player_table seat rows event) → IsCalmEvent (players words births) rows seat.who event
  calm_is event calm =
      let who : calm.seat.who ≡ seat.who = sym (ap (λ (r : Row Mail OrderLine). r.who) calm.row_is) in
      let fact : calm.event ≡ event = sym (ap (λ (r : Row Mail OrderLine). r.event) calm.row_is) in
      subst (λ (e : Event OrderLine). IsCalmEvent (players words births) rows seat.who e) fact (subst (λ n. IsCalmEvent (players words births) rows n calm.event) who calm.calm)

  row_by : (event : Event OrderLine) (name : Draw) → IsOfGroup words births rows seat event name → ErrandRow name (taken_errand (mails rows) event) Now (After event) (errands_sent rows seat event)
      → IsSceneKind IsRow births rows seat event name
  row_by event name g e = record {
    before = e.before;
    behind = e.behind;
    takes = e.takes;
    own = e.own;
    others = λ other ne. here_is other (other_part event other g.seated (g.others other ne)) (e.others other ne);
    leads = λ other node ne fact. (other_part event other g.seated (g.others other ne)).leads node fact;
  }
    where
      here_is : (other : Draw) → SamePart (view_at births rows other) (view_at births (with_event rows seat event) other) (numbers_of births) → After event other ≡ Now other ++ errands_sent rows seat event other
          → (scene_at births (with_event rows seat event)).at other ≡ record ((scene_at births rows).at other) { errands = ((scene_at births rows).at other).errands ++ errands_sent rows seat event other }
      here_is other part errands =
          let now = (scene_at births rows).at other in
          let after = (scene_at births (with_event rows seat event)).at other in
          ap (λ b. record after { bond = b }) part.bond ∙ (ap (λ w. record after { bond = now.bond; work = w }) part.work ∙ ap (λ l. record now { errands = l }) errands)

-- Each row in time is a row of the scene in the group of its mail or order: it takes the errand of the mail, sends those of what it sends, and leaves the other groups, but for these.
pub rows_are : RowsAreOfScenes
rows_are words births rows seat event name g =
    let calm = (last_in_time (players words births) rows (row_of player_table seat rows event) g.timely).0 in
    row_by words births rows seat event name g (errand_row words births rows seat event name (calm_is words births rows seat event calm) g.own)
