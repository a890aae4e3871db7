-- In quiet no order is under way; and a leader's one work flies alone.
use Rattle.std.proofs.Common.{◌≡◌, ℕ, zero, suc, ◌≤◌, eqb, true, cond, List, [], ◌∷◌, ◌++◌, length, replicate, Option, Some, None, inl, inr, refl, sym, ◌∙◌, ap, subst, arith}
use Rattle.std.proofs.lemmas.Bool.{eq-eqb}
use Rattle.std.proofs.lemmas.List.{length-append}
use Rattle.sc_base.specs.Definitions.{Among, Each}
use Rattle.sc_node_table.specs.Values.{Draw, Command, Core, Lock, Free, Coordinating, Promised, Watching, Mail, Seat, Flight}
use Rattle.sc_live_orderly.specs.OrderlyDefinitions.{mail_with, is_born}
use Rattle.sc_actor.specs.declared.rows.Event.TheVariants.{Told}
use Rattle.sc_actor.specs.Definitions.{row_of, mails, copies, numbers_of}
use Rattle.sc_meaning.specs.sound.SoundDefinitions.{player_table, Player}
use Rattle.sc_node_table.specs.NodeDefinitions.{group_of_order, ReplicaState, listed}
use Rattle.sc_live_steps.specs.orders.OrderDefinitions.{Unbound, Errand, bond_in as bond_by_lock, works_in, works_flying, works_ready, works, errand_by, errand_for, errands_for}
use Rattle.sc_live_journals.specs.rows.RowDefinitions.{view_at}
use Rattle.sc_live_orderly.proofs.OrderlyLemmas.{in_time_before, in_time_tidy, last_in_time, quiet-empty}
use Rattle.sc_live_steps.specs.calm.CalmDefinitions.{players, Rows}
use Rattle.sc_live_steps.proofs.OrderStepsProofs.OrderStepLemmas.{still-only, quiet-still, left_none as left_empty, right_none as right_empty}
use Rattle.sc_live_journals.specs.scenes.SceneDefinitions.{is_running, lead_of, works_of, work_at, scene_at, StageAfter, GoesToActor, HasNothing, QuietScenesAreOver, IsWork, WorksFlyLone, OrdersBeginInQuiet}
use Rattle.sc_live_journals.proofs.ScenesProofs.VotesAndOrders.{orders_keep}
use Rattle.sc_live_journals.proofs.ScenesProofs.UntakenMail.{errands-append}
use Rattle.sc_live_journals.proofs.ScenesProofs.NewestLeaders.{lead_runs}
use Rattle.sc_live_journals.proofs.ScenesProofs.SceneViews.{tell}

-- ---- errands

copies_none : (name : Draw) (mail : Mail) (count : ℕ) → errand_by mail.from mail.to mail.body ≡ None → errands_for name (replicate count mail) ≡ []
copies_none name mail zero e = refl
copies_none name mail (suc count) e = ap (λ o. errand_for name o ++ errands_for name (replicate count mail)) e ∙ copies_none name mail count e

module _ (words : ℕ → ℕ → ℕ × ℕ) (births : List (Seat Player)) (name : Draw) where
  here_none : (mail : Mail) (count : ℕ) (tail : List Mail) → GoesToActor words births mail → (is_born (players words births) mail.to ≡ true → cond (eqb mail.to mail.to) (replicate count mail) [] ++ tail ≡ [])
      → (o : Option (Draw × Errand)) → errand_by mail.from mail.to mail.body ≡ o → errands_for name (replicate count mail) ≡ []
  here_none mail count tail goes empty None e = copies_none name mail count e
  here_none mail count tail goes empty (Some entry) e =
      let all : cond (eqb mail.to mail.to) (replicate count mail) [] ≡ [] = left_empty (cond (eqb mail.to mail.to) (replicate count mail) []) tail (empty (goes entry e)) in
      ap (errands_for name) (sym (ap (λ b. cond b (replicate count mail) []) (eq-eqb mail.to mail.to refl)) ∙ all)

  pub none_left : (sent : List Mail) (counts : List ℕ) → Each (GoesToActor words births) sent → ((who : ℕ) → is_born (players words births) who ≡ true → mail_with (λ mail. eqb mail.to who) sent counts ≡ [])
      → errands_for name (mail_with (λ mail. true) sent counts) ≡ []
  none_left [] counts goes empty = refl
  none_left (mail ∷ sent) [] goes empty = refl
  none_left (mail ∷ sent) (count ∷ counts) goes empty =
      errands-append name (replicate count mail) (mail_with (λ m. true) sent counts)
      ∙ (ap (λ l. l ++ errands_for name (mail_with (λ m. true) sent counts))
      (here_none mail count (mail_with (λ m. eqb m.to mail.to) sent counts) goes.0 (λ born. empty mail.to born) (errand_by mail.from mail.to mail.body) refl)
      ∙ none_left sent counts goes.1 (λ who born. right_empty (cond (eqb mail.to who) (replicate count mail) []) (mail_with (λ m. eqb m.to who) sent counts) (empty who born)))

-- ---- work

nothing_works : (r : ReplicaState) → HasNothing r → works r ≡ []
nothing_works r n =
    let w = n.waits n.flights in
    ap (λ l. l ++ (works_in r.backlog ++ (works_flying r.leader.flights ++ works_ready r.ready))) w.0
    ∙ (ap (λ l. l ++ (works_flying r.leader.flights ++ works_ready r.ready)) w.1 ∙ (ap (λ l. works_flying l ++ works_ready r.ready) n.flights ∙ ap works_ready n.ready))

view_works : (o : Option ReplicaState) → ((r : ReplicaState) → o ≡ Some r → r.running ≡ true → HasNothing r) → is_running o ≡ true → works_of o ≡ []
view_works None rests runs = refl
view_works (Some r) rests runs = nothing_works r (rests r refl runs)

lead_works : (births : List (Seat Player)) (rows : Rows) (name : Draw) → ((node : ℕ) (r : ReplicaState) → view_at births rows name node ≡ Some r → r.running ≡ true → HasNothing r) → (o : Option ℕ)
    → lead_of (view_at births rows name) (numbers_of births) ≡ o → work_at (view_at births rows name) o ≡ []
lead_works births rows name rests None e = refl
lead_works births rows name rests (Some node) e = view_works (view_at births rows name node) (rests node) (lead_runs (view_at births rows name) (numbers_of births) node e)

pub free_by : (lock : Lock) (core : Core) → bond_by_lock lock core ≡ Unbound → lock ≡ Free
free_by Free core e = refl
free_by (Coordinating tx body order heard) core e = cc
free_by (Promised tx offer) core e = cc
free_by (Watching tx watch) core e = cc

-- In a quiet journal in which no leader has anything in flight no order is under way, and each group that is led is free.
pub quiet_over : QuietScenesAreOver
quiet_over = record {
  over = λ words births rows timely quiet goes rests under.
      (let tidy = in_time_tidy (players words births) rows timely in
      quiet-still (scene_at births rows) (record {
        errands = λ name. none_left words births name (mails rows) (copies rows) goes (λ who born. quiet-empty (players words births) rows who tidy born quiet);
        work = λ name. lead_works births rows name (rests name) (lead_of (view_at births rows name) (numbers_of births)) refl;
      }) under);
  free = λ births rows name node r leads unbound. free_by r.group.core.lock r.group.core (sym (tell.led births rows name node r leads).1.0 ∙ unbound);
}

-- ---- alone

flights_long : (flights : List (Flight Command)) → Each (λ flight. IsWork flight.value) flights → length (works_flying flights) ≡ length flights
flights_long [] all = refl
flights_long (flight ∷ flights) all = ap (λ o. length (listed o ++ works_flying flights)) all.0.1 ∙ ap suc (flights_long flights all.1)

ready_long : (ready : List (ℕ × Command)) → Each (λ entry. IsWork entry.1) ready → length (works_ready ready) ≡ length ready
ready_long [] all = refl
ready_long (entry ∷ ready) all = ap (λ o. length (listed o ++ works_ready ready)) all.0.1 ∙ ap suc (ready_long ready all.1)

none_long : {X : Type 0} (xs : List X) → length xs ≤ 0 → xs ≡ []
none_long [] le = refl
none_long (x ∷ xs) le = absurd (omega (arith, le))

one_long : {X : Type 0} (xs : List X) (x : X) → Among x xs → length xs ≤ 1 → xs ≡ x ∷ []
one_long [] x fact le = absurd fact
one_long (y ∷ xs) x fact le =
    let none : xs ≡ [] = none_long xs (omega (arith, le)) in
    elim fact [
      | inl e ↦ ap (λ z. z ∷ xs) e ∙ ap (λ l. x ∷ l) none
      | inr more ↦ absurd (subst (λ l. Among x l) none more)
    ]

some_long : {X : Type 0} (xs : List X) (x : X) → Among x xs → 1 ≤ length xs
some_long [] x fact = absurd fact
some_long (y ∷ xs) x fact = omega arith

-- The one work of a leader flies alone, where neither calls nor fillers are under way there, and something is in flight at its next slot.
pub fly_lone : WorksFlyLone
fly_lone work flight r running unbound one flying readies among slot =
    let acts = works_in r.acts in
    let backlog = works_in r.backlog in
    let flights = works_flying r.leader.flights in
    let ready = works_ready r.ready in
    let whole : length (works r) ≡ 1 = ap length one in
    let a = length-append acts (backlog ++ (flights ++ ready)) in
    let b = length-append backlog (flights ++ ready) in
    let c = length-append flights ready in
    let f = flights_long r.leader.flights flying in
    let g = ready_long r.ready readies in
    let some = some_long r.leader.flights flight among in
    record {
      running = running;
      unbound = unbound;
      flights = one_long r.leader.flights flight among (omega (arith, whole, a, b, c, f, g, some));
      here = slot;
      ready = none_long r.ready (omega (arith, whole, a, b, c, f, g, some));
      acts = none_long acts (omega (arith, whole, a, b, c, f, g, some));
      backlog = none_long backlog (omega (arith, whole, a, b, c, f, g, some));
    }

-- ---- through a journal

-- An order that comes in time to a leader, where nothing is under way, begins or is refused.
pub begin_in_quiet : OrdersBeginInQuiet
begin_in_quiet words births rows seat line node r o leads unbound goes rests under =
    let before = in_time_before (players words births) rows (row_of player_table seat rows (Told line)) o.timely in
    let comes = (last_in_time (players words births) rows (row_of player_table seat rows (Told line)) o.timely).1 in
    let still = (quiet_over.over words births rows before comes goes rests under).0 in
    subst (StageAfter births rows seat (Told line)) (sym (still-only (scene_at births rows) under.0 under.1 still))
    (orders_keep.led words births rows seat line node r o leads
    (record { running = leads.running; unbound = unbound; idle = nothing_works r (rests (group_of_order line.order) seat.who r leads.is_there leads.running) }) still)
