-- A plain journal counts few bytes: few rows, and little mail.
use Rattle.std.proofs.Common.{◌≡◌, ℕ, ◌+◌, ◌^◌, ◌≤◌, eqb, Bool, true, false, List, [], ◌∷◌, ◌++◌, length, map, fold, Option, Some, None, ◌⊎◌, inl, inr, refl, sym, ◌∙◌, ap, subst, arith, length-append}
use Rattle.std.specs.Prelude.{find}
use Rattle.std.specs.List.{flat_map, list_any}
use Rattle.std.proofs.lemmas.Bool.{cond_both, or_left, or_right, eq-eqb}
use Rattle.std.proofs.lemmas.List.{length-map}
use Rattle.sc_base.specs.Definitions.{Among, Each, client_actor, is_member}
use Rattle.sc_base.proofs.Lemmas.{map-some}
use Rattle.sc_node_table.specs.Values.{OrderLine, Mail, MailBody, Request, Answer, Accept, Accepted, Learn, Seat, Go, Row, Node, Client}
use Rattle.sc_mail.specs.Definitions.{body_weight}
use Rattle.sc_actor.specs.declared.rows.Input.TheVariants.{Go as GoInput}
use Rattle.sc_actor.specs.declared.schedules.Line.TheVariants as line
use Rattle.sc_actor.specs.Definitions.{journal_bytes, mails, is_delivery, System, numbers_of, row_of, acts, has_started, value, Task, Once, Settles, Frees, Storms, tasks_of, WalkPlace, onward, after_row, rest_of_all, place_after, start, is_over, MayAdd, IsLawful}
use Rattle.sc_actor.proofs.Lemmas.{mails-snoc, lawful-last}
use Rattle.sc_paxos_law.proofs.Lemmas.{Among-right}
use Rattle.sc_words.proofs.PaxosProofs.PaxosLemmas.{Each-among, Each-weaker, Each-from_All}
use Rattle.sc_node_table.specs.NodeDefinitions.{numbers_from, slots_ahead}
use Rattle.sc_client_table.proofs.TableProofs.TurnLemmas.{sends_in_turn}
use Rattle.sc_scenario.specs.scenario.Definitions.{most_deliveries, IsBounded, IsBoundedLine, ValidScenariosAreBounded}
use Rattle.sc_scenario.specs.declared.scenario.scenarios.Asks.{Asks}
use Rattle.sc_scenario.specs.declared.scenario.scenarios.Scenario.{Scenario}
use Rattle.sc_scenario.specs.declared.scenario.scenarios.SchedLine.{SchedLine}
use Rattle.sc_scenario.specs.declared.scenario.scenarios.SchedLine.TheVariants as sched
use Rattle.sc_meaning.specs.sound.SoundDefinitions.{Player, player_table, node_seat, client_seat, route_of, births, line_of, schedule, system_of, as_nodes, Lawful}
use Rattle.sc_live_orderly.specs.OrderlyDefinitions.{IsPlainLine, is_born, deliveries, SendsToActors}
use Rattle.sc_live_orderly.proofs.OrderlyLemmas.{mails_are_owed, goes_are_few, rows_are, by_rows, count_push}
use Rattle.sc_live_plain.specs.PlainDefinitions.{AllowsDeliveries, delivers, budget_of, Frame, PlainJournalsAreLight, mail_owes, IsBegun, IsPlainBody, IsPlainMail}
use Rattle.sc_live_plain.specs.LastLine.{LastLinesAreLight}
use Rattle.sc_live_plain.proofs.BudgetProofs.LastLineEnds.{all_plain}
use Rattle.sc_live_plain.proofs.PlainProofs.InductionBase.{birth_within, few_clients, journal_at_birth}
use Rattle.sc_live_plain.proofs.PlainProofs.PlainInduction.{owing_of, IsPlainJournal}
use Rattle.sc_live_plain.proofs.PlainProofs.PlainBeginnings.{frames_of, IsStage, stage}
use Rattle.sc_live_plain.proofs.PlainProofs.PlainSteps.{node_born}
use Rattle.sc_live_plain.proofs.PlainProofs.PlainJournals.{plain_journal}
use Rattle.sc_live_plain.proofs.BudgetProofs.JournalBytes.{mail_light, begun_short, bytes_low}
use Rattle.sc_live_plain.proofs.BudgetProofs.PlainLineEnds.{lines_plain, far_from_last}
use Rattle.sc_live_plain.proofs.PlainProofs.PlainSetting.{is_linked}
use Rattle.sc_live_plain.proofs.PlainProofs.PlainClientPotential.{some_owed}
use Rattle.sc_live_plain.proofs.PlainRowsProofs.Lists.{map_among}
use Rattle.sc_live_steps.proofs.CalmStepsProofs.CalmStepLemmas.{count_numbers}

-- ---- mail is for actors

born_among : {A : Type 0} (seats : List (Seat A)) (seat : Seat A) → Among seat seats → list_any (λ actor. eqb actor seat.who) (numbers_of seats) ≡ true
born_among [] seat a = absurd a
born_among (x ∷ seats) seat (inl same) = or_left (eqb x.who seat.who) _ (eq-eqb x.who seat.who (ap (λ (y : Seat _). y.who) same))
born_among (x ∷ seats) seat (inr a) = or_right (eqb x.who seat.who) _ (born_among seats seat a)

module _ (words : ℕ → ℕ → ℕ × ℕ) (scenario : Scenario) (stage : IsStage scenario) where
  pub is_node_born : (me : ℕ) → 1 ≤ me → me ≤ scenario.nodes → is_born (system_of as_nodes words scenario) me ≡ true
  is_node_born me one most = born_among (births as_nodes scenario) (node_seat as_nodes scenario.groups scenario.policy me) (node_born words scenario stage me one most)

  is_client_born : (asks : Asks) → Among asks scenario.clients → is_born (system_of as_nodes words scenario) (client_actor asks.client) ≡ true
  is_client_born asks a =
      born_among (births as_nodes scenario) (client_seat (route_of stage.first) asks)
      (subst (Among (client_seat (route_of stage.first) asks)) (sym stage.seats)
      (seat_right (map (node_seat as_nodes scenario.groups scenario.policy) (numbers_from 1 scenario.nodes)) (map (client_seat (route_of stage.first)) scenario.clients) (client_seat (route_of stage.first) asks)
      (map_among (client_seat (route_of stage.first)) scenario.clients asks a)))
    where
      seat_right : (xs ys : List (Seat Player)) (x : Seat Player) → Among x ys → Among x (xs ++ ys)
      seat_right [] ys x a = a
      seat_right (y ∷ xs) ys x a = inr (seat_right xs ys x a)

  slot_born : (frame : Frame) → Among frame (frames_of scenario) → (slot node : ℕ) → is_member (frame.at slot) node ≡ true → is_born (system_of as_nodes words scenario) node ≡ true
  slot_born frame a slot node m = (let fits = stage.fit frame a slot node m in is_node_born node fits.0 fits.1)

  member_born : (frame : Frame) → Among frame (frames_of scenario) → (node : ℕ) → is_member frame.core.members node ≡ true → is_born (system_of as_nodes words scenario) node ≡ true
  member_born frame a node m =
      slot_born frame a (frame.from + slots_ahead) node (ap (λ ms. is_member ms node) ((stage.are frame a).later (frame.from + slots_ahead) (omega arith)) ∙ m)

  lead_born : (frame : Frame) → Among frame (frames_of scenario) → (node : ℕ) → node ≡ frame.lead → is_born (system_of as_nodes words scenario) node ≡ true
  lead_born frame a node e = member_born frame a node (ap (is_member frame.core.members) e ∙ (stage.are frame a).leads)

  -- a plain mail is for an actor
  body_born : (rows : List (Row Mail OrderLine)) (frame : Frame) → Among frame (frames_of scenario) → (from to : ℕ) (body : MailBody) → IsPlainBody (IsBegun scenario rows) frame from to body → is_born (system_of as_nodes words scenario) to ≡ true
  body_born rows frame a from to (Request group client seq op) b = lead_born frame a to b.1.to_is
  body_born rows frame a from to (Answer group seq answer) b =
      let begun = b.1.is_begun in
      ap (is_born (system_of as_nodes words scenario)) (b.1.to_is ∙ ap client_actor (sym begun.client_is)) ∙ is_client_born begun.asks begun.is_asks
  body_born rows frame a from to (Accept group ballot slot command) b = slot_born frame a slot to b.2.to_in
  body_born rows frame a from to (Accepted group ballot slot) b = lead_born frame a to b.2
  body_born rows frame a from to (Learn group slot command) b = member_born frame a to b.1.to_in
  body_born rows frame a from to _ b = absurd b

-- ---- a schedule in which clients only go

abbrev GoesOnly : SchedLine → Type 0
GoesOnly (sched.Go client) = Unit {0}
GoesOnly (sched.Deliver who k) = ⊥
GoesOnly (sched.Drop who k) = ⊥
GoesOnly (sched.Again mail) = ⊥
GoesOnly (sched.Tick who) = ⊥
GoesOnly (sched.Crash node) = ⊥
GoesOnly (sched.Told node order) = ⊥
GoesOnly (sched.Settle most) = ⊥
GoesOnly (sched.Free most workers) = ⊥
GoesOnly (sched.Storm number most) = ⊥

-- either so, or the budget is no more than a line may deliver
some_or_goes : (nodes : ℕ) (clients : List Asks) (budget : ℕ) (lines : List SchedLine) → Each (AllowsDeliveries budget) lines → Each (IsBoundedLine nodes clients) lines → (budget ≤ most_deliveries) ⊎ Each GoesOnly lines
some_or_goes nodes clients budget [] at b = inr tt
some_or_goes nodes clients budget (sched.Go client ∷ lines) at b = elim (some_or_goes nodes clients budget lines at.1 b.1) [ inl low ↦ inl low | inr all ↦ inr (tt, all) ]
some_or_goes nodes clients budget (sched.Settle most ∷ lines) at b = (let room = at.0 in let high = b.0.1 in inl (omega (arith, room, high)))
some_or_goes nodes clients budget (sched.Free most workers ∷ lines) at b = (let room = at.0 in let high = b.0.0.1 in inl (omega (arith, room, high)))
some_or_goes nodes clients budget (sched.Deliver who k ∷ lines) at b = inl at.0.1
some_or_goes nodes clients budget (sched.Drop who k ∷ lines) at b = absurd at.0
some_or_goes nodes clients budget (sched.Again mail ∷ lines) at b = absurd at.0
some_or_goes nodes clients budget (sched.Tick who ∷ lines) at b = absurd at.0
some_or_goes nodes clients budget (sched.Crash node ∷ lines) at b = absurd at.0
some_or_goes nodes clients budget (sched.Told node order ∷ lines) at b = absurd at.0
some_or_goes nodes clients budget (sched.Storm number most ∷ lines) at b = absurd at.0

abbrev IsGoTask : Task OrderLine → Type 0
IsGoTask (Once (line.Go who)) = Unit {0}
IsGoTask (Once (line.Deliver who k)) = ⊥
IsGoTask (Once (line.Drop who k)) = ⊥
IsGoTask (Once (line.Again mail)) = ⊥
IsGoTask (Once (line.Tick who)) = ⊥
IsGoTask (Once (line.Crash who)) = ⊥
IsGoTask (Once (line.Told who order)) = ⊥
IsGoTask (Once (line.Settle most)) = ⊥
IsGoTask (Once (line.Free most workers)) = ⊥
IsGoTask (Once (line.Storm number most)) = ⊥
IsGoTask (Settles left) = ⊥
IsGoTask (Frees left) = ⊥
IsGoTask (Storms words) = ⊥

go_tasks : (words : ℕ → ℕ → ℕ × ℕ) (lines : List SchedLine) → Each GoesOnly lines → Each IsGoTask (flat_map (tasks_of words) (map line_of lines))
go_tasks words [] g = tt
go_tasks words (sched.Go client ∷ lines) g = (tt, go_tasks words lines g.1)
go_tasks words (sched.Deliver who k ∷ lines) g = absurd g.0
go_tasks words (sched.Drop who k ∷ lines) g = absurd g.0
go_tasks words (sched.Again mail ∷ lines) g = absurd g.0
go_tasks words (sched.Tick who ∷ lines) g = absurd g.0
go_tasks words (sched.Crash node ∷ lines) g = absurd g.0
go_tasks words (sched.Told node order ∷ lines) g = absurd g.0
go_tasks words (sched.Settle most ∷ lines) g = absurd g.0
go_tasks words (sched.Free most workers ∷ lines) g = absurd g.0
go_tasks words (sched.Storm number most ∷ lines) g = absurd g.0

rest_goes : (tasks : List (Task OrderLine)) → Each IsGoTask tasks → Each IsGoTask (rest_of_all tasks)
rest_goes [] g = tt
rest_goes (Once l ∷ tasks) g = g.1
rest_goes (Settles left ∷ tasks) g = absurd g.0
rest_goes (Frees left ∷ tasks) g = absurd g.0
rest_goes (Storms words ∷ tasks) g = absurd g.0

module _ (s : System Player Mail OrderLine) where
  onward_goes : (rows : List (Row Mail OrderLine)) (tasks : List (Task OrderLine)) (skipped : ℕ) (cut : Bool) → Each IsGoTask tasks → Each IsGoTask (onward s rows tasks skipped cut).tasks
  onward_goes rows [] skipped cut g = tt
  onward_goes rows (task ∷ tasks) skipped cut g = cond_both (is_over s rows task) _ _ (λ (place : WalkPlace Mail OrderLine). Each IsGoTask place.tasks) (λ _. onward_goes rows tasks _ _ g.1) (λ _. g)

  walk_goes : (place : WalkPlace Mail OrderLine) (rows : List (Row Mail OrderLine)) → Each IsGoTask place.tasks → Each IsGoTask (fold (after_row s) place rows).tasks
  walk_goes place [] g = g
  walk_goes place (row ∷ rows) g = walk_goes (after_row s place row) rows (onward_goes (place.rows ++ row ∷ []) (rest_of_all place.tasks) place.skipped place.unsettled (rest_goes place.tasks g))

-- a player that starts sends one mail at most
go_one : (player : Player) → length (player_table player GoInput).1 ≤ 1
go_one (Node node) = omega arith
go_one (Client client) = elim (sends_in_turn client GoInput).sends [ inl none ↦ (let few = ap length none in omega (arith, few)) | inr one ↦ (let few = ap length one.4 in omega (arith, few)) ]

-- the row of one that goes delivers nothing, and sends one mail at most
record IsGoRow (row : Row Mail OrderLine) : Type 0 where
  none : is_delivery row.event ≡ false
  few : length row.sent ≤ 1

module _ (words : ℕ → ℕ → ℕ × ℕ) (scenario : Scenario) where
  acts_go : (rows : List (Row Mail OrderLine)) (who : ℕ) (row : Row Mail OrderLine) → acts (system_of as_nodes words scenario) rows who Go ≡ Some row → IsGoRow row
  acts_go rows who row e =
      let m = map-some (λ (seat : Seat Player). row_of player_table seat rows Go) (find (λ (seat : Seat Player). eqb seat.who who) (births as_nodes scenario)) row e in
      subst IsGoRow m.2 (record { none = refl; few = go_one (value player_table m.0 rows) })

  may_go : (rows : List (Row Mail OrderLine)) (tasks : List (Task OrderLine)) (row : Row Mail OrderLine) → Each IsGoTask tasks → MayAdd (system_of as_nodes words scenario) rows tasks row → IsGoRow row
  may_go rows [] row g m = absurd m
  may_go rows (Once (line.Go who) ∷ tasks) row g m =
      cond_both (has_started rows who) None (acts (system_of as_nodes words scenario) rows who Go) (λ (o : Option (Row Mail OrderLine)). o ≡ Some row → IsGoRow row) (λ _ k. cc) (λ _ k. acts_go rows who row k) m
  may_go rows (Once (line.Deliver who k) ∷ tasks) row g m = absurd g.0
  may_go rows (Once (line.Drop who k) ∷ tasks) row g m = absurd g.0
  may_go rows (Once (line.Again mail) ∷ tasks) row g m = absurd g.0
  may_go rows (Once (line.Tick who) ∷ tasks) row g m = absurd g.0
  may_go rows (Once (line.Crash who) ∷ tasks) row g m = absurd g.0
  may_go rows (Once (line.Told who order) ∷ tasks) row g m = absurd g.0
  may_go rows (Once (line.Settle most) ∷ tasks) row g m = absurd g.0
  may_go rows (Once (line.Free most workers) ∷ tasks) row g m = absurd g.0
  may_go rows (Once (line.Storm number most) ∷ tasks) row g m = absurd g.0
  may_go rows (Settles left ∷ tasks) row g m = absurd g.0
  may_go rows (Frees left ∷ tasks) row g m = absurd g.0
  may_go rows (Storms w ∷ tasks) row g m = absurd g.0

  -- where clients only go, nothing is delivered, and there is no more mail than rows
  record OnlyGoes (rows : List (Row Mail OrderLine)) : Type 0 where
    none : deliveries rows ≡ 0
    few : length (mails rows) ≤ length rows

  only_goes : Each GoesOnly scenario.lines → (journal : List (Row Mail OrderLine)) → IsLawful (system_of as_nodes words scenario) (schedule scenario) journal → OnlyGoes journal
  only_goes g journal lawful =
      let s : System Player Mail OrderLine = system_of as_nodes words scenario in
      by_rows s (schedule scenario) OnlyGoes (record { none = refl; few = omega arith })
      (λ rows row l o. (
      let tasks = walk_goes s (start s (schedule scenario)) rows (onward_goes s [] (flat_map (tasks_of words) (schedule scenario)) 0 false (go_tasks words scenario.lines g)) in
      let r = may_go rows (place_after s (schedule scenario) rows).tasks row tasks (lawful-last s (schedule scenario) rows row l) in
      let count = count_push (λ (x : Row Mail OrderLine). is_delivery x.event) rows row false r.none in
      let more = ap length (mails-snoc rows row) in
      let parts = length-append (mails rows) row.sent in
      let longer = length-append rows (row ∷ []) in
      let none = o.none in
      let few = o.few in
      let one = r.few in
      record { none = omega (arith, count, none); few = omega (arith, more, parts, longer, few, one) }))
      journal lawful

-- ---- the law

-- a lawful journal of plain lines is light where the budget is no more than a line may deliver, or clients only go
light_by : (scenario : Scenario) → IsBounded scenario → Each IsPlainLine (schedule scenario) → (budget_of scenario ≤ most_deliveries) ⊎ Each GoesOnly scenario.lines
    → (words : ℕ → ℕ → ℕ × ℕ) (journal : List (Row Mail OrderLine)) → Lawful as_nodes words scenario journal → journal_bytes (λ (mail : Mail). body_weight mail.body) journal ≤ 2 ^ 30
light_by scenario bounded plain low_or_goes words journal lawful =
    let s = stage scenario bounded in
    let sys_ : System Player Mail OrderLine = system_of as_nodes words scenario in
    let lines = schedule scenario in
    let each : (rows : List (Row Mail OrderLine)) → IsLawful sys_ lines rows → IsPlainJournal words scenario s rows =
    λ rows l. plain_journal words scenario s (is_linked scenario bounded) (far_from_last words scenario bounded) lines plain (journal_at_birth scenario bounded words) rows l in
    let j = each journal lawful in
    let light = Each-weaker (IsPlainMail (IsBegun scenario journal) (frames_of scenario)) (λ mail. body_weight mail.body ≤ 576) (mail_light (IsBegun scenario journal) (begun_short scenario bounded journal) (frames_of scenario)) (mails journal) j.sent in
    let bytes = bytes_low journal light in
    let to : SendsToActors sys_ lines = λ rows l. Each-weaker (IsPlainMail (IsBegun scenario rows) (frames_of scenario)) (λ mail. is_born sys_ mail.to ≡ true)
    (λ mail m. body_born words scenario s rows m.frame m.is_frame mail.from mail.to mail.body m.says) (mails rows) (each rows l).sent in
    let some = Each-weaker (IsPlainMail (IsBegun scenario journal) (frames_of scenario)) (λ mail. 1 ≤ mail_owes mail) (some_owed (IsBegun scenario journal) (frames_of scenario)) (mails journal) j.sent in
    let sent = mails_are_owed sys_ s.seats_apart lines plain to (owing_of scenario) journal some lawful in
    let owes = j.owes in
    let within = birth_within scenario bounded words in
    let rows = rows_are sys_ lines journal plain lawful in
    let goes_ = goes_are_few sys_ s.seats_apart lines journal plain lawful in
    let seats = ap length s.seats in
    let both = length-append (map (node_seat as_nodes scenario.groups scenario.policy) (numbers_from 1 scenario.nodes)) (map (client_seat (route_of s.first)) scenario.clients) in
    let nodes = length-map (numbers_from 1 scenario.nodes) (node_seat as_nodes scenario.groups scenario.policy) in
    let clients = length-map scenario.clients (client_seat (route_of s.first)) in
    let numbers = count_numbers 1 scenario.nodes in
    let few_nodes = bounded.nodes.1 in
    let few = few_clients scenario.clients bounded.clients bounded.ascending in
    elim low_or_goes [
      | inl low ↦ omega (arith, bytes, sent, owes, within, rows, goes_, seats, both, nodes, clients, numbers, few_nodes, few, low)
      | inr g ↦ (
          let o = only_goes words scenario g journal lawful in
          let none = o.none in
          let little = o.few in
          omega (arith, bytes, rows, goes_, seats, both, nodes, clients, numbers, few_nodes, few, none, little))
    ]

-- each line of a scenario is within its bounds
lines_bounded : (scenario : Scenario) → IsBounded scenario → Each (IsBoundedLine scenario.nodes scenario.clients) scenario.lines
lines_bounded scenario bounded = Each-from_All (IsBoundedLine scenario.nodes scenario.clients) scenario.lines bounded.lines

pub journals_light : ValidScenariosAreBounded → PlainJournalsAreLight
journals_light all_bounded words scenario journal valid at lawful =
    let bounded = all_bounded scenario valid in
    light_by scenario bounded (lines_plain (budget_of scenario) scenario.lines at)
    (some_or_goes scenario.nodes scenario.clients (budget_of scenario) scenario.lines at (lines_bounded scenario bounded)) words journal lawful

-- where the last line delivers and has room for the budget, the budget is no more than a line may deliver
last_low : (nodes : ℕ) (clients : List Asks) (budget : ℕ) (last : SchedLine) → delivers last ≡ true → AllowsDeliveries budget last → IsBoundedLine nodes clients last → budget ≤ most_deliveries
last_low nodes clients budget last is room bound = elim (some_or_goes nodes clients budget (last ∷ []) (room, tt) (bound, tt)) [ inl low ↦ low | inr goes ↦ absurd (not_go last is goes.0) ]
  where
    not_go : (line : SchedLine) → delivers line ≡ true → GoesOnly line → ⊥
    not_go (sched.Go client) e g = cc
    not_go _ e g = g

pub last_lines_light : ValidScenariosAreBounded → LastLinesAreLight
last_lines_light all_bounded words scenario journal valid ends lawful =
    let bounded = all_bounded scenario valid in
    let bound = Each-among (IsBoundedLine scenario.nodes scenario.clients) scenario.lines ends.last (lines_bounded scenario bounded)
    (subst (Among ends.last) (sym ends.lines_are) (Among-right ends.last ends.before (ends.last ∷ []) (inl refl))) in
    light_by scenario bounded (lines_plain 0 scenario.lines (all_plain scenario ends)) (inl (last_low scenario.nodes scenario.clients (budget_of scenario) ends.last ends.is_delivery ends.room bound)) words journal lawful
