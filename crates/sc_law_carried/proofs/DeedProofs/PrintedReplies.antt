-- A request whose reply was printed was decided before, and what is asked later is decided later.
use Rattle.std.proofs.Common.{◌≡◌, ℕ, zero, suc, ◌+◌, ◌-◌, ◌<◌, ◌≤◌, List, [], ◌∷◌, ◌++◌, length, fold, Bool, true, false, cond, eqb, eq-eqb, refl, sym, ◌∙◌, ap, subst, arith, append_assoc, append-nil, None, Some, inl, inr}
use Rattle.std.specs.Prelude.{slice_get, slice_index}
use Rattle.std.specs.List.{list_any}
use Rattle.std.proofs.lemmas.Bool.{cases_lt, ne_eqb}
use Rattle.std.proofs.lemmas.Option.{same_Some}
use Rattle.std.proofs.lemmas.List.Sums.{fold-append}
use Rattle.sc_base.specs.Definitions.{Among, client_actor}
use Rattle.sc_node_table.specs.Values.{Mail, OrderLine, Reply, Route, Node, Client}
use Rattle.sc_node_table.specs.NodeDefinitions.{slots_ahead}
use Rattle.sc_actor.specs.System.{no_words}
use Rattle.sc_actor.specs.declared.rows.Event.TheVariants.{Again}
use Rattle.sc_actor.specs.declared.rows.Input.TheVariants.{Got}
use Rattle.sc_actor.specs.Definitions.{copies, network, value}
use Rattle.sc_actor.proofs.Lemmas.{get_left, lawful-prefix}
use Rattle.sc_client_table.specs.table.TableDefinitions.{Client as ClientState}
use Rattle.sc_client_table.proofs.TableProofs.TurnLemmas.{sends_in_turn}
use Rattle.sc_words.specs.ideal.IdealDefinitions.{HasEntry}
use Rattle.sc_meaning.specs.sound.SoundDefinitions.{Ahead, Lawful, Player, is_accepted, IsSound, client_seat, history_at, issue_row, issued_from, issues, kept_replies, kept_reply, player_table, replies_of, route_of, schedule, system_of}
use Rattle.sc_scenario.specs.declared.scenario.scenarios.Asks.{Asks}
use Rattle.sc_scenario.specs.declared.scenario.scenarios.Scenario.{Scenario}
use Rattle.sc_law_entries.specs.logs.LogDefinitions.{Rows}
use Rattle.sc_law_entries.proofs.LogsProofs.LogLemmas.{among_place}
use Rattle.sc_law_entries.proofs.LogsProofs.Times.{one_place}
use Rattle.sc_law_groups.specs.whole.WholeDefinitions.{IsWellFormed}
use Rattle.sc_law_groups.proofs.WholeProofs.WholeLemmas.{well_formed_journals_are_sound}
use Rattle.sc_law_carried.specs.reading.ReadingDefinitions.{with_lines_of}
use Rattle.sc_law_carried.specs.deeds.DeedDefinitions.{Came, Deed, actor_after, client_now, deed_row, repeat_before, with_deed, rows_of, IsCarried, AreCarriedAfter, AreCarried, input_got, IsPrinted, PrintedRepliesAreDecided, PrintedRepliesComeFirst}
use Rattle.sc_law_carried.proofs.ReadingProofs.FormedScenarios.{read_scenarios_are_formed}
use Rattle.sc_law_carried.proofs.DeedProofs.RowsFollowDeeds.{actor_after-snoc, rows_of-snoc}
use Rattle.sc_law_carried.proofs.DeedProofs.CarriedDeeds.{carried_hold}
use Rattle.sc_law_carried.proofs.DeedProofs.MuteRows.{IsMute, mute_adds_nothing, stays}

-- ---- deeds

-- one carried deed more
carried_snoc : (ahead : Ahead) (scenario : Scenario) (before deeds : List (Deed Mail OrderLine)) (deed : Deed Mail OrderLine) → AreCarriedAfter ahead scenario before deeds → IsCarried ahead scenario (before ++ deeds) deed → AreCarriedAfter ahead scenario before (deeds ++ deed ∷ [])
carried_snoc ahead scenario before [] deed all one = (subst (λ ds. IsCarried ahead scenario ds deed) (append-nil before) one, tt)
carried_snoc ahead scenario before (d ∷ deeds) deed all one =
    (all.0, carried_snoc ahead scenario (before ++ d ∷ []) deeds deed all.1 (subst (λ ds. IsCarried ahead scenario ds deed) (sym (append_assoc before (d ∷ []) deeds)) one))

-- the first of carried deeds
carried_first : (ahead : Ahead) (scenario : Scenario) (before deeds later : List (Deed Mail OrderLine)) → AreCarriedAfter ahead scenario before (deeds ++ later) → AreCarriedAfter ahead scenario before deeds
carried_first ahead scenario before [] later all = tt
carried_first ahead scenario before (d ∷ deeds) later all = (all.0, carried_first ahead scenario (before ++ d ∷ []) deeds later all.1)

-- the rows of more deeds begin with those of the first
rows_begin : (rows : Rows) (deeds : List (Deed Mail OrderLine)) → (more : Rows) × (fold with_deed rows deeds ≡ rows ++ more)
rows_begin rows [] = ([], sym (append-nil rows))
rows_begin rows (deed ∷ deeds) =
    let rest = rows_begin (with_deed rows deed) deeds in (
      repeat_before rows deed.input ++ (deed_row deed ∷ [] ++ rest.0),
      rest.1 ∙ (append_assoc (rows ++ repeat_before rows deed.input) (deed_row deed ∷ []) rest.0 ∙ append_assoc rows (repeat_before rows deed.input) (deed_row deed ∷ [] ++ rest.0)),
    )

-- ---- what is closed at once

-- a client's step sends no vote
client_mute : (client : ClientState) (mail : Mail) → IsMute (player_table (Client client) (Got mail)).1
client_mute client mail group ballot slot =
    elim (sends_in_turn client (Got mail)).sends [
      | inl none ↦ ap (list_any (λ m. is_accepted group ballot slot m.body)) none
      | inr one ↦ ap (list_any (λ m. is_accepted group ballot slot m.body)) one.4
    ]

-- whether a player is a client
abbrev IsClient : Player → Type 0
IsClient (Client client) = Unit {0}
IsClient (Node node) = ⊥

-- a client stays one
client_stays : (first : Route) (asks : Asks) (deeds : List (Deed Mail OrderLine)) → IsClient (actor_after player_table (client_seat first asks) deeds)
client_stays first asks deeds = by (client_seat first asks).actor deeds tt
  where
    step : (actor : Player) (deed : Deed Mail OrderLine) (b : Bool) → IsClient actor → IsClient (cond b (player_table actor (input_got deed.input)).0 actor)
    step (Client client) deed true c = tt
    step (Client client) deed false c = tt
    step (Node node) deed b c = absurd c

    by : (actor : Player) (deeds : List (Deed Mail OrderLine)) → IsClient actor → IsClient (fold (λ a d. cond (eqb d.who (client_actor asks.client)) (player_table a (input_got d.input)).0 a) actor deeds)
    by actor [] c = c
    by actor (deed ∷ deeds) c = by (cond (eqb deed.who (client_actor asks.client)) (player_table actor (input_got deed.input)).0 actor) deeds (step actor deed (eqb deed.who (client_actor asks.client)) c)

mute_of : (player : Player) (mail : Mail) → IsClient player → IsMute (player_table player (Got mail)).1
mute_of (Client client) mail c = client_mute client mail
mute_of (Node node) mail c = absurd c

last_of : {X : Type 0} (xs : List X) (x : X) → slice_get (xs ++ x ∷ []) (length xs + 1 - 1) ≡ Some x
last_of {X} xs x = let at : length xs + 1 - 1 ≡ length xs = omega arith in ap (slice_get (xs ++ x ∷ [])) at ∙ by xs
  where
    by : (ys : List X) → slice_get (ys ++ x ∷ []) (length ys) ≡ Some x
    by [] = refl
    by (y ∷ ys) = by ys

get_within : {X : Type 0} (xs : List X) (k : ℕ) (x : X) → slice_get xs k ≡ Some x → k < length xs
get_within [] k x e = cc
get_within (y ∷ xs) zero x e = omega arith
get_within (y ∷ xs) (suc k) x e = let more = get_within xs k x e in omega (arith, more)

get_among : {X : Type 0} (xs : List X) (k : ℕ) (x : X) → slice_get xs k ≡ Some x → Among x xs
get_among [] k x e = cc
get_among (y ∷ xs) zero x e = let same : y ≡ x = cc in inl same
get_among (y ∷ xs) (suc k) x e = inr (get_among xs k x e)

-- what stands early in a list stands in its prefix
get_first : {X : Type 0} (xs ys : List X) (k : ℕ) (x : X) → k < length xs → slice_get (xs ++ ys) k ≡ Some x → slice_get xs k ≡ Some x
get_first [] ys k x low e = absurd (omega (arith, low))
get_first (z ∷ xs) ys zero x low e = e
get_first (z ∷ xs) ys (suc k) x low e = get_first xs ys k x (omega (arith, low)) e

module _ (ahead : Ahead) (slots : ahead.slots ≡ slots_ahead) (scenario : Scenario) (formed : IsWellFormed scenario) (deeds : List (Deed Mail OrderLine)) (carried : AreCarried ahead scenario deeds) (asks : Asks) (came : Came Mail) (seq : ℕ) (reply : Reply) (printed : IsPrinted ahead scenario deeds asks came seq reply) where
  -- the step that is held back, closed at once
  abbrev closed : Deed Mail OrderLine
  closed = record { who = client_actor asks.client; input = Got came; sent = (player_table (client_now printed.first asks deeds) (Got came.mail)).1 }

  all_carried : AreCarried ahead scenario (deeds ++ closed ∷ [])
  all_carried = carried_snoc ahead scenario [] deeds closed carried (record { seat = client_seat (route_of printed.first) asks; born = printed.born; may = printed.may; sent_is = refl })

  abbrev rows : Rows
  rows = rows_of deeds

  abbrev middle : Rows
  middle = rows ++ repeat_before rows (Got came)

  abbrev whole : Rows
  whole = middle ++ deed_row closed ∷ []

  abbrev run : Scenario
  run = with_lines_of scenario (rows_of (deeds ++ closed ∷ []))

  whole_is : rows_of (deeds ++ closed ∷ []) ≡ whole
  whole_is = rows_of-snoc deeds closed

  lawful : Lawful ahead no_words run whole
  lawful = subst (Lawful ahead no_words run) whole_is (carried_hold ahead no_words scenario (deeds ++ closed ∷ []) all_carried).lawful

  run_formed : IsWellFormed run
  run_formed = read_scenarios_are_formed.lines scenario (rows_of (deeds ++ closed ∷ [])) formed

  middle_lawful : Lawful ahead no_words run middle
  middle_lawful = lawful-prefix (system_of ahead no_words run) (schedule run) middle (deed_row closed ∷ []) lawful

  -- neither the repeat nor the client's row decides anything
  no_longer : length (history_at ahead scenario.groups whole) ≤ length (history_at ahead scenario.groups rows)
  no_longer =
      let last = mute_adds_nothing ahead slots no_words run run_formed middle (deed_row closed) (mute_of (client_now printed.first asks deeds) came.mail (client_stays (route_of printed.first) asks deeds)) lawful in
      let again = by (eqb (slice_index (copies rows) (came.number - 1)) 0) middle_lawful in
      omega (arith, last, again)
    where
      by : (b : Bool) → Lawful ahead no_words run (rows ++ cond b (network (Again came.number) ∷ []) []) → length (history_at ahead scenario.groups (rows ++ cond b (network (Again came.number) ∷ []) [])) ≤ length (history_at ahead scenario.groups rows)
      by true l = mute_adds_nothing ahead slots no_words run run_formed rows (network (Again came.number)) (λ group ballot slot. refl) l
      by false l = let same = ap (λ rs. length (history_at ahead scenario.groups rs)) (append-nil rows) in omega (arith, same)

  -- the client keeps the reply after the closed step
  keeps : kept_reply (route_of printed.first) asks seq whole ≡ Some reply
  keeps =
      let seat = client_seat (route_of printed.first) asks in
      let value_is : value player_table seat whole ≡ (player_table (client_now printed.first asks deeds) (Got came.mail)).0 =
      ap (value player_table seat) (sym whole_is)
      ∙ ((carried_hold ahead no_words scenario (deeds ++ closed ∷ []) all_carried).follows.values_are seat
      ∙ (actor_after-snoc player_table seat deeds closed
      ∙ ap (λ b. cond b (player_table (client_now printed.first asks deeds) (Got came.mail)).0 (client_now printed.first asks deeds)) (eq-eqb (client_actor asks.client) (client_actor asks.client) refl))) in
      let replies : kept_replies (route_of printed.first) asks whole ≡ replies_of (client_now printed.first asks deeds) ++ reply ∷ [] = ap replies_of value_is ∙ printed.takes in
      let some : eqb seq 0 ≡ false = ne_eqb seq 0 (λ z. absurd (omega (arith, z, printed.number))) in
      ap (λ b. cond b None (slice_get (kept_replies (route_of printed.first) asks whole) (seq - 1))) some
      ∙ (ap (λ xs. slice_get xs (seq - 1)) replies
      ∙ (ap (λ n. slice_get (replies_of (client_now printed.first asks deeds) ++ reply ∷ []) (n - 1)) printed.number
      ∙ last_of (replies_of (client_now printed.first asks deeds)) reply))

  sound : IsSound ahead run whole []
  sound = well_formed_journals_are_sound ahead slots no_words run run_formed whole lawful whole [] (sym (append-nil whole))

  -- so its request is in the history of the rows before
  pub decided_before : HasEntry (history_at ahead scenario.groups rows) asks.client seq reply
  decided_before =
      let has = sound.answers.kept printed.first printed.others printed.groups asks printed.among seq reply keeps in
      let place = among_place (history_at ahead scenario.groups whole) has.entry has.stands in
      let more = repeat_before rows (Got came) ++ deed_row closed ∷ [] in
      let split : whole ≡ rows ++ more = append_assoc rows (repeat_before rows (Got came)) (deed_row closed ∷ []) in
      let stay = stays ahead slots no_words run run_formed rows more (subst (Lawful ahead no_words run) split lawful) in
      let history : history_at ahead scenario.groups whole ≡ history_at ahead scenario.groups rows ++ stay.history.0 = ap (history_at ahead scenario.groups) split ∙ stay.history.1 in
      let low = get_within (history_at ahead scenario.groups whole) place.0 has.entry place.1 in
      let there = get_first (history_at ahead scenario.groups rows) stay.history.0 place.0 has.entry (omega (arith, low, no_longer)) (subst (λ xs. slice_get xs place.0 ≡ Some has.entry) history place.1) in
      record {
        entry = has.entry;
        stands = get_among (history_at ahead scenario.groups rows) place.0 has.entry there;
        client_is = has.client_is;
        seq_is = has.seq_is;
        reply_is = has.reply_is;
      }

pub printed_are_decided : PrintedRepliesAreDecided
printed_are_decided ahead slots scenario formed deeds carried asks came seq reply printed = decided_before ahead slots scenario formed deeds carried asks came seq reply printed

-- ---- issues

-- a request that is issued in the first rows is issued in one of them, whatever comes behind
issued_first : (client seq before issued : ℕ) (rows more : Rows) → issued_from client seq before rows ≡ Some issued → (issued_from client seq before (rows ++ more) ≡ Some issued) × (issued ≤ before + length rows)
issued_first client seq before issued [] more e = cc
issued_first client seq before issued (row ∷ rows) more e = by (issues client seq row) refl e (issued_first client seq (before + 1) issued rows more)
  where
    by : (b : Bool) → issues client seq row ≡ b → cond b (Some (before + 1)) (issued_from client seq (before + 1) rows) ≡ Some issued
        → (issued_from client seq (before + 1) rows ≡ Some issued → (issued_from client seq (before + 1) (rows ++ more) ≡ Some issued) × (issued ≤ before + 1 + length rows))
        → (cond (issues client seq row) (Some (before + 1)) (issued_from client seq (before + 1) (rows ++ more)) ≡ Some issued) × (issued ≤ before + length (row ∷ rows))
    by true is e later =
        let same : before + 1 ≡ issued = cc in
        (ap (λ b. cond b (Some (before + 1)) (issued_from client seq (before + 1) (rows ++ more))) is ∙ e, omega (arith, same))
    by false is e later =
        let rest = later e in
        (ap (λ b. cond b (Some (before + 1)) (issued_from client seq (before + 1) (rows ++ more))) is ∙ rest.0, omega (arith, rest.1))

pub printed_come_first : PrintedRepliesComeFirst
printed_come_first ahead slots scenario formed deeds later carried asks came seq reply printed place other issued entry another at client_is seq_is there issue behind =
    let first = carried_first ahead scenario [] deeds later carried in
    let has = decided_before ahead slots scenario formed deeds first asks came seq reply printed in
    let rows : Rows = rows_of deeds in
    let all : Rows = rows_of (deeds ++ later) in
    let more = rows_begin rows later in
    let all_is : all ≡ rows ++ more.0 = fold-append with_deed [] deeds later ∙ more.1 in
    let run = with_lines_of scenario all in
    let run_formed = read_scenarios_are_formed.lines scenario all formed in
    let lawful : Lawful ahead no_words run all = (carried_hold ahead no_words scenario (deeds ++ later) carried).lawful in
    let lawful_parts : Lawful ahead no_words run (rows ++ more.0) = subst (Lawful ahead no_words run) all_is lawful in
    let stay = stays ahead slots no_words run run_formed rows more.0 lawful_parts in
    let history : history_at ahead scenario.groups all ≡ history_at ahead scenario.groups rows ++ stay.history.0 = ap (history_at ahead scenario.groups) all_is ∙ stay.history.1 in
    let sound : IsSound ahead run all [] = well_formed_journals_are_sound ahead slots no_words run run_formed all lawful all [] (sym (append-nil all)) in
    let sound_first : IsSound ahead run rows more.0 = well_formed_journals_are_sound ahead slots no_words run run_formed all lawful rows more.0 all_is in
    let early = among_place (history_at ahead scenario.groups rows) has.entry has.stands in
    let early_low = get_within (history_at ahead scenario.groups rows) early.0 has.entry early.1 in
    let early_there : slice_get (history_at ahead scenario.groups all) early.0 ≡ Some has.entry = subst (λ xs. slice_get xs early.0 ≡ Some has.entry) (sym history) (get_left (history_at ahead scenario.groups rows) stay.history.0 early.0 has.entry early.1) in
    let same_place : place ≡ early.0 = one_place (history_at ahead scenario.groups all) sound.whole.legal.once place early.0 entry has.entry at early_there (client_is ∙ sym has.client_is) (seq_is ∙ sym has.seq_is) in
    elim (cases_lt other (length (history_at ahead scenario.groups rows))) [
      | inr late ↦ omega (arith, late, same_place, early_low)
      | inl soon ↦ (
          let here = get_first (history_at ahead scenario.groups rows) stay.history.0 other another soon (subst (λ xs. slice_get xs other ≡ Some another) history there) in
          let timely = sound_first.timely other another here in
          let again = issued_first another.client another.seq 0 timely.issued rows more.0 timely.is_issued in
          let whole_issue : issue_row another.client another.seq all ≡ Some timely.issued = ap (issue_row another.client another.seq) all_is ∙ again.0 in
          let same : issued ≡ timely.issued = same_Some issued timely.issued (sym issue ∙ whole_issue) in
          absurd (omega (arith, again.1, same, behind)))
    ]
