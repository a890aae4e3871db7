-- The rows of carried deeds are steps, so they are lawful with the schedule that is read off them, and sound.
use Rattle.std.proofs.Common.{◌≡◌, ℕ, zero, suc, ◌-◌, List, [], ◌∷◌, ◌++◌, map, fold, Bool, true, false, cond, eqb, ◌||◌, not, find, Option, refl, sym, ◌∙◌, ap, subst, append_assoc, append-nil, None, Some, inl, inr}
use Rattle.std.specs.Prelude.{slice_index, filter}
use Rattle.std.specs.Option.{option_map}
use Rattle.std.specs.List.{list_any}
use Rattle.std.proofs.lemmas.Bool.{and_from, le-leb, lt-ltb}
use Rattle.std.proofs.lemmas.List.Elements.{filter-append}
use Rattle.sc_node_table.specs.Values.{OrderLine, Mail, Row, Event, Seat, Order}
use Rattle.sc_words.specs.declared.commands.orders.Order.TheVariants as An
use Rattle.sc_actor.specs.declared.rows.Event.TheVariants.{Again}
use Rattle.sc_actor.specs.declared.rows.Input.{Input}
use Rattle.sc_actor.specs.declared.rows.Input.TheVariants as an
use Rattle.sc_actor.specs.Definitions.{mails, copies, numbered, input_of, acted, may_get, numbers_of, System, row_of, value, network, has_crashed, has_started, IsStep, IsOpen}
use Rattle.sc_actor.proofs.Lemmas.{find-who}
use Rattle.sc_scenario.specs.scenario.Definitions.{IsUpTo, IsBoundedOrder}
use Rattle.sc_scenario.specs.declared.scenario.scenarios.Scenario.{Scenario}
use Rattle.sc_meaning.specs.sound.SoundDefinitions.{Ahead, Player, births, system_of, player_table}
use Rattle.sc_law_carried.specs.reading.ReadingDefinitions.{is_node, is_bounded_order, may_be_line, with_lines_of, IsLawfulRead}
use Rattle.sc_law_carried.specs.deeds.DeedDefinitions.{Came, Deed, input_got, event_of, deed_row, repeat_before, with_deed, rows_of, is_repeat, IsCarried, AreCarriedAfter, AreCarried, RowsAreDeeds, CarriedDeedsAreLawful, CarriedDeedsAreSound}
use Rattle.sc_law_carried.proofs.ReadingProofs.LawfulRows.{no_rows_are_lawful, steps_are_lawful}
use Rattle.sc_law_carried.proofs.DeedProofs.RowsFollowDeeds.{Follows, none_follow, repeat_follows, deed_follows, has_copy, rows_of-snoc}
use Rattle.sc_law_carried.proofs.ReadingProofs.FormedScenarios.{read_scenarios_are_formed}
use Rattle.sc_law_groups.proofs.WholeProofs.WholeLemmas.{well_formed_journals_are_sound}
use Rattle.sc_actor.specs.System.{no_words}

abbrev Rows : Type 0
Rows = List (Row Mail OrderLine)

abbrev made : ℕ → Event OrderLine → List Mail → Row Mail OrderLine
made who event sent = record { who = who; event = event; sent = sent }

abbrev came_as : ℕ → Mail → Came Mail
came_as number mail = record { number = number; mail = mail }

-- whether a row is no repeat
abbrev is_own : Row Mail OrderLine → Bool
is_own row = not (is_repeat row.event)

-- ---- what a carrier owes, as tests

node_test : (nodes who : ℕ) → IsUpTo nodes who → is_node nodes who ≡ true
node_test nodes who up = and_from _ _ (le-leb 1 who up.0) (le-leb who nodes up.1)

order_test : (nodes : ℕ) (order : Order) → IsBoundedOrder nodes order → is_bounded_order nodes order ≡ true
order_test nodes (An.Join node group) b = node_test nodes node b
order_test nodes (An.Leave node group) b = node_test nodes node b
order_test nodes (An.Split group at) b = lt-ltb at 4294967296 b
order_test nodes (An.Merge group) b = refl
order_test nodes (An.Repart group at) b = lt-ltb at 4294967296 b
order_test nodes (An.Migrate group node) b = node_test nodes node b

-- an actor that is found is one of the actors
found_any : (seats : List (Seat Player)) (who : ℕ) (seat : Seat Player) → find (λ other. eqb other.who who) seats ≡ Some seat → list_any (λ actor. eqb actor who) (numbers_of seats) ≡ true
found_any [] who seat e = cc
found_any (s ∷ seats) who seat e = by (eqb s.who who) refl e (found_any seats who seat)
  where
    by : (b : Bool) → eqb s.who who ≡ b → cond b (Some s) (find (λ other. eqb other.who who) seats) ≡ Some seat → (find (λ other. eqb other.who who) seats ≡ Some seat → list_any (λ actor. eqb actor who) (numbers_of seats) ≡ true) → (b || list_any (λ actor. eqb actor who) (numbers_of seats)) ≡ true
    by true t e more = refl
    by false f e more = more e

module _ (ahead : Ahead) (words : ℕ → ℕ → ℕ × ℕ) (scenario : Scenario) where
  abbrev s : System Player Mail OrderLine
  s = system_of ahead words scenario

  -- after these deeds their rows are lawful, and leave what the deeds leave
  pub record Holds (deeds : List (Deed Mail OrderLine)) : Type 0 where
    pub lawful : IsLawfulRead ahead words scenario (rows_of deeds)
    pub follows : Follows player_table deeds (rows_of deeds)

  module _ (deeds : List (Deed Mail OrderLine)) (holds : Holds deeds) where
    abbrev rows : Rows
    rows = rows_of deeds

    abbrev deed_of : ℕ → Input (Came Mail) OrderLine → List Mail → Deed Mail OrderLine
    deed_of who input sent = record { who = who; input = input; sent = sent }

    number : (deed : Deed Mail OrderLine) (carried : IsCarried ahead scenario deeds deed) → carried.seat.who ≡ deed.who
    number deed carried = find-who (births ahead scenario) deed.who carried.seat carried.born

    -- an actor of the scenario may get mail where it has not crashed
    may_get_in : (deed : Deed Mail OrderLine) → IsCarried ahead scenario deeds deed → (some_rows : Rows) → has_crashed some_rows deed.who ≡ false → may_get (numbers_of s.births) some_rows deed.who ≡ true
    may_get_in deed carried some_rows alive = and_from _ _ (found_any (births ahead scenario) deed.who carried.seat carried.born) (ap not alive)

    -- a deed more, where the rows before its own are lawful and leave what the deeds leave
    last : (deed : Deed Mail OrderLine) (carried : IsCarried ahead scenario deeds deed) (middle : Rows) → middle ≡ rows ++ repeat_before rows deed.input
        → Follows player_table deeds middle → IsLawfulRead ahead words scenario middle → input_of (mails middle) (event_of deed.input) ≡ Some (input_got deed.input)
        → IsOpen s middle carried.seat.who (event_of deed.input) → may_be_line scenario deed.who (event_of deed.input) ≡ true → Holds (deeds ++ deed ∷ [])
    last deed carried middle is follows lawful input open_ may =
        let sends : deed.sent ≡ (acted player_table (value player_table carried.seat middle) (input_of (mails middle) (event_of deed.input))).1 =
        carried.sent_is
        ∙ (ap (λ (actor : Player). (player_table actor (input_got deed.input)).1) (sym (follows.values_are carried.seat))
        ∙ ap (λ (i : Option (Input Mail OrderLine)). (acted player_table (value player_table carried.seat middle) i).1) (sym input)) in
        let row_is : deed_row deed ≡ row_of player_table carried.seat middle (event_of deed.input) =
        ap (λ (w : ℕ). made w (event_of deed.input) deed.sent) (sym (number deed carried)) ∙ ap (made carried.seat.who (event_of deed.input)) sends in
        let born : find (λ other. eqb other.who carried.seat.who) s.births ≡ Some carried.seat = subst (λ w. find (λ other. eqb other.who w) s.births ≡ Some carried.seat) (sym (number deed carried)) carried.born in
        let step : IsStep s middle (deed_row deed) = inl record { seat = carried.seat; born = born; event = event_of deed.input; row_is = row_is; open_ = open_ } in
        let whole : rows_of (deeds ++ deed ∷ []) ≡ middle ++ deed_row deed ∷ [] = rows_of-snoc deeds deed ∙ ap (λ rs. rs ++ deed_row deed ∷ []) (sym is) in
        record {
          lawful = subst (IsLawfulRead ahead words scenario) (sym whole) (steps_are_lawful ahead words scenario middle (deed_row deed) lawful step may);
          follows = subst (Follows player_table (deeds ++ deed ∷ [])) (sym whole) (deed_follows player_table deeds middle follows deed input);
        }

    -- the rows before a delivery, by whether its mail is repeated
    follows_by : (number : ℕ) (b : Bool) → Follows player_table deeds (rows ++ cond b (network (Again number) ∷ []) [])
    follows_by number true = repeat_follows player_table deeds rows holds.follows number
    follows_by number false = subst (Follows player_table deeds) (sym (append-nil rows)) holds.follows

    lawful_by : (number : ℕ) (mail : Mail) (b : Bool) → numbered (mails rows) number ≡ Some mail → may_get (numbers_of s.births) rows mail.to ≡ true → IsLawfulRead ahead words scenario (rows ++ cond b (network (Again number) ∷ []) [])
    lawful_by number mail true at may = steps_are_lawful ahead words scenario rows (network (Again number)) holds.lawful (inr record { event = Again number; row_is = refl; loose = (mail, at, may) }) refl
    lawful_by number mail false at may = subst (IsLawfulRead ahead words scenario) (sym (append-nil rows)) holds.lawful

    -- a delivery
    got : (who place : ℕ) (mail : Mail) (sent : List Mail) → IsCarried ahead scenario deeds (deed_of who (an.Got (came_as (suc place) mail)) sent) → Holds (deeds ++ deed_of who (an.Got (came_as (suc place) mail)) sent ∷ [])
    got who place mail sent carried =
        let deed = deed_of who (an.Got (came_as (suc place) mail)) sent in
        let to_who : mail.to ≡ who = carried.may.0 in
        let at : numbered (mails rows) (suc place) ≡ Some mail = ap (λ ms. numbered ms (suc place)) holds.follows.mails_are ∙ carried.may.1 in
        let lacks = eqb (slice_index (copies rows) (suc place - 1)) 0 in
        let middle : Rows = rows ++ cond lacks (network (Again (suc place)) ∷ []) [] in
        let follows : Follows player_table deeds middle = follows_by (suc place) lacks in
        let may : may_get (numbers_of s.births) rows mail.to ≡ true = subst (λ w. may_get (numbers_of s.births) rows w ≡ true) (sym to_who) (may_get_in deed carried rows (holds.follows.alive who)) in
        let may_now : may_get (numbers_of s.births) middle mail.to ≡ true = subst (λ w. may_get (numbers_of s.births) middle w ≡ true) (sym to_who) (may_get_in deed carried middle (follows.alive who)) in
        let there : numbered (mails middle) (suc place) ≡ Some mail = ap (λ ms. numbered ms (suc place)) follows.mails_are ∙ carried.may.1 in
        last deed carried middle refl follows (lawful_by (suc place) mail lacks at may) (ap (option_map an.Got) there)
        (mail, record { sent = there; may = may_now; copy = has_copy rows place mail at }, to_who ∙ sym (number deed carried)) refl

    -- any deed
    by : (who : ℕ) (input : Input (Came Mail) OrderLine) (sent : List Mail) → IsCarried ahead scenario deeds (deed_of who input sent) → Holds (deeds ++ deed_of who input sent ∷ [])
    by who an.Tick sent carried = last (deed_of who an.Tick sent) carried rows (sym (append-nil rows)) holds.follows holds.lawful refl (holds.follows.alive carried.seat.who) refl
    by who an.Go sent carried =
        last (deed_of who an.Go sent) carried rows (sym (append-nil rows)) holds.follows holds.lawful refl
        (subst (λ w. has_started rows w ≡ false) (sym (number (deed_of who an.Go sent) carried)) (holds.follows.started who ∙ carried.may.1)) carried.may.0
    by who (an.Told line) sent carried =
        last (deed_of who (an.Told line) sent) carried rows (sym (append-nil rows)) holds.follows holds.lawful refl (holds.follows.alive carried.seat.who)
        (and_from _ _ (node_test scenario.nodes who carried.may.0) (and_from _ _ (order_test scenario.nodes line.order carried.may.1) (le-leb 1 line.number carried.may.2)))
    by who (an.Got came) sent carried = numbered_by came.number came.mail sent carried
      where
        numbered_by : (n : ℕ) (mail : Mail) (sent : List Mail) → IsCarried ahead scenario deeds (deed_of who (an.Got (came_as n mail)) sent) → Holds (deeds ++ deed_of who (an.Got (came_as n mail)) sent ∷ [])
        numbered_by zero mail sent carried = let bad : None ≡ Some mail = carried.may.1 in cc
        numbered_by (suc place) mail sent carried = got who place mail sent carried

  holds_after : (before deeds : List (Deed Mail OrderLine)) → Holds before → AreCarriedAfter ahead scenario before deeds → Holds (before ++ deeds)
  holds_after before [] holds carried = subst Holds (sym (append-nil before)) holds
  holds_after before (deed ∷ deeds) holds carried =
      subst Holds (append_assoc before (deed ∷ []) deeds) (holds_after (before ++ deed ∷ []) deeds (by before holds deed.who deed.input deed.sent carried.0) carried.1)

  -- carried deeds
  pub carried_hold : (deeds : List (Deed Mail OrderLine)) → AreCarried ahead scenario deeds → Holds deeds
  carried_hold deeds carried = holds_after [] deeds (record { lawful = no_rows_are_lawful ahead words scenario; follows = none_follow player_table }) carried

-- ---- the laws

pub carried_are_lawful : CarriedDeedsAreLawful
carried_are_lawful ahead words scenario deeds carried = (carried_hold ahead words scenario deeds carried).lawful

pub carried_are_sound : CarriedDeedsAreSound
carried_are_sound ahead slots scenario formed deeds carried =
    well_formed_journals_are_sound ahead slots no_words (with_lines_of scenario (rows_of deeds)) (read_scenarios_are_formed.lines scenario (rows_of deeds) formed) (rows_of deeds)
    (carried_are_lawful ahead no_words scenario deeds carried)

-- the rows of a deed without repeats are its own
own_row : (rows : Rows) (input : Input (Came Mail) OrderLine) (row : Row Mail OrderLine) → is_repeat row.event ≡ false → filter is_own (repeat_before rows input ++ row ∷ []) ≡ row ∷ []
own_row rows an.Tick row own = ap (λ b. cond (not b) (row ∷ []) []) own
own_row rows an.Go row own = ap (λ b. cond (not b) (row ∷ []) []) own
own_row rows (an.Told order) row own = ap (λ b. cond (not b) (row ∷ []) []) own
own_row rows (an.Got came) row own = repeated (eqb (slice_index (copies rows) (came.number - 1)) 0)
  where
    repeated : (b : Bool) → filter is_own (cond b (network (Again came.number) ∷ []) [] ++ row ∷ []) ≡ row ∷ []
    repeated true = ap (λ b. cond (not b) (row ∷ []) []) own
    repeated false = ap (λ b. cond (not b) (row ∷ []) []) own

event_is_own : (input : Input (Came Mail) OrderLine) → is_repeat {O = OrderLine} (event_of input) ≡ false
event_is_own an.Tick = refl
event_is_own an.Go = refl
event_is_own (an.Told order) = refl
event_is_own (an.Got came) = refl

rows_after : (rows : Rows) (deeds : List (Deed Mail OrderLine)) → filter is_own (fold with_deed rows deeds) ≡ filter is_own rows ++ map deed_row deeds
rows_after rows [] = sym (append-nil (filter is_own rows))
rows_after rows (deed ∷ deeds) =
    rows_after (with_deed rows deed) deeds
    ∙ (ap (λ xs. xs ++ map deed_row deeds) (ap (filter is_own) (append_assoc rows (repeat_before rows deed.input) (deed_row deed ∷ []))
    ∙ (filter-append is_own rows (repeat_before rows deed.input ++ deed_row deed ∷ []) ∙ ap (λ xs. filter is_own rows ++ xs) (own_row rows deed.input (deed_row deed) (event_is_own deed.input))))
    ∙ append_assoc (filter is_own rows) (deed_row deed ∷ []) (map deed_row deeds))

pub rows_are_deeds : RowsAreDeeds
rows_are_deeds deeds = rows_after [] deeds
