-- What one delivery of a journal without orders does to the actors, to what is pending and to who has crashed.
use Rattle.std.proofs.Common.{◌≡◌, ℕ, zero, suc, not, eqb, Bool, true, false, true≢false, cond, List, [], ◌∷◌, ◌++◌, filter, map, find, replicate, Option, Some, inl, inr, refl, sym, ◌∙◌, ap, subst, arith}
use Rattle.std.specs.List.{list_any}
use Rattle.std.specs.Option.{option_map}
use Rattle.std.proofs.lemmas.Bool.{cond_both, cond-true, cond-false, eqb-true, eq-eqb, ne_eqb, and_parts, and_from, or_left, or_right}
use Rattle.sc_base.specs.Definitions.{Among, Each}
use Rattle.sc_node_table.specs.Values.{Seat, Row, Event, Deliver, Input, Got, Base, OrderLine, Mail}
use Rattle.sc_actor.specs.Definitions.{mails, acted, input_of, value, may_get, has_crashed, is_crash, numbers_of, copies, System}
use Rattle.sc_actor.proofs.Lemmas.{value-snoc}
use Rattle.sc_node_table.specs.NodeDefinitions.{numbers_from}
use Rattle.sc_words.proofs.PaxosProofs.PaxosLemmas.{Each-among, Each-append, Each-filter, Each-from_All, Among-filter, find_found}
use Rattle.sc_paxos_law.proofs.Lemmas.{Among-left, Among-right, member-among}
use Rattle.sc_scenario.specs.declared.scenario.scenarios.Scenario.{Scenario}
use Rattle.sc_scenario.specs.scenario.Definitions.{IsBounded, IsUpTo}
use Rattle.sc_meaning.specs.sound.SoundDefinitions.{Player, as_nodes, births, client_seats, node_seat, player_table, system_of}
use Rattle.sc_live_orderly.specs.OrderlyDefinitions.{pending_mail, mail_with, TakesLowest}
use Rattle.sc_live_plain.proofs.PlainLemmas.{some_is}
use Rattle.sc_live_plain.proofs.PlainProofs.PlainSteps.{to_numbers}
use Rattle.sc_live_healed.proofs.FixedWalks.{IsMember}
use Rattle.sc_live_healed.proofs.FixedJournals.{Rows, IsOf}
use Rattle.sc_live_orderly.proofs.PendingMail.{crashed_same as one_crashed}
use Rattle.sc_law_groups.proofs.WholeProofs.WholeLemmas.{group_place}

-- ---- mail with copies

copied_each : {X : Type 0} (P : X → Type 0) (n : ℕ) (x : X) → P x → Each P (replicate n x)
copied_each P zero x p = tt
copied_each P (suc n) x p = (p, copied_each P n x p)

with_each : {M : Type 0} (P : M → Type 0) (test : M → Bool) (sent : List M) (counts : List ℕ) → Each P sent → Each P (mail_with test sent counts)
with_each P test [] counts k = tt
with_each P test (m ∷ sent) [] k = tt
with_each P test (m ∷ sent) (c ∷ counts) k =
    Each-append P (cond (test m) (replicate c m) []) (mail_with test sent counts) (cond_both (test m) (replicate c m) [] (Each P) (λ _. copied_each P c m k.0) (λ _. tt)) (with_each P test sent counts k.1)

with_test : {M : Type 0} (test : M → Bool) (sent : List M) (counts : List ℕ) → Each (λ m. test m ≡ true) (mail_with test sent counts)
with_test test [] counts = tt
with_test test (m ∷ sent) [] = tt
with_test test (m ∷ sent) (c ∷ counts) =
    Each-append (λ x. test x ≡ true) (cond (test m) (replicate c m) []) (mail_with test sent counts) (cond_both (test m) (replicate c m) [] (Each (λ x. test x ≡ true)) (λ t. copied_each (λ x. test x ≡ true) c m t) (λ _. tt)) (with_test test sent counts)

-- ---- who is born

seat_gets : (seats : List (Seat Player)) (seat : Seat Player) → Among seat seats → list_any (λ actor. eqb actor seat.who) (numbers_of seats) ≡ true
seat_gets [] seat a = absurd a
seat_gets (x ∷ seats) seat (inl same) = or_left (eqb x.who seat.who) (list_any (λ actor. eqb actor seat.who) (numbers_of seats)) (eq-eqb x.who seat.who (ap (λ (s : Seat Player). s.who) same))
seat_gets (x ∷ seats) seat (inr a) = or_right (eqb x.who seat.who) (list_any (λ actor. eqb actor seat.who) (numbers_of seats)) (seat_gets seats seat a)

module _ (words : ℕ → ℕ → ℕ × ℕ) (scenario : Scenario) (bounded : IsBounded scenario) where
  abbrev pub S : System Player Mail OrderLine
  S = system_of as_nodes words scenario

  abbrev pub pending : Rows → List Mail
  pending rows = pending_mail S rows

  abbrev pub Gets : Rows → ℕ → Type 0
  Gets rows who = may_get (numbers_of S.births) rows who ≡ true

  -- a born actor that has not crashed may get mail
  pub born_gets : (rows : Rows) (seat : Seat Player) → Among seat (births as_nodes scenario) → has_crashed rows seat.who ≡ false → Gets rows seat.who
  born_gets rows seat a lives = and_from (list_any (λ actor. eqb actor seat.who) (numbers_of S.births)) (not (has_crashed rows seat.who)) (seat_gets (births as_nodes scenario) seat a) (ap not lives)

  numbered_among : (numbers : List ℕ) (node : ℕ) → Among node numbers → Among (node_seat as_nodes scenario.groups scenario.policy node) (map (node_seat as_nodes scenario.groups scenario.policy) numbers)
  numbered_among [] node a = absurd a
  numbered_among (n ∷ numbers) node (inl same) = inl (ap (node_seat as_nodes scenario.groups scenario.policy) same)
  numbered_among (n ∷ numbers) node (inr a) = inr (numbered_among numbers node a)

  -- the members of a group are nodes of the scenario
  member_up : (base : Base) → Among base scenario.groups → (node : ℕ) → IsMember base node → IsUpTo scenario.nodes node
  member_up base a node m =
      let p = group_place scenario bounded base a in
      subst (λ (b : Base). IsMember b node → IsUpTo scenario.nodes node) p.2
      (λ fact. (let line = bounded.each p.0 (record { lo = 0; members = [] }) p.1 in Each-among (IsUpTo scenario.nodes) _ node (Each-from_All (IsUpTo scenario.nodes) _ line.members_in) (member-among _ node fact))) m

  pub member_gets : (rows : Rows) (base : Base) → Among base scenario.groups → (node : ℕ) → IsMember base node → has_crashed rows node ≡ false → Gets rows node
  member_gets rows base a node m lives =
      let up = member_up base a node m in
      let least = up.0 in
      let most = up.1 in
      let seats = map (node_seat as_nodes scenario.groups scenario.policy) (numbers_from 1 scenario.nodes) in
      born_gets rows (node_seat as_nodes scenario.groups scenario.policy node) (Among-left _ seats (client_seats scenario.groups scenario.clients) (numbered_among (numbers_from 1 scenario.nodes) node (to_numbers 1 scenario.nodes node least (omega (arith, most))))) lives

  -- ---- what is pending

  pub pending_each : (P : Mail → Type 0) (rows : Rows) → Each P (mails rows) → Each P (pending rows)
  pending_each P rows k = with_each P (λ mail. may_get (numbers_of S.births) rows mail.to) (mails rows) (copies rows) k

  pub pending_gets : (rows : Rows) → Each (λ (mail : Mail). Gets rows mail.to) (pending rows)
  pending_gets rows = with_test (λ (mail : Mail). may_get (numbers_of S.births) rows mail.to) (mails rows) (copies rows)

  -- ---- one delivery

  module _ (rows : Rows) (row : Row Mail OrderLine) (t : TakesLowest S rows row) where
    pub receiver_is : t.seat.who ≡ t.mail.to
    receiver_is = eqb-true t.seat.who t.mail.to (find_found (λ (other : Seat Player). eqb other.who t.mail.to) (births as_nodes scenario) t.seat t.born).1

    pub receiver_of : IsOf scenario t.seat
    receiver_of = subst (λ (who : ℕ). find (λ (other : Seat Player). eqb other.who who) (births as_nodes scenario) ≡ Some t.seat) (sym receiver_is) t.born

    -- an actor by its number
    pub same_seat : (other : Seat Player) → IsOf scenario other → t.seat.who ≡ other.who → t.seat ≡ other
    same_seat other of e = some_is (sym receiver_of ∙ ap (λ (who : ℕ). find (λ (x : Seat Player). eqb x.who who) (births as_nodes scenario)) e ∙ of)

    row_who : row.who ≡ t.seat.who
    row_who = ap (λ (r : Row Mail OrderLine). r.who) t.row_is

    event_is : row.event ≡ Deliver t.number
    event_is = ap (λ (r : Row Mail OrderLine). r.event) t.row_is

    input_is : input_of (mails rows) row.event ≡ Some (Got t.mail)
    input_is = ap (λ (e : Event OrderLine). input_of (mails rows) e) event_is ∙ ap (option_map Got) t.sent

    pub sent_is : row.sent ≡ (player_table (value player_table t.seat rows) (Got t.mail)).1
    sent_is = ap (λ (r : Row Mail OrderLine). r.sent) t.row_is ∙ ap (λ (o : Option (Input Mail OrderLine)). (acted player_table (value player_table t.seat rows) o).1) (sym (ap (λ (e : Event OrderLine). input_of (mails rows) e) event_is) ∙ input_is)

    pub value_own : (other : Seat Player) → t.seat.who ≡ other.who → value player_table other (rows ++ row ∷ []) ≡ (player_table (value player_table other rows) (Got t.mail)).0
    value_own other same =
        value-snoc player_table other rows row
        ∙ cond-true (eqb row.who other.who) (acted player_table (value player_table other rows) (input_of (mails rows) row.event)).0 (value player_table other rows) (eq-eqb row.who other.who (row_who ∙ same))
        ∙ ap (λ (o : Option (Input Mail OrderLine)). (acted player_table (value player_table other rows) o).0) input_is

    pub value_other : (other : Seat Player) → (t.seat.who ≡ other.who → ⊥) → value player_table other (rows ++ row ∷ []) ≡ value player_table other rows
    value_other other apart =
        value-snoc player_table other rows row
        ∙ cond-false (eqb row.who other.who) (acted player_table (value player_table other rows) (input_of (mails rows) row.event)).0 (value player_table other rows) (ne_eqb row.who other.who (λ e. apart (sym row_who ∙ e)))

    pub crashed_same : (who : ℕ) → has_crashed (rows ++ row ∷ []) who ≡ has_crashed rows who
    crashed_same who = one_crashed rows row (ap (λ (e : Event OrderLine). is_crash e) event_is) who

    pub rest_stays : (x : Mail) → Among x t.others → Among x (pending (rows ++ row ∷ []))
    rest_stays x a = subst (Among x) (sym t.then_) (Among-left x t.others (filter (λ (m : Mail). may_get (numbers_of S.births) rows m.to) row.sent) a)

    pub sent_stays : (x : Mail) → Among x row.sent → Gets rows x.to → Among x (pending (rows ++ row ∷ []))
    sent_stays x a gets =
        subst (Among x) (sym t.then_) (Among-right x t.others (filter (λ (m : Mail). may_get (numbers_of S.births) rows m.to) row.sent) (Among-filter (λ (m : Mail). may_get (numbers_of S.births) rows m.to) row.sent x a gets))

    pub pending_then : (P : Mail → Type 0) → Each P t.others → Each P row.sent → Each P (pending (rows ++ row ∷ []))
    pending_then P k s = subst (Each P) (sym t.then_) (Each-append P t.others (filter (λ (m : Mail). may_get (numbers_of S.births) rows m.to) row.sent) k (Each-filter P (λ (m : Mail). may_get (numbers_of S.births) rows m.to) row.sent s))

    pub pending_first : (P : Mail → Type 0) → Each P (pending rows) → P t.mail × Each P t.others
    pending_first P k = subst (Each P) t.first k

    pub receiver_gets : Gets rows t.seat.who
    receiver_gets = subst (Gets rows) (sym receiver_is) (pending_first (λ (mail : Mail). Gets rows mail.to) (pending_gets rows)).0

    pub receiver_lives : has_crashed rows t.seat.who ≡ false
    receiver_lives = by (has_crashed rows t.seat.who) (and_parts (list_any (λ actor. eqb actor t.seat.who) (numbers_of S.births)) (not (has_crashed rows t.seat.who)) receiver_gets).1
      where
        by : (b : Bool) → not b ≡ true → b ≡ false
        by true e = absurd (true≢false (sym e))
        by false e = refl
