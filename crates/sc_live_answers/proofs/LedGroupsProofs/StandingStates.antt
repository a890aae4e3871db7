-- No state of a group that is gone is sent: nobody comes to it by the entry by which it goes.
use Rattle.sc_live_journals.proofs.GroupsProofs.PrefixesInTime.{prefix_in_time, kept_through}
use Rattle.std.proofs.Common.{◌≡◌, ℕ, zero, suc, ◌+◌, ◌-◌, eqb, true, false, true≢false, take, List, [], ◌∷◌, ◌++◌, inl, inr, sym, ◌∙◌, ap, subst, arith, append_assoc}
use Rattle.std.specs.Prelude.{is_some}
use Rattle.std.proofs.lemmas.Bool.{cases_Bool, cond_both}
use Rattle.sc_base.specs.Definitions.{Among, Each, is_member}
use Rattle.sc_node_table.specs.Values.{Ballot, Draw, Command, Base, OrderLine, Mail, Install, Seat, Event, Deliver, Row}
use Rattle.sc_actor.specs.Definitions.{mails, row_of}
use Rattle.sc_actor.proofs.Lemmas.{mails-snoc}
use Rattle.sc_live_orderly.specs.OrderlyDefinitions.{IsCalmEvent, AreInTime}
use Rattle.sc_words.proofs.PaxosProofs.PaxosLemmas.{Each-among, Each-append}
use Rattle.sc_group_table.specs.machine.MachineDefinitions.{group_of, state_after}
use Rattle.sc_scenario.specs.declared.scenario.scenarios.Scenario.{Scenario}
use Rattle.sc_meaning.specs.sound.SoundDefinitions.{decided_log, Player, births, as_nodes, player_table}
use Rattle.sc_live_steps.specs.calm.CalmDefinitions.{players, Rows}
use Rattle.sc_law_groups.proofs.GroupProofs.GroupLemmas.{number_among}
use Rattle.sc_live_steps.specs.following.FollowingDefinitions.{Mark, Teaches, Installs, Prepares, mark_of, Course, Sets, members_at, SlotLeaders, reported_of, taught_from, welcome, marks_for}
use Rattle.sc_live_steps.proofs.FollowingProofs.FollowingLemmas.{among-either, same_mark}
use Rattle.sc_live_journals.specs.rows.RowDefinitions.{with_event, IsSeat, led_course}
use Rattle.sc_live_journals.specs.logs.LogDefinitions.{logged_sets, IsGroupOf}
use Rattle.sc_live_journals.specs.groups.GroupDefinitions.{IsGroupRow, RowPasses, RowRests, RowTakes, RowMakes, RowLeads, RowElects, Ends, IsRowOf, Delivers, IsSentSo}
use Rattle.sc_live_journals.proofs.GroupsProofs.GroupLemmas.{each_among, among_marks}
use Rattle.sc_live_answers.specs.AnswerDefinitions.{over_at, slot_leaders_at, AreFew, LedRowsGoOn, StatesStand}
use Rattle.sc_live_answers.proofs.LedGroupsProofs.SlotLeaders.{answers_none, offers_none, tells_within, none_installs}
use Rattle.sc_live_answers.proofs.LedGroupsProofs.EndingCommands.{next_ends}

-- ---- the log

module _ (words : ℕ → ℕ → ℕ × ℕ) (scenario : Scenario) (journal : Rows) (base : Base) (group : IsGroupOf as_nodes words scenario journal base) where
  abbrev log : List Command
  log = decided_log as_nodes base journal

  abbrev members_after : ℕ → List ℕ
  members_after n = (state_after (group_of base) (take n log)).core.members

  at_is : (s n : ℕ) → s + 3 - 4 ≡ n → members_at (logged_sets as_nodes base journal) s ≡ members_after n
  at_is s n e = (let open_slots = group.open_slots in let same : s + 3 - as_nodes.slots ≡ n = omega (arith, e, open_slots) in ap members_after same)

  over_is : (s n : ℕ) → s - 1 ≡ n → over_at as_nodes base journal s ≡ is_some (state_after (group_of base) (take n log)).core.gone
  over_is s n e = ap (λ k. is_some (state_after (group_of base) (take k log)).core.gone) e

  -- nobody comes by the entry by which the group goes
  pub newcomers_none : (slot : ℕ) → over_at as_nodes base journal slot ≡ false → over_at as_nodes base journal (slot + 1) ≡ true → (who : ℕ) → is_member (members_at (logged_sets as_nodes base journal) (slot + 1)) who ≡ true → is_member (members_at (logged_sets as_nodes base journal) slot) who ≡ true
  newcomers_none zero stood gone who m = absurd (true≢false (sym gone ∙ (over_is (0 + 1) 0 (omega arith) ∙ (sym (over_is 0 0 (omega arith)) ∙ stood))))
  newcomers_none (suc n) stood gone who m =
      elim (next_ends log (group_of base) n (sym (over_is (suc n + 1) (suc n) (omega arith)) ∙ gone)) [
        | inl was ↦ absurd (true≢false (sym was ∙ (sym (over_is (suc n) n (omega arith)) ∙ stood)))
        | inr none ↦ subst (λ ms. is_member ms who ≡ true) (sym (at_is (suc n) n (omega arith))) (none who (subst (λ ms. is_member ms who ≡ true) (at_is (suc n + 1) (suc n) (omega arith)) m))
      ]

-- ---- who is sent a state

-- one that comes by the entry
abbrev ComesAt : Sets → ℕ → ℕ → Type 0
ComesAt at who slot = (is_member (members_at at slot) who ≡ false) × (is_member (members_at at (slot + 1)) who ≡ true)

welcomes_new : (at : Sets) (course : Course) (from who slot : ℕ) → Among (Installs slot) (reported_of at course from who) → ComesAt at who slot
welcomes_new at course from who slot =
    cond_both (eqb who course.ballot.node) [] _ P (λ _ a. absurd a)
    (λ _. cond_both (is_member (at (from + 3)) who) (Teaches from ∷ []) _ P (λ _ a. elim a [ inl e ↦ cc | inr n ↦ absurd n ])
    (λ before. cond_both (is_member (at (from + 1 + 3)) who) (welcome course from) [] P (λ after. comes (before, after)) (λ _ a. absurd a)))
  where
    P : List Mark → Type 0
    P l = Among (Installs slot) l → ComesAt at who slot

    same : Installs from ≡ Installs slot → from ≡ slot
    same e = cc

    comes : ComesAt at who from → Among (Installs slot) (welcome course from) → ComesAt at who slot
    comes k (inl e) = subst (ComesAt at who) (same e) k
    comes k (inr a) = absurd (none_installs course slot a)

tells_new : (at : Sets) (course : Course) (more from who slot : ℕ) → Among (Installs slot) (taught_from at course from more who) → ComesAt at who slot
tells_new at course zero from who slot a = absurd a
tells_new at course (suc more) from who slot a = elim (among-either (Installs slot) (reported_of at course from who) (taught_from at course (from + 1) more who) a) [
  | inl one ↦ welcomes_new at course from who slot one
  | inr later ↦ tells_new at course more (from + 1) who slot later
]

-- ---- the journal

module _ (go_on : LedRowsGoOn) (words : ℕ → ℕ → ℕ × ℕ) (scenario : Scenario) (journal prefix rest : Rows) (base : Base) (group : IsGroupOf as_nodes words scenario journal base) (timely : AreInTime (players words (births as_nodes scenario)) journal)
    (few : AreFew as_nodes scenario journal base) (split : journal ≡ prefix ++ rest) (so : IsSentSo (births as_nodes scenario) prefix base) where
  abbrev name : Draw
  name = base.core.id

  abbrev all : List (Seat Player)
  all = births as_nodes scenario

  abbrev at : Sets
  at = logged_sets as_nodes base journal

  abbrev over : Ends
  over = over_at as_nodes base journal

  abbrev by : SlotLeaders
  by = slot_leaders_at as_nodes scenario base journal

  -- a state in it is of the group while it stands
  abbrev IsStanding : Mail → Type 0
  IsStanding mail = (slot : ℕ) (state : Base) (sets : List (List ℕ)) → mail.body ≡ Install base.core.id slot state sets → over_at as_nodes base journal (slot + 1) ≡ false

  module _ (rows : Rows) (seat : Seat Player) (event : Event OrderLine) (course : Course) (mail : Mail) (a : Among mail (row_of player_table seat rows event).sent) (slot : ℕ) (state : Base) (sets : List (List ℕ)) (body : mail.body ≡ Install base.core.id slot state sets) where
    abbrev sent_marks : List Mark
    sent_marks = marks_for name mail.to (row_of player_table seat rows event).sent

    there : Among (Installs slot) sent_marks
    there = among_marks name (row_of player_table seat rows event).sent mail (Installs slot) a (ap (mark_of name mail.from) body ∙ same_mark name (Installs slot))

    none_sent : sent_marks ≡ [] → ⊥
    none_sent e = subst (Among (Installs slot)) e there

    no_state : (ballot : Ballot) → Among (Installs slot) (Prepares ballot ∷ []) → ⊥
    no_state ballot (inl i) = cc
    no_state ballot (inr i) = absurd i

    stands_row : (later : Course) → IsGroupRow at over by all rows seat event base course later → over (slot + 1) ≡ false
    stands_row later (RowPasses same leaves) = absurd (none_sent ((leaves.idle course).sends mail.to))
    stands_row later (RowRests same r after row_ off still idle) = absurd (none_sent (idle.sends mail.to))
    stands_row later (RowTakes same r after mark row_ taken steps takes) = absurd (answers_none seat.who _ takes.mark mail.to slot (subst (Among (Installs slot)) (takes.sends mail.to) there))
    stands_row later (RowMakes same from other state2 sets2 row_ taken logs takes) = absurd (answers_none seat.who _ takes.mark mail.to slot (subst (Among (Installs slot)) (takes.sends mail.to) there))
    stands_row later (RowElects r after ballot row_ off e same) = elim (e.self_election.sends mail.to) [
      | inl none ↦ absurd (none_sent none)
      | inr asks ↦ absurd (no_state ballot (subst (Among (Installs slot)) asks.1 there))
    ]
    stands_row later (RowLeads r after row_ runs counts l same) =
        elim (among-either (Installs slot) _ (l.led.leads.offers mail.to) (subst (Among (Installs slot)) (l.led.leads.sends mail.to) there)) [
          | inl reported ↦ (let high = (tells_within at course l.led.leads.executed course.newest mail.to slot reported).1 in
              let up = l.led.leads.newest in
              let new = tells_new at course l.led.leads.executed course.newest mail.to slot reported in
              elim (cases_Bool (over (slot + 1))) [
                | inr stands ↦ stands
                | inl gone ↦ elim (cases_Bool (over slot)) [
                  | inl went ↦ (let least = l.rests slot went in absurd (omega (arith, least, high, up)))
                  | inr stood ↦ absurd (true≢false (sym (newcomers_none words scenario journal base group slot stood gone mail.to new.1) ∙ new.0))
                ]
              ])
          | inr offered ↦ absurd (offers_none at (led_course l.led.bound course after.0) course.bound mail.to slot (l.led.leads.offers mail.to) (l.led.leads.asks mail.to) offered)
        ]

  standing_row : (rows : Rows) (seat : Seat Player) (event : Event OrderLine) → IsRowOf prefix rows seat event → IsSeat all seat → IsCalmEvent (players words all) rows seat.who event → Each IsStanding (mails rows) → Each IsStanding (mails (with_event rows seat event))
  standing_row rows seat event in_prefix born calm was =
      let led = go_on words scenario journal prefix rest base group timely few split so rows seat event in_prefix born calm in
      let row = row_of player_table seat rows event in
      subst (Each IsStanding) (sym (mails-snoc rows row))
      (Each-append IsStanding (mails rows) row.sent was (each_among IsStanding row.sent (λ mail a slot state sets body. stands_row rows seat event led.0 mail a slot state sets body led.2.later led.2.row)))

  standing : (rows more : Rows) → prefix ≡ rows ++ more → Each IsStanding (mails rows)
  standing = kept_through words all prefix (λ rows. Each IsStanding (mails rows)) (λ rows seat event place born calm t. standing_row rows seat event place born calm) tt (prefix_in_time words all journal timely prefix rest split)

  stands_sent : (rows : Rows) (seat : Seat Player) (number : ℕ) (mail : Mail) → Delivers prefix rows seat number mail → IsStanding mail
  stands_sent rows seat number mail d =
      let this : Row Mail OrderLine = row_of player_table seat rows (Deliver number) in
      Each-among IsStanding (mails rows) mail (standing rows (this ∷ d.row.more) (d.row.fact ∙ append_assoc rows (this ∷ []) d.row.more)) (number_among (mails rows) number mail d.sent)

pub states_stand : LedRowsGoOn → StatesStand
states_stand go_on words scenario journal prefix rest base group timely few split so rows seat number mail slot state sets d body =
    stands_sent go_on words scenario journal prefix rest base group timely few split so rows seat number mail d slot state sets body
