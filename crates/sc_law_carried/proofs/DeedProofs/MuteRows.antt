-- A row that sends no vote of an acceptor decides nothing, so the history does not grow with it.
use Rattle.std.proofs.Common.{◌≡◌, ℕ, zero, suc, ◌<◌, ◌≤◌, List, [], ◌∷◌, ◌++◌, length, drop, Bool, true, false, cond, ◌&&◌, refl, sym, ◌∙◌, ap, subst, arith, append_assoc, append-nil, length-append, Option, None, Some, inl, inr, ◌⊎◌}
use Rattle.std.specs.Prelude.{slice_get}
use Rattle.std.specs.List.{list_any}
use Rattle.std.proofs.lemmas.Bool.{cases_lt}
use Rattle.std.proofs.lemmas.List.{drop_all}
use Rattle.sc_base.specs.Definitions.{Among, same_draw}
use Rattle.sc_node_table.specs.Values.{Base, Ballot, Call, Command, Draw, Entry, Event, Mail, MailBody, OrderLine, Row}
use Rattle.sc_mail.specs.declared.bodies.MailBody.TheVariants.{Accept}
use Rattle.sc_actor.specs.declared.rows.Event.TheVariants.{Deliver}
use Rattle.sc_actor.specs.Definitions.{mails, numbered}
use Rattle.sc_actor.proofs.Lemmas.{lawful-prefix}
use Rattle.sc_node_table.specs.NodeDefinitions.{slots_ahead}
use Rattle.sc_paxos_law.specs.PaxosLawDefinitions.{Step, Accepted, log_of}
use Rattle.sc_meaning.specs.sound.SoundDefinitions.{Ahead, Lawful, accepts, accepts_at, accepts_from, accepts_got, accepts_of, decided_log, history_at, is_accepted, route_of, rule_of, schedule, system_of}
use Rattle.sc_scenario.specs.declared.scenario.scenarios.Scenario.{Scenario}
use Rattle.sc_law_entries.specs.logs.LogDefinitions.{Rows, DecideInTurn, IsDecidedAt, StayRecorded, added_by}
use Rattle.sc_law_entries.specs.names.NameDefinitions.{owner_in}
use Rattle.sc_law_entries.specs.ring.RingDefinitions.{Sources, BeginInPlace}
use Rattle.sc_law_entries.proofs.LogsProofs.Histories.{history_is_decided, deciding_rows_stay}
use Rattle.sc_law_entries.proofs.NamesProofs.NameLemmas.{orders_are_allowed_allowed, orders_are_allowed_wishes, orders_are_allowed_positions, names_have_one_owner_others}
use Rattle.sc_law_groups.specs.whole.WholeDefinitions.{IsWellFormed, section_op}
use Rattle.sc_law_groups.proofs.WholeProofs.Scheduled.{formed_orders_allowed}
use Rattle.sc_law_groups.proofs.WholeProofs.StartValid.{formed_ready}
use Rattle.sc_law_groups.proofs.WholeProofs.WholeLemmas.{lawful_journals_decide_in_turn}

-- no mail says that its sender accepted something
abbrev pub IsMute : List Mail → Type 0
IsMute sent = (group : Draw) (ballot : Ballot) (slot : ℕ) → list_any (λ mail. is_accepted group ballot slot mail.body) sent ≡ false

and_none : (b : Bool) → (b && false) ≡ false
and_none true = refl
and_none false = refl

none_of : (group : Draw) (row : Row Mail OrderLine) → IsMute row.sent → (body : MailBody) → accepts_of group row body ≡ []
none_of group row mute (Accept g ballot slot command) =
    ap (λ b. cond (same_draw g group && b) (Accepted row.who ballot slot command ∷ []) []) (mute g ballot slot)
    ∙ ap (λ b. cond b (Accepted row.who ballot slot command ∷ []) []) (and_none (same_draw g group))
none_of group row mute _ = refl

none_got : (group : Draw) (row : Row Mail OrderLine) → IsMute row.sent → (found : Option Mail) → accepts_got group row found ≡ []
none_got group row mute None = refl
none_got group row mute (Some mail) = none_of group row mute mail.body

none_at : (group : Draw) (sent : List Mail) (row : Row Mail OrderLine) → IsMute row.sent → (event : Event OrderLine) → accepts_at group sent row event ≡ []
none_at group sent row mute (Deliver number) = none_got group row mute (numbered sent number)
none_at group sent row mute _ = refl

accepts-snoc : (group : Draw) (sent : List Mail) (rows : Rows) (row : Row Mail OrderLine) (steps : List (Step Command)) →
    accepts_from group sent (rows ++ row ∷ []) steps ≡ accepts_at group (sent ++ mails rows) row row.event ++ accepts_from group sent rows steps
accepts-snoc group sent [] row steps = ap (λ ms. accepts_at group ms row row.event ++ steps) (sym (append-nil sent))
accepts-snoc group sent (r ∷ rows) row steps =
    accepts-snoc group (sent ++ r.sent) rows row (accepts_at group sent r r.event ++ steps)
    ∙ ap (λ ms. accepts_at group ms row row.event ++ accepts_from group (sent ++ r.sent) rows (accepts_at group sent r r.event ++ steps)) (append_assoc sent r.sent (mails rows))

-- a mute row changes no log
log_same : (ahead : Ahead) (base : Base) (rows : Rows) (row : Row Mail OrderLine) → IsMute row.sent → decided_log ahead base (rows ++ row ∷ []) ≡ decided_log ahead base rows
log_same ahead base rows row mute =
    ap (log_of (rule_of ahead base)) (accepts-snoc base.core.id [] rows row [] ∙ ap (λ xs. xs ++ accepts base.core.id rows) (none_at base.core.id (mails rows) row mute row.event))

adds_none : (ahead : Ahead) (base : Base) (rows : Rows) (row : Row Mail OrderLine) → IsMute row.sent → added_by ahead rows row base ≡ []
adds_none ahead base rows row mute = ap (drop (length (decided_log ahead base rows))) (log_same ahead base rows row mute) ∙ drop_all (length (decided_log ahead base rows)) (decided_log ahead base rows) (omega arith)

-- a list with one more element, divided
snoc_parts : {X : Type 0} (xs : List X) (last : X) (before : List X) (x : X) (after : List X) → xs ++ last ∷ [] ≡ before ++ x ∷ after → ((before ≡ xs) × (x ≡ last)) ⊎ ((rest : List X) × (xs ≡ before ++ x ∷ rest))
snoc_parts [] last [] x after e = inl (refl, cc)
snoc_parts [] last (b ∷ before) x after e = absurd (never before x after (ap rest_of e))
  where
    rest_of : {X : Type 0} → List X → List X
    rest_of [] = []
    rest_of (y ∷ ys) = ys

    never : {X : Type 0} (before : List X) (x : X) (after : List X) → [] ≡ before ++ x ∷ after → ⊥
    never [] x after e = cc
    never (b ∷ before) x after e = cc
snoc_parts (y ∷ xs) last [] x after e = let same : y ≡ x = cc in inr (xs, ap (λ z. z ∷ xs) same)
snoc_parts {X} (y ∷ xs) last (b ∷ before) x after e =
    let same : y ≡ b = cc in
    let rest : xs ++ last ∷ [] ≡ before ++ x ∷ after = cc in
    elim (snoc_parts xs last before x after rest) [
      | inl p ↦ inl (ap (λ z. z ∷ before) (sym same) ∙ ap (λ zs. y ∷ zs) p.0, p.1)
      | inr q ↦ inr (q.0, ap (λ z. z ∷ xs) same ∙ ap (λ zs. b ∷ zs) q.1)
    ]

module _ (ahead : Ahead) (slots : ahead.slots ≡ slots_ahead) (words : ℕ → ℕ → ℕ × ℕ) (scenario : Scenario) (formed : IsWellFormed scenario) where
  -- the rows of a lawful journal decide in turn
  module _ (rows : Rows) (lawful : Lawful ahead words scenario rows) where
    abbrev sources : Sources
    sources = record { owner = owner_in ahead scenario rows; request = section_op scenario }

    in_place : BeginInPlace sources scenario.groups
    in_place = (formed_ready (owner_in ahead scenario rows) (names_have_one_owner_others ahead scenario rows) ahead slots scenario formed).well.place

    in_turn : DecideInTurn sources ahead scenario.groups [] rows
    in_turn =
        let ready = formed_ready (owner_in ahead scenario rows) (names_have_one_owner_others ahead scenario rows) ahead slots scenario formed in
        lawful_journals_decide_in_turn sources ahead words scenario (route_of ready.first) ready.well rows
        (formed_orders_allowed ahead words scenario formed orders_are_allowed_allowed orders_are_allowed_wishes orders_are_allowed_positions rows lawful) lawful

  -- what was recorded stays with more rows
  pub stays : (rows more : Rows) → Lawful ahead words scenario (rows ++ more) → StayRecorded ahead scenario.groups rows more
  stays rows more lawful = deciding_rows_stay (sources (rows ++ more) lawful) ahead scenario.groups (in_place (rows ++ more) lawful) rows more (in_turn (rows ++ more) lawful)

  -- a prefix has no longer history
  shorter : (rows more : Rows) → Lawful ahead words scenario (rows ++ more) → length (history_at ahead scenario.groups rows) ≤ length (history_at ahead scenario.groups (rows ++ more))
  shorter rows more lawful =
      let whole = (stays rows more lawful).history in
      let sum = ap length whole.1 ∙ length-append (history_at ahead scenario.groups rows) whole.0 in
      omega (arith, sum)

  -- with a mute row the history is no longer
  pub mute_adds_nothing : (rows : Rows) (row : Row Mail OrderLine) → IsMute row.sent → Lawful ahead words scenario (rows ++ row ∷ []) → length (history_at ahead scenario.groups (rows ++ row ∷ [])) ≤ length (history_at ahead scenario.groups rows)
  mute_adds_nothing rows row mute lawful = elim (cases_lt (length (history_at ahead scenario.groups rows)) (length (history_at ahead scenario.groups (rows ++ row ∷ [])))) [
    | inr within ↦ within
    | inl longer ↦ (
        let found = entry_at (history_at ahead scenario.groups (rows ++ row ∷ [])) (length (history_at ahead scenario.groups rows)) longer in
        let at = history_is_decided (sources (rows ++ row ∷ []) lawful) ahead scenario.groups (in_place (rows ++ row ∷ []) lawful) (rows ++ row ∷ []) (in_turn (rows ++ row ∷ []) lawful) (length (history_at ahead scenario.groups rows)) found.0 found.1 in
        absurd (by at (snoc_parts rows row at.before at.row at.later at.are)))
  ]
    where
      entry_at : (xs : List Entry) (k : ℕ) → k < length xs → (entry : Entry) × (slice_get xs k ≡ Some entry)
      entry_at [] k low = absurd (omega (arith, low))
      entry_at (x ∷ xs) zero low = (x, refl)
      entry_at (x ∷ xs) (suc k) low = entry_at xs k (omega (arith, low))

      by : {entry : Entry} (at : IsDecidedAt ahead scenario.groups (rows ++ row ∷ []) (length (history_at ahead scenario.groups rows)) entry)
          → ((at.before ≡ rows) × (at.row ≡ row)) ⊎ ((rest : Rows) × (rows ≡ at.before ++ at.row ∷ rest)) → ⊥
      by {entry} at (inl same) =
          let mute_here : IsMute at.row.sent = subst (λ (r : Row Mail OrderLine). IsMute r.sent) (sym same.1) mute in
          subst (λ (xs : List Command). Among (Call entry.client entry.seq entry.op) xs) (adds_none ahead at.base at.before at.row mute_here) at.call
      by {entry} at (inr earlier) =
          let split : rows ≡ (at.before ++ at.row ∷ []) ++ earlier.0 = earlier.1 ∙ sym (append_assoc at.before (at.row ∷ []) earlier.0) in
          let less = shorter (at.before ++ at.row ∷ []) earlier.0 (subst (Lawful ahead words scenario) split (lawful-prefix (system_of ahead words scenario) (schedule scenario) rows (row ∷ []) lawful)) in
          let same = ap (λ rs. length (history_at ahead scenario.groups rs)) split in
          omega (arith, less, same, at.after)
