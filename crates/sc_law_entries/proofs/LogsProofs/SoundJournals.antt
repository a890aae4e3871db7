-- A journal whose rows decide in turn is sound, where each group has one value per slot, replicas have executed prefixes, and calls and replies come in order.
use Rattle.std.proofs.Common.{◌≡◌, ℕ, ◌+◌, ◌<◌, List, [], ◌∷◌, ◌++◌, length, Some, inl, inr, refl, sym, ◌∙◌, ap, subst, append_assoc, arith}
use Rattle.std.specs.Prelude.{slice_get}
use Rattle.std.specs.FinMap.{get}
use Rattle.std.proofs.lemmas.Bool.{cases_lt}
use Rattle.std.proofs.lemmas.List.{length-append}
use Rattle.sc_base.specs.Definitions.{Among}
use Rattle.sc_base.specs.declared.ops.Reply.{Reply}
use Rattle.sc_words.specs.declared.commands.commands.Command.TheVariants.{Call}
use Rattle.sc_words.specs.declared.commands.cores.Base.{Base}
use Rattle.sc_words.specs.declared.commands.orders.OrderLine.{OrderLine}
use Rattle.sc_mail.specs.declared.bodies.Mail.{Mail}
use Rattle.sc_actor.specs.declared.rows.Row.{Row}
use Rattle.sc_actor.proofs.Lemmas.{get_left}
use Rattle.sc_words.specs.ideal.IdealDefinitions.{HasEntry}
use Rattle.sc_words.specs.declared.ideal.Entry.{Entry}
use Rattle.sc_group_table.specs.machine.MachineDefinitions.{Group, group_of, state_after}
use Rattle.sc_paxos_law.proofs.Lemmas.{Among-left}
use Rattle.sc_meaning.specs.sound.SoundDefinitions.{Ahead, entries_at, history_at, IsRequest, issue_row, AnswersRequests, row_of_entry, IsTimely, KeepsRealTime, IsSound}
use Rattle.sc_scenario.specs.declared.scenario.scenarios.Scenario.{Scenario}
use Rattle.sc_law_entries.specs.history.HistoryDefinitions.{BeginBare}
use Rattle.sc_meaning.specs.entries.EntryDefinitions.{CoverThroughout}
use Rattle.sc_law_entries.specs.ring.RingDefinitions.{Sources, AreAllowed, first_recorded, BeginInPlace}
use Rattle.sc_law_entries.proofs.RingProofs.RingLemmas.{entries_keep_the_ring}
use Rattle.sc_law_entries.proofs.LogsProofs.Allowing.{allowed_parts}
use Rattle.sc_law_entries.specs.logs.LogDefinitions.{AllowedEntriesMakeOneMap, Rows, DecideInTurn, MakeOneMapWithNotes, IsDecidedAt, StayRecorded, IsIssuedIn, IsDecidedBefore, HoldsBeside, JournalsInTurnAreSound}
use Rattle.sc_law_entries.proofs.LogsProofs.ChildrenInLogs.{state_append}
use Rattle.sc_law_entries.proofs.LogsProofs.RowsInTwoParts.{in_turn_parts}
use Rattle.sc_law_entries.proofs.LogsProofs.Findings.{entries_make_one_map, entries_are_logs, entries_are_allowed}
use Rattle.sc_law_entries.proofs.LogsProofs.Histories.{history_is_decided, deciding_rows_stay}
use Rattle.sc_law_entries.proofs.LogsProofs.NotedAnswers.{replied_noted}
use Rattle.sc_law_entries.proofs.LogsProofs.Times.{among_place, one_place, decided_in_order, issue_within, issue_stays}

module _ (law : AllowedEntriesMakeOneMap) (sources : Sources) (ahead : Ahead) (scenario : Scenario) (start : BeginInPlace sources scenario.groups) (bare : BeginBare scenario.groups) (rows more : Rows)
    (all : DecideInTurn sources ahead scenario.groups [] (rows ++ more)) (beside : HoldsBeside ahead scenario rows) where
  abbrev bases : List Base
  bases = scenario.groups

  turn : DecideInTurn sources ahead bases [] rows
  turn = (in_turn_parts sources ahead bases [] rows more all).0

  abbrev recorded : List Entry
  recorded = history_at ahead bases rows

  map : MakeOneMapWithNotes ahead bases rows
  map = entries_make_one_map law sources ahead bases start bare rows turn

  stay : StayRecorded ahead bases rows more
  stay = deciding_rows_stay sources ahead bases start rows more all

  -- ---- prefixes

  first_part : (before : Rows) (row : Row Mail OrderLine) (later : Rows) → rows ≡ before ++ row ∷ later → DecideInTurn sources ahead bases [] before
  first_part before row later are = (in_turn_parts sources ahead bases [] before (row ∷ later) (subst (DecideInTurn sources ahead bases []) are turn)).0

  part_stays : (before : Rows) (row : Row Mail OrderLine) (later : Rows) → rows ≡ before ++ row ∷ later → StayRecorded ahead bases before (row ∷ later)
  part_stays before row later are = deciding_rows_stay sources ahead bases start before (row ∷ later) (subst (DecideInTurn sources ahead bases []) are turn)

  -- ---- requests

  reported_at : (place : ℕ) (entry : Entry) → slice_get recorded place ≡ Some entry → IsDecidedAt ahead bases rows place entry
  reported_at place entry at = history_is_decided sources ahead bases start rows turn place entry at

  issued_at : (place : ℕ) (entry : Entry) (at : slice_get recorded place ≡ Some entry) → IsIssuedIn scenario (reported_at place entry at).before entry.client entry.seq entry.op
  issued_at place entry at = let t = reported_at place entry at in beside.issued t.before t.row t.later t.are t.base t.stands entry.client entry.seq entry.op t.call

  request_of : (entry : Entry) → Among entry recorded → IsRequest scenario entry
  request_of entry a =
      let (place, at) = among_place recorded entry a in
      let i = issued_at place entry at in
      (i.asks, i.stands, record { client = i.who; first = i.first; op = i.op_is })

  -- ---- replies

  module _ (client seq : ℕ) (reply : Reply) (answered : ℕ) (d : IsDecidedBefore ahead bases rows client seq reply answered) where
    abbrev then : List Entry
    then = history_at ahead bases d.before

    -- the history of the rows before has its entry
    entry_then : HasEntry then client seq reply
    entry_then =
        let c = Call client seq d.op in
        let group = state_after (group_of d.base) d.prefix in
        let n = replied_noted group client seq d.op reply d.replied in
        let map_then = entries_make_one_map law sources ahead bases start bare d.before (first_part d.before d.row d.later d.are) in
        let found : get (state_after (group_of d.base) (d.prefix ++ c ∷ [])).clients client ≡ Some n.noted = ap (λ (g : Group). get g.clients client) (state_append (group_of d.base) d.prefix (c ∷ [])) ∙ n.found in
        let h = map_then.notes d.base d.stands (d.prefix ++ c ∷ []) d.rest (d.log ∙ sym (append_assoc d.prefix (c ∷ []) d.rest)) client n.noted found in
        record { entry = h.entry; stands = h.stands; client_is = h.client_is; seq_is = h.seq_is ∙ n.seq_is; reply_is = h.reply_is ∙ n.reply_is }

    goes_on : recorded ≡ then ++ (part_stays d.before d.row d.later d.are).history.0
    goes_on = ap (history_at ahead bases) d.are ∙ (part_stays d.before d.row d.later d.are).history.1

    has_entry : HasEntry recorded client seq reply
    has_entry =
        let h = entry_then in
        let s = part_stays d.before d.row d.later d.are in
        record {
          entry = h.entry;
          stands = subst (Among h.entry) (sym goes_on) (Among-left h.entry then s.history.0 h.stands);
          client_is = h.client_is;
          seq_is = h.seq_is;
          reply_is = h.reply_is;
        }

    -- which is decided before the row that takes the reply
    before_it : (place : ℕ) (entry : Entry) → slice_get recorded place ≡ Some entry → entry.client ≡ client → entry.seq ≡ seq → (at : ℕ) → row_of_entry ahead bases place rows ≡ Some at → at < answered
    before_it place entry there who number at is_at =
        let h = entry_then in
        let s = part_stays d.before d.row d.later d.are in
        let (other, at_then) = among_place then h.entry h.stands in
        let at_now : slice_get recorded other ≡ Some h.entry = subst (λ es. slice_get es other ≡ Some h.entry) (sym goes_on) (get_left then s.history.0 other h.entry at_then) in
        let same = one_place recorded map.map.legal.once place other entry h.entry there at_now (who ∙ sym h.client_is) (number ∙ sym h.seq_is) in
        let t = history_is_decided sources ahead bases start d.before (first_part d.before d.row d.later d.are) other h.entry at_then in
        let now : row_of_entry ahead bases other rows ≡ Some (length t.before + 1) = ap (row_of_entry ahead bases other) d.are ∙ s.recorded other (length t.before + 1) t.is_recorded in
        let both : Some at ≡ Some (length t.before + 1) = sym is_at ∙ ap (λ p. row_of_entry ahead bases p rows) same ∙ now in
        let at_is : at ≡ length t.before + 1 = cc in
        let size = ap length t.are ∙ length-append t.before (t.row ∷ t.later) in
        let taken = d.taken in
        omega (arith, at_is, size, taken)

  answers : AnswersRequests ahead scenario rows
  answers = record {
    requests = request_of;
    kept = λ first others fact asks stands seq reply kept. (
        let (answered, d) = beside.replies.kept first others fact asks stands seq reply kept in
        has_entry asks.client seq reply answered d);
  }

  -- ---- the order of rows

  timely : (place : ℕ) (entry : Entry) → slice_get recorded place ≡ Some entry → IsTimely ahead scenario rows place entry
  timely place entry at =
      let t = reported_at place entry at in
      let i = issued_at place entry at in
      let within = issue_within entry.client entry.seq t.before i.issued i.is_issued in
      record {
        decided = length t.before + 1;
        is_decided = t.is_recorded;
        issued = i.issued;
        is_issued = ap (issue_row entry.client entry.seq) t.are ∙ issue_stays entry.client entry.seq t.before (t.row ∷ t.later) i.issued i.is_issued;
        after_issue = omega (arith, within);
        before_answer = λ first others fact asks stands who answered taken. (
            let (reply, d) = beside.replies.answered first others fact asks stands entry.seq i.first answered taken in
            before_it asks.client entry.seq reply answered d place entry at (sym who) refl (length t.before + 1) t.is_recorded);
      }

  real_time : KeepsRealTime ahead scenario rows
  real_time place other entry later_one e f first others fact asks stands who answered issued taken sent le =
      let one_time = timely place entry e in
      let other_time = timely other later_one f in
      let before = one_time.before_answer first others fact asks stands who answered taken in
      let issued_both : Some issued ≡ Some other_time.issued = sym sent ∙ other_time.is_issued in
      let one_issue : issued ≡ other_time.issued = cc in
      let after = other_time.after_issue in
      elim (cases_lt place other) [
        | inl lt ↦ lt
        | inr ge ↦ (
            let order = decided_in_order ahead bases other place (omega (arith, ge)) [] rows other_time.decided one_time.decided other_time.is_decided one_time.is_decided in
            absurd (omega (arith, order, before, le, one_issue, after)))
      ]

  rings : CoverThroughout bases (entries_at ahead bases rows)
  rings before later are =
      let allowed = entries_are_allowed sources ahead bases start rows turn in
      (entries_keep_the_ring sources bases before start (allowed_parts sources (first_recorded bases) before later (subst (AreAllowed sources (first_recorded bases)) are allowed)).0).covers

  pub sound_rows : IsSound ahead scenario rows more
  sound_rows = record {
    one_log = λ base a. (let v = beside.values base a in record { one_value = v.one_value; is_log = v.is_log; longest = v.longest; grows = stay.logs base a });
    states = λ base a. (entries_are_logs sources ahead bases start rows turn).states base.core.id;
    have_run = beside.have_run;
    whole = map.map;
    rings = rings;
    answers = answers;
    timely = timely;
    real_time = real_time;
  }

pub journals_in_turn_are_sound : AllowedEntriesMakeOneMap → JournalsInTurnAreSound
journals_in_turn_are_sound law sources ahead scenario start bare rows more all beside = sound_rows law sources ahead scenario start bare rows more all beside
