-- The group of a leader that stands in a quiet prefix has noted begun requests alone, and all values that it has come of such.
use Rattle.std.proofs.Common.{◌≡◌, ℕ, Bool, true, false, cond, List, [], ◌∷◌, Some, None, ◌⊎◌, inl, inr, refl, sym, ◌∙◌, ap, subst, append-nil}
use Rattle.std.specs.Prelude.{is_none}
use Rattle.std.specs.FinMap.{empty, get, insert, remove, get-empty, get-insert, get-remove}
use Rattle.std.specs.Ordering.{nat_cmp}
use Rattle.std.specs.Cmp.Lexicographic.{slice_cmp, nat_list_cmp_total}
use Rattle.std.proofs.lemmas.Bool.{cond_both}
use Rattle.std.proofs.lemmas.Option.{none-some}
use Rattle.sc_base.specs.Definitions.{Among}
use Rattle.sc_node_table.specs.Values.{Draw, Noted, Op, Get, Put, Del, Add, Cas, Reply, Base, Entry}
use Rattle.sc_words.specs.ideal.IdealDefinitions.{HasStoreReplies, contents_after, HasEntry, Contents, key_of, reply_of, was, after, holds_key}
use Rattle.sc_words.proofs.IdealProofs.IdealLemmas.{get-part}
use Rattle.sc_group_table.specs.machine.MachineDefinitions.{Group}
use Rattle.sc_law_entries.specs.logs.LogDefinitions.{Rows}
use Rattle.sc_law_entries.proofs.LogsProofs.LogLemmas.{entries_make_one_map, allowed_entries_make_one_map, among_place}
use Rattle.sc_law_entries.specs.names.NameDefinitions.{OtherNamesAreFree, TakenOrdersAreAllowed, TakenWishesAreAllowed, WishesAreAtPositions}
use Rattle.sc_scenario.specs.scenario.Definitions.{ValidScenariosAreBounded}
use Rattle.sc_scenario.specs.declared.scenario.scenarios.Scenario.{Scenario}
use Rattle.sc_meaning.specs.sound.SoundDefinitions.{groups_at, history_at, decided_log, decided_state, as_nodes, births, issue_row, IsSound}
use Rattle.sc_law_groups.specs.whole.WholeDefinitions.{ValidScenariosBeginWell, ValidJournalsAreSound, ValidEntriesAreLogs}
use Rattle.sc_live_orderly.specs.OrderlyDefinitions.{AreInTime}
use Rattle.sc_live_steps.specs.calm.CalmDefinitions.{players, StandsQuiet}
use Rattle.sc_live_plain.specs.PlainDefinitions.{replicas_after, frame_at_rest, IsBegun, written_by, IsWrittenValue, IsPlainGroup}
use Rattle.sc_live_answers.specs.AnswerDefinitions.{FreeGroupsHaveArcs, IsQuietPrefix, PrefixesAreFound, QuietLogsAreExecuted, AreAllThere, AreAllFree, IssuedAreBegun, PrefixNotesAreBegun, PrefixGroupsHaveReplicas}
use Rattle.sc_live_answers.proofs.QuietProofs.QuietPrefixGroupLogs.{prefix_timely}
use Rattle.sc_live_answers.proofs.QuietProofs.QuietPrefixGroups.{found}
use Rattle.sc_live_answers.proofs.LinksProofs.LinkLogs.{sources, ready, well, turn}
use Rattle.sc_live_answers.proofs.QuietProofs.QuietLinks.{cut_of}
use Rattle.sc_live_answers.proofs.RestProofs.ReachableGroups.{newest_of_group}

-- ---- where values come from

-- a value that stands at a key after an operation stood there, or is what it wrote
put_from : (m : Contents) (at value key found_ : List ℕ) → get (insert m at value) key ≡ Some found_ → (get m key ≡ Some found_) ⊎ (Some value ≡ Some found_)
put_from m at value key found_ e = by _ (sym (get-insert nat_list_cmp_total m at value key) ∙ e)
  where
    by : (b : Bool) → cond b (Some value) (get m key) ≡ Some found_ → (get m key ≡ Some found_) ⊎ (Some value ≡ Some found_)
    by true w = inr w
    by false w = inl w

removed_from : (m : Contents) (at key found_ : List ℕ) → get (remove m at) key ≡ Some found_ → get m key ≡ Some found_
removed_from m at key found_ e = by _ (sym (get-remove nat_list_cmp_total m at key) ∙ e)
  where
    by : (b : Bool) → cond b None (get m key) ≡ Some found_ → get m key ≡ Some found_
    by true w = absurd (none-some found_ w)
    by false w = w

after_from : (op : Op) (m : Contents) (key value : List ℕ) → get (after op m) key ≡ Some value → (get m key ≡ Some value) ⊎ (written_by op ≡ Some value)
after_from (Get at) m key value = λ e. inl e
after_from (Put at new) m key value = put_from m at new key value
after_from (Del at) m key value = λ e. inl (removed_from m at key value e)
after_from (Add at new) m key value =
    cond_both (is_none (get m at)) (insert m at new) m (λ (c : Contents). get c key ≡ Some value → (get m key ≡ Some value) ⊎ (Some new ≡ Some value)) (λ _ e. put_from m at new key value e) (λ _ e. inl e)
after_from (Cas at expect new) m key value =
    cond_both (was expect (get m at)) (insert m at new) m (λ (c : Contents). get c key ≡ Some value → (get m key ≡ Some value) ⊎ (Some new ≡ Some value)) (λ _ e. put_from m at new key value e) (λ _ e. inl e)

-- an entry wrote a value
record IsWrittenIn (entries : List Entry) (value : List ℕ) : Type 0 where
  entry : Entry
  among : Among entry entries
  wrote : written_by entry.op ≡ Some value

later_in : (entry : Entry) (entries : List Entry) (value : List ℕ) → IsWrittenIn entries value → IsWrittenIn (entry ∷ entries) value
later_in entry entries value w = record { entry = w.entry; among = inr w.among; wrote = w.wrote }

-- a value that stands after some entries stood before them, or an entry wrote it
stored_from : (entries : List Entry) (m : Contents) (key value : List ℕ) → get (contents_after m entries) key ≡ Some value → (get m key ≡ Some value) ⊎ IsWrittenIn entries value
stored_from [] m key value e = inl e
stored_from (entry ∷ entries) m key value e = elim (stored_from entries (after entry.op m) key value e) [
  | inr w ↦ inr (later_in entry entries value w)
  | inl there ↦ elim (after_from entry.op m key value there) [ inl before ↦ inl before | inr wrote ↦ inr (record { entry = entry; among = inl refl; wrote = wrote }) ]
]

-- so does one that was replied
replied_from : (entries : List Entry) (m : Contents) → HasStoreReplies m entries → (entry : Entry) → Among entry entries → (value : List ℕ) → entry.reply.old ≡ Some value → ((key : List ℕ) × (get m key ≡ Some value)) ⊎ IsWrittenIn entries value
replied_from [] m replies entry a value e = absurd a
replied_from (x ∷ entries) m replies entry (inl same) value e =
    inl (key_of entry.op, sym (ap (λ (r : Reply). r.old) (sym (ap (λ (z : Entry). z.reply) same) ∙ (replies.0 ∙ ap (λ (z : Entry). reply_of z.op m) same))) ∙ e)
replied_from (x ∷ entries) m replies entry (inr a) value e = elim (replied_from entries (after x.op m) replies.1 entry a value e) [
  | inr w ↦ inr (later_in x entries value w)
  | inl there ↦ elim (after_from x.op m there.0 value there.1) [ inl before ↦ inl (there.0, before) | inr wrote ↦ inr (record { entry = x; among = inl refl; wrote = wrote }) ]
]

abbrev none_held : Contents
none_held = empty

none_stored : (key value : List ℕ) → get none_held key ≡ Some value → ⊥
none_stored key value e = none-some value (sym (get-empty (slice_cmp nat_cmp) key) ∙ e)

module _ (bounded : ValidScenariosAreBounded) (begin : ValidScenariosBeginWell) (allowed : TakenOrdersAreAllowed) (wishes : TakenWishesAreAllowed) (positions : WishesAreAtPositions) (free_names : OtherNamesAreFree) (sounds : ValidJournalsAreSound) (entries : ValidEntriesAreLogs) (begun : IssuedAreBegun)
    (haves : FreeGroupsHaveArcs) (executed : QuietLogsAreExecuted) (finds : PrefixesAreFound) (words : ℕ → ℕ → ℕ × ℕ) (scenario : Scenario) (journal prefix : Rows) (q : IsQuietPrefix words scenario journal prefix) (there : AreAllThere scenario prefix) (free : AreAllFree scenario prefix) where
  sound : IsSound as_nodes scenario prefix q.begins.more
  sound = sounds as_nodes refl words scenario q.calm.valid journal q.calm.lawful prefix q.begins.more q.begins.fact

  abbrev history : List Entry
  history = history_at as_nodes scenario.groups prefix

  timely : AreInTime (players words (births as_nodes scenario)) prefix
  timely = prefix_timely words scenario journal prefix q

  -- each entry of the history is a request that was begun
  is_begun : (entry : Entry) → Among entry history → IsBegun scenario prefix entry.client entry.seq entry.op
  is_begun entry a =
      let r = ready bounded begin allowed wishes positions free_names words scenario journal q.calm.valid q.calm.lawful in
      let place = among_place history entry a in
      let t = sound.timely place.0 entry place.1 in
      let asked = sound.answers.requests entry a in
      record {
        first = r.first;
        others = r.others;
        groups_are = r.groups;
        asks = asked.0;
        is_asks = asked.1;
        client_is = sym asked.2.client;
        from_one = asked.2.first;
        op_is = asked.2.op;
        low = begun words scenario r.first r.others prefix asked.0 entry.seq t.issued q.calm.valid r.groups timely asked.1 (ap (λ n. issue_row n entry.seq prefix) (sym asked.2.client) ∙ t.is_issued);
      }

  written : (value : List ℕ) → IsWrittenIn history value → IsWrittenValue (IsBegun scenario prefix) value
  written value w = record { client = w.entry.client; seq = w.entry.seq; op = w.entry.op; is_begun = is_begun w.entry w.among; writes = w.wrote }

  module _ (base : Base) (a : Among base (groups_at as_nodes scenario.groups prefix)) where
    -- what it noted has its entry in the history
    noted : (client : ℕ) (note : Noted) → get (decided_state as_nodes base prefix).clients client ≡ Some note → HasEntry history client note.seq note.reply
    noted client note e =
        let l = (found executed finds words scenario journal prefix q).lawful in
        let s = sources bounded begin allowed wishes positions free_names words scenario prefix q.calm.valid l in
        let r = ready bounded begin allowed wishes positions free_names words scenario prefix q.calm.valid l in
        let w = well bounded begin allowed wishes positions free_names words scenario prefix q.calm.valid l in
        let t = turn bounded begin allowed wishes positions free_names words scenario prefix q.calm.valid l in
        (entries_make_one_map allowed_entries_make_one_map s as_nodes scenario.groups w.place r.bare prefix t).notes base a (decided_log as_nodes base prefix) [] (sym (append-nil (decided_log as_nodes base prefix))) client note e

    op_noted : (client : ℕ) (note : Noted) → get (decided_state as_nodes base prefix).clients client ≡ Some note → (op : Op) × IsBegun scenario prefix client note.seq op
    op_noted client note e = (let h = noted client note e in (h.entry.op, subst (λ n. IsBegun scenario prefix n note.seq h.entry.op) h.client_is (subst (λ n. IsBegun scenario prefix h.entry.client n h.entry.op) h.seq_is (is_begun h.entry h.stands))))

    value_replied : (client : ℕ) (note : Noted) → get (decided_state as_nodes base prefix).clients client ≡ Some note → (value : List ℕ) → note.reply.old ≡ Some value → IsWrittenValue (IsBegun scenario prefix) value
    value_replied client note e value old =
        let h = noted client note e in
        elim (replied_from history none_held sound.whole.legal.replay h.entry h.stands value (ap (λ (r : Reply). r.old) h.reply_is ∙ old)) [ inl none ↦ absurd (none_stored none.0 value none.1) | inr w ↦ written value w ]

    value_stored : (decided_state as_nodes base prefix).core.gone ≡ None → (key value : List ℕ) → get (decided_state as_nodes base prefix).pairs key ≡ Some value → IsWrittenValue (IsBegun scenario prefix) value
    value_stored stands key value e =
        let f = found executed finds words scenario journal prefix q in
        let c = cut_of scenario prefix sound.whole (entries as_nodes refl words scenario q.calm.valid prefix f.lawful) (λ one other x y w. f.apart one other (f.later one x) (f.later other y) w) free
        (λ b x s. haves words scenario prefix b q.calm.valid f.lawful x (free b x) s) base a stands in
        let pairs = sound.whole.parts c.cut c.among (decided_state as_nodes base prefix) c.own in
        let in_part = sym (get-part (contents_after none_held history) (holds_key c.cut.arc) key) ∙ (ap (λ (m : Contents). get m key) (sym pairs) ∙ e) in
        elim (stored_from history none_held key value (of_part (holds_key c.cut.arc key) in_part)) [ inl none ↦ absurd (none_stored key value none) | inr w ↦ written value w ]
      where
        of_part : (b : Bool) → cond b (get (contents_after none_held history) key) None ≡ Some value → get (contents_after none_held history) key ≡ Some value
        of_part true w = w
        of_part false w = absurd (none-some value w)

  plain : (group : Draw) (stands : StandsQuiet (replicas_after scenario prefix) group) → IsPlainGroup (IsBegun scenario prefix) (frame_at_rest stands.lead) stands.lead.group
  plain group stands =
      let new = newest_of_group executed finds words scenario journal prefix q there group stands.lead stands.newest in
      let base = new.0.base in
      let state = new.1.state in
      record {
        core_is = refl;
        noted = λ client note e. op_noted base new.0.among client note (ap (λ (g : Group). get g.clients client) (sym state) ∙ e);
        replied = λ client note e value old. value_replied base new.0.among client note (ap (λ (g : Group). get g.clients client) (sym state) ∙ e) value old;
        stored = λ key value e. value_stored base new.0.among (ap (λ (g : Group). g.core.gone) (sym state) ∙ stands.stands) key value (ap (λ (g : Group). get g.pairs key) (sym state) ∙ e);
      }

pub prefix_notes_are_begun : ValidScenariosAreBounded → ValidScenariosBeginWell → TakenOrdersAreAllowed → TakenWishesAreAllowed → WishesAreAtPositions → OtherNamesAreFree → ValidJournalsAreSound → ValidEntriesAreLogs → IssuedAreBegun → FreeGroupsHaveArcs → QuietLogsAreExecuted → PrefixesAreFound → PrefixGroupsHaveReplicas → PrefixNotesAreBegun
prefix_notes_are_begun bounded begin allowed wishes positions free_names sounds entries begun haves executed finds there words scenario journal prefix q free =
    plain bounded begin allowed wishes positions free_names sounds entries begun haves executed finds words scenario journal prefix q (there words scenario journal prefix q) free
