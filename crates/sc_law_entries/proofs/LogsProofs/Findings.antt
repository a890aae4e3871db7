-- What rows that decide in turn show: the groups, the entries, and one map.
use Rattle.std.proofs.Common.{◌≡◌, suc, List, [], ◌∷◌, ◌++◌, Option, Some, None, inl, inr, refl, sym, ◌∙◌, ap, subst, append-nil, append_assoc}
use Rattle.std.specs.Option.{option_map}
use Rattle.sc_base.specs.Definitions.{Among}
use Rattle.sc_base.specs.declared.names.Draw.{Draw}
use Rattle.sc_words.specs.declared.commands.cores.Base.{Base}
use Rattle.sc_words.specs.declared.commands.orders.OrderLine.{OrderLine}
use Rattle.sc_mail.specs.declared.bodies.Mail.{Mail}
use Rattle.sc_actor.specs.declared.rows.Row.{Row}
use Rattle.sc_meaning.specs.sound.SoundDefinitions.{Ahead, children_of, birth_at, log_by, log_at, state_at, entries_at, world_at, decided_state}
use Rattle.sc_group_table.specs.machine.MachineDefinitions.{group_of, state_after}
use Rattle.sc_paxos_law.proofs.Lemmas.{Among-left}
use Rattle.sc_meaning.specs.entries.EntryDefinitions.{named_group}
use Rattle.sc_law_entries.specs.history.HistoryDefinitions.{log_in, BeginBare}
use Rattle.sc_law_entries.proofs.HistoryProofs.HistoryLemmas.{prefixes_answer}
use Rattle.sc_law_entries.specs.ring.RingDefinitions.{Sources, BeginInPlace}
use Rattle.sc_law_entries.specs.logs.LogDefinitions.{AllowedEntriesMakeOneMap, Rows, IsFound, DecidesInTurn, DecideInTurn, AreFound, AreOldOrNew, AreItsLogs, MakeOneMapWithNotes, GroupsAreFound, GroupsAreOldOrNew, EntriesAreLogs, EntriesAreAllowed, EntriesMakeOneMap}
use Rattle.sc_law_entries.proofs.LogsProofs.OneGroup.{for_one}
use Rattle.sc_law_entries.proofs.LogsProofs.ChildrenInLogs.{children_append, log_append, log_of_others}
use Rattle.sc_law_entries.proofs.LogsProofs.Generations.{FoundInTurn, group_found, found_group, known_by_name, no_birth_at, no_log_at, no_state_at, birth_found}
use Rattle.sc_law_entries.proofs.LogsProofs.BirthsInLogs.{none_there}
use Rattle.sc_law_entries.proofs.LogsProofs.FactsInTurn.{JournalFacts, first_rows, state_there}
use Rattle.sc_law_entries.proofs.LogsProofs.Pushes.{found_next, new_name, push_told}
use Rattle.sc_law_entries.proofs.RingProofs.RingLemmas.{some_none}

-- ---- the entries

module _ (sources : Sources) (ahead : Ahead) (bases : List Base) (start : BeginInPlace sources bases) where
  -- a row that decides in turn does so for what is found
  pub found_turn : (before : Rows) → JournalFacts sources ahead bases before → (row : Row Mail OrderLine) → DecidesInTurn sources ahead bases before row → FoundInTurn sources ahead bases before row
  found_turn before k row turn =
      let one = for_one ahead before row in
      let there = found_group ahead bases before k.one k.near in
      record {
        goes_on = λ base f. turn.goes_on base (there base f);
        name = one.name;
        others = λ base f ne. one.others base ne;
        allowed = λ base f. turn.allowed base (there base f);
        unheard = λ base f. turn.unheard base (there base f);
      }

  pub push_turn : (before : Rows) → JournalFacts sources ahead bases before → (row : Row Mail OrderLine) → DecidesInTurn sources ahead bases before row → JournalFacts sources ahead bases (before ++ row ∷ [])
  push_turn before k row turn = push_told sources ahead bases start before k row (found_turn before k row turn)

  recorded_next : (before rows : Rows) → JournalFacts sources ahead bases before → DecideInTurn sources ahead bases before rows → JournalFacts sources ahead bases (before ++ rows)
  recorded_next before [] k h = subst (JournalFacts sources ahead bases) (sym (append-nil before)) k
  recorded_next before (row ∷ rows) k h =
      subst (JournalFacts sources ahead bases) (append_assoc before (row ∷ []) rows)
      (recorded_next (before ++ row ∷ []) rows (push_turn before k row h.0) h.1)

  pub deciding_rows : (rows : Rows) → DecideInTurn sources ahead bases [] rows → JournalFacts sources ahead bases rows
  deciding_rows rows h = recorded_next [] rows (first_rows sources ahead bases start) h

  module _ (rows : Rows) (k : JournalFacts sources ahead bases rows) where
    pub are_found : AreFound ahead bases rows
    are_found = record {
      first = λ base a. found_group ahead bases rows k.one k.near base (0, a);
      closed = λ base a child c. (let (depth, there) = group_found ahead bases rows base a in found_group ahead bases rows k.one k.near child (suc depth, (base, there, c)));
      prefixes = λ base a prefix later fact child c. (
          let (depth, there) = group_found ahead bases rows base a in
          let all = ap (children_of (group_of base)) fact ∙ children_append (group_of base) prefix later in
          found_group ahead bases rows k.one k.near child
          (suc depth, (base, there, subst (Among child) (sym all) (Among-left child (children_of (group_of base) prefix) (children_of (state_after (group_of base) prefix) later) c))));
      all = found_group ahead bases rows k.one k.near;
      only = group_found ahead bases rows;
      apart = λ one other a b same. k.one one other (group_found ahead bases rows one a) (group_found ahead bases rows other b) same;
      known = λ base a. known_by_name ahead bases rows k.one k.near base (group_found ahead bases rows base a);
    }

    -- no group of a name that is not found
    none_of : (name : Draw) → birth_at ahead bases rows name ≡ None → (base : Base) → IsFound ahead bases rows base → base.core.id ≡ name → ⊥
    none_of name e base f same = some_none base (sym (known_by_name ahead bases rows k.one k.near base f).birth ∙ ap (birth_at ahead bases rows) same ∙ e)

    log_of : (name : Draw) (o : Option Base) → birth_at ahead bases rows name ≡ o → log_in name (entries_at ahead bases rows) ≡ log_at ahead bases rows name
    log_of name None e =
        log_of_others name (entries_at ahead bases rows) (λ entry a same. (let (base, f, named) = k.only entry a in none_of name e base f (named ∙ same)))
        ∙ sym (no_log_at ahead bases rows name e)
    log_of name (Some base) e =
        let (f, named) = birth_found ahead bases rows name base e in
        let b = k.born base f in
        ap (λ n. log_in n (entries_at ahead bases rows)) (sym named) ∙ ap (log_in base.core.id) b.are ∙ log_append base.core.id b.first b.rest
        ∙ ap (λ cs. cs ++ log_in base.core.id b.rest) b.silent ∙ b.log_is ∙ sym (ap (log_by ahead rows) e)

    state_of : (name : Draw) (o : Option Base) → birth_at ahead bases rows name ≡ o → named_group name (world_at ahead bases rows).groups ≡ state_at ahead bases rows name
    state_of name None e =
        none_there (named_group name (world_at ahead bases rows).groups) (λ it fact. (let (base, f, named) = k.who name it fact in none_of name e base f named))
        ∙ sym (no_state_at ahead bases rows name e)
    state_of name (Some base) e =
        let (f, named) = birth_found ahead bases rows name base e in
        ap (λ n. named_group n (world_at ahead bases rows).groups) (sym named) ∙ state_there sources ahead bases start rows k base f
        ∙ sym (ap (option_map (λ b. decided_state ahead b rows)) e)

    pub are_logs : AreItsLogs ahead bases rows
    are_logs = record { logs = λ name. log_of name (birth_at ahead bases rows name) refl; states = λ name. state_of name (birth_at ahead bases rows name) refl }

    pub one_map : AllowedEntriesMakeOneMap → BeginBare bases → MakeOneMapWithNotes ahead bases rows
    one_map law bare =
        let entries = entries_at ahead bases rows in
        let m = law sources bases entries start bare k.allowed in
        record {
          map = record {
            covers = m.ring.covers;
            placed = λ cut a. (let p = m.ring.placed cut a in record { group = p.group; fact = p.fact; here = p.here; arc = p.arc; succ = p.succ; pred = p.pred });
            serves_apart = m.ring.serves_apart;
            legal = m.legal;
            parts = m.parts;
          };
          notes = λ base a prefix later fact. (
              let b = k.born base (group_found ahead bases rows base a) in
              prefixes_answer bases entries m.notes b.first b.rest b.are base.core.id (group_of base) b.there prefix later (b.log_is ∙ fact));
        }

    pub old_or_newborn : (row : Row Mail OrderLine) → DecidesInTurn sources ahead bases rows row → AreOldOrNew ahead bases rows row
    old_or_newborn row turn base a = elim (found_next sources ahead bases start rows k row (found_turn rows k row turn) base a) [
      | inl f ↦ inl (found_group ahead bases rows k.one k.near base f)
      | inr (parent, f, child) ↦ inr (record {
        parent = parent;
        stands = found_group ahead bases rows k.one k.near parent f;
        named = child;
        unborn = no_birth_at ahead bases rows base.core.id (new_name sources ahead bases start rows k row (found_turn rows k row turn) base (parent, f, child));
        silent = turn.unheard parent (found_group ahead bases rows k.one k.near parent f) base child;
      })
    ]

-- ---- the laws

pub groups_are_found : GroupsAreFound
groups_are_found sources ahead bases start rows h = are_found sources ahead bases start rows (deciding_rows sources ahead bases start rows h)

pub groups_are_old_or_new : GroupsAreOldOrNew
groups_are_old_or_new sources ahead bases start before h row turn = old_or_newborn sources ahead bases start before (deciding_rows sources ahead bases start before h) row turn

pub entries_are_logs : EntriesAreLogs
entries_are_logs sources ahead bases start rows h = are_logs sources ahead bases start rows (deciding_rows sources ahead bases start rows h)

pub entries_are_allowed : EntriesAreAllowed
entries_are_allowed sources ahead bases start rows h = (deciding_rows sources ahead bases start rows h).allowed

pub entries_make_one_map : AllowedEntriesMakeOneMap → EntriesMakeOneMap
entries_make_one_map law sources ahead bases start bare rows h = one_map sources ahead bases start rows (deciding_rows sources ahead bases start rows h) law bare
