-- Each row of a lawful journal decides in turn, whatever its groups order; and what holds of the journal holds with one more row.
use Rattle.std.proofs.Common.{◌≡◌, ℕ, ◌+◌, List, [], ◌∷◌, ◌++◌, length, drop, Some, inl, inr, refl, sym, ◌∙◌, ap, subst, option_to_list}
use Rattle.std.specs.Prelude.{slice_get}
use Rattle.sc_base.specs.Definitions.{Among, Each}
use Rattle.sc_node_table.specs.Values.{Draw, Op, Reply, Command, Noop, Call, Prepared, RecordVote, Finish, Watched, RecordWatch, Base, Route, OrderLine, Mail, MailBody, TxPrepare, TxVote, TxOutcome, TxWatch, TxWatched, Row}
use Rattle.sc_actor.specs.Definitions.{IsStep}
use Rattle.sc_group_table.specs.machine.MachineDefinitions.{Group, group_of, state_after, applied}
use Rattle.sc_meaning.specs.entries.EntryDefinitions.{birth_of, StoreWorld, named_group}
use Rattle.sc_meaning.proofs.EntriesProofs.EntryLemmas.{births_are_children}
use Rattle.sc_words.proofs.PaxosProofs.PaxosLemmas.{Each-among, Each-weaker}
use Rattle.sc_paxos_law.proofs.Lemmas.{Among-left, Among-right, get_pushed}
use Rattle.sc_scenario.specs.declared.scenario.scenarios.Asks.{Asks}
use Rattle.sc_scenario.specs.declared.scenario.scenarios.Scenario.{Scenario}
use Rattle.sc_meaning.specs.sound.SoundDefinitions.{Ahead, system_of, replies_of, children_of, groups_at, birth_at, entries_at, world_at, decided_log, decided_state, issues, kept_replies}
use Rattle.sc_law_entries.specs.ring.RingDefinitions.{Sources, IsAllowed, first_recorded, recorded_after, BeginInPlace}
use Rattle.sc_law_entries.proofs.RingProofs.RingLemmas.{at_start, kept_after, store_after, some_none}
use Rattle.sc_law_entries.specs.logs.LogDefinitions.{Rows, added_by, newborn_by, AreFound, IsNewborn, DecidesInTurn, DecideInTurn}
use Rattle.sc_law_entries.proofs.LogsProofs.LogLemmas.{allowed_stays_allowed, BornBy, born_by, all_allowed, deciding_rows, groups_are_found, groups_are_old_or_new, group_found, deciding_rows_stay, rows_go_on, JournalFacts, state_there}
use Rattle.sc_law_entries.proofs.NamesProofs.NameLemmas.{Each-drop}
use Rattle.sc_law_groups.proofs.GroupProofs.GroupLemmas.{first_of, IsIssued, IsAnswered, h_of, Kept, Stepped, IsLater, Moved, push, log_goes_on, decided_made, or_now, issue-push, HasPlayers, MayGiveOrder, KnowsOffspring, moved}
use Rattle.sc_law_groups.specs.whole.WholeDefinitions.{stories_at, IsIssuedCall, MayQueue, IsHeardAt, IsFresh, HasSeats, AsksAre, PartiesAreApart, MergesFit}
use Rattle.sc_law_groups.proofs.WholeProofs.Apart.{IsNew, IsOldOrNew, named_apart, silent}
use Rattle.sc_law_groups.proofs.WholeProofs.FreshChildren.{fresh_children}
use Rattle.sc_law_groups.proofs.WholeProofs.Distinct.{parties_are_apart}
use Rattle.sc_law_groups.proofs.WholeProofs.Fitting.{merges_fit}
use Rattle.sc_law_groups.proofs.WholeProofs.WholePrefixes.{goes_on_from}
use Rattle.sc_law_groups.proofs.WholeProofs.Granting.{speaks}
use Rattle.sc_law_groups.proofs.WholeProofs.Growing.{grown}
use Rattle.sc_law_groups.proofs.WholeProofs.Members.{members_stay_rosters}

-- a newborn has a new name
pub newborn_is_new : (ahead : Ahead) (firsts : List Base) (rows : Rows) (row : Row Mail OrderLine) → AreFound ahead firsts rows → (base : Base) → IsNewborn ahead firsts rows row base → IsNew (groups_at ahead firsts rows) base.core.id
newborn_is_new ahead firsts rows row found base n other o same = some_none other (sym (found.known other o).birth ∙ ap (birth_at ahead firsts rows) same ∙ n.unborn)

-- the child of an entry is one of its log's
pub child_in : (group : Group) (prefix : List Command) (c : Command) (child : Base) → birth_of (state_after group prefix) c (applied (state_after group prefix) c).1 ≡ Some child → Among child (children_of group (prefix ++ c ∷ []))
child_in group [] c child e = Among-left child (option_to_list (birth_of group c (applied group c).1)) [] (subst (λ o. Among child (option_to_list o)) (sym e) (inl refl))
child_in group (d ∷ prefix) c child e =
    Among-right child (option_to_list (birth_of group d (applied group d).1)) (children_of (applied group d).0 (prefix ++ c ∷ [])) (child_in (applied group d).0 prefix c child e)

-- a call that was issued was so with one more row
issued_later : (scenario : Scenario) (rows : Rows) (row : Row Mail OrderLine) (c : Command) → IsIssuedCall scenario rows c → IsIssuedCall scenario (rows ++ row ∷ []) c
issued_later scenario rows row (Call client seq op) i = record {
  asks = i.asks;
  stands = i.stands;
  who = i.who;
  first = i.first;
  op_is = i.op_is;
  issued = i.issued;
  is_issued = issue-push client seq rows row ∙ ap (λ o. or_now o (issues client seq row) (length rows + 1)) i.is_issued;
}
issued_later scenario rows row Noop i = tt
issued_later scenario rows row _ i = tt

module _ (sources : Sources) (ahead : Ahead) (words : ℕ → ℕ → ℕ × ℕ) (scenario : Scenario) (route : Route) (start : BeginInPlace sources scenario.groups) (seats : HasSeats ahead scenario route) (asks_are : AsksAre sources scenario) where
  abbrev bases : Rows → List Base
  bases rows = groups_at ahead scenario.groups rows

  abbrev made : Rows → Base → Command → Type 0
  made = MayQueue sources ahead scenario

  abbrev heard : Rows → MailBody → Type 0
  heard = IsHeardAt sources ahead scenario

  -- what holds of a journal: of its nodes and clients, of its mail and logs, and of its groups
  pub record Holds (rows : Rows) : Type 0 where
    pub kept : Kept ahead scenario scenario.groups (bases rows) route made heard rows
    pub turn : DecideInTurn sources ahead scenario.groups [] rows
    pub fresh : (b : Base) → Among b (bases rows) → IsFresh b

  abbrev Steps : Rows → Row Mail OrderLine → Type 0
  Steps rows row = (b : Base) → Among b (bases rows) → Stepped ahead scenario scenario.groups (bases rows) route made heard rows row b

  module _ (rows : Rows) (h : Holds rows) where
    -- the groups that there are
    found : AreFound ahead scenario.groups rows
    found = groups_are_found sources ahead scenario.groups start rows h.turn

    -- what the entries of their logs record
    told : JournalFacts sources ahead scenario.groups rows
    told = deciding_rows sources ahead scenario.groups start rows h.turn

    -- each group stands among all with the state after its log
    state_is : (b : Base) → Among b (bases rows) → named_group b.core.id (world_at ahead scenario.groups rows).groups ≡ Some (decided_state ahead b rows)
    state_is b a = state_there sources ahead scenario.groups start rows told b (group_found ahead scenario.groups rows b a)

    -- the parties of a transaction are two
    apart : PartiesAreApart (stories_at ahead scenario.groups rows)
    apart = parties_are_apart sources scenario.groups start (entries_at ahead scenario.groups rows) told.allowed

    -- and those of a merge have few enough members
    fit : MergesFit (stories_at ahead scenario.groups rows)
    fit = merges_fit sources scenario.groups (λ b a. h.fresh b (found.first b a)) (entries_at ahead scenario.groups rows) told.allowed

    -- ---- the children that a row names are new

    module _ (row : Row Mail OrderLine) where
      abbrev next : Rows
      next = rows ++ row ∷ []

      abbrev added : Base → List Command
      added b = added_by ahead rows row b

      -- what it adds to a log is allowed
      allowed : Steps rows row → (b : Base) → Among b (bases rows) → Each (IsAllowed sources (stories_at ahead scenario.groups rows) b.core.id) (added b)
      allowed steps b a =
          let before = length (decided_log ahead b rows) in
          let all = decided_made ahead scenario scenario.groups (bases rows) route made heard b rows row (steps b a) in
          Each-drop (IsAllowed sources (stories_at ahead scenario.groups rows) b.core.id) before (decided_log ahead b next)
          (Each-weaker (made rows b) (IsAllowed sources (stories_at ahead scenario.groups rows) b.core.id) (λ c m. m.0) (decided_log ahead b next) all)

      -- the children that it names were created by nobody
      born : Steps rows row → (b : Base) (a : Among b (bases rows)) → BornBy b.core.id (world_at ahead scenario.groups rows) (length (decided_log ahead b rows) + 1) (decided_state ahead b rows) (added b)
      born steps b a =
          let old = entries_at ahead scenario.groups rows in
          let w = recorded_after (first_recorded scenario.groups) old in
          let store_is = store_after (first_recorded scenario.groups) old in
          let kept = kept_after sources (first_recorded scenario.groups) old (at_start sources scenario.groups start) told.allowed in
          let may = all_allowed sources scenario.groups start old told.allowed b.core.id (length (decided_log ahead b rows) + 1) (added b) (allowed steps b a) in
          subst (λ (x : StoreWorld). BornBy b.core.id x (length (decided_log ahead b rows) + 1) (decided_state ahead b rows) (added b)) store_is
          (born_by sources b.core.id w kept (decided_state ahead b rows) (ap (λ (x : StoreWorld). named_group b.core.id x.groups) store_is ∙ state_is b a) (length (decided_log ahead b rows) + 1) (added b) may)

      -- so their names are new
      new_name : Steps rows row → (b : Base) → Among b (bases rows) → (child : Base) → Among child (newborn_by ahead rows row b) → IsNew (bases rows) child.core.id
      new_name steps b a child c other o same =
          let unborn = (born steps b a).unborn child c in
          some_none (decided_state ahead other rows) (sym (state_is other o) ∙ ap (λ n. named_group n (world_at ahead scenario.groups rows).groups) same ∙ unborn)

      -- the row decides in turn
      turned : Steps rows row → DecidesInTurn sources ahead scenario.groups rows row
      turned steps = record {
        goes_on = λ b a. (drop (length (decided_log ahead b rows)) (decided_log ahead b next), log_goes_on ahead scenario scenario.groups (bases rows) route made heard b rows row (steps b a));
        allowed = allowed steps;
        unheard = λ b a child c. silent ahead child rows row (λ m x. named_apart (heard rows) (bases rows) child.core.id (new_name steps b a child c) m.body (h.kept.named m x));
      }

      -- so all rows do
      turned_all : Steps rows row → DecideInTurn sources ahead scenario.groups [] next
      turned_all steps = rows_go_on sources ahead scenario.groups rows row h.turn (turned steps)

      -- what was allowed stays so
      still : Steps rows row → (name : Draw) (c : Command) → IsAllowed sources (stories_at ahead scenario.groups rows) name c → IsAllowed sources (stories_at ahead scenario.groups next) name c
      still steps name c a = allowed_stays_allowed sources ahead scenario.groups start rows (row ∷ []) (turned_all steps) name c a

      -- and what was true in mail
      still_heard : Steps rows row → (body : MailBody) → heard rows body → heard next body
      still_heard steps (TxPrepare tx offer) t = still steps offer.part (Prepared tx offer) t
      still_heard steps (TxVote tx coord part vote) t = still steps coord (RecordVote tx vote 0) t
      still_heard steps (TxOutcome tx part outcome) t = still steps part (Finish tx outcome) t
      still_heard steps (TxWatch tx watch) t = still steps watch.part (Watched tx watch) t
      still_heard steps (TxWatched tx coord part vote) t = still steps coord (RecordWatch tx vote 0) t
      still_heard steps _ t = tt

      -- and what might be queued
      later : Steps rows row → IsLater ahead scenario scenario.groups (bases rows) route made heard rows row
      later steps = record { made_later = λ b c m. (still steps b.core.id c m.0, issued_later scenario rows row c m.1); heard_later = still_heard steps }

    -- ---- one row more

    -- a call that was issued may be queued
    issued_call : (older : Rows) (b : Base) (client seq : ℕ) (op : Op) → IsIssued scenario older client seq op → made older b (Call client seq op)
    issued_call older b client seq op i = (
      asks_are i.asks i.stands seq op i.some i.op_is ∙ ap (λ n. sources.request n seq) (sym i.who),
      record { asks = i.asks; stands = i.stands; who = i.who; first = i.some; op_is = i.op_is; issued = i.row; is_issued = i.issued },
    )

    -- the players of the scenario, and what its clients may queue
    pub players : HasPlayers ahead scenario scenario.groups (bases rows) route made
    players = record {
      seats = seats.seats;
      nodes = seats.nodes;
      numbered = seats.numbered;
      once = seats.once;
      issued = issued_call;
      some = λ older b a log all. (let roster = members_stay_rosters (group_of b) log (h.fresh b a).roster in first_of (state_after (group_of b) log).core.members roster.some);
    }

    -- a child that is created is one of the groups, under a name of its own
    offspring : KnowsOffspring ahead words scenario scenario.groups (bases rows) route made heard players rows
    offspring n b a child fact =
        let log = fact.prefix ++ fact.command ∷ [] in
        let decided = decided_log ahead b rows in
        let on = goes_on_from ahead b rows (h.kept.parts b a).lawful log fact.is_log in
        let birth = sym (births_are_children (state_after (group_of b) fact.prefix) fact.command) ∙ fact.child_is in
        record {
          among = found.prefixes b a log (drop (length log) decided) on child (child_in (group_of b) fact.prefix fact.command child birth);
          alone = λ other o same. found.apart other child o (found.prefixes b a log (drop (length log) decided) on child (child_in (group_of b) fact.prefix fact.command child birth)) same;
          open_slots = seats.open_slots;
        }

    module _ (row : Row Mail OrderLine) (may : MayGiveOrder ahead words scenario scenario.groups (bases rows) route made heard players rows row.who row.event)
        (step : IsStep (system_of ahead words scenario) rows row) where
      -- what became of each part
      moves : Moved ahead scenario scenario.groups (bases rows) route made heard rows row
      moves =
          moved ahead words scenario scenario.groups (bases rows) route made heard players rows h.kept (λ body t tx coord hint. tt)
          (λ b a. speaks sources ahead scenario start rows h.turn apart fit b a (h.kept.parts b a).lawful (h.fresh b a)) offspring (λ r steps. later r steps) row may step

      -- and of the logs alone
      steps : Steps rows row
      steps b a = (moves.parts b a).stepped

      -- the row decides in turn
      decides : DecidesInTurn sources ahead scenario.groups rows row
      decides = turned row steps

      -- each call that it decides was issued
      pub issued_now : (b : Base) → Among b (bases rows) → (client seq : ℕ) (op : Op) → Among (Call client seq op) (added_by ahead rows row b) → IsIssuedCall scenario rows (Call client seq op)
      issued_now b a client seq op c =
          let next = rows ++ row ∷ [] in
          let all = decided_made ahead scenario scenario.groups (bases rows) route made heard b rows row (steps b a) in
          let each = Each-drop (IsIssuedCall scenario rows) (length (decided_log ahead b rows)) (decided_log ahead b next)
          (Each-weaker (made rows b) (IsIssuedCall scenario rows) (λ d m. m.1) (decided_log ahead b next) all) in
          Each-among (IsIssuedCall scenario rows) (added_by ahead rows row b) (Call client seq op) each c

      -- each reply that a client keeps after it was one by the logs before it
      pub told_now : (asks : Asks) → Among asks scenario.clients → (place : ℕ) (reply : Reply) → slice_get (kept_replies route asks (rows ++ row ∷ [])) place ≡ Some reply
          → IsAnswered ahead (bases rows) (h_of rows) asks.client (place + 1) reply
      told_now asks stands place reply at =
          let old = kept_replies route asks rows in
          let next = rows ++ row ∷ [] in
          let was = h.kept.clients asks stands in
          let had = λ (e : slice_get old place ≡ Some reply). was.fact.replies place reply (subst (λ (rs : List Reply). slice_get rs place ≡ Some reply) (ap replies_of was.value_is) e) in
          elim (moves.clients asks stands).grew [
            | inl same ↦ had (subst (λ (rs : List Reply). slice_get rs place ≡ Some reply) same at)
            | inr (newest, grew, answered) ↦ elim (get_pushed old newest place reply (subst (λ (rs : List Reply). slice_get rs place ≡ Some reply) grew at)) [
              | inl e ↦ had e
              | inr (end, same) ↦ subst (λ n. IsAnswered ahead (bases rows) (h_of rows) asks.client (n + 1) reply) (sym end)
                  (subst (IsAnswered ahead (bases rows) (h_of rows) asks.client (length old + 1)) same answered)
            ]
          ]

      -- what holds of the groups that there were
      after : Kept ahead scenario scenario.groups (bases rows) route made heard (rows ++ row ∷ [])
      after = push ahead scenario scenario.groups (bases rows) route made heard rows row (later row steps) h.kept moves

      -- the groups after the row
      old_or_new : (b : Base) → Among b (bases (rows ++ row ∷ [])) → IsOldOrNew (bases rows) b
      old_or_new b a = elim (groups_are_old_or_new sources ahead scenario.groups start rows h.turn row decides b a) [ inl was ↦ inl was | inr n ↦ inr (newborn_is_new ahead scenario.groups rows row found b n, (n.parent, n.stands)) ]

      -- nothing had happened to them at their birth
      fresh_next : (b : Base) → Among b (bases (rows ++ row ∷ [])) → IsFresh b
      fresh_next b a = elim (groups_are_old_or_new sources ahead scenario.groups start rows h.turn row decides b a) [
        | inl was ↦ h.fresh b was
        | inr n ↦ fresh_children (decided_state ahead n.parent rows) (added_by ahead rows row n.parent) (members_stay_rosters (group_of n.parent) (decided_log ahead n.parent rows) (h.fresh n.parent n.stands).roster) b n.named
      ]

      -- and all holds with it
      pub holds_next : Holds (rows ++ row ∷ [])
      holds_next =
          let turn = turned_all row steps in
          let stay = deciding_rows_stay sources ahead scenario.groups start rows (row ∷ []) turn in
          record {
            kept = grown ahead scenario scenario.groups (bases rows) (bases (rows ++ row ∷ [])) route made heard (rows ++ row ∷ []) stay.groups (λ b other client seq op m. m) after old_or_new;
            turn = turn;
            fresh = fresh_next;
          }
