-- What a coordinator's lock says of its body, whatever its log has.
use Rattle.std.proofs.Common.{◌≡◌, ℕ, true, List, [], ◌∷◌, Option, Some, None, refl, sym, ◌∙◌, ap, subst}
use Rattle.sc_base.specs.Definitions.{Each, IsRoster}
use Rattle.sc_node_table.specs.Values.{Draw, Body, Command, Join, Leave, Split, Begin, Core, Lock, Free, Coordinating, Promised, Watching, Heard, No}
use Rattle.sc_words.specs.declared.commands.bodies.Body.TheVariants as By
use Rattle.sc_group_table.specs.machine.MachineDefinitions.{Group, state_after, applied, refusal_of, with_node, without_node, can_split, vote_of, watch_vote_of, bound_by}
use Rattle.sc_law_entries.specs.ring.RingDefinitions.{IsShared}
use Rattle.sc_law_groups.proofs.GroupProofs.GroupLemmas.{ordered_if}
use Rattle.sc_law_entries.proofs.HistoryProofs.HistoryLemmas.{free_by}
use Rattle.sc_law_groups.proofs.WholeProofs.Coming.{comes}
use Rattle.sc_law_groups.proofs.WholeProofs.Locks.{always}
use Rattle.sc_law_groups.proofs.WholeProofs.Members.{may_split, members_after}

-- a free group coordinates nothing
no_lock : (tx : Draw) (body : Body) (order : ℕ) (got : Option Heard) → Free ≡ Coordinating tx body order got → ⊥
no_lock tx body order got e = cc

-- a vote makes no coordinator
bound_lock : (why : Option No) (bond lock : Lock) (tx : Draw) (body : Body) (order : ℕ) (got : Option Heard) → (bond ≡ Coordinating tx body order got → ⊥) → bound_by why bond lock ≡ Coordinating tx body order got → lock ≡ Coordinating tx body order got
bound_lock None bond lock tx body order got none e = absurd (none e)
bound_lock (Some reason) bond lock tx body order got none e = e

-- ---- what was heard

-- only of a merge a participant is heard and waited on
abbrev HearsMerges : Group → Type 0
HearsMerges group = (tx : Draw) (body : Body) (order : ℕ) (heard : Heard) → group.core.lock ≡ Coordinating tx body order (Some heard) → body ≡ By.Merge

-- with one command more
hears_step : (group : Group) (c : Command) → HearsMerges group → HearsMerges (applied group c).0
hears_step group c q =
    comes group (λ d x. HearsMerges x.0)
    (record {
      same = λ d effect dull. q;
      served = λ client seq op after effect fact tx body order heard e. q tx body order heard (ap (λ (core : Core). core.lock) (sym fact) ∙ e);
      joined = λ node order. ordered_if HearsMerges group.core.gone _ (with_node group node) group (λ _. q) q;
      left = λ node order. ordered_if HearsMerges group.core.gone _ (without_node group node) group (λ _. q) q;
      parted = λ at child order _. q;
      split = λ at child order _ tx body number heard e. cc;
      begun = λ t about order _ tx body number heard e. cc;
      offered = λ t offer _ tx body order heard e. q tx body order heard (bound_lock (vote_of group.core offer) (Promised t offer) group.core.lock tx body order (Some heard) (λ other. cc) e);
      asked = λ t w _ tx body order heard e. q tx body order heard (bound_lock (watch_vote_of group.core w) (Watching t w) group.core.lock tx body order (Some heard) (λ other. cc) e);
      heard = λ t order got lock frozen by tx body number heard e. (let same : By.Merge ≡ body = cc in sym same);
      ended = λ d t ends free after outcome r tx body order heard e. absurd (no_lock tx body order (Some heard) e);
      finished = λ t binds after outcome r tx body order heard e. absurd (no_lock tx body order (Some heard) e);
    }) c

-- after every log
pub hears_merges : (group : Group) (log : List Command) → group.core.lock ≡ Free → HearsMerges (state_after group log)
hears_merges group log free = always HearsMerges hears_step group log (λ tx body order heard e. absurd (no_lock tx body order (Some heard) (sym free ∙ e)))

-- ---- a split

-- what is begun has a participant
abbrev pub BeginsShared : Command → Type 0
BeginsShared c = (tx : Draw) (body : Body) (order : ℕ) → c ≡ Begin tx body order → IsShared body

-- a group that is to be split can be
abbrev SplitsFit : Group → Type 0
SplitsFit group = (tx : Draw) (at : ℕ) (child : Draw) (order : ℕ) (got : Option Heard) → group.core.lock ≡ Coordinating tx (By.Split at child) order got → can_split group.core at ≡ true

-- with one command more
splits_step : (group : Group) (c : Command) → BeginsShared c → IsRoster group.core.members → SplitsFit group → SplitsFit (applied group c).0
splits_step group c shared roster q =
    comes group (λ d x. BeginsShared d → SplitsFit x.0)
    (record {
      same = λ d effect dull _. q;
      served = λ client seq op after effect fact _ tx at child order got e. ap (λ (core : Core). can_split core at) fact ∙ q tx at child order got (ap (λ (core : Core). core.lock) (sym fact) ∙ e);
      joined = λ node number _. ordered_if SplitsFit group.core.gone (refusal_of group.core (Join node number)) (with_node group node) group
          (λ e tx at child order got l. absurd (no_lock tx (By.Split at child) order got (sym (free_by group.core.lock group.core (Join node number) e) ∙ l))) q;
      left = λ node number _. ordered_if SplitsFit group.core.gone (refusal_of group.core (Leave node number)) (without_node group node) group
          (λ e tx at child order got l. absurd (no_lock tx (By.Split at child) order got (sym (free_by group.core.lock group.core (Leave node number) e) ∙ l))) q;
      parted = λ where_to kid number e _ tx at child order got l. absurd (no_lock tx (By.Split at child) order got (sym (free_by group.core.lock group.core (Split where_to kid number) e) ∙ l));
      split = λ where_to kid number e _ tx at child order got l. (let same : where_to ≡ at = cc in subst (λ n. can_split group.core n ≡ true) same (may_split group.core where_to kid number roster e));
      begun = λ t about number e s tx at child order got l. (let same : about ≡ By.Split at child = cc in absurd (subst IsShared same (s t about number refl)));
      offered = λ t offer _ _ tx at child order got e. q tx at child order got (bound_lock (vote_of group.core offer) (Promised t offer) group.core.lock tx (By.Split at child) order got (λ other. cc) e);
      asked = λ t w _ _ tx at child order got e. q tx at child order got (bound_lock (watch_vote_of group.core w) (Watching t w) group.core.lock tx (By.Split at child) order got (λ other. cc) e);
      heard = λ t number known lock frozen by _ tx at child order got e. cc;
      ended = λ d t ends free after outcome r _ tx at child order got e. absurd (no_lock tx (By.Split at child) order got e);
      finished = λ t binds after outcome r _ tx at child order got e. absurd (no_lock tx (By.Split at child) order got e);
    }) c shared

-- after every log whose transactions have participants
pub splits_fit : (group : Group) (log : List Command) → Each BeginsShared log → IsRoster group.core.members → SplitsFit group → SplitsFit (state_after group log)
splits_fit group [] shared roster q = q
splits_fit group (c ∷ log) shared roster q = splits_fit (applied group c).0 log shared.1 (members_after group c roster) (splits_step group c shared.0 roster q)

-- a group that is free is to be split nowhere
pub none_split : (group : Group) → group.core.lock ≡ Free → SplitsFit group
none_split group free tx at child order got e = absurd (no_lock tx (By.Split at child) order got (sym free ∙ e))
