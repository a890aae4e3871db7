-- Groups found generation by generation: with one more row, and among the groups of a journal.
use Rattle.std.proofs.Common.{◌≡◌, ℕ, zero, suc, ◌≤◌, List, [], ◌∷◌, ◌++◌, length, drop, Some, None, ◌⊎◌, inl, inr, sym, ◌∙◌, ap, subst, arith}
use Rattle.std.proofs.Math.Seq.{drop-append_seam}
use Rattle.std.specs.List.{flat_map}
use Rattle.std.specs.Option.{option_map}
use Rattle.std.proofs.lemmas.Bool.{cases_lt}
use Rattle.std.proofs.lemmas.List.{length_push}
use Rattle.sc_base.specs.Definitions.{Among, Each}
use Rattle.sc_base.specs.declared.names.Draw.{Draw}
use Rattle.sc_base.proofs.Lemmas.{draw_is}
use Rattle.sc_words.specs.declared.commands.commands.Command.{Command}
use Rattle.sc_words.specs.declared.commands.cores.Base.{Base}
use Rattle.sc_words.specs.declared.commands.orders.OrderLine.{OrderLine}
use Rattle.sc_mail.specs.declared.bodies.Mail.{Mail}
use Rattle.sc_actor.specs.declared.rows.Row.{Row}
use Rattle.sc_paxos_law.proofs.Lemmas.{Among-left, Among-right, Among-either, Among-flat_map, from_flat_map}
use Rattle.sc_words.proofs.PaxosProofs.PaxosLemmas.{find_found}
use Rattle.sc_meaning.specs.sound.SoundDefinitions.{Ahead, children_of, children_by, is_birth_of, with_descendants, groups_at, birth_at, log_by, log_at, state_at, entries_at, decided_log, decided_state, Continues}
use Rattle.sc_group_table.specs.machine.MachineDefinitions.{group_of}
use Rattle.sc_law_entries.specs.ring.RingDefinitions.{Sources, IsAllowed, stories_of}
use Rattle.sc_law_entries.proofs.RingProofs.RingLemmas.{Pairwise}
use Rattle.sc_law_entries.specs.logs.LogDefinitions.{Rows, Descends, IsFound, added_by, newborn_by, IsFoundByName}
use Rattle.sc_law_entries.proofs.LogsProofs.BirthRecords.{HaveTwoNames, find_base, find_no_base, births_from, births_still, births_named, births_apart}
use Rattle.sc_law_entries.proofs.LogsProofs.ChildrenInLogs.{children_append}

-- two groups that are found under one name are one
abbrev pub AreOne : Ahead → List Base → Rows → Type 0
AreOne ahead bases rows = (one other : Base) → IsFound ahead bases rows one → IsFound ahead bases rows other → one.core.id ≡ other.core.id → one ≡ other

-- each is found in as many generations as there are rows
abbrev pub AreNear : Ahead → List Base → Rows → Type 0
AreNear ahead bases rows = (base : Base) → IsFound ahead bases rows base → (depth : ℕ) × (depth ≤ length rows) × Descends ahead bases rows depth base

-- ---- one more row

-- what a row does of the groups that are found before it
pub record FoundInTurn (sources : Sources) (ahead : Ahead) (bases : List Base) (before : Rows) (row : Row Mail OrderLine) : Type 0 where
  pub goes_on : (base : Base) → IsFound ahead bases before base → Continues (decided_log ahead base before) (decided_log ahead base (before ++ row ∷ []))
  pub name : Draw
  pub others : (base : Base) → IsFound ahead bases before base → (base.core.id ≡ name → ⊥) → decided_log ahead base (before ++ row ∷ []) ≡ decided_log ahead base before
  pub allowed : (base : Base) → IsFound ahead bases before base → Each (IsAllowed sources (stories_of bases (entries_at ahead bases before)) base.core.id) (added_by ahead before row base)
  pub unheard : (base : Base) → IsFound ahead bases before base → (child : Base) → Among child (newborn_by ahead before row base) → decided_log ahead child (before ++ row ∷ []) ≡ []

module _ (sources : Sources) (ahead : Ahead) (bases : List Base) (before : Rows) (row : Row Mail OrderLine) (turn : FoundInTurn sources ahead bases before row) where
  abbrev next : Rows
  next = before ++ row ∷ []

  -- each log with what the row adds
  pub log_on : (base : Base) → IsFound ahead bases before base → decided_log ahead base next ≡ decided_log ahead base before ++ added_by ahead before row base
  log_on base f =
      let old = decided_log ahead base before in
      let (more, fact) = turn.goes_on base f in
      fact ∙ ap (λ cs. old ++ cs) (sym (ap (λ cs. drop (length old) cs) fact ∙ drop-append_seam old more))

  children_on : (base : Base) → IsFound ahead bases before base → children_by ahead next base ≡ children_by ahead before base ++ newborn_by ahead before row base
  children_on base f = ap (children_of (group_of base)) (log_on base f) ∙ children_append (group_of base) (decided_log ahead base before) (added_by ahead before row base)

  -- what was found is found
  pub still_descends : (depth : ℕ) (base : Base) → Descends ahead bases before depth base → Descends ahead bases next depth base
  still_descends zero base a = a
  still_descends (suc depth) base (parent, d, a) =
      (parent, still_descends depth parent d, subst (Among base) (sym (children_on parent (depth, d))) (Among-left base (children_by ahead before parent) (newborn_by ahead before row parent) a))

  -- a child that the row's own entries name
  abbrev pub IsNamedNow : Base → Type 0
  IsNamedNow child = (parent : Base) × IsFound ahead bases before parent × Among child (newborn_by ahead before row parent)

  -- it is found now, and names no children
  pub now_descends : (child : Base) → (depth : ℕ) (parent : Base) → Descends ahead bases before depth parent → Among child (newborn_by ahead before row parent) → Descends ahead bases next (suc depth) child
  now_descends child depth parent d a =
      (parent, still_descends depth parent d, subst (Among child) (sym (children_on parent (depth, d))) (Among-right child (children_by ahead before parent) (newborn_by ahead before row parent) a))

  no_children : (child : Base) → IsNamedNow child → children_by ahead next child ≡ []
  no_children child (parent, f, a) = ap (children_of (group_of child)) (turn.unheard parent f child a)

  -- what is found was found before, or is named now
  pub old_or_new : (depth : ℕ) (base : Base) → Descends ahead bases next depth base → Descends ahead bases before depth base ⊎ IsNamedNow base
  old_or_new zero base a = inl a
  old_or_new (suc depth) base (parent, d, a) = elim (old_or_new depth parent d) [
    | inl old ↦ elim (Among-either base (children_by ahead before parent) (newborn_by ahead before row parent) (subst (Among base) (children_on parent (depth, old)) a)) [
      | inl there ↦ inl (parent, old, there)
      | inr now ↦ inr (parent, (depth, old), now)
    ]
    | inr new ↦ absurd (subst (Among base) (no_children parent new) a)
  ]

  -- and in no more generations than there are rows
  pub near_on : AreNear ahead bases before → AreNear ahead bases next
  near_on near base (depth, d) =
      let longer = length_push before row in
      elim (old_or_new depth base d) [
        | inl old ↦ (let (k, le, there) = near base (depth, old) in (k, omega (arith, le, longer), still_descends k base there))
        | inr (parent, f, a) ↦ (let (k, le, there) = near parent f in (suc k, omega (arith, le, longer), now_descends base k parent there a))
      ]

-- ---- among the groups of a journal

module _ (ahead : Ahead) (bases : List Base) (rows : Rows) where
  -- the groups are found
  found_in : (depth : ℕ) (base : Base) → Among base (with_descendants ahead rows depth bases) → IsFound ahead bases rows base
  found_in zero base a = (0, a)
  found_in (suc depth) base a =
      let older = with_descendants ahead rows depth bases in
      elim (births_from older (flat_map (children_by ahead rows) older) base a) [
        | inl there ↦ found_in depth base there
        | inr named ↦ (let (parent, there, child) = from_flat_map (children_by ahead rows) older base named in let (k, d) = found_in depth parent there in (suc k, (parent, d, child)))
      ]

  pub group_found : (base : Base) → Among base (groups_at ahead bases rows) → IsFound ahead bases rows base
  group_found base a = found_in (length rows) base a

  -- under names of their own
  apart_in : (depth : ℕ) → Pairwise HaveTwoNames bases → Pairwise HaveTwoNames (with_descendants ahead rows depth bases)
  apart_in zero apart = apart
  apart_in (suc depth) apart =
      let older = with_descendants ahead rows depth bases in
      births_apart older (flat_map (children_by ahead rows) older) (apart_in depth apart)

  pub groups_apart : Pairwise HaveTwoNames bases → Pairwise HaveTwoNames (groups_at ahead bases rows)
  groups_apart apart = apart_in (length rows) apart

  -- those of a generation stay in the next ones
  stays_in : (depth more : ℕ) → depth ≤ more → (base : Base) → Among base (with_descendants ahead rows depth bases) → Among base (with_descendants ahead rows more bases)
  stays_in depth zero le base a = (let none : depth ≡ 0 = omega (arith, le) in subst (λ n. Among base (with_descendants ahead rows n bases)) none a)
  stays_in depth (suc more) le base a = elim (cases_lt more depth) [
    | inl lt ↦ (let same : depth ≡ suc more = omega (arith, le, lt) in subst (λ n. Among base (with_descendants ahead rows n bases)) same a)
    | inr ge ↦ (
        let older = with_descendants ahead rows more bases in
        births_still older (flat_map (children_by ahead rows) older) base (stays_in depth more (omega (arith, ge)) base a))
  ]

  module _ (one : AreOne ahead bases rows) where
    descendant_in : (depth : ℕ) (base : Base) → Descends ahead bases rows depth base → Among base (with_descendants ahead rows depth bases)
    descendant_in zero base a = a
    descendant_in (suc depth) base (parent, d, child) =
        let older = with_descendants ahead rows depth bases in
        let named = flat_map (children_by ahead rows) older in
        let (b, there, same) = births_named older named base (Among-flat_map (children_by ahead rows) older parent base (descendant_in depth parent d) child) in
        let fact = one b base (found_in (suc depth) b there) (suc depth, (parent, d, child)) same in
        subst (λ x. Among x (with_descendants ahead rows (suc depth) bases)) fact there

    module _ (near : AreNear ahead bases rows) where
      -- what is found is a group
      pub found_group : (base : Base) → IsFound ahead bases rows base → Among base (groups_at ahead bases rows)
      found_group base f =
          let (depth, le, d) = near base f in
          stays_in depth (length rows) le base (descendant_in depth base d)

      -- and is known by its name
      birth_is : (base : Base) → IsFound ahead bases rows base → birth_at ahead bases rows base.core.id ≡ Some base
      birth_is base f = find_base (groups_at ahead bases rows) base (found_group base f) (λ other a same. one other base (group_found other a) f same)

      pub known_by_name : (base : Base) → IsFound ahead bases rows base → IsFoundByName ahead bases rows base
      known_by_name base f = record {
        birth = birth_is base f;
        log = ap (log_by ahead rows) (birth_is base f);
        state = ap (option_map (λ b. decided_state ahead b rows)) (birth_is base f);
      }

  -- a name that none has
  pub no_birth_at : (name : Draw) → ((base : Base) → IsFound ahead bases rows base → base.core.id ≡ name → ⊥) → birth_at ahead bases rows name ≡ None
  no_birth_at name none = find_no_base (groups_at ahead bases rows) name (λ other a. none other (group_found other a))

  pub no_log_at : (name : Draw) → birth_at ahead bases rows name ≡ None → (let empty : List Command = [] in log_at ahead bases rows name ≡ empty)
  no_log_at name e = ap (log_by ahead rows) e

  pub no_state_at : (name : Draw) → birth_at ahead bases rows name ≡ None → state_at ahead bases rows name ≡ None
  no_state_at name e = ap (option_map (λ b. decided_state ahead b rows)) e

  -- who is found by a name has it
  pub birth_found : (name : Draw) (base : Base) → birth_at ahead bases rows name ≡ Some base → IsFound ahead bases rows base × (base.core.id ≡ name)
  birth_found name base e =
      let (there, same) = find_found (is_birth_of name) (groups_at ahead bases rows) base e in
      (group_found base there, draw_is base.core.id name same)
