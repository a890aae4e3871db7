-- What one more row adds to the entries.
use Rattle.std.proofs.Common.{◌≡◌, ℕ, ◌+◌, true, List, [], ◌∷◌, ◌++◌, length, map, drop, if◌then◌else◌, Option, Some, None, inl, inr, refl, sym, ◌∙◌, ap, subst}
use Rattle.std.specs.Prelude.{find}
use Rattle.std.specs.List.{flat_map}
use Rattle.std.proofs.Math.Seq.{drop-length}
use Rattle.std.proofs.lemmas.Bool.{cases_Bool, cond-true, cond-false}
use Rattle.std.proofs.lemmas.List.{map-append}
use Rattle.std.proofs.lemmas.List.Folds.{flat_map-map}
use Rattle.sc_base.proofs.NameLemmas.{draw_is}
use Rattle.sc_base.specs.Among.{Each}
use Rattle.sc_base.specs.Same.{same_draw}
use Rattle.sc_base.specs.declared.names.Draw.{Draw}
use Rattle.sc_words.specs.declared.commands.commands.Command.{Command}
use Rattle.sc_words.specs.declared.commands.cores.Base.{Base}
use Rattle.sc_words.specs.declared.commands.orders.OrderLine.{OrderLine}
use Rattle.sc_mail.specs.declared.bodies.Mail.{Mail}
use Rattle.sc_actor.specs.declared.rows.Row.{Row}
use Rattle.sc_group_table.specs.machine.Group.{group_of}
use Rattle.sc_meaning.specs.sound.Players.{as_nodes}
use Rattle.sc_paxos_law.specs.Decided.{log_of}
use Rattle.sc_meaning.specs.declared.entries.LogEntry.{LogEntry}
use Rattle.sc_meaning.specs.sound.Accepts.{accepts}
use Rattle.sc_meaning.specs.sound.GroupsOf.{children_of, children_by, is_birth_of, with_next_children, groups_at, log_by, entries_from, entries_after, entries_by_row}
use Rattle.sc_meaning.specs.sound.Logs.{rule_of, decided_log}
use Rattle.sc_world_logs.specs.Known.{Adds, IsKnown, StaysKnown}
use Rattle.sc_world_entries.specs.decided.Found.{AreKnown, AreTracked, HoldKnown, StayKnown, is_kept_of, kept_log, log_kept, length_kept, length_of, length_before, log_length, entries_behind, grown_by}
use Rattle.sc_world_logs.specs.declared.accepting.Acceptance.{Acceptance}
use Rattle.sc_world_entries.specs.declared.decided.births.Groups.{Groups}
use Rattle.sc_world_logs.specs.declared.known.Known.{Known}
use Rattle.sc_words.proofs.PaxosProofs.ListLemmas.{Each-push}
use Rattle.sc_world_entries.proofs.DecidedProofs.Families.{each_of, flat_same, known_log, log_in_is, same_groups, SameChildren}
use Rattle.sc_world_logs.proofs.Elsewhere.{accepts_elsewhere, known_elsewhere}

-- ---- other groups

-- its decided log is the same
log_elsewhere : (rows after : List (Row Mail OrderLine)) (base : Base) → accepts base.core.id after ≡ accepts base.core.id rows → decided_log as_nodes base after ≡ decided_log as_nodes base rows
log_elsewhere rows after base same = ap (log_of (rule_of as_nodes base)) same

named_log_elsewhere : (rows after : List (Row Mail OrderLine)) (name : Draw) (bases : List Base) → accepts name after ≡ accepts name rows
    → log_by as_nodes after (find (is_birth_of name) bases) ≡ log_by as_nodes rows (find (is_birth_of name) bases)
named_log_elsewhere rows after name [] same = refl
named_log_elsewhere rows after name (base ∷ bases) same = elim (cases_Bool (is_birth_of name base)) [
  | inl t ↦ (
      let here : find (is_birth_of name) (base ∷ bases) ≡ Some base = cond-true (is_birth_of name base) (Some base) (find (is_birth_of name) bases) t in
      let id : base.core.id ≡ name = draw_is base.core.id name t in
      ap (log_by as_nodes after) here
      ∙ log_elsewhere rows after base (ap (λ (n : Draw). accepts n after) id ∙ same ∙ ap (λ (n : Draw). accepts n rows) (sym id))
      ∙ ap (log_by as_nodes rows) (sym here))
  | inr f ↦ (
      let there : find (is_birth_of name) (base ∷ bases) ≡ find (is_birth_of name) bases = cond-false (is_birth_of name base) (Some base) (find (is_birth_of name) bases) f in
      ap (log_by as_nodes after) there ∙ named_log_elsewhere rows after name bases same ∙ ap (log_by as_nodes rows) (sym there))
]

-- a log that is the same has gained nothing
nothing_gained : (name : Draw) (log later : List Command) → later ≡ log → entries_after name log later ≡ []
nothing_gained name log later same =
    ap (λ (l : List Command). entries_after name log l) same ∙ ap (entries_from name (length log + 1)) (drop-length log)

-- ---- a row that accepts nothing

none_gained : {X : Type 0} (xs : List X) → flat_map (λ (x : X). let none : List LogEntry = [] in none) xs ≡ []
none_gained [] = refl
none_gained (x ∷ xs) = none_gained xs

-- no log changes where nothing is accepted
all_elsewhere : (rows after : List (Row Mail OrderLine)) → Adds None rows after → (base : Base) → SameChildren rows after base
all_elsewhere rows after adds base = ap (children_of (group_of base)) (log_elsewhere rows after base (adds base.core.id))

-- the entries of a row by the groups that stay
gained_by : (rows after : List (Row Mail OrderLine)) (bases : List Base) (base : Base) → List LogEntry
gained_by rows after bases base =
    entries_after base.core.id (log_by as_nodes rows (find (is_birth_of base.core.id) bases)) (log_by as_nodes after (find (is_birth_of base.core.id) bases))

row_gains : (rows : List (Row Mail OrderLine)) (row : Row Mail OrderLine) (bases : List Base) (f : Base → List LogEntry) → groups_at as_nodes bases (rows ++ row ∷ []) ≡ groups_at as_nodes bases rows
    → ((base : Base) → gained_by rows (rows ++ row ∷ []) (groups_at as_nodes bases rows) base ≡ f base)
    → entries_by_row as_nodes bases rows row ≡ flat_map f (groups_at as_nodes bases rows)
unfolding gained_by
row_gains rows row bases f same each =
    let after : List (Row Mail OrderLine) = rows ++ row ∷ [] in
    let old : List Base = groups_at as_nodes bases rows in
    ap
    (λ (gs : List Base). flat_map
    (λ (base : Base). entries_after base.core.id (log_by as_nodes rows (find (is_birth_of base.core.id) old)) (log_by as_nodes after (find (is_birth_of base.core.id) gs))) gs)
    same
    ∙ flat_same
    (λ (base : Base). entries_after base.core.id (log_by as_nodes rows (find (is_birth_of base.core.id) old)) (log_by as_nodes after (find (is_birth_of base.core.id) old)))
    f old (each_of _ old each)

each_elsewhere : (rows after : List (Row Mail OrderLine)) (knowns : List Known) → ((name : Draw) → accepts name after ≡ accepts name rows) → Each (IsKnown rows) knowns → Each (IsKnown after) knowns
each_elsewhere rows after [] same all = tt
each_elsewhere rows after (known ∷ knowns) same all = (known_elsewhere rows after known (same known.base.core.id) all.0, each_elsewhere rows after knowns same all.1)

gains : (rows after : List (Row Mail OrderLine)) (bases : List Base) → Adds None rows after → (base : Base) → gained_by rows after bases base ≡ []
unfolding gained_by
gains rows after bases adds base =
    nothing_gained base.core.id (log_by as_nodes rows (find (is_birth_of base.core.id) bases)) (log_by as_nodes after (find (is_birth_of base.core.id) bases))
    (named_log_elsewhere rows after base.core.id bases (adds base.core.id))

nothing_added : (bases : List Base) (rows : List (Row Mail OrderLine)) (row : Row Mail OrderLine) (groups : Groups) → Adds None rows (rows ++ row ∷ []) → groups.settled ≡ true → AreTracked bases rows groups
    → AreTracked bases (rows ++ row ∷ []) groups × (entries_by_row as_nodes bases rows row ≡ [])
nothing_added bases rows row groups adds calm found =
    let after : List (Row Mail OrderLine) = rows ++ row ∷ [] in
    let same = same_groups rows row bases (found.settled calm) (each_of (SameChildren rows after) (groups_at as_nodes bases rows) (all_elsewhere rows after adds)) in
    let nothing : Base → List LogEntry = λ (base : Base). [] in (
      record {
        known = record {
          bases_are = found.known.bases_are ∙ sym same.0;
          each = each_elsewhere rows after groups.knowns.items adds found.known.each;
        };
        settled = λ t. ap (with_next_children as_nodes after) same.0 ∙ same.1 ∙ sym same.0;
      },
      row_gains rows row bases nothing same.0 (gains rows after (groups_at as_nodes bases rows) adds) ∙ none_gained (groups_at as_nodes bases rows),
    )

-- a row that accepts nothing
pub nothing_accepted : (bases : List Base) (rows after : List (Row Mail OrderLine)) (row : Row Mail OrderLine) (groups : Groups) → after ≡ rows ++ row ∷ [] → Adds None rows after → groups.settled ≡ true
    → AreTracked bases rows groups → AreTracked bases after groups × (entries_by_row as_nodes bases rows row ≡ [])
nothing_accepted bases rows after row groups is adds calm found =
    let done = nothing_added bases rows row groups (subst (Adds None rows) is adds) calm found in
    (subst (λ (a : List (Row Mail OrderLine)). AreTracked bases a groups) (sym is) done.0, done.1)

-- ---- a row that accepts for a group

grown_of : Draw → ℕ → List Command → Base → List LogEntry
grown_of name count log base = if same_draw base.core.id name then entries_from name (count + 1) (drop count log) else []

grows : (rows after : List (Row Mail OrderLine)) (name : Draw) (acceptance : Acceptance) (bases : List Base) (knowns later : List Known) (count : ℕ) → Adds (Some (name, acceptance)) rows after
    → AreKnown rows bases knowns → AreKnown after bases later → count ≡ length (log_kept name knowns)
    → (base : Base) → gained_by rows after bases base ≡ grown_of name count (log_kept name later) base
unfolding gained_by grown_of
grows rows after name acceptance bases knowns later count adds known known_later is base = elim (cases_Bool (same_draw base.core.id name)) [
  | inl t ↦ (
      let id : base.core.id ≡ name = draw_is base.core.id name t in
      let log : List Command = log_kept name later in
      ap (λ (n : Draw). entries_after n (log_by as_nodes rows (find (is_birth_of n) bases)) (log_by as_nodes after (find (is_birth_of n) bases))) id
      ∙ ap (λ (l : List Command). entries_after name l (log_by as_nodes after (find (is_birth_of name) bases))) (sym (log_in_is rows bases knowns name known))
      ∙ ap (entries_after name (log_kept name knowns)) (sym (log_in_is after bases later name known_later))
      ∙ ap (λ (n : ℕ). entries_from name (n + 1) (drop n log)) (sym is)
      ∙ sym (cond-true (same_draw base.core.id name) (entries_from name (count + 1) (drop count log)) [] t))
  | inr f ↦
      nothing_gained base.core.id (log_by as_nodes rows (find (is_birth_of base.core.id) bases)) (log_by as_nodes after (find (is_birth_of base.core.id) bases))
      (named_log_elsewhere rows after base.core.id bases (accepts_elsewhere name acceptance rows after adds base.core.id f))
      ∙ sym (cond-false (same_draw base.core.id name) (entries_from name (count + 1) (drop count (log_kept name later))) [] f)
]

-- the groups with one more row, and what it adds, where their logs only go on
pub record GoesOn (bases : List Base) (rows after : List (Row Mail OrderLine)) (row : Row Mail OrderLine) (name : Draw) (count : ℕ) (later : List Known) : Type 0 where
  pub known : AreKnown after (groups_at as_nodes bases after) later
  pub settled : with_next_children as_nodes after (groups_at as_nodes bases after) ≡ groups_at as_nodes bases after
  pub entries : flat_map (grown_by name count (log_kept name later)) later ≡ entries_by_row as_nodes bases rows row

goes_on : (bases : List Base) (rows : List (Row Mail OrderLine)) (row : Row Mail OrderLine) (name : Draw) (acceptance : Acceptance) (knowns later : List Known) (count : ℕ)
    → Adds (Some (name, acceptance)) rows (rows ++ row ∷ []) → AreKnown rows (groups_at as_nodes bases rows) knowns → with_next_children as_nodes rows (groups_at as_nodes bases rows) ≡ groups_at as_nodes bases rows
    → StayKnown rows (rows ++ row ∷ []) knowns later → count ≡ length (log_kept name knowns) → GoesOn bases rows (rows ++ row ∷ []) row name count later
unfolding grown_of
goes_on bases rows row name acceptance knowns later count adds known settled stay is =
    let after : List (Row Mail OrderLine) = rows ++ row ∷ [] in
    let old : List Base = groups_at as_nodes bases rows in
    let same = same_groups rows row bases settled (subst (Each (SameChildren rows after)) known.bases_are stay.children) in
    let now : AreKnown after old later = record { bases_are = stay.hold.same ∙ known.bases_are; each = stay.hold.each } in
    let f : Base → List LogEntry = grown_of name count (log_kept name later) in
    record {
      known = record { bases_are = stay.hold.same ∙ known.bases_are ∙ sym same.0; each = stay.hold.each };
      settled = ap (with_next_children as_nodes after) same.0 ∙ same.1 ∙ sym same.0;
      entries =
          sym (flat_map-map f (λ (k : Known). k.base) later) ∙ ap (flat_map f) (stay.hold.same ∙ known.bases_are)
          ∙ sym (row_gains rows row bases f same.0 (grows rows after name acceptance old knowns later count adds known now is));
    }

-- a row that accepts for a group
pub one_accepted : (bases : List Base) (rows after : List (Row Mail OrderLine)) (row : Row Mail OrderLine) (name : Draw) (acceptance : Acceptance) (knowns later : List Known) (count : ℕ) → after ≡ rows ++ row ∷ []
    → Adds (Some (name, acceptance)) rows after → AreKnown rows (groups_at as_nodes bases rows) knowns → with_next_children as_nodes rows (groups_at as_nodes bases rows) ≡ groups_at as_nodes bases rows
    → StayKnown rows after knowns later → count ≡ length (log_kept name knowns) → GoesOn bases rows after row name count later
one_accepted bases rows after row name acceptance knowns later count is adds known settled stay count_is =
    subst (λ (a : List (Row Mail OrderLine)). GoesOn bases rows a row name count later) (sym is)
    (goes_on bases rows row name acceptance knowns later count (subst (Adds (Some (name, acceptance)) rows) is adds) known settled (subst (λ (a : List (Row Mail OrderLine)). StayKnown rows a knowns later) is stay) count_is)

-- ---- all groups looked for anew

gained_here : (bases : List Base) (rows : List (Row Mail OrderLine)) (row : Row Mail OrderLine) (old new : List Known)
    → AreKnown rows (groups_at as_nodes bases rows) old → AreKnown (rows ++ row ∷ []) (groups_at as_nodes bases (rows ++ row ∷ [])) new
    → flat_map (entries_behind (log_length old) new) new ≡ entries_by_row as_nodes bases rows row
gained_here bases rows row old new known known_new =
    let after : List (Row Mail OrderLine) = rows ++ row ∷ [] in
    let f : Base → List LogEntry =
    λ (base : Base). entries_after base.core.id (log_by as_nodes rows (find (is_birth_of base.core.id) (groups_at as_nodes bases rows))) (log_by as_nodes after (find (is_birth_of base.core.id) (groups_at as_nodes bases after))) in
    flat_same (entries_behind (log_length old) new) (λ (k : Known). f k.base) new
    (each_of (λ (k : Known). entries_behind (log_length old) new k ≡ f k.base) new
    (λ k. ap (λ (l : List Command). entries_after k.base.core.id l (log_kept k.base.core.id new)) (log_in_is rows (groups_at as_nodes bases rows) old k.base.core.id known)
    ∙ ap (entries_after k.base.core.id (log_by as_nodes rows (find (is_birth_of k.base.core.id) (groups_at as_nodes bases rows)))) (log_in_is after (groups_at as_nodes bases after) new k.base.core.id known_new)))
    ∙ sym (flat_map-map f (λ (k : Known). k.base) new) ∙ ap (flat_map f) known_new.bases_are

pub gained_is : (bases : List Base) (rows after : List (Row Mail OrderLine)) (row : Row Mail OrderLine) (old new : List Known) → after ≡ rows ++ row ∷ []
    → AreKnown rows (groups_at as_nodes bases rows) old → AreKnown after (groups_at as_nodes bases after) new → flat_map (entries_behind (log_length old) new) new ≡ entries_by_row as_nodes bases rows row
gained_is bases rows after row old new is known known_new =
    gained_here bases rows row old new known (subst (λ (a : List (Row Mail OrderLine)). AreKnown a (groups_at as_nodes bases a) new) is known_new)

-- ---- groups that are born

-- how long the log of a group is, as noted
length_noted : (name : Draw) (knowns : List Known) → length_of name (map length_kept knowns) ≡ length (log_kept name knowns)
length_noted name [] = refl
length_noted name (known ∷ knowns) = elim (cases_Bool (is_kept_of name known)) [
  | inl t ↦
      cond-true (is_kept_of name known) (length known.log.items) (length_of name (map length_kept knowns)) t
      ∙ ap (λ (k : Option Known). length (kept_log k)) (sym (cond-true (is_kept_of name known) (Some known) (find (is_kept_of name) knowns) t))
  | inr f ↦
      cond-false (is_kept_of name known) (length known.log.items) (length_of name (map length_kept knowns)) f ∙ length_noted name knowns
      ∙ ap (λ (k : Option Known). length (kept_log k)) (sym (cond-false (is_kept_of name known) (Some known) (find (is_kept_of name) knowns) f))
]

-- how long it was before a row
length_was : (rows after : List (Row Mail OrderLine)) (name : Draw) (acceptance : Acceptance) (bases : List Base) (knowns later : List Known) (count : ℕ) (group : Draw) → Adds (Some (name, acceptance)) rows after
    → AreKnown rows bases knowns → HoldKnown after knowns later → count ≡ length (log_kept name knowns)
    → length_before name count (map length_kept later) group ≡ length (log_kept group knowns)
length_was rows after name acceptance bases knowns later count group adds known hold is = elim (cases_Bool (same_draw group name)) [
  | inl t ↦
      cond-true (same_draw group name) count (length_of group (map length_kept later)) t ∙ is ∙ ap (λ (n : Draw). length (log_kept n knowns)) (sym (draw_is group name t))
  | inr f ↦
      cond-false (same_draw group name) count (length_of group (map length_kept later)) f ∙ length_noted group later
      ∙ ap length
      (log_in_is after bases later group (record { bases_are = hold.same ∙ known.bases_are; each = hold.each })
      ∙ named_log_elsewhere rows after group bases (accepts_elsewhere name acceptance rows after adds group f)
      ∙ sym (log_in_is rows bases knowns group known))
]

-- what a row adds, where the log that it adds to may create groups
pub born_gained : (bases : List Base) (rows after : List (Row Mail OrderLine)) (row : Row Mail OrderLine) (name : Draw) (acceptance : Acceptance) (knowns later new : List Known) (count : ℕ) → after ≡ rows ++ row ∷ []
    → Adds (Some (name, acceptance)) rows after → AreKnown rows (groups_at as_nodes bases rows) knowns → HoldKnown after knowns later → count ≡ length (log_kept name knowns)
    → AreKnown after (groups_at as_nodes bases after) new → flat_map (entries_behind (length_before name count (map length_kept later)) new) new ≡ entries_by_row as_nodes bases rows row
born_gained bases rows after row name acceptance knowns later new count is adds known hold count_is known_new =
    let lengths : List (Draw × ℕ) = map length_kept later in
    flat_same (entries_behind (length_before name count lengths) new) (entries_behind (log_length knowns) new) new
    (each_of (λ (k : Known). entries_behind (length_before name count lengths) new k ≡ entries_behind (log_length knowns) new k) new
    (λ k. ap (λ (n : ℕ). entries_from k.base.core.id (n + 1) (drop n (log_kept k.base.core.id new)))
    (length_was rows after name acceptance (groups_at as_nodes bases rows) knowns later count k.base.core.id adds known hold count_is)))
    ∙ gained_is bases rows after row knowns new is known known_new

-- ---- group by group

split_each : {X : Type 0} (P : X → Type 0) (xs : List X) (x : X) → Each P (xs ++ x ∷ []) → Each P xs × P x
split_each P [] x all = (tt, all.0)
split_each P (y ∷ xs) x all = (let more = split_each P xs x all.1 in ((all.0, more.0), more.1))

-- one group more that holds
pub hold_push : (rows after : List (Row Mail OrderLine)) (knowns later : List Known) (known next : Known) → Each (IsKnown rows) (knowns ++ known ∷ [])
    → (Each (IsKnown rows) knowns → HoldKnown after knowns later) → (IsKnown rows known → IsKnown after next × (next.base ≡ known.base)) → HoldKnown after (knowns ++ known ∷ []) (later ++ next ∷ [])
hold_push rows after knowns later known next all so_far one =
    let parts = split_each (IsKnown rows) knowns known all in
    let hold = so_far parts.0 in
    let holds = one parts.1 in
    let bases : List Known → List Base = map (λ (k : Known). k.base) in
    record {
      same =
          map-append (λ (k : Known). k.base) later (next ∷ []) ∙ ap (λ (bs : List Base). bs ++ next.base ∷ []) hold.same
          ∙ ap (λ (b : Base). bases knowns ++ b ∷ []) holds.1 ∙ sym (map-append (λ (k : Known). k.base) knowns (known ∷ []));
      each = Each-push (IsKnown after) later next hold.each holds.0;
    }

-- one group more that stays known
pub stay_push : (rows after : List (Row Mail OrderLine)) (knowns later : List Known) (known next : Known) → Each (IsKnown rows) (knowns ++ known ∷ [])
    → (Each (IsKnown rows) knowns → StayKnown rows after knowns later) → (IsKnown rows known → StaysKnown rows after known next) → StayKnown rows after (knowns ++ known ∷ []) (later ++ next ∷ [])
stay_push rows after knowns later known next all so_far one =
    let parts = split_each (IsKnown rows) knowns known all in
    let bases : List Known → List Base = map (λ (k : Known). k.base) in
    record {
      hold = hold_push rows after knowns later known next all (λ before. (so_far before).hold) (λ is. let stays = one is in (stays.fact, stays.base_is));
      children = subst (Each (SameChildren rows after)) (sym (map-append (λ (k : Known). k.base) knowns (known ∷ []))) (Each-push (SameChildren rows after) (bases knowns) known.base (so_far parts.0).children (same_children parts.1 (one parts.1)));
    }
  where
    same_children : IsKnown rows known → StaysKnown rows after known next → SameChildren rows after known.base
    same_children is stays =
        ap (λ (b : Base). children_by as_nodes after b) (sym stays.base_is)
        ∙ ap (children_of (group_of next.base)) (sym (known_log after next stays.fact))
        ∙ stays.children_are ∙ ap (children_of (group_of known.base)) (known_log rows known is)
