-- The groups that a client knows between two orders: the first ones round the ring, from the one that it reached first.
use Rattle.std.proofs.Common.{◌≡◌, ℕ, suc, ◌+◌, ◌-◌, ◌%◌, ◌^◌, ◌<◌, ◌≤◌, false, Bool, List, [], ◌∷◌, ◌++◌, length, map, take, drop, fold, Option, Some, None, inl, inr, refl, sym, ◌∙◌, ap, subst, arith, append_assoc, take-append-drop, length-append}
use Rattle.std.specs.Prelude.{is_some}
use Rattle.std.specs.Option.{option_map}
use Rattle.std.specs.Map.{lookup, set_value}
use Rattle.std.proofs.lemmas.Bool.{cond_both, cond-true, cond-false, cases_Bool, cases_lt, ltb-false}
use Rattle.std.proofs.lemmas.List.{length-take-le}
use Rattle.sc_base.specs.Definitions.{Among, Each, holds, end_of, same_draw}
use Rattle.sc_node_table.specs.Values.{Draw}
use Rattle.sc_base.proofs.Lemmas.{draw_is, same_name}
use Rattle.sc_words.proofs.PaxosProofs.PaxosLemmas.{Each-among, Each-append, Each-from_All, Each-weaker}
use Rattle.sc_client_table.specs.declared.lookup.ways.Way.{Way}
use Rattle.sc_client_table.specs.lookup.LookupDefinitions.{far, new_way, KnownGroups, way_to, better, chosen, changed, preferring, starting, learnt_from_not_mine}
use Rattle.sc_client_table.proofs.LookupProofs.ChoiceLemmas.{chooses_nearest, some_chosen}
use Rattle.sc_paxos_law.proofs.Lemmas.{from_map, Among-left, Among-right, Among-either}
use Rattle.sc_live_plain.specs.PlainDefinitions.{FollowedBy, AreRoundRing, start_of, start_known, KnowsFirst, ClientsLearnInTurn, Frame}
use Rattle.sc_live_plain.proofs.PlainRowsProofs.Lists.{map_among}

abbrev pub name_in : Draw × Way → Draw
name_in entry = entry.0

abbrev pub id_of : Frame → Draw
id_of frame = frame.core.id

-- how far a position lies behind a start
abbrev pub gap : ℕ → ℕ → ℕ
gap p lo = ((p + 2 ^ 32) - lo) % 2 ^ 32

-- a position that an arc lacks is nearer to the arc's end than to its start
pub near_behind : (p lo len : ℕ) → lo < 2 ^ 32 → 1 ≤ len → len ≤ 2 ^ 32 → len ≤ ((p + 2 ^ 32) - lo) % 2 ^ 32 → ((p + 2 ^ 32) - (lo + len) % 2 ^ 32) % 2 ^ 32 < ((p + 2 ^ 32) - lo) % 2 ^ 32
near_behind p lo len low some most lacks = omega arith

-- ---- lists

pub parts_of : {X : Type 0} (xs : List X) (x : X) → Among x xs → (a : List X) × (b : List X) × (xs ≡ a ++ x ∷ b)
parts_of [] x e = absurd e
parts_of {X} (y ∷ xs) x (inl same) = ([], xs, ap (λ (z : X). z ∷ xs) same)
parts_of {X} (y ∷ xs) x (inr e) = (let r = parts_of xs x e in (y ∷ r.0, r.1, ap (λ (l : List X). y ∷ l) r.2))

pub among_first : {X : Type 0} (reached : ℕ) (xs : List X) (x : X) → Among x (take reached xs) → Among x xs
among_first reached xs x a = subst (Among x) (take-append-drop reached xs) (Among-left x (take reached xs) (drop reached xs) a)

pub map_push : {X Y : Type 0} (f : X → Y) (xs : List X) (x : X) → map f (xs ++ x ∷ []) ≡ map f xs ++ f x ∷ []
map_push f [] x = refl
map_push f (y ∷ xs) x = ap (λ l. f y ∷ l) (map_push f xs x)

pub take_prefix : {X : Type 0} (prefix : List X) (x : X) (back : List X) → take (length prefix + 1) (prefix ++ x ∷ back) ≡ prefix ++ x ∷ []
take_prefix [] x back = refl
take_prefix {X} (y ∷ prefix) x back =
    let n : length (y ∷ prefix) + 1 ≡ suc (length prefix + 1) = omega arith in
    ap (λ m. take m ((y ∷ prefix) ++ x ∷ back)) n ∙ ap (λ (l : List X). y ∷ l) (take_prefix prefix x back)

-- in lists of one length with an end each, an equation of both
pub one_of_one : {X : Type 0} (f : X → Draw) (xs : List X) (d : Draw) → map f xs ≡ d ∷ [] → (x : X) × (xs ≡ x ∷ []) × (f x ≡ d)
one_of_one f [] d e = cc
one_of_one f (x ∷ []) d e = (x, refl, (let same : f x ≡ d = cc in same))
one_of_one f (x ∷ y ∷ xs) d e = cc

pub same_of_one : {X : Type 0} (xs : List X) (x y : X) → length xs ≤ 1 → Among x xs → Among y xs → x ≡ y
same_of_one [] x y few a b = absurd a
same_of_one (z ∷ []) x y few (inl e) (inl f) = sym e ∙ f
same_of_one (z ∷ []) x y few (inl e) (inr b) = absurd b
same_of_one (z ∷ []) x y few (inr a) b = absurd a
same_of_one (z ∷ w ∷ xs) x y few a b = absurd (omega (arith, few))

only_one : {X : Type 0} (xs : List X) (x : X) → length xs ≤ 1 → Among x xs → xs ≡ x ∷ []
only_one [] x few a = absurd a
only_one {X} (z ∷ []) x few (inl e) = ap (λ (y : X). y ∷ []) e
only_one (z ∷ []) x few (inr a) = absurd a
only_one (z ∷ w ∷ xs) x few a = absurd (omega (arith, few))

-- ---- the nearest

-- the group that is chosen is known, and none is nearer
pub record IsChosen (p : ℕ) (known : KnownGroups) (group : Draw) : Type 0 where
  pub entry : Draw × Way
  pub stands : Among entry known
  pub name : entry.0 ≡ group
  pub each : Each (λ (x : Draw × Way). far p entry.1 ≤ far p x.1) known

pub chosen_is : (p : ℕ) (known : KnownGroups) (group : Draw) → chosen p known ≡ Some group → IsChosen p known group
chosen_is p known group e =
    let n = chooses_nearest p known group e in
    let near : Draw × Way → Type 0 = λ x. far p n.way ≤ far p x.1 in
    let farther : Draw × Way → Type 0 = λ x. far p n.way < far p x.1 in
    record {
      entry = (group, n.way);
      stands = subst (Among (group, n.way)) (sym n.stands) (Among-right (group, n.way) n.before ((group, n.way) ∷ n.after) (inl refl));
      name = refl;
      each = subst (Each near) (sym n.stands)
          (Each-append near n.before ((group, n.way) ∷ n.after) (Each-from_All near n.before n.none_nearer)
          (omega arith, Each-weaker farther near (λ x less. omega (arith, less)) n.after (Each-from_All farther n.after n.each_farther)));
    }

-- of some groups one is chosen
pub one_chosen : (p : ℕ) (known : KnownGroups) → 1 ≤ length known → (group : Draw) × (chosen p known ≡ Some group)
one_chosen p known some = by (fold (better p) None known) refl
  where
    by : (o : Option (Draw × Way)) → fold (better p) None known ≡ o → (group : Draw) × (chosen p known ≡ Some group)
    by None e = absurd (some_chosen p known some e)
    by (Some entry) e = (entry.0, ap (λ (o : Option (Draw × Way)). option_map (λ (x : Draw × Way). x.0) o) e)

-- ---- what another value of a known group leaves

-- a way, if there is one, starts where another does
abbrev StartsAs : Option Way → Way → Type 0
StartsAs None way = Unit {0}
StartsAs (Some here) way = here.lo ≡ way.lo

pub set_names : (test : Draw → Bool) (known : KnownGroups) (way : Way) → map name_in (set_value test known way) ≡ map name_in known
set_names test [] way = refl
set_names test (k ∷ ks) way = cond_both (test k.0) ((k.0, way) ∷ ks) (k ∷ set_value test ks way) (λ l. map name_in l ≡ k.0 ∷ map name_in ks) (λ _. refl) (λ _. ap (λ l. k.0 ∷ l) (set_names test ks way))

set_starts : (test : Draw → Bool) (known : KnownGroups) (way : Way) → StartsAs (lookup test known) way → map start_known (set_value test known way) ≡ map start_known known
set_starts test [] way e = refl
set_starts test (k ∷ ks) way e =
    elim (cases_Bool (test k.0)) [
      | inl t ↦ (
          let lo : k.1.lo ≡ way.lo = subst (λ o. StartsAs o way) (cond-true (test k.0) (Some k.1) (lookup test ks) t) e in
          ap (map start_known) (cond-true (test k.0) ((k.0, way) ∷ ks) (k ∷ set_value test ks way) t) ∙ ap (λ n. (k.0, n) ∷ map start_known ks) (sym lo))
      | inr f ↦ (
          let rest : StartsAs (lookup test ks) way = subst (λ o. StartsAs o way) (cond-false (test k.0) (Some k.1) (lookup test ks) f) e in
          ap (map start_known) (cond-false (test k.0) ((k.0, way) ∷ ks) (k ∷ set_value test ks way) f) ∙ ap (λ l. start_known k ∷ l) (set_starts test ks way rest))
    ]

-- another value of a known group leaves the names
changed_names : (change : Way → Way) (group : Draw) (known : KnownGroups) (o : Option Way) → map name_in (changed change group known o) ≡ map name_in known
changed_names change group known None = refl
changed_names change group known (Some way) = set_names (same_draw group) known (change way)

pub started_names : (group : Draw) (lo : ℕ) (known : KnownGroups) → map name_in (starting group lo known) ≡ map name_in known
started_names group lo known = changed_names (λ way. record way { lo = lo }) group known (way_to group known)

-- nothing is known of a group whose name is not among those known
not_known : (name : Draw) (known : KnownGroups) → ((other : Draw) → Among other (map name_in known) → other ≡ name → ⊥) → way_to name known ≡ None
not_known name [] away = refl
not_known name (k ∷ ks) away =
    cond-false (same_draw name k.0) (Some k.1) (way_to name ks) (elim (cases_Bool (same_draw name k.0)) [ inl t ↦ absurd (away k.0 (inl refl) (sym (draw_is name k.0 t))) | inr f ↦ f ])
    ∙ not_known name ks (λ other a. away other (inr a))

-- of a known group its start
known_start : (known : KnownGroups) (group : Draw) (way : Way) → way_to group known ≡ Some way → Among (group, way.lo) (map start_known known)
known_start [] group way e = cc
known_start (k ∷ ks) group way e =
    elim (cases_Bool (same_draw group k.0)) [
      | inl t ↦ (
          let here : Some k.1 ≡ Some way = sym (cond-true (same_draw group k.0) (Some k.1) (way_to group ks) t) ∙ e in
          let same : k.1 ≡ way = cc in
          inl (ap (λ (w : Way). (k.0, w.lo)) same ∙ ap (λ (d : Draw). (d, way.lo)) (sym (draw_is group k.0 t))))
      | inr f ↦ inr (known_start ks group way (sym (cond-false (same_draw group k.0) (Some k.1) (way_to group ks) f) ∙ e))
    ]

-- another preferred node leaves names and starts
pub preferring_names : (group : Draw) (node : ℕ) (known : KnownGroups) → map name_in (preferring group node known) ≡ map name_in known
preferring_names group node known = changed_names (λ way. record way { preferred = Some node }) group known (way_to group known)

pub preferring_starts : (group : Draw) (node : ℕ) (known : KnownGroups) → map start_known (preferring group node known) ≡ map start_known known
preferring_starts group node known = by (way_to group known) refl
  where
    by : (o : Option Way) → way_to group known ≡ o → map start_known (changed (λ way. record way { preferred = Some node }) group known o) ≡ map start_known known
    by None e = refl
    by (Some way) e = set_starts (same_draw group) known (record way { preferred = Some node }) (subst (λ o. StartsAs o (record way { preferred = Some node })) (sym e) refl)

-- ---- round the ring

module _ (frames : List Frame) (ring : AreRoundRing frames) where
  -- groups of one name are one
  apart : (one other : Frame) → Among one frames → Among other frames → one.core.id ≡ other.core.id → one ≡ other
  apart one other a b e =
      let w = parts_of frames one a in
      elim (Among-either other w.0 (one ∷ w.1) (subst (Among other) w.2 b)) [
        | inl before ↦ absurd (Each-among (λ (o : Frame). o.core.id ≡ one.core.id → ⊥) w.0 other (ring.distinct w.0 w.1 one w.2) before (sym e))
        | inr (inl same) ↦ same
        | inr (inr behind) ↦ (
            let v = parts_of w.1 other behind in
            let whole : frames ≡ (w.0 ++ one ∷ v.0) ++ other ∷ v.1 = w.2 ∙ (ap (λ (l : List Frame). w.0 ++ one ∷ l) v.2 ∙ sym (append_assoc w.0 (one ∷ v.0) (other ∷ v.1))) in
            absurd (Each-among (λ (o : Frame). o.core.id ≡ other.core.id → ⊥) (w.0 ++ one ∷ v.0) one (ring.distinct (w.0 ++ one ∷ v.0) v.1 other whole) (Among-right one w.0 (one ∷ v.0) (inl refl)) e))
      ]

  -- the next group is nearer to a position that one lacks
  nearer : (p : ℕ) (frame other : Frame) → Among frame frames → FollowedBy frame other → holds frame.core.arc p ≡ false → gap p other.core.arc.lo < gap p frame.core.arc.lo
  nearer p frame other a k lacks =
      let arc = ring.arcs frame a in
      let out = ltb-false (((p + 2 ^ 32) - frame.core.arc.lo) % 2 ^ 32) frame.core.arc.len lacks in
      subst (λ lo. gap p lo < gap p frame.core.arc.lo) (sym k.starts) (near_behind p frame.core.arc.lo frame.core.arc.len arc.1 arc.0.some arc.0.most (omega (arith, out)))

  -- ---- the one behind the nearest

  module _ (reached : ℕ) where
    -- none of the first groups is nearer to a position
    abbrev IsNearest : ℕ → Frame → Type 0
    IsNearest p frame = (other : Frame) → Among other (take reached frames) → gap p frame.core.arc.lo ≤ gap p other.core.arc.lo

    -- the first one behind them, which follows a group
    record Follows (frame : Frame) : Type 0 where
      other : Frame
      rest : List Frame
      back_is : drop reached frames ≡ other ∷ rest
      before : FollowedBy frame other

    wrapped : (p : ℕ) (frame : Frame) → Among frame (take reached frames) → IsNearest p frame → holds frame.core.arc p ≡ false → (l : List Frame) → frames ≡ l ++ frame ∷ [] → (all : List Frame) → frames ≡ all → take reached frames ≡ all → Follows frame
    wrapped p frame a near lacks l whole [] e same = absurd (subst (Among frame) same a)
    wrapped p frame a near lacks l whole (first ∷ rest) e same =
        let k = ring.last l rest frame first whole e in
        let le = near first (subst (Among first) (sym same) (inl refl)) in
        let lt = nearer p frame first (among_first reached frames frame a) k lacks in
        absurd (omega (arith, le, lt))

    behind : (p : ℕ) (frame : Frame) → Among frame (take reached frames) → IsNearest p frame → holds frame.core.arc p ≡ false → (l b rest : List Frame) → drop reached frames ≡ rest → take reached frames ≡ l ++ frame ∷ b → frames ≡ l ++ frame ∷ (b ++ rest) → Follows frame
    behind p frame a near lacks l (other ∷ b) rest r split whole =
        let k = ring.next l (b ++ rest) frame other whole in
        let le = near other (subst (Among other) (sym split) (Among-right other l (frame ∷ other ∷ b) (inr (inl refl)))) in
        let lt = nearer p frame other (among_first reached frames frame a) k lacks in
        absurd (omega (arith, le, lt))
    behind p frame a near lacks l [] (other ∷ rest) r split whole = record { other = other; rest = rest; back_is = r; before = ring.next l rest frame other whole }
    behind p frame a near lacks l [] [] r split whole = wrapped p frame a near lacks l whole frames refl (split ∙ sym whole)

    -- the nearest of the first groups, where it lacks the position, is followed by the first one behind them
    follows : (p : ℕ) (frame : Frame) → Among frame (take reached frames) → IsNearest p frame → holds frame.core.arc p ≡ false → Follows frame
    follows p frame a near lacks =
        let w = parts_of (take reached frames) frame a in
        behind p frame a near lacks w.0 w.1 (drop reached frames) refl w.2
        (sym (take-append-drop reached frames) ∙ (ap (λ (fs : List Frame). fs ++ drop reached frames) w.2 ∙ append_assoc w.0 (frame ∷ w.1) (drop reached frames)))

  -- ---- a client learns that a key is not the chosen group's

  module _ (reached p : ℕ) (frame : Frame) (known : KnownGroups) (k : KnowsFirst frames reached known) (a : Among frame frames) (c : chosen p known ≡ Some frame.core.id) (lacks : holds frame.core.arc p ≡ false) where
    best : IsChosen p known frame.core.id
    best = chosen_is p known frame.core.id c

    count : length (take reached frames) ≡ reached
    count = length-take-le reached frames k.low

    in_prefix : Among frame (take reached frames)
    in_prefix =
        let name : Among frame.core.id (map name_in known) = subst (λ d. Among d (map name_in known)) best.name (map_among name_in known best.entry best.stands) in
        let f = from_map id_of (take reached frames) frame.core.id (subst (Among frame.core.id) k.names name) in
        subst (λ g. Among g (take reached frames)) (apart f.0 frame (among_first reached frames f.0 f.1) a f.2) f.1

    -- where a start is known, it is that of the group of its name
    start_is : 2 ≤ reached → (lo : ℕ) → Among (frame.core.id, lo) (map start_known known) → lo ≡ frame.core.arc.lo
    start_is two lo m =
        let f = from_map start_of (take reached frames) (frame.core.id, lo) (subst (Among (frame.core.id, lo)) (k.starts two) m) in
        let same : f.0 ≡ frame = apart f.0 frame (among_first reached frames f.0 f.1) a (ap (λ (s : Draw × ℕ). s.0) f.2) in
        sym (ap (λ (s : Draw × ℕ). s.1) f.2) ∙ ap (λ (g : Frame). g.core.arc.lo) same

    near : (other : Frame) → Among other (take reached frames) → gap p frame.core.arc.lo ≤ gap p other.core.arc.lo
    near other b = elim (cases_lt 1 reached) [
      | inl many ↦ (
          let two : 2 ≤ reached = omega (arith, many) in
          let mine = start_is two best.entry.1.lo (subst (λ d. Among (d, best.entry.1.lo) (map start_known known)) best.name (map_among start_known known best.entry best.stands)) in
          let o = from_map start_known known (start_of other) (subst (Among (start_of other)) (sym (k.starts two)) (map_among start_of (take reached frames) other b)) in
          let le = Each-among (λ (x : Draw × Way). far p best.entry.1 ≤ far p x.1) known o.0 best.each o.1 in
          let here = ap (gap p) mine in
          let there = ap (λ (s : Draw × ℕ). gap p s.1) o.2 in
          omega (arith, le, here, there))
      | inr one ↦ (
          let n = count in
          let same : other ≡ frame = same_of_one (take reached frames) other frame (omega (arith, n, one)) b in_prefix in
          let e = ap (λ (g : Frame). gap p g.core.arc.lo) same in
          omega (arith, e))
    ]

    next_one : Follows reached frame
    next_one = follows reached p frame in_prefix near lacks

    -- the first ones, and those behind them
    whole : frames ≡ take reached frames ++ next_one.other ∷ next_one.rest
    whole = sym (take-append-drop reached frames) ∙ ap (λ (fs : List Frame). take reached frames ++ fs) next_one.back_is

    taken : take (reached + 1) frames ≡ take reached frames ++ next_one.other ∷ []
    taken =
        ap (λ (l : List Frame). take (reached + 1) l) whole
        ∙ (ap (λ n. take (n + 1) (take reached frames ++ next_one.other ∷ next_one.rest)) (sym count) ∙ take_prefix (take reached frames) next_one.other next_one.rest)

    -- it is not known
    is_new : (groups : KnownGroups) → map name_in groups ≡ map id_of (take reached frames) → way_to frame.core.succ.group groups ≡ None
    is_new groups names = not_known frame.core.succ.group groups (λ d m e. (
        let f = from_map id_of (take reached frames) d (subst (Among d) names m) in
        Each-among (λ (o : Frame). o.core.id ≡ next_one.other.core.id → ⊥) (take reached frames) f.0 (ring.distinct (take reached frames) next_one.rest next_one.other whole) f.1 (f.2 ∙ (e ∙ next_one.before.name))))

    abbrev started : KnownGroups
    started = starting frame.core.id frame.core.arc.lo known

    names_started : map name_in (starting frame.core.id frame.core.arc.lo known) ≡ map id_of (take reached frames)
    names_started = started_names frame.core.id frame.core.arc.lo known ∙ k.names

    abbrev entry : Draw × Way
    entry = (frame.core.succ.group, new_way (end_of frame.core.arc) frame.core.succ.members)

    learnt : learnt_from_not_mine frame.core.id frame.core.arc frame.core.succ known ≡ started ++ entry ∷ []
    learnt =
        cond-false (is_some (way_to frame.core.succ.group started)) (starting frame.core.succ.group (end_of frame.core.arc) started) (started ++ entry ∷ [])
        (ap is_some (is_new (starting frame.core.id frame.core.arc.lo known) names_started))

    names_after : map name_in (learnt_from_not_mine frame.core.id frame.core.arc frame.core.succ known) ≡ map id_of (take (reached + 1) frames)
    names_after =
        ap (λ l. map name_in l) learnt
        ∙ (map_push name_in started entry
        ∙ (ap (λ l. l ++ frame.core.succ.group ∷ []) names_started
        ∙ (ap (λ d. map id_of (take reached frames) ++ d ∷ []) next_one.before.name
        ∙ (sym (map_push id_of (take reached frames) next_one.other)
        ∙ ap (λ l. map id_of l) (sym taken)))))

    -- all starts are known now
    starts_many : 2 ≤ reached → map start_known (starting frame.core.id frame.core.arc.lo known) ≡ map start_of (take reached frames)
    starts_many two = by (way_to frame.core.id known) refl
      where
        by : (o : Option Way) → way_to frame.core.id known ≡ o → map start_known (changed (λ way. record way { lo = frame.core.arc.lo }) frame.core.id known o) ≡ map start_of (take reached frames)
        by None e = k.starts two
        by (Some way) e =
            (let lo : way.lo ≡ frame.core.arc.lo = start_is two way.lo (known_start known frame.core.id way e) in
            set_starts (same_draw frame.core.id) known (record way { lo = frame.core.arc.lo }) (subst (λ o. StartsAs o (record way { lo = frame.core.arc.lo })) (sym e) lo) ∙ k.starts two)

    starts_one : reached ≤ 1 → map start_known (starting frame.core.id frame.core.arc.lo known) ≡ map start_of (take reached frames)
    starts_one few =
        let n = count in
        let prefix_is : take reached frames ≡ frame ∷ [] = only_one (take reached frames) frame (omega (arith, n, few)) in_prefix in
        let one = one_of_one name_in known frame.core.id (k.names ∙ ap (λ l. map id_of l) prefix_is) in
        let same = same_name frame.core.id one.0.0 (sym one.2) in
        ap (λ l. map start_known (starting frame.core.id frame.core.arc.lo l)) one.1
        ∙ (ap (λ o. map start_known (changed (λ way. record way { lo = frame.core.arc.lo }) frame.core.id (one.0 ∷ []) o)) (cond-true (same_draw frame.core.id one.0.0) (Some one.0.1) None same)
        ∙ (ap (λ l. map start_known l) (cond-true (same_draw frame.core.id one.0.0) ((one.0.0, record one.0.1 { lo = frame.core.arc.lo }) ∷ []) (one.0 ∷ []) same)
        ∙ (ap (λ d. (d, frame.core.arc.lo) ∷ []) one.2 ∙ ap (λ l. map start_of l) (sym prefix_is))))

    starts_started : map start_known (starting frame.core.id frame.core.arc.lo known) ≡ map start_of (take reached frames)
    starts_started = elim (cases_lt 1 reached) [ inl many ↦ starts_many (omega (arith, many)) | inr few ↦ starts_one (omega (arith, few)) ]

    starts_after : map start_known (learnt_from_not_mine frame.core.id frame.core.arc frame.core.succ known) ≡ map start_of (take (reached + 1) frames)
    starts_after =
        ap (λ l. map start_known l) learnt
        ∙ (map_push start_known started entry
        ∙ (ap (λ l. l ++ (frame.core.succ.group, end_of frame.core.arc) ∷ []) starts_started
        ∙ (ap (λ d. map start_of (take reached frames) ++ (d, end_of frame.core.arc) ∷ []) next_one.before.name
        ∙ (ap (λ lo. map start_of (take reached frames) ++ (next_one.other.core.id, lo) ∷ []) (sym next_one.before.starts)
        ∙ (sym (map_push start_of (take reached frames) next_one.other)
        ∙ ap (λ l. map start_of l) (sym taken))))))

    more : reached + 1 ≤ length frames
    more =
        let all = ap length whole in
        let both = length-append (take reached frames) (next_one.other ∷ next_one.rest) in
        let n = count in
        omega (arith, all, both, n)

    learns_next : (way_to frame.core.succ.group known ≡ None) × KnowsFirst frames (reached + 1) (learnt_from_not_mine frame.core.id frame.core.arc frame.core.succ known)
    learns_next = (is_new known k.names, record { some = omega arith; low = more; names = names_after; starts = λ two. starts_after })

-- Between two orders a client comes to know the groups that stand round the ring, one after another, from the one that it reached first: by NotMine of the group that it chose, it learns the next one, which it did not know. Only where that first one starts may be old.
pub learn_in_turn : ClientsLearnInTurn
learn_in_turn = record {
  not_mine = λ frames reached p frame known ring k a c lacks. learns_next frames ring reached p frame known k a c lacks;
  not_leader = λ frames reached node group known k. record {
    some = k.some;
    low = k.low;
    names = preferring_names group node known ∙ k.names;
    starts = λ two. preferring_starts group node known ∙ k.starts two;
  };
  gone = λ frames frame way. record { some = omega arith; low = omega arith; names = refl; starts = λ two. absurd (omega (arith, two)) };
}
