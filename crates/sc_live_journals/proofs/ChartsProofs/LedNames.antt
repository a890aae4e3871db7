-- The names of the groups that were led: more come behind those that there are, each led, and none comes twice.
use Rattle.std.proofs.Common.{◌≡◌, ℕ, zero, suc, ◌≤◌, Bool, true, false, true≢false, ◌||◌, cond, List, [], ◌∷◌, ◌++◌, length, map, take, Option, Some, None, ◌⊎◌, inl, inr, refl, sym, ◌∙◌, ap, subst, arith, append_assoc, append-nil}
use Rattle.std.specs.List.{list_any}
use Rattle.std.proofs.lemmas.Bool.{cases_Bool, cases_lt, or_left, or_parts, or_right}
use Rattle.std.proofs.lemmas.List.{length_push, take-append-le, take_all}
use Rattle.sc_base.specs.Definitions.{Among, Each, same_draw}
use Rattle.sc_node_table.specs.Values.{Draw, OrderLine, Mail, Node, Client, Seat, Row}
use Rattle.sc_base.proofs.Lemmas.{draw_is, same_name}
use Rattle.sc_actor.specs.Definitions.{value}
use Rattle.sc_words.proofs.PaxosProofs.PaxosLemmas.{Among-filter, Each-passes, find_found}
use Rattle.sc_node_table.specs.NodeDefinitions.{replica_of, ReplicaState, name_of}
use Rattle.sc_live_orderly.proofs.OrderlyLemmas.{Each-append}
use Rattle.sc_meaning.specs.sound.SoundDefinitions.{Player, player_table}
use Rattle.sc_live_steps.specs.calm.CalmDefinitions.{StandsOnce, Rows, is_leading, leads, is_led}
use Rattle.sc_live_journals.specs.charts.ChartDefinitions.{replicas_of, all_replicas, with_names, led_names, names_upto, names_at, LedStandOnce}

-- whether a name stands among some
abbrev is_seen : Draw → List Draw → Bool
is_seen name names = list_any (λ other. same_draw other name) names

-- names with one more, where it is new
abbrev with_name : List Draw → Draw → List Draw
with_name names name = cond (is_seen name names) names (names ++ name ∷ [])

-- ---- more names

-- names with more behind them, of which something holds
abbrev pub Extends : (Draw → Type 0) → List Draw → List Draw → Type 0
Extends P names after = (more : List Draw) × (after ≡ names ++ more) × Each P more

module _ (P : Draw → Type 0) where
  extends_on : (a b c : List Draw) → Extends P a b → Extends P b c → Extends P a c
  extends_on a b c one two = (one.0 ++ two.0, two.1 ∙ ap (λ names. names ++ two.0) one.1 ∙ append_assoc a one.0 two.0, Each-append P one.0 two.0 one.2 two.2)

  pub more_names : (names more : List Draw) → Each P more → Extends P names (with_names names more)
  more_names names [] each = ([], sym (append-nil names), tt)
  more_names names (name ∷ more) each = extends_on names (with_name names name) (with_names (with_name names name) more) (here (is_seen name names)) (more_names (with_name names name) more each.1)
    where
      here : (b : Bool) → Extends P names (cond b names (names ++ name ∷ []))
      here true = ([], sym (append-nil names), tt)
      here false = (name ∷ [], refl, (each.0, tt))

module _ (births : List (Seat Player)) (rows : Rows) (row : Row Mail OrderLine) where
  names_same : (n : ℕ) → n ≤ length rows → names_upto births (rows ++ row ∷ []) n ≡ names_upto births rows n
  names_same zero low = refl
  names_same (suc n) low =
      let prefix = take-append-le (suc n) rows (row ∷ []) low in
      ap (λ (prefix : Rows). with_names (names_upto births (rows ++ row ∷ []) n) (led_names births prefix)) prefix
      ∙ ap (λ names. with_names names (led_names births (take (suc n) rows))) (names_same n (omega (arith, low)))

  -- the names after one more row are those before it, with those of groups that are led now
  pub names_push : names_at births (rows ++ row ∷ []) ≡ with_names (names_at births rows) (led_names births (rows ++ row ∷ []))
  names_push =
      let long : length (rows ++ row ∷ []) ≡ suc (length rows) = (let push = length_push rows row in omega (arith, push)) in
      let whole : take (suc (length rows)) (rows ++ row ∷ []) ≡ rows ++ row ∷ [] = take_all (suc (length rows)) (rows ++ row ∷ []) (omega (arith, long)) in
      let same = names_same (length rows) (omega arith) in
      ap (names_upto births (rows ++ row ∷ [])) long ∙ (ap (λ names. with_names names (led_names births (take (suc (length rows)) (rows ++ row ∷ [])))) same ∙ ap (λ (prefix : Rows). with_names (names_at births rows) (led_names births prefix)) whole)

  -- the names grow by groups that are led
  pub names_grow : Extends (λ group. is_led births (rows ++ row ∷ []) group ≡ true) (names_at births rows) (names_at births (rows ++ row ∷ []))
  names_grow =
      let more = more_names (λ group. is_led births (rows ++ row ∷ []) group ≡ true) (names_at births rows) (led_names births (rows ++ row ∷ [])) (Each-passes (λ name. is_led births (rows ++ row ∷ []) name) (map name_of (all_replicas births (rows ++ row ∷ [])))) in
      (more.0, names_push ∙ more.1, more.2)

-- ---- no name twice

-- a group does not stand among some
abbrev IsAbsent : Draw → List Draw → Type 0
IsAbsent group names = Each (λ other. other ≡ group → ⊥) names

-- each group stands once among these names, or not at all
abbrev AreApart : List Draw → Type 0
AreApart names = (group : Draw) → StandsOnce group names ⊎ IsAbsent group names

unseen : (name : Draw) (names : List Draw) → is_seen name names ≡ false → IsAbsent name names
unseen name [] none = tt
unseen name (other ∷ names) none =
    let parts = or_parts (same_draw other name) (is_seen name names) none in
    (λ e. absurd (true≢false (sym (same_name other name e) ∙ parts.0)), unseen name names parts.1)

absent_unseen : (name : Draw) (names : List Draw) → IsAbsent name names → is_seen name names ≡ true → ⊥
absent_unseen name [] none seen = absurd (true≢false (sym seen))
absent_unseen name (other ∷ names) none seen = elim (cases_Bool (same_draw other name)) [
  | inl t ↦ none.0 (draw_is other name t)
  | inr f ↦ absent_unseen name names none.1 (sym (ap (λ b. b || is_seen name names) f) ∙ seen)
]

module _ (group name : Draw) where
  once_push : (names : List Draw) → StandsOnce group names → IsAbsent name names → StandsOnce group (names ++ name ∷ [])
  once_push [] once none = absurd once
  once_push (other ∷ names) (inl here) none = inl (here.0, Each-append (λ (another : Draw). another ≡ group → ⊥) names (name ∷ []) here.1 (λ e. none.0 (here.0 ∙ sym e), tt))
  once_push (other ∷ names) (inr there) none = inr (there.0, once_push names there.1 none.1)

  once_pushed : (names : List Draw) → IsAbsent group names → name ≡ group → StandsOnce group (names ++ name ∷ [])
  once_pushed [] none e = inl (e, tt)
  once_pushed (other ∷ names) none e = inr (none.0, once_pushed names none.1 e)

  -- one more name leaves a group that stands once
  once_with : (names : List Draw) → StandsOnce group names → StandsOnce group (with_name names name)
  once_with names once = by (is_seen name names) refl
    where
      by : (b : Bool) → is_seen name names ≡ b → StandsOnce group (cond b names (names ++ name ∷ []))
      by true seen = once
      by false new = once_push names once (unseen name names new)

  apart_with : (names : List Draw) → StandsOnce group names ⊎ IsAbsent group names → StandsOnce group (with_name names name) ⊎ IsAbsent group (with_name names name)
  apart_with names (inl once) = inl (once_with names once)
  apart_with names (inr none) = by (is_seen name names)
    where
      by : (b : Bool) → StandsOnce group (cond b names (names ++ name ∷ [])) ⊎ IsAbsent group (cond b names (names ++ name ∷ []))
      by true = inr none
      by false = elim (cases_Bool (same_draw name group)) [
        | inl t ↦ inl (once_pushed names none (draw_is name group t))
        | inr f ↦ inr (Each-append (λ (another : Draw). another ≡ group → ⊥) names (name ∷ []) none (λ e. absurd (true≢false (sym (same_name name group e) ∙ f)), tt))
      ]

-- a name that comes in stands once
once_new : (name : Draw) (names : List Draw) → AreApart names → StandsOnce name (with_name names name)
once_new name names apart = by (is_seen name names) refl (apart name)
  where
    by : (b : Bool) → is_seen name names ≡ b → StandsOnce name names ⊎ IsAbsent name names → StandsOnce name (cond b names (names ++ name ∷ []))
    by true seen (inl once) = once
    by true seen (inr none) = absurd (absent_unseen name names none seen)
    by false new (inl once) = once_push name name names once (unseen name names new)
    by false new (inr none) = once_pushed name name names none refl

once_stays : (group : Draw) (names more : List Draw) → StandsOnce group names → StandsOnce group (with_names names more)
once_stays group names [] once = once
once_stays group names (name ∷ more) once = once_stays group (with_name names name) more (once_with group name names once)

apart_more : (names more : List Draw) → AreApart names → AreApart (with_names names more)
apart_more names [] apart = apart
apart_more names (name ∷ more) apart = apart_more (with_name names name) more (λ group. apart_with group name names (apart group))

once_among : (group : Draw) (names more : List Draw) → AreApart names → Among group more → StandsOnce group (with_names names more)
once_among group names [] apart a = absurd a
once_among group names (name ∷ more) apart (inl same) = once_stays group (with_name names name) more (subst (λ (g : Draw). StandsOnce g (with_name names name)) same (once_new name names apart))
once_among group names (name ∷ more) apart (inr a) = once_among group (with_name names name) more (λ other. apart_with other name names (apart other)) a

-- ---- groups that are led

among_left : (x : Draw) (xs ys : List ReplicaState) → Among x (map name_of xs) → Among x (map name_of (xs ++ ys))
among_left x [] ys a = absurd a
among_left x (y ∷ xs) ys (inl e) = inl e
among_left x (y ∷ xs) ys (inr a) = inr (among_left x xs ys a)

among_right : (x : Draw) (xs ys : List ReplicaState) → Among x (map name_of ys) → Among x (map name_of (xs ++ ys))
among_right x [] ys a = a
among_right x (y ∷ xs) ys a = inr (among_right x xs ys a)

name_among : (r : ReplicaState) (replicas : List ReplicaState) → Among r replicas → Among (name_of r) (map name_of replicas)
name_among r [] a = absurd a
name_among r (x ∷ replicas) (inl e) = inl (ap name_of e)
name_among r (x ∷ replicas) (inr a) = inr (name_among r replicas a)

leads_named : (group : Draw) (player : Player) → leads group player ≡ true → Among group (map name_of (replicas_of player))
leads_named group (Client client) led = absurd (true≢false (sym led))
leads_named group (Node node) led = by (replica_of group node.replicas) refl led
  where
    by : (o : Option ReplicaState) → replica_of group node.replicas ≡ o → is_leading o ≡ true → Among group (map name_of node.replicas)
    by None e led' = absurd (true≢false (sym led'))
    by (Some r) e led' =
        let f = find_found (λ (x : ReplicaState). same_draw (name_of x) group) node.replicas r e in
        subst (λ (name : Draw). Among name (map name_of node.replicas)) (draw_is (name_of r) group f.1) (name_among r node.replicas f.0)

module _ (rows : Rows) (group : Draw) where
  any_named : (seats : List (Seat Player)) → list_any (λ seat. leads group (value player_table seat rows)) seats ≡ true → Among group (map name_of (all_replicas seats rows))
  any_named [] led = absurd (true≢false (sym led))
  any_named (seat ∷ seats) led = elim (cases_Bool (leads group (value player_table seat rows))) [
    | inl here ↦ among_left group (replicas_of (value player_table seat rows)) (all_replicas seats rows) (leads_named group (value player_table seat rows) here)
    | inr not_here ↦ among_right group (replicas_of (value player_table seat rows)) (all_replicas seats rows)
        (any_named seats (sym (ap (λ b. b || list_any (λ other. leads group (value player_table other rows)) seats) not_here) ∙ led))
  ]

  led_named : (births : List (Seat Player)) → is_led births rows group ≡ true → Among group (led_names births rows)
  led_named births led = Among-filter (λ name. is_led births rows name) (map name_of (all_replicas births rows)) group (any_named births led) led

-- a group is led that one of the players leads
pub led_by : (births : List (Seat Player)) (rows : Rows) (group : Draw) (seat : Seat Player) → Among seat births → leads group (value player_table seat rows) ≡ true → is_led births rows group ≡ true
led_by [] rows group seat a led = absurd a
led_by (x ∷ births) rows group seat (inl same) led =
    or_left (leads group (value player_table x rows)) (is_led births rows group) (ap (λ (s : Seat Player). leads group (value player_table s rows)) same ∙ led)
led_by (x ∷ births) rows group seat (inr a) led = or_right (leads group (value player_table x rows)) (is_led births rows group) (led_by births rows group seat a led)

module _ (births : List (Seat Player)) (rows : Rows) where
  apart_upto : (n : ℕ) → AreApart (names_upto births rows n)
  apart_upto zero = apart_more [] (led_names births []) (λ group. inr tt)
  apart_upto (suc n) = apart_more (names_upto births rows n) (led_names births (take (suc n) rows)) (apart_upto n)

  once_upto : (group : Draw) (n : ℕ) → is_led births (take n rows) group ≡ true → StandsOnce group (names_upto births rows n)
  once_upto group zero led = once_among group [] (led_names births []) (λ other. inr tt) (led_named [] group births led)
  once_upto group (suc n) led = once_among group (names_upto births rows n) (led_names births (take (suc n) rows)) (apart_upto n) (led_named (take (suc n) rows) group births led)

  once_after : (group : Draw) (n m : ℕ) → n ≤ m → is_led births (take n rows) group ≡ true → StandsOnce group (names_upto births rows m)
  once_after group n zero low led = (let none : n ≡ 0 = omega (arith, low) in once_upto group 0 (subst (λ (k : ℕ). is_led births (take k rows) group ≡ true) none led))
  once_after group n (suc m) low led = elim (cases_lt m n) [
    | inl over ↦ (let same : n ≡ suc m = omega (arith, low, over) in once_upto group (suc m) (subst (λ (k : ℕ). is_led births (take k rows) group ≡ true) same led))
    | inr under ↦ once_stays group (names_upto births rows m) (led_names births (take (suc m) rows)) (once_after group n m (omega (arith, under)) led)
  ]

-- Each group that is led after some of the rows stands once among the groups of the chart.
pub led_stand_once : LedStandOnce
led_stand_once births rows n group low led = once_after births rows group n (length rows) low led
