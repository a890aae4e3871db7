-- Where another node leads a group that is well led, or knows that it is gone: then a replica that does not lead stays so.
use Rattle.std.proofs.Common.{◌≡◌, ℕ, ◌+◌, ◌≤◌, ◌&&◌, ◌||◌, not, eqb, eq-eqb, Bool, true, false, true≢false, List, [], ◌∷◌, ◌++◌, Option, Some, None, ◌⊎◌, inl, inr, refl, sym, ◌∙◌, ap, arith}
use Rattle.std.specs.Prelude.{is_some}
use Rattle.std.specs.List.{list_any}
use Rattle.std.proofs.lemmas.Bool.{cases_Bool, and_parts, not-true}
use Rattle.sc_base.specs.Definitions.{Among}
use Rattle.sc_node_table.specs.Values.{Draw, Base, Route, Node, Client, Seat, Go}
use Rattle.sc_actor.specs.Definitions.{value, are_apart}
use Rattle.sc_live_orderly.proofs.OrderlyLemmas.{seat_found}
use Rattle.sc_node_table.specs.NodeDefinitions.{replica_of, ReplicaState, next}
use Rattle.sc_meaning.specs.sound.SoundDefinitions.{Player, player_table}
use Rattle.sc_live_steps.specs.calm.CalmDefinitions.{players, group_owes, idle_owes, Rows, is_leading, leads, led_elsewhere}
use Rattle.sc_live_steps.specs.following.FollowingDefinitions.{Course, Progress, Sets, SlotLeaders}
use Rattle.sc_live_steps.proofs.FollowingProofs.FollowingLemmas.{reached-least}
use Rattle.sc_live_journals.specs.rows.RowDefinitions.{view_at, next_in, progress_at, marks_at, IsSeat}
use Rattle.sc_live_journals.proofs.RowsProofs.RowLemmas.{view_was}
use Rattle.sc_live_journals.specs.groups.GroupDefinitions.{Ends, IsWellLed, HasOneLog}
pub use Rattle.sc_live_steps.proofs.FollowingProofs.LeaderTables.{none_there as none_of}

-- one of some passes a test
pub any_found : {X : Type 0} (p : X → Bool) (xs : List X) → list_any p xs ≡ true → (x : X) × Among x xs × (p x ≡ true)
any_found p [] e = absurd (true≢false (sym e))
any_found {X} p (x ∷ xs) e = by (p x) refl (any_found p xs) e
  where
    by : (b : Bool) → p x ≡ b → (list_any p xs ≡ true → (y : X) × Among y xs × (p y ≡ true)) → (b || list_any p xs) ≡ true → (y : X) × Among y (x ∷ xs) × (p y ≡ true)
    by true fact more e = (x, inl refl, fact)
    by false fact more e = (let f = more e in (f.0, inr f.1, f.2))

-- a group owes no less where none leads still and it is gone no more than before, or where it stands
pub owes_same : (r q : ReplicaState) → r.running ≡ false → q.running ≡ false → is_some r.group.core.gone ≡ is_some q.group.core.gone → group_owes r ≤ group_owes q
owes_same r q off off2 same = by r.running q.running r.group.core.gone q.group.core.gone off off2 same
  where
    by : (a b : Bool) (g h : Option Route) → a ≡ false → b ≡ false → is_some g ≡ is_some h → idle_owes a g ≤ idle_owes b h
    by true b g h e f s = absurd (true≢false e)
    by false true g h e f s = absurd (true≢false f)
    by false false None None e f s = omega arith
    by false false (Some x) None e f s = absurd (true≢false s)
    by false false None (Some y) e f s = absurd (true≢false (sym s))
    by false false (Some x) (Some y) e f s = omega arith

pub owes_most : (r q : ReplicaState) → q.running ≡ false → q.group.core.gone ≡ None → group_owes r ≤ group_owes q
owes_most r q off stands = by r.running q.running r.group.core.gone q.group.core.gone off stands
  where
    by : (a b : Bool) (g h : Option Route) → b ≡ false → h ≡ None → idle_owes a g ≤ idle_owes b h
    by a true g h f s = absurd (true≢false f)
    by true false g None f s = omega arith
    by false false None None f s = omega arith
    by false false (Some x) None f s = omega arith
    by a false g (Some y) f s = cc

-- another leads, or the group is gone
abbrev pub IsApart : Course → ℕ → Type 0
IsApart course who = ((course.running ≡ true) × (who ≡ course.ballot.node → ⊥)) ⊎ (course.gone ≡ true)

module _ (at : Sets) (over : Ends) (by : SlotLeaders) (words : ℕ → ℕ → ℕ × ℕ) (births : List (Seat Player)) (prefix rows more : Rows) (base : Base) (course : Course) (one : HasOneLog at over by births prefix base) (begins : prefix ≡ rows ++ more) (led : IsWellLed at over by words births rows base course) where
  abbrev name : Draw
  name = base.core.id

  abbrev now : Progress
  now = progress_at births rows base course

  -- a node comes no further than the newest state
  pub at_most : (who : ℕ) (r : ReplicaState) → view_at births rows base.core.id who ≡ Some r → next r ≤ course.newest
  at_most who r view =
      (let most = led.followed.follows.within who in
      let up = reached-least (now.next who) (now.promise who) (marks_at (players words births) rows name who) (led.followed.follows.fits who) in
      let here = ap (next_in base who) view in
      omega (arith, most, up, here))

  -- a replica whose group is gone has executed all of it
  pub gone_all : (who : ℕ) (r : ReplicaState) → view_at births rows base.core.id who ≡ Some r → is_some r.group.core.gone ≡ true → (course.gone ≡ true) × (next r ≡ course.newest)
  gone_all who r view gone =
      let over_here : over (next r) ≡ true = sym (one.states rows more who r begins view).ends ∙ gone in
      let least = led.rests (next r) over_here in
      let most = at_most who r view in
      let last : next r ≡ course.newest = omega (arith, least, most) in
      (led.ends ∙ (ap over (sym last) ∙ over_here), last)

  -- so one that has not executed all knows that its group stands
  pub stands_here : (who : ℕ) (r : ReplicaState) → view_at births rows base.core.id who ≡ Some r → next r + 1 ≤ course.newest → r.group.core.gone ≡ None
  stands_here who r view behind = elim (cases_Bool (is_some r.group.core.gone)) [
    | inl t ↦ (let all = (gone_all who r view t).1 in absurd (omega (arith, all, behind)))
    | inr f ↦ none_of r.group.core.gone f
  ]

  -- one that leads elsewhere, or knows there that the group is gone
  module _ (who : ℕ) (seat : Seat Player) (born : IsSeat births seat) (other : eqb seat.who who ≡ false) where
    leads_here : (r : ReplicaState) → view_at births rows base.core.id seat.who ≡ Some r → (r.running || is_some r.group.core.gone) ≡ true → IsApart course who
    leads_here r view lead = elim (cases_Bool r.running) [
      | inl runs ↦ (let g = led.followed.given.gives seat.who r view runs in inl (g.0.runs, λ mine. true≢false (sym (eq-eqb seat.who who (g.1 ∙ sym mine)) ∙ other)))
      | inr off ↦ inr (gone_all seat.who r view (sym (ap (λ b. b || is_some r.group.core.gone) off) ∙ lead)).0
    ]

    found_here : (o : Option ReplicaState) → view_at births rows base.core.id seat.who ≡ o → is_leading o ≡ true → IsApart course who
    found_here None view lead = absurd (true≢false (sym lead))
    found_here (Some r) view lead = leads_here r view lead

    plays_here : (player : Player) → value player_table seat rows ≡ player → leads base.core.id player ≡ true → IsApart course who
    plays_here (Client client) fact lead = absurd (true≢false (sym lead))
    plays_here (Node node) fact lead = found_here (replica_of name node.replicas) (view_was births rows seat Go name born (Node node) fact) lead

  pub elsewhere_apart : are_apart births ≡ true → (who : ℕ) → led_elsewhere births rows who base.core.id ≡ true → IsApart course who
  elsewhere_apart apart who e =
      let test : Seat Player → Bool = λ seat. not (eqb seat.who who) && leads name (value player_table seat rows) in
      let f = any_found test births e in
      let parts = and_parts (not (eqb f.0.who who)) (leads name (value player_table f.0 rows)) f.2 in
      plays_here who f.0 (seat_found births f.0 apart f.1) (not-true (eqb f.0.who who) parts.0) (value player_table f.0 rows) refl parts.1

  -- then none runs here
  pub apart_off : (who : ℕ) (r : ReplicaState) → view_at births rows base.core.id who ≡ Some r → IsApart course who → r.running ≡ false
  apart_off who r view apart = elim (cases_Bool r.running) [
    | inl runs ↦ (let g = led.followed.given.gives who r view runs in elim apart [
      | inl another ↦ absurd (another.1 g.1)
      | inr gone ↦ absurd (true≢false (sym gone ∙ g.0.stands))
    ])
    | inr off ↦ off
  ]
