-- What each entry of an order leaves at the group that executes it, by the group's own table.
use Rattle.std.specs.Prelude.{◌≡◌, ℕ, true, false, List, [], ◌∷◌, Option, Some, None, is_none}
use Rattle.sc_node_table.specs.Values.{Draw, Body, Offer, Watch, Command, Join, Leave, Split, Begin, Prepared, RecordVote, Finish, Watched, RecordWatch, Free, Frozen, No, Outcome, Mail, Seat, Deliver}
use Rattle.sc_words.specs.commands.CommandDefinitions.{is_alone, is_changed, decided_in}
use Rattle.sc_words.specs.declared.commands.votes.Past.TheVariants as Cast
use Rattle.sc_words.specs.declared.commands.votes.Vote.TheVariants as Says
use Rattle.sc_group_table.specs.machine.MachineDefinitions.{applied, has_voted, vote_of, watch_vote_of}
use Rattle.sc_base.specs.Definitions.{least_of}
use Rattle.sc_node_table.specs.NodeDefinitions.{ReplicaState, name_of, mailed, before_of}
use Rattle.sc_meaning.specs.sound.SoundDefinitions.{Player}
use Rattle.sc_live_steps.specs.calm.CalmDefinitions.{Rows}
use Rattle.sc_live_steps.specs.orders.OrderDefinitions.{Turn, First, Lone, Next, is_watch, Bond, Unbound, Asking, Bound, Errand, Question, Reply, Work, Changes, Opens, Answers, Records, Ends, bound_by, results, bond_of, IsBegun}
use Rattle.sc_live_journals.specs.rows.RowDefinitions.{with_event}
use Rattle.sc_live_journals.specs.scenes.SceneRows.{NewestAreBound}
use Rattle.sc_live_journals.specs.scenes.VotesAndOrders.{IsEntry}

-- A vote comes to a replica of this group; if it stops by that, the group's newest states have this bond.
pub record IsSpoken (births : List (Seat Player)) (rows : Rows) (seat : Seat Player) (number : ℕ) (mail : Mail) (group : Draw) (bond : Bond) (r : ReplicaState) : Type 0 where
  pub named : name_of r ≡ group
  pub newest : (mailed mail.from mail.body (r, [])).0.0.running ≡ false → NewestAreBound births (with_event rows seat (Deliver number)) group bond

-- By this entry, which a vote decides, the group gets this bond, and its leader sends these errands (`IsEntry`).
abbrev pub Fits : List (Seat Player) → Rows → Seat Player → ℕ → Mail → Draw → Work → Bond → List (Draw × List Errand) → Command → ReplicaState → Type 0
Fits births rows seat number mail group work bond sent command r = IsSpoken births rows seat number mail group bond r → IsEntry births rows seat number mail group work bond sent command r

-- Which entries fit: the orders of a group that is free; a true vote of the group; a No that the coordinator records, a Yes that decides or changes the group; and an outcome that a party takes.
pub record EntriesFit : Type 0 where
  pub join : (births : List (Seat Player)) (rows : Rows) (seat : Seat Player) (number : ℕ) (mail : Mail) (group : Draw) (r : ReplicaState) (node order : ℕ) → r.group.core.lock ≡ Free
      → Fits births rows seat number mail group Changes Unbound [] (Join node order) r
  pub leave : (births : List (Seat Player)) (rows : Rows) (seat : Seat Player) (number : ℕ) (mail : Mail) (group : Draw) (r : ReplicaState) (node order : ℕ) → r.group.core.lock ≡ Free
      → Fits births rows seat number mail group Changes Unbound [] (Leave node order) r
  pub alone : (births : List (Seat Player)) (rows : Rows) (seat : Seat Player) (number : ℕ) (mail : Mail) (group : Draw) (r : ReplicaState) (at : ℕ) (child : Draw) (order : ℕ) → r.group.core.lock ≡ Free → is_alone r.group.core ≡ true
      → Fits births rows seat number mail group (Opens child) Unbound [] (Split at child order) r
  pub split_not : (births : List (Seat Player)) (rows : Rows) (seat : Seat Player) (number : ℕ) (mail : Mail) (group : Draw) (r : ReplicaState) (at : ℕ) (child : Draw) (order : ℕ) → r.group.core.lock ≡ Free
      → is_changed (applied r.group (Split at child order)).1 ≡ false → Fits births rows seat number mail group (Opens child) Unbound [] (Split at child order) r
  pub begin_not : (births : List (Seat Player)) (rows : Rows) (seat : Seat Player) (number : ℕ) (mail : Mail) (group : Draw) (r : ReplicaState) (tx : Draw) (body : Body) (order : ℕ) → r.group.core.lock ≡ Free
      → is_changed (applied r.group (Begin tx body order)).1 ≡ false → Fits births rows seat number mail group (Opens tx) Unbound [] (Begin tx body order) r
  pub split : (births : List (Seat Player)) (rows : Rows) (seat : Seat Player) (number : ℕ) (mail : Mail) (group : Draw) (r : ReplicaState) (at : ℕ) (child : Draw) (order : ℕ) → is_alone r.group.core ≡ false
      → is_changed (applied r.group (Split at child order)).1 ≡ true
      → Fits births rows seat number mail group (Opens child) (Asking child r.group.core.succ.group Lone) ((r.group.core.succ.group, Question child group true seat.who (least_of r.group.core.succ.members) ∷ []) ∷ []) (Split at child order) r
  pub begin : (births : List (Seat Player)) (rows : Rows) (seat : Seat Player) (number : ℕ) (mail : Mail) (group : Draw) (r : ReplicaState) (tx : Draw) (body : Body) (order : ℕ) → IsBegun body
      → is_changed (applied r.group (Begin tx body order)).1 ≡ true
      → Fits births rows seat number mail group (Opens tx) (Asking tx r.group.core.succ.group First) ((r.group.core.succ.group, Question tx group false seat.who (least_of r.group.core.succ.members) ∷ []) ∷ []) (Begin tx body order) r
  pub prepared : (births : List (Seat Player)) (rows : Rows) (seat : Seat Player) (number : ℕ) (mail : Mail) (group : Draw) (r : ReplicaState) (tx : Draw) (offer : Offer) (why : Option No) → r.group.core.lock ≡ Free
      → has_voted r.group.core tx ≡ false → vote_of r.group.core offer ≡ why
      → Fits births rows seat number mail group (Answers tx offer.coord false offer.by) (bound_by (is_none why) tx) ((offer.coord, Reply tx false (is_none why) seat.who offer.by ∷ []) ∷ []) (Prepared tx offer) r
  pub watched : (births : List (Seat Player)) (rows : Rows) (seat : Seat Player) (number : ℕ) (mail : Mail) (group : Draw) (r : ReplicaState) (tx : Draw) (watch : Watch) → has_voted r.group.core tx ≡ false
      → watch_vote_of r.group.core watch ≡ None
      → Fits births rows seat number mail group (Answers tx watch.coord true watch.by) (bound_by true tx) ((watch.coord, Reply tx true true seat.who watch.by ∷ []) ∷ []) (Watched tx watch) r
  pub refused : (births : List (Seat Player)) (rows : Rows) (seat : Seat Player) (number : ℕ) (mail : Mail) (group : Draw) (r : ReplicaState) (tx asked : Draw) (why : No) (by : ℕ) → bond_of r.group.core ≡ Asking tx asked First
      → Fits births rows seat number mail group (Records tx false false by) Unbound [] (RecordVote tx (Says.No why) by) r
  pub decides : (births : List (Seat Player)) (rows : Rows) (seat : Seat Player) (number : ℕ) (mail : Mail) (group : Draw) (r : ReplicaState) (tx asked : Draw) (frozen : Frozen) (outcome : Outcome) (by : ℕ) → bond_of r.group.core ≡ Asking tx asked First
      → decided_in (applied r.group (RecordVote tx (Says.Yes frozen) by)).1 ≡ Some outcome
      → Fits births rows seat number mail group (Records tx false true by) Unbound (results tx asked First by) (RecordVote tx (Says.Yes frozen) by) r
  pub hears : (births : List (Seat Player)) (rows : Rows) (seat : Seat Player) (number : ℕ) (mail : Mail) (group : Draw) (r : ReplicaState) (tx asked : Draw) (frozen : Frozen) (by : ℕ) → bond_of r.group.core ≡ Asking tx asked First
      → is_changed (applied r.group (RecordVote tx (Says.Yes frozen) by)).1 ≡ true
      → Fits births rows seat number mail group (Records tx false true by) (Asking tx frozen.succ.group (Next asked by)) ((frozen.succ.group, Question tx group true seat.who (least_of frozen.succ.members) ∷ []) ∷ []) (RecordVote tx (Says.Yes frozen) by) r
  pub watch_decides : (births : List (Seat Player)) (rows : Rows) (seat : Seat Player) (number : ℕ) (mail : Mail) (group : Draw) (r : ReplicaState) (tx asked : Draw) (turn : Turn) (outcome : Outcome) (by : ℕ) → bond_of r.group.core ≡ Asking tx asked turn
      → is_watch turn ≡ true → (turn ≡ Lone → (before_of r.group.core).heard ≡ None) → ((part : Draw) (host : ℕ) → turn ≡ Next part host → part ≡ asked → ⊥)
      → decided_in (applied r.group (RecordWatch tx Cast.Yes by)).1 ≡ Some outcome
      → Fits births rows seat number mail group (Records tx true true by) Unbound (results tx asked turn by) (RecordWatch tx Cast.Yes by) r
  pub ends : (births : List (Seat Player)) (rows : Rows) (seat : Seat Player) (number : ℕ) (mail : Mail) (group : Draw) (r : ReplicaState) (tx : Draw) (outcome done : Outcome) → bond_of r.group.core ≡ Bound tx
      → decided_in (applied r.group (Finish tx outcome)).1 ≡ Some done → Fits births rows seat number mail group (Ends tx) Unbound [] (Finish tx outcome) r
