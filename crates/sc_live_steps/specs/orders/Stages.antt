-- The stages of an order that is under way: exactly one of them stands.
use Rattle.std.specs.Prelude.{◌≡◌, ℕ, Bool, true, List, [], ◌∷◌, if◌then◌else◌, Some}
use Rattle.sc_base.specs.Definitions.{Each}
use Rattle.sc_node_table.specs.Values.{Draw}
use Rattle.sc_live_steps.specs.orders.Scenes.{Turn, First, Lone, Next, is_watch, Bond, Unbound, Asking, Bound, Errand, Question, Elsewhere, Reply, Result, Work, Changes, Opens, Answers, Records, GivesUp, Ends, Here, free, Scene, IsOnly, AreApart}

-- A transaction that is not decided: its name, its coordinator and the node that leads that, the group that is asked, and the turn.
pub record Deal : Type 0 where
  pub tx : Draw
  pub coord : Draw
  pub chief : ℕ
  pub asked : Draw
  pub turn : Turn

-- How far the outcome is on its way to a party: its mail is under way, or it is work at the party's leader.
pub data Leg : Type 0 where
  Mailed : Leg
  Filed : Leg

-- A party bound in a decided transaction: the group, the node that leads it, and how far the outcome is.
pub record Party : Type 0 where
  pub group : Draw
  pub host : ℕ
  pub leg : Leg

-- Where an order stands: nothing is under way; its command is work at its group's leader; the coordinator's question is under way;
-- the reply is under way that the question has to be asked at another node; the question is work at the group that is asked;
-- that group's vote is under way, or is work at the coordinator; the outcome comes to one party, or to two.
pub data Stage : Type 0 where
  Still : Stage
  Ordered : (group : Draw) (chief : ℕ) (work : Work) → Stage
  Asks : (deal : Deal) (to : ℕ) → Stage
  SentOn : (deal : Deal) → Stage
  Weighs : (deal : Deal) (host : ℕ) → Stage
  Replied : (deal : Deal) (agreed : Bool) (host : ℕ) → Stage
  Recorded : (deal : Deal) (agreed : Bool) (host : ℕ) → Stage
  Closes : (tx : Draw) (party : Party) → Stage
  ClosesBoth : (tx : Draw) (one two : Party) → Stage

-- ---- the groups that have a part in a stage

-- The coordinator's name and part, with this work and these errands.
abbrev pub coordinator : Deal → List Work → List Errand → Draw × Here
coordinator deal work errands = (deal.coord, record { bond = Asking deal.tx deal.asked deal.turn; work = work; errands = errands })

-- The name and part of the group that is asked, with this bond, work and errands.
abbrev pub asked_one : Deal → Bond → List Work → List Errand → Draw × Here
asked_one deal bond work errands = (deal.asked, record { bond = bond; work = work; errands = errands })

-- The name and part of the participant that was heard before, if there is one.
abbrev pub heard : Draw → Turn → List (Draw × Here)
heard tx First = []
heard tx Lone = []
heard tx (Next part host) = (part, record { bond = Bound tx; work = []; errands = [] }) ∷ []

-- The bond by a vote: only a Yes binds.
abbrev pub bound_by : Bool → Draw → Bond
bound_by agreed tx = if agreed then Bound tx else Unbound

-- The part of a party to which the outcome comes.
abbrev pub closing : Draw → Leg → ℕ → Here
closing tx Mailed host = record { bond = Bound tx; work = []; errands = Result tx host ∷ [] }
closing tx Filed host = record { bond = Bound tx; work = Ends tx ∷ []; errands = [] }

-- The name and part of a party to which the outcome comes.
abbrev pub party_of : Draw → Party → Draw × Here
party_of tx party = (party.group, closing tx party.leg party.host)

-- The groups that have a part in a stage, with their parts; every other group is free.
abbrev pub parties_of : Stage → List (Draw × Here)
parties_of Still = []
parties_of (Ordered group chief work) = (group, record { bond = Unbound; work = work ∷ []; errands = [] }) ∷ []
parties_of (Asks deal to) = coordinator deal [] [] ∷ asked_one deal Unbound [] (Question deal.tx deal.coord (is_watch deal.turn) deal.chief to ∷ []) ∷ heard deal.tx deal.turn
parties_of (SentOn deal) = coordinator deal [] (Elsewhere deal.tx deal.chief ∷ []) ∷ asked_one deal Unbound [] [] ∷ heard deal.tx deal.turn
parties_of (Weighs deal host) = coordinator deal [] [] ∷ asked_one deal Unbound (Answers deal.tx deal.coord (is_watch deal.turn) deal.chief ∷ []) [] ∷ heard deal.tx deal.turn
parties_of (Replied deal agreed host) = coordinator deal [] (Reply deal.tx (is_watch deal.turn) agreed host deal.chief ∷ []) ∷ asked_one deal (bound_by agreed deal.tx) [] [] ∷ heard deal.tx deal.turn
parties_of (Recorded deal agreed host) = coordinator deal (Records deal.tx (is_watch deal.turn) agreed host ∷ []) [] ∷ asked_one deal (bound_by agreed deal.tx) [] [] ∷ heard deal.tx deal.turn
parties_of (Closes tx party) = party_of tx party ∷ []
parties_of (ClosesBoth tx one two) = party_of tx one ∷ party_of tx two ∷ []

-- ---- the nodes that have to lead

-- The participant that was heard before, with the node that leads it.
abbrev pub heard_lead : Turn → List (Draw × ℕ)
heard_lead First = []
heard_lead Lone = []
heard_lead (Next part host) = (part, host) ∷ []

-- The groups that have to have a certain leader at this stage, with that node.
abbrev pub leads_of : Stage → List (Draw × ℕ)
leads_of Still = []
leads_of (Ordered group chief work) = (group, chief) ∷ []
leads_of (Asks deal to) = (deal.coord, deal.chief) ∷ heard_lead deal.turn
leads_of (SentOn deal) = (deal.coord, deal.chief) ∷ heard_lead deal.turn
leads_of (Weighs deal host) = (deal.coord, deal.chief) ∷ (deal.asked, host) ∷ heard_lead deal.turn
leads_of (Replied deal agreed host) = (deal.coord, deal.chief) ∷ (deal.asked, host) ∷ heard_lead deal.turn
leads_of (Recorded deal agreed host) = (deal.coord, deal.chief) ∷ (deal.asked, host) ∷ heard_lead deal.turn
leads_of (Closes tx party) = (party.group, party.host) ∷ []
leads_of (ClosesBoth tx one two) = (one.group, one.host) ∷ (two.group, two.host) ∷ []

-- ---- what else holds

-- The work is the command of an order.
abbrev pub IsOrder : Work → Type 0
IsOrder Changes = Unit {0}
IsOrder (Opens tx) = Unit {0}
IsOrder (Answers tx coord watch by) = ⊥
IsOrder (Records tx watch agreed by) = ⊥
IsOrder (GivesUp tx) = ⊥
IsOrder (Ends tx) = ⊥

-- A watcher's vote is a Yes; a participant's may be either.
abbrev pub IsVote : Turn → Bool → Type 0
IsVote First agreed = Unit {0}
IsVote Lone agreed = agreed ≡ true
IsVote (Next part host) agreed = agreed ≡ true

-- What the stage says of its own values: the work is an order's, and a watcher's vote is a Yes.
abbrev pub IsSound : Stage → Type 0
IsSound Still = Unit {0}
IsSound (Ordered group chief work) = IsOrder work
IsSound (Asks deal to) = Unit {0}
IsSound (SentOn deal) = Unit {0}
IsSound (Weighs deal host) = Unit {0}
IsSound (Replied deal agreed host) = IsVote deal.turn agreed
IsSound (Recorded deal agreed host) = IsVote deal.turn agreed
IsSound (Closes tx party) = Unit {0}
IsSound (ClosesBoth tx one two) = Unit {0}

-- This stage stands: its groups have these parts, no other group has any, and the nodes that it names lead.
pub record IsAt (stage : Stage) (now : Scene) : Type 0 where
  pub parties : IsOnly free (parties_of stage) now.at
  pub leads : Each (λ lead. now.lead lead.0 ≡ Some lead.1) (leads_of stage)
  pub apart : AreApart (parties_of stage)
  pub sound : IsSound stage

-- Some stage stands.
abbrev pub IsUnderWay : Scene → Type 0
IsUnderWay now = (stage : Stage) × IsAt stage now

-- Nothing is under way: no mail of a transaction, and no work at any leader.
pub record IsQuiet (now : Scene) : Type 0 where
  pub errands : (group : Draw) → (now.at group).errands ≡ []
  pub work : (group : Draw) → (now.at group).work ≡ []
