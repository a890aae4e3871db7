-- Small runs of the group machine, computed: joins, leaves, a split, and the refusals of each in their order.
use Rattle.std.proofs.Common.{◌≡◌, ℕ, ◌^◌, List, [], ◌∷◌, Some, None, refl}
use Rattle.sc_base.specs.declared.names.Draw.{Draw}
use Rattle.sc_words.specs.declared.commands.bodies.Body.TheVariants.{Merge, Split as Divide}
use Rattle.sc_words.specs.declared.commands.commands.Command.{Command}
use Rattle.sc_words.specs.declared.commands.commands.Command.TheVariants.{Join, Leave, Split, RecordWatch}
use Rattle.sc_words.specs.declared.commands.cores.Core.{Core}
use Rattle.sc_words.specs.declared.commands.cores.Lock.TheVariants.{Free, Coordinating}
use Rattle.sc_words.specs.declared.commands.effects.Effect.{Effect}
use Rattle.sc_words.specs.declared.commands.effects.Effect.TheVariants.{Changed, NoEffect, Refused}
use Rattle.sc_words.specs.declared.commands.orders.OrderRefusal.TheVariants.{NotLeader, InTransaction, BadBoundary, TooManyMembers, NotMember, LastMember, IsMember}
use Rattle.sc_words.specs.declared.commands.votes.Outcome.TheVariants.{Abort}
use Rattle.sc_words.specs.declared.commands.votes.Past.TheVariants.{Yes}
use Rattle.sc_group_table.specs.machine.MachineDefinitions.{group_of, applied, refusal_of, left_core, right_core, right_succ}

abbrev draw : ℕ → ℕ → Draw
draw node count = record { node = node; count = count }

-- a group that holds the whole ring and is its own successor
abbrev core : List ℕ → Core
core members = record {
  id = draw 0 1;
  first = 1;
  arc = record { lo = 0; len = 2 ^ 32 };
  members = members;
  succ = record { group = draw 0 1; members = members };
  pred = record { group = draw 0 1; members = members };
  lock = Free;
  begun = 0;
  decided = [];
  voted = [];
  born = [];
  gone = None;
}

abbrev five : List ℕ
five = 1 ∷ 2 ∷ 3 ∷ 4 ∷ 5 ∷ []

abbrev nine : List ℕ
nine = 1 ∷ 2 ∷ 3 ∷ 4 ∷ 5 ∷ 6 ∷ 7 ∷ 8 ∷ 9 ∷ []

-- of five members the first three stay, and each part names the other as its neighbours
split_plan_left : left_core (core five) 1828716544 (draw 1 1) ≡ record {
  id = draw 0 1;
  first = 1;
  arc = record { lo = 0; len = 1828716544 };
  members = 1 ∷ 2 ∷ 3 ∷ [];
  succ = record { group = draw 1 1; members = 4 ∷ 5 ∷ [] };
  pred = record { group = draw 1 1; members = 4 ∷ 5 ∷ [] };
  lock = Free;
  begun = 0;
  decided = [];
  voted = [];
  born = draw 1 1 ∷ [];
  gone = None;
}
split_plan_left = refl

split_plan_right : right_core (core five) 1828716544 (draw 1 1) ≡ record {
  id = draw 1 1;
  first = 4;
  arc = record { lo = 1828716544; len = 2466250752 };
  members = 4 ∷ 5 ∷ [];
  succ = record { group = draw 0 1; members = 1 ∷ 2 ∷ 3 ∷ [] };
  pred = record { group = draw 0 1; members = 1 ∷ 2 ∷ 3 ∷ [] };
  lock = Free;
  begun = 0;
  decided = [];
  voted = [];
  born = [];
  gone = None;
}
split_plan_right = refl

abbrev effect : Core → Command → Effect
effect core command = (applied (group_of (record { core = core; pairs = []; clients = [] })) command).1

abbrev members_after : Core → Command → List ℕ
members_after core command = (applied (group_of (record { core = core; pairs = []; clients = [] })) command).0.core.members

joins : members_after (core (1 ∷ 3 ∷ [])) (Join 2 1) ≡ 1 ∷ 2 ∷ 3 ∷ []
joins = refl

leaves : members_after (core five) (Leave 3 1) ≡ 1 ∷ 2 ∷ 4 ∷ 5 ∷ []
leaves = refl

-- the refusals of a group that may take part in nothing: its lock counts before all else
abbrev locked : List ℕ → Core
locked members = record (core members) { lock = Coordinating (draw 2 7) Merge 1 None }

busy : refusal_of (locked (1 ∷ [])) (Leave 2 1) ≡ Some (InTransaction (draw 2 7))
busy = refl

tenth : refusal_of (core nine) (Join 10 1) ≡ Some (TooManyMembers 10)
tenth = refl

-- a join of one of nine members is refused since it is a member
ninth : refusal_of (core nine) (Join 9 1) ≡ Some IsMember
ninth = refl

stranger : refusal_of (core (1 ∷ [])) (Leave 2 1) ≡ Some NotMember
stranger = refl

last : refusal_of (core (1 ∷ [])) (Leave 1 1) ≡ Some LastMember
last = refl

-- the boundary counts before the members
at_lo : refusal_of (core (1 ∷ [])) (Split 0 (draw 1 1) 1) ≡ Some BadBoundary
at_lo = refl

one_member : refusal_of (core (1 ∷ [])) (Split 5 (draw 1 1) 1) ≡ Some LastMember
one_member = refl

-- a draw that has named something has no effect, whatever would be refused; and a group that is gone leads nothing
abbrev decided_before : Core
decided_before = record (locked (1 ∷ [])) { decided = (draw 3 1, Abort) ∷ [] }

spent_decided : effect decided_before (Split 0 (draw 3 1) 1) ≡ NoEffect (draw 3 1)
spent_decided = refl

spent_lock : effect decided_before (Split 0 (draw 2 7) 1) ≡ NoEffect (draw 2 7)
spent_lock = refl

fresh : effect decided_before (Split 0 (draw 3 2) 1) ≡ Refused (InTransaction (draw 2 7))
fresh = refl

gone : effect (record (core five) { gone = Some (record { group = draw 0 2; lo = 0; members = 1 ∷ [] }) }) (Join 1 1) ≡ Refused (NotLeader None)
gone = refl

-- the command makes of the group what the plan says
splits : effect (core five) (Split 1828716544 (draw 1 1) 1) ≡ Changed
splits = refl

splits_by_plan : (applied (group_of (record { core = core five; pairs = []; clients = [] })) (Split 1828716544 (draw 1 1) 1)).0.core ≡ left_core (core five) 1828716544 (draw 1 1)
splits_by_plan = refl

-- by its watcher's Yes a group splits within its neighbours, also where it is its own successor, which no lawful journal has: who stood before it stays, and who stood after it stands after the child
abbrev coordinating : Core
coordinating = record (core five) { lock = Coordinating (draw 1 1) (Divide 1828716544 (draw 1 1)) 1 None }

pred_stays : (applied (group_of (record { core = coordinating; pairs = []; clients = [] })) (RecordWatch (draw 1 1) Yes 9)).0.core.pred ≡ coordinating.pred
pred_stays = refl

succ_stays : right_succ coordinating ≡ coordinating.succ
succ_stays = refl
