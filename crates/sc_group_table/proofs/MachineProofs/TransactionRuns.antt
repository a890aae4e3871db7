-- Small runs of transactions, computed: votes, a coordinator that gives up, a watcher, an outcome that cannot be taken over, and boundaries that move.
use Rattle.std.proofs.Common.{◌≡◌, ℕ, List, [], ◌∷◌, Some, None, refl}
use Rattle.sc_base.specs.declared.names.Draw.{Draw}
use Rattle.sc_words.specs.declared.commands.bodies.Body.{Body}
use Rattle.sc_words.specs.declared.commands.bodies.Body.TheVariants.{Merge, Repart}
use Rattle.sc_words.specs.declared.commands.bodies.Offer.{Offer}
use Rattle.sc_words.specs.declared.commands.bodies.Watch.{Watch}
use Rattle.sc_words.specs.declared.commands.cores.Core.{Core}
use Rattle.sc_words.specs.declared.commands.cores.Lock.{Lock}
use Rattle.sc_words.specs.declared.commands.cores.Lock.TheVariants.{Free, Coordinating, Promised, Watching}
use Rattle.sc_words.specs.declared.commands.commands.Command.TheVariants.{Begin}
use Rattle.sc_words.specs.declared.commands.effects.Effect.TheVariants.{NoEffect, Voted, Decided}
use Rattle.sc_words.specs.declared.commands.orders.OrderRefusal.TheVariants.{InTransaction, BadBoundary}
use Rattle.sc_words.specs.declared.commands.votes.Frozen.{Frozen}
use Rattle.sc_words.specs.declared.commands.votes.No.TheVariants.{Busy, Gone, Apart, TooMany}
use Rattle.sc_words.specs.declared.commands.votes.Outcome.TheVariants.{Abort, Divided}
use Rattle.sc_words.specs.declared.commands.votes.Past.TheVariants as Cast
use Rattle.sc_words.specs.declared.commands.votes.Vote.TheVariants.{Yes}
use Rattle.sc_group_table.specs.machine.MachineDefinitions.{finished, gained_core, lost_core, Group, group_of, refusal_of, kept_arc, given_up, vote_recorded, vote_of, offer_voted, watched}

abbrev draw : ℕ → ℕ → Draw
draw node count = record { node = node; count = count }

abbrev tx : Draw
tx = draw 2 7

-- the first half of the ring, and the second, each the other's neighbour
abbrev half : ℕ → ℕ → List ℕ → Lock → Core
half name lo members lock = record {
  id = draw 0 name;
  first = 1;
  arc = record { lo = lo; len = 2147483648 };
  members = members;
  succ = record { group = draw 0 9; members = members };
  pred = record { group = draw 0 8; members = members };
  lock = lock;
  begun = 0;
  decided = [];
  voted = [];
  born = [];
  gone = None;
}

abbrev group : Core → Group
group core = group_of (record { core = core; pairs = []; clients = [] })

abbrev offer : List ℕ → Body → Offer
offer members body = record {
  coord = draw 0 1;
  part = draw 0 2;
  arc = record { lo = 0; len = 2147483648 };
  members = members;
  body = body;
  by = 1;
}

abbrev five : List ℕ
five = 1 ∷ 2 ∷ 3 ∷ 4 ∷ 5 ∷ []

-- ---- votes

ten : vote_of (half 2 2147483648 (6 ∷ 7 ∷ 8 ∷ 9 ∷ 10 ∷ []) Free) (offer five Merge) ≡ Some (TooMany 10)
ten = refl

nine : vote_of (half 2 2147483648 (5 ∷ 6 ∷ 7 ∷ 8 ∷ 9 ∷ []) Free) (offer five Merge) ≡ None
nine = refl

apart : vote_of (half 2 5 five Free) (offer five Merge) ≡ Some Apart
apart = refl

busy : vote_of (half 2 5 five (Promised tx (offer five Merge))) (offer five Merge) ≡ Some (Busy tx)
busy = refl

gone : vote_of (record (half 2 5 five (Promised tx (offer five Merge))) { gone = Some (record { group = draw 0 1; lo = 0; members = five }) }) (offer five Merge) ≡ Some Gone
gone = refl

-- a vote is cast once
again : (offer_voted (record (group (half 2 2147483648 five Free)) { core = record (half 2 2147483648 five Free) { voted = (tx, Cast.Ended) ∷ [] } }) tx (offer five Merge)).1 ≡ NoEffect tx
again = refl

-- ---- a coordinator that gives up hears no Yes

abbrev frozen : Frozen
frozen = record {
  arc = record { lo = 2147483648; len = 2147483648 };
  members = five;
  succ = record { group = draw 0 1; members = five };
  pairs = [];
  clients = [];
}

abbrev waiting : Group
waiting = group (half 1 0 five (Coordinating tx Merge 1 None))

gives_up : (given_up waiting tx).1 ≡ Decided Abort
gives_up = refl

late_yes : (vote_recorded (given_up waiting tx).0.core.lock (given_up waiting tx).0 tx (Yes frozen) 1).1 ≡ NoEffect tx
late_yes = refl

-- ---- a watcher begins nothing and votes on nothing else

abbrev watch : Watch
watch = record {
  coord = draw 0 8;
  members = five;
  part = draw 0 1;
  old = draw 0 8;
  next = record { group = draw 0 7; members = five };
  by = 1;
}

abbrev watching : Core
watching = half 1 0 five (Watching tx watch)

begins_nothing : refusal_of watching (Begin (draw 3 1) Merge 1) ≡ Some (InTransaction tx)
begins_nothing = refl

votes_no : (offer_voted (group watching) (draw 3 1) (offer five Merge)).1 ≡ Voted (Cast.No (Busy tx))
votes_no = refl

another_before : (watched (group (half 1 0 five Free)) tx (record watch { old = draw 0 6 })).1 ≡ Voted (Cast.No Apart)
another_before = refl

-- ---- a group that has promised is party to no split

divided : (finished (Promised tx (offer five Merge)) (group (half 2 2147483648 five (Promised tx (offer five Merge)))) tx Divided).1 ≡ NoEffect tx
divided = refl

-- ---- a boundary that moves into the one half or the other

given_at : kept_arc (half 1 0 five Free) 1677721600 frozen ≡ record { lo = 0; len = 1677721600 }
given_at = refl

gained_at : (gained_core (half 2 2147483648 five Free) (offer five (Repart 1677721600)) 1677721600).arc ≡ record { lo = 1677721600; len = 2617245696 }
gained_at = refl

taken_at : kept_arc (half 1 0 five Free) 3000000000 frozen ≡ record { lo = 0; len = 3000000000 }
taken_at = refl

lost_at : (lost_core (half 2 2147483648 five Free) 3000000000).arc ≡ record { lo = 3000000000; len = 1294967296 }
lost_at = refl

at_lo : refusal_of (half 1 0 five Free) (Begin tx (Repart 0) 1) ≡ Some BadBoundary
at_lo = refl

at_end : refusal_of (half 1 0 five Free) (Begin tx (Repart 2147483648) 1) ≡ Some BadBoundary
at_end = refl
