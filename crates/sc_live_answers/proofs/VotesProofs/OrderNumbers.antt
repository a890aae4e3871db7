-- Each command of an order, and each lock of a coordinator, keeps the order's number while the order is under way.
use Rattle.std.proofs.Common.{◌≡◌, ℕ, Option, Some, None, subst}
use Rattle.sc_node_table.specs.Values.{Command, Lock, Free, Coordinating, Promised, Watching, Effect, No}
use Rattle.sc_group_table.specs.machine.MachineDefinitions.{Group, applied, bound_by, vote_of, watch_vote_of}
use Rattle.sc_live_answers.specs.AnswerDefinitions.{HasNumber, LockNumber}
use Rattle.sc_live_answers.proofs.WorkProofs.Affairs.{Affair, BeginsFree}
use Rattle.sc_law_walks.proofs.WalkLemmas.{MachineWalk, machine_step}

module _ (n : ℕ) where
  abbrev N : Group × Effect → Type 0
  N x = LockNumber n x.0.core.lock

  bound_so : (why : Option No) (bond lock : Lock) → LockNumber n bond → LockNumber n lock → LockNumber n (bound_by why bond lock)
  bound_so None bond lock b k = b
  bound_so (Some why) bond lock b k = k

  numbered_walk : (group : Group) → LockNumber n group.core.lock → MachineWalk group (λ c x. HasNumber n c → N x)
  numbered_walk group k = record {
    same = λ c effect _ d. k;
    serves = λ client seq op d. absurd d;
    joins = λ node order a d. k;
    leaves = λ node order a d. k;
    splits = λ at child order a new alone d. k;
    begins_split = λ at child order a new other d. d;
    begins = λ tx body order a new d. d;
    offers = λ tx offer new d. bound_so (vote_of group.core offer) (Promised tx offer) group.core.lock tt k;
    watches = λ tx watch new d. bound_so (watch_vote_of group.core watch) (Watching tx watch) group.core.lock tt k;
    hears = λ tx order lock frozen by other d. subst (LockNumber n) lock k;
    aborts = λ c tx ends body order got lock d. tt;
    divides = λ tx at child order got lock by can d. tt;
    merges = λ tx order heard lock by may d. tt;
    closes = λ tx order lock frozen by two may d. tt;
    gives = λ tx at order lock frozen by here can d. tt;
    takes = λ tx at order lock frozen by there can d. tt;
    migrates = λ tx node order lock frozen by can d. tt;
    stays = λ tx offer lock d. tt;
    goes = λ tx offer lock into d. tt;
    gains = λ tx offer lock at gift can d. tt;
    loses = λ tx offer lock at can d. tt;
    welcomes = λ tx offer lock node few d. tt;
    sees_end = λ tx watch lock outcome d. tt;
  }

  -- a command of the order keeps the number in its group's lock
  pub entry_numbered : (group : Group) (command : Command) → LockNumber n group.core.lock → HasNumber n command → N (applied group command)
  entry_numbered group command k d = machine_step group (λ c x. HasNumber n c → N x) (numbered_walk group k) command d

  -- an affair whose commands have the number
  abbrev pub numbered : Affair → Affair
  numbered a = record {
    Parts = a.Parts;
    Does = λ name command. a.Does name command × HasNumber n command;
    Is = λ name core. a.Is name core × LockNumber n core.lock;
    Creates = a.Creates;
    backlog = λ name client seq op d. a.backlog name client seq op d.0;
    entered = λ name group command s d. (a.entered name group command s.0 d.0, entry_numbered group command s.1 d.1);
    creation = λ name group command child s d e. a.creation name group command child s.0 d.0 e;
    adds = λ name group command s d. a.adds name group command s.0 d.0;
    asks = λ name core tx body order heard s e. a.asks name core tx body order heard s.0 e;
    renamed = λ name id core s. (a.renamed name id core s.0, s.1);
    begins = λ name tx body order d. a.begins name tx body order d.0;
    votes = λ name tx offer d. a.votes name tx offer d.0;
    offer = λ name tx offer p. (a.offer name tx offer p, tt);
    vote = λ name tx vote by p. (a.vote name tx vote by p, tt);
    finish = λ name tx outcome. (a.finish name tx outcome, tt);
    watched = λ name tx watch. (a.watched name tx watch, tt);
    watch = λ name tx vote by. (a.watch name tx vote by, tt);
  }

  free_numbered : (lock : Lock) → lock ≡ Free → LockNumber n lock
  free_numbered Free e = tt
  free_numbered (Coordinating tx body order heard) e = absurd cc
  free_numbered (Promised tx offer) e = tt
  free_numbered (Watching tx watch) e = tt

  pub numbered_free : (a : Affair) → BeginsFree a → BeginsFree (numbered a)
  numbered_free a b = record { free = λ name core e. (b.free name core e, free_numbered core.lock e); young = b.young }
