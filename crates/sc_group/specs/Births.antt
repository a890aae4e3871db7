-- The record that a group begins with, and the route by which a client comes to know it.
use Rattle.std.specs.Prelude.{[], None}
use Rattle.sc_base.specs.Definitions.{least_of}
use Rattle.sc_words.specs.declared.commands.cores.Base.{Base}
use Rattle.sc_words.specs.declared.commands.cores.Lock.TheVariants.{Free}
use Rattle.sc_words.specs.declared.commands.links.Route.{Route}
use Rattle.sc_group.specs.declared.bases.GroupBirth.{GroupBirth}

-- the whole record of a group at its creation: its least member leads, it is in no transaction, and it has no pairs and knows no clients
abbrev pub base_born : GroupBirth → Base
base_born birth = record {
  core = record {
    id = birth.group;
    first = least_of birth.members;
    arc = birth.arc;
    members = birth.members;
    succ = birth.succ;
    pred = birth.pred;
    lock = Free;
    begun = 0;
    decided = [];
    voted = [];
    born = [];
    gone = None;
  };
  pairs = [];
  clients = [];
}

-- the route to a group at its creation
abbrev pub route_born : GroupBirth → Route
route_born birth = record { group = birth.group; lo = birth.arc.lo; members = birth.members }
