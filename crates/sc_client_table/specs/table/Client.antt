-- A client: its requests, the one that waits, the groups that it knows, the node that it asked last, and its replies.
use Rattle.std.specs.Prelude.{ℕ, ◌-◌, List, [], ◌∷◌, Option, Some, None, slice_get}
use Rattle.std.specs.Option.{option_map}
use Rattle.sc_base.specs.declared.names.Draw.{Draw}
use Rattle.sc_base.specs.declared.ops.Op.{Op}
use Rattle.sc_base.specs.declared.ops.Reply.{Reply}
use Rattle.sc_words.specs.declared.commands.links.Route.{Route}
use Rattle.sc_client_table.specs.lookup.LookupDefinitions.{new_way, KnownGroups}

-- the state of a client
pub record Client : Type 0 where
  -- the client's number, from 1
  pub me : ℕ
  -- the client's requests, numbered from 1 by their places
  pub requests : List Op
  -- the number of the request that waits for its reply, if one does
  pub waiting : Option ℕ
  -- the groups that the client knows
  pub known : KnownGroups
  -- the group and the node that were asked last, if any were
  pub asked : Option (Draw × ℕ)
  -- the replies to the client's requests, in the order of the requests
  pub replies : List Reply

-- a new client, which has asked nothing and knows one group
abbrev pub born_client : ℕ → List Op → Route → Client
born_client me requests first = record {
  me = me;
  requests = requests;
  waiting = None;
  known = (first.group, new_way first.lo first.members) ∷ [];
  asked = None;
  replies = [];
}

-- the request with this number, if there is one
abbrev pub request_at : List Op → Option ℕ → Option (ℕ × Op)
request_at requests None = None
request_at requests (Some seq) = option_map (λ op. (seq, op)) (slice_get requests (seq - 1))

-- the request that waits, with its number, if one does
abbrev pub waiting_request : Client → Option (ℕ × Op)
waiting_request client = request_at client.requests client.waiting
