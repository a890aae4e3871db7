-- A client that knows groups that are not reshaped goes on knowing these alone, and asks members of them.
use Rattle.std.proofs.Common.{◌≡◌, ℕ, nat_lt, true, List, [], ◌∷◌, Option, Some, None, refl, sym, ◌∙◌, ap, subst}
use Rattle.std.specs.Prelude.{is_some, unwrap_or}
use Rattle.std.specs.Option.{option_map}
use Rattle.std.specs.List.{find}
use Rattle.sc_base.specs.Definitions.{Among, Each, Arc, end_of, is_member, least_of, next_after}
use Rattle.sc_words.proofs.PaxosProofs.PaxosLemmas.{Each-append, find_found}
use Rattle.sc_words.specs.declared.commands.links.Link.{Link}
use Rattle.sc_paxos_law.proofs.Lemmas.{among-member}
use Rattle.sc_node_table.specs.Values.{Draw, Op, Base, Input, Got, OrderLine, Mail}
use Rattle.sc_client_table.specs.declared.lookup.ways.Way.{Way}
use Rattle.sc_client_table.specs.lookup.LookupDefinitions.{KnownGroups, way_to, target_in, target_of, next_target, changed, preferring, passed_on, starting, learnt_from_not_mine, new_way}
use Rattle.sc_client_table.specs.table.TableDefinitions.{Client, ClientStep, table, request_of}
use Rattle.sc_law_walks.proofs.WalkLemmas.{either_way, ClientParts, parts_step}
use Rattle.sc_live_plain.proofs.PlainLemmas.{some_is}
use Rattle.sc_live_plain.proofs.CalmProofs.ChosenGroups.{lookup_has, set_each}
use Rattle.sc_live_healed.proofs.FixedWalks.{IsMember}
use Rattle.sc_live_healed.proofs.FixedNodes.{AreFresh}
use Rattle.sc_live_healed.specs.HealedDefinitions.{IsFixedBody, IsFixedMail, KnowsFixed, IsFixedClient}

module _ (bases : List Base) (fresh : AreFresh bases) where
  abbrev Knows : Draw × Way → Type 0
  Knows entry = KnowsFixed bases entry.0 entry.1

  abbrev All : KnownGroups → Type 0
  All known = Each Knows known

  -- ---- what is known of one group

  changes : (change : Way → Way) (group : Draw) (known : KnownGroups) → ((way : Way) → KnowsFixed bases group way → KnowsFixed bases group (change way)) → All known → All (changed change group known (way_to group known))
  changes change group known keeps k = by (way_to group known) refl
    where
      by : (o : Option Way) → way_to group known ≡ o → All (changed change group known o)
      by None e = k
      by (Some way) e = set_each Knows group known (change way) (keeps way (lookup_has Knows known group way e k)) k

  -- a member is asked
  asked_member : (group : Draw) (way : Way) (k : KnowsFixed bases group way) → IsMember k.base (target_of way)
  asked_member group way k = by way.preferred refl
    where
      by : (o : Option ℕ) → way.preferred ≡ o → is_member k.base.core.members (unwrap_or o (least_of way.members)) ≡ true
      by None e = ap (λ (nodes : List ℕ). is_member k.base.core.members (least_of nodes)) k.members ∙ fresh.least k.base k.among
      by (Some node) e = k.preferred node e

  -- and so is the next one
  next_member : (base : Base) → Among base bases → (node : ℕ) → IsMember base (next_after base.core.members node)
  next_member base a node = by (find (λ member. nat_lt node member) base.core.members) refl
    where
      by : (o : Option ℕ) → find (λ member. nat_lt node member) base.core.members ≡ o → is_member base.core.members (unwrap_or o (least_of base.core.members)) ≡ true
      by None e = fresh.least base a
      by (Some member) e = among-member base.core.members member (find_found (λ m. nat_lt node m) base.core.members member e).0

  prefers : (group : Draw) (way : Way) (node : ℕ) (k : KnowsFixed bases group way) → IsMember k.base node → KnowsFixed bases group (record way { preferred = Some node })
  prefers group way node k m = record { base = k.base; among = k.among; name = k.name; members = k.members; preferred = λ other e. (let same : node ≡ other = cc in subst (IsMember k.base) same m) }

  starts : (group : Draw) (lo : ℕ) (known : KnownGroups) → All known → All (starting group lo known)
  starts group lo known k = changes (λ way. record way { lo = lo }) group known (λ way w. record { base = w.base; among = w.among; name = w.name; members = w.members; preferred = w.preferred }) k

  passes : (group : Draw) (known : KnownGroups) → All known → All (passed_on group known)
  passes group known k =
      changes (λ way. record way { preferred = Some (next_target way) }) group known
      (λ way w. prefers group way (next_target way) w (ap (λ (nodes : List ℕ). is_member w.base.core.members (next_after nodes (target_of way))) w.members ∙ next_member w.base w.among (target_of way))) k

  follows_hint : (base : Base) → Among base bases → (group : Draw) → group ≡ base.core.id → (node : ℕ) → IsMember base node → (known : KnownGroups) → All known → All (preferring group node known)
  follows_hint base a group fact node m known k =
      changes (λ way. record way { preferred = Some node }) group known
      (λ way w. (let same : w.base ≡ base = fresh.apart w.base base w.among a (w.name ∙ fact) in prefers group way node w (subst (λ (b : Base). IsMember b node) (sym same) m))) k

  learns : (base : Base) → Among base bases → (group : Draw) (arc : Arc) (succ : Link) → succ ≡ base.core.succ → (known : KnownGroups) → All known → All (learnt_from_not_mine group arc succ known)
  learns base a group arc succ fact known k =
      let k1 : All (starting group arc.lo known) = starts group arc.lo known k in
      let next = fresh.follows base a in
      let new : KnowsFixed bases succ.group (new_way (end_of arc) succ.members) = record {
        base = next.0;
        among = next.1;
        name = next.2 ∙ sym (ap (λ (l : Link). l.group) fact);
        members = ap (λ (l : Link). l.members) fact ∙ sym next.3;
        preferred = λ node e. absurd (cc);
      } in
      either_way All (is_some (way_to succ.group (starting group arc.lo known))) (starting succ.group (end_of arc) (starting group arc.lo known)) _
      (starts succ.group (end_of arc) (starting group arc.lo known) k1) (Each-append Knows (starting group arc.lo known) ((succ.group, new_way (end_of arc) succ.members) ∷ []) k1 (new, tt))

  -- ---- what a client does

  -- a client that knows these groups, and mail to members of them
  abbrev pub Asks : ClientStep → Type 0
  Asks step = IsFixedClient bases step.0 × Each (IsFixedMail bases) step.1

  -- its request goes to a group that it knows
  request_said : (client : Client) (group : Draw) (target : ℕ) (request : ℕ × Op) → target_in group client.known ≡ Some target → IsFixedClient bases client → IsFixedMail bases (request_of client.me group target request)
  request_said client group target request t k = by (way_to group client.known) refl t
    where
      by : (o : Option Way) → way_to group client.known ≡ o → option_map target_of o ≡ Some target → IsFixedMail bases (request_of client.me group target request)
      by None e t = absurd (cc)
      by (Some way) e t = (let w = lookup_has Knows client.known group way e k in record { base = w.base; among = w.among; says = (sym w.name, subst (IsMember w.base) (some_is t) (asked_member group way w)) })

  fixed_parts : ClientParts (IsFixedClient bases) (IsFixedMail bases) (IsFixedMail bases)
  fixed_parts = record {
    waits = λ waiting client k. k;
    replied = λ reply client k. k;
    asks = λ group target request client t k. (k, request_said client group target request t k);
    passed = λ group client k. passes group client.known k;
    hinted = λ mail group seq hint client m e k. (let says = subst (IsFixedBody m.base mail.from mail.to) e m.says in follows_hint m.base m.among group says.0 hint says.2 client.known k);
    not_mine = λ mail group seq arc succ client m e k. (let says = subst (IsFixedBody m.base mail.from mail.to) e m.says in learns m.base m.among group arc succ says.2.1 client.known k);
    gone = λ mail group seq into client m e k. (let says = subst (IsFixedBody m.base mail.from mail.to) e m.says in absurd says.2);
  }

  -- a client takes any mail of these groups, ticks and starts
  pub client_fixed : (client : Client) (input : Input Mail OrderLine) → ((mail : Mail) → input ≡ Got mail → IsFixedMail bases mail) → IsFixedClient bases client → Asks (table client input)
  client_fixed = parts_step (IsFixedClient bases) (IsFixedMail bases) (IsFixedMail bases) fixed_parts
