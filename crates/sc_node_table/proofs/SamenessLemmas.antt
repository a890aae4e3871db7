-- The test of two commands is true exactly where they are equal, part by part.
use Rattle.std.proofs.Common.{◌≡◌, ℕ, ◌==◌, Bool, true, false, List, Option, Some, None, refl, sym, ap, subst, ◌&&◌}
use Rattle.std.specs.Bool.{Decides}
use Rattle.std.specs.Cmp.Lexicographic.{pointwise_decides}
use Rattle.std.specs.Option.{option_eq}
use Rattle.std.proofs.lemmas.Bool.{true≢false}
use Rattle.std.proofs.lemmas.Bool.Decides.{Decides-eqb, Decides-and}
use Rattle.sc_base.specs.declared.names.Draw.{Draw}
use Rattle.sc_base.specs.Definitions.{same_draw}
use Rattle.sc_base.specs.declared.ops.Op.{Op}
use Rattle.sc_base.specs.declared.ops.Op.TheVariants.{Get, Put, Del, Add, Cas}
use Rattle.sc_words.specs.declared.commands.bodies.Body.{Body}
use Rattle.sc_words.specs.declared.commands.bodies.Body.TheVariants as Has
use Rattle.sc_words.specs.declared.commands.commands.Command.{Command}
use Rattle.sc_words.specs.declared.commands.commands.Command.TheVariants.{Noop, Call, Join, Leave, Split, Begin, Prepared, RecordVote, GiveUp, Finish, Watched, RecordWatch}
use Rattle.sc_words.specs.declared.commands.votes.Gift.{Gift}
use Rattle.sc_words.specs.declared.commands.votes.No.{No}
use Rattle.sc_words.specs.declared.commands.votes.No.TheVariants.{Busy, Gone, Apart, TooMany}
use Rattle.sc_words.specs.declared.commands.votes.Outcome.{Outcome}
use Rattle.sc_words.specs.declared.commands.votes.Outcome.TheVariants.{Abort, Merged, Moved, Migrated, Divided}
use Rattle.sc_words.specs.declared.commands.votes.Past.{Past}
use Rattle.sc_words.specs.declared.commands.votes.Past.TheVariants as Voted
use Rattle.sc_words.specs.declared.commands.votes.Vote.{Vote}
use Rattle.sc_words.specs.declared.commands.votes.Vote.TheVariants as Says
use Rattle.sc_node_table.specs.NodeDefinitions.{same_numbers, same_op, same_arc, same_link, same_route, same_pair, same_pairs, same_client, same_clients, same_body, same_offer, same_watch, same_no, same_frozen, same_vote, same_past, same_gift, same_outcome, same_command, DecidesCommands}

-- a test that is true exactly where two values are equal
abbrev DecidesEquality : {X : Type 0} → (X → X → Bool) → Type 0
DecidesEquality {X} same = (a b : X) → Decides (same a b) (a ≡ b)

-- by what its parts tell
by_parts : {P Q : Type 0} (r : Bool) → Decides r P → (P → Q) → (Q → P) → Decides r Q
by_parts r d f g = (λ t. f (d.0 t), λ q. d.1 (g q))

-- by its two directions
both : {X : Type 0} (same : X → X → Bool) → ((a b : X) → same a b ≡ true → a ≡ b) → ((a : X) → same a a ≡ true) → DecidesEquality same
both same read itself = λ a b. (read a b, λ e. subst (λ c. same a c ≡ true) e (itself a))

no_way : {P : Type 0} → false ≡ true → P
no_way e = absurd (true≢false (sym e))

numbers : DecidesEquality same_numbers
numbers a b = pointwise_decides Decides-eqb a b

draws : DecidesEquality same_draw
draws a b = by_parts (same_draw a b) (Decides-and _ _ (Decides-eqb a.node b.node) (Decides-eqb a.count b.count))
    (λ q i. record { node = q.0 i; count = q.1 i }) (λ e. (ap (λ x. x.node) e, ap (λ x. x.count) e))

arcs : DecidesEquality same_arc
arcs a b = by_parts (same_arc a b) (Decides-and _ _ (Decides-eqb a.lo b.lo) (Decides-eqb a.len b.len))
    (λ q i. record { lo = q.0 i; len = q.1 i }) (λ e. (ap (λ x. x.lo) e, ap (λ x. x.len) e))

links : DecidesEquality same_link
links a b = by_parts (same_link a b) (Decides-and _ _ (draws a.group b.group) (numbers a.members b.members))
    (λ q i. record { group = q.0 i; members = q.1 i }) (λ e. (ap (λ x. x.group) e, ap (λ x. x.members) e))

no_read : (a b : No) → same_no a b ≡ true → a ≡ b
no_read (Busy t) (Busy u) e = ap (λ x. Busy x) ((draws t u).0 e)
no_read Gone Gone e = refl
no_read Apart Apart e = refl
no_read (TooMany n) (TooMany m) e = ap (λ x. TooMany x) ((Decides-eqb n m).0 e)
no_read a b e = no_way e

no_itself : (a : No) → same_no a a ≡ true
no_itself (Busy t) = (draws t t).1 refl
no_itself Gone = refl
no_itself Apart = refl
no_itself (TooMany n) = (Decides-eqb n n).1 refl

nos : DecidesEquality same_no
nos = both same_no no_read no_itself

routes : DecidesEquality same_route
routes a b = by_parts (same_route a b) (Decides-and _ _ (draws a.group b.group) (Decides-and _ _ (Decides-eqb a.lo b.lo) (numbers a.members b.members)))
    (λ q i. record { group = q.0 i; lo = q.1.0 i; members = q.1.1 i }) (λ e. (ap (λ x. x.group) e, (ap (λ x. x.lo) e, ap (λ x. x.members) e)))

-- ---- what clients asked for

pair : DecidesEquality same_pair
pair a b = by_parts (same_pair a b) (Decides-and _ _ (numbers a.0 b.0) (numbers a.1 b.1)) (λ q i. (q.0 i, q.1 i)) (λ e. (ap (λ x. x.0) e, ap (λ x. x.1) e))

pairs : DecidesEquality same_pairs
pairs a b = pointwise_decides pair a b

found : {X : Type 0} (same : X → X → Bool) → DecidesEquality same → DecidesEquality (option_eq same)
found {X} same tells = both (option_eq same) read itself
  where
    read : (a b : Option X) → option_eq same a b ≡ true → a ≡ b
    read None None e = refl
    read None (Some y) e = no_way e
    read (Some x) None e = no_way e
    read (Some x) (Some y) e = ap (λ z. Some z) ((tells x y).0 e)

    itself : (a : Option X) → option_eq same a a ≡ true
    itself None = refl
    itself (Some x) = (tells x x).1 refl

client : DecidesEquality same_client
client a b =
    by_parts (same_client a b)
    (Decides-and _ _ (Decides-eqb a.0 b.0) (Decides-and _ _ (Decides-eqb a.1.seq b.1.seq) (found same_numbers numbers a.1.reply.old b.1.reply.old)))
    (λ q i. (q.0 i, record { seq = q.1.0 i; reply = record { old = q.1.1 i } }))
    (λ e. (ap (λ x. x.0) e, (ap (λ x. x.1.seq) e, ap (λ x. x.1.reply.old) e)))

clients : DecidesEquality same_clients
clients a b = pointwise_decides client a b

key_and_value : (k l v w : List ℕ) → Decides (same_numbers k l && same_numbers v w) ((k ≡ l) × (v ≡ w))
key_and_value k l v w = Decides-and _ _ (numbers k l) (numbers v w)

three : (k l e f v w : List ℕ) → Decides (same_numbers k l && (same_numbers e f && same_numbers v w)) ((k ≡ l) × ((e ≡ f) × (v ≡ w)))
three k l e f v w = Decides-and _ _ (numbers k l) (key_and_value e f v w)

op_read : (a b : Op) → same_op a b ≡ true → a ≡ b
op_read (Get k) (Get l) e = ap (λ x. Get x) ((numbers k l).0 e)
op_read (Put k v) (Put l w) e = let q = (key_and_value k l v w).0 e in λ i. Put (q.0 i) (q.1 i)
op_read (Del k) (Del l) e = ap (λ x. Del x) ((numbers k l).0 e)
op_read (Add k v) (Add l w) e = let q = (key_and_value k l v w).0 e in λ i. Add (q.0 i) (q.1 i)
op_read (Cas k x v) (Cas l y w) e = let q = (three k l x y v w).0 e in λ i. Cas (q.0 i) (q.1.0 i) (q.1.1 i)
op_read a b e = no_way e

op_itself : (a : Op) → same_op a a ≡ true
op_itself (Get k) = (numbers k k).1 refl
op_itself (Put k v) = (key_and_value k k v v).1 (refl, refl)
op_itself (Del k) = (numbers k k).1 refl
op_itself (Add k v) = (key_and_value k k v v).1 (refl, refl)
op_itself (Cas k e v) = (three k k e e v v).1 (refl, (refl, refl))

ops : DecidesEquality same_op
ops = both same_op op_read op_itself

-- ---- what transactions say

body_read : (a b : Body) → same_body a b ≡ true → a ≡ b
body_read Has.Merge Has.Merge e = refl
body_read (Has.Repart n) (Has.Repart m) e = ap (λ x. Has.Repart x) ((Decides-eqb n m).0 e)
body_read (Has.Migrate n) (Has.Migrate m) e = ap (λ x. Has.Migrate x) ((Decides-eqb n m).0 e)
body_read (Has.Split n c) (Has.Split m d) e = let q = (Decides-and _ _ (Decides-eqb n m) (draws c d)).0 e in λ i. Has.Split (q.0 i) (q.1 i)
body_read a b e = no_way e

body_itself : (a : Body) → same_body a a ≡ true
body_itself Has.Merge = refl
body_itself (Has.Repart n) = (Decides-eqb n n).1 refl
body_itself (Has.Migrate n) = (Decides-eqb n n).1 refl
body_itself (Has.Split n c) = (Decides-and _ _ (Decides-eqb n n) (draws c c)).1 (refl, refl)

bodies : DecidesEquality same_body
bodies = both same_body body_read body_itself

offers : DecidesEquality same_offer
offers a b =
    by_parts (same_offer a b)
    (Decides-and _ _ (draws a.coord b.coord) (Decides-and _ _ (draws a.part b.part) (Decides-and _ _ (arcs a.arc b.arc)
    (Decides-and _ _ (numbers a.members b.members) (Decides-and _ _ (bodies a.body b.body) (Decides-eqb a.by b.by))))))
    (λ q i. record { coord = q.0 i; part = q.1.0 i; arc = q.1.1.0 i; members = q.1.1.1.0 i; body = q.1.1.1.1.0 i; by = q.1.1.1.1.1 i })
    (λ e. (ap (λ x. x.coord) e, (ap (λ x. x.part) e, (ap (λ x. x.arc) e, (ap (λ x. x.members) e, (ap (λ x. x.body) e, ap (λ x. x.by) e))))))

watches : DecidesEquality same_watch
watches a b =
    by_parts (same_watch a b)
    (Decides-and _ _ (draws a.coord b.coord) (Decides-and _ _ (numbers a.members b.members) (Decides-and _ _ (draws a.part b.part)
    (Decides-and _ _ (draws a.old b.old) (Decides-and _ _ (links a.next b.next) (Decides-eqb a.by b.by))))))
    (λ q i. record { coord = q.0 i; members = q.1.0 i; part = q.1.1.0 i; old = q.1.1.1.0 i; next = q.1.1.1.1.0 i; by = q.1.1.1.1.1 i })
    (λ e. (ap (λ x. x.coord) e, (ap (λ x. x.members) e, (ap (λ x. x.part) e, (ap (λ x. x.old) e, (ap (λ x. x.next) e, ap (λ x. x.by) e))))))

frozens : DecidesEquality same_frozen
frozens a b =
    by_parts (same_frozen a b)
    (Decides-and _ _ (arcs a.arc b.arc) (Decides-and _ _ (numbers a.members b.members) (Decides-and _ _ (links a.succ b.succ)
    (Decides-and _ _ (pairs a.pairs b.pairs) (clients a.clients b.clients)))))
    (λ q i. record { arc = q.0 i; members = q.1.0 i; succ = q.1.1.0 i; pairs = q.1.1.1.0 i; clients = q.1.1.1.1 i })
    (λ e. (ap (λ x. x.arc) e, (ap (λ x. x.members) e, (ap (λ x. x.succ) e, (ap (λ x. x.pairs) e, ap (λ x. x.clients) e)))))

vote_read : (a b : Vote) → same_vote a b ≡ true → a ≡ b
vote_read (Says.Yes f) (Says.Yes g) e = ap (λ x. Says.Yes x) ((frozens f g).0 e)
vote_read (Says.No n) (Says.No m) e = ap (λ x. Says.No x) ((nos n m).0 e)
vote_read a b e = no_way e

vote_itself : (a : Vote) → same_vote a a ≡ true
vote_itself (Says.Yes f) = (frozens f f).1 refl
vote_itself (Says.No n) = (nos n n).1 refl

votes : DecidesEquality same_vote
votes = both same_vote vote_read vote_itself

past_read : (a b : Past) → same_past a b ≡ true → a ≡ b
past_read Voted.Yes Voted.Yes e = refl
past_read (Voted.No n) (Voted.No m) e = ap (λ x. Voted.No x) ((nos n m).0 e)
past_read Voted.Ended Voted.Ended e = refl
past_read a b e = no_way e

past_itself : (a : Past) → same_past a a ≡ true
past_itself Voted.Yes = refl
past_itself (Voted.No n) = (nos n n).1 refl
past_itself Voted.Ended = refl

pasts : DecidesEquality same_past
pasts = both same_past past_read past_itself

gifts : DecidesEquality same_gift
gifts a b = by_parts (same_gift a b) (Decides-and _ _ (pairs a.pairs b.pairs) (clients a.clients b.clients))
    (λ q i. record { pairs = q.0 i; clients = q.1 i }) (λ e. (ap (λ x. x.pairs) e, ap (λ x. x.clients) e))

moved : (n m : ℕ) (f g : Option Gift) → Decides ((n == m) && option_eq same_gift f g) ((n ≡ m) × (f ≡ g))
moved n m f g = Decides-and _ _ (Decides-eqb n m) (found same_gift gifts f g)

outcome_read : (a b : Outcome) → same_outcome a b ≡ true → a ≡ b
outcome_read Abort Abort e = refl
outcome_read (Merged r) (Merged s) e = ap (λ x. Merged x) ((routes r s).0 e)
outcome_read (Moved n f) (Moved m g) e = let q = (moved n m f g).0 e in λ i. Moved (q.0 i) (q.1 i)
outcome_read (Migrated n) (Migrated m) e = ap (λ x. Migrated x) ((Decides-eqb n m).0 e)
outcome_read Divided Divided e = refl
outcome_read a b e = no_way e

outcome_itself : (a : Outcome) → same_outcome a a ≡ true
outcome_itself Abort = refl
outcome_itself (Merged r) = (routes r r).1 refl
outcome_itself (Moved n f) = (moved n n f f).1 (refl, refl)
outcome_itself (Migrated n) = (Decides-eqb n n).1 refl
outcome_itself Divided = refl

outcomes : DecidesEquality same_outcome
outcomes = both same_outcome outcome_read outcome_itself

-- ---- commands

backlog : (c d n m : ℕ) (a b : Op) → Decides ((c == d) && ((n == m) && same_op a b)) ((c ≡ d) × ((n ≡ m) × (a ≡ b)))
backlog c d n m a b = Decides-and _ _ (Decides-eqb c d) (Decides-and _ _ (Decides-eqb n m) (ops a b))

twos : (a b n m : ℕ) → Decides ((a == b) && (n == m)) ((a ≡ b) × (n ≡ m))
twos a b n m = Decides-and _ _ (Decides-eqb a b) (Decides-eqb n m)

splits : (a b n m : ℕ) (c d : Draw) → Decides ((a == b) && (same_draw c d && (n == m))) ((a ≡ b) × ((c ≡ d) × (n ≡ m)))
splits a b n m c d = Decides-and _ _ (Decides-eqb a b) (Decides-and _ _ (draws c d) (Decides-eqb n m))

of_draw : {X : Type 0} (same : X → X → Bool) → DecidesEquality same → (t u : Draw) (a b : X) → Decides (same_draw t u && same a b) ((t ≡ u) × (a ≡ b))
of_draw same tells t u a b = Decides-and _ _ (draws t u) (tells a b)

by_node : {X : Type 0} (same : X → X → Bool) → DecidesEquality same → (t u : Draw) (a b : X) (n m : ℕ) → Decides (same_draw t u && (same a b && (n == m))) ((t ≡ u) × ((a ≡ b) × (n ≡ m)))
by_node same tells t u a b n m = Decides-and _ _ (draws t u) (Decides-and _ _ (tells a b) (Decides-eqb n m))

command_read : (a b : Command) → same_command a b ≡ true → a ≡ b
command_read Noop Noop e = refl
command_read (Call c n a) (Call d m b) e = let q = (backlog c d n m a b).0 e in λ i. Call (q.0 i) (q.1.0 i) (q.1.1 i)
command_read (Join a n) (Join b m) e = let q = (twos a b n m).0 e in λ i. Join (q.0 i) (q.1 i)
command_read (Leave a n) (Leave b m) e = let q = (twos a b n m).0 e in λ i. Leave (q.0 i) (q.1 i)
command_read (Split a c n) (Split b d m) e = let q = (splits a b n m c d).0 e in λ i. Split (q.0 i) (q.1.0 i) (q.1.1 i)
command_read (Begin t a n) (Begin u b m) e = let q = (by_node same_body bodies t u a b n m).0 e in λ i. Begin (q.0 i) (q.1.0 i) (q.1.1 i)
command_read (Prepared t a) (Prepared u b) e = let q = (of_draw same_offer offers t u a b).0 e in λ i. Prepared (q.0 i) (q.1 i)
command_read (RecordVote t a n) (RecordVote u b m) e = let q = (by_node same_vote votes t u a b n m).0 e in λ i. RecordVote (q.0 i) (q.1.0 i) (q.1.1 i)
command_read (GiveUp t) (GiveUp u) e = ap (λ x. GiveUp x) ((draws t u).0 e)
command_read (Finish t a) (Finish u b) e = let q = (of_draw same_outcome outcomes t u a b).0 e in λ i. Finish (q.0 i) (q.1 i)
command_read (Watched t a) (Watched u b) e = let q = (of_draw same_watch watches t u a b).0 e in λ i. Watched (q.0 i) (q.1 i)
command_read (RecordWatch t a n) (RecordWatch u b m) e = let q = (by_node same_past pasts t u a b n m).0 e in λ i. RecordWatch (q.0 i) (q.1.0 i) (q.1.1 i)
command_read a b e = no_way e

command_itself : (a : Command) → same_command a a ≡ true
command_itself Noop = refl
command_itself (Call c n a) = (backlog c c n n a a).1 (refl, (refl, refl))
command_itself (Join a n) = (twos a a n n).1 (refl, refl)
command_itself (Leave a n) = (twos a a n n).1 (refl, refl)
command_itself (Split a c n) = (splits a a n n c c).1 (refl, (refl, refl))
command_itself (Begin t a n) = (by_node same_body bodies t t a a n n).1 (refl, (refl, refl))
command_itself (Prepared t a) = (of_draw same_offer offers t t a a).1 (refl, refl)
command_itself (RecordVote t a n) = (by_node same_vote votes t t a a n n).1 (refl, (refl, refl))
command_itself (GiveUp t) = (draws t t).1 refl
command_itself (Finish t a) = (of_draw same_outcome outcomes t t a a).1 (refl, refl)
command_itself (Watched t a) = (of_draw same_watch watches t t a a).1 (refl, refl)
command_itself (RecordWatch t a n) = (by_node same_past pasts t t a a n n).1 (refl, (refl, refl))

-- two commands are the same exactly where they are equal
pub decides_commands : DecidesCommands
decides_commands = both same_command command_read command_itself
