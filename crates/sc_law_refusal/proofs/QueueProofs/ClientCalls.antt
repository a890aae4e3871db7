-- How many calls of a client are in a list: what one command more, or one less, makes of it.
use Rattle.std.proofs.Common.{◌≡◌, ℕ, ◌+◌, ◌≤◌, ◌++◌, refl, sym, ap, arith, eqb, Bool, true, false, cond, List, [], ◌∷◌, length, filter, Option, Some, None}
use Rattle.std.proofs.lemmas.Bool.{cond_both, eqb-true}
use Rattle.sc_node_table.specs.Values.{Op, Command, Call}
use Rattle.sc_node_table.specs.NodeDefinitions.{queued_number, is_request_of, without_request}
use Rattle.sc_law_walks.proofs.WalkLemmas.{either_way}
use Rattle.sc_law_refusal.specs.queue.OneCall.{calls_of}

-- at most one call of each client
abbrev pub One : List Command → Type 0
One commands = (client : ℕ) → calls_of client commands ≤ 1

pub one_none : One []
one_none client = omega arith

-- one more or not
abbrev one_if : Bool → ℕ
one_if b = cond b 1 0

counts_one : (b : Bool) → b ≡ true → one_if b ≡ 1
counts_one b e = ap one_if e

counts_none : (b : Bool) → b ≡ false → one_if b ≡ 0
counts_none b e = ap one_if e

more_by : (b : Bool) (command : Command) (commands : List Command) → length (cond b (command ∷ commands) commands) ≡ one_if b + length commands
more_by true command commands = omega arith
more_by false command commands = omega arith

pub more : (client : ℕ) (command : Command) (commands : List Command) → calls_of client (command ∷ commands) ≡ one_if (is_request_of client command) + calls_of client commands
more client command commands = more_by (is_request_of client command) command (filter (λ c. is_request_of client c) commands)

fewer : (client : ℕ) (command : Command) (commands : List Command) → calls_of client commands ≤ calls_of client (command ∷ commands)
fewer client command commands = omega (arith, more client command commands)

-- what is behind the first
pub one_rest : (command : Command) (commands : List Command) → One (command ∷ commands) → One commands
one_rest command commands k client = omega (arith, fewer client command commands, k client)

-- the last counts as the first does
joined : (client : ℕ) (commands : List Command) (command : Command) → calls_of client (commands ++ command ∷ []) ≡ calls_of client (command ∷ commands)
joined client [] command = refl
joined client (first ∷ commands) command =
    omega (arith, more client first (commands ++ command ∷ []), joined client commands command, more client command commands, more client command (first ∷ commands), more client first commands)

pub one_last : (command : Command) (commands : List Command) → One (command ∷ commands) → One (commands ++ command ∷ [])
one_last command commands k client = omega (arith, joined client commands command, k client)

-- where none of a client is queued, its request may be
pub one_first : (client seq : ℕ) (op : Op) (commands : List Command) → calls_of client commands ≡ 0 → One commands → One (Call client seq op ∷ commands)
one_first client seq op commands none k other =
    let le = cond_both (eqb client other) 1 0 (λ n. n + calls_of other commands ≤ 1)
    (λ e. (let same : calls_of other commands ≡ calls_of client commands = ap (λ c. calls_of c commands) (sym (eqb-true client other e)) in omega (arith, same, none)))
    (λ _. omega (arith, k other)) in
    omega (arith, le, more other (Call client seq op) commands)

-- ---- a call that is taken out

without_fewer : (client other : ℕ) (commands : List Command) → calls_of other (without_request commands client) ≤ calls_of other commands
without_fewer client other [] = omega arith
without_fewer client other (command ∷ commands) =
    either_way (λ (left : List Command). calls_of other left ≤ calls_of other (command ∷ commands)) (is_request_of client command) commands (command ∷ without_request commands client) (fewer other command commands)
    (omega (arith, more other command (without_request commands client), more other command commands, without_fewer client other commands))

pub one_without : (client : ℕ) (commands : List Command) → One commands → One (without_request commands client)
one_without client commands k other = omega (arith, without_fewer client other commands, k other)

-- of at most one none is left
pub none_left : (client : ℕ) (commands : List Command) → calls_of client commands ≤ 1 → calls_of client (without_request commands client) ≡ 0
none_left client [] k = refl
none_left client (command ∷ commands) k =
    cond_both (is_request_of client command) commands (command ∷ without_request commands client) (λ (left : List Command). calls_of client left ≡ 0)
    (λ e. omega (arith, more client command commands, counts_one (is_request_of client command) e, k))
    (λ e. omega (arith, more client command (without_request commands client), counts_none (is_request_of client command) e, none_left client commands (omega (arith, fewer client command commands, k))))

-- where none is found none is queued
pub none_found : (client : ℕ) (commands : List Command) → queued_number commands client ≡ None → calls_of client commands ≡ 0
none_found client [] e = refl
none_found client (Call c seq op ∷ commands) e =
    let both = cond_both (eqb c client) (Some seq) (queued_number commands client) (λ (o : Option ℕ). o ≡ None → (one_if (eqb c client) ≡ 0) × (calls_of client commands ≡ 0)) (λ _ s. cc)
    (λ f s. (counts_none (eqb c client) f, none_found client commands s)) e in
    omega (arith, more client (Call c seq op) commands, both.0, both.1)
none_found client (_ ∷ commands) e = none_found client commands e
