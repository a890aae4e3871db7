-- Made scenarios have what all valid ones have.
use Rattle.std.proofs.Common.{◌≡◌, ℕ, zero, suc, ◌+◌, ◌*◌, ◌^◌, ◌<◌, ◌≤◌, ◌||◌, Bool, true, false, eqb, [], ◌∷◌, ◌++◌, length, get_or, inl, inr, refl, sym, ap, ◌∙◌, subst, arith, eq-eqb}
use Rattle.std.specs.List.{All, AllPairs}
use Rattle.std.proofs.lemmas.Bool.{cases_lt}
use Rattle.std.proofs.lemmas.List.{length_push}
use Rattle.std.proofs.lemmas.List.Elements.{All-nil, All-cons, All-push}
use Rattle.std.proofs.lemmas.List.Folds.{list_any-append}
use Rattle.std.proofs.lemmas.List.Quantifiers.{all_pairs_push}
use Rattle.sc_base.specs.Definitions.{Each, most_requests, IsRoster}
use Rattle.sc_texts.specs.chance.KeyStream.{two_words}
use Rattle.sc_scenario.specs.scenario.Definitions.{is_client, made_op, made_ops, made_clients, made_groups, made_goes, made_scenario, IsUpTo, IsBounded, IsBoundedGroup, IsShortOp, IsBoundedClient, IsBoundedLine}
use Rattle.sc_scenario.specs.declared.scenario.drafts.GroupLine.{GroupLine}
use Rattle.sc_scenario.specs.declared.scenario.scenarios.Asks.{Asks}
use Rattle.sc_scenario.specs.declared.scenario.scenarios.SchedLine.{SchedLine}
use Rattle.sc_scenario.specs.declared.scenario.scenarios.SchedLine.TheVariants.{Go, Settle}
use Rattle.sc_scenario.proofs.ScenarioProofs.Clients.{Below}
use Rattle.sc_scenario.proofs.ScenarioProofs.Short.{Each-push, op_short}
use Rattle.sc_scenario.proofs.ScenarioProofs.Starts.{Lower}

-- ---- clients

-- the client that comes after k others
abbrev pub next_client : ℕ → ℕ → ℕ → Asks
next_client seed n k = record { client = k + 1; ops = made_ops seed n k n }

one_more : (k : ℕ) → k + 1 ≡ suc k
one_more k = omega arith

ops_more : (seed n before k : ℕ) → made_ops seed n before (suc k) ≡ made_ops seed n before k ++ made_op (two_words seed (before * n + k)) (before + 1) (k + 1) ∷ []
unfolding made_ops
ops_more seed n before k = refl

-- one request more
pub ops_next : (seed n before k : ℕ) → made_ops seed n before (k + 1) ≡ made_ops seed n before k ++ made_op (two_words seed (before * n + k)) (before + 1) (k + 1) ∷ []
ops_next seed n before k = ap (made_ops seed n before) (one_more k) ∙ ops_more seed n before k

pub no_ops : (seed n before : ℕ) → made_ops seed n before zero ≡ []
unfolding made_ops
no_ops seed n before = refl

pub ops_counted : (seed n before k : ℕ) → length (made_ops seed n before k) ≡ k
ops_counted seed n before zero = ap length (no_ops seed n before)
ops_counted seed n before (suc k) =
    let more = length_push (made_ops seed n before k) (made_op (two_words seed (before * n + k)) (before + 1) (k + 1)) in
    let rest = ops_counted seed n before k in
    ap length (ops_more seed n before k) ∙ omega (arith, more, rest)

clients_more : (seed n k : ℕ) → made_clients seed n (suc k) ≡ made_clients seed n k ++ next_client seed n k ∷ []
unfolding made_clients
clients_more seed n k = refl

-- one client more
pub clients_next : (seed n k : ℕ) → made_clients seed n (k + 1) ≡ made_clients seed n k ++ next_client seed n k ∷ []
clients_next seed n k = ap (made_clients seed n) (one_more k) ∙ clients_more seed n k

pub no_clients : (seed n : ℕ) → made_clients seed n zero ≡ []
unfolding made_clients
no_clients seed n = refl

-- what holds of each client that is made
each_client : (P : Asks → Type 0) (seed n k : ℕ) → ((j : ℕ) → j < k → P (next_client seed n j)) → All P (made_clients seed n k)
each_client P seed n zero each = subst (All P) (sym (no_clients seed n)) (All-nil P)
each_client P seed n (suc k) each =
    subst (All P) (sym (clients_more seed n k))
    (All-push P (made_clients seed n k) (next_client seed n k) (each_client P seed n k (λ j lt. each j (omega (arith, lt)))) (each k (omega arith)))

-- each request of a made client is short
ops_short : (seed n before k : ℕ) → before < 16 → k ≤ most_requests → Each IsShortOp (made_ops seed n before k)
ops_short seed n before zero lt few = subst (Each IsShortOp) (sym (no_ops seed n before)) tt
ops_short seed n before (suc k) lt few =
    subst (Each IsShortOp) (sym (ops_more seed n before k))
    (Each-push IsShortOp (made_ops seed n before k) (made_op (two_words seed (before * n + k)) (before + 1) (k + 1)) (ops_short seed n before k lt (omega (arith, few)))
    (op_short (two_words seed (before * n + k)) (before + 1) (k + 1) (omega (arith, lt)) (omega (arith, few))))

clients_bounded : (seed n : ℕ) → n ≤ most_requests → All IsBoundedClient (made_clients seed n 16)
clients_bounded seed n few =
    each_client IsBoundedClient seed n 16 (λ j lt. let counted = ops_counted seed n j n in ((omega arith, omega (arith, lt)), omega (arith, counted, few), ops_short seed n j n lt few))

clients_rise : (seed n k : ℕ) → AllPairs Below (made_clients seed n k)
clients_rise seed n zero = subst (AllPairs Below) (sym (no_clients seed n)) (λ i j d lt within. absurd (omega arith))
clients_rise seed n (suc k) =
    subst (AllPairs Below) (sym (clients_more seed n k))
    (all_pairs_push Below (made_clients seed n k) (next_client seed n k) (clients_rise seed n k)
    (each_client (λ asks. asks.client < k + 1) seed n k (λ j lt. omega (arith, lt))))

-- ---- the schedule

found_last : (b : Bool) → (b || (true || false)) ≡ true
found_last true = refl
found_last false = refl

found_first : (a b : Bool) → a ≡ true → (a || b) ≡ true
found_first true b e = refl
found_first false b e = absurd (let bad : false ≡ true = e in cc)

-- each of the first clients has a section
is_made_client : (seed n k j : ℕ) → j < k → is_client (made_clients seed n k) (j + 1) ≡ true
is_made_client seed n zero j lt = absurd (omega (arith, lt))
is_made_client seed n (suc k) j lt =
    ap (λ clients. is_client clients (j + 1)) (clients_more seed n k)
    ∙ list_any-append (λ (asks : Asks). eqb asks.client (j + 1)) (made_clients seed n k) (next_client seed n k ∷ [])
    ∙ elim (cases_lt j k) [
      | inl below ↦ found_first (is_client (made_clients seed n k) (j + 1)) _ (is_made_client seed n k j below)
      | inr ge ↦ (
          let same : k + 1 ≡ j + 1 = omega (arith, lt, ge) in
          ap (λ b. is_client (made_clients seed n k) (j + 1) || (b || false)) (eq-eqb (k + 1) (j + 1) same) ∙ found_last (is_client (made_clients seed n k) (j + 1))
          )
    ]

goes_more : (k : ℕ) → made_goes (suc k) ≡ made_goes k ++ Go (k + 1) ∷ []
unfolding made_goes
goes_more k = refl

-- one more starts
pub goes_next : (k : ℕ) → made_goes (k + 1) ≡ made_goes k ++ Go (k + 1) ∷ []
goes_next k = ap made_goes (one_more k) ∙ goes_more k

pub no_goes : made_goes zero ≡ []
unfolding made_goes
no_goes = refl

each_go : (P : SchedLine → Type 0) (k : ℕ) → ((j : ℕ) → j < k → P (Go (j + 1))) → All P (made_goes k)
each_go P zero each = subst (All P) (sym no_goes) (All-nil P)
each_go P (suc k) each =
    subst (All P) (sym (goes_more k)) (All-push P (made_goes k) (Go (k + 1)) (each_go P k (λ j lt. each j (omega (arith, lt)))) (each k (omega arith)))

lines_bounded : (seed n : ℕ) → All (IsBoundedLine 9 (made_clients seed n 16)) (made_goes 16 ++ Settle 1000000 ∷ [])
lines_bounded seed n =
    All-push (IsBoundedLine 9 (made_clients seed n 16)) (made_goes 16) (Settle 1000000)
    (each_go (IsBoundedLine 9 (made_clients seed n 16)) 16 (λ j lt. is_made_client seed n 16 j lt)) (omega arith, omega arith)

-- ---- groups

three_at : (a b c : ℕ) → a < b → b < c → (k : ℕ) → k + 1 < 3 → get_or (a ∷ b ∷ c ∷ []) k 0 < get_or (a ∷ b ∷ c ∷ []) (k + 1) 0
three_at a b c low high zero within = low
three_at a b c low high (suc zero) within = high
three_at a b c low high (suc (suc k)) within = absurd (omega (arith, within))

three_rise : (a b c : ℕ) → a < b → b < c → IsRoster (a ∷ b ∷ c ∷ [])
three_rise a b c low high = record { some = omega arith; most = omega arith; ascending = three_at a b c low high }

three_up : (most a b c : ℕ) → IsUpTo most a → IsUpTo most b → IsUpTo most c → All (IsUpTo most) (a ∷ b ∷ c ∷ [])
three_up most a b c ha hb hc =
    All-cons (IsUpTo most) a (b ∷ c ∷ []) ha (All-cons (IsUpTo most) b (c ∷ []) hb (All-cons (IsUpTo most) c [] hc (All-nil (IsUpTo most))))

bounded_group : (lo a : ℕ) → lo < 2 ^ 32 → 1 ≤ a → a ≤ 7 → IsBoundedGroup 9 (record { lo = lo; members = a ∷ (a + 1) ∷ (a + 2) ∷ [] })
bounded_group lo a low some most = record {
  lo_in = low;
  roster = three_rise a (a + 1) (a + 2) (omega arith) (omega arith);
  members_in = three_up 9 a (a + 1) (a + 2) (some, omega (arith, most)) (omega arith, omega (arith, most)) (omega arith, omega (arith, most));
}

abbrev three_from : ℕ → ℕ → GroupLine
three_from lo a = record { lo = lo; members = a ∷ (a + 1) ∷ (a + 2) ∷ [] }

groups_bounded : All (IsBoundedGroup 9) made_groups
groups_bounded =
    All-cons (IsBoundedGroup 9) (three_from 0 1) (three_from 1342177280 4 ∷ three_from 1744830464 7 ∷ []) (bounded_group 0 1 (omega arith) (omega arith) (omega arith))
    (All-cons (IsBoundedGroup 9) (three_from 1342177280 4) (three_from 1744830464 7 ∷ []) (bounded_group 1342177280 4 (omega arith) (omega arith) (omega arith))
    (All-cons (IsBoundedGroup 9) (three_from 1744830464 7) [] (bounded_group 1744830464 7 (omega arith) (omega arith) (omega arith)) (All-nil (IsBoundedGroup 9))))

groups_rise : AllPairs Lower made_groups
groups_rise zero zero d lt within = absurd (omega (arith, lt))
groups_rise zero (suc zero) d lt within = omega arith
groups_rise zero (suc (suc zero)) d lt within = omega arith
groups_rise zero (suc (suc (suc j))) d lt within = absurd (omega (arith, within))
groups_rise (suc zero) zero d lt within = absurd (omega (arith, lt))
groups_rise (suc zero) (suc zero) d lt within = absurd (omega (arith, lt))
groups_rise (suc zero) (suc (suc zero)) d lt within = omega arith
groups_rise (suc zero) (suc (suc (suc j))) d lt within = absurd (omega (arith, within))
groups_rise (suc (suc i)) zero d lt within = absurd (omega (arith, lt))
groups_rise (suc (suc i)) (suc zero) d lt within = absurd (omega (arith, lt))
groups_rise (suc (suc i)) (suc (suc zero)) d lt within = absurd (omega (arith, lt))
groups_rise (suc (suc i)) (suc (suc (suc j))) d lt within = absurd (omega (arith, within))

-- a made scenario is within the bounds of scenarios
pub made_bounded : (n seed : ℕ) → n ≤ most_requests → IsBounded (made_scenario n seed)
made_bounded n seed few = record {
  starts = made_groups;
  nodes = (omega arith, omega arith);
  some = omega arith;
  few = omega arith;
  each = groups_bounded;
  rising = groups_rise;
  groups = refl;
  clients = clients_bounded seed n few;
  ascending = clients_rise seed n 16;
  lines = lines_bounded seed n;
  version = inl refl;
}
