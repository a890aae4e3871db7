-- How a round and the rounds end.
use Rattle.std.proofs.Common.{◌≡◌, ℕ, ◌+◌, ◌≤◌, List, [], ◌∷◌, map, Bool, ◌||◌, refl, sym, ap, ◌∙◌, subst, is_some, Option, None, Some, IfSome, ◌<◌, arith, Contains}
use Rattle.std.specs.List.{list_any}
use Rattle.sc_actor.specs.declared.actors.Actor.{Ghosts}
use Rattle.sc_actor.specs.declared.actors.Parcel.{Ghosts as MailGhosts}
use Rattle.sc_thread_ledger.specs.Pending.{kth_pending}
use Rattle.sc_actor.specs.declared.rows.Row.{Row}
use Rattle.sc_thread_ports.specs.declared.exchange.ports.Port.{Port}
use Rattle.sc_thread_ports.specs.exchange.Answers.{IsFirstTo}
use Rattle.sc_thread_ports.specs.exchange.Addressed.{all_addressed}
use Rattle.sc_thread_ports.specs.exchange.BareRows.{rows_of}
use Rattle.sc_thread_ports.specs.exchange.Ports.{seen, Looked, IsTrue, IsAddressed}
use Rattle.sc_thread_work.specs.declared.shell.shells.Shell.{Shell}
use Rattle.sc_thread_work.specs.declared.shell.turns.Turn.{Turn}
use Rattle.sc_thread_work.specs.declared.shell.turns.Turn.TheVariants.{Full as RefusedFull}
use Rattle.sc_thread_workers.specs.declared.answers.Rounds.{Rounds}
use Rattle.sc_thread_workers.specs.declared.answers.Way.{Way}
use Rattle.sc_thread_workers.specs.declared.answers.Way.TheVariants.{Runs, Queue}
use Rattle.sc_thread_workers.specs.declared.answers.Rounds.TheVariants.{Quiet, Limit, Full, OutOfMemory}
use Rattle.sc_thread_workers.specs.Crews.{rows_made, AllSound, AreStill, HaveVouched}
use Rattle.sc_thread_workers.specs.Services.{AllServe}
use Rattle.sc_thread_workers.specs.RoundEnds.{any_waits, IsFirst, HasRefusedShell, IsEnd, StepEnd, RefusedEnd, IsGathered, IfCalm, IfHeld, IfKept}

any_map : {A : Type 0} (f : A → Bool) (xs : List A) → list_any (λ (b : Bool). b) (map f xs) ≡ list_any f xs
any_map f [] = refl
any_map f (x ∷ xs) = ap (λ b. f x || b) (any_map f xs)

module _ {M O : Type 0} {h : MailGhosts M} where
  -- the flags of these actors tell whether mail is pending for one of them
  pub any_found : (net : Port M O h) (whos : List ℕ) (waits : List Bool) (any : Bool) → waits ≡ map (λ who. is_some (kth_pending h.receiver net.actors (seen net) who 1)) whos → any ≡ list_any (λ (b : Bool). b) waits → any_waits net whos ≡ any
  any_found net whos waits any is reported = sym (any_map (λ who. is_some (kth_pending h.receiver net.actors (seen net) who 1)) whos) ∙ (ap (list_any (λ (b : Bool). b)) (sym is) ∙ sym reported)

  -- mail waits as before, where the same rows were seen
  pub waits_same : (net next : Port M O h) (whos : List ℕ) → next.actors ≡ net.actors → seen next ≡ seen net → any_waits next whos ≡ any_waits net whos
  waits_same net next whos actors rows = λ i. list_any (λ who. is_some (kth_pending h.receiver (actors i) (rows i) who 1)) whos

  pub addressed_same : (net next : Port M O h) → seen next ≡ seen net → IsAddressed net → IsAddressed next
  addressed_same net next rows a = ap (all_addressed h.receiver []) rows ∙ a

  pub true_same : (net next : Port M O h) → Looked net next → seen next ≡ seen net → IsTrue net → IsTrue next
  true_same net next l rows t = record {
    own = (λ i. rows_of (l.stays.who i) (rows i)) ∙ (t.own ∙ sym l.made);
    others = λ z n ne away. ap (rows_of n) rows ∙ t.others (sym l.stays.who ∙ z) n ne (λ there. away (subst (λ ws. Contains ws n) (sym l.stays.given) there));
  }

  -- what a look found, once all have vouched
  pub first_so : (net mid next : Port M O h) (found : Option ℕ) → Looked net mid → Looked mid next → seen next ≡ seen mid → IsFirstTo h.receiver net.actors (seen mid) net.who found → IsFirst next found
  first_so net mid next found a b same f =
      let actors : net.actors ≡ next.actors = sym (b.stays.exchange.1 ∙ a.stays.exchange.1) in
      let who : net.who ≡ next.who = sym (b.stays.who ∙ a.stays.who) in
      subst (λ (p : ℕ × List (Row M O) × ℕ). IsFirstTo h.receiver p.0 p.1 p.2 found) (λ i. (actors i, sym same i, who i)) f

module _ {A M O : Type 0} {g : Ghosts A M O} {h : MailGhosts M} where
  -- after a meeting the port looked, and then all vouched
  pub gathered_so : (mid next : Port M O h) (ss ts : List (Shell A M O g h)) → IsTrue mid → IsAddressed mid → AreStill mid next ss ts → HaveVouched mid next ts → IsGathered next ts
  gathered_so mid next ss ts rows addressed still vouched = record {
    over = vouched.over;
    rows = true_same mid next still.looked vouched.seen rows;
    addressed = addressed_same mid next vouched.seen addressed;
  }

  -- a round that ends by a refusal
  pub step_end : (r : Rounds) (refused : Turn) (net : Port M O h) (start ss : List (Shell A M O g h)) (whos : List ℕ) (limit used : ℕ) → RefusedEnd r refused net ss
      → ((bytes : ℕ) → refused ≡ RefusedFull bytes → IsGathered net ss → HasRefusedShell start net ss bytes × (used < limit)) → StepEnd r net start ss whos limit used
  step_end (Quiet reported) refused net start ss whos limit used p f = absurd p
  step_end (Limit reported) refused net start ss whos limit used p f = absurd p
  step_end (Full bytes) refused net start ss whos limit used p f = (let e = f bytes p.0 p.1 in (p.1.over, e.0, e.1))
  step_end OutOfMemory refused net start ss whos limit used p f = tt

  -- the end of a round, told from an earlier start
  pub step_from : (o : Option Rounds) (net : Port M O h) (first mid ss : List (Shell A M O g h)) (whos : List ℕ) (limit used : ℕ) → ((bytes : ℕ) → HasRefusedShell mid net ss bytes → HasRefusedShell first net ss bytes) → IfSome o (λ r. StepEnd r net mid ss whos limit used) → IfSome o (λ r. StepEnd r net first ss whos limit used)
  step_from None net first mid ss whos limit used f p = tt
  step_from (Some (Quiet reported)) net first mid ss whos limit used f p = p
  step_from (Some (Limit reported)) net first mid ss whos limit used f p = p
  step_from (Some (Full bytes)) net first mid ss whos limit used f p = (p.0, f bytes p.1, p.2)
  step_from (Some OutOfMemory) net first mid ss whos limit used f p = tt

  -- the end of all rounds, from that of the last
  pub end_so : (r : Rounds) (net : Port M O h) (first mid ss : List (Shell A M O g h)) (whos all : List ℕ) (limit used : ℕ) → StepEnd r net mid ss whos limit used → whos ≡ all → used ≤ limit → IfHeld (Some r) (rows_made ss ≡ rows_made first + used)
      → IfHeld (Some r) ((bytes : ℕ) → HasRefusedShell mid net ss bytes → HasRefusedShell first net ss bytes) → IfHeld (Some r) (AllServe net first) → IfCalm (Some r) (AllSound ss) → IsEnd r net first ss all limit
  end_so (Quiet reported) net first mid ss whos all limit used p same fits count f served sound =
      (p.0, ap (any_waits net) (sym same) ∙ p.1, subst (λ n. n ≤ limit) (sym p.2) fits, count ∙ ap (λ n. rows_made first + n) (sym p.2), served, sound)
  end_so (Limit reported) net first mid ss whos all limit used p same fits count f served sound =
      (p.0, ap (any_waits net) (sym same) ∙ p.1, p.2 ∙ p.3, count ∙ ap (λ n. rows_made first + n) (sym p.2), served, sound)
  end_so (Full bytes) net first mid ss whos all limit used p same fits count f served sound = (p.0, f bytes p.1, omega (arith, count, p.2), served)
  end_so OutOfMemory net first mid ss whos all limit used p same fits count f served sound = tt

-- a claim on a calm round
pub calm_maps : {P Q : Type 0} (r : Option Rounds) → (P → Q) → IfCalm r P → IfCalm r Q
calm_maps None f p = f p
calm_maps (Some (Quiet used)) f p = f p
calm_maps (Some (Limit used)) f p = f p
calm_maps (Some (Full bytes)) f p = tt
calm_maps (Some OutOfMemory) f p = tt

-- after a refusal there is none
pub calm_never : (P : Type 0) {A M O : Type 0} {g : Ghosts A M O} {h : MailGhosts M} (r : Rounds) (refused : Turn) (net : Port M O h) (ss : List (Shell A M O g h)) → RefusedEnd r refused net ss → IfCalm (Some r) P
calm_never P (Quiet used) refused net ss e = absurd e
calm_never P (Limit used) refused net ss e = absurd e
calm_never P (Full bytes) refused net ss e = tt
calm_never P OutOfMemory refused net ss e = tt

-- a claim on a round for which there was memory
pub held_maps : {P Q : Type 0} (r : Option Rounds) → (P → Q) → IfHeld r P → IfHeld r Q
held_maps None f p = f p
held_maps (Some (Quiet used)) f p = f p
held_maps (Some (Limit used)) f p = f p
held_maps (Some (Full bytes)) f p = f p
held_maps (Some OutOfMemory) f p = tt

-- a calm round had memory
pub held_calm : (P : Type 0) (r : Option Rounds) → IfHeld r P → IfCalm r P
held_calm P None p = p
held_calm P (Some (Quiet used)) p = p
held_calm P (Some (Limit used)) p = p
held_calm P (Some (Full bytes)) p = tt
held_calm P (Some OutOfMemory) p = tt

-- a refusal that is not out of memory had memory
pub refused_held : {P : Type 0} {A M O : Type 0} {g : Ghosts A M O} {h : MailGhosts M} (r : Rounds) (refused : Turn) (net : Port M O h) (ss : List (Shell A M O g h)) → (IsGathered net ss → P) → RefusedEnd r refused net ss → IfHeld (Some r) P
refused_held (Quiet used) refused net ss f e = absurd e
refused_held (Limit used) refused net ss f e = absurd e
refused_held (Full bytes) refused net ss f e = f e.1
refused_held OutOfMemory refused net ss f e = tt

-- what holds anyway
pub calm_of : (P : Type 0) (r : Option Rounds) → P → IfCalm r P
calm_of P None p = p
calm_of P (Some (Quiet used)) p = p
calm_of P (Some (Limit used)) p = p
calm_of P (Some (Full bytes)) p = tt
calm_of P (Some OutOfMemory) p = tt

-- the same of a round for which there was memory
pub held_of : (P : Type 0) (r : Option Rounds) → P → IfHeld r P
held_of P None p = p
held_of P (Some (Quiet used)) p = p
held_of P (Some (Limit used)) p = p
held_of P (Some (Full bytes)) p = p
held_of P (Some OutOfMemory) p = tt

-- two claims on it
pub held_with : {P Q R : Type 0} (r : Option Rounds) → (P → Q → R) → IfHeld r P → IfHeld r Q → IfHeld r R
held_with None f p q = f p q
held_with (Some (Quiet used)) f p q = f p q
held_with (Some (Limit used)) f p q = f p q
held_with (Some (Full bytes)) f p q = f p q
held_with (Some OutOfMemory) f p q = tt

-- a round that is not the last had memory
pub held_none : (P : Type 0) (r : Option Rounds) → r ≡ None → IfHeld r P → P
held_none P r none p = subst (λ (o : Option Rounds). IfHeld o P) none p

-- a claim on shells that may be lost
pub kept_of : (P : Type 0) (way : Way) (r : Option Rounds) → P → IfKept way r P
kept_of P Runs r p = p
kept_of P Queue r p = held_of P r p

pub kept_maps : {P Q : Type 0} (way : Way) (r : Option Rounds) → (P → Q) → IfKept way r P → IfKept way r Q
kept_maps Runs r f p = f p
kept_maps Queue r f p = held_maps r f p

-- where there was memory none was
pub kept_held : (P : Type 0) (way : Way) (r : Option Rounds) → IfKept way r P → IfHeld r P
kept_held P Runs r p = held_of P r p
kept_held P Queue r p = p
