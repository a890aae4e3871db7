-- What holds of each element of a list holds of what is found in it, and of each of what is made of it.
use Rattle.std.proofs.Common.{ℕ, zero, suc, nat_lt, eqb, Bool, List, [], ◌∷◌, filter, find, Option, Some, None}
use Rattle.std.specs.Prelude.{slice_get}
use Rattle.std.specs.List.{fold}
use Rattle.std.specs.Option.{option_map}
use Rattle.sc_base.specs.Definitions.{Each}
use Rattle.sc_words.proofs.PaxosProofs.PaxosLemmas.{Each-append, Each-filter}
use Rattle.sc_node_table.specs.Values.{Flight, Report}
use Rattle.sc_words.specs.paxos.PaxosDefinitions.{with_report, is_better, better_of, choice, without_flight, with_voters}
use Rattle.sc_node_table.specs.NodeDefinitions.{either, at_slot, with_slot, without_slot}
use Rattle.sc_law_entries.specs.names.NameDefinitions.{Opt}
use Rattle.sc_law_walks.proofs.WalkLemmas.{either_way}
pub use Rattle.sc_law_walks.proofs.Lists.{Each-drop}

pub opt_find : {X : Type 0} (P : X → Type 0) (p : X → Bool) (xs : List X) → Each P xs → Opt P (find p xs)
opt_find P p [] e = tt
opt_find P p (x ∷ xs) e = either_way (λ o. Opt P o) (p x) (Some x) (find p xs) e.0 (opt_find P p xs e.1)

pub opt_map : {X Y : Type 0} (P : X → Type 0) (Q : Y → Type 0) (f : X → Y) → ((x : X) → P x → Q (f x)) → (o : Option X) → Opt P o → Opt Q (option_map f o)
opt_map P Q f keep None p = tt
opt_map P Q f keep (Some x) p = keep x p

pub opt_either : {X : Type 0} (P : X → Type 0) (a b : Option X) → Opt P a → Opt P b → Opt P (either a b)
opt_either P None b p q = q
opt_either P (Some x) b p q = p

pub opt_get : {X : Type 0} (P : X → Type 0) (xs : List X) (k : ℕ) → Each P xs → Opt P (slice_get xs k)
opt_get P [] k e = tt
opt_get P (x ∷ xs) zero e = e.0
opt_get P (x ∷ xs) (suc k) e = opt_get P xs k e.1

pub opt_slot : {X : Type 0} (P : X → Type 0) (es : List (ℕ × X)) (slot : ℕ) → Each (λ (e : ℕ × X). P e.1) es → Opt P (at_slot es slot)
opt_slot P [] slot p = tt
opt_slot P (e ∷ es) slot p = either_way (λ o. Opt P o) (eqb e.0 slot) (Some e.1) (at_slot es slot) p.0 (opt_slot P es slot p.1)

pub slot_with : {X : Type 0} (P : X → Type 0) (es : List (ℕ × X)) (slot : ℕ) (x : X) → P x → Each (λ (e : ℕ × X). P e.1) es → Each (λ (e : ℕ × X). P e.1) (with_slot es slot x)
slot_with P [] slot x q p = (q, tt)
slot_with {X} P (e ∷ es) slot x q p =
    either_way (λ (l : List (ℕ × X)). Each (λ (a : ℕ × X). P a.1) l) (eqb e.0 slot) _ _ (q, p.1)
    (either_way (λ (l : List (ℕ × X)). Each (λ (a : ℕ × X). P a.1) l) (nat_lt slot e.0) _ _ (q, p) (p.0, slot_with P es slot x q p.1))

pub slot_without : {X : Type 0} (P : X → Type 0) (es : List (ℕ × X)) (slot : ℕ) → Each (λ (e : ℕ × X). P e.1) es → Each (λ (e : ℕ × X). P e.1) (without_slot es slot)
slot_without P [] slot p = tt
slot_without {X} P (e ∷ es) slot p = either_way (λ (l : List (ℕ × X)). Each (λ (a : ℕ × X). P a.1) l) (eqb e.0 slot) _ _ p.1 (p.0, slot_without P es slot p.1)

-- ---- flights and reports

module _ {V : Type 0} (P : V → Type 0) where
  abbrev pub Flights : List (Flight V) → Type 0
  Flights flights = Each (λ (flight : Flight V). P flight.value) flights

  abbrev pub Reports : List (Report V) → Type 0
  Reports reports = Each (λ (report : Report V). P report.value) reports

  pub flight_without : (slot : ℕ) (flights : List (Flight V)) → Flights flights → Flights (without_flight slot flights)
  flight_without slot [] p = tt
  flight_without slot (flight ∷ flights) p = either_way Flights (eqb flight.slot slot) _ _ p.1 (p.0, flight_without slot flights p.1)

  pub voters_with : (slot : ℕ) (voters : Option (List ℕ)) (flights : List (Flight V)) → Flights flights → Flights (with_voters slot voters flights)
  voters_with slot voters [] p = tt
  voters_with slot voters (flight ∷ flights) p = either_way Flights (eqb flight.slot slot) _ _ (p.0, p.1) (p.0, voters_with slot voters flights p.1)

  pub report_with : (new : Report V) (reports : List (Report V)) → P new.value → Reports reports → Reports (with_report new reports)
  report_with new reports n p =
      Each-append (λ (report : Report V). P report.value) (filter (λ (report : Report V). nat_lt report.slot new.slot) reports) (new ∷ filter (λ (report : Report V). nat_lt new.slot report.slot) reports)
      (Each-filter (λ (report : Report V). P report.value) (λ (report : Report V). nat_lt report.slot new.slot) reports p)
      (n, Each-filter (λ (report : Report V). P report.value) (λ (report : Report V). nat_lt new.slot report.slot) reports p)

  abbrev Best : Option (Report V) → Type 0
  Best o = Opt (λ (report : Report V). P report.value) o

  best_of : (slot : ℕ) (reports : List (Report V)) (best : Option (Report V)) → Best best → Reports reports → Best (fold (better_of slot) best reports)
  best_of slot [] best b p = b
  best_of slot (report ∷ reports) best b p = best_of slot reports (better_of slot best report) (either_way Best (is_better slot best report) (Some report) best p.0 b) p.1

  pub opt_choice : (slot : ℕ) (reports : List (Report V)) → Reports reports → Best (choice slot reports)
  opt_choice slot reports p = best_of slot reports None tt p
