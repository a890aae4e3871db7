-- Several groups that begin with nothing held, and quiet entries (requests, joins and leaves): what they make of the history.
use Rattle.std.proofs.Common.{◌≡◌, ◌%◌, ◌^◌, List, [], ◌∷◌, map, Some, inl, inr, refl, sym, ap, ◌∙◌, subst}
use Rattle.std.specs.FinMap.{empty}
use Rattle.std.specs.Option.{option_map}
use Rattle.std.specs.List.{find}
use Rattle.std.proofs.lemmas.Bool.{cases_Bool, cond-true, cond-false}
use Rattle.sc_base.specs.Definitions.{Among, Each, Arc, holds}
use Rattle.sc_base.specs.declared.names.Draw.{Draw}
use Rattle.sc_base.proofs.Lemmas.{map-some, draw_is}
use Rattle.sc_words.specs.declared.commands.cores.Base.{Base}
use Rattle.sc_words.specs.ideal.IdealDefinitions.{contents_after, part_of, with_pairs, joined_with}
use Rattle.sc_group_table.specs.machine.MachineDefinitions.{Group, group_of}
use Rattle.sc_meaning.specs.declared.entries.Cut.{Cut}
use Rattle.sc_meaning.specs.declared.entries.LogEntry.{LogEntry}
use Rattle.sc_meaning.specs.entries.EntryDefinitions.{Covers, arc_in, first_cut, is_cut_of, StoreWorld, first_world, is_named, named_group, world_of}
use Rattle.sc_meaning.proofs.EntriesProofs.EntryLemmas.{world_append}
use Rattle.sc_words.proofs.PaxosProofs.PaxosLemmas.{find_found, Each-split, one_of_name}
use Rattle.sc_paxos_law.proofs.Lemmas.{from_map}
use Rattle.sc_law_entries.specs.history.HistoryDefinitions.{Holding, RequestOf, AreBare, HasNotes, MatchesHoldings, holding_of, BeginBare, IsQuiet, HistoryMatchesWorld, QuietEntriesMakeHistory, holdings_in}
use Rattle.sc_law_entries.proofs.HistoryProofs.MovesKept.{bare_reported}
use Rattle.sc_law_entries.proofs.HistoryProofs.Cuts.{cut_of}
use Rattle.sc_law_entries.proofs.HistoryProofs.Holdings.{IsOnRing}
use Rattle.sc_law_entries.proofs.HistoryProofs.Positions.{holds_round, on_ring}
use Rattle.sc_law_entries.proofs.HistoryProofs.QuietWorlds.{HaveCuts, IsQuietWorld, effective_is, holdings_are, notes_grow, own_notes, quiet_all}

-- ---- at the start

same_test : (name : Draw) (bases : List Base) → option_map (λ (group : Group). group.core.arc) (named_group name (map group_of bases)) ≡ arc_in name (map first_cut bases)
same_test name [] = refl
same_test name (base ∷ bases) =
    elim (cases_Bool (is_named name (group_of base))) [
      | inl t ↦ ap (option_map (λ (group : Group). group.core.arc)) (cond-true (is_named name (group_of base)) (Some (group_of base)) (named_group name (map group_of bases)) t)
          ∙ sym (ap (option_map (λ (cut : Cut). cut.arc)) (cond-true (is_cut_of name (first_cut base)) (Some (first_cut base)) (find (is_cut_of name) (map first_cut bases)) t))
      | inr f ↦ ap (option_map (λ (group : Group). group.core.arc)) (cond-false (is_named name (group_of base)) (Some (group_of base)) (named_group name (map group_of bases)) f)
          ∙ same_test name bases
          ∙ sym (ap (option_map (λ (cut : Cut). cut.arc)) (cond-false (is_cut_of name (first_cut base)) (Some (first_cut base)) (find (is_cut_of name) (map first_cut bases)) f))
    ]

first_cuts : (bases : List Base) → HaveCuts (first_world bases)
first_cuts bases name group found = sym (same_test name bases) ∙ ap (option_map (λ (g : Group). g.core.arc)) found

module _ (bases : List Base) (begin : BeginBare bases) where
  -- what is held at first is held by a group of the scenario
  first_of : (name : Draw) (holding : Holding) → holdings_in (first_world bases) name ≡ Some holding
      → (base : Base) × Among base bases × (base.core.id ≡ name) × (holding_of (group_of base) ≡ holding)
  first_of name holding fact =
      let k = map-some holding_of (named_group name (map group_of bases)) holding (sym (holdings_are (first_world bases) refl (first_cuts bases) name) ∙ fact) in
      let f = find_found (is_named name) (map group_of bases) k.0 k.1 in
      let b = from_map group_of bases k.0 f.0 in
      (b.0, b.1, ap (λ (g : Group). g.core.id) b.2 ∙ draw_is k.0.core.id name f.1, ap holding_of b.2 ∙ k.2)

  arc_cut : (base : Base) → Among base bases → Among (first_cut base) (map first_cut bases)
  arc_cut base a = among_map bases base a
    where
      among_map : (bs : List Base) (b : Base) → Among b bs → Among (first_cut b) (map first_cut bs)
      among_map [] b a = absurd a
      among_map (x ∷ bs) b (inl e) = inl (ap first_cut e)
      among_map (x ∷ bs) b (inr a) = inr (among_map bs b a)

  first_bare : AreBare (holdings_in (first_world bases))
  first_bare = record {
    disjoint = record {
      arcs = λ name holding fact. (
          let b = first_of name holding fact in
          subst (λ (h : Holding). IsOnRing h.arc) b.3 (begin.covers.arcs (first_cut b.0) (arc_cut b.0 b.1)));
      only = λ p name other holding another fact its held held_too. (
          let b = first_of name holding fact in
          let d = first_of other another its in
          let here = (begin.covers.arcs (first_cut b.0) (arc_cut b.0 b.1)).1 in
          let there = (begin.covers.arcs (first_cut d.0) (arc_cut d.0 d.1)).1 in
          let one = begin.covers.only (p % 2 ^ 32) (on_ring p) (first_cut b.0) (first_cut d.0) (arc_cut b.0 b.1) (arc_cut d.0 d.1)
          (holds_round b.0.core.arc p here ∙ ap (λ (h : Holding). holds h.arc p) b.3 ∙ held)
          (holds_round d.0.core.arc p there ∙ ap (λ (h : Holding). holds h.arc p) d.3 ∙ held_too) in
          sym b.2 ∙ ap (λ (c : Cut). c.group) one ∙ d.2);
    };
    bare = λ name holding fact. (
        let b = first_of name holding fact in
        let none = begin.bare b.0 b.1 in
        record {
          pairs = ap (λ (h : Holding). h.pairs) (sym b.3) ∙ ap (with_pairs empty) none.pairs;
          clients = ap (λ (h : Holding). h.clients) (sym b.3) ∙ ap (joined_with empty) none.clients;
        });
  }

  -- what holds at the start
  pub first_recorded : (request : RequestOf) → MatchesHoldings request [] (holdings_in (first_world bases))
  first_recorded request = bare_reported request (holdings_in (first_world bases)) first_bare

  first_quiet : (request : RequestOf) → IsQuietWorld request bases (first_world bases)
  first_quiet request = record {
    transactions = refl;
    ring = refl;
    cuts = first_cuts bases;
    recorded = first_recorded request;
  }

  -- and what the groups note at the start
  pub first_notes : (request : RequestOf) (name : Draw) (group : Group) → named_group name (map group_of bases) ≡ Some group → HasNotes [] group.clients
  first_notes request = own_notes request bases (first_world bases) (first_quiet request)

-- ---- what the entries make of the history

-- a group whose holding matches the history has the arc of its range
cut_arc : (world : StoreWorld) → Covers world.ring → (cut : Cut) → Among cut world.ring → (arc : Arc) → arc_in cut.group world.ring ≡ Some arc → cut.arc ≡ arc
cut_arc world covers cut a arc e =
    let other = cut_of cut.group world.ring arc e in
    ap (λ (c : Cut). c.arc) (one_cut cut other.0 a other.1 (sym other.2)) ∙ other.3
  where
    one_cut : (c d : Cut) → Among c world.ring → Among d world.ring → c.group ≡ d.group → c ≡ d
    one_cut c d a b e = one_of_name (λ (x : Cut). x.group) world.ring covers.apart c d a b e

reported_world : (request : RequestOf) (bases : List Base) (world : StoreWorld) → BeginBare bases → IsQuietWorld request bases world → HistoryMatchesWorld request world
reported_world request bases world begin quiet = record {
  legal = quiet.recorded.legal;
  recorded = quiet.recorded;
  parts = λ cut a group fact. (
      let covers = subst Covers (sym quiet.ring) begin.covers in
      let found = sym (effective_is world quiet.transactions cut.group) ∙ fact in
      let arc = cut_arc world covers cut a group.core.arc (quiet.cuts cut.group group found) in
      let holds = holdings_are world quiet.transactions quiet.cuts cut.group ∙ ap (option_map holding_of) found in
      (quiet.recorded.recorded cut.group (holding_of group) holds).pairs ∙ ap (λ a. part_of a (contents_after empty world.history)) (sym arc));
}

quiet_world : (request : RequestOf) (bases : List Base) → BeginBare bases → (entries : List LogEntry) → Each (IsQuiet request) entries → IsQuietWorld request bases (world_of bases entries)
quiet_world request bases begin entries each = quiet_all request bases (first_world bases) entries (first_quiet bases begin request) each

pub quiet_entries_history : QuietEntriesMakeHistory
quiet_entries_history request bases begin entries each =
    let world = quiet_world request bases begin entries each in
    record {
      world = reported_world request bases (world_of bases entries) begin world;
      ring = world.ring;
      notes = λ prefix more fact name group found. (
          let first = quiet_world request bases begin prefix (Each-split (IsQuiet request) prefix more (subst (Each (IsQuiet request)) fact each)).0 in
          let had = own_notes request bases (world_of bases prefix) first name group found in
          subst (λ (w : StoreWorld). HasNotes w.history group.clients)
          (sym (ap (world_of bases) fact ∙ world_append (first_world bases) prefix more))
          (notes_grow (world_of bases prefix) more group had));
    }
