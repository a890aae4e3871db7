-- Moves from a bare start, with their history.
use Rattle.std.proofs.Common.{◌≡◌, ◌^◌, ◌<◌, [], ◌∷◌, Some, None, inl, inr, refl, sym, ap, ◌∙◌, subst, arith}
use Rattle.std.specs.Cmp.{nat_cmp_total}
use Rattle.std.specs.Cmp.Lexicographic.{slice_cmp, nat_list_cmp_total}
use Rattle.std.specs.FinMap.{empty, get, get-empty, get-insert}
use Rattle.std.specs.Ordering.{nat_cmp}
use Rattle.sc_base.specs.Definitions.{IsArc}
use Rattle.sc_base.specs.declared.names.Draw.{Draw}
use Rattle.sc_base.specs.declared.ops.Reply.{Reply}
use Rattle.sc_words.specs.ideal.IdealDefinitions.{later}
use Rattle.sc_words.proofs.IdealProofs.IdealLemmas.{joined_by_number}
use Rattle.sc_law_entries.specs.history.HistoryDefinitions.{Holding, AreBare, MayMakeAll, history_by, part_before, part_from, with_previous, with_request, ExampleOfMoves, answers_with, bare_ring, example_moves, lone_holdings, offspring, parent, put_a, two_requests}
use Rattle.sc_law_entries.proofs.HistoryProofs.Disjoint.{holding_here, holding_there}
use Rattle.sc_law_entries.proofs.HistoryProofs.MovesKept.{moves_make_history}
use Rattle.sc_meaning.proofs.EntriesProofs.EntryLemmas.{draw_cases}
use Rattle.std.proofs.lemmas.Option.{none-some, same_Some}

-- only the group holds something
lone : (name : Draw) (holding : Holding) → lone_holdings name ≡ Some holding → (name ≡ parent) × (bare_ring ≡ holding)
lone name holding fact = elim (draw_cases name parent) [
  | inl e ↦ (e, same_Some bare_ring holding (sym (holding_here parent (Some bare_ring) (λ _. None) name e) ∙ fact))
  | inr ne ↦ absurd (none-some holding (sym (holding_there parent (Some bare_ring) (λ _. None) name ne) ∙ fact))
]

ring_fits : IsArc bare_ring.arc × (bare_ring.arc.lo < 2 ^ 32)
ring_fits = (record { some = omega arith; most = omega arith }, omega arith)

bare : AreBare lone_holdings
bare = record {
  disjoint = record {
    arcs = λ name holding fact. subst (λ (h : Holding). IsArc h.arc × (h.arc.lo < 2 ^ 32)) (lone name holding fact).1 ring_fits;
    only = λ p name other holding another fact its held held_too. ((lone name holding fact).0 ∙ sym (lone other another its).0);
  };
  bare = λ name holding fact. record {
    pairs = ap (λ (h : Holding). h.pairs) (sym (lone name holding fact).1);
    clients = ap (λ (h : Holding). h.clients) (sym (lone name holding fact).1);
  };
}

-- what the parts hold on the way
abbrev left : Holding
left = part_before 2147483648 bare_ring

abbrev right : Holding
right = part_from 2147483648 bare_ring

abbrev served : Holding
served = with_request 1 1 put_a left

abbrev gained : Holding
gained = with_previous right (part_from 1610612736 served)

apart : parent ≡ offspring → ⊥
apart e = let n = ap (λ (d : Draw). d.node) e in omega (arith, n)

-- the child's table notes nothing of client 2
nothing_of_two : get gained.clients 2 ≡ None
nothing_of_two =
    joined_by_number right.clients served.clients 2
    ∙ ap (λ o. later o (get served.clients 2)) (get-empty nat_cmp 2)
    ∙ ap (later None) (get-insert nat_cmp_total left.clients 1 _ 2 ∙ get-empty nat_cmp 2)

may : MayMakeAll two_requests lone_holdings example_moves
may = (
  record { holding = bare_ring; fact = refl; fits = omega arith; cut = (refl, λ e. omega (arith, e)); free = refl },
  (
    record { holding = left; fact = refl; its = refl; above = λ n e. absurd (none-some n (sym (get-empty nat_cmp 1) ∙ e)); asked = refl },
    (
      record {
        holding = served;
        fact = refl;
        other = right;
        next_is = refl;
        apart = apart;
        fits = (omega arith, (refl, λ e. omega (arith, e)), (refl, omega arith));
      },
      (record { holding = gained; fact = refl; its = refl; above = λ n e. absurd (none-some n (sym nothing_of_two ∙ e)); asked = refl }, tt),
    ),
  ),
)

-- the replies are those of the map, whoever gave them
history : history_by lone_holdings example_moves ≡ answers_with None (Some (120 ∷ []))
history =
    let replay = (moves_make_history two_requests lone_holdings bare example_moves may).0.legal.replay in
    ap (λ (r : Reply). answers_with r.old (get gained.pairs (97 ∷ []))) replay.0
    ∙ ap (λ o. answers_with o (get gained.pairs (97 ∷ []))) (get-empty (slice_cmp nat_cmp) (97 ∷ []))
    ∙ ap (λ (r : Reply). answers_with None r.old) replay.1.0
    ∙ ap (answers_with None) (get-insert nat_list_cmp_total empty (97 ∷ []) (120 ∷ []) (97 ∷ []))

pub example_of_moves : ExampleOfMoves
example_of_moves = record { bare = bare; may = may; history = history }
