-- Entries that may be applied from an empty start, with their history.
use Rattle.std.proofs.Common.{◌≡◌, ℕ, ◌^◌, ◌<◌, [], ◌∷◌, Option, Some, None, inl, inr, refl, sym, ap, ◌∙◌, subst, arith}
use Rattle.std.specs.Prelude.{IsTrue}
use Rattle.std.specs.Cmp.{nat_cmp_total}
use Rattle.std.specs.Cmp.Lexicographic.{slice_cmp, nat_list_cmp_total}
use Rattle.std.specs.FinMap.{empty, get, get-empty, get-insert}
use Rattle.std.specs.Ordering.{nat_cmp}
use Rattle.std.proofs.lemmas.Bool.{lt-ltb}
use Rattle.std.proofs.lemmas.Option.{same_Some}
use Rattle.sc_base.specs.Definitions.{IsArc, holds, offset}
use Rattle.sc_base.specs.declared.ops.Noted.{Noted}
use Rattle.sc_base.specs.declared.ops.Reply.{Reply}
use Rattle.sc_words.specs.declared.commands.commands.Command.TheVariants.{Call, Split}
use Rattle.sc_words.specs.declared.commands.effects.Effect.{Effect}
use Rattle.sc_words.specs.declared.commands.effects.Effect.TheVariants.{Changed}
use Rattle.sc_words.specs.ideal.IdealDefinitions.{Legal}
use Rattle.sc_group_table.specs.machine.MachineDefinitions.{Group, group_of, applied, done, served_by_note, child_of, left_group}
use Rattle.sc_group_table.proofs.MachineProofs.Lemmas.{clients_again}
use Rattle.sc_meaning.specs.declared.entries.Cut.{Cut}
use Rattle.sc_meaning.specs.entries.EntryDefinitions.{Covers, first_cut, StoreWorld, first_world, recorded, with_result, world_after, world_of}
use Rattle.sc_law_entries.specs.history.HistoryDefinitions.{ExampleOfEntries, answers_with, example_log, get_a, get_entry, lone_base, offspring, put_a, put_entry, split_entry, two_requests, AllMayBeApplied, MayBeApplied, MayCall, MaySplit, BeginBare, BeginsBare}
use Rattle.sc_law_entries.proofs.HistoryProofs.EntryMoves.{entries_report}

-- ---- the start

abbrev lone_cut : Cut
lone_cut = first_cut lone_base

held : (p : ℕ) → IsTrue (holds lone_cut.arc p)
held p = lt-ltb (offset lone_cut.arc p) (2 ^ 32) (omega arith)

covers : Covers (lone_cut ∷ [])
covers = record {
  arcs = λ other among. elim among [
    | inl e ↦ subst (λ (c : Cut). IsArc c.arc × (c.arc.lo < 2 ^ 32)) e (record { some = omega arith; most = omega arith }, omega arith)
    | inr none ↦ absurd none
  ];
  some = λ p fits. (lone_cut, inl refl, held p);
  only = λ p fits one other among among' t t'. elim among [
    | inl e ↦ elim among' [ inl f ↦ sym e ∙ f | inr none ↦ absurd none ]
    | inr none ↦ absurd none
  ];
  apart = λ i j d below within. absurd (omega (arith, below, within));
}

bare : BeginBare (lone_base ∷ [])
bare = record {
  covers = covers;
  bare = λ base among. elim among [
    | inl e ↦ subst BeginsBare e (record { pairs = refl; clients = refl })
    | inr none ↦ absurd none
  ];
}

-- ---- the worlds after each entry

abbrev first : StoreWorld
first = first_world (lone_base ∷ [])

abbrev start : Group
start = group_of lone_base

abbrev served : Group
served = (done start 1 1 put_a).0

abbrev second : StoreWorld
second = with_result first start (Call 1 1 put_a) (done start 1 1 put_a)

abbrev third : StoreWorld
third = with_result second served (Split 1610612736 offspring 1) (left_group served 1610612736 offspring, Changed)

abbrev newborn : Group
newborn = group_of (child_of served 1610612736 offspring)

-- the calls are new ones
nothing_noted : get newborn.clients 2 ≡ None
nothing_noted = ap (λ t. get t 2) (clients_again served.clients) ∙ get-insert nat_cmp_total start.clients 1 _ 2 ∙ get-empty nat_cmp 2

get_is_new : applied newborn (Call 2 1 get_a) ≡ done newborn 2 1 get_a
get_is_new = ap (λ (o : Option Noted). served_by_note o newborn 2 1 get_a) nothing_noted

second_is : recorded first put_entry ≡ second
second_is = ap (λ (result : Group × Effect). with_result first start (Call 1 1 put_a) result) (ap (λ (o : Option Noted). served_by_note o start 1 1 put_a) (get-empty nat_cmp 1))

-- ---- each entry may be applied

may_put : MayBeApplied two_requests first put_entry
may_put group found = subst (λ g. MayCall two_requests first g 1 1 put_a) (same_Some start group found) (record { asked = refl; cut = λ serves. (lone_base.core.arc, refl) })

may_split : MayBeApplied two_requests second split_entry
may_split group found = subst (λ g. MaySplit second g 1610612736 offspring) (same_Some served group found) (record {
  fits = omega arith;
  fresh = λ alone here unlocked named. record { cut = (lone_base.core.arc, refl); unborn = refl; uncut = refl };
})

may_get : MayBeApplied two_requests third get_entry
may_get group found = subst (λ g. MayCall two_requests third g 2 1 get_a) (same_Some newborn group found) (record { asked = refl; cut = λ serves. (newborn.core.arc, refl) })

may : AllMayBeApplied two_requests first example_log
may = (may_put, subst (λ world. AllMayBeApplied two_requests world (split_entry ∷ get_entry ∷ [])) (sym second_is) (may_split, (may_get, tt)))

-- ---- the history

calls_are : (world_of (lone_base ∷ []) example_log).history ≡ answers_with (get start.pairs (97 ∷ [])) (get newborn.pairs (97 ∷ []))
calls_are =
    ap (λ world. (world_after world (split_entry ∷ get_entry ∷ [])).history) second_is
    ∙ ap (λ (result : Group × Effect). (with_result third newborn (Call 2 1 get_a) result).history) get_is_new

history : (world_of (lone_base ∷ []) example_log).history ≡ answers_with None (Some (120 ∷ []))
history =
    let legal = subst Legal calls_are (entries_report two_requests (lone_base ∷ []) bare example_log may).recorded.legal in
    calls_are
    ∙ ap (λ (r : Reply). answers_with r.old (get newborn.pairs (97 ∷ []))) legal.replay.0
    ∙ ap (λ o. answers_with o (get newborn.pairs (97 ∷ []))) (get-empty (slice_cmp nat_cmp) (97 ∷ []))
    ∙ ap (λ (r : Reply). answers_with None r.old) legal.replay.1.0
    ∙ ap (answers_with None) (get-insert nat_list_cmp_total empty (97 ∷ []) (120 ∷ []) (97 ∷ []))

pub example_of_entries : ExampleOfEntries
example_of_entries = record { bare = bare; may = may; history = history }
