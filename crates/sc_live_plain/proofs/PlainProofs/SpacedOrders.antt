-- Orders of a calm scenario stand alone between lines of deliveries.
use Rattle.std.proofs.Common.{◌≡◌, ℕ, List, [], ◌∷◌, ◌++◌, ◌||◌, ◌&&◌, Bool, true, false, true≢false, map, refl, sym, ap, subst, arith, ◌⊎◌, inl, inr}
use Rattle.std.specs.List.{list_any}
use Rattle.sc_base.specs.Definitions.{Each}
use Rattle.sc_node_table.specs.Values.{OrderLine}
use Rattle.sc_scenario.specs.declared.scenario.scenarios.Scenario.{Scenario}
use Rattle.sc_scenario.specs.declared.scenario.scenarios.SchedLine.{SchedLine}
use Rattle.sc_scenario.specs.declared.scenario.scenarios.SchedLine.TheVariants.{Go, Deliver, Drop, Again, Tick, Crash, Told, Settle, Free, Storm}
use Rattle.sc_meaning.specs.sound.SoundDefinitions.{line_of}
use Rattle.sc_live_orderly.specs.OrderlyDefinitions.{IsCalmLine, HasRoom, Said, Nothing, Goes, AnOrder, MayGo, MayOrder, AreSpaced}
use Rattle.sc_live_plain.specs.PlainDefinitions.{delivers, budget_of, gives_order, starts, are_parted, AllowsDeliveries, AllowsCalmly, IsCalm, CalmLinesAreSpaced, RoomyScenariosAreCalm}

-- whether what was said keeps a line from coming without deliveries between
abbrev bars : Said → SchedLine → Bool
bars Nothing line = false
bars Goes line = gives_order line
bars AnOrder line = gives_order line || starts line

-- between two lines that are parted mail is delivered
abbrev AreParted : List SchedLine → Type 0
AreParted lines =
    (before between after : List SchedLine) (one other : SchedLine) → lines ≡ before ++ one ∷ between ++ other ∷ after → are_parted one other ≡ true → list_any delivers between ≡ true

-- mail is delivered before a line that is barred
abbrev AreBarred : Said → List SchedLine → Type 0
AreBarred said lines = (between after : List SchedLine) (other : SchedLine) → lines ≡ between ++ other ∷ after → bars said other ≡ true → list_any delivers between ≡ true

later : (line : SchedLine) (lines : List SchedLine) → AreParted (line ∷ lines) → AreParted lines
later line lines parted = λ before between after one other e. parted (line ∷ before) between after one other (ap (λ l. line ∷ l) e)

nothing_barred : (lines : List SchedLine) → AreBarred Nothing lines
nothing_barred lines = λ between after other e barred. absurd (true≢false (sym barred))

go_bars : (client : ℕ) (lines : List SchedLine) → AreParted (Go client ∷ lines) → AreBarred Goes lines
go_bars client lines parted = λ between after other e barred. parted [] between after (Go client) other (ap (λ l. Go client ∷ l) e) barred

order_bars : (node : ℕ) (order : OrderLine) (lines : List SchedLine) → AreParted (Told node order ∷ lines) → AreBarred AnOrder lines
order_bars node order lines parted = λ between after other e barred. parted [] between after (Told node order) other (ap (λ l. Told node order ∷ l) e) (or_from (gives_order other || starts other) barred)
  where
    or_from : (b : Bool) → b ≡ true → (b || false) ≡ true
    or_from true e = refl
    or_from false e = e

may_start : (said : Said) (client : ℕ) (lines : List SchedLine) → AreBarred said (Go client ∷ lines) → MayGo said
may_start Nothing client lines barred = tt
may_start Goes client lines barred = tt
may_start AnOrder client lines barred = absurd (true≢false (sym (barred [] lines (Go client) refl refl)))

may_give : (said : Said) (node : ℕ) (order : OrderLine) (lines : List SchedLine) → AreBarred said (Told node order ∷ lines) → MayOrder said
may_give Nothing node order lines barred = tt
may_give Goes node order lines barred = absurd (true≢false (sym (barred [] lines (Told node order) refl refl)))
may_give AnOrder node order lines barred = absurd (true≢false (sym (barred [] lines (Told node order) refl refl)))

-- what is barred is so behind a delivery to one actor
barred_behind : (said : Said) (who k : ℕ) (lines : List SchedLine) → AreBarred said (Deliver who k ∷ lines) → AreBarred said lines
barred_behind said who k lines barred = λ between after other e fact. barred (Deliver who k ∷ between) after other (ap (λ l. Deliver who k ∷ l) e) fact

lines_spaced : (budget : ℕ) (said : Said) (lines : List SchedLine) → Each (AllowsCalmly budget) lines → AreParted lines → AreBarred said lines → AreSpaced said (map line_of lines)
lines_spaced budget said [] calm parted barred = tt
lines_spaced budget said (Go client ∷ lines) calm parted barred = (may_start said client lines barred, lines_spaced budget Goes lines calm.1 (later (Go client) lines parted) (go_bars client lines parted))
lines_spaced budget said (Told node order ∷ lines) calm parted barred = (may_give said node order lines barred, lines_spaced budget AnOrder lines calm.1 (later (Told node order) lines parted) (order_bars node order lines parted))
lines_spaced budget said (Settle most ∷ lines) calm parted barred = lines_spaced budget Nothing lines calm.1 (later (Settle most) lines parted) (nothing_barred lines)
lines_spaced budget said (Free most workers ∷ lines) calm parted barred = lines_spaced budget Nothing lines calm.1 (later (Free most workers) lines parted) (nothing_barred lines)
lines_spaced budget said (Deliver who k ∷ lines) calm parted barred = (calm.0.0, lines_spaced budget said lines calm.1 (later (Deliver who k) lines parted) (barred_behind said who k lines barred))
lines_spaced budget said (Drop who k ∷ lines) calm parted barred = absurd calm.0
lines_spaced budget said (Again mail ∷ lines) calm parted barred = absurd calm.0
lines_spaced budget said (Tick who ∷ lines) calm parted barred = absurd calm.0
lines_spaced budget said (Crash node ∷ lines) calm parted barred = absurd calm.0
lines_spaced budget said (Storm number most ∷ lines) calm parted barred = absurd calm.0

lines_room : (budget : ℕ) (lines : List SchedLine) → Each (AllowsCalmly budget) lines → Each (HasRoom budget) (map line_of lines)
lines_room budget [] calm = tt
lines_room budget (Go client ∷ lines) calm = (tt, lines_room budget lines calm.1)
lines_room budget (Told node order ∷ lines) calm = (tt, lines_room budget lines calm.1)
lines_room budget (Settle most ∷ lines) calm = (calm.0, lines_room budget lines calm.1)
lines_room budget (Free most workers ∷ lines) calm = (calm.0, lines_room budget lines calm.1)
lines_room budget (Deliver who k ∷ lines) calm = (tt, lines_room budget lines calm.1)
lines_room budget (Drop who k ∷ lines) calm = absurd calm.0
lines_room budget (Again mail ∷ lines) calm = absurd calm.0
lines_room budget (Tick who ∷ lines) calm = absurd calm.0
lines_room budget (Crash node ∷ lines) calm = absurd calm.0
lines_room budget (Storm number most ∷ lines) calm = absurd calm.0

-- The orders of a calm scenario stand alone between lines of deliveries, and each of these has the room that the scenario's lines have.
pub calm_spaced : CalmLinesAreSpaced
calm_spaced room scenario calm = (lines_spaced room Nothing scenario.lines calm.lines calm.parted (nothing_barred scenario.lines), lines_room room scenario.lines calm.lines)

-- lines that start clients, deliver pending mail or give orders are calm lines of the walk
pub schedule_calm : (lines : List SchedLine) → Each (AllowsCalmly 0) lines → Each IsCalmLine (map line_of lines)
schedule_calm [] calm = tt
schedule_calm (Go client ∷ lines) calm = (tt, schedule_calm lines calm.1)
schedule_calm (Told node order ∷ lines) calm = (tt, schedule_calm lines calm.1)
schedule_calm (Settle most ∷ lines) calm = (tt, schedule_calm lines calm.1)
schedule_calm (Free most workers ∷ lines) calm = (tt, schedule_calm lines calm.1)
schedule_calm (Deliver who k ∷ lines) calm = (calm.0.0, schedule_calm lines calm.1)
schedule_calm (Drop who k ∷ lines) calm = absurd calm.0
schedule_calm (Again mail ∷ lines) calm = absurd calm.0
schedule_calm (Tick who ∷ lines) calm = absurd calm.0
schedule_calm (Crash node ∷ lines) calm = absurd calm.0
schedule_calm (Storm number most ∷ lines) calm = absurd calm.0

-- ---- room for less

lines_calm : (budget : ℕ) (lines : List SchedLine) → Each (AllowsCalmly budget) lines → Each (AllowsCalmly 0) lines
lines_calm budget [] calm = tt
lines_calm budget (Go client ∷ lines) calm = (tt, lines_calm budget lines calm.1)
lines_calm budget (Told node order ∷ lines) calm = (tt, lines_calm budget lines calm.1)
lines_calm budget (Settle most ∷ lines) calm = (omega arith, lines_calm budget lines calm.1)
lines_calm budget (Free most workers ∷ lines) calm = (omega arith, lines_calm budget lines calm.1)
lines_calm budget (Deliver who k ∷ lines) calm = ((calm.0.0, omega arith), lines_calm budget lines calm.1)
lines_calm budget (Drop who k ∷ lines) calm = absurd calm.0
lines_calm budget (Again mail ∷ lines) calm = absurd calm.0
lines_calm budget (Tick who ∷ lines) calm = absurd calm.0
lines_calm budget (Crash node ∷ lines) calm = absurd calm.0
lines_calm budget (Storm number most ∷ lines) calm = absurd calm.0

plain_calm : (budget : ℕ) (lines : List SchedLine) → Each (AllowsDeliveries budget) lines → Each (AllowsCalmly 0) lines
plain_calm budget [] plain = tt
plain_calm budget (Go client ∷ lines) plain = (tt, plain_calm budget lines plain.1)
plain_calm budget (Settle most ∷ lines) plain = (omega arith, plain_calm budget lines plain.1)
plain_calm budget (Free most workers ∷ lines) plain = (omega arith, plain_calm budget lines plain.1)
plain_calm budget (Deliver who k ∷ lines) plain = ((plain.0.0, omega arith), plain_calm budget lines plain.1)
plain_calm budget (Drop who k ∷ lines) plain = absurd plain.0
plain_calm budget (Again mail ∷ lines) plain = absurd plain.0
plain_calm budget (Tick who ∷ lines) plain = absurd plain.0
plain_calm budget (Crash node ∷ lines) plain = absurd plain.0
plain_calm budget (Told node order ∷ lines) plain = absurd plain.0
plain_calm budget (Storm number most ∷ lines) plain = absurd plain.0

-- no line of a plain scenario gives an order
none_given : (budget : ℕ) (before after : List SchedLine) (one : SchedLine) → Each (AllowsDeliveries budget) (before ++ one ∷ after) → gives_order one ≡ true → ⊥
none_given budget [] after (Told node order) plain gives = plain.0
none_given budget [] after _ plain gives = absurd (true≢false (sym gives))
none_given budget (line ∷ before) after one plain gives = none_given budget before after one plain.1 gives

none_first : (budget : ℕ) (before between after : List SchedLine) (one : SchedLine) → Each (AllowsDeliveries budget) (before ++ one ∷ between ++ after) → gives_order one ≡ true → ⊥
none_first budget [] between after one plain gives = none_given budget [] (between ++ after) one plain gives
none_first budget (line ∷ before) between after one plain gives = none_first budget before between after one plain.1 gives

none_second : (budget : ℕ) (before between after : List SchedLine) (one other : SchedLine) → Each (AllowsDeliveries budget) (before ++ one ∷ between ++ other ∷ after) → gives_order other ≡ true → ⊥
none_second budget [] between after one other plain gives = none_given budget between after other plain.1 gives
none_second budget (line ∷ before) between after one other plain gives = none_second budget before between after one other plain.1 gives

-- so none of two that are parted
parted_gives : (one other : SchedLine) → are_parted one other ≡ true → (gives_order one ≡ true) ⊎ (gives_order other ≡ true)
parted_gives one other parted = by (gives_order one) (gives_order other) (starts one) (starts other) parted
  where
    by : (a b c d : Bool) → ((a && (b || d)) || (c && b)) ≡ true → (a ≡ true) ⊎ (b ≡ true)
    by true b c d e = inl refl
    by false true c d e = inr refl
    by false false true d e = absurd (true≢false (sym e))
    by false false false d e = absurd (true≢false (sym e))

-- a scenario of plain lines is calm
pub plain_lines_calm : (budget : ℕ) (scenario : Scenario) → Each (AllowsDeliveries budget) scenario.lines → IsCalm scenario
plain_lines_calm budget scenario plain = record {
  lines = plain_calm budget scenario.lines plain;
  followed = λ before after one e gives. absurd (none_given budget before after one (subst (Each (AllowsDeliveries budget)) e plain) gives);
  parted = λ before between after one other e parted. (
      let all = subst (Each (AllowsDeliveries budget)) e plain in
      elim (parted_gives one other parted) [
        | inl gives ↦ absurd (none_first budget before between (other ∷ after) one all gives)
        | inr gives ↦ absurd (none_second budget before between after one other all gives)
      ]);
}

pub roomy_calm : RoomyScenariosAreCalm
roomy_calm = record {
  calm = λ room scenario calm. record { lines = lines_calm room scenario.lines calm.lines; followed = calm.followed; parted = calm.parted };
  plain = λ scenario plain. plain_lines_calm (budget_of scenario) scenario plain;
}
