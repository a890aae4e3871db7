-- Whether a port has posted a Crash, after more rows.
use Rattle.std.proofs.Common.{◌≡◌, ℕ, Bool, true, false, ◌||◌, MatchBool, List, [], ◌∷◌, refl, sym, ap, ◌∙◌}
use Rattle.std.specs.List.{list_any}
use Rattle.std.proofs.Math.Bool.{or-false}
use Rattle.std.proofs.lemmas.List.Folds.{list_any-append}
use Rattle.sc_thread_ports.specs.declared.turn.rule.View.{View}
use Rattle.sc_actor.specs.declared.rows.Row.{Row}
use Rattle.sc_actor.specs.Definitions.{is_crash}
use Rattle.sc_thread_ports.specs.declared.exchange.shared.BareRow.{BareRow}
use Rattle.sc_thread_ports.specs.declared.exchange.fates.Fate.{Fate}
use Rattle.sc_thread_ports.specs.declared.exchange.fates.Fate.TheVariants.{Lost, Repeated}
use Rattle.sc_thread_ports.specs.exchange.ExchangeDefinitions.{Turned, RowTurned, Changed, change}

change_runs : (M O : Type 0) (fate : Fate) (number : ℕ) → is_crash (change {M = M} {O = O} fate number).event ≡ false
change_runs M O Lost number = refl
change_runs M O Repeated number = refl

module _ {M O : Type 0} where
  -- whether one of these bare rows is a Crash
  abbrev pub halts : List (BareRow M O) → Bool
  halts made = list_any (λ d. is_crash d.event) made

  -- the port made nothing
  pub halted_same : (w v : View (BareRow M O)) (crashed : Bool) → v.made ≡ w.made → crashed ≡ halts w.made → crashed ≡ halts v.made
  halted_same w v crashed same is = is ∙ ap halts (sym same)

  -- it had a turn without a row
  pub halted_turned : (w v : View (BareRow M O)) (crashed : Bool) → Turned w v → crashed ≡ halts w.made → crashed ≡ halts v.made
  halted_turned w v crashed t is = halted_same w v crashed (ap (λ (x : View (BareRow M O)). x.made) t.view_is) is

  halted_row : (w v : View (BareRow M O)) (crashed : Bool) (row : Row M O) → RowTurned w v row → crashed ≡ halts w.made → halts v.made ≡ (crashed || is_crash row.event)
  halted_row w v crashed row t is =
      ap (λ (x : View (BareRow M O)). halts x.made) t.view_is
      ∙ (list_any-append (λ (d : BareRow M O). is_crash d.event) w.made (record { event = row.event; sent = row.sent } ∷ [])
      ∙ (λ i. sym is i || or-false (is_crash row.event) i))

  -- it had a turn for a change, which is no Crash
  pub halted_changed : (F G : Type 0) (receiver : M → ℕ) (actors : ℕ) (fate : Fate) (number : ℕ) (w v : View (BareRow M O)) (crashed done : Bool) → MatchBool done (Changed receiver actors fate number w v × F) (Turned w v × G) → crashed ≡ halts w.made → crashed ≡ halts v.made
  halted_changed F G receiver actors fate number w v crashed true m is =
      sym (halted_row w v crashed (change fate number) m.0.turned is ∙ (ap (λ b. crashed || b) (change_runs M O fate number) ∙ or-false crashed))
  halted_changed F G receiver actors fate number w v crashed false m is = halted_turned w v crashed m.0 is
