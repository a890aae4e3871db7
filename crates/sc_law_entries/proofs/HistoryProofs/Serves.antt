-- An entry of a request: it takes effect at its group, or changes nothing.
use Rattle.std.proofs.Common.{◌≡◌, ℕ, true, false, List, ◌++◌, Some, inl, inr, refl, sym, ap, ◌∙◌}
use Rattle.std.specs.Option.{option_map}
use Rattle.std.proofs.lemmas.Bool.{and_from}
use Rattle.std.specs.Prelude.{is_none, ◌&&◌}
use Rattle.sc_base.specs.declared.names.Draw.{Draw}
use Rattle.sc_base.specs.declared.ops.Op.{Op}
use Rattle.sc_words.specs.declared.commands.commands.Command.TheVariants.{Call}
use Rattle.sc_words.specs.declared.commands.cores.Lock.{Lock}
use Rattle.sc_words.specs.declared.commands.cores.Lock.TheVariants.{Free, Coordinating, Promised, Watching}
use Rattle.sc_words.specs.declared.commands.effects.Effect.{Effect}
use Rattle.sc_words.specs.ideal.IdealDefinitions.{key_of, holds_key}
use Rattle.sc_group_table.specs.machine.MachineDefinitions.{Group, applied, done}
use Rattle.sc_meaning.specs.declared.entries.Transaction.{Transaction}
use Rattle.sc_meaning.specs.entries.EntryDefinitions.{is_open, StoreWorld, named_group, with_result}
use Rattle.sc_law_entries.specs.history.HistoryDefinitions.{RequestOf, ServedBy, holding_of, request_entry, with_request, MayCall, holdings_in}
use Rattle.sc_law_entries.proofs.HistoryProofs.Disjoint.{holding_here, holding_there}
use Rattle.sc_law_entries.proofs.HistoryProofs.Elsewhere.{elsewhere, held_by, held_some, here, own_group, tables_from, holds_own}
use Rattle.sc_law_entries.proofs.HistoryProofs.Finishing.{free_held, watching_held}
use Rattle.sc_law_entries.proofs.HistoryProofs.Requests.{TakesEffect, request_cases}
use Rattle.sc_law_entries.proofs.HistoryProofs.Staying.{Goes, idles}
use Rattle.sc_meaning.proofs.EntriesProofs.EntryLemmas.{draw_cases}

-- an open group holds what its own log says
open_held : (lock : Lock) (transactions : List Transaction) (group : Group) → group.core.lock ≡ lock → is_open lock ≡ true → held_by transactions group ≡ holding_of group
open_held Free transactions group e fact = free_held transactions group e
open_held (Watching tx watch) transactions group e fact = watching_held transactions group tx watch e
open_held (Coordinating tx body order heard) transactions group e fact = (let no_way : false ≡ true = fact in absurd (cc))
open_held (Promised tx offer) transactions group e fact = (let no_way : false ≡ true = fact in absurd (cc))

module _ (request : RequestOf) (world : StoreWorld) (name : Draw) (group : Group) (found : named_group name world.groups ≡ Some group) (client seq : ℕ) (op : Op) (may : MayCall request world group client seq op) where
  abbrev result : Group × Effect
  result = done group client seq op

  abbrev after : StoreWorld
  after = with_result world group (Call client seq op) result

  serving : TakesEffect group client seq op → Goes request world name group found (Call client seq op) (done group client seq op)
  serving takes =
      let cut = may.cut (and_from (holds_key group.core.arc (key_of op) && is_open group.core.lock) (is_none group.core.gone)
      (and_from (holds_key group.core.arc (key_of op)) (is_open group.core.lock) takes.its takes.open_now) (ap is_none takes.here)) in
      let own : holdings_in world group.core.id ≡ Some (holding_of group) =
      holds_own world group.core.id group cut (own_group world name group found (Call client seq op) result refl refl)
      (open_held group.core.lock world.transactions group refl takes.open_now) in
      let now : holdings_in after group.core.id ≡ Some (with_request client seq op (holding_of group)) =
      held_some after group.core.id result.0 cut (here world name group found (Call client seq op) result refl refl group.core.id refl)
      ∙ ap Some (open_held group.core.lock world.transactions result.0 refl takes.open_now) in
      let mine : option_map (with_request client seq op) (holdings_in world group.core.id) ≡ Some (with_request client seq op (holding_of group)) = ap (option_map (with_request client seq op)) own in
      record {
        move = ServedBy group.core.id client seq op;
        may = record { holding = holding_of group; fact = own; its = takes.its; above = takes.above; asked = may.asked };
        holds = λ other. elim (draw_cases other group.core.id) [
          | inl e ↦ ap (holdings_in after) e ∙ now ∙ sym mine ∙ sym (holding_here group.core.id (option_map (with_request client seq op) (holdings_in world group.core.id)) (holdings_in world) other e)
          | inr ne ↦ elsewhere world name group found (Call client seq op) result refl refl other ne refl (λ g fact. refl)
              ∙ sym (holding_there group.core.id (option_map (with_request client seq op) (holdings_in world group.core.id)) (holdings_in world) other ne)
        ];
        adds = ap (λ o. world.history ++ request_entry o client seq op) (sym own);
        tables = tables_from world name group found (Call client seq op) result refl refl (inr (inr (with_request client seq op (holding_of group), now, refl)));
      }

  pub call_goes : Goes request world name group found (Call client seq op) (applied group (Call client seq op))
  call_goes = request_cases group client seq op (Goes request world name group found (Call client seq op))
      (λ effect none. idles request world name group found (Call client seq op) effect refl refl refl none)
      serving
