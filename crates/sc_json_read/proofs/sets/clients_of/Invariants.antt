use Rattle.std.proofs.Common.{◌≡◌, ℕ, List, map, take}
use Rattle.serde_json.specs.View.{view, items_view}
use Rattle.sc_base.specs.Among.{Each}
use Rattle.sc_base.specs.declared.ops.Noted.{Noted}
use Rattle.sc_json_text.specs.rows.Held.{FitsU16, PairFits}
use Rattle.sc_json_text.specs.rows.Sets.{client_json, FitsNoted}
use Rattle.sc_json_text.specs.rows.Shapes.{items_json}
use Rattle.sc_json_read.proofs.sets.clients_of.Given as goal

abbrev pub invariant-loop-json : goal.invariant-loop-json
invariant-loop-json l = ((entries : List (ℕ × Noted)) → Each (PairFits FitsU16 FitsNoted) entries → items_view l.list ≡ items_json client_json entries → l.entries.items ≡ take l.json-index entries) × (map view (take l.json-index l.list) ≡ map client_json l.entries.items)
