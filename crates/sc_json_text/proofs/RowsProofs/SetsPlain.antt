-- Arcs, sets of nodes, pairs of keys and values, and client tables are plain JSON.
use Rattle.std.proofs.Common.{◌≡◌, ℕ, suc, ◌^◌, ◌<◌, List, arith}
use Rattle.serde_json.specs.Data.{string}
use Rattle.sc_base.specs.Definitions.{Arc}
use Rattle.sc_base.specs.declared.ops.Noted.{Noted}
use Rattle.sc_json_text.specs.plain.Plain.{IsPlain}
use Rattle.sc_json_text.specs.rows.Definitions.{number_json, pair_json, FitsU16, FitsKey, FitsValue, FitsArc, FitsMembers, PairFits, arc_json, nodes_json, pairs_json, FitsPairs, client_json, clients_json, FitsNoted, FitsClients}
use Rattle.sc_json_text.proofs.RowsProofs.ShapesPlain.{u16_plain, u32_plain, key_plain, value_plain, list_plain}
use Rattle.sc_json_text.proofs.RowsProofs.OpsPlain.{reply_plain}

-- a length of at most 2^32 fits 64 bits
pub arc_plain : (n : ℕ) (arc : Arc) → FitsArc arc → IsPlain (suc n) (arc_json arc)
unfolding arc_json
arc_plain n arc fits = (u32_plain arc.lo fits.lo, (omega (arith, fits.is_arc.most), tt))

pub nodes_plain : (n : ℕ) (nodes : List ℕ) → FitsMembers nodes → IsPlain (suc n) (nodes_json nodes)
unfolding nodes_json
nodes_plain n nodes fits = list_plain n number_json FitsU16 u16_plain nodes fits.numbers

pub pairs_plain : (n : ℕ) (pairs : List (List ℕ × List ℕ)) → FitsPairs pairs → IsPlain (suc (suc n)) (pairs_json pairs)
unfolding pairs_json FitsPairs
pairs_plain n pairs fits = list_plain (suc n) (pair_json string string) (PairFits FitsKey FitsValue) (λ p f. (key_plain p.0 f.0, (value_plain p.1 f.1, tt))) pairs fits.0

-- an entry
client_plain : (n : ℕ) (entry : ℕ × Noted) → PairFits FitsU16 FitsNoted entry → IsPlain (suc (suc n)) (client_json entry)
unfolding client_json FitsNoted
client_plain n entry fits = (u16_plain entry.0 fits.0, (u32_plain entry.1.seq fits.1.0, (reply_plain n entry.1.reply fits.1.1, tt)))

pub clients_plain : (n : ℕ) (clients : List (ℕ × Noted)) → FitsClients clients → IsPlain (suc (suc (suc n))) (clients_json clients)
unfolding clients_json FitsClients
clients_plain n clients fits = list_plain (suc (suc n)) client_json (PairFits FitsU16 FitsNoted) (client_plain n) clients fits.0
