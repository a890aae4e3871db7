-- The JSON of each type, by the definitions of `sc_json_text`, under one name.
pub use Rattle.sc_json_text.specs.rows.Names.{draw_json, FitsDraw, ballot_json, FitsBallot}
pub use Rattle.sc_json_text.specs.rows.Sets.{pairs_json, FitsPairs, client_json, FitsNoted, clients_json, FitsClients}
