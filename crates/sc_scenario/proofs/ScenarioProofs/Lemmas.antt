-- The lemmas of this crate that others cite, under one name.
pub use Rattle.sc_scenario.proofs.ScenarioProofs.Made.{ops_next, clients_next, no_ops, no_clients, no_goes, goes_next, ops_counted}
pub use Rattle.sc_scenario.proofs.ScenarioProofs.Texts.{texts_bounded as valid_scenarios_are_bounded, going_ok, turned}
pub use Rattle.sc_scenario.proofs.ScenarioProofs.Verdicts.{verdict_all}
