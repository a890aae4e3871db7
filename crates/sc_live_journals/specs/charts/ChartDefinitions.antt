-- The definitions of this part of the crate that others cite, in one module.
pub use Rattle.sc_live_journals.specs.charts.Charts.{names_at, all_replicas, far_at, chart_at, replicas_of, led_names, asked_in, went_in, asked_by, latest_in, way_by, ends_by, reach_in, with_names, replica_at, names_upto}
pub use Rattle.sc_live_journals.specs.charts.GoneDistances.{GoInTurn, EndsFall}
pub use Rattle.sc_live_journals.specs.charts.ChartSequence.{AreAllLed, QuietChartsRest, LedStandOnce, WaitsForNone, AsksSame, ChartsFollow}
pub use Rattle.sc_live_journals.specs.charts.LastQuietPrefixes.{quiet_prefix, quiet_upto}
