-- The lemmas of this part of the crate that others cite, under one name.
pub use Rattle.sc_live_journals.proofs.ChartsProofs.LastQuietPrefixes.{upto_low, prefix_stays}
pub use Rattle.sc_live_journals.proofs.ChartsProofs.LedNames.{led_stand_once, names_grow, more_names, led_by}
pub use Rattle.sc_live_journals.proofs.ChartsProofs.GoneDistances.{ends_fall}
pub use Rattle.sc_live_journals.proofs.ChartsProofs.FollowingCharts.{charts_follow, charts_rest as quiet_charts_rest}
