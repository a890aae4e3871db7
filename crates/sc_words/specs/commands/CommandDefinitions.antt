-- The definitions of this crate that others cite, under one name.
pub use Rattle.sc_words.specs.commands.Cores.{is_alone}
pub use Rattle.sc_words.specs.commands.Effects.{decided_in, is_changed, cast_in, is_divided, result_of, refused_result}
pub use Rattle.sc_words.specs.commands.Order.{code_of, refusal_name}
pub use Rattle.sc_words.specs.commands.Weight.{op_weight, value_weight, command_weight, capped, clients_weight, decision_weight, pairs_weight, reply_weight, base_weight, vote_weight, outcome_weight}
