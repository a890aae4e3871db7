-- The definitions of this crate that others cite, under one name.
pub use Rattle.sc_node_parts.specs.replica.Requests.{is_request}
pub use Rattle.sc_node_parts.specs.replica.Heads.{head_of, head_waits}
