-- The definitions of this crate that others cite, under one name.
pub use Rattle.sc_mail.specs.Roles.{role_table}
pub use Rattle.sc_mail.specs.Weight.{body_weight, report_weight}
