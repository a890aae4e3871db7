-- The definitions of this part of the crate that others cite, under one name.
pub use Rattle.sc_law_carried.specs.reading.ReadLines.{is_node, is_client_actor, is_bounded_order, may_be_line, place_in, place_of_mail, getter, line_at, actors_of, lines_from, with_lines_of}
pub use Rattle.sc_law_carried.specs.reading.ReadRequests.{is_of_version, with_request, with_row, requests_read, has_row, clients_from, clients_read, with_clients_of}
pub use Rattle.sc_law_carried.specs.reading.ReadScenarios.{IsLawfulRead, IsFirstUnlawful}
pub use Rattle.sc_law_carried.specs.reading.ReadingLaws.{NoRowsAreLawful, StepsAreLawful, LastIsStep, LawfulRowsAreSteps, ReadScenariosAreWellFormed}
