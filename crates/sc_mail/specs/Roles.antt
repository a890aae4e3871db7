-- The transition table of a node or a client.
use Rattle.sc_words.specs.declared.commands.orders.OrderLine.{OrderLine}
use Rattle.sc_mail.specs.declared.bodies.Mail.{Mail}
use Rattle.sc_actor.specs.Definitions.{Table}
use Rattle.sc_mail.specs.declared.roles.Role.{Role}
use Rattle.sc_mail.specs.declared.roles.Role.TheVariants.{Node, Client}

-- a node acts by the table of nodes, and a client by the table of clients
abbrev pub role_table : {N C : Type 0} → Table N Mail OrderLine → Table C Mail OrderLine → Table (Role N C) Mail OrderLine
role_table nodes clients (Node node) input = (Node (nodes node input).0, (nodes node input).1)
role_table nodes clients (Client client) input = (Client (clients client input).0, (clients client input).1)
