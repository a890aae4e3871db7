-- What the derived `==` of the types of this crate decides.
use Rattle.sc_base.proofs.Lemmas.{Exact, lists, options, numbers, struct, no_field, last, ◌and◌, enum, ◌or◌, no_variant, bytes, arc, draw, op, noted, bytes as members}
use Rattle.sc_words.specs.contracts.commands.bodies.Body as body_type
use Rattle.sc_words.specs.contracts.commands.bodies.BodyPartialEq.TheImpl as body_eq
use Rattle.sc_words.specs.contracts.commands.bodies.Offer as offer_type
use Rattle.sc_words.specs.contracts.commands.bodies.OfferPartialEq.TheImpl as offer_eq
use Rattle.sc_words.specs.contracts.commands.bodies.Watch as watch_type
use Rattle.sc_words.specs.contracts.commands.bodies.WatchPartialEq.TheImpl as watch_eq
use Rattle.sc_words.specs.contracts.commands.commands.Command as command_type
use Rattle.sc_words.specs.contracts.commands.commands.CommandPartialEq.TheImpl as command_eq
use Rattle.sc_words.specs.contracts.commands.cores.Base as base_type
use Rattle.sc_words.specs.contracts.commands.cores.BasePartialEq.TheImpl as base_eq
use Rattle.sc_words.specs.contracts.commands.cores.Core as core_type
use Rattle.sc_words.specs.contracts.commands.cores.CorePartialEq.TheImpl as core_eq
use Rattle.sc_words.specs.contracts.commands.cores.Lock as lock_type
use Rattle.sc_words.specs.contracts.commands.cores.LockPartialEq.TheImpl as lock_eq
use Rattle.sc_words.specs.contracts.commands.links.Link as link_type
use Rattle.sc_words.specs.contracts.commands.links.LinkPartialEq.TheImpl as link_eq
use Rattle.sc_words.specs.contracts.commands.links.Route as route_type
use Rattle.sc_words.specs.contracts.commands.links.RoutePartialEq.TheImpl as route_eq
use Rattle.sc_words.specs.contracts.commands.orders.OrderRefusal as refusal_type
use Rattle.sc_words.specs.contracts.commands.orders.OrderRefusalPartialEq.TheImpl as refusal_eq
use Rattle.sc_words.specs.contracts.commands.orders.OrderResult as order_result_type
use Rattle.sc_words.specs.contracts.commands.orders.OrderResultPartialEq.TheImpl as order_result_eq
use Rattle.sc_words.specs.contracts.commands.votes.Frozen as frozen_type
use Rattle.sc_words.specs.contracts.commands.votes.FrozenPartialEq.TheImpl as frozen_eq
use Rattle.sc_words.specs.contracts.commands.votes.Gift as gift_type
use Rattle.sc_words.specs.contracts.commands.votes.GiftPartialEq.TheImpl as gift_eq
use Rattle.sc_words.specs.contracts.commands.votes.Heard as heard_type
use Rattle.sc_words.specs.contracts.commands.votes.HeardPartialEq.TheImpl as heard_eq
use Rattle.sc_words.specs.contracts.commands.votes.No as no_type
use Rattle.sc_words.specs.contracts.commands.votes.NoPartialEq.TheImpl as no_eq
use Rattle.sc_words.specs.contracts.commands.votes.Outcome as outcome_type
use Rattle.sc_words.specs.contracts.commands.votes.OutcomePartialEq.TheImpl as outcome_eq
use Rattle.sc_words.specs.contracts.commands.votes.Past as past_type
use Rattle.sc_words.specs.contracts.commands.votes.PastPartialEq.TheImpl as past_eq
use Rattle.sc_words.specs.contracts.commands.votes.Vote as vote_type
use Rattle.sc_words.specs.contracts.commands.votes.VotePartialEq.TheImpl as vote_eq

pub link : Exact link_eq.ghosts.eq
link = struct link_type.the_type (draw and last members)

pub route : Exact route_eq.ghosts.eq
route = struct route_type.the_type (draw and numbers and last members)

pub body : Exact body_eq.ghosts.eq
body = enum body_type.enum (no_field or last numbers or last numbers or numbers and last draw or no_variant)

pub offer : Exact offer_eq.ghosts.eq
offer = struct offer_type.the_type (draw and draw and arc and members and body and last numbers)

pub watch : Exact watch_eq.ghosts.eq
watch = struct watch_type.the_type (draw and members and draw and draw and link and last numbers)

pub frozen : Exact frozen_eq.ghosts.eq
frozen = struct frozen_type.the_type (arc and members and link and (lists (bytes and bytes)) and last (lists (numbers and noted)))

pub heard : Exact heard_eq.ghosts.eq
heard = struct heard_type.the_type (frozen and last numbers)

pub no : Exact no_eq.ghosts.eq
no = enum no_type.enum (last draw or no_field or no_field or last numbers or no_variant)

pub vote : Exact vote_eq.ghosts.eq
vote = enum vote_type.enum (last frozen or last no or no_variant)

pub past : Exact past_eq.ghosts.eq
past = enum past_type.enum (no_field or last no or no_field or no_variant)

pub gift : Exact gift_eq.ghosts.eq
gift = struct gift_type.the_type ((lists (bytes and bytes)) and last (lists (numbers and noted)))

pub outcome : Exact outcome_eq.ghosts.eq
outcome = enum outcome_type.enum (no_field or last route or numbers and last (options gift) or last numbers or no_field or no_variant)

pub lock : Exact lock_eq.ghosts.eq
lock = enum lock_type.enum (no_field or draw and body and numbers and last (options heard) or draw and last offer or draw and last watch or no_variant)

pub core : Exact core_eq.ghosts.eq
core = struct core_type.the_type (draw and numbers and arc and members and link and link and lock and numbers and (lists (draw and outcome)) and (lists (draw and past)) and (lists draw) and last (options route))

pub base : Exact base_eq.ghosts.eq
base = struct base_type.the_type (core and (lists (bytes and bytes)) and last (lists (numbers and noted)))

pub command : Exact command_eq.ghosts.eq
command = enum command_type.enum (no_field or numbers and numbers and last op or numbers and last numbers or numbers and last numbers or numbers and draw and last numbers or draw and body and last numbers or draw and last offer or draw and vote and last numbers or last draw or draw and last outcome or draw and last watch or draw and past and last numbers or no_variant)

pub refusal : Exact refusal_eq.ghosts.eq
refusal = enum refusal_type.enum (last (options numbers) or last draw or no_field or no_field or last numbers or no_field or no_field or no_field or no_field or no_variant)

pub result_reported : Exact order_result_eq.ghosts.eq
result_reported = enum order_result_type.enum (no_field or no_field or no_field or last refusal or no_variant)
