-- The command line as clap knows it.
use Rattle.std.specs.Prelude.{ℕ, ◌==◌, ◌&&◌, true, List, codes, Option, None, Some, if◌then◌else◌, option_and_then}
use Rattle.clap.specs.Words.{App, Row, Rule, Text, first_of, new_app, new_rule, with_rule, with_subcommand}
use Rattle.clap.specs.Simple.{on_top}
use Rattle.sc_texts.specs.lines.Words.{same}
use Rattle.sc_cli.specs.Subcommands.{make_of, scan_of}
use Rattle.sc_cli.specs.declared.subcommands.Subcommand.{Subcommand}
use Rattle.sc_cli.specs.declared.subcommands.Subcommand.TheVariants.{Run, Journal, Audit, Pool, Explain}

-- an argument that must be there, by its name
abbrev pub argument_rule : Text → Rule
argument_rule id = record (new_rule id) { required = true }

-- `make N S`
abbrev pub make_app : App
make_app = with_rule (with_rule (new_app (codes "make")) (argument_rule (codes "N"))) (argument_rule (codes "S"))

-- `scan LO LEN`
abbrev pub arc_app : App
arc_app = with_rule (with_rule (new_app (codes "scan")) (argument_rule (codes "LO"))) (argument_rule (codes "LEN"))

-- `scan LO LEN R MOST`
abbrev pub scan_app : App
scan_app = with_rule (with_rule arc_app (argument_rule (codes "R"))) (argument_rule (codes "MOST"))

-- `scatter` alone, whose arguments do not have the program's name before them
abbrev pub bare_app : App
bare_app = on_top (λ s. record s { no_binary_name = true }) (new_app (codes "scatter"))

-- an app with one more subcommand, which has no arguments
abbrev pub with_bare_subcommand : App → Text → App
with_bare_subcommand app name = with_subcommand app (new_app name).top

-- `scatter`, with the subcommands of one word: `run`, `journal`, `audit`, `pool` and `explain`
abbrev pub bare_subcommands_app : App
bare_subcommands_app = with_bare_subcommand (with_bare_subcommand (with_bare_subcommand (with_bare_subcommand (with_bare_subcommand bare_app (codes "run")) (codes "journal")) (codes "audit")) (codes "pool")) (codes "explain")

-- `scatter`, with all its subcommands: these, `make` and `scan`
abbrev pub scatter_app : App
scatter_app = with_subcommand (with_subcommand bare_subcommands_app make_app.top) scan_app.top

-- what the values of `make` spell
abbrev pub make_in : List Row → Option Subcommand
make_in rows = option_and_then (λ count. option_and_then (λ seed. make_of count seed) (first_of (codes "S") rows)) (first_of (codes "N") rows)

-- what four values of `scan` spell, where each is there
abbrev pub scan_by : Option Text → Option Text → Option Text → Option Text → Option Subcommand
scan_by None len rows most = None
scan_by (Some lo) None rows most = None
scan_by (Some lo) (Some len) None most = None
scan_by (Some lo) (Some len) (Some rows) None = None
scan_by (Some lo) (Some len) (Some rows) (Some most) = scan_of lo len rows most

-- what the values of `scan` spell
abbrev pub scan_in : List Row → Option Subcommand
scan_in rows = scan_by (first_of (codes "LO") rows) (first_of (codes "LEN") rows) (first_of (codes "R") rows) (first_of (codes "MOST") rows)

-- what a subcommand asks for, by the number of all arguments, its name and the values that clap found
abbrev pub subcommand_as : ℕ → Text → List Row → Option Subcommand
subcommand_as count name rows =
    if (count == 1) && same name (codes "run") then Some Run
    else if (count == 1) && same name (codes "journal") then Some Journal
    else if (count == 1) && same name (codes "audit") then Some Audit
    else if (count == 1) && same name (codes "pool") then Some Pool
    else if (count == 1) && same name (codes "explain") then Some Explain
    else if (count == 3) && same name (codes "make") then make_in rows
    else if (count == 5) && same name (codes "scan") then scan_in rows
    else None

-- what the subcommand asks for that clap met, if it met one, by the number of all arguments
abbrev pub subcommand_in : ℕ → Option (Text × List Row) → Option Subcommand
subcommand_in count None = None
subcommand_in count (Some met) = subcommand_as count met.0 met.1
