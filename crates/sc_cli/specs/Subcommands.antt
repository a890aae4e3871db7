-- What the arguments behind a program's name ask for: `run`, `journal`, `audit`, `pool`, `explain`, `make N S`, or `scan LO LEN R MOST`.
use Rattle.std.specs.Prelude.{ℕ, ⊤, ◌≤◌, ◌==◌, ◌&&◌, ◌||◌, not, get_or, Bool, true, false, List, length, codes, Option, Some, None, if◌then◌else◌, option_and_then}
use Rattle.std.specs.List.{list_any}
use Rattle.std.specs.Option.{option_map}
use Rattle.sc_base.specs.Limits.{most_requests}
use Rattle.sc_base.specs.Number.{number_of}
use Rattle.sc_texts.specs.lines.Words.{same, nth, count_in}
use Rattle.sc_cli.specs.declared.subcommands.Subcommand.{Subcommand}
use Rattle.sc_cli.specs.declared.subcommands.Subcommand.TheVariants.{Run, Journal, Audit, Pool, Explain, Scan, Make}

-- the arguments are `run` alone
abbrev pub is_run : List (List ℕ) → Bool
is_run words = (length words == 1) && same (nth words 0) (codes "run")

-- the arguments are `journal` alone
abbrev pub is_journal : List (List ℕ) → Bool
is_journal words = (length words == 1) && same (nth words 0) (codes "journal")

-- the arguments are `audit` alone
abbrev pub is_audit : List (List ℕ) → Bool
is_audit words = (length words == 1) && same (nth words 0) (codes "audit")

-- the arguments are `pool` alone
abbrev pub is_pool : List (List ℕ) → Bool
is_pool words = (length words == 1) && same (nth words 0) (codes "pool")

-- the arguments are `explain` alone
abbrev pub is_explain : List (List ℕ) → Bool
is_explain words = (length words == 1) && same (nth words 0) (codes "explain")

-- the arguments are `make` and two more
abbrev pub is_make : List (List ℕ) → Bool
is_make words = (length words == 3) && same (nth words 0) (codes "make")

-- the greatest seed
abbrev pub last_seed : ℕ
last_seed = 18446744073709551615

-- what two arguments behind `make` spell: 1 to 1,000 requests a client, and a seed
abbrev pub make_of : List ℕ → List ℕ → Option Subcommand
make_of count seed = option_and_then (λ n. option_map (λ s. Make n s) (number_of seed last_seed)) (count_in most_requests count)

-- the arguments are `scan` and four more
abbrev pub is_scan : List (List ℕ) → Bool
is_scan words = (length words == 5) && same (nth words 0) (codes "scan")

-- the greatest start of an arc, and the greatest number of rows
abbrev pub last_number : ℕ
last_number = 4294967295

-- the greatest length of an arc
abbrev pub whole_circle : ℕ
whole_circle = 4294967296

-- the most pairs of a page
abbrev pub most_pairs : ℕ
most_pairs = 1000000

-- what a scan shows, where each of its four numbers is one
abbrev pub sight_by : Option ℕ → Option ℕ → Option ℕ → Option ℕ → Option Subcommand
sight_by None len rows most = None
sight_by (Some lo) None rows most = None
sight_by (Some lo) (Some len) None most = None
sight_by (Some lo) (Some len) (Some rows) None = None
sight_by (Some lo) (Some len) (Some rows) (Some most) = Some (Scan (record { arc = record { lo = lo; len = len }; rows = rows; most = most }))

-- what four arguments behind `scan` spell: a start from 0, a length from 1, rows from 0, and pairs a page from 1
abbrev pub scan_of : List ℕ → List ℕ → List ℕ → List ℕ → Option Subcommand
scan_of lo len rows most = sight_by (number_of lo last_number) (count_in whole_circle len) (number_of rows last_number) (count_in most_pairs most)

-- what the arguments ask for
abbrev pub subcommand_by : List (List ℕ) → Option Subcommand
subcommand_by words =
    if is_run words then Some Run
    else if is_journal words then Some Journal
    else if is_audit words then Some Audit
    else if is_pool words then Some Pool
    else if is_explain words then Some Explain
    else if is_make words then make_of (nth words 1) (nth words 2)
    else if is_scan words then scan_of (nth words 1) (nth words 2) (nth words 3) (nth words 4)
    else None

-- whether what is asked for is on the input: all but a made scenario is
abbrev pub is_on_input : Subcommand → Bool
is_on_input Run = true
is_on_input Journal = true
is_on_input Audit = true
is_on_input Pool = true
is_on_input Explain = true
is_on_input (Scan sight) = true
is_on_input (Make n seed) = false

-- whether something is asked for that is on the input
abbrev pub reads : Option Subcommand → Bool
reads None = false
reads (Some asked) = is_on_input asked

-- whether the arguments ask for something that is on the input
abbrev pub reads_input : List (List ℕ) → Bool
reads_input words = reads (subcommand_by words)

-- a made scenario has 1 to 1,000 requests a client, and a page 1 to 1,000,000 pairs
abbrev pub IsInRange : Subcommand → Type 0
IsInRange Run = ⊤
IsInRange Journal = ⊤
IsInRange Audit = ⊤
IsInRange Pool = ⊤
IsInRange Explain = ⊤
IsInRange (Scan sight) = (1 ≤ sight.most) × (sight.most ≤ most_pairs)
IsInRange (Make n seed) = (1 ≤ n) × (n ≤ most_requests)

-- whether a word begins with a dash
abbrev pub has_dash : List ℕ → Bool
has_dash word = get_or word 0 0 == 45

-- whether a word is a subcommand: `run`, `journal`, `audit`, `pool`, `explain`, `make` or `scan`
abbrev pub is_known : List ℕ → Bool
is_known word = same word (codes "run") || (same word (codes "journal") || (same word (codes "audit") || (same word (codes "pool") || (same word (codes "explain") || (same word (codes "make") || same word (codes "scan"))))))

-- whether the first argument is a subcommand, and no argument begins with a dash
abbrev pub is_plain : List (List ℕ) → Bool
is_plain words = is_known (nth words 0) && not (list_any has_dash words)
