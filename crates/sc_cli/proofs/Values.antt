-- The values of `make` and of `scan`.
use Rattle.std.proofs.Common.{◌≡◌, List, Option, Some, None, ap, ap₂, ◌∙◌, codes}
use Rattle.std.specs.Prelude.{option_and_then}
use Rattle.clap.specs.Walk.{Row, Text, first_of}
use Rattle.sc_cli.specs.Subcommands.{make_of, scan_of}
use Rattle.sc_cli.specs.Commands.{make_in, scan_by, scan_in}
use Rattle.sc_cli.specs.declared.subcommands.Subcommand.{Subcommand}

-- what comes of a first value, if there is one
abbrev of_count : List Row → Option Text → Option Subcommand
of_count rows value = option_and_then (λ count. option_and_then (λ seed. make_of count seed) (first_of (codes "S") rows)) value

pub no_count : (rows : List Row) → None ≡ first_of (codes "N") rows → None ≡ make_in rows
no_count rows e = ap (of_count rows) e

pub both : (rows : List Row) (count seed : Text) → Some count ≡ first_of (codes "N") rows → Some seed ≡ first_of (codes "S") rows → make_of count seed ≡ make_in rows
both rows count seed n s = ap (λ value. option_and_then (λ seed. make_of count seed) value) s ∙ ap (of_count rows) n

pub no_seed : (rows : List Row) (count : Text) → Some count ≡ first_of (codes "N") rows → None ≡ first_of (codes "S") rows → None ≡ make_in rows
no_seed rows count n s = ap (λ value. option_and_then (λ seed. make_of count seed) value) s ∙ ap (of_count rows) n

pub no_lo : (rows : List Row) → None ≡ first_of (codes "LO") rows → None ≡ scan_in rows
no_lo rows e = ap (λ o. scan_by o (first_of (codes "LEN") rows) (first_of (codes "R") rows) (first_of (codes "MOST") rows)) e

pub no_len : (rows : List Row) (lo : Text) → Some lo ≡ first_of (codes "LO") rows → None ≡ first_of (codes "LEN") rows → None ≡ scan_in rows
no_len rows lo l e = ap₂ (λ o p. scan_by o p (first_of (codes "R") rows) (first_of (codes "MOST") rows)) l e

pub no_rows : (rows : List Row) (lo len : Text) → Some lo ≡ first_of (codes "LO") rows → Some len ≡ first_of (codes "LEN") rows → None ≡ first_of (codes "R") rows → None ≡ scan_in rows
no_rows rows lo len l n e =
    ap (λ p. scan_by (Some lo) (Some len) p (first_of (codes "MOST") rows)) e
    ∙ ap₂ (λ o p. scan_by o p (first_of (codes "R") rows) (first_of (codes "MOST") rows)) l n

pub no_most : (rows : List Row) (lo len count : Text) → Some lo ≡ first_of (codes "LO") rows → Some len ≡ first_of (codes "LEN") rows → Some count ≡ first_of (codes "R") rows → None ≡ first_of (codes "MOST") rows → None ≡ scan_in rows
no_most rows lo len count l n r e =
    ap₂ (λ p q. scan_by (Some lo) (Some len) p q) r e
    ∙ ap₂ (λ o p. scan_by o p (first_of (codes "R") rows) (first_of (codes "MOST") rows)) l n

pub all_four : (rows : List Row) (lo len count most : Text) → Some lo ≡ first_of (codes "LO") rows → Some len ≡ first_of (codes "LEN") rows → Some count ≡ first_of (codes "R") rows → Some most ≡ first_of (codes "MOST") rows → scan_of lo len count most ≡ scan_in rows
all_four rows lo len count most l n r m =
    ap₂ (λ p q. scan_by (Some lo) (Some len) p q) r m
    ∙ ap₂ (λ o p. scan_by o p (first_of (codes "R") rows) (first_of (codes "MOST") rows)) l n
