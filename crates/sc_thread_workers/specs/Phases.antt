-- Shells to which workers have given their turns.
use Rattle.std.specs.Prelude.{◌≡◌, ℕ, ◌+◌, ◌/◌, ◌<◌, ◌⊎◌, Bool, List, length, map, count_by, min, max, sum_by, slice_index_or}
use Rattle.sc_actor.specs.declared.actors.Actor.{Ghosts}
use Rattle.sc_actor.specs.declared.actors.Parcel.{Ghosts as MailGhosts}
use Rattle.sc_thread_ports.specs.exchange.Ports.{made}
use Rattle.sc_thread_work.specs.declared.shell.shells.Shell.{Shell}
use Rattle.sc_thread_workers.specs.declared.phases.Served.{Served}
use Rattle.sc_thread_workers.specs.Crews.{Took, MadeRows}

-- The number of workers of a phase, where these flags say for which shells mail waits: one for every two of them, but two where there are two, at most `workers` and at least one.
abbrev pub workers_for : List Bool → ℕ → ℕ
workers_for waits workers = let many = count_by (λ wait. wait) waits in max (min (max ((many + 1) / 2) (min many 2)) workers) 1

module _ {A M O : Type 0} {g : Ghosts A M O} {h : MailGhosts M} where
  -- The shell was given turns, one after the other, until `grant` of them had made a row or one made none. The result has the shell and the number of rows.
  pub record IsServed (grant : ℕ) (s : Shell A M O g h) (t : Served A M O g h) : Type 0 where
    pub last : Shell A M O g h
    pub rows : MadeRows t.did s last
    pub end : ((t.did ≡ grant) × (t.shell ≡ last)) ⊎ ((t.did < grant) × (Took last t.shell × (made t.shell.port ≡ made last.port)))

  -- Each shell was given its turns (`IsServed`).
  abbrev pub AllServed : ℕ → List (Shell A M O g h) → List (Served A M O g h) → Type 0
  AllServed grant ss ts = (k : ℕ) (d : Shell A M O g h) (e : Served A M O g h) → k < length ss → IsServed grant (slice_index_or ss k d) (slice_index_or ts k e)

  -- The shells of these results.
  abbrev pub shells_of : List (Served A M O g h) → List (Shell A M O g h)
  shells_of ts = map (λ t. t.shell) ts

  -- The number of rows of all these results.
  abbrev pub rows_of_all : List (Served A M O g h) → ℕ
  rows_of_all ts = sum_by (λ t. t.did) ts
