-- What contracts see of a disk of two moments.
use Rattle.std.specs.Prelude.{ℕ, ◌+◌, ◌-◌, ◌^◌, min, List}
use Rattle.disk_trait.specs.Meanwhile.{Meanwhile}
use Rattle.film_rows.specs.Films.{turning, GoOn}
use Rattle.film_rows.specs.declared.disk.FilmDisk.{FilmDisk}

-- what the disk has at each moment, and the moment now
abbrev pub film_of : FilmDisk → Meanwhile
film_of disk = record { film = turning disk.change disk.first.items disk.later.items; now = disk.moment }

-- the moment behind the one now, or the last
abbrev pub next_of : FilmDisk → ℕ
next_of disk = min (disk.moment + 1) (2 ^ 64 - 1)

-- what the disk has at first and later is the log of these payloads, and of these and some behind them
abbrev pub GoesOn : FilmDisk → List (List ℕ) → List (List ℕ) → Type 0
GoesOn disk payloads behind = GoOn disk.first.items disk.later.items payloads behind
