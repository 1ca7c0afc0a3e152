-- Segments whose parents are read from bytes when they are wanted.
use Rattle.std.specs.Prelude.{ℕ, ◌+◌, Bool, true, ◌&&◌, List, [], ◌∷◌, length, take, drop, map, flat_map, nat_lt, nat_le}
use Rattle.std.specs.Str.{bytes_eq}
use Rattle.std.specs.List.{list_all}
use Rattle.segment_codec.specs.Record.{Segment}
use Rattle.segment_codec.specs.Number.{number_bytes, numbers_in}
use Rattle.segment_codec.specs.Flat.{is_flat}
use Rattle.flat_segments.specs.Entries.{PlainEntry}
use Rattle.flat_segments.specs.Maximal.{up_to}

-- the bytes that the entry names
abbrev pub slice_in : List ℕ → PlainEntry → List ℕ
slice_in bytes e = take e.len (drop e.place bytes)

-- the segment whose parents the entry names; where it ends, the next entry says
abbrev pub segment_in : List ℕ → PlainEntry → Segment
segment_in bytes e = record { low = e.low; high = e.low; level = 0; parents = numbers_in (slice_in bytes e) }

-- the flat segments of entries, up to an end
abbrev pub flats_in : List ℕ → ℕ → List PlainEntry → List Segment
flats_in bytes end entries = up_to end (map (segment_in bytes) entries)

-- whether the bytes reach so far, and what the entry names is the spelling of numbers
unfoldable pub is_read : List ℕ → PlainEntry → Bool
is_read bytes e = nat_le (e.place + e.len) (length bytes) && bytes_eq (slice_in bytes e) (flat_map number_bytes (numbers_in (slice_in bytes e)))

-- where the first entry begins; the end where there is none
abbrev pub low_of : ℕ → List PlainEntry → ℕ
low_of end [] = end
low_of end (e ∷ more) = e.low

-- whether each begins below the next, and the last below the end
abbrev pub do_rise : ℕ → List PlainEntry → Bool
do_rise end [] = true
do_rise end (e ∷ more) = nat_lt e.low (low_of end more) && do_rise end more

-- whether the entries are those of flat segments whose records stand in the bytes
abbrev pub is_run : List ℕ → ℕ → List PlainEntry → Bool
is_run bytes end entries = list_all (is_read bytes) entries && do_rise end entries && list_all is_flat (flats_in bytes end entries)
