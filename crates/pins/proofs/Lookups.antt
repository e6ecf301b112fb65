-- What is claimed of lookups and readings, written out.
use Prim.Native.Nat.{ℕ, ◌+◌, ◌≤◌}
use mathlib.Core.Path.{◌≡◌}
use mathlib.Core.List.{List, map}
use lib.ListN.{take, get_or}
use Rattle.pair.specs.Rank.{rank}
use Rattle.card.specs.Layout.{boundary, old_places, new_places}
use Rattle.found.specs.Found.{question_number, blocks_read, holders, lookup}
use Rattle.reader.specs.Reader.{posting, ended, yielded, read}
use Rattle.history.specs.Claims.{BlocksReadBound, ReaderYieldsLookup, ReadingIsLookup}
use Rattle.history.proofs.BlocksRead.{blocks_read_bound}
use Rattle.history.proofs.Yields.{reader_yields_lookup, reading_is_lookup}

-- the blocks read are at most two more than the blocks that hold a live posting in range
pub two_more_at_most :
    (c : List ℕ) (t a z : ℕ) → question_number c t a z ≡ 0 →
    let new = holders c 0 (rank t a) (rank t z) (new_places c) in
    let old = holders c (boundary c) (rank t a) (rank t z) (old_places c) in
    blocks_read c t a z ≤ new + old + 2
unfolding BlocksReadBound
two_more_at_most = blocks_read_bound

-- the posting reader yields the positions that the lookup gives, one after another, then the end for ever
pub reader_yields_lookup_written_out :
    (c : List ℕ) (t a z : ℕ) (answer : List ℕ) (n : ℕ) →
    let l = lookup c t a z answer in
    l.number ≡ 0 → yielded c t a z n ≡ get_or (map posting (take l.count l.answer)) n ended
unfolding ReaderYieldsLookup
reader_yields_lookup_written_out = reader_yields_lookup

-- a reading with words enough gives the number of positions and the answer words that the lookup gives
pub reading_is_lookup_written_out :
    (c : List ℕ) (t a z : ℕ) (answer : List ℕ) →
    let l = lookup c t a z answer in
    let r = read c t a z answer in
    l.number ≡ 0 → (r.count ≡ l.count) × (r.answer ≡ l.answer)
unfolding ReadingIsLookup
reading_is_lookup_written_out = reading_is_lookup
