-- What a scan of a block tells.
use Rattle.std.specs.Prelude.{ℕ, ◌-◌, Bool, cond, ◌&&◌, ◌||◌, not, List, ltb, leb, eqb, length, get_or, Option, Some, None}
use Rattle.pair.specs.Rising.{last}
use Rattle.block.specs.declared.Ends.{Ends}
use Rattle.block.specs.Block.{pairs, formed}

-- another entry is to be read: three words remain, and the next is not 0
unfoldable pub reads_on : List ℕ → Bool
reads_on ws = not (leb (length ws) 2 || eqb (get_or ws 0 0) 0)

-- an entry that goes on from the term t: three words remain, its term is greater, it has a position, and its positions are there
unfoldable pub entry_stands : ℕ → List ℕ → Bool
entry_stands t ws = ltb 2 (length ws) && ltb t (get_or ws 0 0) && (ltb 0 (get_or ws 1 0) && leb (get_or ws 1 0) (length ws - 2))

-- of a live block the first and the last pair
unfoldable pub scanned : List ℕ → Option Ends
scanned ws = cond (formed ws) (Some (record { first = get_or (pairs ws) 0 0; last = last 0 (pairs ws) })) None
