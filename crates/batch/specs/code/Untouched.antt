-- How far behind a pair no record touches the pairs of its term, as the code finds it: a position, 0 where nothing is found.
use Rattle.std.specs.Prelude.{ℕ, min, ◌-◌, ◌/◌, cond, not, List, length, get_or, ltb, leb, eqb}
use Rattle.pair.specs.Rank.{rank, term, position}
use Rattle.batch.specs.declared.Cursor.{Cursor}
use Rattle.batch.specs.Batch.{Update, updates}
use Rattle.batch.specs.code.Rounds.{starts, begun, reached}
use Rattle.batch.specs.code.Search.{record_at, update_of}

abbrev pub highest_position : ℕ
highest_position = 4294967295

-- up to where an update starts, if it is of the pair's term
abbrev pub leaves_to : ℕ → Update → ℕ
leaves_to x u = cond (leb (rank u.term u.from) x) 0 (cond (eqb u.term (term x)) (u.from - 1) highest_position)

-- up to where the record n leaves the pair's term
unfoldable pub before_record : List ℕ → ℕ → ℕ → ℕ
before_record b n x = cond (leb (length b / 5) n) highest_position (leaves_to x (update_of (record_at b n)))

-- up to where the next of n rounds starts, and to z at most, unless one reaches to the position p
unfoldable pub before_round : List ℕ → List ℕ → ℕ → ℕ → ℕ → ℕ → ℕ
before_round xs ts n j p z =
    let g = begun xs n j p in
    cond (reached ts g p) 0 (cond (leb n g) z (cond (ltb z (get_or xs g 0)) z (get_or xs g 0 - 1)))

-- the pair at a cursor, and where the rounds reach to
unfoldable pub untouched : List ℕ → List ℕ → Cursor → ℕ → ℕ
untouched b ts k x =
    cond (leb x k.passed.reach) 0
    (cond (eqb (length ts) 0) (before_record b k.passed.next x)
    (before_round (starts (updates b)) ts (min (length ts) (length b / 5)) k.begun (position x) (before_record b k.passed.next x)))

-- the number of a pair before which no record touches the pairs behind the pair, of any term; 0 where nothing is found
unfoldable pub quiet_before : List ℕ → List ℕ → Cursor → ℕ → ℕ
quiet_before b ts k x =
    let u = record_at b k.passed.next in
    cond (not (eqb (length ts) 0)) 0
    (cond (leb x k.passed.reach) 0 (cond (leb (length b / 5) k.passed.next) 18446744073709551615 (rank u.term u.from)))
