-- What is claimed of a scorekeepers' file, each as a type that a theorem inhabits.
use Rattle.std.specs.Prelude.{ℕ, zero, suc, ◌*◌, ◌≤◌, ◌<◌, ◌≡◌, ◌≢◌, ◌⊎◌, true, false, List, [], ◌∷◌, ◌++◌, length, take, get_or, eqb}
use Rattle.pair.specs.Rank.{word_limit}
use Rattle.pair.specs.Rising.{rising_from, any}
use Rattle.figures.specs.Figures.{decimal}
use Rattle.batch.specs.Batch.{Update, updates, any_update, adds, applied, falls, arrivals, ill_numbered, record_words, records_most}
use Rattle.batch.specs.Claims.{touches}
use Rattle.sort.specs.Sort.{laid}
use Rattle.sort.specs.Claims.{Rearranged}
use Rattle.lines.specs.Lines.{tab, letter_a, letter_r, lines, line_record, fault, line_records, batch_of, scored}

-- the line of an addition, and of a removal
unfoldable pub addition_line : ℕ → ℕ → List ℕ
addition_line t p = letter_a ∷ tab ∷ decimal t ++ tab ∷ decimal p

unfoldable pub removal_line : ℕ → ℕ → ℕ → List ℕ
removal_line t a z = letter_r ∷ tab ∷ decimal t ++ tab ∷ decimal a ++ tab ∷ decimal z

-- they are read as their records
unfoldable pub LinesRead : Type 0
LinesRead =
    ((t p : ℕ) → t < word_limit → p < word_limit → line_record (addition_line t p) ≡ 1 ∷ t ∷ p ∷ p ∷ [])
    × ((t a z : ℕ) → t < word_limit → a < word_limit → z < word_limit → line_record (removal_line t a z) ≡ 2 ∷ t ∷ a ∷ z ∷ [])

-- and no other line is a record
unfoldable pub LinesOnly : Type 0
LinesOnly =
    (l : List ℕ) → length (line_record l) ≢ 0 →
    let r = line_record l in
    (l ≡ addition_line (get_or r 1 0) (get_or r 2 0)) ⊎ (l ≡ removal_line (get_or r 1 0) (get_or r 2 0) (get_or r 3 0))

-- so none has more than 34 bytes
abbrev pub line_bytes : ℕ
line_bytes = 34

unfoldable pub LinesShort : Type 0
LinesShort = (l : List ℕ) → length (line_record l) ≢ 0 → length l ≤ line_bytes

-- 4,097 lines with their line feeds
abbrev pub settling_bytes : ℕ
settling_bytes = 143395

-- so what is behind them changes nothing
unfoldable pub FileSettled : Type 0
FileSettled = (bytes batch : List ℕ) → scored bytes batch ≡ scored (take settling_bytes bytes) batch

-- with room for the largest batch only lines earn a number
unfoldable pub RoomEnough : Type 0
RoomEnough = (bytes batch : List ℕ) → record_words * records_most ≤ length batch → (scored bytes batch).number ≡ (fault bytes).number

-- the batch has the updates of the lines, in some order, and is never out of order
unfoldable pub BatchSorted : Type 0
BatchSorted =
    (bytes : List ℕ) → (fault bytes).number ≡ 0 →
    Rearranged (updates (batch_of bytes)) (updates (laid (line_records bytes))) × (falls 0 (updates (batch_of bytes)) ≡ false)

-- n numbers, the first of them k
unfoldable pub counted : ℕ → ℕ → List ℕ
counted k zero = []
counted k (suc n) = k ∷ counted (suc k) n

-- in the order of the lines the arrival numbers are 1, 2, 3 and so on
unfoldable pub LinesCounted : Type 0
LinesCounted = (bytes : List ℕ) → (fault bytes).number ≡ 0 → arrivals (updates (laid (line_records bytes))) ≡ counted 1 (length (lines bytes))

-- so no file earns number 14
unfoldable pub LinesNumbered : Type 0
LinesNumbered = (bytes : List ℕ) → (fault bytes).number ≡ 0 → ill_numbered (updates (batch_of bytes)) ≡ false

-- the order of a batch's updates changes nothing of what they mean
unfoldable pub OrderMeansNothing : Type 0
OrderMeansNothing =
    (us vs : List Update) → Rearranged us vs → (s : List ℕ) (k : ℕ) → rising_from k s ≡ true → applied us s ≡ applied vs s

-- of the lines that touch a pair the last decides
unfoldable pub LastLineDecides : Type 0
LastLineDecides =
    (bytes : List ℕ) (us vs : List Update) (u : Update) (x : ℕ) (s : List ℕ) (k : ℕ) → (fault bytes).number ≡ 0 → rising_from k s ≡ true →
    updates (laid (line_records bytes)) ≡ us ++ u ∷ vs → touches x u ≡ true → any_update (touches x) vs ≡ false →
    any (eqb x) (applied (updates (batch_of bytes)) s) ≡ adds x u
