-- What is claimed of a page, each as a type that a theorem inhabits.
use Rattle.std.specs.Prelude.{ℕ, ◌*◌, ◌≤◌, ◌<◌, ◌≡◌, List, length, take, drop, get_or}
use Rattle.pair.specs.Rank.{word_limit, Words}
use Rattle.found.specs.Found.{found}
use Rattle.figures.specs.Figures.{figure, decimal}
use Rattle.page.specs.Figures.{blank, column_width}
use Rattle.page.specs.Page.{line_bytes, line, page, printed}
use Rattle.page.specs.ReadBack.{positions_in, term_in, line_feeds_in}

-- every number of the card fits its column: a word has at most ten figures
unfoldable pub NumbersFit : Type 0
NumbersFit = (n : ℕ) → n < word_limit → length (decimal n) ≤ column_width

-- and no number but 0 begins with the figure 0
unfoldable pub NoLeadingZero : Type 0
NoLeadingZero = (n : ℕ) → 0 < n → get_or (decimal n) 0 blank ≡ figure 0 → ⊥

-- so every line is 65 bytes and a line feed
unfoldable pub LinesAlike : Type 0
LinesAlike = (t : ℕ) (ps : List ℕ) (i : ℕ) → t < word_limit → Words ps → length (line t ps i) ≡ line_bytes

-- the bytes of the lines, read back: the positions that the lookup finds, the term where there is one, and as many line feeds as the reply says;
-- behind them the bytes are as they were
unfoldable pub PageReadBack : Type 0
PageReadBack =
    (c : List ℕ) (t a z : ℕ) (memory : List ℕ) → t < word_limit → (printed c t a z memory).number ≡ 0 →
    let p = printed c t a z memory in
    let end = line_bytes * p.lines in
    (positions_in (take end p.memory) ≡ found c t a z)
    × (0 < length (found c t a z) → term_in (take end p.memory) ≡ t)
    × (line_feeds_in (take end p.memory) ≡ p.lines)
    × (drop end p.memory ≡ drop end memory)

-- two different answers that are not empty never give the same page
unfoldable pub PagesDiffer : Type 0
PagesDiffer =
    (t u : ℕ) (ps qs : List ℕ) → t < word_limit → u < word_limit → Words ps → Words qs → 0 < length ps →
    page t ps ≡ page u qs → (t ≡ u) × (ps ≡ qs)
