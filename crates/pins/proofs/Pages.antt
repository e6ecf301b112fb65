-- What is claimed of a page, written out, and pages that the checker computes.
use Prim.Native.Nat.{ℕ, ◌*◌, ◌≤◌, ◌<◌}
use mathlib.Core.Path.{◌≡◌, refl}
use mathlib.Core.List.{List, [], ◌∷◌, ◌++◌}
use lib.ListN.{length, take, drop, get_or, replicate}
use Rattle.pair.specs.Rank.{Words}
use Rattle.found.specs.Found.{found}
use Rattle.figures.specs.Figures.{last_figures, decimal}
use Rattle.page.specs.Figures.{column}
use Rattle.page.specs.Page.{joined, field, line, line_count, page, printed}
use Rattle.page.specs.ReadBack.{number_from, number_in, positions_in, term_in, line_feeds_in}
use Rattle.page.specs.Claims.{NumbersFit, NoLeadingZero, LinesAlike, PageReadBack, PagesDiffer}
use Rattle.page.proofs.Claims.{numbers_fit, no_leading_zero, lines_alike, page_read_back, pages_differ}

-- a word has at most ten figures
pub ten_figures : (n : ℕ) → n < 4294967296 → length (decimal n) ≤ 10
unfolding NumbersFit
ten_figures = numbers_fit

-- no number but 0 begins with the figure 0
pub no_leading_zero_written_out : (n : ℕ) → 0 < n → get_or (decimal n) 0 32 ≡ 48 → ⊥
unfolding NoLeadingZero
no_leading_zero_written_out = no_leading_zero

-- every line is 65 bytes and a line feed
pub lines_of_66_bytes : (t : ℕ) (ps : List ℕ) (i : ℕ) → t < 4294967296 → Words ps → length (line t ps i) ≡ 66
unfolding LinesAlike
lines_of_66_bytes = lines_alike

-- a page read back: the positions, the term where there is one, as many line feeds as the reply says, and other bytes as they were
pub page_read_back_written_out :
    (c : List ℕ) (t a z : ℕ) (memory : List ℕ) → t < 4294967296 →
    let p = printed c t a z memory in
    let text = take (66 * p.lines) p.memory in
    p.number ≡ 0 →
    (positions_in text ≡ found c t a z)
    × (0 < length (found c t a z) → term_in text ≡ t)
    × (line_feeds_in text ≡ p.lines)
    × (drop (66 * p.lines) p.memory ≡ drop (66 * p.lines) memory)
unfolding PageReadBack
page_read_back_written_out = page_read_back

-- different answers that are not empty have different pages
pub pages_differ_written_out :
    (t u : ℕ) (ps qs : List ℕ) → t < 4294967296 → u < 4294967296 → Words ps → Words qs → 0 < length ps → page t ps ≡ page u qs →
    (t ≡ u) × (ps ≡ qs)
unfolding PagesDiffer
pages_differ_written_out = pages_differ

pub record PagesComputed : Type 0 where
  -- the answer of P7, the positions 2 and 9 of term 5; no positions
  pub of_two : page 5 (2 ∷ 9 ∷ []) ≡ replicate 9 32 ++ 53 ∷ replicate 10 32 ++ 50 ∷ replicate 10 32 ++ 57 ∷ replicate 33 32 ++ 10 ∷ []
  pub of_none : page 5 [] ≡ []
  -- the highest term with six positions, of one to ten figures
  pub of_six :
      page 4294967295 (1 ∷ 10 ∷ 99 ∷ 100 ∷ 1000000000 ∷ 4294967295 ∷ []) ≡
      52 ∷ 50 ∷ 57 ∷ 52 ∷ 57 ∷ 54 ∷ 55 ∷ 50 ∷ 57 ∷ 53 ∷ replicate 10 32
      ++ 49 ∷ replicate 9 32
      ++ 49 ∷ 48 ∷ replicate 9 32
      ++ 57 ∷ 57 ∷ replicate 8 32
      ++ 49 ∷ 48 ∷ 48 ∷ 32 ∷ 49 ∷ replicate 9 48
      ++ 10 ∷ replicate 11 32
      ++ 52 ∷ 50 ∷ 57 ∷ 52 ∷ 57 ∷ 54 ∷ 55 ∷ 50 ∷ 57 ∷ 53 ∷ replicate 44 32
      ++ 10 ∷ []
  -- bytes that no page has are read as well: a figure between blanks, and no line at all
  pub of_bytes : number_in (32 ∷ 55 ∷ 32 ∷ 49 ∷ []) ≡ 71
  pub of_no_bytes : positions_in [] ≡ []

pub pages_computed : PagesComputed
unfolding last_figures decimal column joined field line line_count page number_from number_in positions_in
pages_computed = record { of_two = refl; of_none = refl; of_six = refl; of_bytes = refl; of_no_bytes = refl }
