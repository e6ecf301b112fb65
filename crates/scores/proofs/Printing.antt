-- The line that is printed of an outcome.
use Prim.Native.Nat.{ℕ, ◌+◌, ◌≤◌, ◌<◌}
use native.Mathlib.Omega.{arith}
use mathlib.Core.Path.{◌≡◌, sym, ap, ◌∙◌}
use mathlib.Core.List.{List, [], ◌∷◌}
use borrow.Author.Tests.{le-leb}
use lib.ListN.{length, set, length-append}
use lib.Seq.{sets}
use Rattle.pair.specs.Rank.{word_limit}
use Rattle.pair.proofs.Lists.{sets_append}
use Rattle.figures.specs.Figures.{decimal}
use Rattle.figures.specs.code.Reading.{put_number}
use Rattle.figures.proofs.Figures.{decimal_few}
use Rattle.lines.specs.Lines.{tab, line_feed}
use Rattle.scores.specs.Outcome.{printed_line}

-- with room the figures are put
room_put : (l : List ℕ) (at n : ℕ) → at + length (decimal n) ≤ length l → put_number l at n ≡ sets l at (decimal n)
unfolding put_number
room_put l at n h = rw (le-leb (at + length (decimal n)) (length l) h)

pub line_length : (letter n : ℕ) → length (printed_line letter n) ≡ 2 + length (decimal n) + 1
unfolding printed_line
line_length letter n = rw length-append (omega arith)

pub line_put :
    (l : List ℕ) (letter n end : ℕ) {now : List ℕ} → length (set (set l 0 letter) 1 tab) ≡ 13 → n < word_limit → now ≡ put_number (set (set l 0 letter) 1 tab) 2 n →
    end ≡ 2 + length (decimal n) → set now end line_feed ≡ sets l 0 (printed_line letter n)
unfolding printed_line
line_put l letter n end {now} e h f k =
    let begun = set (set l 0 letter) 1 tab in
    let put : now ≡ sets begun 2 (decimal n) = f ∙ room_put begun 2 n (omega (arith, e, decimal_few n h)) in
    ap (λ x. set x end line_feed) put ∙ ap (λ i. set (sets begun 2 (decimal n)) i line_feed) k ∙ sym (sets_append (decimal n) (line_feed ∷ []) begun 2)
