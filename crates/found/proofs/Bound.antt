-- The blocks read for a question in order are at most two more than those with a posting to be found.
use Prim.Native.Nat.{ℕ, ◌+◌, ◌≤◌}
use native.Mathlib.Omega.{arith}
use mathlib.Core.Path.{◌≡◌}
use mathlib.Core.List.{List}
use Rattle.pair.specs.Rank.{rank}
use Rattle.card.specs.Layout.{boundary, old_places, new_places}
use Rattle.card.proofs.Live.{reaches_zero}
use Rattle.card.proofs.Facts.{facts}
use Rattle.found.specs.Found.{question_number, blocks_read, holders}
use Rattle.found.proofs.Answers.{asked}
use Rattle.found.proofs.Span.{span_bound}

pub blocks_read_bound_law : (c : List ℕ) (t a z : ℕ) → question_number c t a z ≡ 0 →
    blocks_read c t a z
    ≤ holders c 0 (rank t a) (rank t z) (new_places c) + holders c (boundary c) (rank t a) (rank t z) (old_places c) + 2
unfolding blocks_read
blocks_read_bound_law c t a z e =
    let f = facts c (asked c t a z e).sound in
    omega (
      arith,
      span_bound c 0 t a z (new_places c) f.new_sound f.new_rising (reaches_zero c (new_places c) f.new_sound f.new_rising),
      span_bound c (boundary c) t a z (old_places c) f.old_sound f.old_rising f.reaches,
    )
