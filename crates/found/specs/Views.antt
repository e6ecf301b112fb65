-- The run view: the part of the card that has the first run of wanted positions.
use Rattle.std.specs.Prelude.{ℕ, ◌+◌, ◌≤◌, ◌≡◌, cond, ◌&&◌, List, [], ◌∷◌, map, length, take, drop, ltb, leb, eqb}
use Rattle.pair.specs.Rank.{rank, position}
use Rattle.pair.specs.Rising.{above, within}
use Rattle.block.specs.Block.{pairs, words_before}
use Rattle.card.specs.Layout.{boundary, place_at, place, old_places, new_places}
use Rattle.found.specs.Found.{question_number}

-- the run view's contents: the wanted live positions of the first of the places that has any
unfoldable pub run_at : List ℕ → ℕ → ℕ → ℕ → List ℕ → List ℕ → List ℕ
run_at c k a z [] rest = rest
run_at c k a z (i ∷ is) rest =
    elim (above k (within a z (pairs (place c i)))) [ [] ↦ run_at c k a z is rest | x ∷ xs ↦ map position (x ∷ xs) ]

unfoldable pub run : List ℕ → ℕ → ℕ → ℕ → List ℕ
run c t a z =
    cond (eqb (question_number c t a z) 0)
    (run_at c 0 (rank t a) (rank t z) (new_places c) (run_at c (boundary c) (rank t a) (rank t z) (old_places c) []))
    []

-- where in the card the run view's part starts
unfoldable pub run_start_at : List ℕ → ℕ → ℕ → ℕ → List ℕ → ℕ → ℕ
run_start_at c k a z [] rest = rest
run_start_at c k a z (i ∷ is) rest =
    elim (above k (within a z (pairs (place c i)))) [
      | [] ↦ run_start_at c k a z is rest
      | x ∷ xs ↦ place_at c i + words_before (λ y. ltb k y && leb a y && leb y z) (place c i) 0 0
    ]

unfoldable pub run_start : List ℕ → ℕ → ℕ → ℕ → ℕ
run_start c t a z =
    cond (eqb (question_number c t a z) 0)
    (run_start_at c 0 (rank t a) (rank t z) (new_places c) (run_start_at c (boundary c) (rank t a) (rank t z) (old_places c) 0))
    0

-- the number of a run view, and the part of the card that it is
pub record Viewed (c : List ℕ) (t a z number start len : ℕ) : Type 0 where
  pub of_number : number ≡ question_number c t a z
  pub of_start : start ≡ run_start c t a z
  pub of_length : len ≡ length (run c t a z)
  pub inside : start + len ≤ length c
  pub part : take len (drop start c) ≡ run c t a z
