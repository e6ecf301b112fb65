-- The frame: cards that differ in free places and their map entries at most answer every question alike.
use Prim.Native.Nat.{ℕ, ◌+◌}
use mathlib.Core.Path.{◌≡◌, refl, ◌∙◌, ap, ap₂}
use mathlib.Core.Bool.{◌&&◌}
use mathlib.Core.List.{List, [], ◌∷◌, map}
use native.Mathlib.Omega.{arith}
use lib.Dec.{ltb, leb}
use Rattle.pair.specs.Rank.{rank, position}
use Rattle.pair.specs.Rising.{Each, above, within}
use Rattle.block.specs.Block.{pairs, words_before}
use Rattle.card.specs.Layout.{boundary, place_at, place, old_places, new_places}
use Rattle.card.proofs.Frame.{SameAt, Alike, word_alike, first_pair_alike, boundary_alike, old_places_alike, new_places_alike, live_alike, judged_alike}
use Rattle.found.specs.Found.{found, mapped_to, span, blocks_read, question_number, lookup_number, lookup}
use Rattle.found.specs.Views.{run_at, run, run_start_at, run_start}

mapped_to_alike : (c d : List ℕ) (k : ℕ) (is : List ℕ) → Each (SameAt c d) is → mapped_to d k is ≡ mapped_to c k is
unfolding mapped_to
mapped_to_alike c d k [] s = refl
mapped_to_alike c d k (i ∷ is) s = rw (first_pair_alike c d i s.0, mapped_to_alike c d k is s.1)

abbrev or_else : List ℕ → List ℕ → List ℕ
or_else ys rest = elim ys [ [] ↦ rest | x ∷ xs ↦ map position (x ∷ xs) ]

run_at_alike : (c d : List ℕ) (k a z : ℕ) (is rest : List ℕ) → Each (SameAt c d) is → run_at d k a z is rest ≡ run_at c k a z is rest
unfolding run_at
run_at_alike c d k a z [] rest s = refl
run_at_alike c d k a z (i ∷ is) rest s =
    ap₂ or_else (ap (λ ws. above k (within a z (pairs ws))) s.0.block) (run_at_alike c d k a z is rest s.1)

abbrev start_or : List ℕ → ℕ → ℕ → ℕ
start_or ys at rest = elim ys [ [] ↦ rest | x ∷ xs ↦ at ]

run_start_at_alike :
    (c d : List ℕ) → Alike c d → (k a z : ℕ) (is : List ℕ) (rest : ℕ) → Each (SameAt c d) is → run_start_at d k a z is rest ≡ run_start_at c k a z is rest
unfolding run_start_at
run_start_at_alike c d e k a z [] rest s = refl
run_start_at_alike c d e k a z (i ∷ is) rest s =
    let at : place_at d i ≡ place_at c i = rw (word_alike c d e 0 (omega arith), word_alike c d e 1 (omega arith), word_alike c d e 2 (omega arith)) in
    let before : List ℕ → ℕ = λ ws. words_before (λ y. ltb k y && leb a y && leb y z) ws 0 0 in
    ap₂ (λ ys n. start_or ys n (run_start_at d k a z is rest)) (ap (λ ws. above k (within a z (pairs ws))) s.0.block) (ap₂ ◌+◌ at (ap before s.0.block))
    ∙ ap (start_or (above k (within a z (pairs (place c i)))) (place_at c i + before (place c i))) (run_start_at_alike c d e k a z is rest s.1)

module _ (c d : List ℕ) (s : Alike c d) where
  pub found_alike : (t a z : ℕ) → found d t a z ≡ found c t a z
  unfolding found
  found_alike t a z = rw (live_alike c d s)

  pub blocks_read_alike : (t a z : ℕ) → blocks_read d t a z ≡ blocks_read c t a z
  unfolding blocks_read span
  blocks_read_alike t a z =
      rw (
        new_places_alike c d s,
        old_places_alike c d s,
        mapped_to_alike c d (rank t a) (new_places c) s.new,
        mapped_to_alike c d (rank t z) (new_places c) s.new,
        mapped_to_alike c d (rank t a) (old_places c) s.old,
        mapped_to_alike c d (rank t z) (old_places c) s.old,
      )

  pub question_number_alike : (t a z : ℕ) → question_number d t a z ≡ question_number c t a z
  unfolding question_number
  question_number_alike t a z = rw (judged_alike c d s)

  -- A lookup answers the same.
  pub lookup_alike : (t a z : ℕ) (answer : List ℕ) → lookup d t a z answer ≡ lookup c t a z answer
  unfolding lookup lookup_number
  lookup_alike t a z answer = rw (question_number_alike t a z, found_alike t a z, blocks_read_alike t a z)

  -- The run view holds the same.
  pub run_alike : (t a z : ℕ) → run d t a z ≡ run c t a z
  unfolding run
  run_alike t a z =
      rw (
        question_number_alike t a z,
        new_places_alike c d s,
        old_places_alike c d s,
        boundary_alike c d s,
        run_at_alike c d (boundary c) (rank t a) (rank t z) (old_places c) [] s.old,
        run_at_alike c d 0 (rank t a) (rank t z) (new_places c) (run_at c (boundary c) (rank t a) (rank t z) (old_places c) []) s.new,
      )

  -- and at the same place of the card.
  pub run_start_alike : (t a z : ℕ) → run_start d t a z ≡ run_start c t a z
  unfolding run_start
  run_start_alike t a z =
      rw (
        question_number_alike t a z,
        new_places_alike c d s,
        old_places_alike c d s,
        boundary_alike c d s,
        run_start_at_alike c d s (boundary c) (rank t a) (rank t z) (old_places c) 0 s.old,
        run_start_at_alike c d s 0 (rank t a) (rank t z) (new_places c) (run_start_at c (boundary c) (rank t a) (rank t z) (old_places c) 0) s.new,
      )
