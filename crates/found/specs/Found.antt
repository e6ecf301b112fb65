-- Looking up a term in a range of positions.
use Rattle.std.specs.Prelude.{ℕ, suc, ◌+◌, ◌-◌, cond, ◌&&◌, ◌||◌, not, List, [], ◌∷◌, map, length, ltb, leb, eqb}
use Rattle.std.proofs.lemmas.List.Edits.{sets}
use Rattle.pair.specs.Rank.{rank, position}
use Rattle.pair.specs.Rising.{within, any}
use Rattle.pair.specs.Tests.{first_of}
use Rattle.block.specs.Block.{pairs}
use Rattle.card.specs.Layout.{first_pair, place, old_places, new_places, live}
use Rattle.card.specs.Sound.{judged}

-- the live positions of the term from a to z
unfoldable pub found : List ℕ → ℕ → ℕ → ℕ → List ℕ
found c t a z = map position (within (rank t a) (rank t z) (live c))

-- how many places stand up to the last whose map pair is at most k, that one included; 0 where there is no such last
unfoldable pub mapped_to : List ℕ → ℕ → List ℕ → ℕ
mapped_to c k [] = 0
mapped_to c k (i ∷ is) = cond (leb (first_pair c i) k || ltb 0 (mapped_to c k is)) (suc (mapped_to c k is)) 0

-- the blocks from the last whose map pair is at most (t, a), or else the first, up to the last whose map pair is at most (t, z);
-- none where there is no such last
unfoldable pub span : List ℕ → ℕ → ℕ → ℕ → List ℕ → ℕ
span c t a z is = mapped_to c (rank t z) is - (mapped_to c (rank t a) is - 1)

unfoldable pub blocks_read : List ℕ → ℕ → ℕ → ℕ → ℕ
blocks_read c t a z = span c t a z (new_places c) + span c t a z (old_places c)

-- how many of the places hold a live posting from a to z, those above k being live
unfoldable pub holders : List ℕ → ℕ → ℕ → ℕ → List ℕ → ℕ
holders c k a z [] = 0
holders c k a z (i ∷ is) =
    cond (any (λ x. ltb k x && leb a x && leb x z) (pairs (place c i))) (suc (holders c k a z is)) (holders c k a z is)

unfoldable pub question_number : List ℕ → ℕ → ℕ → ℕ → ℕ
question_number c t a z = first_of ((not (eqb (judged c) 0), judged c) ∷ (eqb t 0 || eqb a 0 || ltb z a, 9) ∷ [])

unfoldable pub lookup_number : List ℕ → ℕ → ℕ → ℕ → List ℕ → ℕ
lookup_number c t a z answer =
    first_of
    ((not (eqb (question_number c t a z) 0), question_number c t a z)
    ∷ (ltb (length answer) (length (found c t a z)), 10)
    ∷ [])

pub record Lookup : Type 0 where
  pub number : ℕ
  pub count : ℕ
  pub blocks : ℕ
  pub answer : List ℕ

unfoldable pub lookup : List ℕ → ℕ → ℕ → ℕ → List ℕ → Lookup
lookup c t a z answer =
    cond (eqb (lookup_number c t a z answer) 0)
    (record { number = 0; count = length (found c t a z); blocks = blocks_read c t a z; answer = sets answer 0 (found c t a z) })
    (record { number = lookup_number c t a z answer; count = 0; blocks = 0; answer = answer })
