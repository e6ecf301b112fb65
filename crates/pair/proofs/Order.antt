-- The order of ranks is the order of pairs by term, then position.
use Prim.Native.Nat.{ℕ, ◌≤◌, ◌<◌}
use mathlib.Core.Path.{◌≡◌}
use mathlib.Core.Bool.{◌&&◌, ◌||◌}
use mathlib.Core.Logic.{◌↔◌, ◌⊎◌, inl, inr}
use lib.Dec.{ltb, eqb}
use native.Mathlib.Omega.{arith}
use borrow.Author.Tests.{lt-ltb, le-ltb, eq-eqb, ne_eqb}
use Rattle.pair.specs.Rank.{rank, term, position, Proper}
use Rattle.pair.proofs.Tests.{ltb_agree, compared}

-- a rank gives its term and its position back, and a number is the rank of its term and position
pub term_rank : (t p : ℕ) → p < 4294967296 → term (rank t p) ≡ t
term_rank t p h = omega arith

pub position_rank : (t p : ℕ) → p < 4294967296 → position (rank t p) ≡ p
position_rank t p h = omega arith

pub rank_term_position : (k : ℕ) → rank (term k) (position k) ≡ k
rank_term_position k = omega arith

-- a position is a 32-bit word
pub position_word : (k : ℕ) → position k < 4294967296
position_word k = omega arith

-- two pairs with the same rank are the same pair
pub rank_one_to_one : (t p u q : ℕ) → p < 4294967296 → q < 4294967296 → rank t p ≡ rank u q → (t ≡ u) × (p ≡ q)
rank_one_to_one t p u q h k e = (omega arith, omega arith)

-- one rank is less than another exactly where its term is, or the terms are equal and its position is less
pub rank_less : (t p u q : ℕ) → p < 4294967296 → q < 4294967296 → (rank t p < rank u q) ↔ ((t < u) ⊎ ((t ≡ u) × (p < q)))
rank_less t p u q h k = (to (compared t u), from)
  where
    to : (t < u) ⊎ ((t ≡ u) ⊎ (u < t)) → rank t p < rank u q → (t < u) ⊎ ((t ≡ u) × (p < q))
    to (inl l) e = inl l
    to (inr (inl l)) e = inr (l, omega arith)
    to (inr (inr l)) e = absurd (omega arith)

    from : (t < u) ⊎ ((t ≡ u) × (p < q)) → rank t p < rank u q
    from (inl l) = omega arith
    from (inr l) = omega arith

-- the same as tests
pub ltb_rank : (t p u q : ℕ) → p < 4294967296 → q < 4294967296 → ltb (rank t p) (rank u q) ≡ (ltb t u || (eqb t u && ltb p q))
ltb_rank t p u q h k = go (compared t u)
  where
    go : (t < u) ⊎ ((t ≡ u) ⊎ (u < t)) → ltb (rank t p) (rank u q) ≡ (ltb t u || (eqb t u && ltb p q))
    go (inl l) = rw (lt-ltb t u l) (lt-ltb (rank t p) (rank u q) (omega arith))
    go (inr (inl e)) =
        rw (le-ltb t u (omega arith), eq-eqb t u e) (ltb_agree (rank t p) (rank u q) p q (omega arith) (omega arith))
    go (inr (inr l)) = rw (le-ltb t u (omega arith), ne_eqb t u (omega arith)) (le-ltb (rank t p) (rank u q) (omega arith))

-- the rank of a term and a position of at least 1 is a pair's
pub proper_rank : (t p : ℕ) → 1 ≤ t → t < 4294967296 → 1 ≤ p → p < 4294967296 → Proper (rank t p)
proper_rank t p a b c d = omega arith
