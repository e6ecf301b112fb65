-- What the words of a well-formed block read as: pairs, rising, at least one.
use Prim.Native.Nat.{ℕ, zero, suc, ◌≤◌, ◌<◌}
use native.Mathlib.Omega.{arith}
use mathlib.Core.Path.{◌≡◌, refl, sym}
use mathlib.Core.Bool.{Bool, true, false, cond, ◌&&◌, not, true≢false}
use mathlib.Core.List.{List, [], ◌∷◌}
use lib.ListN.{length, take}
use lib.Dec.{ltb, eqb}
use borrow.Author.Tests.{ltb-true, lt-ltb, eqb-false, not-true}
use Rattle.pair.specs.Rank.{rank, Words, Proper}
use Rattle.pair.specs.Rising.{Each, rising_from}
use Rattle.pair.proofs.Order.{proper_rank}
use Rattle.pair.proofs.Rising.{rising_weaker}
use Rattle.pair.proofs.Tests.{and_left, and_right, and_both, contradiction}
use Rattle.block.specs.Block.{zeros, pairs_from, pairs, formed_from, formed}

-- well-formed 32-bit words read as pairs, where the term in hand is a term
formed_from_proper : (ws : List ℕ) (t n p : ℕ) → Words ws → t < 4294967296 → (0 < n → 1 ≤ t) →
    formed_from ws t n p ≡ true → Each Proper (pairs_from ws t n)
unfolding formed_from pairs_from Words
formed_from_proper [] t n p w h g f = tt
formed_from_proper (q ∷ ws) t (suc n) p w h g f =
    let less : p < q = ltb-true p q (and_left (ltb p q) (formed_from ws t n q) f) in
    let high : q < 4294967296 = w 0 in (
      proper_rank t q (g (omega arith)) h (omega arith) high,
      formed_from_proper ws t n q (λ i. w (suc i)) h (λ l. g (omega arith)) (and_right (ltb p q) (formed_from ws t n q) f),
    )
formed_from_proper (a ∷ []) t zero p w h g f = tt
formed_from_proper (a ∷ b ∷ []) t zero p w h g f = tt
formed_from_proper (a ∷ b ∷ q ∷ ws) t zero p w h g f =
    go (formed_from_proper (q ∷ ws) a b 0 (λ i. w (suc (suc i))) (w 0)) (eqb a 0) refl f
  where
    go : ((0 < b → 1 ≤ a) → formed_from (q ∷ ws) a b 0 ≡ true → Each Proper (pairs_from (q ∷ ws) a b)) →
        (s : Bool) → eqb a 0 ≡ s → cond s (zeros (b ∷ q ∷ ws)) (ltb t a && ltb 0 b && formed_from (q ∷ ws) a b 0) ≡ true →
        Each Proper (cond s [] (pairs_from (q ∷ ws) a b))
    go ih true e f = tt
    go ih false e f =
        ih (λ l. let n : (a ≡ 0 → ⊥) = eqb-false a 0 e in omega arith)
        (and_right (ltb t a && ltb 0 b) (formed_from (q ∷ ws) a b 0) f)

pub formed_from_rising : (ws : List ℕ) (t n p : ℕ) → Words ws → p < 4294967296 → formed_from ws t n p ≡ true →
    rising_from (rank t p) (pairs_from ws t n) ≡ true
unfolding formed_from pairs_from Words rising_from
formed_from_rising [] t n p w h f = refl
formed_from_rising (q ∷ ws) t (suc n) p w h f =
    let less : p < q = ltb-true p q (and_left (ltb p q) (formed_from ws t n q) f) in
    let high : q < 4294967296 = w 0 in
    and_both (ltb (rank t p) (rank t q)) (rising_from (rank t q) (pairs_from ws t n)) (lt-ltb (rank t p) (rank t q) (omega arith))
    (formed_from_rising ws t n q (λ i. w (suc i)) high (and_right (ltb p q) (formed_from ws t n q) f))
formed_from_rising (a ∷ []) t zero p w h f = refl
formed_from_rising (a ∷ b ∷ []) t zero p w h f = refl
formed_from_rising (a ∷ b ∷ q ∷ ws) t zero p w h f =
    go (formed_from_rising (q ∷ ws) a b 0 (λ i. w (suc (suc i))) (omega arith)) (eqb a 0) f
  where
    go : (formed_from (q ∷ ws) a b 0 ≡ true → rising_from (rank a 0) (pairs_from (q ∷ ws) a b) ≡ true) →
        (s : Bool) → cond s (zeros (b ∷ q ∷ ws)) (ltb t a && ltb 0 b && formed_from (q ∷ ws) a b 0) ≡ true →
        rising_from (rank t p) (cond s [] (pairs_from (q ∷ ws) a b)) ≡ true
    go ih true f = refl
    go ih false f =
        let tests : (ltb t a && ltb 0 b) ≡ true = and_left (ltb t a && ltb 0 b) (formed_from (q ∷ ws) a b 0) f in
        let less : t < a = ltb-true t a (and_left (ltb t a) (ltb 0 b) tests) in
        rising_weaker (pairs_from (q ∷ ws) a b) (rank t p) (rank a 0) (omega arith)
        (ih (and_right (ltb t a && ltb 0 b) (formed_from (q ∷ ws) a b 0) f))

-- a live block of 32-bit words reads as pairs
pub formed_proper : (ws : List ℕ) → Words ws → formed ws ≡ true → Each Proper (pairs ws)
unfolding formed pairs
formed_proper ws w f =
    formed_from_proper ws 0 0 0 w (omega arith) (λ l. omega arith) (and_left (formed_from ws 0 0 0) (not (zeros (take 1 ws))) f)

-- they rise
pub formed_rising : (ws : List ℕ) → Words ws → formed ws ≡ true → rising_from 0 (pairs ws) ≡ true
unfolding formed pairs
formed_rising ws w f =
    formed_from_rising ws 0 0 0 w (omega arith) (and_left (formed_from ws 0 0 0) (not (zeros (take 1 ws))) f)

-- its first word is a term
pub formed_starts : (a : ℕ) (ws : List ℕ) → formed (a ∷ ws) ≡ true → eqb a 0 ≡ false
unfolding formed zeros
formed_starts a ws f = go (eqb a 0) (not-true (eqb a 0 && true) (and_right (formed_from (a ∷ ws) 0 0 0) (not (eqb a 0 && true)) f))
  where
    go : (s : Bool) → (s && true) ≡ false → s ≡ false
    go true e = e
    go false e = e

-- and there is one pair at least
pub formed_some : (ws : List ℕ) → formed ws ≡ true → 0 < length (pairs ws)
unfolding formed pairs formed_from pairs_from zeros
formed_some [] f = absurd (true≢false (sym f))
formed_some (a ∷ []) f =
    contradiction (eqb a 0) (and_left (eqb a 0) true (and_left (eqb a 0 && true) (not (eqb a 0 && true)) f)) (formed_starts a [] f)
formed_some (a ∷ b ∷ []) f =
    contradiction (eqb a 0)
    (and_left (eqb a 0) (eqb b 0 && true) (and_left (eqb a 0 && (eqb b 0 && true)) (not (eqb a 0 && true)) f))
    (formed_starts a (b ∷ []) f)
formed_some (a ∷ zero ∷ q ∷ ws) f =
    let g : (ltb 0 a && false && formed_from (q ∷ ws) a 0 0) ≡ true
    = rw (formed_starts a (zero ∷ q ∷ ws) f) at (and_left (formed_from (a ∷ zero ∷ q ∷ ws) 0 0 0) (not (eqb a 0 && true)) f) in
    absurd (true≢false (sym (and_right (ltb 0 a) false (and_left (ltb 0 a && false) (formed_from (q ∷ ws) a 0 0) g))))
formed_some (a ∷ suc b ∷ q ∷ ws) f = rw (formed_starts a (suc b ∷ q ∷ ws) f) (omega arith)
