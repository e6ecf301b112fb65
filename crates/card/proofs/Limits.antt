-- The limits of a block size and a count of places.
use Prim.Native.Nat.{ℕ, ◌≤◌}
use mathlib.Core.Path.{◌≡◌}
use mathlib.Core.Bool.{true}
use borrow.Author.Tests.{leb-true}
use Rattle.pair.proofs.Tests.{and_left, and_right}
use Rattle.card.specs.Layout.{in_limits}

pub record Limits (b n : ℕ) : Type 0 where
  pub size_low : 8 ≤ b
  pub size_high : b ≤ 1024
  pub count_low : 2 ≤ n
  pub count_high : n ≤ 1024

ruleset tests = (and_left, and_right, leb-true)

pub limits : (b n : ℕ) → in_limits b n ≡ true → Limits b n
limits b n e =
    record { size_low = search tests; size_high = search tests; count_low = search tests; count_high = search tests }
