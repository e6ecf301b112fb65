-- A loop that copies a part of one list of words into another.
use Prim.Native.Nat.{ℕ, ◌+◌, ◌≤◌, ◌<◌, zero-le}
use native.Mathlib.Omega.{arith}
use mathlib.Core.Path.{◌≡◌, refl, ap, ◌∙◌}
use mathlib.Core.List.{List}
use lib.ListN.{length, take, drop, get_or, set, length-drop}
use lib.Seq.{sets, get_or-drop, length-sets}
use Rattle.pair.proofs.Lists.{sets_next}

-- the first j of len words of a part of c are copied
pub record Copying (c l : List ℕ) (start len at : ℕ) (now : List ℕ) (j : ℕ) : Type 0 where
  pub within : j ≤ len
  pub same : now ≡ sets l at (take j (drop start c))

pub copying_start : (c l : List ℕ) (start len at : ℕ) → Copying c l start len at l 0
copying_start c l start len at = record { within = zero-le; same = refl }

pub copying_length : {c l now : List ℕ} {start len at j : ℕ} → Copying c l start len at now j → length now ≡ length l
copying_length {c} {l} {now} {start} {len} {at} {j} k = ap length k.same ∙ length-sets l at (take j (drop start c))

pub copying_turn :
    {c l now : List ℕ} {start len at j : ℕ} → Copying c l start len at now j → j < len → start + len ≤ length c →
    Copying c l start len at (set now (at + j) (get_or c (start + j) 0)) (j + 1)
copying_turn {c} {l} {now} {start} {len} {at} {j} k h f =
    record {
      within = omega arith;
      same = rw (k.same, ← get_or-drop start c j 0) (sets_next (drop start c) l at j (rw length-drop (omega arith)));
    }

pub copying_end : {c l now : List ℕ} {start len at j : ℕ} → Copying c l start len at now j → len ≤ j → now ≡ sets l at (take len (drop start c))
copying_end {c} {l} {now} {start} {len} {at} {j} k h = let e : len ≡ j = omega (arith, k.within) in rw e k.same
