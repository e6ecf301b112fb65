-- Places around a circle.
use Prim.Native.Nat.{ℕ, zero, suc, ◌+◌, ◌-◌, ◌/◌, ◌%◌, ◌≤◌, ◌<◌}
use mathlib.Core.Path.{◌≡◌, refl, sym, ◌∙◌, ap}
use mathlib.Core.Bool.{Bool, true, false}
use mathlib.Core.List.{List, [], ◌∷◌, ◌++◌}
use native.Mathlib.Nat.{div-add-mod', mul-le-mul_right, mod-add-mod, mod-mod}
use native.Mathlib.Omega.{arith}
use lib.ListN.{length, drop}
use lib.Dec.{ltb}
use borrow.Author.Tests.{ltb-true, ltb-false}
use Rattle.pair.specs.Rising.{Each}
use Rattle.card.specs.Layout.{around}

-- Two numbers less than a turn apart stand at different places.
pub mod_apart : (n j k : ℕ) → j < k → k < j + n → j % n ≡ k % n → ⊥
mod_apart n j k h h' e = go (ltb (j / n) (k / n)) refl
  where
    go : (s : Bool) → ltb (j / n) (k / n) ≡ s → ⊥
    go true t = omega (arith, div-add-mod' j n, div-add-mod' k n, mul-le-mul_right {n = k / n} n (ltb-true (j / n) (k / n) t))
    go false t = omega (arith, div-add-mod' j n, div-add-mod' k n, mul-le-mul_right {n = j / n} n (ltb-false (j / n) (k / n) t))

-- What holds of every place of a stretch, by the place's number counted on from the start.
pub each_around : (Q : ℕ → Type 0) (n start len : ℕ) → ((j : ℕ) → start ≤ j → j < start + len → Q (j % n)) → Each Q (around n start len)
unfolding around
each_around Q n start zero h = tt
each_around Q n start (suc len) h =
    (h start (omega arith) (omega arith), each_around Q n (start + 1) len (λ j a b. h j (omega arith) (omega arith)))

pub length_around : (n start len : ℕ) → length (around n start len) ≡ len
unfolding around
length_around n start zero = refl
length_around n start (suc len) = ap suc (length_around n (start + 1) len)

-- A stretch is its beginning and the rest.
pub around_add : (n start a b : ℕ) → around n start (a + b) ≡ around n start a ++ around n (start + a) b
unfolding around
around_add n start zero b = let e : start + zero ≡ start = omega arith in let z : zero + b ≡ b = omega arith in rw (e, z)
around_add n start (suc a) b =
    let e : suc a + b ≡ suc (a + b) = omega arith in
    let d : start + suc a ≡ start + 1 + a = omega arith in
    rw (e, d) (ap (λ l. start % n ∷ l) (around_add n (start + 1) a b))

pub around_drop : (n start d len : ℕ) → d ≤ len → drop d (around n start len) ≡ around n (start + d) (len - d)
unfolding around
around_drop n start zero len h = let e : start + zero ≡ start = omega arith in let z : len - zero ≡ len = omega arith in rw (e, z)
around_drop n start (suc d) zero h = absurd (omega arith)
around_drop n start (suc d) (suc len) h =
    let e : start + suc d ≡ start + 1 + d = omega arith in
    let z : suc len - suc d ≡ len - d = omega arith in
    rw (e, z) (around_drop n (start + 1) d len (omega arith))

-- A stretch may start at the place itself or whole turns later.
pub around_mod : (n start len : ℕ) → around n (start % n) len ≡ around n start len
unfolding around
around_mod n start zero = refl
around_mod n start (suc len) =
    rw (mod-mod start n) (ap (λ l. start % n ∷ l)
    (sym (around_mod n (start % n + 1) len) ∙ rw (mod-add-mod start n 1) (around_mod n (start + 1) len)))

pub around_mod_add : (n start a len : ℕ) → around n (start % n + a) len ≡ around n (start + a) len
around_mod_add n start a len =
    sym (around_mod n (start % n + a) len) ∙ ap (λ s. around n s len) (mod-add-mod start n a) ∙ around_mod n (start + a) len

-- The place j of a stretch, and the places after it.
pub around_cons : (n start len j : ℕ) → j < len → around n (start + j) (len - j) ≡ (start + j) % n ∷ around n (start + (j + 1)) (len - (j + 1))
unfolding around
around_cons n start len j h =
    let e : len - j ≡ suc (len - (j + 1)) = omega arith in
    let f : start + j + 1 ≡ start + (j + 1) = omega arith in
    rw e (rw f)

-- One place more at the end.
pub around_more : (n start len : ℕ) → around n start (len + 1) ≡ around n start len ++ ((start + len) % n ∷ [])
unfolding around
around_more n start len = around_add n start len 1

-- no number stands twice in the list
abbrev pub Distinct : List ℕ → Type 0
Distinct [] = Unit {0}
Distinct (x ∷ xs) = Each (λ y. x ≡ y → ⊥) xs × Distinct xs

-- A stretch of no more than a turn comes to no place twice.
pub around_distinct : (n start len : ℕ) → len ≤ n → Distinct (around n start len)
unfolding around
around_distinct n start zero h = tt
around_distinct n start (suc len) h = (
  each_around (λ y. start % n ≡ y → ⊥) n (start + 1) len (λ j l u. mod_apart n start j (omega arith) (omega arith)),
  around_distinct n (start + 1) len (omega arith),
)
