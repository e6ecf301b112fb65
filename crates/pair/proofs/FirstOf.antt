-- A call gives a number exactly where that number's condition holds and that of none before it in the order does.
use Prim.Native.Nat.{ℕ, zero, suc, ◌<◌}
use mathlib.Core.Path.{◌≡◌, refl}
use mathlib.Core.Bool.{Bool, true, false, cond, not}
use mathlib.Core.List.{List, [], ◌∷◌, ◌++◌}
use mathlib.Core.Logic.{◌↔◌}
use native.Mathlib.Omega.{arith}
use lib.Dec.{eqb}
use borrow.Author.Tests.{ne_eqb}
use Rattle.pair.specs.Tests.{first_of}

-- no condition of the list holds
abbrev pub NoneHolds : List (Bool × ℕ) → Type 0
NoneHolds [] = Unit {0}
NoneHolds (c ∷ cs) = (c.0 ≡ false) × NoneHolds cs

-- every condition of the list that holds has a number of at least 1
abbrev pub Numbered : List (Bool × ℕ) → Type 0
Numbered [] = Unit {0}
Numbered (c ∷ cs) = (c.0 ≡ true → 0 < c.1) × Numbered cs

-- the first condition of the list that holds has the number n
pub record FirstAt (cs : List (Bool × ℕ)) (n : ℕ) : Type 0 where
  pub before : List (Bool × ℕ)
  pub after : List (Bool × ℕ)
  pub split : cs ≡ before ++ (true, n) ∷ after
  pub none : NoneHolds before

-- conditions that do not hold are passed over
pub first_of_append : (before after : List (Bool × ℕ)) → NoneHolds before → first_of (before ++ after) ≡ first_of after
unfolding first_of
first_of_append [] after h = refl
first_of_append (c ∷ cs) after h = rw h.0 (first_of_append cs after h.1)

-- a number that comes out keeps later conditions out
pub first_of_early : (before after : List (Bool × ℕ)) → (first_of before ≡ 0 → ⊥) → first_of (before ++ after) ≡ first_of before
unfolding first_of
first_of_early [] after h = absurd (h refl)
first_of_early ((true, n) ∷ cs) after h = refl
first_of_early ((false, n) ∷ cs) after h = first_of_early cs after h

-- the number comes out where its condition holds and none before it does
pub first_of_gives : (cs : List (Bool × ℕ)) (n : ℕ) → FirstAt cs n → first_of cs ≡ n
unfolding first_of
first_of_gives cs n f = rw (f.split, first_of_append f.before ((true, n) ∷ f.after) f.none)

-- a number other than 0 comes out only so
pub first_of_only : (cs : List (Bool × ℕ)) (n : ℕ) → first_of cs ≡ n → 0 < n → FirstAt cs n
unfolding first_of
first_of_only [] n e h = absurd (omega arith)
first_of_only ((b, m) ∷ cs) n e h = go b e (first_of_only cs n)
  where
    go : (t : Bool) → cond t m (first_of cs) ≡ n → (first_of cs ≡ n → 0 < n → FirstAt cs n) → FirstAt ((t, m) ∷ cs) n
    go true e ih = record { before = []; after = cs; split = rw e; none = tt }
    go false e ih =
        let f : FirstAt cs n = ih e h in
        record { before = (false, m) ∷ f.before; after = f.after; split = rw (← f.split); none = (refl, f.none) }

-- 0 comes out where no condition holds
pub first_of_none : (cs : List (Bool × ℕ)) → NoneHolds cs → first_of cs ≡ 0
unfolding first_of
first_of_none [] h = refl
first_of_none (c ∷ cs) h = rw h.0 (first_of_none cs h.1)

-- a first condition that holds would have given its number
pub passed : (b : Bool) (n : ℕ) (cs : List (Bool × ℕ)) → first_of ((b, suc n) ∷ cs) ≡ 0 → (b ≡ false) × (first_of cs ≡ 0)
unfolding first_of
passed true n cs e = absurd (omega arith)
passed false n cs e = (refl, e)

-- a number handed on from another judgement is 0 where 0 comes out
pub handed_on : (n : ℕ) (cs : List (Bool × ℕ)) → first_of ((not (eqb n 0), n) ∷ cs) ≡ 0 → (n ≡ 0) × (first_of cs ≡ 0)
unfolding first_of
handed_on zero cs e = (refl, e)
handed_on (suc n) cs e = absurd (let z : suc n ≡ 0 = rw (ne_eqb (suc n) 0 (omega arith)) at e in omega arith)

-- whatever holds of 0 and of every number of the list holds of the one that comes out
abbrev pub Numbers : (ℕ → Type 0) → List (Bool × ℕ) → Type 0
Numbers P [] = Unit {0}
Numbers P (c ∷ cs) = P c.1 × Numbers P cs

pub first_of_among : (P : ℕ → Type 0) → P 0 → (cs : List (Bool × ℕ)) → Numbers P cs → P (first_of cs)
unfolding first_of
first_of_among P z [] n = z
first_of_among P z ((true, m) ∷ cs) n = n.0
first_of_among P z ((false, m) ∷ cs) n = first_of_among P z cs n.1

-- and, where the numbers are at least 1, only there
pub first_of_all_pass : (cs : List (Bool × ℕ)) → Numbered cs → first_of cs ≡ 0 → NoneHolds cs
unfolding first_of
first_of_all_pass [] h e = tt
first_of_all_pass ((true, n) ∷ cs) h e = let l : 0 < n = h.0 refl in absurd (omega arith)
first_of_all_pass ((false, n) ∷ cs) h e = (refl, first_of_all_pass cs h.1 e)

-- the two laws, both ways: a number comes out exactly where its condition is the first that holds
pub first_of_exactly : (cs : List (Bool × ℕ)) (n : ℕ) → 0 < n → (first_of cs ≡ n) ↔ FirstAt cs n
first_of_exactly cs n h = (λ e. first_of_only cs n e h, first_of_gives cs n)

-- and 0 exactly where none does
pub first_of_zero : (cs : List (Bool × ℕ)) → Numbered cs → (first_of cs ≡ 0) ↔ NoneHolds cs
first_of_zero cs h = (first_of_all_pass cs h, first_of_none cs)
