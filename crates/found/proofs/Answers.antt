-- Lookups answered and refused.
use Prim.Native.Nat.{ℕ, ◌≤◌}
use mathlib.Core.Path.{◌≡◌, refl, sym, ◌∙◌, ap}
use mathlib.Core.Bool.{Bool, true, false, ◌||◌}
use mathlib.Core.List.{List}
use native.Mathlib.Omega.{arith}
use lib.ListN.{length}
use lib.Seq.{sets}
use lib.Dec.{ltb, eqb}
use borrow.Author.Tests.{ltb-false, eqb-true, eqb-false}
use Rattle.pair.proofs.Tests.{or_left, or_right}
use Rattle.pair.proofs.FirstOf.{passed, handed_on}
use Rattle.card.specs.Sound.{judged}
use Rattle.found.specs.Found.{found, question_number, lookup_number, lookup, blocks_read}

-- a question that is not refused
pub record Asked (c : List ℕ) (t a z : ℕ) : Type 0 where
  pub sound : judged c ≡ 0
  pub term_low : 1 ≤ t
  pub from_low : 1 ≤ a
  pub range : a ≤ z

pub asked : (c : List ℕ) (t a z : ℕ) → question_number c t a z ≡ 0 → Asked c t a z
unfolding question_number
asked c t a z e =
    let h = handed_on _ _ e in
    let i = passed _ _ _ h.1 in
    let low = or_left (eqb t 0 || eqb a 0) (ltb z a) i.0 in
    record {
      sound = h.0;
      term_low = omega (arith, eqb-false t 0 (or_left (eqb t 0) (eqb a 0) low));
      from_low = omega (arith, eqb-false a 0 (or_right (eqb t 0) (eqb a 0) low));
      range = ltb-false z a (or_right (eqb t 0 || eqb a 0) (ltb z a) i.0);
    }

-- A lookup that is not refused had a question in order.
pub lookup_asked : (c : List ℕ) (t a z : ℕ) (answer : List ℕ) → lookup_number c t a z answer ≡ 0 → Asked c t a z
unfolding lookup_number
lookup_asked c t a z answer e = asked c t a z (handed_on _ _ e).0

-- It answers what is found.
pub lookup_found :
    (c : List ℕ) (t a z : ℕ) (answer : List ℕ) → lookup_number c t a z answer ≡ 0 →
    lookup c t a z answer ≡ record { number = 0; count = length (found c t a z); blocks = blocks_read c t a z; answer = sets answer 0 (found c t a z) }
unfolding lookup
lookup_found c t a z answer e = rw e

-- A refused lookup writes nothing.
pub lookup_refused :
    (c : List ℕ) (t a z : ℕ) (answer : List ℕ) → eqb (lookup_number c t a z answer) 0 ≡ false →
    lookup c t a z answer ≡ record { number = lookup_number c t a z answer; count = 0; blocks = 0; answer = answer }
unfolding lookup
lookup_refused c t a z answer e = rw e

-- A lookup's number is that of its definition, refused or not.
pub lookup_number_law : (c : List ℕ) (t a z : ℕ) (answer : List ℕ) → (lookup c t a z answer).number ≡ lookup_number c t a z answer
lookup_number_law c t a z answer = go (eqb (lookup_number c t a z answer) 0) refl
  where
    go : (s : Bool) → eqb (lookup_number c t a z answer) 0 ≡ s → (lookup c t a z answer).number ≡ lookup_number c t a z answer
    go true e = let n = eqb-true (lookup_number c t a z answer) 0 e in ap (λ l. l.number) (lookup_found c t a z answer n) ∙ sym n
    go false e = ap (λ l. l.number) (lookup_refused c t a z answer e)
