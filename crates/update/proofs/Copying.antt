-- The loops of a write: words compared, words copied.
use Prim.Native.Nat.{ℕ, suc, ◌+◌, ◌≤◌, ◌<◌, zero-le}
use native.Mathlib.Omega.{arith}
use native.Mathlib.Numerals.{add-one}
use mathlib.Core.Path.{◌≡◌, refl, sym, ap, ◌∙◌}
use mathlib.Core.Bool.{Bool, true, false, ◌&&◌, and_assoc, and-true, and-false}
use mathlib.Core.Logic.{◌≢◌}
use mathlib.Core.List.{List, [], ◌∷◌}
use lib.ListN.{length, take, drop, get_or, set, drop_of_length-le}
use lib.Seq.{sets, drop-cons, take_all, length-sets}
use lib.Dec.{eqb}
use Rattle.pair.specs.Tests.{same}
use Rattle.pair.proofs.Lists.{sets_next}

-- the words up to i are compared: the lists are the same exactly where ok says so of these and the rest is the same
pub record Compared (a b : List ℕ) (ok : Bool) (i : ℕ) : Type 0 where
  pub long : length a ≡ length b
  pub within : i ≤ length a
  pub rest : same a b ≡ (ok && same (drop i a) (drop i b))

pub compared_start : (a b : List ℕ) → length a ≡ length b → Compared a b true 0
compared_start a b l = record { long = l; within = zero-le; rest = refl }

pub compared_turn : {a b : List ℕ} {ok : Bool} {i : ℕ} → Compared a b ok i → i < length a → Compared a b (ok && eqb (get_or a i 0) (get_or b i 0)) (i + 1)
unfolding same
compared_turn {a} {b} {ok} {i} r h =
    record {
      long = r.long;
      within = omega arith;
      rest = r.rest ∙ rw (add-one, drop-cons a i 0 h, drop-cons b i 0 (omega (arith, r.long))) (sym (and_assoc ok (eqb (get_or a i 0) (get_or b i 0)) _));
    }

pub compared_end : {a b : List ℕ} {ok : Bool} {i : ℕ} → Compared a b ok i → length a ≤ i → ok ≡ same a b
unfolding same
compared_end {a} {b} {ok} {i} r h =
    let l : length b ≤ i = omega (arith, r.long) in
    sym (r.rest ∙ rw (drop_of_length-le a h, drop_of_length-le b l) (and-true ok))

-- lists of other lengths are not the same
pub same_lengths : (a b : List ℕ) → length a ≢ length b → false ≡ same a b
unfolding same
same_lengths [] [] n = absurd (n refl)
same_lengths [] (y ∷ ys) n = refl
same_lengths (x ∷ xs) [] n = refl
same_lengths (x ∷ xs) (y ∷ ys) n = rw (← same_lengths xs ys (λ e. n (ap suc e))) (sym (and-false (eqb x y)))

-- the words up to i are copied
pub record Copied (d : List ℕ) (at : ℕ) (s e : List ℕ) (i : ℕ) : Type 0 where
  pub within : i ≤ length s
  pub words : e ≡ sets d at (take i s)

pub copied_start : (d : List ℕ) (at : ℕ) (s : List ℕ) → Copied d at s d 0
copied_start d at s = record { within = zero-le; words = refl }

pub copied_length : {d : List ℕ} {at : ℕ} {s e : List ℕ} {i : ℕ} → Copied d at s e i → length e ≡ length d
copied_length {d} {at} {s} {e} {i} r = ap length r.words ∙ length-sets d at (take i s)

pub copied_turn : {d : List ℕ} {at : ℕ} {s e : List ℕ} {i : ℕ} → Copied d at s e i → i < length s → Copied d at s (set e (at + i) (get_or s i 0)) (i + 1)
copied_turn {d} {at} {s} {e} {i} r h = record { within = omega arith; words = rw r.words (sets_next s d at i h) }

pub copied_end : {d : List ℕ} {at : ℕ} {s e : List ℕ} {i : ℕ} → Copied d at s e i → length s ≤ i → e ≡ sets d at s
copied_end {d} {at} {s} {e} {i} r h = r.words ∙ rw (take_all i s h)
