-- Reading a block from the middle: what a loop over its words has still to read.
use Prim.Native.Nat.{ℕ, zero, suc, ◌+◌, ◌-◌, ◌≤◌, ◌<◌, zero-le}
use native.Mathlib.Nat.{add-zero}
use native.Mathlib.Numerals.{add-one}
use native.Mathlib.Omega.{arith}
use mathlib.Core.Path.{◌≡◌, refl, sym, ◌∙◌}
use mathlib.Core.Bool.{Bool, true, false, ◌&&◌, ◌||◌, not, and_assoc, and-true, and-false, and-not_self, false≢true}
use mathlib.Core.List.{List, [], ◌∷◌}
use borrow.Author.Tests.{le-leb, lt-leb, not-false, leb-false}
use lib.ListN.{length, take, drop, get_or, drop_of_length-le, length-drop}
use lib.Seq.{drop-cons, get_or-drop}
use lib.Dec.{ltb, leb, eqb, leb-zero, leb-suc-zero, leb-suc-suc}
use Rattle.pair.specs.Rank.{rank}
use Rattle.pair.specs.Rising.{rising_from, last}
use Rattle.block.specs.Block.{zeros, pairs_from, formed_from, formed}
use Rattle.block.specs.code.Scan.{reads_on}

-- the words up to i are read: all of them rise exactly where ok says so of these and the rest rises from p
pub record Rises (s : List ℕ) (ok : Bool) (p i : ℕ) : Type 0 where
  pub within : i ≤ length s
  pub rest : rising_from 0 s ≡ (ok && rising_from p (drop i s))

pub rises_start : (s : List ℕ) → Rises s true 0 0
rises_start s = record { within = zero-le; rest = refl }

pub rises_turn : {s : List ℕ} {ok : Bool} {p i : ℕ} → Rises s ok p i → i < length s → Rises s (ok && ltb p (get_or s i 0)) (get_or s i 0) (i + 1)
unfolding rising_from
rises_turn {s} {ok} {p} {i} r h =
    record {
      within = omega arith;
      rest = r.rest ∙ rw (add-one, drop-cons s i 0) (sym (and_assoc ok (ltb p (get_or s i 0)) _));
    }

pub rises_end : {s : List ℕ} {ok : Bool} {p i : ℕ} → Rises s ok p i → length s ≤ i → ok ≡ rising_from 0 s
unfolding rising_from
rises_end {s} {ok} {p} {i} r h = sym (r.rest ∙ rw (drop_of_length-le s h) (and-true ok))

-- the same for words that are all 0
pub record Zeros (s : List ℕ) (ok : Bool) (i : ℕ) : Type 0 where
  pub within : i ≤ length s
  pub rest : zeros s ≡ (ok && zeros (drop i s))

pub zeros_turn : {s : List ℕ} {ok : Bool} {i : ℕ} → Zeros s ok i → i < length s → Zeros s (ok && eqb (get_or s i 0) 0) (i + 1)
unfolding zeros
zeros_turn {s} {ok} {i} r h =
    record { within = omega arith; rest = r.rest ∙ rw (add-one, drop-cons s i 0) (sym (and_assoc ok (eqb (get_or s i 0) 0) _)) }

pub zeros_end : {s : List ℕ} {ok : Bool} {i : ℕ} → Zeros s ok i → length s ≤ i → ok ≡ zeros s
unfolding zeros
zeros_end {s} {ok} {i} r h = sym (r.rest ∙ rw (drop_of_length-le s h) (and-true ok))

-- the state p of a reading that stands between two entries does not matter
pub formed_between : (ws : List ℕ) (t p : ℕ) → formed_from ws t 0 p ≡ formed_from ws t 0 0
unfolding formed_from
formed_between [] t p = refl
formed_between (a ∷ []) t p = refl
formed_between (a ∷ b ∷ []) t p = refl
formed_between (a ∷ b ∷ q ∷ ws) t p = refl

swapped : (a b c d : Bool) → (a && ((b && c) && d)) ≡ ((b && (a && c)) && d)
swapped true b c d = refl
swapped false true c d = refl
swapped false false c d = refl

-- n positions of the term t, and what follows them
pub formed_run : (ws : List ℕ) (n t p : ℕ) → formed_from ws t n p ≡ ((leb n (length ws) && rising_from p (take n ws)) && formed_from (drop n ws) t 0 0)
unfolding formed_from rising_from
formed_run ws zero t p = rw leb-zero (formed_between ws t p)
formed_run [] (suc n) t p = rw leb-suc-zero
formed_run (q ∷ ws) (suc n) t p = rw (formed_run ws n t q, leb-suc-suc) (swapped (ltb p q) (leb n (length ws)) (rising_from q (take n ws)) (formed_from (drop n ws) t 0 0))

pub last_run : (ws : List ℕ) (n t k : ℕ) → n < length ws → last k (pairs_from ws t (suc n)) ≡ last (rank t (get_or ws n 0)) (pairs_from (drop (suc n) ws) t 0)
unfolding pairs_from last
last_run [] n t k h = absurd (omega arith)
last_run (q ∷ ws) zero t k h = refl
last_run (q ∷ ws) (suc n) t k h = last_run ws n t (rank t q) (omega arith)

stops_zero : (a b q : ℕ) (ws : List ℕ) → reads_on (a ∷ b ∷ q ∷ ws) ≡ false → eqb a 0 ≡ true
unfolding reads_on
stops_zero a b q ws e =
    let f : leb (length (a ∷ b ∷ q ∷ ws)) 2 ≡ false = lt-leb (length (a ∷ b ∷ q ∷ ws)) 2 (omega arith) in
    let g : not (leb (length (a ∷ b ∷ q ∷ ws)) 2 || eqb a 0) ≡ false = e in
    not-false (eqb a 0) (rw f at g)

-- where no entry is to be read, the rest holds no pair
pub pairs_stops : (ws : List ℕ) (t : ℕ) → reads_on ws ≡ false → pairs_from ws t 0 ≡ []
unfolding pairs_from reads_on
pairs_stops [] t e = refl
pairs_stops (a ∷ []) t e = refl
pairs_stops (a ∷ b ∷ []) t e = refl
pairs_stops (a ∷ b ∷ q ∷ ws) t e = simp (stops_zero a b q ws e)

-- where one is, three words remain, and the first is not 0
pub reads_on_law : (ws : List ℕ) → reads_on ws ≡ true → (2 < length ws) × (eqb (get_or ws 0 0) 0 ≡ false)
unfolding reads_on
reads_on_law ws e = go (leb (length ws) 2) (eqb (get_or ws 0 0) 0) refl refl e
  where
    go : (x y : Bool) → leb (length ws) 2 ≡ x → eqb (get_or ws 0 0) 0 ≡ y → not (x || y) ≡ true → (2 < length ws) × (eqb (get_or ws 0 0) 0 ≡ false)
    go true y f g h = absurd (false≢true h)
    go false true f g h = absurd (false≢true h)
    go false false f g h = (leb-false _ _ f, g)

none : (x y : Bool) → ((x && (y && true)) && not (x && true)) ≡ false
none true y = and-false (y && true)
none false y = refl

-- words that start with no entry are no live block
pub unformed_start : (ws : List ℕ) → reads_on ws ≡ false → formed ws ≡ false
unfolding formed formed_from zeros
unformed_start [] e = refl
unformed_start (a ∷ []) e = and-not_self (eqb a 0 && true)
unformed_start (a ∷ b ∷ []) e = none (eqb a 0) (eqb b 0)
unformed_start (a ∷ b ∷ q ∷ ws) e = simp (stops_zero a b q ws e, and-false)

-- the test at i
pub reads_on_short : (ws : List ℕ) (i : ℕ) → length ws ≤ i + 2 → false ≡ reads_on (drop i ws)
unfolding reads_on
reads_on_short ws i h = simp (length-drop, le-leb (length ws - i) 2 (omega arith))

pub reads_on_at : (ws : List ℕ) (i : ℕ) → i + 2 < length ws → not (eqb (get_or ws i 0) 0) ≡ reads_on (drop i ws)
unfolding reads_on
reads_on_at ws i h = simp (length-drop, lt-leb (length ws - i) 2 (omega arith), get_or-drop, add-zero)

-- for the tactic at the function
pub ruleset rise = (rises_start, rises_turn, rises_end)
