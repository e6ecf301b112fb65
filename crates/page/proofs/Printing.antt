-- What a page answers, refused or not.
use Prim.Native.Nat.{ℕ, zero, suc, ◌≤◌, ◌<◌}
use native.Mathlib.Omega.{arith}
use mathlib.Core.Path.{◌≡◌, refl, sym}
use mathlib.Core.Bool.{Bool, true, false, cond}
use mathlib.Core.List.{List, [], ◌∷◌, map}
use borrow.Author.Tests.{eq-eqb, eqb-true, ltb-false}
use lib.ListN.{length, get_or}
use lib.Seq.{sets}
use lib.Dec.{eqb}
use Rattle.pair.specs.Rank.{rank, position, word_limit, Words}
use Rattle.pair.specs.Rising.{within}
use Rattle.pair.proofs.FirstOf.{passed, handed_on}
use Rattle.card.specs.Layout.{live}
use Rattle.found.specs.Found.{found, question_number}
use Rattle.reader.specs.Reader.{all_yielded}
use Rattle.page.specs.Page.{line_count, page, page_number, printed}

-- what is found are words
positions_words : (xs : List ℕ) → Words (map position xs)
unfolding Words
positions_words [] i = omega arith
positions_words (x ∷ xs) zero = omega arith
positions_words (x ∷ xs) (suc i) = positions_words xs i

pub found_words : (c : List ℕ) (t a z : ℕ) → Words (found c t a z)
unfolding found
found_words c t a z = positions_words (within (rank t a) (rank t z) (live c))

-- all that is yielded are words
pub yielded_words : (c : List ℕ) (t a z : ℕ) → Words (all_yielded c t a z)
unfolding all_yielded Words
yielded_words c t a z = go (eqb (question_number c t a z) 0)
  where
    go : (s : Bool) (i : ℕ) → get_or (cond s (found c t a z) []) i 0 < word_limit
    go true i = found_words c t a z i
    go false i = omega arith

module _ (c : List ℕ) (t a z : ℕ) (memory : List ℕ) where
  pub printed_done :
      page_number c t a z memory ≡ 0 →
      printed c t a z memory ≡ record { number = 0; lines = line_count (found c t a z); memory = sets memory 0 (page t (found c t a z)) }
  unfolding printed
  printed_done e = rw (eq-eqb (page_number c t a z memory) 0 e)

  pub printed_refused :
      eqb (page_number c t a z memory) 0 ≡ false →
      printed c t a z memory ≡ record { number = page_number c t a z memory; lines = 0; memory = memory }
  unfolding printed
  printed_refused e = rw e

  pub printed_number : (printed c t a z memory).number ≡ page_number c t a z memory
  printed_number = go (eqb (page_number c t a z memory) 0) refl
    where
      go : (s : Bool) → eqb (page_number c t a z memory) 0 ≡ s → (printed c t a z memory).number ≡ page_number c t a z memory
      go true e = let z = eqb-true (page_number c t a z memory) 0 e in rw (printed_done z) (sym z)
      go false e = rw (printed_refused e)

  -- the memory has room for a page that is not refused
  pub page_room : page_number c t a z memory ≡ 0 → length (page t (found c t a z)) ≤ length memory
  unfolding page_number
  page_room e =
      let h = handed_on (question_number c t a z) _ e in
      ltb-false (length memory) (length (page t (found c t a z))) (passed _ 10 [] h.1).0
