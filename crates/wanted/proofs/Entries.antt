-- An entry of a block at a place: what well-formed words say of it.
use Prim.Native.Nat.{ℕ, ◌+◌, ◌-◌, ◌≤◌, ◌<◌}
use native.Mathlib.Nat.{add-zero}
use native.Mathlib.Omega.{arith}
use mathlib.Core.Path.{◌≡◌, refl, sym, ◌∙◌}
use mathlib.Core.Bool.{Bool, true, false, ◌&&◌, and_assoc, and-false}
use mathlib.Core.List.{List, [], ◌∷◌}
use borrow.Author.Tests.{ltb-true, leb-true}
use lib.ListN.{length, take, drop, get_or, length-drop}
use lib.Seq.{get_or-drop, drop-drop}
use lib.Dec.{ltb, leb}
use Rattle.pair.specs.Rising.{rising_from}
use Rattle.pair.proofs.Tests.{and_left, and_right}
use Rattle.block.specs.Block.{formed_from}
use Rattle.block.specs.code.Scan.{reads_on}
use Rattle.block.proofs.Walk.{formed_run, reads_on_law}
use Rattle.block.proofs.Scanning.{positions_at}

regroup : (a b c d e : Bool) → ((a && b) && ((c && d) && e)) ≡ ((b && c) && ((a && d) && e))
regroup true true c d e = and_assoc c d e
regroup true false c d e = refl
regroup false true c d e = sym (and-false c)
regroup false false c d e = refl

-- an entry: its term rises, it has a position, its positions are there and rise, and the rest goes on from it
formed_entry :
    (l : List ℕ) (t p : ℕ) → reads_on l ≡ true →
    formed_from l t 0 p
    ≡ ((ltb 0 (get_or l 1 0) && leb (get_or l 1 0) (length l - 2))
    && ((ltb t (get_or l 0 0) && rising_from 0 (take (get_or l 1 0) (drop 2 l))) && formed_from (drop (get_or l 1 0) (drop 2 l)) (get_or l 0 0) 0 0))
unfolding formed_from
formed_entry [] t p e = absurd (omega (arith, (reads_on_law [] e).0))
formed_entry (a ∷ []) t p e = absurd (omega (arith, (reads_on_law (a ∷ []) e).0))
formed_entry (a ∷ b ∷ []) t p e = absurd (omega (arith, (reads_on_law (a ∷ b ∷ []) e).0))
formed_entry (a ∷ b ∷ q ∷ ws) t p e =
    let f : length (a ∷ b ∷ q ∷ ws) - 2 ≡ length (q ∷ ws) = omega arith in
    rw ((reads_on_law (a ∷ b ∷ q ∷ ws) e).1, formed_run (q ∷ ws) b a 0, f)
    (regroup (ltb t a) (ltb 0 b) (leb b (length (q ∷ ws))) (rising_from 0 (take b (q ∷ ws))) (formed_from (drop b (q ∷ ws)) a 0 0))

-- what the loop tests of the entry at i: it has a position, and its positions are there
abbrev pub fits : List ℕ → ℕ → Bool
fits ws i = ltb 0 (get_or ws (i + 1) 0) && leb (get_or ws (i + 1) 0) (length ws - (i + 2))

pub entry_room : (ws : List ℕ) (i : ℕ) → reads_on (drop i ws) ≡ true → i + 2 < length ws
entry_room ws i e = omega (arith, simp length-drop at (reads_on_law (drop i ws) e).0)

pub entry_fits : (ws : List ℕ) (i : ℕ) → fits ws i ≡ true → (0 < get_or ws (i + 1) 0) × (get_or ws (i + 1) 0 ≤ length ws - (i + 2))
entry_fits ws i e =
    let n = get_or ws (i + 1) 0 in
    let room = leb n (length ws - (i + 2)) in
    (ltb-true _ _ (and_left (ltb 0 n) room e), leb-true _ _ (and_right (ltb 0 n) room e))

pub formed_at :
    (ws : List ℕ) (i t : ℕ) → reads_on (drop i ws) ≡ true →
    formed_from (drop i ws) t 0 0
    ≡ (fits ws i && ((ltb t (get_or ws i 0) && rising_from 0 (positions_at ws i)) && formed_from (drop (i + 2 + get_or ws (i + 1) 0) ws) (get_or ws i 0) 0 0))
formed_at ws i t e =
    let g : length ws - i - 2 ≡ length ws - (i + 2) = omega arith in
    let h : i + 2 + get_or ws (i + 1) 0 - (i + 2) ≡ get_or ws (i + 1) 0 = omega arith in
    formed_entry (drop i ws) t 0 e ∙ simp (get_or-drop, drop-drop, length-drop, add-zero, g, h)
