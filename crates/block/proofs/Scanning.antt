-- The scan's loop: what its state says of the block, turn by turn, and what it answers.
use Prim.Native.Nat.{ℕ, zero, suc, ◌+◌, ◌-◌, ◌≤◌, ◌<◌, zero-le}
use native.Mathlib.Nat.{add-zero}
use native.Mathlib.Omega.{arith}
use mathlib.Core.Path.{◌≡◌, refl, sym, ◌∙◌}
use mathlib.Core.Bool.{Bool, true, false, ◌&&◌, not, and_assoc, and-false}
use mathlib.Core.List.{List, [], ◌∷◌}
use Rattle.std.proofs.Common.{Some, None}
use borrow.Author.Tests.{ltb-true, leb-true, lt-ltb, le-leb, ne_eqb}
use lib.ListN.{length, take, drop, get_or, length-drop}
use lib.Seq.{get_or-drop, drop-drop, take_all}
use lib.Dec.{ltb, leb, eqb}
use Rattle.pair.specs.Rank.{rank}
use Rattle.pair.specs.Rising.{rising_from, last}
use Rattle.pair.proofs.Tests.{and_left, and_right}
use Rattle.block.specs.Block.{zeros, pairs_from, pairs, formed_from, formed}
use Rattle.block.specs.code.Scan.{entry_stands, scanned}
use Rattle.block.proofs.Walk.{formed_run, last_run}

-- the words up to i are read, the last pair having the term t and the position p: they are well formed as a whole exactly where ok says so of these and the rest is from there
pub record Reading (ws : List ℕ) (ok : Bool) (i t p : ℕ) : Type 0 where
  pub within : i ≤ length ws
  pub formed : formed_from ws 0 0 0 ≡ (ok && formed_from (drop i ws) t 0 0)
  pub last : last 0 (pairs_from ws 0 0) ≡ last (rank t p) (pairs_from (drop i ws) t 0)

pub reading_start : (ws : List ℕ) → Reading ws true 0 0 0
reading_start ws = record { within = zero-le; formed = refl; last = refl }

-- what it says that an entry stands at i
pub record Standing (ws : List ℕ) (i t : ℕ) : Type 0 where
  pub room : i + 2 < length ws
  pub term : t < get_or ws i 0
  pub some : 0 < get_or ws (i + 1) 0
  pub there : get_or ws (i + 1) 0 ≤ length ws - (i + 2)

pub standing : (ws : List ℕ) (i t : ℕ) → entry_stands t (drop i ws) ≡ true → Standing ws i t
unfolding entry_stands
standing ws i t e =
    let l = drop i ws in
    let n = get_or l 1 0 in
    let ab = ltb 2 (length l) && ltb t (get_or l 0 0) in
    let cd = ltb 0 n && leb n (length l - 2) in
    let f : ab ≡ true = and_left ab cd e in
    let g : cd ≡ true = and_right ab cd e in
    let room : 2 < length l = ltb-true _ _ (and_left (ltb 2 (length l)) (ltb t (get_or l 0 0)) f) in
    let term : t < get_or l 0 0 = ltb-true _ _ (and_right (ltb 2 (length l)) (ltb t (get_or l 0 0)) f) in
    let some : 0 < n = ltb-true _ _ (and_left (ltb 0 n) (leb n (length l - 2)) g) in
    let there : n ≤ length l - 2 = leb-true _ _ (and_right (ltb 0 n) (leb n (length l - 2)) g) in
    record {
      room = omega (arith, simp length-drop at room);
      term = simp (get_or-drop, add-zero) at term;
      some = simp get_or-drop at some;
      there = omega (arith, simp (get_or-drop, length-drop) at there);
    }

-- an entry that stands: its positions rise, and the rest goes on from it
formed_entry :
    (l : List ℕ) (t : ℕ) → Standing l 0 t →
    formed_from l t 0 0 ≡ (rising_from 0 (take (get_or l 1 0) (drop 2 l)) && formed_from (drop (get_or l 1 0) (drop 2 l)) (get_or l 0 0) 0 0)
unfolding formed_from
formed_entry [] t s = absurd (omega arith)
formed_entry (a ∷ []) t s = absurd (omega arith)
formed_entry (a ∷ b ∷ []) t s = absurd (omega arith)
formed_entry (a ∷ b ∷ q ∷ ws) t s =
    rw (ne_eqb a 0 (λ e. omega arith), formed_run (q ∷ ws) b a 0, lt-ltb t a s.term, lt-ltb 0 b s.some, le-leb b (length (q ∷ ws)) (omega arith))

none : (x y z r s : Bool) → (x && (y && z)) ≡ false → ((x && y) && ((z && r) && s)) ≡ false
none true true z r s e = rw e
none true false z r s e = refl
none false y z r s e = refl

stands_open : (a b q : ℕ) (ws : List ℕ) (t : ℕ) → entry_stands t (a ∷ b ∷ q ∷ ws) ≡ (ltb t a && (ltb 0 b && leb b (length (q ∷ ws))))
unfolding entry_stands
stands_open a b q ws t =
    let r : length (a ∷ b ∷ q ∷ ws) - 2 ≡ length (q ∷ ws) = omega arith in
    rw (lt-ltb 2 (length (a ∷ b ∷ q ∷ ws)) (omega arith), r)

-- where none stands, the rest must be 0
formed_rest : (l : List ℕ) (t : ℕ) → entry_stands t l ≡ false → formed_from l t 0 0 ≡ zeros l
unfolding formed_from zeros
formed_rest [] t e = refl
formed_rest (a ∷ []) t e = refl
formed_rest (a ∷ b ∷ []) t e = refl
formed_rest (a ∷ b ∷ q ∷ ws) t e = go (eqb a 0) refl
  where
    go : (z : Bool) → eqb a 0 ≡ z → formed_from (a ∷ b ∷ q ∷ ws) t 0 0 ≡ zeros (a ∷ b ∷ q ∷ ws)
    go true f = rw f
    go false f = rw (f, formed_run (q ∷ ws) b a 0) (none (ltb t a) (ltb 0 b) (leb b (length (q ∷ ws))) _ _ (sym (stands_open a b q ws t) ∙ e))

pairs_rest : (l : List ℕ) (t : ℕ) → zeros l ≡ true → pairs_from l t 0 ≡ []
unfolding pairs_from zeros
pairs_rest [] t e = refl
pairs_rest (a ∷ []) t e = refl
pairs_rest (a ∷ b ∷ []) t e = refl
pairs_rest (a ∷ b ∷ q ∷ ws) t e = rw (and_left (eqb a 0) (zeros (b ∷ q ∷ ws)) e)

last_entry :
    (l : List ℕ) (t k n : ℕ) → Standing l 0 t → get_or l 1 0 ≡ suc n →
    last k (pairs_from l t 0) ≡ last (rank (get_or l 0 0) (get_or (drop 2 l) n 0)) (pairs_from (drop (suc n) (drop 2 l)) (get_or l 0 0) 0)
unfolding pairs_from
last_entry [] t k n s c = absurd (omega arith)
last_entry (a ∷ []) t k n s c = absurd (omega arith)
last_entry (a ∷ b ∷ []) t k n s c = absurd (omega arith)
last_entry (a ∷ b ∷ q ∷ ws) t k n s c = rw (ne_eqb a 0 (λ e. omega arith), c) (last_run (q ∷ ws) n a k (omega arith))

abbrev pub positions_at : List ℕ → ℕ → List ℕ
positions_at ws i = take (i + 2 + get_or ws (i + 1) 0 - (i + 2)) (drop (i + 2) ws)

formed_at :
    (ws : List ℕ) (i t : ℕ) → entry_stands t (drop i ws) ≡ true →
    formed_from (drop i ws) t 0 0 ≡ (rising_from 0 (positions_at ws i) && formed_from (drop (i + 2 + get_or ws (i + 1) 0) ws) (get_or ws i 0) 0 0)
formed_at ws i t e =
    let h : i + 2 + get_or ws (i + 1) 0 - (i + 2) ≡ get_or ws (i + 1) 0 = omega arith in
    formed_entry (drop i ws) t (standing (drop i ws) 0 t e) ∙ simp (get_or-drop, drop-drop, add-zero, h)

-- one turn: the entry at i is read
pub reading_turn :
    {ws : List ℕ} {ok : Bool} {i t p : ℕ} → Reading ws ok i t p → entry_stands t (drop i ws) ≡ true →
    (rises : Bool) → rises ≡ rising_from 0 (positions_at ws i) →
    Reading ws (ok && rises) (i + 2 + get_or ws (i + 1) 0) (get_or ws i 0) (get_or ws (i + 2 + get_or ws (i + 1) 0 - 1) 0)
reading_turn {ws} {ok} {i} {t} {p} r e rises g =
    go (get_or ws (i + 1) 0) refl (standing ws i t e)
    (r.formed ∙ rw (formed_at ws i t e, ← g) (sym (and_assoc ok rises _)))
  where
    go :
        (n : ℕ) → get_or ws (i + 1) 0 ≡ n → Standing ws i t →
        formed_from ws 0 0 0 ≡ ((ok && rises) && formed_from (drop (i + 2 + n) ws) (get_or ws i 0) 0 0) →
        Reading ws (ok && rises) (i + 2 + n) (get_or ws i 0) (get_or ws (i + 2 + n - 1) 0)
    go zero c h q = absurd (omega arith)
    go (suc n) c h q =
        let a : i + 2 + suc n - 1 ≡ i + 2 + n = omega arith in
        let l : get_or (drop i ws) 1 0 ≡ suc n = get_or-drop i ws 1 0 ∙ c in
        record {
          within = omega arith;
          formed = q;
          last =
              r.last
              ∙ last_entry (drop i ws) t (rank t p) n (standing (drop i ws) 0 t e) l
              ∙ simp (get_or-drop, drop-drop, add-zero, a);
        }

-- a block whose words are not well formed is no live block
unformed_from : (ws : List ℕ) → formed_from ws 0 0 0 ≡ false → formed ws ≡ false
unfolding formed
unformed_from ws e = rw e

rest_all : (ws : List ℕ) (i : ℕ) → take (length ws - i) (drop i ws) ≡ drop i ws
rest_all ws i = take_all (length ws - i) (drop i ws) (simp length-drop (omega arith))

stopped : {ws : List ℕ} {ok : Bool} {i t p : ℕ} → Reading ws ok i t p → entry_stands t (drop i ws) ≡ false → formed_from ws 0 0 0 ≡ (ok && zeros (take (length ws - i) (drop i ws)))
stopped {ws} {ok} {i} {t} r e = r.formed ∙ rw (formed_rest (drop i ws) t e, rest_all ws i)

pub reading_tail :
    {ws : List ℕ} {ok : Bool} {i t p : ℕ} → Reading ws ok i t p → entry_stands t (drop i ws) ≡ false →
    (ok && zeros (take (length ws - i) (drop i ws))) ≡ false → formed ws ≡ false
reading_tail {ws} r e f = unformed_from ws (stopped r e ∙ f)

pub unformed : (ws : List ℕ) → formed ws ≡ false → None ≡ scanned ws
unfolding scanned
unformed ws e = rw e

-- words that start with no entry are no live block
pub unformed_first : (ws : List ℕ) → entry_stands 0 ws ≡ false → formed ws ≡ false
unfolding formed zeros
unformed_first [] e = and-false (formed_from [] 0 0 0)
unformed_first (a ∷ ws) e = rw (formed_rest (a ∷ ws) 0 e) (go (eqb a 0) (zeros ws))
  where
    go : (x y : Bool) → ((x && y) && not (x && true)) ≡ false
    go true y = and-false y
    go false y = refl

first_pair_law : (ws : List ℕ) → Standing ws 0 0 → rank (get_or ws 0 0) (get_or ws 2 0) ≡ get_or (pairs ws) 0 0
unfolding pairs pairs_from
first_pair_law [] s = absurd (omega arith)
first_pair_law (a ∷ []) s = absurd (omega arith)
first_pair_law (a ∷ b ∷ []) s = absurd (omega arith)
first_pair_law (a ∷ zero ∷ q ∷ ws) s = absurd (omega arith)
first_pair_law (a ∷ suc b ∷ q ∷ ws) s = rw (ne_eqb a 0 (λ e. omega arith))

formed_start : (ws : List ℕ) → Standing ws 0 0 → formed_from ws 0 0 0 ≡ true → formed ws ≡ true
unfolding formed zeros
formed_start [] s f = absurd (omega arith)
formed_start (a ∷ ws) s f = rw (f, ne_eqb a 0 (λ e. omega arith))

pub reading_end :
    {ws : List ℕ} {ok : Bool} {i t p : ℕ} → Reading ws ok i t p → entry_stands 0 ws ≡ true → entry_stands t (drop i ws) ≡ false →
    (ok && zeros (take (length ws - i) (drop i ws))) ≡ true →
    Some (record { first = rank (get_or ws 0 0) (get_or ws 2 0); last = rank t p }) ≡ scanned ws
unfolding scanned pairs last
reading_end {ws} {ok} {i} {t} {p} r o e f =
    let s = standing ws 0 0 o in
    let g : formed_from ws 0 0 0 ≡ true = stopped r e ∙ f in
    let z : zeros (drop i ws) ≡ true = rw (rest_all ws i) at (and_right ok _ f) in
    let l : last 0 (pairs ws) ≡ rank t p = r.last ∙ rw (pairs_rest (drop i ws) t z) in
    rw (formed_start ws s g, ← first_pair_law ws s, l)

-- for the tactic at the function
pub ruleset scan = (reading_start, reading_turn, reading_tail, reading_end, standing, unformed, unformed_first)
