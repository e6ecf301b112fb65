-- A block filled with one pair after the other: its words, what it costs, and when the next pair has no room.
use Prim.Native.Nat.{ℕ, suc, ◌+◌, ◌-◌, ◌≤◌, ◌<◌}
use native.Mathlib.Omega.{arith}
use native.Mathlib.Nat.{add-zero}
use mathlib.Core.Path.{◌≡◌, ◌∙◌}
use mathlib.Core.Bool.{Bool, true, false}
use mathlib.Core.Logic.{◌≢◌}
use mathlib.Core.List.{List, [], ◌∷◌, ◌++◌, append_assoc, append-nil}
use lib.ListN.{length, length-append}
use lib.Seq.{take-append_seam}
use borrow.Author.Tests.{le-leb, lt-leb, lt-ltb, le-ltb, eq-eqb, ne_eqb}
use Rattle.pair.specs.Rank.{term, position}
use Rattle.pair.specs.Rising.{last}
use Rattle.block.specs.Block.{leading, packed_after, packed, cost, fitting, due, goes_on}
use Rattle.block.proofs.Size.{size}

-- The pairs ks are packed, the last of them of the term t: its entry stands after the words pre and has the positions ps, and further pairs
-- go on from there.
pub record Opened (ks : List ℕ) (t : ℕ) (pre ps : List ℕ) : Type 0 where
  pub whole : (js : List ℕ) → packed (ks ++ js) ≡ pre ++ (t ∷ (length ps + leading t js) ∷ (ps ++ packed_after t js))

pub opened_first : (x : ℕ) → 0 < term x → Opened (x ∷ []) (term x) [] (position x ∷ [])
unfolding packed_after
opened_first x h = record { whole = λ js. go js }
  where
    go : (js : List ℕ) → packed_after 0 (x ∷ js) ≡ term x ∷ (1 + leading (term x) js) ∷ position x ∷ packed_after (term x) js
    go js =
        let e : 1 + leading (term x) js ≡ suc (leading (term x) js) = omega arith in
        rw (ne_eqb (term x) 0 (omega arith), e)

pub opened_same : {ks : List ℕ} {t : ℕ} {pre ps : List ℕ} → Opened ks t pre ps → (x : ℕ) → term x ≡ t → Opened (ks ++ x ∷ []) t pre (ps ++ position x ∷ [])
unfolding packed_after leading
opened_same {ks} {t} {pre} {ps} o x h = record { whole = go }
  where
    go : (js : List ℕ) → packed ((ks ++ x ∷ []) ++ js)
        ≡ pre ++ (t ∷ (length (ps ++ position x ∷ []) + leading t js) ∷ ((ps ++ position x ∷ []) ++ packed_after t js))
    go js =
        let e : length ps + suc (leading t js) ≡ length ps + 1 + leading t js = omega arith in
        rw (append_assoc ks, o.whole (x ∷ js), eq-eqb (term x) t h, length-append ps, append_assoc ps, e)

pub opened_other : {ks : List ℕ} {t : ℕ} {pre ps : List ℕ} → Opened ks t pre ps → (x : ℕ) → term x ≢ t →
    Opened (ks ++ x ∷ []) (term x) (pre ++ (t ∷ length ps ∷ ps)) (position x ∷ [])
unfolding packed_after leading
opened_other {ks} {t} {pre} {ps} o x h = record { whole = go }
  where
    go : (js : List ℕ) → packed ((ks ++ x ∷ []) ++ js)
        ≡ (pre ++ (t ∷ length ps ∷ ps)) ++ (term x ∷ (1 + leading (term x) js) ∷ position x ∷ packed_after (term x) js)
    go js =
        let e : 1 + leading (term x) js ≡ suc (leading (term x) js) = omega arith in
        rw (append_assoc ks, o.whole (x ∷ js), ne_eqb (term x) t h, append_assoc pre, e, add-zero)

-- further pairs cost what they cost after the last one
pub size_join : (d : ℕ) (ks js : List ℕ) → size (term d) (ks ++ js) ≡ size (term d) ks + size (term (last d ks)) js
unfolding size last
size_join d [] js = omega arith
size_join d (k ∷ ks) js = omega (arith, size_join k ks js)

pub size_snoc : (d : ℕ) (ks : List ℕ) (x : ℕ) → size (term d) (ks ++ x ∷ []) ≡ size (term d) ks + cost (term (last d ks)) x
unfolding size
size_snoc d ks x = omega (arith, size_join d ks (x ∷ []))

-- pairs that have room all fit, and then as many of the rest as fit after them
pub fitting_split : (room d : ℕ) (ks rest : List ℕ) → size (term d) ks ≤ room →
    fitting room (term d) (ks ++ rest) ≡ length ks + fitting (room - size (term d) ks) (term (last d ks)) rest
unfolding size last fitting
fitting_split room d [] rest h = let e : room - 0 ≡ room = omega arith in rw e (omega arith)
fitting_split room d (k ∷ ks) rest h =
    let e : room - cost (term d) k - size (term k) ks ≡ room - (cost (term d) k + size (term k) ks) = omega arith in
    rw (le-leb (cost (term d) k) room (omega arith), fitting_split (room - cost (term d) k) k ks rest (omega arith), e) (omega arith)

-- the pairs ks are due: nothing stands after them, or the next pair has no room
pub record Filled (b : ℕ) (r ks : List ℕ) (on : Bool) : Type 0 where
  pub due : due b r ≡ ks
  pub goes_on : goes_on b r ≡ on

pub fitting_end : (b : ℕ) (ks : List ℕ) → size 0 ks ≤ b → fitting b 0 (ks ++ []) ≡ length ks
unfolding fitting
fitting_end b ks h = fitting_split b 0 ks [] h ∙ add-zero (length ks)

pub filled_end : (b : ℕ) (ks : List ℕ) → size 0 ks ≤ b → Filled b (ks ++ []) ks false
unfolding due goes_on
filled_end b ks h =
    let e = fitting_end b ks h in
    record {
      due = rw e (take-append_seam ks []);
      goes_on = rw (e, append-nil) (le-ltb (length ks) (length ks) (omega arith));
    }

pub fitting_full : (b : ℕ) (ks : List ℕ) (x : ℕ) (rest : List ℕ) → size 0 ks ≤ b → b - size 0 ks < cost (term (last 0 ks)) x → fitting b 0 (ks ++ x ∷ rest) ≡ length ks
unfolding fitting
fitting_full b ks x rest h l = fitting_split b 0 ks (x ∷ rest) h ∙ rw (lt-leb (cost (term (last 0 ks)) x) (b - size 0 ks) l) (add-zero (length ks))

pub filled_full : (b : ℕ) (ks : List ℕ) (x : ℕ) (rest : List ℕ) → size 0 ks ≤ b → b - size 0 ks < cost (term (last 0 ks)) x → Filled b (ks ++ x ∷ rest) ks true
unfolding due goes_on
filled_full b ks x rest h l =
    let e = fitting_full b ks x rest h l in
    record {
      due = rw e (take-append_seam ks (x ∷ rest));
      goes_on = rw (e, length-append ks) (lt-ltb (length ks) (length ks + suc (length rest)) (omega arith));
    }
