-- The wanted positions of a walk moved to answer words, run by run.
use Prim.Native.Nat.{ℕ, ◌+◌, ◌-◌, ◌≤◌}
use native.Mathlib.Omega.{arith}
use mathlib.Core.Path.{◌≡◌, refl, sym, ap, ◌∙◌}
use mathlib.Core.List.{List, ◌++◌, append_assoc}
use borrow.Rule.Slice.PartMut.{put_mid}
use lib.ListN.{length, take, drop}
use lib.Seq.{sets, sets-eq, drop-drop}
use Rattle.pair.proofs.Lists.{length_part, sets_behind}
use Rattle.wanted.specs.declared.Part.{Part}
use Rattle.found.specs.declared.walk.Stretch.{Stretch}
use Rattle.found.specs.code.Walk.{PlacePart, ahead_of, Ready, FirstPlace}
use Rattle.found.proofs.Walking.{Taking, taking_start, taking_turn, taking_most, taking_end}

-- a part of a slice is written whole
part_written : (l vs : List ℕ) (a e : ℕ) → a + length vs ≡ e → e ≤ length l → put_mid a (e - a) l vs ≡ sets l a vs
part_written l vs a e n h =
    let k : e - a ≡ length vs = omega arith in
    sym (sets-eq vs l a (omega arith) ∙ append_assoc (take a l) vs (drop (a + length vs) l)
    ∙ rw k (ap (λ d. take a l ++ (vs ++ d)) (sym (drop-drop (length vs) a l))))

-- and with a part of another slice
pub part_copied :
    (l c : List ℕ) {ys : List ℕ} (a start n : ℕ) → start + n ≤ length c → a + n ≤ length l → ys ≡ take (start + n - start) (drop start c) →
    put_mid a (a + n - a) l ys ≡ sets l a (take n (drop start c))
part_copied l c {ys} a start n inside room e =
    let m : start + n - start ≡ n = omega arith in
    let same : ys ≡ take n (drop start c) = rw m at e in
    rw same (part_written l (take n (drop start c)) a (a + n) (ap (λ k. a + k) (length_part c start n inside)) room)

-- the positions that are left behind are moved to the words from at on
pub record Moving (c l : List ℕ) (t z : ℕ) (s now : Stretch) (at : ℕ) (answer : List ℕ) (next : ℕ) : Type 0 where
  pub count : ℕ
  pub taking : Taking c t z s now count
  pub word : next ≡ at + count
  pub same : answer ≡ sets l at taking.done

pub moving_start : {c : List ℕ} (l : List ℕ) {t z : ℕ} {s : Stretch} (at : ℕ) → Ready c s → Moving c l t z s s at l at
unfolding taking_start
moving_start l at r = record { count = 0; taking = taking_start r; word = omega arith; same = refl }

module _ {c l answer : List ℕ} {t z : ℕ} {s now rest : Stretch} {at next p : ℕ} {x : Part} (g : Moving c l t z s now at answer next) (h : FirstPlace c now p rest) (y : PlacePart c p t rest.after z x) where
  pub moving_room : at + length (ahead_of c t z s) ≤ length l → next + x.len ≤ length l
  moving_room f = omega (arith, g.word, taking_most g.taking h y)

  pub moving_turn : {after : List ℕ} → after ≡ sets answer next (take x.len (drop x.start c)) → Moving c l t z s rest at after (next + x.len)
  unfolding taking_turn
  moving_turn e =
      record {
        count = g.count + x.len;
        taking = taking_turn g.taking h y;
        word = omega (arith, g.word);
        same = sets_behind l at g.taking.done (take x.len (drop x.start c)) g.same (sym g.taking.count) (rw g.word at e);
      }

pub moving_end :
    {c l answer : List ℕ} {t z : ℕ} {s now : Stretch} {at next : ℕ} → (g : Moving c l t z s now at answer next) → now.blocks ≡ 0 →
    (next ≡ at + length (ahead_of c t z s)) × (answer ≡ sets l at (ahead_of c t z s))
moving_end {c} {l} {t = t} {z} {s} {at = at} g e =
    let all : ahead_of c t z s ≡ g.taking.done = taking_end g.taking e in
    (rw (all, ← g.taking.count) g.word, rw all g.same)
