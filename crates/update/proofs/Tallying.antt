-- The blocks that what remains fills, counted one after the other: what a block more tells, and what becomes of the block in hand.
use Prim.Native.Nat.{ℕ, zero, suc, ◌+◌, ◌-◌, ◌≤◌, ◌<◌}
use native.Mathlib.Omega.{arith}
use mathlib.Core.Path.{◌≡◌, refl, sym, ap, subst, ◌∙◌}
use mathlib.Core.Bool.{Bool, true, false, cond, ◌&&◌}
use mathlib.Core.List.{List, ◌∷◌, ◌++◌, append_assoc}
use lib.ListN.{length, drop, get_or, length-append}
use lib.Seq.{drop-append_seam}
use lib.Dec.{ltb, leb, eqb}
use borrow.Author.Tests.{eqb-true, eqb-false, eq-eqb, ne_eqb, leb-true, leb-false, lt-ltb, le-ltb}
use Rattle.pair.specs.Rank.{rank, term, Proper, Words}
use Rattle.pair.specs.Rising.{Each, rising_from, last}
use Rattle.pair.proofs.Each.{each_second}
use Rattle.pair.proofs.Rising.{rising_last, rising_first, rising_second, last_append}
use Rattle.block.specs.Block.{cost, fitting}
use Rattle.block.proofs.Filling.{size_join, fitting_full, filled_full}
use Rattle.block.proofs.Size.{size, cost_low, size_packed}
use Rattle.card.specs.Layout.{block_size, place_count, start_of_old, length_of_old, length_of_new, old_places}
use Rattle.card.proofs.Circle.{around_drop}
use Rattle.update.specs.declared.forecast.Filling.{Filling}
use Rattle.update.specs.declared.forecast.Tally.{Tally}
use Rattle.update.specs.declared.old.Spent.{Spent}
use Rattle.update.specs.Forecast.{free_writes}
use Rattle.update.specs.Pass.{blocks}
use Rattle.update.specs.Step.{spent, next_boundary, freed}
use Rattle.update.specs.code.Merge.{run_at}
use Rattle.update.specs.code.Old.{Spends}
use Rattle.update.specs.code.Tally.{free_with, Closed, Told, Counts}
use Rattle.update.proofs.Blocks.{blocks_next}
use Rattle.update.proofs.Spent.{spent_passed}

-- the places that have no pair above one have none above a later one
pub spends_on : {c : List ℕ} {k j : ℕ} {s : Spent} → k ≤ j → Spends c k s → Spends c j s
spends_on {c} {k} {j} {s} h p =
    let f = p.freeing in
    let e = around_drop (place_count c) (start_of_old c) s.count (length_of_old c) f.within in
    record {
      freeing = record { within = f.within; sound = f.sound; counted = rw (← e) (spent_passed c k j (old_places c) s.count h (omega (arith, f.counted))) };
      known = p.known;
    }

-- a block more
module _ {c r : List ℕ} {t : Tally} {rest : List ℕ} (g : Told c r t rest) (low : 3 ≤ block_size c) (p : Each Proper rest) (some : 0 < length rest) where
  abbrev beyond : List ℕ
  beyond = drop (fitting (block_size c) 0 rest) rest

  pub told_more : (s : Tally) → s.blocks ≡ t.blocks + 1 → s.free ≡ free_with (place_count c) (length_of_new c) t (length_of_old c - freed c rest) → Told c r s beyond
  unfolding free_with
  told_more s b f = go (eqb t.free t.blocks) refl (leb (place_count c) (held + suc m)) refl f g.writes
    where
      n : ℕ
      n = blocks (block_size c) beyond

      next : blocks (block_size c) rest ≡ suc n
      next = blocks_next (block_size c) rest low some p

      W : ℕ
      W = free_writes c (blocks (block_size c) r) (length_of_new c) r

      held : ℕ
      held = length_of_old c - freed c rest

      m : ℕ
      m = length_of_new c + t.blocks

      writes : free_writes c (blocks (block_size c) rest) m rest ≡ cond (leb (place_count c) (held + suc m)) 0 (suc (free_writes c n (suc m) beyond))
      writes = rw next (unfold free_writes in refl)

      filled : blocks (block_size c) r ≡ s.blocks + n
      filled = omega (arith, g.filled, next, b)

      go : (e : Bool) → eqb t.free t.blocks ≡ e → (l : Bool) → leb (place_count c) (held + suc m) ≡ l →
          s.free ≡ cond (e && ltb (held + length_of_new c + (t.blocks + 1)) (place_count c)) (t.blocks + 1) t.free →
          W ≡ cond e (t.blocks + free_writes c (blocks (block_size c) rest) m rest) t.free → Told c r s beyond
      go true x true y a w =
          let f : s.free ≡ t.free = a ∙ rw (le-ltb (held + length_of_new c + (t.blocks + 1)) (place_count c) (omega (arith, leb-true (place_count c) (held + suc m) y))) in
          let z : t.free ≡ t.blocks = eqb-true t.free t.blocks x in
          let v : W ≡ t.blocks + 0 = w ∙ rw (writes, y) in
          record { few = omega arith; filled = filled; writes = rw (ne_eqb s.free s.blocks (λ q. omega arith)) (omega arith) }
      go true x false y a w =
          let f : s.free ≡ t.blocks + 1 = a ∙ rw (lt-ltb (held + length_of_new c + (t.blocks + 1)) (place_count c) (omega (arith, leb-false (place_count c) (held + suc m) y))) in
          let v : W ≡ t.blocks + suc (free_writes c n (suc m) beyond) = w ∙ rw (writes, y) in
          let i : length_of_new c + s.blocks ≡ suc m = omega arith in
          record { few = omega arith; filled = filled; writes = rw (eq-eqb s.free s.blocks (omega arith), i) (omega arith) }
      go false x l y a w =
          let z : t.free < t.blocks = omega (arith, g.few, eqb-false t.free t.blocks x) in
          record { few = omega arith; filled = filled; writes = rw (ne_eqb s.free s.blocks (λ q. omega arith)) (omega arith) }

-- a block that is full: the next pair has no room
pub told_full : {c r : List ℕ} {t s : Tally} (ks : List ℕ) (y : ℕ) (js : List ℕ) → Told c r t (ks ++ y ∷ js) → 3 ≤ block_size c → Each Proper (ks ++ y ∷ js) →
    size 0 ks ≤ block_size c → block_size c - size 0 ks < cost (term (last 0 ks)) y → Closed c t (last 0 ks) s → Told c r s (y ∷ js)
told_full {c} {r} {t} {s} ks y js g low p h l d =
    let full = filled_full (block_size c) ks y js h l in
    let e : freed c (ks ++ y ∷ js) ≡ spent c (last 0 ks) (old_places c) = unfold freed next_boundary in rw (full.goes_on, full.due) in
    let z : drop (fitting (block_size c) 0 (ks ++ y ∷ js)) (ks ++ y ∷ js) ≡ y ∷ js = rw (fitting_full (block_size c) ks y js h l) (drop-append_seam ks (y ∷ js)) in
    rw (← z) (told_more g low p (omega (arith, length-append ks (y ∷ js))) s d.blocks (rw e d.free))

-- the pairs of a run cost a word each, and a run is two
size_run : (c : List ℕ) → Words c → (t at n : ℕ) → size t (run_at c t at n) ≡ n
unfolding size run_at Words
size_run c w t at zero = refl
size_run c w t at (suc n) =
    let word : get_or c at 0 < 4294967296 = w at in
    let e : term (rank t (get_or c at 0)) ≡ t = omega arith in
    rw (e, eq-eqb t t refl) (omega (arith, size_run c w t (at + 1) n))

run_split : (c : List ℕ) (t at i n : ℕ) → i ≤ n → run_at c t at n ≡ run_at c t at i ++ run_at c t (at + i) (n - i)
unfolding run_at
run_split c t at zero n h = let e : at + 0 ≡ at = omega arith in let z : n - 0 ≡ n = omega arith in rw (e, z)
run_split c t at (suc i) zero h = absurd (omega arith)
run_split c t at (suc i) (suc n) h =
    let e : at + 1 + i ≡ at + suc i = omega arith in
    let z : suc n - suc i ≡ n - i = omega arith in
    ap (λ l. rank t (get_or c at 0) ∷ l) (run_split c t (at + 1) i n (omega arith) ∙ rw (e, z))

-- a run that rises ends the higher the longer it is
pub run_further : (c : List ℕ) (x t at i n : ℕ) → i ≤ n → rising_from x (run_at c t at n) ≡ true →
    (x ≤ last x (run_at c t at i)) × (last x (run_at c t at i) ≤ last x (run_at c t at n))
run_further c x t at i n h r =
    let first = run_at c t at i in
    let others = run_at c t (at + i) (n - i) in
    let e = run_split c t at i n h in
    let q : rising_from x (first ++ others) ≡ true = rw e at r in (
      rising_last first x (rising_first first others x q),
      rw (e, last_append first others x) (rising_last others (last x first) (rising_second first others x q)),
    )

run_first : (c : List ℕ) (t at n m : ℕ) → n ≡ suc m → run_at c t at n ≡ rank t (get_or c at 0) ∷ run_at c t (at + 1) m
unfolding run_at
run_first c t at n m e = rw e

module _ (c whole rest : List ℕ) (f : Filling) (x at more : ℕ) (w : Words c) (g : Counts c whole f (x ∷ run_at c (term x) at more ++ rest)) where
  abbrev t : ℕ
  t = term x

  abbrev run : List ℕ
  run = run_at c t at more

  used : size 0 g.ks ≡ f.used
  used = sym (size_packed 0 g.ks) ∙ g.sized

  -- the pair and i behind it take their words in the block in hand
  taken : (i : ℕ) → size 0 (g.ks ++ x ∷ run_at c t at i) ≡ f.used + cost (term f.last) x + i
  unfolding size
  taken i = rw (← g.last_pair) (omega (arith, size_join 0 g.ks (x ∷ run_at c t at i), used, size_run c w t at i))

  ends : (i : ℕ) → last 0 (g.ks ++ x ∷ run_at c t at i) ≡ last x (run_at c t at i)
  unfolding last
  ends i = last_append g.ks (x ∷ run_at c t at i) 0

  -- all have room
  pub counts_fit : (r : Filling) → r.used ≡ f.used + cost (term f.last) x + more → r.last ≡ last x run → r.tally ≡ f.tally → Counts c whole r rest
  counts_fit r u l e =
      record {
        ks = g.ks ++ x ∷ run;
        told = rw (e, append_assoc g.ks (x ∷ run) rest) g.told;
        sized = size_packed 0 (g.ks ++ x ∷ run) ∙ taken more ∙ sym u;
        last_pair = ends more ∙ sym l;
        proper = rw (append_assoc g.ks (x ∷ run) rest) g.proper;
      }

  proper : Each Proper (x ∷ run ++ rest)
  proper = each_second Proper g.ks (x ∷ run ++ rest) g.proper

  -- a block of its own for a pair of the term and n behind it
  fresh : (y at n : ℕ) → term y ≡ t → size 0 (y ∷ run_at c t at n) ≡ 3 + n
  unfolding size
  fresh y at n e = rw (e, ne_eqb t 0 (omega (arith, proper.0.term_low))) (omega (arith, size_run c w t at n))

  module _ (low : 3 ≤ block_size c) (inside : f.used ≤ block_size c) where
    -- the pair has no room
    pub counts_next : (r : Filling) → block_size c - f.used < cost (term f.last) x → Closed c f.tally f.last r.tally → r.used ≡ 3 + more → r.last ≡ last x run →
        Counts c whole r rest
    unfolding last
    counts_next r h d u l =
        record {
          ks = x ∷ run;
          told = told_full g.ks x (run ++ rest) g.told low g.proper (omega (arith, used)) (rw (used, g.last_pair) h) (rw g.last_pair d);
          sized = size_packed 0 (x ∷ run) ∙ fresh x at more refl ∙ sym u;
          last_pair = sym l;
          proper = proper;
        }

    -- it has room, and so have i behind it
    pub counts_parted : (r : Filling) (i : ℕ) → i < more → f.used + cost (term f.last) x + i ≡ block_size c → Closed c f.tally (last x (run_at c t at i)) r.tally →
        r.used + i ≡ 2 + more → r.last ≡ last x run → Counts c whole r rest
    unfolding last
    counts_parted r i h b d u l =
        record {
          ks = back;
          told = told_full front y js (subst (Told c whole f.tally) split g.told) low apart (omega (arith, taken i)) (omega (arith, taken i, cost_low (term (last 0 front)) y)) (rw (ends i) d);
          sized = size_packed 0 back ∙ fresh y (at + i + 1) (more - suc i) same ∙ omega (arith, u);
          last_pair = sym (l ∙ ap (last x) parts ∙ last_append (run_at c t at i) back x);
          proper = each_second Proper front (y ∷ js) apart;
        }
      where
        front : List ℕ
        front = g.ks ++ x ∷ run_at c t at i

        y : ℕ
        y = rank t (get_or c (at + i) 0)

        back : List ℕ
        back = y ∷ run_at c t (at + i + 1) (more - suc i)

        js : List ℕ
        js = run_at c t (at + i + 1) (more - suc i) ++ rest

        same : term y ≡ t
        same = let word : get_or c (at + i) 0 < 4294967296 = unfold Words in w (at + i) in omega arith

        parts : run ≡ run_at c t at i ++ back
        parts = run_split c t at i more (omega arith) ∙ ap (λ l. run_at c t at i ++ l) (run_first c t (at + i) (more - i) (more - suc i) (omega arith))

        split : g.ks ++ (x ∷ run ++ rest) ≡ front ++ y ∷ js
        split =
            ap (λ l. g.ks ++ (x ∷ l ++ rest)) parts
            ∙ ap (λ l. g.ks ++ (x ∷ l)) (append_assoc (run_at c t at i) back rest)
            ∙ sym (append_assoc g.ks (x ∷ run_at c t at i) (y ∷ js))

        apart : Each Proper (front ++ y ∷ js)
        apart = subst (Each Proper) split g.proper
