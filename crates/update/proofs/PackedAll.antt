-- All that remains is packed: one pair of the merge after the other, each with the run behind it.
use Prim.Native.Nat.{ℕ, zero, suc, ◌+◌, ◌-◌, ◌≤◌, ◌<◌, zero-le}
use native.Mathlib.Omega.{arith}
use mathlib.Core.Path.{◌≡◌, refl, sym, ap, subst, ◌∙◌}
use mathlib.Core.Bool.{Bool, true, false, cond, not}
use mathlib.Core.List.{List, [], ◌∷◌, ◌++◌, append-nil}
use lib.ListN.{length, drop, length-append}
use lib.Seq.{drop-append_seam}
use lib.Dec.{ltb, eqb}
use Rattle.std.proofs.Common.{None}
use borrow.Author.Tests.{eqb-true}
use Rattle.pair.specs.Rank.{term, Proper, Words}
use Rattle.pair.specs.Rising.{Each, above, last, keep}
use Rattle.pair.proofs.Keep.{length_keep}
use Rattle.pair.proofs.Rising.{rising_first, rising_above}
use Rattle.pair.proofs.Each.{each_last}
use Rattle.block.specs.Block.{packed_after, fitting}
use Rattle.block.proofs.Filling.{fitting_end, Filled, filled_end}
use Rattle.block.proofs.Size.{size, size_packed}
use Rattle.card.specs.Layout.{block_size, place_count, start_of_old, length_of_old, length_of_new, boundary, old_places, new_places, pairs_at, live}
use Rattle.card.proofs.Circle.{length_around}
use Rattle.card.proofs.Facts.{Facts}
use Rattle.card.proofs.Live.{live_rising, length_pairs_at}
use Rattle.batch.specs.Batch.{updates, withdrawn, with_added, applied, batch_number}
use Rattle.batch.proofs.InOrder.{in_order, rising_batch}
use Rattle.batch.proofs.Meaning.{added_few}
use Rattle.batch.proofs.Records.{length_updates}
use Rattle.update.specs.declared.forecast.Filling.{Filling}
use Rattle.update.specs.declared.forecast.Tally.{Tally}
use Rattle.update.specs.declared.merge.Merge.{Merge}
use Rattle.update.specs.declared.old.OldCursor.{OldCursor}
use Rattle.update.specs.Forecast.{free_writes, foreseen, outlook}
use Rattle.update.specs.Pass.{blocks, limit_for, step_limit}
use Rattle.update.specs.Step.{remains, freed}
use Rattle.update.specs.code.Merge.{left, Reached, run_at, place_along, Runs}
use Rattle.update.specs.code.Tally.{blocks_most, free_with, Told, Counts, Addable, Added, Packs, PackedAll}
use Rattle.update.proofs.Blocks.{blocks_none, blocks_few}
use Rattle.update.proofs.Cursor.{positions_room}
use Rattle.update.proofs.Grown.{Remaining}
use Rattle.update.proofs.Merging.{reached_above}
use Rattle.update.proofs.Running.{along_some, last_run, place_along_some}
use Rattle.update.proofs.Skipping.{freeing_start}
use Rattle.update.proofs.Tallying.{told_more}

pub packs_start : (c b : List ℕ) → Facts c → Remaining c (remains c b) →
    Packs c b (record { used = 0; last = 0; tally = record { blocks = 0; free = 0; spent = record { count = 0; last = None } } }) (boundary c)
unfolding remains
packs_start c b f q =
    let n : length_of_new c + 0 ≡ length_of_new c = omega arith in
    record {
      counts = record {
        ks = [];
        told = record { few = zero-le; filled = omega arith; writes = rw n (omega arith) };
        sized = unfold packed_after in refl;
        last_pair = unfold last in refl;
        proper = q.proper;
      };
      inside = zero-le;
      spends = record { freeing = freeing_start c 0 f; known = tt };
      after = zero-le;
    }

-- no card and batch fill so many blocks
few_blocks : (c b : List ℕ) → Facts c → Words c → length b ≤ 20480 → blocks (block_size c) (remains c b) ≤ blocks_most
unfolding blocks remains applied above live
few_blocks c b f w h =
    omega (
      arith,
      blocks_few (block_size c) 0 0 (remains c b),
      length_keep (ltb (boundary c)) (keep (λ x. not (withdrawn (updates b) x)) (with_added (updates b) (live c))),
      length_keep (λ x. not (withdrawn (updates b) x)) (with_added (updates b) (live c)),
      added_few (updates b) (live c),
      length_updates b,
      length-append (pairs_at c (new_places c)) (keep (ltb (boundary c)) (pairs_at c (old_places c))),
      length_keep (ltb (boundary c)) (pairs_at c (old_places c)),
      length_pairs_at c (new_places c) w f.size_high,
      length_pairs_at c (old_places c) w f.size_high,
      length_around (place_count c) (start_of_old c) (length_of_old c),
      length_around (place_count c) (start_of_old c + length_of_old c) (length_of_new c),
      f.room,
      f.count_high,
    )

-- with a run, its pairs behind the pair in hand are of its term
run_term : (c b : List ℕ) (m : Merge) (n : ℕ) → Runs c b m n → run_at c m.old.term m.old.at n ≡ run_at c (term m.rank) m.old.at n
unfolding run_at
run_term c b m zero r = refl
run_term c b m (suc n) r = ap (λ t. run_at c t m.old.at (suc n)) (sym (r.same_term (omega arith)))

run_some : (c : List ℕ) (m : Merge) (n : ℕ) → 0 < n → last m.rank (run_at c m.old.term m.old.at n) ≡ (place_along c m n).rank
run_some c m n h =
    last_run c m.rank m.old.term m.old.at n h
    ∙ sym (ap (λ (p : Merge). p.rank) (place_along_some c m n h) ∙ ap (λ (o : OldCursor). o.rank) (along_some c m.old n h))

run_rank : (c : List ℕ) (m : Merge) (n : ℕ) → last m.rank (run_at c m.old.term m.old.at n) ≡ (place_along c m n).rank
unfolding run_at last place_along
run_rank c m zero = refl
run_rank c m (suc n) = run_some c m (suc n) (omega arith)

module _ {c b : List ℕ} {f : Filling} {k : ℕ} {m : Merge} {n : ℕ} (g : Packs c b f k) (e : Reached c b k m) (r : Runs c b m n) where
  abbrev x : ℕ
  x = m.rank

  abbrev run : List ℕ
  run = run_at c (term x) m.old.at n

  abbrev y : ℕ
  y = (place_along c m n).rank

  -- what was left is the pair, the run and what is left behind it
  parts : left c b k ≡ x ∷ run ++ left c b y
  parts = e.next ∙ ap (λ l. x ∷ l) (r.pairs ∙ ap (λ l. l ++ left c b y) (run_term c b m n r))

  higher : k < x
  higher = reached_above e

  pub packs_addable : Facts c → batch_number b ≡ 0 → f.tally.blocks ≤ blocks_most → Addable c f x m.old.at n
  packs_addable s o l =
      let p = r.inside in
      let q = e.merges.stands in
      record {
        inside = g.inside;
        few = l;
        spends = g.spends;
        after = omega (arith, g.after, higher);
        rising =
            rising_first run (left c b y) x
            (rw (sym (r.pairs ∙ ap (λ l. l ++ left c b y) (run_term c b m n r))) (rising_above (applied (updates b) (live c)) 0 x (rising_batch b (live c) o (live_rising c s))));
        short = omega (arith, positions_room q, q.short);
        words = omega (arith, positions_room q, q.ends);
      }

  pub packs_turn : (h : Filling) → Added c f x m.old.at n h → Packs c b h y
  packs_turn h a =
      record {
        counts = a.counts (remains c b) (left c b y) (subst (Counts c (remains c b) f) parts g.counts);
        inside = a.inside;
        spends = a.spends;
        after = omega (arith, a.last_pair, ap (last x) (run_term c b m n r), run_rank c m n);
      }

  pub packs_less : length (left c b y) < length (left c b k)
  packs_less = omega (arith, ap length parts, length-append run (left c b y))

pub packs_few : {c b : List ℕ} {f : Filling} {k : ℕ} → Packs c b f k → Facts c → Words c → batch_number b ≡ 0 → f.tally.blocks ≤ blocks_most
packs_few {c} {b} g s w o = omega (arith, g.counts.told.filled, few_blocks c b s w (in_order b o).few)

-- the answer where nothing is left
told_all : {c r : List ℕ} {t : Tally} → Told c r t [] → foreseen t.blocks (limit_for t.blocks) t.free ≡ outlook c r
unfolding outlook step_limit
told_all {c} {r} {t} g =
    let b : blocks (block_size c) r ≡ t.blocks = g.filled ∙ rw (blocks_none (block_size c)) (omega arith) in
    let w : free_writes c (blocks (block_size c) r) (length_of_new c) r ≡ t.free = g.writes ∙ rw (blocks_none (block_size c)) (unfold free_writes in go (eqb t.free t.blocks) refl) in
    rw (w, b)
  where
    go : (s : Bool) → eqb t.free t.blocks ≡ s → cond s (t.blocks + 0) t.free ≡ t.free
    go true e = omega (arith, eqb-true t.free t.blocks e)
    go false e = refl

-- no pair is in the block in hand
pub packed_none : {c b : List ℕ} {f : Filling} → PackedAll c b f → f.last ≡ 0 → foreseen f.tally.blocks (limit_for f.tally.blocks) f.tally.free ≡ outlook c (remains c b)
packed_none {c} {b} {f} g z = told_all (none g.counts.ks g.counts.told (g.counts.last_pair ∙ z) g.counts.proper)
  where
    none : (ks : List ℕ) → Told c (remains c b) f.tally (ks ++ []) → last 0 ks ≡ 0 → Each Proper (ks ++ []) → Told c (remains c b) f.tally []
    none [] t e p = t
    none (k ∷ ks) t e p =
        let q : Each Proper (k ∷ ks) = subst (Each Proper) (append-nil (k ∷ ks)) p in
        let i : last k ks ≡ 0 = unfold last in e in
        absurd (omega (arith, (each_last Proper ks k q.0 q.1).term_low))

-- the last block is counted, and its write frees every old place
pub packed_some : {c b : List ℕ} {f : Filling} (s : Tally) → PackedAll c b f → Facts c → (f.last ≡ 0 → ⊥) → s.blocks ≡ f.tally.blocks + 1 →
    s.free ≡ free_with (place_count c) (length_of_new c) f.tally 0 → foreseen s.blocks (limit_for s.blocks) s.free ≡ outlook c (remains c b)
packed_some {c} {b} {f} s g q z n e = told_all {t = s} (rw none at (told_more g.counts.told (omega (arith, q.size_low)) g.counts.proper some s n (rw held e)))
  where
    ks : List ℕ
    ks = g.counts.ks

    fits : size 0 ks ≤ block_size c
    fits = omega (arith, size_packed 0 ks, g.counts.sized, g.inside)

    full : Filled (block_size c) (ks ++ []) ks false
    full = filled_end (block_size c) ks fits

    some : 0 < length (ks ++ [])
    some = rw append-nil (go ks g.counts.last_pair)
      where
        go : (js : List ℕ) → last 0 js ≡ f.last → 0 < length js
        go [] h = absurd (z (sym (unfold last in h)))
        go (j ∷ js) h = omega arith

    held : length_of_old c - freed c (ks ++ []) ≡ 0
    held = unfold freed in rw full.goes_on (omega arith)

    none : drop (fitting (block_size c) 0 (ks ++ [])) (ks ++ []) ≡ []
    none = rw (fitting_end (block_size c) ks fits) (drop-append_seam ks [])
