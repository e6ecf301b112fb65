-- The search of a block for the wanted positions of a term: what the words from an entry on still hold, and what is answered.
use Prim.Native.Nat.{ℕ, zero, suc, ◌+◌, ◌-◌, ◌≤◌, ◌<◌, zero-le}
use native.Mathlib.Nat.{add-zero}
use native.Mathlib.Omega.{arith}
use mathlib.Core.Path.{◌≡◌, refl, sym, ap, ◌∙◌}
use mathlib.Core.Bool.{Bool, true, false, ◌&&◌, not}
use mathlib.Core.List.{List, [], ◌∷◌, ◌++◌, map, append-nil}
use lib.ListN.{length, take, drop, get_or, length-drop, length-take}
use lib.Seq.{get_or-take, get_or-drop, drop-drop, take-take}
use lib.Dec.{ltb}
use Rattle.pair.specs.Rank.{rank, position, Words}
use Rattle.pair.specs.Rising.{keep, at_most, rising_from}
use Rattle.pair.proofs.Each.{each_imply}
use Rattle.pair.proofs.Keep.{keep_append, keep_none}
use Rattle.pair.proofs.Sets.{rising_Each}
use Rattle.pair.proofs.Tests.{and_left, and_right}
use Rattle.pair.proofs.Words.{words_take, words_drop}
use Rattle.wanted.specs.declared.Part.{Part}
use Rattle.block.specs.Block.{zeros, pairs_from, pairs, words_before, formed_from, formed}
use Rattle.block.specs.code.Scan.{reads_on}
use Rattle.wanted.specs.code.Wanted.{is_wanted, EntryPart, BlockPart}
use Rattle.block.proofs.Walk.{formed_between, pairs_stops, reads_on_law}
use Rattle.block.proofs.Reading.{formed_from_rising}
use Rattle.block.proofs.Scanning.{positions_at}
use Rattle.wanted.proofs.Entries.{fits, formed_at, entry_room, entry_fits}
use Rattle.wanted.proofs.Wanting.{in_range, wanted_lower, wanted_higher, keep_wanted, positions_back, pairs_run, keep_skip, words_skip, words_first}

-- the entry at i of a well-formed block, after one of the term u
pub record EntryAt (ws : List ℕ) (i u : ℕ) : Type 0 where
  pub fits : get_or ws (i + 1) 0 ≤ length ws - (i + 2)
  pub rising : rising_from 0 (positions_at ws i) ≡ true
  pub rest : formed_from (drop (i + 2 + get_or ws (i + 1) 0) ws) (get_or ws i 0) 0 0 ≡ true

entry_at : (ws : List ℕ) (i u : ℕ) → reads_on (drop i ws) ≡ true → formed_from (drop i ws) u 0 0 ≡ true → EntryAt ws i u
entry_at ws i u o f =
    let rises = rising_from 0 (positions_at ws i) in
    let behind = formed_from (drop (i + 2 + get_or ws (i + 1) 0) ws) (get_or ws i 0) 0 0 in
    let all : (fits ws i && ((ltb u (get_or ws i 0) && rises) && behind)) ≡ true = sym (formed_at ws i u o) ∙ f in
    let rest = and_right (fits ws i) ((ltb u (get_or ws i 0) && rises) && behind) all in
    record {
      fits = (entry_fits ws i (and_left (fits ws i) ((ltb u (get_or ws i 0) && rises) && behind) all)).1;
      rising = and_right (ltb u (get_or ws i 0)) rises (and_left (ltb u (get_or ws i 0) && rises) behind rest);
      rest = and_right (ltb u (get_or ws i 0) && rises) behind rest;
    }

pairs_entry :
    (l : List ℕ) (u : ℕ) → reads_on l ≡ true →
    pairs_from l u 0 ≡ pairs_from (drop 2 l) (get_or l 0 0) (get_or l 1 0)
unfolding pairs_from
pairs_entry [] u e = absurd (omega (arith, (reads_on_law [] e).0))
pairs_entry (a ∷ []) u e = absurd (omega (arith, (reads_on_law (a ∷ []) e).0))
pairs_entry (a ∷ b ∷ []) u e = absurd (omega (arith, (reads_on_law (a ∷ b ∷ []) e).0))
pairs_entry (a ∷ b ∷ q ∷ ws) u e = rw (reads_on_law (a ∷ b ∷ q ∷ ws) e).1

words_entry :
    (f : ℕ → Bool) (l : List ℕ) (u : ℕ) → reads_on l ≡ true →
    words_before f l u 0 ≡ suc (suc (words_before f (drop 2 l) (get_or l 0 0) (get_or l 1 0)))
unfolding words_before
words_entry f [] u e = absurd (omega (arith, (reads_on_law [] e).0))
words_entry f (a ∷ []) u e = absurd (omega (arith, (reads_on_law (a ∷ []) e).0))
words_entry f (a ∷ b ∷ []) u e = absurd (omega (arith, (reads_on_law (a ∷ b ∷ []) e).0))
words_entry f (a ∷ b ∷ q ∷ ws) u e = rw (reads_on_law (a ∷ b ∷ q ∷ ws) e).1

-- a part of a longer part
pub take_part : (l : List ℕ) (s k n : ℕ) → s + k ≤ n → take k (drop s (take n l)) ≡ take k (drop s l)
take_part l zero k n h = take-take k n l (omega arith)
take_part l (suc s) k zero h = absurd (omega arith)
take_part [] (suc s) k (suc n) h = refl
take_part (x ∷ l) (suc s) k (suc n) h = take_part l s k n (omega arith)

module _ (ws : List ℕ) (i u : ℕ) (o : reads_on (drop i ws) ≡ true) where
  pairs_at :
      get_or ws (i + 1) 0 ≤ length ws - (i + 2) →
      pairs_from (drop i ws) u 0 ≡ map (rank (get_or ws i 0)) (positions_at ws i) ++ pairs_from (drop (i + 2 + get_or ws (i + 1) 0) ws) (get_or ws i 0) 0
  pairs_at h =
      let n : i + 2 + get_or ws (i + 1) 0 - (i + 2) ≡ get_or ws (i + 1) 0 = omega arith in
      let fit : get_or ws (i + 1) 0 ≤ length (drop (i + 2) ws) = rw length-drop h in
      pairs_entry (drop i ws) u o
      ∙ simp (get_or-drop, drop-drop, add-zero)
      (pairs_run (drop (i + 2) ws) (get_or ws (i + 1) 0) (get_or ws i 0) fit ∙ simp (n, drop-drop))

  words_at : (f : ℕ → Bool) → words_before f (drop i ws) u 0 ≡ 2 + words_before f (drop (i + 2) ws) (get_or ws i 0) (get_or ws (i + 1) 0)
  words_at f =
      words_entry f (drop i ws) u o
      ∙ simp (get_or-drop, drop-drop, add-zero)
      (let e : suc (suc (words_before f (drop (i + 2) ws) (get_or ws i 0) (get_or ws (i + 1) 0))) ≡ 2 + words_before f (drop (i + 2) ws) (get_or ws i 0) (get_or ws (i + 1) 0) = omega arith in e)

words_positions : (ws : List ℕ) (i : ℕ) → Words ws → Words (positions_at ws i)
words_positions ws i w = words_take (i + 2 + get_or ws (i + 1) 0 - (i + 2)) (drop (i + 2) ws) (words_drop (i + 2) ws w)

-- entries behind one of the term u hold nothing wanted of a term that is not above u
none_behind : (t a z u : ℕ) (ws : List ℕ) → Words ws → z < 4294967296 → t ≤ u → formed_from ws u 0 0 ≡ true → keep (is_wanted t a z) (pairs_from ws u 0) ≡ []
none_behind t a z u ws w h l f =
    keep_none (is_wanted t a z) (pairs_from ws u 0)
    (each_imply (λ x. rank u 4294967295 < x) (λ x. is_wanted t a z x ≡ false) (λ x q. wanted_higher t a z x (omega arith)) (pairs_from ws u 0)
    (rising_Each (pairs_from ws u 0) (rank u 4294967295)
    (formed_from_rising ws u 0 4294967295 w (omega arith) (formed_between ws u 4294967295 ∙ f))))

-- The block is read up to i: what is wanted of it stands in the words from i on. The last term read was last, 0 for none.
pub record Seek (ws : List ℕ) (t a z i : ℕ) : Type 0 where
  pub within : i ≤ length ws
  pub last : ℕ
  pub sound : formed ws ≡ true → formed_from (drop i ws) last 0 0 ≡ true
  pub same : formed ws ≡ true → keep (is_wanted t a z) (pairs ws) ≡ keep (is_wanted t a z) (pairs_from (drop i ws) last 0)
  pub before : formed ws ≡ true → words_before (is_wanted t a z) ws 0 0 ≡ i + words_before (is_wanted t a z) (drop i ws) last 0

pub seek_start : (ws : List ℕ) (t a z : ℕ) → Seek ws t a z 0
unfolding formed pairs
seek_start ws t a z =
    record {
      within = zero-le;
      last = 0;
      sound = λ f. and_left (formed_from ws 0 0 0) (not (zeros (take 1 ws))) f;
      same = λ f. refl;
      before = λ f. let e : words_before (is_wanted t a z) ws 0 0 ≡ 0 + words_before (is_wanted t a z) ws 0 0 = omega arith in e;
    }

-- an empty part
pub empty_part : {ws : List ℕ} {t a z : ℕ} → (formed ws ≡ true → keep (is_wanted t a z) (pairs ws) ≡ []) → BlockPart ws t a z (record { start = 0; len = 0 })
empty_part {ws} {t} {a} {z} none =
    record {
      inside = zero-le;
      in_entry = λ l. absurd (let z : 0 < 0 = l in omega arith);
      positions = λ f. rw (none f);
      before = λ f l. absurd (let z : 0 < 0 = l in omega arith);
    }

-- no entry stands at i
pub seek_stop : {ws : List ℕ} {t a z i : ℕ} → Seek ws t a z i → reads_on (drop i ws) ≡ false → BlockPart ws t a z (record { start = 0; len = 0 })
unfolding keep
seek_stop {ws} {t} {a} {z} {i} s o = empty_part (λ f. s.same f ∙ rw (pairs_stops (drop i ws) s.last o))

-- the entry at i has more positions than there are words
pub seek_misfit :
    {ws : List ℕ} {t a z i : ℕ} → Seek ws t a z i → reads_on (drop i ws) ≡ true → length ws - (i + 2) < get_or ws (i + 1) 0 →
    BlockPart ws t a z (record { start = 0; len = 0 })
seek_misfit {ws} {t} {a} {z} {i} s o h =
    empty_part (λ f. absurd (let e = entry_at ws i s.last o (s.sound f) in let z : ⊥ = omega (arith, e.fits) in z))

module _ {ws : List ℕ} {t a z i : ℕ} (w : Words ws) (s : Seek ws t a z i) (o : reads_on (drop i ws) ≡ true) (h : get_or ws (i + 1) 0 ≤ length ws - (i + 2)) where
  -- its term is above the wanted one
  pub seek_past : z < 4294967296 → t < get_or ws i 0 → BlockPart ws t a z (record { start = 0; len = 0 })
  seek_past q l = empty_part none
    where
      b : ℕ
      b = get_or ws i 0

      none : formed ws ≡ true → keep (is_wanted t a z) (pairs ws) ≡ []
      none f =
          let e = entry_at ws i s.last o (s.sound f) in
          s.same f
          ∙ rw (pairs_at ws i s.last o h)
          (keep_append (is_wanted t a z) (map (rank b) (positions_at ws i)) (pairs_from (drop (i + 2 + get_or ws (i + 1) 0) ws) b 0)
          ∙ rw (
            keep_skip (is_wanted t a z) b (λ p g. wanted_higher t a z (rank b p) (omega arith)) (positions_at ws i) (words_positions ws i w),
            none_behind t a z b (drop (i + 2 + get_or ws (i + 1) 0) ws) (words_drop (i + 2 + get_or ws (i + 1) 0) ws w) q (omega arith) e.rest,
          ))

  -- its term is below the wanted one: one turn
  pub seek_turn : get_or ws i 0 < t → Seek ws t a z (i + 2 + get_or ws (i + 1) 0)
  seek_turn l =
      record {
        within = omega (arith, entry_room ws i o);
        last = get_or ws i 0;
        sound = λ f. (entry_at ws i s.last o (s.sound f)).rest;
        same = λ f.
            s.same f
            ∙ rw (pairs_at ws i s.last o h)
            (keep_append (is_wanted t a z) (map (rank (get_or ws i 0)) (positions_at ws i)) (pairs_from (drop (i + 2 + get_or ws (i + 1) 0) ws) (get_or ws i 0) 0)
            ∙ rw (keep_skip (is_wanted t a z) (get_or ws i 0) (λ p g. wanted_lower t a z (get_or ws i 0) p l g) (positions_at ws i) (words_positions ws i w)));
        before = λ f.
            s.before f
            ∙ rw (
              words_at ws i s.last o (is_wanted t a z),
              words_skip (is_wanted t a z) (get_or ws i 0) (λ p g. wanted_lower t a z (get_or ws i 0) p l g) (drop (i + 2) ws) (get_or ws (i + 1) 0) (words_drop (i + 2) ws w) (rw length-drop h),
              drop-drop,
            )
            (omega arith);
      }

  -- it is the wanted term's
  pub seek_found :
      {r : Part} → z < 4294967296 → get_or ws i 0 ≡ t → EntryPart (positions_at ws i) a z r →
      BlockPart ws t a z (record { start = i + 2 + r.start; len = r.len })
  seek_found {r} q l p =
      record {
        inside = omega (arith, p.inside, whole, entry_room ws i o);
        in_entry = λ g.
            record {
              entry = i;
              term = l;
              from = omega arith;
              to = omega (arith, p.inside, whole);
              first = rw (← at r.start (omega (arith, p.inside, whole))) (p.first g);
              last =
                  let e : i + 2 + r.start + r.len - 1 ≡ i + 2 + (r.start + r.len - 1) = omega arith in
                  rw (e, ← at (r.start + r.len - 1) (omega (arith, p.inside, whole))) (p.last g);
            };
        positions = positions;
        before = before;
      }
    where
      n : ℕ
      n = get_or ws (i + 1) 0

      m : i + 2 + n - (i + 2) ≡ n
      m = omega arith

      whole : length (positions_at ws i) ≡ n
      whole = rw (length-take, length-drop, m) (omega arith)

      P : List ℕ
      P = positions_at ws i

      -- a position of the entry is a word of the block
      at : (j : ℕ) → j < n → get_or (positions_at ws i) j 0 ≡ get_or ws (i + 2 + j) 0
      at j h = get_or-take (i + 2 + n - (i + 2)) (drop (i + 2) ws) j 0 (omega arith) ∙ get_or-drop (i + 2) ws j 0

      rest : List ℕ
      rest = pairs_from (drop (i + 2 + n) ws) t 0

      kept : formed ws ≡ true → keep (is_wanted t a z) (pairs ws) ≡ map (rank t) (keep (in_range a z) P)
      kept f =
          let e = entry_at ws i s.last o (s.sound f) in
          let g : formed_from (drop (i + 2 + n) ws) t 0 0 ≡ true = rw l at e.rest in
          s.same f
          ∙ rw (pairs_at ws i s.last o h, l)
          (keep_append (is_wanted t a z) (map (rank t) P) rest
          ∙ rw (none_behind t a z t (drop (i + 2 + n) ws) (words_drop (i + 2 + n) ws w) q (omega arith) g, append-nil)
          (keep_wanted t a z P))

      positions : formed ws ≡ true → take r.len (drop (i + 2 + r.start) ws) ≡ map position (keep (is_wanted t a z) (pairs ws))
      positions f =
          let e = entry_at ws i s.last o (s.sound f) in
          rw (kept f, positions_back t (in_range a z) P (words_positions ws i w), ← p.positions e.rising, ← drop-drop r.start (i + 2) ws)
          (sym (take_part (drop (i + 2) ws) r.start r.len (i + 2 + n - (i + 2)) (omega (arith, p.inside, whole))))

      before : formed ws ≡ true → 0 < r.len → i + 2 + r.start ≡ words_before (is_wanted t a z) ws 0 0
      before f g =
          let e = entry_at ws i s.last o (s.sound f) in
          let some : 0 < length (keep (in_range a z) P)
          = rw (← p.positions e.rising, length-take, length-drop) (omega (arith, p.inside)) in
          let first : words_before (is_wanted t a z) (drop (i + 2) ws) t n ≡ length (at_most a P)
          = ap (λ k. words_before (is_wanted t a z) (drop (i + 2) ws) t k) (sym m) ∙ words_first t a z 0 (drop (i + 2) ws) (i + 2 + n - (i + 2)) (rw (length-drop, m) h) e.rising some in
          omega (arith, s.before f, rw l at (words_at ws i s.last o (is_wanted t a z)), first, p.before e.rising)

-- for the tactic at the function
pub ruleset seek = (seek_start, seek_stop, seek_misfit, seek_past, seek_turn, seek_found, entry_room)
