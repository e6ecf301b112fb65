-- One pair after the other from the old segment: where the cursor stands after each way of going on.
use Prim.Native.Nat.{ℕ, zero, suc, ◌+◌, ◌-◌, ◌%◌, ◌≤◌, ◌<◌}
use native.Mathlib.Omega.{arith}
use native.Mathlib.Nat.{mod-lt, mod-eq_of_lt}
use mathlib.Core.Path.{◌≡◌, refl, sym, ap, ◌∙◌}
use mathlib.Core.Bool.{Bool, true, false, ◌&&◌, false≢true}
use mathlib.Core.List.{List, [], ◌∷◌, ◌++◌}
use lib.ListN.{length, get_or, length-take, length-drop}
use lib.Seq.{drop-cons}
use lib.Dec.{ltb, eqb}
use borrow.Author.Tests.{ltb-true, ne_eqb}
use Rattle.pair.specs.Rank.{rank}
use Rattle.pair.specs.Rising.{rising_from}
use Rattle.pair.proofs.Tests.{and_left, and_right, contradiction}
use Rattle.pair.proofs.Rising.{rising_head, rising_tail}
use Rattle.block.specs.Block.{pairs_from, pairs, formed_from, formed}
use Rattle.block.specs.code.Scan.{reads_on}
use Rattle.block.proofs.Walk.{reads_on_law, pairs_stops, unformed_start}
use Rattle.card.specs.Layout.{block_size, place_count, first_pair, place_at, place, around, pairs_at}
use Rattle.card.specs.Sound.{blocks_sound}
use Rattle.card.proofs.Circle.{around_mod}
use Rattle.card.proofs.Parts.{place_inside}
use Rattle.update.specs.declared.old.OldCursor.{OldCursor}
use Rattle.update.specs.code.Old.{rest, coming, pending, BlockEntry, entry_read, Reading, Stands, Advanced, position_on}

-- the words of a block from a word on, one word at a time
rest_step : (c : List ℕ) (at end : ℕ) → at < end → end ≤ length c → rest c at end ≡ get_or c at 0 ∷ rest c (at + 1) end
rest_step c at end h l =
    let e : end - at ≡ suc (end - (at + 1)) = omega arith in
    let f : at + 1 ≡ suc at = omega arith in
    rw (drop-cons c at 0 (omega arith), e, f)

rest_length : (c : List ℕ) (at end : ℕ) → at ≤ end → end ≤ length c → length (rest c at end) ≡ end - at
rest_length c at end h l = simp (length-take, length-drop) (omega arith)

-- the pair found is the first of those to come
found :
    (c : List ℕ) (o r : OldCursor) → rising_from o.rank (coming c o) ≡ true → coming c o ≡ r.rank ∷ coming c r →
    (pending c r ≡ coming c o) × (rising_from r.rank (coming c r) ≡ true)
unfolding pending
found c o r h e =
    let f : rising_from o.rank (r.rank ∷ coming c r) ≡ true = rw e at h in
    let l : o.rank < r.rank = rising_head r.rank (coming c r) o.rank f in
    (rw (ne_eqb r.rank 0 (omega arith)) (sym e), rising_tail r.rank (coming c r) o.rank f)

-- the positions of the term in hand that are still to come
formed_more : (ws : List ℕ) (t n p : ℕ) → formed_from ws t n p ≡ true → n ≤ length ws
unfolding formed_from
formed_more [] t zero p e = omega arith
formed_more [] t (suc n) p e = absurd (false≢true e)
formed_more (q ∷ ws) t zero p e = omega arith
formed_more (q ∷ ws) t (suc n) p e = omega (arith, formed_more ws t n q (and_right (ltb p q) (formed_from ws t n q) e))

pub positions_room : {c : List ℕ} {o : OldCursor} → Stands c o → o.at + o.count ≤ o.end
positions_room {c} {o} s =
    let l = formed_more (rest c o.at o.end) o.term o.count s.reading.position s.reading.formed in
    omega (arith, s.inside, rest_length c o.at o.end s.inside s.ends)

pub position_room : {c : List ℕ} {o : OldCursor} → Stands c o → 0 < o.count → o.at < o.end
position_room {c} {o} s h = omega (arith, positions_room s)

formed_position : (q : ℕ) (ws : List ℕ) (t n p : ℕ) → 0 < n → formed_from (q ∷ ws) t n p ≡ true → formed_from ws t (n - 1) q ≡ true
unfolding formed_from
formed_position q ws t zero p h e = absurd (omega arith)
formed_position q ws t (suc n) p h e = let f : suc n - 1 ≡ n = omega arith in rw f (and_right (ltb p q) (formed_from ws t n q) e)

pairs_position : (q : ℕ) (ws : List ℕ) (t n : ℕ) → 0 < n → pairs_from (q ∷ ws) t n ≡ rank t q ∷ pairs_from ws t (n - 1)
unfolding pairs_from
pairs_position q ws t zero h = absurd (omega arith)
pairs_position q ws t (suc n) h = let f : suc n - 1 ≡ n = omega arith in rw f

pub coming_position : {c : List ℕ} {o : OldCursor} → Stands c o → 0 < o.count → coming c o ≡ (position_on c o).rank ∷ coming c (position_on c o)
unfolding coming
coming_position {c} {o} s h =
    rw (
      rest_step c o.at o.end (position_room s h) s.ends,
      pairs_position (get_or c o.at 0) (rest c (o.at + 1) o.end) o.term o.count h,
    )

-- it is a pair
pub position_some : {c : List ℕ} {o : OldCursor} → Stands c o → 0 < o.count → 0 < (position_on c o).rank
position_some {c} {o} s h = omega (arith, rising_head (position_on c o).rank (coming c (position_on c o)) o.rank (rw (← coming_position s h) s.rising))

pub advanced_position :
    {c : List ℕ} {o : OldCursor} → Stands c o → 0 < o.count →
    Advanced c o (position_on c o)
advanced_position {c} {o} s h = go (found c o r s.rising (coming_position s h))
  where
    l : o.at < o.end
    l = position_room s h

    step : rest c o.at o.end ≡ get_or c o.at 0 ∷ rest c (o.at + 1) o.end
    step = rest_step c o.at o.end l s.ends

    r : OldCursor
    r = position_on c o

    go : (pending c r ≡ coming c o) × (rising_from r.rank (coming c r) ≡ true) → Advanced c o r
    go f =
        record {
          stands = record {
            shaped = s.shaped;
            inside = omega (arith, l);
            ends = s.ends;
            short = omega (arith, s.short);
            within = s.within;
            reading = record { position = get_or c o.at 0; formed = formed_position (get_or c o.at 0) (rest c (o.at + 1) o.end) o.term o.count s.reading.position h (rw step at s.reading.formed) };
            sound = s.sound;
            rising = f.1;
          };
          next = f.0;
        }

-- the first pair of an entry
entry_list :
    (a b q : ℕ) (ws : List ℕ) (t p : ℕ) → eqb a 0 ≡ false → formed_from (a ∷ b ∷ q ∷ ws) t 0 p ≡ true →
    (0 < b) × (pairs_from (a ∷ b ∷ q ∷ ws) t 0 ≡ rank a q ∷ pairs_from ws a (b - 1)) × (formed_from ws a (b - 1) q ≡ true)
unfolding formed_from
entry_list a b q ws t p e f =
    let g : ((ltb t a && ltb 0 b) && formed_from (q ∷ ws) a b 0) ≡ true = rw e at f in
    let l : 0 < b = ltb-true 0 b (and_right (ltb t a) (ltb 0 b) (and_left (ltb t a && ltb 0 b) (formed_from (q ∷ ws) a b 0) g)) in (
      l,
      unfold pairs_from in rw e (pairs_position q ws a b l),
      formed_position q ws a b 0 l (and_right (ltb t a && ltb 0 b) (formed_from (q ∷ ws) a b 0) g),
    )

-- what an entry at a word gives
pub record Entered (c : List ℕ) (at end t : ℕ) : Type 0 where
  pub entry : BlockEntry c at end
  pub pairs : pairs_from (rest c at end) t 0 ≡ rank (get_or c at 0) (get_or c (at + 2) 0) ∷ pairs_from (rest c (at + 3) end) (get_or c at 0) (get_or c (at + 1) 0 - 1)
  pub reading : Reading c (at + 3) end (get_or c at 0) (get_or c (at + 1) 0 - 1)

pub entered : (c : List ℕ) (at end t : ℕ) → at ≤ end → end ≤ length c → Reading c at end t 0 → reads_on (rest c at end) ≡ true → Entered c at end t
entered c at end t h l r e =
    record {
      entry = record { inside = room; ends = l; counted = read.0 };
      pairs = rw three read.1;
      reading = record { position = get_or c (at + 2) 0; formed = read.2 };
    }
  where
    room : at + 2 < end
    room = omega (arith, (reads_on_law (rest c at end) e).0, rest_length c at end h l)

    three : rest c at end ≡ get_or c at 0 ∷ get_or c (at + 1) 0 ∷ get_or c (at + 2) 0 ∷ rest c (at + 3) end
    three =
        let f : at + 1 + 1 ≡ at + 2 = omega arith in
        let g : at + 2 + 1 ≡ at + 3 = omega arith in
        rest_step c at end (omega (arith, room)) l
        ∙ rw (rest_step c (at + 1) end (omega (arith, room)) l, f, rest_step c (at + 2) end (omega (arith, room)) l, g)

    nonzero : eqb (get_or c at 0) 0 ≡ false
    nonzero = rw three at (reads_on_law (rest c at end) e).1

    read : (0 < get_or c (at + 1) 0)
        × (pairs_from (get_or c at 0 ∷ get_or c (at + 1) 0 ∷ get_or c (at + 2) 0 ∷ rest c (at + 3) end) t 0 ≡ rank (get_or c at 0) (get_or c (at + 2) 0) ∷ pairs_from (rest c (at + 3) end) (get_or c at 0) (get_or c (at + 1) 0 - 1))
        × (formed_from (rest c (at + 3) end) (get_or c at 0) (get_or c (at + 1) 0 - 1) (get_or c (at + 2) 0) ≡ true)
    read =
        entry_list (get_or c at 0) (get_or c (at + 1) 0) (get_or c (at + 2) 0) (rest c (at + 3) end) t r.position nonzero
        (rw three at r.formed)

-- an entry read with the pairs of the places left behind it
entry_stands_law :
    (c : List ℕ) (o : OldCursor) (at end t m n : ℕ) → Stands c o → Entered c at end t → end ≤ at + block_size c → m < place_count c →
    blocks_sound c (around (place_count c) m n) ≡ true → coming c o ≡ pairs_from (rest c at end) t 0 ++ pairs_at c (around (place_count c) m n) →
    Advanced c o (entry_read c at end m n)
unfolding entry_read
entry_stands_law c o at end t m n s e i k b f = go (found c o r s.rising comes)
  where
    r : OldCursor
    r = record { place = m; places = n; at = at + 3; end = end; term = get_or c at 0; count = get_or c (at + 1) 0 - 1; rank = rank (get_or c at 0) (get_or c (at + 2) 0) }

    comes : coming c o ≡ r.rank ∷ coming c r
    comes = f ∙ (unfold coming in rw e.pairs)

    go : (pending c r ≡ coming c o) × (rising_from r.rank (coming c r) ≡ true) → Advanced c o r
    go g =
        record {
          stands = record {
            shaped = s.shaped;
            inside = omega (arith, e.entry.inside);
            ends = e.entry.ends;
            short = omega (arith, i);
            within = k;
            reading = e.reading;
            sound = b;
            rising = g.1;
          };
          next = g.0;
        }

pub entry_there : {c : List ℕ} {o : OldCursor} → Stands c o → o.count ≡ 0 → reads_on (rest c o.at o.end) ≡ true → BlockEntry c o.at o.end
entry_there {c} {o} s z e = (entered c o.at o.end o.term s.inside s.ends (rw z at s.reading) e).entry

pub advanced_entry : {c : List ℕ} {o : OldCursor} → Stands c o → o.count ≡ 0 → reads_on (rest c o.at o.end) ≡ true → Advanced c o (entry_read c o.at o.end o.place o.places)
advanced_entry {c} {o} s z e =
    entry_stands_law c o o.at o.end o.term o.place o.places s (entered c o.at o.end o.term s.inside s.ends (rw z at s.reading) e) (omega (arith, s.short)) s.within s.sound
    (unfold coming in rw z)

-- the block in hand is read
over : (c : List ℕ) (o : OldCursor) → o.count ≡ 0 → reads_on (rest c o.at o.end) ≡ false → coming c o ≡ pairs_at c (around (place_count c) o.place o.places)
unfolding coming
over c o z e = rw (z, pairs_stops (rest c o.at o.end) o.term e)

pub advanced_end :
    {c : List ℕ} {o : OldCursor} → Stands c o → o.count ≡ 0 → reads_on (rest c o.at o.end) ≡ false → o.places ≡ 0 →
    Advanced c o (record { place = o.place; places = o.places; at = o.end; end = o.end; term = o.term; count = o.count; rank = 0 })
advanced_end {c} {o} s z e n =
    record {
      stands = record {
        shaped = s.shaped;
        inside = omega arith;
        ends = s.ends;
        short = omega (arith, s.inside, s.short);
        within = s.within;
        reading = record { position = 0; formed = unfold formed_from in rw (z, none) };
        sound = s.sound;
        rising = unfold coming around pairs_at pairs_from rising_from in rw (z, n, none);
      };
      next = unfold pending in sym (over c o z e ∙ (unfold around pairs_at in rw n));
    }
  where
    none : o.end - o.end ≡ 0
    none = omega arith

abbrev mapped : List ℕ → ℕ → Bool
mapped c i = eqb (first_pair c i) (get_or (pairs (place c i)) 0 0)

-- a place left: its block has an entry
pub place_block : (c : List ℕ) (i : ℕ) (is : List ℕ) → blocks_sound c (i ∷ is) ≡ true → (formed (place c i) ≡ true) × (blocks_sound c is ≡ true)
unfolding blocks_sound
place_block c i is e = (
  and_left (formed (place c i)) (mapped c i) (and_left (formed (place c i) && mapped c i) (blocks_sound c is) e),
  and_right (formed (place c i) && mapped c i) (blocks_sound c is) e,
)

formed_reads : (ws : List ℕ) → formed ws ≡ true → (formed_from ws 0 0 0 ≡ true) × (reads_on ws ≡ true)
formed_reads ws e = ((unfold formed in and_left (formed_from ws 0 0 0) _ e), go (reads_on ws) refl)
  where
    go : (t : Bool) → reads_on ws ≡ t → reads_on ws ≡ true
    go true f = f
    go false f = contradiction (formed ws) e (unformed_start ws f)

-- a place as the words that are left of it at its start
place_rest : (c : List ℕ) (i : ℕ) → rest c (place_at c i) (place_at c i + block_size c) ≡ place c i
unfolding place
place_rest c i = let e : place_at c i + block_size c - place_at c i ≡ block_size c = omega arith in rw e

-- the place in hand and those left after it
left : {c : List ℕ} {o : OldCursor} → Stands c o → (o.places ≡ 0 → ⊥) →
    around (place_count c) o.place o.places ≡ o.place ∷ around (place_count c) (o.place + 1) (o.places - 1)
unfolding around
left {c} {o} s n =
    let e : o.places ≡ suc (o.places - 1) = omega (arith, n) in
    ap (around (place_count c) o.place) e ∙ rw (mod-eq_of_lt s.within)

-- a place left has an entry
pub place_entered :
    {c : List ℕ} {o : OldCursor} → Stands c o → (o.places ≡ 0 → ⊥) → Entered c (place_at c o.place) (place_at c o.place + block_size c) 0
place_entered {c} {o} s n =
    let i = o.place in
    let f = place_block c i _ (rw (left s n) at s.sound) in
    let g = formed_reads (place c i) f.0 in
    entered c (place_at c i) (place_at c i + block_size c) 0 (omega arith) (place_inside c i s.shaped s.within)
    (record { position = 0; formed = rw (place_rest c i) g.0 }) (rw (place_rest c i) g.1)

pub advanced_place :
    {c : List ℕ} {o : OldCursor} (p : ℕ) → p ≡ (o.place + 1) % place_count c → Stands c o → o.count ≡ 0 →
    reads_on (rest c o.at o.end) ≡ false → (o.places ≡ 0 → ⊥) →
    Advanced c o (entry_read c (place_at c o.place) (place_at c o.place + block_size c) p (o.places - 1))
advanced_place {c} {o} p h s z e n =
    let i = o.place in
    let m = o.places - 1 in
    let next : around (place_count c) p m ≡ around (place_count c) (i + 1) m = rw h (around_mod (place_count c) (i + 1) m) in
    entry_stands_law c o (place_at c i) (place_at c i + block_size c) 0 p m s (place_entered s n) (omega arith) (rw h (mod-lt (i + 1) (omega (arith, s.shaped.count_low))))
    (rw next (place_block c i _ (rw (left s n) at s.sound)).1)
    (over c o z e ∙ rw (left s n, next) (unfold pairs_at pairs in rw (place_rest c i)))
