-- What the judge's walk learns of one block, of a segment and of the card.
use Prim.Native.Nat.{ℕ, zero, suc, ◌+◌, ◌-◌, ◌%◌, ◌≤◌, ◌<◌, zero-le}
use native.Mathlib.Nat.{mod-eq_of_lt}
use mathlib.Core.Path.{◌≡◌, refl, sym, ap, ◌∙◌}
use mathlib.Core.Bool.{Bool, true, false, cond, ◌&&◌, and-true, and_comm}
use mathlib.Core.List.{List, [], ◌∷◌, ◌++◌}
use borrow.Author.Tests.{lt-ltb, le-ltb}
use Rattle.std.proofs.Common.{Some, None, add-zero, arith}
use Rattle.std.specs.Option.{is_some, option_eq}
use lib.ListN.{length, get_or}
use lib.Dec.{ltb, eqb}
use Rattle.pair.specs.Rank.{Words}
use Rattle.pair.specs.Rising.{rising_from, last, any}
use Rattle.pair.proofs.Tests.{and_left}
use Rattle.pair.proofs.Rising.{last_some, any_last, last_append, rising_append, rising_tail}
use Rattle.block.specs.Block.{pairs, formed}
use Rattle.block.specs.declared.Ends.{Ends}
use Rattle.block.proofs.Reading.{formed_rising, formed_some}
use Rattle.card.proofs.Circle.{around_cons}
use Rattle.card.proofs.Ordered.{place_on_law, around_on}
use Rattle.card.proofs.Live.{place_words}
use Rattle.card.specs.Layout.{start_of_old, length_of_old, boundary, old_places, new_places, place_count, first_pair, place, around, pairs_at}
use Rattle.card.specs.Sound.{live_block, blocks_sound, first_reaches}
use Rattle.judge.specs.code.Scan.{block_scanned, segment_sound, segment_scanned, new_sound, old_sound}

abbrev ends : List ℕ → ℕ → Ends
ends c i = record { first = get_or (pairs (place c i)) 0 0; last = last 0 (pairs (place c i)) }

-- what a block that counts says of its place
pub record Counts (c : List ℕ) (i : ℕ) (e : Ends) : Type 0 where
  pub live : live_block c i ≡ true
  pub first : e.first ≡ get_or (pairs (place c i)) 0 0
  pub last : e.last ≡ last 0 (pairs (place c i))

pub counts : (c : List ℕ) (i : ℕ) (e : Ends) → Some e ≡ block_scanned c i → Counts c i e
unfolding block_scanned
counts c i e f = go (live_block c i) refl f
  where
    go : (l : Bool) → live_block c i ≡ l → Some e ≡ cond l (Some (ends c i)) None → Counts c i e
    go true g h = let q : e ≡ ends c i = cc in record { live = g; first = cc; last = cc }
    go false g h = absurd (cc)

pub no_block : (c : List ℕ) (i : ℕ) → None ≡ block_scanned c i → live_block c i ≡ false
unfolding block_scanned
no_block c i f = go (live_block c i) refl f
  where
    go : (l : Bool) → live_block c i ≡ l → None ≡ cond l (Some (ends c i)) None → live_block c i ≡ false
    go true g h = absurd (cc)
    go false g h = g

-- a rising list that is not empty rises from any number below its first, and ends at the same
rising_some : (xs : List ℕ) (k : ℕ) → 0 < length xs → rising_from 0 xs ≡ true → rising_from k xs ≡ ltb k (get_or xs 0 0)
unfolding rising_from
rising_some [] k h r = absurd (omega arith)
rising_some (x ∷ xs) k h r = rw (rising_tail x xs 0 r) (and-true (ltb k x))

shuffle : (a b c : Bool) → (a && (b && c)) ≡ (b && (a && c))
shuffle true b c = refl
shuffle false true c = refl
shuffle false false c = refl

same_scan : (c : List ℕ) (j k : ℕ) (is js : List ℕ) → segment_sound c j is ≡ segment_sound c k js → last j (pairs_at c is) ≡ last k (pairs_at c js) → segment_scanned c j is ≡ segment_scanned c k js
unfolding segment_scanned
same_scan c j k is js e f = rw (e, f)

last_first : (c : List ℕ) (k i : ℕ) (is : List ℕ) → 0 < length (pairs (place c i)) → last k (pairs_at c (i ∷ is)) ≡ last (last 0 (pairs (place c i))) (pairs_at c is)
unfolding pairs_at
last_first c k i is some = last_append (pairs (place c i)) (pairs_at c is) k ∙ rw (last_some (pairs (place c i)) k 0 some)

module _ (c : List ℕ) (w : Words c) (k i : ℕ) (is : List ℕ) where
  -- the first of the places counts where its block is live and begins above k, and the rest then counts from its last pair
  segment_first :
      segment_sound c k (i ∷ is)
      ≡ ((live_block c i && ltb k (get_or (pairs (place c i)) 0 0)) && segment_sound c (last 0 (pairs (place c i))) is)
  unfolding blocks_sound pairs_at
  segment_first = go (live_block c i) refl
    where
      go :
          (l : Bool) → live_block c i ≡ l →
          ((l && blocks_sound c is) && rising_from k (pairs (place c i) ++ pairs_at c is))
          ≡ ((l && ltb k (get_or (pairs (place c i)) 0 0)) && segment_sound c (last 0 (pairs (place c i))) is)
      go false e = refl
      go true e =
          let f = and_left (formed (place c i)) (eqb (first_pair c i) (get_or (pairs (place c i)) 0 0)) e in
          let some = formed_some (place c i) f in
          let r = formed_rising (place c i) (place_words c i w) f in
          rw (rising_append (pairs (place c i)) (pairs_at c is) k, rising_some (pairs (place c i)) k some r, last_some (pairs (place c i)) k 0 some)
          (shuffle (blocks_sound c is) (ltb k (get_or (pairs (place c i)) 0 0)) (rising_from (last 0 (pairs (place c i))) (pairs_at c is)))

  -- the block is none
  pub segment_none : None ≡ block_scanned c i → None ≡ segment_scanned c k (i ∷ is)
  unfolding segment_scanned
  segment_none f = rw (segment_first, no_block c i f)

  module _ (e : Ends) (f : Some e ≡ block_scanned c i) where
    -- it begins too low
    pub segment_low : e.first ≤ k → None ≡ segment_scanned c k (i ∷ is)
    unfolding segment_scanned
    segment_low h = let n = counts c i e f in rw (segment_first, n.live, ← n.first, le-ltb k e.first h)

    -- one turn: the block counts
    pub segment_turn : k < e.first → segment_scanned c k (i ∷ is) ≡ segment_scanned c e.last is
    segment_turn h =
        let n = counts c i e f in
        let some = formed_some (place c i) (and_left (formed (place c i)) (eqb (first_pair c i) (get_or (pairs (place c i)) 0 0)) n.live) in
        let g : segment_sound c k (i ∷ is) ≡ segment_sound c (last 0 (pairs (place c i))) is = segment_first ∙ rw (n.live, ← n.first, lt-ltb k e.first h) in
        rw n.last (same_scan c k (last 0 (pairs (place c i))) (i ∷ is) is g (last_first c k i is some))

-- j places of the segment are walked: it is as a whole what the rest is from k on
pub record Walking (c : List ℕ) (start len after k j : ℕ) : Type 0 where
  pub rest : segment_scanned c after (around (place_count c) start len) ≡ segment_scanned c k (around (place_count c) (start + j) (len - j))

pub walking_start : (c : List ℕ) (start len after : ℕ) → Walking c start len after after 0
walking_start c start len after = let e : len - 0 ≡ len = omega arith in record { rest = rw (add-zero start, e) }

-- the place i after them
module _ {c : List ℕ} {start len after k j : ℕ} (a : Walking c start len after k j) (w : Words c) (h : j < len) (i : ℕ) (p : i ≡ (start + j) % place_count c) where
  next : segment_scanned c after (around (place_count c) start len) ≡ segment_scanned c k (i ∷ around (place_count c) (start + (j + 1)) (len - (j + 1)))
  next =
      a.rest
      ∙ ap (segment_scanned c k) (around_cons (place_count c) start len j h ∙ ap (λ x. x ∷ around (place_count c) (start + (j + 1)) (len - (j + 1))) (sym p))

  pub walking_none : None ≡ block_scanned c i → None ≡ segment_scanned c after (around (place_count c) start len)
  walking_none f = segment_none c w k i (around (place_count c) (start + (j + 1)) (len - (j + 1))) f ∙ sym next

  pub walking_low : (e : Ends) → Some e ≡ block_scanned c i → e.first ≤ k → None ≡ segment_scanned c after (around (place_count c) start len)
  walking_low e f g = segment_low c w k i (around (place_count c) (start + (j + 1)) (len - (j + 1))) e f g ∙ sym next

  pub walking_turn : (e : Ends) → Some e ≡ block_scanned c i → k < e.first → Walking c start len after e.last (j + 1)
  walking_turn e f g = record { rest = next ∙ segment_turn c w k i (around (place_count c) (start + (j + 1)) (len - (j + 1))) e f g }

pub walking_end : {c : List ℕ} {start len after k j : ℕ} → Walking c start len after k j → len ≤ j → Some k ≡ segment_scanned c after (around (place_count c) start len)
unfolding segment_scanned around blocks_sound pairs_at rising_from last
walking_end {c} {start} {len} {after} {k} {j} a h =
    let e : len - j ≡ 0 = omega arith in
    sym (a.rest ∙ rw e)

is_some_cond : (s : Bool) (x : ℕ) → is_some (cond s (Some x) None) ≡ s
is_some_cond true x = refl
is_some_cond false x = refl

-- a segment i ∷ is whose first block is to reach above k: that block counts where it is live and does
pub first_reached :
    (c : List ℕ) → Words c → (k i : ℕ) (is : List ℕ) →
    (segment_sound c 0 (i ∷ is) && first_reaches c k (i ∷ is))
    ≡ ((live_block c i && ltb k (last 0 (pairs (place c i)))) && segment_sound c (last 0 (pairs (place c i))) is)
unfolding first_reaches
first_reached c w k i is = rw (segment_first c w 0 i is) (go (live_block c i) refl)
  where
    go :
        (l : Bool) → live_block c i ≡ l →
        (((l && ltb 0 (get_or (pairs (place c i)) 0 0)) && segment_sound c (last 0 (pairs (place c i))) is) && any (ltb k) (pairs (place c i)))
        ≡ ((l && ltb k (last 0 (pairs (place c i)))) && segment_sound c (last 0 (pairs (place c i))) is)
    go false e = refl
    go true e =
        let f = and_left (formed (place c i)) (eqb (first_pair c i) (get_or (pairs (place c i)) 0 0)) e in
        let r = formed_rising (place c i) (place_words c i w) f in
        let z : ltb 0 (get_or (pairs (place c i)) 0 0) ≡ true = sym (rising_some (pairs (place c i)) 0 (formed_some (place c i) f) r) ∙ r in
        rw (z, any_last (pairs (place c i)) 0 k r zero-le) (and_comm (segment_sound c (last 0 (pairs (place c i))) is) _)

-- the old segment i ∷ is: its first block is to reach above the boundary
module _ (c : List ℕ) (w : Words c) (i : ℕ) (is : List ℕ) (p : old_places c ≡ i ∷ is) where
  first_counts : old_sound c ≡ ((live_block c i && ltb (boundary c) (last 0 (pairs (place c i)))) && segment_sound c (last 0 (pairs (place c i))) is)
  unfolding old_sound
  first_counts = rw p (first_reached c w (boundary c) i is)

  pub old_dead : None ≡ block_scanned c i → false ≡ old_sound c
  old_dead f = rw (first_counts, no_block c i f)

  module _ (e : Ends) (f : Some e ≡ block_scanned c i) where
    pub old_low : e.last ≤ boundary c → false ≡ old_sound c
    old_low h = let n = counts c i e f in rw (first_counts, n.live, ← n.last, le-ltb (boundary c) e.last h)

    pub old_turn : boundary c < e.last → is_some (segment_scanned c e.last is) ≡ old_sound c
    unfolding segment_scanned
    old_turn h =
        let n = counts c i e f in
        let s : old_sound c ≡ segment_sound c e.last is = first_counts ∙ rw (n.live, ← n.last, lt-ltb (boundary c) e.last h) in
        is_some_cond (segment_sound c e.last is) _ ∙ sym s

option_eq_cond : (s : Bool) (x y : ℕ) → option_eq eqb (cond s (Some x) None) (Some y) ≡ (s && eqb x y)
option_eq_cond true x y = refl
option_eq_cond false x y = refl

-- the new segment's walk
pub new_ends : (c : List ℕ) → option_eq eqb (segment_scanned c 0 (new_places c)) (Some (boundary c)) ≡ new_sound c
unfolding segment_scanned new_sound
new_ends c = option_eq_cond (segment_sound c 0 (new_places c)) (last 0 (pairs_at c (new_places c))) (boundary c)

-- the old places of a card with an old segment
pub old_places_law : (c : List ℕ) → start_of_old c < place_count c → (length_of_old c ≡ 0 → ⊥) → old_places c ≡ start_of_old c ∷ around (place_count c) (start_of_old c + 1) (length_of_old c - 1)
unfolding around
old_places_law c h = go (length_of_old c)
  where
    go : (l : ℕ) → (l ≡ 0 → ⊥) → around (place_count c) (start_of_old c) l ≡ start_of_old c ∷ around (place_count c) (start_of_old c + 1) (l - 1)
    go zero n = absurd (n refl)
    go (suc l) n = let f : suc l - 1 ≡ l = omega arith in rw (f, mod-eq_of_lt h)

-- of a card without one nothing is asked
pub none_reached : (c : List ℕ) (k : ℕ) → length_of_old c ≡ 0 → true ≡ (segment_sound c 0 (old_places c) && first_reaches c k (old_places c))
unfolding around blocks_sound pairs_at rising_from first_reaches
none_reached c k e = rw e

pub old_none : (c : List ℕ) → length_of_old c ≡ 0 → true ≡ old_sound c
unfolding old_sound
old_none c e = none_reached c (boundary c) e

-- for the tactic at the functions: the walk over a segment, and the two segments
pub ruleset walk = (walking_start, walking_none, walking_low, walking_turn, walking_end, place_on_law)

pub ruleset new_walk = (new_ends, around_on)

pub ruleset old_walk = (old_none, old_dead, old_low, old_turn, old_places_law, around_on)
