-- How many configuration writes leave a place free: as many on the card that a step leaves, for the pairs that remain there.
use Prim.Native.Nat.{ℕ, zero, suc, ◌+◌, ◌-◌, ◌≤◌, ◌<◌}
use native.Mathlib.Omega.{arith}
use mathlib.Core.Path.{◌≡◌, refl, sym, ◌∙◌, ap}
use mathlib.Core.Bool.{Bool, true, false, cond}
use mathlib.Core.List.{List}
use lib.ListN.{length, drop}
use lib.Dec.{leb}
use borrow.Author.Tests.{ne_eqb}
use Rattle.pair.specs.Rising.{rising_from, last}
use Rattle.pair.proofs.Each.{each_all}
use Rattle.pair.proofs.Rising.{rising_weaker, rising_last, rising_take, rising_rest}
use Rattle.block.specs.Block.{fitting, due, goes_on}
use Rattle.block.proofs.Due.{goes_on_some, due_high}
use Rattle.card.specs.Layout.{block_size, place_count, start_of_old, length_of_old, length_of_new, old_places}
use Rattle.card.proofs.Circle.{around_drop}
use Rattle.card.proofs.Facts.{Facts}
use Rattle.card.proofs.Frame.{Alike}
use Rattle.update.specs.Step.{spent, next_boundary, freed, grown, crowded}
use Rattle.update.specs.Forecast.{free_writes}
use Rattle.update.proofs.Configuration.{gone_length, configuration_on}
use Rattle.update.proofs.Frame.{spent_same, size_alike, count_alike, old_length_alike, freed_alike}
use Rattle.update.proofs.Grown.{Remaining, DueWritten}
use Rattle.update.proofs.Segments.{with_segments, segments_size, segments_count, segments_old, segments_old_places, segments_same}
use Rattle.update.proofs.Spent.{spent_passed}
use Rattle.update.proofs.Writes.{written}

-- a write of something leaves a place free where number 8 does not stand
free_place : (c r : List ℕ) → 0 < length r → leb (place_count c) (length_of_old c - freed c r + suc (length_of_new c)) ≡ crowded c r
unfolding crowded grown freed
free_place c r h = rw (ne_eqb (length r) 0 (omega arith)) (ap (leb (place_count c)) (go (goes_on (block_size c) r) refl))
  where
    go : (t : Bool) → goes_on (block_size c) r ≡ t → length_of_old c - freed c r + suc (length_of_new c) ≡ cond t (length_of_old c - freed c r) 0 + (length_of_new c + 1)
    go true e = omega arith
    go false e = rw e (omega arith)

-- so the first of the writes does, and then those of the pairs beyond it
pub free_writes_first : (c r : List ℕ) (n : ℕ) → 0 < length r →
    free_writes c (suc n) (length_of_new c) r ≡ cond (crowded c r) 0 (suc (free_writes c n (suc (length_of_new c)) (drop (fitting (block_size c) 0 r) r)))
unfolding free_writes
free_writes_first c r n h = ap (λ t. cond t 0 (suc (free_writes c n (suc (length_of_new c)) (drop (fitting (block_size c) 0 r) r)))) (free_place c r h)

-- two cards of one shape, on which writes of pairs beyond k leave as many places old
pub record Beyond (k : ℕ) (c d : List ℕ) : Type 0 where
  pub size : block_size d ≡ block_size c
  pub count : place_count d ≡ place_count c
  pub left : (r : List ℕ) → rising_from k r ≡ true → length_of_old d - freed d r ≡ length_of_old c - freed c r

-- on them as many writes leave a place free
pub free_writes_beyond : (k : ℕ) (c d : List ℕ) → Beyond k c d → (n m : ℕ) (r : List ℕ) → rising_from k r ≡ true → free_writes d n m r ≡ free_writes c n m r
unfolding free_writes
free_writes_beyond k c d s zero m r h = refl
free_writes_beyond k c d s (suc n) m r h =
    let i : ℕ = fitting (block_size c) 0 r in
    let rest : rising_from k (drop i r) ≡ true = rising_weaker (drop i r) k _ (rising_last _ k (rising_take i r k h)) (rising_rest i r k h) in
    rw (s.size, s.count, s.left r h, free_writes_beyond k c d s n (suc m) (drop i r) rest)

-- words in free places leave them so
pub beyond_alike : (k : ℕ) (c d : List ℕ) → Alike c d → Beyond k c d
beyond_alike k c d a =
    record {
      size = size_alike c d a;
      count = count_alike c d a;
      left = λ r h. rw (old_length_alike c d a, freed_alike c d a r);
    }

-- so does a configuration write that goes on: what it has freed a later one need not free
pub beyond_on : (c r : List ℕ) → Facts c → Remaining c r → (0 < length r → DueWritten c r) → goes_on (block_size c) r ≡ true →
    Beyond (last 0 (due (block_size c) r)) c (written c r 3)
unfolding freed next_boundary
beyond_on c r f m ready on =
    rw (configuration_on c r f m ready on)
    (record {
      size = segments_size c s o n k f;
      count = segments_count c s o n k f;
      left = λ q h. go q h (goes_on (block_size c) q) refl;
    })
  where
    k : ℕ
    k = last 0 (due (block_size c) r)

    gone : ℕ
    gone = spent c k (old_places c)

    s : ℕ
    s = start_of_old c + gone

    o : ℕ
    o = length_of_old c - gone

    n : ℕ
    n = grown c r

    d : List ℕ
    d = with_segments c s o n k

    few : gone ≤ length_of_old c
    few = gone_length c r f m ready on

    old : old_places d ≡ drop gone (old_places c)
    old = segments_old_places c s o n k f ∙ sym (around_drop (place_count c) (start_of_old c) gone (length_of_old c) few)

    go : (q : List ℕ) → rising_from k q ≡ true → (t : Bool) → goes_on (block_size c) q ≡ t → length_of_old d - freed d q ≡ length_of_old c - freed c q
    go q h true e =
        let j : ℕ = last 0 (due (block_size c) q) in
        let far : k ≤ j = due_high (block_size c) k q (omega (arith, f.size_low)) (goes_on_some (block_size c) q e) h in
        rw (segments_size c s o n k f, e, old, segments_old c s o n k f, spent_same c d j (drop gone (old_places c)) (each_all _ (segments_same c s o n k f) (drop gone (old_places c))))
        (omega (arith, few, spent_passed c k j (old_places c) (spent c k (old_places c)) far (omega arith)))
    go q h false e = rw (segments_size c s o n k f, e) (omega arith)
