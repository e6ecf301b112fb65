-- The loops over the old segment: to the first pair above a rank, and over the places that have none.
use Prim.Native.Nat.{ℕ, suc, ◌+◌, ◌-◌, ◌%◌, ◌≤◌, ◌<◌, zero-le}
use native.Mathlib.Omega.{arith}
use native.Mathlib.Nat.{add-zero}
use mathlib.Core.Path.{◌≡◌, refl, sym, ◌∙◌}
use mathlib.Core.Bool.{Bool, true, false}
use mathlib.Core.List.{List, ◌∷◌}
use lib.ListN.{length, get_or}
use lib.Dec.{ltb, eqb}
use borrow.Author.Tests.{eqb-false, ne_eqb, lt-ltb, le-ltb}
use Rattle.pair.specs.Rank.{Words}
use Rattle.std.proofs.Common.{Some}
use Rattle.pair.specs.Rising.{keep, above, any, last}
use Rattle.pair.proofs.Parts.{above_all}
use Rattle.pair.proofs.Rising.{any_last, rising_cons}
use Rattle.block.specs.Block.{pairs, formed}
use Rattle.block.specs.code.Scan.{scanned}
use Rattle.block.specs.declared.Ends.{Ends}
use Rattle.block.proofs.Reading.{formed_rising}
use Rattle.card.specs.Layout.{place_count, start_of_old, length_of_old, place, around, old_places, pairs_at}
use Rattle.card.proofs.Circle.{around_cons}
use Rattle.card.proofs.Facts.{Facts}
use Rattle.card.proofs.Live.{place_words}
use Rattle.card.proofs.Ordered.{shaped}
use Rattle.update.specs.declared.old.OldCursor.{OldCursor}
use Rattle.update.specs.declared.old.Spent.{Spent}
use Rattle.update.specs.code.Old.{coming, pending, Stands, Advanced, Skipped, before_first, Freeing, EndsAt, Spends}
use Rattle.update.specs.Step.{spent}
use Rattle.update.proofs.Cursor.{place_block}

-- the cursor before the first pair: all old pairs are to come
pub before_first_coming : (c : List ℕ) → coming c (before_first c) ≡ pairs_at c (old_places c)
unfolding coming
before_first_coming c = unfold Rattle.block.specs.Block.pairs_from in refl

pub before_first_stands : (c : List ℕ) → Facts c → Stands c (before_first c)
before_first_stands c f =
    record {
      shaped = shaped f;
      inside = omega arith;
      ends = omega arith;
      short = omega (arith, f.size_low);
      within = f.start;
      reading = record { position = 0; formed = unfold Rattle.block.specs.Block.formed_from in refl };
      sound = f.old_sound;
      rising = rw (before_first_coming c) f.old_rising;
    }

pub record Skips (c : List ℕ) (o : OldCursor) (k : ℕ) (p : OldCursor) : Type 0 where
  pub stands : Stands c p
  pub same : above k (pending c o) ≡ above k (pending c p)

pub skips_start : {c : List ℕ} {o : OldCursor} → Stands c o → (k : ℕ) → Skips c o k o
skips_start s k = record { stands = s; same = refl }

there : (c : List ℕ) (p : OldCursor) → (p.rank ≡ 0 → ⊥) → pending c p ≡ p.rank ∷ coming c p
unfolding pending
there c p n = rw (ne_eqb p.rank 0 n)

pub skips_turn : {c : List ℕ} {o : OldCursor} {k : ℕ} {p r : OldCursor} → Skips c o k p → (p.rank ≡ 0 → ⊥) → p.rank ≤ k → Advanced c p r → Skips c o k r
skips_turn {c} {o} {k} {p} {r} s n l a = record { stands = a.stands; same = s.same ∙ rw (there c p n, a.next) (low (le-ltb k p.rank l)) }
  where
    low : ltb k p.rank ≡ false → above k (p.rank ∷ coming c p) ≡ above k (coming c p)
    low f = unfold above keep in rw f

pub skips_less : (c : List ℕ) (p r : OldCursor) → (p.rank ≡ 0 → ⊥) → Advanced c p r → length (pending c r) < length (pending c p)
skips_less c p r n a = rw (there c p n, a.next) (omega arith)

pub skips_end : {c : List ℕ} {o : OldCursor} {k : ℕ} {p : OldCursor} → Skips c o k p → ((p.rank ≡ 0 → ⊥) → k < p.rank) → Skipped c o k p
skips_end {c} {o} {k} {p} s e = record { stands = s.stands; next = sym (s.same ∙ go (eqb p.rank 0) refl) }
  where
    go : (t : Bool) → eqb p.rank 0 ≡ t → above k (pending c p) ≡ pending c p
    go true f = unfold pending above keep in rw f
    go false f =
        unfold pending in
        let l : k < p.rank = e (eqb-false p.rank 0 f) in
        rw f (above_all (p.rank ∷ coming c p) k k (omega arith) (rising_cons p.rank (coming c p) k l s.stands.rising))

pub freeing_start : (c : List ℕ) (k : ℕ) → Facts c → Freeing c k 0
freeing_start c k f =
    let a : start_of_old c + 0 ≡ start_of_old c = omega arith in
    let b : length_of_old c - 0 ≡ length_of_old c = omega arith in
    record { within = zero-le; sound = rw (a, b) f.old_sound; counted = rw (a, b) (omega arith) }

-- the block there is live
live_there : {c : List ℕ} {k n : ℕ} → Freeing c k n → n < length_of_old c → formed (place c ((start_of_old c + n) % place_count c)) ≡ true
live_there {c} {k} {n} s h = (place_block c ((start_of_old c + n) % place_count c) _ (rw (around_cons (place_count c) (start_of_old c) (length_of_old c) n h) at s.sound)).0

abbrev pub ends_at : List ℕ → ℕ → Ends
ends_at c i = record { first = get_or (pairs (place c i)) 0 0; last = last 0 (pairs (place c i)) }

pub scanned_there : {c : List ℕ} {k n : ℕ} → Freeing c k n → n < length_of_old c → let i = (start_of_old c + n) % place_count c in scanned (place c i) ≡ Some (ends_at c i)
unfolding scanned
scanned_there s h = rw (live_there s h)

-- its last pair tells whether it has one above k
reaches : {c : List ℕ} {k n : ℕ} → Freeing c k n → n < length_of_old c → Words c →
    any (ltb k) (pairs (place c ((start_of_old c + n) % place_count c))) ≡ ltb k (last 0 (pairs (place c ((start_of_old c + n) % place_count c))))
reaches {c} {k} {n} s h w =
    let i = (start_of_old c + n) % place_count c in
    any_last (pairs (place c i)) 0 k (formed_rising (place c i) (place_words c i w) (live_there s h)) zero-le

spent_none : (c : List ℕ) (k i : ℕ) (is : List ℕ) → any (ltb k) (pairs (place c i)) ≡ false → spent c k (i ∷ is) ≡ suc (spent c k is)
unfolding spent
spent_none c k i is e = rw e

spent_some : (c : List ℕ) (k i : ℕ) (is : List ℕ) → any (ltb k) (pairs (place c i)) ≡ true → spent c k (i ∷ is) ≡ 0
unfolding spent
spent_some c k i is e = rw e

pub freeing_turn :
    {c : List ℕ} {k n : ℕ} → Freeing c k n → n < length_of_old c → Words c → last 0 (pairs (place c ((start_of_old c + n) % place_count c))) ≤ k →
    Freeing c k (n + 1)
freeing_turn {c} {k} {n} s h w l =
    let i = (start_of_old c + n) % place_count c in
    let none : any (ltb k) (pairs (place c i)) ≡ false = reaches s h w ∙ le-ltb k (last 0 (pairs (place c i))) l in
    record {
      within = omega arith;
      sound = (place_block c i _ (rw (around_cons (place_count c) (start_of_old c) (length_of_old c) n h) at s.sound)).1;
      counted = s.counted ∙ rw (around_cons (place_count c) (start_of_old c) (length_of_old c) n h, spent_none c k i (around (place_count c) (start_of_old c + (n + 1)) (length_of_old c - (n + 1))) none) (omega arith);
    }

pub freeing_stop :
    {c : List ℕ} {k n : ℕ} → Freeing c k n → n < length_of_old c → Words c → k < last 0 (pairs (place c ((start_of_old c + n) % place_count c))) →
    n ≡ spent c k (old_places c)
freeing_stop {c} {k} {n} s h w l =
    let i = (start_of_old c + n) % place_count c in
    let some : any (ltb k) (pairs (place c i)) ≡ true = reaches s h w ∙ lt-ltb k (last 0 (pairs (place c i))) l in
    sym (s.counted ∙ rw (around_cons (place_count c) (start_of_old c) (length_of_old c) n h, spent_some c k i (around (place_count c) (start_of_old c + (n + 1)) (length_of_old c - (n + 1))) some) (add-zero n))

pub freeing_end : {c : List ℕ} {k n : ℕ} → Freeing c k n → length_of_old c ≤ n → n ≡ spent c k (old_places c)
freeing_end {c} {k} {n} s h =
    let a : length_of_old c - n ≡ 0 = omega arith in
    sym (s.counted ∙ rw a (unfold around spent in add-zero n))

-- the last pair of the place behind those that are spent, where it is told
pub ends_there : {c : List ℕ} {k : ℕ} {s : Spent} (l : ℕ) → Spends c k s → s.last ≡ Some l → EndsAt c s.count l
ends_there {c} {k} {s} l g e = rw e at g.known
