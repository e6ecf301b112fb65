-- The walk that a lookup makes: what is ahead of it is what is found, and its first run is the run view's.
use Prim.Native.Nat.{ℕ, zero, suc, ◌+◌, ◌≤◌, ◌<◌}
use native.Mathlib.Omega.{arith}
use mathlib.Core.Path.{◌≡◌, refl, sym, ap, ◌∙◌}
use mathlib.Core.Bool.{Bool, true, false, ◌&&◌, and-false}
use mathlib.Core.List.{List, [], ◌∷◌, ◌++◌, map, map-append}
use borrow.Author.Tests.{leb-true, lt-ltb, lt-leb, eq-eqb}
use lib.ListN.{length, length-append, length-map}
use lib.Dec.{ltb, leb}
use Rattle.pair.specs.Rank.{word_limit, rank, position, Words}
use Rattle.pair.specs.Rising.{keep, above, within}
use Rattle.pair.proofs.Keep.{keep_append, keep_same, keep_keep, length_keep}
use Rattle.block.specs.Block.{pairs, words_before}
use Rattle.wanted.specs.code.Wanted.{is_wanted}
use Rattle.card.specs.Layout.{place_count, start_of_old, length_of_old, length_of_new, boundary, place_at, place, around, old_places, new_places, pairs_at, live}
use Rattle.card.specs.code.Configuration.{ConfigurationOf, place_on, Ordered}
use Rattle.card.specs.declared.layout.Configuration.{Configuration}
use Rattle.card.proofs.Circle.{length_around}
use Rattle.card.proofs.Facts.{Facts, facts}
use Rattle.card.proofs.Live.{length_pairs_at}
use Rattle.card.proofs.Ordered.{ordered_sound, around_on}
use Rattle.found.specs.declared.walk.Stretch.{Stretch}
use Rattle.found.specs.declared.walk.Walk.{Walk}
use Rattle.found.specs.Found.{found, blocks_read, question_number}
use Rattle.found.specs.Views.{run_at, run, run_start_at, run_start}
use Rattle.found.specs.code.Segment.{SoundSegment, spanned, LiveAfter, LookupWalk}
use Rattle.found.specs.code.Walk.{postings, at_first, run_of, run_start_of, places_of, ahead, next_run, next_start}
use Rattle.found.proofs.Answers.{Asked, asked}
use Rattle.found.proofs.Unread.{Same, span_same, span_ready}

words_same : (f g : ℕ → Bool) → ((x : ℕ) → f x ≡ g x) → (ws : List ℕ) (t n : ℕ) → words_before f ws t n ≡ words_before g ws t n
unfolding words_before
words_same f g h [] t n = refl
words_same f g h (p ∷ ws) t (suc n) = rw (h (rank t p), words_same f g h ws t n)
words_same f g h (a ∷ []) t zero = refl
words_same f g h (a ∷ b ∷ []) t zero = refl
words_same f g h (a ∷ b ∷ p ∷ ws) t zero = rw (words_same f g h (p ∷ ws) a b)

-- the wanted pairs of a segment are its pairs from a to z above the bound
module _ (c : List ℕ) (k a z : ℕ) (f : ℕ → Bool) (h : (x : ℕ) → f x ≡ (ltb k x && (leb a x && leb x z))) where
  turned : (x y w : Bool) → (x && (y && w)) ≡ ((y && w) && x)
  turned true true true = refl
  turned true true false = refl
  turned true false w = refl
  turned false y w = sym (and-false (y && w))

  joined : (x y w : Bool) → (x && (y && w)) ≡ ((x && y) && w)
  joined true y w = refl
  joined false y w = refl

  above_within : (xs : List ℕ) → keep f xs ≡ above k (within a z xs)
  unfolding above within
  above_within xs =
      keep_same f (λ x. (leb a x && leb x z) && ltb k x) (λ x. h x ∙ turned (ltb k x) (leb a x) (leb x z)) xs
      ∙ sym (keep_keep (ltb k) (λ x. leb a x && leb x z) xs)

  within_above : (xs : List ℕ) → keep f xs ≡ within a z (above k xs)
  unfolding above within
  within_above xs = keep_same f (λ x. ltb k x && (leb a x && leb x z)) h xs ∙ sym (keep_keep (λ x. leb a x && leb x z) (ltb k) xs)

  run_at_law : (is none : List ℕ) → run_at c k a z is none ≡ run_of c f is none
  unfolding run_at at_first
  run_at_law [] none = refl
  run_at_law (i ∷ is) none = rw (← above_within (pairs (place c i)), run_at) (go (keep f (pairs (place c i))) refl (run_at_law is none))
    where
      go :
          (ks : List ℕ) → keep f (pairs (place c i)) ≡ ks → run_at c k a z is none ≡ run_of c f is none →
          ◌≡◌ {A = List ℕ} (elim ks [ [] ↦ run_at c k a z is none | x ∷ xs ↦ map position (x ∷ xs) ])
          (elim ks [ [] ↦ run_of c f is none | x ∷ xs ↦ map position (keep f (pairs (place c i))) ])
      go [] e ih = ih
      go (x ∷ xs) e ih = ap (map position) (sym e)

  start_at : (is : List ℕ) (none : ℕ) → run_start_at c k a z is none ≡ run_start_of c f is none
  unfolding run_start_at at_first
  start_at [] none = refl
  start_at (i ∷ is) none = rw (← above_within (pairs (place c i)), run_start_at) (go (keep f (pairs (place c i))) (start_at is none))
    where
      go :
          (ks : List ℕ) → run_start_at c k a z is none ≡ run_start_of c f is none →
          ◌≡◌ {A = ℕ} (elim ks [ [] ↦ run_start_at c k a z is none | x ∷ xs ↦ place_at c i + words_before (λ y. ltb k y && leb a y && leb y z) (place c i) 0 0 ])
          (elim ks [ [] ↦ run_start_of c f is none | x ∷ xs ↦ place_at c i + words_before f (place c i) 0 0 ])
      go [] ih = ih
      go (x ∷ xs) ih = ap (λ n. place_at c i + n) (words_same (λ y. ltb k y && leb a y && leb y z) f (λ y. sym (h y ∙ joined (ltb k y) (leb a y) (leb y z))) (place c i) 0 0)

-- what is found is short
few_found : (c : List ℕ) (t a z : ℕ) → Words c → Facts c → length (found c t a z) < word_limit
unfolding found live within above
few_found c t a z w g =
    rw (length-map)
    (omega (
      arith,
      length_keep (λ x. leb (rank t a) x && leb x (rank t z)) (pairs_at c (new_places c) ++ keep (ltb (boundary c)) (pairs_at c (old_places c))),
      length-append (pairs_at c (new_places c)) (keep (ltb (boundary c)) (pairs_at c (old_places c))),
      length_keep (ltb (boundary c)) (pairs_at c (old_places c)),
      length_pairs_at c (new_places c) w g.size_high,
      length_pairs_at c (old_places c) w g.size_high,
      length_around (place_count c) (start_of_old c) (length_of_old c),
      length_around (place_count c) (start_of_old c + length_of_old c) (length_of_new c),
      g.room,
      g.count_high,
    ))

-- a pair below the range is not wanted, nor one above it
module _ {t a z b r : ℕ} (l : LiveAfter t a z b r) where
  not_below : (x : ℕ) → x < rank t a → is_wanted t r z x ≡ false
  not_below x h = l.same x ∙ rw (lt-leb (rank t a) x h) (and-false (ltb b x))

  not_above : (x : ℕ) → rank t z < x → is_wanted t r z x ≡ false
  not_above x h = l.same x ∙ rw (lt-leb x (rank t z) h, and-false (leb (rank t a) x)) (and-false (ltb b x))

-- The segments as the code names them, by the configuration in hand.
module _ {c : List ℕ} {k : Configuration} (g : Facts c) (i : ConfigurationOf c k) where
  abbrev o : Ordered c k
  o = ordered_sound g i

  abbrev newStart : ℕ
  newStart = place_on k.places k.old_start k.old_length

  pub new_places_law : around (place_count c) newStart k.new_length ≡ new_places c
  new_places_law = rw (o.of_start, o.of_old, o.of_new) (around_on o (start_of_old c) (length_of_old c) (length_of_new c))

  pub old_places_law : around (place_count c) k.old_start k.old_length ≡ old_places c
  old_places_law = rw (o.of_start, o.of_old)

  pub new_segment : SoundSegment c k newStart k.new_length
  new_segment = record { ordered = o; sound = rw new_places_law g.new_sound; rises = rw new_places_law g.new_rising }

  pub old_segment : SoundSegment c k k.old_start k.old_length
  old_segment = record { ordered = o; sound = rw old_places_law g.old_sound; rises = rw old_places_law g.old_rising }

module _ (c : List ℕ) (k : Configuration) (t a z r q : ℕ) (w : Words c) (e : question_number c t a z ≡ 0) (i : ConfigurationOf c k) (l : LiveAfter t a z 0 r) (m : LiveAfter t a z (boundary c) q) where
  abbrev newSpan : Stretch
  newSpan = spanned c (place_on k.places k.old_start k.old_length) k.new_length t a z r

  abbrev oldSpan : Stretch
  oldSpan = spanned c k.old_start k.old_length t a z q

  abbrev walk : Walk
  walk = record { term = t; to = z; new = newSpan; old = oldSpan }

  b : Asked c t a z
  b = asked c t a z e

  g : Facts c
  g = facts c b.sound

  new : Same c (is_wanted t r z) (new_places c) (places_of c newSpan)
  new = rw (new_places_law g i) at (span_same c k _ k.new_length t a z r (new_segment g i) b.range (is_wanted t r z) (not_below l) (not_above l))

  old : Same c (is_wanted t q z) (old_places c) (places_of c oldSpan)
  old = rw (old_places_law g i) at (span_same c k _ k.old_length t a z q (old_segment g i) b.range (is_wanted t q z) (not_below m) (not_above m))

  -- every new pair from a to z is above 0
  plain : (x : ℕ) → is_wanted t r z x ≡ (leb (rank t a) x && leb x (rank t z))
  plain x = l.same x ∙ go (leb (rank t a) x) refl
    where
      go : (s : Bool) → leb (rank t a) x ≡ s → (ltb 0 x && (s && leb x (rank t z))) ≡ (s && leb x (rank t z))
      go true y = let n : rank t a ≤ x = leb-true (rank t a) x y in rw (lt-ltb 0 x (omega (arith, b.from_low)))
      go false y = and-false (ltb 0 x)

  is_found : ahead c walk ≡ found c t a z
  unfolding found live postings within spanned
  is_found =
      rw (← new.kept, ← old.kept)
      (rw (keep_same (is_wanted t r z) (λ x. leb (rank t a) x && leb x (rank t z)) plain (pairs_at c (new_places c)), within_above c (boundary c) (rank t a) (rank t z) (is_wanted t q z) m.same (pairs_at c (old_places c)))
      (sym (ap (map position) (keep_append (λ x. leb (rank t a) x && leb x (rank t z)) (pairs_at c (new_places c)) (above (boundary c) (pairs_at c (old_places c))))
      ∙ map-append _ (keep (λ x. leb (rank t a) x && leb x (rank t z)) (pairs_at c (new_places c))) (keep (λ x. leb (rank t a) x && leb x (rank t z)) (above (boundary c) (pairs_at c (old_places c)))))))

  is_run : next_run c walk ≡ run c t a z
  unfolding run spanned
  is_run =
      let F = is_wanted t r z in
      let G = is_wanted t q z in
      rw (eq-eqb (question_number c t a z) 0 e, ← new.run, ← old.run)
      (sym (run_at_law c 0 (rank t a) (rank t z) F l.same (new_places c) _
      ∙ ap (run_of c F (new_places c)) (run_at_law c (boundary c) (rank t a) (rank t z) G m.same (old_places c) [])))

  is_start : next_start c walk ≡ run_start c t a z
  unfolding run_start spanned
  is_start =
      let F = is_wanted t r z in
      let G = is_wanted t q z in
      rw (eq-eqb (question_number c t a z) 0 e, ← new.start, ← old.start)
      (sym (start_at c 0 (rank t a) (rank t z) F l.same (new_places c) _
      ∙ ap (run_start_of c F (new_places c)) (start_at c (boundary c) (rank t a) (rank t z) G m.same (old_places c) 0)))

  pub opened_walk : LookupWalk c t a z walk
  opened_walk =
      record {
        ready =
            record {
              new = span_ready c k _ k.new_length t a z r (new_segment g i) b.range;
              old = span_ready c k _ k.old_length t a z q (old_segment g i) b.range;
            };
        found = is_found;
        few = rw is_found (few_found c t a z w g);
        blocks = unfold spanned blocks_read in rw (new_places_law g i, old_places_law g i);
        run = is_run;
        start = is_start;
      }
