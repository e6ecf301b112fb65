-- The map of a segment: its pairs rise, so that it is searched by halving.
use Prim.Native.Nat.{ℕ, zero, suc, ◌+◌, ◌-◌, ◌%◌, ◌≤◌, ◌<◌, zero-le}
use native.Mathlib.Nat.{add-zero}
use native.Mathlib.Omega.{arith}
use mathlib.Core.Path.{◌≡◌, refl, sym, ap, ◌∙◌}
use mathlib.Core.Bool.{Bool, true, false, cond, ◌&&◌, and-false}
use mathlib.Core.List.{List, [], ◌∷◌, map}
use borrow.Author.Tests.{ltb-true, leb-true, leb-false, lt-ltb, le-ltb, le-leb, eqb-true, eqb-false}
use lib.ListN.{length, get_or, length-map}
use lib.Dec.{ltb, leb, eqb}
use Rattle.pair.specs.Rank.{word_limit, rank, term, position}
use Rattle.pair.specs.Rising.{keep, at_most, rising_from, last}
use Rattle.pair.specs.declared.Pair.{Pair}
use Rattle.pair.proofs.Parts.{at_most_none}
use Rattle.pair.proofs.Rising.{rising_cons, rising_weaker, rising_tail}
use Rattle.pair.proofs.Tests.{and_left, and_right}
use Rattle.pair.proofs.Search.{Halved, halved_start, halved_up, halved_down, halved_end}
use Rattle.block.specs.Block.{pairs}
use Rattle.card.specs.Layout.{place_count, first_pair, place, around, pairs_at}
use Rattle.card.specs.Sound.{blocks_sound}
use Rattle.card.specs.code.Configuration.{place_on, Ordered}
use Rattle.card.specs.declared.layout.Configuration.{Configuration}
use Rattle.card.proofs.Circle.{length_around}
use Rattle.card.proofs.Ordered.{place_on_law}
use Rattle.found.specs.Found.{mapped_to}
use Rattle.found.specs.code.Segment.{SoundSegment, LiveAfter}
use Rattle.found.proofs.Span.{first, mapped_leading}

mapped_rising : (c is : List ℕ) (j : ℕ) → blocks_sound c is ≡ true → rising_from j (pairs_at c is) ≡ true → rising_from j (map (first_pair c) is) ≡ true
unfolding rising_from
mapped_rising c [] j s r = refl
mapped_rising c (i ∷ is) j s r =
    let f = first c j i is s r in
    rising_cons (first_pair c i) (map (first_pair c) is) j f.low
    (rising_weaker (map (first_pair c) is) (first_pair c i) (last j (pairs (place c i))) f.high
    (mapped_rising c is (last j (pairs (place c i))) f.sound f.behind))

-- the places up to the last with a map pair of at most k are as many as have one
mapped_count :
    (c is : List ℕ) (j k : ℕ) → blocks_sound c is ≡ true → rising_from j (pairs_at c is) ≡ true →
    mapped_to c k is ≡ length (at_most k (map (first_pair c) is))
unfolding at_most keep
mapped_count c [] j k s r = unfold mapped_to in refl
mapped_count c (i ∷ is) j k s r =
    let f = first c j i is s r in
    let behind : rising_from (first_pair c i) (map (first_pair c) is) ≡ true = rising_tail (first_pair c i) (map (first_pair c) is) j (mapped_rising c (i ∷ is) j s r) in
    rw (mapped_leading c k j i is s r)
    (go (leb (first_pair c i) k) refl behind (mapped_count c is (last j (pairs (place c i))) k f.sound f.behind))
  where
    go :
        (s : Bool) → leb (first_pair c i) k ≡ s → rising_from (first_pair c i) (map (first_pair c) is) ≡ true →
        mapped_to c k is ≡ length (at_most k (map (first_pair c) is)) →
        cond s (suc (mapped_to c k is)) 0 ≡ length (cond s (first_pair c i ∷ at_most k (map (first_pair c) is)) (at_most k (map (first_pair c) is)))
    go true e b ih = ap suc ih
    go false e b ih =
        let l : k < first_pair c i = leb-false (first_pair c i) k e in
        sym (ap length (at_most_none (map (first_pair c) is) k (first_pair c i) (omega arith) b))

around_at : (n s l m : ℕ) → m < l → get_or (around n s l) m 0 ≡ (s + m) % n
unfolding around
around_at n s zero m h = absurd (omega arith)
around_at n s (suc l) zero h = rw add-zero
around_at n s (suc l) (suc m) h = around_at n (s + 1) l m (omega arith) ∙ (let e : s + 1 + m ≡ s + suc m = omega arith in rw e)

mapped_at : (c is : List ℕ) (m : ℕ) → m < length is → get_or (map (first_pair c) is) m 0 ≡ first_pair c (get_or is m 0)
mapped_at c [] m h = absurd (omega arith)
mapped_at c (i ∷ is) zero h = refl
mapped_at c (i ∷ is) (suc m) h = mapped_at c is m (omega arith)

-- the map pairs of the len places from start
abbrev pub mapped : List ℕ → ℕ → ℕ → List ℕ
mapped c start len = map (first_pair c) (around (place_count c) start len)

length_mapped : (c : List ℕ) (start len : ℕ) → length (mapped c start len) ≡ len
length_mapped c start len = length-map (around (place_count c) start len) (first_pair c) ∙ length_around (place_count c) start len

-- what is sought of the map of the len places from start lies from low to high
pub record Searching (c : List ℕ) (start len k low high : ℕ) : Type 0 where
  pub order : low ≤ high
  pub inside : high ≤ len
  pub half : Halved (mapped c start len) k low high

pub search_start : (c : List ℕ) (start len k : ℕ) → Searching c start len k 0 len
search_start c start len k =
    record { order = zero-le; inside = omega arith; half = rw (length_mapped c start len) at (halved_start (mapped c start len) k) }

module _ {c : List ℕ} {k : Configuration} {start len r low high m v : ℕ} (h : Searching c start len r low high) (o : Ordered c k) (l : low ≤ m) (u : m < high) (e : v ≡ first_pair c (place_on k.places start m)) where
  at_middle : v ≡ get_or (mapped c start len) m 0
  at_middle =
      let inside : m < len = omega (arith, h.inside) in
      e ∙ ap (first_pair c) (place_on_law o start m)
      ∙ sym (mapped_at c (around (place_count c) start len) m (rw length_around inside) ∙ ap (first_pair c) (around_at (place_count c) start len m inside))

  pub search_up : v ≤ r → Searching c start len r (m + 1) high
  search_up q = record { order = omega arith; inside = h.inside; half = halved_up h.half l u (omega (arith, at_middle)) }

  pub search_down : r < v → Searching c start len r low m
  search_down q = record { order = l; inside = omega (arith, h.inside); half = halved_down h.half l u (omega (arith, at_middle)) }

pub search_end :
    {c : List ℕ} {k : Configuration} {start len r low high : ℕ} → Searching c start len r low high → high ≤ low → SoundSegment c k start len →
    low ≡ mapped_to c r (around (place_count c) start len)
search_end {c} {k} {start} {len} {r} h l s =
    let rises = mapped_rising c (around (place_count c) start len) 0 s.sound s.rises in
    halved_end h.half l rises ∙ sym (mapped_count c (around (place_count c) start len) 0 r s.sound s.rises)

-- What is wanted of a segment whose pairs at or below the bound are not live. The bound's pair is of a later term,
pub live_beyond : {t a z b : ℕ} {last : Pair} → last ≡ record { term = term b; position = position b } → t < last.term → z < word_limit → LiveAfter t a z b z
live_beyond {t} {a} {z} {b} {last} q h l = record { same = λ x. go x (leb x (rank t z)) refl }
  where
    go : (x : ℕ) (s : Bool) → leb x (rank t z) ≡ s → (ltb (rank t z) x && s) ≡ (ltb b x && (leb (rank t a) x && s))
    go x true e =
        let m : x ≤ rank t z = leb-true x (rank t z) e in
        rw (le-ltb (rank t z) x m, le-ltb b x (omega (arith, ap (λ p. p.term) q)))
    go x false e = rw (and-false, and-false, and-false)

-- of the term and not below the range,
keeps : (a b y : Bool) → (a ≡ true → b ≡ true) → (a && y) ≡ (a && (b && y))
keeps true b y h = rw (h refl)
keeps false b y h = refl

pub live_bound :
    {t a z b : ℕ} {last : Pair} → last ≡ record { term = term b; position = position b } → (eqb last.term t && leb a last.position) ≡ true →
    LiveAfter t a z b last.position
live_bound {t} {a} {z} {b} {last} q e =
    let same : last.term ≡ t = eqb-true last.term t (and_left (eqb last.term t) (leb a last.position) e) in
    let low : a ≤ last.position = leb-true a last.position (and_right (eqb last.term t) (leb a last.position) e) in
    let whole : rank t last.position ≡ b = omega (arith, ap (λ p. p.term) q, ap (λ p. p.position) q) in
    record { same = λ x. rw whole (keeps (ltb b x) (leb (rank t a) x) (leb x (rank t z)) (λ g. let m : b < x = ltb-true b x g in le-leb (rank t a) x (omega arith))) }

-- or below the range.
adds : (a b y : Bool) → (b ≡ true → a ≡ true) → (b && y) ≡ (a && (b && y))
adds a true y h = rw (h refl)
adds a false y h = sym (and-false a)

pub live_from :
    {t a z b : ℕ} {last : Pair} → last ≡ record { term = term b; position = position b } → last.term ≤ t →
    (eqb last.term t && leb a last.position) ≡ false → 1 ≤ a → LiveAfter t a z b (a - 1)
live_from {t} {a} {z} {b} {last} q h e o =
    record {
      same = λ x.
          ap (λ y. y && leb x (rank t z)) (before x)
          ∙ adds (ltb b x) (leb (rank t a) x) (leb x (rank t z)) (λ g. let m : rank t a ≤ x = leb-true (rank t a) x g in lt-ltb b x (omega (arith, under)));
    }
  where
    under : b < rank t a
    under = go (eqb last.term t) (leb a last.position) refl refl e
      where
        whole : rank last.term last.position ≡ b
        whole = omega (arith, ap (λ p. p.term) q, ap (λ p. p.position) q)

        small : last.position < word_limit
        small = omega (arith, ap (λ p. p.position) q)

        go : (x y : Bool) → eqb last.term t ≡ x → leb a last.position ≡ y → (x && y) ≡ false → b < rank t a
        go false y f g k = let n : (last.term ≡ t → ⊥) = eqb-false last.term t f in let l : last.term < t = omega arith in omega (arith, whole, small)
        go true false f g k = let n : last.position < a = leb-false a last.position g in let l : last.term ≡ t = eqb-true last.term t f in omega (arith, whole)
        go true true f g k = absurd (let z : ◌≡◌ {A = ℕ} 0 1 = cc in omega arith)

    before : (x : ℕ) → ltb (rank t (a - 1)) x ≡ leb (rank t a) x
    before x = go (leb (rank t a) x) refl
      where
        go : (s : Bool) → leb (rank t a) x ≡ s → ltb (rank t (a - 1)) x ≡ s
        go true f = let m : rank t a ≤ x = leb-true (rank t a) x f in lt-ltb (rank t (a - 1)) x (omega arith)
        go false f = let m : x < rank t a = leb-false (rank t a) x f in le-ltb (rank t (a - 1)) x (omega arith)
