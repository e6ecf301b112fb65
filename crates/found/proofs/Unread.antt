-- The blocks of a segment that a lookup does not read hold nothing wanted, so that what is wanted of the segment is wanted of the defined span.
use Prim.Native.Nat.{ℕ, zero, suc, ◌+◌, ◌-◌, ◌%◌, ◌≤◌, ◌<◌, zero-le}
use native.Mathlib.Nat.{mod-lt}
use native.Mathlib.Omega.{arith}
use mathlib.Core.Path.{◌≡◌, refl, sym, ap, ◌∙◌}
use mathlib.Core.Bool.{Bool, true, false, cond, ◌&&◌, ◌||◌}
use mathlib.Core.List.{List, [], ◌∷◌, ◌++◌, append-nil}
use mathlib.Core.Logic.{inr}
use borrow.Author.Tests.{leb-true, leb-false, le-leb, ltb-true, lt-ltb}
use lib.ListN.{length, take, drop, get_or, take-append-drop}
use lib.Seq.{drop-drop}
use lib.Dec.{ltb, leb, eqb}
use Rattle.pair.specs.Rank.{rank}
use Rattle.pair.specs.Rising.{Each, keep, rising_from, last}
use Rattle.pair.proofs.Each.{each_imply, each_take, each_drop}
use Rattle.pair.proofs.Keep.{keep_append, keep_none}
use Rattle.pair.proofs.Parts.{at_most_all, each_at_most}
use Rattle.pair.proofs.Rising.{rising_last}
use Rattle.pair.proofs.Sets.{rising_Each}
use Rattle.pair.proofs.Tests.{and_left, and_right, or_intro}
use Rattle.block.specs.Block.{pairs, formed}
use Rattle.card.specs.Layout.{place_count, first_pair, place, around, pairs_at}
use Rattle.card.specs.Sound.{blocks_sound}
use Rattle.card.specs.code.Configuration.{place_on}
use Rattle.card.specs.declared.layout.Configuration.{Configuration}
use Rattle.card.proofs.Circle.{around_drop, around_mod, length_around}
use Rattle.card.proofs.Live.{pairs_at_append}
use Rattle.card.proofs.Ordered.{place_on_law}
use Rattle.found.specs.Found.{mapped_to, span}
use Rattle.found.specs.code.Segment.{SoundSegment, spanned}
use Rattle.found.specs.code.Walk.{at_first, run_of, run_start_of, places_of, Ready}
use Rattle.found.proofs.Span.{First, first, mapped_none, mapped_leading}
use Rattle.found.proofs.Walking.{first_append, first_none}

-- nothing at the place passes the test
abbrev Empty : List ℕ → (ℕ → Bool) → ℕ → Type 0
Empty c f i = keep f (pairs (place c i)) ≡ []

-- places whose pairs lie above z
module _ (c : List ℕ) (f : ℕ → Bool) (z : ℕ) (h : (x : ℕ) → z < x → f x ≡ false) where
  none_here : {j i : ℕ} {is : List ℕ} → First c j i is → z < first_pair c i → Empty c f i
  none_here {i = i} d l =
      keep_none f (pairs (place c i)) (each_imply (λ x. first_pair c i - 1 < x) (λ x. f x ≡ false) (λ x q. h x (omega arith)) (pairs (place c i)) (rising_Each (pairs (place c i)) (first_pair c i - 1) d.from))

  none_above : (is : List ℕ) (j : ℕ) → blocks_sound c is ≡ true → rising_from j (pairs_at c is) ≡ true → z ≤ j → Each (Empty c f) is
  none_above [] j s r l = tt
  none_above (i ∷ is) j s r l =
      let d = first c j i is s r in (
        none_here d (omega (arith, d.low)),
        none_above is (last j (pairs (place c i))) d.sound d.behind (omega (arith, rising_last (pairs (place c i)) j d.rises)),
      )

  -- behind the last place with a map pair of at most z
  none_behind : (is : List ℕ) (j : ℕ) → blocks_sound c is ≡ true → rising_from j (pairs_at c is) ≡ true → Each (Empty c f) (drop (mapped_to c z is) is)
  none_behind [] j s r = unfold mapped_to in tt
  none_behind (i ∷ is) j s r =
      let d = first c j i is s r in
      rw (mapped_leading c z j i is s r)
      (go d (leb (first_pair c i) z) refl (none_behind is (last j (pairs (place c i))) d.sound d.behind))
    where
      go : First c j i is → (b : Bool) → leb (first_pair c i) z ≡ b → Each (Empty c f) (drop (mapped_to c z is) is) → Each (Empty c f) (drop (cond b (suc (mapped_to c z is)) 0) (i ∷ is))
      go d true e ih = ih
      go d false e ih =
          let l : z < first_pair c i = leb-false (first_pair c i) z e in
          (none_here d l, none_above is (last j (pairs (place c i))) d.sound d.behind (omega (arith, d.high)))

-- before the last place with a map pair of at most a
none_before :
    (c : List ℕ) (f : ℕ → Bool) (a : ℕ) → ((x : ℕ) → x < a → f x ≡ false) → (is : List ℕ) (j : ℕ) → blocks_sound c is ≡ true →
    rising_from j (pairs_at c is) ≡ true → Each (Empty c f) (take (mapped_to c a is - 1) is)
none_before c f a h [] j s r = unfold mapped_to in tt
none_before c f a h (i ∷ is) j s r =
    let d = first c j i is s r in
    let m = last j (pairs (place c i)) in
    rw (mapped_leading c a j i is s r)
    (go (leb (first_pair c i) a) (mapped_to c a is) d (mapped_none c a m is d.sound d.behind) (none_before c f a h is m d.sound d.behind))
  where
    top : ℕ
    top = last j (pairs (place c i))

    over : (n : ℕ) → (a ≤ top → suc n ≡ 0) → (b : Bool) → leb a top ≡ b → top < a
    over n m true e = absurd (omega (arith, m (leb-true a top e)))
    over n m false e = leb-false a top e

    -- where a place behind it has such a map pair, the place ends below a
    go :
        (b : Bool) (n : ℕ) → First c j i is → (a ≤ top → n ≡ 0) → Each (Empty c f) (take (n - 1) is) →
        Each (Empty c f) (take (cond b (suc n) 0 - 1) (i ∷ is))
    go false n d m ih = tt
    go true zero d m ih = tt
    go true (suc n) d m ih =
        let e : suc (suc n) - 1 ≡ suc (suc n - 1) = omega arith in
        let less : top < a = over n m (leb a top) refl in
        let most : Each (λ x. x ≤ top) (pairs (place c i)) = rw (at_most_all (pairs (place c i)) top j d.rises (omega arith)) at (each_at_most top (pairs (place c i))) in
        rw e
        (keep_none f (pairs (place c i)) (each_imply (λ x. x ≤ top) (λ x. f x ≡ false) (λ x q. h x (omega arith)) (pairs (place c i)) most), ih)

kept_none : (c : List ℕ) (f : ℕ → Bool) (is : List ℕ) → Each (Empty c f) is → keep f (pairs_at c is) ≡ []
unfolding pairs_at keep
kept_none c f [] e = refl
kept_none c f (i ∷ is) e = keep_append f (pairs (place c i)) (pairs_at c is) ∙ rw (e.0, kept_none c f is e.1)

-- the places is, with js in the middle, the others being empty
pub record Same (c : List ℕ) (f : ℕ → Bool) (is js : List ℕ) : Type 0 where
  pub kept : keep f (pairs_at c is) ≡ keep f (pairs_at c js)
  pub run : (none : List ℕ) → run_of c f is none ≡ run_of c f js none
  pub start : (none : ℕ) → run_start_of c f is none ≡ run_start_of c f js none

same_middle : (c : List ℕ) (f : ℕ → Bool) (xs js ys : List ℕ) → Each (Empty c f) xs → Each (Empty c f) ys → Same c f (xs ++ (js ++ ys)) js
same_middle c f xs js ys e g =
    record {
      kept =
          rw (pairs_at_append c xs (js ++ ys), pairs_at_append c js ys, keep_append f (pairs_at c xs) (pairs_at c js ++ pairs_at c ys), keep_append f (pairs_at c js) (pairs_at c ys), kept_none c f xs e, kept_none c f ys g)
          (append-nil (keep f (pairs_at c js)));
      run = middle _;
      start = middle _;
    }
  where
    middle : {A : Type 0} (has : ℕ → A) (none : A) → at_first c f has (xs ++ (js ++ ys)) none ≡ at_first c f has js none
    middle has none =
        first_append c f has xs (js ++ ys) none ∙ first_none c f has xs _ (kept_none c f xs e)
        ∙ first_append c f has js ys none ∙ ap (at_first c f has js) (first_none c f has ys none (kept_none c f ys g))

cut : (is : List ℕ) (a b : ℕ) → a ≤ b → take a is ++ (take (b - a) (drop a is) ++ drop b is) ≡ is
cut is a b h =
    let e : a + (b - a) ≡ b = omega arith in
    ap (λ l. take a is ++ (take (b - a) (drop a is) ++ l)) (ap (λ n. drop n is) (sym e) ∙ sym (drop-drop (b - a) a is))
    ∙ ap (λ l. take a is ++ l) (take-append-drop (b - a) (drop a is))
    ∙ take-append-drop a is

mapped_order : (c : List ℕ) (a z : ℕ) (is : List ℕ) → a ≤ z → mapped_to c a is ≤ mapped_to c z is
unfolding mapped_to
mapped_order c a z [] h = omega arith
mapped_order c a z (i ∷ is) h =
    let rest : mapped_to c a is ≤ mapped_to c z is = mapped_order c a z is h in
    counts (leb (first_pair c i) a || ltb 0 (mapped_to c a is)) (leb (first_pair c i) z || ltb 0 (mapped_to c z is)) (mapped_to c a is) (mapped_to c z is)
    (λ f. go (leb (first_pair c i) a) (ltb 0 (mapped_to c a is)) refl refl f rest) rest
  where
    counts : (s u : Bool) (m n : ℕ) → (s ≡ true → u ≡ true) → m ≤ n → cond s (suc m) 0 ≤ cond u (suc n) 0
    counts true u m n h l = rw (h refl) (omega arith)
    counts false u m n h l = zero-le

    go : (s b : Bool) → leb (first_pair c i) a ≡ s → ltb 0 (mapped_to c a is) ≡ b → (s || b) ≡ true → mapped_to c a is ≤ mapped_to c z is → (leb (first_pair c i) z || ltb 0 (mapped_to c z is)) ≡ true
    go true b e g f ih = let l : first_pair c i ≤ a = leb-true (first_pair c i) a e in rw (le-leb (first_pair c i) z (omega arith))
    go false b e g f ih = let l : 0 < mapped_to c a is = ltb-true 0 (mapped_to c a is) (g ∙ f) in or_intro (leb (first_pair c i) z) (ltb 0 (mapped_to c z is)) (inr (lt-ltb 0 (mapped_to c z is) (omega arith)))

mapped_most : (c : List ℕ) (z : ℕ) (is : List ℕ) → mapped_to c z is ≤ length is
unfolding mapped_to
mapped_most c z [] = omega arith
mapped_most c z (i ∷ is) = go (leb (first_pair c i) z || ltb 0 (mapped_to c z is)) (mapped_most c z is)
  where
    go : (s : Bool) → mapped_to c z is ≤ length is → cond s (suc (mapped_to c z is)) 0 ≤ suc (length is)
    go true ih = omega arith
    go false ih = zero-le

around_take : (n s l m : ℕ) → m ≤ l → take m (around n s l) ≡ around n s m
unfolding around
around_take n s l zero h = refl
around_take n s zero (suc m) h = absurd (omega arith)
around_take n s (suc l) (suc m) h = ap (λ k. s % n ∷ k) (around_take n (s + 1) l m (omega arith))

sound_live : (c is : List ℕ) → blocks_sound c is ≡ true → Each (λ i. formed (place c i) ≡ true) is
unfolding blocks_sound
sound_live c [] s = tt
sound_live c (i ∷ is) s =
    let whole = and_left (formed (place c i) && eqb (first_pair c i) (get_or (pairs (place c i)) 0 0)) (blocks_sound c is) s in
    (and_left (formed (place c i)) (eqb (first_pair c i) (get_or (pairs (place c i)) 0 0)) whole, sound_live c is (and_right (formed (place c i) && eqb (first_pair c i) (get_or (pairs (place c i)) 0 0)) (blocks_sound c is) s))

-- the span of a segment
module _ (c : List ℕ) (k : Configuration) (start len t a z after : ℕ) (g : SoundSegment c k start len) (h : a ≤ z) where
  abbrev is : List ℕ
  is = around (place_count c) start len

  abbrev skipped : ℕ
  skipped = mapped_to c (rank t a) is - 1

  abbrev read : ℕ
  read = mapped_to c (rank t z) is

  order : skipped ≤ read
  order = omega (arith, mapped_order c (rank t a) (rank t z) is (omega arith))

  most : read ≤ len
  most = rw length_around at (mapped_most c (rank t z) is)

  places : places_of c (spanned c start len t a z after) ≡ take (read - skipped) (drop skipped is)
  unfolding spanned span
  places =
      around_mod (place_count c) (start + skipped) (read - skipped)
      ∙ sym (ap (take (read - skipped)) (around_drop (place_count c) start skipped len (omega (arith, order, most)))
      ∙ around_take (place_count c) (start + skipped) (len - skipped) (read - skipped) (omega (arith, order, most)))

  pub span_same : (f : ℕ → Bool) → ((x : ℕ) → x < rank t a → f x ≡ false) → ((x : ℕ) → rank t z < x → f x ≡ false) → Same c f is (places_of c (spanned c start len t a z after))
  span_same f l u =
      rw places
      (rw (cut is skipped read order) at
      (same_middle c f (take skipped is) (take (read - skipped) (drop skipped is)) (drop read is) (none_before c f (rank t a) l is 0 g.sound g.rises) (none_behind c f (rank t z) u is 0 g.sound g.rises)))

  pub span_ready : Ready c (spanned c start len t a z after)
  span_ready =
      record {
        shape = λ q. g.ordered.shaped;
        within = λ q. unfold spanned in mod-lt (start + skipped) (omega (arith, g.ordered.shaped.count_low));
        live = rw places (each_take (λ i. formed (place c i) ≡ true) (read - skipped) (drop skipped is) (each_drop (λ i. formed (place c i) ≡ true) skipped is (sound_live c is g.sound)));
      }

-- what the code answers, by two searches of the map, is the span
module _ {c : List ℕ} {k : Configuration} {start len i m j skip read : ℕ} (t a z : ℕ) (g : SoundSegment c k start len) (h : a ≤ z) (ei : i ≡ rank t a) (em : m ≡ mapped_to c i (around (place_count c) start len)) (es : skip ≡ m - 1) (ej : j ≡ rank t z) (er : read ≡ mapped_to c j (around (place_count c) start len)) where
  pub skips_at_most : skip ≤ read
  skips_at_most = rw (es, em, ei, er, ej) (order c k start len t a z 0 g h)

  pub spanned_is : {p : ℕ} (after : ℕ) → p ≡ place_on k.places start skip → record { place = p; blocks = read - skip; after = after } ≡ spanned c start len t a z after
  unfolding spanned span
  spanned_is after q = rw (q, place_on_law g.ordered start skip, es, em, ei, er, ej)
