-- The rounds that a batch annuls: how many start at or below a position, and where these reach to.
use Prim.Native.Nat.{ℕ, zero, suc, min, max, ◌+◌, ◌-◌, ◌/◌, ◌≤◌, ◌<◌, zero-le}
use native.Mathlib.Nat.{add-zero}
use native.Mathlib.Omega.{arith}
use mathlib.Core.Path.{◌≡◌, refl, sym, ap, ◌∙◌}
use mathlib.Core.Bool.{Bool, true, false, cond, ◌&&◌, ◌||◌}
use mathlib.Core.List.{List, [], ◌∷◌}
use mathlib.Core.Logic.{◌⊎◌, inl, inr}
use lib.ListN.{length, take, drop, get_or, length-take}
use Rattle.std.proofs.Common.{get_or-take}
use lib.Seq.{get_or-drop}
use lib.Dec.{ltb, leb, eqb}
use borrow.Author.Tests.{ltb-true, ltb-false, lt-ltb, le-ltb, leb-true, leb-false, lt-leb, le-leb, eqb-true, eqb-false}
use Rattle.pair.specs.Rank.{word_limit, rank}
use Rattle.pair.proofs.Tests.{and_left, and_right, or_left, or_right, or_cases}
use Rattle.pair.proofs.Search.{Halved, halved_up, halved_down}
use Rattle.batch.specs.Batch.{Update, falls}
use Rattle.batch.specs.code.Rounds.{starts, reaches_from, halving, stands, begun, reached, annuls_later}
use Rattle.std.specs.List.{list_any}
use Rattle.batch.specs.declared.Passed.{Passed}
use Rattle.batch.specs.code.Records.{record_of, updates_of}
use Rattle.batch.specs.code.Search.{starting_to, reach_with, reach_of, annulled}
use Rattle.batch.specs.code.Untouched.{before_round}
use Rattle.batch.proofs.InOrder.{EachUpdate, Formed}
use Rattle.batch.proofs.Records.{any_array, take_arrays}

-- where the record n starts
starts_drop : (n : ℕ) (us : List Update) → starts (drop n us) ≡ drop n (starts us)
unfolding starts
starts_drop zero us = refl
starts_drop (suc n) [] = refl
starts_drop (suc n) (u ∷ us) = starts_drop n us

pub start_at : (us : List Update) (n : ℕ) {u : Update} → drop n us ≡ u ∷ drop (n + 1) us → rank u.term u.from ≡ get_or (starts us) n 0
unfolding starts
start_at us n {u} h =
    let here : get_or (starts (drop n us)) 0 0 ≡ get_or (starts us) n 0 = rw (starts_drop n us, get_or-drop n (starts us) 0 0, add-zero n) in
    rw h at here

length_starts : (us : List Update) → length (starts us) ≡ length us
unfolding starts
length_starts [] = refl
length_starts (u ∷ us) = ap suc (length_starts us)

-- the search by halving: what is sought is what is sought from low to high
pub record Halving (xs : List ℕ) (p n low high : ℕ) : Type 0 where
  pub turns : ℕ
  pub enough : high ≤ low + turns
  pub inside : high ≤ n
  pub rest : halving xs p n 0 n ≡ halving xs p turns low high

pub halving_start : (xs : List ℕ) (p n : ℕ) → Halving xs p n 0 n
halving_start xs p n = record { turns = n; enough = omega arith; inside = omega arith; rest = refl }

-- a turn of the definition
halving_turn :
    (xs : List ℕ) (p turns low high : ℕ) → low < high → high ≤ low + turns → let middle = low + (high - low) / 2 in
    halving xs p turns low high
    ≡ cond (leb (get_or xs middle 0) p) (halving xs p (turns - 1) (middle + 1) high) (halving xs p (turns - 1) low middle)
unfolding halving
halving_turn xs p zero low high l e = absurd (omega arith)
halving_turn xs p (suc turns) low high l e = let n : suc turns - 1 ≡ turns = omega arith in rw (lt-ltb low high l, n)

pub halving_up :
    {xs : List ℕ} {p n low high : ℕ} → Halving xs p n low high → low < high → let middle = low + (high - low) / 2 in
    leb (get_or xs middle 0) p ≡ true → Halving xs p n (middle + 1) high
halving_up {xs} {p} {n} {low} {high} h l e =
    record {
      turns = h.turns - 1;
      enough = omega (arith, h.enough);
      inside = h.inside;
      rest = h.rest ∙ (halving_turn xs p h.turns low high l h.enough ∙ rw e);
    }

pub halving_down :
    {xs : List ℕ} {p n low high : ℕ} → Halving xs p n low high → low < high → let middle = low + (high - low) / 2 in
    leb (get_or xs middle 0) p ≡ false → Halving xs p n low middle
halving_down {xs} {p} {n} {low} {high} h l e =
    record {
      turns = h.turns - 1;
      enough = omega (arith, h.enough);
      inside = omega (arith, h.inside);
      rest = h.rest ∙ (halving_turn xs p h.turns low high l h.enough ∙ rw e);
    }

halving_none : (xs : List ℕ) (p turns low high : ℕ) → high ≤ low → halving xs p turns low high ≡ low
unfolding halving
halving_none xs p zero low high e = refl
halving_none xs p (suc turns) low high e = rw (le-ltb low high e)

pub halving_end : {xs : List ℕ} {p n low high : ℕ} → Halving xs p n low high → high ≤ low → halving xs p n 0 n ≡ low
halving_end {xs} {p} {n} {low} {high} h l = h.rest ∙ halving_none xs p h.turns low high l

-- wherever the search begins, the element before the place found is at most p, and the one at it is above p
halving_halved :
    (xs : List ℕ) (p turns low high : ℕ) → high ≤ low + turns → Halved xs p low high →
    Halved xs p (halving xs p turns low high) (halving xs p turns low high)
unfolding halving
halving_halved xs p zero low high e h = let z : high ≡ low = omega (arith, h.order) in rw z at h
halving_halved xs p (suc turns) low high e h =
    go (ltb low high) refl (leb (get_or xs middle 0) p) refl (halving_halved xs p turns (middle + 1) high) (halving_halved xs p turns low middle)
  where
    middle : ℕ
    middle = low + (high - low) / 2

    At : ℕ → Type 0
    At n = Halved xs p n n

    go : (s : Bool) → ltb low high ≡ s → (t : Bool) → leb (get_or xs middle 0) p ≡ t →
        (high ≤ middle + 1 + turns → Halved xs p (middle + 1) high → At (halving xs p turns (middle + 1) high)) →
        (middle ≤ low + turns → Halved xs p low middle → At (halving xs p turns low middle)) →
        At (cond s (cond t (halving xs p turns (middle + 1) high) (halving xs p turns low middle)) low)
    go true f true g up down =
        up (omega (arith, ltb-true low high f)) (halved_up h (omega arith) (omega (arith, ltb-true low high f)) (leb-true (get_or xs middle 0) p g))
    go true f false g up down =
        down (omega (arith, ltb-true low high f)) (halved_down h (omega arith) (omega (arith, ltb-true low high f)) (leb-false (get_or xs middle 0) p g))
    go false f t g up down = let z : high ≡ low = omega (arith, h.order, ltb-false low high f) in rw z at h

-- so it is at a place that is guessed and stands
stands_halved : (xs : List ℕ) (n j p : ℕ) → Halved xs p 0 n → stands xs n j p ≡ true → Halved xs p j j
unfolding stands
stands_halved xs n j p h e =
    record {
      order = omega arith;
      inside = omega (arith, h.inside, few);
      below = λ l. low l (or_cases (eqb j 0) (leb (get_or xs (j - 1) 0) p) (and_right (leb j n) before (and_left (leb j n && before) after e)));
      beyond = λ l. high l (or_cases (eqb j n) (ltb p (get_or xs j 0)) (and_right (leb j n && before) after e));
    }
  where
    before : Bool
    before = eqb j 0 || leb (get_or xs (j - 1) 0) p

    after : Bool
    after = eqb j n || ltb p (get_or xs j 0)

    few : j ≤ n
    few = leb-true j n (and_left (leb j n) before (and_left (leb j n && before) after e))

    low : 0 < j → (eqb j 0 ≡ true) ⊎ (leb (get_or xs (j - 1) 0) p ≡ true) → get_or xs (j - 1) 0 ≤ p
    low l (inl z) = absurd (let y : j ≡ 0 = eqb-true j 0 z in omega arith)
    low l (inr z) = leb-true (get_or xs (j - 1) 0) p z

    high : j < length xs → (eqb j n ≡ true) ⊎ (ltb p (get_or xs j 0) ≡ true) → p < get_or xs j 0
    high l (inl z) = let y : j ≡ n = eqb-true j n z in rw y (h.beyond (rw y at l))
    high l (inr z) = ltb-true p (get_or xs j 0) z

begun_halved : (xs : List ℕ) (n j p : ℕ) → Halved xs p 0 n → Halved xs p (begun xs n j p) (begun xs n j p)
unfolding begun
begun_halved xs n j p h = go (stands xs n j p) refl (stands xs n (j + 1) p) refl
  where
    At : ℕ → Type 0
    At i = Halved xs p i i

    go : (s : Bool) → stands xs n j p ≡ s → (t : Bool) → stands xs n (j + 1) p ≡ t → At (cond s j (cond t (j + 1) (halving xs p n 0 n)))
    go true e t f = stands_halved xs n j p h e
    go false e true f = stands_halved xs n (j + 1) p h f
    go false e false f = halving_halved xs p n 0 n (omega arith) h

-- the place is among the first n
pub halving_most : (xs : List ℕ) (p turns low high : ℕ) → low ≤ high → halving xs p turns low high ≤ high
unfolding halving
halving_most xs p zero low high l = l
halving_most xs p (suc turns) low high l =
    go (ltb low high) refl (leb (get_or xs middle 0) p) (halving_most xs p turns (middle + 1) high) (halving_most xs p turns low middle)
  where
    middle : ℕ
    middle = low + (high - low) / 2

    go : (s : Bool) → ltb low high ≡ s → (t : Bool) → (middle + 1 ≤ high → halving xs p turns (middle + 1) high ≤ high) →
        (low ≤ middle → halving xs p turns low middle ≤ middle) →
        cond s (cond t (halving xs p turns (middle + 1) high) (halving xs p turns low middle)) low ≤ high
    go true f true up down = up (omega (arith, ltb-true low high f))
    go true f false up down = omega (arith, ltb-true low high f, down (omega arith))
    go false f t up down = l

pub stands_most : (xs : List ℕ) (n j p : ℕ) → stands xs n j p ≡ true → j ≤ n
unfolding stands
stands_most xs n j p e = leb-true j n (and_left (leb j n) _ (and_left (leb j n && (eqb j 0 || leb (get_or xs (j - 1) 0) p)) _ e))

pub begun_most : (xs : List ℕ) (n j p : ℕ) → begun xs n j p ≤ n
unfolding begun
begun_most xs n j p = go (stands xs n j p) refl (stands xs n (j + 1) p) refl
  where
    go : (s : Bool) → stands xs n j p ≡ s → (t : Bool) → stands xs n (j + 1) p ≡ t → cond s j (cond t (j + 1) (halving xs p n 0 n)) ≤ n
    go true e t f = stands_most xs n j p e
    go false e true f = stands_most xs n (j + 1) p f
    go false e false f = halving_most xs p n 0 n zero-le

-- beyond the first n it stands nowhere
pub stands_beyond : (xs : List ℕ) (n j p : ℕ) → n < j → stands xs n j p ≡ false
unfolding stands
stands_beyond xs n j p l = rw (lt-leb j n l)

-- in a batch in order, as many records start at or below p as stand before such a place
later : (us : List Update) (a i : ℕ) → falls a us ≡ false → i < length (starts us) → a ≤ get_or (starts us) i 0
unfolding starts falls
later [] a i o l = absurd (omega arith)
later (u ∷ us) a zero o l = ltb-false (rank u.term u.from) a (or_left (ltb (rank u.term u.from) a) _ o)
later (u ∷ us) a (suc i) o l =
    let here = rank u.term u.from in
    let low : a ≤ here = ltb-false here a (or_left (ltb here a) (falls here us) o) in
    omega (arith, later us here i (or_right (ltb here a) (falls here us) o) (omega arith))

starting_halved : (us : List Update) (a p j : ℕ) → falls a us ≡ false → Halved (starts us) p j j → length (starting_to p us) ≡ j
unfolding starts starting_to falls
starting_halved [] a p j o h = omega (arith, h.inside)
starting_halved (u ∷ us) a p zero o h = rw (lt-ltb p (rank u.term u.from) (h.beyond (omega arith)))
starting_halved (u ∷ us) a p (suc j) o h =
    rw (le-ltb p here (begins j h.below h.inside))
    (ap suc (starting_halved us here p j o' (record {
      order = omega arith;
      inside = omega (arith, h.inside);
      below = below j h.below;
      beyond = λ l. h.beyond (omega arith);
    })))
  where
    here : ℕ
    here = rank u.term u.from

    o' : falls here us ≡ false
    o' = or_right (ltb here a) (falls here us) o

    below : (i : ℕ) → (0 < suc i → get_or (here ∷ starts us) (suc i - 1) 0 ≤ p) → 0 < i → get_or (starts us) (i - 1) 0 ≤ p
    below zero f l = absurd (omega arith)
    below (suc i) f l =
        let m : suc (suc i) - 1 ≡ suc i = omega arith in
        let n : suc i - 1 ≡ i = omega arith in
        rw n (rw m at (f (omega arith)))

    begins : (i : ℕ) → (0 < suc i → get_or (here ∷ starts us) (suc i - 1) 0 ≤ p) → suc i ≤ suc (length (starts us)) → here ≤ p
    begins zero f l = f (omega arith)
    begins (suc i) f l =
        let m : suc (suc i) - 1 ≡ suc i = omega arith in
        let q : get_or (starts us) i 0 ≤ p = rw m at (f (omega arith)) in
        omega (arith, later us here i o' (omega arith))

starting_first : (us : List Update) (p : ℕ) → starting_to p us ≡ take (length (starting_to p us)) us
unfolding starting_to
starting_first [] p = refl
starting_first (u ∷ us) p = go (ltb p (rank u.term u.from)) (starting_first us p)
  where
    go : (s : Bool) → starting_to p us ≡ take (length (starting_to p us)) us →
        cond s [] (u ∷ starting_to p us) ≡ take (length (cond s [] (u ∷ starting_to p us))) (u ∷ us)
    go true ih = refl
    go false ih = ap (λ vs. u ∷ vs) ih

-- where the first records of kind 3 reach to
reaches_at :
    (us : List Update) (k i : ℕ) → EachUpdate Formed us → i < length (reaches_from k us) →
    get_or (reaches_from k us) i 0 ≡ reach_of 3 k (take (suc i) us)
unfolding reaches_from reach_of reach_with
reaches_at [] k i f l = absurd (omega arith)
reaches_at (u ∷ us) k i f l = go (eqb u.kind 3) refl l (λ j. reaches_at us far j f.1)
  where
    far : ℕ
    far = max k u.to

    high : ℕ
    high = rank u.term u.to

    greater : (s : Bool) → ltb k high ≡ s → u.term ≡ 0 → cond s high k ≡ far
    greater true e t = omega (arith, ltb-true k high e)
    greater false e t = omega (arith, ltb-false k high e)

    rest : List ℕ
    rest = reaches_from far us

    Rest : Type 0
    Rest = (j : ℕ) → j < length rest → get_or rest j 0 ≡ reach_of 3 far (take (suc j) us)

    at : (j : ℕ) → j < suc (length rest) → Rest → get_or (far ∷ rest) j 0 ≡ reach_of 3 far (take j us)
    at zero m ih = refl
    at (suc j) m ih = ih j (omega arith)

    go : (s : Bool) → eqb u.kind 3 ≡ s → i < length (cond s (far ∷ rest) []) → Rest →
        get_or (cond s (far ∷ rest) []) i 0 ≡ reach_of 3 (cond (s && ltb k high) high k) (take i us)
    go true e m ih = rw (greater (ltb k high) refl (f.0.term_none (eqb-true u.kind 3 e))) (at i m ih)
    go false e m ih = absurd (omega arith)

-- there are no more of them than records, and behind them a record of a term starts
pub rounds_few : (us : List Update) (k : ℕ) → length (reaches_from k us) ≤ length us
unfolding reaches_from
rounds_few [] k = zero-le
rounds_few (u ∷ us) k = go (eqb u.kind 3) (rounds_few us (max k u.to))
  where
    rest : List ℕ
    rest = reaches_from (max k u.to) us

    go : (s : Bool) → length rest ≤ length us → length (cond s (max k u.to ∷ rest) []) ≤ suc (length us)
    go true ih = omega arith
    go false ih = zero-le

rounds_beyond : (us : List Update) (k : ℕ) → EachUpdate Formed us → length (reaches_from k us) < length (starts us) → word_limit ≤ get_or (starts us) (length (reaches_from k us)) 0
unfolding reaches_from starts
rounds_beyond [] k f l = absurd (omega arith)
rounds_beyond (u ∷ us) k f l = go (eqb u.kind 3) refl l (rounds_beyond us (max k u.to) f.1)
  where
    rest : List ℕ
    rest = reaches_from (max k u.to) us

    go : (s : Bool) → eqb u.kind 3 ≡ s → length (cond s (max k u.to ∷ rest) []) < suc (length (starts us)) →
        (length rest < length (starts us) → word_limit ≤ get_or (starts us) (length rest) 0) →
        word_limit ≤ get_or (rank u.term u.from ∷ starts us) (length (cond s (max k u.to ∷ rest) [])) 0
    go true e m ih = ih (omega arith)
    go false e m ih = let t : 1 ≤ u.term = f.0.term_low (eqb-false u.kind 3 e) in omega arith

-- how many of them start at or below a position is how many records do
module _ (us : List Update) (f : EachUpdate Formed us) (o : falls 0 us ≡ false) (j p : ℕ) (l : p < word_limit) where
  abbrev place : ℕ
  place = begun (starts us) (length (reaches_from 0 us)) j p

  pub place_halved : Halved (starts us) p place place
  place_halved =
      begun_halved (starts us) (length (reaches_from 0 us)) j p
      (record {
        order = zero-le;
        inside = omega (arith, length_starts us, rounds_few us 0);
        below = λ m. absurd (let z : ⊥ = omega arith in z);
        beyond = λ m. omega (arith, rounds_beyond us 0 f m);
      })

  pub starting_begun : length (starting_to p us) ≡ place
  starting_begun = starting_halved us 0 p place o place_halved

  -- and where these reach to is in the table
  pub begun_reach : (i : ℕ) → place ≡ suc i → get_or (reaches_from 0 us) i 0 ≡ reach_of 3 0 (starting_to p us)
  begun_reach i e =
      reaches_at us 0 i f (omega (arith, begun_most (starts us) (length (reaches_from 0 us)) j p))
      ∙ ap (reach_of 3 0) (sym (starting_first us p ∙ ap (λ n. take n us) (starting_begun ∙ e)))

-- whether the last of some reaches to a position
pub last_reach : (ts : List ℕ) (p : ℕ) → 0 < length ts → leb p (get_or ts (length ts - 1) 0) ≡ reached ts (length ts) p
unfolding reached
last_reach ts p h = go (length ts) h
  where
    go : (n : ℕ) → 0 < n → leb p (get_or ts (n - 1) 0) ≡ reached ts n p
    go zero h = absurd (omega arith)
    go (suc i) h = let e : suc i - 1 ≡ i = omega arith in rw e

pub reach_none : (ts : List ℕ) (p : ℕ) → length ts ≤ 0 → false ≡ reached ts (length ts) p
unfolding reached
reach_none [] p h = refl
reach_none (t ∷ ts) p h = absurd (omega arith)

pub begun_halves : (xs : List ℕ) (n j p : ℕ) → stands xs n j p ≡ false → stands xs n (j + 1) p ≡ false → halving xs p n 0 n ≡ begun xs n j p
unfolding begun
begun_halves xs n j p e f = rw (e, f)

-- the first so many of some
pub starts_first : (n : ℕ) (us : List Update) → starts (take n us) ≡ take n (starts us)
unfolding starts
starts_first zero us = refl
starts_first (suc n) [] = refl
starts_first (suc n) (u ∷ us) = ap (λ xs. rank u.term u.from ∷ xs) (starts_first n us)

halving_first : (xs : List ℕ) (n p turns low high : ℕ) → high ≤ n → halving (take n xs) p turns low high ≡ halving xs p turns low high
unfolding halving
halving_first xs n p zero low high h = refl
halving_first xs n p (suc turns) low high h = go (ltb low high) refl (halving_first xs n p turns (middle + 1) high h) (λ l. halving_first xs n p turns low middle (omega (arith, l)))
  where
    middle : ℕ
    middle = low + (high - low) / 2

    go : (t : Bool) → ltb low high ≡ t → halving (take n xs) p turns (middle + 1) high ≡ halving xs p turns (middle + 1) high →
        (low < high → halving (take n xs) p turns low middle ≡ halving xs p turns low middle) →
        cond t (cond (leb (get_or (take n xs) middle 0) p) (halving (take n xs) p turns (middle + 1) high) (halving (take n xs) p turns low middle)) low
        ≡ cond t (cond (leb (get_or xs middle 0) p) (halving xs p turns (middle + 1) high) (halving xs p turns low middle)) low
    go true e up down = let l : low < high = ltb-true low high e in rw (get_or-take n xs middle 0 (omega arith), up, down l)
    go false e up down = refl

stands_first : (xs : List ℕ) (n j p : ℕ) → stands (take n xs) n j p ≡ stands xs n j p
unfolding stands
stands_first xs n j p = go (leb j n) refl (eqb j 0) refl (eqb j n) refl
  where
    go : (r : Bool) → leb j n ≡ r → (s : Bool) → eqb j 0 ≡ s → (t : Bool) → eqb j n ≡ t →
        (r && (s || leb (get_or (take n xs) (j - 1) 0) p) && (t || ltb p (get_or (take n xs) j 0))) ≡ (r && (s || leb (get_or xs (j - 1) 0) p) && (t || ltb p (get_or xs j 0)))
    go false e s f t g = refl
    go true e true f true g = refl
    go true e true f false g = rw (get_or-take n xs j 0 (omega (arith, leb-true j n e, eqb-false j n g)))
    go true e false f true g = rw (get_or-take n xs (j - 1) 0 (omega (arith, leb-true j n e, eqb-false j 0 f)))
    go true e false f false g = rw (get_or-take n xs (j - 1) 0 (omega (arith, leb-true j n e, eqb-false j 0 f)), get_or-take n xs j 0 (omega (arith, leb-true j n e, eqb-false j n g)))

pub begun_first : (us : List Update) (n j p : ℕ) → begun (starts (take n us)) n j p ≡ begun (starts us) n j p
unfolding begun
begun_first us n j p = rw (starts_first n us, stands_first (starts us) n j p, stands_first (starts us) n (j + 1) p, halving_first (starts us) n p n 0 n (omega arith))

pub reached_first : (ts : List ℕ) (n j p : ℕ) → j ≤ n → reached (take n ts) j p ≡ reached ts j p
unfolding reached
reached_first ts n zero p h = refl
reached_first ts n (suc i) p h = rw (get_or-take n ts i 0 (omega arith))

-- those of the first so many
pub reached_of : {fs : List ℕ} (ts : List ℕ) (g p : ℕ) → g ≤ length ts → fs ≡ take g ts → reached fs (length fs) p ≡ reached ts g p
reached_of ts g p h e =
    let l : length (take g ts) ≡ g = length-take g ts ∙ omega arith in
    rw (e, l) (reached_first ts g g p (omega arith))

-- up to where the next of the rounds starts
module _ (xs ts : List ℕ) (n j p z g : ℕ) (e : g ≡ begun xs n j p) where
  pub before_reached : reached ts g p ≡ true → 0 ≡ before_round xs ts n j p z
  unfolding before_round
  before_reached r = rw (← e, r)

  pub before_all : reached ts g p ≡ false → g ≡ n → z ≡ before_round xs ts n j p z
  unfolding before_round
  before_all r h = rw (← e, r, le-leb n g (omega arith))

  pub before_next : reached ts g p ≡ false → g < n → min z (get_or xs g 0 - 1) ≡ before_round xs ts n j p z
  unfolding before_round
  before_next r h = rw (← e, r, lt-leb n g h) (least (ltb z (get_or xs g 0)) refl)
    where
      least : (t : Bool) → ltb z (get_or xs g 0) ≡ t → min z (get_or xs g 0 - 1) ≡ cond t z (get_or xs g 0 - 1)
      least true f = omega (arith, ltb-true z (get_or xs g 0) f)
      least false f = omega (arith, ltb-false z (get_or xs g 0) f)

-- one of some that reach to a position arrived later than the additions of its pair
pub annuls_all :
    (rs : List (List ℕ)) (p a : ℕ) → list_any (λ ws. leb p (record_of ws).to && ltb a (record_of ws).arrival) rs ≡ annuls_later (updates_of rs) (length rs) p a
unfolding annuls_later
annuls_all rs p a = any_array (λ u. leb p u.to && ltb a u.arrival) rs ∙ rw take_arrays

pub annulled_added :
    (rs : List (List ℕ)) (ts : List ℕ) (p : ℕ) (added : Bool) (k : Passed) → length rs ≡ length ts → true ≡ reached ts (length ts) p → added ≡ true → k.arrived < k.rounds →
    list_any (λ ws. leb p (record_of ws).to && ltb k.arrived (record_of ws).arrival) rs ≡ annulled (updates_of rs) ts (length rs) p added k
unfolding annulled
annulled_added rs ts p added k l r a h = rw (annuls_all rs p k.arrived, a, lt-ltb k.arrived k.rounds h, l, ← r)
