-- The wanted positions: of one entry, and among the words from an entry on.
use Prim.Native.Nat.{ℕ, zero, suc, ◌+◌, ◌-◌, ◌≤◌, ◌<◌, zero-le}
use native.Mathlib.Omega.{arith}
use mathlib.Core.Path.{◌≡◌, refl, sym, ap}
use mathlib.Core.Bool.{Bool, true, false, cond, ◌&&◌, and-false}
use mathlib.Core.List.{List, [], ◌∷◌, ◌++◌, map}
use borrow.Author.Tests.{ltb-true, ltb-false, leb-true, leb-false, lt-ltb, le-ltb, lt-leb, le-leb}
use lib.ListN.{length, take, drop, get_or}
use lib.Dec.{ltb, leb}
use Rattle.pair.specs.Rank.{rank, position, Words}
use Rattle.pair.specs.Rising.{keep, at_most, rising_from}
use Rattle.pair.proofs.Each.{each_imply}
use Rattle.pair.proofs.Keep.{keep_none}
use Rattle.pair.proofs.Order.{position_rank}
use Rattle.pair.proofs.Parts.{at_most_none}
use Rattle.pair.proofs.Rising.{rising_tail}
use Rattle.pair.proofs.Search.{Halved, halved_start, halved_up, halved_down, halved_end, stretch}
use Rattle.pair.proofs.Sets.{rising_Each}
use Rattle.block.specs.Block.{pairs_from, words_before}
use Rattle.wanted.specs.code.Wanted.{is_wanted, UpTo, EntryPart}

-- the test of a position of the wanted term
abbrev pub in_range : ℕ → ℕ → ℕ → Bool
in_range a z p = ltb a p && leb p z

-- a search by halving that has come to an end
pub halved_found : {ps : List ℕ} {b low high : ℕ} → Halved ps b low high → high ≤ low → UpTo ps b low
halved_found {ps} {b} {low} {high} h l =
    let e : high ≡ low = omega (arith, h.order) in
    record { inside = omega (arith, h.order, h.inside); below = h.below; beyond = rw e at h.beyond; count = halved_end h l }

-- where the last is at most b, all are
pub all_up_to : {ps : List ℕ} {b : ℕ} → 0 < length ps → get_or ps (length ps - 1) 0 ≤ b → UpTo ps b (length ps)
all_up_to {ps} {b} l h =
    let e : length ps - 1 + 1 ≡ length ps = omega arith in
    rw e at (halved_found (halved_up (halved_start ps b) zero-le (omega arith) h) (omega arith))

-- one entry: the wanted positions lie between two counts
pub entry_counts : {ps : List ℕ} {a z s e : ℕ} → UpTo ps a s → UpTo ps z e → EntryPart ps a z (record { start = s; len = e - s })
entry_counts {ps} {a} {z} {s} {e} u v =
    record {
      inside = omega (arith, u.inside, v.inside);
      first = λ l. u.beyond (omega (arith, v.inside));
      last = λ l. let n : s + (e - s) - 1 ≡ e - 1 = omega arith in rw n (v.below (omega arith));
      positions = λ r. rw (u.count r, v.count r) (sym (stretch ps 0 a z r));
      before = u.count;
    }

pub entry_empty : {ps : List ℕ} {a z s e : ℕ} → UpTo ps a s → UpTo ps z e → e ≤ s → EntryPart ps a z (record { start = s; len = 0 })
entry_empty {ps} {a} {z} {s} {e} u v h =
    let none : e - s ≡ 0 = omega arith in
    rw none at (entry_counts u v)

-- ranks of one term are in the order of their positions
ltb_same : (t a p : ℕ) → ltb (rank t a) (rank t p) ≡ ltb a p
ltb_same t a p = go (ltb a p) refl
  where
    go : (s : Bool) → ltb a p ≡ s → ltb (rank t a) (rank t p) ≡ s
    go true e = let l : a < p = ltb-true a p e in lt-ltb (rank t a) (rank t p) (omega arith)
    go false e = let l : p ≤ a = ltb-false a p e in le-ltb (rank t a) (rank t p) (omega arith)

leb_same : (t p z : ℕ) → leb (rank t p) (rank t z) ≡ leb p z
leb_same t p z = go (leb p z) refl
  where
    go : (s : Bool) → leb p z ≡ s → leb (rank t p) (rank t z) ≡ s
    go true e = let l : p ≤ z = leb-true p z e in le-leb (rank t p) (rank t z) (omega arith)
    go false e = let l : z < p = leb-false p z e in lt-leb (rank t p) (rank t z) (omega arith)

wanted_same : (t a z p : ℕ) → is_wanted t a z (rank t p) ≡ in_range a z p
wanted_same t a z p = rw (ltb_same t a p, leb_same t p z)

-- a pair of another term is not wanted
pub wanted_lower : (t a z b p : ℕ) → b < t → p < 4294967296 → is_wanted t a z (rank b p) ≡ false
wanted_lower t a z b p h w = rw (le-ltb (rank t a) (rank b p) (omega arith))

pub wanted_higher : (t a z x : ℕ) → rank t z < x → is_wanted t a z x ≡ false
wanted_higher t a z x h = rw (lt-leb x (rank t z) h) (and-false (ltb (rank t a) x))

pub keep_wanted : (t a z : ℕ) (ps : List ℕ) → keep (is_wanted t a z) (map (rank t) ps) ≡ map (rank t) (keep (in_range a z) ps)
unfolding keep
keep_wanted t a z [] = refl
keep_wanted t a z (p ∷ ps) = rw (wanted_same t a z p) (go (in_range a z p) (keep_wanted t a z ps))
  where
    go :
        (s : Bool) → keep (is_wanted t a z) (map (rank t) ps) ≡ map (rank t) (keep (in_range a z) ps) →
        cond s (rank t p ∷ keep (is_wanted t a z) (map (rank t) ps)) (keep (is_wanted t a z) (map (rank t) ps))
        ≡ map (rank t) (cond s (p ∷ keep (in_range a z) ps) (keep (in_range a z) ps))
    go true ih = ap (λ l. rank t p ∷ l) ih
    go false ih = ih

pub positions_back : (t : ℕ) (f : ℕ → Bool) (ps : List ℕ) → Words ps → map position (map (rank t) (keep f ps)) ≡ keep f ps
unfolding keep Words
positions_back t f [] w = refl
positions_back t f (p ∷ ps) w = go (f p) (positions_back t f ps (λ i. w (suc i)))
  where
    go :
        (s : Bool) → map position (map (rank t) (keep f ps)) ≡ keep f ps →
        map position (map (rank t) (cond s (p ∷ keep f ps) (keep f ps))) ≡ cond s (p ∷ keep f ps) (keep f ps)
    go true ih = rw (position_rank t p (w 0), ih)
    go false ih = ih

-- n positions of the term t, and what follows them
pub pairs_run : (ws : List ℕ) (n t : ℕ) → n ≤ length ws → pairs_from ws t n ≡ map (rank t) (take n ws) ++ pairs_from (drop n ws) t 0
unfolding pairs_from
pairs_run ws zero t h = refl
pairs_run [] (suc n) t h = absurd (omega arith)
pairs_run (p ∷ ws) (suc n) t h = ap (λ l. rank t p ∷ l) (pairs_run ws n t (omega arith))

pub keep_skip : (f : ℕ → Bool) (t : ℕ) → ((p : ℕ) → p < 4294967296 → f (rank t p) ≡ false) → (ps : List ℕ) → Words ps → keep f (map (rank t) ps) ≡ []
unfolding keep Words
keep_skip f t h [] w = refl
keep_skip f t h (p ∷ ps) w = rw (h p (w 0)) (keep_skip f t h ps (λ i. w (suc i)))

pub words_skip :
    (f : ℕ → Bool) (t : ℕ) → ((p : ℕ) → p < 4294967296 → f (rank t p) ≡ false) → (ws : List ℕ) (n : ℕ) → Words ws → n ≤ length ws →
    words_before f ws t n ≡ n + words_before f (drop n ws) t 0
unfolding words_before Words
words_skip f t h ws zero w l = let e : words_before f ws t 0 ≡ 0 + words_before f ws t 0 = omega arith in e
words_skip f t h [] (suc n) w l = absurd (omega arith)
words_skip f t h (p ∷ ws) (suc n) w l =
    rw (h p (w 0), words_skip f t h ws n (λ i. w (suc i)) (omega arith)) (let e : suc (n + words_before f (drop n ws) t 0) ≡ suc n + words_before f (drop n ws) t 0 = omega arith in e)

pub words_first :
    (t a z k : ℕ) (ws : List ℕ) (n : ℕ) → n ≤ length ws → rising_from k (take n ws) ≡ true →
    0 < length (keep (in_range a z) (take n ws)) →
    words_before (is_wanted t a z) ws t n ≡ length (at_most a (take n ws))
unfolding words_before keep at_most
words_first t a z k ws zero l r s = absurd (omega arith)
words_first t a z k [] (suc n) l r s = absurd (omega arith)
words_first t a z k (p ∷ ws) (suc n) l r s =
    rw (wanted_same t a z p)
    (go (ltb a p) (leb p z) refl refl s (λ g. words_first t a z p ws n (omega arith) (rising_tail p (take n ws) k r) g))
  where
    R : List ℕ
    R = take n ws

    go :
        (x y : Bool) → ltb a p ≡ x → leb p z ≡ y → 0 < length (cond (x && y) (p ∷ keep (in_range a z) R) (keep (in_range a z) R)) →
        (0 < length (keep (in_range a z) R) → words_before (is_wanted t a z) ws t n ≡ length (at_most a R)) →
        cond (x && y) 0 (suc (words_before (is_wanted t a z) ws t n)) ≡ length (cond (leb p a) (p ∷ at_most a R) (at_most a R))
    go true true e f g ih =
        let h : a < p = ltb-true a p e in
        rw (lt-leb p a h, at_most_none R a p (omega arith) (rising_tail p R k r))
    go true false e f g ih =
        let h : z < p = leb-false p z f in
        let none : keep (in_range a z) R ≡ []
        = keep_none (in_range a z) R
        (each_imply (λ x. p < x) (λ x. in_range a z x ≡ false) (λ x q. rw (lt-leb x z (omega arith)) (and-false (ltb a x))) R (rising_Each R p (rising_tail p R k r))) in
        absurd (let m : 0 < 0 = rw none at g in omega arith)
    go false y e f g ih = rw (le-leb p a (ltb-false a p e), ih g)

-- for the tactic at the function
pub ruleset halving = (halved_start, halved_down, halved_found, all_up_to)
