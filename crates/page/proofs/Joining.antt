-- Lists end to end: their length, their parts, and lists of lists.
use Prim.Native.Nat.{ℕ, zero, suc, ◌+◌, ◌*◌, ◌≤◌, ◌<◌}
use native.Mathlib.Omega.{arith}
use mathlib.Core.Path.{◌≡◌, refl, ◌∙◌}
use mathlib.Core.Bool.{Bool, true, false, cond}
use mathlib.Core.List.{List, [], ◌∷◌, ◌++◌, append_assoc, append-nil}
use borrow.Author.Tests.{ltb-true, ltb-false}
use lib.ListN.{length, take, drop, get_or, length-append}
use lib.Seq.{take-suc, take_at, drop_at, take_all}
use lib.Dec.{ltb}
use Rattle.page.specs.Page.{joined}
use Rattle.page.specs.ReadBack.{part, line_feeds_in}
use Rattle.page.proofs.Figures.{feeds_append, feeds_blanks}

pub joined_agree : (f g : ℕ → List ℕ) (n : ℕ) → ((i : ℕ) → i < n → f i ≡ g i) → joined f n ≡ joined g n
unfolding joined
joined_agree f g zero h = refl
joined_agree f g (suc n) h = rw (joined_agree f g n (λ i l. h i (omega arith)), h n (omega arith))

pub joined_length : (f : ℕ → List ℕ) (w n : ℕ) → ((i : ℕ) → i < n → length (f i) ≡ w) → length (joined f n) ≡ w * n
unfolding joined
joined_length f w zero h = omega arith
joined_length f w (suc n) h =
    rw (length-append, joined_length f w n (λ i l. h i (omega arith)), h n (omega arith)) (omega arith)

-- the part of lists of one width is one of them
pub part_joined :
    (f : ℕ → List ℕ) (w n i : ℕ) (rest : List ℕ) → ((i : ℕ) → i < n → length (f i) ≡ w) → i < n →
    part w i (joined f n ++ rest) ≡ f i
unfolding joined part
part_joined f w zero i rest h l = absurd (omega arith)
part_joined f w (suc n) i rest h l = rw (append_assoc (joined f n) (f n) rest) (go (ltb i n) refl (part_joined f w n i (f n ++ rest) (λ j q. h j (omega arith))))
  where
    go : (s : Bool) → ltb i n ≡ s → (i < n → take w (drop (w * i) (joined f n ++ (f n ++ rest))) ≡ f i) → take w (drop (w * i) (joined f n ++ (f n ++ rest))) ≡ f i
    go true e ih = ih (ltb-true i n e)
    go false e ih =
        let last : i ≡ n = omega (arith, ltb-false i n e) in
        let before : length (joined f n) ≡ w * n = joined_length f w n (λ j q. h j (omega arith)) in
        rw (last, drop_at (joined f n) (f n ++ rest) (w * n) before) (take_at (f n) rest w (h n (omega arith)))

-- the first lists, and then the others
joined_add : (f : ℕ → List ℕ) (m n : ℕ) → joined f (m + n) ≡ joined f m ++ joined (λ j. f (m + j)) n
unfolding joined
joined_add f m zero = let e : m + 0 ≡ m = omega arith in rw (e, append-nil)
joined_add f m (suc n) = let e : m + suc n ≡ suc (m + n) = omega arith in rw (e, joined_add f m n, append_assoc)

-- n times w lists are n lists of w of them
pub joined_rows : (f : ℕ → List ℕ) (w n : ℕ) → joined (λ i. joined (λ j. f (w * i + j)) w) n ≡ joined f (w * n)
unfolding joined
joined_rows f w zero = let e : w * 0 ≡ 0 = omega arith in rw e
joined_rows f w (suc n) = let e : w * suc n ≡ w * n + w = omega arith in rw (e, joined_add f (w * n) w, joined_rows f w n)

-- the elements of a list as lists of one element each
abbrev pub single : List ℕ → ℕ → List ℕ
single xs k = cond (ltb k (length xs)) (get_or xs k 0 ∷ []) []

pub joined_singles : (xs : List ℕ) (n : ℕ) → joined (single xs) n ≡ take n xs
unfolding joined
joined_singles xs zero = refl
joined_singles xs (suc n) = go (ltb n (length xs)) refl (joined_singles xs n)
  where
    go : (s : Bool) → ltb n (length xs) ≡ s → joined (single xs) n ≡ take n xs → joined (single xs) (suc n) ≡ take (suc n) xs
    go true e ih = rw (ih, e, take-suc xs n 0 (ltb-true n (length xs) e))
    go false e ih =
        let l : length xs ≤ n = ltb-false n (length xs) e in
        rw (ih, e, append-nil, take_all n xs l, take_all (suc n) xs (omega arith))

pub feeds_joined : (f : ℕ → List ℕ) (k n : ℕ) → ((i : ℕ) → line_feeds_in (f i) ≡ k) → line_feeds_in (joined f n) ≡ k * n
unfolding joined
feeds_joined f k zero h = feeds_blanks 0 ∙ omega arith
feeds_joined f k (suc n) h = rw (feeds_append (joined f n) (f n), feeds_joined f k n h, h n) (omega arith)
