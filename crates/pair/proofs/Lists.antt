-- Parts of a list of words, and words written into it.
use Prim.Native.Nat.{ℕ, zero, suc, ◌+◌, ◌*◌, ◌-◌, ◌≤◌, ◌<◌}
use mathlib.Core.Path.{◌≡◌, refl, sym, ◌∙◌, ap}
use mathlib.Core.Bool.{Bool, true, false}
use mathlib.Core.List.{List, [], ◌∷◌, ◌++◌, append_assoc}
use native.Mathlib.Nat.{add-zero, mul-le-mul_right}
use native.Mathlib.Numerals.{add-one}
use native.Mathlib.Omega.{arith}
use lib.ListN.{length, take, drop, get_or, set, length-take, length-drop}
use lib.Seq.{sets, set_out, set-set, set_comm, sets-eq, take-nil, take-suc, take-set-le, drop-set-add, drop-set-lt, take_at, drop_at, length-take-le, get_or-drop, get_or-take}
use lib.Dec.{ltb}
use borrow.Author.Tests.{ltb-true, ltb-false}

pub length_part : (c : List ℕ) (a n : ℕ) → a + n ≤ length c → length (take n (drop a c)) ≡ n
length_part c a n h = rw (length-take, length-drop) (omega arith)

-- The rest of a beginning is a part.
pub drop_take : (a e : ℕ) (l : List ℕ) → drop a (take e l) ≡ take (e - a) (drop a l)
drop_take zero e l = let z : e - zero ≡ e = omega arith in rw z
drop_take (suc a) zero l = let z : zero - suc a ≡ zero = omega arith in rw z
drop_take (suc a) (suc e) [] = sym (take-nil (suc e - suc a))
drop_take (suc a) (suc e) (x ∷ l) = let z : suc e - suc a ≡ e - a = omega arith in rw z (drop_take a e l)

-- Words written one list after another.
pub sets_append : (xs ys l : List ℕ) (p : ℕ) → sets l p (xs ++ ys) ≡ sets (sets l p xs) (p + length xs) ys
sets_append [] ys l p = rw add-zero
sets_append (x ∷ xs) ys l p =
    sets_append xs ys (set l p x) (suc p) ∙ (let e : suc p + length xs ≡ p + suc (length xs) = omega arith in rw e)

-- Words written behind those that are written already.
pub sets_behind :
    (l : List ℕ) (p : ℕ) (us vs : List ℕ) {w : ℕ} {now after : List ℕ} → now ≡ sets l p us → length us ≡ w → after ≡ sets now (p + w) vs →
    after ≡ sets l p (us ++ vs)
sets_behind l p us vs n e a = rw sets_append (a ∙ rw (n, e))

-- One word more of a list is written.
pub sets_next : (xs l : List ℕ) (p j : ℕ) → j < length xs → set (sets l p (take j xs)) (p + j) (get_or xs j 0) ≡ sets l p (take (j + 1) xs)
sets_next xs l p j h =
    let n : length (take j xs) ≡ j = length-take-le j xs (omega arith) in
    rw (add-one j, take-suc xs j 0 h) (sym (sets_append (take j xs) (get_or xs j 0 ∷ []) l p ∙ rw n))

-- Words written beyond the end change nothing.
pub sets_out : (l : List ℕ) (i : ℕ) (vs : List ℕ) → length l ≤ i → sets l i vs ≡ l
sets_out l i [] h = refl
sets_out l i (v ∷ vs) h = rw (set_out l i v h) (sets_out l (suc i) vs (omega arith))

-- Words written after a part leave it.
pub part_sets_before : (ws l : List ℕ) (m a p : ℕ) → a + m ≤ p → take m (drop a (sets l p ws)) ≡ take m (drop a l)
part_sets_before [] l m a p h = refl
part_sets_before (w ∷ ws) l m a p h = part_sets_before ws (set l p w) m a (suc p) (omega arith) ∙ one
  where
    one : take m (drop a (set l p w)) ≡ take m (drop a l)
    one =
        let e : p ≡ a + (p - a) = omega arith in
        ap (λ q. take m (drop a (set l q w))) e ∙ ap (take m) (drop-set-add a l (p - a) w)
        ∙ take-set-le m (drop a l) (p - a) w (omega arith)

-- Words written before a part leave it, and all that follows it.
pub part_sets_after : (ws l : List ℕ) (a p : ℕ) → p + length ws ≤ a → drop a (sets l p ws) ≡ drop a l
part_sets_after [] l a p h = refl
part_sets_after (w ∷ ws) l a p h =
    part_sets_after ws (set l p w) a (suc p) (omega arith) ∙ drop-set-lt a l p w (omega arith)

-- Words written after a word leave it.
pub word_sets_before : (ws l : List ℕ) (p i : ℕ) → i < p → get_or (sets l p ws) i 0 ≡ get_or l i 0
word_sets_before ws l p i h =
    sym (get_or-take p (sets l p ws) i 0 h) ∙ ap (λ x. get_or x i 0) (part_sets_before ws l p 0 p (omega arith)) ∙ get_or-take p l i 0 h

-- Words written before a word leave it.
pub word_sets_after : (ws l : List ℕ) (p i : ℕ) → p + length ws ≤ i → get_or (sets l p ws) i 0 ≡ get_or l i 0
word_sets_after ws l p i h =
    let z : i + 0 ≡ i = omega arith in
    rw z at (sym (get_or-drop i (sets l p ws) 0 0) ∙ ap (λ x. get_or x 0 0) (part_sets_after ws l i p h) ∙ get_or-drop i l 0 0)

-- The part that was written reads as the words.
pub part_sets_same : (ws l : List ℕ) (p : ℕ) → p + length ws ≤ length l → take (length ws) (drop p (sets l p ws)) ≡ ws
part_sets_same ws l p h =
    let e : length (take p l) ≡ p = length-take-le p l (omega arith) in
    rw (sets-eq ws l p h, append_assoc, drop_at (take p l) (ws ++ drop (p + length ws) l) p e) (take_at ws (drop (p + length ws) l) (length ws) refl)

pub word_sets_same : (ws l : List ℕ) (p i : ℕ) → p + length ws ≤ length l → i < length ws → get_or (sets l p ws) (p + i) 0 ≡ get_or ws i 0
word_sets_same ws l p i h h' =
    sym (get_or-drop p (sets l p ws) i 0) ∙ sym (get_or-take (length ws) (drop p (sets l p ws)) i 0 h')
    ∙ ap (λ x. get_or x i 0) (part_sets_same ws l p h)

-- Of rows of one width side by side, words written in one leave the others.
pub part_sets_row :
    (ws l : List ℕ) (w o i j a p : ℕ) → (i ≡ j → ⊥) → length ws ≤ w → a ≡ o + i * w → p ≡ o + j * w →
    take w (drop a (sets l p ws)) ≡ take w (drop a l)
part_sets_row ws l w o i j a p d h ea ep = go (ltb i j) refl
  where
    go : (s : Bool) → ltb i j ≡ s → take w (drop a (sets l p ws)) ≡ take w (drop a l)
    go true t = part_sets_before ws l w a p (omega (arith, mul-le-mul_right {n = j} w (ltb-true i j t)))
    go false t =
        let below : j < i = omega (arith, ltb-false i j t, d) in
        ap (take w) (part_sets_after ws l a p (omega (arith, mul-le-mul_right {n = i} w below)))

-- A word before others may be written first.
pub set_sets : (vs l : List ℕ) (q p a : ℕ) → p < q → set (sets l q vs) p a ≡ sets (set l p a) q vs
set_sets [] l q p a h = refl
set_sets (v ∷ vs) l q p a h =
    set_sets vs (set l q v) (suc q) p a (omega arith) ∙ ap (λ k. sets k (suc q) vs) (set_comm l q p v a (λ e. omega arith))

-- Of words written twice the second stand.
pub sets_over : (us vs l : List ℕ) (p : ℕ) → length us ≡ length vs → sets (sets l p us) p vs ≡ sets l p vs
sets_over [] [] l p h = refl
sets_over [] (v ∷ vs) l p h = absurd (omega arith)
sets_over (u ∷ us) [] l p h = absurd (omega arith)
sets_over (u ∷ us) (v ∷ vs) l p h =
    rw (set_sets us (set l p u) (suc p) p v (omega arith), set-set l p u v) (sets_over us vs (set l p v) (suc p) (omega arith))
