-- The due block in hand: its words are the pairs put so far, packed, and zeros after them.
use Prim.Native.Nat.{ℕ, zero, suc, ◌+◌, ◌-◌, ◌≤◌, ◌<◌}
use native.Mathlib.Omega.{arith}
use native.Mathlib.Nat.{add-zero}
use mathlib.Core.Path.{◌≡◌, refl, sym, ap, subst, ◌∙◌}
use mathlib.Core.Bool.{Bool, true, false, cond, ◌&&◌, ◌||◌, and-true}
use Rattle.std.proofs.Common.{Some, None}
use mathlib.Core.Logic.{◌≢◌, ◌⊎◌, inl, inr}
use mathlib.Core.List.{List, [], ◌∷◌, ◌++◌, append_assoc, append-nil}
use lib.ListN.{length, set, replicate, length-append, length-replicate, length-set}
use lib.Seq.{set_at}
use lib.Dec.{ltb, leb, eqb}
use borrow.Author.Tests.{eqb-true, eqb-false, ne_eqb, leb-true, le-leb, ltb-true, lt-ltb}
use Rattle.pair.specs.Rank.{term, position, Proper}
use Rattle.pair.specs.Rising.{last}
use Rattle.pair.proofs.Rising.{last_append}
use Rattle.pair.proofs.Tests.{and_left, and_right}
use Rattle.block.specs.Block.{packed_after, packed, leading, cost, block_of}
use Rattle.pack.specs.declared.Packing.{Packing}
use Rattle.pack.specs.code.Packing.{Room, has_room, put_words, packing_with, put}
use Rattle.block.proofs.Size.{size, size_packed}
use Rattle.block.proofs.Filling.{Opened, opened_first, opened_same, opened_other, size_snoc}

-- the entry in hand: its count stands after the words pre and the term, and the words used end with its positions ps
pub record Entry (p : Packing) (ks : List ℕ) : Type 0 where
  pub pre : List ℕ
  pub ps : List ℕ
  pub opened : Opened ks (term p.last) pre ps
  pub counted : p.count ≡ length pre + 1
  pub ends : p.used ≡ length pre + 2 + length ps

pub record Holds (ws : List ℕ) (p : Packing) (ks : List ℕ) : Type 0 where
  pub inside : p.used ≤ length ws
  pub sized : size 0 ks ≡ p.used
  pub last_pair : last 0 ks ≡ p.last
  pub words : ws ≡ packed ks ++ replicate (length ws - p.used) 0
  pub entry : (ks ≡ []) ⊎ Entry p ks

-- at first: no pair, all words 0
pub holds_start : (n : ℕ) → Holds (replicate n 0) (record { used = 0; last = 0; count = 0 }) []
unfolding packed_after size last
holds_start n =
    record {
      inside = omega arith;
      sized = refl;
      last_pair = refl;
      words = let e : length {A = ℕ} (replicate n 0) - 0 ≡ n = omega (arith, length-replicate {A = ℕ} n 0) in rw e;
      entry = inl refl;
    }

-- the words of the entry in hand
entry_words : {p : Packing} {ks : List ℕ} (e : Entry p ks) → packed ks ≡ e.pre ++ (term p.last ∷ length e.ps ∷ e.ps)
unfolding leading packed_after
entry_words {p} {ks} e = ap (packed_after 0) (sym (append-nil ks)) ∙ e.opened.whole [] ∙ rw (append-nil, add-zero)

set_count : (pre : List ℕ) (t n v : ℕ) (rest : List ℕ) → set (pre ++ (t ∷ n ∷ rest)) (length pre + 1) v ≡ pre ++ (t ∷ v ∷ rest)
set_count pre t n v rest =
    sym (ap (λ l. set l (length pre + 1) v) (append_assoc pre (t ∷ []) (n ∷ rest)))
    ∙ set_at (pre ++ t ∷ []) n rest v (length pre + 1) (length-append pre (t ∷ []))
    ∙ append_assoc pre (t ∷ []) (v ∷ rest)

-- where a word is put in place of the first zero after the words
set_next : (xs : List ℕ) (m v n : ℕ) → length xs ≡ n → 0 < m → set (xs ++ replicate m 0) n v ≡ (xs ++ v ∷ []) ++ replicate (m - 1) 0
set_next xs zero v n h l = absurd (omega arith)
set_next xs (suc m) v n h l =
    let e : suc m - 1 ≡ m = omega arith in
    set_at xs 0 (replicate m 0) v n h ∙ rw (append_assoc xs (v ∷ []) (replicate (suc m - 1) 0), e)

length_packed : {ws : List ℕ} {p : Packing} {ks : List ℕ} → Holds ws p ks → length (packed ks) ≡ p.used
length_packed {ws} {p} {ks} h = size_packed 0 ks ∙ h.sized

-- one pair of the term in hand
put_same :
    (ws : List ℕ) (p : Packing) (ks : List ℕ) (x : ℕ) → Holds ws p ks → Entry p ks → term x ≡ term p.last → p.used < length ws →
    set (set ws p.used (position x)) p.count (p.used - p.count) ≡ packed (ks ++ x ∷ []) ++ replicate (length ws - (p.used + 1)) 0
put_same ws p ks x h e t l =
    let n = length ws - p.used in
    let o = opened_same e.opened x t in
    let f : p.used - p.count ≡ length e.ps + 1 = omega (arith, e.counted, e.ends) in
    let g : n - 1 ≡ length ws - (p.used + 1) = omega arith in
    let w : set ws p.used (position x) ≡ (packed ks ++ position x ∷ []) ++ replicate (n - 1) 0
    = ap (λ l. set l p.used (position x)) h.words ∙ set_next (packed ks) n (position x) p.used (length_packed h) (omega arith) in
    let v : (packed ks ++ position x ∷ []) ++ replicate (n - 1) 0 ≡ e.pre ++ (term p.last ∷ length e.ps ∷ ((e.ps ++ position x ∷ []) ++ replicate (n - 1) 0))
    = rw (entry_words e, append_assoc e.pre, append_assoc e.pre) in
    let s : set (e.pre ++ (term p.last ∷ length e.ps ∷ ((e.ps ++ position x ∷ []) ++ replicate (n - 1) 0))) p.count (length e.ps + 1)
    ≡ e.pre ++ (term p.last ∷ (length e.ps + 1) ∷ ((e.ps ++ position x ∷ []) ++ replicate (n - 1) 0))
    = rw e.counted (set_count e.pre _ _ _ _) in
    let q : packed (ks ++ x ∷ []) ≡ e.pre ++ (term p.last ∷ (length e.ps + 1) ∷ (e.ps ++ position x ∷ []))
    = after o in
    ap (λ l. set l p.count (p.used - p.count)) (w ∙ v) ∙ rw f (s ∙ sym (rw (q, append_assoc e.pre, ← g)))
  where
    after : Opened (ks ++ x ∷ []) (term p.last) e.pre (e.ps ++ position x ∷ []) →
        packed (ks ++ x ∷ []) ≡ e.pre ++ (term p.last ∷ (length e.ps + 1) ∷ (e.ps ++ position x ∷ []))
    after o =
        unfold leading packed_after in
        ap (packed_after 0) (sym (append-nil (ks ++ x ∷ []))) ∙ o.whole [] ∙ rw (append-nil, add-zero, length-append e.ps)

-- one of another term
put_other :
    (ws : List ℕ) (p : Packing) (ks : List ℕ) (x : ℕ) → Holds ws p ks → packed (ks ++ x ∷ []) ≡ packed ks ++ (term x ∷ 1 ∷ position x ∷ []) → p.used + 3 ≤ length ws →
    set (set (set ws p.used (term x)) (p.used + 1) 1) (p.used + 2) (position x) ≡ packed (ks ++ x ∷ []) ++ replicate (length ws - (p.used + 3)) 0
put_other ws p ks x h e l =
    let n = length ws - p.used in
    let xs = packed ks in
    let u = length_packed h in
    let g : n - 1 - 1 - 1 ≡ length ws - (p.used + 3) = omega arith in
    let a : set ws p.used (term x) ≡ (xs ++ term x ∷ []) ++ replicate (n - 1) 0
    = ap (λ l. set l p.used (term x)) h.words ∙ set_next xs n (term x) p.used u (omega arith) in
    let b : set ((xs ++ term x ∷ []) ++ replicate (n - 1) 0) (p.used + 1) 1 ≡ ((xs ++ term x ∷ []) ++ 1 ∷ []) ++ replicate (n - 1 - 1) 0
    = set_next (xs ++ term x ∷ []) (n - 1) 1 (p.used + 1) (omega (arith, length-append xs (term x ∷ []))) (omega arith) in
    let d : set (((xs ++ term x ∷ []) ++ 1 ∷ []) ++ replicate (n - 1 - 1) 0) (p.used + 2) (position x)
    ≡ (((xs ++ term x ∷ []) ++ 1 ∷ []) ++ position x ∷ []) ++ replicate (n - 1 - 1 - 1) 0
    = set_next ((xs ++ term x ∷ []) ++ 1 ∷ []) (n - 1 - 1) (position x) (p.used + 2)
    (omega (arith, length-append (xs ++ term x ∷ []) (1 ∷ []), length-append xs (term x ∷ []))) (omega arith) in
    ap (λ l. set (set l (p.used + 1) 1) (p.used + 2) (position x)) a ∙ ap (λ l. set l (p.used + 2) (position x)) b ∙ d
    ∙ rw (e, g, append_assoc xs (term x ∷ []) (1 ∷ []), append_assoc xs)

-- the entry that another term opens
entry_other : {p : Packing} {ks : List ℕ} {x : ℕ} → (ks ≡ []) ⊎ Entry p ks → size 0 ks ≡ p.used → 0 < term x → term x ≢ term p.last →
    (packed (ks ++ x ∷ []) ≡ packed ks ++ (term x ∷ 1 ∷ position x ∷ [])) × Entry (record { used = p.used + 3; last = x; count = p.used + 1 }) (ks ++ x ∷ [])
entry_other {p} {ks} {x} (inl e) u h t =
    let w : packed (ks ++ x ∷ []) ≡ packed ks ++ (term x ∷ 1 ∷ position x ∷ []) = rw e (unfold packed_after leading in rw (ne_eqb (term x) 0 (omega arith))) in
    let z : 0 ≡ p.used = unfold size in rw e at u in
    (w, record { pre = []; ps = position x ∷ []; opened = rw e (opened_first x h); counted = omega arith; ends = omega arith })
entry_other {p} {ks} {x} (inr e) u h t =
    let o = opened_other e.opened x t in
    let w : packed (ks ++ x ∷ []) ≡ packed ks ++ (term x ∷ 1 ∷ position x ∷ []) = after o ∙ rw (entry_words e) in
    let n : length (e.pre ++ (term p.last ∷ length e.ps ∷ e.ps)) ≡ p.used = length-append e.pre _ ∙ omega (arith, e.ends) in
    (w, record { pre = e.pre ++ (term p.last ∷ length e.ps ∷ e.ps); ps = position x ∷ []; opened = o; counted = omega arith; ends = omega arith })
  where
    after : Opened (ks ++ x ∷ []) (term x) (e.pre ++ (term p.last ∷ length e.ps ∷ e.ps)) (position x ∷ []) →
        packed (ks ++ x ∷ []) ≡ (e.pre ++ (term p.last ∷ length e.ps ∷ e.ps)) ++ (term x ∷ 1 ∷ position x ∷ [])
    after o =
        unfold leading packed_after in
        ap (packed_after 0) (sym (append-nil (ks ++ x ∷ []))) ∙ o.whole []

last_snoc : (ks : List ℕ) (x : ℕ) → last 0 (ks ++ x ∷ []) ≡ x
unfolding last
last_snoc ks x = last_append ks (x ∷ []) 0

opened_next : {ks : List ℕ} {t : ℕ} {pre ps : List ℕ} → Opened ks t pre ps → (x : ℕ) → term x ≡ t → Opened (ks ++ x ∷ []) (term x) pre (ps ++ position x ∷ [])
opened_next {ks} {t} {pre} {ps} o x h = subst (λ (u : ℕ). Opened (ks ++ x ∷ []) u pre (ps ++ position x ∷ [])) (sym h) (opened_same o x h)

-- what a pair that has room has
pub has_room_law : (n : ℕ) (p : Packing) (x : ℕ) → has_room n p x ≡ true → Room n p x
unfolding has_room
has_room_law n p x e =
    let k = cost (term p.last) x in
    let f = and_left (leb n 1024 && leb (p.used + k) n) (eqb k 3 || ltb p.count p.used) e in
    record {
      few = leb-true n 1024 (and_left (leb n 1024) (leb (p.used + k) n) f);
      room = leb-true (p.used + k) n (and_right (leb n 1024) (leb (p.used + k) n) f);
      counted = λ h. ltb-true p.count p.used (rw (ne_eqb k 3 h) at (and_right (leb n 1024 && leb (p.used + k) n) (eqb k 3 || ltb p.count p.used) e));
    }

-- the entry in hand has the term of a pair that costs one word
found : {ws : List ℕ} {p : Packing} {ks : List ℕ} → Holds ws p ks → (x : ℕ) → Proper x → term x ≡ term p.last → Entry p ks
found {ws} {p} {ks} h x r t = go h.entry
  where
    go : (ks ≡ []) ⊎ Entry p ks → Entry p ks
    go (inl e) =
        let z : 0 ≡ p.last = unfold last in rw e at h.last_pair in
        absurd (omega (arith, r.term_low))
    go (inr e) = e

-- a pair has room in the block in hand exactly where it costs no more than the words left
pub holds_room :
    {ws : List ℕ} {p : Packing} {ks : List ℕ} → Holds ws p ks → (x : ℕ) → Proper x → length ws ≤ 1024 →
    has_room (length ws) p x ≡ leb (p.used + cost (term p.last) x) (length ws)
unfolding has_room
holds_room {ws} {p} {ks} h x r l = rw (le-leb (length ws) 1024 l) (go (eqb (term x) (term p.last)) refl)
  where
    go : (s : Bool) → eqb (term x) (term p.last) ≡ s →
        (leb (p.used + cond s 1 3) (length ws) && (eqb (cond s 1 3) 3 || ltb p.count p.used)) ≡ leb (p.used + cond s 1 3) (length ws)
    go true e =
        let a = found h x r (eqb-true (term x) (term p.last) e) in
        rw (lt-ltb p.count p.used (omega (arith, a.counted, a.ends))) (and-true _)
    go false e = and-true _

-- a pair put into the words
pub holds_put :
    {ws : List ℕ} {p : Packing} {ks : List ℕ} → Holds ws p ks → (x : ℕ) → Proper x → has_room (length ws) p x ≡ true →
    Holds (put_words ws p x) (packing_with p x) (ks ++ x ∷ [])
unfolding put_words packing_with
holds_put {ws} {p} {ks} h x r l = go (eqb (term x) (term p.last)) refl (has_room_law (length ws) p x l).room sized
  where
    sized : size 0 (ks ++ x ∷ []) ≡ p.used + cost (term p.last) x
    sized = size_snoc 0 ks x ∙ rw (h.sized, h.last_pair)

    go : (s : Bool) → eqb (term x) (term p.last) ≡ s → p.used + cond s 1 3 ≤ length ws → size 0 (ks ++ x ∷ []) ≡ p.used + cond s 1 3 →
        Holds (put_words ws p x) (packing_with p x) (ks ++ x ∷ [])
    go true e n z =
        let t : term x ≡ term p.last = eqb-true (term x) (term p.last) e in
        let a = found h x r t in
        let k : length (set (set ws p.used (position x)) p.count (p.used - p.count)) ≡ length ws = length-set (set ws p.used (position x)) p.count (p.used - p.count) ∙ length-set ws p.used (position x) in
        rw (l, e) record {
          inside = rw k n;
          sized = z;
          last_pair = last_snoc ks x;
          words = rw k (put_same ws p ks x h a t (omega arith));
          entry = inr (record {
            pre = a.pre;
            ps = a.ps ++ position x ∷ [];
            opened = opened_next a.opened x t;
            counted = a.counted;
            ends = omega (arith, a.ends, length-append a.ps (position x ∷ []));
          });
        }
    go false e n z =
        let t : term x ≢ term p.last = eqb-false (term x) (term p.last) e in
        let a = entry_other {x = x} h.entry h.sized (omega (arith, r.term_low)) t in
        let k : length (set (set (set ws p.used (term x)) (p.used + 1) 1) (p.used + 2) (position x)) ≡ length ws
        = length-set (set (set ws p.used (term x)) (p.used + 1) 1) (p.used + 2) (position x) ∙ length-set (set ws p.used (term x)) (p.used + 1) 1 ∙ length-set ws p.used (term x) in
        rw (l, e) record {
          inside = rw k n;
          sized = z;
          last_pair = last_snoc ks x;
          words = rw k (put_other ws p ks x h a.0 n);
          entry = inr a.1;
        }

-- nothing is put where it has none
pub put_refused : (n : ℕ) (p : Packing) (x : ℕ) → None ≡ put n p x → has_room n p x ≡ false
unfolding put
put_refused n p x = go (has_room n p x)
  where
    go : (s : Bool) → None ≡ cond s (Some (packing_with p x)) None → s ≡ false
    go true e = cc
    go false e = refl

pub record Placed (n : ℕ) (p : Packing) (x : ℕ) (q : Packing) : Type 0 where
  pub room : has_room n p x ≡ true
  pub with : q ≡ packing_with p x

pub put_placed : (n : ℕ) (p : Packing) (x : ℕ) (q : Packing) → Some q ≡ put n p x → Placed n p x q
unfolding put
put_placed n p x q = go (has_room n p x) refl
  where
    go : (s : Bool) → has_room n p x ≡ s → Some q ≡ cond s (Some (packing_with p x)) None → Placed n p x q
    go true h e = record { room = h; with = cc }
    go false h e = cc

pub put_none : (ws : List ℕ) (p : Packing) (x : ℕ) → has_room (length ws) p x ≡ false → put_words ws p x ≡ ws
unfolding put_words
put_none ws p x e = rw e

-- the words stay as many
pub length_put : (ws : List ℕ) (p : Packing) (x : ℕ) → length (put_words ws p x) ≡ length ws
unfolding put_words
length_put ws p x = go (has_room (length ws) p x) (eqb (cost (term p.last) x) 1)
  where
    go : (s t : Bool) →
        length (cond s
        (cond t (set (set ws p.used (position x)) p.count (p.used - p.count))
        (set (set (set ws p.used (term x)) (p.used + 1) 1) (p.used + 2) (position x)))
        ws) ≡ length ws
    go true true = simp length-set
    go true false = simp length-set
    go false t = refl

pub cost_high : (t x : ℕ) → cost t x ≤ 3
cost_high t x = go (eqb (term x) t)
  where
    go : (s : Bool) → cond s 1 3 ≤ 3
    go true = omega arith
    go false = omega arith

-- the block that the words are
pub holds_block : {ws : List ℕ} {p : Packing} {ks : List ℕ} → Holds ws p ks → ws ≡ block_of (length ws) ks
unfolding block_of
holds_block {ws} {p} {ks} h = rw (length_packed h) h.words
