-- The due block filled: what remains is the pairs put into it so far and what is left above the last of them.
use Prim.Native.Nat.{ℕ, ◌+◌, ◌<◌}
use native.Mathlib.Omega.{arith}
use mathlib.Core.Path.{◌≡◌, refl, sym, ap, ◌∙◌}
use mathlib.Core.Bool.{Bool, true, false}
use mathlib.Core.List.{List, [], ◌∷◌, ◌++◌, append_assoc, append-nil}
use lib.ListN.{length, replicate, length-append, length-replicate}
use lib.Dec.{eqb, eqb-suc-zero}
use borrow.Author.Tests.{ne_eqb, leb-false}
use Rattle.pair.specs.Rank.{term, Proper}
use Rattle.pair.proofs.Each.{each_second}
use Rattle.block.specs.Block.{cost}
use Rattle.pack.specs.code.Packing.{has_room, put_words, packing_with}
use Rattle.pack.specs.declared.Packing.{Packing}
use Rattle.block.proofs.Size.{size, length_size}
use Rattle.block.proofs.Filling.{Filled, filled_end, filled_full}
use Rattle.pack.proofs.Holding.{Holds, holds_start, holds_room, holds_put, holds_block, length_put, cost_high}
use Rattle.card.specs.Layout.{block_size, boundary}
use Rattle.card.proofs.Facts.{Facts}
use Rattle.update.specs.declared.merge.Merge.{Merge}
use Rattle.update.specs.code.Due.{Answers}
use Rattle.update.specs.code.Merge.{left, Reached}
use Rattle.update.specs.Step.{remains, due_block}
use Rattle.update.proofs.Grown.{Remaining}

-- the pairs ks are put, and what remains beyond them is what is left above k
pub record Fills (c b ws : List ℕ) (p : Packing) (k : ℕ) : Type 0 where
  pub ks : List ℕ
  pub long : length ws ≡ block_size c
  pub split : remains c b ≡ ks ++ left c b k
  pub holds : Holds ws p ks

pub fills_start : (c b ws : List ℕ) → ws ≡ replicate (block_size c) 0 → Fills c b ws (record { used = 0; last = 0; count = 0 }) (boundary c)
fills_start c b ws e =
    record {
      ks = [];
      long = rw e (length-replicate (block_size c) 0);
      split = unfold remains in refl;
      holds = rw e (holds_start (block_size c));
    }

-- what is filled, answered
answering :
    {c r ws ks : List ℕ} {p : Packing} {on : Bool} → Holds ws p ks → length ws ≡ block_size c → Filled (block_size c) r ks on → eqb p.used 0 ≡ eqb (length r) 0 →
    Answers c r ws (record { used = p.used; last = p.last; more = on })
answering {c} {r} {ws} {ks} {p} {on} h l g z =
    record {
      block = unfold due_block in rw (g.due, ← l) (holds_block h);
      last_pair = rw g.due (sym h.last_pair);
      beyond = sym g.goes_on;
      empty = z;
    }

-- pairs that cost no word are none
size_none : (ks : List ℕ) → eqb (size 0 ks) 0 ≡ eqb (length ks) 0
unfolding size
size_none [] = refl
size_none (k ∷ ks) = ne_eqb (size 0 (k ∷ ks)) 0 (omega (arith, length_size 0 (k ∷ ks))) ∙ sym (eqb-suc-zero (length ks))

-- no pair is left: all that remains is put
pub fills_end : {c b ws : List ℕ} {p : Packing} {k : ℕ} → Fills c b ws p k → Facts c → left c b k ≡ [] →
    Answers c (remains c b) ws (record { used = p.used; last = p.last; more = false })
fills_end {c} {b} g f n =
    let e : remains c b ≡ g.ks ++ [] = g.split ∙ ap (λ l. g.ks ++ l) n in
    rw e
    (answering g.holds g.long (filled_end (block_size c) g.ks (omega (arith, g.holds.sized, g.holds.inside, g.long)))
    (rw (append-nil, ← g.holds.sized) (size_none g.ks)))

module _ {c b ws : List ℕ} {p : Packing} {k : ℕ} {r : Merge} (g : Fills c b ws p k) (f : Facts c) (m : Reached c b k r) where
  module _ (q : Remaining c (remains c b)) where
    next_split : remains c b ≡ g.ks ++ r.rank ∷ left c b r.rank
    next_split = g.split ∙ ap (λ l. g.ks ++ l) m.next

    next_proper : Proper r.rank
    next_proper = (each_second Proper g.ks (r.rank ∷ left c b r.rank) (rw next_split at q.proper)).0

    -- the next pair has no room: it stands beyond the due block
    pub fills_full : has_room (length ws) p r.rank ≡ false → Answers c (remains c b) ws (record { used = p.used; last = p.last; more = true })
    fills_full h =
        let l : length ws < p.used + cost (term p.last) r.rank
        = leb-false (p.used + cost (term p.last) r.rank) (length ws) (sym (holds_room g.holds r.rank next_proper (omega (arith, g.long, f.size_high))) ∙ h) in
        let w : eqb p.used 0 ≡ eqb (length (g.ks ++ r.rank ∷ left c b r.rank)) 0
        = ne_eqb p.used 0 (λ z. omega (arith, cost_high (term p.last) r.rank, f.size_low, g.long))
        ∙ sym (ne_eqb (length (g.ks ++ r.rank ∷ left c b r.rank)) 0 (omega (arith, length-append g.ks (r.rank ∷ left c b r.rank)))) in
        rw next_split
        (answering g.holds g.long
        (filled_full (block_size c) g.ks r.rank (left c b r.rank) (omega (arith, g.holds.sized, g.holds.inside, g.long))
        (rw (g.holds.sized, g.holds.last_pair, ← g.long) (omega arith))) w)

    -- it has room, and is put
    pub fills_turn : has_room (length ws) p r.rank ≡ true → Fills c b (put_words ws p r.rank) (packing_with p r.rank) r.rank
    fills_turn h =
        record {
          ks = g.ks ++ r.rank ∷ [];
          long = length_put ws p r.rank ∙ g.long;
          split = next_split ∙ sym (append_assoc g.ks (r.rank ∷ []) (left c b r.rank));
          holds = holds_put g.holds r.rank next_proper h;
        }

    -- the measure falls
    pub fills_less : length (left c b r.rank) < length (left c b k)
    fills_less = rw m.next (omega arith)
