-- The posting reader's cursor: what is left at it, and what a step yields.
use Prim.Native.Nat.{ℕ, zero, suc, ◌+◌, ◌-◌, ◌≤◌, ◌<◌, zero-le}
use native.Mathlib.Numerals.{add-one}
use native.Mathlib.Omega.{arith}
use Rattle.std.specs.Prelude.{Some, None}
use Rattle.std.proofs.Props.{props}
use Rattle.std.proofs.Math.Logic.{∥∥₁_prop, ∥∥₁_map, ∥∥₁_elim}
use mathlib.Core.Path.{◌≡◌, refl, sym, ap, ◌∙◌}
use mathlib.Core.List.{List, [], ◌∷◌, ◌++◌}
use lib.ListN.{length, take, drop, get_or}
use lib.Seq.{drop-cons}
use borrow.Author.Tests.{ne_eqb}
use Rattle.refusal.specs.declared.Refusal.{Refusal}
use Rattle.refusal.specs.Refusal.{number}
use Rattle.refusal.proofs.Numbers.{number_positive}
use Rattle.found.specs.declared.walk.Stretch.{Stretch}
use Rattle.found.specs.declared.walk.Walk.{Walk}
use Rattle.found.specs.Found.{found, question_number}
use Rattle.found.specs.code.Walk.{ahead, ReadyWalk}
use Rattle.found.proofs.Walking.{spent_walk_ready, spent_walk_ahead}
use Rattle.reader.specs.declared.cursor.Cursor.{Cursor}
use Rattle.reader.specs.Reader.{all_yielded}
use Rattle.reader.specs.code.Cursor.{left_at, StandsIn, NextInHand, CursorStep}

-- the cursor before a walk over live blocks
abbrev pub before : Walk → Cursor
before w = record { at = 0; left = 0; walk = w }

-- a walk that has no blocks
abbrev no_blocks : Stretch
no_blocks = record { place = 0; blocks = 0; after = 0 }

abbrev pub no_walk : Walk
no_walk = record { term = 0; to = 0; new = no_blocks; old = no_blocks }

pub stands_before : {c : List ℕ} {w : Walk} → ReadyWalk c w → StandsIn c (before w)
stands_before r = ∣ record { inside = zero-le; ready = r } ∣₁

-- all that is yielded, refused or not
pub all_found : (c : List ℕ) (t a z : ℕ) → 0 ≡ question_number c t a z → found c t a z ≡ all_yielded c t a z
unfolding all_yielded
all_found c t a z e = rw (sym e)

pub none_yielded : (c : List ℕ) (t a z : ℕ) (r : Refusal) → number r ≡ question_number c t a z → [] ≡ all_yielded c t a z
unfolding all_yielded
none_yielded c t a z r e = rw (ne_eqb (question_number c t a z) 0 (λ q. let h = number_positive r in omega (arith, e, q)))

-- a cursor with a run in hand, where the same is left as at another
pub record InHand (c : List ℕ) (k r : Cursor) : Type 0 where
  pub some : 0 < r.left
  pub stands : StandsIn c k → StandsIn c r
  pub same : StandsIn c k → left_at c k ≡ left_at c r

pub in_hand : {c : List ℕ} (k : Cursor) → (k.left ≡ 0 → ⊥) → InHand c k k
in_hand k h = record { some = omega arith; stands = λ s. s; same = λ s. refl }

pub taken : {c : List ℕ} {k r : Cursor} → NextInHand c k.walk r → k.left ≡ 0 → InHand c k r
taken x e =
    record {
      some = x.some;
      stands = λ s. ∥∥₁_elim s ∥∥₁_prop (λ i. x.stands i.ready);
      same = λ s. ∥∥₁_elim s (Prim.hlevel props) (λ i. rw e (x.same i.ready));
    }

-- no run is left, and the walk is spent
pub step_end :
    {c : List ℕ} (k : Cursor) → (ReadyWalk c k.walk → ahead c k.walk ≡ []) → k.left ≡ 0 → CursorStep c k None (record k { walk = no_walk })
step_end {c} k none e =
    let nothing : StandsIn c k → left_at c k ≡ [] = λ s. ∥∥₁_elim s (Prim.hlevel props) (λ i. rw e (none i.ready)) in
    record {
      word = tt;
      stands = λ s. ∥∥₁_map s (λ i. record { inside = i.inside; ready = spent_walk_ready c no_walk refl });
      first = λ s. (nothing s, rw e (spent_walk_ahead c no_walk refl));
    }

-- a posting of the run is left
pub step_posting :
    {c : List ℕ} {k r : Cursor} → InHand c k r → r.at < length c →
    CursorStep c k (Some (get_or c r.at 0)) (record r { at = r.at + 1; left = r.left - 1 })
step_posting {c} {k} {r} x h =
    record {
      word = record { index = r.at; below = h; same = refl };
      stands = λ s. ∥∥₁_map (x.stands s) (λ i. record { inside = omega (arith, i.inside, x.some); ready = i.ready });
      first = λ s. x.same s ∙ ap (λ ps. ps ++ ahead c r.walk) part;
    }
  where
    part : take r.left (drop r.at c) ≡ get_or c r.at 0 ∷ take (r.left - 1) (drop (r.at + 1) c)
    part = ap (take r.left) (drop-cons c r.at 0 h) ∙ go r.left x.some
      where
        go : (n : ℕ) → 0 < n → take n (get_or c r.at 0 ∷ drop (suc r.at) c) ≡ get_or c r.at 0 ∷ take (n - 1) (drop (r.at + 1) c)
        go zero q = absurd (omega arith)
        go (suc n) q = let e : suc n - 1 ≡ n = omega arith in rw (e, add-one r.at)

-- the cursor does not stand in the card
pub step_astray : {c : List ℕ} {k r : Cursor} → InHand c k r → length c ≤ r.at → CursorStep c k None r
step_astray {c} {k} {r} x h =
    let never : StandsIn c k → ⊥ = λ s. ∥∥₁_elim (x.stands s) (λ a b. absurd a) (λ i. omega (arith, i.inside, x.some)) in
    record { word = tt; stands = λ s. absurd (never s); first = λ s. absurd (never s) }
