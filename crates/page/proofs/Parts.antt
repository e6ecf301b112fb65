-- A part of lent bytes that is written and comes back.
use Prim.Native.Nat.{ℕ, ◌+◌, ◌-◌, ◌≤◌}
use native.Mathlib.Omega.{arith}
use mathlib.Core.Path.{◌≡◌, sym, ap, ◌∙◌}
use mathlib.Core.List.{List, [], ◌++◌, append_assoc, append-nil}
use lib.ListN.{length, take, drop, length-drop}
use lib.Seq.{sets, sets-eq}
use Rattle.std.proofs.lemmas.List.{length-take-le, drop_all}
use borrow.Rule.Slice.PartMut.{mid_of, put_mid, Post-is}

-- a part in the place of as many bytes
pub part_put :
    (l part : List ℕ) (at end : ℕ) → at ≤ end → end ≤ length l → length part ≡ length (mid_of at (end - at) l) →
    put_mid at (end - at) l part ≡ sets l at part
part_put l part at end h r e =
    let long : length (mid_of at (end - at) l) ≡ end - at = length-take-le (end - at) (drop at l) (omega (arith, length-drop at l)) in
    let same : at + length part ≡ end = omega (arith, e, long) in
    let room : at + length part ≤ length l = omega (arith, same) in
    rw (Post-is at end l h, ← same) (sym (append_assoc (take at l) part (drop (at + length part) l)) ∙ sym (sets-eq part l at room))

-- bytes in the place of all
pub sets_all : (l vs : List ℕ) → length vs ≡ length l → sets l 0 vs ≡ vs
sets_all l vs e =
    let none : drop (0 + length vs) l ≡ [] = drop_all (0 + length vs) l (omega (arith, e)) in
    sets-eq vs l 0 (omega (arith, e)) ∙ ap (λ r. vs ++ r) none ∙ append-nil vs
