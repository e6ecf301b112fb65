-- A loop that copies all words of one list over another of the same length.
use Prim.Native.Nat.{ℕ, ◌+◌, ◌≤◌, ◌<◌}
use native.Mathlib.Omega.{arith}
use mathlib.Core.Path.{◌≡◌, ap, ◌∙◌}
use mathlib.Core.List.{List, [], ◌++◌, append-nil}
use lib.ListN.{length, drop, get_or, set}
use lib.Seq.{sets, sets-eq, take_all}
use Rattle.std.proofs.lemmas.List.{drop_all}
use Rattle.pair.proofs.Copying.{Copying, copying_turn, copying_end}

pub whole_turn : {c l now : List ℕ} {j : ℕ} → Copying c l 0 (length c) 0 now j → j < length c → Copying c l 0 (length c) 0 (set now j (get_or c j 0)) (j + 1)
whole_turn {c} {l} {now} {j} k h =
    let e : 0 + j ≡ j = omega arith in
    let t : Copying c l 0 (length c) 0 (set now (0 + j) (get_or c (0 + j) 0)) (j + 1) = copying_turn k h (omega arith) in
    rw e at t

pub whole_end : {c l now : List ℕ} {j : ℕ} → Copying c l 0 (length c) 0 now j → length c ≤ j → length l ≡ length c → now ≡ c
whole_end {c} {l} {now} {j} k h e =
    let none : drop (0 + length c) l ≡ [] = drop_all (0 + length c) l (omega (arith, e)) in
    copying_end k h ∙ ap (sets l 0) (take_all (length c) c (omega arith))
    ∙ sets-eq c l 0 (omega (arith, e)) ∙ ap (λ r. c ++ r) none ∙ append-nil c
