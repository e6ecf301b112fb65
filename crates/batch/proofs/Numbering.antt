-- The arrival numbers of the records, written down one after another.
use Prim.Native.Nat.{ℕ, zero, suc, ◌+◌, ◌≤◌, ◌<◌}
use native.Mathlib.Nat.{add-zero}
use native.Mathlib.Omega.{arith}
use mathlib.Core.Path.{◌≡◌, refl, sym, ap, ap₂, ◌∙◌}
use mathlib.Core.Bool.{Bool, false, ◌||◌, or_assoc, or-false}
use mathlib.Core.List.{List, [], ◌∷◌}
use lib.ListN.{length, take, drop, get_or, set, replicate, length-replicate, drop_of_length-le}
use lib.Seq.{sets, get_or-drop, take_all}
use lib.Dec.{eqb}
use Rattle.pair.specs.Rising.{any}
use Rattle.pair.proofs.Lists.{sets_next, part_sets_same}
use Rattle.batch.specs.declared.reading.Record.{Record}
use Rattle.batch.specs.Batch.{Update, arrivals}
use Rattle.batch.specs.code.Records.{record_of, updates_of}
use Rattle.batch.proofs.Records.{array_at, length_updates_of}

length_arrivals : (us : List Update) → length (arrivals us) ≡ length us
unfolding arrivals
length_arrivals [] = refl
length_arrivals (u ∷ us) = ap suc (length_arrivals us)

arrivals_drop : (n : ℕ) (us : List Update) → drop n (arrivals us) ≡ arrivals (drop n us)
unfolding arrivals
arrivals_drop zero us = refl
arrivals_drop (suc n) [] = refl
arrivals_drop (suc n) (u ∷ us) = arrivals_drop n us

module _ (rs : List (List ℕ)) where
  abbrev all : List ℕ
  all = arrivals (updates_of rs)

  so_many : length all ≡ length rs
  so_many = length_arrivals (updates_of rs) ∙ length_updates_of rs

  -- that of the record n
  number_at : (n : ℕ) {u : Record} → n < length rs → u ≡ record_of (get_or rs n []) → drop n all ≡ u.arrival ∷ drop (n + 1) all
  unfolding arrivals
  number_at n h e = arrivals_drop n (updates_of rs) ∙ rw (array_at rs n h e, arrivals_drop (n + 1) (updates_of rs))

  -- the first n are written, and one of all is 0 exactly where unnumbered says so of these or one of the rest is
  pub record Numbering (l now : List ℕ) (unnumbered : Bool) (n : ℕ) : Type 0 where
    pub written : now ≡ sets l 0 (take n all)
    pub zeros : any (eqb 0) all ≡ (unnumbered || any (eqb 0) (drop n all))

  pub numbering_start : (l : List ℕ) → Numbering l l false 0
  numbering_start l = record { written = refl; zeros = refl }

  module _ {l now : List ℕ} {unnumbered : Bool} {n : ℕ} (s : Numbering l now unnumbered n) where
    pub numbering_turn :
        (u : Record) → n < length rs → n < length now → u ≡ record_of (get_or rs n []) →
        Numbering l (set now n u.arrival) (unnumbered || eqb 0 u.arrival) (n + 1)
    unfolding any
    numbering_turn u h i e =
        record {
          written = ap₂ (λ ws a. set ws n a) s.written (sym here) ∙ rw first at (sets_next all l 0 n (omega (arith, so_many)));
          zeros = s.zeros ∙ rw (number_at n h e) (sym (or_assoc unnumbered (eqb 0 u.arrival) (any (eqb 0) (drop (n + 1) all))));
        }
      where
        first : 0 + n ≡ n
        first = omega arith

        here : get_or all n 0 ≡ u.arrival
        here = sym (get_or-drop n all 0 0 ∙ ap (λ k. get_or all k 0) (add-zero n)) ∙ ap (λ ws. get_or ws 0 0) (number_at n h e)

    pub numbering_end : length rs ≤ n → (unnumbered ≡ any (eqb 0) all) × (now ≡ sets l 0 all)
    unfolding any
    numbering_end h =
        let behind : drop n all ≡ [] = drop_of_length-le all (omega (arith, so_many)) in
        (sym (s.zeros ∙ rw behind (or-false unnumbered)), s.written ∙ ap (sets l 0) (take_all n all (omega (arith, so_many))))

  -- in a memory with room for all of them what is written is all
  pub numbers_whole : length rs ≤ 4096 → take (length rs) (sets (replicate 4096 0) 0 all) ≡ all
  numbers_whole h = rw (← so_many) (part_sets_same all (replicate 4096 0) 0 (omega (arith, so_many, length-replicate {A = ℕ} 4096 0)))
