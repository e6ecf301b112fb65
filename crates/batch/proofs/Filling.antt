-- Filling the table of where the rounds reach to.
use Prim.Native.Nat.{ℕ, min, max, ◌+◌, ◌≤◌, ◌<◌, zero-le}
use native.Mathlib.Nat.{add-zero}
use native.Mathlib.Omega.{arith}
use mathlib.Core.Path.{◌≡◌, refl, sym, ap, ap₂, ◌∙◌}
use mathlib.Core.List.{List, [], ◌∷◌}
use mathlib.Core.Logic.{◌≢◌}
use lib.ListN.{length, take, drop, get_or, set, length-drop, length-take, take-append-drop}
use lib.Seq.{sets, length-sets, get_or-drop, drop-drop, take_all}
use borrow.Author.Tests.{eq-eqb, ne_eqb}
use Rattle.pair.proofs.Lists.{sets_append, sets_next, sets_out, part_sets_same}
use Rattle.batch.specs.Batch.{Update, updates, batch_number}
use Rattle.batch.specs.code.Rounds.{reaches_from, round_reaches}
use Rattle.batch.proofs.Annulling.{rounds_few}
use Rattle.batch.proofs.InOrder.{in_order}
use Rattle.batch.proofs.Records.{length_updates}

-- the first n are written, and the rest is to come from where these reach to
pub record Filling (b l now : List ℕ) (reach n : ℕ) : Type 0 where
  pub few : n ≤ length (round_reaches (updates b))
  pub fits : n ≤ length l
  pub written : now ≡ sets l 0 (take n (round_reaches (updates b)))
  pub rest : drop n (round_reaches (updates b)) ≡ reaches_from reach (drop n (updates b))

pub filling_start : (b l : List ℕ) → Filling b l l 0 0
filling_start b l = record { few = zero-le; fits = zero-le; written = refl; rest = refl }

pub filling_length : {b l now : List ℕ} {reach n : ℕ} → Filling b l now reach n → length now ≡ length l
filling_length {b} {l} {now} {reach} {n} f = ap length f.written ∙ length-sets l 0 (take n (round_reaches (updates b)))

module _ {b l now : List ℕ} {reach n : ℕ} (f : Filling b l now reach n) where
  abbrev all : List ℕ
  all = round_reaches (updates b)

  -- one more of kind 3
  pub filling_turn : (u : Update) → drop n (updates b) ≡ u ∷ drop (n + 1) (updates b) → n < length now → u.kind ≡ 3 → Filling b l (set now n (max reach u.to)) (max reach u.to) (n + 1)
  filling_turn u h i k =
      record {
        few = more;
        fits = omega (arith, f.fits, filling_length f);
        written = ap₂ (λ ws a. set ws n a) f.written (sym here) ∙ rw zero_first at (sets_next all l 0 n (omega (arith, more)));
        rest = sym (drop-drop 1 n all) ∙ ap (drop 1) next;
      }
    where
      far : ℕ
      far = max reach u.to

      next : drop n all ≡ far ∷ reaches_from far (drop (n + 1) (updates b))
      next = f.rest ∙ (unfold reaches_from in rw (h, eq-eqb u.kind 3 k))

      more : n + 1 ≤ length all
      more = omega (arith, length-drop n all, ap length next)

      here : get_or all n 0 ≡ far
      here = sym (get_or-drop n all 0 0 ∙ ap (λ k. get_or all k 0) (add-zero n)) ∙ ap (λ ws. get_or ws 0 0) next

      zero_first : 0 + n ≡ n
      zero_first = omega arith

  -- the answer: all of them are written, or as many as there is room for
  abbrev Filled : Type 0
  Filled = (n ≡ min (length l) (length all)) × (now ≡ sets l 0 all)

  -- where no more of kind 3 are to come
  ended : drop n all ≡ [] → Filled
  ended e =
      let n' : length all ≡ n = omega (arith, length-drop n all, ap length e, f.few) in
      (omega (arith, n', f.fits), f.written ∙ ap (sets l 0) (take_all n all (omega (arith, n'))))

  pub filling_other : (u : Update) → drop n (updates b) ≡ u ∷ drop (n + 1) (updates b) → u.kind ≢ 3 → Filled
  filling_other u h k = ended (f.rest ∙ (unfold reaches_from in rw (h, ne_eqb u.kind 3 k)))

  pub filling_end : drop n (updates b) ≡ [] → Filled
  filling_end h = ended (f.rest ∙ (unfold reaches_from in rw h))

  -- and where the table is full
  pub filling_full : n ≡ length now → Filled
  filling_full e =
      let full : length l ≡ n = sym (e ∙ filling_length f) in
      let first : length (take n all) ≡ n = length-take n all ∙ omega (arith, f.few) in
      let behind = sets_out (sets l 0 (take n all)) (0 + length (take n all)) (drop n all) (omega (arith, length-sets l 0 (take n all), full, first)) in
      (omega (arith, full, f.few), sym (ap (sets l 0) (sym (take-append-drop n all)) ∙ (sets_append (take n all) (drop n all) l 0 ∙ (behind ∙ sym f.written))))

-- a batch in order has no more rounds than records
pub rounds_most : (b : List ℕ) → batch_number b ≡ 0 → length (round_reaches (updates b)) ≤ 4096
rounds_most b o = omega (arith, rounds_few (updates b) 0, length_updates b, (in_order b o).few)

-- where a table with room for one got none there is none
pub filled_none : (b : List ℕ) (n : ℕ) → n ≡ min 1 (length (round_reaches (updates b))) → n ≡ 0 → [] ≡ round_reaches (updates b)
filled_none b n e z = go (round_reaches (updates b)) (omega arith)
  where
    go : (ts : List ℕ) → length ts ≡ 0 → [] ≡ ts
    go [] h = refl
    go (t ∷ ts) h = absurd (omega arith)

-- in a table with room for all of them what is written is all
module _ (b l : List ℕ) {now : List ℕ} {n : ℕ} (e : n ≡ min (length l) (length (round_reaches (updates b)))) (w : now ≡ sets l 0 (round_reaches (updates b))) where
  pub filled_few : n ≤ length now
  filled_few = rw (w, length-sets l 0 (round_reaches (updates b))) (omega arith)

  pub filled_whole : length (round_reaches (updates b)) ≤ length l → take n now ≡ round_reaches (updates b)
  filled_whole h =
      let m : n ≡ length (round_reaches (updates b)) = omega arith in
      rw (m, w) (part_sets_same (round_reaches (updates b)) l 0 (omega arith))
