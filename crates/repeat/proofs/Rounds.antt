-- What a round leaves over.
use Prim.Native.Nat.{ℕ, zero, suc, ◌+◌, ◌/◌, ◌^◌, ◌≤◌, ◌<◌, zero-le}
use native.Mathlib.Omega.{arith}
use native.Mathlib.Numerals.{add-one}
use native.Mathlib.Nat.{le_refl}
use mathlib.Core.Path.{◌≡◌, refl, sym, ap, ap₂, ◌∙◌}
use mathlib.Core.Logic.{◌≢◌, ◌⊎◌, inl, inr, ⊎_elim}
use mathlib.Core.Bool.{Bool, true, false, ◌||◌, or_assoc, false≢true, or-false}
use mathlib.Core.List.{List, [], ◌∷◌, ◌++◌}
use borrow.Author.Tests.{eq-eqb, ne_eqb, eqb-true, eqb-false}
use lib.ListN.{length, take, drop, get_or, set, replicate, length-set, length-replicate, take-append-drop}
use lib.Seq.{take_all, take-suc, take-suc-set, get_or-set_same, get_or-set_other}
use lib.Dec.{eqb}
use Rattle.pair.proofs.Tests.{or_both, or_cases, or_intro, not_holds, test_ext}
use Rattle.pair.proofs.Sets.{has, has_append, has_none}
use Rattle.repeat.specs.Repeats.{repeats}
use Rattle.repeat.specs.code.Rounds.{slot_of, Empty, Left}
use Rattle.repeat.proofs.Twice.{has_one, repeats_one, repeats_more}

-- Of the numbers read some are in their slots, and the rest found another there. What stands in v's slot is at v: 0 for nothing, else one more
-- than the number.
pub record Parted (read rest : List ℕ) (at : ℕ → ℕ) : Type 0 where
  pub same : repeats read ≡ repeats rest
  pub seen : (v : ℕ) → has v read ≡ (eqb (at v) (v + 1) || has v rest)
  pub other : (v : ℕ) → has v rest ≡ true → (at v ≢ 0) × (at v ≢ v + 1)

parted_start : (at : ℕ → ℕ) → ((v : ℕ) → at v ≡ 0) → Parted [] [] at
parted_start at z =
    record {
      same = refl;
      seen = λ v. sym (ap (λ t. t || has v []) (ne_eqb (at v) (v + 1) (λ e. omega (arith, e, z v))));
      other = λ v h. absurd (false≢true (sym (has_none v) ∙ h));
    }

module _ {read rest : List ℕ} {at : ℕ → ℕ} (p : Parted read rest at) where
  -- a number whose slot is empty was not read
  absent : (v : ℕ) → at v ≡ 0 → (has v rest ≡ false) × (has v read ≡ false)
  absent v z =
      let none = not_holds (has v rest) (λ h. (p.other v h).0 z) in
      (none, p.seen v ∙ or_both (eqb (at v) (v + 1)) (has v rest) (ne_eqb (at v) (v + 1) (λ e. omega (arith, e, z))) none)

  -- it is put there
  parted_put :
      (x : ℕ) (after : ℕ → ℕ) → at x ≡ 0 → ((v : ℕ) → ((at v ≡ 0) × (after v ≡ x + 1)) ⊎ ((v ≢ x) × (after v ≡ at v))) →
      Parted (read ++ x ∷ []) rest after
  parted_put x after z moved =
      record {
        same = repeats_one read x ∙ ap (λ t. repeats read || t) (absent x z).1 ∙ or-false (repeats read) ∙ p.same;
        seen = λ v. has_append v read (x ∷ []) ∙ ap (λ t. has v read || t) (has_one v x) ∙ ⊎_elim (filled v) (kept v) (moved v);
        other = λ v h. ⊎_elim (λ m. absurd ((p.other v h).0 m.0)) (λ m. rw m.1 (p.other v h)) (moved v);
      }
    where
      filled : (v : ℕ) → (at v ≡ 0) × (after v ≡ x + 1) → (has v read || eqb v x) ≡ (eqb (after v) (v + 1) || has v rest)
      filled v m =
          let same : eqb v x ≡ eqb (x + 1) (v + 1) =
          test_ext (eqb v x) (eqb (x + 1) (v + 1)) (λ e. eq-eqb (x + 1) (v + 1) (omega (arith, eqb-true v x e)))
          (λ e. eq-eqb v x (omega (arith, eqb-true (x + 1) (v + 1) e))) in
          ap (λ t. t || eqb v x) (absent v m.0).1 ∙ same ∙ sym (or-false (eqb (x + 1) (v + 1)))
          ∙ ap₂ (λ a b. eqb a (v + 1) || b) (sym m.1) (sym (absent v m.0).0)

      kept : (v : ℕ) → (v ≢ x) × (after v ≡ at v) → (has v read || eqb v x) ≡ (eqb (after v) (v + 1) || has v rest)
      kept v m =
          ap (λ t. has v read || t) (ne_eqb v x m.0) ∙ or-false (has v read) ∙ p.seen v
          ∙ ap (λ a. eqb a (v + 1) || has v rest) (sym m.1)

  -- one that finds another is left over
  parted_left : (x : ℕ) → at x ≢ 0 → at x ≢ x + 1 → Parted (read ++ x ∷ []) (rest ++ x ∷ []) at
  parted_left x z d =
      record {
        same =
            repeats_one read x ∙ ap₂ ◌||◌ p.same (p.seen x ∙ ap (λ t. t || has x rest) (ne_eqb (at x) (x + 1) d))
            ∙ sym (repeats_one rest x);
        seen =
            λ v. has_append v read (x ∷ []) ∙ ap (λ t. t || has v (x ∷ [])) (p.seen v)
            ∙ or_assoc (eqb (at v) (v + 1)) (has v rest) (has v (x ∷ []))
            ∙ ap (λ t. eqb (at v) (v + 1) || t) (sym (has_append v rest (x ∷ [])));
        other = λ v h. ⊎_elim (p.other v) (itself v) (or_cases (has v rest) (has v (x ∷ [])) (sym (has_append v rest (x ∷ [])) ∙ h));
      }
    where
      itself : (v : ℕ) → has v (x ∷ []) ≡ true → (at v ≢ 0) × (at v ≢ v + 1)
      itself v h = let e : v ≡ x = eqb-true v x (sym (has_one v x) ∙ h) in rw e (z, d)

  -- one that finds itself stands twice
  parted_found : (x : ℕ) → at x ≡ x + 1 → repeats (read ++ x ∷ []) ≡ true
  parted_found x e =
      repeats_one read x
      ∙ or_intro (repeats read) (has x read) (inr (p.seen x ∙ or_intro (eqb (at x) (x + 1)) (has x rest) (inl (eq-eqb (at x) (x + 1) e))))

-- what stands in the slot of a number
abbrev pub held_at : ℕ → List ℕ → ℕ → ℕ
held_at bits slots v = get_or slots (slot_of bits v) 0

pub slot_low : (bits x : ℕ) → slot_of bits x < 4096
unfolding slot_of
slot_low bits x = let q = x / 2 ^ bits in omega arith

-- the first i numbers are read, and those left over stand in a memory of so many words
pub record Leaving (bits : ℕ) (numbers : List ℕ) (size : ℕ) (slots rest : List ℕ) (left i : ℕ) : Type 0 where
  pub within : i ≤ length numbers
  pub long : length rest ≡ size
  pub few : left ≤ i
  pub many : length slots ≡ 4096
  pub parted : Parted (take i numbers) (take left rest) (held_at bits slots)

-- slots just made
pub empty_zeros : (n : ℕ) → n ≡ 4096 → Empty (replicate n 0)
unfolding Empty
empty_zeros n e = (length-replicate n 0 ∙ e, zeros n)
  where
    zeros : (n i : ℕ) → ◌≡◌ {A = ℕ} (get_or (replicate n 0) i 0) 0
    zeros zero i = refl
    zeros (suc n) zero = refl
    zeros (suc n) (suc i) = zeros n i

pub leaving_start : (bits : ℕ) (numbers slots rest : List ℕ) → Empty slots → Leaving bits numbers (length rest) slots rest 0 0
unfolding Empty
leaving_start bits numbers slots rest e =
    record {
      within = zero-le;
      long = refl;
      few = le_refl 0;
      many = e.0;
      parted = parted_start (held_at bits slots) (λ v. e.1 (slot_of bits v));
    }

module _ {bits size left i : ℕ} {numbers slots rest : List ℕ} (l : Leaving bits numbers size slots rest left i) (more : i < length numbers) where
  abbrev x : ℕ
  x = get_or numbers i 0

  one_more : take (i + 1) numbers ≡ take i numbers ++ x ∷ []
  one_more = rw (add-one i) (take-suc numbers i 0 more)

  pub leaving_put :
      (slot : ℕ) → slot ≡ slot_of bits x → get_or slots slot 0 ≡ 0 → Leaving bits numbers size (set slots slot (x + 1)) rest left (i + 1)
  leaving_put slot e z =
      record {
        within = omega arith;
        long = l.long;
        few = omega (arith, l.few);
        many = length-set slots slot (x + 1) ∙ l.many;
        parted = rw one_more (parted_put l.parted x (held_at bits (set slots slot (x + 1))) (rw e at z) moved);
      }
    where
      go : (v : ℕ) (t : Bool) → eqb (slot_of bits v) slot ≡ t →
          ((held_at bits slots v ≡ 0) × (held_at bits (set slots slot (x + 1)) v ≡ x + 1)) ⊎
          ((v ≢ x) × (held_at bits (set slots slot (x + 1)) v ≡ held_at bits slots v))
      go v true t =
          let s : slot_of bits v ≡ slot = eqb-true (slot_of bits v) slot t in
          inl (
            ap (λ k. get_or slots k 0) s ∙ z,
            ap (λ k. get_or (set slots slot (x + 1)) k 0) s ∙ get_or-set_same slots slot (x + 1) 0 (omega (arith, l.many, e, slot_low bits x)),
          )
      go v false t =
          let d = eqb-false (slot_of bits v) slot t in
          inr ((λ s. d (ap (slot_of bits) s ∙ sym e)), get_or-set_other slots slot (slot_of bits v) (x + 1) 0 d)

      moved : (v : ℕ) →
          ((held_at bits slots v ≡ 0) × (held_at bits (set slots slot (x + 1)) v ≡ x + 1)) ⊎
          ((v ≢ x) × (held_at bits (set slots slot (x + 1)) v ≡ held_at bits slots v))
      moved v = go v (eqb (slot_of bits v) slot) refl

  pub leaving_left :
      (slot : ℕ) → slot ≡ slot_of bits x → get_or slots slot 0 ≢ 0 → get_or slots slot 0 ≢ x + 1 → length numbers ≤ size →
      Leaving bits numbers size slots (set rest left x) (left + 1) (i + 1)
  leaving_left slot e z d room =
      let kept : take (left + 1) (set rest left x) ≡ take left rest ++ x ∷ [] = rw (add-one left) (take-suc-set rest left x (omega (arith, l.few))) in
      record {
        within = omega arith;
        long = length-set rest left x ∙ l.long;
        few = omega (arith, l.few);
        many = l.many;
        parted = rw (one_more, kept) (parted_left l.parted x (rw e at z) (rw e at d));
      }

  pub leaving_found : (slot : ℕ) → slot ≡ slot_of bits x → get_or slots slot 0 ≡ x + 1 → repeats numbers ≡ true
  leaving_found slot e h =
      ap repeats (sym (take-append-drop (i + 1) numbers))
      ∙ repeats_more (take (i + 1) numbers) (drop (i + 1) numbers) (rw one_more (parted_found l.parted x (rw e at h)))

pub leaving_end :
    {bits size left i : ℕ} {numbers slots rest : List ℕ} → Leaving bits numbers size slots rest left i → length numbers ≤ i → Left numbers rest left
leaving_end {bits} {size} {left} {i} {numbers} l h =
    record {
      few = omega (arith, l.few, l.within);
      whole = ap repeats (sym (take_all i numbers h)) ∙ l.parted.same;
    }

-- where none is left over, none stands twice
pub none_left : {numbers rest : List ℕ} {left : ℕ} → Left numbers rest left → left ≡ 0 → repeats numbers ≡ false
unfolding repeats
none_left {rest = rest} l z = l.whole ∙ ap (λ n. repeats (take n rest)) z
