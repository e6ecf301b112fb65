-- The posting reader yields what the lookup gives.
use Prim.Native.Nat.{ℕ, ◌≤◌}
use native.Mathlib.Omega.{arith}
use mathlib.Core.Path.{◌≡◌, refl, sym, ◌∙◌}
use mathlib.Core.List.{List}
use borrow.Author.Tests.{ltb-false}
use lib.ListN.{length, take}
use lib.Seq.{sets, take_all}
use Rattle.pair.proofs.FirstOf.{passed, handed_on}
use Rattle.pair.proofs.Lists.{part_sets_same}
use Rattle.found.specs.Found.{found, question_number, lookup_number}
use Rattle.found.proofs.Answers.{lookup_found, lookup_number_law}
use Rattle.reader.specs.Reader.{all_yielded, yielded, read}
use Rattle.history.specs.Claims.{ReaderYieldsLookup, ReadingIsLookup}

-- a lookup that is not refused had enough answer words for all that a reader yields, which is what is found
enough : (c : List ℕ) (t a z : ℕ) (answer : List ℕ) → lookup_number c t a z answer ≡ 0 → (all_yielded c t a z ≡ found c t a z) × (length (found c t a z) ≤ length answer)
unfolding lookup_number all_yielded
enough c t a z answer e =
    let h = handed_on (question_number c t a z) _ e in
    (rw h.0, ltb-false (length answer) (length (found c t a z)) (passed _ _ _ h.1).0)

pub reader_yields_lookup : ReaderYieldsLookup
unfolding ReaderYieldsLookup yielded
reader_yields_lookup c t a z answer n e =
    let z0 : lookup_number c t a z answer ≡ 0 = sym (lookup_number_law c t a z answer) ∙ e in
    let h = enough c t a z answer z0 in
    let same : take (length (found c t a z)) (sets answer 0 (found c t a z)) ≡ found c t a z = part_sets_same (found c t a z) answer 0 (omega (arith, h.1)) in
    rw (lookup_found c t a z answer z0, same, h.0)

pub reading_is_lookup : ReadingIsLookup
unfolding ReadingIsLookup read
reading_is_lookup c t a z answer e =
    let z0 : lookup_number c t a z answer ≡ 0 = sym (lookup_number_law c t a z answer) ∙ e in
    let h = enough c t a z answer z0 in
    let all : take (length answer) (all_yielded c t a z) ≡ found c t a z = rw h.0 (take_all (length answer) (found c t a z) h.1) in
    rw (lookup_found c t a z answer z0, all) (refl, refl)
