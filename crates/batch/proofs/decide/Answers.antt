-- `batch::decide` meets its contract.
use Prim.Native.Nat.{ℕ, min, ◌/◌}
use mathlib.Core.Path.{◌≡◌, refl, ap, ◌∙◌}
use mathlib.Core.Bool.{Bool, true, false}
use mathlib.Core.List.{List}
use lib.ListN.{length}
use lib.Dec.{eqb}
use Rattle.pair.specs.Rank.{position}
use Rattle.batch.specs.declared.Cursor.{Cursor}
use Rattle.batch.specs.declared.Removal.{Removal}
use Rattle.batch.specs.Batch.{Update, updates}
use Rattle.batch.specs.code.Rounds.{starts, begun}
use Rattle.batch.specs.code.Search.{decided, passing, removal, annulled}
use Rattle.batch.proofs.Cutting.{cut_begun, cut_annulled}
use Rattle.batch.proofs.Records.{updates_same}
use Rattle.batch.proofs.decide.Goals as goal

-- the decision, from the cursor behind the further records and what a removal of the term does
passing_begun : (us : List Update) (k : Cursor) (x : ℕ) → (passing us k x).begun ≡ k.begun
unfolding passing
passing_begun us k x = refl

module _ (b ts : List ℕ) (k : Cursor) (x : ℕ) {at : Cursor} {r : Removal} (a : at ≡ passing (updates b) k x) (e : r ≡ removal (updates b) at x) where
  decided_removed : r.removed ≡ true → record { cursor = record at { latest = r.latest }; withdrawn = true } ≡ decided b ts k x
  unfolding decided
  decided_removed t = let n : at.begun ≡ k.begun = ap (λ k. k.begun) a ∙ passing_begun (updates b) k x in rw (← a, ← e, t, n)

  decided_kept :
      r.removed ≡ false → (g : ℕ) → g ≡ begun (starts (updates b)) (min (length ts) (length b / 5)) at.begun (position x) →
      (w : Bool) → w ≡ annulled (updates b) ts g (position x) (eqb x at.passed.added) at.passed →
      record { cursor = record { passed = at.passed; latest = r.latest; begun = g }; withdrawn = w } ≡ decided b ts k x
  unfolding decided
  decided_kept t g f w h =
      let n : at.begun ≡ k.begun = ap (λ k. k.begun) a ∙ passing_begun (updates b) k x in
      let f' : g ≡ begun (starts (updates b)) (min (length ts) (length b / 5)) k.begun (position x) = rw n at f in
      rw (← a, ← e, t, ← f', ← h)

pub returns-then-removal : goal.returns-then-removal
returns-then-removal c =
    let us = updates_same c.args.batch.now c.records_of-records.ensures in
    decided_removed _ _ _ _ (c.pass_to-at.ensures ∙ rw us) (c.removal-removal.ensures ∙ rw us) c.if-removal.true

pub returns : goal.returns
returns c =
    let r = c.records_of-records.ensures in
    let us = updates_same c.args.batch.now r in
    let cut = c.of-rounds.ensures in
    let b = c.begun-begun.ensures in
    let first = c.first.ensures in
    decided_kept _ _ _ _ (c.pass_to-at.ensures ∙ rw us) (c.removal-removal.ensures ∙ rw us) c.if-removal.false _
    (b.value ∙ (cut_begun _ r _ _ _ cut.records cut.reaches _ _ ∙ rw c.of_rank-position.ensures))
    _
    (c.annulled.ensures ∙ (cut_annulled _ r _ _ _ cut.records cut.reaches _ _ _ _ b.few _ _ first.records first.reaches ∙ rw c.of_rank-position.ensures))
