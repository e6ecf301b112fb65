-- Numbers in columns, written from the last figure to the first.
use Prim.Native.Nat.{ℕ, zero, suc, ◌+◌, ◌-◌, ◌/◌, ◌%◌, ◌^◌, ◌<◌}
use native.Mathlib.Omega.{arith}
use mathlib.Core.Path.{◌≡◌, refl, sym, ap, ◌∙◌}
use mathlib.Core.List.{List, [], ◌∷◌, ◌++◌, append_assoc, append-nil}
use lib.ListN.{length, replicate, set, length-replicate, replicate-append-replicate}
use lib.Seq.{set-append_seam}
use Rattle.pair.specs.Rank.{word_limit}
use Rattle.figures.specs.Figures.{figure, decimal}
use Rattle.figures.specs.code.Reading.{leading}
use Rattle.figures.proofs.Figures.{decimal_last, leading_none, leading_some}
use Rattle.page.specs.Figures.{blank, column}

-- the last figures of n stand from a place on, those of rest are not written
pub record Figuring (n : ℕ) (now : List ℕ) (place rest : ℕ) : Type 0 where
  pub done : List ℕ
  pub all : decimal n ≡ decimal rest ++ done
  pub count : place + length done ≡ 10
  pub some : 0 < place
  pub room : rest < 10 ^ place
  pub same : now ≡ replicate place blank ++ done

pub figuring_start : (n : ℕ) (columns : List ℕ) {now : List ℕ} → n < word_limit → length columns ≡ 10 → now ≡ replicate (length columns) blank → Figuring n now 10 n
figuring_start n columns h e f =
    record { done = []; all = sym (append-nil (decimal n)); count = refl; some = omega arith; room = omega arith; same = f ∙ ap (λ k. replicate k blank) e }

-- what is left behind a figure has the other columns
less_room : (k r : ℕ) → r < 10 ^ k → 0 < k → r / 10 < 10 ^ (k - 1)
less_room zero r h l = absurd (omega arith)
less_room (suc k) r h l = let e : suc k - 1 ≡ k = omega arith in rw e (omega arith)

some_room : (k r : ℕ) → r < 10 ^ k → (r ≡ 0 → ⊥) → 0 < k
some_room zero r h l = absurd (l (omega arith))
some_room (suc k) r h l = omega arith

-- a figure in the place of the last blank
figure_put : (k b : ℕ) (done : List ℕ) → set (replicate (k + 1) blank ++ done) k b ≡ replicate k blank ++ b ∷ done
figure_put k b done =
    let blanks = replicate k blank in
    let seam : replicate (k + 1) blank ++ done ≡ blanks ++ blank ∷ done =
    ap (λ l. l ++ done) (sym (replicate-append-replicate k 1 blank)) ∙ append_assoc blanks (blank ∷ []) done in
    let at : length blanks ≡ k = length-replicate k blank in
    rw seam (rw at at (set-append_seam blanks blank done b))

module _ {n : ℕ} {now : List ℕ} {place rest b : ℕ} (g : Figuring n now place rest) (last : b ≡ figure (rest % 10)) where
  -- the last figure of rest is written too
  abbrev written : List ℕ
  written = set now (place - 1) b

  -- the figures of rest's tenth, and those that are written then
  figures_then : decimal n ≡ leading (rest / 10) ++ b ∷ g.done
  figures_then =
      rw last
      (g.all
      ∙ ap (λ d. d ++ g.done) (decimal_last rest)
      ∙ append_assoc (leading (rest / 10)) (figure (rest % 10) ∷ []) g.done)

  written_same : written ≡ replicate (place - 1) blank ++ b ∷ g.done
  written_same =
      let s : place ≡ place - 1 + 1 = omega (arith, g.some) in
      ap (λ m. set m (place - 1) b) (g.same ∙ ap (λ i. replicate i blank ++ g.done) s) ∙ figure_put (place - 1) b g.done

  pub figuring_turn : (rest / 10 ≡ 0 → ⊥) → Figuring n written (place - 1) (rest / 10)
  figuring_turn h =
      let less = less_room place rest g.room g.some in
      record {
        done = b ∷ g.done;
        all = figures_then ∙ ap (λ d. d ++ b ∷ g.done) (leading_some (rest / 10) h);
        count = omega (arith, g.count, g.some);
        some = some_room (place - 1) (rest / 10) less h;
        room = less;
        same = written_same;
      }

  -- the figures behind the blanks make the column
  pub figuring_end : rest / 10 ≡ 0 → written ≡ column n
  unfolding column
  figuring_end h =
      let whole : decimal n ≡ b ∷ g.done = rw (leading_none (rest / 10) h) at figures_then in
      let width : 10 - length (b ∷ g.done) ≡ place - 1 = omega (arith, g.count) in
      rw (whole, width) written_same
