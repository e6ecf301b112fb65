-- Lines put one after another.
use Prim.Native.Nat.{ℕ, ◌+◌, ◌*◌, ◌<◌}
use native.Mathlib.Numerals.{add-one}
use native.Mathlib.Omega.{arith}
use mathlib.Core.Path.{◌≡◌, refl, sym, ap, ◌∙◌}
use mathlib.Core.List.{List, [], ◌∷◌, ◌++◌}
use lib.ListN.{length, drop, set, length-append, length-drop}
use lib.Seq.{sets, sets-eq, length-sets}
use borrow.Rule.Slice.PartMut.{mid_of, put_mid}
use Rattle.std.proofs.lemmas.List.{length-take-le}
use Rattle.pair.specs.Rank.{word_limit, Words}
use Rattle.pair.proofs.Lists.{sets_behind}
use Rattle.page.specs.Page.{line_feed, joined, line}
use Rattle.page.specs.code.Putting.{head_of, FieldsPut, LinePut}
use Rattle.page.proofs.Parts.{part_put, sets_all}
use Rattle.page.proofs.Joining.{joined_length}
use Rattle.page.proofs.ReadBack.{head_length, line_length}

-- head, fields and line feed make the line
pub line_put :
    {left then : List ℕ} (line head fields : List ℕ) {t : ℕ} (i : ℕ) → t < word_limit → length line ≡ 66 → head ≡ head_of t i → FieldsPut left then fields →
    length fields ≡ length (mid_of 10 55 (head ++ drop 10 line)) → LinePut t i left then (set (put_mid 10 55 (head ++ drop 10 line) fields) 65 line_feed)
unfolding line
line_put {left} {then} l head fields {t} i ht e h f m =
    let long : length head ≡ 10 = ap length h ∙ head_length t i ht in
    let from : 0 + length head ≡ 10 = omega (arith, long) in
    let front : head ++ drop 10 l ≡ sets l 0 head = sym (sets-eq head l 0 (omega (arith, long, e)) ∙ ap (λ n. head ++ drop n l) from) in
    let inside : length (head ++ drop 10 l) ≡ 66 = ap length front ∙ length-sets l 0 head ∙ e in
    let wide : length fields ≡ 55 = m ∙ length-take-le 55 (drop 10 (head ++ drop 10 l)) (omega (arith, inside, length-drop 10 (head ++ drop 10 l))) in
    let both : length (head ++ fields) ≡ 65 = rw (length-append, long, wide) refl in
    let middle : put_mid 10 55 (head ++ drop 10 l) fields ≡ sets l 0 (head ++ fields) =
    sets_behind l 0 head fields front long (part_put (head ++ drop 10 l) fields 10 65 (omega arith) (omega (arith, inside)) m) in
    let all : set (put_mid 10 55 (head ++ drop 10 l) fields) 65 line_feed ≡ head ++ fields ++ line_feed ∷ [] =
    sets_behind l 0 (head ++ fields) (line_feed ∷ []) middle both refl
    ∙ sets_all l (head ++ fields ++ line_feed ∷ []) (rw (length-append, both) (sym e)) in
    record {
      put = λ ps w q. all ∙ rw (h, f.put ps (5 * i) w q) refl;
      rest = λ ps q. f.rest ps (5 * i) q;
    }

-- i lines are put
pub record Lining (t : ℕ) (ps l then now : List ℕ) (i : ℕ) : Type 0 where
  pub put : Words ps → now ≡ sets l 0 (joined (line t ps) i)
  pub rest : then ≡ drop (5 * i) ps

pub lining_turn :
    {t i : ℕ} {ps l then now rest part after : List ℕ} → t < word_limit → Lining t ps l then now i → LinePut t i then rest part → after ≡ sets now (66 * i) part → Lining t ps l rest after (i + 1)
unfolding joined
lining_turn {t} {i} {ps} {l} {then} {now} {rest} {part} {after} ht g x e =
    record {
      put = λ w.
          let width : length (joined (line t ps) i) ≡ 66 * i = joined_length (line t ps) 66 i (λ j p. line_length t ps ht w j) in
          let from : 0 + 66 * i ≡ 66 * i = omega arith in
          rw (add-one i) (sets_behind l 0 (joined (line t ps) i) (line t ps i) (g.put w) width (rw (from, ← x.put ps w g.rest) e));
      rest = let next : 5 * i + 5 ≡ 5 * (i + 1) = omega arith in rw next at (x.rest ps g.rest);
    }
