-- A page read back: its postings, its term, its line feeds.
use Prim.Native.Nat.{ℕ, suc, ◌+◌, ◌*◌, ◌/◌, ◌≤◌, ◌<◌}
use native.Mathlib.Omega.{arith}
use mathlib.Core.Path.{◌≡◌, refl, sym, ap, ◌∙◌}
use mathlib.Core.Bool.{Bool, true, false, cond}
use mathlib.Core.List.{List, [], ◌∷◌, ◌++◌, append_assoc, append-nil}
use lib.ListN.{length, take, get_or, length-append}
use lib.Seq.{take_all, take-take, take_at, drop_at}
use lib.Dec.{ltb, eqb}
use Rattle.pair.specs.Rank.{word_limit, Words}
use Rattle.pair.specs.Rising.{any, keep}
use Rattle.page.specs.Figures.{blank, column, no_column}
use Rattle.page.specs.Page.{line_feed, joined, field, line, line_count, page}
use Rattle.page.specs.ReadBack.{shown, part, positions_in_line, positions_in, term_in, line_feeds_in}
use Rattle.page.specs.code.Putting.{head_of, fields_from}
use Rattle.page.proofs.Figures.{column_length, column_number, column_shown, feeds_append, feeds_blanks, feeds_column}
use Rattle.page.proofs.Joining.{joined_agree, joined_length, part_joined, joined_rows, single, joined_singles, feeds_joined}

pub head_length : (t i : ℕ) → t < word_limit → length (head_of t i) ≡ 10
head_length t i h = go (eqb i 0)
  where
    go : (s : Bool) → length (cond s (column t) no_column) ≡ 10
    go true = column_length t h
    go false = refl

pub field_length : (ps : List ℕ) (k : ℕ) → Words ps → length (field ps k) ≡ 11
unfolding field Words
field_length ps k w = go (ltb k (length ps))
  where
    go : (s : Bool) → suc (length (cond s (column (get_or ps k 0)) no_column)) ≡ 11
    go true = rw (column_length (get_or ps k 0) (w k))
    go false = refl

-- a field shows its posting, and nothing where that is absent
field_shown : (ps : List ℕ) (k : ℕ) → shown (field ps k) ≡ single ps k
unfolding field shown any
field_shown ps k = go (ltb k (length ps))
  where
    go : (s : Bool) → shown (blank ∷ cond s (column (get_or ps k 0)) no_column) ≡ cond s (get_or ps k 0 ∷ []) []
    go true = column_shown (get_or ps k 0)
    go false = refl

-- no field and no head has a line feed
field_feeds : (ps : List ℕ) (k : ℕ) → line_feeds_in (field ps k) ≡ 0
unfolding field line_feeds_in keep
field_feeds ps k = go (ltb k (length ps))
  where
    go : (s : Bool) → length (keep (eqb line_feed) (cond s (column (get_or ps k 0)) no_column)) ≡ 0
    go true = feeds_column (get_or ps k 0)
    go false = refl

head_feeds : (t i : ℕ) → line_feeds_in (head_of t i) ≡ 0
head_feeds t i = go (eqb i 0)
  where
    go : (s : Bool) → line_feeds_in (cond s (column t) no_column) ≡ 0
    go true = feeds_column t
    go false = feeds_blanks 10

feed_alone : line_feeds_in (line_feed ∷ []) ≡ 1
unfolding line_feeds_in keep
feed_alone = refl

line_feeds : (t : ℕ) (ps : List ℕ) (i : ℕ) → line_feeds_in (line t ps i) ≡ 1
unfolding line
line_feeds t ps i =
    rw (feeds_append (head_of t i ++ fields_from ps (5 * i) 5), feeds_append (head_of t i), head_feeds t i, feeds_joined (λ j. field ps (5 * i + j)) 0 5 (λ j. field_feeds ps (5 * i + j)), feed_alone)

-- the lines have room for all postings
lines_enough : (ps : List ℕ) → length ps ≤ 5 * line_count ps
unfolding line_count
lines_enough ps = omega arith

lines_some : (ps : List ℕ) → 0 < length ps → 0 < line_count ps
unfolding line_count
lines_some ps l = omega arith

pub page_feeds : (t : ℕ) (ps : List ℕ) → line_feeds_in (page t ps) ≡ line_count ps
unfolding page
page_feeds t ps = feeds_joined (line t ps) 1 (line_count ps) (line_feeds t ps) ∙ omega arith

module _ (t : ℕ) (ps : List ℕ) (ht : t < word_limit) (hs : Words ps) where
  pub fields_length : (i : ℕ) → length (fields_from ps (5 * i) 5) ≡ 55
  fields_length i = joined_length (λ j. field ps (5 * i + j)) 11 5 (λ j l. field_length ps (5 * i + j) hs)

  pub line_length : (i : ℕ) → length (line t ps i) ≡ 66
  unfolding line
  line_length i = rw (length-append, length-append, head_length t i ht, fields_length i)

  pub page_length : length (page t ps) ≡ 66 * line_count ps
  unfolding page
  page_length = joined_length (line t ps) 66 (line_count ps) (λ i l. line_length i)

  -- a line shows its postings
  line_shown : (i : ℕ) → positions_in_line (line t ps i) ≡ joined (λ j. single ps (5 * i + j)) 5
  unfolding positions_in_line line
  line_shown i =
      rw (append_assoc (head_of t i) (fields_from ps (5 * i) 5) (line_feed ∷ []), drop_at (head_of t i) (fields_from ps (5 * i) 5 ++ line_feed ∷ []) 10 (head_length t i ht))
      (joined_agree (λ j. shown (part 11 j (fields_from ps (5 * i) 5 ++ line_feed ∷ []))) (λ j. single ps (5 * i + j)) 5
      (λ j l.
      ap shown (part_joined (λ j. field ps (5 * i + j)) 11 5 j (line_feed ∷ []) (λ k q. field_length ps (5 * i + k) hs) l)
      ∙ field_shown ps (5 * i + j)))

  -- the part of the page that is a line
  page_part : (i : ℕ) → i < line_count ps → part 66 i (page t ps) ≡ line t ps i
  unfolding page
  page_part i l =
      ap (part 66 i) (sym (append-nil (joined (line t ps) (line_count ps))))
      ∙ part_joined (line t ps) 66 (line_count ps) i [] (λ j q. line_length j) l

  pub page_positions : positions_in (page t ps) ≡ ps
  unfolding positions_in
  page_positions =
      let n = line_count ps in
      let count : length (page t ps) / 66 ≡ n = rw page_length (omega arith) in
      rw count
      (joined_agree (λ i. positions_in_line (part 66 i (page t ps))) (λ i. joined (λ j. single ps (5 * i + j)) 5) n
      (λ i l. ap positions_in_line (page_part i l) ∙ line_shown i)
      ∙ joined_rows (single ps) 5 n
      ∙ joined_singles ps (5 * n)
      ∙ take_all (5 * n) ps (lines_enough ps))

  pub page_term : 0 < length ps → term_in (page t ps) ≡ t
  unfolding term_in part line
  page_term l =
      let first : take 66 (page t ps) ≡ line t ps 0 = page_part 0 (lines_some ps l) in
      let columns : take 10 (page t ps) ≡ column t =
      sym (take-take 10 66 (page t ps) (omega arith))
      ∙ ap (take 10) (first ∙ append_assoc (column t) (fields_from ps 0 5) (line_feed ∷ []))
      ∙ take_at (column t) (fields_from ps 0 5 ++ line_feed ∷ []) 10 (column_length t ht) in
      rw columns (column_number t)
