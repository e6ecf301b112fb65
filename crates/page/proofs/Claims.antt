-- The claims of a page.
use Prim.Native.Nat.{◌*◌, ◌<◌}
use native.Mathlib.Omega.{arith}
use mathlib.Core.Path.{◌≡◌, sym, ap, ◌∙◌}
use lib.ListN.{length, take}
use lib.Seq.{sets}
use Rattle.pair.specs.Rank.{Words}
use Rattle.pair.proofs.Lists.{part_sets_same, part_sets_after}
use Rattle.found.specs.Found.{found}
use Rattle.page.specs.Page.{line_count, page, page_number}
use Rattle.page.specs.Figures.{blank}
use Rattle.page.specs.ReadBack.{positions_in, term_in}
use Rattle.page.specs.Claims.{NumbersFit, NoLeadingZero, LinesAlike, PageReadBack, PagesDiffer}
use Rattle.figures.proofs.Figures.{decimal_few, decimal_leads}
use Rattle.page.proofs.ReadBack.{line_length, page_length, page_positions, page_term, page_feeds}
use Rattle.page.proofs.Printing.{found_words, printed_done, printed_number, page_room}

pub numbers_fit : NumbersFit
unfolding NumbersFit
numbers_fit = decimal_few

pub no_leading_zero : NoLeadingZero
unfolding NoLeadingZero
no_leading_zero = decimal_leads blank

pub lines_alike : LinesAlike
unfolding LinesAlike
lines_alike t ps i ht ws = line_length t ps ht ws i

pub page_read_back : PageReadBack
unfolding PageReadBack
page_read_back c t a z memory ht e =
    let ps = found c t a z in
    let text = page t ps in
    let ws : Words ps = found_words c t a z in
    let n : page_number c t a z memory ≡ 0 = sym (printed_number c t a z memory) ∙ e in
    let room = page_room c t a z memory n in
    let size : length text ≡ 66 * line_count ps = page_length t ps ht ws in
    let read : take (66 * line_count ps) (sets memory 0 text) ≡ text = rw size at (part_sets_same text memory 0 (omega arith)) in
    rw (printed_done c t a z memory n, read)
    (page_positions t ps ht ws, page_term t ps ht ws, page_feeds t ps, part_sets_after text memory (66 * line_count ps) 0 (omega arith))

pub pages_differ : PagesDiffer
unfolding PagesDiffer
pages_differ t u ps qs ht hu ws vs l e =
    let same : ps ≡ qs = sym (page_positions t ps ht ws) ∙ ap positions_in e ∙ page_positions u qs hu vs in
    let l' : 0 < length qs = rw same at l in
    (sym (page_term t ps ht ws l) ∙ ap term_in e ∙ page_term u qs hu vs l', same)
