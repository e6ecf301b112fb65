-- `update::old::next` meets its contract: each way of going on is one law of proofs/Cursor.
use native.Mathlib.Omega.{arith}
use mathlib.Core.Path.{◌≡◌, sym, ap, ◌∙◌}
use Rattle.block.specs.code.Scan.{reads_on}
use Rattle.card.specs.Layout.{block_size, place_count}
use Rattle.card.proofs.Ordered.{place_on_circle}
use Rattle.pair.proofs.Lists.{drop_take}
use Rattle.update.specs.code.Old.{rest}
use Rattle.update.proofs.Cursor.{position_room, advanced_position, entry_there, advanced_entry, advanced_end, place_entered, advanced_place}
use Rattle.update.proofs.old.next.Goals as goal

pub bounds-card-old : goal.bounds-card-old
bounds-card-old c = omega (arith, position_room c.requires c.if-old-gt0.true, c.requires.ends)

pub returns-then-old-gt0 : goal.returns-then-old-gt0
returns-then-old-gt0 c = rw c.rank.ensures (advanced_position c.requires c.if-old-gt0.true)

pub entry-requires : goal.entry-requires
entry-requires c =
    let none : c.args.old.count ≡ 0 =
    omega (arith, c.if-old-gt0.false) in
    let reads : let a = c.args in c.reads_on.result ≡ reads_on (rest a.card.now a.old.at a.old.end) =
    let a = c.args in c.reads_on.ensures ∙ ap reads_on (drop_take a.old.at a.old.end a.card.now) in
    entry_there c.requires none (sym reads ∙ c.if-reads_on.true)

pub returns-then-reads_on : goal.returns-then-reads_on
returns-then-reads_on c =
    let none : c.args.old.count ≡ 0 =
    omega (arith, c.if-old-gt0.false) in
    let reads : let a = c.args in c.reads_on.result ≡ reads_on (rest a.card.now a.old.at a.old.end) =
    let a = c.args in c.reads_on.ensures ∙ ap reads_on (drop_take a.old.at a.old.end a.card.now) in
    rw c.entry.ensures (advanced_entry c.requires none (sym reads ∙ c.if-reads_on.true))

pub returns-then-old-eq0 : goal.returns-then-old-eq0
returns-then-old-eq0 c =
    let none : c.args.old.count ≡ 0 =
    omega (arith, c.if-old-gt0.false) in
    let reads : let a = c.args in c.reads_on.result ≡ reads_on (rest a.card.now a.old.at a.old.end) =
    let a = c.args in c.reads_on.ensures ∙ ap reads_on (drop_take a.old.at a.old.end a.card.now) in
    advanced_end c.requires none (sym reads ∙ c.if-reads_on.false) c.if-old-eq0.true

pub entry-requires-2 : goal.entry-requires-2
entry-requires-2 c =
    let size : c.of-k.result.size ≡ block_size c.args.card.now =
    omega (arith, c.of-k.ensures.of_size, c.requires.shaped.size_high) in
    rw (c.place_start-start.ensures, size) (place_entered c.requires c.if-old-eq0.false).entry

pub returns : goal.returns
returns c =
    let none : c.args.old.count ≡ 0 =
    omega (arith, c.if-old-gt0.false) in
    let reads : let a = c.args in c.reads_on.result ≡ reads_on (rest a.card.now a.old.at a.old.end) =
    let a = c.args in c.reads_on.ensures ∙ ap reads_on (drop_take a.old.at a.old.end a.card.now) in
    let size : c.of-k.result.size ≡ block_size c.args.card.now =
    omega (arith, c.of-k.ensures.of_size, c.requires.shaped.size_high) in
    let places : c.of-k.result.places ≡ place_count c.args.card.now =
    omega (arith, c.of-k.ensures.of_places, c.requires.shaped.count_high) in
    rw (c.entry-2.ensures, c.place_start-start.ensures, size)
    (advanced_place c.place_on.result (c.place_on.ensures ∙ place_on_circle _ c.args.old.place 1 c.requires.shaped places) c.requires none
    (sym reads ∙ c.if-reads_on.false) c.if-old-eq0.false)
