-- `Configured::scan_segment` meets its contract. The invariant, Walking: the segment is as a whole what the places from j on are, after the last pair in hand.
use Rattle.judge.proofs.Judging.{Walking}
use Rattle.judge.proofs.Configured.scan_segment.Given as goal

abbrev pub invariant-loop-j : goal.invariant-loop-j
invariant-loop-j l = Walking l.self.card.now l.start l.len l.after l.last l.j
