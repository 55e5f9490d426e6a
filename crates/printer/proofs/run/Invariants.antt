use Prim.Native.Nat.{◌-◌}
use lib.ListN.{length}
use Rattle.feed.specs.Answers.{fed_of}
use Rattle.printer.specs.Print.{turns_left}
use Rattle.printer.proofs.Leaving.{Leaving}
use Rattle.printer.proofs.Running.{Running, Told}
use Rattle.printer.proofs.run.Given as goal

abbrev pub invariant-loop-n : goal.invariant-loop-n
invariant-loop-n l =
    let f₀ = fed_of l.initial.now l.initial.line l.initial.words l.initial.whole in
    let f = fed_of l.now l.line l.words l.whole in
    Running f₀ l.initial.line l.piece l.last l.initial.out f l.line l.out l.used l.at × Told f₀ l.piece l.last l.initial.out f l.used l.at l.first × Leaving l.initial.now l.initial.words l.initial.whole l.used l.now l.line l.words l.whole l.first

abbrev pub decreases-loop-n : goal.decreases-loop-n
decreases-loop-n l = turns_left (fed_of l.now l.line l.words l.whole) (length l.piece - l.used)
