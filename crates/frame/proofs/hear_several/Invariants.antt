use Prim.Native.Nat.{◌-◌}
use Rattle.frame.specs.Steps.{inbox_by}
use Rattle.frame.proofs.Hearings.{Hearing}
use Rattle.frame.proofs.Lookup.{inbox_after}
use Rattle.frame.proofs.hear_several.Given as goal

abbrev pub invariant-loop : goal.invariant-loop
invariant-loop l =
    Hearing l.frame l.wet l.initial.now (inbox_by (record { places = l.listed; ranks = l.ranks; sendings = l.sendings; count = l.count }) l.whole l.j) l.initial.out l.initial.r l.now (inbox_after (record { places = l.listed; ranks = l.ranks; sendings = l.sendings; count = l.count }) l.whole l.j (16 - l.counter) l.last) l.out l.r
