use mathlib.Core.Path.{sym, subst}
use Prim.Native.Nat.{ℕ, ◌+◌, ◌-◌, ◌≤◌}
use native.Mathlib.Omega.{arith}
use lib.ListN.{length}
use Rattle.roles.specs.declared.Said.TheVariants.{One}
use Rattle.roles.specs.declared.Word.TheVariants.{Beat}
use Rattle.periods.specs.Period.{beat_limit}
use Rattle.lines.specs.Lines.{lines_of}
use Rattle.frames.specs.Steps.{Beats}
use Rattle.frames.proofs.Beating.{going_on, beat-long, said-to, beats-begin, beats-turn}
use Rattle.frames.proofs.beat_on.Goals as goal

pub loop-next-init : goal.loop-next-init
loop-next-init c = (c.requires.0, beats-begin c.requires.0)

pub overflow_sub-out : goal.overflow_sub-out
overflow_sub-out c = c.loop-next.invariant.0

pub overflow_cast-next : goal.overflow_cast-next
overflow_cast-next c = omega (arith, (going_on c.loop-next.next c.args.target (length c.loop-next.out) c.loop-next.r c.loop-next-test.true).0)

pub overflow_add-next : goal.overflow_add-next
overflow_add-next c = omega (arith, (going_on c.loop-next.next c.args.target (length c.loop-next.out) c.loop-next.r c.loop-next-test.true).0)

pub loop-next-smaller : goal.loop-next-smaller
loop-next-smaller c =
    let a = c.args in
    let l = c.loop-next in
    let g = going_on l.next a.target (length l.out) l.r c.loop-next-test.true in
    let b = beat-long l.next a.identity (omega arith) in
    omega (arith, g.1, b.0, b.1, l.invariant.0, c.say-r.auto.out, said-to c.say-r.ensures (omega (arith, g.1, b.1, l.invariant.0)))

pub loop-next-preserved : goal.loop-next-preserved
loop-next-preserved c =
    let a = c.args in
    let l = c.loop-next in
    let g = going_on l.next a.target (length l.out) l.r c.loop-next-test.true in
    let b = beat-long l.next a.identity (omega arith) in
    let room : l.r + length (lines_of l.next a.identity (One Beat)) ≤ length l.out = omega (arith, g.1, b.1, l.invariant.0) in (
      omega (arith, room, c.say-r.auto.out, said-to c.say-r.ensures room),
      subst (λ (n : ℕ). Beats a.first (beat_limit a.period) a.target a.identity a.out.now a.at (record { next = l.next + n; at = c.say-r.result }) c.say-r.new.out) (sym c.beat_limit.ensures)
          (beats-turn l.invariant.1 c.say-r.auto.out g.0 room c.say-r.ensures),
    )

pub shape_of-out : goal.shape_of-out
shape_of-out c = c.loop-next.invariant.1.kept

pub returns : goal.returns
returns c = c.loop-next.invariant.1
