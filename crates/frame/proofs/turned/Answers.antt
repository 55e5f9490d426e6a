use mathlib.Core.Path.{◌≡◌}
use Prim.Native.Nat.{ℕ, ◌+◌, ◌<◌, ◌≤◌}
use native.Mathlib.Omega.{arith}
use mathlib.Core.List.{List}
use lib.ListN.{length, take}
use lib.Seq.{length-take-le, get_or-take}
use Rattle.lists.proofs.MapLoop as map
use Rattle.server.specs.declared.Server.{Server}
use Rattle.server.specs.Server.{absent}
use Rattle.frame.specs.Answers.{state_of}
use Rattle.frame.specs.Steps.{Still}
use Rattle.frame.proofs.Writing as out
use Rattle.frame.proofs.Lookup.{inbox-same}
use Rattle.frame.proofs.Frames.{lines_more, turn_is, frame-runs}
use Rattle.frame.proofs.Still.{still-turned, turns-end}
use Rattle.frame.proofs.turned.Goals as goal

-- those that have a turn are n
first : {n : ℕ} (l : List Server) → Still n l → length l ≡ 16 → length (take n l) ≡ n
first {n} l v long = length-take-le n l (omega (arith, v.few))

pub loop-j-preserved : goal.loop-j-preserved
loop-j-preserved c =
    let a = c.args in
    let l = c.loop-j in
    let p = c.requires in
    let h : l.j < a.n = omega (arith, c.loop-j-test.true, first a.servers p.1.0 l.invariant.0.long) in
    let below : l.j < 16 = omega (arith, p.1.0.few) in
    let ch = state_of a.before a.period a.servers a.whole.now in
    let same = get_or-take a.n a.servers l.j absent h in
    let t = c.turn_of-t in
    let q = turn_is ch (a.before + 1) l.j _ (inbox-same ch _ p.1.1.1 l.j) (rw same at t.ensures) in (
      map.turn absent l.invariant.0 below q.0,
      out.turn l.invariant.1 (lines_more ch (a.before + 1) a.servers l.j absent (omega (arith, l.invariant.0.long))) t.auto.out q.1,
    )

pub returns : goal.returns
returns c =
    let a = c.args in
    let l = c.loop-j in
    let v = c.requires.1.0 in
    let h : a.n ≤ l.j = omega (arith, c.loop-j-test.false, first a.servers v l.invariant.0.long) in
    let ch = state_of a.before a.period a.servers a.whole.now in
    frame-runs ch (map.end-early absent l.invariant.0 (λ k g m. (still-turned _ (v.still k (omega (arith, g)) m) ch (a.before + 1) k (omega arith)).0))
    (out.finish l.invariant.1 (turns-end v l.invariant.0.long l.j h ch (a.before + 1) (omega arith)))
