use mathlib.Core.Path.{◌≡◌, sym, subst}
use Prim.Native.Nat.{◌+◌}
use native.Mathlib.Omega.{arith}
use Rattle.settling.specs.Demand.{settling_time, SettlesIn}
use Rattle.settling.proofs.Demand.{settles, links_are_as_cut}
use Rattle.settling.proofs.Examples.{examples}
use Rattle.settling.proofs.Sending.{sent_in_order, senders_always_differ}
use Rattle.settling.proofs.settling_frames.Goals as goal

-- the figure is that of the theorem, and so the channel settles in it
pub returns : goal.returns
returns c =
    let n = c.args.period.frames in
    let a = c.silence_limit.ensures in
    let b = c.prospect_limit.ensures in
    let e : c.silence_limit.result + c.prospect_limit.result + 2 ≡ settling_time n = omega (arith, a, b) in
    record {
      figure = e;
      settles = subst (SettlesIn n) (sym e) (settles n);
      examples = examples;
      ordered = sent_in_order;
      differ = senders_always_differ;
      links = links_are_as_cut;
    }
