use mathlib.Core.Bool.{true}
use mathlib.Core.Path.{refl}
use native.Mathlib.Omega.{arith}
use lib.ListN.{replicate}
use Rattle.daysheet.proofs.Writing.{place-within, bytes, all-within, writes-all}
use Rattle.daysheet.proofs.write.Goals as goal

pub slice_bounds-print-count : goal.slice_bounds-print-count
slice_bounds-print-count c = place-within _ c.begin-begun.ensures c.requires c.bytes-at.ensures

pub slice_bounds-print-start : goal.slice_bounds-print-start
slice_bounds-print-start c = place-within _ c.begin-begun.ensures c.requires c.bytes-at.ensures

pub overflow_add-result : goal.overflow_add-result
overflow_add-result c = let b = c.begin-begun.ensures in let fed = b.fed (replicate 65 0) (replicate 80 0) (replicate 256 true) in omega (arith, c.well_formed.1.0.0, c.bytes.ensures, bytes _ b c.requires c.bytes-at.ensures fed c.print-printed.ensures.prints, all-within _ b c.requires c.bytes-at.ensures fed c.print-printed.ensures.prints)

pub returns : goal.returns
returns c = let b = c.begin-begun.ensures in writes-all _ b c.requires c.bytes-at.ensures (b.fed (replicate 65 0) (replicate 80 0) (replicate 256 true)) c.print-printed.ensures.prints c.bytes.ensures refl
