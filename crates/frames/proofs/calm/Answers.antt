use mathlib.Core.Path.{◌≡◌, ◌∙◌, ap, subst}
use Prim.Native.Nat.{ℕ, ◌+◌, ◌<◌}
use native.Mathlib.Omega.{arith}
use borrow.Author.Tests.{leb-false, ltb-false}
use lib.ListN.{get_or}
use lib.Dec.{leb, ltb}
use mathlib.Core.Bool.{◌||◌, false}
use Rattle.server.specs.declared.Server.{Server}
use Rattle.server.specs.Server.{absent}
use Rattle.periods.specs.Period.{beat_limit}
use Rattle.lists.proofs.Cases.{or_false}
use Rattle.places.specs.Words.{servers_of}
use Rattle.frames.specs.Steps.{AllWait}
use Rattle.frames.proofs.Beating.{calm-is}
use Rattle.frames.proofs.calm.Goals as goal

ahead-there : (next frame limit : ℕ) → (leb next frame || ltb limit 2) ≡ false → (frame < next) × (1 < limit)
ahead-there next frame limit e = let q = or_false (leb next frame) (ltb limit 2) e in (leb-false next frame q.0, (let g = ltb-false limit 2 q.1 in omega arith))

pub returns-then-not-silent : goal.returns-then-not-silent
returns-then-not-silent c h = absurd (omega arith)

pub returns-then-b-ge-SERVERS : goal.returns-then-b-ge-SERVERS
returns-then-b-ge-SERVERS c h = absurd (omega arith)

pub returns-then-next-frame : goal.returns-then-next-frame
returns-then-next-frame c h = absurd (omega arith)

pub all_wait-requires : goal.all_wait-requires
all_wait-requires c = c.if-b-ge-SERVERS.false

pub returns-then-all_wait : goal.returns-then-all_wait
returns-then-all_wait c h =
    let a = c.args in
    let l = servers_of a.words.now in
    let first = c.first_primary-b in
    let b = first.result in
    let beat = c.next_beat-next in
    let limit = c.beat_limit in
    let place = c.if-b-ge-SERVERS.false in
    let next : beat.result ≡ (get_or l b absent).beat + beat_limit a.period = beat.ensures ∙ ap (λ (x : Server). x.beat + beat_limit a.period) c.server-s.ensures in
    let then = ahead-there beat.result a.frame limit.result c.if-next-frame.false in
    calm-is a.period a.whole.now l b a.frame (c.requires (c.if-not-silent.false)) place (first.ensures place)
    (subst (λ (n : ℕ). a.frame < n) next then.0) (subst (λ (n : ℕ). 1 < n) limit.ensures then.1)
    (subst (λ (n : ℕ). AllWait l a.whole.now a.period b a.frame n 16) next (c.all_wait.ensures c.if-all_wait.true))

pub returns-else-all_wait : goal.returns-else-all_wait
returns-else-all_wait c h = absurd (omega arith)
