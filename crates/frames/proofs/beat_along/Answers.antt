use mathlib.Core.Path.{◌≡◌, ◌∙◌, sym, ap, subst}
use mathlib.Core.List.{List}
use Prim.Native.Nat.{ℕ, ◌+◌, ◌-◌}
use native.Mathlib.Omega.{arith}
use mathlib.Core.Bool.{Bool}
use lib.ListN.{length, get_or}
use Rattle.lists.specs.Lists.{map_from}
use Rattle.server.specs.declared.Server.{Server}
use Rattle.server.specs.Server.{absent}
use Rattle.periods.specs.Period.{beat_limit}
use Rattle.places.specs.Words.{servers_of}
use Rattle.frame.specs.Answers.{state_of}
use Rattle.frames.specs.Steps.{pulsed, Beats, Stretches}
use Rattle.places.proofs.Words.{long_of}
use Rattle.frames.proofs.Moving.{moves-none, moves-on, moves-then}
use Rattle.frames.proofs.Fitting.{stretch_fares}
use Rattle.frames.proofs.Beating.{beats-last, beats-first, beats_stretch, beats-none}
use Rattle.frames.proofs.beat_along.Goals as goal

pub beat_on-m-requires : goal.beat_on-m-requires
beat_on-m-requires c = (c.requires.0, omega (arith, c.next_beat-first.ensures))

pub overflow_sub-last : goal.overflow_sub-last
overflow_sub-last c = omega (arith, c.beat_limit.ensures, (beats-last c.beat_on-m.ensures c.if-m-first.true).0)

pub overflow_cast-last-then-m-first : goal.overflow_cast-last-then-m-first
overflow_cast-last-then-m-first c = omega (arith, c.beat_limit.ensures, (beats-last c.beat_on-m.ensures c.if-m-first.true).1)

pub settle-requires : goal.settle-requires
settle-requires c =
    let p = c.requires in
    (omega (arith, c.beat_limit.ensures, (beats-last c.beat_on-m.ensures c.if-m-first.true).1), p.1.1.1.place)

pub overflow_add-result : goal.overflow_add-result
overflow_add-result c = omega (arith, c.beat_limit.ensures, (beats-last c.beat_on-m.ensures c.if-m-first.true).1)

pub play_fitting-requires : goal.play_fitting-requires
play_fitting-requires c = let p = c.requires in omega (arith, p.1.0.1)

pub returns-then-m-first : goal.returns-then-m-first
returns-then-m-first c =
    let a = c.args in
    let p = c.requires in
    let l = servers_of a.words.now in
    let beats = c.beat_on-m in
    let m = beats.result in
    let limit = c.beat_limit in
    let same = c.server-s.ensures in
    let next : c.next_beat-first.result ≡ (get_or l a.b absent).beat + beat_limit a.period = c.next_beat-first.ensures ∙ ap (λ (s : Server). s.beat + beat_limit a.period) same in
    let d = beats.new.out in
    let q : Beats ((get_or l a.b absent).beat + beat_limit a.period) (beat_limit a.period) a.target (get_or l a.b absent).identity a.out.now a.at m d =
    subst (λ (i : ℕ). Beats ((get_or l a.b absent).beat + beat_limit a.period) (beat_limit a.period) a.target i a.out.now a.at m d) (ap (λ (s : Server). s.identity) same)
    (subst (λ (n : ℕ). Beats n (beat_limit a.period) a.target c.server-s.result.identity a.out.now a.at m d) next beats.ensures) in
    let g = beats_stretch a.period a.whole.now l a.b a.frame _ a.target (long_of a.words.now) p.1.1.1 q (omega (arith, next, c.if-m-first.true)) in
    let ch = state_of a.frame a.period l a.whole.now in (
      moves-on c.settle.ensures.0 (omega (arith, limit.ensures, p.1.1.1.ahead, next, beats-first beats.ensures c.if-m-first.true)),
      subst (λ (x : List Server). Stretches ch a.target a.out.now a.at x (record { frame = m.next - limit.result + 1; at = m.at; full = Bool.false }) d) (sym c.settle.ensures.1)
          (subst (λ (n : ℕ). Stretches ch a.target a.out.now a.at (map_from 0 (pulsed a.b (m.next - n)) l) (record { frame = m.next - n + 1; at = m.at; full = Bool.false }) d) (sym limit.ensures) g),
    )

pub returns-else-m-first : goal.returns-else-m-first
returns-else-m-first c =
    let a = c.args in
    let p = c.requires in
    let beats = c.beat_on-m in
    let played = c.play_fitting in
    let none = beats-none beats.ensures (omega (arith, p.1.1.1.long)) c.if-m-first.false in
    let ch = state_of a.frame a.period (servers_of a.words.now) a.whole.now in (
      moves-then (moves-none p.1.1.0.from) played.ensures.0,
      subst (λ (d : List ℕ). Stretches ch a.target d a.at (servers_of played.new.words) played.result played.new.out) none
          (stretch_fares ch p.1.1.0 (omega (arith, p.0, ap length none)) p.1.0.1 played.ensures.1),
    )
