use mathlib.Core.Bool.{true, not, ◌&&◌, ◌||◌}
use mathlib.Core.Path.{◌≡◌, refl, subst}
use Prim.Native.Nat.{ℕ}
use lib.Dec.{eqb, ltb}
use Rattle.frame.proofs.Quiet.{rests-each}
use Rattle.frames.proofs.rests.Goals as goal

pub returns : goal.returns
returns c e =
    let a = c.args in
    let silence = c.sleeps-silence in
    let beat = c.sleeps-beat in
    let prospect = c.sleeps-prospect in
    let number = c.role_number-n in
    rests-each a.frame a.period a.s _ silence.result beat.result prospect.result a.s.role refl
    (λ x. rw c.silence_limit.ensures at (silence.ensures x))
    (λ x. rw c.beat_limit.ensures at (beat.ensures x))
    (λ x. rw c.prospect_limit.ensures at (prospect.ensures x))
    (subst (λ (n : ℕ). ((not (eqb n 3) || silence.result) && ((ltb n 4 || beat.result) && (not (eqb n 4) || prospect.result))) ≡ true) number.ensures e)
