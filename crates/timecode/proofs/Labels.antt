-- Labels: what the test of one says, and the bytes of the label of a frame. Assumes nothing.
use mathlib.Core.Bool.{true}
use mathlib.Core.List.{List, [], ◌∷◌}
use mathlib.Core.Path.{◌≡◌, sym, ap, ◌∙◌}
use Prim.Native.Nat.{ℕ, zero, suc, ◌+◌, ◌-◌, ◌*◌, ◌/◌, ◌%◌, ◌<◌}
use native.Mathlib.Omega.{arith}
use borrow.Author.Tests.{eqb-true}
use lib.ListN.{length, get_or, drop}
use lib.Seq.{drop-cons, drop-length}
use Rattle.lists.proofs.Cases.{and_true}
use Rattle.timecode.specs.Label.{day_length, label}
use Rattle.timecode.specs.Read.{two_at, two_below, is_label, frame_of}
use Rattle.timecode.specs.Steps.{Pair, IsLabel}
use Rattle.timecode.proofs.Digits.{parts, below, tens-back, ones-back, two-reads, two-passes}

-- the test, taken apart
pub is-label : (s : List ℕ) → is_label s ≡ true → IsLabel s
unfolding is_label
is-label s e =
    let long : length s ≡ 11 = eqb-true _ _ (search parts) in
    record {
      long = long;
      colon₁ = eqb-true _ _ (search parts);
      colon₂ = eqb-true _ _ (search parts);
      colon₃ = eqb-true _ _ (search parts);
      hours = below s 0 24 (omega arith) (search parts);
      minutes = below s 3 60 (omega arith) (search parts);
      seconds = below s 6 60 (omega arith) (search parts);
      frames = below s 9 25 (omega arith) (search parts);
    }

-- the label of a frame of the day passes the test, and names the frame
module _ (t : ℕ) (h : t < day_length) where
  pub label-passes : is_label (label t) ≡ true
  unfolding label is_label two_below
  label-passes =
      and_true (two-passes (t / 90000) 24 (omega arith) (omega arith))
      (and_true (two-passes (t / 1500 % 60) 60 (omega arith) (omega arith))
      (and_true (two-passes (t / 25 % 60) 60 (omega arith) (omega arith)) (two-passes (t % 25) 25 (omega arith) (omega arith))))

  pub frame_of_label : frame_of (label t) ≡ t
  unfolding label frame_of
  frame_of_label =
      rw (
        two-reads (t / 90000) (omega arith),
        two-reads (t / 1500 % 60) (omega arith),
        two-reads (t / 25 % 60) (omega arith),
        two-reads (t % 25) (omega arith),
      )
      (omega arith)

-- the last two digits
last-tens : (n : ℕ) → n % 100 / 10 % 10 ≡ n / 10 % 10
last-tens n = omega arith

last-ones : (n : ℕ) → n % 100 % 10 ≡ n % 10
last-ones n = omega arith

-- hours, minutes, seconds and frames of the frame that they name
module _ (a b c d : ℕ) (hb : b < 60) (hc : c < 60) (hd : d < 25) where
  hours-back : (((a * 60 + b) * 60 + c) * 25 + d) / 90000 ≡ a
  hours-back = omega arith

  minutes-back : (((a * 60 + b) * 60 + c) * 25 + d) / 1500 % 60 ≡ b
  minutes-back = omega arith

  seconds-back : (((a * 60 + b) * 60 + c) * 25 + d) / 25 % 60 ≡ c
  seconds-back = omega arith

  frames-back : (((a * 60 + b) * 60 + c) * 25 + d) % 25 ≡ d
  frames-back = omega arith

-- the bytes of the four pairs of a frame are its label
module _ (t : ℕ) where
  pub label-pairs :
      {h m s f : ℕ} → Pair (t / 25 / 60 / 60 % 100) h → Pair (t / 25 / 60 - t / 25 / 60 / 60 * 60) m → Pair (t / 25 - t / 25 / 60 * 60) s →
      Pair (t - t / 25 * 25) f →
      (h % 256) ∷ (h / 256) ∷ 58 ∷ (m % 256) ∷ (m / 256) ∷ 58 ∷ (s % 256) ∷ (s / 256) ∷ 58 ∷ (f % 256) ∷ (f / 256) ∷ [] ≡ label t
  unfolding label
  label-pairs h m s f =
      let hours : t / 25 / 60 / 60 ≡ t / 90000 = omega arith in
      let minutes : t / 25 / 60 - t / 25 / 60 / 60 * 60 ≡ t / 1500 % 60 = omega arith in
      let seconds : t / 25 - t / 25 / 60 * 60 ≡ t / 25 % 60 = omega arith in
      let frames : t - t / 25 * 25 ≡ t % 25 = omega arith in
      rw (h.tens, h.ones, m.tens, m.ones, s.tens, s.ones, f.tens, f.ones, minutes, seconds, frames, hours, last-tens (t / 90000), last-ones (t / 90000))

-- n bytes of s from place k on, one by one
abbrev spell : ℕ → ℕ → List ℕ → List ℕ
spell k zero s = []
spell k (suc n) s = get_or s k 0 ∷ spell (suc k) n s

-- they are all that s has from there on
spelt : (n k : ℕ) (s : List ℕ) → length s ≡ k + n → drop k s ≡ spell k n s
spelt zero k s e = let f : k ≡ length s = omega arith in rw f (drop-length s)
spelt (suc n) k s e = drop-cons s k 0 (omega arith) ∙ ap (λ (l : List ℕ). get_or s k 0 ∷ l) (spelt n (suc k) s (omega arith))

-- the frame that a label names is of the day, and has that label
module _ (s : List ℕ) (l : IsLabel s) where
  frame-written : label (frame_of s) ≡ spell 0 11 s
  unfolding label frame_of
  frame-written =
      let m : two_at s 3 < 60 = l.minutes.below
      in
      let n : two_at s 6 < 60 = l.seconds.below
      in
      let f : two_at s 9 < 25 = l.frames.below
      in
      rw (
        hours-back,
        minutes-back,
        seconds-back,
        frames-back,
        tens-back s 0 l.hours.digits,
        ones-back s 0 l.hours.digits,
        tens-back s 3 l.minutes.digits,
        ones-back s 3 l.minutes.digits,
        tens-back s 6 l.seconds.digits,
        ones-back s 6 l.seconds.digits,
        tens-back s 9 l.frames.digits,
        ones-back s 9 l.frames.digits,
        l.colon₁,
        l.colon₂,
        l.colon₃,
      )

  pub label-back : label (frame_of s) ≡ s
  label-back = frame-written ∙ sym (spelt 11 0 s l.long)

  pub in_day_lem : frame_of s < day_length
  unfolding frame_of
  in_day_lem = omega arith
