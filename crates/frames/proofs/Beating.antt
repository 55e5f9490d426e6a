-- Beats of a calm group, written one after the other. Assumes nothing.
use mathlib.Core.Bool.{Bool, true, false, ◌&&◌, ◌||◌}
use mathlib.Core.Path.{◌≡◌, refl, sym, ap, ◌∙◌}
use mathlib.Core.Logic.{inl, inr}
use mathlib.Core.List.{List, ◌++◌, append-nil, append_assoc}
use Prim.Native.Nat.{ℕ, zero, suc, ◌+◌, ◌-◌, ◌*◌, ◌≤◌, ◌<◌}
use native.Mathlib.Omega.{arith}
use borrow.Author.Tests.{leb-true, ltb-true}
use lib.Dec.{ltb, leb}
use lib.ListN.{length, get_or, length-append}
use Rattle.lists.specs.Lists.{map_from}
use Rattle.lists.specs.Splice.{splice}
use Rattle.lists.proofs.Splicing.{splice-none}
use Rattle.lists.proofs.Cases.{on, clash, fst_true, snd_true, or-true}
use Rattle.roles.specs.declared.Role.{Role}
use Rattle.roles.specs.declared.Role.TheVariants.{Down, Idle, Sync, Backup, Prospect, Primary}
use Rattle.roles.specs.declared.Said.TheVariants.{One}
use Rattle.roles.specs.declared.Word.TheVariants.{Beat}
use Rattle.periods.specs.declared.Period.{Period}
use Rattle.server.specs.declared.Server.{Server}
use Rattle.periods.specs.Period.{beat_limit}
use Rattle.server.specs.Server.{absent}
use Rattle.roles.specs.Words.{word_bytes}
use Rattle.lines.specs.Lines.{lines_of, Says}
use Rattle.lines.proofs.Pieces.{line-long}
use Rattle.group.specs.Advance.{lines_by}
use Rattle.frames.specs.declared.Pulse.{Pulse}
use Rattle.places.specs.Roles.{is_primary}
use Rattle.frame.specs.Answers.{state_of}
use Rattle.frame.specs.Steps.{Loud, NotDue}
use Rattle.frames.specs.Steps.{pulsed, AllWait, Calm, beat_lines, Beats, Stretches}
use Rattle.frame.proofs.Writing.{chain, out_as, start, says-out, after-fits}
use Rattle.frame.proofs.Quiet.{due-before, due-from, unsent}
use Rattle.frame.proofs.Loud.{loud_quiet}
use Rattle.frame.proofs.Bound.{line-most}
use Rattle.frames.proofs.Pulsing.{rounds}

-- ---- who is calm

pub asleep : (s n t f : ℕ) → (leb (s + n) t || ltb f (s + n)) ≡ true → NotDue s n t (f + 1)
asleep s n t f e =
    on (or-true (leb (s + n) t) _ e)
    (λ h. due-before (leb-true (s + n) t h))
    (λ h. due-from (let g = ltb-true f (s + n) h in omega arith))

primary-so : (r : Role) → is_primary r ≡ true → r ≡ Primary
primary-so Down e = absurd (clash e refl)
primary-so Idle e = absurd (clash e refl)
primary-so Sync e = absurd (clash e refl)
primary-so Backup e = absurd (clash e refl)
primary-so Prospect e = absurd (clash e refl)
primary-so Primary e = refl

pub calm-is :
    (p : Period) (w : List Bool) (l : List Server) (b t : ℕ) → Loud l 0 → b < 16 → is_primary (get_or l b absent).role ≡ true →
    t < (get_or l b absent).beat + beat_limit p → 1 < beat_limit p → AllWait l w p b t ((get_or l b absent).beat + beat_limit p) 16 →
    Calm p w l b t ((get_or l b absent).beat + beat_limit p)
calm-is p w l b t v h q ahead long wait =
    record {
      place = h;
      primary = primary-so (get_or l b absent).role q;
      next = refl;
      ahead = ahead;
      long = long;
      unsent = λ i g. unsent l 16 i (loud_quiet v refl) g;
      others = λ i g e. on (wait i g e) (λ s. inl s) (λ s. inr (record { role = s.0; link = s.1.0; waits = s.1.1 }));
    }

-- ---- the lines

-- the test of the loop
pub going_on : (next target long r : ℕ) → (ltb next target && leb 27 (long - r)) ≡ true → (next < target) × (27 ≤ long - r)
going_on next target long r e = (ltb-true next target (fst_true (ltb next target) _ e), leb-true 27 (long - r) (snd_true (ltb next target) _ e))

-- a line of a beat is not empty, and fits where 27 bytes do
pub beat-long : (f i : ℕ) → i < 65536 → (0 < length (lines_of f i (One Beat))) × (length (lines_of f i (One Beat)) ≤ 27)
unfolding lines_of
beat-long f i h = (omega (arith, line-long f i (word_bytes Beat)), line-most f i Beat h)

-- the place after what was said
pub said-to : {d : List ℕ} {at : ℕ} {w : List ℕ} {r : ℕ} {d' : List ℕ} → Says true d at w r d' → at + length w ≤ length d → r ≡ at + length w
said-to {d} {at} {w} q h = (says-out q).end (omega arith) ∙ after-fits d at w h

beats-more : (f p i n : ℕ) → beat_lines f p i (suc n) ≡ beat_lines f p i n ++ lines_of (f + n * p) i (One Beat)
beats-more f p i zero = append-nil _ ∙ ap (λ (k : ℕ). lines_of k i (One Beat)) (let e : f ≡ f + 0 * p = omega arith in e)
beats-more f p i (suc n) =
    ap (λ (x : List ℕ). lines_of f i (One Beat) ++ x)
    (beats-more (f + p) p i n ∙ ap (λ (k : ℕ). beat_lines (f + p) p i n ++ lines_of k i (One Beat)) (let e : (f + p) + n * p ≡ f + suc n * p = omega arith in e))
    ∙ sym (append_assoc (lines_of f i (One Beat)) (beat_lines (f + p) p i n) _)

module _ {f p target i : ℕ} {d : List ℕ} {at : ℕ} where
  pub beats-begin : at ≤ length d → Beats f p target i d at (record { next = f; at = at }) d
  beats-begin h =
      record {
        count = 0;
        next = let e : f ≡ f + 0 * p = omega arith in e;
        before = λ n e. absurd (omega arith);
        kept = refl;
        fits = omega arith;
        out = start;
      }

  pub beats-turn :
      {next r r' : ℕ} {d' d'' : List ℕ} → Beats f p target i d at (record { next = next; at = r }) d' → length d'' ≡ length d' → next < target → r + length (lines_of next i (One Beat)) ≤ length d' →
      Says true d' r (lines_of next i (One Beat)) r' d'' → Beats f p target i d at (record { next = next + p; at = r' }) d''
  beats-turn {next} {r} {r'} {d'} {d''} v same h room q =
      let n = v.count in
      let e : next ≡ f + n * p = v.next in
      let kept = v.kept in
      let was : r ≡ at + length (beat_lines f p i n) = v.out.end (omega (arith, v.fits)) ∙ after-fits d at (beat_lines f p i n) v.fits in
      let more : beat_lines f p i (suc n) ≡ beat_lines f p i n ++ lines_of next i (One Beat) = beats-more f p i n ∙ ap (λ (k : ℕ). beat_lines f p i n ++ lines_of k i (One Beat)) (sym e) in
      let long = length-append (beat_lines f p i n) (lines_of next i (One Beat)) in
      record {
        count = suc n;
        next = let z : next + p ≡ f + suc n * p = omega arith in z;
        before = λ m z. let y : m ≡ n = omega arith in rw y (omega arith);
        kept = same ∙ kept;
        fits = omega (arith, ap length more, long);
        out = out_as (sym more) (chain kept v.out (says-out q));
      }

-- the last of some beats is before the target
pub beats-last : {f p target i : ℕ} {d : List ℕ} {at : ℕ} {r : Pulse} {d' : List ℕ} → Beats f p target i d at r d' → f < r.next → (p ≤ r.next) × (r.next - p < target)
beats-last {f} {p} {target} {i} {d} {at} {r} {d'} v h = by v.count refl
  where
    by : (n : ℕ) → v.count ≡ n → (p ≤ r.next) × (r.next - p < target)
    by zero e = absurd (let z : r.next ≡ f = v.next ∙ ap (λ (k : ℕ). f + k * p) e ∙ (let y : f + 0 * p ≡ f = omega arith in y) in omega arith)
    by (suc n) e =
        let z : r.next ≡ f + suc n * p = v.next ∙ ap (λ (k : ℕ). f + k * p) e in
        let before = v.before n e in
        let more : suc n * p ≡ n * p + p = omega arith in
        (omega arith, omega arith)

-- and that is not before the first
pub beats-first : {f p target i : ℕ} {d : List ℕ} {at : ℕ} {r : Pulse} {d' : List ℕ} → Beats f p target i d at r d' → f < r.next → f ≤ r.next - p
beats-first {f} {p} {target} {i} {d} {at} {r} {d'} v h = by v.count refl
  where
    by : (n : ℕ) → v.count ≡ n → f ≤ r.next - p
    by zero e = absurd (let z : r.next ≡ f = v.next ∙ ap (λ (k : ℕ). f + k * p) e ∙ (let y : f + 0 * p ≡ f = omega arith in y) in omega arith)
    by (suc n) e =
        let z : r.next ≡ f + suc n * p = v.next ∙ ap (λ (k : ℕ). f + k * p) e in
        let more : suc n * p ≡ n * p + p = omega arith in
        omega arith

-- no beat: nothing was written
pub beats-none : {f p target i : ℕ} {d : List ℕ} {at : ℕ} {r : Pulse} {d' : List ℕ} → Beats f p target i d at r d' → 0 < p → r.next ≤ f → d' ≡ d
beats-none {f} {p} {target} {i} {d} {at} {r} {d'} v h g = by v.count refl
  where
    by : (n : ℕ) → v.count ≡ n → d' ≡ d
    by zero e = v.out.is refl v.fits ∙ ap (λ (k : ℕ). splice d at (beat_lines f p i k)) e ∙ splice-none d at
    by (suc n) e = absurd (let z : r.next ≡ f + suc n * p = v.next ∙ ap (λ (k : ℕ). f + k * p) e in omega arith)

-- ---- the channel after them

module _ (p : Period) (w : List Bool) (l : List Server) (b t f target : ℕ) (room : length l ≡ 16) (v : Calm p w l b t f) where
  -- some beats
  pub beats_stretch :
      {d : List ℕ} {at : ℕ} {r : Pulse} {d' : List ℕ} → (q : Beats f (beat_limit p) target (get_or l b absent).identity d at r d') → f < r.next →
      Stretches (state_of t p l w) target d at (map_from 0 (pulsed b (r.next - beat_limit p)) l) (record { frame = r.next - beat_limit p + 1; at = r.at; full = false }) d'
  beats_stretch {d} {at} {r} {d'} q h = by q.count refl
    where
      by : (n : ℕ) → q.count ≡ n →
          Stretches (state_of t p l w) target d at (map_from 0 (pulsed b (r.next - beat_limit p)) l) (record { frame = r.next - beat_limit p + 1; at = r.at; full = false }) d'
      by zero e = absurd (let z : r.next ≡ f = q.next ∙ ap (λ (k : ℕ). f + k * beat_limit p) e ∙ (let y : f + 0 * beat_limit p ≡ f = omega arith in y) in omega arith)
      by (suc n) e =
          let k = rounds p w n l b t f room v in
          let ahead = v.ahead in
          let last : r.next - beat_limit p ≡ f + n * beat_limit p = (let y : r.next ≡ f + suc n * beat_limit p = q.next ∙ ap (λ (m : ℕ). f + m * beat_limit p) e in omega arith) in
          let lines : beat_lines f (beat_limit p) (get_or l b absent).identity q.count ≡ lines_by k.count (state_of t p l w) = ap (beat_lines f (beat_limit p) (get_or l b absent).identity) e ∙ sym k.lines in
          let before = q.before n e in
          record {
            count = k.count;
            within = omega (arith, k.ends);
            fits = omega (arith, q.fits, ap length lines);
            steps =
                record {
                  channel = ap (λ (m : ℕ). state_of (m + 1) p (map_from 0 (pulsed b m) l) w) last ∙ sym k.state;
                  out = out_as lines q.out;
                };
            some = λ z. omega (arith, k.ends);
            stop = λ z. absurd (clash z refl);
          }
