-- Two steps. Assumes nothing.
use Rattle.std.specs.Prelude.{Result, Ok, Err}
use mathlib.Core.Bool.{Bool, true, false}
use mathlib.Core.Path.{◌≡◌, refl, sym, ap, ap₂, subst, ◌∙◌}
use mathlib.Core.List.{List, [], ◌++◌, append-nil, append_assoc}
use Prim.Native.Nat.{ℕ, ◌+◌, ◌-◌, ◌≤◌, ◌<◌}
use native.Mathlib.Omega.{arith}
use borrow.Author.Tests.{le-leb, leb-true, leb-false}
use lib.ListN.{length, take, drop, length-append, length-drop, drop_of_length-le}
use lib.Seq.{drop-drop}
use Rattle.lists.specs.Splice.{splice}
use Rattle.lists.proofs.Cases.{less, on, chosen, other}
use Rattle.lists.proofs.Splicing.{splice-none, splices, splice-length}
use Rattle.lists.proofs.Parts.{part-rest}
use Rattle.refusal.specs.declared.Refusal.{Refusal}
use Rattle.text.specs.Write.{wrote, Writes}
use Rattle.text.proofs.Writing.{writes-to, written-end, written-slice}
use Rattle.day.specs.Read.{DayLine, line_read}
use Rattle.feeding.specs.Fed.{Fed, waits}
use Rattle.feeding.specs.Moves.{Move, line_move, step_move, steps_move}
use Rattle.feeding.proofs.Laws.{line_kept, both_so, both-not, step-idle, step_is}
use Rattle.feed.specs.declared.Feed.{Feed}
use Rattle.feed.specs.declared.Step.{Step}
use Rattle.feed.specs.Answers.{fed_of, Makes, MakesIn}
use Rattle.feed.specs.Steps.{MakesAll, Follows}
use Rattle.feed.proofs.Leaving.{leaves_passed}
use Rattle.feed.proofs.Making.{it_fits, it_does_not, makes_as}

-- ---- written or not

-- all of it
pub record Done (m : Move) (d : List ℕ) (n : ℕ) (f' : Fed) (d' : List ℕ) : Type 0 where
  pub fits : length m.lines ≤ length d
  pub end : n ≡ length m.lines
  pub slice : d' ≡ splice d 0 m.lines
  pub fed : f' ≡ m.fed

module _ {f : Fed} {m : Move} {d : List ℕ} {p : Result ℕ Refusal} {f' : Fed} {d' : List ℕ} (q : Makes f m d p f' d') where
  written_as : {p' : Result ℕ Refusal} → p ≡ p' → Writes d 0 m.lines p' d'
  written_as e = subst (λ (x : Result ℕ Refusal). Writes d 0 m.lines x d') e q.out

  pub made : {n : ℕ} → p ≡ Ok n → Done m d n f' d'
  made e =
      let w = written_as e in
      let h = leb-true (0 + length m.lines) (length d) (it_fits w) in
      record { fits = omega arith; end = omega (arith, written-end h w); slice = written-slice h w; fed = q.fed ∙ chosen f (it_fits w) }

  pub not_made : {k : Refusal} → p ≡ Err k → (length d < length m.lines) × (f' ≡ f) × (d' ≡ d)
  unfolding wrote
  not_made e =
      let no = it_does_not (written_as e) in
      let h = leb-false (0 + length m.lines) (length d) no in
      (omega arith, q.fed ∙ other _ no, q.out.slice ∙ other _ no)

-- what a public call makes, with all that it leaves
pub makes_in :
    {x : Feed} {l w : List ℕ} {k : List Bool} {m : Fed → ℕ → Move} {d : List ℕ} {r : Step} {w' : List ℕ} {k' : List Bool} {d' : List ℕ} →
    MakesAll x l w k (m (fed_of x l w k) (length d)) d r.written r.feed w' k' d' → MakesIn x l w k m d r w' k' d'
makes_in {l = l} q =
    record {
      makes = q.makes;
      leaves = leaves_passed l q.passes q.makes.fed;
      same = λ n e. let s = q.same n e in (s.0, s.1, s.2, (not_made q.makes e).2);
    }

-- a part of a slice, written
pub part-written : (d : List ℕ) (at : ℕ) (w : List ℕ) → take at d ++ (splice (drop at d) 0 w ++ drop (length d - at) (drop at d)) ≡ splice d at w
part-written d at w =
    let all : length (drop at d) ≤ length d - at = let l = length-drop at d in omega arith in
    let none : drop (length d - at) (drop at d) ≡ [] = drop_of_length-le (drop at d) all in
    ap (λ (x : List ℕ). take at d ++ (splice (drop at d) 0 w ++ x)) none
    ∙ ap (λ (x : List ℕ). take at d ++ x) (append-nil (splice (drop at d) 0 w))
    ∙ ap (λ (x : List ℕ). take at d ++ (w ++ x)) (ap (λ (n : ℕ). drop n (drop at d)) (let z : 0 + length w ≡ length w = omega arith in z) ∙ drop-drop (length w) at d)
    ∙ sym (append_assoc (take at d) w (drop (at + length w) d))

-- ---- the second step

module _ (f : Fed) (n : ℕ) (d : List ℕ) where
  abbrev move : Move
  move = step_move f (length d - n)

  abbrev part : List ℕ
  part = take (length d - n) (drop n d)

  pub follows-none : waits f ≡ false → Follows f n d (Ok n) f d
  follows-none e =
      let z = step-idle f e (length d - n) in
      let none : length move.lines ≡ 0 = ap (λ (x : Move). length x.lines) z in
      record {
        so = λ h. (ap Ok (omega arith), sym (ap (λ (x : Move). x.fed) z), sym (ap (λ (x : Move). splice d n x.lines) z ∙ splice-none d n));
        not = λ h. absurd (omega arith);
      }

  module _ {l : DayLine} {p : Result ℕ Refusal} {f' : Fed} {e : List ℕ} (w : waits f ≡ true) (is : l ≡ line_read f.line) (q : Makes f (line_move f (length part) l) part p f' e) where
    there : Makes f move (drop n d) p f' e
    there =
        let long : length part ≡ length d - n = ap length (part-rest d n) ∙ length-drop n d in
        subst (λ (x : List ℕ). Makes f move x p f' e) (part-rest d n) (makes_as (step_is f (length part) w is ∙ ap (step_move f) long) q)

    pub within : {m : ℕ} → p ≡ Ok m → m ≤ length d - n
    within t = let r = made there t in omega (arith, r.fits, r.end, length-drop n d)

    module _ {d' : List ℕ} (z : d' ≡ take n d ++ (e ++ drop (length d - n) (drop n d))) where
      put_back : (v : List ℕ) → e ≡ splice (drop n d) 0 v → d' ≡ splice d n v
      put_back v s = z ∙ ap (λ (x : List ℕ). take n d ++ (x ++ drop (length d - n) (drop n d))) s ∙ part-written d n v

      pub follows-made : {m : ℕ} → p ≡ Ok m → Follows f n d (Ok (n + m)) f' d'
      follows-made t =
          let r = made there t in
          record {
            so = λ h. (ap (λ (i : ℕ). Ok (n + i)) r.end, r.fed, put_back move.lines r.slice);
            not = λ h. absurd (omega (arith, r.fits, length-drop n d));
          }

      pub follows-not : {k : Refusal} → p ≡ Err k → Follows f n d (Ok n) f' d'
      follows-not t =
          let r = not_made there t in
          record {
            so = λ h. absurd (omega (arith, r.0, length-drop n d));
            not = λ h. (refl, r.1, put_back [] (r.2 ∙ sym (splice-none (drop n d) 0)) ∙ splice-none d n);
          }

-- ---- both

-- the line that was read is still the line
pub still : {f : Fed} {l : DayLine} {d : List ℕ} {p : Result ℕ Refusal} {n : ℕ} {f' : Fed} {d' : List ℕ} → Makes f (line_move f (length d) l) d p f' d' → p ≡ Ok n → l ≡ line_read f.line → waits f' ≡ true → l ≡ line_read f'.line
still {f} {l} {d} q t is e =
    let r = made q t in
    is ∙ ap line_read (sym (ap (λ (x : Fed). x.line) r.fed ∙ line_kept f (length d) l (sym (ap waits r.fed) ∙ e)))

module _ {f : Fed} {d : List ℕ} {p : Result ℕ Refusal} {g : Fed} {e : List ℕ} (q : Makes f (step_move f (length d)) d p g e) where
  abbrev first : Move
  first = step_move f (length d)

  abbrev next : Move
  next = step_move first.fed (length d - length first.lines)

  long : length (first.lines ++ next.lines) ≡ length first.lines + length next.lines
  long = length-append first.lines next.lines

  pub pairs-refused : {k : Refusal} → p ≡ Err k → Makes f (steps_move f (length d)) d (Err k) g e
  pairs-refused t = makes_as (both-not first next (omega (arith, (not_made q t).0, long))) (subst (λ (x : Result ℕ Refusal). Makes f first d x g e) t q)

  pub pairs_made : {n : ℕ} {p' : Result ℕ Refusal} {f' : Fed} {d' : List ℕ} → p ≡ Ok n → Follows g n e p' f' d' → Makes f (steps_move f (length d)) d p' f' d'
  pairs_made {n} {p'} {f'} {d'} t v =
      let r = made q t in
      let kept : length e ≡ length d = ap length r.slice ∙ splice-length d 0 first.lines (omega (arith, r.fits)) in
      let same : step_move g (length e - n) ≡ next = ap₂ step_move r.fed (let z : length e - n ≡ length d - length first.lines = omega (arith, r.end) in z) in
      let lines : (step_move g (length e - n)).lines ≡ next.lines = ap (λ (x : Move). x.lines) same in
      on (less (length d - length first.lines) (length next.lines))
      (λ h.
      let z = v.not (omega (arith, ap length lines, r.end)) in
      makes_as (both-not first next (omega (arith, long, r.fits))) (rw (z.0, z.1, z.2, ← t) q))
      (λ h.
      let z = v.so (omega (arith, ap length lines, r.end)) in
      let fit : 0 + length (first.lines ++ next.lines) ≤ length d = omega (arith, long, r.fits) in
      let at : n ≡ 0 + length first.lines = omega (arith, r.end) in
      let is : d' ≡ splice d 0 (first.lines ++ next.lines) = z.2 ∙ ap (splice e n) lines ∙ ap₂ (λ (x : List ℕ) (i : ℕ). splice x i next.lines) r.slice at ∙ splices d 0 first.lines next.lines fit in
      makes_as (both_so first next (omega arith))
      (record {
        out = subst (λ (x : Result ℕ Refusal). Writes d 0 (first.lines ++ next.lines) x d') (sym z.0) (writes-to fit (omega (arith, long, ap length lines, r.end)) is);
        fed = z.1 ∙ ap (λ (x : Move). x.fed) same ∙ sym (chosen f (le-leb (0 + length (first.lines ++ next.lines)) (length d) fit));
      }))
