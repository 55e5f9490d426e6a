-- What calls answer. Assumes nothing.
use Rattle.std.specs.Prelude.{Result, Ok, Err}
use mathlib.Core.Bool.{Bool, true, false, ◌&&◌}
use mathlib.Core.Path.{◌≡◌, refl, sym, ap, subst, ◌∙◌}
use mathlib.Core.List.{List}
use Prim.Native.Nat.{ℕ, ◌+◌, ◌-◌, ◌≤◌, ◌<◌}
use native.Mathlib.Omega.{arith}
use borrow.Author.Tests.{ne_eqb, eq-eqb, lt-ltb, leb-true, leb-false}
use lib.Dec.{eqb, leb}
use lib.ListN.{length}
use Rattle.lists.specs.Splice.{splice}
use Rattle.lists.proofs.Cases.{tested, on, chosen, other, not_so, not_some}
use Rattle.lists.proofs.Splicing.{splice-none}
use Rattle.refusal.specs.declared.Refusal.{Refusal}
use Rattle.refusal.specs.declared.Refusal.TheVariants.{Short}
use Rattle.refusal.specs.Answer.{of_verdict, number_of}
use Rattle.refusal.proofs.Answers.{number-some}
use Rattle.server.specs.declared.Server.{Server}
use Rattle.group.specs.declared.State.{State}
use Rattle.group.specs.Outcome.{Outcome, number_in, channel_in, written_in}
use Rattle.group.specs.Frame.{moved_to, advanced, frame_lines}
use Rattle.group.specs.Advance.{time_refusal, frames_within, within_goes, within_outcome}
use Rattle.group.specs.Answers.{Gives}
use Rattle.group.proofs.Places.{frame-after}
use Rattle.group.proofs.Answering.{is-short, is-long, gives-not, gives_so, gives-refused, gives_as}
use Rattle.places.specs.Words.{servers_of}
use Rattle.frame.specs.declared.Fared.{Fared}
use Rattle.frame.specs.Answers.{state_of, verdict_of, bytes_of, frame_fits, Plays}
use Rattle.channel.specs.declared.Channel.{Channel}
use Rattle.channel.specs.declared.Answer.{Answer}
use Rattle.channel.specs.declared.Within.{Within}
use Rattle.channel.specs.Answers.{state, Answers, AnswersWithin}
use Rattle.channel.specs.Steps.{next_frame, Quiet}

-- "the same channel": where a call is refused, the state is the one that there was
module _ {c : State} {o : Outcome} {d : List ℕ} {v : Result (Unit {0}) Refusal} {n : ℕ} {x : State} {d' : List ℕ} (g : Gives c o d v n x d') (k : Refusal) (e : v ≡ Err k) where
  some_number : eqb (number_in o (length d)) 0 ≡ false
  some_number = ne_eqb (number_in o (length d)) 0 (λ z. omega (arith, g.number, ap of_verdict e, number-some k))

  pub gives_same : x ≡ c
  unfolding channel_in
  gives_same = g.channel ∙ other _ some_number

  pub gives-kept : Gives c o d v n c d'
  gives-kept = subst (λ (y : State). Gives c o d v n y d') gives_same g

  gives_none : n ≡ 0
  unfolding written_in
  gives_none = g.written ∙ other _ some_number

  pub gives_nothing : Gives c o d (Err k) 0 c d'
  gives_nothing = subst (λ (y : Result (Unit {0}) Refusal). Gives c o d y 0 c d') e (subst (λ (m : ℕ). Gives c o d v m c d') gives_none gives-kept)

-- so is the channel
same-channel : {c x : Channel} → state x ≡ state c → x ≡ c
same-channel e = ap (λ (s : State). record { state = s }) e

pub answers : {c : Channel} {o : Outcome} {d : List ℕ} (r : Answer) {d' : List ℕ} → Gives (state c) o d (verdict_of r.written) (bytes_of r.written) (state r.channel) d' → Answers c o d r d'
answers r g = record { gives = g; same = λ k e. same-channel (gives_same g k (ap verdict_of e)) }

pub answers_as : {c : Channel} {o p : Outcome} {d : List ℕ} {r : Answer} {d' : List ℕ} → o.number ≡ p.number → o.lines ≡ p.lines → o.channel ≡ p.channel → Answers c o d r d' → Answers c p d r d'
answers_as e f h v = record { gives = gives_as e f h v.gives; same = v.same }

-- a call that gets a number by itself
pub answers-refused :
    (c : Channel) (o : Outcome) (d : List ℕ) {k : Refusal} {r : Answer} → r ≡ record { written = Err k; channel = c } → o.number ≡ number_of k → Answers c o d r d
answers-refused c o d {k} {r} q e = rw q (answers _ (gives-refused (state c) o d k e))

-- what is answered of the servers of numbers w is so of the channel whose servers they are
module _ (c : State) (w : List ℕ) (same : servers_of w ≡ c.servers) where
  abbrev of_words : List Server → State
  of_words l = state_of c.frame c.period l c.whole

  pub gives_of :
      (f : State → Outcome) {d : List ℕ} {v : Result (Unit {0}) Refusal} {n : ℕ} {x : State} {d' : List ℕ} → Gives (of_words (servers_of w)) (f (of_words (servers_of w))) d v n x d' → Gives c (f c) d v n x d'
  gives_of f {d} {v} {n} {x} {d'} g = subst (λ (l : List Server). Gives (of_words l) (f (of_words l)) d v n x d') same g

  pub plays-of : {d : List ℕ} {r : Fared} {w' d' : List ℕ} → Plays (of_words (servers_of w)) w d 0 r w' d' → Plays c w d 0 r w' d'
  plays-of {d} {r} {w'} {d'} v = subst (λ (l : List Server). Plays (of_words l) w d 0 r w' d') same v

-- ---- one frame

-- nothing happens
pub next-quiet : (c : Channel) (d : List ℕ) {r : Answer} → Quiet (state c) → r ≡ record { written = Ok 0; channel = record { state = moved_to (state c) ((state c).frame + 1) (state c).servers } } →
    Answers c (next_frame (state c)) d r d
next-quiet c d q e =
    let none : length (frame_lines (state c)) ≡ 0 = ap length q.silent in
    rw e
    (answers _
    (gives_so (state c) (next_frame (state c)) d (is-long (next_frame (state c)) (length d) refl (omega arith)) (sym none) (sym q.next) (sym (ap (splice d 0) q.silent ∙ splice-none d 0))))

module _ (c : State) {w d : List ℕ} {r : Fared} {w' d' : List ℕ} (next : c.frame < 4294967295) (v : Plays c w d 0 r w' d') where
  fits-is : frame_fits c d 0 ≡ leb (0 + length (frame_lines c)) (length d)
  fits-is = ap (λ (b : Bool). b && leb (0 + length (frame_lines c)) (length d)) (lt-ltb c.frame 4294967295 next)

  -- its lines do not fit
  pub next-short : r.full ≡ true → Gives c (next_frame c) d (Err Short) 0 c d'
  next-short f =
      let fit : frame_fits c d 0 ≡ false = not_so _ (sym v.full ∙ f) in
      let short = leb-false (0 + length (frame_lines c)) (length d) (sym fits-is ∙ fit) in
      let kept : d' ≡ d = v.slice ∙ other _ fit in
      rw kept (gives-not c (next_frame c) d Short (is-short (next_frame c) (length d) refl (omega arith)))

  pub next-played : r.full ≡ false → {l : List Server} → l ≡ servers_of w' → Gives c (next_frame c) d (Ok tt) r.at (moved_to c (c.frame + 1) l) d'
  unfolding advanced
  next-played f e =
      let fit : frame_fits c d 0 ≡ true = not_some _ (sym v.full ∙ f) in
      let room = leb-true (0 + length (frame_lines c)) (length d) (sym fits-is ∙ fit) in
      gives_so c (next_frame c) d (is-long (next_frame c) (length d) refl (omega arith))
      (v.place ∙ chosen _ fit ∙ (let z : 0 + length (frame_lines c) ≡ length (frame_lines c) = omega arith in z))
      (ap (moved_to c (c.frame + 1)) (e ∙ v.words.servers ∙ chosen _ fit)) (v.slice ∙ chosen _ fit)

-- ---- the advance within a slice

module _ (c : State) (t : ℕ) {d : List ℕ} {v : Result (Unit {0}) Refusal} {n : ℕ} {x : State} {d' : List ℕ} where
  -- it goes back to no earlier frame
  pub within-later : Gives c (within_goes c t (length d)) d v n x d' → c.frame ≤ x.frame
  unfolding channel_in
  within-later g =
      let k = frames_within c t (length d) in
      on (tested (eqb (number_in (within_goes c t (length d)) (length d)) 0))
      (λ e. omega (arith, ap (λ (y : State). y.frame) (g.channel ∙ chosen _ e), frame-after k c))
      (λ e. omega (arith, ap (λ (y : State). y.frame) (g.channel ∙ other _ e)))

pub answers-within :
    {c : Channel} {o : Outcome} {d : List ℕ} (r : Within) {d' : List ℕ} → Gives (state c) o d (verdict_of r.written) (bytes_of r.written) (state r.channel) d' →
    r.frames ≡ (state r.channel).frame - (state c).frame → AnswersWithin c o d r d'
answers-within r g f = record { gives = g; frames = f; same = λ k e. same-channel (gives_same g k (ap verdict_of e)) }

-- no frame is made, and the channel stays
pub stays :
    (c : Channel) {o : Outcome} {d : List ℕ} {k : Refusal} {r : Within} {d' : List ℕ} → r ≡ record { written = Err k; frames = 0; channel = c } →
    Gives (state c) o d (Err k) 0 (state c) d' → AnswersWithin c o d r d'
stays c q g = rw q (answers-within _ g (let z : 0 ≡ (state c).frame - (state c).frame = omega arith in z))

pub stays-refused :
    (c : Channel) (t : ℕ) (d : List ℕ) {k : Refusal} {r : Within} → r ≡ record { written = Err k; frames = 0; channel = c } → time_refusal (state c) t ≡ number_of k →
    AnswersWithin c (within_outcome (state c) t (length d)) d r d
stays-refused c t d {k} {r} q e =
    let some : eqb (time_refusal (state c) t) 0 ≡ false = ne_eqb (time_refusal (state c) t) 0 (λ z. omega (arith, e, number-some k)) in
    stays c q (gives-refused (state c) (within_outcome (state c) t (length d)) d k (other _ some ∙ e))

pub within-goes :
    (c : Channel) (t : ℕ) {d : List ℕ} {r : Within} {d' : List ℕ} → time_refusal (state c) t ≡ 0 → AnswersWithin c (within_goes (state c) t (length d)) d r d' →
    AnswersWithin c (within_outcome (state c) t (length d)) d r d'
within-goes c t e v = record { gives = gives_as (sym (chosen _ (eq-eqb _ 0 e))) refl refl v.gives; frames = v.frames; same = v.same }
