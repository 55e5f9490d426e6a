use Rattle.lists.proofs.Cases.{bit-small, less, on}
-- The most bytes that a frame can write. Assumes nothing.
use mathlib.Core.Bool.{Bool, true, false}
use mathlib.Core.Path.{◌≡◌, ap, ◌∙◌}
use mathlib.Core.List.{List, [], ◌∷◌, ◌++◌}
use Prim.Native.Nat.{ℕ, zero, suc, ◌+◌, ◌*◌, ◌/◌, ◌≤◌, ◌<◌}
use native.Mathlib.Omega.{arith}
use native.Mathlib.Nat.{suc-mul}
use lib.Dec.{eqb}
use lib.ListN.{length, get_or, replicate, length-append, length-replicate}
use Rattle.lists.specs.Choice.{choose}
use Rattle.text.proofs.Digits.{digits-few}
use Rattle.heartbeat.specs.declared.Heartbeat.{Heartbeat}
use Rattle.roles.specs.declared.Said.{Said}
use Rattle.roles.specs.declared.Said.TheVariants as says
use Rattle.server.specs.declared.Server.{Server}
use Rattle.server.specs.declared.Timed.{Timed}
use Rattle.roles.specs.declared.Word.{Word}
use Rattle.server.specs.Server.{absent, cleared, plain_of, reveal_of, pass_of, sent_by}
use Rattle.server.specs.Hearing.{heard}
use Rattle.roles.specs.Words.{word_bytes, said}
use Rattle.server.specs.Timers.{timed}
use Rattle.lines.specs.Lines.{longest, line, lines_of}
use Rattle.places.specs.Words.{beats_unit}
use Rattle.lines.proofs.Pieces.{line-long, word_short}
use Rattle.group.specs.declared.State.{State}
use Rattle.group.specs.Table.{most}
use Rattle.group.specs.Hearing.{place, next_sender, senders_after, sent_by_all, inbox}
use Rattle.group.specs.Frame.{heard_lines, timed_lines, hearing, turn_lines, turns_lines, frame_lines}
use Rattle.frame.specs.Steps.{Loud, most_bytes}
use Rattle.frame.proofs.Lookup.{some_after, none_after}
use Rattle.frame.proofs.Hearings.{one-identity}

-- ---- lines

pub line-most : (t i : ℕ) (w : Word) → i < 65536 → length (line t i (word_bytes w)) ≤ longest
line-most t i w h = omega (arith, line-long t i (word_bytes w), digits-few 4 i (omega arith), word_short w)

pub said-most : (t i : ℕ) (s : Said) → i < 65536 → length (lines_of t i s) ≤ 2 * longest
unfolding lines_of
said-most t i says.Nothing h = omega arith
said-most t i (says.One w) h = omega (arith, line-most t i w h)
said-most t i (says.Two v w) h = omega (arith, line-most t i v h, line-most t i w h, length-append (line t i (word_bytes v)) (line t i (word_bytes w)))

heard-most : (t : ℕ) (s : Server) (hs : List Heartbeat) → s.identity < 65536 → length (heard_lines t s hs) ≤ 2 * longest * length hs
unfolding heard_lines
heard-most t s [] h = omega arith
heard-most t s (x ∷ hs) h =
    let i = one-identity t s x in
    let rest = heard-most t (heard t s x).server hs (omega arith) in
    omega (arith, rest, said-most t s.identity (said (heard t s x).event) h, length-append (lines_of t s.identity (said (heard t s x).event)) (heard_lines t (heard t s x).server hs))

timed-most : (t i : ℕ) (m : Timed) → i < 65536 → length (timed_lines t i m) ≤ 6 * longest
unfolding timed_lines
timed-most t i m h =
    let a = lines_of t i (said m.silent) in
    let b = lines_of t i (said m.beating) in
    let c = lines_of t i (said m.rising) in
    omega (arith, said-most t i (said m.silent) h, said-most t i (said m.beating) h, said-most t i (said m.rising) h, length-append a (b ++ c), length-append b c)

-- ---- what is heard

few_or_none : {A : Type 0} (b : Bool) (x y : List A) → length x ≤ 1 → length y ≤ 1 → length (choose b x y) ≤ 1
unfolding choose
few_or_none true x y p q = p
few_or_none false x y p q = q

sent-most : (s : Server) → length (sent_by s) ≤ s.beats + 2
unfolding sent_by
sent-most s =
    let a = replicate s.beats (plain_of s) in
    let b = choose s.reveal (reveal_of s ∷ []) [] in
    let c = choose (eqb s.pass 0) [] (pass_of s ∷ []) in
    omega (arith, length-append a (b ++ c), length-append b c, length-replicate s.beats (plain_of s), few_or_none s.reveal (reveal_of s ∷ []) [] (omega arith) (omega arith), few_or_none (eqb s.pass 0) [] (pass_of s ∷ []) (omega arith) (omega arith))

module _ (c : State) (r : ℕ) (v : Loud c.servers r) where
  -- each of the places sent no more than so many heartbeats
  one-most : (i : ℕ) → i < 16 → length (sent_by (place c i)) ≤ r / 131072 + 2
  one-most i h =
      let bit = bit-small (place c i).reveal in
      let beats : (place c i).beats ≤ r / 131072 = omega (arith, v.bound i h) in
      omega (arith, sent-most (place c i))

  module _ (j : ℕ) where
    after-most : (n last : ℕ) → length (sent_by_all c (senders_after c j n last)) ≤ n * (r / 131072 + 2)
    unfolding senders_after sent_by_all
    after-most zero last = omega arith
    after-most (suc n) last =
        let k = r / 131072 + 2 in
        let grows : suc n * k ≡ n * k + k = suc-mul n k in
        on (less (next_sender c j last) 16)
        (λ h.
        let one = sent_by (place c (next_sender c j last)) in
        let rest = sent_by_all c (senders_after c j n (next_sender c j last)) in
        let e : length (sent_by_all c (senders_after c j (suc n) last)) ≡ length one + length rest = ap (λ (x : List ℕ). length (sent_by_all c x)) (some_after c j n last h) ∙ length-append one rest in
        omega (arith, e, grows, one-most (next_sender c j last) h, after-most n (next_sender c j last)))
        (λ h.
        let e : length (sent_by_all c (senders_after c j (suc n) last)) ≡ 0 = ap (λ (x : List ℕ). length (sent_by_all c x)) (none_after c j n last h) in
        omega (arith, e))

    inbox-most : length (inbox c j) ≤ 16 * (r / 131072 + 2)
    unfolding inbox
    inbox-most = after-most 16 16

    turn-most : (t : ℕ) (s : Server) → s.identity < 65536 → length (turn_lines c t j s) ≤ 2 * longest * (16 * (r / beats_unit + 2)) + 6 * longest
    unfolding turn_lines
    turn-most t s h =
        let a = heard_lines t (cleared s) (inbox c j) in
        let b = timed_lines t s.identity (timed t c.period (hearing c t j s)) in
        omega (arith, length-append a b, heard-most t (cleared s) (inbox c j) h, timed-most t s.identity (timed t c.period (hearing c t j s)) h, inbox-most)

  turns-most :
      (t k : ℕ) (l : List Server) → ((i : ℕ) → i < length l → (get_or l i absent).identity < 65536) →
      length (turns_lines c t k l) ≤ length l * (2 * longest * (16 * (r / beats_unit + 2)) + 6 * longest)
  unfolding turns_lines
  turns-most t k [] f = omega arith
  turns-most t k (s ∷ l) f =
      let most = 2 * longest * (16 * (r / beats_unit + 2)) + 6 * longest in
      let grows : suc (length l) * most ≡ length l * most + most = suc-mul (length l) most in
      omega (arith, grows, length-append (turn_lines c t k s) (turns_lines c t (suc k) l), turn-most k t s (f 0 (omega arith)), turns-most t (suc k) l (λ i g. f (suc i) (omega arith)))

  pub frame-most : length c.servers ≡ 16 → ((i : ℕ) → i < 16 → (place c i).identity < 65536) → length (frame_lines c) ≤ most_bytes r
  unfolding frame_lines
  frame-most long f = omega (arith, turns-most (c.frame + 1) 0 c.servers (λ i g. f i (omega arith)), ap (λ (n : ℕ). n * (2 * longest * (16 * (r / beats_unit + 2)) + 6 * longest)) long)
