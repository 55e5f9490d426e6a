-- A line by its first field, from what follows it. Assumes nothing.
use mathlib.Core.Bool.{true, false}
use mathlib.Core.Path.{◌≡◌, refl, sym, ap, ap₂, ◌∙◌}
use mathlib.Core.List.{List}
use Prim.Native.Nat.{ℕ, suc}
use lib.ListN.{length}
use Rattle.lists.specs.Lists.{same}
use Rattle.lists.proofs.Cases.{chosen, other}
use Rattle.refusal.specs.Answer.{in_turn}
use Rattle.text.specs.Words.{bytes}
use Rattle.text.specs.Line.{fields, field, after_field}
use Rattle.timecode.specs.Read.{read_timecode}
use Rattle.heartbeat.specs.Rank.{read_identity, read_priority}
use Rattle.heartbeat.proofs.Fields.{next_field}
use Rattle.day.specs.Read.{DayLine, Named, called, unknown, when_good, having, entry_line, verb_named, body_read}
use Rattle.dayline.specs.Steps.{counted, period_of, server_of, end_of, entry_of, read_period, read_second, fields_of, entry_named}
use Rattle.dayline.proofs.Good.{alike}

-- a line s of k fields: the first, and what follows it
module _ (s : List ℕ) {k : ℕ} {first rest : List ℕ} (n : k ≡ length (fields s)) (f : first ≡ field s 0) (after : rest ≡ after_field s) where
  had : (m : ℕ) {l l' : DayLine} → l ≡ l' → counted k m l ≡ having m s l'
  unfolding having
  had m e = ap₂ (λ (i : ℕ) (l : DayLine). counted i m l) n e

  pub period-body : {l : DayLine} → same first (bytes "period") ≡ true → l ≡ when_good (read_period (field rest 0)) period_of → counted k 2 l ≡ body_read s
  unfolding body_read
  period-body p e = had 2 (e ∙ alike period_of (ap read_period (next_field s 0 after))) ∙ sym (chosen _ (rw (← f) p))

  module _ (p : same first (bytes "period") ≡ false) where
    pub server-body :
        {l : DayLine} → same first (bytes "server") ≡ true → l ≡ when_good (in_turn (read_identity (field rest 0)) (read_priority (field rest 1))) server_of →
        counted k 3 l ≡ body_read s
    unfolding body_read
    server-body q e =
        had 3 (e ∙ alike server_of (ap₂ in_turn (ap read_identity (next_field s 0 after)) (ap read_priority (next_field s 1 after))))
        ∙ sym (other _ (rw (← f) p) ∙ chosen _ (rw (← f) q))

    module _ (q : same first (bytes "server") ≡ false) where
      pub end_body : {l : DayLine} → same first (bytes "end") ≡ true → l ≡ when_good (read_timecode (field rest 0)) end_of → counted k 2 l ≡ body_read s
      unfolding body_read
      end_body r e =
          had 2 (e ∙ alike end_of (ap read_timecode (next_field s 0 after)))
          ∙ sym (other _ (rw (← f) p) ∙ other _ (rw (← f) q) ∙ chosen _ (rw (← f) r))

      -- a field after the verb
      later : (i : ℕ) → field (after_field rest) i ≡ field s (suc (suc i))
      later i = next_field rest i refl ∙ next_field s (suc i) after

      entry_named_lem : (w : Named) → entry_named w first (after_field rest) k ≡ entry_line w s
      entry_named_lem unknown = refl
      entry_named_lem (called v) =
          had (fields_of v)
          (alike (entry_of v) (ap₂ in_turn (ap read_timecode f) (ap₂ in_turn (ap read_identity (later 0)) (ap (read_second v) (later 1)))))

      pub entry-body : same first (bytes "end") ≡ false → entry_named (verb_named (field rest 0)) first (after_field rest) k ≡ body_read s
      unfolding body_read
      entry-body r =
          entry_named_lem (verb_named (field rest 0))
          ∙ ap (λ (x : List ℕ). entry_line (verb_named x) s) (next_field s 0 after)
          ∙ sym (other _ (rw (← f) p) ∙ other _ (rw (← f) q) ∙ other _ (rw (← f) r))
