-- The laws of specs/Laws.antt. Assumes nothing.
use mathlib.Core.Path.{◌≡◌, refl, sym, ap, ◌∙◌}
use mathlib.Core.Logic.{inl, inr}
use mathlib.Core.List.{List, [], ◌∷◌}
use Prim.Native.Nat.{ℕ}
use native.Mathlib.Omega.{arith}
use borrow.Author.Tests.{ne_eqb}
use lib.Dec.{eqb}
use lib.ListN.{get_or}
use Rattle.lists.specs.Choice.{choose}
use Rattle.lists.proofs.Cases.{tested, chosen, other, bit-back}
use Rattle.refusal.specs.declared.Refusal.{Refusal}
use Rattle.refusal.specs.Answer.{number_of, of_verdict}
use Rattle.refusal.proofs.Answers.{number-some}
use Rattle.heartbeat.specs.declared.Heartbeat.{Heartbeat}
use Rattle.roles.specs.declared.Role.TheVariants.{Down}
use Rattle.roles.specs.declared.Event.{Event}
use Rattle.roles.specs.declared.Event.TheVariants.{Nothing}
use Rattle.roles.specs.declared.Verb.{Verb}
use Rattle.server.specs.Server.{after}
use Rattle.roles.specs.Roles.{role_number}
use Rattle.server.specs.Verbs.{verb_answer}
use Rattle.roles.specs.Verbs.{verb_happens}
use Rattle.roles.proofs.Table.{roles, role-at}
use Rattle.front.specs.declared.Front.{Front}
use Rattle.front.specs.Front.{goes_on, risen, hearing, timing, happens, with_server}
use Rattle.front.specs.Laws.{hearings, FrameIsTheStep, RefusedBeginStays, RefusedVerbStays, NumbersTell, Laws}
use Rattle.front.proofs.Anew.{calls_are_steps, inactive_waits, late_is_fresh, renewed_goes_on}
use Rattle.server.specs.Hearing.{heard_all}

-- the hearings of a front are those of its server, in the present frame
hearings-of : (f : Front) (hs : List Heartbeat) → hearings f hs ≡ with_server (heard_all f.frame f.server hs) f
unfolding hearings heard_all
hearings-of f [] = refl
hearings-of f (h ∷ hs) = hearings-of (hearing f h).front hs

pub frame_is_the_step : FrameIsTheStep
frame_is_the_step f f₁ f₂ hs r begins ticks =
    elim (tested (goes_on f)) [
      | inl e ↦
          ticks.front
          ∙ ap (λ (g : Front). (timing (hearings g hs)).front) (begins.front ∙ chosen _ e)
          ∙ ap (λ (g : Front). (timing g).front) (hearings-of (risen f) hs)
      | inr e ↦ absurd (omega (arith, begins.number ∙ other _ e))
    ]

pub refused_begin_stays : RefusedBeginStays
refused_begin_stays f f' k b =
    elim (tested (goes_on f)) [
      | inl e ↦ absurd (omega (arith, number-some k, b.number ∙ chosen _ e))
      | inr e ↦ b.front ∙ other _ e
    ]

-- a verb whose answer has a number does nothing
refused-nothing : (v : Verb) (b : ℕ) (f : Front) (k : Refusal) → number_of k ≡ (verb_answer v b f.server).number → happens v b f ≡ Nothing
unfolding verb_happens
refused-nothing v b f k e = other _ (ne_eqb (verb_answer v b f.server).number 0 (λ z. omega (arith, number-some k, e, z)))

pub refused_verb_stays : RefusedVerbStays
unfolding after
refused_verb_stays v b f f' r k e acts =
    let none : happens v b f ≡ Nothing = refused-nothing v b f k (sym (ap of_verdict e) ∙ acts.number) in
    let same : f' ≡ f = acts.front ∙ ap (λ (x : Event). with_server (after f.frame f.server x) f) none in
    (same, (acts.event ∙ none, acts.role ∙ ap (λ (g : Front). g.server.role) same))

pub numbers_tell : NumbersTell
numbers_tell f g e =
    let s = f.server in
    let t = g.server in
    let numbers : role_number s.role ≡ role_number t.role = cc in
    let flags : ◌≡◌ {A = ℕ} (choose s.reveal 1 0) (choose t.reveal 1 0) = cc in
    let role : s.role ≡ t.role = sym (role-at s.role) ∙ ap (λ (n : ℕ). get_or roles n Down) numbers ∙ role-at t.role in
    let reveal : s.reveal ≡ t.reveal = sym (bit-back s.reveal) ∙ ap (λ (n : ℕ). eqb n 1) flags ∙ bit-back t.reveal in
    let identity : s.identity ≡ t.identity = cc in
    let priority : s.priority ≡ t.priority = cc in
    let silence : s.silence ≡ t.silence = cc in
    let beat : s.beat ≡ t.beat = cc in
    let prospect : s.prospect ≡ t.prospect = cc in
    let beats : s.beats ≡ t.beats = cc in
    let pass : s.pass ≡ t.pass = cc in
    let frame : f.frame ≡ g.frame = cc in
    let period : f.period.frames ≡ g.period.frames = cc in
    λ i. record {
      server = record { identity = identity i; priority = priority i; role = role i; silence = silence i; beat = beat i; prospect = prospect i; beats = beats i; reveal = reveal i; pass = pass i };
      frame = frame i;
      period = record { frames = period i };
    }

-- ---- all of them

pub laws : Laws
laws = record { frames = frame_is_the_step; begins = refused_begin_stays; verbs = refused_verb_stays; numbers = numbers_tell; calls = calls_are_steps; waits = inactive_waits; late = late_is_fresh; renewed = renewed_goes_on }
