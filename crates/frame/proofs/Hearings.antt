-- Heartbeats heard one after the other, with the lines they print. Assumes nothing.
--     Hearing: where s is to hear hs yet, to hear them is to hear all of hs₀ from s₀ on
--     begin, turn, finish: a loop begins; the next ones are heard; nothing is left
use mathlib.Core.Bool.{Bool, true, false, not}
use mathlib.Core.Path.{◌≡◌, refl, sym, ap, ap₂, subst, ◌∙◌}
use mathlib.Core.List.{List, [], ◌∷◌, ◌++◌, append_assoc, append-nil}
use Prim.Native.Nat.{ℕ, zero, suc, ◌+◌, ◌-◌, ◌<◌, ◌≤◌}
use native.Mathlib.Omega.{arith}
use lib.Dec.{eqb}
use lib.ListN.{length, replicate}
use Rattle.lists.specs.Choice.{choose}
use Rattle.lists.proofs.Cases.{clash, chosen, other, fst_true, snd_true, not_so}
use Rattle.heartbeat.specs.declared.Heartbeat.{Heartbeat}
use Rattle.roles.specs.declared.Role.{Role}
use Rattle.roles.specs.declared.Role.TheVariants as role
use Rattle.roles.specs.declared.Event.{Event}
use Rattle.roles.specs.declared.Event.TheVariants as event
use Rattle.server.specs.declared.Heard.{Heard}
use Rattle.server.specs.declared.Server.{Server}
use Rattle.periods.specs.declared.Period.{Period}
use Rattle.server.specs.declared.Timed.{Timed}
use Rattle.server.specs.Server.{cleared, after, set_silence, set_beat, send_beat, plain_of, reveal_of, pass_of, sent_by}
use Rattle.server.specs.Hearing.{attending, heard, hears_in, backup_hears, for_this, heard_all}
use Rattle.periods.specs.Period.{silence_limit}
use Rattle.server.specs.Timers.{aged, timed}
use Rattle.roles.specs.Words.{said}
use Rattle.frame.specs.declared.Told.{Told}
use Rattle.lines.specs.Lines.{lines_of}
use Rattle.group.specs.Frame.{heard_lines, timed_lines}
use Rattle.server.proofs.Hearing.{heard-append}
use Rattle.places.specs.Roles.{is_backup}
use Rattle.frame.specs.Answers.{ticks_in}
use Rattle.frame.specs.Steps.{Out, Hears, Does, only_listens, Turns, JustListens, resting}
use Rattle.frame.proofs.Writing.{chain, start}
use Rattle.frame.proofs.Quiet.{no_timer}

pub said-append : (t : ℕ) (s : Server) (xs ys : List Heartbeat) → heard_lines t s (xs ++ ys) ≡ heard_lines t s xs ++ heard_lines t (heard_all t s xs) ys
unfolding heard_all heard_lines
said-append t s [] ys = refl
said-append t s (x ∷ xs) ys =
    ap (λ (l : List ℕ). lines_of t s.identity (said (heard t s x).event) ++ l) (said-append t (heard t s x).server xs ys)
    ∙ sym (append_assoc (lines_of t s.identity (said (heard t s x).event)) (heard_lines t (heard t s x).server xs) _)

module _ {t : ℕ} {wet : Bool} where
  pub none : {s : Server} {d : List ℕ} {at : ℕ} → Hears t wet s [] d at (record { server = s; at = at }) d
  unfolding heard_all heard_lines
  none = record { server = refl; out = start }

  pub one :
      {s : Server} {h : Heartbeat} {x : Heard} {d : List ℕ} {at r : ℕ} {d' : List ℕ} → x ≡ heard t s h →
      Out wet d at (lines_of t s.identity (said x.event)) r d' → Hears t wet s (h ∷ []) d at (record { server = x.server; at = r }) d'
  unfolding heard_all heard_lines
  one {s} {h} {x} {d} {at} {r} {d'} e o =
      record {
        server = ap (λ (k : Heard). k.server) e;
        out =
            subst (λ (l : List ℕ). Out wet d at l r d') (ap (λ (k : Heard). lines_of t s.identity (said k.event)) e ∙ sym (append-nil _)) o;
      }

  pub hears_as :
      {s : Server} {xs ys : List Heartbeat} {d : List ℕ} {at : ℕ} {r : Told} {d' : List ℕ} → xs ≡ ys → Hears t wet s xs d at r d' → Hears t wet s ys d at r d'
  hears_as {s} {xs} {ys} {d} {at} {r} {d'} e v = subst (λ (hs : List Heartbeat). Hears t wet s hs d at r d') e v

  pub hears-then :
      {s : Server} {xs ys : List Heartbeat} {d : List ℕ} {at : ℕ} {r : Told} {d' : List ℕ} {r' : Told} {d'' : List ℕ} →
      length d' ≡ length d → Hears t wet s xs d at r d' → Hears t wet r.server ys d' r.at r' d'' → Hears t wet s (xs ++ ys) d at r' d''
  hears-then {s} {xs} {ys} {d} {at} {r} {d'} {r'} {d''} same p q =
      record {
        server = q.server ∙ ap (λ (z : Server). heard_all t z ys) p.server ∙ sym (heard-append t s xs ys);
        out =
            rw (said-append t s xs ys)
            (chain same p.out (subst (λ (z : Server). Out wet d' r.at (heard_lines t z ys) r'.at d'') p.server q.out));
      }

pub record Hearing (t : ℕ) (wet : Bool) (s₀ : Server) (hs₀ : List Heartbeat) (d₀ : List ℕ) (at₀ : ℕ) (s : Server) (hs : List Heartbeat) (d : List ℕ) (at : ℕ) : Type 0 where
  pub kept : length d ≡ length d₀
  pub goes : (r : Told) (d' : List ℕ) → Hears t wet s hs d at r d' → Hears t wet s₀ hs₀ d₀ at₀ r d'

module _ {t : ℕ} {wet : Bool} {s₀ : Server} {hs₀ : List Heartbeat} {d₀ : List ℕ} {at₀ : ℕ} where
  pub begin : {hs : List Heartbeat} → hs₀ ≡ hs → Hearing t wet s₀ hs₀ d₀ at₀ s₀ hs d₀ at₀
  begin e = record { kept = refl; goes = λ r d' q. rw e q }

  pub turn :
      {s : Server} {hs xs ys : List Heartbeat} {d : List ℕ} {at : ℕ} {r : Told} {d' : List ℕ} →
      Hearing t wet s₀ hs₀ d₀ at₀ s hs d at → hs ≡ xs ++ ys → length d' ≡ length d → Hears t wet s xs d at r d' →
      Hearing t wet s₀ hs₀ d₀ at₀ r.server ys d' r.at
  turn v e same p = record { kept = same ∙ v.kept; goes = λ r' d'' q. v.goes r' d'' (rw e (hears-then same p q)) }

  pub finish :
      {s : Server} {hs : List Heartbeat} {d : List ℕ} {at : ℕ} →
      Hearing t wet s₀ hs₀ d₀ at₀ s hs d at → hs ≡ [] → Hears t wet s₀ hs₀ d₀ at₀ (record { server = s; at = at }) d
  finish v e = v.goes _ _ (rw e none)

-- a count that falls
pub replicate_more : (n k : ℕ) (h : Heartbeat) → k < n → replicate (n - k) h ≡ (h ∷ []) ++ replicate (n - (k + 1)) h
replicate_more n k h l = let e : n - k ≡ suc (n - (k + 1)) = omega arith in ap (λ (m : ℕ). replicate m h) e

pub replicate-none : (n k : ℕ) (h : Heartbeat) → n ≤ k → replicate (n - k) h ≡ []
replicate-none n k h l = let e : n - k ≡ 0 = omega arith in ap (λ (m : ℕ). replicate m h) e

-- the three timers, one after the other
pub timers_say :
    (t i : ℕ) {wet : Bool} {x m : Timed} {d : List ℕ} {at a b r : ℕ} {d₁ d₂ d₃ : List ℕ} → x ≡ m → length d₁ ≡ length d → length d₂ ≡ length d₁ →
    Out wet d at (lines_of t i (said x.silent)) a d₁ → Out wet d₁ a (lines_of t i (said x.beating)) b d₂ →
    Out wet d₂ b (lines_of t i (said x.rising)) r d₃ → Does wet m.server (timed_lines t i m) d at (record { server = x.server; at = r }) d₃
unfolding timed_lines
timers_say t i {wet} {x} {m} {d} {at} {a} {b} {r} {d₁} {d₂} {d₃} e k l p q o =
    record {
      server = ap (λ (y : Timed). y.server) e;
      out = subst (λ (y : Timed). Out wet d at (timed_lines t i y) r d₃) e (chain k p (chain l q o));
    }

-- no event changes the identity
pub same-identity : (t : ℕ) (s : Server) (e : Event) → (after t s e).identity ≡ s.identity
unfolding after
same-identity t s event.Nothing = refl
same-identity t s event.ToBackup = refl
same-identity t s event.ToProspectBeat = refl
same-identity t s event.ToProspectReveal = refl
same-identity t s event.Lower = refl
same-identity t s event.LowerBeat = refl
same-identity t s event.Beat = refl
same-identity t s event.ToPrimary = refl
same-identity t s event.ToSync = refl
same-identity t s event.ToIdle = refl
same-identity t s event.ToDown = refl
same-identity t s (event.Passed b) = refl

attending-identity : (t : ℕ) (r : Role) (s : Server) → (attending t r s).identity ≡ s.identity
attending-identity t role.Down s = refl
attending-identity t role.Idle s = refl
attending-identity t role.Sync s = refl
attending-identity t role.Backup s = refl
attending-identity t role.Prospect s = refl
attending-identity t role.Primary s = refl

pub one-identity : (t : ℕ) (s : Server) (h : Heartbeat) → (heard t s h).server.identity ≡ s.identity
one-identity t s h = same-identity t (attending t s.role s) (heard t s h).event ∙ attending-identity t s.role s

pub heard-identity : (t : ℕ) (s : Server) (hs : List Heartbeat) → (heard_all t s hs).identity ≡ s.identity
unfolding heard_all
heard-identity t s [] = refl
heard-identity t s (h ∷ hs) =
    heard-identity t (heard t s h).server hs ∙ one-identity t s h

-- hearing, then timers
pub turning :
    (hs : List Heartbeat) (t : ℕ) (p : Period) (s : Server) {x : Server} {wet : Bool} {d : List ℕ} {at : ℕ} {h : Told} {d' : List ℕ} {r : Told} {d'' : List ℕ} →
    x ≡ cleared s → length d' ≡ length d → Hears t wet x hs d at h d' →
    Does wet (timed t p h.server).server (timed_lines t h.server.identity (timed t p h.server)) d' h.at r d'' → Turns hs t p wet s d at r d''
turning hs t p s {x} {wet} {d} {at} {h} {d'} {r} {d''} e same v q =
    let f : h.server ≡ heard_all t (cleared s) hs = v.server ∙ ap (λ (z : Server). heard_all t z hs) e in
    let i : (heard_all t (cleared s) hs).identity ≡ s.identity = heard-identity t (cleared s) hs in
    record {
      server = q.server ∙ ap (λ (z : Server). (timed t p z).server) f;
      out =
          chain same
          (subst (λ (z : Server). Out wet d at (heard_lines t z hs) h.at d') e v.out)
          (subst (λ (n : ℕ). Out wet d' h.at (timed_lines t n (timed t p (heard_all t (cleared s) hs))) r.at d'') i
          (subst (λ (z : Server). Out wet d' h.at (timed_lines t z.identity (timed t p z)) r.at d'') f q.out));
    }

-- timers of which none is due
pub no_ticks :
    (t : ℕ) (p : Period) (s : Server) {wet : Bool} {d : List ℕ} {at : ℕ} → timed t p s ≡ resting s →
    Does wet (timed t p s).server (timed_lines t s.identity (timed t p s)) d at (record { server = s; at = at }) d
unfolding timed_lines lines_of
no_ticks t p s {wet} {d} {at} e =
    record {
      server = sym (ap (λ (m : Timed). m.server) e);
      out = subst (λ (m : Timed). Out wet d at (timed_lines t s.identity m) at d) (sym e) start;
    }

-- ---- a backup that hears plain beats sets its silence timer, once for all of them

module _ (t : ℕ) (x : Server) where
  backup_plain : (s : Server) → s.role ≡ role.Backup → heard t s (plain_of x) ≡ record { server = set_silence t s; event = event.Nothing }
  unfolding after backup_hears for_this choose
  backup_plain s q =
      ap (λ (r : Role). record { server = after t (attending t r s) (hears_in r s (plain_of x)); event = hears_in r s (plain_of x) }) q

  plain_again :
      (n : ℕ) (s : Server) → s.role ≡ role.Backup →
      (heard_all t (set_silence t s) (replicate n (plain_of x)) ≡ set_silence t s) × (heard_lines t (set_silence t s) (replicate n (plain_of x)) ≡ [])
  unfolding heard_all heard_lines lines_of
  plain_again zero s q = (refl, refl)
  plain_again (suc n) s q =
      let e = backup_plain (set_silence t s) q in
      let rest = plain_again n s q in (
        ap (λ (k : Heard). heard_all t k.server (replicate n (plain_of x))) e ∙ rest.0,
        ap (λ (k : Heard). lines_of t s.identity (said k.event) ++ heard_lines t k.server (replicate n (plain_of x))) e ∙ rest.1,
      )

  plain-all :
      (n : ℕ) (s : Server) → s.role ≡ role.Backup → not (eqb n 0) ≡ true →
      (heard_all t s (replicate n (plain_of x)) ≡ (heard t s (plain_of x)).server) × (heard_lines t s (replicate n (plain_of x)) ≡ [])
  unfolding heard_all heard_lines lines_of
  plain-all zero s q h = absurd (clash h refl)
  plain-all (suc n) s q h =
      let e = backup_plain s q in
      let rest = plain_again n s q in (
        ap (λ (k : Heard). heard_all t k.server (replicate n (plain_of x))) e ∙ rest.0 ∙ sym (ap (λ (k : Heard). k.server) e),
        ap (λ (k : Heard). lines_of t s.identity (said k.event) ++ heard_lines t k.server (replicate n (plain_of x))) e ∙ rest.1,
      )

pub backup_is : (r : Role) → is_backup r ≡ true → r ≡ role.Backup
backup_is role.Down e = absurd (clash e refl)
backup_is role.Idle e = absurd (clash e refl)
backup_is role.Sync e = absurd (clash e refl)
backup_is role.Backup e = refl
backup_is role.Prospect e = absurd (clash e refl)
backup_is role.Primary e = absurd (clash e refl)

-- so all that the sender sent is as one
pub listens_to : (t : ℕ) (s x : Server) → only_listens s x ≡ true → (heard_all t s (sent_by x) ≡ set_silence t s) × (heard_lines t s (sent_by x) ≡ [])
unfolding sent_by
listens_to t s x e =
    let is = backup_is s.role (fst_true (is_backup s.role) _ e) in
    let rest = snd_true (is_backup s.role) _ e in
    let beats = fst_true (not (eqb x.beats 0)) _ rest in
    let more = snd_true (not (eqb x.beats 0)) _ rest in
    let reveal = not_so x.reveal (fst_true (not x.reveal) _ more) in
    let pass = snd_true (not x.reveal) _ more in
    let plain : sent_by x ≡ replicate x.beats (plain_of x) =
    ap₂ (λ (a b : List Heartbeat). replicate x.beats (plain_of x) ++ (a ++ b)) (other {b = []} (reveal_of x ∷ []) reveal) (chosen {a = []} (pass_of x ∷ []) pass) ∙ append-nil (replicate x.beats (plain_of x)) in
    let all = plain-all t x x.beats s is beats in
    (ap (heard_all t s) plain ∙ all.0 ∙ ap (λ (k : Heard). k.server) (backup_plain t x s is), ap (heard_lines t s) plain ∙ all.1)

-- and where its silence timer is not due at once, that is its turn
pub just_listens :
    (t : ℕ) (p : Period) (s x : Server) {hs : List Heartbeat} → only_listens s x ≡ true → aged t (silence_limit p) t ≡ false → hs ≡ sent_by x → JustListens hs t p s
unfolding timed_lines lines_of
just_listens t p s x {hs} e a q =
    let all = listens_to t (cleared s) x e in
    let q' = backup_is s.role (fst_true (is_backup s.role) _ e) in
    let there : heard_all t (cleared s) hs ≡ set_silence t (cleared s) = ap (heard_all t (cleared s)) q ∙ all.0 in
    let rest : timed t p (heard_all t (cleared s) hs) ≡ resting (set_silence t (cleared s)) = ap (timed t p) there ∙ no_timer t p (set_silence t (cleared s)) role.Backup q' a in
    record {
      server = ap (λ (m : Timed). m.server) rest;
      lines = ap₂ (λ (y : List ℕ) (m : Timed). y ++ timed_lines t s.identity m) (ap (heard_lines t (cleared s)) q ∙ all.1) rest;
    }

pub listened_turn :
    {hs : List Heartbeat} {t : ℕ} {p : Period} {s : Server} {wet : Bool} {d : List ℕ} {at : ℕ} → JustListens hs t p s →
    Turns hs t p wet s d at (record { server = set_silence t (cleared s); at = at }) d
listened_turn {hs} {t} {p} {s} {wet} {d} {at} v =
    record { server = sym v.server; out = subst (λ (l : List ℕ). Out wet d at l at d) (sym v.lines) start }

-- a primary's beat
pub beats_say :
    (t : ℕ) (p : Period) (s : Server) {x : Server} {wet : Bool} {d : List ℕ} {at r : ℕ} {d' : List ℕ} →
    timed t p s ≡ record { server = send_beat (set_beat t s); silent = event.Nothing; beating = event.Beat; rising = event.Nothing } → x ≡ send_beat (set_beat t s) →
    Out wet d at (lines_of t s.identity (said event.Beat)) r d' → Does wet (timed t p s).server (timed_lines t s.identity (timed t p s)) d at (record { server = x; at = r }) d'
unfolding timed_lines lines_of
beats_say t p s {x} {wet} {d} {at} {r} {d'} e q o =
    record {
      server = q ∙ sym (ap (λ (m : Timed). m.server) e);
      out = subst (λ (l : List ℕ). Out wet d at l r d') (sym (ap (timed_lines t s.identity) e ∙ append-nil (lines_of t s.identity (said event.Beat)))) o;
    }

-- what was sent has no part in the timers
ticks-cleared : (r : Role) (t : ℕ) (p : Period) (s : Server) → ticks_in r t p (cleared s) ≡ ticks_in r t p s
ticks-cleared role.Down t p s = refl
ticks-cleared role.Idle t p s = refl
ticks-cleared role.Sync t p s = refl
ticks-cleared role.Backup t p s = refl
ticks-cleared role.Prospect t p s = refl
ticks-cleared role.Primary t p s = refl

-- a turn in which what is heard changes nothing, and no timer is due
pub idle-turn :
    (t : ℕ) (p : Period) (s : Server) {hs : List Heartbeat} {wet : Bool} {d : List ℕ} {at : ℕ} → heard_all t (cleared s) hs ≡ cleared s → heard_lines t (cleared s) hs ≡ [] → ticks_in s.role t p s ≡ false →
    Turns hs t p wet s d at (record { server = cleared s; at = at }) d
unfolding timed_lines lines_of
idle-turn t p s {hs} {wet} {d} {at} e l h =
    let rest : timed t p (cleared s) ≡ resting (cleared s) = no_timer t p (cleared s) s.role refl (ticks-cleared s.role t p s ∙ h) in
    record {
      server = sym (ap (λ (x : Server). (timed t p x).server) e ∙ ap (λ (m : Timed). m.server) rest);
      out =
          subst (λ (y : List ℕ). Out wet d at y at d)
          (sym (ap₂ (λ (y : List ℕ) (x : Server). y ++ timed_lines t s.identity (timed t p x)) l e ∙ ap (timed_lines t s.identity) rest)) start;
    }
