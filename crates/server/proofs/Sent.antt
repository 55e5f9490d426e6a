-- What a server sent, as heartbeats. Assumes nothing.
use mathlib.Core.Bool.{Bool, true, false, not, ◌&&◌}
use mathlib.Core.Path.{◌≡◌, refl, sym, ap, ap₂, ◌∙◌}
use mathlib.Core.Logic.{◌⊎◌, inl, inr}
use mathlib.Core.List.Memᴰ
use mathlib.Core.List.{List, [], ◌∷◌, Memᴰ}
use Prim.Native.Nat.{ℕ, zero, suc, ◌+◌}
use native.Mathlib.Omega.{arith}
use borrow.Author.Tests.{eq-eqb, ne_eqb, eqb-true, not-true}
use lib.Dec.{ltb, eqb}
use lib.ListN.{replicate}
use Rattle.lists.specs.Choice.{choose}
use Rattle.lists.specs.Lists.{every}
use Rattle.lists.proofs.Cases.{tested, equal, chosen, other, and_true, fst_true, snd_true, on, clash, by_choice}
use Rattle.lists.proofs.Clear.{every_append, every_mem}
use Rattle.heartbeat.specs.declared.Heartbeat.{Heartbeat}
use Rattle.heartbeat.specs.Heartbeat.{sender, is_set}
use Rattle.server.specs.declared.Server.{Server}
use Rattle.server.specs.Server.{rank_of, most_beats, one_more, send_beat, plain_of, reveal_of, pass_of, sent_by, sent_any}

every-replicate : (p : Heartbeat → Bool) (n : ℕ) (h : Heartbeat) → p h ≡ true → every p (replicate n h) ≡ true
every-replicate p zero h e = refl
every-replicate p (suc n) h e = and_true e (every-replicate p n h e)

-- what holds of its beat, of its reveal and its pass if there are any, holds of all that it sent
pub every-sent :
    (p : Heartbeat → Bool) (s : Server) → p (plain_of s) ≡ true → (s.reveal ≡ false) ⊎ (p (reveal_of s) ≡ true) →
    (s.pass ≡ 0) ⊎ (p (pass_of s) ≡ true) → every p (sent_by s) ≡ true
unfolding sent_by
every-sent p s a b d =
    every_append p (replicate s.beats (plain_of s)) _ (every-replicate p s.beats (plain_of s) a)
    (every_append p (choose s.reveal (reveal_of s ∷ []) []) _
    (on (tested s.reveal)
    (λ t. ap (every p) (chosen _ t) ∙ and_true (on b (λ e. absurd (clash t e)) (λ e. e)) refl)
    (λ t. ap (every p) (other _ t)))
    (on (equal s.pass 0)
    (λ z. ap (every p) (chosen _ (eq-eqb s.pass 0 z)))
    (λ z. ap (every p) (other _ (ne_eqb s.pass 0 z)) ∙ and_true (on d (λ e. absurd (z e)) (λ e. e)) refl)))

in_chosen : (t : Bool) (a b : List Heartbeat) {h : Heartbeat} → t ≡ true → Memᴰ h a → Memᴰ h (choose t a b)
unfolding choose
in_chosen true a b e m = m
in_chosen false a b e m = absurd (clash e refl)

in_other : (t : Bool) (a b : List Heartbeat) {h : Heartbeat} → t ≡ false → Memᴰ h b → Memᴰ h (choose t a b)
unfolding choose
in_other true a b e m = absurd (clash refl e)
in_other false a b e m = m

in_replicate : (n : ℕ) (h : Heartbeat) → (n ≡ 0 → ⊥) → Memᴰ h (replicate n h)
in_replicate zero h z = absurd (z refl)
in_replicate (suc n) h z = Memᴰ.head refl

-- a reveal is among what was sent
pub reveal_sent : (s : Server) → s.reveal ≡ true → Memᴰ (reveal_of s) (sent_by s)
unfolding sent_by
reveal_sent s e =
    Memᴰ.append_right (replicate s.beats (plain_of s)) (Memᴰ.append_left _ (in_chosen s.reveal (reveal_of s ∷ []) [] e (Memᴰ.head refl)))

-- whoever sent, sent some heartbeat
pub some-sent : (s : Server) → sent_any s ≡ true → (h : Heartbeat) × Memᴰ h (sent_by s)
unfolding sent_by sent_any
some-sent s e =
    on (equal s.beats 0)
    (λ z.
    on (tested s.reveal)
    (λ t. (reveal_of s, reveal_sent s t))
    (λ t.
    let passed : not (eqb s.pass 0) ≡ true = sym (chosen _ (eq-eqb s.beats 0 z) ∙ other _ t) ∙ e in (
      pass_of s,
      Memᴰ.append_right (replicate s.beats (plain_of s))
          (Memᴰ.append_right (choose s.reveal (reveal_of s ∷ []) [])
          (in_other (eqb s.pass 0) [] (pass_of s ∷ []) (not-true (eqb s.pass 0) passed) (Memᴰ.head refl))),
    )))
    (λ z. (plain_of s, Memᴰ.append_left _ (in_replicate s.beats (plain_of s) z)))

-- a reveal is a sending
pub reveal_any : (s : Server) → s.reveal ≡ true → sent_any s ≡ true
unfolding sent_any
reveal_any s e =
    on (equal s.beats 0)
    (λ z. chosen _ (eq-eqb s.beats 0 z) ∙ chosen _ e)
    (λ z. other _ (ne_eqb s.beats 0 z))

-- and so is a plain beat
pub beat-any : (s : Server) → sent_any (send_beat s) ≡ true
unfolding sent_any one_more
beat-any s =
    other _ (by_choice (λ (n : ℕ). eqb n 0 ≡ false) (ltb s.beats most_beats) (λ e. ne_eqb (s.beats + 1) 0 (λ z. omega arith)) (λ e. refl))

-- the sender of what a server sent is that server
pub sent-rank : (s : Server) (h : Heartbeat) → Memᴰ h (sent_by s) → sender h ≡ rank_of s
sent-rank s h m =
    let ranked : Heartbeat → Bool = λ x. eqb x.priority s.priority && eqb x.tiebreaker s.identity in
    let own = and_true (eq-eqb s.priority s.priority refl) (eq-eqb s.identity s.identity refl) in
    let e = every_mem ranked (sent_by s) (every-sent ranked s own (inr own) (inr own)) m in
    ap₂ (λ (p i : ℕ). record { priority = p; identity = i })
    (eqb-true h.priority s.priority (fst_true _ _ e))
    (eqb-true h.tiebreaker s.identity (snd_true (eqb h.priority s.priority) _ e))

-- a set Reveal was sent as a reveal
pub sent_reveal : (s : Server) (h : Heartbeat) → Memᴰ h (sent_by s) → is_set h.reveal ≡ true → s.reveal ≡ true
sent_reveal s h m e =
    on (tested s.reveal)
    (λ t. t)
    (λ t.
    let unset : Heartbeat → Bool = λ x. not (is_set x.reveal) in
    absurd (clash e (not-true (is_set h.reveal) (every_mem unset (sent_by s) (every-sent unset s refl (inl t) (inr refl)) m))))

-- without a pass, BS is nobody's
pub sent-unmarked : (s : Server) (h : Heartbeat) → Memᴰ h (sent_by s) → s.pass ≡ 0 → h.bs ≡ 0
sent-unmarked s h m z =
    eqb-true h.bs 0 (every_mem (λ x. eqb x.bs 0) (sent_by s) (every-sent (λ x. eqb x.bs 0) s refl (inr refl) (inl z)) m)
