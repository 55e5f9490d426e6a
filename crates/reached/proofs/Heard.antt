-- The closed form of hearing, where BS is nobody's: what a server is after all that it hears.
-- Assumes nothing.
use mathlib.Core.Bool.{Bool, true, false, not, ◌&&◌}
use mathlib.Core.Path.{◌≡◌, refl, ap, ◌∙◌}
use mathlib.Core.Logic.{◌⊎◌, inl, inr}
use mathlib.Core.List.Memᴰ
use mathlib.Core.List.{List, [], ◌∷◌, ◌++◌, Memᴰ}
use Prim.Native.Nat.{ℕ}
use borrow.Author.Tests.{eq-eqb, eqb-true, not-true}
use lib.Dec.{eqb}
use Rattle.lists.specs.Lists.{every}
use Rattle.lists.proofs.Cases.{tested, chosen, other, and_left, and_right, fst_true, snd_true, on, clash}
use Rattle.lists.proofs.Clear.{every_weaker, every_front, every_back, every_mem}
use Rattle.heartbeat.specs.declared.Heartbeat.{Heartbeat}
use Rattle.heartbeat.specs.Heartbeat.{sender, is_set}
use Rattle.heartbeat.proofs.Order.{asymmetric}
use Rattle.roles.specs.declared.Role.{Role}
use Rattle.roles.specs.declared.Role.TheVariants.{Down, Idle, Sync, Backup, Prospect, Primary}
use Rattle.server.specs.declared.Server.{Server}
use Rattle.server.specs.Server.{rank_of, in_role, set_silence, set_beat, to_prospect, beat_now, send_reveal, sent_any, after}
use Rattle.server.specs.Hearing.{from_higher, from_lower, for_this, lower_reveals, backup_hears, replies, prospect_hears, primary_hears, hears_in, attending, heard, heard_all}
use Rattle.server.proofs.Sent.{reveal_any, beat-any}
use Rattle.server.proofs.Hearing.{heard-append, sent_no_reply, reply_as}
use Rattle.roles.specs.Roles.{is_active, is_beating}
use Rattle.traces.proofs.Ways.{beating}
use Rattle.group.proofs.Inbox.{Falls}

-- a server after hearing h in frame t, by its role
pub hear_as : (t : ℕ) (s : Server) (h : Heartbeat) {r : Role} → s.role ≡ r → (heard t s h).server ≡ after t (attending t r s) (hears_in r s h)
hear_as t s h e = ap (λ (r : Role). after t (attending t r s) (hears_in r s h)) e

-- ---- one heartbeat

-- down, idle, sync: nothing
rest-one : (t : ℕ) (s : Server) (h : Heartbeat) (r : Role) → s.role ≡ r → is_active r ≡ false → (heard t s h).server ≡ s
unfolding after is_active
rest-one t s h Down e a = hear_as t s h e
rest-one t s h Idle e a = hear_as t s h e
rest-one t s h Sync e a = hear_as t s h e
rest-one t s h Backup e a = absurd (clash refl a)
rest-one t s h Prospect e a = absurd (clash refl a)
rest-one t s h Primary e a = absurd (clash refl a)

-- no higher sender: a prospect or primary stays as it is, or replies
stay_one : (t : ℕ) (s : Server) (h : Heartbeat) → is_beating s.role ≡ true → from_higher s h ≡ false → replies s h ≡ false → (heard t s h).server ≡ s
unfolding after prospect_hears primary_hears
stay_one t s h b u n =
    on (beating s.role b)
    (λ e. hear_as t s h e ∙ ap (after t s) (other _ u ∙ other _ n))
    (λ e.
    hear_as t s h e
    ∙ ap (after t s) (other _ u ∙ other _ n)
    ∙ on (tested (from_lower s h)) (λ l. ap (after t s) (chosen _ l)) (λ l. ap (after t s) (other _ l)))

-- to backup in frame t
abbrev pub backed : ℕ → Server → Server
backed t s = set_silence t (in_role Backup s)

yield-one : (t : ℕ) (s : Server) (h : Heartbeat) → is_beating s.role ≡ true → from_higher s h ≡ true → (heard t s h).server ≡ backed t s
unfolding after prospect_hears primary_hears
yield-one t s h b u =
    on (beating s.role b)
    (λ e. hear_as t s h e ∙ ap (after t s) (chosen _ u))
    (λ e. hear_as t s h e ∙ ap (after t s) (chosen _ u))

-- BS 0 is nobody's
unmarked : (s : Server) (h : Heartbeat) → h.bs ≡ 0 → for_this s h ≡ false
unfolding for_this
unmarked s h e = and_left _ (ap not (eq-eqb h.bs 0 e))

-- to prospect in frame t, with a reveal
abbrev pub raised : ℕ → Server → Server
raised t s = send_reveal (to_prospect t (set_silence t s))

attend_one : (t : ℕ) (s : Server) (h : Heartbeat) → s.role ≡ Backup → h.bs ≡ 0 → lower_reveals s h ≡ false → (heard t s h).server ≡ set_silence t s
unfolding after backup_hears
attend_one t s h e m l = hear_as t s h e ∙ ap (after t (set_silence t s)) (other _ (unmarked s h m) ∙ other _ l)

raise_one : (t : ℕ) (s : Server) (h : Heartbeat) → s.role ≡ Backup → h.bs ≡ 0 → lower_reveals s h ≡ true → (heard t s h).server ≡ raised t s
unfolding after backup_hears
raise_one t s h e m l = hear_as t s h e ∙ ap (after t (set_silence t s)) (other _ (unmarked s h m) ∙ chosen _ l)

-- ---- all of them

abbrev pub unmarked_all : List Heartbeat → Bool
unmarked_all hs = every (λ h. eqb h.bs 0) hs

pub rest_all : (t : ℕ) (s : Server) (hs : List Heartbeat) → is_active s.role ≡ false → heard_all t s hs ≡ s
unfolding heard_all
rest_all t s [] a = refl
rest_all t s (h ∷ hs) a = ap (λ (x : Server). heard_all t x hs) (rest-one t s h s.role refl a) ∙ rest_all t s hs a

-- heartbeats of lower senders only: a prospect or primary that has sent stays as it is
stay_all : (t : ℕ) (s : Server) (hs : List Heartbeat) → is_beating s.role ≡ true → sent_any s ≡ true → every (from_lower s) hs ≡ true → heard_all t s hs ≡ s
unfolding heard_all
stay_all t s [] b a l = refl
stay_all t s (h ∷ hs) b a l =
    ap (λ (x : Server). heard_all t x hs) (stay_one t s h b (asymmetric (rank_of s) (sender h) (fst_true (from_lower s h) (every (from_lower s) hs) l)) (sent_no_reply s h a))
    ∙ stay_all t s hs b a (snd_true (from_lower s h) (every (from_lower s) hs) l)

-- and any other stays as it is, or replies once
pub lower-all :
    (t : ℕ) (s : Server) (hs : List Heartbeat) → is_beating s.role ≡ true → every (from_lower s) hs ≡ true → (heard_all t s hs ≡ s) ⊎ (heard_all t s hs ≡ beat_now t s)
unfolding heard_all
lower-all t s [] b l = inl refl
lower-all t s (h ∷ hs) b l =
    let no = asymmetric (rank_of s) (sender h) (fst_true (from_lower s h) (every (from_lower s) hs) l) in
    let ls = snd_true (from_lower s h) (every (from_lower s) hs) l in
    on (tested (replies s h))
    (λ y. inr (ap (λ (x : Server). heard_all t x hs) (reply_as t s h s.role b no y) ∙ stay_all t (beat_now t s) hs b (beat-any (set_beat t s)) ls))
    (λ y.
    let e = ap (λ (x : Server). heard_all t x hs) (stay_one t s h b no y) in
    on (lower-all t s hs b ls) (λ q. inl (e ∙ q)) (λ q. inr (e ∙ q)))

-- a list is empty, or has an element
pub empty? : (l : List Heartbeat) → (l ≡ []) ⊎ ((h : Heartbeat) × Memᴰ h l)
empty? [] = inl refl
empty? (h ∷ l) = inr (h, Memᴰ.head refl)

-- none of them calls up
abbrev pub no_call : Server → List Heartbeat → Bool
no_call s hs = every (λ h. not (lower_reveals s h)) hs

-- a backup that hears no call stays backup, its silence timer set
attend_all : (t : ℕ) (s : Server) (hs : List Heartbeat) → s.role ≡ Backup → unmarked_all hs ≡ true → no_call s hs ≡ true → heard_all t (set_silence t s) hs ≡ set_silence t s
unfolding heard_all
attend_all t s [] e m l = refl
attend_all t s (h ∷ hs) e m l =
    ap (λ (x : Server). heard_all t x hs)
    (attend_one t (set_silence t s) h e
    (eqb-true h.bs 0 (fst_true (eqb h.bs 0) (unmarked_all hs) m))
    (not-true (lower_reveals s h) (fst_true (not (lower_reveals s h)) (no_call s hs) l)))
    ∙ attend_all t s hs e (snd_true (eqb h.bs 0) (unmarked_all hs) m) (snd_true (not (lower_reveals s h)) (no_call s hs) l)

pub attended : (t : ℕ) (s : Server) (hs : List Heartbeat) {h : Heartbeat} → Memᴰ h hs → s.role ≡ Backup → unmarked_all hs ≡ true → no_call s hs ≡ true → heard_all t s hs ≡ set_silence t s
unfolding heard_all
attended t s [] i e m l = absurd (Memᴰ.not-nil i)
attended t s (h ∷ hs) i e m l =
    ap (λ (x : Server). heard_all t x hs)
    (attend_one t s h e
    (eqb-true h.bs 0 (fst_true (eqb h.bs 0) (unmarked_all hs) m))
    (not-true (lower_reveals s h) (fst_true (not (lower_reveals s h)) (no_call s hs) l)))
    ∙ attend_all t s hs e (snd_true (eqb h.bs 0) (unmarked_all hs) m) (snd_true (not (lower_reveals s h)) (no_call s hs) l)

prospect_is : is_beating Prospect ≡ true
unfolding is_beating
prospect_is = refl

-- a backup that hears a call among heartbeats of lower senders becomes prospect and reveals
raised-under :
    (t : ℕ) (s : Server) (hs : List Heartbeat) {h : Heartbeat} → Memᴰ h hs → lower_reveals s h ≡ true → s.role ≡ Backup → unmarked_all hs ≡ true →
    every (from_lower s) hs ≡ true → heard_all t s hs ≡ raised t s
unfolding heard_all
raised-under t s [] i u e m l = absurd (Memᴰ.not-nil i)
raised-under t s (x ∷ hs) {h} i u e m l =
    let bs = eqb-true x.bs 0 (fst_true (eqb x.bs 0) (unmarked_all hs) m) in
    let ms = snd_true (eqb x.bs 0) (unmarked_all hs) m in
    let ls = snd_true (from_lower s x) (every (from_lower s) hs) l in
    on (tested (lower_reveals s x))
    (λ g. ap (λ (y : Server). heard_all t y hs) (raise_one t s x e bs g) ∙ stay_all t (raised t s) hs prospect_is (reveal_any (raised t s) refl) ls)
    (λ g.
    ap (λ (y : Server). heard_all t y hs) (attend_one t s x e bs g)
    ∙ raised-under t (set_silence t s) hs
    (on (Memᴰ.cases_cons i) (λ q. absurd (clash (rw q at u) g)) (λ q. q))
    u e ms ls)

-- a heartbeat of a higher sender does not call up
pub higher_no_call : (s : Server) (h : Heartbeat) → from_higher s h ≡ true → lower_reveals s h ≡ false
higher_no_call s h e = and_right (is_set h.reveal) (asymmetric (sender h) (rank_of s) e)

highers_no_call : (s : Server) (hs : List Heartbeat) → every (from_higher s) hs ≡ true → no_call s hs ≡ true
highers_no_call s hs e = every_weaker (from_higher s) (λ h. not (lower_reveals s h)) (λ h u. ap not (higher_no_call s h u)) hs e

-- ---- what is heard, falling in rank and with BS nobody's

module _ (t : ℕ) (s : Server) (hs : List Heartbeat) (f : Falls s hs) (m : unmarked_all hs ≡ true) where
  upper-unmarked : unmarked_all f.upper ≡ true
  upper-unmarked = every_front (λ h. eqb h.bs 0) f.upper f.under (rw f.parts at m)

  under-unmarked : unmarked_all f.under ≡ true
  under-unmarked = every_back (λ h. eqb h.bs 0) f.upper f.under (rw f.parts at m)

  in_two : heard_all t s hs ≡ heard_all t (heard_all t s f.upper) f.under
  in_two = ap (heard_all t s) f.parts ∙ heard-append t s f.upper f.under

  -- a call comes from below
  call-under : {h : Heartbeat} → Memᴰ h hs → lower_reveals s h ≡ true → Memᴰ h f.under
  call-under {h} i u =
      on (Memᴰ.append_cases f.upper (rw f.parts at i))
      (λ q. absurd (clash u (higher_no_call s h (every_mem (from_higher s) f.upper f.highers q))))
      (λ q. q)

  nothing-heard : heard_all t (heard_all t s []) f.under ≡ heard_all t s f.under
  unfolding heard_all
  nothing-heard = refl

  pub backup_raised : {h : Heartbeat} → Memᴰ h hs → lower_reveals s h ≡ true → s.role ≡ Backup → heard_all t s hs ≡ raised t s
  backup_raised {h} i u e =
      in_two
      ∙ on (empty? f.upper)
      (λ z.
      ap (λ (l : List Heartbeat). heard_all t (heard_all t s l) f.under) z
      ∙ nothing-heard
      ∙ raised-under t s f.under (call-under i u) u e under-unmarked f.lowers)
      (λ z.
      ap (λ (x : Server). heard_all t x f.under) (attended t s f.upper z.1 e upper-unmarked (highers_no_call s f.upper f.highers))
      ∙ raised-under t (set_silence t s) f.under (call-under i u) u e under-unmarked f.lowers)

  -- a beater that hears no higher sender
  pub beater_stays : ((h : Heartbeat) → Memᴰ h hs → from_higher s h ≡ false) → is_beating s.role ≡ true → (heard_all t s hs ≡ s) ⊎ (heard_all t s hs ≡ beat_now t s)
  beater_stays lower b =
      on (empty? f.upper)
      (λ z.
      let e = ap (heard_all t s) (f.parts ∙ ap (λ (l : List Heartbeat). l ++ f.under) z) in
      on (lower-all t s f.under b f.lowers) (λ q. inl (e ∙ q)) (λ q. inr (e ∙ q)))
      (λ z. absurd (clash (every_mem (from_higher s) f.upper f.highers z.1) (lower z.0 (rw f.parts (Memᴰ.append_left f.under z.1)))))

  -- the first of the higher senders makes a beater backup, and the others leave it so
  upper-backs : {h : Heartbeat} (us : List Heartbeat) → Memᴰ h us → every (from_higher s) us ≡ true → unmarked_all us ≡ true → is_beating s.role ≡ true → heard_all t s us ≡ backed t s
  unfolding heard_all
  upper-backs [] i a n b = absurd (Memᴰ.not-nil i)
  upper-backs (u ∷ us) i a n b =
      ap (λ (x : Server). heard_all t x us) (yield-one t s u b (fst_true (from_higher s u) (every (from_higher s) us) a))
      ∙ attend_all t (backed t s) us refl (snd_true (eqb u.bs 0) (unmarked_all us) n)
      (highers_no_call s us (snd_true (from_higher s u) (every (from_higher s) us) a))

  -- a higher sender is among the first
  higher-upper : {h : Heartbeat} → Memᴰ h hs → from_higher s h ≡ true → Memᴰ h f.upper
  higher-upper {h} i u =
      on (Memᴰ.append_cases f.upper (rw f.parts at i))
      (λ q. q)
      (λ q. absurd (clash u (asymmetric (rank_of s) (sender h) (every_mem (from_lower s) f.under f.lowers q))))

  pub beater_backs : {h : Heartbeat} → Memᴰ h hs → from_higher s h ≡ true → no_call s hs ≡ true → is_beating s.role ≡ true → heard_all t s hs ≡ backed t s
  beater_backs i u c b =
      in_two
      ∙ ap (λ (x : Server). heard_all t x f.under) (upper-backs f.upper (higher-upper i u) f.highers upper-unmarked b)
      ∙ attend_all t (backed t s) f.under refl under-unmarked (every_back (λ h. not (lower_reveals s h)) f.upper f.under (rw f.parts at c))

  pub beater_raised :
      {h k : Heartbeat} → Memᴰ h hs → from_higher s h ≡ true → Memᴰ k hs → lower_reveals s k ≡ true → is_beating s.role ≡ true →
      heard_all t s hs ≡ raised t (backed t s)
  beater_raised i u j c b =
      in_two
      ∙ ap (λ (x : Server). heard_all t x f.under) (upper-backs f.upper (higher-upper i u) f.highers upper-unmarked b)
      ∙ raised-under t (backed t s) f.under (call-under j c) c refl under-unmarked f.lowers
