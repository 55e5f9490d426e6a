-- Heartbeats that change nothing, or only set the silence timer. Assumes nothing.
use mathlib.Core.Bool.{Bool, true, false, not, ◌&&◌}
use mathlib.Core.Path.{◌≡◌, refl, sym, ap, ap₂, subst, ◌∙◌}
use mathlib.Core.List.{List, [], ◌∷◌, ◌++◌}
use mathlib.Core.Logic.{◌⊎◌, inl, inr}
use Prim.Native.Nat.{ℕ, zero, suc, ◌+◌, ◌*◌, ◌/◌, ◌%◌, ◌≤◌, ◌<◌}
use native.Mathlib.Omega.{arith}
use borrow.Author.Tests.{lt-ltb, le-ltb, ltb-true, eqb-true, eqb-false, eq-eqb}
use lib.Dec.{eqb, ltb}
use lib.ListN.{get_or, replicate, take}
use Rattle.lists.specs.Choice.{choose}
use Rattle.lists.specs.Lists.{every}
use Rattle.lists.proofs.Cases.{less, on, chosen, other, by_choice, clash, and_true, and_right, fst_true, snd_true, not_so}
use Rattle.lists.proofs.Clear.{every_front, every_back}
use Rattle.heartbeat.specs.declared.Heartbeat.{Heartbeat}
use Rattle.heartbeat.specs.Rank.{higher}
use Rattle.heartbeat.specs.Heartbeat.{is_set}
use Rattle.roles.specs.declared.Role.{Role}
use Rattle.roles.specs.declared.Role.TheVariants as role
use Rattle.roles.specs.declared.Event.{Event}
use Rattle.roles.specs.declared.Event.TheVariants as event
use Rattle.server.specs.declared.Heard.{Heard}
use Rattle.server.specs.declared.Server.{Server}
use Rattle.server.specs.Server.{rank_of, set_silence, cleared, plain_of, reveal_of, pass_of, sent_by, sent_any, after}
use Rattle.server.specs.Hearing.{from_higher, from_lower, for_this, backup_hears, prospect_hears, hears_in, attending, heard, heard_all}
use Rattle.roles.specs.Words.{said}
use Rattle.lines.specs.Lines.{lines_of}
use Rattle.group.specs.Frame.{heard_lines}
use Rattle.roles.specs.Roles.{is_active}
use Rattle.places.specs.Words.{rank_number}
use Rattle.places.specs.Roles.{is_backup, is_still, is_prospect}
use Rattle.places.specs.Order.{over_by, comes_by, heard_by}
use Rattle.frame.specs.Steps.{Out, Hears, heeds_only, higher_at, SenderList, sender_of, best_by, heard_of, next_by, senders_by, sent_of}
use Rattle.places.proofs.Roles.{still-by}
use Rattle.frame.proofs.Writing.{start}
use Rattle.server.proofs.Hearing.{heard-append, sent_no_reply}
use Rattle.frame.proofs.Hearings.{said-append, backup_is}
use Rattle.frame.proofs.Lookup.{higher-number, inbox_after, some-by, none-by}

-- hearing hs in frame t makes x of s, and nothing is said
pub record Silent (t : ℕ) (s : Server) (hs : List Heartbeat) (x : Server) : Type 0 where
  pub server : heard_all t s hs ≡ x
  pub lines : heard_lines t s hs ≡ []

pub silent-hears : {t : ℕ} {s : Server} {hs : List Heartbeat} {x : Server} {wet : Bool} {d : List ℕ} {at : ℕ} → Silent t s hs x → Hears t wet s hs d at (record { server = x; at = at }) d
silent-hears {wet = wet} {d = d} {at = at} v = record { server = sym v.server; out = subst (λ (l : List ℕ). Out wet d at l at d) (sym v.lines) start }

module _ {t : ℕ} where
  silent-none : {s : Server} → Silent t s [] s
  unfolding heard_all heard_lines
  silent-none = record { server = refl; lines = refl }

  pub silent-nothing : {s : Server} {hs : List Heartbeat} → hs ≡ [] → Silent t s hs s
  silent-nothing {s} e = subst (λ (l : List Heartbeat). Silent t s l s) (sym e) silent-none

  silent-more : {s y z : Server} {h : Heartbeat} {hs : List Heartbeat} → heard t s h ≡ record { server = y; event = event.Nothing } → Silent t y hs z → Silent t s (h ∷ hs) z
  unfolding heard_all heard_lines lines_of
  silent-more {s} {y} {z} {h} {hs} e v =
      record {
        server = ap (λ (k : Heard). heard_all t k.server hs) e ∙ v.server;
        lines = ap (λ (k : Heard). lines_of t s.identity (said k.event) ++ heard_lines t k.server hs) e ∙ v.lines;
      }

  silent-then : {s y z : Server} {xs ys : List Heartbeat} → Silent t s xs y → Silent t y ys z → Silent t s (xs ++ ys) z
  silent-then {s} {y} {z} {xs} {ys} v u =
      record {
        server = heard-append t s xs ys ∙ ap (λ (k : Server). heard_all t k ys) v.server ∙ u.server;
        lines = said-append t s xs ys ∙ ap₂ (λ (l : List ℕ) (k : Server). l ++ heard_lines t k ys) v.lines v.server ∙ u.lines;
      }

  silent_again : {s : Server} (h : Heartbeat) → heard t s h ≡ record { server = s; event = event.Nothing } → (n : ℕ) → Silent t s (replicate n h) s
  silent_again h e zero = silent-none
  silent_again h e (suc n) = silent-more e (silent_again h e n)

-- ---- a prospect that has sent, and hears nobody higher

pub prospect_is : (r : Role) → is_prospect r ≡ true → r ≡ role.Prospect
prospect_is role.Down e = absurd (clash e refl)
prospect_is role.Idle e = absurd (clash e refl)
prospect_is role.Sync e = absurd (clash e refl)
prospect_is role.Backup e = absurd (clash e refl)
prospect_is role.Prospect e = refl
prospect_is role.Primary e = absurd (clash e refl)

module _ (t : ℕ) (s : Server) (q : s.role ≡ role.Prospect) (sent : sent_any s ≡ true) where
  prospect_one : (h : Heartbeat) → from_higher s h ≡ false → heard t s h ≡ record { server = s; event = event.Nothing }
  unfolding after prospect_hears
  prospect_one h e =
      ap (λ (r : Role). record { server = after t (attending t r s) (hears_in r s h); event = hears_in r s h }) q
      ∙ ap (λ (v : Event). record { server = after t s v; event = v })
      (other event.ToBackup e ∙ other event.Beat (sent_no_reply s h sent))

  -- all that the sender x sent
  prospect_all : (x : Server) → higher (rank_of x) (rank_of s) ≡ false → Silent t s (sent_by x) s
  unfolding sent_by
  prospect_all x e =
      silent-then (silent_again (plain_of x) (prospect_one (plain_of x) e) x.beats)
      (silent-then
      (by_choice (λ (l : List Heartbeat). Silent t s l s) x.reveal (λ z. silent-more (prospect_one (reveal_of x) e) silent-none) (λ z. silent-none))
      (by_choice (λ (l : List Heartbeat). Silent t s l s) (eqb x.pass 0) (λ z. silent-none) (λ z. silent-more (prospect_one (pass_of x) e) silent-none)))

-- ---- who comes next is below the last

abbrev UnderLast : List ℕ → ℕ → ℕ → Type 0
UnderLast ranks last i = i < 16 → choose (ltb last 16) (over_by ranks last i) true ≡ true

module _ (ranks : List ℕ) (w : List Bool) (j last : ℕ) where
  best_under : (is : List ℕ) (best : ℕ) → UnderLast ranks last best → UnderLast ranks last (best_by ranks w j last best is)
  best_under [] best u = u
  best_under (i ∷ is) best u =
      best_under is (choose (comes_by ranks (heard_by w j i) last best i) i best)
      (by_choice (UnderLast ranks last) (comes_by ranks (heard_by w j i) last best i)
      (λ e h. fst_true (choose (ltb last 16) (over_by ranks last i) true) _ (snd_true (heard_by w j i) _ e))
      (λ e. u))

module _ (r : SenderList) (w : List Bool) (j : ℕ) where
  next_under : (last : ℕ) → last < 16 → next_by r w j last < 16 → get_or r.ranks (next_by r w j last) 0 < get_or r.ranks last 0
  next_under last h g =
      ltb-true _ _ (sym (chosen true (lt-ltb last 16 h)) ∙ best_under r.ranks w j last (take r.count r.places) 16 (λ z. absurd (omega arith)) g)

  -- so a prospect that has sent and is not below the next sender stays as it is, whatever is left
  -- to hear
  module _ (t : ℕ) (s : Server) (q : s.role ≡ role.Prospect) (sent : sent_any s ≡ true) (fits : s.identity < 65536) where
    from_low : (rank sending : ℕ) → rank ≤ rank_number s → higher (rank_of (sender_of rank sending)) (rank_of s) ≡ false
    from_low rank sending h =
        let a = rank_of (sender_of rank sending) in
        let small : a.identity < 65536 = omega arith in
        let whole : a.priority * 65536 + a.identity ≡ rank = omega arith in
        sym (higher-number a (rank_of s) small fits) ∙ le-ltb (rank_number s) (a.priority * 65536 + a.identity) (omega arith)

    pub stays_all : (n last i : ℕ) → i ≡ next_by r w j last → (i < 16 → get_or r.ranks i 0 ≤ rank_number s) → Silent t s (inbox_after r w j n last) s
    unfolding senders_by sent_of
    stays_all zero last i e u = silent-none
    stays_all (suc n) last i e u =
        on (less i 16)
        (λ h.
        subst (λ (l : List ℕ). Silent t s (sent_of r l) s) (sym (some-by r w j n last i e h))
        (silent-then
        (prospect_all t s q sent (sender_of (get_or r.ranks i 0) (get_or r.sendings i 0)) (from_low (get_or r.ranks i 0) (get_or r.sendings i 0) (u h)))
        (stays_all n i (next_by r w j i) refl (λ g. let k = next_under i h g in let m = u h in omega arith))))
        (λ h. subst (λ (l : List ℕ). Silent t s (sent_of r l) s) (sym (none-by r w j n last i e h)) silent-none)

-- ---- a backup that hears somebody higher

module _ (t : ℕ) (s : Server) (q : s.role ≡ role.Backup) where
  backup_one : (h : Heartbeat) → for_this s h ≡ false → from_lower s h ≡ false → heard t s h ≡ record { server = set_silence t s; event = event.Nothing }
  unfolding after backup_hears
  backup_one h e l =
      ap (λ (r : Role). record { server = after t (attending t r s) (hears_in r s h); event = hears_in r s h }) q
      ∙ ap (λ (v : Event). record { server = after t (set_silence t s) v; event = v }) (other event.ToProspectBeat e ∙ other event.ToProspectReveal (and_right (is_set h.reveal) l))

-- it sets its silence timer, once for all that was sent; nobody is named
module _ (t : ℕ) (s x : Server) (q : s.role ≡ role.Backup) (l : higher (rank_of s) (rank_of x) ≡ false) where
  plain-one : (s' : Server) → s'.role ≡ role.Backup → rank_of s' ≡ rank_of s → heard t s' (plain_of x) ≡ record { server = set_silence t s'; event = event.Nothing }
  unfolding for_this
  plain-one s' r e = backup_one t s' r (plain_of x) refl (rw e l)

  reveal_one : (s' : Server) → s'.role ≡ role.Backup → rank_of s' ≡ rank_of s → heard t s' (reveal_of x) ≡ record { server = set_silence t s'; event = event.Nothing }
  unfolding for_this
  reveal_one s' r e = backup_one t s' r (reveal_of x) refl (rw e l)

  abbrev heeded : Server
  heeded = set_silence t s

  heeds-all : (n : ℕ) (b : Bool) → (n ≡ 0 → b ≡ true) → Silent t s (replicate n (plain_of x) ++ (choose b (reveal_of x ∷ []) [] ++ [])) heeded
  unfolding choose
  heeds-all zero true f = silent-more (reveal_one s q refl) silent-none
  heeds-all zero false f = absurd (clash (f refl) refl)
  heeds-all (suc n) b f =
      silent-then (silent-more (plain-one s q refl) (silent_again (plain_of x) (plain-one heeded q refl) n))
      (silent-then (by_choice (λ (y : List Heartbeat). Silent t heeded y heeded) b (λ z. silent-more (reveal_one heeded q refl) silent-none) (λ z. silent-none)) silent-none)

pub heeds-silently :
    (t : ℕ) (s : Server) (rank sending : ℕ) → s.identity < 65536 → heeds_only s rank sending ≡ true → Silent t s (sent_by (sender_of rank sending)) (set_silence t s)
unfolding sent_by
heeds-silently t s rank sending fits e =
    let x = sender_of rank sending in
    let q = backup_is s.role (fst_true (is_backup s.role) _ e) in
    let more = snd_true (is_backup s.role) _ e in
    let above = ltb-true (rank_number s) rank (fst_true (ltb (rank_number s) rank) _ more) in
    let sent = snd_true (ltb (rank_number s) rank) _ more in
    let some = eqb-false sending 0 (not_so (eqb sending 0) (fst_true (not (eqb sending 0)) _ sent)) in
    let nobody = eqb-true (sending % 65536) 0 (snd_true (not (eqb sending 0)) _ sent) in
    let small : (rank_of x).identity < 65536 = omega arith in
    let whole : (rank_of x).priority * 65536 + (rank_of x).identity ≡ rank = omega arith in
    let low : higher (rank_of s) (rank_of x) ≡ false = sym (higher-number (rank_of s) (rank_of x) fits small) ∙ le-ltb ((rank_of x).priority * 65536 + (rank_of x).identity) (rank_number s) (omega arith) in
    subst (λ (l : List Heartbeat). Silent t s (replicate x.beats (plain_of x) ++ (choose x.reveal (reveal_of x ∷ []) [] ++ l)) (set_silence t s))
    (sym (chosen {a = []} (pass_of x ∷ []) (eq-eqb (sending % 65536) 0 nobody)))
    (heeds-all t s x q low x.beats x.reveal (λ z. eq-eqb (sending / 65536 % 2) 1 (one some nobody z)))
  where
    one : (sending ≡ 0 → ⊥) → sending % 65536 ≡ 0 → sending / 131072 ≡ 0 → sending / 65536 % 2 ≡ 1
    one a b c = on (less 0 sending) (λ h. omega arith) (λ h. absurd (a (omega arith)))

-- ---- a backup that hears higher senders only

-- what holds of all that are heard holds of the best of them
module _ (ranks : List ℕ) (w : List Bool) (j last : ℕ) (p : ℕ → Bool) where
  best_has : (is : List ℕ) (best : ℕ) → every p (heard_of w j is) ≡ true → (best < 16 → p best ≡ true) → best_by ranks w j last best is < 16 → p (best_by ranks w j last best is) ≡ true
  unfolding heard_of
  best_has [] best e u = u
  best_has (i ∷ is) best e u =
      best_has is (choose (comes_by ranks (heard_by w j i) last best i) i best)
      (every_back p (choose (heard_by w j i) (i ∷ []) []) (heard_of w j is) e)
      (by_choice (λ (b : ℕ). b < 16 → p b ≡ true) (comes_by ranks (heard_by w j i) last best i)
      (λ t h. fst_true (p i) true (sym (ap (every p) (chosen {a = i ∷ []} [] (fst_true (heard_by w j i) _ t))) ∙ every_front p (choose (heard_by w j i) (i ∷ []) []) (heard_of w j is) e))
      (λ t. u))

-- it has heard in the frame, so whatever is left changes nothing
module _ (r : SenderList) (w : List Bool) (j : ℕ) (t : ℕ) (s : Server) (back : is_backup s.role ≡ true) (set : s.silence ≡ t) (fits : s.identity < 65536)
    (only : every (higher_at r.ranks r.sendings (rank_number s)) (heard_of w j (take r.count r.places)) ≡ true) where
  heeded-one : (i : ℕ) → higher_at r.ranks r.sendings (rank_number s) i ≡ true → Silent t s (sent_by (sender_of (get_or r.ranks i 0) (get_or r.sendings i 0))) s
  heeded-one i e =
      subst (λ (k : ℕ). Silent t s (sent_by (sender_of (get_or r.ranks i 0) (get_or r.sendings i 0))) (set_silence k s)) (sym set)
      (subst (λ (k : ℕ). Silent k s (sent_by (sender_of (get_or r.ranks i 0) (get_or r.sendings i 0))) (set_silence k s)) refl
      (heeds-silently t s (get_or r.ranks i 0) (get_or r.sendings i 0) fits (and_true back e)))

  pub listened_all : (n last i : ℕ) → i ≡ next_by r w j last → Silent t s (inbox_after r w j n last) s
  unfolding senders_by sent_of
  listened_all zero last i e = silent-none
  listened_all (suc n) last i e =
      on (less i 16)
      (λ h.
      subst (λ (l : List ℕ). Silent t s (sent_of r l) s) (sym (some-by r w j n last i e h))
      (silent-then
      (heeded-one i (subst (λ (k : ℕ). higher_at r.ranks r.sendings (rank_number s) k ≡ true) (sym e)
      (best_has r.ranks w j last (higher_at r.ranks r.sendings (rank_number s)) (take r.count r.places) 16 only (λ z. absurd (omega arith)) (subst (λ (k : ℕ). k < 16) e h))))
      (listened_all n i (next_by r w j i) refl)))
      (λ h. subst (λ (l : List ℕ). Silent t s (sent_of r l) s) (sym (none-by r w j n last i e h)) silent-none)

-- ---- who takes no part hears nothing

-- one of two tests fails
pub and_false : (a b : Bool) → (a && b) ≡ false → (a ≡ false) ⊎ (b ≡ false)
and_false true b e = inr e
and_false false b e = inl refl

pub aside_still : (s : Server) → is_active s.role ≡ false → is_still (cleared s) ≡ true
unfolding sent_any choose
aside_still s e = sym (still-by s.role false) ∙ ap (λ (b : Bool). not b && true) e
