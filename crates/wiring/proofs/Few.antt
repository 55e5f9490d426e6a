-- How many heartbeats come to a place in a frame. Assumes nothing.
use mathlib.Core.Path.{◌≡◌, refl, sym, ap, subst, ◌∙◌}
use mathlib.Core.List.{List, [], ◌∷◌, ◌++◌, map}
use Prim.Native.Nat.{ℕ, zero, suc, ◌+◌, ◌*◌, ◌<◌, ◌≤◌}
use native.Mathlib.Omega.{arith}
use borrow.Author.Tests.{ltb-true}
use lib.Dec.{ltb, eqb}
use lib.ListN.{length, get_or, set, replicate, length-replicate, length-append, get_or-eq_default}
use Rattle.lists.specs.Choice.{choose}
use Rattle.lists.proofs.Cases.{tested, less, by_choice, on}
use Rattle.heartbeat.specs.declared.Heartbeat.{Heartbeat}
use Rattle.heartbeat.specs.Rank.{higher}
use Rattle.heartbeat.specs.Heartbeat.{sender}
use Rattle.roles.specs.declared.Role.{Role}
use Rattle.roles.specs.declared.Role.TheVariants.{Down, Idle, Sync, Backup, Prospect, Primary}
use Rattle.roles.specs.declared.Event.{Event}
use Rattle.roles.specs.declared.Event.TheVariants.{Nothing, ToBackup, ToProspectBeat, ToProspectReveal, Lower, LowerBeat, Beat, ToPrimary, ToSync, ToIdle, ToDown, Passed}
use Rattle.periods.specs.declared.Period.{Period}
use Rattle.server.specs.declared.Server.{Server}
use Rattle.server.specs.Server.{absent, cleared, most_beats, one_more, plain_of, reveal_of, pass_of, sent_by, after}
use Rattle.server.specs.Hearing.{hears, attending, heard, heard_all}
use Rattle.server.specs.Timers.{after_silent, after_beating, after_rising, timed}
use Rattle.group.specs.declared.State.{State}
use Rattle.group.specs.Table.{is_empty, anew, fresh}
use Rattle.group.specs.Hearing.{place, sent_by_all, senders, inbox}
use Rattle.group.specs.Frame.{hearing, turned, advanced}
use Rattle.group.specs.Advance.{advanced_by}
use Rattle.group.specs.Verbs.{did}
use Rattle.group.specs.Calls.{Call, verb, advance, advance_to, outcome_of, call_channel, channel_after}
use Rattle.group.proofs.Places.{place-advanced, long-advanced}
use Rattle.reached.proofs.Sound.{Sound, hears-apart}
use Rattle.reached.proofs.Made.{sound-fresh}
use Rattle.reached.proofs.Reached.{handed, sound-after}
use Rattle.reached.proofs.Few.{few-senders}
use Rattle.wiring.specs.Members.{Member}
use Rattle.wiring.specs.Heard.{Group, member_at, Comes, keep, sorted}
use Rattle.wiring.specs.Same.{calls_of, most_sent, FewAreSent, most_heard, FewAreHeard}
use Rattle.wiring.proofs.Inboxes.{member-at, heard-inbox}
use Rattle.wiring.proofs.Keeping.{keep-before, keep-behind, sorted-heard}
use Rattle.wiring.proofs.Moves.{new-agrees}

-- ---- one server beats 15 times at the most

abbrev FewBeats : Server → Type 0
FewBeats s = s.beats ≤ most_beats

few-more : (n : ℕ) → one_more n ≤ most_beats
unfolding one_more
few-more n = by_choice (λ (k : ℕ). k ≤ most_beats) (ltb n most_beats) (λ t. let h = ltb-true n most_beats t in omega arith) (λ t. omega arith)

few-after : (t : ℕ) (s : Server) (e : Event) → FewBeats s → FewBeats (after t s e)
unfolding after
few-after t s Nothing h = h
few-after t s ToBackup h = h
few-after t s ToProspectBeat h = few-more s.beats
few-after t s ToProspectReveal h = h
few-after t s Lower h = h
few-after t s LowerBeat h = few-more s.beats
few-after t s Beat h = few-more s.beats
few-after t s ToPrimary h = h
few-after t s ToSync h = h
few-after t s ToIdle h = h
few-after t s ToDown h = h
few-after t s (Passed b) h = h

few-attending : (t : ℕ) (r : Role) (s : Server) → FewBeats s → FewBeats (attending t r s)
few-attending t Down s h = h
few-attending t Idle s h = h
few-attending t Sync s h = h
few-attending t Backup s h = h
few-attending t Prospect s h = h
few-attending t Primary s h = h

few-heard : (t : ℕ) (s : Server) (hs : List Heartbeat) → FewBeats s → FewBeats (heard_all t s hs)
unfolding heard_all
few-heard t s [] h = h
few-heard t s (x ∷ hs) h = few-heard t (heard t s x).server hs (few-after t (attending t s.role s) (hears s x) (few-attending t s.role s h))

few-timed : (t : ℕ) (p : Period) (s : Server) → FewBeats s → FewBeats (timed t p s).server
unfolding after_silent after_beating after_rising
few-timed t p s h = few-after t _ _ (few-after t _ _ (few-after t s _ h))

-- ---- all servers, after any list of calls

abbrev FewBeat : State → Type 0
FewBeat c = (i : ℕ) → FewBeats (place c i)

few-fresh : (l : List Server) (i : ℕ) → FewBeats (get_or (map anew l) i absent)
unfolding anew
few-fresh [] i = omega arith
few-fresh (s ∷ l) zero = by_choice FewBeats (is_empty s) (λ _. omega arith) (λ _. omega arith)
few-fresh (s ∷ l) (suc i) = few-fresh l i

few-set : (l : List Server) (k : ℕ) (x : Server) → ((i : ℕ) → FewBeats (get_or l i absent)) → FewBeats x → (i : ℕ) → FewBeats (get_or (set l k x) i absent)
few-set [] k x h q i = h i
few-set (s ∷ l) zero x h q zero = q
few-set (s ∷ l) zero x h q (suc i) = h (suc i)
few-set (s ∷ l) (suc k) x h q zero = h 0
few-set (s ∷ l) (suc k) x h q (suc i) = few-set l k x (λ j. h (suc j)) q i

few-advanced : (c : State) → FewBeat c → FewBeat (advanced c)
unfolding turned hearing
few-advanced c h i =
    on (less i (length c.servers))
    (λ l. subst FewBeats (sym (place-advanced c i l)) (few-timed _ _ _ (few-heard _ (cleared (place c i)) (inbox c i) (omega arith))))
    (λ l. subst FewBeats (sym (get_or-eq_default (advanced c).servers absent (let e = long-advanced c in omega arith))) (omega arith))

few-by : (n : ℕ) (c : State) → FewBeat c → FewBeat (advanced_by n c)
unfolding advanced_by
few-by zero c h = h
few-by (suc n) c h = few-by n (advanced c) (few-advanced c h)

few_outcome : (c : State) (k : Call) → FewBeat c → FewBeat (outcome_of c k).channel
unfolding did
few_outcome c (verb v a b d) h = few-set c.servers _ _ h (few-after c.frame (place c _) _ (h _))
few_outcome c (advance d) h = few-advanced c h
few_outcome c (advance_to t d) h = few-by _ c h

few-calls : (c : State) (ks : List Call) → FewBeat c → FewBeat (channel_after c ks)
unfolding channel_after
few-calls c [] h = h
few-calls c (k ∷ ks) h =
    few-calls (call_channel c k) ks
    (on (handed c k) (λ r. subst FewBeat (sym r.1) (few_outcome c k h)) (λ r. subst FewBeat (sym r.1) h))

-- ---- an inbox

few-sent : (s : Server) → FewBeats s → length (sent_by s) ≤ most_sent
unfolding sent_by
few-sent s h =
    let a : length (choose s.reveal (reveal_of s ∷ []) []) ≤ 1 = by_choice (λ (l : List Heartbeat). length l ≤ 1) s.reveal (λ _. omega arith) (λ _. omega arith) in
    let b : length (choose (eqb s.pass 0) [] (pass_of s ∷ [])) ≤ 1 = by_choice (λ (l : List Heartbeat). length l ≤ 1) (eqb s.pass 0) (λ _. omega arith) (λ _. omega arith) in
    let l1 = length-append (replicate s.beats (plain_of s)) (choose s.reveal (reveal_of s ∷ []) [] ++ choose (eqb s.pass 0) [] (pass_of s ∷ [])) in
    let l2 = length-append (choose s.reveal (reveal_of s ∷ []) []) (choose (eqb s.pass 0) [] (pass_of s ∷ [])) in
    omega (arith, h, a, b, l1, l2, length-replicate s.beats (plain_of s))

few-all : (c : State) (is : List ℕ) → FewBeat c → length (sent_by_all c is) ≤ 17 * length is
unfolding sent_by_all
few-all c [] h = omega arith
few-all c (i ∷ is) h = omega (arith, few-sent (place c i) (h i), few-all c is h, length-append (sent_by (place c i)) (sent_by_all c is))

few-inbox : (c : State) (j : ℕ) → Sound c → FewBeat c → j < 16 → length (inbox c j) ≤ most_heard
unfolding inbox
few-inbox c j sound h l = omega (arith, few-all c (senders c j) h, few-senders c j (hears-apart c sound j) l)

-- ---- sorting loses nothing

long-keep : (h : Heartbeat) (l : List Heartbeat) → length (keep h l) ≡ suc (length l)
unfolding keep
long-keep h [] = refl
long-keep h (k ∷ l) =
    on (tested (higher (sender h) (sender k)))
    (λ e. ap length (keep-before h k l e))
    (λ e. ap length (keep-behind h k l e) ∙ ap suc (long-keep h l))

long-sorted : (l hs : List Heartbeat) → length (sorted l hs) ≡ length l + length hs
unfolding sorted
long-sorted l [] = omega arith
long-sorted l (h ∷ hs) = omega (arith, long-sorted (keep h l) hs, long-keep h l)

pub few_are_sent : FewAreSent
few_are_sent t n ks ok w i =
    let c = fresh t n in
    let d = channel_after c (calls_of c ks) in
    let is = ap (λ (g : Group). (member_at g i).sent) (new-agrees t n ks ok w).group ∙ ap (λ (m : Member). m.sent) (member-at d i) in
    subst (λ (l : List Heartbeat). length l ≤ most_sent) (sym is)
    (by_choice (λ (m : Member). length m.sent ≤ most_sent) (is_empty (place d i)) (λ _. omega arith)
    (λ _. few-sent (place d i) (few-calls c (calls_of c ks) (few-fresh t.servers) i)))

pub few_are_heard : FewAreHeard
few_are_heard t n ks ok w j hs l comes =
    let c = fresh t n in
    let d = channel_after c (calls_of c ks) in
    let sound = sound-after c (calls_of c ks) (sound-fresh t n ok) in
    let s = sorted-heard d sound j hs (subst (λ (g : Group). Comes g j hs) (new-agrees t n ks ok w).group comes) in
    omega (arith, few-inbox d j sound (few-calls c (calls_of c ks) (few-fresh t.servers)) l, long-sorted [] hs, ap length (heard-inbox d sound j (sorted [] hs) s))
