-- Numbers and lists of plain values, there and back. Assumes nothing.
use mathlib.Core.Bool.{Bool, true, false, not, ◌&&◌}
use mathlib.Core.Path.{◌≡◌, refl, sym, ap, ap₂, ◌∙◌}
use mathlib.Core.List.{List, [], ◌∷◌, map}
use Prim.Native.Nat.{ℕ, ◌<◌, ◌≤◌}
use native.Mathlib.Omega.{arith}
use borrow.Author.Tests.{leb-true, eqb-true}
use lib.Dec.{leb, eqb}
use Rattle.lists.specs.Choice.{choose}
use Rattle.lists.specs.Lists.{every, any_below}
use Rattle.lists.proofs.Cases.{fst_true, snd_true, and_true}
use Rattle.refusal.specs.declared.Refusal.{Refusal}
use Rattle.refusal.specs.declared.Refusal.TheVariants.{Form, Number, Timecode, Place, Taken, Servers, Period, Identity, Short, Past, Down, Up, Role, Link, DayOver}
use Rattle.refusal.specs.Answer.{number_of}
use Rattle.roles.specs.declared.Role as role
use Rattle.roles.specs.declared.Role.TheVariants as roles
use Rattle.roles.specs.declared.Verb.{Verb}
use Rattle.roles.specs.declared.Verb.TheVariants.{Start, Ready, Unready, Pass, Crash, Restart, Cut, Mend}
use Rattle.roles.specs.declared.Event.{Event}
use Rattle.roles.specs.declared.Event.TheVariants.{Nothing, ToBackup, ToProspectBeat, ToProspectReveal, Lower, LowerBeat, Beat, ToPrimary, ToSync, ToIdle, ToDown, Passed}
use Rattle.roles.specs.Roles.{role_number}
use Rattle.roles.specs.Verbs.{verb_number}
use Rattle.places.specs.Words.{role_of}
use Rattle.plain.specs.Numbers.{is_bit, is_role, is_verb, verb_of, is_event, event_number, event_to, event_of, is_refusal, refusal_of}
use Rattle.plain.specs.Plain.{bit_of, plain_bit}
use Rattle.plain.specs.Laws.{Back}
use Rattle.lists.proofs.AnyLoop.{none_below}

-- ---- lists

pub list_decodes : {A P : Type 0} (is : P → Bool) (plain : A → P) → ((x : A) → is (plain x) ≡ true) → (l : List A) → every is (map plain l) ≡ true
list_decodes is plain d [] = refl
list_decodes is plain d (x ∷ l) = and_true (d x) (list_decodes is plain d l)

pub list_same : {A P : Type 0} (of : P → A) (plain : A → P) → ((x : A) → of (plain x) ≡ x) → (l : List A) → map of (map plain l) ≡ l
list_same {A} of plain s [] = refl
list_same {A} of plain s (x ∷ l) = ap₂ (λ (y : A) (t : List A). y ∷ t) (s x) (list_same of plain s l)

pub list_faithful : {A P : Type 0} (is : P → Bool) (of : P → A) (plain : A → P) → ((p : P) → is p ≡ true → plain (of p) ≡ p) → (l : List P) → every is l ≡ true → map plain (map of l) ≡ l
list_faithful {A} {P} is of plain f [] e = refl
list_faithful {A} {P} is of plain f (p ∷ l) e =
    ap₂ (λ (y : P) (t : List P). y ∷ t) (f p (fst_true (is p) (every is l) e)) (list_faithful is of plain f l (snd_true (is p) (every is l) e))

-- ---- numbers that decode: each is computed

-- f gives back each number below m that passes the test
computed : (is : ℕ → Bool) (f : ℕ → ℕ) (m n : ℕ) → any_below m (λ k. is k && not (eqb (f k) k)) ≡ false → n < m → is n ≡ true → f n ≡ n
computed is f m n e h g =
    let q : (is n && not (eqb (f n) n)) ≡ false = none_below (λ k. is k && not (eqb (f k) k)) m n e h in
    eqb-true (f n) n (so (eqb (f n) n) (sym (ap (λ (t : Bool). t && not (eqb (f n) n)) g) ∙ q))
  where
    so : (t : Bool) → not t ≡ false → t ≡ true
    so true z = refl
    so false z = sym z

pub bit-faithful : (n : ℕ) → is_bit n ≡ true → plain_bit (bit_of n) ≡ n
unfolding any_below choose
bit-faithful n e = let h : n ≤ 1 = leb-true n 1 e in computed is_bit (λ k. plain_bit (bit_of k)) 2 n refl (omega arith) e

pub role-faithful : (n : ℕ) → is_role n ≡ true → role_number (role_of n) ≡ n
unfolding any_below choose role_of
role-faithful n e = let h : n ≤ 5 = leb-true n 5 e in computed is_role (λ k. role_number (role_of k)) 6 n refl (omega arith) e

pub verb-faithful : (n : ℕ) → is_verb n ≡ true → verb_number (verb_of n) ≡ n
unfolding any_below choose verb_of
verb-faithful n e = let h : n ≤ 7 = leb-true n 7 e in computed is_verb (λ k. verb_number (verb_of k)) 8 n refl (omega arith) e

pub event-faithful : (n to : ℕ) → is_event n ≡ true → event_number (event_of n to) ≡ n
unfolding any_below choose event_of
event-faithful n to e = let h : n ≤ 11 = leb-true n 11 e in computed is_event (λ k. event_number (event_of k to)) 12 n refl (omega arith) e

pub refusal-faithful : (n : ℕ) → is_refusal n ≡ true → number_of (refusal_of n) ≡ n
unfolding any_below choose refusal_of
refusal-faithful n e =
    let h : n ≤ 16 = leb-true n 16 (snd_true (leb 1 n) (leb n 16) (fst_true (leb 1 n && leb n 16) (not (eqb n 10)) e)) in
    computed is_refusal (λ k. number_of (refusal_of k)) 17 n refl (omega arith) e

-- ---- values

pub role-decodes : (r : role.Role) → is_role (role_number r) ≡ true
role-decodes roles.Down = refl
role-decodes roles.Idle = refl
role-decodes roles.Sync = refl
role-decodes roles.Backup = refl
role-decodes roles.Prospect = refl
role-decodes roles.Primary = refl

pub bit-decodes : (t : Bool) → is_bit (plain_bit t) ≡ true
unfolding choose
bit-decodes true = refl
bit-decodes false = refl

pub bit-same : (t : Bool) → bit_of (plain_bit t) ≡ t
unfolding choose
bit-same true = refl
bit-same false = refl

pub event-back : (e : Event) → Back is_event (λ n. event_of n (event_to e)) event_number e
unfolding choose event_of
event-back Nothing = record { decodes = refl; same = refl }
event-back ToBackup = record { decodes = refl; same = refl }
event-back ToProspectBeat = record { decodes = refl; same = refl }
event-back ToProspectReveal = record { decodes = refl; same = refl }
event-back Lower = record { decodes = refl; same = refl }
event-back LowerBeat = record { decodes = refl; same = refl }
event-back Beat = record { decodes = refl; same = refl }
event-back ToPrimary = record { decodes = refl; same = refl }
event-back ToSync = record { decodes = refl; same = refl }
event-back ToIdle = record { decodes = refl; same = refl }
event-back ToDown = record { decodes = refl; same = refl }
event-back (Passed b) = record { decodes = refl; same = refl }

pub verb-back : (v : Verb) → Back is_verb verb_of verb_number v
unfolding choose verb_of
verb-back Start = record { decodes = refl; same = refl }
verb-back Ready = record { decodes = refl; same = refl }
verb-back Unready = record { decodes = refl; same = refl }
verb-back Pass = record { decodes = refl; same = refl }
verb-back Crash = record { decodes = refl; same = refl }
verb-back Restart = record { decodes = refl; same = refl }
verb-back Cut = record { decodes = refl; same = refl }
verb-back Mend = record { decodes = refl; same = refl }

pub refusal-back : (r : Refusal) → Back is_refusal refusal_of number_of r
unfolding choose refusal_of
refusal-back Form = record { decodes = refl; same = refl }
refusal-back Number = record { decodes = refl; same = refl }
refusal-back Timecode = record { decodes = refl; same = refl }
refusal-back Place = record { decodes = refl; same = refl }
refusal-back Taken = record { decodes = refl; same = refl }
refusal-back Servers = record { decodes = refl; same = refl }
refusal-back Period = record { decodes = refl; same = refl }
refusal-back Identity = record { decodes = refl; same = refl }
refusal-back Short = record { decodes = refl; same = refl }
refusal-back Past = record { decodes = refl; same = refl }
refusal-back Down = record { decodes = refl; same = refl }
refusal-back Up = record { decodes = refl; same = refl }
refusal-back Role = record { decodes = refl; same = refl }
refusal-back Link = record { decodes = refl; same = refl }
refusal-back DayOver = record { decodes = refl; same = refl }
